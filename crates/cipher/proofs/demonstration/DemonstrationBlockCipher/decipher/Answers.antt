use Rattle.std.proofs.Common.{arith, rules}
use Rattle.octets.proofs.Calls.{from_fn_same}
use Rattle.cipher.specs.Demonstration.{dec_block, dec_byte}
use Rattle.cipher.specs.Shift.{filled}
use Rattle.cipher.proofs.demonstration.DemonstrationBlockCipher.decipher.Goals as goal

pub returns : goal.returns
unfolding dec_block
returns c =
    let f = dec_byte c.args.self.now.key c.args.block in
    let made = c.from_fn.ensures.items in
    filled f c.from_fn.result 16 (omega arith) made.long (from_fn_same _ f _ (λ i y q call. search rules) c.from_fn.result made)
