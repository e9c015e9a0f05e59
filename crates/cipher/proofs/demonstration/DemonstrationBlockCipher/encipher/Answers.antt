use Rattle.std.proofs.Common.{refl, arith, rules}
use Rattle.octets.proofs.Calls.{from_fn_same}
use Rattle.cipher.specs.Demonstration.{enc_block, enc_byte}
use Rattle.cipher.specs.Shift.{filled}
use Rattle.cipher.proofs.demonstration.DemonstrationBlockCipher.encipher.Goals as goal

pub returns : goal.returns
unfolding enc_block
returns c =
    let f = enc_byte c.args.self.now.key c.args.block in
    let made = c.from_fn.ensures.items in
    record { value = filled f c.from_fn.result 16 (omega arith) made.long (from_fn_same _ f _ (λ i y q call. search rules) c.from_fn.result made); examples = refl }
