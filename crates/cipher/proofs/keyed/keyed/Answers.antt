use Rattle.octets.specs.Bytes.{Bytes}
use Rattle.cipher.specs.Keyed.{Keyed}
use Rattle.cipher.proofs.keyed.keyed.Goals as goal

pub returns : goal.returns
unfolding Keyed
returns g c =
    let key = c.args.key.now in
    let sixteen : Bytes 16 key = record { long = c.told-key; small = c.fits-key } in
    record {
      kept = c.new.ensures;
      lawful = record {
        deciphered = λ b. g.met.C.BlockCipher.deciphered key b sixteen;
        enciphered = λ b. g.met.C.BlockCipher.enciphered key b sixteen;
        enc_sixteen = λ b. g.met.C.BlockCipher.enc_sixteen key b sixteen;
        dec_sixteen = λ b. g.met.C.BlockCipher.dec_sixteen key b sixteen;
      };
    }
