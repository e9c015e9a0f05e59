use Rattle.std.proofs.Common.{◌≡◌, ℕ, ◌*◌, List, replicate, Result, sym, ap, ◌∙◌, subst, arith, rules}
use Rattle.std.proofs.lemmas.Grind.{common_steps}
use Rattle.std.proofs.lemmas.Bool.Decides.{nat_tests}
use Rattle.octets.specs.Bytes.{Bytes}
use Rattle.octets.specs.Hex.{hex, Digits}
use Rattle.octets.specs.Output.{Writes, fitted}
use Rattle.octets.specs.declared.output.TooShort.{TooShort}
use Rattle.octets.proofs.Digits.{length-hex, hex_is_digits}
use Rattle.octets.proofs.Fits.{fills}
use Rattle.check_aes.proofs.hex_text.digits_of.Goals as goal

-- 32 places hold the digits of a block, and nothing else
whole : (r : Result ℕ TooShort) (bytes out : List ℕ) → Bytes 16 bytes → Writes (fitted (hex bytes) 32) r (replicate 32 0) out → out ≡ hex bytes
whole r bytes out block = fills r (hex bytes) (replicate 32 0) out (length-hex bytes ∙ ap (λ n. 2 * n) block.long)

pub unwrap-requires : goal.unwrap-requires
unwrap-requires c = grind (arith, common_steps, nat_tests, length-hex)

pub returns : goal.returns
returns c =
    let block : Bytes 16 c.args.block = search rules in
    let value = whole _ _ _ block c.encode.ensures in
    record {
      value = value;
      hexadecimal = subst Digits (sym value) (hex_is_digits _ block.small);
    }
