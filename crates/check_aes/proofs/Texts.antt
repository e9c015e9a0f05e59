-- Digits are text. Assumes nothing.
use Rattle.std.proofs.Common.{◌≡◌, ℕ, ◌<◌, true, List, length, IsUtf8, arith}
use Rattle.std.proofs.lemmas.Str.Ascii.{IsAscii-from_reads}
use Rattle.std.proofs.lemmas.Str.{IsUtf8-from_ascii}
use Rattle.std.proofs.lemmas.Bool.Decides.{nat_tests}
use Rattle.octets.specs.Hex.{is_digit, Digits}
use Rattle.octets.proofs.Each.{every-at}

digit_ascii : (c : ℕ) → is_digit c ≡ true → c < 128
digit_ascii c h = grind (arith, nat_tests)

pub digits_utf8 : (t : List ℕ) → Digits t → IsUtf8 t
digits_utf8 t all =
    IsUtf8-from_ascii t (IsAscii-from_reads t (length t) (omega arith) (λ k h. digit_ascii _ (every-at is_digit t k h all)))
