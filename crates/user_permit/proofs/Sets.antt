-- The characters of a user permit's text, part by part. Assumes nothing.
use Rattle.std.proofs.Common.{◌≡◌, ℕ, ◌+◌, ◌-◌, ◌<◌, true, false, List, get_or, take, drop, IsUtf8, ap, ◌∙◌, subst, ⊎_elim, arith, length-drop, length-take, take-add}
use Rattle.std.proofs.lemmas.Str.Ascii.{IsAscii-from_reads}
use Rattle.std.proofs.lemmas.List.{get_or-take, get_or-drop}
use Rattle.std.proofs.lemmas.Bool.{and_parts, and_from, cases_Bool, cases_lt}
use Rattle.std.proofs.lemmas.Str.{IsUtf8-from_ascii}
use Rattle.std.proofs.lemmas.Bool.Decides.{nat_tests}
use Rattle.octets.specs.Bytes.{every, Small}
use Rattle.octets.specs.Hex.{Digits, is_digit, hex}
use Rattle.octets.proofs.Digits.{hex_is_digits}
use Rattle.octets.proofs.Each.{every-at, every_append, every_parts}
use Rattle.fields.specs.ManufacturerId.{is_id_character}
use Rattle.user_permit.specs.Lawful.{Lawful, in_sets}

-- the three parts of a text, each in its set
pub record InParts (t : List ℕ) : Type 0 where
  pub encrypted : Digits (take 32 t)
  pub checksum : Digits (take 8 (drop 32 t))
  pub manufacturer : every is_id_character (drop 40 t) ≡ true

pub in_parts : (t : List ℕ) → in_sets t ≡ true → InParts t
unfolding in_sets
in_parts t h =
    let p = and_parts (every is_digit (take 40 t)) _ h in
    let q = every_parts is_digit (take 32 t) (take 8 (drop 32 t)) (subst (λ l. every is_digit l ≡ true) (take-add 32 8 t) p.0) in
    record { encrypted = q.0; checksum = q.1; manufacturer = p.1 }

pub from_parts : (t : List ℕ) → InParts t → in_sets t ≡ true
unfolding in_sets
from_parts t h =
    and_from _ _ (ap (every is_digit) (take-add 32 8 t) ∙ every_append is_digit (take 32 t) (take 8 (drop 32 t)) h.encrypted h.checksum) h.manufacturer

-- where a part is outside its set, the text is
pub outside : (t : List ℕ) → (InParts t → ⊥) → in_sets t ≡ false
outside t no-parts = ⊎_elim (λ inside. absurd (no-parts (in_parts t inside))) (λ out. out) (cases_Bool (in_sets t))

-- the digits of bytes
pub digits_of : (t bs : List ℕ) → Small bs → hex bs ≡ t → Digits t
digits_of t bs small e = subst Digits e (hex_is_digits bs small)

-- every character is ASCII, so the text is UTF-8
pub digit_ascii : (c : ℕ) → is_digit c ≡ true → c < 128
digit_ascii c h = grind (arith, nat_tests)

id_ascii : (c : ℕ) → is_id_character c ≡ true → c < 128
id_ascii c h = grind (arith, nat_tests)

pub permit_utf8 : (t : List ℕ) → Lawful t → IsUtf8 t
unfolding in_sets
permit_utf8 t h =
    let p = and_parts (every is_digit (take 40 t)) _ h.1 in
    let long = h.0 in
    let lt = length-take 40 t in
    let ld = length-drop 40 t in
    IsUtf8-from_ascii t (IsAscii-from_reads t 46 (omega arith) (λ k lt46.
    ⊎_elim
    (λ front. subst (λ c. c < 128) (get_or-take 40 t k 0 front) (digit_ascii _ (every-at is_digit (take 40 t) k (omega arith) p.0)))
    (λ back. let there : 40 + (k - 40) ≡ k = omega arith in
    subst (λ c. c < 128) (get_or-drop 40 t (k - 40) 0 ∙ ap (λ i. get_or t i 0) there) (id_ascii _ (every-at is_id_character (drop 40 t) (k - 40) (omega arith) p.1)))
    (cases_lt k 40)))
