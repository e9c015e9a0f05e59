-- One of the first characters replaced by another. Assumes nothing.
use Rattle.std.proofs.Common.{◌≡◌, ℕ, ◌+◌, ◌<◌, ◌≤◌, true, ◌≢◌, List, length, get_or, take, set, Err, sym, refl, ap, ◌∙◌, inl, ⊎_elim, arith, length-set, drop-set-lt}
use lib.Seq.{take-set-lt}
use Rattle.std.proofs.lemmas.List.{get_or-set_same, get_or-set_other}
use Rattle.std.proofs.lemmas.Bool.{and_parts, and_from, both_ways}
use Rattle.std.proofs.lemmas.Bool.Decides.{nat_tests}
use Rattle.octets.specs.Bytes.{every}
use Rattle.octets.specs.Hex.{is_digit}
use Rattle.octets.proofs.Each.{every_set}
use Rattle.fields.specs.ManufacturerId.{is_id_character}
use Rattle.user_permit.specs.Alteration.{Altered}
use Rattle.user_permit.specs.Check.{Checked}
use Rattle.user_permit.specs.Lawful.{Lawful, in_sets}
use Rattle.user_permit.specs.declared.check.CheckRefusal.{CheckRefusal}
use Rattle.user_permit.specs.declared.check.CheckRefusal.TheVariants.{Length, Character, Checksum}
use Rattle.permits.specs.Mistyped.{other_digit}

pub replaced : (t : List ℕ) (k c : ℕ) → k + 4 ≤ 32 → k < length t → (c ≡ get_or t k 0 → ⊥) → Altered t (set t k c)
replaced t k c low inside differs = inl (
  k,
  low,
  record {
    long = length-set t k c;
    outside = λ i out. let ne : i ≢ k = ⊎_elim (λ l. omega arith) (λ l. omega arith) out in get_or-set_other t k i c 0 ne;
    inside = λ same. differs (sym (get_or-set_same t k c 0 inside) ∙ ap (λ l. get_or l k 0) same);
  },
)

-- a digit in a digit's place leaves every character in its set
pub still_in_sets : (t : List ℕ) (k c : ℕ) → k < 40 → is_digit c ≡ true → in_sets t ≡ true → in_sets (set t k c) ≡ true
unfolding in_sets
still_in_sets t k c low digit h =
    let p = and_parts (every is_digit (take 40 t)) _ h in
    and_from _ _ (ap (every is_digit) (take-set-lt 40 t k c low) ∙ every_set is_digit (take 40 t) k c digit p.0) (ap (every is_id_character) (drop-set-lt 40 t k c low) ∙ p.1)

other_is_digit : (c : ℕ) → is_digit (other_digit c) ≡ true
other_is_digit c = grind (arith, nat_tests)

pub other_differs : (c : ℕ) → other_digit c ≡ c → ⊥
other_differs c e = grind (arith, nat_tests)

-- so it is the checksum that gives a mistyped digit away
module _ (t u : List ℕ) (h : Lawful t) (is : u ≡ set t 5 (other_digit (get_or t 5 0))) where
  pub given_away : (e : CheckRefusal) → Checked u (Err e) → e ≡ Checksum
  given_away Length not-long = absurd (not-long (ap length is ∙ length-set t 5 _ ∙ h.0))
  given_away Character outside =
      absurd (both_ways _ outside.1 (ap in_sets is ∙ still_in_sets t 5 _ (omega arith) (other_is_digit (get_or t 5 0)) h.1))
  given_away Checksum told = refl
