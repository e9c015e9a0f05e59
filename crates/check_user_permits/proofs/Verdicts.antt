-- What a check answered, as a number. Assumes nothing.
use Rattle.std.proofs.Common.{◌≡◌, ℕ, List, take, drop, Result, Ok, Err, Decides, refl, arith, ◌∙◌}
use Rattle.std.proofs.lemmas.Slice.Eq.{bytes_eq-Decides}
use Rattle.std.proofs.lemmas.Bool.Decides.{nat_tests}
use Rattle.std.specs.Str.{bytes_eq}
use Rattle.user_permit.specs.Check.{check_number, Checked}
use Rattle.user_permit.specs.Lawful.{Lawful, checksum_of}
use Rattle.user_permit.specs.declared.check.CheckRefusal.{CheckRefusal}
use Rattle.user_permit.specs.declared.check.CheckRefusal.TheVariants.{Length, Character, Checksum}
use Rattle.user_permit.specs.declared.permit.UserPermit.{UserPermit}
use Rattle.check_user_permits.specs.Verdict.{verdict}

module _ (t : List ℕ) where
  agrees : Decides (bytes_eq (take 8 (drop 32 t)) (checksum_of (take 32 t))) (take 8 (drop 32 t) ≡ checksum_of (take 32 t))
  agrees = bytes_eq-Decides _ _

  pub lawful_verdict : Lawful t → 0 ≡ verdict t
  unfolding verdict
  lawful_verdict h = grind (arith, nat_tests, agrees)

  pub refused_verdict : (e : CheckRefusal) → Checked t (Err e) → check_number e ≡ verdict t
  unfolding verdict
  refused_verdict Length h = grind (arith, nat_tests)
  refused_verdict Character h = grind (arith, nat_tests)
  refused_verdict Checksum h = grind (arith, nat_tests, agrees)

  pub answered : (r : Result UserPermit CheckRefusal) (n : ℕ) → Checked t r → ((permit : UserPermit) → r ≡ Ok permit → n ≡ 0) → ((e : CheckRefusal) → r ≡ Err e → n ≡ check_number e) → n ≡ verdict t
  answered (Ok permit) n h none some = none permit refl ∙ lawful_verdict h.0
  answered (Err e) n h none some = some e refl ∙ refused_verdict e h
