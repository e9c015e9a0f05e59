-- What a check answers. Assumes nothing.
use Rattle.std.specs.Prelude.{◌≡◌, ℕ, true, false, List, length, take, drop, Ok, Err, codes, Option, Result, MatchOption, ◌≢◌}
use Rattle.octets.specs.Bytes.{Bytes}
use Rattle.octets.specs.Hex.{hex, unhex}
use Rattle.user_permit.specs.Lawful.{Lawful, in_sets, checksum_of}
use Rattle.user_permit.specs.declared.check.CheckRefusal.{CheckRefusal}
use Rattle.user_permit.specs.declared.check.CheckRefusal.TheVariants.{Length, Character, Checksum}
use Rattle.user_permit.specs.declared.check.Parts.{Parts}
use Rattle.user_permit.specs.declared.permit.UserPermit.{UserPermit}

abbrev pub check_number : CheckRefusal → ℕ
check_number Length = 1
check_number Character = 2
check_number Checksum = 3

abbrev pub check_words : CheckRefusal → List ℕ
check_words Length = codes "a user permit has 46 characters"
check_words Character = codes "a character of the user permit is outside its set"
check_words Checksum = codes "the checksum of the user permit disagrees"

-- the parts of a text of 46 characters, and none only if a character is outside its set
pub record PartsOf (t : List ℕ) (p : Parts) : Type 0 where
  pub inside : in_sets t ≡ true
  pub encrypted : unhex (take 32 t) ≡ p.encrypted
  pub checksum : Bytes 4 p.checksum × (hex p.checksum ≡ take 8 (drop 32 t))
  pub manufacturer : p.manufacturer.text ≡ drop 40 t

abbrev pub Parted : List ℕ → Option Parts → Type 0
Parted t r = MatchOption r (in_sets t ≡ false) (PartsOf t)

-- Exactly the lawful texts are checked, and keep their text; any other is refused by the first test that it fails.
abbrev pub Checked : List ℕ → Result UserPermit CheckRefusal → Type 0
Checked t (Ok permit) = Lawful t × (permit.text ≡ t)
Checked t (Err Length) = length t ≡ 46 → ⊥
Checked t (Err Character) = (length t ≡ 46) × (in_sets t ≡ false)
Checked t (Err Checksum) = (length t ≡ 46) × (in_sets t ≡ true) × (take 8 (drop 32 t) ≢ checksum_of (take 32 t))
