-- What making a user permit means. Assumes nothing.
use Rattle.std.specs.Prelude.{ℕ, cond, List, Ok, Err, codes, Result, nat_le}
use Rattle.octets.specs.Output.{short_number}
use Rattle.fields.specs.Fault.{fault_number}
use Rattle.fields.specs.ManufacturerId.{is_manufacturer_id}
use Rattle.user_permit.specs.Lawful.{permit_text}
use Rattle.user_permit.specs.declared.make.MakeRefusal.{MakeRefusal}
use Rattle.user_permit.specs.declared.make.MakeRefusal.TheVariants.{Field, Output}

abbrev pub make_number : MakeRefusal → ℕ
make_number (Field fault) = fault_number fault
make_number (Output short) = short_number short

abbrev pub make_words : MakeRefusal → List ℕ
make_words (Field fault) = codes "a manufacturer ID has six characters of 0 to 9 and A to Z"
make_words (Output short) = codes "the output has no room for 46 characters"

-- E under the manufacturer key makes the text; the ID's rule is tried before the output's room
abbrev pub making : (List ℕ → List ℕ → List ℕ) → List ℕ → List ℕ → List ℕ → ℕ → Result (List ℕ) MakeRefusal
making E id key hardware room =
    cond (is_manufacturer_id id) (cond (nat_le 46 room) (Ok (permit_text (E key hardware) id)) (Err (Output (record {})))) (Err (Field (record {})))
