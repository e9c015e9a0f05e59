-- Making a user permit from files. Assumes nothing.
use Rattle.std.specs.Prelude.{◌≡◌, ℕ, true, false, ◌&&◌, List, Ok, Err, Result}
use Rattle.fields.specs.ManufacturerId.{is_manufacturer_id}
use Rattle.user_permit.specs.Lawful.{permit_text}
use Rattle.user_permit.specs.declared.make.MakeRefusal.{MakeRefusal}
use Rattle.user_permit.specs.declared.make.MakeRefusal.TheVariants.{Field, Output}
use Rattle.user_permit.specs.declared.permit.UserPermit.{UserPermit}
use Rattle.commands.specs.KeyFile.{is_key_file, key_in}
use Rattle.commands.specs.declared.key_file.KeyFileOr.{KeyFileOr}
use Rattle.commands.specs.declared.key_file.KeyFileOr.TheVariants.{KeyFile, Call}

-- Two key files and a lawful manufacturer ID make the user permit of the one key under the other. The files are tried
-- before the ID, and nothing else can be refused.
abbrev pub Makes : (List ℕ → List ℕ → List ℕ) → List ℕ → List ℕ → List ℕ → Result UserPermit (KeyFileOr MakeRefusal) → Type 0
Makes E id key hardware (Ok permit) =
    ((is_key_file key && is_key_file hardware) ≡ true) × (is_manufacturer_id id ≡ true) × (permit.text ≡ permit_text (E (key_in key) (key_in hardware)) id)
Makes E id key hardware (Err (KeyFile fault)) = (is_key_file key && is_key_file hardware) ≡ false
Makes E id key hardware (Err (Call (Field fault))) =
    ((is_key_file key && is_key_file hardware) ≡ true) × (is_manufacturer_id id ≡ false)
Makes E id key hardware (Err (Call (Output short))) = ⊥
