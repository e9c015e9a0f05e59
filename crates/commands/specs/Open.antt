-- Opening under the key of a key file. Assumes nothing.
use Rattle.std.specs.Prelude.{ℕ, cond, List, Ok, Err, Result}
use Rattle.sealing.specs.Open.{opening}
use Rattle.sealing.specs.declared.open.OpenRefusal.{OpenRefusal}
use Rattle.commands.specs.KeyFile.{is_key_file, key_in}
use Rattle.commands.specs.declared.key_file.KeyFileOr.{KeyFileOr}
use Rattle.commands.specs.declared.key_file.KeyFileOr.TheVariants.{KeyFile, Call}

abbrev pub opened : Result (List ℕ) OpenRefusal → Result (List ℕ) (KeyFileOr OpenRefusal)
opened (Ok dataset) = Ok dataset
opened (Err refusal) = Err (Call refusal)

-- the key file is tried before the sealed bytes
abbrev pub opening_with_file : (List ℕ → List ℕ → List ℕ) → List ℕ → List ℕ → ℕ → Result (List ℕ) (KeyFileOr OpenRefusal)
opening_with_file D key sealed places = cond (is_key_file key) (opened (opening D (key_in key) sealed places)) (Err (KeyFile (record {})))
