-- Sealing under the key of a key file. Assumes nothing.
use Rattle.std.specs.Prelude.{ℕ, cond, List, Some, Option}
use Rattle.std.specs.Option.{option_map}
use Rattle.sealing.specs.Seal.{seal_refused}
use Rattle.commands.specs.KeyFile.{is_key_file}
use Rattle.sealing.specs.declared.seal.SealRefusal.{SealRefusal}
use Rattle.commands.specs.declared.key_file.KeyFileOr.{KeyFileOr}
use Rattle.commands.specs.declared.key_file.KeyFileOr.TheVariants.{KeyFile, Call}

-- why a dataset of this length is not sealed into so many places, if it is not: the key file comes first
abbrev pub not_sealed : List ℕ → ℕ → ℕ → Option (KeyFileOr SealRefusal)
not_sealed key long places = cond (is_key_file key) (option_map Call (seal_refused long places)) (Some (KeyFile (record {})))
