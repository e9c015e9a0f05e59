-- A call that takes its key from a file, refused. Assumes nothing.
use Rattle.std.specs.Prelude.{ℕ, List, Some, Option}
use Rattle.commands.specs.KeyFile.{key_file_number, key_file_words}
use Rattle.commands.specs.declared.key_file.KeyFileOr.{KeyFileOr}
use Rattle.commands.specs.declared.key_file.KeyFileOr.TheVariants.{KeyFile, Call}

-- the number of the file's fault, or of the call's own refusal
abbrev pub key_file_or_number : {R : Type 0} → (R → ℕ) → KeyFileOr R → ℕ
key_file_or_number number (KeyFile fault) = key_file_number fault
key_file_or_number number (Call refusal) = number refusal

-- and the words
abbrev pub key_file_or_words : {R : Type 0} → (R → Option (List ℕ)) → KeyFileOr R → Option (List ℕ)
key_file_or_words words (KeyFile fault) = Some (key_file_words fault)
key_file_or_words words (Call refusal) = words refusal
