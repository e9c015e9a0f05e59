-- A file that holds a key. Assumes nothing.
use Rattle.std.specs.Prelude.{◌≡◌, ℕ, ◌-◌, Bool, true, false, cond, ◌&&◌, List, length, take, Ok, Err, codes, Result, ◌==◌, slice_index}
use Rattle.octets.specs.Bytes.{every}
use Rattle.octets.specs.Hex.{is_digit, unhex}
use Rattle.fields.specs.Fault.{fault_number}
use Rattle.commands.specs.declared.key_file.KeyFileFault.{KeyFileFault}

-- it is a field that breaks its rule
abbrev pub key_file_number : KeyFileFault → ℕ
key_file_number f = fault_number (record {})

abbrev pub key_file_words : KeyFileFault → List ℕ
key_file_words f = codes "a key file holds 32 hexadecimal digits, 0 to 9 and A to F"

-- a text without the line feed that may stand behind it
abbrev pub unended : List ℕ → List ℕ
unended t = cond (slice_index t (length t - 1) == 10) (take (length t - 1) t) t

-- 32 digits
unfoldable pub is_key_file : List ℕ → Bool
is_key_file t = length (unended t) == 32 && every is_digit (unended t)

-- the sixteen bytes that they stand for
unfoldable pub key_in : List ℕ → List ℕ
key_in t = unhex (unended t)

abbrev pub ReadsKey : List ℕ → Result (List ℕ) KeyFileFault → Type 0
ReadsKey t (Ok key) = (is_key_file t ≡ true) × (key ≡ key_in t)
ReadsKey t (Err fault) = is_key_file t ≡ false
