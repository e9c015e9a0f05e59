-- The line of a test vector. Assumes nothing.
use Rattle.std.specs.Prelude.{◌≡◌, ℕ, ◌+◌, ◌*◌, Bool, true, false, ◌&&◌, List, length, take, drop, Option, MatchOption, ◌==◌, slice_index}
use Rattle.octets.specs.Bytes.{every}
use Rattle.octets.specs.Hex.{is_digit, unhex}
use Rattle.check_aes.specs.declared.vector.Vector.{Vector}

-- 4 digits, a space, 32 digits, a space, 32 digits
unfoldable pub is_vector : List ℕ → Bool
is_vector line =
    (length line == 70) && slice_index line 4 == 32 && slice_index line 37 == 32
    && every is_digit (take 4 line) && every is_digit (take 32 (drop 5 line)) && every is_digit (take 32 (drop 38 line))

-- the number of two bytes, the higher first
abbrev pub number : List ℕ → ℕ
number bytes = slice_index bytes 0 * 256 + slice_index bytes 1

abbrev pub count_of : List ℕ → ℕ
count_of line = number (unhex (take 4 line))

abbrev pub key_of : List ℕ → List ℕ
key_of line = unhex (take 32 (drop 5 line))

abbrev pub block_of : List ℕ → List ℕ
block_of line = unhex (take 32 (drop 38 line))

-- the vector of a line, and none only where the line is of another form
abbrev pub Reads : List ℕ → Option Vector → Type 0
Reads line r =
    MatchOption r (is_vector line ≡ false)
    (λ v. (is_vector line ≡ true) × (v.count ≡ count_of line) × (v.key ≡ key_of line) × (v.block ≡ block_of line))
