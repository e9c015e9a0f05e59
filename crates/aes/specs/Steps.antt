-- What a round does to the state, and what undoes it. Assumes nothing.
use Rattle.std.specs.Prelude.{ℕ, ◌+◌, ◌-◌, ◌*◌, ◌/◌, ◌%◌, List, [], map, get_or, bit_xor, slice_index, slice_index_or}
use Rattle.std.specs.List.{range_with_len}
use Rattle.octets.specs.Bytes.{◌⊕◌}
use Rattle.aes.specs.Polynomials.{◌·◌}
use Rattle.aes.specs.Substitution.{s_box, inv_s_box}

-- A word is four bytes, and the state is four words: its columns.
abbrev pub word : (ℕ → ℕ) → List ℕ
word f = map f (range_with_len 0 4)

abbrev pub State : Type 0
State = List (List ℕ)

-- the state with these columns, and the one with these bytes in each column and row
abbrev pub columns : (ℕ → List ℕ) → State
columns f = map f (range_with_len 0 4)

abbrev pub square : (ℕ → ℕ → ℕ) → State
square f = columns (λ c. word (f c))

-- the byte in column c and row r
abbrev pub at : State → ℕ → ℕ → ℕ
at s c r = slice_index (slice_index_or s c []) r

-- a block fills the state column by column
unfoldable pub state : List ℕ → State
state b = square (λ c r. slice_index b (4 * c + r))

unfoldable pub block : State → List ℕ
block s = map (λ i. at s (i / 4) (i % 4)) (range_with_len 0 16)

-- each byte of a word, and of the state
abbrev pub sub_word : List ℕ → List ℕ
sub_word w = word (λ r. s_box (slice_index w r))

abbrev pub inv_sub_word : List ℕ → List ℕ
inv_sub_word w = word (λ r. inv_s_box (slice_index w r))

unfoldable pub sub_bytes : State → State
sub_bytes s = columns (λ c. sub_word (slice_index_or s c []))

unfoldable pub inv_sub_bytes : State → State
inv_sub_bytes s = columns (λ c. inv_sub_word (slice_index_or s c []))

-- row r turns left by r places, and right
unfoldable pub shift_rows : State → State
shift_rows s = square (λ c r. at s ((c + r) % 4) r)

unfoldable pub inv_shift_rows : State → State
inv_shift_rows s = square (λ c r. at s ((c + 4 - r) % 4) r)

-- a column times the matrix with these coefficients in its first row, and in each row those above turned right by a place
unfoldable pub mixed : ℕ → ℕ → ℕ → ℕ → List ℕ → List ℕ
mixed k l m n w =
    word (λ r.
    let a : ℕ → ℕ = λ j. get_or w ((r + j) % 4) 0 in bit_xor (bit_xor (bit_xor (k · a 0) (l · a 1)) (m · a 2)) (n · a 3))

unfoldable pub mix_columns : State → State
mix_columns s = columns (λ c. mixed 2 3 1 1 (slice_index_or s c []))

unfoldable pub inv_mix_columns : State → State
inv_mix_columns s = columns (λ c. mixed 0x0E 0x0B 0x0D 0x09 (slice_index_or s c []))

-- column by column; it undoes itself
unfoldable pub add_round_key : State → State → State
add_round_key s k = columns (λ c. get_or s c [] ⊕ get_or k c [])
