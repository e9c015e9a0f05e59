-- CRC-32 of ISO/IEC 13239, a bit at a time: the register is reflected, so that its lowest bit leaves it first.
-- Assumes nothing.
use Rattle.std.specs.Prelude.{◌≡◌, ℕ, zero, suc, ◌*◌, ◌/◌, ◌%◌, List, [], ◌∷◌, map, codes, fold, bit_xor}

abbrev pub polynomial : ℕ
polynomial = 0xEDB8_8320

-- the register at the start, and what goes over it at the end
abbrev pub all_ones : ℕ
all_ones = 0xFFFF_FFFF

-- the register one bit on: where the bit that leaves it is 1, the polynomial goes in
unfoldable pub shifted : ℕ → ℕ
shifted r = bit_xor (r / 2) (r % 2 * polynomial)

-- the register n bits on
unfoldable pub shifts : ℕ → ℕ → ℕ
shifts zero r = r
shifts (suc n) r = shifts n (shifted r)

-- a byte goes in at the lowest eight bits
unfoldable pub byte_in : ℕ → ℕ → ℕ
byte_in r b = shifts 8 (bit_xor r b)

-- the register after each byte of a text
unfoldable pub register : ℕ → List ℕ → ℕ
register r bs = fold byte_in r bs

unfoldable pub crc32 : List ℕ → ℕ
crc32 bs = bit_xor (register all_ones bs) all_ones

abbrev pub Examples : Type 0
Examples = map crc32 (codes "123456789" ∷ codes "" ∷ []) ≡ 0xCBF4_3926 ∷ 0 ∷ []
