-- The S-box: a byte's inverse, and then an affine map of its bits. Assumes nothing.
use Rattle.std.specs.Prelude.{ℕ, ◌+◌, ◌*◌, ◌/◌, ◌%◌, ◌^◌, nat_eq}
use Rattle.std.specs.List.{range_with_len}
use Rattle.aes.specs.Polynomials.{first, inverse}

abbrev pub bit : ℕ → ℕ → ℕ
bit b i = b / 2 ^ (i % 8) % 2

-- the byte with these bits
abbrev pub byte : (ℕ → ℕ) → ℕ
byte f = f 0 + 2 * f 1 + 4 * f 2 + 8 * f 3 + 16 * f 4 + 32 * f 5 + 64 * f 6 + 128 * f 7

unfoldable pub affine : ℕ → ℕ
affine b = byte (λ i. (bit b i + bit b (i + 4) + bit b (i + 5) + bit b (i + 6) + bit b (i + 7) + bit 0x63 i) % 2)

unfoldable pub s_box : ℕ → ℕ
s_box x = affine (inverse x)

-- the byte that S takes to y
unfoldable pub inv_s_box : ℕ → ℕ
inv_s_box y = first (λ x. nat_eq (s_box x) y) (range_with_len 0 256)
