-- Bytes as polynomials over two elements: bit i is the coefficient of x ^ i, a sum is exclusive or, and a product is
-- taken modulo x ^ 8 + x ^ 4 + x ^ 3 + x + 1, which is 11B hex. Assumes nothing.
use Rattle.std.specs.Prelude.{ℕ, zero, suc, ◌*◌, ◌/◌, ◌%◌, Bool, true, false, List, [], ◌∷◌, bit_xor, nat_eq}
use Rattle.std.specs.List.{range_with_len}

-- x times b; where that has a bit 8, the modulus is added
unfoldable pub times_x : ℕ → ℕ
times_x b = bit_xor (2 * b) (b / 128 * 0x11B)

-- the sum of b, x times b, x times x times b, and so on, for those of the n lowest bits of a that are 1
unfoldable pub product : ℕ → ℕ → ℕ → ℕ
product zero a b = 0
product (suc n) a b = bit_xor (a % 2 * b) (product n (a / 2) (times_x b))

infixl 70 ◌·◌
abbrev pub ◌·◌ : ℕ → ℕ → ℕ
a · b = product 8 a b

-- b to the power n
unfoldable pub power : ℕ → ℕ → ℕ
power b zero = 1
power b (suc n) = b · power b n

-- the first number of a list that passes a test, and 0 if none does
unfoldable pub first : (ℕ → Bool) → List ℕ → ℕ
first test [] = 0
first test (x ∷ xs) = elim (test x) [ true ↦ x | false ↦ first test xs ]

-- the byte by which b gives 1, and 0 for 0
unfoldable pub inverse : ℕ → ℕ
inverse b = first (λ y. nat_eq (b · y) 1) (range_with_len 0 256)
