-- Lists of bytes, and what is between them. Assumes nothing.
use Rattle.std.specs.Prelude.{◌≡◌, ℕ, ◌<◌, Bool, true, ◌&&◌, List, [], ◌∷◌, length, bit_xor, slice_index}

-- every element is a byte; what is read past the end is one too
abbrev pub Small : List ℕ → Type 0
Small xs = (i : ℕ) → slice_index xs i < 256

-- n bytes
pub record Bytes (n : ℕ) (xs : List ℕ) : Type 0 where
  pub long : length xs ≡ n
  pub small : Small xs

-- a test passes at each element
unfoldable pub every : (ℕ → Bool) → List ℕ → Bool
every test [] = true
every test (x ∷ xs) = test x && every test xs

infixl 40 ◌⊕◌
-- exclusive or, place by place
abbrev pub ◌⊕◌ : List ℕ → List ℕ → List ℕ
[] ⊕ ys = []
(x ∷ xs) ⊕ [] = []
(x ∷ xs) ⊕ (y ∷ ys) = bit_xor x y ∷ (xs ⊕ ys)
