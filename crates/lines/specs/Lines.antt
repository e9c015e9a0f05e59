-- The lines of a text. Assumes nothing.
use Rattle.std.specs.Prelude.{◌≡◌, ℕ, cond, ◌⊎◌, List, [], ◌∷◌, ◌++◌, ◌==◌}

-- a text that is cut behind the LF of its first line, or has no more than that line
abbrev pub Cut : List ℕ → List ℕ → List ℕ → Type 0
Cut t line rest = (t ≡ line ++ 10 ∷ rest) ⊎ ((t ≡ line) × (rest ≡ []))

-- a byte at the front of the first line, or a line of its own where there is none
abbrev pub prepend : ℕ → List (List ℕ) → List (List ℕ)
prepend b [] = (b ∷ []) ∷ []
prepend b (line ∷ more) = (b ∷ line) ∷ more

-- LF, the byte 10, ends a line; behind the last one it may be missing
unfoldable pub lines : List ℕ → List (List ℕ)
lines [] = []
lines (b ∷ t) = cond (b == 10) ([] ∷ lines t) (prepend b (lines t))
