-- Bytes that were altered within one stretch. Assumes nothing.
use Rattle.std.specs.Prelude.{◌≡◌, ℕ, ◌+◌, ◌<◌, ◌≤◌, ◌⊎◌, List, length, slice_index}

-- u is t with something altered, all of it among the n places from k on
pub record AlteredAt (k n : ℕ) (t u : List ℕ) : Type 0 where
  pub long : length u ≡ length t
  pub outside : (i : ℕ) → (i < k) ⊎ (k + n ≤ i) → slice_index u i ≡ slice_index t i
  pub inside : u ≡ t → ⊥
