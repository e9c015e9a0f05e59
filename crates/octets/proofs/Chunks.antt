-- A list cut into pieces of one length. Assumes nothing.
use Rattle.std.proofs.Common.{◌≡◌, ℕ, zero, suc, ◌+◌, ◌*◌, ◌<◌, List, [], get_or, take, drop, sym, ap, ◌∙◌, arith}
use Rattle.std.proofs.Math.Nat.{add_comm, mul-suc}
use Rattle.std.proofs.lemmas.List.{drop-drop, get_or-take, get_or-drop}
use Rattle.std.specs.Simd.{first_chunks}

module _ {X : Type 0} (n : ℕ) where
  -- piece i, from 0
  pub chunk_at : (k : ℕ) (xs : List X) (i : ℕ) → i < k → get_or (first_chunks n k xs) i [] ≡ take n (drop (n * i) xs)
  chunk_at zero xs i lt = absurd (omega arith)
  chunk_at (suc k) xs zero lt = let none : 0 ≡ n * 0 = omega arith in ap (λ m. take n (drop m xs)) none
  chunk_at (suc k) xs (suc i) lt =
      chunk_at k (drop n xs) i (omega arith) ∙ ap (take n) (drop-drop (n * i) n xs) ∙ ap (λ m. take n (drop m xs)) (add_comm n (n * i) ∙ sym (mul-suc n i))

  -- and what it has at place j
  pub in_chunk : (k : ℕ) (xs : List X) (cs : List (List X)) (i j : ℕ) (d : X) → cs ≡ first_chunks n k xs → i < k → j < n → get_or (get_or cs i []) j d ≡ get_or xs (n * i + j) d
  in_chunk k xs cs i j d so lt within =
      ap (λ l. get_or (get_or l i []) j d) so ∙ ap (λ c. get_or c j d) (chunk_at k xs i lt) ∙ get_or-take n (drop (n * i) xs) j d within ∙ get_or-drop (n * i) xs j d
