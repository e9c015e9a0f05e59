-- A test at each element of a list. Assumes nothing.
use Rattle.std.proofs.Common.{◌≡◌, ℕ, ◌+◌, ◌<◌, ◌≤◌, Bool, true, ◌&&◌, List, [], ◌∷◌, ◌++◌, length, get_or, drop, set, sym, refl, ap, ◌∙◌}
use Rattle.std.proofs.lemmas.List.{at_drop_more, at_drop_all}
use Rattle.std.proofs.lemmas.Bool.{and_parts, and_from}
use Rattle.std.proofs.lemmas.List.Recursion.{same_from_clauses, and_at, and_set}
use Rattle.std.specs.List.{list_all}
use Rattle.octets.specs.Bytes.{every}

module _ (test : ℕ → Bool) where
  pub list-all_is_every : (xs : List ℕ) → list_all test xs ≡ every test xs
  unfolding every
  list-all_is_every = same_from_clauses (list_all test) (every test) (λ x b. test x && b) refl (λ x xs. refl) (λ x xs. refl)

  pub every-at : (xs : List ℕ) (i : ℕ) → i < length xs → every test xs ≡ true → test (get_or xs i 0) ≡ true
  unfolding every
  every-at xs i = and_at (every test) test refl (λ x xs. refl) xs i 0

  pub every_set : (xs : List ℕ) (i x : ℕ) → test x ≡ true → every test xs ≡ true → every test (set xs i x) ≡ true
  unfolding every
  every_set = and_set (every test) test refl (λ x xs. refl)

  pub every_append : (xs ys : List ℕ) → every test xs ≡ true → every test ys ≡ true → every test (xs ++ ys) ≡ true
  unfolding every
  every_append [] ys h k = k
  every_append (x ∷ xs) ys h k = let p = and_parts (test x) _ h in and_from _ _ p.0 (every_append xs ys p.1 k)

  pub every_parts : (xs ys : List ℕ) → every test (xs ++ ys) ≡ true → (every test xs ≡ true) × (every test ys ≡ true)
  unfolding every
  every_parts [] ys h = (refl, h)
  every_parts (x ∷ xs) ys h =
      let p = and_parts (test x) _ h in
      let q = every_parts xs ys p.1 in
      (and_from _ _ p.0 q.0, q.1)

  -- a loop over the elements: one step on, and at the end
  pub every_more : (xs : List ℕ) (i : ℕ) (b : Bool) → i < length xs → b ≡ test (get_or xs i 0) → (b && every test (drop (i + 1) xs)) ≡ every test (drop i xs)
  unfolding every
  every_more xs i b h told = ap (λ x. x && every test (drop (i + 1) xs)) told ∙ sym (at_drop_more (every test) xs i 0 h)

  pub every_all : (xs : List ℕ) (i : ℕ) → length xs ≤ i → every test (drop i xs) ≡ true
  unfolding every
  every_all xs i h = at_drop_all (every test) xs i h
