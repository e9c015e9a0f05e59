-- An array of what a closure gives at each place, where the closure changes nothing that it captures. Assumes nothing.
use Rattle.std.proofs.Common.{◌≡◌, ℕ, zero, suc, ◌+◌, ◌<◌, List, get_or, sym, ap, ◌∙◌, subst, arith}
use Rattle.std.specs.Array.{IsFromFnResult, IsFromFnResultFrom}
use Rattle.std.specs.Fn.{Called}
use denote.Param.Members.{Mut}

module _ {F : Type 0} (g : Mut F (ℕ × Unit {0}) ℕ) (h : ℕ → ℕ) (f : F) (gives : (i y : ℕ) (q : F) → Called g f (i, tt) y q → (y ≡ h i) × (q ≡ f)) (ys : List ℕ) where
  from : (n i k : ℕ) → IsFromFnResultFrom g f ys i n → k < n → get_or ys (i + k) 0 ≡ h (i + k)
  from zero i k all lt = absurd (omega arith)
  from (suc n) i zero (q, y, is, call, rest) lt =
      let here : i + 0 ≡ i = omega arith in
      ap (λ j. get_or ys j 0) here ∙ is.1 0 ∙ (gives i y q call).0 ∙ ap h (sym here)
  from (suc n) i (suc k) (q, y, is, call, rest) lt =
      let on : i + 1 + k ≡ i + suc k = omega arith in
      subst (λ j. get_or ys j 0 ≡ h j) on (from n (i + 1) k (subst (λ p. IsFromFnResultFrom g p ys (i + 1) n) (gives i y q call).1 rest) (omega arith))

  pub from_fn_same : {n : ℕ} → IsFromFnResult g f ys n → (k : ℕ) → k < n → get_or ys k 0 ≡ h k
  from_fn_same {n} all k lt = let here : 0 + k ≡ k = omega arith in subst (λ j. get_or ys j 0 ≡ h j) here (from n 0 k all.each lt)
