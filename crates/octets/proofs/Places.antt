-- Parts of two texts that agree place by place. Assumes nothing.
use Rattle.std.proofs.Common.{◌≡◌, ℕ, ◌+◌, ◌<◌, ◌≤◌, List, ◌++◌, length, get_or, take, drop, sym, ◌∙◌, ap₂, arith, length-drop, take-append-drop, length-take}
use Rattle.std.proofs.lemmas.List.{ext_get_or, get_or-take, get_or-drop}

pub same_before : (k : ℕ) (t u : List ℕ) → length t ≡ length u → ((i : ℕ) → i < k → get_or t i 0 ≡ get_or u i 0) → take k t ≡ take k u
same_before k t u l same =
    ext_get_or 0 (take k t) (take k u) (simp length-take (omega arith))
    (λ i h. let lt : i < k = omega (arith, length-take k t) in simp get_or-take (same i lt))

pub same_from : (k : ℕ) (t u : List ℕ) → length t ≡ length u → ((i : ℕ) → k ≤ i → get_or t i 0 ≡ get_or u i 0) → drop k t ≡ drop k u
same_from k t u l same =
    ext_get_or 0 (drop k t) (drop k u) (simp length-drop (omega arith)) (λ i h. simp get_or-drop (same (k + i) (omega arith)))

pub same_whole : (k : ℕ) (t u : List ℕ) → take k t ≡ take k u → drop k t ≡ drop k u → t ≡ u
same_whole k t u front rest = sym (take-append-drop k t) ∙ ap₂ (λ x y. x ++ y) front rest ∙ take-append-drop k u
