-- The first line of a text, by its bytes: none of them is LF, and one is behind it or nothing. Assumes nothing.
use Rattle.std.proofs.Common.{◌≡◌, ℕ, zero, suc, ◌<◌, List, [], ◌∷◌, ◌++◌, length, get_or, take, drop, ap, ◌∙◌, le_of_suc-le-suc, not-suc-le-zero, arith}
use lib.Seq.{split_at}
use Rattle.std.proofs.lemmas.Bool.{cond-true, cond-false, eq-eqb, ne_eqb}
use Rattle.lines.specs.Lines.{prepend, lines}

-- none of the first n bytes is LF
abbrev pub Unbroken : List ℕ → ℕ → Type 0
Unbroken t n = (k : ℕ) → k < n → get_or t k 0 ≡ 10 → ⊥

-- a byte that is not LF goes on the first line
goes_on : (b : ℕ) (t : List ℕ) (n : ℕ) → Unbroken (b ∷ t) (suc n) → lines (b ∷ t) ≡ prepend b (lines t)
unfolding lines
goes_on b t n before = cond-false _ _ _ (ne_eqb b 10 (before 0 (omega arith)))

pub cut_there : (t : List ℕ) (i : ℕ) → i < length t → get_or t i 0 ≡ 10 → t ≡ take i t ++ 10 ∷ drop (suc i) t
cut_there t i h here = split_at t i 0 h ∙ ap (λ b. take i t ++ b ∷ drop (suc i) t) here

pub ended_line : (t : List ℕ) (i : ℕ) → i < length t → Unbroken t i → get_or t i 0 ≡ 10 → lines t ≡ take i t ∷ lines (drop (suc i) t)
unfolding lines
ended_line [] i h before here = absurd (not-suc-le-zero h)
ended_line (b ∷ t) zero h before here = cond-true _ _ _ (eq-eqb b 10 here)
ended_line (b ∷ t) (suc i) h before here =
    goes_on b t i before ∙ ap (prepend b) (ended_line t i (le_of_suc-le-suc h) (λ k l. before (suc k) (omega arith)) here)

pub last_line : (t : List ℕ) → 0 < length t → Unbroken t (length t) → lines t ≡ t ∷ []
unfolding lines
last_line [] h before = absurd (not-suc-le-zero h)
last_line (b ∷ []) h before = goes_on b [] 0 before
last_line (b ∷ c ∷ t) h before =
    goes_on b (c ∷ t) _ before ∙ ap (prepend b) (last_line (c ∷ t) (omega arith) (λ k l. before (suc k) (omega arith)))
