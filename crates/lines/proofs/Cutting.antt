-- The first line of a text, and how many there are. Assumes nothing.
use Rattle.std.proofs.Common.{◌≡◌, ℕ, ◌+◌, ◌<◌, ◌≤◌, Bool, List, [], ◌∷◌, length, take, drop, position, Option, Some, None, ◌==◌, sym, ap₂, ◌∙◌, arith}
use Rattle.std.proofs.lemmas.List.{take_all, drop_all}
use Rattle.std.specs.List.{position_or_len}
use Rattle.std.specs.Option.{unwrap_or}
use Rattle.std.proofs.lemmas.Bool.Decides.{nat_tests}
use Rattle.std.proofs.lemmas.Grind.{common_steps}
use Rattle.lines.specs.Lines.{lines}

abbrev pub is_lf : ℕ → Bool
is_lf b = b == 10

ended : (t : List ℕ) → position_or_len is_lf t < length t → lines t ≡ take (position_or_len is_lf t) t ∷ lines (drop (position_or_len is_lf t + 1) t)
unfolding lines
ended [] h = absurd (omega arith)
ended (b ∷ t) h = grind (arith, nat_tests, common_steps, ended t)

unended : (t : List ℕ) → 0 < length t → length t ≤ position_or_len is_lf t → lines t ≡ t ∷ []
unfolding lines
unended [] some h = absurd (omega arith)
unended (b ∷ []) some h = grind (arith, nat_tests, common_steps)
unended (b ∷ c ∷ t) some h = grind (arith, nat_tests, common_steps, unended (c ∷ t))

-- the place of the first LF tells the first line
pub ended_line : (t : List ℕ) (i : ℕ) → Some i ≡ position is_lf t → lines t ≡ take i t ∷ lines (drop (i + 1) t)
ended_line t i e = grind (arith, nat_tests, common_steps, ended t)

pub last_line : (t : List ℕ) → None ≡ position is_lf t → 0 < length t → lines t ≡ t ∷ lines []
unfolding lines
last_line t e some = grind (arith, nat_tests, common_steps, unended t)

-- the place of the first LF, or else the text's end, cuts off the first line
pub first_cut : (t : List ℕ) (found : Option ℕ) → found ≡ position is_lf t → 0 < length t → lines t ≡ take (unwrap_or found (length t)) t ∷ lines (drop (unwrap_or found (length t) + 1) t)
first_cut t (Some i) is some = ended_line t i is
first_cut t None is some =
    last_line t is some
    ∙ ap₂ (λ line rest. line ∷ lines rest) (sym (take_all (length t) t (omega arith))) (sym (drop_all (length t + 1) t (omega arith)))

-- no text has more lines than bytes
pub lines_short : (t : List ℕ) → length (lines t) ≤ length t
unfolding lines
lines_short [] = omega arith
lines_short (b ∷ t) = grind (arith, nat_tests, common_steps, lines_short t)
