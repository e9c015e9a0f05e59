-- A character that is mistyped. Assumes nothing.
use Rattle.std.specs.Prelude.{ℕ, cond, ◌==◌}

-- a 0, or a 1 in the place of a 0
abbrev pub other_digit : ℕ → ℕ
other_digit c = cond (c == 48) 49 48
