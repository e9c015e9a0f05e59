-- The line of a refused command. Assumes nothing.
use Rattle.std.specs.Prelude.{ℕ, List, ◌++◌, codes, decimal}

-- the number of the refusal and its words, behind tabs
abbrev pub refused_line : ℕ → List ℕ → List ℕ
refused_line number words = codes "refused\t" ++ (decimal number ++ (codes "\t" ++ words))
