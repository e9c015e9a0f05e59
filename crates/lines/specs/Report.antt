-- What is printed for a text, over the row of a number and a line. Assumes nothing.
use Rattle.std.specs.Prelude.{ℕ, ◌+◌, List, [], ◌∷◌, ◌++◌}
use Rattle.lines.specs.Lines.{lines}

-- a row for each line, numbered from here on
unfoldable pub rows : (ℕ → List ℕ → List ℕ) → ℕ → List (List ℕ) → List ℕ
rows row number [] = []
rows row number (line ∷ more) = row number line ++ rows row (number + 1) more

abbrev pub report_of : (ℕ → List ℕ → List ℕ) → List ℕ → List ℕ
report_of row input = rows row 1 (lines input)
