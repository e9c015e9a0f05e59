-- What is printed for a line. Assumes nothing.
use Rattle.std.specs.Prelude.{ℕ, cond, not, List, [], ◌∷◌, ◌++◌, length, take, drop, decimal, ◌==◌}
use Rattle.std.specs.Str.{bytes_eq}
use Rattle.user_permit.specs.Lawful.{in_sets, checksum_of}

-- 1: not 46 characters; 2: a character outside its set; 3: the checksum disagrees; 0: a user permit
unfoldable pub verdict : List ℕ → ℕ
verdict t =
    cond (not (length t == 46)) 1
    (cond (not (in_sets t)) 2
    (cond (not (bytes_eq (take 8 (drop 32 t)) (checksum_of (take 32 t)))) 3 0))

-- a line's number, a tab, its verdict and LF
abbrev pub row : ℕ → List ℕ → List ℕ
row number line = decimal number ++ (9 ∷ (decimal (verdict line) ++ (10 ∷ [])))
