-- What is printed for a line, over the two maps of a cipher. Assumes nothing.
use Rattle.std.specs.Prelude.{ℕ, cond, List, [], ◌∷◌, ◌++◌, codes}
use Rattle.octets.specs.Hex.{hex}
use Rattle.check_aes.specs.Repeated.{repeated}
use Rattle.check_aes.specs.Vector.{is_vector, count_of, key_of, block_of}

-- the line's block, sent through one of the maps as often as the line says, under its key
abbrev pub through : (List ℕ → List ℕ → List ℕ) → List ℕ → List ℕ
through map line = repeated (map (key_of line)) (count_of line) (block_of line)

-- the block enciphered, a tab, the block deciphered and LF; for a line of another form `unfit` and LF
abbrev pub row : (List ℕ → List ℕ → List ℕ) → (List ℕ → List ℕ → List ℕ) → List ℕ → List ℕ
row enc dec line =
    cond (is_vector line)
    (hex (through enc line) ++ (9 ∷ (hex (through dec line) ++ (10 ∷ []))))
    (codes "unfit" ++ (10 ∷ []))
