-- The version that a cipher names. Assumes nothing.
use Rattle.std.specs.Prelude.{ℕ, Bool, ◌&&◌, List, length, ◌==◌, slice_index}
use Rattle.std.specs.Char.{is_ascii_digit}

-- five characters: digit, point, digit, point, digit
abbrev pub is_version : List ℕ → Bool
is_version v =
    (length v == 5) && is_ascii_digit (slice_index v 0) && slice_index v 1 == 46 && is_ascii_digit (slice_index v 2) && slice_index v 3 == 46
    && is_ascii_digit (slice_index v 4)
