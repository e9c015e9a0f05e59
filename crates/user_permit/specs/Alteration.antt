-- Alterations of a user permit that a check cannot miss. Assumes nothing.
use Rattle.std.specs.Prelude.{ℕ, ◌+◌, ◌≤◌, ◌⊎◌, List}
use Rattle.octets.specs.Alteration.{AlteredAt}

-- something within four neighbouring characters of the first 32, or something in the checksum, and nothing else
abbrev pub Altered : List ℕ → List ℕ → Type 0
Altered t u = ((k : ℕ) × (k + 4 ≤ 32) × AlteredAt k 4 t u) ⊎ AlteredAt 32 8 t u
