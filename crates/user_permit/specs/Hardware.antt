-- The hardware ID behind a user permit. Assumes nothing.
use Rattle.std.specs.Prelude.{ℕ, List, take}
use Rattle.octets.specs.Hex.{unhex}

-- what the first 32 digits stand for, deciphered by D under the manufacturer key
abbrev pub hardware_id : (List ℕ → List ℕ → List ℕ) → List ℕ → List ℕ → List ℕ
hardware_id D key t = D key (unhex (take 32 t))
