-- Damage to one sealed block, and what it does to the dataset. Assumes nothing.
use Rattle.std.specs.Prelude.{◌≡◌, ℕ, zero, suc, ◌+◌, ◌*◌, ◌≤◌, cond, ◌⊎◌, List, length, Some, None, Option, Result, ◌≢◌, nat_le}
use Rattle.octets.specs.Alteration.{AlteredAt}
use Rattle.octets.specs.Output.{WritesSuch}
use Rattle.sealing.specs.Blocks.{block}
use Rattle.sealing.specs.Seal.{Sealed}
use Rattle.sealing.specs.declared.open.OpenRefusal.{OpenRefusal}
use Rattle.sealing.specs.declared.open.OpenRefusal.TheVariants.{Output}

-- something in block i is altered, and nothing outside it
unfoldable pub Damaged : ℕ → List ℕ → List ℕ → Type 0
Damaged zero bytes damaged = ⊥
Damaged (suc i) bytes damaged = AlteredAt (16 * i) 16 bytes damaged

-- `opened` is as long as the dataset and differs from it in block i - 1, unless i is 1, and in block i: both are changed,
-- and no other is.
pub record ChangedAt (i : ℕ) (dataset opened : List ℕ) : Type 0 where
  pub long : length opened ≡ length dataset
  pub changed : (j : ℕ) → 1 ≤ j → (j + 1 ≡ i) ⊎ (j ≡ i) → block j opened ≢ block j dataset
  pub kept : (j : ℕ) → (j + 1 ≢ i) → (j ≢ i) → block j opened ≡ block j dataset

-- an output with so few places is refused
abbrev pub short_for : List ℕ → ℕ → Option OpenRefusal
short_for dataset places = cond (nat_le (length dataset) places) None (Some (Output (record {})))

-- Whatever strikes one block of a sealing under this key, and not one of its last two: the dataset opens at its length,
-- changed in the two blocks that the sealed block went into, or the output is short.
abbrev pub Withstands : (List ℕ → List ℕ → List ℕ) → List ℕ → List ℕ → Result ℕ OpenRefusal → List ℕ → List ℕ → Type 0
Withstands E key damaged r before after =
    (dataset lead start sealed : List ℕ) (i : ℕ) → Sealed E key lead start dataset sealed → Damaged i sealed damaged → 16 * (i + 2) ≤ length sealed
    → WritesSuch (short_for dataset (length before)) (ChangedAt i dataset) r before after
