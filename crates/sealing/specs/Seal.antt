-- Sealed datasets, and what sealing answers. Assumes nothing.
use Rattle.std.specs.Prelude.{◌≡◌, ℕ, ◌+◌, ◌*◌, ◌≤◌, cond, List, [], ◌∷◌, map, length, Some, None, codes, Option, nat_le}
use Rattle.octets.specs.Bytes.{Small, ◌⊕◌}
use Rattle.octets.specs.Output.{short_number}
use Rattle.sealing.specs.Blocks.{block}
use Rattle.sealing.specs.Padding.{pads, padded}
use Rattle.sealing.specs.declared.seal.SealRefusal.{SealRefusal}
use Rattle.sealing.specs.declared.seal.SealRefusal.TheVariants.{TooLong, Output}

-- the bytes of the longest dataset
abbrev pub limit : ℕ
limit = 10485760

-- a leading block, and the dataset with its padding
abbrev pub sealed_length : ℕ → ℕ
sealed_length long = 16 + long + pads long

abbrev pub Examples : Type 0
Examples = map sealed_length (0 ∷ 15 ∷ 16 ∷ []) ≡ 32 ∷ 32 ∷ 48 ∷ []

-- `bytes` are a dataset sealed by E under the key, with a leading block and a starting vector: the first block is the
-- enciphered sum of these two, and each later one that of a block of the padded dataset and the sealed block before.
pub record Sealed (E : List ℕ → List ℕ → List ℕ) (key lead start dataset bytes : List ℕ) : Type 0 where
  pub given : Small dataset
  pub within : length dataset ≤ limit
  pub made : Small bytes
  pub long : length bytes ≡ sealed_length (length dataset)
  pub first : block 1 bytes ≡ E key (lead ⊕ start)
  pub later : (i : ℕ) → 1 ≤ i → 16 * i ≤ length (padded dataset) → block (i + 1) bytes ≡ E key (block i (padded dataset) ⊕ block i bytes)

abbrev pub seal_number : SealRefusal → ℕ
seal_number TooLong = 9
seal_number (Output short) = short_number short

abbrev pub seal_words : SealRefusal → List ℕ
seal_words TooLong = codes "a dataset has at most 10485760 bytes"
seal_words (Output short) = codes "the output has no room for the sealed bytes"

-- why a dataset of this length is not sealed into so many places, if it is not: its own limit comes first
abbrev pub seal_refused : ℕ → ℕ → Option SealRefusal
seal_refused long places =
    cond (nat_le long limit) (cond (nat_le (sealed_length long) places) None (Some (Output (record {})))) (Some TooLong)

-- Under one key, no other dataset is sealed to these bytes, whatever leading block and starting vector it has.
abbrev pub Distinct : (List ℕ → List ℕ → List ℕ) → List ℕ → List ℕ → List ℕ → Type 0
Distinct E key dataset bytes = (other lead start : List ℕ) → Sealed E key lead start other bytes → other ≡ dataset
