-- What opening under a known key answers. Assumes nothing.
use Rattle.std.specs.Prelude.{ℕ, ◌+◌, ◌-◌, ◌/◌, ◌%◌, Bool, cond, ◌&&◌, List, length, Ok, Err, codes, Result, ◌==◌, nat_le}
use Rattle.std.specs.List.{range_with_len, flat_map}
use Rattle.octets.specs.Bytes.{◌⊕◌}
use Rattle.octets.specs.Output.{Writes, short_number}
use Rattle.sealing.specs.Blocks.{block}
use Rattle.sealing.specs.Padding.{is_padded, unpadded}
use Rattle.sealing.specs.Seal.{Sealed}
use Rattle.sealing.specs.declared.open.OpenRefusal.{OpenRefusal}
use Rattle.sealing.specs.declared.open.OpenRefusal.TheVariants.{Length, Padding, Output}

-- two blocks at least, the longest dataset with its padding at most, and whole blocks
abbrev pub is_sealed_length : ℕ → Bool
is_sealed_length long = nat_le 32 long && nat_le long 10485792 && long % 16 == 0

-- dataset block i, which is plain block i + 1
abbrev pub plain_block : (List ℕ → List ℕ → List ℕ) → List ℕ → List ℕ → ℕ → List ℕ
plain_block D key sealed i = D key (block (i + 1) sealed) ⊕ block i sealed

-- every plain block but the first, which is thrown away
unfoldable pub plain : (List ℕ → List ℕ → List ℕ) → List ℕ → List ℕ → List ℕ
plain D key sealed = flat_map (plain_block D key sealed) (range_with_len 1 (length sealed / 16 - 1))

abbrev pub open_number : OpenRefusal → ℕ
open_number Length = 9
open_number Padding = 10
open_number (Output short) = short_number short

abbrev pub open_words : OpenRefusal → List ℕ
open_words Length = codes "a sealed dataset has 32 to 10485792 bytes, in whole blocks of 16"
open_words Padding = codes "what was opened does not end in good padding"
open_words (Output short) = codes "the output has no room for the dataset"

-- a dataset for an output with so many places
abbrev pub delivered : List ℕ → ℕ → Result (List ℕ) OpenRefusal
delivered dataset places = cond (nat_le (length dataset) places) (Ok dataset) (Err (Output (record {})))

-- the sealed length is tried before the padding, and the padding before the output's room
abbrev pub opening : (List ℕ → List ℕ → List ℕ) → List ℕ → List ℕ → ℕ → Result (List ℕ) OpenRefusal
opening D key sealed places =
    let bytes = plain D key sealed in
    cond (is_sealed_length (length sealed)) (cond (is_padded bytes) (delivered (unpadded bytes) places) (Err Padding)) (Err Length)

-- What was sealed under this key, with any leading block and starting vector, opens to the dataset: nothing but a short
-- output is refused.
abbrev pub Recovers : (List ℕ → List ℕ → List ℕ) → List ℕ → List ℕ → Result ℕ OpenRefusal → List ℕ → List ℕ → Type 0
Recovers E key sealed r before after =
    (dataset lead start : List ℕ) → Sealed E key lead start dataset sealed → Writes (delivered dataset (length before)) r before after
