-- The commands of the program. Assumes nothing.
use Rattle.std.specs.Prelude.{◌≡◌, ℕ, List, [], length, Some, None, codes, Option, ◌≢◌, slice_index_or}
use Rattle.commands.specs.declared.call.Command.{Command}
use Rattle.commands.specs.declared.call.Command.TheVariants.{Story, Help, Make}

abbrev pub word : List (List ℕ) → ℕ → List ℕ
word words i = slice_index_or words i []

-- The program's own name alone asks for the story. `help`, and `make` with three more words, are the commands; any other
-- call is none.
abbrev pub Parses : List (List ℕ) → Option Command → Type 0
Parses words (Some Story) = length words ≡ 1
Parses words (Some Help) = (length words ≡ 2) × (word words 1 ≡ codes "help")
Parses words (Some (Make making)) =
    (length words ≡ 5) × (word words 1 ≡ codes "make") × (making.id.now ≡ word words 2) × (making.key_file.now ≡ word words 3)
    × (making.hardware_file.now ≡ word words 4)
Parses words None =
    (length words ≢ 1) × (length words ≡ 2 → word words 1 ≢ codes "help") × (length words ≡ 5 → word words 1 ≢ codes "make")
