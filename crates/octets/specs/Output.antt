-- What a call with an output did. Assumes nothing.
use Rattle.std.specs.Prelude.{◌≡◌, ℕ, cond, List, ◌++◌, length, drop, Some, None, Ok, Err, codes, Option, Result, nat_le}
use Rattle.octets.specs.declared.output.TooShort.{TooShort}

-- A call whose meaning is `Ok bytes` answers how many bytes they are and puts them at the output's front: what lies
-- behind keeps its content. A call whose meaning is a refusal gives it and leaves the output as it was.
abbrev pub Writes : {E : Type 0} → Result (List ℕ) E → Result ℕ E → List ℕ → List ℕ → Type 0
Writes (Ok bytes) r before after = (r ≡ Ok (length bytes)) × (after ≡ bytes ++ drop (length bytes) before)
Writes (Err e) r before after = (r ≡ Err e) × (after ≡ before)

-- a call that is refused so, if it is, and else writes bytes of which P holds
abbrev pub WritesSuch : {E : Type 0} → Option E → (List ℕ → Type 0) → Result ℕ E → List ℕ → List ℕ → Type 0
WritesSuch (Some e) P r before after = Writes (Err e) r before after
WritesSuch None P r before after = (bytes : List ℕ) × (P bytes × Writes (Ok bytes) r before after)

-- the number of an output that is too short, and its words
abbrev pub short_number : TooShort → ℕ
short_number t = 11

abbrev pub short_words : TooShort → List ℕ
short_words t = codes "the output is too short for the whole result"

-- whether a result of this many bytes has room
abbrev pub room : ℕ → ℕ → Result (Unit {0}) TooShort
room count places = cond (nat_le count places) (Ok tt) (Err (record {}))

-- bytes for an output with this many places
abbrev pub fitted : List ℕ → ℕ → Result (List ℕ) TooShort
fitted bytes places = cond (nat_le (length bytes) places) (Ok bytes) (Err (record {}))
