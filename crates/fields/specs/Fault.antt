-- Reading a field. Assumes nothing.
use Rattle.std.specs.Prelude.{◌≡◌, ℕ, Bool, true, false, List, Ok, Err, codes, Result}
use Rattle.fields.specs.declared.fault.FieldFault.{FieldFault}

-- a field that breaks its rule is refused by this number, in these words
abbrev pub fault_number : FieldFault → ℕ
fault_number f = 4

abbrev pub fault_words : FieldFault → List ℕ
fault_words f = codes "a field breaks its rule"

-- A text that keeps the rule is read to a value with this text, and any other is refused.
abbrev pub Reads : {F : Type 0} → (List ℕ → Bool) → (F → List ℕ) → List ℕ → Result F FieldFault → Type 0
Reads rule text t (Ok field) = (rule t ≡ true) × (text field ≡ t)
Reads rule text t (Err fault) = rule t ≡ false
