-- The two calls for C: what they are given, and what they answer. Assumes nothing.
use Rattle.std.specs.Prelude.{◌≡◌, ℕ, ◌/◌, ◌%◌, ◌^◌, List, [], ◌∷◌, ◌++◌, length, take, ℤ, pos, neg_ℤ, IfOk, Ok, Err, Result}
use Rattle.octets.specs.Output.{Writes, WritesSuch}
use Rattle.sealing.specs.Damage.{Withstands}
use Rattle.sealing.specs.Open.{opening, Recovers, open_number}
use Rattle.sealing.specs.Seal.{Sealed, Distinct, seal_refused, seal_number}
use Rattle.sealing.specs.declared.open.OpenRefusal.{OpenRefusal}
use Rattle.sealing.specs.declared.seal.SealRefusal.{SealRefusal}

-- the bytes of a number of 64 bits, the first byte highest
abbrev pub eight_bytes : ℕ → List ℕ
eight_bytes n =
    (n / 2 ^ 56 % 256) ∷ (n / 2 ^ 48 % 256) ∷ (n / 2 ^ 40 % 256) ∷ (n / 2 ^ 32 % 256) ∷ (n / 2 ^ 24 % 256) ∷ (n / 2 ^ 16 % 256) ∷ (n / 2 ^ 8 % 256) ∷ (n % 256) ∷ []

-- a key or a block from two numbers
unfoldable pub sixteen_bytes : ℕ → ℕ → List ℕ
sixteen_bytes high low = eight_bytes high ++ eight_bytes low

-- the bytes written, or minus the number of the refusal
abbrev pub answered : {E : Type 0} → (E → ℕ) → Result ℕ E → ℤ
answered number (Ok n) = pos n
answered number (Err e) = neg_ℤ (pos (number e))

-- C is answered the outcome of a sealing
pub record SealsForC (E : List ℕ → List ℕ → List ℕ) (key lead start dataset : List ℕ) (answer : ℤ) (before after : List ℕ) : Type 0 where
  pub outcome : Result ℕ SealRefusal
  pub told : answer ≡ answered seal_number outcome
  pub written : WritesSuch (seal_refused (length dataset) (length before)) (Sealed E key lead start dataset) outcome before after
  pub distinct : IfOk outcome (λ n. Distinct E key dataset (take n after))

-- C is answered the outcome of an opening under a known key
pub record OpensForC (E D : List ℕ → List ℕ → List ℕ) (key sealed : List ℕ) (answer : ℤ) (before after : List ℕ) : Type 0 where
  pub outcome : Result ℕ OpenRefusal
  pub told : answer ≡ answered open_number outcome
  pub written : Writes (opening D key sealed (length before)) outcome before after
  pub recovered : Recovers E key sealed outcome before after
  pub damaged : Withstands E key sealed outcome before after
