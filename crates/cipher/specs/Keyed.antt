-- The laws of a cipher under one key. Assumes nothing.
use Rattle.std.specs.Prelude.{◌≡◌, ℕ, List}
use Rattle.octets.specs.Bytes.{Bytes}

-- under this key D undoes E and E undoes D, and both give blocks
pub record Laws (E D : List ℕ → List ℕ → List ℕ) (key : List ℕ) : Type 0 where
  pub deciphered : (b : List ℕ) → Bytes 16 b → D key (E key b) ≡ b
  pub enciphered : (b : List ℕ) → Bytes 16 b → E key (D key b) ≡ b
  pub enc_sixteen : (b : List ℕ) → Bytes 16 b → Bytes 16 (E key b)
  pub dec_sixteen : (b : List ℕ) → Bytes 16 b → Bytes 16 (D key b)

-- the same, shut: a search for a proof is not to wander off into the laws
unfoldable pub Keyed : (List ℕ → List ℕ → List ℕ) → (List ℕ → List ℕ → List ℕ) → List ℕ → Type 0
Keyed E D key = Laws E D key

pub laws : (E D : List ℕ → List ℕ → List ℕ) (key : List ℕ) → Keyed E D key → Laws E D key
unfolding Keyed
laws E D key k = k
