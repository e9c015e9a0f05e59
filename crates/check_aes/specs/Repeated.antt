-- A map over and over. Assumes nothing.
use Rattle.std.specs.Prelude.{◌≡◌, ℕ, zero, suc, List}
use Rattle.octets.specs.Bytes.{Bytes}

-- f applied to its own result, so many times in all
abbrev pub repeated : (List ℕ → List ℕ) → ℕ → List ℕ → List ℕ
repeated f zero b = b
repeated f (suc n) b = f (repeated f n b)

-- the answers to calls at blocks are those of f
abbrev pub Computes : (List ℕ → List ℕ → Type 0) → (List ℕ → List ℕ) → Type 0
Computes gives f = (b c : List ℕ) → Bytes 16 b → gives b c → c ≡ f b
