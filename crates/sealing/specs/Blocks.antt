-- Bytes in blocks of sixteen. Assumes nothing.
use Rattle.std.specs.Prelude.{ℕ, zero, suc, ◌*◌, List, [], take, drop}

-- block i, counted from 1: there is no block 0, and none past the end
unfoldable pub block : ℕ → List ℕ → List ℕ
block zero bytes = []
block (suc i) bytes = take 16 (drop (16 * i) bytes)
