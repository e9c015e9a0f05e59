use Rattle.std.proofs.Common.{◌≡◌, ◌*◌, take}
use Rattle.octets.specs.Bytes.{Bytes}
use Rattle.octets.specs.Hex.{hex}
use Rattle.octets.proofs.hex.decode.Given as goal

abbrev pub invariant-loop-i : goal.invariant-loop-i
invariant-loop-i g l = Bytes g.row.N l.bytes × (hex (take l.i l.bytes) ≡ take (2 * l.i) l.text)
