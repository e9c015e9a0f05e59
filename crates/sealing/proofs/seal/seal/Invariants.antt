use Rattle.octets.specs.Bytes.{Small}
use Rattle.sealing.specs.Padding.{padded}
use Rattle.sealing.proofs.Chaining.{Chain}
use Rattle.sealing.proofs.seal.seal.Given as goal

-- the leading block and i more are sealed
abbrev pub invariant-loop-i : goal.invariant-loop-i
invariant-loop-i g l =
    Chain (g.C.BlockCipher.enc (g.C.BlockCipher.held l.cipher)) (padded l.dataset) l.initial.before l.initial.out l.i l.before l.out
    × Small l.out
