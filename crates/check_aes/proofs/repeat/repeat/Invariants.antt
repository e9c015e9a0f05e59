use Rattle.std.proofs.Common.{◌≡◌, ℕ, List}
use Rattle.octets.specs.Bytes.{Bytes}
use Rattle.check_aes.specs.Repeated.{repeated, Computes}
use Rattle.check_aes.proofs.repeat.repeat.Given as goal

abbrev pub invariant-loop : goal.invariant-loop
invariant-loop g l = Bytes 16 l.block × ((next : List ℕ → List ℕ) → Computes (goal.F-post g l.step) next → l.block ≡ repeated next l.counter l.initial.block)
