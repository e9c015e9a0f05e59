use Rattle.std.proofs.Common.{◌≡◌, length}
use Rattle.aes.proofs.RoundKeys.{KeysUpTo}
use Rattle.aes.proofs.key_schedule.expand.Given as goal

-- the round keys up to that of round i stand
abbrev pub invariant-loop-i : goal.invariant-loop-i
invariant-loop-i l = (length l.keys ≡ 11) × KeysUpTo l.key l.keys l.i
