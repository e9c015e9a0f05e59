use Rattle.std.proofs.Common.{◌≡◌, ◌*◌, ◌++◌, drop}
use Rattle.std.specs.List.{range_with_len, flat_map}
use Rattle.sealing.specs.Open.{plain_block}
use Rattle.sealing.proofs.open.open_by.Given as goal

-- i blocks of the dataset stand in the output
abbrev pub invariant-loop-i : goal.invariant-loop-i
invariant-loop-i g l =
    l.out ≡ flat_map (plain_block g.C.BlockCipher.dec (g.C.BlockCipher.held l.cipher) l.sealed) (range_with_len 1 l.i) ++ drop (16 * l.i) l.initial.out
