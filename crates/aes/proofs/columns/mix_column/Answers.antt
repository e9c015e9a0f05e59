use Rattle.std.proofs.Common.{◌∷◌, get_or, refl, ap₂, rules}
use lib.Bits.{bit_xor}
use Rattle.aes.specs.Steps.{mixed}
use Rattle.aes.specs.Mixing.{mixed_row}
use Rattle.aes.proofs.columns.mix_column.Goals as goal

pub returns : goal.returns
unfolding mixed
returns c =
    let w = c.args.w in
    ap₂ ◌∷◌ (mixed_row (get_or w 2 0) (get_or w 3 0) (ap₂ bit_xor c.double.ensures c.triple.ensures) (search rules) (search rules))
    (ap₂ ◌∷◌ (mixed_row (get_or w 3 0) (get_or w 0 0) (ap₂ bit_xor c.double-2.ensures c.triple-2.ensures) (search rules) (search rules))
    (ap₂ ◌∷◌ (mixed_row (get_or w 0 0) (get_or w 1 0) (ap₂ bit_xor c.double-3.ensures c.triple-3.ensures) (search rules) (search rules))
    (ap₂ ◌∷◌ (mixed_row (get_or w 1 0) (get_or w 2 0) (ap₂ bit_xor c.double-4.ensures c.triple-4.ensures) (search rules) (search rules)) refl)))
