use Rattle.std.proofs.Common.{get_or, ap, ◌∙◌, rules}
use Rattle.aes.specs.Polynomials.{◌·◌}
use Rattle.aes.specs.Steps.{mixed}
use Rattle.aes.specs.Mixing.{IsFourBytes, mixed_in_two}
use Rattle.aes.proofs.columns.inv_mix_column.Goals as goal

pub returns : goal.returns
unfolding mixed
returns c =
    let w = c.args.w in
    let bytes : IsFourBytes (get_or w 0 0) (get_or w 1 0) (get_or w 2 0) (get_or w 3 0) = search rules in
    c.mix_column.ensures
    ∙ mixed_in_two bytes (c.double-even.ensures ∙ ap (λ d. 2 · d) c.double.ensures) (c.double-odd.ensures ∙ ap (λ d. 2 · d) c.double-2.ensures)
