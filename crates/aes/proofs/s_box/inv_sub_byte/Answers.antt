use Rattle.std.proofs.Common.{get_or, map, ap, sym, ◌∙◌, rules, arith}
use Rattle.std.proofs.lemmas.List.FromFn.{get_or-map-range_with_len}
use Rattle.std.specs.List.{range_with_len}
use Rattle.aes.specs.Polynomials.{times_x, product, first, inverse}
use Rattle.aes.specs.Box.{back, inv_s_box-back}
use Rattle.aes.specs.Computed.{straight}
use Rattle.aes.proofs.s_box.inv_sub_byte.Goals as goal

-- antt computes all 256 entries and compares them with the code's table
pub returns : goal.returns
unfolding times_x product first inverse straight back
returns c =
    let b = c.args.b in
    ap (λ i. get_or (map back (range_with_len 0 256)) i 0) c.from.ensures ∙ get_or-map-range_with_len back 0 256 b b 0 (search rules) (omega arith) ∙ sym (inv_s_box-back b (search rules))
