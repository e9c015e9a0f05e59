use Rattle.std.proofs.Common.{get_or, map, ap, ◌∙◌, rules, arith}
use Rattle.std.proofs.lemmas.List.FromFn.{get_or-map-range_with_len}
use Rattle.std.specs.List.{range_with_len}
use Rattle.aes.specs.Polynomials.{times_x, product, first, inverse}
use Rattle.aes.specs.Substitution.{affine, s_box}
use Rattle.aes.proofs.s_box.sub_byte.Goals as goal

-- antt computes all 256 entries and compares them with the code's table
pub returns : goal.returns
unfolding times_x product first inverse affine s_box
returns c =
    let b = c.args.b in
    ap (λ i. get_or (map s_box (range_with_len 0 256)) i 0) c.from.ensures ∙ get_or-map-range_with_len s_box 0 256 b b 0 (search rules) (omega arith)
