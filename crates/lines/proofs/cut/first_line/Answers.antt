use Rattle.std.proofs.Common.{rules, ◌≡◌, ◌+◌, ◌∷◌, take, drop, sym, ap, ap₂, ◌∙◌, arith}
use borrow.Author.Tests.{tests}
use Rattle.std.proofs.lemmas.Grind.{common_steps}
use Rattle.std.proofs.lemmas.Bool.Decides.{nat_tests}
use Rattle.std.proofs.lemmas.Iterator.{YieldsList-from_slice}
use Rattle.std.proofs.lemmas.Iterator.Search.{position_from_yields_List}
use Rattle.lines.specs.Lines.{lines}
use Rattle.lines.proofs.Cutting.{is_lf, first_cut}
use Rattle.lines.proofs.cut.first_line.Goals as goal

pub returns-clause-first : goal.returns-clause-first
returns-clause-first c =
    let t = c.args.text.now in
    let found = position_from_yields_List is_lf _ _ c.position.result c.position.ensures.ran (YieldsList-from_slice _ c.iter.ensures.rest) (λ x b q k. search (rules, tests)) in
    let behind : drop (c.unwrap_or-end.result + 1) t ≡ c.unwrap_or.result.now = grind (arith, nat_tests, common_steps) in
    λ some. first_cut t c.position.result found some ∙ ap₂ (λ n rest. take n t ∷ lines rest) (sym c.unwrap_or-end.ensures) (ap (λ n. drop (n + 1) t) (sym c.unwrap_or-end.ensures) ∙ behind)
