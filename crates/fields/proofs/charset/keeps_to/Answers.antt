use Rattle.std.proofs.Common.{rules, ◌∙◌}
use borrow.Author.Tests.{tests}
use Rattle.std.proofs.lemmas.Iterator.{YieldsList-from_slice}
use Rattle.std.proofs.lemmas.Iterator.Search.{all_from_yields_List}
use Rattle.octets.proofs.Each.{list-all_is_every}
use Rattle.fields.proofs.charset.keeps_to.Goals as goal

pub returns : goal.returns
returns g c =
    let member = g.S.Charset.member in
    let text = c.args.text.now in
    all_from_yields_List member _ _ c.all.result c.all.ensures.ran (YieldsList-from_slice text (search rules)) (λ x b q k. search (rules, tests)) ∙ list-all_is_every member text
