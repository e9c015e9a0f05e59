use Rattle.std.proofs.Common.{◌≡◌, ◌-◌, rules, arith, eqb, get_or, sym, ap, subst, ◌∙◌, inl, inr, ⊎_elim}
use borrow.Rule.Slice.PartMut.{mid_of}
use borrow.Author.Tests.{tests}
use Rattle.std.proofs.lemmas.Iterator.{YieldsList-from_slice}
use Rattle.std.proofs.lemmas.Iterator.Search.{all_from_yields_List}
use Rattle.octets.specs.Bytes.{every}
use Rattle.octets.proofs.Each.{list-all_is_every}
use Rattle.sealing.specs.Padding.{Ended}
use Rattle.sealing.proofs.Padded.{last_is, none_or_too_many, by_bytes, ended}
use Rattle.sealing.proofs.padding.padding_of.Goals as goal

pub returns-then-count-lt1 : goal.returns-then-count-lt1
returns-then-count-lt1 c =
    none_or_too_many c.args.last.now c.told-last (⊎_elim (λ h. inl (omega (arith, c.from-count.ensures))) (λ p. inr (omega (arith, c.from-count.ensures, p.1))) c.then-count-lt1.either)

pub returns : goal.returns
returns c =
    let b = c.args.last.now in
    let n = get_or b 15 0 in
    let e : c.from-count.result ≡ n = omega (arith, c.from-count.ensures) in
    let part = mid_of (16 - c.from-count.result) (16 - (16 - c.from-count.result)) b in
    let all : c.all.result ≡ every (eqb n) part =
    all_from_yields_List (eqb n) _ _ c.all.result c.all.ensures.ran (YieldsList-from_slice part (search rules)) (λ x t q k. search (rules, tests)) ∙ list-all_is_every (eqb n) part in
    let good = by_bytes b c.told-last (omega (arith, e)) (omega (arith, e)) ∙ ap (λ m. every (eqb n) (mid_of (16 - m) (16 - (16 - m)) b)) (sym e) ∙ sym all in
    subst (Ended b) (sym c.then_some.ensures) (ended b c.all.result c.from-count.result good (e ∙ last_is b c.told-last))
