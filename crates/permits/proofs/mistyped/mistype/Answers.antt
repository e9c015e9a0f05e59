use Rattle.std.proofs.Common.{◌≡◌, get_or, set, sym, ap, ◌∙◌, subst, arith, eq-eqb, ne_eqb}
use Rattle.std.proofs.lemmas.Bool.{cond-true, cond-false}
use Rattle.user_permit.specs.Alteration.{Altered}
use Rattle.permits.specs.Mistyped.{other_digit}
use Rattle.permits.proofs.OneCharacter.{replaced, other_differs}
use Rattle.permits.proofs.mistyped.mistype.Goals as goal
use Rattle.permits.proofs.mistyped.mistype.Goals.{then-text-eq48, else-text-eq48}

pub returns : goal.returns
returns c =
    let text = c.args.permit.now.text in
    let same = c.text.ensures in
    let chosen : c.if-text-eq48.text ≡ other_digit (get_or c.text.result.now 5 0) =
    elim c.if-text-eq48.branch [
      | then-text-eq48 w ↦ w.text-is ∙ sym (cond-true _ _ _ (eq-eqb _ _ w.if-text-eq48.true))
      | else-text-eq48 w ↦ w.text-is ∙ sym (cond-false _ _ _ (ne_eqb _ _ w.if-text-eq48.false))
    ] in
    let is : set c.text.result.now 5 c.if-text-eq48.text ≡ set text 5 (other_digit (get_or text 5 0)) =
    ap (λ d. set c.text.result.now 5 d) chosen ∙ ap (λ t. set t 5 (other_digit (get_or t 5 0))) same in
    let long = c.args.permit.now.lawful.0 in
    record {
      value = is;
      altered = subst (Altered text) (sym is) (replaced text 5 _ (omega arith) (omega arith) (other_differs (get_or text 5 0)));
    }
