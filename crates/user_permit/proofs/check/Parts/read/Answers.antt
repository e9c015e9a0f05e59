use Rattle.std.proofs.Common.{◌≡◌, false, true, length, take, drop, sym, ap, ◌∙◌, subst, arith, length-drop, length-take, rules}
use Rattle.std.proofs.lemmas.List.{drop-drop, take_all}
use Rattle.std.proofs.lemmas.Grind.{common_steps}
use Rattle.std.proofs.lemmas.Bool.Decides.{nat_tests}
use Rattle.std.proofs.lemmas.Bool.{and_parts, and_from, both_ways, eq-eqb}
use Rattle.octets.specs.Hex.{Digits, unhex}
use Rattle.octets.proofs.Digits.{hex_undone}
use Rattle.fields.specs.ManufacturerId.{is_manufacturer_id}
use Rattle.user_permit.specs.Check.{Parted}
use Rattle.user_permit.specs.Lawful.{in_sets}
use Rattle.user_permit.proofs.Sets.{from_parts, outside, digits_of}
use Rattle.user_permit.proofs.check.Parts.read.Goals as goal

pub returns-in_err-decode : goal.returns-in_err-decode
returns-in_err-decode c =
    let t = c.args.text.now in
    let long : length t ≡ 46 = search rules in
    let front : c.split_at.result.0.now ≡ take 32 t = c.split_at.ensures.front in
    let none : in_sets t ≡ false = outside t (λ p. c.in_err-decode.ensures (ap length front ∙ length-take 32 t ∙ omega arith) (subst Digits (sym front) p.encrypted)) in
    subst (Parted t) (sym c.from_residual.ensures) none

pub returns-in_err-decode-2 : goal.returns-in_err-decode-2
returns-in_err-decode-2 c =
    let t = c.args.text.now in
    let long : length t ≡ 46 = search rules in
    let middle : c.split_at-2.result.0.now ≡ take 8 (drop 32 t) = c.split_at-2.ensures.front ∙ ap (take 8) c.split_at.ensures.back in
    let none : in_sets t ≡ false = outside t (λ p. c.in_err-decode-2.ensures (ap length middle ∙ simp (length-take, length-drop) (omega arith)) (subst Digits (sym middle) p.checksum)) in
    subst (Parted t) (sym c.from_residual-in_err-decode-2.ensures) none

pub returns-in_err-ok : goal.returns-in_err-ok
returns-in_err-ok c =
    let t = c.args.text.now in
    let long : length t ≡ 46 = search rules in
    let back : c.split_at-2.result.1.now ≡ drop 40 t = c.split_at-2.ensures.back ∙ ap (drop 8) c.split_at.ensures.back ∙ drop-drop 8 32 t in
    let six : length (drop 40 t) ≡ 6 = simp length-drop (omega arith) in
    let broken : is_manufacturer_id (drop 40 t) ≡ false = grind (arith, nat_tests, common_steps, back, six, take_all) in
    let none : in_sets t ≡ false = outside t (λ p. both_ways _ broken (and_from _ _ (eq-eqb _ _ six) p.manufacturer)) in
    subst (Parted t) (sym c.from_residual-in_err-ok.ensures) none

pub returns : goal.returns
returns c =
    let t = c.args.text.now in
    let front : c.split_at.result.0.now ≡ take 32 t = c.split_at.ensures.front in
    let middle : c.split_at-2.result.0.now ≡ take 8 (drop 32 t) = c.split_at-2.ensures.front ∙ ap (take 8) c.split_at.ensures.back in
    let back : c.split_at-2.result.1.now ≡ drop 40 t = c.split_at-2.ensures.back ∙ ap (drop 8) c.split_at.ensures.back ∙ drop-drop 8 32 t in
    let first = c.in_ok-decode.ensures in
    let second = c.in_ok-decode-2.ensures in
    let long : length t ≡ 46 = search rules in
    let six : length (drop 40 t) ≡ 6 = simp length-drop (omega arith) in
    let rule : is_manufacturer_id (drop 40 t) ≡ true = grind (arith, nat_tests, common_steps, back, six, take_all) in
    let same : c.in_ok-ok.field-0.text ≡ drop 40 t = grind (arith, nat_tests, common_steps, back, six, take_all) in
    record {
      inside = from_parts t (record {
        encrypted = digits_of _ _ first.0.small (first.1 ∙ front);
        checksum = digits_of _ _ second.0.small (second.1 ∙ middle);
        manufacturer = (and_parts _ _ rule).1;
      });
      encrypted = ap unhex (sym (first.1 ∙ front)) ∙ hex_undone _ first.0.small;
      checksum = (second.0, second.1 ∙ middle);
      manufacturer = same;
    }
