use Rattle.std.proofs.Common.{◌≡◌, true, length, replicate, refl, ◌∙◌, subst, ap₂, arith, rules}
use Rattle.std.proofs.lemmas.List.{take_all}
use Rattle.std.proofs.lemmas.Bool.{and_from}
use Rattle.user_permit.specs.Check.{Checked}
use Rattle.user_permit.specs.Lawful.{Lawful, permit_text}
use Rattle.user_permit.proofs.Accepting.{only_text}
use Rattle.commands.proofs.Accepted.{accepted}
use Rattle.commands.proofs.make.user_permit.Goals as goal

pub unwrap-requires : goal.unwrap-requires
unwrap-requires g c =
    let out = c.make.new.out in
    let long : length out ≡ 46 = search rules in
    let lawful = subst Lawful (take_all 46 out (omega arith)) (c.in_ok-make.ensures.lawful (refl {a = true})) in
    accepted out c.check.result lawful c.check.ensures.answer

pub returns : goal.returns
returns g c =
    let E = g.C.BlockCipher.enc in
    let id = c.args.id.now in
    let key = c.in_ok-read.ensures in
    let hardware = c.in_ok-read-2.ensures in
    let told = c.in_ok-make.ensures in
    let made = only_text E id _ _ (replicate 46 0) c.make.new.out c.in_ok-make.field-0 (refl {a = 46}) told.count told.written in (
      and_from _ _ key.0 hardware.0,
      made.0,
      (subst (Checked c.make.new.out) c.unwrap.ensures c.check.ensures.answer).1 ∙ made.1 ∙ ap₂ (λ k h. permit_text (E k h) id) key.1 hardware.1,
    )
