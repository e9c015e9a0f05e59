use Rattle.std.proofs.Common.{sym, ap, ◌∙◌, subst, arith, length-drop, length-take}
use Rattle.octets.specs.Hex.{Digits, unhex}
use Rattle.octets.proofs.Digits.{hex_is_digits, hex_undone}
use Rattle.check_aes.specs.Vector.{Reads, number}
use Rattle.check_aes.proofs.Form.{inside, outside}
use Rattle.check_aes.proofs.vector.read.Goals as goal
use Rattle.check_aes.proofs.vector.read.Goals.{then-line-ne70-via-then-line-ne70, then-line-ne70-via-else-line-ne70+then-line-ne32, then-line-ne70-via-else-line-ne70+else-line-ne32+then-line-ne32-2}

pub returns-then-line-ne70 : goal.returns-then-line-ne70
returns-then-line-ne70 c =
    outside _ (λ f. elim c.then-line-ne70.branch [
      | then-line-ne70-via-then-line-ne70 w ↦ omega arith
      | then-line-ne70-via-else-line-ne70+then-line-ne32 w ↦ omega arith
      | then-line-ne70-via-else-line-ne70+else-line-ne32+then-line-ne32-2 w ↦ omega arith
    ])

pub returns-in_err-count : goal.returns-in_err-count
returns-in_err-count c =
    let t = c.args.line.now in
    let none = outside t (λ f. c.in_err-count.ensures (simp length-take (omega arith)) f.count) in
    subst (Reads t) (sym c.from_residual.ensures) none

pub returns-in_err-key : goal.returns-in_err-key
returns-in_err-key c =
    let t = c.args.line.now in
    let none = outside t (λ f. c.in_err-key.ensures (simp (length-take, length-drop) (omega arith)) f.key) in
    subst (Reads t) (sym c.from_residual-in_err-key.ensures) none

pub returns-in_err-block : goal.returns-in_err-block
returns-in_err-block c =
    let t = c.args.line.now in
    let none = outside t (λ f. c.in_err-block.ensures (simp (length-take, length-drop) (omega arith)) f.block) in
    subst (Reads t) (sym c.from_residual-in_err-block.ensures) none

pub returns : goal.returns
returns c =
    let t = c.args.line.now in
    let count = c.in_ok-count.ensures in
    let key = c.in_ok-key.ensures in
    let block = c.in_ok-block.ensures in (
      inside t (record {
        long = omega arith;
        first = omega arith;
        second = omega arith;
        count = subst Digits count.1 (hex_is_digits _ count.0.small);
        key = subst Digits key.1 (hex_is_digits _ key.0.small);
        block = subst Digits block.1 (hex_is_digits _ block.0.small);
      }),
      c.from_be_bytes.ensures ∙ ap number (sym (hex_undone _ count.0.small) ∙ ap unhex count.1),
      sym (hex_undone _ key.0.small) ∙ ap unhex key.1,
      sym (hex_undone _ block.0.small) ∙ ap unhex block.1,
    )
