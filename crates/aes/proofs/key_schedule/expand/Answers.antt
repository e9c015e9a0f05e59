use Rattle.std.proofs.Common.{◌≡◌, ◌∙◌, ap₂, arith, refl, length-set}
use Rattle.aes.specs.Expansion.{following}
use Rattle.aes.specs.Keys.{first_key, next_key, power_at}
use Rattle.aes.specs.Polynomials.{times_x, product, power}
use Rattle.aes.proofs.RoundKeys.{one_more_key, all_keys}
use Rattle.aes.proofs.key_schedule.expand.Goals as goal

pub loop-i-init : goal.loop-i-init
loop-i-init c = (refl, λ i d le. let first : i ≡ 0 = omega arith in rw first (c.from_block.ensures ∙ first_key c.args.key.now 40))

-- the powers are computed, and compared with the code's
pub loop-i-preserved : goal.loop-i-preserved
unfolding times_x product power
loop-i-preserved c =
    let i = c.loop-i.i in
    let next = c.next_round_key.ensures ∙ ap₂ following (c.loop-i.invariant.1 i _ (omega arith)) (power_at i c.loop-i-test.true) ∙ next_key c.args.key.now 40 i (omega arith) in
    (length-set _ _ _ ∙ c.loop-i.invariant.0, one_more_key _ _ i c.next_round_key.result (omega (arith, c.loop-i.invariant.0)) c.loop-i.invariant.1 next)

pub returns : goal.returns
returns c =
    let end : c.loop-i.i ≡ 10 = omega arith in
    all_keys _ _ c.loop-i.invariant.0 (λ i d le. c.loop-i.invariant.1 i d (omega arith))
