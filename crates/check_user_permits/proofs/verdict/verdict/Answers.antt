use Rattle.std.proofs.Common.{rules}
use Rattle.check_user_permits.proofs.Verdicts.{answered}
use Rattle.check_user_permits.proofs.verdict.verdict.Goals as goal

pub returns : goal.returns
returns c =
    answered _ c.check.result _ c.check.ensures.answer
    (λ permit is. rw (c.err.ensures.value, is) at c.map_or.ensures)
    (λ e is. let told = rw (c.err.ensures.value, is) at c.map_or.ensures in search rules)
