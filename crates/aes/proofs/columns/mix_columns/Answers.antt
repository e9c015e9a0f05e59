use Rattle.std.proofs.Common.{rules}
use Rattle.aes.specs.Steps.{mix_columns, mixed}
use Rattle.aes.proofs.Mapping.{mapped}
use Rattle.aes.proofs.columns.mix_columns.Goals as goal

pub returns : goal.returns
unfolding mix_columns
returns c = mapped _ (mixed 2 3 1 1) _ _ _ (λ p q x y call. search rules) c.map.ensures.items
