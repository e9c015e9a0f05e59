use Rattle.std.proofs.Common.{rules}
use Rattle.aes.specs.Steps.{inv_mix_columns, mixed}
use Rattle.aes.proofs.Mapping.{mapped}
use Rattle.aes.proofs.columns.inv_mix_columns.Goals as goal

pub returns : goal.returns
unfolding inv_mix_columns
returns c = mapped _ (mixed 0x0E 0x0B 0x0D 0x09) _ _ _ (λ p q x y call. search rules) c.map.ensures.items
