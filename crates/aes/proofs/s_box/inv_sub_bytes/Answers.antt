use Rattle.std.proofs.Common.{rules}
use Rattle.aes.specs.Steps.{inv_sub_bytes, inv_sub_word}
use Rattle.aes.proofs.Mapping.{mapped}
use Rattle.aes.proofs.s_box.inv_sub_bytes.Goals as goal

pub returns : goal.returns
unfolding inv_sub_bytes
returns c = mapped _ inv_sub_word _ _ _ (λ p q x y call. search rules) c.map.ensures.items
