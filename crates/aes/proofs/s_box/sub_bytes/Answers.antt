use Rattle.std.proofs.Common.{rules}
use Rattle.aes.specs.Steps.{sub_bytes, sub_word}
use Rattle.aes.proofs.Mapping.{mapped}
use Rattle.aes.proofs.s_box.sub_bytes.Goals as goal

pub returns : goal.returns
unfolding sub_bytes
returns c = mapped _ sub_word _ _ _ (λ p q x y call. search rules) c.map.ensures.items
