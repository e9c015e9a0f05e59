use Rattle.std.proofs.Common.{◌≡◌, ◌+◌, ◌*◌, ◌%◌, ◌^◌, ap₂, ◌∙◌, rules}
use Rattle.std.specs.Int.{to_be_bytes, w128}
use Rattle.sealing_c.proofs.Numbers.{two_as_one}
use Rattle.sealing_c.proofs.block.Goals as goal

pub returns : goal.returns
returns c =
    let high : c.from.result ≡ c.args.high = search rules in
    let low : c.from-2.result ≡ c.args.low = search rules in
    c.to_be_bytes.ensures ∙ ap₂ (λ h l. to_be_bytes w128 ((h * 2 ^ 64) % 2 ^ 128 + l)) high low ∙ two_as_one c.args.high c.args.low (search rules) (search rules)
