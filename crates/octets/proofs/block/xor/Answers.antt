use Rattle.std.proofs.Common.{◌≡◌, length, get_or, rules}
use lib.Bits.{bit_xor}
use Rattle.octets.proofs.Calls.{from_fn_same}
use Rattle.octets.proofs.Xor.{by_places}
use Rattle.octets.proofs.block.xor.Goals as goal

pub returns : goal.returns
returns g c =
    let long-a : length c.args.a ≡ g.row.N = search rules in
    let long-b : length c.args.b ≡ g.row.N = search rules in
    let each = from_fn_same _ (λ k. bit_xor (get_or c.args.a k 0) (get_or c.args.b k 0)) _ (λ i y q call. search rules) c.from_fn.result c.from_fn.ensures.items in
    by_places g.row.N _ _ _ long-a long-b c.from_fn.ensures.items.long each
