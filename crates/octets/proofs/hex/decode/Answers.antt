use Rattle.std.proofs.Common.{◌≡◌, ℕ, ◌+◌, ◌*◌, ◌/◌, ◌<◌, List, [], length, get_or, refl, ap, ◌∙◌, arith}
use Rattle.std.specs.Simd.{first_chunks}
use Rattle.octets.specs.Hex.{is_digit, hex, Digits}
use Rattle.octets.proofs.Blocks.{bytes_zeros, bytes_set}
use Rattle.octets.proofs.Chunks.{in_chunk}
use Rattle.octets.proofs.Digits.{no_digits, hex_more}
use Rattle.octets.proofs.hex.decode.Goals as goal

pub loop-i-init : goal.loop-i-init
unfolding hex
loop-i-init g c = (bytes_zeros g.row.N, refl)

-- the two digits of a turn stand side by side in the text
module _ (text : List ℕ) (pairs : List (List ℕ)) (i : ℕ) (so : pairs ≡ first_chunks 2 (length text / 2) text) (lt : i < length text / 2) where
  high : get_or (get_or pairs i []) 0 0 ≡ get_or text (2 * i) 0
  high = let at : 2 * i + 0 ≡ 2 * i = omega arith in in_chunk 2 (length text / 2) text pairs i 0 0 so lt (omega arith) ∙ ap (λ n. get_or text n 0) at

  low : get_or (get_or pairs i []) 1 0 ≡ get_or text (2 * i + 1) 0
  low = in_chunk 2 (length text / 2) text pairs i 1 0 so lt (omega arith)

pub loop-i-preserved : goal.loop-i-preserved
loop-i-preserved g c =
    let told = c.in_ok-bytes.ensures in
    let text = c.args.text.now in
    let i = c.loop-i.i in
    let long = c.loop-i.invariant.0.long in
    let front = c.as_chunks.ensures.front in
    let so = c.loop-i.invariant.1 in
    (bytes_set c.loop-i.invariant.0 _ _ told.0, hex_more c.loop-i.bytes text i _ (omega arith) (omega arith) so (told.1 ∙ high text _ i front (omega arith)) (told.2 ∙ low text _ i front (omega arith)))

pub returns-in_err-bytes : goal.returns-in_err-bytes
returns-in_err-bytes g c =
    let text = c.args.text.now in
    let i = c.loop-i.i in
    let front = c.as_chunks.ensures.front in
    let outside : length text ≡ 2 * g.row.N → Digits text → ⊥ =
    λ _. no_digits text (2 * i) (omega arith) (λ h l. c.in_err-bytes.ensures (ap is_digit (high text _ i front (omega arith)) ∙ h) (ap is_digit (low text _ i front (omega arith)) ∙ l)) in
    rw c.from_residual.ensures outside
