use Rattle.std.proofs.Common.{◌+◌, ◌*◌, ◌/◌, ◌%◌, length, get_or, set, refl, ap, ◌∙◌, arith}
use Rattle.octets.specs.Hex.{digit, hex}
use Rattle.octets.proofs.Digits.{length-hex, written_more}
use Rattle.octets.proofs.Fits.{fits_not}
use Rattle.octets.proofs.hex.encode.Goals as goal

pub returns-then-out-bytes : goal.returns-then-out-bytes
returns-then-out-bytes c =
    let long = length-hex c.args.bytes.now in
    rw (fits_not (hex c.args.bytes.now) (length c.args.out.now) (omega arith)) (refl, refl)

pub loop-i-init : goal.loop-i-init
unfolding hex
loop-i-init c = refl

pub loop-i-preserved : goal.loop-i-preserved
loop-i-preserved c =
    let i = c.loop-i.i in
    let b = get_or c.args.bytes.now i 0 in
    let two = ap (λ l. set (set c.loop-i.out (2 * i) (get_or l 0 0)) (2 * i + 1) (get_or l 1 0)) c.digits.ensures in
    two ∙ ap (λ l. set (set l (2 * i) (digit (b / 16))) (2 * i + 1) (digit (b % 16))) c.loop-i.invariant
    ∙ written_more c.args.bytes.now c.args.out.now i (omega arith) (omega arith)
