use Rattle.std.proofs.Common.{ap, ◌∙◌, arith}
use Rattle.user_permit.specs.Crc32.{shifted, shifts, byte_in}
use Rattle.user_permit.proofs.Checksum.{by_table}
use Rattle.user_permit.proofs.crc.step.Goals as goal

-- `shifted` and `shifts` unfold, so that antt computes all 256 entries and compares them with the code's table
pub returns : goal.returns
unfolding shifted shifts
returns c =
    let crc = c.args.crc in
    by_table crc c.from.result (omega (arith, c.from.ensures)) ∙ ap (byte_in crc) c.from.ensures
