use Rattle.std.proofs.Common.{◌≡◌, ◌+◌, ◌≤◌, ◌++◌, length, string_bytes}
use Rattle.lines.specs.Lines.{lines}
use Rattle.lines.specs.Report.{rows, report_of}
use Rattle.lines.proofs.report.report.Given as goal

-- the text so far, and the rows of the lines that are left behind it; the numbers do not run out before the lines do
abbrev pub invariant-loop-line : goal.invariant-loop-line
invariant-loop-line g l =
    let left = lines l.line-iterator.a.rest.now in
    let number = l.line-iterator.b.start in
    record { so_far : string_bytes l.text ++ rows g.R.Row.row number left ≡ report_of g.R.Row.row l.input; numbered : number + length left ≤ length l.input + 1 }
