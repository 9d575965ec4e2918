-- The lines of the borrows so far are added.
use Rattle.std.proofs.Common.{◌≡◌, ◌++◌, List, take}
use Rattle.rx_cert_lines.specs.declared.line.Line.{Line}
use Rattle.rx_cert_lines.specs.Certificates.{lines_text}
use Rattle.rx_cert_tables.specs.Written.{AreLoanLines}
use Rattle.rx_cert_tables.proofs.writing.push_loans.Given as goal

abbrev pub invariant-loop-at : goal.invariant-loop-at
invariant-loop-at l = (ls : List Line) × AreLoanLines l.shape (take l.at l.shape.borrows) (take l.at l.rows) ls × (l.text ≡ l.fn.text ++ lines_text ls)
