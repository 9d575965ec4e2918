-- The lines of the rows so far are added.
use Rattle.std.proofs.Common.{◌≡◌, ◌++◌, List, take}
use Rattle.rx_cert_lines.specs.declared.line.Line.{Line}
use Rattle.rx_cert_lines.specs.Certificates.{lines_text}
use Rattle.rx_cert_tables.specs.Written.{AreRegionLines}
use Rattle.rx_cert_tables.proofs.writing.push_regions.Given as goal

abbrev pub invariant-loop-row : goal.invariant-loop-row
invariant-loop-row l = (ls : List Line) × AreRegionLines l.shape (take l.row-index l.rows) ls × (l.text ≡ l.fn.text ++ lines_text ls)
