-- All are ranges exactly where those that are left are.
use Rattle.std.proofs.Common.{◌≡◌, drop}
use Rattle.std.specs.List.{list_all}
use Rattle.rx_cert_lines.specs.Lines.{is_range}
use Rattle.rx_cert_lines.proofs.forms.are_ranges.Given as goal

abbrev pub invariant-loop-item : goal.invariant-loop-item
invariant-loop-item l = list_all is_range (drop l.item-index l.items) ≡ list_all is_range l.items
