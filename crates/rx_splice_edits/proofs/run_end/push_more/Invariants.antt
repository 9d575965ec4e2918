-- What is written, and what is left of the names behind it, are the whole.
use Rattle.std.proofs.Common.{◌≡◌, ◌++◌, drop}
use Rattle.rx_print_spelling.specs.Pieces.{flat}
use Rattle.rx_splice_laws.specs.RunEnd.{more_outs}
use Rattle.rx_splice_edits.proofs.Words.{names_in}
use Rattle.rx_splice_edits.proofs.run_end.push_more.Given as goal

abbrev pub invariant-loop-variable : goal.invariant-loop-variable
invariant-loop-variable l =
    l.out ++ flat (more_outs (names_in (drop l.variable-index l.variables))) ≡ l.fn.out ++ flat (more_outs (names_in l.variables))
