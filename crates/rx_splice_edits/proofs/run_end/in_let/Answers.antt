use Rattle.rx_splice_edits.proofs.run_end.in_let.Goals as goal

pub returns : goal.returns
returns c = (c.in_ok-before.ensures, c.in_ok-behind.ensures, c.in_ok-tail.ensures)
