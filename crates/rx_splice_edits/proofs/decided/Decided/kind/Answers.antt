use Rattle.rx_splice_edits.proofs.Places.{kind_found, no_kind}
use Rattle.rx_splice_edits.proofs.decided.Decided.kind.Goals as goal

pub returns-in-Some : goal.returns-in-Some
returns-in-Some c = kind_found _ _ _ c.in-Some.pins _ c.args.span c.suffix_of.ensures c.kind_at.ensures c.as_slice.ensures c.in-Some.is

pub returns-in-None : goal.returns-in-None
returns-in-None c = no_kind _ c.args.span c.in-None.is
