use Rattle.rx_splice_edits.proofs.Places.{type_found, no_type_found}
use Rattle.rx_splice_edits.proofs.decided.Decided.ty.Goals as goal

pub returns-in-Some : goal.returns-in-Some
returns-in-Some c = type_found _ _ c.in-Some.pins _ c.args.span c.type_at.ensures c.as_slice.ensures c.in-Some.is

pub returns-in-None : goal.returns-in-None
returns-in-None c = no_type_found _ c.args.span c.in-None.is
