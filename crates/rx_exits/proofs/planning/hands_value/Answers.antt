use Rattle.std.proofs.Common.{not, sym, ap, ◌∙◌}
use Rattle.rx_exits.proofs.Values.{handed_some, handed_none}
use Rattle.rx_exits.proofs.planning.hands_value.Goals as goal

pub returns-in-Some : goal.returns-in-Some
returns-in-Some c = ap not c.is_unit_type.ensures ∙ sym (handed_some c.args.expr.now c.in-Some.ty c.in-Some.is)

pub returns-in-None : goal.returns-in-None
returns-in-None c = sym (handed_none c.args.expr.now c.in-None.is)
