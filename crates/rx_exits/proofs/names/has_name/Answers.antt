use Rattle.std.proofs.Common.{Some, sym, ap, ◌∙◌}
use Rattle.std.specs.Option.{option_copied}
use Rattle.rx_exits.specs.Refusing.{same_names}
use Rattle.rx_exits.proofs.names.has_name.Goals as goal

pub returns-in-Some : goal.returns-in-Some
returns-in-Some c = c.is_same_name.ensures ∙ ap (same_names (Some c.args.name.now)) (ap option_copied (sym c.in-Some.is) ∙ c.name_at.ensures)

pub returns-in-None : goal.returns-in-None
returns-in-None c = ap (same_names (Some c.args.name.now)) (ap option_copied (sym c.in-None.is) ∙ c.name_at.ensures)
