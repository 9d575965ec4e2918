use Rattle.std.proofs.Common.{sym, ap, ◌∙◌}
use Rattle.std.proofs.Common.{slice_get}
use Rattle.std.specs.Option.{option_copied}
use Rattle.rx_exits.specs.Refusing.{same_names}
use Rattle.rx_exits.proofs.names.is_same.Goals as goal

pub returns-in-Some : goal.returns-in-Some
returns-in-Some c = c.has_name.ensures ∙ ap (λ o. same_names o (slice_get c.args.names.now c.args.other)) (ap option_copied (sym c.in-Some.is) ∙ c.name_at.ensures)

pub returns-in-None : goal.returns-in-None
returns-in-None c = ap (λ o. same_names o (slice_get c.args.names.now c.args.other)) (ap option_copied (sym c.in-None.is) ∙ c.name_at.ensures)
