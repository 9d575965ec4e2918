-- Of a program whose names have a meaning no fault has a cause.
use Rattle.std.proofs.Common.{◌≡◌, List, Ok, Err, refl, sym, ◌∙◌}
use Rattle.rx_tree.specs.Plain.{ProgramTree}
use Rattle.rx_resolve_names.specs.declared.resolved.ItemNames.{ItemNames}
use Rattle.rx_resolve_names.specs.declared.resolved.Misnamed.{Misnamed}
use Rattle.rx_resolve_names.specs.declared.resolved.NameFault.{NameFault}
use Rattle.rx_resolve_names.specs.declared.resolved.NameFault.TheVariants as fault
use Rattle.rx_resolve_names.specs.Steps.{Outcome}
use Rattle.rx_resolve_names.specs.Causes.{Causes, Meant}

no_error : (a : List ItemNames) (e : Misnamed) → ◌≡◌ {A = Outcome (List ItemNames)} (Ok a) (Err e) → ⊥
no_error a e h = cc

pub no_cause : (p : ProgramTree) (names : List ItemNames) → Meant p names → (e : NameFault) → Causes e p → e ≡ fault.OutOfMemory
no_cause p names m (fault.Unknown s) h = absurd (no_error names _ (sym m.names_are ∙ h))
no_cause p names m (fault.Twice a b) h = absurd (no_error names _ (sym m.names_are ∙ h))
no_cause p names m (fault.Label s) h = absurd (no_error names _ (sym m.names_are ∙ h))
no_cause p names m (fault.SelfHolding s) h = absurd (m.finite h.holding.number h.holding.first.0)
no_cause p names m fault.OutOfMemory h = refl
