use Rattle.std.proofs.Common.{ℕ, ◌<◌, List, length, take, sym, ap, ◌∙◌, subst}
use Rattle.rx_core.specs.declared.types.Step.{Step}
use Rattle.rx_lower_walks.specs.declared.actions.Root.{Root}
use Rattle.rx_lower_walks.specs.PlainFlow.{plain-Act, plain-Root, plain-Temporary}
use Rattle.rx_lower_walks.specs.Actions.{Act, Write}
use Rattle.rx_facts_tables.specs.Tables.{Kept, KeepsFor}
use Rattle.rx_facts_tables.proofs.Fronts.{on_ok, fronts_kept}
use Rattle.rx_facts_tables.proofs.watching.watch_for.Goals as goal

pub returns-in-Variable-clause-kept : goal.returns-in-Variable-clause-kept
returns-in-Variable-clause-kept c = on_ok c.watch_fronts.result
    (λ h. subst (λ (a : Act). KeepsFor c.watch_fronts.new.watched a)
    (sym (ap plain-Act c.in-Write.is ∙ ap (λ (r : Root). Write (record { root = plain-Root r; steps = c.in-Write.place.steps }) (plain-Temporary c.in-Write.field-1) c.in-Write.field-2) c.in-Variable.is))
    (fronts_kept c.watch_fronts.new.watched c.in-Variable.variable c.in-Write.place.steps (plain-Temporary c.in-Write.field-1) c.in-Write.field-2
    (subst (λ (l : List Step). (k : ℕ) → k < length l → Kept c.watch_fronts.new.watched c.in-Variable.variable (take k l)) c.as_slice.ensures h)))
    c.watch_fronts.ensures.kept
