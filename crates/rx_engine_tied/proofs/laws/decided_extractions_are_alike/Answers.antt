use Rattle.std.proofs.Common.{◌≡◌, Some, refl, sym, ap, ◌∙◌}
use Rattle.rx_parse_grammar.proofs.Numbered.{text_numbered}
use Rattle.rx_tree.specs.Lists.{nth}
use Rattle.rx_tree.specs.Plain as plain
use Rattle.rx_hoist_naming.specs.NamedPlan.{named_plan}
use Rattle.rx_engine_planned.specs.Decided.{run_at}
use Rattle.rx_engine_tied.proofs.laws.decided_extractions_are_alike.Goals as goal

pub returns : goal.returns
returns c = λ A q bytes names t muts d k free s f e loops scope run u there bounds.
    let r = run_at A.run in
    let few = text_numbered bytes A.program d.parsed d.short in
    let h = c.decided_runs_are_selected.ensures A q bytes names t muts d free s f e in
    let own : nth A.program A.function.item ≡ Some (plain.function_item s f) = ap (nth A.program) (sym d.item) ∙ e in
    let call = c.plans_of_runs_give_call_names.ensures A q bytes names t k free d.start d.end d.run d.item s f own r d.item refl refl refl muts d.accepted in
    c.extractions_are_alike.ensures A.program r (named_plan A) bounds s f e h.free loops scope names d.meant run u there (c.named_plans_name_types.ensures.pins A names t few d.meant d.typed d.among) call
