use Rattle.std.proofs.Common.{length, refl, subst, sym, ap, ◌∙◌}
use Rattle.rx_typed.specs.Tree.{Function as TypedFunction}
use Rattle.rx_exits_plan.specs.Runs.{Sits}
use Rattle.rx_select.specs.OneText.{OneText}
use Rattle.rx_parse_grammar.proofs.Numbered.{text_numbered}
use Rattle.rx_tree.specs.Lists.{nth}
use Rattle.rx_hoist_extraction.specs.Plan.{to_next}
use Rattle.rx_hoist_naming.specs.NamedPlan.{named_plan}
use Rattle.rx_engine_planned.specs.Decided.{run_at}
use Rattle.rx_engine_planned.proofs.NamedRuns.{run_named}
use Rattle.rx_engine_planned.proofs.laws.runs_are_named.Goals as goal

pub returns : goal.returns
returns c = λ A q bytes names t muts d s f at h m.
    let text : OneText A.tokens (length bytes) A.program = record { text = bytes; lexed = d.lexed; parsed = d.parsed; long = refl } in
    let few = text_numbered bytes A.program d.parsed d.short in
    let sits = subst (λ (g : TypedFunction). Sits g q.run q.home) d.function d.sits in
    let b = c.untyped_lets_stay_round_runs.ensures.leads (length bytes) A d.start d.end d.run s f at in
    run_named A s f b.0 b.1 (c.untyped_lets_stay_round_runs.ensures.kept (length bytes) A text d.start d.end d.run d.item s f at)
    (c.named_plans_name_types.ensures.types A names t few d.meant d.typed d.declared d.among)
    (c.params_and_locals_are_apart.ensures.names A names t few d.meant d.typed d.among q d.function d.sits d.plan muts d.accepted d.reached)
    (c.exits_have_their_own_names.ensures.names A names t few d.meant d.typed d.among q sits d.plan d.loops)
    (c.runs_name_lifetimes_of_the_text.ensures (length bytes) A text (run_at A.run) s f at (named_plan A).pins)
    (c.fresh_names_are_found.ensures.lifetimes A bytes names t d.lexed d.parsed d.short d.meant d.typed d.declared d.among d.word q sits d.plan d.agree d.few)
    (c.fresh_names_are_found.ensures.variable A bytes names t d.lexed d.parsed d.short d.meant d.typed d.declared d.among d.word q sits d.plan d.agree d.few)
    (c.outs_are_identifiers.ensures A (length bytes) text names t few d.meant d.typed d.among s f (ap (λ i. nth A.program i) (sym d.item) ∙ at) q sits d.plan d.agree to_next) h m
