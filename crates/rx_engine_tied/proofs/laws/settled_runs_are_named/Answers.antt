use Rattle.std.proofs.Common.{◌≡◌, [], Some, length, refl, sym, ap, ◌∙◌, subst}
use Rattle.rx_parse_grammar.proofs.Numbered.{text_numbered}
use Rattle.rx_tree.specs.Lists.{nth}
use Rattle.rx_tree.specs.Plain as plain
use Rattle.rx_typed.specs.Tree.{Function as TypedFunction}
use Rattle.rx_lower_walks.specs.Orders.{order_function}
use Rattle.rx_lower_walks.specs.Walks.{Among}
use Rattle.rx_exits_plan.specs.Coming.{HasNoMark}
use Rattle.rx_exits_plan.specs.PlainPlan.{plan_of}
use Rattle.rx_exits_plan.specs.Points.{leaves, next}
use Rattle.rx_exits_plan.specs.Runs.{Sits}
use Rattle.rx_exits_plan.specs.Spots.{a_block, spots_of_function}
use Rattle.rx_select.specs.OneText.{OneText}
use Rattle.rx_engine_planned.specs.Decided.{run_at}
use Rattle.rx_engine_related.proofs.Bare.{no_marks}
use Rattle.rx_engine_tied.proofs.GoesOn.{goes_on}
use Rattle.rx_engine_tied.proofs.NamedRuns.{means_there, plan_given, planned}
use Rattle.rx_engine_tied.proofs.Seats.{item_there}
use Rattle.rx_engine_tied.proofs.Texts.{seat}
use Rattle.rx_engine_tied.proofs.laws.settled_runs_are_named.Goals as goal

pub returns : goal.returns
returns c = λ A q bytes names t muts choice d z front free s f e.
    let r = run_at A.run in
    let own : nth A.program A.function.item ≡ Some (plain.function_item s f) = ap (nth A.program) (sym d.item) ∙ e in
    let few = text_numbered bytes A.program d.parsed d.short in
    let k = planned A q bytes names t muts choice d z in
    let scoped = c.blocks_stand_in_scope.ensures A.program names t few d.meant d.typed A.function d.among s f (item_there A.program A.function.item (plain.function_item s f) own) in
    let tied = c.runs_are_tied.ensures A q bytes names t k d.start d.end d.run d.item s f own r refl refl refl muts d.accepted in
    let told = c.runs_tell_params_and_locals_by_names.ensures in
    let text : OneText A.tokens (length bytes) A.program = record { text = bytes; lexed = d.lexed; parsed = d.parsed; long = refl } in
    let lets = c.untyped_lets_stay_round_runs.ensures in
    let block = lets.leads (length bytes) A d.start d.end d.run s f e in
    let h = c.decided_runs_are_selected.ensures A q bytes names t muts d free s f e in
    let back = sym d.function in
    let sits = subst (λ (g : TypedFunction). Sits g q.run q.home) d.function d.sits in
    let P = plan_given A q bytes names t muts choice d z (λ x m p v. c.moved_params_are_values.ensures q muts (plan_of q A.plan) choice x m z.allowed p v)
    (λ x i j. c.params_and_locals_are_apart.ensures.numbers q muts d.accepted (plan_of q A.plan) d.plan.plan d.reached x i j)
    (c.runs_have_names.ensures A.program names t few d.meant d.typed A.function d.among q.run q.home sits) (told.meant A.program names t few d.meant d.typed A.function d.among q (plan_of q A.plan) d.function d.sits d.plan.plan)
    (told.apart A.program names t few d.meant d.typed A.function d.among q (plan_of q A.plan) d.function d.sits d.plan.plan) tied.left in
    let unmarked = subst (λ (g : TypedFunction). HasNoMark (order_function g)) back (c.typed_functions_stand.ensures.unmarked A.program names t few d.meant d.typed A.function d.among) in
    let goes = goes_on A q P d.reached (no_marks (order_function q.function) unmarked.none)
    (λ a b i. (scoped.alone a q.home.around q.run.block b q.home.body (subst (λ (g : TypedFunction). Among (a_block a q.run.block b) (spots_of_function g)) d.function i) sits.block).1)
    (λ whole never. c.diverging_tails_never_end.ensures A.program t few front A.function d.among q.run q.home sits whole never [] (leaves next)) in
    let m = means_there A q bytes names t muts choice d z s f own P (seat A q bytes names t k d.start d.end d.run d.item s f own r refl refl refl scoped) h block.0 block.1
    (lets.kept (length bytes) A text d.start d.end d.run d.item s f e) (c.named_plans_name_types.ensures.pins A names t few d.meant d.typed d.among) goes in
    (m.0.reached.around, m.0.reached.middle.scope, c.runs_are_named.ensures A q bytes names t muts d s f e m.0 m.1)
