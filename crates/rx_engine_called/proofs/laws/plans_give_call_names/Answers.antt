use Rattle.std.proofs.Common.{◌≡◌, Some, length, refl, sym, ap, ◌∙◌}
use Rattle.rx_tree.specs.Lists.{nth}
use Rattle.rx_tree.specs.Plain as plain
use Rattle.rx_exits_plan.specs.PlainPlan.{plan_of}
use Rattle.rx_hoist_extraction.specs.Pinned.{pinned_function}
use Rattle.rx_hoist_naming.specs.NamedPlan.{named_plan, names_in}
use Rattle.rx_engine_names.proofs.FreeRuns.{run_stands}
use Rattle.rx_engine_names.proofs.KeptWays.{ways_kept}
use Rattle.rx_engine_called.proofs.Together.{tied_there}
use Rattle.rx_engine_called.proofs.laws.plans_give_call_names.Goals as goal

pub returns : goal.returns
returns c = λ A q bytes names t k free start end run r item first last s f e b d keeps tied behind.
    let pl = named_plan A in
    let g = pinned_function A.program r.span pl.pins f in
    let there : nth A.program r.item ≡ Some (plain.function_item s f) = ap (nth A.program) item ∙ e in
    let w = ways_kept A.program r.span pl.pins f r.way b d keeps in
    let stands = run_stands (length bytes) A.tokens A.program (record { text = bytes; lexed = k.lexed; parsed = k.parsed; long = refl }) start end A.run run r first last s f there pl free w.0 w.1 in
    let same = c.written_out_runs_say_the_same.ensures A.program r.span pl.pins f r b d keeps in
    let mine = tied_there r f g (names_in A) q (plan_of q A.plan) same tied in
    let tell = c.texts_tell_of_plans.ensures in
    c.calls_have_names.ensures A q bytes names t k s f e r g stands (tell.run A q bytes names t k r g mine)
    (λ past. tell.behind A q bytes names t k r g mine (same.behind pl.identifiers (names_in A) q (behind (sym same.past ∙ past))))
