use Rattle.std.proofs.Common.{◌≡◌, ℕ, List, length, Some, refl, sym, ap, ◌∙◌, subst}
use Rattle.rx_tree.specs.Lists.{nth}
use Rattle.rx_tree.specs.Plain as plain
use Rattle.rx_tree.specs.Positions.{a_block, descend}
use Rattle.rx_hoist_naming.specs.NamedPlan.{named_plan}
use Rattle.rx_engine_names.specs.KeptWays.{KeepsMaybe}
use Rattle.rx_engine_tied.proofs.laws.plans_of_runs_give_call_names.Goals as goal

pub returns : goal.returns
returns c = λ A q bytes names t k free start end of is s f e r item way first last muts acc.
    let there : nth A.program A.run.function ≡ Some (plain.function_item s f) = ap (nth A.program) is ∙ e in
    let lets = c.untyped_lets_stay_round_runs.ensures in
    let block = lets.leads (length bytes) A start end of s f there in
    let kept = lets.kept (length bytes) A (record { text = bytes; lexed = k.lexed; parsed = k.parsed; long = refl }) start end of is s f there in
    c.plans_give_call_names.ensures A q bytes names t k free start end of r item first last s f e block.0 (ap (descend (Some (a_block f.body))) way ∙ block.1)
    (subst (λ (w : List ℕ). KeepsMaybe (named_plan A).pins (Some (a_block f.body)) w) (sym way) kept) (c.runs_are_tied.ensures A q bytes names t k start end of is s f e r way first last muts acc)
    (λ past. c.texts_behind_are_tied.ensures A q bytes names t k start end of is s f e r way first last past)
