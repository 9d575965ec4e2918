use Rattle.std.proofs.Common.{◌≡◌, ◌≤◌, ◌<◌, ℕ, ◌||◌, true, sym, ap, ◌∙◌, subst, refl}
use Rattle.rx_tree.specs.Lists.{statements, tail}
use Rattle.rx_tree.specs.Spans.{body_span}
use Rattle.rx_typed.specs.declared.nodes.Node.{Node}
use Rattle.rx_typed.specs.declared.nodes.Site.{Site}
use Rattle.rx_typed.specs.Named.{some_diverges}
use Rattle.rx_typed.specs.Naming.{of_optional, of_statements}
use Rattle.rx_typeck_solver.specs.Facts.{Assignment}
use Rattle.rx_typeck_solver.specs.Valid.{Valid}
use Rattle.rx_typeck_typed.specs.Demands.{task}
use Rattle.rx_hoist_extraction.specs.Run.{as_statements, chosen, in_front, run_block}
use Rattle.rx_engine_names.specs.CalledRuns.{call_parts}
use Rattle.rx_engine_names.specs.Extractions.{handing_there}
use Rattle.rx_engine_names.specs.HandsOver.{at_place, told_last}
use Rattle.rx_engine_names.specs.Placed.{inside_of, EndFor}
use Rattle.rx_engine_changed.specs.Beside.{first_own, paired, Instead}
use Rattle.rx_engine_changed.specs.Once.{last_without_names, without_names}
use Rattle.rx_engine_standing.specs.EndGives.{IsBlockSite}
use Rattle.rx_engine_standing.specs.InFront.{InFront}
use Rattle.rx_engine_standing.specs.RunBegins.{RunBegins}
use Rattle.rx_engine_standing.specs.TwoPrograms as two
use Rattle.rx_engine_standing.proofs.Blocks.{block_stands, tail_stands}
use Rattle.rx_engine_standing.proofs.Joined.{among_is_met, few_declared, small_comes_back}
use Rattle.rx_engine_standing.proofs.laws.numbered_functions_with_a_call_have_types.Goals as goal

pub returns-clause-within : goal.returns-clause-within
returns-clause-within c = λ p r pl bs t R items q s h ns ms g x few ordered A valid fixes begins behind.
    let y = x.such in let i = y.is_call in let H = handing_there r pl h in
    let run = chosen r (statements (run_block r h)) in let call = (call_parts p r pl h).statements in
    let last = (of_statements (as_statements call) i.cursor').1 in
    let small : last.declared ≤ 4294967296 = few_declared last.declared (λ k l. few i.cursor' y.comes.1 k l) in
    let in_front_of : InFront x.numbers x.made i.cursor' = λ n m z. (x.correspond (paired n m) z, subst (λ (o : Instead). m < first_own o) i.is (x.in_front n m z)) in
    c.functions_with_a_call_have_types.ensures.within p r pl bs t R items run call _ g refl (without_names x) ordered A valid fixes in_front_of
    h (inside_of p r.item s h) (inside_of q r.item s h) (in_front r (statements (run_block r h))) y.place y.stands begins
    (record { few = small; back = small_comes_back x.numbers R x.comes_back last.declared small; handed = behind.handed; redeclared = behind.redeclared })

pub returns-clause-at_the_end : goal.returns-clause-at_the_end
returns-clause-at_the_end c = λ p r pl bs t R items q s h ns ms g x stands past few ordered A valid fixes begins gives.
    let y = x.such in let i = y.is_call in let H = handing_there r pl h in let n = i.node in
    let run = chosen r (statements (run_block r h)) in let call = (call_parts p r pl h).statements in let o = tail (run_block r h) in let l = (call_parts p r pl h).tail in
    let T = of_statements (as_statements run) i.cursor in let S = of_statements (as_statements call) i.cursor' in
    let end = (of_optional n.site l S.1).1 in let came = y.comes.0 in
    let small : end.declared ≤ 4294967296 = few_declared end.declared (λ k w. few n.site i.cursor' y.comes.1 k w) in
    let in_front_of : InFront x.numbers x.made i.cursor' = λ n m z. (x.correspond (paired n m) z, subst (λ (o : Instead). m < first_own o) i.is (x.in_front n m z)) in
    let block : IsBlockSite n.site = subst (λ (k : Node). IsBlockSite k.site) came.1 (block_stands came.0.comes tt) in
    let asked = c.demands_of_an_end_stand_together.ensures r.item s h r pl stands past ns n (some_diverges i.front) i.cursor came in
    let met = among_is_met (two.of_text t) A _ asked.0 _ asked.1 asked.2 valid.prefers.typed in
    let J : Site → Type 0
    = λ (z : Site). (w : EndFor (told_last H) (inside_of p r.item s h) (inside_of q r.item s h) (in_front r (statements (run_block r h))) run call o l y.place R T.0 (of_optional z o T.1).0 S.0 (of_optional z l S.1).0)
    → RunBegins (at_place H w.text.middle.scope y.place.around) A i.cursor → (W : Assignment) × Valid (two.of_extraction t) (task g) W in
    let there : J n.site = λ w b. c.functions_with_a_call_have_types.ensures.at_the_end p r pl bs t R items run call o l _ g refl (last_without_names x) i.sited ordered A valid fixes in_front_of
    h (inside_of p r.item s h) (inside_of q r.item s h) (in_front r (statements (run_block r h))) y.place w (small_comes_back x.numbers R x.comes_back end.declared small) small b block (tail_stands n o T.1) met gives in
    subst J i.sited there y.stands begins
