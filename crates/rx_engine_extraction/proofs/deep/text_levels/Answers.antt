use Rattle.std.proofs.Common.{ℕ, List, [], Option, subst}
use Rattle.std.specs.Prelude.{SomeIff}
use Rattle.rx_tree.specs.PlainOf.{plain-Program}
use Rattle.rx_lex.specs.Tok.{toks}
use Rattle.rx_hoist_plan.specs.PlainPlan.{plain-Plan}
use Rattle.rx_splice_laws.specs.SplicedText.{spliced_text}
use Rattle.rx_engine_extraction.specs.Made.{run_of}
use Rattle.rx_engine_extraction.specs.Rendering.{CanBeMade}
use Rattle.rx_engine_extraction.specs.Levels.{IsCounted, IsDeepIf}
use Rattle.rx_engine_extraction.proofs.Calling.{function_there}
use Rattle.rx_engine_extraction.proofs.Depths.{deep_if, none_deep}
use Rattle.rx_engine_extraction.proofs.Finishing.{function_made}
use Rattle.rx_engine_extraction.proofs.Outcomes.{map_ok}
use Rattle.rx_engine_extraction.proofs.deep.text_levels.Goals as goal

pub own_bytes-requires-clause-made : goal.own_bytes-requires-clause-made
own_bytes-requires-clause-made c =
    let P = plain-Program c.args.given.now.program.now in let r = c.args.run.now in let pl = plain-Plan c.args.plan.now in
    let at = function_there P r.function c.requires.there.function in
    function_made P (run_of r) pl at.0 at.1 at.2 (plain-Program c.args.program.now) [] c.requires.made.program c.args.new_fn c.requires.made.item

pub returns-in-Ok-Some : goal.returns-in-Ok-Some
returns-in-Ok-Some c =
    let g = c.args.given.now in let r = c.args.run.now in let pl = plain-Plan c.args.plan.now in let P = plain-Program g.program.now in
    let ts = toks g.tokens.now.list in let text = c.in-Ok-Some.text in
    let at = function_there P r.function c.requires.there.function in
    let cut = subst (λ (o : Option (List ℕ)). SomeIff o (CanBeMade g.text.now ts P (run_of r) pl at.1) (spliced_text g.text.now ts P (run_of r) pl [] at.1))
    c.in-Ok-Some.field-0-is (c.in-Ok-Some.ensures [] c.requires.made at.0 at.1 at.2) in
    map_ok (λ (o : Option ℕ). IsCounted c.as_str.result.now o) (λ (o : Option ℕ). IsDeepIf g.text.now ts P (run_of r) pl o)
    (λ o h. deep_if g.text.now ts P (run_of r) pl at.0 at.1 at.2 text cut.0 cut.1 o (subst (λ (t : List ℕ). IsCounted t o) c.as_str.ensures h))
    c.counted-count.result c.counted-count.ensures

pub returns-in-Ok-None : goal.returns-in-Ok-None
returns-in-Ok-None c =
    let g = c.args.given.now in let r = c.args.run.now in let pl = plain-Plan c.args.plan.now in let P = plain-Program g.program.now in
    let ts = toks g.tokens.now.list in
    let at = function_there P r.function c.requires.there.function in
    none_deep g.text.now ts P (run_of r) pl at.0 at.1 at.2
    (subst (λ (o : Option (List ℕ)). SomeIff o (CanBeMade g.text.now ts P (run_of r) pl at.1) (spliced_text g.text.now ts P (run_of r) pl [] at.1))
    c.in-Ok-None.field-0-is (c.in-Ok-None.ensures [] c.requires.made at.0 at.1 at.2))
