use Rattle.std.proofs.Common.{List, Option, subst}
use Rattle.std.specs.Prelude.{ℕ, SomeIff}
use Rattle.rx_tree.specs.PlainOf.{plain-Program}
use Rattle.rx_lex.specs.Tok.{toks}
use Rattle.rx_hoist_plan.specs.PlainPlan.{plain-Plan}
use Rattle.rx_splice_laws.specs.SplicedText.{spliced_text}
use Rattle.rx_engine_extraction.specs.Made.{run_of}
use Rattle.rx_engine_extraction.specs.Rendering.{CanBeMade, IsReadAs}
use Rattle.rx_engine_extraction.specs.Splicing.{IsRenderedIf}
use Rattle.rx_engine_extraction.proofs.Calling.{function_there}
use Rattle.rx_engine_extraction.proofs.Outcomes.{map_ok}
use Rattle.rx_engine_extraction.proofs.Rendered.{none_made, read_or_none}
use Rattle.rx_engine_extraction.proofs.rendering.rendered.Goals as goal

pub returns-in-Ok-Some : goal.returns-in-Ok-Some
returns-in-Ok-Some c = λ bs made.
    let g = c.args.given.now in let r = c.args.run.now in let pl = plain-Plan c.args.plan.now in let P = plain-Program g.program.now in
    let ts = toks g.tokens.now.list in let p = plain-Program c.args.program.now in let text = c.in-Ok-Some.text in
    let at = function_there P r.function c.requires.there.function in
    let cut = subst (λ (o : Option (List ℕ)). SomeIff o (CanBeMade g.text.now ts P (run_of r) pl at.1) (spliced_text g.text.now ts P (run_of r) pl bs at.1))
    c.in-Ok-Some.field-0-is (c.in-Ok-Some.ensures bs made at.0 at.1 at.2) in
    map_ok (λ (o : Option (List ℕ)). SomeIff o (IsReadAs text p) text) (λ (o : Option (List ℕ)). IsRenderedIf g r pl bs o)
    (λ o h. read_or_none g.text.now ts P (run_of r) pl bs at.0 at.1 at.2 text cut.0 cut.1 p made.program o h) c.if_read.result c.if_read.ensures

pub returns-in-Ok-None : goal.returns-in-Ok-None
returns-in-Ok-None c = λ bs made.
    let g = c.args.given.now in let r = c.args.run.now in let pl = plain-Plan c.args.plan.now in let P = plain-Program g.program.now in
    let ts = toks g.tokens.now.list in
    let at = function_there P r.function c.requires.there.function in
    none_made g.text.now ts P (run_of r) pl bs at.0 at.1 at.2
    (subst (λ (o : Option (List ℕ)). SomeIff o (CanBeMade g.text.now ts P (run_of r) pl at.1) (spliced_text g.text.now ts P (run_of r) pl bs at.1))
    c.in-Ok-None.field-0-is (c.in-Ok-None.ensures bs made at.0 at.1 at.2))
