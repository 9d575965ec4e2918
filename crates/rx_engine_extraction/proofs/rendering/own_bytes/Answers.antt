use Rattle.std.proofs.Common.{◌≡◌, sym, subst, ◌∙◌}
use Rattle.std.specs.Prelude.{IfOk, SomeIff}
use Rattle.rx_tree.specs.Plain.{Function}
use Rattle.rx_tree.specs.PlainOf.{plain-Func, plain-Program}
use Rattle.rx_lex.specs.Tok.{toks}
use Rattle.rx_hoist_plan.specs.PlainPlan.{plain-Plan}
use Rattle.rx_splice_laws.specs.SplicedText.{spliced_text}
use Rattle.rx_engine_extraction.specs.Made.{run_of}
use Rattle.rx_engine_extraction.specs.Rendering.{CanBeMade}
use Rattle.rx_engine_extraction.proofs.Forming.{got}
use Rattle.rx_engine_extraction.proofs.NewItems.{one_function, function_is, exits_are}
use Rattle.rx_engine_extraction.proofs.rendering.own_bytes.Goals as goal

pub returns : goal.returns
returns c = λ bs made s f there.
    let g = c.args.given.now in let r = c.args.run.now in let pl = plain-Plan c.args.plan.now in let P = plain-Program g.program.now in
    let p = plain-Program c.args.program.now in let n = c.args.new_fn in
    let h = plain-Func c.function_at.result.1.now in
    let here = sym (got P r.function) ∙ c.function_at.ensures in
    let same : h ≡ f = one_function _ _ _ _ _ here there in
    subst (λ (k : Function). IfOk c.bytes_with-outcome.result (λ o. SomeIff o (CanBeMade g.text.now (toks g.tokens.now.list) P (run_of r) pl k)
    (spliced_text g.text.now (toks g.tokens.now.list) P (run_of r) pl bs k))) same
    (c.bytes_with-outcome.ensures bs (record {
      exits = c.exits_in.ensures ∙ exits_are P (run_of r) pl bs _ h here p n made.program made.item;
      function = one_function _ _ _ _ _ c.function_at-2.ensures (function_is P (run_of r) pl bs _ h here p n made.program made.item);
    }))
