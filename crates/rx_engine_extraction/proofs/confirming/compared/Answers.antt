use Rattle.std.proofs.Common.{◌≡◌, ◌∙◌, Bool, List, length, ap}
use Rattle.rx_core.specs.declared.types.Span.{Span}
use Rattle.rx_typed.specs.PlainTypes.{declarations}
use Rattle.rx_typeck_typed.specs.declared.typed.Typed.{Typed}
use Rattle.rx_meaning.specs.Expressions.{Functions}
use Rattle.rx_machine.specs.Functions.{typed_functions}
use Rattle.rx_engine_extracted.specs.PlainPrograms.{plain-Functions}
use Rattle.rx_engine_extraction.specs.Confirmed.{is_of_unit}
use Rattle.rx_engine_extraction.specs.Confirming.{elsewhere_by}
use Rattle.rx_engine_extraction.specs.Deciding.{text_of}
use Rattle.rx_engine_extraction.proofs.Comparing.{told_is, same_units, compared_so}
use Rattle.rx_engine_extraction.proofs.confirming.compared.Goals as goal

pub returns : goal.returns
returns c =
    let T = text_of c.args.given.now in let x = c.args.decision.now in let g = c.args.function.now in
    let t = c.args.given.now.front.now.typed in let u = c.args.answer.now.typed in
    let functions : plain-Functions c.as_slice-2.result.now ≡ typed_functions (declarations t.decls.items) t.functions =
    ap plain-Functions c.as_slice-2.ensures.value ∙ c.in_ok-functions.ensures in
    let told = told_is T x c.requires.told c.args.new_fn c.args.made g
    c.as_slice-3.result.now c.as_slice-4.result.now c.as_slice-5.result.now c.as_slice-6.result.now c.as_slice-8.result.now (length c.as_slice-7.result.now)
    c.is_of_unit-gives_unit.result (is_of_unit (declarations u.decls.items) c.args.new_fn)
    c.as_slice-3.ensures c.as_slice-4.ensures
    (c.as_slice-5.ensures.value ∙ (c.in_ok-elsewhere.ensures ∙ ap (λ (l : List Bool). elsewhere_by x.plans.plan l) c.as_slice.ensures)) c.as_slice-6.ensures
    (c.as_slice-8.ensures.value ∙ (c.in_ok-units.ensures ∙ same_units (plain-Functions c.as_slice-2.result.now) (typed_functions (declarations t.decls.items) t.functions)
    c.typed.result.now t functions c.typed.ensures.same)) (ap (λ (l : List Span). length l) c.as_slice-7.ensures)
    (c.is_of_unit-gives_unit.ensures ∙ ap (λ (y : Typed). is_of_unit (declarations y.decls.items) c.args.new_fn) c.typed-2.ensures.same) in
    compared_so _ _ x.run.function (plain-Functions c.as_slice-9.result.now) (typed_functions (declarations t.decls.items) t.functions)
    (plain-Functions c.as_slice-10.result.now) (typed_functions (declarations u.decls.items) u.functions) c.main.result _ c.main-2.result _ c.extracts.result told
    (ap plain-Functions c.as_slice-9.ensures.value ∙ c.in_ok-functions.ensures) (c.main.ensures ∙ c.requires.front.main)
    (ap plain-Functions c.as_slice-10.ensures.value ∙ c.in_ok-others.ensures) c.main-2.ensures c.extracts.ensures
