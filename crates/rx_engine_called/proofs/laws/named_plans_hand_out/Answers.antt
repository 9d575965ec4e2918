use Rattle.std.proofs.Common.{ℕ, ◌≡◌, ◌<◌, true, List, length, refl, Some, subst}
use Rattle.rx_parse_grammar.proofs.Numbered.{text_numbered}
use Rattle.rx_core.specs.declared.types.Span.{Span}
use Rattle.rx_tree.specs.Lists.{Every, nth}
use Rattle.rx_tree.specs.Plain as plain
use Rattle.rx_tree.specs.Plain.{Function}
use Rattle.rx_tree.specs.Size.{IsNumbered}
use Rattle.rx_resolve_names.specs.declared.resolved.ItemNames.{ItemNames}
use Rattle.rx_typed.specs.Tree as tree
use Rattle.rx_typeck_typed.specs.declared.typed.Typed.{Typed}
use Rattle.rx_exits_plan.specs.Runs.{Sits}
use Rattle.rx_exits_plan.specs.Asked.{Asked}
use Rattle.rx_exits_plan.specs.Plan.{variables_of}
use Rattle.rx_hoist_extraction.specs.FormedPlan.{FormedPlan}
use Rattle.rx_hoist_extraction.specs.Names.{is_among}
use Rattle.rx_hoist_extraction.specs.Plan.{Leaving, Variable}
use Rattle.rx_hoist_naming.specs.NamedPlan.{named_plan, names_in, Told}
use Rattle.rx_engine_names.proofs.FreeRuns.{declared_are_known}
use Rattle.rx_engine_called.specs.Planned.{Planned}
use Rattle.rx_engine_called.proofs.Alone as lone
use Rattle.rx_engine_called.proofs.Received.{all_received}
use Rattle.rx_engine_called.proofs.Words.{outs_named, redeclared_named, types_named, words_there}
use Rattle.rx_engine_called.proofs.laws.named_plans_hand_out.Goals as goal

pub returns : goal.returns
returns c = record {
  types = λ A q bytes names t k. types_named A.program (names_in A) A.function (c.types_name_types.ensures.tables A.program names t (numbered A q bytes names t k) k.meant k.typed A.function k.among) A.plan.redeclared;
  alone = λ A q bytes names t k. lone.alone A q k.sits k.plan;
  outs = λ A q bytes names t k s f e. outs A q bytes names t k s f e;
  redeclared = λ A q bytes names t k s f e. redeclared_named (λ x. is_among x (named_plan A).identifiers ≡ true) A (words A q bytes names t k s f e) q k.plan k.agree (below A q bytes names t k);
  received = λ A q bytes names t k s f e own.
      let x = formed A q bytes names t k in
      all_received (named_plan A) own x.fresh_handed (outs A q bytes names t k s f e) (λ x i. c.named_plans_have_distinct_names.ensures.outs A q k.plan k.agree k.visible x i);
  fresh_exits = λ A q bytes names t k. let x = formed A q bytes names t k in x.fresh_variables;
  fresh_values = λ A q bytes names t k. let x = formed A q bytes names t k in x.fresh_handed;
}
  where
    numbered : (A : Told) (q : Asked) (bytes : List ℕ) (names : List ItemNames) (t : Typed) → Planned A q bytes names t → IsNumbered A.program
    numbered A q bytes names t k = text_numbered bytes A.program k.parsed k.short

    below : (A : Told) (q : Asked) (bytes : List ℕ) (names : List ItemNames) (t : Typed) → Planned A q bytes names t → Every (λ (x : ℕ). x < length (names_in A)) (variables_of q)
    below A q bytes names t k = c.runs_have_names.ensures A.program names t (numbered A q bytes names t k) k.meant k.typed A.function k.among q.run q.home (subst (λ (f : tree.Function). Sits f q.run q.home) k.function k.sits)

    words : (A : Told) (q : Asked) (bytes : List ℕ) (names : List ItemNames) (t : Typed) → Planned A q bytes names t → (s : Span) (f : Function) → nth A.program A.function.item ≡ Some (plain.function_item s f)
        → Every (λ (x : List ℕ). is_among x (named_plan A).identifiers ≡ true) (names_in A)
    words A q bytes names t k s f e =
        words_there (λ (x : List ℕ). is_among x (named_plan A).identifiers ≡ true) A s f e
        (declared_are_known (length bytes) A.tokens A.program (record { text = bytes; lexed = k.lexed; parsed = k.parsed; long = refl }) A.function.item s f e)

    outs : (A : Told) (q : Asked) (bytes : List ℕ) (names : List ItemNames) (t : Typed) → Planned A q bytes names t → (s : Span) (f : Function) → nth A.program A.function.item ≡ Some (plain.function_item s f)
        → Every (λ (x : Leaving). Every (λ (v : Variable). is_among v.name (named_plan A).identifiers ≡ true) x.outs) (named_plan A).exits
    outs A q bytes names t k s f e = outs_named (λ x. is_among x (named_plan A).identifiers ≡ true) A (words A q bytes names t k s f e) q k.plan k.agree (below A q bytes names t k)

    formed : (A : Told) (q : Asked) (bytes : List ℕ) (names : List ItemNames) (t : Typed) → Planned A q bytes names t → FormedPlan A.program (named_plan A)
    formed A q bytes names t k =
        c.named_plans_are_formed.ensures A bytes names t k.lexed k.parsed k.short k.meant k.typed k.declared k.among k.word q (subst (λ (f : tree.Function). Sits f q.run q.home) k.function k.sits) k.plan k.agree k.few
