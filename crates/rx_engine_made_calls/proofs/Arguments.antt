-- The arguments of the call, in the five modes: what is expected of each is what it is passed as, so each has its own type there but a view.
use Rattle.std.proofs.Common.{◌≡◌, ◌+◌, ℕ, zero, suc, Bool, true, false, List, ◌∷◌, map, slice_get, Some, refl, sym, ap, ◌∙◌, subst, arith}
use Rattle.rx_resolve_names.specs.Scopes.{variable_named}
use Rattle.rx_typed.specs.declared.nodes.Use.{Use}
use Rattle.rx_typed.specs.Types.{boolean, integer, named as item, parameters_declared, reference, tuple_of, Typ}
use Rattle.rx_typed.specs.Elaborated.{Assigned}
use Rattle.rx_typed.specs.Named.{Exp, Exps}
use Rattle.rx_hoist_extraction.specs.Plan.{Param}
use Rattle.rx_hoist_extraction.specs.Plan as hoist
use Rattle.rx_hoist_extraction.specs.NewFunction.{passed, passed_types, viewed}
use Rattle.rx_hoist_plan.specs.PlainPlan.{plain-Mode}
use Rattle.rx_typeck_solver.specs.declared.facts.Subject.TheVariants as subject
use Rattle.rx_typeck_solver.specs.Facts.{Assignment, KnownItems}
use Rattle.rx_modes_policy.specs.declared.uses.Mode.{Mode}
use Rattle.rx_modes_policy.specs.declared.uses.Mode.TheVariants as mode
use Rattle.rx_engine_names.specs.Renaming.{Renaming as Pairing}
use Rattle.rx_engine_names.specs.Calls.{AreArguments, Calls, IsArgument}
use Rattle.rx_engine_names.specs.Calls.Passed.{passed_on}
use Rattle.rx_engine_names.specs.Calls.IsArgument.{argument_by_value, argument_by_reborrow, argument_by_view, argument_by_shared, argument_by_mut}
use Rattle.rx_engine_names.specs.Calls.AreArguments.{no_argument, more_arguments}
use Rattle.rx_engine_blocks.specs.Renumbering.{shape_at, Renumbering}
use Rattle.rx_engine_typing.specs.Corresponding.{given_types}
use Rattle.rx_engine_holes.specs.Entries.{Context, Entries, Has}
use Rattle.rx_engine_holes.specs.CallFits.{ArgumentsFit, GivenFits}
use Rattle.rx_engine_holes.specs.CallFits.GivenFits.{by_itself, borrowed}
use Rattle.rx_engine_holes.specs.CallFits.ArgumentsFit.{no_arguments, more_arguments as more_fit}
use Rattle.rx_engine_simulation.specs.Sights.{How, Renaming}
use Rattle.rx_engine_made_trees.specs.Arguments.{ArgumentFor, ArgumentsFor}
use Rattle.rx_engine_made_trees.specs.Arguments.ArgumentFor.{a_borrow, a_loan, again as by_reborrow, as_shared, itself}
use Rattle.rx_engine_made_trees.specs.Arguments.ArgumentsFor.{more_arguments as more_for, no_arguments as none_for}
use Rattle.rx_engine_made_calls.specs.Plans.{HasType, ParamsAre}
use Rattle.rx_engine_made_calls.specs.Plans.ParamsAre.{more_params, no_params}
use Rattle.rx_engine_made_calls.specs.Contexts.{Tells}
use Rattle.rx_engine_made_calls.proofs.Telling.{has_first, one_some}

one_more : (j k : ℕ) → j + suc k ≡ suc j + k
one_more j k = omega (arith)

none_before : (k : ℕ) → k ≡ zero + k
none_before k = omega (arith)

viewed_there : (q : Renumbering) (t : Typ) → shape_at q (viewed t) ≡ viewed (shape_at q t)
viewed_there q (integer k) = refl
viewed_there q boolean = refl
viewed_there q (tuple_of ts) = refl
viewed_there q (reference m t) = refl
viewed_there q (item i) = refl

module _ (E : KnownItems) (q : Renumbering) (C : Calls) (N : Pairing) (W : Assignment) (B : Context) (tells : Tells W B) where
  abbrev T : Assigned
  T = given_types E W

  -- the variable that is passed for this one of the text, with its type and the one that is expected
  record Argument (x : ℕ) (t : Typ) (m : Mode) (e : Exp) : Type 0 where
    to : ℕ
    paired : N.variable x to ≡ true
    argument : ArgumentFor T to (shape_at q t) m e

  own_type : (name : List ℕ) (y : Use) (t : Typ) {x j : ℕ} {v : Typ} → variable_named C.scope name ≡ Some x → HasType N q W x t → variable_named C.scope name ≡ Some j → N.variable j y.number ≡ true → B (subject.Variable y.number) ≡ Some v
      → (N.variable x y.number ≡ true) × (v ≡ shape_at q t)
  own_type name y t {x = x} {j = j} {v = v} n h m r b = let p = subst (λ (i : ℕ). N.variable i y.number ≡ true) (one_some j x (sym m ∙ n)) r in (p, sym (tells _ v b) ∙ h y.number p)

  argument_for : (t : Typ) {x : ℕ} {u : Typ} (m : Mode) {name : List ℕ} {e : Exp} {a : Entries} → variable_named C.scope name ≡ Some x → HasType N q W x t → IsArgument C N name (plain-Mode m) e → GivenFits E B e u a → Has W a → u ≡ shape_at q (passed (plain-Mode m) t) → Argument x t m e
  argument_for t mode.Value {name = name} n h (argument_by_value (passed_on {u = y} s v r)) (by_itself b known site fits) w i = let p = own_type name y t n h v r b in
      record { to = y.number; paired = p.0; argument = itself refl site (w.0 ∙ p.1) (w.1.0 ∙ i) }
  argument_for t mode.Reborrow {name = name} n h (argument_by_reborrow (passed_on {u = y} s v r)) (by_itself b known site fits) w i = let p = own_type name y t n h v r b in
      record { to = y.number; paired = p.0; argument = by_reborrow refl site (w.0 ∙ p.1) (w.1.0 ∙ i) }
  argument_for t mode.View {name = name} n h (argument_by_view (passed_on {u = y} s v r)) (by_itself b known site fits) w i = let p = own_type name y t n h v r b in
      record { to = y.number; paired = p.0; argument = as_shared refl site (w.0 ∙ p.1) (w.1.0 ∙ (i ∙ viewed_there q t)) }
  argument_for t mode.Shared {name = name} n h (argument_by_shared z (passed_on {u = y} s v r)) (borrowed b known site place mutable limits fits) w i = let p = own_type name y t n h v r b in
      record { to = y.number; paired = p.0; argument = a_borrow refl site (w.1.0 ∙ ap (reference false) p.1) }
  argument_for t mode.Mut {name = name} n h (argument_by_mut z (passed_on {u = y} s v r)) (borrowed b known site place mutable limits fits) w i = let p = own_type name y t n h v r b in
      record { to = y.number; paired = p.0; argument = a_loan refl site (w.1.0 ∙ ap (reference true) p.1) (w.1.1.0 ∙ i) }

  abbrev Types : List Param → List Typ
  Types ps = map (shape_at q) (passed_types ps)

  pub arguments_for : {again : Bool} {R : Renaming} {cold : List ℕ} {ps : List Param} {xs : List ℕ} {ms : List Mode} {hs : List How} {es : Exps} {g i : ℕ} {a : Entries} → ParamsAre C N q W again R cold ps xs ms hs → AreArguments C N ps es → ArgumentsFit E B g i es a → Has W a
      → ((j : ℕ) → slice_get (parameters_declared (slice_get E.items g)) (j + i) ≡ slice_get (Types ps) j) → ArgumentsFor T again R cold xs ms es hs
  arguments_for no_params no_argument no_arguments w d = none_for
  arguments_for {ps = p ∷ ps} {g = g} {i = i} (more_params {m = m} param params) (more_arguments {e = e} is rest) (more_fit {u = u} {a = a} {b = b} there fit fits) w d =
      let h = has_first W a b w in
      let u_is = one_some u _ (sym there ∙ (ap (slice_get (parameters_declared (slice_get E.items g))) (none_before i) ∙ d zero)) in
      let z = argument_for p.variable.typ m param.named param.typed (subst (λ (o : hoist.Mode). IsArgument C N p.variable.name o e) param.mode is) fit h.0 (u_is ∙ ap (λ (o : hoist.Mode). shape_at q (passed o p.variable.typ)) param.mode) in
      more_for z.to (shape_at q p.variable.typ) (param.seen z.to z.paired) z.argument
      (arguments_for params rest fits h.1 (λ j. ap (slice_get (parameters_declared (slice_get E.items g))) (one_more j i) ∙ d (suc j)))
