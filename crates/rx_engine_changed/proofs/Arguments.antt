-- The arguments of the call fit the parameters that the new function declares.
use Rattle.std.proofs.Common.{◌≡◌, ℕ, zero, suc, ◌+◌, true, false, IsTrue, List, [], ◌∷◌, ◌++◌, map, length, Some, slice_get, refl, ap, ◌∙◌, arith}
use Rattle.rx_tree.specs.Lists.{Every}
use Rattle.rx_typed.specs.Types.{integer, boolean, keeps_limits, outline, parameters_declared, reference, result_declared, tuple_of, named as item, Typ}
use Rattle.rx_typed.specs.Named.{Exp, Exps}
use Rattle.rx_resolve_names.specs.Scopes.{variable_named}
use Rattle.rx_hoist_extraction.specs.Plan.{Mode, Param}
use Rattle.rx_hoist_extraction.specs.NewFunction.{passed, passed_types, viewed}
use Rattle.rx_typeck_solver.specs.Facts.{coerced, KnownItems}
use Rattle.rx_typeck_solver.specs.declared.facts.Subject.TheVariants as subject
use Rattle.rx_typeck_typed.specs.Demands.{argument_count}
use Rattle.rx_engine_names.specs.Renaming.{Renaming}
use Rattle.rx_engine_names.specs.Calls.{AreArguments, Calls, IsArgument, IsCall}
use Rattle.rx_engine_names.specs.Calls.Passed.{passed_on}
use Rattle.rx_engine_names.specs.Calls.IsArgument.{argument_by_value, argument_by_reborrow, argument_by_view, argument_by_shared, argument_by_mut}
use Rattle.rx_engine_names.specs.Calls.AreArguments.{no_argument, more_arguments}
use Rattle.rx_engine_names.specs.Calls.IsCall.{is_call}
use Rattle.rx_engine_blocks.specs.Renumbering.{shape_at, Renumbering}
use Rattle.rx_engine_holes.specs.Entries.{Context, Entries}
use Rattle.rx_engine_holes.specs.CallFits.{ArgumentsFit, GivenFits, ValueFits}
use Rattle.rx_engine_holes.specs.CallFits.GivenFits.{by_itself, borrowed}
use Rattle.rx_engine_holes.specs.CallFits.ArgumentsFit.{no_arguments, more_arguments as more_fit}
use Rattle.rx_engine_holes.specs.CallFits.ValueFits.{a_call}
use Rattle.rx_engine_changed.specs.Arguments.{ArePassed, HasItsType, IsPassed, PassesOn}

one_more : (j k : ℕ) → j + suc k ≡ suc j + k
one_more j k = omega (arith)

none_more : (j : ℕ) → j + zero ≡ j
none_more j = omega (arith)

none_before : (k : ℕ) → k ≡ zero + k
none_before k = omega (arith)

pub fits_itself : (t : Typ) → coerced t t ≡ t
fits_itself (integer k) = refl
fits_itself boolean = refl
fits_itself (tuple_of ts) = refl
fits_itself (reference true t) = refl
fits_itself (reference false t) = refl
fits_itself (item i) = refl

module _ (E : KnownItems) (B : Context) (q : Renumbering) where
  -- a mutable reference fits a shared one
  fits_view : (t : Typ) → coerced (shape_at q t) (shape_at q (viewed t)) ≡ shape_at q t
  fits_view (integer k) = refl
  fits_view boolean = refl
  fits_view (tuple_of ts) = refl
  fits_view (reference true t) = refl
  fits_view (reference false t) = refl
  fits_view (item i) = refl

  module _ (C : Calls) (R : Renaming) where
    argument_fits : {m : Mode} {y : List ℕ} {e : Exp} (t : Typ) → IsArgument C R y m e → IsPassed e → ((j k : ℕ) → variable_named C.scope y ≡ Some j → R.variable j k ≡ true → B (subject.Variable k) ≡ Some (shape_at q t))
        → IsTrue (keeps_limits E.sizes (outline (shape_at q (passed m t)))) → (a : Entries) × GivenFits E B e (shape_at q (passed m t)) a
    argument_fits t (argument_by_value (passed_on s v r)) p h l = (_, by_itself (h _ _ v r) p.1 p.0 (fits_itself (shape_at q t)))
    argument_fits t (argument_by_reborrow (passed_on s v r)) p h l = (_, by_itself (h _ _ v r) p.1 p.0 (fits_itself (shape_at q t)))
    argument_fits t (argument_by_view (passed_on s v r)) p h l = (_, by_itself (h _ _ v r) p.1 p.0 (fits_view t))
    argument_fits t (argument_by_shared z (passed_on s v r)) p h l = (_, borrowed (h _ _ v r) p.1.0 p.0.0 p.0.1 p.1.1 l refl)
    argument_fits t (argument_by_mut z (passed_on s v r)) p h l = (_, borrowed (h _ _ v r) p.1.0 p.0.0 p.0.1 p.1.1 l refl)

    abbrev types : List Param → List Typ
    types xs = map (shape_at q) (passed_types xs)

    all_fit : (xs : List Param) {es : Exps} (g k : ℕ) → AreArguments C R xs es → ArePassed es → Every (HasItsType E B q C R) xs
        → ((j : ℕ) → slice_get (parameters_declared (slice_get E.items g)) (j + k) ≡ slice_get (types xs) j) → (a : Entries) × ArgumentsFit E B g k es a
    all_fit [] g k no_argument p h s = ([], no_arguments)
    all_fit (x ∷ xs) g k (more_arguments i is) p h s =
        let a = argument_fits x.variable.typ i p.0 h.0.0 h.0.1 in
        let b = all_fit xs g (suc k) is p.1 h.1 (λ j. ap (slice_get (parameters_declared (slice_get E.items g))) (one_more j k) ∙ s (suc j)) in
        (a.0 ++ b.0, more_fit (ap (slice_get (parameters_declared (slice_get E.items g))) (none_before k) ∙ s zero) a.1 b.1)

    as_many : (xs : List Param) {es : Exps} → AreArguments C R xs es → length (types xs) ≡ argument_count es
    as_many [] no_argument = refl
    as_many (x ∷ xs) (more_arguments i is) = ap suc (as_many xs is)

    pub call_fits : (f : ℕ) {e : Exp} (u t : Typ) → IsCall C R e → PassesOn e → Every (HasItsType E B q C R) C.plan.params → parameters_declared (slice_get E.items C.number) ≡ types C.plan.params
        → result_declared (slice_get E.items C.number) ≡ Some t → (made : Entries) × ValueFits E f B e u t made
    call_fits f u t (is_call s is) p h i r =
        let a = all_fit C.plan.params C.number zero is p h (λ j. ap (slice_get (parameters_declared (slice_get E.items C.number))) (none_more j) ∙ ap (λ us. slice_get us j) i) in
        (_, a_call (ap length i ∙ as_many C.plan.params is) a.1 r)
