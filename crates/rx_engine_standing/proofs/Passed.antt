-- What a call passes is settled where it is called: each param's variable is given, itself or borrowed, where its declared type is expected.
use Rattle.std.proofs.Common.{◌≡◌, ◌+◌, ℕ, zero, suc, true, false, List, [], ◌∷◌, ◌++◌, map, Some, slice_get, refl, sym, ap, ◌∙◌, subst, arith}
use Rattle.rx_tree.specs.Lists.{Every}
use Rattle.rx_resolve_names.specs.Scopes.{variable_named}
use Rattle.rx_typed.specs.declared.nodes.Node.{Node}
use Rattle.rx_typed.specs.Named as named
use Rattle.rx_typed.specs.Named.{Exp, Exps}
use Rattle.rx_typed.specs.Types.{boolean, integer, named as item, parameters_declared, reference, tuple_of, Typ}
use Rattle.rx_hoist_extraction.specs.Plan.{Mode, Param}
use Rattle.rx_hoist_extraction.specs.NewFunction.{passed, passed_types, viewed}
use Rattle.rx_typeck_solver.specs.declared.facts.Subject.TheVariants as subject
use Rattle.rx_typeck_solver.specs.declared.facts.Demand.{Demand}
use Rattle.rx_typeck_solver.specs.Facts.{coerced, KnownItems}
use Rattle.rx_typeck_typed.specs.Demands.{of_exp}
use Rattle.rx_engine_names.specs.Renaming.{Renaming}
use Rattle.rx_engine_names.specs.Calls.{AreArguments, Calls, IsArgument, IsCall}
use Rattle.rx_engine_names.specs.Calls.Passed.{passed_on}
use Rattle.rx_engine_names.specs.Calls.IsArgument.{argument_by_value, argument_by_reborrow, argument_by_view, argument_by_shared, argument_by_mut}
use Rattle.rx_engine_names.specs.Calls.AreArguments.{no_argument, more_arguments}
use Rattle.rx_engine_names.specs.Calls.IsCall.{is_call}
use Rattle.rx_engine_blocks.specs.Given.{AreGiven, IsGiven}
use Rattle.rx_engine_blocks.specs.Renumbering.{shape_at, Renumbering}
use Rattle.rx_engine_blocks.specs.Settled.{IsNumber, Settles}
use Rattle.rx_engine_blocks.specs.Settled.IsNumber.{this_one, one_behind}
use Rattle.rx_engine_blocks.specs.Settled.Gives.{by_itself, borrowed}
use Rattle.rx_engine_blocks.specs.Settled.Settles.{an_argument}
use Rattle.rx_engine_changed.specs.Arguments.{ArePassed, IsPassed, PassesOn}
use Rattle.rx_engine_changed.specs.Beside.{IsOneToOne}
use Rattle.rx_engine_changed.proofs.Arguments.{fits_itself}

-- a mutable reference fits a shared one
fits_view : (q : Renumbering) (t : Typ) → coerced (shape_at q t) (shape_at q (viewed t)) ≡ shape_at q t
fits_view q (integer k) = refl
fits_view q boolean = refl
fits_view q (tuple_of ts) = refl
fits_view q (reference true t) = refl
fits_view q (reference false t) = refl
fits_view q (item i) = refl

same_number : (n m : ℕ) → Some n ≡ Some m → n ≡ m
same_number n m e = cc

one_more : (j k : ℕ) → j + suc k ≡ suc j + k
one_more j k = omega (arith)

none_before : (k : ℕ) → k ≡ zero + k
none_before k = omega (arith)

none_more : (j : ℕ) → j + zero ≡ j
none_more j = omega (arith)

module _ (C : Calls) (R : Renaming) (apart : IsOneToOne R) (E : KnownItems) (q : Renumbering) where
  given_one : {y : List ℕ} {m : Mode} {e : Exp} → IsArgument C R y m e → IsPassed e → IsGiven e
  given_one (argument_by_value (passed_on s v r)) p = p.0
  given_one (argument_by_reborrow (passed_on s v r)) p = p.0
  given_one (argument_by_view (passed_on s v r)) p = p.0
  given_one (argument_by_shared i (passed_on s v r)) p = p.0.0
  given_one (argument_by_mut i (passed_on s v r)) p = p.0.0

  given_each : {xs : List Param} {es : Exps} → AreArguments C R xs es → ArePassed es → AreGiven es
  given_each no_argument p = tt
  given_each (more_arguments i is) p = (given_one i p.0, given_each is p.1)

  -- the variable that corresponds to a name's
  that_one : (y : List ℕ) (l a j k : ℕ) → variable_named C.scope y ≡ Some l → R.variable l a ≡ true → variable_named C.scope y ≡ Some j → R.variable j k ≡ true → a ≡ k
  that_one y l a j k v r w z = apart.variables_on l a k r (subst (λ (i : ℕ). R.variable i k ≡ true) (sym (same_number l j (sym v ∙ w))) z)

  abbrev parameters : List Typ
  parameters = parameters_declared (slice_get E.items C.number)

  module _ (f : ℕ) (n : Node) (given : Exps) (all : AreGiven given) (es ds gs : List Demand) (asked : es ≡ of_exp f (named.call n C.number given) ds ++ gs) where
    abbrev Settled : Param → Type 0
    Settled x = (j k : ℕ) → variable_named C.scope x.variable.name ≡ Some j → R.variable j k ≡ true → Settles E es (subject.Variable k) (shape_at q x.variable.typ)

    moved : (t : Typ) (a k : ℕ) → a ≡ k → Settles E es (subject.Variable a) t → Settles E es (subject.Variable k) t
    moved t a k e s = subst (λ (i : ℕ). Settles E es (subject.Variable i) t) e s

    settled_at : (y : List ℕ) {m : Mode} {e : Exp} (i : ℕ) (t : Typ) → IsArgument C R y m e → IsNumber e i 0 given → slice_get parameters i ≡ Some (shape_at q (passed m t)) → (j k : ℕ) → variable_named C.scope y ≡ Some j → R.variable j k ≡ true
        → Settles E es (subject.Variable k) (shape_at q t)
    settled_at y i t (argument_by_value (passed_on {u = u} {j = l} s v r)) at d j k w z = moved (shape_at q t) u.number k (that_one y l u.number j k v r w z) (an_argument f n C.number given ds gs asked all at d (by_itself (fits_itself (shape_at q t))))
    settled_at y i t (argument_by_reborrow (passed_on {u = u} {j = l} s v r)) at d j k w z = moved (shape_at q t) u.number k (that_one y l u.number j k v r w z) (an_argument f n C.number given ds gs asked all at d (by_itself (fits_itself (shape_at q t))))
    settled_at y i t (argument_by_view (passed_on {u = u} {j = l} s v r)) at d j k w z = moved (shape_at q t) u.number k (that_one y l u.number j k v r w z) (an_argument f n C.number given ds gs asked all at d (by_itself (fits_view q t)))
    settled_at y i t (argument_by_shared x (passed_on {u = u} {j = l} s v r)) at d j k w z = moved (shape_at q t) u.number k (that_one y l u.number j k v r w z) (an_argument f n C.number given ds gs asked all at d borrowed)
    settled_at y i t (argument_by_mut x (passed_on {u = u} {j = l} s v r)) at d j k w z = moved (shape_at q t) u.number k (that_one y l u.number j k v r w z) (an_argument f n C.number given ds gs asked all at d borrowed)

    all_settled : (xs : List Param) {ps : Exps} (k : ℕ) → AreArguments C R xs ps → ((e : Exp) (i : ℕ) → IsNumber e i k ps → IsNumber e i 0 given) → ((j : ℕ) → slice_get parameters (j + k) ≡ slice_get (map (shape_at q) (passed_types xs)) j) → Every Settled xs
    all_settled [] k no_argument lift s = tt
    all_settled (x ∷ xs) k (more_arguments {e = e} i is) lift s = (
      settled_at x.variable.name k x.variable.typ i (lift e k this_one) (ap (slice_get parameters) (none_before k) ∙ s zero),
      all_settled xs (suc k) is (λ e i h. lift e i (one_behind h)) (λ j. ap (slice_get parameters) (one_more j k) ∙ s (suc j)),
    )

  pub call_settles : parameters ≡ map (shape_at q) (passed_types C.plan.params) → (f : ℕ) {e : Exp} → IsCall C R e → PassesOn e → (es ds gs : List Demand) → es ≡ of_exp f e ds ++ gs
      → Every (λ (x : Param). (j k : ℕ) → variable_named C.scope x.variable.name ≡ Some j → R.variable j k ≡ true → Settles E es (subject.Variable k) (shape_at q x.variable.typ)) C.plan.params
  call_settles declared f (is_call {n = n} {es = given} s is) p es ds gs asked =
      all_settled f n given (given_each is p) es ds gs asked C.plan.params 0 is (λ e i h. h) (λ j. ap (slice_get parameters) (none_more j) ∙ ap (λ (us : List Typ). slice_get us j) declared)
