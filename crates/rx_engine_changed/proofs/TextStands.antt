-- Where the text's variables stand where its run begins, and both have come there in step, those that correspond stand where the call begins.
use Rattle.std.proofs.Common.{◌≡◌, ◌≤◌, ◌<◌, ◌⊎◌, inl, inr, ℕ, true, List, Option, Some, option_map, slice_get, refl, sym, ap, ◌∙◌, subst, arith}
use Rattle.rx_resolve_names.specs.Meant.{number}
use Rattle.rx_typed.specs.declared.nodes.Declaration.{Declaration}
use Rattle.rx_typed.specs.declared.nodes.Stage.{Stage}
use Rattle.rx_typed.specs.Naming.{declaration, not_declared, Cursor}
use Rattle.rx_typed.specs.Types.{Typ}
use Rattle.rx_hoist_extraction.specs.Plan.{to_break, to_continue, to_next, to_return, Exit, Param, Variable}
use Rattle.rx_hoist_extraction.specs.Values.{held_by, next_values, result_of, Value}
use Rattle.rx_typeck_solver.specs.declared.facts.Subject.{Subject}
use Rattle.rx_typeck_solver.specs.declared.facts.Subject.TheVariants as subject
use Rattle.rx_typeck_solver.specs.Facts.{Assignment, KnownItems}
use Rattle.rx_engine_names.specs.Renaming.{Renaming}
use Rattle.rx_engine_names.specs.HandedOut.{Handing}
use Rattle.rx_engine_blocks.specs.Renumbering.{shape_at}
use Rattle.rx_engine_holes.specs.Entries.{of_text, Context}
use Rattle.rx_engine_changed.specs.Beside.{paired, AllCorrespond, Follows, IsPiece, Numbers, Piece}
use Rattle.rx_engine_changed.specs.HandedTypes.{CallStands, IsStaged, NameStands, OutsStand, ParamStands, ValueStands, VariableStands}
use Rattle.rx_engine_changed.specs.Round.{as_mutable}
use Rattle.rx_engine_changed.specs.Spots.{declared_at, spot, Spot}
use Rattle.rx_engine_changed.specs.Stages.{given, known, not_yet, waits, InStep, LikeDeclared}
use Rattle.rx_engine_changed.specs.TextStands.{IsStagedHere, NameStandsHere, OutsStandHere, ParamStandsHere, StandsHere, TextStands, ValueStandsHere}
use Rattle.rx_engine_changed.proofs.GoingOn.{below_or, beyond, like_none_back, none_beyond}
use Rattle.rx_engine_changed.proofs.Matched.{every_such}
use Rattle.rx_engine_changed.proofs.Steps.{or_else, read}

module _ (R : Renaming) (q : Numbers) (follows : Follows R q) (A : Assignment) (made : List Piece) (c c' : Cursor) (step : InStep R as_mutable made c c') (correspond : AllCorrespond q made) (in_front : (n n' : ℕ) → IsPiece (paired n n') made → n' < c'.number) where
  abbrev B : Context
  B = of_text q.by q.back A

  node_typed : (n n' : ℕ) (t : Typ) → q.by.nodes n ≡ n' → A (subject.Node n) ≡ t → B (subject.Node n') ≡ Some (shape_at q.by t)
  node_typed n n' t e h =
      subst (λ (k : ℕ). B (subject.Node k) ≡ Some (shape_at q.by t)) e
      (ap (λ (o : Option ℕ). option_map (λ (x : Subject). shape_at q.by (A x)) (option_map subject.Node o)) (q.back.node_there n) ∙ ap (λ (u : Typ). Some (shape_at q.by u)) h)

  variable_typed : (n m : ℕ) (t : Typ) → q.by.variables n ≡ m → A (subject.Variable n) ≡ t → B (subject.Variable m) ≡ Some (shape_at q.by t)
  variable_typed n m t e h =
      subst (λ (k : ℕ). B (subject.Variable k) ≡ Some (shape_at q.by t)) e
      (ap (λ (o : Option ℕ). option_map (λ (x : Subject). shape_at q.by (A x)) (option_map subject.Variable o)) (q.back.variable_there n) ∙ ap (λ (u : Typ). Some (shape_at q.by u)) h)

  module _ (n m : ℕ) (r : R.variable n m ≡ true) where
    staged_by : {o o' : Option Declaration} (t : Typ) → LikeDeclared made (as_mutable n m) o o' → IsStagedHere A t (or_else not_declared o).stage → IsStaged B (spot c') (shape_at q.by t) (or_else not_declared o').stage
    staged_by t not_yet h = absurd h
    staged_by t (known w) h = tt
    staged_by t (given w) h = absurd h
    staged_by t (waits {p = p} {p' = p'} w i) h = (in_front p p' i, node_typed p p' t (correspond (paired p p') i) h)

    known_by : {o o' : Option Declaration} → LikeDeclared made (as_mutable n m) o o' → (or_else not_declared o).stage ≡ Stage.Known → (or_else not_declared o').stage ≡ Stage.Known
    known_by not_yet e = e
    known_by (known w) e = refl
    known_by (given w) e = e
    known_by (waits w i) e = absurd (cc)

    mutable_by : {o o' : Option Declaration} → LikeDeclared made (as_mutable n m) o o' → (or_else not_declared o').mutable ≡ (or_else not_declared o).mutable
    mutable_by not_yet = refl
    mutable_by (known w) = w
    mutable_by (given w) = w
    mutable_by (waits w i) = w

    here : declaration c n ≡ or_else not_declared (slice_get c.variables n)
    here = read c.variables n not_declared

    there : declared_at (spot c') m ≡ or_else not_declared (slice_get c'.variables m)
    there = read c'.variables m not_declared

    stands_there : (t : Typ) → StandsHere A c n t → VariableStands B (spot c') m (shape_at q.by t)
    stands_there t h = record {
      earlier = by (below_or m c'.declared);
      typed = variable_typed n m t (follows.variables n m r) h.typed;
      staged = subst (λ (d : Declaration). IsStaged B (spot c') (shape_at q.by t) d.stage) (sym there) (staged_by t (step.variables n m r) (subst (λ (d : Declaration). IsStagedHere A t d.stage) here h.staged));
    }
      where
        by : (m < c'.declared) ⊎ (c'.declared ≤ m) → m < c'.declared
        by (inl k) = k
        by (inr k) =
            let y = none_beyond c.variables n (like_none_back (step.variables n m r) (beyond c'.variables m (let e = step.counted' in omega (arith, e, k)))) in
            let e = step.counted in let a = h.earlier in absurd (omega (arith, y, e, a))

    known_there : (declaration c n).stage ≡ Stage.Known → (declared_at (spot c') m).stage ≡ Stage.Known
    known_there e = ap (λ (d : Declaration). d.stage) there ∙ known_by (step.variables n m r) (ap (λ (d : Declaration). d.stage) (sym here) ∙ e)

    mutable_there : (declaration c n).mutable ≡ true → (declared_at (spot c') m).mutable ≡ true
    mutable_there e = ap (λ (d : Declaration). d.mutable) there ∙ mutable_by (step.variables n m r) ∙ ap (λ (d : Declaration). d.mutable) (sym here) ∙ e

  module _ (E : KnownItems) (G : Handing) where
    name_there : (v : Variable) → NameStandsHere A G.call c v → NameStands G.call R q.by B (spot c') v
    name_there v h j k e r = stands_there j k r v.typ (h j e)

    param_there : (x : Param) → ParamStandsHere A E q.by G.call c x → ParamStands E G.call R q.by B (spot c') x
    param_there x h = (λ j k e r. let y = h.0 j e in (stands_there j k r x.variable.typ y.0, known_there j k r y.1, λ m. mutable_there j k r (y.2 m)), h.1)

    value_there : (v : Value) → ValueStandsHere A G c v → ValueStands G R q.by B (spot c') v
    value_there (result_of t) h = tt
    value_there (held_by v) h = λ e. name_there v (h e)

    outs_there : (x : Exit) (vs : List Variable) → OutsStandHere A G c x vs → OutsStand G R q.by B (spot c') x vs
    outs_there (to_break k) vs h = every_such vs (λ v y. name_there v y) h
    outs_there (to_continue k) vs h = every_such vs (λ v y. name_there v y) h
    outs_there to_next vs h = tt
    outs_there to_return vs h = tt

    pub call_stands : (end : Spot) → ((k : ℕ) → k < end.declared → number k ≡ k) → TextStands A E q.by G c → CallStands E q.by G R B (spot c') end
    call_stands end few h = record {
      counted = step.counted';
      few = few;
      params = every_such G.call.plan.params (λ x y. param_there x y) h.params;
      values = every_such (next_values G.call.plan) (λ v y. value_there v y) h.values;
      exits = every_such G.call.plan.exits (λ x y. outs_there x.exit x.outs y) h.exits;
    }
