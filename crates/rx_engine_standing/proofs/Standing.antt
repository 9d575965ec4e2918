-- A variable that stands where a run begins has one that stands where the call does: with the type by other numbers, known or waiting alike.
use Rattle.std.proofs.Common.{◌≡◌, ◌≤◌, ◌<◌, ℕ, zero, suc, Bool, true, false, List, [], ◌∷◌, length, Option, Some, None, option_map, slice_get, refl, sym, ap, ◌∙◌, subst, arith}
use Rattle.rx_core.specs.declared.types.Span.{Span}
use Rattle.rx_typed.specs.declared.nodes.Stage.{Stage}
use Rattle.rx_typed.specs.declared.nodes.Declaration.{Declaration}
use Rattle.rx_typed.specs.Naming.{declaration, not_declared, Cursor}
use Rattle.rx_typed.specs.Types.{Typ}
use Rattle.rx_hoist_extraction.specs.Plan.{to_break, to_continue, to_next, to_return, Exit, Leaving, Param, Variable}
use Rattle.rx_hoist_extraction.specs.Values.{held_by, next_values, result_of, Value}
use Rattle.rx_hoist_extraction.specs.NewFunction.{passed}
use Rattle.rx_typeck_solver.specs.declared.facts.Subject.TheVariants as subject
use Rattle.rx_typeck_solver.specs.Facts.{Assignment, KnownItems}
use Rattle.rx_engine_names.specs.Renaming.{Renaming}
use Rattle.rx_engine_names.specs.HandedOut.{Handing}
use Rattle.rx_engine_blocks.specs.Renumbering.{shape_at, Renumbering}
use Rattle.rx_engine_blocks.specs.Knows.{Knows}
use Rattle.rx_engine_holes.specs.Entries.{of_text, Context}
use Rattle.rx_engine_changed.specs.Beside.{paired, Follows, IsPiece, Numbers, Piece}
use Rattle.rx_engine_changed.specs.HandedTypes.{CallStands, IsStaged, NameStands, OutsStand, ParamStands, ValueStands, VariableStands}
use Rattle.rx_engine_changed.specs.Round.{as_mutable}
use Rattle.rx_engine_changed.specs.Spots.{declared_at, spot, Spot}
use Rattle.rx_engine_changed.specs.Stages.{known, given, not_yet, waits, InStep, LikeDeclared}
use Rattle.rx_engine_changed.proofs.Lists.{read_at, there_below}
use Rattle.rx_engine_standing.specs.InFront.{InFront}
use Rattle.rx_engine_standing.specs.PlanFits.{PlanFits}
use Rattle.rx_engine_standing.specs.RunBegins.{NameBegins, OutsBegin, ParamBegins, RunBegins, StagedAt, ValueBegins, VariableBegins}
use Rattle.rx_engine_standing.proofs.Lists.{both, each}
use Rattle.rx_engine_standing.proofs.Limits.{low_keeps, Low}
use Rattle.rx_engine_standing.proofs.Values.{passed_low}

-- ---- one variable in both

data LikeStage (made : List Piece) : Stage → Stage → Type 0 where
  both_known : LikeStage made Stage.Known Stage.Known
  both_given : LikeStage made Stage.Given Stage.Given
  both_wait : {p p' : ℕ} {s s' : Span} → IsPiece (paired p p') made → LikeStage made (Stage.Waits p s) (Stage.Waits p' s')

record Counterpart (made : List Piece) (d : Declaration) (o : Option Declaration) : Type 0 where
  there : Declaration
  is : o ≡ Some there
  mutable : there.mutable ≡ d.mutable
  stage : LikeStage made d.stage there.stage

abbrev mutable_of : Option Declaration → Bool
mutable_of None = false
mutable_of (Some d) = d.mutable

abbrev stage_of : Option Declaration → Stage
stage_of None = Stage.Given
stage_of (Some d) = d.stage

counterpart : (made : List Piece) (n m : ℕ) (d : Declaration) {o o' : Option Declaration} → LikeDeclared made (as_mutable n m) o o' → o ≡ Some d → Counterpart made d o'
counterpart made n m d not_yet e = absurd (cc)
counterpart made n m d (known w) e = record { there = _; is = refl; mutable = w ∙ ap mutable_of e; stage = subst (λ (s : Stage). LikeStage made s Stage.Known) (ap stage_of e) both_known }
counterpart made n m d (given w) e = record { there = _; is = refl; mutable = w ∙ ap mutable_of e; stage = subst (λ (s : Stage). LikeStage made s Stage.Given) (ap stage_of e) both_given }
counterpart made n m d (waits {p' = p'} {s' = s'} w i) e = record { there = _; is = refl; mutable = w ∙ ap mutable_of e; stage = subst (λ (s : Stage). LikeStage made s (Stage.Waits p' s')) (ap stage_of e) (both_wait i) }

there_is : (vs : List Declaration) (n : ℕ) → n < length vs → (x : Declaration) × (slice_get vs n ≡ Some x)
there_is [] n h = absurd (omega (arith, h))
there_is (v ∷ vs) zero h = (v, refl)
there_is (v ∷ vs) (suc n) h = there_is vs n (omega (arith, h))

-- ---- by the numbers of both

module _ (N : Numbers) (R : Renaming) (follows : Follows R N) (A : Assignment) (made : List Piece) (c c' : Cursor) (step : InStep R as_mutable made c c') (front : InFront N made c') where
  abbrev q : Renumbering
  q = N.by

  abbrev B : Context
  B = of_text q N.back A

  node_typed : (p p' : ℕ) (t : Typ) → q.nodes p ≡ p' → A (subject.Node p) ≡ t → B (subject.Node p') ≡ Some (shape_at q t)
  node_typed p p' t e h =
      ap (λ (n : ℕ). B (subject.Node n)) (sym e)
      ∙ ap (λ (o : Option ℕ). option_map (λ x. shape_at q (A x)) (option_map subject.Node o)) (N.back.node_there p)
      ∙ ap (λ (u : Typ). Some (shape_at q u)) h

  variable_typed : (j k : ℕ) (t : Typ) → q.variables j ≡ k → A (subject.Variable j) ≡ t → B (subject.Variable k) ≡ Some (shape_at q t)
  variable_typed j k t e h =
      ap (λ (n : ℕ). B (subject.Variable n)) (sym e)
      ∙ ap (λ (o : Option ℕ). option_map (λ x. shape_at q (A x)) (option_map subject.Variable o)) (N.back.variable_there j)
      ∙ ap (λ (u : Typ). Some (shape_at q u)) h

  staged_there : (t : Typ) {s s' : Stage} → LikeStage made s s' → StagedAt A t s → IsStaged B (spot c') (shape_at q t) s'
  staged_there t both_known h = tt
  staged_there t both_given h = absurd h
  staged_there t (both_wait i) h = let f = front _ _ i in (f.1, node_typed _ _ t f.0 h)

  known_there : {s s' : Stage} → LikeStage made s s' → s ≡ Stage.Known → s' ≡ Stage.Known
  known_there both_known e = refl
  known_there both_given e = absurd (cc)
  known_there (both_wait i) e = absurd (cc)

  record Both (j k : ℕ) (t : Typ) : Type 0 where
    stands : VariableStands B (spot c') k (shape_at q t)
    known : (declaration c j).stage ≡ Stage.Known → (declared_at (spot c') k).stage ≡ Stage.Known
    mutable : (declared_at (spot c') k).mutable ≡ (declaration c j).mutable

  in_both : (j k : ℕ) (t : Typ) → R.variable j k ≡ true → VariableBegins A c j t → Both j k t
  in_both j k t r h =
      let d = there_is c.variables j h.earlier in
      let here : declaration c j ≡ d.0 = read_at c.variables j not_declared d.0 d.1 in
      let o = counterpart made j k d.0 (step.variables j k r) d.1 in
      let there : declared_at (spot c') k ≡ o.there = read_at c'.variables k not_declared o.there o.is in
      record {
        stands = record {
          earlier = subst (λ (n : ℕ). k < n) step.counted' (there_below c'.variables k o.there o.is);
          typed = variable_typed j k t (follows.variables j k r) h.typed;
          staged = subst (λ (x : Declaration). IsStaged B (spot c') (shape_at q t) x.stage) (sym there) (staged_there t o.stage (subst (λ (x : Declaration). StagedAt A t x.stage) here h.staged));
        };
        known = λ e. ap (λ (x : Declaration). x.stage) there ∙ known_there o.stage (ap (λ (x : Declaration). x.stage) (sym here) ∙ e);
        mutable = ap (λ (x : Declaration). x.mutable) there ∙ o.mutable ∙ ap (λ (x : Declaration). x.mutable) (sym here);
      }

  module _ (G : Handing) where
    name_stands : (v : Variable) → NameBegins G.call A c v → NameStands G.call R q B (spot c') v
    name_stands v h j k e r = (in_both j k v.typ r (h j e)).stands

    value_stands : (v : Value) → ValueBegins G A c v → ValueStands G R q B (spot c') v
    value_stands (result_of t) h = tt
    value_stands (held_by v) h = λ o. name_stands v (h o)

    outs_stand : (e : Exit) (vs : List Variable) → OutsBegin G A c e vs → OutsStand G R q B (spot c') e vs
    outs_stand to_next vs h = tt
    outs_stand (to_break k) vs h = each (NameBegins G.call A c) (NameStands G.call R q B (spot c')) name_stands vs h
    outs_stand (to_continue k) vs h = each (NameBegins G.call A c) (NameStands G.call R q B (spot c')) name_stands vs h
    outs_stand to_return vs h = tt

    param_stands : (D E : KnownItems) → Knows q D E → (Z : ℕ → ℕ) → ((i : ℕ) → D.sizes i ≤ Z i) → (x : Param) → ParamBegins G.call A c x → Low Z (passed x.mode x.variable.typ) → ParamStands E G.call R q B (spot c') x
    param_stands D E k Z less x h low = (
      λ j m e r. let a = h j e in let b = in_both j m x.variable.typ r a.0 in (b.stands, b.known a.1, λ z. b.mutable ∙ a.2 z),
      low_keeps q E.sizes Z (λ i. subst (λ (n : ℕ). n ≤ Z i) (sym (k.sizes i)) (less i)) (passed x.mode x.variable.typ) low,
    )

    pub call_stands : (D E : KnownItems) → Knows q D E → (Z : ℕ → ℕ) → PlanFits Z D G.call.plan → (end : Spot) → end.declared ≤ 4294967296 → RunBegins G A c → CallStands E q G R B (spot c') end
    call_stands D E k Z fits end few h = record {
      counted = step.counted';
      few = λ n l. omega (arith, few, l);
      params = both (ParamBegins G.call A c) (λ (x : Param). Low Z (passed x.mode x.variable.typ)) (ParamStands E G.call R q B (spot c')) (param_stands D E k Z fits.sizes) G.call.plan.params h.params (passed_low Z G.call.plan fits.levels fits.parts);
      values = each (ValueBegins G A c) (ValueStands G R q B (spot c')) value_stands (next_values G.call.plan) h.values;
      exits = each (λ (x : Leaving). OutsBegin G A c x.exit x.outs) (λ (x : Leaving). OutsStand G R q B (spot c') x.exit x.outs) (λ x o. outs_stand x.exit x.outs o) G.call.plan.exits h.exits;
    }
