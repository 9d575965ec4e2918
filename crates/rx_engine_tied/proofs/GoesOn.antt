-- A run with a value goes to its end by its form, since a walk comes to its end.
use Rattle.std.proofs.Common.{◌≡◌, ◌≢◌, ℕ, Bool, true, false, if◌then◌else◌, List, [], ◌∷◌, ◌++◌, map, Option, Some, None, refl, sym, ◌∙◌, subst, ◌⊎◌, inl, inr}
use Rattle.std.specs.Option.{is_some}
use Rattle.rx_typed.specs.Types.{Typ}
use Rattle.rx_typed.specs.Tree.{Body, Exp, mark_of}
use Rattle.rx_typeck_typed.specs.declared.typed.TypedFn.{TypedFn}
use Rattle.rx_lower_walks.specs.Orders.{order_function}
use Rattle.rx_lower_walks.specs.Walks.{Among, here}
use Rattle.rx_exits_plan.specs.Blocks.{Statement, tail, written_tail}
use Rattle.rx_exits_plan.specs.Changed.{changed, changed_statement}
use Rattle.rx_exits_plan.specs.Points.{leaves, next, Point, returns}
use Rattle.rx_exits_plan.specs.Runs.{inside, last_value}
use Rattle.rx_exits_plan.specs.Spots.{a_block, Around, spots_of_function}
use Rattle.rx_exits_plan.specs.Asked.{Asked}
use Rattle.rx_exits_plan.specs.Diverging.{run_diverges}
use Rattle.rx_exits_plan.specs.Exits.{exits, jumps, of_loops, where_taken}
use Rattle.rx_exits_plan.specs.Plan.{but_the_unit, handed_value}
use Rattle.rx_exits_plan.specs.PlainPlan.{plain-Exit}
use Rattle.rx_exits_plan.specs.Unreachable.{At, first, HasValue, last, not_begun, not_ended, Unreachable}
use Rattle.rx_exits_plan.specs.declared.plan.Exit.{Exit as ListedExit}
use Rattle.rx_exits_plan.specs.declared.plan.Exit.TheVariants as exit
use Rattle.rx_hoist_extraction.specs.Plan as plan
use Rattle.rx_hoist_extraction.specs.Plan.{has_exit, to_next}
use Rattle.rx_hoist_naming.specs.NamedPlan.{last_number, named_exit, named_plan, names_in, Told, value_if}
use Rattle.rx_engine_simulation.specs.Endings.{a_marked}
use Rattle.rx_engine_related.specs.Never.{first_never, last_never, NeverEnds, NeverOn, NeverPassed}
use Rattle.rx_engine_related.specs.Running.{passing}
use Rattle.rx_engine_related.specs.Stretched.{stretch_of}
use Rattle.rx_engine_related.proofs.Bare.{NoMarks}
use Rattle.rx_engine_tied.proofs.Given.{has_listed, of_mapped, PlanGiven}
use Rattle.rx_engine_tied.proofs.Marked.{kept, kept_row}
use Rattle.rx_engine_tied.proofs.Unreached.{none_comes}

-- ---- a value

value_there : (b : Bool) (t : TypedFn) (n : ℕ) (u : Typ) → value_if b t n ≡ Some u → b ≡ true
value_there true t n u e = refl
value_there false t n u e = absurd (cc)

not_unit : (o : Option Typ) → is_some (but_the_unit o) ≡ true → o ≢ None
not_unit None e f = absurd (cc)
not_unit (Some t) e f = cc

-- where the run has a value, it has its block's tail, which has a type
with_value : (t : Bool) (e : Exp) → is_some (handed_value (if t then Some e else None)) ≡ true → (t ≡ true) × HasValue (if t then Some e else None)
with_value true e h = (refl, not_unit (mark_of e).typ h)
with_value false e h = absurd (cc)

-- ---- its end

parts_never : (e : Exp) (p : Point) (ss : List Statement) → NeverEnds (a_marked (changed (passing []) e) p) (stretch_of (map (changed_statement (passing [])) ss)) → NeverPassed (stretch_of ss) ⊎ NeverOn e
parts_never e p ss (first_never h) = inl (subst (λ (l : List Statement). NeverPassed (stretch_of l)) (kept_row ss) h)
parts_never e p ss (last_never h) = inr (subst NeverOn (kept e) h)

module _ (A : Told) (q : Asked) (P : PlanGiven A q) (reached : (p : At) → Unreachable q p → ⊥) (bare : NoMarks (order_function q.function)) (sole : (a : Around) (b : Body) → Among (a_block a q.run.block b) (spots_of_function q.function) → b ≡ q.home.body)
    (never : q.run.tail ≡ true → run_diverges q.run q.home.body ≡ true → NeverEnds (a_marked (changed (passing []) (written_tail q.run.block (tail q.home.body))) (leaves next)) (stretch_of (map (changed_statement (passing [])) (inside q.run q.home.body)))) where
  -- a walk comes to it, so no part of the run never goes on
  goes_through : q.run.tail ≡ true → HasValue (last_value q.run q.home.body) → run_diverges q.run q.home.body ≡ true → ⊥
  goes_through whole v d =
      let none = none_comes q whole sole (parts_never (written_tail q.run.block (tail q.home.body)) (leaves next) (inside q.run q.home.body) (never whole d)) bare in
      reached first (not_begun (λ comes. reached last (not_ended comes (inr v) none)))

  next_named : (X : ListedExit) → plain-Exit X ≡ next → named_exit A.loops X ≡ to_next
  next_named exit.Next e = refl
  next_named (exit.Break l) e = absurd (cc)
  next_named (exit.Continue l) e = absurd (cc)
  next_named exit.Return e = absurd (cc)

  among_first : (b : Bool) → b ≡ false → Among next ((if b then [] else next ∷ []) ++ (of_loops q.home.around.loops (jumps q.run q.home) ++ where_taken returns (jumps q.run q.home)))
  among_first true e = absurd (cc)
  among_first false e = here

  is_exit : run_diverges q.run q.home.body ≡ false → has_exit to_next (named_plan A).exits ≡ true
  is_exit e =
      let there : Among next (exits q.run q.home) = among_first (run_diverges q.run q.home.body) e in
      let x = of_mapped A.plan.exits next (subst (Among next) (sym P.plan.plan.exits) there) in
      subst (λ (z : plan.Exit). has_exit z (named_plan A).exits ≡ true) (next_named x.0.exit x.2) (has_listed (names_in A) A.function A.loops A.plan.exits x.0 x.1)

  pub goes_on : (u : Typ) → (named_plan A).value ≡ Some u → has_exit to_next (named_plan A).exits ≡ true
  goes_on u e =
      let v : is_some (handed_value (last_value q.run q.home.body)) ≡ true = sym P.plan.value ∙ value_there A.plan.value A.function (last_number A) u e in
      let w = with_value q.run.tail (written_tail q.run.block (tail q.home.body)) v in
      by w.0 w.1 (run_diverges q.run q.home.body) refl
    where
      by : q.run.tail ≡ true → HasValue (last_value q.run q.home.body) → (b : Bool) → run_diverges q.run q.home.body ≡ b → has_exit to_next (named_plan A).exits ≡ true
      by whole v true d = absurd (goes_through whole v d)
      by whole v false d = is_exit d
