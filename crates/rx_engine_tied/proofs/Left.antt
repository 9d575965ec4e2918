-- What a jump of a run hands out is in scope where the run begins: another variable ends on the way to the jump's target, so in an initialised
-- function it is not live there.
use Rattle.std.proofs.Common.{◌≡◌, ◌≢◌, ℕ, Bool, true, false, ◌||◌, ◌==◌, if◌then◌else◌, List, [], ◌∷◌, ◌++◌, map, reverse, refl, sym, ap, ◌∙◌, subst, ◌⊎◌, inl, inr}
use Rattle.std.proofs.lemmas.Bool.Decides.{Decides-eqb}
use Rattle.rx_core.specs.declared.types.Step.{Step}
use Rattle.rx_typed.specs.Tree.{Body, Root, temporary, Temporary, variable}
use Rattle.rx_lower_walks.specs.Actions.{Act, Action, Borrow, Build, Call, Dead, Declare, Give, Input, Print, Read, Test, Write}
use Rattle.rx_lower_walks.specs.Orders.{order_function}
use Rattle.rx_lower_walks.specs.Walks.{Among, here, IsWalk, there}
use Rattle.rx_facts_tables.specs.Along.{after}
use Rattle.rx_facts_tables.specs.Wholes.{standing}
use Rattle.rx_facts_tables.specs.Live.{entered, has_root, used}
use Rattle.rx_exits_plan.specs.Blocks.{declared_by, Statement}
use Rattle.rx_exits_plan.specs.Marked.{marked, shown}
use Rattle.rx_exits_plan.specs.Points.{breaks, continues, Exit, jump_exit, leaves, next, returns, same_exit}
use Rattle.rx_exits_plan.specs.Runs.{in_front}
use Rattle.rx_exits_plan.specs.Spots.{a_block, a_jump, Around, spots_of_function, with_variables}
use Rattle.rx_exits_plan.specs.declared.plan.ExitOuts.{ExitOuts}
use Rattle.rx_exits_plan.specs.Asked.{Asked, IsLiveAt}
use Rattle.rx_exits_plan.specs.Exits.{at_start, exits, past}
use Rattle.rx_exits_plan.specs.Occurrences.{has_number}
use Rattle.rx_exits_plan.specs.Plan.{Chosen, IsPlan, left, none, Plan, taken}
use Rattle.rx_exits_plan.specs.PlainPlan.{outs_in, plain-Exit}
use Rattle.rx_hoist_meant.specs.NamesMeant.{NamesMeant}
use Rattle.rx_hoist_meant.specs.Scoped.{NoneTwice}
use Rattle.rx_hoist_meant.proofs.Patterns.{among_right, none_among}
use Rattle.rx_engine_simulation.specs.Histories.{IsRoot, IsWhole, Uses}
use Rattle.rx_engine_related.specs.Accepted.{Accepted}
use Rattle.rx_engine_related.proofs.Bare.{NoMarks}
use Rattle.rx_engine_related.proofs.Blind.{standing_blind}
use Rattle.rx_engine_related.proofs.Plainly.{acts}
use Rattle.rx_engine_related.proofs.Points.{standing_unturned}
use Rattle.rx_engine_related.proofs.Unset.{bare_act, not_entry, used_stands, uses_bare, uses_unmarked}
use Rattle.rx_engine_called.proofs.NotLive.{not_live}
use Rattle.rx_engine_tied.proofs.Exits.{exit_loop}
use Rattle.rx_engine_tied.proofs.Marked.{marked_inside}
use Rattle.rx_engine_tied.proofs.Parts.{Twice}
use Rattle.rx_engine_tied.proofs.Tying.{has_it}

clash : {A : Type 0} → false ≡ true → A
clash e = absurd (cc)

-- ---- a use of a variable

none_temporary : (ts : List Temporary) (x : ℕ) → has_root (map temporary ts) (variable x) ≡ true → ⊥
none_temporary [] x e = clash e
none_temporary (t ∷ ts) x e = none_temporary ts x e

or_none : (b : Bool) → (b || false) ≡ true → b ≡ true
or_none true e = refl
or_none false e = e

is_root : (r : Root) (x : ℕ) → has_root (r ∷ []) (variable x) ≡ true → IsRoot r x
is_root (variable y) x e = (Decides-eqb x y).0 (or_none (x == y) e)
is_root (temporary t) x e = clash e

entered_root : (r : Root) (ss : List Step) (x : ℕ) → has_root (entered r ss) (variable x) ≡ true → IsRoot r x × (IsWhole ss → ⊥)
entered_root r [] x e = clash e
entered_root r (s ∷ ss) x e = (is_root r x e, λ z. z)

uses_it : (a : Act) (x : ℕ) → has_root (used a) (variable x) ≡ true → Uses a x
uses_it (Read v p d) x e = is_root p.root x e
uses_it (Borrow v p d) x e = is_root p.root x e
uses_it (Test p c) x e = is_root p.root x e
uses_it (Write p t ss) x e = entered_root p.root p.steps x e
uses_it (Call f ts d) x e = none_temporary ts x e
uses_it (Build w js ts d) x e = none_temporary ts x e
uses_it (Declare y) x e = clash e
uses_it (Dead y) x e = clash e
uses_it (Input d) x e = clash e
uses_it (Print t) x e = clash e
uses_it (Give t) x e = clash e

-- ---- lists

is_in : (x : ℕ) (l : List ℕ) → has_number x l ≡ true → Among x l
is_in x [] e = clash e
is_in x (y ∷ l) e = by (x == y) refl e (is_in x l)
  where
    by : (b : Bool) → (x == y) ≡ b → (b || has_number x l) ≡ true → (has_number x l ≡ true → Among x l) → Among x (y ∷ l)
    by true s e rest = subst (λ (z : ℕ). Among z (y ∷ l)) (sym ((Decides-eqb x y).0 s)) here
    by false s e rest = there (rest e)

-- what is in scope stays so
still_there : (x : ℕ) (ss : List Statement) (a : Around) → Among x a.scope → Among x (past ss a).scope
still_there x [] a i = i
still_there x (s ∷ ss) a i = still_there x ss (with_variables (declared_by s) a) (among_right (reverse (declared_by s)) a.scope i)

pub none_twice : (l : ℕ) (ks : List ℕ) → NoneTwice ks → Twice l ks → ⊥
none_twice l [] n t = t
none_twice l (k ∷ ks) n (inl h) = n.0 (subst (λ (z : ℕ). Among z ks) (sym h.0) h.1)
none_twice l (k ∷ ks) n (inr h) = none_twice l ks n.1 h

chosen_so : {Q : ℕ → Type 0} {l m : List ℕ} → Chosen Q l m → (x : ℕ) → Among x m → Q x
chosen_so none x i = absurd (none_among i)
chosen_so {Q} (taken {m = m} q c) x i = at i q (chosen_so c x)
  where
    at : {y : ℕ} → Among x (y ∷ m) → Q y → (Among x m → Q x) → Q x
    at here k on = k
    at (there j) k on = on j
chosen_so (left q c) x i = chosen_so c x i

same_is : (e f : Exit) → same_exit e f ≡ true → e ≡ f
same_is next next h = refl
same_is next (breaks l) h = clash h
same_is next (continues l) h = clash h
same_is next returns h = clash h
same_is (breaks l) (breaks k) h = ap breaks ((Decides-eqb l k).0 h)
same_is (breaks l) next h = clash h
same_is (breaks l) (continues k) h = clash h
same_is (breaks l) returns h = clash h
same_is (continues l) (continues k) h = ap continues ((Decides-eqb l k).0 h)
same_is (continues l) next h = clash h
same_is (continues l) (breaks k) h = clash h
same_is (continues l) returns h = clash h
same_is returns returns h = refl
same_is returns next h = clash h
same_is returns (breaks l) h = clash h
same_is returns (continues l) h = clash h

-- an exit that hands something out is listed
pub outs_listed : (es : List ExitOuts) (e : Exit) (x : ℕ) → Among x (outs_in es e) → Among e (map (λ (y : ExitOuts). plain-Exit y.exit) es)
outs_listed [] e x i = absurd (none_among i)
outs_listed (y ∷ es) e x i = by (same_exit e (plain-Exit y.exit)) refl i (outs_listed es e x)
  where
    by : (b : Bool) → same_exit e (plain-Exit y.exit) ≡ b → Among x (if b then y.outs else outs_in es e) → (Among x (outs_in es e) → Among e (map (λ (y : ExitOuts). plain-Exit y.exit) es)) → Among e (plain-Exit y.exit ∷ map (λ (y : ExitOuts). plain-Exit y.exit) es)
    by true s i on = subst (λ (z : Exit). Among z (plain-Exit y.exit ∷ map (λ (y : ExitOuts). plain-Exit y.exit) es)) (sym (same_is e (plain-Exit y.exit) s)) here
    by false s i on = there (on i)

-- ---- a run

module _ (A : Asked) (muts : List Bool) (acc : Accepted A muts) where
  -- in the marked function a use finds it there as a whole
  found : (xs : List ℕ) (x : ℕ) → (Among x xs → ⊥) → (w : List Action) (a : Action) → IsWalk (marked A.run A.home.around.loops xs A.function) (w ++ a ∷ []) → has_root (used a.act) (variable x) ≡ true → after (standing x []) w false ≡ true
  found xs x not_read w a k e =
      let u = uses_it a.act x e in
      let z = acts A.function A.run A.home.around.loops xs w a (standing x []) (standing_blind x []) (standing_unturned x xs) (uses_unmarked a.act x u) (not_entry xs x a u not_read) k in
      let v : Uses z.action.act x = subst (λ (T : Type 0). T) (uses_bare z.action.act x) (subst (λ (y : Act). Uses y x) (sym (bare_act z.action a z.bare)) (subst (λ (T : Type 0). T) (sym (uses_bare a.act x)) u)) in
      z.same ∙ used_stands A muts acc z.list z.action.node z.action.act x z.walk v

  module _ (same : ℕ → ℕ → Bool) (named : NamesMeant same A.function) (bare : NoMarks (order_function A.function)) (sole : (a : Around) (b : Body) → Among (a_block a A.run.block b) (spots_of_function A.function) → a ≡ A.home.around)
      (once : (a : Around) (n j : ℕ) (g : Bool) → Among (a_jump a n j g) (spots_of_function A.function) → NoneTwice a.loops) (apart : NoneTwice A.home.around.loops) (pl : Plan) (is : IsPlan A pl)
      (given : (x : ℕ) → Among x pl.params → Among x (at_start A.run A.home).scope) where
    not_live_there : (l : ℕ) (again : Bool) (x : ℕ) → Among l A.home.around.loops → (Among x (at_start A.run A.home).scope → ⊥) → IsLiveAt A pl.params (jump_exit l again) x → ⊥
    not_live_there l again x i n live =
        let outer : Among x A.home.around.scope → ⊥ = λ j. n (still_there x (in_front A.run A.home.body) A.home.around j) in
        let inside = marked_inside same (spots_of_function A.function) x l again (λ a k j g h. none_twice l a.loops (once a k j g h)) A.run A.home pl.params sole outer (none_twice l A.home.around.loops apart) i A.function refl named bare in
        not_live (marked A.run A.home.around.loops pl.params A.function) x (found pl.params x (λ j. n (given x j))) (shown (leaves (jump_exit l again))) l refl inside live.0 live.1 live.2 live.3

    of_loop : (e : Exit) (l : ℕ) (again : Bool) → e ≡ jump_exit l again → (x : ℕ) → Among e pl.exits → (Among x (at_start A.run A.home).scope → ⊥) → IsLiveAt A pl.params e x → ⊥
    of_loop e l again q x i n live =
        not_live_there l again x (exit_loop A.run A.home e l (way again q) (subst (λ (es : List Exit). Among e es) is.exits i)) n (subst (λ (z : Exit). IsLiveAt A pl.params z x) q live)
      where
        way : (b : Bool) → e ≡ jump_exit l b → (e ≡ breaks l) ⊎ (e ≡ continues l)
        way true p = inr p
        way false p = inl p

    pub outs_outer : (e : Exit) (x : ℕ) → e ≢ next → Among e pl.exits → Among x (pl.outs e) → Among x (at_start A.run A.home).scope
    outs_outer e x d i o = by (has_number x (at_start A.run A.home).scope) refl
      where
        of_exit : (e : Exit) → e ≢ next → Among e pl.exits → Among x (pl.outs e) → (Among x (at_start A.run A.home).scope → ⊥) → ⊥
        of_exit next d i o n = d refl
        of_exit returns d i o n = none_among (subst (Among x) is.none_returned o)
        of_exit (breaks l) d i o n = of_loop (breaks l) l false refl x i n (chosen_so (is.outs (breaks l) i (λ e. cc)) x o)
        of_exit (continues l) d i o n = of_loop (continues l) l true refl x i n (chosen_so (is.outs (continues l) i (λ e. cc)) x o)

        has : (x : ℕ) (l : List ℕ) → Among x l → has_number x l ≡ false → ⊥
        has x l i e = clash (sym e ∙ has_it x l i)

        by : (b : Bool) → has_number x (at_start A.run A.home).scope ≡ b → Among x (at_start A.run A.home).scope
        by true h = is_in x (at_start A.run A.home).scope h
        by false h = absurd (of_exit e d i o (λ j. has x (at_start A.run A.home).scope j h))
