-- What the new function gives at an exit, by the relation of trees: it takes each variable that the exit hands out once, and gives what it makes of
-- them, so it is in order where the exit's mark is met.
use Rattle.std.proofs.Common.{◌≡◌, ◌≢◌, ℕ, Bool, true, false, ◌==◌, if◌then◌else◌, List, [], ◌∷◌, ◌++◌, Some, refl, sym, ◌∙◌, subst, true≢false}
use Rattle.rx_typed.specs.Tree as tree
use Rattle.rx_typed.specs.Tree.{Temporary, Mark, Exp, Operands, own, temporary_at, temporary_of}
use Rattle.rx_typed_declarations.specs.Sizes.{Sized}
use Rattle.rx_lower_walks.specs.Actions.{Read, Action, at_mark}
use Rattle.rx_lower_walks.specs.Orders.{Order, order, order_all}
use Rattle.rx_lower_walks.specs.Walks.{Among, here, there}
use Rattle.rx_exits_plan.specs.Occurrences.{variables_among, firsts, drops, those, in_run}
use Rattle.rx_exits_plan.specs.Points.{Exit, next, breaks, continues, returns, leaves}
use Rattle.rx_exits_plan.specs.Asked.{Asked}
use Rattle.rx_exits_plan.specs.Plan.{Plan, IsPlan, Chosen, none, taken, left, offered, is_offered, variables_of}
use Rattle.rx_engine_simulation.specs.Sights.{special, sight, Renaming, sight_of}
use Rattle.rx_engine_simulation.specs.Packing.{Way, Gives, gives_unit, gives_empty, gives_one, gives_tuple, gives_variant, TakesAll, takes_none, takes_and, takes_read}
use Rattle.rx_engine_related.specs.ByForm.{IsItself}
use Rattle.rx_engine_related.specs.Had.{Had}
use Rattle.rx_engine_related.specs.Leaving.{HaveThere, none_there, there_and}
use Rattle.rx_engine_related.proofs.Choosing.{of_those, chosen_is}
use Rattle.rx_engine_related.proofs.MarkedExits.{exits_meet}
use Rattle.rx_engine_initial.specs.Matching.{Matches}
use Rattle.rx_engine_initial.specs.Variables.{as_itself, Sides, KnownVariables}
use Rattle.rx_engine_initial.specs.Copies.{easy_build, world}
use Rattle.rx_engine_initial.specs.Handing.{by_read, Handing, none_taken, takes_one, does_one, Straight, no_action, one_action, in_sequence}
use Rattle.rx_engine_initial.specs.Planned.{IsTextOf, MeetsMark}
use Rattle.rx_engine_initial.proofs.Ways.{same_self}
use Rattle.rx_engine_initial_calls.proofs.SeveralJumps.{exit_matches}
use Rattle.rx_engine_initial_forms.specs.Agreeing.{Agrees}

-- ---- what an exit hands out stands there once

abbrev pub Once : List ℕ → Type 0
Once [] = Unit {0}
Once (x ∷ l) = (Among x l → ⊥) × Once l

drops_fewer : (x z : ℕ) (l : List ℕ) → Among z (drops x l) → Among z l
drops_fewer x z [] i = i
drops_fewer x z (y ∷ l) i = by (y == x) (λ j. drops_fewer x z l j) i
  where
    kept : (v : ℕ) → (Among z (drops x l) → Among z l) → Among z (v ∷ drops x l) → Among z (v ∷ l)
    kept _ f here = here
    kept v f (there j) = there (f j)

    by : (b : Bool) → (Among z (drops x l) → Among z l) → Among z (if b then drops x l else y ∷ drops x l) → Among z (y ∷ l)
    by true f j = there (f j)
    by false f j = kept y f j

drops_not : (x : ℕ) (l : List ℕ) → Among x (drops x l) → ⊥
drops_not x [] i = elim i [ ]
drops_not x (y ∷ l) i = by (y == x) refl (λ j. drops_not x l j) i
  where
    other : (v : ℕ) → (v == x) ≡ false → (Among x (drops x l) → ⊥) → Among x (v ∷ drops x l) → ⊥
    other _ e f here = true≢false (sym (same_self x) ∙ e)
    other v e f (there j) = f j

    by : (b : Bool) → (y == x) ≡ b → (Among x (drops x l) → ⊥) → Among x (if b then drops x l else y ∷ drops x l) → ⊥
    by true e f j = f j
    by false e f j = other y e f j

drops_once : (x : ℕ) (l : List ℕ) → Once l → Once (drops x l)
drops_once x [] h = tt
drops_once x (y ∷ l) h = by (y == x) (drops_once x l h.1)
  where
    by : (b : Bool) → Once (drops x l) → Once (if b then drops x l else y ∷ drops x l)
    by true k = k
    by false k = ((λ i. h.0 (drops_fewer x y l i)), k)

firsts_once : (l : List ℕ) → Once (firsts l)
firsts_once [] = tt
firsts_once (x ∷ l) = (drops_not x (firsts l), drops_once x (firsts l) (firsts_once l))

those_once : (f : ℕ → Bool) (l : List ℕ) → Once l → Once (those f l)
those_once f [] h = tt
those_once f (x ∷ l) h = by (f x) (those_once f l h.1)
  where
    by : (b : Bool) → Once (those f l) → Once (if b then x ∷ those f l else those f l)
    by true k = ((λ i. h.0 (of_those f l i).0), k)
    by false k = k

chosen_once : {Q : ℕ → Type 0} {l m : List ℕ} → Chosen Q l m → Once l → Once m
chosen_once none h = tt
chosen_once (taken q c) h = ((λ i. h.0 (chosen_is c i).0), chosen_once c h.1)
chosen_once (left n c) h = chosen_once c h.1

pub outs_once : (A : Asked) (k : Plan) → IsPlan A k → (e : Exit) → Among e k.exits → Once (k.outs e)
outs_once A k plan e i = by e i
  where
    all_once : Once (offered A k.locals)
    all_once = those_once (is_offered A k.locals) (variables_of A) (firsts_once (variables_among (in_run A.run A.home.body)))

    by : (x : Exit) → Among x k.exits → Once (k.outs x)
    by next j = chosen_once (plan.outs next j (λ q. cc)) all_once
    by (breaks l) j = chosen_once (plan.outs (breaks l) j (λ q. cc)) all_once
    by (continues l) j = chosen_once (plan.outs (continues l) j (λ q. cc)) all_once
    by returns j = subst (λ l. Once l) (sym plan.none_returned) tt

-- ---- what the new function has of it

module _ (S : Sides) (R : Renaming) (U : KnownVariables S) (g : Agrees S R U) where
  pub there_for : {xs zs : List ℕ} → HaveThere R xs zs → (z : ℕ) → Among z zs → (x : ℕ) × Among (as_itself z x) U.variables × Among x xs
  there_for none_there z i = elim i [ ]
  there_for (there_and {x = x} {z = v} h r) _ here = (x, g.as_they_are x v special h tt, here)
  there_for (there_and h r) z (there i) = let w = there_for r z i in (w.0, w.1, there w.2)

  other_there : {x z : ℕ} {xs zs : List ℕ} → sight_of R x ≡ Some (sight z special) → HaveThere R xs zs → (Among x xs → ⊥) → Among z zs → ⊥
  other_there {x = x} {z = z} {xs = xs} h r n i = let w = there_for r z i in n (subst (λ v. Among v xs) (sym (U.one_there z x w.0 (g.as_they_are x z special h tt) w.1)) w.2)

  pub record Taken (zs : List ℕ) (s : Order) : Type 0 where
    pub actions : List Action
    pub straight : Straight s actions
    pub handing : Handing zs actions

  all_taken : {i : ℕ} {xs zs : List ℕ} {es : Operands} → TakesAll i zs es → HaveThere R xs zs → Once xs → Taken zs (order_all es)
  all_taken takes_none r o = record { actions = []; straight = no_action; handing = none_taken }
  all_taken (takes_and (takes_read {m = m} {moves = v}) t) (there_and {z = z} h r) o = let w = all_taken t r o.1 in
      record { actions = at_mark m (Read v (own z) (temporary_at m.node 0)) ∷ w.actions; straight = in_sequence one_action w.straight; handing = takes_one by_read (other_there h r o.0) w.handing }

  build_behind : {zs : List ℕ} {us : List Action} {a : Action} → Handing zs us → Handing [] (a ∷ []) → Handing zs (us ++ a ∷ [])
  build_behind none_taken h = h
  build_behind (takes_one t n k) h = takes_one t n (build_behind k h)
  build_behind (does_one e k) h = does_one e (build_behind k h)

  pub given_taken : {w : Way} {xs zs : List ℕ} {e : Exp} → Gives w zs e → HaveThere R xs zs → Once xs → (d : Temporary) → Taken zs (order e d)
  given_taken gives_unit r o d = record { actions = []; straight = no_action; handing = none_taken }
  given_taken gives_empty r o d = record { actions = []; straight = no_action; handing = none_taken }
  given_taken (gives_one {q = z} (takes_read {m = m} {moves = v})) r o d =
      record { actions = at_mark m (Read v (own z) d) ∷ []; straight = one_action; handing = takes_one by_read (λ i. elim i [ ]) none_taken }
  given_taken (gives_tuple t) r o d = let w = all_taken t r o in
      record { actions = w.actions ++ _ ∷ []; straight = in_sequence w.straight one_action; handing = build_behind w.handing (does_one easy_build none_taken) }
  given_taken (gives_variant t) r o d = let w = all_taken t r o in
      record { actions = w.actions ++ _ ∷ []; straight = in_sequence w.straight one_action; handing = build_behind w.handing (does_one easy_build none_taken) }

pub new_exit_matches : (A : Asked) (k : Plan) (S : Sides) → Had A S.muts_there k → IsItself (Some (Some A.function)) → (e : Exit) → Among e k.exits → e ≢ returns → Sized S.frame.declared S.frame.sizes → IsTextOf S A k
    → (R : Renaming) (U : KnownVariables S) → Agrees S R U → {w : Way} {zs : List ℕ} {v : Exp} → HaveThere R (k.outs e) zs → Gives w zs v → (q : Order) → MeetsMark S (leaves e) q → (m : Mark) (d : Temporary)
    → Matches (world S) U (order (tree.give m v) d) q
new_exit_matches A k S had self e i n sized text R U g {zs = zs} {v = v} have gives q meets m d =
    let t = given_taken S R U g gives have (outs_once A k had.plan e i) (temporary_of v) in
    exit_matches A k had.plan e i (exits_meet A k had.plan had.sits had.unmarked had.one_block self e i n) S sized had.accepted text U q had.whole meets zs (λ x j. there_for S R U g have x j)
    t.actions t.handing (order v (temporary_of v)) t.straight m.node (temporary_of v)
