-- A run with its block's tail, which the text lets pass at the run's end: what is needed there is as the plan tells, so the call stands for it with all
-- that rx_engine_simulation asks of the text's histories.
use Rattle.std.proofs.Common.{◌≡◌, ◌≢◌, ℕ, Bool, true, false, List, [], ◌∷◌, ◌++◌, inr, refl, sym, ap, ◌∙◌, subst, arith}
use Rattle.rx_typed.specs.Tree as tree
use Rattle.rx_typed.specs.Tree.{Exp, Body, Mark, Operands, Temporary, mark_of, temporary_at, temporary_of}
use Rattle.rx_lower_walks.specs.Actions.{Action}
use Rattle.rx_lower_walks.specs.Orders.{Order, order_body}
use Rattle.rx_lower_walks.specs.Orders as orders
use Rattle.rx_lower_walks.specs.Walks as walk
use Rattle.rx_lower_walks.specs.Walks.{Walk, Among, here}
use Rattle.rx_exits_plan.specs.Points.{Exit, next, returns, enters, leaves, jump_exit}
use Rattle.rx_exits_plan.specs.Marked.{mark, shown}
use Rattle.rx_exits_plan.specs.Asked.{Asked}
use Rattle.rx_exits_plan.specs.Plan.{Plan}
use Rattle.rx_modes_policy.specs.declared.uses.Mode.{Mode}
use Rattle.rx_engine_simulation.specs.Turns.{Allowance}
use Rattle.rx_engine_simulation.specs.Histories.{put, Facts, Living, Written}
use Rattle.rx_engine_simulation.specs.Sights.{In, Renaming}
use Rattle.rx_engine_simulation.specs.Jumps.{Pack, Jumping}
use Rattle.rx_engine_simulation.specs.Like.{LikeExp, opens}
use Rattle.rx_engine_simulation.specs.Passed.{let_pass, passage}
use Rattle.rx_engine_simulation.specs.Passing.{New}
use Rattle.rx_engine_simulation.specs.Programs.{IsHistory, ComesTo, Untouched, facts_of}
use Rattle.rx_engine_simulation.specs.Arrivals.{Aim, Arrives, arrives_past, arrives_tail, arrives_then, AreDead, IsReady, IsUnlent}
use Rattle.rx_engine_simulation.specs.Blocks.{Stretch, before}
use Rattle.rx_engine_simulation.specs.Endings.{Last, a_marked, a_tail, an_end, with_last, aim_of, IsLeft, left_tail, left_end, IsDropped, bound_value, bound_passed, LikeEnd, end_is, end_runs, end_value, end_variant, end_tuple, end_left}
use Rattle.rx_engine_simulation.specs.Marks.{reading, with_mark, AreWritten}
use Rattle.rx_engine_simulation.specs.Packing.{Way, bare, as_variant, no_way}
use Rattle.rx_engine_simulation.specs.Statements.{body_of, StatementsBecomeCall, statements_become_call}
use Rattle.rx_engine_simulation.specs.Temporaries.{IsPlaced, is_let_pass}
use Rattle.rx_engine_simulation.specs.Units.{GivesUnit, of_passed}
use Rattle.rx_engine_simulation.specs.Variants.{leaving, Leaves, leaves_marked, leaves_function, leaves_value, leaves_unit, leaves_passed, at_marked, DeadAt, DeadBehind}
use Rattle.rx_engine_simulation.proofs.Arriving.{Newest, behind_jump}
use Rattle.rx_engine_simulation.proofs.Blocks.{through_into}
use Rattle.rx_engine_simulation.proofs.MarksTell.{comes_on}
use Rattle.rx_engine_simulation.proofs.Positions.{put_append}
use Rattle.rx_engine_related.specs.AboutRun.{special_of, about_run}
use Rattle.rx_engine_related.specs.Premises.{NotHanded}
use Rattle.rx_engine_related.specs.Tailed.{tailed_of}
use Rattle.rx_engine_related.proofs.Choosing as choosing
use Rattle.rx_engine_related.proofs.Closing.{given_dead}
use Rattle.rx_engine_related.proofs.Entered.{living_entered}
use Rattle.rx_engine_related.proofs.Near.{IsNear, near_param_written, near_out_written, near_others_dead, near_local_dead, near_unlent, near_lent, near_lent_there}
use Rattle.rx_engine_related.proofs.Points.{comes_to_mark}
use Rattle.rx_engine_related.proofs.Premises.{before_reads}
use Rattle.rx_engine_related.proofs.Tailed.{at_returns, tailed_near, tail_others_dead, tail_out_written, tail_out_living, tail_jump_living}
use Rattle.rx_engine_related.specs.ByForm.{by_form}
use Rattle.rx_engine_related.specs.Given.{EntersWith}
use Rattle.rx_engine_related.specs.Handed.{MayBeAssigned, is_mut, is_local, not_lent}
use Rattle.rx_engine_related.specs.Leaving.{Left, left_by_jump, left_by_return, left_with_value, left_with_unit, left}
use Rattle.rx_engine_related.specs.Moved.{Moved}
use Rattle.rx_engine_related.specs.Never.{NeverOn, NeverEnds, first_never, last_never}
use Rattle.rx_engine_related.specs.Tails.{TailEnded, tail_value, tail_in_variant, tail_in_tuple, place_in_tuple, tail_dropped, tail_in_front, tail_left, TailCallOf, tail_call_alone, tail_call_matched, tail_call_left, TailHanded, TailBecomesCall, tail_becomes_call, IsTail, of_block, of_body}
use Rattle.rx_engine_related.proofs.Specials.{in_list, out_special, again_special, again_not_out}
use Rattle.rx_engine_related.proofs.Locals.{Premises, never_lent}
use Rattle.rx_engine_related.proofs.Ending.{ready_so}
use Rattle.rx_engine_related.proofs.Loops.{HeldTail}
use Rattle.rx_engine_related.proofs.Leaving.{ByPlan, variant_among}
use Rattle.rx_engine_related.proofs.Moving.{exp_so}
use Rattle.rx_engine_related.proofs.Never.{never_on, never_passed, marked_never}
use Rattle.rx_engine_related.proofs.Tails.{Told, entered_so, calling_so, by_plan, handed_so, stretch_so}

-- ---- what is let pass is told last

act_on : {a : Action} {vs : List Action} → Walk (orders.act a) vs walk.on → vs ≡ a ∷ []
act_on walk.acts = refl

passed_on : {s : Order} {a : Action} {u : List Action} → Walk (orders.then s (orders.act a)) u walk.on → (us : List Action) × (u ≡ us ++ a ∷ [])
passed_on (walk.both {us = us} x y) = (us, ap (λ l. us ++ l) (act_on y))
passed_on (walk.first e x) = absurd e

jump_no_return : (l : ℕ) (again : Bool) → jump_exit l again ≢ returns
jump_no_return l true q = cc
jump_no_return l false q = cc

jump_no_end : (l : ℕ) (again : Bool) → jump_exit l again ≢ next
jump_no_end l true q = cc
jump_no_end l false q = cc

none_among : {x : ℕ} → Among x [] → ⊥
none_among i = elim i [ ]

module _ (A : Asked) (muts : List Bool) (k : Plan) (had : HeldTail A muts k) (u : Untouched (tailed_of A k.params) (about_run A muts k)) where
  abbrev V : Facts
  V = facts_of (tailed_of A k.params) (about_run A muts k) u

  abbrev near : IsNear at_returns A (tailed_of A k.params) k.params
  near = tailed_near A had.tail k.params

  -- ---- jumps

  jump_by_mark : (m : Mark) (l : ℕ) (again : Bool) (h : List Action) → Arrives V (at_marked (leaves (jump_exit l again)) (tree.jump m l again)) h → Newest (tailed_of A k.params) (shown (leaves (jump_exit l again))) h
  jump_by_mark m l again h a = behind_jump (tailed_of A k.params) (about_run A muts k) u (leaves (jump_exit l again)) (tree.jump m l again) a

  jump_ready : (m : Mark) (l : ℕ) (again : Bool) (p : Pack) → Among (jump_exit l again) k.exits → p.outs ≡ k.outs (jump_exit l again) → (x : ℕ) → Among x p.outs → IsReady V (at_marked (leaves (jump_exit l again)) (tree.jump m l again)) x
  jump_ready m l again p i same x o h arrives =
      let n = jump_by_mark m l again h arrives in
      let out = subst (λ xs. Among x xs) same o in
      let good = subst (λ h. IsHistory (tailed_of A k.params) h) n.1 n.2 in (
        subst (λ h. Living V x h) (sym n.1) (tail_jump_living A had.tail k had.plan had.told_once muts had.accepted u (jump_exit l again) x (jump_no_return l again) (jump_no_end l again)
            (had.one_place (jump_exit l again) i (jump_no_return l again) (jump_no_end l again)) i out n.0 good),
        subst (λ h. Written h x) (sym n.1) (inr ((λ d. d), near_out_written at_returns A (tailed_of A k.params) k.params near muts had.accepted k had.plan (jump_exit l again) x (had.whole x) i out n.0 good)),
      )

  jump_dead : (J : Jumping) → ByPlan A muts k J → (m : Mark) (l : ℕ) (again : Bool) (p : Pack) → Among (jump_exit l again) k.exits → p.outs ≡ k.outs (jump_exit l again)
      → DeadAt V J p.outs (at_marked (leaves (jump_exit l again)) (tree.jump m l again))
  jump_dead J ok m l again p i same h a x d none living =
      let n = jump_by_mark m l again h a in
      near_others_dead at_returns A k had.plan (tailed_of A k.params) near muts had.passed u (jump_exit l again) x i (jump_no_return l again) (ok.dead x d) (λ o. none (in_list (subst (λ xs. Among x xs) (sym same) o))) n.0 (subst (λ h. Living V x h) n.1 living)

  return_dead : (J : Jumping) (m : Mark) → DeadBehind V J m
  return_dead J m n h c x d living = given_dead (tailed_of A k.params) (special_of A muts k) u m.node (temporary_at n 0) x h living

  left_so : {U : List ℕ} {a : ℕ} {J : Jumping} {R : Renaming} {e : Exp} {f f' : Exp → Exp} → ByPlan A muts k J → Left U a J R e f f' → Leaves U V a J R e f f'
  left_so {J = J} ok (left_by_jump {m = m} {l = l} {again = again} p leads have gives) =
      let z = ok.jumps l again p leads in
      leaves_marked (leaves (jump_exit l again)) p leads (ready_so (at_marked (leaves (jump_exit l again)) (tree.jump m l again)) have (jump_ready m l again p z.0 z.1)) gives (jump_dead J ok m l again p z.0 z.1)
  left_so {J = J} ok (left_by_return {m = m} is gives) = leaves_function is (return_dead J m) gives
  left_so {J = J} ok (left_with_value {m = m} is) = leaves_value is (return_dead J m)
  left_so {J = J} ok (left_with_unit {m = m} is unit new gives) = leaves_unit is unit (return_dead J m) new gives

  -- ---- what is told of the text

  premises : Premises A muts k
  premises = record {
    plan = had.plan;
    accepted = had.accepted;
    sits = had.sits;
    none_behind = had.none_behind;
    unmarked = had.unmarked;
    one_block = had.one_block;
    whole = had.whole;
    unaliased = had.unaliased;
  }

  unlent_so : (r : Stretch) (rest : Body) (e : Exit) (x : ℕ) → Among e k.exits → Among x (k.outs e) → MayBeAssigned A muts k x → IsUnlent V (before (with_mark enters k.params r) rest) x
  unlent_so r rest e x i o (is_mut m) n t h c b =
      near_unlent at_returns A k had.plan (tailed_of A k.params) near muts had.accepted had.unaliased x (out_special A muts k e x i o) m h (comes_on (tailed_of A k.params) (order_body (before (with_mark enters k.params r) rest) n t) h [] c walk.rests) b
  unlent_so r rest e x i o (is_local l) n t h c b =
      let z = near_lent_there at_returns A (tailed_of A k.params) k.params near enters x h (comes_to_mark (tailed_of A k.params) enters (before (reading k.params r) rest) n t h c) b in
      never_lent A muts k premises x l e i o z.0 z.1 z.2
  unlent_so r rest e x i o (not_lent none) n t h c b =
      none (near_lent at_returns A (tailed_of A k.params) k.params near muts had.accepted x h (comes_on (tailed_of A k.params) (order_body (before (with_mark enters k.params r) rest) n t) h [] c walk.rests) b)

  written_there : AreWritten V enters k.params
  written_there x i b n t h c = near_param_written at_returns A (tailed_of A k.params) k.params near muts had.accepted k had.plan x (choosing.in_list i) b n t h c

  told : Told A muts k V
  told = record {
    needed = λ r rest x m i t h c. living_entered (tailed_of A k.params) (special_of A muts k) u k.params x m (before r rest) i t h (subst (λ b. ComesTo (tailed_of A k.params) (order_body (tree.runs (mark enters) b) i t) h) (before_reads k.params r rest) c);
    written = written_there;
    unneeded = λ r rest x m i t h c l. near_local_dead at_returns A k had.plan (tailed_of A k.params) near muts had.accepted u x m (before (reading k.params r) rest) i t h c l;
    jumps = λ U. record { special = λ x i. i; into = λ J l n ok. record { jumps = ok.jumps; dead = ok.dead }; expression = λ a J R e f f' ok o. left_so ok o; statements = λ a J R S b f f' ok o. absurd o };
    unlent = unlent_so;
  }

  -- how the run ends: by an exit, unless its end is not come to
  abbrev Ends : Way → Type 0
  Ends no_way = Among next k.exits → ⊥
  Ends _ = Among next k.exits

  no_outs : (Among next k.exits → ⊥) → (x : ℕ) → Among x (k.outs next) → ⊥
  no_outs n x o = none_among (subst (λ xs. Among x xs) (had.plan.none_elsewhere next n) o)

  -- what is assigned there is of that exit
  assigned_so : (r : Stretch) (rest : Body) (w : Way) → Ends w → (x : ℕ) → Among x (k.outs next) → MayBeAssigned A muts k x → IsUnlent V (before (with_mark enters k.params r) rest) x
  assigned_so r rest bare e x o m = unlent_so r rest next x e o m
  assigned_so r rest (as_variant v) e x o m = unlent_so r rest next x e o m
  assigned_so r rest no_way e x o m = absurd (no_outs e x o)

  -- ---- in the new function

  module _ (items : ℕ → ℕ) (gain : Allowance) (U : List ℕ) (Ji : Jumping) (ok : ByPlan A muts k Ji) where
    as_passed : {R : Renaming} {e e' : Exp} → LikeExp items (left U) gain (by_form (special_of A muts k)) 0 Ji R e e' → LikeExp items (leaving U) gain V 0 Ji R (let_pass e) e'
    as_passed {e = e} {e' = e'} l = opens {e = e} {e' = e'} {f = λ e. let_pass e} {f' = λ e. e} 0 0 (omega arith) leaves_passed (exp_so items gain U (special_of A muts k) V (ByPlan A muts k) (told.jumps U) Ji ok l)

    end_so : {R : Renaming} {l : Last} {e : Exp} {has : Bool} {w : Way} {xs : List ℕ} {end : Body} (a : Aim) → ((b : Bool) → IsLeft l (let_pass e) b) → (GivesUnit U (let_pass e) → IsDropped U l (let_pass e))
        → (w ≡ no_way → (h : List Action) → Arrives V a h → ⊥) → ((x : ℕ) → Among x xs → IsReady V a x) → TailEnded items gain U (special_of A muts k) Ji R e has w xs end → LikeEnd items gain U V Ji R a l has w xs end
    end_so a is drops never ready (tail_value l) = end_value (is true) (as_passed l)
    end_so a is drops never ready (tail_in_variant l have takes) = end_variant (is true) (as_passed l) (ready_so a have ready) takes
    end_so a is drops never ready (tail_in_tuple l new apart have gives) = end_tuple (is true) (bound_value (as_passed l)) new apart (ready_so a have ready) gives
    end_so a is drops never ready (place_in_tuple p new apart have gives) = end_tuple (is true) (bound_passed p) new apart (ready_so a have ready) gives
    end_so a is drops never ready (tail_dropped v l) = end_is (is false) (drops (of_passed v)) (as_passed l)
    end_so a is drops never ready (tail_in_front v l have gives) = end_runs (is false) (drops (of_passed v)) (as_passed l) (ready_so a have ready) gives
    end_so a is drops never ready (tail_left l) = end_left {b = false} (is false) (never refl) (as_passed l)

  -- ---- the end

  -- where what is left leads to, with this as what stands in front
  abbrev block_with : Stretch → Last → Body → Body
  block_with r l rest = before (with_mark enters k.params r) (with_last l rest)

  abbrev aim_with : Stretch → Last → Body → Aim
  aim_with r l rest = aim_of l (block_with r l rest) (with_mark enters k.params r)

  record Leads (r : Stretch) (e : Exp) (rest : Body) (l : Last) : Type 0 where
    is_left : (b : Bool) → IsLeft l (let_pass e) b
    drops : (U : List ℕ) → GivesUnit U (let_pass e) → IsDropped U l (let_pass e)
    placed : (f : Exp) → l ≡ a_tail f → IsPlaced V (block_with r l rest) f
    ready : Among next k.exits → (x : ℕ) → Among x (k.outs next) → IsReady V (aim_with r l rest) x
    dead : Among next k.exits → (x : ℕ) → In x (special_of A muts k) → (Among x (k.outs next) → ⊥) → (h : List Action) → Arrives V (aim_with r l rest) h → Living V x h → ⊥
    unreached : NeverEnds (a_marked e (leaves next)) r → (h : List Action) → Arrives V (aim_with r l rest) h → ⊥

  part_on : {s : Order} {a : Action} {v : List Action} → Walk (orders.then (orders.then s orders.nothing) (orders.act a)) v walk.on → (us : List Action) × Walk s us walk.on
  part_on (walk.both (walk.both {us = us} y z) w) = (us, y)
  part_on (walk.both (walk.first e y) w) = absurd e
  part_on (walk.first e y) = absurd e

  value_never : {e : Exp} → NeverOn e → {t : Temporary} {v : List Action} → Walk (orders.order (let_pass e) t) v walk.on → ⊥
  value_never {e} n x = never_on n (temporary_of e) (part_on x).1

  -- the tail of a block: there the text tells that its value passed
  module _ (r : Stretch) (e : Exp) (rest : Body) where
    abbrev aim : Aim
    aim = aim_with r (a_tail (let_pass e)) rest

    newest : (h : List Action) → Arrives V aim h → (t : Temporary) × Newest (tailed_of A k.params) (passage e t) h
    newest _ (arrives_tail {h = h} {w = w} {u = v} i t c th x) =
        let at = V.within (through_into th (with_last (a_tail (let_pass e)) rest) i t) c in
        let z = passed_on x in
        (t, (put z.0 (put w h), ap (λ l. put l (put w h)) z.1 ∙ put_append z.0 (passage e t ∷ []) (put w h), comes_on (tailed_of A k.params) (orders.order (let_pass e) t) (put w h) v at (walk.stops x)))

    ready_there : Among next k.exits → (x : ℕ) → Among x (k.outs next) → IsReady V aim x
    ready_there i x o h c =
        let z = newest h c in
        let n = z.1 in
        let good = subst (λ h. IsHistory (tailed_of A k.params) h) n.1 n.2 in (
          subst (λ h. Living V x h) (sym n.1) (tail_out_living A had.tail k had.plan had.told_once muts had.accepted u x i o (mark_of e).node (temporary_of e) z.0 n.0 good),
          subst (λ h. Written h x) (sym n.1) (inr ((λ d. d), tail_out_written A had.tail k had.plan had.told_once muts had.accepted x (had.whole x) i o (mark_of e).node (temporary_of e) z.0 n.0 good)),
        )

    dead_there : Among next k.exits → (x : ℕ) → In x (special_of A muts k) → (Among x (k.outs next) → ⊥) → (h : List Action) → Arrives V aim h → Living V x h → ⊥
    dead_there i x s none h c l =
        let z = newest h c in
        tail_others_dead A had.tail k had.plan had.told_once muts had.passed u x i s none (mark_of e).node (temporary_of e) z.0 z.1.0 (subst (λ h. Living V x h) z.1.1 l)

    unreached_there : NeverEnds (a_marked e (leaves next)) r → (h : List Action) → Arrives V aim h → ⊥
    unreached_there (first_never n) _ (arrives_tail i t c th x) = never_passed (marked_never enters k.params n) th
    unreached_there (last_never n) _ (arrives_tail i t c th x) = value_never n x

    tail_leads : Leads r e rest (a_tail (let_pass e))
    tail_leads = record {
      is_left = λ b. left_tail;
      drops = λ U u. u;
      placed = λ f q. let z : let_pass e ≡ f = cc in subst (λ f. IsPlaced V (block_with r (a_tail (let_pass e)) rest) f) z (is_let_pass {e = e});
      ready = ready_there;
      dead = dead_there;
      unreached = unreached_there;
    }

  -- the end of a function's body: behind what is given nothing is needed
  module _ (r : Stretch) (m : Mark) (e : Exp) (rest : Body) (none : k.outs next ≡ []) where
    abbrev end_aim : Aim
    end_aim = aim_with r (an_end m (let_pass e)) rest

    dead_behind : (x : ℕ) (h : List Action) → Arrives V end_aim h → Living V x h → ⊥
    dead_behind x _ (arrives_then {h = h} c) l = given_dead (tailed_of A k.params) (special_of A muts k) u m.node (temporary_of (let_pass e)) x h l

    unreached_end : NeverEnds (a_marked e (leaves next)) r → (h : List Action) → Arrives V end_aim h → ⊥
    unreached_end (first_never n) _ (arrives_then (arrives_past i t c th x)) = never_passed (marked_never enters k.params n) th
    unreached_end (last_never n) _ (arrives_then (arrives_past i t c th x)) = value_never n x

    not_a_tail : (f : Exp) → an_end m (let_pass e) ≡ a_tail f → ⊥
    not_a_tail f q = cc

    end_leads : Leads r e rest (an_end m (let_pass e))
    end_leads = record {
      is_left = λ b. left_end;
      drops = λ U u. u;
      placed = λ f q. absurd (not_a_tail f q);
      ready = λ i x o. absurd (none_among (subst (λ xs. Among x xs) none o));
      dead = λ i x s o h c l. dead_behind x h c l;
      unreached = unreached_end;
    }

  -- ---- the call

  module _ {r : Stretch} {e : Exp} {rest : Body} {l : Last} (leads : Leads r e rest l) where
    abbrev the_aim : Aim
    the_aim = aim_with r l rest

    abbrev Unreached : Way → Type 0
    Unreached w = w ≡ no_way → (h : List Action) → Arrives V the_aim h → ⊥

    outs_ready : (w : Way) → Ends w → (x : ℕ) → Among x (k.outs next) → IsReady V the_aim x
    outs_ready bare i x o = leads.ready i x o
    outs_ready (as_variant v) i x o = leads.ready i x o
    outs_ready no_way n x o = absurd (no_outs n x o)

    others_dead : (w : Way) → Ends w → Unreached w → (x : ℕ) → In x (special_of A muts k) → (Among x (k.outs next) → ⊥) → (h : List Action) → Arrives V the_aim h → Living V x h → ⊥
    others_dead bare i never x s none h c l = leads.dead i x s none h c l
    others_dead (as_variant v) i never x s none h c l = leads.dead i x s none h c l
    others_dead no_way i never x s none h c l = never refl h c

    all_dead : (w : Way) → Ends w → Unreached w → (R : Renaming) → NotHanded A muts k next R → AreDead V R the_aim
    all_dead w i never R none x y seen h c l = let s = none x y seen in others_dead w i never x s.0 s.1 h c l

    again_dead : (w : Way) → Ends w → Unreached w → (x : ℕ) → Among x k.redeclared → (h : List Action) → Arrives V the_aim h → Living V x h → ⊥
    again_dead w i never x m h c l = others_dead w i never x (again_special A muts k x m) (again_not_out A k had.plan x m) h c l

    module _ (modes : List Mode) (items : ℕ → ℕ) (gain : Allowance) (U : List ℕ) (N : New) where
      becomes : {J Ji : Jumping} {R Rn Ra Rb : Renaming} {r' : Stretch} {has : Bool} {w : Way} {end : Body} {es : Operands} {mc : Mark} {called : Exp} {f' : Body → Body} (mb : Mark) (ls : List (ℕ × ℕ))
          → N.function.body ≡ body_of mb ls r' end → EntersWith gain.strays k modes R es N.function.params ls Ra → Moved items gain U (special_of A muts k) Ji Ra r r' Rb
          → TailEnded items gain U (special_of A muts k) Ji Rb e has w (k.outs next) end → (w ≡ no_way → NeverEnds (a_marked e (leaves next)) r) → Ends w → TailCallOf A muts k J R (tree.call mc N.number es) has Ji w called
          → TailHanded A muts k J R Rb l called has w (k.outs next) Rn f' → StatementsBecomeCall items gain U N V 1 J R Rn rest (λ b. before (with_mark enters k.params r) (with_last l b)) f'
      becomes {Ji = Ji} {has = has} {w = w} {mc = mc} mb ls is en moved ended never i call handed =
          statements_become_call {r = with_mark enters k.params r} {l = l} {has = has} {mc = mc} _ _ mb ls is (entered_so A muts k V told r (with_last l rest) en)
          (stretch_so A muts k V told items gain U Ji ok moved) (end_so items gain U Ji ok the_aim leads.is_left (leads.drops U) far (outs_ready w i) ended) leads.placed (calling_so A muts k V told r (with_last l rest) call)
          (handed_so A muts k V told the_aim (all_dead w i far) (again_dead w i far) (block_with r l rest) (λ x o m. assigned_so r (with_last l rest) w i x o m) handed)
        where
          ok : ByPlan A muts k Ji
          ok = by_plan A muts k V told call

          far : Unreached w
          far q h c = leads.unreached (never q) h c

  ends_by : {J Ji : Jumping} {R : Renaming} {e called : Exp} {has : Bool} {w : Way} → TailCallOf A muts k J R e has Ji w called → Ends w
  ends_by (tail_call_alone only) = subst (λ l. Among next l) (sym only) here
  ends_by (tail_call_matched unit is arms picks receives new gives many) = variant_among k next is
  ends_by (tail_call_left unit none arms) = none

  leads_so : {l : Last} {e : Exp} (r : Stretch) (rest : Body) → IsTail k l e → Leads r e rest l
  leads_so r rest (of_block {e = e}) = tail_leads r e rest
  leads_so r rest (of_body {m = m} {e = e} none) = end_leads r m e rest none

  pub tail_stands_so : {a : ℕ} {J : Jumping} {R Rn : Renaming} {rest : Body} {f f' : Body → Body} (modes : List Mode) (items : ℕ → ℕ) (gain : Allowance) (U : List ℕ) (N : New) → TailBecomesCall A muts k modes items gain U N a J R Rn rest f f'
      → StatementsBecomeCall items gain U N V a J R Rn rest f f'
  tail_stands_so modes items gain U N (tail_becomes_call {r = r} {rest = rest} Ra Rb mb ls kind is en moved ended never call handed) =
      becomes (leads_so r rest kind) modes items gain U N mb ls is en moved ended never (ends_by call) call handed
