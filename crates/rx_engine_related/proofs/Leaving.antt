-- Jumps out of the run beside the returns of variants: in front of a jump the mark of its exit tells what is needed where it leads, and behind
-- what a return gives nothing is. And the arms of the match.
use Rattle.std.proofs.Common.{◌≡◌, ◌≢◌, ℕ, suc, ◌==◌, Bool, true, false, ◌&&◌, if◌then◌else◌, List, [], ◌∷◌, Option, Some, None, refl, sym, ap, subst, true≢false}
use Rattle.std.proofs.lemmas.Bool.Decides.{Decides-eqb}
use Rattle.rx_typed.specs.Tree as tree
use Rattle.rx_typed.specs.Tree.{Mark, Exp, Arms, Body, temporary_at}
use Rattle.rx_lower_walks.specs.Orders.{order_body}
use Rattle.rx_lower_walks.specs.Walks as walk
use Rattle.rx_lower_walks.specs.Walks.{Among, here, there}
use Rattle.rx_exits_plan.specs.Points.{Exit, next, breaks, continues, returns, enters, leaves, same_exit, jump_exit}
use Rattle.rx_exits_plan.specs.Runs.{behind}
use Rattle.rx_exits_plan.specs.Marked.{mark, shown}
use Rattle.rx_exits_plan.specs.Asked.{Asked}
use Rattle.rx_exits_plan.specs.Plan.{Plan}
use Rattle.rx_engine_simulation.specs.Histories.{Living}
use Rattle.rx_engine_simulation.specs.Sights.{In, Renaming}
use Rattle.rx_engine_simulation.specs.Jumps.{Pack, Jumping}
use Rattle.rx_engine_simulation.specs.Programs.{Untouched}
use Rattle.rx_engine_simulation.specs.Passing.{inner_jumps}
use Rattle.rx_engine_simulation.specs.Arrivals.{IsReady, IsUnlent}
use Rattle.rx_engine_simulation.specs.Variants.{leaving, Leaves, leaves_marked, leaves_function, leaves_value, leaves_unit, at_marked, DeadAt, DeadBehind, JumpArm, jump_arm, JumpOn}
use Rattle.rx_engine_simulation.proofs.Arriving.{behind_jump}
use Rattle.rx_engine_simulation.proofs.MarksTell.{comes_on}
use Rattle.rx_engine_related.specs.AboutRun.{special_of, about_run}
use Rattle.rx_engine_related.specs.Running.{running_of}
use Rattle.rx_engine_related.specs.Premises.{known_of, ByMark}
use Rattle.rx_engine_related.proofs.Closing.{given_dead}
use Rattle.rx_engine_related.proofs.Premises.{out_ready, whole_unlent}
use Rattle.rx_engine_related.proofs.Points.{comes_to_mark}
use Rattle.rx_engine_related.proofs.Runs.{running_others_dead, running_lent, running_lent_there}
use Rattle.rx_engine_related.specs.ByForm.{by_form}
use Rattle.rx_engine_related.specs.Handed.{MayBeAssigned, is_mut, is_local, not_lent}
use Rattle.rx_engine_related.specs.Leaving.{place_from, variant_for, pack_if, jumps_of, Left, left_by_jump, left_by_return, left_with_value, left_with_unit, left, BackArm, back_arm, ArmsOf}
use Rattle.rx_engine_related.proofs.Loops.{Held}
use Rattle.rx_engine_related.proofs.Weaker.{Opens}
use Rattle.rx_engine_related.proofs.Specials.{in_list, out_special}
use Rattle.rx_engine_related.proofs.Inside.{has_some}
use Rattle.rx_engine_related.proofs.Locals.{Premises, never_lent}
use Rattle.rx_engine_related.proofs.Ending.{ready_so}
use Rattle.rx_engine_related.proofs.Handing.{back_so}

-- ---- variants by the numbers of exits

same_loop : (f : ℕ → Exit) (l k : ℕ) → (l == k) ≡ true → f l ≡ f k
same_loop f l k e = ap f ((Decides-eqb l k).0 e)

same_is : (e x : Exit) → same_exit e x ≡ true → e ≡ x
same_is next next q = refl
same_is (breaks l) (breaks k) q = same_loop breaks l k q
same_is (continues l) (continues k) q = same_loop continues l k q
same_is returns returns q = refl
same_is next (breaks k) q = absurd (true≢false (sym q))
same_is next (continues k) q = absurd (true≢false (sym q))
same_is next returns q = absurd (true≢false (sym q))
same_is (breaks l) next q = absurd (true≢false (sym q))
same_is (breaks l) (continues k) q = absurd (true≢false (sym q))
same_is (breaks l) returns q = absurd (true≢false (sym q))
same_is (continues l) next q = absurd (true≢false (sym q))
same_is (continues l) (breaks k) q = absurd (true≢false (sym q))
same_is (continues l) returns q = absurd (true≢false (sym q))
same_is returns next q = absurd (true≢false (sym q))
same_is returns (breaks k) q = absurd (true≢false (sym q))
same_is returns (continues k) q = absurd (true≢false (sym q))

placed_among : (i : ℕ) (e : Exit) (es : List Exit) {v : ℕ} → place_from i e es ≡ Some v → Among e es
placed_among i e [] q = absurd (cc)
placed_among i e (x ∷ xs) {v = v} q = by (λ r. placed_among (suc i) e xs r) (same_exit e x) refl q
  where
    by : (place_from (suc i) e xs ≡ Some v → Among e xs) → (b : Bool) → same_exit e x ≡ b → (if b then Some i else place_from (suc i) e xs) ≡ Some v → Among e (x ∷ xs)
    by ih true s r = subst (λ y. Among e (y ∷ xs)) (same_is e x s) here
    by ih false s r = there (ih r)

pub variant_among : (k : Plan) (e : Exit) {v : ℕ} → variant_for k e ≡ Some v → Among e k.exits
variant_among k e q = placed_among 0 e k.exits q

abbrev outs_if : Option Pack → List ℕ
outs_if None = []
outs_if (Some p) = p.outs

pack_has : (xs : List ℕ) (o : Option ℕ) {p : Pack} → pack_if xs o ≡ Some p → (v : ℕ) × (o ≡ Some v) × (p.outs ≡ xs)
pack_has xs None q = absurd (cc)
pack_has xs (Some v) q = (v, refl, sym (ap outs_if q))

-- ---- jumps by the plan

-- what leaves is an exit, with what this hands out; and what would be dead is elsewhere
pub record ByPlan (A : Asked) (muts : List Bool) (k : Plan) (J : Jumping) : Type 0 where
  pub jumps : (l : ℕ) (again : Bool) (p : Pack) → J.leaving l again ≡ Some p → Among (jump_exit l again) k.exits × (p.outs ≡ k.outs (jump_exit l again))
  pub dead : (x : ℕ) → In x J.dead → In x (special_of A muts k)

pub inner_by_plan : (A : Asked) (muts : List Bool) (k : Plan) → ByPlan A muts k inner_jumps
inner_by_plan A muts k = record { jumps = λ l again p e. absurd (cc); dead = λ x i. absurd i }

pub jumps_by_plan : (A : Asked) (muts : List Bool) (k : Plan) (unit : Bool) → ByPlan A muts k (jumps_of A muts k unit)
jumps_by_plan A muts k unit = record {
  jumps = λ l again p e. let z = pack_has (k.outs (jump_exit l again)) (variant_for k (jump_exit l again)) e in (variant_among k (jump_exit l again) z.1, z.2);
  dead = λ x i. i;
}

jump_no_return : (l : ℕ) (again : Bool) → jump_exit l again ≢ returns
jump_no_return l true q = cc
jump_no_return l false q = cc

module _ (A : Asked) (muts : List Bool) (k : Plan) (had : Held A muts k) (u : Untouched (running_of A k.params) (about_run A muts k)) where
  -- ---- in the new function

  jump_by_mark : (m : Mark) (l : ℕ) (again : Bool) → ByMark A muts k u (jump_exit l again) (at_marked (leaves (jump_exit l again)) (tree.jump m l again))
  jump_by_mark m l again h a = behind_jump (running_of A k.params) (about_run A muts k) u (leaves (jump_exit l again)) (tree.jump m l again) a

  jump_ready : (m : Mark) (l : ℕ) (again : Bool) (p : Pack) → Among (jump_exit l again) k.exits → p.outs ≡ k.outs (jump_exit l again) → (x : ℕ) → Among x p.outs → IsReady (known_of A muts k u) (at_marked (leaves (jump_exit l again)) (tree.jump m l again)) x
  jump_ready m l again p i same x o =
      out_ready A muts k u had.short had.plan had.accepted (jump_exit l again) (at_marked (leaves (jump_exit l again)) (tree.jump m l again)) x (jump_by_mark m l again) (jump_no_return l again)
      (had.one_place (jump_exit l again) i (jump_no_return l again)) (had.whole x) i (subst (λ xs. Among x xs) same o)

  jump_dead : (J : Jumping) → ByPlan A muts k J → (m : Mark) (l : ℕ) (again : Bool) (p : Pack) → Among (jump_exit l again) k.exits → p.outs ≡ k.outs (jump_exit l again)
      → DeadAt (known_of A muts k u) J p.outs (at_marked (leaves (jump_exit l again)) (tree.jump m l again))
  jump_dead J ok m l again p i same h a x d none living =
      let n = jump_by_mark m l again h a in
      running_others_dead A had.short k had.plan muts had.passed u (jump_exit l again) x i (jump_no_return l again) (ok.dead x d) (λ o. none (in_list (subst (λ xs. Among x xs) (sym same) o))) n.0 (subst (λ h. Living (known_of A muts k u) x h) n.1 living)

  return_dead : (J : Jumping) (m : Mark) → DeadBehind (known_of A muts k u) J m
  return_dead J m n h c x d living = given_dead (running_of A k.params) (special_of A muts k) u m.node (temporary_at n 0) x h living

  left_so : {U : List ℕ} {a : ℕ} {J : Jumping} {R : Renaming} {e : Exp} {f f' : Exp → Exp} → ByPlan A muts k J → Left U a J R e f f' → Leaves U (known_of A muts k u) a J R e f f'
  left_so {J = J} ok (left_by_jump {m = m} {l = l} {again = again} p leads have gives) =
      let z = ok.jumps l again p leads in
      leaves_marked (leaves (jump_exit l again)) p leads (ready_so (at_marked (leaves (jump_exit l again)) (tree.jump m l again)) have (jump_ready m l again p z.0 z.1)) gives (jump_dead J ok m l again p z.0 z.1)
  left_so {J = J} ok (left_by_return {m = m} is gives) = leaves_function is (return_dead J m) gives
  left_so {J = J} ok (left_with_value {m = m} is) = leaves_value is (return_dead J m)
  left_so {J = J} ok (left_with_unit {m = m} is unit new gives) = leaves_unit is unit (return_dead J m) new gives

  pub all_left : (U : List ℕ) → Opens (left U) (leaving U) (by_form (special_of A muts k)) (known_of A muts k u) (ByPlan A muts k)
  all_left U = record {
    special = λ x i. i;
    into = λ J l n ok. record { jumps = ok.jumps; dead = ok.dead };
    expression = λ a J R e f f' ok o. left_so ok o;
    statements = λ a J R S b f f' ok o. absurd o;
  }

  -- ---- in the caller

  premises : Premises A muts k
  premises = record {
    plan = had.plan;
    accepted = had.accepted;
    sits = had.sits;
    none_behind = ap (λ t. t && has_some (behind A.run A.home.body)) had.short;
    unmarked = had.unmarked;
    one_block = had.one_block;
    whole = had.whole;
    unaliased = had.unaliased;
  }

  -- what is handed out and may be assigned was not lent where the run is entered
  pub assigned_unlent : (b : Body) (e : Exit) (x : ℕ) → Among e k.exits → Among x (k.outs e) → MayBeAssigned A muts k x → IsUnlent (known_of A muts k u) (tree.runs (mark enters) b) x
  assigned_unlent b e x i o (is_mut m) = whole_unlent A muts k u had.short had.plan had.accepted had.unaliased (tree.runs (mark enters) b) x (out_special A muts k e x i o) m
  assigned_unlent b e x i o (is_local l) = λ n t h c w.
      let z = running_lent_there A had.short k.params x (shown enters) h (comes_to_mark (running_of A k.params) enters b n t h c) w in
      never_lent A muts k premises x l e i o z.0 z.1 z.2
  assigned_unlent b e x i o (not_lent none) =
      λ n t h c w. none (running_lent A had.short k.params muts had.accepted x h (comes_on (running_of A k.params) (order_body (tree.runs (mark enters) b) n t) h [] c walk.rests) w)

  arm_so : {R : Renaming} {l : Arms} {p : Pack} {jump : Exp} (b : Body) (e : Exit) → Among e k.exits → p.outs ≡ k.outs e → BackArm A muts k R l p jump → JumpArm (known_of A muts k u) R (tree.runs (mark enters) b) l p jump
  arm_so b e i same (back_arm Rs Rr Rd all within received receives picks put back jumps) =
      jump_arm Rs Rr Rd all within received receives picks
      (back_so A (known_of A muts k u) muts k _ (tree.runs (mark enters) b) (λ x o m. assigned_unlent b e x i (subst (λ xs. Among x xs) same o) m) put) back jumps

  pub arms_so : {unit : Bool} {J : Jumping} {R : Renaming} {l : Arms} (b : Body) → ArmsOf A muts k unit J R l → JumpOn (known_of A muts k u) J (jumps_of A muts k unit) R (tree.runs (mark enters) b) l
  arms_so {unit} b arms = record {
    all_dead = arms.all_special;
    no_loops = refl;
    jumps_on = λ n again p e.
        let z = arms.jumps n again p e in
        let q = (jumps_by_plan A muts k unit).jumps n again p e in
        (z.0, z.1, z.2, arm_so b (jump_exit n again) q.0 q.1 z.3);
    returns_on = arms.return;
  }
