-- A run with its block's tail, by what is told of the histories of a text: params and locals where it is entered, jumps out of it, what was lent;
-- and what is needed where its tail leads to.
use Rattle.std.proofs.Common.{◌≡◌, ℕ, Bool, List, refl, subst}
use Rattle.rx_typed.specs.Tree as tree
use Rattle.rx_typed.specs.Tree.{Exp, Operands, Parameter, Arms, Body, Temporary}
use Rattle.rx_lower_walks.specs.Actions.{Action}
use Rattle.rx_lower_walks.specs.Orders.{order_body}
use Rattle.rx_lower_walks.specs.Walks.{Among}
use Rattle.rx_exits_plan.specs.Points.{Exit, next, enters, jump_exit}
use Rattle.rx_exits_plan.specs.Asked.{Asked}
use Rattle.rx_exits_plan.specs.Plan.{Plan}
use Rattle.rx_modes_policy.specs.declared.uses.Mode.{Mode}
use Rattle.rx_engine_simulation.specs.Turns.{Allowance}
use Rattle.rx_engine_simulation.specs.Histories.{Facts, Living}
use Rattle.rx_engine_simulation.specs.Sights.{Renaming}
use Rattle.rx_engine_simulation.specs.Jumps.{Pack, Jumping}
use Rattle.rx_engine_simulation.specs.Arrivals.{Aim, Arrives, AreDead, IsUnlent}
use Rattle.rx_engine_simulation.specs.Blocks.{Stretch, before}
use Rattle.rx_engine_simulation.specs.Endings.{Last}
use Rattle.rx_engine_simulation.specs.Marks.{reading, with_mark, AreWritten}
use Rattle.rx_engine_simulation.specs.Packing.{Way}
use Rattle.rx_engine_simulation.specs.Stretches.{LikeStretch, only_marks}
use Rattle.rx_engine_simulation.specs.Statements.{Entered, Calling, calls_alone, matches, matches_jumps, count, ends_with_unit, Handing, hands_on, hands_value, hands_beside, hands_none}
use Rattle.rx_engine_simulation.specs.Statements as statements
use Rattle.rx_engine_simulation.specs.Variants.{leaving, JumpArm, jump_arm, JumpOn}
use Rattle.rx_engine_related.specs.AboutRun.{special_of}
use Rattle.rx_engine_related.specs.Premises.{NotHanded}
use Rattle.rx_engine_related.specs.ByForm.{by_form}
use Rattle.rx_engine_related.specs.Given.{EntersWith, enters_with}
use Rattle.rx_engine_related.specs.Moved.{Moved}
use Rattle.rx_engine_related.specs.Handed.{MayBeAssigned}
use Rattle.rx_engine_related.specs.Leaving.{jumps_of, left, BackArm, back_arm, ArmsOf}
use Rattle.rx_engine_related.specs.Tails.{TailCallOf, tail_call_alone, tail_call_matched, tail_call_left, TailHanded, value_back, value_behind, unit_behind, nothing_behind}
use Rattle.rx_engine_related.proofs.Weaker.{Opens}
use Rattle.rx_engine_related.proofs.Specials.{in_list}
use Rattle.rx_engine_related.proofs.Entering.{passes, locals_so}
use Rattle.rx_engine_related.proofs.Moving.{moved_so}
use Rattle.rx_engine_related.proofs.Handing.{hands_so, back_so, again_so}
use Rattle.rx_engine_related.proofs.Leaving.{ByPlan, inner_by_plan, jumps_by_plan}

-- what is told of a text
pub record Told (A : Asked) (muts : List Bool) (k : Plan) (V : Facts) : Type 0 where
  pub needed : (r : Stretch) (rest : Body) (x : ℕ) → Among x k.params → (i : ℕ) (t : Temporary) (h : List Action) → V.Comes (order_body (before (with_mark enters k.params r) rest) i t) h → Living V x h
  pub written : AreWritten V enters k.params
  pub unneeded : (r : Stretch) (rest : Body) (x : ℕ) → Among x k.locals → (i : ℕ) (t : Temporary) (h : List Action) → V.Comes (order_body (before (with_mark enters k.params r) rest) i t) h → Living V x h → ⊥
  pub jumps : (U : List ℕ) → Opens (left U) (leaving U) (by_form (special_of A muts k)) V (ByPlan A muts k)
  pub unlent : (r : Stretch) (rest : Body) (e : Exit) (x : ℕ) → Among e k.exits → Among x (k.outs e) → MayBeAssigned A muts k x → IsUnlent V (before (with_mark enters k.params r) rest) x

module _ (A : Asked) (muts : List Bool) (k : Plan) (V : Facts) (told : Told A muts k V) where
  -- ---- the run is entered, and its statements

  pub entered_so : {again : Bool} {modes : List Mode} {R Ra : Renaming} {es : Operands} {ps : List Parameter} {ls : List (ℕ × ℕ)} (r : Stretch) (rest : Body) → EntersWith again k modes R es ps ls Ra
      → Entered again V R (before (with_mark enters k.params r) rest) es ps ls Ra
  entered_so {again} {R = R} r rest (enters_with cold Rp Rl all_shut given local absents covers specials) =
      statements.enters cold Rp Rl all_shut
      (λ i t. passes again V R (order_body (before (with_mark enters k.params r) rest) i t) cold all_shut (λ x m h c. told.needed r rest x m i t h c) (λ x m h c. told.written x (in_list m) (before (reading k.params r) rest) i t h c) given)
      (λ i t. locals_so again V R (order_body (before (with_mark enters k.params r) rest) i t) cold all_shut (λ x m h c l. told.unneeded r rest x m i t h c l) local)
      absents covers specials

  -- ---- the arms of the match

  arm_so : {R : Renaming} {l : Arms} {p : Pack} {jump : Exp} (r : Stretch) (rest : Body) (e : Exit) → Among e k.exits → p.outs ≡ k.outs e → BackArm A muts k R l p jump → JumpArm V R (before (with_mark enters k.params r) rest) l p jump
  arm_so r rest e i same (back_arm Rs Rr Rd all within received receives picks put back jumps) =
      jump_arm Rs Rr Rd all within received receives picks (back_so A V muts k _ (before (with_mark enters k.params r) rest) (λ x o m. told.unlent r rest e x i (subst (λ xs. Among x xs) same o) m) put) back jumps

  pub arms_so : {unit : Bool} {J : Jumping} {R : Renaming} {l : Arms} (r : Stretch) (rest : Body) → ArmsOf A muts k unit J R l → JumpOn V J (jumps_of A muts k unit) R (before (with_mark enters k.params r) rest) l
  arms_so {unit} r rest arms = record {
    all_dead = arms.all_special;
    no_loops = refl;
    jumps_on = λ n again p e.
        let z = arms.jumps n again p e in
        let q = (jumps_by_plan A muts k unit).jumps n again p e in
        (z.0, z.1, z.2, arm_so r rest (jump_exit n again) q.0 q.1 z.3);
    returns_on = arms.return;
  }

  pub calling_so : {J Ji : Jumping} {R : Renaming} {e called : Exp} {has : Bool} {w : Way} (r : Stretch) (rest : Body) → TailCallOf A muts k J R e has Ji w called
      → Calling V J R (before (with_mark enters k.params r) rest) e Ji w (count has (k.outs next)) called
  calling_so r rest (tail_call_alone only) = calls_alone
  calling_so r rest (tail_call_matched unit is arms picks receives new gives many) = matches (arms_so r rest arms) picks receives new gives many
  calling_so r rest (tail_call_left unit none arms) = matches_jumps (arms_so r rest arms)

  pub by_plan : {J Ji : Jumping} {R : Renaming} {e called : Exp} {has : Bool} {w : Way} → TailCallOf A muts k J R e has Ji w called → ByPlan A muts k Ji
  by_plan (tail_call_alone only) = inner_by_plan A muts k
  by_plan (tail_call_matched unit is arms picks receives new gives many) = jumps_by_plan A muts k unit
  by_plan (tail_call_left unit none arms) = jumps_by_plan A muts k unit

  -- ---- what the caller does

  module _ (a : Aim) (dead : (R : Renaming) → NotHanded A muts k next R → AreDead V R a) (again_dead : (x : ℕ) → Among x k.redeclared → (h : List Action) → Arrives V a h → Living V x h → ⊥) where
    pub handed_so : {J : Jumping} {R Rb Rn : Renaming} {e : Exp} {l : Last} {has : Bool} {w : Way} {xs : List ℕ} {f' : Body → Body} (block : Body) → ((x : ℕ) → Among x xs → MayBeAssigned A muts k x → IsUnlent V block x)
        → TailHanded A muts k J R Rb l e has w xs Rn f' → Handing V J R Rb block a e l has w xs Rn f'
    handed_so {R = R} block unlent (value_back none given) = hands_value (dead R none) given
    handed_so {R = R} block unlent (value_behind Rs Rr Rd within handed new apart received receives put back takes given) =
        hands_beside Rs Rr Rd within (dead Rs handed) new apart received receives (back_so A V muts k R block unlent put) back takes given
    handed_so {R = R} block unlent (unit_behind {g = g} {h = h} {f = f} {m = m} Rs Rr Rd within handed back again given there_in back_in) =
        hands_on {f = h} {g = g} {k = λ b. tree.ends (f (tree.unit m))} Rs Rr Rd within (dead Rs handed) (hands_so A V muts k R block unlent back) (again_so a again_dead again) (ends_with_unit given) there_in back_in
    handed_so block unlent (nothing_behind {g = g}) = hands_none {g = g}

  -- ---- in the new function

  module _ (items : ℕ → ℕ) (gain : Allowance) (U : List ℕ) (Ji : Jumping) (ok : ByPlan A muts k Ji) where
    pub stretch_so : {R Rb : Renaming} {r r' : Stretch} → Moved items gain U (special_of A muts k) Ji R r r' Rb → LikeStretch items gain U V Ji R (with_mark enters k.params r) r' Rb
    stretch_so m = only_marks enters k.params told.written (moved_so items gain U (special_of A muts k) V (ByPlan A muts k) (told.jumps U) Ji ok m)
