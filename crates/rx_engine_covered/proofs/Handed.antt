-- What stands in place of a run has one match: that of the call, with an arm for each exit.
use Rattle.std.proofs.Common.{◌≡◌, ◌<◌, inl, inr, ℕ, suc, Bool, true, List, [], ◌∷◌, length, refl, sym, ap, subst}
use Rattle.rx_core.specs.declared.types.Span.{Span}
use Rattle.rx_typed.specs.Types.{Declarations}
use Rattle.rx_typed.specs.Named.{Arms, Else, Exp, Statement, Statements}
use Rattle.rx_hoist_extraction.specs.Names.{Names}
use Rattle.rx_hoist_extraction.specs.Plan.{has_enum, Exit, Leaving, Variable}
use Rattle.rx_hoist_extraction.specs.Values.{Value}
use Rattle.rx_cover.specs.Width.{limit}
use Rattle.rx_engine_names.specs.Calls.{IsCall}
use Rattle.rx_engine_names.specs.Calls.IsCall.{is_call}
use Rattle.rx_engine_names.specs.Renaming.{Renaming}
use Rattle.rx_engine_names.specs.HandedOut.{AreArms, AreAssigned, AreHanded, AreJoined, ArePutBack, AreRedeclared, Handing, IsArm, IsAssigned, IsDone, IsJump, IsMade, IsTail, IsWhole, OneDone}
use Rattle.rx_engine_names.specs.HandedOut as handed
use Rattle.rx_engine_covered.specs.ExitsDeclared.{ExitsDeclared, IsOfExit}
use Rattle.rx_engine_covered.specs.TakesAll.{count_arms, ArmsTakeAll, EachTakesAll, ElseTakesAll, ExpTakesAll, HasArm, StatementsTakeAll, StatementTakesAll, TakesAll}

module _ (D : Declarations) where
  made_takes : {s : Span} {d : ℕ} {e : Exp} → IsMade s d e → ExpTakesAll D e
  made_takes (handed.IsMade.is_made e u) = tt

  joined_takes : {s : Span} {d k : ℕ} {o : Else} → AreJoined s d k o → ElseTakesAll D o
  joined_takes handed.AreJoined.nothing_joined = tt
  joined_takes (handed.AreJoined.one_joined h) = made_takes h
  joined_takes (handed.AreJoined.more_joined e h) = tt

  module _ (G : Handing) (R : Renaming) where
    jump_takes : {x : Exit} {e : Exp} → IsJump G R x e → ExpTakesAll D e
    jump_takes (handed.IsJump.jumps_out e a b) = tt
    jump_takes (handed.IsJump.jumps_on e a b) = tt

    assigned_takes : {x : List ℕ} {P : Exp → Type 0} → ((e : Exp) → P e → ExpTakesAll D e) → (e : Exp) → IsAssigned G.call R x P e → ExpTakesAll D e
    assigned_takes f _ (handed.IsAssigned.is_assigned {e = e} a p h) = f e h
    assigned_takes f _ (handed.IsAssigned.is_given {e = e} a p i j h) = f e h

    done_takes : {s : Span} {P : Exp → Type 0} → ((e : Exp) → P e → ExpTakesAll D e) → {a : Statement} → IsDone s P a → StatementTakesAll D a
    done_takes f (handed.IsDone.is_done {e = e} a h) = f e h

    all_assigned_take : {Q : Statements → Type 0} → ((ss : Statements) → Q ss → StatementsTakeAll D ss) → {d : ℕ} {xs : Names} {ss : Statements} → AreAssigned G.call R Q d xs ss → StatementsTakeAll D ss
    all_assigned_take f (handed.AreAssigned.all_assigned {ss = ss} h) = f ss h
    all_assigned_take f (handed.AreAssigned.more_assigned h hs) = (done_takes (assigned_takes (λ e k. made_takes k)) h, all_assigned_take f hs)

    jump_at_end : {x : Exit} (ss : Statements) → OneDone G.call.place (IsJump G R x) ss → StatementsTakeAll D ss
    jump_at_end _ (handed.OneDone.one_done h) = (done_takes (λ e k. jump_takes k) h, tt)

    arm_takes : {d k : ℕ} {x : Exit} {xs : Names} {e : Exp} → IsArm G R d k x xs e → ExpTakesAll D e
    arm_takes (handed.IsArm.next_alone a b) = (tt, tt)
    arm_takes (handed.IsArm.next_with h) = joined_takes h
    arm_takes (handed.IsArm.jump_alone h) = jump_takes h
    arm_takes (handed.IsArm.jump_with a b h) = (all_assigned_take jump_at_end h, tt)
    arm_takes (handed.IsArm.returns a h) = joined_takes h

    arms_take : {xs : List Leaving} {l : Arms} → AreArms G R xs l → EachTakesAll D l
    arms_take handed.AreArms.no_arms = tt
    arms_take (handed.AreArms.more_arms a p h hs) = (arm_takes h, arms_take hs)

    arm_for : {xs : List Leaving} {l : Arms} (v : ℕ) → AreArms G R xs l → IsOfExit G v xs → HasArm v l
    arm_for v handed.AreArms.no_arms h = absurd h
    arm_for v (handed.AreArms.more_arms a p k hs) (inl h) = inl h
    arm_for v (handed.AreArms.more_arms a p k hs) (inr h) = inr (arm_for v hs h)

    as_many : {xs : List Leaving} {l : Arms} → AreArms G R xs l → count_arms l ≡ length xs
    as_many handed.AreArms.no_arms = refl
    as_many (handed.AreArms.more_arms a p h hs) = ap suc (as_many hs)

    -- there is an exit
    all_take : (xs : List Leaving) {l : Arms} → AreArms G R xs l → has_enum xs ≡ true → TakesAll D G.enum l → ArmsTakeAll D l
    all_take [] handed.AreArms.no_arms e t = absurd (cc)
    all_take (x ∷ xs) (handed.AreArms.more_arms a p h hs) e t = t

    call_takes : (e : Exp) → IsCall G.call R e → ExpTakesAll D e
    call_takes _ (is_call a h) = tt

    whole_by : (b : Bool) → has_enum G.call.plan.exits ≡ b → (b ≡ true → ExitsDeclared D G) → (e : Exp) → IsWhole G R b e → ExpTakesAll D e
    whole_by _ q x e (handed.IsWhole.call_alone h) = call_takes e h
    whole_by _ q x _ (handed.IsWhole.call_matched {e = e} {l = l} a h hs) =
        let k = x refl in
        (all_take G.call.plan.exits hs q (record { enum = k.enum; each = λ v m. arm_for v hs (k.each v m); few = subst (λ (n : ℕ). n < limit) (sym (as_many hs)) k.few }), call_takes e h, arms_take hs)

    module _ (exits : has_enum G.call.plan.exits ≡ true → ExitsDeclared D G) where
      abbrev W : Exp → Type 0
      W = IsWhole G R (has_enum G.call.plan.exits)

      whole_takes : (e : Exp) → W e → ExpTakesAll D e
      whole_takes e h = whole_by (has_enum G.call.plan.exits) refl exits e h

      redeclared_take : {d : ℕ} {vs : List Variable} (ss : Statements) → AreRedeclared G.call.place R d vs ss → StatementsTakeAll D ss
      redeclared_take _ handed.AreRedeclared.none_redeclared = tt
      redeclared_take _ (handed.AreRedeclared.more_redeclared {ss = ss} a p s hs) = (tt, redeclared_take ss hs)

      put_back_take : {Q : Statements → Type 0} → ((ss : Statements) → Q ss → StatementsTakeAll D ss) → {d : ℕ} {hs : List Value} {ss : Statements} → ArePutBack G R Q d hs ss → StatementsTakeAll D ss
      put_back_take f (handed.ArePutBack.none_put_back {ss = ss} h) = f ss h
      put_back_take f (handed.ArePutBack.result_stays h) = put_back_take f h
      put_back_take f (handed.ArePutBack.own_stays e h) = put_back_take f h
      put_back_take f (handed.ArePutBack.is_put_back e h hs) = (done_takes (assigned_takes (λ e k. made_takes k)) h, put_back_take f hs)

      pub handed_take : {later d : ℕ} {vs : List Variable} {hs : List Value} {ss : Statements} → AreHanded G R W (AreRedeclared G.call.place R later vs) d hs ss → StatementsTakeAll D ss
      handed_take (handed.AreHanded.done_alone {ss = ss} h k) = (done_takes whole_takes h, redeclared_take ss k)
      handed_take (handed.AreHanded.is_tail {ss = ss} k) = redeclared_take ss k
      handed_take (handed.AreHanded.one_bound {e = e} {ss = ss} o a p h k) = (whole_takes e h, redeclared_take ss k)
      handed_take (handed.AreHanded.one_assigned {ss = ss} o h k) = (done_takes (assigned_takes whole_takes) h, redeclared_take ss k)
      handed_take (handed.AreHanded.several_bound {e = e} a p b h k) = (whole_takes e h, put_back_take redeclared_take k)

      pub tail_takes : {s : Span} {d : ℕ} {hs : List Value} {o : Else} → IsTail s W d hs o → ElseTakesAll D o
      tail_takes handed.IsTail.no_value = tt
      tail_takes handed.IsTail.no_result = tt
      tail_takes (handed.IsTail.call_is_tail {e = e} h) = whole_takes e h
      tail_takes (handed.IsTail.first_is_tail h) = made_takes h
