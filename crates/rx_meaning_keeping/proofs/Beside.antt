-- Two ways to act go side by side until they part: what each action relates, of the least relation.
use Rattle.std.proofs.Common.{◌≡◌, ℕ, zero, suc, Bool, true, false, nat_eq, List, [], ◌∷◌, ◌⊎◌, inl, inr, refl, sym, ap, subst, ◌∙◌, eqb-true}
use Rattle.std.proofs.lemmas.Bool.{eqb-false}
use Rattle.rx_lower_walks.specs.Actions.{Action}
use Rattle.rx_lower_walks.specs.Walks.{Among, here, there}
use Rattle.rx_meaning.specs.declared.outcome.Trap.{Trap}
use Rattle.rx_meaning.specs.Endings.{Cause, lacks, astray, immutable, mistyped, missing_reference, missing_function, missing_arm, missing_value, Ending, finished, trapped, running, wrong}
use Rattle.rx_meaning.specs.Straying.{why_not_checked}
use Rattle.rx_meaning.specs.Values.{Value, number, truth, whole, tagged, pointer, lacking, State}
use Rattle.rx_meaning.specs.Results as results
use Rattle.rx_meaning.specs.Results.{Done, gives}
use Rattle.rx_meaning.specs.Acting.{Acting}
use Rattle.rx_meaning.specs.Expressions.{Functions, called}
use Rattle.rx_meaning_keeping.specs.Relating.{Relation, IsNoTruth, DecideAlike, by_truth, by_none, by_excuse, by_parting, DoneRelated, gave, ended, excused, parted, Related, AllRelated, no_more, and_one, IsRelated}
use Rattle.rx_meaning_keeping.specs.Beside.{firsts, seconds, StatesBeside, starts, performed, turned, entered, returned, ValuesBeside, argument, unit, given_by, AllBeside, none, and, both_perform, SaidBeside, nothing, then, by_step, by_end, within, other_goes_on, other_ends, cannot_decide, first_goes_on, other_turns, other_truth, beside}
use Rattle.rx_meaning_keeping.proofs.Relating.{calls_relate}

-- ---- whether two ends are the same

abbrev of_cause : Cause → ℕ
of_cause lacks = 0
of_cause astray = 1
of_cause immutable = 2
of_cause mistyped = 3
of_cause missing_reference = 4
of_cause missing_function = 5
of_cause missing_arm = 6
of_cause missing_value = 7

abbrev cause_numbered : ℕ → Cause
cause_numbered zero = lacks
cause_numbered (suc zero) = astray
cause_numbered (suc (suc zero)) = immutable
cause_numbered (suc (suc (suc zero))) = mistyped
cause_numbered (suc (suc (suc (suc zero)))) = missing_reference
cause_numbered (suc (suc (suc (suc (suc zero))))) = missing_function
cause_numbered (suc (suc (suc (suc (suc (suc zero)))))) = missing_arm
cause_numbered (suc (suc (suc (suc (suc (suc (suc n))))))) = missing_value

abbrev number_of : Ending → ℕ
number_of finished = 0
number_of (trapped Trap.Overflow) = 1
number_of (trapped Trap.DivideByZero) = 2
number_of running = 3
number_of (wrong c) = suc (suc (suc (suc (of_cause c))))

abbrev numbered : ℕ → Ending
numbered zero = finished
numbered (suc zero) = trapped Trap.Overflow
numbered (suc (suc zero)) = trapped Trap.DivideByZero
numbered (suc (suc (suc zero))) = running
numbered (suc (suc (suc (suc n)))) = wrong (cause_numbered n)

number_again : (e : Ending) → numbered (number_of e) ≡ e
number_again finished = refl
number_again (trapped Trap.Overflow) = refl
number_again (trapped Trap.DivideByZero) = refl
number_again running = refl
number_again (wrong lacks) = refl
number_again (wrong astray) = refl
number_again (wrong immutable) = refl
number_again (wrong mistyped) = refl
number_again (wrong missing_reference) = refl
number_again (wrong missing_function) = refl
number_again (wrong missing_arm) = refl
number_again (wrong missing_value) = refl

same_or_not : (e e' : Ending) → (e ≡ e') ⊎ (e ≡ e' → ⊥)
same_or_not e e' = by (nat_eq (number_of e) (number_of e')) refl
  where
    by : (b : Bool) → nat_eq (number_of e) (number_of e') ≡ b → (e ≡ e') ⊎ (e ≡ e' → ⊥)
    by true h = inl (sym (number_again e) ∙ ap numbered (eqb-true _ _ h) ∙ number_again e')
    by false h = inr (λ p. eqb-false _ _ h (ap number_of p))

module _ {E F : Type 0} (A : Acting E) (B : Acting F) (given : List (Value × Value)) (s0 s0' : State) (start : s0.turns ≡ s0'.turns) where
  abbrev L : Relation
  L = beside A B given s0 s0'

  abbrev S : State → State → Type 0
  S s s' = StatesBeside A B given s0 s0' s s'

  abbrev V : Value → Value → Type 0
  V v v' = ValuesBeside A B given s0 s0' v v'

  same_turns : {s s' : State} → S s s' → s.turns ≡ s'.turns
  same_turns starts = start
  same_turns (performed (both_perform a vs vs' s s' h i p q t)) = t
  same_turns (turned n e h) = refl
  same_turns (entered i h) = same_turns h
  same_turns (returned h j) = same_turns j

  all_so : {vs vs' : List Value} → AllRelated L tt vs vs' → AllBeside A B given s0 s0' vs vs'
  all_so no_more = none
  all_so (and_one h t) = and h (all_so t)

  -- ---- what both decide by

  is_other : {b : Bool} {v : Value} → IsNoTruth v → truth b ≡ v → ⊥
  is_other {v = v} n e = subst IsNoTruth (sym e) n

  two_truths : (b c : Bool) → V (truth b) (truth c) → DecideAlike L (truth b) (truth c)
  two_truths true true h = by_truth true
  two_truths false false h = by_truth false
  two_truths true false h = by_parting (other_truth h (λ e. cc))
  two_truths false true h = by_parting (other_truth h (λ e. cc))

  no_lack : mistyped ≡ lacks → ⊥
  no_lack e = cc

  -- of a value that is of another form
  to_some : (v v' : Value) → IsNoTruth v → why_not_checked v ≡ mistyped → V v v' → DecideAlike L v v'
  to_some v (number j y) n e h = by_none n tt e
  to_some v (whole us) n e h = by_none n tt e
  to_some v (tagged i us) n e h = by_none n tt e
  to_some v (pointer i p m) n e h = by_none n tt e
  to_some v (truth b) n e h = by_excuse n (cannot_decide h n (λ q. is_other n (sym q)))
  to_some v (lacking l) n e h = by_excuse n (cannot_decide h n (λ q. no_lack (sym e ∙ ap why_not_checked q)))

  decide : (v v' : Value) → V v v' → DecideAlike L v v'
  decide (truth b) (truth c) h = two_truths b c h
  decide (truth b) (number k z) h = by_parting (other_truth h (λ e. cc))
  decide (truth b) (whole us) h = by_parting (other_truth h (λ e. cc))
  decide (truth b) (tagged i us) h = by_parting (other_truth h (λ e. cc))
  decide (truth b) (pointer i p m) h = by_parting (other_truth h (λ e. cc))
  decide (truth b) (lacking l) h = by_parting (other_truth h (λ e. cc))
  decide (lacking l) (lacking k) h = by_none tt tt refl
  decide (lacking l) (number k z) h = by_excuse tt (cannot_decide h tt (λ e. cc))
  decide (lacking l) (truth b) h = by_excuse tt (cannot_decide h tt (λ e. cc))
  decide (lacking l) (whole us) h = by_excuse tt (cannot_decide h tt (λ e. cc))
  decide (lacking l) (tagged i us) h = by_excuse tt (cannot_decide h tt (λ e. cc))
  decide (lacking l) (pointer i p m) h = by_excuse tt (cannot_decide h tt (λ e. cc))
  decide (number k z) v' h = to_some (number k z) v' tt refl h
  decide (whole us) v' h = to_some (whole us) v' tt refl h
  decide (tagged i us) v' h = to_some (tagged i us) v' tt refl h
  decide (pointer i p m) v' h = to_some (pointer i p m) v' tt refl h

  -- ---- what both do

  both_do : (a : Action) (vs vs' : List Value) (s s' : State) → AllBeside A B given s0 s0' vs vs' → S s s' → (r : Done E) → A.perform a vs s ≡ r → (q : Done F) → B.perform a vs' s' ≡ q
      → DoneRelated L (SaidBeside A B given s0 s0') tt r q
  both_do a vs vs' s s' h i (gives w v s1) e (gives u v' s1') f = by (nat_eq s1.turns s1'.turns) refl
    where
      by : (b : Bool) → nat_eq s1.turns s1'.turns ≡ b → DoneRelated L (SaidBeside A B given s0 s0') tt (gives w v s1) (gives u v' s1')
      by true t = let st = both_perform a vs vs' s s' h i e f (eqb-true s1.turns s1'.turns t) in gave tt (by_step st) tt (given_by st) (performed st)
      by false t = parted (other_turns a vs vs' s s' w u v v' s1 s1' h i e f (eqb-false s1.turns s1'.turns t))
  both_do a vs vs' s s' h i (gives w v s1) e (results.ends u x') f = parted (first_goes_on a vs vs' s s' w u v s1 x' h i e f)
  both_do a vs vs' s s' h i (results.ends w x) e (gives u v' s1') f = excused (other_goes_on a vs vs' s s' w u v' s1' x h i e f)
  both_do a vs vs' s s' h i (results.ends w x) e (results.ends u x') f = by (same_or_not x x')
    where
      one_end : (y : Ending) → x ≡ y → B.perform a vs' s' ≡ results.ends u y → DoneRelated L (SaidBeside A B given s0 s0') tt (results.ends w x) (results.ends u y)
      one_end y p g = subst (λ z. DoneRelated L (SaidBeside A B given s0 s0') tt (results.ends w x) (results.ends u z)) p
          (ended (by_end a vs vs' s s' x h i e (subst (λ z. B.perform a vs' s' ≡ results.ends u z) (sym p) g)))

      by : (x ≡ x') ⊎ (x ≡ x' → ⊥) → DoneRelated L (SaidBeside A B given s0 s0') tt (results.ends w x) (results.ends u x')
      by (inl p) = one_end x' p f
      by (inr n) = excused (other_ends a vs vs' s s' w u x x' h i e f n)

  side_by_side : IsRelated L (SaidBeside A B given s0 s0') A B
  side_by_side = record {
    told_none = nothing;
    told_more = λ w v u z p q. then p q;
    told_inner = λ w u p. within p;
    same = λ k. tt;
    chain = λ k l m a b. tt;
    values_grow = λ k l v v' g h. h;
    unit = λ k. unit;
    truths = λ k v v' h. decide v v' h;
    turns = λ k s s' h. (same_turns h, λ n e. turned n e h);
    enters = λ k s s' i h. entered i h;
    returns = λ k l s s' s1 s1' g h j. returned h j;
    performs = λ k a vs vs' s s' h i. both_do a vs vs' s s' (all_so h) i (A.perform a vs s) refl (B.perform a vs' s') refl;
  }

  arguments_beside : (l : List (Value × Value)) → ((v v' : Value) → Among (v, v') l → V v v') → AllRelated L tt (firsts l) (seconds l)
  arguments_beside [] h = no_more
  arguments_beside (p ∷ l) h = and_one (h p.0 p.1 here) (arguments_beside l (λ v v' m. h v v' (there m)))

  pub runs_go_side_by_side : (P : Functions) (n f : ℕ) → Related L (SaidBeside A B given s0 s0') tt L.V (called A P n f (firsts given) s0) (called B P n f (seconds given) s0')
  runs_go_side_by_side P n f = calls_relate L (SaidBeside A B given s0 s0') A B side_by_side P n f tt (firsts given) (seconds given) s0 s0' (arguments_beside given (λ v v' m. argument m)) starts
