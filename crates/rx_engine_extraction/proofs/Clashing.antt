-- Of one text a condition that fails in one case holds in no other in which the same stands in front of it: so two refusals tell one
-- condition, and what is refused has no extraction.
use Rattle.std.proofs.Common.{◌≡◌, ◌≢◌, ◌⊎◌, inl, inr, ℕ, ◌<◌, List, length, Option, Some, None, sym, ap, subst, ◌∙◌, true≢false, arith}
use Rattle.rx_core.specs.declared.types.Bound.{Bound}
use Rattle.rx_tree.specs.Plain.{ProgramTree}
use Rattle.rx_typeck_typed.specs.declared.typed.Typed.{Typed}
use Rattle.rx_typeck_typed.specs.declared.typed.TypedFn.{TypedFn}
use Rattle.rx_exits_plan.specs.Asked.{Asked}
use Rattle.rx_exits_plan.specs.Unreachable.{Unreachable, Endless}
use Rattle.rx_modes_uses.proofs.One.{first_is_among}
use Rattle.rx_print_spelling.specs.Items.{print_program}
use Rattle.rx_check.specs.declared.fault.CheckFault.{CheckFault}
use Rattle.rx_check.specs.declared.fault.CheckFault.TheVariants as check_fault
use Rattle.rx_check.specs.Causes.{Causes, PassCauses}
use Rattle.rx_check.specs.Passes.{Fronted, Accepted}
use Rattle.rx_check.specs.declared.loans.LoanFault.TheVariants as loan_fault
use Rattle.rx_lower_lifetimes.specs.declared.whole.LowerFault.TheVariants as lower_fault
use Rattle.rx_engine_extraction.specs.declared.refusal.Refusal.{Refusal}
use Rattle.rx_engine_extraction.specs.Source.{Text, Wish}
use Rattle.rx_engine_extraction.specs.Case.{Case, asked}
use Rattle.rx_engine_extraction.specs.Made.{hoisted, extracted}
use Rattle.rx_engine_extraction.specs.Conditions.{Condition, selects, word, unused, reached, left, settled, whole, visible, passable, unmoved, few_parameters, few_lifetimes, few_levels, few_parts, few_numbers, fits, few_sites, few_positions, fits_bounded, known, legal, readable, few_bytes, confirmed}
use Rattle.rx_engine_extraction.specs.Meeting.{Fits, Holds}
use Rattle.rx_engine_extraction.specs.Failing.{Fails}
use Rattle.rx_engine_extraction.specs.Hoisting.{IsBare}
use Rattle.rx_engine_extraction.specs.Promise.{Stands}
use Rattle.rx_engine_extraction.specs.Verdict.{RefusedBy}
use Rattle.rx_engine_extraction.proofs.AgreeingPlans.{one_plan}
use Rattle.rx_engine_extraction.proofs.Agreeing.{retyped, Twice, as_seated, asked_alike}
use Rattle.rx_engine_extraction.proofs.Standing.{held_first, held_second, seats, plans, passes, programs, none_readable, one_text_of, mixed_alike, plan_of_both, partly_alike, shadowed_alike, not_mut_alike, aliased_alike, parameters, lifetimes, many_alike, parts, hoisted_both, confirmed_back}
use Rattle.rx_engine_extraction.proofs.Depths.{many_or_few}
use Rattle.rx_engine_extraction.proofs.Orders.{number, earlier, in_order}

none_and_some : (o q : Option ℕ) (n : ℕ) → o ≡ q → o ≡ Some n → q ≡ None → ⊥
none_and_some o q n e a b = clash (sym a ∙ (e ∙ b))
  where
    clash : ◌≡◌ {A = Option ℕ} (Some n) None → ⊥
    clash e = cc

-- by what the passes say of a program that they accept, and the bounds that a function needs, which are one list
module _ (passed : (p : ProgramTree) (e : CheckFault) → Fronted p → PassCauses e p → e ≡ check_fault.OutOfMemory)
    (accepted : (p : ProgramTree) (e : CheckFault) → Accepted p → Causes e p → e ≡ check_fault.OutOfMemory)
    (one : (p : ProgramTree) (n : ℕ) → IsBare p n → (t u : Typed) (g h : TypedFn) (bs cs : List Bound) → Fits p n t g bs → Fits p n u h cs → bs ≡ cs) where
  large_or_fronted : (p : ProgramTree) (f s l : ℕ) → Fronted p → PassCauses (check_fault.Lower (lower_fault.TooLarge f s l)) p → ⊥
  large_or_fronted p f s l a c = told_so (passed p (check_fault.Lower (lower_fault.TooLarge f s l)) a c)
    where
      told_so : check_fault.Lower (lower_fault.TooLarge f s l) ≡ check_fault.OutOfMemory → ⊥
      told_so e = cc

  meets_or_accepted : (p : ProgramTree) (e : CheckFault) → e ≢ check_fault.OutOfMemory → Accepted p → Causes e p → ⊥
  meets_or_accepted p e n a c = n (accepted p e a c)

  module _ (T : Text) (u : Typed) (z : Twice T u) (w : Wish) (d e : Case) where
    abbrev U : Text
    U = retyped T u

    bytes_of : (p q : ProgramTree) → p ≡ q → length (print_program p) ≡ length (print_program q)
    bytes_of p q h = ap (λ (x : ProgramTree). length (print_program x)) h

    passed_on : (x : CheckFault) (p q : ProgramTree) → p ≡ q → PassCauses x p → PassCauses x q
    passed_on x p q h c = subst (λ (y : ProgramTree). PassCauses x y) h c

    handed_on : (x : CheckFault) (p q : ProgramTree) → p ≡ q → Causes x p → Causes x q
    handed_on x p q h c = subst (λ (y : ProgramTree). Causes x y) h c

    -- ---- so none fails there

    clash : (c : Condition) (r : Refusal) → Stands T w d c → Fails T w d c r → Stands U w e c → Holds U w e c → ⊥
    clash selects r s f t h = f.1 e.run h
    clash word r s f t h = true≢false (sym h ∙ f.1)
    clash unused r s f t h = true≢false (sym f.1 ∙ h)
    clash reached r s f t h =
        let q = as_seated T u z w d e (held_first T u z w d e selects reached (omega arith) s) (held_second T u z w d e selects reached (omega arith) t) f.0 h.0 in
        h.1 f.1 (subst (λ (A : Asked). Unreachable A f.1) (asked_alike T u z w d e q) f.3)
    clash left r s f t h = h (subst (λ (A : Asked). Endless A) (asked_alike T u z w d e (seats T u z w d e left (omega arith) s t)) f.1)
    clash settled r s f t h = h f.0 (first_is_among (mixed_alike T u z w d e (seats T u z w d e settled (omega arith) s t) f.0 f.2)).1
    clash whole r s f t h =
        let q = seats T u z w d e whole (omega arith) s t in
        let same = one_plan (asked U e) f.2.0 e.plan (plan_of_both T u z w d e q f.2.0 f.2.1) h.0 in
        h.1 f.0 (first_is_among (partly_alike T u z w d e q f.2.0 e.plan same f.0 f.2.2)).1
    clash visible r s f t h =
        h f.0 (first_is_among (shadowed_alike T u z w d e (seats T u z w d e visible (omega arith) s t) (plans T u z w d e visible (omega arith) s t) f.0 f.2)).1
    clash passable r s f t h = h f.0 (not_mut_alike T u z w d e (seats T u z w d e passable (omega arith) s t) (plans T u z w d e passable (omega arith) s t) f.0 f.2)
    clash unmoved r s f t h = h.0 f.0 (aliased_alike T u z w d e (seats T u z w d e unmoved (omega arith) s t) (plans T u z w d e unmoved (omega arith) s t) f.0 f.2)
    clash few_parameters r s f t h = let n = parameters T u z w d e (passes T u z w d e few_parameters (omega arith) s t) in omega (arith, f.1, h, n)
    clash few_lifetimes r s f t h = let n = lifetimes T u z w d e (passes T u z w d e few_lifetimes (omega arith) s t) in omega (arith, f.1, h, n)
    clash few_levels r s f t h = many_or_few T.bytes T.tokens T.program _ _ f.0 (many_alike T u z w d e (passes T u z w d e few_levels (omega arith) s t) f.0 f.2) h
    clash few_parts r s f t h = none_and_some _ _ f.0 (parts T u z w d e (passes T u z w d e few_parts (omega arith) s t)) f.2 h
    clash few_numbers r s f t h =
        let n = bytes_of (hoisted T w d) (hoisted U w e) (hoisted_both T u z w d e (passes T u z w d e few_numbers (omega arith) s t)) in omega (arith, f.1, h, n)
    clash fits r s f t h =
        h f.0 f.2 (passed_on f.0 (hoisted T w d) (hoisted U w e) (hoisted_both T u z w d e (passes T u z w d e fits (omega arith) s t)) f.3)
    clash few_sites r s f t h =
        let few = h f.4.0 f.0 f.1 (passed_on (check_fault.Lower (lower_fault.TooLarge f.4.0 f.0 f.1)) (hoisted T w d) (hoisted U w e)
        (hoisted_both T u z w d e (passes T u z w d e few_sites (omega arith) s t)) f.4.1) in omega (arith, f.3, few)
    clash few_positions r s f t h =
        large_or_fronted (hoisted U w e) f.4.0 f.0 f.1 (e.types, h.front) (passed_on (check_fault.Lower (lower_fault.TooLarge f.4.0 f.0 f.1)) (hoisted T w d) (hoisted U w e)
        (hoisted_both T u z w d e (passes T u z w d e few_positions (omega arith) s t)) f.4.1)
    clash fits_bounded r s f t h = h f.0 f.2 (passed_on f.0 (extracted T w d) (extracted U w e) (programs T u z w d e one fits_bounded (omega arith) s t) f.3)
    clash known r s f t h =
        h f.0 f.1 f.2 (handed_on (check_fault.Region f.0 f.1 f.2) (extracted T w d) (extracted U w e) (programs T u z w d e one known (omega arith) s t) f.4)
    clash legal r s f t h =
        meets_or_accepted (extracted U w e) (check_fault.Loan (loan_fault.Loan f.0 f.1)) (λ q. absurd (cc)) h
        (handed_on (check_fault.Loan (loan_fault.Loan f.0 f.1)) (extracted T w d) (extracted U w e) (programs T u z w d e one legal (omega arith) s t) f.3)
    clash readable r s f t h = none_readable T u z w d e one readable (omega arith) s t f.1 e.text h
    clash few_bytes r s f t h = let n = ap (λ (x : List ℕ). length x) (one_text_of T u z w d e one few_bytes (omega arith) s t) in omega (arith, f.1, h, n)
    clash confirmed r s f t h = f.1 (confirmed_back T u z w d e one confirmed (omega arith) s t h)

    -- one that fails stands not in front of one that the other comes to
    none_further : (c k : Condition) (r : Refusal) → number c < number k → Stands T w d c → Fails T w d c r → Stands U w e k → ⊥
    none_further c k r l s f t = let b = earlier (Holds U w e) c k l t in clash c r s f b.front b.it

  none_behind : (c : Condition) → 23 < number c → ⊥
  none_behind selects l = omega (arith, l)
  none_behind word l = omega (arith, l)
  none_behind unused l = omega (arith, l)
  none_behind reached l = omega (arith, l)
  none_behind left l = omega (arith, l)
  none_behind settled l = omega (arith, l)
  none_behind whole l = omega (arith, l)
  none_behind visible l = omega (arith, l)
  none_behind passable l = omega (arith, l)
  none_behind unmoved l = omega (arith, l)
  none_behind few_parameters l = omega (arith, l)
  none_behind few_lifetimes l = omega (arith, l)
  none_behind few_levels l = omega (arith, l)
  none_behind few_parts l = omega (arith, l)
  none_behind few_numbers l = omega (arith, l)
  none_behind fits l = omega (arith, l)
  none_behind few_sites l = omega (arith, l)
  none_behind few_positions l = omega (arith, l)
  none_behind fits_bounded l = omega (arith, l)
  none_behind known l = omega (arith, l)
  none_behind legal l = omega (arith, l)
  none_behind readable l = omega (arith, l)
  none_behind few_bytes l = omega (arith, l)
  none_behind confirmed l = omega (arith, l)

  -- ---- of a text that is typed twice

  module _ (T : Text) (u : Typed) (z : Twice T u) (back : Twice (retyped T u) T.types) (w : Wish) where
    pub one_condition : (r q : Refusal) (x : RefusedBy T w r) (y : RefusedBy (retyped T u) w q) → x.condition ≡ y.condition
    one_condition r q x y = by (in_order x.condition y.condition)
      where
        by : (x.condition ≡ y.condition) ⊎ ((number x.condition < number y.condition) ⊎ (number y.condition < number x.condition)) → x.condition ≡ y.condition
        by (inl h) = h
        by (inr (inl l)) = absurd (none_further T u z w x.case y.case x.condition y.condition r l x.stands x.fails y.stands)
        by (inr (inr l)) = absurd (none_further (retyped T u) T.types back w y.case x.case y.condition x.condition q l y.stands y.fails x.stands)

    pub none_extracted : (r : Refusal) → RefusedBy T w r → (e : Case) → Stands (retyped T u) w e confirmed → Holds (retyped T u) w e confirmed → ⊥
    none_extracted r x e s h = by (in_order x.condition confirmed)
      where
        at_last : (c : Condition) → c ≡ confirmed → Stands T w x.case c → Fails T w x.case c r → ⊥
        at_last c q a f =
            clash T u z w x.case e confirmed r (subst (λ (k : Condition). Stands T w x.case k) q a) (subst (λ (k : Condition). Fails T w x.case k r) q f) s h

        by : (x.condition ≡ confirmed) ⊎ ((number x.condition < number confirmed) ⊎ (number confirmed < number x.condition)) → ⊥
        by (inl q) = at_last x.condition q x.stands x.fails
        by (inr (inl l)) = none_further T u z w x.case e x.condition confirmed r l x.stands x.fails s
        by (inr (inr l)) = none_behind x.condition l
