-- Of one text what two refusals tell of a condition is one.
use Rattle.std.proofs.Common.{◌≡◌, ◌≢◌, ℕ, List, length, Option, Some, refl, sym, ap, subst, ◌∙◌, arith}
use Rattle.rx_core.specs.declared.types.Bound.{Bound}
use Rattle.rx_core.specs.declared.types.Which.TheVariants as which
use Rattle.rx_tree.specs.Plain.{ProgramTree}
use Rattle.rx_typeck_typed.specs.declared.typed.Typed.{Typed}
use Rattle.rx_typeck_typed.specs.declared.typed.TypedFn.{TypedFn}
use Rattle.rx_facts.specs.Functions.{span_of}
use Rattle.rx_exits_plan.specs.Plan.{variables_of}
use Rattle.rx_modes_uses.proofs.One.{one_first}
use Rattle.rx_hoist_made.specs.Counts.{capped}
use Rattle.rx_print_spelling.specs.Items.{print_program}
use Rattle.rx_check.specs.declared.fault.CheckFault.{CheckFault}
use Rattle.rx_check.specs.declared.fault.CheckFault.TheVariants as check_fault
use Rattle.rx_check.specs.Causes as passes_of
use Rattle.rx_check.specs.Causes.{Causes, PassCauses}
use Rattle.rx_lower_lifetimes.specs.declared.whole.LowerFault.{LowerFault}
use Rattle.rx_lower_lifetimes.specs.declared.whole.LowerFault.TheVariants as lower_fault
use Rattle.rx_engine_extraction.specs.declared.refusal.Refusal.{Refusal}
use Rattle.rx_engine_extraction.specs.declared.refusal.Refusal.TheVariants as refusal
use Rattle.rx_engine_extraction.specs.Source.{Text, Wish}
use Rattle.rx_engine_extraction.specs.Case.{Case, asked}
use Rattle.rx_engine_extraction.specs.Made.{hoisted, extracted}
use Rattle.rx_engine_extraction.specs.Alike.{AreOne}
use Rattle.rx_engine_extraction.specs.Conditions.{Condition, selects, word, unused, reached, left, settled, whole, visible, passable, unmoved, few_parameters, few_lifetimes, few_levels, few_parts, few_numbers, fits, few_sites, few_positions, fits_bounded, known, legal, readable, few_bytes, confirmed}
use Rattle.rx_engine_extraction.specs.Meeting.{IsUnfit, Fits}
use Rattle.rx_engine_extraction.specs.Failing.{named_at, place_of, Fails}
use Rattle.rx_engine_extraction.specs.Hoisting.{IsBare}
use Rattle.rx_engine_extraction.specs.Promise.{Stands}
use Rattle.rx_engine_extraction.proofs.Ends.{pass_cause}
use Rattle.rx_engine_extraction.proofs.AgreeingPlans.{one_plan}
use Rattle.rx_engine_extraction.proofs.Agreeing.{retyped, Twice, Seats}
use Rattle.rx_engine_extraction.proofs.Depths.{one_number}
use Rattle.rx_engine_extraction.proofs.Standing.{seats, plans, passes, programs, one_text_of, mixed_alike, plan_of_both, partly_alike, shadowed_alike, not_mut_alike, aliased_alike, parameters, lifetimes, many_alike, parts, hoisted_both}

told_as : (r q a b : Refusal) → r ≡ a → q ≡ b → AreOne a b → AreOne r q
told_as r q a b x y h = subst (λ (k : Refusal). AreOne r k) (sym y) (subst (λ (k : Refusal). AreOne k b) (sym x) h)

one_count : (o p : Option ℕ) (n m : ℕ) → o ≡ p → o ≡ Some n → p ≡ Some m → n ≡ m
one_count o p n m e a b = same (sym a ∙ (e ∙ b))
  where
    same : ◌≡◌ {A = Option ℕ} (Some n) (Some m) → n ≡ m
    same h = cc

unfit_told : (e : CheckFault) → IsUnfit e → e ≢ check_fault.OutOfMemory
unfit_told e h is = subst (λ (x : CheckFault). IsUnfit x) is h

large_told : (f : LowerFault) → check_fault.Lower f ≢ check_fault.OutOfMemory
large_told f e = cc

region_told : (i l k : ℕ) → check_fault.Region i l k ≢ check_fault.OutOfMemory
region_told i l k e = cc

abbrev sites_in : LowerFault → ℕ
sites_in (lower_fault.TooLarge f s l) = s
sites_in lower_fault.OutOfMemory = 0

abbrev positions_in : LowerFault → ℕ
positions_in (lower_fault.TooLarge f s l) = l
positions_in lower_fault.OutOfMemory = 0

-- by what faults of a program are one, and the bounds that a function needs, which are one list
module _ (one_pass : (p : ProgramTree) (e f : CheckFault) → e ≢ check_fault.OutOfMemory → f ≢ check_fault.OutOfMemory → Causes e p → Causes f p → passes_of.AreOne e f)
    (one : (p : ProgramTree) (n : ℕ) → IsBare p n → (t u : Typed) (g h : TypedFn) (bs cs : List Bound) → Fits p n t g bs → Fits p n u h cs → bs ≡ cs) where
  one_fault : (p q : ProgramTree) → p ≡ q → (e f : CheckFault) → e ≢ check_fault.OutOfMemory → f ≢ check_fault.OutOfMemory → Causes e p → Causes f q → passes_of.AreOne e f
  one_fault p q h e f a b x y = one_pass q e f a b (subst (λ (k : ProgramTree). Causes e k) h x) y

  module _ (T : Text) (u : Typed) (z : Twice T u) (w : Wish) (d e : Case) where
    abbrev U : Text
    U = retyped T u

    -- a variable is named in one place
    one_name : Seats d e → (x y : ℕ) → x ≡ y → named_at d x ≡ named_at e y
    one_name s x y h = λ i. span_of (s.function.same.names i) (h i)

    large_one : hoisted T w d ≡ hoisted U w e → (f s l g t m : ℕ) → PassCauses (check_fault.Lower (lower_fault.TooLarge f s l)) (hoisted T w d)
        → PassCauses (check_fault.Lower (lower_fault.TooLarge g t m)) (hoisted U w e) → lower_fault.TooLarge f s l ≡ lower_fault.TooLarge g t m
    large_one h f s l g t m a b =
        one_fault (hoisted T w d) (hoisted U w e) h (check_fault.Lower (lower_fault.TooLarge f s l)) (check_fault.Lower (lower_fault.TooLarge g t m))
        (large_told (lower_fault.TooLarge f s l)) (large_told (lower_fault.TooLarge g t m)) a b

    pub told_alike : (c : Condition) (r q : Refusal) → Stands T w d c → Fails T w d c r → Stands U w e c → Fails U w e c q → AreOne r q
    told_alike selects r q s f t g = told_as r q refusal.NotARun refusal.NotARun f.0 g.0 refl
    told_alike word r q s f t g = told_as r q refusal.BadName refusal.BadName f.0 g.0 refl
    told_alike unused r q s f t g = told_as r q refusal.NameTaken refusal.NameTaken f.0 g.0 refl
    told_alike reached r q s f t g = told_as r q (refusal.Unreachable (place_of T d f.1)) (refusal.Unreachable (place_of U e g.1)) f.2 g.2 tt
    told_alike left r q s f t g = told_as r q refusal.Endless refusal.Endless f.0 g.0 refl
    told_alike settled r q s f t g =
        let v = seats T u z w d e settled (omega arith) s t in
        let x = one_first (variables_of (asked U e)) f.0 g.0 (mixed_alike T u z w d e v f.0 f.2) g.2 in
        told_as r q (refusal.MixedInit (named_at d f.0)) (refusal.MixedInit (named_at e g.0)) f.1 g.1 (ap refusal.MixedInit (one_name v f.0 g.0 x))
    told_alike whole r q s f t g =
        let v = seats T u z w d e whole (omega arith) s t in
        let k = one_plan (asked U e) f.2.0 g.2.0 (plan_of_both T u z w d e v f.2.0 f.2.1) g.2.1 in
        let x = one_first (variables_of (asked U e)) f.0 g.0 (partly_alike T u z w d e v f.2.0 g.2.0 k f.0 f.2.2) g.2.2 in
        told_as r q (refusal.PartlyMoved (named_at d f.0)) (refusal.PartlyMoved (named_at e g.0)) f.1 g.1 (ap refusal.PartlyMoved (one_name v f.0 g.0 x))
    told_alike visible r q s f t g =
        let v = seats T u z w d e visible (omega arith) s t in let k = plans T u z w d e visible (omega arith) s t in
        let x = one_first (variables_of (asked U e)) f.0 g.0 (shadowed_alike T u z w d e v k f.0 f.2) g.2 in
        told_as r q (refusal.Shadowed (named_at d f.0)) (refusal.Shadowed (named_at e g.0)) f.1 g.1 (ap refusal.Shadowed (one_name v f.0 g.0 x))
    told_alike passable r q s f t g =
        let v = seats T u z w d e passable (omega arith) s t in let k = plans T u z w d e passable (omega arith) s t in
        let x = one_first e.plan.params f.0 g.0 (not_mut_alike T u z w d e v k f.0 f.2) g.2 in
        told_as r q (refusal.NotMut (named_at d f.0)) (refusal.NotMut (named_at e g.0)) f.1 g.1 (ap refusal.NotMut (one_name v f.0 g.0 x))
    told_alike unmoved r q s f t g =
        let v = seats T u z w d e unmoved (omega arith) s t in let k = plans T u z w d e unmoved (omega arith) s t in
        let x = one_first (variables_of (asked U e)) f.0 g.0 (aliased_alike T u z w d e v k f.0 f.2) g.2 in
        told_as r q (refusal.Aliased (named_at d f.0)) (refusal.Aliased (named_at e g.0)) f.1 g.1 (ap refusal.Aliased (one_name v f.0 g.0 x))
    told_alike few_parameters r q s f t g =
        let n = parameters T u z w d e (passes T u z w d e few_parameters (omega arith) s t) in
        told_as r q (refusal.Limit which.Parameters _) (refusal.Limit which.Parameters _) f.0 g.0 (λ i. refusal.Limit which.Parameters (capped (n i)))
    told_alike few_lifetimes r q s f t g =
        let n = lifetimes T u z w d e (passes T u z w d e few_lifetimes (omega arith) s t) in
        told_as r q (refusal.Limit which.Lifetimes _) (refusal.Limit which.Lifetimes _) f.0 g.0 (λ i. refusal.Limit which.Lifetimes (capped (n i)))
    told_alike few_levels r q s f t g =
        let n = one_number T.bytes T.tokens T.program _ _ f.0 g.0 (many_alike T u z w d e (passes T u z w d e few_levels (omega arith) s t) f.0 f.2) g.2 in
        told_as r q (refusal.Limit which.Levels (capped f.0)) (refusal.Limit which.Levels (capped g.0)) f.1 g.1 (λ i. refusal.Limit which.Levels (capped (n i)))
    told_alike few_parts r q s f t g =
        let n = one_count _ _ f.0 g.0 (parts T u z w d e (passes T u z w d e few_parts (omega arith) s t)) f.2 g.2 in
        told_as r q (refusal.Limit which.Parts (capped f.0)) (refusal.Limit which.Parts (capped g.0)) f.1 g.1 (λ i. refusal.Limit which.Parts (capped (n i)))
    told_alike few_numbers r q s f t g =
        let p = hoisted_both T u z w d e (passes T u z w d e few_numbers (omega arith) s t) in
        told_as r q (refusal.Limit which.Bytes _) (refusal.Limit which.Bytes _) f.0 g.0 (λ i. refusal.Limit which.Bytes (length (print_program (p i))))
    told_alike fits r q s f t g =
        let p = hoisted_both T u z w d e (passes T u z w d e fits (omega arith) s t) in
        told_as r q (refusal.Unfit f.0) (refusal.Unfit g.0) f.1 g.1 (one_fault (hoisted T w d) (hoisted U w e) p f.0 g.0 (unfit_told f.0 f.2) (unfit_told g.0 g.2)
        (pass_cause f.0 (hoisted T w d) f.3) (pass_cause g.0 (hoisted U w e) g.3))
    told_alike few_sites r q s f t g =
        let n = large_one (hoisted_both T u z w d e (passes T u z w d e few_sites (omega arith) s t)) f.4.0 f.0 f.1 g.4.0 g.0 g.1 f.4.1 g.4.1 in
        told_as r q (refusal.Limit which.Sites f.0) (refusal.Limit which.Sites g.0) f.2 g.2 (λ i. refusal.Limit which.Sites (sites_in (n i)))
    told_alike few_positions r q s f t g =
        let n = large_one (hoisted_both T u z w d e (passes T u z w d e few_positions (omega arith) s t)) f.4.0 f.0 f.1 g.4.0 g.0 g.1 f.4.1 g.4.1 in
        told_as r q (refusal.Limit which.Positions f.1) (refusal.Limit which.Positions g.1) f.2 g.2 (λ i. refusal.Limit which.Positions (positions_in (n i)))
    told_alike fits_bounded r q s f t g =
        told_as r q (refusal.Unfit f.0) (refusal.Unfit g.0) f.1 g.1 (one_fault (extracted T w d) (extracted U w e) (programs T u z w d e one fits_bounded (omega arith) s t)
        f.0 g.0 f.2 g.2 (pass_cause f.0 (extracted T w d) f.3) (pass_cause g.0 (extracted U w e) g.3))
    told_alike known r q s f t g =
        let o = one_fault (extracted T w d) (extracted U w e) (programs T u z w d e one known (omega arith) s t) (check_fault.Region f.0 f.1 f.2) (check_fault.Region g.0 g.1 g.2)
        (region_told f.0 f.1 f.2) (region_told g.0 g.1 g.2) f.4 g.4 in
        told_as r q (refusal.Region f.0 f.1 f.2) (refusal.Region g.0 g.1 g.2) f.3 g.3 (λ i. refusal.Region (o.0 i) (o.1 i) (o.2 i))
    told_alike legal r q s f t g = told_as r q (refusal.Loan f.0 f.1) (refusal.Loan g.0 g.1) f.2 g.2 tt
    told_alike readable r q s f t g = told_as r q refusal.Unconfirmed refusal.Unconfirmed f.0 g.0 refl
    told_alike few_bytes r q s f t g =
        let p = one_text_of T u z w d e one few_bytes (omega arith) s t in
        told_as r q (refusal.Limit which.Bytes (length d.text)) (refusal.Limit which.Bytes (length e.text)) f.0 g.0 (λ i. refusal.Limit which.Bytes (length (p i)))
    told_alike confirmed r q s f t g = told_as r q refusal.Unconfirmed refusal.Unconfirmed f.0 g.0 refl
