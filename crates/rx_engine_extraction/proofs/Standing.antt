-- What is alike in two cases of one text, by what stands in front of a condition in both.
use Rattle.std.proofs.Common.{◌≡◌, ℕ, ◌<◌, Bool, List, ap, subst, arith}
use Rattle.rx_core.specs.declared.types.Bound.{Bound}
use Rattle.rx_tree.specs.Lists.{nth}
use Rattle.rx_tree.specs.Plain.{ProgramTree}
use Rattle.rx_typed_runs.specs.declared.runs.RunPos.{RunPos}
use Rattle.rx_typeck_typed.specs.declared.typed.Typed.{Typed}
use Rattle.rx_typeck_typed.specs.declared.typed.TypedFn.{TypedFn}
use Rattle.rx_exits.specs.Refusing.{same_name as same_name_in}
use Rattle.rx_exits_plan.specs.Asked.{Asked}
use Rattle.rx_exits_plan.specs.MixedInit.{MixedInit}
use Rattle.rx_exits_plan.specs.Plan.{Plan, IsPlan, variables_of}
use Rattle.rx_exits_plan.specs.PartlyMoved.{PartlyMoved}
use Rattle.rx_exits_plan.specs.Shadowed.{Shadowed}
use Rattle.rx_modes_uses.specs.Aliased.{Aliased}
use Rattle.rx_modes_uses.specs.First.{First}
use Rattle.rx_modes_uses.specs.NotMut.{NotMut}
use Rattle.rx_hoist_extraction.specs.Limits.{first_past, count_parameters, count_lifetimes, made_parts}
use Rattle.rx_hoist_extraction.specs.Plan as names
use Rattle.rx_engine_extraction.specs.Source.{Text, Wish}
use Rattle.rx_engine_extraction.specs.Case.{Case, asked}
use Rattle.rx_engine_extraction.specs.Made.{run_of, named, hoisted, named_bounds, extracted}
use Rattle.rx_engine_extraction.specs.Conditions.{Condition, selects, reached, whole, unmoved, few_positions, readable}
use Rattle.rx_engine_extraction.specs.Confirmed.{Confirmed}
use Rattle.rx_engine_extraction.specs.Meeting.{most_parts, parts_in, parts_of, same_name, Fits, IsAnswer, Holds}
use Rattle.rx_engine_extraction.specs.Levels.{HasManyLevels}
use Rattle.rx_engine_extraction.specs.Failing.{FirstOf}
use Rattle.rx_engine_extraction.specs.Hoisting.{IsBare}
use Rattle.rx_engine_extraction.specs.Promise.{Stands}
use Rattle.rx_engine_extraction.proofs.Agreeing.{retyped, Twice, Seats, Passed, as_seated, asked_alike, names_of_both, as_planned, as_passed, named_alike, hoisted_alike, as_bounded, extracted_alike, texts_alike, texts_back, confirmed_same}
use Rattle.rx_engine_extraction.proofs.Orders.{number, earlier}
use Rattle.rx_engine_extraction.proofs.Rendered.{one_rendering}

module _ (T : Text) (u : Typed) (z : Twice T u) (w : Wish) (d e : Case) where
  abbrev U : Text
  U = retyped T u

  pub held_first : (c k : Condition) → number c < number k → Stands T w d k → Holds T w d c
  held_first c k l s = (earlier (Holds T w d) c k l s).it

  pub held_second : (c k : Condition) → number c < number k → Stands U w e k → Holds U w e c
  held_second c k l s = (earlier (Holds U w e) c k l s).it

  pub seats : (k : Condition) → 3 < number k → Stands T w d k → Stands U w e k → Seats d e
  seats k l s t =
      as_seated T u z w d e (held_first selects k (omega (arith, l)) s) (held_second selects k (omega (arith, l)) t)
      (held_first reached k l s).0 (held_second reached k l t).0

  pub plans : (k : Condition) → 6 < number k → Stands T w d k → Stands U w e k → d.plan ≡ e.plan
  plans k l s t = as_planned T u z w d e (seats k (omega (arith, l)) s t) (held_first whole k l s).0 (held_second whole k l t).0

  pub passes : (k : Condition) → 9 < number k → Stands T w d k → Stands U w e k → Passed d e
  passes k l s t =
      as_passed T u z w d e (seats k (omega (arith, l)) s t) (plans k (omega (arith, l)) s t) (held_first unmoved k l s).1 (held_second unmoved k l t).1

  -- by the bounds that a function needs, which are one list
  module _ (one : (p : ProgramTree) (n : ℕ) → IsBare p n → (t u : Typed) (g h : TypedFn) (bs cs : List Bound) → Fits p n t g bs → Fits p n u h cs → bs ≡ cs) where
    pub bounds : (k : Condition) → 17 < number k → Stands T w d k → Stands U w e k → d.bounds ≡ e.bounds
    bounds k l s t =
        as_bounded T u z w d e (passes k (omega (arith, l)) s t) one (held_second selects k (omega (arith, l)) t) (held_first few_positions k l s) (held_second few_positions k l t)

    pub programs : (k : Condition) → 17 < number k → Stands T w d k → Stands U w e k → extracted T w d ≡ extracted U w e
    programs k l s t = extracted_alike T u z w d e (passes k (omega (arith, l)) s t) (bounds k l s t)

    pub none_readable : (k : Condition) → 17 < number k → Stands T w d k → Stands U w e k → ((text : List ℕ) → IsAnswer T w d text → ⊥) → (text : List ℕ) → IsAnswer U w e text → ⊥
    none_readable k l s t n text h = n text (texts_back T u z w d e (passes k (omega (arith, l)) s t) (bounds k l s t) text h)

    pub one_text_of : (k : Condition) → 21 < number k → Stands T w d k → Stands U w e k → d.text ≡ e.text
    one_text_of k l s t =
        one_rendering T.bytes T.tokens T.program (run_of e.run) (named U w e) (named_bounds U w e) d.text e.text
        (texts_alike T u z w d e (passes k (omega (arith, l)) s t) (bounds k (omega (arith, l)) s t) d.text (held_first readable k l s)) (held_second readable k l t)

    pub confirmed_back : (k : Condition) → 21 < number k → Stands T w d k → Stands U w e k → Confirmed U w e → Confirmed T w d
    confirmed_back k l s t x =
        confirmed_same T u z w d e (passes k (omega (arith, l)) s t) (one_text_of k l s t) x

  -- ---- of which variables something holds

  module _ (s : Seats d e) where
    abbrev A : asked T d ≡ asked U e
    A = asked_alike T u z w d e s

    pub mixed_alike : (x : ℕ) → FirstOf T d (MixedInit (asked T d)) x → FirstOf U e (MixedInit (asked U e)) x
    mixed_alike x m = subst (λ (B : Asked). First (MixedInit B) (variables_of B) x) A m

    pub plan_of_both : (k : Plan) → IsPlan (asked T d) k → IsPlan (asked U e) k
    plan_of_both k is = subst (λ (B : Asked). IsPlan B k) A is

    pub partly_alike : (k m : Plan) → k ≡ m → (x : ℕ) → FirstOf T d (PartlyMoved (asked T d) k) x → FirstOf U e (PartlyMoved (asked U e) m) x
    partly_alike k m same x h =
        subst (λ (q : Plan). First (PartlyMoved (asked U e) q) (variables_of (asked U e)) x) same (subst (λ (B : Asked). First (PartlyMoved B k) (variables_of B) x) A h)

    module _ (k : d.plan ≡ e.plan) where
      pub shadowed_alike : (x : ℕ) → FirstOf T d (Shadowed (asked T d) d.plan (same_name T w d)) x → FirstOf U e (Shadowed (asked U e) e.plan (same_name U w e)) x
      shadowed_alike x m =
          subst (λ (ns : List (List ℕ)). First (Shadowed (asked U e) e.plan (same_name_in ns)) (variables_of (asked U e)) x) (names_of_both T u z w d e s)
          (subst (λ (q : Plan). First (Shadowed (asked U e) q (same_name T w d)) (variables_of (asked U e)) x) k
          (subst (λ (B : Asked). First (Shadowed B d.plan (same_name T w d)) (variables_of B) x) A m))

      pub not_mut_alike : (x : ℕ) → NotMut (asked T d) d.function.mutable d.plan x → NotMut (asked U e) e.function.mutable e.plan x
      not_mut_alike x m =
          subst (λ (q : Plan). NotMut (asked U e) e.function.mutable q x) k
          (subst (λ (ms : List Bool). NotMut (asked U e) ms d.plan x) s.function.same.mutable
          (subst (λ (B : Asked). NotMut B d.function.mutable d.plan x) A m))

      pub aliased_alike : (x : ℕ) → Aliased (asked T d) d.function.mutable d.plan x → Aliased (asked U e) e.function.mutable e.plan x
      aliased_alike x m =
          subst (λ (q : Plan). Aliased (asked U e) e.function.mutable q x) k
          (subst (λ (ms : List Bool). Aliased (asked U e) ms d.plan x) s.function.same.mutable
          (subst (λ (B : Asked). Aliased B d.function.mutable d.plan x) A m))

  -- ---- what is counted

  module _ (p : Passed d e) where
    pub parameters : count_parameters (named T w d) ≡ count_parameters (named U w e)
    parameters = ap (λ (q : names.Plan). count_parameters q) (named_alike T u z w d e p)

    pub lifetimes : count_lifetimes T.program (named T w d) (parts_of T w d) ≡ count_lifetimes T.program (named U w e) (parts_of U w e)
    lifetimes = let q = named_alike T u z w d e p in
        λ i. count_lifetimes T.program (q i) (parts_in T.program (q i) (run_of (p.seats.run i)) (nth T.program (p.seats.run i).function))

    pub many_alike : (n : ℕ) → HasManyLevels T.bytes T.tokens T.program (run_of d.run) (named T w d) n → HasManyLevels T.bytes T.tokens T.program (run_of e.run) (named U w e) n
    many_alike n h =
        subst (λ (q : names.Plan). HasManyLevels T.bytes T.tokens T.program (run_of e.run) q n) (named_alike T u z w d e p)
        (subst (λ (r : RunPos). HasManyLevels T.bytes T.tokens T.program (run_of r) (named T w d) n) p.seats.run h)

    pub parts : first_past most_parts (made_parts T.sizes (named T w d)) ≡ first_past most_parts (made_parts T.sizes (named U w e))
    parts = ap (λ (q : names.Plan). first_past most_parts (made_parts T.sizes q)) (named_alike T u z w d e p)

    pub hoisted_both : hoisted T w d ≡ hoisted U w e
    hoisted_both = hoisted_alike T u z w d e p
