-- A run has one plan, by functions and as lists: exits are told apart, what is no exit of it hands out nothing, and an exit that is listed
-- again hands out the same.
use Rattle.std.proofs.Common.{◌≡◌, ◌⊎◌, inl, inr, ℕ, Bool, true, false, ◌==◌, List, [], ◌∷◌, map, refl, sym, ap, subst, ◌∙◌}
use Rattle.std.proofs.lemmas.Bool.{eqb-true, eq-eqb, true≢false}
use Rattle.rx_lower_walks.specs.Walks.{Among, here, there}
use Rattle.rx_exits_plan.specs.Points.{Exit, next, breaks, continues, returns}
use Rattle.rx_exits_plan.specs.declared.plan.Exit.{Exit as CodeExit}
use Rattle.rx_exits_plan.specs.declared.plan.Exit.TheVariants as exit
use Rattle.rx_exits_plan.specs.declared.plan.ExitOuts.{ExitOuts}
use Rattle.rx_exits_plan.specs.declared.plan.ExitPlan.{ExitPlan}
use Rattle.rx_exits_plan.specs.Asked.{Asked}
use Rattle.rx_exits_plan.specs.Plan.{Plan, IsPlan}
use Rattle.rx_exits_plan.specs.PlainPlan.{plain-Exit, outs_in, plan_of, IsExitPlan}
use Rattle.rx_exits_plan.proofs.One.{same_exits, same_params, same_locals, same_value, same_outs, same_loose, same_redeclared}
use Rattle.rx_hoist_naming.specs.Words.{OutsAgree}

-- ---- exits

by_number : (f : ℕ → Exit) (g : Exit → ℕ) → ((n : ℕ) → g (f n) ≡ n) → (l k : ℕ) (b : Bool) → (l == k) ≡ b → (f l ≡ f k) ⊎ ¬ (f l ≡ f k)
by_number f g back l k true e = inl (ap f (eqb-true l k e))
by_number f g back l k false e = inr (λ h. true≢false (sym (eq-eqb l k (sym (back l) ∙ (ap g h ∙ back k))) ∙ e))

abbrev loop_of : Exit → ℕ
loop_of next = 0
loop_of (breaks l) = l
loop_of (continues l) = l
loop_of returns = 0

one_exit_or_two : (x e : Exit) → (x ≡ e) ⊎ ¬ (x ≡ e)
one_exit_or_two next next = inl refl
one_exit_or_two next (breaks k) = inr (λ h. absurd (cc))
one_exit_or_two next (continues k) = inr (λ h. absurd (cc))
one_exit_or_two next returns = inr (λ h. absurd (cc))
one_exit_or_two (breaks l) next = inr (λ h. absurd (cc))
one_exit_or_two (breaks l) (breaks k) = by_number breaks loop_of (λ n. refl) l k (l == k) refl
one_exit_or_two (breaks l) (continues k) = inr (λ h. absurd (cc))
one_exit_or_two (breaks l) returns = inr (λ h. absurd (cc))
one_exit_or_two (continues l) next = inr (λ h. absurd (cc))
one_exit_or_two (continues l) (breaks k) = inr (λ h. absurd (cc))
one_exit_or_two (continues l) (continues k) = by_number continues loop_of (λ n. refl) l k (l == k) refl
one_exit_or_two (continues l) returns = inr (λ h. absurd (cc))
one_exit_or_two returns next = inr (λ h. absurd (cc))
one_exit_or_two returns (breaks k) = inr (λ h. absurd (cc))
one_exit_or_two returns (continues k) = inr (λ h. absurd (cc))
one_exit_or_two returns returns = inl refl

further : (x e : Exit) (es : List Exit) → ¬ (x ≡ e) → Among x (e ∷ es) → Among x es
further x _ es n here = absurd (n refl)
further x e es n (there i) = i

among_or_not : (x : Exit) (es : List Exit) → Among x es ⊎ ¬ (Among x es)
among_or_not x [] = inr (λ h. elim h [ ])
among_or_not x (e ∷ es) = by (one_exit_or_two x e) (among_or_not x es)
  where
    by : (x ≡ e) ⊎ ¬ (x ≡ e) → Among x es ⊎ ¬ (Among x es) → Among x (e ∷ es) ⊎ ¬ (Among x (e ∷ es))
    by (inl h) r = inl (subst (λ (y : Exit). Among x (y ∷ es)) h here)
    by (inr n) (inl i) = inl (there i)
    by (inr n) (inr m) = inr (λ i. m (further x e es n i))

-- ---- plans

module _ (A : Asked) (k m : Plan) (a : IsPlan A k) (b : IsPlan A m) where
  outs_of_both : (e : Exit) → Among e k.exits ⊎ ¬ (Among e k.exits) → k.outs e ≡ m.outs e
  outs_of_both e (inl i) = same_outs A k m a b e i
  outs_of_both e (inr n) = a.none_elsewhere e n ∙ sym (b.none_elsewhere e (λ i. n (subst (λ (es : List Exit). Among e es) (sym (same_exits A k m a b)) i)))

  outs_alike : (e : Exit) → k.outs e ≡ m.outs e
  outs_alike e = outs_of_both e (among_or_not e k.exits)

  pub one_plan : k ≡ m
  one_plan = λ i. record {
    exits = same_exits A k m a b i;
    params = same_params A k m a b i;
    locals = same_locals A k m a b i;
    outs = λ e. outs_alike e i;
    value = same_value A k m a b i;
    redeclared = same_redeclared A k m a b i;
    loose = same_loose A k m a b i;
  }

-- ---- lists

abbrev exit_back : Exit → CodeExit
exit_back next = exit.Next
exit_back (breaks l) = exit.Break l
exit_back (continues l) = exit.Continue l
exit_back returns = exit.Return

back_is : (x : CodeExit) → exit_back (plain-Exit x) ≡ x
back_is exit.Next = refl
back_is (exit.Break l) = refl
back_is (exit.Continue l) = refl
back_is exit.Return = refl

one_code_exit : (x y : CodeExit) → plain-Exit x ≡ plain-Exit y → x ≡ y
one_code_exit x y e = sym (back_is x) ∙ (ap exit_back e ∙ back_is y)

abbrev exits_of : List ExitOuts → List Exit
exits_of es = map (λ (e : ExitOuts). plain-Exit e.exit) es

-- each hands out what this function says
abbrev HandOut : (Exit → List ℕ) → List ExitOuts → Type 0
HandOut F es = (e : ExitOuts) → Among e es → F (plain-Exit e.exit) ≡ e.outs

first_alike : (x y : Exit) (xs ys : List Exit) → ◌≡◌ {A = List Exit} (x ∷ xs) (y ∷ ys) → x ≡ y
first_alike x y xs ys e = cc

rest_alike : (x y : Exit) (xs ys : List Exit) → ◌≡◌ {A = List Exit} (x ∷ xs) (y ∷ ys) → xs ≡ ys
rest_alike x y xs ys e = cc

none_and_some : (x : Exit) (xs : List Exit) → ◌≡◌ {A = List Exit} [] (x ∷ xs) → ⊥
none_and_some x xs e = cc

one_entry : (F : Exit → List ℕ) (d e : ExitOuts) → plain-Exit d.exit ≡ plain-Exit e.exit → F (plain-Exit d.exit) ≡ d.outs → F (plain-Exit e.exit) ≡ e.outs → d ≡ e
one_entry F d e h a b =
    let x = one_code_exit d.exit e.exit h in let o : d.outs ≡ e.outs = sym a ∙ (ap F h ∙ b) in λ i. record { exit = x i; outs = o i }

one_list_of_entries : (F : Exit → List ℕ) (ds es : List ExitOuts) → exits_of ds ≡ exits_of es → HandOut F ds → HandOut F es → ds ≡ es
one_list_of_entries F [] [] h a b = refl
one_list_of_entries F [] (e ∷ es) h a b = absurd (none_and_some (plain-Exit e.exit) (exits_of es) h)
one_list_of_entries F (d ∷ ds) [] h a b = absurd (none_and_some (plain-Exit d.exit) (exits_of ds) (sym h))
one_list_of_entries F (d ∷ ds) (e ∷ es) h a b =
    let x = one_entry F d e (first_alike (plain-Exit d.exit) (plain-Exit e.exit) (exits_of ds) (exits_of es) h) (a d here) (b e here) in
    let r = one_list_of_entries F ds es (rest_alike (plain-Exit d.exit) (plain-Exit e.exit) (exits_of ds) (exits_of es) h) (λ z i. a z (there i)) (λ z i. b z (there i)) in
    λ i. x i ∷ r i

pub one_listed : (A : Asked) (k m : ExitPlan) → IsExitPlan A k → IsExitPlan A m → OutsAgree k.exits → OutsAgree m.exits → k ≡ m
one_listed A k m a b agree other =
    let p = one_plan A (plan_of A k) (plan_of A m) a.plan b.plan in
    let outs : outs_in k.exits ≡ outs_in m.exits = ap (λ (q : Plan). q.outs) p in
    let es = one_list_of_entries (outs_in k.exits) k.exits m.exits (ap (λ (q : Plan). q.exits) p) agree
    (subst (λ (F : Exit → List ℕ). HandOut F m.exits) (sym outs) other) in
    let v = a.value ∙ sym b.value in λ i. record {
      exits = es i;
      value = v i;
      params = (p i).params;
      locals = (p i).locals;
      redeclared = (p i).redeclared;
      loose = (p i).loose;
    }
