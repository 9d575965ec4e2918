-- That what the code decides is the plan.
use Rattle.std.proofs.Common.{◌≡◌, ◌≢◌, ◌⊎◌, inl, inr, ℕ, Bool, true, false, not, ◌&&◌, ◌||◌, if◌then◌else◌, Result, Ok, IfOk, List, [], ◌∷◌, map, refl, sym, ap, ◌∙◌, subst}
use Rattle.std.proofs.lemmas.Bool.{eqb-true, eq-eqb, true≢false, false≢true}
use Rattle.rx_lower_walks.specs.Walks.{Among, here, there}
use Rattle.rx_exits_plan.specs.Points.{Exit, next, breaks, continues, returns, same_exit}
use Rattle.rx_exits_plan.specs.declared.plan.ExitOuts.{ExitOuts}
use Rattle.rx_exits_plan.specs.declared.plan.ExitPlan.{ExitPlan}
use Rattle.rx_exits_plan.specs.Occurrences.{has_number, those, is_direct, is_named_behind, is_declared_in_run, foreign}
use Rattle.rx_exits_plan.specs.Exits as exit
use Rattle.rx_exits_plan.specs.Asked.{Asked, IsLiveAt}
use Rattle.rx_exits_plan.specs.Plan.{Plan, Chosen, variables_of, is_moved, run_actions, is_offered, offered, is_redeclared, is_named_outside, out_of_some, is_loose, handed_value}
use Rattle.rx_exits_plan.specs.PlainPlan.{plain-Exit, outs_in, plan_of, IsExitPlan}
use Rattle.rx_exits_plan.specs.Runs.{last_value}
use Rattle.std.specs.Option.{is_some}
use Rattle.rx_exits.specs.Moving.{moved_in}
use Rattle.rx_exits.specs.Choosing.{AllHandOut, outs_among}
use Rattle.rx_exits.specs.Planning.{IsFacts, IsEntry, IsGiven, IsPlanned, OutsAgree}
use Rattle.rx_exits.specs.declared.planning.Planned.{Planned}
use Rattle.rx_exits.specs.declared.run_living.RunLiving.{RunLiving}
use Rattle.rx_exits.specs.Living.{IsLiving}
use Rattle.std.specs.declared.alloc.AllocError.{AllocError}
use Rattle.rx_exits.specs.declared.facts.Facts.{Facts}
use Rattle.rx_exits.proofs.Listing.{has_those, those_agree}
use Rattle.rx_exits.proofs.ChoosingLemmas.{one_choice}
use Rattle.rx_exits.proofs.MovingLemmas.{some_moved}

-- ---- the same exit

pub same_is : (x y : Exit) → same_exit x y ≡ true → x ≡ y
same_is next next e = refl
same_is (breaks l) (breaks k) e = ap breaks (eqb-true l k e)
same_is (continues l) (continues k) e = ap continues (eqb-true l k e)
same_is returns returns e = refl
same_is next (breaks k) e = absurd (false≢true e)
same_is next (continues k) e = absurd (false≢true e)
same_is next returns e = absurd (false≢true e)
same_is (breaks l) next e = absurd (false≢true e)
same_is (breaks l) (continues k) e = absurd (false≢true e)
same_is (breaks l) returns e = absurd (false≢true e)
same_is (continues l) next e = absurd (false≢true e)
same_is (continues l) (breaks k) e = absurd (false≢true e)
same_is (continues l) returns e = absurd (false≢true e)
same_is returns next e = absurd (false≢true e)
same_is returns (breaks k) e = absurd (false≢true e)
same_is returns (continues k) e = absurd (false≢true e)

pub same_self : (x : Exit) → same_exit x x ≡ true
same_self next = refl
same_self (breaks l) = eq-eqb l l refl
same_self (continues l) = eq-eqb l l refl
same_self returns = refl

-- ---- outs

-- one that is not the first is among the others
further : (x y : Exit) (es : List ExitOuts) → same_exit x y ≡ false → Among x (y ∷ map (λ (e : ExitOuts). plain-Exit e.exit) es) → Among x (map (λ (e : ExitOuts). plain-Exit e.exit) es)
further x _ es s here = absurd (true≢false (sym (same_self x) ∙ s))
further x y es s (there k) = k

listed_first : (x : Exit) (e : ExitOuts) (es : List ExitOuts) (Q : List ℕ → Type 0) → (plain-Exit e.exit ≡ x → Q e.outs) → (Among x (map (λ (e : ExitOuts). plain-Exit e.exit) es) → Q (outs_in es x))
    → Among x (plain-Exit e.exit ∷ map (λ (e : ExitOuts). plain-Exit e.exit) es) → (b : Bool) → same_exit x (plain-Exit e.exit) ≡ b → Q (if b then e.outs else outs_in es x)
listed_first x e es Q first more i true s = first (sym (same_is x (plain-Exit e.exit) s))
listed_first x e es Q first more i false s = more (further x (plain-Exit e.exit) es s i)

-- what is listed of an exit is what one of the list hands out, and nothing where it is not listed
pub listed_outs : (x : Exit) (es : List ExitOuts) (Q : List ℕ → Type 0) → ((e : ExitOuts) → Among e es → plain-Exit e.exit ≡ x → Q e.outs) → Among x (map (λ (e : ExitOuts). plain-Exit e.exit) es) → Q (outs_in es x)
listed_outs x [] Q h i = elim i [ ]
listed_outs x (e ∷ es) Q h i =
    listed_first x e es Q (h e here) (λ j. listed_outs x es Q (λ f k. h f (there k)) j) i (same_exit x (plain-Exit e.exit)) refl

unlisted_first : (x : Exit) (e : ExitOuts) (es : List ExitOuts) → ¬ (Among x (plain-Exit e.exit ∷ map (λ (e : ExitOuts). plain-Exit e.exit) es)) → outs_in es x ≡ []
    → (b : Bool) → same_exit x (plain-Exit e.exit) ≡ b → (if b then e.outs else outs_in es x) ≡ []
unlisted_first x e es free rest true s = absurd (free (subst (λ y. Among x (y ∷ map (λ (e : ExitOuts). plain-Exit e.exit) es)) (same_is x (plain-Exit e.exit) s) here))
unlisted_first x e es free rest false s = rest

pub unlisted_outs : (x : Exit) (es : List ExitOuts) → ¬ (Among x (map (λ (e : ExitOuts). plain-Exit e.exit) es)) → outs_in es x ≡ []
unlisted_outs x [] free = refl
unlisted_outs x (e ∷ es) free = unlisted_first x e es free (unlisted_outs x es (λ i. free (there i))) (same_exit x (plain-Exit e.exit)) refl

returns_first : (e : ExitOuts) (es : List ExitOuts) → (plain-Exit e.exit ≡ returns → e.outs ≡ []) → outs_in es returns ≡ []
    → (b : Bool) → same_exit returns (plain-Exit e.exit) ≡ b → (if b then e.outs else outs_in es returns) ≡ []
returns_first e es first rest true s = first (sym (same_is returns (plain-Exit e.exit) s))
returns_first e es first rest false s = rest

none_returned_in : (A : Asked) (ps off : List ℕ) (es : List ExitOuts) → AllHandOut A ps off es → outs_in es returns ≡ []
none_returned_in A ps off [] H = refl
none_returned_in A ps off (e ∷ es) H = returns_first e es ((H e here).none) (none_returned_in A ps off es (λ f i. H f (there i))) (same_exit returns (plain-Exit e.exit)) refl

pub mapped_among : (e : ExitOuts) (es : List ExitOuts) → Among e es → Among (plain-Exit e.exit) (map (λ (e : ExitOuts). plain-Exit e.exit) es)
mapped_among e _ here = here
mapped_among e _ (there i) = there (mapped_among e _ i)

returns_cases : (x : Exit) → (x ≡ returns) ⊎ (x ≢ returns)
returns_cases returns = inl refl
returns_cases next = inr (λ h. absurd (cc))
returns_cases (breaks l) = inr (λ h. absurd (cc))
returns_cases (continues l) = inr (λ h. absurd (cc))

pub outs_agree : (A : Asked) (ps off : List ℕ) (es : List ExitOuts) → AllHandOut A ps off es → OutsAgree es
outs_agree A ps off es H e i =
    listed_outs (plain-Exit e.exit) es (λ l. l ≡ e.outs) (λ f j same. by f j same (returns_cases (plain-Exit e.exit))) (mapped_among e es i)
  where
    by : (f : ExitOuts) → Among f es → plain-Exit f.exit ≡ plain-Exit e.exit → (plain-Exit e.exit ≡ returns) ⊎ (plain-Exit e.exit ≢ returns) → f.outs ≡ e.outs
    by f j same (inl r) = (H f j).none (same ∙ r) ∙ sym ((H e i).none r)
    by f j same (inr n) =
        one_choice (subst (λ x. Chosen (IsLiveAt A ps x) off f.outs) same ((H f j).live (λ r. n (sym same ∙ r)))) ((H e i).live n)

-- ---- what may be handed out

pub offered_is : (A : Asked) (f : Facts) (moved locals direct all m : List ℕ) → IsFacts A f → moved ≡ moved_in (run_actions A.run A.home.body)
    → direct ≡ f.variables.direct → all ≡ f.variables.all
    → m ≡ those (λ x. has_number x moved || (has_number x locals || has_number x direct)) all → m ≡ offered A locals
offered_is A f moved locals direct all m F moved_is d a is =
    is ∙ ap (those (λ x. has_number x moved || (has_number x locals || has_number x direct))) (a ∙ F.all)
    ∙ those_agree (λ x. has_number x moved || (has_number x locals || has_number x direct)) (is_offered A locals) (variables_of A)
    (λ x i. ap (λ l. has_number x l || (has_number x locals || has_number x direct)) moved_is
    ∙ ap (λ b. b || (has_number x locals || has_number x direct)) (sym (some_moved x (run_actions A.run A.home.body)))
    ∙ ap (λ l. is_moved A x || (has_number x locals || has_number x l)) (d ∙ F.direct)
    ∙ ap (λ b. is_moved A x || (has_number x locals || b)) (has_those (is_direct A.run A.home.body) x (variables_of A) i))

-- ---- what the text around needs

pub redeclared_is : (A : Asked) (f : Facts) (direct behind outs all m : List ℕ) → IsFacts A f → direct ≡ f.variables.direct → behind ≡ f.variables.behind → all ≡ f.variables.all
    → m ≡ those (λ x. has_number x direct && has_number x behind && not (has_number x outs)) all
    → m ≡ those (is_redeclared A outs) (variables_of A)
redeclared_is A f direct behind outs all m F d b a is =
    is ∙ ap (those (λ x. has_number x direct && has_number x behind && not (has_number x outs))) (a ∙ F.all)
    ∙ those_agree (λ x. has_number x direct && has_number x behind && not (has_number x outs)) (is_redeclared A outs) (variables_of A)
    (λ x i. ap (λ l. has_number x l && has_number x behind && not (has_number x outs)) (d ∙ F.direct)
    ∙ ap (λ l. has_number x (those (is_direct A.run A.home.body) (variables_of A)) && has_number x l && not (has_number x outs)) (b ∙ F.behind)
    ∙ ap (λ t. t && has_number x (those (is_named_behind A.run A.home.body) (variables_of A)) && not (has_number x outs)) (has_those (is_direct A.run A.home.body) x (variables_of A) i)
    ∙ ap (λ t. is_direct A.run A.home.body x && t && not (has_number x outs)) (has_those (is_named_behind A.run A.home.body) x (variables_of A) i))

some_out : (es : List ExitOuts) (outs : Exit → List ℕ) (x : ℕ) → ((e : ExitOuts) → Among e es → outs (plain-Exit e.exit) ≡ e.outs)
    → outs_among es x ≡ out_of_some (map (λ (e : ExitOuts). plain-Exit e.exit) es) outs x
some_out [] outs x agree = refl
some_out (e ∷ es) outs x agree =
    ap (λ b. has_number x e.outs || b) (some_out es outs x (λ f i. agree f (there i)))
    ∙ ap (λ l. has_number x l || out_of_some (map (λ (e : ExitOuts). plain-Exit e.exit) es) outs x) (sym (agree e here))

pub loose_is : (A : Asked) (k : Plan) (f : Facts) (es : List ExitOuts) (foreign behind params all m : List ℕ) → IsFacts A f
    → foreign ≡ f.variables.foreign → behind ≡ f.variables.behind → all ≡ f.variables.all → k.params ≡ params → k.outs ≡ outs_in es
    → k.exits ≡ map (λ (e : ExitOuts). plain-Exit e.exit) es → OutsAgree es
    → m ≡ those (λ x. (has_number x foreign || has_number x behind) && not (has_number x params) && not (outs_among es x)) all
    → m ≡ those (is_loose A k) (variables_of A)
loose_is A k f es foreign behind params all m F fo be a ps outs exits agree is =
    is ∙ ap (those (λ x. (has_number x foreign || has_number x behind) && not (has_number x params) && not (outs_among es x))) (a ∙ F.all)
    ∙ those_agree (λ x. (has_number x foreign || has_number x behind) && not (has_number x params) && not (outs_among es x)) (is_loose A k) (variables_of A)
    (λ x i. let N = λ (b : Bool). b && not (has_number x params) && not (outs_among es x) in
    ap (λ l. N (has_number x l || has_number x behind)) (fo ∙ F.foreign)
    ∙ ap (λ b. N (b || has_number x behind)) (has_those (λ y. not (is_declared_in_run A.run A.home.body y)) x (variables_of A) i)
    ∙ ap (λ l. N (not (is_declared_in_run A.run A.home.body x) || has_number x l)) (be ∙ F.behind)
    ∙ ap (λ b. N (not (is_declared_in_run A.run A.home.body x) || b)) (has_those (is_named_behind A.run A.home.body) x (variables_of A) i)
    ∙ ap (λ l. is_named_outside A x && not (has_number x l) && not (outs_among es x)) (sym ps)
    ∙ ap (λ b. is_named_outside A x && not (has_number x k.params) && not b)
    (some_out es (outs_in es) x agree ∙ ap (λ (o : Exit → List ℕ). out_of_some (map (λ (e : ExitOuts). plain-Exit e.exit) es) o x) (sym outs) ∙ ap (λ l. out_of_some l k.outs x) (sym exits)))

-- ---- the plan

-- the exits are those of the plan
pub exits_are : (A : Asked) (k : ExitPlan) → (plan_of A k).exits ≡ map (λ (e : ExitOuts). plain-Exit e.exit) k.exits
exits_are A k = refl

pub plan_is : (A : Asked) (k : ExitPlan) → IsGiven A k.exits k.params k.locals → k.value ≡ is_some (handed_value (last_value A.run A.home.body))
    → k.redeclared ≡ those (is_redeclared A (outs_in k.exits next)) (variables_of A) → k.loose ≡ those (is_loose A (plan_of A k)) (variables_of A) → IsExitPlan A k
plan_is A k G value redeclared loose = record {
  plan = record {
    exits = G.exits;
    params = G.entry.params;
    locals = G.entry.locals;
    outs = λ x i ne. listed_outs x k.exits (λ l. Chosen (IsLiveAt A k.params x) (offered A k.locals) l)
        (λ e j same. subst (λ y. Chosen (IsLiveAt A k.params y) (offered A k.locals) e.outs) same ((G.outs e j).live (λ r. ne (sym same ∙ r)))) i;
    none_returned = none_returned_in A k.params (offered A k.locals) k.exits G.outs;
    none_elsewhere = λ x free. unlisted_outs x k.exits free;
    value = refl;
    redeclared = redeclared;
    loose = loose;
  };
  value = value;
}

-- ---- step by step

of_value : {A : Type 0} (P : A → Type 0) (r : Result A AllocError) (a : A) → r ≡ Ok a → IfOk r P → P a
of_value {A = A} P r a e h = subst (λ (s : Result A AllocError). IfOk s P) e h

pub planned_is : (A : Asked) (living : RunLiving) (params locals : List ℕ) (handed : Result (List ExitOuts) AllocError) (plan : Result ExitPlan AllocError) (p : Planned)
    → IfOk handed (λ (es : List ExitOuts). map (λ (e : ExitOuts). plain-Exit e.exit) es ≡ exit.exits A.run A.home)
    → IfOk handed (λ (es : List ExitOuts). AllHandOut A params (offered A locals) es)
    → IfOk plan (λ (k : ExitPlan). IsGiven A k.exits params locals → IsExitPlan A k)
    → IfOk plan (λ (k : ExitPlan). handed ≡ Ok k.exits)
    → IfOk plan (λ (k : ExitPlan). k.params ≡ params)
    → plan ≡ Ok p.plan → p.living ≡ living → IsEntry A params locals → IsLiving A params living → IsPlanned A p
planned_is A living params locals handed plan p exits_are outs_are is_plan from params_are made lives E L =
    let is = of_value (λ (k : ExitPlan). handed ≡ Ok k.exits) plan p.plan made from in
    let ps = of_value (λ (k : ExitPlan). k.params ≡ params) plan p.plan made params_are in
    let outs = of_value (λ (es : List ExitOuts). AllHandOut A params (offered A locals) es) handed p.plan.exits is outs_are in
    record {
      plan = of_value (λ (k : ExitPlan). IsGiven A k.exits params locals → IsExitPlan A k) plan p.plan made is_plan (record {
        entry = E;
        exits = of_value (λ (es : List ExitOuts). map (λ (e : ExitOuts). plain-Exit e.exit) es ≡ exit.exits A.run A.home) handed p.plan.exits is exits_are;
        outs = outs;
      });
      living = subst (λ l. IsLiving A l p.living) (sym ps) (subst (λ l. IsLiving A params l) (sym lives) L);
      agree = outs_agree A params (offered A locals) p.plan.exits outs;
    }

pub plan_made : (A : Asked) (exits : List ExitOuts) (entry : List ℕ × List ℕ) (held : List ExitOuts × (List ℕ × List ℕ)) (es : List ExitOuts) (ps : List ℕ) (value : Bool)
    (lists : List ℕ × List ℕ) (r : Result (List ℕ × List ℕ) AllocError)
    → held ≡ (exits, entry) → IsGiven A exits entry.0 entry.1 → es ≡ exits → ps ≡ entry.0 → value ≡ is_some (handed_value (last_value A.run A.home.body)) → r ≡ Ok lists
    → IfOk r (λ (it : List ℕ × List ℕ). (k : Plan) → k.params ≡ ps → k.outs ≡ outs_in es → OutsAgree es → k.exits ≡ map (λ (e : ExitOuts). plain-Exit e.exit) es
    → (it.0 ≡ those (is_redeclared A (outs_in es next)) (variables_of A)) × (it.1 ≡ those (is_loose A k) (variables_of A)))
    → IsExitPlan A (record { exits = held.0; value = value; params = held.1.0; locals = held.1.1; redeclared = lists.0; loose = lists.1 })
plan_made A exits entry held es ps value lists r same G es_is ps_is value_is made told =
    let H : IsGiven A held.0 held.1.0 held.1.1 = subst (λ (h : List ExitOuts × (List ℕ × List ℕ)). IsGiven A h.0 h.1.0 h.1.1) (sym same) G in
    let listed : es ≡ held.0 = es_is ∙ ap (λ (h : List ExitOuts × (List ℕ × List ℕ)). h.0) (sym same) in
    let given : ps ≡ held.1.0 = ps_is ∙ ap (λ (h : List ExitOuts × (List ℕ × List ℕ)). h.1.0) (sym same) in
    let k : ExitPlan = record { exits = held.0; value = value; params = held.1.0; locals = held.1.1; redeclared = lists.0; loose = lists.1 } in
    let both = of_value (λ (it : List ℕ × List ℕ). (k : Plan) → k.params ≡ ps → k.outs ≡ outs_in es → OutsAgree es → k.exits ≡ map (λ (e : ExitOuts). plain-Exit e.exit) es
    → (it.0 ≡ those (is_redeclared A (outs_in es next)) (variables_of A)) × (it.1 ≡ those (is_loose A k) (variables_of A))) r lists made told (plan_of A k) (sym given) (ap outs_in (sym listed))
    (subst OutsAgree (sym listed) (outs_agree A held.1.0 (offered A held.1.1) held.0 H.outs)) (ap (map (λ (e : ExitOuts). plain-Exit e.exit)) (sym listed)) in
    plan_is A k H value_is (both.0 ∙ ap (λ l. those (is_redeclared A (outs_in l next)) (variables_of A)) listed) both.1
