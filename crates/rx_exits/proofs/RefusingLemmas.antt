-- That what the code refuses is what the definitions refuse.
use Rattle.std.proofs.Common.{◌≡◌, ◌≢◌, inl, inr, ℕ, Bool, true, false, not, if◌then◌else◌, List, [], ◌∷◌, map, Some, refl, sym, ap, ◌∙◌, subst}
use Rattle.rx_lower_walks.specs.Walks.{Among, here, there}
use Rattle.rx_facts_tables.specs.Setting.{is_set}
use Rattle.rx_exits_plan.specs.Points.{Exit, next, returns, same_exit, enters, leaves}
use Rattle.rx_exits_plan.specs.declared.plan.ExitOuts.{ExitOuts}
use Rattle.rx_exits_plan.specs.Occurrences.{those, is_declared_in_run}
use Rattle.rx_exits_plan.specs.Asked.{Asked, IsLiveAt}
use Rattle.rx_exits_plan.specs.Exits.{Jump, jumps, at_end}
use Rattle.rx_exits_plan.specs.Plan.{Plan, IsPlan, variables_of, foreign_of, offered, is_offered}
use Rattle.rx_exits_plan.specs.PlainPlan.{plain-Exit, outs_in}
use Rattle.rx_exits_plan.specs.MixedInit.{MixedInit}
use Rattle.rx_exits_plan.specs.PartlyMoved.{PartlyMoved, at_entry, at_exit}
use Rattle.rx_exits_plan.specs.Shadowed.{Shadowed, at_jump, at_the_end, meant}
use Rattle.rx_exits.specs.Points.{MayBeUnset, MayStand}
use Rattle.rx_modes_uses.specs.First.{First, this, later}
use Rattle.rx_exits.specs.Telling.{IsPartly, IsMixed, IsShadowed}
use Rattle.rx_exits.specs.Refusing.{same_name, NoneMixed, NonePartly, NoneShadowed}
use Rattle.rx_exits.specs.Planning.{OutsAgree}
use Rattle.rx_exits.proofs.Listing.{number_listed, listed_number}
use Rattle.rx_exits.proofs.ChoosingLemmas.{chosen_among}
use Rattle.rx_exits.proofs.PlanningLemmas.{same_is, mapped_among}

-- ---- the first

pub first_map : (Q R : ℕ → Type 0) (l : List ℕ) (x : ℕ) → ((y : ℕ) → Q y → R y) → ((y : ℕ) → R y → Q y) → First Q l x → First R l x
first_map Q R _ x to back (this q) = this (to _ q)
first_map Q R _ x to back (later n f) = later (λ r. n (back _ r)) (first_map Q R _ x to back f)

first_among : (x y : ℕ) (k l : List ℕ) → (Among x k → Among x l) → Among x (y ∷ k) → Among x (y ∷ l)
first_among x _ k l more here = here
first_among x y k l more (there j) = there (more j)

one_among : (f : ℕ → Bool) (x y : ℕ) (l : List ℕ) → (Among x (those f l) → Among x l) → (b : Bool) → Among x (if b then y ∷ those f l else those f l) → Among x (y ∷ l)
one_among f x y l more true i = first_among x y (those f l) l more i
one_among f x y l more false i = there (more i)

pub those_among : (f : ℕ → Bool) (x : ℕ) (l : List ℕ) → Among x (those f l) → Among x l
those_among f x [] i = i
those_among f x (y ∷ l) i = one_among f x y l (λ j. those_among f x l j) (f y) i

foreign_among : (A : Asked) (x : ℕ) → Among x (foreign_of A) → Among x (variables_of A)
foreign_among A x i = those_among (λ y. not (is_declared_in_run A.run A.home.body y)) x (variables_of A) i

-- ---- neither set nor unset for sure

pub mixed_to : (A : Asked) (foreign : List ℕ) (x : ℕ) → foreign ≡ foreign_of A → IsMixed A foreign x → MixedInit A x
mixed_to A foreign x e (has, m) = record { named = subst (λ l. Among x l) e (number_listed x foreign has); part = m.part; is_one = m.is_one; set = m.set; unset = m.unset }

pub mixed_from : (A : Asked) (foreign : List ℕ) (x : ℕ) → foreign ≡ foreign_of A → MixedInit A x → IsMixed A foreign x
mixed_from A foreign x e m = (listed_number x foreign (subst (λ l. Among x l) (sym e) m.named), record { part = m.part; is_one = m.is_one; set = m.set; unset = m.unset })

pub none_mixed : (A : Asked) (foreign : List ℕ) → foreign ≡ foreign_of A → ((x : ℕ) → Among x (variables_of A) → ¬ (IsMixed A foreign x)) → NoneMixed A
none_mixed A foreign e free x m = free x (foreign_among A x m.named) (mixed_from A foreign x e m)

-- ---- exits of the list

abbrev Entry : Exit → List ExitOuts → Type 0
Entry x es = (e : ExitOuts) × Among e es × (plain-Exit e.exit ≡ x)

first_entry : (x y : Exit) (e : ExitOuts) (es : List ExitOuts) → (Among x (map (λ (e : ExitOuts). plain-Exit e.exit) es) → Entry x es) → plain-Exit e.exit ≡ y
    → Among x (y ∷ map (λ (e : ExitOuts). plain-Exit e.exit) es) → Entry x (e ∷ es)
first_entry x _ e es more s here = (e, here, s)
first_entry x y e es more s (there j) = let r = more j in (r.0, there r.1, r.2)

-- one of the list has this exit
pub entry_of : (x : Exit) (es : List ExitOuts) → Among x (map (λ (e : ExitOuts). plain-Exit e.exit) es) → (e : ExitOuts) × Among e es × (plain-Exit e.exit ≡ x)
entry_of x [] i = elim i [ ]
entry_of x (e ∷ es) i = first_entry x (plain-Exit e.exit) e es (λ j. entry_of x es j) refl i

first_out : (x : Exit) (e : ExitOuts) (es : List ExitOuts) (y : ℕ) → (Among y (outs_in es x) → Among x (map (λ (e : ExitOuts). plain-Exit e.exit) es))
    → (b : Bool) → same_exit x (plain-Exit e.exit) ≡ b → Among y (if b then e.outs else outs_in es x) → Among x (plain-Exit e.exit ∷ map (λ (e : ExitOuts). plain-Exit e.exit) es)
first_out x e es y more true s i = subst (λ z. Among x (z ∷ map (λ (e : ExitOuts). plain-Exit e.exit) es)) (same_is x (plain-Exit e.exit) s) here
first_out x e es y more false s i = there (more i)

-- what hands out is of the list
pub out_listed : (x : Exit) (es : List ExitOuts) (y : ℕ) → Among y (outs_in es x) → Among x (map (λ (e : ExitOuts). plain-Exit e.exit) es)
out_listed x [] y i = elim i [ ]
out_listed x (e ∷ es) y i = first_out x e es y (λ j. out_listed x es y j) (same_exit x (plain-Exit e.exit)) refl i

-- what is handed out is of the run
not_in_none : (x : ℕ) (l : List ℕ) → l ≡ [] → ¬ (Among x l)
not_in_none x l e i = elim (subst (λ k. Among x k) e i) [ ]

out_before : (A : Asked) (k : Plan) (e : Exit) (x : ℕ) → IsPlan A k → Among e k.exits → e ≢ returns → Among x (k.outs e) → Among x (variables_of A)
out_before A k e x P i ne j = those_among (is_offered A k.locals) x (variables_of A) (chosen_among (IsLiveAt A k.params e) (offered A k.locals) (k.outs e) x (P.outs e i ne) j)

pub out_among : (A : Asked) (k : Plan) (e : Exit) (x : ℕ) → IsPlan A k → Among e k.exits → Among x (k.outs e) → Among x (variables_of A)
out_among A k e x P i j = out_before A k e x P i (λ r. not_in_none x (k.outs e) (ap k.outs r ∙ P.none_returned) j) j

-- ---- there in part

-- on one walk a part is unset, and on one the variable stands as a whole: where it is not mixed, that is one walk
pub both_partly : (A : Asked) (x : ℕ) → NoneMixed A → Among x (foreign_of A) → MayBeUnset A enters x → MayStand A x → (k : Plan) → PartlyMoved A k x
both_partly A x none named (v, comes, (n, one, unset)) (w, entered, stands) k = at_entry w named entered (n, one, by (is_set A.frame w n) refl) stands
  where
    by : (b : Bool) → is_set A.frame w n ≡ b → is_set A.frame w n ≡ false
    by false e = e
    by true e = absurd (none x (record { named = named; part = n; is_one = one; set = (w, entered, e); unset = (v, comes, unset) }))

pub partly_to : (A : Asked) (k : Plan) (foreign : List ℕ) (es : List ExitOuts) (x : ℕ) → foreign ≡ foreign_of A → NoneMixed A
    → k.exits ≡ map (λ (e : ExitOuts). plain-Exit e.exit) es → k.outs ≡ outs_in es → OutsAgree es → IsPartly A foreign es x → PartlyMoved A k x
partly_to A k foreign es x e none exits outs agree (inl (has, unset, stand)) = both_partly A x none (subst (λ l. Among x l) e (number_listed x foreign has)) unset stand k
partly_to A k foreign es x e none exits outs agree (inr (f, i, (has, (w, comes, unset)))) =
    at_exit w (plain-Exit f.exit) (subst (λ l. Among (plain-Exit f.exit) l) (sym exits) (mapped_among f es i))
    (subst (λ (o : Exit → List ℕ). Among x (o (plain-Exit f.exit))) (sym outs) (subst (λ l. Among x l) (sym (agree f i)) (number_listed x f.outs has))) comes unset

pub partly_from : (A : Asked) (k : Plan) (foreign : List ℕ) (es : List ExitOuts) (x : ℕ) → foreign ≡ foreign_of A
    → k.exits ≡ map (λ (e : ExitOuts). plain-Exit e.exit) es → k.outs ≡ outs_in es → OutsAgree es → PartlyMoved A k x → IsPartly A foreign es x
partly_from A k foreign es x e exits outs agree (at_entry w named comes unset stands) =
    inl (listed_number x foreign (subst (λ l. Among x l) (sym e) named), (w, comes, unset), (w, comes, stands))
partly_from A k foreign es x e exits outs agree (at_exit w c i j comes unset) =
    let r = entry_of c es (subst (λ l. Among c l) exits i) in
    let out = subst (λ (o : Exit → List ℕ). Among x (o c)) outs j in
    inr (r.0, r.1, (listed_number x r.0.outs (subst (λ l. Among x l) (ap (outs_in es) (sym r.2) ∙ agree r.0 r.1) out), subst (λ d. MayBeUnset A (leaves d) x) (sym r.2) (w, comes, unset)))

pub none_partly : (A : Asked) (k : Plan) (foreign : List ℕ) (es : List ExitOuts) → IsPlan A k → foreign ≡ foreign_of A
    → k.exits ≡ map (λ (e : ExitOuts). plain-Exit e.exit) es → k.outs ≡ outs_in es → OutsAgree es
    → ((x : ℕ) → Among x (variables_of A) → ¬ (IsPartly A foreign es x)) → NonePartly A k
none_partly A k foreign es P e exits outs agree free x p = free x (among p) (partly_from A k foreign es x e exits outs agree p)
  where
    among : PartlyMoved A k x → Among x (variables_of A)
    among (at_entry w named comes unset stands) = foreign_among A x named
    among (at_exit w c i j comes unset) = out_among A k c x P i j

-- ---- another of its name in front

pub shadowed_to : (A : Asked) (k : Plan) (names : List (List ℕ)) (es : List ExitOuts) (js : List Jump) (end : List ℕ) (x : ℕ)
    → k.exits ≡ map (λ (e : ExitOuts). plain-Exit e.exit) es → k.outs ≡ outs_in es → js ≡ jumps A.run A.home → end ≡ (at_end A.run A.home).scope
    → IsShadowed names es js end x → Shadowed A k (same_name names) x
shadowed_to A k names es js end x exits outs is scope (inl (has, other)) =
    let out = number_listed x (outs_in es next) has in
    at_the_end (subst (λ l. Among next l) (sym exits) (out_listed next es x out)) (subst (λ (o : Exit → List ℕ). Among x (o next)) (sym outs) out)
    (subst (λ l. meant (same_name names) x l ≢ Some x) scope other)
shadowed_to A k names es js end x exits outs is scope (inr (j, i, (has, other))) =
    at_jump j (subst (λ l. Among j l) is i) (subst (λ (o : Exit → List ℕ). Among x (o j.exit)) (sym outs) (number_listed x (outs_in es j.exit) has)) other

pub shadowed_from : (A : Asked) (k : Plan) (names : List (List ℕ)) (es : List ExitOuts) (js : List Jump) (end : List ℕ) (x : ℕ)
    → k.outs ≡ outs_in es → js ≡ jumps A.run A.home → end ≡ (at_end A.run A.home).scope
    → Shadowed A k (same_name names) x → IsShadowed names es js end x
shadowed_from A k names es js end x outs is scope (at_jump j i out other) =
    inr (j, subst (λ l. Among j l) (sym is) i, (listed_number x (outs_in es j.exit) (subst (λ (o : Exit → List ℕ). Among x (o j.exit)) outs out), other))
shadowed_from A k names es js end x outs is scope (at_the_end i out other) =
    inl (listed_number x (outs_in es next) (subst (λ (o : Exit → List ℕ). Among x (o next)) outs out), subst (λ l. meant (same_name names) x l ≢ Some x) (sym scope) other)

pub none_shadowed : (A : Asked) (k : Plan) (names : List (List ℕ)) (es : List ExitOuts) (js : List Jump) (end : List ℕ) → IsPlan A k
    → k.exits ≡ map (λ (e : ExitOuts). plain-Exit e.exit) es → k.outs ≡ outs_in es → js ≡ jumps A.run A.home → end ≡ (at_end A.run A.home).scope
    → ((x : ℕ) → Among x (variables_of A) → ¬ (IsShadowed names es js end x)) → NoneShadowed A k (same_name names)
none_shadowed A k names es js end P exits outs is scope free x s = free x (among s) (shadowed_from A k names es js end x outs is scope s)
  where
    listed : (e : Exit) → Among x (k.outs e) → Among e k.exits
    listed e j = subst (λ l. Among e l) (sym exits) (out_listed e es x (subst (λ (o : Exit → List ℕ). Among x (o e)) outs j))

    among : Shadowed A k (same_name names) x → Among x (variables_of A)
    among (at_jump j i out other) = out_among A k j.exit x P (listed j.exit out) out
    among (at_the_end i out other) = out_among A k next x P i out
