-- Where a step lacks nothing, what it reads is there.
use Rattle.std.proofs.Common.{◌≡◌, ℕ, zero, suc, ◌<◌, Bool, List, [], ◌∷◌, length, get_or, Option, Some, None, refl, sym, ap, ◌∙◌, subst, arith}
use Rattle.std.specs.Prelude.{IsSome, option_map}
use Rattle.rx_typeck_solver.specs.declared.facts.Kinds.{Kinds}
use Rattle.rx_typeck_solver.specs.declared.facts.Subject.{Subject}
use Rattle.rx_typeck_solver.specs.declared.facts.Subject.TheVariants as subject
use Rattle.rx_typeck_solver.specs.declared.facts.Passing.{Passing}
use Rattle.rx_typeck_solver.specs.declared.facts.Op.{Op}
use Rattle.rx_typeck_solver.specs.declared.facts.Test.{Test}
use Rattle.rx_typeck_solver.specs.declared.facts.Fact.{Fact}
use Rattle.rx_typeck_solver.specs.declared.facts.Fact.TheVariants as fact
use Rattle.rx_typeck_solver.specs.declared.facts.Demand.{Demand}
use Rattle.rx_typeck_solver.specs.declared.arena.Entry.{Entry}
use Rattle.rx_typeck_solver.specs.declared.tables.Tables.{Tables}
use Rattle.rx_typeck_solver.specs.Facts.{KnownItems}
use Rattle.rx_typeck_solver.specs.Solver.{Term, State, Step, Stuck, so, listed, terms_at, gone_at, passed_at, equals, passes, behind_at, take, take_all, Found, Lacking, next, solve}
use Rattle.rx_typeck_solver.specs.Cells.{term}
use Rattle.rx_typeck_solver.specs.Tabled.{index_of, table_of}
use Rattle.rx_typeck_solver.proofs.Taking.{take_equals, take_behind, take_passes}

-- ---- what is read one after another

listed_known : {A : Type 0} (o : Option A) (p : Option (List A)) → IsSome (listed o p) → IsSome o × IsSome p
listed_known (Some x) (Some xs) h = (refl, refl)
listed_known (Some x) None h = cc
listed_known None p h = cc

gone_known : (o : Option Term) (all : Bool) (p : Option (List Bool)) → IsSome (gone_at o all p) → IsSome o × IsSome p
gone_known (Some t) all (Some ms) h = (refl, refl)
gone_known (Some t) all None h = cc
gone_known None all p h = cc

pub item_known : {A : Type 0} (tab : Subject → Option A) (qs xs : List Subject) (i : ℕ) (d : Subject) → qs ≡ xs → i < length qs → IsSome (terms_at tab xs) → IsSome (tab (get_or qs i d))
item_known tab qs xs i d e h k = go qs i h (subst (λ l. IsSome (terms_at tab l)) (sym e) k)
  where
    go : (xs : List Subject) (i : ℕ) → i < length xs → IsSome (terms_at tab xs) → IsSome (tab (get_or xs i d))
    go [] i h k = absurd (omega arith)
    go (x ∷ xs) zero h k = (listed_known (tab x) (terms_at tab xs) k).0
    go (x ∷ xs) (suc i) h k = go xs i (omega arith) (listed_known (tab x) (terms_at tab xs) k).1

pub passing_known : (tab : Subject → Option Term) (qs ps : List Passing) (i : ℕ) (d : Passing) → qs ≡ ps → i < length qs → IsSome (passed_at tab ps) → IsSome (tab (subject.Node (get_or qs i d).node))
passing_known tab qs ps i d e h k = go qs i h (subst (λ l. IsSome (passed_at tab l)) (sym e) k)
  where
    go : (ps : List Passing) (i : ℕ) → i < length ps → IsSome (passed_at tab ps) → IsSome (tab (subject.Node (get_or ps i d).node))
    go [] i h k = absurd (omega arith)
    go (p ∷ ps) zero h k = (gone_known (tab (subject.Node p.node)) p.all (passed_at tab ps) k).0
    go (p ∷ ps) (suc i) h k = go ps i (omega arith) (gone_known (tab (subject.Node p.node)) p.all (passed_at tab ps) k).1

-- a subject with a shape has an entry
pub entry_known : (es : List Entry) (t : Tables) (x : Subject) → IsSome (table_of es t x) → IsSome (index_of t x)
unfolding table_of
entry_known es t x h = go (index_of t x) h
  where
    go : (o : Option ℕ) → IsSome (option_map (term es) o) → IsSome o
    go (Some i) h = refl
    go None h = cc

pub entries_known : (es : List Entry) (t : Tables) (xs : List Subject) → IsSome (terms_at (table_of es t) xs) → IsSome (terms_at (index_of t) xs)
entries_known es t [] h = refl
entries_known es t (x ∷ xs) h = let p = listed_known (table_of es t x) (terms_at (table_of es t) xs) h in both (index_of t x) (terms_at (index_of t) xs) (entry_known es t x p.0) (entries_known es t xs p.1)
  where
    both : (o : Option ℕ) (p : Option (List ℕ)) → IsSome o → IsSome p → IsSome (listed o p)
    both (Some i) (Some is) h k = refl
    both (Some i) None h k = k
    both None p h k = h

pub is_not_none : {A : Type 0} (o : Option A) → o ≡ None → IsSome o → ⊥
is_not_none (Some x) e h = cc
is_not_none None e h = cc

-- ---- one fact

equals_reads : (K : KnownItems) (o : Op) (x : Subject) (ts : Option (List Term)) (ms : Option (List Bool)) (st : State) → (equals K o x ts ms st ≡ Stuck → ⊥) → IsSome ts × IsSome ms
equals_reads K o x (Some ts) (Some ms) st h = (refl, refl)
equals_reads K o x (Some ts) None st h = absurd (h refl)
equals_reads K o x None ms st h = absurd (h refl)

passes_reads : (K : KnownItems) (c : Test) (ts : Option (List Term)) (ms ns : Option (List Bool)) (st : State) → (passes K c ts ms ns st ≡ Stuck → ⊥) → IsSome ts × IsSome ms × IsSome ns
passes_reads K c (Some ts) (Some ms) (Some ns) st h = (refl, refl, refl)
passes_reads K c (Some ts) (Some ms) None st h = absurd (h refl)
passes_reads K c (Some ts) None ns st h = absurd (h refl)
passes_reads K c None ms ns st h = absurd (h refl)

behind_reads : (o : Option Term) (k : Kinds) (st : State) → (behind_at o k st ≡ Stuck → ⊥) → IsSome o
behind_reads (Some t) k st h = refl
behind_reads None k st h = absurd (h refl)

pub fact_equals_reads : (K : KnownItems) (w : Fact) (x : Subject) (o : Op) (xs : List Subject) (ps : List Passing) (st : State) → w ≡ fact.Equals x o xs ps → (take K w st ≡ Stuck → ⊥) → IsSome (terms_at st.shapes xs) × IsSome (passed_at st.shapes ps)
fact_equals_reads K w x o xs ps st e h = equals_reads K o x (terms_at st.shapes xs) (passed_at st.shapes ps) st (λ q. h (take_equals K w x o xs ps st e ∙ q))

pub fact_behind_reads : (K : KnownItems) (w : Fact) (n : ℕ) (k : Kinds) (st : State) → w ≡ fact.IntegerBehind n k → (take K w st ≡ Stuck → ⊥) → IsSome (st.shapes (subject.Node n))
fact_behind_reads K w n k st e h = behind_reads (st.shapes (subject.Node n)) k st (λ q. h (take_behind K w n k st e ∙ q))

pub fact_passes_reads : (K : KnownItems) (w : Fact) (c : Test) (xs : List Subject) (ps qs : List Passing) (st : State) → w ≡ fact.Passes c xs ps qs → (take K w st ≡ Stuck → ⊥) → IsSome (terms_at st.shapes xs) × IsSome (passed_at st.shapes ps) × IsSome (passed_at st.shapes qs)
fact_passes_reads K w c xs ps qs st e h = passes_reads K c (terms_at st.shapes xs) (passed_at st.shapes ps) (passed_at st.shapes qs) st (λ q. h (take_passes K w c xs ps qs st e ∙ q))

-- ---- the first of several: what is left lacks nothing, so the first does not

pub first_fact_reads : (K : KnownItems) (w : Fact) (l rest : List Fact) (st : State) (whole : Step) → l ≡ w ∷ rest → take_all K l st ≡ whole → (whole ≡ Stuck → ⊥) → take K w st ≡ Stuck → ⊥
first_fact_reads K w l rest st whole d q h e = h (sym q ∙ ap (λ x. take_all K x st) d ∙ ap (λ r. so r (λ s. take_all K rest s)) e)

pub first_demand_reads : (K : KnownItems) (d : Demand) (l rest : List Demand) (st : State) (whole : Found) → l ≡ d ∷ rest → solve K l st ≡ whole → (whole ≡ Lacking → ⊥) → take_all K d.facts st ≡ Stuck → ⊥
first_demand_reads K d l rest st whole e q h k = h (sym q ∙ ap (λ x. solve K x st) e ∙ ap (λ r. next r d (λ s. solve K rest s)) k)
