-- Two assignments that meet demands in order, and give the same integers where these ask for some, give all that is told the same types: each fact makes
-- the type that it tells of what was told before it. By induction on the demands.
use Rattle.std.proofs.Common.{◌≡◌, ℕ, IsTrue, List, [], ◌∷◌, Option, Some, false, inl, inr, ⊎_elim, refl, sym, ap, ◌∙◌, subst}
use Rattle.rx_typed.specs.Types.{Typ}
use Rattle.rx_typeck_solver.specs.declared.facts.Kinds.{Kinds}
use Rattle.rx_typeck_solver.specs.declared.facts.Subject.{Subject}
use Rattle.rx_typeck_solver.specs.declared.facts.Subject.TheVariants as subject
use Rattle.rx_typeck_solver.specs.declared.facts.Fact.{Fact}
use Rattle.rx_typeck_solver.specs.declared.facts.Fact.TheVariants as fact
use Rattle.rx_typeck_solver.specs.declared.facts.Demand.{Demand}
use Rattle.rx_typeck_solver.specs.Facts.{Assignment, KnownItems, made, passed, types_at, Meets, MeetsAll, MeetsEach}
use Rattle.rx_typeck_solver.specs.Valid.{Told, Tells, TellsAny}
use Rattle.rx_typeck_solver.specs.Ordered.{Knowing, nothing, learns, learns_all, all_known, all_passed, ready, Ready, Ordered}
use Rattle.rx_typeck_solver.proofs.Base.{and_both}
use Rattle.rx_engine_blocks.specs.Renumbering.{Renumbering}
use Rattle.rx_engine_blocks.specs.ByItself.{AgreesThere, TellsOne}
use Rattle.rx_engine_blocks.specs.Gets.{IsFact, this_fact, later_fact, IsAsked, asked_here, asked_later}
use Rattle.rx_engine_blocks.proofs.Told.{Covers, each_covered, each_passing, learns_covers}
use Rattle.rx_engine_blocks.proofs.Same.{its_outline, passed_same, types_same}

module _ (D : KnownItems) (A B : Assignment) where
  abbrev One : Subject → Type 0
  One x = A x ≡ B x

  abbrev Learnt : Knowing → Type 0
  Learnt K = Covers One D A K

  some_one : (t u : Typ) → ◌≡◌ {A = Option Typ} (Some t) (Some u) → t ≡ u
  some_one t u e = cc

  fact_tells : (n : ℕ) (K : Knowing) (f : Fact) → Learnt K → IsTrue (ready n K f) → Meets D A f → Meets D B f → ((m : ℕ) (s : Kinds) → f ≡ fact.Integer m s → One (subject.Node m)) → (x : Subject) → Tells f x → One x
  fact_tells n K (fact.Equals y o xs ps) c h a b i x t =
      let q = (and_both (all_known K xs) (all_passed K ps)).0 h in
      let same = types_same D A B One (λ x e. e) xs (each_covered One D A K c xs q.0) in
      let through = passed_same D A B One (its_outline D A B One (λ x e. e)) ps (each_passing One D A K c ps q.1) in
      let is = some_one (A y) (B y) (sym a ∙ ap (λ ts. made (λ k. k) D.items o ts (passed A ps)) same ∙ ap (made (λ k. k) D.items o (types_at B xs)) through ∙ b) in
      ap A t ∙ is ∙ sym (ap B t)
  fact_tells n K (fact.Integer m s) c h a b i x t = ap A t ∙ i m s refl ∙ sym (ap B t)
  fact_tells n K (fact.IntegerBehind m s) c h a b i x t = absurd t
  fact_tells n K (fact.Passes w xs ps qs) c h a b i x t = absurd t
  fact_tells n K fact.Never c h a b i x t = absurd t

  facts_tell : (n : ℕ) (K : Knowing) (fs : List Fact) → Learnt K → Ready n K fs → MeetsAll D A fs → MeetsAll D B fs → ((m : ℕ) (s : Kinds) → IsFact (fact.Integer m s) fs → One (subject.Node m))
      → ((x : Subject) → TellsAny fs x → One x) × Learnt (learns_all K fs)
  facts_tell n K [] c h a b i = (λ x t. absurd t, c)
  facts_tell n K (f ∷ fs) c h a b i =
      let one = fact_tells n K f c h.0 a.0 b.0 (λ m s e. i m s (subst (λ (g : Fact). IsFact g (f ∷ fs)) e this_fact)) in
      let rest = facts_tell n (learns K f) fs (learns_covers One D A K f c one (a.0, tt)) h.1 a.1 b.1 (λ m s w. i m s (later_fact w)) in
      (λ x t. ⊎_elim (one x) (rest.0 x) t, rest.1)

  demands_tell : (K : Knowing) (ds : List Demand) → Learnt K → Ordered K ds → MeetsEach D A ds → MeetsEach D B ds → ((m : ℕ) (s : Kinds) → IsAsked (fact.Integer m s) ds → One (subject.Node m)) → (x : Subject) → Told ds x → One x
  demands_tell K [] c h a b i x t = absurd t
  demands_tell K (d ∷ ds) c h a b i x t =
      let q = facts_tell d.node K d.facts c h.0 a.0 b.0 (λ m s w. i m s (asked_here w)) in
      ⊎_elim (q.0 x) (demands_tell (learns_all K d.facts) ds q.1 h.1 a.1 b.1 (λ m s w. i m s (asked_later w)) x) t

pub one_type : (D : KnownItems) (ds : List Demand) → Ordered nothing ds → (A B : Assignment) → MeetsEach D A ds → MeetsEach D B ds → ((n : ℕ) (s : Kinds) → IsAsked (fact.Integer n s) ds → A (subject.Node n) ≡ B (subject.Node n))
    → (x : Subject) → Told ds x → A x ≡ B x
one_type D ds o A B a b i = demands_tell D A B nothing ds (λ x h. absurd (unknown h)) o a b i
  where
    unknown : IsTrue false → ⊥
    unknown h = cc

-- what asks for an integer tells it
fact_told : (f : Fact) (fs : List Fact) (x : Subject) → Tells f x → IsFact f fs → TellsAny fs x
fact_told f [] x t w = elim w [ ]
fact_told f (g ∷ fs) x t this_fact = inl t
fact_told f (g ∷ fs) x t (later_fact w) = inr (fact_told f fs x t w)

asked_told : (f : Fact) (ds : List Demand) (x : Subject) → Tells f x → IsAsked f ds → Told ds x
asked_told f [] x t w = elim w [ ]
asked_told f (d ∷ ds) x t (asked_here w) = inl (fact_told f d.facts x t w)
asked_told f (d ∷ ds) x t (asked_later w) = inr (asked_told f ds x t w)

-- so a part whose integers are all the text's tells one type where that has its
pub integers_settle : (r : Renumbering) (E : KnownItems) (V : Assignment) (ds es : List Demand) → Ordered nothing es → MeetsEach E V es
    → ((n : ℕ) (s : Kinds) → IsAsked (fact.Integer n s) es → (m : ℕ) × (r.nodes m ≡ n) × Told ds (subject.Node m)) → (y : Subject) → Told es y → TellsOne r E V ds es y
integers_settle r E V ds es o meets i y t = inr (λ C c agrees. one_type E es o C V c meets (λ n s w. by C agrees n s w (i n s w)) y t)
  where
    by : (C : Assignment) → AgreesThere r V ds es C → (n : ℕ) (s : Kinds) → IsAsked (fact.Integer n s) es → (m : ℕ) × (r.nodes m ≡ n) × Told ds (subject.Node m) → C (subject.Node n) ≡ V (subject.Node n)
    by C agrees n s w k =
        let told : Told es (subject.Node (r.nodes k.0)) = subst (λ (z : ℕ). Told es (subject.Node z)) (sym k.1) (asked_told (fact.Integer n s) es (subject.Node n) refl w) in
        subst (λ (z : ℕ). C (subject.Node z) ≡ V (subject.Node z)) k.1 (agrees (subject.Node k.0) k.2 told)
