-- What the facts of a part are about is told there, where they are in order and some types meet them. So what is copied into another
-- part is about what that part tells.
use Rattle.std.proofs.Common.{◌≡◌, ℕ, Bool, true, false, ◌&&◌, ◌||◌, IsTrue, List, [], ◌∷◌, ◌++◌, map, refl, sym, subst, inl, inr}
use Rattle.rx_typeck_solver.specs.declared.facts.Subject.{Subject}
use Rattle.rx_typeck_solver.specs.declared.facts.Subject.TheVariants as subject
use Rattle.rx_typeck_solver.specs.declared.facts.Passing.{Passing}
use Rattle.rx_typeck_solver.specs.declared.facts.Fact.{Fact}
use Rattle.rx_typeck_solver.specs.declared.facts.Fact.TheVariants as fact
use Rattle.rx_typeck_solver.specs.declared.facts.Demand.{Demand}
use Rattle.rx_typeck_solver.specs.Facts.{Assignment, KnownItems, MeetsAll, MeetsEach}
use Rattle.rx_typeck_solver.specs.Valid.{Told, Tells, TellsAny}
use Rattle.rx_typeck_solver.specs.Ordered.{Knowing, nothing, more, learns, learns_all, all_known, all_passed, ready, Ready, Ordered}
use Rattle.rx_typeck_solver.specs.Solver.{same_subject}
use Rattle.rx_typeck_solver.proofs.Base.{and_both, same_subject_true}
use Rattle.rx_engine_blocks.specs.Renumbering.{Renumbering, subject_at, passing_at, fact_at}
use Rattle.rx_engine_blocks.specs.DemandsLike.{FactsLike}
use Rattle.rx_engine_blocks.specs.DemandsLike.FactLike.{like_fact}
use Rattle.rx_engine_blocks.specs.DemandsLike.FactsLike.{like_no_fact, like_more_facts}
use Rattle.rx_engine_blocks.specs.Parts.{EachOf, EachPassing, About, AllAbout, EachAbout}

-- ---- what facts in order are about

module _ (P : Subject → Type 0) (D : KnownItems) (V : Assignment) where
  abbrev pub Covers : Knowing → Type 0
  Covers K = (x : Subject) → IsTrue (K x) → P x

  pub each_covered : (K : Knowing) → Covers K → (xs : List Subject) → IsTrue (all_known K xs) → EachOf P xs
  each_covered K c [] h = tt
  each_covered K c (x ∷ xs) h = let p = (and_both (K x) (all_known K xs)).0 h in (c x p.0, each_covered K c xs p.1)

  pub each_passing : (K : Knowing) → Covers K → (ps : List Passing) → IsTrue (all_passed K ps) → EachPassing P ps
  each_passing K c [] h = tt
  each_passing K c (p ∷ ps) h = let q = (and_both (K (subject.Node p.node)) (all_passed K ps)).0 h in (c (subject.Node p.node) q.0, each_passing K c ps q.1)

  ready_about : (n : ℕ) (K : Knowing) (f : Fact) → Covers K → ((x : Subject) → Tells f x → P x) → IsTrue (ready n K f) → About P f
  ready_about n K (fact.Equals x o xs ps) c t h = let q = (and_both (all_known K xs) (all_passed K ps)).0 h in (t x refl, each_covered K c xs q.0, each_passing K c ps q.1)
  ready_about n K (fact.Integer m s) c t h = t (subject.Node m) refl
  ready_about n K (fact.IntegerBehind m s) c t h = c (subject.Node m) h
  ready_about n K (fact.Passes w xs ps qs) c t h =
      let q = (and_both (all_known K xs && all_passed K ps) (all_passed K qs)).0 h in
      let k = (and_both (all_known K xs) (all_passed K ps)).0 q.0 in
      (each_covered K c xs k.0, each_passing K c ps k.1, each_passing K c qs q.1)
  ready_about n K fact.Never c t h = tt

  more_covers : (K : Knowing) (x : Subject) → Covers K → P x → Covers (more x K)
  more_covers K x c p z h = go (same_subject z x) refl h
    where
      go : (b : Bool) → same_subject z x ≡ b → IsTrue (b || K z) → P z
      go true e k = subst P (sym (same_subject_true z x e)) p
      go false e k = c z k

  pub learns_covers : (K : Knowing) (f : Fact) → Covers K → ((x : Subject) → Tells f x → P x) → MeetsAll D V (f ∷ []) → Covers (learns K f)
  learns_covers K (fact.Equals x o xs ps) c t m = more_covers K x c (t x refl)
  learns_covers K (fact.Integer n s) c t m = more_covers K (subject.Node n) c (t (subject.Node n) refl)
  learns_covers K (fact.IntegerBehind n s) c t m = c
  learns_covers K (fact.Passes w xs ps qs) c t m = c
  learns_covers K fact.Never c t m = absurd m.0

  all_about : (n : ℕ) (K : Knowing) (fs : List Fact) → Covers K → ((x : Subject) → TellsAny fs x → P x) → Ready n K fs → MeetsAll D V fs → AllAbout P fs × Covers (learns_all K fs)
  all_about n K [] c t h m = (tt, c)
  all_about n K (f ∷ fs) c t h m =
      let q = all_about n (learns K f) fs (learns_covers K f c (λ x w. t x (inl w)) (m.0, tt)) (λ x w. t x (inr w)) h.1 m.1 in
      ((ready_about n K f c (λ x w. t x (inl w)) h.0, q.0), q.1)

  each_about : (K : Knowing) (ds : List Demand) → Covers K → ((x : Subject) → Told ds x → P x) → Ordered K ds → MeetsEach D V ds → EachAbout P ds
  each_about K [] c t h m = tt
  each_about K (d ∷ ds) c t h m =
      let q = all_about d.node K d.facts c (λ x w. t x (inl w)) h.0 m.0 in
      (q.0, each_about (learns_all K d.facts) ds q.1 (λ x w. t x (inr w)) h.1 m.1)

-- the facts of demands in order are about what these tell
pub about_told : (D : KnownItems) (V : Assignment) (ds : List Demand) → Ordered nothing ds → MeetsEach D V ds → EachAbout (Told ds) ds
about_told D V ds o m = each_about (Told ds) D V nothing ds (λ x h. absurd (unknown h)) (λ x t. t) o m
  where
    unknown : IsTrue false → ⊥
    unknown h = cc

-- ---- of demands one behind another

module _ (P : Subject → Type 0) where
  pub about_left : (xs ys : List Demand) → EachAbout P (xs ++ ys) → EachAbout P xs
  about_left [] ys h = tt
  about_left (x ∷ xs) ys h = (h.0, about_left xs ys h.1)

  pub about_right : (xs ys : List Demand) → EachAbout P (xs ++ ys) → EachAbout P ys
  about_right [] ys h = h
  about_right (x ∷ xs) ys h = about_right xs ys h.1

  pub about_both : (xs ys : List Demand) → EachAbout P xs → EachAbout P ys → EachAbout P (xs ++ ys)
  about_both [] ys h k = k
  about_both (x ∷ xs) ys h k = (h.0, about_both xs ys h.1 k)

-- ---- what is copied

module _ (r : Renumbering) (P Q : Subject → Type 0) (so : (x : Subject) → P (subject_at r x) → Q x) where
  pub each_copied : (xs : List Subject) → EachOf P (map (subject_at r) xs) → EachOf Q xs
  each_copied [] h = tt
  each_copied (x ∷ xs) h = (so x h.0, each_copied xs h.1)

  pub passings_copied : (ps : List Passing) → EachPassing P (map (passing_at r) ps) → EachPassing Q ps
  passings_copied [] h = tt
  passings_copied (p ∷ ps) h = (so (subject.Node p.node) h.0, passings_copied ps h.1)

  pub fact_copied : (f : Fact) → About P (fact_at r f) → About Q f
  fact_copied (fact.Equals x o xs ps) h = (so x h.0, each_copied xs h.1, passings_copied ps h.2)
  fact_copied (fact.Integer n s) h = so (subject.Node n) h
  fact_copied (fact.IntegerBehind n s) h = so (subject.Node n) h
  fact_copied (fact.Passes w xs ps qs) h = (each_copied xs h.0, passings_copied ps h.1, passings_copied qs h.2)
  fact_copied fact.Never h = tt

  pub facts_copied : {fs fs' : List Fact} → FactsLike r fs fs' → AllAbout P fs' → AllAbout Q fs
  facts_copied like_no_fact h = tt
  facts_copied (like_more_facts (like_fact {f = f}) l) h = (fact_copied f h.0, facts_copied l h.1)
