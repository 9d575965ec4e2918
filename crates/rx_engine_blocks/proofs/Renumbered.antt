-- Demands by other numbers have the valid assignment by these numbers.
use Rattle.std.proofs.Common.{◌≡◌, ℕ, List, [], ◌∷◌, Option, Some, None, refl, sym, ap, ◌∙◌, subst, inl, inr, ⊎_elim}
use Rattle.rx_core.specs.declared.types.Kind.{Kind}
use Rattle.rx_typed.specs.Types.{integer, Typ, unit_shape, outline, peeled}
use Rattle.rx_typeck_solver.specs.declared.facts.Subject.{Subject}
use Rattle.rx_typeck_solver.specs.declared.facts.Subject.TheVariants as subject
use Rattle.rx_typeck_solver.specs.declared.facts.Fact.{Fact}
use Rattle.rx_typeck_solver.specs.declared.facts.Fact.TheVariants as fact
use Rattle.rx_typeck_solver.specs.declared.facts.Demand.{Demand}
use Rattle.rx_typeck_solver.specs.Facts.{Assignment, KnownItems}
use Rattle.rx_typeck_solver.specs.Valid.{Task, Told, Tells, TellsAny, IsIn, Typed, Valid, literals_of}
use Rattle.rx_typeck_solver.specs.Solver.{Term, State, empty, filled_or, chosen, Found_all, solve}
use Rattle.rx_typeck_solver.specs.Ordered.{Orderly}
use Rattle.rx_typeck_solver.proofs.Natural.{outline_map}
use Rattle.rx_typeck_solver.proofs.Base.{kind_at, leaf_kind, Good, Stands}
use Rattle.rx_typeck_solver.proofs.Final.{told_known}
use Rattle.rx_engine_blocks.specs.Carried.{Carried, Whole}
use Rattle.rx_engine_blocks.specs.Renumbering.{Renumbering, fact_at, shape_at, subject_at}
use Rattle.rx_engine_blocks.specs.DemandsLike.{Is, FactsLike, DemandsLike, NoSpecial}
use Rattle.rx_engine_blocks.specs.Knows.{Knows}
use Rattle.rx_engine_blocks.specs.Along.{Inverse, unsubject, Along, renumbered_types}
use Rattle.rx_engine_blocks.specs.DemandsLike.Is.{itself}
use Rattle.rx_engine_blocks.specs.DemandsLike.FactLike.{like_fact}
use Rattle.rx_engine_blocks.specs.DemandsLike.FactsLike.{like_no_fact, like_more_facts}
use Rattle.rx_engine_blocks.specs.DemandsLike.DemandsLike.{like_no_demand, like_more_demands, like_other_demands}
use Rattle.rx_engine_blocks.specs.Blocks.{task_of}
use Rattle.rx_engine_blocks.proofs.Split.{told_split, told_left, told_right, literal_split, literal_left, literal_right, literal_one, one_literal}
use Rattle.rx_engine_blocks.proofs.Normal.{normal_stands, normal_same, redone_from, redo}
use Rattle.rx_engine_blocks.proofs.Combining.{asks_met, finds, adds, stands_typed, typed_stands}
use Rattle.rx_engine_blocks.proofs.Carrying.{whole_valid}
use Rattle.rx_engine_blocks.proofs.Meets.{peeled_at, undo, shape_apart, each_there, each_back}

module _ (r : Renumbering) where
  tells_from : (f : Fact) (x : Subject) → Tells (fact_at r f) x → (y : Subject) × Tells f y × (subject_at r y ≡ x)
  tells_from (fact.Equals y o xs ps) x e = (y, refl, sym e)
  tells_from (fact.Integer n s) x e = (subject.Node n, refl, sym e)
  tells_from (fact.IntegerBehind n s) x e = absurd e
  tells_from (fact.Passes t xs ps qs) x e = absurd e
  tells_from fact.Never x e = absurd e

  any_from : {fs fs' : List Fact} (x : Subject) → FactsLike r fs fs' → TellsAny fs' x → (y : Subject) × TellsAny fs y × (subject_at r y ≡ x)
  any_from x like_no_fact t = absurd t
  any_from x (like_more_facts (like_fact {f = f}) l) (inl t) = let p = tells_from f x t in (p.0, inl p.1, p.2)
  any_from x (like_more_facts (like_fact {f = f}) l) (inr t) = let p = any_from x l t in (p.0, inr p.1, p.2)

  told_from : {ds ds' : List Demand} (x : Subject) → DemandsLike r NoSpecial ds ds' → Told ds' x → (y : Subject) × Told ds y × (subject_at r y ≡ x)
  told_from x like_no_demand t = absurd t
  told_from x (like_other_demands es es' l z) t = absurd z
  told_from x (like_more_demands {ds = ds} {ds' = ds'} {d = d} {d' = d'} l e) t = ⊎_elim
      (λ h. let p = told_from x l h in (p.0, told_left ds (d ∷ []) p.0 p.1, p.2))
      (λ h. ⊎_elim (λ w. let p = any_from x e.facts w in (p.0, told_right ds (d ∷ []) p.0 (inl p.1), p.2)) (λ w. absurd w) h)
      (told_split ds' (d' ∷ []) x t)

  is_so : {A : Type 0} {a b : A} → Is a b → a ≡ b
  is_so itself = refl

  literal_from : {ds ds' : List Demand} (n : ℕ) → DemandsLike r NoSpecial ds ds' → IsIn n (literals_of ds') → (m : ℕ) × IsIn m (literals_of ds) × (r.nodes m ≡ n)
  literal_from n like_no_demand i = absurd i
  literal_from n (like_other_demands es es' l z) i = absurd z
  literal_from n (like_more_demands {ds = ds} {ds' = ds'} {d = d} {d' = d'} l e) i = ⊎_elim
      (λ h. let p = literal_from n l h in (p.0, literal_left ds (d ∷ []) p.0 p.1, p.2))
      (λ h. let w = literal_one d' n h in (d.node, literal_right ds (d ∷ []) d.node (one_literal d d.node (is_so e.unsuffixed ∙ w.0) refl), is_so e.node ∙ sym w.1))
      (literal_split ds' (d' ∷ []) n i)

  literal_there : {ds ds' : List Demand} (m : ℕ) → DemandsLike r NoSpecial ds ds' → IsIn m (literals_of ds) → IsIn (r.nodes m) (literals_of ds')
  literal_there m like_no_demand i = absurd i
  literal_there m (like_other_demands es es' l z) i = absurd z
  literal_there m (like_more_demands {ds = ds} {ds' = ds'} {d = d} {d' = d'} l e) i = ⊎_elim
      (λ h. literal_left ds' (d' ∷ []) (r.nodes m) (literal_there m l h))
      (λ h. let w = literal_one d m h in literal_right ds' (d' ∷ []) (r.nodes m) (one_literal d' (r.nodes m) (sym (is_so e.unsuffixed) ∙ w.0) (ap r.nodes w.1 ∙ is_so e.node)))
      (literal_split ds (d ∷ []) m i)

module _ (r : Renumbering) (K K' : KnownItems) (k : Knows r K K') where
  module _ (i : Inverse r) (ds ds' : List Demand) (l : DemandsLike r NoSpecial ds ds') (A : Assignment) where
    abbrev task : Task
    task = task_of ds

    abbrev part : Task
    part = task_of ds'

    abbrev A' : Assignment
    A' = renumbered_types r i A

    unsubjected : (x : Subject) → unsubject r i (subject_at r x) ≡ x
    unsubjected (subject.Variable x) = ap subject.Variable (i.unvaried x)
    unsubjected (subject.Node n) = ap subject.Node (i.unnoded n)
    unsubjected (subject.Expected n) = ap subject.Expected (i.unnoded n)

    along : Along r A A'
    along x = ap (λ y. shape_at r (A y)) (unsubjected x)

    module _ (o : Orderly part) (v : Valid K task A) (st : State) (end : solve K' ds' empty ≡ Found_all st) where
      typed : Typed K' part A'
      typed = each_there r K K' k A A' along l v.prefers.typed

      good : Good st
      good = (adds K' part o st end).good

      stands : (B : Assignment) → Typed K' part B → Stands B st
      stands B t = typed_stands K' part o st end B t

      abbrev back : Assignment → Assignment
      back B x = shape_at (undo r K K' k) (chosen st (kind_at B) (subject_at r x))

      back_along : (B : Assignment) → Typed K' part B → Along r (back B) (chosen st (kind_at B))
      back_along B t x = go (st.shapes (subject_at r x)) refl
        where
          y : Subject
          y = subject_at r x

          go : (p : Option Term) → st.shapes y ≡ p → chosen st (kind_at B) y ≡ redo r K K' k (chosen st (kind_at B) y)
          go None e = let u : chosen st (kind_at B) y ≡ unit_shape = ap (filled_or (λ c. kind_at B (st.rep c))) e in u ∙ ap (redo r K K' k) (sym u)
          go (Some s) e = sym (redone_from r K K' k (chosen st (kind_at B) y) (A x)
              (ap outline ((normal_stands st good B (stands B t)).shapes y s e) ∙ outline_map (leaf_kind (chosen st (kind_at B))) s
              ∙ sym (ap outline ((stands A' typed).shapes y s e) ∙ outline_map (leaf_kind A') s) ∙ ap outline (along x)))

      back_typed : (B : Assignment) → Typed K' part B → Typed K task (back B)
      back_typed B t = each_back r K K' k (back B) (chosen st (kind_at B)) (back_along B t) l (stands_typed K' part o st end (chosen st (kind_at B)) (normal_stands st good B (stands B t)))

      -- what is told is found
      found : (B : Assignment) → Typed K' part B → (x : Subject) → Told ds' x → chosen st (kind_at B) x ≡ B x
      found B t x h = let p = told_known K' part st o end x h in normal_same st good B (stands B t) x p.0 p.1

      its_kind : (t : Typ) (l : Kind) → shape_at r t ≡ integer l → t ≡ integer l
      its_kind t l e = shape_apart r K K' k t (integer l) e

      same_kind : (C C' : Assignment) (m : ℕ) (l : Kind) → Along r C C' → peeled (C' (subject.Node (r.nodes m))) ≡ integer l → peeled (C (subject.Node m)) ≡ peeled (C' (subject.Node (r.nodes m)))
      same_kind C C' m l a e = its_kind (peeled (C (subject.Node m))) l (sym (peeled_at r (C (subject.Node m))) ∙ ap peeled (sym (a (subject.Node m))) ∙ e) ∙ sym e

      -- a literal has its kind there and back
      literal_here : (m : ℕ) → IsIn (r.nodes m) (literals_of ds') → peeled (A (subject.Node m)) ≡ peeled (A' (subject.Node (r.nodes m)))
      literal_here m h = let p = asks_met K' A' (r.nodes m) ds' (o.literals (r.nodes m) h) typed in same_kind A A' m p.0 along p.1

      abbrev LiteralTold : ℕ → Type 0
      LiteralTold n = Told ds' (subject.Node n)

      literal_back : (m : ℕ) → IsIn (r.nodes m) (literals_of ds') → (B : Assignment) → Typed K' part B → peeled (back B (subject.Node m)) ≡ peeled (B (subject.Node (r.nodes m)))
      literal_back m h B t =
          let N = chosen st (kind_at B) in
          let tn = stands_typed K' part o st end N (normal_stands st good B (stands B t)) in
          let p = asks_met K' N (r.nodes m) ds' (o.literals (r.nodes m) h) tn in
          same_kind (back B) N m p.0 (back_along B t) p.1 ∙ ap peeled (shaped (st.shapes (subject.Node (r.nodes m))) refl p)
        where
          shaped : (q : Option Term) → st.shapes (subject.Node (r.nodes m)) ≡ q → ((l : Kind) × (peeled (chosen st (kind_at B) (subject.Node (r.nodes m))) ≡ integer l)) → chosen st (kind_at B) (subject.Node (r.nodes m)) ≡ B (subject.Node (r.nodes m))
          shaped None e p = let u : peeled (chosen st (kind_at B) (subject.Node (r.nodes m))) ≡ unit_shape = ap (λ q. peeled (filled_or (λ c. kind_at B (st.rep c)) q)) e in let w : unit_shape ≡ integer p.0 = sym u ∙ p.1 in absurd (cc)
          shaped (Some s) e p = normal_same st good B (stands B t) (subject.Node (r.nodes m)) s e

      carried : Carried K K' task part A A'
      carried = record {
        typed = typed;
        back = λ B _ _. back B;
        back_typed = λ B t _. back_typed B t;
        literal = λ n h. let p = literal_from r n l h in (
          p.0,
          p.1,
          (
            subst (λ j. peeled (A (subject.Node p.0)) ≡ peeled (A' (subject.Node j))) p.2 (literal_here p.0 (literal_there r p.0 l p.1)),
            λ B t _. subst (λ j. peeled (back B (subject.Node p.0)) ≡ peeled (B (subject.Node j))) p.2 (literal_back p.0 (literal_there r p.0 l p.1) B t),
          ),
        );
      }

      whole : Whole K K' task part A A' carried
      unfolding carried
      whole = record {
        other = λ m h. let j = literal_there r m l h in inl (r.nodes m, j, (literal_here m j, λ B t _. literal_back m j B t));
        agree = λ B t _ a x h. let p = told_from r x l h in
            subst (λ y. A' y ≡ B y) p.2 (along p.0 ∙ ap (shape_at r) (a p.0 p.1) ∙ sym (back_along B t p.0) ∙ found B t (subject_at r p.0) (subst (λ y. Told ds' y) (sym p.2) h));
      }

    pub renumbered_valid : Orderly part → Valid K task A → Valid K' part A'
    renumbered_valid o v = finds K' part o A' (each_there r K K' k A A' along l v.prefers.typed)
        (λ st e. whole_valid K K' task part A A' o v (carried o v st e) (whole o v st e))
