-- Each assignment of a part of the answer is tied to one of the text, so a part that stands for the text block by block has the
-- valid assignment, where it is accepted, or where what is new in it has one type.
use Rattle.std.proofs.Common.{◌≡◌, ℕ, Bool, IsTrue, List, Option, Some, None, inl, inr, ◌⊎◌, refl, sym, ap, ◌∙◌, subst}
use Rattle.rx_core.specs.declared.types.Kind.{Kind}
use Rattle.rx_typed.specs.Types.{Shapes, integer, boolean, tuple_of, reference, named, no_shape, shape_and, Typ, unit_shape, outline, shapes_map, peeled}
use Rattle.rx_typeck_solver.specs.declared.facts.Subject.{Subject}
use Rattle.rx_typeck_solver.specs.declared.facts.Subject.TheVariants as subject
use Rattle.rx_typeck_solver.specs.declared.facts.Demand.{Demand}
use Rattle.rx_typeck_solver.specs.Facts.{Assignment, KnownItems, has}
use Rattle.rx_typeck_solver.specs.Valid.{Agree, Task, Told, IsIn, Typed, Valid, literals_of}
use Rattle.rx_typeck_solver.specs.Solver.{Leaf, Fixed, KindOf, Term, State, Root, empty, filled_or, Found_all, solve}
use Rattle.rx_typeck_solver.specs.Ordered.{Orderly}
use Rattle.rx_typeck_solver.proofs.Natural.{outline_map}
use Rattle.rx_typeck_solver.proofs.Base.{kind_of, kind_at, leaf_kind, filled, Rooted, RootedEach, Good, Stands}
use Rattle.rx_typeck_solver.proofs.Final.{told_known, known_told}
use Rattle.rx_engine_blocks.specs.Carried.{Near, Paired, Carried, Accepted}
use Rattle.rx_engine_blocks.specs.Renumbering.{Renumbering, shape_at, subject_at}
use Rattle.rx_engine_blocks.specs.Knows.{Knows}
use Rattle.rx_engine_blocks.specs.Along.{PartialInverse, Viewed, Sees, MutableAt, shared, composed}
use Rattle.rx_engine_blocks.specs.ByItself.{AgreesThere, LiteralStands, TellsOne, ByItself}
use Rattle.rx_engine_blocks.specs.Blocks.{Behind, Refers, Tied, Block, Fixes, AllReferences, NearIn, task_of}
use Rattle.rx_engine_blocks.proofs.Meets.{peeled_at, shape_apart}
use Rattle.rx_engine_blocks.proofs.Combining.{asks_met, finds, adds, stands_typed, typed_stands}
use Rattle.rx_engine_blocks.proofs.Normal.{normal, normal_stands, normal_same}
use Rattle.rx_engine_blocks.proofs.Outlines.{composed_sees, composed_new, tests_met}
use Rattle.rx_engine_blocks.proofs.Viewing.{led_to, reference_so, peeled_shared, text_of, seen_again, seen_outline, seen_mutable, seen_settled}
use Rattle.rx_engine_blocks.proofs.Carrying.{accepted_valid, whole_valid}

-- ---- assignments that are the same at the roots

module _ (st : State) (P Q : Assignment) (h : (u : ℕ) → Root st.shapes u → kind_at P u ≡ kind_at Q u) where
  mutual
    filled_alike : (t : Term) → Rooted st.shapes t → filled P t ≡ filled Q t
    filled_alike (integer (Fixed k)) r = refl
    filled_alike (integer (KindOf u)) r = ap integer (h u r)
    filled_alike boolean r = refl
    filled_alike (tuple_of ts) r = ap tuple_of (all_alike ts r)
    filled_alike (reference m t) r = ap (reference m) (filled_alike t r)
    filled_alike (named i) r = refl

    all_alike : (ts : Shapes Leaf) → RootedEach st.shapes ts → shapes_map (leaf_kind P) ts ≡ shapes_map (leaf_kind Q) ts
    all_alike no_shape r = refl
    all_alike (shape_and t ts) r = ap (λ u. shape_and u (shapes_map (leaf_kind P) ts)) (filled_alike t r.0) ∙ ap (shape_and (filled Q t)) (all_alike ts r.1)

-- the first where there is no shape
abbrev patch : Option Term → Typ → Typ → Typ
patch None a b = a
patch (Some t) a b = b

module _ (r : Renumbering) (u : PartialInverse r) (view : Viewed) (behind : Behind) (IsFixed : Subject → Type 0) (D D' : KnownItems) (known : Knows r D D') (A V : Assignment) (ds ds' : List Demand) (references : AllReferences r u view behind D' A ds') (views : MutableAt view A) where
  abbrev A' : Assignment
  A' = composed r u view A V

  sees : Sees r view A A'
  sees = composed_sees r u view A V

  -- a variable behind a reference is as it is
  plainly : (x y : ℕ) → behind x ≡ Some y → A' (subject.Variable (r.variables x)) ≡ shape_at r (A (subject.Variable x))
  plainly x y e = sees (subject.Variable x) ∙ ap (λ b. shared b (shape_at r (A (subject.Variable x)))) (references x y e).as_it_is

  -- by the number of a variable of the text
  abbrev led_by : Option ℕ → Option ℕ
  led_by None = None
  led_by (Some x) = behind x

  new_variable : (y : ℕ) → u.variable y ≡ None → A' (subject.Variable y) ≡ V (subject.Variable y)
  new_variable y e = composed_new r u view A V (subject.Variable y) (ap (λ o. at o) e)
    where
      at : Option ℕ → Option Subject
      at None = None
      at (Some x) = Some (subject.Variable x)

  abbrev part : Task
  part = task_of ds'

  module _ (o : Orderly part) (own : Typed D' part V) (met : Typed D' part A') (fixes : Fixes r view IsFixed D' A ds') (st : State) (end : solve D' ds' empty ≡ Found_all st) where
    good : Good st
    good = (adds D' part o st end).good

    stands : (C : Assignment) → Typed D' part C → Stands C st
    stands C t = typed_stands D' part o st end C t

    -- what is told has a shape, and what is hidden has none
    unshaped : (x y : ℕ) → behind x ≡ Some y → st.shapes (subject.Variable (r.variables x)) ≡ None
    unshaped x y b = go (st.shapes (subject.Variable (r.variables x))) refl
      where
        go : (p : Option Term) → st.shapes (subject.Variable (r.variables x)) ≡ p → p ≡ None
        go None e = refl
        go (Some s) e = absurd ((references x y b).hidden (known_told D' part st o end (subject.Variable (r.variables x)) (s, e)))

    module _ (C : Assignment) (t : Typed D' part C) (near : NearIn r A ds' C) where
      abbrev N0 : Assignment
      N0 = normal st good C (stands C t)

      s0 : Stands N0 st
      s0 = normal_stands st good C (stands C t)

      -- what is not told has the type of the valid assignment, but for what stands behind a reference
      abbrev held : ℕ → Option ℕ → Typ
      held x None = A' (subject.Variable x)
      held x (Some y) = led_to (N0 (subject.Variable y))

      abbrev else : Subject → Typ
      else (subject.Variable x) = held x (led_by (u.variable x))
      else (subject.Node n) = A' (subject.Node n)
      else (subject.Expected n) = A' (subject.Expected n)

      abbrev N : Assignment
      N y = patch (st.shapes y) (else y) (N0 y)

      patched : (y : Subject) (u : Term) → st.shapes y ≡ Some u → N y ≡ N0 y
      patched y u e = ap (λ p. patch p (else y) (N0 y)) e

      unpatched : (y : Subject) → st.shapes y ≡ None → N y ≡ else y
      unpatched y e = ap (λ p. patch p (else y) (N0 y)) e

      kinds : (u : ℕ) → Root st.shapes u → kind_at N u ≡ kind_at N0 u
      kinds u ru = ap kind_of (patched (subject.Node u) _ ru)

      sN : Stands N st
      sN = record {
        shapes = λ y u e. patched y u e ∙ s0.shapes y u e ∙ sym (filled_alike st N N0 kinds u (good.rooted y u e));
        within = λ u ru. subst (λ k. IsTrue (has (st.set (st.rep u)) k)) (sym (kinds u ru)) (s0.within u ru);
        alike = λ u ru. kinds u ru ∙ s0.alike u ru ∙ sym (kinds (st.rep u) (good.rep_root u ru));
      }

      -- ---- outlines are those of the valid assignment

      outlined_told : (y : Subject) (u : Term) → st.shapes y ≡ Some u → outline (N y) ≡ outline (A' y)
      outlined_told y u e = ap outline (sN.shapes y u e) ∙ outline_map (leaf_kind N) u ∙ sym (ap outline ((stands A' met).shapes y u e) ∙ outline_map (leaf_kind A') u)

      -- a variable that is a reference, and what it leads to
      abbrev Led : ℕ → ℕ → Type 0
      Led x y = (m : Bool) × (N (subject.Variable y) ≡ reference m (led_to (N0 (subject.Variable y)))) × (outline (led_to (N0 (subject.Variable y))) ≡ outline (A' (subject.Variable (r.variables x))))

      refers : (x y : ℕ) → behind x ≡ Some y → (m : Bool) × (A' (subject.Variable y) ≡ reference m (A' (subject.Variable (r.variables x))))
      refers x y b = let R = references x y b in (R.mutable, new_variable y R.new ∙ R.leads V own ∙ ap (reference R.mutable) (sym (plainly x y b)))

      led : (x y : ℕ) → behind x ≡ Some y → Led x y
      led x y b =
          let p = told_known D' part st o end (subject.Variable y) (references x y b).told in
          let q = refers x y b in
          let i : N (subject.Variable y) ≡ N0 (subject.Variable y) = patched (subject.Variable y) p.0 p.1 in
          let w = reference_so (N0 (subject.Variable y)) (A' (subject.Variable (r.variables x))) q.0 (ap outline (sym i) ∙ outlined_told (subject.Variable y) p.0 p.1 ∙ ap outline q.1) in
          (q.0, i ∙ w.0, w.1)

      outlined_else : (y : Subject) → outline (else y) ≡ outline (A' y)
      outlined_else (subject.Variable v) = go (u.variable v) refl
        where
          behind_it : (x : ℕ) → v ≡ r.variables x → (b : Option ℕ) → behind x ≡ b → outline (held v b) ≡ outline (A' (subject.Variable v))
          behind_it x e None f = refl
          behind_it x e (Some y) f = (led x y f).2 ∙ ap (λ n. outline (A' (subject.Variable n))) (sym e)

          go : (b : Option ℕ) → u.variable v ≡ b → outline (held v (led_by b)) ≡ outline (A' (subject.Variable v))
          go None e = refl
          go (Some x) e = behind_it x (u.variable_back v x e) (behind x) refl
      outlined_else (subject.Node n) = refl
      outlined_else (subject.Expected n) = refl

      outlined : (y : Subject) → outline (N y) ≡ outline (A' y)
      outlined y = go (st.shapes y) refl
        where
          go : (p : Option Term) → st.shapes y ≡ p → outline (N y) ≡ outline (A' y)
          go None e = ap outline (unpatched y e) ∙ outlined_else y
          go (Some u) e = outlined_told y u e

      held_there : (x y : ℕ) → behind x ≡ Some y → else (subject.Variable (r.variables x)) ≡ led_to (N0 (subject.Variable y))
      held_there x y b = ap (λ o. held (r.variables x) (led_by o)) (u.variable_there x) ∙ ap (held (r.variables x)) b

      refersN : Refers r behind N
      refersN x y b = let l = led x y b in (l.0, l.1 ∙ ap (reference l.0) (sym (unpatched (subject.Variable (r.variables x)) (unshaped x y b) ∙ held_there x y b)))

      -- ---- the assignment of the text

      abbrev B : Assignment
      B x = text_of r D D' known (view x) (N (subject_at r x))

      outline_there : (x : Subject) → outline (N (subject_at r x)) ≡ outline (shared (view x) (shape_at r (A x)))
      outline_there x = outlined (subject_at r x) ∙ ap outline (sees x)

      seesB : Sees r view B N
      seesB x = seen_again r D D' known (view x) (N (subject_at r x)) (A x) (views x) (outline_there x)

      mutableB : MutableAt view B
      mutableB x e = seen_mutable r D D' known (view x) (N (subject_at r x)) (A x) (views x) (outline_there x) e

      outlinesB : (x : Subject) → outline (A x) ≡ outline (B x)
      outlinesB x = seen_outline r D D' known (view x) (N (subject_at r x)) (A x) (views x) (outline_there x)

      -- ---- what is fixed

      outlinedC : (x : Subject) → Told ds' (subject_at r x) → outline (C (subject_at r x)) ≡ outline (shared (view x) (shape_at r (A x)))
      outlinedC x h =
          let p = told_known D' part st o end (subject_at r x) h in
          ap outline ((stands C t).shapes (subject_at r x) p.0 p.1) ∙ outline_map (leaf_kind C) p.0
          ∙ sym (ap outline ((stands A' met).shapes (subject_at r x) p.0 p.1) ∙ outline_map (leaf_kind A') p.0) ∙ ap outline (sees x)

      told_same : (y : Subject) (u : Term) → st.shapes y ≡ Some u → N y ≡ C y
      told_same y u e = patched y u e ∙ normal_same st good C (stands C t) y u e

      else_same : (y : Subject) → else y ≡ A' y
      else_same (subject.Variable v) = go (u.variable v) refl
        where
          behind_it : (x : ℕ) → v ≡ r.variables x → (b : Option ℕ) → behind x ≡ b → held v b ≡ A' (subject.Variable v)
          behind_it x e None f = refl
          behind_it x e (Some y) f =
              let R = references x y f in
              let p = told_known D' part st o end (subject.Variable y) R.told in
              ap led_to (normal_same st good C (stands C t) (subject.Variable y) p.0 p.1 ∙ R.leads C t) ∙ sym (plainly x y f) ∙ ap (λ n. A' (subject.Variable n)) (sym e)

          go : (b : Option ℕ) → u.variable v ≡ b → held v (led_by b) ≡ A' (subject.Variable v)
          go None e = refl
          go (Some x) e = behind_it x (u.variable_back v x e) (behind x) refl
      else_same (subject.Node n) = refl
      else_same (subject.Expected n) = refl

      fixed_is : (x : Subject) → IsFixed x → N (subject_at r x) ≡ A' (subject_at r x)
      fixed_is x h = go (st.shapes (subject_at r x)) refl
        where
          go : (p : Option Term) → st.shapes (subject_at r x) ≡ p → N (subject_at r x) ≡ A' (subject_at r x)
          go None e = unpatched (subject_at r x) e ∙ else_same (subject_at r x)
          go (Some u) e = told_same (subject_at r x) u e ∙ fixes C t near outlinedC x h (known_told D' part st o end (subject_at r x) (u, e)) ∙ sym (sees x)

      settledB : (x : Subject) → IsFixed x → A x ≡ B x
      settledB x h = sym (ap (text_of r D D' known (view x)) (fixed_is x h ∙ sees x) ∙ seen_settled r D D' known (view x) (A x) (views x))

      tied : Tied r view behind IsFixed A B N
      tied = record { sees = seesB; mutable = mutableB; refers = refersN; outlines = outlinesB; settled = settledB }

      typedN : Typed D' part N
      typedN = stands_typed D' part o st end N sN

      literal_is : (n : ℕ) → IsIn n (literals_of ds') → peeled (N (subject.Node n)) ≡ peeled (C (subject.Node n))
      literal_is n i = go (st.shapes (subject.Node n)) refl (asks_met D' N0 n ds' (o.literals n i) (stands_typed D' part o st end N0 s0))
        where
          go : (p : Option Term) → st.shapes (subject.Node n) ≡ p → ((l : Kind) × (peeled (N0 (subject.Node n)) ≡ integer l)) → peeled (N (subject.Node n)) ≡ peeled (C (subject.Node n))
          go None e q = let u : peeled (N0 (subject.Node n)) ≡ unit_shape = ap (λ p. peeled (filled_or (λ c. kind_at C (st.rep c)) p)) e in let w : unit_shape ≡ integer q.0 = sym u ∙ q.1 in absurd (cc)
          go (Some u) e q = ap peeled (told_same (subject.Node n) u e)

    -- ---- the part

    -- an integer has its kind in both
    same_kind : (P Q : Assignment) (m : ℕ) (l : Kind) → Sees r view P Q → peeled (Q (subject.Node (r.nodes m))) ≡ integer l → peeled (P (subject.Node m)) ≡ peeled (Q (subject.Node (r.nodes m)))
    same_kind P Q m l a e = shape_apart r D D' known (peeled (P (subject.Node m))) (integer l) (sym (peeled_at r (P (subject.Node m))) ∙ sym (peeled_shared (view (subject.Node m)) (shape_at r (P (subject.Node m)))) ∙ ap peeled (sym (a (subject.Node m))) ∙ e) ∙ sym e

    kind_of_literal : (P Q : Assignment) (m n : ℕ) → r.nodes m ≡ n → Sees r view P Q → ((l : Kind) × (peeled (Q (subject.Node n)) ≡ integer l)) → peeled (P (subject.Node m)) ≡ peeled (Q (subject.Node n))
    kind_of_literal P Q m n e a q = same_kind P Q m q.0 a (ap (λ j. peeled (Q (subject.Node j))) e ∙ q.1) ∙ ap (λ j. peeled (Q (subject.Node j))) e

    near_in : (C : Assignment) → Near D D' (task_of ds) part A A' C → NearIn r A ds' C
    near_in C e m i k = e (r.nodes m) i (ap peeled (sees (subject.Node m)) ∙ peeled_shared (view (subject.Node m)) (shape_at r (A (subject.Node m))) ∙ peeled_at r (A (subject.Node m)) ∙ ap (shape_at r) k)

    module _ (b : Block r u view behind IsFixed D D' A V ds ds') (v : Valid D (task_of ds) A) where
      carried : Carried D D' (task_of ds) part A A'
      carried = record {
        typed = met;
        back = λ C t e. B C t (near_in C e);
        back_typed = λ C t e. let h = near_in C e in b.back (B C t h) (N C t h) (tied C t h) v.prefers.typed (typedN C t h);
        literal = λ n i. let l = b.literal n i in (
          l.0,
          l.1,
          (
            kind_of_literal A A' l.0 n l.2 sees (asks_met D' A' n ds' (o.literals n i) met),
            λ C t e. let h = near_in C e in kind_of_literal (B C t h) (N C t h) l.0 n l.2 (seesB C t h) (asks_met D' (N C t h) n ds' (o.literals n i) (typedN C t h)) ∙ literal_is C t h n i,
          ),
        );
      }

      -- where nothing says that the part is accepted
      module _ (itself : ByItself r u view IsFixed D' A A' ds ds') where
        paired : (m : ℕ) → IsIn (r.nodes m) (literals_of ds') → Paired D D' (task_of ds) part A A' carried.back m (r.nodes m)
        unfolding carried
        paired m w = (
          kind_of_literal A A' m (r.nodes m) refl sees (asks_met D' A' (r.nodes m) ds' (o.literals (r.nodes m) w) met),
          λ C t e. let h = near_in C e in kind_of_literal (B C t h) (N C t h) m (r.nodes m) refl (seesB C t h) (asks_met D' (N C t h) (r.nodes m) ds' (o.literals (r.nodes m) w) (typedN C t h)) ∙ literal_is C t h (r.nodes m) w,
        )

        -- a node that the part doesn't tell has the text's type
        untold : (m : ℕ) → (Told ds' (subject.Node (r.nodes m)) → ⊥) → (C : Assignment) (t : Typed D' part C) (h : NearIn r A ds' C) → B C t h (subject.Node m) ≡ A (subject.Node m)
        untold m silent C t h = go (st.shapes (subject.Node (r.nodes m))) refl
          where
            go : (p : Option Term) → st.shapes (subject.Node (r.nodes m)) ≡ p → B C t h (subject.Node m) ≡ A (subject.Node m)
            go None e = ap (text_of r D D' known (view (subject.Node m))) (unpatched C t h (subject.Node (r.nodes m)) e ∙ sees (subject.Node m)) ∙ seen_settled r D D' known (view (subject.Node m)) (A (subject.Node m)) (views (subject.Node m))
            go (Some s) e = absurd (silent (known_told D' part st o end (subject.Node (r.nodes m)) (s, e)))

        -- what comes from what the text tells has its types where the text's do
        from_text : (C : Assignment) (t : Typed D' part C) (h : NearIn r A ds' C) → Agree D (task_of ds) A (B C t h) → AgreesThere r A' ds ds' C
        from_text C t h g x told there =
            let p = told_known D' part st o end (subject_at r x) there in
            sym (told_same C t h (subject_at r x) p.0 p.1) ∙ seesB C t h x ∙ ap (λ q. shared (view x) (shape_at r q)) (sym (g x told)) ∙ sym (sees x)

        other : (m : ℕ) → LiteralStands r IsFixed ds' m → ((n : ℕ) × IsIn n (literals_of ds') × Paired D D' (task_of ds) part A A' carried.back m n)
            ⊎ ((C : Assignment) (t : Typed D' part C) (e : Near D D' (task_of ds) part A A' C) → peeled (carried.back C t e (subject.Node m)) ≡ peeled (A (subject.Node m)))
        unfolding carried
        other m (inl w) = inl (r.nodes m, w, paired m w)
        other m (inr (inl silent)) = inr (λ C t e. ap peeled (untold m silent C t (near_in C e)))
        other m (inr (inr f)) = inr (λ C t e. ap peeled (sym (settledB C t (near_in C e) (subject.Node m) f)))

        agrees : (C : Assignment) (t : Typed D' part C) (h : NearIn r A ds' C) → Agree D (task_of ds) A (B C t h) → (y : Subject) → Told ds' y → TellsOne r D' A' ds ds' y → A' y ≡ C y
        agrees C t h g y there (inl x) = subst (λ z. A' z ≡ C z) (sym x.1) (sym (from_text C t h g x.0 x.2 (subst (λ z. Told ds' z) x.1 there)))
        agrees C t h g y there (inr f) = sym (f C t (from_text C t h g))

        part_itself : Valid D' part A'
        unfolding carried
        part_itself = whole_valid D D' (task_of ds) part A A' o v carried (record {
          other = λ m i. other m (itself.literals m i);
          agree = λ C t e g y there. agrees C t (near_in C e) g y there (itself.tells y there);
        })

      part_accepted : Accepted D' part → Valid D' part A'
      part_accepted w = accepted_valid D D' (task_of ds) part A A' o v carried w

  -- the part's own valid assignment
  pub part_valid : Orderly part → Fixes r view IsFixed D' A ds' → Block r u view behind IsFixed D D' A V ds ds' → Valid D (task_of ds) A → Valid D' part V → Valid D' part A'
  part_valid o fixes b v w =
      let own = w.prefers.typed in
      let met = tests_met D' ds' o.ordered V own A' (b.there v.prefers.typed own) in
      finds D' part o V own (λ st end. part_accepted o own met fixes st end b v (V, w))

  -- gives what comes from the text the text's types
  pub part_alike : Orderly part → Fixes r view IsFixed D' A ds' → Block r u view behind IsFixed D D' A V ds ds' → Valid D (task_of ds) A → Valid D' part V
      → (x : Subject) → Told ds' (subject_at r x) → V (subject_at r x) ≡ shared (view x) (shape_at r (A x))
  part_alike o fixes b v w x t = w.only_one A' (part_valid o fixes b v w).prefers (subject_at r x) t ∙ sees x

-- what meets what is asked, with the text's types at what comes from the text, is valid where all else in the part has one type
pub part_by_itself : (r : Renumbering) (u : PartialInverse r) (view : Viewed) (behind : Behind) (IsFixed : Subject → Type 0) (D D' : KnownItems) → Knows r D D' → (A V : Assignment) (ds ds' : List Demand) → AllReferences r u view behind D' A ds' → MutableAt view A
    → Orderly (task_of ds') → Fixes r view IsFixed D' A ds' → Block r u view behind IsFixed D D' A V ds ds' → Valid D (task_of ds) A → ByItself r u view IsFixed D' A V ds ds' → Valid D' (task_of ds') V
part_by_itself r u view behind IsFixed D D' known A V ds ds' references views o fixes b v itself =
    let A' = composed r u view A V in
    let same : A' ≡ V = λ i y. itself.same y i in
    let met = subst (λ (W : Assignment). Typed D' (task_of ds') W) (sym same) itself.meets in
    let again = subst (λ (W : Assignment). ByItself r u view IsFixed D' A W ds ds') (sym same) itself in
    subst (λ (W : Assignment). Valid D' (task_of ds') W) same
    (finds D' (task_of ds') o V itself.meets (λ st end. part_itself r u view behind IsFixed D D' known A V ds ds' references views o itself.meets met fixes st end b v again))
