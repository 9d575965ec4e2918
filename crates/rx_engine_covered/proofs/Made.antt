-- Patterns that are made: parts that are bound take every value without a test, and arms for every variant take each value of an enum.
use Rattle.std.proofs.Common.{◌≡◌, ◌≤◌, ◌<◌, ◌+◌, inl, inr, ℕ, suc, Bool, true, false, List, [], ◌∷◌, ◌++◌, length, None, slice_get, refl, sym, ap, ◌∙◌, subst, arith, nat_eq, if◌then◌else◌}
use Rattle.std.proofs.lemmas.List.{append-nil}
use Rattle.rx_typed.specs.declared.nodes.Node.{Node}
use Rattle.rx_typed.specs.Types as types
use Rattle.rx_typed.specs.Types.{tuple_of, variants_declared, Declarations, Typ}
use Rattle.rx_typed.specs.Named as named
use Rattle.rx_typed.specs.Named.{Arms, Patterns}
use Rattle.rx_typed.specs.Tree as tree
use Rattle.rx_typed.specs.Tree.{any, bind, no_part, part_and, Pattern, Subpatterns}
use Rattle.rx_typed.specs.Elaborated.{arms, behind_all, has_several, met, pattern, subpatterns, Assigned, Met}
use Rattle.rx_cover.specs.Values as values
use Rattle.rx_cover.specs.Values.{is_struct, no_value, value_and, IsOfType, Value, Values}
use Rattle.rx_cover.specs.Matching.{part_of, Covers, MatchParts, Matches, SomeMatches}
use Rattle.rx_cover.specs.Choices.{patterns_of}
use Rattle.rx_cover.specs.Heads.{chosen, has, with_one, Head}
use Rattle.rx_cover.specs.Width.{limit, product, test_at, test_if, tests_among, tests_in, tests_of, width, with_tests, Test, Tested}
use Rattle.rx_engine_covered.specs.TakesAll.{count_arms, HasArm, TakesAll}

-- ---- heads, each once

one_longer : (hs : List Head) (h : Head) → length (with_one hs h) ≤ suc (length hs)
one_longer hs h = by (has hs h)
  where
    longer : (xs : List Head) (x : Head) → length (xs ++ x ∷ []) ≡ suc (length xs)
    longer [] x = refl
    longer (y ∷ xs) x = ap suc (longer xs x)

    by : (b : Bool) → length (if b then hs else hs ++ h ∷ []) ≤ suc (length hs)
    by true = omega arith
    by false = omega (arith, longer hs h)

-- of the value itself
abbrev at_value : List Head → List Tested
at_value hs = record { path = []; heads = hs } ∷ []

-- ---- parts that are bound

abbrev pub AllBind : Patterns → Type 0
AllBind named.no_pattern = Unit {0}
AllBind (named.pattern_and (named.bind n x m) ps) = AllBind ps
AllBind (named.pattern_and p ps) = ⊥

module _ (T : Assigned) where
  any_by : (b : Bool) (p q : Pattern) (v : Value) → Matches p v → Matches q v → Matches (if b then p else q) v
  any_by true p q v h k = h
  any_by false p q v h k = k

  part_taken : (m : Met) (j : ℕ) (ps : Patterns) → AllBind ps → (k : ℕ) (v : Value) → Matches (part_of (subpatterns T m j ps) k) v
  part_taken m j named.no_pattern b k v = tt
  part_taken m j (named.pattern_and (named.bind n x c) ps) b k v = any_by (nat_eq j k) (pattern T m (named.bind n x c)) (part_of (subpatterns T m (suc j) ps) k) v tt (part_taken m (suc j) ps b k v)
  part_taken m j (named.pattern_and _ ps) b k v = absurd b

  parts_taken : (m : Met) (j : ℕ) (ps : Patterns) → AllBind ps → (k : ℕ) (vs : Values) → MatchParts (subpatterns T m j ps) k vs
  parts_taken m j ps b k no_value = tt
  parts_taken m j ps b k (value_and v vs) = (part_taken m j ps b k v, parts_taken m j ps b (suc k) vs)

  no_tests : (a : _) (m : Met) (j : ℕ) (ps : Patterns) → AllBind ps → tests_among a (subpatterns T m j ps) ≡ []
  no_tests a m j named.no_pattern b = refl
  no_tests a m j (named.pattern_and (named.bind n x c) ps) b = no_tests a m (suc j) ps b
  no_tests a m j (named.pattern_and _ ps) b = absurd b

  -- ---- a tuple of variables

  pub tuple_covers : (D : Declarations) (ts : _) (m : Met) (ps : Patterns) → AllBind ps → Covers D (tuple_of ts) (tree.parts (subpatterns T m 0 ps) ∷ [])
  tuple_covers D ts m ps b (values.tuple vs) h = inl (parts_taken m 0 ps b 0 vs)
  tuple_covers D ts m ps b _ h = absurd h

  pub tuple_narrow : (m : Met) (ps : Patterns) → AllBind ps → width (tree.parts (subpatterns T m 0 ps) ∷ []) ≤ limit
  tuple_narrow m ps b = subst (λ (l : List Test). product (with_tests [] (l ++ [])) ≤ limit) (sym (no_tests [] m 0 ps b)) (omega arith)

  -- ---- the arms of a match on an enum: each asks for a variant, and binds its parts

  abbrev pub VariantArms : ℕ → Arms → Type 0
  VariantArms i named.no_arm = Unit {0}
  VariantArms i (named.arm_and (named.variant_pattern n j w ps) e l) = (j ≡ i) × (T.typ n.number ≡ types.named i) × AllBind ps × VariantArms i l
  VariantArms i (named.arm_and p e l) = ⊥

  arm_is : (n : Node) (j w : ℕ) (ps : Patterns) (i : ℕ) → T.typ n.number ≡ types.named i → pattern T None (named.variant_pattern n j w ps) ≡ tree.variant n.number j (has_several T.items j) w (subpatterns T None 0 ps)
  arm_is n j w ps i e = ap (λ (t : Typ). behind_all t (tree.variant n.number j (has_several T.items j) w (subpatterns T (met t None) 0 ps))) e

  -- the arm for a variant takes its values
  arm_takes : (i k : ℕ) (vs : Values) (l : Arms) → VariantArms i l → HasArm k l → SomeMatches (patterns_of (arms T l)) (values.variant i k vs)
  arm_takes i k vs named.no_arm a h = absurd h
  arm_takes i k vs (named.arm_and (named.variant_pattern n j w ps) e l) a (inl h) = inl (subst (λ (p : Pattern). Matches p (values.variant i k vs)) (sym (arm_is n j w ps i a.1)) (a.0, h, parts_taken None 0 ps a.2 0 vs))
  arm_takes i k vs (named.arm_and (named.variant_pattern n j w ps) e l) a (inr h) = inr (arm_takes i k vs l a.3 h)
  arm_takes i k vs (named.arm_and _ e l) a h = absurd a

  no_struct : (o : _) → is_struct o ≡ false → is_struct o ≡ true → ⊥
  no_struct o e g = cc

  pub arms_cover : (D : Declarations) (i : ℕ) (l : Arms) → VariantArms i l → TakesAll D i l → Covers D (types.named i) (patterns_of (arms T l))
  arms_cover D i l a t (values.made j vs) h = absurd (no_struct (slice_get D i) t.enum h.1)
  arms_cover D i l a t (values.variant j k vs) h = subst (λ (j : ℕ). SomeMatches (patterns_of (arms T l)) (values.variant j k vs)) h.0 (arm_takes i k vs l a (t.each k h.1))
  arms_cover D i l a t _ h = absurd h

  -- ---- their tests are all of the value itself

  arm_tests : (n : Node) (j w : ℕ) (ps : Patterns) (i : ℕ) → T.typ n.number ≡ types.named i → AllBind ps → tests_in [] (pattern T None (named.variant_pattern n j w ps)) ≡ test_if (has_several T.items j) (test_at [] (chosen j w))
  arm_tests n j w ps i e b = ap (tests_in []) (arm_is n j w ps i e)
      ∙ (ap (λ (l : List Test). test_if (has_several T.items j) (test_at [] (chosen j w)) ++ l) (no_tests _ None 0 ps b) ∙ append-nil (test_if (has_several T.items j) (test_at [] (chosen j w))))

  abbrev Tests : Arms → List Test
  Tests l = tests_of (patterns_of (arms T l))

  -- behind some heads
  later_heads : (i : ℕ) (l : Arms) → VariantArms i l → (gs : List Head) → product (with_tests (at_value gs) (Tests l)) ≤ suc (length gs + count_arms l)
  later_heads i named.no_arm a gs = omega arith
  later_heads i (named.arm_and (named.variant_pattern n j w ps) e l) a gs =
      subst (λ (ts : List Test). product (with_tests (at_value gs) (ts ++ Tests l)) ≤ suc (length gs + suc (count_arms l))) (sym (arm_tests n j w ps i a.1 a.2)) (by (has_several T.items j) (later_heads i l a.3))
    where
      by : (b : Bool) → ((hs : List Head) → product (with_tests (at_value hs) (Tests l)) ≤ suc (length hs + count_arms l))
          → product (with_tests (at_value gs) (test_if b (test_at [] (chosen j w)) ++ Tests l)) ≤ suc (length gs + suc (count_arms l))
      by true g = omega (arith, g (with_one gs (chosen j w)), one_longer gs (chosen j w))
      by false g = omega (arith, g gs)
  later_heads i (named.arm_and _ e l) a gs = absurd a

  first_heads : (i : ℕ) (l : Arms) → VariantArms i l → product (with_tests [] (Tests l)) ≤ suc (count_arms l)
  first_heads i named.no_arm a = omega arith
  first_heads i (named.arm_and (named.variant_pattern n j w ps) e l) a =
      subst (λ (ts : List Test). product (with_tests [] (ts ++ Tests l)) ≤ suc (suc (count_arms l))) (sym (arm_tests n j w ps i a.1 a.2)) (by (has_several T.items j) (first_heads i l a.3))
    where
      by : (b : Bool) → product (with_tests [] (Tests l)) ≤ suc (count_arms l) → product (with_tests [] (test_if b (test_at [] (chosen j w)) ++ Tests l)) ≤ suc (suc (count_arms l))
      by true g = omega (arith, later_heads i l a.3 (chosen j w ∷ []))
      by false g = omega (arith, g)
  first_heads i (named.arm_and _ e l) a = absurd a

  pub arms_narrow : (i : ℕ) (l : Arms) → VariantArms i l → count_arms l < limit → width (patterns_of (arms T l)) ≤ limit
  arms_narrow i l a few = omega (arith, first_heads i l a, few)
