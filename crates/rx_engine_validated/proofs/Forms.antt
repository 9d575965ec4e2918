-- What diverges by the plan never goes on by its form, where no `break` in the test of a loop leads to this loop.
use Rattle.std.proofs.Common.{◌≡◌, ◌⊎◌, inl, inr, ℕ, ◌==◌, Bool, true, false, not, ◌&&◌, ◌||◌, List, [], ◌∷◌, ◌++◌, refl, sym, ap, ◌∙◌, subst, true≢false, eq-eqb}
use Rattle.rx_typed.specs.Tree as tree
use Rattle.rx_typed.specs.Tree.{Exp, Operands, Scrutinee, Arms, Body}
use Rattle.rx_exits_plan.specs.Blocks.{Statement, does, begins, binds, bound, before}
use Rattle.rx_exits_plan.specs.Spots.{Around, with_variables, with_loop, Spot, a_block, a_jump, a_return, spots, spots_in, spots_matched, spots_armed, spots_of}
use Rattle.rx_exits_plan.specs.Diverging.{is_broken, nothing_around, diverges, some_diverges, matched_diverges, all_diverge, body_diverges, any_diverges}
use Rattle.rx_engine_simulation.specs.Blocks.{Stretch}
use Rattle.rx_engine_simulation.specs.Blocks as stretched
use Rattle.rx_engine_simulation.specs.Endings.{Last}
use Rattle.rx_engine_related.specs.Never.{HasNoBreak, NoneHasBreak, MatchedHasNoBreak, ArmsHaveNoBreak, BodyHasNoBreak, NeverOn, never_jump, never_return, never_share, never_build, never_lazily, never_assign, never_update, never_call, never_print, never_block, never_matched, never_armed, never_loop, never_tested, SomeNever, this_operand, later_operand, NeverMatched, never_value, AllNever, no_arm_goes, arm_never, NeverThrough, tail_never, statement_never, behind_statement, behind_declaration, let_never, behind_let, NeverPassed, does_never, does_later, declares_later, lets_never, lets_later, NeverEnds, first_never, last_never}
use Rattle.rx_engine_related.specs.Stretched.{stretch_of}
use Rattle.rx_engine_validated.specs.Stretches.{Divided, all_in_front, last_behind}

-- ---- no `break` in the test of a loop leads to it

-- the body of a `while` is a choice, of which the test comes first
abbrev pub TestHasNoBreak : ℕ → Exp → Type 0
TestHasNoBreak l (tree.choose m s r) = MatchedHasNoBreak l s
TestHasNoBreak l _ = Unit {0}

-- in each loop of a part
abbrev mutual
  pub TestsStay : Exp → Type 0
  TestsStay (tree.read m v p) = Unit {0}
  TestsStay (tree.borrow m k p) = Unit {0}
  TestsStay (tree.share m e) = TestsStay e
  TestsStay (tree.build m w es) = OperandsStay es
  TestsStay (tree.unit m) = Unit {0}
  TestsStay (tree.lazily m b e f) = TestsStay e × TestsStay f
  TestsStay (tree.assign m p e) = TestsStay e
  TestsStay (tree.update m o p e) = TestsStay e
  TestsStay (tree.call m f es) = OperandsStay es
  TestsStay (tree.input m) = Unit {0}
  TestsStay (tree.print m e) = TestsStay e
  TestsStay (tree.block m b) = BodyStays b
  TestsStay (tree.choose m s r) = MatchedStays s × ArmsStay r
  TestsStay (tree.loop m l e) = TestHasNoBreak l e × TestsStay e
  TestsStay (tree.jump m l again) = Unit {0}
  TestsStay (tree.give m e) = TestsStay e

  pub OperandsStay : Operands → Type 0
  OperandsStay tree.no_operand = Unit {0}
  OperandsStay (tree.operand_and i e es) = TestsStay e × OperandsStay es

  pub MatchedStays : Scrutinee → Type 0
  MatchedStays (tree.at_place m p) = Unit {0}
  MatchedStays (tree.of_value e) = TestsStay e

  pub ArmsStay : Arms → Type 0
  ArmsStay tree.no_arm = Unit {0}
  ArmsStay (tree.arm_and p e r) = TestsStay e × ArmsStay r

  pub BodyStays : Body → Type 0
  BodyStays (tree.ends e) = TestsStay e
  BodyStays (tree.runs e b) = TestsStay e × BodyStays b
  BodyStays (tree.declares s xs b) = BodyStays b
  BodyStays (tree.lets s p c b) = MatchedStays c × BodyStays b

abbrev pub StatementStays : Statement → Type 0
StatementStays (does e) = TestsStay e
StatementStays (begins s xs) = Unit {0}
StatementStays (binds s p c) = MatchedStays c

abbrev pub StatementsStay : List Statement → Type 0
StatementsStay [] = Unit {0}
StatementsStay (s ∷ ss) = StatementStays s × StatementsStay ss

-- ---- truth values

not_true : (b : Bool) → b ≡ false → b ≡ true → ⊥
not_true b p q = true≢false (sym q ∙ p)

is_false : (b : Bool) → not b ≡ true → b ≡ false
is_false true e = absurd (true≢false (sym e))
is_false false e = refl

first_false : (a b : Bool) → a || b ≡ false → a ≡ false
first_false true b e = e
first_false false b e = refl

second_false : (a b : Bool) → a || b ≡ false → b ≡ false
second_false true b e = absurd (true≢false e)
second_false false b e = e

pub one_true : (a b : Bool) → a || b ≡ true → (a ≡ true) ⊎ (b ≡ true)
one_true true b e = inl refl
one_true false b e = inr e

first_true : (a b : Bool) → a && b ≡ true → a ≡ true
first_true true b e = refl
first_true false b e = e

second_true : (a b : Bool) → a && b ≡ true → b ≡ true
second_true true b e = e
second_true false b e = absurd (true≢false (sym e))

-- ---- where no spot is a `break` of a loop

broken_first : (l : ℕ) (ss ts : List Spot) → is_broken l (ss ++ ts) ≡ false → is_broken l ss ≡ false
broken_first l [] ts e = refl
broken_first l (a_block a n b ∷ ss) ts e = broken_first l ss ts e
broken_first l (a_jump a n k again ∷ ss) ts e = by ((k == l) && not again) e (λ x. broken_first l ss ts x)
  where
    by : (c : Bool) → c || is_broken l (ss ++ ts) ≡ false → (is_broken l (ss ++ ts) ≡ false → is_broken l ss ≡ false) → c || is_broken l ss ≡ false
    by true e f = e
    by false e f = f e
broken_first l (a_return a n ∷ ss) ts e = broken_first l ss ts e

broken_second : (l : ℕ) (ss ts : List Spot) → is_broken l (ss ++ ts) ≡ false → is_broken l ts ≡ false
broken_second l [] ts e = e
broken_second l (a_block a n b ∷ ss) ts e = broken_second l ss ts e
broken_second l (a_jump a n k again ∷ ss) ts e = broken_second l ss ts (second_false ((k == l) && not again) (is_broken l (ss ++ ts)) e)
broken_second l (a_return a n ∷ ss) ts e = broken_second l ss ts e

-- a `break` of another loop
another : (k l : ℕ) → ((k == l) && true) || false ≡ false → k ≡ l → ⊥
another k l e same = by (k == l) (eq-eqb k l same) e
  where
    by : (c : Bool) → c ≡ true → (c && true) || false ≡ false → ⊥
    by true q e = true≢false e
    by false q e = true≢false (sym q)

mutual
  unbroken : (l : ℕ) (a : Around) (e : Exp) → is_broken l (spots a e) ≡ false → HasNoBreak l e
  unbroken l a (tree.read m v p) h = tt
  unbroken l a (tree.borrow m k p) h = tt
  unbroken l a (tree.share m e) h = unbroken l a e h
  unbroken l a (tree.build m w es) h = unbroken_all l a es h
  unbroken l a (tree.unit m) h = tt
  unbroken l a (tree.lazily m b e f) h = (unbroken l a e (broken_first l (spots a e) (spots a f) h), unbroken l a f (broken_second l (spots a e) (spots a f) h))
  unbroken l a (tree.assign m p e) h = unbroken l a e h
  unbroken l a (tree.update m o p e) h = unbroken l a e h
  unbroken l a (tree.call m f es) h = unbroken_all l a es h
  unbroken l a (tree.input m) h = tt
  unbroken l a (tree.print m e) h = unbroken l a e h
  unbroken l a (tree.block m b) h = unbroken_body l a b h
  unbroken l a (tree.choose m s r) h = (unbroken_matched l a s (broken_first l (spots_matched a s) (spots_armed a r) h), unbroken_arms l a r (broken_second l (spots_matched a s) (spots_armed a r) h))
  unbroken l a (tree.loop m k e) h = unbroken l (with_loop k a) e h
  unbroken l a (tree.jump m k true) h = tt
  unbroken l a (tree.jump m k false) h = another k l h
  unbroken l a (tree.give m e) h = unbroken l a e (broken_first l (spots a e) (a_return a m.node ∷ []) h)

  unbroken_all : (l : ℕ) (a : Around) (es : Operands) → is_broken l (spots_in a es) ≡ false → NoneHasBreak l es
  unbroken_all l a tree.no_operand h = tt
  unbroken_all l a (tree.operand_and i e es) h = (unbroken l a e (broken_first l (spots a e) (spots_in a es) h), unbroken_all l a es (broken_second l (spots a e) (spots_in a es) h))

  unbroken_matched : (l : ℕ) (a : Around) (s : Scrutinee) → is_broken l (spots_matched a s) ≡ false → MatchedHasNoBreak l s
  unbroken_matched l a (tree.at_place m p) h = tt
  unbroken_matched l a (tree.of_value e) h = unbroken l a e h

  unbroken_arms : (l : ℕ) (a : Around) (r : Arms) → is_broken l (spots_armed a r) ≡ false → ArmsHaveNoBreak l r
  unbroken_arms l a tree.no_arm h = tt
  unbroken_arms l a (tree.arm_and p e r) h =
      let c = with_variables (bound p) a in (unbroken l c e (broken_first l (spots c e) (spots_armed a r) h), unbroken_arms l a r (broken_second l (spots c e) (spots_armed a r) h))

  unbroken_body : (l : ℕ) (a : Around) (b : Body) → is_broken l (spots_of a b) ≡ false → BodyHasNoBreak l b
  unbroken_body l a (tree.ends e) h = unbroken l a e h
  unbroken_body l a (tree.runs e b) h = (unbroken l a e (broken_first l (spots a e) (spots_of a b) h), unbroken_body l a b (broken_second l (spots a e) (spots_of a b) h))
  unbroken_body l a (tree.declares s xs b) h = unbroken_body l (with_variables xs a) b h
  unbroken_body l a (tree.lets s p c b) h =
      let d = with_variables (bound p) a in (unbroken_matched l a c (broken_first l (spots_matched a c) (spots_of d b) h), unbroken_body l d b (broken_second l (spots_matched a c) (spots_of d b) h))

-- ---- so what diverges never goes on

either : {A B C : Type 0} → A ⊎ B → (A → C) → (B → C) → C
either (inl x) f g = f x
either (inr y) f g = g y

mutual
  pub never_if : (e : Exp) → TestsStay e → diverges e ≡ true → NeverOn e
  never_if (tree.read m v p) h d = absurd (true≢false (sym d))
  never_if (tree.borrow m k p) h d = absurd (true≢false (sym d))
  never_if (tree.share m e) h d = never_share (never_if e h d)
  never_if (tree.build m w es) h d = never_build (some_if es h d)
  never_if (tree.unit m) h d = absurd (true≢false (sym d))
  never_if (tree.lazily m b e f) h d = never_lazily (never_if e h.0 d)
  never_if (tree.assign m p e) h d = never_assign (never_if e h d)
  never_if (tree.update m o p e) h d = never_update (never_if e h d)
  never_if (tree.call m f es) h d = never_call (some_if es h d)
  never_if (tree.input m) h d = absurd (true≢false (sym d))
  never_if (tree.print m e) h d = never_print (never_if e h d)
  never_if (tree.block m b) h d = never_block (through_if b h d)
  never_if (tree.choose m s r) h d = either (one_true (matched_diverges s) (all_diverge r) d) (λ x. never_matched (matched_if s h.0 x)) (λ x. never_armed (all_if r h.1 x))
  never_if (tree.loop m l (tree.choose n s r)) h d = never_tested (matched_if s h.1.0 d) h.0
  never_if (tree.loop m l e) h d = never_loop (unbroken l nothing_around e (is_false (is_broken l (spots nothing_around e)) d))
  never_if (tree.jump m l again) h d = never_jump
  never_if (tree.give m e) h d = never_return

  some_if : (es : Operands) → OperandsStay es → some_diverges es ≡ true → SomeNever es
  some_if tree.no_operand h d = absurd (true≢false (sym d))
  some_if (tree.operand_and i e es) h d = either (one_true (diverges e) (some_diverges es) d) (λ x. this_operand (never_if e h.0 x)) (λ x. later_operand (some_if es h.1 x))

  pub matched_if : (s : Scrutinee) → MatchedStays s → matched_diverges s ≡ true → NeverMatched s
  matched_if (tree.at_place m p) h d = absurd (true≢false (sym d))
  matched_if (tree.of_value e) h d = never_value (never_if e h d)

  all_if : (r : Arms) → ArmsStay r → all_diverge r ≡ true → AllNever r
  all_if tree.no_arm h d = no_arm_goes
  all_if (tree.arm_and p e r) h d = arm_never (never_if e h.0 (first_true (diverges e) (all_diverge r) d)) (all_if r h.1 (second_true (diverges e) (all_diverge r) d))

  through_if : (b : Body) → BodyStays b → body_diverges b ≡ true → NeverThrough b
  through_if (tree.ends e) h d = tail_never (never_if e h d)
  through_if (tree.runs e b) h d = either (one_true (diverges e) (body_diverges b) d) (λ x. statement_never (never_if e h.0 x)) (λ x. behind_statement (through_if b h.1 x))
  through_if (tree.declares s xs b) h d = behind_declaration (through_if b h d)
  through_if (tree.lets s p c b) h d = either (one_true (matched_diverges c) (body_diverges b) d) (λ x. let_never (matched_if c h.0 x)) (λ x. behind_let (through_if b h.1 x))

-- ---- statements

pub passed_if : (ss : List Statement) → StatementsStay ss → any_diverges ss ≡ true → NeverPassed (stretch_of ss)
passed_if [] h d = absurd (true≢false (sym d))
passed_if (does e ∷ ss) h d = either (one_true (diverges e) (any_diverges ss) d) (λ x. does_never (never_if e h.0 x)) (λ x. does_later (passed_if ss h.1 x))
passed_if (begins s xs ∷ ss) h d = declares_later (passed_if ss h.1 d)
passed_if (binds s p c ∷ ss) h d = either (one_true (matched_diverges c) (any_diverges ss) d) (λ x. lets_never (matched_if c h.0 x)) (λ x. lets_later (passed_if ss h.1 x))

pub stretch_before : (ss : List Statement) (b : Body) → stretched.before (stretch_of ss) b ≡ before ss b
stretch_before [] b = refl
stretch_before (does e ∷ ss) b = ap (λ (c : Body). tree.runs e c) (stretch_before ss b)
stretch_before (begins n xs ∷ ss) b = ap (λ (c : Body). tree.declares n xs c) (stretch_before ss b)
stretch_before (binds n q c ∷ ss) b = ap (λ (d : Body). tree.lets n q c d) (stretch_before ss b)

-- in those in front, or in the last one
in_front_or_last : (ss : List Statement) (e : Exp) → NeverPassed (stretch_of (ss ++ does e ∷ [])) → NeverPassed (stretch_of ss) ⊎ NeverOn e
in_front_or_last [] e (does_never n) = inr n
in_front_or_last [] e (does_later n) = elim n [ ]
in_front_or_last (does f ∷ ss) e (does_never n) = inl (does_never n)
in_front_or_last (does f ∷ ss) e (does_later n) = either (in_front_or_last ss e n) (λ x. inl (does_later x)) (λ x. inr x)
in_front_or_last (begins s xs ∷ ss) e (declares_later n) = either (in_front_or_last ss e n) (λ x. inl (declares_later x)) (λ x. inr x)
in_front_or_last (binds s p c ∷ ss) e (lets_never n) = inl (lets_never n)
in_front_or_last (binds s p c ∷ ss) e (lets_later n) = either (in_front_or_last ss e n) (λ x. inl (lets_later x)) (λ x. inr x)

pub ends_if : {ss : List Statement} {l : Last} {r : Stretch} → Divided ss l r → NeverPassed (stretch_of ss) → NeverEnds l r
ends_if all_in_front n = first_never n
ends_if (last_behind {e = e} front is) n = either (in_front_or_last front e (subst (λ (ts : List Statement). NeverPassed (stretch_of ts)) is n)) (λ x. first_never x) (λ x. last_never x)
