-- The functions of two typed programs, of which the second has a short signature of one item, stand in the same order, each typed as its item
-- says; all but that item's have the same text and the same tables of names.
use Rattle.std.proofs.Common.{◌≡◌, ℕ, zero, suc, ◌+◌, Bool, List, [], ◌∷◌, Some, refl, sym, ap, subst, ◌∙◌, arith, slice_get}
use Rattle.rx_core.specs.declared.types.Span.{Span}
use Rattle.rx_tree.specs.Plain as plain
use Rattle.rx_tree.specs.Plain.{Function, ItemTree, ProgramTree}
use Rattle.rx_resolve_names.specs.declared.resolved.ItemNames.{ItemNames}
use Rattle.rx_typeck_typed.specs.declared.typed.TypedFn.{TypedFn}
use Rattle.rx_typeck_typed.specs.Typing.{Given, entries, variables_at, FunctionTyped, FunctionsTyped}
use Rattle.rx_facts.specs.Passing.{Each}
use Rattle.rx_compact.specs.Compacted.{compacted_function, compacted}

pub record TypedBoth (G H : Given) (names news : List ItemNames) (i : ℕ) (t u : TypedFn) : Type 0 where
  pub place : ℕ
  pub span : Span
  pub text : Function
  pub new_text : Function
  pub was : FunctionTyped G place span text (entries (slice_get names place)) (variables_at (slice_get names place)) t
  pub is : FunctionTyped H place span new_text (entries (slice_get news place)) (variables_at (slice_get news place)) u
  pub same : (place ≡ i → ⊥) → (new_text ≡ text) × (slice_get news place ≡ slice_get names place)
  pub stands : slice_get G.program place ≡ Some (plain.function_item span text)
  pub new_stands : slice_get H.program place ≡ Some (plain.function_item span new_text)

module _ (G H : Given) (o : ℕ → ℕ → Bool) (single : Bool) (names news : List ItemNames) (i : ℕ) (others : (k : ℕ) → (k ≡ i → ⊥) → slice_get news k ≡ slice_get names k) where
  abbrev Pairs : List TypedFn → List TypedFn → Type 0
  Pairs ts us = Each (TypedBoth G H names news i) ts us

  -- from number n on the items of a program are these
  abbrev From : ProgramTree → ℕ → ProgramTree → Type 0
  From P n xs = (k : ℕ) → slice_get P (n + k) ≡ slice_get xs k

  first : (P : ProgramTree) (n : ℕ) (x : ItemTree) (xs : ProgramTree) → From P n (x ∷ xs) → slice_get P n ≡ Some x
  first P n x xs w = let z : n ≡ n + 0 = omega arith in ap (slice_get P) z ∙ w 0

  more : (P : ProgramTree) (n : ℕ) (x : ItemTree) (xs : ProgramTree) → From P n (x ∷ xs) → From P (suc n) xs
  more P n x xs w k = let z : suc n + k ≡ n + suc k = omega arith in ap (slice_get P) z ∙ w (suc k)

  one : (n : ℕ) (s : Span) (f g : Function) (t u : TypedFn) → ((n ≡ i → ⊥) → g ≡ f) → slice_get G.program n ≡ Some (plain.function_item s f) → slice_get H.program n ≡ Some (plain.function_item s g)
      → FunctionTyped G n s f (entries (slice_get names n)) (variables_at (slice_get names n)) t
      → FunctionTyped H n s g (entries (slice_get news n)) (variables_at (slice_get news n)) u → TypedBoth G H names news i t u
  one n s f g t u e p q a b = record { place = n; span = s; text = f; new_text = g; was = a; is = b; same = λ ne. (e ne, others n ne); stands = p; new_stands = q }

  rest : (n : ℕ) (xs : ProgramTree) → From G.program n xs → From H.program n xs → (ts us : List TypedFn) → FunctionsTyped G names n xs ts → FunctionsTyped H news n xs us → Pairs ts us
  rest n [] p q ts us a b = subst (λ l. Pairs ts l) (sym b) (subst (λ l. Pairs l []) (sym a) tt)
  rest n (plain.function_item s f ∷ xs) p q [] us a b = absurd a
  rest n (plain.function_item s f ∷ xs) p q (t ∷ ts) [] a b = absurd b
  rest n (plain.function_item s f ∷ xs) p q (t ∷ ts) (u ∷ us) a b =
      let x = plain.function_item s f in
      (one n s f f t u (λ ne. refl) (first G.program n x xs p) (first H.program n x xs q) a.0 b.0, rest (suc n) xs (more G.program n x xs p) (more H.program n x xs q) ts us a.1 b.1)
  rest n (plain.rt_item s r ∷ xs) p q ts us a b = rest (suc n) xs (more G.program n _ xs p) (more H.program n _ xs q) ts us a b
  rest n (plain.struct_item s d ∷ xs) p q ts us a b = rest (suc n) xs (more G.program n _ xs p) (more H.program n _ xs q) ts us a b
  rest n (plain.enum_item s d ∷ xs) p q ts us a b = rest (suc n) xs (more G.program n _ xs p) (more H.program n _ xs q) ts us a b

  this_one : (n : ℕ) → i ≡ n + 0 → (n ≡ i → ⊥) → ⊥
  this_one n w ne = ne (let e : n ≡ i = omega (arith, w) in e)

  pub all_both : (n : ℕ) (xs : ProgramTree) (m : ℕ) → i ≡ n + m → From G.program n xs → From H.program n (compacted o single xs m)
      → (ts us : List TypedFn) → FunctionsTyped G names n xs ts → FunctionsTyped H news n (compacted o single xs m) us → Pairs ts us
  all_both n [] m w p q ts us a b = rest n [] p q ts us a b
  all_both n (plain.function_item s f ∷ xs) zero w p q [] us a b = absurd a
  all_both n (plain.function_item s f ∷ xs) zero w p q (t ∷ ts) [] a b = absurd b
  all_both n (plain.function_item s f ∷ xs) zero w p q (t ∷ ts) (u ∷ us) a b = (
    one n s f (compacted_function o single f) t u (λ ne. absurd (this_one n w ne)) (first G.program n _ xs p) (first H.program n _ xs q) a.0 b.0,
    rest (suc n) xs (more G.program n _ xs p) (more H.program n _ xs q) ts us a.1 b.1,
  )
  all_both n (plain.rt_item s r ∷ xs) zero w p q ts us a b = rest (suc n) xs (more G.program n _ xs p) (more H.program n _ xs q) ts us a b
  all_both n (plain.struct_item s d ∷ xs) zero w p q ts us a b = rest (suc n) xs (more G.program n _ xs p) (more H.program n _ xs q) ts us a b
  all_both n (plain.enum_item s d ∷ xs) zero w p q ts us a b = rest (suc n) xs (more G.program n _ xs p) (more H.program n _ xs q) ts us a b
  all_both n (plain.function_item s f ∷ xs) (suc m) w p q [] us a b = absurd a
  all_both n (plain.function_item s f ∷ xs) (suc m) w p q (t ∷ ts) [] a b = absurd b
  all_both n (plain.function_item s f ∷ xs) (suc m) w p q (t ∷ ts) (u ∷ us) a b = (
    one n s f f t u (λ ne. refl) (first G.program n _ xs p) (first H.program n _ (compacted o single xs m) q) a.0 b.0,
    all_both (suc n) xs m (omega (arith, w)) (more G.program n _ xs p) (more H.program n _ (compacted o single xs m) q) ts us a.1 b.1,
  )
  all_both n (plain.rt_item s r ∷ xs) (suc m) w p q ts us a b =
      all_both (suc n) xs m (omega (arith, w)) (more G.program n _ xs p) (more H.program n _ (compacted o single xs m) q) ts us a b
  all_both n (plain.struct_item s d ∷ xs) (suc m) w p q ts us a b =
      all_both (suc n) xs m (omega (arith, w)) (more G.program n _ xs p) (more H.program n _ (compacted o single xs m) q) ts us a b
  all_both n (plain.enum_item s d ∷ xs) (suc m) w p q ts us a b =
      all_both (suc n) xs m (omega (arith, w)) (more G.program n _ xs p) (more H.program n _ (compacted o single xs m) q) ts us a b
