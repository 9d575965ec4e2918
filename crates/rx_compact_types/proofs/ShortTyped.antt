-- A program with a short signature is well-typed exactly where it is without, with the same typed trees.
use Rattle.std.proofs.Common.{◌≡◌, ℕ, zero, suc, ◌+◌, ◌≤◌, Bool, List, [], ◌∷◌, map, Option, Some, refl, sym, ap, ap₂, subst, arith, slice_get}
use Rattle.rx_core.specs.declared.types.Span.{Span}
use Rattle.rx_tree.specs.Plain as plain
use Rattle.rx_tree.specs.Plain.{Function, ItemTree, ProgramTree}
use Rattle.rx_resolve_names.specs.declared.resolved.ItemNames.{ItemNames}
use Rattle.rx_typed.specs.Naming.{function_named, function_spans, function_variables}
use Rattle.rx_typed.specs.Elaborated.{elaborated}
use Rattle.rx_typed.specs.Named as named
use Rattle.rx_typeck_solver.specs.Facts.{Assignment, KnownItems}
use Rattle.rx_typeck_typed.specs.Typing.{Given, known_in, entries, variables_at, assigned, is_mutable}
use Rattle.rx_typeck_typed.specs.WellTyped.{IsValid, EachValid, typed_function, functions_by}
use Rattle.rx_compact.specs.Compacted.{compacted_function, compacted}
use Rattle.rx_compact_types.specs.ShortTyped.{SameFunction, SameFunctions}

-- the tables of a function, and of another in its place
pub record SameTables (n : ℕ) (s : Span) (f g : Function) (a b : Option ItemNames) : Type 0 where
  pub vars : variables_at b ≡ variables_at a
  pub tree : function_named n s g (entries b) ≡ function_named n s f (entries a)
  pub spans : function_spans s g (entries b) ≡ function_spans s f (entries a)
  pub variables : function_variables s g (entries b) ≡ function_variables s f (entries a)

pub tables_same : (n : ℕ) (s : Span) (f : Function) (a b : Option ItemNames) → b ≡ a → SameTables n s f f a b
tables_same n s f a b e = record {
  vars = ap variables_at e;
  tree = ap (λ t. function_named n s f (entries t)) e;
  spans = ap (λ t. function_spans s f (entries t)) e;
  variables = ap (λ t. function_variables s f (entries t)) e;
}

module _ (o : ℕ → ℕ → Bool) (single : Bool) (G H : Given) (known : known_in H ≡ known_in G) (names news : List ItemNames) where
  abbrev K : KnownItems
  K = known_in G

  abbrev J : KnownItems
  J = known_in H

  valid_there : (F E : named.Function) (A : Assignment) → E ≡ F → IsValid K F A → IsValid J E A
  valid_there F E A e v = subst (λ E. IsValid J E A) (sym e) (subst (λ K. IsValid K F A) (sym known) v)

  valid_back : (F E : named.Function) (A : Assignment) → E ≡ F → IsValid J E A → IsValid K F A
  valid_back F E A e v = subst (λ K. IsValid K F A) known (subst (λ E. IsValid J E A) e v)

  function_same : (n : ℕ) (s : Span) (f g : Function) → SameTables n s f g (slice_get names n) (slice_get news n) → (A : Assignment)
      → SameFunction (typed_function G n s f (entries (slice_get names n)) (variables_at (slice_get names n)) A) (typed_function H n s g (entries (slice_get news n)) (variables_at (slice_get news n)) A)
  function_same n s f g t A = record {
    item = refl;
    names = t.vars;
    mutable = ap (map is_mutable) t.variables;
    spans = t.spans;
    types = refl;
    body = ap₂ (λ K F. elaborated (assigned K A) F) known t.tree;
  }

  abbrev There : (n : ℕ) (xs ys : ProgramTree) → EachValid K names n xs → Type 0
  There n xs ys v = (w : EachValid J news n ys) × SameFunctions (functions_by G names n xs v) (functions_by H news n ys w)

  abbrev Back : (n : ℕ) (xs ys : ProgramTree) → EachValid J news n ys → Type 0
  Back n xs ys w = (v : EachValid K names n xs) × SameFunctions (functions_by G names n xs v) (functions_by H news n ys w)

  one_there : (n : ℕ) (s : Span) (f g : Function) (xs ys : ProgramTree) → SameTables n s f g (slice_get names n) (slice_get news n)
      → (v : EachValid K names n (plain.function_item s f ∷ xs)) → There (suc n) xs ys v.1 → There n (plain.function_item s f ∷ xs) (plain.function_item s g ∷ ys) v
  one_there n s f g xs ys t v r =
      (((v.0.0, valid_there (function_named n s f (entries (slice_get names n))) (function_named n s g (entries (slice_get news n))) v.0.0 t.tree v.0.1), r.0), (function_same n s f g t v.0.0, r.1))

  one_back : (n : ℕ) (s : Span) (f g : Function) (xs ys : ProgramTree) → SameTables n s f g (slice_get names n) (slice_get news n)
      → (w : EachValid J news n (plain.function_item s g ∷ ys)) → Back (suc n) xs ys w.1 → Back n (plain.function_item s f ∷ xs) (plain.function_item s g ∷ ys) w
  one_back n s f g xs ys t w r =
      (((w.0.0, valid_back (function_named n s f (entries (slice_get names n))) (function_named n s g (entries (slice_get news n))) w.0.0 t.tree w.0.1), r.0), (function_same n s f g t w.0.0, r.1))

  -- items that are the same in both
  behind_there : (n : ℕ) (xs : ProgramTree) → ((k : ℕ) → n ≤ k → slice_get news k ≡ slice_get names k) → (v : EachValid K names n xs) → There n xs xs v
  behind_there n [] h v = (tt, tt)
  behind_there n (plain.function_item s f ∷ xs) h v =
      one_there n s f f xs xs (tables_same n s f (slice_get names n) (slice_get news n) (h n (omega arith))) v (behind_there (suc n) xs (λ k g. h k (omega (arith, g))) v.1)
  behind_there n (plain.rt_item s r ∷ xs) h v = behind_there (suc n) xs (λ k g. h k (omega (arith, g))) v
  behind_there n (plain.struct_item s d ∷ xs) h v = behind_there (suc n) xs (λ k g. h k (omega (arith, g))) v
  behind_there n (plain.enum_item s d ∷ xs) h v = behind_there (suc n) xs (λ k g. h k (omega (arith, g))) v

  behind_back : (n : ℕ) (xs : ProgramTree) → ((k : ℕ) → n ≤ k → slice_get news k ≡ slice_get names k) → (w : EachValid J news n xs) → Back n xs xs w
  behind_back n [] h w = (tt, tt)
  behind_back n (plain.function_item s f ∷ xs) h w =
      one_back n s f f xs xs (tables_same n s f (slice_get names n) (slice_get news n) (h n (omega arith))) w (behind_back (suc n) xs (λ k g. h k (omega (arith, g))) w.1)
  behind_back n (plain.rt_item s r ∷ xs) h w = behind_back (suc n) xs (λ k g. h k (omega (arith, g))) w
  behind_back n (plain.struct_item s d ∷ xs) h w = behind_back (suc n) xs (λ k g. h k (omega (arith, g))) w
  behind_back n (plain.enum_item s d ∷ xs) h w = behind_back (suc n) xs (λ k g. h k (omega (arith, g))) w

  -- the item of number i has the short signature
  module _ (i : ℕ) (others : (k : ℕ) → (k ≡ i → ⊥) → slice_get news k ≡ slice_get names k) where
    abbrev pub Short : ItemTree → Type 0
    Short (plain.function_item s f) = SameTables i s f (compacted_function o single f) (slice_get names i) (slice_get news i)
    Short _ = Unit {0}

    far : (n : ℕ) → i ≡ n + 0 → (k : ℕ) → suc n ≤ k → slice_get news k ≡ slice_get names k
    far n w k g = others k (λ h. omega (arith, w, g, h))

    near : (n m : ℕ) → i ≡ n + suc m → slice_get news n ≡ slice_get names n
    near n m w = others n (λ h. omega (arith, w, h))

    at : (n : ℕ) (s : Span) (f g : Function) → i ≡ n + 0 → SameTables i s f g (slice_get names i) (slice_get news i) → SameTables n s f g (slice_get names n) (slice_get news n)
    at n s f g w t = subst (λ k. SameTables k s f g (slice_get names k) (slice_get news k)) (let e : i ≡ n = omega (arith, w) in e) t

    pub all_there : (n : ℕ) (xs : ProgramTree) (m : ℕ) → i ≡ n + m → ((x : ItemTree) → slice_get xs m ≡ Some x → Short x) → (v : EachValid K names n xs) → There n xs (compacted o single xs m) v
    all_there n [] m w t v = (tt, tt)
    all_there n (plain.function_item s f ∷ xs) zero w t v =
        one_there n s f (compacted_function o single f) xs xs (at n s f (compacted_function o single f) w (t (plain.function_item s f) refl)) v (behind_there (suc n) xs (far n w) v.1)
    all_there n (plain.rt_item s r ∷ xs) zero w t v = behind_there (suc n) xs (far n w) v
    all_there n (plain.struct_item s d ∷ xs) zero w t v = behind_there (suc n) xs (far n w) v
    all_there n (plain.enum_item s d ∷ xs) zero w t v = behind_there (suc n) xs (far n w) v
    all_there n (plain.function_item s f ∷ xs) (suc m) w t v =
        one_there n s f f xs (compacted o single xs m) (tables_same n s f (slice_get names n) (slice_get news n) (near n m w)) v (all_there (suc n) xs m (omega (arith, w)) t v.1)
    all_there n (plain.rt_item s r ∷ xs) (suc m) w t v = all_there (suc n) xs m (omega (arith, w)) t v
    all_there n (plain.struct_item s d ∷ xs) (suc m) w t v = all_there (suc n) xs m (omega (arith, w)) t v
    all_there n (plain.enum_item s d ∷ xs) (suc m) w t v = all_there (suc n) xs m (omega (arith, w)) t v

    pub all_back : (n : ℕ) (xs : ProgramTree) (m : ℕ) → i ≡ n + m → ((x : ItemTree) → slice_get xs m ≡ Some x → Short x) → (v : EachValid J news n (compacted o single xs m)) → Back n xs (compacted o single xs m) v
    all_back n [] m w t v = (tt, tt)
    all_back n (plain.function_item s f ∷ xs) zero w t v =
        one_back n s f (compacted_function o single f) xs xs (at n s f (compacted_function o single f) w (t (plain.function_item s f) refl)) v (behind_back (suc n) xs (far n w) v.1)
    all_back n (plain.rt_item s r ∷ xs) zero w t v = behind_back (suc n) xs (far n w) v
    all_back n (plain.struct_item s d ∷ xs) zero w t v = behind_back (suc n) xs (far n w) v
    all_back n (plain.enum_item s d ∷ xs) zero w t v = behind_back (suc n) xs (far n w) v
    all_back n (plain.function_item s f ∷ xs) (suc m) w t v =
        one_back n s f f xs (compacted o single xs m) (tables_same n s f (slice_get names n) (slice_get news n) (near n m w)) v (all_back (suc n) xs m (omega (arith, w)) t v.1)
    all_back n (plain.rt_item s r ∷ xs) (suc m) w t v = all_back (suc n) xs m (omega (arith, w)) t v
    all_back n (plain.struct_item s d ∷ xs) (suc m) w t v = all_back (suc n) xs m (omega (arith, w)) t v
    all_back n (plain.enum_item s d ∷ xs) (suc m) w t v = all_back (suc n) xs m (omega (arith, w)) t v
