-- A program with bounds can be numbered where it can without them: at each of its nodes as much is counted, but for lists of bounds, which are
-- no longer than the list of lifetimes.
use Rattle.std.proofs.Common.{◌≡◌, ℕ, zero, suc, ◌+◌, ◌<◌, ◌≤◌, ◌^◌, max, Bool, true, false, List, [], ◌∷◌, ◌++◌, length, refl, sym, ap, subst, ◌∙◌, arith}
use Rattle.std.proofs.lemmas.List.{length-append}
use Rattle.rx_core.specs.declared.types.Bound.{Bound}
use Rattle.rx_core.specs.declared.types.Span.{Span}
use Rattle.rx_tree.specs.declared.tree.BoundLifetime.{BoundLifetime}
use Rattle.rx_tree.specs.Plain as plain
use Rattle.rx_tree.specs.Plain.{Function, ItemTree, ProgramTree}
use Rattle.rx_tree.specs.Positions.{NodeTree, an_item}
use Rattle.rx_tree.specs.Nodes.{below_item, nodes, total, greatest}
use Rattle.rx_tree.specs.Size.{IsNumbered, bindings_at, lifetimes_at, loops_at, longest_bounds, longest_of_item, longest_at}
use Rattle.rx_repair.specs.Repaired.{is_bound, short_if, shorts_from, lifetimes_from, repaired_function, repaired_item, repaired}

-- ---- lengths

one_short : (b : Bool) (s : Span) (x : BoundLifetime) → length (short_if b s x) ≤ 1
one_short true s x = omega arith
one_short false s x = omega arith

few_shorts : (s : Span) (bs : List Bound) (l k : ℕ) (xs : List BoundLifetime) → length (shorts_from s bs l k xs) ≤ length xs
few_shorts s bs l k [] = omega arith
few_shorts s bs l k (x ∷ xs) = let e = length-append (short_if (is_bound bs l k) s x) (shorts_from s bs l (suc k) xs) in
    let a = one_short (is_bound bs l k) s x in
    let b = few_shorts s bs l (suc k) xs in
    omega (arith, e, a, b)

as_many : (s : Span) (bs : List Bound) (all : List BoundLifetime) (l : ℕ) (xs : List BoundLifetime) → length (lifetimes_from s bs all l xs) ≡ length xs
as_many s bs all l [] = refl
as_many s bs all l (x ∷ xs) = ap suc (as_many s bs all (suc l) xs)

short_bounds : (s : Span) (bs : List Bound) (all : List BoundLifetime) (l : ℕ) (xs : List BoundLifetime) → longest_bounds (lifetimes_from s bs all l xs) ≤ length all
short_bounds s bs all l [] = omega arith
short_bounds s bs all l (x ∷ xs) = let a = few_shorts s bs l 0 all in
    let b = short_bounds s bs all (suc l) xs in omega (arith, a, b)

-- ---- at each node

module _ (bs : List Bound) where
  same_below : (i : ItemTree) → below_item (repaired_item bs i) ≡ below_item i
  same_below (plain.rt_item s r) = refl
  same_below (plain.struct_item s x) = refl
  same_below (plain.enum_item s x) = refl
  same_below (plain.function_item s f) = refl

  same_bindings : (i : ItemTree) → bindings_at (an_item (repaired_item bs i)) ≡ bindings_at (an_item i)
  same_bindings (plain.rt_item s r) = refl
  same_bindings (plain.struct_item s x) = refl
  same_bindings (plain.enum_item s x) = refl
  same_bindings (plain.function_item s f) = refl

  same_lifetimes : (i : ItemTree) → lifetimes_at (an_item (repaired_item bs i)) ≡ lifetimes_at (an_item i)
  same_lifetimes (plain.rt_item s r) = refl
  same_lifetimes (plain.struct_item s x) = refl
  same_lifetimes (plain.enum_item s x) = refl
  same_lifetimes (plain.function_item s f) = as_many s bs f.lifetimes 0 f.lifetimes

  same_loops : (i : ItemTree) → loops_at (an_item (repaired_item bs i)) ≡ loops_at (an_item i)
  same_loops i = refl

  no_longer : (i : ItemTree) → longest_at (an_item (repaired_item bs i)) ≤ longest_at (an_item i)
  no_longer (plain.rt_item s r) = omega arith
  no_longer (plain.struct_item s x) = omega arith
  no_longer (plain.enum_item s x) = omega arith
  no_longer (plain.function_item s f) = let a = as_many s bs f.lifetimes 0 f.lifetimes in
      let b = short_bounds s bs f.lifetimes 0 f.lifetimes in omega (arith, a, b)

  -- ---- of a program

  same_length : (p : ProgramTree) (n : ℕ) → length (repaired p n bs) ≡ length p
  same_length [] n = refl
  same_length (i ∷ is) zero = refl
  same_length (i ∷ is) (suc n) = ap suc (same_length is n)

  total_front : (f : NodeTree → ℕ) (xs ys zs : List NodeTree) → total f ys ≡ total f zs → total f (xs ++ ys) ≡ total f (xs ++ zs)
  total_front f [] ys zs h = h
  total_front f (x ∷ xs) ys zs h = ap (λ n. f x + n) (total_front f xs ys zs h)

  same_total : (f : NodeTree → ℕ) → ((i : ItemTree) → f (an_item (repaired_item bs i)) ≡ f (an_item i)) → (p : ProgramTree) (n : ℕ) → total f (nodes (repaired p n bs)) ≡ total f (nodes p)
  same_total f h [] n = refl
  same_total f h (i ∷ is) zero = ap (λ m. m + total f (below_item (repaired_item bs i) ++ nodes is)) (h i)
      ∙ ap (λ l. f (an_item i) + total f (l ++ nodes is)) (same_below i)
  same_total f h (i ∷ is) (suc n) = ap (λ m. f (an_item i) + m) (total_front f (below_item i) (nodes (repaired is n bs)) (nodes is) (same_total f h is n))

  greatest_front : (xs ys zs : List NodeTree) → greatest longest_at ys ≤ greatest longest_at zs → greatest longest_at (xs ++ ys) ≤ greatest longest_at (xs ++ zs)
  greatest_front [] ys zs h = h
  greatest_front (x ∷ xs) ys zs h = let a = greatest_front xs ys zs h in omega (arith, a)

  no_greater : (p : ProgramTree) (n : ℕ) → greatest longest_at (nodes (repaired p n bs)) ≤ greatest longest_at (nodes p)
  no_greater [] n = omega arith
  no_greater (i ∷ is) zero = let a = no_longer i in
      let e : greatest longest_at (below_item (repaired_item bs i) ++ nodes is) ≡ greatest longest_at (below_item i ++ nodes is) = ap (λ l. greatest longest_at (l ++ nodes is)) (same_below i) in
      omega (arith, a, e)
  no_greater (i ∷ is) (suc n) = let a = greatest_front (below_item i) (nodes (repaired is n bs)) (nodes is) (no_greater is n) in omega (arith, a)

  pub still_numbered : (p : ProgramTree) (n : ℕ) → IsNumbered p → IsNumbered (repaired p n bs)
  still_numbered p n h = record {
    items = subst (λ m. m < 2 ^ 32) (sym (same_length p n)) h.items;
    bindings = subst (λ m. m < 2 ^ 32) (sym (same_total bindings_at same_bindings p n)) h.bindings;
    lifetimes = subst (λ m. m < 2 ^ 32) (sym (same_total lifetimes_at same_lifetimes p n)) h.lifetimes;
    loops = subst (λ m. m < 2 ^ 32) (sym (same_total loops_at same_loops p n)) h.loops;
    lists = let a = no_greater p n in let b = h.lists in omega (arith, a, b);
  }
