-- How often a lifetime stands at the places of types is how often the text writes it.
use Rattle.std.proofs.Common.{◌≡◌, ℕ, suc, ◌+◌, ◌<◌, ◌≤◌, Bool, true, false, List, [], ◌∷◌, ◌++◌, length, map, Option, Some, None, refl, sym, ap, ap₂, ◌∙◌, arith, if◌then◌else◌, slice_get}
use Rattle.std.specs.Str.{bytes_eq}
use Rattle.rx_tree.specs.declared.tree.Ident.{Ident}
use Rattle.rx_tree.specs.Plain as plain
use Rattle.rx_tree.specs.Plain.{TypeTree, TypeTrees, Parameter, ProgramTree}
use Rattle.rx_resolve_names.specs.Scopes.{DeclaredNames}
use Rattle.rx_typeck_typed.specs.Written.{lifetimes_of}
use Rattle.rx_hoist_extraction.specs.OwnLifetimes.{lifetimes_in, lifetimes_in_all, lifetimes_if_any, in_parameters}
use Rattle.rx_compact_lifetimes.specs.Elided.{times}
use Rattle.rx_compact_laws.proofs.Declaring.{same_name}
use Rattle.rx_compact_types.specs.Positions.{Position, as_parameter, position, item_of, all_left_out, positions, all_positions, parameter_positions, number_of, numbers}

abbrev pub count : List ℕ → List Position → ℕ
count x [] = 0
count x (None ∷ xs) = count x xs
count x (Some y ∷ xs) = if bytes_eq x y then suc (count x xs) else count x xs

pub count_more : (x : List ℕ) (y : Position) (xs : List Position) → count x xs ≤ count x (y ∷ xs)
count_more x None xs = omega arith
count_more x (Some y) xs = by (bytes_eq x y) (count x xs)
  where
    by : (b : Bool) (n : ℕ) → n ≤ (if b then suc n else n)
    by true n = omega arith
    by false n = omega arith

plus_if : (b : Bool) (n m : ℕ) → (if b then suc (n + m) else n + m) ≡ (if b then suc n else n) + m
plus_if true n m = omega arith
plus_if false n m = refl

count_both : (x : List ℕ) (xs ys : List Position) → count x (xs ++ ys) ≡ count x xs + count x ys
count_both x [] ys = omega arith
count_both x (None ∷ xs) ys = count_both x xs ys
count_both x (Some y ∷ xs) ys = ap (λ n. if bytes_eq x y then suc n else n) (count_both x xs ys) ∙ plus_if (bytes_eq x y) (count x xs) (count x ys)

times_both : (x : List ℕ) (ls ks : List (Option Ident)) → times x (ls ++ ks) ≡ times x ls + times x ks
times_both x [] ks = omega arith
times_both x (None ∷ ls) ks = times_both x ls ks
times_both x (Some y ∷ ls) ks = ap (λ n. if bytes_eq x y.name then suc n else n) (times_both x ls ks) ∙ plus_if (bytes_eq x y.name) (times x ls) (times x ks)

list_times : (x : List ℕ) (ls : List (Option Ident)) → times x ls ≡ count x (map position ls)
list_times x [] = refl
list_times x (None ∷ ls) = list_times x ls
list_times x (Some y ∷ ls) = ap (λ n. if bytes_eq x y.name then suc n else n) (list_times x ls)

none_times : (x : List ℕ) (ds : List Ident) → count x (all_left_out ds) ≡ 0
none_times x [] = refl
none_times x (d ∷ ds) = none_times x ds

module _ (p : ProgramTree) (x : List ℕ) where
  mutual
    type_times : (t : TypeTree) → times x (lifetimes_in t) ≡ count x (positions p t)
    type_times (plain.kind_type s k) = refl
    type_times (plain.bool_type s) = refl
    type_times (plain.tuple_type s ts) = types_times ts
    type_times (plain.ref_type s None m t) = type_times t
    type_times (plain.ref_type s (Some y) m t) = ap (λ n. if bytes_eq x y.name then suc n else n) (type_times t)
    type_times (plain.named_type s y None) = sym (none_times x (lifetimes_of (slice_get p (item_of p y))))
    type_times (plain.named_type s y (Some ls)) = list_times x ls

    types_times : (ts : TypeTrees) → times x (lifetimes_in_all ts) ≡ count x (all_positions p ts)
    types_times plain.no_type = refl
    types_times (plain.type_and t ts) = times_both x (lifetimes_in t) (lifetimes_in_all ts) ∙ (ap₂ (λ a b. a + b) (type_times t) (types_times ts) ∙ sym (count_both x (positions p t) (all_positions p ts)))

  pub parameter_times : (xs : List Parameter) → times x (in_parameters xs) ≡ count x (parameter_positions p xs)
  parameter_times [] = refl
  parameter_times (y ∷ ys) = times_both x (lifetimes_in y.typ) (in_parameters ys)
      ∙ (ap₂ (λ a b. a + b) (type_times y.typ) (parameter_times ys) ∙ sym (count_both x (positions p y.typ) (parameter_positions p ys)))

  pub result_times : (t : TypeTree) → times x (lifetimes_if_any (Some t)) ≡ count x (positions p t)
  result_times t = type_times t

-- where there is one lifetime, it is the one that stands there
pub only_one : (L : DeclaredNames) (x : List ℕ) (k : ℕ) (xs : List Position) → length (numbers as_parameter L k xs) ≡ 1 → 0 < count x xs → numbers as_parameter L k xs ≡ number_of L x ∷ []
only_one L x k [] n h = absurd (omega (arith, h))
only_one L x k (None ∷ xs) n h = absurd (by xs (let m : length (numbers as_parameter L (suc k) xs) ≡ 0 = omega (arith, n) in m) h)
  where
    by : (xs : List Position) → length (numbers as_parameter L (suc k) xs) ≡ 0 → 0 < count x xs → ⊥
    by [] m h = omega (arith, h)
    by (None ∷ xs) m h = omega (arith, m)
    by (Some y ∷ xs) m h = omega (arith, m)
only_one L x k (Some y ∷ xs) n h = by xs (let m : length (numbers as_parameter L k xs) ≡ 0 = omega (arith, n) in m) (bytes_eq x y) refl h
  where
    by : (xs : List Position) → length (numbers as_parameter L k xs) ≡ 0 → (b : Bool) → bytes_eq x y ≡ b → 0 < (if b then suc (count x xs) else count x xs)
        → number_of L y ∷ numbers as_parameter L k xs ≡ number_of L x ∷ []
    by [] m true e h = ap (λ z. number_of L z ∷ []) (sym (same_name x y e))
    by [] m false e h = absurd (omega (arith, h))
    by (None ∷ xs) m b e h = absurd (omega (arith, m))
    by (Some z ∷ xs) m b e h = absurd (omega (arith, m))
