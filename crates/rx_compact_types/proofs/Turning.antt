-- The places of lifetimes in a type that is written otherwise: each is turned or left out. Numbers that fit there are those of the old
-- type under other numbers.
use Rattle.std.proofs.Common.{◌≡◌, ℕ, List, [], ◌∷◌, ◌++◌, map, Option, Some, None, refl, sym, ap, ap₂, ◌∙◌, slice_get}
use Rattle.std.proofs.lemmas.List.{map-append}
use Rattle.rx_tree.specs.declared.tree.Ident.{Ident}
use Rattle.rx_tree.specs.Plain as plain
use Rattle.rx_tree.specs.Plain.{TypeTree, TypeTrees, Parameter, ProgramTree}
use Rattle.rx_resolve_names.specs.Scopes.{DeclaredNames}
use Rattle.rx_typed.specs.Regions.{region_tuple, region_reference, region_named, region_and}
use Rattle.rx_typeck_typed.specs.Written.{lifetimes_of}
use Rattle.rx_compact_lifetimes.specs.declared.rewriting.Rewriting.{Rewriting}
use Rattle.rx_compact_lifetimes.specs.Rewritten.{becomes, lifetime_with, rewritten_lifetime, rewritten_list, rewritten_type, rewritten_types, rewritten_parameter}
use Rattle.rx_compact_types.specs.Positions.{Position, Standing, position, item_of, all_left_out, listed_at, positions, all_positions, parameter_positions, number_of, given, after, numbers, zero_each, unnumbered_type, unnumbered_types, unnumbered_parameters}

-- types name the same items in both programs, with as many lifetimes
pub record SameDeclared (p q : ProgramTree) : Type 0 where
  pub item : (x : Ident) → item_of q x ≡ item_of p x
  pub lifetimes : (n : ℕ) → lifetimes_of (slice_get q n) ≡ lifetimes_of (slice_get p n)

module _ (rs : List Rewriting) where
  abbrev pub turn : Position → Position
  turn None = None
  turn (Some x) = becomes rs x

  position_turned : (l : Option Ident) → position (rewritten_lifetime rs l) ≡ turn (position l)
  position_turned None = refl
  position_turned (Some x) = by (becomes rs x.name)
    where
      by : (o : Option (List ℕ)) → position (lifetime_with x o) ≡ o
      by None = refl
      by (Some y) = refl

  list_turned : (ls : List (Option Ident)) → map position (map (rewritten_lifetime rs) ls) ≡ map turn (map position ls)
  list_turned [] = refl
  list_turned (l ∷ ls) = ap₂ (λ x xs. x ∷ xs) (position_turned l) (list_turned ls)

  none_turned : (ds : List Ident) → map turn (all_left_out ds) ≡ all_left_out ds
  none_turned [] = refl
  none_turned (d ∷ ds) = ap (λ xs. None ∷ xs) (none_turned ds)

  module _ (p q : ProgramTree) (same : SameDeclared p q) where
    listed_turned : (x : Ident) (ls : Option (List (Option Ident))) → listed_at q x (rewritten_list rs ls) ≡ map turn (listed_at p x ls)
    listed_turned x None = ap (λ n. all_left_out (lifetimes_of (slice_get q n))) (same.item x) ∙ (ap all_left_out (same.lifetimes (item_of p x)) ∙ sym (none_turned (lifetimes_of (slice_get p (item_of p x)))))
    listed_turned x (Some ls) = list_turned ls

    mutual
      pub type_turned : (t : TypeTree) → positions q (rewritten_type rs t) ≡ map turn (positions p t)
      type_turned (plain.kind_type s k) = refl
      type_turned (plain.bool_type s) = refl
      type_turned (plain.tuple_type s ts) = types_turned ts
      type_turned (plain.ref_type s l m t) = ap₂ (λ x xs. x ∷ xs) (position_turned l) (type_turned t)
      type_turned (plain.named_type s x ls) = listed_turned x ls

      types_turned : (ts : TypeTrees) → all_positions q (rewritten_types rs ts) ≡ map turn (all_positions p ts)
      types_turned plain.no_type = refl
      types_turned (plain.type_and t ts) = ap₂ (λ a b. a ++ b) (type_turned t) (types_turned ts) ∙ sym (map-append turn (positions p t) (all_positions p ts))

    pub parameters_turned : (xs : List Parameter) → parameter_positions q (map (rewritten_parameter rs) xs) ≡ map turn (parameter_positions p xs)
    parameters_turned [] = refl
    parameters_turned (x ∷ xs) = ap₂ (λ a b. a ++ b) (type_turned x.typ) (parameters_turned xs) ∙ sym (map-append turn (positions p x.typ) (parameter_positions p xs))

    zeros_same : (xs : List Position) → zero_each (map turn xs) ≡ zero_each xs
    zeros_same [] = refl
    zeros_same (x ∷ xs) = ap (λ ns. 0 ∷ ns) (zeros_same xs)

    mutual
      pub form_same : (t : TypeTree) → unnumbered_type q (rewritten_type rs t) ≡ unnumbered_type p t
      form_same (plain.kind_type s k) = refl
      form_same (plain.bool_type s) = refl
      form_same (plain.tuple_type s ts) = ap region_tuple (forms_same ts)
      form_same (plain.ref_type s l m t) = ap (region_reference m 0) (form_same t)
      form_same (plain.named_type s x ls) = ap₂ region_named (same.item x) (ap zero_each (listed_turned x ls) ∙ zeros_same (listed_at p x ls))

      forms_same : (ts : TypeTrees) → unnumbered_types q (rewritten_types rs ts) ≡ unnumbered_types p ts
      forms_same plain.no_type = refl
      forms_same (plain.type_and t ts) = ap₂ region_and (form_same t) (forms_same ts)

    pub parameter_forms_same : (xs : List Parameter) → unnumbered_parameters q (map (rewritten_parameter rs) xs) ≡ unnumbered_parameters p xs
    parameter_forms_same [] = refl
    parameter_forms_same (x ∷ xs) = ap₂ region_and (form_same x.typ) (parameter_forms_same xs)

  -- the numbers of both fit, place by place, where the next that are left out have these
  module _ (f : ℕ → ℕ) (L M : DeclaredNames) (d e : Standing) where
    -- a written one, and what follows by the next number
    abbrev pub FitsAt : ℕ → Option (List ℕ) → ℕ → (ℕ → Type 0) → Type 0
    FitsAt l None j C = (given e j ≡ f l) × C (after e j)
    FitsAt l (Some y) j C = (number_of M y ≡ f l) × C j

    abbrev pub Fitting : ℕ → ℕ → List Position → Type 0
    Fitting k j [] = Unit {0}
    Fitting k j (None ∷ xs) = (given e j ≡ f (given d k)) × Fitting (after d k) (after e j) xs
    Fitting k j (Some x ∷ xs) = FitsAt (number_of L x) (becomes rs x) j (λ i. Fitting k i xs)

    abbrev pub FittingAt : ℕ → ℕ → ℕ → Option (List ℕ) → List Position → Type 0
    FittingAt l k j o xs = FitsAt l o j (λ i. Fitting k i xs)

    numbers_fit_at : (l k j : ℕ) (o : Option (List ℕ)) (xs : List Position) → FittingAt l k j o xs → ((i : ℕ) → Fitting k i xs → numbers e M i (map turn xs) ≡ map f (numbers d L k xs))
        → numbers e M j (o ∷ map turn xs) ≡ f l ∷ map f (numbers d L k xs)
    numbers_fit_at l k j None xs h again = ap₂ (λ n ns. n ∷ ns) h.0 (again (after e j) h.1)
    numbers_fit_at l k j (Some y) xs h again = ap₂ (λ n ns. n ∷ ns) h.0 (again j h.1)

    pub numbers_fit : (k j : ℕ) (xs : List Position) → Fitting k j xs → numbers e M j (map turn xs) ≡ map f (numbers d L k xs)
    numbers_fit k j [] h = refl
    numbers_fit k j (None ∷ xs) h = ap₂ (λ n ns. n ∷ ns) h.0 (numbers_fit (after d k) (after e j) xs h.1)
    numbers_fit k j (Some x ∷ xs) h = numbers_fit_at (number_of L x) k j (becomes rs x) xs h (λ i g. numbers_fit k i xs g)
