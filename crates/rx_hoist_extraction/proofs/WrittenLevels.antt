-- A type that is written has the levels of the type, by induction on it; the new function has as many parameters and lifetimes as
-- are counted.
use Rattle.std.proofs.Common.{◌≡◌, ℕ, zero, suc, ◌+◌, List, [], ◌∷◌, length, map, refl, ap, ◌∙◌, length-append}
use Rattle.rx_core.specs.declared.types.Span.{Span}
use Rattle.rx_core.specs.declared.types.Kind.{Kind}
use Rattle.rx_tree.specs.declared.tree.BoundLifetime.{BoundLifetime}
use Rattle.rx_tree.specs.declared.tree.Ident.{Ident}
use Rattle.rx_tree.specs.Plain.{ProgramTree}
use Rattle.rx_resolve_names.specs.Meant.{Around}
use Rattle.rx_typed.specs.Types.{Shape, Shapes, integer, boolean, tuple_of, reference, named, no_shape, shape_and, levels, most_levels}
use Rattle.rx_print_spelling.specs.Levels.{type_levels, types_levels}
use Rattle.rx_hoist_extraction.specs.Run.{Parts}
use Rattle.rx_hoist_extraction.specs.Plan.{Bounds, Param, Plan}
use Rattle.rx_hoist_extraction.specs.Fresh.{fresh_lifetime}
use Rattle.rx_hoist_extraction.specs.WrittenTypes.{positions, lifetimes_from, full, all_full, elided, all_elided}
use Rattle.rx_hoist_extraction.specs.NewFunction.{passed, new_parameters, signature_positions, copied_lifetimes, new_lifetimes, shorts_of, new_function}
use Rattle.rx_hoist_extraction.specs.Limits.{count_parameters, count_lifetimes}

mutual
  pub full_levels : (P : ProgramTree) (s : Span) (r : ℕ → List ℕ) (n : ℕ) (t : Shape Kind) → type_levels (full P s r n t) ≡ levels t
  full_levels P s r n (integer k) = refl
  full_levels P s r n boolean = refl
  full_levels P s r n (tuple_of ts) = ap suc (all_full_levels P s r n ts)
  full_levels P s r n (reference m t) = ap suc (full_levels P s r (suc n) t)
  full_levels P s r n (named i) = refl

  all_full_levels : (P : ProgramTree) (s : Span) (r : ℕ → List ℕ) (n : ℕ) (ts : Shapes Kind) → types_levels (all_full P s r n ts) ≡ most_levels ts
  all_full_levels P s r n no_shape = refl
  all_full_levels P s r n (shape_and t ts) = rw (full_levels P s r n t, all_full_levels P s r (n + positions P t) ts) refl

mutual
  pub elided_levels : (P : ProgramTree) (s : Span) (t : Shape Kind) → type_levels (elided P s t) ≡ levels t
  elided_levels P s (integer k) = refl
  elided_levels P s boolean = refl
  elided_levels P s (tuple_of ts) = ap suc (all_elided_levels P s ts)
  elided_levels P s (reference m t) = ap suc (elided_levels P s t)
  elided_levels P s (named i) = refl

  all_elided_levels : (P : ProgramTree) (s : Span) (ts : Shapes Kind) → types_levels (all_elided P s ts) ≡ most_levels ts
  all_elided_levels P s no_shape = refl
  all_elided_levels P s (shape_and t ts) = rw (elided_levels P s t, all_elided_levels P s ts) refl

-- ---- counts

parameters_counted : (P : ProgramTree) (pl : Plan) (s : Span) (n : ℕ) (xs : List Param) → length (new_parameters P pl s n xs) ≡ length xs
parameters_counted P pl s n [] = refl
parameters_counted P pl s n (x ∷ xs) = ap suc (parameters_counted P pl s (n + positions P (passed x.mode x.variable.typ)) xs)

row_counted : (s : Span) (r : ℕ → List ℕ) (n many : ℕ) → length (lifetimes_from s r n many) ≡ many
row_counted s r n zero = refl
row_counted s r n (suc many) = ap suc (row_counted s r (suc n) many)

-- lifetimes with bounds
abbrev bounded : (Ident → List Ident) → List Ident → List BoundLifetime
bounded f ls = map (λ (l : Ident). record { name = l; bounds = f l }) ls

bounded_counted : (f : Ident → List Ident) (ls : List Ident) → length (bounded f ls) ≡ length ls
bounded_counted f [] = refl
bounded_counted f (l ∷ ls) = ap suc (bounded_counted f ls)

pub count_of_parameters : (P : ProgramTree) (pl : Plan) (bs : Bounds) (s : Span) (ls : List Around) (p : Parts) → length (new_function P pl bs s ls p).params ≡ count_parameters pl
count_of_parameters P pl bs s ls p = parameters_counted P pl s 0 pl.params

pub count_of_lifetimes : (P : ProgramTree) (pl : Plan) (bs : Bounds) (s : Span) (ls : List Around) (p : Parts)
    → length (new_function P pl bs s ls p).lifetimes ≡ count_lifetimes P pl p
count_of_lifetimes P pl bs s ls p = let all = new_lifetimes P pl s p in
    let fresh = lifetimes_from s (fresh_lifetime pl.lifetimes) 0 (signature_positions P pl) in
    bounded_counted (λ l. shorts_of s bs all l.name) all ∙ length-append (copied_lifetimes p) fresh
    ∙ ap (λ n. length (copied_lifetimes p) + n) (row_counted s (fresh_lifetime pl.lifetimes) 0 (signature_positions P pl))
