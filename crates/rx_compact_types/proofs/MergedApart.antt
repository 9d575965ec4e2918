-- Where some lifetimes become one, those of a signature have numbers of the new signature's, of which there are no more.
use Rattle.std.proofs.Common.{◌≡◌, inl, inr, ℕ, suc, ◌+◌, ◌<◌, ◌≤◌, ◌^◌, Bool, List, [], ◌∷◌, length, map, Some, None, sym, ap, subst, ◌∙◌, arith}
use Rattle.std.proofs.lemmas.Bool.{cases_lt}
use Rattle.rx_core.specs.declared.types.Span.{Span}
use Rattle.rx_tree.specs.Plain.{Function}
use Rattle.rx_resolve_names.specs.Meant.{number}
use Rattle.rx_hoist_extraction.specs.Names.{Distinct}
use Rattle.rx_compact_lifetimes.specs.Merged.{mergings_of, merged, IsPreorder}
use Rattle.rx_compact_lifetimes.specs.Steps.{names}
use Rattle.rx_compact_types.specs.Positions.{Position, as_parameter, ends}
use Rattle.rx_compact_types.proofs.Turning.{turn}
use Rattle.rx_compact_types.proofs.Places.{small}
use Rattle.rx_compact_types.proofs.Fewer.{fewer_merged, few_merged}
use Rattle.rx_compact_types.proofs.MergedNumbers.{some_becomes, merged_number, of_left_out}
use Rattle.rx_compact_types.proofs.MergedEqual.{became}

-- no place is left out that was written
pub ends_turned : (o : ℕ → ℕ → Bool) (f : Function) (k j : ℕ) (xs : List Position) → k ≤ ends as_parameter k xs
    × (ends as_parameter j (map (turn (mergings_of o f)) xs) + k ≡ ends as_parameter k xs + j)
ends_turned o f k j [] = (omega arith, omega arith)
ends_turned o f k j (None ∷ xs) =
    let r = ends_turned o f (suc k) (suc j) xs in
    let a = r.0 in
    let b = r.1 in
    (omega (arith, a), omega (arith, b))
ends_turned o f k j (Some x ∷ xs) =
    let r = ends_turned o f k j xs in
    let z = some_becomes o f.lifetimes 0 f.lifetimes x in
    (r.0, ap (λ y. ends as_parameter j (y ∷ map (turn (mergings_of o f)) xs) + k) z.1 ∙ r.1)

module _ (o : ℕ → ℕ → Bool) (order : IsPreorder o) (s : Span) (f : Function) (few : length f.lifetimes < 2 ^ 32) (once : Distinct (names f.lifetimes)) (xs : List Position) where
  abbrev F : ℕ → ℕ
  F = merged_number o s f few

  abbrev n0 : ℕ
  n0 = number (length f.lifetimes)

  abbrev m0 : ℕ
  m0 = number (length (merged o f).lifetimes)

  abbrev old_count : ℕ
  old_count = ends as_parameter n0 xs

  abbrev new_count : ℕ
  new_count = ends as_parameter m0 (map (turn (mergings_of o f)) xs)

  declared_within : (l : ℕ) → l < length f.lifetimes → F l < new_count
  declared_within l h =
      let w : F l < length (merged o f).lifetimes = (became o order s f few (few_merged o f few) once [] [] 0 l h).within in
      let m = small (length (merged o f).lifetimes) (few_merged o f few) in
      let r = ends_turned o f n0 m0 xs in
      let a = r.0 in
      let b = r.1 in
      omega (arith, w, m, a, b)

  elided_within : (l : ℕ) → length f.lifetimes ≤ l → l < old_count → F l < new_count
  elided_within l h g =
      let n = small (length f.lifetimes) few in
      let v = of_left_out o s f few l (subst (λ m. m ≤ l) (sym n) h) in
      let r = ends_turned o f n0 m0 xs in
      let b = r.1 in
      omega (arith, n, v, h, g, b)

  pub merged_within : (l : ℕ) → l < old_count → F l < new_count
  merged_within l h = elim (cases_lt l (length f.lifetimes)) [
    | inl c ↦ declared_within l c
    | inr c ↦ elided_within l c h
  ]

  pub merged_fewer : new_count ≤ old_count
  merged_fewer =
      let r = ends_turned o f n0 m0 xs in
      let b = r.1 in
      let w = fewer_merged o f in
      let n = small (length f.lifetimes) few in
      let m = small (length (merged o f).lifetimes) (few_merged o f few) in
      omega (arith, b, w, n, m)
