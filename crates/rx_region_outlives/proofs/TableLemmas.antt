-- A table that is filled in an order of the items has the pairs of the definition.
use Rattle.std.proofs.Common.{◌≡◌, ◌↔◌, ℕ, zero, suc, ◌+◌, ◌<◌, ◌≤◌, List, [], ◌∷◌, length, drop, get_or, slice_set, refl, sym, ap, ◌∙◌, subst, arith}
use Rattle.std.proofs.lemmas.List.{at_drop_more, length-map}
use Rattle.rx_core.specs.declared.types.Bound.{Bound}
use Rattle.rx_graph_cycles.specs.Reaches.{targets, IsIn}
use Rattle.rx_graph_cycles.specs.Orders.{InOrder}
use Rattle.rx_typed.specs.declared.declarations.Decl.{Decl}
use Rattle.rx_typed.specs.PlainTypes.{plain-Decl, declarations}
use Rattle.rx_typed.specs.Regions.{RegionTyp, RegionTyps, no_region, regions_at, all_erased, regions}
use Rattle.rx_typed_declarations.specs.Held.{held_by, held_by_each, named_among}
use Rattle.rx_typed_declarations.proofs.RegionLemmas.{item_erased}
use Rattle.rx_typed_declarations.proofs.Filling.{Fills, fills_none, fills_one, length_fills, all_filled_so}
use Rattle.rx_region_outlives.specs.Implied.{ImpliedAmong, ImpliedBy, in_held, HasPair, pairs_of, implied_among, ImpliesOf, AreImplied, FromHeld}
use Rattle.rx_region_outlives.proofs.ImpliedLemmas.{among_told}

-- ---- filling

drop_none : (i : ℕ) → drop {A = ℕ} i [] ≡ []
drop_none zero = refl
drop_none (suc i) = refl

drop_past : (xs : List ℕ) (i : ℕ) → length xs ≤ i → drop i xs ≡ []
drop_past [] i h = drop_none i
drop_past (x ∷ xs) zero h = absurd (omega arith)
drop_past (x ∷ xs) (suc i) h = drop_past xs i (omega arith)

pub fills_end : {X : Type 0} (Value : List X → ℕ → X → Type 0) (table : List X) (order : List ℕ) (i : ℕ) → length order ≤ i
    → Fills Value table (drop i order) table
fills_end Value table order i past = subst (λ ns. Fills Value table ns table) (sym (drop_past order i past)) fills_none

pub fills_next : {X : Type 0} (Value : List X → ℕ → X → Type 0) (table put new : List X) (order : List ℕ) (i : ℕ) (v : X)
    → i < length order → Value table (get_or order i 0) v → put ≡ slice_set table (get_or order i 0) v
    → Fills Value put (drop (i + 1) order) new → Fills Value table (drop i order) new
fills_next Value table put new order i v less is put_is h =
    subst (λ ns. Fills Value table ns new) (sym (at_drop_more (λ (ns : List ℕ). ns) order i 0 less))
    (fills_one v is (subst (λ t. Fills Value t (drop (i + 1) order) new) put_is h))

-- ---- items

targets_named : (items : List Decl) (n : ℕ)
    → targets (held_by_each (declarations items)) n ≡ named_among (all_erased (regions_at (regions items) n))
targets_named [] n = refl
targets_named (d ∷ ds) zero = ap named_among (sym (item_erased d))
targets_named (d ∷ ds) (suc n) = targets_named ds n

none_past : (items : List Decl) (n : ℕ) → length (held_by_each (declarations items)) ≤ n → regions_at (regions items) n ≡ no_region
none_past [] n h = refl
none_past (d ∷ ds) zero h = absurd (omega arith)
none_past (d ∷ ds) (suc n) h = none_past ds n (omega arith)

module _ (items : List Decl) where
  abbrev H : List (List RegionTyp)
  H = regions items

  abbrev edges : List (List ℕ)
  edges = held_by_each (declarations items)

  none_there : (x y : ℕ) → ImpliedAmong H no_region x y → ⊥
  none_there x y h = elim h [ ]

  nothing : (ts : RegionTyps) (x y : ℕ) → ts ≡ no_region → ImpliedAmong H ts x y → ⊥
  nothing ts x y is h = none_there x y (subst (λ rs. ImpliedAmong H rs x y) is h)

  of_held : (n x y : ℕ) → ImpliedBy H n x y → ImpliedAmong H (regions_at H n) x y
  of_held n x y (in_held h) = h

  past : (i : ℕ) → length edges ≤ i → ImpliesOf H i []
  past i le x y = (λ h. absurd h, λ h. absurd (nothing (regions_at H i) x y (none_past items i le) (of_held i x y h)))

  step : (table : List (List Bound)) (n : ℕ) (ps : List Bound)
      → ((j : ℕ) → IsIn (targets edges n) j → ImpliesOf H j (get_or table j [])) → FromHeld items table n ps → ImpliesOf H n ps
  step table n ps tells from x y =
      let told = among_told H (pairs_of table) (regions_at H n)
      (subst (λ ns. (j : ℕ) → IsIn ns j → ImpliesOf H j (get_or table j [])) (targets_named items n) tells) x y in
      (λ h. in_held (told.0 ((from x y).0 h)), λ h. (from x y).1 (told.1 (of_held n x y h)))

  pub implied_at : (graph : List (List ℕ)) (order order' : List ℕ) (table new : List (List Bound)) → graph ≡ edges
      → InOrder graph order → order' ≡ order → length table ≡ length items → Fills (FromHeld items) table order' new
      → AreImplied items new
  implied_at graph order order' table new graph_is is same whole fills =
      let there : InOrder edges order = subst (λ g. InOrder g order) graph_is is in
      let filled : Fills (FromHeld items) table order new = subst (λ ns. Fills (FromHeld items) table ns new) same fills in
      let count : length edges ≡ length items = length-map (declarations items) held_by ∙ length-map items plain-Decl in
      record {
        whole = length_fills filled ∙ whole;
        each = all_filled_so (List Bound) [] edges (ImpliesOf H) (FromHeld items) past step order table new
            (whole ∙ sym count) there filled;
      }
