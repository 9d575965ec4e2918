-- What a signature says, as a list of pairs by the pairs that the fields of each item ask; what follows from the list is what is known.
use Rattle.std.proofs.Common.{◌↔◌, inl, inr, ℕ, List, ◌++◌, map, Some}
use Rattle.rx_core.specs.declared.types.Bound.{Bound}
use Rattle.rx_core.specs.declared.types.Ty.{Ty}
use Rattle.rx_typed.specs.declared.declarations.Decl.{Decl}
use Rattle.rx_typed.specs.declared.declarations.Decl.TheVariants as decl
use Rattle.rx_typed.specs.Regions.{regions, regions_of, region-Ty}
use Rattle.rx_region_outlives.specs.Implied.{ImpliesOf, HasPair, implied_in, implied_among}
use Rattle.rx_region_outlives.proofs.ImpliedLemmas.{has_front, has_behind, has_either, implied_told, among_told}
use Rattle.rx_region.specs.Tables as tables
use Rattle.rx_region.specs.Tables.{Follows}
use Rattle.rx_compact.specs.Outliving.{Says, Outlives, itself, by}

module _ (D : List Decl) (P : ℕ → List Bound) (asked : (i : ℕ) → ImpliesOf (regions D) i (P i)) (n : ℕ) (ps : List Ty) (t : Ty) (bs : List Bound) where
  abbrev among : List Bound
  among = implied_among P (regions_of (map region-Ty ps))

  abbrev answer : List Bound
  answer = implied_in P (region-Ty t)

  abbrev said : List Bound
  said = bs ++ (among ++ answer)

  says : (l k : ℕ) → HasPair said l k → Says D (Some (decl.Func n ps t bs)) l k
  says l k h = elim (has_either bs (among ++ answer) l k h) [
    | inl a ↦ inl a
    | inr b ↦ elim (has_either among answer l k b) [
      | inl c ↦ inr (inl ((among_told (regions D) P (regions_of (map region-Ty ps)) (λ i v. asked i) l k).0 c))
      | inr d ↦ inr (inr ((implied_told (regions D) P (region-Ty t) (λ i v. asked i) l k).0 d))
    ]
  ]

  has : (l k : ℕ) → Says D (Some (decl.Func n ps t bs)) l k → HasPair said l k
  has l k (inl a) = has_front bs (among ++ answer) l k a
  has l k (inr (inl c)) = has_behind bs (among ++ answer) l k (has_front among answer l k ((among_told (regions D) P (regions_of (map region-Ty ps)) (λ i v. asked i) l k).1 c))
  has l k (inr (inr d)) = has_behind bs (among ++ answer) l k (has_behind among answer l k ((implied_told (regions D) P (region-Ty t) (λ i v. asked i) l k).1 d))

  follows : (l k : ℕ) → Outlives D (Some (decl.Func n ps t bs)) l k → Follows said l k
  follows l k itself = tables.itself
  follows l k (by m h rest) = tables.by m (has l m h) (follows m k rest)

  known : (l k : ℕ) → Follows said l k → Outlives D (Some (decl.Func n ps t bs)) l k
  known l k tables.itself = itself
  known l k (tables.by m h rest) = by m (says l m h) (known m k rest)

  pub known_follows : (l k : ℕ) → Follows said l k ↔ Outlives D (Some (decl.Func n ps t bs)) l k
  known_follows l k = (known l k, follows l k)
