-- What is read of declarations of which one function has a short signature: of structs and enums the same, of all others but this function too.
use Rattle.std.proofs.Common.{◌≡◌, inl, inr, ℕ, List, [], ◌∷◌, ◌++◌, Option, Some, None, option_map, slice_get, refl, sym, ap, subst, ◌∙◌}
use Rattle.rx_core.specs.declared.types.Bound.{Bound}
use Rattle.rx_core.specs.declared.types.Step.{Step}
use Rattle.rx_core.specs.declared.types.Step.TheVariants as step
use Rattle.rx_core.specs.declared.types.Ty.{Ty}
use Rattle.rx_typed.specs.declared.declarations.Decl.{Decl}
use Rattle.rx_typed.specs.declared.declarations.Decl.TheVariants as decl
use Rattle.rx_typed.specs.Places as places
use Rattle.rx_typed.specs.Places.{fields_of, part_at, item_behind, behind, place_type}
use Rattle.rx_typed.specs.Regions.{RegionTyp, region_integer, region_boolean, region_tuple, region_reference, region_named, RegionTyps}
use Rattle.rx_typed.specs.Renaming.{instance}
use Rattle.rx_typed.specs.Tree.{Making, constant, negation, inversion, operation, lazy, tuple, struct, variant_of}
use Rattle.rx_typed_declarations.specs.Variance.{unrecorded, variances_recorded}
use Rattle.rx_region_outlives.specs.Related.{subtypes}
use Rattle.rx_lower_lifetimes.specs.Values.{lifetimes_of, result_type}
use Rattle.rx_region.specs.Constraints as constraints
use Rattle.rx_region.specs.Constraints.{instances, made_parts, through, reborrows}
use Rattle.rx_facts.proofs.Positions.{lifetimes_same, result_same, fields_same, variant_same}
use Rattle.rx_check.proofs.Variances.{tell_same, subtypes_agree}
use Rattle.rx_repair.proofs.Deciding.{same_or}
use Rattle.rx_compact_accepted.specs.AreShort.{IsShort, AreShort}

module _ (i : ℕ) (f : ℕ → ℕ) (D E : List Decl) (S : IsShort i f D E) where
  -- what is the same of all functions, and depends on nothing that is recorded
  pub observed : {A : Type 0} (h : Option Decl → A) → ((o : Option Decl) → h (option_map unrecorded o) ≡ h o)
      → ((n : ℕ) (ps : List Ty) (t : Ty) (bs : List Bound) (m : ℕ) (qs : List Ty) (u : Ty) (cs : List Bound) → h (Some (decl.Func m qs u cs)) ≡ h (Some (decl.Func n ps t bs)))
      → (k : ℕ) → h (slice_get E k) ≡ h (slice_get D k)
  observed h plain functions k = elim (same_or k i) [
    | inl e ↦ subst (λ j. h (slice_get E j) ≡ h (slice_get D j)) (sym e) (ap h S.under.new
        ∙ (functions S.under.count S.under.params S.under.answer S.under.bounds S.under.new_count S.under.new_params S.under.new_answer S.under.new_bounds ∙ sym (ap h S.under.old)))
    | inr ne ↦ sym (plain (slice_get E k)) ∙ (ap h (S.others k ne) ∙ plain (slice_get D k))
  ]

  pub elsewhere : {A : Type 0} (h : Option Decl → A) → ((o : Option Decl) → h (option_map unrecorded o) ≡ h o) → (k : ℕ) → (k ≡ i → ⊥) → h (slice_get E k) ≡ h (slice_get D k)
  elsewhere h plain k ne = sym (plain (slice_get E k)) ∙ (ap h (S.others k ne) ∙ plain (slice_get D k))

  pub lifetimes_elsewhere : (k : ℕ) → (k ≡ i → ⊥) → lifetimes_of (slice_get E k) ≡ lifetimes_of (slice_get D k)
  lifetimes_elsewhere k ne = elsewhere lifetimes_of lifetimes_same k ne

  pub result_elsewhere : (k : ℕ) → (k ≡ i → ⊥) → result_type (slice_get E k) ≡ result_type (slice_get D k)
  result_elsewhere k ne = elsewhere result_type result_same k ne

  pub count_is : lifetimes_of (slice_get D i) ≡ S.under.count
  count_is = ap lifetimes_of S.under.old

  pub new_count_is : lifetimes_of (slice_get E i) ≡ S.under.new_count
  new_count_is = ap lifetimes_of S.under.new

  -- ---- places

  fields_at : (k : ℕ) → fields_of (slice_get E k) ≡ fields_of (slice_get D k)
  fields_at k = observed fields_of fields_same (λ n ps t bs m qs u cs. refl) k

  variant_at : (k v : ℕ) → places.variant_of (slice_get E k) v ≡ places.variant_of (slice_get D k) v
  variant_at k v = observed (λ o. places.variant_of o v) (λ o. variant_same o v) (λ n ps t bs m qs u cs. refl) k

  item_same : (k : ℕ) (ls : List ℕ) (s : Step) → item_behind (slice_get E k) ls s ≡ item_behind (slice_get D k) ls s
  item_same k ls (step.Field n) = ap (λ ts. instance ls (part_at ts n)) (fields_at k)
  item_same k ls (step.Variant v) = ap (λ ts. instance ls (region_tuple ts)) (variant_at k v)
  item_same k ls (step.Deref m) = refl

  behind_same : (t : RegionTyp) (s : Step) → behind E t s ≡ behind D t s
  behind_same (region_integer k) s = refl
  behind_same region_boolean s = refl
  behind_same (region_tuple ts) s = refl
  behind_same (region_reference m l t) s = refl
  behind_same (region_named k ls) s = item_same k ls s

  pub place_same : (t : RegionTyp) (ss : List Step) → place_type E t ss ≡ place_type D t ss
  place_same t [] = refl
  place_same t (s ∷ ss) = ap (λ x. place_type E x ss) (behind_same t s) ∙ place_same (behind D t s) ss

  pub made_same : (w : Making) (t : RegionTyp) → made_parts E w t ≡ made_parts D w t
  made_same (constant c) t = refl
  made_same negation t = refl
  made_same inversion t = refl
  made_same (operation o) t = refl
  made_same lazy t = refl
  made_same tuple t = refl
  made_same (struct k) t = ap (λ ts. instances (constraints.lifetimes_of t) ts) (fields_at k)
  made_same (variant_of k v) t = ap (λ ts. instances (constraints.lifetimes_of t) ts) (variant_at k v)

  pub reborrows_same : (t : RegionTyp) (r : ℕ) (ss : List Step) → reborrows E t r ss ≡ reborrows D t r ss
  reborrows_same t r [] = refl
  reborrows_same t r (step.Field n ∷ ss) = ap (λ u. reborrows E u r ss) (behind_same t (step.Field n)) ∙ reborrows_same (behind D t (step.Field n)) r ss
  reborrows_same t r (step.Variant v ∷ ss) = ap (λ u. reborrows E u r ss) (behind_same t (step.Variant v)) ∙ reborrows_same (behind D t (step.Variant v)) r ss
  reborrows_same t r (step.Deref k ∷ ss) = ap (λ ps. through t r ss ++ ps)
      (ap (λ u. reborrows E u r ss) (behind_same t (step.Deref k)) ∙ reborrows_same (behind D t (step.Deref k)) r ss)

module _ (i : ℕ) (f : ℕ → ℕ) (D E : List Decl) (S : AreShort i f D E) where
  pub flows_same : (t u : RegionTyp) → subtypes (λ k. variances_recorded (slice_get E k)) t u ≡ subtypes (λ k. variances_recorded (slice_get D k)) t u
  flows_same t u = subtypes_agree (λ k. variances_recorded (slice_get E k)) (λ k. variances_recorded (slice_get D k))
      (λ k. tell_same E D S.held k (variances_recorded (slice_get E k)) (variances_recorded (slice_get D k)) (S.new_recorded k) (S.recorded k)) t u
