-- What declarations say without the polarities that they have recorded.
use Rattle.std.proofs.Common.{◌≡◌, ℕ, List, [], ◌∷◌, ◌++◌, map, Option, slice_get, refl, sym, ap, ◌∙◌}
use Rattle.std.proofs.lemmas.Option.{slice_get-map}
use Rattle.rx_core.specs.declared.types.Step.{Step}
use Rattle.rx_typed.specs.declared.declarations.Decl.{Decl}
use Rattle.rx_typed.specs.declared.declarations.Decl.TheVariants as decl
use Rattle.rx_typed.specs.Regions.{RegionTyp, RegionTyps, held_regions, regions}
use Rattle.rx_typed.specs.Tree.{Making, constant, negation, inversion, operation, lazy, tuple, struct, variant_of}
use Rattle.rx_core.specs.declared.types.Bound.{Bound}
use Rattle.rx_core.specs.declared.types.Step.TheVariants as step
use Rattle.rx_typed_declarations.specs.Variance.{unrecorded}
use Rattle.rx_typed.specs.Places as places
use Rattle.rx_typed.specs.Places.{fields_of, behind, place_type}
use Rattle.rx_region.specs.Constraints.{lifetimes_of, instances, made_parts, through, reborrows}
use Rattle.rx_facts.proofs.Positions.{unrecorded_option, fields_same, variant_same, behind_same, place_same}

held_same : (d : Decl) → held_regions (unrecorded d) ≡ held_regions d
held_same decl.Rt = refl
held_same (decl.Struct c l vs fs) = refl
held_same (decl.Enum c l vs ds) = refl
held_same (decl.Func l ps t bs) = refl

regions_same : (D : List Decl) → regions (map unrecorded D) ≡ regions D
regions_same [] = refl
regions_same (d ∷ D) = λ j. held_same d j ∷ regions_same D j

-- two lists of declarations that are the same but for what they have recorded
module _ (D E : List Decl) (items : map unrecorded D ≡ map unrecorded E) where
  pub regions_alike : regions D ≡ regions E
  regions_alike = sym (regions_same D) ∙ (ap regions items ∙ regions_same E)

  -- what doesn't depend on it
  of_item : {A : Type 0} (k : Option Decl → A) → ((o : Option Decl) → k (unrecorded_option o) ≡ k o) → (i : ℕ) → k (slice_get D i) ≡ k (slice_get E i)
  of_item k same i =
      sym (same (slice_get D i)) ∙ (sym (ap k (slice_get-map unrecorded D i))
      ∙ (ap (λ (l : List Decl). k (slice_get l i)) items ∙ (ap k (slice_get-map unrecorded E i) ∙ same (slice_get E i))))

  behind_alike : (t : RegionTyp) (s : Step) → behind D t s ≡ behind E t s
  behind_alike t s = sym (behind_same D t s) ∙ (ap (λ (l : List Decl). behind l t s) items ∙ behind_same E t s)

  pub place_alike : (t : RegionTyp) (ss : List Step) → place_type D t ss ≡ place_type E t ss
  place_alike t ss = sym (place_same D t ss) ∙ (ap (λ (l : List Decl). place_type l t ss) items ∙ place_same E t ss)

  pub made_alike : (w : Making) (t : RegionTyp) → made_parts D w t ≡ made_parts E w t
  made_alike (constant c) t = refl
  made_alike negation t = refl
  made_alike inversion t = refl
  made_alike (operation o) t = refl
  made_alike lazy t = refl
  made_alike tuple t = refl
  made_alike (struct i) t = ap (λ (ts : RegionTyps). instances (lifetimes_of t) ts) (of_item fields_of fields_same i)
  made_alike (variant_of i v) t = ap (λ (ts : RegionTyps). instances (lifetimes_of t) ts) (of_item (λ (o : Option Decl). places.variant_of o v) (λ o. variant_same o v) i)

  pub reborrows_alike : (t : RegionTyp) (r : ℕ) (ss : List Step) → reborrows D t r ss ≡ reborrows E t r ss
  reborrows_alike t r [] = refl
  reborrows_alike t r (step.Field i ∷ ss) = ap (λ (u : RegionTyp). reborrows D u r ss) (behind_alike t (step.Field i)) ∙ reborrows_alike (behind E t (step.Field i)) r ss
  reborrows_alike t r (step.Variant v ∷ ss) = ap (λ (u : RegionTyp). reborrows D u r ss) (behind_alike t (step.Variant v)) ∙ reborrows_alike (behind E t (step.Variant v)) r ss
  reborrows_alike t r (step.Deref k ∷ ss) = ap (λ (ps : List Bound). through t r ss ++ ps)
      (ap (λ (u : RegionTyp). reborrows D u r ss) (behind_alike t (step.Deref k)) ∙ reborrows_alike (behind E t (step.Deref k)) r ss)
