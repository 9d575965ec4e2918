-- Types with their lifetimes, by the lifetimes' numbers in their item.
use Rattle.std.specs.Prelude.{◌≡◌, ℕ, Bool, true, false, List, [], ◌∷◌, ◌++◌, map, slice_index_or}
use Rattle.std.proofs.Common.{ap, sym, ◌∙◌}
use Rattle.rx_core.specs.declared.types.Kind.{Kind}
use Rattle.rx_core.specs.declared.types.Ty.{Ty, Ty-F, fold-Ty, fold-roll-Ty}
use Rattle.rx_core.specs.declared.types.Ty.TheOpen as form
use Rattle.rx_core.specs.declared.types.Ty.TheVariants as ty
use Rattle.rx_typed.specs.declared.declarations.Decl.{Decl}
use Rattle.rx_typed.specs.declared.declarations.Decl.TheVariants as decl
use Rattle.rx_typed.specs.declared.declarations.FieldDecl.{FieldDecl}
use Rattle.rx_typed.specs.declared.declarations.VariantDecl.{VariantDecl}
use Rattle.rx_typed.specs.Types.{Typ, Shapes, integer, boolean, tuple_of, reference, named, no_shape, shape_and}

mutual
  pub data RegionTyp : Type 0 where
    region_integer : Kind → RegionTyp
    region_boolean : RegionTyp
    region_tuple : RegionTyps → RegionTyp
    -- whether it is mutable, its lifetime, what it points to
    region_reference : Bool → ℕ → RegionTyp → RegionTyp
    -- a struct or enum, and its lifetimes
    region_named : ℕ → List ℕ → RegionTyp

  pub data RegionTyps : Type 0 where
    no_region : RegionTyps
    region_and : RegionTyp → RegionTyps → RegionTyps

abbrev pub regions_of : List RegionTyp → RegionTyps
regions_of [] = no_region
regions_of (t ∷ ts) = region_and t (regions_of ts)

-- the type without lifetimes
abbrev mutual
  pub erased : RegionTyp → Typ
  erased (region_integer k) = integer k
  erased region_boolean = boolean
  erased (region_tuple ts) = tuple_of (all_erased ts)
  erased (region_reference m l t) = reference m (erased t)
  erased (region_named i ls) = named i

  pub all_erased : RegionTyps → Shapes Kind
  all_erased no_region = no_shape
  all_erased (region_and t ts) = shape_and (erased t) (all_erased ts)

-- the lifetimes in a type, in order
abbrev mutual
  pub lifetimes_in : RegionTyp → List ℕ
  lifetimes_in (region_integer k) = []
  lifetimes_in region_boolean = []
  lifetimes_in (region_tuple ts) = lifetimes_among ts
  lifetimes_in (region_reference m l t) = l ∷ lifetimes_in t
  lifetimes_in (region_named i ls) = ls

  pub lifetimes_among : RegionTyps → List ℕ
  lifetimes_among no_region = []
  lifetimes_among (region_and t ts) = lifetimes_in t ++ lifetimes_among ts

-- ---- of a type of the code

abbrev pub region_step : Ty-F RegionTyp → RegionTyp
region_step (form.Int k) = region_integer k
region_step form.Bool = region_boolean
region_step (form.Tuple ts) = region_tuple (regions_of ts)
region_step (form.Shared l t) = region_reference false l t
region_step (form.Mut l t) = region_reference true l t
region_step (form.Adt i ls) = region_named i ls

unfoldable pub region-Ty : Ty → RegionTyp
region-Ty = fold-Ty RegionTyp region_step

pub region_of_integer : (k : Kind) → region-Ty (ty.Int k) ≡ region_integer k
unfolding region-Ty
region_of_integer k =
    ap (λ (x : Ty). fold-Ty RegionTyp region_step x) (sym (ty.rolls-Int k))
    ∙ fold-roll-Ty RegionTyp region_step (form.Int k)

pub region_of_boolean : region-Ty ty.Bool ≡ region_boolean
unfolding region-Ty
region_of_boolean =
    ap (λ (x : Ty). fold-Ty RegionTyp region_step x) (sym ty.rolls-Bool)
    ∙ fold-roll-Ty RegionTyp region_step form.Bool

pub region_of_tuple : (ts : List Ty) → region-Ty (ty.Tuple ts) ≡ region_tuple (regions_of (map region-Ty ts))
unfolding region-Ty
region_of_tuple ts =
    ap (λ (x : Ty). fold-Ty RegionTyp region_step x) (sym (ty.rolls-Tuple ts))
    ∙ fold-roll-Ty RegionTyp region_step (form.Tuple ts)

pub region_of_shared : (l : ℕ) (t : Ty) → region-Ty (ty.Shared l t) ≡ region_reference false l (region-Ty t)
unfolding region-Ty
region_of_shared l t =
    ap (λ (x : Ty). fold-Ty RegionTyp region_step x) (sym (ty.rolls-Shared l t))
    ∙ fold-roll-Ty RegionTyp region_step (form.Shared l t)

pub region_of_mut : (l : ℕ) (t : Ty) → region-Ty (ty.Mut l t) ≡ region_reference true l (region-Ty t)
unfolding region-Ty
region_of_mut l t =
    ap (λ (x : Ty). fold-Ty RegionTyp region_step x) (sym (ty.rolls-Mut l t))
    ∙ fold-roll-Ty RegionTyp region_step (form.Mut l t)

pub region_of_item : (i : ℕ) (ls : List ℕ) → region-Ty (ty.Adt i ls) ≡ region_named i ls
unfolding region-Ty
region_of_item i ls =
    ap (λ (x : Ty). fold-Ty RegionTyp region_step x) (sym (ty.rolls-Adt i ls))
    ∙ fold-roll-Ty RegionTyp region_step (form.Adt i ls)

-- ---- of declarations

abbrev pub region_fields : List FieldDecl → List RegionTyp
region_fields [] = []
region_fields (f ∷ fs) = region-Ty f.ty ∷ region_fields fs

abbrev pub region_variants : List VariantDecl → List RegionTyp
region_variants [] = []
region_variants (v ∷ vs) = map region-Ty v.parts ++ region_variants vs

-- the types that a struct or enum holds; a function holds none
abbrev pub held_regions : Decl → List RegionTyp
held_regions (decl.Struct c l vs fs) = region_fields fs
held_regions (decl.Enum c l vs ds) = region_variants ds
held_regions _ = []

-- those of each item
abbrev pub regions : List Decl → List (List RegionTyp)
regions ds = map held_regions ds

-- those of an item by its number; a number without an item holds none
abbrev pub regions_at : List (List RegionTyp) → ℕ → RegionTyps
regions_at H i = regions_of (slice_index_or H i [])
