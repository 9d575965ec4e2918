-- What of declarations does not depend on the bounds of a function: all but these. By cases on an item, and from there to what is
-- read of items: types of places, of temporaries, and how many lifetimes there are.
use Rattle.std.proofs.Common.{◌≡◌, ◌≢◌, ℕ, zero, suc, ◌+◌, List, [], ◌∷◌, ◌++◌, map, replicate, Option, Some, None, option_map, slice_get, refl, sym, ap, ◌∙◌}
use Rattle.rx_core.specs.declared.types.Bound.{Bound}
use Rattle.rx_core.specs.declared.types.Step.{Step}
use Rattle.rx_core.specs.declared.types.Step.TheVariants as step
use Rattle.rx_core.specs.declared.types.Ty.{Ty}
use Rattle.rx_typed.specs.declared.declarations.Decl.{Decl}
use Rattle.rx_typed.specs.declared.declarations.Decl.TheVariants as decl
use Rattle.rx_typed.specs.Regions.{RegionTyp, region_integer, region_boolean, region_tuple, region_reference, region_named, RegionTyps, held_regions, regions}
use Rattle.rx_typed.specs.Tree.{Making, constant, negation, inversion, operation, lazy, tuple, struct, variant_of}
use Rattle.rx_lower_walks.specs.Actions.{Act, Declare, Dead, Read, Write, Borrow, Test, Call, Build, Input, Print, Give, Action, filled}
use Rattle.rx_typed.specs.Renaming.{instance}
use Rattle.rx_typed.specs.Places as places
use Rattle.rx_typed.specs.Places.{fields_of, part_at, item_behind, behind, place_type}
use Rattle.rx_lower_lifetimes.specs.Values.{Open, KnownTypes, Held, lifetimes_of, root_type, made_item, made_type, result_type, value_type, hold, held_by, held_type}
use Rattle.rx_lower_lifetimes.specs.Positions.{own_lifetimes}
use Rattle.rx_lower_lifetimes.specs.Lowered.{parameters}
use Rattle.rx_typed_declarations.specs.Variance.{variances_recorded}
use Rattle.rx_repair.specs.Bounded.{bounded, with_bounds}

module _ (bs : List Bound) where
  -- what is told of an item is told of it with other bounds
  pub of_item : {A : Type 0} (k : Option Decl → A) → ((d : Decl) → k (Some (bounded bs d)) ≡ k (Some d)) → (D : List Decl) (i j : ℕ) → k (slice_get (with_bounds D i bs) j) ≡ k (slice_get D j)
  of_item k same [] i j = refl
  of_item k same (d ∷ D) zero zero = same d
  of_item k same (d ∷ D) zero (suc j) = refl
  of_item k same (d ∷ D) (suc i) zero = refl
  of_item k same (d ∷ D) (suc i) (suc j) = of_item k same D i j

  -- another item is what it was
  pub elsewhere : (D : List Decl) (i n : ℕ) → n ≢ i → slice_get (with_bounds D i bs) n ≡ slice_get D n
  elsewhere [] i n h = refl
  elsewhere (d ∷ D) zero zero h = absurd (h refl)
  elsewhere (d ∷ D) zero (suc n) h = refl
  elsewhere (d ∷ D) (suc i) zero h = refl
  elsewhere (d ∷ D) (suc i) (suc n) h = elsewhere D i n (λ e. h (ap suc e))

  pub at_item : (D : List Decl) (i : ℕ) → slice_get (with_bounds D i bs) i ≡ option_map (bounded bs) (slice_get D i)
  at_item [] i = refl
  at_item (d ∷ D) zero = refl
  at_item (d ∷ D) (suc i) = at_item D i

  lifetimes_same : (d : Decl) → lifetimes_of (Some (bounded bs d)) ≡ lifetimes_of (Some d)
  lifetimes_same decl.Rt = refl
  lifetimes_same (decl.Struct c l vs fs) = refl
  lifetimes_same (decl.Enum c l vs ds) = refl
  lifetimes_same (decl.Func l ps t old) = refl

  result_same : (d : Decl) → result_type (Some (bounded bs d)) ≡ result_type (Some d)
  result_same decl.Rt = refl
  result_same (decl.Struct c l vs fs) = refl
  result_same (decl.Enum c l vs ds) = refl
  result_same (decl.Func l ps t old) = refl

  parameters_same : (d : Decl) → parameters (Some (bounded bs d)) ≡ parameters (Some d)
  parameters_same decl.Rt = refl
  parameters_same (decl.Struct c l vs fs) = refl
  parameters_same (decl.Enum c l vs ds) = refl
  parameters_same (decl.Func l ps t old) = refl

  variances_same : (d : Decl) → variances_recorded (Some (bounded bs d)) ≡ variances_recorded (Some d)
  variances_same decl.Rt = refl
  variances_same (decl.Struct c l vs fs) = refl
  variances_same (decl.Enum c l vs ds) = refl
  variances_same (decl.Func l ps t old) = refl

  fields_same : (d : Decl) → fields_of (Some (bounded bs d)) ≡ fields_of (Some d)
  fields_same decl.Rt = refl
  fields_same (decl.Struct c l vs fs) = refl
  fields_same (decl.Enum c l vs ds) = refl
  fields_same (decl.Func l ps t old) = refl

  variant_same : (v : ℕ) (d : Decl) → places.variant_of (Some (bounded bs d)) v ≡ places.variant_of (Some d) v
  variant_same v decl.Rt = refl
  variant_same v (decl.Struct c l vs fs) = refl
  variant_same v (decl.Enum c l vs ds) = refl
  variant_same v (decl.Func l ps t old) = refl

  held_regions_same : (d : Decl) → held_regions (bounded bs d) ≡ held_regions d
  held_regions_same decl.Rt = refl
  held_regions_same (decl.Struct c l vs fs) = refl
  held_regions_same (decl.Enum c l vs ds) = refl
  held_regions_same (decl.Func l ps t old) = refl

  pub regions_same : (D : List Decl) (i : ℕ) → regions (with_bounds D i bs) ≡ regions D
  regions_same [] i = refl
  regions_same (d ∷ D) zero = λ j. held_regions_same d j ∷ regions D
  regions_same (d ∷ D) (suc i) = ap (λ (rs : List (List RegionTyp)). held_regions d ∷ rs) (regions_same D i)

  item_behind_same : (ls : List ℕ) (s : Step) (d : Decl) → item_behind (Some (bounded bs d)) ls s ≡ item_behind (Some d) ls s
  item_behind_same ls (step.Field n) d = ap (λ (ts : RegionTyps). instance ls (part_at ts n)) (fields_same d)
  item_behind_same ls (step.Variant v) d = ap (λ (ts : RegionTyps). instance ls (region_tuple ts)) (variant_same v d)
  item_behind_same ls (step.Deref k) d = refl

  module _ (D : List Decl) (i : ℕ) where
    abbrev other : List Decl
    other = with_bounds D i bs

    pub lifetimes_at : (n : ℕ) → lifetimes_of (slice_get other n) ≡ lifetimes_of (slice_get D n)
    lifetimes_at n = of_item lifetimes_of lifetimes_same D i n

    pub result_at : (n : ℕ) → result_type (slice_get other n) ≡ result_type (slice_get D n)
    result_at n = of_item result_type result_same D i n

    pub parameters_at : (n : ℕ) → parameters (slice_get other n) ≡ parameters (slice_get D n)
    parameters_at n = of_item parameters parameters_same D i n

    pub variances_at : (n : ℕ) → variances_recorded (slice_get other n) ≡ variances_recorded (slice_get D n)
    variances_at n = of_item variances_recorded variances_same D i n

    pub fields_at : (n : ℕ) → fields_of (slice_get other n) ≡ fields_of (slice_get D n)
    fields_at n = of_item fields_of fields_same D i n

    pub variant_at : (n v : ℕ) → places.variant_of (slice_get other n) v ≡ places.variant_of (slice_get D n) v
    variant_at n v = of_item (λ (o : Option Decl). places.variant_of o v) (variant_same v) D i n

    pub behind_same : (t : RegionTyp) (s : Step) → behind other t s ≡ behind D t s
    behind_same (region_integer k) s = refl
    behind_same region_boolean s = refl
    behind_same (region_tuple ts) s = refl
    behind_same (region_reference m l t) s = refl
    behind_same (region_named k ls) s = of_item (λ (o : Option Decl). item_behind o ls s) (item_behind_same ls s) D i k

    pub place_same : (t : RegionTyp) (ss : List Step) → place_type other t ss ≡ place_type D t ss
    place_same t [] = refl
    place_same t (s ∷ ss) = ap (λ (x : RegionTyp). place_type other x ss) (behind_same t s) ∙ place_same (behind D t s) ss

    made_item_same : (n : ℕ) → made_item other n ≡ made_item D n
    made_item_same n = ap (λ k. region_named n (replicate k 0)) (lifetimes_at n)

    made_same : (w : Making) (ts : List RegionTyp) → made_type other w ts ≡ made_type D w ts
    made_same (constant c) ts = refl
    made_same negation ts = refl
    made_same inversion ts = refl
    made_same (operation o) ts = refl
    made_same lazy ts = refl
    made_same tuple ts = refl
    made_same (struct n) ts = made_item_same n
    made_same (variant_of n v) ts = made_item_same n

    abbrev knowing : List Decl → List Open → KnownTypes
    knowing D V = record { items = D; variables = V }

    value_same : (V : List Open) (H : List Held) (a : Act) → value_type (knowing other V) H a ≡ value_type (knowing D V) H a
    value_same V H (Declare x) = refl
    value_same V H (Dead x) = refl
    value_same V H (Read m p d) = place_same (root_type (knowing D V) H p.root) p.steps
    value_same V H (Write p t ss) = refl
    value_same V H (Borrow k p d) = ap (region_reference k 0) (place_same (root_type (knowing D V) H p.root) p.steps)
    value_same V H (Test p c) = refl
    value_same V H (Call f ts d) = result_at f
    value_same V H (Build w is ts d) = made_same w (map (held_type H) ts)
    value_same V H (Input d) = refl
    value_same V H (Print t) = refl
    value_same V H (Give t) = refl

    pub held_same : (V : List Open) (us : List Action) (H : List Held) → held_by (knowing other V) H us ≡ held_by (knowing D V) H us
    held_same V [] H = refl
    held_same V (a ∷ us) H = ap (λ (t : RegionTyp). held_by (knowing other V) (hold H (filled a.act) t) us) (value_same V H a.act)
        ∙ held_same V us (hold H (filled a.act) (value_type (knowing D V) H a.act))

    pub own_lifetimes_same : (a : Act) → own_lifetimes other a ≡ own_lifetimes D a
    own_lifetimes_same (Declare x) = refl
    own_lifetimes_same (Dead x) = refl
    own_lifetimes_same (Read m p d) = refl
    own_lifetimes_same (Write p t ss) = refl
    own_lifetimes_same (Borrow k p d) = refl
    own_lifetimes_same (Test p c) = refl
    own_lifetimes_same (Call f ts d) = lifetimes_at f
    own_lifetimes_same (Build w is ts d) = refl
    own_lifetimes_same (Input d) = refl
    own_lifetimes_same (Print t) = refl
    own_lifetimes_same (Give t) = refl
