-- The types of places and of the parts of what is made, with other lifetimes: where types have as many lifetimes as what they name
-- declares, a field has the lifetimes of its struct's type.
use Rattle.std.proofs.Common.{◌≡◌, ℕ, zero, suc, ◌<◌, Bool, true, false, ◌&&◌, nat_lt, nat_eq, if◌then◌else◌, List, [], ◌∷◌, ◌++◌, length, map, Option, Some, None, option_map, slice_get, refl, sym, ap, subst, ◌∙◌}
use Rattle.std.proofs.lemmas.Bool.{and_parts, ltb-true, eqb-true}
use Rattle.std.proofs.lemmas.List.{length-map, get_or-map}
use Rattle.std.proofs.lemmas.Option.{slice_get-map}
use Rattle.rx_core.specs.declared.types.Step.{Step}
use Rattle.rx_core.specs.declared.types.Step.TheVariants as step
use Rattle.rx_typed.specs.declared.declarations.Decl.{Decl}
use Rattle.rx_typed.specs.declared.declarations.Decl.TheVariants as decl
use Rattle.rx_typed.specs.declared.declarations.VariantDecl.{VariantDecl}
use Rattle.rx_typed.specs.PlainTypes.{declarations, plain-Decl}
use Rattle.rx_typed.specs.Regions.{RegionTyp, region_integer, region_boolean, region_tuple, region_reference, region_named, RegionTyps, no_region, region_and, regions_of, region-Ty, region_fields, region_variants}
use Rattle.rx_typed.specs.Types.{Declarations, lifetimes_declared}
use Rattle.rx_typed.specs.Tree.{tuple, struct, variant_of}
use Rattle.rx_typed_declarations.specs.WellFormed.{is_adt, all_below, fits, all_fit, item_fits}
use Rattle.rx_typed.specs.Renaming.{renamed, all_renamed, bound_renamed, of_list, instance, unit_region}
use Rattle.rx_typed.specs.Places as places
use Rattle.rx_typed.specs.Places.{part_at, fields_of, parts_of, item_behind, behind, place_type}
use Rattle.rx_region_outlives.specs.Related.{outlives}
use Rattle.rx_region.specs.Constraints.{lifetimes_of, tuple_parts, instances, made_parts, goes_shared, through, reborrows}
use Rattle.rx_repair.specs.Fitting.{AsMany, HasAll, HaveAll}
use Rattle.rx_compact_accepted.proofs.TypesRenamed.{both_lists}

-- ---- an item's type, where its lifetimes are these

module _ (f : ℕ → ℕ) (E : Declarations) (n : ℕ) (ls : List ℕ) (long : length ls ≡ n) where
  list_is : (ks : List ℕ) → all_below n ks ≡ true → map (of_list (map f ls)) ks ≡ map f (map (of_list ls) ks)
  list_is [] h = refl
  list_is (k ∷ ks) h =
      let x = and_parts (nat_lt k n) (all_below n ks) h in
      let below : k < length ls = subst (λ (m : ℕ). k < m) (sym long) (ltb-true k n x.0) in
      λ j. get_or-map f ls k 0 0 below j ∷ list_is ks x.1 j

  mutual
    pub instance_is : (t : RegionTyp) → fits E n t ≡ true → instance (map f ls) t ≡ renamed f (instance ls t)
    instance_is (region_integer k) h = refl
    instance_is region_boolean h = refl
    instance_is (region_tuple ts) h = ap (λ (us : RegionTyps). region_tuple us) (row_is ts h)
    instance_is (region_reference m l t) h =
        let x = and_parts (nat_lt l n) (fits E n t) h in
        let below : l < length ls = subst (λ (m : ℕ). l < m) (sym long) (ltb-true l n x.0) in
        λ j. region_reference m (get_or-map f ls l 0 0 below j) (instance_is t x.1 j)
    instance_is (region_named i ks) h =
        ap (λ (xs : List ℕ). region_named i xs) (list_is ks (and_parts (is_adt (slice_get E i) && nat_eq (length ks) (lifetimes_declared (slice_get E i))) (all_below n ks) h).1)

    row_is : (ts : RegionTyps) → all_fit E n ts ≡ true → all_renamed (of_list (map f ls)) ts ≡ all_renamed f (all_renamed (of_list ls) ts)
    row_is no_region h = refl
    row_is (region_and t ts) h = let x = and_parts (fits E n t) (all_fit E n ts) h in λ j. region_and (instance_is t x.0 j) (row_is ts x.1 j)

  pub instances_are : (ts : RegionTyps) → all_fit E n ts ≡ true → instances (map f ls) ts ≡ all_renamed f (instances ls ts)
  instances_are no_region h = refl
  instances_are (region_and t ts) h = let x = and_parts (fits E n t) (all_fit E n ts) h in λ j. region_and (instance_is t x.0 j) (instances_are ts x.1 j)

-- it has all lifetimes still
module _ (g : ℕ → ℕ) (E : Declarations) (n : ℕ) where
  mutual
    pub fitting_has : (t : RegionTyp) → fits E n t ≡ true → HasAll E (renamed g t)
    fitting_has (region_integer k) h = tt
    fitting_has region_boolean h = tt
    fitting_has (region_tuple ts) h = fitting_have ts h
    fitting_has (region_reference m l t) h = fitting_has t (and_parts (nat_lt l n) (fits E n t) h).1
    fitting_has (region_named i ks) h =
        let x = and_parts (is_adt (slice_get E i) && nat_eq (length ks) (lifetimes_declared (slice_get E i))) (all_below n ks) h in
        let y = and_parts (is_adt (slice_get E i)) (nat_eq (length ks) (lifetimes_declared (slice_get E i))) x.0 in
        length-map ks g ∙ eqb-true (length ks) (lifetimes_declared (slice_get E i)) y.1

    pub fitting_have : (ts : RegionTyps) → all_fit E n ts ≡ true → HaveAll E (all_renamed g ts)
    fitting_have no_region h = tt
    fitting_have (region_and t ts) h = let x = and_parts (fits E n t) (all_fit E n ts) h in (fitting_has t x.0, fitting_have ts x.1)

-- ---- parts of what fits

part_fits : (E : Declarations) (n : ℕ) (ts : RegionTyps) (i : ℕ) → all_fit E n ts ≡ true → fits E n (part_at ts i) ≡ true
part_fits E n no_region i h = refl
part_fits E n (region_and t ts) zero h = (and_parts (fits E n t) (all_fit E n ts) h).0
part_fits E n (region_and t ts) (suc i) h = part_fits E n ts i (and_parts (fits E n t) (all_fit E n ts) h).1

front_fits : (E : Declarations) (n : ℕ) (xs ys : List RegionTyp) → all_fit E n (regions_of (xs ++ ys)) ≡ true → (all_fit E n (regions_of xs) ≡ true) × (all_fit E n (regions_of ys) ≡ true)
front_fits E n [] ys h = (refl, h)
front_fits E n (x ∷ xs) ys h =
    let p = and_parts (fits E n x) (all_fit E n (regions_of (xs ++ ys))) h in
    let q = front_fits E n xs ys p.1 in
    ((λ j. p.0 j && q.0 j), q.1)

variant_fits : (E : Declarations) (n : ℕ) (ds : List VariantDecl) (v : ℕ) → all_fit E n (regions_of (region_variants ds)) ≡ true → all_fit E n (parts_of (slice_get ds v)) ≡ true
variant_fits E n [] v h = refl
variant_fits E n (d ∷ ds) zero h = (front_fits E n (map region-Ty d.parts) (region_variants ds) h).0
variant_fits E n (d ∷ ds) (suc v) h = variant_fits E n ds v (front_fits E n (map region-Ty d.parts) (region_variants ds) h).1

pub part_is : (f : ℕ → ℕ) (ts : RegionTyps) (i : ℕ) → part_at (all_renamed f ts) i ≡ renamed f (part_at ts i)
part_is f no_region i = refl
part_is f (region_and t ts) zero = refl
part_is f (region_and t ts) (suc i) = part_is f ts i

part_has : (E : Declarations) (ts : RegionTyps) (i : ℕ) → HaveAll E ts → HasAll E (part_at ts i)
part_has E no_region i h = tt
part_has E (region_and t ts) zero h = h.0
part_has E (region_and t ts) (suc i) h = part_has E ts i h.1

-- ---- what stands at a place

abbrev pub Good : List Decl → Type 0
Good D = (i : ℕ) (d : Decl) → slice_get D i ≡ Some d → item_fits (declarations D) d ≡ true

-- so many lifetimes are declared
pub declares : (D : List Decl) (i : ℕ) (d : Decl) → slice_get D i ≡ Some d → lifetimes_declared (slice_get (declarations D) i) ≡ lifetimes_declared (Some (plain-Decl d))
declares D i d e = ap lifetimes_declared (slice_get-map plain-Decl D i ∙ ap (option_map plain-Decl) e)

module _ (f : ℕ → ℕ) (D : List Decl) (good : Good D) where
  abbrev E : Declarations
  E = declarations D

  -- with other lifetimes the same, and of all lifetimes
  pub record Same (u t : RegionTyp) : Type 0 where
    pub is : u ≡ renamed f t
    pub has : HasAll (declarations D) t

  unit_same : Same unit_region unit_region
  unit_same = record { is = refl; has = tt }

  item_is : (k : ℕ) (ls : List ℕ) → AsMany (declarations D) k ls → (o : Option Decl) → slice_get D k ≡ o → (s : Step) → Same (item_behind o (map f ls) s) (item_behind o ls s)
  item_is k ls h None e (step.Field i) = unit_same
  item_is k ls h None e (step.Variant v) = unit_same
  item_is k ls h (Some decl.Rt) e (step.Field i) = unit_same
  item_is k ls h (Some decl.Rt) e (step.Variant v) = unit_same
  item_is k ls h (Some (decl.Func l ps t bs)) e (step.Field i) = unit_same
  item_is k ls h (Some (decl.Func l ps t bs)) e (step.Variant v) = unit_same
  item_is k ls h (Some (decl.Struct c l vs fs)) e (step.Field i) =
      let long : length ls ≡ l = h ∙ declares D k (decl.Struct c l vs fs) e in
      let x = part_fits (declarations D) l (regions_of (region_fields fs)) i (good k (decl.Struct c l vs fs) e) in
      record { is = instance_is f (declarations D) l ls long (part_at (regions_of (region_fields fs)) i) x; has = fitting_has (of_list ls) (declarations D) l (part_at (regions_of (region_fields fs)) i) x }
  item_is k ls h (Some (decl.Struct c l vs fs)) e (step.Variant v) = unit_same
  item_is k ls h (Some (decl.Enum c l vs ds)) e (step.Field i) = unit_same
  item_is k ls h (Some (decl.Enum c l vs ds)) e (step.Variant v) =
      let long : length ls ≡ l = h ∙ declares D k (decl.Enum c l vs ds) e in
      let x = variant_fits (declarations D) l ds v (good k (decl.Enum c l vs ds) e) in
      record { is = instance_is f (declarations D) l ls long (region_tuple (parts_of (slice_get ds v))) x; has = fitting_has (of_list ls) (declarations D) l (region_tuple (parts_of (slice_get ds v))) x }
  item_is k ls h o e (step.Deref m) = unit_same

  pub behind_is : (t : RegionTyp) (s : Step) → HasAll (declarations D) t → Same (behind D (renamed f t) s) (behind D t s)
  behind_is (region_integer k) s h = unit_same
  behind_is region_boolean s h = unit_same
  behind_is (region_tuple ts) (step.Field i) h = record { is = part_is f ts i; has = part_has (declarations D) ts i h }
  behind_is (region_tuple ts) (step.Variant v) h = unit_same
  behind_is (region_tuple ts) (step.Deref k) h = unit_same
  behind_is (region_reference m l t) (step.Deref k) h = record { is = refl; has = h }
  behind_is (region_reference m l t) (step.Field i) h = unit_same
  behind_is (region_reference m l t) (step.Variant v) h = unit_same
  behind_is (region_named k ls) s h = item_is k ls h (slice_get D k) refl s

  pub place_is : (t : RegionTyp) (ss : List Step) → HasAll (declarations D) t → place_type D (renamed f t) ss ≡ renamed f (place_type D t ss)
  place_is t [] h = refl
  place_is t (s ∷ ss) h = let x = behind_is t s h in ap (λ (u : RegionTyp). place_type D u ss) x.is ∙ place_is (behind D t s) ss x.has

  -- ---- borrows

  unless : (b : Bool) (l r : ℕ) → (if b then [] else outlives (f l) (f r) ∷ []) ≡ map (bound_renamed f) (if b then [] else outlives l r ∷ [])
  unless true l r = refl
  unless false l r = refl

  through_is : (t : RegionTyp) (r : ℕ) (ss : List Step) → through (renamed f t) (f r) ss ≡ map (bound_renamed f) (through t r ss)
  through_is (region_reference m l t) r ss = unless (goes_shared ss) l r
  through_is _ r ss = refl

  pub reborrows_are : (t : RegionTyp) (r : ℕ) (ss : List Step) → HasAll (declarations D) t → reborrows D (renamed f t) (f r) ss ≡ map (bound_renamed f) (reborrows D t r ss)
  reborrows_are t r [] h = refl
  reborrows_are t r (step.Deref k ∷ ss) h =
      let x = behind_is t (step.Deref k) h in
      both_lists f (through t r ss) (reborrows D (behind D t (step.Deref k)) r ss) (through (renamed f t) (f r) ss) (reborrows D (behind D (renamed f t) (step.Deref k)) (f r) ss)
      (through_is t r ss) (ap (λ (u : RegionTyp). reborrows D u (f r) ss) x.is ∙ reborrows_are (behind D t (step.Deref k)) r ss x.has)
  reborrows_are t r (step.Field i ∷ ss) h =
      let x = behind_is t (step.Field i) h in ap (λ (u : RegionTyp). reborrows D u (f r) ss) x.is ∙ reborrows_are (behind D t (step.Field i)) r ss x.has
  reborrows_are t r (step.Variant v ∷ ss) h =
      let x = behind_is t (step.Variant v) h in ap (λ (u : RegionTyp). reborrows D u (f r) ss) x.is ∙ reborrows_are (behind D t (step.Variant v)) r ss x.has

  -- ---- what is made

  tuple_is : (t : RegionTyp) → tuple_parts (renamed f t) ≡ all_renamed f (tuple_parts t)
  tuple_is (region_tuple ts) = refl
  tuple_is _ = refl

  its_lifetimes : (t : RegionTyp) → lifetimes_of (renamed f t) ≡ map f (lifetimes_of t)
  its_lifetimes (region_named i ls) = refl
  its_lifetimes _ = refl

  fields_are : (k : ℕ) (ls : List ℕ) → AsMany (declarations D) k ls → (o : Option Decl) → slice_get D k ≡ o → instances (map f ls) (fields_of o) ≡ all_renamed f (instances ls (fields_of o))
  fields_are k ls h (Some (decl.Struct c l vs fs)) e =
      instances_are f (declarations D) l ls (h ∙ declares D k (decl.Struct c l vs fs) e) (regions_of (region_fields fs)) (good k (decl.Struct c l vs fs) e)
  fields_are k ls h (Some (decl.Enum c l vs ds)) e = refl
  fields_are k ls h (Some (decl.Func l ps t bs)) e = refl
  fields_are k ls h (Some decl.Rt) e = refl
  fields_are k ls h None e = refl

  parts_are : (k v : ℕ) (ls : List ℕ) → AsMany (declarations D) k ls → (o : Option Decl) → slice_get D k ≡ o → instances (map f ls) (places.variant_of o v) ≡ all_renamed f (instances ls (places.variant_of o v))
  parts_are k v ls h (Some (decl.Enum c l vs ds)) e =
      instances_are f (declarations D) l ls (h ∙ declares D k (decl.Enum c l vs ds) e) (parts_of (slice_get ds v)) (variant_fits (declarations D) l ds v (good k (decl.Enum c l vs ds) e))
  parts_are k v ls h (Some (decl.Struct c l vs fs)) e = refl
  parts_are k v ls h (Some (decl.Func l ps t bs)) e = refl
  parts_are k v ls h (Some decl.Rt) e = refl
  parts_are k v ls h None e = refl

  pub struct_is : (i : ℕ) (t : RegionTyp) → AsMany (declarations D) i (lifetimes_of t) → made_parts D (struct i) (renamed f t) ≡ all_renamed f (made_parts D (struct i) t)
  struct_is i t h = ap (λ (ls : List ℕ). instances ls (fields_of (slice_get D i))) (its_lifetimes t) ∙ fields_are i (lifetimes_of t) h (slice_get D i) refl

  pub variant_is : (i v : ℕ) (t : RegionTyp) → AsMany (declarations D) i (lifetimes_of t) → made_parts D (variant_of i v) (renamed f t) ≡ all_renamed f (made_parts D (variant_of i v) t)
  variant_is i v t h = ap (λ (ls : List ℕ). instances ls (places.variant_of (slice_get D i) v)) (its_lifetimes t) ∙ parts_are i v (lifetimes_of t) h (slice_get D i) refl

  pub tuple_made : (t : RegionTyp) → made_parts D tuple (renamed f t) ≡ all_renamed f (made_parts D tuple t)
  tuple_made t = tuple_is t
