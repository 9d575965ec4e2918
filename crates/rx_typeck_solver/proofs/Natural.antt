-- Making types of others does not depend on how integer types are told.
use Rattle.std.proofs.Common.{◌≡◌, ℕ, zero, suc, Bool, true, false, List, [], ◌∷◌, map, slice_get, Option, Some, None, refl, sym, ap, ◌∙◌}
use Rattle.std.specs.Prelude.{option_map}
use Rattle.rx_core.specs.declared.types.Kind.{Kind}
use Rattle.rx_typed.specs.Types.{Shape, Shapes, integer, boolean, tuple_of, reference, named, no_shape, shape_and, Typ, shape_map, shapes_map, outline, shapes_listed, shapes_of, peeled, references, outermost, Declarations, field_typ, fields_declared}
use Rattle.rx_typeck_solver.specs.declared.facts.Op.{Op}
use Rattle.rx_typeck_solver.specs.declared.facts.Op.TheVariants as op
use Rattle.rx_typeck_solver.specs.Facts.{gone_through, bound, coerced, fixed, field_of, part_of, pointee, of_one, of_two, made}

mutual
  pub map_twice : {K L M : Type 0} (f : K → L) (g : L → M) (h : K → M) → ((k : K) → g (f k) ≡ h k) → (t : Shape K) → shape_map g (shape_map f t) ≡ shape_map h t
  map_twice f g h e (integer k) = ap integer (e k)
  map_twice f g h e boolean = refl
  map_twice f g h e (tuple_of ts) = ap tuple_of (maps_twice f g h e ts)
  map_twice f g h e (reference m t) = ap (reference m) (map_twice f g h e t)
  map_twice f g h e (named i) = refl

  maps_twice : {K L M : Type 0} (f : K → L) (g : L → M) (h : K → M) → ((k : K) → g (f k) ≡ h k) → (ts : Shapes K) → shapes_map g (shapes_map f ts) ≡ shapes_map h ts
  maps_twice f g h e no_shape = refl
  maps_twice f g h e (shape_and t ts) = ap (λ u. shape_and u (shapes_map g (shapes_map f ts))) (map_twice f g h e t) ∙ ap (shape_and (shape_map h t)) (maps_twice f g h e ts)

pub outline_map : {K L : Type 0} (f : K → L) (t : Shape K) → outline (shape_map f t) ≡ outline t
outline_map f t = map_twice f (λ k. tt) (λ k. tt) (λ k. refl) t

pub outlines_map : {K L : Type 0} (f : K → L) (ts : List (Shape K)) → map outline (map (shape_map f) ts) ≡ map outline ts
outlines_map f [] = refl
outlines_map f (t ∷ ts) = ap (λ u. u ∷ map outline (map (shape_map f) ts)) (outline_map f t) ∙ ap (λ us. outline t ∷ us) (outlines_map f ts)

pub peeled_map : {K L : Type 0} (f : K → L) (t : Shape K) → peeled (shape_map f t) ≡ shape_map f (peeled t)
peeled_map f (reference m t) = peeled_map f t
peeled_map f _ = refl

pub references_map : {K L : Type 0} (f : K → L) (t : Shape K) → references (shape_map f t) ≡ references t
references_map f (reference m t) = ap (λ ms. m ∷ ms) (references_map f t)
references_map f _ = refl

pub outermost_map : {K L : Type 0} (f : K → L) (t : Shape K) → outermost (shape_map f t) ≡ outermost t
outermost_map f (reference m t) = refl
outermost_map f _ = refl

pub gone_map : {K L : Type 0} (f : K → L) (all : Bool) (t : Shape K) → gone_through all (shape_map f t) ≡ gone_through all t
gone_map f true t = references_map f t
gone_map f false t = outermost_map f t

shapes_of_map : {K L : Type 0} (f : K → L) (ts : List (Shape K)) → shapes_of (map (shape_map f) ts) ≡ shapes_map f (shapes_of ts)
shapes_of_map f [] = refl
shapes_of_map f (t ∷ ts) = ap (shape_and (shape_map f t)) (shapes_of_map f ts)

part_map : {K L : Type 0} (f : K → L) (ts : Shapes K) (k : ℕ) → slice_get (shapes_listed (shapes_map f ts)) k ≡ option_map (shape_map f) (slice_get (shapes_listed ts) k)
part_map f no_shape k = refl
part_map f (shape_and t ts) zero = refl
part_map f (shape_and t ts) (suc k) = part_map f ts k

module _ {K L : Type 0} (f : K → L) (fix : Kind → K) (fix' : Kind → L) (e : (k : Kind) → f (fix k) ≡ fix' k) where
  fixed_map : (o : Option Typ) → fixed fix' o ≡ option_map (shape_map f) (fixed fix o)
  fixed_map None = refl
  fixed_map (Some t) = ap Some (sym (map_twice fix f fix' e t))

  field_map : (D : Declarations) (x : List ℕ) (t : Shape K) → field_of fix' D x (shape_map f t) ≡ option_map (shape_map f) (field_of fix D x t)
  field_map D x (named i) = fixed_map (field_typ (fields_declared (slice_get D i)) x)
  field_map D x _ = refl

  pub parts_map : (k : ℕ) (t : Shape K) → part_of k (shape_map f t) ≡ option_map (shape_map f) (part_of k t)
  parts_map k (tuple_of ts) = part_map f ts k
  parts_map k _ = refl

  pointee_map : (t : Shape K) → pointee (shape_map f t) ≡ option_map (shape_map f) (pointee t)
  pointee_map (reference m t) = refl
  pointee_map _ = refl

  bound_map : (ms : List Bool) (t : Shape K) → bound ms (shape_map f t) ≡ shape_map f (bound ms t)
  bound_map [] t = refl
  bound_map (m ∷ ms) t = refl

  coerced_map : (t u : Shape K) → coerced (shape_map f t) (shape_map f u) ≡ shape_map f (coerced t u)
  coerced_map (reference true t) (reference false u) = refl
  coerced_map (reference true t) (reference true u) = refl
  coerced_map (reference true t) _ = refl
  coerced_map (reference false t) u = refl
  coerced_map _ u = refl

  one_map : (g : Shape K → Option (Shape K)) (h : Shape L → Option (Shape L)) → ((t : Shape K) → h (shape_map f t) ≡ option_map (shape_map f) (g t)) → (ts : List (Shape K)) → of_one h (map (shape_map f) ts) ≡ option_map (shape_map f) (of_one g ts)
  one_map g h n [] = refl
  one_map g h n (t ∷ []) = n t
  one_map g h n (t ∷ u ∷ ts) = refl

  two_map : (ts : List (Shape K)) → of_two (λ t u. Some (coerced t u)) (map (shape_map f) ts) ≡ option_map (shape_map f) (of_two (λ t u. Some (coerced t u)) ts)
  two_map [] = refl
  two_map (t ∷ []) = refl
  two_map (t ∷ u ∷ []) = ap Some (coerced_map t u)
  two_map (t ∷ u ∷ v ∷ ts) = refl

  pub made_map : (D : Declarations) (o : Op) (ts : List (Shape K)) (ms : List Bool) → made fix' D o (map (shape_map f) ts) ms ≡ option_map (shape_map f) (made fix D o ts ms)
  made_map D op.Same ts ms = one_map _ _ (λ t. refl) ts
  made_map D op.Pointee ts ms = one_map _ _ pointee_map ts
  made_map D (op.Referring m) ts ms = one_map _ _ (λ t. refl) ts
  made_map D op.Tuple ts ms = ap (λ us. Some (tuple_of us)) (shapes_of_map f ts)
  made_map D (op.Field x) ts ms = one_map _ _ (λ t. ap (field_of fix' D x) (peeled_map f t) ∙ field_map D x (peeled t)) ts
  made_map D (op.Part k) ts ms = one_map _ _ (λ t. ap (part_of k) (peeled_map f t) ∙ parts_map k (peeled t)) ts
  made_map D (op.Integer k) ts ms = ap (λ l. Some (integer l)) (sym (e k))
  made_map D op.Truth ts ms = refl
  made_map D op.Unit ts ms = refl
  made_map D (op.Item i) ts ms = refl
  made_map D (op.Parameter g k) ts ms = fixed_map _
  made_map D (op.Result g) ts ms = fixed_map _
  made_map D (op.FieldOf i x) ts ms = fixed_map _
  made_map D (op.PartOf i v k) ts ms = fixed_map _
  made_map D op.Bound ts ms = one_map _ _ (λ t. ap Some (bound_map ms t)) ts
  made_map D op.Coerced ts ms = two_map ts
