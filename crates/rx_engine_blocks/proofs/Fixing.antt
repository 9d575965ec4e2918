-- What a signature and written types fix: the same type in each assignment.
use Rattle.std.proofs.Common.{◌≡◌, ℕ, Bool, true, false, List, [], ◌∷◌, ◌++◌, Option, Some, None, refl, sym, ap, ◌∙◌}
use Rattle.rx_typed.specs.declared.nodes.Node.{Node}
use Rattle.rx_typed.specs.Types.{Typ, integer, boolean, tuple_of, reference, named as item, shapes_of, outline}
use Rattle.rx_typed.specs.Named as named
use Rattle.rx_typed.specs.Named.{Written, WrittenTypes, Parameter, written_node}
use Rattle.rx_typeck_solver.specs.declared.facts.Subject.TheVariants as subject
use Rattle.rx_typeck_solver.specs.declared.facts.Demand.{Demand}
use Rattle.rx_typeck_solver.specs.Facts.{Assignment, KnownItems, coerced, types_at, MeetsAll, MeetsEach}
use Rattle.rx_typeck_typed.specs.Asking.{type_of}
use Rattle.rx_typeck_typed.specs.Demands as rules
use Rattle.rx_engine_blocks.specs.Signature.{typ_written, typs_written, AsWritten}
use Rattle.rx_engine_blocks.proofs.Meets.{first}

module _ (D : KnownItems) (C : Assignment) where
  -- demands in front of the last
  front : (ds : List Demand) (d : Demand) → MeetsEach D C (ds ++ d ∷ []) → MeetsEach D C ds
  front ds d h = (first D C ds (d ∷ []) h).0

  back : (ds : List Demand) (d : Demand) → MeetsEach D C (ds ++ d ∷ []) → MeetsAll D C d.facts
  back ds d h = (first D C ds (d ∷ []) h).1.0

  some_same : (t u : Typ) → ◌≡◌ {A = Option Typ} (Some t) (Some u) → t ≡ u
  some_same t u e = cc

  lifetimes_front : (n : Node) (i : ℕ) (ls : Option ℕ) (ds : List Demand) → MeetsEach D C (rules.lifetimes_asked n i ls ds) → MeetsEach D C ds
  lifetimes_front n i None ds h = h
  lifetimes_front n i (Some k) ds h = front ds _ h

  mutual
    type_front : (t : Written) (ds : List Demand) → MeetsEach D C (rules.of_type t ds) → MeetsEach D C ds
    type_front (named.a_kind n k) ds h = front ds _ h
    type_front (named.a_bool n) ds h = front ds _ h
    type_front (named.a_tuple n ts) ds h = types_front ts ds (front _ _ h)
    type_front (named.a_reference n m t) ds h = type_front t ds (front _ _ h)
    type_front (named.an_item n i ls) ds h = lifetimes_front n i ls ds (front _ _ h)

    types_front : (ts : WrittenTypes) (ds : List Demand) → MeetsEach D C (rules.of_types ts ds) → MeetsEach D C ds
    types_front named.no_written ds h = h
    types_front (named.written_and t ts) ds h = type_front t ds (types_front ts (rules.of_type t ds) h)

  mutual
    -- a written type's node has that type
    pub written_is : (t : Written) (ds : List Demand) → MeetsEach D C (rules.of_type t ds) → C (type_of (written_node t)) ≡ typ_written t
    written_is (named.a_kind n k) ds h = sym (some_same _ _ (back ds _ h).0)
    written_is (named.a_bool n) ds h = sym (some_same _ _ (back ds _ h).0)
    written_is (named.a_tuple n ts) ds h = sym (some_same _ _ (back _ _ h).0) ∙ ap (λ us. tuple_of (shapes_of us)) (all_written ts ds (front _ _ h))
    written_is (named.a_reference n m t) ds h = sym (some_same _ _ (back _ _ h).0) ∙ ap (reference m) (written_is t ds (front _ _ h))
    written_is (named.an_item n i ls) ds h = sym (some_same _ _ (back _ _ h).0)

    all_written : (ts : WrittenTypes) (ds : List Demand) → MeetsEach D C (rules.of_types ts ds) → types_at C (rules.written_nodes ts) ≡ typs_written ts
    all_written named.no_written ds h = refl
    all_written (named.written_and t ts) ds h = ap (λ u. u ∷ types_at C (rules.written_nodes ts)) (written_is t ds (types_front ts (rules.of_type t ds) h)) ∙ ap (λ us. typ_written t ∷ us) (all_written ts (rules.of_type t ds) h)

  -- a parameter has the type that is written
  pub parameter_is : (x : Parameter) (ds : List Demand) → MeetsEach D C (rules.of_parameter x ds) → C (subject.Variable x.variable) ≡ typ_written x.typ
  parameter_is x ds h = sym (some_same _ _ (back _ _ h).0) ∙ written_is x.typ ds (front _ _ (front _ _ h))

  parameter_front : (x : Parameter) (ds : List Demand) → MeetsEach D C (rules.of_parameter x ds) → MeetsEach D C ds
  parameter_front x ds h = type_front x.typ ds (front _ _ (front _ _ h))

  parameters_front : (xs : List Parameter) (ds : List Demand) → MeetsEach D C (rules.of_parameters xs ds) → MeetsEach D C ds
  parameters_front [] ds h = h
  parameters_front (x ∷ xs) ds h = parameter_front x ds (parameters_front xs (rules.of_parameter x ds) h)

  pub parameters_are : (xs : List Parameter) (ds : List Demand) → MeetsEach D C (rules.of_parameters xs ds) → AsWritten C xs
  parameters_are [] ds h = tt
  parameters_are (x ∷ xs) ds h = (parameter_is x ds (parameters_front xs (rules.of_parameter x ds) h), parameters_are xs (rules.of_parameter x ds) h)

  -- a variable that is declared with a type has it
  pub declared_is : (k : Node) (x : ℕ) (m : Bool) (t : Written) (ds : List Demand) → MeetsEach D C (rules.declared (named.bind k x m) (Some t) ds) → C (subject.Variable x) ≡ typ_written t
  declared_is k x false t ds h =
      let b = back _ _ (front _ _ h) in
      let p = back _ _ (front _ _ (front _ _ h)) in
      sym (some_same _ _ b.0) ∙ sym (some_same _ _ p.0) ∙ written_is t ds (front _ _ (front _ _ (front _ _ (front _ _ h))))
  declared_is k x true t ds h =
      let b = back _ _ (front _ _ (front _ _ h)) in
      let p = back _ _ (front _ _ (front _ _ (front _ _ h))) in
      sym (some_same _ _ b.0) ∙ sym (some_same _ _ p.0) ∙ written_is t ds (front _ _ (front _ _ (front _ _ (front _ _ (front _ _ h)))))

-- ---- what fits an expected type: by its outline, in each assignment

coerced_by : (t t' u : Typ) → outline t ≡ outline t' → coerced t u ≡ coerced t' u
coerced_by (reference true a) (reference true b) (reference false u) e = refl
coerced_by (reference true a) (reference true b) (reference true u) e = refl
coerced_by (reference true a) (reference true b) (integer k) e = refl
coerced_by (reference true a) (reference true b) boolean e = refl
coerced_by (reference true a) (reference true b) (tuple_of us) e = refl
coerced_by (reference true a) (reference true b) (item i) e = refl
coerced_by (reference false a) (reference false b) u e = refl
coerced_by (reference true a) (reference false b) u e = absurd (cc)
coerced_by (reference false a) (reference true b) u e = absurd (cc)
coerced_by (reference m a) (integer k) u e = absurd (cc)
coerced_by (reference m a) boolean u e = absurd (cc)
coerced_by (reference m a) (tuple_of us) u e = absurd (cc)
coerced_by (reference m a) (item i) u e = absurd (cc)
coerced_by (integer k) (reference m b) u e = absurd (cc)
coerced_by boolean (reference m b) u e = absurd (cc)
coerced_by (tuple_of ts) (reference m b) u e = absurd (cc)
coerced_by (item i) (reference m b) u e = absurd (cc)
coerced_by (integer k) (integer l) u e = refl
coerced_by (integer k) boolean u e = refl
coerced_by (integer k) (tuple_of us) u e = refl
coerced_by (integer k) (item i) u e = refl
coerced_by boolean (integer l) u e = refl
coerced_by boolean boolean u e = refl
coerced_by boolean (tuple_of us) u e = refl
coerced_by boolean (item i) u e = refl
coerced_by (tuple_of ts) (integer l) u e = refl
coerced_by (tuple_of ts) boolean u e = refl
coerced_by (tuple_of ts) (tuple_of us) u e = refl
coerced_by (tuple_of ts) (item i) u e = refl
coerced_by (item i) (integer l) u e = refl
coerced_by (item i) boolean u e = refl
coerced_by (item i) (tuple_of us) u e = refl
coerced_by (item i) (item j) u e = refl

-- two types of one outline that fit the same expected type are one: so an out, an argument and a value have the type that the
-- new signature writes
pub fitting_is : (t t' u : Typ) → outline t ≡ outline t' → Some (coerced t u) ≡ Some t → Some (coerced t' u) ≡ Some t' → t ≡ t'
fitting_is t t' u o e f = sym (same _ _ e) ∙ coerced_by t t' u o ∙ same _ _ f
  where
    same : (p q : Typ) → ◌≡◌ {A = Option Typ} (Some p) (Some q) → p ≡ q
    same p q e = cc

-- a reference that fits one of its mutability
pub reference_is : (m : Bool) (t u : Typ) → coerced (reference m t) (reference m u) ≡ reference m t → t ≡ u
reference_is true t u h = let i : u ≡ t = cc in sym i
reference_is false t u h = let i : u ≡ t = cc in sym i
