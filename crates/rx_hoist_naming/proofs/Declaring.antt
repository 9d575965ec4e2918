-- What a program declares names structs and enums alone; and a number is that of a struct or enum in what is declared exactly where one
-- stands there in the text.
use Rattle.std.proofs.Common.{◌≡◌, ℕ, zero, suc, ◌+◌, ◌≤◌, ◌<◌, Bool, true, false, ◌&&◌, if◌then◌else◌, List, [], ◌∷◌, ◌++◌, length, map, Option, Some, None, option_map, slice_get, Ok, Err, refl, sym, ap, ◌∙◌, subst, arith}
use Rattle.std.specs.Prelude.{nat_eq}
use Rattle.std.specs.Str.{bytes_eq}
use Rattle.std.proofs.lemmas.Option.{slice_get_past}
use Rattle.rx_core.specs.declared.types.Kind.{Kind}
use Rattle.rx_core.specs.declared.types.Span.{Span}
use Rattle.rx_core.specs.declared.types.Ty.{Ty}
use Rattle.rx_tree.specs.declared.tree.Ident.{Ident}
use Rattle.rx_tree.specs.Plain as plain
use Rattle.rx_tree.specs.Plain.{ItemTree, ProgramTree}
use Rattle.rx_resolve_names.specs.declared.resolved.ItemNames.{ItemNames}
use Rattle.rx_resolve_names.specs.declared.resolved.NodeNames.{NodeNames}
use Rattle.rx_resolve_names.specs.Meant.{type_name, has_name, item_named, as_type, as_struct, as_enum, variants_of as variants_named, number, number_in}
use Rattle.rx_resolve_names.specs.Steps as names
use Rattle.rx_resolve_names.specs.Steps.{Inside, known, one, both}
use Rattle.rx_resolve_names.specs.Names.{variant_in}
use Rattle.rx_typed.specs.declared.declarations.Decl.{Decl}
use Rattle.rx_typed.specs.declared.declarations.Decl.TheVariants as decl
use Rattle.rx_typed.specs.Types as types
use Rattle.rx_typed.specs.Types.{Shape, Shapes, Typ, integer, boolean, tuple_of, reference, named, no_shape, shape_and, shapes_of, FieldDeclared, VariantDeclared, Declared, Declarations, fields_declared, variants_declared, parameters_declared, result_declared, parts_declared, field_typ, variant_parts, lifetimes_declared}
use Rattle.rx_typed.specs.PlainTypes.{plain-Ty, plain-Decl, plain-FieldDecl, plain-VariantDecl, declarations}
use Rattle.rx_typed.specs.Regions.{RegionTyp, RegionTyps, region_integer, region_boolean, region_tuple, region_reference, region_named, no_region, region_and, regions_of, erased, all_erased, region-Ty, held_regions}
use Rattle.rx_typed.proofs.Items.{declared_at}
use Rattle.rx_typed_declarations.specs.Held.{field_types, variant_types}
use Rattle.rx_typed_declarations.specs.WellFormed.{is_adt, all_below, fits, all_fit, bounds_fit, item_fits, signature_fits, WellFormed, WellSigned}
use Rattle.rx_typed_declarations.specs.Sizes.{Sized, declared_parts}
use Rattle.rx_typed_declarations.proofs.RegionLemmas.{is_erased, item_erased}
use Rattle.rx_typeck_solver.specs.Facts.{KnownItems}
use Rattle.rx_typeck_typed.specs.Steps as steps
use Rattle.rx_typeck_typed.specs.Items.{declared_item, declared_items, entries_of, fields_of, variants_of, begins, all_used, derives_copy, bounded, bounds_of, entry_of, parameters_of, answer_of}
use Rattle.rx_hoist_naming.specs.Words.{is_type_item}
use Rattle.rx_hoist_naming.proofs.Good.{if_holds}
use Rattle.rx_hoist_naming.proofs.Claims.{Claims}
use Rattle.rx_hoist_naming.proofs.Steps.{named_ok, the_same}
use Rattle.rx_hoist_naming.proofs.TypeLemmas.{Sees}
use Rattle.rx_hoist_naming.proofs.Renamed.{Names, AllNames, DeclaredWell, Renames}

-- ---- truth values

both_first : (a b : Bool) → (a && b) ≡ true → a ≡ true
both_first true b e = refl
both_first false b e = absurd (cc)

both_second : (a b : Bool) → (a && b) ≡ true → b ≡ true
both_second true b e = e
both_second false b e = absurd (cc)

some_same : (t u : Typ) → Some t ≡ Some u → t ≡ u
some_same t u e = cc

-- ---- types that fit

module _ (D : Declarations) where
  abbrev IsAdt : ℕ → Type 0
  IsAdt i = is_adt (slice_get D i) ≡ true

  mutual
    fit_names : (n : ℕ) (t : RegionTyp) → fits D n t ≡ true → Names IsAdt (erased t)
    fit_names n (region_integer k) e = tt
    fit_names n region_boolean e = tt
    fit_names n (region_tuple ts) e = all_fit_names n ts e
    fit_names n (region_reference m l t) e = fit_names n t (both_second _ (fits D n t) e)
    fit_names n (region_named i ls) e =
        both_first (is_adt (slice_get D i)) (nat_eq (length ls) (lifetimes_declared (slice_get D i))) (both_first (is_adt (slice_get D i) && nat_eq (length ls) (lifetimes_declared (slice_get D i))) (all_below n ls) e)

    all_fit_names : (n : ℕ) (ts : RegionTyps) → all_fit D n ts ≡ true → AllNames IsAdt (all_erased ts)
    all_fit_names n no_region e = tt
    all_fit_names n (region_and t ts) e = (fit_names n t (both_first (fits D n t) (all_fit D n ts) e), all_fit_names n ts (both_second (fits D n t) (all_fit D n ts) e))

  field_there : (fs : List FieldDeclared) (x : List ℕ) (t : Typ) → AllNames IsAdt (shapes_of (field_types fs)) → field_typ fs x ≡ Some t → Names IsAdt t
  field_there [] x t h e = absurd (cc)
  field_there (f ∷ fs) x t h e =
      let rest : field_typ fs x ≡ Some t → Names IsAdt t = field_there fs x t h.1 in
      if_holds (λ (o : Option Typ). o ≡ Some t → Names IsAdt t) (bytes_eq f.name x) (Some f.typ) (field_typ fs x) (λ _ q. subst (λ (z : Typ). Names IsAdt z) (some_same f.typ t q) h.0) (λ _. rest) e

  nth_names : (ts : List Typ) (k : ℕ) (t : Typ) → AllNames IsAdt (shapes_of ts) → slice_get ts k ≡ Some t → Names IsAdt t
  nth_names [] k t h e = absurd (cc)
  nth_names (u ∷ ts) zero t h e = let s : u ≡ t = cc in subst (λ (z : Typ). Names IsAdt z) s h.0
  nth_names (u ∷ ts) (suc k) t h e = nth_names ts k t h.1 e

  names_front : (ts us : List Typ) → AllNames IsAdt (shapes_of (ts ++ us)) → AllNames IsAdt (shapes_of ts)
  names_front [] us h = tt
  names_front (t ∷ ts) us h = (h.0, names_front ts us h.1)

  names_behind : (ts us : List Typ) → AllNames IsAdt (shapes_of (ts ++ us)) → AllNames IsAdt (shapes_of us)
  names_behind [] us h = h
  names_behind (t ∷ ts) us h = names_behind ts us h.1

  part_there : (vs : List VariantDeclared) (v k : ℕ) (t : Typ) → AllNames IsAdt (shapes_of (variant_types vs)) → slice_get (parts_declared (slice_get vs v)) k ≡ Some t → Names IsAdt t
  part_there [] v k t h e = absurd (cc)
  part_there (w ∷ vs) zero k t h e = nth_names w.parts k t (names_front w.parts (variant_types vs) h) e
  part_there (w ∷ vs) (suc v) k t h e = part_there vs v k t (names_behind w.parts (variant_types vs) h) e

  params_named : (n : ℕ) (ps : List Ty) → all_fit D n (regions_of (map region-Ty ps)) ≡ true → AllNames IsAdt (shapes_of (map plain-Ty ps))
  params_named n [] e = tt
  params_named n (t ∷ ps) e = (
    subst (λ (z : Typ). Names IsAdt z) (is_erased t) (fit_names n (region-Ty t) (both_first (fits D n (region-Ty t)) (all_fit D n (regions_of (map region-Ty ps))) e)),
    params_named n ps (both_second (fits D n (region-Ty t)) (all_fit D n (regions_of (map region-Ty ps))) e),
  )

-- ---- declarations

module _ (items : List Decl) (F : WellFormed items) (S : WellSigned items) where
  abbrev D : Declarations
  D = declarations items

  field_named : (o : Option Decl) (x : List ℕ) (t : Typ) → ((d : Decl) → o ≡ Some d → item_fits D d ≡ true) → field_typ (fields_declared (option_map plain-Decl o)) x ≡ Some t → Names (IsAdt D) t
  field_named None x t f e = absurd (cc)
  field_named (Some decl.Rt) x t f e = absurd (cc)
  field_named (Some (decl.Struct c l vs fs)) x t f e =
      field_there D (map plain-FieldDecl fs) x t (subst (λ (z : Shapes Kind). AllNames (IsAdt D) z) (item_erased (decl.Struct c l vs fs)) (all_fit_names D l (regions_of (held_regions (decl.Struct c l vs fs))) (f (decl.Struct c l vs fs) refl))) e
  field_named (Some (decl.Enum c l vs ds)) x t f e = absurd (cc)
  field_named (Some (decl.Func l ps u bs)) x t f e = absurd (cc)

  part_named : (o : Option Decl) (v k : ℕ) (t : Typ) → ((d : Decl) → o ≡ Some d → item_fits D d ≡ true) → slice_get (parts_declared (slice_get (variants_declared (option_map plain-Decl o)) v)) k ≡ Some t → Names (IsAdt D) t
  part_named None v k t f e = absurd (cc)
  part_named (Some decl.Rt) v k t f e = absurd (cc)
  part_named (Some (decl.Struct c l vs fs)) v k t f e = absurd (cc)
  part_named (Some (decl.Enum c l vs ds)) v k t f e =
      part_there D (map plain-VariantDecl ds) v k t (subst (λ (z : Shapes Kind). AllNames (IsAdt D) z) (item_erased (decl.Enum c l vs ds)) (all_fit_names D l (regions_of (held_regions (decl.Enum c l vs ds))) (f (decl.Enum c l vs ds) refl))) e
  part_named (Some (decl.Func l ps u bs)) v k t f e = absurd (cc)

  parameter_named : (o : Option Decl) (k : ℕ) (t : Typ) → ((d : Decl) → o ≡ Some d → signature_fits D d ≡ true) → slice_get (parameters_declared (option_map plain-Decl o)) k ≡ Some t → Names (IsAdt D) t
  parameter_named None k t f e = absurd (cc)
  parameter_named (Some decl.Rt) k t f e = absurd (cc)
  parameter_named (Some (decl.Struct c l vs fs)) k t f e = absurd (cc)
  parameter_named (Some (decl.Enum c l vs ds)) k t f e = absurd (cc)
  parameter_named (Some (decl.Func l ps u bs)) k t f e = nth_names D (map plain-Ty ps) k t (params_named D l ps (both_first (all_fit D l (regions_of (map region-Ty ps))) (fits D l (region-Ty u)) (both_first (all_fit D l (regions_of (map region-Ty ps)) && fits D l (region-Ty u)) (bounds_fit l bs) (f (decl.Func l ps u bs) refl)))) e

  result_named : (o : Option Decl) (t : Typ) → ((d : Decl) → o ≡ Some d → signature_fits D d ≡ true) → result_declared (option_map plain-Decl o) ≡ Some t → Names (IsAdt D) t
  result_named None t f e = absurd (cc)
  result_named (Some decl.Rt) t f e = absurd (cc)
  result_named (Some (decl.Struct c l vs fs)) t f e = absurd (cc)
  result_named (Some (decl.Enum c l vs ds)) t f e = absurd (cc)
  result_named (Some (decl.Func l ps u bs)) t f e =
      let s : plain-Ty u ≡ t = cc in
      subst (λ (z : Typ). Names (IsAdt D) z) s (subst (λ (z : Typ). Names (IsAdt D) z) (is_erased u) (fit_names D l (region-Ty u) (both_second (all_fit D l (regions_of (map region-Ty ps))) (fits D l (region-Ty u)) (both_first (all_fit D l (regions_of (map region-Ty ps)) && fits D l (region-Ty u)) (bounds_fit l bs) (f (decl.Func l ps u bs) refl)))))

  pub declared_well : DeclaredWell D
  declared_well = record {
    fields = λ i x t e. field_named (slice_get items i) x t (λ d q. F.named i d q) (sym (ap (λ (o : Option Declared). field_typ (fields_declared o) x) (declared_at items i)) ∙ e);
    parts = λ i v k t e. part_named (slice_get items i) v k t (λ d q. F.named i d q) (sym (ap (λ (o : Option Declared). slice_get (parts_declared (slice_get (variants_declared o) v)) k) (declared_at items i)) ∙ e);
    parameters = λ f k t e. parameter_named (slice_get items f) k t (λ d q. S.signatures f d q) (sym (ap (λ (o : Option Declared). slice_get (parameters_declared o) k) (declared_at items f)) ∙ e);
    results = λ f t e. result_named (slice_get items f) t (λ d q. S.signatures f d q) (sym (ap result_declared (declared_at items f)) ∙ e);
  }

-- ---- other numbers

abbrev other_by : ℕ → Bool → ℕ → ℕ
other_by n true i = i
other_by n false i = n + suc i

abbrev pub others : Declarations → ℕ → ℕ
others D i = other_by (length D) (is_adt (slice_get D i)) i

no_parts : (P : ℕ → ℕ) (o : Option Declared) → is_adt o ≡ false → declared_parts P o ≡ 1
no_parts P None e = refl
no_parts P (Some types.rt_declared) e = refl
no_parts P (Some (types.struct_declared c l fs)) e = absurd (cc)
no_parts P (Some (types.enum_declared c l vs)) e = absurd (cc)
no_parts P (Some (types.function_declared ps t)) e = refl

pub renames : (K : KnownItems) → Sized K.items K.sizes → Renames K (others K.items)
renames K Z = record {
  kept = λ i e. ap (λ (b : Bool). other_by (length K.items) b i) e;
  gone = λ i e. past i (is_adt (slice_get K.items i)) e;
  other = λ i e. back i (is_adt (slice_get K.items i)) refl e;
  sizes = λ i. small i (is_adt (slice_get K.items i)) refl;
}
  where
    far : (i : ℕ) → is_adt (slice_get K.items (length K.items + suc i)) ≡ false
    far i = let l : length K.items ≤ length K.items + suc i = omega arith in ap is_adt (slice_get_past K.items (length K.items + suc i) l)

    past : (i : ℕ) (b : Bool) → b ≡ false → is_adt (slice_get K.items (other_by (length K.items) b i)) ≡ false
    past i true e = absurd (cc)
    past i false e = far i

    back : (i : ℕ) (b : Bool) → is_adt (slice_get K.items i) ≡ b → other_by (length K.items) b i ≡ i → is_adt (slice_get K.items i) ≡ true
    back i true q e = q
    back i false q e = absurd (omega (arith, e))

    small : (i : ℕ) (b : Bool) → is_adt (slice_get K.items i) ≡ b → K.sizes (other_by (length K.items) b i) ≤ K.sizes i
    small i true q = omega arith
    small i false q =
        let a = Z (length K.items + suc i) ∙ no_parts K.sizes (slice_get K.items (length K.items + suc i)) (far i) in
        let c = Z i ∙ no_parts K.sizes (slice_get K.items i) q in
        omega (arith, a, c)

-- ---- items

read_ok : {A B : Type 0} (m : steps.Outcome A) (f : A → steps.Outcome B) (b : B) → steps.on_ok m f ≡ Ok b → (a : A) × (m ≡ Ok a) × (f a ≡ Ok b)
read_ok (Ok a) f b e = (a, refl, e)
read_ok (Err x) f b e = absurd (cc)

read_same : {A : Type 0} (a b : A) → ◌≡◌ {A = steps.Outcome A} (Ok a) (Ok b) → a ≡ b
read_same a b e = cc

same_kind : (a d : Decl) → ◌≡◌ {A = steps.Outcome Decl} (Ok a) (Ok d) → is_adt (Some (plain-Decl d)) ≡ is_adt (Some (plain-Decl a))
same_kind a d e = ap (λ (x : Decl). is_adt (Some (plain-Decl x))) (sym (read_same a d e))

kind_is : (p : ProgramTree) (ns : List NodeNames) (i : ItemTree) (d : Decl) → declared_item p ns i ≡ Ok d → is_adt (Some (plain-Decl d)) ≡ is_type_item (Some i)
kind_is p ns (plain.rt_item s r) d e = same_kind decl.Rt d e
kind_is p ns (plain.struct_item s x) d e =
    let a = read_ok (fields_of p x.fields (begins ns 0)) (λ r. steps.on_ok (all_used 0 x.lifetimes r.1.lifetimes) (λ _. Ok (decl.Struct (derives_copy x.derives) (number (length x.lifetimes)) [] r.0))) d e in
    let b = read_ok (all_used 0 x.lifetimes a.0.1.lifetimes) (λ _. Ok (decl.Struct (derives_copy x.derives) (number (length x.lifetimes)) [] a.0.0)) d a.2 in
    same_kind (decl.Struct (derives_copy x.derives) (number (length x.lifetimes)) [] a.0.0) d b.2
kind_is p ns (plain.enum_item s x) d e =
    let a = read_ok (variants_of p x.variants (begins ns 0)) (λ r. steps.on_ok (all_used 0 x.lifetimes r.1.lifetimes) (λ _. Ok (decl.Enum (derives_copy x.derives) (number (length x.lifetimes)) [] r.0))) d e in
    let b = read_ok (all_used 0 x.lifetimes a.0.1.lifetimes) (λ _. Ok (decl.Enum (derives_copy x.derives) (number (length x.lifetimes)) [] a.0.0)) d a.2 in
    same_kind (decl.Enum (derives_copy x.derives) (number (length x.lifetimes)) [] a.0.0) d b.2
kind_is p ns (plain.function_item s f) d e =
    let B = bounded 0 f.lifetimes in
    let x = read_ok (entry_of B f.params (begins ns (number (length f.lifetimes)))) (λ e. steps.on_ok (parameters_of p f.params e.1) (λ ps. steps.on_ok (answer_of p f.result ps.1) (λ a. Ok (decl.Func ps.1.next ps.0 a.0 (bounds_of B e.0))))) d e in
    let y = read_ok (parameters_of p f.params x.0.1) (λ ps. steps.on_ok (answer_of p f.result ps.1) (λ a. Ok (decl.Func ps.1.next ps.0 a.0 (bounds_of B x.0.0)))) d x.2 in
    let z = read_ok (answer_of p f.result y.0.1) (λ a. Ok (decl.Func y.0.1.next y.0.0 a.0 (bounds_of B x.0.0))) d y.2 in
    same_kind (decl.Func y.0.1.next y.0.0 z.0.0 (bounds_of B x.0.0)) d z.2

pub kinds : (p : ProgramTree) (ns : List ItemNames) (n : ℕ) (is : ProgramTree) (ds : List Decl) → declared_items p ns n is ≡ Ok ds → (j : ℕ) → is_adt (slice_get (declarations ds) j) ≡ is_type_item (slice_get is j)
kinds p ns n [] ds e j = ap (λ (l : List Decl). is_adt (slice_get (declarations l) j)) (sym (read_same [] ds e))
kinds p ns n (i ∷ is) ds e zero =
    let a = read_ok (declared_item p (entries_of (slice_get ns n)) i) (λ d. steps.on_ok (declared_items p ns (suc n) is) (λ ds. Ok (d ∷ ds))) ds e in
    let b = read_ok (declared_items p ns (suc n) is) (λ ds. Ok (a.0 ∷ ds)) ds a.2 in
    ap (λ (l : List Decl). is_adt (slice_get (declarations l) 0)) (sym (read_same (a.0 ∷ b.0) ds b.2)) ∙ kind_is p (entries_of (slice_get ns n)) i a.0 a.1
kinds p ns n (i ∷ is) ds e (suc j) =
    let a = read_ok (declared_item p (entries_of (slice_get ns n)) i) (λ d. steps.on_ok (declared_items p ns (suc n) is) (λ ds. Ok (d ∷ ds))) ds e in
    let b = read_ok (declared_items p ns (suc n) is) (λ ds. Ok (a.0 ∷ ds)) ds a.2 in
    ap (λ (l : List Decl). is_adt (slice_get (declarations l) (suc j))) (sym (read_same (a.0 ∷ b.0) ds b.2)) ∙ kinds p ns (suc n) is b.0 b.1 j

-- ---- what is found by its name

abbrev IsKind : (Option (ℕ × ItemTree) → Option ℕ) → Type 0
IsKind kind = (o : Option (ℕ × ItemTree)) (k : ℕ) → kind o ≡ Some k → (i : ItemTree) × (o ≡ Some (k, i)) × (is_type_item (Some i) ≡ true)

type_kind : IsKind as_type
type_kind None k e = absurd (cc)
type_kind (Some (n, plain.rt_item s r)) k e = absurd (cc)
type_kind (Some (n, plain.struct_item s d)) k e = (plain.struct_item s d, ap (λ (z : ℕ). Some (z, plain.struct_item s d)) (let h : n ≡ k = cc in h), refl)
type_kind (Some (n, plain.enum_item s d)) k e = (plain.enum_item s d, ap (λ (z : ℕ). Some (z, plain.enum_item s d)) (let h : n ≡ k = cc in h), refl)
type_kind (Some (n, plain.function_item s f)) k e = absurd (cc)

struct_kind : IsKind as_struct
struct_kind None k e = absurd (cc)
struct_kind (Some (n, plain.rt_item s r)) k e = absurd (cc)
struct_kind (Some (n, plain.struct_item s d)) k e = (plain.struct_item s d, ap (λ (z : ℕ). Some (z, plain.struct_item s d)) (let h : n ≡ k = cc in h), refl)
struct_kind (Some (n, plain.enum_item s d)) k e = absurd (cc)
struct_kind (Some (n, plain.function_item s f)) k e = absurd (cc)

enum_kind : IsKind as_enum
enum_kind None k e = absurd (cc)
enum_kind (Some (n, plain.rt_item s r)) k e = absurd (cc)
enum_kind (Some (n, plain.struct_item s d)) k e = absurd (cc)
enum_kind (Some (n, plain.enum_item s d)) k e = (plain.enum_item s d, ap (λ (z : ℕ). Some (z, plain.enum_item s d)) (let h : n ≡ k = cc in h), refl)
enum_kind (Some (n, plain.function_item s f)) k e = absurd (cc)

pair_same : (a b : ℕ × ItemTree) → Some a ≡ Some b → a ≡ b
pair_same a b e = cc

found_at : (name : ItemTree → Option Ident) (n : ℕ) (is : ProgramTree) (x : List ℕ) (k : ℕ) (i : ItemTree) → item_named name n is x ≡ Some (k, i) → (j : ℕ) × (n + j ≡ k) × (slice_get is j ≡ Some i)
found_at name n [] x k i e = absurd (cc)
found_at name n (y ∷ is) x k i e = by (has_name x (name y)) e (found_at name (suc n) is x k i)
  where
    by : (b : Bool) → (if b then Some (n, y) else item_named name (suc n) is x) ≡ Some (k, i)
        → (item_named name (suc n) is x ≡ Some (k, i) → (j : ℕ) × (suc n + j ≡ k) × (slice_get is j ≡ Some i)) → (j : ℕ) × (n + j ≡ k) × (slice_get (y ∷ is) j ≡ Some i)
    by true e r = let s = pair_same (n, y) (k, i) e in let h : n ≡ k = ap (λ (z : ℕ × ItemTree). z.0) s in (0, omega (arith, h), ap (λ (z : ℕ × ItemTree). Some z.1) s)
    by false e r = let h = r e in let q = h.1 in (suc h.0, omega (arith, q), h.2)

known_some : (o : Option ℕ) (s : Span) (n : ℕ) → known o s ≡ Ok n → o ≡ Some n
known_some None s n e = absurd (cc)
known_some (Some m) s n e = ap (λ (z : ℕ). Some z) (the_same m n e)

item_is : (p : ProgramTree) (kind : Option (ℕ × ItemTree) → Option ℕ) → IsKind kind → (x : List ℕ) (k : ℕ) → kind (item_named type_name 0 p x) ≡ Some k → is_type_item (slice_get p k) ≡ true
item_is p kind h x k e =
    let a = h (item_named type_name 0 p x) k e in
    let b = found_at type_name 0 p x k a.0 a.1 in
    let q : b.0 ≡ k = let z = b.1 in omega (arith, z) in
    ap is_type_item (ap (λ (j : ℕ). slice_get p j) (sym q) ∙ b.2) ∙ a.2

-- claims of a program's function: its structs and enums, and so many variables
abbrev pub of_program : Declarations → ℕ → Claims
of_program D N = record { item = λ i. is_adt (slice_get D i) ≡ true; variable = λ x. x < N }

pub sees : (I : Inside) (D : Declarations) (N : ℕ) → ((j : ℕ) → is_adt (slice_get D j) ≡ is_type_item (slice_get I.program j)) → Sees (of_program D N) I N
sees I D N same = record {
  types = λ x n e. same n ∙ item_is I.program as_type type_kind x.name n (known_some (as_type (item_named type_name 0 I.program x.name)) x.span n e);
  structs = λ x n e. same n ∙ item_is I.program as_struct struct_kind x.name n (known_some (as_struct (item_named type_name 0 I.program x.name)) x.span n e);
  variants = λ a v ns e. found a v ns e;
  variables = λ n l. l;
}
  where
    found : (a v : Ident) (ns : List ℕ) → variant_in I a v ≡ Ok ns → (n : ℕ) × (j : ℕ) × (ns ≡ n ∷ j ∷ []) × (is_adt (slice_get D n) ≡ true)
    found a v ns e =
        let o = item_named type_name 0 I.program a.name in
        let second = known (number_in (variants_named o) v.name) v.span in
        let x = named_ok (one (known (as_enum o) a.span)) (λ ns. names.and_then (one second) (λ ms. Ok (ns ++ ms))) ns e in
        let y = named_ok (known (as_enum o) a.span) (λ n. Ok (n ∷ [])) x.0 x.1 in
        let z = named_ok (one second) (λ ms. Ok (x.0 ++ ms)) ns x.2 in
        let w = named_ok second (λ n. Ok (n ∷ [])) z.0 z.1 in
        let same_list : ns ≡ y.0 ∷ w.0 ∷ [] = sym (the_same (x.0 ++ z.0) ns z.2) ∙ ap (λ (l : List ℕ). l ++ z.0) (sym (the_same (y.0 ∷ []) x.0 y.2)) ∙ ap (λ (l : List ℕ). y.0 ∷ l) (sym (the_same (w.0 ∷ []) z.0 w.2)) in
        (y.0, w.0, same_list, same y.0 ∙ item_is I.program as_enum enum_kind a.name y.0 (known_some (as_enum o) a.span y.0 y.1))
