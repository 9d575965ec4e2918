-- Heads that are found, types that have no more, and values that are written node by node.
use Rattle.std.proofs.Common.{◌≡◌, ℕ, zero, suc, ◌+◌, ◌<◌, ◌≤◌, pos, negsuc, Bool, true, false, List, [], ◌∷◌, ◌++◌, length, map, Option, Some, None, option_map, slice_get, refl, sym, ap, ◌∙◌, subst, ◌⊎◌, ⊎_elim, arith}
use Rattle.std.proofs.Common.{get_or, Result, Ok, Err, IfOk, OnOk}
use Rattle.std.specs.declared.alloc.AllocError.{AllocError}
use Rattle.std.proofs.lemmas.List.{append_assoc, append-nil, length-map}
use Rattle.rx_core.specs.declared.types.Kind.{Kind}
use Rattle.rx_typed.specs.Types.{Typ, integer, boolean, tuple_of, reference, named, Shapes, no_shape, shape_and, shapes_of, shapes_listed, Declarations, Declared, rt_declared, struct_declared, enum_declared, function_declared, FieldDeclared, VariantDeclared, variants_declared, fields_declared, parts_declared}
use Rattle.rx_typed.specs.Elaborated.{with_sign}
use Rattle.rx_typed_declarations.specs.Held.{field_types, variant_types}
use Rattle.rx_cover.specs.Values as value
use Rattle.rx_cover.specs.Values.{Values, number, tuple, made, pointing, no_value, value_and, IsOfType, AreOfTypes, InKind, greatest, below_zero, is_struct}
use Rattle.rx_cover.specs.Heads as head
use Rattle.rx_cover.specs.Heads.{Head, whole, composed, chosen, pointed, head_of, parts_of, has, IsHead, types_under, with_head}
use Rattle.rx_cover.specs.declared.value.Value.{Value}
use Rattle.rx_cover.specs.declared.node.Node.{Node}
use Rattle.rx_cover.specs.declared.matrix.Column.{Column}
use Rattle.rx_cover.specs.PlainCells.{plain-Column}
use Rattle.rx_cover.specs.PlainValue.{plain-Value, count, nodes, nodes_of, IsWhole}
use Rattle.rx_cover.specs.Finding.{Apart, HeadApart, HeadFound, Sole, Bounded, VariantFree, Headed, node_of, awaited_onto, awaited, Begun, Writes, Free, Adds, IsStruct, a_struct, IsEnum, an_enum}
use Rattle.rx_cover.specs.Inhabited.{AllValued, Inhabited, all_valued}
use Rattle.rx_core.specs.declared.types.Bound.{Bound}
use Rattle.rx_core.specs.declared.types.Ty.{Ty}
use Rattle.rx_typed.specs.declared.declarations.Decl.{Decl}
use Rattle.rx_typed.specs.declared.declarations.Decl.TheVariants as decl
use Rattle.rx_typed.specs.declared.declarations.Polarity.{Polarity}
use Rattle.rx_typed.specs.declared.declarations.FieldDecl.{FieldDecl}
use Rattle.rx_typed.specs.declared.declarations.VariantDecl.{VariantDecl}
use Rattle.rx_typed.specs.PlainTypes.{plain-Ty, plain-FieldDecl, plain-VariantDecl, plain-Decl, declarations}
use Rattle.rx_typed.proofs.Items.{declared_at}
use Rattle.rx_cover.specs.Finite.{Finite, held_at, expanse_all, item_expanse, expanse_in, all_in}
use Rattle.rx_cover.proofs.FiniteLemmas.{held_expanse, variant_expanse}
use Rattle.rx_cover.proofs.HeadLemmas.{taken, built}
use Rattle.rx_cover.proofs.InhabitedLemmas.{all_known}
use Rattle.rx_cover.proofs.NodeLemmas.{joined, plain_is, whole_is}

signed : (k : Kind) (m : ℕ) → m ≤ below_zero k → InKind k (with_sign true m)
signed k zero l = omega arith
signed k (suc m) l = omega (arith, l)

-- what has no parts
without : (D : Declarations) (t : Typ) (h : Head) → types_under D t h ≡ [] → (hs : List Head) → IsHead D t h → has hs h ≡ false → HeadFound D t hs h
without D t h none hs i e = record { fits = i; apart = e; begins = λ v p n. (no_value, subst (λ l. AreOfTypes D l no_value) (sym none) tt) }

pub positive_found : (D : Declarations) (k : Kind) (hs : List Head) (m : ℕ) (h : Head) → h ≡ whole (with_sign false m) → Free hs false (greatest k) (Some m) → HeadApart D (integer k) hs (Some h)
positive_found D k hs m h e f = subst (λ x. HeadFound D (integer k) hs x) (sym e) (without D (integer k) (whole (with_sign false m)) refl hs f.0 f.1)

pub negative_found : (D : Declarations) (k : Kind) (hs : List Head) (m : ℕ) (h : Head) → h ≡ whole (with_sign true m) → Free hs true (below_zero k) (Some m) → HeadApart D (integer k) hs (Some h)
negative_found D k hs m h e f = subst (λ x. HeadFound D (integer k) hs x) (sym e) (without D (integer k) (whole (with_sign true m)) refl hs (signed k m f.0) f.1)

pub no_integer : (D : Declarations) (k : Kind) (hs : List Head) → Free hs false (greatest k) None → Free hs true (below_zero k) None → HeadApart D (integer k) hs None
no_integer D k hs p n (number (pos m)) h = p m h
no_integer D k hs p n (number (negsuc m)) h = n (suc m) (omega (arith, h))
no_integer D k hs p n (value.truth b) h = absurd h
no_integer D k hs p n (tuple vs) h = absurd h
no_integer D k hs p n (made i vs) h = absurd h
no_integer D k hs p n (value.variant i j vs) h = absurd h
no_integer D k hs p n (pointing v) h = absurd h

pub truth_found : (D : Declarations) (hs : List Head) (b : Bool) → has hs (head.truth b) ≡ false → HeadApart D boolean hs (Some (head.truth b))
truth_found D hs b e = without D boolean (head.truth b) refl hs tt e

pub no_truth : (D : Declarations) (hs : List Head) → has hs (head.truth false) ≡ true → has hs (head.truth true) ≡ true → HeadApart D boolean hs None
no_truth D hs f t (value.truth true) h = t
no_truth D hs f t (value.truth false) h = f
no_truth D hs f t (number n) h = absurd h
no_truth D hs f t (tuple vs) h = absurd h
no_truth D hs f t (made i vs) h = absurd h
no_truth D hs f t (value.variant i j vs) h = absurd h
no_truth D hs f t (pointing v) h = absurd h

-- ---- types with one head

pub sole_found : (D : Declarations) (t : Typ) (g : Head) (hs : List Head) → Sole D t g → has hs g ≡ false → HeadApart D t hs (Some g)
sole_found D t g hs s e = record {
  fits = s.0;
  apart = e;
  begins = λ v p n. let q = taken D t v p in (parts_of v, subst (λ x. AreOfTypes D (types_under D t x) (parts_of v)) (sym (s.1 (head_of v) q.headed)) q.under);
}

pub no_sole : (D : Declarations) (t : Typ) (g : Head) (hs : List Head) → Sole D t g → has hs g ≡ true → HeadApart D t hs None
no_sole D t g hs s e = λ v p. subst (λ x. has hs x ≡ true) (s.1 (head_of v) (taken D t v p).headed) e

pub sole_tuple : (D : Declarations) (ts : Shapes Kind) → Sole D (tuple_of ts) composed
sole_tuple D ts = (tt, only)
  where
    only : (h : Head) → IsHead D (tuple_of ts) h → composed ≡ h
    only composed i = refl
    only (whole n) i = absurd i
    only (head.truth b) i = absurd i
    only (chosen j k) i = absurd i
    only pointed i = absurd i

pub sole_reference : (D : Declarations) (m : Bool) (t : Typ) → Sole D (reference m t) pointed
sole_reference D m t = (tt, only)
  where
    only : (h : Head) → IsHead D (reference m t) h → pointed ≡ h
    only pointed i = refl
    only (whole n) i = absurd i
    only (head.truth b) i = absurd i
    only (chosen j k) i = absurd i
    only composed i = absurd i

at_struct : (D : Declarations) (o : Option Declared) (fs : List FieldDeclared) → IsStruct o fs → (is_struct o ≡ true) × (fields_declared o ≡ fs) × (variants_declared o ≡ [])
at_struct D o fs a_struct = (refl, refl, refl)

at_enum : (o : Option Declared) (vs : List VariantDeclared) → IsEnum o vs → (is_struct o ≡ false) × (variants_declared o ≡ vs)
at_enum o vs an_enum = (refl, refl)

pub sole_struct : (D : Declarations) (i : ℕ) (fs : List FieldDeclared) → IsStruct (slice_get D i) fs → Sole D (named i) composed
sole_struct D i fs s = ((at_struct D (slice_get D i) fs s).0, only)
  where
    only : (h : Head) → IsHead D (named i) h → composed ≡ h
    only composed i = refl
    only (chosen j k) l = let e = ap length (at_struct D (slice_get D i) fs s).2 in let m = l.1 in absurd (omega (arith, e, m))
    only (whole n) i = absurd i
    only (head.truth b) i = absurd i
    only pointed i = absurd i

-- no variant before this one has a value apart
pub record NoneBefore (D : Declarations) (i : ℕ) (vs : List VariantDeclared) (hs : List Head) (k : ℕ) : Type 0 where
  pub each : (j : ℕ) → j < k → (ws : Values) → AreOfTypes D (parts_declared (slice_get vs j)) ws → has hs (chosen i j) ≡ true

pub none_yet : (D : Declarations) (i : ℕ) (vs : List VariantDeclared) (hs : List Head) → NoneBefore D i vs hs 0
none_yet D i vs hs = record { each = λ j l. absurd (omega (arith, l)) }

pub one_none : (D : Declarations) (i : ℕ) (vs : List VariantDeclared) (hs : List Head) (k : ℕ) → NoneBefore D i vs hs k → VariantFree D i k (parts_declared (slice_get vs k)) hs false → NoneBefore D i vs hs (k + 1)
one_none D i vs hs k n a = record { each = λ j l. ⊎_elim (λ e. subst (λ x. (ws : Values) → AreOfTypes D (parts_declared (slice_get vs x)) ws → has hs (chosen i x) ≡ true) e a) (λ m. n.each j m) (last k j l) }
  where
    last : (k j : ℕ) → j < k + 1 → (k ≡ j) ⊎ (j < k)
    last k j l = grind arith

pub variant_found : (D : Declarations) (i k : ℕ) (vs : List VariantDeclared) (hs : List Head) → IsEnum (slice_get D i) vs → k < length vs
    → VariantFree D i k (parts_declared (slice_get vs k)) hs true → HeadApart D (named i) hs (Some (chosen i k))
variant_found D i k vs hs s l f = let q = at_enum (slice_get D i) vs s in record {
  fits = (refl, subst (λ x. k < length x) (sym q.1) l);
  apart = f.0;
  begins = λ v p n. (f.1.0, subst (λ x. AreOfTypes D (parts_declared (slice_get x k)) f.1.0) (sym q.1) f.1.1);
}

pub no_variant : (D : Declarations) (i : ℕ) (vs : List VariantDeclared) (hs : List Head) → IsEnum (slice_get D i) vs → NoneBefore D i vs hs (length vs) → HeadApart D (named i) hs None
no_variant D i vs hs s n (value.variant j k ws) h = let q = at_enum (slice_get D i) vs s in
    subst (λ x. has hs (chosen x k) ≡ true) h.0 (n.each k (subst (λ x. k < length x) q.1 h.1) ws (subst (λ x. AreOfTypes D (parts_declared (slice_get x k)) ws) q.1 h.2))
no_variant D i vs hs s n (made j ws) h = let e = (at_enum (slice_get D i) vs s).0 in let f = h.1 in cc
no_variant D i vs hs s n (number k) h = absurd h
no_variant D i vs hs s n (value.truth b) h = absurd h
no_variant D i vs hs s n (tuple ws) h = absurd h
no_variant D i vs hs s n (pointing v) h = absurd h

pub nothing_declared : (D : Declarations) (i : ℕ) (hs : List Head) → is_struct (slice_get D i) ≡ false → variants_declared (slice_get D i) ≡ [] → HeadApart D (named i) hs None
nothing_declared D i hs s e (value.variant j k ws) h = let q = ap length e in absurd (omega (arith, q, h.1))
nothing_declared D i hs s e (made j ws) h = let f = h.1 in cc
nothing_declared D i hs s e (number k) h = absurd h
nothing_declared D i hs s e (value.truth b) h = absurd h
nothing_declared D i hs s e (tuple ws) h = absurd h
nothing_declared D i hs s e (pointing v) h = absurd h

-- ---- lists

pub adds_one : (D : Declarations) (t : Typ) (old new : List Value) (v : Value) → Apart D t [] (Some (plain-Value v)) → new ≡ old ++ v ∷ [] → Adds D (t ∷ []) old new true
adds_one D t old new v a e = record { more = v ∷ []; is = e; typed = (a.0, tt) }

pub adds_not : (D : Declarations) (t : Typ) (old new : List Value) → Apart D t [] None → Adds D (t ∷ []) old new false
adds_not D t old new a = no
  where
    no : (vs : Values) → AreOfTypes D (t ∷ []) vs → ⊥
    no no_value h = absurd h
    no (value_and v vs) h = let e = a v h.0 in cc

pub free_by : (D : Declarations) (table : List Bool) (i k : ℕ) (ts : List Typ) (hs : List Head) (c : Bool) → Inhabited D table → has hs (chosen i k) ≡ false → c ≡ all_valued table (shapes_of ts) → VariantFree D i k ts hs c
free_by D table i k ts hs c known e f = by c (subst (λ b. AllValued D ts b) (sym f) (all_known D table ts known))
  where
    by : (c : Bool) → AllValued D ts c → VariantFree D i k ts hs c
    by true a = (e, a)
    by false a = λ vs h. absurd (a vs h)

-- ---- items of the code

pub struct_at : (ds : List Decl) (i : ℕ) (d : Decl) (c : Bool) (l : ℕ) (vs : List Polarity) (fs : List FieldDecl) → slice_get ds i ≡ Some d → d ≡ decl.Struct c l vs fs → IsStruct (slice_get (declarations ds) i) (map plain-FieldDecl fs)
struct_at ds i d c l vs fs e f = subst (λ o. IsStruct o (map plain-FieldDecl fs)) (sym (declared_at ds i ∙ ap (λ o. option_map plain-Decl o) (e ∙ ap Some f))) a_struct

pub enum_at : (ds : List Decl) (i : ℕ) (d : Decl) (c : Bool) (l : ℕ) (ps : List Polarity) (vs : List VariantDecl) → slice_get ds i ≡ Some d → d ≡ decl.Enum c l ps vs → IsEnum (slice_get (declarations ds) i) (map plain-VariantDecl vs)
enum_at ds i d c l ps vs e f = subst (λ o. IsEnum o (map plain-VariantDecl vs)) (sym (declared_at ds i ∙ ap (λ o. option_map plain-Decl o) (e ∙ ap Some f))) an_enum

pub variant_at : (vs : List VariantDecl) (k : ℕ) (v : VariantDecl) → k < length vs → v ≡ get_or vs k v → parts_declared (slice_get (map plain-VariantDecl vs) k) ≡ map plain-Ty v.parts
variant_at [] k v l e = absurd (omega (arith, l))
variant_at (w ∷ vs) zero v l e = ap (λ x. map plain-Ty x.parts) (sym e)
variant_at (w ∷ vs) (suc k) v l e = variant_at vs k v (omega (arith, l)) e

pub variant_length : (vs : List VariantDecl) → length (map plain-VariantDecl vs) ≡ length vs
variant_length vs = length-map vs plain-VariantDecl

pub nothing_at : (ds : List Decl) (i : ℕ) (hs : List Head) → slice_get ds i ≡ None → HeadApart (declarations ds) (named i) hs None
nothing_at ds i hs e = let q = declared_at ds i ∙ ap (λ o. option_map plain-Decl o) e in nothing_declared (declarations ds) i hs (ap is_struct q) (ap variants_declared q)

pub rt_at : (ds : List Decl) (i : ℕ) (hs : List Head) (d : Decl) → slice_get ds i ≡ Some d → d ≡ decl.Rt → HeadApart (declarations ds) (named i) hs None
rt_at ds i hs d e f = let q = declared_at ds i ∙ ap (λ o. option_map plain-Decl o) (e ∙ ap Some f) in nothing_declared (declarations ds) i hs (ap is_struct q) (ap variants_declared q)

pub func_at : (ds : List Decl) (i : ℕ) (hs : List Head) (d : Decl) (l : ℕ) (ps : List Ty) (t : Ty) (bs : List Bound) → slice_get ds i ≡ Some d → d ≡ decl.Func l ps t bs → HeadApart (declarations ds) (named i) hs None
func_at ds i hs d l ps t bs e f = let q = declared_at ds i ∙ ap (λ o. option_map plain-Decl o) (e ∙ ap Some f) in nothing_declared (declarations ds) i hs (ap is_struct q) (ap variants_declared q)

-- ---- a head and its parts are all of a value

counted : (D : Declarations) (ts : List Typ) (vs : Values) → AreOfTypes D ts vs → count vs ≡ length ts
counted D [] no_value h = refl
counted D [] (value_and v vs) h = absurd h
counted D (t ∷ ts) no_value h = absurd h
counted D (t ∷ ts) (value_and v vs) h = ap suc (counted D ts vs h.1)

node_and_parts : (D : Declarations) (t : Typ) (h : Head) (vs : Values) → IsHead D t h → AreOfTypes D (types_under D t h) vs → nodes (with_head t h vs) ≡ node_of t h (count vs) ∷ nodes_of vs
node_and_parts D (integer k) (whole (pos n)) no_value i u = refl
node_and_parts D (integer k) (whole (negsuc n)) no_value i u = refl
node_and_parts D (integer k) (whole (pos n)) (value_and v vs) i u = absurd u
node_and_parts D (integer k) (whole (negsuc n)) (value_and v vs) i u = absurd u
node_and_parts D boolean (head.truth b) no_value i u = refl
node_and_parts D boolean (head.truth b) (value_and v vs) i u = absurd u
node_and_parts D (tuple_of ts) composed vs i u = refl
node_and_parts D (reference m t) pointed (value_and v no_value) i u = ap (λ l. Node.Reference ∷ l) (sym (append-nil (nodes v)))
node_and_parts D (reference m t) pointed (value_and v (value_and w ws)) i u = absurd u.1
node_and_parts D (reference m t) pointed no_value i u = absurd u
node_and_parts D (named j) composed vs i u = refl
node_and_parts D (named j) (chosen l k) vs i u = refl
node_and_parts D (integer k) (head.truth b) vs i u = absurd i
node_and_parts D (integer k) composed vs i u = absurd i
node_and_parts D (integer k) (chosen j l) vs i u = absurd i
node_and_parts D (integer k) pointed vs i u = absurd i
node_and_parts D boolean (whole n) vs i u = absurd i
node_and_parts D boolean composed vs i u = absurd i
node_and_parts D boolean (chosen j l) vs i u = absurd i
node_and_parts D boolean pointed vs i u = absurd i
node_and_parts D (tuple_of ts) (whole n) vs i u = absurd i
node_and_parts D (tuple_of ts) (head.truth b) vs i u = absurd i
node_and_parts D (tuple_of ts) (chosen j l) vs i u = absurd i
node_and_parts D (tuple_of ts) pointed vs i u = absurd i
node_and_parts D (reference m t) (whole n) vs i u = absurd i
node_and_parts D (reference m t) (head.truth b) vs i u = absurd i
node_and_parts D (reference m t) composed vs i u = absurd i
node_and_parts D (reference m t) (chosen j l) vs i u = absurd i
node_and_parts D (named j) (whole n) vs i u = absurd i
node_and_parts D (named j) (head.truth b) vs i u = absurd i
node_and_parts D (named j) pointed vs i u = absurd i

nodes_with_head : (D : Declarations) (t : Typ) (h : Head) (vs : Values) → IsHead D t h → AreOfTypes D (types_under D t h) vs → nodes (with_head t h vs) ≡ node_of t h (length (types_under D t h)) ∷ nodes_of vs
nodes_with_head D t h vs i u = node_and_parts D t h vs i u ∙ ap (λ k. node_of t h k ∷ nodes_of vs) (counted D (types_under D t h) vs u)

-- ---- values one after the other

record Parted (D : Declarations) (us ts : List Typ) (vs : Values) : Type 0 where
  front : Values
  rest : Values
  fronted : AreOfTypes D us front
  rested : AreOfTypes D ts rest
  written : nodes_of vs ≡ nodes_of front ++ nodes_of rest

parted : (D : Declarations) (us ts : List Typ) (vs : Values) → AreOfTypes D (us ++ ts) vs → Parted D us ts vs
parted D [] ts vs h = record { front = no_value; rest = vs; fronted = tt; rested = h; written = refl }
parted D (u ∷ us) ts no_value h = absurd h
parted D (u ∷ us) ts (value_and v vs) h = let p = parted D us ts vs h.1 in record {
  front = value_and v p.front;
  rest = p.rest;
  fronted = (h.0, p.fronted);
  rested = p.rested;
  written = ap (λ l. nodes v ++ l) p.written ∙ sym (append_assoc (nodes v) (nodes_of p.front) (nodes_of p.rest));
}

together : (D : Declarations) (us ts : List Typ) (vs ws : Values) → AreOfTypes D us vs → AreOfTypes D ts ws → AreOfTypes D (us ++ ts) (joined vs ws)
together D [] ts no_value ws h k = k
together D [] ts (value_and v vs) ws h k = absurd h
together D (u ∷ us) ts no_value ws h k = absurd h
together D (u ∷ us) ts (value_and v vs) ws h k = (h.0, together D us ts vs ws h.1 k)

-- ---- awaited columns

onto_push : (ts : List Typ) (l : List Column) (c : Column) → awaited_onto ts (l ++ c ∷ []) ≡ plain-Column c ∷ awaited_onto ts l
onto_push ts [] c = refl
onto_push ts (x ∷ l) c = onto_push (plain-Column x ∷ ts) l c

pub awaited_push : (all l : List Column) (c : Column) → all ≡ l ++ c ∷ [] → awaited all ≡ plain-Column c ∷ awaited l
awaited_push all l c e = ap awaited e ∙ onto_push [] l c

map_push : (l : List Column) (c : Column) (ts : List Typ) → map plain-Column (l ++ c ∷ []) ++ ts ≡ map plain-Column l ++ (plain-Column c ∷ ts)
map_push [] c ts = refl
map_push (x ∷ l) c ts = ap (λ m. plain-Column x ∷ m) (map_push l c ts)

pub put_next : (from left old new : List Column) (c : Column) (all : List Typ) → from ≡ left ++ c ∷ [] → new ≡ old ++ c ∷ [] → map plain-Column from ++ awaited old ≡ all → map plain-Column left ++ awaited new ≡ all
put_next from left old new c all e f h =
    ap (λ l. map plain-Column left ++ l) (awaited_push new old c f) ∙ sym (map_push left c (awaited old)) ∙ ap (λ l. map plain-Column l ++ awaited old) (sym e) ∙ h

-- ---- how much is awaited

all_append : (P : ℕ → ℕ) (us ts : List Typ) → suc (expanse_all P (shapes_of (us ++ ts))) ≡ expanse_all P (shapes_of us) + expanse_all P (shapes_of ts)
all_append P [] ts = omega arith
all_append P (u ∷ us) ts = let h = all_append P us ts in omega (arith, h)

relisted : (ts : Shapes Kind) → shapes_of (shapes_listed ts) ≡ ts
relisted no_shape = refl
relisted (shape_and t ts) = ap (λ l. shape_and t l) (relisted ts)

at_least_one : (P : ℕ → ℕ) (l : Shapes Kind) → 1 ≤ expanse_all P l
at_least_one P no_shape = omega arith
at_least_one P (shape_and t l) = let h = at_least_one P l in omega (arith, h)

module _ (D : Declarations) (f : Finite D) where
  enum_under : (vs : List VariantDeclared) (h : Head) (c : Bool) (l : ℕ) → all_in D (head.item_types (Some (enum_declared c l vs)) h) ≤ all_in D (variant_types vs)
  enum_under vs (chosen j k) c l = variant_expanse (item_expanse D (suc (length D))) vs k
  enum_under vs (whole n) c l = at_least_one (item_expanse D (suc (length D))) (shapes_of (variant_types vs))
  enum_under vs (head.truth b) c l = at_least_one (item_expanse D (suc (length D))) (shapes_of (variant_types vs))
  enum_under vs composed c l = at_least_one (item_expanse D (suc (length D))) (shapes_of (variant_types vs))
  enum_under vs pointed c l = at_least_one (item_expanse D (suc (length D))) (shapes_of (variant_types vs))

  struct_under : (fs : List FieldDeclared) (h : Head) (c : Bool) (l : ℕ) → all_in D (head.item_types (Some (struct_declared c l fs)) h) ≤ all_in D (field_types fs)
  struct_under fs (chosen j k) c l = at_least_one (item_expanse D (suc (length D))) (shapes_of (field_types fs))
  struct_under fs (whole n) c l = omega arith
  struct_under fs (head.truth b) c l = omega arith
  struct_under fs composed c l = omega arith
  struct_under fs pointed c l = omega arith

  under_at : (o : Option Declared) (h : Head) → all_in D (head.item_types o h) ≤ all_in D (held_at o)
  under_at (Some (enum_declared c l vs)) h = enum_under vs h c l
  under_at (Some (struct_declared c l fs)) h = struct_under fs h c l
  under_at (Some rt_declared) (chosen j k) = omega arith
  under_at (Some rt_declared) (whole n) = omega arith
  under_at (Some rt_declared) (head.truth b) = omega arith
  under_at (Some rt_declared) composed = omega arith
  under_at (Some rt_declared) pointed = omega arith
  under_at (Some (function_declared ps t)) (chosen j k) = omega arith
  under_at (Some (function_declared ps t)) (whole n) = omega arith
  under_at (Some (function_declared ps t)) (head.truth b) = omega arith
  under_at (Some (function_declared ps t)) composed = omega arith
  under_at (Some (function_declared ps t)) pointed = omega arith
  under_at None (chosen j k) = omega arith
  under_at None (whole n) = omega arith
  under_at None (head.truth b) = omega arith
  under_at None composed = omega arith
  under_at None pointed = omega arith

  under_less : (t : Typ) (h : Head) → all_in D (types_under D t h) ≤ expanse_in D t
  under_less (integer k) h = omega arith
  under_less boolean h = omega arith
  under_less (tuple_of ts) h = let e = ap (λ l. expanse_all (item_expanse D (suc (length D))) l) (relisted ts) in omega (arith, e)
  under_less (reference m t) h = omega arith
  under_less (named i) h = let a = under_at (slice_get D i) h in let b = held_expanse D f i in omega (arith, a, b)

  pub awaited_less : (t : Typ) (h : Head) (old mid new : List Column) → awaited old ≡ t ∷ awaited mid → awaited new ≡ types_under D t h ++ awaited mid → all_in D (awaited new) < all_in D (awaited old)
  awaited_less t h old mid new e g =
      let P = item_expanse D (suc (length D)) in
      let a = under_less t h in
      let b = all_append P (types_under D t h) (awaited mid) in
      let c = ap (λ l. expanse_all P (shapes_of l)) e in
      let d = ap (λ l. expanse_all P (shapes_of l)) g in
      omega (arith, a, b, c, d)

-- ---- values are written

-- what is awaited still, with what is written, makes all, and there is such where there is all
pub record Goes (D : Declarations) (all : List Typ) (start : List Node) (pending : List Column) (row : List Node) : Type 0 where
  pub gives : (vs : Values) → AreOfTypes D (awaited pending) vs → (ws : Values) × AreOfTypes D all ws × (row ++ nodes_of vs ≡ start ++ nodes_of ws)
  pub stays : (ws : Values) → AreOfTypes D all ws → (vs : Values) × AreOfTypes D (awaited pending) vs

pub goes_first : (D : Declarations) (pending : List Column) (row : List Node) → Goes D (awaited pending) row pending row
goes_first D pending row = record { gives = λ vs h. (vs, h, refl); stays = λ ws h. (ws, h) }

module _ (D : Declarations) (all : List Typ) (start : List Node) (t : Typ) (old mid : List Column) (row : List Node) (here : awaited old ≡ t ∷ awaited mid) (goes : Goes D all start old row) where
  pub goes_on : (h : Head) (new : List Column) (more : List Node) → HeadFound D t [] h → Begun D t h mid new row more → Goes D all start new more
  goes_on h new more f b = record { gives = gives; stays = stays }
    where
      gives : (vs : Values) → AreOfTypes D (awaited new) vs → (ws : Values) × AreOfTypes D all ws × (more ++ nodes_of vs ≡ start ++ nodes_of ws)
      gives vs k =
          let p = parted D (types_under D t h) (awaited mid) vs (subst (λ l. AreOfTypes D l vs) b.awaits k) in
          let v = with_head t h p.front in
          let g = goes.gives (value_and v p.rest) (subst (λ l. AreOfTypes D l (value_and v p.rest)) (sym here) ((built D t h p.front f.fits p.fronted).typed, p.rested)) in
          let n = node_of t h (length (types_under D t h)) in
          let e : more ++ nodes_of vs ≡ row ++ (nodes v ++ nodes_of p.rest) =
          ap (λ l. l ++ nodes_of vs) b.written ∙ append_assoc row (n ∷ []) (nodes_of vs) ∙ ap (λ l. row ++ (n ∷ l)) p.written
          ∙ ap (λ l. row ++ (l ++ nodes_of p.rest)) (sym (nodes_with_head D t h p.front f.fits p.fronted)) in
          (g.0, g.1, e ∙ g.2)

      behind_first : (vs : Values) → AreOfTypes D (t ∷ awaited mid) vs → (us : Values) × AreOfTypes D (types_under D t h ++ awaited mid) us
      behind_first no_value k = absurd k
      behind_first (value_and v rest) k = let q = f.begins v k.0 refl in (joined q.0 rest, together D (types_under D t h) (awaited mid) q.0 rest q.1 k.1)

      stays : (ws : Values) → AreOfTypes D all ws → (vs : Values) × AreOfTypes D (awaited new) vs
      stays ws k =
          let g = goes.stays ws k in
          let q = behind_first g.0 (subst (λ l. AreOfTypes D l g.0) here g.1) in
          (q.0, subst (λ l. AreOfTypes D l q.0) (sym b.awaits) q.1)

  pub goes_nowhere : (more : List Node) → HeadApart D t [] None → Writes D all start more false
  goes_nowhere more a = λ ws k. let g = goes.stays ws k in none g.0 (subst (λ l. AreOfTypes D l g.0) here g.1)
    where
      none : (vs : Values) → AreOfTypes D (t ∷ awaited mid) vs → ⊥
      none no_value k = k
      none (value_and v rest) k = let e = a v k.0 in cc

pub goes_to_the_end : (D : Declarations) (all : List Typ) (start : List Node) (pending : List Column) (row : List Node) → Goes D all start pending row → pending ≡ [] → Writes D all start row true
goes_to_the_end D all start pending row g e =
    let q = g.gives no_value (subst (λ l. AreOfTypes D (awaited l) no_value) (sym e) tt) in
    (q.0, q.1, sym (append-nil row) ∙ q.2)

-- ---- as the code has it

pub begun_if : (D : Declarations) (t : Typ) (h : Head) (pending awaiting : List Column) (old new : List Node) (columns : List Column) (n : ℕ) (x : Node) (r : Result (Unit {0}) AllocError)
    → map plain-Column columns ≡ types_under D t h → n ≡ length columns → x ≡ node_of t h n → new ≡ old ++ x ∷ [] → OnOk r (awaited awaiting ≡ map plain-Column columns ++ awaited pending)
    → OnOk r (Begun D t h pending awaiting old new)
begun_if D t h pending awaiting old new columns n x (Err e) a b c d k = tt
begun_if D t h pending awaiting old new columns n x (Ok u) a b c d k =
    let long : n ≡ length (types_under D t h) = b ∙ sym (length-map columns plain-Column) ∙ ap length a in
    record { awaits = k ∙ ap (λ l. l ++ awaited pending) a; written = d ∙ ap (λ y. old ++ y ∷ []) (c ∙ ap (λ m. node_of t h m) long) }

-- ---- one value

pub record Written (D : Declarations) (t : Typ) (h : Head) (row : List Node) : Type 0 where
  pub whole : IsWhole row
  pub headed : Headed D t h (Some (plain-Value row))

pub all_written : (D : Declarations) (t : Typ) (h : Head) (none pending : List Column) (empty begun row : List Node) → none ≡ [] → empty ≡ [] → IsHead D t h → Begun D t h none pending empty begun → Writes D (awaited pending) begun row true → Written D t h row
all_written D t h none pending empty begun row e g i b w =
    let fields : awaited pending ≡ types_under D t h = b.awaits ∙ ap (λ l. types_under D t h ++ awaited l) e ∙ append-nil (types_under D t h) in
    let typed = subst (λ l. AreOfTypes D l w.0) fields w.1 in
    let n = node_of t h (length (types_under D t h)) in
    let is : row ≡ nodes (with_head t h w.0) = w.2 ∙ ap (λ l. l ++ nodes_of w.0) (b.written ∙ ap (λ l. l ++ n ∷ []) g) ∙ sym (nodes_with_head D t h w.0 i typed) in
    let r = built D t h w.0 i typed in
    record {
      whole = whole_is row (with_head t h w.0) is;
      headed = subst (λ v. IsOfType D t v × (head_of v ≡ h)) (sym (plain_is row (with_head t h w.0) is)) (r.typed, r.head_is);
    }

pub none_written : (D : Declarations) (t : Typ) (h : Head) (none pending : List Column) (empty begun row : List Node) → none ≡ [] → Begun D t h none pending empty begun → Writes D (awaited pending) begun row false → Headed D t h None
none_written D t h none pending empty begun row e b w =
    let fields : awaited pending ≡ types_under D t h = b.awaits ∙ ap (λ l. types_under D t h ++ awaited l) e ∙ append-nil (types_under D t h) in
    λ vs k. w vs (subst (λ l. AreOfTypes D l vs) (sym fields) k)

pub apart_by : (D : Declarations) (t : Typ) (hs : List Head) (h : Head) (o : Option value.Value) → HeadFound D t hs h → Headed D t h o → Apart D t hs o
apart_by D t hs h (Some v) f k = (k.0, subst (λ x. has hs x ≡ false) (sym k.1) f.apart)
apart_by D t hs h None f k = λ v p. by v p (has hs (head_of v)) refl
  where
    by : (v : value.Value) → IsOfType D t v → (b : Bool) → has hs (head_of v) ≡ b → b ≡ true
    by v p true e = refl
    by v p false e = let q = f.begins v p e in absurd (k q.0 q.1)

pub apart_if : (D : Declarations) (t : Typ) (hs : List Head) (h : Head) (r : Result (Option Value) AllocError) → HeadFound D t hs h → IfOk r (λ o. Headed D t h (option_map plain-Value o)) → IfOk r (λ o. Apart D t hs (option_map plain-Value o))
apart_if D t hs h (Ok o) f k = apart_by D t hs h (option_map plain-Value o) f k
apart_if D t hs h (Err e) f k = tt

pub bounded : (D : Declarations) (t : Typ) (h : Head) → IsHead D t h → Bounded h
bounded D t (whole (pos n)) i = tt
bounded D t (head.truth b) i = tt
bounded D t composed i = tt
bounded D t (chosen j k) i = tt
bounded D t pointed i = tt
bounded D (integer Kind.U8) (whole (negsuc n)) i = omega (arith, i)
bounded D (integer Kind.U32) (whole (negsuc n)) i = omega (arith, i)
bounded D (integer Kind.U64) (whole (negsuc n)) i = omega (arith, i)
bounded D (integer Kind.I32) (whole (negsuc n)) i = omega (arith, i)
bounded D (integer Kind.I64) (whole (negsuc n)) i = omega (arith, i)
bounded D boolean (whole (negsuc n)) i = absurd i
bounded D (tuple_of ts) (whole (negsuc n)) i = absurd i
bounded D (reference m t) (whole (negsuc n)) i = absurd i
bounded D (named j) (whole (negsuc n)) i = absurd i
