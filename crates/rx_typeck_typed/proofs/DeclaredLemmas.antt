-- Items by their numbers: what stands in the program, its names and what is declared of it; structs and enums are declared
-- with the lifetimes that they are written with.
use Rattle.std.proofs.Common.{◌≡◌, ℕ, zero, suc, ◌+◌, ◌<◌, ◌≤◌, Bool, true, false, if◌then◌else◌, List, [], ◌∷◌, ◌++◌, length, Option, Some, None, option_map, Ok, slice_get, refl, sym, ap, subst, ◌∙◌, arith, ◌⊎◌, inl, inr, ⊎_elim}
use Rattle.std.specs.Str.{bytes_eq}
use Rattle.rx_core.specs.declared.types.Span.{Span}
use Rattle.rx_tree.specs.declared.tree.Ident.{Ident}
use Rattle.rx_tree.specs.Plain as plain
use Rattle.rx_tree.specs.Plain.{Structure, Enumeration, ItemTree, ProgramTree}
use Rattle.rx_tree.specs.Positions.{NodeTree}
use Rattle.rx_tree.specs.Nodes.{nodes, total, below_item}
use Rattle.rx_tree.specs.Size.{item_lifetimes, lifetimes_at as lifetimes_counted, IsNumbered}
use Rattle.rx_resolve_names.specs.declared.table.NumberedName.{NumberedName}
use Rattle.rx_resolve_names.specs.Scopes.{DeclaredNames, declared_as}
use Rattle.rx_resolve_names.specs.declared.resolved.ItemNames.{ItemNames}
use Rattle.rx_resolve_names.specs.declared.resolved.NodeNames.{NodeNames}
use Rattle.rx_resolve_names.specs.Meant.{number, type_name, item_named, has_name, as_type, number_in, firsts, kept}
use Rattle.rx_resolve_names.specs.Steps as names
use Rattle.rx_resolve_names.specs.Causes.{Meant}
use Rattle.rx_resolve_names.specs.Items.{in_item, in_items, apart}
use Rattle.rx_typed.specs.PlainTypes.{plain-Decl, declarations}
use Rattle.rx_typed.proofs.Items.{declared_at}
use Rattle.rx_typed.specs.declared.declarations.Decl.{Decl}
use Rattle.rx_typed.specs.declared.declarations.Decl.TheVariants as decl
use Rattle.rx_typed.specs.declared.declarations.FieldDecl.{FieldDecl}
use Rattle.rx_typed.specs.declared.declarations.VariantDecl.{VariantDecl}
use Rattle.rx_typed.specs.Types as types
use Rattle.rx_typed_declarations.specs.WellFormed.{is_adt}
use Rattle.rx_typeck_typed.specs.Steps as steps
use Rattle.rx_typeck_typed.specs.Steps.{Reading, on_ok}
use Rattle.rx_typeck_typed.specs.Written.{lifetimes_of}
use Rattle.rx_typeck_typed.specs.Items.{begins, fields_of, variants_of, derives_copy, all_used, declared_item, declared_items, entries_of}
use Rattle.rx_typeck_typed.proofs.Resolving.{named_ok}
use Rattle.rx_typeck_typed.proofs.Lifetimes.{read_ok}

read_same : {A : Type 0} (a b : A) → ◌≡◌ {A = steps.Outcome A} (Ok a) (Ok b) → a ≡ b
read_same a b e = cc

named_same : {A : Type 0} (a b : A) → ◌≡◌ {A = names.Outcome A} (Ok a) (Ok b) → a ≡ b
named_same a b e = cc

-- ---- the numbers of an item's lifetimes

abbrev NumbersBelow : ℕ → DeclaredNames → Type 0
NumbersBelow m ds = (x : List ℕ) (k : ℕ) → number_in ds x ≡ Some k → k < m

number_least : (n m : ℕ) → n < m → number n < m
number_least n m h = omega (arith, h)

in_one_more : (ds : DeclaredNames) (y : List ℕ) (d : NumberedName) (x : List ℕ) (k : ℕ) → number_in (ds ++ (y, d) ∷ []) x ≡ Some k → (number_in ds x ≡ Some k) ⊎ (d.number ≡ k)
in_one_more [] y d x k e = last (bytes_eq x y) e where
  last : (b : Bool) → option_map (λ (k : NumberedName). k.number) (if b then Some d else None) ≡ Some k → (option_map (λ (k : NumberedName). k.number) None ≡ Some k) ⊎ (d.number ≡ k)
  last true e = inr (cc)
  last false e = absurd (cc)
in_one_more (c ∷ ds) y d x k e = here (bytes_eq x c.0) (in_one_more ds y d x k) e where
  here : (b : Bool) → (number_in (ds ++ (y, d) ∷ []) x ≡ Some k → (number_in ds x ≡ Some k) ⊎ (d.number ≡ k))
      → option_map (λ (k : NumberedName). k.number) (if b then Some c.1 else declared_as (ds ++ (y, d) ∷ []) x) ≡ Some k
      → (option_map (λ (k : NumberedName). k.number) (if b then Some c.1 else declared_as ds x) ≡ Some k) ⊎ (d.number ≡ k)
  here true later e = inl e
  here false later e = later e

kept_below : (m : ℕ) (ds : DeclaredNames) (x : Ident) (n : ℕ) (o : Option NumberedName) → NumbersBelow m ds → n < m → NumbersBelow m (kept ds x n o)
kept_below m ds x n None h less = λ y k e. ⊎_elim (λ a. h y k a) (λ a. subst (λ j. j < m) a (number_least n m less)) (in_one_more ds x.name _ y k e)
kept_below m ds x n (Some d) h less = h

firsts_below : (m : ℕ) (ds : DeclaredNames) (n : ℕ) (xs : List Ident) → NumbersBelow m ds → n + length xs ≤ m → NumbersBelow m (firsts ds n xs)
firsts_below m ds n [] h most = h
firsts_below m ds n (x ∷ xs) h most = firsts_below m (kept ds x n (declared_as ds x.name)) (suc n) xs (kept_below m ds x n (declared_as ds x.name) h (omega (arith, most))) (omega (arith, most))

none_below : (m : ℕ) → NumbersBelow m []
none_below m x k e = absurd (cc)

-- each lifetime has a number below how many there are
pub lifetimes_below : (xs : List Ident) (x : List ℕ) (k : ℕ) → number_in (firsts [] 0 xs) x ≡ Some k → k < length xs
lifetimes_below xs x k e = firsts_below (length xs) [] 0 xs (none_below (length xs)) (omega arith) x k e

-- ---- items by their numbers

record Stands (is : ProgramTree) (n i : ℕ) : Type 0 where
  number : ℕ
  behind : n + number ≡ i
  item : ItemTree
  stands : slice_get is number ≡ Some item
  adt : as_type (Some (i, item)) ≡ Some i

stands_behind : (i : ItemTree) (is : ProgramTree) (n k : ℕ) → Stands is (suc n) k → Stands (i ∷ is) n k
stands_behind i is n k s = record { number = suc s.number; behind = omega (arith, s.behind); item = s.item; stands = s.stands; adt = s.adt }

named_stands : (name : ItemTree → Option Ident) (is : ProgramTree) (n : ℕ) (x : List ℕ) (i : ℕ) → as_type (item_named name n is x) ≡ Some i → Stands is n i
named_stands name [] n x i e = absurd (cc)
named_stands name (it ∷ is) n x i e = here (has_name x (name it)) (named_stands name is (suc n) x i) e where
  here : (b : Bool) → (as_type (item_named name (suc n) is x) ≡ Some i → Stands is (suc n) i) → as_type (if b then Some (n, it) else item_named name (suc n) is x) ≡ Some i → Stands (it ∷ is) n i
  here true later e = found it e where
    found : (it : ItemTree) → as_type (Some (n, it)) ≡ Some i → Stands (it ∷ is) n i
    found (plain.rt_item s r) e = absurd (cc)
    found (plain.struct_item s d) e = let same : n ≡ i = cc in subst (λ k. Stands (plain.struct_item s d ∷ is) n k) same (record { number = 0; behind = omega arith; item = plain.struct_item s d; stands = refl; adt = refl })
    found (plain.enum_item s d) e = let same : n ≡ i = cc in subst (λ k. Stands (plain.enum_item s d ∷ is) n k) same (record { number = 0; behind = omega arith; item = plain.enum_item s d; stands = refl; adt = refl })
    found (plain.function_item s f) e = absurd (cc)
  here false later e = stands_behind it is n i (later e)

-- what is declared of an item that stands there
pub record DeclaredAt (p : ProgramTree) (ns : List ItemNames) (ds : List Decl) (n j : ℕ) (it : ItemTree) : Type 0 where
  pub decl : Decl
  pub stands : slice_get ds j ≡ Some decl
  pub declared : declared_item p (entries_of (slice_get ns (n + j))) it ≡ Ok decl

pub declared_there : (p : ProgramTree) (ns : List ItemNames) (n : ℕ) (is : ProgramTree) (ds : List Decl) (j : ℕ) (it : ItemTree) → declared_items p ns n is ≡ Ok ds → slice_get is j ≡ Some it
    → DeclaredAt p ns ds n j it
declared_there p ns n [] ds j it e s = absurd (cc)
declared_there p ns n (i ∷ is) ds zero it e s =
    let a = read_ok (declared_item p (entries_of (slice_get ns n)) i) (λ d. on_ok (declared_items p ns (suc n) is) (λ ds. Ok (d ∷ ds))) ds e in
    let b = read_ok (declared_items p ns (suc n) is) (λ ds. Ok (a.0 ∷ ds)) ds a.2 in
    let c : a.0 ∷ b.0 ≡ ds = read_same (a.0 ∷ b.0) ds b.2 in
    let same : i ≡ it = cc in
    let at : n ≡ n + 0 = omega arith in
    record {
      decl = a.0;
      stands = ap (λ (l : List Decl). slice_get l 0) (sym c);
      declared = subst (λ k. declared_item p (entries_of (slice_get ns k)) it ≡ Ok a.0) at (subst (λ x. declared_item p (entries_of (slice_get ns n)) x ≡ Ok a.0) same a.1);
    }
declared_there p ns n (i ∷ is) ds (suc j) it e s =
    let a = read_ok (declared_item p (entries_of (slice_get ns n)) i) (λ d. on_ok (declared_items p ns (suc n) is) (λ ds. Ok (d ∷ ds))) ds e in
    let b = read_ok (declared_items p ns (suc n) is) (λ ds. Ok (a.0 ∷ ds)) ds a.2 in
    let c : a.0 ∷ b.0 ≡ ds = read_same (a.0 ∷ b.0) ds b.2 in
    let more = declared_there p ns (suc n) is b.0 j it b.1 s in
    let at : suc n + j ≡ n + suc j = omega arith in
    record {
      decl = more.decl;
      stands = ap (λ (l : List Decl). slice_get l (suc j)) (sym c) ∙ more.stands;
      declared = subst (λ k. declared_item p (entries_of (slice_get ns k)) it ≡ Ok more.decl) at more.declared;
    }

-- the item of what is declared there
pub record ItemAt (is : ProgramTree) (j : ℕ) : Type 0 where
  pub item : ItemTree
  pub stands : slice_get is j ≡ Some item

abbrev no_decl : List Decl
no_decl = []

nothing_at : (j : ℕ) (d : Decl) → slice_get no_decl j ≡ Some d → ⊥
nothing_at zero d h = cc
nothing_at (suc j) d h = cc

pub item_there : (p : ProgramTree) (ns : List ItemNames) (n : ℕ) (is : ProgramTree) (ds : List Decl) (j : ℕ) (d : Decl) → declared_items p ns n is ≡ Ok ds → slice_get ds j ≡ Some d → ItemAt is j
item_there p ns n [] ds j d e s = let c : [] ≡ ds = cc in absurd (nothing_at j d (subst (λ (l : List Decl). slice_get l j ≡ Some d) (sym c) s))
item_there p ns n (i ∷ is) ds zero d e s = record { item = i; stands = refl }
item_there p ns n (i ∷ is) ds (suc j) d e s =
    let a = read_ok (declared_item p (entries_of (slice_get ns n)) i) (λ d. on_ok (declared_items p ns (suc n) is) (λ ds. Ok (d ∷ ds))) ds e in
    let b = read_ok (declared_items p ns (suc n) is) (λ ds. Ok (a.0 ∷ ds)) ds a.2 in
    let c : a.0 ∷ b.0 ≡ ds = read_same (a.0 ∷ b.0) ds b.2 in
    let more = item_there p ns (suc n) is b.0 j d b.1 (subst (λ (l : List Decl). slice_get l (suc j) ≡ Some d) (sym c) s) in
    record { item = more.item; stands = more.stands }

-- the names of an item that stands there
pub record NamedAt (p : ProgramTree) (ns : List ItemNames) (n j : ℕ) (it : ItemTree) : Type 0 where
  pub table : ItemNames
  pub stands : slice_get ns j ≡ Some table
  pub named : in_item p (n + j) it ≡ Ok table

pub named_there : (p : ProgramTree) (n : ℕ) (is : ProgramTree) (ns : List ItemNames) (j : ℕ) (it : ItemTree) → in_items p n is ≡ Ok ns → slice_get is j ≡ Some it → NamedAt p ns n j it
named_there p n [] ns j it e s = absurd (cc)
named_there p n (i ∷ is) ns zero it e s =
    let a = named_ok (in_item p n i) (λ x. names.and_then (in_items p (suc n) is) (λ xs. Ok (x ∷ xs))) ns e in
    let b = named_ok (in_items p (suc n) is) (λ xs. Ok (a.0 ∷ xs)) ns a.2 in
    let c : a.0 ∷ b.0 ≡ ns = named_same (a.0 ∷ b.0) ns b.2 in
    let same : i ≡ it = cc in
    let at : n ≡ n + 0 = omega arith in
    record {
      table = a.0;
      stands = ap (λ (l : List ItemNames). slice_get l 0) (sym c);
      named = subst (λ k. in_item p k it ≡ Ok a.0) at (subst (λ x. in_item p n x ≡ Ok a.0) same a.1);
    }
named_there p n (i ∷ is) ns (suc j) it e s =
    let a = named_ok (in_item p n i) (λ x. names.and_then (in_items p (suc n) is) (λ xs. Ok (x ∷ xs))) ns e in
    let b = named_ok (in_items p (suc n) is) (λ xs. Ok (a.0 ∷ xs)) ns a.2 in
    let c : a.0 ∷ b.0 ≡ ns = named_same (a.0 ∷ b.0) ns b.2 in
    let more = named_there p (suc n) is b.0 j it b.1 s in
    let at : suc n + j ≡ n + suc j = omega arith in
    record { table = more.table; stands = ap (λ (l : List ItemNames). slice_get l (suc j)) (sym c) ∙ more.stands; named = subst (λ k. in_item p k it ≡ Ok more.table) at more.named }

-- ---- items of a program whose lifetimes are few

total_append : (f : NodeTree → ℕ) (a b : List NodeTree) → total f (a ++ b) ≡ total f a + total f b
total_append f [] b = omega arith
total_append f (n ∷ a) b = let more = total_append f a b in omega (arith, more)

pub lifetimes_within : (is : ProgramTree) (j : ℕ) (it : ItemTree) → slice_get is j ≡ Some it → item_lifetimes it ≤ total lifetimes_counted (nodes is)
lifetimes_within [] j it s = absurd (cc)
lifetimes_within (i ∷ is) zero it s =
    let same : i ≡ it = cc in
    subst (λ x. item_lifetimes x ≤ total lifetimes_counted (nodes (i ∷ is))) same (omega arith)
lifetimes_within (i ∷ is) (suc j) it s =
    let more = lifetimes_within is j it s in
    let parts = total_append lifetimes_counted (below_item i) (nodes is) in
    omega (arith, more, parts)

pub struct_is : (p : ProgramTree) (ns : List NodeNames) (s : Span) (d : Structure) (r : Decl) → declared_item p ns (plain.struct_item s d) ≡ Ok r
    → (fs : List FieldDecl × Reading) × (decl.Struct (derives_copy d.derives) (number (length d.lifetimes)) [] fs.0 ≡ r)
struct_is p ns s d r e =
    let a = read_ok (fields_of p d.fields (begins ns 0)) (λ r. on_ok (all_used 0 d.lifetimes r.1.lifetimes) (λ _. Ok (decl.Struct (derives_copy d.derives) (number (length d.lifetimes)) [] r.0))) r e in
    let b = read_ok (all_used 0 d.lifetimes a.0.1.lifetimes) (λ _. Ok (decl.Struct (derives_copy d.derives) (number (length d.lifetimes)) [] a.0.0)) r a.2 in
    (a.0, read_same _ r b.2)

pub enum_is : (p : ProgramTree) (ns : List NodeNames) (s : Span) (d : Enumeration) (r : Decl) → declared_item p ns (plain.enum_item s d) ≡ Ok r
    → (vs : List VariantDecl × Reading) × (decl.Enum (derives_copy d.derives) (number (length d.lifetimes)) [] vs.0 ≡ r)
enum_is p ns s d r e =
    let a = read_ok (variants_of p d.variants (begins ns 0)) (λ r. on_ok (all_used 0 d.lifetimes r.1.lifetimes) (λ _. Ok (decl.Enum (derives_copy d.derives) (number (length d.lifetimes)) [] r.0))) r e in
    let b = read_ok (all_used 0 d.lifetimes a.0.1.lifetimes) (λ _. Ok (decl.Enum (derives_copy d.derives) (number (length d.lifetimes)) [] a.0.0)) r a.2 in
    (a.0, read_same _ r b.2)

pub few_number : (n : ℕ) → n < 4294967296 → number n ≡ n
few_number n h = omega (arith, h)

adt_declared : (p : ProgramTree) (ns : List NodeNames) (i : ℕ) (it : ItemTree) (r : Decl) → as_type (Some (i, it)) ≡ Some i → item_lifetimes it < 4294967296 → declared_item p ns it ≡ Ok r
    → (is_adt (Some (plain-Decl r)) ≡ true) × (types.lifetimes_declared (Some (plain-Decl r)) ≡ length (lifetimes_of (Some it)))
adt_declared p ns i (plain.rt_item s x) r a few e = absurd (cc)
adt_declared p ns i (plain.struct_item s d) r a few e =
    let x = struct_is p ns s d r e in
    (ap (λ d. is_adt (Some (plain-Decl d))) (sym x.1), ap (λ d. types.lifetimes_declared (Some (plain-Decl d))) (sym x.1) ∙ few_number (length d.lifetimes) few)
adt_declared p ns i (plain.enum_item s d) r a few e =
    let x = enum_is p ns s d r e in
    (ap (λ d. is_adt (Some (plain-Decl d))) (sym x.1), ap (λ d. types.lifetimes_declared (Some (plain-Decl d))) (sym x.1) ∙ few_number (length d.lifetimes) few)
adt_declared p ns i (plain.function_item s f) r a few e = absurd (cc)

-- what is known of a whole program
pub record Program (p : ProgramTree) (ns : List ItemNames) (ds : List Decl) : Type 0 where
  pub names : in_items p 0 p ≡ Ok ns
  pub declares : declared_items p ns 0 p ≡ Ok ds
  pub few : total lifetimes_counted (nodes p) < 4294967296

pub program : (p : ProgramTree) (ns : List ItemNames) (ds : List Decl) → IsNumbered p → Meant p ns → declared_items p ns 0 p ≡ Ok ds → Program p ns ds
program p ns ds few named declares = record {
  names = (named_ok {A = Unit {0}} (apart (record { types = []; functions = [] }) 0 p) (λ _. in_items p 0 p) ns named.names_are).2;
  declares = declares;
  few = few.lifetimes;
}

pub adt_at : (p : ProgramTree) (ns : List ItemNames) (ds : List Decl) → Program p ns ds → (x : List ℕ) (i : ℕ) → as_type (item_named type_name 0 p x) ≡ Some i
    → (is_adt (slice_get (declarations ds) i) ≡ true) × (types.lifetimes_declared (slice_get (declarations ds) i) ≡ length (lifetimes_of (slice_get p i)))
adt_at p ns ds P x i e =
    let s = named_stands type_name p 0 x i e in
    let same : s.number ≡ i = let b = s.behind in omega (arith, b) in
    let there : slice_get p i ≡ Some s.item = subst (λ k. slice_get p k ≡ Some s.item) same s.stands in
    let d = declared_there p ns 0 p ds i s.item P.declares there in
    let few = lifetimes_within p i s.item there in
    let a = adt_declared p _ i s.item d.decl s.adt (omega (arith, few, P.few)) d.declared in
    let q : slice_get (declarations ds) i ≡ Some (plain-Decl d.decl) = declared_at ds i ∙ ap (λ o. option_map plain-Decl o) d.stands in
    (ap is_adt q ∙ a.0, ap types.lifetimes_declared q ∙ a.1 ∙ ap (λ o. length (lifetimes_of o)) (sym there))
