-- What a signature names is declared, where names are resolved and the lists of lifetimes are as long as they are declared.
use Rattle.std.proofs.Common.{◌≡◌, ℕ, ◌≤◌, Bool, true, false, ◌&&◌, if◌then◌else◌, nat_lt, List, [], ◌∷◌, ◌++◌, map, length, Option, Some, None, Ok, slice_get, refl, sym, ap, subst, ◌∙◌, arith, eq-eqb, append_assoc, append-nil}
use Rattle.rx_core.specs.declared.types.Span.{Span}
use Rattle.rx_core.specs.declared.types.Ty.{Ty}
use Rattle.rx_core.specs.declared.types.Ty.TheVariants as ty
use Rattle.rx_tree.specs.declared.tree.Ident.{Ident}
use Rattle.rx_tree.specs.Plain as plain
use Rattle.rx_tree.specs.Plain.{TypeTree, TypeTrees, Parameter, ProgramTree}
use Rattle.rx_resolve_names.specs.declared.resolved.ItemNames.{ItemNames}
use Rattle.rx_resolve_names.specs.declared.resolved.NodeNames.{NodeNames}
use Rattle.rx_resolve_names.specs.Meant.{type_name, item_named, as_type}
use Rattle.rx_resolve_names.specs.Steps as names
use Rattle.rx_resolve_names.specs.Steps.{Inside, child, next, entry, with_names, with_variable}
use Rattle.rx_resolve_names.specs.Names.{Bound, lifetimes_in, written, in_type, in_types, in_optional_type}
use Rattle.rx_resolve_names.specs.Items.{in_parameter, in_parameters}
use Rattle.rx_typed.specs.declared.nodes.Node.{Node}
use Rattle.rx_typed.specs.declared.nodes.Site.{Site}
use Rattle.rx_typed.specs.declared.nodes.Stage.{Stage}
use Rattle.rx_typed.specs.Named as named
use Rattle.rx_typed.specs.Named.{Written, WrittenTypes}
use Rattle.rx_typed.specs.Naming as naming
use Rattle.rx_typed.specs.Naming.{Cursor, a_node, of_type, of_types, of_optional_type, of_parameters, lifetimes_written}
use Rattle.rx_typed.specs.Types as types
use Rattle.rx_typed.specs.Types.{Declarations}
use Rattle.rx_typed.specs.Regions.{RegionTyp, regions_of, region-Ty, region_of_integer, region_of_boolean, region_of_tuple, region_of_shared, region_of_mut, region_of_item}
use Rattle.rx_typed_declarations.specs.WellFormed.{is_adt, all_below, fits, all_fit}
use Rattle.rx_typeck_typed.specs.Steps as steps
use Rattle.rx_typeck_typed.specs.Steps.{Reading, on_ok, occurs}
use Rattle.rx_typeck_typed.specs.Written.{elided, type_of, types_of, lifetimes_of, lifetimes_at, pointing}
use Rattle.rx_typeck_typed.specs.Items.{parameters_of, all_are, the_only, answer_of}
use Rattle.rx_typeck_typed.proofs.Resolving.{named_ok}
use Rattle.rx_typeck_typed.proofs.Lifetimes.{read_ok, both_true, known_ok, both_ok, Leaves, leaves_less, Lives, occurs_lives, another_lives, Role, Elides, LifetimesBelow, how_many, lifetimes_count}

-- ---- what stands round a type: what the item declares, and what the program's declarations are

pub record Within (I : Inside) (D : Declarations) (m : ℕ) : Type 0 where
  -- a name of a struct or enum is declared so
  pub adt : (x : List ℕ) (i : ℕ) → as_type (item_named type_name 0 I.program x) ≡ Some i → is_adt (slice_get D i) ≡ true
  pub counted : (x : List ℕ) (i : ℕ) → as_type (item_named type_name 0 I.program x) ≡ Some i
      → types.lifetimes_declared (slice_get D i) ≡ length (lifetimes_of (slice_get I.program i))
  -- the item's lifetimes have numbers below this
  pub below : LifetimesBelow I m

-- each list of lifetimes that is written is as long as it is declared
abbrev mutual
  pub Counted : Declarations → Written → Type 0
  Counted D (named.a_kind n k) = Unit {0}
  Counted D (named.a_bool n) = Unit {0}
  Counted D (named.a_tuple n ts) = AllCounted D ts
  Counted D (named.a_reference n m t) = Counted D t
  Counted D (named.an_item n i None) = Unit {0}
  Counted D (named.an_item n i (Some k)) = types.lifetimes_declared (slice_get D i) ≡ k

  pub AllCounted : Declarations → WrittenTypes → Type 0
  AllCounted D named.no_written = Unit {0}
  AllCounted D (named.written_and t ts) = Counted D t × AllCounted D ts

abbrev pub ParametersCounted : Declarations → List named.Parameter → Type 0
ParametersCounted D [] = Unit {0}
ParametersCounted D (x ∷ xs) = Counted D x.typ × ParametersCounted D xs

abbrev pub ResultCounted : Declarations → Option Written → Type 0
ResultCounted D None = Unit {0}
ResultCounted D (Some t) = Counted D t

-- ---- what is read with these entries left, and where the walk over the function is behind them

abbrev pub reading : List NodeNames → List ℕ → ℕ → Reading
reading es ls k = record { names = es; lifetimes = ls; next = k }

abbrev pub at_names : Cursor → List NodeNames → Cursor
at_names c es = record c { names = es }

pub record Reads (u : Bool) (m : ℕ) (rest : List NodeNames) (c : Cursor) (ls : List ℕ) (k : ℕ) (s : Reading) (Fit : Type 0) : Type 0 where
  pub taken : c.names ≡ rest
  pub read : s.names ≡ rest
  pub grows : k ≤ s.next
  pub fit : Leaves u m s.next → Fit
  pub below : Leaves u m s.next → all_below m ls ≡ true → all_below m s.lifetimes ≡ true

-- what was read has another name
reads_as : {A : Type 0} (P : A → Type 0) (u : Bool) (m : ℕ) (rest : List NodeNames) (c : Cursor) (ls : List ℕ) (k : ℕ) (x q : A × Reading) → ◌≡◌ {A = steps.Outcome (A × Reading)} (Ok x) (Ok q)
    → Reads u m rest c ls k x.1 (P x.0) → Reads u m rest c ls k q.1 (P q.0)
reads_as {A} P u m rest c ls k x q h r = let s : x ≡ q = cc in subst (λ (x : A × Reading). Reads u m rest c ls k x.1 (P x.0)) s r

reads_then : (u : Bool) (m : ℕ) (mid rest : List NodeNames) (c d : Cursor) (ls : List ℕ) (k : ℕ) (r s : Reading) (A B C : Type 0) → Reads u m mid c ls k r A → Reads u m rest d r.lifetimes r.next s B → (A → B → C) → Reads u m rest d ls k s C
reads_then u m mid rest c d ls k r s A B C a b f = record {
  taken = b.taken;
  read = b.read;
  grows = let p = a.grows in let q = b.grows in omega (arith, p, q);
  fit = λ l. f (a.fit (leaves_less u m r.next s.next b.grows l)) (b.fit l);
  below = λ l h. b.below l (a.below (leaves_less u m r.next s.next b.grows l) h);
}

-- entries of names were added, which are read well
pub record Added (t t' : ItemNames) (Q : List NodeNames → Type 0) : Type 0 where
  pub entries : List NodeNames
  pub added : t'.names ≡ t.names ++ entries
  pub reads : Q entries

module _ (p : ProgramTree) (D : Declarations) (m : ℕ) where
  abbrev pub TypeReads : TypeTree → List NodeNames → Type 0
  TypeReads y es = (e : Role) (u : Bool) → Elides e u m → (rest : List NodeNames) (c : Cursor) (ls : List ℕ) (k : ℕ) (q : Ty × Reading) → type_of p e y (reading (es ++ rest) ls k) ≡ Ok q
      → Reads u m rest (of_type y (at_names c (es ++ rest))).1 ls k q.1 (Counted D (of_type y (at_names c (es ++ rest))).0 → fits D m (region-Ty q.0) ≡ true)

  abbrev pub TypesRead : TypeTrees → List NodeNames → Type 0
  TypesRead ys es = (e : Role) (u : Bool) → Elides e u m → (rest : List NodeNames) (c : Cursor) (ls : List ℕ) (k : ℕ) (q : List Ty × Reading) → types_of p e ys (reading (es ++ rest) ls k) ≡ Ok q
      → Reads u m rest (of_types ys (at_names c (es ++ rest))).1 ls k q.1 (AllCounted D (of_types ys (at_names c (es ++ rest))).0 → all_fit D m (regions_of (map region-Ty q.0)) ≡ true)

  abbrev pub ParametersRead : List Parameter → List NodeNames → Type 0
  ParametersRead xs es = (rest : List NodeNames) (c : Cursor) (ls : List ℕ) (k : ℕ) (q : List Ty × Reading) → parameters_of p xs (reading (es ++ rest) ls k) ≡ Ok q
      → Reads true m rest (of_parameters xs (at_names c (es ++ rest))).1 ls k q.1 (ParametersCounted D (of_parameters xs (at_names c (es ++ rest))).0 → all_fit D m (regions_of (map region-Ty q.0)) ≡ true)

  abbrev pub ResultReads : Option TypeTree → List NodeNames → Type 0
  ResultReads y es = (rest : List NodeNames) (c : Cursor) (ls : List ℕ) (k : ℕ) (q : Ty × Reading) → answer_of p y (reading (es ++ rest) ls k) ≡ Ok q → all_below m ls ≡ true
      → ResultCounted D (of_optional_type y (at_names c (es ++ rest))).0 → fits D m (region-Ty q.0) ≡ true

-- ---- types

-- nothing was added
unchanged : (t t' : ItemNames) (Q : List NodeNames → Type 0) → ◌≡◌ {A = names.Outcome ItemNames} (Ok t) (Ok t') → Q [] → Added t t' Q
unchanged t t' Q h q = record { entries = []; added = ap (λ (x : ItemNames). x.names) (let e : t' ≡ t = cc in e) ∙ sym (append-nil t.names); reads = q }

-- an entry, and then others
with_entry : (t t' : ItemNames) (e : NodeNames) (P Q : List NodeNames → Type 0) → Added (with_names e t) t' P → ((es : List NodeNames) → P es → Q (e ∷ es)) → Added t t' Q
with_entry t t' e P Q a f = record { entries = e ∷ a.entries; added = a.added ∙ append_assoc t.names (e ∷ []) a.entries; reads = f a.entries a.reads }

-- some entries, and then others
both_added : (t t1 t2 : ItemNames) (P R Q : List NodeNames → Type 0) → Added t t1 P → Added t1 t2 R → ((es fs : List NodeNames) → P es → R fs → Q (es ++ fs)) → Added t t2 Q
both_added t t1 t2 P R Q a b f = record {
  entries = a.entries ++ b.entries;
  added = b.added ∙ ap (λ (l : List NodeNames). l ++ b.entries) a.added ∙ append_assoc t.names a.entries b.entries;
  reads = f a.entries b.entries a.reads b.reads;
}

name_step : (I : Inside) (at : List ℕ) (t t' : ItemNames) (k : ℕ) (ks : List ℕ) → names.numbered I at (k ∷ ks) t ≡ Ok t' → with_names (entry I at (k ∷ ks)) t ≡ t'
name_step I at t t' k ks e = cc

unit_reads : (D : Declarations) (m : ℕ) (u : Bool) (rest : List NodeNames) (c : Cursor) (ls : List ℕ) (k : ℕ) (t : Ty) (q : Ty × Reading) (W : Type 0) → c.names ≡ rest → fits D m (region-Ty t) ≡ true
    → ◌≡◌ {A = steps.Outcome (Ty × Reading)} (Ok (t, reading rest ls k)) (Ok q) → Reads u m rest c ls k q.1 (W → fits D m (region-Ty q.0) ≡ true)
unit_reads D m u rest c ls k t q W taken fit h =
    reads_as (λ t. W → fits D m (region-Ty t) ≡ true) u m rest c ls k (t, reading rest ls k) q h (record { taken = taken; read = refl; grows = omega arith; fit = λ l w. fit; below = λ l b. b })

reference_fits : (D : Declarations) (n l : ℕ) (m : Bool) (t : Ty) → nat_lt l n ≡ true → fits D n (region-Ty t) ≡ true → fits D n (region-Ty (pointing m l t)) ≡ true
reference_fits D n l false t small fit = ap (λ (x : RegionTyp). fits D n x) (region_of_shared l t) ∙ both_true _ _ small fit
reference_fits D n l true t small fit = ap (λ (x : RegionTyp). fits D n x) (region_of_mut l t) ∙ both_true _ _ small fit

-- a reference, whose lifetime was read
reference_reads : (p : ProgramTree) (D : Declarations) (m : ℕ) (b : Bool) (y : TypeTree) (es : List NodeNames) → TypeReads p D m y es → (e : Role) (u : Bool) → Elides e u m → (rest : List NodeNames) (c : Cursor) (ls : List ℕ) (k : ℕ)
    (l : ℕ × Reading) (q : Ty × Reading) → Lives u m (reading (es ++ rest) ls k) l.1 (nat_lt l.0 m ≡ true) → on_ok (type_of p e y l.1) (λ x. Ok (pointing b l.0 x.0, x.1)) ≡ Ok q
    → Reads u m rest (of_type y (at_names c (es ++ rest))).1 ls k q.1 (Counted D (of_type y (at_names c (es ++ rest))).0 → fits D m (region-Ty q.0) ≡ true)
reference_reads p D m b y es more e u f rest c ls k l q x h =
    let a = read_ok (type_of p e y l.1) (λ x. Ok (pointing b l.0 x.0, x.1)) q h in
    let r = more e u f rest c l.1.lifetimes l.1.next a.0 (subst (λ (ns : List NodeNames). type_of p e y (reading ns l.1.lifetimes l.1.next) ≡ Ok a.0) x.same a.1) in
    let before : Reads u m (es ++ rest) (at_names c (es ++ rest)) ls k l.1 (nat_lt l.0 m ≡ true) = record { taken = refl; read = x.same; grows = x.grows; fit = x.fit; below = x.below } in
    reads_as (λ t. Counted D (of_type y (at_names c (es ++ rest))).0 → fits D m (region-Ty t) ≡ true) u m rest _ ls k (pointing b l.0 a.0.0, a.0.1) q a.2
    (reads_then u m (es ++ rest) rest _ _ ls k l.1 a.0.1 _ _ _ before r (λ s g w. reference_fits D m l.0 b a.0.0 s (g w)))

item_fit : (D : Declarations) (n i : ℕ) (ls : List ℕ) → is_adt (slice_get D i) ≡ true → length ls ≡ types.lifetimes_declared (slice_get D i) → all_below n ls ≡ true
    → fits D n (region-Ty (ty.Adt i ls)) ≡ true
item_fit D n i ls adt as_many all = ap (λ (x : RegionTyp). fits D n x) (region_of_item i ls)
    ∙ both_true _ _ (both_true _ _ adt (eq-eqb (length ls) _ as_many)) all

as_declared : (D : Declarations) (n : Node) (i : ℕ) (ds : List Ident) (ls : Option (List (Option Ident))) → types.lifetimes_declared (slice_get D i) ≡ length ds
    → Counted D (named.an_item n i (lifetimes_written ls)) → how_many ds ls ≡ types.lifetimes_declared (slice_get D i)
as_declared D n i ds None h w = sym h
as_declared D n i ds (Some ls) h w = sym w

-- a type of this item with these lifetimes
item_reads : (I : Inside) (D : Declarations) (m : ℕ) → Within I D m → (s : Span) (x : Ident) (ls : Option (List (Option Ident))) (at : List ℕ) (i : ℕ) (ks : List ℕ)
    → as_type (item_named type_name 0 I.program x.name) ≡ Some i → lifetimes_in I (written ls) ≡ Ok ks → TypeReads I.program D m (plain.named_type s x ls) (entry I at (i ∷ ks) ∷ [])
item_reads I D m w s x ls at i ks is given e u v rest c js k q h =
    let ds = lifetimes_of (slice_get I.program i) in
    let a = read_ok (lifetimes_at e s ds ls ks (reading rest js k)) (λ r. Ok (ty.Adt i r.0, r.1)) q h in
    let f = lifetimes_count I e u m v w.below s ds ls ks given (reading rest js k) a.0 a.1 in
    let n = (a_node s Site.Value c).0 in
    reads_as (λ t. Counted D (named.an_item n i (lifetimes_written ls)) → fits D m (region-Ty t) ≡ true) u m rest _ js k (ty.Adt i a.0.0, a.0.1) q a.2
    (record {
      taken = refl;
      read = f.same;
      grows = f.grows;
      fit = λ l z. let g = f.fit l in item_fit D m i a.0.0 (w.adt x.name i is) (g.as_many ∙ as_declared D n i ds ls (w.counted x.name i is) z) g.below;
      below = f.below;
    })

tuple_reads : (p : ProgramTree) (D : Declarations) (m : ℕ) (s : Span) (ts : TypeTrees) (es : List NodeNames) → TypesRead p D m ts es → TypeReads p D m (plain.tuple_type s ts) es
tuple_reads p D m s ts es more e u v rest c ls k q h =
    let a = read_ok (types_of p e ts (reading (es ++ rest) ls k)) (λ r. Ok (ty.Tuple r.0, r.1)) q h in
    let c1 = (a_node s Site.Value c).1 in
    let r = more e u v rest c1 ls k a.0 a.1 in
    reads_as (λ t. AllCounted D (of_types ts (at_names c1 (es ++ rest))).0 → fits D m (region-Ty t) ≡ true) u m rest _ ls k (ty.Tuple a.0.0, a.0.1) q a.2
    (record { taken = r.taken; read = r.read; grows = r.grows; fit = λ l w. ap (λ (x : RegionTyp). fits D m x) (region_of_tuple a.0.0) ∙ r.fit l w; below = r.below })

no_types_read : (p : ProgramTree) (D : Declarations) (m : ℕ) → TypesRead p D m plain.no_type []
no_types_read p D m e u v rest c ls k q h =
    reads_as (λ ts. AllCounted D named.no_written → all_fit D m (regions_of (map region-Ty ts)) ≡ true) u m rest (at_names c rest) ls k ([], reading rest ls k) q h
    (record { taken = refl; read = refl; grows = omega arith; fit = λ l w. refl; below = λ l b. b })

-- the next lists of what was read, with what it names behind
types_read : (p : ProgramTree) (D : Declarations) (m : ℕ) (y : TypeTree) (ys : TypeTrees) (es fs : List NodeNames) → TypeReads p D m y es → TypesRead p D m ys fs → TypesRead p D m (plain.type_and y ys) (es ++ fs)
types_read p D m y ys es fs one others e u z rest c ls k q h =
    let same : (es ++ fs) ++ rest ≡ es ++ (fs ++ rest) = append_assoc es fs rest in
    subst (λ (ns : List NodeNames). types_of p e (plain.type_and y ys) (reading ns ls k) ≡ Ok q → Reads u m rest (of_types (plain.type_and y ys) (at_names c ns)).1 ls k q.1
    (AllCounted D (of_types (plain.type_and y ys) (at_names c ns)).0 → all_fit D m (regions_of (map region-Ty q.0)) ≡ true)) (sym same)
    (λ h.
    let a = read_ok (type_of p e y (reading (es ++ (fs ++ rest)) ls k)) (λ r. on_ok (types_of p e ys r.1) (λ x. Ok (r.0 ∷ x.0, x.1))) q h in
    let b = one e u z (fs ++ rest) c ls k a.0 a.1 in
    let d = read_ok (types_of p e ys a.0.1) (λ x. Ok (a.0.0 ∷ x.0, x.1)) q a.2 in
    let w = of_type y (at_names c (es ++ (fs ++ rest))) in
    let r = others e u z rest w.1 a.0.1.lifetimes a.0.1.next d.0 (subst (λ (ns : List NodeNames). types_of p e ys (reading ns a.0.1.lifetimes a.0.1.next) ≡ Ok d.0) b.read d.1) in
    let r1 = subst (λ (ns : List NodeNames). Reads u m rest (of_types ys (at_names w.1 ns)).1 a.0.1.lifetimes a.0.1.next d.0.1 (AllCounted D (of_types ys (at_names w.1 ns)).0 → all_fit D m (regions_of (map region-Ty d.0.0)) ≡ true)) (sym b.taken) r in
    reads_as (λ ts. AllCounted D (named.written_and w.0 (of_types ys w.1).0) → all_fit D m (regions_of (map region-Ty ts)) ≡ true) u m rest (of_types ys w.1).1 ls k (a.0.0 ∷ d.0.0, d.0.1) q d.2
    (reads_then u m (fs ++ rest) rest w.1 (of_types ys w.1).1 ls k a.0.1 d.0.1 _ _ _ b r1 (λ f g v. both_true _ _ (f v.0) (g v.1))))
    h

mutual
  pub type_added : (I : Inside) (D : Declarations) (m : ℕ) → Within I D m → (y : TypeTree) (at : List ℕ) (t t' : ItemNames) → in_type I at y t ≡ Ok t' → Added t t' (TypeReads I.program D m y)
  type_added I D m w (plain.kind_type s k) at t t' h =
      unchanged t t' _ h (λ e u v rest c ls j q h. unit_reads D m u rest _ ls j (ty.Int k) q _ refl (ap (λ (x : RegionTyp). fits D m x) (region_of_integer k)) h)
  type_added I D m w (plain.bool_type s) at t t' h =
      unchanged t t' _ h (λ e u v rest c ls j q h. unit_reads D m u rest _ ls j ty.Bool q _ refl (ap (λ (x : RegionTyp). fits D m x) region_of_boolean) h)
  type_added I D m w (plain.tuple_type s ts) at t t' h =
      let a = types_added I D m w ts at 0 t t' h in
      record { entries = a.entries; added = a.added; reads = tuple_reads I.program D m s ts a.entries a.reads }
  type_added I D m w (plain.ref_type s None b y) at t t' h =
      let a = type_added I D m w y (child at 0) t t' h in
      record {
        entries = a.entries;
        added = a.added;
        reads = λ e u v rest c ls k q h.
            let l = read_ok (elided e s (reading (a.entries ++ rest) ls k)) (λ x. on_ok (type_of I.program e y x.1) (λ z. Ok (pointing b x.0 z.0, z.1))) q h in
            reference_reads I.program D m b y a.entries a.reads e u v rest (a_node s Site.Value c).1 ls k l.0 q (v s _ l.0 l.1) l.2;
      }
  type_added I D m w (plain.ref_type s (Some l) b y) at t t' h =
      let a = named_ok _ _ t' h in
      let d = named_ok _ _ a.0 a.1 in
      let f = named_ok _ _ d.0 d.1 in
      let k : f.0 ∷ [] ≡ d.0 = cc in
      let u : with_names (entry I at (f.0 ∷ [])) t ≡ a.0 = name_step I at t a.0 f.0 [] (subst (λ ns. names.numbered I at ns t ≡ Ok a.0) (sym k) d.2) in
      let more = type_added I D m w y (child at 0) a.0 t' a.2 in
      with_entry t t' (entry I at (f.0 ∷ [])) _ _ (subst (λ x. Added x t' (TypeReads I.program D m y)) (sym u) more)
      (λ es r e u v rest c ls j q h.
      let x = read_ok (occurs f.0 (reading (es ++ rest) ls j)) (λ x. on_ok (type_of I.program e y x.1) (λ z. Ok (pointing b x.0 z.0, z.1))) q h in
      reference_reads I.program D m b y es r e u v rest (a_node s Site.Value c).1 ls j x.0 q (occurs_lives u m f.0 _ x.0 (λ z. w.below l.name f.0 (known_ok _ l.span f.0 f.1)) x.1) x.2)
  type_added I D m w (plain.named_type s x ls) at t t' h =
      let b = named_ok _ _ t' h in
      let c = both_ok _ _ b.0 b.1 in
      let u : with_names (entry I at (c.0 ∷ c.1)) t ≡ t' = name_step I at t t' c.0 c.1 (subst (λ ns. names.numbered I at ns t ≡ Ok t') (sym c.4) b.2) in
      record {
        entries = entry I at (c.0 ∷ c.1) ∷ [];
        added = ap (λ (x : ItemNames). x.names) (sym u);
        reads = item_reads I D m w s x ls at c.0 c.1 (known_ok _ x.span c.0 c.2) c.3;
      }

  types_added : (I : Inside) (D : Declarations) (m : ℕ) → Within I D m → (ys : TypeTrees) (at : List ℕ) (i : ℕ) (t t' : ItemNames) → in_types I at i ys t ≡ Ok t' → Added t t' (TypesRead I.program D m ys)
  types_added I D m w plain.no_type at i t t' h = unchanged t t' _ h (no_types_read I.program D m)
  types_added I D m w (plain.type_and y ys) at i t t' h =
      let a = named_ok _ _ t' h in
      both_added t a.0 t' _ _ _ (type_added I D m w y (child at i) t a.0 a.1) (types_added I D m w ys at (next i) a.0 t' a.2) (λ es fs r s. types_read I.program D m y ys es fs r s)

-- ---- parameters

no_parameters_read : (p : ProgramTree) (D : Declarations) (m : ℕ) → ParametersRead p D m [] []
no_parameters_read p D m rest c ls k q h =
    reads_as (λ ts. ParametersCounted D [] → all_fit D m (regions_of (map region-Ty ts)) ≡ true) true m rest (at_names c rest) ls k ([], reading rest ls k) q h
    (record { taken = refl; read = refl; grows = omega arith; fit = λ l w. refl; below = λ l b. b })

parameters_read : (p : ProgramTree) (D : Declarations) (m : ℕ) (x : Parameter) (xs : List Parameter) (es fs : List NodeNames) → TypeReads p D m x.typ es → ParametersRead p D m xs fs
    → ParametersRead p D m (x ∷ xs) (es ++ fs)
parameters_read p D m x xs es fs one others rest c ls k q h =
    let same : (es ++ fs) ++ rest ≡ es ++ (fs ++ rest) = append_assoc es fs rest in
    subst (λ (ns : List NodeNames). parameters_of p (x ∷ xs) (reading ns ls k) ≡ Ok q → Reads true m rest (of_parameters (x ∷ xs) (at_names c ns)).1 ls k q.1
    (ParametersCounted D (of_parameters (x ∷ xs) (at_names c ns)).0 → all_fit D m (regions_of (map region-Ty q.0)) ≡ true)) (sym same)
    (λ h.
    let a = read_ok (type_of p _ x.typ (reading (es ++ (fs ++ rest)) ls k)) (λ r. on_ok (parameters_of p xs r.1) (λ x. Ok (r.0 ∷ x.0, x.1))) q h in
    let c1 = (naming.declare (record { mutable = x.mutable; stage = Stage.Known }) c).1 in
    let b = one _ true (λ s r q o. another_lives m r q o) (fs ++ rest) c1 ls k a.0 a.1 in
    let d = read_ok (parameters_of p xs a.0.1) (λ x. Ok (a.0.0 ∷ x.0, x.1)) q a.2 in
    let w = of_type x.typ (at_names c1 (es ++ (fs ++ rest))) in
    let r = others rest w.1 a.0.1.lifetimes a.0.1.next d.0 (subst (λ (ns : List NodeNames). parameters_of p xs (reading ns a.0.1.lifetimes a.0.1.next) ≡ Ok d.0) b.read d.1) in
    let r1 = subst (λ (ns : List NodeNames). Reads true m rest (of_parameters xs (at_names w.1 ns)).1 a.0.1.lifetimes a.0.1.next d.0.1 (ParametersCounted D (of_parameters xs (at_names w.1 ns)).0 → all_fit D m (regions_of (map region-Ty d.0.0)) ≡ true)) (sym b.taken) r in
    reads_as (λ ts. Counted D w.0 × ParametersCounted D (of_parameters xs w.1).0 → all_fit D m (regions_of (map region-Ty ts)) ≡ true) true m rest (of_parameters xs w.1).1 ls k (a.0.0 ∷ d.0.0, d.0.1) q d.2
    (reads_then true m (fs ++ rest) rest w.1 (of_parameters xs w.1).1 ls k a.0.1 d.0.1 _ _ _ b r1 (λ f g v. both_true _ _ (f v.0) (g v.1))))
    h

pub parameters_added : (I : Inside) (D : Declarations) (m : ℕ) → Within I D m → (xs : List Parameter) (at : List ℕ) (i : ℕ) (b b' : Bound) → in_parameters I at i xs b ≡ Ok b'
    → Added b.tables b'.tables (ParametersRead I.program D m xs)
parameters_added I D m w [] at i b b' h =
    record { entries = []; added = ap (λ (x : Bound). x.tables.names) (let e : b' ≡ b = cc in e) ∙ sym (append-nil b.tables.names); reads = no_parameters_read I.program D m }
parameters_added I D m w (x ∷ xs) at i b b' h =
    let a = named_ok (in_parameter I at i x b) (in_parameters I at (next i) xs) b' h in
    let d = named_ok (names.declare b.bindings x.name i) _ a.0 a.1 in
    let f = named_ok (in_type I (child at i) x.typ (with_variable x.name.span b.tables)) _ a.0 d.2 in
    let g : f.0 ≡ a.0.tables = ap (λ (x : Bound). x.tables) (let e : record { bindings = d.0; tables = f.0 } ≡ a.0 = cc in e) in
    let one = type_added I D m w x.typ (child at i) (with_variable x.name.span b.tables) f.0 f.1 in
    let here : Added b.tables a.0.tables (TypeReads I.program D m x.typ) = record { entries = one.entries; added = ap (λ (x : ItemNames). x.names) (sym g) ∙ one.added; reads = one.reads } in
    both_added b.tables a.0.tables b'.tables _ _ _ here (parameters_added I D m w xs at (next i) a.0 b' a.2) (λ es fs r s. parameters_read I.program D m x xs es fs r s)

-- ---- the result

-- where a result stands: it takes the only lifetime of the parameters, or leaves none out
abbrev with_one : (F : ℕ → Role) × ((p : ProgramTree) (y : TypeTree) (ns : List NodeNames) (l k : ℕ) → answer_of p (Some y) (reading ns (l ∷ []) k) ≡ type_of p (F l) y (reading ns (l ∷ []) k))
with_one = (λ l. _, λ p y ns l k. refl)

abbrev with_none : (N : Role) × ((p : ProgramTree) (y : TypeTree) (ns : List NodeNames) (k : ℕ) → answer_of p (Some y) (reading ns [] k) ≡ type_of p N y (reading ns [] k))
with_none = (_, λ p y ns k. refl)

takes_one : (p : ProgramTree) (y : TypeTree) (ns : List NodeNames) (ls : List ℕ) (k l : ℕ) (q : Ty × Reading) → the_only ls ≡ Some l → answer_of p (Some y) (reading ns ls k) ≡ Ok q → type_of p (with_one.0 l) y (reading ns ls k) ≡ Ok q
takes_one p y ns ls k l q e h = cc

takes_none : (p : ProgramTree) (y : TypeTree) (ns : List NodeNames) (ls : List ℕ) (k : ℕ) (q : Ty × Reading) → the_only ls ≡ None → answer_of p (Some y) (reading ns ls k) ≡ Ok q → type_of p with_none.0 y (reading ns ls k) ≡ Ok q
takes_none p y ns ls k q e h = cc

-- the only lifetime of the parameters is one of them
only_below : (m : ℕ) (ls : List ℕ) (l : ℕ) → the_only ls ≡ Some l → all_below m ls ≡ true → nat_lt l m ≡ true
only_below m [] l e h = absurd (cc)
only_below m (x ∷ ls) l e h = at (all_are x ls) e
  where
    first : (a b : Bool) → (a && b) ≡ true → a ≡ true
    first true b h = refl
    first false b h = absurd (cc)

    at : (b : Bool) → (if b then Some x else None) ≡ Some l → nat_lt l m ≡ true
    at true e = let same : x ≡ l = cc in subst (λ l. nat_lt l m ≡ true) same (first (nat_lt x m) (all_below m ls) h)
    at false e = absurd (cc)

pub result_added : (I : Inside) (D : Declarations) (m : ℕ) → Within I D m → (y : Option TypeTree) (at : List ℕ) (t t' : ItemNames) → in_optional_type I at y t ≡ Ok t' → Added t t' (ResultReads I.program D m y)
result_added I D m w None at t t' h = unchanged t t' _ h (λ rest c ls k q h b v.
    let s : (ty.Tuple [], reading rest ls k) ≡ q = cc in subst (λ (x : Ty × Reading). fits D m (region-Ty x.0) ≡ true) s (ap (λ (x : RegionTyp). fits D m x) (region_of_tuple [])))
result_added I D m w (Some y) at t t' h =
    let a = type_added I D m w y at t t' h in
    record { entries = a.entries; added = a.added; reads = λ rest c ls k q h b v. by a.entries a.reads rest c ls k q h b v (the_only ls) refl }
  where
    by : (es : List NodeNames) → TypeReads I.program D m y es → (rest : List NodeNames) (c : Cursor) (ls : List ℕ) (k : ℕ) (q : Ty × Reading) → answer_of I.program (Some y) (reading (es ++ rest) ls k) ≡ Ok q → all_below m ls ≡ true
        → ResultCounted D (of_optional_type (Some y) (at_names c (es ++ rest))).0 → (o : Option ℕ) → the_only ls ≡ o → fits D m (region-Ty q.0) ≡ true
    by es reads rest c ls k q h b v None e =
        let r = reads with_none.0 false (λ s r q o. absurd (cc)) rest c ls k q (takes_none I.program y (es ++ rest) ls k q e h) in r.fit tt v
    by es reads rest c ls k q h b v (Some l) e =
        let r = reads (with_one.0 l) false (λ s r q o. occurs_lives false m l r q (λ z. only_below m ls l e b) o) rest c ls k q (takes_one I.program y (es ++ rest) ls k l q e h) in r.fit tt v
