-- What fields and parts of variants name is declared, where names are resolved.
use Rattle.std.proofs.Common.{◌≡◌, ℕ, zero, suc, ◌+◌, ◌<◌, ◌≤◌, Bool, true, false, ◌&&◌, nat_lt, nat_eq, if◌then◌else◌, List, [], ◌∷◌, ◌++◌, map, length, Option, Some, None, option_map, Ok, Err, slice_get, refl, sym, ap, subst, ◌∙◌, arith, eqb-true, eq-eqb, lt-ltb, append_assoc, append-nil, ◌⊎◌, inl, inr, ⊎_elim}
use Rattle.std.proofs.lemmas.List.{length-map}
use Rattle.std.specs.Str.{bytes_eq}
use Rattle.rx_core.specs.declared.types.Span.{Span}
use Rattle.rx_core.specs.declared.types.Bound.{Bound}
use Rattle.rx_core.specs.declared.types.Ty.{Ty}
use Rattle.rx_core.specs.declared.types.Ty.TheVariants as ty
use Rattle.rx_tree.specs.declared.tree.Ident.{Ident}
use Rattle.rx_tree.specs.Plain as plain
use Rattle.rx_tree.specs.Plain.{TypeTree, TypeTrees, FieldOf, VariantOf, Structure, Enumeration, Function, ItemTree, ProgramTree}
use Rattle.rx_resolve_names.specs.declared.table.NumberedName.{NumberedName}
use Rattle.rx_resolve_names.specs.Scopes.{DeclaredNames, declared_as}
use Rattle.rx_resolve_names.specs.declared.resolved.ItemNames.{ItemNames}
use Rattle.rx_resolve_names.specs.declared.resolved.NodeNames.{NodeNames}
use Rattle.rx_resolve_names.specs.Meant.{number, type_name, item_named, has_name, as_type, number_in, firsts, kept, lifetimes_declared}
use Rattle.rx_resolve_names.specs.Steps as names
use Rattle.rx_resolve_names.specs.Steps.{Inside, child, next, entry, with_names, ◌>>◌}
use Rattle.rx_resolve_names.specs.Names.{lifetimes_in, written, in_type, in_types, behind}
use Rattle.rx_resolve_names.specs.Causes.{Meant}
use Rattle.rx_resolve_names.specs.Items.{in_declared, in_variants, in_item, in_items, distinct, apart}
use Rattle.rx_tree.specs.Positions.{NodeTree}
use Rattle.rx_tree.specs.Nodes.{nodes, total, greatest, below_item}
use Rattle.rx_tree.specs.Size.{item_lifetimes, lifetimes_at as lifetimes_counted, longest_of_item, longest_at, IsNumbered}
use Rattle.rx_typed.specs.PlainTypes.{plain-Decl, plain-VariantDecl, declarations}
use Rattle.rx_typed.specs.declared.declarations.Decl.TheVariants as decl
use Rattle.rx_typed.proofs.Items.{declared_at}
use Rattle.rx_typed.specs.declared.declarations.Decl.{Decl}
use Rattle.rx_typed.specs.declared.declarations.FieldDecl.{FieldDecl}
use Rattle.rx_typed.specs.declared.declarations.VariantDecl.{VariantDecl}
use Rattle.rx_typed.specs.Types as types
use Rattle.rx_typed.specs.Types.{Declarations}
use Rattle.rx_typed.specs.Regions.{RegionTyp, regions_of, region-Ty, region_fields, region_variants, region_of_integer, region_of_boolean, region_of_tuple, region_of_shared, region_of_mut, region_of_item}
use Rattle.rx_typed_declarations.specs.WellFormed.{is_adt, all_below, fits, all_fit, item_fits, WellFormed}
use Rattle.rx_typeck_solver.specs.declared.facts.Rule.{Rule}
use Rattle.rx_typeck_typed.specs.declared.fault.DeclareFault.TheVariants as fault
use Rattle.rx_typeck_typed.specs.declared.reader.Role.TheVariants as role
use Rattle.rx_typeck_typed.specs.Steps as steps
use Rattle.rx_typeck_typed.specs.Steps.{Reading, on_ok, first, others}
use Rattle.rx_typeck_typed.specs.Written.{type_of, types_of, listed, as_many, lifetimes_of, lifetimes_at, pointing}
use Rattle.rx_typeck_typed.specs.Items.{begins, fields_of, variant_of, variants_of, derives_copy, all_used, declared_item, declared_items, entries_of, bounds_of, bounded, entry_of, parameters_of, answer_of}
use Rattle.rx_typeck_typed.specs.Programs.{Declares}
use Rattle.rx_typeck_typed.proofs.LimitLemmas.{limited_finite}

-- ---- what went well began well

read_ok : {A B : Type 0} (m : steps.Outcome A) (f : A → steps.Outcome B) (b : B) → on_ok m f ≡ Ok b → (a : A) × (m ≡ Ok a) × (f a ≡ Ok b)
read_ok (Ok a) f b e = (a, refl, e)
read_ok (Err x) f b e = absurd (cc)

named_ok : {A B : Type 0} (m : names.Outcome A) (f : A → names.Outcome B) (b : B) → names.and_then m f ≡ Ok b → (a : A) × (m ≡ Ok a) × (f a ≡ Ok b)
named_ok (Ok a) f b e = (a, refl, e)
named_ok (Err x) f b e = absurd (cc)

read_same : {A : Type 0} (a b : A) → ◌≡◌ {A = steps.Outcome A} (Ok a) (Ok b) → a ≡ b
read_same a b e = cc

named_same : {A : Type 0} (a b : A) → ◌≡◌ {A = names.Outcome A} (Ok a) (Ok b) → a ≡ b
named_same a b e = cc

known_ok : (o : Option ℕ) (s : Span) (k : ℕ) → names.known o s ≡ Ok k → o ≡ Some k
known_ok None s k e = absurd (cc)
known_ok (Some n) s k e = cc

both_true : (a b : Bool) → a ≡ true → b ≡ true → a && b ≡ true
both_true true b p q = q
both_true false b p q = absurd (cc)

-- ---- what stands round a type: what the item declares, and what the program's declarations are

abbrev reading : List NodeNames → List ℕ → ℕ → Reading
reading es ls k = record { names = es; lifetimes = ls; next = k }

record Within (I : Inside) (D : Declarations) (n : ℕ) : Type 0 where
  -- a name of a struct or enum is declared so
  adt : (x : List ℕ) (i : ℕ) → as_type (item_named type_name 0 I.program x) ≡ Some i → is_adt (slice_get D i) ≡ true
  counted : (x : List ℕ) (i : ℕ) → as_type (item_named type_name 0 I.program x) ≡ Some i
      → types.lifetimes_declared (slice_get D i) ≡ length (lifetimes_of (slice_get I.program i))
  -- the item's lifetimes have numbers below this
  below : (x : List ℕ) (k : ℕ) → number_in I.lifetimes x ≡ Some k → nat_lt k n ≡ true

-- entries of names were added, which are read well
record Added (t t' : ItemNames) (Q : List NodeNames → Type 0) : Type 0 where
  entries : List NodeNames
  added : t'.names ≡ t.names ++ entries
  read : Q entries

abbrev TypeReads : ProgramTree → Declarations → ℕ → TypeTree → List NodeNames → Type 0
TypeReads p D n y es = (rest : List NodeNames) (ls : List ℕ) (k : ℕ) (r : Ty × Reading) → type_of p role.Field y (reading (es ++ rest) ls k) ≡ Ok r
    → (r.1.names ≡ rest) × (fits D n (region-Ty r.0) ≡ true)

abbrev TypesRead : ProgramTree → Declarations → ℕ → TypeTrees → List NodeNames → Type 0
TypesRead p D n ys es = (rest : List NodeNames) (ls : List ℕ) (k : ℕ) (r : List Ty × Reading) → types_of p role.Field ys (reading (es ++ rest) ls k) ≡ Ok r
    → (r.1.names ≡ rest) × (all_fit D n (regions_of (map region-Ty r.0)) ≡ true)

name_step : (I : Inside) (at : List ℕ) (t t' : ItemNames) (k : ℕ) (ks : List ℕ) → names.numbered I at (k ∷ ks) t ≡ Ok t' → with_names (entry I at (k ∷ ks)) t ≡ t'
name_step I at t t' k ks e = cc

-- ---- lifetimes of a list

record Listed (n : ℕ) (ls : List (Option Ident)) (r : Reading) (q : List ℕ × Reading) : Type 0 where
  as_long : length q.0 ≡ length ls
  all : all_below n q.0 ≡ true
  same : q.1.names ≡ r.names

both_ok : (a : names.Outcome ℕ) (b : names.Outcome (List ℕ)) (ks : List ℕ) → names.both (names.one a) b ≡ Ok ks
    → (k : ℕ) × (ms : List ℕ) × (a ≡ Ok k) × (b ≡ Ok ms) × (k ∷ ms ≡ ks)
both_ok (Ok k) (Ok ms) ks e = (k, ms, refl, refl, cc)
both_ok (Ok k) (Err f) ks e = absurd (cc)
both_ok (Err f) b ks e = absurd (cc)

none_listed : (n : ℕ) (r : Reading) (q : List ℕ × Reading) → ◌≡◌ {A = steps.Outcome (List ℕ × Reading)} (Ok ([], r)) (Ok q) → Listed n [] r q
none_listed n r q h = let e : ([], r) ≡ q = cc in subst (λ (x : List ℕ × Reading). Listed n [] r x) e (record { as_long = refl; all = refl; same = refl })

next_listed : (n k : ℕ) (l : Option Ident) (ls : List (Option Ident)) (r r1 : Reading) (m q : List ℕ × Reading) → nat_lt k n ≡ true → r1.names ≡ r.names → Listed n ls r1 m
    → ◌≡◌ {A = steps.Outcome (List ℕ × Reading)} (Ok (k ∷ m.0, m.1)) (Ok q) → Listed n (l ∷ ls) r q
next_listed n k l ls r r1 m q small same more h =
    let e : (k ∷ m.0, m.1) ≡ q = cc in
    subst (λ (x : List ℕ × Reading). Listed n (l ∷ ls) r x) e (record { as_long = ap suc more.as_long; all = both_true _ _ small more.all; same = more.same ∙ same })

listed_below : (I : Inside) (D : Declarations) (n : ℕ) → Within I D n → (s : Span) (ls : List (Option Ident)) (ks : List ℕ) → lifetimes_in I ls ≡ Ok ks
    → (r : Reading) (q : List ℕ × Reading) → listed role.Field s ls ks r ≡ Ok q → Listed n ls r q
listed_below I D n w s [] ks e r q h = none_listed n r q h
listed_below I D n w s (None ∷ ls) ks e r q h = absurd (cc)
listed_below I D n w s (Some l ∷ ls) ks e r q h =
    let x = both_ok _ _ ks e in
    subst (λ ks. listed role.Field s (Some l ∷ ls) ks r ≡ Ok q → Listed n (Some l ∷ ls) r q) x.4
    (λ h.
    let r1 = record r { lifetimes = r.lifetimes ++ x.0 ∷ [] } in
    let m = read_ok _ _ q h in
    next_listed n x.0 (Some l) ls r r1 m.0 q (w.below l.name x.0 (known_ok _ l.span x.0 x.2)) refl (listed_below I D n w s ls x.1 x.3 r1 m.0 m.1) m.2)
    h

-- ---- types

unit_read : (n : ℕ) (D : Declarations) (es : List NodeNames) (ls : List ℕ) (k : ℕ) (t : Ty) (r : Ty × Reading) → fits D n (region-Ty t) ≡ true
    → ◌≡◌ {A = steps.Outcome (Ty × Reading)} (Ok (t, reading es ls k)) (Ok r) → (r.1.names ≡ es) × (fits D n (region-Ty r.0) ≡ true)
unit_read n D es ls k t r fit h =
    let e : (t, reading es ls k) ≡ r = cc in
    (ap (λ (x : Ty × Reading). x.1.names) (sym e), ap (λ (x : Ty × Reading). fits D n (region-Ty x.0)) (sym e) ∙ fit)

-- nothing was added
unchanged : (t t' : ItemNames) (Q : List NodeNames → Type 0) → ◌≡◌ {A = names.Outcome ItemNames} (Ok t) (Ok t') → Q [] → Added t t' Q
unchanged t t' Q h q = record { entries = []; added = ap (λ (x : ItemNames). x.names) (let e : t' ≡ t = cc in e) ∙ sym (append-nil t.names); read = q }

-- an entry of these numbers, and then others
with_entry : (t t' : ItemNames) (e : NodeNames) (P Q : List NodeNames → Type 0) → Added (with_names e t) t' P → ((es : List NodeNames) → P es → Q (e ∷ es)) → Added t t' Q
with_entry t t' e P Q a f = record { entries = e ∷ a.entries; added = a.added ∙ append_assoc t.names (e ∷ []) a.entries; read = f a.entries a.read }

-- some entries, and then others
both_added : (t t1 t2 : ItemNames) (P R Q : List NodeNames → Type 0) → Added t t1 P → Added t1 t2 R → ((es fs : List NodeNames) → P es → R fs → Q (es ++ fs)) → Added t t2 Q
both_added t t1 t2 P R Q a b f = record {
  entries = a.entries ++ b.entries;
  added = b.added ∙ ap (λ (l : List NodeNames). l ++ b.entries) a.added ∙ append_assoc t.names a.entries b.entries;
  read = f a.entries b.entries a.read b.read;
}

reference_fits : (D : Declarations) (n l : ℕ) (m : Bool) (t : Ty) → nat_lt l n ≡ true → fits D n (region-Ty t) ≡ true → fits D n (region-Ty (pointing m l t)) ≡ true
reference_fits D n l false t small fit = ap (λ (x : RegionTyp). fits D n x) (region_of_shared l t) ∙ both_true _ _ small fit
reference_fits D n l true t small fit = ap (λ (x : RegionTyp). fits D n x) (region_of_mut l t) ∙ both_true _ _ small fit

-- a reference with a lifetime of this number
reference_read : (I : Inside) (D : Declarations) (n : ℕ) (s : Span) (l : Ident) (m : Bool) (y : TypeTree) (at : List ℕ) (k : ℕ) (es : List NodeNames) → nat_lt k n ≡ true
    → TypeReads I.program D n y es → TypeReads I.program D n (plain.ref_type s (Some l) m y) (entry I at (k ∷ []) ∷ es)
reference_read I D n s l m y at k es small more rest ls j r h =
    let a = read_ok _ _ r h in
    let b = more rest (ls ++ k ∷ []) j a.0 a.1 in
    let e : (pointing m k a.0.0, a.0.1) ≡ r = cc in
    (ap (λ (x : Ty × Reading). x.1.names) (sym e) ∙ b.0, ap (λ (x : Ty × Reading). fits D n (region-Ty x.0)) (sym e) ∙ reference_fits D n k m a.0.0 small b.1)

-- as many lifetimes as are declared, each of the item
record Fitted (n : ℕ) (ds : List Ident) (r : Reading) (q : List ℕ × Reading) : Type 0 where
  as_many : length q.0 ≡ length ds
  all : all_below n q.0 ≡ true
  same : q.1.names ≡ r.names

count_ok : (s : Span) (b : Bool) → ◌≡◌ {A = steps.Outcome (Unit {0})} (if b then Ok tt else Err (fault.Mismatch s Rule.Lifetimes)) (Ok tt) → b ≡ true
count_ok s true h = refl
count_ok s false h = absurd (cc)

counted_alike : (s : Span) (ds : List Ident) (l : List (Option Ident)) → as_many role.Field s ds l ≡ Ok tt → length l ≡ length ds
counted_alike s ds l h = eqb-true (length l) (length ds) (count_ok s (nat_eq (length l) (length ds)) h)

lifetimes_fit : (I : Inside) (D : Declarations) (n : ℕ) → Within I D n → (s : Span) (ds : List Ident) (ls : Option (List (Option Ident))) (ks : List ℕ) → lifetimes_in I (written ls) ≡ Ok ks
    → (r : Reading) (q : List ℕ × Reading) → lifetimes_at role.Field s ds ls ks r ≡ Ok q → Fitted n ds r q
lifetimes_fit I D n w s [] None ks e r q h = let x = none_listed n r q h in record { as_many = x.as_long; all = x.all; same = x.same }
lifetimes_fit I D n w s (d ∷ ds) None ks e r q h = absurd (cc)
lifetimes_fit I D n w s ds (Some l) ks e r q h =
    let a = read_ok _ _ q h in
    let x = listed_below I D n w s l ks e r q a.2 in
    record { as_many = x.as_long ∙ counted_alike s ds l a.1; all = x.all; same = x.same }

item_fit : (D : Declarations) (n i : ℕ) (ls : List ℕ) → is_adt (slice_get D i) ≡ true → length ls ≡ types.lifetimes_declared (slice_get D i) → all_below n ls ≡ true
    → fits D n (region-Ty (ty.Adt i ls)) ≡ true
item_fit D n i ls adt as_many all = ap (λ (x : RegionTyp). fits D n x) (region_of_item i ls)
    ∙ both_true _ _ (both_true _ _ adt (eq-eqb (length ls) _ as_many)) all

-- a type of this item with these lifetimes
item_read : (I : Inside) (D : Declarations) (n : ℕ) → Within I D n → (s : Span) (x : Ident) (ls : Option (List (Option Ident))) (at : List ℕ) (i : ℕ) (ks : List ℕ)
    → as_type (item_named type_name 0 I.program x.name) ≡ Some i → lifetimes_in I (written ls) ≡ Ok ks
    → TypeReads I.program D n (plain.named_type s x ls) (entry I at (i ∷ ks) ∷ [])
item_read I D n w s x ls at i ks is e rest js j r h =
    let a = read_ok _ _ r h in
    let f = lifetimes_fit I D n w s (lifetimes_of (slice_get I.program i)) ls ks e (reading rest js j) a.0 a.1 in
    let g : (ty.Adt i a.0.0, a.0.1) ≡ r = cc in (
      ap (λ (x : Ty × Reading). x.1.names) (sym g) ∙ f.same,
      ap (λ (x : Ty × Reading). fits D n (region-Ty x.0)) (sym g) ∙ item_fit D n i a.0.0 (w.adt x.name i is) (f.as_many ∙ sym (w.counted x.name i is)) f.all,
    )

tuple_read : (I : Inside) (D : Declarations) (n : ℕ) (s : Span) (ts : TypeTrees) (es : List NodeNames) → TypesRead I.program D n ts es → TypeReads I.program D n (plain.tuple_type s ts) es
tuple_read I D n s ts es more rest ls j r h =
    let a = read_ok _ _ r h in
    let b = more rest ls j a.0 a.1 in
    let e : (ty.Tuple a.0.0, a.0.1) ≡ r = cc in (
      ap (λ (x : Ty × Reading). x.1.names) (sym e) ∙ b.0,
      ap (λ (x : Ty × Reading). fits D n (region-Ty x.0)) (sym e) ∙ ap (λ (x : RegionTyp). fits D n x) (region_of_tuple a.0.0) ∙ b.1,
    )

no_types_read : (I : Inside) (D : Declarations) (n : ℕ) → TypesRead I.program D n plain.no_type []
no_types_read I D n rest ls j r h =
    let e : ([], reading rest ls j) ≡ r = cc in
    (ap (λ (x : List Ty × Reading). x.1.names) (sym e), ap (λ (x : List Ty × Reading). all_fit D n (regions_of (map region-Ty x.0))) (sym e))

-- the next lists of what was read, with what it names behind
types_read : (I : Inside) (D : Declarations) (n : ℕ) (y : TypeTree) (ys : TypeTrees) (es fs : List NodeNames) → TypeReads I.program D n y es → TypesRead I.program D n ys fs
    → TypesRead I.program D n (plain.type_and y ys) (es ++ fs)
types_read I D n y ys es fs one others rest ls j r h =
    let h = subst (λ (l : List NodeNames). types_of I.program role.Field (plain.type_and y ys) (reading l ls j) ≡ Ok r) (append_assoc es fs rest) h in
    let a = read_ok _ _ r h in
    let b = one (fs ++ rest) ls j a.0 a.1 in
    let c = read_ok _ _ r a.2 in
    let d = others rest a.0.1.lifetimes a.0.1.next c.0 (subst (λ (l : List NodeNames). types_of I.program role.Field ys (reading l a.0.1.lifetimes a.0.1.next) ≡ Ok c.0) b.0 c.1) in
    let e : (a.0.0 ∷ c.0.0, c.0.1) ≡ r = cc in (
      ap (λ (x : List Ty × Reading). x.1.names) (sym e) ∙ d.0,
      ap (λ (x : List Ty × Reading). all_fit D n (regions_of (map region-Ty x.0))) (sym e) ∙ both_true _ _ b.1 d.1,
    )

mutual
  type_added : (I : Inside) (D : Declarations) (n : ℕ) → Within I D n → (y : TypeTree) (at : List ℕ) (t t' : ItemNames) → in_type I at y t ≡ Ok t' → Added t t' (TypeReads I.program D n y)
  type_added I D n w (plain.kind_type s k) at t t' e = unchanged t t' _ e (λ rest ls j r h. unit_read n D rest ls j (ty.Int k) r (ap (λ (x : RegionTyp). fits D n x) (region_of_integer k)) h)
  type_added I D n w (plain.bool_type s) at t t' e = unchanged t t' _ e (λ rest ls j r h. unit_read n D rest ls j ty.Bool r (ap (λ (x : RegionTyp). fits D n x) region_of_boolean) h)
  type_added I D n w (plain.tuple_type s ts) at t t' e =
      let a = types_added I D n w ts at 0 t t' e in
      record { entries = a.entries; added = a.added; read = tuple_read I D n s ts a.entries a.read }
  type_added I D n w (plain.ref_type s None m y) at t t' e =
      let a = type_added I D n w y (child at 0) t t' e in
      record { entries = a.entries; added = a.added; read = λ rest ls j r h. absurd (cc) }
  type_added I D n w (plain.ref_type s (Some l) m y) at t t' e =
      let a = named_ok _ _ t' e in
      let b = named_ok _ _ a.0 a.1 in
      let c = named_ok _ _ b.0 b.1 in
      let k : c.0 ∷ [] ≡ b.0 = cc in
      let u : with_names (entry I at (c.0 ∷ [])) t ≡ a.0 = name_step I at t a.0 c.0 [] (subst (λ ns. names.numbered I at ns t ≡ Ok a.0) (sym k) b.2) in
      let more = type_added I D n w y (child at 0) a.0 t' a.2 in
      with_entry t t' (entry I at (c.0 ∷ [])) _ _ (subst (λ x. Added x t' (TypeReads I.program D n y)) (sym u) more)
      (λ es q. reference_read I D n s l m y at c.0 es (w.below l.name c.0 (known_ok _ l.span c.0 c.1)) q)
  type_added I D n w (plain.named_type s x ls) at t t' e =
      let b = named_ok _ _ t' e in
      let c = both_ok _ _ b.0 b.1 in
      let u : with_names (entry I at (c.0 ∷ c.1)) t ≡ t' = name_step I at t t' c.0 c.1 (subst (λ ns. names.numbered I at ns t ≡ Ok t') (sym c.4) b.2) in
      record {
        entries = entry I at (c.0 ∷ c.1) ∷ [];
        added = ap (λ (x : ItemNames). x.names) (sym u);
        read = item_read I D n w s x ls at c.0 c.1 (known_ok _ x.span c.0 c.2) c.3;
      }

  types_added : (I : Inside) (D : Declarations) (n : ℕ) → Within I D n → (ys : TypeTrees) (at : List ℕ) (i : ℕ) (t t' : ItemNames) → in_types I at i ys t ≡ Ok t' → Added t t' (TypesRead I.program D n ys)
  types_added I D n w plain.no_type at i t t' e = unchanged t t' _ e (no_types_read I D n)
  types_added I D n w (plain.type_and y ys) at i t t' e =
      let a = named_ok _ _ t' e in
      both_added t a.0 t' _ _ _ (type_added I D n w y (child at i) t a.0 a.1) (types_added I D n w ys at (next i) a.0 t' a.2) (λ es fs p q. types_read I D n y ys es fs p q)

-- ---- fields and variants

abbrev FieldsRead : ProgramTree → Declarations → ℕ → List FieldOf → List NodeNames → Type 0
FieldsRead p D n fs es = (rest : List NodeNames) (ls : List ℕ) (k : ℕ) (r : List FieldDecl × Reading) → fields_of p fs (reading (es ++ rest) ls k) ≡ Ok r
    → (r.1.names ≡ rest) × (all_fit D n (regions_of (region_fields r.0)) ≡ true)

abbrev VariantsRead : ProgramTree → Declarations → ℕ → List VariantOf → List NodeNames → Type 0
VariantsRead p D n vs es = (rest : List NodeNames) (ls : List ℕ) (k : ℕ) (r : List VariantDecl × Reading) → variants_of p vs (reading (es ++ rest) ls k) ≡ Ok r
    → (r.1.names ≡ rest) × (all_fit D n (regions_of (region_variants r.0)) ≡ true)

no_fields_read : (I : Inside) (D : Declarations) (n : ℕ) → FieldsRead I.program D n [] []
no_fields_read I D n rest ls j r h =
    let e : ([], reading rest ls j) ≡ r = cc in
    (ap (λ (x : List FieldDecl × Reading). x.1.names) (sym e), ap (λ (x : List FieldDecl × Reading). all_fit D n (regions_of (region_fields x.0))) (sym e))

fields_read : (I : Inside) (D : Declarations) (n : ℕ) (f : FieldOf) (fs : List FieldOf) (es es1 : List NodeNames) → TypeReads I.program D n f.typ es → FieldsRead I.program D n fs es1
    → FieldsRead I.program D n (f ∷ fs) (es ++ es1)
fields_read I D n f fs es es1 one others rest ls j r h =
    let h = subst (λ (l : List NodeNames). fields_of I.program (f ∷ fs) (reading l ls j) ≡ Ok r) (append_assoc es es1 rest) h in
    let a = read_ok _ _ r h in
    let a1 = read_ok _ _ a.0 a.1 in
    let a2 : (record { name = f.name.name; ty = a1.0.0 }, a1.0.1) ≡ a.0 = cc in
    let b = one (es1 ++ rest) ls j a1.0 a1.1 in
    let c = read_ok _ _ r a.2 in
    let names = ap (λ (x : FieldDecl × Reading). x.1.names) (sym a2) ∙ b.0 in
    let d = others rest a.0.1.lifetimes a.0.1.next c.0 (subst (λ (l : List NodeNames). fields_of I.program fs (reading l a.0.1.lifetimes a.0.1.next) ≡ Ok c.0) names c.1) in
    let e : (a.0.0 ∷ c.0.0, c.0.1) ≡ r = cc in (
      ap (λ (x : List FieldDecl × Reading). x.1.names) (sym e) ∙ d.0,
      ap (λ (x : List FieldDecl × Reading). all_fit D n (regions_of (region_fields x.0))) (sym e)
          ∙ both_true _ _ (ap (λ (x : FieldDecl × Reading). fits D n (region-Ty x.0.ty)) (sym a2) ∙ b.1) d.1,
    )

all_fit_append : (D : Declarations) (n : ℕ) (ts us : List RegionTyp) → all_fit D n (regions_of ts) ≡ true → all_fit D n (regions_of us) ≡ true → all_fit D n (regions_of (ts ++ us)) ≡ true
all_fit_append D n [] us a b = b
all_fit_append D n (t ∷ ts) us a b = more (fits D n t) (λ a. all_fit_append D n ts us a b) a where
  more : (f : Bool) → (all_fit D n (regions_of ts) ≡ true → all_fit D n (regions_of (ts ++ us)) ≡ true) → f && all_fit D n (regions_of ts) ≡ true
      → f && all_fit D n (regions_of (ts ++ us)) ≡ true
  more true later a = later a
  more false later a = absurd (cc)

no_variants_read : (I : Inside) (D : Declarations) (n : ℕ) → VariantsRead I.program D n [] []
no_variants_read I D n rest ls j r h =
    let e : ([], reading rest ls j) ≡ r = cc in
    (ap (λ (x : List VariantDecl × Reading). x.1.names) (sym e), ap (λ (x : List VariantDecl × Reading). all_fit D n (regions_of (region_variants x.0))) (sym e))

variants_read : (I : Inside) (D : Declarations) (n : ℕ) (v : VariantOf) (vs : List VariantOf) (es es1 : List NodeNames) → TypesRead I.program D n v.types es → VariantsRead I.program D n vs es1
    → VariantsRead I.program D n (v ∷ vs) (es ++ es1)
variants_read I D n v vs es es1 one others rest ls j r h =
    let h = subst (λ (l : List NodeNames). variants_of I.program (v ∷ vs) (reading l ls j) ≡ Ok r) (append_assoc es es1 rest) h in
    let a = read_ok _ _ r h in
    let a1 = read_ok _ _ a.0 a.1 in
    let a2 : (record { name = v.name.name; parts = a1.0.0 }, a1.0.1) ≡ a.0 = cc in
    let b = one (es1 ++ rest) ls j a1.0 a1.1 in
    let c = read_ok _ _ r a.2 in
    let names = ap (λ (x : VariantDecl × Reading). x.1.names) (sym a2) ∙ b.0 in
    let d = others rest a.0.1.lifetimes a.0.1.next c.0 (subst (λ (l : List NodeNames). variants_of I.program vs (reading l a.0.1.lifetimes a.0.1.next) ≡ Ok c.0) names c.1) in
    let e : (a.0.0 ∷ c.0.0, c.0.1) ≡ r = cc in (
      ap (λ (x : List VariantDecl × Reading). x.1.names) (sym e) ∙ d.0,
      ap (λ (x : List VariantDecl × Reading). all_fit D n (regions_of (region_variants x.0))) (sym e)
          ∙ all_fit_append D n (map region-Ty a.0.0.parts) (region_variants c.0.0) (ap (λ (x : VariantDecl × Reading). all_fit D n (regions_of (map region-Ty x.0.parts))) (sym a2) ∙ b.1) d.1,
    )

fields_added : (I : Inside) (D : Declarations) (n : ℕ) → Within I D n → (fs : List FieldOf) (at : List ℕ) (ds : DeclaredNames) (i : ℕ) (t t' : ItemNames) → in_declared I at ds i fs t ≡ Ok t'
    → Added t t' (FieldsRead I.program D n fs)
fields_added I D n w [] at ds i t t' e = unchanged t t' _ e (no_fields_read I D n)
fields_added I D n w (f ∷ fs) at ds i t t' e =
    let a = named_ok (names.declare ds f.name i) (λ ds. (in_type I (child at i) f.typ >> in_declared I at ds (next i) fs) t) t' e in
    let b = named_ok (in_type I (child at i) f.typ t) (in_declared I at a.0 (next i) fs) t' a.2 in
    both_added t b.0 t' _ _ _ (type_added I D n w f.typ (child at i) t b.0 b.1) (fields_added I D n w fs at a.0 (next i) b.0 t' b.2) (λ es es1 p q. fields_read I D n f fs es es1 p q)

variants_added : (I : Inside) (D : Declarations) (n : ℕ) → Within I D n → (vs : List VariantOf) (at : List ℕ) (ds : DeclaredNames) (k i : ℕ) (t t' : ItemNames) → in_variants I at ds k i vs t ≡ Ok t'
    → Added t t' (VariantsRead I.program D n vs)
variants_added I D n w [] at ds k i t t' e = unchanged t t' _ e (no_variants_read I D n)
variants_added I D n w (v ∷ vs) at ds k i t t' e =
    let a = named_ok (names.declare ds v.name k) (λ ds. (in_types I at i v.types >> in_variants I at ds (suc k) (behind i v.types) vs) t) t' e in
    let b = named_ok (in_types I at i v.types t) (in_variants I at a.0 (suc k) (behind i v.types) vs) t' a.2 in
    both_added t b.0 t' _ _ _ (types_added I D n w v.types at i t b.0 b.1) (variants_added I D n w vs at a.0 (suc k) (behind i v.types) b.0 t' b.2) (λ es es1 p q. variants_read I D n v vs es es1 p q)

-- ---- the numbers of an item's lifetimes

abbrev NumbersBelow : ℕ → DeclaredNames → Type 0
NumbersBelow m ds = (x : List ℕ) (k : ℕ) → number_in ds x ≡ Some k → k < m

number_least : (n m : ℕ) → n < m → number n < m
number_least n m h = omega (arith, h)

in_one_more : (ds : DeclaredNames) (y : List ℕ) (d : NumberedName) (x : List ℕ) (k : ℕ) → number_in (ds ++ (y, d) ∷ []) x ≡ Some k → (number_in ds x ≡ Some k) ⊎ (d.number ≡ k)
in_one_more [] y d x k e = last (bytes_eq x y) e where
  last : (b : Bool) → option_map (λ (k : NumberedName). k.number) (if b then Some d else None) ≡ Some k → (option_map (λ (k : NumberedName). k.number) None ≡ Some k) ⊎ (d.number ≡ k)
  last true e = inr (cc)
  last false e = absurd (cc)
in_one_more (c ∷ ds) y d x k e = here (bytes_eq x c.0) (in_one_more ds y d x k) e where
  here : (b : Bool) → (number_in (ds ++ (y, d) ∷ []) x ≡ Some k → (number_in ds x ≡ Some k) ⊎ (d.number ≡ k))
      → option_map (λ (k : NumberedName). k.number) (if b then Some c.1 else declared_as (ds ++ (y, d) ∷ []) x) ≡ Some k
      → (option_map (λ (k : NumberedName). k.number) (if b then Some c.1 else declared_as ds x) ≡ Some k) ⊎ (d.number ≡ k)
  here true later e = inl e
  here false later e = later e

kept_below : (m : ℕ) (ds : DeclaredNames) (x : Ident) (n : ℕ) (o : Option NumberedName) → NumbersBelow m ds → n < m → NumbersBelow m (kept ds x n o)
kept_below m ds x n None h less = λ y k e. ⊎_elim (λ a. h y k a) (λ a. subst (λ j. j < m) a (number_least n m less)) (in_one_more ds x.name _ y k e)
kept_below m ds x n (Some d) h less = h

firsts_below : (m : ℕ) (ds : DeclaredNames) (n : ℕ) (xs : List Ident) → NumbersBelow m ds → n + length xs ≤ m → NumbersBelow m (firsts ds n xs)
firsts_below m ds n [] h most = h
firsts_below m ds n (x ∷ xs) h most = firsts_below m (kept ds x n (declared_as ds x.name)) (suc n) xs (kept_below m ds x n (declared_as ds x.name) h (omega (arith, most))) (omega (arith, most))

none_below : (m : ℕ) → NumbersBelow m []
none_below m x k e = absurd (cc)

-- where it has few lifetimes, each has a number below theirs
lifetimes_below : (xs : List Ident) → length xs < 4294967296 → (x : List ℕ) (k : ℕ) → number_in (firsts [] 0 xs) x ≡ Some k → nat_lt k (number (length xs)) ≡ true
lifetimes_below xs few x k e =
    let less = firsts_below (length xs) [] 0 xs (none_below (length xs)) (omega arith) x k e in
    lt-ltb k (number (length xs)) (omega (arith, few, less))

-- ---- items by their numbers

record Stands (is : ProgramTree) (n i : ℕ) : Type 0 where
  number : ℕ
  behind : n + number ≡ i
  item : ItemTree
  stands : slice_get is number ≡ Some item
  adt : as_type (Some (i, item)) ≡ Some i

stands_behind : (i : ItemTree) (is : ProgramTree) (n k : ℕ) → Stands is (suc n) k → Stands (i ∷ is) n k
stands_behind i is n k s = record { number = suc s.number; behind = omega (arith, s.behind); item = s.item; stands = s.stands; adt = s.adt }

named_stands : (name : ItemTree → Option Ident) (is : ProgramTree) (n : ℕ) (x : List ℕ) (i : ℕ) → as_type (item_named name n is x) ≡ Some i → Stands is n i
named_stands name [] n x i e = absurd (cc)
named_stands name (it ∷ is) n x i e = here (has_name x (name it)) (named_stands name is (suc n) x i) e where
  here : (b : Bool) → (as_type (item_named name (suc n) is x) ≡ Some i → Stands is (suc n) i) → as_type (if b then Some (n, it) else item_named name (suc n) is x) ≡ Some i → Stands (it ∷ is) n i
  here true later e = found it e where
    found : (it : ItemTree) → as_type (Some (n, it)) ≡ Some i → Stands (it ∷ is) n i
    found (plain.rt_item s r) e = absurd (cc)
    found (plain.struct_item s d) e = let same : n ≡ i = cc in subst (λ k. Stands (plain.struct_item s d ∷ is) n k) same (record { number = 0; behind = omega arith; item = plain.struct_item s d; stands = refl; adt = refl })
    found (plain.enum_item s d) e = let same : n ≡ i = cc in subst (λ k. Stands (plain.enum_item s d ∷ is) n k) same (record { number = 0; behind = omega arith; item = plain.enum_item s d; stands = refl; adt = refl })
    found (plain.function_item s f) e = absurd (cc)
  here false later e = stands_behind it is n i (later e)

-- what is declared of an item that stands there
record DeclaredAt (p : ProgramTree) (ns : List ItemNames) (ds : List Decl) (n j : ℕ) (it : ItemTree) : Type 0 where
  decl : Decl
  stands : slice_get ds j ≡ Some decl
  declared : declared_item p (entries_of (slice_get ns (n + j))) it ≡ Ok decl

declared_there : (p : ProgramTree) (ns : List ItemNames) (n : ℕ) (is : ProgramTree) (ds : List Decl) (j : ℕ) (it : ItemTree) → declared_items p ns n is ≡ Ok ds → slice_get is j ≡ Some it
    → DeclaredAt p ns ds n j it
declared_there p ns n [] ds j it e s = absurd (cc)
declared_there p ns n (i ∷ is) ds zero it e s =
    let a = read_ok (declared_item p (entries_of (slice_get ns n)) i) (λ d. on_ok (declared_items p ns (suc n) is) (λ ds. Ok (d ∷ ds))) ds e in
    let b = read_ok (declared_items p ns (suc n) is) (λ ds. Ok (a.0 ∷ ds)) ds a.2 in
    let c : a.0 ∷ b.0 ≡ ds = read_same (a.0 ∷ b.0) ds b.2 in
    let same : i ≡ it = cc in
    let at : n ≡ n + 0 = omega arith in
    record {
      decl = a.0;
      stands = ap (λ (l : List Decl). slice_get l 0) (sym c);
      declared = subst (λ k. declared_item p (entries_of (slice_get ns k)) it ≡ Ok a.0) at (subst (λ x. declared_item p (entries_of (slice_get ns n)) x ≡ Ok a.0) same a.1);
    }
declared_there p ns n (i ∷ is) ds (suc j) it e s =
    let a = read_ok (declared_item p (entries_of (slice_get ns n)) i) (λ d. on_ok (declared_items p ns (suc n) is) (λ ds. Ok (d ∷ ds))) ds e in
    let b = read_ok (declared_items p ns (suc n) is) (λ ds. Ok (a.0 ∷ ds)) ds a.2 in
    let c : a.0 ∷ b.0 ≡ ds = read_same (a.0 ∷ b.0) ds b.2 in
    let more = declared_there p ns (suc n) is b.0 j it b.1 s in
    let at : suc n + j ≡ n + suc j = omega arith in
    record {
      decl = more.decl;
      stands = ap (λ (l : List Decl). slice_get l (suc j)) (sym c) ∙ more.stands;
      declared = subst (λ k. declared_item p (entries_of (slice_get ns k)) it ≡ Ok more.decl) at more.declared;
    }

-- the item of what is declared there
record ItemAt (is : ProgramTree) (j : ℕ) : Type 0 where
  item : ItemTree
  stands : slice_get is j ≡ Some item

abbrev no_decl : List Decl
no_decl = []

nothing_at : (j : ℕ) (d : Decl) → slice_get no_decl j ≡ Some d → ⊥
nothing_at zero d h = cc
nothing_at (suc j) d h = cc

item_there : (p : ProgramTree) (ns : List ItemNames) (n : ℕ) (is : ProgramTree) (ds : List Decl) (j : ℕ) (d : Decl) → declared_items p ns n is ≡ Ok ds → slice_get ds j ≡ Some d → ItemAt is j
item_there p ns n [] ds j d e s = let c : [] ≡ ds = cc in absurd (nothing_at j d (subst (λ (l : List Decl). slice_get l j ≡ Some d) (sym c) s))
item_there p ns n (i ∷ is) ds zero d e s = record { item = i; stands = refl }
item_there p ns n (i ∷ is) ds (suc j) d e s =
    let a = read_ok (declared_item p (entries_of (slice_get ns n)) i) (λ d. on_ok (declared_items p ns (suc n) is) (λ ds. Ok (d ∷ ds))) ds e in
    let b = read_ok (declared_items p ns (suc n) is) (λ ds. Ok (a.0 ∷ ds)) ds a.2 in
    let c : a.0 ∷ b.0 ≡ ds = read_same (a.0 ∷ b.0) ds b.2 in
    let more = item_there p ns (suc n) is b.0 j d b.1 (subst (λ (l : List Decl). slice_get l (suc j) ≡ Some d) (sym c) s) in
    record { item = more.item; stands = more.stands }

-- the names of an item that stands there
record NamedAt (p : ProgramTree) (ns : List ItemNames) (n j : ℕ) (it : ItemTree) : Type 0 where
  table : ItemNames
  stands : slice_get ns j ≡ Some table
  named : in_item p (n + j) it ≡ Ok table

named_there : (p : ProgramTree) (n : ℕ) (is : ProgramTree) (ns : List ItemNames) (j : ℕ) (it : ItemTree) → in_items p n is ≡ Ok ns → slice_get is j ≡ Some it → NamedAt p ns n j it
named_there p n [] ns j it e s = absurd (cc)
named_there p n (i ∷ is) ns zero it e s =
    let a = named_ok (in_item p n i) (λ x. names.and_then (in_items p (suc n) is) (λ xs. Ok (x ∷ xs))) ns e in
    let b = named_ok (in_items p (suc n) is) (λ xs. Ok (a.0 ∷ xs)) ns a.2 in
    let c : a.0 ∷ b.0 ≡ ns = named_same (a.0 ∷ b.0) ns b.2 in
    let same : i ≡ it = cc in
    let at : n ≡ n + 0 = omega arith in
    record {
      table = a.0;
      stands = ap (λ (l : List ItemNames). slice_get l 0) (sym c);
      named = subst (λ k. in_item p k it ≡ Ok a.0) at (subst (λ x. in_item p n x ≡ Ok a.0) same a.1);
    }
named_there p n (i ∷ is) ns (suc j) it e s =
    let a = named_ok (in_item p n i) (λ x. names.and_then (in_items p (suc n) is) (λ xs. Ok (x ∷ xs))) ns e in
    let b = named_ok (in_items p (suc n) is) (λ xs. Ok (a.0 ∷ xs)) ns a.2 in
    let c : a.0 ∷ b.0 ≡ ns = named_same (a.0 ∷ b.0) ns b.2 in
    let more = named_there p (suc n) is b.0 j it b.1 s in
    let at : suc n + j ≡ n + suc j = omega arith in
    record { table = more.table; stands = ap (λ (l : List ItemNames). slice_get l (suc j)) (sym c) ∙ more.stands; named = subst (λ k. in_item p k it ≡ Ok more.table) at more.named }

-- ---- items of a program whose lifetimes are few

total_append : (f : NodeTree → ℕ) (a b : List NodeTree) → total f (a ++ b) ≡ total f a + total f b
total_append f [] b = omega arith
total_append f (n ∷ a) b = let more = total_append f a b in omega (arith, more)

lifetimes_within : (is : ProgramTree) (j : ℕ) (it : ItemTree) → slice_get is j ≡ Some it → item_lifetimes it ≤ total lifetimes_counted (nodes is)
lifetimes_within [] j it s = absurd (cc)
lifetimes_within (i ∷ is) zero it s =
    let same : i ≡ it = cc in
    subst (λ x. item_lifetimes x ≤ total lifetimes_counted (nodes (i ∷ is))) same (omega arith)
lifetimes_within (i ∷ is) (suc j) it s =
    let more = lifetimes_within is j it s in
    let parts = total_append lifetimes_counted (below_item i) (nodes is) in
    omega (arith, more, parts)

-- the numbers and lifetimes of what is declared
record Adt (D : Declarations) (i n : ℕ) : Type 0 where
  adt : is_adt (slice_get D i) ≡ true
  counted : types.lifetimes_declared (slice_get D i) ≡ n

struct_is : (p : ProgramTree) (ns : List NodeNames) (s : Span) (d : Structure) (r : Decl) → declared_item p ns (plain.struct_item s d) ≡ Ok r
    → (fs : List FieldDecl × Reading) × (fields_of p d.fields (begins ns 0) ≡ Ok fs) × (decl.Struct (derives_copy d.derives) (number (length d.lifetimes)) [] fs.0 ≡ r)
struct_is p ns s d r e =
    let a = read_ok (fields_of p d.fields (begins ns 0)) (λ r. on_ok (all_used 0 d.lifetimes r.1.lifetimes) (λ _. Ok (decl.Struct (derives_copy d.derives) (number (length d.lifetimes)) [] r.0))) r e in
    let b = read_ok (all_used 0 d.lifetimes a.0.1.lifetimes) (λ _. Ok (decl.Struct (derives_copy d.derives) (number (length d.lifetimes)) [] a.0.0)) r a.2 in
    (a.0, a.1, read_same _ r b.2)

enum_is : (p : ProgramTree) (ns : List NodeNames) (s : Span) (d : Enumeration) (r : Decl) → declared_item p ns (plain.enum_item s d) ≡ Ok r
    → (vs : List VariantDecl × Reading) × (variants_of p d.variants (begins ns 0) ≡ Ok vs) × (decl.Enum (derives_copy d.derives) (number (length d.lifetimes)) [] vs.0 ≡ r)
enum_is p ns s d r e =
    let a = read_ok (variants_of p d.variants (begins ns 0)) (λ r. on_ok (all_used 0 d.lifetimes r.1.lifetimes) (λ _. Ok (decl.Enum (derives_copy d.derives) (number (length d.lifetimes)) [] r.0))) r e in
    let b = read_ok (all_used 0 d.lifetimes a.0.1.lifetimes) (λ _. Ok (decl.Enum (derives_copy d.derives) (number (length d.lifetimes)) [] a.0.0)) r a.2 in
    (a.0, a.1, read_same _ r b.2)

few_number : (n : ℕ) → n < 4294967296 → number n ≡ n
few_number n h = omega (arith, h)

adt_declared : (p : ProgramTree) (ns : List NodeNames) (i : ℕ) (it : ItemTree) (r : Decl) → as_type (Some (i, it)) ≡ Some i → item_lifetimes it < 4294967296 → declared_item p ns it ≡ Ok r
    → (is_adt (Some (plain-Decl r)) ≡ true) × (types.lifetimes_declared (Some (plain-Decl r)) ≡ length (lifetimes_of (Some it)))
adt_declared p ns i (plain.rt_item s x) r a few e = absurd (cc)
adt_declared p ns i (plain.struct_item s d) r a few e =
    let x = struct_is p ns s d r e in
    (ap (λ d. is_adt (Some (plain-Decl d))) (sym x.2), ap (λ d. types.lifetimes_declared (Some (plain-Decl d))) (sym x.2) ∙ few_number (length d.lifetimes) few)
adt_declared p ns i (plain.enum_item s d) r a few e =
    let x = enum_is p ns s d r e in
    (ap (λ d. is_adt (Some (plain-Decl d))) (sym x.2), ap (λ d. types.lifetimes_declared (Some (plain-Decl d))) (sym x.2) ∙ few_number (length d.lifetimes) few)
adt_declared p ns i (plain.function_item s f) r a few e = absurd (cc)

-- what stands at a number
record Program (p : ProgramTree) (ns : List ItemNames) (ds : List Decl) : Type 0 where
  names : in_items p 0 p ≡ Ok ns
  declares : declared_items p ns 0 p ≡ Ok ds
  few : total lifetimes_counted (nodes p) < 4294967296

adt_at : (p : ProgramTree) (ns : List ItemNames) (ds : List Decl) → Program p ns ds → (x : List ℕ) (i : ℕ) → as_type (item_named type_name 0 p x) ≡ Some i
    → (is_adt (slice_get (declarations ds) i) ≡ true) × (types.lifetimes_declared (slice_get (declarations ds) i) ≡ length (lifetimes_of (slice_get p i)))
adt_at p ns ds P x i e =
    let s = named_stands type_name p 0 x i e in
    let same : s.number ≡ i = let b = s.behind in omega (arith, b) in
    let there : slice_get p i ≡ Some s.item = subst (λ k. slice_get p k ≡ Some s.item) same s.stands in
    let d = declared_there p ns 0 p ds i s.item P.declares there in
    let few = lifetimes_within p i s.item there in
    let a = adt_declared p _ i s.item d.decl s.adt (omega (arith, few, P.few)) d.declared in
    let q : slice_get (declarations ds) i ≡ Some (plain-Decl d.decl) = declared_at ds i ∙ ap (λ o. option_map plain-Decl o) d.stands in
    (ap is_adt q ∙ a.0, ap types.lifetimes_declared q ∙ a.1 ∙ ap (λ o. length (lifetimes_of o)) (sym there))

distinct_same : (ds : DeclaredNames) (n : ℕ) (xs : List Ident) (t t' : ItemNames) → distinct ds n xs t ≡ Ok t' → t ≡ t'
distinct_same ds n [] t t' e = cc
distinct_same ds n (x ∷ xs) t t' e = let a = named_ok (names.declare ds x n) (λ ds. distinct ds (suc n) xs t) t' e in distinct_same a.0 (suc n) xs t t' a.2

abbrev inside : ProgramTree → ℕ → ItemTree → Inside
inside p n i = record { program = p; item = number n; lifetimes = firsts [] 0 (lifetimes_declared i) }

within : (p : ProgramTree) (ns : List ItemNames) (ds : List Decl) → Program p ns ds → (j : ℕ) (it : ItemTree) → length (lifetimes_declared it) < 4294967296
    → Within (inside p j it) (declarations ds) (number (length (lifetimes_declared it)))
within p ns ds P j it few = record {
  adt = λ x i e. (adt_at p ns ds P x i e).0;
  counted = λ x i e. (adt_at p ns ds P x i e).1;
  below = lifetimes_below (lifetimes_declared it) few;
}

struct_fits : (p : ProgramTree) (ns : List ItemNames) (ds : List Decl) → Program p ns ds → (j : ℕ) (s : Span) (d : Structure) (t : ItemNames) (r : Decl) → length d.lifetimes < 4294967296
    → in_item p j (plain.struct_item s d) ≡ Ok t → declared_item p t.names (plain.struct_item s d) ≡ Ok r → item_fits (declarations ds) r ≡ true
struct_fits p ns ds P j s d t r few e h =
    let I = inside p j (plain.struct_item s d) in
    let n = number (length d.lifetimes) in
    let a = named_ok _ _ t e in
    let f = fields_added I (declarations ds) n (within p ns ds P j (plain.struct_item s d) few) d.fields [] [] 0 a.0 t a.2 in
    let none : a.0.names ≡ [] = ap (λ (x : ItemNames). x.names) (sym (distinct_same [] 0 d.lifetimes _ a.0 a.1)) in
    let is : t.names ≡ f.entries ++ [] = f.added ∙ ap (λ (l : List NodeNames). l ++ f.entries) none ∙ sym (append-nil f.entries) in
    let x = struct_is p t.names s d r h in
    let b = f.read [] [] 0 x.0 (subst (λ (l : List NodeNames). fields_of p d.fields (begins l 0) ≡ Ok x.0) is x.1) in
    ap (item_fits (declarations ds)) (sym x.2) ∙ b.1

enum_fits : (p : ProgramTree) (ns : List ItemNames) (ds : List Decl) → Program p ns ds → (j : ℕ) (s : Span) (d : Enumeration) (t : ItemNames) (r : Decl) → length d.lifetimes < 4294967296
    → in_item p j (plain.enum_item s d) ≡ Ok t → declared_item p t.names (plain.enum_item s d) ≡ Ok r → item_fits (declarations ds) r ≡ true
enum_fits p ns ds P j s d t r few e h =
    let I = inside p j (plain.enum_item s d) in
    let n = number (length d.lifetimes) in
    let a = named_ok _ _ t e in
    let f = variants_added I (declarations ds) n (within p ns ds P j (plain.enum_item s d) few) d.variants [] [] 0 0 a.0 t a.2 in
    let none : a.0.names ≡ [] = ap (λ (x : ItemNames). x.names) (sym (distinct_same [] 0 d.lifetimes _ a.0 a.1)) in
    let is : t.names ≡ f.entries ++ [] = f.added ∙ ap (λ (l : List NodeNames). l ++ f.entries) none ∙ sym (append-nil f.entries) in
    let x = enum_is p t.names s d r h in
    let b = f.read [] [] 0 x.0 (subst (λ (l : List NodeNames). variants_of p d.variants (begins l 0) ≡ Ok x.0) is x.1) in
    ap (item_fits (declarations ds)) (sym x.2) ∙ b.1

-- ---- all items

program : (p : ProgramTree) (ns : List ItemNames) (ds : List Decl) → IsNumbered p → Meant p ns → Declares p ns ds → Program p ns ds
program p ns ds few named declares = record {
  names = (named_ok {A = Unit {0}} (apart (record { types = []; functions = [] }) 0 p) (λ _. in_items p 0 p) ns named.names_are).2;
  declares = declares.items;
  few = few.lifetimes;
}

-- whatever is read before, a function is declared
function_last : {A B C : Type 0} (P : Decl → Type 0) (m : steps.Outcome A) (k : A → steps.Outcome B) (l : A → B → steps.Outcome C) (g : A → B → C → Decl) (d : Decl)
    → ((x : A) (y : B) (z : C) → P (g x y z)) → on_ok m (λ x. on_ok (k x) (λ y. on_ok (l x y) (λ z. Ok (g x y z)))) ≡ Ok d → P d
function_last P m k l g d each e =
    let a = read_ok m (λ x. on_ok (k x) (λ y. on_ok (l x y) (λ z. Ok (g x y z)))) d e in
    let b = read_ok (k a.0) (λ y. on_ok (l a.0 y) (λ z. Ok (g a.0 y z))) d a.2 in
    let c = read_ok (l a.0 b.0) (λ z. Ok (g a.0 b.0 z)) d b.2 in
    subst P (read_same (g a.0 b.0 c.0) d c.2) (each a.0 b.0 c.0)

function_is : (P : Decl → Type 0) (p : ProgramTree) (ns : List NodeNames) (s : Span) (f : Function) (d : Decl) → ((l : ℕ) (ps : List Ty) (t : Ty) (bs : List Bound) → P (decl.Func l ps t bs))
    → declared_item p ns (plain.function_item s f) ≡ Ok d → P d
function_is P p ns s f d each e =
    function_last P (entry_of (bounded 0 f.lifetimes) f.params (begins ns (number (length f.lifetimes)))) (λ x. parameters_of p f.params x.1)
    (λ x ps. answer_of p f.result ps.1) (λ x ps a. decl.Func ps.1.next ps.0 a.0 (bounds_of (bounded 0 f.lifetimes) x.0)) d
    (λ x ps a. each ps.1.next ps.0 a.0 (bounds_of (bounded 0 f.lifetimes) x.0)) e

decl_fits : (p : ProgramTree) (ns : List ItemNames) (ds : List Decl) → Program p ns ds → (j : ℕ) (it : ItemTree) (d : Decl) → item_lifetimes it < 4294967296
    → (x : ItemNames) × (slice_get ns j ≡ Some x) × (in_item p j it ≡ Ok x) → declared_item p (entries_of (slice_get ns j)) it ≡ Ok d → item_fits (declarations ds) d ≡ true
decl_fits p ns ds P j (plain.rt_item s r) d few named e = let x : decl.Rt ≡ d = cc in ap (item_fits (declarations ds)) (sym x)
decl_fits p ns ds P j (plain.struct_item s x) d few named e =
    struct_fits p ns ds P j s x named.0 d few named.2 (subst (λ o. declared_item p (entries_of o) (plain.struct_item s x) ≡ Ok d) named.1 e)
decl_fits p ns ds P j (plain.enum_item s x) d few named e =
    enum_fits p ns ds P j s x named.0 d few named.2 (subst (λ o. declared_item p (entries_of o) (plain.enum_item s x) ≡ Ok d) named.1 e)
decl_fits p ns ds P j (plain.function_item s f) d few named e =
    function_is (λ d. item_fits (declarations ds) d ≡ true) p (entries_of (slice_get ns j)) s f d (λ l ps t bs. refl) e

pub well_formed : (p : ProgramTree) (ns : List ItemNames) (ds : List Decl) → IsNumbered p → Meant p ns → Declares p ns ds → WellFormed ds
well_formed p ns ds few named declares =
    let P = program p ns ds few named declares in
    record {
      numbered = subst (λ n. n < 4294967296) (length-map ds plain-Decl) declares.fits.numbered;
      named = λ i d s.
          let it = item_there p ns 0 p ds i d declares.items s in
          let at = declared_there p ns 0 p ds i it.item declares.items it.stands in
          let same : at.decl ≡ d = let q = sym at.stands ∙ s in cc in
          let less = lifetimes_within p i it.item it.stands in
          let all = P.few in
          let here : 0 + i ≡ i = omega arith in
          let table = named_there p 0 p ns i it.item P.names it.stands in
          subst (λ d. item_fits (declarations ds) d ≡ true) same
          (decl_fits p ns ds P i it.item at.decl (omega (arith, less, all)) (table.table, table.stands, subst (λ k. in_item p k it.item ≡ Ok table.table) here table.named)
          (subst (λ k. declared_item p (entries_of (slice_get ns k)) it.item ≡ Ok at.decl) here at.declared));
      finite = limited_finite p (declarations ds) declares.fits.limited;
    }

-- ---- how many variants there are

variants_counted : (p : ProgramTree) (vs : List VariantOf) (r : Reading) (q : List VariantDecl × Reading) → variants_of p vs r ≡ Ok q → length q.0 ≡ length vs
variants_counted p [] r q e = let x : ([], r) ≡ q = cc in ap (λ (x : List VariantDecl × Reading). length x.0) (sym x)
variants_counted p (v ∷ vs) r q e =
    let a = read_ok (variant_of p v r) (λ x. on_ok (variants_of p vs x.1) (λ y. Ok (x.0 ∷ y.0, y.1))) q e in
    let b = read_ok (variants_of p vs a.0.1) (λ y. Ok (a.0.0 ∷ y.0, y.1)) q a.2 in
    let c : (a.0.0 ∷ b.0.0, b.0.1) ≡ q = read_same (a.0.0 ∷ b.0.0, b.0.1) q b.2 in
    ap (λ (x : List VariantDecl × Reading). length x.0) (sym c) ∙ ap suc (variants_counted p vs a.0.1 b.0 b.1)

greatest_append : (f : NodeTree → ℕ) (a b : List NodeTree) → greatest f b ≤ greatest f (a ++ b)
greatest_append f [] b = omega arith
greatest_append f (n ∷ a) b = let more = greatest_append f a b in omega (arith, more)

longest_within : (is : ProgramTree) (j : ℕ) (it : ItemTree) → slice_get is j ≡ Some it → longest_of_item it ≤ greatest longest_at (nodes is)
longest_within [] j it s = absurd (cc)
longest_within (i ∷ is) zero it s =
    let same : i ≡ it = cc in
    subst (λ x. longest_of_item x ≤ greatest longest_at (nodes (i ∷ is))) same (omega arith)
longest_within (i ∷ is) (suc j) it s =
    let more = longest_within is j it s in
    let parts = greatest_append longest_at (below_item i) (nodes is) in
    omega (arith, more, parts)

abbrev Few : Decl → Type 0
Few d = length (types.variants_declared (Some (plain-Decl d))) < 4294967296

few_declared : (p : ProgramTree) (ns : List NodeNames) (it : ItemTree) (d : Decl) → longest_of_item it < 4294967296 → declared_item p ns it ≡ Ok d → Few d
few_declared p ns (plain.rt_item s r) d few e = let x : decl.Rt ≡ d = cc in subst Few x (omega arith)
few_declared p ns (plain.struct_item s x) d few e = let q = struct_is p ns s x d e in subst Few q.2 (omega arith)
few_declared p ns (plain.enum_item s x) d few e =
    let q = enum_is p ns s x d e in
    let counted = variants_counted p x.variants (begins ns 0) q.0 q.1 in
    let plainly = length-map q.0.0 plain-VariantDecl in
    subst Few q.2 (omega (arith, counted, plainly, few))
few_declared p ns (plain.function_item s f) d few e = function_is Few p ns s f d (λ l ps t bs. omega arith) e

few_at : (o : Option Decl) → ((d : Decl) → o ≡ Some d → Few d) → length (types.variants_declared (option_map plain-Decl o)) < 4294967296
few_at None h = omega arith
few_at (Some d) h = h d refl

pub few_variants : (p : ProgramTree) (ns : List ItemNames) (ds : List Decl) → IsNumbered p → Declares p ns ds → (i : ℕ) → length (types.variants_declared (slice_get (declarations ds) i)) < 4294967296
few_variants p ns ds few declares i = subst (λ o. length (types.variants_declared o) < 4294967296) (sym (declared_at ds i)) (few_at (slice_get ds i) each)
  where
    each : (d : Decl) → slice_get ds i ≡ Some d → Few d
    each d s =
        let it = item_there p ns 0 p ds i d declares.items s in
        let at = declared_there p ns 0 p ds i it.item declares.items it.stands in
        let same : at.decl ≡ d = let q = sym at.stands ∙ s in cc in
        let less = longest_within p i it.item it.stands in
        let all = few.lists in
        subst Few same (few_declared p (entries_of (slice_get ns (0 + i))) it.item at.decl (omega (arith, less, all)) at.declared)
