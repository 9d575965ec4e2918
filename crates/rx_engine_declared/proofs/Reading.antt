-- What is read of a type is the type that it denotes, where its names are resolved: resolving adds the entries that reading takes. By
-- induction on the type that is written.
use Rattle.std.proofs.Common.{◌≡◌, ℕ, Bool, true, false, List, [], ◌∷◌, ◌++◌, map, Option, Some, None, Ok, Err, slice_get, refl, sym, ap, ◌∙◌, append_assoc}
use Rattle.rx_core.specs.declared.types.Span.{Span}
use Rattle.rx_core.specs.declared.types.Ty.{Ty}
use Rattle.rx_core.specs.declared.types.Ty.TheVariants as ty
use Rattle.rx_tree.specs.declared.tree.Ident.{Ident}
use Rattle.rx_tree.specs.Plain as plain
use Rattle.rx_tree.specs.Plain.{TypeTree, TypeTrees, ProgramTree}
use Rattle.rx_resolve_names.specs.declared.resolved.ItemNames.{ItemNames}
use Rattle.rx_resolve_names.specs.declared.resolved.NodeNames.{NodeNames}
use Rattle.rx_resolve_names.specs.Meant.{type_name, item_named, as_type}
use Rattle.rx_resolve_names.specs.Steps as names
use Rattle.rx_resolve_names.specs.Steps.{Inside, child, next, entry, with_names, numbered, one, both}
use Rattle.rx_resolve_names.specs.Names.{in_lifetime, in_type, in_types, lifetime_in, lifetimes_in, type_in, written}
use Rattle.rx_typed.specs.Types.{reference}
use Rattle.rx_typed.specs.PlainTypes.{plain-Ty, typ_integer, typ_boolean, typ_tuple, typ_shared, typ_mut, typ_item}
use Rattle.rx_typeck_typed.specs.Steps as steps
use Rattle.rx_typeck_typed.specs.Steps.{Reading, on_ok, in_front, others}
use Rattle.rx_typeck_typed.specs.Written.{lifetimes_of, elided, all_elided, one_listed, left_by, listed, as_many, lifetimes_at, pointing, type_of, types_of}
use Rattle.rx_engine_names.proofs.SideBySide.{named_ok, the_same}
use Rattle.rx_engine_names.proofs.KeptItems.{known_some}
use Rattle.rx_engine_declared.specs.Denoting.{Denotes, DenoteEach}

-- ---- steps of reading

pub read_ok : {A B : Type 0} (m : steps.Outcome A) (f : A → steps.Outcome B) (b : B) → on_ok m f ≡ Ok b → (a : A) × (m ≡ Ok a) × (f a ≡ Ok b)
read_ok (Ok a) f b e = (a, refl, e)
read_ok (Err x) f b e = absurd (cc)

pub read_same : {A : Type 0} (a b : A) → ◌≡◌ {A = steps.Outcome A} (Ok a) (Ok b) → a ≡ b
read_same a b e = cc

-- what is read with these entries left
abbrev pub reading : List NodeNames → List ℕ → ℕ → Reading
reading es ls k = record { names = es; lifetimes = ls; next = k }

-- what is read there, where these entries are left
pub from_left : {A : Type 0} (f : Reading → steps.Outcome (A × Reading)) (es : List NodeNames) (r : Reading) (q : A × Reading) → r.names ≡ es → f r ≡ Ok q → f (reading es r.lifetimes r.next) ≡ Ok q
from_left f es r q e h = ap (λ (l : List NodeNames). f (reading l r.lifetimes r.next)) (sym e) ∙ h

-- ---- lifetimes take no entries of types

abbrev KeepsNames : {A : Type 0} → (Reading → steps.Outcome (A × Reading)) → Type 0
KeepsNames {A} f = (r : Reading) (q : A × Reading) → f r ≡ Ok q → q.1.names ≡ r.names

pub still : {A : Type 0} (r : Reading) (p q : A × Reading) → ◌≡◌ {A = steps.Outcome (A × Reading)} (Ok p) (Ok q) → p.1.names ≡ r.names → q.1.names ≡ r.names
still r p q e h = ap (λ x. x.1.names) (sym (read_same p q e)) ∙ h

front_keeps : {A : Type 0} (f : Reading → steps.Outcome (A × Reading)) (g : Reading → steps.Outcome (List A × Reading)) → KeepsNames f → KeepsNames g → KeepsNames (in_front f g)
front_keeps f g kf kg r q e =
    let a = read_ok (f r) (λ p. on_ok (g p.1) (λ w. Ok (p.0 ∷ w.0, w.1))) q e in
    let b = read_ok (g a.0.1) (λ w. Ok (a.0.0 ∷ w.0, w.1)) q a.2 in
    ap (λ x. x.1.names) (sym (read_same (a.0.0 ∷ b.0.0, b.0.1) q b.2)) ∙ kg a.0.1 b.0 b.1 ∙ kf r a.0 a.1

-- where a type stands: what `elided` reads
abbrev domain : {R S : Type 0} → (R → S) → Type 0
domain {R} {S} f = R

abbrev pub Role : Type 0
Role = domain elided

-- a lifetime that is left out there takes no entry
abbrev pub TakesNone : Role → Type 0
TakesNone e = (s : Span) → KeepsNames (elided e s)

all_elided_keep : (e : Role) → TakesNone e → (s : Span) (ds : List Ident) → KeepsNames (all_elided e s ds)
all_elided_keep e n s [] r q h = still r _ q h refl
all_elided_keep e n s (d ∷ ds) r q h = front_keeps (elided e s) (all_elided e s ds) (n s) (all_elided_keep e n s ds) r q h

one_keeps : (e : Role) → TakesNone e → (s : Span) (l : Option Ident) (ns : List ℕ) → KeepsNames (one_listed e s l ns)
one_keeps e n s None ns r q h = n s r q h
one_keeps e n s (Some x) ns r q h = still r _ q h refl

listed_keep : (e : Role) → TakesNone e → (s : Span) (ls : List (Option Ident)) (ns : List ℕ) → KeepsNames (listed e s ls ns)
listed_keep e n s [] ns r q h = still r _ q h refl
listed_keep e n s (l ∷ ls) ns r q h = front_keeps (one_listed e s l ns) (listed e s ls (left_by l ns)) (one_keeps e n s l ns) (listed_keep e n s ls (left_by l ns)) r q h

lifetimes_keep : (e : Role) → TakesNone e → (s : Span) (ds : List Ident) (ls : Option (List (Option Ident))) (ns : List ℕ) → KeepsNames (lifetimes_at e s ds ls ns)
lifetimes_keep e n s ds None ns r q h = all_elided_keep e n s ds r q h
lifetimes_keep e n s ds (Some ls) ns r q h = let a = read_ok (as_many e s ds ls) (λ _. listed e s ls ns r) q h in listed_keep e n s ls ns r q a.2

-- ---- types

points : (m : Bool) (l : ℕ) (t : Ty) → plain-Ty (pointing m l t) ≡ reference m (plain-Ty t)
points false l t = typ_shared l t
points true l t = typ_mut l t

abbrev pub TypeRead : ProgramTree → TypeTree → List NodeNames → List NodeNames → Type 0
TypeRead P y left rest = (e : Role) → TakesNone e → (ls : List ℕ) (k : ℕ) (q : Ty × Reading) → type_of P e y (reading left ls k) ≡ Ok q → Denotes P y (plain-Ty q.0) × (q.1.names ≡ rest)

abbrev pub TypesRead : ProgramTree → TypeTrees → List NodeNames → List NodeNames → Type 0
TypesRead P ys left rest = (e : Role) → TakesNone e → (ls : List ℕ) (k : ℕ) (q : List Ty × Reading) → types_of P e ys (reading left ls k) ≡ Ok q → DenoteEach P ys (map plain-Ty q.0) × (q.1.names ≡ rest)

-- one entry, whose first number is that of the name
one_entry : (I : Inside) (at : List ℕ) (m : names.Outcome ℕ) (more : names.Outcome (List ℕ)) (t t' : ItemNames) → names.names I at (both (one m) more) t ≡ Ok t'
    → (n : ℕ) × (ms : List ℕ) × (m ≡ Ok n) × (with_names (entry I at (n ∷ ms)) t ≡ t')
one_entry I at m more t t' e =
    let a = named_ok (both (one m) more) (λ ns. numbered I at ns t) t' e in
    let b = named_ok (one m) (λ ns. names.and_then more (λ ms. Ok (ns ++ ms))) a.0 a.1 in
    let c = named_ok m (λ n. Ok (n ∷ [])) b.0 b.1 in
    let d = named_ok more (λ ms. Ok (b.0 ++ ms)) a.0 b.2 in
    let same : a.0 ≡ c.0 ∷ d.0 = sym (the_same (b.0 ++ d.0) a.0 d.2) ∙ ap (λ (l : List ℕ). l ++ d.0) (sym (the_same (c.0 ∷ []) b.0 c.2)) in
    (c.0, d.0, c.1, the_same (with_names (entry I at (c.0 ∷ d.0)) t) t' (ap (λ (l : List ℕ). numbered I at l t) (sym same) ∙ a.2))

-- the same of one name
single_entry : (I : Inside) (at : List ℕ) (m : names.Outcome ℕ) (t t' : ItemNames) → names.names I at (one m) t ≡ Ok t' → (n : ℕ) × (with_names (entry I at (n ∷ [])) t ≡ t')
single_entry I at m t t' e =
    let a = named_ok (one m) (λ ns. numbered I at ns t) t' e in
    let c = named_ok m (λ n. Ok (n ∷ [])) a.0 a.1 in
    (c.0, the_same (with_names (entry I at (c.0 ∷ [])) t) t' (ap (λ (l : List ℕ). numbered I at l t) (the_same (c.0 ∷ []) a.0 c.2) ∙ a.2))

-- a type and then others
types_front : (P : ProgramTree) (y : TypeTree) (ys : TypeTrees) (left mid rest : List NodeNames) → TypeRead P y left mid → TypesRead P ys mid rest → TypesRead P (plain.type_and y ys) left rest
types_front P y ys left mid rest first more r w ls n q d =
    let c = read_ok (type_of P r y (reading left ls n)) (λ p. on_ok (types_of P r ys p.1) (λ w. Ok (p.0 ∷ w.0, w.1))) q d in
    let x = first r w ls n c.0 c.1 in
    let f = read_ok (types_of P r ys c.0.1) (λ w. Ok (c.0.0 ∷ w.0, w.1)) q c.2 in
    let u = more r w c.0.1.lifetimes c.0.1.next f.0 (from_left (types_of P r ys) mid c.0.1 f.0 x.1 f.1) in
    let same = read_same (c.0.0 ∷ f.0.0, f.0.1) q f.2 in
    ((plain-Ty c.0.0, map plain-Ty f.0.0, ap (λ x. map plain-Ty x.0) (sym same), x.0, u.0), ap (λ x. x.1.names) (sym same) ∙ u.1)

module _ (F : List NodeNames) where
  -- with all entries F of the item, before and behind an entry
  pub before_entry : (x : NodeNames) (t t' : ItemNames) (rest : List NodeNames) → with_names x t ≡ t' → F ≡ t'.names ++ rest → F ≡ t.names ++ (x ∷ rest)
  before_entry x t t' rest e h = h ∙ ap (λ (z : ItemNames). z.names ++ rest) (sym e) ∙ append_assoc t.names (x ∷ []) rest

  pub before_none : (t t' : ItemNames) (rest : List NodeNames) → ◌≡◌ {A = names.Outcome ItemNames} (Ok t) (Ok t') → F ≡ t'.names ++ rest → F ≡ t.names ++ rest
  before_none t t' rest e h = h ∙ ap (λ (z : ItemNames). z.names ++ rest) (sym (the_same t t' e))

  -- the entries that are left before, and what is read of them
  pub record Left (t : ItemNames) (Reads : List NodeNames → Type 0) : Type 0 where
    pub left : List NodeNames
    pub stands : F ≡ t.names ++ left
    pub reads : Reads left

  mutual
    pub type_read : (I : Inside) (at : List ℕ) (y : TypeTree) (t t' : ItemNames) → in_type I at y t ≡ Ok t' → (rest : List NodeNames) → F ≡ t'.names ++ rest → Left t (λ left. TypeRead I.program y left rest)
    type_read I at (plain.kind_type s k) t t' e rest h = record {
      left = rest;
      stands = before_none t t' rest e h;
      reads = λ r w ls n q d. let same = read_same (ty.Int k, reading rest ls n) q d in (ap (λ x. plain-Ty x.0) (sym same) ∙ typ_integer k, ap (λ x. x.1.names) (sym same));
    }
    type_read I at (plain.bool_type s) t t' e rest h = record {
      left = rest;
      stands = before_none t t' rest e h;
      reads = λ r w ls n q d. let same = read_same (ty.Bool, reading rest ls n) q d in (ap (λ x. plain-Ty x.0) (sym same) ∙ typ_boolean, ap (λ x. x.1.names) (sym same));
    }
    type_read I at (plain.tuple_type s ys) t t' e rest h =
        let a = types_read I at 0 ys t t' e rest h in
        record {
          left = a.left;
          stands = a.stands;
          reads = λ r w ls n q d.
              let b = read_ok (types_of I.program r ys (reading a.left ls n)) (λ p. Ok (ty.Tuple p.0, p.1)) q d in
              let c = a.reads r w ls n b.0 b.1 in
              let same = read_same (ty.Tuple b.0.0, b.0.1) q b.2 in
              ((map plain-Ty b.0.0, ap (λ x. plain-Ty x.0) (sym same) ∙ typ_tuple b.0.0, c.0), ap (λ x. x.1.names) (sym same) ∙ c.1);
        }
    type_read I at (plain.ref_type s None m y) t t' e rest h =
        let a = type_read I (child at 0) y t t' e rest h in
        record {
          left = a.left;
          stands = a.stands;
          reads = λ r w ls n q d.
              let b = read_ok (elided r s (reading a.left ls n)) (λ p. on_ok (type_of I.program r y p.1) (λ z. Ok (pointing m p.0 z.0, z.1))) q d in
              let kept = w s (reading a.left ls n) b.0 b.1 in
              let c = read_ok (type_of I.program r y b.0.1) (λ w. Ok (pointing m b.0.0 w.0, w.1)) q b.2 in
              let x = a.reads r w b.0.1.lifetimes b.0.1.next c.0 (from_left (type_of I.program r y) a.left b.0.1 c.0 kept c.1) in
              let same = read_same (pointing m b.0.0 c.0.0, c.0.1) q c.2 in
              ((plain-Ty c.0.0, ap (λ x. plain-Ty x.0) (sym same) ∙ points m b.0.0 c.0.0, x.0), ap (λ x. x.1.names) (sym same) ∙ x.1);
        }
    type_read I at (plain.ref_type s (Some l) m y) t t' e rest h =
        let o = named_ok (in_lifetime I at (Some l) t) (in_type I (child at 0) y) t' e in
        let z = single_entry I at (lifetime_in I l) t o.0 o.1 in
        let a = type_read I (child at 0) y o.0 t' o.2 rest h in
        record {
          left = entry I at (z.0 ∷ []) ∷ a.left;
          stands = before_entry (entry I at (z.0 ∷ [])) t o.0 a.left z.1 a.stands;
          reads = λ r w ls n q d.
              let c = read_ok (type_of I.program r y (reading a.left (ls ++ z.0 ∷ []) n)) (λ w. Ok (pointing m z.0 w.0, w.1)) q d in
              let x = a.reads r w (ls ++ z.0 ∷ []) n c.0 c.1 in
              let same = read_same (pointing m z.0 c.0.0, c.0.1) q c.2 in
              ((plain-Ty c.0.0, ap (λ x. plain-Ty x.0) (sym same) ∙ points m z.0 c.0.0, x.0), ap (λ x. x.1.names) (sym same) ∙ x.1);
        }
    type_read I at (plain.named_type s x ls) t t' e rest h =
        let z = one_entry I at (type_in I x) (lifetimes_in I (written ls)) t t' e in
        record {
          left = entry I at (z.0 ∷ z.1) ∷ rest;
          stands = before_entry (entry I at (z.0 ∷ z.1)) t t' rest z.3 h;
          reads = λ r w us n q d.
              let ds = lifetimes_of (slice_get I.program z.0) in
              let c = read_ok (lifetimes_at r s ds ls (others (z.0 ∷ z.1)) (reading rest us n)) (λ w. Ok (ty.Adt z.0 w.0, w.1)) q d in
              let kept = lifetimes_keep r w s ds ls (others (z.0 ∷ z.1)) (reading rest us n) c.0 c.1 in
              let same = read_same (ty.Adt z.0 c.0.0, c.0.1) q c.2 in
              ((z.0, ap (λ x. plain-Ty x.0) (sym same) ∙ typ_item z.0 c.0.0, known_some (as_type (item_named type_name 0 I.program x.name)) x.span z.0 z.2), ap (λ x. x.1.names) (sym same) ∙ kept);
        }

    pub types_read : (I : Inside) (at : List ℕ) (i : ℕ) (ys : TypeTrees) (t t' : ItemNames) → in_types I at i ys t ≡ Ok t' → (rest : List NodeNames) → F ≡ t'.names ++ rest → Left t (λ left. TypesRead I.program ys left rest)
    types_read I at i plain.no_type t t' e rest h = record {
      left = rest;
      stands = before_none t t' rest e h;
      reads = λ r w ls n q d. let same = read_same ([], reading rest ls n) q d in (ap (λ x. map plain-Ty x.0) (sym same), ap (λ x. x.1.names) (sym same));
    }
    types_read I at i (plain.type_and y ys) t t' e rest h =
        let o = named_ok (in_type I (child at i) y t) (in_types I at (next i) ys) t' e in
        let b = types_read I at (next i) ys o.0 t' o.2 rest h in
        let a = type_read I (child at i) y t o.0 o.1 b.left b.stands in
        record { left = a.left; stands = a.stands; reads = types_front I.program y ys a.left b.left rest a.reads b.reads }
