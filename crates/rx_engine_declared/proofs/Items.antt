-- What is declared of an item is what its text declares, where its names are resolved. By induction on its fields, variants and
-- parameters.
use Rattle.std.proofs.Common.{◌≡◌, ℕ, suc, ◌+◌, List, [], ◌∷◌, ◌++◌, length, map, Option, Some, None, Ok, refl, sym, ap, ◌∙◌, append-nil, length-append}
use Rattle.rx_core.specs.declared.types.Span.{Span}
use Rattle.rx_core.specs.declared.types.Ty.{Ty}
use Rattle.rx_core.specs.declared.types.Ty.TheVariants as ty
use Rattle.rx_tree.specs.declared.tree.Ident.{Ident}
use Rattle.rx_tree.specs.declared.tree.BoundLifetime.{BoundLifetime}
use Rattle.rx_tree.specs.Plain as plain
use Rattle.rx_tree.specs.Plain.{TypeTree, FieldOf, VariantOf, Parameter, Function, ItemTree, ProgramTree}
use Rattle.rx_resolve_names.specs.Scopes.{DeclaredNames}
use Rattle.rx_resolve_names.specs.declared.resolved.ItemNames.{ItemNames}
use Rattle.rx_resolve_names.specs.declared.resolved.NodeNames.{NodeNames}
use Rattle.rx_resolve_names.specs.Meant.{number, firsts, lifetimes_declared}
use Rattle.rx_resolve_names.specs.Steps as names
use Rattle.rx_resolve_names.specs.Steps.{Inside, declare, both, one, child, next, with_names, with_variable, entry, numbered, ◌>>◌}
use Rattle.rx_resolve_names.specs.Names.{behind, in_type, in_types, in_optional_type, in_block, lifetime_in, Bound}
use Rattle.rx_resolve_names.specs.Items.{bounds_in, distinct, in_declared, in_variants, lifetimes_of, in_parameter, in_parameters, numbers_from, body_at, in_item}
use Rattle.rx_resolve_names.specs.Scopes.{entered}
use Rattle.rx_typed.specs.PlainTypes.{plain-Ty, plain-Decl, plain-FieldDecl, plain-VariantDecl, typ_tuple}
use Rattle.rx_typed.specs.declared.declarations.Decl.{Decl}
use Rattle.rx_typed.specs.declared.declarations.Decl.TheVariants as decl
use Rattle.rx_typed.specs.declared.declarations.FieldDecl.{FieldDecl}
use Rattle.rx_typed.specs.declared.declarations.VariantDecl.{VariantDecl}
use Rattle.rx_typeck_typed.specs.Steps as steps
use Rattle.rx_typeck_typed.specs.Steps.{Reading, on_ok}
use Rattle.rx_typeck_typed.specs.Written.{type_of, types_of}
use Rattle.rx_typeck_typed.specs.Items.{declared_item, field_of, fields_of, variant_of, variants_of, begins, all_used, derives_copy, one_each, bounded, bounds_of, entry_of, parameters_of, the_only, answer_of}
use Rattle.rx_engine_names.proofs.SideBySide.{named_ok, the_same}
use Rattle.rx_engine_declared.specs.Denoting.{Denotes}
use Rattle.rx_engine_declared.specs.Declaring.{AreFields, AreVariants, AreParameters, IsResult, DeclaresAs}
use Rattle.rx_engine_declared.proofs.Growing.{block_grows}
use Rattle.rx_engine_declared.proofs.Reading.{read_ok, read_same, reading, from_left, Role, TypeRead, TypesRead, Left, before_entry, before_none, type_read, types_read, still}

-- ---- where a type stands

-- a result takes the only lifetime of the parameters, or leaves none out
abbrev pub with_one : (F : ℕ → Role) × ((p : ProgramTree) (y : TypeTree) (ns : List NodeNames) (l k : ℕ) → answer_of p (Some y) (reading ns (l ∷ []) k) ≡ type_of p (F l) y (reading ns (l ∷ []) k))
with_one = (λ l. _, λ p y ns l k. refl)

abbrev pub with_none : (N : Role) × ((p : ProgramTree) (y : TypeTree) (ns : List NodeNames) (k : ℕ) → answer_of p (Some y) (reading ns [] k) ≡ type_of p N y (reading ns [] k))
with_none = (_, λ p y ns k. refl)

pub takes_one : (p : ProgramTree) (y : TypeTree) (ns : List NodeNames) (ls : List ℕ) (k l : ℕ) (q : Ty × Reading) → the_only ls ≡ Some l → answer_of p (Some y) (reading ns ls k) ≡ Ok q → type_of p (with_one.0 l) y (reading ns ls k) ≡ Ok q
takes_one p y ns ls k l q e h = cc

pub takes_none : (p : ProgramTree) (y : TypeTree) (ns : List NodeNames) (ls : List ℕ) (k : ℕ) (q : Ty × Reading) → the_only ls ≡ None → answer_of p (Some y) (reading ns ls k) ≡ Ok q → type_of p with_none.0 y (reading ns ls k) ≡ Ok q
takes_none p y ns ls k q e h = cc

-- ---- what is read of the parts of an item

abbrev FieldsRead : ProgramTree → List FieldOf → List NodeNames → Type 0
FieldsRead P fs left = (ls : List ℕ) (k : ℕ) (q : List FieldDecl × Reading) → fields_of P fs (reading left ls k) ≡ Ok q → AreFields P fs (map plain-FieldDecl q.0)

abbrev VariantsRead : ProgramTree → List VariantOf → List NodeNames → Type 0
VariantsRead P vs left = (ls : List ℕ) (k : ℕ) (q : List VariantDecl × Reading) → variants_of P vs (reading left ls k) ≡ Ok q → AreVariants P vs (map plain-VariantDecl q.0)

abbrev ParametersRead : ProgramTree → List Parameter → List NodeNames → List NodeNames → Type 0
ParametersRead P xs left rest = (ls : List ℕ) (k : ℕ) (q : List Ty × Reading) → parameters_of P xs (reading left ls k) ≡ Ok q → AreParameters P xs (map plain-Ty q.0) × (q.1.names ≡ rest)

abbrev ResultRead : ProgramTree → Option TypeTree → List NodeNames → Type 0
ResultRead P y left = (ls : List ℕ) (k : ℕ) (q : Ty × Reading) → answer_of P y (reading left ls k) ≡ Ok q → IsResult P y (plain-Ty q.0)

-- the first of the parts, and then others

fields_front : (P : ProgramTree) (f : FieldOf) (fs : List FieldOf) (left mid : List NodeNames) → TypeRead P f.typ left mid → FieldsRead P fs mid → FieldsRead P (f ∷ fs) left
fields_front P f fs left mid first more ls n q z =
    let c = read_ok (field_of P f (reading left ls n)) (λ p. on_ok (fields_of P fs p.1) (λ w. Ok (p.0 ∷ w.0, w.1))) q z in
    let g = read_ok (type_of P _ f.typ (reading left ls n)) (λ p. Ok (record { name = f.name.name; ty = p.0 }, p.1)) c.0 c.1 in
    let x = first _ (λ s r q o. absurd (cc)) ls n g.0 g.1 in
    let same = read_same (record { name = f.name.name; ty = g.0.0 }, g.0.1) c.0 g.2 in
    let stands : c.0.1.names ≡ mid = ap (λ x. x.1.names) (sym same) ∙ x.1 in
    let u = read_ok (fields_of P fs c.0.1) (λ w. Ok (c.0.0 ∷ w.0, w.1)) q c.2 in
    let v = more c.0.1.lifetimes c.0.1.next u.0 (from_left (fields_of P fs) mid c.0.1 u.0 stands u.1) in
    let all = read_same (c.0.0 ∷ u.0.0, u.0.1) q u.2 in
    (plain-Ty g.0.0, map plain-FieldDecl u.0.0, ap (λ x. map plain-FieldDecl x.0) (sym all) ∙ ap (λ x. plain-FieldDecl x.0 ∷ map plain-FieldDecl u.0.0) (sym same), x.0, v)

variants_front : (P : ProgramTree) (f : VariantOf) (fs : List VariantOf) (left mid : List NodeNames) → TypesRead P f.types left mid → VariantsRead P fs mid → VariantsRead P (f ∷ fs) left
variants_front P f fs left mid first more ls n q z =
    let c = read_ok (variant_of P f (reading left ls n)) (λ p. on_ok (variants_of P fs p.1) (λ w. Ok (p.0 ∷ w.0, w.1))) q z in
    let g = read_ok (types_of P _ f.types (reading left ls n)) (λ p. Ok (record { name = f.name.name; parts = p.0 }, p.1)) c.0 c.1 in
    let x = first _ (λ s r q o. absurd (cc)) ls n g.0 g.1 in
    let same = read_same (record { name = f.name.name; parts = g.0.0 }, g.0.1) c.0 g.2 in
    let stands : c.0.1.names ≡ mid = ap (λ x. x.1.names) (sym same) ∙ x.1 in
    let u = read_ok (variants_of P fs c.0.1) (λ w. Ok (c.0.0 ∷ w.0, w.1)) q c.2 in
    let v = more c.0.1.lifetimes c.0.1.next u.0 (from_left (variants_of P fs) mid c.0.1 u.0 stands u.1) in
    let all = read_same (c.0.0 ∷ u.0.0, u.0.1) q u.2 in
    (map plain-Ty g.0.0, map plain-VariantDecl u.0.0, ap (λ x. map plain-VariantDecl x.0) (sym all) ∙ ap (λ x. plain-VariantDecl x.0 ∷ map plain-VariantDecl u.0.0) (sym same), x.0, v)

parameters_front : (P : ProgramTree) (x : Parameter) (xs : List Parameter) (left mid rest : List NodeNames) → TypeRead P x.typ left mid → ParametersRead P xs mid rest → ParametersRead P (x ∷ xs) left rest
parameters_front P x xs left mid rest first more ls n q z =
    let g = read_ok (type_of P _ x.typ (reading left ls n)) (λ p. on_ok (parameters_of P xs p.1) (λ w. Ok (p.0 ∷ w.0, w.1))) q z in
    let w = first _ (λ s r q o. still r _ q o refl) ls n g.0 g.1 in
    let u = read_ok (parameters_of P xs g.0.1) (λ w. Ok (g.0.0 ∷ w.0, w.1)) q g.2 in
    let v = more g.0.1.lifetimes g.0.1.next u.0 (from_left (parameters_of P xs) mid g.0.1 u.0 w.1 u.1) in
    let all = read_same (g.0.0 ∷ u.0.0, u.0.1) q u.2 in
    ((plain-Ty g.0.0, map plain-Ty u.0.0, ap (λ x. map plain-Ty x.0) (sym all), w.0, v.0), ap (λ x. x.1.names) (sym all) ∙ v.1)

module _ (F : List NodeNames) where
  fields_read : (I : Inside) (at : List ℕ) (ds : DeclaredNames) (i : ℕ) (fs : List FieldOf) (t t' : ItemNames) → in_declared I at ds i fs t ≡ Ok t' → (rest : List NodeNames) → F ≡ t'.names ++ rest → Left F t (FieldsRead I.program fs)
  fields_read I at ds i [] t t' e rest h = record {
    left = rest;
    stands = before_none F t t' rest e h;
    reads = λ ls n q d. ap (λ x. map plain-FieldDecl x.0) (sym (read_same ([], reading rest ls n) q d));
  }
  fields_read I at ds i (f ∷ fs) t t' e rest h =
      let d = named_ok (declare ds f.name i) (λ ds. (in_type I (child at i) f.typ >> in_declared I at ds (next i) fs) t) t' e in
      let o = named_ok (in_type I (child at i) f.typ t) (in_declared I at d.0 (next i) fs) t' d.2 in
      let b = fields_read I at d.0 (next i) fs o.0 t' o.2 rest h in
      let a = type_read F I (child at i) f.typ t o.0 o.1 b.left b.stands in
      record { left = a.left; stands = a.stands; reads = fields_front I.program f fs a.left b.left a.reads b.reads }

  variants_read : (I : Inside) (at : List ℕ) (ds : DeclaredNames) (n i : ℕ) (vs : List VariantOf) (t t' : ItemNames) → in_variants I at ds n i vs t ≡ Ok t' → (rest : List NodeNames) → F ≡ t'.names ++ rest → Left F t (VariantsRead I.program vs)
  variants_read I at ds m i [] t t' e rest h = record {
    left = rest;
    stands = before_none F t t' rest e h;
    reads = λ ls n q d. ap (λ x. map plain-VariantDecl x.0) (sym (read_same ([], reading rest ls n) q d));
  }
  variants_read I at ds m i (f ∷ fs) t t' e rest h =
      let d = named_ok (declare ds f.name m) (λ ds. (in_types I at i f.types >> in_variants I at ds (suc m) (behind i f.types) fs) t) t' e in
      let o = named_ok (in_types I at i f.types t) (in_variants I at d.0 (suc m) (behind i f.types) fs) t' d.2 in
      let b = variants_read I at d.0 (suc m) (behind i f.types) fs o.0 t' o.2 rest h in
      let a = types_read F I at i f.types t o.0 o.1 b.left b.stands in
      record { left = a.left; stands = a.stands; reads = variants_front I.program f fs a.left b.left a.reads b.reads }

  parameters_read : (I : Inside) (at : List ℕ) (i : ℕ) (xs : List Parameter) (b b' : Bound) → in_parameters I at i xs b ≡ Ok b' → (rest : List NodeNames) → F ≡ b'.tables.names ++ rest
      → Left F b.tables (λ left. ParametersRead I.program xs left rest)
  parameters_read I at i [] b b' e rest h = record {
    left = rest;
    stands = h ∙ ap (λ (z : Bound). z.tables.names ++ rest) (sym (the_same b b' e));
    reads = λ ls n q d. let same = read_same ([], reading rest ls n) q d in (ap (λ x. map plain-Ty x.0) (sym same), ap (λ x. x.1.names) (sym same));
  }
  parameters_read I at i (x ∷ xs) b b' e rest h =
      let o = named_ok (in_parameter I at i x b) (in_parameters I at (next i) xs) b' e in
      let d = named_ok (declare b.bindings x.name i) (λ ds. names.and_then (in_type I (child at i) x.typ (with_variable x.name.span b.tables)) (λ t. Ok (record { bindings = ds; tables = t }))) o.0 o.1 in
      let y = named_ok (in_type I (child at i) x.typ (with_variable x.name.span b.tables)) (λ t. Ok (record { bindings = d.0; tables = t })) o.0 d.2 in
      let c = parameters_read I at (next i) xs o.0 b' o.2 rest h in
      let here : F ≡ y.0.names ++ c.left = c.stands ∙ ap (λ (z : Bound). z.tables.names ++ c.left) (sym (the_same (record { bindings = d.0; tables = y.0 }) o.0 y.2)) in
      let a = type_read F I (child at i) x.typ (with_variable x.name.span b.tables) y.0 y.1 c.left here in
      record { left = a.left; stands = a.stands; reads = parameters_front I.program x xs a.left c.left rest a.reads c.reads }

  result_read : (I : Inside) (at : List ℕ) (y : Option TypeTree) (t t' : ItemNames) → in_optional_type I at y t ≡ Ok t' → (rest : List NodeNames) → F ≡ t'.names ++ rest → Left F t (ResultRead I.program y)
  result_read I at None t t' e rest h = record {
    left = rest;
    stands = before_none F t t' rest e h;
    reads = λ ls n q d. ap (λ x. plain-Ty x.0) (sym (read_same (ty.Tuple [], reading rest ls n) q d)) ∙ typ_tuple [];
  }
  result_read I at (Some y) t t' e rest h =
      let a = type_read F I at y t t' e rest h in
      record { left = a.left; stands = a.stands; reads = λ ls n q d. by a.left a.reads ls n q d (the_only ls) refl }
    where
      by : (left : List NodeNames) → TypeRead I.program y left rest → (ls : List ℕ) (n : ℕ) (q : Ty × Reading) → answer_of I.program (Some y) (reading left ls n) ≡ Ok q → (o : Option ℕ) → the_only ls ≡ o → Denotes I.program y (plain-Ty q.0)
      by left reads ls n q d None e = (reads with_none.0 (λ s r q o. absurd (cc)) ls n q (takes_none I.program y left ls n q e d)).0
      by left reads ls n q d (Some l) e = (reads (with_one.0 l) (λ s r q o. still r _ q o refl) ls n q (takes_one I.program y left ls n l q e d)).0

  -- ---- the entry of a function

  -- bounds of lifetimes have numbers in it
  each_bound : (I : Inside) (n : ℕ) (ls : List Ident) (ns : List ℕ) → bounds_in I ls ≡ Ok ns → length ns ≡ length (one_each n ls)
  each_bound I n [] ns e = ap length (sym (the_same [] ns e))
  each_bound I n (l ∷ ls) ns e =
      let a = named_ok (one (lifetime_in I l)) (λ ns. names.and_then (bounds_in I ls) (λ ms. Ok (ns ++ ms))) ns e in
      let c = named_ok (lifetime_in I l) (λ n. Ok (n ∷ [])) a.0 a.1 in
      let b = named_ok (bounds_in I ls) (λ ms. Ok (a.0 ++ ms)) ns a.2 in
      let first : a.0 ≡ c.0 ∷ [] = sym (the_same (c.0 ∷ []) a.0 c.2) in
      ap length (sym (the_same (a.0 ++ b.0) ns b.2) ∙ ap (λ (l : List ℕ). l ++ b.0) first) ∙ ap suc (each_bound I n ls b.0 b.1)

  pub all_bounds : (I : Inside) (ds : DeclaredNames) (n : ℕ) (ls : List BoundLifetime) (ns : List ℕ) → lifetimes_of I ds n ls ≡ Ok ns → length ns ≡ length (bounded n ls)
  all_bounds I ds n [] ns e = ap length (sym (the_same [] ns e))
  all_bounds I ds n (l ∷ ls) ns e =
      let d = named_ok (declare ds l.name n) (λ ds. both (bounds_in I l.bounds) (lifetimes_of I ds (suc n) ls)) ns e in
      let a = named_ok (bounds_in I l.bounds) (λ ns. names.and_then (lifetimes_of I d.0 (suc n) ls) (λ ms. Ok (ns ++ ms))) ns d.2 in
      let b = named_ok (lifetimes_of I d.0 (suc n) ls) (λ ms. Ok (a.0 ++ ms)) ns a.2 in
      let x = each_bound I (number n) l.bounds a.0 a.1 in
      let y = all_bounds I d.0 (suc n) ls b.0 b.1 in
      let p = length-append a.0 b.0 in
      let r = length-append (one_each (number n) l.bounds) (bounded (suc n) ls) in
      ap length (sym (the_same (a.0 ++ b.0) ns b.2)) ∙ p ∙ ap (λ k. k + length b.0) x ∙ ap (λ k. length (one_each (number n) l.bounds) + k) y ∙ sym r

  entry_read : (I : Inside) (at : List ℕ) (ns bs : List ℕ) (xs : List Parameter) → length ns ≡ length bs → (t t' : ItemNames) → numbered I at (ns ++ numbers_from 0 xs) t ≡ Ok t' → (rest : List NodeNames) → F ≡ t'.names ++ rest
      → Left F t (λ left. (ls : List ℕ) (k : ℕ) (q : List ℕ × Reading) → entry_of bs xs (reading left ls k) ≡ Ok q → q.1.names ≡ rest)
  entry_read I at [] [] [] l t t' e rest h = record { left = rest; stands = before_none F t t' rest e h; reads = λ ls n q d. still (reading rest ls n) _ q d refl }
  entry_read I at [] [] (x ∷ xs) l t t' e rest h =
      let z = entry I at (0 ∷ numbers_from (next 0) xs) in
      record { left = z ∷ rest; stands = before_entry F z t t' rest (the_same (with_names z t) t' e) h; reads = λ ls n q d. ap (λ x. x.1.names) (sym (read_same (z.numbers, reading rest ls n) q d)) }
  entry_read I at (m ∷ ns) (b ∷ bs) xs l t t' e rest h =
      let z = entry I at (m ∷ (ns ++ numbers_from 0 xs)) in
      record { left = z ∷ rest; stands = before_entry F z t t' rest (the_same (with_names z t) t' e) h; reads = λ ls n q d. ap (λ x. x.1.names) (sym (read_same (z.numbers, reading rest ls n) q d)) }
  entry_read I at [] (b ∷ bs) xs l t t' e rest h = absurd (cc)
  entry_read I at (m ∷ ns) [] xs l t t' e rest h = absurd (cc)

-- ---- items

pub distinct_names : (ds : DeclaredNames) (n : ℕ) (xs : List Ident) (t t' : ItemNames) → distinct ds n xs t ≡ Ok t' → t ≡ t'
distinct_names ds n [] t t' e = the_same t t' e
distinct_names ds n (x ∷ xs) t t' e = let a = named_ok (declare ds x n) (λ ds. distinct ds (suc n) xs t) t' e in distinct_names a.0 (suc n) xs t t' a.2

whole : (t : ItemNames) → t.names ≡ t.names ++ []
whole t = sym (append-nil t.names)

-- by the entries that are left behind a function's own, and behind those of its parameters
abbrev EntryRead : List ℕ → List Parameter → List NodeNames → List NodeNames → Type 0
EntryRead bs xs left rest = (ls : List ℕ) (k : ℕ) (q : List ℕ × Reading) → entry_of bs xs (reading left ls k) ≡ Ok q → q.1.names ≡ rest

from_start : (bs : List ℕ) (xs : List Parameter) (F left rest : List NodeNames) → F ≡ left → EntryRead bs xs left rest → EntryRead bs xs F rest
from_start bs xs F left rest e h ls k q d = h ls k q (ap (λ (l : List NodeNames). entry_of bs xs (reading l ls k)) (sym e) ∙ d)

plainly : (a d : Decl) → ◌≡◌ {A = steps.Outcome Decl} (Ok a) (Ok d) → plain-Decl d ≡ plain-Decl a
plainly a d e = ap plain-Decl (sym (read_same a d e))

function_reads : (p : ProgramTree) (s : Span) (f : Function) (d : Decl) (left mid rest : List NodeNames) → EntryRead (bounded 0 f.lifetimes) f.params left mid → ParametersRead p f.params mid rest → ResultRead p f.result rest
    → declared_item p left (plain.function_item s f) ≡ Ok d → DeclaresAs p (plain.function_item s f) (plain-Decl d)
function_reads p s f d left mid rest r1 r2 r3 h =
    let B = bounded 0 f.lifetimes in
    let c = number (length f.lifetimes) in
    let x = read_ok (entry_of B f.params (begins left c)) (λ e. on_ok (parameters_of p f.params e.1) (λ ps. on_ok (answer_of p f.result ps.1) (λ a. Ok (decl.Func ps.1.next ps.0 a.0 (bounds_of B e.0))))) d h in
    let y = read_ok (parameters_of p f.params x.0.1) (λ ps. on_ok (answer_of p f.result ps.1) (λ a. Ok (decl.Func ps.1.next ps.0 a.0 (bounds_of B x.0.0)))) d x.2 in
    let z = read_ok (answer_of p f.result y.0.1) (λ a. Ok (decl.Func y.0.1.next y.0.0 a.0 (bounds_of B x.0.0))) d y.2 in
    let in1 = r1 [] c x.0 x.1 in
    let in2 = r2 x.0.1.lifetimes x.0.1.next y.0 (from_left (parameters_of p f.params) mid x.0.1 y.0 in1 y.1) in
    let in3 = r3 y.0.1.lifetimes y.0.1.next z.0 (from_left (answer_of p f.result) rest y.0.1 z.0 in2.1 z.1) in
    (map plain-Ty y.0.0, plain-Ty z.0.0, plainly (decl.Func y.0.1.next y.0.0 z.0.0 (bounds_of B x.0.0)) d z.2, in2.0, in3)

module _ (p : ProgramTree) (n : ℕ) where
  abbrev inside : ItemTree → Inside
  inside i = record { program = p; item = number n; lifetimes = firsts [] 0 (lifetimes_declared i) }

  abbrev start : ItemTree → ItemNames
  start i = record { vars = []; lifetimes = map (λ (l : Ident). l.span) (lifetimes_declared i); loops = []; names = [] }

  struct_declares : (s : Span) (x : plain.Structure) (t : ItemNames) (d : Decl) → in_item p n (plain.struct_item s x) ≡ Ok t → declared_item p t.names (plain.struct_item s x) ≡ Ok d → DeclaresAs p (plain.struct_item s x) (plain-Decl d)
  struct_declares s x t d e h =
      let I = inside (plain.struct_item s x) in
      let o = named_ok (distinct [] 0 x.lifetimes (start (plain.struct_item s x))) (in_declared I [] [] 0 x.fields) t e in
      let none = distinct_names [] 0 x.lifetimes (start (plain.struct_item s x)) o.0 o.1 in
      let r = fields_read t.names I [] [] 0 x.fields o.0 t o.2 [] (whole t) in
      let all : t.names ≡ r.left = r.stands ∙ ap (λ (z : ItemNames). z.names ++ r.left) (sym none) in
      let a = read_ok (fields_of p x.fields (begins t.names 0)) (λ r. on_ok (all_used 0 x.lifetimes r.1.lifetimes) (λ _. Ok (decl.Struct (derives_copy x.derives) (number (length x.lifetimes)) [] r.0))) d h in
      let b = read_ok (all_used 0 x.lifetimes a.0.1.lifetimes) (λ _. Ok (decl.Struct (derives_copy x.derives) (number (length x.lifetimes)) [] a.0.0)) d a.2 in
      let same = read_same (decl.Struct (derives_copy x.derives) (number (length x.lifetimes)) [] a.0.0) d b.2 in
      (map plain-FieldDecl a.0.0, ap plain-Decl (sym same), r.reads [] 0 a.0 (ap (λ (l : List NodeNames). fields_of p x.fields (begins l 0)) (sym all) ∙ a.1))

  enum_declares : (s : Span) (x : plain.Enumeration) (t : ItemNames) (d : Decl) → in_item p n (plain.enum_item s x) ≡ Ok t → declared_item p t.names (plain.enum_item s x) ≡ Ok d → DeclaresAs p (plain.enum_item s x) (plain-Decl d)
  enum_declares s x t d e h =
      let I = inside (plain.enum_item s x) in
      let o = named_ok (distinct [] 0 x.lifetimes (start (plain.enum_item s x))) (in_variants I [] [] 0 0 x.variants) t e in
      let none = distinct_names [] 0 x.lifetimes (start (plain.enum_item s x)) o.0 o.1 in
      let r = variants_read t.names I [] [] 0 0 x.variants o.0 t o.2 [] (whole t) in
      let all : t.names ≡ r.left = r.stands ∙ ap (λ (z : ItemNames). z.names ++ r.left) (sym none) in
      let a = read_ok (variants_of p x.variants (begins t.names 0)) (λ r. on_ok (all_used 0 x.lifetimes r.1.lifetimes) (λ _. Ok (decl.Enum (derives_copy x.derives) (number (length x.lifetimes)) [] r.0))) d h in
      let b = read_ok (all_used 0 x.lifetimes a.0.1.lifetimes) (λ _. Ok (decl.Enum (derives_copy x.derives) (number (length x.lifetimes)) [] a.0.0)) d a.2 in
      let same = read_same (decl.Enum (derives_copy x.derives) (number (length x.lifetimes)) [] a.0.0) d b.2 in
      (map plain-VariantDecl a.0.0, ap plain-Decl (sym same), r.reads [] 0 a.0 (ap (λ (l : List NodeNames). variants_of p x.variants (begins l 0)) (sym all) ∙ a.1))

  function_declares : (s : Span) (f : Function) (t : ItemNames) (d : Decl) → in_item p n (plain.function_item s f) ≡ Ok t → declared_item p t.names (plain.function_item s f) ≡ Ok d → DeclaresAs p (plain.function_item s f) (plain-Decl d)
  function_declares s f t d e h =
      let I = inside (plain.function_item s f) in
      let F = t.names in
      let B = bounded 0 f.lifetimes in
      let at1 = child [] (number (length f.params)) in let at2 = child [] (body_at (number (length f.params)) f.result) in
      let inner : Bound → names.Outcome ItemNames = λ b. (in_optional_type I at1 f.result >> in_block I (entered [] b.bindings) [] at2 f.body) b.tables in
      let middle : ItemNames → names.Outcome ItemNames = λ t. names.and_then (in_parameters I [] 0 f.params (record { bindings = []; tables = t })) inner in
      let X = named_ok (lifetimes_of I [] 0 f.lifetimes) (λ ns. names.and_then (numbered I [] (ns ++ numbers_from 0 f.params) (start (plain.function_item s f))) middle) t e in
      let Y = named_ok (numbered I [] (X.0 ++ numbers_from 0 f.params) (start (plain.function_item s f))) middle t X.2 in
      let Z = named_ok (in_parameters I [] 0 f.params (record { bindings = []; tables = Y.0 })) inner t Y.2 in
      let W = named_ok (in_optional_type I at1 f.result Z.0.tables) (in_block I (entered [] Z.0.bindings) [] at2 f.body) t Z.2 in
      let G = block_grows I (entered [] Z.0.bindings) [] at2 f.body W.0 t W.2 in
      let r3 = result_read F I at1 f.result Z.0.tables W.0 W.1 G.0 G.1 in
      let r2 = parameters_read F I [] 0 f.params (record { bindings = []; tables = Y.0 }) Z.0 Z.1 r3.left r3.stands in
      let r1 = entry_read F I [] X.0 B f.params (all_bounds F I [] 0 f.lifetimes X.0 X.1) (start (plain.function_item s f)) Y.0 Y.1 r2.left r2.stands in
      let first : EntryRead B f.params F r2.left = from_start B f.params F r1.left r2.left r1.stands r1.reads in
      function_reads p s f d F r2.left r3.left first r2.reads r3.reads h

  -- an item, by its entries of names
  pub item_declares : (i : ItemTree) (t : ItemNames) (d : Decl) → in_item p n i ≡ Ok t → declared_item p t.names i ≡ Ok d → DeclaresAs p i (plain-Decl d)
  item_declares (plain.rt_item s r) t d e h = ap plain-Decl (sym (read_same decl.Rt d h))
  item_declares (plain.struct_item s x) t d e h = struct_declares s x t d e h
  item_declares (plain.enum_item s x) t d e h = enum_declares s x t d e h
  item_declares (plain.function_item s f) t d e h = function_declares s f t d e h
