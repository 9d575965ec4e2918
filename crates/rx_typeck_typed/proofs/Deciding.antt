-- What a program declares fits or is wrong, and no fault of it is want of memory: no step of reading types gives that fault;
-- whether a struct or enum reaches itself is decided (`Deciding.antt` of rx_graph_cycles), and where none does each has one
-- number of parts, by which the limits are kept or not.
use Rattle.std.proofs.Common.{◌≡◌, ◌≢◌, ◌⊎◌, ℕ, zero, suc, ◌+◌, ◌<◌, nat_eq, Bool, true, false, ◌&&◌, if◌then◌else◌, List, [], ◌∷◌, length, Option, Some, None, Ok, Err, slice_get, inl, inr, arith, refl, sym, ap, subst, ◌∙◌}
use Rattle.rx_core.specs.declared.types.Span.{Span}
use Rattle.rx_tree.specs.declared.tree.Ident.{Ident}
use Rattle.rx_tree.specs.Plain as plain
use Rattle.rx_tree.specs.Plain.{TypeTree, TypeTrees, FieldOf, VariantOf, Parameter, Function, ItemTree, ProgramTree}
use Rattle.rx_tree.specs.Spans.{program_span}
use Rattle.rx_tree.specs.Size.{IsNumbered}
use Rattle.rx_graph_cycles.specs.Reaches.{NoCycle, FirstOnCycle}
use Rattle.rx_graph_cycles.proofs.Deciding.{first_on_cycle, one_first}
use Rattle.rx_resolve_names.specs.Holding.{name_span}
use Rattle.rx_resolve_names.specs.declared.resolved.ItemNames.{ItemNames}
use Rattle.rx_resolve_names.specs.declared.resolved.NodeNames.{NodeNames}
use Rattle.rx_core.specs.declared.types.Ty.TheVariants as ty
use Rattle.rx_typed.specs.declared.declarations.Decl.{Decl}
use Rattle.rx_typed.specs.declared.declarations.Decl.TheVariants as decl
use Rattle.rx_typed.specs.Types.{Declarations}
use Rattle.rx_typed.specs.PlainTypes.{declarations}
use Rattle.rx_typed_declarations.specs.Held.{held_by_each}
use Rattle.rx_typed_declarations.specs.Sizes.{Sized, IsSizes, capped}
use Rattle.rx_typeck_solver.specs.declared.facts.Rule.{Rule}
use Rattle.rx_typeck_typed.specs.declared.fault.DeclareFault.{DeclareFault}
use Rattle.rx_typeck_typed.specs.declared.fault.DeclareFault.TheVariants as fault
use Rattle.rx_typeck_typed.specs.declared.reader.Role.{Role}
use Rattle.rx_typeck_typed.specs.declared.reader.Role.TheVariants as role
use Rattle.rx_typeck_typed.specs.Steps.{Outcome, on_ok, Reading, Step, gives, and_then, in_front, an_entry, first, others, occurs}
use Rattle.rx_typeck_typed.specs.Written.{lifetimes_of, elided, all_elided, one_listed, left_by, listed, as_many, lifetimes_at, lifetime_at, pointing, named_of, type_of, types_of}
use Rattle.rx_typeck_typed.specs.Items.{begins, field_of, fields_of, variant_of, variants_of, is_among, used, all_used, derives_copy, bounded, bounds_of, entry_of, parameters_of, the_only, answer_of, declared_item, declared_items, entries_of}
use Rattle.rx_typeck_typed.specs.Limits.{item_fits, fits_at, all_fit, place_of, Limited}
use Rattle.rx_typeck_typed.specs.Programs.{may_derive, holds_copies, derived_at, derived, all_derived, main_of, is_bare, main_fits, Fits, derived_wrong, past_limit, main_wrong, Declares, Wrong, in_types, unfit}
use Rattle.rx_resolve_names.specs.Meant.{number}

-- ---- faults

-- no want of memory
abbrev Told : {A : Type 0} → Outcome A → Type 0
Told (Ok a) = Unit {0}
Told (Err e) = e ≢ fault.OutOfMemory

mismatch_told : (s : Span) (r : Rule) → fault.Mismatch s r ≢ fault.OutOfMemory
mismatch_told s r e = cc

elision_told : (s : Span) → fault.Elision s ≢ fault.OutOfMemory
elision_told s e = cc

on_ok_told : {A B : Type 0} (o : Outcome A) (f : A → Outcome B) → Told o → ((a : A) → Told (f a)) → Told (on_ok o f)
on_ok_told (Ok a) f h k = k a
on_ok_told (Err e) f h k = h

abbrev if_ok : Bool → DeclareFault → Outcome (Unit {0})
if_ok b x = if b then Ok tt else Err x

abbrev StepTold : {A : Type 0} → Step A → Type 0
StepTold f = (r : Reading) → Told (f r)

and_then_told : {A B : Type 0} (f : Step A) (g : A → Step B) → StepTold f → ((a : A) → StepTold (g a)) → StepTold (and_then f g)
and_then_told f g p q r = on_ok_told (f r) (λ x. g x.0 x.1) (p r) (λ x. q x.0 x.1)

in_front_told : {A : Type 0} (f : Step A) (g : Step (List A)) → StepTold f → StepTold g → StepTold (in_front f g)
in_front_told f g p q = and_then_told f (λ a. and_then g (λ more. gives (a ∷ more))) p (λ a. and_then_told g (λ more. gives (a ∷ more)) q (λ more r. tt))

if_told : (b : Bool) (x : DeclareFault) → x ≢ fault.OutOfMemory → Told (if_ok b x)
if_told true x h = tt
if_told false x h = h

entry_told : StepTold an_entry
entry_told r = tt

occurs_told : (l : ℕ) → StepTold (occurs l)
occurs_told l r = tt

-- ---- types

elided_told : (e : Role) (s : Span) → StepTold (elided e s)
elided_told role.Field s r = elision_told s
elided_told role.Parameter s r = tt
elided_told (role.Answer None) s r = elision_told s
elided_told (role.Answer (Some l)) s r = tt
elided_told (role.Let l) s r = tt

all_elided_told : (e : Role) (s : Span) (ds : List Ident) → StepTold (all_elided e s ds)
all_elided_told e s [] = λ r. tt
all_elided_told e s (d ∷ ds) = in_front_told (elided e s) (all_elided e s ds) (elided_told e s) (all_elided_told e s ds)

one_listed_told : (e : Role) (s : Span) (l : Option Ident) (ns : List ℕ) → StepTold (one_listed e s l ns)
one_listed_told e s None ns = elided_told e s
one_listed_told e s (Some x) ns = occurs_told (first ns)

listed_told : (e : Role) (s : Span) (ls : List (Option Ident)) (ns : List ℕ) → StepTold (listed e s ls ns)
listed_told e s [] ns = λ r. tt
listed_told e s (l ∷ ls) ns = in_front_told (one_listed e s l ns) (listed e s ls (left_by l ns)) (one_listed_told e s l ns) (listed_told e s ls (left_by l ns))

as_many_told : (e : Role) (s : Span) (ds : List Ident) (ls : List (Option Ident)) → Told (as_many e s ds ls)
as_many_told role.Field s ds ls = if_told (nat_eq (length ls) (length ds)) (fault.Mismatch s Rule.Lifetimes) (mismatch_told s Rule.Lifetimes)
as_many_told role.Parameter s ds ls = tt
as_many_told (role.Answer l) s ds ls = tt
as_many_told (role.Let l) s ds ls = tt

lifetimes_at_told : (e : Role) (s : Span) (ds : List Ident) (o : Option (List (Option Ident))) (ns : List ℕ) → StepTold (lifetimes_at e s ds o ns)
lifetimes_at_told e s ds None ns r = all_elided_told e s ds r
lifetimes_at_told e s ds (Some ls) ns r = on_ok_told (as_many e s ds ls) (λ _. listed e s ls ns r) (as_many_told e s ds ls) (λ _. listed_told e s ls ns r)

lifetime_at_told : (e : Role) (s : Span) (l : Option Ident) → StepTold (lifetime_at e s l)
lifetime_at_told e s None = elided_told e s
lifetime_at_told e s (Some l) = and_then_told an_entry (λ ns. occurs (first ns)) entry_told (λ ns. occurs_told (first ns))

named_told : (p : ProgramTree) (e : Role) (s : Span) (ls : Option (List (Option Ident))) → StepTold (named_of p e s ls)
named_told p e s ls =
    and_then_told an_entry (λ ns. and_then (lifetimes_at e s (lifetimes_of (slice_get p (first ns))) ls (others ns)) (λ ls. gives (ty.Adt (first ns) ls))) entry_told (λ ns.
    and_then_told (lifetimes_at e s (lifetimes_of (slice_get p (first ns))) ls (others ns)) (λ ls. gives (ty.Adt (first ns) ls))
    (lifetimes_at_told e s (lifetimes_of (slice_get p (first ns))) ls (others ns)) (λ ls r. tt))

mutual
  type_told : (p : ProgramTree) (e : Role) (t : TypeTree) → StepTold (type_of p e t)
  type_told p e (plain.kind_type s k) = λ r. tt
  type_told p e (plain.bool_type s) = λ r. tt
  type_told p e (plain.tuple_type s ts) = and_then_told (types_of p e ts) (λ ts. gives (ty.Tuple ts)) (types_told p e ts) (λ ts r. tt)
  type_told p e (plain.ref_type s l m t) = and_then_told (lifetime_at e s l) (λ l. and_then (type_of p e t) (λ t. gives (pointing m l t))) (lifetime_at_told e s l) (λ l.
      and_then_told (type_of p e t) (λ t. gives (pointing m l t)) (type_told p e t) (λ t r. tt))
  type_told p e (plain.named_type s x ls) = named_told p e s ls

  types_told : (p : ProgramTree) (e : Role) (ts : TypeTrees) → StepTold (types_of p e ts)
  types_told p e plain.no_type = λ r. tt
  types_told p e (plain.type_and t ts) = in_front_told (type_of p e t) (types_of p e ts) (type_told p e t) (types_told p e ts)

-- ---- items

fields_told : (p : ProgramTree) (fs : List FieldOf) → StepTold (fields_of p fs)
fields_told p [] = λ r. tt
fields_told p (f ∷ fs) = in_front_told (field_of p f) (fields_of p fs)
    (and_then_told (type_of p role.Field f.typ) (λ t. gives (record { name = f.name.name; ty = t })) (type_told p role.Field f.typ) (λ t r. tt)) (fields_told p fs)

variants_told : (p : ProgramTree) (vs : List VariantOf) → StepTold (variants_of p vs)
variants_told p [] = λ r. tt
variants_told p (v ∷ vs) = in_front_told (variant_of p v) (variants_of p vs)
    (and_then_told (types_of p role.Field v.types) (λ ts. gives (record { name = v.name.name; parts = ts })) (types_told p role.Field v.types) (λ ts r. tt)) (variants_told p vs)

all_used_told : (n : ℕ) (xs : List Ident) (ls : List ℕ) → Told (all_used n xs ls)
all_used_told n [] ls = tt
all_used_told n (x ∷ xs) ls = on_ok_told (used n x ls) (λ _. all_used (suc n) xs ls)
    (if_told (is_among (number n) ls) (fault.Mismatch x.span Rule.Unused) (mismatch_told x.span Rule.Unused)) (λ _. all_used_told (suc n) xs ls)

entry_of_told : (ls : List ℕ) (xs : List Parameter) → StepTold (entry_of ls xs)
entry_of_told [] [] = λ r. tt
entry_of_told (l ∷ ls) xs = entry_told
entry_of_told [] (x ∷ xs) = entry_told

parameters_told : (p : ProgramTree) (xs : List Parameter) → StepTold (parameters_of p xs)
parameters_told p [] = λ r. tt
parameters_told p (x ∷ xs) = in_front_told (type_of p role.Parameter x.typ) (parameters_of p xs) (type_told p role.Parameter x.typ) (parameters_told p xs)

answer_told : (p : ProgramTree) (t : Option TypeTree) → StepTold (answer_of p t)
answer_told p None r = tt
answer_told p (Some t) r = type_told p (role.Answer (the_only r.lifetimes)) t r

item_told : (p : ProgramTree) (ns : List NodeNames) (i : ItemTree) → Told (declared_item p ns i)
item_told p ns (plain.rt_item s r) = tt
item_told p ns (plain.struct_item s d) =
    on_ok_told (fields_of p d.fields (begins ns 0)) (λ r. on_ok (all_used 0 d.lifetimes r.1.lifetimes) (λ _. Ok (decl.Struct (derives_copy d.derives) (number (length d.lifetimes)) [] r.0)))
    (fields_told p d.fields (begins ns 0)) (λ r.
    on_ok_told (all_used 0 d.lifetimes r.1.lifetimes) (λ _. Ok (decl.Struct (derives_copy d.derives) (number (length d.lifetimes)) [] r.0)) (all_used_told 0 d.lifetimes r.1.lifetimes) (λ _. tt))
item_told p ns (plain.enum_item s d) =
    on_ok_told (variants_of p d.variants (begins ns 0)) (λ r. on_ok (all_used 0 d.lifetimes r.1.lifetimes) (λ _. Ok (decl.Enum (derives_copy d.derives) (number (length d.lifetimes)) [] r.0)))
    (variants_told p d.variants (begins ns 0)) (λ r.
    on_ok_told (all_used 0 d.lifetimes r.1.lifetimes) (λ _. Ok (decl.Enum (derives_copy d.derives) (number (length d.lifetimes)) [] r.0)) (all_used_told 0 d.lifetimes r.1.lifetimes) (λ _. tt))
item_told p ns (plain.function_item s f) =
    let b = begins ns (number (length f.lifetimes)) in
    on_ok_told (entry_of (bounded 0 f.lifetimes) f.params b)
    (λ e. on_ok (parameters_of p f.params e.1) (λ ps. on_ok (answer_of p f.result ps.1) (λ a. Ok (decl.Func ps.1.next ps.0 a.0 (bounds_of (bounded 0 f.lifetimes) e.0)))))
    (entry_of_told (bounded 0 f.lifetimes) f.params b) (λ e.
    on_ok_told (parameters_of p f.params e.1) (λ ps. on_ok (answer_of p f.result ps.1) (λ a. Ok (decl.Func ps.1.next ps.0 a.0 (bounds_of (bounded 0 f.lifetimes) e.0))))
    (parameters_told p f.params e.1) (λ ps.
    on_ok_told (answer_of p f.result ps.1) (λ a. Ok (decl.Func ps.1.next ps.0 a.0 (bounds_of (bounded 0 f.lifetimes) e.0))) (answer_told p f.result ps.1) (λ a. tt)))

items_told : (p : ProgramTree) (ns : List ItemNames) (n : ℕ) (is : ProgramTree) → Told (declared_items p ns n is)
items_told p ns n [] = tt
items_told p ns n (i ∷ is) =
    on_ok_told (declared_item p (entries_of (slice_get ns n)) i) (λ d. on_ok (declared_items p ns (suc n) is) (λ ds. Ok (d ∷ ds))) (item_told p (entries_of (slice_get ns n)) i) (λ d.
    on_ok_told (declared_items p ns (suc n) is) (λ ds. Ok (d ∷ ds)) (items_told p ns (suc n) is) (λ ds. tt))

-- as many as the items
so_many : (p : ProgramTree) (ns : List ItemNames) (n : ℕ) (is : ProgramTree) (ds : List Decl) → declared_items p ns n is ≡ Ok ds → length ds ≡ length is
so_many p ns n [] ds e = let h : [] ≡ ds = cc in ap (λ (l : List Decl). length l) (sym h)
so_many p ns n (i ∷ is) ds e = by (declared_item p (entries_of (slice_get ns n)) i) (declared_items p ns (suc n) is) (λ es q. so_many p ns (suc n) is es q) refl e
  where
    by : (o : Outcome Decl) (m : Outcome (List Decl)) → ((es : List Decl) → declared_items p ns (suc n) is ≡ Ok es → length es ≡ length is) → declared_items p ns (suc n) is ≡ m
        → on_ok o (λ d. on_ok m (λ ds. Ok (d ∷ ds))) ≡ Ok ds → length ds ≡ suc (length is)
    by (Err x) m h q e = absurd (cc)
    by (Ok d) (Err x) h q e = absurd (cc)
    by (Ok d) (Ok es) h q e = let k : d ∷ es ≡ ds = cc in ap (λ (l : List Decl). length l) (sym k) ∙ ap suc (h es q)

-- ---- what is asked of all

derived_at_told : (s : Span) (b : Bool) → Told (derived_at s b)
derived_at_told s true = tt
derived_at_told s false = mismatch_told s Rule.CopyOf

all_derived_told : (D : Declarations) (n : ℕ) (is : ProgramTree) → Told (all_derived D n is)
all_derived_told D n [] = tt
all_derived_told D n (i ∷ is) = on_ok_told (derived D (slice_get D n) i) (λ _. all_derived D (suc n) is) (by i) (λ _. all_derived_told D (suc n) is)
  where
    by : (i : ItemTree) → Told (derived D (slice_get D n) i)
    by (plain.rt_item s r) = tt
    by (plain.struct_item s d) = derived_at_told d.name.span (may_derive d.derives (holds_copies D (slice_get D n)))
    by (plain.enum_item s d) = derived_at_told d.name.span (may_derive d.derives (holds_copies D (slice_get D n)))
    by (plain.function_item s f) = tt

fits_at_told : (s : Span) (b : Bool) → Told (fits_at s b)
fits_at_told s true = tt
fits_at_told s false = mismatch_told s Rule.Parts

all_fit_told : (P : ℕ → ℕ) (D : Declarations) (n : ℕ) (is : ProgramTree) → Told (all_fit P D n is)
all_fit_told P D n [] = tt
all_fit_told P D n (i ∷ is) = on_ok_told (fits_at (name_span i) (item_fits (P n) (slice_get D n))) (λ _. all_fit P D (suc n) is) (fits_at_told (name_span i) (item_fits (P n) (slice_get D n))) (λ _. all_fit_told P D (suc n) is)

main_told : (s : Span) (o : Option Function) → Told (main_fits s o)
main_told s None = mismatch_told s Rule.Main
main_told s (Some f) = if_told (is_bare f) (fault.Mismatch f.name.span Rule.Main) (mismatch_told f.name.span Rule.Main)

-- ---- parts

abbrev table : (ℕ → ℕ) → ℕ → ℕ → List ℕ
table P i zero = []
table P i (suc n) = capped (P i) ∷ table P (suc i) n

table_length : (P : ℕ → ℕ) (i n : ℕ) → length (table P i n) ≡ n
table_length P i zero = refl
table_length P i (suc n) = ap suc (table_length P (suc i) n)

table_at : (P : ℕ → ℕ) (i n k : ℕ) → k < n → slice_get (table P i n) k ≡ Some (capped (P (i + k)))
table_at P i zero k l = absurd (omega (arith, l))
table_at P i (suc n) zero l = let e : i + 0 ≡ i = omega arith in ap (λ j. Some (capped (P j))) (sym e)
table_at P i (suc n) (suc k) l = let e : suc i + k ≡ i + suc k = omega arith in table_at P (suc i) n k (omega (arith, l)) ∙ ap (λ j. Some (capped (P j))) e

fun_ext : (f g : ℕ → ℕ) → ((x : ℕ) → f x ≡ g x) → f ≡ g
fun_ext f g h = λ i x. h x i

-- each struct and enum has one number of parts, where none reaches itself
module _ (some : (D : Declarations) → NoCycle (held_by_each D) → (P : ℕ → ℕ) × Sized D P) (one : (D : Declarations) (P Q : ℕ → ℕ) → NoCycle (held_by_each D) → Sized D P → Sized D Q → (i : ℕ) → P i ≡ Q i) where
  abbrev pub SomeSizes : Declarations → Type 0
  SomeSizes D = (sizes : List ℕ) × IsSizes D sizes

  some_sizes : (D : Declarations) → NoCycle (held_by_each D) → SomeSizes D
  some_sizes D none = let s = some D none in (
    table s.0 0 (length D),
    record {
      whole = table_length s.0 0 (length D);
      each = λ Q q i l. let e : 0 + i ≡ i = omega arith in table_at s.0 0 (length D) i l ∙ ap (λ j. Some (capped (s.0 j))) e ∙ ap (λ n. Some (capped n)) (one D s.0 Q none s.1 q i);
    },
  )

  limited : (p : ProgramTree) (D : Declarations) → (o : Outcome (Unit {0})) × (Limited p D o × Told o)
  limited p D = by (first_on_cycle (held_by_each D))
    where
      endless : (n : ℕ) → FirstOnCycle (held_by_each D) (Some n) → (o : Outcome (Unit {0})) × (Limited p D o × Told o)
      endless n f = (
        fits_at (place_of (slice_get p n)) false,
        (
          record {
            endless = λ m g. ap (λ k. fits_at (place_of (slice_get p k)) false) (one_first (held_by_each D) n m f g);
            each = λ none P s. absurd (none n f.0);
          },
          fits_at_told (place_of (slice_get p n)) false,
        ),
      )

      finite : NoCycle (held_by_each D) → (o : Outcome (Unit {0})) × (Limited p D o × Told o)
      finite none = let s = some D none in (
        all_fit s.0 D 0 p,
        (
          record {
            endless = λ n f. absurd (none n f.0);
            each = λ none' Q q. ap (λ P. all_fit P D 0 p) (fun_ext s.0 Q (one D s.0 Q none s.1 q));
          },
          all_fit_told s.0 D 0 p,
        ),
      )

      by : (o : Option ℕ) × FirstOnCycle (held_by_each D) o → (o : Outcome (Unit {0})) × (Limited p D o × Told o)
      by (None, none) = finite none
      by (Some n, f) = endless n f

  -- what is declared, with a table of parts
  abbrev pub Declared : ProgramTree → List ItemNames → Type 0
  Declared p ns = (ds : List Decl) × (Declares p ns ds × SomeSizes (declarations ds))

  abbrev pub Misdeclared : ProgramTree → List ItemNames → Type 0
  Misdeclared p ns = (e : DeclareFault) × ((e ≢ fault.OutOfMemory) × Wrong p ns e)

  module _ (finite : (p : ProgramTree) (D : Declarations) → Fits p D → NoCycle (held_by_each D)) where
    pub declared_or_wrong : (p : ProgramTree) (ns : List ItemNames) → IsNumbered p → Declared p ns ⊎ Misdeclared p ns
    declared_or_wrong p ns numbered = by (declared_items p ns 0 p) refl (items_told p ns 0 p)
      where
        fit : (ds : List Decl) → declared_items p ns 0 p ≡ Ok ds → Fits p (declarations ds) → Declared p ns ⊎ Misdeclared p ns
        fit ds e f = inl (ds, (record { items = e; fits = f }, some_sizes (declarations ds) (finite p (declarations ds) f)))

        few : (ds : List Decl) → declared_items p ns 0 p ≡ Ok ds → length (declarations ds) < 4294967296
        few ds e = let h = so_many p ns 0 p ds e in let n = numbered.items in let m = declared_length ds in omega (arith, h, n, m)
          where
            declared_length : (ds : List Decl) → length (declarations ds) ≡ length ds
            declared_length [] = refl
            declared_length (d ∷ ds) = ap suc (declared_length ds)

        with_main : (ds : List Decl) → declared_items p ns 0 p ≡ Ok ds → all_derived (declarations ds) 0 p ≡ Ok tt → Limited p (declarations ds) (Ok tt)
            → (o : Outcome (Unit {0})) → main_fits (program_span p) (main_of p) ≡ o → Told o → Declared p ns ⊎ Misdeclared p ns
        with_main ds e d l (Ok u) m h = fit ds e (record { numbered = few ds e; derived_well = d; limited = l; has_main = m })
        with_main ds e d l (Err x) m h = inr (x, (h, unfit ds e (main_wrong d l m)))

        with_limits : (ds : List Decl) → declared_items p ns 0 p ≡ Ok ds → all_derived (declarations ds) 0 p ≡ Ok tt → (o : Outcome (Unit {0})) → Limited p (declarations ds) o → Told o
            → Declared p ns ⊎ Misdeclared p ns
        with_limits ds e d (Ok u) l h = with_main ds e d l (main_fits (program_span p) (main_of p)) refl (main_told (program_span p) (main_of p))
        with_limits ds e d (Err x) l h = inr (x, (h, unfit ds e (past_limit d l)))

        with_derives : (ds : List Decl) → declared_items p ns 0 p ≡ Ok ds → (o : Outcome (Unit {0})) → all_derived (declarations ds) 0 p ≡ o → Told o → Declared p ns ⊎ Misdeclared p ns
        with_derives ds e (Ok u) d h = let l = limited p (declarations ds) in with_limits ds e d l.0 l.1.0 l.1.1
        with_derives ds e (Err x) d h = inr (x, (h, unfit ds e (derived_wrong d)))

        by : (o : Outcome (List Decl)) → declared_items p ns 0 p ≡ o → Told o → Declared p ns ⊎ Misdeclared p ns
        by (Ok ds) e h = with_derives ds e (all_derived (declarations ds) 0 p) refl (all_derived_told (declarations ds) 0 p)
        by (Err x) e h = inr (x, (h, in_types e))
