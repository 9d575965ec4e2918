-- A program that is equal apart from spans declares the same, item by item.
use Rattle.std.proofs.Common.{◌≡◌, ℕ, zero, suc, Bool, true, false, ◌&&◌, nat_eq, if◌then◌else◌, List, [], ◌∷◌, ◌++◌, length, map, Option, Some, None, Ok, Err, option_map, slice_get, is_none, refl, sym, ap, subst, ◌∙◌}
use Rattle.rx_core.specs.declared.types.Bound.{Bound}
use Rattle.rx_core.specs.declared.types.Span.{Span}
use Rattle.rx_core.specs.declared.types.Ty.{Ty}
use Rattle.rx_core.specs.declared.types.Ty.TheVariants as ty
use Rattle.rx_tree.specs.declared.tree.BoundLifetime.{BoundLifetime}
use Rattle.rx_tree.specs.declared.tree.Derive.{Derive}
use Rattle.rx_tree.specs.declared.tree.Ident.{Ident}
use Rattle.rx_tree.specs.Plain as plain
use Rattle.rx_tree.specs.Plain.{Enumeration, FieldOf, Function, ItemTree, Parameter, ProgramTree, Structure, TypeTree, TypeTrees, VariantOf}
use Rattle.rx_tree.specs.Erase.{erase_enumeration, erase_field, erase_function, erase_ident, erase_item, erase_label, erase_lifetime, erase_parameter, erase_program, erase_structure, erase_type, erase_types, erase_variant, nowhere}
use Rattle.rx_resolve_names.specs.Meant.{number}
use Rattle.rx_resolve_names.specs.declared.resolved.ItemNames.{ItemNames}
use Rattle.rx_resolve_names.specs.declared.resolved.NodeNames.{NodeNames}
use Rattle.rx_typed.specs.declared.declarations.Decl.{Decl}
use Rattle.rx_typed.specs.declared.declarations.Decl.TheVariants as decl
use Rattle.rx_typed.specs.declared.declarations.FieldDecl.{FieldDecl}
use Rattle.rx_typed.specs.declared.declarations.VariantDecl.{VariantDecl}
use Rattle.rx_typeck_typed.specs.declared.fault.DeclareFault.{DeclareFault}
use Rattle.rx_typeck_typed.specs.Steps.{an_entry, and_then, first, gives, in_front, occurs, on_ok, others, Outcome, Reading, Step}
use Rattle.rx_typeck_typed.specs.Written.{all_elided, as_many, elided, left_by, lifetime_at, lifetimes_at, lifetimes_of, listed, named_of, one_listed, pointing, type_of, types_of}
use Rattle.rx_typeck_typed.specs.Lets.{let_type, read}
use Rattle.rx_typeck_typed.specs.Items.{all_used, answer_of, begins, bounded, bounds_of, declared_enum, declared_function, declared_item, declared_items, declared_struct, derives_copy, entries_of, entry_of, field_of, fields_of, one_each, parameters_of, the_only, used, variant_of, variants_of}
use Rattle.rx_typeck_typed.specs.Items as items
use Rattle.rx_check_laws.proofs.Cursors.{ap2}

-- ---- what comes of it, apart from places that a fault names

pub data Agrees {A : Type 0} : Outcome A → Outcome A → Type 0 where
  both_well : {a : A} → Agrees (Ok a) (Ok a)
  both_wrong : {e e' : DeclareFault} → Agrees (Err e) (Err e')

abbrev pub Like : {A : Type 0} → Step A → Step A → Type 0
Like f g = (r : Reading) → Agrees (f r) (g r)

pub on_like : {A B : Type 0} (r r' : Outcome A) (k k' : A → Outcome B) → Agrees r r' → ((a : A) → Agrees (k a) (k' a)) → Agrees (on_ok r k) (on_ok r' k')
on_like _ _ k k' (both_well {a = a}) g = g a
on_like _ _ k k' both_wrong g = both_wrong

pub itself : {A : Type 0} (r : Outcome A) → Agrees r r
itself (Ok a) = both_well
itself (Err e) = both_wrong

pub well_there : {A : Type 0} {r r' : Outcome A} (a : A) → Agrees r r' → r ≡ Ok a → r' ≡ Ok a
well_there a both_well e = e
well_there a both_wrong e = absurd (ok_differs e)
  where
    ok_differs : {B : Type 0} {f : DeclareFault} {b : B} → Err f ≡ Ok b → ⊥
    ok_differs q = cc

pub turned : {A : Type 0} {r r' : Outcome A} → Agrees r r' → Agrees r' r
turned both_well = both_well
turned both_wrong = both_wrong

then_like : {A B : Type 0} (f g : Step A) (k k' : A → Step B) → Like f g → ((a : A) → Like (k a) (k' a)) → Like (and_then f k) (and_then g k')
then_like f g k k' h j r = on_like (f r) (g r) (λ p. k p.0 p.1) (λ p. k' p.0 p.1) (h r) (λ p. j p.0 p.1)

front_like : {A : Type 0} (f f' : Step A) (g g' : Step (List A)) → Like f f' → Like g g' → Like (in_front f g) (in_front f' g')
front_like f f' g g' h k = then_like f f' _ _ h (λ a. then_like g g' _ _ k (λ more r. both_well))

same : {A : Type 0} (f : Step A) → Like f f
same f r = itself (f r)

-- ---- types

abbrev domain : {R S : Type 0} → (R → S) → Type 0
domain {R} {S} f = R

-- where a type stands
abbrev pub Role : Type 0
Role = domain elided

pub record Alike (e : Role) : Type 0 where
  pub elides : (s t : Span) → Like (elided e s) (elided e t)
  pub counts : (s t : Span) (ds : List Ident) (ls : List (Option Ident)) → Agrees (as_many e s ds ls) (as_many e t (map erase_ident ds) (map erase_label ls))

abbrev reading : List NodeNames → List ℕ → ℕ → Reading
reading ns ls k = record { names = ns; lifetimes = ls; next = k }

abbrev in_field : (F : Role) × ((p : ProgramTree) (f : FieldOf) → field_of p f ≡ and_then (type_of p F f.typ) (λ t. gives (record { name = f.name.name; ty = t })))
in_field = (_, λ p f. refl)

abbrev in_parameter : (F : Role) × ((p : ProgramTree) (x : Parameter) → parameters_of p (x ∷ []) ≡ in_front (type_of p F x.typ) (gives []))
in_parameter = (_, λ p x. refl)

abbrev with_one : (F : ℕ → Role) × ((p : ProgramTree) (y : TypeTree) (n k : ℕ) (ns : List NodeNames) → answer_of p (Some y) (reading ns (n ∷ []) k) ≡ type_of p (F n) y (reading ns (n ∷ []) k))
with_one = (λ n. _, λ p y n k ns. refl)

abbrev with_none : (F : Role) × ((p : ProgramTree) (y : TypeTree) (k : ℕ) (ns : List NodeNames) → answer_of p (Some y) (reading ns [] k) ≡ type_of p F y (reading ns [] k))
with_none = (_, λ p y k ns. refl)

abbrev pub in_let : (F : ℕ → Role) × ((p : ProgramTree) (free : ℕ) (y : TypeTree) (ns : List NodeNames) → let_type p free y ns ≡ read (type_of p (F free) y (begins ns free)))
in_let = (λ l. _, λ p free y ns. refl)

abbrev in_answer : Option ℕ → Role
in_answer None = with_none.0
in_answer (Some l) = with_one.0 l

answer_is : (p : ProgramTree) (y : TypeTree) (ns : List NodeNames) (ls : List ℕ) (k : ℕ) (o : Option ℕ) → the_only ls ≡ o → answer_of p (Some y) (reading ns ls k) ≡ type_of p (in_answer o) y (reading ns ls k)
answer_is p y ns ls k None e = cc
answer_is p y ns ls k (Some l) e = cc

pub fits_like : (b : Bool) (e e' : DeclareFault) → Agrees {A = Unit {0}} (if b then Ok tt else Err e) (if b then Ok tt else Err e')
fits_like true e e' = both_well
fits_like false e e' = both_wrong

pub many : {A B : Type 0} (f : A → B) (xs : List A) → length (map f xs) ≡ length xs
many f [] = refl
many f (x ∷ xs) = ap suc (many f xs)

counted_like : (m m' n n' : ℕ) (e e' : DeclareFault) → m ≡ m' → n ≡ n' → Agrees {A = Unit {0}} (if nat_eq m n then Ok tt else Err e) (if nat_eq m' n' then Ok tt else Err e')
counted_like m m' n n' e e' h k = subst (λ (b : Bool). Agrees {A = Unit {0}} (if nat_eq m n then Ok tt else Err e) (if b then Ok tt else Err e')) (ap2 nat_eq h k) (fits_like (nat_eq m n) e e')

field_alike : Alike in_field.0
field_alike = record { elides = λ s t r. both_wrong; counts = λ s t ds ls. counted_like (length ls) (length (map erase_label ls)) (length ds) (length (map erase_ident ds)) _ _ (sym (many erase_label ls)) (sym (many erase_ident ds)) }

parameter_alike : Alike in_parameter.0
parameter_alike = record { elides = λ s t r. itself _; counts = λ s t ds ls. both_well }

answer_alike : (o : Option ℕ) → Alike (in_answer o)
answer_alike None = record { elides = λ s t r. both_wrong; counts = λ s t ds ls. both_well }
answer_alike (Some l) = record { elides = λ s t r. itself _; counts = λ s t ds ls. both_well }

pub let_alike : (l : ℕ) → Alike (in_let.0 l)
let_alike l = record { elides = λ s t r. itself _; counts = λ s t ds ls. both_well }

all_elided_like : (e : Role) → Alike e → (s t : Span) (ds : List Ident) → Like (all_elided e s ds) (all_elided e t (map erase_ident ds))
all_elided_like e a s t [] = same _
all_elided_like e a s t (d ∷ ds) = front_like _ _ _ _ (a.elides s t) (all_elided_like e a s t ds)

one_like : (e : Role) → Alike e → (s t : Span) (l : Option Ident) (ns : List ℕ) → Like (one_listed e s l ns) (one_listed e t (erase_label l) ns)
one_like e a s t None ns = a.elides s t
one_like e a s t (Some x) ns = same _

left_same : (l : Option Ident) (ns : List ℕ) → left_by (erase_label l) ns ≡ left_by l ns
left_same None ns = refl
left_same (Some x) ns = refl

listed_like : (e : Role) → Alike e → (s t : Span) (ls : List (Option Ident)) (ns : List ℕ) → Like (listed e s ls ns) (listed e t (map erase_label ls) ns)
listed_like e a s t [] ns = same _
listed_like e a s t (l ∷ ls) ns = front_like _ _ _ _ (one_like e a s t l ns) (subst (λ (ms : List ℕ). Like (listed e s ls (left_by l ns)) (listed e t (map erase_label ls) ms)) (sym (left_same l ns)) (listed_like e a s t ls (left_by l ns)))

lifetimes_like : (e : Role) → Alike e → (s t : Span) (ds : List Ident) (o : Option (List (Option Ident))) (ns : List ℕ) → Like (lifetimes_at e s ds o ns) (lifetimes_at e t (map erase_ident ds) (option_map (map erase_label) o) ns)
lifetimes_like e a s t ds None ns r = all_elided_like e a s t ds r
lifetimes_like e a s t ds (Some ls) ns r = on_like (as_many e s ds ls) (as_many e t (map erase_ident ds) (map erase_label ls)) _ _ (a.counts s t ds ls) (λ u. listed_like e a s t ls ns r)

lifetime_like : (e : Role) → Alike e → (s t : Span) (l : Option Ident) → Like (lifetime_at e s l) (lifetime_at e t (erase_label l))
lifetime_like e a s t None = a.elides s t
lifetime_like e a s t (Some l) = same _

there : (p : ProgramTree) (n : ℕ) → slice_get (erase_program p) n ≡ option_map erase_item (slice_get p n)
there [] n = refl
there (i ∷ p) zero = refl
there (i ∷ p) (suc n) = there p n

of_erased : (o : Option ItemTree) → lifetimes_of (option_map erase_item o) ≡ map erase_ident (lifetimes_of o)
of_erased None = refl
of_erased (Some (plain.rt_item s r)) = refl
of_erased (Some (plain.struct_item s d)) = refl
of_erased (Some (plain.enum_item s d)) = refl
of_erased (Some (plain.function_item s f)) = refl

module _ (P : ProgramTree) where
  declared_there : (n : ℕ) → map erase_ident (lifetimes_of (slice_get P n)) ≡ lifetimes_of (slice_get (erase_program P) n)
  declared_there n = sym (of_erased (slice_get P n)) ∙ ap lifetimes_of (sym (there P n))

  named_like : (e : Role) → Alike e → (s t : Span) (ls : Option (List (Option Ident))) → Like (named_of P e s ls) (named_of (erase_program P) e t (option_map (map erase_label) ls))
  named_like e a s t ls = then_like an_entry an_entry _ _ (same an_entry) (λ ns. then_like _ _ _ _
      (subst (λ (ds : List Ident). Like (lifetimes_at e s (lifetimes_of (slice_get P (first ns))) ls (others ns)) (lifetimes_at e t ds (option_map (map erase_label) ls) (others ns))) (declared_there (first ns)) (lifetimes_like e a s t (lifetimes_of (slice_get P (first ns))) ls (others ns)))
      (λ more. same (gives (ty.Adt (first ns) more))))

  mutual
    pub type_like : (e : Role) → Alike e → (t : TypeTree) → Like (type_of P e t) (type_of (erase_program P) e (erase_type t))
    type_like e a (plain.kind_type s k) = same _
    type_like e a (plain.bool_type s) = same _
    type_like e a (plain.tuple_type s ts) = then_like _ _ _ _ (types_like e a ts) (λ us. same (gives (ty.Tuple us)))
    type_like e a (plain.ref_type s l m t) = then_like _ _ _ _ (lifetime_like e a s nowhere l) (λ k. then_like _ _ _ _ (type_like e a t) (λ u. same (gives (pointing m k u))))
    type_like e a (plain.named_type s x ls) = named_like e a s nowhere ls

    pub types_like : (e : Role) → Alike e → (ts : TypeTrees) → Like (types_of P e ts) (types_of (erase_program P) e (erase_types ts))
    types_like e a plain.no_type = same _
    types_like e a (plain.type_and t ts) = front_like _ _ _ _ (type_like e a t) (types_like e a ts)

  -- ---- items

  field_like : (f : FieldOf) → Like (field_of P f) (field_of (erase_program P) (erase_field f))
  field_like f = then_like _ _ _ _ (type_like in_field.0 field_alike f.typ) (λ t. same (gives (record { name = f.name.name; ty = t })))

  fields_like : (fs : List FieldOf) → Like (fields_of P fs) (fields_of (erase_program P) (map erase_field fs))
  fields_like [] = same _
  fields_like (f ∷ fs) = front_like _ _ _ _ (field_like f) (fields_like fs)

  variant_like : (v : VariantOf) → Like (variant_of P v) (variant_of (erase_program P) (erase_variant v))
  variant_like v = then_like _ _ _ _ (types_like in_field.0 field_alike v.types) (λ ts. same (gives (record { name = v.name.name; parts = ts })))

  variants_like : (vs : List VariantOf) → Like (variants_of P vs) (variants_of (erase_program P) (map erase_variant vs))
  variants_like [] = same _
  variants_like (v ∷ vs) = front_like _ _ _ _ (variant_like v) (variants_like vs)

  used_like : (n : ℕ) (ds : List Ident) (ls : List ℕ) → Agrees (all_used n ds ls) (all_used n (map erase_ident ds) ls)
  used_like n [] ls = both_well
  used_like n (d ∷ ds) ls = on_like (used n d ls) (used n (erase_ident d) ls) _ _ (fits_like (items.is_among (number n) ls) _ _) (λ u. used_like (suc n) ds ls)

  struct_like : (ns : List NodeNames) (d : Structure) → Agrees (declared_struct P ns d) (declared_struct (erase_program P) ns (erase_structure d))
  struct_like ns d = on_like _ _ _ _ (fields_like d.fields (begins ns 0)) (λ r. on_like _ _ _ _ (used_like 0 d.lifetimes r.1.lifetimes)
      (λ u. subst (λ (n : ℕ). Agrees (Ok (decl.Struct (derives_copy d.derives) (number (length d.lifetimes)) [] r.0)) (Ok (decl.Struct (derives_copy d.derives) (number n) [] r.0))) (sym (many erase_ident d.lifetimes)) both_well))

  enum_like : (ns : List NodeNames) (d : Enumeration) → Agrees (declared_enum P ns d) (declared_enum (erase_program P) ns (erase_enumeration d))
  enum_like ns d = on_like _ _ _ _ (variants_like d.variants (begins ns 0)) (λ r. on_like _ _ _ _ (used_like 0 d.lifetimes r.1.lifetimes)
      (λ u. subst (λ (n : ℕ). Agrees (Ok (decl.Enum (derives_copy d.derives) (number (length d.lifetimes)) [] r.0)) (Ok (decl.Enum (derives_copy d.derives) (number n) [] r.0))) (sym (many erase_ident d.lifetimes)) both_well))

  parameters_like : (xs : List Parameter) → Like (parameters_of P xs) (parameters_of (erase_program P) (map erase_parameter xs))
  parameters_like [] = same _
  parameters_like (x ∷ xs) = front_like _ _ _ _ (type_like in_parameter.0 parameter_alike x.typ) (parameters_like xs)

  once : (n : ℕ) (xs : List Ident) → one_each n (map erase_ident xs) ≡ one_each n xs
  once n [] = refl
  once n (x ∷ xs) = ap (λ (ns : List ℕ). n ∷ ns) (once n xs)

  bounded_same : (n : ℕ) (ls : List BoundLifetime) → bounded n (map erase_lifetime ls) ≡ bounded n ls
  bounded_same n [] = refl
  bounded_same n (l ∷ ls) = ap2 (λ (xs ys : List ℕ). xs ++ ys) (once (number n) l.bounds) (bounded_same (suc n) ls)

  entry_like : (ls : List ℕ) (xs : List Parameter) → Like (entry_of ls xs) (entry_of ls (map erase_parameter xs))
  entry_like [] [] = same _
  entry_like (l ∷ ls) xs = same _
  entry_like [] (x ∷ xs) = same _

  answer_like : (o : Option TypeTree) → Like (answer_of P o) (answer_of (erase_program P) (option_map erase_type o))
  answer_like None r = both_well
  answer_like (Some t) r = let o = the_only r.lifetimes in
      subst (λ z. Agrees z (answer_of (erase_program P) (Some (erase_type t)) r)) (sym (answer_is P t r.names r.lifetimes r.next o refl))
      (subst (λ z. Agrees (type_of P (in_answer o) t r) z) (sym (answer_is (erase_program P) (erase_type t) r.names r.lifetimes r.next o refl)) (type_like (in_answer o) (answer_alike o) t r))

  function_like : (ns : List NodeNames) (f : Function) → Agrees (declared_function P ns f) (declared_function (erase_program P) ns (erase_function f))
  function_like ns f = subst (λ (bs : List ℕ). Agrees (declared_function P ns f) (by bs)) (sym (bounded_same 0 f.lifetimes))
      (subst (λ (k : ℕ). Agrees (declared_function P ns f) (at k)) (sym (many erase_lifetime f.lifetimes)) (so (length f.lifetimes)))
    where
      with : ℕ → List ℕ → Outcome Decl
      with k bs = on_ok (entry_of bs (map erase_parameter f.params) (begins ns (number k))) (λ e.
          on_ok (parameters_of (erase_program P) (map erase_parameter f.params) e.1) (λ ps. on_ok (answer_of (erase_program P) (option_map erase_type f.result) ps.1) (λ a.
          Ok (decl.Func ps.1.next ps.0 a.0 (bounds_of bs e.0)))))

      by : List ℕ → Outcome Decl
      by bs = with (length (map erase_lifetime f.lifetimes)) bs

      at : ℕ → Outcome Decl
      at k = with k (bounded 0 f.lifetimes)

      so : (k : ℕ) → Agrees (declared_function P ns f) (at (length f.lifetimes))
      so k = on_like _ _ _ _ (entry_like (bounded 0 f.lifetimes) f.params (begins ns (number (length f.lifetimes)))) (λ e. on_like _ _ _ _ (parameters_like f.params e.1) (λ ps. on_like _ _ _ _ (answer_like f.result ps.1) (λ a. both_well)))

  item_like : (ns : List NodeNames) (i : ItemTree) → Agrees (declared_item P ns i) (declared_item (erase_program P) ns (erase_item i))
  item_like ns (plain.rt_item s r) = both_well
  item_like ns (plain.struct_item s d) = struct_like ns d
  item_like ns (plain.enum_item s d) = enum_like ns d
  item_like ns (plain.function_item s f) = function_like ns f

  pub items_like : (ns : List ItemNames) (n : ℕ) (is : ProgramTree) → Agrees (declared_items P ns n is) (declared_items (erase_program P) ns n (map erase_item is))
  items_like ns n [] = both_well
  items_like ns n (i ∷ is) = on_like _ _ _ _ (item_like (entries_of (slice_get ns n)) i) (λ d. on_like _ _ _ _ (items_like ns (suc n) is) (λ ds. both_well))
