-- Where structs and enums declare as many lifetimes in two programs, an item declares the same in both by the same entries of names.
use Rattle.std.proofs.Common.{◌≡◌, ℕ, List, [], ◌∷◌, length, Option, Some, None, Ok, Err, refl, ap, ◌∙◌, slice_get}
use Rattle.rx_core.specs.declared.types.Ty.TheVariants as ty
use Rattle.rx_tree.specs.Plain as plain
use Rattle.rx_tree.specs.Plain.{TypeTree, TypeTrees, Parameter, Function, FieldOf, VariantOf, ItemTree, ProgramTree}
use Rattle.rx_resolve_names.specs.declared.resolved.NodeNames.{NodeNames}
use Rattle.rx_resolve_names.specs.Meant.{number}
use Rattle.rx_typeck_typed.specs.Steps.{Outcome, on_ok, Reading, gives, and_then, first, others, taken}
use Rattle.rx_typeck_typed.specs.Written.{lifetimes_of, lifetimes_at, lifetime_at, type_of, types_of}
use Rattle.rx_typeck_typed.specs.Items.{begins, fields_of, variants_of, bounded, entry_of, parameters_of, answer_of, declared_function, declared_item}
use Rattle.rx_compact_types.proofs.Roles.{Role}

on_same : {A B : Type 0} {m n : Outcome A} {f g : A → Outcome B} → m ≡ n → ((a : A) → f a ≡ g a) → on_ok m f ≡ on_ok n g
on_same {A = A} {B = B} {n = n} {f = f} {g = g} e h = ap (λ o. on_ok o f) e ∙ by n
  where
    by : (n : Outcome A) → on_ok n f ≡ on_ok n g
    by (Ok a) = h a
    by (Err x) = refl

pub on_more : {A B : Type 0} (m : Outcome A) {f g : A → Outcome B} → ((a : A) → f a ≡ g a) → on_ok m f ≡ on_ok m g
on_more m h = on_same {m = m} refl h

module _ (p q : ProgramTree) (same : (n : ℕ) → lifetimes_of (slice_get q n) ≡ lifetimes_of (slice_get p n)) where
  mutual
    pub type : (t : TypeTree) (e : Role) (r : Reading) → type_of q e t r ≡ type_of p e t r
    type (plain.kind_type s k) e r = refl
    type (plain.bool_type s) e r = refl
    type (plain.tuple_type s ts) e r = on_same (types ts e r) (λ x. refl)
    type (plain.ref_type s l m t) e r = on_more (lifetime_at e s l r) (λ x. on_same (type t e x.1) (λ y. refl))
    type (plain.named_type s x ls) e r =
        let z = taken r.names r in
        ap (λ ds. and_then (lifetimes_at e s ds ls (others z.0)) (λ ls. gives (ty.Adt (first z.0) ls)) z.1) (same (first z.0))

    types : (ts : TypeTrees) (e : Role) (r : Reading) → types_of q e ts r ≡ types_of p e ts r
    types plain.no_type e r = refl
    types (plain.type_and t ts) e r = on_same (type t e r) (λ x. on_same (types ts e x.1) (λ y. refl))

  fields : (fs : List FieldOf) (r : Reading) → fields_of q fs r ≡ fields_of p fs r
  fields [] r = refl
  fields (f ∷ fs) r = on_same (on_same (type f.typ _ r) (λ x. refl)) (λ x. on_same (fields fs x.1) (λ y. refl))

  variants : (vs : List VariantOf) (r : Reading) → variants_of q vs r ≡ variants_of p vs r
  variants [] r = refl
  variants (v ∷ vs) r = on_same (on_same (types v.types _ r) (λ x. refl)) (λ x. on_same (variants vs x.1) (λ y. refl))

  parameters : (xs : List Parameter) (r : Reading) → parameters_of q xs r ≡ parameters_of p xs r
  parameters [] r = refl
  parameters (x ∷ xs) r = on_same (type x.typ _ r) (λ y. on_same (parameters xs y.1) (λ z. refl))

  answer : (t : Option TypeTree) (r : Reading) → answer_of q t r ≡ answer_of p t r
  answer None r = refl
  answer (Some t) r = type t _ r

  function : (ns : List NodeNames) (f : Function) → declared_function q ns f ≡ declared_function p ns f
  function ns f = on_more (entry_of (bounded 0 f.lifetimes) f.params (begins ns (number (length f.lifetimes))))
      (λ e. on_same (parameters f.params e.1) (λ ps. on_same (answer f.result ps.1) (λ a. refl)))

  pub item : (ns : List NodeNames) (x : ItemTree) → declared_item q ns x ≡ declared_item p ns x
  item ns (plain.rt_item s r) = refl
  item ns (plain.struct_item s d) = on_same (fields d.fields (begins ns 0)) (λ r. refl)
  item ns (plain.enum_item s d) = on_same (variants d.variants (begins ns 0)) (λ r. refl)
  item ns (plain.function_item s f) = function ns f
