-- A struct or enum is found by its name where no name stands twice: by induction on the items.
use Rattle.std.proofs.lemmas.Slice.Eq.{bytes_eq-Decides}
use Rattle.std.proofs.Common.{◌≡◌, ℕ, zero, suc, ◌+◌, Bool, true, false, if◌then◌else◌, List, [], ◌∷◌, Option, Some, None, Ok, slice_get, refl, sym, ap, ◌∙◌, add-zero, add-suc, suc-add, zero-add}
use Rattle.rx_core.specs.declared.types.Span.{Span}
use Rattle.rx_core.specs.declared.types.Kind.{Kind}
use Rattle.rx_tree.specs.declared.tree.Ident.{Ident}
use Rattle.rx_tree.specs.Lists.{Every}
use Rattle.rx_tree.specs.Plain as plain
use Rattle.rx_tree.specs.Plain.{ItemTree, ProgramTree}
use Rattle.rx_resolve_names.specs.Scopes.{DeclaredNames, declared_as}
use Rattle.rx_resolve_names.specs.declared.resolved.ItemNames.{ItemNames}
use Rattle.rx_resolve_names.specs.Meant.{type_name, function_name, has_name, item_named, as_type}
use Rattle.rx_resolve_names.specs.Steps.{and_then, known, Inside}
use Rattle.rx_resolve_names.specs.Names.{type_in}
use Rattle.rx_resolve_names.specs.Items.{in_items, in_program, Lists, declared_in, apart}
use Rattle.rx_typed.specs.Types as types
use Rattle.rx_typed.specs.Types.{Typ, Shape, Shapes, integer, boolean, tuple_of, reference, no_shape, shape_and}
use Rattle.rx_hoist_extraction.specs.Made.{ident}
use Rattle.rx_hoist_extraction.specs.WrittenTypes.{item_name, name_of}
use Rattle.rx_hoist_extraction.specs.Plan.{Variable}
use Rattle.rx_hoist_naming.specs.Words.{is_type_item, NamesTypes, NameTypes}
use Rattle.rx_engine_names.proofs.SideBySide.{named_ok, the_same}
use Rattle.rx_engine_names.proofs.NoDoubles.{none_pop, behind_none}

-- ---- an item that has a name

-- what is declared later is not declared yet, and has another name than what is declared in between
earlier : (ds new : DeclaredNames) (n : ℕ) (o : Option Ident) (x : List ℕ) → declared_in ds n o ≡ Ok new → declared_as new x ≡ None → (declared_as ds x ≡ None) × (has_name x o ≡ false)
earlier ds new n None x e h = (ap (λ (z : DeclaredNames). declared_as z x) (the_same ds new e) ∙ h, refl)
earlier ds new n (Some y) x e h =
    let b = behind_none ds new y n (declared_as ds y.name) e in
    none_pop ds (y.name, record { number = _; span = y.span }) x (ap (λ (z : DeclaredNames). declared_as z x) (sym b.1) ∙ h)

named_there : (l : Lists) (n i : ℕ) (is : ProgramTree) (j : ItemTree) (y : Ident) → apart l n is ≡ Ok tt → slice_get is i ≡ Some j → type_name j ≡ Some y
    → (declared_as l.types y.name ≡ None) × (item_named type_name n is y.name ≡ Some (n + i, j))
named_there l n i [] j y e at h = absurd (cc)
named_there l n zero (k ∷ is) j y e at h =
    let same : k ≡ j = cc in
    let t : type_name k ≡ Some y = ap type_name same ∙ h in
    let x = named_ok (declared_in l.types n (type_name k)) (λ ts. and_then (declared_in l.functions n (function_name k)) (λ fs. apart (record { types = ts; functions = fs }) (suc n) is)) tt e in
    let b = behind_none l.types x.0 y n (declared_as l.types y.name) (ap (declared_in l.types n) (sym t) ∙ x.1) in (
      b.0,
      ap (λ (o : Option Ident). if has_name y.name o then Some (n, k) else item_named type_name (suc n) is y.name) t
          ∙ ap (λ (b : Bool). if b then Some (n, k) else item_named type_name (suc n) is y.name) ((bytes_eq-Decides y.name y.name).1 refl)
          ∙ ap (λ (z : ItemTree). Some (n, z)) same ∙ ap (λ (m : ℕ). Some (m, j)) (sym (add-zero n)),
    )
named_there l n (suc i) (k ∷ is) j y e at h =
    let x = named_ok (declared_in l.types n (type_name k)) (λ ts. and_then (declared_in l.functions n (function_name k)) (λ fs. apart (record { types = ts; functions = fs }) (suc n) is)) tt e in
    let z = named_ok (declared_in l.functions n (function_name k)) (λ fs. apart (record { types = x.0; functions = fs }) (suc n) is) tt x.2 in
    let r = named_there (record { types = x.0; functions = z.0 }) (suc n) i is j y z.2 at h in
    let b = earlier l.types x.0 n (type_name k) y.name x.1 r.0 in (
      b.0,
      ap (λ (b : Bool). if b then Some (n, k) else item_named type_name (suc n) is y.name) b.1 ∙ r.1 ∙ ap (λ (m : ℕ). Some (m, j)) (suc-add n i ∙ sym (add-suc n i)),
    )

-- ---- a struct or enum

abbrev Found : ProgramTree → ℕ → Type 0
Found P i = as_type (item_named type_name 0 P (name_of P i)) ≡ Some i

found : (P : ProgramTree) (ts : List ItemNames) → in_program P ≡ Ok ts → (i : ℕ) → is_type_item (slice_get P i) ≡ true → Found P i
found P ts e i h = by (slice_get P i) refl h
  where
    none : Lists
    none = record { types = []; functions = [] }

    there : (j : ItemTree) (y : Ident) → slice_get P i ≡ Some j → type_name j ≡ Some y → item_named type_name 0 P y.name ≡ Some (i, j)
    there j y at h = (named_there none 0 i P j y (named_ok (apart none 0 P) (λ _. in_items P 0 P) ts e).1 at h).1 ∙ ap (λ (m : ℕ). Some (m, j)) (zero-add i)

    by : (o : Option ItemTree) → slice_get P i ≡ o → is_type_item o ≡ true → as_type (item_named type_name 0 P (item_name (slice_get P i))) ≡ Some i
    by None at h = absurd (cc)
    by (Some (plain.struct_item s d)) at h = ap (λ (o : Option ItemTree). as_type (item_named type_name 0 P (item_name o))) at ∙ ap as_type (there (plain.struct_item s d) d.name at refl)
    by (Some (plain.enum_item s d)) at h = ap (λ (o : Option ItemTree). as_type (item_named type_name 0 P (item_name o))) at ∙ ap as_type (there (plain.enum_item s d) d.name at refl)
    by (Some (plain.rt_item s r)) at h = absurd (cc)
    by (Some (plain.function_item s f)) at h = absurd (cc)

-- ---- the structs and enums of a type

abbrev mutual
  -- each is found by its name
  pub Finds : Inside → ProgramTree → Shape Kind → Type 0
  Finds I P (integer k) = Unit {0}
  Finds I P boolean = Unit {0}
  Finds I P (tuple_of ts) = FindAll I P ts
  Finds I P (reference m t) = Finds I P t
  Finds I P (types.named i) = (s : Span) → type_in I (ident s (name_of P i)) ≡ Ok i

  pub FindAll : Inside → ProgramTree → Shapes Kind → Type 0
  FindAll I P no_shape = Unit {0}
  FindAll I P (shape_and t ts) = Finds I P t × FindAll I P ts

module _ (P : ProgramTree) (ts : List ItemNames) (e : in_program P ≡ Ok ts) (a : ℕ) (L : DeclaredNames) where
  abbrev here : Inside
  here = record { program = P; item = a; lifetimes = L }

  mutual
    pub type_finds : (t : Shape Kind) → NamesTypes P t → Finds here P t
    type_finds (integer k) h = tt
    type_finds boolean h = tt
    type_finds (tuple_of ts) h = types_find ts h
    type_finds (reference m t) h = type_finds t h
    type_finds (types.named i) h = λ s. ap (λ (o : Option ℕ). known o s) (found P ts e i h)

    types_find : (ts : Shapes Kind) → NameTypes P ts → FindAll here P ts
    types_find no_shape h = tt
    types_find (shape_and t ts) h = (type_finds t h.0, types_find ts h.1)

  pub each_finds : (xs : List (Span × Typ)) → Every (λ (x : Span × Typ). NamesTypes P x.1) xs → Every (λ (x : Span × Typ). Finds here P x.1) xs
  each_finds [] h = tt
  each_finds (x ∷ xs) h = (type_finds x.1 h.0, each_finds xs h.1)

  pub all_find : (vs : List Variable) → Every (λ (v : Variable). NamesTypes P v.typ) vs → Every (λ (v : Variable). Finds here P v.typ) vs
  all_find [] h = tt
  all_find (v ∷ vs) h = (type_finds v.typ h.0, all_find vs h.1)
