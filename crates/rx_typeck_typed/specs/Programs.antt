-- What a program declares, and the first declaration that is wrong: the types of each item, then what each struct and
-- enum derives, then the limits that each keeps, in the order of the text, then `main` (Rust Reference, "Items",
-- "Derive", "Copy", "Main functions").
use Rattle.std.specs.Prelude.{◌≡◌, ◌≢◌, ◌<◌, length, ℕ, suc, Bool, true, false, ◌&&◌, if◌then◌else◌, List, [], ◌∷◌}
use Rattle.std.specs.Prelude.{Option, Some}
use Rattle.std.specs.Prelude.{None, is_none, Ok, Err, slice_get, codes}
use Rattle.std.specs.Str.{bytes_eq}
use Rattle.rx_core.specs.declared.types.Span.{Span}
use Rattle.rx_tree.specs.declared.tree.Derive.{Derive}
use Rattle.rx_tree.specs.Plain as plain
use Rattle.rx_tree.specs.Plain.{TypeTree, Parameter, Function, ItemTree, ProgramTree}
use Rattle.rx_tree.specs.Spans.{program_span}
use Rattle.rx_resolve_names.specs.declared.resolved.ItemNames.{ItemNames}
use Rattle.rx_typed.specs.declared.declarations.Decl.{Decl}
use Rattle.rx_typed.specs.Types.{Typ, FieldDeclared, VariantDeclared, Declared, struct_declared, enum_declared}
use Rattle.rx_typed.specs.Types.{Declarations, copies}
use Rattle.rx_typed.specs.PlainTypes.{declarations}
use Rattle.rx_typeck_solver.specs.declared.facts.Rule.{Rule}
use Rattle.rx_typeck_typed.specs.declared.fault.DeclareFault.{DeclareFault}
use Rattle.rx_typeck_typed.specs.declared.fault.DeclareFault.TheVariants as fault
use Rattle.rx_typeck_typed.specs.Steps.{Outcome, on_ok}
use Rattle.rx_typeck_typed.specs.Items.{declared_items}
use Rattle.rx_typeck_typed.specs.Limits.{Limited}

-- ---- derived Copy

abbrev pub parts_copy : Declarations → List Typ → Bool
parts_copy D [] = true
parts_copy D (t ∷ ts) = copies D t && parts_copy D ts

abbrev pub fields_copy : Declarations → List FieldDeclared → Bool
fields_copy D [] = true
fields_copy D (f ∷ fs) = copies D f.typ && fields_copy D fs

abbrev pub variants_copy : Declarations → List VariantDeclared → Bool
variants_copy D [] = true
variants_copy D (v ∷ vs) = parts_copy D v.parts && variants_copy D vs

-- whether all fields of an item, or parts of its variants, are Copy
abbrev pub holds_copies : Declarations → Option Declared → Bool
holds_copies D (Some (struct_declared c l fs)) = fields_copy D fs
holds_copies D (Some (enum_declared c l vs)) = variants_copy D vs
holds_copies D _ = true

-- what may be derived: Clone once, and where all that is held is Copy, Copy once beside it
abbrev pub may_derive : List Derive → Bool → Bool
may_derive [] c = true
may_derive (Derive.Clone ∷ []) c = true
may_derive (Derive.Clone ∷ Derive.Copy ∷ []) c = c
may_derive (Derive.Copy ∷ Derive.Clone ∷ []) c = c
may_derive _ c = false

abbrev pub derived_at : Span → Bool → Outcome (Unit {0})
derived_at s true = Ok tt
derived_at s false = Err (fault.Mismatch s Rule.CopyOf)

abbrev pub derived : Declarations → Option Declared → ItemTree → Outcome (Unit {0})
derived D o (plain.rt_item s r) = Ok tt
derived D o (plain.struct_item s d) = derived_at d.name.span (may_derive d.derives (holds_copies D o))
derived D o (plain.enum_item s d) = derived_at d.name.span (may_derive d.derives (holds_copies D o))
derived D o (plain.function_item s f) = Ok tt

-- of each item; the first has number n
abbrev pub all_derived : Declarations → ℕ → ProgramTree → Outcome (Unit {0})
all_derived D n [] = Ok tt
all_derived D n (i ∷ is) = on_ok (derived D (slice_get D n) i) (λ _. all_derived D (suc n) is)

-- ---- main

abbrev pub main_or : ItemTree → Option Function → Option Function
main_or (plain.function_item s f) later = if bytes_eq f.name.name (codes "main") then Some f else later
main_or _ later = later

-- the first function of this name
abbrev pub main_of : ProgramTree → Option Function
main_of [] = None
main_of (i ∷ is) = main_or i (main_of is)

abbrev pub is_nothing : {A : Type 0} → List A → Bool
is_nothing [] = true
is_nothing (x ∷ xs) = false

-- neither lifetimes nor parameters nor a written result
abbrev pub is_bare : Function → Bool
is_bare f = is_nothing f.lifetimes && (is_nothing f.params && is_none f.result)

abbrev pub main_fits : Span → Option Function → Outcome (Unit {0})
main_fits s None = Err (fault.Mismatch s Rule.Main)
main_fits s (Some f) = if is_bare f then Ok tt else Err (fault.Mismatch f.name.span Rule.Main)

-- ---- a program, with the entries of names of each item

-- what all declarations keep
pub record Fits (p : ProgramTree) (D : Declarations) : Type 0 where
  -- each has a number of 32 bits
  pub numbered : length D < 4294967296
  pub derived_well : all_derived D 0 p ≡ Ok tt
  pub limited : Limited p D (Ok tt)
  pub has_main : main_fits (program_span p) (main_of p) ≡ Ok tt

-- the first of these that they break
pub data Unfit (p : ProgramTree) (D : Declarations) (e : DeclareFault) : Type 0 where
  derived_wrong : all_derived D 0 p ≡ Err e → Unfit p D e
  past_limit : all_derived D 0 p ≡ Ok tt → Limited p D (Err e) → Unfit p D e
  main_wrong : all_derived D 0 p ≡ Ok tt → Limited p D (Ok tt) → main_fits (program_span p) (main_of p) ≡ Err e
      → Unfit p D e

-- what a program declares
pub record Declares (p : ProgramTree) (ns : List ItemNames) (ds : List Decl) : Type 0 where
  pub items : declared_items p ns 0 p ≡ Ok ds
  pub fits : Fits p (declarations ds)

-- the first thing that is wrong
pub data Wrong (p : ProgramTree) (ns : List ItemNames) (e : DeclareFault) : Type 0 where
  in_types : declared_items p ns 0 p ≡ Err e → Wrong p ns e
  unfit : (ds : List Decl) → declared_items p ns 0 p ≡ Ok ds → Unfit p (declarations ds) e → Wrong p ns e

-- what a function that asks of all declarations ensures
abbrev pub Fitting : ProgramTree → Declarations → Outcome (Unit {0}) → Type 0
Fitting p D (Ok u) = Fits p D
Fitting p D (Err e) = e ≢ fault.OutOfMemory → Unfit p D e
