-- What items declare (Rust Reference, "Structs", "Enumerations", "Functions", "Lifetime elision").
use Rattle.std.specs.Prelude.{ℕ, suc, Bool, true, false, nat_eq, if◌then◌else◌, List, [], ◌∷◌, ◌++◌, length, Option}
use Rattle.std.specs.Prelude.{Some, None, Ok, Err, slice_get}
use Rattle.rx_core.specs.declared.types.Bound.{Bound}
use Rattle.rx_core.specs.declared.types.Ty.{Ty}
use Rattle.rx_core.specs.declared.types.Ty.TheVariants as ty
use Rattle.rx_tree.specs.declared.tree.Ident.{Ident}
use Rattle.rx_tree.specs.declared.tree.BoundLifetime.{BoundLifetime}
use Rattle.rx_tree.specs.declared.tree.Derive.{Derive}
use Rattle.rx_tree.specs.Plain as plain
use Rattle.rx_tree.specs.Plain.{TypeTree, FieldOf, VariantOf, Structure, Enumeration, Parameter, Function, ItemTree}
use Rattle.rx_tree.specs.Plain.{ProgramTree}
use Rattle.rx_resolve_names.specs.Meant.{number}
use Rattle.rx_resolve_names.specs.declared.resolved.ItemNames.{ItemNames}
use Rattle.rx_resolve_names.specs.declared.resolved.NodeNames.{NodeNames}
use Rattle.rx_typed.specs.declared.declarations.Decl.{Decl}
use Rattle.rx_typed.specs.declared.declarations.Decl.TheVariants as decl
use Rattle.rx_typed.specs.declared.declarations.FieldDecl.{FieldDecl}
use Rattle.rx_typed.specs.declared.declarations.VariantDecl.{VariantDecl}
use Rattle.rx_typeck_solver.specs.declared.facts.Rule.{Rule}
use Rattle.rx_typeck_typed.specs.declared.fault.DeclareFault.TheVariants as fault
use Rattle.rx_typeck_typed.specs.declared.reader.Role.TheVariants as role
use Rattle.rx_typeck_typed.specs.Steps.{Outcome, on_ok, Reading, Step, gives, and_then, in_front, an_entry, first, others}
use Rattle.rx_typeck_typed.specs.Written.{type_of, types_of}

-- where the types of an item begin: its entries of names, and the number of its first lifetime that is elided
abbrev pub begins : List NodeNames → ℕ → Reading
begins ns n = record { names = ns; lifetimes = []; next = n }

-- ---- structs and enums

abbrev pub field_of : ProgramTree → FieldOf → Step FieldDecl
field_of p f = and_then (type_of p role.Field f.typ) (λ t. gives (record { name = f.name.name; ty = t }))

abbrev pub fields_of : ProgramTree → List FieldOf → Step (List FieldDecl)
fields_of p [] = gives []
fields_of p (f ∷ fs) = in_front (field_of p f) (fields_of p fs)

abbrev pub variant_of : ProgramTree → VariantOf → Step VariantDecl
variant_of p v = and_then (types_of p role.Field v.types) (λ ts. gives (record { name = v.name.name; parts = ts }))

abbrev pub variants_of : ProgramTree → List VariantOf → Step (List VariantDecl)
variants_of p [] = gives []
variants_of p (v ∷ vs) = in_front (variant_of p v) (variants_of p vs)

abbrev pub is_among : ℕ → List ℕ → Bool
is_among n [] = false
is_among n (l ∷ ls) = if nat_eq n l then true else is_among n ls

-- a declared lifetime, by its number, occurs among these
abbrev pub used : ℕ → Ident → List ℕ → Outcome (Unit {0})
used n x ls = if is_among (number n) ls then Ok tt else Err (fault.Mismatch x.span Rule.Unused)

-- each does, the first of which has number n
abbrev pub all_used : ℕ → List Ident → List ℕ → Outcome (Unit {0})
all_used n [] ls = Ok tt
all_used n (x ∷ xs) ls = on_ok (used n x ls) (λ _. all_used (suc n) xs ls)

abbrev pub derives_copy : List Derive → Bool
derives_copy [] = false
derives_copy (Derive.Clone ∷ ds) = derives_copy ds
derives_copy (Derive.Copy ∷ ds) = true

-- the polarities of the lifetimes are recorded later (`recorded` of rx_typed)
abbrev pub declared_struct : ProgramTree → List NodeNames → Structure → Outcome Decl
declared_struct p ns d = on_ok (fields_of p d.fields (begins ns 0))
    (λ r. on_ok (all_used 0 d.lifetimes r.1.lifetimes) (λ _.
    Ok (decl.Struct (derives_copy d.derives) (number (length d.lifetimes)) [] r.0)))

abbrev pub declared_enum : ProgramTree → List NodeNames → Enumeration → Outcome Decl
declared_enum p ns d = on_ok (variants_of p d.variants (begins ns 0))
    (λ r. on_ok (all_used 0 d.lifetimes r.1.lifetimes) (λ _.
    Ok (decl.Enum (derives_copy d.derives) (number (length d.lifetimes)) [] r.0)))

-- ---- functions

-- a number once for each of these
abbrev pub one_each : ℕ → List Ident → List ℕ
one_each n [] = []
one_each n (x ∷ xs) = n ∷ one_each n xs

-- the number of each lifetime, the first of which has number n, once for each of its bounds
abbrev pub bounded : ℕ → List BoundLifetime → List ℕ
bounded n [] = []
bounded n (l ∷ ls) = one_each (number n) l.bounds ++ bounded (suc n) ls

-- each with the lifetime that it outlives, of these numbers
abbrev pub bounds_of : List ℕ → List ℕ → List Bound
bounds_of [] ns = []
bounds_of (l ∷ ls) ns = record { long = l; short = first ns } ∷ bounds_of ls (others ns)

-- a function has an entry where it declares bounds of lifetimes, or parameters
abbrev pub entry_of : List ℕ → List Parameter → Step (List ℕ)
entry_of [] [] = gives []
entry_of (l ∷ ls) xs = an_entry
entry_of [] (x ∷ xs) = an_entry

abbrev pub parameters_of : ProgramTree → List Parameter → Step (List Ty)
parameters_of p [] = gives []
parameters_of p (x ∷ xs) = in_front (type_of p role.Parameter x.typ) (parameters_of p xs)

abbrev pub all_are : ℕ → List ℕ → Bool
all_are l [] = true
all_are l (n ∷ ns) = if nat_eq n l then all_are l ns else false

-- the lifetime that all of these are
abbrev pub the_only : List ℕ → Option ℕ
the_only [] = None
the_only (l ∷ ls) = if all_are l ls then Some l else None

-- a result that is not written is the unit
abbrev pub answer_of : ProgramTree → Option TypeTree → Step Ty
answer_of p None r = Ok (ty.Tuple [], r)
answer_of p (Some t) r = type_of p (role.Answer (the_only r.lifetimes)) t r

abbrev pub declared_function : ProgramTree → List NodeNames → Function → Outcome Decl
declared_function p ns f = on_ok (entry_of (bounded 0 f.lifetimes) f.params
    (begins ns (number (length f.lifetimes)))) (λ e.
    on_ok (parameters_of p f.params e.1) (λ ps. on_ok (answer_of p f.result ps.1) (λ a.
    Ok (decl.Func ps.1.next ps.0 a.0 (bounds_of (bounded 0 f.lifetimes) e.0)))))

-- ---- items

abbrev pub declared_item : ProgramTree → List NodeNames → ItemTree → Outcome Decl
declared_item p ns (plain.rt_item s r) = Ok decl.Rt
declared_item p ns (plain.struct_item s d) = declared_struct p ns d
declared_item p ns (plain.enum_item s d) = declared_enum p ns d
declared_item p ns (plain.function_item s f) = declared_function p ns f

-- the entries of an item; none where it has no table
abbrev pub entries_of : Option ItemNames → List NodeNames
entries_of None = []
entries_of (Some t) = t.names

-- each with the entries of its number; the first of the items has number n
abbrev pub declared_items : ProgramTree → List ItemNames → ℕ → ProgramTree → Outcome (List Decl)
declared_items p ns n [] = Ok []
declared_items p ns n (i ∷ is) = on_ok (declared_item p (entries_of (slice_get ns n)) i)
    (λ d. on_ok (declared_items p ns (suc n) is) (λ ds. Ok (d ∷ ds)))
