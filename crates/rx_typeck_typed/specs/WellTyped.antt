-- A program is well-typed: what it declares fits, and each function has a valid assignment of types (Rust Reference, "Type
-- system"). It speaks of the program and its names alone, and of no table of types that is found. `functions_of` are its
-- functions with their types, and `EachIsOf` says that those of a typed program are these.
use Rattle.std.specs.Prelude.{◌≡◌, ℕ, suc, Bool, List, [], ◌∷◌, map, Some, slice_get}
use Rattle.rx_core.specs.declared.types.Span.{Span}
use Rattle.rx_core.specs.declared.types.Ty.{Ty}
use Rattle.rx_tree.specs.Plain as plain
use Rattle.rx_tree.specs.Plain.{ProgramTree}
use Rattle.rx_resolve_names.specs.declared.resolved.ItemNames.{ItemNames}
use Rattle.rx_resolve_names.specs.declared.resolved.NodeNames.{NodeNames}
use Rattle.rx_typed.specs.declared.declarations.Decl.{Decl}
use Rattle.rx_typed.specs.Types.{unit_shape}
use Rattle.rx_typed.specs.PlainTypes.{declarations}
use Rattle.rx_typed.specs.Regions.{RegionTyp, region-Ty}
use Rattle.rx_typed.specs.Naming.{function_named, function_spans, function_variables, function_annotations}
use Rattle.rx_typed.specs.Named as named
use Rattle.rx_typed.specs.Tree as tree
use Rattle.rx_typed.specs.Elaborated.{elaborated}
use Rattle.rx_typed.specs.PlainTree.{plain-TypedTree}
use Rattle.rx_typed_declarations.specs.Sizes.{IsSizes}
use Rattle.rx_typeck_typed.specs.Programs.{Declares}
use Rattle.rx_typeck_typed.specs.Bindings.{annotated}
use Rattle.rx_typeck_typed.specs.Walks.{plain-Variable}
use Rattle.rx_typeck_solver.specs.declared.facts.Subject.{Subject}
use Rattle.rx_typeck_solver.specs.Facts.{Assignment, KnownItems}
use Rattle.rx_typeck_solver.specs.Stepping.{known}
use Rattle.rx_typeck_solver.specs.Valid.{Valid, Told}
use Rattle.rx_typeck_solver.specs.Views.{unnumbered}
use Rattle.rx_typeck_typed.specs.Demands.{demands, task}
use Rattle.rx_typeck_typed.specs.declared.typed.TypedFn.{TypedFn}
use Rattle.rx_typeck_typed.specs.Typing.{Given, known_in, entries, variables_at, assigned, is_mutable, type_at}

-- a valid assignment, in which a type is the unit where the rules give none
pub record IsValid (K : KnownItems) (F : named.Function) (A : Assignment) : Type 0 where
  pub valid : Valid K (task F) A
  pub untold : (x : Subject) → (Told (demands F) x → ⊥) → A x ≡ unit_shape

-- each function has one; the first item has this number
abbrev pub EachValid : KnownItems → List ItemNames → ℕ → ProgramTree → Type 0
EachValid K ns i [] = Unit {0}
EachValid K ns i (plain.function_item s f ∷ is) = ((A : Assignment) × IsValid K (function_named i s f (entries (slice_get ns i))) A) × EachValid K ns (suc i) is
EachValid K ns i (_ ∷ is) = EachValid K ns (suc i) is

-- the program, with the entries of names of each item
pub record WellTyped (p : ProgramTree) (ns : List ItemNames) : Type 0 where
  pub declared : List Decl
  pub declares : Declares p ns declared
  -- how many parts each struct and enum has
  pub sizes : List ℕ
  pub is_sizes : IsSizes (declarations declared) sizes
  pub functions : EachValid (known declared sizes) ns 0 p

-- ---- its functions

pub record TypedFunction : Type 0 where
  pub item : ℕ
  -- where variables are declared, which of them are `mut`, and where nodes stand
  pub names : List Span
  pub mutable : List Bool
  pub spans : List Span
  pub types : Assignment
  pub body : tree.Function
  -- the variables that `let`s with a type bind, with the types that they write
  pub written : List (ℕ × RegionTyp)

-- by its assignment
abbrev pub typed_function : Given → ℕ → Span → plain.Function → List NodeNames → List Span → Assignment → TypedFunction
typed_function G i s f ns vars A = record {
  item = i;
  names = vars;
  mutable = map is_mutable (function_variables s f ns);
  spans = function_spans s f ns;
  types = A;
  body = elaborated (assigned (known_in G) A) (function_named i s f ns);
  written = annotated G.program G.declared i (function_annotations s f ns);
}

abbrev pub functions_by : (G : Given) (ns : List ItemNames) (i : ℕ) (p : ProgramTree) → EachValid (known_in G) ns i p → List TypedFunction
functions_by G ns i [] v = []
functions_by G ns i (plain.function_item s f ∷ is) v =
    typed_function G i s f (entries (slice_get ns i)) (variables_at (slice_get ns i)) v.0.0 ∷ functions_by G ns (suc i) is v.1
functions_by G ns i (plain.rt_item s r ∷ is) v = functions_by G ns (suc i) is v
functions_by G ns i (plain.struct_item s d ∷ is) v = functions_by G ns (suc i) is v
functions_by G ns i (plain.enum_item s d ∷ is) v = functions_by G ns (suc i) is v

abbrev pub functions_of : (p : ProgramTree) (ns : List ItemNames) → WellTyped p ns → List TypedFunction
functions_of p ns w = functions_by (record { program = p; declared = w.declared; sizes = w.sizes }) ns 0 p w.functions

-- a function with its tables of types is this one
pub record IsOf (K : KnownItems) (t : TypedFn) (f : TypedFunction) : Type 0 where
  pub item : t.item ≡ f.item
  pub names : t.names ≡ f.names
  pub mutable : t.mutable ≡ f.mutable
  pub spans : t.spans ≡ f.spans
  pub types : (x : Subject) (y : Ty) → type_at t x ≡ Some y → region-Ty y ≡ unnumbered K.items (f.types x)
  pub body : plain-TypedTree t.tree ≡ f.body
  pub written : map plain-Variable t.annotations ≡ f.written

abbrev pub EachIsOf : KnownItems → List TypedFn → List TypedFunction → Type 0
EachIsOf K [] [] = Unit {0}
EachIsOf K (t ∷ ts) (f ∷ fs) = IsOf K t f × EachIsOf K ts fs
EachIsOf K _ _ = ⊥
