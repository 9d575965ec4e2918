-- A program is typed: its declarations fit, and each function has a valid assignment of types (Rust Reference, "Type
-- system"). What is wrong is the first declaration that doesn't fit, else a place in the first function without a valid
-- assignment.
use Rattle.std.specs.Prelude.{◌≡◌, ◌⊎◌, ℕ, suc, Bool, List, [], ◌∷◌, ◌++◌, map, drop, Option, Some, None, get_or, slice_get}
use Rattle.rx_core.specs.declared.types.Span.{Span}
use Rattle.rx_core.specs.declared.types.Ty.{Ty}
use Rattle.rx_tree.specs.Plain as plain
use Rattle.rx_tree.specs.Plain.{ItemTree, ProgramTree}
use Rattle.rx_tree.specs.PlainOf.{plain-Item}
use Rattle.rx_resolve_names.specs.declared.resolved.ItemNames.{ItemNames}
use Rattle.rx_resolve_names.specs.declared.resolved.NodeNames.{NodeNames}
use Rattle.rx_typed.specs.declared.declarations.Decl.{Decl}
use Rattle.rx_typed.specs.declared.nodes.Declaration.{Declaration}
use Rattle.rx_typed.specs.Types.{unit_shape}
use Rattle.rx_typed.specs.PlainTypes.{declarations}
use Rattle.rx_typed.specs.Regions.{region-Ty}
use Rattle.rx_typed.specs.Named.{Function}
use Rattle.rx_typed.specs.Naming.{function_named, function_spans, function_variables, function_annotations}
use Rattle.rx_typed.specs.Elaborated.{Assigned, Coercion, coercion, elaborated}
use Rattle.rx_typed.specs.PlainTree.{plain-TypedTree}
use Rattle.rx_typed_declarations.specs.Sizes.{IsSizes}
use Rattle.rx_typed_declarations.specs.WellFormed.{WellFormed}
use Rattle.rx_typed_declarations.specs.Variance.{Recorded, AsMany, unrecorded}
use Rattle.rx_typeck_elaborate_parts.specs.Assigning.{joined, shape_of}
use Rattle.rx_typeck_typed.specs.declared.fault.DeclareFault.{DeclareFault}
use Rattle.rx_typeck_typed.specs.declared.fault.DeclareFault.TheVariants as declare_fault
use Rattle.rx_typeck_typed.specs.Programs.{Declares, Wrong}
use Rattle.rx_typeck_typed.specs.declared.variables.AnnotatedVariable.{AnnotatedVariable}
use Rattle.rx_typeck_typed.specs.Bindings.{annotated}
use Rattle.rx_typeck_typed.specs.Walks.{plain-Variable}
use Rattle.rx_typeck_solver.specs.declared.facts.Rule.{Rule}
use Rattle.rx_typeck_solver.specs.declared.facts.Subject.{Subject}
use Rattle.rx_typeck_solver.specs.declared.facts.Subject.TheVariants as subject
use Rattle.rx_typeck_solver.specs.declared.facts.Broken.{Broken}
use Rattle.rx_typeck_solver.specs.declared.facts.Broken.TheVariants as broken
use Rattle.rx_typeck_solver.specs.declared.solver.Unsolved.{Unsolved}
use Rattle.rx_typeck_solver.specs.declared.solver.Unsolved.TheVariants as unsolved
use Rattle.rx_typeck_solver.specs.Facts.{Assignment, KnownItems}
use Rattle.rx_typeck_solver.specs.Stepping.{known}
use Rattle.rx_typeck_solver.specs.Valid.{Valid, Breaks, IsUnclear, Asked, Told}
use Rattle.rx_typeck_solver.specs.Trimmed.{IsTrimmed}
use Rattle.rx_typeck_solver.specs.Views.{unnumbered}
use Rattle.rx_typeck_typed.specs.Demands.{demands, task}
use Rattle.rx_typeck_typed.specs.declared.typed.TypedFn.{TypedFn}
use Rattle.rx_typeck_typed.specs.declared.typed.Typed.{Typed}
use Rattle.rx_typeck_typed.specs.declared.typed.TypeFault.{TypeFault}
use Rattle.rx_typeck_typed.specs.declared.typed.TypeFault.TheVariants as fault

-- the entries of names of an item, and the places where its variables are declared
abbrev pub entries : Option ItemNames → List NodeNames
entries None = []
entries (Some n) = n.names

abbrev pub variables_at : Option ItemNames → List Span
variables_at None = []
variables_at (Some n) = n.vars

-- ---- a function

-- a program, what it declares, and how many parts each struct and enum has
pub record Given : Type 0 where
  pub program : ProgramTree
  pub declared : List Decl
  pub sizes : List ℕ

abbrev pub known_in : Given → KnownItems
known_in G = known G.declared G.sizes

-- the assignment as the typed tree takes it
abbrev pub assigned : KnownItems → Assignment → Assigned
assigned K A = record { items = K.items; typ = λ n. A (subject.Node n); expected = λ n. A (subject.Expected n) }

-- the type that a typed function has for a variable, a node, or what a node's place expects
abbrev pub type_at : TypedFn → Subject → Option Ty
type_at t (subject.Variable x) = joined (slice_get t.variables x)
type_at t (subject.Node n) = joined (slice_get t.types.nodes n)
type_at t (subject.Expected n) = joined (slice_get t.types.expected n)

-- no table of types goes on behind its last one
abbrev pub TypesTrimmed : TypedFn → Type 0
TypesTrimmed t = IsTrimmed t.variables × IsTrimmed t.types.nodes × IsTrimmed t.types.expected

-- what a coercion site does to the value of a node, by the node's type and the one that its place expects
abbrev pub coercion_at : TypedFn → ℕ → Coercion
coercion_at t n = coercion (shape_of (type_at t (subject.Node n))) (shape_of (type_at t (subject.Expected n)))

-- exactly what the rules give a type has one: that of the assignment, in which each lifetime has the number 0
abbrev pub TypeIs : KnownItems → Function → Assignment → Subject → Option Ty → Type 0
TypeIs K f A x None = Told (demands f) x → ⊥
TypeIs K f A x (Some t) = Told (demands f) x × (region-Ty t ≡ unnumbered K.items (A x))

abbrev pub is_mutable : Declaration → Bool
is_mutable d = d.mutable

-- these are the variables that `let`s with a type bind, with the types that they write: of the item's number and span, its
-- function and its entries of names
abbrev pub IsAnnotated : Given → ℕ → Span → plain.Function → List NodeNames → List AnnotatedVariable → Type 0
IsAnnotated G i s f ns xs = map plain-Variable xs ≡ annotated G.program G.declared i (function_annotations s f ns)

-- of the item's number and span, its function, its entries of names and where its variables are declared
pub record FunctionTyped (G : Given) (i : ℕ) (s : Span) (f : plain.Function) (ns : List NodeNames) (vars : List Span) (t : TypedFn) : Type 0 where
  pub item : t.item ≡ i
  pub names : t.names ≡ vars
  pub mutable : t.mutable ≡ map is_mutable (function_variables s f ns)
  pub spans : t.spans ≡ function_spans s f ns
  pub types : Assignment
  pub valid : Valid (known_in G) (task (function_named i s f ns)) types
  -- the unit, where the rules give no type
  pub untold : (x : Subject) → (Told (demands (function_named i s f ns)) x → ⊥) → types x ≡ unit_shape
  pub found : (x : Subject) → TypeIs (known_in G) (function_named i s f ns) types x (type_at t x)
  pub trimmed : TypesTrimmed t
  pub tree : plain-TypedTree t.tree ≡ elaborated (assigned (known_in G) types) (function_named i s f ns)
  pub annotated : IsAnnotated G i s f ns t.annotations

-- the fault of a node that breaks a rule, by the span at which it is asked and the places where variables are declared
abbrev pub fault_of : Span → Broken → List Span → TypeFault
fault_of at (broken.Mismatch r) vars = fault.Mismatch at r
fault_of at (broken.Mutability x) vars = fault.Mutability at (get_or vars x at)
fault_of at broken.Literal vars = fault.Literal at

abbrev pub of_unsolved : Unsolved → List Span → TypeFault
of_unsolved (unsolved.Broken n at b) vars = fault_of at b vars
of_unsolved unsolved.OutOfMemory vars = fault.OutOfMemory

-- a node of a function without a valid assignment breaks a rule, or it isn't clear which type is meant there
pub record FunctionUntyped (K : KnownItems) (f : Function) (vars : List Span) (e : TypeFault) : Type 0 where
  pub none : (A : Assignment) → Valid K (task f) A → ⊥
  pub node : ℕ
  pub at : Span
  pub rule : Broken
  pub asked : Asked (demands f) node at
  pub breaks : Breaks K (task f) node rule ⊎ ((rule ≡ broken.Mismatch Rule.Unclear) × IsUnclear K (task f) node)
  pub is : e ≡ fault_of at rule vars

-- ---- the functions of a program, the first item of which has this number

abbrev pub FunctionsTyped : Given → List ItemNames → ℕ → ProgramTree → List TypedFn → Type 0
FunctionsTyped G ns i [] ts = ts ≡ []
FunctionsTyped G ns i (plain.function_item s f ∷ is) [] = ⊥
FunctionsTyped G ns i (plain.function_item s f ∷ is) (t ∷ ts) =
    FunctionTyped G i s f (entries (slice_get ns i)) (variables_at (slice_get ns i)) t × FunctionsTyped G ns (suc i) is ts
FunctionsTyped G ns i (_ ∷ is) ts = FunctionsTyped G ns (suc i) is ts

-- the first function without a valid assignment
abbrev pub FirstUntyped : KnownItems → List ItemNames → ℕ → ProgramTree → TypeFault → Type 0
FirstUntyped K ns i [] e = ⊥
FirstUntyped K ns i (plain.function_item s f ∷ is) e = let F = function_named i s f (entries (slice_get ns i)) in
    FunctionUntyped K F (variables_at (slice_get ns i)) e ⊎ (((A : Assignment) × Valid K (task F) A) × FirstUntyped K ns (suc i) is e)
FirstUntyped K ns i (_ ∷ is) e = FirstUntyped K ns (suc i) is e

-- ---- a program

pub record IsTyped (p : ProgramTree) (ns : List ItemNames) (t : Typed) : Type 0 where
  pub declared : List Decl
  pub declares : Declares p ns declared
  -- the declarations are these, with the polarities of lifetimes recorded
  pub same : map unrecorded t.decls.items ≡ map unrecorded declared
  pub recorded : Recorded t.decls.items
  pub as_many : AsMany t.decls.items
  pub well_formed : WellFormed t.decls.items
  pub sizes : List ℕ
  pub is_sizes : IsSizes (declarations declared) sizes
  pub functions : FunctionsTyped (record { program = p; declared = declared; sizes = sizes }) ns 0 p t.functions

-- the fault of a declaration as one of types
abbrev pub of_declaration : DeclareFault → TypeFault
of_declaration (declare_fault.Mismatch at r) = fault.Mismatch at r
of_declaration (declare_fault.Elision at) = fault.Elision at
of_declaration declare_fault.OutOfMemory = fault.OutOfMemory

-- what is wrong: first the declarations, then the functions in the order of the text
pub data Causes (p : ProgramTree) (ns : List ItemNames) (e : TypeFault) : Type 0 where
  in_declaration : (d : DeclareFault) → Wrong p ns d → e ≡ of_declaration d → Causes p ns e
  in_function : (ds : List Decl) → Declares p ns ds → (sizes : List ℕ) → IsSizes (declarations ds) sizes
      → FirstUntyped (known ds sizes) ns 0 p e → Causes p ns e
