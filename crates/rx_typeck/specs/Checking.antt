-- What the functions of the check are given and answer.
use Rattle.std.specs.Prelude.{◌≡◌, ◌⊎◌, ℕ, suc, Bool, List, [], ◌∷◌, ◌++◌, map, drop, Option, Some, None, get_or, slice_get}
use Rattle.rx_core.specs.declared.types.Span.{Span}
use Rattle.rx_core.specs.declared.types.Ty.{Ty}
use Rattle.rx_tree.specs.Plain as plain
use Rattle.rx_tree.specs.Plain.{ItemTree, ProgramTree}
use Rattle.rx_tree.specs.PlainOf.{plain-Item}
use Rattle.rx_resolve_names.specs.declared.resolved.ItemNames.{ItemNames}
use Rattle.rx_resolve_names.specs.declared.resolved.NodeNames.{NodeNames}
use Rattle.rx_typed.specs.declared.declarations.Decl.{Decl}
use Rattle.rx_typed.specs.declared.nodes.Declaration.{Declaration}
use Rattle.rx_typed.specs.Types.{unit_shape}
use Rattle.rx_typed.specs.PlainTypes.{declarations}
use Rattle.rx_typed.specs.Regions.{region-Ty}
use Rattle.rx_typed.specs.Named.{Function}
use Rattle.rx_typed.specs.Naming.{function_named, function_spans, function_variables, function_annotations}
use Rattle.rx_typed.specs.Elaborated.{Assigned, Coercion, coercion, elaborated}
use Rattle.rx_typed.specs.PlainTree.{plain-TypedTree}
use Rattle.rx_typed_declarations.specs.Sizes.{IsSizes}
use Rattle.rx_typed_declarations.specs.WellFormed.{WellFormed}
use Rattle.rx_typed_declarations.specs.Variance.{Recorded, unrecorded}
use Rattle.rx_typeck_elaborate_parts.specs.Assigning.{joined, shape_of}
use Rattle.rx_typeck_typed.specs.declared.fault.DeclareFault.{DeclareFault}
use Rattle.rx_typeck_typed.specs.declared.fault.DeclareFault.TheVariants as declare_fault
use Rattle.rx_typeck_typed.specs.Programs.{Declares, Wrong}
use Rattle.rx_typeck_typed.specs.declared.variables.AnnotatedVariable.{AnnotatedVariable}
use Rattle.rx_typeck_typed.specs.Bindings.{annotated}
use Rattle.rx_typeck_typed.specs.Walks.{plain-Variable}
use Rattle.rx_typeck_solver.specs.declared.facts.Rule.{Rule}
use Rattle.rx_typeck_solver.specs.declared.facts.Subject.{Subject}
use Rattle.rx_typeck_solver.specs.declared.facts.Subject.TheVariants as subject
use Rattle.rx_typeck_solver.specs.declared.facts.Broken.{Broken}
use Rattle.rx_typeck_solver.specs.declared.facts.Broken.TheVariants as broken
use Rattle.rx_typeck_solver.specs.declared.solver.Unsolved.{Unsolved}
use Rattle.rx_typeck_solver.specs.declared.solver.Unsolved.TheVariants as unsolved
use Rattle.rx_typeck_solver.specs.Facts.{Assignment, KnownItems}
use Rattle.rx_typeck_solver.specs.Stepping.{known}
use Rattle.rx_typeck_solver.specs.Valid.{Valid, Breaks, IsUnclear, Asked, Told}
use Rattle.rx_typeck_solver.specs.Views.{unnumbered}
use Rattle.rx_typeck_typed.specs.Demands.{demands, task}
use Rattle.rx_typeck_typed.specs.declared.typed.TypedFn.{TypedFn}
use Rattle.rx_typeck_typed.specs.declared.typed.Typed.{Typed}
use Rattle.rx_typeck_typed.specs.declared.typed.TypeFault.{TypeFault}
use Rattle.rx_typeck_typed.specs.declared.typed.TypeFault.TheVariants as fault
use Rattle.rx_typeck.specs.declared.check.Check.{Check}
use Rattle.rx_typeck.specs.declared.check.Described.{Described}
use Rattle.rx_typeck.specs.declared.check.Question.{Question}
use Rattle.rx_typeck_typed.specs.Typing.{Given, known_in, IsAnnotated, FunctionTyped, FunctionUntyped, FunctionsTyped, FirstUntyped, entries, variables_at, is_mutable}

abbrev pub given_of : Check → Given
given_of c = record { program = map plain-Item c.items.now; declared = c.decls.now.items; sizes = c.sizes.now }

abbrev pub known_of : Check → KnownItems
known_of c = known_in (given_of c)

-- what is known of a function's variables and nodes before their types
abbrev pub described_by : List Span → List Declaration → List Span → Described
described_by names vars spans = record { names = names; mutable = map is_mutable vars; spans = spans }

abbrev pub described : Span → plain.Function → List NodeNames → List Span → Described
described s f ns vars = described_by vars (function_variables s f ns) (function_spans s f ns)

-- and what the rules ask of it, by its item's number, beside what its `let`s write
abbrev pub question : ℕ → Span → plain.Function → List NodeNames → List Span → List AnnotatedVariable → Question
question i s f ns vars xs =
    let t = task (function_named i s f ns) in record { demands = t.demands; literals = t.literals; described = described s f ns vars; annotations = xs }

abbrev pub IsQuestion : Given → ℕ → Span → plain.Function → List NodeNames → List Span → Question → Type 0
IsQuestion G i s f ns vars q = (q ≡ question i s f ns vars q.annotations) × IsAnnotated G i s f ns q.annotations

-- the functions of declarations, by some sizes
pub record TypedBy (p : ProgramTree) (ns : List ItemNames) (ds : List Decl) (ts : List TypedFn) : Type 0 where
  pub sizes : List ℕ
  pub is_sizes : IsSizes (declarations ds) sizes
  pub functions : FunctionsTyped (record { program = p; declared = ds; sizes = sizes }) ns 0 p ts

pub record UntypedBy (p : ProgramTree) (ns : List ItemNames) (ds : List Decl) (e : TypeFault) : Type 0 where
  pub sizes : List ℕ
  pub is_sizes : IsSizes (declarations ds) sizes
  pub first : FirstUntyped (known ds sizes) ns 0 p e

-- an item behind others whose functions are typed
abbrev pub ItemTyped : Given → List ItemNames → ℕ → ItemTree → List TypedFn → List TypedFn → Type 0
ItemTyped G ns i (plain.function_item s f) all new =
    (t : TypedFn) × (new ≡ all ++ t ∷ []) × FunctionTyped G i s f (entries (slice_get ns i)) (variables_at (slice_get ns i)) t
ItemTyped G ns i _ all new = new ≡ all

abbrev pub ItemUntyped : KnownItems → List ItemNames → ℕ → ItemTree → TypeFault → Type 0
ItemUntyped K ns i (plain.function_item s f) e = FunctionUntyped K (function_named i s f (entries (slice_get ns i))) (variables_at (slice_get ns i)) e
ItemUntyped K ns i _ e = ⊥

-- what is left to type
pub record Behind (G : Given) (ns : List ItemNames) (p : ProgramTree) (i : ℕ) (all : List TypedFn) : Type 0 where
  pub typed : (more : List TypedFn) → FunctionsTyped G ns i (drop i p) more → FunctionsTyped G ns 0 p (all ++ more)
  pub untyped : (e : TypeFault) → FirstUntyped (known_in G) ns i (drop i p) e → FirstUntyped (known_in G) ns 0 p e
