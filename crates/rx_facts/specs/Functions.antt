-- What the passes over the functions of a typed program ask: that a function's graph is within the limits, and that it is
-- initialised (Rust Reference, "Variables"; "Moved and copied types"). And why one is refused.
use Rattle.std.specs.Prelude.{◌≡◌, ◌≤◌, ℕ, List, length, map, option_map, get_or}
use Rattle.rx_core.specs.declared.types.Span.{Span}
use Rattle.rx_tree.specs.Plain.{ProgramTree}
use Rattle.rx_tree.specs.Size.{IsNumbered}
use Rattle.rx_resolve_names.specs.declared.resolved.ItemNames.{ItemNames}
use Rattle.rx_typed.specs.declared.declarations.Decl.{Decl}
use Rattle.rx_typed.specs.Types.{Declarations}
use Rattle.rx_typed.specs.PlainTypes.{plain-Ty}
use Rattle.rx_typed.specs.Tree as tree
use Rattle.rx_typed.specs.PlainTree.{plain-TypedTree}
use Rattle.rx_lower_walks.specs.Graph.{Site}
use Rattle.rx_lower_walks.specs.Pieces.{graph}
use Rattle.rx_typeck_typed.specs.declared.typed.Typed.{Typed}
use Rattle.rx_typeck_typed.specs.declared.typed.TypedFn.{TypedFn}
use Rattle.rx_typeck_typed.specs.Typing.{IsTyped}
use Rattle.rx_facts_tables.specs.Places.{Frame}
use Rattle.rx_facts_tables.specs.Wholes.{placed}
use Rattle.rx_facts_tables.specs.Initialised.{Initialised, IsUnset, IsAgain}
use Rattle.rx_lower_lifetimes.specs.Positions.{positions}
use Rattle.rx_lower_lifetimes.specs.Lowered.{known, actions}
use Rattle.rx_lower_lifetimes.specs.declared.whole.LowerFault.{LowerFault}
use Rattle.rx_lower_lifetimes.specs.Answer.{Refuses}
use Rattle.rx_lower.specs.Functions.{trimmed, function}
use Rattle.rx_facts.specs.declared.fault.InitFault.{InitFault}
use Rattle.rx_facts.specs.declared.fault.InitFault.TheVariants as fault

-- a program is typed so
abbrev pub IsTypedProgram : Typed → Type 0
IsTypedProgram t = (p : ProgramTree) × (ns : List ItemNames) × IsNumbered p × IsTyped p ns t

-- the tree of a function, and the sites of its graph
abbrev pub body : TypedFn → tree.Function
body f = plain-TypedTree f.tree

abbrev pub sites_of : TypedFn → List Site
sites_of f = graph (body f)

-- ---- the limits

pub record IsSmall (items : List Decl) (f : TypedFn) : Type 0 where
  pub sites : length (sites_of f) ≤ 16384
  pub positions_are : positions (known (function items f)) (actions (function items f)) ≤ 65536

-- a function that is not: how many sites and lifetime positions it has
abbrev pub IsLarge : List Decl → LowerFault → TypedFn → Type 0
IsLarge items e f = Refuses (function items f) e

-- ---- initialisation, by what is declared and how many parts each struct and enum has

-- the types of a function's variables
abbrev pub frame_of : Declarations → (ℕ → ℕ) → TypedFn → Frame
frame_of D P f = record { declared = D; sizes = P; types = map (option_map plain-Ty) (trimmed f.variables) }

abbrev pub IsInitialised : Declarations → (ℕ → ℕ) → TypedFn → Type 0
IsInitialised D P f = Initialised (frame_of D P f) f.mutable (body f)

abbrev pub span_of : List Span → ℕ → Span
span_of ss n = get_or ss n (record { start = 0; end = 0 })

-- one that is not: at some node's place a place is unset, or a variable is assigned again, whose name is declared there
abbrev pub IsUninitialised : Declarations → (ℕ → ℕ) → InitFault → TypedFn → Type 0
IsUninitialised D P (fault.Unset at q) f = (n : ℕ) × (at ≡ span_of f.spans n) × IsUnset (frame_of D P f) (body f) n (placed q.var q.steps)
IsUninitialised D P (fault.Again at v) f = (n x : ℕ) × (at ≡ span_of f.spans n) × (v ≡ span_of f.names x) × IsAgain f.mutable (body f) n x
IsUninitialised D P fault.OutOfMemory f = Unit {0}
