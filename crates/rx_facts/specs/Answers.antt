-- What the passes answer, and what is found of each function.
use Rattle.std.specs.Prelude.{ℕ, List, Result, Ok, Err}
use Rattle.rx_typed.specs.declared.declarations.Decl.{Decl}
use Rattle.rx_typed.specs.Types.{Declarations}
use Rattle.rx_typed.specs.PlainTypes.{declarations}
use Rattle.rx_typeck_typed.specs.declared.typed.Typed.{Typed}
use Rattle.rx_typeck_typed.specs.declared.typed.TypedFn.{TypedFn}
use Rattle.rx_typed_declarations.specs.Sizes.{Sized, told}
use Rattle.rx_facts_tables.specs.LiveTables.{Lives}
use Rattle.rx_facts_tables.specs.Answer.{IsInitTable}
use Rattle.rx_facts_tables.specs.Wholes.{placed}
use Rattle.rx_facts_tables.specs.Initialised.{IsUnset, IsAgain}
use Rattle.rx_facts_tables.specs.declared.whole.InitFault.{InitFault as NodeFault}
use Rattle.rx_facts_tables.specs.declared.whole.InitFault.TheVariants as node_fault
use Rattle.rx_lower_lifetimes.specs.declared.whole.LowerFault.{LowerFault}
use Rattle.rx_lower_lifetimes.specs.declared.whole.LowerFault.TheVariants as lower_fault
use Rattle.rx_lower_lifetimes.specs.Answer.{IsLowered}
use Rattle.rx_lower.specs.Functions.{function}
use Rattle.rx_facts.specs.Passing.{Each, FirstNot}
use Rattle.rx_facts.specs.Functions.{body, sites_of, IsSmall, IsLarge, frame_of, IsInitialised, IsUninitialised}
use Rattle.rx_facts.specs.declared.fault.InitFault.{InitFault}
use Rattle.rx_facts.specs.declared.fault.InitFault.TheVariants as fault
use Rattle.rx_facts.specs.declared.lowering.Lowered.{Lowered}
use Rattle.rx_facts.specs.declared.finding.FunctionFacts.{FunctionFacts}
use Rattle.rx_facts.specs.declared.finding.ProgramFacts.{ProgramFacts}

-- ---- graphs

-- this is the function's graph, with its lifetimes, within the limits
abbrev pub IsGraphOf : List Decl → TypedFn → Lowered → Type 0
IsGraphOf items f g = IsLowered (function items f) f.mutable g.graph

abbrev pub AreGraphs : Typed → List Lowered → Type 0
AreGraphs t gs = Each (IsGraphOf t.decls.items) t.functions gs

-- what is answered of functions
abbrev pub EachLowered : List Decl → List TypedFn → Result (List Lowered) LowerFault → Type 0
EachLowered items fs (Ok gs) = Each (IsGraphOf items) fs gs
EachLowered items fs (Err lower_fault.OutOfMemory) = Unit {0}
EachLowered items fs (Err e) = FirstNot (IsSmall items) (IsLarge items e) fs

abbrev pub LowerAnswers : Typed → Result (List Lowered) LowerFault → Type 0
LowerAnswers t r = EachLowered t.decls.items t.functions r

-- ---- facts

-- the function is initialised, and the tables say what is live, and what may be set and unset, at each site
pub record AreFactsOf (D : Declarations) (P : ℕ → ℕ) (f : TypedFn) (x : FunctionFacts) : Type 0 where
  pub initialised : IsInitialised D P f
  pub live : Lives (sites_of f) x.live
  pub init : IsInitTable (frame_of D P f) (sites_of f) x.init

-- of all functions, by the table of sizes
pub record AreFacts (t : Typed) (x : ProgramFacts) : Type 0 where
  pub sized : Sized (declarations t.decls.items) (told x.sizes)
  pub each : Each (AreFactsOf (declarations t.decls.items) (told x.sizes)) t.functions x.functions

-- the first function that is not initialised, by sizes that are those of what is declared
pub record FirstUninitialised (t : Typed) (e : InitFault) : Type 0 where
  pub parts : ℕ → ℕ
  pub sized : Sized (declarations t.decls.items) parts
  pub first : FirstNot (IsInitialised (declarations t.decls.items) parts) (IsUninitialised (declarations t.decls.items) parts e) t.functions

abbrev pub FactsAnswer : Typed → Result ProgramFacts InitFault → Type 0
FactsAnswer t (Ok x) = AreFacts t x
FactsAnswer t (Err fault.OutOfMemory) = Unit {0}
FactsAnswer t (Err e) = FirstUninitialised t e

-- ---- what private functions do

-- a fault by the nodes of a function
abbrev pub NodeSays : Declarations → (ℕ → ℕ) → TypedFn → NodeFault → Type 0
NodeSays D P f (node_fault.Unset n q) = IsUnset (frame_of D P f) (body f) n (placed q.var q.steps)
NodeSays D P f (node_fault.Again n x) = IsAgain f.mutable (body f) n x
NodeSays D P f node_fault.OutOfMemory = Unit {0}

-- of one function
abbrev pub FunctionAnswers : Declarations → (ℕ → ℕ) → TypedFn → Result FunctionFacts InitFault → Type 0
FunctionAnswers D P f (Ok x) = AreFactsOf D P f x
FunctionAnswers D P f (Err e) = IsUninitialised D P e f

-- of all, by these sizes
abbrev pub EachAnswers : Declarations → (ℕ → ℕ) → List TypedFn → Result (List FunctionFacts) InitFault → Type 0
EachAnswers D P fs (Ok xs) = Each (AreFactsOf D P) fs xs
EachAnswers D P fs (Err fault.OutOfMemory) = Unit {0}
EachAnswers D P fs (Err e) = FirstNot (IsInitialised D P) (IsUninitialised D P e) fs
