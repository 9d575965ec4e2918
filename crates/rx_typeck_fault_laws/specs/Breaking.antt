-- What it means that a node breaks a rule, by a set of single demands: each is what one rule of types asks at one node.
use Rattle.std.specs.Prelude.{◌≡◌, ◌⊎◌, ℕ, suc, Bool, IsTrue, List, [], ◌∷◌, slice_get}
use Rattle.rx_core.specs.declared.types.Span.{Span}
use Rattle.rx_tree.specs.Plain as plain
use Rattle.rx_tree.specs.Plain.{ProgramTree}
use Rattle.rx_resolve_names.specs.declared.resolved.ItemNames.{ItemNames}
use Rattle.rx_typed.specs.declared.declarations.Decl.{Decl}
use Rattle.rx_typed.specs.PlainTypes.{declarations}
use Rattle.rx_typed.specs.Named.{Function}
use Rattle.rx_typed.specs.Naming.{function_named}
use Rattle.rx_typed_declarations.specs.Sizes.{IsSizes}
use Rattle.rx_typeck_solver.specs.Stepping.{known}
use Rattle.rx_typeck_typed.specs.Programs.{Declares, Wrong}
use Rattle.rx_typeck_typed.specs.declared.fault.DeclareFault.{DeclareFault}
use Rattle.rx_typeck_solver.specs.declared.facts.Broken.{Broken}
use Rattle.rx_typeck_solver.specs.declared.facts.Broken.TheVariants as broken
use Rattle.rx_typeck_solver.specs.declared.facts.Rule.{Rule}
use Rattle.rx_typeck_solver.specs.declared.facts.Demand.{Demand}
use Rattle.rx_typeck_solver.specs.Facts.{Assignment, KnownItems, MeetsAll}
use Rattle.rx_typeck_solver.specs.Valid.{Task, Valid, Asked, IsUnclear, MeetsOne}
use Rattle.rx_typeck_typed.specs.Demands.{demands, task}
use Rattle.rx_typeck_typed.specs.declared.typed.TypeFault.{TypeFault}
use Rattle.rx_typeck_typed.specs.Typing.{entries, variables_at, fault_of, of_declaration}
use Rattle.rx_typeck_fault_laws.specs.TypeRules.{TypeRule, rule_of}

-- a set of single demands, each by its node and its rule
abbrev pub Singles : Type 0
Singles = ℕ → TypeRule → Bool

module _ (D : KnownItems) (task : Task) where
  -- an assignment meets those of the set
  abbrev pub MeetsSingles : Singles → Assignment → List Demand → Type 0
  MeetsSingles chosen A [] = Unit {0}
  MeetsSingles chosen A (d ∷ ds) = (IsTrue (chosen d.node (rule_of d)) → MeetsAll D A d.facts) × MeetsSingles chosen A ds

  -- a node breaks a rule: some assignment meets a set of single demands, and none meets them and those with this fault at
  -- the node
  pub record BreaksRule (n : ℕ) (b : Broken) : Type 0 where
    pub chosen : Singles
    pub some : Assignment
    pub met : MeetsSingles chosen some task.demands
    pub none : (A : Assignment) → MeetsSingles chosen A task.demands → MeetsOne D task n b A task.demands → ⊥

-- what `FunctionUntyped` of rx_typeck_typed says, with such a set
pub record FunctionBreaks (K : KnownItems) (f : Function) (vars : List Span) (e : TypeFault) : Type 0 where
  pub none : (A : Assignment) → Valid K (task f) A → ⊥
  pub node : ℕ
  pub at : Span
  pub rule : Broken
  pub asked : Asked (demands f) node at
  pub breaks : BreaksRule K (task f) node rule ⊎ ((rule ≡ broken.Mismatch Rule.Unclear) × IsUnclear K (task f) node)
  pub is : e ≡ fault_of at rule vars

-- ---- a program, the first item of which has this number

-- the first function without a valid assignment
abbrev pub FirstBreaks : KnownItems → List ItemNames → ℕ → ProgramTree → TypeFault → Type 0
FirstBreaks K ns i [] e = ⊥
FirstBreaks K ns i (plain.function_item s f ∷ is) e = let F = function_named i s f (entries (slice_get ns i)) in
    FunctionBreaks K F (variables_at (slice_get ns i)) e ⊎ (((A : Assignment) × Valid K (task F) A) × FirstBreaks K ns (suc i) is e)
FirstBreaks K ns i (_ ∷ is) e = FirstBreaks K ns (suc i) is e

-- what is wrong, as `Causes` of rx_typeck_typed says it: a declaration, or of the first function a node with such a set
pub data Faulty (p : ProgramTree) (ns : List ItemNames) (e : TypeFault) : Type 0 where
  in_declaration : (d : DeclareFault) → Wrong p ns d → e ≡ of_declaration d → Faulty p ns e
  in_function : (ds : List Decl) → Declares p ns ds → (sizes : List ℕ) → IsSizes (declarations ds) sizes
      → FirstBreaks (known ds sizes) ns 0 p e → Faulty p ns e
