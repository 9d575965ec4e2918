-- A function of a typed program that is asked of, and one of another typed program beside it: by what is declared, the sizes of items, and the tables of
-- both. (Rust Reference, "Variables".)
use Rattle.std.specs.Prelude.{◌≡◌, ℕ, List}
use Rattle.rx_tree.specs.Plain.{ProgramTree}
use Rattle.rx_tree.specs.Size.{IsNumbered}
use Rattle.rx_resolve_names.specs.declared.resolved.ItemNames.{ItemNames}
use Rattle.rx_resolve_names.specs.Causes.{Meant}
use Rattle.rx_typed.specs.Types.{Declarations}
use Rattle.rx_typed.specs.PlainTypes.{declarations}
use Rattle.rx_typed.specs.PlainTree.{plain-TypedTree}
use Rattle.rx_typed_declarations.specs.Sizes.{Sized}
use Rattle.rx_lower_walks.specs.Walks.{Among}
use Rattle.rx_typeck_typed.specs.declared.typed.Typed.{Typed}
use Rattle.rx_typeck_typed.specs.declared.typed.TypedFn.{TypedFn}
use Rattle.rx_typeck_typed.specs.Typing.{IsTyped}
use Rattle.rx_facts.specs.Functions.{frame_of}
use Rattle.rx_exits_plan.specs.Asked.{Asked}
use Rattle.rx_exits_plan.specs.Plan.{Plan}
use Rattle.rx_engine_related.specs.AboutRun.{text_of}
use Rattle.rx_engine_initial.specs.Variables.{Sides}

-- a function of a typed program whose names have a meaning, with how many parts its items have
pub record IsOfTyped (t : Typed) (P : ℕ → ℕ) (f : TypedFn) : Type 0 where
  pub program : ProgramTree
  pub names : List ItemNames
  pub few : IsNumbered program
  pub meant : Meant program names
  pub typed : IsTyped program names t
  pub sized : Sized (declarations t.decls.items) P
  pub among : Among f t.functions

-- a run in this function
pub record IsAskedOf (D : Declarations) (P : ℕ → ℕ) (g : TypedFn) (A : Asked) : Type 0 where
  pub function : A.function ≡ plain-TypedTree g.tree
  pub types : A.frame ≡ frame_of D P g

-- the text's function with the marks of a plan, and one of the new program
abbrev pub sides : Declarations → (ℕ → ℕ) → TypedFn → Declarations → (ℕ → ℕ) → TypedFn → Asked → Plan → Sides
sides D P g E Q f A k = record { frame = frame_of E Q f; muts = f.mutable; frame_there = frame_of D P g; muts_there = g.mutable; text = text_of A k }
