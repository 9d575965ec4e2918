-- That a program, in the terms of the meaning, is that of a text: its typed trees are those of a valid assignment of types.
use Rattle.std.specs.Prelude.{◌≡◌, ℕ, suc, List, [], ◌∷◌, slice_get}
use Rattle.rx_tree.specs.Plain as plain
use Rattle.rx_tree.specs.Plain.{ProgramTree}
use Rattle.rx_resolve_names.specs.declared.resolved.ItemNames.{ItemNames}
use Rattle.rx_resolve_names.specs.declared.resolved.NodeNames.{NodeNames}
use Rattle.rx_resolve_names.specs.Causes.{Meant}
use Rattle.rx_typed.specs.Naming.{function_named}
use Rattle.rx_typed.specs.Elaborated.{Assigned}
use Rattle.rx_typeck_solver.specs.Facts.{Assignment}
use Rattle.rx_typeck_solver.specs.Valid.{Valid}
use Rattle.rx_typeck_typed.specs.Demands.{task}
use Rattle.rx_meaning.specs.Programs.{Program, typed_program}
use Rattle.rx_typeck_typed.specs.Typing.{Given, known_in, assigned, entries}

-- the entries of names of each item
abbrev pub names_of : List ItemNames → ℕ → List NodeNames
names_of ns i = entries (slice_get ns i)

-- each function has the types of a valid assignment, by its item's number
abbrev pub TypesAre : Given → List ItemNames → ℕ → ProgramTree → (ℕ → Assigned) → Type 0
TypesAre G ns i [] T = Unit {0}
TypesAre G ns i (plain.function_item s f ∷ is) T =
    ((A : Assignment) × Valid (known_in G) (task (function_named i s f (names_of ns i))) A × (T i ≡ assigned (known_in G) A)) × TypesAre G ns (suc i) is T
TypesAre G ns i (_ ∷ is) T = TypesAre G ns (suc i) is T

-- this is the program of the text, with the entries of names and, for each function, the types of a valid assignment
pub record RunsAs (P : ProgramTree) (ns : List ItemNames) (Q : Program) : Type 0 where
  pub given : Given
  pub types : ℕ → Assigned
  pub valid : TypesAre given ns 0 P types
  pub same : Q ≡ typed_program P (names_of ns) types

-- of names that have a meaning
pub record RunsText (P : ProgramTree) (Q : Program) : Type 0 where
  pub names : List ItemNames
  pub meant : Meant P names
  pub runs : RunsAs P names Q
