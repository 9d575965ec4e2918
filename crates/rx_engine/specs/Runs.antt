-- What a program does on an input, with a number of turns: the outcome of the meaning, with its types and the item of `main`.
use Rattle.std.specs.Prelude.{◌≡◌, ℕ, ℤ, List}
use Rattle.rx_tree.specs.Plain.{ProgramTree}
use Rattle.rx_resolve_names.specs.declared.resolved.ItemNames.{ItemNames}
use Rattle.rx_resolve_names.specs.Causes.{Meant}
use Rattle.rx_typeck_typed.specs.declared.typed.Typed.{Typed}
use Rattle.rx_typeck_typed.specs.Typing.{IsTyped}
use Rattle.rx_meaning.specs.declared.outcome.Outcome.{Outcome}
use Rattle.rx_meaning.specs.Programs.{main_in, run}
use Rattle.rx_machine.specs.Functions.{program_of}

pub record Does (p : ProgramTree) (turns : ℕ) (input : List ℤ) (o : Outcome) : Type 0 where
  pub names : List ItemNames
  pub meant : Meant p names
  pub types : Typed
  pub typed : IsTyped p names types
  pub outcome : o ≡ run (program_of types (main_in p 0)) input turns
