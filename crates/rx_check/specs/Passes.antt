-- What a program has where it is accepted: its names have a meaning, its types a valid assignment, the matches of each function are
-- covered, its graph is within the limits, it is initialised, and some sets of points accept its lifetimes and loans.
use Rattle.std.specs.Prelude.{ℕ, List, [], ◌∷◌}
use Rattle.rx_tree.specs.Plain.{ProgramTree}
use Rattle.rx_resolve_names.specs.declared.resolved.ItemNames.{ItemNames}
use Rattle.rx_resolve_names.specs.Causes.{Meant}
use Rattle.rx_typed.specs.Types.{Declarations}
use Rattle.rx_typed.specs.PlainTypes.{declarations}
use Rattle.rx_typed.specs.PlainTree.{plain-Expr}
use Rattle.rx_typeck_typed.specs.declared.typed.Typed.{Typed}
use Rattle.rx_typeck_typed.specs.declared.typed.TypedFn.{TypedFn}
use Rattle.rx_typeck_typed.specs.Typing.{IsTyped}
use Rattle.rx_typed_declarations.specs.Sizes.{Sized}
use Rattle.rx_cover.specs.Choices.{Choice, choices_of}
use Rattle.rx_cover.specs.Causes.{AllCovered}
use Rattle.rx_facts.specs.Passing.{AllAre}
use Rattle.rx_facts.specs.Functions.{IsSmall, IsInitialised}
use Rattle.rx_check.specs.Answers.{AllBorrow}

-- the matches of a function, in the order of the text
abbrev pub matches_of : TypedFn → List Choice
matches_of f = choices_of (plain-Expr f.tree.body)

-- the matches of each function are covered
abbrev pub FunctionsCovered : Declarations → List TypedFn → Type 0
FunctionsCovered D [] = Unit {0}
FunctionsCovered D (f ∷ fs) = AllCovered D (matches_of f) × FunctionsCovered D fs

-- the passes up to initialisation accept the program, and this is it with its types
pub record IsFront (p : ProgramTree) (t : Typed) : Type 0 where
  pub names : List ItemNames
  pub meant : Meant p names
  pub typed : IsTyped p names t
  pub covered : FunctionsCovered (declarations t.decls.items) t.functions
  pub small : AllAre (IsSmall t.decls.items) t.functions
  -- by how many parts its structs and enums have
  pub parts : ℕ → ℕ
  pub sized : Sized (declarations t.decls.items) parts
  pub initialised : AllAre (IsInitialised (declarations t.decls.items) parts) t.functions

-- they accept the program
abbrev pub Fronted : ProgramTree → Type 0
Fronted p = (t : Typed) × IsFront p t

-- the program is accepted, and this is it with its types
pub record IsAccepted (p : ProgramTree) (t : Typed) : Type 0 where
  pub front : IsFront p t
  pub borrows : AllBorrow t

abbrev pub Accepted : ProgramTree → Type 0
Accepted p = (t : Typed) × IsAccepted p t
