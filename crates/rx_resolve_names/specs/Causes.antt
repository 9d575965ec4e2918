-- When a program's names have a meaning, and what is wrong where they have none.
use Rattle.std.specs.Prelude.{◌≡◌, ℕ, List, Option, Some, None, Ok, Err, slice_get}
use Rattle.rx_core.specs.declared.types.Span.{Span}
use Rattle.rx_tree.specs.Plain.{ItemTree, ProgramTree}
use Rattle.rx_graph_cycles.specs.Reaches.{NoCycle, FirstOnCycle}
use Rattle.rx_resolve_names.specs.declared.resolved.ItemNames.{ItemNames}
use Rattle.rx_resolve_names.specs.declared.resolved.Misnamed.{Misnamed}
use Rattle.rx_resolve_names.specs.declared.resolved.Misnamed.TheVariants as misnamed
use Rattle.rx_resolve_names.specs.declared.resolved.NameFault.{NameFault}
use Rattle.rx_resolve_names.specs.declared.resolved.NameFault.TheVariants as name_fault
use Rattle.rx_resolve_names.specs.Items.{in_program}
use Rattle.rx_resolve_names.specs.Holding.{held_in_tree, name_span}

-- every name has its binding, no list has a name twice, every jump its loop, and no struct or enum reaches itself
pub record Meant (p : ProgramTree) (names : List ItemNames) : Type 0 where
  pub names_are : in_program p ≡ Ok names
  pub finite : NoCycle (held_in_tree p)

-- the first struct or enum that reaches itself, by the place of its name
pub record FirstHolding (p : ProgramTree) (at : Span) : Type 0 where
  pub number : ℕ
  pub item : ItemTree
  pub first : FirstOnCycle (held_in_tree p) (Some number)
  pub stands : slice_get p number ≡ Some item
  pub place : at ≡ name_span item

abbrev pub HoldsItself : ProgramTree → Option Span → Type 0
HoldsItself p None = NoCycle (held_in_tree p)
HoldsItself p (Some at) = FirstHolding p at

-- the names of a program have a meaning, but a struct or enum reaches itself
pub record SelfHolding (p : ProgramTree) (at : Span) : Type 0 where
  pub names : List ItemNames
  pub names_are : in_program p ≡ Ok names
  pub holding : FirstHolding p at

-- the cause of a fault
abbrev pub Causes : NameFault → ProgramTree → Type 0
Causes (name_fault.Unknown s) p = in_program p ≡ Err (misnamed.Unknown s)
Causes (name_fault.Twice a b) p = in_program p ≡ Err (misnamed.Twice a b)
Causes (name_fault.Label s) p = in_program p ≡ Err (misnamed.Label s)
Causes (name_fault.SelfHolding s) p = SelfHolding p s
Causes name_fault.OutOfMemory p = Unit {0}

abbrev pub fault_of : Misnamed → NameFault
fault_of (misnamed.Unknown s) = name_fault.Unknown s
fault_of (misnamed.Twice a b) = name_fault.Twice a b
fault_of (misnamed.Label s) = name_fault.Label s
fault_of misnamed.OutOfMemory = name_fault.OutOfMemory
