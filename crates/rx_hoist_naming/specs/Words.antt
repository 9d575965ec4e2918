-- Types that name structs and enums of a program alone (Rust Reference, "Types", "Paths").
use Rattle.std.specs.Prelude.{◌≡◌, ◌<◌, Bool, true, false, List, length, Option, Some, slice_get}
use Rattle.rx_core.specs.declared.types.Kind.{Kind}
use Rattle.rx_tree.specs.Lists.{Every}
use Rattle.rx_tree.specs.Plain as plain
use Rattle.rx_tree.specs.Plain.{ItemTree, ProgramTree}
use Rattle.rx_typed.specs.Types.{Shape, Shapes, integer, boolean, tuple_of, reference, named, no_shape, shape_and}
use Rattle.rx_typed.specs.PlainTree.{plain-TypedTree}
use Rattle.rx_typeck_typed.specs.declared.typed.TypedFn.{TypedFn}
use Rattle.rx_lower_walks.specs.Walks.{Among}
use Rattle.rx_exits_plan.specs.Occurrences.{Occurrence, the_variable, occurrences}
use Rattle.rx_exits_plan.specs.PlainPlan.{plain-Exit, outs_in}
use Rattle.rx_exits_plan.specs.declared.plan.ExitOuts.{ExitOuts}
use Rattle.rx_hoist_naming.specs.DeclaredNames.{declared_names}

-- whether a struct or enum stands there
abbrev pub is_type_item : Option ItemTree → Bool
is_type_item (Some (plain.struct_item s d)) = true
is_type_item (Some (plain.enum_item s d)) = true
is_type_item _ = false

abbrev mutual
  pub NamesTypes : ProgramTree → Shape Kind → Type 0
  NamesTypes P (integer k) = Unit {0}
  NamesTypes P boolean = Unit {0}
  NamesTypes P (tuple_of ts) = NameTypes P ts
  NamesTypes P (reference m t) = NamesTypes P t
  NamesTypes P (named i) = is_type_item (slice_get P i) ≡ true

  pub NameTypes : ProgramTree → Shapes Kind → Type 0
  NameTypes P no_shape = Unit {0}
  NameTypes P (shape_and t ts) = NamesTypes P t × NameTypes P ts

-- each variable that a function's tree names or declares has a name among those that its item declares
abbrev pub HasNames : ProgramTree → TypedFn → Type 0
HasNames P f = Every (λ (o : Occurrence). the_variable o < length (declared_names (slice_get P f.item))) (occurrences (plain-TypedTree f.tree).body)

-- an exit that is listed more than once hands out the same each time
abbrev pub OutsAgree : List ExitOuts → Type 0
OutsAgree es = (e : ExitOuts) → Among e es → outs_in es (plain-Exit e.exit) ≡ e.outs
