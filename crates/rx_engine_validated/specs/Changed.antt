-- The function that is changed, behind which new items stand, is like the text's in the typed programs (Rust Reference, "Items").
use Rattle.std.specs.Prelude.{◌≡◌, length, Ok}
use Rattle.rx_tree.specs.Plain as plain
use Rattle.rx_tree.specs.Plain.{ProgramTree}
use Rattle.rx_resolve_names.specs.declared.resolved.ItemNames.{ItemNames}
use Rattle.rx_resolve_names.specs.Items.{in_item}
use Rattle.rx_typed.specs.PlainTree.{plain-TypedTree}
use Rattle.rx_typeck_typed.specs.declared.typed.TypedFn.{TypedFn}
use Rattle.rx_typeck_typed.specs.Typing.{FunctionTyped, Given}
use Rattle.rx_engine_names.specs.Insertion.{number_there, Inserted}
use Rattle.rx_engine_simulation.specs.Turns.{Allowance}
use Rattle.rx_engine_simulation.specs.Openings.{Openings}
use Rattle.rx_engine_simulation.specs.Programs.{LikeFunction}

-- whichever its names and types are
abbrev pub ChangedAlike : (p q : ProgramTree) → Inserted p q → Given → Given → Openings → Allowance → Type 0
ChangedAlike p q c G H O gain = (x y : ItemNames) → in_item p (length c.before) (plain.function_item c.place c.old) ≡ Ok x
    → in_item q (length c.before) (plain.function_item c.place c.changed) ≡ Ok y
    → (g h : TypedFn) → FunctionTyped G (length c.before) c.place c.old x.names x.vars g → FunctionTyped H (length c.before) c.place c.changed y.names y.vars h
    → LikeFunction (number_there c) O gain (plain-TypedTree g.tree) (plain-TypedTree h.tree)
