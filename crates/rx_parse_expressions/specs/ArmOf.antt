-- What the code's values of arms, and the arms that were found, stand for.
use Rattle.std.specs.Prelude.{map}
use Rattle.rx_tree.specs.PlainOf.{plain-Expr, plain-Arm}
use Rattle.rx_parse_cursor.specs.GotOf.{got_of}
use Rattle.rx_parse_expressions.specs.declared.arms.ArmValue.{ArmValue}
use Rattle.rx_parse_expressions.specs.declared.arms.ArmsTurn.{ArmsTurn}
use Rattle.rx_parse_expressions.specs.Arms.{ValueTree, ArmsTree}

abbrev pub value_of : ArmValue → ValueTree
value_of v = record { value = got_of plain-Expr v.value; more = v.more }

-- and whether a further arm follows
abbrev pub turn_of : ArmsTurn → ArmsTree
turn_of t = record { list = map plain-Arm t.found.list; height = t.found.height; more = t.more }
