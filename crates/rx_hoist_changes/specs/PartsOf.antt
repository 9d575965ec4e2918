-- The parts that statements and maybe a tail stand for.
use Rattle.std.specs.Prelude.{List, map, Option, option_map}
use Rattle.rx_tree.specs.declared.tree.Stmt.{Stmt}
use Rattle.rx_tree.specs.declared.tree.Expr.{Expr}
use Rattle.rx_tree.specs.PlainOf.{plain-Stmt, plain-Expr, optional_of}
use Rattle.rx_hoist_extraction.specs.Run.{Parts}

abbrev pub parts_of : List Stmt × Option Expr → Parts
parts_of p = record { statements = map plain-Stmt p.0; tail = optional_of (option_map plain-Expr p.1) }
