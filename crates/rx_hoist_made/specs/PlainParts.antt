-- Statements and a tail, as plain trees.
use Rattle.std.specs.Prelude.{List, Option, map, option_map}
use Rattle.std.specs.Borrow.{Bor}
use Rattle.rx_tree.specs.declared.tree.Ident.{Ident}
use Rattle.std.specs.Option.{option_copied}
use Rattle.rx_tree.specs.PlainOf.{plain-Expr, plain-Stmt, optional_of}
use Rattle.rx_hoist_extraction.specs.Run as run
use Rattle.rx_hoist_made.specs.declared.parts.Parts.{Parts}
use Rattle.rx_hoist_made.specs.declared.parts.RunParts.{RunParts}

abbrev pub plain-Parts : Parts → run.Parts
plain-Parts p = record { statements = map plain-Stmt p.stmts; tail = optional_of (option_map plain-Expr p.tail) }

abbrev pub plain-RunParts : RunParts → run.Parts
plain-RunParts p = record { statements = map plain-Stmt p.stmts.now; tail = optional_of (option_map plain-Expr (option_copied p.tail)) }

abbrev pub plain-Labels : List (Option (Bor Ident)) → List (Option Ident)
plain-Labels ls = map (option_map (λ l. l.now)) ls
