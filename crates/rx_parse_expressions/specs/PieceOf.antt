-- What the code's parts of a block, and the statements that were found, stand for.
use Rattle.std.specs.Prelude.{ℕ, Option, Some, None, map, option_map}
use Rattle.rx_tree.specs.Plain.{TypeTree}
use Rattle.rx_tree.specs.PlainOf.{plain-TypeText, plain-Expr, plain-Stmt, optional_of}
use Rattle.rx_parse_cursor.specs.GotOf.{got_of}
use Rattle.rx_parse_expressions.specs.declared.statements.Annotated.{Annotated}
use Rattle.rx_parse_expressions.specs.declared.statements.Initial.{Initial}
use Rattle.rx_parse_expressions.specs.declared.blocks.Ending.{Ending}
use Rattle.rx_parse_expressions.specs.declared.blocks.Turn.{Turn}
use Rattle.rx_parse_expressions.specs.declared.blocks.Turn.TheVariants as turns
use Rattle.rx_parse_expressions.specs.declared.statements.Piece.{Piece}
use Rattle.rx_parse_expressions.specs.declared.statements.Piece.TheVariants.{Statement, Ended, Tail}
use Rattle.rx_parse_expressions.specs.Pieces as pieces
use Rattle.rx_parse_expressions.specs.Pieces.{InitialTree, EndingTree, PieceTree, TurnTree}

abbrev pub annotation_of : Annotated → Option TypeTree × ℕ
annotation_of a = (option_map plain-TypeText a.typ, a.height)

abbrev pub initial_of : Initial → InitialTree
initial_of e = record { value = optional_of (option_map plain-Expr e.value); height = e.height; close = e.close }

abbrev pub ending_of : Ending → EndingTree
ending_of e = record { tail = optional_of (option_map plain-Expr e.tail); close = e.close }

abbrev pub piece_of : Piece → PieceTree
piece_of (Statement a) = pieces.statement (got_of plain-Stmt a)
piece_of (Ended s) = pieces.ended s
piece_of (Tail x s) = pieces.tail (got_of plain-Expr x) s

-- and the end of the block, where it is reached
abbrev pub turn_of : Turn → TurnTree
turn_of (turns.Further f) = record { list = map plain-Stmt f.list; height = f.height; ending = None }
turn_of (turns.Ended f e) = record { list = map plain-Stmt f.list; height = f.height; ending = Some (ending_of e) }
