-- What is written, and the statements that are left with the tail, are the whole.
use Rattle.std.proofs.Common.{◌≡◌, ◌++◌, drop, map}
use Rattle.std.specs.Prelude.{option_map}
use Rattle.rx_tree.specs.PlainOf.{plain-Expr, plain-Stmt, optional_of}
use Rattle.rx_print_spelling.specs.Pieces.{flat}
use Rattle.rx_splice_laws.specs.SplicedText.{call_pieces}
use Rattle.rx_splice_edits.proofs.CallLines.{left}
use Rattle.rx_splice_edits.proofs.text.push_parts.Given as goal

abbrev pub invariant-loop-stmt : goal.invariant-loop-stmt
invariant-loop-stmt l =
    l.out ++ left l.follows (drop l.stmt-index l.stmt-items) (optional_of (option_map plain-Expr l.parts.tail))
    ≡ l.fn.out ++ flat (call_pieces (map plain-Stmt l.stmt-items) (optional_of (option_map plain-Expr l.parts.tail)))
