-- The edits of a run by its parts and the labels of the loops round it, in the order of the text.
use Rattle.std.specs.Prelude.{List, [], ◌++◌, Option}
use Rattle.rx_core.specs.declared.types.Span.{Span}
use Rattle.rx_tree.specs.declared.tree.Ident.{Ident}
use Rattle.rx_tree.specs.PlainOf.{statements_of}
use Rattle.rx_lex.specs.Tok.{Tok}
use Rattle.rx_hoist_extraction.specs.Names.{behind_all}
use Rattle.rx_hoist_extraction.specs.Run.{Parts, numbered}
use Rattle.rx_splice_laws.specs.Edits.{Edit}
use Rattle.rx_splice_laws.specs.EditsOf.{EditsAt, all_statement_edits, optional_edits}
use Rattle.rx_splice_laws.specs.RunEnd.{RunEnd}
use Rattle.rx_splice_laws.specs.SplicedText.{put_if_any, tail_start}

abbrev pub edits_by : EditsAt → List Tok → Span → List (Option Ident) → Parts → RunEnd → List Edit
edits_by A all r labels p e =
    all_statement_edits A [] (numbered 1 labels) (statements_of p.statements)
    ++ (put_if_any (tail_start all r.start p.statements) e.before
    ++ (optional_edits A (behind_all [] (statements_of p.statements)) (numbered 1 labels) p.tail
    ++ put_if_any r.end e.behind))
