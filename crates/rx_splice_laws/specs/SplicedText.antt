-- The text of an extraction (Rust Reference, "Comments", "Whitespace": both are kept). The bytes outside the run stay, but for pinned
-- kinds and types. The run gives way to the call, and behind its function stand the new items, where the run's own bytes are the
-- statements of the new function, with their edits.
use Rattle.std.specs.Prelude.{ℕ, false, ◌==◌, if◌then◌else◌, nat_le, List, [], ◌∷◌, ◌++◌, map, take, drop, codes}
use Rattle.rx_tree.specs.Plain as plain
use Rattle.rx_tree.specs.Plain.{OptionalExpression, Function, Statement, ProgramTree}
use Rattle.rx_tree.specs.PlainOf.{statements_of}
use Rattle.rx_tree.specs.Lists.{statement_span}
use Rattle.rx_tree.specs.Spans.{body_span}
use Rattle.rx_lex.specs.Tok.{Tok}
use Rattle.rx_print_spelling.specs.Pieces.{Piece, flat, mark, keyword, name, space, line, separated}
use Rattle.rx_print_spelling.specs.Places.{stated}
use Rattle.rx_print_spelling.specs.Expressions.{pieces, statement}
use Rattle.rx_print_spelling.specs.Items.{in_angles, bound_pieces, parameter_pieces, result_pieces, enumeration_pieces}
use Rattle.rx_hoist_extraction.specs.Names.{behind_all}
use Rattle.rx_hoist_extraction.specs.Run.{Parts, Run, run_parts, labels_round, loops_round}
use Rattle.rx_hoist_extraction.specs.Plan.{Bounds, Plan, has_enum}
use Rattle.rx_hoist_extraction.specs.Pinned.{pinned_function}
use Rattle.rx_hoist_extraction.specs.NewBody.{declared}
use Rattle.rx_hoist_extraction.specs.NewEnum.{new_enum}
use Rattle.rx_hoist_extraction.specs.NewFunction.{new_function}
use Rattle.rx_hoist_extraction.specs.Call.{replacement}
use Rattle.rx_splice_laws.specs.Edits.{Edit, spliced, put}
use Rattle.rx_splice_laws.specs.EditsOf.{all_statement_edits, optional_edits, body_edits}
use Rattle.rx_splice_laws.specs.Indent.{indent_at, four, reindented}
use Rattle.rx_splice_laws.specs.Places.{first_start, tokens_from}
use Rattle.rx_splice_laws.specs.Moving.{run_edits, pin_edits}
use Rattle.rx_splice_laws.specs.MovedBy.{moved_by}
use Rattle.rx_splice_laws.specs.RunEnd.{RunEnd, end_of}
use Rattle.rx_splice_laws.specs.SplicedRun.{between}

-- ---- the run in the new function

-- where the tail begins, with the parentheses round it: the first token behind the statements
abbrev pub behind_statements : ℕ → List Statement → ℕ
behind_statements at [] = at
behind_statements at (a ∷ ss) = behind_statements (statement_span a).end ss

abbrev pub tail_start : List Tok → ℕ → List Statement → ℕ
tail_start all at ss = first_start at (tokens_from (behind_statements at ss) all)

abbrev pub put_if_any : ℕ → List Piece → List Edit
put_if_any at [] = []
put_if_any at (p ∷ ps) = put at (p ∷ ps) ∷ []

-- the end of the run as it stands in the text
abbrev pub run_end : ProgramTree → Run → Plan → Function → RunEnd
run_end P r pl f = end_of P pl r.span (run_parts r f)

-- all edits of the run's own bytes, in the order of the text
abbrev pub run_text_edits : ProgramTree → Run → Plan → Function → List Tok → List Edit
run_text_edits P r pl f all =
    let A = run_edits (moved_by P pl r.span) all in
    let p = run_parts r f in
    let e = run_end P r pl f in
    all_statement_edits A [] (loops_round r f) (statements_of p.statements)
    ++ (put_if_any (tail_start all r.span.start p.statements) e.before
    ++ (optional_edits A (behind_all [] (statements_of p.statements)) (loops_round r f) p.tail
    ++ put_if_any r.span.end e.behind))

-- each line after the first that begins with the run's indent begins with four spaces instead
abbrev pub run_text : List ℕ → List Tok → ProgramTree → Run → Plan → Function → List ℕ
run_text text all P r pl f =
    reindented (indent_at text r.span.start) (spliced r.span.start (between r.span.start r.span.end text) (run_text_edits P r pl f all))

-- ---- the new items: an empty line in front of each, no line feed behind the last

-- a function up to its `{`
abbrev pub header : Function → List Piece
header f =
    keyword (codes "fn") ∷ space ∷ name f.name
    ∷ (in_angles (map bound_pieces f.lifetimes)
    ++ (mark (codes "(") ∷ (separated (map parameter_pieces f.params) ++ (mark (codes ")") ∷ (result_pieces f.result ++ (space ∷ mark (codes "{") ∷ []))))))

abbrev pub lines : List Statement → List Piece
lines [] = []
lines (a ∷ ss) = line 1 ∷ (statement 1 a ++ lines ss)

abbrev pub tail_line : OptionalExpression → List Piece
tail_line plain.absent = []
tail_line (plain.present e) = line 1 ∷ stated e (pieces false 1 e)

abbrev pub enum_text : ProgramTree → Run → Plan → List ℕ
enum_text P r pl = if has_enum pl.exits then 10 ∷ 10 ∷ flat (enumeration_pieces (new_enum P pl r.span)) else []

-- f has its kinds and types pinned; `run` is the run's text, and `tail` what stands behind it
abbrev pub function_text : ProgramTree → Run → Plan → Bounds → Function → List ℕ → OptionalExpression → List ℕ
function_text P r pl bs f run tail =
    10 ∷ 10 ∷ (flat (header (new_function P pl bs r.span (loops_round r f) (run_parts r f)))
    ++ (flat (lines (declared P r.span pl.locals))
    ++ (10 ∷ (four ++ (run ++ (flat (tail_line tail) ++ (10 ∷ codes "}")))))))

-- ---- the call

-- further lines after the indent
abbrev pub indented : List ℕ → List ℕ → List ℕ
indented ind [] = []
indented ind (c ∷ cs) = if c == 10 then c ∷ (ind ++ indented ind cs) else c ∷ indented ind cs

-- statements and a tail, each on a line
abbrev pub call_pieces : List Statement → OptionalExpression → List Piece
call_pieces [] plain.absent = []
call_pieces [] (plain.present e) = stated e (pieces false 0 e)
call_pieces (a ∷ []) plain.absent = statement 0 a
call_pieces (a ∷ ss) o = statement 0 a ++ (line 0 ∷ call_pieces ss o)

abbrev pub call_text : List ℕ → Parts → List ℕ
call_text ind p = indented ind (flat (call_pieces p.statements p.tail))

-- ---- pinned kinds and types outside the run

abbrev pub edits_before : ℕ → List Edit → List Edit
edits_before at [] = []
edits_before at (e ∷ es) = if nat_le e.to at then e ∷ edits_before at es else edits_before at es

abbrev pub edits_behind : ℕ → List Edit → List Edit
edits_behind at [] = []
edits_behind at (e ∷ es) = if nat_le at e.from then e ∷ edits_behind at es else edits_behind at es

-- ---- the whole; f is the run's function, as it stands in the text with these tokens

abbrev pub spliced_text : List ℕ → List Tok → ProgramTree → Run → Plan → Bounds → Function → List ℕ
spliced_text text all P r pl bs f =
    let pins = body_edits (pin_edits (moved_by P pl r.span) all) [] [] f.body in
    let end = (body_span f.body).end in
    let g = pinned_function P r.span pl.pins f in
    spliced 0 (take r.span.start text) (edits_before r.span.start pins)
    ++ (call_text (indent_at text r.span.start) (replacement P pl r.span (labels_round r f) (run_parts r f))
    ++ (spliced r.span.end (between r.span.end end text) (edits_behind r.span.end pins)
    ++ (enum_text P r pl ++ (function_text P r pl bs g (run_text text all P r pl f) (run_end P r pl f).tail ++ drop end text))))
