-- Parts of the canonical text of expressions, statements and blocks that a function of their own writes.
use Rattle.std.specs.Prelude.{ℕ, suc, Bool, true, false, List, [], ◌∷◌, ◌++◌, Option, codes}
use Rattle.rx_tree.specs.declared.tree.Ident.{Ident}
use Rattle.rx_tree.specs.declared.tree.BinaryOp.{BinaryOp}
use Rattle.rx_tree.specs.Plain as plain
use Rattle.rx_tree.specs.Plain.{TypeTree, PatternTree, Expression, Expressions, FieldExpressions, Arms, Body, Statement, Statements}
use Rattle.rx_lex.specs.declared.token.Class.TheVariants.{Format}
use Rattle.rx_lex.specs.Words.{format_text}
use Rattle.rx_print_spelling.specs.Pieces.{Piece, word, mark, keyword, identifier, name, index, space, line, arguments_of, fields_of, mutable_pieces, with_ampersand}
use Rattle.rx_print_spelling.specs.Types.{annotation_pieces}
use Rattle.rx_print_spelling.specs.Patterns.{pattern_pieces}
use Rattle.rx_print_spelling.specs.Strengths as at
use Rattle.rx_print_spelling.specs.Places.{operator_text, left_strength, right_strength, is_block, placed, tested, stated}
use Rattle.rx_print_spelling.specs.Expressions.{between, fitted, label_pieces, target_pieces, arm_comma, is_empty, closing, pieces, each, each_field, arms, block, statement, statements}

abbrev pub jump_pieces : List ℕ → Option Ident → List Piece
jump_pieces w l = keyword w ∷ target_pieces l

abbrev pub path_pieces : Ident → Ident → List Piece
path_pieces a v = name a ∷ mark (codes "::") ∷ name v ∷ []

abbrev pub member_pieces : ℕ → Expression → Ident → List Piece
member_pieces depth e n = placed at.postfix e (pieces false depth e) ++ (mark (codes ".") ∷ name n ∷ [])

abbrev pub part_pieces : ℕ → Expression → ℕ → List Piece
part_pieces depth e i = placed at.postfix e (pieces false depth e) ++ (mark (codes ".") ∷ index i ∷ [])

abbrev pub unary_pieces : ℕ → List ℕ → Expression → List Piece
unary_pieces depth w e = mark w ∷ placed at.unary e (pieces false depth e)

-- behind the `&` of a borrow
abbrev pub borrowed_pieces : ℕ → Bool → Expression → List Piece
borrowed_pieces depth m e = mutable_pieces m ++ placed at.unary e (pieces false depth e)

-- a borrow, or two whose `&` are one mark
abbrev pub pointer_pieces : ℕ → Bool → Bool → Expression → List Piece
pointer_pieces depth joined m e = with_ampersand joined (borrowed_pieces depth m e) (pieces true depth e)

abbrev pub binary_pieces : ℕ → BinaryOp → Expression → Expression → List Piece
binary_pieces depth o a b = placed (left_strength o) a (pieces false depth a) ++ between (operator_text o) (placed (right_strength o) b (pieces false depth b))

abbrev pub assigned_pieces : ℕ → List ℕ → Expression → Expression → List Piece
assigned_pieces depth w a b = placed at.disjunction a (pieces false depth a) ++ between w (pieces false depth b)

abbrev pub call_pieces : ℕ → Ident → Expressions → List Piece
call_pieces depth f es = name f ∷ arguments_of (each depth es)

abbrev pub variant_pieces : ℕ → Ident → Ident → Expressions → List Piece
variant_pieces depth a v es = name a ∷ mark (codes "::") ∷ name v ∷ arguments_of (each depth es)

abbrev pub make_pieces : ℕ → Ident → FieldExpressions → List Piece
make_pieces depth n fs = name n ∷ space ∷ fields_of (each_field depth fs)

abbrev pub field_pieces : ℕ → Ident × Expression → List Piece
field_pieces depth f = name f.0 ∷ mark (codes ":") ∷ space ∷ pieces false depth f.1

abbrev pub print_pieces : ℕ → Expression → List Piece
print_pieces depth e =
    identifier (codes "println") ∷ mark (codes "!") ∷ mark (codes "(") ∷ word Format format_text ∷ mark (codes ",") ∷ space ∷ (pieces false depth e ++ mark (codes ")") ∷ [])

-- as far as what follows `else`
abbrev pub if_pieces : ℕ → Expression → Body → List Piece
if_pieces depth c b = keyword (codes "if") ∷ space ∷ (tested at.disjunction c (pieces false depth c) ++ (space ∷ block depth b))

abbrev pub if_else_pieces : ℕ → Expression → Body → Expression → List Piece
if_else_pieces depth c b e =
    keyword (codes "if") ∷ space ∷ (tested at.disjunction c (pieces false depth c) ++ (space ∷ (block depth b ++ (space ∷ keyword (codes "else") ∷ space ∷ pieces false depth e))))

-- a pattern, and the expression that is to fit it
abbrev pub fitted_pieces : ℕ → PatternTree → Expression → List Piece
fitted_pieces depth p e = fitted p (tested at.comparison e (pieces false depth e))

abbrev pub if_let_pieces : ℕ → PatternTree → Expression → Body → List Piece
if_let_pieces depth p e b = keyword (codes "if") ∷ space ∷ (fitted_pieces depth p e ++ (space ∷ block depth b))

abbrev pub if_let_else_pieces : ℕ → PatternTree → Expression → Body → Expression → List Piece
if_let_else_pieces depth p e b y =
    keyword (codes "if") ∷ space ∷ (fitted_pieces depth p e ++ (space ∷ (block depth b ++ (space ∷ keyword (codes "else") ∷ space ∷ pieces false depth y))))

abbrev pub while_let_pieces : ℕ → Option Ident → PatternTree → Expression → Body → List Piece
while_let_pieces depth l p e b = label_pieces l ++ (keyword (codes "while") ∷ space ∷ (fitted_pieces depth p e ++ (space ∷ block depth b)))

abbrev pub loop_pieces : ℕ → Option Ident → Body → List Piece
loop_pieces depth l b = label_pieces l ++ (keyword (codes "loop") ∷ space ∷ block depth b)

abbrev pub while_pieces : ℕ → Option Ident → Expression → Body → List Piece
while_pieces depth l c b = label_pieces l ++ (keyword (codes "while") ∷ space ∷ (tested at.disjunction c (pieces false depth c) ++ (space ∷ block depth b)))

-- ---- arms

-- an arm on a line of its own
abbrev pub arm_pieces : ℕ → PatternTree × Expression → List Piece
arm_pieces depth a = line depth ∷ (pattern_pieces a.0 ++ between (codes "=>") (stated a.1 (pieces false depth a.1) ++ arm_comma (is_block a.1)))

abbrev pub match_pieces : ℕ → Expression → Arms → List Piece
match_pieces depth e as' =
    keyword (codes "match") ∷ space ∷ (tested at.disjunction e (pieces false depth e) ++ (space ∷ mark (codes "{") ∷ (arms (suc depth) as' ++ (line depth ∷ mark (codes "}") ∷ []))))

-- ---- statements and blocks

-- a `let` as far as its initialiser
abbrev pub declared_pieces : PatternTree → Option TypeTree → List Piece
declared_pieces p t = keyword (codes "let") ∷ space ∷ (pattern_pieces p ++ annotation_pieces t)

-- a statement on a line of its own
abbrev pub line_pieces : ℕ → Statement → List Piece
line_pieces depth a = line depth ∷ statement depth a

-- the value of a block on a line of its own
abbrev pub value_pieces : ℕ → Expression → List Piece
value_pieces depth e = line depth ∷ stated e (pieces false depth e)

-- a block without a value
abbrev pub bare_pieces : ℕ → Statements → List Piece
bare_pieces depth ss = mark (codes "{") ∷ (statements (suc depth) ss ++ closing depth (is_empty ss plain.absent))

-- a block with a value
abbrev pub valued_pieces : ℕ → Statements → Expression → List Piece
valued_pieces depth ss e = mark (codes "{") ∷ (statements (suc depth) ss ++ (value_pieces (suc depth) e ++ closing depth false))
