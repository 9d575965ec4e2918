-- What expressions, statements and blocks are spelled as, without parentheses round the whole. The number is the depth of the line on
-- which they begin. The truth value says that the `&` of a borrow is the second half of a mark `&&` that stands before it.
use Rattle.std.specs.Prelude.{ℕ, suc, Bool, true, false, not, ◌&&◌, List, [], ◌∷◌, ◌++◌, Option, Some, None, codes}
use Rattle.rx_tree.specs.declared.tree.Ident.{Ident}
use Rattle.rx_tree.specs.Plain as plain
use Rattle.rx_tree.specs.Plain.{PatternTree, Expression, Expressions, OptionalExpression, OptionalExpressions, FieldExpressions, Arms, Body, Statement, Statements}
use Rattle.rx_lex.specs.declared.token.Class.TheVariants.{Format}
use Rattle.rx_lex.specs.Words.{format_text}
use Rattle.rx_print_spelling.specs.Strengths as at
use Rattle.rx_print_spelling.specs.Pieces.{Piece, word, mark, keyword, identifier, name, lifetime, number, index, truth, space, line, tuple_of, arguments_of, fields_of, mutable_pieces}
use Rattle.rx_print_spelling.specs.Types.{annotation_pieces, reference_pieces}
use Rattle.rx_print_spelling.specs.Patterns.{pattern_pieces}
use Rattle.rx_print_spelling.specs.Places.{operator_text, update_text, left_strength, right_strength, is_block, placed, tested, stated}

-- a mark with a space on each side
abbrev pub between : List ℕ → List Piece → List Piece
between w ps = space ∷ mark w ∷ space ∷ ps

-- a pattern, and what it is to fit
abbrev pub fitted : PatternTree → List Piece → List Piece
fitted p ps = keyword (codes "let") ∷ space ∷ (pattern_pieces p ++ between (codes "=") ps)

-- before a loop
abbrev pub label_pieces : Option Ident → List Piece
label_pieces None = []
label_pieces (Some l) = lifetime l ∷ mark (codes ":") ∷ space ∷ []

-- behind `break` and `continue`
abbrev pub target_pieces : Option Ident → List Piece
target_pieces None = []
target_pieces (Some l) = space ∷ lifetime l ∷ []

abbrev pub semicolon : Bool → List Piece
semicolon false = []
semicolon true = mark (codes ";") ∷ []

-- an arm whose body is a block has no comma
abbrev pub arm_comma : Bool → List Piece
arm_comma true = []
arm_comma false = mark (codes ",") ∷ []

-- whether nothing stands between the braces of a block
abbrev pub is_empty : Statements → OptionalExpression → Bool
is_empty plain.no_statement plain.absent = true
is_empty _ _ = false

-- the closing brace stands on a line of its own, unless the block is empty
abbrev pub closing : ℕ → Bool → List Piece
closing depth true = mark (codes "}") ∷ []
closing depth false = line depth ∷ mark (codes "}") ∷ []

abbrev pub is_borrow : Expression → Bool
is_borrow (plain.borrow s m e) = true
is_borrow _ = false

abbrev mutual
  pub pieces : Bool → ℕ → Expression → List Piece
  pieces second depth (plain.int s v k) = number v k ∷ []
  pieces second depth (plain.bool s b) = truth b ∷ []
  pieces second depth (plain.tuple s es) = tuple_of (each depth es)
  pieces second depth (plain.var s x) = identifier x ∷ []
  pieces second depth (plain.field s e n) = placed at.postfix e (pieces false depth e) ++ (mark (codes ".") ∷ name n ∷ [])
  pieces second depth (plain.part s e i) = placed at.postfix e (pieces false depth e) ++ (mark (codes ".") ∷ index i ∷ [])
  pieces second depth (plain.deref s e) = mark (codes "*") ∷ placed at.unary e (pieces false depth e)
  pieces second depth (plain.negate s e) = mark (codes "-") ∷ placed at.unary e (pieces false depth e)
  pieces second depth (plain.invert s e) = mark (codes "!") ∷ placed at.unary e (pieces false depth e)
  pieces second depth (plain.borrow s m e) =
      reference_pieces second (not m && is_borrow e) (mutable_pieces m ++ placed at.unary e (pieces false depth e)) (pieces true depth e)
  pieces second depth (plain.binary s o a b) =
      placed (left_strength o) a (pieces false depth a) ++ between (operator_text o) (placed (right_strength o) b (pieces false depth b))
  pieces second depth (plain.assign s a b) = placed at.disjunction a (pieces false depth a) ++ between (codes "=") (pieces false depth b)
  pieces second depth (plain.update s o a b) = placed at.disjunction a (pieces false depth a) ++ between (update_text o) (pieces false depth b)
  pieces second depth (plain.call s f es) = name f ∷ arguments_of (each depth es)
  pieces second depth (plain.next_input s) =
      identifier (codes "rt") ∷ mark (codes "::") ∷ identifier (codes "next") ∷ mark (codes "(") ∷ mark (codes ")") ∷ []
  pieces second depth (plain.variant s a v es) = name a ∷ mark (codes "::") ∷ name v ∷ optional_list depth es
  pieces second depth (plain.make s n fs) = name n ∷ space ∷ fields_of (each_field depth fs)
  pieces second depth (plain.print s e) =
      identifier (codes "println") ∷ mark (codes "!") ∷ mark (codes "(") ∷ word Format format_text ∷ mark (codes ",") ∷ space
      ∷ (pieces false depth e ++ mark (codes ")") ∷ [])
  pieces second depth (plain.block s b) = block depth b
  pieces second depth (plain.if s c b y) =
      keyword (codes "if") ∷ space ∷ (tested at.disjunction c (pieces false depth c) ++ (space ∷ (block depth b ++ otherwise depth y)))
  pieces second depth (plain.if_let s p e b y) =
      keyword (codes "if") ∷ space ∷ (fitted p (tested at.comparison e (pieces false depth e)) ++ (space ∷ (block depth b ++ otherwise depth y)))
  pieces second depth (plain.match s e as') =
      keyword (codes "match") ∷ space
      ∷ (tested at.disjunction e (pieces false depth e) ++ (space ∷ mark (codes "{") ∷ (arms (suc depth) as' ++ (line depth ∷ mark (codes "}") ∷ []))))
  pieces second depth (plain.loop s l b) = label_pieces l ++ (keyword (codes "loop") ∷ space ∷ block depth b)
  pieces second depth (plain.while s l c b) =
      label_pieces l ++ (keyword (codes "while") ∷ space ∷ (tested at.disjunction c (pieces false depth c) ++ (space ∷ block depth b)))
  pieces second depth (plain.while_let s l p e b) =
      label_pieces l ++ (keyword (codes "while") ∷ space ∷ (fitted p (tested at.comparison e (pieces false depth e)) ++ (space ∷ block depth b)))
  pieces second depth (plain.break s l) = keyword (codes "break") ∷ target_pieces l
  pieces second depth (plain.continue s l) = keyword (codes "continue") ∷ target_pieces l
  pieces second depth (plain.return s e) = keyword (codes "return") ∷ returned depth e

  pub each : ℕ → Expressions → List (List Piece)
  each depth plain.no_expression = []
  each depth (plain.expression_and e es) = pieces false depth e ∷ each depth es

  -- what a variant is given
  pub optional_list : ℕ → OptionalExpressions → List Piece
  optional_list depth plain.no_list = []
  optional_list depth (plain.a_list es) = arguments_of (each depth es)

  pub each_field : ℕ → FieldExpressions → List (List Piece)
  each_field depth plain.no_field = []
  each_field depth (plain.field_and n e fs) = (name n ∷ mark (codes ":") ∷ space ∷ pieces false depth e) ∷ each_field depth fs

  pub returned : ℕ → OptionalExpression → List Piece
  returned depth plain.absent = []
  returned depth (plain.present e) = space ∷ pieces false depth e

  pub otherwise : ℕ → OptionalExpression → List Piece
  otherwise depth plain.absent = []
  otherwise depth (plain.present e) = space ∷ keyword (codes "else") ∷ space ∷ pieces false depth e

  -- each arm on a line of its own
  pub arms : ℕ → Arms → List Piece
  arms depth plain.no_arm = []
  arms depth (plain.arm_and p e rest) =
      line depth ∷ (pattern_pieces p ++ between (codes "=>") (stated e (pieces false depth e) ++ (arm_comma (is_block e) ++ arms depth rest)))

  pub block : ℕ → Body → List Piece
  block depth (plain.body s ss y) =
      mark (codes "{") ∷ (statements (suc depth) ss ++ (tail (suc depth) y ++ closing depth (is_empty ss y)))

  pub statement : ℕ → Statement → List Piece
  statement depth (plain.let_statement s p t i) =
      keyword (codes "let") ∷ space ∷ (pattern_pieces p ++ (annotation_pieces t ++ (initial depth i ++ mark (codes ";") ∷ [])))
  statement depth (plain.expression_statement s e b) = stated e (pieces false depth e) ++ semicolon b

  -- each statement on a line of its own
  pub statements : ℕ → Statements → List Piece
  statements depth plain.no_statement = []
  statements depth (plain.statement_and a ss) = line depth ∷ (statement depth a ++ statements depth ss)

  pub tail : ℕ → OptionalExpression → List Piece
  tail depth plain.absent = []
  tail depth (plain.present e) = line depth ∷ stated e (pieces false depth e)

  -- what a `let` is given
  pub initial : ℕ → OptionalExpression → List Piece
  initial depth plain.absent = []
  initial depth (plain.present e) = between (codes "=") (pieces false depth e)
