-- In the spelling of expressions, statements and blocks each word ends before the next: by recursion on the tree.
use Rattle.std.proofs.Common.{◌≡◌, ℕ, suc, ◌≤◌, Bool, true, false, List, [], ◌∷◌, ◌++◌, Option, Some, None, codes, refl, sym, ap, ◌∙◌, arith, append_assoc}
use Rattle.std.specs.Prelude.{not, ◌&&◌, nat_lt}
use Rattle.std.specs.Fmt.{decimal}
use Rattle.std.proofs.lemmas.Bool.{and_parts, ltb-false, false≢true, le-ltb}
use Rattle.rx_core.specs.declared.types.Span.{Span}
use Rattle.rx_core.specs.Bytes.{is_one_of}
use Rattle.rx_tree.specs.declared.tree.Ident.{Ident}
use Rattle.rx_tree.specs.declared.tree.BinaryOp.{BinaryOp}
use Rattle.rx_tree.specs.declared.tree.BinaryOp.TheVariants as op
use Rattle.rx_tree.specs.declared.tree.UpdateOp.{UpdateOp}
use Rattle.rx_tree.specs.declared.tree.UpdateOp.TheVariants as update_op
use Rattle.rx_tree.specs.Plain as plain
use Rattle.rx_tree.specs.Plain.{TypeTree, PatternTree, Expression, Expressions, OptionalExpression, OptionalExpressions, FieldExpressions, Arms, Body, Statement, Statements}
use Rattle.rx_lex.specs.declared.token.Class.TheVariants.{Format}
use Rattle.rx_lex.specs.Words as words
use Rattle.rx_lex.specs.Words.{IsWord, goes_on, keywords}
use Rattle.rx_lex.specs.Numerals.{suffix_text}
use Rattle.rx_lex.proofs.Standing.{stands_before_blank}
use Rattle.rx_print_spelling.specs.Pieces.{Piece, word, space, flat, mark, keyword, name, identifier, truth, line, enclosed, mutable_pieces, with_ampersand, arguments_of, fields_of}
use Rattle.rx_print_spelling.specs.Types.{annotation_pieces}
use Rattle.rx_print_spelling.specs.Patterns.{pattern_pieces}
use Rattle.rx_print_spelling.specs.Places.{weakness, too_weak, strength, left_strength, right_strength, operator_text, update_text, placed, tested, stated, unfit, goes_on as is_more, is_block}
use Rattle.rx_print_spelling.specs.Expressions.{pieces, fitted, each, each_field, optional_list, arms, block, statement, statements, tail, initial, otherwise, returned, between, label_pieces, target_pieces, semicolon, arm_comma, closing, is_empty, is_borrow}
use Rattle.rx_print_spelling.specs.Formed.{MaybeLasting, Formed, FormedList, FormedOptionalList, FormedFields, FormedOptional, FormedElse, FormedArms, FormedBody, FormedStatement, FormedStatements, WrittenType}
use Rattle.rx_print_spelling.proofs.DecimalDigits.{decimal_numeral, plain_numeral}
use Rattle.rx_print_spelling.proofs.Pieces.{flat_then}
use Rattle.rx_print_spelling.proofs.Standing.{Quiet, Apart, Ends, EachEnds, ends, ended, nothing, word_then, whole, identifier_then, keyword_then, lifetime_then, number_then, line_then, space_then, appended, joined, close, follows, follows_more, minus_then, star_then, not_then, ampersand_then, identifier_follows, number_follows, ends_enclosed, tuple_ends, arguments_stand, fields_stand, mutable_stand}
use Rattle.rx_print_spelling.proofs.TypesStand.{lifetime_ends, lifetime_follows, identifier_front, ampersand_front, number_ends, truth_ends, annotation_ends, pattern_ends}

-- ---- what may stand behind the mark of a unary operator

not_weak : (e : Expression) → too_weak 0 e ≡ false → weakness e ≤ 0
not_weak e h = ltb-false 0 (weakness e) h

strong : (e : Expression) → too_weak 0 e ≡ false → too_weak 1 e ≡ false
strong e h = let l = not_weak e h in le-ltb 1 (weakness e) (omega (arith, l))

no_borrow : (e : Expression) → too_weak 0 e ≡ false → is_borrow e ≡ false
no_borrow (plain.borrow s m e) h = absurd (cc)
no_borrow _ h = refl

weak_operator : (o : BinaryOp) → nat_lt 1 (strength o) ≡ true
weak_operator op.Or = refl
weak_operator op.And = refl
weak_operator op.Eq = refl
weak_operator op.Ne = refl
weak_operator op.Lt = refl
weak_operator op.Le = refl
weak_operator op.Gt = refl
weak_operator op.Ge = refl
weak_operator op.Add = refl
weak_operator op.Sub = refl
weak_operator op.Mul = refl
weak_operator op.Div = refl
weak_operator op.Rem = refl

truth_front : (b : Bool) (rest : List ℕ) → follows false (flat (truth b ∷ []) ++ rest) ≡ true
truth_front true rest = refl
truth_front false rest = refl

label_front : (l : Option Ident) (w : List ℕ) (ps : List Piece) (rest : List ℕ) → MaybeLasting l → follows false (flat (keyword w ∷ ps) ++ rest) ≡ true
    → follows false (flat (label_pieces l ++ (keyword w ∷ ps)) ++ rest) ≡ true
label_front None w ps rest f h = h
label_front (Some l) w ps rest f h = ap (follows false) (append_assoc l.name _ rest) ∙ lifetime_follows l.name _ f.0

-- an operand on the left of a step
step_front : (e : Expression) (ps qs : List Piece) (rest : List ℕ)
    → (too_weak 1 e ≡ false → (rest : List ℕ) → follows (is_borrow e) (flat ps ++ rest) ≡ true) → follows false (flat (placed 0 e ps ++ qs) ++ rest) ≡ true
step_front e ps qs rest h = ap (follows false) (flat_then (placed 0 e ps) qs rest) ∙ by (too_weak 0 e) refl
  where
    by : (b : Bool) → too_weak 0 e ≡ b → follows false (flat (enclosed b ps) ++ (flat qs ++ rest)) ≡ true
    by true k = refl
    by false k = ap (λ b. follows b (flat ps ++ (flat qs ++ rest))) (sym (no_borrow e k)) ∙ h (strong e k) (flat qs ++ rest)

expression_front : (e : Expression) (depth : ℕ) → Formed e → too_weak 1 e ≡ false → (rest : List ℕ) → follows (is_borrow e) (flat (pieces false depth e) ++ rest) ≡ true
expression_front (plain.int s v k) depth f w rest =
    ap (follows false) (append_assoc (decimal v ++ suffix_text k) [] rest) ∙ number_follows false (decimal v ++ suffix_text k) rest (decimal_numeral v k f)
expression_front (plain.bool s b) depth f w rest = truth_front b rest
expression_front (plain.tuple s es) depth f w rest = refl
expression_front (plain.var s x) depth f w rest = ap (follows false) (append_assoc x [] rest) ∙ identifier_follows false x rest f
expression_front (plain.field s e n) depth f w rest = step_front e (pieces false depth e) _ rest (expression_front e depth f.0)
expression_front (plain.part s e i) depth f w rest = step_front e (pieces false depth e) _ rest (expression_front e depth f.0)
expression_front (plain.deref s e) depth f w rest = refl
expression_front (plain.negate s e) depth f w rest = refl
expression_front (plain.invert s e) depth f w rest = refl
expression_front (plain.borrow s m e) depth f w rest = ampersand_front (not m && is_borrow e) _ _ rest
expression_front (plain.binary s o a b) depth f w rest = absurd (false≢true (sym w ∙ weak_operator o))
expression_front (plain.assign s a b) depth f w rest = absurd (false≢true (sym w))
expression_front (plain.update s o a b) depth f w rest = absurd (false≢true (sym w))
expression_front (plain.call s n es) depth f w rest = identifier_front false n (arguments_of (each depth es)) rest f.0
expression_front (plain.next_input s) depth f w rest = refl
expression_front (plain.variant s a v es) depth f w rest = identifier_front false a (mark (codes "::") ∷ name v ∷ optional_list depth es) rest f.0
expression_front (plain.make s n fs) depth f w rest = identifier_front false n (space ∷ fields_of (each_field depth fs)) rest f.0
expression_front (plain.print s e) depth f w rest = refl
expression_front (plain.block s (plain.body r ss y)) depth f w rest = refl
expression_front (plain.if s c b y) depth f w rest = refl
expression_front (plain.if_let s p e b y) depth f w rest = refl
expression_front (plain.match s e as') depth f w rest = refl
expression_front (plain.loop s l b) depth f w rest = label_front l (codes "loop") _ rest f.0 refl
expression_front (plain.while s l c b) depth f w rest = label_front l (codes "while") _ rest f.0 refl
expression_front (plain.while_let s l p e b) depth f w rest = label_front l (codes "while") _ rest f.0 refl
expression_front (plain.break s l) depth f w rest = absurd (false≢true (sym w))
expression_front (plain.continue s l) depth f w rest = absurd (false≢true (sym w))
expression_front (plain.return s y) depth f w rest = absurd (false≢true (sym w))

placed_front : (e : Expression) (depth : ℕ) → Formed e → (rest : List ℕ) → follows (is_borrow e) (flat (placed 1 e (pieces false depth e)) ++ rest) ≡ true
placed_front e depth f rest = by (too_weak 1 e) refl
  where
    open_front : (b : Bool) (ps : List Piece) → follows b (flat (enclosed true ps) ++ rest) ≡ true
    open_front true ps = refl
    open_front false ps = refl

    by : (b : Bool) → too_weak 1 e ≡ b → follows (is_borrow e) (flat (enclosed b (pieces false depth e)) ++ rest) ≡ true
    by true k = open_front (is_borrow e) (pieces false depth e)
    by false k = expression_front e depth f k rest

unary_front : (e : Expression) (depth : ℕ) → Formed e → (rest : List ℕ) → follows true (flat (placed 1 e (pieces false depth e)) ++ rest) ≡ true
unary_front e depth f rest = follows_more (is_borrow e) (flat (placed 1 e (pieces false depth e)) ++ rest) (placed_front e depth f rest)

-- ---- what is claimed of an expression

pub record StandsExpression (depth : ℕ) (e : Expression) : Type 0 where
  pub alone : Ends (pieces false depth e)
  pub second : is_borrow e ≡ true → Ends (pieces true depth e)

of_alone : (depth : ℕ) (e : Expression) → is_borrow e ≡ false → Ends (pieces false depth e) → StandsExpression depth e
of_alone depth e n f = record { alone = f; second = λ k. absurd (cc) }

at_place : (depth place : ℕ) (e : Expression) → StandsExpression depth e → Ends (placed place e (pieces false depth e))
at_place depth place e r = ends_enclosed (too_weak place e) (pieces false depth e) r.alone

at_test : (depth place : ℕ) (e : Expression) → StandsExpression depth e → Ends (tested place e (pieces false depth e))
at_test depth place e r = ends_enclosed (unfit place e) (pieces false depth e) r.alone

at_statement : (depth : ℕ) (e : Expression) → StandsExpression depth e → Ends (stated e (pieces false depth e))
at_statement depth e r = ends_enclosed (is_more e) (pieces false depth e) r.alone

-- ---- operators

pub between_then : {w : List ℕ} {ps : List Piece} {rest : List ℕ} → is_one_of w words.marks ≡ true → Apart ps rest → Apart (between w ps) rest
between_then {w} {ps} {rest} i s = space_then (word_then (words.mark i) (stands_before_blank 32 (flat ps ++ rest) (words.mark {w = w} i) refl) (space_then s))

operator_mark : (o : BinaryOp) → is_one_of (operator_text o) words.marks ≡ true
operator_mark op.Or = refl
operator_mark op.And = refl
operator_mark op.Eq = refl
operator_mark op.Ne = refl
operator_mark op.Lt = refl
operator_mark op.Le = refl
operator_mark op.Gt = refl
operator_mark op.Ge = refl
operator_mark op.Add = refl
operator_mark op.Sub = refl
operator_mark op.Mul = refl
operator_mark op.Div = refl
operator_mark op.Rem = refl

update_mark : (o : UpdateOp) → is_one_of (update_text o) words.marks ≡ true
update_mark update_op.Add = refl
update_mark update_op.Sub = refl
update_mark update_op.Mul = refl
update_mark update_op.Div = refl
update_mark update_op.Rem = refl

two_ends : (w : List ℕ) (ps qs : List Piece) → is_one_of w words.marks ≡ true → Ends ps → Ends qs → Ends (ps ++ between w qs)
two_ends w ps qs i f g = ends (λ rest q. joined ps f (refl, refl) (between_then i (ended g rest q)))

borrow_apart : (depth : ℕ) (m : Bool) (e : Expression) → StandsExpression depth e → Ends (mutable_pieces m ++ placed 1 e (pieces false depth e))
borrow_apart depth m e r = ends (λ rest q. appended (mutable_pieces m) (mutable_stand m _) (ended (at_place depth 1 e r) rest q))

apart_front : (depth : ℕ) (m : Bool) (e : Expression) → Formed e → (not m && is_borrow e) ≡ false → (rest : List ℕ)
    → follows false (flat (mutable_pieces m ++ placed 1 e (pieces false depth e)) ++ rest) ≡ true
apart_front depth true e f k rest = refl
apart_front depth false e f k rest = ap (λ b. follows b (flat (placed 1 e (pieces false depth e)) ++ rest)) (sym k) ∙ placed_front e depth f rest

borrow_ends : (depth : ℕ) (m : Bool) (e : Expression) → Formed e → StandsExpression depth e → (b : Bool) → (not m && is_borrow e) ≡ b
    → Ends (with_ampersand b (mutable_pieces m ++ placed 1 e (pieces false depth e)) (pieces true depth e))
borrow_ends depth m e f r false k = ends (λ rest q. ampersand_then (apart_front depth m e f k rest) (ended (borrow_apart depth m e r) rest q))
borrow_ends depth m e f r true k = ends (λ rest q. whole refl refl (ended (r.second (and_parts (not m) (is_borrow e) k).1) rest q))

borrow_stands : (depth : ℕ) (s : Span) (m : Bool) (e : Expression) → Formed e → StandsExpression depth e → StandsExpression depth (plain.borrow s m e)
borrow_stands depth s m e f r = record { alone = borrow_ends depth m e f r (not m && is_borrow e) refl; second = λ k. borrow_apart depth m e r }

-- ---- small parts

label_stands : (l : Option Ident) → MaybeLasting l → (rest : List ℕ) → Apart (label_pieces l) rest
label_stands None f rest = nothing rest
label_stands (Some l) f rest = lifetime_then f.0 refl (word_then (words.mark refl) refl (space_then (nothing rest)))

target_ends : (w : List ℕ) (l : Option Ident) → is_one_of w keywords ≡ true → MaybeLasting l → Ends (keyword w ∷ target_pieces l)
target_ends w None i f = ends (λ rest q. keyword_then i q.0 (nothing rest))
target_ends w (Some l) i f = ends (λ rest q. keyword_then i refl (space_then (ended (lifetime_ends l f) rest q)))

loop_ends : (l : Option Ident) (bs : List Piece) → MaybeLasting l → Ends bs → Ends (label_pieces l ++ (keyword (codes "loop") ∷ space ∷ bs))
loop_ends l bs f g = ends (λ rest q. appended (label_pieces l) (label_stands l f _) (keyword_then refl refl (space_then (ended g rest q))))

while_ends : (l : Option Ident) (cs bs : List Piece) → MaybeLasting l → Ends cs → Ends bs
    → Ends (label_pieces l ++ (keyword (codes "while") ∷ space ∷ (cs ++ (space ∷ bs))))
while_ends l cs bs f g h = ends (λ rest q.
    appended (label_pieces l) (label_stands l f _) (keyword_then refl refl (space_then (joined cs g (refl, refl) (space_then (ended h rest q))))))

fitted_ends : (p : PatternTree) (es : List Piece) → Ends (pattern_pieces p) → Ends es → Ends (fitted p es)
fitted_ends p es f g = ends (λ rest q. keyword_then refl refl (space_then (ended (two_ends (codes "=") (pattern_pieces p) es refl f g) rest q)))

-- ---- what follows is quiet

arms_quiet : (depth : ℕ) (as' : Arms) (rest : List ℕ) → Quiet rest → Quiet (flat (arms depth as') ++ rest)
arms_quiet depth plain.no_arm rest q = q
arms_quiet depth (plain.arm_and p e more) rest q = (refl, refl)

comma_quiet : (b : Bool) (ps : List Piece) (rest : List ℕ) → Quiet (flat ps ++ rest) → Quiet (flat (arm_comma b ++ ps) ++ rest)
comma_quiet true ps rest q = q
comma_quiet false ps rest q = (refl, refl)

comma_then : (b : Bool) {ps : List Piece} {rest : List ℕ} → Apart ps rest → Apart (arm_comma b ++ ps) rest
comma_then true s = s
comma_then false s = whole refl refl s

statements_quiet : (depth : ℕ) (ss : Statements) (rest : List ℕ) → Quiet rest → Quiet (flat (statements depth ss) ++ rest)
statements_quiet depth plain.no_statement rest q = q
statements_quiet depth (plain.statement_and a ss) rest q = (refl, refl)

closing_quiet : (depth : ℕ) (b : Bool) (rest : List ℕ) → Quiet (flat (closing depth b) ++ rest)
closing_quiet depth true rest = (refl, refl)
closing_quiet depth false rest = (refl, refl)

closing_stands : (depth : ℕ) (b : Bool) (rest : List ℕ) → Apart (closing depth b) rest
closing_stands depth true rest = close refl refl
closing_stands depth false rest = line_then depth (close refl refl)

semicolon_quiet : (b : Bool) (rest : List ℕ) → Quiet rest → Quiet (flat (semicolon b) ++ rest)
semicolon_quiet true rest q = (refl, refl)
semicolon_quiet false rest q = q

semicolon_stands : (b : Bool) (rest : List ℕ) → Apart (semicolon b) rest
semicolon_stands true rest = close refl refl
semicolon_stands false rest = nothing rest

initial_quiet : (depth : ℕ) (i : OptionalExpression) (rest : List ℕ) → Quiet (flat (initial depth i ++ mark (codes ";") ∷ []) ++ rest)
initial_quiet depth plain.absent rest = (refl, refl)
initial_quiet depth (plain.present e) rest = (refl, refl)

annotation_quiet : (depth : ℕ) (t : Option TypeTree) (i : OptionalExpression) (rest : List ℕ)
    → Quiet (flat (annotation_pieces t ++ (initial depth i ++ mark (codes ";") ∷ [])) ++ rest)
annotation_quiet depth None i rest = initial_quiet depth i rest
annotation_quiet depth (Some t) i rest = (refl, refl)

otherwise_quiet : (depth : ℕ) (y : OptionalExpression) (rest : List ℕ) → Quiet rest → Quiet (flat (otherwise depth y) ++ rest)
otherwise_quiet depth plain.absent rest q = q
otherwise_quiet depth (plain.present e) rest q = (refl, refl)

returned_quiet : (depth : ℕ) (y : OptionalExpression) (rest : List ℕ) → Quiet rest → Quiet (flat (returned depth y) ++ rest)
returned_quiet depth plain.absent rest q = q
returned_quiet depth (plain.present e) rest q = (refl, refl)

list_quiet : (depth : ℕ) (es : OptionalExpressions) (rest : List ℕ) → Quiet rest → Quiet (flat (optional_list depth es) ++ rest)
list_quiet depth plain.no_list rest q = q
list_quiet depth (plain.a_list es) rest q = (refl, refl)

block_ends : (depth : ℕ) (ss : Statements) (y : OptionalExpression) → Ends (statements (suc depth) ss) → Ends (tail (suc depth) y)
    → Ends (mark (codes "{") ∷ (statements (suc depth) ss ++ (tail (suc depth) y ++ closing depth (is_empty ss y))))
block_ends depth ss y f g = ends (λ rest q.
    whole refl refl (joined (statements (suc depth) ss) f (quiet y (is_empty ss y) rest) (joined (tail (suc depth) y) g (closing_quiet depth (is_empty ss y) rest) (closing_stands depth (is_empty ss y) rest))))
  where
    quiet : (y : OptionalExpression) (b : Bool) (rest : List ℕ) → Quiet (flat (tail (suc depth) y ++ closing depth b) ++ rest)
    quiet plain.absent b rest = closing_quiet depth b rest
    quiet (plain.present e) b rest = (refl, refl)

arm_ends : (depth : ℕ) (ps us rest' : List Piece) (b : Bool) → Ends ps → Ends us → Ends rest' → ((rest : List ℕ) → Quiet rest → Quiet (flat rest' ++ rest))
    → Ends (line depth ∷ (ps ++ between (codes "=>") (us ++ (arm_comma b ++ rest'))))
arm_ends depth ps us rest' b f g h k = ends (λ rest q.
    line_then depth (joined ps f (refl, refl) (between_then refl (joined us g (comma_quiet b rest' rest (k rest q)) (comma_then b (ended h rest q))))))

let_ends : (depth : ℕ) (ps : List Piece) (t : Option TypeTree) (i : OptionalExpression) → Ends ps → WrittenType t → Ends (initial depth i)
    → Ends (keyword (codes "let") ∷ space ∷ (ps ++ (annotation_pieces t ++ (initial depth i ++ mark (codes ";") ∷ []))))
let_ends depth ps t i f w g = ends (λ rest q.
    keyword_then refl refl (space_then (joined ps f (annotation_quiet depth t i rest)
    (joined (annotation_pieces t) (annotation_ends t w) (initial_quiet depth i rest) (joined (initial depth i) g (refl, refl) (close refl refl))))))

if_ends : (depth : ℕ) (cs bs : List Piece) (y : OptionalExpression) → Ends cs → Ends bs → Ends (otherwise depth y)
    → Ends (keyword (codes "if") ∷ space ∷ (cs ++ (space ∷ (bs ++ otherwise depth y))))
if_ends depth cs bs y f g h = ends (λ rest q.
    keyword_then refl refl (space_then (joined cs f (refl, refl) (space_then (joined bs g (otherwise_quiet depth y rest q) (ended h rest q))))))

match_ends : (depth : ℕ) (cs as' : List Piece) → Ends cs → Ends as'
    → Ends (keyword (codes "match") ∷ space
    ∷ (cs ++ (space ∷ mark (codes "{") ∷ (as' ++ (line depth ∷ mark (codes "}") ∷ [])))))
match_ends depth cs as' f g = ends (λ rest q.
    keyword_then refl refl (space_then (joined cs f (refl, refl) (space_then (whole refl refl (joined as' g (refl, refl) (line_then depth (close refl refl))))))))

print_ends : (ps : List Piece) → Ends ps
    → Ends (identifier (codes "println") ∷ mark (codes "!") ∷ mark (codes "(") ∷ word Format words.format_text
    ∷ mark (codes ",") ∷ space ∷ (ps ++ mark (codes ")") ∷ []))
print_ends ps f = ends (λ rest q.
    identifier_then refl refl (word_then (words.mark refl) refl (whole refl refl (word_then (words.format refl) refl (whole refl refl (space_then (joined ps f (refl, refl) (close refl refl))))))))

-- ---- all

mutual
  pub expression_stands : (e : Expression) (depth : ℕ) → Formed e → StandsExpression depth e
  expression_stands (plain.int s v k) depth f = of_alone depth (plain.int s v k) refl (number_ends v k f)
  expression_stands (plain.bool s b) depth f = of_alone depth (plain.bool s b) refl (truth_ends b)
  expression_stands (plain.tuple s es) depth f = of_alone depth (plain.tuple s es) refl (tuple_ends (each depth es) (list_stands es depth f))
  expression_stands (plain.var s x) depth f = of_alone depth (plain.var s x) refl (ends (λ rest q. identifier_then f q.0 (nothing rest)))
  expression_stands (plain.field s e n) depth f =
      let r = expression_stands e depth f.0 in
      of_alone depth (plain.field s e n) refl
      (ends (λ rest q. joined (placed 0 e (pieces false depth e)) (at_place depth 0 e r) (refl, refl) (whole refl refl (identifier_then f.1 q.0 (nothing rest)))))
  expression_stands (plain.part s e i) depth f =
      let r = expression_stands e depth f.0 in
      of_alone depth (plain.part s e i) refl
      (ends (λ rest q. joined (placed 0 e (pieces false depth e)) (at_place depth 0 e r) (refl, refl) (whole refl refl (number_then (words.number (plain_numeral i f.1) f.1) q.0 (nothing rest)))))
  expression_stands (plain.deref s e) depth f =
      let r = expression_stands e depth f in
      of_alone depth (plain.deref s e) refl (ends (λ rest q. star_then true (unary_front e depth f rest) (ended (at_place depth 1 e r) rest q)))
  expression_stands (plain.negate s e) depth f =
      let r = expression_stands e depth f in
      of_alone depth (plain.negate s e) refl (ends (λ rest q. minus_then true (unary_front e depth f rest) (ended (at_place depth 1 e r) rest q)))
  expression_stands (plain.invert s e) depth f =
      let r = expression_stands e depth f in
      of_alone depth (plain.invert s e) refl (ends (λ rest q. not_then true (unary_front e depth f rest) (ended (at_place depth 1 e r) rest q)))
  expression_stands (plain.borrow s m e) depth f = borrow_stands depth s m e f (expression_stands e depth f)
  expression_stands (plain.binary s o a b) depth f =
      of_alone depth (plain.binary s o a b) refl (two_ends (operator_text o) _ _ (operator_mark o) (at_place depth (left_strength o) a (expression_stands a depth f.0)) (at_place depth (right_strength o) b (expression_stands b depth f.1)))
  expression_stands (plain.assign s a b) depth f =
      of_alone depth (plain.assign s a b) refl (two_ends (codes "=") _ _ refl (at_place depth 6 a (expression_stands a depth f.0)) (expression_stands b depth f.1).alone)
  expression_stands (plain.update s o a b) depth f =
      of_alone depth (plain.update s o a b) refl (two_ends (update_text o) _ _ (update_mark o) (at_place depth 6 a (expression_stands a depth f.0)) (expression_stands b depth f.1).alone)
  expression_stands (plain.call s n es) depth f =
      of_alone depth (plain.call s n es) refl (ends (λ rest q. identifier_then f.0 refl (arguments_stand (each depth es) (list_stands es depth f.1) rest)))
  expression_stands (plain.next_input s) depth f =
      of_alone depth (plain.next_input s) refl (ends (λ rest q. identifier_then refl refl (whole refl refl (identifier_then refl refl (whole refl refl (close refl refl))))))
  expression_stands (plain.variant s a v es) depth f =
      let r = optional_stands es depth f.2 in
      of_alone depth (plain.variant s a v es) refl
      (ends (λ rest q. identifier_then f.0 refl (whole refl refl (identifier_then f.1 (list_quiet depth es rest q).0 (ended r rest q)))))
  expression_stands (plain.make s n fs) depth f =
      of_alone depth (plain.make s n fs) refl (ends (λ rest q. identifier_then f.0 refl (space_then (fields_stand (each_field depth fs) (fields_end fs depth f.1) rest))))
  expression_stands (plain.print s e) depth f = of_alone depth (plain.print s e) refl (print_ends _ (expression_stands e depth f).alone)
  expression_stands (plain.block s b) depth f = of_alone depth (plain.block s b) refl (body_ends b depth f)
  expression_stands (plain.if s c b y) depth f =
      of_alone depth (plain.if s c b y) refl (if_ends depth _ _ y (at_test depth 6 c (expression_stands c depth f.0)) (body_ends b depth f.1) (otherwise_ends y depth f.2))
  expression_stands (plain.if_let s p e b y) depth f =
      of_alone depth (plain.if_let s p e b y) refl
      (if_ends depth _ _ y (fitted_ends p _ (pattern_ends p f.0) (at_test depth 4 e (expression_stands e depth f.1))) (body_ends b depth f.2) (otherwise_ends y depth f.3))
  expression_stands (plain.match s e as') depth f =
      of_alone depth (plain.match s e as') refl (match_ends depth _ _ (at_test depth 6 e (expression_stands e depth f.0)) (arms_end as' (suc depth) f.2))
  expression_stands (plain.loop s l b) depth f = of_alone depth (plain.loop s l b) refl (loop_ends l _ f.0 (body_ends b depth f.1))
  expression_stands (plain.while s l c b) depth f =
      of_alone depth (plain.while s l c b) refl (while_ends l _ _ f.0 (at_test depth 6 c (expression_stands c depth f.1)) (body_ends b depth f.2))
  expression_stands (plain.while_let s l p e b) depth f =
      of_alone depth (plain.while_let s l p e b) refl
      (while_ends l _ _ f.0 (fitted_ends p _ (pattern_ends p f.1) (at_test depth 4 e (expression_stands e depth f.2))) (body_ends b depth f.3))
  expression_stands (plain.break s l) depth f = of_alone depth (plain.break s l) refl (target_ends (codes "break") l refl f)
  expression_stands (plain.continue s l) depth f = of_alone depth (plain.continue s l) refl (target_ends (codes "continue") l refl f)
  expression_stands (plain.return s y) depth f =
      let r = returned_ends y depth f in
      of_alone depth (plain.return s y) refl (ends (λ rest q. keyword_then refl (returned_quiet depth y rest q).0 (ended r rest q)))

  list_stands : (es : Expressions) (depth : ℕ) → FormedList es → EachEnds (each depth es)
  list_stands plain.no_expression depth f = tt
  list_stands (plain.expression_and e es) depth f = ((expression_stands e depth f.0).alone, list_stands es depth f.1)

  optional_stands : (es : OptionalExpressions) (depth : ℕ) → FormedOptionalList es → Ends (optional_list depth es)
  optional_stands plain.no_list depth f = ends (λ rest q. nothing rest)
  optional_stands (plain.a_list es) depth f = let r = list_stands es depth f.1 in ends (λ rest q. arguments_stand (each depth es) r rest)

  fields_end : (fs : FieldExpressions) (depth : ℕ) → FormedFields fs → EachEnds (each_field depth fs)
  fields_end plain.no_field depth f = tt
  fields_end (plain.field_and n e fs) depth f =
      let r = (expression_stands e depth f.1).alone in
      (ends (λ rest q. identifier_then f.0 refl (word_then (words.mark refl) refl (space_then (ended r rest q)))), fields_end fs depth f.2)

  returned_ends : (y : OptionalExpression) (depth : ℕ) → FormedOptional y → Ends (returned depth y)
  returned_ends plain.absent depth f = ends (λ rest q. nothing rest)
  returned_ends (plain.present e) depth f = let r = (expression_stands e depth f).alone in ends (λ rest q. space_then (ended r rest q))

  otherwise_ends : (y : OptionalExpression) (depth : ℕ) → FormedElse y → Ends (otherwise depth y)
  otherwise_ends plain.absent depth f = ends (λ rest q. nothing rest)
  otherwise_ends (plain.present e) depth f = let r = (expression_stands e depth f.1).alone in ends (λ rest q. space_then (keyword_then refl refl (space_then (ended r rest q))))

  initial_ends : (y : OptionalExpression) (depth : ℕ) → FormedOptional y → Ends (initial depth y)
  initial_ends plain.absent depth f = ends (λ rest q. nothing rest)
  initial_ends (plain.present e) depth f = let r = (expression_stands e depth f).alone in ends (λ rest q. between_then refl (ended r rest q))

  tail_ends : (y : OptionalExpression) (depth : ℕ) → FormedOptional y → Ends (tail depth y)
  tail_ends plain.absent depth f = ends (λ rest q. nothing rest)
  tail_ends (plain.present e) depth f = let r = expression_stands e depth f in ends (λ rest q. line_then depth (ended (at_statement depth e r) rest q))

  arms_end : (as' : Arms) (depth : ℕ) → FormedArms as' → Ends (arms depth as')
  arms_end plain.no_arm depth f = ends (λ rest q. nothing rest)
  arms_end (plain.arm_and p e more) depth f =
      arm_ends depth (pattern_pieces p) (stated e (pieces false depth e)) (arms depth more) (is_block e) (pattern_ends p f.0) (at_statement depth e (expression_stands e depth f.1))
      (arms_end more depth f.2) (arms_quiet depth more)

  pub body_ends : (b : Body) (depth : ℕ) → FormedBody b → Ends (block depth b)
  body_ends (plain.body s ss y) depth f = block_ends depth ss y (statements_end ss y (suc depth) f.0) (tail_ends y (suc depth) f.1)

  statement_ends : (a : Statement) (depth : ℕ) → FormedStatement a → Ends (statement depth a)
  statement_ends (plain.let_statement s p t i) depth f = let_ends depth (pattern_pieces p) t i (pattern_ends p f.1) f.2 (initial_ends i depth f.3)
  statement_ends (plain.expression_statement s e b) depth f =
      let r = expression_stands e depth f.1 in
      ends (λ rest q. joined (stated e (pieces false depth e)) (at_statement depth e r) (semicolon_quiet b rest q) (semicolon_stands b rest))

  statements_end : (ss : Statements) (y : OptionalExpression) (depth : ℕ) → FormedStatements ss y → Ends (statements depth ss)
  statements_end plain.no_statement y depth f = ends (λ rest q. nothing rest)
  statements_end (plain.statement_and a ss) y depth f =
      let r = statement_ends a depth f.0 in
      let k = statements_end ss y depth f.2 in
      ends (λ rest q. line_then depth (joined (statement depth a) r (statements_quiet depth ss rest q) (ended k rest q)))
