-- The tokens that statements and blocks are spelled with are derived as them, from what is claimed of their expressions.
use Rattle.std.proofs.Common.{◌≡◌, ℕ, suc, ◌+◌, max, Bool, true, false, List, [], ◌∷◌, ◌++◌, Option, Some, None, codes, length, refl, sym, ap, subst, ◌∙◌, arith, append_assoc, append-nil}
use Rattle.std.specs.Prelude.{◌≢◌, ⊤, not, ◌&&◌, option_map}
use Rattle.rx_core.specs.declared.types.Span.{Span}
use Rattle.rx_tree.specs.declared.tree.Ident.{Ident}
use Rattle.rx_tree.specs.Plain as plain
use Rattle.rx_tree.specs.Plain.{TypeTree, PatternTree, Expression, OptionalExpression, Body, Statement, Statements}
use Rattle.rx_tree.specs.PlainOf.{statements_of}
use Rattle.rx_tree.specs.Erase.{erase_optional, erase_statement, erase_statements, erase_body, erase_type}
use Rattle.rx_lex.specs.declared.token.Class.TheVariants.{Identifier, Keyword}
use Rattle.rx_lex.specs.Tok.{Tok}
use Rattle.rx_lex.specs.Tokens.{token_at}
use Rattle.rx_parse_grammar.specs.grammar.Expressions as g
use Rattle.rx_parse_grammar.specs.grammar.Expressions.{IsExpression, IsAnnotation, IsStatement, AreStatements, IsBlock, IsLike}
use Rattle.rx_parse_grammar.proofs.ExpressionsFront.{expression_some, like_some}
use Rattle.rx_print_spelling.specs.Pieces.{Piece, mark, name, indent, enclosed, mutable_pieces}
use Rattle.rx_print_spelling.specs.Types.{annotation_pieces, type_pieces}
use Rattle.rx_print_spelling.specs.Patterns.{pattern_pieces}
use Rattle.rx_print_spelling.specs.Places.{is_like, begins, goes_on, stated}
use Rattle.rx_print_spelling.specs.Expressions.{pieces, initial, statement, statements, tail, block, closing, is_empty}
use Rattle.rx_print_spelling.specs.Levels.{enclosed_levels, written_levels, expression_levels, stated_levels, statement_levels, statements_levels, tail_levels, block_levels}
use Rattle.rx_print_spelling.specs.Formed.{WrittenType, MoreFollows}
use Rattle.rx_print_spelling.proofs.Pieces.{places, past, places-append}
use Rattle.rx_print_spelling.proofs.Derives.{Derives, mark_at, at_height, closed, two_places}
use Rattle.rx_print_spelling.proofs.TypesRead.{type_reads, mutable_reads}
use Rattle.rx_print_spelling.proofs.PatternsRead.{ReadsPattern}
use Rattle.rx_print_spelling.proofs.Claims.{AsLike, AsStated, otherwise, ending, Reads, stated_reads}

-- ---- `let`

abbrev AsAnnotation : List Tok → Option TypeTree → ℕ → Type 0
AsAnnotation ts y h = Derives (λ us z. IsAnnotation us z h) (option_map erase_type) ts (option_map erase_type y)

annotation_reads : (y : Option TypeTree) → WrittenType y → (at : ℕ) → AsAnnotation (places at (annotation_pieces y)) y (written_levels y)
annotation_reads None f at = record { tree = None; derived = g.no_type; same = refl }
annotation_reads (Some t) f at =
    let a = (type_reads t f).alone (at + 1 + 1) in
    record { tree = Some a.tree; derived = g.with_type (mark_at at (codes ":")) (places (at + 1 + 1) (type_pieces false t)) a.tree _ (refl, refl) a.derived refl; same = rw a.same refl }

abbrev pub AsStatement : List Tok → Statement → ℕ → Type 0
AsStatement ts a h = Derives (λ us b. IsStatement us b h) erase_statement ts (erase_statement a)

pub let_reads : (depth : ℕ) (s : Span) (p : PatternTree) (y : Option TypeTree) (e : Expression) → ReadsPattern p → WrittenType y → Reads depth e → (at : ℕ)
    → AsStatement (places at (statement depth (plain.let_statement s p y (plain.present e)))) (plain.let_statement s p y (plain.present e))
    (statement_levels (plain.let_statement s p y (plain.present e)))
let_reads depth s p y e r f k at =
    let ps = pattern_pieces p in
    let ys = annotation_pieces y in
    let from : ℕ = past (at + 3 + 1) ps in
    let start : ℕ = past from ys + 1 + 1 + 1 in
    let q = mark_at (past from ys + 1) (codes "=") in
    let z = mark_at (past start (pieces false depth e)) (codes ";") in
    let a = r (at + 3 + 1) in
    let b = annotation_reads y f from in
    let c = k.whole start in
    record {
      tree = _;
      derived = g.let_with (token_at at Keyword (codes "let")) q z (places (at + 3 + 1) ps) (places from ys) (places start (pieces false depth e)) a.tree b.tree c.tree _ _ _
          (refl, refl) (refl, refl) (refl, refl) a.derived b.derived c.derived
          (ap (λ l. token_at at Keyword (codes "let") ∷ l) (places-append (at + 3 + 1) ps (ys ++ (initial depth (plain.present e) ++ mark (codes ";") ∷ []))
          ∙ ap (λ l. places (at + 3 + 1) ps ++ l) (places-append from ys (initial depth (plain.present e) ++ mark (codes ";") ∷ [])
          ∙ ap (λ l. places from ys ++ (q ∷ l)) (closed start (pieces false depth e) (codes ";")))));
      same = rw (a.same, b.same, c.same) refl;
    }

pub declared_reads : (depth : ℕ) (s v : Span) (n : Ident) (m : Bool) (y : Option TypeTree) → WrittenType y → (at : ℕ)
    → AsStatement (places at (statement depth (plain.let_statement s (plain.bind v n m) y plain.absent))) (plain.let_statement s (plain.bind v n m) y plain.absent)
    (statement_levels (plain.let_statement s (plain.bind v n m) y plain.absent))
declared_reads depth s v n m y f at =
    let ms = mutable_pieces m in
    let ys = annotation_pieces y in
    let named : ℕ = past (at + 3 + 1) ms in
    let from : ℕ = named + length n.name in
    let z = mark_at (past from ys) (codes ";") in
    let t = token_at named Identifier n.name in
    let b = annotation_reads y f from in
    at_height IsStatement erase_statement _ _ (max 1 (written_levels y)) (max (max 1 (written_levels y)) 0) (omega arith)
    (record {
      tree = _;
      derived = g.let_without (token_at at Keyword (codes "let")) t z (places (at + 3 + 1) ms) (places from ys) m b.tree _
          (refl, refl) refl (refl, refl) (mutable_reads m (at + 3 + 1)) b.derived
          (ap (λ l. token_at at Keyword (codes "let") ∷ l) (two_places (at + 3 + 1) ms (name n ∷ []) (ys ++ mark (codes ";") ∷ [])
          ∙ ap (λ l. places (at + 3 + 1) ms ++ (t ∷ l)) (closed from ys (codes ";"))
          ∙ sym (append_assoc (places (at + 3 + 1) ms) (t ∷ []) (places from ys ++ z ∷ []))));
      same = rw b.same refl;
    })

-- ---- expressions as statements

done_reads : (s : Span) (e : Expression) (ps : List Piece) (h at : ℕ) → AsStated (places at ps) e h
    → AsStatement (places at (ps ++ mark (codes ";") ∷ [])) (plain.expression_statement s e true) h
done_reads s e ps h at (otherwise a n) = record {
  tree = _;
  derived = g.done (mark_at (past at ps) (codes ";")) (places at ps) a.tree h (refl, refl) a.derived n (closed at ps (codes ";"));
  same = rw a.same refl;
}
done_reads s e ps h at (ending k a) = record {
  tree = _;
  derived = g.done_like (mark_at (past at ps) (codes ";")) (places at ps) a.tree h (refl, refl) a.derived (closed at ps (codes ";"));
  same = rw a.same refl;
}

pub evaluated_reads : (depth : ℕ) (s : Span) (e : Expression) → Reads depth e → (at : ℕ)
    → AsStatement (places at (statement depth (plain.expression_statement s e true))) (plain.expression_statement s e true) (stated_levels e (expression_levels e))
evaluated_reads depth s e r at = done_reads s e (stated e (pieces false depth e)) _ at (stated_reads depth e r at)

pub like_stated : (depth : ℕ) (e : Expression) → is_like e ≡ true → Reads depth e → (at : ℕ)
    → AsLike (places at (stated e (pieces false depth e))) e (stated_levels e (expression_levels e))
like_stated depth e k r at =
    let no : goes_on e ≡ false = ap (λ b. not b && begins e) k in
    subst (λ b. AsLike (places at (enclosed b (pieces false depth e))) e (enclosed_levels b (expression_levels e))) (sym no) (r.like k at)

-- ---- between the braces of a block

pub record AsBetween (ts : List Tok) (ss : Statements) (y : OptionalExpression) (h : ℕ) : Type 0 where
  pub list : List Statement
  pub last : OptionalExpression
  pub derived : AreStatements ts list last h
  pub same : erase_statements (statements_of list) ≡ erase_statements ss
  pub same_tail : erase_optional last ≡ erase_optional y

abbrev pub ReadsBetween : ℕ → Statements → OptionalExpression → Type 0
ReadsBetween depth ss y = (at : ℕ) → AsBetween (places at (statements depth ss ++ tail depth y)) ss y (max (statements_levels ss) (tail_levels y))

between_height : (ts : List Tok) (ss : Statements) (y : OptionalExpression) (h k : ℕ) → h ≡ k → AsBetween ts ss y h → AsBetween ts ss y k
between_height ts ss y h k e d = subst (λ n. AsBetween ts ss y n) e d

pub end_reads : (depth : ℕ) → ReadsBetween depth plain.no_statement plain.absent
end_reads depth at =
    between_height [] plain.no_statement plain.absent 0 (max 0 0) (omega arith) (record { list = []; last = plain.absent; derived = g.end; same = refl; same_tail = refl })

as_tail : (ts : List Tok) (e : Expression) (h : ℕ) → AsStated ts e h → AsBetween ts plain.no_statement (plain.present e) h
as_tail ts e h (otherwise a n) = record { list = []; last = plain.present a.tree; derived = g.tail a.derived n; same = refl; same_tail = rw a.same refl }
as_tail ts e h (ending k a) = record { list = []; last = plain.present a.tree; derived = g.tail_like a.derived; same = refl; same_tail = rw a.same refl }

pub tail_reads : (depth : ℕ) (e : Expression) → Reads depth e → ReadsBetween depth plain.no_statement (plain.present e)
tail_reads depth e r at =
    let from : ℕ = at + length (10 ∷ indent depth) in
    between_height _ plain.no_statement (plain.present e) (stated_levels e (expression_levels e)) (max 0 (stated_levels e (expression_levels e))) (omega arith)
    (as_tail (places from (stated e (pieces false depth e))) e _ (stated_reads depth e r from))

pub statement_then : (depth : ℕ) (a : Statement) (ss : Statements) (y : OptionalExpression) → ((at : ℕ) → AsStatement (places at (statement depth a)) a (statement_levels a))
    → ReadsBetween depth ss y → ReadsBetween depth (plain.statement_and a ss) y
statement_then depth a ss y r k at =
    let from : ℕ = at + length (10 ∷ indent depth) in
    let ps = statement depth a in
    let x = r from in
    let z = k (past from ps) in
    between_height _ (plain.statement_and a ss) y (max (statement_levels a) (max (statements_levels ss) (tail_levels y))) (max (max (statement_levels a) (statements_levels ss)) (tail_levels y)) (omega arith)
    (record {
      list = x.tree ∷ z.list;
      last = z.last;
      derived = g.statement_and (places from ps) (places (past from ps) (statements depth ss ++ tail depth y)) x.tree z.list z.last _ _ x.derived z.derived
          (two_places from ps (statements depth ss) (tail depth y));
      same = rw (x.same, z.same) refl;
      same_tail = z.same_tail;
    })

-- ---- more follows

push_some : (us : List Tok) (z : Tok) → us ++ z ∷ [] ≢ []
push_some [] z e = cc
push_some (u ∷ us) z e = cc

cons_some : {ts us : List Tok} {t : Tok} → ts ≡ t ∷ us → ts ≢ []
cons_some is e = let k = sym is ∙ e in cc

statement_some : {ts : List Tok} {a : Statement} {h : ℕ} → IsStatement ts a h → ts ≢ []
statement_some (g.let_with t q z ps ys us p y x m n k i j l d e f is) w = cons_some is w
statement_some (g.let_without t n z ms ys m y h i j k d e is) w = cons_some is w
statement_some (g.done z us x h i d n is) e = push_some us z (sym is ∙ e)
statement_some (g.done_like z us x h i d is) e = push_some us z (sym is ∙ e)

left_some : (us vs ts : List Tok) → us ≢ [] → ts ≡ us ++ vs → ts ≢ []
left_some [] vs ts n is e = n refl
left_some (u ∷ us) vs ts n is e = let k = sym is ∙ e in cc

abbrev HasMore : List Statement → OptionalExpression → Type 0
HasMore [] plain.absent = ⊥
HasMore [] (plain.present e) = ⊤
HasMore (a ∷ ss) y = ⊤

between_some : {ts : List Tok} {ss : List Statement} {y : OptionalExpression} {h : ℕ} → AreStatements ts ss y h → HasMore ss y → ts ≢ []
between_some g.end m e = m
between_some (g.tail d n) m e = expression_some d e
between_some (g.tail_like d) m e = like_some d e
between_some (g.statement_and us vs a ss y m n d k is) h e = left_some us vs _ (statement_some d) is e
between_some (g.like_and us vs x ss y m n d k n' is) h e = left_some us vs _ (like_some d) is e

more_of : (ss : Statements) (y : OptionalExpression) (list : List Statement) (last : OptionalExpression) → MoreFollows false ss y
    → erase_statements (statements_of list) ≡ erase_statements ss → erase_optional last ≡ erase_optional y → HasMore list last
more_of plain.no_statement plain.absent list last m e f = absurd m
more_of ss y (a ∷ list) last m e f = tt
more_of ss y [] (plain.present x) m e f = tt
more_of plain.no_statement (plain.present x) [] plain.absent m e f = absurd (cc)
more_of (plain.statement_and a ss) y [] plain.absent m e f = absurd (cc)

pub like_then : (depth : ℕ) (s : Span) (e : Expression) (ss : Statements) (y : OptionalExpression) → is_like e ≡ true → Reads depth e → MoreFollows false ss y
    → ReadsBetween depth ss y → ReadsBetween depth (plain.statement_and (plain.expression_statement s e false) ss) y
like_then depth s e ss y i r m k at =
    let from : ℕ = at + length (10 ∷ indent depth) in
    let ps = stated e (pieces false depth e) in
    let x = like_stated depth e i r from in
    let z = k (past from ps) in
    between_height _ (plain.statement_and (plain.expression_statement s e false) ss) y (max (stated_levels e (expression_levels e)) (max (statements_levels ss) (tail_levels y)))
    (max (max (stated_levels e (expression_levels e)) (statements_levels ss)) (tail_levels y)) (omega arith)
    (record {
      list = _;
      last = z.last;
      derived = g.like_and (places from ps) (places (past from ps) (statements depth ss ++ tail depth y)) x.tree z.list z.last _ _ x.derived z.derived
          (between_some z.derived (more_of ss y z.list z.last m z.same z.same_tail))
          (ap (λ l. places from ((l ++ statements depth ss) ++ tail depth y)) (append-nil ps) ∙ two_places from ps (statements depth ss) (tail depth y));
      same = rw (x.same, z.same) refl;
      same_tail = z.same_tail;
    })

-- ---- blocks

abbrev pub AsBlock : List Tok → Body → ℕ → Type 0
AsBlock ts b h = Derives (λ us z. IsBlock us z h) erase_body ts (erase_body b)

abbrev pub ReadsBlock : ℕ → Body → Type 0
ReadsBlock depth b = (at : ℕ) → AsBlock (places at (block depth b)) b (block_levels b)

brace_place : (depth at : ℕ) (b : Bool) → (n : ℕ) × (places at (closing depth b) ≡ mark_at n (codes "}") ∷ [])
brace_place depth at true = (at, refl)
brace_place depth at false = (at + length (10 ∷ indent depth), refl)

pub block_reads : (depth : ℕ) (s : Span) (ss : Statements) (y : OptionalExpression) → ReadsBetween (suc depth) ss y → ReadsBlock depth (plain.body s ss y)
block_reads depth s ss y k at =
    let sp = statements (suc depth) ss in
    let tp = tail (suc depth) y in
    let r = k (at + 1) in
    let c = brace_place depth (past (at + 1) (sp ++ tp)) (is_empty ss y) in
    record {
      tree = _;
      derived = g.braces (mark_at at (codes "{")) (mark_at c.0 (codes "}")) (places (at + 1) (sp ++ tp)) r.list r.last _ (refl, refl) (refl, refl) r.derived
          (ap (λ l. mark_at at (codes "{") ∷ l) (ap (places (at + 1)) (sym (append_assoc sp tp (closing depth (is_empty ss y))))
          ∙ places-append (at + 1) (sp ++ tp) (closing depth (is_empty ss y)) ∙ ap (λ l. places (at + 1) (sp ++ tp) ++ l) c.1));
      same = rw (r.same, r.same_tail) refl;
    }
