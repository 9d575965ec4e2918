-- What the reading of expressions, arms and statements is put together from.
use Rattle.std.proofs.Common.{◌≡◌, ℕ, zero, suc, ◌≤◌, ◌<◌, max, Bool, true, false, List, [], ◌∷◌, ◌++◌, length, Option, Some, Ok, refl, sym, ap, subst, ◌∙◌, arith, append_assoc, append-nil}
use Rattle.std.specs.Prelude.{◌≢◌}
use Rattle.rx_core.specs.declared.types.Span.{Span}
use Rattle.rx_tree.specs.declared.tree.Ident.{Ident}
use Rattle.rx_tree.specs.Plain as plain
use Rattle.rx_tree.specs.Plain.{Expression, OptionalExpression, Body, PatternTree, Statement}
use Rattle.rx_tree.specs.PlainOf.{expressions_of, statements_of}
use Rattle.rx_tree.specs.declared.tree.UpdateOp.{UpdateOp}
use Rattle.rx_lex.specs.Tok.{Tok}
use Rattle.rx_parse_grammar.specs.declared.symbol.Symbol.{Symbol}
use Rattle.rx_parse_grammar.specs.declared.symbol.Symbol.TheVariants as symbol
use Rattle.rx_parse_grammar.specs.grammar.Words.{join, span_of}
use Rattle.rx_parse_grammar.specs.grammar.Patterns.{IsPattern}
use Rattle.rx_parse_grammar.specs.grammar.Expressions.{IsExpression, IsOperand, IsUnary, IsPostfix, IsPrimary, AreArguments, IsField, AreFields, IsLike, IsIf, IsElse, AreArms, IsBlock, IsStatement, AreStatements, IsLabel, no_label, label, IsUpdate, BeginsLike, Test, while_of}
use Rattle.rx_parse_grammar.specs.grammar.Expressions as g
use Rattle.rx_parse_grammar.specs.parser.Symbols.{symbol_of, peek}
use Rattle.rx_parse_grammar.specs.parser.Steps.{Parser, Got, node}
use Rattle.rx_parse_grammar.specs.parser.Lists.{Items}
use Rattle.rx_parse_grammar.specs.parser.Patterns.{begins_pattern}
use Rattle.rx_parse_grammar.specs.parser.Operators.{updates, setting, begins_like, begins_expression}
use Rattle.rx_parse_grammar.specs.parser.Expressions.{field, test, arms_from, arm_by, after_arm}
use Rattle.rx_parse_grammar.specs.parser.Blocks.{let_statement, closed, after_expression, after_like_by, expression_by, statement_by, statements_from, statements, block_of, operand, whole, like, block}
use Rattle.rx_parse_grammar.proofs.SymbolLemmas.{Stands, is_word}
use Rattle.rx_parse_grammar.proofs.Reading.{Reads, take, part, done, by, turned, here, there, along, first_is, got, items, node_is, span_between, span_to, differs, deeper, some_length, Element}
use Rattle.rx_parse_grammar.proofs.PatternsRead.{pattern_complete, pattern_front, ends_pattern}
use Rattle.rx_parse_grammar.proofs.OperatorLaws.{begins_other}
use Rattle.rx_parse_grammar.proofs.ExpressionsFront.{like_expression, block_front, like_front, expression_front, block_some, like_some, expression_positive}
use Rattle.rx_parse_grammar.proofs.ChainsRead.{reach, ends_expression, EndsExpression, Goes, goes_until}
use Rattle.rx_parse_grammar.proofs.OperandCases as case
use Rattle.rx_parse_grammar.proofs.OperandCases.{Primary, Postfix, Unary, Strength, Members, Binaries}
use Rattle.rx_parse_grammar.proofs.LikeCases as like_case
use Rattle.rx_parse_grammar.proofs.LikeCases.{Arms, Again, AgainStatements}

-- ---- operands

-- an operand is read, and a chain goes on behind it
pub record OperandRead (d : ℕ) (f : Bool) (j : ℕ) (ts : List Tok) (x : Expression) (h : ℕ) : Type 0 where
  pub read : (rest : List Tok) → suc j < reach f (peek rest) → Reads (operand (suc d) f j) ts (got ts x h) rest
  pub goes : (i : ℕ) → j ≡ suc i → i ≢ 2 → (rest : List Tok) → suc i < reach f (peek rest) → Goes (Strength d f (suc i)) (Binaries d f i) ts x h rest

pub no_chain : (d : ℕ) (f : Bool) {ts : List Tok} {x : Expression} {h : ℕ} → (i : ℕ) → zero ≡ suc i → i ≢ 2 → (rest : List Tok) → suc i < reach f (peek rest) → Goes (Strength d f (suc i)) (Binaries d f i) ts x h rest
no_chain d f i e n rest b = absurd (omega arith)

pub same_chain : (d : ℕ) (f : Bool) {i j : ℕ} {ts : List Tok} {x : Expression} {h : ℕ} {rest : List Tok} → suc j ≡ suc i → i ≢ 2 → suc i < reach f (peek rest)
    → (j ≢ 2 → suc j < reach f (peek rest) → Goes (Strength d f (suc j)) (Binaries d f j) ts x h rest) → Goes (Strength d f (suc i)) (Binaries d f i) ts x h rest
same_chain d f {i} {j} {ts} {x} {h} {rest} e n b q =
    let s : j ≡ i = omega arith in
    subst (λ z. Goes (Strength d f (suc z)) (Binaries d f z) ts x h rest) s (q (λ a. n (sym s ∙ a)) (omega arith))

pub until : (d : ℕ) (f : Bool) (j : ℕ) (ts : List Tok) (x : Expression) (h : ℕ) (rest : List Tok) → Goes (Strength d f (suc j)) (Binaries d f j) ts x h rest → suc (suc j) < reach f (peek rest)
    → Reads (operand (suc d) f (suc j)) ts (got ts x h) rest
until d f j ts x h rest q b = case.strength_operand d f (suc j) ts (got ts x h) rest (goes_until (Strength d f (suc j)) (Binaries d f j) ts x h rest q (case.no_step d f j (got ts x h) (peek rest) b))

-- an operand of the grammar as one that may follow
pub placed_goes : (d : ℕ) (f : Bool) (j : ℕ) {ts : List Tok} {h : ℕ} {rest : List Tok} (x : Span → Expression) (us : List Tok) → ts ≡ us → Goes (Strength d f (suc j)) (Binaries d f j) us (x (span_of us)) h rest
    → Goes (Strength d f (suc j)) (Binaries d f j) ts (x (span_of ts)) h rest
placed_goes d f j {ts} {h} {rest} x us e q = subst (λ z. Goes (Strength d f (suc j)) (Binaries d f j) z (x (span_of z)) h rest) (sym e) q

pub member_goes : (d : ℕ) (f : Bool) {ts : List Tok} {h : ℕ} {rest : List Tok} (x : Span → Expression) (us : List Tok) → ts ≡ us → Goes (Postfix d f) (Members d) us (x (span_of us)) h rest
    → Goes (Postfix d f) (Members d) ts (x (span_of ts)) h rest
member_goes d f {ts} {h} {rest} x us e q = subst (λ z. Goes (Postfix d f) (Members d) z (x (span_of z)) h rest) (sym e) q

abbrev pub tuple_of : Span → List Expression → Expression
tuple_of s l = plain.tuple s (expressions_of l)

-- ---- elements of lists

pub begins_field : Symbol → Bool
begins_field symbol.Name = true
begins_field _ = false

pub expression_listed : {us : List Tok} {x : Expression} {h : ℕ} → IsExpression us x h → (d : ℕ) → h ≤ d → (close : Symbol) → begins_expression close ≡ false
    → ((c : ℕ) → h ≤ suc c → (rest : List Tok) → ends_expression (peek rest) ≡ true → Reads (whole (suc c)) us (got us x h) rest) → Element (whole d) EndsExpression close us x h
expression_listed {us} {x} {h} r d b close n f = record {
  front = λ rest. differs begins_expression (peek (us ++ rest)) close (expression_front r rest) n;
  reads = λ rest e. deeper (λ d. Reads (whole d) us (got us x h) rest) h d (expression_positive r) b (λ c l. f c l rest e);
}

pub field_front : {us : List Tok} {x : Ident × Expression} {h : ℕ} → IsField us x h → (rest : List Tok) → peek (us ++ rest) ≡ symbol.Name
field_front (g.long_field n c us x h sn sc r is) rest = ap (λ z. peek (z ++ rest)) is ∙ first_is symbol.Name n refl sn
field_front (g.short_field n sn is) rest = ap (λ z. peek (z ++ rest)) is ∙ first_is symbol.Name n refl sn

pub field_listed : {us : List Tok} {x : Ident × Expression} {h : ℕ} → IsField us x h → (d : ℕ) → ((rest : List Tok) → ends_expression (peek rest) ≡ true → Reads (field (whole d) d) us (got us x h) rest)
    → Element (field (whole d) d) EndsExpression symbol.CloseBrace us x h
field_listed {us} r d f = record { front = λ rest a. let z = sym (field_front r rest) ∙ a in cc; reads = f }

pub some_levels : {us : List Tok} {x : Expression} {xs : List Expression} {h : ℕ} → AreArguments us (x ∷ xs) h → 1 ≤ h
some_levels (g.last_argument r) = expression_positive r
some_levels (g.argument_and us vs c x xs m n r s more is) = let z = expression_positive r in omega arith

pub some_front : {us : List Tok} {x : Expression} {xs : List Expression} {h : ℕ} → AreArguments us (x ∷ xs) h → (rest : List Tok) → begins_expression (peek (us ++ rest)) ≡ true
some_front (g.last_argument r) rest = expression_front r rest
some_front (g.argument_and us vs c x xs m n r s more is) rest =
    ap (λ z. begins_expression (peek (z ++ rest))) is ∙ ap (λ z. begins_expression (peek z)) (append_assoc us (c ∷ vs) rest) ∙ expression_front r ((c ∷ vs) ++ rest)

-- ---- `=` with an operator

pub record Set (t : Tok) (o : UpdateOp) : Type 0 where
  pub q : Symbol
  pub word : is_word q ≡ true
  pub stands : Stands q t
  pub set : setting q ≡ Some (updates o)
  pub reach : 6 < reach true q

pub update_set : (t : Tok) (o : UpdateOp) → IsUpdate t o → Set t o
update_set t o (g.plus_equal s) = record { q = symbol.PlusEqual; word = refl; stands = s; set = refl; reach = omega arith }
update_set t o (g.minus_equal s) = record { q = symbol.MinusEqual; word = refl; stands = s; set = refl; reach = omega arith }
update_set t o (g.times_equal s) = record { q = symbol.StarEqual; word = refl; stands = s; set = refl; reach = omega arith }
update_set t o (g.divided_equal s) = record { q = symbol.SlashEqual; word = refl; stands = s; set = refl; reach = omega arith }
update_set t o (g.modulo_equal s) = record { q = symbol.PercentEqual; word = refl; stands = s; set = refl; reach = omega arith }

-- ---- arms

-- what stands behind an arm
pub next_arm : Symbol → Bool
next_arm symbol.CloseBrace = true
next_arm q = begins_pattern q

pub pattern_next : (q : Symbol) → begins_pattern q ≡ true → next_arm q ≡ true
unfolding next_arm
pattern_next symbol.CloseBrace e = refl
pattern_next _ e = e

pub arm_next : {ps : List Tok} {p : PatternTree} {m : ℕ} (ts us : List Tok) (rest : List Tok) → IsPattern ps p m → ts ≡ ps ++ us → next_arm (peek (ts ++ rest)) ≡ true
arm_next {ps} ts us rest r is = ap (λ z. next_arm (peek (z ++ rest))) is ∙ ap (λ z. next_arm (peek z)) (append_assoc ps us rest) ∙ pattern_next _ (pattern_front r (us ++ rest))

pub arms_next : {vs : List Tok} {more : Arms} {k : ℕ} → AreArms vs more k → (c : Tok) (rest : List Tok) → Stands symbol.CloseBrace c → next_arm (peek ((vs ++ (c ∷ [])) ++ rest)) ≡ true
unfolding next_arm
arms_next g.no_arm c rest s = ap next_arm (first_is symbol.CloseBrace c refl s)
arms_next {vs} (g.like_arm a ps us ws p x more m n k rp sa r w is) c rest s = ap (λ z. next_arm (peek z)) (append_assoc vs (c ∷ []) rest) ∙ arm_next vs (a ∷ (us ++ ws)) ((c ∷ []) ++ rest) rp is
arms_next {vs} (g.like_arm_and a b ps us ws p x more m n k rp sa r sb w is) c rest s = ap (λ z. next_arm (peek z)) (append_assoc vs (c ∷ []) rest) ∙ arm_next vs (a ∷ (us ++ (b ∷ ws))) ((c ∷ []) ++ rest) rp is
arms_next {vs} (g.arm_and a b ps us ws p x more m n k rp sa r l sb w is) c rest s = ap (λ z. next_arm (peek z)) (append_assoc vs (c ∷ []) rest) ∙ arm_next vs (a ∷ (us ++ (b ∷ ws))) ((c ∷ []) ++ rest) rp is
arms_next {vs} (g.last_arm a ps us p x m n rp sa r l is) c rest s = ap (λ z. next_arm (peek z)) (append_assoc vs (c ∷ []) rest) ∙ arm_next vs (a ∷ us) ((c ∷ []) ++ rest) rp is

pub not_in_arms : (p q : Symbol) → next_arm p ≡ true → next_arm q ≡ false → p ≢ q
not_in_arms p q a b = differs next_arm p q a b

pub some_arms : {vs : List Tok} {a : PatternTree × Expression} {more : Arms} {k : ℕ} → AreArms vs (a ∷ more) k → (rest : List Tok) → begins_pattern (peek (vs ++ rest)) ≡ true
some_arms {vs} (g.like_arm a ps us ws p x more m n k rp sa r w is) rest = ap (λ z. begins_pattern (peek (z ++ rest))) is ∙ ap (λ z. begins_pattern (peek z)) (append_assoc ps (a ∷ (us ++ ws)) rest) ∙ pattern_front rp _
some_arms {vs} (g.like_arm_and a b ps us ws p x more m n k rp sa r sb w is) rest = ap (λ z. begins_pattern (peek (z ++ rest))) is ∙ ap (λ z. begins_pattern (peek z)) (append_assoc ps (a ∷ (us ++ (b ∷ ws))) rest) ∙ pattern_front rp _
some_arms {vs} (g.arm_and a b ps us ws p x more m n k rp sa r l sb w is) rest = ap (λ z. begins_pattern (peek (z ++ rest))) is ∙ ap (λ z. begins_pattern (peek z)) (append_assoc ps (a ∷ (us ++ (b ∷ ws))) rest) ∙ pattern_front rp _
some_arms {vs} (g.last_arm a ps us p x m n rp sa r l is) rest = ap (λ z. begins_pattern (peek (z ++ rest))) is ∙ ap (λ z. begins_pattern (peek z)) (append_assoc ps (a ∷ us) rest) ∙ pattern_front rp _

pub items_same : (found : Arms) (a : PatternTree × Expression) (more : Arms) (i m k : ℕ) (s : Span) → items ((found ++ (a ∷ [])) ++ more) (max (max i m) k) s ≡ items (found ++ (a ∷ more)) (max i (max m k)) s
items_same found a more i m k s =
    let z : max (max i m) k ≡ max i (max m k) = omega arith in
    ap (λ l. items l (max (max i m) k) s) (append_assoc found (a ∷ []) more) ∙ ap (λ n. items (found ++ (a ∷ more)) n s) z

-- ---- statements

pub begins_statement : Symbol → Bool
begins_statement symbol.Let = true
begins_statement q = begins_expression q

pub expression_statement : (q : Symbol) → begins_expression q ≡ true → begins_statement q ≡ true
unfolding begins_statement
expression_statement symbol.Let e = refl
expression_statement _ e = e

pub statement_front : {us : List Tok} {a : Statement} {h : ℕ} → IsStatement us a h → (rest : List Tok) → begins_statement (peek (us ++ rest)) ≡ true
unfolding begins_statement
statement_front (g.let_with t q z ps ys us p y x m n k st sq sz rp ry r is) rest = ap (λ w. begins_statement (peek (w ++ rest))) is ∙ ap begins_statement (first_is symbol.Let t refl st)
statement_front (g.let_without t n z ms ys m y h st sn sz sm ry is) rest = ap (λ w. begins_statement (peek (w ++ rest))) is ∙ ap begins_statement (first_is symbol.Let t refl st)
statement_front (g.done z us x h sz r l is) rest = ap (λ w. begins_statement (peek (w ++ rest))) is ∙ ap (λ w. begins_statement (peek w)) (append_assoc us (z ∷ []) rest) ∙ expression_statement _ (expression_front r _)
statement_front (g.done_like z us x h sz r is) rest =
    ap (λ w. begins_statement (peek (w ++ rest))) is ∙ ap (λ w. begins_statement (peek w)) (append_assoc us (z ∷ []) rest) ∙ expression_statement (peek (us ++ (z ∷ rest))) (like_expression (peek (us ++ (z ∷ rest))) (like_front r (z ∷ rest)))

pub statements_front : {vs : List Tok} {ss : List Statement} {y : OptionalExpression} {k : ℕ} → AreStatements vs ss y k → vs ≢ [] → (rest : List Tok) → begins_statement (peek (vs ++ rest)) ≡ true
statements_front g.end n rest = absurd (n refl)
statements_front (g.tail r l) n rest = expression_statement _ (expression_front r rest)
statements_front {vs} (g.tail_like r) n rest = expression_statement (peek (vs ++ rest)) (like_expression (peek (vs ++ rest)) (like_front r rest))
statements_front (g.statement_and us vs a ss y m k r more is) n rest = ap (λ w. begins_statement (peek (w ++ rest))) is ∙ ap (λ w. begins_statement (peek w)) (append_assoc us vs rest) ∙ statement_front r _
statements_front (g.like_and us vs x ss y m k r more some is) n rest =
    ap (λ w. begins_statement (peek (w ++ rest))) is ∙ ap (λ w. begins_statement (peek w)) (append_assoc us vs rest) ∙ expression_statement (peek (us ++ (vs ++ rest))) (like_expression (peek (us ++ (vs ++ rest))) (like_front r (vs ++ rest)))

pub statement_some : {us : List Tok} {a : Statement} {h : ℕ} → IsStatement us a h → 1 ≤ length us
unfolding begins_statement
statement_some {us} r = some_length us (λ e. let z : begins_statement (peek ([] ++ [])) ≡ true = subst (λ w. begins_statement (peek (w ++ [])) ≡ true) e (statement_front r []) in cc)

abbrev pub From : ℕ → Span → ℕ → List Statement → ℕ → Parser (Got Body)
From d o n found i = statements_from (whole d) (like d) d o n found i

pub statement_other : (d : ℕ) (again : AgainStatements) (o : Span) (found : List Statement) (i : ℕ) (q : Symbol) (b : Bool) → begins_expression q ≡ true → begins_like q ≡ b
    → statement_by (whole d) (like d) d again o found i q ≡ expression_by (whole d) (like d) d again o found i b
statement_other d again o found i symbol.CloseBrace b e l = absurd (cc)
statement_other d again o found i symbol.Let b e l = absurd (cc)
statement_other d again o found i q b e l = ap (expression_by (whole d) (like d) d again o found i) l

pub after_other : (d : ℕ) (again : AgainStatements) (o : Span) (found : List Statement) (i : ℕ) (x : Got Expression) (q : Symbol) → begins_statement q ≡ true
    → after_like_by (whole d) (like d) d again o found i x q ≡ again (found ++ (plain.expression_statement x.span x.tree false ∷ [])) (max i x.height)
unfolding begins_statement
after_other d again o found i x symbol.Semicolon e = absurd (cc)
after_other d again o found i x symbol.CloseBrace e = absurd (cc)
after_other d again o found i x _ e = refl

pub body_at : Span → List Statement → OptionalExpression → ℕ → Got Body
body_at s ss y h = node (λ s. plain.body s (statements_of ss) y) s h

pub body_same : (s : Span) (found : List Statement) (a : Statement) (ss : List Statement) (y : OptionalExpression) (i m k : ℕ) → body_at s ((found ++ (a ∷ [])) ++ ss) y (max (max i m) k) ≡ body_at s (found ++ (a ∷ ss)) y (max i (max m k))
body_same s found a ss y i m k =
    let z : max (max i m) k ≡ max i (max m k) = omega arith in
    ap (λ l. body_at s l y (max (max i m) k)) (append_assoc found (a ∷ []) ss) ∙ ap (λ n. body_at s (found ++ (a ∷ ss)) y n) z

pub closed_reads : (d : ℕ) (rest : List Tok) (o : Span) (found : List Statement) (y : OptionalExpression) (i k : ℕ) (c : Tok) → Stands symbol.CloseBrace c → i ≡ k
    → Reads (closed (whole d) (like d) d o found y i) (c ∷ []) (body_at (join o c.span) (found ++ []) y k) rest
unfolding body_at
closed_reads d rest o found y i k c s e = take _ symbol.CloseBrace c refl s
    (done (ap (λ l. node (λ s. plain.body s (statements_of l) y) (join o c.span) i) (sym (append-nil found)) ∙ ap (λ n. node (λ s. plain.body s (statements_of (found ++ [])) y) (join o c.span) n) e))

module _ (d : ℕ) (rest : List Tok) (o : Span) (n : ℕ) (found : List Statement) (i : ℕ) where
  pub end_case : (c : Tok) → Stands symbol.CloseBrace c → Reads (From d o (suc n) found i) (c ∷ []) (body_at (join o c.span) (found ++ []) plain.absent (max i 0)) rest
  unfolding statements_from
  end_case c s = by (statement_by (whole d) (like d) d (From d o n) o found i) symbol.CloseBrace (first_is symbol.CloseBrace c refl s) (closed_reads d rest o found plain.absent i (max i 0) c s (omega arith))

  pub let_case : (us vs : List Tok) (a : Statement) (m : ℕ) (b : Got Body) → peek (us ++ (vs ++ rest)) ≡ symbol.Let → Reads (let_statement (whole d) (like d) d) us (got us a m) (vs ++ rest)
      → Reads (From d o n (found ++ (a ∷ [])) (max i m)) vs b rest → Reads (From d o (suc n) found i) (us ++ vs) b rest
  unfolding statements_from
  let_case us vs a m b e r again = by (statement_by (whole d) (like d) d (From d o n) o found i) symbol.Let (ap peek (append_assoc us vs rest) ∙ e) (part _ r again)

  -- an expression that is no block begins
  pub plain_case : (us vs : List Tok) (x : Expression) (h : ℕ) (b : Got Body) → begins_expression (peek (us ++ (vs ++ rest))) ≡ true → begins_like (peek (us ++ (vs ++ rest))) ≡ false
      → Reads (whole d) us (got us x h) (vs ++ rest) → Reads (after_expression (whole d) (like d) d (From d o n) o found i (got us x h)) vs b rest → Reads (From d o (suc n) found i) (us ++ vs) b rest
  unfolding statements_from
  plain_case us vs x h b e l r again = turned (statement_by (whole d) (like d) d (From d o n) o found i) (expression_by (whole d) (like d) d (From d o n) o found i false)
      (ap (λ z. statement_by (whole d) (like d) d (From d o n) o found i (peek z)) (append_assoc us vs rest) ∙ statement_other d (From d o n) o found i (peek (us ++ (vs ++ rest))) false e l) (part _ r again)

  -- one that ends in a block
  pub like_begins_case : (us vs : List Tok) (x : Expression) (h : ℕ) (b : Got Body) → begins_like (peek (us ++ (vs ++ rest))) ≡ true
      → Reads (like d) us (got us x h) (vs ++ rest) → Reads (after_like_by (whole d) (like d) d (From d o n) o found i (got us x h) (peek (vs ++ rest))) vs b rest → Reads (From d o (suc n) found i) (us ++ vs) b rest
  unfolding statements_from
  like_begins_case us vs x h b l r again = turned (statement_by (whole d) (like d) d (From d o n) o found i) (expression_by (whole d) (like d) d (From d o n) o found i true)
      (ap (λ z. statement_by (whole d) (like d) d (From d o n) o found i (peek z)) (append_assoc us vs rest) ∙ statement_other d (From d o n) o found i (peek (us ++ (vs ++ rest))) true (like_expression _ l) l)
      (part _ r (turned (after_like_by (whole d) (like d) d (From d o n) o found i (got us x h)) _ refl again))

  -- `;` behind an expression
  pub with_semicolon : (us vs : List Tok) (z : Tok) (x : Expression) (h : ℕ) (b : Got Body) → us ≢ []
      → Reads (From d o n (found ++ (plain.expression_statement (span_of (us ++ (z ∷ []))) x true ∷ [])) (max i h)) vs b rest
      → Reads (From d o n (found ++ (plain.expression_statement (join (span_of us) z.span) x true ∷ [])) (max i h)) vs b rest
  with_semicolon us vs z x h b some r = subst (λ s. Reads (From d o n (found ++ (plain.expression_statement s x true ∷ [])) (max i h)) vs b rest) (sym (span_to us z some)) r

  pub done_case : (us vs : List Tok) (z : Tok) (x : Expression) (h : ℕ) (b : Got Body) → Stands symbol.Semicolon z → us ≢ [] → begins_expression (peek (us ++ (z ∷ (vs ++ rest)))) ≡ true
      → begins_like (peek (us ++ (z ∷ (vs ++ rest)))) ≡ false → Reads (whole d) us (got us x h) (z ∷ (vs ++ rest))
      → Reads (From d o n (found ++ (plain.expression_statement (span_of (us ++ (z ∷ []))) x true ∷ [])) (max i h)) vs b rest → Reads (From d o (suc n) found i) ((us ++ (z ∷ [])) ++ vs) b rest
  done_case us vs z x h b sz some e l r again = along (append_assoc us (z ∷ []) vs)
      (plain_case us (z ∷ vs) x h b e l r (here _ (first_is symbol.Semicolon z refl sz) (take _ symbol.Semicolon z refl sz (with_semicolon us vs z x h b some again))))

  pub done_like_case : (us vs : List Tok) (z : Tok) (x : Expression) (h : ℕ) (b : Got Body) → Stands symbol.Semicolon z → us ≢ [] → begins_like (peek (us ++ (z ∷ (vs ++ rest)))) ≡ true
      → Reads (like d) us (got us x h) (z ∷ (vs ++ rest))
      → Reads (From d o n (found ++ (plain.expression_statement (span_of (us ++ (z ∷ []))) x true ∷ [])) (max i h)) vs b rest → Reads (From d o (suc n) found i) ((us ++ (z ∷ [])) ++ vs) b rest
  done_like_case us vs z x h b sz some l r again = along (append_assoc us (z ∷ []) vs)
      (like_begins_case us (z ∷ vs) x h b l r
      (subst (λ q. Reads (after_like_by (whole d) (like d) d (From d o n) o found i (got us x h) q) (z ∷ vs) b rest) (sym (first_is symbol.Semicolon z refl sz))
      (take _ symbol.Semicolon z refl sz (with_semicolon us vs z x h b some again))))

  pub tail_case : (us : List Tok) (c : Tok) (x : Expression) (h : ℕ) → Stands symbol.CloseBrace c → begins_expression (peek (us ++ (c ∷ rest))) ≡ true → begins_like (peek (us ++ (c ∷ rest))) ≡ false
      → Reads (whole d) us (got us x h) (c ∷ rest) → Reads (From d o (suc n) found i) (us ++ (c ∷ [])) (body_at (join o c.span) (found ++ []) (plain.present x) (max i h)) rest
  tail_case us c x h sc e l r = plain_case us (c ∷ []) x h _ e l r (there _ (λ a. let z = sym (first_is symbol.CloseBrace c refl sc) ∙ a in cc) (closed_reads d rest o found (plain.present x) (max i h) (max i h) c sc refl))

  pub tail_like_case : (us : List Tok) (c : Tok) (x : Expression) (h : ℕ) → Stands symbol.CloseBrace c → begins_like (peek (us ++ (c ∷ rest))) ≡ true
      → Reads (like d) us (got us x h) (c ∷ rest) → Reads (From d o (suc n) found i) (us ++ (c ∷ [])) (body_at (join o c.span) (found ++ []) (plain.present x) (max i h)) rest
  tail_like_case us c x h sc l r = like_begins_case us (c ∷ []) x h _ l r
      (subst (λ q. Reads (after_like_by (whole d) (like d) d (From d o n) o found i (got us x h) q) (c ∷ []) (body_at (join o c.span) (found ++ []) (plain.present x) (max i h)) rest) (sym (first_is symbol.CloseBrace c refl sc))
      (closed_reads d rest o found (plain.present x) (max i h) (max i h) c sc refl))

  pub like_and_case : (us vs : List Tok) (x : Expression) (h : ℕ) (b : Got Body) → begins_like (peek (us ++ (vs ++ rest))) ≡ true → begins_statement (peek (vs ++ rest)) ≡ true
      → Reads (like d) us (got us x h) (vs ++ rest) → Reads (From d o n (found ++ (plain.expression_statement (span_of us) x false ∷ [])) (max i h)) vs b rest → Reads (From d o (suc n) found i) (us ++ vs) b rest
  like_and_case us vs x h b l e r again = like_begins_case us vs x h b l r
      (subst (λ (p : Parser (Got Body)). Reads p vs b rest) (sym (after_other d (From d o n) o found i (got us x h) (peek (vs ++ rest)) e)) again)

pub braces_case : (d : ℕ) (rest us : List Tok) (o c : Tok) (ss : List Statement) (y : OptionalExpression) (h : ℕ) → Stands symbol.OpenBrace o
    → Reads (From d o.span (length ((us ++ (c ∷ [])) ++ rest)) [] 0) (us ++ (c ∷ [])) (body_at (join o.span c.span) ss y (max 0 h)) rest
    → Reads (block (suc d)) (o ∷ (us ++ (c ∷ []))) (got (o ∷ (us ++ (c ∷ []))) (plain.body (span_of (o ∷ (us ++ (c ∷ [])))) (statements_of ss) y) (suc h)) rest
unfolding block block_of statements body_at
braces_case d rest us o c ss y h so r =
    let z : max 0 h ≡ h = omega arith in
    take _ symbol.OpenBrace o refl so (record {
      read = r.read ∙ ap (λ (b : Got Body). Ok (b, rest))
          (ap (λ n. node (λ s. plain.body s (statements_of ss) y) (join o.span c.span) n) z ∙ node_is (λ s. plain.body s (statements_of ss) y) (join o.span c.span) h (o ∷ (us ++ (c ∷ []))) (span_between us o c));
    })

-- ---- loops, with a label or without

pub loop_any : (d : ℕ) (rest us : List Tok) (t : Tok) (b : Body) (h : ℕ) → 1 ≤ d → us ≢ [] → Stands symbol.Loop t → Reads (block d) us (got us b h) rest → {ls : List Tok} {l : Option Ident} → IsLabel ls l
    → Reads (like (suc d)) (ls ++ (t ∷ us)) (got (ls ++ (t ∷ us)) (plain.loop (span_of (ls ++ (t ∷ us))) l b) (suc h)) rest
loop_any d rest us t b h low some s r no_label = like_case.loop_case d rest us t b h low some s r
loop_any d rest us t b h low some s r (label l c sl sc) = like_case.labelled_loop_case d rest us l c t b h low some sl sc s r

pub while_any : (d : ℕ) (rest us vs : List Tok) (t : Tok) (x : Test) (b : Body) (m n : ℕ) → 1 ≤ d → vs ≢ [] → Stands symbol.While t → Reads (test (operand d) (whole d) (like d) (block d) d) us (got us x m) (vs ++ rest) → Reads (block d) vs (got vs b n) rest
    → {ls : List Tok} {l : Option Ident} → IsLabel ls l
    → Reads (like (suc d)) (ls ++ (t ∷ (us ++ vs))) (got (ls ++ (t ∷ (us ++ vs))) (while_of (span_of (ls ++ (t ∷ (us ++ vs)))) l x b) (suc (max m n))) rest
while_any d rest us vs t x b m n low some s p r no_label = like_case.while_case d rest us vs t x b m n low some s p r
while_any d rest us vs t x b m n low some s p r (label l c sl sc) = like_case.labelled_while_case d rest us vs l c t x b m n low some sl sc s p r

-- ---- a block is next

pub block_next : {vs : List Tok} {b : Body} {h : ℕ} → IsBlock vs b h → (rest : List Tok) → peek (vs ++ rest) ≡ symbol.OpenBrace
block_next {vs} r rest = like_case.opens_is (peek (vs ++ rest)) (block_front r rest)

-- a condition ends there
pub brace_ends : (q : Symbol) → q ≡ symbol.OpenBrace → 6 < reach false q
brace_ends q e = subst (λ z. 6 < reach false z) (sym e) (omega arith)

pub reaches : (f : Bool) (j : ℕ) (t : Tok) (q : Symbol) → symbol_of t ≡ q → j < reach f q → j < reach f (symbol_of t)
reaches f j t q e b = subst (λ z. j < reach f z) (sym e) b

-- ---- arms

abbrev pub AfterArm : ℕ → ℕ → Arms → ℕ → Parser (Items (PatternTree × Expression))
AfterArm d n found i = after_arm (operand d) (whole d) (like d) (block d) d (arms_from (operand d) (whole d) (like d) (block d) d n) found i

-- an arm up to its body
pub arm_begun : (d : ℕ) (rest ps us : List Tok) (a : Tok) (p : PatternTree) (m n : ℕ) (found : Arms) (i : ℕ) (b : Bool) (y : Items (PatternTree × Expression)) → IsPattern ps p m → m ≤ d → Stands symbol.FatArrow a
    → begins_like (peek (us ++ rest)) ≡ b
    → Reads (arm_by (operand d) (whole d) (like d) (block d) d (arms_from (operand d) (whole d) (like d) (block d) d n) found i (got ps p m) b) us y rest → Reads (AfterArm d (suc n) found i) (ps ++ (a ∷ us)) y rest
arm_begun d rest ps us a p m n found i b y rp low sa e r = like_case.arm_case d rest ps us a p m n found i b y
    (pattern_complete rp d low (a ∷ (us ++ rest)) (ap ends_pattern (first_is symbol.FatArrow a refl sa))) (pattern_front rp (a ∷ (us ++ rest))) sa e r

module _ (d : ℕ) (rest : List Tok) (found : Arms) (i n : ℕ) (ps : List Tok) (a : Tok) (p : PatternTree) (m : ℕ) (rp : IsPattern ps p m) (low : m ≤ d) (sa : Stands symbol.FatArrow a) (us vs : List Tok) (x : Expression) (h : ℕ)
    (y : Items (PatternTree × Expression)) where
  pub like_arm_case : begins_like (peek (us ++ (vs ++ rest))) ≡ true → Reads (like d) us (got us x h) (vs ++ rest) → peek (vs ++ rest) ≢ symbol.Comma → Reads (AfterArm d n (found ++ ((p, x) ∷ [])) (max i (max m h))) vs y rest
      → Reads (AfterArm d (suc n) found i) (ps ++ (a ∷ (us ++ vs))) y rest
  like_arm_case e r c again = arm_begun d rest ps (us ++ vs) a p m n found i true y rp low sa (ap (λ z. begins_like (peek z)) (append_assoc us vs rest) ∙ e) (part _ r (there _ c again))

  pub like_arm_and_case : (c : Tok) → begins_like (peek (us ++ (c ∷ (vs ++ rest)))) ≡ true → Stands symbol.Comma c → Reads (like d) us (got us x h) (c ∷ (vs ++ rest))
      → Reads (AfterArm d n (found ++ ((p, x) ∷ [])) (max i (max m h))) vs y rest → Reads (AfterArm d (suc n) found i) (ps ++ (a ∷ (us ++ (c ∷ vs)))) y rest
  like_arm_and_case c e sc r again = arm_begun d rest ps (us ++ (c ∷ vs)) a p m n found i true y rp low sa (ap (λ z. begins_like (peek z)) (append_assoc us (c ∷ vs) rest) ∙ e)
      (part _ r (here _ (first_is symbol.Comma c refl sc) (take _ symbol.Comma c refl sc again)))

  pub arm_and_case : (c : Tok) → begins_like (peek (us ++ (c ∷ (vs ++ rest)))) ≡ false → Stands symbol.Comma c → Reads (whole d) us (got us x h) (c ∷ (vs ++ rest))
      → Reads (AfterArm d n (found ++ ((p, x) ∷ [])) (max i (max m h))) vs y rest → Reads (AfterArm d (suc n) found i) (ps ++ (a ∷ (us ++ (c ∷ vs)))) y rest
  arm_and_case c e sc r again = arm_begun d rest ps (us ++ (c ∷ vs)) a p m n found i false y rp low sa (ap (λ z. begins_like (peek z)) (append_assoc us (c ∷ vs) rest) ∙ e)
      (part _ r (here _ (first_is symbol.Comma c refl sc) (take _ symbol.Comma c refl sc again)))

pub last_arm_case : (d : ℕ) (rest : List Tok) (found : Arms) (i n : ℕ) (ps : List Tok) (a : Tok) (p : PatternTree) (m : ℕ) → IsPattern ps p m → m ≤ d → Stands symbol.FatArrow a → (us : List Tok) (c : Tok) (x : Expression) (h : ℕ)
    → begins_like (peek (us ++ (c ∷ rest))) ≡ false → Stands symbol.CloseBrace c → Reads (whole d) us (got us x h) (c ∷ rest)
    → Reads (AfterArm d (suc n) found i) (ps ++ (a ∷ (us ++ (c ∷ [])))) (items (found ++ ((p, x) ∷ [])) (max i (max m h)) c.span) rest
last_arm_case d rest found i n ps a p m rp low sa us c x h e sc r =
    let s = first_is symbol.CloseBrace c refl sc in
    arm_begun d rest ps (us ++ (c ∷ [])) a p m n found i false _ rp low sa (ap (λ z. begins_like (peek z)) (append_assoc us (c ∷ []) rest) ∙ e)
    (part _ r (there _ (λ z. let w = sym s ∙ z in cc) (take _ symbol.CloseBrace c refl sc (done refl))))

-- the first token of a part that doesn't begin as one that ends in a block
pub other_front : (us w : List Tok) → us ≢ [] → (BeginsLike us → ⊥) → begins_like (peek (us ++ w)) ≡ false
other_front [] w n l = absurd (n refl)
other_front (u ∷ us) w n l = begins_other (u ∷ us) l

-- ---- what isn't next

pub no_else : next_arm symbol.Else ≡ false
unfolding next_arm
no_else = refl

pub no_comma : next_arm symbol.Comma ≡ false
unfolding next_arm
no_comma = refl

pub not_else : (q : Symbol) → begins_statement q ≡ true → q ≢ symbol.Else
unfolding begins_statement
not_else q e = differs begins_statement q symbol.Else e refl

-- at least one arm is next
pub not_in_arms_first : {vs : List Tok} {a : PatternTree × Expression} {more : Arms} {k : ℕ} → AreArms vs (a ∷ more) k → (c : Tok) (rest : List Tok) → peek ((vs ++ (c ∷ [])) ++ rest) ≢ symbol.CloseBrace
not_in_arms_first {vs} r c rest = differs begins_pattern (peek ((vs ++ (c ∷ [])) ++ rest)) symbol.CloseBrace (ap (λ z. begins_pattern (peek z)) (append_assoc vs (c ∷ []) rest) ∙ some_arms r ((c ∷ []) ++ rest)) refl

pub else_some : {ts : List Tok} {x : Expression} {h : ℕ} → IsElse ts x h → ts ≢ []
else_some (g.else_block b h r) = block_some r
else_some (g.else_if r) = like_some (g.conditional r)
