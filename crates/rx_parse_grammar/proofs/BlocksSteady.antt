-- How statements, blocks and expressions are read depends on no token behind the one at which the parser stops.
use Rattle.std.proofs.Common.{◌≡◌, ℕ, zero, suc, Bool, true, false, List, [], length, Option, Err, refl, ap, ◌∙◌, arith}
use Rattle.rx_core.specs.declared.types.Span.{Span}
use Rattle.rx_tree.specs.Plain.{TypeTree, PatternTree, Expression, OptionalExpression, Body, Statement}
use Rattle.rx_lex.specs.Tok.{Tok}
use Rattle.rx_parse_grammar.specs.declared.stop.Stop.TheVariants.{Syntax}
use Rattle.rx_parse_grammar.specs.declared.symbol.Symbol.{Symbol}
use Rattle.rx_parse_grammar.specs.declared.symbol.Symbol.TheVariants as symbol
use Rattle.rx_parse_grammar.specs.parser.Symbols.{peek}
use Rattle.rx_parse_grammar.specs.parser.Steps.{Parser, Got, expect, when_next, ◌>>=◌}
use Rattle.rx_parse_grammar.specs.parser.Operators.{begins_like, begins_operand, begins_expression}
use Rattle.rx_parse_grammar.specs.parser.Patterns.{pattern}
use Rattle.rx_parse_grammar.specs.parser.Expressions.{whole_by, like_by, set_or_operand}
use Rattle.rx_parse_grammar.specs.parser.Blocks.{declares, annotation, initialised, declared_by, let_statement, closed, after_expression, after_like_by, expression_by, statement_by, statements_from, statements, block_of, opens, operand, whole, like, block}
use Rattle.rx_parse_grammar.proofs.SymbolLemmas.{unseen}
use Rattle.rx_parse_grammar.proofs.ExpressionsFront.{operand_expression}
use Rattle.rx_parse_grammar.proofs.Steady.{Alike, Depths, Eats, then, eaten, pures, refuses, takes, by, either, room}
use Rattle.rx_parse_grammar.proofs.SteadyLists.{looped, end_refused, fueled, takes_eats, eats_after, eats_room, level_none, level_more, lower}
use Rattle.rx_parse_grammar.proofs.TypesSteady.{type_alike}
use Rattle.rx_parse_grammar.proofs.PatternsSteady.{pattern_alike}
use Rattle.rx_parse_grammar.proofs.OperandsSteady.{Below, like_eats, whole_ends, at_strength_alike, strength_refused}
use Rattle.rx_parse_grammar.proofs.LikesSteady.{like_by_alike, whole_by_alike}

annotation_alike : {k : Bool} {n m d e : ℕ} → Depths k d e → Alike k n m (annotation d) (annotation e)
unfolding annotation
annotation_alike {d = d} {e = e} z = either symbol.Colon (then (takes symbol.Colon) (λ c. then (type_alike d e z _ _) (λ y. pures))) pures

statements_end : (d : ℕ) (o : Span) (n : ℕ) (x : List Statement × ℕ) → statements_from (whole d) (like d) d o n x.0 x.1 [] ≡ Err (Syntax 0)
unfolding statements_from
statements_end d o zero x = refl
statements_end d o (suc n) x = rw (whole_ends d)

module _ {k : Bool} {d e : ℕ} (b : Below k d e) where
  initialised_alike : {n m : ℕ} (t : Tok) (p : Got PatternTree) (y : Option TypeTree × ℕ) → Alike k n m (initialised (whole d) (like d) d t p y) (initialised (whole e) (like e) e t p y)
  initialised_alike t p y = then (takes symbol.Equal) (λ q. then (b.wholes _ _) (λ x. then (takes symbol.Semicolon) (λ z. pures)))

  declared_alike : {n m : ℕ} (t : Tok) (p : Got PatternTree) (y : Option TypeTree × ℕ) (c : Bool) → Alike k n m (declared_by (whole d) (like d) d t p y c) (declared_by (whole e) (like e) e t p y c)
  declared_alike t p y true = then (takes symbol.Semicolon) (λ z. pures)
  declared_alike t p y false = refuses

  behind_let : {n m : ℕ} (t : Tok) → Alike k n m (pattern d >>= (λ p. annotation d >>= (λ y. when_next symbol.Equal (initialised (whole d) (like d) d t p y) (declared_by (whole d) (like d) d t p y (declares p.tree p.height)))))
      (pattern e >>= (λ p. annotation e >>= (λ y. when_next symbol.Equal (initialised (whole e) (like e) e t p y) (declared_by (whole e) (like e) e t p y (declares p.tree p.height)))))
  behind_let t = then (pattern_alike d e b.depths _ _) (λ p. then (annotation_alike b.depths) (λ y. either symbol.Equal (initialised_alike t p y) (declared_alike t p y (declares p.tree p.height))))

  let_alike : {n m : ℕ} → Alike k n m (let_statement (whole d) (like d) d) (let_statement (whole e) (like e) e)
  unfolding let_statement
  let_alike = room 1 b.depths (then (takes symbol.Let) (λ t. behind_let t))

  let_eats : Eats (let_statement (whole d) (like d) d)
  unfolding let_statement
  let_eats = eats_room 1 d (eats_after symbol.Let refl (λ t n m. behind_let t))

  closed_alike : {n m : ℕ} (o : Span) (found : List Statement) (y : OptionalExpression) (h : ℕ) → Alike k n m (closed (whole d) (like d) d o found y h) (closed (whole e) (like e) e o found y h)
  closed_alike o found y h = then (takes symbol.CloseBrace) (λ c. pures)

  module _ {n m : ℕ} (o : Span) (f g : List Statement → ℕ → Parser (Got Body)) (more : (x : List Statement × ℕ) → Alike k n m (f x.0 x.1) (g x.0 x.1)) where
    after_expression_alike : (found : List Statement) (h : ℕ) (x : Got Expression) → Alike k (suc n) (suc m) (after_expression (whole d) (like d) d f o found h x) (after_expression (whole e) (like e) e g o found h x)
    after_expression_alike found h x = either symbol.Semicolon (eaten (takes_eats symbol.Semicolon refl) (takes symbol.Semicolon) (λ z. more (_, _))) (closed_alike o found _ _)

    after_like_alike : (found : List Statement) (h : ℕ) (x : Got Expression) (q : Symbol) → Alike k n m (after_like_by (whole d) (like d) d f o found h x q) (after_like_by (whole e) (like e) e g o found h x q)
    after_like_alike found h x symbol.Semicolon = then (takes symbol.Semicolon) (λ z. more (_, _))
    after_like_alike found h x symbol.CloseBrace = closed_alike o found _ _
    after_like_alike found h x _ = more (_, _)

    expression_alike : (found : List Statement) (h : ℕ) (c : Bool) → Alike k (suc n) (suc m) (expression_by (whole d) (like d) d f o found h c) (expression_by (whole e) (like e) e g o found h c)
    expression_alike found h true = eaten (like_eats d) (b.likes _ _) (λ x. by (after_like_alike found h x))
    expression_alike found h false = then (b.wholes _ _) (λ x. after_expression_alike found h x)

    statement_alike : (found : List Statement) (h : ℕ) (q : Symbol) → Alike k (suc n) (suc m) (statement_by (whole d) (like d) d f o found h q) (statement_by (whole e) (like e) e g o found h q)
    statement_alike found h symbol.CloseBrace = closed_alike o found _ _
    statement_alike found h symbol.Let = eaten let_eats let_alike (λ a. more (_, _))
    statement_alike found h q = expression_alike found h (begins_like q)

  statements_step : (o : Span) (n m : ℕ) → ((x : List Statement × ℕ) → Alike k n m (statements_from (whole d) (like d) d o n x.0 x.1) (statements_from (whole e) (like e) e o m x.0 x.1))
      → (x : List Statement × ℕ) → Alike k (suc n) (suc m) (statements_from (whole d) (like d) d o (suc n) x.0 x.1) (statements_from (whole e) (like e) e o (suc m) x.0 x.1)
  unfolding statements_from
  statements_step o n m more x = by (statement_alike o (statements_from (whole d) (like d) d o n) (statements_from (whole e) (like e) e o m) more x.0 x.1)

  statements_alike : {n m : ℕ} (o : Span) → Alike k n m (statements (whole d) (like d) d o) (statements (whole e) (like e) e o)
  unfolding statements
  statements_alike o = fueled (λ n. statements_from (whole d) (like d) d o n [] 0) (λ n. statements_from (whole e) (like e) e o n [] 0)
      (λ x y. looped (λ n (x : List Statement × ℕ). statements_from (whole d) (like d) d o n x.0 x.1) (λ n (x : List Statement × ℕ). statements_from (whole e) (like e) e o n x.0 x.1)
      (λ n m x. end_refused (statements_end d o n x) (statements_end e o m x)) (statements_step o) x y ([], 0))

  block_of_alike : {n m : ℕ} → Alike k n m (block_of (whole d) (like d) d) (block_of (whole e) (like e) e)
  unfolding block_of
  block_of_alike = then (takes symbol.OpenBrace) (λ o. statements_alike o.span)

-- ---- what begins no such part is refused

not_expression : (q : Symbol) (b : Bool) → begins_expression q ≡ false → begins_operand q ≡ b → begins_operand q ≡ false
not_expression q true e w = absurd (let z = operand_expression q w in cc)
not_expression q false e w = w

set_refused : (d : ℕ) (i : List Tok) → begins_expression (peek i) ≡ false → set_or_operand (operand d) (whole d) (like d) (block d) d i ≡ Err (Syntax (length i))
unfolding set_or_operand
set_refused d i e = rw (strength_refused d true 5 i (not_expression (peek i) (begins_operand (peek i)) e refl))

whole_refused : (d : ℕ) (q : Symbol) (i : List Tok) → peek i ≡ q → begins_expression q ≡ false → whole_by (operand d) (whole d) (like d) (block d) d q i ≡ Err (Syntax (length i))
whole_refused d symbol.Return i p e = absurd (cc)
whole_refused d symbol.Break i p e = absurd (cc)
whole_refused d symbol.Continue i p e = absurd (cc)
whole_refused d q i p e = set_refused d i (ap begins_expression p ∙ e)

like_refused : (d : ℕ) (q : Symbol) (i : List Tok) → begins_like q ≡ false → like_by (operand d) (whole d) (like d) (block d) d q i ≡ Err (Syntax (length i))
like_refused d symbol.OpenBrace i e = absurd (cc)
like_refused d symbol.If i e = absurd (cc)
like_refused d symbol.Match i e = absurd (cc)
like_refused d symbol.Loop i e = absurd (cc)
like_refused d symbol.While i e = absurd (cc)
like_refused d symbol.Lifetime i e = absurd (cc)
like_refused d _ i e = refl

block_refused : (d : ℕ) (i : List Tok) → opens (peek i) ≡ false → block_of (whole d) (like d) d i ≡ Err (Syntax (length i))
unfolding block_of expect
block_refused d i e = rw (unseen symbol.OpenBrace i (λ a. let z = ap opens a in cc))

-- ---- so many levels

pub below : {k : Bool} (d e : ℕ) → Depths k d e → Below k d e
unfolding operand whole like block
below zero zero z = record {
  depths = z;
  operands = λ f j n m. level_none begins_operand;
  wholes = λ n m. level_none begins_expression;
  likes = λ n m. level_none begins_like;
  blocks = λ n m. level_none opens;
}
below zero (suc e) z = record {
  depths = z;
  operands = λ f j n m. level_more begins_operand (operand (suc e) f j) (λ y. let a = z.same y in absurd (omega arith)) (λ i r. strength_refused e f j i r);
  wholes = λ n m. level_more begins_expression (whole (suc e)) (λ y. let a = z.same y in absurd (omega arith)) (λ i r. whole_refused e (peek i) i refl r);
  likes = λ n m. level_more begins_like (like (suc e)) (λ y. let a = z.same y in absurd (omega arith)) (λ i r. like_refused e (peek i) i r);
  blocks = λ n m. level_more opens (block (suc e)) (λ y. let a = z.same y in absurd (omega arith)) (λ i r. block_refused e i r);
}
below (suc d) zero z = absurd (let a = z.low in omega arith)
below (suc d) (suc e) z =
    let b = below d e (lower z) in
    record {
      depths = z;
      operands = λ f j n m. at_strength_alike b (like_by_alike b) f j;
      wholes = λ n m. by (whole_by_alike b);
      likes = λ n m. by (λ q. like_by_alike b q _ _);
      blocks = λ n m. block_of_alike b;
    }
