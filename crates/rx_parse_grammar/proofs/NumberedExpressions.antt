-- What is counted in the expressions, statements and blocks that tokens are derived as is no more than the tokens: by induction on derivations.
use Rattle.std.proofs.Common.{ℕ, suc, ◌+◌, ◌≤◌, Bool, false, List, [], ◌∷◌, ◌++◌, length, Option, refl, sym, ap, subst, arith, append_assoc, length-append}
use Rattle.rx_core.specs.declared.types.Span.{Span}
use Rattle.rx_tree.specs.declared.tree.Ident.{Ident}
use Rattle.rx_tree.specs.Plain as plain
use Rattle.rx_tree.specs.Plain.{TypeTree, PatternTree, Expression, OptionalExpression, Body, Statement}
use Rattle.rx_tree.specs.PlainOf.{expressions_of, field_expressions_of, arms_of, statements_of}
use Rattle.rx_tree.specs.Positions.{NodeTree, a_block, a_statement, an_expression, a_pattern}
use Rattle.rx_tree.specs.Nodes.{within_type, below_pattern, below_expression, within_expressions, within_optional, within_fields, within_arms, below_block, below_statement, within_statements}
use Rattle.rx_tree.proofs.Inverses.{listed_expressions_of, listed_fields_of, listed_arms_of}
use Rattle.rx_tree.proofs.ListsLemmas.{listed-statements_of}
use Rattle.rx_lex.specs.Tok.{Tok}
use Rattle.rx_parse_grammar.specs.grammar.Words.{span_of}
use Rattle.rx_parse_grammar.specs.grammar.Expressions as g
use Rattle.rx_parse_grammar.specs.grammar.Expressions.{IsLabel, IsAnnotation, IsExpression, IsOperand, IsUnary, IsPostfix, IsPrimary, AreArguments, IsField, AreFields, IsLike, IsIf, IsElse, Test, IsTest, AreArms, IsBlock, IsStatement, AreStatements, if_of, while_of}
use Rattle.rx_parse_grammar.proofs.Reading.{some_length}
use Rattle.rx_parse_grammar.proofs.ExpressionsFront.{like_some, expression_some}
use Rattle.rx_parse_grammar.proofs.ReadParts.{statement_some}
use Rattle.rx_parse_grammar.proofs.NumberedParts.{Few, none, weaker, both, above, quiet, holding, looping, idle_few, idle_weaker, type_idle, pattern_few}

-- ---- lists are no longer than their tokens

arguments_short : {ts : List Tok} {xs : List Expression} {h : ℕ} → AreArguments ts xs h → length xs ≤ length ts
arguments_short g.no_argument = omega arith
arguments_short {ts = ts} (g.last_argument r) = some_length ts (expression_some r)
arguments_short (g.argument_and us vs c x xs m n r s more is) = let z = arguments_short more in let w = ap length is in
    omega (arith, length-append us (c ∷ vs))

field_short : {ts : List Tok} {f : Ident × Expression} {h : ℕ} → IsField ts f h → 1 ≤ length ts
field_short (g.long_field n c us x h sn sc r is) = let w = ap length is in omega arith
field_short (g.short_field n sn is) = let w = ap length is in omega arith

fields_short : {ts : List Tok} {fs : List (Ident × Expression)} {h : ℕ} → AreFields ts fs h → length fs ≤ length ts
fields_short g.no_field = omega arith
fields_short (g.last_field r) = field_short r
fields_short (g.field_and us vs c x xs m n r s more is) = let z = fields_short more in let w = ap length is in omega
    (arith, length-append us (c ∷ vs))

arms_short : {ts : List Tok} {l : List (PatternTree × Expression)} {h : ℕ} → AreArms ts l h → length l ≤ length ts
arms_short g.no_arm = omega arith
arms_short (g.like_arm a ps us vs p x more m n k r s e rest is) = let z = arms_short rest in let w = ap length is in
    omega (arith, length-append ps (a ∷ (us ++ vs)), length-append us vs)
arms_short (g.like_arm_and a c ps us vs p x more m n k r s e t rest is) =
    let z = arms_short rest in let w = ap length is in omega
    (arith, length-append ps (a ∷ (us ++ (c ∷ vs))), length-append us (c ∷ vs))
arms_short (g.arm_and a c ps us vs p x more m n k r s e o t rest is) =
    let z = arms_short rest in let w = ap length is in omega
    (arith, length-append ps (a ∷ (us ++ (c ∷ vs))), length-append us (c ∷ vs))
arms_short (g.last_arm a ps us p x m n r s e o is) = let w = ap length is in omega (arith, length-append ps (a ∷ us))

statements_short : {ts : List Tok} {ss : List Statement} {y : OptionalExpression} {h : ℕ} → AreStatements ts ss y h
    → length ss ≤ length ts
statements_short g.end = omega arith
statements_short (g.tail r o) = omega arith
statements_short (g.tail_like r) = omega arith
statements_short (g.statement_and us vs a ss y m n r more is) = let z = statements_short more in let w = ap length
    is in let s = statement_some r in omega (arith, length-append us vs)
statements_short (g.like_and us vs x ss y m n r more o is) = let z = statements_short more in let w = ap length is in
    let s = some_length us (like_some r) in omega (arith, length-append us vs)

-- ---- parts of nodes

-- what is tested, and the nodes behind
abbrev tested : Test → List NodeTree → List NodeTree
tested (g.condition x) ns = an_expression x ∷ (below_expression x ++ ns)
tested (g.fitting p x) ns = a_pattern p ∷ (below_pattern p ++ (an_expression x ∷ (below_expression x ++ ns)))

abbrev FewTest : ℕ → Test → Type 0
FewTest n (g.condition x) = Few n (an_expression x ∷ below_expression x)
FewTest n (g.fitting p x) = Few n ((a_pattern p ∷ below_pattern p) ++ (an_expression x ∷ below_expression x))

tested_few : (t : Test) {ns : List NodeTree} (m k n : ℕ) → m + k ≤ n → FewTest m t → Few k ns → Few n (tested t ns)
tested_few (g.condition x) m k n l f h = both m k n l f h
tested_few (g.fitting p x) {ns} m k n l f h =
    subst (λ us. Few n (a_pattern p ∷ us)) (append_assoc (below_pattern p) (an_expression x ∷ below_expression x) ns)
    (both m k n l f h)

if_few : (s : Span) (t : Test) (b : Body) (o : OptionalExpression) (n m k : ℕ) → m + k ≤ n → FewTest m t
    → Few k (a_block b ∷ (below_block b ++ within_optional o))
    → Few n (an_expression (if_of s t b o) ∷ below_expression (if_of s t b o))
if_few s (g.condition x) b o n m k l f h = holding (m + k) n l refl (omega arith)
    (tested_few (g.condition x) m k (m + k) (omega arith) f h)
if_few s (g.fitting p x) b o n m k l f h = holding (m + k) n l refl (omega arith)
    (tested_few (g.fitting p x) m k (m + k) (omega arith) f h)

while_few : (s : Span) (l : Option Ident) (t : Test) (b : Body) (n m k : ℕ) → suc (m + k) ≤ n → FewTest m t
    → Few k (a_block b ∷ below_block b)
    → Few n (an_expression (while_of s l t b) ∷ below_expression (while_of s l t b))
while_few s l (g.condition x) b n m k i f h = looping (m + k) n i refl refl
    (tested_few (g.condition x) m k (m + k) (omega arith) f h)
while_few s l (g.fitting p x) b n m k i f h = looping (m + k) n i refl refl
    (tested_few (g.fitting p x) m k (m + k) (omega arith) f h)

annotation_few : {ts : List Tok} {y : Option TypeTree} {h : ℕ} → IsAnnotation ts y h → Few (length ts) (within_type y)
annotation_few g.no_type = none 0
annotation_few {ts = ts} (g.with_type c us y h s r is) = let w = ap length is in idle_few (length ts)
    (idle_weaker (length us) (length ts) (omega arith) (type_idle r))

mutual
  pub expression_few : {ts : List Tok} {x : Expression} {h : ℕ} → IsExpression ts x h
      → Few (length ts) (an_expression x ∷ below_expression x)
  expression_few (g.operand r) = operand_few r
  expression_few {ts = ts} (g.assign us vs t l r m n s a b is) =
      let w = ap length is in holding (length us + length vs) (length ts)
      (omega (arith, length-append us (t ∷ vs))) refl (omega arith)
      (both (length us) (length vs) (length us + length vs) (omega arith) (operand_few a) (expression_few b))
  expression_few {ts = ts} (g.update us vs t o l r m n s a b is) =
      let w = ap length is in holding (length us + length vs) (length ts)
      (omega (arith, length-append us (t ∷ vs))) refl (omega arith)
      (both (length us) (length vs) (length us + length vs) (omega arith) (operand_few a) (expression_few b))
  expression_few {ts = ts} (g.return t s is) = holding 0 (length ts) (omega arith) refl (omega arith) (none 0)
  expression_few {ts = ts} (g.return_with t us x h s r is) = let w = ap length is in holding (length us) (length ts)
      (omega arith) refl (omega arith) (expression_few r)
  expression_few {ts = ts} (g.break t s is) = holding 0 (length ts) (omega arith) refl (omega arith) (none 0)
  expression_few {ts = ts} (g.break_from t l s a is) = holding 0 (length ts) (omega arith) refl (omega arith) (none 0)
  expression_few {ts = ts} (g.continue t s is) = holding 0 (length ts) (omega arith) refl (omega arith) (none 0)
  expression_few {ts = ts} (g.continue_with t l s a is) = holding 0 (length ts) (omega arith) refl (omega arith)
      (none 0)

  operand_few : {f : Bool} {j : ℕ} {ts : List Tok} {x : Expression} {h : ℕ} → IsOperand f j ts x h
      → Few (length ts) (an_expression x ∷ below_expression x)
  operand_few (g.unary r) = unary_few r
  operand_few (g.stronger r) = operand_few r
  operand_few {ts = ts} (g.chain us vs t o l r m n i s a b is) =
      let w = ap length is in holding (length us + length vs) (length ts)
      (omega (arith, length-append us (t ∷ vs))) refl (omega arith)
      (both (length us) (length vs) (length us + length vs) (omega arith) (operand_few a) (operand_few b))
  operand_few {ts = ts} (g.compare us vs t o l r m n i s a b is) =
      let w = ap length is in holding (length us + length vs) (length ts)
      (omega (arith, length-append us (t ∷ vs))) refl (omega arith)
      (both (length us) (length vs) (length us + length vs) (omega arith) (operand_few a) (operand_few b))

  unary_few : {f : Bool} {ts : List Tok} {x : Expression} {h : ℕ} → IsUnary f ts x h
      → Few (length ts) (an_expression x ∷ below_expression x)
  unary_few (g.postfix r) = postfix_few r
  unary_few {ts = ts} (g.negate t us x h s r is) = let w = ap length is in holding (length us) (length ts)
      (omega arith) refl (omega arith) (unary_few r)
  unary_few {ts = ts} (g.invert t us x h s r is) = let w = ap length is in holding (length us) (length ts)
      (omega arith) refl (omega arith) (unary_few r)
  unary_few {ts = ts} (g.deref t us x h s r is) = let w = ap length is in holding (length us) (length ts)
      (omega arith) refl (omega arith) (unary_few r)
  unary_few {ts = ts} (g.borrow t ms us m x h s a r is) = let w = ap length is in holding (length us) (length ts)
      (omega (arith, length-append ms us)) refl (omega arith) (unary_few r)
  unary_few {ts = ts} (g.borrow_twice t us x h s r is) = let w = ap length is in holding (suc (length us)) (length ts)
      (omega arith) refl (omega arith) (unary_few r)

  postfix_few : {f : Bool} {ts : List Tok} {x : Expression} {h : ℕ} → IsPostfix f ts x h
      → Few (length ts) (an_expression x ∷ below_expression x)
  postfix_few (g.primary r) = primary_few r
  postfix_few {ts = ts} (g.field us d n x h s a r is) = let w = ap length is in holding (length us) (length ts)
      (omega (arith, length-append us (d ∷ n ∷ []))) refl (omega arith) (postfix_few r)
  postfix_few {ts = ts} (g.part us d t v x h s a r is) = let w = ap length is in holding (length us) (length ts)
      (omega (arith, length-append us (d ∷ t ∷ []))) refl (omega arith) (postfix_few r)

  primary_few : {f : Bool} {ts : List Tok} {x : Expression} {h : ℕ} → IsPrimary f ts x h
      → Few (length ts) (an_expression x ∷ below_expression x)
  primary_few {ts = ts} (g.number t v k s is) = holding 0 (length ts) (omega arith) refl (omega arith) (none 0)
  primary_few {ts = ts} (g.true_is t s is) = holding 0 (length ts) (omega arith) refl (omega arith) (none 0)
  primary_few {ts = ts} (g.false_is t s is) = holding 0 (length ts) (omega arith) refl (omega arith) (none 0)
  primary_few {ts = ts} (g.variable t s is) = holding 0 (length ts) (omega arith) refl (omega arith) (none 0)
  primary_few {ts = ts} (g.call t o c us xs h st so sc r is) =
      let w = ap length is in
      let z = arguments_short r in
      let e = ap length (listed_expressions_of xs) in
      holding (length us) (length ts) (omega (arith, length-append us (c ∷ []))) refl
      (omega (arith, length-append us (c ∷ []))) (arguments_few r)
  primary_few {ts = ts} (g.next_input r p n o c sr sp sn so sc is) = holding 0 (length ts) (omega arith) refl
      (omega arith) (none 0)
  primary_few {ts = ts} (g.variant e p v se sp sv is) = holding 0 (length ts) (omega arith) refl (omega arith) (none 0)
  primary_few {ts = ts} (g.variant_with e p v o c us x xs h se sp sv so sc r is) =
      let w = ap length is in
      let z = arguments_short r in
      let i = ap length (listed_expressions_of xs) in
      holding (length us) (length ts) (omega (arith, length-append us (c ∷ []))) refl
      (omega (arith, length-append us (c ∷ []))) (arguments_few r)
  primary_few {ts = ts} (g.structure n o c us fs h sn so sc r is) =
      let w = ap length is in
      let z = fields_short r in
      let e = ap length (listed_fields_of fs) in
      holding (length us) (length ts) (omega (arith, length-append us (c ∷ []))) refl
      (omega (arith, length-append us (c ∷ []))) (fields_few r)
  primary_few {ts = ts} (g.print p b o q m c us x h sp sb so sq sm sc r is) =
      let w = ap length is in holding (length us) (length ts) (omega (arith, length-append us (c ∷ []))) refl
      (omega arith) (expression_few r)
  primary_few {ts = ts} (g.unit o c so sc is) = holding 0 (length ts) (omega arith) refl (omega arith) (none 0)
  primary_few {ts = ts} (g.parentheses o c us x h so sc r is) = let w = ap length is in weaker (length us) (length ts)
      (omega (arith, length-append us (c ∷ []))) (expression_few r)
  primary_few {ts = ts} (g.tuple o m c us vs x xs h i so sm sc r more is) =
      let w = ap length is in
      let z = arguments_short more in
      let e = ap length (listed_expressions_of xs) in
      holding (length us + length vs) (length ts)
      (omega (arith, length-append us (m ∷ (vs ++ (c ∷ []))), length-append vs (c ∷ []))) refl
      (omega (arith, length-append us (m ∷ (vs ++ (c ∷ []))), length-append vs (c ∷ [])))
      (both (length us) (length vs) (length us + length vs) (omega arith) (expression_few r) (arguments_few more))
  primary_few (g.like r) = like_few r

  arguments_few : {ts : List Tok} {xs : List Expression} {h : ℕ} → AreArguments ts xs h
      → Few (length ts) (within_expressions (expressions_of xs))
  arguments_few g.no_argument = none 0
  arguments_few {ts = ts} (g.last_argument r) = both (length ts) 0 (length ts) (omega arith) (expression_few r) (none 0)
  arguments_few {ts = ts} (g.argument_and us vs c x xs m n r s more is) =
      let w = ap length is in both (length us) (length vs) (length ts) (omega (arith, length-append us (c ∷ vs)))
      (expression_few r) (arguments_few more)

  field_few : {ts : List Tok} {f : Ident × Expression} {h : ℕ} → IsField ts f h
      → Few (length ts) (an_expression f.1 ∷ below_expression f.1)
  field_few {ts = ts} (g.long_field n c us x h sn sc r is) = let w = ap length is in weaker (length us) (length ts)
      (omega arith) (expression_few r)
  field_few {ts = ts} (g.short_field n sn is) = holding 0 (length ts) (omega arith) refl (omega arith) (none 0)

  fields_few : {ts : List Tok} {fs : List (Ident × Expression)} {h : ℕ} → AreFields ts fs h
      → Few (length ts) (within_fields (field_expressions_of fs))
  fields_few g.no_field = none 0
  fields_few {ts = ts} (g.last_field r) = both (length ts) 0 (length ts) (omega arith) (field_few r) (none 0)
  fields_few {ts = ts} (g.field_and us vs c x xs m n r s more is) =
      let w = ap length is in both (length us) (length vs) (length ts) (omega (arith, length-append us (c ∷ vs)))
      (field_few r) (fields_few more)

  like_few : {ts : List Tok} {x : Expression} {h : ℕ} → IsLike ts x h
      → Few (length ts) (an_expression x ∷ below_expression x)
  like_few {ts = ts} (g.block b h r) = holding (length ts) (length ts) (omega arith) refl (omega arith) (block_few r)
  like_few (g.conditional r) = conditional_few r
  like_few {ts = ts} (g.match t o c us vs x a more m n st so sc r l is) =
      let w = ap length is in
      let z = arms_short l in
      let e = ap length (listed_arms_of more) in
      holding (length us + length vs) (length ts)
      (omega (arith, length-append us (o ∷ (vs ++ (c ∷ []))), length-append vs (c ∷ []))) refl
      (omega (arith, length-append us (o ∷ (vs ++ (c ∷ []))), length-append vs (c ∷ [])))
      (both (length us) (length vs) (length us + length vs) (omega arith) (operand_few r) (arms_few l))
  like_few {ts = ts} (g.loop ls us t l b h sl st r is) = let w = ap length is in looping (length us) (length ts)
      (omega (arith, length-append ls (t ∷ us))) refl refl (block_few r)
  like_few {ts = ts} (g.while ls us vs t l x b m n sl st c r is) =
      let w = ap length is in
      while_few _ l x b (length ts) (length us) (length vs)
      (omega (arith, length-append ls (t ∷ (us ++ vs)), length-append us vs)) (test_few c) (block_few r)

  test_few : {ts : List Tok} {x : Test} {h : ℕ} → IsTest ts x h → FewTest (length ts) x
  test_few (g.test r) = operand_few r
  test_few {ts = ts} (g.test_pattern t q ps us p x m n st sq r k is) =
      let w = ap length is in both (length ps) (length us) (length ts) (omega (arith, length-append ps (q ∷ us)))
      (pattern_few r) (operand_few k)

  conditional_few : {ts : List Tok} {x : Expression} {h : ℕ} → IsIf ts x h
      → Few (length ts) (an_expression x ∷ below_expression x)
  conditional_few {ts = ts} (g.if_alone t us vs x b m n st c r is) =
      let w = ap length is in
      if_few _ x b plain.absent (length ts) (length us) (length vs) (omega (arith, length-append us vs)) (test_few c)
      (both (length vs) 0 (length vs) (omega arith) (block_few r) (none 0))
  conditional_few {ts = ts} (g.if_else t e us vs ws x y b m n k st se c r o is) =
      let w = ap length is in
      if_few _ x b (plain.present y) (length ts) (length us) (length vs + length ws)
      (omega (arith, length-append us (vs ++ (e ∷ ws)), length-append vs (e ∷ ws))) (test_few c)
      (both (length vs) (length ws) (length vs + length ws) (omega arith) (block_few r) (else_few o))

  else_few : {ts : List Tok} {x : Expression} {h : ℕ} → IsElse ts x h
      → Few (length ts) (an_expression x ∷ below_expression x)
  else_few {ts = ts} (g.else_block b h r) = holding (length ts) (length ts) (omega arith) refl (omega arith)
      (block_few r)
  else_few (g.else_if r) = conditional_few r

  arms_few : {ts : List Tok} {l : List (PatternTree × Expression)} {h : ℕ} → AreArms ts l h
      → Few (length ts) (within_arms (arms_of l))
  arms_few g.no_arm = none 0
  arms_few {ts = ts} (g.like_arm a ps us vs p x more m n k r s e rest is) =
      let w = ap length is in
      both (length ps) (length us + length vs) (length ts)
      (omega (arith, length-append ps (a ∷ (us ++ vs)), length-append us vs)) (pattern_few r)
      (both (length us) (length vs) (length us + length vs) (omega arith) (like_few e) (arms_few rest))
  arms_few {ts = ts} (g.like_arm_and a c ps us vs p x more m n k r s e t rest is) =
      let w = ap length is in
      both (length ps) (length us + length vs) (length ts)
      (omega (arith, length-append ps (a ∷ (us ++ (c ∷ vs))), length-append us (c ∷ vs))) (pattern_few r)
      (both (length us) (length vs) (length us + length vs) (omega arith) (like_few e) (arms_few rest))
  arms_few {ts = ts} (g.arm_and a c ps us vs p x more m n k r s e o t rest is) =
      let w = ap length is in
      both (length ps) (length us + length vs) (length ts)
      (omega (arith, length-append ps (a ∷ (us ++ (c ∷ vs))), length-append us (c ∷ vs))) (pattern_few r)
      (both (length us) (length vs) (length us + length vs) (omega arith) (expression_few e) (arms_few rest))
  arms_few {ts = ts} (g.last_arm a ps us p x m n r s e o is) =
      let w = ap length is in
      both (length ps) (length us) (length ts) (omega (arith, length-append ps (a ∷ us))) (pattern_few r)
      (both (length us) 0 (length us) (omega arith) (expression_few e) (none 0))

  pub block_few : {ts : List Tok} {b : Body} {h : ℕ} → IsBlock ts b h → Few (length ts) (a_block b ∷ below_block b)
  block_few {ts = ts} (g.braces o c us ss y h so sc r is) =
      let w = ap length is in
      let z = statements_short r in
      let e = ap length (listed-statements_of ss) in
      above (length us) (length ts) (omega (arith, length-append us (c ∷ [])))
      (omega (arith, length-append us (c ∷ []))) (omega (arith, length-append us (c ∷ [])))
      (omega (arith, length-append us (c ∷ []))) (statements_few r)

  statement_few : {ts : List Tok} {a : Statement} {h : ℕ} → IsStatement ts a h
      → Few (length ts) (a_statement a ∷ below_statement a)
  statement_few {ts = ts} (g.let_with t q z ps ys us p y x m n k st sq sz r i e is) =
      let w = ap length is in
      quiet (length ps + (length ys + length us)) (length ts)
      (omega (
        arith,
        length-append ps (ys ++ (q ∷ (us ++ (z ∷ [])))),
        length-append ys
            (q ∷ (us ++ (z ∷ []))),
        length-append us (z ∷ []),
      )) refl refl refl refl
      (both (length ps) (length ys + length us) (length ps + (length ys + length us)) (omega arith) (pattern_few r)
      (both (length ys) (length us) (length ys + length us) (omega arith) (annotation_few i) (expression_few e)))
  statement_few {ts = ts} (g.let_without t n z ms ys m y h st sn sz sm i is) =
      let w = ap length is in
      quiet (1 + length ys) (length ts) (omega
      (arith, length-append (ms ++ (n ∷ [])) (ys ++ (z ∷ [])), length-append ms (n ∷ []), length-append ys (z ∷ [])))
      refl refl refl refl
      (above (length ys) (1 + length ys) (omega arith) (omega arith) (omega arith) (omega arith)
      (both (length ys) 0 (length ys) (omega arith) (annotation_few i) (none 0)))
  statement_few {ts = ts} (g.done z us x h sz r o is) = let w = ap length is in quiet (length us) (length ts)
      (omega (arith, length-append us (z ∷ []))) refl refl refl refl (expression_few r)
  statement_few {ts = ts} (g.done_like z us x h sz r is) = let w = ap length is in quiet (length us) (length ts)
      (omega (arith, length-append us (z ∷ []))) refl refl refl refl (like_few r)

  statements_few : {ts : List Tok} {ss : List Statement} {y : OptionalExpression} {h : ℕ} → AreStatements ts ss y h
      → Few (length ts) (within_statements (statements_of ss) ++ within_optional y)
  statements_few g.end = none 0
  statements_few (g.tail r o) = expression_few r
  statements_few (g.tail_like r) = like_few r
  statements_few {ts = ts} (g.statement_and us vs a ss y m n r more is) =
      let w = ap length is in
      subst (λ ns. Few (length ts) (a_statement a ∷ ns))
      (sym (append_assoc (below_statement a) (within_statements (statements_of ss)) (within_optional y)))
      (both (length us) (length vs) (length ts) (omega (arith, length-append us vs)) (statement_few r)
      (statements_few more))
  statements_few {ts = ts} (g.like_and us vs x ss y m n r more o is) =
      let w = ap length is in
      subst (λ ns. Few (length ts) (a_statement (plain.expression_statement (span_of us) x false) ∷ ns))
      (sym (append_assoc (an_expression x ∷ below_expression x) (within_statements (statements_of ss))
      (within_optional y)))
      (quiet (length us + length vs) (length ts) (omega (arith, length-append us vs)) refl refl refl refl
      (both (length us) (length vs) (length us + length vs) (omega arith) (like_few r) (statements_few more)))
