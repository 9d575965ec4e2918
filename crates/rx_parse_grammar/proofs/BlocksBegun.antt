-- What the tokens begin that the parsers of statements, blocks and expressions passed before they stopped.
use Rattle.rx_parse_grammar.proofs.BlocksDerived.{declared, body_at, with_semicolon, semicolon_apart, not_closed}
use Rattle.std.proofs.Common.{◌≡◌, ℕ, zero, suc, max, Bool, true, false, List, [], ◌∷◌, ◌++◌, length, Option, refl, sym, ap, subst, ◌∙◌, arith, append_assoc, append-nil}
use Rattle.rx_core.specs.declared.types.Span.{Span}
use Rattle.rx_tree.specs.Plain as plain
use Rattle.rx_tree.specs.Plain.{Expression, OptionalExpression, Body, PatternTree, TypeTree, Statement}
use Rattle.rx_tree.specs.PlainOf.{statements_of}
use Rattle.rx_lex.specs.Tok.{Tok}
use Rattle.rx_parse_grammar.specs.declared.symbol.Symbol.{Symbol}
use Rattle.rx_parse_grammar.specs.declared.symbol.Symbol.TheVariants as symbol
use Rattle.rx_parse_grammar.specs.grammar.Words.{join, span_of, ident}
use Rattle.rx_parse_grammar.specs.grammar.Patterns.{IsPattern}
use Rattle.rx_parse_grammar.specs.grammar.Expressions.{IsExpression, IsOperand, IsLike, IsBlock, IsStatement, AreStatements, IsAnnotation, no_type, with_type, BeginsLike}
use Rattle.rx_parse_grammar.specs.grammar.Expressions as g
use Rattle.rx_parse_grammar.specs.parser.Steps.{Parser, Got, node}
use Rattle.rx_parse_grammar.specs.parser.Operators.{begins_like, begins_operand, begins_expression}
use Rattle.rx_parse_grammar.specs.parser.Expressions.{like_by, whole_by}
use Rattle.rx_parse_grammar.specs.parser.Blocks.{declares, annotation, initialised, declared_by, let_statement, after_like_by, expression_by, statement_by, statements_from, statements, block_of, opens, operand, whole, like, block}
use Rattle.rx_parse_grammar.proofs.SymbolLemmas.{Stands}
use Rattle.rx_parse_grammar.proofs.Reading.{span_between}
use Rattle.rx_parse_grammar.specs.parser.Symbols.{symbol_of}
use Rattle.rx_parse_grammar.proofs.SymbolLemmas.{stands}
use Rattle.rx_parse_grammar.proofs.Firsts.{a_name, an_end, a_block, block_words, some_operand, some_expression, some_block, first_operand, first_expression, first_like, first_block, like_completes}
use Rattle.rx_parse_grammar.proofs.Deriving.{Front, front_of_part}
use Rattle.rx_parse_grammar.proofs.Begun.{took, passed, passed_last, gave, chose, chose_knowing, either, refused, as_also, Known, any, at, Begun, Completes, roomed, stopped, still, passed_at, stand_in_stands, words_of}
use Rattle.rx_parse_grammar.proofs.BegunLists.{Fits, fits_node, whole_part}
use Rattle.rx_parse_grammar.proofs.TypesBegun.{type_begun}
use Rattle.rx_parse_grammar.proofs.PatternsBegun.{pattern_begun}
use Rattle.rx_parse_grammar.proofs.OperatorLaws.{not_like}
use Rattle.rx_parse_grammar.proofs.OperandsBegun.{Deeper, at_strength_begun}
use Rattle.rx_parse_grammar.proofs.LikesBegun.{likes_begun, whole_by_begun}
use Rattle.rx_parse_grammar.proofs.ExpressionsFront.{like_some, expression_some}

-- ---- `let`

record Annotated (ts : List Tok) (y : Option TypeTree × ℕ) : Type 0 where
  holds : IsAnnotation ts y.0 y.1

annotation_begun : {K : Known} (d : ℕ) → Begun K (annotation d) Annotated
unfolding annotation
annotation_begun d = either symbol.Colon
    (took symbol.Colon refl (λ c sc. passed_last _ (type_begun d) (λ us y m. record { holds = with_type c us y.tree y.height sc m.holds refl })))
    (gave (record { holds = no_type }))

-- what is made, with its span
fits_at : {A : Type 0} {J : List Tok → A → ℕ → Type 0} {ts : List Tok} (f : Span → A) (s : Span) (h : ℕ) → s ≡ span_of ts → J ts (f (span_of ts)) h
    → Fits J ts (record { tree = f s; height = h; span = s })
fits_at {J = J} {ts = ts} f s h e j = record { span = e; holds = subst (λ z. J ts (f z) h) (sym e) j }

module _ (d : ℕ) (n : Deeper d) where
  initialised_begun : {K : Known} (t : Tok) (ps : List Tok) (p : Got PatternTree) (ys : List Tok) (y : Option TypeTree × ℕ) → Stands symbol.Let t → Fits IsPattern ps p → Annotated ys y
      → Begun K (initialised (whole d) (like d) d t p y) (λ vs x. Fits IsStatement (t ∷ (ps ++ (ys ++ vs))) x)
  initialised_begun t ps p ys y st mp my = took symbol.Equal refl (λ q sq. passed n.wholes (λ us x mx. took symbol.Semicolon refl (λ z sz.
      let shape : (ps ++ (ys ++ (q ∷ us))) ++ (z ∷ []) ≡ ps ++ (ys ++ (q ∷ (us ++ (z ∷ [])))) = append_assoc ps (ys ++ (q ∷ us)) (z ∷ []) ∙ ap (λ w. ps ++ w) (append_assoc ys (q ∷ us) (z ∷ [])) in
      gave (fits_at (λ s. plain.let_statement s p.tree y.0 (plain.present x.tree)) (join t.span z.span) (max (max p.height y.1) x.height)
      (span_between (ps ++ (ys ++ (q ∷ us))) t z ∙ ap (λ w. span_of (t ∷ w)) shape)
      (g.let_with t q z ps ys us p.tree y.0 x.tree p.height y.1 x.height st sq sz mp.holds my.holds mx.holds refl)))))

  declared_begun : {K : Known} (t : Tok) (ps : List Tok) (p : Got PatternTree) (ys : List Tok) (y : Option TypeTree × ℕ) → Stands symbol.Let t → Fits IsPattern ps p → Annotated ys y → (b : Bool) → declares p.tree p.height ≡ b
      → Begun K (declared_by (whole d) (like d) d t p y b) (λ vs x. Fits IsStatement (t ∷ (ps ++ (ys ++ vs))) x)
  declared_begun t ps p ys y st mp my false e = refused (initialised_begun {K = any} t ps p ys y st mp my).some
  declared_begun t ps p ys y st mp my true e = took symbol.Semicolon refl (λ z sz.
      let w = declared mp.holds e in
      gave (fits_at (λ s. plain.let_statement s p.tree y.0 plain.absent) (join t.span z.span) (max p.height y.1)
      (span_between (ps ++ ys) t z ∙ ap (λ w. span_of (t ∷ w)) (append_assoc ps ys (z ∷ [])))
      (subst (λ k. IsStatement (t ∷ (k ++ (ys ++ (z ∷ [])))) (plain.let_statement (span_of (t ∷ (k ++ (ys ++ (z ∷ []))))) p.tree y.0 plain.absent) (max p.height y.1)) (sym w.is)
      (subst (λ k. IsStatement (t ∷ ((w.ms ++ (w.n ∷ [])) ++ (ys ++ (z ∷ [])))) (plain.let_statement (span_of (t ∷ ((w.ms ++ (w.n ∷ [])) ++ (ys ++ (z ∷ []))))) k y.0 plain.absent) (max p.height y.1)) (sym w.tree)
      (subst (λ k. IsStatement (t ∷ ((w.ms ++ (w.n ∷ [])) ++ (ys ++ (z ∷ []))))
      (plain.let_statement (span_of (t ∷ ((w.ms ++ (w.n ∷ [])) ++ (ys ++ (z ∷ []))))) (plain.bind (span_of (w.ms ++ (w.n ∷ []))) (ident w.n) w.m) y.0 plain.absent) (max k y.1)) (sym w.height)
      (g.let_without t w.n z w.ms ys w.m y.0 y.1 st w.name sz w.mutability my.holds refl))))))

  let_begun : Begun (at symbol.Let) (let_statement (whole d) (like d) d) (Fits IsStatement)
  unfolding let_statement
  let_begun = roomed 1 d symbol.Let refl (λ t st. passed (pattern_begun d) (λ ps p mp. passed (annotation_begun d) (λ ys y my.
      either symbol.Equal (initialised_begun t ps p ys y st mp my) (declared_begun t ps p ys y st mp my (declares p.tree p.height) refl))))

-- ---- statements

-- statements and a tail, and the brace behind them
record Listing (o : Span) (found : List Statement) (i : ℕ) (ts : List Tok) (b : Got Body) : Type 0 where
  us : List Tok
  c : Tok
  ss : List Statement
  y : OptionalExpression
  k : ℕ
  is : ts ≡ us ++ (c ∷ [])
  end : Stands symbol.CloseBrace c
  holds : AreStatements us ss y k
  made : b ≡ node (λ s. plain.body s (statements_of (found ++ ss)) y) (join o c.span) (max i k)

-- a statement, and then the others: with what stands before them
extended : {o : Span} {found : List Statement} {i : ℕ} (before : List Tok → List Tok) → ((u v : List Tok) → before (u ++ v) ≡ before u ++ v) → (a : Statement) (m : ℕ) (ts : List Tok) (b : Got Body)
    → ((vs : List Tok) (c : Tok) (ss : List Statement) (y : OptionalExpression) (k : ℕ) → ts ≡ vs ++ (c ∷ []) → Stands symbol.CloseBrace c → AreStatements vs ss y k → AreStatements (before vs) (a ∷ ss) y (max m k))
    → Listing o (found ++ (a ∷ [])) (max i m) ts b → Listing o found i (before ts) b
extended {o = o} {found = found} {i = i} before apart a m ts b join_is w =
    let z : max (max i m) w.k ≡ max i (max m w.k) = omega arith in
    record {
      us = before w.us;
      c = w.c;
      ss = a ∷ w.ss;
      y = w.y;
      k = max m w.k;
      is = ap before w.is ∙ apart w.us (w.c ∷ []);
      end = w.end;
      holds = join_is w.us w.c w.ss w.y w.k w.is w.end w.holds;
      made = w.made ∙ ap (λ l. body_at (join o w.c.span) l w.y (max (max i m) w.k)) (append_assoc found (a ∷ []) w.ss) ∙ ap (λ n. body_at (join o w.c.span) (found ++ (a ∷ w.ss)) w.y n) z;
    }

-- the last expression
ended : {o : Span} {found : List Statement} {i : ℕ} (us : List Tok) (c : Tok) (x : Expression) (h : ℕ) → Stands symbol.CloseBrace c → AreStatements us [] (plain.present x) h
    → Listing o found i (us ++ (c ∷ [])) (body_at (join o c.span) found (plain.present x) (max i h))
ended {o = o} {found = found} {i = i} us c x h sc r = record {
  us = us;
  c = c;
  ss = [];
  y = plain.present x;
  k = h;
  is = refl;
  end = sc;
  holds = r;
  made = ap (λ l. body_at (join o c.span) l (plain.present x) (max i h)) (sym (append-nil found));
}

-- the brace behind all statements
closing : (o : Span) (found : List Statement) (i : ℕ) (c : Tok) → Stands symbol.CloseBrace c → Listing o found i (c ∷ []) (body_at (join o c.span) found plain.absent i)
closing o found i c sc = record {
  us = [];
  c = c;
  ss = [];
  y = plain.absent;
  k = 0;
  is = refl;
  end = sc;
  holds = g.end;
  made = let z : i ≡ max i 0 = omega arith in ap (λ l. body_at (join o c.span) l plain.absent i) (sym (append-nil found)) ∙ ap (λ n. body_at (join o c.span) (found ++ []) plain.absent n) z;
}

listing_completes : (o : Span) (found : List Statement) (i : ℕ) → Completes (Listing o found i) []
listing_completes o found i = record { further = an_end ∷ []; words = words_of (symbol.CloseBrace ∷ []) refl; made = body_at (join o an_end.span) found plain.absent i; part = closing o found i an_end (stand_in_stands symbol.CloseBrace refl) }

module _ (d : ℕ) (n : Deeper d) (o : Span) (again : List Statement → ℕ → Parser (Got Body)) (ok : (found : List Statement) (i : ℕ) → Begun any (again found i) (Listing o found i)) where
  after_like_begun : (found : List Statement) (i : ℕ) (us : List Tok) (x : Got Expression) → Fits IsLike us x → (q : Symbol)
      → Begun (at q) (after_like_by (whole d) (like d) d again o found i x q) (λ vs b. Front q vs → Listing o found i (us ++ vs) b)
  after_like_begun found i us x m symbol.Semicolon = took symbol.Semicolon refl (λ z sz. as_also (λ vs b w f.
      extended (λ v. us ++ (z ∷ v)) (semicolon_apart us z) (plain.expression_statement (join x.span z.span) x.tree true) x.height vs b
      (λ ws c ss y k is s r. g.statement_and (us ++ (z ∷ [])) ws _ ss y x.height k
      (with_semicolon us z x x.height (like_some m.holds) m.span (g.done_like z us x.tree x.height sz m.holds refl)) r (semicolon_apart us z [] ws)) w)
      (ok (found ++ (plain.expression_statement (join x.span z.span) x.tree true ∷ [])) (max i x.height)))
  after_like_begun found i us x m symbol.CloseBrace = took symbol.CloseBrace refl (λ c sc. gave (λ f. ended us c x.tree x.height sc (g.tail_like m.holds)))
  after_like_begun found i us x m q = as_also (λ vs b w f.
      extended (λ v. us ++ v) (λ u v. sym (append_assoc us u v)) (plain.expression_statement x.span x.tree false) x.height vs b
      (λ ws c ss y k is s r. subst (λ z. AreStatements (us ++ ws) (plain.expression_statement z x.tree false ∷ ss) y (max x.height k)) (sym m.span)
      (g.like_and us ws x.tree ss y x.height k m.holds r (not_closed q vs ws c (λ a. cc) f is s) refl)) w)
      (still (ok (found ++ (plain.expression_statement x.span x.tree false ∷ [])) (max i x.height)))

  expression_by_begun : (found : List Statement) (i : ℕ) (q : Symbol) (b : Bool) → begins_like q ≡ b → Begun (at q) (expression_by (whole d) (like d) d again o found i b) (λ ts x. Front q ts → Listing o found i ts x)
  expression_by_begun found i q true e = passed n.likes (λ us x m. as_also (λ vs b w f. w)
      (chose_knowing (record { further = an_end ∷ []; words = words_of (symbol.CloseBrace ∷ []) refl; made = body_at (join o an_end.span) found (plain.present x.tree) (max i x.height); part = ended us an_end x.tree x.height (stand_in_stands symbol.CloseBrace refl) (g.tail_like m.holds) }) (after_like_by (whole d) (like d) d again o found i x) (after_like_begun found i us x m)))
  expression_by_begun found i q false e = passed n.wholes (λ us x m.
      let some = expression_some m.holds in
      either symbol.Semicolon
      (took symbol.Semicolon refl (λ z sz. as_also (λ vs b w f.
      extended (λ v. us ++ (z ∷ v)) (semicolon_apart us z) (plain.expression_statement (join x.span z.span) x.tree true) x.height vs b
      (λ ws c ss y k is s r. g.statement_and (us ++ (z ∷ [])) ws _ ss y x.height k (with_semicolon us z x x.height some m.span
      (g.done z us x.tree x.height sz m.holds (not_like us (ap begins_like (front_of_part q us (z ∷ vs) f some) ∙ e)) refl)) r (semicolon_apart us z [] ws)) w)
      (ok (found ++ (plain.expression_statement (join x.span z.span) x.tree true ∷ [])) (max i x.height))))
      (took symbol.CloseBrace refl (λ c sc. gave (λ f.
      ended us c x.tree x.height sc (g.tail m.holds (not_like us (ap begins_like (front_of_part q us (c ∷ []) f some) ∙ e)))))))

  statement_by_begun : (found : List Statement) (i : ℕ) (q : Symbol) → Begun (at q) (statement_by (whole d) (like d) d again o found i q) (λ ts x. Front q ts → Listing o found i ts x)
  statement_by_begun found i symbol.CloseBrace = took symbol.CloseBrace refl (λ c sc. gave (λ f. closing o found i c sc))
  statement_by_begun found i symbol.Let = passed_at (let_begun d n) (λ us a m. as_also (λ vs b w f.
      extended (λ v. us ++ v) (λ u v. sym (append_assoc us u v)) a.tree a.height vs b (λ ws c ss y k is s r. g.statement_and us ws a.tree ss y a.height k m.holds r refl) w)
      (ok (found ++ (a.tree ∷ [])) (max i a.height)))
  statement_by_begun found i q = expression_by_begun found i q (begins_like q) refl

statements_from_begun : {K : Known} (d : ℕ) (n : Deeper d) (o : Span) (k : ℕ) (found : List Statement) (i : ℕ) → Begun K (statements_from (whole d) (like d) d o k found i) (Listing o found i)
unfolding statements_from
statements_from_begun d n o zero found i = refused (listing_completes o found i)
statements_from_begun d n o (suc k) found i =
    chose_knowing (listing_completes o found i) (statement_by (whole d) (like d) d (statements_from (whole d) (like d) d o k) o found i)
    (statement_by_begun d n o (statements_from (whole d) (like d) d o k) (statements_from_begun d n o k) found i)

block_of_begun : {K : Known} (d : ℕ) → Deeper d → Begun K (block_of (whole d) (like d) d) (Fits IsBlock)
unfolding block_of statements
block_of_begun d n = took symbol.OpenBrace refl (λ o so. as_also (λ vs b w.
    let z : max 0 w.k ≡ w.k = omega arith in
    subst (λ k. Fits IsBlock (o ∷ k) b) (sym w.is) (subst (λ k. Fits IsBlock (o ∷ (w.us ++ (w.c ∷ []))) k) (sym (w.made ∙ ap (λ n. body_at (join o.span w.c.span) w.ss w.y n) z))
    (fits_node (λ s. plain.body s (statements_of w.ss) w.y) (span_between w.us o w.c) _ (g.braces o w.c w.us w.ss w.y w.k so w.end w.holds refl))))
    (record { goes = λ i k. (statements_from_begun {K = any} d n o.span (length i) [] 0).goes i refl; some = listing_completes o.span [] 0 }))

-- ---- so many levels

pub deeper_begun : (d : ℕ) → Deeper d
unfolding operand whole like block
deeper_begun zero = record {
  operands = λ f j. stopped begins_operand refl (whole_part [] (a_name ∷ []) _ _ (words_of (symbol.Name ∷ []) refl) (some_operand f j)) (λ t e w. first_operand f j (symbol_of t) e t (stands t) w);
  wholes = stopped begins_expression refl (whole_part [] (a_name ∷ []) _ _ (words_of (symbol.Name ∷ []) refl) some_expression) (λ t e w. first_expression (symbol_of t) e t (stands t) w);
  likes = stopped begins_like refl like_completes (λ t e w. first_like (symbol_of t) e t (stands t));
  blocks = stopped opens refl (whole_part [] a_block _ _ block_words some_block) (λ t e w. first_block (symbol_of t) e t (stands t));
}
deeper_begun (suc d) =
    let n = deeper_begun d in
    record {
      operands = λ f j. at_strength_begun d n (likes_begun d n) f j;
      wholes = chose (whole_by (operand d) (whole d) (like d) (block d) d) (whole_by_begun d n);
      likes = chose (like_by (operand d) (whole d) (like d) (block d) d) (likes_begun d n);
      blocks = block_of_begun d n;
    }
