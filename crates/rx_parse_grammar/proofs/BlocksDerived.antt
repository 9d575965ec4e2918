-- A block that is read is one that the grammar derives, and so is an expression of at most so many levels.
use Rattle.std.proofs.Common.{◌≡◌, ℕ, zero, suc, ◌≤◌, max, Bool, true, false, List, [], ◌∷◌, ◌++◌, length, Option, refl, sym, ap, subst, ◌∙◌, arith, append_assoc, append-nil}
use Rattle.std.specs.Prelude.{◌≢◌}
use Rattle.std.proofs.lemmas.Bool.{eqb-true}
use Rattle.rx_core.specs.declared.types.Span.{Span}
use Rattle.rx_tree.specs.Plain as plain
use Rattle.rx_tree.specs.Plain.{Expression, OptionalExpression, Body, PatternTree, TypeTree, Statement}
use Rattle.rx_tree.specs.PlainOf.{statements_of}
use Rattle.rx_lex.specs.Tok.{Tok}
use Rattle.rx_parse_grammar.specs.declared.symbol.Symbol.{Symbol}
use Rattle.rx_parse_grammar.specs.declared.symbol.Symbol.TheVariants as symbol
use Rattle.rx_parse_grammar.specs.grammar.Words.{IsName, IsMutability, immutable, mutable, join, span_of, ident}
use Rattle.rx_parse_grammar.specs.grammar.Patterns.{IsPattern}
use Rattle.rx_parse_grammar.specs.grammar.Patterns as pat
use Rattle.rx_parse_grammar.specs.grammar.Expressions.{IsExpression, IsOperand, IsLike, IsBlock, IsStatement, AreStatements, IsAnnotation, no_type, with_type, BeginsLike}
use Rattle.rx_parse_grammar.specs.grammar.Expressions as g
use Rattle.rx_parse_grammar.specs.parser.Symbols.{peek}
use Rattle.rx_parse_grammar.specs.parser.Steps.{Parser, Got, node}
use Rattle.rx_parse_grammar.specs.parser.Operators.{begins_like, begins_operand, begins_expression}
use Rattle.rx_parse_grammar.specs.parser.Expressions.{like_by, whole_by}
use Rattle.rx_parse_grammar.specs.parser.Blocks.{declares, annotation, initialised, declared_by, let_statement, closed, after_like_by, expression_by, statement_by, statements_from, statements, block_of, opens, operand, whole, like, block}
use Rattle.rx_parse_grammar.proofs.SymbolLemmas.{Stands}
use Rattle.rx_parse_grammar.proofs.Reading.{first_is, span_between, span_to}
use Rattle.rx_parse_grammar.proofs.Deriving.{Derives, Fits, fits_node, took, passed, passed_last, gave, chose, chose_knowing, Front, front_of_part, either, roomy, refused, stopped, as_also}
use Rattle.rx_parse_grammar.proofs.TypesDerived.{type_sound}
use Rattle.rx_parse_grammar.proofs.PatternsRead.{pattern_positive}
use Rattle.rx_parse_grammar.proofs.PatternsDerived.{pattern_sound}
use Rattle.rx_parse_grammar.proofs.OperatorLaws.{not_like}
use Rattle.rx_parse_grammar.proofs.OperandsDerived.{Deeper, at_strength_derived}
use Rattle.rx_parse_grammar.proofs.LikesDerived.{likes_derived, whole_by_derived}
use Rattle.rx_parse_grammar.proofs.ExpressionsFront.{like_some, expression_some}

-- ---- `let`

-- a name alone
pub record Declared (ps : List Tok) (p : PatternTree) (h : ℕ) : Type 0 where
  pub ms : List Tok
  pub n : Tok
  pub m : Bool
  pub is : ps ≡ ms ++ (n ∷ [])
  pub mutability : IsMutability ms m
  pub name : IsName n
  pub tree : p ≡ plain.bind (span_of (ms ++ (n ∷ []))) (ident n) m
  pub height : h ≡ 1

pub one_level : (p : PatternTree) (h : ℕ) → declares p h ≡ true → h ≡ 1
one_level (plain.bind s n m) h e = eqb-true h 1 e
one_level _ h e = absurd (cc)

pub declared : {ps : List Tok} {p : PatternTree} {h : ℕ} → IsPattern ps p h → declares p h ≡ true → Declared ps p h
declared (pat.binding n s is) e = record { ms = []; n = n; m = false; is = is; mutability = immutable; name = s; tree = ap (λ z. plain.bind (span_of z) (ident n) false) is; height = refl }
declared (pat.mutable_binding m n sm s is) e =
    record { ms = m ∷ []; n = n; m = true; is = is; mutability = mutable m sm; name = s; tree = ap (λ z. plain.bind (span_of z) (ident n) true) is; height = refl }
declared (pat.parentheses o c us y h so sc r is) e = let z = one_level y (suc h) e in let w = pattern_positive r in absurd (omega arith)
declared (pat.wild t s is) e = absurd (cc)
declared (pat.number t v k s is) e = absurd (cc)
declared (pat.negative m t v k sm s is) e = absurd (cc)
declared (pat.true_is t s is) e = absurd (cc)
declared (pat.false_is t s is) e = absurd (cc)
declared (pat.unit o c so sc is) e = absurd (cc)
declared (pat.tuple o m c us vs y ys h i so sm sc inner more is) e = absurd (cc)
declared (pat.variant a p v se sp sv is) e = absurd (cc)
declared (pat.variant_with a p v o c us y ys h se sp sv so sc inner is) e = absurd (cc)
declared (pat.structure n o c us fs h sn so sc inner is) e = absurd (cc)

record Annotated (d : ℕ) (ts : List Tok) (y : Option TypeTree × ℕ) : Type 0 where
  holds : IsAnnotation ts y.0 y.1
  low : y.1 ≤ d

annotation_derived : (d : ℕ) → Derives (annotation d) (Annotated d)
unfolding annotation
annotation_derived d = either symbol.Colon
    (took symbol.Colon refl (λ c sc. passed_last _ (type_sound d) (λ us y m. record { holds = with_type c us y.tree y.height sc m.holds refl; low = m.low })))
    (gave (record { holds = no_type; low = omega arith }))

-- what is made, with its span
fits_at : {A : Type 0} {J : List Tok → A → ℕ → Type 0} {d : ℕ} {ts : List Tok} (f : Span → A) (s : Span) (h : ℕ) → s ≡ span_of ts → h ≤ d → J ts (f (span_of ts)) h
    → Fits J d ts (record { tree = f s; height = h; span = s })
fits_at {J = J} {ts = ts} f s h e b j = record { low = b; span = e; holds = subst (λ z. J ts (f z) h) (sym e) j }

module _ (d : ℕ) (n : Deeper d) where
  initialised_derived : (t : Tok) (ps : List Tok) (p : Got PatternTree) (ys : List Tok) (y : Option TypeTree × ℕ) → Stands symbol.Let t → Fits IsPattern d ps p → Annotated d ys y
      → Derives (initialised (whole d) (like d) d t p y) (λ vs x. Fits IsStatement d (t ∷ (ps ++ (ys ++ vs))) x)
  initialised_derived t ps p ys y st mp my = took symbol.Equal refl (λ q sq. passed n.wholes (λ us x mx. took symbol.Semicolon refl (λ z sz.
      let lp = mp.low in
      let ly = my.low in
      let lx = mx.low in
      let shape : (ps ++ (ys ++ (q ∷ us))) ++ (z ∷ []) ≡ ps ++ (ys ++ (q ∷ (us ++ (z ∷ [])))) = append_assoc ps (ys ++ (q ∷ us)) (z ∷ []) ∙ ap (λ w. ps ++ w) (append_assoc ys (q ∷ us) (z ∷ [])) in
      gave (fits_at (λ s. plain.let_statement s p.tree y.0 (plain.present x.tree)) (join t.span z.span) (max (max p.height y.1) x.height)
      (span_between (ps ++ (ys ++ (q ∷ us))) t z ∙ ap (λ w. span_of (t ∷ w)) shape) (omega arith)
      (g.let_with t q z ps ys us p.tree y.0 x.tree p.height y.1 x.height st sq sz mp.holds my.holds mx.holds refl)))))

  declared_derived : (t : Tok) (ps : List Tok) (p : Got PatternTree) (ys : List Tok) (y : Option TypeTree × ℕ) → Stands symbol.Let t → Fits IsPattern d ps p → Annotated d ys y → (b : Bool) → declares p.tree p.height ≡ b
      → Derives (declared_by (whole d) (like d) d t p y b) (λ vs x. Fits IsStatement d (t ∷ (ps ++ (ys ++ vs))) x)
  declared_derived t ps p ys y st mp my false e = refused
  declared_derived t ps p ys y st mp my true e = took symbol.Semicolon refl (λ z sz.
      let lp = mp.low in
      let ly = my.low in
      let w = declared mp.holds e in
      gave (fits_at (λ s. plain.let_statement s p.tree y.0 plain.absent) (join t.span z.span) (max p.height y.1)
      (span_between (ps ++ ys) t z ∙ ap (λ w. span_of (t ∷ w)) (append_assoc ps ys (z ∷ []))) (omega arith)
      (subst (λ k. IsStatement (t ∷ (k ++ (ys ++ (z ∷ [])))) (plain.let_statement (span_of (t ∷ (k ++ (ys ++ (z ∷ []))))) p.tree y.0 plain.absent) (max p.height y.1)) (sym w.is)
      (subst (λ k. IsStatement (t ∷ ((w.ms ++ (w.n ∷ [])) ++ (ys ++ (z ∷ [])))) (plain.let_statement (span_of (t ∷ ((w.ms ++ (w.n ∷ [])) ++ (ys ++ (z ∷ []))))) k y.0 plain.absent) (max p.height y.1)) (sym w.tree)
      (subst (λ k. IsStatement (t ∷ ((w.ms ++ (w.n ∷ [])) ++ (ys ++ (z ∷ []))))
      (plain.let_statement (span_of (t ∷ ((w.ms ++ (w.n ∷ [])) ++ (ys ++ (z ∷ []))))) (plain.bind (span_of (w.ms ++ (w.n ∷ []))) (ident w.n) w.m) y.0 plain.absent) (max k y.1)) (sym w.height)
      (g.let_without t w.n z w.ms ys w.m y.0 y.1 st w.name sz w.mutability my.holds refl))))))

  let_derived : Derives (let_statement (whole d) (like d) d) (Fits IsStatement d)
  unfolding let_statement
  let_derived = roomy 1 d (λ low. took symbol.Let refl (λ t st. passed (pattern_sound d) (λ ps p mp. passed (annotation_derived d) (λ ys y my.
      either symbol.Equal (initialised_derived t ps p ys y st mp my) (declared_derived t ps p ys y st mp my (declares p.tree p.height) refl)))))

-- ---- statements

-- statements and a tail, and the brace behind them
record Listing (d : ℕ) (o : Span) (found : List Statement) (i : ℕ) (ts : List Tok) (b : Got Body) : Type 0 where
  us : List Tok
  c : Tok
  ss : List Statement
  y : OptionalExpression
  k : ℕ
  is : ts ≡ us ++ (c ∷ [])
  end : Stands symbol.CloseBrace c
  holds : AreStatements us ss y k
  low : k ≤ d
  made : b ≡ node (λ s. plain.body s (statements_of (found ++ ss)) y) (join o c.span) (max i k)

abbrev pub body_at : Span → List Statement → OptionalExpression → ℕ → Got Body
body_at s ss y h = node (λ s. plain.body s (statements_of ss) y) s h

-- a statement, and then the others: with what stands before them
extended : {d : ℕ} {o : Span} {found : List Statement} {i : ℕ} (before : List Tok → List Tok) → ((u v : List Tok) → before (u ++ v) ≡ before u ++ v) → (a : Statement) (m : ℕ) (ts : List Tok) (b : Got Body) → m ≤ d
    → ((vs : List Tok) (c : Tok) (ss : List Statement) (y : OptionalExpression) (k : ℕ) → ts ≡ vs ++ (c ∷ []) → Stands symbol.CloseBrace c → AreStatements vs ss y k → AreStatements (before vs) (a ∷ ss) y (max m k))
    → Listing d o (found ++ (a ∷ [])) (max i m) ts b → Listing d o found i (before ts) b
extended {o = o} {found = found} {i = i} before apart a m ts b l join_is w =
    let z : max (max i m) w.k ≡ max i (max m w.k) = omega arith in
    let low = w.low in
    record {
      us = before w.us;
      c = w.c;
      ss = a ∷ w.ss;
      y = w.y;
      k = max m w.k;
      is = ap before w.is ∙ apart w.us (w.c ∷ []);
      end = w.end;
      holds = join_is w.us w.c w.ss w.y w.k w.is w.end w.holds;
      low = omega arith;
      made = w.made ∙ ap (λ l. body_at (join o w.c.span) l w.y (max (max i m) w.k)) (append_assoc found (a ∷ []) w.ss) ∙ ap (λ n. body_at (join o w.c.span) (found ++ (a ∷ w.ss)) w.y n) z;
    }

-- the last expression
ended : {d : ℕ} {o : Span} {found : List Statement} {i : ℕ} (us : List Tok) (c : Tok) (x : Expression) (h : ℕ) → h ≤ d → Stands symbol.CloseBrace c → AreStatements us [] (plain.present x) h
    → Listing d o found i (us ++ (c ∷ [])) (body_at (join o c.span) found (plain.present x) (max i h))
ended {o = o} {found = found} {i = i} us c x h b sc r = record {
  us = us;
  c = c;
  ss = [];
  y = plain.present x;
  k = h;
  is = refl;
  end = sc;
  holds = r;
  low = b;
  made = ap (λ l. body_at (join o c.span) l (plain.present x) (max i h)) (sym (append-nil found));
}

pub with_semicolon : (us : List Tok) (z : Tok) (x : Got Expression) (h : ℕ) → us ≢ [] → x.span ≡ span_of us → IsStatement (us ++ (z ∷ [])) (plain.expression_statement (span_of (us ++ (z ∷ []))) x.tree true) h
    → IsStatement (us ++ (z ∷ [])) (plain.expression_statement (join x.span z.span) x.tree true) h
with_semicolon us z x h n e r = subst (λ s. IsStatement (us ++ (z ∷ [])) (plain.expression_statement s x.tree true) h) (sym (ap (λ s. join s z.span) e ∙ span_to us z n)) r

pub semicolon_apart : (us : List Tok) (z : Tok) (u v : List Tok) → us ++ (z ∷ (u ++ v)) ≡ (us ++ (z ∷ u)) ++ v
semicolon_apart us z u v = sym (append_assoc us (z ∷ u) v)

-- the brace doesn't come next
pub not_closed : (q : Symbol) (ts vs : List Tok) (c : Tok) → q ≢ symbol.CloseBrace → Front q ts → ts ≡ vs ++ (c ∷ []) → Stands symbol.CloseBrace c → vs ≢ []
not_closed q ts [] c n f is s = λ e. n (sym (f (λ a. let z : c ∷ [] ≡ [] = sym is ∙ a in cc)) ∙ ap peek is ∙ first_is symbol.CloseBrace c refl s)
not_closed q ts (v ∷ vs) c n f is s = λ e. cc

module _ (d : ℕ) (n : Deeper d) (o : Span) (again : List Statement → ℕ → Parser (Got Body)) (ok : (found : List Statement) (i : ℕ) → Derives (again found i) (Listing d o found i)) where
  after_like_derived : (found : List Statement) (i : ℕ) (us : List Tok) (x : Got Expression) → Fits IsLike d us x → (q : Symbol)
      → Derives (after_like_by (whole d) (like d) d again o found i x q) (λ vs b. Front q vs → Listing d o found i (us ++ vs) b)
  after_like_derived found i us x m symbol.Semicolon = took symbol.Semicolon refl (λ z sz. as_also (λ vs b w f.
      extended (λ v. us ++ (z ∷ v)) (semicolon_apart us z) (plain.expression_statement (join x.span z.span) x.tree true) x.height vs b m.low
      (λ ws c ss y k is s r. g.statement_and (us ++ (z ∷ [])) ws _ ss y x.height k
      (with_semicolon us z x x.height (like_some m.holds) m.span (g.done_like z us x.tree x.height sz m.holds refl)) r (semicolon_apart us z [] ws)) w)
      (ok (found ++ (plain.expression_statement (join x.span z.span) x.tree true ∷ [])) (max i x.height)))
  after_like_derived found i us x m symbol.CloseBrace = took symbol.CloseBrace refl (λ c sc. gave (λ f. ended us c x.tree x.height m.low sc (g.tail_like m.holds)))
  after_like_derived found i us x m q = as_also (λ vs b w f.
      extended (λ v. us ++ v) (λ u v. sym (append_assoc us u v)) (plain.expression_statement x.span x.tree false) x.height vs b m.low
      (λ ws c ss y k is s r. subst (λ z. AreStatements (us ++ ws) (plain.expression_statement z x.tree false ∷ ss) y (max x.height k)) (sym m.span)
      (g.like_and us ws x.tree ss y x.height k m.holds r (not_closed q vs ws c (λ a. cc) f is s) refl)) w)
      (ok (found ++ (plain.expression_statement x.span x.tree false ∷ [])) (max i x.height))

  expression_by_derived : (found : List Statement) (i : ℕ) (q : Symbol) (b : Bool) → begins_like q ≡ b → Derives (expression_by (whole d) (like d) d again o found i b) (λ ts x. Front q ts → Listing d o found i ts x)
  expression_by_derived found i q true e = passed n.likes (λ us x m. as_also (λ vs b w f. w)
      (chose_knowing (after_like_by (whole d) (like d) d again o found i x) (after_like_derived found i us x m)))
  expression_by_derived found i q false e = passed n.wholes (λ us x m.
      let some = expression_some m.holds in
      either symbol.Semicolon
      (took symbol.Semicolon refl (λ z sz. as_also (λ vs b w f.
      extended (λ v. us ++ (z ∷ v)) (semicolon_apart us z) (plain.expression_statement (join x.span z.span) x.tree true) x.height vs b m.low
      (λ ws c ss y k is s r. g.statement_and (us ++ (z ∷ [])) ws _ ss y x.height k (with_semicolon us z x x.height some m.span
      (g.done z us x.tree x.height sz m.holds (not_like us (ap begins_like (front_of_part q us (z ∷ vs) f some) ∙ e)) refl)) r (semicolon_apart us z [] ws)) w)
      (ok (found ++ (plain.expression_statement (join x.span z.span) x.tree true ∷ [])) (max i x.height))))
      (took symbol.CloseBrace refl (λ c sc. gave (λ f.
      ended us c x.tree x.height m.low sc (g.tail m.holds (not_like us (ap begins_like (front_of_part q us (c ∷ []) f some) ∙ e)))))))

  closed_derived : (found : List Statement) (i : ℕ) → Derives (closed (whole d) (like d) d o found plain.absent i) (Listing d o found i)
  closed_derived found i = took symbol.CloseBrace refl (λ c sc. gave (record {
    us = [];
    c = c;
    ss = [];
    y = plain.absent;
    k = 0;
    is = refl;
    end = sc;
    holds = g.end;
    low = omega arith;
    made = let z : i ≡ max i 0 = omega arith in ap (λ l. body_at (join o c.span) l plain.absent i) (sym (append-nil found)) ∙ ap (λ n. body_at (join o c.span) (found ++ []) plain.absent n) z;
  }))

  statement_by_derived : (found : List Statement) (i : ℕ) (q : Symbol) → Derives (statement_by (whole d) (like d) d again o found i q) (λ ts x. Front q ts → Listing d o found i ts x)
  statement_by_derived found i symbol.CloseBrace = as_also (λ ts x m f. m) (closed_derived found i)
  statement_by_derived found i symbol.Let = passed (let_derived d n) (λ us a m. as_also (λ vs b w f.
      extended (λ v. us ++ v) (λ u v. sym (append_assoc us u v)) a.tree a.height vs b m.low (λ ws c ss y k is s r. g.statement_and us ws a.tree ss y a.height k m.holds r refl) w)
      (ok (found ++ (a.tree ∷ [])) (max i a.height)))
  statement_by_derived found i q = expression_by_derived found i q (begins_like q) refl

statements_from_derived : (d : ℕ) (n : Deeper d) (o : Span) (k : ℕ) (found : List Statement) (i : ℕ) → Derives (statements_from (whole d) (like d) d o k found i) (Listing d o found i)
unfolding statements_from
statements_from_derived d n o zero found i = refused
statements_from_derived d n o (suc k) found i =
    chose_knowing (statement_by (whole d) (like d) d (statements_from (whole d) (like d) d o k) o found i)
    (statement_by_derived d n o (statements_from (whole d) (like d) d o k) (statements_from_derived d n o k) found i)

block_of_derived : (d : ℕ) → Deeper d → Derives (block_of (whole d) (like d) d) (Fits IsBlock (suc d))
unfolding block_of statements
block_of_derived d n = took symbol.OpenBrace refl (λ o so. as_also (λ vs b w.
    let low = w.low in
    let z : max 0 w.k ≡ w.k = omega arith in
    subst (λ k. Fits IsBlock (suc d) (o ∷ k) b) (sym w.is) (subst (λ k. Fits IsBlock (suc d) (o ∷ (w.us ++ (w.c ∷ []))) k) (sym (w.made ∙ ap (λ n. body_at (join o.span w.c.span) w.ss w.y n) z))
    (fits_node (λ s. plain.body s (statements_of w.ss) w.y) (span_between w.us o w.c) low (g.braces o w.c w.us w.ss w.y w.k so w.end w.holds refl))))
    (record { derive = λ i r x e. (statements_from_derived d n o.span (length i) [] 0).derive i r x e }))

-- ---- so many levels

pub deeper_derived : (d : ℕ) → Deeper d
unfolding operand whole like block
deeper_derived zero = record { operands = λ f j. stopped begins_operand; wholes = stopped begins_expression; likes = stopped begins_like; blocks = stopped opens }
deeper_derived (suc d) =
    let n = deeper_derived d in
    record {
      operands = λ f j. at_strength_derived d n (likes_derived d n) f j;
      wholes = chose (whole_by (operand d) (whole d) (like d) (block d) d) (whole_by_derived d n);
      likes = chose (like_by (operand d) (whole d) (like d) (block d) d) (likes_derived d n);
      blocks = block_of_derived d n;
    }
