-- The nodes of a text stand in order among its tokens: by induction on the derivation, the tokens of each part seen inside those of the
-- node around it. Only the operand of `&&` begins within a token, with its second `&`.
use Rattle.std.proofs.Common.{◌≡◌, ℕ, ◌+◌, ◌-◌, Bool, false, true, List, [], ◌∷◌, ◌++◌, length, Option, map, refl, ap, sym, ◌∙◌, subst, arith}
use Rattle.std.proofs.Common.{inl, inr}
use Rattle.std.specs.Prelude.{◌⊎◌, ◌≢◌, codes}
use Rattle.rx_core.specs.declared.types.Span.{Span}
use Rattle.rx_tree.specs.declared.tree.Ident.{Ident}
use Rattle.rx_tree.specs.Plain as plain
use Rattle.rx_tree.specs.Plain.{TypeTree, PatternTree, Expression, OptionalExpression, Body, Statement}
use Rattle.rx_tree.specs.PlainOf.{expressions_of, field_expressions_of, arms_of, statements_of}
use Rattle.rx_tree.specs.Lists.{Every, statement_span, listed}
use Rattle.rx_tree.specs.Spans.{node_span, expression_span}
use Rattle.rx_tree.specs.Positions.{NodeTree, a_type, a_block, a_statement, an_expression, a_pattern, children, expression_nodes, optional_nodes, field_nodes, arm_nodes, statement_nodes, optional_type_nodes}
use Rattle.rx_tree.proofs.ListsLemmas.{listed-statements_of}
use Rattle.rx_lex.specs.Tok.{Tok}
use Rattle.rx_lex.proofs.TokenLaws.{Ordered}
use Rattle.rx_parse_grammar.specs.declared.symbol.Symbol.TheVariants as symbol
use Rattle.rx_parse_grammar.specs.grammar.Words.{IsMark, span_of, final_span, ident, second_ampersand}
use Rattle.rx_parse_grammar.specs.grammar.Expressions as g
use Rattle.rx_parse_grammar.specs.grammar.Expressions.{IsLabel, IsAnnotation, IsExpression, IsOperand, IsUnary, IsPostfix, IsPrimary, AreArguments, IsField, AreFields, IsLike, IsIf, IsElse, Test, IsTest, AreArms, IsBlock, IsStatement, AreStatements, if_of, while_of}
use Rattle.rx_parse_grammar.specs.parser.Symbols.{symbol_of, peek}
use Rattle.rx_parse_grammar.proofs.Reading.{first_is}
use Rattle.rx_parse_grammar.proofs.ExpressionsFront.{begins_primary, postfix_front, block_some, like_some, expression_some}
use Rattle.rx_select.specs.Selected.{Within, IsToken}
use Rattle.rx_select.specs.Parts.{end_of, tail_place}
use Rattle.rx_select.proofs.Tokens.{token_right, every_token, ordered_above, ordered_at, ordered_near, last_end, EachLong, Clean, clean_start, clean_end, Inside, inside_is, inside_left, inside_right, inside_front, inside_back, inside_after, inside_before, final_end, Spanned, spanned, ends_of}
use Rattle.rx_select.proofs.Rows.{InOrder, Part, Each, Stands, Row, row_none, row_and, row_near, row_far, row_one, row_two, stands}
use Rattle.rx_select.proofs.Nodes.{some_first, some_middle, tight, expression_node, expression_over, statement_node, tested, if_node, while_node, type_placed, pattern_at, pattern_placed}

-- ---- all tokens of the text

pub record Text (all : List Tok) (top : ℕ) : Type 0 where
  pub ordered : Ordered 0 top all
  pub long : EachLong all

-- ---- tokens the first of which may be the second `&` of `&&`

record Nearly (all : List Tok) (from to : ℕ) (ts : List Tok) : Type 0 where
  ordered : Ordered from to ts
  behind : (t : Tok) (us : List Tok) → ts ≡ t ∷ us → (u : Tok) → IsToken u us → IsToken u all
  front : Inside all from to ts ⊎ ((t : Tok) × (us : List Tok) × (ts ≡ t ∷ us) × IsMark (codes "&") t)

whole : {all : List Tok} {from to : ℕ} {ts : List Tok} → Inside all from to ts → Nearly all from to ts
whole i = record { ordered = i.ordered; behind = λ t us e u m. i.is u (subst (λ l. IsToken u l) (sym e) (inr m)); front = inl i }

-- what stands behind the first
behind_first : {all : List Tok} {from to : ℕ} {ts : List Tok} (t : Tok) (us : List Tok) → ts ≡ t ∷ us → Nearly all from to ts → (s : Spanned from to (span_of ts) ts)
    → Inside all (span_of ts).start (span_of ts).end us
behind_first {ts = ts} t us e n s =
    let o : Ordered (span_of ts).start (span_of ts).end (t ∷ us) = subst (λ l. Ordered (span_of ts).start (span_of ts).end l) e s.within in
    let a = o.0 in
    let b = o.1 in
    record { ordered = ordered_near t.span.end (span_of ts).start (span_of ts).end us (omega (arith, a, b)) o.2; is = n.behind t us e }

no_primary : {f : Bool} {ts : List Tok} {x : Expression} {h : ℕ} → IsPostfix f ts x h → (t : Tok) (us : List Tok) → ts ≡ t ∷ us → IsMark (codes "&") t → ⊥
no_primary {ts = ts} r t us e m =
    let a : begins_primary (peek ((t ∷ us) ++ [])) ≡ true = ap (λ l. begins_primary (peek (l ++ []))) (sym e) ∙ postfix_front r [] in
    let b : symbol_of t ≡ symbol.Ampersand = first_is symbol.Ampersand t refl m in
    let c : begins_primary (symbol_of t) ≡ false = ap begins_primary b in
    cc

two_long : {all : List Tok} {top from to : ℕ} {ts : List Tok} → Text all top → Nearly all from to ts → (t : Tok) (us : List Tok) → ts ≡ t ∷ us → IsMark (codes "&&") t
    → t.span.end ≡ t.span.start + 2
two_long {all} {from = from} {to = to} {ts = ts} x n t us e m = by n.front
  where
    by : Inside all from to ts ⊎ ((a : Tok) × (vs : List Tok) × (ts ≡ a ∷ vs) × IsMark (codes "&") a) → t.span.end ≡ t.span.start + 2
    by (inl i) =
        let k : IsToken t all = i.is t (subst (λ l. IsToken t l) (sym e) (inl refl)) in
        every_token (λ u. u.span.end ≡ u.span.start + length u.text) all t x.long k ∙ ap (λ w. t.span.start + length w) m.1
    by (inr (a, vs, q, k)) =
        let s : a ≡ t = cc in
        let u : codes "&" ≡ codes "&&" = sym k.1 ∙ ap (λ (y : Tok). y.text) s ∙ m.1 in
        let l : 1 ≡ 2 = ap length u in
        absurd (omega (arith, l))

-- ---- parts of a statement

annotation_row : {all : List Tok} {from at to : ℕ} {ts : List Tok} {y : Option TypeTree} {h : ℕ} (cs : List NodeTree) → IsAnnotation ts y h → Inside all from at ts → Row all at to cs
    → Row all from to (optional_type_nodes y ++ cs)
annotation_row {all} {from} {at} {to} cs g.no_type i r = row_near all at from to cs i.ordered r
annotation_row {all} {from} {at} {to} {ts} cs (g.with_type c us y h s d is) i r =
    row_and all from at to (a_type y) cs (type_placed d (inside_after all from at c us (inside_is all from at ts (c ∷ us) is i))) r

-- ---- between the braces of a block

record Between (all : List Tok) (from to : ℕ) (ss : List Statement) (y : OptionalExpression) : Type 0 where
  ordered : InOrder from to (map statement_span ss ++ tail_place (end_of from ss) y to)
  parts : Every (Part all) (map statement_span ss ++ tail_place (end_of from ss) y to)
  each : Each (map node_span (statement_nodes (statements_of ss) ++ optional_nodes y)) (map statement_span ss ++ tail_place (end_of from ss) y to)
  children : Row all from to (statement_nodes (statements_of ss) ++ optional_nodes y)

between_tail : {all : List Tok} {from to : ℕ} {ts : List Tok} (x : Expression) → ts ≢ [] → Clean all from → Clean all to → Inside all from to ts → Stands all from to (an_expression x)
    → Between all from to [] (plain.present x)
between_tail {all} {from} {to} {ts} x n a b i s =
    let f = ends_of ts n in
    let o = ordered_at from to ts f.first i.ordered f.first_is in
    record {
      ordered = (omega arith, omega (arith, o.0, o.1, o.2), omega arith);
      parts = (record { front = a; back = b; token = f.first; is = i.is f.first f.first_is; within = (o.0, o.2) }, tt);
      each = (s.starts, s.ends, tt);
      children = row_one all from to (an_expression x) s;
    }

between_more : {all : List Tok} {top from to : ℕ} {us : List Tok} (a : Statement) (ss : List Statement) (y : OptionalExpression) → Text all top → us ≢ [] → span_of us ≡ statement_span a
    → Inside all from (last_end from us) us → Stands all from (last_end from us) (a_statement a)
    → (Clean all (last_end from us) → Between all (last_end from us) to ss y) → Between all from to (a ∷ ss) y
between_more {all} {top} {from} {to} {us} a ss y x n e i s more =
    let f = ends_of us n in
    let k = spanned from (last_end from us) us n i.ordered in
    let z : (span_of us).end ≡ last_end from us = span_end us n from in
    let c0 : Clean all f.first.span.start = clean_start 0 top all f.first x.ordered (i.is f.first f.first_is) in
    let c1 : Clean all f.last.span.end = clean_end 0 top all f.last x.ordered (i.is f.last f.last_is) in
    let d0 : Clean all (statement_span a).start = subst (λ p. Clean all p) (f.begins ∙ ap (λ (p : Span). p.start) e) c0 in
    let d1 : Clean all (statement_span a).end = subst (λ p. Clean all p) (f.ends ∙ ap (λ (p : Span). p.end) e) c1 in
    let g1 : last_end from us ≡ (statement_span a).end = sym z ∙ ap (λ (p : Span). p.end) e in
    let r0 : Between all (last_end from us) to ss y = more (subst (λ p. Clean all p) (sym g1) d1) in
    let r : Between all (statement_span a).end to ss y = subst (λ p. Between all p to ss y) g1 r0 in
    let o = ordered_at from (last_end from us) us f.first i.ordered f.first_is in
    let w = ordered_at (span_of us).start (span_of us).end us f.first k.within f.first_is in
    record {
      ordered = (s.starts, s.long, r.ordered);
      parts = (record { front = d0; back = d1; token = f.first; is = i.is f.first f.first_is; within = subst (λ (p : Span). Within p.start p.end f.first) e (w.0, w.2) }, r.parts);
      each = (omega arith, omega arith, r.each);
      children = row_and all from (last_end from us) to (a_statement a) (statement_nodes (statements_of ss) ++ optional_nodes y) s r0.children;
    }
  where
    span_end : (ts : List Tok) → ts ≢ [] → (at : ℕ) → (span_of ts).end ≡ last_end at ts
    span_end [] q at = absurd (q refl)
    span_end (t ∷ ts) q at = final_end t.span ts

-- a mark of one byte
one_long : (all : List Tok) (t : Tok) (c : ℕ) → EachLong all → IsToken t all → t.text ≡ c ∷ [] → t.span.end ≡ t.span.start + 1
one_long all t c l i e = every_token (λ u. u.span.end ≡ u.span.start + length u.text) all t l i ∙ ap (λ w. t.span.start + length w) e

last_is : (s : Span) (us : List Tok) (c : Tok) → final_span s (us ++ c ∷ []) ≡ c.span
last_is s [] c = refl
last_is s (u ∷ us) c = last_is u.span us c

-- what stands between the braces makes the block
block_of : {all : List Tok} {top from to : ℕ} {ts : List Tok} (o c : Tok) (us : List Tok) (ss : List Statement) (y : OptionalExpression) → Text all top → IsMark (codes "{") o → IsMark (codes "}") c
    → ts ≡ o ∷ (us ++ c ∷ []) → Inside all from to ts
    → (Clean all o.span.end → Clean all c.span.start → Inside all o.span.end c.span.start us → Between all o.span.end c.span.start ss y)
    → Stands all from to (a_block (plain.body (span_of ts) (statements_of ss) y))
block_of {all} {top} {from} {to} {ts} o c us ss y x mo mc e i inner =
    let n = some_first o (us ++ c ∷ []) ts e in
    let k = tight n i in
    let s = span_of ts in
    let w = inside_is all s.start s.end ts (o ∷ (us ++ c ∷ [])) e k.inside in
    let r = inside_right all s.start s.end (o ∷ []) (us ++ c ∷ []) w in
    let io = w.is o (inl refl) in
    let ic = w.is c (inr (token_right c us (c ∷ []) (inl refl))) in
    let lo = one_long all o 123 x.long io mo.1 in
    let lc = one_long all c 125 x.long ic mc.1 in
    let so : s.start ≡ o.span.start = ap (λ (l : List Tok). (span_of l).start) e in
    let sc : s.end ≡ c.span.end = ap (λ (l : List Tok). (span_of l).end) e ∙ ap (λ (p : Span). p.end) (last_is o.span us c) in
    let v = inside_before all o.span.end s.end us [] c r in
    let b = inner (clean_end 0 top all o x.ordered io) (clean_start 0 top all c x.ordered ic) v in
    let f0 : o.span.end ≡ s.start + 1 = omega (arith, lo, so) in
    let f1 : c.span.start ≡ s.end - 1 = omega (arith, lc, sc) in
    let b0 : Between all (s.start + 1) c.span.start ss y = subst (λ p. Between all p c.span.start ss y) f0 b in
    let b1 : Between all (s.start + 1) (s.end - 1) ss y = subst (λ p. Between all (s.start + 1) p ss y) f1 b0 in
    let m : listed (statements_of ss) ≡ ss = listed-statements_of ss in
    let P : List Statement → Type 0 = λ l. InOrder (s.start + 1) (s.end - 1) (map statement_span l ++ tail_place (end_of (s.start + 1) l) y (s.end - 1))
    × Every (Part all) (map statement_span l ++ tail_place (end_of (s.start + 1) l) y (s.end - 1))
    × Each (map node_span (statement_nodes (statements_of ss) ++ optional_nodes y)) (map statement_span l ++ tail_place (end_of (s.start + 1) l) y (s.end - 1)) in
    let q : P (listed (statements_of ss)) = subst P (sym m) (b1.ordered, b1.parts, b1.each) in
    let h = row_near all (s.start + 1) s.start (s.end - 1) (statement_nodes (statements_of ss) ++ optional_nodes y) (omega arith) b1.children in
    let j = row_far all s.start (s.end - 1) s.end (statement_nodes (statements_of ss) ++ optional_nodes y) (omega arith) h in
    stands all from to (a_block (plain.body s (statements_of ss) y)) k.starts k.long k.ends
    (j.ordered, record { ordered = q.0; parts = q.1; each = q.2; brace = o; is = io; begins = sym so; ends = f0 }) j

-- an expression without parts
leaf : {all : List Tok} {from to : ℕ} {ts : List Tok} (x : Expression) (t : Tok) (us : List Tok) → ts ≡ t ∷ us → span_of ts ≡ expression_span x → [] ≡ children (an_expression x)
    → Inside all from to ts → Stands all from to (an_expression x)
leaf {all} {from} {to} {ts} x t us e s c i =
    let k = tight (some_first t us ts e) i in
    let l = k.long in
    expression_node x s k (subst (λ cs. Row all (span_of ts).start (span_of ts).end cs) c (row_none all (span_of ts).start (span_of ts).end (omega (arith, l))))

either : {A B C : Type 0} → (A → C) → (B → C) → A ⊎ B → C
either f h (inl a) = f a
either f h (inr b) = h b

-- behind `&&` stands what its second `&` begins
twice : {all : List Tok} {top from to : ℕ} {ts : List Tok} (t : Tok) (us : List Tok) → Text all top → ts ≡ t ∷ us → IsMark (codes "&&") t → Nearly all from to ts
    → Spanned from to (span_of ts) ts → Nearly all (span_of ts).start (span_of ts).end (second_ampersand t ∷ us)
twice {all} {top} {from} {to} {ts} t us z e m n s =
    let o : Ordered (span_of ts).start (span_of ts).end (t ∷ us) = subst (λ l. Ordered (span_of ts).start (span_of ts).end l) e s.within in
    let l = two_long z n t us e m in
    let a = o.0 in
    record {
      ordered = (omega (arith, a), omega (arith, l), o.2);
      behind = λ b vs q u k. let r : us ≡ vs = cc in n.behind t us e u (subst (λ l. IsToken u l) (sym r) k);
      front = inr (second_ampersand t, us, refl, (refl, refl));
    }

statement_begins : {ts : List Tok} {a : Statement} {h : ℕ} → IsStatement ts a h → ts ≢ []
statement_begins (g.let_with t q z ps ys us p y x m n k kt kq kz dp dy dx e) = some_first t _ _ e
statement_begins (g.let_without t n z ms ys m y h kt kn kz dm dy e) = some_first t _ _ e
statement_begins (g.done z us x h kz d b e) = some_middle us [] _ z e
statement_begins (g.done_like z us x h kz d e) = some_middle us [] _ z e

statement_spans : {ts : List Tok} {a : Statement} {h : ℕ} → IsStatement ts a h → span_of ts ≡ statement_span a
statement_spans (g.let_with t q z ps ys us p y x m n k kt kq kz dp dy dx e) = refl
statement_spans (g.let_without t n z ms ys m y h kt kn kz dm dy e) = refl
statement_spans (g.done z us x h kz d b e) = refl
statement_spans (g.done_like z us x h kz d e) = refl

mutual
  pub expression_placed : {all : List Tok} {top from to : ℕ} {ts : List Tok} {x : Expression} {h : ℕ} → Text all top → IsExpression ts x h → Inside all from to ts → Stands all from to (an_expression x)
  expression_placed z (g.operand r) i = operand_placed z r i
  expression_placed {all} {x = x} z (g.assign us vs t l r m n s a b is) i =
      let k = tight (some_middle us vs _ t is) i in
      let w = inside_is all _ _ _ _ is k.inside in
      expression_node x refl k (row_two all _ _ _ (an_expression l) (an_expression r) (operand_placed z a (inside_left all _ _ us (t ∷ vs) w)) (expression_placed z b (inside_after all _ _ t vs (inside_right all _ _ us (t ∷ vs) w))))
  expression_placed {all} {x = x} z (g.update us vs t o l r m n s a b is) i =
      let k = tight (some_middle us vs _ t is) i in
      let w = inside_is all _ _ _ _ is k.inside in
      expression_node x refl k (row_two all _ _ _ (an_expression l) (an_expression r) (operand_placed z a (inside_left all _ _ us (t ∷ vs) w)) (expression_placed z b (inside_after all _ _ t vs (inside_right all _ _ us (t ∷ vs) w))))
  expression_placed {all} {x = x} z (g.return t s is) i = leaf x t [] is refl refl i
  expression_placed {all} {x = x} z (g.return_with t us y h s r is) i =
      let k = tight (some_first t us _ is) i in
      let w = inside_is all _ _ _ _ is k.inside in
      expression_node x refl k (row_one all _ _ (an_expression y) (expression_placed z r (inside_after all _ _ t us w)))
  expression_placed {all} {x = x} z (g.break t s is) i = leaf x t [] is refl refl i
  expression_placed {all} {x = x} z (g.break_from t l s a is) i = leaf x t _ is refl refl i
  expression_placed {all} {x = x} z (g.continue t s is) i = leaf x t [] is refl refl i
  expression_placed {all} {x = x} z (g.continue_with t l s a is) i = leaf x t _ is refl refl i

  operand_placed : {all : List Tok} {top from to : ℕ} {f : Bool} {j : ℕ} {ts : List Tok} {x : Expression} {h : ℕ} → Text all top → IsOperand f j ts x h → Inside all from to ts
      → Stands all from to (an_expression x)
  operand_placed z (g.unary r) i = unary_placed z r (whole i)
  operand_placed z (g.stronger r) i = operand_placed z r i
  operand_placed {all} {x = x} z (g.chain us vs t o l r m n c s a b is) i =
      let k = tight (some_middle us vs _ t is) i in
      let w = inside_is all _ _ _ _ is k.inside in
      expression_node x refl k (row_two all _ _ _ (an_expression l) (an_expression r) (operand_placed z a (inside_left all _ _ us (t ∷ vs) w)) (operand_placed z b (inside_after all _ _ t vs (inside_right all _ _ us (t ∷ vs) w))))
  operand_placed {all} {x = x} z (g.compare us vs t o l r m n c s a b is) i =
      let k = tight (some_middle us vs _ t is) i in
      let w = inside_is all _ _ _ _ is k.inside in
      expression_node x refl k (row_two all _ _ _ (an_expression l) (an_expression r) (operand_placed z a (inside_left all _ _ us (t ∷ vs) w)) (operand_placed z b (inside_after all _ _ t vs (inside_right all _ _ us (t ∷ vs) w))))

  unary_placed : {all : List Tok} {top from to : ℕ} {f : Bool} {ts : List Tok} {x : Expression} {h : ℕ} → Text all top → IsUnary f ts x h → Nearly all from to ts
      → Stands all from to (an_expression x)
  unary_placed z (g.postfix r) n = either (λ i. postfix_placed z r i) (λ q. absurd (no_primary r q.0 q.1 q.2 q.3)) n.front
  unary_placed {all} {x = x} z (g.negate t us y h s r is) n =
      let k = spanned _ _ _ (some_first t us _ is) n.ordered in
      expression_over x refl k (row_one all _ _ (an_expression y) (unary_placed z r (whole (behind_first t us is n k))))
  unary_placed {all} {x = x} z (g.invert t us y h s r is) n =
      let k = spanned _ _ _ (some_first t us _ is) n.ordered in
      expression_over x refl k (row_one all _ _ (an_expression y) (unary_placed z r (whole (behind_first t us is n k))))
  unary_placed {all} {x = x} z (g.deref t us y h s r is) n =
      let k = spanned _ _ _ (some_first t us _ is) n.ordered in
      expression_over x refl k (row_one all _ _ (an_expression y) (unary_placed z r (whole (behind_first t us is n k))))
  unary_placed {all} {x = x} z (g.borrow t ms us m y h s a r is) n =
      let k = spanned _ _ _ (some_first t (ms ++ us) _ is) n.ordered in
      expression_over x refl k (row_one all _ _ (an_expression y) (unary_placed z r (whole (inside_back all _ _ ms us (behind_first t (ms ++ us) is n k)))))
  unary_placed {all} {x = x} z (g.borrow_twice t us y h s r is) n =
      let k = spanned _ _ _ (some_first t us _ is) n.ordered in
      expression_over x refl k (row_one all _ _ (an_expression y) (unary_placed z r (twice t us z is s n k)))

  postfix_placed : {all : List Tok} {top from to : ℕ} {f : Bool} {ts : List Tok} {x : Expression} {h : ℕ} → Text all top → IsPostfix f ts x h → Inside all from to ts
      → Stands all from to (an_expression x)
  postfix_placed z (g.primary r) i = primary_placed z r i
  postfix_placed {all} {x = x} z (g.field us d n y h s a r is) i =
      let k = tight (some_middle us (n ∷ []) _ d is) i in
      let w = inside_is all _ _ _ _ is k.inside in
      expression_node x refl k (row_one all _ _ (an_expression y) (postfix_placed z r (inside_front all _ _ us (d ∷ n ∷ []) w)))
  postfix_placed {all} {x = x} z (g.part us d t v y h s a r is) i =
      let k = tight (some_middle us (t ∷ []) _ d is) i in
      let w = inside_is all _ _ _ _ is k.inside in
      expression_node x refl k (row_one all _ _ (an_expression y) (postfix_placed z r (inside_front all _ _ us (d ∷ t ∷ []) w)))

  primary_placed : {all : List Tok} {top from to : ℕ} {f : Bool} {ts : List Tok} {x : Expression} {h : ℕ} → Text all top → IsPrimary f ts x h → Inside all from to ts
      → Stands all from to (an_expression x)
  primary_placed {x = x} z (g.number t v k s is) i = leaf x t _ is refl refl i
  primary_placed {x = x} z (g.true_is t s is) i = leaf x t _ is refl refl i
  primary_placed {x = x} z (g.false_is t s is) i = leaf x t _ is refl refl i
  primary_placed {x = x} z (g.variable t s is) i = leaf x t _ is refl refl i
  primary_placed {all} {x = x} z (g.call t o c us xs h st so sc r is) i =
      let k = tight (some_first t _ _ is) i in
      let w = inside_after all _ _ o _ (inside_after all _ _ t _ (inside_is all _ _ _ _ is k.inside)) in
      expression_node x refl k (arguments_placed z r (inside_front all _ _ us (c ∷ []) w))
  primary_placed {x = x} z (g.next_input r p n o c sr sp sn so sc is) i = leaf x r _ is refl refl i
  primary_placed {x = x} z (g.variant e p v se sp sv is) i = leaf x e _ is refl refl i
  primary_placed {all} {x = x} z (g.variant_with e p v o c us y ys h se sp sv so sc r is) i =
      let k = tight (some_first e _ _ is) i in
      let w = inside_back all _ _ (e ∷ p ∷ v ∷ o ∷ []) (us ++ c ∷ []) (inside_is all _ _ _ _ is k.inside) in
      expression_node x refl k (arguments_placed z r (inside_front all _ _ us (c ∷ []) w))
  primary_placed {all} {x = x} z (g.structure n o c us fs h sn so sc r is) i =
      let k = tight (some_first n _ _ is) i in
      let w = inside_back all _ _ (n ∷ o ∷ []) (us ++ c ∷ []) (inside_is all _ _ _ _ is k.inside) in
      expression_node x refl k (fields_placed z r (inside_front all _ _ us (c ∷ []) w))
  primary_placed {all} {x = x} z (g.print p b o q m c us y h sp sb so sq sm sc r is) i =
      let k = tight (some_first p _ _ is) i in
      let w = inside_back all _ _ (p ∷ b ∷ o ∷ q ∷ m ∷ []) (us ++ c ∷ []) (inside_is all _ _ _ _ is k.inside) in
      expression_node x refl k (row_one all _ _ (an_expression y) (expression_placed z r (inside_front all _ _ us (c ∷ []) w)))
  primary_placed {x = x} z (g.unit o c so sc is) i = leaf x o _ is refl refl i
  primary_placed {all} z (g.parentheses o c us y h so sc r is) i =
      let w = inside_after all _ _ o _ (inside_is all _ _ _ _ is i) in
      expression_placed z r (inside_front all _ _ us (c ∷ []) w)
  primary_placed {all} {x = x} z (g.tuple o m c us vs y ys h j so sm sc r more is) i =
      let k = tight (some_first o _ _ is) i in
      let w = inside_after all _ _ o _ (inside_is all _ _ _ _ is k.inside) in
      let v = inside_after all _ _ m _ (inside_right all _ _ us (m ∷ (vs ++ c ∷ [])) w) in
      expression_node x refl k (row_and all _ _ _ (an_expression y) (expression_nodes (expressions_of ys)) (expression_placed z r (inside_left all _ _ us (m ∷ (vs ++ c ∷ [])) w))
      (arguments_placed z more (inside_front all _ _ vs (c ∷ []) v)))
  primary_placed z (g.like r) i = like_placed z r i

  arguments_placed : {all : List Tok} {top from to : ℕ} {ts : List Tok} {xs : List Expression} {h : ℕ} → Text all top → AreArguments ts xs h → Inside all from to ts
      → Row all from to (expression_nodes (expressions_of xs))
  arguments_placed {all} z g.no_argument i = row_none all _ _ i.ordered
  arguments_placed {all} z (g.last_argument {x = x} r) i = row_one all _ _ (an_expression x) (expression_placed z r i)
  arguments_placed {all} z (g.argument_and us vs c x xs m n r s more is) i =
      let w = inside_is all _ _ _ _ is i in
      row_and all _ _ _ (an_expression x) (expression_nodes (expressions_of xs)) (expression_placed z r (inside_left all _ _ us (c ∷ vs) w))
      (arguments_placed z more (inside_after all _ _ c vs (inside_right all _ _ us (c ∷ vs) w)))

  field_placed : {all : List Tok} {top from to : ℕ} {ts : List Tok} {f : Ident × Expression} {h : ℕ} → Text all top → IsField ts f h → Inside all from to ts
      → Stands all from to (an_expression f.1)
  field_placed {all} z (g.long_field n c us x h sn sc r is) i = expression_placed z r (inside_back all _ _ (n ∷ c ∷ []) us (inside_is all _ _ _ _ is i))
  field_placed {ts = ts} z (g.short_field n sn is) i = leaf (plain.var (span_of ts) n.text) n [] is refl refl i

  fields_placed : {all : List Tok} {top from to : ℕ} {ts : List Tok} {fs : List (Ident × Expression)} {h : ℕ} → Text all top → AreFields ts fs h → Inside all from to ts
      → Row all from to (field_nodes (field_expressions_of fs))
  fields_placed {all} z g.no_field i = row_none all _ _ i.ordered
  fields_placed {all} z (g.last_field {x = x} r) i = row_one all _ _ (an_expression x.1) (field_placed z r i)
  fields_placed {all} z (g.field_and us vs c x xs m n r s more is) i =
      let w = inside_is all _ _ _ _ is i in
      row_and all _ _ _ (an_expression x.1) (field_nodes (field_expressions_of xs)) (field_placed z r (inside_left all _ _ us (c ∷ vs) w))
      (fields_placed z more (inside_after all _ _ c vs (inside_right all _ _ us (c ∷ vs) w)))

  like_placed : {all : List Tok} {top from to : ℕ} {ts : List Tok} {x : Expression} {h : ℕ} → Text all top → IsLike ts x h → Inside all from to ts → Stands all from to (an_expression x)
  like_placed {all} {x = x} z (g.block b h r) i =
      let k = tight (block_some r) i in
      expression_node x refl k (row_one all _ _ (a_block b) (block_placed z r k.inside))
  like_placed z (g.conditional r) i = conditional_placed z r i
  like_placed {all} {x = x} z (g.match t o c us vs y a more m n st so sc r l is) i =
      let k = tight (some_first t _ _ is) i in
      let w = inside_after all _ _ t _ (inside_is all _ _ _ _ is k.inside) in
      let v = inside_after all _ _ o _ (inside_right all _ _ us (o ∷ (vs ++ c ∷ [])) w) in
      expression_node x refl k (row_and all _ _ _ (an_expression y) (arm_nodes (arms_of (a ∷ more))) (operand_placed z r (inside_left all _ _ us (o ∷ (vs ++ c ∷ [])) w))
      (arms_placed z l (inside_front all _ _ vs (c ∷ []) v)))
  like_placed {all} {x = x} z (g.loop ls us t l b h sl st r is) i =
      let k = tight (some_middle ls us _ t is) i in
      let w = inside_after all _ _ t us (inside_back all _ _ ls (t ∷ us) (inside_is all _ _ _ _ is k.inside)) in
      expression_node x refl k (row_one all _ _ (a_block b) (block_placed z r w))
  like_placed {all} z (g.while ls us vs t l x b m n sl st c r is) i =
      let k = tight (some_middle ls (us ++ vs) _ t is) i in
      let w = inside_after all _ _ t (us ++ vs) (inside_back all _ _ ls (t ∷ (us ++ vs)) (inside_is all _ _ _ _ is k.inside)) in
      while_node l x b k (test_placed z c (a_block b ∷ []) (inside_left all _ _ us vs w) (row_one all _ _ (a_block b) (block_placed z r (inside_right all _ _ us vs w))))

  test_placed : {all : List Tok} {top from at to : ℕ} {ts : List Tok} {x : Test} {h : ℕ} → Text all top → IsTest ts x h → (cs : List NodeTree) → Inside all from at ts → Row all at to cs
      → Row all from to (tested x cs)
  test_placed {all} z (g.test {x = x} r) cs i row = row_and all _ _ _ (an_expression x) cs (operand_placed z r i) row
  test_placed {all} z (g.test_pattern t q ps us p x m n st sq r e is) cs i row =
      let w = inside_after all _ _ t (ps ++ (q ∷ us)) (inside_is all _ _ _ _ is i) in
      row_and all _ _ _ (a_pattern p) (an_expression x ∷ cs) (pattern_placed r (inside_left all _ _ ps (q ∷ us) w))
      (row_and all _ _ _ (an_expression x) cs (operand_placed z e (inside_after all _ _ q us (inside_right all _ _ ps (q ∷ us) w))) row)

  conditional_placed : {all : List Tok} {top from to : ℕ} {ts : List Tok} {x : Expression} {h : ℕ} → Text all top → IsIf ts x h → Inside all from to ts → Stands all from to (an_expression x)
  conditional_placed {all} z (g.if_alone t us vs x b m n st c r is) i =
      let k = tight (some_first t _ _ is) i in
      let w = inside_after all _ _ t (us ++ vs) (inside_is all _ _ _ _ is k.inside) in
      if_node x b plain.absent k (test_placed z c (a_block b ∷ []) (inside_left all _ _ us vs w) (row_one all _ _ (a_block b) (block_placed z r (inside_right all _ _ us vs w))))
  conditional_placed {all} z (g.if_else t e us vs ws x y b m n j st se c r o is) i =
      let k = tight (some_first t _ _ is) i in
      let w = inside_after all _ _ t (us ++ (vs ++ (e ∷ ws))) (inside_is all _ _ _ _ is k.inside) in
      let v = inside_right all _ _ us (vs ++ (e ∷ ws)) w in
      if_node x b (plain.present y) k (test_placed z c (a_block b ∷ an_expression y ∷ []) (inside_left all _ _ us (vs ++ (e ∷ ws)) w)
      (row_two all _ _ _ (a_block b) (an_expression y) (block_placed z r (inside_left all _ _ vs (e ∷ ws) v)) (else_placed z o (inside_after all _ _ e ws (inside_right all _ _ vs (e ∷ ws) v)))))

  else_placed : {all : List Tok} {top from to : ℕ} {ts : List Tok} {x : Expression} {h : ℕ} → Text all top → IsElse ts x h → Inside all from to ts → Stands all from to (an_expression x)
  else_placed {all} {x = x} z (g.else_block b h r) i =
      let k = tight (block_some r) i in
      expression_node x refl k (row_one all _ _ (a_block b) (block_placed z r k.inside))
  else_placed z (g.else_if r) i = conditional_placed z r i

  arms_placed : {all : List Tok} {top from to : ℕ} {ts : List Tok} {l : List (PatternTree × Expression)} {h : ℕ} → Text all top → AreArms ts l h → Inside all from to ts
      → Row all from to (arm_nodes (arms_of l))
  arms_placed {all} z g.no_arm i = row_none all _ _ i.ordered
  arms_placed {all} z (g.like_arm a ps us vs p x more m n k r s e rest is) i =
      let w = inside_is all _ _ _ _ is i in
      let v = inside_after all _ _ a (us ++ vs) (inside_right all _ _ ps (a ∷ (us ++ vs)) w) in
      row_and all _ _ _ (a_pattern p) (an_expression x ∷ arm_nodes (arms_of more)) (pattern_placed r (inside_left all _ _ ps (a ∷ (us ++ vs)) w))
      (row_and all _ _ _ (an_expression x) (arm_nodes (arms_of more)) (like_placed z e (inside_left all _ _ us vs v)) (arms_placed z rest (inside_right all _ _ us vs v)))
  arms_placed {all} z (g.like_arm_and a c ps us vs p x more m n k r s e t rest is) i =
      let w = inside_is all _ _ _ _ is i in
      let v = inside_after all _ _ a (us ++ (c ∷ vs)) (inside_right all _ _ ps (a ∷ (us ++ (c ∷ vs))) w) in
      row_and all _ _ _ (a_pattern p) (an_expression x ∷ arm_nodes (arms_of more)) (pattern_placed r (inside_left all _ _ ps (a ∷ (us ++ (c ∷ vs))) w))
      (row_and all _ _ _ (an_expression x) (arm_nodes (arms_of more)) (like_placed z e (inside_left all _ _ us (c ∷ vs) v))
      (arms_placed z rest (inside_after all _ _ c vs (inside_right all _ _ us (c ∷ vs) v))))
  arms_placed {all} z (g.arm_and a c ps us vs p x more m n k r s e o t rest is) i =
      let w = inside_is all _ _ _ _ is i in
      let v = inside_after all _ _ a (us ++ (c ∷ vs)) (inside_right all _ _ ps (a ∷ (us ++ (c ∷ vs))) w) in
      row_and all _ _ _ (a_pattern p) (an_expression x ∷ arm_nodes (arms_of more)) (pattern_placed r (inside_left all _ _ ps (a ∷ (us ++ (c ∷ vs))) w))
      (row_and all _ _ _ (an_expression x) (arm_nodes (arms_of more)) (expression_placed z e (inside_left all _ _ us (c ∷ vs) v))
      (arms_placed z rest (inside_after all _ _ c vs (inside_right all _ _ us (c ∷ vs) v))))
  arms_placed {all} z (g.last_arm a ps us p x m n r s e o is) i =
      let w = inside_is all _ _ _ _ is i in
      row_two all _ _ _ (a_pattern p) (an_expression x) (pattern_placed r (inside_left all _ _ ps (a ∷ us) w))
      (expression_placed z e (inside_after all _ _ a us (inside_right all _ _ ps (a ∷ us) w)))

  pub block_placed : {all : List Tok} {top from to : ℕ} {ts : List Tok} {b : Body} {h : ℕ} → Text all top → IsBlock ts b h → Inside all from to ts → Stands all from to (a_block b)
  block_placed z (g.braces o c us ss y h so sc r is) i = block_of o c us ss y z so sc is i (λ a b w. between z r a b w)

  statement_placed : {all : List Tok} {top from to : ℕ} {ts : List Tok} {a : Statement} {h : ℕ} → Text all top → IsStatement ts a h → Inside all from to ts → Stands all from to (a_statement a)
  statement_placed {all} {a = a} z (g.let_with t q y ps ys us p o x m n k st sq sz r j e is) i =
      let k = tight (some_first t _ _ is) i in
      let w = inside_after all _ _ t (ps ++ (ys ++ (q ∷ (us ++ y ∷ [])))) (inside_is all _ _ _ _ is k.inside) in
      let v = inside_right all _ _ ps (ys ++ (q ∷ (us ++ y ∷ []))) w in
      let u = inside_after all _ _ q (us ++ y ∷ []) (inside_right all _ _ ys (q ∷ (us ++ y ∷ [])) v) in
      statement_node a refl k (row_and all _ _ _ (a_pattern p) (optional_type_nodes o ++ (an_expression x ∷ [])) (pattern_placed r (inside_left all _ _ ps (ys ++ (q ∷ (us ++ y ∷ []))) w))
      (annotation_row (an_expression x ∷ []) j (inside_left all _ _ ys (q ∷ (us ++ y ∷ [])) v) (row_one all _ _ (an_expression x) (expression_placed z e (inside_front all _ _ us (y ∷ []) u)))))
  statement_placed {all} {a = a} z (g.let_without t n y ms ys m o h st sn sz sm j is) i =
      let k = tight (some_first t _ _ is) i in
      let w = inside_after all _ _ t ((ms ++ n ∷ []) ++ (ys ++ y ∷ [])) (inside_is all _ _ _ _ is k.inside) in
      let v = inside_right all _ _ (ms ++ n ∷ []) (ys ++ y ∷ []) w in
      let u = inside_right all _ _ ys (y ∷ []) v in
      let e = inside_left all _ _ ys (y ∷ []) v in
      statement_node a refl k (row_and all _ _ _ (a_pattern (plain.bind (span_of (ms ++ n ∷ [])) (ident n) m)) (optional_type_nodes o ++ [])
      (pattern_at (plain.bind (span_of (ms ++ n ∷ [])) (ident n) m) (some_middle ms [] _ n refl) refl (inside_left all _ _ (ms ++ n ∷ []) (ys ++ y ∷ []) w))
      (annotation_row [] j e (row_none all _ _ (ordered_above _ _ (y ∷ []) u.ordered))))
  statement_placed {all} {a = a} z (g.done y us x h sz r o is) i =
      let k = tight (some_middle us [] _ y is) i in
      statement_node a refl k (row_one all _ _ (an_expression x) (expression_placed z r (inside_front all _ _ us (y ∷ []) (inside_is all _ _ _ _ is k.inside))))
  statement_placed {all} {a = a} z (g.done_like y us x h sz r is) i =
      let k = tight (some_middle us [] _ y is) i in
      statement_node a refl k (row_one all _ _ (an_expression x) (like_placed z r (inside_front all _ _ us (y ∷ []) (inside_is all _ _ _ _ is k.inside))))

  between : {all : List Tok} {top from to : ℕ} {ts : List Tok} {ss : List Statement} {y : OptionalExpression} {h : ℕ} → Text all top → AreStatements ts ss y h → Clean all from → Clean all to
      → Inside all from to ts → Between all from to ss y
  between {all} z g.end a b i = record { ordered = i.ordered; parts = tt; each = tt; children = row_none all _ _ i.ordered }
  between z (g.tail {x = x} r o) a b i = between_tail x (expression_some r) a b i (expression_placed z r i)
  between z (g.tail_like {x = x} r) a b i = between_tail x (like_some r) a b i (like_placed z r i)
  between {all} z (g.statement_and us vs s ss y m n r more is) a b i =
      let w = inside_is all _ _ _ _ is i in
      let v = inside_left all _ _ us vs w in
      between_more s ss y z (statement_begins r) (statement_spans r) v (statement_placed z r v) (λ c. between z more c b (inside_right all _ _ us vs w))
  between {all} z (g.like_and us vs x ss y m n r more o is) a b i =
      let w = inside_is all _ _ _ _ is i in
      let v = inside_left all _ _ us vs w in
      let s = plain.expression_statement (span_of us) x false in
      let k = tight (like_some r) v in
      between_more s ss y z (like_some r) refl v (statement_node s refl k (row_one all _ _ (an_expression x) (like_placed z r k.inside))) (λ c. between z more c b (inside_right all _ _ us vs w))
