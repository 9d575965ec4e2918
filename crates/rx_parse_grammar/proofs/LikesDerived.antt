-- An expression that ends in a block is derived where it is read, and so is a whole expression, where what is one level deeper is.
use Rattle.std.proofs.Common.{◌≡◌, ℕ, zero, suc, ◌≤◌, max, Bool, true, false, List, [], ◌∷◌, ◌++◌, length, Option, Some, None, refl, sym, ap, subst, ◌∙◌, arith, append_assoc, append-nil}
use Rattle.std.specs.Prelude.{◌≢◌}
use Rattle.rx_core.specs.declared.types.Span.{Span}
use Rattle.rx_tree.specs.declared.tree.Ident.{Ident}
use Rattle.rx_tree.specs.Plain as plain
use Rattle.rx_tree.specs.Plain.{Expression, Body, PatternTree}
use Rattle.rx_tree.specs.PlainOf.{arms_of}
use Rattle.rx_tree.specs.declared.tree.UpdateOp.TheVariants as update_op
use Rattle.rx_lex.specs.Tok.{Tok}
use Rattle.rx_parse_grammar.specs.declared.symbol.Symbol.{Symbol}
use Rattle.rx_parse_grammar.specs.declared.symbol.Symbol.TheVariants as symbol
use Rattle.rx_parse_grammar.specs.grammar.Words.{join, span_of, ident}
use Rattle.rx_parse_grammar.specs.grammar.Patterns.{IsPattern}
use Rattle.rx_parse_grammar.specs.grammar.Expressions.{IsExpression, IsOperand, IsLike, IsIf, IsElse, IsBlock, IsLabel, no_label, label, AreArms, BeginsLike, IsTest, fitting, if_of, while_of}
use Rattle.rx_parse_grammar.specs.grammar.Expressions as g
use Rattle.rx_parse_grammar.specs.parser.Symbols.{symbol_of, peek}
use Rattle.rx_parse_grammar.specs.parser.Steps.{Parser, Got, node}
use Rattle.rx_parse_grammar.specs.parser.Lists.{Items}
use Rattle.rx_parse_grammar.specs.parser.Operators.{Setting, assigns, updates, setting, begins_like, begins_expression}
use Rattle.rx_parse_grammar.specs.parser.Expressions.{label_of, start_of, block_value, let_test, test_by, test, else_by, else_value, conditional, arms_closed, after_arm, arm_by, arms_from, arms, match_value, loop_value, while_value, labelled_by, labelled, set_as, set_by, returned_by, return_value, jump, set_or_operand, whole_by}
use Rattle.rx_parse_grammar.specs.parser.Blocks.{operand, whole, like, block}
use Rattle.rx_parse_grammar.proofs.SymbolLemmas.{Stands, is_word}
use Rattle.rx_parse_grammar.proofs.Reading.{first_is, items, span_between, span_from, span_past, span_over}
use Rattle.rx_parse_grammar.proofs.Deriving.{Derives, Fits, fits_leaf, fits_node, took, passed, passed_last, gave, chose, chose_knowing, Front, front_of_part, either, roomy, refused, as_also}
use Rattle.rx_parse_grammar.proofs.PatternsDerived.{pattern_sound}
use Rattle.rx_parse_grammar.proofs.OperatorLaws.{not_like}
use Rattle.rx_parse_grammar.proofs.OperandsDerived.{Deeper, LikesDerive, at_strength_derived}
use Rattle.rx_parse_grammar.proofs.ExpressionsFront.{block_some, like_some, operand_some, expression_some}

-- ---- `else`

abbrev pub begins_else : Symbol → Bool
begins_else symbol.OpenBrace = true
begins_else symbol.If = true
begins_else _ = false

pub loop_begins : {ls : List Tok} {l : Option Ident} (t : Tok) (us : List Tok) → IsLabel ls l → begins_else (symbol_of t) ≡ false → begins_else (peek (ls ++ (t ∷ us))) ≡ false
loop_begins t us no_label e = e
loop_begins t us (label l c sl sc) e = ap begins_else (first_is symbol.Lifetime l refl sl)

pub else_of : {ts : List Tok} {x : Expression} {h : ℕ} → IsLike ts x h → begins_else (peek ts) ≡ true → IsElse ts x h
else_of (g.block b h r) e = g.else_block b h r
else_of (g.conditional r) e = g.else_if r
else_of (g.match t o c us vs x a more m n st so sc inner arms is) e =
    let z : begins_else (peek _) ≡ false = ap (λ z. begins_else (peek z)) is ∙ ap begins_else (first_is symbol.Match t refl st) in absurd (cc)
else_of (g.loop ls us t l b h sl st r is) e =
    let z : begins_else (peek _) ≡ false = ap (λ z. begins_else (peek z)) is ∙ loop_begins t us sl (ap begins_else (first_is symbol.Loop t refl st)) in absurd (cc)
else_of (g.while ls us vs t l x b m n sl st c r is) e =
    let z : begins_else (peek _) ≡ false = ap (λ z. begins_else (peek z)) is ∙ loop_begins t (us ++ vs) sl (ap begins_else (first_is symbol.While t refl st)) in absurd (cc)

-- ---- arms

abbrev pub Arm : Type 0
Arm = PatternTree × Expression

-- arms, and the brace behind them
record ArmsListing (d : ℕ) (found : List Arm) (i : ℕ) (ts : List Tok) (l : Items Arm) : Type 0 where
  us : List Tok
  c : Tok
  xs : List Arm
  h : ℕ
  is : ts ≡ us ++ (c ∷ [])
  end : Stands symbol.CloseBrace c
  arms : AreArms us xs h
  low : h ≤ d
  made : l ≡ items (found ++ xs) (max i h) c.span

-- at least one
record SomeArms (d : ℕ) (found : List Arm) (i : ℕ) (ts : List Tok) (l : Items Arm) : Type 0 where
  us : List Tok
  c : Tok
  a : Arm
  more : List Arm
  h : ℕ
  is : ts ≡ us ++ (c ∷ [])
  end : Stands symbol.CloseBrace c
  arms : AreArms us (a ∷ more) h
  low : h ≤ d
  made : l ≡ items (found ++ (a ∷ more)) (max i h) c.span

some_are : {d : ℕ} {found : List Arm} {i : ℕ} (ts : List Tok) (l : Items Arm) → SomeArms d found i ts l → ArmsListing d found i ts l
some_are ts l m = record { us = m.us; c = m.c; xs = m.a ∷ m.more; h = m.h; is = m.is; end = m.end; arms = m.arms; low = m.low; made = m.made }

-- an arm, and then the others: with what stands before them
extended : {d : ℕ} {found : List Arm} {i : ℕ} (before : List Tok → List Tok) → ((u v : List Tok) → before (u ++ v) ≡ before u ++ v) → (a : Arm) (m : ℕ) (ts : List Tok) (l : Items Arm) → m ≤ d
    → ((vs : List Tok) (more : List Arm) (k : ℕ) → AreArms vs more k → AreArms (before vs) (a ∷ more) (max m k)) → ArmsListing d (found ++ (a ∷ [])) (max i m) ts l → SomeArms d found i (before ts) l
extended {found = found} {i = i} before apart a m ts l b join w =
    let z : max (max i m) w.h ≡ max i (max m w.h) = omega arith in
    let low = w.low in
    record {
      us = before w.us;
      c = w.c;
      a = a;
      more = w.xs;
      h = max m w.h;
      is = ap before w.is ∙ apart w.us (w.c ∷ []);
      end = w.end;
      arms = join w.us w.xs w.h w.arms;
      low = omega arith;
      made = w.made ∙ ap (λ l. items l (max (max i m) w.h) w.c.span) (append_assoc found (a ∷ []) w.xs) ∙ ap (λ n. items (found ++ (a ∷ w.xs)) n w.c.span) z;
    }

pub arm_apart : (ps : List Tok) (a : Tok) (us u v : List Tok) → ps ++ (a ∷ (us ++ (u ++ v))) ≡ (ps ++ (a ∷ (us ++ u))) ++ v
arm_apart ps a us u v = sym (append_assoc ps (a ∷ (us ++ u)) v ∙ ap (λ z. ps ++ (a ∷ z)) (append_assoc us u v))

pub comma_apart : (ps : List Tok) (a : Tok) (us : List Tok) (c : Tok) (u v : List Tok) → ps ++ (a ∷ (us ++ (c ∷ (u ++ v)))) ≡ (ps ++ (a ∷ (us ++ (c ∷ u)))) ++ v
comma_apart ps a us c u v = arm_apart ps a us (c ∷ u) v

module _ (d : ℕ) (n : Deeper d) where
  closed_derived : (found : List Arm) (i : ℕ) → Derives (arms_closed (operand d) (whole d) (like d) (block d) d found i) (ArmsListing d found i)
  closed_derived found i = took symbol.CloseBrace refl (λ c sc. gave (record {
    us = [];
    c = c;
    xs = [];
    h = 0;
    is = refl;
    end = sc;
    arms = g.no_arm;
    low = omega arith;
    made = let z : i ≡ max i 0 = omega arith in ap (λ l. items l i c.span) (sym (append-nil found)) ∙ ap (λ n. items (found ++ []) n c.span) z;
  }))

  after_arm_derived : (again : List Arm → ℕ → Parser (Items Arm)) → ((found : List Arm) (i : ℕ) → Derives (again found i) (SomeArms d found i)) → (found : List Arm) (i : ℕ)
      → Derives (after_arm (operand d) (whole d) (like d) (block d) d again found i) (ArmsListing d found i)
  after_arm_derived again ok found i = either symbol.CloseBrace (closed_derived found i) (as_also some_are (ok found i))

  arm_by_derived : (again : List Arm → ℕ → Parser (Items Arm)) → ((found : List Arm) (i : ℕ) → Derives (again found i) (SomeArms d found i)) → (found : List Arm) (i : ℕ) (ps : List Tok) (p : Got PatternTree) (a : Tok)
      → Fits IsPattern d ps p → Stands symbol.FatArrow a → (q : Symbol) (b : Bool) → begins_like q ≡ b
      → Derives (arm_by (operand d) (whole d) (like d) (block d) d again found i p b) (λ vs l. Front q vs → SomeArms d found i (ps ++ (a ∷ vs)) l)
  arm_by_derived again ok found i ps p a mp sa q true e = passed n.likes (λ us x m.
      let lp = mp.low in
      let lx = m.low in
      either symbol.Comma
      (took symbol.Comma refl (λ c sc. as_also (λ vs l w f.
      extended (λ z. ps ++ (a ∷ (us ++ (c ∷ z)))) (comma_apart ps a us c) (p.tree, x.tree) (max p.height x.height) vs l (omega arith)
      (λ ws more k r. g.like_arm_and a c ps us ws p.tree x.tree more p.height x.height k mp.holds sa m.holds sc r refl) w)
      (after_arm_derived again ok (found ++ ((p.tree, x.tree) ∷ [])) (max i (max p.height x.height)))))
      (as_also (λ vs l w f.
      extended (λ z. ps ++ (a ∷ (us ++ z))) (arm_apart ps a us) (p.tree, x.tree) (max p.height x.height) vs l (omega arith)
      (λ ws more k r. g.like_arm a ps us ws p.tree x.tree more p.height x.height k mp.holds sa m.holds r refl) w)
      (after_arm_derived again ok (found ++ ((p.tree, x.tree) ∷ [])) (max i (max p.height x.height)))))
  arm_by_derived again ok found i ps p a mp sa q false e = passed n.wholes (λ us x m.
      let lp = mp.low in
      let lx = m.low in
      either symbol.Comma
      (took symbol.Comma refl (λ c sc. as_also (λ vs l w f.
      extended (λ z. ps ++ (a ∷ (us ++ (c ∷ z)))) (comma_apart ps a us c) (p.tree, x.tree) (max p.height x.height) vs l (omega arith)
      (λ ws more k r. g.arm_and a c ps us ws p.tree x.tree more p.height x.height k mp.holds sa m.holds
      (not_like us (ap begins_like (front_of_part q us (c ∷ vs) f (expression_some m.holds)) ∙ e)) sc r refl) w)
      (after_arm_derived again ok (found ++ ((p.tree, x.tree) ∷ [])) (max i (max p.height x.height)))))
      (took symbol.CloseBrace refl (λ c sc. gave (λ f. record {
        us = ps ++ (a ∷ us);
        c = c;
        a = (p.tree, x.tree);
        more = [];
        h = max p.height x.height;
        is = sym (append_assoc ps (a ∷ us) (c ∷ []));
        end = sc;
        arms = g.last_arm a ps us p.tree x.tree p.height x.height mp.holds sa m.holds (not_like us (ap begins_like (front_of_part q us (c ∷ []) f (expression_some m.holds)) ∙ e)) refl;
        low = omega arith;
        made = refl;
      }))))

  arms_from_derived : (k : ℕ) (found : List Arm) (i : ℕ) → Derives (arms_from (operand d) (whole d) (like d) (block d) d k found i) (SomeArms d found i)
  unfolding arms_from
  arms_from_derived zero found i = refused
  arms_from_derived (suc k) found i = passed (pattern_sound d) (λ ps p mp. took symbol.FatArrow refl (λ a sa.
      chose_knowing (λ q. arm_by (operand d) (whole d) (like d) (block d) d (arms_from (operand d) (whole d) (like d) (block d) d k) found i p (begins_like q))
      (λ q. arm_by_derived (arms_from (operand d) (whole d) (like d) (block d) d k) (arms_from_derived k) found i ps p a mp sa q (begins_like q) refl)))

  arms_derived : Derives (arms (operand d) (whole d) (like d) (block d) d) (SomeArms d [] 0)
  unfolding arms
  arms_derived = record { derive = λ i r x e. (arms_from_derived (length i) [] 0).derive i r x e }

  -- ---- expressions that end in a block

  block_value_derived : Derives (block_value (operand d) (whole d) (like d) (block d) d) (Fits IsLike (suc d))
  unfolding block_value
  block_value_derived = roomy 1 d (λ low. passed_last _ n.blocks (λ us b m. fits_node (λ s. plain.block s b.tree) m.span m.low (g.block b.tree b.height m.holds)))

  let_test_derived : Derives (let_test (operand d) (whole d) (like d) (block d) d) (Fits IsTest d)
  unfolding let_test
  let_test_derived = took symbol.Let refl (λ t st. passed (pattern_sound d) (λ ps p mp. took symbol.Equal refl (λ q sq. passed_last _ (n.operands false 3) (λ us x m.
      let lp = mp.low in
      let lx = m.low in
      record {
        low = omega arith;
        span = ap (λ z. join t.span z) m.span ∙ span_past t (ps ++ (q ∷ [])) us (operand_some m.holds) ∙ ap (λ z. span_of (t ∷ z)) (append_assoc ps (q ∷ []) us);
        holds = g.test_pattern t q ps us p.tree x.tree p.height x.height st sq mp.holds m.holds refl;
      }))))

  test_by_derived : (q : Symbol) → Derives (test_by (operand d) (whole d) (like d) (block d) d q) (Fits IsTest d)
  test_by_derived symbol.Let = let_test_derived
  test_by_derived _ = passed_last _ (n.operands false 5) (λ us x m. record { low = m.low; span = m.span; holds = g.test m.holds })

  test_derived : Derives (test (operand d) (whole d) (like d) (block d) d) (Fits IsTest d)
  unfolding test
  test_derived = chose (test_by (operand d) (whole d) (like d) (block d) d) test_by_derived

  else_by_derived : (q : Symbol) → Derives (else_by (operand d) (whole d) (like d) (block d) d q) (λ ts x. Front q ts → Fits IsElse d ts x)
  else_by_derived symbol.OpenBrace = as_also (λ ts x m f. record { low = m.low; span = m.span; holds = else_of m.holds (ap begins_else (f (like_some m.holds))) }) n.likes
  else_by_derived symbol.If = as_also (λ ts x m f. record { low = m.low; span = m.span; holds = else_of m.holds (ap begins_else (f (like_some m.holds))) }) n.likes
  else_by_derived _ = refused

  else_derived : Derives (else_value (operand d) (whole d) (like d) (block d) d) (Fits IsElse d)
  unfolding else_value
  else_derived = chose_knowing (else_by (operand d) (whole d) (like d) (block d) d) else_by_derived

  conditional_derived : Derives (conditional (operand d) (whole d) (like d) (block d) d) (Fits IsLike (suc d))
  unfolding conditional
  conditional_derived = roomy 1 d (λ low. took symbol.If refl (λ t st. passed test_derived (λ us x mx. passed n.blocks (λ vs b mb.
      let lx = mx.low in
      let lb = mb.low in
      either symbol.Else
      (roomy 2 d (λ deep. took symbol.Else refl (λ e se. passed_last _ else_derived (λ ws y my.
      let ly = my.low in
      fits_node (λ s. if_of s x.tree b.tree (plain.present y.tree))
      (ap (λ z. join t.span z) my.span ∙ span_past t (us ++ (vs ++ (e ∷ []))) ws (else_some my.holds) ∙ ap (λ z. span_of (t ∷ z)) (behind us vs e ws)) (omega arith)
      (g.conditional (g.if_else t e us vs ws x.tree y.tree b.tree x.height b.height y.height st se mx.holds mb.holds my.holds refl))))))
      (gave (fits_node (λ s. if_of s x.tree b.tree plain.absent)
      (ap (λ z. join t.span z) mb.span ∙ span_past t us vs (block_some mb.holds) ∙ ap (λ z. span_of (t ∷ (us ++ z))) (sym (append-nil vs))) (omega arith)
      (g.conditional (g.if_alone t us (vs ++ []) x.tree b.tree x.height b.height st mx.holds (subst (λ z. IsBlock z b.tree b.height) (sym (append-nil vs)) mb.holds) refl))))))))
    where
      else_some : {ts : List Tok} {x : Expression} {h : ℕ} → IsElse ts x h → ts ≢ []
      else_some (g.else_block b h r) = block_some r
      else_some (g.else_if r) = like_some (g.conditional r)

      behind : (us vs : List Tok) (e : Tok) (ws : List Tok) → (us ++ (vs ++ (e ∷ []))) ++ ws ≡ us ++ (vs ++ (e ∷ ws))
      behind us vs e ws = append_assoc us (vs ++ (e ∷ [])) ws ∙ ap (λ z. us ++ z) (append_assoc vs (e ∷ []) ws)

  match_derived : Derives (match_value (operand d) (whole d) (like d) (block d) d) (Fits IsLike (suc d))
  unfolding match_value
  match_derived = roomy 1 d (λ low. took symbol.Match refl (λ t st. passed (n.operands false 5) (λ us x mx. took symbol.OpenBrace refl (λ o so. passed_last _ arms_derived (λ vs l w.
      let lx = mx.low in
      let lw = w.low in
      let z : max 0 w.h ≡ w.h = omega arith in
      let made : l ≡ items (w.a ∷ w.more) w.h w.c.span = w.made ∙ ap (λ n. items (w.a ∷ w.more) n w.c.span) z in
      subst (λ k. Fits IsLike (suc d) (t ∷ (us ++ (o ∷ vs))) (node (λ s. plain.match s x.tree (arms_of k.list)) (join t.span k.close) (max x.height k.height))) (sym made)
      (subst (λ z. Fits IsLike (suc d) (t ∷ (us ++ (o ∷ z))) (node (λ s. plain.match s x.tree (arms_of (w.a ∷ w.more))) (join t.span w.c.span) (max x.height w.h))) (sym w.is)
      (fits_node (λ s. plain.match s x.tree (arms_of (w.a ∷ w.more))) (span_between (us ++ (o ∷ w.us)) t w.c ∙ ap (λ z. span_of (t ∷ z)) (append_assoc us (o ∷ w.us) (w.c ∷ []))) (omega arith)
      (g.match t o w.c us w.us x.tree w.a w.more x.height w.h st so w.end mx.holds w.arms refl))))))))

  -- ---- loops, behind their label

  loop_derived : (ls : List Tok) (l : Option Tok) → IsLabel ls (label_of l) → ((t : Tok) (us vs : List Tok) → vs ≢ [] → join (start_of l t) (span_of vs) ≡ span_of (ls ++ (t ∷ (us ++ vs))))
      → Derives (loop_value (operand d) (whole d) (like d) (block d) d l) (λ ts x. Fits IsLike (suc d) (ls ++ ts) x)
  unfolding loop_value
  loop_derived ls l sl span = took symbol.Loop refl (λ t st. passed_last _ n.blocks (λ us b m. fits_node (λ s. plain.loop s (label_of l) b.tree)
      (ap (λ z. join (start_of l t) z) m.span ∙ span t [] us (block_some m.holds)) m.low (g.loop ls us t (label_of l) b.tree b.height sl st m.holds refl)))

  while_derived : (ls : List Tok) (l : Option Tok) → IsLabel ls (label_of l) → ((t : Tok) (us vs : List Tok) → vs ≢ [] → join (start_of l t) (span_of vs) ≡ span_of (ls ++ (t ∷ (us ++ vs))))
      → Derives (while_value (operand d) (whole d) (like d) (block d) d l) (λ ts x. Fits IsLike (suc d) (ls ++ ts) x)
  unfolding while_value
  while_derived ls l sl span = took symbol.While refl (λ t st. passed test_derived (λ us x mx. passed_last _ n.blocks (λ vs b m.
      let lx = mx.low in
      let lb = m.low in
      fits_node (λ s. while_of s (label_of l) x.tree b.tree) (ap (λ z. join (start_of l t) z) m.span ∙ span t us vs (block_some m.holds)) (omega arith)
      (g.while ls us vs t (label_of l) x.tree b.tree x.height b.height sl st mx.holds m.holds refl))))

  labelled_by_derived : (l c : Tok) → Stands symbol.Lifetime l → Stands symbol.Colon c → (q : Symbol)
      → Derives (labelled_by (operand d) (whole d) (like d) (block d) d l q) (λ ts x. Fits IsLike (suc d) (l ∷ c ∷ ts) x)
  labelled_by_derived l c sl sc symbol.Loop = loop_derived (l ∷ c ∷ []) (Some l) (label l c sl sc) (λ t us vs some. span_past l (c ∷ t ∷ us) vs some)
  labelled_by_derived l c sl sc symbol.While = while_derived (l ∷ c ∷ []) (Some l) (label l c sl sc) (λ t us vs some. span_past l (c ∷ t ∷ us) vs some)
  labelled_by_derived l c sl sc _ = refused

  labelled_derived : Derives (labelled (operand d) (whole d) (like d) (block d) d) (Fits IsLike (suc d))
  unfolding labelled
  labelled_derived = took symbol.Lifetime refl (λ l sl. took symbol.Colon refl (λ c sc. chose (labelled_by (operand d) (whole d) (like d) (block d) d l) (labelled_by_derived l c sl sc)))

  pub likes_derived : LikesDerive d
  likes_derived symbol.OpenBrace = block_value_derived
  likes_derived symbol.If = conditional_derived
  likes_derived symbol.Match = match_derived
  likes_derived symbol.Loop = roomy 1 d (λ low. loop_derived [] None no_label (λ t us vs some. span_past t us vs some))
  likes_derived symbol.While = roomy 1 d (λ low. while_derived [] None no_label (λ t us vs some. span_past t us vs some))
  likes_derived symbol.Lifetime = roomy 1 d (λ low. labelled_derived)
  likes_derived _ = refused

  -- ---- whole expressions

  -- `=` with or without an operator
  set_derived : (us : List Tok) (l : Got Expression) (q : Symbol) (u : Setting) → is_word q ≡ true → Fits (IsOperand true 5) (suc d) us l
      → ((t : Tok) (vs : List Tok) (r : Expression) (k : ℕ) → Stands q t → IsExpression vs r k → IsExpression (us ++ (t ∷ vs)) (set_as (operand d) (whole d) (like d) (block d) d u (span_of (us ++ (t ∷ vs))) l.tree r) (suc (max l.height k)))
      → Derives (set_by (operand d) (whole d) (like d) (block d) d l q (Some u)) (λ vs x. Fits IsExpression (suc d) (us ++ vs) x)
  set_derived us l q u w e join_is = roomy l.height d (λ low. took q w (λ t st. passed_last _ n.wholes (λ vs r m.
      let lr = m.low in
      fits_node (λ s. set_as (operand d) (whole d) (like d) (block d) d u s l.tree r.tree) (ap (λ z. join z r.span) e.span ∙ ap (λ z. join (span_of us) z) m.span ∙ span_over us t vs (operand_some e.holds) (expression_some m.holds))
      (omega arith) (join_is t vs r.tree r.height st m.holds))))

  set_by_derived : (us : List Tok) (l : Got Expression) → Fits (IsOperand true 5) (suc d) us l → (q : Symbol)
      → Derives (set_by (operand d) (whole d) (like d) (block d) d l q (setting q)) (λ vs x. Fits IsExpression (suc d) (us ++ vs) x)
  set_by_derived us l e symbol.Equal = set_derived us l symbol.Equal assigns refl e (λ t vs r k st m. g.assign us vs t l.tree r l.height k st e.holds m refl)
  set_by_derived us l e symbol.PlusEqual = set_derived us l symbol.PlusEqual (updates update_op.Add) refl e (λ t vs r k st m. g.update us vs t update_op.Add l.tree r l.height k (g.plus_equal st) e.holds m refl)
  set_by_derived us l e symbol.MinusEqual = set_derived us l symbol.MinusEqual (updates update_op.Sub) refl e (λ t vs r k st m. g.update us vs t update_op.Sub l.tree r l.height k (g.minus_equal st) e.holds m refl)
  set_by_derived us l e symbol.StarEqual = set_derived us l symbol.StarEqual (updates update_op.Mul) refl e (λ t vs r k st m. g.update us vs t update_op.Mul l.tree r l.height k (g.times_equal st) e.holds m refl)
  set_by_derived us l e symbol.SlashEqual = set_derived us l symbol.SlashEqual (updates update_op.Div) refl e (λ t vs r k st m. g.update us vs t update_op.Div l.tree r l.height k (g.divided_equal st) e.holds m refl)
  set_by_derived us l e symbol.PercentEqual = set_derived us l symbol.PercentEqual (updates update_op.Rem) refl e (λ t vs r k st m. g.update us vs t update_op.Rem l.tree r l.height k (g.modulo_equal st) e.holds m refl)
  set_by_derived us l e _ = gave (record { low = e.low; span = e.span ∙ ap span_of (sym (append-nil us)); holds = subst (λ z. IsExpression z l.tree l.height) (sym (append-nil us)) (g.operand e.holds) })

  returned_by_derived : (t : Tok) → Stands symbol.Return t → (b : Bool) → Derives (returned_by (operand d) (whole d) (like d) (block d) d t b) (λ vs x. Fits IsExpression (suc d) (t ∷ vs) x)
  returned_by_derived t st true = passed_last _ n.wholes (λ us x m. fits_node (λ s. plain.return s (plain.present x.tree))
      (ap (λ z. join t.span z) m.span ∙ span_from t us (expression_some m.holds)) m.low (g.return_with t us x.tree x.height st m.holds refl))
  returned_by_derived t st false = gave (fits_leaf (λ s. plain.return s plain.absent) refl (g.return t st refl))

  return_derived : Derives (return_value (operand d) (whole d) (like d) (block d) d) (Fits IsExpression (suc d))
  unfolding return_value
  return_derived = took symbol.Return refl (λ t st. chose (λ q. returned_by (operand d) (whole d) (like d) (block d) d t (begins_expression q)) (λ q. returned_by_derived t st (begins_expression q)))

  jump_derived : (q : Symbol) (make : Span → Option Ident → Expression) → is_word q ≡ true
      → ((t : Tok) → Stands q t → IsExpression (t ∷ []) (make (span_of (t ∷ [])) None) 1)
      → ((t l : Tok) → Stands q t → Stands symbol.Lifetime l → IsExpression (t ∷ l ∷ []) (make (span_of (t ∷ l ∷ [])) (Some (ident l))) 1)
      → Derives (jump (operand d) (whole d) (like d) (block d) d q make) (Fits IsExpression (suc d))
  unfolding jump
  jump_derived q make w alone to = took q w (λ t st. either symbol.Lifetime
      (took symbol.Lifetime refl (λ l sl. gave (fits_leaf (λ s. make s (Some (ident l))) refl (to t l st sl))))
      (gave (fits_leaf (λ s. make s None) refl (alone t st))))

  set_or_operand_derived : Derives (set_or_operand (operand d) (whole d) (like d) (block d) d) (Fits IsExpression (suc d))
  unfolding set_or_operand
  set_or_operand_derived = passed (at_strength_derived d n likes_derived true 5) (λ us l e.
      chose (λ q. set_by (operand d) (whole d) (like d) (block d) d l q (setting q)) (set_by_derived us l e))

  pub whole_by_derived : (q : Symbol) → Derives (whole_by (operand d) (whole d) (like d) (block d) d q) (Fits IsExpression (suc d))
  whole_by_derived symbol.Return = return_derived
  whole_by_derived symbol.Break = jump_derived symbol.Break plain.break refl (λ t st. g.break t st refl) (λ t l st sl. g.break_from t l st sl refl)
  whole_by_derived symbol.Continue = jump_derived symbol.Continue plain.continue refl (λ t st. g.continue t st refl) (λ t l st sl. g.continue_with t l st sl refl)
  whole_by_derived _ = set_or_operand_derived
