-- What the tokens begin that the parsers of expressions that end in a block, and of whole expressions, passed before they
-- stopped, where this is known of what is deeper.
use Rattle.rx_parse_grammar.proofs.LikesDerived.{begins_else, else_of, Arm, arm_apart, comma_apart}
use Rattle.std.proofs.Common.{◌≡◌, ℕ, zero, suc, max, Bool, true, false, List, [], ◌∷◌, ◌++◌, length, Option, Some, None, refl, sym, ap, subst, ◌∙◌, arith, append_assoc, append-nil}
use Rattle.std.specs.Prelude.{◌≢◌}
use Rattle.rx_core.specs.declared.types.Span.{Span}
use Rattle.rx_tree.specs.declared.tree.Ident.{Ident}
use Rattle.rx_tree.specs.Plain as plain
use Rattle.rx_tree.specs.Plain.{Expression, Body, PatternTree}
use Rattle.rx_tree.specs.PlainOf.{arms_of}
use Rattle.rx_tree.specs.declared.tree.UpdateOp.TheVariants as update_op
use Rattle.rx_lex.specs.Tok.{Tok}
use Rattle.rx_parse_grammar.specs.declared.symbol.Symbol.{Symbol}
use Rattle.rx_parse_grammar.specs.declared.symbol.Symbol.TheVariants as symbol
use Rattle.rx_parse_grammar.specs.grammar.Words.{join, span_of, ident}
use Rattle.rx_parse_grammar.specs.grammar.Patterns.{IsPattern}
use Rattle.rx_parse_grammar.specs.grammar.Expressions.{IsExpression, IsOperand, IsLike, IsIf, IsElse, IsBlock, IsLabel, no_label, label, AreArms, BeginsLike, IsTest, fitting, if_of, while_of}
use Rattle.rx_parse_grammar.specs.grammar.Expressions as g
use Rattle.rx_parse_grammar.specs.parser.Steps.{Parser, Got, node}
use Rattle.rx_parse_grammar.specs.parser.Lists.{Items}
use Rattle.rx_parse_grammar.specs.parser.Operators.{Setting, assigns, updates, setting, begins_like, begins_expression}
use Rattle.rx_parse_grammar.specs.parser.Expressions.{label_of, start_of, block_value, let_test, test_by, test, else_by, else_value, conditional, arms_closed, after_arm, arm_by, arms_from, arms, match_value, loop_value, while_value, labelled_by, labelled, set_as, set_by, returned_by, return_value, jump, set_or_operand, whole_by}
use Rattle.rx_parse_grammar.specs.parser.Blocks.{operand, whole, like, block}
use Rattle.rx_parse_grammar.proofs.SymbolLemmas.{Stands, is_word}
use Rattle.rx_parse_grammar.proofs.Reading.{items, span_between, span_from, span_past, span_over}
use Rattle.rx_parse_grammar.proofs.Firsts.{a_name, an_end, a_block, some_expression, some_pattern, some_block, name_not_like, first_like, like_completes, else_completes}
use Rattle.rx_parse_grammar.proofs.Deriving.{Front, front_of_part}
use Rattle.rx_parse_grammar.proofs.Begun.{took, passed, passed_last, gave, chose, chose_knowing, either, refused, as_also, Known, any, at, Begun, Completes, roomed, roomy, still, stand_in, stand_in_stands, words_of, stand_in_word}
use Rattle.rx_parse_grammar.proofs.BegunLists.{Fits, fits_leaf, fits_node, whole_part}
use Rattle.rx_parse_grammar.proofs.PatternsBegun.{pattern_begun}
use Rattle.rx_parse_grammar.proofs.OperatorLaws.{not_like}
use Rattle.rx_parse_grammar.proofs.OperandsBegun.{Deeper, LikesBegun, at_strength_begun}
use Rattle.rx_parse_grammar.proofs.ExpressionsFront.{block_some, like_some, operand_some, expression_some}

-- ---- `else`

-- ---- arms

-- arms, and the brace behind them
record ArmsListing (found : List Arm) (i : ℕ) (ts : List Tok) (l : Items Arm) : Type 0 where
  us : List Tok
  c : Tok
  xs : List Arm
  h : ℕ
  is : ts ≡ us ++ (c ∷ [])
  end : Stands symbol.CloseBrace c
  arms : AreArms us xs h
  made : l ≡ items (found ++ xs) (max i h) c.span

-- at least one
record SomeArms (found : List Arm) (i : ℕ) (ts : List Tok) (l : Items Arm) : Type 0 where
  us : List Tok
  c : Tok
  a : Arm
  more : List Arm
  h : ℕ
  is : ts ≡ us ++ (c ∷ [])
  end : Stands symbol.CloseBrace c
  arms : AreArms us (a ∷ more) h
  made : l ≡ items (found ++ (a ∷ more)) (max i h) c.span

some_are : {found : List Arm} {i : ℕ} (ts : List Tok) (l : Items Arm) → SomeArms found i ts l → ArmsListing found i ts l
some_are ts l m = record { us = m.us; c = m.c; xs = m.a ∷ m.more; h = m.h; is = m.is; end = m.end; arms = m.arms; made = m.made }

-- an arm, and then the others: with what stands before them
extended : {found : List Arm} {i : ℕ} (before : List Tok → List Tok) → ((u v : List Tok) → before (u ++ v) ≡ before u ++ v) → (a : Arm) (m : ℕ) (ts : List Tok) (l : Items Arm)
    → ((vs : List Tok) (more : List Arm) (k : ℕ) → AreArms vs more k → AreArms (before vs) (a ∷ more) (max m k)) → ArmsListing (found ++ (a ∷ [])) (max i m) ts l → SomeArms found i (before ts) l
extended {found = found} {i = i} before apart a m ts l join w =
    let z : max (max i m) w.h ≡ max i (max m w.h) = omega arith in
    record {
      us = before w.us;
      c = w.c;
      a = a;
      more = w.xs;
      h = max m w.h;
      is = ap before w.is ∙ apart w.us (w.c ∷ []);
      end = w.end;
      arms = join w.us w.xs w.h w.arms;
      made = w.made ∙ ap (λ l. items l (max (max i m) w.h) w.c.span) (append_assoc found (a ∷ []) w.xs) ∙ ap (λ n. items (found ++ (a ∷ w.xs)) n w.c.span) z;
    }

-- a pattern and `=>`, and what completes them
arm_completes : (found : List Arm) (i : ℕ) (ps : List Tok) (p : Got PatternTree) (a : Tok) → Fits IsPattern ps p → Stands symbol.FatArrow a → Completes (λ vs l. SomeArms found i (ps ++ (a ∷ vs)) l) []
arm_completes found i ps p a mp sa = record {
  further = a_name ∷ an_end ∷ [];
  words = words_of (symbol.Name ∷ symbol.CloseBrace ∷ []) refl;
  made = items (found ++ ((p.tree, plain.var (span_of (a_name ∷ [])) a_name.text) ∷ [])) (max i (max p.height 1)) an_end.span;
  part = record {
    us = ps ++ (a ∷ a_name ∷ []);
    c = an_end;
    a = (p.tree, plain.var (span_of (a_name ∷ [])) a_name.text);
    more = [];
    h = max p.height 1;
    is = sym (append_assoc ps (a ∷ a_name ∷ []) (an_end ∷ []));
    end = stand_in_stands symbol.CloseBrace refl;
    arms = g.last_arm a ps (a_name ∷ []) p.tree _ p.height 1 mp.holds sa some_expression name_not_like refl;
    made = refl;
  };
}

arms_complete : (found : List Arm) (i : ℕ) → Completes (SomeArms found i) []
arms_complete found i =
    let w = arm_completes found i (a_name ∷ []) (record { tree = plain.bind (span_of (a_name ∷ [])) (ident a_name) false; height = 1; span = span_of (a_name ∷ []) }) (stand_in symbol.FatArrow)
    (record { span = refl; holds = some_pattern }) (stand_in_stands symbol.FatArrow refl) in
    record { further = a_name ∷ stand_in symbol.FatArrow ∷ w.further; words = (stand_in_word symbol.Name refl, (stand_in_word symbol.FatArrow refl, w.words)); made = w.made; part = w.part }

labelled_completes : (l c : Tok) → Stands symbol.Lifetime l → Stands symbol.Colon c → Completes (λ ts x. Fits IsLike (l ∷ c ∷ ts) x) []
labelled_completes l c sl sc =
    let loop : Tok = stand_in symbol.Loop in
    let w = whole_part {J = IsLike} (l ∷ c ∷ []) (loop ∷ a_block) _ _ (words_of (symbol.Loop ∷ symbol.OpenBrace ∷ symbol.CloseBrace ∷ []) refl) (g.loop (l ∷ c ∷ []) a_block loop (Some (ident l)) _ _ (label l c sl sc) (stand_in_stands symbol.Loop refl) some_block refl) in
    record { further = w.further; words = w.words; made = w.made; part = w.part }

module _ (d : ℕ) (n : Deeper d) where
  closed_begun : {K : Known} (found : List Arm) (i : ℕ) → Begun K (arms_closed (operand d) (whole d) (like d) (block d) d found i) (ArmsListing found i)
  closed_begun found i = took symbol.CloseBrace refl (λ c sc. gave (record {
    us = [];
    c = c;
    xs = [];
    h = 0;
    is = refl;
    end = sc;
    arms = g.no_arm;
    made = let z : i ≡ max i 0 = omega arith in ap (λ l. items l i c.span) (sym (append-nil found)) ∙ ap (λ n. items (found ++ []) n c.span) z;
  }))

  after_arm_begun : {K : Known} (again : List Arm → ℕ → Parser (Items Arm)) → ((found : List Arm) (i : ℕ) → Begun any (again found i) (SomeArms found i)) → (found : List Arm) (i : ℕ)
      → Begun K (after_arm (operand d) (whole d) (like d) (block d) d again found i) (ArmsListing found i)
  after_arm_begun again ok found i = either symbol.CloseBrace (closed_begun found i) (as_also some_are (ok found i))

  arm_by_begun : (again : List Arm → ℕ → Parser (Items Arm)) → ((found : List Arm) (i : ℕ) → Begun any (again found i) (SomeArms found i)) → (found : List Arm) (i : ℕ) (ps : List Tok) (p : Got PatternTree) (a : Tok)
      → Fits IsPattern ps p → Stands symbol.FatArrow a → (q : Symbol) (b : Bool) → begins_like q ≡ b
      → Begun (at q) (arm_by (operand d) (whole d) (like d) (block d) d again found i p b) (λ vs l. Front q vs → SomeArms found i (ps ++ (a ∷ vs)) l)
  arm_by_begun again ok found i ps p a mp sa q true e = passed n.likes (λ us x m.
      either symbol.Comma
      (took symbol.Comma refl (λ c sc. as_also (λ vs l w f.
      extended (λ z. ps ++ (a ∷ (us ++ (c ∷ z)))) (comma_apart ps a us c) (p.tree, x.tree) (max p.height x.height) vs l
      (λ ws more k r. g.like_arm_and a c ps us ws p.tree x.tree more p.height x.height k mp.holds sa m.holds sc r refl) w)
      (after_arm_begun again ok (found ++ ((p.tree, x.tree) ∷ [])) (max i (max p.height x.height)))))
      (as_also (λ vs l w f.
      extended (λ z. ps ++ (a ∷ (us ++ z))) (arm_apart ps a us) (p.tree, x.tree) (max p.height x.height) vs l
      (λ ws more k r. g.like_arm a ps us ws p.tree x.tree more p.height x.height k mp.holds sa m.holds r refl) w)
      (after_arm_begun again ok (found ++ ((p.tree, x.tree) ∷ [])) (max i (max p.height x.height)))))
  arm_by_begun again ok found i ps p a mp sa q false e = passed n.wholes (λ us x m.
      either symbol.Comma
      (took symbol.Comma refl (λ c sc. as_also (λ vs l w f.
      extended (λ z. ps ++ (a ∷ (us ++ (c ∷ z)))) (comma_apart ps a us c) (p.tree, x.tree) (max p.height x.height) vs l
      (λ ws more k r. g.arm_and a c ps us ws p.tree x.tree more p.height x.height k mp.holds sa m.holds
      (not_like us (ap begins_like (front_of_part q us (c ∷ vs) f (expression_some m.holds)) ∙ e)) sc r refl) w)
      (after_arm_begun again ok (found ++ ((p.tree, x.tree) ∷ [])) (max i (max p.height x.height)))))
      (took symbol.CloseBrace refl (λ c sc. gave (λ f. record {
        us = ps ++ (a ∷ us);
        c = c;
        a = (p.tree, x.tree);
        more = [];
        h = max p.height x.height;
        is = sym (append_assoc ps (a ∷ us) (c ∷ []));
        end = sc;
        arms = g.last_arm a ps us p.tree x.tree p.height x.height mp.holds sa m.holds (not_like us (ap begins_like (front_of_part q us (c ∷ []) f (expression_some m.holds)) ∙ e)) refl;
        made = refl;
      }))))

  arms_from_begun : {K : Known} (k : ℕ) (found : List Arm) (i : ℕ) → Begun K (arms_from (operand d) (whole d) (like d) (block d) d k found i) (SomeArms found i)
  unfolding arms_from
  arms_from_begun zero found i = refused (arms_complete found i)
  arms_from_begun (suc k) found i = passed (pattern_begun d) (λ ps p mp. took symbol.FatArrow refl (λ a sa.
      chose_knowing (arm_completes found i ps p a mp sa) (λ q. arm_by (operand d) (whole d) (like d) (block d) d (arms_from (operand d) (whole d) (like d) (block d) d k) found i p (begins_like q))
      (λ q. arm_by_begun (arms_from (operand d) (whole d) (like d) (block d) d k) (arms_from_begun k) found i ps p a mp sa q (begins_like q) refl)))

  arms_begun : {K : Known} → Begun K (arms (operand d) (whole d) (like d) (block d) d) (SomeArms [] 0)
  unfolding arms
  arms_begun = record { goes = λ i k. (arms_from_begun {K = any} (length i) [] 0).goes i refl; some = arms_complete [] 0 }

  -- ---- expressions that end in a block

  block_value_begun : Begun (at symbol.OpenBrace) (block_value (operand d) (whole d) (like d) (block d) d) (Fits IsLike)
  unfolding block_value
  block_value_begun = roomy 1 d symbol.OpenBrace refl (λ t s. first_like symbol.OpenBrace refl t s) (passed_last _ n.blocks (λ us b m. fits_node (λ s. plain.block s b.tree) m.span _ (g.block b.tree b.height m.holds)))

  let_test_begun : {K : Known} → Begun K (let_test (operand d) (whole d) (like d) (block d) d) (Fits IsTest)
  unfolding let_test
  let_test_begun = took symbol.Let refl (λ t st. passed (pattern_begun d) (λ ps p mp. took symbol.Equal refl (λ q sq. passed_last _ (n.operands false 3) (λ us x m. record {
    span = ap (λ z. join t.span z) m.span ∙ span_past t (ps ++ (q ∷ [])) us (operand_some m.holds) ∙ ap (λ z. span_of (t ∷ z)) (append_assoc ps (q ∷ []) us);
    holds = g.test_pattern t q ps us p.tree x.tree p.height x.height st sq mp.holds m.holds refl;
  }))))

  test_by_begun : (q : Symbol) → Begun (at q) (test_by (operand d) (whole d) (like d) (block d) d q) (Fits IsTest)
  test_by_begun symbol.Let = let_test_begun
  test_by_begun _ = passed_last _ (n.operands false 5) (λ us x m. record { span = m.span; holds = g.test m.holds })

  test_begun : {K : Known} → Begun K (test (operand d) (whole d) (like d) (block d) d) (Fits IsTest)
  unfolding test
  test_begun = chose (test_by (operand d) (whole d) (like d) (block d) d) test_by_begun

  else_by_begun : (q : Symbol) → Begun (at q) (else_by (operand d) (whole d) (like d) (block d) d q) (λ ts x. Front q ts → Fits IsElse ts x)
  else_by_begun symbol.OpenBrace = as_also (λ ts x m f. record { span = m.span; holds = else_of m.holds (ap begins_else (f (like_some m.holds))) }) (still n.likes)
  else_by_begun symbol.If = as_also (λ ts x m f. record { span = m.span; holds = else_of m.holds (ap begins_else (f (like_some m.holds))) }) (still n.likes)
  else_by_begun _ = refused (record { further = else_completes.further; words = else_completes.words; made = else_completes.made; part = λ f. else_completes.part })

  else_begun : {K : Known} → Begun K (else_value (operand d) (whole d) (like d) (block d) d) (Fits IsElse)
  unfolding else_value
  else_begun = chose_knowing else_completes (else_by (operand d) (whole d) (like d) (block d) d) else_by_begun

  conditional_begun : Begun (at symbol.If) (conditional (operand d) (whole d) (like d) (block d) d) (Fits IsLike)
  unfolding conditional
  conditional_begun = roomed 1 d symbol.If refl (λ t st. passed test_begun (λ us x mx. passed n.blocks (λ vs b mb.
      either symbol.Else
      (roomed 2 d symbol.Else refl (λ e se. passed_last _ else_begun (λ ws y my.
      fits_node (λ s. if_of s x.tree b.tree (plain.present y.tree))
      (ap (λ z. join t.span z) my.span ∙ span_past t (us ++ (vs ++ (e ∷ []))) ws (else_some my.holds) ∙ ap (λ z. span_of (t ∷ z)) (behind us vs e ws)) _
      (g.conditional (g.if_else t e us vs ws x.tree y.tree b.tree x.height b.height y.height st se mx.holds mb.holds my.holds refl)))))
      (gave (fits_node (λ s. if_of s x.tree b.tree plain.absent)
      (ap (λ z. join t.span z) mb.span ∙ span_past t us vs (block_some mb.holds) ∙ ap (λ z. span_of (t ∷ (us ++ z))) (sym (append-nil vs))) _
      (g.conditional (g.if_alone t us (vs ++ []) x.tree b.tree x.height b.height st mx.holds (subst (λ z. IsBlock z b.tree b.height) (sym (append-nil vs)) mb.holds) refl)))))))
    where
      else_some : {ts : List Tok} {x : Expression} {h : ℕ} → IsElse ts x h → ts ≢ []
      else_some (g.else_block b h r) = block_some r
      else_some (g.else_if r) = like_some (g.conditional r)

      behind : (us vs : List Tok) (e : Tok) (ws : List Tok) → (us ++ (vs ++ (e ∷ []))) ++ ws ≡ us ++ (vs ++ (e ∷ ws))
      behind us vs e ws = append_assoc us (vs ++ (e ∷ [])) ws ∙ ap (λ z. us ++ z) (append_assoc vs (e ∷ []) ws)

  match_begun : Begun (at symbol.Match) (match_value (operand d) (whole d) (like d) (block d) d) (Fits IsLike)
  unfolding match_value
  match_begun = roomed 1 d symbol.Match refl (λ t st. passed (n.operands false 5) (λ us x mx. took symbol.OpenBrace refl (λ o so. passed_last _ arms_begun (λ vs l w.
      let z : max 0 w.h ≡ w.h = omega arith in
      let made : l ≡ items (w.a ∷ w.more) w.h w.c.span = w.made ∙ ap (λ n. items (w.a ∷ w.more) n w.c.span) z in
      subst (λ k. Fits IsLike (t ∷ (us ++ (o ∷ vs))) (node (λ s. plain.match s x.tree (arms_of k.list)) (join t.span k.close) (max x.height k.height))) (sym made)
      (subst (λ z. Fits IsLike (t ∷ (us ++ (o ∷ z))) (node (λ s. plain.match s x.tree (arms_of (w.a ∷ w.more))) (join t.span w.c.span) (max x.height w.h))) (sym w.is)
      (fits_node (λ s. plain.match s x.tree (arms_of (w.a ∷ w.more))) (span_between (us ++ (o ∷ w.us)) t w.c ∙ ap (λ z. span_of (t ∷ z)) (append_assoc us (o ∷ w.us) (w.c ∷ []))) _
      (g.match t o w.c us w.us x.tree w.a w.more x.height w.h st so w.end mx.holds w.arms refl)))))))

  -- ---- loops, behind their label

  loop_begun : {K : Known} (ls : List Tok) (l : Option Tok) → IsLabel ls (label_of l) → ((t : Tok) (us vs : List Tok) → vs ≢ [] → join (start_of l t) (span_of vs) ≡ span_of (ls ++ (t ∷ (us ++ vs))))
      → Begun K (loop_value (operand d) (whole d) (like d) (block d) d l) (λ ts x. Fits IsLike (ls ++ ts) x)
  unfolding loop_value
  loop_begun ls l sl span = took symbol.Loop refl (λ t st. passed_last _ n.blocks (λ us b m. fits_node (λ s. plain.loop s (label_of l) b.tree)
      (ap (λ z. join (start_of l t) z) m.span ∙ span t [] us (block_some m.holds)) _ (g.loop ls us t (label_of l) b.tree b.height sl st m.holds refl)))

  while_begun : {K : Known} (ls : List Tok) (l : Option Tok) → IsLabel ls (label_of l) → ((t : Tok) (us vs : List Tok) → vs ≢ [] → join (start_of l t) (span_of vs) ≡ span_of (ls ++ (t ∷ (us ++ vs))))
      → Begun K (while_value (operand d) (whole d) (like d) (block d) d l) (λ ts x. Fits IsLike (ls ++ ts) x)
  unfolding while_value
  while_begun ls l sl span = took symbol.While refl (λ t st. passed test_begun (λ us x mx. passed_last _ n.blocks (λ vs b m.
      fits_node (λ s. while_of s (label_of l) x.tree b.tree) (ap (λ z. join (start_of l t) z) m.span ∙ span t us vs (block_some m.holds)) _
      (g.while ls us vs t (label_of l) x.tree b.tree x.height b.height sl st mx.holds m.holds refl))))

  labelled_by_begun : (l c : Tok) → Stands symbol.Lifetime l → Stands symbol.Colon c → (q : Symbol)
      → Begun (at q) (labelled_by (operand d) (whole d) (like d) (block d) d l q) (λ ts x. Fits IsLike (l ∷ c ∷ ts) x)
  labelled_by_begun l c sl sc symbol.Loop = loop_begun (l ∷ c ∷ []) (Some l) (label l c sl sc) (λ t us vs some. span_past l (c ∷ t ∷ us) vs some)
  labelled_by_begun l c sl sc symbol.While = while_begun (l ∷ c ∷ []) (Some l) (label l c sl sc) (λ t us vs some. span_past l (c ∷ t ∷ us) vs some)
  labelled_by_begun l c sl sc _ = refused (labelled_completes l c sl sc)

  labelled_begun : {K : Known} → Begun K (labelled (operand d) (whole d) (like d) (block d) d) (Fits IsLike)
  unfolding labelled
  labelled_begun = took symbol.Lifetime refl (λ l sl. took symbol.Colon refl (λ c sc. chose (labelled_by (operand d) (whole d) (like d) (block d) d l) (labelled_by_begun l c sl sc)))

  pub likes_begun : LikesBegun d
  likes_begun symbol.OpenBrace = block_value_begun
  likes_begun symbol.If = conditional_begun
  likes_begun symbol.Match = match_begun
  likes_begun symbol.Loop = roomy 1 d symbol.Loop refl (λ t s. first_like symbol.Loop refl t s) (loop_begun [] None no_label (λ t us vs some. span_past t us vs some))
  likes_begun symbol.While = roomy 1 d symbol.While refl (λ t s. first_like symbol.While refl t s) (while_begun [] None no_label (λ t us vs some. span_past t us vs some))
  likes_begun symbol.Lifetime = roomy 1 d symbol.Lifetime refl (λ t s. first_like symbol.Lifetime refl t s) (labelled_begun)
  likes_begun _ = refused like_completes

  -- ---- whole expressions

  -- `=` with or without an operator
  set_begun : (us : List Tok) (l : Got Expression) (q : Symbol) (u : Setting) → is_word q ≡ true → Fits (IsOperand true 5) us l
      → ((t : Tok) (vs : List Tok) (r : Expression) (k : ℕ) → Stands q t → IsExpression vs r k → IsExpression (us ++ (t ∷ vs)) (set_as (operand d) (whole d) (like d) (block d) d u (span_of (us ++ (t ∷ vs))) l.tree r) (suc (max l.height k)))
      → Begun (at q) (set_by (operand d) (whole d) (like d) (block d) d l q (Some u)) (λ vs x. Fits IsExpression (us ++ vs) x)
  set_begun us l q u w e join_is = roomed l.height d q w (λ t st. passed_last _ n.wholes (λ vs r m.
      fits_node (λ s. set_as (operand d) (whole d) (like d) (block d) d u s l.tree r.tree) (ap (λ z. join z r.span) e.span ∙ ap (λ z. join (span_of us) z) m.span ∙ span_over us t vs (operand_some e.holds) (expression_some m.holds)) _ (join_is t vs r.tree r.height st m.holds)))

  set_by_begun : (us : List Tok) (l : Got Expression) → Fits (IsOperand true 5) us l → (q : Symbol)
      → Begun (at q) (set_by (operand d) (whole d) (like d) (block d) d l q (setting q)) (λ vs x. Fits IsExpression (us ++ vs) x)
  set_by_begun us l e symbol.Equal = set_begun us l symbol.Equal assigns refl e (λ t vs r k st m. g.assign us vs t l.tree r l.height k st e.holds m refl)
  set_by_begun us l e symbol.PlusEqual = set_begun us l symbol.PlusEqual (updates update_op.Add) refl e (λ t vs r k st m. g.update us vs t update_op.Add l.tree r l.height k (g.plus_equal st) e.holds m refl)
  set_by_begun us l e symbol.MinusEqual = set_begun us l symbol.MinusEqual (updates update_op.Sub) refl e (λ t vs r k st m. g.update us vs t update_op.Sub l.tree r l.height k (g.minus_equal st) e.holds m refl)
  set_by_begun us l e symbol.StarEqual = set_begun us l symbol.StarEqual (updates update_op.Mul) refl e (λ t vs r k st m. g.update us vs t update_op.Mul l.tree r l.height k (g.times_equal st) e.holds m refl)
  set_by_begun us l e symbol.SlashEqual = set_begun us l symbol.SlashEqual (updates update_op.Div) refl e (λ t vs r k st m. g.update us vs t update_op.Div l.tree r l.height k (g.divided_equal st) e.holds m refl)
  set_by_begun us l e symbol.PercentEqual = set_begun us l symbol.PercentEqual (updates update_op.Rem) refl e (λ t vs r k st m. g.update us vs t update_op.Rem l.tree r l.height k (g.modulo_equal st) e.holds m refl)
  set_by_begun us l e _ = gave (record { span = e.span ∙ ap span_of (sym (append-nil us)); holds = subst (λ z. IsExpression z l.tree l.height) (sym (append-nil us)) (g.operand e.holds) })

  returned_by_begun : {K : Known} (t : Tok) → Stands symbol.Return t → (b : Bool) → Begun K (returned_by (operand d) (whole d) (like d) (block d) d t b) (λ vs x. Fits IsExpression (t ∷ vs) x)
  returned_by_begun t st true = passed_last _ n.wholes (λ us x m. fits_node (λ s. plain.return s (plain.present x.tree))
      (ap (λ z. join t.span z) m.span ∙ span_from t us (expression_some m.holds)) _ (g.return_with t us x.tree x.height st m.holds refl))
  returned_by_begun t st false = gave (fits_leaf (λ s. plain.return s plain.absent) refl (g.return t st refl))

  return_begun : {K : Known} → Begun K (return_value (operand d) (whole d) (like d) (block d) d) (Fits IsExpression)
  unfolding return_value
  return_begun = took symbol.Return refl (λ t st. chose (λ q. returned_by (operand d) (whole d) (like d) (block d) d t (begins_expression q)) (λ q. returned_by_begun t st (begins_expression q)))

  jump_begun : {K : Known} (q : Symbol) (make : Span → Option Ident → Expression) → is_word q ≡ true
      → ((t : Tok) → Stands q t → IsExpression (t ∷ []) (make (span_of (t ∷ [])) None) 1)
      → ((t l : Tok) → Stands q t → Stands symbol.Lifetime l → IsExpression (t ∷ l ∷ []) (make (span_of (t ∷ l ∷ [])) (Some (ident l))) 1)
      → Begun K (jump (operand d) (whole d) (like d) (block d) d q make) (Fits IsExpression)
  unfolding jump
  jump_begun q make w alone to = took q w (λ t st. either symbol.Lifetime
      (took symbol.Lifetime refl (λ l sl. gave (fits_leaf (λ s. make s (Some (ident l))) refl (to t l st sl))))
      (gave (fits_leaf (λ s. make s None) refl (alone t st))))

  set_or_operand_begun : {K : Known} → Begun K (set_or_operand (operand d) (whole d) (like d) (block d) d) (Fits IsExpression)
  unfolding set_or_operand
  set_or_operand_begun = passed (at_strength_begun d n likes_begun true 5) (λ us l e.
      chose (λ q. set_by (operand d) (whole d) (like d) (block d) d l q (setting q)) (set_by_begun us l e))

  pub whole_by_begun : (q : Symbol) → Begun (at q) (whole_by (operand d) (whole d) (like d) (block d) d q) (Fits IsExpression)
  whole_by_begun symbol.Return = return_begun
  whole_by_begun symbol.Break = jump_begun symbol.Break plain.break refl (λ t st. g.break t st refl) (λ t l st sl. g.break_from t l st sl refl)
  whole_by_begun symbol.Continue = jump_begun symbol.Continue plain.continue refl (λ t st. g.continue t st refl) (λ t l st sl. g.continue_with t l st sl refl)
  whole_by_begun _ = set_or_operand_begun
