-- Statements that something follows, and the tail behind them: a run with a tail is parted in front of it.
use Rattle.std.proofs.Common.{◌≡◌, ℕ, ◌≤◌, max, true, false, List, [], ◌∷◌, ◌++◌, refl, sym, ap, subst, ◌∙◌, arith, append_assoc}
use Rattle.std.specs.Prelude.{◌≢◌}
use Rattle.rx_tree.specs.Plain as plain
use Rattle.rx_tree.specs.Plain.{Expression, OptionalExpression, Statement, Statements}
use Rattle.rx_tree.specs.PlainOf.{statements_of}
use Rattle.rx_tree.specs.Erase.{nowhere, erase, erase_statement, erase_statements}
use Rattle.rx_lex.specs.Tok.{Tok}
use Rattle.rx_parse_grammar.specs.grammar.Words.{span_of}
use Rattle.rx_parse_grammar.specs.grammar.Expressions as g
use Rattle.rx_parse_grammar.specs.grammar.Expressions.{AreStatements, IsExpression, IsLike, IsOperand}
use Rattle.rx_resolve_names.specs.Meant.{Around}
use Rattle.rx_hoist_extraction.specs.Names.{Names, bound_by}
use Rattle.rx_hoist_extraction.specs.Changed.{Changes, changed, changed_statement, changed_statements}
use Rattle.rx_splice_laws.specs.EditsOf.{EditsAt, all_statement_edits}
use Rattle.rx_splice_laws.specs.SplicedRun.{Part}
use Rattle.rx_splice_laws.specs.Fronts.{Fronts, none_in_front, statement_in_front, like_in_front}
use Rattle.rx_splice_laws.proofs.Edited.{kept, joined, moved}
use Rattle.rx_splice_laws.proofs.Kept.{Kept, keep, one, Low, widens, low_both, left, right, at, Suits}
use Rattle.rx_splice_laws.proofs.Changing.{like_kept, statement_kept}

-- something follows
append_last : (us ws : List Tok) → ws ≢ [] → us ++ ws ≢ []
append_last [] ws n e = n e
append_last (u ∷ us) ws n e = absurd (cc)

pub record Then (ts : List Tok) (ss : List Statement) (y : OptionalExpression) (h : ℕ) : Type 0 where
  pub levels : ℕ
  pub derived : AreStatements ts ss y levels
  pub low : levels ≤ h

pub fronts_then : {us : List Tok} {ss : List Statement} {m : ℕ} → Fronts us ss m → (vs : List Tok) (tt' : List Statement) (y : OptionalExpression) (n : ℕ) → AreStatements vs tt' y n → vs ≢ [] → Then (us ++ vs) (ss ++ tt') y (max m n)
fronts_then none_in_front vs tt' y n d k = record { levels = n; derived = d; low = omega arith }
fronts_then (statement_in_front {ts = ts} us ws a ss m i s f is) vs tt' y n d k = more (fronts_then f vs tt' y n d k)
  where
    more : Then (ws ++ vs) (ss ++ tt') y (max i n) → Then (ts ++ vs) (a ∷ (ss ++ tt')) y (max (max m i) n)
    more r = record {
      levels = max m r.levels;
      derived = g.statement_and us (ws ++ vs) a (ss ++ tt') y m r.levels s r.derived (ap (λ x. x ++ vs) is ∙ append_assoc us ws vs);
      low = let l = r.low in omega (arith, l);
    }
fronts_then (like_in_front {ts = ts} us ws x ss m i s f is) vs tt' y n d k = more (fronts_then f vs tt' y n d k)
  where
    more : Then (ws ++ vs) (ss ++ tt') y (max i n) → Then (ts ++ vs) (plain.expression_statement (span_of us) x false ∷ (ss ++ tt')) y (max (max m i) n)
    more r = record {
      levels = max m r.levels;
      derived = g.like_and us (ws ++ vs) x (ss ++ tt') y m r.levels s r.derived (append_last ws vs k) (ap (λ x. x ++ vs) is ∙ append_assoc us ws vs);
      low = let l = r.low in omega (arith, l);
    }

-- ---- parted in front of the tail

-- an expression that ends in a block is one
all_strengths : {ts : List Tok} {x : Expression} {h : ℕ} → IsOperand true 0 ts x h → IsOperand true 5 ts x h
all_strengths d = g.stronger (g.stronger (g.stronger (g.stronger (g.stronger d))))

pub like_expression : (us : List Tok) (x : Expression) (h : ℕ) → IsLike us x h → IsExpression us x h
like_expression us x h d = g.operand (all_strengths (g.unary (g.postfix (g.primary (g.like d)))))

pub record Parted (ts : List Tok) (ss : List Statement) (e : Expression) (h : ℕ) : Type 0 where
  pub front : List Tok
  pub tail : List Tok
  pub is : ts ≡ front ++ tail
  pub front_levels : ℕ
  pub tail_levels : ℕ
  pub in_front : Fronts front ss front_levels
  pub behind : IsExpression tail e tail_levels
  pub front_low : front_levels ≤ h
  pub tail_low : tail_levels ≤ h

present_is : {x e : Expression} → plain.present x ≡ plain.present e → x ≡ e
present_is i = cc

pub parted : {ts : List Tok} {ss : List Statement} {y : OptionalExpression} {h : ℕ} → AreStatements ts ss y h → (e : Expression) → y ≡ plain.present e → Parted ts ss e h
parted g.end e i = absurd (cc)
parted (g.tail {ts = ts} {x = x} {h = h} d nb) e i =
    record { front = []; tail = ts; is = refl; front_levels = 0; tail_levels = h; in_front = none_in_front; behind = subst (λ z. IsExpression ts z h) (present_is i) d; front_low = omega arith; tail_low = omega arith }
parted (g.tail_like {ts = ts} {x = x} {h = h} d) e i =
    record { front = []; tail = ts; is = refl; front_levels = 0; tail_levels = h; in_front = none_in_front; behind = subst (λ z. IsExpression ts z h) (present_is i) (like_expression ts x h d); front_low = omega arith; tail_low = omega arith }
parted (g.statement_and {ts = ts} us vs a ss y m n d r is) e i = more (parted r e i)
  where
    more : Parted vs ss e n → Parted ts (a ∷ ss) e (max m n)
    more p = record {
      front = us ++ p.front;
      tail = p.tail;
      is = is ∙ ap (λ x. us ++ x) p.is ∙ sym (append_assoc us p.front p.tail);
      front_levels = max m p.front_levels;
      tail_levels = p.tail_levels;
      in_front = statement_in_front us p.front a ss m p.front_levels d p.in_front refl;
      behind = p.behind;
      front_low = let l = p.front_low in omega (arith, l);
      tail_low = let l = p.tail_low in omega (arith, l);
    }
parted (g.like_and {ts = ts} us vs x ss y m n d r ne is) e i = more (parted r e i)
  where
    more : Parted vs ss e n → Parted ts (plain.expression_statement (span_of us) x false ∷ ss) e (max m n)
    more p = record {
      front = us ++ p.front;
      tail = p.tail;
      is = is ∙ ap (λ x. us ++ x) p.is ∙ sym (append_assoc us p.front p.tail);
      front_levels = max m p.front_levels;
      tail_levels = p.tail_levels;
      in_front = like_in_front us p.front x ss m p.front_levels d p.in_front refl;
      behind = p.behind;
      front_low = let l = p.front_low in omega (arith, l);
      tail_low = let l = p.tail_low in omega (arith, l);
    }

-- ---- with edits

abbrev pub fronts_view : List Statement → Statements
fronts_view ss = erase_statements (statements_of ss)

module _ (A : EditsAt) (C : Changes) (all : List Tok) (S : Suits A C all) where
  pub fronts_kept : {ts : List Tok} {ss : List Statement} {h : ℕ} → Fronts ts ss h → (own : Names) (ls : List Around) → Part all ts
      → Kept Fronts fronts_view ts h (all_statement_edits A own ls (statements_of ss)) (erase_statements (changed_statements C own ls (statements_of ss)))
  fronts_kept none_in_front own ls p = keep _ _ _ (kept []) none_in_front refl (omega arith)
  fronts_kept (statement_in_front us vs a ss m n d r is) own ls p =
      let q = at is p in
      one (statement_kept Low widens A C all S d own ls (left vs q)) (λ x_tokens x_tree x_height x_derived x_edited x_same x_low.
      one (fronts_kept r (bound_by a ++ own) ls (right us q)) (λ z_tokens z_tree z_height z_derived z_edited z_same z_low.
      keep _ (x_tree ∷ z_tree) _ (moved is (joined x_edited z_edited)) (statement_in_front x_tokens z_tokens x_tree z_tree x_height z_height x_derived z_derived refl)
      (ap (λ (w : Statement). plain.statement_and w (fronts_view z_tree)) x_same ∙ ap (λ (w : Statements). plain.statement_and (erase_statement (changed_statement C own ls a)) w) z_same) (low_both _ _ _ _ x_low z_low)))
  fronts_kept (like_in_front us vs x ss m n d r is) own ls p =
      let q = at is p in
      one (like_kept Low widens A C all S d own ls (left vs q)).kept_so (λ w_tokens w_tree w_height w_derived w_edited w_same w_low.
      one (fronts_kept r own ls (right us q)) (λ z_tokens z_tree z_height z_derived z_edited z_same z_low.
      keep _ (plain.expression_statement (span_of w_tokens) w_tree false ∷ z_tree) _ (moved is (joined w_edited z_edited)) (like_in_front w_tokens z_tokens w_tree z_tree w_height z_height w_derived z_derived refl)
      (ap (λ (e : Expression). plain.statement_and (plain.expression_statement nowhere e false) (fronts_view z_tree)) w_same ∙ ap (λ (w : Statements). plain.statement_and (plain.expression_statement nowhere (erase (changed C own ls x)) false) w) z_same) (low_both _ _ _ _ w_low z_low)))
