-- What `let` and `if let` are, by their parts.
use Rattle.std.proofs.Common.{◌≡◌, Bool, false, ◌||◌, ◌&&◌, Option, option_map, ap, sym, ◌∙◌}
use Rattle.rx_core.specs.declared.types.Span.{Span}
use Rattle.rx_tree.specs.declared.tree.TypeText.{TypeText}
use Rattle.rx_tree.specs.Plain as plain
use Rattle.rx_tree.specs.Plain.{PatternTree, Expression, OptionalExpression, Body}
use Rattle.rx_tree.specs.PlainOf.{plain-TypeText}
use Rattle.rx_typed.specs.declared.nodes.Node.{Node}
use Rattle.rx_typed.specs.declared.nodes.Site.{Site}
use Rattle.rx_typed.specs.Named.{Exp, diverges, never, statement_diverges}
use Rattle.rx_typed.specs.Naming.{Cursor, a_node, annotates, of_pattern, of_optional_type, of_expression, of_statement, has_no_type}
use Rattle.rx_typed.specs.Elaborated as elaborated
use Rattle.rx_typed.specs.Elaborated.{value, looks, mark_if}
use Rattle.rx_typed.specs.Tree as tree
use Rattle.rx_typed.specs.declared.tree.Expr.{Expr as ExprOf}
use Rattle.rx_typed.specs.declared.tree.Pattern.{Pattern as PatternOf}
use Rattle.rx_typed.specs.declared.tree.Matched.{Matched}
use Rattle.rx_typed.specs.declared.tree.Stmt.TheVariants as stmt
use Rattle.rx_typed.specs.PlainTree.{plain-Expr, plain-Pattern, plain-Matched, plain-Stmt}
use Rattle.rx_typeck_elaborate_parts.specs.declared.seen.Seen.{Seen}
use Rattle.rx_typeck_elaborate_parts.specs.Seeing.{seen_of, value_seen}
use Rattle.rx_typeck_elaborate_parts.specs.declared.walk.Walk.{Walk}
use Rattle.rx_typeck_elaborate_parts.specs.declared.told.Ways.{Ways}
use Rattle.rx_typeck_elaborate_parts.specs.declared.patterns.Declares.{Declares}
use Rattle.rx_typeck_elaborate_parts.specs.Coercing.{types_of}
use Rattle.rx_typeck_elaborate_parts.specs.Declaring.{declares_of}
use Rattle.rx_typeck_elaborate_parts.specs.Telling.{plain_test, test_made, a_test, plain_ways, ways_made, both_ways, ways_of_both, has_no_type_of, waiting_if}
use Rattle.rx_typeck_elaborate_parts.specs.Walks.{moved}
use Rattle.rx_typeck_elaborate_parts.proofs.Stating.{lets_is, has_no_type_is, waiting_is}
use Rattle.rx_typeck_elaborate.specs.Letting.{a_let, told_of_let}

pub lets_told : (s : Span) (p : PatternTree) (y : Option TypeText) (e : Expression) (old w1 w2 new : Walk) (n : Node) (q : PatternOf) (m : Matched) (sn : Seen) (d : Declares) (b : Bool)
    → n ≡ (a_node s Site.Value old.cursor).0 → w1 ≡ moved (annotates p (option_map plain-TypeText y) (a_node s Site.Value old.cursor).1).1 old
    → (let r = a_let p (option_map plain-TypeText y) e w1.cursor in
    (plain_test (q, m) ≡ test_made (types_of w1.given) r.0) × ((sn, d) ≡ told_of_let r.0) × (w2 ≡ moved r.1 w1))
    → b ≡ (has_no_type_of y && sn.never) → new ≡ moved (waiting_if b d w2.cursor) w2
    → (let r = of_statement (plain.let_statement s p (option_map plain-TypeText y) (plain.present e)) old.cursor in
    (plain-Stmt (stmt.Lets n.number q m) ≡ elaborated.statement (types_of old.given) r.0) × (sn.diverges ≡ statement_diverges r.0) × (new ≡ moved r.1 old))
lets_told s p y e old w1 w2 new n q m sn d b hn hw h hb hnew =
    let c1 = (annotates p (option_map plain-TypeText y) (a_node s Site.Value old.cursor).1).1 in
    let r = a_let p (option_map plain-TypeText y) e c1 in
    let E = r.0.1 in
    let P = r.0.0 in
    let h0 = h.0 ∙ ap (λ (w : Walk). test_made (types_of w.given) (a_let p (option_map plain-TypeText y) e w.cursor).0) hw in
    let h1 = h.1 ∙ ap (λ (w : Walk). told_of_let (a_let p (option_map plain-TypeText y) e w.cursor).0) hw in
    let h2 = h.2 ∙ ap (λ (w : Walk). moved (a_let p (option_map plain-TypeText y) e w.cursor).1 w) hw in
    let c2 = (of_pattern p c1).1 in
    let known = has_no_type_is y c2 in
    let B = has_no_type (of_optional_type (option_map plain-TypeText y) c2).0 && never E in (
      lets_is n.number q m ∙ ap (λ (k : Node). (λ rest. tree.lets k.number (plain-Pattern q) (plain-Matched m) rest)) hn
          ∙ ap (λ (x : tree.Pattern × tree.Scrutinee). (λ rest. tree.lets old.cursor.number x.0 x.1 rest)) h0,
      ap (λ (x : Seen × Declares). x.0.diverges) h1,
      hnew ∙ ap (λ (z : Bool). moved (waiting_if z d w2.cursor) w2) hb
          ∙ ap (λ (x : Seen × Declares). moved (waiting_if (has_no_type_of y && x.0.never) x.1 w2.cursor) w2) h1
          ∙ ap (λ (w : Walk). moved (waiting_if (has_no_type_of y && never E) (declares_of P) w.cursor) w) h2
          ∙ ap (λ (z : Bool). moved (waiting_if (z && never E) (declares_of P) r.1) old) (sym known)
          ∙ ap (λ (c : Cursor). moved c old) (sym (waiting_is B P r.1)),
    )

pub if_let_told : (s : Span) (t : Site) (p : PatternTree) (e : Expression) (b : Body) (o : OptionalExpression) (old w1 w2 w3 : Walk) (n : Node) (x z : PatternOf × Matched) (sn : Seen)
    (ws : ExprOf × ExprOf) (ends : Ways) (it : ExprOf) (d : Bool) (v : Seen)
    → n ≡ (a_node s t old.cursor).0 → w1 ≡ moved (a_node s t old.cursor).1 old
    → (let r = a_test p e w1.cursor in (plain_test x ≡ test_made (types_of w1.given) r.0) × (sn ≡ seen_of r.0.1) × (w2 ≡ moved r.1 w1))
    → z ≡ x
    → (let r = both_ways t b o w2.cursor in (plain_ways ws ≡ ways_made (types_of w2.given) n r.0) × (ends ≡ ways_of_both r.0) × (w3 ≡ moved r.1 w2))
    → plain-Expr it ≡ looks (mark_if (types_of w3.given) n ends.never) (plain-Matched z.1) (plain-Pattern z.0) (plain-Expr ws.0) (plain-Expr ws.1)
    → d ≡ (sn.diverges || ends.diverges) → v ≡ value_seen n ends.never d
    → (let r = of_expression false t (plain.if_let s p e b o) old.cursor in
    (plain-Expr it ≡ value (types_of old.given) r.0) × (v ≡ seen_of r.0) × (w3 ≡ moved r.1 old))
if_let_told s t p e b o old w1 w2 w3 n x z sn ws ends it d v hn hw h hz k hit hd hv =
    let c1 = (a_node s t old.cursor).1 in
    let n0 = (a_node s t old.cursor).0 in
    let r = a_test p e c1 in
    let u = both_ways t b o r.1 in
    let T = types_of old.given in
    let h0 = h.0 ∙ ap (λ (w : Walk). test_made (types_of w.given) (a_test p e w.cursor).0) hw in
    let h1 = h.1 ∙ ap (λ (w : Walk). seen_of (a_test p e w.cursor).0.1) hw in
    let h2 = h.2 ∙ ap (λ (w : Walk). moved (a_test p e w.cursor).1 w) hw in
    let k0 = k.0 ∙ ap (λ (w : Walk). ways_made (types_of w.given) n (both_ways t b o w.cursor).0) h2 ∙ ap (λ (a : Node). ways_made T a u.0) hn in
    let k1 = k.1 ∙ ap (λ (w : Walk). ways_of_both (both_ways t b o w.cursor).0) h2 in
    let k2 = k.2 ∙ ap (λ (w : Walk). moved (both_ways t b o w.cursor).1 w) h2 in
    let never_both = (ways_of_both u.0).never in (
      hit ∙ ap (λ (w : Walk). looks (mark_if (types_of w.given) n ends.never) (plain-Matched z.1) (plain-Pattern z.0) (plain-Expr ws.0) (plain-Expr ws.1)) k2
          ∙ ap (λ (a : Node). looks (mark_if T a ends.never) (plain-Matched z.1) (plain-Pattern z.0) (plain-Expr ws.0) (plain-Expr ws.1)) hn
          ∙ ap (λ (a : Ways). looks (mark_if T n0 a.never) (plain-Matched z.1) (plain-Pattern z.0) (plain-Expr ws.0) (plain-Expr ws.1)) k1
          ∙ ap (λ (a : PatternOf × Matched). looks (mark_if T n0 never_both) (plain-Matched a.1) (plain-Pattern a.0) (plain-Expr ws.0) (plain-Expr ws.1)) hz
          ∙ ap (λ (a : tree.Pattern × tree.Scrutinee). looks (mark_if T n0 never_both) a.1 a.0 (plain-Expr ws.0) (plain-Expr ws.1)) h0
          ∙ ap (λ (a : tree.Exp × tree.Exp). looks (mark_if T n0 never_both) (test_made T r.0).1 (test_made T r.0).0 a.0 a.1) k0,
      hv ∙ ap (λ (a : Node). value_seen a ends.never d) hn ∙ ap (λ (a : Ways). value_seen n0 a.never d) k1
          ∙ ap (λ (a : Bool). value_seen n0 never_both a) (hd ∙ ap (λ (a : Seen). a.diverges || ends.diverges) h1 ∙ ap (λ (a : Ways). diverges r.0.1 || a.diverges) k1),
      k2,
    )
