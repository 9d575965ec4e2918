-- Where a block stands alone at its place, each block of the function with that place is it, in the loops that stand on the way to it: by
-- induction on the parts. A part keeps what holds of all ways from it.
use Rattle.std.proofs.Common.{Bool, ◌≡◌, ℕ, zero, suc, true, List, [], ◌∷◌, ◌++◌, Option, Some, refl, sym, ap, ◌∙◌, slice_get, false, ◌||◌}
use Rattle.rx_tree.specs.declared.tree.Ident.{Ident}
use Rattle.rx_tree.specs.Lists.{Every}
use Rattle.rx_tree.specs.Plain as plain
use Rattle.rx_tree.specs.Plain.{PatternTree, Expression, Expressions, OptionalExpression, OptionalExpressions, FieldExpressions, Arms, Body, Statement, Statements}
use Rattle.rx_tree.specs.Positions.{NodeTree, a_pattern, a_block, a_statement, an_expression, expression_nodes, optional_nodes, argument_nodes, field_nodes, arm_nodes, statement_nodes, optional_type_nodes, children, descend}
use Rattle.rx_tree.specs.Spans.{body_span}
use Rattle.rx_tree.proofs.NodesLaws.{every_front, every_behind}
use Rattle.rx_resolve_names.specs.Meant.{Around, a_loop, a_test}
use Rattle.rx_hoist_extraction.specs.Names.{Names, is_among, bound, bound_by, behind_all}
use Rattle.rx_hoist_extraction.specs.Run.{same_place, label_of, labels_on}
use Rattle.rx_engine_names.specs.Within.{Claims, Within, AllWithin, OptionalWithin, ArgumentsWithin, FieldsWithin, ArmsWithin, BodyWithin, StatementWithin, StatementsWithin}
use Rattle.rx_engine_names.specs.Moves.{labels_of}
use Rattle.rx_engine_names.proofs.Scoped.{among_append}
use Rattle.rx_engine_names.specs.Placed.{StandsAlone, labels_at, BindsNot}

module _ (b : Body) (labels : List (Option Ident)) (name : List ℕ) where
  -- each block with the place is the block, and these loops stand round it
  abbrev pub IsTheBlock : List (Option Ident) → Body → Type 0
  IsTheBlock ls c = same_place (body_span b) (body_span c) ≡ true → (c ≡ b) × (ls ≡ labels)

  abbrev pub placed : Claims
  placed = record {
    name = λ x. Unit {0};
    variable = λ own x. Unit {0};
    broken = λ own ls l. Unit {0};
    continued = λ own ls l. Unit {0};
    returned = Unit {0};
    annotation = λ y. Unit {0};
    block = λ own ls c. (is_among name own ≡ false) × IsTheBlock (labels_of ls) c;
  }

  -- on all ways from a node, round which these loops stand; and no pattern there binds the name
  abbrev WaysFrom : List (Option Ident) → Option NodeTree → Type 0
  WaysFrom ls n = ((way : List ℕ) (c : Body) → descend n way ≡ Some (a_block c) → IsTheBlock (labels_on n way ls) c) × ((way : List ℕ) (p : PatternTree) → descend n way ≡ Some (a_pattern p) → is_among name (bound p) ≡ false)

  abbrev Ways : List (Option Ident) → NodeTree → Type 0
  Ways ls n = WaysFrom ls (Some n)

  abbrev All : List (Option Ident) → List NodeTree → Type 0
  All ls ns = Every (Ways ls) ns

  every_child : (ls : List (Option Ident)) (ns : List NodeTree) → ((k : ℕ) → WaysFrom ls (slice_get ns k)) → All ls ns
  every_child ls [] h = tt
  every_child ls (n ∷ ns) h = (h zero, every_child ls ns (λ k. h (suc k)))

  below : (ls : List (Option Ident)) (n : NodeTree) → Ways ls n → All (label_of n ++ ls) (children n)
  below ls n h = every_child (label_of n ++ ls) (children n) (λ k. (λ way c e. h.0 (k ∷ way) c e, λ way p e. h.1 (k ∷ way) p e))

  -- names that are bound on the way
  or_none : (a b : Bool) → a ≡ false → b ≡ false → (a || b) ≡ false
  or_none true b e f = absurd (cc)
  or_none false b e f = f

  more_free : (names own : Names) → is_among name names ≡ false → is_among name own ≡ false → is_among name (names ++ own) ≡ false
  more_free names own e f = among_append name names own ∙ or_none (is_among name names) (is_among name own) e f

  pattern_free : (ls : List (Option Ident)) (p : PatternTree) (own : Names) → Ways ls (a_pattern p) → is_among name own ≡ false → is_among name (bound p ++ own) ≡ false
  pattern_free ls p own h f = more_free (bound p) own (h.1 [] p refl) f

  statement_free : (ls : List (Option Ident)) (a : Statement) (own : Names) → Ways ls (a_statement a) → is_among name own ≡ false → is_among name (bound_by a ++ own) ≡ false
  statement_free ls (plain.let_statement s p y o) own h f = pattern_free ls p own (below ls (a_statement (plain.let_statement s p y o)) h).0 f
  statement_free ls (plain.expression_statement s e x) own h f = f

  all_free : (ls : List (Option Ident)) (ss : Statements) (own : Names) → All ls (statement_nodes ss) → is_among name own ≡ false → is_among name (behind_all own ss) ≡ false
  all_free ls plain.no_statement own h f = f
  all_free ls (plain.statement_and a ss) own h f = all_free ls ss (bound_by a ++ own) h.1 (statement_free ls a own h.0 f)

  front : (ls : List (Option Ident)) (xs ys : List NodeTree) → All ls (xs ++ ys) → All ls xs
  front ls xs ys f = every_front (Ways ls) xs ys f

  last : (ls : List (Option Ident)) (xs ys : List NodeTree) → All ls (xs ++ ys) → All ls ys
  last ls xs ys f = every_behind (Ways ls) xs ys f

  mutual
    in_exp : (own : Names) (ls : List Around) (e : Expression) → is_among name own ≡ false → Ways (labels_of ls) (an_expression e) → Within placed own ls e
    in_exp own ls (plain.int s v k) q f = tt
    in_exp own ls (plain.bool s x) q f = tt
    in_exp own ls (plain.tuple s es) q f = in_all own ls es q (below (labels_of ls) (an_expression (plain.tuple s es)) f)
    in_exp own ls (plain.var s x) q f = tt
    in_exp own ls (plain.field s e x) q f = in_exp own ls e q (below (labels_of ls) (an_expression (plain.field s e x)) f).0
    in_exp own ls (plain.part s e i) q f = in_exp own ls e q (below (labels_of ls) (an_expression (plain.part s e i)) f).0
    in_exp own ls (plain.deref s e) q f = in_exp own ls e q (below (labels_of ls) (an_expression (plain.deref s e)) f).0
    in_exp own ls (plain.negate s e) q f = in_exp own ls e q (below (labels_of ls) (an_expression (plain.negate s e)) f).0
    in_exp own ls (plain.invert s e) q f = in_exp own ls e q (below (labels_of ls) (an_expression (plain.invert s e)) f).0
    in_exp own ls (plain.borrow s m e) q f = in_exp own ls e q (below (labels_of ls) (an_expression (plain.borrow s m e)) f).0
    in_exp own ls (plain.binary s o x y) q f = let g = below (labels_of ls) (an_expression (plain.binary s o x y)) f in (in_exp own ls x q g.0, in_exp own ls y q g.1.0)
    in_exp own ls (plain.assign s x y) q f = let g = below (labels_of ls) (an_expression (plain.assign s x y)) f in (in_exp own ls x q g.0, in_exp own ls y q g.1.0)
    in_exp own ls (plain.update s o x y) q f = let g = below (labels_of ls) (an_expression (plain.update s o x y)) f in (in_exp own ls x q g.0, in_exp own ls y q g.1.0)
    in_exp own ls (plain.call s n es) q f = (tt, in_all own ls es q (below (labels_of ls) (an_expression (plain.call s n es)) f))
    in_exp own ls (plain.next_input s) q f = tt
    in_exp own ls (plain.variant s a v es) q f = in_arguments own ls es q (below (labels_of ls) (an_expression (plain.variant s a v es)) f)
    in_exp own ls (plain.make s x fs) q f = in_values own ls fs q (below (labels_of ls) (an_expression (plain.make s x fs)) f)
    in_exp own ls (plain.print s e) q f = in_exp own ls e q (below (labels_of ls) (an_expression (plain.print s e)) f).0
    in_exp own ls (plain.block s c) q f = in_body own ls c q (below (labels_of ls) (an_expression (plain.block s c)) f).0
    in_exp own ls (plain.if s e c o) q f = let g = below (labels_of ls) (an_expression (plain.if s e c o)) f in (in_exp own ls e q g.0, in_body own ls c q g.1.0, in_optional own ls o q g.1.1)
    in_exp own ls (plain.if_let s p e c o) q f =
        let g = below (labels_of ls) (an_expression (plain.if_let s p e c o)) f in (in_exp own ls e q g.1.0, in_body (bound p ++ own) ls c (pattern_free (labels_of ls) p own g.0 q) g.1.1.0, in_optional own ls o q g.1.1.1)
    in_exp own ls (plain.match s e l) q f = let g = below (labels_of ls) (an_expression (plain.match s e l)) f in (in_exp own ls e q g.0, in_arms own ls l q g.1)
    in_exp own ls (plain.loop s l c) q f = in_body own (a_loop l 0 ∷ ls) c q (below (labels_of ls) (an_expression (plain.loop s l c)) f).0
    in_exp own ls (plain.while s l e c) q f =
        let g = below (labels_of ls) (an_expression (plain.while s l e c)) f in (in_exp own (a_test ∷ a_loop l 0 ∷ ls) e q g.0, in_body own (a_loop l 0 ∷ ls) c q g.1.0)
    in_exp own ls (plain.while_let s l p e c) q f =
        let g = below (labels_of ls) (an_expression (plain.while_let s l p e c)) f in (in_exp own (a_test ∷ a_loop l 0 ∷ ls) e q g.1.0, in_body (bound p ++ own) (a_loop l 0 ∷ ls) c (pattern_free (l ∷ labels_of ls) p own g.0 q) g.1.1.0)
    in_exp own ls (plain.break s l) q f = tt
    in_exp own ls (plain.continue s l) q f = tt
    in_exp own ls (plain.return s o) q f = (tt, in_optional own ls o q (below (labels_of ls) (an_expression (plain.return s o)) f))

    in_all : (own : Names) (ls : List Around) (es : Expressions) → is_among name own ≡ false → All (labels_of ls) (expression_nodes es) → AllWithin placed own ls es
    in_all own ls plain.no_expression q f = tt
    in_all own ls (plain.expression_and e es) q f = (in_exp own ls e q f.0, in_all own ls es q f.1)

    in_optional : (own : Names) (ls : List Around) (o : OptionalExpression) → is_among name own ≡ false → All (labels_of ls) (optional_nodes o) → OptionalWithin placed own ls o
    in_optional own ls plain.absent q f = tt
    in_optional own ls (plain.present e) q f = in_exp own ls e q f.0

    in_arguments : (own : Names) (ls : List Around) (es : OptionalExpressions) → is_among name own ≡ false → All (labels_of ls) (argument_nodes es) → ArgumentsWithin placed own ls es
    in_arguments own ls plain.no_list q f = tt
    in_arguments own ls (plain.a_list es) q f = in_all own ls es q f

    in_values : (own : Names) (ls : List Around) (fs : FieldExpressions) → is_among name own ≡ false → All (labels_of ls) (field_nodes fs) → FieldsWithin placed own ls fs
    in_values own ls plain.no_field q f = tt
    in_values own ls (plain.field_and x e fs) q f = (in_exp own ls e q f.0, in_values own ls fs q f.1)

    in_arms : (own : Names) (ls : List Around) (l : Arms) → is_among name own ≡ false → All (labels_of ls) (arm_nodes l) → ArmsWithin placed own ls l
    in_arms own ls plain.no_arm q f = tt
    in_arms own ls (plain.arm_and p e l) q f = (in_exp (bound p ++ own) ls e (pattern_free (labels_of ls) p own f.0 q) f.1.0, in_arms own ls l q f.1.1)

    in_body : (own : Names) (ls : List Around) (c : Body) → is_among name own ≡ false → Ways (labels_of ls) (a_block c) → BodyWithin placed own ls c
    in_body own ls (plain.body s ss o) q f =
        let g = below (labels_of ls) (a_block (plain.body s ss o)) f in
        ((q, f.0 [] (plain.body s ss o) refl), in_statements own ls ss q (front (labels_of ls) (statement_nodes ss) (optional_nodes o) g), in_optional (behind_all own ss) ls o (all_free (labels_of ls) ss own (front (labels_of ls) (statement_nodes ss) (optional_nodes o) g) q) (last (labels_of ls) (statement_nodes ss) (optional_nodes o) g))

    in_statement : (own : Names) (ls : List Around) (a : Statement) → is_among name own ≡ false → Ways (labels_of ls) (a_statement a) → StatementWithin placed own ls a
    in_statement own ls (plain.let_statement s p y o) q f =
        (tt, in_optional own ls o q (last (labels_of ls) (optional_type_nodes y) (optional_nodes o) (below (labels_of ls) (a_statement (plain.let_statement s p y o)) f).1))
    in_statement own ls (plain.expression_statement s e x) q f = in_exp own ls e q (below (labels_of ls) (a_statement (plain.expression_statement s e x)) f).0

    in_statements : (own : Names) (ls : List Around) (ss : Statements) → is_among name own ≡ false → All (labels_of ls) (statement_nodes ss) → StatementsWithin placed own ls ss
    in_statements own ls plain.no_statement q f = tt
    in_statements own ls (plain.statement_and a ss) q f = (in_statement own ls a q f.0, in_statements (bound_by a ++ own) ls ss (statement_free (labels_of ls) a own f.0 q) f.1)

-- the whole, where no pattern in it binds the name
pub stands_within : (b whole : Body) (way : List ℕ) (name : List ℕ) → StandsAlone b way whole → BindsNot name whole → BodyWithin (placed b (labels_at way whole) name) [] [] whole
stands_within b whole way name h free = in_body b (labels_at way whole) name [] [] whole refl (
  λ other c e g.
      let same = h.alone other c e g in (
        block_same c b (sym (ap (λ (ks : List ℕ). descend (Some (a_block whole)) ks) (sym same) ∙ e) ∙ h.there),
        ap (λ (ks : List ℕ). labels_on (Some (a_block whole)) ks []) same,
      ),
  free,
)
  where
    block_same : (c d : Body) → Some (a_block c) ≡ Some (a_block d) → c ≡ d
    block_same c d e = cc
