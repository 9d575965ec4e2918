-- Where no block stands at a place, putting another in there changes nothing: by induction on the part.
use Rattle.std.proofs.Common.{◌≡◌, List, ◌∷◌, ◌++◌, refl}
use Rattle.rx_core.specs.declared.types.Span.{Span}
use Rattle.rx_tree.specs.Lists.{Every}
use Rattle.rx_tree.specs.Nodes.{below_pattern, within_type, below_expression, within_expressions, within_optional, within_arguments, within_fields, within_arms, below_block, below_statement, within_statements}
use Rattle.rx_tree.specs.Plain as plain
use Rattle.rx_tree.specs.Plain.{Expression, Expressions, OptionalExpression, OptionalExpressions, FieldExpressions, Arms, Body, Statement, Statements}
use Rattle.rx_tree.specs.Positions.{NodeTree, a_block, an_expression}
use Rattle.rx_tree.proofs.NodesLaws.{every_front, every_behind}
use Rattle.rx_resolve_names.specs.Meant.{Around, a_loop, a_test}
use Rattle.rx_hoist_extraction.specs.Names.{Names, bound, bound_by, behind_all}
use Rattle.rx_hoist_extraction.specs.Changed.{changed, changed_all, changed_optional, changed_arguments, changed_fields, changed_arms, changed_body, changed_statement, changed_statements}
use Rattle.rx_hoist_extraction.specs.Extraction.{replacing}
use Rattle.rx_hoist_extraction.specs.Elsewhere.{IsElsewhere, BlockElsewhere}

module _ (place : Span) (new : Body) where
  abbrev All : List NodeTree → Type 0
  All ns = Every (IsElsewhere place) ns

  front : (xs ys : List NodeTree) → All (xs ++ ys) → All xs
  front xs ys f = every_front (IsElsewhere place) xs ys f

  behind : (xs ys : List NodeTree) → All (xs ++ ys) → All ys
  behind xs ys f = every_behind (IsElsewhere place) xs ys f

  mutual
    pub elsewhere : (own : Names) (ls : List Around) (e : Expression) → All (below_expression e) → changed (replacing place new) own ls e ≡ e
    elsewhere own ls (plain.int s v k) f = refl
    elsewhere own ls (plain.bool s b) f = refl
    elsewhere own ls (plain.tuple s es) f = rw (all_elsewhere own ls es f) refl
    elsewhere own ls (plain.var s x) f = refl
    elsewhere own ls (plain.field s e x) f = rw (elsewhere own ls e f.1) refl
    elsewhere own ls (plain.part s e i) f = rw (elsewhere own ls e f.1) refl
    elsewhere own ls (plain.deref s e) f = rw (elsewhere own ls e f.1) refl
    elsewhere own ls (plain.negate s e) f = rw (elsewhere own ls e f.1) refl
    elsewhere own ls (plain.invert s e) f = rw (elsewhere own ls e f.1) refl
    elsewhere own ls (plain.borrow s m e) f = rw (elsewhere own ls e f.1) refl
    elsewhere own ls (plain.binary s o a b) f = let p = front (below_expression a) (an_expression b ∷ below_expression b) f.1 in
        let q = behind (below_expression a) (an_expression b ∷ below_expression b) f.1 in rw (elsewhere own ls a p, elsewhere own ls b q.1) refl
    elsewhere own ls (plain.assign s a b) f = let p = front (below_expression a) (an_expression b ∷ below_expression b) f.1 in
        let q = behind (below_expression a) (an_expression b ∷ below_expression b) f.1 in rw (elsewhere own ls a p, elsewhere own ls b q.1) refl
    elsewhere own ls (plain.update s o a b) f = let p = front (below_expression a) (an_expression b ∷ below_expression b) f.1 in
        let q = behind (below_expression a) (an_expression b ∷ below_expression b) f.1 in rw (elsewhere own ls a p, elsewhere own ls b q.1) refl
    elsewhere own ls (plain.call s n es) f = rw (all_elsewhere own ls es f) refl
    elsewhere own ls (plain.next_input s) f = refl
    elsewhere own ls (plain.variant s a v es) f = rw (arguments_elsewhere own ls es f) refl
    elsewhere own ls (plain.make s x fs) f = rw (fields_elsewhere own ls fs f) refl
    elsewhere own ls (plain.print s e) f = rw (elsewhere own ls e f.1) refl
    elsewhere own ls (plain.block s b) f = rw (block_elsewhere own ls b f) refl
    elsewhere own ls (plain.if s c b o) f = let rest = a_block b ∷ (below_block b ++ within_optional o) in
        let p = front (below_expression c) rest f.1 in
        let q = behind (below_expression c) rest f.1 in
        rw (
          elsewhere own ls c p,
          block_elsewhere own ls b (q.0, front (below_block b) (within_optional o) q.1),
          optional_elsewhere own ls o (behind (below_block b) (within_optional o) q.1),
        ) refl
    elsewhere own ls (plain.if_let s t e b o) f = let rest = a_block b ∷ (below_block b ++ within_optional o) in
        let u = behind (below_pattern t) (an_expression e ∷ (below_expression e ++ rest)) f.1 in
        let p = front (below_expression e) rest u.1 in
        let q = behind (below_expression e) rest u.1 in
        rw (
          elsewhere own ls e p,
          block_elsewhere (bound t ++ own) ls b (q.0, front (below_block b) (within_optional o) q.1),
          optional_elsewhere own ls o (behind (below_block b) (within_optional o) q.1),
        ) refl
    elsewhere own ls (plain.match s e arms) f = rw (
      elsewhere own ls e (front (below_expression e) (within_arms arms) f.1),
      arms_elsewhere own ls arms (behind (below_expression e) (within_arms arms) f.1),
    ) refl
    elsewhere own ls (plain.loop s l b) f = rw (block_elsewhere own (a_loop l 0 ∷ ls) b f) refl
    elsewhere own ls (plain.while s l c b) f = let rest = a_block b ∷ below_block b in
        rw (elsewhere own (a_test ∷ a_loop l 0 ∷ ls) c (front (below_expression c) rest f.1), block_elsewhere own (a_loop l 0 ∷ ls) b (behind (below_expression c) rest f.1)) refl
    elsewhere own ls (plain.while_let s l t e b) f = let rest = a_block b ∷ below_block b in
        let u = behind (below_pattern t) (an_expression e ∷ (below_expression e ++ rest)) f.1 in
        rw (
          elsewhere own (a_test ∷ a_loop l 0 ∷ ls) e (front (below_expression e) rest u.1),
          block_elsewhere (bound t ++ own) (a_loop l 0 ∷ ls) b (behind (below_expression e) rest u.1),
        ) refl
    elsewhere own ls (plain.break s l) f = refl
    elsewhere own ls (plain.continue s l) f = refl
    elsewhere own ls (plain.return s o) f = rw (optional_elsewhere own ls o f) refl

    all_elsewhere : (own : Names) (ls : List Around) (es : Expressions) → All (within_expressions es) → changed_all (replacing place new) own ls es ≡ es
    all_elsewhere own ls plain.no_expression f = refl
    all_elsewhere own ls (plain.expression_and e es) f = rw (
      elsewhere own ls e (front (below_expression e) (within_expressions es) f.1),
      all_elsewhere own ls es (behind (below_expression e) (within_expressions es) f.1),
    ) refl

    optional_elsewhere : (own : Names) (ls : List Around) (o : OptionalExpression) → All (within_optional o) → changed_optional (replacing place new) own ls o ≡ o
    optional_elsewhere own ls plain.absent f = refl
    optional_elsewhere own ls (plain.present e) f = rw (elsewhere own ls e f.1) refl

    arguments_elsewhere : (own : Names) (ls : List Around) (es : OptionalExpressions) → All (within_arguments es) → changed_arguments (replacing place new) own ls es ≡ es
    arguments_elsewhere own ls plain.no_list f = refl
    arguments_elsewhere own ls (plain.a_list es) f = rw (all_elsewhere own ls es f) refl

    fields_elsewhere : (own : Names) (ls : List Around) (fs : FieldExpressions) → All (within_fields fs) → changed_fields (replacing place new) own ls fs ≡ fs
    fields_elsewhere own ls plain.no_field f = refl
    fields_elsewhere own ls (plain.field_and x e fs) f = rw (
      elsewhere own ls e (front (below_expression e) (within_fields fs) f.1),
      fields_elsewhere own ls fs (behind (below_expression e) (within_fields fs) f.1),
    ) refl

    arms_elsewhere : (own : Names) (ls : List Around) (arms : Arms) → All (within_arms arms) → changed_arms (replacing place new) own ls arms ≡ arms
    arms_elsewhere own ls plain.no_arm f = refl
    arms_elsewhere own ls (plain.arm_and t e rest) f = let u = behind (below_pattern t) (an_expression e ∷ (below_expression e ++ within_arms rest)) f.1 in
        rw (elsewhere (bound t ++ own) ls e (front (below_expression e) (within_arms rest) u.1), arms_elsewhere own ls rest (behind (below_expression e) (within_arms rest) u.1)) refl

    pub block_elsewhere : (own : Names) (ls : List Around) (b : Body) → BlockElsewhere place b → changed_body (replacing place new) own ls b ≡ b
    block_elsewhere own ls (plain.body s ss o) f = rw (
      f.0,
      statements_elsewhere own ls ss (front (within_statements ss) (within_optional o) f.1),
      optional_elsewhere (behind_all own ss) ls o (behind (within_statements ss) (within_optional o) f.1),
    ) refl

    statement_elsewhere : (own : Names) (ls : List Around) (a : Statement) → All (below_statement a) → changed_statement (replacing place new) own ls a ≡ a
    statement_elsewhere own ls (plain.let_statement s t y o) f = let u = behind (below_pattern t) (within_type y ++ within_optional o) f.1 in
        rw (optional_elsewhere own ls o (behind (within_type y) (within_optional o) u)) refl
    statement_elsewhere own ls (plain.expression_statement s e b) f = rw (elsewhere own ls e f.1) refl

    statements_elsewhere : (own : Names) (ls : List Around) (ss : Statements) → All (within_statements ss) → changed_statements (replacing place new) own ls ss ≡ ss
    statements_elsewhere own ls plain.no_statement f = refl
    statements_elsewhere own ls (plain.statement_and a ss) f = rw (
      statement_elsewhere own ls a (front (below_statement a) (within_statements ss) f.1),
      statements_elsewhere (bound_by a ++ own) ls ss (behind (below_statement a) (within_statements ss) f.1),
    ) refl
