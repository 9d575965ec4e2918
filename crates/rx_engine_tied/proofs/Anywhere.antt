-- A part in which kinds and types are written out is the same wherever it stands: these are told by places in the text alone. By induction
-- over all forms.
use Rattle.std.proofs.Common.{◌≡◌, List, ◌∷◌, ◌++◌, refl, ap}
use Rattle.rx_core.specs.declared.types.Span.{Span}
use Rattle.rx_tree.specs.Plain as plain
use Rattle.rx_tree.specs.Plain.{Arms, Body, Expression, Expressions, FieldExpressions, OptionalExpression, OptionalExpressions, ProgramTree, Statement, Statements}
use Rattle.rx_resolve_names.specs.Meant.{a_loop, a_test, Around}
use Rattle.rx_hoist_extraction.specs.Changed.{changed, changed_all, changed_arguments, changed_arms, changed_body, changed_fields, changed_optional, changed_statement, changed_statements, Changes}
use Rattle.rx_hoist_extraction.specs.Names.{behind_all, bound, bound_by, Names}
use Rattle.rx_hoist_extraction.specs.Pinned.{pinning}
use Rattle.rx_hoist_extraction.specs.Plan.{Pins}

module _ (P : ProgramTree) (place : Span) (pins : Pins) where
  abbrev C : Changes
  C = pinning P place pins

  mutual
    expression : (o u : Names) (ls ms : List Around) (e : Expression) → changed C o ls e ≡ changed C u ms e
    expression o u ls ms (plain.int s v k) = refl
    expression o u ls ms (plain.bool s b) = refl
    expression o u ls ms (plain.tuple s es) = ap (plain.tuple s) (all o u ls ms es)
    expression o u ls ms (plain.var s x) = refl
    expression o u ls ms (plain.field s e x) = ap (λ (z : Expression). plain.field s z x) (expression o u ls ms e)
    expression o u ls ms (plain.part s e i) = ap (λ (z : Expression). plain.part s z i) (expression o u ls ms e)
    expression o u ls ms (plain.deref s e) = ap (plain.deref s) (expression o u ls ms e)
    expression o u ls ms (plain.negate s e) = ap (plain.negate s) (expression o u ls ms e)
    expression o u ls ms (plain.invert s e) = ap (plain.invert s) (expression o u ls ms e)
    expression o u ls ms (plain.borrow s m e) = ap (plain.borrow s m) (expression o u ls ms e)
    expression o u ls ms (plain.binary s c a b) = λ j. plain.binary s c (expression o u ls ms a j) (expression o u ls ms b j)
    expression o u ls ms (plain.assign s a b) = λ j. plain.assign s (expression o u ls ms a j) (expression o u ls ms b j)
    expression o u ls ms (plain.update s c a b) = λ j. plain.update s c (expression o u ls ms a j) (expression o u ls ms b j)
    expression o u ls ms (plain.call s f es) = ap (plain.call s f) (all o u ls ms es)
    expression o u ls ms (plain.next_input s) = refl
    expression o u ls ms (plain.variant s a v es) = ap (plain.variant s a v) (arguments o u ls ms es)
    expression o u ls ms (plain.make s x fs) = ap (plain.make s x) (fields o u ls ms fs)
    expression o u ls ms (plain.print s e) = ap (plain.print s) (expression o u ls ms e)
    expression o u ls ms (plain.block s b) = ap (plain.block s) (body o u ls ms b)
    expression o u ls ms (plain.if s c b d) = λ j. plain.if s (expression o u ls ms c j) (body o u ls ms b j) (optional o u ls ms d j)
    expression o u ls ms (plain.if_let s p e b d) = λ j. plain.if_let s p (expression o u ls ms e j) (body (bound p ++ o) (bound p ++ u) ls ms b j) (optional o u ls ms d j)
    expression o u ls ms (plain.match s e l) = λ j. plain.match s (expression o u ls ms e j) (arms o u ls ms l j)
    expression o u ls ms (plain.loop s l b) = ap (plain.loop s l) (body o u (a_loop l 0 ∷ ls) (a_loop l 0 ∷ ms) b)
    expression o u ls ms (plain.while s l c b) =
        λ j. plain.while s l (expression o u (a_test ∷ a_loop l 0 ∷ ls) (a_test ∷ a_loop l 0 ∷ ms) c j) (body o u (a_loop l 0 ∷ ls) (a_loop l 0 ∷ ms) b j)
    expression o u ls ms (plain.while_let s l p e b) =
        λ j. plain.while_let s l p (expression o u (a_test ∷ a_loop l 0 ∷ ls) (a_test ∷ a_loop l 0 ∷ ms) e j) (body (bound p ++ o) (bound p ++ u) (a_loop l 0 ∷ ls) (a_loop l 0 ∷ ms) b j)
    expression o u ls ms (plain.break s l) = refl
    expression o u ls ms (plain.continue s l) = refl
    expression o u ls ms (plain.return s d) = ap (plain.return s) (optional o u ls ms d)

    all : (o u : Names) (ls ms : List Around) (es : Expressions) → changed_all C o ls es ≡ changed_all C u ms es
    all o u ls ms plain.no_expression = refl
    all o u ls ms (plain.expression_and e es) = λ j. plain.expression_and (expression o u ls ms e j) (all o u ls ms es j)

    optional : (o u : Names) (ls ms : List Around) (d : OptionalExpression) → changed_optional C o ls d ≡ changed_optional C u ms d
    optional o u ls ms plain.absent = refl
    optional o u ls ms (plain.present e) = ap plain.present (expression o u ls ms e)

    arguments : (o u : Names) (ls ms : List Around) (es : OptionalExpressions) → changed_arguments C o ls es ≡ changed_arguments C u ms es
    arguments o u ls ms plain.no_list = refl
    arguments o u ls ms (plain.a_list es) = ap plain.a_list (all o u ls ms es)

    fields : (o u : Names) (ls ms : List Around) (fs : FieldExpressions) → changed_fields C o ls fs ≡ changed_fields C u ms fs
    fields o u ls ms plain.no_field = refl
    fields o u ls ms (plain.field_and x e fs) = λ j. plain.field_and x (expression o u ls ms e j) (fields o u ls ms fs j)

    arms : (o u : Names) (ls ms : List Around) (l : Arms) → changed_arms C o ls l ≡ changed_arms C u ms l
    arms o u ls ms plain.no_arm = refl
    arms o u ls ms (plain.arm_and p e l) = λ j. plain.arm_and p (expression (bound p ++ o) (bound p ++ u) ls ms e j) (arms o u ls ms l j)

    pub body : (o u : Names) (ls ms : List Around) (b : Body) → changed_body C o ls b ≡ changed_body C u ms b
    body o u ls ms (plain.body s ss d) = λ j. plain.body s (row o u ls ms ss j) (optional (behind_all o ss) (behind_all u ss) ls ms d j)

    statement : (o u : Names) (ls ms : List Around) (a : Statement) → changed_statement C o ls a ≡ changed_statement C u ms a
    statement o u ls ms (plain.let_statement s p y d) = ap (plain.let_statement s p (C.at_let p y)) (optional o u ls ms d)
    statement o u ls ms (plain.expression_statement s e b) = ap (λ (z : Expression). plain.expression_statement s z b) (expression o u ls ms e)

    row : (o u : Names) (ls ms : List Around) (ss : Statements) → changed_statements C o ls ss ≡ changed_statements C u ms ss
    row o u ls ms plain.no_statement = refl
    row o u ls ms (plain.statement_and a ss) = λ j. plain.statement_and (statement o u ls ms a j) (row (bound_by a ++ o) (bound_by a ++ u) ls ms ss j)
