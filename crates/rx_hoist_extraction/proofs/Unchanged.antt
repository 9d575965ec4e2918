-- Where nothing becomes anything else, a part stays as it is: by induction on it.
use Rattle.std.proofs.Common.{◌≡◌, List, ◌∷◌, ◌++◌, refl}
use Rattle.rx_tree.specs.Plain as plain
use Rattle.rx_tree.specs.Plain.{Expression, Expressions, OptionalExpression, OptionalExpressions, FieldExpressions, Arms, Body, Statement, Statements}
use Rattle.rx_resolve_names.specs.Meant.{Around, a_loop, a_test}
use Rattle.rx_hoist_extraction.specs.Names.{Names, bound, bound_by, behind_all}
use Rattle.rx_hoist_extraction.specs.Changed.{kept, changed, changed_all, changed_optional, changed_arguments, changed_fields, changed_arms, changed_body, changed_statement, changed_statements}

mutual
  pub same : (own : Names) (ls : List Around) (e : Expression) → changed kept own ls e ≡ e
  same own ls (plain.int s v k) = refl
  same own ls (plain.bool s b) = refl
  same own ls (plain.tuple s es) = rw (same_all own ls es) refl
  same own ls (plain.var s x) = refl
  same own ls (plain.field s e x) = rw (same own ls e) refl
  same own ls (plain.part s e i) = rw (same own ls e) refl
  same own ls (plain.deref s e) = rw (same own ls e) refl
  same own ls (plain.negate s e) = rw (same own ls e) refl
  same own ls (plain.invert s e) = rw (same own ls e) refl
  same own ls (plain.borrow s m e) = rw (same own ls e) refl
  same own ls (plain.binary s o a b) = rw (same own ls a, same own ls b) refl
  same own ls (plain.assign s a b) = rw (same own ls a, same own ls b) refl
  same own ls (plain.update s o a b) = rw (same own ls a, same own ls b) refl
  same own ls (plain.call s f es) = rw (same_all own ls es) refl
  same own ls (plain.next_input s) = refl
  same own ls (plain.variant s a v es) = rw (same_arguments own ls es) refl
  same own ls (plain.make s x fs) = rw (same_fields own ls fs) refl
  same own ls (plain.print s e) = rw (same own ls e) refl
  same own ls (plain.block s b) = rw (same_body own ls b) refl
  same own ls (plain.if s c b o) = rw (same own ls c, same_body own ls b, same_optional own ls o) refl
  same own ls (plain.if_let s p e b o) = rw (same own ls e, same_body (bound p ++ own) ls b, same_optional own ls o) refl
  same own ls (plain.match s e arms) = rw (same own ls e, same_arms own ls arms) refl
  same own ls (plain.loop s l b) = rw (same_body own (a_loop l 0 ∷ ls) b) refl
  same own ls (plain.while s l c b) = rw (same own (a_test ∷ a_loop l 0 ∷ ls) c, same_body own (a_loop l 0 ∷ ls) b) refl
  same own ls (plain.while_let s l p e b) = rw (same own (a_test ∷ a_loop l 0 ∷ ls) e, same_body (bound p ++ own) (a_loop l 0 ∷ ls) b) refl
  same own ls (plain.break s l) = refl
  same own ls (plain.continue s l) = refl
  same own ls (plain.return s o) = rw (same_optional own ls o) refl

  same_all : (own : Names) (ls : List Around) (es : Expressions) → changed_all kept own ls es ≡ es
  same_all own ls plain.no_expression = refl
  same_all own ls (plain.expression_and e es) = rw (same own ls e, same_all own ls es) refl

  same_optional : (own : Names) (ls : List Around) (o : OptionalExpression) → changed_optional kept own ls o ≡ o
  same_optional own ls plain.absent = refl
  same_optional own ls (plain.present e) = rw (same own ls e) refl

  same_arguments : (own : Names) (ls : List Around) (es : OptionalExpressions) → changed_arguments kept own ls es ≡ es
  same_arguments own ls plain.no_list = refl
  same_arguments own ls (plain.a_list es) = rw (same_all own ls es) refl

  same_fields : (own : Names) (ls : List Around) (fs : FieldExpressions) → changed_fields kept own ls fs ≡ fs
  same_fields own ls plain.no_field = refl
  same_fields own ls (plain.field_and x e fs) = rw (same own ls e, same_fields own ls fs) refl

  same_arms : (own : Names) (ls : List Around) (arms : Arms) → changed_arms kept own ls arms ≡ arms
  same_arms own ls plain.no_arm = refl
  same_arms own ls (plain.arm_and p e rest) = rw (same (bound p ++ own) ls e, same_arms own ls rest) refl

  pub same_body : (own : Names) (ls : List Around) (b : Body) → changed_body kept own ls b ≡ b
  same_body own ls (plain.body s ss o) = rw (same_statements own ls ss, same_optional (behind_all own ss) ls o) refl

  same_statement : (own : Names) (ls : List Around) (a : Statement) → changed_statement kept own ls a ≡ a
  same_statement own ls (plain.let_statement s p t o) = rw (same_optional own ls o) refl
  same_statement own ls (plain.expression_statement s e b) = rw (same own ls e) refl

  same_statements : (own : Names) (ls : List Around) (ss : Statements) → changed_statements kept own ls ss ≡ ss
  same_statements own ls plain.no_statement = refl
  same_statements own ls (plain.statement_and a ss) = rw (same_statement own ls a, same_statements (bound_by a ++ own) ls ss) refl
