-- Where nothing is claimed, every part is within the claims: by induction on it.
use Rattle.std.proofs.Common.{List, ◌∷◌, ◌++◌}
use Rattle.rx_tree.specs.Plain as plain
use Rattle.rx_tree.specs.Plain.{Expression, Expressions, OptionalExpression, OptionalExpressions, FieldExpressions, Arms, Body, Statement, Statements}
use Rattle.rx_resolve_names.specs.Meant.{Around, a_loop, a_test}
use Rattle.rx_hoist_extraction.specs.Names.{Names, bound, bound_by, behind_all}
use Rattle.rx_engine_names.specs.Within.{Claims, Within, AllWithin, OptionalWithin, ArgumentsWithin, FieldsWithin, ArmsWithin, BodyWithin, StatementWithin, StatementsWithin}

-- where nothing is claimed
abbrev pub no_claims : Claims
no_claims = record { name = λ x. Unit {0}; variable = λ own x. Unit {0}; broken = λ own ls l. Unit {0}; continued = λ own ls l. Unit {0}; returned = Unit {0}; annotation = λ y. Unit {0}; block = λ own ls b. Unit {0} }

mutual
  pub exp_within : (own : Names) (ls : List Around) (e : Expression) → Within no_claims own ls e
  exp_within own ls (plain.int s v k) = tt
  exp_within own ls (plain.bool s x) = tt
  exp_within own ls (plain.tuple s es) = all_within own ls es
  exp_within own ls (plain.var s x) = tt
  exp_within own ls (plain.field s e x) = exp_within own ls e
  exp_within own ls (plain.part s e i) = exp_within own ls e
  exp_within own ls (plain.deref s e) = exp_within own ls e
  exp_within own ls (plain.negate s e) = exp_within own ls e
  exp_within own ls (plain.invert s e) = exp_within own ls e
  exp_within own ls (plain.borrow s m e) = exp_within own ls e
  exp_within own ls (plain.binary s o a b) = (exp_within own ls a, exp_within own ls b)
  exp_within own ls (plain.assign s a b) = (exp_within own ls a, exp_within own ls b)
  exp_within own ls (plain.update s o a b) = (exp_within own ls a, exp_within own ls b)
  exp_within own ls (plain.call s f es) = (tt, all_within own ls es)
  exp_within own ls (plain.next_input s) = tt
  exp_within own ls (plain.variant s a v es) = arguments_within own ls es
  exp_within own ls (plain.make s x fs) = fields_within own ls fs
  exp_within own ls (plain.print s e) = exp_within own ls e
  exp_within own ls (plain.block s b) = body_within own ls b
  exp_within own ls (plain.if s c b o) = (exp_within own ls c, body_within own ls b, optional_within own ls o)
  exp_within own ls (plain.if_let s p e b o) = (exp_within own ls e, body_within (bound p ++ own) ls b, optional_within own ls o)
  exp_within own ls (plain.match s e l) = (exp_within own ls e, arms_within own ls l)
  exp_within own ls (plain.loop s l b) = body_within own (a_loop l 0 ∷ ls) b
  exp_within own ls (plain.while s l c b) = (exp_within own (a_test ∷ a_loop l 0 ∷ ls) c, body_within own (a_loop l 0 ∷ ls) b)
  exp_within own ls (plain.while_let s l p e b) = (exp_within own (a_test ∷ a_loop l 0 ∷ ls) e, body_within (bound p ++ own) (a_loop l 0 ∷ ls) b)
  exp_within own ls (plain.break s l) = tt
  exp_within own ls (plain.continue s l) = tt
  exp_within own ls (plain.return s o) = (tt, optional_within own ls o)

  pub all_within : (own : Names) (ls : List Around) (e : Expressions) → AllWithin no_claims own ls e
  all_within own ls plain.no_expression = tt
  all_within own ls (plain.expression_and e es) = (exp_within own ls e, all_within own ls es)

  pub optional_within : (own : Names) (ls : List Around) (e : OptionalExpression) → OptionalWithin no_claims own ls e
  optional_within own ls plain.absent = tt
  optional_within own ls (plain.present e) = exp_within own ls e

  pub arguments_within : (own : Names) (ls : List Around) (e : OptionalExpressions) → ArgumentsWithin no_claims own ls e
  arguments_within own ls plain.no_list = tt
  arguments_within own ls (plain.a_list es) = all_within own ls es

  pub fields_within : (own : Names) (ls : List Around) (e : FieldExpressions) → FieldsWithin no_claims own ls e
  fields_within own ls plain.no_field = tt
  fields_within own ls (plain.field_and x e fs) = (exp_within own ls e, fields_within own ls fs)

  pub arms_within : (own : Names) (ls : List Around) (e : Arms) → ArmsWithin no_claims own ls e
  arms_within own ls plain.no_arm = tt
  arms_within own ls (plain.arm_and p e l) = (exp_within (bound p ++ own) ls e, arms_within own ls l)

  pub body_within : (own : Names) (ls : List Around) (e : Body) → BodyWithin no_claims own ls e
  body_within own ls (plain.body s ss o) = (tt, statements_within own ls ss, optional_within (behind_all own ss) ls o)

  pub statement_within : (own : Names) (ls : List Around) (e : Statement) → StatementWithin no_claims own ls e
  statement_within own ls (plain.let_statement s p y o) = (tt, optional_within own ls o)
  statement_within own ls (plain.expression_statement s e b) = exp_within own ls e

  pub statements_within : (own : Names) (ls : List Around) (e : Statements) → StatementsWithin no_claims own ls e
  statements_within own ls plain.no_statement = tt
  statements_within own ls (plain.statement_and a ss) = (statement_within own ls a, statements_within (bound_by a ++ own) ls ss)
