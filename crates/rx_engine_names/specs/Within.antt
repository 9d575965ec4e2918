-- What holds of the names and jumps in a part (Rust Reference, "Path expressions", "Loop expressions"): a claim of each, where it stands.
use Rattle.std.specs.Prelude.{ℕ, List, ◌∷◌, ◌++◌, Option}
use Rattle.rx_tree.specs.declared.tree.Ident.{Ident}
use Rattle.rx_tree.specs.Plain as plain
use Rattle.rx_tree.specs.Plain.{TypeTree, Expression, Expressions, OptionalExpression, OptionalExpressions, FieldExpressions, Arms, Body, Statement, Statements}
use Rattle.rx_resolve_names.specs.Meant.{Around, a_loop, a_test}
use Rattle.rx_hoist_extraction.specs.Names.{Names, bound, bound_by, behind_all}

pub record Claims : Type 1 where
  -- of a callee
  pub name : List ℕ → Type 0
  -- of a variable, where these names are bound round it
  pub variable : Names → List ℕ → Type 0
  -- of a `break` and of a `continue` with their label, where these names are bound round it and these loops and tests stand round it
  pub broken : Names → List Around → Option Ident → Type 0
  pub continued : Names → List Around → Option Ident → Type 0
  -- of a `return`
  pub returned : Type 0
  -- of the type of a `let`
  pub annotation : Option TypeTree → Type 0
  -- of a block, where these names are bound round it and these loops and tests stand round it
  pub block : Names → List Around → Body → Type 0

abbrev mutual
  pub Within : Claims → Names → List Around → Expression → Type 0
  Within N own ls (plain.int s v k) = Unit {0}
  Within N own ls (plain.bool s b) = Unit {0}
  Within N own ls (plain.tuple s es) = AllWithin N own ls es
  Within N own ls (plain.var s x) = N.variable own x
  Within N own ls (plain.field s e x) = Within N own ls e
  Within N own ls (plain.part s e i) = Within N own ls e
  Within N own ls (plain.deref s e) = Within N own ls e
  Within N own ls (plain.negate s e) = Within N own ls e
  Within N own ls (plain.invert s e) = Within N own ls e
  Within N own ls (plain.borrow s m e) = Within N own ls e
  Within N own ls (plain.binary s o a b) = Within N own ls a × Within N own ls b
  Within N own ls (plain.assign s a b) = Within N own ls a × Within N own ls b
  Within N own ls (plain.update s o a b) = Within N own ls a × Within N own ls b
  Within N own ls (plain.call s f es) = N.name f.name × AllWithin N own ls es
  Within N own ls (plain.next_input s) = Unit {0}
  Within N own ls (plain.variant s a v es) = ArgumentsWithin N own ls es
  Within N own ls (plain.make s x fs) = FieldsWithin N own ls fs
  Within N own ls (plain.print s e) = Within N own ls e
  Within N own ls (plain.block s b) = BodyWithin N own ls b
  Within N own ls (plain.if s c b o) = Within N own ls c × BodyWithin N own ls b × OptionalWithin N own ls o
  Within N own ls (plain.if_let s p e b o) = Within N own ls e × BodyWithin N (bound p ++ own) ls b × OptionalWithin N own ls o
  Within N own ls (plain.match s e as') = Within N own ls e × ArmsWithin N own ls as'
  Within N own ls (plain.loop s l b) = BodyWithin N own (a_loop l 0 ∷ ls) b
  Within N own ls (plain.while s l c b) = Within N own (a_test ∷ a_loop l 0 ∷ ls) c × BodyWithin N own (a_loop l 0 ∷ ls) b
  Within N own ls (plain.while_let s l p e b) = Within N own (a_test ∷ a_loop l 0 ∷ ls) e × BodyWithin N (bound p ++ own) (a_loop l 0 ∷ ls) b
  Within N own ls (plain.break s l) = N.broken own ls l
  Within N own ls (plain.continue s l) = N.continued own ls l
  Within N own ls (plain.return s o) = N.returned × OptionalWithin N own ls o

  pub AllWithin : Claims → Names → List Around → Expressions → Type 0
  AllWithin N own ls plain.no_expression = Unit {0}
  AllWithin N own ls (plain.expression_and e es) = Within N own ls e × AllWithin N own ls es

  pub OptionalWithin : Claims → Names → List Around → OptionalExpression → Type 0
  OptionalWithin N own ls plain.absent = Unit {0}
  OptionalWithin N own ls (plain.present e) = Within N own ls e

  pub ArgumentsWithin : Claims → Names → List Around → OptionalExpressions → Type 0
  ArgumentsWithin N own ls plain.no_list = Unit {0}
  ArgumentsWithin N own ls (plain.a_list es) = AllWithin N own ls es

  pub FieldsWithin : Claims → Names → List Around → FieldExpressions → Type 0
  FieldsWithin N own ls plain.no_field = Unit {0}
  FieldsWithin N own ls (plain.field_and x e fs) = Within N own ls e × FieldsWithin N own ls fs

  pub ArmsWithin : Claims → Names → List Around → Arms → Type 0
  ArmsWithin N own ls plain.no_arm = Unit {0}
  ArmsWithin N own ls (plain.arm_and p e rest) = Within N (bound p ++ own) ls e × ArmsWithin N own ls rest

  pub BodyWithin : Claims → Names → List Around → Body → Type 0
  BodyWithin N own ls (plain.body s ss o) = N.block own ls (plain.body s ss o) × StatementsWithin N own ls ss × OptionalWithin N (behind_all own ss) ls o

  pub StatementWithin : Claims → Names → List Around → Statement → Type 0
  StatementWithin N own ls (plain.let_statement s p y o) = N.annotation y × OptionalWithin N own ls o
  StatementWithin N own ls (plain.expression_statement s e b) = Within N own ls e

  pub StatementsWithin : Claims → Names → List Around → Statements → Type 0
  StatementsWithin N own ls plain.no_statement = Unit {0}
  StatementsWithin N own ls (plain.statement_and a ss) = StatementWithin N own ls a × StatementsWithin N (bound_by a ++ own) ls ss
