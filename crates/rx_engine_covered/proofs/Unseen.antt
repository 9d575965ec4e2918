-- Where no node has a shared reference for a mutable one, each pattern is seen as it is.
use Rattle.std.specs.Prelude.{false}
use Rattle.std.proofs.Common.{refl}
use Rattle.rx_typed.specs.Named as named
use Rattle.rx_typed.specs.Named.{Pattern, Patterns, FieldPatterns, Exp, Exps, Else, Fields, Arms, Body, Statement, Statements}
use Rattle.rx_engine_covered.specs.Seen.{none_seen, AsTheyAre, EachSeenSo, FieldsAsTheyAre, SeenArms, SeenBody, SeenElse, SeenExp, SeenExps, SeenFields, SeenSo, SeenStatement, SeenStatements}

mutual
  pattern_unseen : (p : Pattern) → SeenSo none_seen false p
  pattern_unseen (named.wild n) = tt
  pattern_unseen (named.bind n x m) = tt
  pattern_unseen (named.whole_number n g v k) = refl
  pattern_unseen (named.truth n b) = refl
  pattern_unseen (named.tuple_pattern n ps) = (refl, parts_unseen ps)
  pattern_unseen (named.variant_pattern n i v ps) = (refl, parts_unseen ps)
  pattern_unseen (named.struct_pattern n i fs) = (refl, fields_of_unseen fs)

  parts_unseen : (ps : Patterns) → AsTheyAre none_seen ps
  parts_unseen named.no_pattern = tt
  parts_unseen (named.pattern_and p ps) = (pattern_unseen p, parts_unseen ps)

  fields_of_unseen : (fs : FieldPatterns) → FieldsAsTheyAre none_seen fs
  fields_of_unseen named.no_field_pattern = tt
  fields_of_unseen (named.field_pattern_and x p fs) = (pattern_unseen p, fields_of_unseen fs)

patterns_unseen : (l : Arms) → EachSeenSo none_seen false l
patterns_unseen named.no_arm = tt
patterns_unseen (named.arm_and p e l) = (pattern_unseen p, patterns_unseen l)

mutual
  pub exp_unseen : (e : Exp) → SeenExp none_seen e
  exp_unseen (named.int n m v k) = tt
  exp_unseen (named.bool n b) = tt
  exp_unseen (named.tuple n es) = exps_unseen es
  exp_unseen (named.var n x) = tt
  exp_unseen (named.field n e x) = tt
  exp_unseen (named.part n e i) = tt
  exp_unseen (named.deref n e) = tt
  exp_unseen (named.negate n e) = exp_unseen e
  exp_unseen (named.invert n e) = exp_unseen e
  exp_unseen (named.borrow n m e) = tt
  exp_unseen (named.binary n o a b) = (exp_unseen a, exp_unseen b)
  exp_unseen (named.assign n p e) = exp_unseen e
  exp_unseen (named.gives n p x d e) = exp_unseen e
  exp_unseen (named.update n o p e) = exp_unseen e
  exp_unseen (named.call n f es) = exps_unseen es
  exp_unseen (named.hidden_call n es) = tt
  exp_unseen (named.next_input n) = tt
  exp_unseen (named.variant n i v es) = exps_unseen es
  exp_unseen (named.make n i fs) = fields_unseen fs
  exp_unseen (named.print n e) = exp_unseen e
  exp_unseen (named.block n b) = body_unseen b
  exp_unseen (named.if n c b o) = (exp_unseen c, body_unseen b, else_unseen o)
  exp_unseen (named.if_let n p e b o) = ((false, pattern_unseen p), exp_unseen e, body_unseen b, else_unseen o)
  exp_unseen (named.match n e l) = ((false, patterns_unseen l), exp_unseen e, arms_unseen l)
  exp_unseen (named.loop n l k b) = body_unseen b
  exp_unseen (named.while n l c b) = (exp_unseen c, body_unseen b)
  exp_unseen (named.while_let n l p e b) = ((false, pattern_unseen p), exp_unseen e, body_unseen b)
  exp_unseen (named.break n l) = tt
  exp_unseen (named.continue n l) = tt
  exp_unseen (named.return n o) = else_unseen o

  exps_unseen : (es : Exps) → SeenExps none_seen es
  exps_unseen named.no_exp = tt
  exps_unseen (named.exp_and e es) = (exp_unseen e, exps_unseen es)

  pub else_unseen : (o : Else) → SeenElse none_seen o
  else_unseen named.absent = tt
  else_unseen (named.present e) = exp_unseen e

  fields_unseen : (fs : Fields) → SeenFields none_seen fs
  fields_unseen named.no_field = tt
  fields_unseen (named.field_and x e fs) = (exp_unseen e, fields_unseen fs)

  arms_unseen : (l : Arms) → SeenArms none_seen l
  arms_unseen named.no_arm = tt
  arms_unseen (named.arm_and p e l) = (exp_unseen e, arms_unseen l)

  pub body_unseen : (b : Body) → SeenBody none_seen b
  body_unseen (named.body n ss o) = (statements_unseen ss, else_unseen o)

  statement_unseen : (a : Statement) → SeenStatement none_seen a
  statement_unseen (named.declares n p t) = tt
  statement_unseen (named.lets n p t e) = ((false, pattern_unseen p), exp_unseen e)
  statement_unseen (named.evaluates n e s) = exp_unseen e

  pub statements_unseen : (ss : Statements) → SeenStatements none_seen ss
  statements_unseen named.no_statement = tt
  statements_unseen (named.statement_and a ss) = (statement_unseen a, statements_unseen ss)
