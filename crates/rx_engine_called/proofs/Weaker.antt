-- What is claimed of each name and jump where it stands holds of a part where a stronger claim does: by induction on the part.
use Rattle.std.proofs.Common.{ℕ, List, ◌∷◌, ◌++◌, Option}
use Rattle.rx_tree.specs.declared.tree.Ident.{Ident}
use Rattle.rx_tree.specs.Plain as plain
use Rattle.rx_tree.specs.Plain.{TypeTree, Expression, Expressions, OptionalExpression, OptionalExpressions, FieldExpressions, Arms, Body, Statement, Statements}
use Rattle.rx_resolve_names.specs.Meant.{Around, a_loop, a_test}
use Rattle.rx_hoist_extraction.specs.Names.{behind_all, bound, bound_by, Names}
use Rattle.rx_engine_names.specs.Within.{AllWithin, ArgumentsWithin, ArmsWithin, BodyWithin, Claims, FieldsWithin, OptionalWithin, StatementsWithin, StatementWithin, Within}

pub record Weaker (N M : Claims) : Type 0 where
  pub name : (x : List ℕ) → N.name x → M.name x
  pub variable : (own : Names) (x : List ℕ) → N.variable own x → M.variable own x
  pub broken : (own : Names) (ls : List Around) (l : Option Ident) → N.broken own ls l → M.broken own ls l
  pub continued : (own : Names) (ls : List Around) (l : Option Ident) → N.continued own ls l → M.continued own ls l
  pub returned : N.returned → M.returned
  pub annotation : (y : Option TypeTree) → N.annotation y → M.annotation y
  pub block : (own : Names) (ls : List Around) (b : Body) → N.block own ls b → M.block own ls b

module _ (N M : Claims) (W : Weaker N M) where
  mutual
    pub exp_weaker : (own : Names) (ls : List Around) (e : Expression) → Within N own ls e → Within M own ls e
    exp_weaker own ls (plain.int s v k) h = tt
    exp_weaker own ls (plain.bool s x) h = tt
    exp_weaker own ls (plain.tuple s es) h = all_weaker own ls es h
    exp_weaker own ls (plain.var s x) h = W.variable own x h
    exp_weaker own ls (plain.field s e x) h = exp_weaker own ls e h
    exp_weaker own ls (plain.part s e i) h = exp_weaker own ls e h
    exp_weaker own ls (plain.deref s e) h = exp_weaker own ls e h
    exp_weaker own ls (plain.negate s e) h = exp_weaker own ls e h
    exp_weaker own ls (plain.invert s e) h = exp_weaker own ls e h
    exp_weaker own ls (plain.borrow s m e) h = exp_weaker own ls e h
    exp_weaker own ls (plain.binary s o a b) h = (exp_weaker own ls a h.0, exp_weaker own ls b h.1)
    exp_weaker own ls (plain.assign s a b) h = (exp_weaker own ls a h.0, exp_weaker own ls b h.1)
    exp_weaker own ls (plain.update s o a b) h = (exp_weaker own ls a h.0, exp_weaker own ls b h.1)
    exp_weaker own ls (plain.call s f es) h = (W.name f.name h.0, all_weaker own ls es h.1)
    exp_weaker own ls (plain.next_input s) h = tt
    exp_weaker own ls (plain.variant s a v es) h = arguments_weaker own ls es h
    exp_weaker own ls (plain.make s x fs) h = fields_weaker own ls fs h
    exp_weaker own ls (plain.print s e) h = exp_weaker own ls e h
    exp_weaker own ls (plain.block s b) h = body_weaker own ls b h
    exp_weaker own ls (plain.if s c b o) h = (exp_weaker own ls c h.0, body_weaker own ls b h.1, optional_weaker own ls o h.2)
    exp_weaker own ls (plain.if_let s p e b o) h = (exp_weaker own ls e h.0, body_weaker (bound p ++ own) ls b h.1, optional_weaker own ls o h.2)
    exp_weaker own ls (plain.match s e l) h = (exp_weaker own ls e h.0, arms_weaker own ls l h.1)
    exp_weaker own ls (plain.loop s l b) h = body_weaker own (a_loop l 0 ∷ ls) b h
    exp_weaker own ls (plain.while s l c b) h = (exp_weaker own (a_test ∷ a_loop l 0 ∷ ls) c h.0, body_weaker own (a_loop l 0 ∷ ls) b h.1)
    exp_weaker own ls (plain.while_let s l p e b) h = (exp_weaker own (a_test ∷ a_loop l 0 ∷ ls) e h.0, body_weaker (bound p ++ own) (a_loop l 0 ∷ ls) b h.1)
    exp_weaker own ls (plain.break s l) h = W.broken own ls l h
    exp_weaker own ls (plain.continue s l) h = W.continued own ls l h
    exp_weaker own ls (plain.return s o) h = (W.returned h.0, optional_weaker own ls o h.1)

    all_weaker : (own : Names) (ls : List Around) (es : Expressions) → AllWithin N own ls es → AllWithin M own ls es
    all_weaker own ls plain.no_expression h = tt
    all_weaker own ls (plain.expression_and e es) h = (exp_weaker own ls e h.0, all_weaker own ls es h.1)

    pub optional_weaker : (own : Names) (ls : List Around) (o : OptionalExpression) → OptionalWithin N own ls o → OptionalWithin M own ls o
    optional_weaker own ls plain.absent h = tt
    optional_weaker own ls (plain.present e) h = exp_weaker own ls e h

    arguments_weaker : (own : Names) (ls : List Around) (o : OptionalExpressions) → ArgumentsWithin N own ls o → ArgumentsWithin M own ls o
    arguments_weaker own ls plain.no_list h = tt
    arguments_weaker own ls (plain.a_list es) h = all_weaker own ls es h

    fields_weaker : (own : Names) (ls : List Around) (fs : FieldExpressions) → FieldsWithin N own ls fs → FieldsWithin M own ls fs
    fields_weaker own ls plain.no_field h = tt
    fields_weaker own ls (plain.field_and x e fs) h = (exp_weaker own ls e h.0, fields_weaker own ls fs h.1)

    arms_weaker : (own : Names) (ls : List Around) (l : Arms) → ArmsWithin N own ls l → ArmsWithin M own ls l
    arms_weaker own ls plain.no_arm h = tt
    arms_weaker own ls (plain.arm_and p e l) h = (exp_weaker (bound p ++ own) ls e h.0, arms_weaker own ls l h.1)

    body_weaker : (own : Names) (ls : List Around) (b : Body) → BodyWithin N own ls b → BodyWithin M own ls b
    body_weaker own ls (plain.body s ss o) h = (W.block own ls (plain.body s ss o) h.0, statements_weaker own ls ss h.1, optional_weaker (behind_all own ss) ls o h.2)

    statement_weaker : (own : Names) (ls : List Around) (a : Statement) → StatementWithin N own ls a → StatementWithin M own ls a
    statement_weaker own ls (plain.let_statement s p y o) h = (W.annotation y h.0, optional_weaker own ls o h.1)
    statement_weaker own ls (plain.expression_statement s e b) h = exp_weaker own ls e h

    pub statements_weaker : (own : Names) (ls : List Around) (ss : Statements) → StatementsWithin N own ls ss → StatementsWithin M own ls ss
    statements_weaker own ls plain.no_statement h = tt
    statements_weaker own ls (plain.statement_and a ss) h = (statement_weaker own ls a h.0, statements_weaker (bound_by a ++ own) ls ss h.1)
