-- What is claimed of the names and jumps in a part is told of each that leads out of it: by induction over all forms.
use Rattle.std.proofs.Common.{◌≡◌, ℕ, Bool, true, false, List, ◌∷◌, ◌++◌, Option, Some, None, refl}
use Rattle.rx_tree.specs.declared.tree.Ident.{Ident}
use Rattle.rx_tree.specs.Lists.{Every}
use Rattle.rx_tree.specs.Plain as plain
use Rattle.rx_tree.specs.Plain.{Expression, Expressions, OptionalExpression, OptionalExpressions, FieldExpressions, Arms, Body, Statement, Statements}
use Rattle.rx_tree.proofs.NodesLaws.{every_both}
use Rattle.rx_resolve_names.specs.Meant.{Around, a_loop, a_test}
use Rattle.rx_hoist_extraction.specs.Names.{behind_all, bound, bound_by, is_among, Names}
use Rattle.rx_hoist_extraction.specs.Moved.{leaves}
use Rattle.rx_engine_names.specs.Within.{AllWithin, ArgumentsWithin, ArmsWithin, BodyWithin, FieldsWithin, OptionalWithin, StatementsWithin, StatementWithin, Within}
use Rattle.rx_engine_called.specs.Found.{told}
use Rattle.rx_engine_called.specs.Outside.{a_break, a_continue, a_name, break_if, continue_if, name_unless, Outer, outside, outside_all, outside_arguments, outside_arms, outside_body, outside_fields, outside_optional, outside_statement, outside_statements}

module _ (Q : List ℕ → Type 0) (J : Option Ident → ℕ → Type 0) where
  abbrev pub Tells : Outer → Type 0
  Tells (a_name x) = Q x
  Tells (a_break l k) = J l k
  Tells (a_continue l k) = J l k

  abbrev pub All : List Outer → Type 0
  All os = Every Tells os

  two : (xs ys : List Outer) → All xs → All ys → All (xs ++ ys)
  two xs ys g h = every_both Tells xs ys g h

  a_name_tells : (own : Names) (x : List ℕ) → (is_among x own ≡ false → Q x) → All (name_unless (is_among x own) x)
  a_name_tells own x h = by (is_among x own) h
    where
      by : (b : Bool) → (b ≡ false → Q x) → All (name_unless b x)
      by true h = tt
      by false h = (h refl, tt)

  a_break_tells : (l : Option Ident) (o : Option ℕ) → ((k : ℕ) → o ≡ Some k → J l k) → All (break_if l o)
  a_break_tells l None h = tt
  a_break_tells l (Some k) h = (h k refl, tt)

  a_continue_tells : (l : Option Ident) (o : Option ℕ) → ((k : ℕ) → o ≡ Some k → J l k) → All (continue_if l o)
  a_continue_tells l None h = tt
  a_continue_tells l (Some k) h = (h k refl, tt)

  mutual
    pub exp_tells : (own : Names) (ls : List Around) (e : Expression) → Within (told Q J) own ls e → All (outside own ls e)
    exp_tells own ls (plain.int s v k) h = tt
    exp_tells own ls (plain.bool s b) h = tt
    exp_tells own ls (plain.tuple s es) h = all_tell own ls es h
    exp_tells own ls (plain.var s x) h = a_name_tells own x h
    exp_tells own ls (plain.field s e x) h = exp_tells own ls e h
    exp_tells own ls (plain.part s e i) h = exp_tells own ls e h
    exp_tells own ls (plain.deref s e) h = exp_tells own ls e h
    exp_tells own ls (plain.negate s e) h = exp_tells own ls e h
    exp_tells own ls (plain.invert s e) h = exp_tells own ls e h
    exp_tells own ls (plain.borrow s m e) h = exp_tells own ls e h
    exp_tells own ls (plain.binary s o a b) h = two (outside own ls a) (outside own ls b) (exp_tells own ls a h.0) (exp_tells own ls b h.1)
    exp_tells own ls (plain.assign s a b) h = two (outside own ls a) (outside own ls b) (exp_tells own ls a h.0) (exp_tells own ls b h.1)
    exp_tells own ls (plain.update s o a b) h = two (outside own ls a) (outside own ls b) (exp_tells own ls a h.0) (exp_tells own ls b h.1)
    exp_tells own ls (plain.call s f es) h = all_tell own ls es h.1
    exp_tells own ls (plain.next_input s) h = tt
    exp_tells own ls (plain.variant s a v es) h = arguments_tell own ls es h
    exp_tells own ls (plain.make s x fs) h = fields_tell own ls fs h
    exp_tells own ls (plain.print s e) h = exp_tells own ls e h
    exp_tells own ls (plain.block s b) h = body_tells own ls b h
    exp_tells own ls (plain.if s c b o) h =
        two (outside own ls c) (outside_body own ls b ++ outside_optional own ls o) (exp_tells own ls c h.0) (two (outside_body own ls b) (outside_optional own ls o) (body_tells own ls b h.1) (optional_tells own ls o h.2))
    exp_tells own ls (plain.if_let s p e b o) h =
        two (outside own ls e) (outside_body (bound p ++ own) ls b ++ outside_optional own ls o) (exp_tells own ls e h.0)
        (two (outside_body (bound p ++ own) ls b) (outside_optional own ls o) (body_tells (bound p ++ own) ls b h.1) (optional_tells own ls o h.2))
    exp_tells own ls (plain.match s e l) h = two (outside own ls e) (outside_arms own ls l) (exp_tells own ls e h.0) (arms_tell own ls l h.1)
    exp_tells own ls (plain.loop s l b) h = body_tells own (a_loop l 0 ∷ ls) b h
    exp_tells own ls (plain.while s l c b) h =
        two (outside own (a_test ∷ a_loop l 0 ∷ ls) c) (outside_body own (a_loop l 0 ∷ ls) b) (exp_tells own (a_test ∷ a_loop l 0 ∷ ls) c h.0) (body_tells own (a_loop l 0 ∷ ls) b h.1)
    exp_tells own ls (plain.while_let s l p e b) h =
        two (outside own (a_test ∷ a_loop l 0 ∷ ls) e) (outside_body (bound p ++ own) (a_loop l 0 ∷ ls) b) (exp_tells own (a_test ∷ a_loop l 0 ∷ ls) e h.0) (body_tells (bound p ++ own) (a_loop l 0 ∷ ls) b h.1)
    exp_tells own ls (plain.break s l) h = a_break_tells l (leaves l ls) h
    exp_tells own ls (plain.continue s l) h = a_continue_tells l (leaves l ls) h
    exp_tells own ls (plain.return s o) h = optional_tells own ls o h.1

    pub all_tell : (own : Names) (ls : List Around) (es : Expressions) → AllWithin (told Q J) own ls es → All (outside_all own ls es)
    all_tell own ls plain.no_expression h = tt
    all_tell own ls (plain.expression_and e es) h = two (outside own ls e) (outside_all own ls es) (exp_tells own ls e h.0) (all_tell own ls es h.1)

    pub optional_tells : (own : Names) (ls : List Around) (o : OptionalExpression) → OptionalWithin (told Q J) own ls o → All (outside_optional own ls o)
    optional_tells own ls plain.absent h = tt
    optional_tells own ls (plain.present e) h = exp_tells own ls e h

    pub arguments_tell : (own : Names) (ls : List Around) (o : OptionalExpressions) → ArgumentsWithin (told Q J) own ls o → All (outside_arguments own ls o)
    arguments_tell own ls plain.no_list h = tt
    arguments_tell own ls (plain.a_list es) h = all_tell own ls es h

    pub fields_tell : (own : Names) (ls : List Around) (fs : FieldExpressions) → FieldsWithin (told Q J) own ls fs → All (outside_fields own ls fs)
    fields_tell own ls plain.no_field h = tt
    fields_tell own ls (plain.field_and x e fs) h = two (outside own ls e) (outside_fields own ls fs) (exp_tells own ls e h.0) (fields_tell own ls fs h.1)

    pub arms_tell : (own : Names) (ls : List Around) (l : Arms) → ArmsWithin (told Q J) own ls l → All (outside_arms own ls l)
    arms_tell own ls plain.no_arm h = tt
    arms_tell own ls (plain.arm_and p e l) h = two (outside (bound p ++ own) ls e) (outside_arms own ls l) (exp_tells (bound p ++ own) ls e h.0) (arms_tell own ls l h.1)

    pub body_tells : (own : Names) (ls : List Around) (b : Body) → BodyWithin (told Q J) own ls b → All (outside_body own ls b)
    body_tells own ls (plain.body s ss o) h = two (outside_statements own ls ss) (outside_optional (behind_all own ss) ls o) (statements_tell own ls ss h.1) (optional_tells (behind_all own ss) ls o h.2)

    pub statement_tells : (own : Names) (ls : List Around) (a : Statement) → StatementWithin (told Q J) own ls a → All (outside_statement own ls a)
    statement_tells own ls (plain.let_statement s p y o) h = optional_tells own ls o h.1
    statement_tells own ls (plain.expression_statement s e b) h = exp_tells own ls e h

    pub statements_tell : (own : Names) (ls : List Around) (ss : Statements) → StatementsWithin (told Q J) own ls ss → All (outside_statements own ls ss)
    statements_tell own ls plain.no_statement h = tt
    statements_tell own ls (plain.statement_and a ss) h =
        two (outside_statement own ls a) (outside_statements (bound_by a ++ own) ls ss) (statement_tells own ls a h.0) (statements_tell (bound_by a ++ own) ls ss h.1)
