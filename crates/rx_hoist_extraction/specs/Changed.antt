-- A part of a program in which some places become something else (Rust Reference, "Expressions", "Statements"). One walk goes
-- over all forms; what becomes of a special place is told by a field. So moving the run, pinning types and putting the call in
-- are instances of one function, and each law on it is one induction.
use Rattle.std.specs.Prelude.{ℕ, List, ◌∷◌, ◌++◌, Option}
use Rattle.rx_core.specs.declared.types.Span.{Span}
use Rattle.rx_core.specs.declared.types.Kind.{Kind}
use Rattle.rx_tree.specs.declared.tree.Ident.{Ident}
use Rattle.rx_tree.specs.Plain as plain
use Rattle.rx_tree.specs.Plain.{TypeTree, PatternTree, Expression, Expressions, OptionalExpression, OptionalExpressions, FieldExpressions, Arms, Body, Statement, Statements}
use Rattle.rx_resolve_names.specs.Meant.{Around, a_loop, a_test}
use Rattle.rx_hoist_extraction.specs.Names.{Names, bound, bound_by, behind_all}

-- what becomes of
pub record Changes : Type 0 where
  -- a variable, where these names are bound since the beginning
  pub at_variable : Names → Span → List ℕ → Expression
  -- a jump, where this stands round it; its span, its label
  pub at_break : List Around → Span → Option Ident → Expression
  pub at_continue : List Around → Span → Option Ident → Expression
  -- a return; its operand is changed already
  pub at_return : Span → OptionalExpression → Expression
  -- the suffix of a literal
  pub at_int : Span → Option Kind → Option Kind
  -- the type of a `let` with this pattern
  pub at_let : PatternTree → Option TypeTree → Option TypeTree
  -- a block, given as it stands and with its parts changed
  pub at_block : Body → Body → Body

-- nothing becomes anything else
abbrev pub kept : Changes
kept = record {
  at_variable = λ own s x. plain.var s x;
  at_break = λ ls s l. plain.break s l;
  at_continue = λ ls s l. plain.continue s l;
  at_return = λ s o. plain.return s o;
  at_int = λ s k. k;
  at_let = λ p t. t;
  at_block = λ b changed. changed;
}

-- `own` are the names that are bound between the beginning and the part, the newest first; `ls` is what stands round the part,
-- where a loop that began behind the beginning has the number 0
abbrev mutual
  pub changed : Changes → Names → List Around → Expression → Expression
  changed C own ls (plain.int s v k) = plain.int s v (C.at_int s k)
  changed C own ls (plain.bool s b) = plain.bool s b
  changed C own ls (plain.tuple s es) = plain.tuple s (changed_all C own ls es)
  changed C own ls (plain.var s x) = C.at_variable own s x
  changed C own ls (plain.field s e x) = plain.field s (changed C own ls e) x
  changed C own ls (plain.part s e i) = plain.part s (changed C own ls e) i
  changed C own ls (plain.deref s e) = plain.deref s (changed C own ls e)
  changed C own ls (plain.negate s e) = plain.negate s (changed C own ls e)
  changed C own ls (plain.invert s e) = plain.invert s (changed C own ls e)
  changed C own ls (plain.borrow s m e) = plain.borrow s m (changed C own ls e)
  changed C own ls (plain.binary s o a b) = plain.binary s o (changed C own ls a) (changed C own ls b)
  changed C own ls (plain.assign s a b) = plain.assign s (changed C own ls a) (changed C own ls b)
  changed C own ls (plain.update s o a b) = plain.update s o (changed C own ls a) (changed C own ls b)
  changed C own ls (plain.call s f es) = plain.call s f (changed_all C own ls es)
  changed C own ls (plain.next_input s) = plain.next_input s
  changed C own ls (plain.variant s a v es) = plain.variant s a v (changed_arguments C own ls es)
  changed C own ls (plain.make s x fs) = plain.make s x (changed_fields C own ls fs)
  changed C own ls (plain.print s e) = plain.print s (changed C own ls e)
  changed C own ls (plain.block s b) = plain.block s (changed_body C own ls b)
  changed C own ls (plain.if s c b o) = plain.if s (changed C own ls c) (changed_body C own ls b) (changed_optional C own ls o)
  changed C own ls (plain.if_let s p e b o) =
      plain.if_let s p (changed C own ls e) (changed_body C (bound p ++ own) ls b) (changed_optional C own ls o)
  changed C own ls (plain.match s e arms) = plain.match s (changed C own ls e) (changed_arms C own ls arms)
  changed C own ls (plain.loop s l b) = plain.loop s l (changed_body C own (a_loop l 0 ∷ ls) b)
  changed C own ls (plain.while s l c b) =
      plain.while s l (changed C own (a_test ∷ a_loop l 0 ∷ ls) c) (changed_body C own (a_loop l 0 ∷ ls) b)
  changed C own ls (plain.while_let s l p e b) =
      plain.while_let s l p (changed C own (a_test ∷ a_loop l 0 ∷ ls) e) (changed_body C (bound p ++ own) (a_loop l 0 ∷ ls) b)
  changed C own ls (plain.break s l) = C.at_break ls s l
  changed C own ls (plain.continue s l) = C.at_continue ls s l
  changed C own ls (plain.return s o) = C.at_return s (changed_optional C own ls o)

  pub changed_all : Changes → Names → List Around → Expressions → Expressions
  changed_all C own ls plain.no_expression = plain.no_expression
  changed_all C own ls (plain.expression_and e es) = plain.expression_and (changed C own ls e) (changed_all C own ls es)

  pub changed_optional : Changes → Names → List Around → OptionalExpression → OptionalExpression
  changed_optional C own ls plain.absent = plain.absent
  changed_optional C own ls (plain.present e) = plain.present (changed C own ls e)

  pub changed_arguments : Changes → Names → List Around → OptionalExpressions → OptionalExpressions
  changed_arguments C own ls plain.no_list = plain.no_list
  changed_arguments C own ls (plain.a_list es) = plain.a_list (changed_all C own ls es)

  pub changed_fields : Changes → Names → List Around → FieldExpressions → FieldExpressions
  changed_fields C own ls plain.no_field = plain.no_field
  changed_fields C own ls (plain.field_and x e fs) = plain.field_and x (changed C own ls e) (changed_fields C own ls fs)

  pub changed_arms : Changes → Names → List Around → Arms → Arms
  changed_arms C own ls plain.no_arm = plain.no_arm
  changed_arms C own ls (plain.arm_and p e rest) =
      plain.arm_and p (changed C (bound p ++ own) ls e) (changed_arms C own ls rest)

  pub changed_body : Changes → Names → List Around → Body → Body
  changed_body C own ls (plain.body s ss o) = C.at_block (plain.body s ss o)
      (plain.body s (changed_statements C own ls ss) (changed_optional C (behind_all own ss) ls o))

  pub changed_statement : Changes → Names → List Around → Statement → Statement
  changed_statement C own ls (plain.let_statement s p t o) =
      plain.let_statement s p (C.at_let p t) (changed_optional C own ls o)
  changed_statement C own ls (plain.expression_statement s e b) = plain.expression_statement s (changed C own ls e) b

  pub changed_statements : Changes → Names → List Around → Statements → Statements
  changed_statements C own ls plain.no_statement = plain.no_statement
  changed_statements C own ls (plain.statement_and a ss) =
      plain.statement_and (changed_statement C own ls a) (changed_statements C (bound_by a ++ own) ls ss)
