-- The edits that turn a part's text into that of the changed part: by the same walk as Changed, in the order of the text.
use Rattle.std.specs.Prelude.{ℕ, Bool, false, ◌==◌, List, [], ◌∷◌, ◌++◌, Option}
use Rattle.rx_core.specs.declared.types.Span.{Span}
use Rattle.rx_core.specs.declared.types.Kind.{Kind}
use Rattle.rx_tree.specs.declared.tree.Ident.{Ident}
use Rattle.rx_tree.specs.Plain as plain
use Rattle.rx_tree.specs.Plain.{TypeTree, PatternTree, Expression, Expressions, OptionalExpression, OptionalExpressions, FieldExpressions, Arms, Body, Statement, Statements}
use Rattle.rx_resolve_names.specs.Meant.{Around, a_loop, a_test}
use Rattle.rx_hoist_extraction.specs.Names.{Names, bound, bound_by, behind_all}
use Rattle.rx_splice_laws.specs.Edits.{Edit}

-- the edits at each special form. Those of an operand are given to a return
pub record EditsAt : Type 0 where
  pub at_int : Span → Option Kind → List Edit
  -- the truth value says that it is a field without `:`
  pub at_variable : Names → Bool → Span → List ℕ → List Edit
  pub at_break : List Around → Span → Option Ident → List Edit
  pub at_continue : List Around → Span → Option Ident → List Edit
  pub at_return : Span → List Edit
  pub at_return_with : Span → List Edit → List Edit
  -- behind the pattern
  pub at_let : PatternTree → Option TypeTree → List Edit

abbrev pub same_place : Span → Span → Bool
same_place s r = s.start == r.start

-- a field without `:` is a variable in the field's place
abbrev pub is_short : Ident → Expression → Bool
is_short x (plain.var s y) = same_place x.span s
is_short x _ = false

abbrev mutual
  pub edits : EditsAt → Names → List Around → Bool → Expression → List Edit
  edits A own ls b (plain.int s v k) = A.at_int s k
  edits A own ls b (plain.bool s c) = []
  edits A own ls b (plain.tuple s es) = all_edits A own ls es
  edits A own ls b (plain.var s x) = A.at_variable own b s x
  edits A own ls b (plain.field s e x) = edits A own ls false e
  edits A own ls b (plain.part s e i) = edits A own ls false e
  edits A own ls b (plain.deref s e) = edits A own ls false e
  edits A own ls b (plain.negate s e) = edits A own ls false e
  edits A own ls b (plain.invert s e) = edits A own ls false e
  edits A own ls b (plain.borrow s m e) = edits A own ls false e
  edits A own ls b (plain.binary s o e f) = edits A own ls false e ++ edits A own ls false f
  edits A own ls b (plain.assign s e f) = edits A own ls false e ++ edits A own ls false f
  edits A own ls b (plain.update s o e f) = edits A own ls false e ++ edits A own ls false f
  edits A own ls b (plain.call s f es) = all_edits A own ls es
  edits A own ls b (plain.next_input s) = []
  edits A own ls b (plain.variant s a v es) = argument_edits A own ls es
  edits A own ls b (plain.make s x fs) = field_edits A own ls fs
  edits A own ls b (plain.print s e) = edits A own ls false e
  edits A own ls b (plain.block s c) = body_edits A own ls c
  edits A own ls b (plain.if s c d o) = edits A own ls false c ++ (body_edits A own ls d ++ optional_edits A own ls o)
  edits A own ls b (plain.if_let s p e d o) =
      edits A own ls false e ++ (body_edits A (bound p ++ own) ls d ++ optional_edits A own ls o)
  edits A own ls b (plain.match s e as') = edits A own ls false e ++ arm_edits A own ls as'
  edits A own ls b (plain.loop s l d) = body_edits A own (a_loop l 0 ∷ ls) d
  edits A own ls b (plain.while s l c d) =
      edits A own (a_test ∷ a_loop l 0 ∷ ls) false c ++ body_edits A own (a_loop l 0 ∷ ls) d
  edits A own ls b (plain.while_let s l p e d) =
      edits A own (a_test ∷ a_loop l 0 ∷ ls) false e ++ body_edits A (bound p ++ own) (a_loop l 0 ∷ ls) d
  edits A own ls b (plain.break s l) = A.at_break ls s l
  edits A own ls b (plain.continue s l) = A.at_continue ls s l
  edits A own ls b (plain.return s o) = return_edits A own ls s o

  pub return_edits : EditsAt → Names → List Around → Span → OptionalExpression → List Edit
  return_edits A own ls s plain.absent = A.at_return s
  return_edits A own ls s (plain.present e) = A.at_return_with s (edits A own ls false e)

  pub all_edits : EditsAt → Names → List Around → Expressions → List Edit
  all_edits A own ls plain.no_expression = []
  all_edits A own ls (plain.expression_and e es) = edits A own ls false e ++ all_edits A own ls es

  pub optional_edits : EditsAt → Names → List Around → OptionalExpression → List Edit
  optional_edits A own ls plain.absent = []
  optional_edits A own ls (plain.present e) = edits A own ls false e

  pub argument_edits : EditsAt → Names → List Around → OptionalExpressions → List Edit
  argument_edits A own ls plain.no_list = []
  argument_edits A own ls (plain.a_list es) = all_edits A own ls es

  pub field_edits : EditsAt → Names → List Around → FieldExpressions → List Edit
  field_edits A own ls plain.no_field = []
  field_edits A own ls (plain.field_and x e fs) = edits A own ls (is_short x e) e ++ field_edits A own ls fs

  pub arm_edits : EditsAt → Names → List Around → Arms → List Edit
  arm_edits A own ls plain.no_arm = []
  arm_edits A own ls (plain.arm_and p e rest) = edits A (bound p ++ own) ls false e ++ arm_edits A own ls rest

  pub body_edits : EditsAt → Names → List Around → Body → List Edit
  body_edits A own ls (plain.body s ss o) = all_statement_edits A own ls ss ++ optional_edits A (behind_all own ss) ls o

  pub statement_edits : EditsAt → Names → List Around → Statement → List Edit
  statement_edits A own ls (plain.let_statement s p y o) = A.at_let p y ++ optional_edits A own ls o
  statement_edits A own ls (plain.expression_statement s e b) = edits A own ls false e

  pub all_statement_edits : EditsAt → Names → List Around → Statements → List Edit
  all_statement_edits A own ls plain.no_statement = []
  all_statement_edits A own ls (plain.statement_and a ss) = statement_edits A own ls a ++ all_statement_edits A (bound_by a ++ own) ls ss
