-- What a part of a text names that it doesn't bind itself, and where it jumps beyond its own loops, in the order of the text (Rust
-- Reference, "Scopes", "Loop labels"). Names of callees are no variables and are left out.
use Rattle.std.specs.Prelude.{ℕ, Bool, true, false, List, [], ◌∷◌, ◌++◌, Option, Some, None}
use Rattle.rx_tree.specs.declared.tree.Ident.{Ident}
use Rattle.rx_tree.specs.Plain as plain
use Rattle.rx_tree.specs.Plain.{Expression, Expressions, OptionalExpression, OptionalExpressions, FieldExpressions, Arms, Body, Statement, Statements}
use Rattle.rx_resolve_names.specs.Meant.{Around, a_loop, a_test}
use Rattle.rx_hoist_extraction.specs.Names.{behind_all, bound, bound_by, is_among, Names}
use Rattle.rx_hoist_extraction.specs.Run.{as_statements, numbered, Parts}
use Rattle.rx_hoist_extraction.specs.Moved.{leaves}

pub data Outer : Type 0 where
  a_name : List ℕ → Outer
  -- with its label, to loop k round the part, 0 the innermost
  a_break : Option Ident → ℕ → Outer
  a_continue : Option Ident → ℕ → Outer

abbrev pub name_unless : Bool → List ℕ → List Outer
name_unless true x = []
name_unless false x = a_name x ∷ []

abbrev pub break_if : Option Ident → Option ℕ → List Outer
break_if l None = []
break_if l (Some k) = a_break l k ∷ []

abbrev pub continue_if : Option Ident → Option ℕ → List Outer
continue_if l None = []
continue_if l (Some k) = a_continue l k ∷ []

abbrev mutual
  pub outside : Names → List Around → Expression → List Outer
  outside own ls (plain.int s v k) = []
  outside own ls (plain.bool s b) = []
  outside own ls (plain.tuple s es) = outside_all own ls es
  outside own ls (plain.var s x) = name_unless (is_among x own) x
  outside own ls (plain.field s e x) = outside own ls e
  outside own ls (plain.part s e i) = outside own ls e
  outside own ls (plain.deref s e) = outside own ls e
  outside own ls (plain.negate s e) = outside own ls e
  outside own ls (plain.invert s e) = outside own ls e
  outside own ls (plain.borrow s m e) = outside own ls e
  outside own ls (plain.binary s o a b) = outside own ls a ++ outside own ls b
  outside own ls (plain.assign s a b) = outside own ls a ++ outside own ls b
  outside own ls (plain.update s o a b) = outside own ls a ++ outside own ls b
  outside own ls (plain.call s f es) = outside_all own ls es
  outside own ls (plain.next_input s) = []
  outside own ls (plain.variant s a v es) = outside_arguments own ls es
  outside own ls (plain.make s x fs) = outside_fields own ls fs
  outside own ls (plain.print s e) = outside own ls e
  outside own ls (plain.block s b) = outside_body own ls b
  outside own ls (plain.if s c b o) = outside own ls c ++ (outside_body own ls b ++ outside_optional own ls o)
  outside own ls (plain.if_let s p e b o) = outside own ls e ++ (outside_body (bound p ++ own) ls b ++ outside_optional own ls o)
  outside own ls (plain.match s e l) = outside own ls e ++ outside_arms own ls l
  outside own ls (plain.loop s l b) = outside_body own (a_loop l 0 ∷ ls) b
  outside own ls (plain.while s l c b) = outside own (a_test ∷ a_loop l 0 ∷ ls) c ++ outside_body own (a_loop l 0 ∷ ls) b
  outside own ls (plain.while_let s l p e b) = outside own (a_test ∷ a_loop l 0 ∷ ls) e ++ outside_body (bound p ++ own) (a_loop l 0 ∷ ls) b
  outside own ls (plain.break s l) = break_if l (leaves l ls)
  outside own ls (plain.continue s l) = continue_if l (leaves l ls)
  outside own ls (plain.return s o) = outside_optional own ls o

  pub outside_all : Names → List Around → Expressions → List Outer
  outside_all own ls plain.no_expression = []
  outside_all own ls (plain.expression_and e es) = outside own ls e ++ outside_all own ls es

  pub outside_optional : Names → List Around → OptionalExpression → List Outer
  outside_optional own ls plain.absent = []
  outside_optional own ls (plain.present e) = outside own ls e

  pub outside_arguments : Names → List Around → OptionalExpressions → List Outer
  outside_arguments own ls plain.no_list = []
  outside_arguments own ls (plain.a_list es) = outside_all own ls es

  pub outside_fields : Names → List Around → FieldExpressions → List Outer
  outside_fields own ls plain.no_field = []
  outside_fields own ls (plain.field_and x e fs) = outside own ls e ++ outside_fields own ls fs

  pub outside_arms : Names → List Around → Arms → List Outer
  outside_arms own ls plain.no_arm = []
  outside_arms own ls (plain.arm_and p e l) = outside (bound p ++ own) ls e ++ outside_arms own ls l

  pub outside_body : Names → List Around → Body → List Outer
  outside_body own ls (plain.body s ss o) = outside_statements own ls ss ++ outside_optional (behind_all own ss) ls o

  pub outside_statement : Names → List Around → Statement → List Outer
  outside_statement own ls (plain.let_statement s p y o) = outside_optional own ls o
  outside_statement own ls (plain.expression_statement s e b) = outside own ls e

  pub outside_statements : Names → List Around → Statements → List Outer
  outside_statements own ls plain.no_statement = []
  outside_statements own ls (plain.statement_and a ss) = outside_statement own ls a ++ outside_statements (bound_by a ++ own) ls ss

-- of statements and a tail, round which loops with these labels stand, the innermost first
abbrev pub outside_of : List (Option Ident) → Parts → List Outer
outside_of labels p = outside_statements [] (numbered 1 labels) (as_statements p.statements) ++ outside_optional (behind_all [] (as_statements p.statements)) (numbered 1 labels) p.tail
