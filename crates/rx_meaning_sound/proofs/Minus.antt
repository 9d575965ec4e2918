-- A literal with the flag that it stands directly under a minus stands there, in each tree with numbers.
use Rattle.std.proofs.Common.{◌≡◌, ℕ, Bool, true, false, List, Option, Some, None, refl}
use Rattle.rx_core.specs.declared.types.Span.{Span}
use Rattle.rx_tree.specs.Plain as plain
use Rattle.rx_tree.specs.Plain.{Expression, Expressions, OptionalExpression, OptionalExpressions, FieldExpressions, PatternTree}
use Rattle.rx_resolve_names.specs.declared.resolved.NodeNames.{NodeNames}
use Rattle.rx_typed.specs.declared.nodes.Site.{Site}
use Rattle.rx_typed.specs.Named as named
use Rattle.rx_typed.specs.Named.{Exp, Exps, Else, Fields, Arms, Body, Statement, Statements, root}
use Rattle.rx_typed.specs.Naming as numbering
use Rattle.rx_typed.specs.Naming.{Cursor, Numbering, passed_on, initialiser_site, function_named}

-- whether it stands directly under a minus
abbrev mutual
  pub Signed : Bool → Exp → Type 0
  Signed b (named.int n m v k) = m ≡ true → b ≡ true
  Signed b (named.bool n c) = Unit {0}
  Signed b (named.tuple n es) = EachSigned es
  Signed b (named.var n x) = Unit {0}
  Signed b (named.field n e x) = Signed false e
  Signed b (named.part n e i) = Signed false e
  Signed b (named.deref n e) = Signed false e
  Signed b (named.negate n e) = Signed true e
  Signed b (named.invert n e) = Signed false e
  Signed b (named.borrow n m e) = Signed false e
  Signed b (named.binary n o x y) = Signed false x × Signed false y
  Signed b (named.assign n p e) = Signed false p × Signed false e
  Signed b (named.gives n p x d e) = Signed false e
  Signed b (named.update n o p e) = Signed false p × Signed false e
  Signed b (named.call n f es) = EachSigned es
  Signed b (named.hidden_call n es) = EachSigned es
  Signed b (named.next_input n) = Unit {0}
  Signed b (named.variant n i v es) = EachSigned es
  Signed b (named.make n i fs) = FieldsSigned fs
  Signed b (named.print n e) = Signed false e
  Signed b (named.block n c) = BodySigned c
  Signed b (named.if n x c o) = Signed false x × BodySigned c × ElseSigned o
  Signed b (named.if_let n p e c o) = Signed false e × BodySigned c × ElseSigned o
  Signed b (named.match n e l) = Signed false e × ArmsSigned l
  Signed b (named.loop n l k c) = BodySigned c
  Signed b (named.while n l x c) = Signed false x × BodySigned c
  Signed b (named.while_let n l p e c) = Signed false e × BodySigned c
  Signed b (named.break n l) = Unit {0}
  Signed b (named.continue n l) = Unit {0}
  Signed b (named.return n o) = ElseSigned o

  pub EachSigned : Exps → Type 0
  EachSigned named.no_exp = Unit {0}
  EachSigned (named.exp_and e es) = Signed false e × EachSigned es

  pub ElseSigned : Else → Type 0
  ElseSigned named.absent = Unit {0}
  ElseSigned (named.present e) = Signed false e

  pub FieldsSigned : Fields → Type 0
  FieldsSigned named.no_field = Unit {0}
  FieldsSigned (named.field_and x e fs) = Signed false e × FieldsSigned fs

  pub ArmsSigned : Arms → Type 0
  ArmsSigned named.no_arm = Unit {0}
  ArmsSigned (named.arm_and p e l) = Signed false e × ArmsSigned l

  pub BodySigned : Body → Type 0
  BodySigned (named.body n ss o) = StatementsSigned ss × ElseSigned o

  pub StatementSigned : Statement → Type 0
  StatementSigned (named.declares n p y) = Unit {0}
  StatementSigned (named.lets n p y e) = Signed false e
  StatementSigned (named.evaluates n e s) = Signed false e

  pub StatementsSigned : Statements → Type 0
  StatementsSigned named.no_statement = Unit {0}
  StatementsSigned (named.statement_and a ss) = StatementSigned a × StatementsSigned ss

-- ---- as they are numbered

abbrev IsSigned : Expression → Type 0
IsSigned e = (m : Bool) (t : Site) (c : Cursor) → Signed m (numbering.of_expression m t e c).0

called_signed : (s : Span) (t : Site) (b : Bool) (c d : Cursor) (a : List ℕ × Bool) (f : Site → Numbering Exps) → ((t : Site) (c : Cursor) → EachSigned (f t c).0) → Signed b (numbering.called (numbering.a_node s t c).0 a f d).0
called_signed s t b c d (ns, true) f h = h Site.Value d
called_signed s t b c d (ns, false) f h = h Site.Expects d

assigned_signed : (s : Span) (t : Site) (b : Bool) (c d : Cursor) (p : Exp) (w : Option (ℕ × ℕ)) (f : Site → Numbering Exp) → Signed false p → ((t : Site) (c : Cursor) → Signed false (f t c).0) → Signed b (numbering.assigned (numbering.a_node s t c).0 p w f d).0
assigned_signed s t b c d p None f h g = (h, g Site.Expects d)
assigned_signed s t b c d p (Some w) f h g = g Site.Reborrows d

-- where the text has come to behind a part
abbrev on_node : Span → Site → Cursor → Cursor
on_node s t c = (numbering.a_node s t c).1

abbrev on_entry : Cursor → Cursor
on_entry c = (numbering.an_entry c).1

abbrev on_exp : Bool → Site → Expression → Cursor → Cursor
on_exp m t e c = (numbering.of_expression m t e c).1

abbrev on_pattern : PatternTree → Cursor → Cursor
on_pattern p c = (numbering.of_pattern p c).1

-- behind a pattern and what it is matched with
abbrev on_known : Cursor → Cursor → Cursor → Cursor
on_known c d e = (numbering.known_between c.declared d.declared e).1

mutual
  exp_signed : (e : Expression) → IsSigned e
  exp_signed (plain.int s v k) m t c = λ q. q
  exp_signed (plain.bool s b) m t c = tt
  exp_signed (plain.tuple s es) m t c = each_signed es Site.Value (on_node s t c)
  exp_signed (plain.var s x) m t c = tt
  exp_signed (plain.field s e x) m t c = exp_signed e false Site.Place (on_node s t c)
  exp_signed (plain.part s e i) m t c = exp_signed e false Site.Place (on_node s t c)
  exp_signed (plain.deref s e) m t c = exp_signed e false Site.Place (on_node s t c)
  exp_signed (plain.negate s e) m t c = exp_signed e true Site.Value (on_node s t c)
  exp_signed (plain.invert s e) m t c = exp_signed e false Site.Value (on_node s t c)
  exp_signed (plain.borrow s w e) m t c = exp_signed e false Site.Place (on_node s t c)
  exp_signed (plain.binary s o a b) m t c = (exp_signed a false Site.Value (on_node s t c), exp_signed b false Site.Value (on_exp false Site.Value a (on_node s t c)))
  exp_signed (plain.assign s p e) m t c =
      let c1 = on_node s t c in let q = (numbering.of_expression false Site.Place p c1).0 in let c2 = on_exp false Site.Place p c1 in
      assigned_signed s t m c c2 q (numbering.waits_in p (root q).number c2) (λ t. numbering.of_expression false t e) (exp_signed p false Site.Place c1) (λ t c. exp_signed e false t c)
  exp_signed (plain.update s o p e) m t c = (exp_signed p false Site.Place (on_node s t c), exp_signed e false Site.Value (on_exp false Site.Place p (on_node s t c)))
  exp_signed (plain.call s f es) m t c =
      called_signed s t m c (on_entry (on_node s t c)) (numbering.an_entry (on_node s t c)).0 (λ t. numbering.of_expressions t es) (λ t c. each_signed es t c)
  exp_signed (plain.next_input s) m t c = tt
  exp_signed (plain.variant s a v es) m t c = arguments_signed es (on_entry (on_node s t c))
  exp_signed (plain.make s x fs) m t c = fields_signed fs (on_entry (on_node s t c))
  exp_signed (plain.print s e) m t c = exp_signed e false Site.Value (on_node s t c)
  exp_signed (plain.block s b) m t c = body_signed b (passed_on t) (on_node s t c)
  exp_signed (plain.if s x b o) m t c =
      let c1 = on_node s t c in let c2 = on_exp false Site.Value x c1 in let z = numbering.of_body (numbering.branch_site t o) b c2 in
      (exp_signed x false Site.Value c1, body_signed b (numbering.branch_site t o) c2, optional_signed o (passed_on t) z.1)
  exp_signed (plain.if_let s p e b o) m t c =
      let c1 = on_node s t c in let c2 = on_pattern p c1 in let c3 = on_known c1 c2 (on_exp false Site.Scrutinee e c2) in let z = numbering.of_body (numbering.branch_site t o) b c3 in
      (exp_signed e false Site.Scrutinee c2, body_signed b (numbering.branch_site t o) c3, optional_signed o (passed_on t) z.1)
  exp_signed (plain.match s e l) m t c = (exp_signed e false Site.Scrutinee (on_node s t c), arms_signed l (passed_on t) (on_exp false Site.Scrutinee e (on_node s t c)))
  exp_signed (plain.loop s l b) m t c = body_signed b Site.Value (numbering.a_loop (on_node s t c)).1
  exp_signed (plain.while s l x b) m t c =
      let c1 = (numbering.a_loop (on_node s t c)).1 in (exp_signed x false Site.Value c1, body_signed b Site.Value (on_exp false Site.Value x c1))
  exp_signed (plain.while_let s l p e b) m t c =
      let c1 = (numbering.a_loop (on_node s t c)).1 in let c2 = on_pattern p c1 in
      (exp_signed e false Site.Scrutinee c2, body_signed b Site.Value (on_known c1 c2 (on_exp false Site.Scrutinee e c2)))
  exp_signed (plain.break s l) m t c = tt
  exp_signed (plain.continue s l) m t c = tt
  exp_signed (plain.return s o) m t c = optional_signed o Site.Expects (on_node s t c)

  each_signed : (es : Expressions) (t : Site) (c : Cursor) → EachSigned (numbering.of_expressions t es c).0
  each_signed plain.no_expression t c = tt
  each_signed (plain.expression_and e es) t c = (exp_signed e false t c, each_signed es t (on_exp false t e c))

  optional_signed : (o : OptionalExpression) (t : Site) (c : Cursor) → ElseSigned (numbering.of_optional t o c).0
  optional_signed plain.absent t c = tt
  optional_signed (plain.present e) t c = exp_signed e false t c

  arguments_signed : (es : OptionalExpressions) (c : Cursor) → EachSigned (numbering.of_arguments es c).0
  arguments_signed plain.no_list c = tt
  arguments_signed (plain.a_list es) c = each_signed es Site.Expects c

  fields_signed : (fs : FieldExpressions) (c : Cursor) → FieldsSigned (numbering.of_fields fs c).0
  fields_signed plain.no_field c = tt
  fields_signed (plain.field_and x e fs) c = (exp_signed e false Site.Expects c, fields_signed fs (on_exp false Site.Expects e c))

  arms_signed : (l : plain.Arms) (t : Site) (c : Cursor) → ArmsSigned (numbering.of_arms t l c).0
  arms_signed plain.no_arm t c = tt
  arms_signed (plain.arm_and p e l) t c = let c1 = on_known c (on_pattern p c) (on_pattern p c) in (exp_signed e false t c1, arms_signed l t (on_exp false t e c1))

  body_signed : (b : plain.Body) (t : Site) (c : Cursor) → BodySigned (numbering.of_body t b c).0
  body_signed (plain.body s ss o) t c =
      let c1 = on_node s t c in (statements_signed ss c1, optional_signed o t (numbering.of_statements ss c1).1)

  statements_signed : (ss : plain.Statements) (c : Cursor) → StatementsSigned (numbering.of_statements ss c).0
  statements_signed plain.no_statement c = tt
  statements_signed (plain.statement_and a ss) c = (statement_signed a c, statements_signed ss (numbering.of_statement a c).1)

  statement_signed : (a : plain.Statement) (c : Cursor) → StatementSigned (numbering.of_statement a c).0
  statement_signed (plain.let_statement s p y plain.absent) c = tt
  statement_signed (plain.let_statement s p y (plain.present e)) c =
      let z = numbering.of_optional_type y (on_pattern p (numbering.annotates p y (on_node s Site.Value c)).1) in exp_signed e false (initialiser_site z.0) z.1
  statement_signed (plain.expression_statement s e b) c = exp_signed e false Site.Value (on_node s Site.Value c)

pub function_signed : (i : ℕ) (s : Span) (f : plain.Function) (ns : List NodeNames) → BodySigned (function_named i s f ns).body
function_signed i s f ns =
    let c1 = (numbering.entry_if (numbering.has_entry f) (on_node s Site.Value (numbering.begins ns))).1 in
    body_signed f.body Site.Expects (numbering.of_optional_type f.result (numbering.of_parameters f.params c1).1).1
