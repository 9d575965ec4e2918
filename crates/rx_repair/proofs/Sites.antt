-- Where the parts of a tree with numbers stand: what its numbering says of the place of each (Rust Reference, "Coercion sites").
use Rattle.std.proofs.Common.{◌≡◌, ℕ, Bool, true, false, List, Option, Some, None, refl}
use Rattle.rx_core.specs.declared.types.Span.{Span}
use Rattle.rx_tree.specs.Plain as plain
use Rattle.rx_tree.specs.Plain.{Expression, Expressions, OptionalExpression, OptionalExpressions, FieldExpressions, TypeTree, PatternTree}
use Rattle.rx_resolve_names.specs.declared.resolved.NodeNames.{NodeNames}
use Rattle.rx_typed.specs.declared.nodes.Site.{Site}
use Rattle.rx_typed.specs.Named as named
use Rattle.rx_typed.specs.Named.{Written, Exp, Exps, Else, Fields, Arms, Body, Statement, Statements, Function, node_of, body_node, root}
use Rattle.rx_typed.specs.Naming as numbering
use Rattle.rx_typed.specs.Naming.{Cursor, Numbering, passed_on, initialiser_site, function_named}

-- a branch without `else` is none
abbrev pub branch_site : Site → Else → Site
branch_site t named.absent = Site.Value
branch_site t (named.present e) = passed_on t

abbrev mutual
  pub Sited : Exp → Type 0
  Sited (named.int n m v k) = Unit {0}
  Sited (named.bool n b) = Unit {0}
  Sited (named.tuple n es) = EachSited Site.Value es
  Sited (named.var n x) = Unit {0}
  Sited (named.field n e x) = Sited e × ((node_of e).site ≡ Site.Place)
  Sited (named.part n e i) = Sited e × ((node_of e).site ≡ Site.Place)
  Sited (named.deref n e) = Sited e × ((node_of e).site ≡ Site.Place)
  Sited (named.negate n e) = Sited e × ((node_of e).site ≡ Site.Value)
  Sited (named.invert n e) = Sited e × ((node_of e).site ≡ Site.Value)
  Sited (named.borrow n m e) = Sited e × ((node_of e).site ≡ Site.Place)
  Sited (named.binary n o a b) = (Sited a × ((node_of a).site ≡ Site.Value)) × (Sited b × ((node_of b).site ≡ Site.Value))
  Sited (named.assign n p e) = (Sited p × ((node_of p).site ≡ Site.Place)) × (Sited e × ((node_of e).site ≡ Site.Expects))
  Sited (named.gives n p x d e) = Sited e × ((node_of e).site ≡ Site.Reborrows)
  Sited (named.update n o p e) = (Sited p × ((node_of p).site ≡ Site.Place)) × (Sited e × ((node_of e).site ≡ Site.Value))
  Sited (named.call n f es) = EachSited Site.Expects es
  Sited (named.hidden_call n es) = EachSited Site.Value es
  Sited (named.next_input n) = Unit {0}
  Sited (named.variant n i v es) = EachSited Site.Expects es
  Sited (named.make n i fs) = FieldsSited fs
  Sited (named.print n e) = Sited e × ((node_of e).site ≡ Site.Value)
  Sited (named.block n b) = BodySited (passed_on n.site) b
  Sited (named.if n c b o) = (Sited c × ((node_of c).site ≡ Site.Value)) × BodySited (branch_site n.site o) b × ElseSited (passed_on n.site) o
  Sited (named.if_let n p e b o) = (Sited e × ((node_of e).site ≡ Site.Scrutinee)) × BodySited (branch_site n.site o) b × ElseSited (passed_on n.site) o
  Sited (named.match n e l) = (Sited e × ((node_of e).site ≡ Site.Scrutinee)) × ArmsSited (passed_on n.site) l
  Sited (named.loop n l k b) = BodySited Site.Value b
  Sited (named.while n l c b) = (Sited c × ((node_of c).site ≡ Site.Value)) × BodySited Site.Value b
  Sited (named.while_let n l p e b) = (Sited e × ((node_of e).site ≡ Site.Scrutinee)) × BodySited Site.Value b
  Sited (named.break n l) = Unit {0}
  Sited (named.continue n l) = Unit {0}
  Sited (named.return n o) = ElseSited Site.Expects o

  pub EachSited : Site → Exps → Type 0
  EachSited t named.no_exp = Unit {0}
  EachSited t (named.exp_and e es) = (Sited e × ((node_of e).site ≡ t)) × EachSited t es

  pub ElseSited : Site → Else → Type 0
  ElseSited t named.absent = Unit {0}
  ElseSited t (named.present e) = Sited e × ((node_of e).site ≡ t)

  pub FieldsSited : Fields → Type 0
  FieldsSited named.no_field = Unit {0}
  FieldsSited (named.field_and x e fs) = (Sited e × ((node_of e).site ≡ Site.Expects)) × FieldsSited fs

  pub ArmsSited : Site → Arms → Type 0
  ArmsSited t named.no_arm = Unit {0}
  ArmsSited t (named.arm_and p e l) = (Sited e × ((node_of e).site ≡ t)) × ArmsSited t l

  pub BodySited : Site → Body → Type 0
  BodySited t (named.body n ss o) = (n.site ≡ t) × StatementsSited ss × ElseSited t o

  pub StatementSited : Statement → Type 0
  StatementSited (named.declares n p y) = Unit {0}
  StatementSited (named.lets n p y e) = Sited e × ((node_of e).site ≡ initialiser_site y)
  StatementSited (named.evaluates n e s) = Sited e × ((node_of e).site ≡ Site.Value)

  pub StatementsSited : Statements → Type 0
  StatementsSited named.no_statement = Unit {0}
  StatementsSited (named.statement_and a ss) = StatementSited a × StatementsSited ss

-- ---- as they are numbered

abbrev At : Site → Exp → Type 0
At t e = Sited e × ((node_of e).site ≡ t)

abbrev IsSited : Expression → Type 0
IsSited e = (m : Bool) (t : Site) (c : Cursor) → At t (numbering.of_expression m t e c).0

called_sited : (s : Span) (t : Site) (c d : Cursor) (a : List ℕ × Bool) (f : Site → Numbering Exps) → ((t : Site) (c : Cursor) → EachSited t (f t c).0) → At t (numbering.called (numbering.a_node s t c).0 a f d).0
called_sited s t c d (ns, true) f h = (h Site.Value d, refl)
called_sited s t c d (ns, false) f h = (h Site.Expects d, refl)

assigned_sited : (s : Span) (t : Site) (c d : Cursor) (p : Exp) (w : Option (ℕ × ℕ)) (f : Site → Numbering Exp) → At Site.Place p → ((t : Site) (c : Cursor) → At t (f t c).0) → At t (numbering.assigned (numbering.a_node s t c).0 p w f d).0
assigned_sited s t c d p None f h g = ((h, g Site.Expects d), refl)
assigned_sited s t c d p (Some w) f h g = (g Site.Reborrows d, refl)

-- where the text has come to behind a part
abbrev on_node : Span → Site → Cursor → Cursor
on_node s t c = (numbering.a_node s t c).1

abbrev on_entry : Cursor → Cursor
on_entry c = (numbering.an_entry c).1

abbrev on_exp : Bool → Site → Expression → Cursor → Cursor
on_exp m t e c = (numbering.of_expression m t e c).1

abbrev on_pattern : PatternTree → Cursor → Cursor
on_pattern p c = (numbering.of_pattern p c).1

-- behind a pattern and what it is matched with
abbrev on_known : Cursor → Cursor → Cursor → Cursor
on_known c d e = (numbering.known_between c.declared d.declared e).1

-- the same of a branch in the syntax tree and in the one with numbers
branch_at : (t : Site) (o : OptionalExpression) (c : Cursor) (b : Body) → BodySited (numbering.branch_site t o) b → BodySited (branch_site t (numbering.of_optional (passed_on t) o c).0) b
branch_at t plain.absent c b h = h
branch_at t (plain.present e) c b h = h

mutual
  exp_sited : (e : Expression) → IsSited e
  exp_sited (plain.int s v k) m t c = (tt, refl)
  exp_sited (plain.bool s b) m t c = (tt, refl)
  exp_sited (plain.tuple s es) m t c = (each_sited es Site.Value (on_node s t c), refl)
  exp_sited (plain.var s x) m t c = (tt, refl)
  exp_sited (plain.field s e x) m t c = (exp_sited e false Site.Place (on_node s t c), refl)
  exp_sited (plain.part s e i) m t c = (exp_sited e false Site.Place (on_node s t c), refl)
  exp_sited (plain.deref s e) m t c = (exp_sited e false Site.Place (on_node s t c), refl)
  exp_sited (plain.negate s e) m t c = (exp_sited e true Site.Value (on_node s t c), refl)
  exp_sited (plain.invert s e) m t c = (exp_sited e false Site.Value (on_node s t c), refl)
  exp_sited (plain.borrow s w e) m t c = (exp_sited e false Site.Place (on_node s t c), refl)
  exp_sited (plain.binary s o a b) m t c = ((exp_sited a false Site.Value (on_node s t c), exp_sited b false Site.Value (on_exp false Site.Value a (on_node s t c))), refl)
  exp_sited (plain.assign s p e) m t c =
      let c1 = on_node s t c in let q = (numbering.of_expression false Site.Place p c1).0 in let c2 = on_exp false Site.Place p c1 in
      assigned_sited s t c c2 q (numbering.waits_in p (root q).number c2) (λ t. numbering.of_expression false t e) (exp_sited p false Site.Place c1) (λ t c. exp_sited e false t c)
  exp_sited (plain.update s o p e) m t c = ((exp_sited p false Site.Place (on_node s t c), exp_sited e false Site.Value (on_exp false Site.Place p (on_node s t c))), refl)
  exp_sited (plain.call s f es) m t c =
      called_sited s t c (on_entry (on_node s t c)) (numbering.an_entry (on_node s t c)).0 (λ t. numbering.of_expressions t es) (λ t c. each_sited es t c)
  exp_sited (plain.next_input s) m t c = (tt, refl)
  exp_sited (plain.variant s a v es) m t c = (arguments_sited es (on_entry (on_node s t c)), refl)
  exp_sited (plain.make s x fs) m t c = (fields_sited fs (on_entry (on_node s t c)), refl)
  exp_sited (plain.print s e) m t c = (exp_sited e false Site.Value (on_node s t c), refl)
  exp_sited (plain.block s b) m t c = (body_sited b (passed_on t) (on_node s t c), refl)
  exp_sited (plain.if s x b o) m t c =
      let c1 = on_node s t c in let c2 = on_exp false Site.Value x c1 in let z = numbering.of_body (numbering.branch_site t o) b c2 in
      ((exp_sited x false Site.Value c1, branch_at t o z.1 z.0 (body_sited b (numbering.branch_site t o) c2), optional_sited o (passed_on t) z.1), refl)
  exp_sited (plain.if_let s p e b o) m t c =
      let c1 = on_node s t c in let c2 = on_pattern p c1 in let c3 = on_known c1 c2 (on_exp false Site.Scrutinee e c2) in let z = numbering.of_body (numbering.branch_site t o) b c3 in
      ((exp_sited e false Site.Scrutinee c2, branch_at t o z.1 z.0 (body_sited b (numbering.branch_site t o) c3), optional_sited o (passed_on t) z.1), refl)
  exp_sited (plain.match s e l) m t c = ((exp_sited e false Site.Scrutinee (on_node s t c), arms_sited l (passed_on t) (on_exp false Site.Scrutinee e (on_node s t c))), refl)
  exp_sited (plain.loop s l b) m t c = (body_sited b Site.Value (numbering.a_loop (on_node s t c)).1, refl)
  exp_sited (plain.while s l x b) m t c =
      let c1 = (numbering.a_loop (on_node s t c)).1 in ((exp_sited x false Site.Value c1, body_sited b Site.Value (on_exp false Site.Value x c1)), refl)
  exp_sited (plain.while_let s l p e b) m t c =
      let c1 = (numbering.a_loop (on_node s t c)).1 in let c2 = on_pattern p c1 in
      ((exp_sited e false Site.Scrutinee c2, body_sited b Site.Value (on_known c1 c2 (on_exp false Site.Scrutinee e c2))), refl)
  exp_sited (plain.break s l) m t c = (tt, refl)
  exp_sited (plain.continue s l) m t c = (tt, refl)
  exp_sited (plain.return s o) m t c = (optional_sited o Site.Expects (on_node s t c), refl)

  each_sited : (es : Expressions) (t : Site) (c : Cursor) → EachSited t (numbering.of_expressions t es c).0
  each_sited plain.no_expression t c = tt
  each_sited (plain.expression_and e es) t c = (exp_sited e false t c, each_sited es t (on_exp false t e c))

  optional_sited : (o : OptionalExpression) (t : Site) (c : Cursor) → ElseSited t (numbering.of_optional t o c).0
  optional_sited plain.absent t c = tt
  optional_sited (plain.present e) t c = exp_sited e false t c

  arguments_sited : (es : OptionalExpressions) (c : Cursor) → EachSited Site.Expects (numbering.of_arguments es c).0
  arguments_sited plain.no_list c = tt
  arguments_sited (plain.a_list es) c = each_sited es Site.Expects c

  fields_sited : (fs : FieldExpressions) (c : Cursor) → FieldsSited (numbering.of_fields fs c).0
  fields_sited plain.no_field c = tt
  fields_sited (plain.field_and x e fs) c = (exp_sited e false Site.Expects c, fields_sited fs (on_exp false Site.Expects e c))

  arms_sited : (l : plain.Arms) (t : Site) (c : Cursor) → ArmsSited t (numbering.of_arms t l c).0
  arms_sited plain.no_arm t c = tt
  arms_sited (plain.arm_and p e l) t c = let c1 = on_known c (on_pattern p c) (on_pattern p c) in (exp_sited e false t c1, arms_sited l t (on_exp false t e c1))

  body_sited : (b : plain.Body) (t : Site) (c : Cursor) → BodySited t (numbering.of_body t b c).0
  body_sited (plain.body s ss o) t c =
      let c1 = on_node s t c in (refl, statements_sited ss c1, optional_sited o t (numbering.of_statements ss c1).1)

  statements_sited : (ss : plain.Statements) (c : Cursor) → StatementsSited (numbering.of_statements ss c).0
  statements_sited plain.no_statement c = tt
  statements_sited (plain.statement_and a ss) c = (statement_sited a c, statements_sited ss (numbering.of_statement a c).1)

  statement_sited : (a : plain.Statement) (c : Cursor) → StatementSited (numbering.of_statement a c).0
  statement_sited (plain.let_statement s p y plain.absent) c = tt
  statement_sited (plain.let_statement s p y (plain.present e)) c =
      let z = numbering.of_optional_type y (on_pattern p (numbering.annotates p y (on_node s Site.Value c)).1) in exp_sited e false (initialiser_site z.0) z.1
  statement_sited (plain.expression_statement s e b) c = exp_sited e false Site.Value (on_node s Site.Value c)

pub function_sited : (i : ℕ) (s : Span) (f : plain.Function) (ns : List NodeNames) → BodySited Site.Expects (function_named i s f ns).body
function_sited i s f ns =
    let c1 = (numbering.entry_if (numbering.has_entry f) (on_node s Site.Value (numbering.begins ns))).1 in
    body_sited f.body Site.Expects (numbering.of_optional_type f.result (numbering.of_parameters f.params c1).1).1
