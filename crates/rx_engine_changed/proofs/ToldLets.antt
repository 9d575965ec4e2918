-- A part in which each `let` has its type written or a value that comes is quiet.
use Rattle.std.proofs.Common.{◌≡◌, ℕ, Bool, true, false, List, Option, Some, None, refl}
use Rattle.rx_tree.specs.Plain as plain
use Rattle.rx_typed.specs.declared.nodes.Node.{Node}
use Rattle.rx_typed.specs.declared.nodes.Site.{Site}
use Rattle.rx_typed.specs.Named as named
use Rattle.rx_typed.specs.Named.{never, Exp, Exps, Pattern}
use Rattle.rx_typed.specs.Naming as naming
use Rattle.rx_typed.specs.Naming.{Cursor, Numbering, a_node, an_entry, of_arguments, of_arms, of_body, of_expression, of_expressions, of_fields, of_optional, of_pattern, of_statement, of_statements}
use Rattle.rx_engine_changed.specs.Comes.{a_body, a_statement, an_expression, an_optional, arguments_at, assigned_at, behind, goes_in, some_arguments, some_arms, some_expressions, some_fields, some_statements, the_whole, waits_left, over, Comes, Part, Placed}
use Rattle.rx_engine_changed.specs.Deeds.{awaited_if, gives_type}
use Rattle.rx_engine_changed.specs.Deeds as deeds
use Rattle.rx_engine_changed.specs.Quiet.{deeds_of, IsQuiet, LetsAreTold}
use Rattle.rx_engine_changed.proofs.Quiet.{neither, pattern_quiet}

whole_quiet : (p : Exp) (n : ℕ) → (deeds.assigned p).awaits n ≡ false
whole_quiet (named.var k x) n = refl
whole_quiet _ n = refl

gives_quiet : (x : ℕ) (d : Option ℕ) (n : ℕ) → (gives_type x d).awaits n ≡ false
gives_quiet x None n = refl
gives_quiet x (Some p) n = refl

assigned_quiet : (k : Node) (p : Exp) (o : Option (ℕ × ℕ)) (f : Site → Numbering Exp) (c : Cursor) (n : ℕ) → (deeds.of_exp p).awaits n ≡ false → (deeds.of_exp (f (assigned_at o) c).0).awaits n ≡ false
    → (deeds.of_exp (naming.assigned k p o f c).0).awaits n ≡ false
assigned_quiet k p None f c n a b = neither a (neither (whole_quiet p n) b)
assigned_quiet k p (Some w) f c n a b = neither b (gives_quiet w.0 (naming.gives_here w.0 (f Site.Reborrows c).1).0 n)

called_quiet : (k : Node) (a : List ℕ × Bool) (f : Site → Numbering Exps) (c : Cursor) (n : ℕ) → (deeds.of_exps (f (arguments_at a.1) c).0).awaits n ≡ false → (deeds.of_exp (naming.called k a f c).0).awaits n ≡ false
called_quiet k (xs, true) f c n h = h
called_quiet k (xs, false) f c n h = h

told_quiet : (z : Bool) (p : Pattern) (n : ℕ) → z ≡ false → (awaited_if z p).awaits n ≡ false
told_quiet false p n e = refl
told_quiet true p n e = absurd (let h : true ≡ false = e in cc)

module _ (w : Placed) (told : LetsAreTold w) (n : ℕ) where
  mutual
    exp_quiet : (m : Bool) (t : Site) (e : plain.Expression) (c : Cursor) → Comes w (an_expression m t e) c → (deeds.of_exp (of_expression m t e c).0).awaits n ≡ false
    exp_quiet m t (plain.int s v k) c h = refl
    exp_quiet m t (plain.bool s b) c h = refl
    exp_quiet m t (plain.tuple s es) c h = exps_quiet Site.Value es _ (goes_in h 0 refl)
    exp_quiet m t (plain.var s x) c h = refl
    exp_quiet m t (plain.field s e x) c h = exp_quiet false Site.Place e _ (goes_in h 0 refl)
    exp_quiet m t (plain.part s e i) c h = exp_quiet false Site.Place e _ (goes_in h 0 refl)
    exp_quiet m t (plain.deref s e) c h = exp_quiet false Site.Place e _ (goes_in h 0 refl)
    exp_quiet m t (plain.negate s e) c h = exp_quiet true Site.Value e _ (goes_in h 0 refl)
    exp_quiet m t (plain.invert s e) c h = exp_quiet false Site.Value e _ (goes_in h 0 refl)
    exp_quiet m t (plain.borrow s b e) c h = exp_quiet false Site.Place e _ (goes_in h 0 refl)
    exp_quiet m t (plain.binary s o a b) c h = neither (exp_quiet false Site.Value a _ (goes_in h 0 refl)) (exp_quiet false Site.Value b _ (goes_in h 1 refl))
    exp_quiet m t (plain.assign s p e) c h =
        let d = behind s t c in
        assigned_quiet (a_node s t c).0 (of_expression false Site.Place p d).0 (waits_left p d) (λ u. of_expression false u e) (over false Site.Place p d) n
        (exp_quiet false Site.Place p d (goes_in h 0 refl)) (exp_quiet false (assigned_at (waits_left p d)) e (over false Site.Place p d) (goes_in h 1 refl))
    exp_quiet m t (plain.update s o p e) c h = neither (exp_quiet false Site.Place p _ (goes_in h 0 refl)) (exp_quiet false Site.Value e _ (goes_in h 1 refl))
    exp_quiet m t (plain.call s g es) c h =
        let d = behind s t c in called_quiet (a_node s t c).0 (an_entry d).0 (λ u. of_expressions u es) (an_entry d).1 n (exps_quiet (arguments_at (an_entry d).0.1) es _ (goes_in h 0 refl))
    exp_quiet m t (plain.next_input s) c h = refl
    exp_quiet m t (plain.variant s a v es) c h = arguments_quiet es _ (goes_in h 0 refl)
    exp_quiet m t (plain.make s x fs) c h = fields_quiet fs _ (goes_in h 0 refl)
    exp_quiet m t (plain.print s e) c h = exp_quiet false Site.Value e _ (goes_in h 0 refl)
    exp_quiet m t (plain.block s b) c h = body_quiet (naming.passed_on t) b _ (goes_in h 0 refl)
    exp_quiet m t (plain.if s e b o) c h = neither (neither (exp_quiet false Site.Value e _ (goes_in h 0 refl)) (body_quiet (naming.branch_site t o) b _ (goes_in h 1 refl))) (optional_quiet (naming.passed_on t) o _ (goes_in h 2 refl))
    exp_quiet m t (plain.if_let s p e b o) c h =
        neither (neither (neither (pattern_quiet (of_pattern p (behind s t c)).0 n) (exp_quiet false Site.Scrutinee e _ (goes_in h 0 refl))) (body_quiet (naming.branch_site t o) b _ (goes_in h 1 refl))) (optional_quiet (naming.passed_on t) o _ (goes_in h 2 refl))
    exp_quiet m t (plain.match s e l) c h = neither (exp_quiet false Site.Scrutinee e _ (goes_in h 0 refl)) (arms_quiet (naming.passed_on t) l _ (goes_in h 1 refl))
    exp_quiet m t (plain.loop s l b) c h = body_quiet Site.Value b _ (goes_in h 0 refl)
    exp_quiet m t (plain.while s l e b) c h = neither (exp_quiet false Site.Value e _ (goes_in h 0 refl)) (body_quiet Site.Value b _ (goes_in h 1 refl))
    exp_quiet m t (plain.while_let s l p e b) c h =
        neither (neither (pattern_quiet (of_pattern p (naming.a_loop (behind s t c)).1).0 n) (exp_quiet false Site.Scrutinee e _ (goes_in h 0 refl))) (body_quiet Site.Value b _ (goes_in h 1 refl))
    exp_quiet m t (plain.break s l) c h = refl
    exp_quiet m t (plain.continue s l) c h = refl
    exp_quiet m t (plain.return s o) c h = optional_quiet Site.Expects o _ (goes_in h 0 refl)

    exps_quiet : (t : Site) (es : plain.Expressions) (c : Cursor) → Comes w (some_expressions t es) c → (deeds.of_exps (of_expressions t es c).0).awaits n ≡ false
    exps_quiet t plain.no_expression c h = refl
    exps_quiet t (plain.expression_and e es) c h = neither (exp_quiet false t e c (goes_in h 0 refl)) (exps_quiet t es _ (goes_in h 1 refl))

    optional_quiet : (t : Site) (o : plain.OptionalExpression) (c : Cursor) → Comes w (an_optional t o) c → (deeds.of_else (of_optional t o c).0).awaits n ≡ false
    optional_quiet t plain.absent c h = refl
    optional_quiet t (plain.present e) c h = exp_quiet false t e c (goes_in h 0 refl)

    arguments_quiet : (o : plain.OptionalExpressions) (c : Cursor) → Comes w (some_arguments o) c → (deeds.of_exps (of_arguments o c).0).awaits n ≡ false
    arguments_quiet plain.no_list c h = refl
    arguments_quiet (plain.a_list es) c h = exps_quiet Site.Expects es c (goes_in h 0 refl)

    fields_quiet : (fs : plain.FieldExpressions) (c : Cursor) → Comes w (some_fields fs) c → (deeds.of_fields (of_fields fs c).0).awaits n ≡ false
    fields_quiet plain.no_field c h = refl
    fields_quiet (plain.field_and x e fs) c h = neither (exp_quiet false Site.Expects e c (goes_in h 0 refl)) (fields_quiet fs _ (goes_in h 1 refl))

    arms_quiet : (t : Site) (l : plain.Arms) (c : Cursor) → Comes w (some_arms t l) c → (deeds.of_arms (of_arms t l c).0).awaits n ≡ false
    arms_quiet t plain.no_arm c h = refl
    arms_quiet t (plain.arm_and p e l) c h = neither (neither (pattern_quiet (of_pattern p c).0 n) (exp_quiet false t e _ (goes_in h 0 refl))) (arms_quiet t l _ (goes_in h 1 refl))

    body_quiet : (t : Site) (b : plain.Body) (c : Cursor) → Comes w (a_body t b) c → (deeds.of_body (of_body t b c).0).awaits n ≡ false
    body_quiet t (plain.body s ss o) c h = neither (statements_quiet ss _ (goes_in h 0 refl)) (optional_quiet t o _ (goes_in h 1 refl))

    statements_quiet : (ss : plain.Statements) (c : Cursor) → Comes w (some_statements ss) c → (deeds.of_statements (of_statements ss c).0).awaits n ≡ false
    statements_quiet plain.no_statement c h = refl
    statements_quiet (plain.statement_and a ss) c h = neither (statement_quiet a c (goes_in h 0 refl)) (statements_quiet ss _ (goes_in h 1 refl))

    statement_quiet : (a : plain.Statement) (c : Cursor) → Comes w (a_statement a) c → (deeds.of_statement (of_statement a c).0).awaits n ≡ false
    statement_quiet (plain.let_statement s p None plain.absent) c h = absurd (told s p plain.absent c h)
    statement_quiet (plain.let_statement s p (Some y) plain.absent) c h = neither (pattern_quiet (of_pattern p (naming.annotates p (Some y) (behind s Site.Value c)).1).0 n) refl
    statement_quiet (plain.let_statement s p None (plain.present e)) c h =
        let P = of_pattern p (behind s Site.Value c) in let X = (of_expression false Site.Scrutinee e P.1).0 in
        neither (neither (pattern_quiet P.0 n) (exp_quiet false Site.Scrutinee e _ (goes_in h 0 refl))) (told_quiet (never X) P.0 n (told s p (plain.present e) c h))
    statement_quiet (plain.let_statement s p (Some y) (plain.present e)) c h =
        neither (neither (pattern_quiet (of_pattern p (naming.annotates p (Some y) (behind s Site.Value c)).1).0 n) (exp_quiet false Site.Initialises e _ (goes_in h 0 refl))) refl
    statement_quiet (plain.expression_statement s e b) c h = exp_quiet false Site.Value e _ (goes_in h 0 refl)

  part_quiet : (x : Part) (c : Cursor) → Comes w x c → (deeds_of x c).awaits n ≡ false
  part_quiet (an_expression m t e) c h = exp_quiet m t e c h
  part_quiet (some_expressions t es) c h = exps_quiet t es c h
  part_quiet (an_optional t o) c h = optional_quiet t o c h
  part_quiet (some_arguments o) c h = arguments_quiet o c h
  part_quiet (some_fields fs) c h = fields_quiet fs c h
  part_quiet (some_arms t l) c h = arms_quiet t l c h
  part_quiet (a_body t b) c h = body_quiet t b c h
  part_quiet (a_statement a) c h = statement_quiet a c h
  part_quiet (some_statements ss) c h = statements_quiet ss c h

pub told_are_quiet : (w : Placed) → LetsAreTold w → IsQuiet w
told_are_quiet w told n = part_quiet w told n w.0 w.1 the_whole
