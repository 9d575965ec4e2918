-- What the rules ask of a part to which a function's numbering comes stands among what they ask of the function, in one piece.
use Rattle.std.proofs.Common.{◌≡◌, ℕ, zero, suc, Bool, true, false, ◌&&◌, List, [], ◌∷◌, ◌++◌, Option, Some, None, ap, ◌∙◌, subst, append_assoc}
use Rattle.rx_core.specs.declared.types.Span.{Span}
use Rattle.rx_tree.specs.Lists.{nth, Every}
use Rattle.rx_tree.specs.Plain as plain
use Rattle.rx_tree.specs.Plain.{Expression}
use Rattle.rx_typed.specs.declared.nodes.Node.{Node}
use Rattle.rx_typed.specs.declared.nodes.Site.{Site}
use Rattle.rx_typed.specs.Named.{Exp, Exps, Else, Fields, Arms, Body, all_never, body_never, body_node, else_never, is_variable, never, node_of, root, some_diverges}
use Rattle.rx_typed.specs.Naming as numbering
use Rattle.rx_typed.specs.Naming.{Cursor, Numbering, a_node, an_entry, of_arguments, of_arms, of_body, of_expression, of_expressions, of_fields, of_optional, of_optional_type, of_pattern, of_statement, of_statements}
use Rattle.rx_typeck_solver.specs.declared.facts.Demand.{Demand}
use Rattle.rx_typeck_solver.specs.declared.facts.Op.TheVariants as op
use Rattle.rx_typeck_solver.specs.Facts.{Assignment, KnownItems}
use Rattle.rx_typeck_typed.specs.Asking.{Asking, ◌>>◌, type_of}
use Rattle.rx_typeck_typed.specs.Demands as rules
use Rattle.rx_engine_typing.proofs.Asking.{Asks, U, then_u, quiet, never_asks, join_asks, own_asks, assignable_u, borrowed_asks, after_u, tested_u, printed_u, unit_u, not_never_u, operation_asks, updated_u, negated_asks, inverted_asks, given_u, branch_before_u, branch_after_asks, if_joins_asks, evaluated_u, tail_before_u, tail_after_u, loop_asks, each_after_u}
use Rattle.rx_engine_changed.specs.Comes.{a_body, a_statement, an_expression, an_optional, arguments_at, assigned_at, behind, goes_in, in_arm, in_let, in_loop, in_part, matched, over, some_arguments, some_arms, some_expressions, some_fields, some_statements, the_whole, waits_left, Comes, Part, Placed}
use Rattle.rx_engine_changed.proofs.Asked.{arms_add, body_adds, each_adds, else_adds, exp_adds, fields_add, initialised_adds, place_adds, returned_adds, statements_add, whole_adds}

module _ (K : KnownItems) (A : Assignment) (D : List Demand) where
  -- these stand in it, in one piece
  pub record Within (l : List Demand) : Type 0 where
    pub front : List Demand
    pub back : List Demand
    pub is : l ≡ front ++ (D ++ back)

  abbrev pub Holds : Asking → Type 0
  Holds a = (ds : List Demand) → Within (a ds)

  -- among what is asked first, and among what is asked behind it
  pub first : {a b : Asking} {S : Type 0} → Holds a → Asks K A S b → Holds (λ ds. b (a ds))
  first {a = a} h x ds = let y = h ds in record {
    front = y.front;
    back = y.back ++ x.more;
    is = x.adds (a ds) ∙ ap (λ (l : List Demand). l ++ x.more) y.is ∙ append_assoc y.front (D ++ y.back) x.more ∙ ap (λ (l : List Demand). y.front ++ l) (append_assoc D y.back x.more);
  }

  later : (a : Asking) {b : Asking} → Holds b → Holds (λ ds. b (a ds))
  later a h ds = h (a ds)

  module _ (f : ℕ) where
    abbrev InExp : Exp → Type 0
    InExp e = Holds (rules.of_exp f e)

    abbrev InEach : Exps → Type 0
    InEach es = (w : rules.Listed) (k : ℕ) → Holds (rules.of_each f w k es)

    abbrev InElse : Else → Type 0
    InElse o = ((n : Node) → Holds (rules.of_else f n o)) × Holds (rules.of_returned f o)

    abbrev InFields : Fields → Type 0
    InFields fs = (i : ℕ) → Holds (rules.of_fields f i fs)

    abbrev InArms : Arms → Type 0
    InArms l = (n : Node) (s : rules.Matched) (m : Node) → Holds (rules.of_arms f n s m l)

    abbrev pub InBody : Body → Type 0
    InBody b = Holds (rules.of_body f b)

    -- nothing stands in a variable
    abbrev pub InPart : Part → Cursor → Type 0
    InPart (an_expression m t (plain.var s x)) c = ⊥
    InPart (an_expression m t e) c = InExp (of_expression m t e c).0
    InPart (some_expressions t es) c = InEach (of_expressions t es c).0
    InPart (an_optional t o) c = InElse (of_optional t o c).0
    InPart (some_arguments o) c = InEach (of_arguments o c).0
    InPart (some_fields fs) c = InFields (of_fields fs c).0
    InPart (some_arms t l) c = InArms (of_arms t l c).0
    InPart (a_body t b) c = InBody (of_body t b c).0
    InPart (a_statement a) c = Holds (rules.of_statement f (of_statement a c).0)
    InPart (some_statements ss) c = Holds (rules.of_statements f (of_statements ss c).0)

    of_one : (m : Bool) (t : Site) (e : Expression) (c : Cursor) → InPart (an_expression m t e) c → InExp (of_expression m t e c).0
    of_one m t (plain.var s x) c h = absurd h
    of_one m t _ c h = h

    -- ---- in forms

    in_branches : (n : Node) (b : Body) (o : Else) → InBody b → Holds (rules.branch_before n o b >> rules.of_body f b >> rules.branch_after n o b >> rules.of_else f n o >> rules.if_joins n o (body_never b && else_never o))
    in_branches n b o h = later (rules.branch_before n o b) (first h (then_u (branch_after_asks n o b) (then_u (else_adds K A f n o) (if_joins_asks n o _))))

    in_else : (n : Node) (b : Body) (o : Else) → InElse o → Holds (rules.branch_before n o b >> rules.of_body f b >> rules.branch_after n o b >> rules.of_else f n o >> rules.if_joins n o (body_never b && else_never o))
    in_else n b o h = later (rules.branch_before n o b) (later (rules.of_body f b) (later (rules.branch_after n o b) (first (h.0 n) (if_joins_asks n o _))))

    after_branches : (n : Node) (b : Body) (o : Else) → U K A (rules.branch_before n o b >> rules.of_body f b >> rules.branch_after n o b >> rules.of_else f n o >> rules.if_joins n o (body_never b && else_never o))
    after_branches n b o = then_u (branch_before_u n o b) (then_u (body_adds K A f b) (then_u (branch_after_asks n o b) (then_u (else_adds K A f n o) (if_joins_asks n o _))))

    in_call : (n : Node) (k : List ℕ × Bool) (g : Site → Numbering Exps) (c : Cursor) → InEach (g (arguments_at k.1) c).0 → InExp (numbering.called n k g c).0
    in_call n (xs, true) g c h = later _ (h rules.values 0)
    in_call n (xs, false) g c h = later _ (first (h (rules.parameters (numbering.first xs)) 0) (own_asks n (op.Result (numbering.first xs)) []))

    in_left : (n : Node) (p : Exp) (g : Site → Numbering Exp) (c : Cursor) → InExp p → InExp (numbering.assigned n p None g c).0
    in_left n p g c h = first h (then_u (quiet (node_of (g Site.Expects c).0) _ _ _) (then_u (exp_adds K A f (g Site.Expects c).0) (then_u (assignable_u n (is_variable p) (root p) _) (own_asks n op.Unit []))))

    in_right : (n : Node) (p : Exp) (o : Option (ℕ × ℕ)) (g : Site → Numbering Exp) (c : Cursor) → InExp (g (assigned_at o) c).0 → InExp (numbering.assigned n p o g c).0
    in_right n p None g c h = later (rules.of_exp f p) (later (rules.expects (node_of (g Site.Expects c).0) op.Same (type_of (node_of p) ∷ [])) (first h (then_u (assignable_u n (is_variable p) (root p) _) (own_asks n op.Unit []))))
    in_right n p (Some w) g c h =
        let E = g Site.Reborrows c in
        first h (then_u (given_u n (node_of p) (numbering.a_use w.0 E.1).0 (numbering.gives_here w.0 E.1).0 (node_of E.0) (never E.0)) (own_asks n op.Unit []))

    -- what is assigned to is no variable that waits, or a variable
    of_left : (n : Node) (p : Expression) (g : Site → Numbering Exp) (c : Cursor) → InPart (an_expression false Site.Place p) c
        → InExp (numbering.assigned n (of_expression false Site.Place p c).0 (waits_left p c) g (of_expression false Site.Place p c).1).0
    of_left n (plain.var s x) g c h = absurd h
    of_left n p g c h = in_left n (of_expression false Site.Place p c).0 g (of_expression false Site.Place p c).1 (of_one false Site.Place p c h)

    -- ---- from a part to what it stands in

    abbrev Up : Part → Cursor → Type 0
    Up x c = Every (λ (y : Placed). InPart y.0 y.1 → InPart x c) (in_part x c)

    up : (x : Part) (c : Cursor) → Up x c
    up (an_expression m t (plain.int s v k)) c = tt
    up (an_expression m t (plain.bool s b)) c = tt
    up (an_expression m t (plain.var s x)) c = tt
    up (an_expression m t (plain.next_input s)) c = tt
    up (an_expression m t (plain.break s l)) c = tt
    up (an_expression m t (plain.continue s l)) c = tt
    up (an_expression m t (plain.tuple s es)) c = let n = (a_node s t c).0 in (λ h. first (h rules.members 0) (then_u (own_asks n op.Tuple _) (quiet n _ _ _)), tt)
    up (an_expression m t (plain.field s e x)) c = let n = (a_node s t c).0 in (λ h. first (of_one false Site.Place e (behind s t c) h) (then_u (quiet n _ _ _) (place_adds K A n _ _ n.site)), tt)
    up (an_expression m t (plain.part s e i)) c = let n = (a_node s t c).0 in (λ h. first (of_one false Site.Place e (behind s t c) h) (then_u (quiet n _ _ _) (place_adds K A n _ _ n.site)), tt)
    up (an_expression m t (plain.deref s e)) c = let n = (a_node s t c).0 in (λ h. first (of_one false Site.Place e (behind s t c) h) (then_u (quiet n _ _ _) (place_adds K A n _ _ n.site)), tt)
    up (an_expression m t (plain.negate s e)) c =
        let n = (a_node s t c).0 in let E = (of_expression true Site.Value e (behind s t c)).0 in (λ h. first (of_one true Site.Value e (behind s t c) h) (negated_asks n (node_of E) (never E)), tt)
    up (an_expression m t (plain.invert s e)) c =
        let n = (a_node s t c).0 in let E = (of_expression false Site.Value e (behind s t c)).0 in (λ h. first (of_one false Site.Value e (behind s t c) h) (inverted_asks n (node_of E) (never E)), tt)
    up (an_expression m t (plain.borrow s w e)) c =
        let n = (a_node s t c).0 in let E = (of_expression false Site.Place e (behind s t c)).0 in (λ h. first (of_one false Site.Place e (behind s t c) h) (borrowed_asks n w (node_of E) (root E) _), tt)
    up (an_expression m t (plain.binary s o a b)) c =
        let n = (a_node s t c).0 in let d = behind s t c in let X = (of_expression false Site.Value a d).0 in let d1 = over false Site.Value a d in let Y = (of_expression false Site.Value b d1).0 in (
          λ h. first (of_one false Site.Value a d h) (then_u (exp_adds K A f Y) (operation_asks o n (node_of X) (never X) (node_of Y) (never Y))),
          (λ h. later (rules.of_exp f X) (first (of_one false Site.Value b d1 h) (operation_asks o n (node_of X) (never X) (node_of Y) (never Y))), tt),
        )
    up (an_expression m t (plain.assign s p e)) c =
        let n = (a_node s t c).0 in let d = behind s t c in (
          λ h. of_left n p (λ u. of_expression false u e) d h,
          (λ h. in_right n (of_expression false Site.Place p d).0 (waits_left p d) (λ u. of_expression false u e) (over false Site.Place p d) (of_one false (assigned_at (waits_left p d)) e (over false Site.Place p d) h), tt),
        )
    up (an_expression m t (plain.update s o p e)) c =
        let n = (a_node s t c).0 in let d = behind s t c in let X = (of_expression false Site.Place p d).0 in let d1 = over false Site.Place p d in let Y = (of_expression false Site.Value e d1).0 in
        let rest = then_u (updated_u n (node_of X) (never X) (node_of Y) (never Y)) (then_u (assignable_u n (is_variable X) (root X) _) (own_asks n op.Unit [])) in (
          λ h. first (of_one false Site.Place p d h) (then_u (exp_adds K A f Y) rest),
          (λ h. later (rules.of_exp f X) (first (of_one false Site.Value e d1 h) rest), tt),
        )
    up (an_expression m t (plain.call s g es)) c =
        let d = behind s t c in (λ h. in_call (a_node s t c).0 (an_entry d).0 (λ u. of_expressions u es) (an_entry d).1 h, tt)
    up (an_expression m t (plain.variant s a v es)) c =
        let n = (a_node s t c).0 in let k = (an_entry (behind s t c)).0.0 in (λ h. later _ (first (h (rules.parts_of (numbering.first k) (numbering.second k)) 0) (own_asks n (op.Item (numbering.first k)) [])), tt)
    up (an_expression m t (plain.make s x fs)) c =
        let n = (a_node s t c).0 in let k = (an_entry (behind s t c)).0.0 in (λ h. later _ (first (h (numbering.first k)) (own_asks n (op.Item (numbering.first k)) [])), tt)
    up (an_expression m t (plain.print s e)) c =
        let n = (a_node s t c).0 in let E = (of_expression false Site.Value e (behind s t c)).0 in (λ h. first (of_one false Site.Value e (behind s t c) h) (then_u (printed_u (node_of E) (never E)) (own_asks n op.Unit [])), tt)
    up (an_expression m t (plain.block s b)) c =
        let n = (a_node s t c).0 in let B = (of_body (numbering.passed_on t) b (behind s t c)).0 in
        (λ h. later (rules.part_before n n.site (body_node B)) (first h (then_u (after_u n n.site (body_never B) (body_node B)) (join_asks n (body_never B)))), tt)
    up (an_expression m t (plain.if s e b o)) c =
        let n = (a_node s t c).0 in let d = behind s t c in let X = (of_expression false Site.Value e d).0 in let d1 = over false Site.Value e d in
        let B = (of_body (numbering.branch_site t o) b d1).0 in let O = (of_optional (numbering.passed_on t) o (of_body (numbering.branch_site t o) b d1).1).0 in (
          λ h. first (of_one false Site.Value e d h) (then_u (tested_u (node_of X) (never X)) (after_branches n B O)),
          (λ h. later (rules.of_exp f X) (later (rules.tested (node_of X) (never X)) (in_branches n B O h)), (λ h. later (rules.of_exp f X) (later (rules.tested (node_of X) (never X)) (in_else n B O h)), tt)),
        )
    up (an_expression m t (plain.if_let s p e b o)) c =
        let n = (a_node s t c).0 in let d = behind s t c in let Q = of_pattern p d in let X = (of_expression false Site.Scrutinee e Q.1).0 in let d1 = matched p e d in
        let B = (of_body (numbering.branch_site t o) b d1).0 in let O = (of_optional (numbering.passed_on t) o (of_body (numbering.branch_site t o) b d1).1).0 in
        let w = rules.whole_pattern (rules.matched X) (type_of (node_of X)) Q.0 in (
          λ h. first (of_one false Site.Scrutinee e Q.1 h) (then_u (not_never_u (node_of X) (never X)) (then_u (whole_adds K A (rules.matched X) _ Q.0) (after_branches n B O))),
          (
            λ h. later (rules.of_exp f X) (later (rules.not_never (node_of X) (never X)) (later w (in_branches n B O h))),
            (λ h. later (rules.of_exp f X) (later (rules.not_never (node_of X) (never X)) (later w (in_else n B O h))), tt),
          ),
        )
    up (an_expression m t (plain.match s e l)) c =
        let n = (a_node s t c).0 in let d = behind s t c in let X = (of_expression false Site.Scrutinee e d).0 in let d1 = over false Site.Scrutinee e d in let L = (of_arms (numbering.passed_on t) l d1).0 in (
          λ h. first (of_one false Site.Scrutinee e d h) (then_u (not_never_u (node_of X) (never X)) (then_u (arms_add K A f n (rules.matched X) (node_of X) L) (join_asks n (all_never L)))),
          (λ h. later (rules.of_exp f X) (later (rules.not_never (node_of X) (never X)) (first (h n (rules.matched X) (node_of X)) (join_asks n (all_never L)))), tt),
        )
    up (an_expression m t (plain.loop s l b)) c =
        let n = (a_node s t c).0 in let B = of_body Site.Value b (in_loop s t c) in (λ h. first h (then_u (unit_u (body_node B.0) (body_never B.0)) (loop_asks n _)), tt)
    up (an_expression m t (plain.while s l e b)) c =
        let n = (a_node s t c).0 in let d = in_loop s t c in let X = (of_expression false Site.Value e d).0 in let B = (of_body Site.Value b (over false Site.Value e d)).0 in
        let rest = then_u (unit_u (body_node B) (body_never B)) (own_asks n op.Unit []) in (
          λ h. first (of_one false Site.Value e d h) (then_u (tested_u (node_of X) (never X)) (then_u (body_adds K A f B) rest)),
          (λ h. later (rules.of_exp f X) (later (rules.tested (node_of X) (never X)) (first h rest)), tt),
        )
    up (an_expression m t (plain.while_let s l p e b)) c =
        let n = (a_node s t c).0 in let d = in_loop s t c in let Q = of_pattern p d in let X = (of_expression false Site.Scrutinee e Q.1).0 in let B = (of_body Site.Value b (matched p e d)).0 in
        let rest = then_u (unit_u (body_node B) (body_never B)) (own_asks n op.Unit []) in let w = rules.whole_pattern (rules.matched X) (type_of (node_of X)) Q.0 in (
          λ h. first (of_one false Site.Scrutinee e Q.1 h) (then_u (not_never_u (node_of X) (never X)) (then_u (whole_adds K A (rules.matched X) _ Q.0) (then_u (body_adds K A f B) rest))),
          (λ h. later (rules.of_exp f X) (later (rules.not_never (node_of X) (never X)) (later w (first h rest))), tt),
        )
    up (an_expression m t (plain.return s o)) c =
        let n = (a_node s t c).0 in let O = (of_optional Site.Expects o (behind s t c)).0 in (λ h. later (rules.returns_unit f n O) (first h.1 (never_asks n n.site)), tt)
    up (some_expressions t plain.no_expression) c = tt
    up (some_expressions t (plain.expression_and e es)) c =
        let E = (of_expression false t e c).0 in let S = (of_expressions t es (over false t e c)).0 in (
          λ h w k. later (rules.each_before w k (node_of E)) (first (of_one false t e c h) (then_u (each_after_u w E) (each_adds K A f w (suc k) S))),
          (λ h w k. later (rules.each_before w k (node_of E)) (later (rules.of_exp f E) (later (rules.each_after w E) (h w (suc k)))), tt),
        )
    up (an_optional t plain.absent) c = tt
    up (an_optional t (plain.present e)) c =
        let E = (of_expression false t e c).0 in
        (λ h. ((λ n. later (rules.part_before n n.site (node_of E)) (first (of_one false t e c h) (after_u n n.site (never E) (node_of E)))), of_one false t e c h), tt)
    up (some_arguments plain.no_list) c = tt
    up (some_arguments (plain.a_list es)) c = (λ h. h, tt)
    up (some_fields plain.no_field) c = tt
    up (some_fields (plain.field_and x e fs)) c =
        let E = (of_expression false Site.Expects e c).0 in let F = (of_fields fs (over false Site.Expects e c)).0 in (
          λ h i. later (rules.expects (node_of E) (op.FieldOf i x.name) []) (first (of_one false Site.Expects e c h) (fields_add K A f i F)),
          (λ h i. later (rules.expects (node_of E) (op.FieldOf i x.name) []) (later (rules.of_exp f E) (h i)), tt),
        )
    up (some_arms t plain.no_arm) c = tt
    up (some_arms t (plain.arm_and p e l)) c =
        let Q = (of_pattern p c).0 in let d = in_arm p c in let E = (of_expression false t e d).0 in let L = (of_arms t l (over false t e d)).0 in (
          λ h n s m. later (rules.whole_pattern s (type_of m) Q) (later (rules.part_before n n.site (node_of E)) (first (of_one false t e d h) (then_u (after_u n n.site (never E) (node_of E)) (arms_add K A f n s m L)))),
          (λ h n s m. later (rules.whole_pattern s (type_of m) Q) (later (rules.part_before n n.site (node_of E)) (later (rules.of_exp f E) (later (rules.part_after n n.site (never E) (node_of E)) (h n s m)))), tt),
        )
    up (a_body t (plain.body s ss o)) c =
        let n = (a_node s t c).0 in let S = of_statements ss (behind s t c) in let O = (of_optional t o S.1).0 in (
          λ h. first h (then_u (tail_before_u n O) (then_u (returned_adds K A f O) (then_u (tail_after_u n (some_diverges S.0) O) (join_asks n _)))),
          (λ h. later (rules.of_statements f S.0) (later (rules.tail_before n O) (first h.1 (then_u (tail_after_u n (some_diverges S.0) O) (join_asks n _)))), tt),
        )
    up (a_statement (plain.let_statement s p y plain.absent)) c = tt
    up (a_statement (plain.let_statement s p y (plain.present e))) c =
        let Q = in_let s p y c in let Y = of_optional_type y Q in let E = (of_expression false (numbering.initialiser_site Y.0) e Y.1).0 in
        (λ h. later (rules.typed_before Y.0 E) (first (of_one false (numbering.initialiser_site Y.0) e Y.1 h) (initialised_adds K A (of_pattern p (numbering.annotates p y (behind s Site.Value c)).1).0 Y.0 E)), tt)
    up (a_statement (plain.expression_statement s e b)) c =
        let E = (of_expression false Site.Value e (behind s Site.Value c)).0 in (λ h. first (of_one false Site.Value e (behind s Site.Value c) h) (evaluated_u b (node_of E) (never E)), tt)
    up (some_statements plain.no_statement) c = tt
    up (some_statements (plain.statement_and a ss)) c =
        let X = (of_statement a c).0 in (λ h. first h (statements_add K A f (of_statements ss (of_statement a c).1).0), (λ h. later (rules.of_statement f X) h, tt))

    pub body_holds : (t : Site) (s : Span) (ss : plain.Statements) (o : plain.OptionalExpression) (c : Cursor) → Holds (rules.of_statements f (of_statements ss (behind s t c)).0) → InBody (of_body t (plain.body s ss o) c).0
    body_holds t s ss o c h = (up (a_body t (plain.body s ss o)) c).0 h

    at_nth : (P : Placed → Type 0) (xs : List Placed) (n : ℕ) (y : Placed) → Every P xs → nth xs n ≡ Some y → P y
    at_nth P [] n y h e = absurd (let k : None ≡ Some y = e in cc)
    at_nth P (x ∷ xs) zero y h e = subst P (some_same x y e) h.0
      where
        some_same : (a b : Placed) → ◌≡◌ {A = Option Placed} (Some a) (Some b) → a ≡ b
        some_same a b e = cc
    at_nth P (x ∷ xs) (suc n) y h e = at_nth P xs n y h.1 e

    pub part_holds : {w : Placed} {y : Part} {d : Cursor} → Comes w y d → InPart y d → InPart w.0 w.1
    part_holds the_whole h = h
    part_holds (goes_in {x = x} {y = y} {c = c} {d = d} k n e) h = part_holds k (at_nth (λ (z : Placed). InPart z.0 z.1 → InPart x c) (in_part x c) n (y, d) (up x c) e h)
