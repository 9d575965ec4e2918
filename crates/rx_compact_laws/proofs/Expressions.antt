-- Expressions and bodies whose `let`s have types with other lifetimes are numbered as before, form by form.
use Rattle.std.proofs.Common.{◌≡◌, ℕ, Bool, true, false, ◌&&◌, List, [], ◌∷◌, ◌++◌, Option, Some, None, refl, sym, ap, subst}
use Rattle.rx_tree.specs.Plain as plain
use Rattle.rx_tree.specs.Plain.{TypeTree, PatternTree, Expression, Expressions, OptionalExpression, OptionalExpressions, FieldExpressions, Arms, Body, Statement, Statements}
use Rattle.rx_resolve_names.specs.declared.resolved.NodeNames.{NodeNames}
use Rattle.rx_resolve_names.specs.Meant.{Around, a_loop, a_test}
use Rattle.rx_typed.specs.declared.nodes.Node.{Node}
use Rattle.rx_typed.specs.declared.nodes.Site.{Site}
use Rattle.rx_typed.specs.Named as named
use Rattle.rx_typed.specs.Named.{Exp, Exps, Pattern, node_of, pattern_node, whole_binding, root, never}
use Rattle.rx_typed.specs.Naming as naming
use Rattle.rx_typed.specs.Naming.{Annotation, Cursor, Numbering, give, and_then, a_node, an_entry, first, second, counted, known_between, use_of, declaration, annotates, of_optional_type, of_pattern, passed_on, leads, is_left, waits_in, given_here, a_use, gives_here, waiting, assigned, called, branch_site, waits_at, waits_if, has_no_type, initialiser_site, of_expression, of_expressions, of_optional, of_arguments, of_fields, of_arms, of_body, of_statements, of_statement}
use Rattle.rx_hoist_extraction.specs.Names.{Names, bound, bound_by, behind_all}
use Rattle.rx_hoist_extraction.specs.Changed.{Changes, changed, changed_all, changed_optional, changed_arguments, changed_fields, changed_arms, changed_body, changed_statement, changed_statements}
use Rattle.rx_compact_lifetimes.specs.Rewritten.{retyping, rewritten_type, rewritten_optional}
use Rattle.rx_compact_laws.specs.Beside.{Left, InBoth, StandsFirst, in_let, at_let, LetBeside, LetsBeside, moved, Stands, Goes, in_pattern, in_expression, in_expressions, in_optional, in_arguments, in_fields, in_arms, in_body, in_statement, in_statements}
use Rattle.rx_compact_laws.proofs.Numbering.{given, next, entry, optional_type_same, pattern_same}

-- ---- several steps, one behind another

two : {A B R : Type 0} {K : InBoth} {Q T : Left} {a b : A × Cursor} (f : A → B → R) (u v : Numbering B) → Goes K Q a b
    → ((ms : List NodeNames) (ls : List Annotation) → Stands K Q a.1.names a.1.annotations ms ls → Goes K T (u a.1) (v (moved a.1 ms ls)))
    → Goes K T (and_then u (λ y. give (f a.0 y)) a.1) (and_then v (λ y. give (f b.0 y)) b.1)
two {a = a} f u v r k = next (λ x. and_then u (λ y. give (f x y))) (λ x. and_then v (λ y. give (f x y))) r (λ ms ls q. given (f a.0) (k ms ls q))

three : {A B D R : Type 0} {K : InBoth} {Q S T : Left} {a b : A × Cursor} (f : A → B → D → R) (u v : Numbering B) (w z : Numbering D) → Goes K Q a b
    → ((ms : List NodeNames) (ls : List Annotation) → Stands K Q a.1.names a.1.annotations ms ls → Goes K S (u a.1) (v (moved a.1 ms ls)))
    → ((ms : List NodeNames) (ls : List Annotation) → Stands K S (u a.1).1.names (u a.1).1.annotations ms ls → Goes K T (w (u a.1).1) (z (moved (u a.1).1 ms ls)))
    → Goes K T (and_then u (λ x. and_then w (λ y. give (f a.0 x y))) a.1) (and_then v (λ x. and_then z (λ y. give (f b.0 x y))) b.1)
three {a = a} f u v w z r k l =
    next (λ x. and_then u (λ y. and_then w (λ d. give (f x y d)))) (λ x. and_then v (λ y. and_then z (λ d. give (f x y d)))) r (λ ms ls q. two (f a.0) w z (k ms ls q) l)

-- a step that neither reads entries nor notes a `let`
quiet : {A : Type 0} {K : InBoth} (x : A) (Q : Left) (c : Cursor) (ms : List NodeNames) (ls : List Annotation) → Stands K Q c.names c.annotations ms ls → Goes K Q (x, c) (x, moved c ms ls)
quiet x Q c ms ls p = record { names = ms; lets = ls; is = refl; rest = p }

-- ---- variables that wait for their types

gives_same : {K : InBoth} (x : ℕ) (o : Option (ℕ × ℕ)) (Q : Left) (c : Cursor) (ms : List NodeNames) (ls : List Annotation) → Stands K Q c.names c.annotations ms ls → Goes K Q (given_here x o c) (given_here x o (moved c ms ls))
gives_same x None Q c ms ls p = record { names = ms; lets = ls; is = refl; rest = p }
gives_same x (Some w) Q c ms ls p = record { names = ms; lets = ls; is = refl; rest = p }

assigned_same : {K : InBoth} (n : Node) (q : Exp) (w : Option (ℕ × ℕ)) (f g : Site → Numbering Exp) (C : Left) (c : Cursor) (ms : List NodeNames) (ls : List Annotation)
    → ((t : Site) → Goes K C (f t c) (g t (moved c ms ls))) → Goes K C (assigned n q w f c) (assigned n q w g (moved c ms ls))
assigned_same n q None f g C c ms ls r = given (named.assign n q) (r Site.Expects)
assigned_same n q (Some w) f g C c ms ls r =
    let k = λ (e : Exp). and_then (a_use w.0) (λ x. and_then (gives_here w.0) (λ d. give (named.gives n (node_of q) x d e))) in
    let e = f Site.Reborrows c in
    next k k (r Site.Reborrows) (λ ks es p. given (λ d. named.gives n (node_of q) (use_of w.0 (declaration e.1 w.0)) d e.0)
    (gives_same w.0 (waiting w.0 (declaration e.1 w.0).stage) C e.1 ks es p))

called_same : {K : InBoth} (n : Node) (x : List ℕ × Bool) (f g : Site → Numbering Exps) (C : Left) (c : Cursor) (ms : List NodeNames) (ls : List Annotation)
    → ((t : Site) → Goes K C (f t c) (g t (moved c ms ls))) → Goes K C (called n x f c) (called n x g (moved c ms ls))
called_same n (ns, true) f g C c ms ls r = given (named.hidden_call n) (r Site.Value)
called_same n (ns, false) f g C c ms ls r = given (named.call n (first ns)) (r Site.Expects)

waits_at_same : {K : InBoth} (n : Node) (o : Option ℕ) (Q : Left) (c : Cursor) (ms : List NodeNames) (ls : List Annotation) → Stands K Q c.names c.annotations ms ls → Goes K Q (waits_at n o c) (waits_at n o (moved c ms ls))
waits_at_same n None Q c ms ls p = record { names = ms; lets = ls; is = refl; rest = p }
waits_at_same n (Some x) Q c ms ls p = record { names = ms; lets = ls; is = refl; rest = p }

waits_if_same : {K : InBoth} (b : Bool) (p : Pattern) (Q : Left) (c : Cursor) (ms : List NodeNames) (ls : List Annotation) → Stands K Q c.names c.annotations ms ls → Goes K Q (waits_if b p c) (waits_if b p (moved c ms ls))
waits_if_same true p Q c ms ls h = waits_at_same (pattern_node p) (whole_binding p) Q c ms ls h
waits_if_same false p Q c ms ls h = record { names = ms; lets = ls; is = refl; rest = h }

module _ (K : InBoth) where
  abbrev F : Changes
  F = retyping (rewritten_type K.by)

  one_more : (as' bs : List Annotation) (a b : Annotation) → LetsBeside K as' bs → LetBeside K a b → LetsBeside K (as' ++ a ∷ []) (bs ++ b ∷ [])
  one_more [] [] a b h l = (l, tt)
  one_more [] (y ∷ bs) a b h l = absurd h
  one_more (x ∷ as') [] a b h l = absurd h
  one_more (x ∷ as') (y ∷ bs) a b h l = (h.0, one_more as' bs a b h.1 l)

  -- what is noted of a `let` in front of its pattern
  noted : (q : PatternTree) (t : TypeTree) (n : ℕ) (C : Left) (ns ms : List NodeNames) → in_pattern q (in_let K (Some t) C) ns ms
      → LetBeside K (record { pattern = q; typ = t; variable = n; names = ns }) (record { pattern = q; typ = rewritten_type K.by t; variable = n; names = ms })
  noted q t n C ns ms p =
      let c : Cursor = at_let (record { pattern = q; typ = t; variable = n; names = ns }) in
      let r = pattern_same K q (in_let K (Some t) C) c ms [] (record { left = p; lets = tt }) in
      record {
        pattern = ap (λ x. x.0) r.is;
        typ = refl;
        old = r.rest.left.1.0;
        new = subst (StandsFirst K.new (rewritten_type K.by t)) (sym (ap (λ x. x.1.names) r.is)) r.rest.left.1.1;
      }

  annotates_same : (q : PatternTree) (y : Option TypeTree) (C : Left) (c : Cursor) (ms : List NodeNames) (ls : List Annotation) → Stands K (in_pattern q (in_let K y C)) c.names c.annotations ms ls
      → Goes K (in_pattern q (in_let K y C)) (annotates q y c) (annotates q (rewritten_optional K.by y) (moved c ms ls))
  annotates_same q None C c ms ls p = record { names = ms; lets = ls; is = refl; rest = p }
  annotates_same q (Some t) C c ms ls p = record {
    names = ms;
    lets = _;
    is = refl;
    rest = record { left = p.left; lets = one_more c.annotations ls _ _ p.lets (noted q t c.declared C c.names ms p.left) };
  }

  let_same : (y : Option TypeTree) (C : Left) (c : Cursor) (ms : List NodeNames) (ls : List Annotation) → Stands K (in_let K y C) c.names c.annotations ms ls
      → Goes K C (of_optional_type y c) (of_optional_type (rewritten_optional K.by y) (moved c ms ls))
  let_same None C c ms ls p = quiet None C c ms ls p
  let_same (Some t) C c ms ls p = optional_type_same K K.by (Some t) C c ms ls (record { left = p.left.0; lets = p.lets })

  waits_same : (e : Expression) (o : Names) (r : List Around) (x : ℕ) (c : Cursor) (ms : List NodeNames) (ls : List Annotation) → waits_in (changed F o r e) x (moved c ms ls) ≡ waits_in e x c
  waits_same (plain.var s y) o r x c ms ls = refl
  waits_same _ o r x c ms ls = refl

  branch_same : (t : Site) (o : Names) (r : List Around) (x : OptionalExpression) → branch_site t (changed_optional F o r x) ≡ branch_site t x
  branch_same t o r plain.absent = refl
  branch_same t o r (plain.present e) = refl

  mutual
    pub expression : (e : Expression) (m : Bool) (t : Site) (o : Names) (r : List Around) (C : Left) (c : Cursor) (ms : List NodeNames) (ls : List Annotation)
        → Stands K (in_expression K e C) c.names c.annotations ms ls → Goes K C (of_expression m t e c) (of_expression m t (changed F o r e) (moved c ms ls))
    expression (plain.int s v k) m t o r C c ms ls p = let n = a_node s t c in quiet (named.int n.0 m v k) C n.1 ms ls p
    expression (plain.bool s b) m t o r C c ms ls p = let n = a_node s t c in quiet (named.bool n.0 b) C n.1 ms ls p
    expression (plain.tuple s es) m t o r C c ms ls p = let n = a_node s t c in given (named.tuple n.0) (expressions es Site.Value o r C n.1 ms ls p)
    expression (plain.var s x) m t o r C c ms ls p =
        let n = a_node s t c in
        let k : List ℕ × Bool → Numbering Exp = λ ns d. (named.var n.0 (use_of (first ns.0) (declaration d (first ns.0))), d) in
        next k k (entry K C n.1 ms ls p) (λ ks es q. record { names = ks; lets = es; is = refl; rest = q })
    expression (plain.field s e x) m t o r C c ms ls p = let n = a_node s t c in given (λ e. named.field n.0 e x.name) (expression e false Site.Place o r C n.1 ms ls p)
    expression (plain.part s e i) m t o r C c ms ls p = let n = a_node s t c in given (λ e. named.part n.0 e i) (expression e false Site.Place o r C n.1 ms ls p)
    expression (plain.deref s e) m t o r C c ms ls p = let n = a_node s t c in given (named.deref n.0) (expression e false Site.Place o r C n.1 ms ls p)
    expression (plain.negate s e) m t o r C c ms ls p = let n = a_node s t c in given (named.negate n.0) (expression e true Site.Value o r C n.1 ms ls p)
    expression (plain.invert s e) m t o r C c ms ls p = let n = a_node s t c in given (named.invert n.0) (expression e false Site.Value o r C n.1 ms ls p)
    expression (plain.borrow s w e) m t o r C c ms ls p = let n = a_node s t c in given (named.borrow n.0 w) (expression e false Site.Place o r C n.1 ms ls p)
    expression (plain.binary s w a b) m t o r C c ms ls p =
        let n = a_node s t c in
        two (named.binary n.0 w) (of_expression false Site.Value b) (of_expression false Site.Value (changed F o r b)) (expression a false Site.Value o r (in_expression K b C) n.1 ms ls p)
        (λ ks es q. expression b false Site.Value o r C (of_expression false Site.Value a n.1).1 ks es q)
    expression (plain.assign s a b) m t o r C c ms ls p =
        let n = a_node s t c in
        let x = of_expression false Site.Place a n.1 in
        next (λ q. and_then (naming.waits_for a q) (λ w. assigned n.0 q w (λ t. of_expression false t b)))
        (λ q. and_then (naming.waits_for (changed F o r a) q) (λ w. assigned n.0 q w (λ t. of_expression false t (changed F o r b))))
        (expression a false Site.Place o r (in_expression K b C) n.1 ms ls p)
        (λ ks es q. subst (λ w. Goes K C (assigned n.0 x.0 (waits_in a (root x.0).number x.1) (λ t. of_expression false t b) x.1) (assigned n.0 x.0 w (λ t. of_expression false t (changed F o r b)) (moved x.1 ks es)))
        (sym (waits_same a o r (root x.0).number x.1 ks es))
        (assigned_same n.0 x.0 (waits_in a (root x.0).number x.1) (λ t. of_expression false t b) (λ t. of_expression false t (changed F o r b)) C x.1 ks es (λ t. expression b false t o r C x.1 ks es q)))
    expression (plain.update s w a b) m t o r C c ms ls p =
        let n = a_node s t c in
        two (named.update n.0 w) (of_expression false Site.Value b) (of_expression false Site.Value (changed F o r b)) (expression a false Site.Place o r (in_expression K b C) n.1 ms ls p)
        (λ ks es q. expression b false Site.Value o r C (of_expression false Site.Place a n.1).1 ks es q)
    expression (plain.call s f as') m t o r C c ms ls p =
        let n = a_node s t c in
        next (λ ns. called n.0 ns (λ t. of_expressions t as')) (λ ns. called n.0 ns (λ t. of_expressions t (changed_all F o r as'))) (entry K (in_expressions K as' C) n.1 ms ls p)
        (λ ks es q. called_same n.0 (an_entry n.1).0 (λ t. of_expressions t as') (λ t. of_expressions t (changed_all F o r as')) C (an_entry n.1).1 ks es (λ t. expressions as' t o r C (an_entry n.1).1 ks es q))
    expression (plain.next_input s) m t o r C c ms ls p = let n = a_node s t c in given (λ (ns : List ℕ × Bool). named.next_input n.0) (entry K C n.1 ms ls p)
    expression (plain.variant s a v as') m t o r C c ms ls p =
        let n = a_node s t c in
        next (λ ns. and_then (of_arguments as') (λ es. give (named.variant n.0 (first ns.0) (second ns.0) es)))
        (λ ns. and_then (of_arguments (changed_arguments F o r as')) (λ es. give (named.variant n.0 (first ns.0) (second ns.0) es))) (entry K (in_arguments K as' C) n.1 ms ls p)
        (λ ks es q. given (named.variant n.0 (first (an_entry n.1).0.0) (second (an_entry n.1).0.0)) (arguments as' o r C (an_entry n.1).1 ks es q))
    expression (plain.make s x fs) m t o r C c ms ls p =
        let n = a_node s t c in
        next (λ ns. and_then (of_fields fs) (λ fs. give (named.make n.0 (first ns.0) fs))) (λ ns. and_then (of_fields (changed_fields F o r fs)) (λ fs. give (named.make n.0 (first ns.0) fs)))
        (entry K (in_fields K fs C) n.1 ms ls p) (λ ks es q. given (named.make n.0 (first (an_entry n.1).0.0)) (fields fs o r C (an_entry n.1).1 ks es q))
    expression (plain.print s e) m t o r C c ms ls p = let n = a_node s t c in given (named.print n.0) (expression e false Site.Value o r C n.1 ms ls p)
    expression (plain.block s b) m t o r C c ms ls p = let n = a_node s t c in given (named.block n.0) (body b (passed_on t) o r C n.1 ms ls p)
    expression (plain.if s a b x) m t o r C c ms ls p =
        let n = a_node s t c in
        let y = of_expression false Site.Value a n.1 in
        three (named.if n.0) (of_body (branch_site t x) b) (of_body (branch_site t (changed_optional F o r x)) (changed_body F o r b)) (of_optional (passed_on t) x) (of_optional (passed_on t) (changed_optional F o r x))
        (expression a false Site.Value o r (in_body K b (in_optional K x C)) n.1 ms ls p)
        (λ ks es q. subst (λ u. Goes K (in_optional K x C) (of_body (branch_site t x) b y.1) (of_body u (changed_body F o r b) (moved y.1 ks es))) (sym (branch_same t o r x)) (body b (branch_site t x) o r (in_optional K x C) y.1 ks es q))
        (λ ks es q. optional x (passed_on t) o r C (of_body (branch_site t x) b y.1).1 ks es q)
    expression (plain.if_let s g e b x) m t o r C c ms ls p =
        let n = a_node s t c in
        let i = n.1.declared in
        let y = of_pattern g n.1 in
        let j = y.1.declared in
        let z = of_expression false Site.Scrutinee e y.1 in
        let d = (known_between i j z.1).1 in
        next (λ P. and_then counted (λ j. and_then (of_expression false Site.Scrutinee e) (λ E. and_then (known_between i j) (λ u. and_then (of_body (branch_site t x) b) (λ B. and_then (of_optional (passed_on t) x) (λ O. give (named.if_let n.0 P E B O)))))))
        (λ P. and_then counted (λ j. and_then (of_expression false Site.Scrutinee (changed F o r e)) (λ E. and_then (known_between i j) (λ u. and_then (of_body (branch_site t (changed_optional F o r x)) (changed_body F (bound g ++ o) r b)) (λ B. and_then (of_optional (passed_on t) (changed_optional F o r x)) (λ O. give (named.if_let n.0 P E B O)))))))
        (pattern_same K g (in_expression K e (in_body K b (in_optional K x C))) n.1 ms ls p)
        (λ ks es q. next (λ E. and_then (known_between i j) (λ u. and_then (of_body (branch_site t x) b) (λ B. and_then (of_optional (passed_on t) x) (λ O. give (named.if_let n.0 y.0 E B O)))))
        (λ E. and_then (known_between i j) (λ u. and_then (of_body (branch_site t (changed_optional F o r x)) (changed_body F (bound g ++ o) r b)) (λ B. and_then (of_optional (passed_on t) (changed_optional F o r x)) (λ O. give (named.if_let n.0 y.0 E B O)))))
        (expression e false Site.Scrutinee o r (in_body K b (in_optional K x C)) y.1 ks es q)
        (λ ks es q. two (named.if_let n.0 y.0 z.0) (of_optional (passed_on t) x) (of_optional (passed_on t) (changed_optional F o r x))
        (subst (λ u. Goes K (in_optional K x C) (of_body (branch_site t x) b d) (of_body u (changed_body F (bound g ++ o) r b) (moved d ks es))) (sym (branch_same t o r x)) (body b (branch_site t x) (bound g ++ o) r (in_optional K x C) d ks es q))
        (λ ks es q. optional x (passed_on t) o r C (of_body (branch_site t x) b d).1 ks es q)))
    expression (plain.match s e l) m t o r C c ms ls p =
        let n = a_node s t c in
        two (named.match n.0) (of_arms (passed_on t) l) (of_arms (passed_on t) (changed_arms F o r l)) (expression e false Site.Scrutinee o r (in_arms K l C) n.1 ms ls p)
        (λ ks es q. arms l (passed_on t) o r C (of_expression false Site.Scrutinee e n.1).1 ks es q)
    expression (plain.loop s x b) m t o r C c ms ls p =
        let n = a_node s t c in
        let l = naming.a_loop n.1 in
        let k = λ (b : named.Body). and_then (is_left l.0) (λ k. give (named.loop n.0 l.0 k b)) in
        next k k (body b Site.Value o (a_loop x 0 ∷ r) C l.1 ms ls p) (λ ks es q. record { names = ks; lets = es; is = refl; rest = q })
    expression (plain.while s x a b) m t o r C c ms ls p =
        let n = a_node s t c in
        let l = naming.a_loop n.1 in
        two (named.while n.0 l.0) (of_body Site.Value b) (of_body Site.Value (changed_body F o (a_loop x 0 ∷ r) b)) (expression a false Site.Value o (a_test ∷ a_loop x 0 ∷ r) (in_body K b C) l.1 ms ls p)
        (λ ks es q. body b Site.Value o (a_loop x 0 ∷ r) C (of_expression false Site.Value a l.1).1 ks es q)
    expression (plain.while_let s x g e b) m t o r C c ms ls p =
        let n = a_node s t c in
        let l = naming.a_loop n.1 in
        let i = l.1.declared in
        let y = of_pattern g l.1 in
        let j = y.1.declared in
        let z = of_expression false Site.Scrutinee e y.1 in
        let d = (known_between i j z.1).1 in
        next (λ P. and_then counted (λ j. and_then (of_expression false Site.Scrutinee e) (λ E. and_then (known_between i j) (λ u. and_then (of_body Site.Value b) (λ B. give (named.while_let n.0 l.0 P E B))))))
        (λ P. and_then counted (λ j. and_then (of_expression false Site.Scrutinee (changed F o (a_test ∷ a_loop x 0 ∷ r) e)) (λ E. and_then (known_between i j) (λ u. and_then (of_body Site.Value (changed_body F (bound g ++ o) (a_loop x 0 ∷ r) b)) (λ B. give (named.while_let n.0 l.0 P E B))))))
        (pattern_same K g (in_expression K e (in_body K b C)) l.1 ms ls p)
        (λ ks es q. next (λ E. and_then (known_between i j) (λ u. and_then (of_body Site.Value b) (λ B. give (named.while_let n.0 l.0 y.0 E B))))
        (λ E. and_then (known_between i j) (λ u. and_then (of_body Site.Value (changed_body F (bound g ++ o) (a_loop x 0 ∷ r) b)) (λ B. give (named.while_let n.0 l.0 y.0 E B))))
        (expression e false Site.Scrutinee o (a_test ∷ a_loop x 0 ∷ r) (in_body K b C) y.1 ks es q)
        (λ ks es q. given (named.while_let n.0 l.0 y.0 z.0) (body b Site.Value (bound g ++ o) (a_loop x 0 ∷ r) C d ks es q)))
    expression (plain.break s x) m t o r C c ms ls p =
        let n = a_node s t c in
        let k = λ (ns : List ℕ × Bool). and_then (leads (first ns.0)) (λ u. give (named.break n.0 (first ns.0))) in
        next k k (entry K C n.1 ms ls p) (λ ks es q. record { names = ks; lets = es; is = refl; rest = q })
    expression (plain.continue s x) m t o r C c ms ls p = let n = a_node s t c in given (λ (ns : List ℕ × Bool). named.continue n.0 (first ns.0)) (entry K C n.1 ms ls p)
    expression (plain.return s x) m t o r C c ms ls p = let n = a_node s t c in given (named.return n.0) (optional x Site.Expects o r C n.1 ms ls p)

    expressions : (as' : Expressions) (t : Site) (o : Names) (r : List Around) (C : Left) (c : Cursor) (ms : List NodeNames) (ls : List Annotation)
        → Stands K (in_expressions K as' C) c.names c.annotations ms ls → Goes K C (of_expressions t as' c) (of_expressions t (changed_all F o r as') (moved c ms ls))
    expressions plain.no_expression t o r C c ms ls p = quiet named.no_exp C c ms ls p
    expressions (plain.expression_and e as') t o r C c ms ls p =
        two named.exp_and (of_expressions t as') (of_expressions t (changed_all F o r as')) (expression e false t o r (in_expressions K as' C) c ms ls p)
        (λ ks es q. expressions as' t o r C (of_expression false t e c).1 ks es q)

    optional : (x : OptionalExpression) (t : Site) (o : Names) (r : List Around) (C : Left) (c : Cursor) (ms : List NodeNames) (ls : List Annotation)
        → Stands K (in_optional K x C) c.names c.annotations ms ls → Goes K C (of_optional t x c) (of_optional t (changed_optional F o r x) (moved c ms ls))
    optional plain.absent t o r C c ms ls p = quiet named.absent C c ms ls p
    optional (plain.present e) t o r C c ms ls p = given named.present (expression e false t o r C c ms ls p)

    arguments : (as' : OptionalExpressions) (o : Names) (r : List Around) (C : Left) (c : Cursor) (ms : List NodeNames) (ls : List Annotation)
        → Stands K (in_arguments K as' C) c.names c.annotations ms ls → Goes K C (of_arguments as' c) (of_arguments (changed_arguments F o r as') (moved c ms ls))
    arguments plain.no_list o r C c ms ls p = quiet named.no_exp C c ms ls p
    arguments (plain.a_list as') o r C c ms ls p = expressions as' Site.Expects o r C c ms ls p

    fields : (fs : FieldExpressions) (o : Names) (r : List Around) (C : Left) (c : Cursor) (ms : List NodeNames) (ls : List Annotation)
        → Stands K (in_fields K fs C) c.names c.annotations ms ls → Goes K C (of_fields fs c) (of_fields (changed_fields F o r fs) (moved c ms ls))
    fields plain.no_field o r C c ms ls p = quiet named.no_field C c ms ls p
    fields (plain.field_and x e fs) o r C c ms ls p =
        two (named.field_and x.name) (of_fields fs) (of_fields (changed_fields F o r fs)) (expression e false Site.Expects o r (in_fields K fs C) c ms ls p)
        (λ ks es q. fields fs o r C (of_expression false Site.Expects e c).1 ks es q)

    arms : (l : Arms) (t : Site) (o : Names) (r : List Around) (C : Left) (c : Cursor) (ms : List NodeNames) (ls : List Annotation)
        → Stands K (in_arms K l C) c.names c.annotations ms ls → Goes K C (of_arms t l c) (of_arms t (changed_arms F o r l) (moved c ms ls))
    arms plain.no_arm t o r C c ms ls p = quiet named.no_arm C c ms ls p
    arms (plain.arm_and g e l) t o r C c ms ls p =
        let i = c.declared in
        let y = of_pattern g c in
        let j = y.1.declared in
        let d = (known_between i j y.1).1 in
        next (λ P. and_then counted (λ j. and_then (known_between i j) (λ u. and_then (of_expression false t e) (λ E. and_then (of_arms t l) (λ L. give (named.arm_and P E L))))))
        (λ P. and_then counted (λ j. and_then (known_between i j) (λ u. and_then (of_expression false t (changed F (bound g ++ o) r e)) (λ E. and_then (of_arms t (changed_arms F o r l)) (λ L. give (named.arm_and P E L))))))
        (pattern_same K g (in_expression K e (in_arms K l C)) c ms ls p)
        (λ ks es q. two (named.arm_and y.0) (of_arms t l) (of_arms t (changed_arms F o r l)) (expression e false t (bound g ++ o) r (in_arms K l C) d ks es q)
        (λ ks es q. arms l t o r C (of_expression false t e d).1 ks es q))

    pub body : (b : Body) (t : Site) (o : Names) (r : List Around) (C : Left) (c : Cursor) (ms : List NodeNames) (ls : List Annotation)
        → Stands K (in_body K b C) c.names c.annotations ms ls → Goes K C (of_body t b c) (of_body t (changed_body F o r b) (moved c ms ls))
    body (plain.body s ss x) t o r C c ms ls p =
        let n = a_node s t c in
        two (named.body n.0) (of_optional t x) (of_optional t (changed_optional F (behind_all o ss) r x)) (statements ss o r (in_optional K x C) n.1 ms ls p)
        (λ ks es q. optional x t (behind_all o ss) r C (of_statements ss n.1).1 ks es q)

    statements : (ss : Statements) (o : Names) (r : List Around) (C : Left) (c : Cursor) (ms : List NodeNames) (ls : List Annotation)
        → Stands K (in_statements K ss C) c.names c.annotations ms ls → Goes K C (of_statements ss c) (of_statements (changed_statements F o r ss) (moved c ms ls))
    statements plain.no_statement o r C c ms ls p = quiet named.no_statement C c ms ls p
    statements (plain.statement_and a ss) o r C c ms ls p =
        two named.statement_and (of_statements ss) (of_statements (changed_statements F (bound_by a ++ o) r ss)) (statement a o r (in_statements K ss C) c ms ls p)
        (λ ks es q. statements ss (bound_by a ++ o) r C (of_statement a c).1 ks es q)

    statement : (a : Statement) (o : Names) (r : List Around) (C : Left) (c : Cursor) (ms : List NodeNames) (ls : List Annotation)
        → Stands K (in_statement K a C) c.names c.annotations ms ls → Goes K C (of_statement a c) (of_statement (changed_statement F o r a) (moved c ms ls))
    statement (plain.let_statement s g y plain.absent) o r C c ms ls p =
        let n = a_node s Site.Value c in
        let v = (annotates g y n.1).1 in
        let i = v.declared in
        let w = of_pattern g v in
        let j = w.1.declared in
        let z = of_optional_type y w.1 in
        let d = (known_between i j z.1).1 in
        next (λ u. and_then counted (λ i. and_then (of_pattern g) (λ P. and_then counted (λ j. and_then (of_optional_type y) (λ Y. and_then (known_between i j) (λ u. and_then (waits_if (has_no_type Y) P) (λ u. give (named.declares n.0 P Y))))))))
        (λ u. and_then counted (λ i. and_then (of_pattern g) (λ P. and_then counted (λ j. and_then (of_optional_type (rewritten_optional K.by y)) (λ Y. and_then (known_between i j) (λ u. and_then (waits_if (has_no_type Y) P) (λ u. give (named.declares n.0 P Y))))))))
        (annotates_same g y C n.1 ms ls p)
        (λ ks es q. next (λ P. and_then counted (λ j. and_then (of_optional_type y) (λ Y. and_then (known_between i j) (λ u. and_then (waits_if (has_no_type Y) P) (λ u. give (named.declares n.0 P Y))))))
        (λ P. and_then counted (λ j. and_then (of_optional_type (rewritten_optional K.by y)) (λ Y. and_then (known_between i j) (λ u. and_then (waits_if (has_no_type Y) P) (λ u. give (named.declares n.0 P Y))))))
        (pattern_same K g (in_let K y C) v ks es q)
        (λ ks es q. next (λ Y. and_then (known_between i j) (λ u. and_then (waits_if (has_no_type Y) w.0) (λ u. give (named.declares n.0 w.0 Y))))
        (λ Y. and_then (known_between i j) (λ u. and_then (waits_if (has_no_type Y) w.0) (λ u. give (named.declares n.0 w.0 Y))))
        (let_same y C w.1 ks es q)
        (λ ks es q. given (λ u. named.declares n.0 w.0 z.0) (waits_if_same (has_no_type z.0) w.0 C d ks es q))))
    statement (plain.let_statement s g y (plain.present e)) o r C c ms ls p =
        let n = a_node s Site.Value c in
        let v = (annotates g y n.1).1 in
        let i = v.declared in
        let w = of_pattern g v in
        let j = w.1.declared in
        let z = of_optional_type y w.1 in
        let x = of_expression false (initialiser_site z.0) e z.1 in
        let d = (known_between i j x.1).1 in
        next (λ u. and_then counted (λ i. and_then (of_pattern g) (λ P. and_then counted (λ j. and_then (of_optional_type y) (λ Y. and_then (of_expression false (initialiser_site Y) e) (λ E. and_then (known_between i j) (λ u. and_then (waits_if (has_no_type Y && never E) P) (λ u. give (named.lets n.0 P Y E)))))))))
        (λ u. and_then counted (λ i. and_then (of_pattern g) (λ P. and_then counted (λ j. and_then (of_optional_type (rewritten_optional K.by y)) (λ Y. and_then (of_expression false (initialiser_site Y) (changed F o r e)) (λ E. and_then (known_between i j) (λ u. and_then (waits_if (has_no_type Y && never E) P) (λ u. give (named.lets n.0 P Y E)))))))))
        (annotates_same g y (in_expression K e C) n.1 ms ls p)
        (λ ks es q. next (λ P. and_then counted (λ j. and_then (of_optional_type y) (λ Y. and_then (of_expression false (initialiser_site Y) e) (λ E. and_then (known_between i j) (λ u. and_then (waits_if (has_no_type Y && never E) P) (λ u. give (named.lets n.0 P Y E)))))))
        (λ P. and_then counted (λ j. and_then (of_optional_type (rewritten_optional K.by y)) (λ Y. and_then (of_expression false (initialiser_site Y) (changed F o r e)) (λ E. and_then (known_between i j) (λ u. and_then (waits_if (has_no_type Y && never E) P) (λ u. give (named.lets n.0 P Y E)))))))
        (pattern_same K g (in_let K y (in_expression K e C)) v ks es q)
        (λ ks es q. next (λ Y. and_then (of_expression false (initialiser_site Y) e) (λ E. and_then (known_between i j) (λ u. and_then (waits_if (has_no_type Y && never E) w.0) (λ u. give (named.lets n.0 w.0 Y E)))))
        (λ Y. and_then (of_expression false (initialiser_site Y) (changed F o r e)) (λ E. and_then (known_between i j) (λ u. and_then (waits_if (has_no_type Y && never E) w.0) (λ u. give (named.lets n.0 w.0 Y E)))))
        (let_same y (in_expression K e C) w.1 ks es q)
        (λ ks es q. next (λ E. and_then (known_between i j) (λ u. and_then (waits_if (has_no_type z.0 && never E) w.0) (λ u. give (named.lets n.0 w.0 z.0 E))))
        (λ E. and_then (known_between i j) (λ u. and_then (waits_if (has_no_type z.0 && never E) w.0) (λ u. give (named.lets n.0 w.0 z.0 E))))
        (expression e false (initialiser_site z.0) o r C z.1 ks es q)
        (λ ks es q. given (λ u. named.lets n.0 w.0 z.0 x.0) (waits_if_same (has_no_type z.0 && never x.0) w.0 C d ks es q)))))
    statement (plain.expression_statement s e b) o r C c ms ls p = let n = a_node s Site.Value c in given (λ e. named.evaluates n.0 e b) (expression e false Site.Value o r C n.1 ms ls p)
