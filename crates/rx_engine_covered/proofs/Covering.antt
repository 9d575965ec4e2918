-- Of a function that is another by other numbers the matches are covered where the other's are, and what stands in holes is.
use Rattle.std.proofs.Common.{◌≡◌, ℕ, suc, Bool, true, false, not, List, [], ◌∷◌, ◌++◌, Some, None, refl, sym, ap, ◌∙◌, subst}
use Rattle.rx_tree.specs.declared.tree.BinaryOp.{BinaryOp}
use Rattle.rx_typed.specs.declared.nodes.Node.{Node}
use Rattle.rx_typed.specs.Named as named
use Rattle.rx_typed.specs.Named.{all_never, body_never, body_node, else_never, Arms, Body, Else, Exps, Fields, Statement, Statements}
use Rattle.rx_typed.specs.Tree as tree
use Rattle.rx_typed.specs.Tree.{mark_of}
use Rattle.rx_typed.specs.Elaborated as elaborated
use Rattle.rx_typed.specs.Elaborated.{arms, as_shared, body, coercion_at, fields, function_body, matched, nested, operands, otherwise, pattern, returned, statement, tail, type_unless, value, Assigned}
use Rattle.rx_typeck_solver.specs.declared.facts.Demand.{Demand}
use Rattle.rx_cover.specs.Causes.{AllCovered, Covered}
use Rattle.rx_cover.specs.Choices.{Choice, choice_of, choices, choices_among, choices_before, choices_behind, choices_of, choices_within, patterns_of, scrutinee_typ}
use Rattle.rx_engine_blocks.specs.DemandsLike.{Is}
use Rattle.rx_engine_blocks.specs.DemandsLike.Is.{itself}
use Rattle.rx_engine_blocks.specs.Renumbering.{node_at, shape_at, Renumbering}
use Rattle.rx_engine_typing.specs.Renumbered as like
use Rattle.rx_engine_typing.specs.Renumbered.{Holes, NodeAt, RenumberedArms, RenumberedBody, RenumberedElse, RenumberedExp, RenumberedExps, RenumberedFields, RenumberedPattern, RenumberedStatement, RenumberedStatements}
use Rattle.rx_engine_typing.specs.Renumbered.NodeAt.{renumbered}
use Rattle.rx_engine_typing.proofs.Looks.{Fits, is_and, like_all_never, like_body_never, like_body_node, like_else_never}
use Rattle.rx_engine_covered.specs.LikeChoices as alike
use Rattle.rx_engine_covered.specs.LikeChoices.{AllSeen, LikeScrutinee}
use Rattle.rx_engine_covered.specs.Seen.{EachSeenSo, SeenArms, SeenBody, SeenElse, SeenExp, SeenExps, SeenFields, SeenNodes, SeenStatement, SeenStatements, SeenTypes}
use Rattle.rx_engine_covered.specs.Within.{choices_in_body}
use Rattle.rx_engine_covered.proofs.Expecting.{expecting_covered}
use Rattle.rx_engine_covered.proofs.Choices.{choice_there, narrow_there}
use Rattle.rx_engine_covered.proofs.Patterns.{any_seen, away, pattern_like}
use Rattle.rx_engine_covered.proofs.Marks.{before_value, borrow_none, call_choices, goes_both, goes_none, like_by, like_through, matched_typ, outer, passed_typ, read_none, read_typ, tuple_choices, tuple_typ, value_before, whole_body, with_any, Goes}

module _ (r : Renumbering) (loops : ℕ → ℕ) (H : Holes) (Special : List Demand → List Demand → Type 0) (fits : Fits r loops H Special) (view : SeenNodes) (T T' : Assigned) (s : SeenTypes r view T T') where
  -- the matches of a value, by any node, and its type
  pub record There (e e' : named.Exp) : Type 0 where
    pub goes : (k m : ℕ) → Goes T.items T'.items (choices k (value T e)) (choices m (value T' e'))
    pub typ : LikeScrutinee r (mark_of (value T e)).typ (mark_of (value T' e')).typ

  -- what stands in holes
  pub record HolesThere : Type 0 where
    pub expressions : {e e' : named.Exp} → H.expression e e' → SeenExp view e → There e e'
    pub blocks : {b b' : Body} → H.block b b' → SeenBody view b → Goes T.items T'.items (choices_in_body T b) (choices_in_body T' b')

  -- ---- types

  seen_typ : (n : ℕ) → as_shared (T'.typ (r.nodes n)) ≡ as_shared (shape_at r (T.typ n))
  seen_typ n = ap as_shared (s.typ n) ∙ away (view n) (shape_at r (T.typ n))

  pub marked_like : (n : ℕ) → LikeScrutinee r (Some (T.typ n)) (Some (T'.typ (r.nodes n)))
  marked_like n = alike.LikeScrutinee.has_type (seen_typ n)

  unless_like : (n : ℕ) {b b' : Bool} → Is b b' → LikeScrutinee r (type_unless b (T.typ n)) (type_unless b' (T'.typ (r.nodes n)))
  unless_like n {b = true} itself = alike.LikeScrutinee.is_never
  unless_like n {b = false} itself = marked_like n

  node_like : {n n' : Node} {b b' : Bool} → NodeAt r n n' → Is b b' → LikeScrutinee r (type_unless b (T.typ n.number)) (type_unless b' (T'.typ n'.number))
  node_like (renumbered {n = n}) h = unless_like n.number h

  pub place_there : (n : Node) (n' : Node) → NodeAt r n n' → (p p' : tree.Place) {e e' : named.Exp} → value T e ≡ elaborated.place_value T n p → value T' e' ≡ elaborated.place_value T' n' p' → There e e'
  place_there n _ (renumbered {s = a}) p p' {e} {e'} q q' = record {
    goes = λ k m. goes_none T.items T'.items _ _ (ap (choices m) q' ∙ read_none T' (node_at r n a) (coercion_at T' (node_at r n a)) p' m);
    typ = like_by r (mark_of (value T e)).typ (mark_of (value T' e')).typ (T.typ n.number) (T'.typ (r.nodes n.number)) (ap (λ (x : tree.Exp). outer (mark_of x).typ) q ∙ read_typ T n (coercion_at T n) p)
        (ap (λ (x : tree.Exp). outer (mark_of x).typ) q' ∙ read_typ T' (node_at r n a) (coercion_at T' (node_at r n a)) p') (seen_typ n.number);
  }

  both : (a a' b b' : List Choice) → Goes T.items T'.items a a' → Goes T.items T'.items b b' → Goes T.items T'.items (a ++ b) (a' ++ b')
  both a a' b b' f g = goes_both T.items T'.items a a' b b' f g

  -- ---- what is matched

  module _ {e e' : named.Exp} (h : There e e') where
    before_there : Goes T.items T'.items (choices_before (matched T e (value T e))) (choices_before (matched T' e' (value T' e')))
    before_there c = value_before T' T'.items e' (value T' e') (h.goes (mark_of (value T e)).node (mark_of (value T' e')).node (before_value T T.items e c))

    scrutinee_there : LikeScrutinee r (scrutinee_typ (matched T e (value T e))) (scrutinee_typ (matched T' e' (value T' e')))
    scrutinee_there = like_through r (mark_of (value T e)).typ (mark_of (value T' e')).typ (scrutinee_typ (matched T e (value T e))) (scrutinee_typ (matched T' e' (value T' e'))) h.typ (matched_typ T e) (matched_typ T' e')

  arms_seen : (w : Bool) {l l' : Arms} → RenumberedArms r loops H l l' → EachSeenSo view w l → AllSeen r w (patterns_of (arms T l)) (patterns_of (arms T' l'))
  arms_seen w like.RenumberedArms.no_arm v = alike.AllSeen.none_seen
  arms_seen w (like.RenumberedArms.arm_and p h hs) v = alike.AllSeen.more_seen (pattern_like r view T T' s w None None p v.0) (arms_seen w hs v.1)

  -- a pattern and what takes everything
  looks_there : (k m : ℕ) (c c' : tree.Scrutinee) {w : Bool} {p p' : tree.Pattern} → alike.LikeSeen r w p p' → Covered T.items (choice_of k c (p ∷ tree.any ∷ [])) → Covered T'.items (choice_of m c' (p' ∷ tree.any ∷ []))
  looks_there k m c c' {w} {p} {p'} h q = with_any T'.items m c' p' (narrow_there r s.apart T.items T'.items s.items (alike.AllSeen.more_seen h (alike.AllSeen.more_seen (any_seen r view T T' s w) alike.AllSeen.none_seen)) q.narrow)

  test_there : (k m n n' : ℕ) (c c' : tree.Scrutinee) → Covered T.items (choice_of k c (tree.exactly n (tree.truth true) ∷ tree.any ∷ [])) → Covered T'.items (choice_of m c' (tree.exactly n' (tree.truth true) ∷ tree.any ∷ []))
  test_there k m n n' c c' q = looks_there k m c c' {w = false} {p = tree.exactly n (tree.truth true)} {p' = tree.exactly n' (tree.truth true)} (alike.LikeSeen.as_it_is alike.LikePattern.is_exactly) q

  operated_goes : (o : BinaryOp) (n n' : Node) (a a' b b' : tree.Exp) → ((k m : ℕ) → Goes T.items T'.items (choices k a) (choices m a')) → ((k m : ℕ) → Goes T.items T'.items (choices k b) (choices m b'))
      → (k m : ℕ) → Goes T.items T'.items (choices k (elaborated.operated T n o a b)) (choices m (elaborated.operated T' n' o a' b'))
  operated_goes o n n' a a' b b' f g k m = by o
    where
      two : Goes T.items T'.items (choices (mark_of a).node a ++ choices (mark_of b).node b) (choices (mark_of a').node a' ++ choices (mark_of b').node b')
      two = both (choices (mark_of a).node a) _ _ _ (f (mark_of a).node (mark_of a').node) (g (mark_of b).node (mark_of b').node)

      more : Goes T.items T'.items (choices_among (tree.operand_and 0 a (tree.operand_and 1 b tree.no_operand))) (choices_among (tree.operand_and 0 a' (tree.operand_and 1 b' tree.no_operand)))
      more = both (choices (mark_of a).node a) _ _ _ (f (mark_of a).node (mark_of a').node) (both (choices (mark_of b).node b) _ _ _ (g (mark_of b).node (mark_of b').node) (λ x. x))

      by : (o : BinaryOp) → Goes T.items T'.items (choices k (elaborated.operated T n o a b)) (choices m (elaborated.operated T' n' o a' b'))
      by BinaryOp.And = two
      by BinaryOp.Or = two
      by BinaryOp.Add = more
      by BinaryOp.Sub = more
      by BinaryOp.Mul = more
      by BinaryOp.Div = more
      by BinaryOp.Rem = more
      by BinaryOp.Eq = more
      by BinaryOp.Ne = more
      by BinaryOp.Lt = more
      by BinaryOp.Le = more
      by BinaryOp.Gt = more
      by BinaryOp.Ge = more

  operated_typ : (o : BinaryOp) (n : Node) (s : _) (a a' b b' : tree.Exp) → LikeScrutinee r (mark_of (elaborated.operated T n o a b)).typ (mark_of (elaborated.operated T' (node_at r n s) o a' b')).typ
  operated_typ BinaryOp.And n s a a' b b' = marked_like n.number
  operated_typ BinaryOp.Or n s a a' b b' = marked_like n.number
  operated_typ BinaryOp.Add n s a a' b b' = marked_like n.number
  operated_typ BinaryOp.Sub n s a a' b b' = marked_like n.number
  operated_typ BinaryOp.Mul n s a a' b b' = marked_like n.number
  operated_typ BinaryOp.Div n s a a' b b' = marked_like n.number
  operated_typ BinaryOp.Rem n s a a' b b' = marked_like n.number
  operated_typ BinaryOp.Eq n s a a' b b' = marked_like n.number
  operated_typ BinaryOp.Ne n s a a' b b' = marked_like n.number
  operated_typ BinaryOp.Lt n s a a' b b' = marked_like n.number
  operated_typ BinaryOp.Le n s a a' b b' = marked_like n.number
  operated_typ BinaryOp.Gt n s a a' b b' = marked_like n.number
  operated_typ BinaryOp.Ge n s a a' b b' = marked_like n.number

  abbrev In : tree.Exp → List Choice
  In e = choices (mark_of e).node e

  -- of an expression, by its own node
  module _ {e e' : named.Exp} (h : There e e') where
    own_there : Goes T.items T'.items (In (value T e)) (In (value T' e'))
    own_there = h.goes (mark_of (value T e)).node (mark_of (value T' e')).node

  abbrev Passes : (Assigned → tree.Exp) → (Assigned → tree.Exp) → Type 0
  Passes f g = (k m : ℕ) → Goes T.items T'.items (choices k (f T)) (choices m (g T'))

  module _ (holes : HolesThere) where
    of_body : (k : ℕ) (b : Body) → AllCovered T.items (choices k (body T b)) → AllCovered T.items (choices_in_body T b)
    of_body k (named.body n ss o) c = c

    in_body : (k : ℕ) (b : Body) → AllCovered T'.items (choices_in_body T' b) → AllCovered T'.items (choices k (body T' b))
    in_body k (named.body n ss o) c = c

    bodies : (b b' : Body) → Goes T.items T'.items (choices_in_body T b) (choices_in_body T' b') → (k m : ℕ) → Goes T.items T'.items (choices k (body T b)) (choices m (body T' b'))
    bodies b b' g k m c = in_body m b' (g (of_body k b c))

    itself_of : (b : Bool) → Is b b
    itself_of b = itself

    typ_of_body : (b b' : Body) → LikeScrutinee r (type_unless (body_never b) (T.typ (body_node b).number)) (type_unless (body_never b') (T'.typ (body_node b').number)) → LikeScrutinee r (mark_of (body T b)).typ (mark_of (body T' b')).typ
    typ_of_body (named.body n ss o) (named.body n' ss' o') l = l

    mutual
      pub value_there : {e e' : named.Exp} → RenumberedExp r loops H e e' → SeenExp view e → There e e'
      value_there (like.RenumberedExp.hole h) v = holes.expressions h v
      value_there (like.RenumberedExp.int {n = n}) v = record { goes = λ k m c. tt; typ = marked_like n.number }
      value_there (like.RenumberedExp.bool {n = n}) v = record { goes = λ k m c. tt; typ = marked_like n.number }
      value_there (like.RenumberedExp.tuple {n = n} {s = a} {es = es} {es' = es'} h) v = record {
        goes = λ k m c. subst (λ (l : List Choice). AllCovered T'.items l) (sym (tuple_choices T' (node_at r n a) (operands T' 0 es') m)) (operands_there 0 h v (subst (λ (l : List Choice). AllCovered T.items l) (tuple_choices T n (operands T 0 es) k) c));
        typ = like_by r (mark_of (elaborated.tuple_of T n (operands T 0 es))).typ (mark_of (elaborated.tuple_of T' (node_at r n a) (operands T' 0 es'))).typ (T.typ n.number) (T'.typ (r.nodes n.number))
            (tuple_typ T n (operands T 0 es)) (tuple_typ T' (node_at r n a) (operands T' 0 es')) (seen_typ n.number);
      }
      value_there (like.RenumberedExp.var {n = n} {s = a}) v = place_there n (node_at r n a) renumbered _ _ refl refl
      value_there (like.RenumberedExp.other_var {n = n} {s = a} u) v = place_there n (node_at r n a) renumbered _ _ refl refl
      value_there (like.RenumberedExp.field {n = n} {s = a} h) v = place_there n (node_at r n a) renumbered _ _ refl refl
      value_there (like.RenumberedExp.part {n = n} {s = a} h) v = place_there n (node_at r n a) renumbered _ _ refl refl
      value_there (like.RenumberedExp.deref {n = n} {s = a} h) v = place_there n (node_at r n a) renumbered _ _ refl refl
      value_there (like.RenumberedExp.negate {n = n} {e = e} h) v = record { goes = λ k m. both (In (value T e)) _ _ _ (own_there (value_there h v)) (λ c. c); typ = marked_like n.number }
      value_there (like.RenumberedExp.invert {n = n} {e = e} h) v = record { goes = λ k m. both (In (value T e)) _ _ _ (own_there (value_there h v)) (λ c. c); typ = marked_like n.number }
      value_there (like.RenumberedExp.borrow {n = n} {s = a} {m = b} {e = e} {e' = e'} h) v = record {
        goes = λ k m. goes_none T.items T'.items _ _ (borrow_none T' (node_at r n a) (coercion_at T' (node_at r n a)) (elaborated.mark T' (node_at r n a)) b (elaborated.place T' e') m);
        typ = like_by r (mark_of (value T (named.borrow n b e))).typ (mark_of (value T' (named.borrow (node_at r n a) b e'))).typ (T.typ n.number) (T'.typ (r.nodes n.number))
            (passed_typ T n (coercion_at T n) (tree.borrow (elaborated.mark T n) b (elaborated.place T e)) refl)
            (passed_typ T' (node_at r n a) (coercion_at T' (node_at r n a)) (tree.borrow (elaborated.mark T' (node_at r n a)) b (elaborated.place T' e')) refl) (seen_typ n.number);
      }
      value_there (like.RenumberedExp.binary {n = n} {s = a} {o = o} {a = x} {a' = x'} {b = y} {b' = y'} h g) v = record {
        goes = operated_goes o n (node_at r n a) (value T x) (value T' x') (value T y) (value T' y') (value_there h v.0).goes (value_there g v.1).goes;
        typ = operated_typ o n a (value T x) (value T' x') (value T y) (value T' y');
      }
      value_there (like.RenumberedExp.assign {n = n} h g) v = record { goes = λ k m. own_there (value_there g v); typ = marked_like n.number }
      value_there (like.RenumberedExp.gives {n = n} h) v = record { goes = λ k m. own_there (value_there h v); typ = marked_like n.number }
      value_there (like.RenumberedExp.assigns {n = n} {e' = e'} g h) v = record { goes = λ k m c. expecting_covered T' T'.items e' _ _ (own_there (value_there h v) c); typ = marked_like n.number }
      value_there (like.RenumberedExp.update {n = n} h g) v = record { goes = λ k m. own_there (value_there g v); typ = marked_like n.number }
      value_there (like.RenumberedExp.call {n = n} {s = a} {g = g} {es = es} {es' = es'} h) v = record {
        goes = λ k m c. subst (λ (l : List Choice). AllCovered T'.items l) (sym (call_choices T' (node_at r n a) (coercion_at T' (node_at r n a)) (elaborated.mark T' (node_at r n a)) (r.items g) (operands T' 0 es') m))
            (operands_there 0 h v (subst (λ (l : List Choice). AllCovered T.items l) (call_choices T n (coercion_at T n) (elaborated.mark T n) g (operands T 0 es) k) c));
        typ = like_by r (mark_of (value T (named.call n g es))).typ (mark_of (value T' (named.call (node_at r n a) (r.items g) es'))).typ (T.typ n.number) (T'.typ (r.nodes n.number))
            (passed_typ T n (coercion_at T n) (tree.call (elaborated.mark T n) g (operands T 0 es)) refl)
            (passed_typ T' (node_at r n a) (coercion_at T' (node_at r n a)) (tree.call (elaborated.mark T' (node_at r n a)) (r.items g) (operands T' 0 es')) refl) (seen_typ n.number);
      }
      value_there (like.RenumberedExp.hidden_call h) v = record { goes = λ k m c. tt; typ = alike.LikeScrutinee.is_never }
      value_there (like.RenumberedExp.next_input {n = n}) v = record { goes = λ k m c. tt; typ = marked_like n.number }
      value_there (like.RenumberedExp.variant {n = n} h) v = record { goes = λ k m. operands_there 0 h v; typ = marked_like n.number }
      value_there (like.RenumberedExp.make {n = n} {i = i} h) v = record { goes = λ k m. fields_there i (r.items i) h v; typ = marked_like n.number }
      value_there (like.RenumberedExp.print {n = n} h) v = record { goes = λ k m. own_there (value_there h v); typ = marked_like n.number }
      value_there (like.RenumberedExp.block {b = b} {b' = b'} h) v = record { goes = λ k m. bodies b b' (inside_there h v) k m; typ = typ_of_body b b' (node_like (like_body_node r loops H Special fits h) (like_body_never r loops H Special fits h)) }
      value_there (like.RenumberedExp.if {n = n} {s = a} {c = x} {c' = x'} {b = b} {b' = b'} {o = o} h g l) v = record {
        goes = λ k m c. (
          test_there k m n.number (r.nodes n.number) (tree.of_value (value T x)) (tree.of_value (value T' x')) c.0,
          both (In (value T x)) _ _ _ (own_there (value_there h v.0)) (both (In (body T b)) _ _ _ (bodies b b' (inside_there g v.1) _ _) (both (In (otherwise T n o)) _ _ _ (otherwise_there n (node_at r n a) l v.2 _ _) (λ z. z))) c.1,
        );
        typ = unless_like n.number (is_and (like_body_never r loops H Special fits g) (like_else_never r loops H Special fits l));
      }
      value_there (like.RenumberedExp.if_let {n = n} {s = a} {p = p} {p' = p'} {e = x} {e' = x'} {b = b} {b' = b'} {o = o} q h g l) v = record {
        goes = λ k m c. (
          looks_there k m (matched T x (value T x)) (matched T' x' (value T' x')) (pattern_like r view T T' s v.0.0 None None q v.0.1) c.0,
          both (choices_before (matched T x (value T x))) _ _ _ (before_there (value_there h v.1)) (both (In (body T b)) _ _ _ (bodies b b' (inside_there g v.2) _ _) (both (In (otherwise T n o)) _ _ _ (otherwise_there n (node_at r n a) l v.3 _ _) (λ z. z))) c.1,
        );
        typ = unless_like n.number (is_and (like_body_never r loops H Special fits g) (like_else_never r loops H Special fits l));
      }
      value_there (like.RenumberedExp.match {n = n} {e = x} {e' = x'} {l = l} {l' = l'} h g) v = record {
        goes = λ k m c. (
          choice_there r s.apart T.items T'.items s.items v.0.0 (choice_of k (matched T x (value T x)) (patterns_of (arms T l))) (choice_of m (matched T' x' (value T' x')) (patterns_of (arms T' l')))
              (record { typ = scrutinee_there (value_there h v.1); arms = arms_seen v.0.0 g v.0.1 }) c.0,
          both (choices_before (matched T x (value T x))) _ _ _ (before_there (value_there h v.1)) (arms_there g v.2) c.1,
        );
        typ = unless_like n.number (like_all_never r loops H Special fits g);
      }
      value_there (like.RenumberedExp.loop {n = n} {k = c} {b = b} {b' = b'} h) v = record { goes = λ k m. bodies b b' (inside_there h v) _ _; typ = unless_like n.number (itself_of (not c)) }
      value_there (like.RenumberedExp.while {n = n} {c = x} {c' = x'} {b = b} {b' = b'} h g) v = record {
        goes = λ k m c. (
          test_there n.number (r.nodes n.number) n.number (r.nodes n.number) (tree.of_value (value T x)) (tree.of_value (value T' x')) c.0,
          both (In (value T x)) _ _ _ (own_there (value_there h v.0)) (both (In (body T b)) _ _ _ (bodies b b' (inside_there g v.1) _ _) (λ z. z)) c.1,
        );
        typ = marked_like n.number;
      }
      value_there (like.RenumberedExp.while_let {n = n} {e = x} {e' = x'} {b = b} {b' = b'} q h g) v = record {
        goes = λ k m c. (
          looks_there n.number (r.nodes n.number) (matched T x (value T x)) (matched T' x' (value T' x')) (pattern_like r view T T' s v.0.0 None None q v.0.1) c.0,
          both (choices_before (matched T x (value T x))) _ _ _ (before_there (value_there h v.1)) (both (In (body T b)) _ _ _ (bodies b b' (inside_there g v.2) _ _) (λ z. z)) c.1,
        );
        typ = marked_like n.number;
      }
      value_there like.RenumberedExp.break v = record { goes = λ k m c. tt; typ = alike.LikeScrutinee.is_never }
      value_there like.RenumberedExp.continue v = record { goes = λ k m c. tt; typ = alike.LikeScrutinee.is_never }
      value_there (like.RenumberedExp.return {n = n} {s = a} p h) v = record { goes = λ k m. returned_there n (node_at r n a) h v _ _; typ = alike.LikeScrutinee.is_never }

      operands_there : (k : ℕ) {es es' : Exps} → RenumberedExps r loops H es es' → SeenExps view es → Goes T.items T'.items (choices_among (operands T k es)) (choices_among (operands T' k es'))
      operands_there k like.RenumberedExps.no_exp v = λ c. tt
      operands_there k (like.RenumberedExps.exp_and {e = e} h hs) v = both (In (value T e)) _ _ _ (own_there (value_there h v.0)) (operands_there (suc k) hs v.1)

      fields_there : (i i' : ℕ) {fs fs' : Fields} → RenumberedFields r loops H fs fs' → SeenFields view fs → Goes T.items T'.items (choices_among (fields T i fs)) (choices_among (fields T' i' fs'))
      fields_there i i' like.RenumberedFields.no_field v = λ c. tt
      fields_there i i' (like.RenumberedFields.field_and {e = e} h hs) v = both (In (value T e)) _ _ _ (own_there (value_there h v.0)) (fields_there i i' hs v.1)

      otherwise_there : (n n' : Node) {o o' : Else} → RenumberedElse r loops H o o' → SeenElse view o → (k m : ℕ) → Goes T.items T'.items (choices k (otherwise T n o)) (choices m (otherwise T' n' o'))
      otherwise_there n n' like.RenumberedElse.absent v k m = λ c. tt
      otherwise_there n n' (like.RenumberedElse.present h) v k m = (value_there h v).goes k m

      returned_there : (n n' : Node) {o o' : Else} → RenumberedElse r loops H o o' → SeenElse view o → (k m : ℕ) → Goes T.items T'.items (choices k (returned T n o)) (choices m (returned T' n' o'))
      returned_there n n' like.RenumberedElse.absent v k m = λ c. tt
      returned_there n n' (like.RenumberedElse.present h) v k m = (value_there h v).goes k m

      pub tail_there : (n n' : Node) {o o' : Else} → RenumberedElse r loops H o o' → SeenElse view o → (k m : ℕ) → Goes T.items T'.items (choices k (tail T n o)) (choices m (tail T' n' o'))
      tail_there n n' like.RenumberedElse.absent v k m = λ c. tt
      tail_there n n' (like.RenumberedElse.present h) v k m = (value_there h v).goes k m

      arms_there : {l l' : Arms} → RenumberedArms r loops H l l' → SeenArms view l → Goes T.items T'.items (choices_behind (arms T l)) (choices_behind (arms T' l'))
      arms_there like.RenumberedArms.no_arm v = λ c. tt
      arms_there (like.RenumberedArms.arm_and {e = e} p h hs) v = both (In (value T e)) _ _ _ (own_there (value_there h v.0)) (arms_there hs v.1)

      pub inside_there : {b b' : Body} → RenumberedBody r loops H b b' → SeenBody view b → Goes T.items T'.items (choices_in_body T b) (choices_in_body T' b')
      inside_there (like.RenumberedBody.other_block h) v = holes.blocks h v
      inside_there (like.RenumberedBody.body {n = n} {s = a} {o = o} {o' = o'} hs h) v = statements_there hs v.0 (tail T n o) (tail T' (node_at r n a) o') (λ k m. tail_there n (node_at r n a) h v.1 k m)

      pub statements_there : {ss ss' : Statements} → RenumberedStatements r loops H ss ss' → SeenStatements view ss → (x x' : tree.Exp) → ((k m : ℕ) → Goes T.items T'.items (choices k x) (choices m x'))
          → Goes T.items T'.items (choices_within (nested T ss x)) (choices_within (nested T' ss' x'))
      statements_there like.RenumberedStatements.no_statement v x x' g = g (mark_of x).node (mark_of x').node
      statements_there (like.RenumberedStatements.statement_and {ss = ss} {ss' = ss'} h hs) v x x' g = statement_there h v.0 (nested T ss x) (nested T' ss' x') (statements_there hs v.1 x x' g)

      pub statement_there : {a a' : Statement} → RenumberedStatement r loops H a a' → SeenStatement view a → (b b' : tree.Body) → Goes T.items T'.items (choices_within b) (choices_within b')
          → Goes T.items T'.items (choices_within (statement T a b)) (choices_within (statement T' a' b'))
      statement_there (like.RenumberedStatement.declares p t) v b b' g = g
      statement_there (like.RenumberedStatement.lets {n = n} {p = p} {p' = p'} {e = e} {e' = e'} q t h) v b b' g = λ c. (
        choice_there r s.apart T.items T'.items s.items v.0.0 (choice_of n.number (matched T e (value T e)) (pattern T None p ∷ [])) (choice_of (r.nodes n.number) (matched T' e' (value T' e')) (pattern T' None p' ∷ []))
            (record { typ = scrutinee_there (value_there h v.1); arms = alike.AllSeen.more_seen (pattern_like r view T T' s v.0.0 None None q v.0.1) alike.AllSeen.none_seen }) c.0,
        both (choices_before (matched T e (value T e))) _ _ _ (before_there (value_there h v.1)) g c.1,
      )
      statement_there (like.RenumberedStatement.evaluates {e = e} h) v b b' g = both (In (value T e)) _ _ _ (own_there (value_there h v)) g

    pub function_there : {b b' : Body} → RenumberedBody r loops H b b' → SeenBody view b → Goes T.items T'.items (choices_of (function_body T b)) (choices_of (function_body T' b'))
    function_there {b = b} {b' = b'} h v c =
        subst (λ (l : List Choice). AllCovered T'.items l) (sym (whole_body T' b')) (inside_there h v (subst (λ (l : List Choice). AllCovered T.items l) (whole_body T b) c))
