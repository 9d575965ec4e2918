-- Where a function's assignment meets what the rules of types ask, its typed tree and the one of a function that is it by other numbers are
-- alike: what is no place is refused where a place is wanted, and a struct literal has each field. One induction, with holes.
use Rattle.std.proofs.Common.{◌≡◌, ℕ, suc, ◌+◌, ◌*◌, ◌≤◌, Bool, true, false, ◌&&◌, List, [], ◌∷◌, Option, Some, None, slice_get, inl, refl, sym, subst, add_assoc}
use Rattle.rx_core.specs.declared.types.Kind.{Kind}
use Rattle.rx_core.specs.declared.types.Span.{Span}
use Rattle.rx_typed.specs.declared.nodes.Node.{Node}
use Rattle.rx_typed.specs.declared.nodes.Site.{Site}
use Rattle.rx_typed.specs.Types as types
use Rattle.rx_typed.specs.Types.{fields_declared}
use Rattle.rx_typed.specs.Named as named
use Rattle.rx_typed.specs.Named.{Written, Pattern, Patterns, FieldPatterns, Exp, Exps, Else, Fields, Arms, Body, Statement, Statements, Function, written_node, pattern_node, whole_binding, node_of, body_node, is_place, is_variable, root, never, body_never, else_never, some_diverges}
use Rattle.rx_typed.specs.Elaborated as elaborated
use Rattle.rx_typed.specs.Elaborated.{Assigned, variables}
use Rattle.rx_typed.specs.Tree as tree
use Rattle.rx_typed.specs.Tree.{Scrutinee, fields_of}
use Rattle.rx_typeck_solver.specs.declared.facts.Broken.{Broken}
use Rattle.rx_typeck_solver.specs.declared.facts.Subject.{Subject}
use Rattle.rx_typeck_solver.specs.declared.facts.Subject.TheVariants as subject_of
use Rattle.rx_typeck_solver.specs.declared.facts.Op.TheVariants as op
use Rattle.rx_typeck_solver.specs.declared.facts.Test.TheVariants as test
use Rattle.rx_typeck_solver.specs.declared.facts.Passing.{Passing}
use Rattle.rx_typeck_solver.specs.declared.facts.Fact.TheVariants as fact
use Rattle.rx_typeck_solver.specs.declared.facts.Demand.{Demand}
use Rattle.rx_typeck_solver.specs.Facts.{Assignment, KnownItems, names_of, exactly}
use Rattle.rx_typeck_typed.specs.Asking.{Asking, asks}
use Rattle.rx_typeck_typed.specs.Demands as rules
use Rattle.rx_engine_blocks.specs.Renumbering.{Renumbering, node_at}
use Rattle.rx_engine_blocks.specs.DemandsLike.{Is}
use Rattle.rx_engine_blocks.specs.DemandsLike.Is.{itself}
use Rattle.rx_engine_simulation.specs.Turns.{Allowance}
use Rattle.rx_engine_simulation.specs.Histories.{Facts}
use Rattle.rx_engine_simulation.specs.Openings.{Openings}
use Rattle.rx_engine_simulation.specs.Places.{looking, writing, no_steps, use_of}
use Rattle.rx_engine_simulation.specs.Like.{LikeExp, LikeAll, LikeBody, borrows, builds, builds_structs, builds_variants, units, assigns, updates, calls, inputs, prints, blocks, chooses, stays, gives, no_operands, operands_and, no_arms, arms_and, ends_in, runs_on, declares_all, lets_in}
use Rattle.rx_engine_typing.specs.Renumbered as like
use Rattle.rx_engine_typing.specs.Renumbered.{Holes, NodeAt, use_at, use_so, RenumberedExp, RenumberedExps, RenumberedElse, RenumberedFields, RenumberedArms, RenumberedBody, RenumberedStatement, RenumberedStatements}
use Rattle.rx_engine_typing.specs.Renumbered.NodeAt.{renumbered}
use Rattle.rx_engine_typing.specs.Counted.{holes_in, holes_in_all, holes_in_else, holes_in_fields, holes_in_arms, holes_in_body, holes_in_statement, holes_in_statements}
use Rattle.rx_engine_typing.specs.Corresponding.{Corresponding, StayApart, FieldsApart}
use Rattle.rx_engine_typing.specs.Scoped.{Around, entered, behind, behind_all, IsPlaced, ScopedExp, ScopedExps, ScopedElse, ScopedFields, ScopedArms, ScopedBody, ScopedStatement, ScopedStatements}
use Rattle.rx_engine_typing.proofs.Expecting.{value_same}
use Rattle.rx_engine_typing.proofs.Looks.{Fits, like_node, like_place}
use Rattle.rx_engine_typing.proofs.Complete.{operands_complete, fields_complete}
use Rattle.rx_engine_typing.proofs.Sights.{sights, jumps, led, Rooted, own_rooted, rooted_under, place_for}
use Rattle.rx_engine_typing.proofs.Types.{field_steps, part_steps, deref_steps, field_in_at}
use Rattle.rx_engine_typing.proofs.Bound.{tests_at, bindings_at, declared_at, variables_at, pattern_like}
use Rattle.rx_engine_typing.proofs.Asking.{Asks, NoPlace, no_if_place, asks_map, none, both, then_first, then_second, then_u, one_asked, quiet, whole_type_u, refused, never_asks, join_asks, own_asks, assignable_u, borrowed_asks, bound_u, literal_u, before_u, after_u, tested_u, printed_u, unit_u, not_never_u, operation_asks, updated_u, negated_asks, inverted_asks, named_u, given_u, returns_u, branch_before_u, branch_after_asks, if_joins_asks, one_variable_u, evaluated_u, tail_before_u, tail_after_u, loop_asks, each_before_u, each_after_u, integer_asks}
use Rattle.rx_engine_typing.proofs.Trees as trees
use Rattle.rx_engine_typing.proofs.Trees.{Alike, AlikeBody}

module _ (r : Renumbering) (loops : ℕ → ℕ) (H : Holes) (Special : List Demand → List Demand → Type 0) (fits : Fits r loops H Special) (K : KnownItems) (A : Assignment) (T' : Assigned)
    (a : Corresponding r (record { items = K.items; typ = λ n. A (subject_of.Node n); expected = λ n. A (subject_of.Expected n) }) T') (fields_apart : FieldsApart K.items)
    (O : Openings) (gain : Allowance) (c : ℕ) (V : Facts) (apart : StayApart r.variables) (loops_apart : StayApart loops) where
  abbrev pub T : Assigned
  T = record { items = K.items; typ = λ n. A (subject_of.Node n); expected = λ n. A (subject_of.Expected n) }

  abbrev Wants : Type 0 → Asking → Type 0
  Wants R q = Asks K A R q

  abbrev U : Asking → Type 0
  U q = Wants (Unit {0}) q

  abbrev pub Exp1 : Around → Around → ℕ → Exp → Exp → Type 0
  Exp1 xs ls w e e' = Alike r loops T T' a O gain c V apart loops_apart xs ls w e e'

  abbrev pub Body1 : Around → Around → ℕ → Body → Body → Type 0
  Body1 xs ls w b b' = AlikeBody r loops T T' a O gain c V apart loops_apart xs ls w b b'

  -- what stands for a part has a tree like its, where what is asked of the part is met
  pub record TreesThere : Type 0 where
    pub expression : (f : ℕ) (xs ls : Around) (e e' : Exp) → H.expression e e' → ScopedExp xs ls e → Asks K A (Exp1 xs ls 1 e e') (rules.of_exp f e)
    pub block : (f : ℕ) (xs ls : Around) (b b' : Body) → H.block b b' → ScopedBody xs ls b → Asks K A (Body1 xs ls 1 b b') (rules.of_body f b)

  at_node : {e e' : Exp} → RenumberedExp r loops H e e' → NodeAt r (node_of e) (node_of e')
  at_node h = like_node r loops H Special fits h

  placed_alike : {e e' : Exp} → RenumberedExp r loops H e e' → Is (is_place e) (is_place e')
  placed_alike h = like_place r loops H Special fits h

  -- ---- what patterns and places ask

  place_u : (n : Node) (x : ℕ) (ps : List Passing) (t : Site) → U (rules.place_in n x ps t)
  place_u n x ps Site.Value = quiet n _ _ _
  place_u n x ps Site.Place = none
  place_u n x ps Site.Scrutinee = none
  place_u n x ps Site.Expects = then_u (quiet n _ _ _) (then_u (quiet n _ _ _) (quiet n _ _ _))
  place_u n x ps Site.Initialises = then_u (quiet n _ _ _) (quiet n _ _ _)
  place_u n x ps Site.Reborrows = then_u (quiet n _ _ _) (then_u (quiet n _ _ _) (quiet n _ _ _))

  mutual
    pattern_u : (s : rules.Matched) (anc : List Passing) (p : Pattern) → U (rules.of_pattern s anc p)
    pattern_u s anc (named.wild n) = none
    pattern_u s anc (named.bind n x m) = bound_u s anc n x m
    pattern_u s anc (named.whole_number n g v k) = literal_u n g v k
    pattern_u s anc (named.truth n b) = quiet n _ _ _
    pattern_u s anc (named.tuple_pattern n ps) = then_u (quiet n _ _ _) (parts_u s _ n 0 ps)
    pattern_u s anc (named.variant_pattern n i v ps) = then_u (quiet n _ _ _) (then_u (quiet n _ _ _) (variant_parts_u s _ i v 0 ps))
    pattern_u s anc (named.struct_pattern n i fs) = then_u (quiet n _ _ _) (then_u (quiet n _ _ _) (field_patterns_u s _ i fs))

    parts_u : (s : rules.Matched) (anc : List Passing) (n : Node) (k : ℕ) (ps : Patterns) → U (rules.of_parts s anc n k ps)
    parts_u s anc n k named.no_pattern = none
    parts_u s anc n k (named.pattern_and p ps) = then_u (quiet (pattern_node p) _ _ _) (then_u (pattern_u s anc p) (parts_u s anc n (suc k) ps))

    variant_parts_u : (s : rules.Matched) (anc : List Passing) (i v k : ℕ) (ps : Patterns) → U (rules.of_variant_parts s anc i v k ps)
    variant_parts_u s anc i v k named.no_pattern = none
    variant_parts_u s anc i v k (named.pattern_and p ps) = then_u (quiet (pattern_node p) _ _ _) (then_u (pattern_u s anc p) (variant_parts_u s anc i v (suc k) ps))

    field_patterns_u : (s : rules.Matched) (anc : List Passing) (i : ℕ) (fs : FieldPatterns) → U (rules.of_field_patterns s anc i fs)
    field_patterns_u s anc i named.no_field_pattern = none
    field_patterns_u s anc i (named.field_pattern_and x p fs) = then_u (quiet (pattern_node p) _ _ _) (then_u (pattern_u s anc p) (field_patterns_u s anc i fs))

  whole_u : (s : rules.Matched) (x : Subject) (p : Pattern) → U (rules.whole_pattern s x p)
  whole_u s x p = then_u (quiet (pattern_node p) _ _ _) (pattern_u s [] p)

  declared_u : (p : Pattern) (t : Option Written) → U (rules.declared p t)
  declared_u p None = one_variable_u (pattern_node p) (whole_binding p)
  declared_u p (Some t) = then_u (whole_type_u t) (whole_u rules.a_value _ p)

  typed_before_u : (t : Option Written) (e : Exp) → U (rules.typed_before t e)
  typed_before_u None e = none
  typed_before_u (Some t) e = then_u (whole_type_u t) (quiet (node_of e) _ _ _)

  initialised_by_u : (v : Bool) (p : Pattern) (s : rules.Matched) (n : Node) → U (rules.initialised_by v p s n)
  initialised_by_u true p s n = one_variable_u (pattern_node p) (whole_binding p)
  initialised_by_u false p s n = whole_u s _ p

  initialised_u : (p : Pattern) (t : Option Written) (e : Exp) → U (rules.initialised p t e)
  initialised_u p None e = initialised_by_u (never e) p (rules.matched e) (node_of e)
  initialised_u p (Some t) e = whole_u (rules.matched e) _ p

  has_fields_asks : (n : Node) (b : Broken) (i : ℕ) (ys : List (List ℕ)) → Wants (exactly (names_of (fields_declared (slice_get K.items i))) ys ≡ true) (asks n b false (fact.Passes (test.HasFields i ys) [] [] [] ∷ []))
  has_fields_asks n b i ys = asks_map (λ h. h.0) (one_asked n b false _)

  abbrev Whole1 : Around → Around → ℕ → tree.Exp → tree.Exp → Type 0
  Whole1 xs ls w e e' = trees.Whole r loops T T' a O gain c V apart loops_apart xs ls w e e'

  abbrev Else1 : Around → Around → ℕ → Else → Else → Type 0
  Else1 xs ls w o o' = trees.AlikeElse r loops T T' a O gain c V apart loops_apart xs ls w o o'

  -- ---- forms

  no_place : {xs ls : Around} {w : ℕ} (e e' : Exp) → is_place e ≡ false → NoPlace (node_of e).site → Whole1 xs ls w (elaborated.value T e) (elaborated.value T' e') → Exp1 xs ls w e e'
  no_place e e' is f h = record { placed = λ p. absurd (f p); place = λ q. absurd (cc); value = h }

  a_place : {xs ls : Around} {w : ℕ} (e e' : Exp) → is_place e ≡ true → Rooted r xs (elaborated.place T e) (elaborated.place T' e') → Whole1 xs ls w (elaborated.value T e) (elaborated.value T' e') → Exp1 xs ls w e e'
  a_place e e' is p h = record { placed = λ q. is; place = λ q. p; value = h }

  root_of : {xs ls : Around} {w : ℕ} {e e' : Exp} → IsPlaced e → Exp1 xs ls w e e' → Rooted r xs (elaborated.place T e) (elaborated.place T' e')
  root_of p h = h.place (h.placed p)

  branches : (f : ℕ) (n : Node) (b : Body) (o : Else) {R S : Type 0} → Wants R (rules.of_body f b) → Wants S (rules.of_else f n o) → Wants ((R × S) × NoPlace n.site) (rules.of_branches f n (b, o))
  branches f n b o x y =
      asks_map (λ h. ((h.0, h.1.1.0), no_if_place n o h.1.0 h.1.1.1))
      (then_second (branch_before_u n o b) (both x (both (branch_after_asks n o b) (both y (if_joins_asks n o (body_never b && else_never o))))))

  abbrev Pays1 : ℕ → ℕ → Type 0
  Pays1 w k = trees.Pays r loops T T' a O gain c V apart loops_apart w k

  -- the credit of two parts
  abbrev Two : ℕ → ℕ → ℕ → Type 0
  Two v w k = (v * c + w * c ≤ k) × Pays1 v (v * c) × Pays1 w (w * c)

  two_paid : (v w k : ℕ) → Pays1 (v + w) k → Two v w k
  two_paid v w k p = (trees.splits r loops T T' a O gain c V apart loops_apart v w k p, trees.paid_left r loops T T' a O gain c V apart loops_apart v w k p, trees.paid_right r loops T T' a O gain c V apart loops_apart v w k p)

  left : (v w k : ℕ) → Pays1 (v + w) k → Pays1 v k
  left v w k p = trees.pays_left r loops T T' a O gain c V apart loops_apart v w k p

  right : (v w k : ℕ) → Pays1 (v + w) k → Pays1 w k
  right v w k p = trees.pays_right r loops T T' a O gain c V apart loops_apart v w k p

  again : (w k : ℕ) → Pays1 w k → Pays1 w gain.turns
  again w k p = trees.pays_again r loops T T' a O gain c V apart loops_apart w k p

  module _ (xs ls : Around) where
    read_here : (w : ℕ) (n : Node) (s : Span) {p p' : tree.Place} → Rooted r xs p p' → Whole1 xs ls w (elaborated.place_value T n p) (elaborated.place_value T' (node_at r n s) p')
    read_here w n s h k q = trees.place_value_like r loops T T' a O gain c V apart loops_apart xs ls (renumbered {n = n} {s = s}) h

    passed_here : {k : ℕ} (n : Node) (s : Span) {e e' : tree.Exp} → LikeExp r.items O gain V k (jumps loops ls) (sights r xs) e e' → LikeExp r.items O gain V k (jumps loops ls) (sights r xs) (elaborated.value_of T n e) (elaborated.value_of T' (node_at r n s) e')
    passed_here n s h = trees.value_of_like r loops T T' a O gain c V apart loops_apart xs ls (renumbered {n = n} {s = s}) h

    matched_here : {w : ℕ} {e e' : Exp} → RenumberedExp r loops H e e' → Exp1 xs ls w e e' → (k : ℕ) → Pays1 w k
        → trees.MatchedHere r loops T T' a O gain c V apart loops_apart xs ls k (elaborated.matched T e (elaborated.value T e)) (elaborated.matched T' e' (elaborated.value T' e'))
    matched_here {e = e} {e' = e'} h g k p = trees.matched_like r loops T T' a O gain c V apart loops_apart xs ls e e' (placed_alike h) (at_node h) g k p

    -- what follows `else`, a `return` or statements
    nothing_there : Else1 xs ls 0 named.absent named.absent
    nothing_there n n' = ((λ k p. units), (λ k p. units), (λ k p. units))

    something_there : {w : ℕ} {e e' : Exp} → Exp1 xs ls w e e' → Else1 xs ls w (named.present e) (named.present e')
    something_there h n n' = (h.value, h.value, h.value)

  module _ (holes : TreesThere) where
    mutual
      pub exp_asks : (f : ℕ) (xs ls : Around) {e e' : Exp} (h : RenumberedExp r loops H e e') → ScopedExp xs ls e → Wants (Exp1 xs ls (holes_in h) e e') (rules.of_exp f e)
      exp_asks f xs ls (like.RenumberedExp.hole {e = e} {e' = e'} h) z = holes.expression f xs ls e e' h z
      exp_asks f xs ls (like.RenumberedExp.int {n = n} {s = s} {m = m} {v = v} {k = j}) z =
          asks_map (λ x. no_place (named.int n m v j) _ refl x (λ k p. trees.int_like r loops T T' a O gain c V apart loops_apart xs ls v (renumbered {n = n} {s = s}))) (integer_asks n m v j)
      exp_asks f xs ls (like.RenumberedExp.bool {n = n} {s = s} {b = b}) z = asks_map (λ x. no_place (named.bool n b) _ refl x (λ k p. builds tt no_operands)) (own_asks n op.Truth [])
      exp_asks f xs ls (like.RenumberedExp.tuple {n = n} {s = s} {es = es} h) z =
          asks_map (λ x. no_place (named.tuple n es) _ refl x.1.0 (λ k p. trees.tuple_like r loops T T' a O gain c V apart loops_apart xs ls n (node_at r n s) (operands_complete T es) (x.0 k p)))
          (both (all_asks f rules.members 0 xs ls h z) (both (own_asks n op.Tuple _) (quiet n _ _ _)))
      exp_asks f xs ls (like.RenumberedExp.var {n = n} {s = s} {x = x}) z =
          asks_map (λ _. let q = own_rooted r x.number z in a_place (named.var n x) (named.var (node_at r n s) (use_at r x)) refl q (read_here xs ls 0 n s q)) (then_u (named_u n x x.known) (place_u n _ _ n.site))
      exp_asks f xs ls (like.RenumberedExp.other_var {n = n} {s = s} {x = x} {m = m} {k = j} _) z =
          asks_map (λ _. let q = own_rooted r x.number z in a_place (named.var n x) (named.var (node_at r n s) (use_so r m j x)) refl q (read_here xs ls 0 n s q)) (then_u (named_u n x x.known) (place_u n _ _ n.site))
      exp_asks f xs ls (like.RenumberedExp.field {n = n} {s = s} {e = e} {e' = e'} {x = x} h) z =
          asks_map (λ g. let q = rooted_under r (root_of z.1 g) (field_steps r T T' a x (at_node h)) in a_place (named.field n e x) (named.field (node_at r n s) e' x) refl q (read_here xs ls (holes_in h) n s q))
          (then_first (exp_asks f xs ls h z.0) (then_u (quiet n _ _ _) (place_u n _ _ n.site)))
      exp_asks f xs ls (like.RenumberedExp.part {n = n} {s = s} {e = e} {e' = e'} {i = i} h) z =
          asks_map (λ g. let q = rooted_under r (root_of z.1 g) (part_steps r T T' a i (at_node h)) in a_place (named.part n e i) (named.part (node_at r n s) e' i) refl q (read_here xs ls (holes_in h) n s q))
          (then_first (exp_asks f xs ls h z.0) (then_u (quiet n _ _ _) (place_u n _ _ n.site)))
      exp_asks f xs ls (like.RenumberedExp.deref {n = n} {s = s} {e = e} {e' = e'} h) z =
          asks_map (λ g. let q = rooted_under r (root_of z.1 g) (deref_steps r T T' a (at_node h)) in a_place (named.deref n e) (named.deref (node_at r n s) e') refl q (read_here xs ls (holes_in h) n s q))
          (then_first (exp_asks f xs ls h z.0) (then_u (quiet n _ _ _) (place_u n _ _ n.site)))
      exp_asks f xs ls (like.RenumberedExp.negate {n = n} {s = s} {e = e} h) z =
          asks_map (λ g. no_place (named.negate n e) _ refl g.1 (λ k p. builds tt (trees.one_like r loops T T' a O gain c V apart loops_apart xs ls (g.0.value k p)))) (both (exp_asks f xs ls h z) (negated_asks n (node_of e) (never e)))
      exp_asks f xs ls (like.RenumberedExp.invert {n = n} {s = s} {e = e} h) z =
          asks_map (λ g. no_place (named.invert n e) _ refl g.1 (λ k p. builds tt (trees.one_like r loops T T' a O gain c V apart loops_apart xs ls (g.0.value k p)))) (both (exp_asks f xs ls h z) (inverted_asks n (node_of e) (never e)))
      exp_asks f xs ls (like.RenumberedExp.borrow {n = n} {s = s} {m = m} {e = e} h) z =
          asks_map (λ g. no_place (named.borrow n m e) _ refl g.1 (λ k p. passed_here xs ls n s (borrows (place_for r (use_of m) (root_of z.1 g.0)))))
          (both (exp_asks f xs ls h z.0) (borrowed_asks n m (node_of e) (root e) _))
      exp_asks f xs ls (like.RenumberedExp.binary {n = n} {s = s} {o = o} {a = x} {b = y} h h') z =
          asks_map (λ g. no_place (named.binary n o x y) _ refl g.1.1 (λ k p. let q = two_paid (holes_in h) (holes_in h') k p in
          trees.operated_like r loops T T' a O gain c V apart loops_apart xs ls n (node_at r n s) o (holes_in h * c) (holes_in h' * c) q.0 (g.0.value _ q.1) (g.1.0.value _ q.2)))
          (both (exp_asks f xs ls h z.0) (both (exp_asks f xs ls h' z.1) (operation_asks o n (node_of x) (never x) (node_of y) (never y))))
      exp_asks f xs ls (like.RenumberedExp.assign {n = n} {s = s} {p = y} {e = e} h h') z =
          asks_map (λ g. no_place (named.assign n y e) _ refl g.1.1 (λ k p. assigns (place_for r writing (root_of z.0.1 g.0)) (g.1.0.value k (right (holes_in h) (holes_in h') k p))))
          (both (exp_asks f xs ls h z.0.0) (then_second (quiet (node_of e) _ _ _) (both (exp_asks f xs ls h' z.1) (then_second (assignable_u n (is_variable y) (root y) _) (own_asks n op.Unit [])))))
      exp_asks f xs ls (like.RenumberedExp.gives {n = n} {p = y} {s = s} {x = x} {d = d} {e = e} h) z =
          asks_map (λ g. no_place (named.gives n y x d e) _ refl g.1 (λ k p. assigns (place_for r writing (own_rooted r x.number z.0)) (g.0.value k p)))
          (both (exp_asks f xs ls h z.1) (then_second (given_u n y x d (node_of e) (never e)) (own_asks n op.Unit [])))
      exp_asks f xs ls (like.RenumberedExp.assigns {n = n} {p = y} {s = s} {x = x} {d = d} {e = e} {e' = e'} _ h) z =
          asks_map (λ g. no_place (named.gives n y x d e) _ refl g.1 (λ k p. assigns (place_for r writing (own_rooted r x.number z.0))
          (subst (λ (i : tree.Exp). LikeExp r.items O gain V k (jumps loops ls) (sights r xs) (elaborated.value T e) i) (sym (value_same T' e')) (g.0.value k p))))
          (both (exp_asks f xs ls h z.1) (then_second (given_u n y x d (node_of e) (never e)) (own_asks n op.Unit [])))
      exp_asks f xs ls (like.RenumberedExp.update {n = n} {s = s} {o = o} {p = y} {e = e} h h') z =
          asks_map (λ g. no_place (named.update n o y e) _ refl g.1.1 (λ k p. updates (place_for r looking (root_of z.0.1 g.0)) (place_for r writing (root_of z.0.1 g.0)) (g.1.0.value k (right (holes_in h) (holes_in h') k p))))
          (both (exp_asks f xs ls h z.0.0) (both (exp_asks f xs ls h' z.1) (then_second (updated_u n (node_of y) (never y) (node_of e) (never e)) (then_second (assignable_u n (is_variable y) (root y) _) (own_asks n op.Unit [])))))
      exp_asks f xs ls (like.RenumberedExp.call {n = n} {s = s} {g = i} {es = es} h) z =
          asks_map (λ g. no_place (named.call n i es) _ refl g.1 (λ k p. passed_here xs ls n s (calls (g.0 k p)))) (then_second (quiet n _ _ _) (both (all_asks f (rules.parameters i) 0 xs ls h z) (own_asks n (op.Result i) [])))
      exp_asks f xs ls (like.RenumberedExp.hidden_call {n = n} {s = s} {es = es} h) z = asks_map (λ g. absurd g) (then_first (refused n _) (all_asks f rules.values 0 xs ls h z))
      exp_asks f xs ls (like.RenumberedExp.next_input {n = n} {s = s}) z = asks_map (λ x. no_place (named.next_input n) _ refl x (λ k p. inputs)) (own_asks n (op.Integer Kind.I64) [])
      exp_asks f xs ls (like.RenumberedExp.variant {n = n} {s = s} {i = i} {v = v} {es = es} h) z =
          asks_map (λ g. no_place (named.variant n i v es) _ refl g.1 (λ k p. builds_variants (operands_complete T es) (g.0 k p)))
          (then_second (quiet n _ _ _) (both (all_asks f (rules.parts_of i v) 0 xs ls h z) (own_asks n (op.Item i) [])))
      exp_asks f xs ls (like.RenumberedExp.make {n = n} {s = s} {i = i} {fs = fs} h) z =
          asks_map (λ g. no_place (named.make n i fs) _ refl g.1.1 (λ k p. builds_structs (fields_complete T fields_apart i fs g.0) (g.1.0 k p)))
          (both (has_fields_asks n _ i (rules.names_given fs)) (both (fields_asks f i xs ls h z) (own_asks n (op.Item i) [])))
      exp_asks f xs ls (like.RenumberedExp.print {n = n} {s = s} {e = e} h) z =
          asks_map (λ g. no_place (named.print n e) _ refl g.1 (λ k p. prints (g.0.value k p))) (both (exp_asks f xs ls h z) (then_second (printed_u (node_of e) (never e)) (own_asks n op.Unit [])))
      exp_asks f xs ls (like.RenumberedExp.block {n = n} {s = s} {b = b} h) z =
          asks_map (λ g. no_place (named.block n b) _ refl g.1 g.0.value)
          (then_second (before_u n n.site (body_node b)) (both (body_asks f xs ls h z) (then_second (after_u n n.site (body_never b) (body_node b)) (join_asks n (body_never b)))))
      exp_asks f xs ls (like.RenumberedExp.if {n = n} {s = s} {c = x} {b = b} {o = o} h h' l) z =
          asks_map (λ g. no_place (named.if n x b o) _ refl g.1.1 (λ k p. let q = two_paid (holes_in h) (holes_in_body h' + holes_in_else l) k p in
          trees.tests_like r loops T T' a O gain c V apart loops_apart xs ls n (node_at r n s) (holes_in h * c) ((holes_in_body h' + holes_in_else l) * c) q.0 (g.0.value _ q.1)
          (g.1.0.0.value _ (left (holes_in_body h') (holes_in_else l) _ q.2)) ((g.1.0.1 n (node_at r n s)).0 _ (right (holes_in_body h') (holes_in_else l) _ q.2))))
          (both (exp_asks f xs ls h z.0) (then_second (tested_u (node_of x) (never x)) (branches f n b o (body_asks f xs ls h' z.1) (else_asks f n xs ls l z.2))))
      exp_asks f xs ls (like.RenumberedExp.if_let {n = n} {s = s} {p = y} {e = e} {b = b} {o = o} j h h' l) z =
          asks_map (λ g. no_place (named.if_let n y e b o) _ refl g.1.1 (λ k p. let q = two_paid (holes_in h) (holes_in_body h' + holes_in_else l) k p in let m = matched_here xs ls h g.0 _ q.1 in
          trees.looks_like r loops T T' a O gain c V apart loops_apart xs ls (holes_in h * c) ((holes_in_body h' + holes_in_else l) * c) q.0 j z.0 m.0 m.1
          (g.1.0.0.value _ (left (holes_in_body h') (holes_in_else l) _ q.2)) ((g.1.0.1 n (node_at r n s)).0 _ (right (holes_in_body h') (holes_in_else l) _ q.2))))
          (both (exp_asks f xs ls h z.1) (then_second (not_never_u (node_of e) (never e)) (then_second (whole_u (rules.matched e) _ y) (branches f n b o (body_asks f (entered xs (variables y)) ls h' z.2) (else_asks f n xs ls l z.3)))))
      exp_asks f xs ls (like.RenumberedExp.match {n = n} {s = s} {e = e} {l = l} h h') z =
          asks_map (λ g. no_place (named.match n e l) _ refl g.1.1 (λ k p. let q = two_paid (holes_in h) (holes_in_arms h') k p in let m = matched_here xs ls h g.0 _ q.1 in
          chooses (holes_in h * c) (holes_in_arms h' * c) q.0 m.0 (g.1.0 _ _ m.1 _ q.2)))
          (both (exp_asks f xs ls h z.0) (then_second (not_never_u (node_of e) (never e)) (both (arms_asks f n (rules.matched e) (node_of e) xs ls h' z.1) (join_asks n (named.all_never l)))))
      exp_asks f xs ls (like.RenumberedExp.loop {n = n} {s = s} {l = l} {k = j} {b = b} h) z =
          asks_map (λ g. no_place (named.loop n l j b) _ refl g.1 (λ k p. trees.loop_like r loops T T' a O gain c V apart loops_apart xs ls z.0 (g.0.value gain.turns (again (holes_in_body h) k p))))
          (both (body_asks f xs (l ∷ ls) h z.1) (then_second (unit_u (body_node b) (body_never b)) (loop_asks n j)))
      exp_asks f xs ls (like.RenumberedExp.while {n = n} {s = s} {l = l} {c = x} {b = b} h h') z =
          asks_map (λ g. no_place (named.while n l x b) _ refl g.1.1 (λ k p. let q = two_paid (holes_in h) (holes_in_body h') gain.turns (again (holes_in h + holes_in_body h') k p) in
          trees.loop_like r loops T T' a O gain c V apart loops_apart xs ls z.0 (trees.tests_like r loops T T' a O gain c V apart loops_apart xs (l ∷ ls) n (node_at r n s) (holes_in h * c) (holes_in_body h' * c) q.0 (g.0.value _ q.1) (g.1.0.value _ q.2)
          (trees.leaves_like r loops T T' a O gain c V apart loops_apart xs (l ∷ ls) n (node_at r n s) (inl refl)))))
          (both (exp_asks f xs (l ∷ ls) h z.1) (then_second (tested_u (node_of x) (never x)) (both (body_asks f xs (l ∷ ls) h' z.2) (then_second (unit_u (body_node b) (body_never b)) (own_asks n op.Unit [])))))
      exp_asks f xs ls (like.RenumberedExp.while_let {n = n} {s = s} {l = l} {p = y} {e = e} {b = b} j h h') z =
          asks_map (λ g. no_place (named.while_let n l y e b) _ refl g.1.1 (λ k p. let q = two_paid (holes_in h) (holes_in_body h') gain.turns (again (holes_in h + holes_in_body h') k p) in let m = matched_here xs (l ∷ ls) h g.0 _ q.1 in
          trees.loop_like r loops T T' a O gain c V apart loops_apart xs ls z.0 (trees.looks_like r loops T T' a O gain c V apart loops_apart xs (l ∷ ls) (holes_in h * c) (holes_in_body h' * c) q.0 j z.1 m.0 m.1 (g.1.0.value _ q.2)
          (trees.leaves_like r loops T T' a O gain c V apart loops_apart xs (l ∷ ls) n (node_at r n s) (inl refl)))))
          (both (exp_asks f xs (l ∷ ls) h z.2) (then_second (not_never_u (node_of e) (never e)) (then_second (whole_u (rules.matched e) _ y) (both (body_asks f (entered xs (variables y)) (l ∷ ls) h' z.3) (then_second (unit_u (body_node b) (body_never b)) (own_asks n op.Unit []))))))
      exp_asks f xs ls (like.RenumberedExp.break {n = n} {s = s} {l = l}) z = asks_map (λ x. no_place (named.break n l) _ refl x (λ k p. stays (led loops ls l z))) (never_asks n n.site)
      exp_asks f xs ls (like.RenumberedExp.continue {n = n} {s = s} {l = l}) z = asks_map (λ x. no_place (named.continue n l) _ refl x (λ k p. stays (led loops ls l z))) (never_asks n n.site)
      exp_asks f xs ls (like.RenumberedExp.return {n = n} {s = s} {o = o} k h) z =
          asks_map (λ g. no_place (named.return n o) _ refl g.1 (λ k p. gives refl ((g.0 n (node_at r n s)).1 k p))) (then_second (returns_u f n o) (both (returned_asks f xs ls h z) (never_asks n n.site)))

      all_asks : (f : ℕ) (y : rules.Listed) (k : ℕ) (xs ls : Around) {es es' : Exps} (h : RenumberedExps r loops H es es') → ScopedExps xs ls es
          → Wants (trees.AllWhole r loops T T' a O gain c V apart loops_apart xs ls (holes_in_all h) (elaborated.operands T k es) (elaborated.operands T' k es')) (rules.of_each f y k es)
      all_asks f y k xs ls like.RenumberedExps.no_exp z = asks_map (λ _ j p. no_operands) none
      all_asks f y k xs ls (like.RenumberedExps.exp_and {e = e} h hs) z =
          asks_map (λ g j p. let q = two_paid (holes_in h) (holes_in_all hs) j p in operands_and _ _ q.0 (g.0.value _ q.1) (g.1 _ q.2))
          (then_second (each_before_u y k (node_of e)) (both (exp_asks f xs ls h z.0) (then_second (each_after_u y e) (all_asks f y (suc k) xs ls hs z.1))))

      fields_asks : (f i : ℕ) (xs ls : Around) {fs fs' : Fields} (h : RenumberedFields r loops H fs fs') → ScopedFields xs ls fs
          → Wants (trees.AllWhole r loops T T' a O gain c V apart loops_apart xs ls (holes_in_fields h) (elaborated.fields T i fs) (elaborated.fields T' (r.items i) fs')) (rules.of_fields f i fs)
      fields_asks f i xs ls like.RenumberedFields.no_field z = asks_map (λ _ j p. no_operands) none
      fields_asks f i xs ls (like.RenumberedFields.field_and {x = x} {e = e} {e' = e'} {fs = fs} {fs' = fs'} h hs) z =
          asks_map (λ g j p. let q = two_paid (holes_in h) (holes_in_fields hs) j p in
          subst (λ (n : ℕ). LikeAll r.items O gain V j (jumps loops ls) (sights r xs) (tree.operand_and (elaborated.field_in T.items (types.named i) x) (elaborated.value T e) (elaborated.fields T i fs)) (tree.operand_and n (elaborated.value T' e') (elaborated.fields T' (r.items i) fs')))
          (sym (field_in_at r T T' a (types.named i) x)) (operands_and _ _ q.0 (g.0.value _ q.1) (g.1 _ q.2)))
          (then_second (quiet (node_of e) _ _ _) (both (exp_asks f xs ls h z.0) (fields_asks f i xs ls hs z.1)))

      else_asks : (f : ℕ) (n : Node) (xs ls : Around) {o o' : Else} (h : RenumberedElse r loops H o o') → ScopedElse xs ls o → Wants (Else1 xs ls (holes_in_else h) o o') (rules.of_else f n o)
      else_asks f n xs ls like.RenumberedElse.absent z = asks_map (λ _. nothing_there xs ls) none
      else_asks f n xs ls (like.RenumberedElse.present {e = e} h) z = asks_map (λ g. something_there xs ls g) (then_second (before_u n n.site (node_of e)) (then_first (exp_asks f xs ls h z) (after_u n n.site (never e) (node_of e))))

      returned_asks : (f : ℕ) (xs ls : Around) {o o' : Else} (h : RenumberedElse r loops H o o') → ScopedElse xs ls o → Wants (Else1 xs ls (holes_in_else h) o o') (rules.of_returned f o)
      returned_asks f xs ls like.RenumberedElse.absent z = asks_map (λ _. nothing_there xs ls) none
      returned_asks f xs ls (like.RenumberedElse.present h) z = asks_map (λ g. something_there xs ls g) (exp_asks f xs ls h z)

      arms_asks : (f : ℕ) (n : Node) (s : rules.Matched) (m : Node) (xs ls : Around) {l l' : Arms} (h : RenumberedArms r loops H l l') → ScopedArms xs ls l
          → Wants (trees.AlikeArms r loops T T' a O gain c V apart loops_apart xs ls (holes_in_arms h) l l') (rules.of_arms f n s m l)
      arms_asks f n s m xs ls like.RenumberedArms.no_arm z = asks_map (λ _ v v' at k p. no_arms) none
      arms_asks f n s m xs ls (like.RenumberedArms.arm_and {p = y} {e = e} j h hs) z =
          asks_map (λ g v v' at k p. let b = (pattern_like r T T' a itself j).at [] [] no_steps in
          arms_and (sights r (entered xs (variables y))) (tests_at r xs at b.0) (bindings_at r apart V b.1 xs at z.0) (g.0.value k (left (holes_in h) (holes_in_arms hs) k p)) (g.1 v v' at k (right (holes_in h) (holes_in_arms hs) k p)))
          (then_second (whole_u s _ y) (then_second (before_u n n.site (node_of e)) (both (exp_asks f (entered xs (variables y)) ls h z.1) (then_second (after_u n n.site (never e) (node_of e)) (arms_asks f n s m xs ls hs z.2)))))

      pub body_asks : (f : ℕ) (xs ls : Around) {b b' : Body} (h : RenumberedBody r loops H b b') → ScopedBody xs ls b → Wants (Body1 xs ls (holes_in_body h) b b') (rules.of_body f b)
      body_asks f xs ls (like.RenumberedBody.other_block {b = b} {b' = b'} h) z = holes.block f xs ls b b' h z
      body_asks f xs ls (like.RenumberedBody.body {n = n} {s = s} {ss = ss} {o = o} hs h) z =
          asks_map (λ g. record {
            value = λ k p. blocks (g.0 _ _ (holes_in_else h) (g.1 n (node_at r n s)).2 k p);
            whole = λ k p. blocks (g.0 _ _ (holes_in_else h) (λ j q. gives refl ((g.1 n (node_at r n s)).2 j q)) k p);
          })
          (both (statements_asks f xs ls hs z.0) (then_second (tail_before_u n o) (then_first (returned_asks f (behind_all xs ss) ls h z.1)
          (then_u (tail_after_u n (some_diverges ss) o) (join_asks n (named.tail_never (some_diverges ss) o))))))

      statement_asks : (f : ℕ) (xs ls : Around) {x x' : Statement} (h : RenumberedStatement r loops H x x') → ScopedStatement xs ls x
          → Wants (trees.AlikeStatement r loops T T' a O gain c V apart loops_apart xs ls (holes_in_statement h) x x') (rules.of_statement f x)
      statement_asks f xs ls (like.RenumberedStatement.declares {n = n} {s = s} {p = y} {p' = y'} {t = t} h _) z =
          asks_map (λ _ rest rest' u later k p.
          subst (λ (ys : List ℕ). LikeBody r.items O gain V k (jumps loops ls) (sights r xs) (tree.declares n.number (variables y) rest) (tree.declares (r.nodes n.number) ys rest')) (sym (variables_at r h))
          (declares_all (sights r (entered xs (variables y))) (declared_at r apart V (variables y) xs z) (later k (right 0 u k p)))) (declared_u y t)
      statement_asks f xs ls (like.RenumberedStatement.lets {n = n} {s = s} {p = y} {t = t} {e = e} h _ h') z =
          asks_map (λ g rest rest' u later k p. let q = two_paid (holes_in h') u k p in let m = matched_here xs ls h' g _ q.1 in let b = (pattern_like r T T' a itself h).at [] [] no_steps in
          lets_in (sights r (entered xs (variables y))) _ _ q.0 m.0 (bindings_at r apart V b.1 xs m.1 z.0) (later _ q.2))
          (then_second (typed_before_u t e) (then_first (exp_asks f xs ls h' z.1) (initialised_u y t e)))
      statement_asks f xs ls (like.RenumberedStatement.evaluates {n = n} {s = s} {e = e} {c = b} h) z =
          asks_map (λ g rest rest' u later k p. let q = two_paid (holes_in h) u k p in runs_on _ _ q.0 (g.value _ q.1) (later _ q.2)) (then_first (exp_asks f xs ls h z) (evaluated_u b (node_of e) (never e)))

      statements_asks : (f : ℕ) (xs ls : Around) {ss ss' : Statements} (h : RenumberedStatements r loops H ss ss') → ScopedStatements xs ls ss
          → Wants (trees.AlikeStatements r loops T T' a O gain c V apart loops_apart xs ls (holes_in_statements h) ss ss') (rules.of_statements f ss)
      statements_asks f xs ls like.RenumberedStatements.no_statement z = asks_map (λ _ last last' u at k p. ends_in (at k (right 0 u k p))) none
      statements_asks f xs ls (like.RenumberedStatements.statement_and {a = x} {ss = ss} h hs) z =
          asks_map (λ g last last' u at k p. g.0 _ _ (holes_in_statements hs + u) (g.1 last last' u at) k (subst (λ (w : ℕ). Pays1 w k) (add_assoc (holes_in_statement h) (holes_in_statements hs) u) p))
          (both (statement_asks f xs ls h z.0) (statements_asks f (behind xs x) ls hs z.1))
