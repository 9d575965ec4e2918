-- The walk over expressions, blocks and statements.
use Rattle.std.proofs.Common.{◌≡◌, ℕ, suc, ◌≤◌, Bool, true, false, ◌&&◌, List, [], ◌∷◌, ◌++◌, length, length-set, Option, Some, None, refl, sym, ap, subst, ◌∙◌, append_assoc, ◌⊎◌, inl, inr, ⊎_elim, arith}
use Rattle.rx_core.specs.declared.types.Span.{Span}
use Rattle.rx_tree.specs.Plain as plain
use Rattle.rx_tree.specs.Plain.{TypeTree, PatternTree, Expression, Expressions, OptionalExpression, OptionalExpressions, FieldExpressions, Statement, Statements}
use Rattle.rx_typed.specs.declared.nodes.Node.{Node}
use Rattle.rx_typed.specs.declared.nodes.Site.{Site}
use Rattle.rx_typed.specs.declared.nodes.Use.{Use}
use Rattle.rx_typed.specs.declared.nodes.Stage.{Stage}
use Rattle.rx_typed.specs.declared.nodes.Declaration.{Declaration}
use Rattle.rx_typed.specs.Named as named
use Rattle.rx_typed.specs.Named.{Written, Pattern, Exp, Exps, Body, Statements as NamedStatements, node_of, body_node, written_node, is_variable, root, never, body_never, else_never, all_never, some_diverges, tail_never}
use Rattle.rx_typed.specs.Naming as naming
use Rattle.rx_typed.specs.Naming.{Cursor, a_node, an_entry, declaration, passed_on, of_pattern}
use Rattle.rx_typeck_solver.specs.declared.facts.Rule.{Rule}
use Rattle.rx_typeck_solver.specs.declared.facts.Subject.TheVariants as subject
use Rattle.rx_typeck_solver.specs.declared.facts.Op.TheVariants as op
use Rattle.rx_typeck_solver.specs.declared.facts.Test.TheVariants as test
use Rattle.rx_typeck_solver.specs.declared.facts.Fact.TheVariants as fact
use Rattle.rx_typeck_solver.specs.declared.facts.Demand.{Demand}
use Rattle.rx_typeck_solver.specs.Facts.{Assignment, KnownItems}
use Rattle.rx_typeck_solver.specs.Valid.{IsIn}
use Rattle.rx_typeck_typed.specs.Asking.{Asking, ask, type_of}
use Rattle.rx_typeck_typed.specs.Demands as rules
use Rattle.rx_typeck_typed.specs.Demands.{Listed, members, values, parameters, parts_of, through, matched, a_value}
use Rattle.rx_typeck_typed.specs.Nodes.{unless, type_nodes, pattern_nodes, exp_nodes, exps_nodes, else_nodes, fields_nodes, arms_nodes, body_nodes, statement_nodes, statements_nodes}
use Rattle.rx_typeck_typed.proofs.Adding
use Rattle.rx_typeck_typed.proofs.Adding.{Longer, Adds, longer_same, asks_add, exp_adds}
use Rattle.rx_typeck_typed.proofs.Telling.{Sure, sure_longer, sure_asked, named_sure, in_left, whole_type_told, whole_told, body_sure, exp_sure}
use Rattle.rx_typeck_typed.proofs.Stages.{stage, Counted, waits_within, set_cases, Still, still_then, node_still, entry_still, type_still, pattern_declares}
use Rattle.rx_typeck_typed.proofs.Walks.{Later, Walk, walk_then, still_walk, walk_nodes, walk_more, walk_own, scope_walk, waiting_walk}

-- the site of the elements of a list
abbrev list_site : Listed → Site
list_site members = Site.Value
list_site values = Site.Value
list_site (parameters g) = Site.Expects
list_site (parts_of i v) = Site.Expects

-- ---- a variable that waits for its type

waiting_is : (x : ℕ) (st : Stage) (k : ℕ × ℕ) → naming.waiting x st ≡ Some k → (s : Span) × (st ≡ Stage.Waits k.1 s)
waiting_is x (Stage.Waits p s) k e =
    let same : (x, p) ≡ k = cc in
    (s, ap (λ (k : ℕ × ℕ). Stage.Waits k.1 s) same)
waiting_is x Stage.Given k e = absurd (cc)
waiting_is x Stage.Known k e = absurd (cc)

-- only a whole variable waits, and naming it changes none
waits_cases : (p : Expression) (m : Bool) (t : Site) (c : Cursor)
    → Still c (naming.of_expression m t p c).1 ⊎ (naming.waits_in p (root (naming.of_expression m t p c).0).number (naming.of_expression m t p c).1 ≡ None)
waits_cases (plain.var s x) m t c = inl (still_then (node_still s t c) (entry_still (a_node s t c).1))
waits_cases _ m t c = inr refl

same_waits : (a b : ℕ) (s q : Span) → Stage.Waits a s ≡ Stage.Waits b q → a ≡ b
same_waits a b s q e = cc

pub known_waits : {A : Type 0} (n : ℕ) (s : Span) → Stage.Known ≡ Stage.Waits n s → A
known_waits n s e = absurd (cc)

pub known_no_given : {A : Type 0} → Stage.Known ≡ Stage.Given → A
known_no_given e = absurd (cc)

module _ (K : KnownItems) (A : Assignment) where
  pub stay : (c : Cursor) (ds : List Demand) → Counted c → Walk K A c ds c ds []
  stay c ds h = still_walk K A c c ds ds h (record { variables = refl; declared = refl }) (longer_same ds)

  -- only asked
  pub asked : (c : Cursor) (ds : List Demand) (f : Asking) → Adds f → Counted c → Walk K A c ds c (f ds) []
  asked c ds f a h = still_walk K A c c ds (f ds) h (record { variables = refl; declared = refl }) (a ds)

  -- only moved
  pub moved : (c c' : Cursor) (ds : List Demand) → Still c c' → Counted c → Walk K A c ds c' ds []
  moved c c' ds s h = still_walk K A c c' ds ds h s (longer_same ds)

  pub node_walk : (s : Span) (t : Site) (c : Cursor) (ds : List Demand) → Counted c → Walk K A c ds (a_node s t c).1 ds []
  node_walk s t c ds h = moved c (a_node s t c).1 ds (node_still s t c) h

  walk_assoc : {c c' : Cursor} {ds ds' : List Demand} (a b d : List ℕ) → Walk K A c ds c' ds' ((a ++ b) ++ d) → Walk K A c ds c' ds' (a ++ (b ++ d))
  walk_assoc {c} {c'} {ds} {ds'} a b d w = subst (λ (ns : List ℕ). Walk K A c ds c' ds' ns) (append_assoc a b d) w

  -- an expression, behind its parts
  wrap : (s : Span) (t : Site) (c : Cursor) (f : ℕ) (E : Exp × Cursor) (ds ds1 : List Demand) (ns : List ℕ) → Counted c → Walk K A (a_node s t c).1 ds E.1 ds1 ns → Longer ds1 (rules.of_exp f E.0 ds)
      → Walk K A c ds E.1 (rules.of_exp f E.0 ds) (unless (never E.0) (node_of E.0) ++ ns)
  wrap s t c f E ds ds1 ns h w l = walk_own K A (never E.0) (node_of E.0) (λ e. exp_sure K A f E.0 ds e) (walk_more K A (walk_then K A (node_walk s t c ds h) w) l)

  -- one without parts
  leaf : (s : Span) (t : Site) (c : Cursor) (f : ℕ) (E : Exp × Cursor) (ds : List Demand) → Counted c → Still (a_node s t c).1 E.1 → Walk K A c ds E.1 (rules.of_exp f E.0 ds) (unless (never E.0) (node_of E.0) ++ [])
  leaf s t c f E ds h i = wrap s t c f E ds ds [] h (moved (a_node s t c).1 E.1 ds i h) (exp_adds f E.0 ds)

  pub type_walk : (y : TypeTree) (c : Cursor) (ds : List Demand) → Counted c → Walk K A c ds (naming.of_type y c).1 (rules.whole_type (naming.of_type y c).0 ds) (type_nodes (naming.of_type y c).0)
  type_walk y c ds h =
      let Y = naming.of_type y c in
      walk_nodes K A (type_nodes Y.0) (λ n i. inr (inl (whole_type_told K A Y.0 ds n i))) (still_walk K A c Y.1 ds (rules.whole_type Y.0 ds) h (type_still y c) (Adding.whole_type_adds Y.0 ds))

  -- ---- an assignment before which its variable waits for its type

  -- behind the right side: a variable that waits there is known from here on, and is told with its pattern's node
  known_walk : (x : ℕ) (w : ℕ × ℕ) (s : Span) (c : Cursor) (d1 d2 : List Demand) → Counted c → stage c.variables x ≡ Stage.Waits w.1 s → Longer d1 d2
      → Sure K A d2 (subject.Variable x) → Sure K A d2 (subject.Node w.1) → Walk K A c d1 (naming.set_stage x Stage.Known c).1 d2 []
  known_walk x w s c d1 d2 counted is l variable pattern = record {
    longer = l;
    grows = omega arith;
    counted = counted ∙ sym (length-set c.variables x d);
    waits = λ y k q h. ⊎_elim (λ a. inr (at_pattern y k q a.0 h)) (λ b. ⊎_elim (λ a. inl (a.1 ∙ h)) (λ a. inr (at_pattern y k q a.1 h)) b) (set_cases c.variables x d y);
    waiting = λ y k q h. ⊎_elim (λ a. known_waits k q (sym a.1 ∙ h)) (λ b. ⊎_elim (λ a. inl (sym a.1 ∙ h)) (λ a. inl (absurd (past y a.0 a.1))) b) (set_cases c.variables x d y);
    known = λ y h. ⊎_elim (λ a. inr (at_variable y a.0)) (λ b. ⊎_elim (λ a. inl (sym a.1 ∙ h)) (λ a. inr (at_variable y a.1)) b) (set_cases c.variables x d y);
    given = λ y i h. ⊎_elim (λ a. known_no_given (sym a.1 ∙ h)) (λ b. ⊎_elim (λ a. (i, sym a.1 ∙ h)) (λ a. absurd (past y a.0 a.1)) b) (set_cases c.variables x d y);
    nodes = λ k i. absurd i;
  }
    where
      d : Declaration
      d = record (declaration c x) { stage = Stage.Known }

      at_variable : (y : ℕ) → y ≡ x → Sure K A d2 (subject.Variable y)
      at_variable y q = subst (λ k. Sure K A d2 (subject.Variable k)) (sym q) variable

      at_pattern : (y k : ℕ) (q : Span) → y ≡ x → stage c.variables y ≡ Stage.Waits k q → Sure K A d2 (subject.Node k)
      at_pattern y k q i h = subst (λ k. Sure K A d2 (subject.Node k)) (same_waits w.1 k s q (sym is ∙ ap (stage c.variables) (sym i) ∙ h)) pattern

      past : (y : ℕ) → length c.variables ≤ y → y ≡ x → ⊥
      past y u i = let n = waits_within c.variables x w.1 s is in omega (arith, u, i, n)

  -- the assignment behind its right side; whether the variable waits there still
  gives_walk : (f : ℕ) (n p : Node) (x : ℕ) (c : Cursor) (E : Exp × Cursor) (ds : List Demand) (o : Option (ℕ × ℕ)) → naming.waiting x (declaration E.1 x).stage ≡ o
      → Walk K A c ds E.1 (rules.of_exp f E.0 ds) (exp_nodes true E.0)
      → let r = naming.given_here x o E.1 in Walk K A c ds r.1 (rules.of_exp f (named.gives n p (naming.use_of x (declaration E.1 x)) r.0 E.0) ds) (n.number ∷ p.number ∷ exp_nodes true E.0)
  gives_walk f n p x c E ds None is e = walk_nodes K A (n.number ∷ p.number ∷ exp_nodes true E.0) (λ k i. at k i) (walk_more K A e (Adding.longer_then d1 d2 d3 (Adding.given_adds n p u None (node_of E.0) (never E.0) d1) (Adding.own_adds n op.Unit [] d2)))
    where
      u : Use
      u = naming.use_of x (declaration E.1 x)

      d1 : List Demand
      d1 = rules.of_exp f E.0 ds

      d2 : List Demand
      d2 = rules.given n p u None (node_of E.0) (never E.0) d1

      d3 : List Demand
      d3 = rules.own n op.Unit [] d2

      name_told : Sure K A d3 (subject.Node p.number)
      name_told = sure_longer K A (Adding.own_adds n op.Unit [] d2) (sure_longer K A (Adding.fits_given_adds x (node_of E.0) (never E.0) _) (named_sure K A p u u.known d1))

      at : (k : ℕ) → IsIn k (n.number ∷ p.number ∷ exp_nodes true E.0) → IsIn k (exp_nodes true E.0) ⊎ Later K A E.1 d3 k
      at k (inl q) = inr (inl (subst (λ k. Sure K A d3 (subject.Node k)) (sym q) (exp_sure K A f (named.gives n p u None E.0) ds refl)))
      at k (inr (inl q)) = inr (inl (subst (λ k. Sure K A d3 (subject.Node k)) (sym q) name_told))
      at k (inr (inr i)) = inl i
  gives_walk f n p x c E ds (Some w) is e = walk_nodes K A (n.number ∷ p.number ∷ exp_nodes true E.0) (λ k i. at k i) (walk_then K A e (known_walk x w waits.0 E.1 d1 d3 e.counted waits.1 l variable_told pattern_told))
    where
      u : Use
      u = naming.use_of x (declaration E.1 x)

      waits : (s : Span) × (stage E.1.variables x ≡ Stage.Waits w.1 s)
      waits = waiting_is x (declaration E.1 x).stage w is

      d1 : List Demand
      d1 = rules.of_exp f E.0 ds

      d2 : List Demand
      d2 = rules.given n p u (Some w.1) (node_of E.0) (never E.0) d1

      d3 : List Demand
      d3 = rules.own n op.Unit [] d2

      l : Longer d1 d3
      l = Adding.longer_then d1 d2 d3 (Adding.given_adds n p u (Some w.1) (node_of E.0) (never E.0) d1) (Adding.own_adds n op.Unit [] d2)

      variable_told : Sure K A d3 (subject.Variable x)
      variable_told = sure_longer K A (Adding.own_adds n op.Unit [] d2) (sure_longer K A (asks_add p _ _ _ _) (sure_asked K A n _ _ _ (rules.not_never (node_of E.0) (never E.0) d1) (subject.Variable x) (inl refl)))

      name_told : Sure K A d3 (subject.Node p.number)
      name_told = sure_longer K A (Adding.own_adds n op.Unit [] d2) (sure_asked K A p _ _ _ _ (subject.Node p.number) (inl refl))

      pattern_told : Sure K A d3 (subject.Node w.1)
      pattern_told = sure_longer K A (Adding.own_adds n op.Unit [] d2) (sure_asked K A p _ _ _ _ (subject.Node w.1) (inr (inl refl)))

      at : (k : ℕ) → IsIn k (n.number ∷ p.number ∷ exp_nodes true E.0) → IsIn k (exp_nodes true E.0 ++ []) ⊎ Later K A (naming.set_stage x Stage.Known E.1).1 d3 k
      at k (inl q) = inr (inl (subst (λ k. Sure K A d3 (subject.Node k)) (sym q) (exp_sure K A f (named.gives n p u (Some w.1) E.0) ds refl)))
      at k (inr (inl q)) = inr (inl (subst (λ k. Sure K A d3 (subject.Node k)) (sym q) name_told))
      at k (inr (inr i)) = inl (in_left k (exp_nodes true E.0) [] i)

  -- ---- pieces of expressions, over what is shown of their parts

  -- the value of an assignment
  assigned_walk : (f : ℕ) (s : Span) (t : Site) (p e : Expression) (c : Cursor) (ds : List Demand) → Counted c
      → ((c : Cursor) (ds : List Demand) → Counted c → Walk K A c ds (naming.of_expression false Site.Place p c).1 (rules.of_exp f (naming.of_expression false Site.Place p c).0 ds) (exp_nodes true (naming.of_expression false Site.Place p c).0))
      → ((u : Site) (c : Cursor) (ds : List Demand) → Counted c → Walk K A c ds (naming.of_expression false u e c).1 (rules.of_exp f (naming.of_expression false u e c).0 ds) (exp_nodes true (naming.of_expression false u e c).0))
      → (o : Option (ℕ × ℕ)) → Still (a_node s t c).1 (naming.of_expression false Site.Place p (a_node s t c).1).1 ⊎ (o ≡ None)
      → Walk K A c ds (naming.assigned (a_node s t c).0 (naming.of_expression false Site.Place p (a_node s t c).1).0 o (λ u. naming.of_expression false u e) (naming.of_expression false Site.Place p (a_node s t c).1).1).1
      (rules.of_exp f (naming.assigned (a_node s t c).0 (naming.of_expression false Site.Place p (a_node s t c).1).0 o (λ u. naming.of_expression false u e) (naming.of_expression false Site.Place p (a_node s t c).1).1).0 ds)
      (exp_nodes true (naming.assigned (a_node s t c).0 (naming.of_expression false Site.Place p (a_node s t c).1).0 o (λ u. naming.of_expression false u e) (naming.of_expression false Site.Place p (a_node s t c).1).1).0)
  assigned_walk f s t p e c ds h place value None cases =
      let n = a_node s t c in
      let q = naming.of_expression false Site.Place p n.1 in
      let E = naming.of_expression false Site.Expects e q.1 in
      let a = place n.1 ds h in
      let m = node_of E.0 in
      let d1 = rules.of_exp f q.0 ds in
      let b = asked q.1 d1 (rules.expects m op.Same (type_of (node_of q.0) ∷ [])) (asks_add m _ _ _) a.counted in
      let v = value Site.Expects q.1 _ a.counted in
      wrap s t c f (named.assign n.0 q.0 E.0, E.1) ds _ _ h (walk_then K A a (walk_then K A b v)) (Adding.assign_behind n.0 (is_variable q.0) (root q.0) (through q.0) _)
  assigned_walk f s t p e c ds h place value (Some k) (inr none) = absurd (cc)
  assigned_walk f s t p e c ds h place value (Some k) (inl i) =
      let n = a_node s t c in
      let q = naming.of_expression false Site.Place p n.1 in
      let a = walk_then K A (node_walk s t c ds h) (moved n.1 q.1 ds i h) in
      let E = naming.of_expression false Site.Reborrows e q.1 in
      walk_then K A a (gives_walk f n.0 (node_of q.0) k.0 q.1 E ds (naming.waiting k.0 (declaration E.1 k.0).stage) refl (value Site.Reborrows q.1 ds a.counted))

  abbrev EachWalk : ℕ → Expressions → Type 0
  EachWalk f es = (w : Listed) (k : ℕ) (c : Cursor) (ds : List Demand) → Counted c
      → Walk K A c ds (naming.of_expressions (list_site w) es c).1 (rules.of_each f w k (naming.of_expressions (list_site w) es c).0 ds) (exps_nodes true (naming.of_expressions (list_site w) es c).0)

  called_walk : (f : ℕ) (s : Span) (t : Site) (es : Expressions) (c c1 : Cursor) (ds : List Demand) → Counted c → Still (a_node s t c).1 c1 → EachWalk f es → (k : List ℕ × Bool)
      → Walk K A c ds (naming.called (a_node s t c).0 k (λ u. naming.of_expressions u es) c1).1 (rules.of_exp f (naming.called (a_node s t c).0 k (λ u. naming.of_expressions u es) c1).0 ds)
      (exp_nodes true (naming.called (a_node s t c).0 k (λ u. naming.of_expressions u es) c1).0)
  called_walk f s t es c c1 ds h i each (ns, true) =
      let n = a_node s t c in
      let E = naming.of_expressions Site.Value es c1 in
      let a = moved n.1 c1 ds i h in
      let b = asked c1 ds (ask n.0 Rule.NotFunction (fact.Never ∷ [])) (asks_add n.0 _ _ _) a.counted in
      wrap s t c f (named.hidden_call n.0 E.0, E.1) ds _ _ h (walk_then K A a (walk_then K A b (each values 0 c1 _ a.counted))) (longer_same _)
  called_walk f s t es c c1 ds h i each (ns, false) =
      let n = a_node s t c in
      let g = naming.first ns in
      let E = naming.of_expressions Site.Expects es c1 in
      let a = moved n.1 c1 ds i h in
      let b = asked c1 ds (ask n.0 Rule.Count (fact.Passes (test.Takes g (rules.argument_count E.0)) [] [] [] ∷ [])) (asks_add n.0 _ _ _) a.counted in
      wrap s t c f (named.call n.0 g E.0, E.1) ds _ _ h (walk_then K A a (walk_then K A b (each (parameters g) 0 c1 _ a.counted))) (Adding.own_adds n.0 (op.Result g) [] _)

  -- a pattern and what is matched, in the scope in which the pattern's variables become known
  matched_walk : (p : PatternTree) (c : Cursor) (E : Exp × Cursor) (ds ds1 : List Demand) → Counted c → Walk K A (of_pattern p c).1 ds E.1 ds1 (exp_nodes true E.0)
      → Walk K A c ds (naming.known_between c.declared (of_pattern p c).1.declared E.1).1
      (rules.whole_pattern (matched E.0) (type_of (node_of E.0)) (of_pattern p c).0 (rules.not_never (node_of E.0) (never E.0) ds1)) (pattern_nodes (of_pattern p c).0 ++ exp_nodes true E.0)
  matched_walk p c E ds ds1 h w =
      scope_walk K A p c E.1 ds ds1 _ _ h w (Adding.scope_behind (node_of E.0) (never E.0) (matched E.0) (type_of (node_of E.0)) (of_pattern p c).0 ds1)
      (whole_told K A (matched E.0) (type_of (node_of E.0)) (of_pattern p c).0 (rules.not_never (node_of E.0) (never E.0) ds1))

  -- without a type: the variable waits where the value is Never
  initialised_walk : (p : PatternTree) (c : Cursor) (E : Exp × Cursor) (ds ds1 : List Demand) (v : Bool) → Counted c → Walk K A (of_pattern p c).1 ds E.1 ds1 (exp_nodes true E.0)
      → Walk K A c ds (naming.waits_if v (of_pattern p c).0 (naming.known_between c.declared (of_pattern p c).1.declared E.1).1).1
      (rules.initialised_by v (of_pattern p c).0 (matched E.0) (node_of E.0) ds1) (pattern_nodes (of_pattern p c).0 ++ exp_nodes true E.0)
  initialised_walk p c E ds ds1 true h w = waiting_walk K A p c E.1 ds ds1 _ h w
  initialised_walk p c E ds ds1 false h w =
      scope_walk K A p c E.1 ds ds1 _ _ h w (Adding.whole_adds (matched E.0) (type_of (node_of E.0)) (of_pattern p c).0 ds1) (whole_told K A (matched E.0) (type_of (node_of E.0)) (of_pattern p c).0 ds1)

  -- ---- expressions

  mutual
    pub exp_walk : (f : ℕ) (e : Expression) (m : Bool) (t : Site) (c : Cursor) (ds : List Demand) → Counted c
        → Walk K A c ds (naming.of_expression m t e c).1 (rules.of_exp f (naming.of_expression m t e c).0 ds) (exp_nodes true (naming.of_expression m t e c).0)
    exp_walk f (plain.int s v k) m t c ds h = leaf s t c f (naming.of_expression m t (plain.int s v k) c) ds h (record { variables = refl; declared = refl })
    exp_walk f (plain.bool s b) m t c ds h = leaf s t c f (naming.of_expression m t (plain.bool s b) c) ds h (record { variables = refl; declared = refl })
    exp_walk f (plain.tuple s es) m t c ds h =
        let n = a_node s t c in
        let X = naming.of_expressions Site.Value es n.1 in
        wrap s t c f (naming.of_expression m t (plain.tuple s es) c) ds _ _ h (each_walk f members 0 es n.1 ds h) (Adding.tuple_behind n.0 (rules.exp_nodes X.0) _)
    exp_walk f (plain.var s x) m t c ds h = leaf s t c f (naming.of_expression m t (plain.var s x) c) ds h (entry_still (a_node s t c).1)
    exp_walk f (plain.field s e x) m t c ds h =
        let n = a_node s t c in
        let X = naming.of_expression false Site.Place e n.1 in
        wrap s t c f (naming.of_expression m t (plain.field s e x) c) ds _ _ h (exp_walk f e false Site.Place n.1 ds h) (Adding.step_behind n.0 (op.Field x.name) (node_of X.0) _ _ n.0.site _)
    exp_walk f (plain.part s e i) m t c ds h =
        let n = a_node s t c in
        let X = naming.of_expression false Site.Place e n.1 in
        wrap s t c f (naming.of_expression m t (plain.part s e i) c) ds _ _ h (exp_walk f e false Site.Place n.1 ds h) (Adding.step_behind n.0 (op.Part i) (node_of X.0) _ _ n.0.site _)
    exp_walk f (plain.deref s e) m t c ds h =
        let n = a_node s t c in
        let X = naming.of_expression false Site.Place e n.1 in
        wrap s t c f (naming.of_expression m t (plain.deref s e) c) ds _ _ h (exp_walk f e false Site.Place n.1 ds h) (Adding.step_behind n.0 op.Pointee (node_of X.0) _ _ n.0.site _)
    exp_walk f (plain.negate s e) m t c ds h =
        let n = a_node s t c in
        let X = naming.of_expression true Site.Value e n.1 in
        wrap s t c f (naming.of_expression m t (plain.negate s e) c) ds _ _ h (exp_walk f e true Site.Value n.1 ds h) (Adding.negated_adds n.0 (node_of X.0) (never X.0) _)
    exp_walk f (plain.invert s e) m t c ds h =
        let n = a_node s t c in
        let X = naming.of_expression false Site.Value e n.1 in
        wrap s t c f (naming.of_expression m t (plain.invert s e) c) ds _ _ h (exp_walk f e false Site.Value n.1 ds h) (Adding.inverted_adds n.0 (node_of X.0) (never X.0) _)
    exp_walk f (plain.borrow s k e) m t c ds h =
        let n = a_node s t c in
        let X = naming.of_expression false Site.Place e n.1 in
        wrap s t c f (naming.of_expression m t (plain.borrow s k e) c) ds _ _ h (exp_walk f e false Site.Place n.1 ds h) (Adding.borrowed_adds n.0 k (node_of X.0) (root X.0) (through X.0) _)
    exp_walk f (plain.binary s o x y) m t c ds h =
        let n = a_node s t c in
        let X = naming.of_expression false Site.Value x n.1 in
        let Y = naming.of_expression false Site.Value y X.1 in
        let a = exp_walk f x false Site.Value n.1 ds h in
        wrap s t c f (naming.of_expression m t (plain.binary s o x y) c) ds _ _ h (walk_then K A a (exp_walk f y false Site.Value X.1 _ a.counted)) (Adding.operation_adds o n.0 (node_of X.0) (never X.0) (node_of Y.0) (never Y.0) _)
    exp_walk f (plain.assign s p e) m t c ds h =
        let n = a_node s t c in
        let q = naming.of_expression false Site.Place p n.1 in
        assigned_walk f s t p e c ds h (λ c ds h. exp_walk f p false Site.Place c ds h) (λ u c ds h. exp_walk f e false u c ds h) (naming.waits_in p (root q.0).number q.1) (waits_cases p false Site.Place n.1)
    exp_walk f (plain.update s o p e) m t c ds h =
        let n = a_node s t c in
        let P = naming.of_expression false Site.Place p n.1 in
        let X = naming.of_expression false Site.Value e P.1 in
        let a = exp_walk f p false Site.Place n.1 ds h in
        wrap s t c f (naming.of_expression m t (plain.update s o p e) c) ds _ _ h (walk_then K A a (exp_walk f e false Site.Value P.1 _ a.counted))
        (Adding.update_behind n.0 (node_of P.0) (never P.0) (node_of X.0) (never X.0) (is_variable P.0) (root P.0) (through P.0) _)
    exp_walk f (plain.call s g es) m t c ds h =
        let n = a_node s t c in
        let k = an_entry n.1 in
        called_walk f s t es c k.1 ds h (entry_still n.1) (λ w j c ds h. each_walk f w j es c ds h) k.0
    exp_walk f (plain.next_input s) m t c ds h = leaf s t c f (naming.of_expression m t (plain.next_input s) c) ds h (entry_still (a_node s t c).1)
    exp_walk f (plain.variant s x v es) m t c ds h =
        let n = a_node s t c in
        let k = an_entry n.1 in
        let i = naming.first k.0.0 in
        let j = naming.second k.0.0 in
        let X = naming.of_arguments es k.1 in
        let a = moved n.1 k.1 ds (entry_still n.1) h in
        let b = asked k.1 ds (ask n.0 Rule.Count (fact.Passes (test.Holds i j (rules.argument_count X.0)) [] [] [] ∷ [])) (asks_add n.0 _ _ _) a.counted in
        wrap s t c f (naming.of_expression m t (plain.variant s x v es) c) ds _ _ h (walk_then K A a (walk_then K A b (arguments_walk f i j es k.1 _ a.counted))) (Adding.own_adds n.0 (op.Item i) [] _)
    exp_walk f (plain.make s x fs) m t c ds h =
        let n = a_node s t c in
        let k = an_entry n.1 in
        let i = naming.first k.0.0 in
        let X = naming.of_fields fs k.1 in
        let a = moved n.1 k.1 ds (entry_still n.1) h in
        let b = asked k.1 ds (ask n.0 Rule.Fields (fact.Passes (test.HasFields i (rules.names_given X.0)) [] [] [] ∷ [])) (asks_add n.0 _ _ _) a.counted in
        wrap s t c f (naming.of_expression m t (plain.make s x fs) c) ds _ _ h (walk_then K A a (walk_then K A b (fields_walk f i fs k.1 _ a.counted))) (Adding.own_adds n.0 (op.Item i) [] _)
    exp_walk f (plain.print s e) m t c ds h =
        let n = a_node s t c in
        let X = naming.of_expression false Site.Value e n.1 in
        wrap s t c f (naming.of_expression m t (plain.print s e) c) ds _ _ h (exp_walk f e false Site.Value n.1 ds h) (Adding.print_behind n.0 (node_of X.0) (never X.0) _)
    exp_walk f (plain.block s b) m t c ds h =
        let n = a_node s t c in
        let B = naming.of_body (passed_on t) b n.1 in
        let a = asked n.1 ds (rules.part_before n.0 t (body_node B.0)) (Adding.before_adds n.0 t (body_node B.0)) h in
        wrap s t c f (naming.of_expression m t (plain.block s b) c) ds _ _ h (walk_then K A a (body_walk f b (passed_on t) n.1 _ h)) (Adding.block_behind n.0 t (body_never B.0) (body_node B.0) _)
    exp_walk f (plain.if s x b o) m t c ds h =
        let n = a_node s t c in
        let X = naming.of_expression false Site.Value x n.1 in
        let B = naming.of_body (naming.branch_site t o) b X.1 in
        let O = naming.of_optional (passed_on t) o B.1 in
        let p = exp_walk f x false Site.Value n.1 ds h in
        let a = asked X.1 _ _ (Adding.branch_in_front n.0 (node_of X.0) (never X.0) O.0 B.0) p.counted in
        let q = body_walk f b (naming.branch_site t o) X.1 _ p.counted in
        let z = asked B.1 _ _ (Adding.branch_after_adds n.0 O.0 B.0) q.counted in
        let r = else_walk f n.0 o (passed_on t) B.1 _ q.counted in
        wrap s t c f (naming.of_expression m t (plain.if s x b o) c) ds _ _ h (walk_then K A p (walk_then K A a (walk_then K A q (walk_then K A z r)))) (Adding.if_joins_add n.0 O.0 (body_never B.0 && else_never O.0) _)
    exp_walk f (plain.if_let s p e b o) m t c ds h =
        let n = a_node s t c in
        let P = of_pattern p n.1 in
        let X = naming.of_expression false Site.Scrutinee e P.1 in
        let k = naming.known_between n.1.declared P.1.declared X.1 in
        let B = naming.of_body (naming.branch_site t o) b k.1 in
        let O = naming.of_optional (passed_on t) o B.1 in
        let x = matched_walk p n.1 X ds _ h (exp_walk f e false Site.Scrutinee P.1 ds ((pattern_declares p n.1).counted h)) in
        let a = asked k.1 _ _ (Adding.branch_before_adds n.0 O.0 B.0) x.counted in
        let q = body_walk f b (naming.branch_site t o) k.1 _ x.counted in
        let z = asked B.1 _ _ (Adding.branch_after_adds n.0 O.0 B.0) q.counted in
        let r = else_walk f n.0 o (passed_on t) B.1 _ q.counted in
        wrap s t c f (naming.of_expression m t (plain.if_let s p e b o) c) ds _ _ h
        (walk_assoc (pattern_nodes P.0) (exp_nodes true X.0) (body_nodes true B.0 ++ else_nodes true O.0) (walk_then K A x (walk_then K A a (walk_then K A q (walk_then K A z r)))))
        (Adding.if_joins_add n.0 O.0 (body_never B.0 && else_never O.0) _)
    exp_walk f (plain.match s e l) m t c ds h =
        let n = a_node s t c in
        let X = naming.of_expression false Site.Scrutinee e n.1 in
        let L = naming.of_arms (passed_on t) l X.1 in
        let x = exp_walk f e false Site.Scrutinee n.1 ds h in
        let a = asked X.1 _ _ (Adding.not_never_adds (node_of X.0) (never X.0)) x.counted in
        wrap s t c f (naming.of_expression m t (plain.match s e l) c) ds _ _ h (walk_then K A x (walk_then K A a (arms_walk f n.0 (matched X.0) (node_of X.0) (passed_on t) l X.1 _ x.counted))) (Adding.join_adds n.0 (all_never L.0) _)
    exp_walk f (plain.loop s l b) m t c ds h =
        let n = a_node s t c in
        let c1 = naming.a_loop n.1 in
        let B = naming.of_body Site.Value b c1.1 in
        let a = moved n.1 c1.1 ds (record { variables = refl; declared = refl }) h in
        wrap s t c f (naming.of_expression m t (plain.loop s l b) c) ds _ _ h (walk_then K A a (body_walk f b Site.Value c1.1 ds h)) (Adding.loop_behind n.0 (body_node B.0) (body_never B.0) _ _)
    exp_walk f (plain.while s l x b) m t c ds h =
        let n = a_node s t c in
        let c1 = naming.a_loop n.1 in
        let X = naming.of_expression false Site.Value x c1.1 in
        let B = naming.of_body Site.Value b X.1 in
        let i = moved n.1 c1.1 ds (record { variables = refl; declared = refl }) h in
        let p = exp_walk f x false Site.Value c1.1 ds h in
        let a = asked X.1 _ _ (Adding.tested_adds (node_of X.0) (never X.0)) p.counted in
        wrap s t c f (naming.of_expression m t (plain.while s l x b) c) ds _ _ h (walk_then K A i (walk_then K A p (walk_then K A a (body_walk f b Site.Value X.1 _ p.counted)))) (Adding.while_behind n.0 (body_node B.0) (body_never B.0) _)
    exp_walk f (plain.while_let s l p e b) m t c ds h =
        let n = a_node s t c in
        let c1 = naming.a_loop n.1 in
        let P = of_pattern p c1.1 in
        let X = naming.of_expression false Site.Scrutinee e P.1 in
        let k = naming.known_between c1.1.declared P.1.declared X.1 in
        let B = naming.of_body Site.Value b k.1 in
        let i = moved n.1 c1.1 ds (record { variables = refl; declared = refl }) h in
        let x = matched_walk p c1.1 X ds _ h (exp_walk f e false Site.Scrutinee P.1 ds ((pattern_declares p c1.1).counted h)) in
        wrap s t c f (naming.of_expression m t (plain.while_let s l p e b) c) ds _ _ h
        (walk_assoc (pattern_nodes P.0) (exp_nodes true X.0) (body_nodes true B.0) (walk_then K A (walk_then K A i x) (body_walk f b Site.Value k.1 _ x.counted)))
        (Adding.while_behind n.0 (body_node B.0) (body_never B.0) _)
    exp_walk f (plain.break s l) m t c ds h =
        leaf s t c f (naming.of_expression m t (plain.break s l) c) ds h (still_then (entry_still (a_node s t c).1) (record { variables = refl; declared = refl }))
    exp_walk f (plain.continue s l) m t c ds h = leaf s t c f (naming.of_expression m t (plain.continue s l) c) ds h (entry_still (a_node s t c).1)
    exp_walk f (plain.return s o) m t c ds h =
        let n = a_node s t c in
        let O = naming.of_optional Site.Expects o n.1 in
        let a = asked n.1 ds _ (Adding.returns_add f n.0 O.0) h in
        wrap s t c f (naming.of_expression m t (plain.return s o) c) ds _ _ h (walk_then K A a (returned_walk f o Site.Expects n.1 _ h)) (Adding.never_adds n.0 n.0.site _)

    each_walk : (f : ℕ) (w : Listed) (k : ℕ) (es : Expressions) (c : Cursor) (ds : List Demand) → Counted c
        → Walk K A c ds (naming.of_expressions (list_site w) es c).1 (rules.of_each f w k (naming.of_expressions (list_site w) es c).0 ds) (exps_nodes true (naming.of_expressions (list_site w) es c).0)
    each_walk f w k plain.no_expression c ds h = stay c ds h
    each_walk f w k (plain.expression_and e es) c ds h =
        let X = naming.of_expression false (list_site w) e c in
        let a = asked c ds _ (Adding.each_before_adds w k (node_of X.0)) h in
        let x = exp_walk f e false (list_site w) c _ h in
        let b = asked X.1 _ _ (Adding.each_after_adds w X.0) x.counted in
        walk_then K A (walk_then K A a x) (walk_then K A b (each_walk f w (suc k) es X.1 _ x.counted))

    else_walk : (f : ℕ) (n : Node) (o : OptionalExpression) (t : Site) (c : Cursor) (ds : List Demand) → Counted c
        → Walk K A c ds (naming.of_optional t o c).1 (rules.of_else f n (naming.of_optional t o c).0 ds) (else_nodes true (naming.of_optional t o c).0)
    else_walk f n plain.absent t c ds h = stay c ds h
    else_walk f n (plain.present e) t c ds h =
        let X = naming.of_expression false t e c in
        let a = asked c ds _ (Adding.before_adds n n.site (node_of X.0)) h in
        walk_more K A (walk_then K A a (exp_walk f e false t c _ h)) (Adding.after_adds n n.site (never X.0) (node_of X.0) _)

    returned_walk : (f : ℕ) (o : OptionalExpression) (t : Site) (c : Cursor) (ds : List Demand) → Counted c
        → Walk K A c ds (naming.of_optional t o c).1 (rules.of_returned f (naming.of_optional t o c).0 ds) (else_nodes true (naming.of_optional t o c).0)
    returned_walk f plain.absent t c ds h = stay c ds h
    returned_walk f (plain.present e) t c ds h = exp_walk f e false t c ds h

    arguments_walk : (f i v : ℕ) (es : OptionalExpressions) (c : Cursor) (ds : List Demand) → Counted c
        → Walk K A c ds (naming.of_arguments es c).1 (rules.of_each f (parts_of i v) 0 (naming.of_arguments es c).0 ds) (exps_nodes true (naming.of_arguments es c).0)
    arguments_walk f i v plain.no_list c ds h = stay c ds h
    arguments_walk f i v (plain.a_list es) c ds h = each_walk f (parts_of i v) 0 es c ds h

    fields_walk : (f i : ℕ) (fs : FieldExpressions) (c : Cursor) (ds : List Demand) → Counted c
        → Walk K A c ds (naming.of_fields fs c).1 (rules.of_fields f i (naming.of_fields fs c).0 ds) (fields_nodes true (naming.of_fields fs c).0)
    fields_walk f i plain.no_field c ds h = stay c ds h
    fields_walk f i (plain.field_and x e fs) c ds h =
        let X = naming.of_expression false Site.Expects e c in
        let a = asked c ds (rules.expects (node_of X.0) (op.FieldOf i x.name) []) (asks_add (node_of X.0) _ _ _) h in
        let w = exp_walk f e false Site.Expects c _ h in
        walk_then K A (walk_then K A a w) (fields_walk f i fs X.1 _ w.counted)

    arms_walk : (f : ℕ) (n : Node) (s : rules.Matched) (m : Node) (t : Site) (l : plain.Arms) (c : Cursor) (ds : List Demand) → Counted c
        → Walk K A c ds (naming.of_arms t l c).1 (rules.of_arms f n s m (naming.of_arms t l c).0 ds) (arms_nodes true (naming.of_arms t l c).0)
    arms_walk f n s m t plain.no_arm c ds h = stay c ds h
    arms_walk f n s m t (plain.arm_and p e l) c ds h =
        let P = of_pattern p c in
        let k = naming.known_between c.declared P.1.declared P.1 in
        let X = naming.of_expression false t e k.1 in
        let L = naming.of_arms t l X.1 in
        let x = scope_walk K A p c P.1 ds ds _ [] h (stay P.1 ds ((pattern_declares p c).counted h)) (Adding.whole_adds s (type_of m) P.0 ds) (whole_told K A s (type_of m) P.0 ds) in
        let a = asked k.1 _ _ (Adding.before_adds n n.site (node_of X.0)) x.counted in
        let w = exp_walk f e false t k.1 _ x.counted in
        let b = asked X.1 _ _ (Adding.after_adds n n.site (never X.0) (node_of X.0)) w.counted in
        walk_assoc (pattern_nodes P.0) [] (exp_nodes true X.0 ++ arms_nodes true L.0) (walk_then K A x (walk_then K A a (walk_then K A w (walk_then K A b (arms_walk f n s m t l X.1 _ w.counted)))))

    pub body_walk : (f : ℕ) (b : plain.Body) (t : Site) (c : Cursor) (ds : List Demand) → Counted c
        → Walk K A c ds (naming.of_body t b c).1 (rules.of_body f (naming.of_body t b c).0 ds) (body_nodes true (naming.of_body t b c).0)
    body_walk f (plain.body s ss o) t c ds h =
        let n = a_node s t c in
        let S = naming.of_statements ss n.1 in
        let O = naming.of_optional t o S.1 in
        let p = statements_walk f ss n.1 ds h in
        let a = asked S.1 _ _ (Adding.tail_before_adds n.0 O.0) p.counted in
        let q = returned_walk f o t S.1 _ p.counted in
        let w = walk_then K A (node_walk s t c ds h) (walk_then K A p (walk_then K A a q)) in
        walk_own K A (tail_never (some_diverges S.0) O.0) n.0 (λ e. body_sure K A f (named.body n.0 S.0 O.0) ds e)
        (walk_more K A w (Adding.tail_behind n.0 (some_diverges S.0) O.0 (tail_never (some_diverges S.0) O.0) _))

    statements_walk : (f : ℕ) (ss : Statements) (c : Cursor) (ds : List Demand) → Counted c
        → Walk K A c ds (naming.of_statements ss c).1 (rules.of_statements f (naming.of_statements ss c).0 ds) (statements_nodes true (naming.of_statements ss c).0)
    statements_walk f plain.no_statement c ds h = stay c ds h
    statements_walk f (plain.statement_and x ss) c ds h =
        let p = statement_walk f x c ds h in
        walk_then K A p (statements_walk f ss (naming.of_statement x c).1 _ p.counted)

    statement_walk : (f : ℕ) (x : Statement) (c : Cursor) (ds : List Demand) → Counted c
        → Walk K A c ds (naming.of_statement x c).1 (rules.of_statement f (naming.of_statement x c).0 ds) (statement_nodes true (naming.of_statement x c).0)
    statement_walk f (plain.let_statement s p None plain.absent) c ds h =
        let n = (a_node s Site.Value c).1 in
        let P = of_pattern p n in
        walk_then K A (node_walk s Site.Value c ds h) (waiting_walk K A p n P.1 ds ds [] h (stay P.1 ds ((pattern_declares p n).counted h)))
    statement_walk f (plain.let_statement s p (Some y) plain.absent) c ds h =
        let n = (naming.annotates p (Some y) (a_node s Site.Value c).1).1 in
        let P = of_pattern p n in
        let Y = naming.of_type y P.1 in
        let a = walk_then K A (node_walk s Site.Value c ds h) (moved (a_node s Site.Value c).1 n ds (record { variables = refl; declared = refl }) h) in
        let w = type_walk y P.1 ds ((pattern_declares p n).counted h) in
        walk_then K A a (scope_walk K A p n Y.1 ds _ _ _ h w (Adding.whole_adds a_value (type_of (written_node Y.0)) P.0 _) (whole_told K A a_value (type_of (written_node Y.0)) P.0 _))
    statement_walk f (plain.let_statement s p None (plain.present e)) c ds h =
        let n = (a_node s Site.Value c).1 in
        let P = of_pattern p n in
        let X = naming.of_expression false Site.Scrutinee e P.1 in
        walk_then K A (node_walk s Site.Value c ds h) (initialised_walk p n X ds _ (never X.0) h (exp_walk f e false Site.Scrutinee P.1 ds ((pattern_declares p n).counted h)))
    statement_walk f (plain.let_statement s p (Some y) (plain.present e)) c ds h =
        let n = (naming.annotates p (Some y) (a_node s Site.Value c).1).1 in
        let P = of_pattern p n in
        let Y = naming.of_type y P.1 in
        let X = naming.of_expression false Site.Initialises e Y.1 in
        let a = walk_then K A (node_walk s Site.Value c ds h) (moved (a_node s Site.Value c).1 n ds (record { variables = refl; declared = refl }) h) in
        let w = type_walk y P.1 ds ((pattern_declares p n).counted h) in
        let b = asked Y.1 _ (rules.expects (node_of X.0) op.Same (type_of (written_node Y.0) ∷ [])) (asks_add (node_of X.0) _ _ _) w.counted in
        let x = walk_then K A w (walk_then K A b (exp_walk f e false Site.Initialises Y.1 _ w.counted)) in
        walk_then K A a (scope_walk K A p n X.1 ds _ _ _ h x (Adding.whole_adds (matched X.0) (type_of (written_node Y.0)) P.0 _) (whole_told K A (matched X.0) (type_of (written_node Y.0)) P.0 _))
    statement_walk f (plain.expression_statement s e k) c ds h =
        let n = (a_node s Site.Value c).1 in
        let X = naming.of_expression false Site.Value e n in
        walk_then K A (node_walk s Site.Value c ds h) (walk_more K A (exp_walk f e false Site.Value n ds h) (Adding.evaluated_adds k (node_of X.0) (never X.0) _))
