-- Where a place is wanted no block stands: what is no place is refused there. By induction on the expression.
use Rattle.std.proofs.Common.{◌≡◌, ℕ, suc, Bool, true, false, ◌&&◌, List, [], ◌∷◌, ◌++◌, Option, Some, None, refl, sym, subst}
use Rattle.rx_tree.specs.declared.tree.BinaryOp.{BinaryOp}
use Rattle.rx_tree.specs.Plain as plain
use Rattle.rx_tree.specs.Plain.{Expression, OptionalExpression}
use Rattle.rx_tree.specs.Positions.{an_expression}
use Rattle.rx_typed.specs.declared.nodes.Node.{Node}
use Rattle.rx_typed.specs.declared.nodes.Site.{Site}
use Rattle.rx_typed.specs.declared.nodes.Use.{Use}
use Rattle.rx_typed.specs.Named as named
use Rattle.rx_typed.specs.Named.{Exp, node_of, root, never, body_never, else_never, all_never}
use Rattle.rx_typed.specs.Naming as naming
use Rattle.rx_typed.specs.Naming.{Cursor, a_node, an_entry}
use Rattle.rx_typeck_solver.specs.declared.facts.Broken.{Broken}
use Rattle.rx_typeck_solver.specs.declared.facts.Broken.TheVariants as broken
use Rattle.rx_typeck_solver.specs.declared.facts.Op.{Op}
use Rattle.rx_typeck_solver.specs.declared.facts.Op.TheVariants as op
use Rattle.rx_typeck_solver.specs.declared.facts.Subject.{Subject}
use Rattle.rx_typeck_solver.specs.declared.facts.Fact.TheVariants as fact
use Rattle.rx_typeck_solver.specs.declared.facts.Demand.{Demand}
use Rattle.rx_typeck_solver.specs.Facts.{Assignment, KnownItems, MeetsAll, MeetsEach}
use Rattle.rx_typeck_typed.specs.Asking.{Asking, ◌>>◌, asks, type_of, fitting, is_open}
use Rattle.rx_typeck_typed.specs.Demands as rules
use Rattle.rx_exits_plan.specs.Spots.{Around, Spot}
use Rattle.rx_hoist_blocks.proofs.Adding.{Adds, asks_add, each_adds, step_behind}
use Rattle.rx_hoist_blocks.proofs.Children.{Walked, upto, no_child, one_child, node_with}
use Rattle.rx_hoist_blocks.proofs.Parts.{no_expression_block, entry_number}

module _ (K : KnownItems) (A : Assignment) where
  front : (ds es : List Demand) → MeetsEach K A (ds ++ es) → MeetsEach K A ds
  front [] es h = tt
  front (d ∷ ds) es h = (h.0, front ds es h.1)

  last : (ds : List Demand) (d : Demand) → MeetsEach K A (ds ++ d ∷ []) → MeetsAll K A d.facts
  last [] d h = h.0
  last (e ∷ ds) d h = last ds d h.1

  -- what was asked before is met
  pub before : (g : Asking) → Adds g → (ds : List Demand) → MeetsEach K A (g ds) → MeetsEach K A ds
  before g a ds h = front ds (a ds).0 (subst (λ (l : List Demand). MeetsEach K A l) (a ds).1 h)

  pub never_met : (n : Node) (b : Broken) (ds : List Demand) → MeetsEach K A (asks n b false (fact.Never ∷ []) ds) → ⊥
  never_met n b ds h = (last ds (record { node = n.number; span = n.span; broken = b; unsuffixed = false; facts = fact.Never ∷ [] }) h).0

  -- ---- at a node where a place is wanted

  abbrev IsPlaced : Node → Type 0
  IsPlaced n = n.site ≡ Site.Place

  value_placed : (t : Site) → t ≡ Site.Place → (n : Node) (ds : List Demand) → MeetsEach K A (rules.value_in n t ds) → ⊥
  value_placed Site.Place e n ds h = never_met n _ ds h
  value_placed Site.Value e n ds h = absurd (cc)
  value_placed Site.Scrutinee e n ds h = absurd (cc)
  value_placed Site.Expects e n ds h = absurd (cc)
  value_placed Site.Initialises e n ds h = absurd (cc)
  value_placed Site.Reborrows e n ds h = absurd (cc)

  never_placed : (t : Site) → t ≡ Site.Place → (n : Node) (ds : List Demand) → MeetsEach K A (rules.never_in n t ds) → ⊥
  never_placed Site.Place e n ds h = never_met n _ ds h
  never_placed Site.Value e n ds h = absurd (cc)
  never_placed Site.Scrutinee e n ds h = absurd (cc)
  never_placed Site.Expects e n ds h = absurd (cc)
  never_placed Site.Initialises e n ds h = absurd (cc)
  never_placed Site.Reborrows e n ds h = absurd (cc)

  joins_placed : (t : Site) → t ≡ Site.Place → (n : Node) (ds : List Demand) → MeetsEach K A (rules.joins n t ds) → ⊥
  joins_placed Site.Place e n ds h = never_met n _ ds h
  joins_placed Site.Value e n ds h = absurd (cc)
  joins_placed Site.Scrutinee e n ds h = absurd (cc)
  joins_placed Site.Expects e n ds h = absurd (cc)
  joins_placed Site.Initialises e n ds h = absurd (cc)
  joins_placed Site.Reborrows e n ds h = absurd (cc)

  own_placed : (n : Node) → IsPlaced n → (o : Op) (xs : List Subject) (ds : List Demand) → MeetsEach K A (rules.own n o xs ds) → ⊥
  own_placed n e o xs ds h = value_placed n.site e n _ h

  join_placed : (n : Node) → IsPlaced n → (v : Bool) (ds : List Demand) → MeetsEach K A (rules.join n v ds) → ⊥
  join_placed n e true ds h = never_placed n.site e n ds h
  join_placed n e false ds h = joins_placed n.site e n ds h

  loop_placed : (n : Node) → IsPlaced n → (k : Bool) (ds : List Demand) → MeetsEach K A (rules.loop_given n k ds) → ⊥
  loop_placed n e true ds h = own_placed n e op.Unit [] ds h
  loop_placed n e false ds h = never_placed n.site e n ds h

  operation_placed : (o : BinaryOp) (n : Node) → IsPlaced n → (a : Node) (x : Bool) (b : Node) (y : Bool) (ds : List Demand) → MeetsEach K A (rules.operation o n a x b y ds) → ⊥
  operation_placed BinaryOp.Or n e a x b y ds h = own_placed n e op.Truth [] _ h
  operation_placed BinaryOp.And n e a x b y ds h = own_placed n e op.Truth [] _ h
  operation_placed BinaryOp.Eq n e a x b y ds h = own_placed n e op.Truth [] _ h
  operation_placed BinaryOp.Ne n e a x b y ds h = own_placed n e op.Truth [] _ h
  operation_placed BinaryOp.Lt n e a x b y ds h = own_placed n e op.Truth [] _ h
  operation_placed BinaryOp.Le n e a x b y ds h = own_placed n e op.Truth [] _ h
  operation_placed BinaryOp.Gt n e a x b y ds h = own_placed n e op.Truth [] _ h
  operation_placed BinaryOp.Ge n e a x b y ds h = own_placed n e op.Truth [] _ h
  operation_placed _ n e a x b y ds h = value_placed n.site e n _ h

  -- an `if` whose branches are one, or two
  if_placed : (f : ℕ) (n : Node) → IsPlaced n → (B : named.Body) (O : named.Else) (v : Bool) (ds : List Demand)
      → MeetsEach K A (rules.if_joins n O v (rules.of_else f n O (rules.branch_after n O B ds))) → ⊥
  if_placed f n e B named.absent v ds h = own_placed n e op.Unit [] _ h
  if_placed f n e B (named.present x) v ds h = join_placed n e v _ h

  called_placed : (f : ℕ) (n : Node) → IsPlaced n → (k : List ℕ × Bool) (es : plain.Expressions) (c : Cursor) (ds : List Demand)
      → MeetsEach K A (rules.of_exp f (naming.called n k (λ u. naming.of_expressions u es) c).0 ds) → ⊥
  called_placed f n e (ns, true) es c ds h = absurd (hidden f n (naming.of_expressions Site.Value es c).0 ds h)
    where
      hidden : (f : ℕ) (n : Node) (es : named.Exps) (ds : List Demand) → MeetsEach K A (rules.of_hidden_call f n es ds) → ⊥
      hidden f n es ds h = never_met n _ ds (before (rules.of_each f rules.values 0 es) (each_adds f rules.values 0 es) _ h)
  called_placed f n e (ns, false) es c ds h = own_placed n e _ [] _ h

  assigned_placed : (f : ℕ) (n : Node) → IsPlaced n → (q : Exp) (w : Option (ℕ × ℕ)) (x : Expression) (c : Cursor) (ds : List Demand)
      → MeetsEach K A (rules.of_exp f (naming.assigned n q w (λ t. naming.of_expression false t x) c).0 ds) → ⊥
  assigned_placed f n e q None x c ds h = own_placed n e op.Unit [] _ h
  assigned_placed f n e q (Some w) x c ds h = own_placed n e op.Unit [] _ h

  -- ---- a place has no block, so it may stand in any part

  pub place_walked : (x : Expression) (m : Bool) (c : Cursor) (f : ℕ) (ds : List Demand) → MeetsEach K A (rules.of_exp f (naming.of_expression m Site.Place x c).0 ds)
      → (S : Around → List Spot) → Walked (an_expression x) c.number (naming.of_expression m Site.Place x c).1.number S
  place_walked (plain.var s x) m c f ds h S = node_with (no_expression_block (plain.var s x)) (upto (sym (entry_number (a_node s Site.Place c).1)) (no_child (suc c.number) S))
  place_walked (plain.field s e x) m c f ds h S =
      let n = a_node s Site.Place c in
      let E = (naming.of_expression false Site.Place e n.1).0 in
      node_with (no_expression_block (plain.field s e x)) (one_child (place_walked e false n.1 f ds
      (before (rules.step_at n.0 (op.Field x.name) (node_of E) >> rules.place_in n.0 (root E).number (rules.through (named.field n.0 E x.name)) Site.Place) (step_behind n.0 _ (node_of E) (root E).number (rules.through (named.field n.0 E x.name)) Site.Place) (rules.of_exp f E ds) h) S))
  place_walked (plain.part s e i) m c f ds h S =
      let n = a_node s Site.Place c in
      let E = (naming.of_expression false Site.Place e n.1).0 in
      node_with (no_expression_block (plain.part s e i)) (one_child (place_walked e false n.1 f ds
      (before (rules.step_at n.0 (op.Part i) (node_of E) >> rules.place_in n.0 (root E).number (rules.through (named.part n.0 E i)) Site.Place) (step_behind n.0 _ (node_of E) (root E).number (rules.through (named.part n.0 E i)) Site.Place) (rules.of_exp f E ds) h) S))
  place_walked (plain.deref s e) m c f ds h S =
      let n = a_node s Site.Place c in
      let E = (naming.of_expression false Site.Place e n.1).0 in
      node_with (no_expression_block (plain.deref s e)) (one_child (place_walked e false n.1 f ds
      (before (rules.step_at n.0 op.Pointee (node_of E) >> rules.place_in n.0 (root E).number (rules.through (named.deref n.0 E)) Site.Place) (step_behind n.0 _ (node_of E) (root E).number (rules.through (named.deref n.0 E)) Site.Place) (rules.of_exp f E ds) h) S))
  place_walked (plain.int s v k) m c f ds h S = let n = (a_node s Site.Place c).0 in
      absurd (value_placed Site.Place refl n _ (before (asks n broken.Literal (is_open k) (fact.Integer n.number (fitting m v) ∷ [])) (asks_add n _ _ _) _ h))
  place_walked (plain.bool s b) m c f ds h S = absurd (own_placed (a_node s Site.Place c).0 refl _ [] _ h)
  place_walked (plain.tuple s es) m c f ds h S = let n = (a_node s Site.Place c).0 in absurd (own_placed n refl _ _ _ (before (rules.limits n) (asks_add n _ _ _) _ h))
  place_walked (plain.negate s e) m c f ds h S = absurd (value_placed Site.Place refl (a_node s Site.Place c).0 _ h)
  place_walked (plain.invert s e) m c f ds h S = absurd (own_placed (a_node s Site.Place c).0 refl _ [] _ h)
  place_walked (plain.borrow s k e) m c f ds h S = absurd (value_placed Site.Place refl (a_node s Site.Place c).0 _ h)
  place_walked (plain.binary s o a b) m c f ds h S = absurd (operation_placed o (a_node s Site.Place c).0 refl _ _ _ _ _ h)
  place_walked (plain.assign s p e) m c f ds h S = absurd (assigned_placed f (a_node s Site.Place c).0 refl _ _ e _ ds h)
  place_walked (plain.update s o p e) m c f ds h S = absurd (own_placed (a_node s Site.Place c).0 refl op.Unit [] _ h)
  place_walked (plain.call s g es) m c f ds h S = let n = a_node s Site.Place c in absurd (called_placed f n.0 refl (an_entry n.1).0 es (an_entry n.1).1 ds h)
  place_walked (plain.next_input s) m c f ds h S = absurd (own_placed (a_node s Site.Place c).0 refl _ [] _ h)
  place_walked (plain.variant s a v es) m c f ds h S = absurd (own_placed (a_node s Site.Place c).0 refl _ [] _ h)
  place_walked (plain.make s x fs) m c f ds h S = absurd (own_placed (a_node s Site.Place c).0 refl _ [] _ h)
  place_walked (plain.print s e) m c f ds h S = absurd (own_placed (a_node s Site.Place c).0 refl op.Unit [] _ h)
  place_walked (plain.block s b) m c f ds h S = absurd (join_placed (a_node s Site.Place c).0 refl _ _ h)
  place_walked (plain.if s x b o) m c f ds h S =
      let n = a_node s Site.Place c in
      let X = naming.of_expression false Site.Value x n.1 in
      let B = naming.of_body (naming.branch_site Site.Place o) b X.1 in
      let O = naming.of_optional (naming.passed_on Site.Place) o B.1 in
      let d2 = rules.tested (node_of X.0) (never X.0) (rules.of_exp f X.0 ds) in
      absurd (if_placed f n.0 refl B.0 O.0 (body_never B.0 && else_never O.0) (rules.of_body f B.0 (rules.branch_before n.0 O.0 B.0 d2)) h)
  place_walked (plain.if_let s p e b o) m c f ds h S =
      let n = a_node s Site.Place c in
      let P = naming.of_pattern p n.1 in
      let X = naming.of_expression false Site.Scrutinee e P.1 in
      let k = naming.known_between n.1.declared P.1.declared X.1 in
      let B = naming.of_body (naming.branch_site Site.Place o) b k.1 in
      let O = naming.of_optional (naming.passed_on Site.Place) o B.1 in
      let d1 = rules.whole_pattern (rules.matched X.0) (type_of (node_of X.0)) P.0 (rules.not_never (node_of X.0) (never X.0) (rules.of_exp f X.0 ds)) in
      absurd (if_placed f n.0 refl B.0 O.0 (body_never B.0 && else_never O.0) (rules.of_body f B.0 (rules.branch_before n.0 O.0 B.0 d1)) h)
  place_walked (plain.match s e l) m c f ds h S = absurd (join_placed (a_node s Site.Place c).0 refl _ _ h)
  place_walked (plain.loop s l b) m c f ds h S = absurd (loop_placed (a_node s Site.Place c).0 refl _ _ h)
  place_walked (plain.while s l x b) m c f ds h S = absurd (own_placed (a_node s Site.Place c).0 refl op.Unit [] _ h)
  place_walked (plain.while_let s l p e b) m c f ds h S = absurd (own_placed (a_node s Site.Place c).0 refl op.Unit [] _ h)
  place_walked (plain.break s l) m c f ds h S = absurd (never_placed Site.Place refl (a_node s Site.Place c).0 _ h)
  place_walked (plain.continue s l) m c f ds h S = absurd (never_placed Site.Place refl (a_node s Site.Place c).0 _ h)
  place_walked (plain.return s o) m c f ds h S = absurd (never_placed Site.Place refl (a_node s Site.Place c).0 _ h)
