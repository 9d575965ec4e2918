-- Typed trees that act by types, part by part: what each action takes and gives, where the unit comes by no action, and which right operands
-- of `&&` and `||` go on.
use Rattle.std.proofs.Common.{◌≡◌, ◌⊎◌, inl, inr, ℕ, Bool, true, false, List, [], ◌∷◌, Option, Some, None, refl, sym, ap, ◌∙◌, subst, map}
use Rattle.rx_core.specs.declared.types.Step.{Step}
use Rattle.rx_core.specs.declared.types.Step.TheVariants as step
use Rattle.rx_tree.specs.declared.tree.BinaryOp.{BinaryOp}
use Rattle.rx_tree.specs.Lists.{Every}
use Rattle.rx_typed.specs.Types.{Typ, boolean, reference, unit_shape}
use Rattle.rx_typed.specs.Tree as tree
use Rattle.rx_typed.specs.Tree.{Temporary, Place, Making, Mark, mark_of, temporary_of, temporary_at, temporaries_of, fields_of, temporary_place, under}
use Rattle.rx_lower_walks.specs.Matching.{PartTest, Binding, tests, bindings}
use Rattle.rx_lower_walks.specs.Actions.{Act, Read, Write, Borrow, Call, Build, Print, Give, in_temporary}
use Rattle.rx_lower_walks.specs.Actions as actions
use Rattle.rx_lower_walks.specs.Orders as order
use Rattle.rx_lower_walks.specs.Orders.{Order, order_all, order_scrutinee, order_arms, order_body, testing, binding, declaring}
use Rattle.rx_typeck_solver.specs.Facts.{Assignment, KnownItems}
use Rattle.rx_meaning_keeping.specs.Units.{GoesOn, FillsUnit, OperandsFill, ScrutineeFills, ArmsFill, BodyFills}
use Rattle.rx_meaning_keeping.specs.RightOperands.{HasRight, OperandsHaveRight, ScrutineeHasRight, ArmsHaveRight, BodyHasRight}
use Rattle.rx_meaning_typed.specs.TypedActs.{typ_along, Makes, joins, Operates, operates, IsShown}
use Rattle.rx_meaning_accepted.proofs.Patterns as patterns

module _ (K : KnownItems) (A : Assignment) (U : Temporary → Typ) (R : Typ) where
  abbrev Q : Act → Type 0
  Q = patterns.Q K A U R

  abbrev H : Order → Type 0
  H = patterns.H K A U R

  abbrev Reads : Place → Typ → Type 0
  Reads = patterns.Reads K A U R

  abbrev Fine : actions.Subject → List Step → tree.Pattern → Type 0
  Fine = patterns.Fine K A U R

  -- ---- what is asked of each part

  -- where the unit comes by no action, and right operands that go on
  abbrev pub UnitsIn : (Temporary → Type 0) → Type 0
  UnitsIn N = (t : Temporary) → N t → U t ≡ unit_shape

  abbrev pub RightsIn : (Temporary → Type 0) → Type 0
  RightsIn N = (t : Temporary) → N t → U t ≡ boolean

  abbrev pub Good : tree.Exp → Temporary → Type 0
  Good e d = H (order.order e d) × UnitsIn (FillsUnit e d) × RightsIn (HasRight e)

  abbrev pub GoodAll : tree.Operands → Type 0
  GoodAll es = H (order_all es) × UnitsIn (OperandsFill es) × RightsIn (OperandsHaveRight es)

  abbrev pub GoodScrutinee : tree.Scrutinee → Type 0
  GoodScrutinee c = H (order_scrutinee c) × UnitsIn (ScrutineeFills c) × RightsIn (ScrutineeHasRight c)

  abbrev pub GoodArms : actions.Subject → tree.Arms → Temporary → Type 0
  GoodArms S l d = H (order_arms S l d) × UnitsIn (ArmsFill l d) × RightsIn (ArmsHaveRight l)

  abbrev pub GoodBody : tree.Body → ℕ → Temporary → Type 0
  GoodBody b n d = H (order_body b n d) × UnitsIn (BodyFills b d) × RightsIn (BodyHasRight b)

  abbrev pub Self : tree.Exp → Type 0
  Self e = Good e (temporary_of e)

  abbrev pub Goes : tree.Exp → Type 0
  Goes e = GoesOn (order.order e (temporary_of e))

  -- ---- sums

  either_in : {P : Temporary → Type 0} {N M : Temporary → Type 0} {G : Type 0} → ((t : Temporary) → N t → P t) → (G → (t : Temporary) → M t → P t) → (t : Temporary) → N t ⊎ (G × M t) → P t
  either_in f g t (inl x) = f t x
  either_in f g t (inr x) = g x.0 t x.1

  one_in : {P : Temporary → Type 0} {N M : Temporary → Type 0} → ((t : Temporary) → N t → P t) → ((t : Temporary) → M t → P t) → (t : Temporary) → N t ⊎ M t → P t
  one_in f g t (inl x) = f t x
  one_in f g t (inr x) = g t x

  -- the unit that an expression gives goes to this temporary, where it goes on
  own_unit : (d : Temporary) (G : Type 0) → (G → U d ≡ unit_shape) → (t : Temporary) → (t ≡ d) × G → U t ≡ unit_shape
  own_unit d G f t x = ap U x.0 ∙ f x.1

  -- ---- expressions

  pub unit_good : (m : Mark) (d : Temporary) → U d ≡ unit_shape → Good (tree.unit m) d
  unit_good m d e = (tt, (λ t h. ap U h.0 ∙ e), (λ t h. absurd h))

  pub read_good : (m : Mark) (v : Bool) (p : Place) (d : Temporary) → Reads p (U d) → Good (tree.read m v p) d
  read_good m v p d h = (h, (λ t x. absurd x), (λ t x. absurd x))

  pub borrow_good : (m : Mark) (k : Bool) (p : Place) (d : Temporary) (u : Typ) → Reads p u → U d ≡ reference k u → Good (tree.borrow m k p) d
  borrow_good m k p d u h e = ((u, h, e), (λ t x. absurd x), (λ t x. absurd x))

  -- a value of type `&mut T` becomes one of `&T`
  pub share_good : (m : Mark) (e : tree.Exp) (d : Temporary) (u : Typ) → U (temporary_at m.node 1) ≡ reference true u → U d ≡ reference false u → Good e (temporary_at m.node 1) → Good (tree.share m e) d
  share_good m e d u p q g = ((g.0, λ z. (u, shared (U (temporary_at m.node 1)) p, q)), g.1, g.2)
    where
      shared : (t : Typ) → t ≡ reference true u → typ_along K.items t (step.Deref true ∷ []) ≡ Some u
      shared t e = subst (λ (z : Typ). typ_along K.items z (step.Deref true ∷ []) ≡ Some u) (sym e) refl

  pub build_good : (m : Mark) (w : Making) (es : tree.Operands) (d : Temporary) → GoodAll es → (GoesOn (order_all es) → Q (Build w (fields_of es) (temporaries_of es) d)) → Good (tree.build m w es) d
  build_good m w es d g f = ((g.0, f), g.1, g.2)

  pub call_good : (m : Mark) (k : ℕ) (es : tree.Operands) (d : Temporary) → GoodAll es → (GoesOn (order_all es) → Q (Call k (temporaries_of es) d)) → Good (tree.call m k es) d
  call_good m k es d g f = ((g.0, f), g.1, g.2)

  pub lazily_good : (m : Mark) (b : Bool) (e f : tree.Exp) (d : Temporary) → Self e → Self f → (Goes e → U (temporary_of e) ≡ boolean) → (Goes f → U (temporary_of f) ≡ boolean) → U d ≡ boolean → Good (tree.lazily m b e f) d
  lazily_good m b e f d g h p q r = (
    (g.0, (λ z. ((U (temporary_of e), refl, p z), (λ _. ((h.0, tt), (λ _. made (U (temporary_of e)) (U d) (p z) r)))))),
    either_in g.1 (λ z. h.1),
    either_in g.2 (λ z. one_in (λ t x. ap U x.0 ∙ q x.1) h.2),
  )
    where
      made : (t u : Typ) → t ≡ boolean → u ≡ boolean → Makes K.items tree.lazy [] (t ∷ U (temporary_of f) ∷ []) u
      made t u x y = subst (λ (z : Typ). Makes K.items tree.lazy [] (z ∷ U (temporary_of f) ∷ []) u) (sym x) (subst (λ (z : Typ). Makes K.items tree.lazy [] (boolean ∷ U (temporary_of f) ∷ []) z) (sym y) joins)

  pub assign_good : (m : Mark) (p : Place) (e : tree.Exp) (d : Temporary) (u : Typ) → Self e → Reads p u → (Goes e → U (temporary_of e) ≡ u) → U d ≡ unit_shape → Good (tree.assign m p e) d
  assign_good m p e d u g h q r = (
    (g.0, (λ z. (u, h, ap (λ (t : Typ). Some t) (q z)))),
    one_in g.1 (own_unit d _ (λ _. r)),
    g.2,
  )

  pub update_good : (m : Mark) (o : BinaryOp) (p : Place) (e : tree.Exp) (d : Temporary) (u : Typ) → Self e → Reads p u → U (temporary_at m.node 1) ≡ u → U (temporary_at m.node 2) ≡ u
      → (Goes e → Operates o u (U (temporary_of e)) u) → U d ≡ unit_shape → Good (tree.update m o p e) d
  update_good m o p e d u g h p1 p2 q r = (
    (g.0, (λ z. (h ∙ ap (λ (t : Typ). Some t) (sym p1), (λ _. (operates (made (U (temporary_at m.node 1)) (U (temporary_at m.node 2)) p1 p2 (q z)), (λ _. (u, h, ap (λ (t : Typ). Some t) p2))))))),
    one_in g.1 (own_unit d _ (λ _. r)),
    g.2,
  )
    where
      made : (t v : Typ) → t ≡ u → v ≡ u → Operates o u (U (temporary_of e)) u → Operates o t (U (temporary_of e)) v
      made t v x y k = subst (λ (z : Typ). Operates o z (U (temporary_of e)) v) (sym x) (subst (λ (z : Typ). Operates o u (U (temporary_of e)) z) (sym y) k)

  pub print_good : (m : Mark) (e : tree.Exp) (d : Temporary) → Self e → (Goes e → IsShown (U (temporary_of e))) → U d ≡ unit_shape → Good (tree.print m e) d
  print_good m e d g q r = ((g.0, q), one_in g.1 (own_unit d _ (λ _. r)), g.2)

  pub loop_good : (m : Mark) (l : ℕ) (e : tree.Exp) (d : Temporary) → Self e → (GoesOn (order.order (tree.loop m l e) d) → U d ≡ unit_shape) → Good (tree.loop m l e) d
  loop_good m l e d g f = (g.0, one_in g.1 (own_unit d _ f), g.2)

  pub give_good : (m : Mark) (e : tree.Exp) (d : Temporary) → Self e → (Goes e → U (temporary_of e) ≡ R) → Good (tree.give m e) d
  give_good m e d g q = ((g.0, (λ z. (q z, (λ _. tt)))), g.1, g.2)

  pub jump_good : (m : Mark) (l : ℕ) (k : Bool) (d : Temporary) → Good (tree.jump m l k) d
  jump_good m l k d = (tt, (λ t x. absurd x), (λ t x. absurd x))

  pub choose_good : (m : Mark) (c : tree.Scrutinee) (l : tree.Arms) (d : Temporary) → GoodScrutinee c → (GoesOn (order_scrutinee c) → GoodArms (actions.subject c) l d) → Good (tree.choose m c l) d
  choose_good m c l d g f = ((g.0, λ z. (f z).0), either_in g.1 (λ z. (f z).1), either_in g.2 (λ z. (f z).2))

  -- ---- operands

  pub no_operand_good : GoodAll tree.no_operand
  no_operand_good = (tt, (λ t x. absurd x), (λ t x. absurd x))

  pub operand_good : (i : ℕ) (e : tree.Exp) (es : tree.Operands) → Self e → GoodAll es → GoodAll (tree.operand_and i e es)
  operand_good i e es g h = ((g.0, λ z. h.0), either_in g.1 (λ z. h.1), either_in g.2 (λ z. h.2))

  -- ---- arms

  testing_good : (S : actions.Subject) (ts : List PartTest) (rest : Order) → Every (patterns.TestFine K A U R S) ts → H rest → H (testing S ts rest)
  testing_good S [] rest h g = g
  testing_good S (t ∷ ts) rest h g = (h.0, (λ _. (testing_good S ts rest h.1 g, tt)))

  binding_good : (S : actions.Subject) (bs : List Binding) (n : ℕ) (rest : Order) → Every (patterns.BindingFine K A U R S) bs → H rest → H (binding S bs n rest)
  binding_good S [] n rest h g = g
  binding_good S (b ∷ bs) n rest h g = (h.0.0, (λ _. (tt, (λ _. (h.0.1, (λ _. binding_good S bs n rest h.1 g))))))

  pub declaring_good : (s : ℕ) (xs : List ℕ) (n : ℕ) (rest : Order) → H rest → H (declaring s xs n rest)
  declaring_good s [] n rest g = g
  declaring_good s (x ∷ xs) n rest g = (tt, (λ _. declaring_good s xs n rest g))

  pub no_arm_good : (S : actions.Subject) (d : Temporary) → GoodArms S tree.no_arm d
  no_arm_good S d = (tt, (λ t x. absurd x), (λ t x. absurd x))

  pub arm_good : (S : actions.Subject) (p : tree.Pattern) (e : tree.Exp) (l : tree.Arms) (d : Temporary) → Fine S [] p → Good e d → GoodArms S l d → GoodArms S (tree.arm_and p e l) d
  arm_good S p e l d f g h = (
    (testing_good S (tests [] p) _ f.0 (binding_good S (bindings [] p) (mark_of e).node (order.order e d) f.1 g.0), h.0),
    one_in g.1 h.1,
    one_in g.2 h.2,
  )

  pub two_good : (S : actions.Subject) (p : tree.Pattern) (a b : tree.Exp) (d : Temporary) → Fine S [] p → Good a d → Good b d → GoodArms S (tree.arm_and p a (tree.arm_and tree.any b tree.no_arm)) d
  two_good S p a b d f g h = arm_good S p a (tree.arm_and tree.any b tree.no_arm) d f g (arm_good S tree.any b tree.no_arm d (tt, tt) h (no_arm_good S d))

  -- ---- statements

  pub runs_good : (e : tree.Exp) (rest : tree.Body) (n : ℕ) (d : Temporary) → Self e → (Goes e → GoodBody rest n d) → GoodBody (tree.runs e rest) n d
  runs_good e rest n d g f = ((g.0, λ z. (f z).0), either_in g.1 (λ z. (f z).1), either_in g.2 (λ z. (f z).2))

  pub declares_good : (s : ℕ) (xs : List ℕ) (rest : tree.Body) (n : ℕ) (d : Temporary) → GoodBody rest n d → GoodBody (tree.declares s xs rest) n d
  declares_good s xs rest n d g = (declaring_good s xs n (order_body rest n d) g.0, g.1, g.2)

  pub lets_good : (s : ℕ) (p : tree.Pattern) (c : tree.Scrutinee) (rest : tree.Body) (n : ℕ) (d : Temporary) → GoodScrutinee c → (GoesOn (order_scrutinee c) → Fine (actions.subject c) [] p × GoodBody rest n d) → GoodBody (tree.lets s p c rest) n d
  lets_good s p c rest n d g f = (
    (g.0, (λ z. binding_good (actions.subject c) (bindings [] p) n (order_body rest n d) (f z).0.1 (f z).1.0)),
    either_in g.1 (λ z. (f z).1.1),
    either_in g.2 (λ z. (f z).1.2),
  )
