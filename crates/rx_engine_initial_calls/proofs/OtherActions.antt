-- Trees with changes at blocks, jumps and returns: where each action in what is put there is another one than a mark, or stands in a part that
-- is known, so it is in the order of the tree, form by form. And what a walk that holds the mark came to.
use Rattle.std.proofs.Common.{◌≡◌, ℕ, Bool, true, false, List, [], ◌∷◌, ◌++◌, refl}
use Rattle.rx_core.specs.declared.types.Step.{Step}
use Rattle.rx_typed.specs.Tree.{Temporary, Making, constant, negation, inversion, operation, lazy, tuple, struct, variant_of, Mode, by_value, by_reference, Mark, Exp, read, borrow, share, build, unit, lazily, assign, update, call, input, print, block, choose, loop, jump, give, Operands, no_operand, operand_and, Scrutinee, at_place, of_value, Arms, no_arm, arm_and, Body, ends, runs, declares, lets, Parameter, mark_of, temporary_at, temporary_of}
use Rattle.rx_lower_walks.specs.Matching.{PartTest, Binding, tests, bindings}
use Rattle.rx_lower_walks.specs.Actions.{Action, Subject, in_place, in_temporary, subject, taking}
use Rattle.rx_lower_walks.specs.Orders.{Order, testing, perhaps, binding, declaring, order, order_all, order_scrutinee, order_arms, order_body, beginning}
use Rattle.rx_lower_walks.specs.Orders as orders
use Rattle.rx_lower_walks.specs.Walks.{Out, stopped, Walk, rests, stops, acts, Among, here, there}
use Rattle.rx_exits_plan.specs.Blocks.{Statement, does, begins, binds, bound, before}
use Rattle.rx_exits_plan.specs.Spots.{Around, with_variables, with_loop, Spot, a_block, a_return, spots, spots_in, spots_matched, spots_armed, spots_of}
use Rattle.rx_exits_plan.specs.Changed.{Changes, changed, changed_all, changed_matched, changed_arms, changed_body}
use Rattle.rx_exits_plan.specs.Unmarked.{makes_mark, is_mark}
use Rattle.rx_exits_plan.proofs.Coming.{Covered, c_nothing, c_nowhere, c_act, c_then, c_or, c_leave, c_fail, c_otherwise, c_ending, c_passes, came}
use Rattle.rx_engine_related.proofs.Bare.{NoMarks}
use Rattle.rx_engine_related.proofs.Meeting.{not_empty}
use Rattle.rx_engine_related.proofs.Sole.{of_testing, of_binding, of_declaring, AllFree}

-- ---- what a walk that holds an action came to

-- another action, or a part that is known
pub data Holds (a : Action) (X : Order → Type 0) : Order → Type 0 where
  is_other : (b : Action) → (b ≡ a → ⊥) → Holds a X (orders.act b)
  is_known : {s : Order} → X s → Holds a X s

abbrev pub None : Order → Type 0
None s = ⊥

only_one : (a b : Action) (w rest : List Action) → b ∷ [] ≡ w ++ a ∷ rest → b ≡ a
only_one a b [] rest e = cc
only_one a b (x ∷ w) rest e = absurd (not_empty a w rest (cc))

pub act_holds : {a b : Action} {u : List Action} {o : Out} → Walk (orders.act b) u o → (w rest : List Action) → u ≡ w ++ a ∷ rest → b ≡ a
act_holds {a = a} rests w rest e = absurd (not_empty a w rest e)
act_holds (stops h) w rest e = act_holds h w rest e
act_holds {a = a} {b = b} acts w rest e = only_one a b w rest e

pub known : {a : Action} {X : Order → Type 0} {s : Order} → Holds a X s → (v rest : List Action) (o : Out) → Walk s (v ++ a ∷ rest) o → X s
known (is_other b f) v rest o w = absurd (f (act_holds w v rest refl))
known (is_known x) v rest o w = x

-- the known part, and the walk in it to the action
pub record Met (a : Action) (X : Order → Type 0) : Type 0 where
  pub part : Order
  pub is : X part
  pub front : List Action
  pub walk : Walk part (front ++ a ∷ []) stopped

pub meets : {a : Action} {X : Order → Type 0} → is_mark a.act ≡ true → {s : Order} → Covered (Holds a X) s → (v rest : List Action) (o : Out) → Walk s (v ++ a ∷ rest) o → Met a X
meets m c v rest o w = let z = came m w c v rest refl in record { part = z.part; is = known z.is z.rest [] stopped z.walk; front = z.rest; walk = z.walk }

pub never_met : {a : Action} → is_mark a.act ≡ true → {s : Order} → Covered (Holds a None) s → (v rest : List Action) (o : Out) → Walk s (v ++ a ∷ rest) o → ⊥
never_met m c v rest o w = (meets m c v rest o w).is

-- ---- patterns

module _ {P : Order → Type 0} where
  testing_covered : (S : Subject) (ts : List PartTest) (r : Order) → Covered P r → Covered P (testing S ts r)
  testing_covered S [] r c = c
  testing_covered S (t ∷ ts) r c = c_then (c_act refl) (c_or (testing_covered S ts r c) c_fail)

  pub taking_covered : (n : ℕ) (m : Mode) (S : Subject) (ss : List Step) (d : Temporary) → Covered P (perhaps n (taking m S ss d))
  taking_covered n (by_reference k) S ss d = c_act refl
  taking_covered n (by_value v) (in_place p) ss d = c_act refl
  taking_covered n (by_value v) (in_temporary t) ss d = c_nothing

  pub binding_covered : (S : Subject) (bs : List Binding) (n : ℕ) (r : Order) → Covered P r → Covered P (binding S bs n r)
  binding_covered S [] n r c = c
  binding_covered S (b ∷ bs) n r c = c_then (taking_covered b.node b.mode S b.steps (temporary_at b.node 0)) (c_then (c_act refl) (c_then (c_act refl) (c_ending (binding_covered S bs n r c))))

  pub declaring_covered : (s : ℕ) (xs : List ℕ) (n : ℕ) (r : Order) → Covered P r → Covered P (declaring s xs n r)
  declaring_covered s [] n r c = c
  declaring_covered s (x ∷ xs) n r c = c_then (c_act refl) (c_ending (declaring_covered s xs n r c))

  pub beginning_covered : (ps : List Parameter) (n : ℕ) (r : Order) → Covered P r → Covered P (beginning ps n r)
  beginning_covered [] n r c = c
  beginning_covered (p ∷ ps) n r c = c_then (c_act refl) (c_then (c_act refl) (c_ending (beginning_covered ps n r c)))

  -- ---- what has no mark

  pub unmarked_covered : (s : Order) → NoMarks s → Covered P s
  unmarked_covered orders.nothing h = c_nothing
  unmarked_covered orders.nowhere h = c_nowhere
  unmarked_covered (orders.act a) h = c_act h
  unmarked_covered (orders.then s t) h = c_then (unmarked_covered s h.0) (unmarked_covered t h.1)
  unmarked_covered (orders.or s t) h = c_or (unmarked_covered s h.0) (unmarked_covered t h.1)
  unmarked_covered (orders.leave x) h = c_leave
  unmarked_covered orders.fail h = c_fail
  unmarked_covered (orders.otherwise s t) h = c_otherwise (unmarked_covered s h.0) (unmarked_covered t h.1)
  unmarked_covered (orders.ending n x s) h = c_ending (unmarked_covered s h)
  unmarked_covered (orders.passes l s) h = c_passes (unmarked_covered s h)

  pub before_covered : (ss : List Statement) (b : Body) (n : ℕ) (d : Temporary) → AllFree ss → Covered P (order_body b n d) → Covered P (order_body (before ss b) n d)
  before_covered [] b n d h c = c
  before_covered (does e ∷ ss) b n d h c = c_then (unmarked_covered (order e (temporary_of e)) h.0) (before_covered ss b n d h.1 c)
  before_covered (begins s xs ∷ ss) b n d h c = declaring_covered s xs n (order_body (before ss b) n d) (before_covered ss b n d h.1 c)
  before_covered (binds s p e ∷ ss) b n d h c = c_then (unmarked_covered (order_scrutinee e) h.0) (binding_covered (subject e) (bindings [] p) n (order_body (before ss b) n d) (before_covered ss b n d h.1 c))

-- ---- trees

-- what is put at blocks, jumps and returns; `Q`: what is known of the spots
pub record Covers (P : Order → Type 0) (C : Changes) (Q : Spot → Type 0) : Type 0 where
  pub at_block : (c : Around) (n : ℕ) (was b : Body) (d f : Temporary) → Q (a_block c n was) → NoMarks (order_body was n f) → Covered P (order_body b n d) → Covered P (order_body (C.at_block n was b) n d)
  pub at_jump : (m : Mark) (l : ℕ) (again : Bool) (d : Temporary) → Covered P (order (C.at_jump m l again) d)
  pub at_return : (e : Exp) → ((d : Temporary) → Covered P (order e d)) → (d : Temporary) → Covered P (order (C.at_return e) d)

among_left : {x : Spot} {l : List Spot} (m : List Spot) → Among x l → Among x (l ++ m)
among_left m here = here
among_left m (there i) = there (among_left m i)

among_right : {x : Spot} (l : List Spot) {m : List Spot} → Among x m → Among x (l ++ m)
among_right [] i = i
among_right (y ∷ l) i = there (among_right l i)

-- with operands it makes no mark
with_operands : (w : Making) (i : ℕ) (is : List ℕ) (t : Temporary) (ts : List Temporary) → makes_mark w (i ∷ is) (t ∷ ts) ≡ false
with_operands (constant c) i is t ts = refl
with_operands negation i is t ts = refl
with_operands inversion i is t ts = refl
with_operands (operation o) i is t ts = refl
with_operands lazy i is t ts = refl
with_operands tuple i is t ts = refl
with_operands (struct g) i is t ts = refl
with_operands (variant_of g v) i is t ts = refl

module _ (P : Order → Type 0) (C : Changes) (Q : Spot → Type 0) (K : Covers P C Q) where
  abbrev All : List Spot → Type 0
  All l = (x : Spot) → Among x l → Q x

  of_front : (l m : List Spot) → All (l ++ m) → All l
  of_front l m q x i = q x (among_left m i)

  of_rest : (l m : List Spot) → All (l ++ m) → All m
  of_rest l m q x i = q x (among_right l i)

  mutual
    pub covered : (e : Exp) (a : Around) (d f : Temporary) → All (spots a e) → NoMarks (order e f) → Covered P (order (changed C e) d)
    covered (read m v p) a d f q h = c_act refl
    covered (borrow m k p) a d f q h = c_act refl
    covered (share m e) a d f q h = c_then (covered e a (temporary_at m.node 1) (temporary_at m.node 1) q h.0) (c_act refl)
    covered (build m w no_operand) a d f q h = c_then c_nothing (c_act h.1)
    covered (build m w (operand_and i e es)) a d f q h = c_then (c_then (covered e a (temporary_of (changed C e)) (temporary_of e) (of_front (spots a e) (spots_in a es) q) h.0.0)
        (covered_all es a (of_rest (spots a e) (spots_in a es) q) h.0.1)) (c_act (with_operands w i _ _ _))
    covered (unit m) a d f q h = c_nothing
    covered (lazily m b e g) a d f q h = c_then (covered e a (temporary_of (changed C e)) (temporary_of e) (of_front (spots a e) (spots a g) q) h.0) (c_then (c_act refl)
        (c_then (c_or (covered g a (temporary_of (changed C g)) (temporary_of g) (of_rest (spots a e) (spots a g) q) h.1.1.0.0) c_nothing) (c_act refl)))
    covered (assign m p e) a d f q h = c_then (covered e a (temporary_of (changed C e)) (temporary_of e) q h.0) (c_act refl)
    covered (update m o p e) a d f q h = c_then (covered e a (temporary_of (changed C e)) (temporary_of e) q h.0) (c_then (c_act refl) (c_then (c_act refl) (c_act refl)))
    covered (call m g es) a d f q h = c_then (covered_all es a q h.0) (c_act refl)
    covered (input m) a d f q h = c_act refl
    covered (print m e) a d f q h = c_then (covered e a (temporary_of (changed C e)) (temporary_of e) q h.0) (c_act refl)
    covered (block m b) a d f q h = K.at_block a m.node b (changed_body C b) d f (q (a_block a m.node b) here) h (covered_body b m.node a d f (λ x i. q x (there i)) h)
    covered (choose m s l) a d f q h = c_then (covered_matched s a (of_front (spots_matched a s) (spots_armed a l) q) h.0)
        (covered_arms (subject s) (subject (changed_matched C s)) l a d f (of_rest (spots_matched a s) (spots_armed a l) q) h.1)
    covered (loop m l e) a d f q h = c_passes (covered e (with_loop l a) (temporary_of (changed C e)) (temporary_of e) q h)
    covered (jump m l again) a d f q h = K.at_jump m l again d
    covered (give m e) a d f q h = c_then (K.at_return (changed C e) (λ t. covered e a t (temporary_of e) (of_front (spots a e) (a_return a m.node ∷ []) q) h.0) (temporary_of (C.at_return (changed C e))))
        (c_then (c_act refl) c_leave)

    covered_all : (es : Operands) (a : Around) → All (spots_in a es) → NoMarks (order_all es) → Covered P (order_all (changed_all C es))
    covered_all no_operand a q h = c_nothing
    covered_all (operand_and i e es) a q h =
        c_then (covered e a (temporary_of (changed C e)) (temporary_of e) (of_front (spots a e) (spots_in a es) q) h.0) (covered_all es a (of_rest (spots a e) (spots_in a es) q) h.1)

    pub covered_matched : (s : Scrutinee) (a : Around) → All (spots_matched a s) → NoMarks (order_scrutinee s) → Covered P (order_scrutinee (changed_matched C s))
    covered_matched (at_place m p) a q h = c_nothing
    covered_matched (of_value e) a q h = covered e a (temporary_of (changed C e)) (temporary_of e) q h

    covered_arms : (S T : Subject) (l : Arms) (a : Around) (d f : Temporary) → All (spots_armed a l) → NoMarks (order_arms S l f) → Covered P (order_arms T (changed_arms C l) d)
    covered_arms S T no_arm a d f q h = c_nowhere
    covered_arms S T (arm_and p e l) a d f q h =
        let b = with_variables (bound p) a in
        let r : Order = order e f in
        let n = of_binding S (bindings [] p) (mark_of e).node r (of_testing S (tests [] p) (binding S (bindings [] p) (mark_of e).node r) h.0) in
        c_otherwise (testing_covered T (tests [] p) _ (binding_covered T (bindings [] p) (mark_of (changed C e)).node (order (changed C e) d) (covered e b d f (of_front (spots b e) (spots_armed a l) q) n)))
        (covered_arms S T l a d f (of_rest (spots b e) (spots_armed a l) q) h.1)

    pub covered_body : (b : Body) (n : ℕ) (a : Around) (d f : Temporary) → All (spots_of a b) → NoMarks (order_body b n f) → Covered P (order_body (changed_body C b) n d)
    covered_body (ends e) n a d f q h = covered e a d f q h
    covered_body (runs e b) n a d f q h =
        c_then (covered e a (temporary_of (changed C e)) (temporary_of e) (of_front (spots a e) (spots_of a b) q) h.0) (covered_body b n a d f (of_rest (spots a e) (spots_of a b) q) h.1)
    covered_body (declares s xs b) n a d f q h = declaring_covered s xs n (order_body (changed_body C b) n d) (covered_body b n (with_variables xs a) d f q (of_declaring s xs n (order_body b n f) h))
    covered_body (lets s p c b) n a d f q h =
        let i = with_variables (bound p) a in
        c_then (covered_matched c a (of_front (spots_matched a c) (spots_of i b) q) h.0) (binding_covered (subject (changed_matched C c)) (bindings [] p) n (order_body (changed_body C b) n d)
        (covered_body b n i d f (of_rest (spots_matched a c) (spots_of i b) q) (of_binding (subject c) (bindings [] p) n (order_body b n f) h.1)))
