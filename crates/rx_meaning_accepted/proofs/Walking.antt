-- What holds of each act that an order comes to, where the parts in front of it go on, holds of those of its walks; and where orders go on.
use Rattle.std.proofs.Common.{◌≡◌, ◌⊎◌, inl, inr, ℕ, List, [], ◌∷◌, ◌++◌, refl, sym, ◌∙◌, subst}
use Rattle.rx_tree.specs.Lists.{Every}
use Rattle.rx_typed.specs.Tree as tree
use Rattle.rx_typed.specs.Tree.{Temporary, Function, mark_of, temporary_of}
use Rattle.rx_lower_walks.specs.Matching.{PartTest, Binding, tests, bindings}
use Rattle.rx_lower_walks.specs.Actions.{Act, Dead, Action, does, Subject, taken}
use Rattle.rx_lower_walks.specs.Orders as order
use Rattle.rx_lower_walks.specs.Orders.{Exit, Order, perhaps, testing, binding, declaring, order_arms, order_body, order_function}
use Rattle.rx_lower_walks.specs.Walks as walk
use Rattle.rx_lower_walks.specs.Walks.{Out, Walk, rests, stops, nothing, acts, both, first, one, other, leave, fail, holds, next, ends, jumps, halts, last, more, Left, by_break, Passed, IsWalk}
use Rattle.rx_meaning_keeping.specs.Units.{GoesOn}

-- ---- where an order goes on

pub first_on : {s t : Order} → GoesOn (order.then s t) → GoesOn s
first_on {s = s} {t = t} g = by g.1
  where
    by : {w : List Action} → Walk (order.then s t) w walk.on → GoesOn s
    by (both {us = us} h k) = (us, h)
    by (first e h) = absurd e

pub second_on : {s t : Order} → GoesOn (order.then s t) → GoesOn t
second_on {s = s} {t = t} g = by g.1
  where
    by : {w : List Action} → Walk (order.then s t) w walk.on → GoesOn t
    by (both {vs = vs} h k) = (vs, k)
    by (first e h) = absurd e

pub nowhere_on : GoesOn order.nowhere → ⊥
nowhere_on g = by g.1
  where
    by : {w : List Action} → Walk order.nowhere w walk.on → ⊥
    by h = elim h [ ]

pub leave_on : {x : Exit} → GoesOn (order.leave x) → ⊥
leave_on {x = x} g = by g.1
  where
    by : {w : List Action} → Walk (order.leave x) w walk.on → ⊥
    by h = elim h [ ]

ending_on : {n x : ℕ} {s : Order} → GoesOn (order.ending n x s) → GoesOn s
ending_on {n = n} {x = x} {s = s} g = by g.1
  where
    by : {w : List Action} → Walk (order.ending n x s) w walk.on → GoesOn s
    by (ends {us = us} h) = (us, h)

either_on : {s t : Order} → GoesOn (order.or s t) → GoesOn s ⊎ GoesOn t
either_on {s = s} {t = t} g = by g.1
  where
    by : {w : List Action} → Walk (order.or s t) w walk.on → GoesOn s ⊎ GoesOn t
    by (one {us = us} h) = inl (us, h)
    by (other {us = us} h) = inr (us, h)

fail_on : GoesOn order.fail → ⊥
fail_on g = by g.1
  where
    by : {w : List Action} → Walk order.fail w walk.on → ⊥
    by h = elim h [ ]

testing_on : (S : Subject) (ts : List PartTest) (rest : Order) → GoesOn (testing S ts rest) → GoesOn rest
testing_on S [] rest g = g
testing_on S (t ∷ ts) rest g = by (either_on (second_on g)) (λ h. testing_on S ts rest h)
  where
    by : GoesOn (testing S ts rest) ⊎ GoesOn order.fail → (GoesOn (testing S ts rest) → GoesOn rest) → GoesOn rest
    by (inl h) k = k h
    by (inr h) k = absurd (fail_on h)

pub binding_on : (S : Subject) (bs : List Binding) (n : ℕ) (rest : Order) → GoesOn (binding S bs n rest) → GoesOn rest
binding_on S [] n rest g = g
binding_on S (b ∷ bs) n rest g = binding_on S bs n rest (ending_on (second_on (second_on (second_on g))))

pub declaring_on : (s : ℕ) (xs : List ℕ) (n : ℕ) (rest : Order) → GoesOn (declaring s xs n rest) → GoesOn rest
declaring_on s [] n rest g = g
declaring_on s (x ∷ xs) n rest g = declaring_on s xs n rest (ending_on (second_on g))

-- one of the arms goes on
pub arms_on : (S : Subject) (p : tree.Pattern) (e : tree.Exp) (l : tree.Arms) (d : Temporary) → GoesOn (order_arms S (tree.arm_and p e l) d) → GoesOn (order.order e d) ⊎ GoesOn (order_arms S l d)
arms_on S p e l d g = by g.1
  where
    arm : Order
    arm = testing S (tests [] p) (binding S (bindings [] p) (mark_of e).node (order.order e d))

    by : {w : List Action} → Walk (order.otherwise arm (order_arms S l d)) w walk.on → GoesOn (order.order e d) ⊎ GoesOn (order_arms S l d)
    by (holds {us = us} e h) = inl (binding_on S (bindings [] p) _ _ (testing_on S (tests [] p) _ (us, h)))
    by (next {vs = vs} h k) = inr (vs, k)

-- a loop goes on where a pass leaves it
pub passes_on : (l : ℕ) (s : Order) → GoesOn (order.passes l s) → (n : ℕ) × (w : List Action) × Walk s w (walk.leaves (order.breaks n l))
passes_on l s g = by g.1
  where
    left : {w : List Action} {o p : Out} → p ≡ walk.on → Left l o p → Walk s w o → (n : ℕ) × (w : List Action) × Walk s w (walk.leaves (order.breaks n l))
    left {w = w} q (by_break {n = n} {k = k} e) h = (n, w, subst (λ (z : ℕ). Walk s w (walk.leaves (order.breaks n z))) e h)
    left q (walk.by_outer_break e) h = absurd (cc)
    left q (walk.by_outer_continue e) h = absurd (cc)
    left q walk.by_return h = absurd (cc)
    left q walk.by_stop h = absurd (cc)

    by_end : {w : List Action} {p : Out} → p ≡ walk.on → Walk (order.passes l s) w p → (n : ℕ) × (w : List Action) × Walk s w (walk.leaves (order.breaks n l))
    by_end q rests = absurd (cc)
    by_end q (stops h) = absurd (cc)
    by_end q (last h e) = left q e h
    by_end q (more h e k) = by_end q k

    by : {w : List Action} → Walk (order.passes l s) w walk.on → (n : ℕ) × (w : List Action) × Walk s w (walk.leaves (order.breaks n l))
    by h = by_end refl h

-- ---- which loops an order leaves

abbrev NotBreak : ℕ → Exit → Type 0
NotBreak l (order.breaks n k) = k ≡ l → ⊥
NotBreak l _ = Unit {0}

-- no `break` of this loop leads out of it
abbrev pub Avoids : ℕ → Order → Type 0
Avoids l order.nothing = Unit {0}
Avoids l order.nowhere = Unit {0}
Avoids l (order.act a) = Unit {0}
Avoids l (order.then s t) = Avoids l s × Avoids l t
Avoids l (order.or s t) = Avoids l s × Avoids l t
Avoids l (order.leave x) = NotBreak l x
Avoids l order.fail = Unit {0}
Avoids l (order.otherwise s t) = Avoids l s × Avoids l t
Avoids l (order.ending n x s) = Avoids l s
-- a `break` of the loop itself leads behind it
Avoids l (order.passes k s) = (k ≡ l → ⊥) → Avoids l s

abbrev OutNot : ℕ → Out → Type 0
OutNot l (walk.leaves x) = NotBreak l x
OutNot l _ = Unit {0}

pub avoided : (l : ℕ) {s : Order} {w : List Action} {o : Out} → Walk s w o → Avoids l s → OutNot l o
avoided l rests a = tt
avoided l (stops h) a = tt
avoided l nothing a = tt
avoided l acts a = tt
avoided l (both h g) a = avoided l g a.1
avoided l (first e h) a = avoided l h a.0
avoided l (one h) a = avoided l h a.0
avoided l (other h) a = avoided l h a.1
avoided l leave a = a
avoided l fail a = tt
avoided l (holds e h) a = avoided l h a.0
avoided l (next h g) a = avoided l g a.1
avoided l (ends h) a = tt
avoided l (jumps h) a = avoided l h a
avoided l (halts h) a = tt
avoided l (last h (by_break e)) a = tt
avoided l (last h (walk.by_outer_break e)) a = λ q. avoided l h (a (λ r. e (q ∙ sym r))) q
avoided l (last h (walk.by_outer_continue e)) a = tt
avoided l (last h walk.by_return) a = tt
avoided l (last h walk.by_stop) a = tt
avoided l (more h e g) a = avoided l g a

pub loop_stays : (l : ℕ) (s : Order) → Avoids l s → GoesOn (order.passes l s) → ⊥
loop_stays l s a g = let h = passes_on l s g in avoided l h.2 a refl

-- a test that never goes on keeps the loop from going on, where no `break` of the loop is in it
pub test_stays : (l : ℕ) (s t : Order) → Avoids l s → (GoesOn s → ⊥) → GoesOn (order.passes l (order.then s t)) → ⊥
test_stays l s t a f g = let h = passes_on l (order.then s t) g in by refl h.2
  where
    by : {w : List Action} {o : Out} {n : ℕ} → o ≡ walk.leaves (order.breaks n l) → Walk (order.then s t) w o → ⊥
    by q rests = cc
    by q (stops h) = cc
    by q (both {us = us} h k) = f (us, h)
    by {n = n} q (first e h) = subst (λ (z : Out). OutNot l z) q (avoided l h a) refl

-- ---- what holds of each act

module _ (Q : Act → Type 0) where
  abbrev pub Holds : Order → Type 0
  Holds order.nothing = Unit {0}
  Holds order.nowhere = Unit {0}
  Holds (order.act a) = Q a.act
  Holds (order.then s t) = Holds s × (GoesOn s → Holds t)
  Holds (order.or s t) = Holds s × Holds t
  Holds (order.leave x) = Unit {0}
  Holds order.fail = Unit {0}
  Holds (order.otherwise s t) = Holds s × Holds t
  Holds (order.ending n x s) = Holds s
  Holds (order.passes l s) = Holds s

  module _ (dead : (x : ℕ) → Q (Dead x)) where
    abbrev OfAction : Action → Type 0
    OfAction a = Q a.act

    joined : (a b : List Action) → Every OfAction a → Every OfAction b → Every OfAction (a ++ b)
    joined [] b g h = h
    joined (x ∷ a) b g h = (g.0, joined a b g.1 h)

    held : {s : Order} {w : List Action} {o : Out} → Walk s w o → Holds s → Every OfAction w
    held rests k = tt
    held (stops h) k = held h k
    held nothing k = tt
    held acts k = (k, tt)
    held (both {us = us} {vs = vs} h g) k = joined us vs (held h k.0) (held g (k.1 (us, h)))
    held (first e h) k = held h k.0
    held (one h) k = held h k.0
    held (other h) k = held h k.1
    held leave k = tt
    held fail k = tt
    held (holds e h) k = held h k.0
    held (next {us = us} {vs = vs} h g) k = joined us vs (held h k.0) (held g k.1)
    held (ends {n = n} {x = x} {us = us} h) k = joined us (does n (Dead x) ∷ []) (held h k) (dead x, tt)
    held (jumps {x = x} {us = us} h) k = joined us _ (held h k) (dead x, tt)
    held (halts h) k = held h k
    held (last h e) k = held h k
    held (more {us = us} {vs = vs} h e g) k = joined us vs (held h k) (held g k)

    last_of : (w : List Action) (a : Action) (rest : List Action) → Every OfAction ((w ++ a ∷ []) ++ rest) → Q a.act
    last_of [] a rest h = h.0
    last_of (b ∷ w) a rest h = last_of w a rest h.1

    pub of_walk : (f : Function) → Holds (order_function f) → (w : List Action) (a : Action) → IsWalk f (w ++ a ∷ []) → Q a.act
    of_walk f k w a h = last_of w a h.0 (held h.2 k)
