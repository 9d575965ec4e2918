-- A walk that holds a mark came to the part of the order that has it, and went on in there to the mark: by induction on the walk, whose
-- list is cut where the mark stands. And a walk of a part goes on one that came to it.
use Rattle.std.proofs.Common.{◌≡◌, ◌⊎◌, inl, inr, ℕ, Bool, true, false, List, [], ◌∷◌, ◌++◌, refl, sym, ◌∙◌, subst, ap}
use Rattle.rx_lower_walks.specs.Actions.{Dead, Action, does}
use Rattle.rx_lower_walks.specs.Orders.{Exit, exit_node, Order}
use Rattle.rx_lower_walks.specs.Orders as order
use Rattle.rx_lower_walks.specs.Walks.{Out, stopped, by_stop, Walk, rests, stops, nothing, acts, both, first, one, other, leave, fail, holds, next, ends, jumps, halts, last, more}
use Rattle.rx_lower_walks.proofs.WalksFronts.{fronts}
use Rattle.rx_exits_plan.specs.Unmarked.{is_mark}
use Rattle.rx_exits_plan.specs.Coming.{Into, all, in_first, in_second, in_one, in_other, in_arm, in_next, in_scope, in_pass, in_later}

joined : {A : Type 0} (us vs ws : List A) → (us ++ vs) ++ ws ≡ us ++ (vs ++ ws)
joined [] vs ws = refl
joined (u ∷ us) vs ws = ap (λ l. u ∷ l) (joined us vs ws)

-- ---- a walk that came to a part goes on in it

pub goes_on : {q s : Order} {w : List Action} → Into q s w → (v : List Action) → Walk q v stopped → Walk s (w ++ v) stopped
goes_on all v h = h
goes_on (in_first i) v h = first tt (goes_on i v h)
goes_on {s = s} (in_second {us = us} {w = w} a i) v h = subst (λ l. Walk s l stopped) (sym (joined us w v)) (both a (goes_on i v h))
goes_on (in_one i) v h = one (goes_on i v h)
goes_on (in_other i) v h = other (goes_on i v h)
goes_on (in_arm i) v h = holds tt (goes_on i v h)
goes_on {s = s} (in_next {us = us} {w = w} a i) v h = subst (λ l. Walk s l stopped) (sym (joined us w v)) (next a (goes_on i v h))
goes_on (in_scope i) v h = halts (goes_on i v h)
goes_on (in_pass i) v h = last (goes_on i v h) by_stop
goes_on {s = s} (in_later {us = us} {w = w} a e i) v h = subst (λ l. Walk s l stopped) (sym (joined us w v)) (more a e (goes_on i v h))

-- ---- where the mark stands in a list of two pieces

abbrev Cut : Action → List Action → List Action → List Action → List Action → Type 0
Cut a us vs w rest = ((r : List Action) × (us ≡ w ++ a ∷ r)) ⊎ ((k : List Action) × (w ≡ us ++ k) × (vs ≡ k ++ a ∷ rest))

cut : (a : Action) (us vs w rest : List Action) → us ++ vs ≡ w ++ a ∷ rest → Cut a us vs w rest
cut a [] vs w rest e = inr (w, refl, e)
cut a (u ∷ us) vs [] rest e = inl (us, cc)
cut a (u ∷ us) vs (x ∷ w) rest e = by (cut a us vs w rest (cc))
  where
    by : Cut a us vs w rest → Cut a (u ∷ us) vs (x ∷ w) rest
    by (inl (r, h)) = inl (r, cc)
    by (inr (k, h, g)) = inr (k, cc, g)

not_empty : (a : Action) (w rest : List Action) → [] ≡ w ++ a ∷ rest → ⊥
not_empty a [] rest e = absurd (cc)
not_empty a (x ∷ w) rest e = absurd (cc)

only_one : (a b : Action) (w rest : List Action) → b ∷ [] ≡ w ++ a ∷ rest → b ≡ a
only_one a b [] rest e = cc
only_one a b (x ∷ w) rest e = absurd (tail_of (cc))
  where
    tail_of : [] ≡ w ++ a ∷ rest → ⊥
    tail_of h = not_empty a w rest h

-- ---- orders whose marks are in these parts

pub data Covered (P : Order → Type 0) : Order → Type 0 where
  is_part : {s : Order} → P s → Covered P s
  c_nothing : Covered P order.nothing
  c_nowhere : Covered P order.nowhere
  c_act : {b : Action} → is_mark b.act ≡ false → Covered P (order.act b)
  c_then : {s t : Order} → Covered P s → Covered P t → Covered P (order.then s t)
  c_or : {s t : Order} → Covered P s → Covered P t → Covered P (order.or s t)
  c_leave : {x : Exit} → Covered P (order.leave x)
  c_fail : Covered P order.fail
  c_otherwise : {s t : Order} → Covered P s → Covered P t → Covered P (order.otherwise s t)
  c_ending : {n x : ℕ} {s : Order} → Covered P s → Covered P (order.ending n x s)
  c_passes : {l : ℕ} {s : Order} → Covered P s → Covered P (order.passes l s)

-- it came to a part, and in there to the action
pub record Came (a : Action) (P : Order → Type 0) (s : Order) (w : List Action) : Type 0 where
  pub part : Order
  pub is : P part
  pub front : List Action
  pub rest : List Action
  pub into : Into part s front
  pub walk : Walk part (rest ++ a ∷ []) stopped
  pub whole : w ≡ front ++ rest

not_it : {a b : Action} → is_mark a.act ≡ true → is_mark b.act ≡ false → b ≡ a → ⊥
not_it {a = a} {b = b} m n e = absurd (contrary (is_mark b.act) n (ap (λ (x : Action). is_mark x.act) e ∙ m))
  where
    contrary : (t : Bool) → t ≡ false → t ≡ true → ⊥
    contrary true p r = absurd (cc)
    contrary false p r = absurd (cc)

abbrev within : {a : Action} {P : Order → Type 0} {s X : Order} {w : List Action} → ((q : Order) (l : List Action) → Into q s l → Into q X l) → Came a P s w → Came a P X w
within f z = record { part = z.part; is = z.is; front = z.front; rest = z.rest; into = f z.part z.front z.into; walk = z.walk; whole = z.whole }

abbrev behind : {a : Action} {P : Order → Type 0} {s X : Order} {k : List Action} (us w : List Action) → w ≡ us ++ k
    → ((q : Order) (l : List Action) → Into q s l → Into q X (us ++ l)) → Came a P s k → Came a P X w
behind us w e f z = record {
  part = z.part;
  is = z.is;
  front = us ++ z.front;
  rest = z.rest;
  into = f z.part z.front z.into;
  walk = z.walk;
  whole = e ∙ ap (λ l. us ++ l) z.whole ∙ sym (joined us z.front z.rest);
}

by_cut : {a : Action} {P : Order → Type 0} {X : Order} {w rest : List Action} (us vs : List Action) → Cut a us vs w rest
    → ((r : List Action) → us ≡ w ++ a ∷ r → Came a P X w) → ((k : List Action) → w ≡ us ++ k → vs ≡ k ++ a ∷ rest → Came a P X w) → Came a P X w
by_cut us vs (inl (r, e)) f g = f r e
by_cut us vs (inr (k, e, h)) f g = g k e h

pub came : {a : Action} {P : Order → Type 0} {s : Order} {l : List Action} {o : Out} → is_mark a.act ≡ true → Walk s l o → Covered P s
    → (w rest : List Action) → l ≡ w ++ a ∷ rest → Came a P s w
came {a = a} {s = s} {l = l} m h (is_part p) w rest e = record {
  part = s;
  is = p;
  front = [];
  rest = w;
  into = all;
  walk = fronts h (w ++ a ∷ []) rest (e ∙ sym (joined w (a ∷ []) rest));
  whole = refl;
}
came {a = a} m rests c w rest e = absurd (not_empty a w rest e)
came m (stops h) c w rest e = came m h c w rest e
came {a = a} m nothing c_nothing w rest e = absurd (not_empty a w rest e)
came {a = a} m (acts {a = b}) (c_act n) w rest e = absurd (not_it m n (only_one a b w rest e))
came {a = a} m (both {us = us} {vs = vs} h k) (c_then c d) w rest e = by_cut us vs (cut a us vs w rest e)
    (λ r g. within (λ q l i. in_first i) (came m h c w r g))
    (λ x g f. behind us w g (λ q l i. in_second h i) (came m k d x rest f))
came m (first e h) (c_then c d) w rest g = within (λ q l i. in_first i) (came m h c w rest g)
came m (one h) (c_or c d) w rest e = within (λ q l i. in_one i) (came m h c w rest e)
came m (other h) (c_or c d) w rest e = within (λ q l i. in_other i) (came m h d w rest e)
came {a = a} m leave c_leave w rest e = absurd (not_empty a w rest e)
came {a = a} m fail c_fail w rest e = absurd (not_empty a w rest e)
came m (holds g h) (c_otherwise c d) w rest e = within (λ q l i. in_arm i) (came m h c w rest e)
came {a = a} m (next {us = us} {vs = vs} h k) (c_otherwise c d) w rest e = by_cut us vs (cut a us vs w rest e)
    (λ r g. within (λ q l i. in_arm i) (came m h c w r g))
    (λ x g f. behind us w g (λ q l i. in_next h i) (came m k d x rest f))
came {a = a} m (ends {n = n} {x = x} {us = us} h) (c_ending c) w rest e = by_cut us (does n (Dead x) ∷ []) (cut a us (does n (Dead x) ∷ []) w rest e)
    (λ r g. within (λ q l i. in_scope i) (came m h c w r g))
    (λ y g f. absurd (not_it m refl (only_one a (does n (Dead x)) y rest f)))
came {a = a} m (jumps {x = x} {us = us} {j = j} h) (c_ending c) w rest e = by_cut us (does (exit_node j) (Dead x) ∷ []) (cut a us (does (exit_node j) (Dead x) ∷ []) w rest e)
    (λ r g. within (λ q l i. in_scope i) (came m h c w r g))
    (λ y g f. absurd (not_it m refl (only_one a (does (exit_node j) (Dead x)) y rest f)))
came m (halts h) (c_ending c) w rest e = within (λ q l i. in_scope i) (came m h c w rest e)
came m (last h g) (c_passes c) w rest e = within (λ q l i. in_pass i) (came m h c w rest e)
came {a = a} m (more {us = us} {vs = vs} h g k) (c_passes c) w rest e = by_cut us vs (cut a us vs w rest e)
    (λ r y. within (λ q z i. in_pass i) (came m h c w r y))
    (λ x y f. behind us w y (λ q z i. in_later h g i) (came m k (c_passes c) x rest f))
