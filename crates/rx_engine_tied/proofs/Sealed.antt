-- Orders that never go on, also with marks in them; and a mark that no walk of an order holds, since a part in front of it never goes on.
use Rattle.std.proofs.Common.{◌≡◌, ℕ, true, List, [], ◌∷◌, ◌++◌, refl, ◌∙◌, ◌⊎◌, inl, inr}
use Rattle.rx_lower_walks.specs.Actions.{Act, Action, Borrow, Build, Call, Dead, Declare, does, Give, Input, Print, Read, Test, Write}
use Rattle.rx_lower_walks.specs.Orders.{breaks, continues, Exit, exit_node, Order, returns}
use Rattle.rx_lower_walks.specs.Orders as order
use Rattle.rx_lower_walks.specs.Walks as walk
use Rattle.rx_lower_walks.specs.Walks.{actions_in, Among, by_break, by_outer_break, by_outer_continue, by_return, by_stop, EndsVariable, here, IsAway, Left, Out, there, Walk}
use Rattle.rx_lower_walks.proofs.HeldLemmas.{held}
use Rattle.rx_exits_plan.specs.Unmarked.{is_mark}
use Rattle.rx_exits_plan.proofs.Alike as alike
use Rattle.rx_exits_plan.proofs.Alike.{Alike, Silent, silent_act, silent_nothing, silent_then}
use Rattle.rx_hoist_meant.proofs.Patterns.{among_split, none_among}
use Rattle.rx_engine_called.specs.Ended.{HasNot}

-- ---- breaks of a loop

abbrev pub NotThis : ℕ → Exit → Type 0
NotThis l (breaks n k) = k ≡ l → ⊥
NotThis l (continues n k) = Unit {0}
NotThis l (returns n) = Unit {0}

-- none of them leads out
abbrev pub NoBreak : ℕ → Order → Type 0
NoBreak l order.nothing = Unit {0}
NoBreak l order.nowhere = Unit {0}
NoBreak l (order.act a) = Unit {0}
NoBreak l (order.then s t) = NoBreak l s × NoBreak l t
NoBreak l (order.or s t) = NoBreak l s × NoBreak l t
NoBreak l (order.leave x) = NotThis l x
NoBreak l order.fail = Unit {0}
NoBreak l (order.otherwise s t) = NoBreak l s × NoBreak l t
NoBreak l (order.ending n x s) = NoBreak l s
NoBreak l (order.passes k s) = NoBreak l s

abbrev NotOut : ℕ → Out → Type 0
NotOut l walk.on = Unit {0}
NotOut l (walk.leaves x) = NotThis l x
NotOut l walk.fails = Unit {0}
NotOut l walk.stopped = Unit {0}

-- ---- what never goes on

mutual
  -- no walk of it leaves by a `break` of this loop
  pub data Stays : ℕ → Order → Type 0 where
    without_break : {l : ℕ} {s : Order} → NoBreak l s → Stays l s
    first_stays : {l : ℕ} {s t : Order} → Never s → Stays l s → Stays l (order.then s t)
    both_stay : {l : ℕ} {s t : Order} → Stays l s → Stays l t → Stays l (order.then s t)

  pub data Never : Order → Type 0 where
    never_nowhere : Never order.nowhere
    never_leave : {x : Exit} → Never (order.leave x)
    never_fail : Never order.fail
    never_first : {s t : Order} → Never s → Never (order.then s t)
    never_second : {s t : Order} → Never t → Never (order.then s t)
    never_or : {s t : Order} → Never s → Never t → Never (order.or s t)
    never_otherwise : {s t : Order} → Never s → Never t → Never (order.otherwise s t)
    never_ending : {n x : ℕ} {s : Order} → Never s → Never (order.ending n x s)
    never_passes : {l : ℕ} {s : Order} → Stays l s → Never (order.passes l s)

no_break : (l : ℕ) {s : Order} {us : List Action} {o : Out} → Walk s us o → NoBreak l s → NotOut l o
no_break l walk.rests c = tt
no_break l (walk.stops h) c = tt
no_break l walk.nothing c = tt
no_break l walk.acts c = tt
no_break l (walk.both h k) c = no_break l k c.1
no_break l (walk.first a h) c = no_break l h c.0
no_break l (walk.one h) c = no_break l h c.0
no_break l (walk.other h) c = no_break l h c.1
no_break l walk.leave c = c
no_break l walk.fail c = tt
no_break l (walk.holds e h) c = no_break l h c.0
no_break l (walk.next h k) c = no_break l k c.1
no_break l (walk.ends h) c = tt
no_break l (walk.jumps h) c = no_break l h c
no_break l (walk.halts h) c = tt
no_break l (walk.last h e) c = at e (no_break l h c)
  where
    at : {k : ℕ} {o p : Out} → Left k o p → NotOut l o → NotOut l p
    at (by_break e) n = tt
    at (by_outer_break e) n = n
    at (by_outer_continue e) n = tt
    at by_return n = tt
    at by_stop n = tt
no_break l (walk.more h e k) c = no_break l k c

not_out : {l : ℕ} {o p : Out} → Left l o p → NotOut l o → IsAway p
not_out (by_break e) n = absurd (n e)
not_out (by_outer_break e) n = tt
not_out (by_outer_continue e) n = tt
not_out by_return n = tt
not_out by_stop n = tt

mutual
  stays_out : (l : ℕ) {s : Order} {us : List Action} {o : Out} → Walk s us o → Stays l s → NotOut l o
  stays_out l h (without_break c) = no_break l h c
  stays_out l walk.rests (first_stays n c) = tt
  stays_out l (walk.stops h) (first_stays n c) = tt
  stays_out l (walk.both h k) (first_stays n c) = absurd (never_on h n)
  stays_out l (walk.first a h) (first_stays n c) = stays_out l h c
  stays_out l walk.rests (both_stay c d) = tt
  stays_out l (walk.stops h) (both_stay c d) = tt
  stays_out l (walk.both h k) (both_stay c d) = stays_out l k d
  stays_out l (walk.first a h) (both_stay c d) = stays_out l h c

  pub never_on : {s : Order} {us : List Action} {o : Out} → Walk s us o → Never s → IsAway o
  never_on walk.rests c = tt
  never_on (walk.stops h) c = tt
  never_on walk.nothing c = elim c [ ]
  never_on (walk.acts {a = a}) c = elim c [ ]
  never_on (walk.both h k) (never_first c) = absurd (never_on h c)
  never_on (walk.both h k) (never_second c) = never_on k c
  never_on (walk.first a h) c = a
  never_on (walk.one h) (never_or c d) = never_on h c
  never_on (walk.other h) (never_or c d) = never_on h d
  never_on walk.leave c = tt
  never_on walk.fail c = tt
  never_on (walk.holds e h) (never_otherwise c d) = never_on h c
  never_on (walk.next h k) (never_otherwise c d) = never_on k d
  never_on (walk.ends h) (never_ending c) = absurd (never_on h c)
  never_on (walk.jumps h) c = tt
  never_on (walk.halts h) c = tt
  never_on (walk.last h e) (never_passes {l = l} c) = not_out e (stays_out l h c)
  never_on (walk.more h e k) (never_passes c) = never_on k (never_passes c)

-- ---- with marks in it

silent_no_break : (l : ℕ) {s : Order} → Silent s → NoBreak l s
silent_no_break l silent_nothing = tt
silent_no_break l (silent_act e) = tt
silent_no_break l (silent_then a b) = (silent_no_break l a, silent_no_break l b)

no_break_still : (l : ℕ) {s t : Order} → Alike s t → NoBreak l t → NoBreak l s
no_break_still l alike.is_nothing c = tt
no_break_still l alike.is_nowhere c = tt
no_break_still l (alike.is_act e) c = tt
no_break_still l (alike.is_then a b) c = (no_break_still l a c.0, no_break_still l b c.1)
no_break_still l (alike.is_or a b) c = (no_break_still l a c.0, no_break_still l b c.1)
no_break_still l alike.is_leave c = c
no_break_still l alike.is_fail c = tt
no_break_still l (alike.is_otherwise a b) c = (no_break_still l a c.0, no_break_still l b c.1)
no_break_still l (alike.is_ending a) c = no_break_still l a c
no_break_still l (alike.is_passes a) c = no_break_still l a c
no_break_still l (alike.marked_in_front s a) c = (silent_no_break l s, no_break_still l a c)
no_break_still l (alike.marked_behind a s) c = (no_break_still l a c, silent_no_break l s)

mutual
  pub never_still : {s t : Order} → Alike s t → Never t → Never s
  never_still (alike.marked_in_front s a) c = never_second (never_still a c)
  never_still (alike.marked_behind a s) c = never_first (never_still a c)
  never_still alike.is_nothing c = absurd (elim c [ ])
  never_still (alike.is_act e) c = absurd (elim c [ ])
  never_still alike.is_nowhere never_nowhere = never_nowhere
  never_still alike.is_leave never_leave = never_leave
  never_still alike.is_fail never_fail = never_fail
  never_still (alike.is_then a b) (never_first c) = never_first (never_still a c)
  never_still (alike.is_then a b) (never_second c) = never_second (never_still b c)
  never_still (alike.is_or a b) (never_or c d) = never_or (never_still a c) (never_still b d)
  never_still (alike.is_otherwise a b) (never_otherwise c d) = never_otherwise (never_still a c) (never_still b d)
  never_still (alike.is_ending a) (never_ending c) = never_ending (never_still a c)
  never_still (alike.is_passes a) (never_passes {l = l} c) = never_passes (stays_still l a c)

  stays_still : (l : ℕ) {s t : Order} → Alike s t → Stays l t → Stays l s
  stays_still l a (without_break c) = without_break (no_break_still l a c)
  stays_still l (alike.is_then a b) (first_stays n c) = first_stays (never_still a n) (stays_still l a c)
  stays_still l (alike.is_then a b) (both_stay c d) = both_stay (stays_still l a c) (stays_still l b d)
  stays_still l (alike.marked_in_front s a) (first_stays n c) = both_stay (without_break (silent_no_break l s)) (stays_still l a (first_stays n c))
  stays_still l (alike.marked_in_front s a) (both_stay c d) = both_stay (without_break (silent_no_break l s)) (stays_still l a (both_stay c d))
  stays_still l (alike.marked_behind a s) (first_stays n c) = both_stay (stays_still l a (first_stays n c)) (without_break (silent_no_break l s))
  stays_still l (alike.marked_behind a s) (both_stay c d) = both_stay (stays_still l a (both_stay c d)) (without_break (silent_no_break l s))

-- ---- a mark that no walk holds

pub data Sealed (m : Action) : Order → Type 0 where
  free : {s : Order} → HasNot m s → Sealed m s
  s_then : {s t : Order} → Sealed m s → Sealed m t → Sealed m (order.then s t)
  s_before : {s t : Order} → Never s → Sealed m s → Sealed m (order.then s t)
  s_or : {s t : Order} → Sealed m s → Sealed m t → Sealed m (order.or s t)
  s_otherwise : {s t : Order} → Sealed m s → Sealed m t → Sealed m (order.otherwise s t)
  s_ending : {n x : ℕ} {s : Order} → Sealed m s → Sealed m (order.ending n x s)
  s_passes : {l : ℕ} {s : Order} → Sealed m s → Sealed m (order.passes l s)

module _ (m : Action) (mark : is_mark m.act ≡ true) where
  lasts : (a : Act) → is_mark a ≡ true → EndsVariable a → ⊥
  lasts (Dead y) e d = cc
  lasts (Declare y) e d = d
  lasts (Read v p t) e d = d
  lasts (Write p t ss) e d = d
  lasts (Borrow v p t) e d = d
  lasts (Test p c) e d = d
  lasts (Call f ts t) e d = d
  lasts (Build w js ts t) e d = d
  lasts (Input t) e d = d
  lasts (Print t) e d = d
  lasts (Give t) e d = d

  no_dead : (n x : ℕ) → Among m (does n (Dead x) ∷ []) → EndsVariable (Dead x) → ⊥
  no_dead n x i = at i
    where
      at : {a : Action} → Among m (a ∷ []) → EndsVariable a.act → ⊥
      at here d = lasts m.act mark d
      at (there j) d = none_among j

  not_held : {s : Order} {us : List Action} {o : Out} → Walk s us o → HasNot m s → Among m us → ⊥
  not_held {s = s} h f i = by (held h m i)
    where
      by : Among m (actions_in s) ⊎ EndsVariable m.act → ⊥
      by (inl j) = f m j refl
      by (inr d) = lasts m.act mark d

  pub sealed_off : {s : Order} {us : List Action} {o : Out} → Walk s us o → Sealed m s → Among m us → ⊥
  sealed_off h (free f) i = not_held h f i
  sealed_off walk.rests (s_then c d) i = none_among i
  sealed_off walk.rests (s_before n c) i = none_among i
  sealed_off walk.rests (s_or c d) i = none_among i
  sealed_off walk.rests (s_otherwise c d) i = none_among i
  sealed_off walk.rests (s_ending c) i = none_among i
  sealed_off walk.rests (s_passes c) i = none_among i
  sealed_off (walk.stops h) (s_then c d) i = sealed_off h (s_then c d) i
  sealed_off (walk.stops h) (s_before n c) i = sealed_off h (s_before n c) i
  sealed_off (walk.stops h) (s_or c d) i = sealed_off h (s_or c d) i
  sealed_off (walk.stops h) (s_otherwise c d) i = sealed_off h (s_otherwise c d) i
  sealed_off (walk.stops h) (s_ending c) i = sealed_off h (s_ending c) i
  sealed_off (walk.stops h) (s_passes c) i = sealed_off h (s_passes c) i
  sealed_off (walk.both {us = us} {vs = vs} h k) (s_then c d) i = among_split m us vs ⊥ i (λ j. sealed_off h c j) (λ j. sealed_off k d j)
  sealed_off (walk.both h k) (s_before n c) i = absurd (never_on h n)
  sealed_off (walk.first a h) (s_then c d) i = sealed_off h c i
  sealed_off (walk.first a h) (s_before n c) i = sealed_off h c i
  sealed_off (walk.one h) (s_or c d) i = sealed_off h c i
  sealed_off (walk.other h) (s_or c d) i = sealed_off h d i
  sealed_off (walk.holds e h) (s_otherwise c d) i = sealed_off h c i
  sealed_off (walk.next {us = us} {vs = vs} h k) (s_otherwise c d) i = among_split m us vs ⊥ i (λ j. sealed_off h c j) (λ j. sealed_off k d j)
  sealed_off (walk.ends {n = n} {x = x} {us = us} h) (s_ending c) i = among_split m us (does n (Dead x) ∷ []) ⊥ i (λ j. sealed_off h c j) (λ j. no_dead n x j tt)
  sealed_off (walk.jumps {x = x} {us = us} {j = e} h) (s_ending c) i = among_split m us (does (exit_node e) (Dead x) ∷ []) ⊥ i (λ j. sealed_off h c j) (λ j. no_dead (exit_node e) x j tt)
  sealed_off (walk.halts h) (s_ending c) i = sealed_off h c i
  sealed_off (walk.last h e) (s_passes c) i = sealed_off h c i
  sealed_off (walk.more {us = us} {vs = vs} h e k) (s_passes c) i = among_split m us vs ⊥ i (λ j. sealed_off h c j) (λ j. sealed_off k (s_passes c) j)
