-- Orders without a mark: none of theirs is counted.
use Rattle.std.proofs.Common.{◌≡◌, ℕ, ◌==◌, Bool, true, false, ◌&&◌, List, [], ◌∷◌, ◌++◌, refl, true≢false, arith}
use Rattle.rx_lower_walks.specs.Actions.{Action}
use Rattle.rx_lower_walks.specs.Orders.{Order}
use Rattle.rx_lower_walks.specs.Orders as order
use Rattle.rx_lower_walks.specs.Walks.{actions_in, Among, here, there}
use Rattle.rx_exits_plan.specs.Unmarked.{is_mark}
use Rattle.rx_engine_related.proofs.Counting.{one_if, count}

abbrev pub NoMarks : Order → Type 0
NoMarks (order.act a) = is_mark a.act ≡ false
NoMarks (order.then s t) = NoMarks s × NoMarks t
NoMarks (order.or s t) = NoMarks s × NoMarks t
NoMarks (order.otherwise s t) = NoMarks s × NoMarks t
NoMarks (order.ending n x s) = NoMarks s
NoMarks (order.passes l s) = NoMarks s
NoMarks _ = Unit {0}

pub in_first : {a : Action} {us : List Action} (vs : List Action) → Among a us → Among a (us ++ vs)
in_first vs here = here
in_first vs (there h) = there (in_first vs h)

pub in_second : {a : Action} (us : List Action) {vs : List Action} → Among a vs → Among a (us ++ vs)
in_second [] h = h
in_second (u ∷ us) h = there (in_second us h)

pub no_marks : (s : Order) → ((a : Action) → Among a (actions_in s) → is_mark a.act ≡ false) → NoMarks s
no_marks order.nothing f = tt
no_marks order.nowhere f = tt
no_marks (order.act a) f = f a here
no_marks (order.then s t) f = (no_marks s (λ a i. f a (in_first (actions_in t) i)), no_marks t (λ a i. f a (in_second (actions_in s) i)))
no_marks (order.or s t) f = (no_marks s (λ a i. f a (in_first (actions_in t) i)), no_marks t (λ a i. f a (in_second (actions_in s) i)))
no_marks (order.leave x) f = tt
no_marks order.fail f = tt
no_marks (order.otherwise s t) f = (no_marks s (λ a i. f a (in_first (actions_in t) i)), no_marks t (λ a i. f a (in_second (actions_in s) i)))
no_marks (order.ending n x s) f = no_marks s f
no_marks (order.passes l s) f = no_marks s f

pub not_it : (b c : Bool) → b ≡ false → one_if (b && c) ≡ 0
not_it false c e = refl
not_it true c e = absurd (true≢false e)

pub none_counted : (n : ℕ) (s : Order) → NoMarks s → count n s ≡ 0
none_counted n order.nothing h = refl
none_counted n order.nowhere h = refl
none_counted n (order.act a) h = not_it (is_mark a.act) (a.node == n) h
none_counted n (order.then s t) h = let x = none_counted n s h.0 in let y = none_counted n t h.1 in omega (arith, x, y)
none_counted n (order.or s t) h = let x = none_counted n s h.0 in let y = none_counted n t h.1 in omega (arith, x, y)
none_counted n (order.leave x) h = refl
none_counted n order.fail h = refl
none_counted n (order.otherwise s t) h = let x = none_counted n s h.0 in let y = none_counted n t h.1 in omega (arith, x, y)
none_counted n (order.ending m x s) h = none_counted n s h
none_counted n (order.passes l s) h = none_counted n s h
