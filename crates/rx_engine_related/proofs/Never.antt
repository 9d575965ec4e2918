-- What never goes on by its form has no walk that goes on.
use Rattle.std.proofs.Common.{◌≡◌, ◌⊎◌, inl, inr, ℕ, true, false, List, [], ◌∷◌, Option, Some, None, refl, subst}
use Rattle.rx_typed.specs.Tree as tree
use Rattle.rx_typed.specs.Tree.{Exp, Operands, Scrutinee, Arms, Body, Temporary, mark_of, temporary_of, temporary_at}
use Rattle.rx_lower_walks.specs.Matching.{PartTest, Binding, tests, bindings}
use Rattle.rx_lower_walks.specs.Actions.{Act, Action, Subject, subject, taken}
use Rattle.rx_lower_walks.specs.Orders as order
use Rattle.rx_lower_walks.specs.Orders.{Exit, breaks, Order, testing, binding, declaring, order_all, order_scrutinee, order_arms, order_body}
use Rattle.rx_lower_walks.specs.Walks as walk
use Rattle.rx_lower_walks.specs.Walks.{Out, on, leaves, Walk}
use Rattle.rx_exits_plan.specs.Points.{Point}
use Rattle.rx_engine_simulation.specs.Blocks.{Stretch, Through, through_run, through_declaration, through_let}
use Rattle.rx_engine_simulation.specs.Marks.{reading, with_mark, closed_by}
use Rattle.rx_engine_related.specs.Never.{HasNoBreak, NoneHasBreak, MatchedHasNoBreak, ArmsHaveNoBreak, BodyHasNoBreak, NeverOn, never_jump, never_return, never_share, never_build, never_lazily, never_assign, never_update, never_call, never_print, never_block, never_matched, never_armed, never_loop, never_tested, SomeNever, this_operand, later_operand, NeverMatched, never_value, AllNever, no_arm_goes, arm_never, NeverThrough, tail_never, statement_never, behind_statement, behind_declaration, let_never, behind_let, NeverPassed, does_never, does_later, declares_later, lets_never, lets_later}

-- a walk with this end
abbrev Ends : Order → Out → Type 0
Ends s o = (w : List Action) × Walk s w o

-- ---- a walk that goes on

module _ {s t : Order} where
  first_on : {w : List Action} → Walk (order.then s t) w on → Ends s on
  first_on (walk.both {us = us} h k) = (us, h)
  first_on (walk.first away h) = absurd away

  second_on : {w : List Action} → Walk (order.then s t) w on → Ends t on
  second_on (walk.both {vs = vs} h k) = (vs, k)
  second_on (walk.first away h) = absurd away

ending_on : {n x : ℕ} {s : Order} {w : List Action} → Walk (order.ending n x s) w on → Ends s on
ending_on (walk.ends {us = us} h) = (us, h)

fail_on : {w : List Action} → Walk order.fail w on → ⊥
fail_on k = elim k [ ]

nowhere_on : {w : List Action} → Walk order.nowhere w on → ⊥
nowhere_on k = elim k [ ]

leave_on : {x : Exit} {w : List Action} → Walk (order.leave x) w on → ⊥
leave_on k = elim k [ ]

or_on : {s : Order} {w : List Action} → Walk (order.or s order.fail) w on → Ends s on
or_on (walk.one {us = us} h) = (us, h)
or_on (walk.other h) = absurd (fail_on h)

testing_on : (S : Subject) (ts : List PartTest) {r : Order} {w : List Action} → Walk (testing S ts r) w on → Ends r on
testing_on S [] {w = w} k = (w, k)
testing_on S (t ∷ ts) k = testing_on S ts (or_on (second_on k).1).1

binding_on : (S : Subject) (bs : List Binding) (n : ℕ) {r : Order} {w : List Action} → Walk (binding S bs n r) w on → Ends r on
binding_on S [] n {w = w} k = (w, k)
binding_on S (b ∷ bs) n k = binding_on S bs n (ending_on (second_on (second_on (second_on k).1).1).1).1

declaring_on : (s : ℕ) (xs : List ℕ) (n : ℕ) {r : Order} {w : List Action} → Walk (declaring s xs n r) w on → Ends r on
declaring_on s [] n {w = w} k = (w, k)
declaring_on s (x ∷ xs) n k = declaring_on s xs n (ending_on (second_on k).1).1

passes_on : {l : ℕ} {s : Order} {w : List Action} → ((n : ℕ) (u : List Action) → Walk s u (leaves (breaks n l)) → ⊥) → Walk (order.passes l s) w on → ⊥
passes_on {s = s} f (walk.last {us = us} h (walk.by_break {n = n} e)) = f n us (subst (λ k. Walk s us (leaves (breaks n k))) e h)
passes_on f (walk.more h p k) = passes_on f k

-- ---- one that leaves a loop

abbrev Breaks : ℕ → ℕ → Out
Breaks n l = leaves (breaks n l)

act_leaves : {a : Action} {x : Exit} {w : List Action} → Walk (order.act a) w (leaves x) → ⊥
act_leaves k = elim k [ ]

nothing_leaves : {x : Exit} {w : List Action} → Walk order.nothing w (leaves x) → ⊥
nothing_leaves k = elim k [ ]

module _ {s t : Order} {x : Exit} where
  either_leaves : {w : List Action} → Walk (order.then s t) w (leaves x) → Ends s (leaves x) ⊎ Ends t (leaves x)
  either_leaves (walk.both {vs = vs} h k) = inr (vs, k)
  either_leaves (walk.first {us = us} away h) = inl (us, h)

  one_leaves : {w : List Action} → Walk (order.or s t) w (leaves x) → Ends s (leaves x) ⊎ Ends t (leaves x)
  one_leaves (walk.one {us = us} h) = inl (us, h)
  one_leaves (walk.other {us = us} h) = inr (us, h)

-- none does in an order that begins so
none_leaves : {s t : Order} {x : Exit} {w : List Action} → (Ends s (leaves x) → ⊥) → (Ends t (leaves x) → ⊥) → Walk (order.then s t) w (leaves x) → ⊥
none_leaves {s} {t} {x} f g k = by (either_leaves k)
  where
    by : Ends s (leaves x) ⊎ Ends t (leaves x) → ⊥
    by (inl h) = f h
    by (inr h) = g h

neither_leaves : {s t : Order} {x : Exit} {w : List Action} → (Ends s (leaves x) → ⊥) → (Ends t (leaves x) → ⊥) → Walk (order.or s t) w (leaves x) → ⊥
neither_leaves {s} {t} {x} f g k = by (one_leaves k)
  where
    by : Ends s (leaves x) ⊎ Ends t (leaves x) → ⊥
    by (inl h) = f h
    by (inr h) = g h

ending_leaves : {n y : ℕ} {s : Order} {x : Exit} {w : List Action} → Walk (order.ending n y s) w (leaves x) → Ends s (leaves x)
ending_leaves (walk.jumps {us = us} h) = (us, h)

fail_leaves : {x : Exit} {w : List Action} → Walk order.fail w (leaves x) → ⊥
fail_leaves k = elim k [ ]

nowhere_leaves : {x : Exit} {w : List Action} → Walk order.nowhere w (leaves x) → ⊥
nowhere_leaves k = elim k [ ]

testing_leaves : (S : Subject) (ts : List PartTest) {r : Order} {x : Exit} {w : List Action} → (Ends r (leaves x) → ⊥) → Walk (testing S ts r) w (leaves x) → ⊥
testing_leaves S [] {w = w} f k = f (w, k)
testing_leaves S (t ∷ ts) f k = none_leaves (λ h. act_leaves h.1) (λ h. neither_leaves (λ h. testing_leaves S ts f h.1) (λ h. fail_leaves h.1) h.1) k

perhaps_leaves : (n : ℕ) (o : Option Act) {x : Exit} {w : List Action} → Walk (order.perhaps n o) w (leaves x) → ⊥
perhaps_leaves n None k = nothing_leaves k
perhaps_leaves n (Some a) k = act_leaves k

binding_leaves : (S : Subject) (bs : List Binding) (n : ℕ) {r : Order} {x : Exit} {w : List Action} → (Ends r (leaves x) → ⊥) → Walk (binding S bs n r) w (leaves x) → ⊥
binding_leaves S [] n {w = w} f k = f (w, k)
binding_leaves S (b ∷ bs) n f k =
    none_leaves (λ h. perhaps_leaves b.node (taken S b) h.1) (λ h. none_leaves (λ h. act_leaves h.1) (λ h. none_leaves (λ h. act_leaves h.1) (λ h. binding_leaves S bs n f (ending_leaves h.1).1) h.1) h.1) k

declaring_leaves : (s : ℕ) (xs : List ℕ) (n : ℕ) {r : Order} {x : Exit} {w : List Action} → (Ends r (leaves x) → ⊥) → Walk (declaring s xs n r) w (leaves x) → ⊥
declaring_leaves s [] n {w = w} f k = f (w, k)
declaring_leaves s (y ∷ ys) n f k = none_leaves (λ h. act_leaves h.1) (λ h. declaring_leaves s ys n f (ending_leaves h.1).1) k

passes_leaves : {k n l : ℕ} {s : Order} {w : List Action} → ((u : List Action) → Walk s u (Breaks n l) → ⊥) → Walk (order.passes k s) w (Breaks n l) → ⊥
passes_leaves f (walk.last {us = us} h (walk.by_outer_break e)) = f us h
passes_leaves f (walk.more h p k) = passes_leaves f k

jump_leaves : {m k n l : ℕ} {w : List Action} → Walk (order.leave (breaks m k)) w (Breaks n l) → k ≡ l
jump_leaves walk.leave = refl

again_leaves : {m k n l : ℕ} {w : List Action} → Walk (order.leave (order.continues m k)) w (Breaks n l) → ⊥
again_leaves k = elim k [ ]

return_leaves : {m n l : ℕ} {w : List Action} → Walk (order.leave (order.returns m)) w (Breaks n l) → ⊥
return_leaves k = elim k [ ]

mutual
  no_break : (l : ℕ) (e : Exp) → HasNoBreak l e → (n : ℕ) (d : Temporary) {w : List Action} → Walk (order.order e d) w (Breaks n l) → ⊥
  no_break l (tree.read m v p) h n d k = act_leaves k
  no_break l (tree.borrow m b p) h n d k = act_leaves k
  no_break l (tree.share m e) h n d k = none_leaves (λ z. no_break l e h n (temporary_at m.node 1) z.1) (λ z. act_leaves z.1) k
  no_break l (tree.build m w es) h n d k = none_leaves (λ z. none_break l es h n z.1) (λ z. act_leaves z.1) k
  no_break l (tree.unit m) h n d k = nothing_leaves k
  no_break l (tree.lazily m b e f) h n d k =
      none_leaves (λ z. no_break l e h.0 n (temporary_of e) z.1) (λ z. none_leaves (λ z. act_leaves z.1) (λ z. none_leaves (λ z. neither_leaves (λ z. no_break l f h.1 n (temporary_of f) z.1) (λ z. nothing_leaves z.1) z.1) (λ z. act_leaves z.1) z.1) z.1) k
  no_break l (tree.assign m p e) h n d k = none_leaves (λ z. no_break l e h n (temporary_of e) z.1) (λ z. act_leaves z.1) k
  no_break l (tree.update m o p e) h n d k =
      none_leaves (λ z. no_break l e h n (temporary_of e) z.1) (λ z. none_leaves (λ z. act_leaves z.1) (λ z. none_leaves (λ z. act_leaves z.1) (λ z. act_leaves z.1) z.1) z.1) k
  no_break l (tree.call m f es) h n d k = none_leaves (λ z. none_break l es h n z.1) (λ z. act_leaves z.1) k
  no_break l (tree.input m) h n d k = act_leaves k
  no_break l (tree.print m e) h n d k = none_leaves (λ z. no_break l e h n (temporary_of e) z.1) (λ z. act_leaves z.1) k
  no_break l (tree.block m b) h n d k = body_break l b h n m.node d k
  no_break l (tree.choose m s r) h n d k = none_leaves (λ z. matched_break l s h.0 n z.1) (λ z. arms_break l r h.1 n (subject s) d z.1) k
  no_break l (tree.loop m j e) h n d k = passes_leaves (λ u z. no_break l e h n (temporary_of e) z) k
  no_break l (tree.jump m j true) h n d k = again_leaves k
  no_break l (tree.jump m j false) h n d k = h (jump_leaves k)
  no_break l (tree.give m e) h n d k = none_leaves (λ z. no_break l e h n (temporary_of e) z.1) (λ z. none_leaves (λ z. act_leaves z.1) (λ z. return_leaves z.1) z.1) k

  none_break : (l : ℕ) (es : Operands) → NoneHasBreak l es → (n : ℕ) {w : List Action} → Walk (order_all es) w (Breaks n l) → ⊥
  none_break l tree.no_operand h n k = nothing_leaves k
  none_break l (tree.operand_and i e es) h n k = none_leaves (λ z. no_break l e h.0 n (temporary_of e) z.1) (λ z. none_break l es h.1 n z.1) k

  matched_break : (l : ℕ) (s : Scrutinee) → MatchedHasNoBreak l s → (n : ℕ) {w : List Action} → Walk (order_scrutinee s) w (Breaks n l) → ⊥
  matched_break l (tree.at_place m p) h n k = nothing_leaves k
  matched_break l (tree.of_value e) h n k = no_break l e h n (temporary_of e) k

  arms_break : (l : ℕ) (r : Arms) → ArmsHaveNoBreak l r → (n : ℕ) (S : Subject) (d : Temporary) {w : List Action} → Walk (order_arms S r d) w (Breaks n l) → ⊥
  arms_break l tree.no_arm h n S d k = nowhere_leaves k
  arms_break l (tree.arm_and p e r) h n S d (walk.holds f k) = testing_leaves S (tests [] p) {r = binding S (bindings [] p) (mark_of e).node (order.order e d)} (λ z. binding_leaves S (bindings [] p) (mark_of e).node {r = order.order e d} (λ z. no_break l e h.0 n d z.1) z.1) k
  arms_break l (tree.arm_and p e r) h n S d (walk.next f k) = arms_break l r h.1 n S d k

  body_break : (l : ℕ) (b : Body) → BodyHasNoBreak l b → (n i : ℕ) (d : Temporary) {w : List Action} → Walk (order_body b i d) w (Breaks n l) → ⊥
  body_break l (tree.ends e) h n i d k = no_break l e h n d k
  body_break l (tree.runs e b) h n i d k = none_leaves (λ z. no_break l e h.0 n (temporary_of e) z.1) (λ z. body_break l b h.1 n i d z.1) k
  body_break l (tree.declares s xs b) h n i d k = declaring_leaves s xs i {r = order_body b i d} (λ z. body_break l b h n i d z.1) k
  body_break l (tree.lets s p c b) h n i d k = none_leaves (λ z. matched_break l c h.0 n z.1) (λ z. binding_leaves (subject c) (bindings [] p) i {r = order_body b i d} (λ z. body_break l b h.1 n i d z.1) z.1) k

-- a first part that does not go on, and does not leave so
tested : {s t : Order} {x : Exit} {u : List Action} → (Ends s on → ⊥) → (Ends s (leaves x) → ⊥) → Walk (order.then s t) u (leaves x) → ⊥
tested f g (walk.both {us = us} h k) = f (us, h)
tested f g (walk.first {us = us} away h) = g (us, h)

-- ---- so none goes on

mutual
  pub never_on : {e : Exp} → NeverOn e → (d : Temporary) {w : List Action} → Walk (order.order e d) w on → ⊥
  never_on never_jump d k = leave_on k
  never_on never_return d k = leave_on (second_on (second_on k).1).1
  never_on (never_share {m = m} n) d k = never_on n (temporary_at m.node 1) (first_on k).1
  never_on (never_build n) d k = some_never n (first_on k).1
  never_on (never_lazily {e = e} n) d k = never_on n (temporary_of e) (first_on k).1
  never_on (never_assign {e = e} n) d k = never_on n (temporary_of e) (first_on k).1
  never_on (never_update {e = e} n) d k = never_on n (temporary_of e) (first_on k).1
  never_on (never_call n) d k = some_never n (first_on k).1
  never_on (never_print {e = e} n) d k = never_on n (temporary_of e) (first_on k).1
  never_on (never_block {m = m} n) d k = never_through n m.node d k
  never_on (never_matched n) d k = matched_never n (first_on k).1
  never_on (never_armed {c = c} n) d k = all_never n (subject c) d (second_on k).1
  never_on (never_loop {l = l} {e = e} h) d k = passes_on (λ n u z. no_break l e h n (temporary_of e) z) k
  never_on (never_tested {l = l} {c = c} n h) d k = passes_on (λ i u z. tested (λ y. matched_never n y.1) (λ y. matched_break l c h i y.1) z) k

  some_never : {es : Operands} → SomeNever es → {w : List Action} → Walk (order_all es) w on → ⊥
  some_never (this_operand {e = e} n) k = never_on n (temporary_of e) (first_on k).1
  some_never (later_operand n) k = some_never n (second_on k).1

  pub matched_never : {c : Scrutinee} → NeverMatched c → {w : List Action} → Walk (order_scrutinee c) w on → ⊥
  matched_never (never_value {e = e} n) k = never_on n (temporary_of e) k

  all_never : {l : Arms} → AllNever l → (S : Subject) (d : Temporary) {w : List Action} → Walk (order_arms S l d) w on → ⊥
  all_never no_arm_goes S d k = nowhere_on k
  all_never (arm_never {p = p} {e = e} n a) S d (walk.holds f k) =
      never_on n d (binding_on S (bindings [] p) (mark_of e).node {r = order.order e d} (testing_on S (tests [] p) {r = binding S (bindings [] p) (mark_of e).node (order.order e d)} k).1).1
  all_never (arm_never n a) S d (walk.next f k) = all_never a S d k

  never_through : {b : Body} → NeverThrough b → (i : ℕ) (d : Temporary) {w : List Action} → Walk (order_body b i d) w on → ⊥
  never_through (tail_never n) i d k = never_on n d k
  never_through (statement_never {e = e} n) i d k = never_on n (temporary_of e) (first_on k).1
  never_through (behind_statement n) i d k = never_through n i d (second_on k).1
  never_through (behind_declaration {s = s} {xs = xs} {b = b} n) i d k = never_through n i d (declaring_on s xs i {r = order_body b i d} k).1
  never_through (let_never n) i d k = matched_never n (first_on k).1
  never_through (behind_let {p = p} {c = c} {b = b} n) i d k = never_through n i d (binding_on (subject c) (bindings [] p) i {r = order_body b i d} (second_on k).1).1

-- ---- statements of a block

pub never_passed : {r : Stretch} → NeverPassed r → {w : List Action} → Through r w → ⊥
never_passed (does_never {e = e} n) (through_run k th) = never_on n (temporary_of e) k
never_passed (does_later n) (through_run k th) = never_passed n th
never_passed (declares_later n) (through_declaration th) = never_passed n th
never_passed (lets_never n) (through_let k b th) = matched_never n k
never_passed (lets_later n) (through_let k b th) = never_passed n th

closed_never : {r : Stretch} (p : Point) → NeverPassed r → NeverPassed (closed_by r p)
closed_never p (does_never n) = does_never n
closed_never p (does_later n) = does_later (closed_never p n)
closed_never p (declares_later n) = declares_later (closed_never p n)
closed_never p (lets_never n) = lets_never n
closed_never p (lets_later n) = lets_later (closed_never p n)

reading_never : {r : Stretch} (xs : List ℕ) → NeverPassed r → NeverPassed (reading xs r)
reading_never [] n = n
reading_never (x ∷ xs) n = does_later (reading_never xs n)

pub marked_never : {r : Stretch} (p : Point) (xs : List ℕ) → NeverPassed r → NeverPassed (with_mark p xs r)
marked_never p xs n = does_later (reading_never xs n)

pub closed_marked_never : {r : Stretch} (p q : Point) (xs : List ℕ) → NeverPassed r → NeverPassed (with_mark p xs (closed_by r q))
closed_marked_never p q xs n = marked_never p xs (closed_never q n)
