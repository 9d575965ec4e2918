-- In the text that runs as the function does, the marks of one `break` or `continue` lead to one place: inside the run each stands in front
-- of such a jump, out of all that is in the run, and the run's block stands at one place.
use Rattle.std.proofs.Common.{◌≡◌, ◌⊎◌, inl, inr, ℕ, suc, ◌+◌, ◌≤◌, ◌==◌, if◌then◌else◌, Bool, true, false, ◌||◌, List, [], ◌∷◌, ◌++◌, map, drop, refl, sym, ap, ◌∙◌, subst, true≢false, append-nil, append_assoc, arith}
use Rattle.std.proofs.lemmas.Bool.Decides.{Decides-eqb}
use Rattle.rx_typed.specs.Tree.{Temporary, Mark, jump, Body, ends, Function, mark_of, temporary_of}
use Rattle.rx_lower_walks.specs.Matching.{bindings}
use Rattle.rx_lower_walks.specs.Actions.{Action, subject}
use Rattle.rx_lower_walks.specs.Orders.{Order, order, order_scrutinee, order_body, order_function}
use Rattle.rx_lower_walks.specs.Orders as orders
use Rattle.rx_lower_walks.specs.Walks.{stopped, Walk, Among, here, there}
use Rattle.rx_lower_walks.proofs.WalksFronts.{fronts}
use Rattle.rx_exits_plan.specs.Blocks.{Statement, does, begins, binds, statements, tail, before}
use Rattle.rx_exits_plan.specs.Spots.{Around, Spot, a_block, a_jump, a_return, outermost, spots_of_function}
use Rattle.rx_exits_plan.specs.Runs.{Run, Home, in_front, inside, behind}
use Rattle.rx_exits_plan.specs.Points.{Point, enters, leaves, next, jump_exit, number}
use Rattle.rx_exits_plan.specs.Changed.{Changes, changed, changed_statement, changed_function}
use Rattle.rx_exits_plan.specs.Marked.{mark, mark_then, shown, is_among, using, entering, ended}
use Rattle.rx_exits_plan.specs.Unmarked.{is_mark}
use Rattle.rx_exits_plan.specs.Coming.{HasNoMark}
use Rattle.rx_engine_related.specs.OneSite.{blocks_at}
use Rattle.rx_engine_related.specs.OnePlace.{LeadsToOnePlace, loops_in, loops_of}
use Rattle.rx_engine_related.specs.Running.{passing, running_body, running}
use Rattle.rx_engine_related.proofs.Counting.{one_if, is_it}
use Rattle.rx_engine_related.proofs.Bare.{NoMarks, no_marks}
use Rattle.rx_engine_related.proofs.Sole.{Light, weighed, AllFree, all_free, take_free, drop_free, light, jump_weight, passing_light, of_run, free, block_light, block_there, jump_numbers, of_beginning, anywhere_body}
use Rattle.rx_engine_related.proofs.Meeting.{Free, Led, OnePlace, Part, meets_none, free_two, led_two, then_splits, or_splits, otherwise_splits, part_two, free_led, idle, free_act, as_part, none_done, none_nowhere, none_left, none_failed, jump_led, free_ending, free_passes, led_ending, led_passes, part_passes, part_ending, weaker}
use Rattle.rx_engine_related.proofs.Leading.{Loops, Forms, act_with, of_binding_part, of_declaring_part, of_beginning_part, Changing, no_weight, grown, grown_matched}

-- ---- loops

either_false : (b c : Bool) → b || c ≡ false → (b ≡ false) × (c ≡ false)
either_false true c e = absurd (true≢false e)
either_false false c e = (refl, e)

pub among_both : (l : ℕ) (js ks : List ℕ) → is_among l (js ++ ks) ≡ false → (is_among l js ≡ false) × (is_among l ks ≡ false)
among_both l [] ks e = (refl, e)
among_both l (j ∷ js) ks e =
    let z = either_false (l == j) (is_among l (js ++ ks)) e in
    let y = among_both l js ks z.1 in
    (ap (λ c. c || is_among l js) z.0 ∙ y.0, y.1)

other_loop : (l j : ℕ) → (l == j) ≡ false → l ≡ j → ⊥
other_loop l j e q = absurd (true≢false (sym ((Decides-eqb l j).1 q) ∙ e))

pub other_loops : (l : ℕ) (s : Order) → is_among l (loops_in s) ≡ false → Loops (λ j. l ≡ j → ⊥) s
other_loops l orders.nothing e = tt
other_loops l orders.nowhere e = tt
other_loops l (orders.act a) e = tt
other_loops l (orders.then s t) e = let z = among_both l (loops_in s) (loops_in t) e in (other_loops l s z.0, other_loops l t z.1)
other_loops l (orders.or s t) e = let z = among_both l (loops_in s) (loops_in t) e in (other_loops l s z.0, other_loops l t z.1)
other_loops l (orders.leave x) e = tt
other_loops l orders.fail e = tt
other_loops l (orders.otherwise s t) e = let z = among_both l (loops_in s) (loops_in t) e in (other_loops l s z.0, other_loops l t z.1)
other_loops l (orders.ending n x s) e = other_loops l s e
other_loops l (orders.passes j s) e = let z = either_false (l == j) (is_among l (loops_in s)) e in (other_loop l j z.0, other_loops l s z.1)

pub any_loops : (s : Order) → Loops (λ j. Unit {0}) s
any_loops orders.nothing = tt
any_loops orders.nowhere = tt
any_loops (orders.act a) = tt
any_loops (orders.then s t) = (any_loops s, any_loops t)
any_loops (orders.or s t) = (any_loops s, any_loops t)
any_loops (orders.leave x) = tt
any_loops orders.fail = tt
any_loops (orders.otherwise s t) = (any_loops s, any_loops t)
any_loops (orders.ending n x s) = any_loops s
any_loops (orders.passes j s) = (tt, any_loops s)

-- ---- of one exit

same_jump : (j l : ℕ) (c b : Bool) → number (leaves (jump_exit j c)) ≡ number (leaves (jump_exit l b)) → (j ≡ l) × (c ≡ b)
same_jump j l true true e = (omega (arith, e), refl)
same_jump j l false false e = (omega (arith, e), refl)
same_jump j l true false e = absurd (omega (arith, e))
same_jump j l false true e = absurd (omega (arith, e))

module _ (l : ℕ) (again : Bool) where
  abbrev pub k : ℕ
  k = number (leaves (jump_exit l again))

  abbrev m : Action
  m = shown (leaves (jump_exit l again))

  abbrev IsFree : Order → Type 0
  IsFree s = Free m refl l again s

  abbrev pub IsLed : ℕ → Order → Type 0
  IsLed b s = Led m refl l again s

  abbrev IsPart : ℕ → Order → Type 0
  IsPart b s = Part m refl l again b s

  abbrev pub Other : ℕ → Type 0
  Other j = l ≡ j → ⊥

  abbrev Any : ℕ → Type 0
  Any j = Unit {0}

  not_counted : (b : Action) → one_if (is_it k b) ≡ 0 → b ≡ m → ⊥
  not_counted b e q = absurd (by (k == k) ((Decides-eqb k k).1 refl) (ap (λ (c : Action). one_if (is_it k c)) (sym q) ∙ e))
    where
      by : (t : Bool) → t ≡ true → one_if t ≡ 0 → ⊥
      by true i j = absurd (omega (arith, j))
      by false i j = true≢false (sym i)

  not_mark : (b : Action) → is_mark b.act ≡ false → b ≡ m → ⊥
  not_mark b e q = absurd (true≢false (ap (λ (c : Action). is_mark c.act) (sym q) ∙ e))

  bare_nothing : IsFree orders.nothing
  bare_nothing = idle m refl l again (λ u o h. none_done m refl l again h)

  bare_nowhere : IsFree orders.nowhere
  bare_nowhere = idle m refl l again (λ u o h. none_nowhere m refl l again h)

  bare_left : (x : orders.Exit) → IsFree (orders.leave x)
  bare_left x = idle m refl l again (λ u o h. none_left m refl l again h)

  bare_fail : IsFree orders.fail
  bare_fail = idle m refl l again (λ u o h. none_failed m refl l again h)

  bare_act : (b : Action) → (b ≡ m → ⊥) → IsFree (orders.act b)
  bare_act b n = free_act m refl l again n

  pub led_forms : Forms k Other IsLed
  led_forms = record {
    of_nothing = free_led m refl l again bare_nothing;
    of_nowhere = free_led m refl l again bare_nowhere;
    of_fail = free_led m refl l again bare_fail;
    of_act = λ b e. free_led m refl l again (bare_act b (not_counted b e));
    of_leave = λ x. free_led m refl l again (bare_left x);
    of_then = λ b c s t x y. led_two m refl l again (then_splits m refl l again) x y;
    of_or = λ b c s t x y. led_two m refl l again (or_splits m refl l again) x y;
    of_otherwise = λ b c s t x y. led_two m refl l again (otherwise_splits m refl l again) x y;
    of_ending = λ b n x s y. led_ending m refl l again y;
    of_passes = λ b j s n y. led_passes m refl l again n y;
    weak = λ b c s i x. x;
  }

  pub part_forms : Forms k Any IsPart
  part_forms = record {
    of_nothing = as_part m refl l again bare_nothing;
    of_nowhere = as_part m refl l again bare_nowhere;
    of_fail = as_part m refl l again bare_fail;
    of_act = λ b e. as_part m refl l again (bare_act b (not_counted b e));
    of_leave = λ x. as_part m refl l again (bare_left x);
    of_then = λ b c s t x y. part_two m refl l again (then_splits m refl l again) x y;
    of_or = λ b c s t x y. part_two m refl l again (or_splits m refl l again) x y;
    of_otherwise = λ b c s t x y. part_two m refl l again (otherwise_splits m refl l again) x y;
    of_ending = λ b n x s y. part_ending m refl l again y;
    of_passes = λ b j s n y. part_passes m refl l again y;
    weak = λ b c s i x. weaker m refl l again i x;
  }

  pub unmarked_free : (s : Order) → NoMarks s → IsFree s
  unmarked_free orders.nothing h = bare_nothing
  unmarked_free orders.nowhere h = bare_nowhere
  unmarked_free (orders.act a) h = bare_act a (not_mark a h)
  unmarked_free (orders.then s t) h = free_two m refl l again (then_splits m refl l again) (unmarked_free s h.0) (unmarked_free t h.1)
  unmarked_free (orders.or s t) h = free_two m refl l again (or_splits m refl l again) (unmarked_free s h.0) (unmarked_free t h.1)
  unmarked_free (orders.leave x) h = bare_left x
  unmarked_free orders.fail h = bare_fail
  unmarked_free (orders.otherwise s t) h = free_two m refl l again (otherwise_splits m refl l again) (unmarked_free s h.0) (unmarked_free t h.1)
  unmarked_free (orders.ending n x s) h = free_ending m refl l again (unmarked_free s h)
  unmarked_free (orders.passes j s) h = free_passes m refl l again (unmarked_free s h)

  -- ---- in the run

  pub other_mark : (p : Point) → (number p == k) ≡ false → Led m refl l again (order (mark p) (temporary_of (mark p)))
  other_mark p e = led_two m refl l again (then_splits m refl l again) (free_led m refl l again bare_nothing) (led_forms.of_act (shown p) (ap one_if e))

  a_marked_jump : (n : Mark) (j : ℕ) (c : Bool) (d : Temporary) → Led m refl l again (order (mark_then (leaves (jump_exit j c)) (jump n j c)) d)
  a_marked_jump n j c d = by (number (leaves (jump_exit j c)) == k) refl
    where
      at_it : (j ≡ l) × (c ≡ again) → Led m refl l again (order (mark_then (leaves (jump_exit j c)) (jump n j c)) d)
      at_it (e, f) = subst (λ x. Led m refl l again (order (mark_then (leaves (jump_exit x c)) (jump n x c)) d)) (sym e)
          (subst (λ y. Led m refl l again (order (mark_then (leaves (jump_exit l y)) (jump n l y)) d)) (sym f) (jump_led m refl l again n.node))

      by : (t : Bool) → (number (leaves (jump_exit j c)) == k) ≡ t → Led m refl l again (order (mark_then (leaves (jump_exit j c)) (jump n j c)) d)
      by true e = at_it (same_jump j l c again ((Decides-eqb (number (leaves (jump_exit j c))) k).0 e))
      by false e = led_two m refl l again (then_splits m refl l again) (other_mark (leaves (jump_exit j c)) e) (led_forms.of_leave (orders.exit n.node j c))

  pub passing_led : (ls : List ℕ) → Changing k Other IsLed (passing ls) light
  passing_led ls = record {
    of_block = λ a n was b d f i h q x. x;
    of_jump = λ n j c d. by (is_among j ls) n j c d;
    of_return = λ e i x d. x d;
  }
    where
      by : (t : Bool) (n : Mark) (j : ℕ) (c : Bool) (d : Temporary) → Led m refl l again (order (if t then mark_then (leaves (jump_exit j c)) (jump n j c) else jump n j c) d)
      by true n j c d = a_marked_jump n j c d
      by false n j c d = led_forms.of_leave (orders.exit n.node j c)

  abbrev pub nowhere_around : Around
  nowhere_around = record { scope = []; loops = [] }

  -- statements with changes of this kind
  pub went : (C : Changes) → Changing k Other IsLed C light → (u : ℕ → Bool → ℕ) → Light k C light u → (ss : List Statement) (b : Body) (n : ℕ) (d : Temporary) → AllFree ss → is_among l (loops_of ss) ≡ false
      → Led m refl l again (order_body b n d) → Led m refl l again (order_body (before (map (changed_statement C) ss) b) n d)
  went C G u K [] b n d h i x = x
  went C G u K (does e ∷ ss) b n d h i x =
      let z = among_both l (loops_in (order e (temporary_of e))) (loops_of ss) i in
      led_two m refl l again (then_splits m refl l again) (grown k Other IsLed led_forms C light G light u K e nowhere_around _ (temporary_of e) h.0 (other_loops l (order e (temporary_of e)) z.0))
      (went C G u K ss b n d h.1 z.1 x)
  went C G u K (begins s xs ∷ ss) b n d h i x = of_declaring_part k Other IsLed led_forms 0 s xs n _ (went C G u K ss b n d h.1 i x)
  went C G u K (binds s p c ∷ ss) b n d h i x =
      let z = among_both l (loops_in (order_scrutinee c)) (loops_of ss) i in
      led_two m refl l again (then_splits m refl l again) (grown_matched k Other IsLed led_forms C light G light u K c nowhere_around h.0 (other_loops l (order_scrutinee c) z.0))
      (of_binding_part k Other IsLed led_forms 0 _ (bindings [] p) n _ (went C G u K ss b n d h.1 z.1 x))

  pub passed : (ls : List ℕ) (ss : List Statement) (b : Body) (n : ℕ) (d : Temporary) → AllFree ss → is_among l (loops_of ss) ≡ false → Led m refl l again (order_body b n d)
      → Led m refl l again (order_body (before (map (changed_statement (passing ls)) ss) b) n d)
  passed ls ss b n d h i x = went (passing ls) (passing_led ls) (jump_weight k ls) (passing_light k ls) ss b n d h i x

  pub unpassed : (ss : List Statement) (b : Body) (n : ℕ) (d : Temporary) → AllFree ss → Led m refl l again (order_body b n d) → Led m refl l again (order_body (before ss b) n d)
  unpassed [] b n d h x = x
  unpassed (does e ∷ ss) b n d h x = led_two m refl l again (then_splits m refl l again) (free_led m refl l again (unmarked_free _ h.0)) (unpassed ss b n d h.1 x)
  unpassed (begins s xs ∷ ss) b n d h x = of_declaring_part k Other IsLed led_forms 0 s xs n _ (unpassed ss b n d h.1 x)
  unpassed (binds s p c ∷ ss) b n d h x = led_two m refl l again (then_splits m refl l again) (free_led m refl l again (unmarked_free _ h.0)) (of_binding_part k Other IsLed led_forms 0 (subject c) (bindings [] p) n _ (unpassed ss b n d h.1 x))

  pub used : (ys : List ℕ) (b : Body) (n : ℕ) (d : Temporary) → Led m refl l again (order_body b n d) → Led m refl l again (order_body (before (map using ys) b) n d)
  used [] b n d x = x
  used (y ∷ ys) b n d x = act_with k Other IsLed led_forms 0 _ _ refl (used ys b n d x)

  pub marked_before : (p : Point) (b : Body) (n : ℕ) (d : Temporary) → (number p == k) ≡ false → Led m refl l again (order_body b n d) → Led m refl l again (order_body (before (does (mark p) ∷ []) b) n d)
  marked_before p b n d e x = led_two m refl l again (then_splits m refl l again) (other_mark p e) x

  run_led : (r : Run) (ls xs : List ℕ) (b : Body) (n : ℕ) (d f : Temporary) → NoMarks (order_body b n f) → is_among l (loops_of (inside r b)) ≡ false → Led m refl l again (order_body (running_body r ls xs b) n d)
  run_led r ls xs b n d f h i =
      let z = all_free b n f h in
      let q = jump_numbers l again in
      let last : Body = ends (tail b) in
      let rest : Body = before (behind r b) last in
      let after_end : Body = before (ended false) rest in
      let run : Body = before (map (changed_statement (passing ls)) (inside r b)) after_end in
      let t = all_free b n d (anywhere_body b n d f h) in
      let x0 : Led m refl l again (order_body last n d) = free_led m refl l again (unmarked_free (order (tail b) d) t.1) in
      let x1 = unpassed (behind r b) last n d (drop_free r.count (drop r.first (statements b)) (drop_free r.first (statements b) z.0)) x0 in
      let x2 = marked_before (leaves next) rest n d q.1 x1 in
      let x3 = passed ls (inside r b) after_end n d (take_free r.count (drop r.first (statements b)) (drop_free r.first (statements b) z.0)) i x2 in
      let x4 = marked_before enters (before (map using xs) run) n d q.0 (used xs run n d x3) in
      unpassed (in_front r b) (before (entering xs) run) n d (take_free r.first (statements b) z.0) x4

-- ---- the run's block

-- one that has the loop inside its run weighs too much
abbrev pub weighs : (Body → Bool) → ℕ → Around → ℕ → Body → ℕ
weighs has k a n b = if n == k then (if has b then 2 else 1) else 0

abbrev pub in_block : ℕ → (Body → Body) → Changes
in_block k text = record { at_block = λ n was b. if n == k then text was else b; at_jump = λ m l again. jump m l again; at_return = λ e. e }

-- the text with this in place of the block at a node, which leads out where it has not the loop
module _ (l : ℕ) (again : Bool) (k : ℕ) (text : Body → Body) (has : Body → Bool) (led : (b : Body) (n : ℕ) (d f : Temporary) → NoMarks (order_body b n f) → has b ≡ false → Led (shown (leaves (jump_exit l again))) refl l again (order_body (text b) n d))
    (w0 : Around → ℕ → Body → ℕ) (u0 : ℕ → Bool → ℕ) (K : Light (number (leaves (jump_exit l again))) (in_block k text) w0 u0) where
  abbrev number_of : ℕ
  number_of = number (leaves (jump_exit l again))

  abbrev told : ℕ → Order → Type 0
  told b s = Part (shown (leaves (jump_exit l again))) refl l again b s

  block_part : (t u : Bool) (was b : Body) (n : ℕ) (d f : Temporary) (i : ℕ) → has was ≡ u → NoMarks (order_body was n f) → told i (order_body b n d)
      → told ((if t then (if u then 2 else 1) else 0) + i) (order_body (if t then text was else b) n d)
  block_part true true was b n d f i e h x = record { when_none = λ g. absurd (omega (arith, g)); when_one = λ g. absurd (omega (arith, g)) }
  block_part true false was b n d f i e h x = record { when_none = λ g. absurd (omega (arith, g)); when_one = λ g. inl (led was n d f h e) }
  block_part false u was b n d f i e h x = weaker (shown (leaves (jump_exit l again))) refl l again (omega arith) x

  placing : Changing number_of (λ j. Unit {0}) told (in_block k text) (weighs has k)
  placing = record {
    of_block = λ a n was b d f i h q x. block_part (n == k) (has was) was b n d f i refl h x;
    of_jump = λ n j c d. (part_forms l again).of_leave (orders.exit n.node j c);
    of_return = λ e i x d. x d;
  }

  pub function_part : (f : Function) → HasNoMark (order_function f) → told (weighed (weighs has k) no_weight (spots_of_function f)) (order_function (changed_function (in_block k text) f))
  function_part f h =
      let C = in_block k text in
      let n = of_beginning f.params (mark_of f.body).node (order f.body (temporary_of f.body)) (no_marks (order_function f) h.none) in
      of_beginning_part number_of (λ j. Unit {0}) told (part_forms l again) _ f.params (mark_of (changed C f.body)).node (order (changed C f.body) (temporary_of (changed C f.body)))
      (grown number_of (λ j. Unit {0}) told (part_forms l again) C (weighs has k) placing w0 u0 K f.body (outermost f) (temporary_of (changed C f.body)) (temporary_of f.body) n (any_loops (order f.body (temporary_of f.body))))

pub no_block : (has : Body → Bool) (k : ℕ) (ss : List Spot) → blocks_at k ss ≤ 0 → weighed (weighs has k) no_weight ss ≡ 0
no_block has k [] h = refl
no_block has k (a_block a n b ∷ ss) h = by (n == k) h (λ g. no_block has k ss g)
  where
    by : (t : Bool) → (if t then suc (blocks_at k ss) else blocks_at k ss) ≤ 0 → (blocks_at k ss ≤ 0 → weighed (weighs has k) no_weight ss ≡ 0) → (if t then (if has b then 2 else 1) else 0) + weighed (weighs has k) no_weight ss ≡ 0
    by true g ih = absurd (omega (arith, g))
    by false g ih = let z = ih g in omega (arith, z)
no_block has k (a_jump a n j again ∷ ss) h = let z = no_block has k ss h in omega (arith, z)
no_block has k (a_return a n ∷ ss) h = no_block has k ss h

pub one_block : (has : Body → Bool) (k : ℕ) (c : Around) (w : Body) → has w ≡ false → (ss : List Spot) → Among (a_block c k w) ss → blocks_at k ss ≤ 1 → weighed (weighs has k) no_weight ss ≤ 1
one_block has k c w e [] i h = elim i [ ]
one_block has k c w e (a_block _ _ _ ∷ ss) here h = by (k == k) ((Decides-eqb k k).1 refl) h
  where
    counted : (u : Bool) → u ≡ false → weighed (weighs has k) no_weight ss ≡ 0 → (if u then 2 else 1) + weighed (weighs has k) no_weight ss ≤ 1
    counted true q z = absurd (true≢false q)
    counted false q z = omega (arith, z)

    by : (t : Bool) → t ≡ true → (if t then suc (blocks_at k ss) else blocks_at k ss) ≤ 1 → (if t then (if has w then 2 else 1) else 0) + weighed (weighs has k) no_weight ss ≤ 1
    by true q g = counted (has w) e (no_block has k ss (omega (arith, g)))
    by false q g = absurd (true≢false (sym q))
one_block has k c w e (a_block a n b ∷ ss) (there i) h = by (n == k) h (λ g. one_block has k c w e ss i g)
  where
    by : (t : Bool) → (if t then suc (blocks_at k ss) else blocks_at k ss) ≤ 1 → (blocks_at k ss ≤ 1 → weighed (weighs has k) no_weight ss ≤ 1) → (if t then (if has b then 2 else 1) else 0) + weighed (weighs has k) no_weight ss ≤ 1
    by true g ih = let z = block_there k c w ss i in absurd (omega (arith, g, z))
    by false g ih = let z = ih g in omega (arith, z)
one_block has k c w e (a_jump a n j again ∷ ss) (there i) h = let z = one_block has k c w e ss i h in omega (arith, z)
one_block has k c w e (a_return a n ∷ ss) (there i) h = one_block has k c w e ss i h

-- ---- walks of the function

pub led_to_one_place : (l : ℕ) (again : Bool) (g : Function) → Led (shown (leaves (jump_exit l again))) refl l again (order_function g) ⊎ OnePlace (shown (leaves (jump_exit l again))) refl l again (order_function g)
    → LeadsToOnePlace g (shown (leaves (jump_exit l again)))
led_to_one_place l again g (inl h) w v us (rest, o, x) y =
    let z = h.behind w us stopped (fronts x (w ++ shown (leaves (jump_exit l again)) ∷ us) rest refl) in ([], meets_none z.0, y)
led_to_one_place l again g (inr h) w v us (rest, o, x) (more, p, y) =
    let a = shown (leaves (jump_exit l again)) in
    let z = h.join w us v more stopped p (fronts x (w ++ a ∷ us) rest refl) (subst (λ q. Walk (order_function g) q p) (append_assoc v (a ∷ []) more) y) in
    (z.list, z.meets, ([], stopped, subst (λ q. Walk (order_function g) q stopped) (sym (append-nil (v ++ a ∷ z.list))) z.walk))

pub jumps_meet : (r : Run) (h : Home) (xs : List ℕ) (f : Function) (l : ℕ) (again : Bool) → HasNoMark (order_function f) → blocks_at r.block (spots_of_function f) ≤ 1
    → Among (a_block h.around r.block h.body) (spots_of_function f) → is_among l (loops_of (inside r h.body)) ≡ false
    → LeadsToOnePlace (running r h.around.loops xs f) (shown (leaves (jump_exit l again)))
jumps_meet r h xs f l again unmarked few i other =
    led_to_one_place l again (running r h.around.loops xs f)
    ((function_part l again r.block (running_body r h.around.loops xs) (λ b. is_among l (loops_of (inside r b))) (λ b n d f h e. run_led l again r _ xs b n d f h e) (of_run (number (leaves (jump_exit l again))) h.around.loops r) free
    (block_light (number (leaves (jump_exit l again))) (jump_numbers l again).0 r h.around.loops xs) f unmarked).when_one (one_block (λ b. is_among l (loops_of (inside r b))) r.block h.around h.body other (spots_of_function f) i few))
