-- In the marked function, a walk that comes to the mark of an exit has entered the run since each variable began that the run does not
-- declare: form by form, a mark of the exit stands in no part but the run's block, and in it behind the run's entry.
use Rattle.std.proofs.Common.{◌≡◌, inl, inr, ◌⊎◌, ℕ, ◌+◌, ◌≤◌, ◌==◌, if◌then◌else◌, Bool, true, false, ◌&&◌, ◌||◌, Some, None, List, [], ◌∷◌, ◌++◌, map, drop, suc, refl, sym, ap, ◌∙◌, subst, true≢false, arith}
use Rattle.std.proofs.lemmas.Bool.Decides.{Decides-eqb}
use Rattle.rx_typed.specs.Tree.{Temporary, Body, ends, runs, Function, mark_of, temporary_at, temporary_of}
use Rattle.rx_lower_walks.specs.Matching.{Binding, bindings}
use Rattle.rx_lower_walks.specs.Actions.{Declare, Dead, Action, does, Subject, subject, taken, declared, written}
use Rattle.rx_lower_walks.specs.Orders.{exit_node, Order, perhaps, binding, declaring, order, order_scrutinee, order_body, order_function}
use Rattle.rx_lower_walks.specs.Orders as order
use Rattle.rx_lower_walks.specs.Walks.{Out, on, fails, IsAway, Walk, rests, stops, nothing, acts, both, first, one, other, leave, fail, holds, next, ends, jumps, halts, last, more, Among, here, there}
use Rattle.rx_lower_walks.specs.Walks as walk
use Rattle.rx_exits_plan.specs.Blocks as block
use Rattle.rx_exits_plan.specs.Blocks.{Statement, statements, tail, written_tail, before, bound}
use Rattle.rx_exits_plan.specs.Spots.{Around, Spot, a_block, a_jump, a_return, outermost, spots_of_function}
use Rattle.rx_exits_plan.specs.Runs.{Run, in_front, inside, behind, last_value}
use Rattle.rx_exits_plan.specs.Points as point
use Rattle.rx_exits_plan.specs.Points.{Exit, Point, enters, leaves, number}
use Rattle.rx_exits_plan.specs.Changed.{changed, changed_matched, changed_statement}
use Rattle.rx_exits_plan.specs.Marked.{mark, shown, marking, using, entering, ended, ended_value, ended_tail, marked_body, at_the_block, marked}
use Rattle.rx_exits_plan.specs.Unmarked.{is_mark}
use Rattle.rx_exits_plan.specs.Coming.{HasNoMark}
use Rattle.rx_exits_plan.specs.Occurrences.{all_declared, occurrences, occurrences_matched, in_statements, in_run, in_value, is_declared_in_run}
use Rattle.rx_engine_simulation.specs.Histories.{Declares, put}
use Rattle.rx_engine_simulation.specs.Programs.{back, IsHistory}
use Rattle.rx_engine_related.specs.OneSite.{blocks_at}
use Rattle.rx_engine_related.proofs.Counting.{one_if, is_it}
use Rattle.rx_engine_related.proofs.Bare.{NoMarks, no_marks}
use Rattle.rx_engine_related.proofs.Sole.{weighed, AllFree, all_free, take_free, drop_free, free, block_there, of_beginning, anywhere}
use Rattle.rx_engine_related.proofs.Leading.{Loops, Forms, of_binding_part, of_declaring_part, of_beginning_part, Changing, no_weight, grown}
use Rattle.rx_engine_related.proofs.Undeclared.{Undeclared, Away, away_front, away_rest, away_of, either_false, walk_away, taking_away, exp_away, matched_away, value_away}
use Rattle.rx_engine_related.proofs.Entry.{of_run, marked_light}

-- there is a statement
abbrev pub has_some : List Statement → Bool
has_some [] = false
has_some (s ∷ ss) = true

any_loops : (s : Order) → Loops (λ l. Unit {0}) s
any_loops order.nothing = tt
any_loops order.nowhere = tt
any_loops (order.act a) = tt
any_loops (order.then s t) = (any_loops s, any_loops t)
any_loops (order.or s t) = (any_loops s, any_loops t)
any_loops (order.leave j) = tt
any_loops order.fail = tt
any_loops (order.otherwise s t) = (any_loops s, any_loops t)
any_loops (order.ending n y s) = any_loops s
any_loops (order.passes l s) = (tt, any_loops s)

module _ (x : ℕ) where
  -- the run was entered since the variable began
  abbrev pub IsIn : List Action → Type 0
  IsIn [] = ⊥
  IsIn (a ∷ h) = (a ≡ shown enters) ⊎ ((Declares a.act x → ⊥) × IsIn h)

  stays_in : (h u : List Action) → ((a : Action) → Among a u → Declares a.act x → ⊥) → IsIn h → IsIn (put u h)
  stays_in h [] f i = i
  stays_in h (a ∷ u) f i = stays_in (a ∷ h) u (λ b k. f b (there k)) (inr (f a here, i))

  module _ (m : Action) (is : is_mark m.act ≡ true) where
    -- so at each of these marks behind a history
    abbrev pub Told : List Action → List Action → Type 0
    Told h [] = Unit {0}
    Told h (a ∷ u) = (a ≡ m → IsIn h) × Told (a ∷ h) u

    further : (h g u : List Action) → (IsIn h → IsIn g) → Told h u → Told g u
    further h g [] f t = tt
    further h g (a ∷ u) f t = ((λ e. f (t.0 e)), further (a ∷ h) (a ∷ g) u (λ i. by i) t.1)
      where
        by : IsIn (a ∷ h) → IsIn (a ∷ g)
        by (inl e) = inl e
        by (inr k) = inr (k.0, f k.1)

    behind_any : (h u : List Action) → Told [] u → Told h u
    behind_any h u t = further [] h u (λ i. absurd i) t

    told_both : (h u v : List Action) → Told h u → Told (put u h) v → Told h (u ++ v)
    told_both h [] v t k = k
    told_both h (a ∷ u) v t k = (t.0, told_both (a ∷ h) u v t.1 k)

    told_in : (h u : List Action) → ((a : Action) → Among a u → Declares a.act x → ⊥) → IsIn h → Told h u
    told_in h [] f i = tt
    told_in h (a ∷ u) f i = ((λ e. i), told_in (a ∷ h) u (λ b k. f b (there k)) (inr (f a here, i)))

    no_dead : (n y : ℕ) → does n (Dead y) ≡ m → ⊥
    no_dead n y e = true≢false (sym is ∙ ap (λ (b : Action). is_mark b.act) (sym e))

    told_dead : (h : List Action) (n y : ℕ) → Told h (does n (Dead y) ∷ [])
    told_dead h n y = ((λ e. absurd (no_dead n y e)), tt)

    -- ---- of the walks of an order, from anywhere

    abbrev pub Tells : Order → Type 0
    Tells s = (u : List Action) (o : Out) → Walk s u o → Told [] u

    two : (u v : List Action) → Told [] u → Told [] v → Told [] (u ++ v)
    two u v t k = told_both [] u v t (behind_any (put u []) v k)

    tells_nothing : Tells order.nothing
    tells_nothing u o rests = tt
    tells_nothing u o (stops h) = tells_nothing u _ h
    tells_nothing u o nothing = tt

    tells_nowhere : Tells order.nowhere
    tells_nowhere u o rests = tt
    tells_nowhere u o (stops h) = tells_nowhere u _ h

    tells_fail : Tells order.fail
    tells_fail u o rests = tt
    tells_fail u o (stops h) = tells_fail u _ h
    tells_fail u o fail = tt

    tells_leave : (j : order.Exit) → Tells (order.leave j)
    tells_leave j u o rests = tt
    tells_leave j u o (stops h) = tells_leave j u _ h
    tells_leave j u o leave = tt

    tells_act : (b : Action) → (b ≡ m → ⊥) → Tells (order.act b)
    tells_act b n u o rests = tt
    tells_act b n u o (stops h) = tells_act b n u _ h
    tells_act b n u o acts = ((λ e. absurd (n e)), tt)

    tells_then : (s t : Order) → Tells s → Tells t → Tells (order.then s t)
    tells_then s t f g u o rests = tt
    tells_then s t f g u o (stops h) = tells_then s t f g u _ h
    tells_then s t f g u o (both {us = us} {vs = vs} h k) = two us vs (f us on h) (g vs o k)
    tells_then s t f g u o (first a h) = f u o h

    tells_or : (s t : Order) → Tells s → Tells t → Tells (order.or s t)
    tells_or s t f g u o rests = tt
    tells_or s t f g u o (stops h) = tells_or s t f g u _ h
    tells_or s t f g u o (one h) = f u o h
    tells_or s t f g u o (other h) = g u o h

    tells_otherwise : (s t : Order) → Tells s → Tells t → Tells (order.otherwise s t)
    tells_otherwise s t f g u o rests = tt
    tells_otherwise s t f g u o (stops h) = tells_otherwise s t f g u _ h
    tells_otherwise s t f g u o (holds a h) = f u o h
    tells_otherwise s t f g u o (next {us = us} {vs = vs} h k) = two us vs (f us fails h) (g vs o k)

    tells_ending : (n y : ℕ) (s : Order) → Tells s → Tells (order.ending n y s)
    tells_ending n y s f u o rests = tt
    tells_ending n y s f u o (stops h) = tells_ending n y s f u _ h
    tells_ending n y s f u o (walk.ends {us = us} h) = two us (does n (Dead y) ∷ []) (f us on h) (told_dead [] n y)
    tells_ending n y s f u o (jumps {us = us} {j = j} h) = two us (does (exit_node j) (Dead y) ∷ []) (f us (walk.leaves j) h) (told_dead [] (exit_node j) y)
    tells_ending n y s f u o (halts h) = f u walk.stopped h

    tells_passes : (l : ℕ) (s : Order) → Tells s → Tells (order.passes l s)
    tells_passes l s f u o rests = tt
    tells_passes l s f u o (stops h) = tells_passes l s f u _ h
    tells_passes l s f u o (last h k) = f u _ h
    tells_passes l s f u o (more {us = us} {vs = vs} h p k) = two us vs (f us _ h) (tells_passes l s f vs o k)

    not_mark : (b : Action) → is_mark b.act ≡ false → b ≡ m → ⊥
    not_mark b e q = true≢false (sym is ∙ ap (λ (c : Action). is_mark c.act) (sym q) ∙ e)

    unmarked_tells : (s : Order) → NoMarks s → Tells s
    unmarked_tells order.nothing h = tells_nothing
    unmarked_tells order.nowhere h = tells_nowhere
    unmarked_tells (order.act a) h = tells_act a (not_mark a h)
    unmarked_tells (order.then s t) h = tells_then s t (unmarked_tells s h.0) (unmarked_tells t h.1)
    unmarked_tells (order.or s t) h = tells_or s t (unmarked_tells s h.0) (unmarked_tells t h.1)
    unmarked_tells (order.leave j) h = tells_leave j
    unmarked_tells order.fail h = tells_fail
    unmarked_tells (order.otherwise s t) h = tells_otherwise s t (unmarked_tells s h.0) (unmarked_tells t h.1)
    unmarked_tells (order.ending n y s) h = tells_ending n y s (unmarked_tells s h)
    unmarked_tells (order.passes l s) h = tells_passes l s (unmarked_tells s h)

    -- ---- and in the run

    abbrev pub TellsIn : Order → Type 0
    TellsIn s = (u : List Action) (o : Out) → Walk s u o → (h : List Action) → IsIn h → Told h u

    tells_in : (s : Order) → Tells s → TellsIn s
    tells_in s f u o w h i = behind_any h u (f u o w)

    then_in : (s t : Order) → Undeclared x s → TellsIn t → TellsIn (order.then s t)
    then_in s t n g u o rests h i = tt
    then_in s t n g u o (stops w) h i = then_in s t n g u _ w h i
    then_in s t n g u o (both {us = us} {vs = vs} w k) h i = told_both h us vs (told_in h us (walk_away x n w) i) (g vs o k (put us h) (stays_in h us (walk_away x n w) i))
    then_in s t n g u o (first a w) h i = told_in h u (walk_away x n w) i

    undeclared_in : (s : Order) → Undeclared x s → TellsIn s
    undeclared_in s n u o w h i = told_in h u (walk_away x n w) i

    ending_in : (n y : ℕ) (s : Order) → TellsIn s → TellsIn (order.ending n y s)
    ending_in n y s f u o rests h i = tt
    ending_in n y s f u o (stops w) h i = ending_in n y s f u _ w h i
    ending_in n y s f u o (walk.ends {us = us} w) h i = told_both h us (does n (Dead y) ∷ []) (f us on w h i) (told_dead (put us h) n y)
    ending_in n y s f u o (jumps {us = us} {j = j} w) h i = told_both h us (does (exit_node j) (Dead y) ∷ []) (f us (walk.leaves j) w h i) (told_dead (put us h) (exit_node j) y)
    ending_in n y s f u o (halts w) h i = f u walk.stopped w h i

    binding_in : (S : Subject) (bs : List Binding) (n : ℕ) (r : Order) → Away x (all_declared (map (λ (b : Binding). b.variable) bs)) → TellsIn r → TellsIn (binding S bs n r)
    binding_in S [] n r i f = f
    binding_in S (b ∷ bs) n r i f =
        let e : TellsIn (order.ending n b.variable (binding S bs n r)) = ending_in n b.variable (binding S bs n r) (binding_in S bs n r i.1 f) in
        then_in (perhaps b.node (taken S b)) _ (taking_away x b.node b.mode S b.steps (temporary_at b.node 0)) (then_in (order.act (declared b)) _ i.0 (then_in (order.act (written S b)) _ (λ d. d) e))

    declaring_in : (s : ℕ) (ys : List ℕ) (n : ℕ) (r : Order) → Away x (all_declared ys) → TellsIn r → TellsIn (declaring s ys n r)
    declaring_in s [] n r i f = f
    declaring_in s (y ∷ ys) n r i f = then_in (order.act (does s (Declare y))) _ i.0 (ending_in n y (declaring s ys n r) (declaring_in s ys n r i.1 f))

    mark_in : (p : Point) (b : Body) (n : ℕ) (d : Temporary) → TellsIn (order_body b n d) → TellsIn (order_body (runs (mark p) b) n d)
    mark_in p b n d f = then_in (order (mark p) (temporary_of (mark p))) (order_body b n d) (tt, λ q. q) f

    used_in : (ys : List ℕ) (b : Body) (n : ℕ) (d : Temporary) → TellsIn (order_body b n d) → TellsIn (order_body (before (map using ys) b) n d)
    used_in [] b n d f = f
    used_in (y ∷ ys) b n d f = then_in _ (order_body (before (map using ys) b) n d) (λ q. q) (used_in ys b n d f)

    passed_in : (ls : List ℕ) (ss : List Statement) (b : Body) (n : ℕ) (d : Temporary) → Away x (in_statements ss) → TellsIn (order_body b n d)
        → TellsIn (order_body (before (map (changed_statement (marking ls)) ss) b) n d)
    passed_in ls [] b n d i f = f
    passed_in ls (block.does e ∷ ss) b n d i f =
        then_in (order (changed (marking ls) e) (temporary_of (changed (marking ls) e))) _ (exp_away x ls e (temporary_of (changed (marking ls) e)) (away_front x (occurrences e) (in_statements ss) i))
        (passed_in ls ss b n d (away_rest x (occurrences e) (in_statements ss) i) f)
    passed_in ls (block.begins s ys ∷ ss) b n d i f =
        declaring_in s ys n _ (away_front x (all_declared ys) (in_statements ss) i) (passed_in ls ss b n d (away_rest x (all_declared ys) (in_statements ss) i) f)
    passed_in ls (block.binds s p c ∷ ss) b n d i f =
        let here_it = away_front x (all_declared (bound p) ++ occurrences_matched c) (in_statements ss) i in
        then_in (order_scrutinee (changed_matched (marking ls) c)) _ (matched_away x ls c (away_rest x (all_declared (bound p)) (occurrences_matched c) here_it))
        (binding_in (subject (changed_matched (marking ls) c)) (bindings [] p) n _ (away_front x (all_declared (bound p)) (occurrences_matched c) here_it)
        (passed_in ls ss b n d (away_rest x (all_declared (bound p) ++ occurrences_matched c) (in_statements ss) i) f))

    -- ---- where it is entered

    put_both : (u v h : List Action) → put (u ++ v) h ≡ put v (put u h)
    put_both [] v h = refl
    put_both (a ∷ u) v h = put_both u v (a ∷ h)

    in_by_act : {u : List Action} {o : Out} → Walk (order.act (shown enters)) u o → o ≡ on → (h : List Action) → IsIn (put u h)
    in_by_act rests e h = absurd (cc)
    in_by_act (stops w) e h = absurd (cc)
    in_by_act acts e h = inl refl

    in_by_mark : {u : List Action} {o : Out} → Walk (order.then order.nothing (order.act (shown enters))) u o → o ≡ on → IsIn (put u [])
    in_by_mark rests e = absurd (cc)
    in_by_mark (stops w) e = absurd (cc)
    in_by_mark (both {us = us} {vs = vs} w k) e = subst (λ h. IsIn h) (sym (put_both us vs [])) (in_by_act k e (put us []))
    in_by_mark (first a w) e = absurd (subst (λ o. IsAway o) e a)

    tells_entered : (shown enters ≡ m → ⊥) → (t : Order) → TellsIn t → Tells (order.then (order.then order.nothing (order.act (shown enters))) t)
    tells_entered n t g u o rests = tt
    tells_entered n t g u o (stops w) = tells_entered n t g u _ w
    tells_entered n t g u o (both {us = us} {vs = vs} w k) =
        told_both [] us vs (tells_then order.nothing (order.act (shown enters)) tells_nothing (tells_act (shown enters) n) us on w) (g vs o k (put us []) (in_by_mark w refl))
    tells_entered n t g u o (first a w) = tells_then order.nothing (order.act (shown enters)) tells_nothing (tells_act (shown enters) n) u o w

    -- ---- histories

    pub told_at : (h u : List Action) → Told [] (back h u) → Told h u
    told_at [] u t = t
    told_at (a ∷ h) u t = (told_at h (a ∷ u) t).1

  -- ---- of one exit

  -- the variable may begin between the run's entry and its end: the run declares it, or something stands in front of its tail
  abbrev pub may_begin : Run → Body → Bool
  may_begin r b = is_declared_in_run r b x || (r.tail && has_some (behind r b))

  -- so a block of the run weighs too much
  abbrev pub weighs : Run → Around → ℕ → Body → ℕ
  weighs r a n b = if n == r.block then (if may_begin r b then 2 else 1) else 0

  module _ (e : Exit) (later : (0 == number (leaves e)) ≡ false) (no_return : (2 == number (leaves e)) ≡ false) where
    abbrev k : ℕ
    k = number (leaves e)

    abbrev m : Action
    m = shown (leaves e)

    abbrev Says : Order → Type 0
    Says s = Tells m refl s

    abbrev Part : ℕ → Order → Type 0
    Part b s = b ≤ 1 → Says s

    abbrev Any : ℕ → Type 0
    Any l = Unit {0}

    not_counted : (b : Action) → one_if (is_it k b) ≡ 0 → b ≡ m → ⊥
    not_counted b q s = by (k == k) ((Decides-eqb k k).1 refl) (ap (λ (c : Action). one_if (is_it k c)) (sym s) ∙ q)
      where
        by : (t : Bool) → t ≡ true → one_if t ≡ 0 → ⊥
        by true i j = omega (arith, j)
        by false i j = true≢false (sym i)

    not_entry : shown enters ≡ m → ⊥
    not_entry q = by (number (leaves e)) later (ap (λ (a : Action). a.node) q)
      where
        by : (n : ℕ) → (0 == n) ≡ false → 0 ≡ n → ⊥
        by n f g = true≢false (sym ((Decides-eqb 0 n).1 g) ∙ f)

    forms : Forms k Any Part
    forms = record {
      of_nothing = λ i. tells_nothing m refl;
      of_nowhere = λ i. tells_nowhere m refl;
      of_fail = λ i. tells_fail m refl;
      of_act = λ b q i. tells_act m refl b (not_counted b q);
      of_leave = λ j i. tells_leave m refl j;
      of_then = λ b c s t f g i. tells_then m refl s t (f (omega (arith, i))) (g (omega (arith, i)));
      of_or = λ b c s t f g i. tells_or m refl s t (f (omega (arith, i))) (g (omega (arith, i)));
      of_otherwise = λ b c s t f g i. tells_otherwise m refl s t (f (omega (arith, i))) (g (omega (arith, i)));
      of_ending = λ b n y s f i. tells_ending m refl n y s (f i);
      of_passes = λ b l s q f i. tells_passes m refl l s (f i);
      weak = λ b c s le f i. f (omega (arith, le, i));
    }

    unpassed : (ss : List Statement) (b : Body) (n : ℕ) (d : Temporary) → AllFree ss → Says (order_body b n d) → Says (order_body (before ss b) n d)
    unpassed [] b n d h f = f
    unpassed (block.does c ∷ ss) b n d h f = tells_then m refl (order c (temporary_of c)) _ (unmarked_tells m refl (order c (temporary_of c)) h.0) (unpassed ss b n d h.1 f)
    unpassed (block.begins s ys ∷ ss) b n d h f = of_declaring_part k Any Part forms 0 s ys n _ (λ i. unpassed ss b n d h.1 f) (omega arith)
    unpassed (block.binds s p c ∷ ss) b n d h f =
        tells_then m refl (order_scrutinee c) _ (unmarked_tells m refl (order_scrutinee c) h.0) (of_binding_part k Any Part forms 0 (subject c) (bindings [] p) n _
        (λ i. unpassed ss b n d h.1 f) (omega arith))

    -- what stands between the run's entry and its end does not begin the variable
    end_says : (t : Bool) (r : Run) (ls : List ℕ) (b : Body) (n : ℕ) (d f : Temporary) → t && has_some (behind r b) ≡ false
        → Away x (in_value (if t then Some (written_tail r.block (tail b)) else None)) → NoMarks (order_body b n f) → TellsIn m refl (order_body (before (ended t) (before (behind r b) (ends (ended_tail t r.block ls (tail b))))) n d)
    end_says true r ls b n d f none away h = by (behind r b) none
      where
        by : (ss : List Statement) → has_some ss ≡ false → TellsIn m refl (order_body (before ss (ends (ended_value r.block ls (tail b)))) n d)
        by [] e = undeclared_in m refl (order (ended_value r.block ls (tail b)) d) (value_away x ls r.block (tail b) d away)
        by (s ∷ ss) e = absurd (true≢false e)
    end_says false r ls b n d f none away h =
        let z = all_free b n f h in
        let t = anywhere (tail b) d f z.1 in
        let rest : Body = before (behind r b) (ends (tail b)) in
        let x0 = unpassed (behind r b) (ends (tail b)) n d (drop_free r.count (drop r.first (statements b)) (drop_free r.first (statements b) z.0)) (unmarked_tells m refl (order (tail b) d) t) in
        mark_in m refl (leaves point.next) rest n d (tells_in m refl (order_body rest n d) x0)

    run_says : (r : Run) (ls xs : List ℕ) (b : Body) (n : ℕ) (d f : Temporary) → may_begin r b ≡ false → NoMarks (order_body b n f) → Says (order_body (marked_body r ls xs b) n d)
    run_says r ls xs b n d f none h =
        let q = either_false x (is_declared_in_run r b x) (r.tail && has_some (behind r b)) none in
        let z = all_free b n f h in
        let at_end : Body = before (ended r.tail) (before (behind r b) (ends (ended_tail r.tail r.block ls (tail b)))) in
        let run : Body = before (map (changed_statement (marking ls)) (inside r b)) at_end in
        let away = away_of x (in_run r b) q.0 in
        let x1 = end_says r.tail r ls b n d f q.1 (away_rest x (in_statements (inside r b)) (in_value (last_value r b)) away) h in
        let x2 = used_in m refl xs run n d (passed_in m refl ls (inside r b) at_end n d (away_front x (in_statements (inside r b)) (in_value (last_value r b)) away) x1) in
        unpassed (in_front r b) (before (entering xs) run) n d (take_free r.first (statements b) z.0) (tells_entered m refl not_entry (order_body (before (map using xs) run) n d) x2)

    block_part : (r : Run) (ls xs : List ℕ) (t u : Bool) (was b : Body) (n : ℕ) (d f : Temporary) (i : ℕ) → may_begin r was ≡ u → NoMarks (order_body was n f) → Part i (order_body b n d)
        → Part ((if t then (if u then 2 else 1) else 0) + i) (order_body (if t then marked_body r ls xs was else b) n d)
    block_part r ls xs true true was b n d f i q h g = λ le. absurd (omega (arith, le))
    block_part r ls xs true false was b n d f i q h g = λ le. run_says r ls xs was n d f q h
    block_part r ls xs false u was b n d f i q h g = λ le. g (omega (arith, le))

    placing : (r : Run) (ls xs : List ℕ) → Changing k Any Part (at_the_block r ls xs) (weighs r)
    placing r ls xs = record {
      of_block = λ a n was b d f i h q g. block_part r ls xs (n == r.block) (may_begin r was) was b n d f i refl h g;
      of_jump = λ n j c d i. tells_leave m refl (order.exit n.node j c);
      of_return = λ q i g t. g t;
    }

    text_says : (r : Run) (ls xs : List ℕ) (f : Function) → HasNoMark (order_function f) → weighed (weighs r) no_weight (spots_of_function f) ≤ 1 → Says (order_function (marked r ls xs f))
    text_says r ls xs f h few =
        let C = at_the_block r ls xs in
        let n = of_beginning f.params (mark_of f.body).node (order f.body (temporary_of f.body)) (no_marks (order_function f) h.none) in
        of_beginning_part k Any Part forms _ f.params (mark_of (changed C f.body)).node (order (changed C f.body) (temporary_of (changed C f.body)))
        (grown k Any Part forms C (weighs r) (placing r ls xs) (of_run k no_return ls r) free (marked_light k no_return ls r xs) f.body (outermost f) (temporary_of (changed C f.body))
        (temporary_of f.body) n (any_loops (order f.body (temporary_of f.body)))) few

    -- a history that comes to the exit's mark
    pub came_in : (r : Run) (ls xs : List ℕ) (f : Function) → HasNoMark (order_function f) → weighed (weighs r) no_weight (spots_of_function f) ≤ 1 → (h : List Action)
        → IsHistory (marked r ls xs f) (shown (leaves e) ∷ h) → IsIn h
    came_in r ls xs f bare few h q = (told_at m refl h (shown (leaves e) ∷ q.0) (text_says r ls xs f bare few (back (shown (leaves e) ∷ h) q.0) q.1 q.2)).0 refl

  -- ---- one block has the run's node, and the variable does not begin in its run

  no_block : (r : Run) (ss : List Spot) → blocks_at r.block ss ≤ 0 → weighed (weighs r) no_weight ss ≡ 0
  no_block r [] h = refl
  no_block r (a_block a n b ∷ ss) h = by (n == r.block) h (λ g. no_block r ss g)
    where
      by : (t : Bool) → (if t then suc (blocks_at r.block ss) else blocks_at r.block ss) ≤ 0 → (blocks_at r.block ss ≤ 0 → weighed (weighs r) no_weight ss ≡ 0)
          → (if t then (if may_begin r b then 2 else 1) else 0) + weighed (weighs r) no_weight ss ≡ 0
      by true g ih = absurd (omega (arith, g))
      by false g ih = let z = ih g in omega (arith, z)
  no_block r (a_jump a n j again ∷ ss) h = let z = no_block r ss h in omega (arith, z)
  no_block r (a_return a n ∷ ss) h = no_block r ss h

  pub one_block : (r : Run) (c : Around) (w : Body) → may_begin r w ≡ false → (ss : List Spot) → Among (a_block c r.block w) ss → blocks_at r.block ss ≤ 1
      → weighed (weighs r) no_weight ss ≤ 1
  one_block r c w e [] i h = elim i [ ]
  one_block r c w e (a_block _ _ _ ∷ ss) here h = by (r.block == r.block) ((Decides-eqb r.block r.block).1 refl) h
    where
      counted : (u : Bool) → u ≡ false → weighed (weighs r) no_weight ss ≡ 0 → (if u then 2 else 1) + weighed (weighs r) no_weight ss ≤ 1
      counted true q z = absurd (true≢false q)
      counted false q z = omega (arith, z)

      by : (t : Bool) → t ≡ true → (if t then suc (blocks_at r.block ss) else blocks_at r.block ss) ≤ 1 → (if t then (if may_begin r w then 2 else 1) else 0)
          + weighed (weighs r) no_weight ss ≤ 1
      by true q g = counted (may_begin r w) e (no_block r ss (omega (arith, g)))
      by false q g = absurd (true≢false (sym q))
  one_block r c w e (a_block a n b ∷ ss) (there i) h = by (n == r.block) h (λ g. one_block r c w e ss i g)
    where
      by : (t : Bool) → (if t then suc (blocks_at r.block ss) else blocks_at r.block ss) ≤ 1 → (blocks_at r.block ss ≤ 1 → weighed (weighs r) no_weight ss ≤ 1)
          → (if t then (if may_begin r b then 2 else 1) else 0) + weighed (weighs r) no_weight ss ≤ 1
      by true g ih = let z = block_there r.block c w ss i in absurd (omega (arith, g, z))
      by false g ih = let z = ih g in omega (arith, z)
  one_block r c w e (a_jump a n j again ∷ ss) (there i) h = let z = one_block r c w e ss i h in omega (arith, z)
  one_block r c w e (a_return a n ∷ ss) (there i) h = one_block r c w e ss i h
