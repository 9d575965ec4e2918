-- In a block, a mark behind some statements is held by the walks that went through these statements, and by no other. One way the walk
-- is put together, statement by statement; the other way it is taken apart, the mark being none of the statements' actions.
use Rattle.std.proofs.Common.{◌≡◌, ◌⊎◌, inl, inr, ℕ, List, [], ◌∷◌, ◌++◌, Option, Some, None, refl, sym, ◌∙◌, subst, ap}
use Rattle.rx_typed.specs.Tree.{Temporary, Body, runs, temporary_of}
use Rattle.rx_lower_walks.specs.Matching.{Binding, bindings}
use Rattle.rx_lower_walks.specs.Actions.{Act, Declare, Dead, Action, does, Subject, subject, taken, declared, written}
use Rattle.rx_lower_walks.specs.Orders.{exit_node, Order, perhaps, binding, declaring, order, order_scrutinee, order_body}
use Rattle.rx_lower_walks.specs.Orders as order
use Rattle.rx_lower_walks.specs.Walks.{Out, on, leaves, stopped, Walk, rests, stops, nothing, acts, both, first, ends, jumps, halts, actions_in, Among, here, there, EndsVariable}
use Rattle.rx_lower_walks.proofs.HeldLemmas.{held}
use Rattle.rx_exits_plan.specs.Blocks.{Statement, begins, binds, before}
use Rattle.rx_exits_plan.specs.Blocks as statement
use Rattle.rx_exits_plan.specs.Points.{Point}
use Rattle.rx_exits_plan.specs.Marked.{mark, shown}
use Rattle.rx_exits_plan.specs.Through.{all_begun, is_taken, all_bound, Through, no_more, does_one, begins_one, binds_one, actions_of}

-- ---- lists

joined : {A : Type 0} (us vs ws : List A) → (us ++ vs) ++ ws ≡ us ++ (vs ++ ws)
joined [] vs ws = refl
joined (u ∷ us) vs ws = ap (λ l. u ∷ l) (joined us vs ws)

nil_right : {A : Type 0} (l : List A) → l ++ [] ≡ l
nil_right [] = refl
nil_right (a ∷ l) = ap (λ k. a ∷ k) (nil_right l)

parted : {a : Action} (us vs : List Action) → Among a (us ++ vs) → Among a us ⊎ Among a vs
parted [] vs h = inr h
parted (u ∷ us) vs here = inl here
parted {a = a} (u ∷ us) vs (there h) = by (parted us vs h)
  where
    by : Among a us ⊎ Among a vs → Among a (u ∷ us) ⊎ Among a vs
    by (inl k) = inl (there k)
    by (inr k) = inr k

in_first : {a : Action} {us : List Action} (vs : List Action) → Among a us → Among a (us ++ vs)
in_first vs here = here
in_first vs (there h) = there (in_first vs h)

in_second : {a : Action} (us : List Action) {vs : List Action} → Among a vs → Among a (us ++ vs)
in_second [] h = h
in_second (u ∷ us) h = there (in_second us h)

-- ---- a walk that goes through statements comes to what stands behind them

taken_on : (n : ℕ) (a : Option Act) → Walk (perhaps n a) (is_taken n a) on
taken_on n None = nothing
taken_on n (Some a) = acts

bound_comes : (S : Subject) (bs : List Binding) (n : ℕ) {X : Order} {v : List Action} → Walk X v stopped → Walk (binding S bs n X) (all_bound S bs ++ v) stopped
bound_comes S [] n h = h
bound_comes S (b ∷ bs) n {X = X} {v = v} h =
    subst (λ l. Walk (binding S (b ∷ bs) n X) l stopped) (sym (joined (is_taken b.node (taken S b)) (declared b ∷ written S b ∷ all_bound S bs) v))
    (both (taken_on b.node (taken S b)) (both acts (both acts (halts (bound_comes S bs n h)))))

begun_comes : (s : ℕ) (xs : List ℕ) (n : ℕ) {X : Order} {v : List Action} → Walk X v stopped → Walk (declaring s xs n X) (all_begun s xs ++ v) stopped
begun_comes s [] n h = h
begun_comes s (x ∷ xs) n h = both acts (halts (begun_comes s xs n h))

comes_behind : {ss : List Statement} {w : List Action} → Through ss w → (b : Body) (n : ℕ) (d : Temporary) (v : List Action)
    → Walk (order_body b n d) v stopped → Walk (order_body (before ss b) n d) (w ++ v) stopped
comes_behind no_more b n d v h = h
comes_behind (does_one {e = e} {ss = ss} {us = us} {vs = vs} a t) b n d v h =
    subst (λ l. Walk (order_body (before (statement.does e ∷ ss) b) n d) l stopped) (sym (joined us vs v)) (both a (comes_behind t b n d v h))
comes_behind (begins_one {s = s} {xs = xs} {ss = ss} {vs = vs} t) b n d v h =
    subst (λ l. Walk (order_body (before (begins s xs ∷ ss) b) n d) l stopped) (sym (joined (all_begun s xs) vs v)) (begun_comes s xs n (comes_behind t b n d v h))
comes_behind (binds_one {s = s} {p = p} {c = c} {ss = ss} {us = us} {vs = vs} a t) b n d v h =
    subst (λ l. Walk (order_body (before (binds s p c ∷ ss) b) n d) l stopped)
    (ap (λ l. us ++ l) (sym (joined (all_bound (subject c) (bindings [] p)) vs v)) ∙ sym (joined us (all_bound (subject c) (bindings [] p) ++ vs) v))
    (both a (bound_comes (subject c) (bindings [] p) n (comes_behind t b n d v h)))

pub comes_to_mark : (ss : List Statement) (p : Point) (b : Body) (n : ℕ) (d : Temporary) (w : List Action) → Through ss w
    → Walk (order_body (before ss (runs (mark p) b)) n d) (w ++ shown p ∷ []) stopped
comes_to_mark ss p b n d w t = comes_behind t (runs (mark p) b) n d (shown p ∷ []) (both (both nothing acts) rests)

-- ---- a walk that holds the mark went through the statements

-- it did this, then the rest did that, which holds the action; then variables ended
pub record Parted (a : Action) (X : Order) (Did : List Action → Type 0) (u : List Action) : Type 0 where
  pub front : List Action
  pub rest : List Action
  pub back : List Action
  pub out : Out
  pub is : u ≡ front ++ (rest ++ back)
  pub did : Did front
  pub walk : Walk X rest out
  pub held : Among a rest

-- an action that ends no variable
abbrev NotDead : Action → Type 0
NotDead a = EndsVariable a.act → ⊥

not_held : {a : Action} {s : Order} {w : List Action} {o : Out} → NotDead a → (Among a (actions_in s) → ⊥) → Walk s w o → Among a w → ⊥
not_held {a = a} {s = s} k f h m = by (held h a m)
  where
    by : Among a (actions_in s) ⊎ EndsVariable a.act → ⊥
    by (inl i) = f i
    by (inr i) = k i

is_one : {a b : Action} → Among a (b ∷ []) → b ≡ a
is_one here = refl
is_one (there h) = elim h [ ]

not_its_end : {a : Action} (n x : ℕ) → NotDead a → Among a (does n (Dead x) ∷ []) → ⊥
not_its_end n x k h = k (subst (λ (b : Action). EndsVariable b.act) (is_one h) tt)

-- one part, then another
behind_part : {a : Action} {s X Y : Order} {Did : List Action → Type 0} {u : List Action} {o : Out} → NotDead a → (Among a (actions_in s) → ⊥)
    → ((v : List Action) (p : Out) → Walk X v p → Among a v → Parted a Y Did v) → Walk (order.then s X) u o → Among a u
    → Parted a Y (λ l. (us vs : List Action) × Walk s us on × Did vs × (l ≡ us ++ vs)) u
behind_part k f g rests m = elim m [ ]
behind_part k f g (stops h) m = behind_part k f g h m
behind_part {a = a} {s = s} {Y = Y} {Did = Did} k f g (both {us = us} {vs = vs} {o = o} h j) m = by (parted us vs m)
  where
    by : Among a us ⊎ Among a vs → Parted a Y (λ l. (us vs : List Action) × Walk s us on × Did vs × (l ≡ us ++ vs)) (us ++ vs)
    by (inl i) = absurd (not_held k f h i)
    by (inr i) = let z = g vs o j i in record {
      front = us ++ z.front;
      rest = z.rest;
      back = z.back;
      out = z.out;
      is = ap (λ l. us ++ l) z.is ∙ sym (joined us z.front (z.rest ++ z.back));
      did = (us, z.front, h, z.did, refl);
      walk = z.walk;
      held = z.held;
    }
behind_part k f g (first e h) m = absurd (not_held k f h m)

more : {a : Action} {Y : Order} {Did : List Action → Type 0} {u : List Action} (es : List Action) → Parted a Y Did u → Parted a Y Did (u ++ es)
more es z = record {
  front = z.front;
  rest = z.rest;
  back = z.back ++ es;
  out = z.out;
  is = ap (λ l. l ++ es) z.is ∙ joined z.front (z.rest ++ z.back) es ∙ ap (λ l. z.front ++ l) (joined z.rest z.back es);
  did = z.did;
  walk = z.walk;
  held = z.held;
}

-- round a variable
within_variable : {a : Action} {X Y : Order} {Did : List Action → Type 0} {u : List Action} {o : Out} (n x : ℕ) → NotDead a
    → ((v : List Action) (p : Out) → Walk X v p → Among a v → Parted a Y Did v) → Walk (order.ending n x X) u o → Among a u → Parted a Y Did u
within_variable n x k g rests m = elim m [ ]
within_variable n x k g (stops h) m = within_variable n x k g h m
within_variable {a = a} {Y = Y} {Did = Did} n x k g (ends {us = us} h) m = by (parted us (does n (Dead x) ∷ []) m)
  where
    by : Among a us ⊎ Among a (does n (Dead x) ∷ []) → Parted a Y Did (us ++ does n (Dead x) ∷ [])
    by (inl i) = more (does n (Dead x) ∷ []) (g us on h i)
    by (inr i) = absurd (not_its_end n x k i)
within_variable {a = a} {Y = Y} {Did = Did} n x k g (jumps {us = us} {j = j} h) m = by (parted us (does (exit_node j) (Dead x) ∷ []) m)
  where
    by : Among a us ⊎ Among a (does (exit_node j) (Dead x) ∷ []) → Parted a Y Did (us ++ does (exit_node j) (Dead x) ∷ [])
    by (inl i) = more (does (exit_node j) (Dead x) ∷ []) (g us (leaves j) h i)
    by (inr i) = absurd (not_its_end (exit_node j) x k i)
within_variable n x k g (halts {us = us} h) m = g us stopped h m

-- ---- statements

told : {a : Action} {Y : Order} {Did Done : List Action → Type 0} {u : List Action} → ((l : List Action) → Did l → Done l) → Parted a Y Did u → Parted a Y Done u
told f z = record { front = z.front; rest = z.rest; back = z.back; out = z.out; is = z.is; did = f z.front z.did; walk = z.walk; held = z.held }

-- it did these actions, then that
abbrev After : List Action → (List Action → Type 0) → List Action → Type 0
After L Did l = (vs : List Action) × Did vs × (l ≡ L ++ vs)

-- a part that does these actions where it goes on
behind_fixed : {a : Action} {s X Y : Order} {Did : List Action → Type 0} {u : List Action} {o : Out} (L : List Action) → NotDead a → (Among a (actions_in s) → ⊥)
    → ((us : List Action) → Walk s us on → us ≡ L) → ((v : List Action) (p : Out) → Walk X v p → Among a v → Parted a Y Did v)
    → Walk (order.then s X) u o → Among a u → Parted a Y (After L Did) u
behind_fixed {s = s} {Did = Did} L k f e g h m = told by (behind_part k f g h m)
  where
    by : (l : List Action) → (us vs : List Action) × Walk s us on × Did vs × (l ≡ us ++ vs) → After L Did l
    by l (us, vs, w, d, is) = (vs, d, is ∙ ap (λ q. q ++ vs) (e us w))

act_on : (b : Action) (us : List Action) → Walk (order.act b) us on → us ≡ b ∷ []
act_on b _ acts = refl

taken_is : (n : ℕ) (t : Option Act) (us : List Action) → Walk (perhaps n t) us on → us ≡ is_taken n t
taken_is n None _ nothing = refl
taken_is n (Some t) _ acts = refl

in_taken : {a : Action} (n : ℕ) (t : Option Act) → Among a (actions_in (perhaps n t)) → Among a (is_taken n t)
in_taken n None h = h
in_taken n (Some t) h = h

begun_held : {a : Action} {X Y : Order} {Did : List Action → Type 0} {u : List Action} {o : Out} (s : ℕ) (xs : List ℕ) (n : ℕ) → NotDead a
    → (Among a (all_begun s xs) → ⊥) → ((v : List Action) (p : Out) → Walk X v p → Among a v → Parted a Y Did v)
    → Walk (declaring s xs n X) u o → Among a u → Parted a Y (After (all_begun s xs) Did) u
begun_held {u = u} {o = o} s [] n k f g h m = told (λ l d. (l, d, refl)) (g u o h m)
begun_held {Did = Did} s (x ∷ xs) n k f g h m =
    told by (behind_fixed (does s (Declare x) ∷ []) k (λ i. f (in_first (all_begun s xs) i)) (λ us w. act_on (does s (Declare x)) us w)
    (λ v p w i. within_variable n x k (λ v p w i. begun_held s xs n k (λ j. f (there j)) g w i) w i) h m)
  where
    by : (l : List Action) → After (does s (Declare x) ∷ []) (After (all_begun s xs) Did) l → After (all_begun s (x ∷ xs)) Did l
    by l (vs, (ws, d, e), is) = (ws, d, is ∙ ap (λ q. does s (Declare x) ∷ q) e)

bound_held : {a : Action} {X Y : Order} {Did : List Action → Type 0} {u : List Action} {o : Out} (S : Subject) (bs : List Binding) (n : ℕ) → NotDead a
    → (Among a (all_bound S bs) → ⊥) → ((v : List Action) (p : Out) → Walk X v p → Among a v → Parted a Y Did v)
    → Walk (binding S bs n X) u o → Among a u → Parted a Y (After (all_bound S bs) Did) u
bound_held {u = u} {o = o} S [] n k f g h m = told (λ l d. (l, d, refl)) (g u o h m)
bound_held {Did = Did} S (b ∷ bs) n k f g h m =
    told by (behind_fixed (is_taken b.node (taken S b)) k (λ i. f (in_first _ (in_taken b.node (taken S b) i))) (λ us w. taken_is b.node (taken S b) us w)
    (λ v p w i. behind_fixed (declared b ∷ []) k (λ j. f (in_second (is_taken b.node (taken S b)) (in_first (written S b ∷ all_bound S bs) j))) (λ us w. act_on (declared b) us w)
    (λ v p w i. behind_fixed (written S b ∷ []) k (λ j. f (in_second (is_taken b.node (taken S b)) (there (in_first (all_bound S bs) j)))) (λ us w. act_on (written S b) us w)
    (λ v p w i. within_variable n b.variable k (λ v p w i. bound_held S bs n k (λ j. f (in_second (is_taken b.node (taken S b)) (there (there j)))) g w i) w i) w i) w i) h m)
  where
    by : (l : List Action) → After (is_taken b.node (taken S b)) (After (declared b ∷ []) (After (written S b ∷ []) (After (all_bound S bs) Did))) l → After (all_bound S (b ∷ bs)) Did l
    by l (vs, (ws, (zs, (ys, d, e0), e1), e2), e3) = (
      ys,
      d,
      e3 ∙ ap (λ q. is_taken b.node (taken S b) ++ q) (e2 ∙ ap (λ q. declared b ∷ q) (e1 ∙ ap (λ q. written S b ∷ q) e0))
          ∙ sym (joined (is_taken b.node (taken S b)) (declared b ∷ written S b ∷ all_bound S bs) ys),
    )

held_behind : {a : Action} {u : List Action} {o : Out} (ss : List Statement) (b : Body) (n : ℕ) (d : Temporary) → NotDead a → (Among a (actions_of ss) → ⊥)
    → Walk (order_body (before ss b) n d) u o → Among a u → Parted a (order_body b n d) (Through ss) u
held_behind {u = u} {o = o} [] b n d k f h m =
    record { front = []; rest = u; back = []; out = o; is = sym (nil_right u); did = no_more; walk = h; held = m }
held_behind (statement.does e ∷ ss) b n d k f h m =
    told by (behind_part k (λ i. f (in_first (actions_of ss) i)) (λ v p w i. held_behind ss b n d k (λ j. f (in_second (actions_in (order e (temporary_of e))) j)) w i) h m)
  where
    by : (l : List Action) → (us vs : List Action) × Walk (order e (temporary_of e)) us on × Through ss vs × (l ≡ us ++ vs) → Through (statement.does e ∷ ss) l
    by l (us, vs, w, t, is) = subst (λ q. Through (statement.does e ∷ ss) q) (sym is) (does_one w t)
held_behind (begins s xs ∷ ss) b n d k f h m =
    told by (begun_held s xs n k (λ i. f (in_first (actions_of ss) i)) (λ v p w i. held_behind ss b n d k (λ j. f (in_second (all_begun s xs) j)) w i) h m)
  where
    by : (l : List Action) → After (all_begun s xs) (Through ss) l → Through (begins s xs ∷ ss) l
    by l (vs, t, is) = subst (λ q. Through (begins s xs ∷ ss) q) (sym is) (begins_one t)
held_behind (binds s p c ∷ ss) b n d k f h m =
    told by (behind_part k (λ i. f (in_first _ i))
    (λ v q w i. bound_held (subject c) (bindings [] p) n k (λ j. f (in_second (actions_in (order_scrutinee c)) (in_first (actions_of ss) j)))
    (λ v q w i. held_behind ss b n d k (λ j. f (in_second (actions_in (order_scrutinee c)) (in_second (all_bound (subject c) (bindings [] p)) j))) w i) w i) h m)
  where
    by : (l : List Action) → (us vs : List Action) × Walk (order_scrutinee c) us on × After (all_bound (subject c) (bindings [] p)) (Through ss) vs × (l ≡ us ++ vs)
        → Through (binds s p c ∷ ss) l
    by l (us, vs, w, (zs, t, e), is) = subst (λ q. Through (binds s p c ∷ ss) q) (sym (is ∙ ap (λ q. us ++ q) e)) (binds_one w t)

-- ---- the mark in front of the rest of the block

-- a walk that holds the mark of such a rest begins with it, where it does not hold it again
begins_with : {u : List Action} {o : Out} (a : Action) (X : Order) → Walk (order.then (order.then order.nothing (order.act a)) X) u o → Among a u
    → (vs : List Action) × (u ≡ a ∷ vs)
begins_with a X rests m = elim m [ ]
begins_with a X (stops h) m = begins_with a X h m
begins_with a X (both {us = us} {vs = vs} h k) m = let z = first_is h in (vs, ap (λ l. l ++ vs) z)
  where
    last_is : {ws : List Action} → Walk (order.act a) ws on → ws ≡ a ∷ []
    last_is acts = refl

    first_is : {ws : List Action} → Walk (order.then order.nothing (order.act a)) ws on → ws ≡ a ∷ []
    first_is (both nothing h) = last_is h
    first_is (first e h) = elim e [ ]
begins_with a X (first {us = us} e h) m = only h m
  where
    its : {ws : List Action} {q : Out} → Walk (order.act a) ws q → Among a ws → (vs : List Action) × (ws ≡ a ∷ vs)
    its rests i = elim i [ ]
    its (stops w) i = its w i
    its acts i = ([], refl)

    none : {ws : List Action} {q : Out} → Walk order.nothing ws q → ws ≡ []
    none rests = refl
    none (stops w) = none w
    none nothing = refl

    in_none : {ws : List Action} → ws ≡ [] → Among a ws → ⊥
    in_none e i = not_so (subst (λ l. Among a l) e i)
      where
        not_so : Among a [] → ⊥
        not_so j = elim j [ ]

    only : {ws : List Action} {q : Out} → Walk (order.then order.nothing (order.act a)) ws q → Among a ws → (vs : List Action) × (ws ≡ a ∷ vs)
    only rests i = elim i [ ]
    only (stops w) i = only w i
    only (both {vs = ws} nothing w) i = its w i
    only (first e w) i = absurd (in_none (none w) i)

pub mark_is_behind : (ss : List Statement) (p : Point) (b : Body) (n : ℕ) (d : Temporary) (u : List Action) (o : Out) → (Among (shown p) (actions_of ss) → ⊥)
    → Walk (order_body (before ss (runs (mark p) b)) n d) u o → Among (shown p) u → (w vs : List Action) × Through ss w × (u ≡ w ++ shown p ∷ vs)
mark_is_behind ss p b n d u o f h m =
    let z = held_behind ss (runs (mark p) b) n d (λ e. e) f h m in
    let y = begins_with (shown p) (order_body b n d) z.walk z.held in
    (z.front, y.0 ++ z.back, z.did, z.is ∙ ap (λ l. z.front ++ (l ++ z.back)) y.1)
