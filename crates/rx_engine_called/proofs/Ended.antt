-- Behind a mark in front of jumps out of a loop variables end, and nothing else is done, until the loop's pass is left; a variable that ends
-- with parts of the pass is not there then. By induction on walks, each of whose lists is cut where the mark stands.
use Rattle.std.proofs.Common.{◌≡◌, ◌⊎◌, inl, inr, ℕ, Bool, true, false, not, ◌&&◌, ◌||◌, ◌==◌, List, [], ◌∷◌, ◌++◌, refl, sym, ap, ◌∙◌, subst, append_assoc}
use Rattle.std.proofs.lemmas.Bool.Decides.{Decides-eqb}
use Rattle.rx_lower_walks.specs.Actions.{Act, Action, Borrow, Build, Call, Dead, Declare, does, Give, Input, Print, Read, Test, Write}
use Rattle.rx_lower_walks.specs.Orders.{Exit, exit_node, Order}
use Rattle.rx_lower_walks.specs.Orders as order
use Rattle.rx_lower_walks.specs.Walks as walk
use Rattle.rx_lower_walks.specs.Walks.{actions_in, Among, by_break, by_continue, by_end, by_outer_break, by_outer_continue, by_return, by_stop, EndsVariable, here, IsAway, Left, Out, Passed, there, Walk}
use Rattle.rx_lower_walks.proofs.HeldLemmas.{held}
use Rattle.rx_facts_tables.specs.Along.{after}
use Rattle.rx_facts_tables.proofs.Forward.{after_append}
use Rattle.rx_facts_tables.specs.Wholes.{loses, regains, standing}
use Rattle.rx_exits_plan.specs.Unmarked.{is_mark}
use Rattle.rx_engine_called.specs.Ended.{AllEnd, begun, e_act, e_ending, e_fail, e_leave, e_nothing, e_or, e_otherwise, e_passes, e_then, Ends, EndsBehind, HasNot, i_act, i_ending, i_fail, i_free, i_leave, i_loop, i_nothing, i_or, i_otherwise, i_passes, i_then, in_scope, Inside, IsOf, IsStopped, l_act, l_ending, l_fail, l_free, l_jump, l_leave, l_nothing, l_or, l_otherwise, l_passes, l_then, Leaving}

-- ---- lists

abbrev Cut : Action → List Action → List Action → List Action → List Action → Type 0
Cut a us vs w rest = ((r : List Action) × (us ≡ w ++ a ∷ r) × (rest ≡ r ++ vs)) ⊎ ((k : List Action) × (w ≡ us ++ k) × (vs ≡ k ++ a ∷ rest))

cut : (a : Action) (us vs w rest : List Action) → us ++ vs ≡ w ++ a ∷ rest → Cut a us vs w rest
cut a [] vs w rest e = inr (w, refl, e)
cut a (u ∷ us) vs [] rest e = inl (us, cc, sym (cc))
cut a (u ∷ us) vs (y ∷ w) rest e = by (cut a us vs w rest (cc))
  where
    by : Cut a us vs w rest → Cut a (u ∷ us) vs (y ∷ w) rest
    by (inl (r, h, g)) = inl (r, cc, g)
    by (inr (k, h, g)) = inr (k, cc, g)

not_empty : (a : Action) (w rest : List Action) → [] ≡ w ++ a ∷ rest → ⊥
not_empty a [] rest e = cc
not_empty a (y ∷ w) rest e = cc

only_one : (a b : Action) (w rest : List Action) → b ∷ [] ≡ w ++ a ∷ rest → (b ≡ a) × (rest ≡ [])
only_one a b [] rest e = (cc, sym (cc))
only_one a b (y ∷ w) rest e = absurd (tail_of (cc))
  where
    tail_of : [] ≡ w ++ a ∷ rest → ⊥
    tail_of h = not_empty a w rest h

pub to_end : (us : List Action) → us ≡ us ++ []
to_end [] = refl
to_end (a ∷ us) = ap (λ (l : List Action). a ∷ l) (to_end us)

one_more : (us : List Action) (n y : ℕ) → AllEnd us → AllEnd (us ++ does n (Dead y) ∷ [])
one_more [] n y h = (tt, tt)
one_more (a ∷ us) n y h = (h.0, one_more us n y h.1)

-- ---- a variable is not there behind a part that it ends with

abbrev IsPast : Out → Type 0
IsPast walk.stopped = ⊥
IsPast _ = Unit {0}

left_past : {l : ℕ} {o p : Out} → Left l o p → IsPast p → IsPast o
left_past (by_break e) h = tt
left_past (by_outer_break d) h = tt
left_past (by_outer_continue d) h = tt
left_past by_return h = tt
left_past by_stop h = absurd h

passed_past : {l : ℕ} {o : Out} → Passed l o → IsPast o
passed_past by_end = tt
passed_past (by_continue e) = tt

pub still : (g k b : Bool) → g ≡ false → b ≡ false → (g || (not k && b)) ≡ false
still true k b d e = d
still false true b d e = refl
still false false b d e = e

dead_last : (x n : ℕ) (us : List Action) (b : Bool) → after (standing x []) (us ++ does n (Dead x) ∷ []) b ≡ false
dead_last x n us b =
    after_append (standing x []) us (does n (Dead x) ∷ []) b ∙ ap (λ (z : Bool). not (z && true) && after (standing x []) us b) ((Decides-eqb x x).1 refl)

other_dead : (x n y : ℕ) (us : List Action) (b : Bool) → after (standing x []) us b ≡ false → after (standing x []) (us ++ does n (Dead y) ∷ []) b ≡ false
other_dead x n y us b e = after_append (standing x []) us (does n (Dead y) ∷ []) b ∙ still false (y == x && true) (after (standing x []) us b) refl e

dead_there : {x n : ℕ} {s : Order} {us : List Action} {o : Out} → Walk (order.ending n x s) us o → IsPast o → (b : Bool) → after (standing x []) us b ≡ false
dead_there walk.rests p b = absurd p
dead_there (walk.stops h) p b = absurd p
dead_there {x = x} (walk.ends {n = n} {us = us} h) p b = dead_last x n us b
dead_there {x = x} (walk.jumps {us = us} {j = j} h) p b = dead_last x (exit_node j) us b
dead_there (walk.halts h) p b = absurd p

act_goes_on : {a : Action} {us : List Action} {o : Out} → Walk (order.act a) us o → IsAway o → IsPast o → ⊥
act_goes_on walk.rests a p = p
act_goes_on (walk.stops h) a p = p
act_goes_on walk.acts a p = a

not_there : {x : ℕ} {s : Order} {us : List Action} {o : Out} → Walk s us o → Ends x s → IsPast o → (b : Bool) → b ≡ false → after (standing x []) us b ≡ false
not_there walk.rests c p b e = absurd p
not_there (walk.stops h) c p b e = absurd p
not_there walk.nothing e_nothing p b e = e
not_there {x = x} (walk.acts {a = a}) (e_act g) p b e = still (regains x [] a.act) (loses x [] a.act) b g e
not_there {x = x} (walk.both {us = us} {vs = vs} h k) (e_then c d) p b e =
    after_append (standing x []) us vs b ∙ not_there k d p (after (standing x []) us b) (not_there h c tt b e)
not_there (walk.first a h) (e_then c d) p b e = not_there h c p b e
not_there {x = x} (walk.both {us = us} {vs = vs} h k) begun p b e = after_append (standing x []) us vs b ∙ dead_there k p (after (standing x []) us b)
not_there (walk.first a h) begun p b e = absurd (act_goes_on h a p)
not_there (walk.one h) (e_or c d) p b e = not_there h c p b e
not_there (walk.other h) (e_or c d) p b e = not_there h d p b e
not_there walk.leave e_leave p b e = e
not_there walk.fail e_fail p b e = e
not_there (walk.holds a h) (e_otherwise c d) p b e = not_there h c p b e
not_there {x = x} (walk.next {us = us} {vs = vs} h k) (e_otherwise c d) p b e =
    after_append (standing x []) us vs b ∙ not_there k d p (after (standing x []) us b) (not_there h c tt b e)
not_there {x = x} (walk.ends {n = n} {us = us} h) in_scope p b e = dead_last x n us b
not_there {x = x} (walk.ends {n = n} {x = y} {us = us} h) (e_ending c) p b e = other_dead x n y us b (not_there h c tt b e)
not_there {x = x} (walk.jumps {us = us} {j = j} h) in_scope p b e = dead_last x (exit_node j) us b
not_there {x = x} (walk.jumps {x = y} {us = us} {j = j} h) (e_ending c) p b e = other_dead x (exit_node j) y us b (not_there h c tt b e)
not_there (walk.halts h) c p b e = absurd p
not_there (walk.last h g) (e_passes c) p b e = not_there h c (left_past g p) b e
not_there {x = x} (walk.more {us = us} {vs = vs} h g k) (e_passes c) p b e =
    after_append (standing x []) us vs b ∙ not_there k (e_passes c) p (after (standing x []) us b) (not_there h c (passed_past g) b e)

-- ---- behind the mark

data Jumped (l : ℕ) : Out → Type 0 where
  away : {j : Exit} → IsOf l j → Jumped l (walk.leaves j)
  halted : Jumped l walk.stopped

not_on : {A : Type 0} {l : ℕ} → Jumped l walk.on → A
not_on g = elim g [ ]

not_failed : {A : Type 0} {l : ℕ} → Jumped l walk.fails → A
not_failed g = elim g [ ]

not_passed : {A : Type 0} {l k : ℕ} {o : Out} → (k ≡ l → ⊥) → Jumped l o → Passed k o → A
not_passed d (away i) (by_continue q) = absurd (d (sym q ∙ i))
not_passed d halted p = elim p [ ]

left_gone : {l k : ℕ} {o p : Out} → (k ≡ l → ⊥) → Jumped l o → Left k o p → Jumped l p
left_gone d (away i) (by_break q) = absurd (d (sym q ∙ i))
left_gone d (away i) (by_outer_break q) = away i
left_gone d (away i) (by_outer_continue q) = away i
left_gone d (away i) by_return = absurd i
left_gone d halted by_stop = halted

record Quiet (l : ℕ) (rest : List Action) (o : Out) : Type 0 where
  pub all_end : AllEnd rest
  pub gone : Jumped l o

stopped_short : {l : ℕ} {rest : List Action} {o : Out} → Quiet l rest o → Quiet l rest walk.stopped
stopped_short z = record { all_end = z.all_end; gone = halted }

module _ (m : Action) (l : ℕ) (mark : is_mark m.act ≡ true) where
  not_dead : (n y : ℕ) → does n (Dead y) ≡ m → ⊥
  not_dead n y e = clash (ap (λ (a : Action). is_mark a.act) e ∙ mark)
    where
      clash : false ≡ true → ⊥
      clash f = cc

  none_done : {us : List Action} {o : Out} → Walk order.nothing us o → us ≡ []
  none_done walk.rests = refl
  none_done (walk.stops h) = none_done h
  none_done walk.nothing = refl

  one_done : {us : List Action} {o : Out} → Walk (order.act m) us o → (us ≡ []) ⊎ (us ≡ m ∷ [])
  one_done walk.rests = inl refl
  one_done (walk.stops h) = one_done h
  one_done walk.acts = inr refl

  abbrev Marks : Order
  Marks = order.then order.nothing (order.act m)

  marks_done : {us : List Action} {o : Out} → Walk Marks us o → (us ≡ []) ⊎ (us ≡ m ∷ [])
  marks_done walk.rests = inl refl
  marks_done (walk.stops h) = marks_done h
  marks_done (walk.both {us = us} {vs = vs} h k) = by (one_done k)
    where
      by : (vs ≡ []) ⊎ (vs ≡ m ∷ []) → (us ++ vs ≡ []) ⊎ (us ++ vs ≡ m ∷ [])
      by (inl e) = inl (ap (λ (z : List Action). z ++ vs) (none_done h) ∙ e)
      by (inr e) = inr (ap (λ (z : List Action). z ++ vs) (none_done h) ∙ e)
  marks_done (walk.first a h) = inl (none_done h)

  none_gone : {us : List Action} {o : Out} → Walk order.nothing us o → IsAway o → Jumped l o
  none_gone walk.rests a = halted
  none_gone (walk.stops h) a = halted
  none_gone walk.nothing a = absurd a

  one_gone : {us : List Action} {o : Out} → Walk (order.act m) us o → IsAway o → Jumped l o
  one_gone walk.rests a = halted
  one_gone (walk.stops h) a = halted
  one_gone walk.acts a = absurd a

  marks_gone : {us : List Action} {o : Out} → Walk Marks us o → IsAway o → Jumped l o
  marks_gone walk.rests a = halted
  marks_gone (walk.stops h) a = halted
  marks_gone (walk.both h k) a = one_gone k a
  marks_gone (walk.first b h) a = none_gone h a

  jump_done : {j : Exit} {us : List Action} {o : Out} → Walk (order.leave j) us o → us ≡ []
  jump_done walk.rests = refl
  jump_done (walk.stops h) = jump_done h
  jump_done walk.leave = refl

  jump_gone : {j : Exit} {us : List Action} {o : Out} → IsOf l j → Walk (order.leave j) us o → Jumped l o
  jump_gone i walk.rests = halted
  jump_gone i (walk.stops h) = halted
  jump_gone i walk.leave = away i

  none_behind : (us w rest : List Action) → (us ≡ []) ⊎ (us ≡ m ∷ []) → us ≡ w ++ m ∷ rest → AllEnd rest
  none_behind us w rest (inl d) e = absurd (not_empty m w rest (sym d ∙ e))
  none_behind us w rest (inr d) e = subst AllEnd (sym (only_one m m w rest (sym d ∙ e)).1) tt

  at_jump : {j : Exit} {us : List Action} {o : Out} → IsOf l j → Walk (order.then Marks (order.leave j)) us o → (w rest : List Action) → us ≡ w ++ m ∷ rest → Quiet l rest o
  at_jump i walk.rests w rest e = absurd (not_empty m w rest e)
  at_jump i (walk.stops h) w rest e = stopped_short (at_jump i h w rest e)
  at_jump i (walk.both {us = us} {vs = vs} h k) w rest e = record {
    all_end = none_behind us w rest (marks_done h) (to_end us ∙ ap (λ (z : List Action). us ++ z) (sym (jump_done k)) ∙ e);
    gone = jump_gone i k;
  }
  at_jump i (walk.first {us = us} a h) w rest e = record { all_end = none_behind us w rest (marks_done h) e; gone = marks_gone h a }

  behind_first : {o p : Out} (us vs w rest : List Action) → (Jumped l o → ⊥) → Cut m us vs w rest → ((r : List Action) → us ≡ w ++ m ∷ r → Quiet l r o) → ((k : List Action) → vs ≡ k ++ m ∷ rest → Quiet l rest p) → Quiet l rest p
  behind_first us vs w rest n (inl (r, q, g)) f k = absurd (n (f r q).gone)
  behind_first us vs w rest n (inr (y, q, g)) f k = k y g

  among_them : (w rest : List Action) → Among m (w ++ m ∷ rest)
  among_them [] rest = here
  among_them (a ∷ w) rest = there (among_them w rest)

  mark_lasts : (a : Act) → is_mark a ≡ true → EndsVariable a → ⊥
  mark_lasts (Dead y) e d = cc
  mark_lasts (Declare y) e d = d
  mark_lasts (Read v p t) e d = d
  mark_lasts (Write p t ss) e d = d
  mark_lasts (Borrow v p t) e d = d
  mark_lasts (Test p c) e d = d
  mark_lasts (Call f ts t) e d = d
  mark_lasts (Build w js ts t) e d = d
  mark_lasts (Input t) e d = d
  mark_lasts (Print t) e d = d
  mark_lasts (Give t) e d = d

  -- a part that has not the action has no walk that holds it
  free_walk : {s : Order} {us : List Action} {o : Out} → Walk s us o → HasNot m s → (w rest : List Action) → us ≡ w ++ m ∷ rest → ⊥
  free_walk {s = s} h f w rest e = by (held h m (subst (λ (z : List Action). Among m z) (sym e) (among_them w rest)))
    where
      by : Among m (actions_in s) ⊎ EndsVariable m.act → ⊥
      by (inl i) = f m i refl
      by (inr d) = mark_lasts m.act mark d

  leaving_it : {s : Order} {us : List Action} {o : Out} → Walk s us o → Leaving m l s → (w rest : List Action) → us ≡ w ++ m ∷ rest → Quiet l rest o
  leaving_it h (l_jump i) w rest e = at_jump i h w rest e
  leaving_it h (l_free f) w rest e = absurd (free_walk h f w rest e)
  leaving_it walk.rests c w rest e = absurd (not_empty m w rest e)
  leaving_it (walk.stops h) c w rest e = stopped_short (leaving_it h c w rest e)
  leaving_it walk.nothing l_nothing w rest e = absurd (not_empty m w rest e)
  leaving_it (walk.acts {a = a}) (l_act g) w rest e = absurd (g (only_one m a w rest e).0)
  leaving_it (walk.both {us = us} {vs = vs} h k) (l_then c d) w rest e =
      behind_first us vs w rest (λ g. not_on g) (cut m us vs w rest e) (λ r q. leaving_it h c w r q) (λ n q. leaving_it k d n rest q)
  leaving_it (walk.first a h) (l_then c d) w rest e = leaving_it h c w rest e
  leaving_it (walk.one h) (l_or c d) w rest e = leaving_it h c w rest e
  leaving_it (walk.other h) (l_or c d) w rest e = leaving_it h d w rest e
  leaving_it walk.leave l_leave w rest e = absurd (not_empty m w rest e)
  leaving_it walk.fail l_fail w rest e = absurd (not_empty m w rest e)
  leaving_it (walk.holds a h) (l_otherwise c d) w rest e = leaving_it h c w rest e
  leaving_it (walk.next {us = us} {vs = vs} h k) (l_otherwise c d) w rest e =
      behind_first us vs w rest (λ g. not_failed g) (cut m us vs w rest e) (λ r q. leaving_it h c w r q) (λ n q. leaving_it k d n rest q)
  leaving_it (walk.ends {n = n} {x = y} {us = us} h) (l_ending c) w rest e =
      behind_first us (does n (Dead y) ∷ []) w rest (λ g. not_on g) (cut m us (does n (Dead y) ∷ []) w rest e) (λ r q. leaving_it h c w r q)
      (λ k q. absurd (not_dead n y (only_one m (does n (Dead y)) k rest q).0))
  leaving_it (walk.jumps {x = y} {us = us} {j = j} h) (l_ending c) w rest e =
      by (cut m us (does (exit_node j) (Dead y) ∷ []) w rest e) (λ r q. leaving_it h c w r q)
    where
      by : Cut m us (does (exit_node j) (Dead y) ∷ []) w rest → ((r : List Action) → us ≡ w ++ m ∷ r → Quiet l r (walk.leaves j)) → Quiet l rest (walk.leaves j)
      by (inl (r, q, g)) f = let z = f r q in record { all_end = subst AllEnd (sym g) (one_more r (exit_node j) y z.all_end); gone = z.gone }
      by (inr (n, q, g)) f = absurd (not_dead (exit_node j) y (only_one m (does (exit_node j) (Dead y)) n rest g).0)
  leaving_it (walk.halts h) (l_ending c) w rest e = leaving_it h c w rest e
  leaving_it (walk.last h g) (l_passes d c) w rest e = let z = leaving_it h c w rest e in record { all_end = z.all_end; gone = left_gone d z.gone g }
  leaving_it (walk.more {us = us} {vs = vs} h g k) (l_passes d c) w rest e =
      behind_first us vs w rest (λ z. not_passed d z g) (cut m us vs w rest e) (λ r q. leaving_it h c w r q) (λ n q. leaving_it k (l_passes d c) n rest q)

  -- ---- round the loop

  module _ (x : ℕ) where
    record Found (b : Bool) (front rest : List Action) (o : Out) : Type 0 where
      pub ending : List Action
      pub others : List Action
      pub whole : rest ≡ ending ++ others
      pub all_end : AllEnd ending
      pub lost : ((others ≡ []) × IsStopped o) ⊎ (after (standing x []) (front ++ m ∷ ending) b ≡ false)

    -- where a list goes on behind a walk that has not stopped
    goes_on : {o p : Out} (b : Bool) (w r vs rest : List Action) → (IsStopped o → ⊥) → rest ≡ r ++ vs → Found b w r o → Found b w rest p
    goes_on {o = o} {p = p} b w r vs rest n q z = record {
      ending = z.ending;
      others = z.others ++ vs;
      whole = q ∙ ap (λ (u : List Action). u ++ vs) z.whole ∙ append_assoc z.ending z.others vs;
      all_end = z.all_end;
      lost = by z.lost;
    }
      where
        by : ((z.others ≡ []) × IsStopped o) ⊎ (after (standing x []) (w ++ m ∷ z.ending) b ≡ false) → ((z.others ++ vs ≡ []) × IsStopped p) ⊎ (after (standing x []) (w ++ m ∷ z.ending) b ≡ false)
        by (inl s) = absurd (n s.1)
        by (inr e) = inr e

    -- behind actions in front
    shifted : {o : Out} (b : Bool) (w us k rest : List Action) → w ≡ us ++ k → Found (after (standing x []) us b) k rest o → Found b w rest o
    shifted {o = o} b w us k rest q z = record { ending = z.ending; others = z.others; whole = z.whole; all_end = z.all_end; lost = by z.lost }
      where
        by : ((z.others ≡ []) × IsStopped o) ⊎ (after (standing x []) (k ++ m ∷ z.ending) (after (standing x []) us b) ≡ false) → ((z.others ≡ []) × IsStopped o) ⊎ (after (standing x []) (w ++ m ∷ z.ending) b ≡ false)
        by (inl s) = inl s
        by (inr e) = inr (
            ap (λ (u : List Action). after (standing x []) (u ++ m ∷ z.ending) b) q ∙ ap (λ (u : List Action). after (standing x []) u b) (append_assoc us k (m ∷ z.ending))
            ∙ after_append (standing x []) us (k ++ m ∷ z.ending) b ∙ e
            )

    by_cut : {o p : Out} (b : Bool) (us vs w rest : List Action) → (IsStopped o → ⊥) → Cut m us vs w rest → ((r : List Action) → us ≡ w ++ m ∷ r → Found b w r o)
        → ((k : List Action) → vs ≡ k ++ m ∷ rest → Found (after (standing x []) us b) k rest p) → Found b w rest p
    by_cut b us vs w rest n (inl (r, q, g)) f k = goes_on b w r vs rest n g (f r q)
    by_cut b us vs w rest n (inr (y, q, g)) f k = shifted b w us y rest q (k y g)

    left_stopped : {k : ℕ} {o p : Out} → Left k o p → IsStopped o → IsStopped p
    left_stopped (by_break e) h = absurd h
    left_stopped (by_outer_break d) h = absurd h
    left_stopped (by_outer_continue d) h = absurd h
    left_stopped by_return h = absurd h
    left_stopped by_stop h = tt

    not_stopped : {k : ℕ} {o : Out} → Passed k o → IsStopped o → ⊥
    not_stopped by_end h = h
    not_stopped (by_continue e) h = h

    past_or_stopped : {k : ℕ} {o p : Out} → Jumped l o → Left k o p → IsPast o ⊎ IsStopped p
    past_or_stopped (away i) g = inl tt
    past_or_stopped halted by_stop = inr tt

    inside_it : {s : Order} {us : List Action} {o : Out} → Walk s us o → Inside x m l s → (b : Bool) → b ≡ false → (w rest : List Action) → us ≡ w ++ m ∷ rest → Found b w rest o
    inside_it h (i_free f) b q w rest e = absurd (free_walk h f w rest e)
    inside_it walk.rests c b q w rest e = absurd (not_empty m w rest e)
    inside_it (walk.stops h) c b q w rest e = cut_short (inside_it h c b q w rest e)
      where
        cut_short : {o : Out} → Found b w rest o → Found b w rest walk.stopped
        cut_short {o = o} z = by o z.lost
          where
            by : (o : Out) → ((z.others ≡ []) × IsStopped o) ⊎ (after (standing x []) (w ++ m ∷ z.ending) b ≡ false) → Found b w rest walk.stopped
            by o (inl s) = record { ending = z.ending; others = z.others; whole = z.whole; all_end = z.all_end; lost = inl (s.0, tt) }
            by o (inr g) = record { ending = z.ending; others = z.others; whole = z.whole; all_end = z.all_end; lost = inr g }
    inside_it walk.nothing i_nothing b q w rest e = absurd (not_empty m w rest e)
    inside_it (walk.acts {a = a}) (i_act g) b q w rest e = absurd (g (only_one m a w rest e).0)
    inside_it (walk.both {us = us} {vs = vs} h k) (i_then d c f) b q w rest e =
        by_cut b us vs w rest (λ s. s) (cut m us vs w rest e) (λ r g. inside_it h c b q w r g) (λ n g. inside_it k f (after (standing x []) us b) (not_there h d tt b q) n rest g)
    inside_it (walk.first a h) (i_then d c f) b q w rest e = inside_it h c b q w rest e
    inside_it (walk.one h) (i_or c d) b q w rest e = inside_it h c b q w rest e
    inside_it (walk.other h) (i_or c d) b q w rest e = inside_it h d b q w rest e
    inside_it walk.leave i_leave b q w rest e = absurd (not_empty m w rest e)
    inside_it walk.fail i_fail b q w rest e = absurd (not_empty m w rest e)
    inside_it (walk.holds a h) (i_otherwise d c f) b q w rest e = inside_it h c b q w rest e
    inside_it (walk.next {us = us} {vs = vs} h k) (i_otherwise d c f) b q w rest e =
        by_cut b us vs w rest (λ s. s) (cut m us vs w rest e) (λ r g. inside_it h c b q w r g) (λ n g. inside_it k f (after (standing x []) us b) (not_there h d tt b q) n rest g)
    inside_it (walk.ends {n = n} {x = y} {us = us} h) (i_ending c) b q w rest e =
        by_cut b us (does n (Dead y) ∷ []) w rest (λ s. s) (cut m us (does n (Dead y) ∷ []) w rest e) (λ r g. inside_it h c b q w r g)
        (λ k g. absurd (not_dead n y (only_one m (does n (Dead y)) k rest g).0))
    inside_it (walk.jumps {x = y} {us = us} {j = j} h) (i_ending c) b q w rest e =
        by_cut b us (does (exit_node j) (Dead y) ∷ []) w rest (λ s. s) (cut m us (does (exit_node j) (Dead y) ∷ []) w rest e) (λ r g. inside_it h c b q w r g)
        (λ k g. absurd (not_dead (exit_node j) y (only_one m (does (exit_node j) (Dead y)) k rest g).0))
    inside_it (walk.halts h) (i_ending c) b q w rest e = inside_it h c b q w rest e
    inside_it {o = p} (walk.last {us = us} h g) (i_loop d c) b q w rest e = let z = leaving_it h c w rest e in by z.all_end (past_or_stopped z.gone g) (λ t. not_there h d t b q)
      where
        by : {A : Type 0} → AllEnd rest → A ⊎ IsStopped p → (A → after (standing x []) us b ≡ false) → Found b w rest p
        by k (inl t) f = record { ending = rest; others = []; whole = to_end rest; all_end = k; lost = inr (subst (λ (u : List Action). after (standing x []) u b ≡ false) e (f t)) }
        by k (inr t) f = record { ending = rest; others = []; whole = to_end rest; all_end = k; lost = inl (refl, t) }
    inside_it {o = p} (walk.last {o = o} h g) (i_passes d c) b q w rest e = of_pass (inside_it h c b q w rest e)
      where
        of_pass : Found b w rest o → Found b w rest p
        of_pass z = by z.lost
          where
            by : ((z.others ≡ []) × IsStopped o) ⊎ (after (standing x []) (w ++ m ∷ z.ending) b ≡ false) → Found b w rest p
            by (inl s) = record { ending = z.ending; others = z.others; whole = z.whole; all_end = z.all_end; lost = inl (s.0, left_stopped g s.1) }
            by (inr f) = record { ending = z.ending; others = z.others; whole = z.whole; all_end = z.all_end; lost = inr f }
    inside_it {o = p} (walk.more {us = us} {vs = vs} h g k) (i_loop d c) b q w rest e =
        let lost = not_there h d (passed_past g) b q in
        by lost (cut m us vs w rest e) (λ r f. (leaving_it h c w r f).all_end) (λ n f. inside_it k (i_loop d c) (after (standing x []) us b) lost n rest f)
      where
        by : after (standing x []) us b ≡ false → Cut m us vs w rest → ((r : List Action) → us ≡ w ++ m ∷ r → AllEnd r) → ((n : List Action) → vs ≡ n ++ m ∷ rest → Found (after (standing x []) us b) n rest p) → Found b w rest p
        by lost (inl (r, f, y)) ended later = record { ending = r; others = vs; whole = y; all_end = ended r f; lost = inr (subst (λ (u : List Action). after (standing x []) u b ≡ false) f lost) }
        by lost (inr (n, f, y)) ended later = shifted b w us n rest f (later n y)
    inside_it (walk.more {us = us} {vs = vs} h g k) (i_passes d c) b q w rest e =
        by_cut b us vs w rest (not_stopped g) (cut m us vs w rest e) (λ r f. inside_it h c b q w r f)
        (λ n f. inside_it k (i_passes d c) (after (standing x []) us b) (not_there h d (passed_past g) b q) n rest f)

pub ends_behind : (x : ℕ) (m : Action) (l : ℕ) (mark : is_mark m.act ≡ true) {s : Order} {us : List Action} {o : Out} → Walk s us o → Inside x m l s → (front rest : List Action) → us ≡ front ++ m ∷ rest → EndsBehind x m front rest o
ends_behind x m l mark h i front rest e =
    let z = inside_it m l mark x h i false refl front rest e in
    record { ending = z.ending; others = z.others; whole = z.whole; all_end = z.all_end; lost = z.lost }
