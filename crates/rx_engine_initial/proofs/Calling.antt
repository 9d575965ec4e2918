-- Statements in place of others.
use Rattle.std.proofs.Common.{◌≡◌, ℕ, Bool, true, false, List, [], ◌∷◌, ◌++◌, ◌⊎◌, inl, inr, refl, sym, ◌∙◌, subst, ap}
use Rattle.rx_lower_walks.specs.Actions.{Dead, Action, does}
use Rattle.rx_lower_walks.specs.Orders.{Exit, breaks, continues, returns, exit_node, Order}
use Rattle.rx_lower_walks.specs.Orders as order
use Rattle.rx_lower_walks.specs.Walks.{Out, on, leaves, fails, stopped, IsAway, DoesNotFail, Passed, by_end, by_continue, Left, by_break, by_outer_break, by_outer_continue, by_return, by_stop, Walk, rests, stops, nothing, acts, both, first, one, other, leave, fail, holds, next, ends, jumps, halts, last, more}
use Rattle.rx_engine_initial.specs.Tracing.{View, Alike, Traced, copied}
use Rattle.rx_engine_initial.specs.Matching.{World, Hist, Reach, Good, SameExit, both_break, both_continue, both_return, SameOut, both_on, both_leave, both_fail, Comes, cut, gone, whole, Answer, Maps, Keeps, Piece, doing, ending, fill, Runs, done, does_one, begins, Fronts, at_jump, past_end, Aways, Stays, dead, closing, IsCall, Closes}
use Rattle.rx_engine_initial.specs.Matching as matching
use Rattle.rx_engine_initial.proofs.Tracing.{nil_right, joined}
use Rattle.rx_engine_initial.proofs.Mapping.{answer_stops, answer_rests, good_both, good_dead, reach_first, reach_second, hist_joined}

-- ---- walks of pieces

front_of : {K : List Piece} {us : List Action} {j : Exit} → Aways K us j → Fronts K us
front_of (matching.in_one a) = at_jump a
front_of (matching.past_one a h) = matching.past_one a (front_of h)
front_of (matching.past_begin {j = j} h) = past_end (exit_node j) (front_of h)

-- actions that end variables
pub data AllDead : List Action → Type 0 where
  none : AllDead []
  one_more : {us : List Action} (n x : ℕ) → AllDead us → AllDead (us ++ does n (Dead x) ∷ [])

-- a walk of pieces and what follows them: it stopped in them; or it came through, and did what follows, and variables ended
pub data Filled (H : List Piece) (q : Order) : List Action → Out → Type 0 where
  partly : {us : List Action} → Fronts H us → Filled H q us stopped
  short : {us vs ds : List Action} {o : Out} → Runs H us → Walk q vs o → AllDead ds → Filled H q (us ++ (vs ++ ds)) stopped
  away : {us : List Action} {j : Exit} → Aways H us j → Filled H q us (leaves j)
  wholly : {us vs : List Action} {o : Out} → Runs H us → Walk q vs o → Filled H q (us ++ (vs ++ closing H o)) o

closing_one : (n x : ℕ) (o : Out) (us : List Action) → AllDead us → AllDead (us ++ dead n x o)
closing_one n x on us h = one_more n x h
closing_one n x (leaves j) us h = one_more (exit_node j) x h
closing_one n x fails us h = subst AllDead (sym (nil_right us)) h
closing_one n x stopped us h = subst AllDead (sym (nil_right us)) h

closing_dead : (H : List Piece) (o : Out) → AllDead (closing H o)
closing_dead [] o = none
closing_dead (doing s ∷ K) o = closing_dead K o
closing_dead (ending n x ∷ K) o = closing_one n x o (closing K o) (closing_dead K o)

filled_stops : {H : List Piece} {q : Order} {us : List Action} {o : Out} → Filled H q us o → Filled H q us stopped
filled_stops (partly h) = partly h
filled_stops (short r a d) = short r a d
filled_stops (away h) = partly (front_of h)
filled_stops {H = H} (wholly {o = o} r a) = short r a (closing_dead H o)

behind_one : {s : Order} {H : List Piece} {q : Order} {us vs : List Action} {o : Out} → Walk s us on → Filled H q vs o → Filled (doing s ∷ H) q (us ++ vs) o
behind_one a (partly h) = partly (matching.past_one a h)
behind_one a (away h) = away (matching.past_one a h)
behind_one {s = s} {H = H} {q = q} {us = us} a (short {us = u} {vs = v} {ds = d} r b e) = subst (λ l. Filled (doing s ∷ H) q l stopped) (joined us u (v ++ d)) (short (does_one a r) b e)
behind_one {s = s} {H = H} {q = q} {us = us} a (wholly {us = u} {vs = v} {o = o} r b) =
    subst (λ l. Filled (doing s ∷ H) q l o) (joined us u (v ++ closing H o)) (wholly (does_one a r) b)

shift : (us vs ds es : List Action) → us ++ (vs ++ (ds ++ es)) ≡ (us ++ (vs ++ ds)) ++ es
shift us vs ds es = ap (λ l. us ++ l) (sym (joined vs ds es)) ∙ sym (joined us (vs ++ ds) es)

ended_on : {n x : ℕ} {H : List Piece} {q : Order} {us : List Action} → Filled H q us on → Filled (ending n x ∷ H) q (us ++ does n (Dead x) ∷ []) on
ended_on {n = n} {x = x} {H = H} {q = q} (wholly {us = u} {vs = v} r b) =
    subst (λ l. Filled (ending n x ∷ H) q l on) (shift u v (closing H on) (does n (Dead x) ∷ [])) (wholly (begins r) b)

ended_jump : {n x : ℕ} {j : Exit} {H : List Piece} {q : Order} {us : List Action} → Filled H q us (leaves j) → Filled (ending n x ∷ H) q (us ++ does (exit_node j) (Dead x) ∷ []) (leaves j)
ended_jump (away h) = away (matching.past_begin h)
ended_jump {n = n} {x = x} {j = j} {H = H} {q = q} (wholly {us = u} {vs = v} r b) =
    subst (λ l. Filled (ending n x ∷ H) q l (leaves j)) (shift u v (closing H (leaves j)) (does (exit_node j) (Dead x) ∷ [])) (wholly (begins r) b)

ended_short : {n x : ℕ} {H : List Piece} {q : Order} {us : List Action} → Filled H q us stopped → Filled (ending n x ∷ H) q us stopped
ended_short (partly h) = partly (matching.past_begin h)
ended_short (short r b d) = short (begins r) b d
ended_short {n = n} {x = x} {H = H} {q = q} (wholly {us = u} {vs = v} r b) =
    subst (λ l. Filled (ending n x ∷ H) q (u ++ (v ++ l)) stopped) (nil_right (closing H stopped)) (wholly (begins r) b)

filled_then : (s X : Order) (H : List Piece) (q : Order) → ((us : List Action) → Walk s us fails → ⊥)
    → ((us : List Action) (o : Out) → Walk X us o → Filled H q us o) → (us : List Action) (o : Out) → Walk (order.then s X) us o → Filled (doing s ∷ H) q us o
filled_then s X H q k f vs p rests = partly matching.none
filled_then s X H q k f vs p (stops {o = o} h) = filled_stops (filled_then s X H q k f vs o h)
filled_then s X H q k f vs p (both {vs = v} a b) = behind_one a (f v p b)
filled_then s X H q k f vs p (first e a) = by p e a
  where
    by : (p : Out) → IsAway p → Walk s vs p → Filled (doing s ∷ H) q vs p
    by on e a = elim e [ ]
    by (leaves j) e a = away (matching.in_one a)
    by fails e a = absurd (k vs a)
    by stopped e a = partly (matching.in_one a)

filled_ending : (n x : ℕ) (X : Order) (H : List Piece) (q : Order) → ((us : List Action) (o : Out) → Walk X us o → Filled H q us o)
    → (us : List Action) (o : Out) → Walk (order.ending n x X) us o → Filled (ending n x ∷ H) q us o
filled_ending n x X H q f vs p rests = partly matching.none
filled_ending n x X H q f vs p (stops {o = o} h) = filled_stops (filled_ending n x X H q f vs o h)
filled_ending n x X H q f vs p (ends {us = us} a) = ended_on (f us on a)
filled_ending n x X H q f vs p (jumps {us = us} {j = j} a) = ended_jump (f us (leaves j) a)
filled_ending n x X H q f vs p (halts a) = ended_short (f vs stopped a)

pub filled : (H : List Piece) (q : Order) → Stays H → (us : List Action) (o : Out) → Walk (fill H q) us o → Filled H q us o
filled [] q k us o a = subst (λ l. Filled [] q l o) (nil_right us) (wholly done a)
filled (doing s ∷ H) q k us o a = filled_then s (fill H q) H q k.0 (λ vs p b. filled H q k.1 vs p b) us o a
filled (ending n x ∷ H) q k us o a = filled_ending n x (fill H q) H q (λ vs p b. filled H q k vs p b) us o a

end_one : (n x : ℕ) (s : Order) (us : List Action) (o : Out) → DoesNotFail o → Walk s us o → Walk (order.ending n x s) (us ++ dead n x o) o
end_one n x s us on k a = ends a
end_one n x s us (leaves j) k a = jumps a
end_one n x s us stopped k a = subst (λ l. Walk (order.ending n x s) l stopped) (sym (nil_right us)) (halts a)
end_one n x s us fails k a = elim k [ ]

-- a run, and what follows it
pub refilled : {K : List Piece} {u : List Action} → Runs K u → (r : Order) (v : List Action) (o : Out) → DoesNotFail o → Walk r v o → Walk (fill K r) (u ++ (v ++ closing K o)) o
refilled done r v o k a = subst (λ l. Walk r l o) (sym (nil_right v)) a
refilled (does_one {s = s} {K = K} {us = us} {vs = vs} b c) r v o k a = subst (λ l. Walk (order.then s (fill K r)) l o) (sym (joined us vs (v ++ closing K o))) (both b (refilled c r v o k a))
refilled (begins {n = n} {x = x} {K = K} {us = us} c) r v o k a =
    subst (λ l. Walk (order.ending n x (fill K r)) l o) (sym (shift us v (closing K o) (dead n x o))) (end_one n x (fill K r) (us ++ (v ++ closing K o)) o k (refilled c r v o k a))

reach_rest : (W : World) (Q : Keeps W) (K : List Piece) (r : Order) (w u : List Action) → Reach W (fill K r) w → Runs K u → Reach W r (w ++ u)
reach_rest W Q K r w u k c us o a =
    Q.front ((w ++ u) ++ us) (closing K stopped) (subst W.C (shift w u us (closing K stopped) ∙ ap (λ l. l ++ closing K stopped) (sym (joined w u us))) (k (u ++ (us ++ closing K stopped)) stopped (refilled c r us stopped tt (stops a))))

all_dead_good : (W : World) (Q : Keeps W) (us : List Action) {ds : List Action} → AllDead ds → Good W us ds
all_dead_good W Q us none = tt
all_dead_good W Q us (one_more {us = ds} n x h) = good_dead W Q us ds n x (all_dead_good W Q us h)

pub wider_out : {L M : ℕ → ℕ → Type 0} {o p : Out} → ((l k : ℕ) → L l k → M l k) → SameOut L o p → SameOut M o p
wider_out f both_on = both_on
wider_out f (both_leave (both_break {l = l} {k = k} h)) = both_leave (both_break (f l k h))
wider_out f (both_leave (both_continue {l = l} {k = k} h)) = both_leave (both_continue (f l k h))
wider_out f (both_leave both_return) = both_leave both_return
wider_out f both_fail = both_fail

not_failed : {L : ℕ → ℕ → Type 0} {o p : Out} → SameOut L o p → (o ≡ fails → ⊥) → DoesNotFail p
not_failed both_on h = tt
not_failed (both_leave e) h = tt
not_failed both_fail h = absurd (h refl)

call_short : (W : World) (S : W.Scope) (Q : Keeps W) (H K : List Piece) (q r : Order) (us w u v ds : List Action) (o : Out) → Good W us u → AllDead ds → Answer W S r (us ++ u) w v o → Good W us (u ++ (v ++ ds))
call_short W S Q H K q r us w u v ds o g d z = good_both W us u (v ++ ds) g (good_both W (us ++ u) v ds z.good (all_dead_good W Q ((us ++ u) ++ v) d))

call_comes : (W : World) (R S : W.Scope) (Q : Keeps W) (H K : List Piece) (r : Order) (us w u v ws : List Action) (o : Out) → Closes W R S H K → Runs K ws → (o ≡ fails → ⊥) → Comes W S r (us ++ u) (w ++ ws) v o
    → Comes W R (fill K r) us w (u ++ (v ++ closing H o)) o
call_comes W R S Q H K r us w u v ws o c k n cut = cut
call_comes W R S Q H K r us w u v ws o c k n gone = gone
call_comes W R S Q H K r us w u v ws o c k n (whole p xs e a h) = whole p (ws ++ (xs ++ closing K p)) (wider_out c.loops e) (refilled k r xs p (not_failed e n) a)
    (hist_joined W R us u (v ++ closing H o) w ws (xs ++ closing K p) (hist_joined W R (us ++ u) v (closing H o) (w ++ ws) xs (closing K p) (c.ended ((us ++ u) ++ v) ((w ++ ws) ++ xs) o p e h)))

pub call_maps : (W : World) (R S : W.Scope) (Q : Keeps W) (H K : List Piece) (q r : Order) → IsCall W R S H K q r → Closes W R S H K → Maps W S q r → Maps W R (fill H q) (fill K r)
call_maps W R S Q H K q r c d f us w vs o h k a = by (filled H q c.stays vs o a)
  where
    behind : (u v : List Action) (p : Out) → Runs H u → Walk q v p → (ws : List Action) → Runs K ws → Hist W S (us ++ u) (w ++ ws) → Answer W S r (us ++ u) (w ++ ws) v p
    behind u v p i b ws j l = f (us ++ u) (w ++ ws) v p l (reach_rest W Q K r w ws k j) b

    by : {vs : List Action} {o : Out} → Filled H q vs o → Answer W R (fill K r) us w vs o
    by (partly i) = record { good = c.in_it us w _ h k i; comes = cut }
    by (away {j = j} i) = record { good = c.in_it us w _ h k (front_of i); comes = c.leaves us w _ j h k i }
    by (short {us = u} {vs = v} {ds = ds} {o = p} i b e) = let m = c.runs us w u h k i in
        record { good = call_short W S Q H K q r us (w ++ m.0) u v ds p (c.good us w u h k i) e (behind u v p i b m.0 m.1 m.2); comes = cut }
    by (wholly {us = u} {vs = v} {o = p} i b) = let m = c.runs us w u h k i in let z = behind u v p i b m.0 m.1 m.2 in
        record {
          good = call_short W S Q H K q r us (w ++ m.0) u v (closing H p) p (c.good us w u h k i) (closing_dead H p) z;
          comes = call_comes W R S Q H K r us w u v m.0 p d m.1 (λ e. c.no_fail v (subst (λ o. Walk q v o) e b)) z.comes;
        }
