-- What holds of histories of the marked function holds of those of the one that runs as the function does: its walks are walks of the marked
-- function, but for the marks behind what is returned, which set, use and end nothing.
use Rattle.std.proofs.Common.{◌≡◌, ◌≢◌, inl, inr, ℕ, Bool, true, false, not, ◌&&◌, ◌||◌, List, [], ◌∷◌, ◌++◌, refl, sym, ap, ◌∙◌, subst, true≢false, append-nil, append_assoc, arith, Some, slice_get}
use Rattle.rx_typed.specs.Tree.{variable, Temporary, Body, runs, Function, own}
use Rattle.rx_lower_walks.specs.Actions.{Action}
use Rattle.rx_lower_walks.specs.Orders.{order_body, order_function}
use Rattle.rx_lower_walks.specs.Walks.{stopped, Walk, IsWalk, Among}
use Rattle.rx_lower_walks.proofs.WalksFronts.{fronts}
use Rattle.rx_facts_tables.specs.Along.{Switch, behind, after, ahead}
use Rattle.rx_facts_tables.specs.Live.{living}
use Rattle.rx_facts_tables.specs.Setting.{AllSet}
use Rattle.rx_facts_tables.specs.Wholes.{standing}
use Rattle.rx_exits_plan.specs.Points.{Exit, next, breaks, continues, returns, Point, enters, leaves, number}
use Rattle.rx_exits_plan.specs.Marked.{mark, shown}
use Rattle.rx_exits_plan.specs.Asked.{Asked, ComesTo}
use Rattle.rx_exits_plan.specs.Plan.{Plan, IsPlan}
use Rattle.rx_exits_plan.specs.PartlyMoved.{PartlyMoved}
use Rattle.rx_modes_uses.specs.Aliased.{Aliased}
use Rattle.rx_modes_uses.specs.Paths.{OwnPath}
use Rattle.rx_modes_uses.specs.Deeds as deeds
use Rattle.rx_modes_uses.specs.Deeds.{Done}
use Rattle.rx_modes_uses.specs.Outside.{in_function}
use Rattle.rx_meaning_keeping.specs.Ready.{HasPart}
use Rattle.rx_engine_simulation.specs.Histories.{put, Written, Uses, Borrowed, Living}
use Rattle.rx_engine_simulation.specs.Sights.{In}
use Rattle.rx_engine_simulation.specs.Programs as programs
use Rattle.rx_engine_simulation.specs.Programs.{back, IsHistory, Untouched, facts_of}
use Rattle.rx_engine_related.specs.AboutRun.{special_of, about_run, marked_with, text_of}
use Rattle.rx_engine_related.specs.Accepted.{Accepted}
use Rattle.rx_engine_related.specs.Running.{running_of}
use Rattle.rx_engine_related.specs.OnePlace.{LeadsToOnePlace}
use Rattle.rx_engine_related.proofs.Since.{since, after_back, back_put, back_both, next_walk, history_walk, walk_history}
use Rattle.rx_engine_related.proofs.Setting.{stands_written}
use Rattle.rx_engine_related.proofs.Further.{returned, More, no_more, kept, put_in, cut_more, with_returns}
use Rattle.rx_engine_related.proofs.Returning.{running_further}
use Rattle.rx_engine_related.proofs.Nearer.{without_returns, cut_back, ahead_less}
use Rattle.rx_engine_related.proofs.Recombining.{ahead_meets}
use Rattle.rx_engine_related.proofs.Points.{comes_to_mark, shorter, walk_back, stands_at, lost_at}
use Rattle.rx_engine_related.proofs.Living.{living_ahead}
use Rattle.rx_engine_related.proofs.Choosing.{param_named, local_named, out_is, not_live, special_is, offered_named}
use Rattle.rx_engine_related.proofs.Untouched.{borrowed_done, unlent, untouched}
use Rattle.rx_engine_related.proofs.Lasting.{found_standing, lost_not_ahead, ahead_living}
use Rattle.rx_engine_related.proofs.Left.{out_set}
use Rattle.rx_modes_uses.specs.NotMut.{NotMut}

-- ---- lists with such marks

pub put_back : (h r : List Action) → put (back h r) [] ≡ put r h
put_back [] r = refl
put_back (a ∷ h) r = put_back h (a ∷ r)

more_put : {us vs g k : List Action} → More us vs → More g k → More (put us g) (put vs k)
more_put no_more m = m
more_put (kept h) m = more_put h (kept m)
more_put (put_in h) m = more_put h (put_in m)

more_history : (h : List Action) {v : List Action} → More (back h []) v → More h (put v [])
more_history h {v = v} m = subst (λ g. More g (put v [])) (put_back h []) (more_put m no_more)

idle : (g k b : Bool) → g ≡ false → k ≡ false → g || (not k && b) ≡ b
idle false false b e f = refl
idle true k b e f = absurd (true≢false e)
idle false true b e f = absurd (true≢false f)

after_more : (S : Switch) → S.gives returned ≡ false → S.kills returned ≡ false → {us vs : List Action} → More us vs → (b : Bool) → after S vs b ≡ after S us b
after_more S e f no_more b = refl
after_more S e f (kept {a = a} h) b = after_more S e f h (behind S a b)
after_more S e f (put_in {us = us} {vs = vs} h) b = ap (λ c. after S vs c) (idle (S.gives returned) (S.kills returned) b e f) ∙ after_more S e f h b

ahead_more : (x : ℕ) {us vs : List Action} → More us vs → ahead (living (variable x)) us ≡ true → ahead (living (variable x)) vs ≡ true
ahead_more x no_more e = e
ahead_more x (kept {a = a} {us = us} {vs = vs} h) e = by ((living (variable x)).gives a) ((living (variable x)).kills a) (ahead (living (variable x)) us) (ahead (living (variable x)) vs) (λ q. ahead_more x h q) e
  where
    by : (g k s t : Bool) → (s ≡ true → t ≡ true) → g || (not k && s) ≡ true → g || (not k && t) ≡ true
    by true k s t f e = refl
    by false true s t f e = absurd (true≢false (sym e))
    by false false s t f e = f e
ahead_more x (put_in h) e = ahead_more x h e

borrowed_more : (x : ℕ) {h k : List Action} → More h k → Borrowed h x → Borrowed k x
borrowed_more x no_more b = b
borrowed_more x (kept h) (inl b) = inl b
borrowed_more x (kept h) (inr b) = inr (b.0, borrowed_more x h b.1)
borrowed_more x (put_in h) b = inr ((λ d. d), borrowed_more x h b)

-- a list that is cut anywhere
record Parted (us vs l : List Action) : Type 0 where
  pub front : List Action
  pub rest : List Action
  pub is : l ≡ front ++ rest
  pub in_front : More us front
  pub behind : More vs rest

parted : (us vs : List Action) {l m : List Action} → m ≡ us ++ vs → More m l → Parted us vs l
parted [] vs {l = l} e h = record { front = []; rest = l; is = refl; in_front = no_more; behind = subst (λ q. More q l) e h }
parted (u ∷ us) vs e no_more = absurd (cc)
parted (u ∷ us) vs e (kept {a = b} {vs = l} h) =
    let z = parted us vs (cc) h in
    let f : b ≡ u = cc in
    record { front = u ∷ z.front; rest = z.rest; is = ap (λ c. c ∷ l) f ∙ ap (λ q. u ∷ q) z.is; in_front = kept z.in_front; behind = z.behind }
parted (u ∷ us) vs e (put_in {vs = l} h) = let z = parted (u ∷ us) vs e h in record { front = returned ∷ z.front; rest = z.rest; is = ap (λ q. returned ∷ q) z.is; in_front = put_in z.in_front; behind = z.behind }

-- ---- walks

module _ (A : Asked) (short : A.run.tail ≡ false) (xs : List ℕ) where
  in_marked : (u : List Action) → IsWalk (running_of A xs) u → (v : List Action) × IsWalk (marked_with A xs) v × More u v
  in_marked u (rest, o, h) =
      let z = with_returns (running_further A.run A.home.around.loops xs short A.function) (fronts h u rest refl) in
      (z.list, ([], stopped, subst (λ l. Walk (order_function (marked_with A xs)) l stopped) (sym (append-nil z.list)) z.walk), z.more)

  -- a history with a newest action
  record There (a : Action) (h : List Action) : Type 0 where
    pub front : List Action
    pub history : IsHistory (marked_with A xs) (a ∷ put front [])
    pub more : More (back h []) front

  there : (a : Action) (h : List Action) → IsHistory (running_of A xs) (a ∷ h) → There a h
  there a h k =
      let z = in_marked (back h [] ++ a ∷ []) (next_walk (running_of A xs) a h k) in
      let c = cut_more (back h []) a [] refl z.2 in
      let w : IsWalk (marked_with A xs) ((c.front ++ a ∷ []) ++ c.rest) = subst (λ l. IsWalk (marked_with A xs) l) (c.is ∙ sym (append_assoc c.front (a ∷ []) c.rest)) z.1 in
      record {
        front = c.front;
        history = walk_history (marked_with A xs) (a ∷ put c.front []) (subst (λ l. IsWalk (marked_with A xs) l) (sym (back_put c.front [] (a ∷ []))) (shorter (marked_with A xs) (c.front ++ a ∷ []) c.rest w));
        more = c.in_front;
      }

  -- what a history of the text lends, one of the marked function does that goes on alike
  pub running_lent_there : (x : ℕ) (a : Action) (h : List Action) → IsHistory (running_of A xs) (a ∷ h) → Borrowed h x → (g : List Action) × IsHistory (marked_with A xs) (a ∷ g) × Borrowed g x
  running_lent_there x a h q b = let z = there a h q in (put z.front [], z.history, borrowed_more x (more_history h z.more) b)

  -- some action of the function lends what a history of the text lends
  pub running_lent : (muts : List Bool) → Accepted A muts → (x : ℕ) (h : List Action) → IsHistory (running_of A xs) h → Borrowed h x → Done deeds.borrowed (OwnPath x) (in_function A)
  running_lent muts acc x h q b =
      let z = in_marked (back h []) (history_walk (running_of A xs) h q) in
      borrowed_done A muts acc xs x (put z.0 []) (walk_history (marked_with A xs) (put z.0 []) (subst (λ l. IsWalk (marked_with A xs) l) (sym (walk_back z.0)) z.1)) (borrowed_more x (more_history h z.2) b)

  same_since : (S : Switch) → S.gives returned ≡ false → S.kills returned ≡ false → (h v : List Action) → More (back h []) v → since S (put v []) ≡ since S h
  same_since S e f h v m = sym (after_back S (put v []) []) ∙ ap (λ l. after S l false) (walk_back v) ∙ after_more S e f m false ∙ after_back S h []

  -- ---- at points

  module _ (muts : List Bool) (acc : Accepted A muts) where
    stands_running : (p : Point) (x : ℕ) → HasPart A.frame x [] → ((w : List Action) → ComesTo A p w → AllSet A.frame w (own x)) → (h : List Action) → IsHistory (running_of A xs) (shown p ∷ h) → since (standing x []) h ≡ true
    stands_running p x has set h k = let z = there (shown p) h k in sym (same_since (standing x []) refl refl h z.front z.more) ∙ stands_at A muts acc xs p x has set (put z.front []) z.history

    pub running_written : (p : Point) (x : ℕ) → HasPart A.frame x [] → ((w : List Action) → ComesTo A p w → AllSet A.frame w (own x)) → (h : List Action) → IsHistory (running_of A xs) (shown p ∷ h) → Written h x
    running_written p x has set h k = stands_written x h (stands_running p x has set h k)

    module _ (k : Plan) (p : IsPlan A k) where
      pub running_param_written : (x : ℕ) → Among x k.params → (b : Body) (i : ℕ) (t : Temporary) (h : List Action) → programs.ComesTo (running_of A xs) (order_body (runs (mark enters) b) i t) h → Written h x
      running_param_written x m b i t h c =
          let z = param_named A k p x m in
          running_written enters x (acc.named x z.0) z.1 h (comes_to_mark (running_of A xs) enters b i t h c)

      pub running_out_written : (e : Exit) (x : ℕ) → ¬ (PartlyMoved A k x) → Among e k.exits → Among x (k.outs e) → (h : List Action) → IsHistory (running_of A xs) (shown (leaves e) ∷ h) → Written h x
      running_out_written e x whole i o h c = running_written (leaves e) x (acc.named x (offered_named A k p x (out_is A k p e i x o).0)) (λ w q. out_set A k e x whole i o w q) h c

not_returned : (e : Exit) → shown (leaves e) ≡ returned → e ≡ returns
not_returned next q = let n = ap (λ (a : Action). a.node) q in absurd (cc)
not_returned (breaks l) q = let n : number (leaves (breaks l)) ≡ 2 = ap (λ (a : Action). a.node) q in absurd (omega (arith, n))
not_returned (continues l) q = let n : number (leaves (continues l)) ≡ 2 = ap (λ (a : Action). a.node) q in absurd (omega (arith, n))
not_returned returns q = refl

-- ---- of a plan

module _ (A : Asked) (short : A.run.tail ≡ false) (k : Plan) (p : IsPlan A k) where
  abbrev text : Function
  text = running_of A k.params

  -- behind an exit's mark
  pub running_others_dead : (muts : List Bool) → ((y : ℕ) → ¬ (NotMut A muts k y)) → (u : Untouched text (about_run A muts k)) (e : Exit) (x : ℕ) → Among e k.exits → e ≢ returns → In x (special_of A muts k) → (Among x (k.outs e) → ⊥)
      → (h : List Action) → Living (facts_of text (about_run A muts k) u) x (shown (leaves e) ∷ h) → ⊥
  running_others_dead muts passed u e x i n s none h l =
      let z = living_ahead text (special_of A muts k) u x (shown (leaves e) ∷ h) l in
      let w = in_marked A short k.params (back h (shown (leaves e) ∷ z.list)) z.walk in
      let c = cut_more (back h []) (shown (leaves e)) z.list (back_both h (shown (leaves e) ∷ z.list)) w.2 in
      not_live A muts k p passed e i n x (special_is A muts k p x s) none
      (c.front, c.rest, subst (λ l. IsWalk (text_of A k) l) c.is w.1, ahead_more x c.behind z.live)

  module _ (muts : List Bool) (acc : Accepted A muts) where
    pub running_untouched : ((x : ℕ) → ¬ (Aliased A muts k x)) → Untouched text (about_run A muts k)
    running_untouched none a h x i q w b =
        let z = there A short k.params a h q in
        untouched A muts acc k p none k.params a (put z.front []) x i z.history w (borrowed_more x (more_history h z.more) b)

    pub running_unlent : ((x : ℕ) → ¬ (Aliased A muts k x)) → (x : ℕ) → In x (special_of A muts k) → slice_get muts x ≡ Some true → (h : List Action) → IsHistory text h → Borrowed h x → ⊥
    running_unlent none x i m h q b =
        let z = in_marked A short k.params (back h []) (history_walk text h q) in
        unlent A muts acc k p none k.params x i m (put z.0 []) (walk_history (text_of A k) (put z.0 []) (subst (λ l. IsWalk (text_of A k) l) (sym (walk_back z.0)) z.1)) (borrowed_more x (more_history h z.2) b)

    -- a use finds its variable standing
    pub running_found : (x : ℕ) (a : Action) (h : List Action) → IsHistory text (a ∷ h) → Uses a.act x → since (standing x []) h ≡ true
    running_found x a h q u =
        let z = there A short k.params a h q in
        sym (same_since A short k.params (standing x []) refl refl h z.front z.more) ∙ found_standing A muts acc k p x a (put z.front []) z.history u

    pub running_local_dead : (u : Untouched text (about_run A muts k)) (x : ℕ) → Among x k.locals → (b : Body) (i : ℕ) (t : Temporary) (h : List Action)
        → programs.ComesTo text (order_body (runs (mark enters) b) i t) h → Living (facts_of text (about_run A muts k) u) x h → ⊥
    running_local_dead u x m b i t h c l =
        let z = living_ahead text (special_of A muts k) u x h l in
        let q = there A short k.params (shown enters) h (comes_to_mark text enters b i t h c) in
        let e = sym (same_since A short k.params (standing x []) refl refl h q.front q.more) ∙ lost_at A muts acc k.params enters x (put q.front []) q.history (λ w r. (local_named A k p x m).1 w r) in
        let w = in_marked A short k.params (back h z.list) z.walk in
        let y = parted (back h []) z.list (back_both h z.list) w.2 in
        lost_not_ahead (text_of A k) x (λ a h q u. found_standing A muts acc k p x a h q u) y.rest (put y.front []) (subst (λ l. IsWalk (text_of A k) l) (y.is ∙ sym (back_put y.front [] y.rest)) w.1)
        (same_since A short k.params (standing x []) refl refl h y.front y.in_front ∙ e) (ahead_more x y.behind z.live)

    -- what is handed out is living behind the exit's mark, where its marks lead to one place
    pub running_out_living : (u : Untouched text (about_run A muts k)) (e : Exit) (x : ℕ) → e ≢ returns → LeadsToOnePlace text (shown (leaves e)) → Among e k.exits → Among x (k.outs e)
        → (h : List Action) → IsHistory text (shown (leaves e) ∷ h) → Living (facts_of text (about_run A muts k) u) x (shown (leaves e) ∷ h)
    running_out_living u e x n once i o h c =
        let l = (out_is A k p e i x o).1 in
        let z = without_returns (running_further A.run A.home.around.loops k.params short A.function) (fronts l.2.2 (l.0 ++ shown (leaves e) ∷ l.1) l.2.0 refl) in
        let y = cut_back (shown (leaves e)) (λ q. n (not_returned e q)) l.0 l.1 refl z.more in
        let v : IsWalk text (y.front ++ shown (leaves e) ∷ y.behind) = ([], stopped, subst (λ l. Walk (order_function text) l stopped) (y.is ∙ sym (append-nil (y.front ++ shown (leaves e) ∷ y.behind))) z.walk) in
        let w = once y.front (back h []) y.behind v (next_walk text (shown (leaves e)) h c) in
        ahead_living text x (λ a g q r. running_found x a g q r) (special_of A muts k) u w.0 (shown (leaves e) ∷ h) (subst (λ v. IsWalk text v) (sym (back_both h (shown (leaves e) ∷ w.0))) w.2) (ahead_meets x w.1 (ahead_less x y.more l.3))
