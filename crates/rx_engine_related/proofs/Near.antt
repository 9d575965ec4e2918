-- What holds of histories of the marked function holds of those of a text each walk of which has one of the marked function beside it.
use Rattle.std.proofs.Common.{◌≡◌, ◌≢◌, ℕ, Bool, true, false, List, [], ◌∷◌, ◌++◌, refl, sym, ap, ◌∙◌, subst, append_assoc, Some, slice_get}
use Rattle.rx_typed.specs.Tree.{Temporary, Body, runs, Function, own}
use Rattle.rx_lower_walks.specs.Actions.{Action}
use Rattle.rx_lower_walks.specs.Orders.{order_body}
use Rattle.rx_lower_walks.specs.Walks.{IsWalk, Among}
use Rattle.rx_facts_tables.specs.Along.{Switch, after}
use Rattle.rx_facts_tables.specs.Setting.{AllSet}
use Rattle.rx_facts_tables.specs.Wholes.{standing}
use Rattle.rx_exits_plan.specs.Points.{Exit, returns, Point, enters, leaves}
use Rattle.rx_exits_plan.specs.Marked.{mark, shown}
use Rattle.rx_exits_plan.specs.Asked.{Asked, ComesTo}
use Rattle.rx_exits_plan.specs.Plan.{Plan, IsPlan}
use Rattle.rx_exits_plan.specs.PartlyMoved.{PartlyMoved}
use Rattle.rx_modes_uses.specs.Aliased.{Aliased}
use Rattle.rx_modes_uses.specs.Paths.{OwnPath}
use Rattle.rx_modes_uses.specs.Deeds as deeds
use Rattle.rx_modes_uses.specs.Deeds.{Done}
use Rattle.rx_modes_uses.specs.Outside.{in_function}
use Rattle.rx_meaning_keeping.specs.Ready.{HasPart}
use Rattle.rx_engine_simulation.specs.Histories.{put, Written, Uses, Borrowed, Living}
use Rattle.rx_engine_simulation.specs.Sights.{In}
use Rattle.rx_engine_simulation.specs.Programs as programs
use Rattle.rx_engine_simulation.specs.Programs.{back, IsHistory, Untouched, facts_of}
use Rattle.rx_engine_related.specs.AboutRun.{special_of, about_run, marked_with, text_of}
use Rattle.rx_engine_related.specs.Accepted.{Accepted}
use Rattle.rx_engine_related.proofs.Since.{since, after_back, back_put, back_both, next_walk, history_walk, walk_history}
use Rattle.rx_engine_related.proofs.Setting.{stands_written}
use Rattle.rx_engine_related.proofs.Beside.{Beside, Alike, alike_mark, alike_uses, alike_writes, cut_beside, parted, beside_history, Deaf, after_beside, ahead_beside, borrowed_beside}
use Rattle.rx_engine_related.proofs.Points.{comes_to_mark, shorter, walk_back, stands_at, lost_at}
use Rattle.rx_engine_related.proofs.Living.{living_ahead}
use Rattle.rx_engine_related.proofs.Choosing.{param_named, local_named, out_is, not_live, special_is, offered_named}
use Rattle.rx_engine_related.proofs.Untouched.{borrowed_done, unlent, untouched}
use Rattle.rx_engine_related.proofs.Lasting.{found_standing, lost_not_ahead}
use Rattle.rx_engine_related.proofs.Left.{out_set}
use Rattle.rx_modes_uses.specs.NotMut.{NotMut}

pub standing_deaf : (x : ℕ) → Deaf (standing x [])
standing_deaf x = record { gives_none = λ p. refl; kills_none = λ p. refl; gives_no_value = λ n q d. refl; kills_no_value = λ n q d. refl }

-- the walks of the marked function are these
abbrev pub IsNear : (Point → Type 0) → Asked → Function → List ℕ → Type 0
IsNear Put A text xs = (u : List Action) → IsWalk text u → (v : List Action) × IsWalk (marked_with A xs) v × Beside Put u v

module _ (Put : Point → Type 0) (A : Asked) (text : Function) (xs : List ℕ) (near : IsNear Put A text xs) where
  -- a history with a newest action
  pub record There (a : Action) (h : List Action) : Type 0 where
    pub front : List Action
    pub action : Action
    pub alike : Alike a action
    pub history : IsHistory (marked_with A xs) (action ∷ put front [])
    pub more : Beside Put (back h []) front

  pub marked_there : (a : Action) (h : List Action) → IsHistory text (a ∷ h) → There a h
  marked_there a h k =
      let z = near (back h [] ++ a ∷ []) (next_walk text a h k) in
      let c = cut_beside (back h []) a [] refl z.2 in
      let w : IsWalk (marked_with A xs) ((c.front ++ c.action ∷ []) ++ c.rest) = subst (λ l. IsWalk (marked_with A xs) l) (c.is ∙ sym (append_assoc c.front (c.action ∷ []) c.rest)) z.1 in
      record {
        front = c.front;
        action = c.action;
        alike = c.alike;
        history = walk_history (marked_with A xs) (c.action ∷ put c.front []) (subst (λ l. IsWalk (marked_with A xs) l) (sym (back_put c.front [] (c.action ∷ []))) (shorter (marked_with A xs) (c.front ++ c.action ∷ []) c.rest w));
        more = c.in_front;
      }

  -- what a history of the text lends that comes to a mark, one of the marked function does that comes there
  pub near_lent_there : (p : Point) (x : ℕ) (h : List Action) → IsHistory text (shown p ∷ h) → Borrowed h x → (g : List Action) × IsHistory (marked_with A xs) (shown p ∷ g) × Borrowed g x
  near_lent_there p x h q b =
      let z = marked_there (shown p) h q in
      (put z.front [], subst (λ b. IsHistory (marked_with A xs) (b ∷ put z.front [])) (alike_mark p z.alike refl) z.history, borrowed_beside x (beside_history h z.more) b)

  -- some action of the function lends what a history of the text lends
  pub near_lent : (muts : List Bool) → Accepted A muts → (x : ℕ) (h : List Action) → IsHistory text h → Borrowed h x → Done deeds.borrowed (OwnPath x) (in_function A)
  near_lent muts acc x h q b =
      let z = near (back h []) (history_walk text h q) in
      borrowed_done A muts acc xs x (put z.0 []) (walk_history (marked_with A xs) (put z.0 []) (subst (λ l. IsWalk (marked_with A xs) l) (sym (walk_back z.0)) z.1)) (borrowed_beside x (beside_history h z.2) b)

  pub same_since : (S : Switch) → Deaf S → (h v : List Action) → Beside Put (back h []) v → since S (put v []) ≡ since S h
  same_since S q h v m = sym (after_back S (put v []) []) ∙ ap (λ l. after S l false) (walk_back v) ∙ after_beside S q m false ∙ after_back S h []

  -- ---- at points

  module _ (muts : List Bool) (acc : Accepted A muts) where
    stands_near : (p : Point) (x : ℕ) → HasPart A.frame x [] → ((w : List Action) → ComesTo A p w → AllSet A.frame w (own x)) → (h : List Action) → IsHistory text (shown p ∷ h) → since (standing x []) h ≡ true
    stands_near p x has set h k =
        let z = marked_there (shown p) h k in
        sym (same_since (standing x []) (standing_deaf x) h z.front z.more) ∙ stands_at A muts acc xs p x has set (put z.front []) (subst (λ b. IsHistory (marked_with A xs) (b ∷ put z.front [])) (alike_mark p z.alike refl) z.history)

    near_written : (p : Point) (x : ℕ) → HasPart A.frame x [] → ((w : List Action) → ComesTo A p w → AllSet A.frame w (own x)) → (h : List Action) → IsHistory text (shown p ∷ h) → Written h x
    near_written p x has set h k = stands_written x h (stands_near p x has set h k)

    module _ (k : Plan) (p : IsPlan A k) where
      pub near_param_written : (x : ℕ) → Among x k.params → (b : Body) (i : ℕ) (t : Temporary) (h : List Action) → programs.ComesTo text (order_body (runs (mark enters) b) i t) h → Written h x
      near_param_written x m b i t h c =
          let z = param_named A k p x m in
          near_written enters x (acc.named x z.0) z.1 h (comes_to_mark text enters b i t h c)

      pub near_out_written : (e : Exit) (x : ℕ) → ¬ (PartlyMoved A k x) → Among e k.exits → Among x (k.outs e) → (h : List Action) → IsHistory text (shown (leaves e) ∷ h) → Written h x
      near_out_written e x whole i o h c = near_written (leaves e) x (acc.named x (offered_named A k p x (out_is A k p e i x o).0)) (λ w q. out_set A k e x whole i o w q) h c

-- ---- of a plan

module _ (Put : Point → Type 0) (A : Asked) (k : Plan) (p : IsPlan A k) (text : Function) (near : IsNear Put A text k.params) where
  -- behind an exit's mark
  pub near_others_dead : (muts : List Bool) → ((y : ℕ) → ¬ (NotMut A muts k y)) → (u : Untouched text (about_run A muts k)) (e : Exit) (x : ℕ) → Among e k.exits → e ≢ returns → In x (special_of A muts k) → (Among x (k.outs e) → ⊥)
      → (h : List Action) → Living (facts_of text (about_run A muts k) u) x (shown (leaves e) ∷ h) → ⊥
  near_others_dead muts passed u e x i n s none h l =
      let z = living_ahead text (special_of A muts k) u x (shown (leaves e) ∷ h) l in
      let w = near (back h (shown (leaves e) ∷ z.list)) z.walk in
      let c = cut_beside (back h []) (shown (leaves e)) z.list (back_both h (shown (leaves e) ∷ z.list)) w.2 in
      not_live A muts k p passed e i n x (special_is A muts k p x s) none
      (c.front, c.rest, subst (λ l. IsWalk (text_of A k) l) (c.is ∙ ap (λ b. c.front ++ b ∷ c.rest) (alike_mark (leaves e) c.alike refl)) w.1, ahead_beside x c.behind z.live)

  module _ (muts : List Bool) (acc : Accepted A muts) where
    pub near_untouched : ((x : ℕ) → ¬ (Aliased A muts k x)) → Untouched text (about_run A muts k)
    near_untouched none a h x i q w b =
        let z = marked_there Put A text k.params near a h q in
        untouched A muts acc k p none k.params z.action (put z.front []) x i z.history (alike_writes x z.alike w) (borrowed_beside x (beside_history h z.more) b)

    pub near_unlent : ((x : ℕ) → ¬ (Aliased A muts k x)) → (x : ℕ) → In x (special_of A muts k) → slice_get muts x ≡ Some true → (h : List Action) → IsHistory text h → Borrowed h x → ⊥
    near_unlent none x i m h q b =
        let z = near (back h []) (history_walk text h q) in
        unlent A muts acc k p none k.params x i m (put z.0 []) (walk_history (text_of A k) (put z.0 []) (subst (λ l. IsWalk (text_of A k) l) (sym (walk_back z.0)) z.1)) (borrowed_beside x (beside_history h z.2) b)

    -- a use finds its variable standing
    pub near_found : (x : ℕ) (a : Action) (h : List Action) → IsHistory text (a ∷ h) → Uses a.act x → since (standing x []) h ≡ true
    near_found x a h q u =
        let z = marked_there Put A text k.params near a h q in
        sym (same_since Put A text k.params near (standing x []) (standing_deaf x) h z.front z.more) ∙ found_standing A muts acc k p x z.action (put z.front []) z.history (alike_uses x z.alike u)

    pub near_local_dead : (u : Untouched text (about_run A muts k)) (x : ℕ) → Among x k.locals → (b : Body) (i : ℕ) (t : Temporary) (h : List Action)
        → programs.ComesTo text (order_body (runs (mark enters) b) i t) h → Living (facts_of text (about_run A muts k) u) x h → ⊥
    near_local_dead u x m b i t h c l =
        let z = living_ahead text (special_of A muts k) u x h l in
        let q = marked_there Put A text k.params near (shown enters) h (comes_to_mark text enters b i t h c) in
        let e = sym (same_since Put A text k.params near (standing x []) (standing_deaf x) h q.front q.more) ∙ lost_at A muts acc k.params enters x (put q.front []) (subst (λ b. IsHistory (text_of A k) (b ∷ put q.front [])) (alike_mark enters q.alike refl) q.history) (λ w r. (local_named A k p x m).1 w r) in
        let w = near (back h z.list) z.walk in
        let y = parted (back h []) z.list (back_both h z.list) w.2 in
        lost_not_ahead (text_of A k) x (λ a h q u. found_standing A muts acc k p x a h q u) y.rest (put y.front []) (subst (λ l. IsWalk (text_of A k) l) (y.is ∙ sym (back_put y.front [] y.rest)) w.1)
        (same_since Put A text k.params near (standing x []) (standing_deaf x) h y.front y.in_front ∙ e) (ahead_beside x y.behind z.live)
