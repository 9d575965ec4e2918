-- The text of a run with its block's tail: each walk of it has one of the marked function beside it; it is the function with marks, with reads where
-- the run is entered; and at the run's end, where the tail's value is let pass, it tells what the plan does.
use Rattle.std.proofs.Common.{◌≡◌, ◌≢◌, ◌⊎◌, inl, inr, ℕ, ◌==◌, if◌then◌else◌, Bool, true, false, List, [], ◌∷◌, ◌++◌, Some, refl, sym, ap, ◌∙◌, subst, append-nil, append_assoc, true≢false, arith}
use Rattle.rx_typed.specs.Tree.{Temporary, Mark, Exp, read, borrow, share, build, unit, lazily, assign, update, call, input, print, block, choose, loop, jump, give, Body, ends, Function}
use Rattle.rx_lower_walks.specs.Actions.{Act, Declare, Dead, Read, Write, Borrow, Test, Call, Build, Input, Print, Give, Action}
use Rattle.rx_lower_walks.specs.Orders.{order_function}
use Rattle.rx_lower_walks.specs.Walks.{stopped, Walk, IsWalk, Among, here, there, actions_in, EndsVariable}
use Rattle.rx_lower_walks.proofs.WalksFronts.{fronts}
use Rattle.rx_lower_walks.proofs.HeldLemmas as held
use Rattle.rx_facts_tables.specs.Wholes.{standing}
use Rattle.rx_exits_plan.specs.Blocks.{tail}
use Rattle.rx_exits_plan.specs.Runs.{Run, in_front, inside, behind}
use Rattle.rx_exits_plan.specs.Changed.{changed}
use Rattle.rx_exits_plan.specs.Points as points
use Rattle.rx_exits_plan.specs.Points.{Exit, breaks, continues, returns, Point, enters, leaves, number}
use Rattle.rx_exits_plan.specs.Marked.{shown}
use Rattle.rx_exits_plan.specs.Unmarked.{unfilled}
use Rattle.rx_exits_plan.specs.Asked.{Asked}
use Rattle.rx_exits_plan.specs.Plan.{Plan, IsPlan}
use Rattle.rx_exits_plan.specs.PartlyMoved.{PartlyMoved}
use Rattle.rx_engine_simulation.specs.Histories.{put, Facts, Written, Living}
use Rattle.rx_engine_simulation.specs.Sights.{In}
use Rattle.rx_engine_simulation.specs.Openings.{no_openings}
use Rattle.rx_engine_simulation.specs.Passed.{let_pass}
use Rattle.rx_engine_simulation.specs.Programs.{back, IsHistory, Untouched, facts_of, LikeFunction}
use Rattle.rx_engine_simulation.specs.Marks.{AreWritten}
use Rattle.rx_engine_simulation.specs.Marking as marking
use Rattle.rx_engine_simulation.specs.Marking.{none_read, MarkedExp, in_block, MarkedBody, facts_alone, without_turns, TreeEntry, with_marks}
use Rattle.rx_engine_related.specs.Reads.{entry_read}
use Rattle.rx_engine_related.specs.AboutRun.{special_of, about_run, marked_with, text_of}
use Rattle.rx_engine_related.specs.Accepted.{Accepted}
use Rattle.rx_engine_related.specs.OnePlace.{LeadsToOnePlace}
use Rattle.rx_engine_related.specs.Running.{passing}
use Rattle.rx_engine_related.specs.Tailed.{passing_value, tailed_body, in_the_tailed_block, tailed, tailed_of, lets_pass, tells_end, tells, TellsOnce}
use Rattle.rx_engine_related.proofs.Since.{back_put, back_both, next_walk, walk_history}
use Rattle.rx_engine_related.proofs.Setting.{stands_written}
use Rattle.rx_engine_related.proofs.Blind.{standing_blind}
use Rattle.rx_engine_related.proofs.Plainly as plainly
use Rattle.rx_engine_related.proofs.Points.{shorter, standing_unturned, stands_at}
use Rattle.rx_engine_related.proofs.Living.{living_ahead}
use Rattle.rx_engine_related.proofs.Lasting.{ahead_living}
use Rattle.rx_engine_related.proofs.Choosing.{out_is, not_live, special_is, offered_named}
use Rattle.rx_engine_related.proofs.Left.{out_set}
use Rattle.rx_engine_related.proofs.Recombining.{ahead_meets}
use Rattle.rx_engine_related.proofs.Beside as beside
use Rattle.rx_engine_related.proofs.Beside.{lets, Beside, Alike, same, ends_there, cut_beside, ahead_beside}
use Rattle.rx_engine_related.proofs.Back.{without_marks, cut_back, ahead_less}
use Rattle.rx_engine_related.proofs.Sites.{goes_on_as, is_told}
use Rattle.rx_engine_related.proofs.Tailing.{tailed_extended}
use Rattle.rx_engine_related.proofs.Near.{IsNear, marked_there, same_since, standing_deaf, near_found}
use Rattle.rx_engine_related.proofs.MarkedRun.{in_three}
use Rattle.rx_engine_related.proofs.ReadingRun.{Marks, entered, changed_marked, statements_marked, statements_itself, passing_marks}
use Rattle.rx_modes_uses.specs.NotMut.{NotMut}

-- only marks behind what is returned are put in
abbrev pub at_returns : Point → Type 0
at_returns p = p ≡ leaves returns

pub tailed_near : (A : Asked) → A.run.tail ≡ true → (xs : List ℕ) → IsNear at_returns A (tailed_of A xs) xs
tailed_near A has xs u (rest, o, h) =
    let z = beside.with_marks (tailed_extended at_returns refl A.home.around.loops A.run xs has A.function) (fronts h u rest refl) in
    (z.list, ([], stopped, subst (λ l. Walk (order_function (marked_with A xs)) l stopped) (sym (append-nil z.list)) z.walk), z.more)

-- ---- it is the function with marks

pass_marked : {V : Facts} {e e1 : Exp} → MarkedExp V e e1 → MarkedExp V e (let_pass e1)
pass_marked (marking.in_front ps m) = marking.in_front (marking.behind_value ∷ ps) m

module _ (V : Facts) (n : ℕ) (ls : List ℕ) where
  plainly_passed : (e : Exp) → MarkedExp V e (let_pass (changed (passing ls) e))
  plainly_passed e = pass_marked (changed_marked V (passing ls) (passing_marks V ls) e)

  given_so : (t : Bool) (m : Mark) (e : Exp) → MarkedExp V (give m e) (if t then give m (let_pass (changed (passing ls) e)) else let_pass (changed (passing ls) (give m e)))
  given_so true m e = marking.in_front [] (marking.m_give (plainly_passed e))
  given_so false m e = plainly_passed (give m e)

  value_marked : (v : Exp) → MarkedExp V v (passing_value n ls v)
  value_marked (read m v p) = plainly_passed (read m v p)
  value_marked (borrow m k p) = plainly_passed (borrow m k p)
  value_marked (share m e) = plainly_passed (share m e)
  value_marked (build m w es) = plainly_passed (build m w es)
  value_marked (unit m) = plainly_passed (unit m)
  value_marked (lazily m b e f) = plainly_passed (lazily m b e f)
  value_marked (assign m p e) = plainly_passed (assign m p e)
  value_marked (update m o p e) = plainly_passed (update m o p e)
  value_marked (call m f es) = plainly_passed (call m f es)
  value_marked (input m) = plainly_passed (input m)
  value_marked (print m e) = plainly_passed (print m e)
  value_marked (block m b) = plainly_passed (block m b)
  value_marked (choose m s l) = plainly_passed (choose m s l)
  value_marked (loop m l e) = plainly_passed (loop m l e)
  value_marked (jump m l k) = plainly_passed (jump m l k)
  value_marked (give m e) = given_so (m.node == n) m e

module _ (V : Facts) (r : Run) (ls xs : List ℕ) (written : AreWritten V enters xs) where
  body_marked : (b : Body) → MarkedBody V b (tailed_body r ls xs b)
  body_marked b =
      subst (λ c. MarkedBody V c (tailed_body r ls xs b)) (in_three r b)
      (statements_itself V (in_front r b) _ _ (entered V xs written (statements_marked V (passing ls) (passing_marks V ls) (inside r b) _ _
      (statements_itself V (behind r b) (ends (tail b)) _ (in_block [] none_read (marking.m_ends (value_marked V r.block ls (tail b))))))))

  chosen : (t : Bool) (was b : Body) → MarkedBody V was b → MarkedBody V was (if t then tailed_body r ls xs was else b)
  chosen true was b h = body_marked was
  chosen false was b h = h

  block_marks : Marks V (in_the_tailed_block r ls xs)
  block_marks = record {
    at_block = λ n was b h. chosen (n == r.block) was b h;
    at_jump = λ m l k. marking.in_front [] marking.m_jump;
    at_return = λ e f h. h;
  }

pub tailed_entry : (g : Function) (r : Run) (ls xs : List ℕ) (l : LikeFunction (λ f. f) no_openings without_turns g g) → l.about.special ≡ [] → AreWritten (facts_alone (tailed r ls xs g)) enters xs → TreeEntry (Some (Some g)) (Some (Some (tailed r ls xs g)))
tailed_entry g r ls xs l none written =
    with_marks l none refl (changed_marked (facts_alone (tailed r ls xs g)) (in_the_tailed_block r ls xs) (block_marks (facts_alone (tailed r ls xs g)) r ls xs written) g.body)

-- ---- the marked function lets no value pass

bare_lets : (a : Act) → lets_pass (unfilled a) ≡ lets_pass a
bare_lets (Read m p d) = refl
bare_lets (Borrow k p d) = refl
bare_lets (Test p c) = refl
bare_lets (Write p t ss) = refl
bare_lets (Declare y) = refl
bare_lets (Dead y) = refl
bare_lets (Call f ts d) = refl
bare_lets (Build w js ts d) = refl
bare_lets (Input d) = refl
bare_lets (Print t) = refl
bare_lets (Give t) = refl

ends_none : (a : Act) → EndsVariable a → lets_pass a ≡ true → ⊥
ends_none (Dead y) e q = true≢false (sym q)
ends_none (Read m p d) e q = true≢false (sym q)
ends_none (Borrow k p d) e q = true≢false (sym q)
ends_none (Test p c) e q = true≢false (sym q)
ends_none (Write p t ss) e q = true≢false (sym q)
ends_none (Declare y) e q = true≢false (sym q)
ends_none (Call f ts d) e q = true≢false (sym q)
ends_none (Build w js ts d) e q = absurd e
ends_none (Input d) e q = true≢false (sym q)
ends_none (Print t) e q = true≢false (sym q)
ends_none (Give t) e q = true≢false (sym q)

last_among : (l : List Action) (a : Action) (r : List Action) → Among a ((l ++ a ∷ []) ++ r)
last_among [] a r = here
last_among (b ∷ l) a r = there (last_among l a r)

no_read : (n : ℕ) (q d : Temporary) (y : ℕ) → lets n q d ≡ entry_read y → ⊥
no_read n q d y e = true≢false (ap (λ (a : Action). lets_pass a.act) e)

mark_or : (p : Point) (n : ℕ) (q d : Temporary) → shown p ≡ lets n q d → ⊥
mark_or p n q d e = true≢false (sym (ap (λ (a : Action). lets_pass a.act) e))

module _ (A : Asked) (xs : List ℕ) (bare : tells (λ a. lets_pass a.act) (order_function A.function) ≡ 0) where
  no_lets : (n : ℕ) (q d : Temporary) (h : List Action) → IsHistory (marked_with A xs) (lets n q d ∷ h) → ⊥
  no_lets n q d h k =
      let z = plainly.acts A.function A.run A.home.around.loops xs (back h []) (lets n q d) (standing 0 []) (standing_blind 0 []) (standing_unturned 0 xs) refl (λ y i e. no_read n q d y e) (next_walk (marked_with A xs) (lets n q d) h k) in
      let e : lets_pass z.action.act ≡ true = sym (bare_lets z.action.act) ∙ ap (λ (a : Action). lets_pass a.act) z.bare in
      by z.action e (held.held z.walk.2 z.action (last_among z.list z.action z.walk.0))
    where
      by : (a : Action) → lets_pass a.act ≡ true → Among a (actions_in (order_function A.function)) ⊎ EndsVariable a.act → ⊥
      by a e (inl i) = let m = is_told (λ a. lets_pass a.act) (λ n x. refl) (order_function A.function) a i e in let z = bare in omega (arith, m, z)
      by a e (inr f) = ends_none a.act f e

-- ---- at the run's end

-- a walk of the text that lets a value pass has the mark of the end beside it
alike_lets : {n : ℕ} {q d : Temporary} {a b : Action} → a ≡ lets n q d → Alike a b → (b ≡ lets n q d) ⊎ (b ≡ shown (leaves points.next))
alike_lets e same = inl e
alike_lets e (ends_there n q d) = inr refl

-- an action for which the mark of the end stands tells of it
alike_end : {a b : Action} → Alike b a → a ≡ shown (leaves points.next) → tells_end b ≡ true
alike_end same e = ap tells_end e
alike_end (ends_there n q d) e = refl

-- no two exits have points of one number
same_point : (e f : Exit) → number (leaves e) ≡ number (leaves f) → e ≡ f
same_point points.next points.next q = refl
same_point returns returns q = refl
same_point (breaks l) (breaks m) q = ap breaks (omega (arith, q))
same_point (continues l) (continues m) q = ap continues (omega (arith, q))
same_point points.next returns q = absurd (omega (arith, q))
same_point points.next (breaks m) q = absurd (omega (arith, q))
same_point points.next (continues m) q = absurd (omega (arith, q))
same_point returns points.next q = absurd (omega (arith, q))
same_point returns (breaks m) q = absurd (omega (arith, q))
same_point returns (continues m) q = absurd (omega (arith, q))
same_point (breaks l) points.next q = absurd (omega (arith, q))
same_point (breaks l) returns q = absurd (omega (arith, q))
same_point (breaks l) (continues m) q = absurd (omega (arith, q))
same_point (continues l) points.next q = absurd (omega (arith, q))
same_point (continues l) returns q = absurd (omega (arith, q))
same_point (continues l) (breaks m) q = absurd (omega (arith, q))

not_put : (p : Point) → at_returns p → shown (leaves points.next) ≡ shown p → ⊥
not_put p i e = let z : 1 ≡ number p = ap (λ (a : Action). a.node) e in let y : number p ≡ 2 = ap number i in omega (arith, z, y)

module _ (A : Asked) (has : A.run.tail ≡ true) (k : Plan) (p : IsPlan A k) (once : TellsOnce A k.params) where
  abbrev text : Function
  text = tailed_of A k.params

  abbrev near : IsNear at_returns A text k.params
  near = tailed_near A has k.params

  at_end : (n : ℕ) (q d : Temporary) (b : Action) (front : List Action) → Alike (lets n q d) b → IsHistory (text_of A k) (b ∷ front) → b ≡ shown (leaves points.next)
  at_end n q d b front alike h = by (alike_lets refl alike)
    where
      by : (b ≡ lets n q d) ⊎ (b ≡ shown (leaves points.next)) → b ≡ shown (leaves points.next)
      by (inl e) = absurd (no_lets A k.params once.none_before n q d front (subst (λ b. IsHistory (text_of A k) (b ∷ front)) e h))
      by (inr e) = e

  -- nothing else is living there
  pub tail_others_dead : (muts : List Bool) → ((y : ℕ) → ¬ (NotMut A muts k y)) → (u : Untouched text (about_run A muts k)) (x : ℕ) → Among points.next k.exits → In x (special_of A muts k) → (Among x (k.outs points.next) → ⊥)
      → (n : ℕ) (q d : Temporary) (h : List Action) → Living (facts_of text (about_run A muts k) u) x (lets n q d ∷ h) → ⊥
  tail_others_dead muts passed u x i s none n q d h l =
      let z = living_ahead text (special_of A muts k) u x (lets n q d ∷ h) l in
      let w = near (back h (lets n q d ∷ z.list)) z.walk in
      let c = cut_beside (back h []) (lets n q d) z.list (back_both h (lets n q d ∷ z.list)) w.2 in
      let y : IsWalk (text_of A k) (c.front ++ c.action ∷ c.rest) = subst (λ l. IsWalk (text_of A k) l) c.is w.1 in
      let e = at_end n q d c.action (put c.front []) c.alike (history c.front c.action c.rest y) in
      not_live A muts k p passed points.next i (λ e. cc) x (special_is A muts k p x s) none
      (c.front, c.rest, subst (λ b. IsWalk (text_of A k) (c.front ++ b ∷ c.rest)) e y, ahead_beside x c.behind z.live)
    where
      history : (front : List Action) (a : Action) (rest : List Action) → IsWalk (text_of A k) (front ++ a ∷ rest) → IsHistory (text_of A k) (a ∷ put front [])
      history front a rest w =
          walk_history (text_of A k) (a ∷ put front []) (subst (λ l. IsWalk (text_of A k) l) (sym (back_put front [] (a ∷ []))) (shorter (text_of A k) (front ++ a ∷ []) rest (subst (λ l. IsWalk (text_of A k) l) (sym (append_assoc front (a ∷ []) rest)) w)))

  module _ (muts : List Bool) (acc : Accepted A muts) where
    -- what is handed out was written
    pub tail_out_written : (x : ℕ) → ¬ (PartlyMoved A k x) → Among points.next k.exits → Among x (k.outs points.next) → (n : ℕ) (q d : Temporary) (h : List Action) → IsHistory text (lets n q d ∷ h) → Written h x
    tail_out_written x whole i o n q d h c =
        let z = marked_there at_returns A text k.params near (lets n q d) h c in
        let e = at_end n q d z.action (put z.front []) z.alike z.history in
        let has_part = acc.named x (offered_named A k p x (out_is A k p points.next i x o).0) in
        stands_written x h (sym (same_since at_returns A text k.params near (standing x []) (standing_deaf x) h z.front z.more)
        ∙ stands_at A muts acc k.params (leaves points.next) x has_part (λ w r. out_set A k points.next x whole i o w r) (put z.front []) (subst (λ b. IsHistory (text_of A k) (b ∷ put z.front [])) e z.history))

    -- and is living
    pub tail_out_living : (u : Untouched text (about_run A muts k)) (x : ℕ) → Among points.next k.exits → Among x (k.outs points.next) → (n : ℕ) (q d : Temporary) (h : List Action) → IsHistory text (lets n q d ∷ h)
        → Living (facts_of text (about_run A muts k) u) x (lets n q d ∷ h)
    tail_out_living u x i o n q d h c =
        let l = (out_is A k p points.next i x o).1 in
        let z = without_marks (tailed_extended at_returns refl A.home.around.loops A.run k.params has A.function) (fronts l.2.2 (l.0 ++ shown (leaves points.next) ∷ l.1) l.2.0 refl) in
        let y = cut_back (shown (leaves points.next)) not_put l.0 l.1 refl z.more in
        let v : IsWalk text (y.front ++ y.action ∷ y.behind) = ([], stopped, subst (λ l. Walk (order_function text) l stopped) (y.is ∙ sym (append-nil (y.front ++ y.action ∷ y.behind))) z.walk) in
        let w = goes_on_as tells_end (λ n x. refl) text once.once y.action (lets n q d) (alike_end y.alike refl) refl y.front (back h []) y.behind v (next_walk text (lets n q d) h c) in
        ahead_living text x (λ a g r s. near_found at_returns A k p text near muts acc x a g r s) (special_of A muts k) u y.behind (lets n q d ∷ h) (subst (λ v. IsWalk text v) (sym (back_both h (lets n q d ∷ y.behind))) w) (ahead_less x y.more l.3)

    -- so is what a jump hands out, where its marks lead to one place
    pub tail_jump_living : (u : Untouched text (about_run A muts k)) (e : Exit) (x : ℕ) → e ≢ returns → e ≢ points.next → LeadsToOnePlace text (shown (leaves e)) → Among e k.exits → Among x (k.outs e)
        → (h : List Action) → IsHistory text (shown (leaves e) ∷ h) → Living (facts_of text (about_run A muts k) u) x (shown (leaves e) ∷ h)
    tail_jump_living u e x n m place i o h c =
        let l = (out_is A k p e i x o).1 in
        let z = without_marks (tailed_extended at_returns refl A.home.around.loops A.run k.params has A.function) (fronts l.2.2 (l.0 ++ shown (leaves e) ∷ l.1) l.2.0 refl) in
        let y = cut_back (shown (leaves e)) (λ p i q. n (same_point e returns (number_of (leaves e) p q ∙ ap number i))) l.0 l.1 refl z.more in
        let b : y.action ≡ shown (leaves e) = alike_jump y.alike refl in
        let v : IsWalk text (y.front ++ shown (leaves e) ∷ y.behind) = subst (λ b. IsWalk text (y.front ++ b ∷ y.behind)) b ([], stopped, subst (λ l. Walk (order_function text) l stopped) (y.is ∙ sym (append-nil (y.front ++ y.action ∷ y.behind))) z.walk) in
        let w = place y.front (back h []) y.behind v (next_walk text (shown (leaves e)) h c) in
        ahead_living text x (λ a g r s. near_found at_returns A k p text near muts acc x a g r s) (special_of A muts k) u w.0 (shown (leaves e) ∷ h) (subst (λ v. IsWalk text v) (sym (back_both h (shown (leaves e) ∷ w.0))) w.2) (ahead_meets x w.1 (ahead_less x y.more l.3))
      where
        number_of : (p q : Point) → shown p ≡ shown q → number p ≡ number q
        number_of p q f = ap (λ (a : Action). a.node) f

        alike_jump : {a b : Action} → Alike b a → a ≡ shown (leaves e) → b ≡ shown (leaves e)
        alike_jump same f = f
        alike_jump (ends_there n q d) f = absurd (m (sym (same_point points.next e (number_of (leaves points.next) (leaves e) f))))
