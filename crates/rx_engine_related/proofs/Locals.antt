-- A local that is handed out is lent on no history that comes where the run is entered. For with what such a history lends, a walk goes on in
-- the run to the exit's mark, where the variable stands; it doesn't where the run is entered, so it is written between, and what may be
-- elsewhere is not written once it was lent. So it is in the marked function, and in the texts that run as the function does.
use Rattle.std.proofs.Common.{◌≡◌, ◌≢◌, ◌⊎◌, inl, inr, ℕ, ◌==◌, Bool, true, false, not, ◌&&◌, ◌||◌, ◌≤◌, List, [], ◌∷◌, ◌++◌, refl, sym, ap, ◌∙◌, subst, append_assoc, true≢false, ◌+◌, ◌*◌, arith}
use Rattle.rx_core.specs.declared.types.Step.{Step}
use Rattle.rx_typed.specs.Tree.{Function}
use Rattle.rx_lower_walks.specs.Actions.{Act, Declare, Dead, Read, Write, Borrow, Test, Call, Build, Input, Print, Give, Action}
use Rattle.rx_lower_walks.specs.Orders.{order_function}
use Rattle.rx_lower_walks.specs.Walks.{IsWalk, Among}
use Rattle.rx_facts_tables.specs.Wholes.{regains, loses, standing}
use Rattle.rx_facts_tables.proofs.Fronts.{not_so}
use Rattle.rx_exits_plan.specs.Spots.{a_block, spots_of_function}
use Rattle.rx_exits_plan.specs.Runs.{behind}
use Rattle.rx_exits_plan.specs.Points.{Exit, next, breaks, continues, returns, enters, leaves, number}
use Rattle.rx_exits_plan.specs.Marked.{shown}
use Rattle.rx_exits_plan.specs.Coming.{HasNoMark}
use Rattle.rx_exits_plan.specs.Occurrences.{is_declared_in_run}
use Rattle.rx_exits_plan.specs.Asked.{Asked}
use Rattle.rx_exits_plan.specs.Plan.{Plan, IsPlan, variables_of}
use Rattle.rx_exits_plan.specs.PartlyMoved.{PartlyMoved}
use Rattle.rx_modes_uses.specs.Aliased.{Aliased}
use Rattle.rx_engine_simulation.specs.Histories.{IsOwn, IsWhole, Declares, WritesWhole, WritesOwn, Borrowed, put}
use Rattle.rx_engine_simulation.specs.Programs.{back, IsHistory}
use Rattle.rx_engine_related.specs.AboutRun.{text_of}
use Rattle.rx_engine_related.specs.Accepted.{Accepted}
use Rattle.rx_engine_related.specs.OneSite.{StandsOnce, blocks_at}
use Rattle.rx_engine_related.proofs.Since.{since, back_put, back_both, history_walk, next_walk, walk_history, older}
use Rattle.rx_engine_related.proofs.Setting.{either}
use Rattle.rx_engine_related.proofs.Points.{shorter, stands_at, lost_at}
use Rattle.rx_engine_related.proofs.Recombining.{recombined}
use Rattle.rx_engine_related.proofs.Sole.{weighed, jump_numbers, differ}
use Rattle.rx_engine_related.proofs.Leading.{no_weight}
use Rattle.rx_engine_related.proofs.Choosing.{of_those, chosen_is, out_is, local_named, offered_named}
use Rattle.rx_engine_related.proofs.Left.{out_set}
use Rattle.rx_engine_related.proofs.Unset.{regained}
use Rattle.rx_engine_related.proofs.Untouched.{untouched}
use Rattle.rx_engine_related.proofs.Inside.{has_some, IsIn, weighs, one_block, came_in}
use Rattle.rx_engine_related.proofs.Entry.{entry_stands_once}
use Rattle.rx_engine_related.proofs.Specials.{out_special}

-- ---- actions and marks

whole_own : (ss : List Step) → IsWhole ss → IsOwn ss
whole_own [] w = tt
whole_own (s ∷ ss) w = absurd w

written_own : (a : Act) (x : ℕ) → WritesWhole a x → WritesOwn a x
written_own (Write p t ss) x w = (w.0, whole_own p.steps w.1)
written_own (Declare y) x w = w
written_own (Dead y) x w = w
written_own (Read m p d) x w = w
written_own (Borrow k p d) x w = w
written_own (Test p c) x w = w
written_own (Call f ts d) x w = w
written_own (Build v js ts d) x w = w
written_own (Input d) x w = w
written_own (Print t) x w = w
written_own (Give t) x w = w

no_entry : (e : Exit) → (0 == number (leaves e)) ≡ false
no_entry next = refl
no_entry (breaks l) = (jump_numbers l false).0
no_entry (continues l) = (jump_numbers l true).0
no_entry returns = refl

no_return_mark : (e : Exit) → e ≢ returns → (2 == number (leaves e)) ≡ false
no_return_mark next n = refl
no_return_mark (breaks l) n = differ 2 (3 + 2 * l) (λ q. omega (arith, q))
no_return_mark (continues l) n = differ 2 (4 + 2 * l) (λ q. omega (arith, q))
no_return_mark returns n = absurd (n refl)

still_standing : (l b : Bool) → not l && b ≡ true → b ≡ true
still_standing true b q = absurd (true≢false (sym q))
still_standing false b q = q

neither : (b c : Bool) → b ≡ false → c ≡ false → b || c ≡ false
neither true c q r = absurd (true≢false q)
neither false c q r = r

-- what is asked of text, run and plan: nothing stands in front of a tail that the run has
pub record Premises (A : Asked) (muts : List Bool) (k : Plan) : Type 0 where
  pub plan : IsPlan A k
  pub accepted : Accepted A muts
  pub sits : Among (a_block A.home.around A.run.block A.home.body) (spots_of_function A.function)
  pub none_behind : A.run.tail && has_some (behind A.run A.home.body) ≡ false
  pub unmarked : HasNoMark (order_function A.function)
  pub one_block : blocks_at A.run.block (spots_of_function A.function) ≤ 1
  pub whole : (x : ℕ) → ¬ (PartlyMoved A k x)
  pub unaliased : (x : ℕ) → ¬ (Aliased A muts k x)

module _ (A : Asked) (muts : List Bool) (k : Plan) (had : Premises A muts k) (x : ℕ) (local : Among x k.locals) (e : Exit) (exits : Among e k.exits) (out : Among x (k.outs e)) where
  abbrev text : Function
  text = text_of A k

  abbrev m : Action
  m = shown (leaves e)

  no_return : e ≢ returns
  no_return q = none_in (subst (λ xs. Among x xs) (ap k.outs q ∙ had.plan.none_returned) out)
    where
      none_in : {y : ℕ} → Among y [] → ⊥
      none_in i = elim i [ ]

  -- one block has the run's node, and the variable does not begin in its run
  few : weighed (weighs x A.run) no_weight (spots_of_function A.function) ≤ 1
  few =
      let z = of_those (λ y. not (is_declared_in_run A.run A.home.body y)) (variables_of A) (chosen_is had.plan.locals local).0 in
      let q = neither (is_declared_in_run A.run A.home.body x) (A.run.tail && has_some (behind A.run A.home.body)) (not_so (is_declared_in_run A.run A.home.body x) z.1) had.none_behind in
      one_block x A.run A.home.around A.home.body q (spots_of_function A.function) had.sits had.one_block

  once : StandsOnce text (shown enters)
  once = entry_stands_once A.home.around.loops A.run k.params A.function had.unmarked had.one_block

  -- some history comes to the exit's mark
  record Leaves : Type 0 where
    pub list : List Action
    pub history : IsHistory text (m ∷ list)

  leaves_so : Leaves
  leaves_so =
      let l = (out_is A k had.plan e exits x out).1 in
      let w : IsWalk text (l.0 ++ m ∷ []) = shorter text (l.0 ++ m ∷ []) l.1 (subst (λ v. IsWalk text v) (sym (append_assoc l.0 (m ∷ []) l.1)) l.2) in
      record { list = put l.0 []; history = walk_history text (m ∷ put l.0 []) (subst (λ v. IsWalk text v) (sym (back_put l.0 [] (m ∷ []))) w) }

  -- ---- behind a history that lends it, where the run is entered

  module _ (h : List Action) (comes : IsHistory text (shown enters ∷ h)) (lent : Borrowed h x) where
    -- it goes on from there, and the variable has not begun again
    data From : List Action → Type 0 where
      at_entry : From (shown enters ∷ h)
      and_then : {a : Action} {g : List Action} → (Declares a.act x → ⊥) → From g → From (a ∷ g)

    still_lent : {g : List Action} → From g → Borrowed g x
    still_lent at_entry = inr ((λ d. d), lent)
    still_lent (and_then undeclared f) = inr (undeclared, still_lent f)

    record Again (us : List Action) : Type 0 where
      pub list : List Action
      pub from : From list
      pub walk : IsWalk text (back list us)

    -- a walk goes on as one that entered the run
    again : (g us : List Action) → IsIn x g → IsWalk text (back g us) → Again us
    again [] us i w = absurd i
    again (a ∷ g) us (inl q) w =
        let v = subst (λ l. IsWalk text l) (back_both g (a ∷ us) ∙ ap (λ c. back g [] ++ c ∷ us) q) w in
        let r = recombined text (shown enters) once (back g []) (back h []) us v (next_walk text (shown enters) h comes) in
        record { list = shown enters ∷ h; from = at_entry; walk = subst (λ l. IsWalk text l) (sym (back_both h (shown enters ∷ us))) r }
    again (a ∷ g) us (inr (undeclared, i)) w = let z = again g (a ∷ us) i w in record { list = a ∷ z.list; from = and_then undeclared z.from; walk = z.walk }

    lost : since (standing x []) h ≡ false
    lost = lost_at A muts had.accepted k.params enters x h comes (λ w r. (local_named A k had.plan x local).1 w r)

    -- it does not stand there, since it is not written there
    stands_not : {g : List Action} → From g → IsHistory text g → since (standing x []) g ≡ true → ⊥
    stands_not at_entry q s = true≢false (sym s ∙ lost)
    stands_not (and_then {a = a} {g = g} undeclared f) q s = by (λ r. stands_not f (older text a g q) r) (either (regains x [] a.act) (not (loses x [] a.act) && since (standing x []) g) s)
      where
        by : (since (standing x []) g ≡ true → ⊥) → (regains x [] a.act ≡ true) ⊎ ((not (loses x [] a.act) && since (standing x []) g) ≡ true) → ⊥
        by ih (inl r) = untouched A muts had.accepted k had.plan had.unaliased k.params a g x (out_special A muts k e x exits out) q (written_own a.act x (regained x a.act r)) (still_lent f)
        by ih (inr r) = ih (still_standing (loses x [] a.act) (since (standing x []) g) r)

    pub never_lent : ⊥
    never_lent =
        let c = leaves_so in
        let i = came_in x e (no_entry e) (no_return_mark e no_return) A.run A.home.around.loops k.params A.function had.unmarked few c.list c.history in
        let z = again c.list (m ∷ []) i (history_walk text (m ∷ c.list) c.history) in
        let q = walk_history text (m ∷ z.list) z.walk in
        let part = had.accepted.named x (offered_named A k had.plan x (out_is A k had.plan e exits x out).0) in
        stands_not z.from (older text m z.list q) (stands_at A muts had.accepted k.params (leaves e) x part (λ w r. out_set A k e x (had.whole x) exits out w r) z.list q)
