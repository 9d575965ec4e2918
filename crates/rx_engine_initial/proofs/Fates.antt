-- What becomes of the facts of a variable where actions stand in place of others.
use Rattle.std.proofs.Common.{◌≡◌, ℕ, Bool, true, false, not, ◌&&◌, ◌||◌, ◌==◌, List, [], ◌∷◌, ◌++◌, refl, sym, ◌∙◌, subst, ap, eqb-true}
use Rattle.rx_core.specs.declared.types.Step.{Step}
use Rattle.rx_typed.specs.Tree.{Root, variable, temporary, Place, Temporary, own}
use Rattle.rx_typed.specs.TypedPlaces.{is_front, same_steps}
use Rattle.rx_lower_walks.specs.Actions.{Act, Declare, Dead, Read, Write, Borrow, Test, Call, Build, Input, Print, Give, Action, does}
use Rattle.rx_lower_walks.specs.Walks.{IsWalk, Among, here, there}
use Rattle.rx_facts_tables.specs.Along.{Switch, behind, after, ahead}
use Rattle.rx_facts_tables.specs.Places.{Frame, is_part}
use Rattle.rx_facts_tables.specs.Setting.{is_behind, setting, AllSet}
use Rattle.rx_facts_tables.specs.Wholes.{is_variable, is_all, standing, assigning, was_assigned}
use Rattle.rx_facts_tables.specs.Live.{living, has_root, roots_of, written}
use Rattle.rx_meaning_keeping.proofs.Parts.{Parted}
use Rattle.rx_engine_initial.specs.Tracing.{View, IsQuiet, IsKept, Traced, start, kept, over, unset}
use Rattle.rx_engine_initial.specs.Matching.{Hist}
use Rattle.rx_engine_initial.specs.Variables.{as_itself, by_reference, Sides, both_end, LikePart, KnownVariables, standing_in, fresh, always, steady, set_view, whole_view, fresh_view, sure_view, IsSeen, part_set, there_as_a_whole, not_assigned, reference_set, reference_there}
use Rattle.rx_engine_initial.specs.Copies.{IsOther, world}
use Rattle.rx_engine_initial.specs.Fates.{LeavesBe, AllLeave, Fate, untouched, lent, handed_out, needless, begins_again, Fates}
use Rattle.rx_engine_initial.proofs.Tracing.{after_both, quiet_behind}
use Rattle.rx_engine_initial.proofs.Ways.{no, and_left, and_right, and_both, is_false, clash, same_self, other_number}
use Rattle.rx_engine_initial.proofs.Uses.{all_turned}
use Rattle.rx_engine_initial.proofs.Keeping.{root_is, other_is}

-- ---- lists that do nothing to a fact

abbrev AllQuiet : Switch → List Action → Type 0
AllQuiet s us = (a : Action) → Among a us → IsQuiet s a

quiet_list : (s : Switch) (us : List Action) (b : Bool) → AllQuiet s us → after s us b ≡ b
quiet_list s [] b q = refl
quiet_list s (a ∷ us) b q = ap (λ c. after s us c) (quiet_behind s a b (q a here)) ∙ quiet_list s us b (λ c m. q c (there m))

quiet_behind_list : (s : Switch) (w u : List Action) (b : Bool) → AllQuiet s u → after s (w ++ u) b ≡ after s w b
quiet_behind_list s w u b q = after_both s w u b ∙ quiet_list s u (after s w b) q

-- what an action gave, and nothing behind it took
last_gives : (s : Switch) (us vs : List Action) (a : Action) (b : Bool) → s.gives a ≡ true → AllQuiet s vs → after s (us ++ a ∷ vs) b ≡ true
last_gives s us vs a b g q = after_both s us (a ∷ vs) b ∙ quiet_list s vs (behind s a (after s us b)) q ∙ given (s.gives a) (not (s.kills a) && after s us b) g
  where
    given : (g c : Bool) → g ≡ true → (g || c) ≡ true
    given true c h = refl
    given false c h = no h

live_over : (s : Switch) (u ws : List Action) → ((a : Action) → Among a u → s.kills a ≡ false) → ahead s ws ≡ true → ahead s (u ++ ws) ≡ true
live_over s [] ws k l = l
live_over s (a ∷ u) ws k l = passes (s.gives a) (s.kills a) (ahead s (u ++ ws)) (k a here) (live_over s u ws (λ c m. k c (there m)) l)
  where
    passes : (g k b : Bool) → k ≡ false → b ≡ true → (g || (not k && b)) ≡ true
    passes true k b p q = refl
    passes false false b p q = q
    passes false true b p q = clash true refl p

always_ahead : (u ws : List Action) → ahead always ws ≡ true → ahead always (u ++ ws) ≡ true
always_ahead [] ws h = h
always_ahead (a ∷ u) ws h = refl

not_made : (s : Switch) (u : List Action) (b : Bool) → ((a : Action) → Among a u → s.gives a ≡ false) → after s u b ≡ true → b ≡ true
not_made s [] b k h = h
not_made s (a ∷ u) b k h = first_of (s.gives a) (s.kills a) b (k a here) (not_made s u (behind s a b) (λ c m. k c (there m)) h)
  where
    first_of : (g k b : Bool) → g ≡ false → (g || (not k && b)) ≡ true → b ≡ true
    first_of true k b p q = clash true refl p
    first_of false true b p q = no q
    first_of false false b p q = q

-- ---- an action that leaves a variable be

other_not : (r : Root) (x : ℕ) (b : Bool) → IsOther r x → (is_variable r x && b) ≡ false
other_not r x b o = is_false (is_variable r x && b) (λ h. other_is r x b o h)

not_and : (z x : ℕ) (b : Bool) → (z ≡ x → ⊥) → ((z == x) && b) ≡ false
not_and z x b o = is_false ((z == x) && b) (λ h. o (eqb-true z x (and_left (z == x) b h)))

module _ (F : Frame) (parts : Parted F) (x n : ℕ) (h : is_part F (own x) n ≡ true) where
  part_quiet : (k : ℕ) (a : Act) → LeavesBe a x → IsQuiet (setting F n) (does k a)
  part_quiet k (Declare z) o = record { gives = refl; kills = is_false (is_part F (own z) n) (λ q. parts.other z x [] [] n o q h) }
  part_quiet k (Dead z) o = record { gives = refl; kills = is_false (is_part F (own z) n) (λ q. parts.other z x [] [] n o q h) }
  part_quiet k (Read true p d) o = record { gives = refl; kills = is_false (is_part F p n) (λ q. root_is F parts x n h p.root p.steps q o) }
  part_quiet k (Read false p d) o = record { gives = refl; kills = refl }
  part_quiet k (Write p t ss) o = record { gives = is_false (not (is_behind p.steps) && is_part F p n) (λ q. root_is F parts x n h p.root p.steps (and_right (not (is_behind p.steps)) (is_part F p n) q) o); kills = refl }
  part_quiet k (Borrow v p d) o = record { gives = refl; kills = refl }
  part_quiet k (Test p c) o = record { gives = refl; kills = refl }
  part_quiet k (Call g ts d) o = record { gives = refl; kills = refl }
  part_quiet k (Build w is ts d) o = record { gives = refl; kills = refl }
  part_quiet k (Input d) o = record { gives = refl; kills = refl }
  part_quiet k (Print t) o = record { gives = refl; kills = refl }
  part_quiet k (Give t) o = record { gives = refl; kills = refl }

stands_quiet : (x : ℕ) (qs : List Step) (k : ℕ) (a : Act) → LeavesBe a x → IsQuiet (standing x qs) (does k a)
stands_quiet x qs k (Declare z) o = record { gives = refl; kills = not_and z x (is_all qs) o }
stands_quiet x qs k (Dead z) o = record { gives = refl; kills = not_and z x (is_all qs) o }
stands_quiet x qs k (Read true p d) o = record { gives = refl; kills = other_not p.root x (same_steps p.steps qs) o }
stands_quiet x qs k (Read false p d) o = record { gives = refl; kills = refl }
stands_quiet x qs k (Write p t ss) o = record { gives = other_not p.root x (is_front p.steps qs) o; kills = refl }
stands_quiet x qs k (Borrow v p d) o = record { gives = refl; kills = refl }
stands_quiet x qs k (Test p c) o = record { gives = refl; kills = refl }
stands_quiet x qs k (Call g ts d) o = record { gives = refl; kills = refl }
stands_quiet x qs k (Build w is ts d) o = record { gives = refl; kills = refl }
stands_quiet x qs k (Input d) o = record { gives = refl; kills = refl }
stands_quiet x qs k (Print t) o = record { gives = refl; kills = refl }
stands_quiet x qs k (Give t) o = record { gives = refl; kills = refl }

in_quiet : (x : ℕ) (qs : List Step) (k : ℕ) (a : Act) → LeavesBe a x → IsQuiet (standing_in x qs) (does k a)
in_quiet x qs k (Declare z) o = record { gives = refl; kills = other_number z x o }
in_quiet x qs k (Dead z) o = record { gives = refl; kills = other_number z x o }
in_quiet x qs k (Read true p d) o = record { gives = refl; kills = other_not p.root x (is_front p.steps qs) o }
in_quiet x qs k (Read false p d) o = record { gives = refl; kills = refl }
in_quiet x qs k (Write p t ss) o = record { gives = other_not p.root x (is_front p.steps qs) o; kills = refl }
in_quiet x qs k (Borrow v p d) o = record { gives = refl; kills = refl }
in_quiet x qs k (Test p c) o = record { gives = refl; kills = refl }
in_quiet x qs k (Call g ts d) o = record { gives = refl; kills = refl }
in_quiet x qs k (Build w is ts d) o = record { gives = refl; kills = refl }
in_quiet x qs k (Input d) o = record { gives = refl; kills = refl }
in_quiet x qs k (Print t) o = record { gives = refl; kills = refl }
in_quiet x qs k (Give t) o = record { gives = refl; kills = refl }

fresh_quiet : (x k : ℕ) (a : Act) → LeavesBe a x → IsQuiet (fresh x) (does k a)
fresh_quiet x k (Declare z) o = record { gives = other_number z x o; kills = refl }
fresh_quiet x k (Dead z) o = record { gives = refl; kills = refl }
fresh_quiet x k (Read v p d) o = record { gives = refl; kills = refl }
fresh_quiet x k (Write p t ss) o = record { gives = refl; kills = other_not p.root x (is_all p.steps) o }
fresh_quiet x k (Borrow v p d) o = record { gives = refl; kills = refl }
fresh_quiet x k (Test p c) o = record { gives = refl; kills = refl }
fresh_quiet x k (Call g ts d) o = record { gives = refl; kills = refl }
fresh_quiet x k (Build w is ts d) o = record { gives = refl; kills = refl }
fresh_quiet x k (Input d) o = record { gives = refl; kills = refl }
fresh_quiet x k (Print t) o = record { gives = refl; kills = refl }
fresh_quiet x k (Give t) o = record { gives = refl; kills = refl }

-- it is not written as a whole
unwritten : (x k : ℕ) (a : Act) → LeavesBe a x → (living (variable x)).kills (does k a) ≡ false
unwritten x k (Write p t ss) o = of p.root p.steps o
  where
    of : (r : Root) (qs : List Step) → IsOther r x → has_root (roots_of (written (Write (record { root = r; steps = qs }) t ss))) (variable x) ≡ false
    of (variable z) [] o = is_false ((x == z) || false) (λ q. o (sym (eqb-true x z (first (x == z) q))))
      where
        first : (b : Bool) → (b || false) ≡ true → b ≡ true
        first true q = refl
        first false q = no q
    of (variable z) (q ∷ qs) o = refl
    of (temporary u) [] o = refl
    of (temporary u) (q ∷ qs) o = refl
unwritten x k (Declare z) o = refl
unwritten x k (Dead z) o = refl
unwritten x k (Read v p d) o = refl
unwritten x k (Borrow v p d) o = refl
unwritten x k (Test p c) o = refl
unwritten x k (Call g ts d) o = refl
unwritten x k (Build w is ts d) o = refl
unwritten x k (Input d) o = refl
unwritten x k (Print t) o = refl
unwritten x k (Give t) o = refl

-- ---- a fact from nothing: where it holds here, where it does not hold there, where it is live no more

module _ (S : Sides) (V : View) (same : V.start_there ≡ true → V.start ≡ true) (us w : List Action) where
  at_first : Traced (IsWalk S.text) V [] []
  at_first = start same

  over_all : ((ws : List Action) → IsWalk S.text (w ++ ws) → ahead V.live ws ≡ false) → Traced (IsWalk S.text) V us w
  over_all f = over us w at_first f

  unset_all : after V.old w V.start_there ≡ false → Traced (IsWalk S.text) V us w
  unset_all e = unset us w at_first e

module _ (S : Sides) (new : Parted S.frame) (old : Parted S.frame_there) (R : KnownVariables S) (h w us u : List Action) (H : Hist (world S) R h w) where
  own_there : (x y n m : ℕ) → is_part S.frame (own x) n ≡ true → LikePart S x y n m → is_part S.frame_there (own y) m ≡ true
  own_there x y n m p l = sym (l [] [] both_end) ∙ p

  assigned_not : (y : ℕ) → was_assigned (w ++ u) y ≡ true → after (fresh y) (w ++ u) true ≡ false
  assigned_not y e = all_turned y (w ++ u) false ∙ ap not e

  -- what was written last holds
  written_holds : (s : Switch) (b : Bool) (vs ws : List Action) (a : Action) → us ≡ vs ++ a ∷ ws → s.gives a ≡ true → AllQuiet s ws → after s (h ++ us) b ≡ true
  written_holds s b vs ws a e g q = after_both s h us b ∙ ap (λ l. after s l (after s h b)) e ∙ last_gives s vs ws a (after s h b) g q

  set_fate : (x y n m : ℕ) → is_part S.frame (own x) n ≡ true → LikePart S x y n m → Fate S R w us u x y → Traced (IsWalk S.text) (set_view S n y m) (h ++ us) (w ++ u)
  set_fate x y n m p l (untouched i f g) = kept us u (H (set_view S n y m) (part_set x y n m i p l)) (record {
    new = λ b. quiet_list (setting S.frame n) us b (λ a k. part_quiet S.frame new x n p a.node a.act (f a k));
    old = λ e. sym (quiet_behind_list (setting S.frame_there m) w u false (λ a k. part_quiet S.frame_there old y m (own_there x y n m p l) a.node a.act (g a k))) ∙ e;
    live = λ ws q. live_over (living (variable y)) u ws (λ a k. unwritten y a.node a.act (g a k)) q;
  })
  set_fate x y n m p l (lent i f s t v c) = kept us u (H (set_view S n y m) (part_set x y n m i p l)) (record {
    new = λ b. quiet_list (setting S.frame n) us b (λ a k. part_quiet S.frame new x n p a.node a.act (f a k));
    old = λ e. s m (own_there x y n m p l);
    live = λ ws q. v ws;
  })
  set_fate x y n m p l (handed_out vs ws k t ss e f c) =
      start (λ q. written_holds (setting S.frame n) false vs ws (does k (Write (own x) t ss)) e p (λ a i. part_quiet S.frame new x n p a.node a.act (f a i)))
  set_fate x y n m p l (needless i d f g) = over_all S (set_view S n y m) (λ e. e) (h ++ us) (w ++ u) d
  set_fate x y n m p l (begins_again d vs ws k e f) = over_all S (set_view S n y m) (λ e. e) (h ++ us) (w ++ u) d

  whole_fate : (x y : ℕ) (qs : List Step) → is_behind qs ≡ false → Fate S R w us u x y → Traced (IsWalk S.text) (whole_view x y qs) (h ++ us) (w ++ u)
  whole_fate x y qs o (untouched i f g) = kept us u (H (whole_view x y qs) (there_as_a_whole x y qs i o)) (record {
    new = λ b. quiet_list (standing x qs) us b (λ a k. stands_quiet x qs a.node a.act (f a k));
    old = λ e. sym (quiet_behind_list (standing_in y qs) w u false (λ a k. in_quiet y qs a.node a.act (g a k))) ∙ e;
    live = λ ws q. live_over (living (variable y)) u ws (λ a k. unwritten y a.node a.act (g a k)) q;
  })
  whole_fate x y qs o (lent i f s t v c) = kept us u (H (whole_view x y qs) (there_as_a_whole x y qs i o)) (record {
    new = λ b. quiet_list (standing x qs) us b (λ a k. stands_quiet x qs a.node a.act (f a k));
    old = λ e. t qs o;
    live = λ ws q. v ws;
  })
  whole_fate x y qs o (handed_out vs ws k t ss e f c) =
      start (λ q. written_holds (standing x qs) false vs ws (does k (Write (own x) t ss)) e (and_both (x == x) true (same_self x) refl) (λ a i. stands_quiet x qs a.node a.act (f a i)))
  whole_fate x y qs o (needless i d f g) = over_all S (whole_view x y qs) (λ e. e) (h ++ us) (w ++ u) d
  whole_fate x y qs o (begins_again d vs ws k e f) = over_all S (whole_view x y qs) (λ e. e) (h ++ us) (w ++ u) d

  fresh_fate : (x y : ℕ) → Fate S R w us u x y → Traced (IsWalk S.text) (fresh_view x y) (h ++ us) (w ++ u)
  fresh_fate x y (untouched i f g) = kept us u (H (fresh_view x y) (not_assigned x y i)) (record {
    new = λ b. quiet_list (fresh x) us b (λ a k. fresh_quiet x a.node a.act (f a k));
    old = λ e. sym (quiet_behind_list (fresh y) w u true (λ a k. fresh_quiet y a.node a.act (g a k))) ∙ e;
    live = λ ws q. always_ahead u ws q;
  })
  fresh_fate x y (lent i f s t v c) = unset_all S (fresh_view x y) (λ e. e) (h ++ us) (w ++ u) (assigned_not y c)
  fresh_fate x y (handed_out vs ws k t ss e f c) = unset_all S (fresh_view x y) (λ e. e) (h ++ us) (w ++ u) (assigned_not y c)
  fresh_fate x y (needless i d f g) = kept us u (H (fresh_view x y) (not_assigned x y i)) (record {
    new = λ b. quiet_list (fresh x) us b (λ a k. record { gives = (f a k).1; kills = (f a k).0 });
    old = λ e. not_made (fresh y) u (after (fresh y) w true) g (sym (after_both (fresh y) w u true) ∙ e);
    live = λ ws q. always_ahead u ws q;
  })
  fresh_fate x y (begins_again d vs ws k e f) = start (λ q. written_holds (fresh x) true vs ws (does k (Declare x)) e (same_self x) (λ a i. fresh_quiet x a.node a.act (f a i)))

  pub fates_kept : (T : KnownVariables S) → Fates S R T w us u → Hist (world S) T (h ++ us) (w ++ u)
  fates_kept T f V s = by s
    where
      steady_after : (l : List Action) (b : Bool) → after steady l b ≡ b
      steady_after [] b = refl
      steady_after (a ∷ l) b = steady_after l b

      by : {V : View} → IsSeen S T.variables V → Traced (IsWalk S.text) V (h ++ us) (w ++ u)
      by (part_set x y n m q p l) = set_fate x y n m p l (f.fates x y q)
      by (there_as_a_whole x y qs q o) = whole_fate x y qs o (f.fates x y q)
      by (not_assigned x y q) = fresh_fate x y (f.fates x y q)
      by (reference_set x n q p) = kept us u (H (sure_view (setting S.frame n)) (reference_set x n (f.references x q).0 p)) (record {
        new = λ b. quiet_list (setting S.frame n) us b (λ a k. part_quiet S.frame new x n p a.node a.act ((f.references x q).1 a k));
        old = λ e. steady_after w true;
        live = λ ws q. always_ahead u ws q;
      })
      by (reference_there x q) = kept us u (H (sure_view (standing x [])) (reference_there x (f.references x q).0)) (record {
        new = λ b. quiet_list (standing x []) us b (λ a k. stands_quiet x [] a.node a.act ((f.references x q).1 a k));
        old = λ e. steady_after w true;
        live = λ ws q. always_ahead u ws q;
      })
