-- A copy is in order behind a walk that comes from one of the text, where the text's function is initialised: what the text's action needs
-- holds there, the action uses the variable, so it holds here. And what begins a variable makes its facts known.
use Rattle.std.proofs.Common.{◌≡◌, ◌⊎◌, inl, inr, ℕ, Bool, true, false, not, ◌&&◌, ◌||◌, ◌==◌, List, [], ◌∷◌, ◌++◌, Some, refl, sym, ◌∙◌, subst, ap, eqb-true}
use Rattle.rx_core.specs.declared.types.Step.{Step}
use Rattle.rx_core.specs.declared.types.Step.TheVariants as step
use Rattle.rx_typed.specs.Tree.{Root, variable, temporary, Temporary, Place, own}
use Rattle.rx_typed.specs.TypedPlaces.{is_front}
use Rattle.rx_lower_walks.specs.Actions.{Act, Declare, Dead, Read, Write, Borrow, Test, Action, does}
use Rattle.rx_lower_walks.specs.Walks.{IsWalk, Among, here, there}
use Rattle.rx_facts_tables.specs.Along.{Switch, behind, after}
use Rattle.rx_facts_tables.specs.Places.{Frame, is_part}
use Rattle.rx_facts_tables.specs.Setting.{is_behind, setting, is_set, looked_at, AllSet}
use Rattle.rx_facts_tables.specs.Wholes.{placed, holds_in, is_variable, is_all, enters, assigns, standing, stands, was_assigned}
use Rattle.rx_facts_tables.specs.Initialised.{IsFixed, InOrder, Initialised}
use Rattle.rx_facts_tables.specs.Live.{living, used, has_root}
use Rattle.rx_meaning_keeping.proofs.Parts.{Parted}
use Rattle.rx_engine_initial.specs.Tracing.{View, Traced, start, copied}
use Rattle.rx_engine_initial.specs.Matching.{Hist}
use Rattle.rx_engine_initial.specs.Variables.{Kept, as_itself, by_reference, Sides, SameWay, both_end, LikePart, LikeVariable, KnownVariables, standing_in, fresh, always, steady, set_view, whole_view, fresh_view, sure_view, IsSeen, part_set, there_as_a_whole, not_assigned, reference_set, reference_there}
use Rattle.rx_engine_initial.specs.Copies.{IsSafe, in_temporary, behind_it, IsEasy, easy_copy, easy_take, easy_borrow, easy_test, easy_write, easy_call, easy_build, easy_input, easy_print, easy_give, IsCopy, reads, writes, borrows, tests, declares, ends, easily, BeginsSo, begins_so, world}
use Rattle.rx_engine_initial.proofs.Tracing.{after_one, holds_here}
use Rattle.rx_engine_initial.proofs.Ways.{no, and_left, and_right, and_both, clash, same_self, all_same, Holds, holds_of, of_holds, fronts_hold, holds_same}
use Rattle.rx_engine_initial.proofs.StandingIn.{stands_in}
use Rattle.rx_engine_initial.proofs.Uses.{or_false, some_is, none_is, uses_self, entered_uses, all_turned, not_true_is, no_part, ahead_at}
use Rattle.rx_engine_initial.proofs.Keeping.{copy_alike, whole_gives}

steady_after : (w : List Action) (b : Bool) → after steady w b ≡ b
steady_after [] b = refl
steady_after (a ∷ w) b = steady_after w b

nothing_more : (k : Bool) (ss qs : List Step) → holds_in qs (step.Deref k ∷ ss) ≡ true → qs ≡ []
nothing_more k ss [] h = refl
nothing_more k ss (step.Field i ∷ qs) h = no (holds_of (step.Field i ∷ qs) (step.Deref k ∷ ss) h).front
nothing_more k ss (step.Variant v ∷ qs) h = no (holds_of (step.Variant v ∷ qs) (step.Deref k ∷ ss) h).front
nothing_more k ss (step.Deref m ∷ qs) h = clash true refl (holds_of (step.Deref m ∷ qs) (step.Deref k ∷ ss) h).outside

module _ (S : Sides) (new : Parted S.frame) (old : Parted S.frame_there) (init : Initialised S.frame_there S.muts_there S.text) (R : KnownVariables S) where
  module _ (us w : List Action) (H : Hist (world S) R us w) (j : ℕ) (b : Act) (c : IsWalk S.text (w ++ does j b ∷ [])) where
    holds : (V : View) → IsSeen S R.variables V → V.live.gives (does j b) ≡ true → after V.old w V.start_there ≡ true → after V.new us V.start ≡ true
    holds V s l h = holds_here (IsWalk S.text) V (whole_gives S new old R s) (H V s) (does j b ∷ []) c (ahead_at V.live (does j b) l) h

    -- what the text's action looks at is set there, so its copy's is here
    looks_well : (x y : ℕ) (ss rs : List Step) → Among (as_itself x y) R.variables → SameWay ss rs → looked_at b ≡ Some (placed y rs) → has_root (used b) (variable y) ≡ true → AllSet S.frame us (placed x ss)
    looks_well x y ss rs q s e l n k = by ((R.alike x y q).parts n (new.within x [] ss n k))
      where
        by : ((m : ℕ) × LikePart S x y n m) → is_set S.frame us n ≡ true
        by (m, f) = holds (set_view S n y m) (part_set x y n m q (new.within x [] ss n k) f) l ((init w (does j b) c).looks (placed y rs) e m (sym (f ss rs s) ∙ k))

    looks_safely : {p : Place} → IsSafe R.variables p → AllSet S.frame us p
    looks_safely (in_temporary {t = t} {ss = ss}) n k = absurd (no_part S.frame t ss n k)
    looks_safely (behind_it {x = x} {k = k} {ss = ss} q) n h = holds (sure_view (setting S.frame n)) (reference_set x n q (new.within x [] (step.Deref k ∷ ss) n h)) refl (steady_after w true)

    looked : {p q : Place} → AllSet S.frame us p → Some p ≡ Some q → AllSet S.frame us q
    looked f e = subst (λ p. AllSet S.frame us p) (some_is e) f

    enters_safely : {p : Place} → IsSafe R.variables p → (t : Temporary) (rs : List Step) (x : ℕ) (qs : List Step) → enters x qs (Write p t rs) ≡ true → stands us x qs ≡ true
    enters_safely in_temporary t rs x qs h = no h
    enters_safely (behind_it {x = z} {k = k} {ss = ss} q) t rs x qs h =
        subst (λ y. stands us y qs ≡ true) (eqb-true z x (and_left (z == x) (holds_in qs (step.Deref k ∷ ss)) h))
        (subst (λ ps. stands us z ps ≡ true) (sym (nothing_more k ss qs (and_right (z == x) (holds_in qs (step.Deref k ∷ ss)) h))) (holds (sure_view (standing z [])) (reference_there z q) refl (steady_after w true)))

    assigns_safely : {p : Place} → IsSafe R.variables p → (t : Temporary) (rs : List Step) (x : ℕ) → assigns x (Write p t rs) ≡ true → was_assigned us x ≡ false
    assigns_safely in_temporary t rs x h = no h
    assigns_safely (behind_it {x = z} q) t rs x h = no (and_right (z == x) false h)

  -- the place that a write is in stands, and so does each around it
  enters_well : (us w : List Action) → Hist (world S) R us w → (j x y : ℕ) (ss rs ts : List Step) (u : Temporary) → IsWalk S.text (w ++ does j (Write (placed y rs) u ts) ∷ []) → Among (as_itself x y) R.variables → SameWay ss rs
      → (qs : List Step) → Holds qs ss → stands us x qs ≡ true
  enters_well us w H j x y ss rs ts u c q s qs h =
      holds us w H j (Write (placed y rs) u ts) c (whole_view x y qs) (there_as_a_whole x y qs q h.outside) (entered_uses y qs rs u ts (of_holds qs rs k))
      (stands_in y qs w (λ ps f. (init w (does j (Write (placed y rs) u ts)) c).enters y ps (and_both (y == y) (holds_in ps rs) (same_self y) (of_holds ps rs (fronts_hold ps qs rs f k)))))
    where
      k : Holds qs rs
      k = holds_same s qs h

  assigns_well : (us w : List Action) → Hist (world S) R us w → (j x y : ℕ) (ss rs ts : List Step) (u : Temporary) → IsWalk S.text (w ++ does j (Write (placed y rs) u ts) ∷ []) → Among (as_itself x y) R.variables → SameWay ss rs
      → is_all ss ≡ true → IsFixed S.muts x → was_assigned us x ≡ false
  assigns_well us w H j x y ss rs ts u c q s e i =
      not_true_is (was_assigned us x) (sym (all_turned x us false) ∙ holds us w H j (Write (placed y rs) u ts) c (fresh_view x y) (not_assigned x y q) refl
      (all_turned y w false ∙ ap not ((init w (does j (Write (placed y rs) u ts)) c).assigns y (and_both (y == y) (is_all rs) (same_self y) (sym (all_same s) ∙ e)) ((R.alike x y q).fixed i))))

  pub in_order : (us w : List Action) → Hist (world S) R us w → (i j : ℕ) {a b : Act} → IsCopy R.variables a b → IsWalk S.text (w ++ does j b ∷ []) → InOrder S.frame S.muts us (does i a)
  in_order us w H i j (reads {x = x} {y = y} {u = v} {ss = ss} {rs = rs} {e = d} q s f) c = record {
    looks = λ p e. looked us w H j (Read v (placed y rs) d) c (looks_well us w H j (Read v (placed y rs) d) c x y ss rs q s refl (uses_self y)) e;
    enters = λ z qs h. no h;
    assigns = λ z h k. no h;
  }
  in_order us w H i j (borrows {x = x} {y = y} {l = v} {ss = ss} {rs = rs} {e = d} q s) c = record {
    looks = λ p e. looked us w H j (Borrow v (placed y rs) d) c (looks_well us w H j (Borrow v (placed y rs) d) c x y ss rs q s refl (uses_self y)) e;
    enters = λ z qs h. no h;
    assigns = λ z h k. no h;
  }
  in_order us w H i j (tests {x = x} {y = y} {e = v} {ss = ss} {rs = rs} q s) c = record {
    looks = λ p e. looked us w H j (Test (placed y rs) v) c (looks_well us w H j (Test (placed y rs) v) c x y ss rs q s refl (uses_self y)) e;
    enters = λ z qs h. no h;
    assigns = λ z h k. no h;
  }
  in_order us w H i j (writes {x = x} {y = y} {ss = ss} {rs = rs} {ws = ts} {u = u} q s) c = record {
    looks = λ p e. none_is e;
    enters = λ z qs h. subst (λ k. stands us k qs ≡ true) (eqb-true x z (and_left (x == z) (holds_in qs ss) h)) (enters_well us w H j x y ss rs ts u c q s qs (holds_of qs ss (and_right (x == z) (holds_in qs ss) h)));
    assigns = λ z h k. let e = eqb-true x z (and_left (x == z) (is_all ss) h) in
        subst (λ v. was_assigned us v ≡ false) e (assigns_well us w H j x y ss rs ts u c q s (and_right (x == z) (is_all ss) h) (subst (λ v. IsFixed S.muts v) (sym e) k));
  }
  in_order us w H i j (declares q) c = record { looks = λ p e. none_is e; enters = λ z qs h. no h; assigns = λ z h k. no h }
  in_order us w H i j (ends q) c = record { looks = λ p e. none_is e; enters = λ z qs h. no h; assigns = λ z h k. no h }
  in_order us w H i j (easily {b = b} (easy_copy p) f) c = record { looks = λ q e. looked us w H j b c (looks_safely us w H j b c p) e; enters = λ z qs h. no h; assigns = λ z h k. no h }
  in_order us w H i j (easily {b = b} (easy_take {t = t} {ss = ss}) f) c = record { looks = λ q e. looked us w H j b c (λ n k. absurd (no_part S.frame t ss n k)) e; enters = λ z qs h. no h; assigns = λ z h k. no h }
  in_order us w H i j (easily {b = b} (easy_borrow p) f) c = record { looks = λ q e. looked us w H j b c (looks_safely us w H j b c p) e; enters = λ z qs h. no h; assigns = λ z h k. no h }
  in_order us w H i j (easily {b = b} (easy_test p) f) c = record { looks = λ q e. looked us w H j b c (looks_safely us w H j b c p) e; enters = λ z qs h. no h; assigns = λ z h k. no h }
  in_order us w H i j (easily {b = b} (easy_write {t = t} {ss = ss} p) f) c =
      record { looks = λ q e. none_is e; enters = λ z qs h. enters_safely us w H j b c p t ss z qs h; assigns = λ z h k. assigns_safely us w H j b c p t ss z h }
  in_order us w H i j (easily easy_call f) c = record { looks = λ q e. none_is e; enters = λ z qs h. no h; assigns = λ z h k. no h }
  in_order us w H i j (easily easy_build f) c = record { looks = λ q e. none_is e; enters = λ z qs h. no h; assigns = λ z h k. no h }
  in_order us w H i j (easily easy_input f) c = record { looks = λ q e. none_is e; enters = λ z qs h. no h; assigns = λ z h k. no h }
  in_order us w H i j (easily easy_print f) c = record { looks = λ q e. none_is e; enters = λ z qs h. no h; assigns = λ z h k. no h }
  in_order us w H i j (easily easy_give f) c = record { looks = λ q e. none_is e; enters = λ z qs h. no h; assigns = λ z h k. no h }

pub dead_in_order : (S : Sides) (us : List Action) (n x : ℕ) → InOrder S.frame S.muts us (does n (Dead x))
dead_in_order S us n x = record { looks = λ p e. none_is e; enters = λ z qs h. no h; assigns = λ z h k. no h }

pub declare_in_order : (S : Sides) (us : List Action) (n x : ℕ) → InOrder S.frame S.muts us (does n (Declare x))
declare_in_order S us n x = record { looks = λ p e. none_is e; enters = λ z qs h. no h; assigns = λ z h k. no h }

-- ---- a variable that begins

-- a fact of it does not hold there, or it holds here
abbrev Starts : View → List Action → List Action → Type 0
Starts V us w = after V.old w V.start_there ≡ true → after V.new us V.start ≡ true

killed : {A : Type 0} (s : Switch) (w : List Action) (a : Action) (b : Bool) → s.gives a ≡ false → s.kills a ≡ true → after s (w ++ a ∷ []) b ≡ true → A
killed s w a b g k h = lost (s.gives a) (s.kills a) (after s w b) g k (sym (after_one s w a b) ∙ h)
  where
    lost : {A : Type 0} (g k b : Bool) → g ≡ false → k ≡ true → (g || (not k && b)) ≡ true → A
    lost false true b p q h = no h
    lost true k b p q h = clash true refl p
    lost false false b p q h = no q

given_last : (s : Switch) (us : List Action) (a : Action) (b : Bool) → s.gives a ≡ true → after s (us ++ a ∷ []) b ≡ true
given_last s us a b g = after_one s us a b ∙ by (s.gives a) (not (s.kills a) && after s us b) g
  where
    by : (g c : Bool) → g ≡ true → (g || c) ≡ true
    by true c h = refl
    by false c h = no h

module _ (S : Sides) (us w : List Action) (i j x y : ℕ) (vs : List Kept) where
  one_set : (z u n m : ℕ) → Among (as_itself z u) (as_itself x y ∷ vs) → is_part S.frame (own z) n ≡ true → LikePart S z u n m
      → IsSeen S vs (set_view S n u m) ⊎ Starts (set_view S n u m) (us ++ does i (Declare x) ∷ []) (w ++ does j (Declare y) ∷ [])
  one_set z u n m here h l = inr (λ e. killed (setting S.frame_there m) w (does j (Declare y)) false refl (sym (l [] [] both_end) ∙ h) e)
  one_set z u n m (there q) h l = inl (part_set z u n m q h l)

  one_whole : (z u : ℕ) (qs : List Step) → Among (as_itself z u) (as_itself x y ∷ vs) → is_behind qs ≡ false
      → IsSeen S vs (whole_view z u qs) ⊎ Starts (whole_view z u qs) (us ++ does i (Declare x) ∷ []) (w ++ does j (Declare y) ∷ [])
  one_whole z u qs here o = inr (λ e. killed (standing_in y qs) w (does j (Declare y)) false refl (same_self y) e)
  one_whole z u qs (there q) o = inl (there_as_a_whole z u qs q o)

  one_fresh : (z u : ℕ) → Among (as_itself z u) (as_itself x y ∷ vs) → IsSeen S vs (fresh_view z u) ⊎ Starts (fresh_view z u) (us ++ does i (Declare x) ∷ []) (w ++ does j (Declare y) ∷ [])
  one_fresh z u here = inr (λ e. given_last (fresh x) us (does i (Declare x)) true (same_self x))
  one_fresh z u (there q) = inl (not_assigned z u q)

  reference_left : (z : ℕ) → Among (by_reference z) (as_itself x y ∷ vs) → Among (by_reference z) vs
  reference_left z (there q) = q

  split : {V : View} → IsSeen S (as_itself x y ∷ vs) V → IsSeen S vs V ⊎ Starts V (us ++ does i (Declare x) ∷ []) (w ++ does j (Declare y) ∷ [])
  split (part_set z u n m q h l) = one_set z u n m q h l
  split (there_as_a_whole z u qs q o) = one_whole z u qs q o
  split (not_assigned z u q) = one_fresh z u q
  split (reference_set z n q h) = inl (reference_set z n (reference_left z q) h)
  split (reference_there z q) = inl (reference_there z (reference_left z q))

pub wider_seen : (S : Sides) (k : Kept) (vs : List Kept) {V : View} → IsSeen S vs V → IsSeen S (k ∷ vs) V
wider_seen S k vs (part_set x y n m q h l) = part_set x y n m (there q) h l
wider_seen S k vs (there_as_a_whole x y qs q o) = there_as_a_whole x y qs (there q) o
wider_seen S k vs (not_assigned x y q) = not_assigned x y (there q)
wider_seen S k vs (reference_set x n q h) = reference_set x n (there q) h
wider_seen S k vs (reference_there x q) = reference_there x (there q)

pub begun : (S : Sides) → Parted S.frame → Parted S.frame_there → (R T : KnownVariables S) (us w : List Action) (a b : Action) → BeginsSo S R T a b → Hist (world S) R us w → Hist (world S) T (us ++ a ∷ []) (w ++ b ∷ [])
begun S new old R T us w _ _ (begins_so {m = i} {n = j} {x = x} {y = y} e f) H V s = by (split S us w i j x y R.variables (subst (λ vs. IsSeen S vs V) e s))
  where
    by : IsSeen S R.variables V ⊎ Starts V (us ++ does i (Declare x) ∷ []) (w ++ does j (Declare y) ∷ []) → Traced (IsWalk S.text) V (us ++ does i (Declare x) ∷ []) (w ++ does j (Declare y) ∷ [])
    by (inl q) = copied (does i (Declare x)) (does j (Declare y)) (H V q) (copy_alike S new old T (declares (subst (λ vs. Among (as_itself x y) vs) (sym e) here)) (subst (λ vs. IsSeen S vs V) (sym e) (wider_seen S (as_itself x y) R.variables q)) i j)
    by (inr g) = start g
