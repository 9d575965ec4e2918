-- A strict run is the plain run, unless it ends for a lack: what each action of both relates, where the memory of the first has more
-- lacks.
use Rattle.std.proofs.Common.{◌≡◌, ℕ, suc, ℤ, Bool, true, false, List, [], ◌∷◌, ◌++◌, Option, Some, None, ◌⊎◌, inl, inr, refl, sym, ap, subst, ◌∙◌, if◌then◌else◌}
use Rattle.rx_core.specs.declared.types.Step.{Step}
use Rattle.rx_typed.specs.Tree.{Place, Root, variable, temporary, Function}
use Rattle.rx_lower_walks.specs.Actions.{Act, Declare, Dead, Read, Write, Borrow, Test, Call, Build, Input, Print, Give}
use Rattle.rx_meaning.specs.Endings.{Cause, wrong, lacks, astray}
use Rattle.rx_meaning.specs.Straying.{why_no_part, why_not_found, why_not_written, why_not_checked}
use Rattle.rx_meaning.specs.Values.{Lack, moved, unset, Value, number, truth, whole, tagged, pointer, lacking, unit_value, and_then, get, put, element, slot_of, State, with_memory, with_turns, new_frame, Frame as MeaningFrame}
use Rattle.rx_meaning.specs.Values as values
use Rattle.rx_meaning.specs.Results as results
use Rattle.rx_meaning.specs.Results.{Done, gives, or_ends, Result, on, jumps, stops}
use Rattle.rx_meaning.specs.Places.{spot, found, whole_value, reference_to, after_write}
use Rattle.rx_meaning.specs.Operators as operators
use Rattle.rx_meaning.specs.Operators.{Computed, make, shown}
use Rattle.rx_meaning.specs.Acting.{checked, computed, next_input, does_plainly, plainly}
use Rattle.rx_meaning.specs.Expressions.{Functions, called}
use Rattle.rx_meaning.specs.Programs.{Program, begins, run_by}
use Rattle.rx_facts_tables.specs.Places.{Frame}
use Rattle.rx_facts_tables.specs.Setting.{is_behind}
use Rattle.rx_meaning_keeping.specs.Keeping.{IsFunction}
use Rattle.rx_meaning_keeping.specs.Relating.{Relation, DecideAlike, by_truth, by_none, DoneRelated, gave, ended, excused, Related, both_on, both_jump, both_stop, excused_stop, have_parted, AllRelated, no_more, and_one, IsRelated}
use Rattle.rx_meaning_keeping.specs.Strict.{looks_at_lack, with_slot, marked_slot, marked_at, marked, then_marks, strictly}
use Rattle.rx_meaning_keeping.specs.Ready.{IsInitial}
use Rattle.rx_meaning_keeping.specs.Behind.{NeverBehind, SameRun, same_on, same_jump, same_stop, SameButLacks, same, has_lacked}
use Rattle.rx_meaning_keeping.proofs.Relating.{calls_relate}
use Rattle.rx_meaning_keeping.proofs.Direct.{IsLack}
use Rattle.rx_meaning_keeping.proofs.Fewer.{fewer_mark}
use Rattle.rx_meaning_keeping.proofs.Blank.{Blank, blank_slot, blank_mark, blank_more, blank_length, blank_same, EndsToo, found_same, spot_same, whole_same, check_same, write_same, found_fails, spot_fails, check_fails, write_fails}
use Rattle.rx_meaning_keeping.proofs.Looking.{never_lacks}

-- ---- the relation: the first memory has more lacks, and the same values are given

abbrev marks : Relation
marks = record {
  W = Unit {0};
  R = λ k s s'. (N : List Value) × (s' ≡ with_memory s N) × Blank s.memory N;
  V = λ k v v'. v ≡ v';
  Grows = λ k l. Unit {0};
  Excused = λ e. e ≡ wrong lacks;
  Parted = ⊥;
}

-- both print the same
abbrev Prints : List ℕ → List ℕ → Type 0
Prints w u = w ≡ u

abbrev Same : Done ℕ → Done ℕ → Type 0
Same r q = DoneRelated marks Prints tt r q

failed : {c c' : Cause} → IsLack c ⊎ (c ≡ c') → Same (results.ends [] (wrong c)) (results.ends [] (wrong c'))
failed (inl l) = excused (ap (λ z. wrong z) l)
failed {c = c} (inr q) = subst (λ z. Same (results.ends [] (wrong c)) (results.ends [] (wrong z))) q (ended refl)

or_same : {A B : Type 0} (a : Act) (c c' : Cause) (o : Option A) (o' : Option B) (go : A → Done ℕ) (go' : B → Done ℕ) → EndsToo c o c' o' → ((x : A) → o ≡ Some x → (y : B) × (o' ≡ Some y) × Same (then_marks a (go x)) (go' y))
    → Same (then_marks a (or_ends c o go)) (or_ends c' o' go')
or_same a c c' None o' go go' f h = by (f refl)
  where
    by : IsLack c ⊎ ((o' ≡ None) × (c ≡ c')) → Same (results.ends [] (wrong c)) (or_ends c' o' go')
    by (inl l) = excused (ap (λ z. wrong z) l)
    by (inr q) = rw (q.0) (failed (inr q.1))
or_same a c c' (Some x) o' go go' f h = let q = h x refl in rw (q.1) q.2

-- the same of both
alike : {A : Type 0} (c : Cause) (o : Option A) → EndsToo c o c o
alike c o e = inr (e, refl)

slot_same : (x : ℕ) (ss : List Step) (l : Lack) (s : State) (N : List Value) → Blank s.memory N → marks.R tt (marked_slot (slot_of s.frame.slots x) ss l s) (with_memory s N)
slot_same x ss l s N b = slot (slot_of s.frame.slots x)
  where
    put_in : (i : ℕ) (o : Option Value) → element s.memory i ≡ o → (q : Option Value) → and_then o (λ v. put ss (lacking l) v) ≡ q → marks.R tt (with_memory s (with_slot s.memory i q)) (with_memory s N)
    put_in i o e None f = (N, refl, b)
    put_in i None e (Some y) f = cc
    put_in i (Some v) e (Some y) f = let r = blank_slot s.memory N i b v e in (N, refl, blank_mark s.memory N i y r.0 b r.1 (fewer_mark ss l v r.0 y r.2 f))

    slot : (o : Option ℕ) → marks.R tt (marked_slot o ss l s) (with_memory s N)
    slot None = (N, refl, b)
    slot (Some i) = put_in i (element s.memory i) refl (and_then (element s.memory i) (λ v. put ss (lacking l) v)) refl

marked_same : (r : Root) (ss : List Step) (l : Lack) (s : State) (N : List Value) → Blank s.memory N → marks.R tt (marked_at r ss l s) (with_memory s N)
marked_same (temporary t) ss l s N b = (N, refl, b)
marked_same (variable x) ss l s N b = near (is_behind ss)
  where
    near : (c : Bool) → marks.R tt (if c then s else marked_slot (slot_of s.frame.slots x) ss l s) (with_memory s N)
    near true = (N, refl, b)
    near false = slot_same x ss l s N b

move_same : (m : Bool) (p : Place) (d : _) (s : State) (N : List Value) → Blank s.memory N → marks.R tt (marked (Read m p d) s) (with_memory s N)
move_same true p d s N b = marked_same p.root p.steps moved s N b
move_same false p d s N b = (N, refl, b)

stay : (a : Act) (w : List ℕ) (v : Value) (s : State) (N : List Value) → marked a s ≡ s → Blank s.memory N → Same (then_marks a (gives w v s)) (gives w v (with_memory s N))
stay a w v s N e b = rw (e) (gave tt refl tt refl (N, refl, b))

computed_same : (a : Act) (c : Computed) (s : State) (N : List Value) → marked a s ≡ s → Blank s.memory N → Same (then_marks a (computed c s)) (computed c (with_memory s N))
computed_same a (operators.gives v) s N e b = stay a [] v s N e b
computed_same a (operators.traps t) s N e b = ended refl
computed_same a operators.senseless s N e b = ended refl

input_same : (d : _) (zs : List ℤ) (s : State) (N : List Value) → Blank s.memory N → Same (then_marks (Input d) (next_input zs s)) (next_input zs (with_memory s N))
input_same d [] s N b = gave tt refl tt refl (N, refl, b)
input_same d (z ∷ zs) s N b = gave tt refl tt refl (N, refl, b)

plain_same : (a : Act) (vs : List Value) (s : State) (N : List Value) → Blank s.memory N → Same (then_marks a (does_plainly a vs s)) (does_plainly a vs (with_memory s N))
plain_same (Declare x) vs s N b = gave tt refl tt refl (N ++ lacking unset ∷ [], rw (blank_length s.memory N b) refl, blank_more s.memory N (lacking unset) b)
plain_same (Dead x) vs s N b = gave tt refl tt refl (slot_same x [] values.ended s N b)
plain_same (Read m p d) vs s N b =
    or_same (Read m p d) (why_not_found p vs s) (why_not_found p vs (with_memory s N)) (found p vs s) _ (λ f. or_ends lacks (whole_value f) (λ v. gives [] v s)) _ (found_fails p vs s N b) (λ f e. let g = found_same p vs s N f b e in (
      g.0,
      g.1,
      or_same (Read m p d) lacks lacks (whole_value f) _ (λ v. gives [] v s) _ (λ e1. inl refl) (λ v e1. (v, whole_same f g.0 v g.3 e1, gave tt refl tt refl (move_same m p d s N b))),
    ))
plain_same (Borrow m p d) vs s N b =
    or_same (Borrow m p d) (why_not_found p vs s) (why_not_found p vs (with_memory s N)) (spot p vs s) _ (λ at. or_ends astray (reference_to m at) (λ v. gives [] v s)) _ (spot_fails p vs s N b) (λ at e. (
      at,
      spot_same p vs s N at b e,
      or_same (Borrow m p d) astray astray (reference_to m at) (reference_to m at) (λ v. gives [] v s) _ (alike astray (reference_to m at)) (λ v e1. (v, e1, gave tt refl tt refl (N, refl, b))),
    ))
plain_same (Test p c) vs s N b =
    or_same (Test p c) (why_not_found p vs s) (why_not_found p vs (with_memory s N)) (found p vs s) _ (λ f. or_ends (why_not_checked f.1) (checked c f.1) (λ t. gives [] (truth t) s)) _ (found_fails p vs s N b) (λ f e. let g = found_same p vs s N f b e in (
      g.0,
      g.1,
      or_same (Test p c) (why_not_checked f.1) (why_not_checked g.0.1) (checked c f.1) _ (λ t. gives [] (truth t) s) _ (check_fails c f.1 g.0.1 g.3) (λ t e1. (t, check_same c f.1 g.0.1 t g.3 e1, gave tt refl tt refl (N, refl, b))),
    ))
plain_same (Write p t ss) (v ∷ []) s N b =
    or_same (Write p t ss) (why_no_part ss v) (why_no_part ss v) (get ss v) (get ss v) (λ u. or_ends (why_not_found p [] s) (spot p [] s) (λ at. or_ends (why_not_written s.memory at) (after_write u s.memory at) (λ M. gives [] unit_value (with_memory s M)))) _ (alike (why_no_part ss v) (get ss v)) (λ u e. (
      u,
      e,
      or_same (Write p t ss) (why_not_found p [] s) (why_not_found p [] (with_memory s N)) (spot p [] s) _ (λ at. or_ends (why_not_written s.memory at) (after_write u s.memory at) (λ M. gives [] unit_value (with_memory s M))) _ (spot_fails p [] s N b) (λ at e1. (
        at,
        spot_same p [] s N at b e1,
        or_same (Write p t ss) (why_not_written s.memory at) (why_not_written N at) (after_write u s.memory at) _ (λ M. gives [] unit_value (with_memory s M)) _ (write_fails u s.memory N at b) (λ M e2. let r = write_same u s.memory N M at b e2 in (r.0, r.1, gave tt refl tt refl (r.0, refl, r.2))),
      )),
    ))
plain_same (Write p t ss) [] s N b = ended refl
plain_same (Write p t ss) (v ∷ u ∷ vs) s N b = ended refl
plain_same (Call f ts d) vs s N b = gave tt refl tt refl (N, refl, b)
plain_same (Build w js ts d) vs s N b = computed_same (Build w js ts d) (make w js vs) s N refl b
plain_same (Input d) vs s N b = input_same d s.input s N b
plain_same (Print t) (v ∷ []) s N b = or_same (Print t) (why_not_checked v) (why_not_checked v) (shown v) (shown v) (λ bytes. gives bytes unit_value s) _ (alike (why_not_checked v) (shown v)) (λ x e. (x, e, gave tt refl tt refl (N, refl, b)))
plain_same (Print t) [] s N b = ended refl
plain_same (Print t) (v ∷ u ∷ vs) s N b = ended refl
plain_same (Give t) (v ∷ []) s N b = gave tt refl tt refl (N, refl, b)
plain_same (Give t) [] s N b = ended refl
plain_same (Give t) (v ∷ u ∷ vs) s N b = ended refl

values_same : (vs us : List Value) → AllRelated marks tt vs us → vs ≡ us
values_same _ _ no_more = refl
values_same _ _ (and_one h t) = rw (h) (rw (values_same _ _ t) refl)

decide : (v : Value) → DecideAlike marks v v
decide (truth b) = by_truth b
decide (number k z) = by_none tt tt refl
decide (whole vs) = by_none tt tt refl
decide (tagged i vs) = by_none tt tt refl
decide (pointer i p m) = by_none tt tt refl
decide (lacking l) = by_none tt tt refl

abbrev framed : State → MeaningFrame → State
framed s G = record s { frame = G }

marks_related : IsRelated marks Prints strictly plainly
marks_related = record {
  told_none = refl;
  told_more = λ w v u z p q. rw (p) (rw (q) refl);
  told_inner = λ w u p. p;
  same = λ k. tt;
  chain = λ k l m a b. tt;
  values_grow = λ k l v v' g h. h;
  unit = λ k. refl;
  truths = λ k v v' h. subst (λ u. DecideAlike marks v u) h (decide v);
  turns = λ k s s' r. (sym (ap (λ z. z.turns) r.1), λ n e. (r.0, ap (λ z. with_turns z n) r.1, r.2));
  enters = λ k s s' i r. (r.0, ap (λ z. framed z (new_frame i)) r.1, r.2);
  returns = λ k l s s' s1 s1' g r q. (q.0, ap (λ z. framed z s'.frame) q.1 ∙ ap (λ f. framed (with_memory s1 q.0) f) (ap (λ z. z.frame) r.1), q.2);
  performs = λ k a vs vs' s s' h r. rw (r.1) (rw (← values_same vs vs' h) (by (looks_at_lack a.act vs s) a.act vs s r.0 r.2));
}
  where
    by : (b : Bool) (a : Act) (vs : List Value) (s : State) (N : List Value) → Blank s.memory N → Same (if b then results.ends [] (wrong lacks) else then_marks a (does_plainly a vs s)) (does_plainly a vs (with_memory s N))
    by true a vs s N b = excused refl
    by false a vs s N b = plain_same a vs s N b

runs_related : (P : Functions) (n f : ℕ) (s : State) → Related marks Prints tt (λ k v v'. v ≡ v') (called strictly P n f [] s) (called plainly P n f [] s)
runs_related P n f s = calls_relate marks Prints strictly plainly marks_related P n f tt [] [] s s no_more (s.memory, refl, blank_same s.memory)

-- ---- as runs of programs

of_related : (r q : Result ℕ Value) → Related marks Prints tt (λ k v v'. v ≡ v') r q → SameButLacks r q
of_related _ _ (both_on {w = w} {a = a} {b = b} {s = s} {s' = s'} m t g e r) = same (subst (λ z. SameRun (on w a s) (on z b s')) t (subst (λ z. SameRun (on w a s) (on w z s')) e same_on))
of_related _ _ (both_jump {w = w} {x = x} {v = a} {v' = b} {s = s} {s' = s'} m t g e r) = same (subst (λ z. SameRun (jumps w x a s) (jumps z x b s')) t (subst (λ z. SameRun (jumps w x a s) (jumps w x z s')) e same_jump))
of_related _ _ (both_stop {w = w} {e = e} t) = same (subst (λ z. SameRun (stops w e) (stops z e)) t same_stop)
of_related _ q (excused_stop {w = w} x) = subst (λ z. SameButLacks (stops w z) q) (sym x) has_lacked
of_related r q (have_parted p) = absurd p

pub strict_runs_are_plain : (P : Program) (given : List ℤ) (n : ℕ) → SameButLacks (run_by strictly P given n) (run_by plainly P given n)
strict_runs_are_plain P given n = of_related _ _ (runs_related P.functions n P.main (begins given n))

no_lacks : (r q : Result ℕ Value) → SameButLacks r q → ((t : List ℕ) → r ≡ stops t (wrong lacks) → ⊥) → SameRun r q
no_lacks r q (same h) n = h
no_lacks _ q (has_lacked {w = w}) n = absurd (n w refl)

-- and where no action goes behind a reference, they are the same
pub plain_where_never_behind : (P : Program) (Fs : ℕ → Frame) (muts : ℕ → List Bool) → IsInitial P.functions Fs muts → (F : Function) → IsFunction P.functions P.main F → NeverBehind P.functions → (given : List ℤ) (n : ℕ)
    → SameRun (run_by strictly P given (suc n)) (run_by plainly P given (suc n))
plain_where_never_behind P Fs muts all F q never given n = no_lacks _ _ (strict_runs_are_plain P given (suc n)) (λ t e. never_lacks P Fs muts all given n F q never t e)
