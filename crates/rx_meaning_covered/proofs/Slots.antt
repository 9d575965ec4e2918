-- What has begun has a slot: by induction on what is reached.
use Rattle.std.proofs.Common.{◌≡◌, ℕ, Bool, true, false, nat_eq, List, [], ◌∷◌, length, Option, Some, None, refl, sym, subst, ◌∙◌, ⊎_elim, if◌then◌else◌}
use Rattle.std.specs.Prelude.{ℤ}
use Rattle.rx_core.specs.declared.types.Step.{Step}
use Rattle.rx_typed.specs.Tree.{Root, variable, temporary}
use Rattle.rx_lower_walks.specs.Actions.{Act, Declare, Dead, Read, Write, Borrow, Test, Call, Build, Input, Print, Give, Action, does}
use Rattle.rx_lower_walks.specs.Walks.{Among}
use Rattle.rx_lower_walks.specs.Walks as walk
use Rattle.rx_meaning.specs.Endings.{Cause, lacks, astray}
use Rattle.rx_meaning.specs.Straying.{why_no_part, why_not_found, why_not_written, why_not_checked}
use Rattle.rx_meaning.specs.Values.{Lack, moved, ended, Value, truth, unit_value, get, slot_of, State, with_memory, with_variable, Frame}
use Rattle.rx_meaning.specs.Results as results
use Rattle.rx_meaning.specs.Results.{Done, gives, or_ends}
use Rattle.rx_meaning.specs.Places.{spot, found, whole_value, reference_to, after_write}
use Rattle.rx_meaning.specs.Operators as operators
use Rattle.rx_meaning.specs.Operators.{Computed, make, shown}
use Rattle.rx_meaning.specs.Acting.{checked, computed, next_input, does_plainly}
use Rattle.rx_meaning.specs.Expressions.{Functions}
use Rattle.rx_facts_tables.specs.Setting.{is_behind}
use Rattle.rx_meaning_keeping.specs.Pending.{Pending}
use Rattle.rx_meaning_keeping.specs.Reaching.{Reached, starts, performs, comes_back, takes_turn, gets_unit, lets_go}
use Rattle.rx_meaning_keeping.specs.Strict.{marked_slot, marked_at, marked, does_strictly, strictly}
use Rattle.rx_meaning_covered.specs.Ways.{HasSlot, SlotsFor}
use Rattle.rx_meaning_covered.specs.Begun.{HasBegun, ActBegun}
use Rattle.rx_meaning_covered.proofs.Carrying.{strict_gives}
use Rattle.rx_meaning_covered.proofs.Passing.{among_both}
use Rattle.rx_meaning_covered.proofs.Ways.{equal_is}

-- the slots that an action leaves
abbrev LeavesSlots : Act → State → State → Type 0
LeavesSlots (Declare x) s s1 = s1.frame ≡ (with_variable x s).frame
LeavesSlots _ s s1 = s1.frame ≡ s.frame

abbrev LeavesDone : Act → State → Done ℕ → Type 0
LeavesDone a s (gives t v s1) = LeavesSlots a s s1
LeavesDone a s (results.ends t e) = Unit {0}

-- any act that declares nothing
abbrev FrameSame : State → Done ℕ → Type 0
FrameSame s (gives t v s1) = s1.frame ≡ s.frame
FrameSame s (results.ends t e) = Unit {0}

or_same : {A : Type 0} (s : State) (c : Cause) (o : Option A) (go : A → Done ℕ) → ((x : A) → FrameSame s (go x)) → FrameSame s (or_ends c o go)
or_same s c None go h = tt
or_same s c (Some x) go h = h x

input_same : (zs : List ℤ) (s : State) → FrameSame s (next_input zs s)
input_same [] s = refl
input_same (z ∷ zs) s = refl

computed_same : (c : Computed) (s : State) → FrameSame s (computed c s)
computed_same (operators.gives v) s = refl
computed_same (operators.traps t) s = tt
computed_same operators.senseless s = tt

plain_leaves : (a : Act) (vs : List Value) (s : State) → LeavesDone a s (does_plainly a vs s)
plain_leaves (Declare x) vs s = refl
plain_leaves (Dead x) vs s = refl
plain_leaves (Read m p d) vs s = same (does_plainly (Read m p d) vs s) (or_same s (why_not_found p vs s) (found p vs s) (λ f. or_ends lacks (whole_value f) (λ v. gives [] v s)) (λ f. or_same s lacks (whole_value f) (λ v. gives [] v s) (λ v. refl)))
  where
    same : (r : Done ℕ) → FrameSame s r → LeavesDone (Read m p d) s r
    same (gives t v s1) h = h
    same (results.ends t e) h = tt
plain_leaves (Write p t ss) [] s = tt
plain_leaves (Write p t ss) (v ∷ []) s =
    same (does_plainly (Write p t ss) (v ∷ []) s) (or_same s (why_no_part ss v) (get ss v) (λ u. or_ends (why_not_found p [] s) (spot p [] s) (λ at. or_ends (why_not_written s.memory at) (after_write u s.memory at) (λ M. gives [] unit_value (with_memory s M))))
    (λ u. or_same s (why_not_found p [] s) (spot p [] s) (λ at. or_ends (why_not_written s.memory at) (after_write u s.memory at) (λ M. gives [] unit_value (with_memory s M))) (λ at. or_same s (why_not_written s.memory at) (after_write u s.memory at) (λ M. gives [] unit_value (with_memory s M)) (λ M. refl))))
  where
    same : (r : Done ℕ) → FrameSame s r → LeavesDone (Write p t ss) s r
    same (gives t v s1) h = h
    same (results.ends t e) h = tt
plain_leaves (Write p t ss) (v ∷ u ∷ vs) s = tt
plain_leaves (Borrow m p d) vs s = same (does_plainly (Borrow m p d) vs s) (or_same s (why_not_found p vs s) (spot p vs s) (λ at. or_ends astray (reference_to m at) (λ v. gives [] v s)) (λ at. or_same s astray (reference_to m at) (λ v. gives [] v s) (λ v. refl)))
  where
    same : (r : Done ℕ) → FrameSame s r → LeavesDone (Borrow m p d) s r
    same (gives t v s1) h = h
    same (results.ends t e) h = tt
plain_leaves (Test p c) vs s =
    same (does_plainly (Test p c) vs s) (or_same s (why_not_found p vs s) (found p vs s) (λ f. or_ends (why_not_checked f.1) (checked c f.1) (λ y. gives [] (truth y) s)) (λ f. or_same s (why_not_checked f.1) (checked c f.1) (λ y. gives [] (truth y) s) (λ y. refl)))
  where
    same : (r : Done ℕ) → FrameSame s r → LeavesDone (Test p c) s r
    same (gives t v s1) h = h
    same (results.ends t e) h = tt
plain_leaves (Call f ts d) vs s = refl
plain_leaves (Build m js ts d) vs s = same (computed (make m js vs) s) (computed_same (make m js vs) s)
  where
    same : (r : Done ℕ) → FrameSame s r → LeavesDone (Build m js ts d) s r
    same (gives t v s1) h = h
    same (results.ends t e) h = tt
plain_leaves (Input d) vs s = same (next_input s.input s) (input_same s.input s)
  where
    same : (r : Done ℕ) → FrameSame s r → LeavesDone (Input d) s r
    same (gives t v s1) h = h
    same (results.ends t e) h = tt
plain_leaves (Print t) [] s = tt
plain_leaves (Print t) (v ∷ []) s = same (does_plainly (Print t) (v ∷ []) s) (or_same s (why_not_checked v) (shown v) (λ bytes. gives bytes unit_value s) (λ bytes. refl))
  where
    same : (r : Done ℕ) → FrameSame s r → LeavesDone (Print t) s r
    same (gives t v s1) h = h
    same (results.ends t e) h = tt
plain_leaves (Print t) (v ∷ u ∷ vs) s = tt
plain_leaves (Give t) [] s = tt
plain_leaves (Give t) (v ∷ []) s = refl
plain_leaves (Give t) (v ∷ u ∷ vs) s = tt

-- a mark leaves the frame
slot_frame : (o : Option ℕ) (ss : List Step) (l : Lack) (s : State) → (marked_slot o ss l s).frame ≡ s.frame
slot_frame None ss l s = refl
slot_frame (Some i) ss l s = refl

place_frame : (r : Root) (ss : List Step) (l : Lack) (s : State) → (marked_at r ss l s).frame ≡ s.frame
place_frame (temporary t) ss l s = refl
place_frame (variable x) ss l s = by (is_behind ss)
  where
    by : (b : Bool) → (if b then s else marked_slot (slot_of s.frame.slots x) ss l s).frame ≡ s.frame
    by true = refl
    by false = slot_frame (slot_of s.frame.slots x) ss l s

mark_frame : (a : Act) (s : State) → (marked a s).frame ≡ s.frame
mark_frame (Read true p d) s = place_frame p.root p.steps moved s
mark_frame (Read false p d) s = refl
mark_frame (Dead x) s = slot_frame (slot_of s.frame.slots x) [] ended s
mark_frame (Declare x) s = refl
mark_frame (Write p t ss) s = refl
mark_frame (Borrow b p d) s = refl
mark_frame (Test p c) s = refl
mark_frame (Call f ts d) s = refl
mark_frame (Build m js ts d) s = refl
mark_frame (Input d) s = refl
mark_frame (Print t) s = refl
mark_frame (Give t) s = refl

leaves_frame : (a : Act) (s s0 s1 : State) → LeavesSlots a s s0 → s1.frame ≡ s0.frame → LeavesSlots a s s1
leaves_frame (Declare x) s s0 s1 h e = e ∙ h
leaves_frame (Read m p d) s s0 s1 h e = e ∙ h
leaves_frame (Dead x) s s0 s1 h e = e ∙ h
leaves_frame (Write p t ss) s s0 s1 h e = e ∙ h
leaves_frame (Borrow b p d) s s0 s1 h e = e ∙ h
leaves_frame (Test p c) s s0 s1 h e = e ∙ h
leaves_frame (Call f ts d) s s0 s1 h e = e ∙ h
leaves_frame (Build m js ts d) s s0 s1 h e = e ∙ h
leaves_frame (Input d) s s0 s1 h e = e ∙ h
leaves_frame (Print t) s s0 s1 h e = e ∙ h
leaves_frame (Give t) s s0 s1 h e = e ∙ h

strict_leaves : (a : Act) (vs : List Value) (s : State) (t : List ℕ) (v : Value) (s1 : State) → does_strictly a vs s ≡ gives t v s1 → LeavesSlots a s s1
strict_leaves a vs s t v s1 e =
    let g = strict_gives a vs s t v s1 e in
    leaves_frame a s g.0 s1 (subst (λ r. LeavesDone a s r) g.1 (plain_leaves a vs s)) (subst (λ z. z.frame ≡ g.0.frame) g.2 (mark_frame a g.0))

-- ---- slots stay

abbrev FrameHas : Frame → ℕ → Type 0
FrameHas F x = (i : ℕ) × (slot_of F.slots x ≡ Some i)

more_slots : (x y i : ℕ) (bs : List (ℕ × ℕ)) → (j : ℕ) × (slot_of bs x ≡ Some j) → (j : ℕ) × (slot_of ((y, i) ∷ bs) x ≡ Some j)
more_slots x y i bs h = by (nat_eq x y)
  where
    by : (b : Bool) → (j : ℕ) × ((if b then Some i else slot_of bs x) ≡ Some j)
    by true = (i, refl)
    by false = h

own_slot : (x i : ℕ) (bs : List (ℕ × ℕ)) → (j : ℕ) × (slot_of ((x, i) ∷ bs) x ≡ Some j)
own_slot x i bs = (i, subst (λ z. (if z then Some i else slot_of bs x) ≡ Some i) (sym (equal_is x x refl)) refl)

slot_stays : (a : Act) (s s1 : State) → LeavesSlots a s s1 → (x : ℕ) → HasSlot s x → HasSlot s1 x
slot_stays (Declare y) s s1 e x h = subst (λ F. FrameHas F x) (sym e) (more_slots x y (length s.memory) s.frame.slots h)
slot_stays (Read m p d) s s1 e x h = subst (λ F. FrameHas F x) (sym e) h
slot_stays (Dead y) s s1 e x h = subst (λ F. FrameHas F x) (sym e) h
slot_stays (Write p t ss) s s1 e x h = subst (λ F. FrameHas F x) (sym e) h
slot_stays (Borrow b p d) s s1 e x h = subst (λ F. FrameHas F x) (sym e) h
slot_stays (Test p c) s s1 e x h = subst (λ F. FrameHas F x) (sym e) h
slot_stays (Call f ts d) s s1 e x h = subst (λ F. FrameHas F x) (sym e) h
slot_stays (Build m js ts d) s s1 e x h = subst (λ F. FrameHas F x) (sym e) h
slot_stays (Input d) s s1 e x h = subst (λ F. FrameHas F x) (sym e) h
slot_stays (Print t) s s1 e x h = subst (λ F. FrameHas F x) (sym e) h
slot_stays (Give t) s s1 e x h = subst (λ F. FrameHas F x) (sym e) h

declared_slot : (a : Action) (n x : ℕ) → does n (Declare x) ≡ a → (s s1 : State) → LeavesSlots a.act s s1 → HasSlot s1 x
declared_slot a n x q s s1 e = let e1 = subst (λ z. LeavesSlots z.act s s1) (sym q) e in subst (λ F. FrameHas F x) (sym e1) (own_slot x (length s.memory) s.frame.slots)

only_one : {A : Type 0} (a b : A) → Among a (b ∷ []) → a ≡ b
only_one a _ walk.here = refl
only_one a b (walk.there h) = elim h [ ]

pub begun_has_slot : (P : Functions) {f : ℕ} {vs : List Value} {s0 : State} {w : List Action} {s : State} {K : Pending} → Reached strictly P f vs s0 w s K → (x : ℕ) → HasBegun x w → HasSlot s x
begun_has_slot P (starts F q) x h = elim h.1 [ ]
begun_has_slot P (performs w s K F a us K1 t u s1 q d is r e) x h =
    let left = strict_leaves a.act us s t u s1 e in
    ⊎_elim (λ g. slot_stays a.act s s1 left x (begun_has_slot P r x (h.0, g))) (λ g. declared_slot a h.0 x (only_one (does h.0 (Declare x)) a g) s s1 left) (among_both (does h.0 (Declare x)) w (a ∷ []) h.1)
begun_has_slot P (comes_back w s K F G n g ts d us o m s1 v q un pr is r e wk b) x h = begun_has_slot P r x h
begun_has_slot P (takes_turn s n e r) x h = begun_has_slot P r x h
begun_has_slot P (gets_unit d F q g u r) x h = begun_has_slot P r x h
begun_has_slot P (lets_go t r) x h = begun_has_slot P r x h

pub slots_for : (a : Act) (w : List Action) (s : State) → ((x : ℕ) → HasBegun x w → HasSlot s x) → ActBegun a w → SlotsFor a s
slots_for (Read m p d) w s h g = λ x q. h x (g x q)
slots_for (Borrow m p d) w s h g = λ x q. h x (g x q)
slots_for (Test p c) w s h g = λ x q. h x (g x q)
slots_for (Write p t ss) w s h g = λ x q. h x (g x q)
slots_for (Declare x) w s h g = tt
slots_for (Dead x) w s h g = tt
slots_for (Call f ts d) w s h g = tt
slots_for (Build m js ts d) w s h g = tt
slots_for (Input d) w s h g = tt
slots_for (Print t) w s h g = tt
slots_for (Give t) w s h g = tt
