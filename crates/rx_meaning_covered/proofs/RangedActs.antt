-- Each action keeps integers in the ranges of their kinds, and so do calls.
use Rattle.std.specs.Prelude.{ℤ, pos}
use Rattle.std.proofs.Common.{◌≡◌, ℕ, Bool, true, false, List, [], ◌∷◌, ◌++◌, Option, Some, None, refl, sym, subst, ◌⊎◌, inl, inr, if◌then◌else◌}
use Rattle.rx_core.specs.declared.types.Kind.{Kind}
use Rattle.rx_core.specs.declared.types.Step.{Step}
use Rattle.rx_typed.specs.Tree.{Root, variable, temporary, Temporary, Place, Parameter, Constant, whole_number, Making, constant, negation, inversion, operation, lazy, tuple, struct, variant_of, Function, own, temporary_place, under}
use Rattle.rx_typed.specs.Tree as tree
use Rattle.rx_lower_walks.specs.Actions.{Act, Declare, Dead, Read, Write, Borrow, Test, Call, Build, Input, Print, Give, Action, does, operands}
use Rattle.rx_lower_walks.specs.Walks.{IsWalk, Among}
use Rattle.rx_lower_walks.specs.Walks as walk
use Rattle.rx_meaning.specs.Endings.{Cause, Ending, wrong, lacks, astray}
use Rattle.rx_meaning.specs.Straying.{why_no_part, why_not_found, why_not_written, why_not_checked}
use Rattle.rx_meaning.specs.Values.{Lack, moved, ended, unset, Value, number, truth, whole, tagged, pointer, lacking, is_set, part, unit_value, and_then, get, put, element, with_element, slot_of, State, with_memory, Frame}
use Rattle.rx_meaning.specs.Results as results
use Rattle.rx_meaning.specs.Results.{Done, gives, or_ends}
use Rattle.rx_meaning.specs.Places.{Spot, in_slot, in_value, content, deeper, may_write, pointed, follow, start, spot, found, whole_value, reference_to, after_write}
use Rattle.rx_meaning.specs.Operators as operators
use Rattle.rx_meaning.specs.Operators.{Computed, make, shown}
use Rattle.rx_meaning.specs.Acting.{checked, computed, next_input, does_plainly}
use Rattle.rx_meaning.specs.Expressions.{Functions}
use Rattle.rx_facts_tables.specs.Setting.{is_behind}
use Rattle.rx_meaning_keeping.specs.Pending.{Pending, Paired, no_pair, pair_and, holds, pushes, Thin, none, keeps, skips, swaps, arguments}
use Rattle.rx_meaning_keeping.specs.Using.{Taken, Does, Gives}
use Rattle.rx_meaning_keeping.specs.Using as using
use Rattle.rx_meaning_keeping.specs.Formed.{Any}
use Rattle.rx_meaning_keeping.specs.Keeping.{Kept, Laws, IsFunction}
use Rattle.rx_meaning_keeping.specs.Strict.{looks_at_lack, with_slot, marked_slot, marked_at, marked, then_marks, does_strictly, strictly}
use Rattle.rx_meaning_keeping.proofs.Looking.{strictly_behaves}
use Rattle.rx_meaning_typed.proofs.Parts.{some_is, split}
use Rattle.rx_meaning_covered.specs.Ranged.{IsRanged, AllRanged, PendingRanged, InputRanged, StateRanged, ConstantRanged, IsNegation, RangesFit}
use Rattle.rx_meaning_covered.proofs.Ranging.{ComputesRanged, negation_ranged, make_ranged, get_ranged, put_ranged, element_ranged, with_ranged, more_ranged}

-- ---- what is pending

thin_ranged : (N : Temporary → Bool) {K K1 : Pending} → Thin K K1 → PendingRanged N K1 → PendingRanged N K
thin_ranged N none h = tt
thin_ranged N (keeps t) h = (h.0, thin_ranged N t h.1)
thin_ranged N (skips t) h = thin_ranged N t h.1
thin_ranged N (swaps t) h = (h.1.0, (h.0, thin_ranged N t h.1.1))

-- one of two operands
taken_among : {Rs : Temporary → Type 0} {t u x : Temporary} → Taken Rs t u x → Among x (t ∷ u ∷ [])
taken_among using.left = walk.here
taken_among (using.right r) = walk.there walk.here

-- operands, each in range or of such a temporary
abbrev AllHeld : (Temporary → Bool) → List Temporary → List Value → Type 0
AllHeld N (t ∷ ts) (v ∷ vs) = ((N t ≡ true) ⊎ IsRanged v) × AllHeld N ts vs
AllHeld N _ _ = Unit {0}

split_ranged : (N : Temporary → Bool) {ts : List Temporary} {vs : List Value} (K : Pending) → Paired ts vs → PendingRanged N (pushes ts vs K) → AllHeld N ts vs × PendingRanged N K
split_ranged N K no_pair h = (tt, h)
split_ranged N K (pair_and {t = t} {v = v} p) h = let r = split_ranged N (holds t v K) p h in ((r.1.0, r.0), r.1.1)

pub in_range : (A B : Type 0) → (A → ⊥) → A ⊎ B → B
in_range A B n (inl a) = absurd (n a)
in_range A B n (inr b) = b

all_plain : (N : Temporary → Bool) {ts : List Temporary} {vs : List Value} → Paired ts vs → AllHeld N ts vs → ((t : Temporary) → Among t ts → N t ≡ true → ⊥) → AllRanged vs
all_plain N no_pair h n = tt
all_plain N (pair_and {t = t} {v = v} p) h n = (in_range (N t ≡ true) (IsRanged v) (n t walk.here) h.0, all_plain N p h.1 (λ u a. n u (walk.there a)))

arguments_ranged : (N : Temporary → Bool) (ps : List Parameter) (vs : List Value) → AllRanged vs → PendingRanged N (arguments ps vs)
arguments_ranged N [] vs h = tt
arguments_ranged N (p ∷ ps) [] h = tt
arguments_ranged N (p ∷ ps) (v ∷ vs) h = (inr h.0, arguments_ranged N ps vs h.1)

-- ---- places

abbrev SpotRanged : Spot → Type 0
SpotRanged (in_slot i p w) = Unit {0}
SpotRanged (in_value v) = IsRanged v

content_ranged : (M : List Value) → AllRanged M → (at : Spot) (v : Value) → SpotRanged at → content M at ≡ Some v → IsRanged v
content_ranged M m (in_slot i p w) v h e = let b = split (element M i) (λ z. get p z) v e in get_ranged p b.0 v (element_ranged M m i b.0 b.1) b.2
content_ranged M m (in_value u) v h e = subst IsRanged (some_is e) h

pointed_ranged : (w : Bool) (v : Value) (to : Spot) → pointed w v ≡ Some to → SpotRanged to
pointed_ranged w (pointer i p m) to e = subst SpotRanged (some_is e) tt
pointed_ranged w (number k z) to e = absurd (cc)
pointed_ranged w (truth b) to e = absurd (cc)
pointed_ranged w (whole vs) to e = absurd (cc)
pointed_ranged w (tagged i vs) to e = absurd (cc)
pointed_ranged w (lacking l) to e = absurd (cc)

deeper_ranged : (s : Step) (at to : Spot) → SpotRanged at → deeper s at ≡ Some to → SpotRanged to
deeper_ranged s (in_slot i p w) to h e = subst SpotRanged (some_is e) tt
deeper_ranged s (in_value v) to h e =
    let b = split (part v s) (λ u. Some (in_value u)) to e in
    subst SpotRanged (some_is b.2) (get_ranged (s ∷ []) v b.0 h (subst (λ z. and_then z (λ u. Some u) ≡ Some b.0) (sym b.1) refl))

follow_ranged : (M : List Value) → AllRanged M → (ss : List Step) (at to : Spot) → SpotRanged at → follow M ss at ≡ Some to → SpotRanged to
follow_ranged M m [] at to h e = subst SpotRanged (some_is e) h
follow_ranged M m (Step.Deref k ∷ ss) at to h e =
    let b = split (content M at) (λ v. and_then (pointed (may_write at) v) (λ z. follow M ss z)) to e in
    let c = split (pointed (may_write at) b.0) (λ z. follow M ss z) to b.2 in
    follow_ranged M m ss c.0 to (pointed_ranged (may_write at) b.0 c.0 c.1) c.2
follow_ranged M m (Step.Field i ∷ ss) at to h e = let b = split (deeper (Step.Field i) at) (λ z. follow M ss z) to e in follow_ranged M m ss b.0 to (deeper_ranged (Step.Field i) at b.0 h b.1) b.2
follow_ranged M m (Step.Variant i ∷ ss) at to h e = let b = split (deeper (Step.Variant i) at) (λ z. follow M ss z) to e in follow_ranged M m ss b.0 to (deeper_ranged (Step.Variant i) at b.0 h b.1) b.2

start_ranged : (r : Root) (F : Frame) (at : Spot) → start r [] F ≡ Some at → SpotRanged at
start_ranged (variable x) F at e = let b = split (slot_of F.slots x) (λ i. Some (in_slot i [] true)) at e in subst SpotRanged (some_is b.2) tt
start_ranged (temporary t) F at e = absurd (cc)

found_ranged : (p : Place) (s : State) (f : Spot × Value) → AllRanged s.memory → found p [] s ≡ Some f → IsRanged f.1
found_ranged p s f m e =
    let b = split (spot p [] s) (λ at. and_then (content s.memory at) (λ v. Some (at, v))) f e in
    let c = split (content s.memory b.0) (λ v. Some (b.0, v)) f b.2 in
    let d = split (start p.root [] s.frame) (λ at. follow s.memory p.steps at) b.0 b.1 in
    subst (λ z. IsRanged z.1) (some_is c.2) (content_ranged s.memory m b.0 c.0 (follow_ranged s.memory m p.steps d.0 b.0 (start_ranged p.root s.frame d.0 d.1) d.2) c.1)

-- ---- actions

-- what an action gives, where such temporaries are these
abbrev GivenRanged : (Temporary → Bool) → (Value → Pending) → Done ℕ → Type 0
GivenRanged N K1 (gives t v s) = StateRanged N s (K1 v)
GivenRanged N K1 (results.ends t e) = Unit {0}

or_ranged : {A : Type 0} (N : Temporary → Bool) (K1 : Value → Pending) (c : Cause) (o : Option A) (go : A → Done ℕ) → ((x : A) → o ≡ Some x → GivenRanged N K1 (go x)) → GivenRanged N K1 (or_ends c o go)
or_ranged N K1 c None go h = tt
or_ranged N K1 c (Some x) go h = h x refl

with_pending : (N : Temporary → Bool) (s : State) (K K1 : Pending) → StateRanged N s K → PendingRanged N K1 → StateRanged N s K1
with_pending N s K K1 i h = record { memory = i.memory; pending = h; input = i.input }

whole_ranged : (f : Spot × Value) (v : Value) → IsRanged f.1 → whole_value f ≡ Some v → IsRanged v
whole_ranged f v h e = by (is_set f.1) e
  where
    by : (b : Bool) → (if b then Some f.1 else None) ≡ Some v → IsRanged v
    by true e = subst IsRanged (some_is e) h
    by false e = absurd (cc)

reference_ranged : (k : Bool) (at : Spot) (v : Value) → reference_to k at ≡ Some v → IsRanged v
reference_ranged k (in_slot i p w) v e = subst IsRanged (some_is e) tt
reference_ranged k (in_value u) v e = absurd (cc)

after_ranged : (v : Value) (M Z : List Value) (at : Spot) → AllRanged M → IsRanged v → after_write v M at ≡ Some Z → AllRanged Z
after_ranged v M Z (in_slot i p true) m h e =
    let b = split (element M i) (λ u. and_then (put p v u) (λ x. Some (with_element M i x))) Z e in
    let c = split (put p v b.0) (λ x. Some (with_element M i x)) Z b.2 in
    subst AllRanged (some_is c.2) (with_ranged M i c.0 m (put_ranged p v b.0 c.0 h (element_ranged M m i b.0 b.1) c.1))
after_ranged v M Z (in_slot i p false) m h e = absurd (cc)
after_ranged v M Z (in_value u) m h e = absurd (cc)

module _ (N : Temporary → Bool) where
  write_ranged : (p : Place) (s : State) (u : Value) (K K1 : Pending) → StateRanged N s K → IsRanged u → PendingRanged N K1
      → GivenRanged N (λ z. K1) (or_ends (why_not_found p [] s) (spot p [] s) (λ at. or_ends (why_not_written s.memory at) (after_write u s.memory at) (λ M. gives [] unit_value (with_memory s M))))
  write_ranged p s u K K1 i h l =
      or_ranged N (λ z. K1) (why_not_found p [] s) (spot p [] s) (λ at. or_ends (why_not_written s.memory at) (after_write u s.memory at) (λ M. gives [] unit_value (with_memory s M))) (λ at e.
      or_ranged N (λ z. K1) (why_not_written s.memory at) (after_write u s.memory at) (λ M. gives [] unit_value (with_memory s M)) (λ M q. record { memory = after_ranged u s.memory M at i.memory h q; pending = l; input = i.input }))

  -- what is computed for a temporary
  abbrev HeldComputes : Temporary → Computed → Type 0
  HeldComputes d (operators.gives v) = (N d ≡ true) ⊎ IsRanged v
  HeldComputes d _ = Unit {0}

  held_of : (d : Temporary) (c : Computed) → ComputesRanged c → HeldComputes d c
  held_of d (operators.gives v) h = inr h
  held_of d (operators.traps t) h = tt
  held_of d operators.senseless h = tt

  computed_ranged : (d : Temporary) (s : State) (K0 K : Pending) (c : Computed) → StateRanged N s K0 → HeldComputes d c → PendingRanged N K → GivenRanged N (λ v. holds d v K) (computed c s)
  computed_ranged d s K0 K (operators.gives v) i h l = with_pending N s K0 (holds d v K) i (h, l)
  computed_ranged d s K0 K (operators.traps t) i h l = tt
  computed_ranged d s K0 K operators.senseless i h l = tt

  input_ranged : (d : Temporary) (s : State) (K : Pending) (zs : List ℤ) → InputRanged zs → StateRanged N s K → GivenRanged N (λ v. holds d v K) (next_input zs s)
  input_ranged d s K [] z i = with_pending N s K (holds d (number Kind.I64 (pos 0)) K) i (inr refl, i.pending)
  input_ranged d s K (z ∷ zs) h i = record { memory = i.memory; pending = (inr h.0, i.pending); input = h.1 }

  -- what is asked of an action: a constant is in range, or for such a temporary; what uses one negates it
  pub record ActFits (a : Act) : Type 0 where
    pub constants : (c : Constant) (js : List ℕ) (ts : List Temporary) (d : Temporary) → a ≡ Build (constant c) js ts d → (N d ≡ true) ⊎ ConstantRanged c
    pub uses : (t : Temporary) → Among t (operands a) → N t ≡ true → IsNegation a

  constant_held : (c : Constant) (d : Temporary) (vs : List Value) (js : List ℕ) → (N d ≡ true) ⊎ ConstantRanged c → HeldComputes d (make (constant c) js vs)
  constant_held c d [] js (inl h) = inl h
  constant_held (whole_number k z) d [] js (inr h) = inr h
  constant_held (tree.truth b) d [] js (inr h) = inr tt
  constant_held c d (v ∷ vs) js h = tt

  built_ranged : (q : Making) (js : List ℕ) (ts : List Temporary) (d : Temporary) (vs : List Value) → ActFits (Build q js ts d) → Paired ts vs → AllHeld N ts vs → HeldComputes d (make q js vs)
  built_ranged (constant c) js ts d vs f p h = constant_held c d vs js (f.constants c js ts d refl)
  built_ranged negation js ts d vs f p h = held_of d (make negation js vs) (negation_ranged js vs)
  built_ranged inversion js ts d vs f p h = held_of d (make inversion js vs) (make_ranged inversion js vs (λ c e. absurd (cc)) (all_plain N p h f.uses))
  built_ranged (operation o) js ts d vs f p h = held_of d (make (operation o) js vs) (make_ranged (operation o) js vs (λ c e. absurd (cc)) (all_plain N p h f.uses))
  built_ranged lazy js ts d vs f p h = held_of d (make lazy js vs) (make_ranged lazy js vs (λ c e. absurd (cc)) (all_plain N p h f.uses))
  built_ranged tuple js ts d vs f p h = held_of d (make tuple js vs) (make_ranged tuple js vs (λ c e. absurd (cc)) (all_plain N p h f.uses))
  built_ranged (struct i) js ts d vs f p h = held_of d (make (struct i) js vs) (make_ranged (struct i) js vs (λ c e. absurd (cc)) (all_plain N p h f.uses))
  built_ranged (variant_of i v) js ts d vs f p h = held_of d (make (variant_of i v) js vs) (make_ranged (variant_of i v) js vs (λ c e. absurd (cc)) (all_plain N p h f.uses))

  plainly_ranged : {Rs : Temporary → Type 0} (a : Act) (vs : List Value) (s : State) (K : Pending) (K1 : Value → Pending) → Does Rs a vs K K1 → ActFits a → StateRanged N s K → GivenRanged N K1 (does_plainly a vs s)
  plainly_ranged _ _ s K _ (using.declares {x = x}) g i = record { memory = more_ranged s.memory (lacking unset) i.memory tt; pending = i.pending; input = i.input }
  plainly_ranged _ _ s K _ using.dies g i = i
  plainly_ranged _ _ s K _ (using.reads {m = b} {p = p} {d = d} u) g i =
      or_ranged N (λ v. holds d v K) (why_not_found p [] s) (found p [] s) (λ f. or_ends lacks (whole_value f) (λ v. gives [] v s)) (λ f e.
      or_ranged N (λ v. holds d v K) lacks (whole_value f) (λ v. gives [] v s) (λ v q. with_pending N s K (holds d v K) i (inr (whole_ranged f v (found_ranged p s f i.memory e) q), i.pending)))
  plainly_ranged _ _ s K _ (using.borrows {m = b} {p = p} {d = d} u) g i =
      or_ranged N (λ v. holds d v K) (why_not_found p [] s) (spot p [] s) (λ at. or_ends astray (reference_to b at) (λ v. gives [] v s)) (λ at e.
      or_ranged N (λ v. holds d v K) astray (reference_to b at) (λ v. gives [] v s) (λ v q. with_pending N s K (holds d v K) i (inr (reference_ranged b at v q), i.pending)))
  plainly_ranged _ _ s _ _ (using.borrows_held {m = b} {t = t} {d = d} {ss = ss} {v = v} {K = K} u) g i =
      let p = under (temporary_place t) ss in
      or_ranged N (λ x. holds d x (holds t v K)) (why_not_found p (v ∷ []) s) (spot p (v ∷ []) s) (λ at. or_ends astray (reference_to b at) (λ v. gives [] v s)) (λ at e.
      or_ranged N (λ x. holds d x (holds t v K)) astray (reference_to b at) (λ v. gives [] v s) (λ x q. with_pending N s (holds t v K) (holds d x (holds t v K)) i (inr (reference_ranged b at x q), i.pending)))
  plainly_ranged _ _ s K _ (using.tests {p = p} {c = c}) g i =
      or_ranged N (λ v. K) (why_not_found p [] s) (found p [] s) (λ f. or_ends (why_not_checked f.1) (checked c f.1) (λ y. gives [] (truth y) s)) (λ f e. or_ranged N (λ v. K) (why_not_checked f.1) (checked c f.1) (λ y. gives [] (truth y) s) (λ y q. i))
  plainly_ranged _ _ s _ _ (using.tests_held {t = t} {ss = ss} {c = c} {v = v} {K = K}) g i =
      let p = under (temporary_place t) ss in
      or_ranged N (λ x. holds t v K) (why_not_found p (v ∷ []) s) (found p (v ∷ []) s) (λ f. or_ends (why_not_checked f.1) (checked c f.1) (λ y. gives [] (truth y) s))
      (λ f e. or_ranged N (λ x. holds t v K) (why_not_checked f.1) (checked c f.1) (λ y. gives [] (truth y) s) (λ y q. i))
  plainly_ranged _ _ s _ _ (using.writes {p = p} {t = t} {v = v} {K = K}) g i = write_ranged p s v (holds t v K) K i (in_range (N t ≡ true) (IsRanged v) (g.uses t walk.here) i.pending.0) i.pending.1
  plainly_ranged _ _ s _ _ (using.writes_part {x = x} {t = t} {ss = ss} {v = v} {K = K}) g i =
      or_ranged N (λ z. holds t v K) (why_no_part ss v) (get ss v) (λ u. or_ends (why_not_found (own x) [] s) (spot (own x) [] s) (λ at. or_ends (why_not_written s.memory at) (after_write u s.memory at) (λ M. gives [] unit_value (with_memory s M))))
      (λ u e. write_ranged (own x) s u (holds t v K) (holds t v K) i (get_ranged ss v u (in_range (N t ≡ true) (IsRanged v) (g.uses t walk.here) i.pending.0) e) i.pending)
  plainly_ranged _ _ s _ _ (using.builds {w = q} {js = js} {ts = ts} {vs = vs} {d = d} K pr lz u) g i = let h = split_ranged N K pr i.pending in computed_ranged d s (pushes ts vs K) K (make q js vs) i (built_ranged q js ts d vs g pr h.0) h.1
  plainly_ranged _ _ s _ _ (using.joins {x = x} {v = v} {d = d} {K = K} am un) g i = with_pending N s (holds x v K) (holds d v K) i (inr (in_range (N x ≡ true) (IsRanged v) (g.uses x (taken_among am)) i.pending.0), i.pending.1)
  plainly_ranged _ _ s K _ (using.inputs {d = d} u) g i = input_ranged d s K s.input i.input i
  plainly_ranged _ _ s _ _ (using.prints {t = t} {v = v} {K = K}) g i = or_ranged N (λ z. K) (why_not_checked v) (shown v) (λ bytes. gives bytes unit_value s) (λ bytes e. with_pending N s (holds t v K) K i i.pending.1)
  plainly_ranged _ _ s _ _ (using.gives_up {t = t} {v = v} {K = K}) g i = with_pending N s (holds t v K) _ i (in_range (N t ≡ true) (IsRanged v) (g.uses t walk.here) i.pending.0, i.pending.1)
  plainly_ranged _ _ s _ _ (using.calls K pr u) g i = i

-- ---- marks

slot_ranged : (N : Temporary → Bool) (o : Option ℕ) (ss : List Step) (l : Lack) (s : State) (K : Pending) → StateRanged N s K → StateRanged N (marked_slot o ss l s) K
slot_ranged N None ss l s K i = i
slot_ranged N (Some j) ss l s K i = record { memory = at (element s.memory j) refl; pending = i.pending; input = i.input }
  where
    put_in : (v : Value) → element s.memory j ≡ Some v → (q : Option Value) → put ss (lacking l) v ≡ q → AllRanged (with_slot s.memory j q)
    put_in v e None p = i.memory
    put_in v e (Some x) p = with_ranged s.memory j x i.memory (put_ranged ss (lacking l) v x tt (element_ranged s.memory i.memory j v e) p)

    at : (o : Option Value) → element s.memory j ≡ o → AllRanged (with_slot s.memory j (and_then o (λ v. put ss (lacking l) v)))
    at None e = i.memory
    at (Some v) e = put_in v e (put ss (lacking l) v) refl

place_ranged : (N : Temporary → Bool) (r : Root) (ss : List Step) (l : Lack) (s : State) (K : Pending) → StateRanged N s K → StateRanged N (marked_at r ss l s) K
place_ranged N (temporary t) ss l s K i = i
place_ranged N (variable x) ss l s K i = by (is_behind ss)
  where
    by : (b : Bool) → StateRanged N (if b then s else marked_slot (slot_of s.frame.slots x) ss l s) K
    by true = i
    by false = slot_ranged N (slot_of s.frame.slots x) ss l s K i

marks_ranged : (N : Temporary → Bool) (a : Act) (s : State) (K : Pending) → StateRanged N s K → StateRanged N (marked a s) K
marks_ranged N (Read true p d) s K i = place_ranged N p.root p.steps moved s K i
marks_ranged N (Read false p d) s K i = i
marks_ranged N (Dead x) s K i = slot_ranged N (slot_of s.frame.slots x) [] ended s K i
marks_ranged N (Declare x) s K i = i
marks_ranged N (Write p t ss) s K i = i
marks_ranged N (Borrow b p d) s K i = i
marks_ranged N (Test p c) s K i = i
marks_ranged N (Call f ts d) s K i = i
marks_ranged N (Build m js ts d) s K i = i
marks_ranged N (Input d) s K i = i
marks_ranged N (Print t) s K i = i
marks_ranged N (Give t) s K i = i

strictly_ranged : {Rs : Temporary → Type 0} (N : Temporary → Bool) (a : Act) (vs : List Value) (s : State) (K : Pending) (K1 : Value → Pending) → Does Rs a vs K K1 → ActFits N a → StateRanged N s K → GivenRanged N K1 (does_strictly a vs s)
strictly_ranged N a vs s K K1 d g i = by (looks_at_lack a vs s)
  where
    marks : (r : Done ℕ) → GivenRanged N K1 r → GivenRanged N K1 (then_marks a r)
    marks (gives t v s1) h = marks_ranged N a s1 (K1 v) h
    marks (results.ends t e) h = tt

    by : (b : Bool) → GivenRanged N K1 (if b then results.ends [] (wrong lacks) else then_marks a (does_plainly a vs s))
    by true = tt
    by false = marks (does_plainly a vs s) (plainly_ranged N a vs s K K1 d g i)

-- ---- calls

abbrev pub NoEnd : Ending → Type 0
NoEnd e = Unit {0}

-- nothing is said of what a call finds
pub record Plain : Type 0 where
  pub none : ℕ

abbrev pub J : (ℕ → Temporary → Bool) → ℕ → Plain → List Action → State → Pending → Type 0
J N f k w s K = StateRanged (N f) s K

pub ranged_laws : (N : ℕ → Temporary → Bool) (P : Functions) → ((f : ℕ) (F : Function) → IsFunction P f F → RangesFit (N f) F) → Laws strictly NoEnd P (λ f. Any) Plain (J N)
ranged_laws N P h = record {
  steps = λ f F q k. record {
    drops = λ w s K K1 t i. with_pending (N f) s K1 K i (thin_ranged (N f) t i.pending);
    units = λ w s d K g u i. with_pending (N f) s K (holds d unit_value K) i (inr tt, i.pending);
    turns = λ w s n K e i. record { memory = i.memory; pending = i.pending; input = i.input };
    performs = λ w a vs s K K1 d is i. performs f k w a vs s K1 (does_strictly a.act vs s) refl (strictly_ranged (N f) a.act vs s K K1 d (fits f F (h f F q) w a is) i);
  };
  enters = λ f F k w n g ts d vs s K c G e. let r = split_ranged (N f) K c.arguments c.kept.pending in (
    k,
    record { memory = c.kept.memory; pending = arguments_ranged (N g) G.params vs (all_plain (N f) c.arguments r.0 (λ t am e1. (h f F c.caller).uses w (does n (Call g ts d)) t c.begins am e1)); input = c.kept.input },
    (λ o m s1 v wk j. record { memory = j.memory; pending = (inr j.pending.0, r.1); input = j.input }),
  );
  runs_on = tt;
  no_callee = λ f F k w n g ts d vs s K c no. tt;
  not_as_many = λ f F k w n g ts d vs s K c G e no. tt;
  no_arm_left = λ f F q k S l w vs s K c fi i a. tt;
  no_answer = λ f F q o x wk no. tt;
}
  where
    fits : (f : ℕ) (F : Function) → RangesFit (N f) F → (w : List Action) (a : Action) → IsWalk F (w ++ a ∷ []) → ActFits (N f) a.act
    fits f F r w a is = record { constants = λ c js ts d e. r.constants w a.node c js ts d (subst (λ z. IsWalk F (w ++ does a.node z ∷ [])) e is); uses = λ t am n. r.uses w a t is am n }

    performs : (f : ℕ) (k : Plain) (w : List Action) (a : Action) (vs : List Value) (s : State) (K1 : Value → Pending) (r : Done ℕ) → does_strictly a.act vs s ≡ r → GivenRanged (N f) K1 r → Kept NoEnd (J N f k) w a s K1 r
    performs f k w a vs s K1 (gives t v s1) e h = (strictly_behaves a vs s t v s1 e, h)
    performs f k w a vs s K1 (results.ends t x) e h = tt
