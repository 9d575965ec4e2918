-- What acts do, by the machine's data.
use Rattle.std.proofs.Common.{◌≡◌, ℕ, Bool, true, false, List, [], ◌∷◌, ◌++◌, length, arith, Option, None, Some, refl, sym, ap, subst, ◌∙◌}
use Rattle.std.proofs.lemmas.List.{append-nil}
use Rattle.std.specs.Prelude.{ℤ, pos}
use Rattle.std.proofs.Common.{Bor}
use Rattle.rx_core.specs.declared.types.Kind.{Kind}
use Rattle.rx_core.specs.declared.types.Step.{Step as PlaceStep}
use Rattle.rx_core.specs.declared.types.Place.{Place}
use Rattle.rx_tree.specs.declared.tree.BinaryOp.{BinaryOp}
use Rattle.rx_typed.specs.Tree as tree
use Rattle.rx_typed.specs.PlainTree.{plain-Place}
use Rattle.rx_lower_walks.specs.Matching.{equals}
use Rattle.rx_lower_walks.specs.Actions.{Read, Borrow, Write, Print, Input, Build}
use Rattle.rx_meaning.specs.declared.outcome.End.{End}
use Rattle.rx_meaning.specs.Values as values
use Rattle.rx_meaning.specs.Values.{and_then, slot_of, State, with_memory}
use Rattle.rx_meaning.specs.Places.{Spot, in_slot, pointed, spot, found, follow, content, whole_value, reference_to, after_write}
use Rattle.rx_meaning.specs.Endings.{Cause}
use Rattle.rx_meaning.specs.Straying.{why_not_found, why_not_written, why_not_checked}
use Rattle.rx_meaning.specs.Results.{Done, gives, or_ends}
use Rattle.rx_meaning.specs.Operators as operators
use Rattle.rx_meaning.specs.Acting.{next_input, computed, checked}
use Rattle.rx_machine_running.specs.Running.{nowhere}
use Rattle.rx_machine_values.specs.declared.memory.Memory.{Memory}
use Rattle.rx_machine_values.specs.PlainMemory.{plain-Memory}
use Rattle.rx_machine_actions.specs.PlainActs.{found_from, Wrote, Printed}
use Rattle.rx_machine_frames.specs.Frames as frames
use Rattle.rx_machine_frames.specs.Frames.{Around}
use Rattle.rx_machine_frames.specs.Stepping.{done, decided_by, modified, or_wrong}
use Rattle.rx_machine_driver.specs.declared.next.Next.{Next}
use Rattle.rx_machine_driver.specs.PlainSteps.{plain-Next}
use Rattle.rx_machine_driver.specs.declared.data.Machine.{Machine}
use Rattle.rx_machine_driver.specs.declared.data.Turn.{Turn}
use Rattle.rx_machine_driver.specs.declared.data.Step.{Step}
use Rattle.rx_machine_driver.specs.declared.data.Step.TheVariants as step_to
use Rattle.rx_machine_direct.specs.Direct.{recorded}
use Rattle.rx_machine_driver.specs.Fitting.{Fits, plain-Turn}
use Rattle.rx_machine_driver.specs.Running.{spot_at, found_at, IsGiven, IsMade, IsDone, IsWrittenBack, IsModified, IsDecided, Follows, Leads}

-- ---- the same machine, or with other memory or input

pub nothing_more : (m : Machine) → m.printed ≡ m.printed ++ []
nothing_more m = sym (append-nil m.printed)

pub leads_as : (old : Machine) (x y : frames.Next) (new : Machine) (to : Step) → x ≡ y → Leads old y new to → Leads old x new to
leads_as old x y new to e h = subst (λ z. Leads old z new to) (sym e) h

-- ---- places

-- where a place of the text leads
pub spot_is : (m : Machine) (t : ℕ) (K : List Around) (s : State) (x : ℕ) (ss : List PlaceStep) → Fits m t K s → spot (record { root = tree.variable x; steps = ss }) [] s ≡ spot_at m x ss
spot_is m t K s x ss f = by_slot (slot_of s.frame.slots x) ∙ ap (λ o. and_then o (λ i. follow s.memory ss (in_slot i [] true))) (f.slots x)
    ∙ ap (λ M. and_then (recorded m.slots.table.items x) (λ i. follow M ss (in_slot i [] true))) (sym f.memory)
  where
    by_slot : (o : Option ℕ) → and_then (and_then o (λ i. Some (in_slot i [] true))) (λ at. follow s.memory ss at) ≡ and_then o (λ i. follow s.memory ss (in_slot i [] true))
    by_slot None = refl
    by_slot (Some i) = refl

-- and what stands there
pub found_is : (m : Machine) (t : ℕ) (K : List Around) (s : State) (x : ℕ) (ss : List PlaceStep) → Fits m t K s → found (record { root = tree.variable x; steps = ss }) [] s ≡ found_at m x ss
found_is m t K s x ss f = by_slot (slot_of s.frame.slots x) ∙ ap (λ o. and_then o (λ i. found_from s.memory (in_slot i [] true) ss)) (f.slots x)
    ∙ ap (λ M. and_then (recorded m.slots.table.items x) (λ i. found_from M (in_slot i [] true) ss)) (sym f.memory)
  where
    by_slot : (o : Option ℕ) → and_then (and_then (and_then o (λ i. Some (in_slot i [] true))) (λ at. follow s.memory ss at)) (λ at. and_then (content s.memory at) (λ v. Some (at, v)))
        ≡ and_then o (λ i. found_from s.memory (in_slot i [] true) ss)
    by_slot None = refl
    by_slot (Some i) = refl

-- what was found comes next
given_follows : (m : Machine) (t : ℕ) (K : List Around) (s : State) (x : frames.Next) (c : Cause) (o : Option values.Value) (to : Step) → Fits m t K s → IsGiven o to
    → Follows t m x K s (done K (or_ends c o (λ v. gives [] v s))) m to
given_follows m t K s x c (Some v) (step_to.Next y) f g = (f, g, nothing_more m)
given_follows m t K s x c (Some v) (step_to.Turn u) f g = absurd g
given_follows m t K s x c (Some v) (step_to.End e) f g = absurd g
given_follows m t K s x c None (step_to.Next y) f g = absurd g
given_follows m t K s x c None (step_to.Turn u) f g = absurd g
given_follows m t K s x c None (step_to.End e) f g = (g, nothing_more m)

-- what stands at a place, or a reference to it, comes next
found_follows : {A : Type 0} (m : Machine) (t : ℕ) (K : List Around) (s : State) (x : frames.Next) (c : Cause) (p q : Option A) (d : Cause) (h : A → Option values.Value) (to : Step) → Fits m t K s → p ≡ q
    → IsGiven (and_then q h) to → Follows t m x K s (done K (or_ends c p (λ f. or_ends d (h f) (λ v. gives [] v s)))) m to
found_follows {A = A} m t K s x c p q d h to f e g = by p (subst (λ o. IsGiven (and_then o h) to) (sym e) g)
  where
    by : (p : Option A) → IsGiven (and_then p h) to → Follows t m x K s (done K (or_ends c p (λ f. or_ends d (h f) (λ v. gives [] v s)))) m to
    by None g = given_follows m t K s x c None to f g
    by (Some a) g = given_follows m t K s x d (h a) to f g

pub reads_lead : (m : Machine) (b : Bool) (p : Place) (to : Step) → IsGiven (and_then (found_at m p.var p.steps) (λ f. whole_value f)) to
    → Leads m (frames.performs (Read b (plain-Place p) nowhere) []) m to
reads_lead m b p to g = λ t K s f. found_follows m t K s _ _ _ _ _ (λ f. whole_value f) to f (found_is m t K s p.var p.steps f) g

pub borrows_lead : (m : Machine) (k : Bool) (p : Place) (to : Step) → IsGiven (and_then (spot_at m p.var p.steps) (λ at. reference_to k at)) to
    → Leads m (frames.performs (Borrow k (plain-Place p) nowhere) []) m to
borrows_lead m k p to g = λ t K s f. found_follows m t K s _ _ _ _ _ (λ at. reference_to k at) to f (spot_is m t K s p.var p.steps f) g

-- a value that is held
pub shares_lead : (m : Machine) (v : values.Value) (to : Step) → IsGiven (and_then (pointed true v) (λ at. reference_to false at)) to
    → Leads m (frames.performs (Borrow false (tree.under (tree.temporary_place nowhere) (PlaceStep.Deref true ∷ [])) nowhere) (v ∷ [])) m to
shares_lead m v to g = λ t K s f. found_follows m t K s _ _ _ _ _ (λ at. reference_to false at) to f (by (pointed true v)) g
  where
    by : (o : Option Spot) → and_then o (λ at. Some at) ≡ o
    by None = refl
    by (Some at) = refl

-- ---- what leaves the frames and the variables

with_other : (m : Machine) (t : ℕ) (K : List Around) (s : State) (mem : Memory) → Fits m t K s → Fits (record m { memory = mem }) t K (with_memory s (plain-Memory mem))
with_other m t K s mem f = record { memory = refl; slots = f.slots; input = f.input; turns = f.turns; frames = f.frames }

with_text : (m : Machine) (t : ℕ) (K : List Around) (s : State) (w : List ℕ) → Fits m t K s → Fits (record m { printed = w }) t K s
with_text m t K s w f = record { memory = f.memory; slots = f.slots; input = f.input; turns = f.turns; frames = f.frames }

-- ---- writes

-- the memory behind a write
Wrote_is : Option (List values.Value) → List values.Value → List values.Value → Bool → Type 0
Wrote_is r M N true = r ≡ Some N
Wrote_is r M N false = (r ≡ None) × (N ≡ M)

write_follows : (m : Machine) (mem : Memory) (t : ℕ) (K : List Around) (s : State) (x : frames.Next) (c : Cause) (r : Option (List values.Value)) (b : Bool) (to : Step) → Fits m t K s
    → Wrote_is r (plain-Memory m.memory) (plain-Memory mem) b → IsDone b to → Follows t m x K s (done K (or_ends c r (λ N. gives [] values.unit_value (with_memory s N)))) (record m { memory = mem }) to
unfolding Wrote_is
write_follows m mem t K s x c r true (step_to.Next y) f w d =
    subst (λ o. Follows t m x K s (done K (or_ends c o (λ N. gives [] values.unit_value (with_memory s N)))) (record m { memory = mem }) (step_to.Next y)) (sym w) (with_other m t K s mem f, d, nothing_more m)
write_follows m mem t K s x c r true (step_to.Turn u) f w d = absurd d
write_follows m mem t K s x c r true (step_to.End e) f w d = absurd d
write_follows m mem t K s x c r false (step_to.Next y) f w d = absurd d
write_follows m mem t K s x c r false (step_to.Turn u) f w d = absurd d
write_follows m mem t K s x c r false (step_to.End e) f w d =
    subst (λ o. Follows t m x K s (done K (or_ends c o (λ N. gives [] values.unit_value (with_memory s N)))) (record m { memory = mem }) (step_to.End e)) (sym w.0) (d, nothing_more m)

of_wrote : (M : List values.Value) (i : ℕ) (ss : List PlaceStep) (v : values.Value) (N : List values.Value) (b : Bool) → Wrote M i ss v N b → Wrote_is (and_then (follow M ss (in_slot i [] true)) (λ at. after_write v M at)) M N b
unfolding Wrote_is
of_wrote M i ss v N true w = w
of_wrote M i ss v N false w = w

spot_follows : (m : Machine) (mem : Memory) (t : ℕ) (K : List Around) (s : State) (x : frames.Next) (v : values.Value) (c : Cause) (o : Option Spot) (b : Bool) (to : Step) → Fits m t K s
    → Wrote_is (and_then o (λ at. after_write v s.memory at)) (plain-Memory m.memory) (plain-Memory mem) b → IsDone b to
    → Follows t m x K s (done K (or_ends c o (λ at. or_ends (why_not_written s.memory at) (after_write v s.memory at) (λ N. gives [] values.unit_value (with_memory s N))))) (record m { memory = mem }) to
spot_follows m mem t K s x v c None b to f w d = write_follows m mem t K s x c None b to f w d
spot_follows m mem t K s x v c (Some at) b to f w d = write_follows m mem t K s x (why_not_written s.memory at) (after_write v s.memory at) b to f w d

-- where a variable has a slot
abbrev write_from : State → Cause → List PlaceStep → values.Value → Option ℕ → Done ℕ
write_from s c ss v o =
    or_ends c (and_then (and_then o (λ i. Some (in_slot i [] true))) (λ at. follow s.memory ss at)) (λ at.
    or_ends (why_not_written s.memory at) (after_write v s.memory at) (λ N. gives [] values.unit_value (with_memory s N)))

pub writes_lead : (m : Machine) (mem : Memory) (p : Place) (i : ℕ) (v : values.Value) (b : Bool) (to : Step) → Some i ≡ recorded m.slots.table.items p.var → Wrote (plain-Memory m.memory) i p.steps v (plain-Memory mem) b → IsDone b to
    → Leads m (frames.performs (Write (plain-Place p) nowhere []) (v ∷ [])) (record m { memory = mem }) to
writes_lead m mem p i v b to h w d = λ t K s f.
    let x : frames.Next = frames.performs (Write (plain-Place p) nowhere []) (v ∷ []) in
    let c : Cause = why_not_found (plain-Place p) [] s in
    let e : write_from s c p.steps v (Some i) ≡ write_from s c p.steps v (slot_of s.frame.slots p.var) = ap (write_from s c p.steps v) (h ∙ sym (f.slots p.var)) in
    let r : and_then (follow (plain-Memory m.memory) p.steps (in_slot i [] true)) (λ at. after_write v (plain-Memory m.memory) at) ≡ and_then (follow s.memory p.steps (in_slot i [] true)) (λ at. after_write v s.memory at)
    = ap (λ M. and_then (follow M p.steps (in_slot i [] true)) (λ at. after_write v M at)) f.memory in
    subst (λ o. Follows t m x K s (done K o) (record m { memory = mem }) to) e
    (spot_follows m mem t K s x v c (follow s.memory p.steps (in_slot i [] true)) b to f
    (subst (λ o. Wrote_is o (plain-Memory m.memory) (plain-Memory mem) b) r (of_wrote (plain-Memory m.memory) i p.steps v (plain-Memory mem) b w)) d)

pub writes_nowhere : (m : Machine) (p : Place) (v : values.Value) → None ≡ recorded m.slots.table.items p.var → Leads m (frames.performs (Write (plain-Place p) nowhere []) (v ∷ [])) m (step_to.End End.Wrong)
writes_nowhere m p v h = λ t K s f.
    let x : frames.Next = frames.performs (Write (plain-Place p) nowhere []) (v ∷ []) in
    subst (λ o. Follows t m x K s (done K o) m (step_to.End End.Wrong)) (ap (write_from s (why_not_found (plain-Place p) [] s) p.steps v) (h ∙ sym (f.slots p.var))) (refl, nothing_more m)

-- ---- printing

print_follows : (m : Machine) (w : List ℕ) (t : ℕ) (K : List Around) (s : State) (x : frames.Next) (c : Cause) (o : Option (List ℕ)) (b : Bool) (to : Step) → Fits m t K s → Printed o m.printed w b → IsDone b to
    → Follows t m x K s (done K (or_ends c o (λ bytes. gives bytes values.unit_value s))) (record m { printed = w }) to
print_follows m w t K s x c (Some l) true (step_to.Next y) f p d = (with_text m t K s w f, d, p)
print_follows m w t K s x c (Some l) true (step_to.Turn u) f p d = absurd d
print_follows m w t K s x c (Some l) true (step_to.End e) f p d = absurd d
print_follows m w t K s x c (Some l) false to f p d = absurd p
print_follows m w t K s x c None true to f p d = absurd p
print_follows m w t K s x c None false (step_to.Next y) f p d = absurd d
print_follows m w t K s x c None false (step_to.Turn u) f p d = absurd d
print_follows m w t K s x c None false (step_to.End e) f p d = (d, p ∙ nothing_more m)

pub prints_lead : (m : Machine) (w : List ℕ) (v : values.Value) (b : Bool) (to : Step) → Printed (operators.shown v) m.printed w b → IsDone b to
    → Leads m (frames.performs (Print nowhere) (v ∷ [])) (record m { printed = w }) to
prints_lead m w v b to p d = λ t K s f. print_follows m w t K s _ (why_not_checked v) (operators.shown v) b to f p d

-- ---- input

pub inputs_none : (m : Machine) (y : Next) → length m.input.now ≡ 0 → plain-Next y ≡ frames.gives (values.number Kind.I64 (pos 0)) → Leads m (frames.performs (Input nowhere) []) m (step_to.Next y)
inputs_none m y h k = λ t K s f.
    subst (λ l. Follows t m (frames.performs (Input nowhere) []) K s (done K (next_input l s)) m (step_to.Next y)) (sym (nothing m.input.now h) ∙ f.input) (f, k, nothing_more m)
  where
    nothing : (l : List ℤ) → length l ≡ 0 → l ≡ []
    nothing [] e = refl
    nothing (z ∷ l) e = absurd (omega (arith, e))

pub inputs_some : (m : Machine) (rest : Bor (List ℤ)) (z : ℤ) (y : Next) → m.input.now ≡ z ∷ rest.now → plain-Next y ≡ frames.gives (values.number Kind.I64 z)
    → Leads m (frames.performs (Input nowhere) []) (record m { input = rest }) (step_to.Next y)
inputs_some m rest z y h k = λ t K s f.
    subst (λ l. Follows t m (frames.performs (Input nowhere) []) K s (done K (next_input l s)) (record m { input = rest }) (step_to.Next y)) (sym h ∙ f.input)
    (record { memory = f.memory; slots = f.slots; input = refl; turns = f.turns; frames = f.frames }, k, nothing_more m)

-- ---- what is made

made_follows : (m : Machine) (t : ℕ) (K : List Around) (s : State) (x : frames.Next) (c : operators.Computed) (to : Step) → Fits m t K s → IsMade c to → Follows t m x K s (done K (computed c s)) m to
made_follows m t K s x (operators.gives v) (step_to.Next y) f g = (f, g, nothing_more m)
made_follows m t K s x (operators.gives v) (step_to.Turn u) f g = absurd g
made_follows m t K s x (operators.gives v) (step_to.End e) f g = absurd g
made_follows m t K s x (operators.traps r) (step_to.Next y) f g = absurd g
made_follows m t K s x (operators.traps r) (step_to.Turn u) f g = absurd g
made_follows m t K s x (operators.traps r) (step_to.End e) f g = (g, nothing_more m)
made_follows m t K s x operators.senseless (step_to.Next y) f g = absurd g
made_follows m t K s x operators.senseless (step_to.Turn u) f g = absurd g
made_follows m t K s x operators.senseless (step_to.End e) f g = (g, nothing_more m)

pub makes_lead : (m : Machine) (w : tree.Making) (js : List ℕ) (vs : List values.Value) (to : Step) → IsMade (operators.make w js vs) to → Leads m (frames.finishes (frames.makes w js) vs) m to
makes_lead m w js vs to g = λ t K s f. made_follows m t K s _ (operators.make w js vs) to f g

pub settles_lead : (m : Machine) (v : values.Value) (y : Next) → plain-Next y ≡ frames.gives v → Leads m (frames.performs (Build tree.lazy [] [] nowhere) (v ∷ [])) m (step_to.Next y)
settles_lead m v y g = λ t K s f. (f, g, nothing_more m)

decided_follows : (m : Machine) (t : ℕ) (K : List Around) (s : State) (x : frames.Next) (o : Option Bool) (v : values.Value) (e : tree.Exp) (to : Step) → Fits m t K s → IsDecided o v e to → Follows t m x K s (decided_by K o v e s) m to
decided_follows m t K s x (Some true) v e (step_to.Next y) f g = (f, g, nothing_more m)
decided_follows m t K s x (Some true) v e (step_to.Turn u) f g = absurd g
decided_follows m t K s x (Some true) v e (step_to.End r) f g = absurd g
decided_follows m t K s x (Some false) v e (step_to.Next y) f g = (f, g, nothing_more m)
decided_follows m t K s x (Some false) v e (step_to.Turn u) f g = absurd g
decided_follows m t K s x (Some false) v e (step_to.End r) f g = absurd g
decided_follows m t K s x None v e (step_to.Next y) f g = absurd g
decided_follows m t K s x None v e (step_to.Turn u) f g = absurd g
decided_follows m t K s x None v e (step_to.End r) f g = (g, nothing_more m)

pub decides_lead : (m : Machine) (b : Bool) (v : values.Value) (e : tree.Exp) (to : Step) → IsDecided (checked (equals (tree.truth b)) v) v e to → Leads m (frames.decides b v e) m to
decides_lead m b v e to g = λ t K s f. decided_follows m t K s _ (checked (equals (tree.truth b)) v) v e to f g

back_follows : (m : Machine) (t : ℕ) (K : List Around) (s : State) (x : frames.Next) (p : tree.Place) (c : operators.Computed) (to : Step) → Fits m t K s → IsWrittenBack p c to → Follows t m x K s (modified K p c s) m to
back_follows m t K s x p (operators.gives v) (step_to.Next y) f g = (f, g, nothing_more m)
back_follows m t K s x p (operators.gives v) (step_to.Turn u) f g = absurd g
back_follows m t K s x p (operators.gives v) (step_to.End e) f g = absurd g
back_follows m t K s x p (operators.traps r) (step_to.Next y) f g = absurd g
back_follows m t K s x p (operators.traps r) (step_to.Turn u) f g = absurd g
back_follows m t K s x p (operators.traps r) (step_to.End e) f g = (g, nothing_more m)
back_follows m t K s x p operators.senseless (step_to.Next y) f g = absurd g
back_follows m t K s x p operators.senseless (step_to.Turn u) f g = absurd g
back_follows m t K s x p operators.senseless (step_to.End e) f g = (g, nothing_more m)

modified_follows : (m : Machine) (t : ℕ) (K : List Around) (s : State) (x : frames.Next) (o : BinaryOp) (p : tree.Place) (u : Option values.Value) (v : values.Value) (to : Step) → Fits m t K s → IsModified o p u v to
    → Follows t m x K s (or_wrong u (λ w. modified K p (operators.operate o w v) s)) m to
modified_follows m t K s x o p (Some w) v to f g = back_follows m t K s x p (operators.operate o w v) to f g
modified_follows m t K s x o p None v (step_to.Next y) f g = absurd g
modified_follows m t K s x o p None v (step_to.Turn u) f g = absurd g
modified_follows m t K s x o p None v (step_to.End e) f g = (g, nothing_more m)

pub modifies_lead : (m : Machine) (o : BinaryOp) (p : Place) (v : values.Value) (to : Step) → IsModified o (plain-Place p) (and_then (found_at m p.var p.steps) (λ f. whole_value f)) v to
    → Leads m (frames.modifies o (plain-Place p) v) m to
modifies_lead m o p v to g = λ t K s f.
    modified_follows m t K s _ o (plain-Place p) (and_then (found (plain-Place p) [] s) (λ f. whole_value f)) v to f
    (subst (λ q. IsModified o (plain-Place p) (and_then q (λ f. whole_value f)) v to) (sym (found_is m t K s p.var p.steps f)) g)

-- ---- steps without more

pub leads_next : (old : Machine) (x y : Next) (new : Machine) (to : Step) → x ≡ y → Leads old (plain-Next y) new to → Leads old (plain-Next x) new to
leads_next old x y new to e h = subst (λ z. Leads old (plain-Next z) new to) (sym e) h

pub goes_lead : (m : Machine) (e : tree.Exp) (y : Next) → plain-Next y ≡ frames.opened e → Leads m (frames.goes_into e) m (step_to.Next y)
goes_lead m e y g = λ t K s f. (f, g, nothing_more m)

pub body_leads : (m : Machine) (b : tree.Body) (y : Next) → plain-Next y ≡ frames.opened_body b → Leads m (frames.runs_body b) m (step_to.Next y)
body_leads m b y g = λ t K s f. (f, g, nothing_more m)

pub loops_wait : (m : Machine) (n : tree.Mark) (l : ℕ) (e : tree.Exp) (u : Turn) → plain-Turn u ≡ frames.loops n l e → Leads m (frames.loops n l e) m (step_to.Turn u)
loops_wait m n l e u g = λ t K s f. (f, g, refl)

pub calls_wait : (m : Machine) (i : ℕ) (vs : List values.Value) (u : Turn) → plain-Turn u ≡ frames.finishes (frames.calls i) vs → Leads m (frames.finishes (frames.calls i) vs) m (step_to.Turn u)
calls_wait m i vs u g = λ t K s f. (f, g, refl)
