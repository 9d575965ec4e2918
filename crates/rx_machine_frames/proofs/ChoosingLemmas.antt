-- Tests, bindings, new variables and parameters are the functions of the state that they are told as, but for the cause where
-- they are Wrong.
use Rattle.std.proofs.Common.{◌≡◌, ℕ, Bool, true, false, List, [], ◌∷◌, ◌++◌, length, Option, None, Some, if◌then◌else◌, refl, ap, ◌∙◌}
use Rattle.std.proofs.lemmas.Bool.{eq-eqb}
use Rattle.rx_typed.specs.Tree.{Pattern, Exp, Arms, no_arm, arm_and, Temporary, Mode, by_value, by_reference, Parameter, own, under, temporary_at}
use Rattle.rx_lower_walks.specs.Matching.{PartTest, Binding, tests, bindings}
use Rattle.rx_lower_walks.specs.Actions.{Declare, Write, Subject, in_place, in_temporary, part, taken, written}
use Rattle.rx_lower_walks.specs.Orders.{argument}
use Rattle.rx_meaning.specs.Endings.{Cause, wrong, lacks, astray, mistyped, missing_arm}
use Rattle.rx_meaning.specs.Values.{Value, truth, lacking, unset, unit_value, and_then, get, element, with_element, slot_of, State, with_memory, with_variable}
use Rattle.rx_meaning.specs.Results.{Result, on, stops, after, bind, Done, gives, or_ends, result_of}
use Rattle.rx_meaning.specs.Places.{Spot, in_slot, spot, follow, found, whole_value, reference_to, after_write}
use Rattle.rx_meaning.specs.Straying.{why_no_part, why_not_found, why_not_written, why_not_checked}
use Rattle.rx_meaning.specs.Acting.{checked, plainly, performed}
use Rattle.rx_meaning.specs.Patterns.{decided, tested, took}
use Rattle.rx_meaning.specs.Expressions.{Functions}
use Rattle.rx_machine_running.specs.Running.{Meaning, acts, bound, begun, with_arguments, value, arms}
use Rattle.rx_machine_frames.specs.Choosing.{both, all_hold, if_holds, first_arm, with_value, takes, bind_all, declare_all, fill_all}
use Rattle.rx_meaning.proofs.Sequences.{after_nothing}

-- goes on from what is there, and is Wrong for a cause where nothing is
abbrev pub or_stops : {A : Type 0} → Cause → Option A → (A → Result ℕ Value) → Result ℕ Value
or_stops c None go = stops [] (wrong c)
or_stops c (Some a) go = go a

-- ---- arms

abbrev way : Cause → Option Bool → (State → Result ℕ Value) → (State → Result ℕ Value) → State → Result ℕ Value
way c None go next s = stops [] (wrong c)
way c (Some true) go next s = go s
way c (Some false) go next s = next s

tested_is : (S : Subject) (vs : List Value) (ts : List PartTest) (go next : State → Result ℕ Value) (s : State) → (c : Cause) × (tested plainly S vs ts go next s ≡ way c (all_hold S vs ts s) go next s)
unfolding tested bind decided result_of
tested_is S vs [] go next s = (missing_arm, refl)
tested_is S vs (t ∷ ts) go next s = by_found (found (part S t.steps) vs s) (why_not_found (part S t.steps) vs s) (tested_is S vs ts go next s)
  where
    More : Type 0
    More = (c : Cause) × (tested plainly S vs ts go next s ≡ way c (all_hold S vs ts s) go next s)

    rest : Value → State → Result ℕ Value
    rest v s1 = decided v (λ s2. tested plainly S vs ts go next s2) next s1

    by_check : (o : Option Bool) (d : Cause) → More → (c : Cause) × (bind (result_of (or_ends d o (λ b. gives [] (truth b) s))) rest ≡ way c (both o (all_hold S vs ts s)) go next s)
    by_check None d h = (d, refl)
    by_check (Some true) d h = (h.0, after_nothing _ ∙ h.1)
    by_check (Some false) d h = (d, after_nothing _)

    by_found : (o : Option (Spot × Value)) (d : Cause) → More
        → (c : Cause) × (bind (result_of (or_ends d o (λ f. or_ends (why_not_checked f.1) (checked t.check f.1) (λ b. gives [] (truth b) s)))) rest ≡ way c (both (and_then o (λ f. checked t.check f.1)) (all_hold S vs ts s)) go next s)
    by_found None d h = (d, refl)
    by_found (Some f) d h = by_check (checked t.check f.1) (why_not_checked f.1) h

pub arms_is : (P : Functions) (below : Meaning) (S : Subject) (vs : List Value) (l : Arms) (s : State)
    → (c : Cause) × (arms P below S vs l s ≡ or_stops c (first_arm S vs l s) (λ a. bound S vs (bindings [] a.0) (λ s1. value P below a.1 s1) s))
unfolding value
arms_is P below S vs no_arm s = (missing_arm, refl)
arms_is P below S vs (arm_and p e rest) s = chained (tested_is S vs (tests [] p) _ _ s) (arms_is P below S vs rest s)
  where
    go : Pattern × Exp → Result ℕ Value
    go a = bound S vs (bindings [] a.0) (λ s1. value P below a.1 s1) s

    chosen : State → Result ℕ Value
    chosen s1 = bound S vs (bindings [] p) (λ s2. value P below e s2) s1

    next : State → Result ℕ Value
    next s1 = arms P below S vs rest s1

    Rest : Type 0
    Rest = (c : Cause) × (arms P below S vs rest s ≡ or_stops c (first_arm S vs rest s) go)

    by : (o : Option Bool) (d : Cause) → Rest → (c : Cause) × (way d o chosen next s ≡ or_stops c (if_holds o (Some (p, e)) (first_arm S vs rest s)) go)
    by None d h = (d, refl)
    by (Some true) d h = (d, refl)
    by (Some false) d h = h

    chained : (c : Cause) × (arms P below S vs (arm_and p e rest) s ≡ way c (all_hold S vs (tests [] p) s) chosen next s) → Rest
        → (c : Cause) × (arms P below S vs (arm_and p e rest) s ≡ or_stops c (if_holds (all_hold S vs (tests [] p) s) (Some (p, e)) (first_arm S vs rest s)) go)
    chained t h = let k = by (all_hold S vs (tests [] p) s) t.0 h in (k.0, t.1 ∙ k.1)

-- ---- variables

element_last : {A : Type 0} (l : List A) (a : A) → element (l ++ a ∷ []) (length l) ≡ Some a
element_last [] a = refl
element_last (b ∷ l) a = element_last l a

with_last : {A : Type 0} (l : List A) (a b : A) → with_element (l ++ a ∷ []) (length l) b ≡ l ++ b ∷ []
with_last [] a b = refl
with_last (c ∷ l) a b = ap (λ r. c ∷ r) (with_last l a b)

abbrev own_slot : ℕ → State → Option ℕ
own_slot x s = slot_of ((x, length s.memory) ∷ s.frame.slots) x

abbrev own_write : ℕ → Value → State → Option ℕ → Done ℕ
own_write x u s o =
    or_ends (why_not_found (own x) [] (with_variable x s)) (and_then (and_then o (λ i. Some (in_slot i [] true))) (λ at. follow (with_variable x s).memory [] at)) (λ at.
    or_ends (why_not_written (with_variable x s).memory at) (after_write u (with_variable x s).memory at) (λ M. gives [] unit_value (with_memory (with_variable x s) M)))

-- a new variable is written at once
new_slot : (x : ℕ) (u : Value) (s : State)
    → or_ends {E = ℕ} (why_not_found (own x) [] (with_variable x s)) (spot (own x) [] (with_variable x s)) (λ at. or_ends (why_not_written (with_variable x s).memory at) (after_write u (with_variable x s).memory at) (λ M. gives [] unit_value (with_memory (with_variable x s) M))) ≡ gives [] unit_value (with_value x u s)
new_slot x u s = by_slot ∙ by_element ∙ by_list
  where
    go : List Value → Done ℕ
    go M = gives [] unit_value (with_memory (with_variable x s) M)

    found_slot : own_slot x s ≡ Some (length s.memory)
    found_slot = ap (λ b. if b then Some (length s.memory) else slot_of s.frame.slots x) (eq-eqb x x refl)

    by_slot : own_write x u s (own_slot x s) ≡ own_write x u s (Some (length s.memory))
    by_slot = ap (own_write x u s) found_slot

    by_element : own_write x u s (Some (length s.memory)) ≡ go (with_element (s.memory ++ lacking unset ∷ []) (length s.memory) u)
    by_element = ap (λ o. or_ends (why_not_written (with_variable x s).memory (in_slot (length s.memory) [] true)) (and_then o (λ y. Some (with_element (s.memory ++ lacking unset ∷ []) (length s.memory) u))) go) (element_last s.memory (lacking unset))

    by_list : go (with_element (s.memory ++ lacking unset ∷ []) (length s.memory) u) ≡ gives [] unit_value (with_value x u s)
    by_list = ap go (with_last s.memory (lacking unset) u)

-- Declare, then Write of what is there
begins_with : (x : ℕ) (t : Temporary) (u : Value) (s : State) (go : State → Result ℕ Value)
    → bind (acts (Declare x) [] s) (λ v s1. bind (acts (Write (own x) t []) (u ∷ []) s1) (λ w s2. go s2)) ≡ go (with_value x u s)
unfolding bind result_of
begins_with x t u s go = after_nothing _ ∙ ap (λ d. bind (result_of d) (λ w s2. go s2)) (new_slot x u s) ∙ after_nothing _

flat : {A B : Type 0} (c : Cause) (o : Option A) (d : A → Cause) (f : A → Option B) (go : B → Done ℕ) → (e : Cause) × (or_ends c o (λ a. or_ends (d a) (f a) go) ≡ or_ends e (and_then o f) go)
flat c None d f go = (c, refl)
flat c (Some a) d f go = (d a, refl)

-- the variable that is written from what was taken
abbrev written_from : ℕ → Temporary → (State → Result ℕ Value) → List Value → State → Result ℕ Value
written_from x t go ws s1 = bind (acts (Declare x) [] s1) (λ v s2. bind (acts (Write (own x) t []) ws s2) (λ w s3. go s3))

-- what is read or borrowed, and the variable with it
takes_it : (c : Cause) (o : Option Value) (x : ℕ) (t : Temporary) (s : State) (go : State → Result ℕ Value)
    → bind (bind (result_of (or_ends c o (λ v. gives [] v s))) (λ v s1. on [] (v ∷ []) s1)) (written_from x t go) ≡ or_stops c o (λ v. go (with_value x v s))
unfolding bind result_of after
takes_it c None x t s go = refl
takes_it c (Some v) x t s go = after_nothing _ ∙ begins_with x t v s go

-- the part of what is held
takes_part : (c : Cause) (o : Option Value) (x : ℕ) (s : State) (go : State → Result ℕ Value)
    → bind (acts (Declare x) [] s) (λ v s1. bind (result_of (or_ends c o (λ u. or_ends (why_not_found (own x) [] s1) (spot (own x) [] s1) (λ at.
    or_ends (why_not_written s1.memory at) (after_write u s1.memory at) (λ M. gives [] unit_value (with_memory s1 M)))))) (λ w s2. go s2))
    ≡ or_stops c o (λ v. go (with_value x v s))
unfolding bind result_of
takes_part c None x s go = after_nothing _
takes_part c (Some u) x s go = after_nothing _ ∙ ap (λ d. bind (result_of d) (λ w s2. go s2)) (new_slot x u s) ∙ after_nothing _

-- one binding, and then more
one_bound : (S : Subject) (vs : List Value) (b : Binding) (m : Mode) (s : State) (go : State → Result ℕ Value)
    → (c : Cause) × (bind (took plainly b.node (taken S (record b { mode = m })) vs s) (λ ws s1. bind (acts (Declare b.variable) [] s1) (λ u s2. bind (performed plainly (written S (record b { mode = m })) ws s2) (λ w s3. go s3)))
    ≡ or_stops c (takes m S b.steps vs s) (λ u. go (with_value b.variable u s)))
unfolding took bind result_of
one_bound S vs b (by_reference k) s go =
    let f = flat (why_not_found (part S b.steps) vs s) (spot (part S b.steps) vs s) (λ at. astray) (λ at. reference_to k at) (λ v. gives [] v s) in (
      f.0,
      ap (λ d. bind (bind (result_of d) (λ v s1. on [] (v ∷ []) s1)) (written_from b.variable (temporary_at b.node 0) go)) f.1
          ∙ takes_it f.0 (and_then (spot (part S b.steps) vs s) (λ at. reference_to k at)) b.variable (temporary_at b.node 0) s go,
    )
one_bound (in_place p) vs b (by_value m) s go =
    let f = flat (why_not_found (under p b.steps) vs s) (found (under p b.steps) vs s) (λ f. lacks) (λ f. whole_value f) (λ v. gives [] v s) in (
      f.0,
      ap (λ d. bind (bind (result_of d) (λ v s1. on [] (v ∷ []) s1)) (written_from b.variable (temporary_at b.node 0) go)) f.1
          ∙ takes_it f.0 (and_then (found (under p b.steps) vs s) (λ f. whole_value f)) b.variable (temporary_at b.node 0) s go,
    )
one_bound (in_temporary t) [] b (by_value m) s go = (mistyped, after_nothing _ ∙ after_nothing _)
one_bound (in_temporary t) (v ∷ []) b (by_value m) s go = (why_no_part b.steps v, after_nothing _ ∙ takes_part (why_no_part b.steps v) (get b.steps v) b.variable s go)
one_bound (in_temporary t) (v ∷ w ∷ vs) b (by_value m) s go = (mistyped, after_nothing _ ∙ after_nothing _)

pub bound_is : (S : Subject) (vs : List Value) (bs : List Binding) (go : State → Result ℕ Value) (s : State) → (c : Cause) × (bound S vs bs go s ≡ or_stops c (bind_all S vs bs s) go)
unfolding bound
bound_is S vs [] go s = (mistyped, refl)
bound_is S vs (b ∷ bs) go s = chained (one_bound S vs b b.mode s (λ s3. bound S vs bs go s3)) (λ u. bound_is S vs bs go (with_value b.variable u s))
  where
    rest : Value → Result ℕ Value
    rest u = bound S vs bs go (with_value b.variable u s)

    others : Value → Option State
    others u = bind_all S vs bs (with_value b.variable u s)

    by : (o : Option Value) (d : Cause) → ((u : Value) → (c : Cause) × (rest u ≡ or_stops c (others u) go)) → (c : Cause) × (or_stops d o rest ≡ or_stops c (and_then o others) go)
    by None d h = (d, refl)
    by (Some u) d h = h u

    chained : (c : Cause) × (bound S vs (b ∷ bs) go s ≡ or_stops c (takes b.mode S b.steps vs s) rest) → ((u : Value) → (c : Cause) × (rest u ≡ or_stops c (others u) go))
        → (c : Cause) × (bound S vs (b ∷ bs) go s ≡ or_stops c (and_then (takes b.mode S b.steps vs s) others) go)
    chained t h = let k = by (takes b.mode S b.steps vs s) t.0 h in (k.0, t.1 ∙ k.1)

pub begun_is : (xs : List ℕ) (go : State → Result ℕ Value) (s : State) → begun xs go s ≡ go (declare_all xs s)
unfolding begun bind result_of
begun_is [] go s = refl
begun_is (x ∷ xs) go s = after_nothing _ ∙ begun_is xs go (with_variable x s)

pub arguments_is : (ps : List Parameter) (vs : List Value) (go : State → Result ℕ Value) (s : State) → (c : Cause) × (with_arguments ps vs go s ≡ or_stops c (fill_all ps vs s) go)
unfolding with_arguments
arguments_is [] [] go s = (mistyped, refl)
arguments_is [] (v ∷ vs) go s = (mistyped, refl)
arguments_is (p ∷ ps) [] go s = (mistyped, refl)
arguments_is (p ∷ ps) (v ∷ vs) go s =
    let h = arguments_is ps vs go (with_value p.variable v s) in
    (h.0, begins_with p.variable (argument p) v s (λ s2. with_arguments ps vs go s2) ∙ h.1)

-- none takes a turn

pub fill_keeps : (ps : List Parameter) (vs : List Value) (s s1 : State) → fill_all ps vs s ≡ Some s1 → s1.turns ≡ s.turns
fill_keeps [] [] s s1 e = cc
fill_keeps [] (v ∷ vs) s s1 e = cc
fill_keeps (p ∷ ps) [] s s1 e = cc
fill_keeps (p ∷ ps) (v ∷ vs) s s1 e = fill_keeps ps vs (with_value p.variable v s) s1 e
