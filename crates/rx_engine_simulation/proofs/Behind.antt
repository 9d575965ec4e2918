-- A pattern that looks behind the reference in a variable of the answer binds the same, where it is given the place and where it is given
-- the reference.
use Rattle.std.proofs.Common.{◌≡◌, ℕ, Bool, true, List, [], ◌∷◌, length, Option, Some, None, refl, sym, ap, ◌∙◌, ◌⊎◌, inl, inr}
use Rattle.rx_core.specs.declared.types.Step.{Step}
use Rattle.rx_core.specs.declared.types.Step.TheVariants as step
use Rattle.rx_typed.specs.Tree as tree
use Rattle.rx_typed.specs.Tree.{Mark, Mode, by_reference, Body, Pattern, Temporary, own, temporary_place, under}
use Rattle.rx_lower_walks.specs.Matching.{Binding, bindings}
use Rattle.rx_lower_walks.specs.Actions.{Declare, Write, Borrow, Subject, in_place, in_temporary, part, does}
use Rattle.rx_meaning.specs.Endings.{Cause, Ending, astray, missing_reference, wrong}
use Rattle.rx_meaning.specs.Straying.{where_some, unlike, why_no_part, why_not_followed, why_not_found}
use Rattle.rx_meaning.specs.Values.{Value, unit_value, is_set, and_then, get, element, slot_of, State}
use Rattle.rx_meaning.specs.Results as results
use Rattle.rx_meaning.specs.Results.{Result, Done, or_ends, on, stops, bind, result_of}
use Rattle.rx_meaning.specs.Places.{Spot, in_slot, pointed, follow, spot, reference_to}
use Rattle.rx_meaning.specs.Acting.{performed, plainly, does_plainly}
use Rattle.rx_meaning.specs.Patterns.{took, bound, closed}
use Rattle.rx_meaning.specs.Expressions.{Functions, Meaning, value, body}
use Rattle.rx_meaning.proofs.Sequences.{after_nothing, bind_on, closed_is}
use Rattle.rx_engine_simulation.specs.Binders.{GoesBehind, AreBehind}
use Rattle.rx_engine_simulation.proofs.Memory.{at_before, at_below}
use Rattle.rx_engine_simulation.proofs.Declaring.{old_slot}
use Rattle.rx_engine_simulation.proofs.Parts.{declare_answer}
use Rattle.rx_engine_simulation.proofs.Entry.{with_value}
use Rattle.rx_engine_simulation.proofs.Given.{read_is, write_is}

-- ---- one binding, of any subject

module _ (S : Subject) (vs : List Value) (n z : ℕ) (ss : List Step) (k : Bool) (bs : List Binding) (i : ℕ) (go : State → Result ℕ Value) (s : State) where
  abbrev first : Binding
  first = record { node = n; variable = z; steps = ss; mode = by_reference k }

  abbrev borrows : Result ℕ Value
  borrows = performed plainly (does n (Borrow k (part S ss) (tree.temporary_at n 0))) vs s

  -- the variable, from what was borrowed
  abbrev bound_then : List Value → State → Result ℕ Value
  bound_then ws s = bind (performed plainly (does n (Declare z)) [] s) (λ u s1. bind (performed plainly (does n (Write (own z) (tree.temporary_at n 0) [])) ws s1) (λ w s2. closed plainly i z (bound plainly S vs bs i go s2)))

  then_is : (u : Value) → bound_then (u ∷ []) s ≡ bound plainly S vs bs i go (with_value z u s)
  then_is u =
      declare_answer n z s (λ x s1. bind (performed plainly (does n (Write (own z) (tree.temporary_at n 0) [])) (u ∷ []) s1) (λ w s2. closed plainly i z (bound plainly S vs bs i go s2)))
      ∙ after_nothing _
      ∙ ap (λ r. bind r (λ w s2. closed plainly i z (bound plainly S vs bs i go s2))) (write_is n z (tree.temporary_at n 0) u s)
      ∙ bind_on unit_value (with_value z u s) _
      ∙ closed_is i z _

  bound_is : bound plainly S vs (first ∷ bs) i go s ≡ bind (bind borrows (λ u s1. on [] (u ∷ []) s1)) bound_then
  unfolding bound took
  bound_is = refl

  bound_gives : (u : Value) → borrows ≡ on [] u s → bound plainly S vs (first ∷ bs) i go s ≡ bound plainly S vs bs i go (with_value z u s)
  bound_gives u e = bound_is ∙ ap (λ r. bind (bind r (λ u s1. on [] (u ∷ []) s1)) bound_then) e ∙ ap (λ r. bind r bound_then) (bind_on u s (λ u s1. on [] (u ∷ []) s1)) ∙ bind_on (u ∷ []) s bound_then ∙ then_is u

  stops_on : (e : Ending) → bind (bind (stops [] e) (λ (u : Value) s1. on [] (u ∷ []) s1)) bound_then ≡ stops [] e
  unfolding bind
  stops_on e = refl

  bound_ends : (e : Ending) → borrows ≡ stops [] e → bound plainly S vs (first ∷ bs) i go s ≡ stops [] e
  bound_ends x e = bound_is ∙ ap (λ r. bind (bind r (λ u s1. on [] (u ∷ []) s1)) bound_then) e ∙ stops_on x

-- ---- what is borrowed

-- it gives a reference, and changes nothing; or ends the run
borrow_cases : (k : Bool) (c : Cause) (o : Option Spot) (s : State) (D : Done ℕ) → D ≡ or_ends c o (λ at. or_ends astray (reference_to k at) (λ w. results.gives [] w s))
    → ((u : Value) × (result_of D ≡ on [] u s)) ⊎ ((e : Ending) × (result_of D ≡ stops [] e))
unfolding result_of
borrow_cases k c None s D h = inr (wrong c, ap (λ r. result_of r) h)
borrow_cases k c (Some at) s D h = by (reference_to k at) refl
  where
    by : (o : Option Value) → reference_to k at ≡ o → ((u : Value) × (result_of D ≡ on [] u s)) ⊎ ((e : Ending) × (result_of D ≡ stops [] e))
    by None e = inr (wrong astray, ap (λ r. result_of r) (h ∙ ap (λ o. or_ends astray o (λ w. results.gives [] w s)) e))
    by (Some u) e = inl (u, ap (λ r. result_of r) (h ∙ ap (λ o. or_ends astray o (λ w. results.gives [] w s)) e))

module _ (y r : ℕ) (v : Value) (p : Temporary) where
  -- where the variable holds the value
  abbrev Holds : State → Type 0
  Holds s = (slot_of s.frame.slots y ≡ Some r) × (element s.memory r ≡ Some v)

  same_borrow : (k n : Bool) (ss : List Step) (d : Temporary) (s : State) → Holds s → does_plainly (Borrow k (under (own y) (step.Deref n ∷ ss)) d) [] s ≡ does_plainly (Borrow k (under (temporary_place p) (step.Deref n ∷ ss)) d) (v ∷ []) s
  same_borrow k n ss d s h =
      ap (λ o. or_ends {A = Spot} (where_some (and_then o (λ i. Some (in_slot i [] true))) astray (λ at. why_not_followed s.memory (step.Deref n ∷ ss) at)) (and_then (and_then o (λ i. Some (in_slot i [] true))) (λ at. follow s.memory (step.Deref n ∷ ss) at)) (λ at. or_ends astray (reference_to k at) (λ w. results.gives [] w s))) h.0
      ∙ ap (λ o. or_ends {A = Spot} (where_some (and_then o (λ u. get [] u)) (where_some o astray (λ u. why_no_part [] u)) (λ u. where_some (pointed true u) (unlike missing_reference u) (λ to. why_not_followed s.memory ss to))) (and_then (and_then o (λ u. get [] u)) (λ u. and_then (pointed true u) (λ to. follow s.memory ss to))) (λ at. or_ends astray (reference_to k at) (λ w. results.gives [] w s))) h.1

  holds_on : (z : ℕ) (u : Value) (s : State) → (z ≡ y → ⊥) → Holds s → Holds (with_value z u s)
  holds_on z u s n h = (old_slot z (length s.memory) y s.frame.slots (λ e. n (sym e)) ∙ h.0, at_before s.memory u r (at_below s.memory r v h.1) ∙ h.1)

  module _ (i : ℕ) (go : State → Result ℕ Value) where
    abbrev Same : List Binding → State → Type 0
    Same bs s = bound plainly (in_place (own y)) [] bs i go s ≡ bound plainly (in_temporary p) (v ∷ []) bs i go s

    one_same : (n z : ℕ) (ss : List Step) (m : Mode) (bs : List Binding) → GoesBehind m ss → (z ≡ y → ⊥) → ((s : State) → Holds s → Same bs s) → (s : State) → Holds s → Same (record { node = n; variable = z; steps = ss; mode = m } ∷ bs) s
    one_same n z (step.Deref w ∷ ss) (by_reference k) bs g other rest s h =
        by (borrow_cases k (why_not_found (under (own y) (step.Deref w ∷ ss)) [] s) (spot (under (own y) (step.Deref w ∷ ss)) [] s) s (does_plainly (Borrow k (under (own y) (step.Deref w ∷ ss)) (tree.temporary_at n 0)) [] s) refl)
      where
        same : performed plainly (does n (Borrow k (under (temporary_place p) (step.Deref w ∷ ss)) (tree.temporary_at n 0))) (v ∷ []) s ≡ performed plainly (does n (Borrow k (under (own y) (step.Deref w ∷ ss)) (tree.temporary_at n 0))) [] s
        same = ap (λ r. result_of r) (sym (same_borrow k w ss (tree.temporary_at n 0) s h))

        by : ((u : Value) × (performed plainly (does n (Borrow k (under (own y) (step.Deref w ∷ ss)) (tree.temporary_at n 0))) [] s ≡ on [] u s)) ⊎ ((e : Ending) × (performed plainly (does n (Borrow k (under (own y) (step.Deref w ∷ ss)) (tree.temporary_at n 0))) [] s ≡ stops [] e))
            → Same (record { node = n; variable = z; steps = step.Deref w ∷ ss; mode = by_reference k } ∷ bs) s
        by (inl a) =
            bound_gives (in_place (own y)) [] n z (step.Deref w ∷ ss) k bs i go s a.0 a.1
            ∙ rest (with_value z a.0 s) (holds_on z a.0 s other h)
            ∙ sym (bound_gives (in_temporary p) (v ∷ []) n z (step.Deref w ∷ ss) k bs i go s a.0 (same ∙ a.1))
        by (inr a) = bound_ends (in_place (own y)) [] n z (step.Deref w ∷ ss) k bs i go s a.0 a.1 ∙ sym (bound_ends (in_temporary p) (v ∷ []) n z (step.Deref w ∷ ss) k bs i go s a.0 (same ∙ a.1))
    one_same n z (step.Field j ∷ ss) (by_reference k) bs g other rest s h = absurd g
    one_same n z (step.Variant j ∷ ss) (by_reference k) bs g other rest s h = absurd g
    one_same n z [] (by_reference k) bs g other rest s h = absurd g
    one_same n z ss (tree.by_value w) bs g other rest s h = absurd g

    none_same : (s : State) → Same [] s
    unfolding bound
    none_same s = refl

    all_same : (bs : List Binding) → AreBehind y bs → (s : State) → Holds s → Same bs s
    all_same [] a s h = none_same s
    all_same (b ∷ bs) a s h = one_same b.node b.variable b.steps b.mode bs a.0 a.1 (λ s h. all_same bs a.2 s h) s h

-- ---- a statement

pub behind_body_is : (Q : Functions) (low : Meaning ℕ) (n : ℕ) (q : Pattern) (m m' : Mark) (w : Bool) (y r : ℕ) (v : Value) (rest : Body) (i : ℕ) (t : Temporary) (s : State) → AreBehind y (bindings [] q) → slot_of s.frame.slots y ≡ Some r → element s.memory r ≡ Some v → is_set v ≡ true
    → body plainly Q low (tree.lets n q (tree.at_place m (own y)) rest) i t s ≡ body plainly Q low (tree.lets n q (tree.of_value (tree.read m' w (own y))) rest) i t s
unfolding value
behind_body_is Q low n q m m' w y r v rest i t s a e f set =
    bind_on [] s (λ vs s1. bound plainly (in_place (own y)) vs (bindings [] q) i (λ s2. body plainly Q low rest i t s2) s1)
    ∙ all_same y r v (tree.temporary_of (tree.read m' w (own y))) i (λ s2. body plainly Q low rest i t s2) (bindings [] q) a s (e, f)
    ∙ sym (ap (λ r. bind (bind r (λ u s1. on [] (u ∷ []) s1)) (λ vs s1. bound plainly (in_temporary (tree.temporary_of (tree.read m' w (own y)))) vs (bindings [] q) i (λ s2. body plainly Q low rest i t s2) s1)) (read_is Q low m' w y r (tree.temporary_of (tree.read m' w (own y))) v s e f set)
    ∙ ap (λ r. bind r (λ vs s1. bound plainly (in_temporary (tree.temporary_of (tree.read m' w (own y)))) vs (bindings [] q) i (λ s2. body plainly Q low rest i t s2) s1)) (bind_on v s (λ u s1. on [] (u ∷ []) s1))
    ∙ bind_on (v ∷ []) s (λ vs s1. bound plainly (in_temporary (tree.temporary_of (tree.read m' w (own y)))) vs (bindings [] q) i (λ s2. body plainly Q low rest i t s2) s1))
