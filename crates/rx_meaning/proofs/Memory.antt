-- The memory only grows, by what each action does.
use Rattle.std.proofs.Common.{◌≡◌, ℕ, zero, suc, ◌≤◌, true, false, List, [], ◌∷◌, length, Option, Some, None, refl, ap, subst, sym, ◌∙◌, arith, le_refl, ℤ, length-append}
use Rattle.rx_typed.specs.Tree.{Function}
use Rattle.rx_lower_walks.specs.Actions.{Act, Declare, Dead, Read, Write, Borrow, Test, Call, Build, Input, Print, Give}
use Rattle.rx_meaning.specs.Endings.{Cause}
use Rattle.rx_meaning.specs.Values.{Value, lacking, unset, get, put, element, with_element, State, and_then}
use Rattle.rx_meaning.specs.Results.{Done, or_ends, Leaves}
use Rattle.rx_meaning.specs.Places.{Spot, in_slot, in_value, spot, found, whole_value, reference_to, after_write}
use Rattle.rx_meaning.specs.Operators as operators
use Rattle.rx_meaning.specs.Operators.{Computed, make, shown}
use Rattle.rx_meaning.specs.Acting.{checked, computed, next_input, does_plainly, plainly}
use Rattle.rx_meaning.specs.Expressions.{Functions, activation, below_level}
use Rattle.rx_meaning.proofs.Kept.{DoneLeaves, IsKept, activations_keep}

length_with : {A : Type 0} (l : List A) (i : ℕ) (a : A) → length (with_element l i a) ≡ length l
length_with [] i a = refl
length_with (b ∷ l) zero a = refl
length_with (b ∷ l) (suc i) a = ap suc (length_with l i a)

-- at least so many slots
abbrev pub Has : ℕ → State → Type 0
Has n s = n ≤ length s.memory

module _ (n : ℕ) where
  or_has : {A : Type 0} (c : Cause) (o : Option A) (go : A → Done ℕ) → ((a : A) → o ≡ Some a → DoneLeaves (Has n) (go a)) → DoneLeaves (Has n) (or_ends c o go)
  or_has c None go k = tt
  or_has c (Some a) go k = k a refl

  some_length : (v : Value) (M N : List Value) (i : ℕ) (ss : _) → and_then (element M i) (λ u. and_then (put ss v u) (λ x. Some (with_element M i x))) ≡ Some N → length N ≡ length M
  some_length v M N i ss e = by (element M i) e
    where
      inner : (o : Option Value) → and_then o (λ x. Some (with_element M i x)) ≡ Some N → length N ≡ length M
      inner None e = absurd (cc)
      inner (Some x) e = ap length (sym (cc)) ∙ length_with M i x

      by : (o : Option Value) → and_then o (λ u. and_then (put ss v u) (λ x. Some (with_element M i x))) ≡ Some N → length N ≡ length M
      by None e = absurd (cc)
      by (Some u) e = inner (put ss v u) e

  written_length : (v : Value) (M N : List Value) (at : Spot) → after_write v M at ≡ Some N → length N ≡ length M
  written_length v M N (in_slot i ss true) e = some_length v M N i ss e
  written_length v M N (in_slot i ss false) e = absurd (cc)
  written_length v M N (in_value u) e = absurd (cc)

  computed_has : (c : Computed) (s : State) → Has n s → DoneLeaves (Has n) (computed c s)
  computed_has (operators.gives v) s h = h
  computed_has (operators.traps t) s h = tt
  computed_has operators.senseless s h = tt

  input_has : (l : List ℤ) (s : State) → Has n s → DoneLeaves (Has n) (next_input l s)
  input_has [] s h = h
  input_has (z ∷ zs) s h = h

  does_has : (a : Act) (vs : List Value) (s : State) → Has n s → DoneLeaves (Has n) (does_plainly a vs s)
  does_has (Declare x) vs s h = let e = length-append s.memory (lacking unset ∷ []) in omega (arith, e, h)
  does_has (Dead x) vs s h = h
  does_has (Read m p d) vs s h = or_has _ (found p vs s) _ (λ f e. or_has _ (whole_value f) _ (λ v e. h))
  does_has (Write p t ss) [] s h = tt
  does_has (Write p t ss) (v ∷ []) s h =
      or_has _ (get ss v) _ (λ u e. or_has _ (spot p [] s) _ (λ at e. or_has _ (after_write u s.memory at) _ (λ M e. subst (λ k. n ≤ k) (sym (written_length u s.memory M at e)) h)))
  does_has (Write p t ss) (v ∷ w ∷ vs) s h = tt
  does_has (Borrow k p d) vs s h = or_has _ (spot p vs s) _ (λ at e. or_has _ (reference_to k at) _ (λ v e. h))
  does_has (Test p c) vs s h = or_has _ (found p vs s) _ (λ f e. or_has _ (checked c f.1) _ (λ b e. h))
  does_has (Call f ts d) vs s h = h
  does_has (Build w js ts d) vs s h = computed_has (make w js vs) s h
  does_has (Input d) vs s h = input_has s.input s h
  does_has (Print t) [] s h = tt
  does_has (Print t) (v ∷ []) s h = or_has _ (shown v) _ (λ bytes e. h)
  does_has (Print t) (v ∷ w ∷ vs) s h = tt
  does_has (Give t) [] s h = tt
  does_has (Give t) (v ∷ []) s h = h
  does_has (Give t) (v ∷ w ∷ vs) s h = tt

  memory_kept : IsKept plainly (Has n)
  memory_kept = record { performs = λ a vs s h. does_has a.act vs s h; turns = λ s t h. h; frames = λ s F h. h }

pub memory_grows : (P : Functions) (n : ℕ) (f : Function) (vs : List Value) (s : State) → Leaves (λ s1. length s.memory ≤ length s1.memory) (activation plainly (below_level plainly P n) f vs s)
memory_grows P n f vs s = activations_keep plainly (Has (length s.memory)) (memory_kept (length s.memory)) P n f vs s (le_refl (length s.memory))
