-- A run of an accepted program follows no value that is none of its references, also where its `main` is no function, or takes something.
use Rattle.std.proofs.Common.{◌≡◌, ℕ, zero, suc, ℤ, List, [], ◌∷◌, Option, Some, None, refl, sym, ap, ◌∙◌}
use Rattle.rx_typed.specs.Tree.{Parameter, Function, mark_of, temporary_of}
use Rattle.rx_meaning.specs.Endings.{wrong, mistyped, missing_reference}
use Rattle.rx_meaning.specs.Values.{Value, element, new_frame, State, with_turns}
use Rattle.rx_meaning.specs.Results.{Result, on, jumps, stops}
use Rattle.rx_meaning.specs.Acting.{plainly}
use Rattle.rx_meaning.specs.Expressions.{Meaning, turn_at, take_turn, returned, with_arguments, entered, found, below_level}
use Rattle.rx_meaning.specs.Programs.{Program, begins, run_by, ending_of}
use Rattle.rx_meaning_keeping.specs.Keeping.{IsFunction}
use Rattle.rx_engine_simulation.specs.Astray.{FindsReferences}

ending_stops : (r : Result ℕ Value) → ending_of r ≡ wrong missing_reference → (w : List ℕ) × (r ≡ stops w (wrong missing_reference))
ending_stops (on w v s) e = absurd (cc)
ending_stops (jumps w x v s) e = absurd (cc)
ending_stops (stops w x) e = (w, ap (λ z. stops w z) e)

-- a function that takes something is given nothing
nothing_given : (below : Meaning ℕ) (i : ℕ) (F : Function) (p : Parameter) (ps : List Parameter) (s : State) → F.params ≡ p ∷ ps → entered plainly below i F [] s ≡ stops [] (wrong mistyped)
unfolding returned with_arguments
nothing_given below i F p ps s e =
    ap (λ (qs : List Parameter). returned plainly s.frame (with_arguments plainly qs (mark_of F.body).node [] (λ s1. below F.body (temporary_of F.body) s1) (record s { frame = new_frame i }))) e

other_cause : (w v : List ℕ) → ◌≡◌ {A = Result ℕ Value} (stops w (wrong mistyped)) (stops v (wrong missing_reference)) → ⊥
other_cause w v e = cc

module _ (P : Program) (given : List ℤ) (n : ℕ) where
  takes : (F : Function) (p : Parameter) (ps : List Parameter) → F.params ≡ p ∷ ps → (v : List ℕ) → take_turn (begins given n) (λ s. entered plainly (below_level plainly P.functions n) P.main F [] s) ≡ stops v (wrong missing_reference) → ⊥
  unfolding take_turn
  takes F p ps e v q = by n q
    where
      by : (k : ℕ) → turn_at k (begins given n) (λ s. entered plainly (below_level plainly P.functions n) P.main F [] s) ≡ stops v (wrong missing_reference) → ⊥
      by zero q = cc
      by (suc k) q = other_cause [] v (sym (nothing_given (below_level plainly P.functions n) P.main F p ps (with_turns (begins given n) k) e) ∙ q)

  pub finds_references : ((F : Function) → IsFunction P.functions P.main F → F.params ≡ [] → (told : List ℕ) → run_by plainly P given n ≡ stops told (wrong missing_reference) → ⊥) → FindsReferences P given n
  finds_references never e = let x = ending_stops (run_by plainly P given n) e in by (element P.functions P.main) refl x.0 x.1
    where
      params : (F : Function) → element P.functions P.main ≡ Some (Some F) → (ps : List Parameter) → F.params ≡ ps → (v : List ℕ) → run_by plainly P given n ≡ stops v (wrong missing_reference) → ⊥
      params F is [] none v q = never F is none v q
      params F is (p ∷ ps) some v q = takes F p ps some v
          (sym (ap (λ (o : Option (Option Function)). found o (λ g. take_turn (begins given n) (λ s. entered plainly (below_level plainly P.functions n) P.main g [] s))) is) ∙ q)

      no_function : (o : Option (Option Function)) → element P.functions P.main ≡ o → (v : List ℕ) → found o (λ g. take_turn (begins given n) (λ s. entered plainly (below_level plainly P.functions n) P.main g [] s)) ≡ stops v (wrong missing_reference)
          → run_by plainly P given n ≡ stops v (wrong missing_reference) → ⊥
      no_function None is v r q = cc
      no_function (Some None) is v r q = cc
      no_function (Some (Some F)) is v r q = params F is F.params refl v q

      by : (o : Option (Option Function)) → element P.functions P.main ≡ o → (v : List ℕ) → run_by plainly P given n ≡ stops v (wrong missing_reference) → ⊥
      by o is v q = no_function o is v (sym (ap (λ (o : Option (Option Function)). found o (λ g. take_turn (begins given n) (λ s. entered plainly (below_level plainly P.functions n) P.main g [] s))) is) ∙ q) q
