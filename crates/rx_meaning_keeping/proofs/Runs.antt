-- What is kept where all is told is kept by the run itself, since telling changes nothing.
use Rattle.std.proofs.Common.{◌≡◌, ℕ, suc, ℤ, List, [], subst}
use Rattle.rx_typed.specs.Tree.{Function}
use Rattle.rx_lower_walks.specs.Actions.{Subject}
use Rattle.rx_typed.specs.Tree.{Arms}
use Rattle.rx_meaning.specs.Endings.{Ending, wrong, mistyped}
use Rattle.rx_meaning.specs.Values.{Value}
use Rattle.rx_meaning.specs.Results.{Result, stops}
use Rattle.rx_meaning.specs.Acting.{Acting}
use Rattle.rx_meaning.specs.Telling.{Told, Alike, alike_on, alike_stop, SameSaid}
use Rattle.rx_meaning.specs.Programs.{Program, begins, run_by}
use Rattle.rx_meaning.proofs.Told.{runs_say}
use Rattle.rx_meaning_keeping.specs.Pending.{AsMany, arguments}
use Rattle.rx_meaning_keeping.specs.Formed.{Any, AllFormed}
use Rattle.rx_meaning_keeping.specs.Keeping.{Invariant, IsFunction, Laws}
use Rattle.rx_meaning_keeping.specs.Reaching.{Behaves, Reached, Ends, first, starts, starts_with_other_number, starting}
use Rattle.rx_meaning_keeping.proofs.Keeping.{Comes, answers, ends_all, calls_keep}
use Rattle.rx_meaning_keeping.proofs.Reaching.{Start, I, C, reaching, formed_so}

module _ {E : Type 0} (A : Acting E) (Ok : Ending → Type 0) (P : Program) (C : ℕ → Subject → Arms → Type 0) (W : Type 0) (J : ℕ → W → Invariant) (laws : Laws A Ok P.functions C W J) (formed : AllFormed P.functions C) where
  ended_so : (F : Function) (k : W) (G : _) (r : Result E Value) (q : Result (Told E) Value) → Comes A Ok P.functions C W J laws formed P.main F k G q → Alike SameSaid r q → (t : List E) (e : Ending) → r ≡ stops t e → Ok e
  ended_so F k G r _ (answers s o m g h p) (alike_on x) t e eq = cc
  ended_so F k G r _ (ends_all {e = y} g h) (alike_stop x) t e eq = over y h eq
    where
      over : {w : List E} (y : Ending) → Ok y → ◌≡◌ {A = Result E Value} (stops w y) (stops t e) → Ok e
      over y h q = rw (← end_is q) h
        where
          end_is : {w : List E} {y : Ending} → ◌≡◌ {A = Result E Value} (stops w y) (stops t e) → y ≡ e
          end_is q = cc

  -- a run ends only so
  pub runs_end_so : (F : Function) (q : IsFunction P.functions P.main F) (k : W) (given : List ℤ) (n : ℕ) → ((AsMany F.params [] → ⊥) → Ok (wrong mistyped))
      → ((m : ℕ) → n ≡ suc m → J P.main k [] (starting P given m) (arguments F.params [])) → (t : List E) (e : Ending) → run_by A P given n ≡ stops t e → Ok e
  runs_end_so F q k given n other i t e eq = ended_so F k _ _ _ (calls_keep A Ok P.functions C W J laws formed n P.main F q k [] (begins given n) other i) (runs_say A P given n) t e eq

-- a run ends for the reasons that there are
pub runs_end_for_reasons : {E : Type 0} (A : Acting E) → Behaves A → (P : Program) → AllFormed P.functions (λ f. Any) → (F : Function) → IsFunction P.functions P.main F → (given : List ℤ) (n : ℕ) (t : List E) (e : Ending)
    → run_by A P given (suc n) ≡ stops t e → Ends A P.functions P.main [] (starting P given n) e
runs_end_for_reasons A behaves P formed F q given n t e eq =
    runs_end_so A (Ends A P.functions P.main [] (starting P given n)) P (C A behaves P.functions P.main [] (starting P given n)) Start (I A behaves P.functions P.main [] (starting P given n))
    (reaching A behaves P.functions P.main [] (starting P given n)) (formed_so A behaves P.functions P.main [] (starting P given n) formed) F q (record { given = []; state = starting P given n }) given (suc n)
    (λ h. starts_with_other_number F q h) (λ m i. (first, subst (λ z. Reached A P.functions P.main [] (starting P given n) [] (starting P given z) (arguments F.params [])) (less i) (starts F q))) t e eq
  where
    less : {m : ℕ} → suc n ≡ suc m → n ≡ m
    less i = cc
