-- What is answered of a function's written sets: that they are good, or the number of the first rule that they break.
use Rattle.std.specs.Prelude.{◌≡◌, ◌↔◌, ◌⊎◌, ℕ, ◌<◌, Bool, true, List, length, Option, Some, None, slice_get}
use Rattle.rx_lower_walks.specs.Graph.{Site}
use Rattle.rx_region.specs.Constraints.{Context}
use Rattle.rx_region.specs.Solutions.{Sets}
use Rattle.rx_loan.specs.Accesses.{Loan}
use Rattle.rx_loan.specs.Loans.{InScope}
use Rattle.rx_loan.specs.Accepted.{at_sites}
use Rattle.rx_cert_rules.specs.Rules.{Constrained, EndsKnown, LoansFollow, NoneConflicts, loans_in, Good}

-- the rule of this number is broken, and those before it are kept
pub data FirstBroken (C : Context) (g : List Site) (R : Sets) (W : ℕ → ℕ → Bool) : ℕ → Type 0 where
  first : (Constrained C g R → ⊥) → FirstBroken C g R W 1
  second : Constrained C g R → (EndsKnown C R → ⊥) → FirstBroken C g R W 2
  third : Constrained C g R → EndsKnown C R → (LoansFollow g (at_sites R) (loans_in C g) W → ⊥) → FirstBroken C g R W 3
  fourth : Constrained C g R → EndsKnown C R → LoansFollow g (at_sites R) (loans_in C g) W → (NoneConflicts g (loans_in C g) W → ⊥)
      → FirstBroken C g R W 4

abbrev pub Judges : Context → List Site → Sets → (ℕ → ℕ → Bool) → Option ℕ → Type 0
Judges C g R W None = Good C g R W
Judges C g R W (Some n) = FirstBroken C g R W n

-- the sites at which each loan is in scope under some sets
abbrev pub AreScopes : Context → List Site → Sets → (ℕ → ℕ → Bool) → Type 0
AreScopes C g R W = (i p : ℕ) (l : Loan) → slice_get (loans_in C g) i ≡ Some l → p < length g → (W i p ≡ true) ↔ InScope g (at_sites R) l p

-- ---- what private functions answer: of the first two rules, and of the others

abbrev pub OfLifetimes : Context → List Site → Sets → Option ℕ → Type 0
OfLifetimes C g R None = Constrained C g R × EndsKnown C R
OfLifetimes C g R (Some n) = ((n ≡ 1) × (Constrained C g R → ⊥)) ⊎ ((n ≡ 2) × Constrained C g R × (EndsKnown C R → ⊥))

abbrev pub OfLoans : List Site → (ℕ → ℕ → Bool) → List Loan → (ℕ → ℕ → Bool) → Option ℕ → Type 0
OfLoans g R ls W None = LoansFollow g R ls W × NoneConflicts g ls W
OfLoans g R ls W (Some n) = ((n ≡ 3) × (LoansFollow g R ls W → ⊥)) ⊎ ((n ≡ 4) × LoansFollow g R ls W × (NoneConflicts g ls W → ⊥))
