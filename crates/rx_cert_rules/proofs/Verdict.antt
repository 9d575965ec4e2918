-- What is answered of the first two rules and of the others makes a verdict.
use Rattle.std.proofs.Common.{ℕ, Bool, Option, Some, None, inl, inr, List, sym, subst}
use Rattle.rx_lower_walks.specs.Graph.{Site}
use Rattle.rx_region.specs.Constraints.{Context}
use Rattle.rx_region.specs.Solutions.{Sets}
use Rattle.rx_loan.specs.Accepted.{at_sites}
use Rattle.rx_cert_rules.specs.Rules.{loans_in}
use Rattle.rx_cert_rules.specs.Verdicts.{FirstBroken, first, second, third, fourth, Judges, OfLifetimes, OfLoans}

pub of_lifetimes : (C : Context) (g : List Site) (R : Sets) (W : ℕ → ℕ → Bool) (n : ℕ) → OfLifetimes C g R (Some n) → FirstBroken C g R W n
of_lifetimes C g R W n (inl a) = subst (λ m. FirstBroken C g R W m) (sym a.0) (first a.1)
of_lifetimes C g R W n (inr a) = subst (λ m. FirstBroken C g R W m) (sym a.0) (second a.1 a.2)

pub of_loans : (C : Context) (g : List Site) (R : Sets) (W : ℕ → ℕ → Bool) (o : Option ℕ) → OfLifetimes C g R None
    → OfLoans g (at_sites R) (loans_in C g) W o → Judges C g R W o
of_loans C g R W None a b = record { constrained = a.0; known = a.1; follow = b.0; none_conflicts = b.1 }
of_loans C g R W (Some n) a (inl b) = subst (λ m. FirstBroken C g R W m) (sym b.0) (third a.0 a.1 b.1)
of_loans C g R W (Some n) a (inr b) = subst (λ m. FirstBroken C g R W m) (sym b.0) (fourth a.0 a.1 b.1 b.2)
