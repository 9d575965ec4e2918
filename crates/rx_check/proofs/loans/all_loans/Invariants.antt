use Rattle.std.proofs.Common.{drop, ℕ, List}
use Rattle.rx_core.specs.declared.types.Bound.{Bound}
use Rattle.rx_facts.specs.Passing.{Each, Behind}
use Rattle.rx_check.specs.Functions.{AreRegionsOf, Borrows, MeetsLoan, AreLoansOf}
use Rattle.rx_check.proofs.loans.all_loans.Given as goal

-- by any pairs that the least sets are told by
abbrev pub invariant-loop-i : goal.invariant-loop-i
invariant-loop-i l = (P : ℕ → List Bound) → Each (AreRegionsOf l.typed.decls.items P) l.typed.functions l.regions
    → Behind (AreLoansOf l.typed.decls.items P) (Borrows l.typed.decls.items P) (MeetsLoan l.typed.decls.items P) l.typed.functions (drop l.i l.typed.functions) l.all
