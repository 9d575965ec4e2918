-- What the passes over the lifetimes and the loans of all functions answer.
use Rattle.std.specs.Prelude.{ℕ, List, Result, Ok, Err}
use Rattle.rx_core.specs.declared.types.Bound.{Bound}
use Rattle.rx_typed.specs.declared.declarations.Decl.{Decl}
use Rattle.rx_typeck_typed.specs.declared.typed.Typed.{Typed}
use Rattle.rx_typeck_typed.specs.declared.typed.TypedFn.{TypedFn}
use Rattle.rx_facts.specs.Passing.{AllAre, Each, FirstNot}
use Rattle.rx_check.specs.Contexts.{AreAsked}
use Rattle.rx_check.specs.Functions.{LacksNone, LacksPair, AreRegionsOf, Borrows, MeetsLoan, AreLoansOf}
use Rattle.rx_check.specs.declared.regions.FunctionRegions.{FunctionRegions}
use Rattle.rx_check.specs.declared.regions.RegionFault.{RegionFault}
use Rattle.rx_check.specs.declared.regions.RegionFault.TheVariants as region_fault
use Rattle.rx_check.specs.declared.loans.FunctionLoans.{FunctionLoans}
use Rattle.rx_check.specs.declared.loans.LoanFault.{LoanFault}
use Rattle.rx_check.specs.declared.loans.LoanFault.TheVariants as loan_fault

-- ---- what is asked of a program, by pairs that are those of what is declared

-- no function lacks a pair
pub record LackNone (t : Typed) : Type 0 where
  pub implied : ℕ → List Bound
  pub asked : AreAsked t.decls.items implied
  pub each : AllAre (LacksNone t.decls.items implied) t.functions

-- each function is accepted: some sets of points serve, keep to what is known, and meet no conflict
pub record AllBorrow (t : Typed) : Type 0 where
  pub implied : ℕ → List Bound
  pub asked : AreAsked t.decls.items implied
  pub each : AllAre (Borrows t.decls.items implied) t.functions

-- ---- lifetimes

-- the least sets of each function
pub record AreRegions (t : Typed) (xs : List FunctionRegions) : Type 0 where
  pub implied : ℕ → List Bound
  pub asked : AreAsked t.decls.items implied
  pub each : Each (AreRegionsOf t.decls.items implied) t.functions xs

-- the first function that lacks a pair
pub record FirstLacks (t : Typed) (e : RegionFault) : Type 0 where
  pub implied : ℕ → List Bound
  pub asked : AreAsked t.decls.items implied
  pub first : FirstNot (LacksNone t.decls.items implied) (LacksPair t.decls.items implied e) t.functions

abbrev pub RegionsAnswer : Typed → Result (List FunctionRegions) RegionFault → Type 0
RegionsAnswer t (Ok xs) = AreRegions t xs
RegionsAnswer t (Err region_fault.OutOfMemory) = Unit {0}
RegionsAnswer t (Err e) = FirstLacks t e

-- ---- loans

-- each function is accepted, and where its loans are in scope
pub record AreLoans (t : Typed) (xs : List FunctionLoans) : Type 0 where
  pub implied : ℕ → List Bound
  pub asked : AreAsked t.decls.items implied
  pub each : Each (AreLoansOf t.decls.items implied) t.functions xs

-- the first function in which an access meets a conflicting loan
pub record FirstMeets (t : Typed) (e : LoanFault) : Type 0 where
  pub implied : ℕ → List Bound
  pub asked : AreAsked t.decls.items implied
  pub first : FirstNot (Borrows t.decls.items implied) (MeetsLoan t.decls.items implied e) t.functions

abbrev pub LoansAnswer : Typed → Result (List FunctionLoans) LoanFault → Type 0
LoansAnswer t (Ok xs) = AreLoans t xs
LoansAnswer t (Err loan_fault.OutOfMemory) = Unit {0}
LoansAnswer t (Err e) = FirstMeets t e

-- ---- what private functions do: of one function, and of all, by these pairs

abbrev pub FunctionRegionsAnswer : List Decl → (ℕ → List Bound) → TypedFn → Result FunctionRegions RegionFault → Type 0
FunctionRegionsAnswer D P f (Ok x) = AreRegionsOf D P f x
FunctionRegionsAnswer D P f (Err e) = LacksPair D P e f

abbrev pub EachRegions : List Decl → (ℕ → List Bound) → List TypedFn → Result (List FunctionRegions) RegionFault → Type 0
EachRegions D P fs (Ok xs) = Each (AreRegionsOf D P) fs xs
EachRegions D P fs (Err region_fault.OutOfMemory) = Unit {0}
EachRegions D P fs (Err e) = FirstNot (LacksNone D P) (LacksPair D P e) fs

abbrev pub FunctionLoansAnswer : List Decl → (ℕ → List Bound) → TypedFn → Result FunctionLoans LoanFault → Type 0
FunctionLoansAnswer D P f (Ok x) = AreLoansOf D P f x
FunctionLoansAnswer D P f (Err e) = MeetsLoan D P e f
