-- What the passes over lifetimes and over loans ask of a function: that no pair of its own lifetimes is missing (RFC 2094, "Named
-- lifetimes"), and that some sets of points accept it (RFC 2094, "Access legality"). And why one is refused.
use Rattle.std.specs.Prelude.{◌≡◌, ℕ, List, Option, Some, None, Ok}
use Rattle.rx_core.specs.declared.types.Bound.{Bound}
use Rattle.rx_core.specs.declared.types.Span.{Span}
use Rattle.rx_typed.specs.declared.declarations.Decl.{Decl}
use Rattle.rx_lower_walks.specs.Graph.{Site, site_at}
use Rattle.rx_region.specs.Known.{Missing}
use Rattle.rx_region.specs.Passing.{IsFirst, RegionAnswer}
use Rattle.rx_loan.specs.Accepted.{IsAccepted}
use Rattle.rx_loan.specs.Answer as borrows
use Rattle.rx_typeck_typed.specs.declared.typed.TypedFn.{TypedFn}
use Rattle.rx_facts.specs.Functions.{sites_of, span_of}
use Rattle.rx_check.specs.Contexts.{context_of}
use Rattle.rx_check.specs.declared.regions.FunctionRegions.{FunctionRegions}
use Rattle.rx_check.specs.declared.regions.RegionFault.{RegionFault}
use Rattle.rx_check.specs.declared.regions.RegionFault.TheVariants as region_fault
use Rattle.rx_check.specs.declared.loans.FunctionLoans.{FunctionLoans}
use Rattle.rx_check.specs.declared.loans.LoanFault.{LoanFault}
use Rattle.rx_check.specs.declared.loans.LoanFault.TheVariants as loan_fault

-- ---- lifetimes

-- no pair is missing
abbrev pub LacksNone : List Decl → (ℕ → List Bound) → TypedFn → Type 0
LacksNone D P f = (l k : ℕ) → Missing (context_of D P f) (sites_of f) l k → ⊥

-- a pair is missing, and it is the first
abbrev pub LacksPair : List Decl → (ℕ → List Bound) → RegionFault → TypedFn → Type 0
LacksPair D P (region_fault.Missing i l k) f = (i ≡ f.item) × Missing (context_of D P f) (sites_of f) l k × IsFirst (context_of D P f) (sites_of f) l k
LacksPair D P region_fault.OutOfMemory f = Unit {0}

-- its least sets, which keep to what is known
abbrev pub AreRegionsOf : List Decl → (ℕ → List Bound) → TypedFn → FunctionRegions → Type 0
AreRegionsOf D P f x = RegionAnswer (context_of D P f) (sites_of f) (Ok x.regions)

-- ---- loans

abbrev pub Borrows : List Decl → (ℕ → List Bound) → TypedFn → Type 0
Borrows D P f = IsAccepted (context_of D P f) (sites_of f)

-- where the node of a site stands in the text
abbrev pub node_at : Option Site → ℕ
node_at (Some s) = s.action.node
node_at None = 0

abbrev pub site_span : TypedFn → ℕ → Span
site_span f p = span_of f.spans (node_at (site_at (sites_of f) p))

-- an access meets a conflicting loan in scope, by where the loan's borrow and the access stand
abbrev pub MeetsLoan : List Decl → (ℕ → List Bound) → LoanFault → TypedFn → Type 0
MeetsLoan D P (loan_fault.Loan a b) f = (x y : ℕ) × (a ≡ site_span f x) × (b ≡ site_span f y) × borrows.IsForbidden (context_of D P f) (sites_of f) x y
MeetsLoan D P loan_fault.OutOfMemory f = Unit {0}

-- it is accepted, and where each loan is in scope under the least sets
abbrev pub AreLoansOf : List Decl → (ℕ → List Bound) → TypedFn → FunctionLoans → Type 0
AreLoansOf D P f x = borrows.AreLoans (context_of D P f) (sites_of f) x.loans
