-- Why the check refuses a program: one case a pass, in their order, each with what the passes before it say.
use Rattle.std.specs.Prelude.{◌≡◌, ◌≢◌, ◌⊎◌, List, [], ◌∷◌, Result, Ok, Err}
use Rattle.rx_tree.specs.Plain.{ProgramTree}
use Rattle.rx_resolve_names.specs.declared.resolved.ItemNames.{ItemNames}
use Rattle.rx_resolve_names.specs.declared.resolved.NameFault.{NameFault}
use Rattle.rx_resolve_names.specs.declared.resolved.NameFault.TheVariants as name_fault
use Rattle.rx_resolve_names.specs.Causes as naming
use Rattle.rx_resolve_names.specs.Causes.{Meant}
use Rattle.rx_typed.specs.Types.{Declarations}
use Rattle.rx_typed.specs.PlainTypes.{declarations}
use Rattle.rx_typeck_typed.specs.declared.typed.Typed.{Typed}
use Rattle.rx_typeck_typed.specs.declared.typed.TypedFn.{TypedFn}
use Rattle.rx_typeck_typed.specs.declared.typed.TypeFault.{TypeFault}
use Rattle.rx_typeck_typed.specs.declared.typed.TypeFault.TheVariants as type_fault
use Rattle.rx_typeck_typed.specs.Typing as typing
use Rattle.rx_typeck_typed.specs.Typing.{IsTyped}
use Rattle.rx_cover.specs.declared.covering.CoverFault.{CoverFault}
use Rattle.rx_cover.specs.declared.covering.CoverFault.TheVariants as cover_fault
use Rattle.rx_cover.specs.Causes.{AllCovered}
use Rattle.rx_cover.specs.Judging.{ToldAt}
use Rattle.rx_lower_lifetimes.specs.declared.whole.LowerFault.{LowerFault}
use Rattle.rx_lower_lifetimes.specs.declared.whole.LowerFault.TheVariants as lower_fault
use Rattle.rx_facts.specs.declared.fault.InitFault.{InitFault}
use Rattle.rx_facts.specs.declared.fault.InitFault.TheVariants as init_fault
use Rattle.rx_facts.specs.Passing.{AllAre, FirstNot}
use Rattle.rx_facts.specs.Functions.{IsSmall, IsLarge}
use Rattle.rx_facts.specs.Answers.{FirstUninitialised, AreGraphs, AreFacts}
use Rattle.rx_check.specs.declared.regions.RegionFault.{RegionFault}
use Rattle.rx_check.specs.declared.regions.RegionFault.TheVariants as region_fault
use Rattle.rx_check.specs.declared.loans.LoanFault.{LoanFault}
use Rattle.rx_check.specs.declared.loans.LoanFault.TheVariants as loan_fault
use Rattle.rx_check.specs.Answers.{LackNone, FirstLacks, FirstMeets, AreRegions, AreLoans}
use Rattle.rx_check.specs.declared.fault.CheckFault.{CheckFault}
use Rattle.rx_check.specs.declared.fault.CheckFault.TheVariants as check_fault
use Rattle.rx_check.specs.declared.passes.Found.{Found}
use Rattle.rx_check.specs.declared.passes.Borrowed.{Borrowed}
use Rattle.rx_check.specs.Passes.{matches_of, FunctionsCovered, IsFront}

-- of the first function, in order, whose matches are not all covered, this is said of the first that is not
abbrev pub FirstUncovered : Declarations → List TypedFn → CoverFault → Type 0
FirstUncovered D [] e = ⊥
FirstUncovered D (f ∷ fs) e = ToldAt D f.spans (matches_of f) e ⊎ (AllCovered D (matches_of f) × FirstUncovered D fs e)

-- the names are wrong
pub record IsMisnamed (p : ProgramTree) (e : NameFault) : Type 0 where
  pub told : e ≢ name_fault.OutOfMemory
  pub cause : naming.Causes e p

-- the names have a meaning, and the types are wrong
pub record IsMistyped (p : ProgramTree) (e : TypeFault) : Type 0 where
  pub told : e ≢ type_fault.OutOfMemory
  pub names : List ItemNames
  pub meant : Meant p names
  pub cause : typing.Causes p names e

-- the program is typed, and a match is not covered
pub record IsUncovered (p : ProgramTree) (e : CoverFault) : Type 0 where
  pub told : e ≢ cover_fault.OutOfMemory
  pub names : List ItemNames
  pub meant : Meant p names
  pub types : Typed
  pub typed : IsTyped p names types
  pub first : FirstUncovered (declarations types.decls.items) types.functions e

-- all matches are covered, and this is said of the first function whose graph passes a limit
pub record IsTooLarge (p : ProgramTree) (e : LowerFault) : Type 0 where
  pub told : e ≢ lower_fault.OutOfMemory
  pub names : List ItemNames
  pub meant : Meant p names
  pub types : Typed
  pub typed : IsTyped p names types
  pub covered : FunctionsCovered (declarations types.decls.items) types.functions
  pub first : FirstNot (IsSmall types.decls.items) (IsLarge types.decls.items e) types.functions

-- all graphs are within the limits, and this is said of the first function that is not initialised
pub record IsUnstarted (p : ProgramTree) (e : InitFault) : Type 0 where
  pub told : e ≢ init_fault.OutOfMemory
  pub names : List ItemNames
  pub meant : Meant p names
  pub types : Typed
  pub typed : IsTyped p names types
  pub covered : FunctionsCovered (declarations types.decls.items) types.functions
  pub small : AllAre (IsSmall types.decls.items) types.functions
  pub first : FirstUninitialised types e

-- the passes up to initialisation accept the program, and this is said of the first function that lacks a pair
pub record IsLacking (p : ProgramTree) (e : RegionFault) : Type 0 where
  pub types : Typed
  pub front : IsFront p types
  pub first : FirstLacks types e

-- no function lacks a pair, and this is said of the first in which an access meets a conflicting loan in scope
pub record IsConflicting (p : ProgramTree) (e : LoanFault) : Type 0 where
  pub told : e ≢ loan_fault.OutOfMemory
  pub types : Typed
  pub front : IsFront p types
  pub known : LackNone types
  pub first : FirstMeets types e

-- why a program is refused
abbrev pub Causes : CheckFault → ProgramTree → Type 0
Causes (check_fault.Name e) p = IsMisnamed p e
Causes (check_fault.Types e) p = IsMistyped p e
Causes (check_fault.Cover e) p = IsUncovered p e
Causes (check_fault.Lower e) p = IsTooLarge p e
Causes (check_fault.Init e) p = IsUnstarted p e
Causes (check_fault.Region i l k) p = IsLacking p (region_fault.Missing i l k)
Causes (check_fault.Loan e) p = IsConflicting p e
Causes check_fault.OutOfMemory p = Unit {0}

-- why a pass up to initialisation refuses it
abbrev pub PassCauses : CheckFault → ProgramTree → Type 0
PassCauses (check_fault.Region i l k) p = ⊥
PassCauses (check_fault.Loan e) p = ⊥
PassCauses e p = Causes e p

-- two faults are of one pass; those of names, of graphs and of lifetimes are one, and so are the places of those of coverage, and
-- the products
abbrev pub AreOneCover : CoverFault → CoverFault → Type 0
AreOneCover (cover_fault.Missing a v) (cover_fault.Missing b w) = a ≡ b
AreOneCover (cover_fault.TooWide a m) (cover_fault.TooWide b n) = (a ≡ b) × (m ≡ n)
AreOneCover _ _ = ⊥

abbrev pub AreOne : CheckFault → CheckFault → Type 0
AreOne (check_fault.Name e) (check_fault.Name f) = e ≡ f
AreOne (check_fault.Types e) (check_fault.Types f) = Unit {0}
AreOne (check_fault.Cover e) (check_fault.Cover f) = AreOneCover e f
AreOne (check_fault.Lower e) (check_fault.Lower f) = e ≡ f
AreOne (check_fault.Init e) (check_fault.Init f) = Unit {0}
AreOne (check_fault.Region i l k) (check_fault.Region j m n) = (i ≡ j) × (l ≡ m) × (k ≡ n)
AreOne (check_fault.Loan e) (check_fault.Loan f) = Unit {0}
AreOne _ _ = ⊥

-- what is answered of the coverage of functions, one after the other
abbrev pub FunctionsAnswer : Declarations → List TypedFn → Result (Unit {0}) CoverFault → Type 0
FunctionsAnswer D fs (Ok u) = FunctionsCovered D fs
FunctionsAnswer D fs (Err cover_fault.OutOfMemory) = Unit {0}
FunctionsAnswer D fs (Err e) = FirstUncovered D fs e

-- ---- what private functions do

-- what the passes behind types say of a typed program
abbrev pub TypedCauses : CheckFault → Typed → Type 0
TypedCauses (check_fault.Cover e) t = (e ≢ cover_fault.OutOfMemory) × FirstUncovered (declarations t.decls.items) t.functions e
TypedCauses (check_fault.Lower e) t = (e ≢ lower_fault.OutOfMemory) × FunctionsCovered (declarations t.decls.items) t.functions
    × FirstNot (IsSmall t.decls.items) (IsLarge t.decls.items e) t.functions
TypedCauses (check_fault.Init e) t = (e ≢ init_fault.OutOfMemory) × FunctionsCovered (declarations t.decls.items) t.functions
    × AllAre (IsSmall t.decls.items) t.functions × FirstUninitialised t e
TypedCauses check_fault.OutOfMemory t = Unit {0}
TypedCauses _ t = ⊥

-- what they find
pub record FoundIn (t : Typed) (x : Found) : Type 0 where
  pub covered : FunctionsCovered (declarations t.decls.items) t.functions
  pub graphs : AreGraphs t x.graphs
  pub facts : AreFacts t x.facts

-- what the passes behind initialisation say of a typed program, and what they find
abbrev pub BorrowCauses : CheckFault → Typed → Type 0
BorrowCauses (check_fault.Region i l k) t = FirstLacks t (region_fault.Missing i l k)
BorrowCauses (check_fault.Loan e) t = (e ≢ loan_fault.OutOfMemory) × LackNone t × FirstMeets t e
BorrowCauses check_fault.OutOfMemory t = Unit {0}
BorrowCauses _ t = ⊥

pub record BorrowedIn (t : Typed) (x : Borrowed) : Type 0 where
  pub regions : AreRegions t x.regions
  pub loans : AreLoans t x.loans
