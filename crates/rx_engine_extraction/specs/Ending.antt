-- What the parts of the end of an extraction answer: of the program with the call, and of that with bounds.
use Rattle.std.specs.Prelude.{◌≡◌, ◌≢◌, ◌≤◌, ◌<◌, ◌⊎◌, ℕ, nat_lt, if◌then◌else◌, List, length, Result, Ok, Err}
use Rattle.rx_core.specs.declared.types.Bound.{Bound}
use Rattle.rx_core.specs.declared.types.Which.TheVariants as which
use Rattle.rx_tree.specs.Plain.{ProgramTree}
use Rattle.rx_check.specs.declared.fault.CheckFault.{CheckFault}
use Rattle.rx_check.specs.declared.fault.CheckFault.TheVariants as check_fault
use Rattle.rx_check.specs.Causes.{Causes, PassCauses}
use Rattle.rx_check.specs.Passes.{Accepted}
use Rattle.rx_check.specs.declared.loans.LoanFault.TheVariants as loan_fault
use Rattle.rx_lower_lifetimes.specs.declared.whole.LowerFault.TheVariants as lower_fault
use Rattle.rx_engine_extraction.specs.declared.refusal.Answer.{Answer}
use Rattle.rx_engine_extraction.specs.declared.refusal.Fault.{Fault}
use Rattle.rx_engine_extraction.specs.declared.refusal.Fault.TheVariants as fault
use Rattle.rx_engine_extraction.specs.declared.refusal.Refusal.{Refusal}
use Rattle.rx_engine_extraction.specs.declared.refusal.Refusal.TheVariants as refusal
use Rattle.rx_engine_extraction.specs.Failing.{HasLarge}
use Rattle.rx_typeck_typed.specs.declared.typed.Typed.{Typed}
use Rattle.rx_typeck_typed.specs.declared.typed.TypedFn.{TypedFn}
use Rattle.rx_hoist_extraction.specs.Plan.{Bounds}
use Rattle.rx_repair.specs.Named.{named_at}
use Rattle.rx_repair.specs.Repaired.{repaired}
use Rattle.rx_engine_extraction.specs.Meeting.{most_sites, most_bytes, IsUnfit, Fits}

-- ---- faults as those of the extraction

abbrev pub too_large : ℕ → ℕ → Refusal
too_large s l = if nat_lt most_sites s then refusal.Limit which.Sites s else refusal.Limit which.Positions l

abbrev pub of_front : CheckFault → Fault
of_front check_fault.OutOfMemory = fault.OutOfMemory
of_front (check_fault.Lower (lower_fault.TooLarge f s l)) = fault.Refused (too_large s l)
of_front (check_fault.Lower lower_fault.OutOfMemory) = fault.OutOfMemory
of_front e = fault.Refused (refusal.Unfit e)

abbrev pub of_check : CheckFault → Fault
of_check check_fault.OutOfMemory = fault.OutOfMemory
of_check (check_fault.Region i l k) = fault.Refused (refusal.Region i l k)
of_check (check_fault.Loan (loan_fault.Loan a b)) = fault.Refused (refusal.Loan a b)
of_check (check_fault.Loan loan_fault.OutOfMemory) = fault.OutOfMemory
of_check e = fault.Refused (refusal.Unfit e)

-- ---- the program with the call

-- a graph passes its limit: of sites, else of positions
abbrev pub IsPastLimit : ProgramTree → Refusal → Type 0
IsPastLimit p (refusal.Limit which.Sites n) = (l : ℕ) × (most_sites < n) × HasLarge p n l
IsPastLimit p (refusal.Limit which.Positions n) = (s : ℕ) × (s ≤ most_sites) × HasLarge p s n
IsPastLimit p (refusal.Unfit e) = IsUnfit e × PassCauses e p
IsPastLimit p _ = ⊥

abbrev pub IsUnfronted : ProgramTree → Fault → Type 0
IsUnfronted p (fault.Refused r) = IsPastLimit p r
IsUnfronted p fault.OutOfMemory = Unit {0}
IsUnfronted p _ = ⊥

-- ---- with bounds

abbrev pub IsMisfit : ProgramTree → Refusal → Type 0
IsMisfit p (refusal.Unfit e) = (e ≢ check_fault.OutOfMemory) × PassCauses e p
IsMisfit p (refusal.Region i l k) = Causes (check_fault.Region i l k) p
IsMisfit p (refusal.Loan a b) = Causes (check_fault.Loan (loan_fault.Loan a b)) p
IsMisfit p _ = ⊥

abbrev pub IsUnchecked : ProgramTree → Fault → Type 0
IsUnchecked p (fault.Refused r) = IsMisfit p r
IsUnchecked p fault.OutOfMemory = Unit {0}
IsUnchecked p _ = ⊥

-- ---- the text, by which texts it may be

pub record IsPrinted (R : List ℕ → Type 0) (bs : List Bound) (a : Answer) : Type 0 where
  pub text : R a.text
  pub bounds : a.bounds ≡ bs
  pub short : length a.text ≤ most_bytes

abbrev pub IsLong : (List ℕ → Type 0) → ℕ → Type 0
IsLong R n = (text : List ℕ) × R text × (n ≡ length text) × (most_bytes < n)

abbrev pub IsUnwritten : (List ℕ → Type 0) → Fault → Type 0
IsUnwritten R (fault.Refused refusal.Unconfirmed) = (text : List ℕ) → R text → ⊥
IsUnwritten R fault.OutOfMemory = Unit {0}
IsUnwritten R _ = ⊥

-- there is none, or it is too long
abbrev pub IsUnprinted : (List ℕ → Type 0) → Fault → Type 0
IsUnprinted R (fault.Refused refusal.Unconfirmed) = (text : List ℕ) → R text → ⊥
IsUnprinted R (fault.Refused (refusal.Limit which.Bytes n)) = IsLong R n
IsUnprinted R fault.OutOfMemory = Unit {0}
IsUnprinted R _ = ⊥

pub record IsAnswered (R : List ℕ → Type 0) (p : ProgramTree) (bs : List Bound) (a : Answer) : Type 0 where
  pub accepted : Accepted p
  pub printed : IsPrinted R bs a

-- it is not accepted, or is accepted and has no text, or one that is too long
abbrev pub IsKept : (List ℕ → Type 0) → ProgramTree → Refusal → Type 0
IsKept R p refusal.Unconfirmed = Accepted p × ((text : List ℕ) → R text → ⊥)
IsKept R p (refusal.Limit which.Bytes n) = Accepted p × IsLong R n
IsKept R p r = IsMisfit p r

abbrev pub IsUnanswered : (List ℕ → Type 0) → ProgramTree → Fault → Type 0
IsUnanswered R p (fault.Refused r) = IsKept R p r
IsUnanswered R p fault.OutOfMemory = Unit {0}
IsUnanswered R p _ = ⊥

-- ---- the whole end: of the program with the call, the number of the new function's item, and which texts it may be with bounds

pub record IsEnded (R : Bounds → List ℕ → Type 0) (p : ProgramTree) (n : ℕ) (a : Answer) : Type 0 where
  pub types : Typed
  pub made : TypedFn
  pub bounds : List Bound
  pub fits : Fits p n types made bounds
  pub answered : IsAnswered (R (named_at p n bounds)) (repaired p n bounds) bounds a

pub record IsBounded (R : Bounds → List ℕ → Type 0) (p : ProgramTree) (n : ℕ) (r : Refusal) : Type 0 where
  pub types : Typed
  pub made : TypedFn
  pub bounds : List Bound
  pub fits : Fits p n types made bounds
  pub kept : IsKept (R (named_at p n bounds)) (repaired p n bounds) r

abbrev pub IsFinished : (Bounds → List ℕ → Type 0) → ProgramTree → ℕ → Result Answer Fault → Type 0
IsFinished R p n (Ok a) = IsEnded R p n a
IsFinished R p n (Err (fault.Refused r)) = IsPastLimit p r ⊎ IsBounded R p n r
IsFinished R p n (Err fault.OutOfMemory) = Unit {0}
IsFinished R p n (Err _) = ⊥
