-- What the parts of the confirmation of an answer say: of what is told, and of whether the answer is found to be the extraction.
use Rattle.std.specs.Prelude.{◌≡◌, ℕ, Bool, true, false, if◌then◌else◌, List, [], ◌∷◌, ◌++◌, map, Result, Ok, Err}
use Rattle.rx_tree.specs.Plain.{ProgramTree}
use Rattle.rx_typed.specs.PlainTypes.{declarations}
use Rattle.rx_typeck_typed.specs.declared.typed.Typed.{Typed}
use Rattle.rx_lower.specs.Functions.{function_at}
use Rattle.rx_parse.specs.declared.fault.SyntaxFault.{SyntaxFault}
use Rattle.rx_parse.specs.declared.fault.SyntaxFault.TheVariants as syntax_fault
use Rattle.rx_check.specs.declared.fault.CheckFault.{CheckFault}
use Rattle.rx_check.specs.declared.fault.CheckFault.TheVariants as check_fault
use Rattle.rx_check.specs.Passes.{IsAccepted}
use Rattle.rx_meaning.specs.Programs.{Program}
use Rattle.rx_exits_plan.specs.PlainPlan.{plain-Run}
use Rattle.rx_exits_plan.specs.declared.plan.ExitOuts.{ExitOuts}
use Rattle.rx_exits_plan.specs.declared.plan.ExitPlan.{ExitPlan}
use Rattle.rx_modes_given.specs.GivenAway.{is_given_away}
use Rattle.rx_hoist_nodes.specs.TypedRun.{typed_run}
use Rattle.rx_hoist_naming.specs.Words.{OutsAgree}
use Rattle.rx_engine_extraction.specs.declared.given.Decision.{Decision}
use Rattle.rx_engine_extraction.specs.declared.refusal.Answer.{Answer}
use Rattle.rx_engine_extraction.specs.declared.refusal.Fault.{Fault}
use Rattle.rx_engine_extraction.specs.declared.refusal.Fault.TheVariants as fault
use Rattle.rx_engine_extraction.specs.declared.refusal.Refusal.TheVariants as refusal
use Rattle.rx_engine_extraction.specs.Source.{Text}
use Rattle.rx_engine_extraction.specs.Case.{Case, asked}
use Rattle.rx_engine_extraction.specs.Confirmed.{is_of_unit, is_extracted, is_found, IsConfirmed}
use Rattle.rx_engine_extraction.specs.Deciding.{place_in}

-- ---- the variables that may be elsewhere, by lists

-- params that are given away
abbrev pub given_among : List ℕ → List Bool → List ℕ
given_among (x ∷ xs) (b ∷ bs) = if b then x ∷ given_among xs bs else given_among xs bs
given_among _ _ = []

abbrev pub handed_among : List ExitOuts → List ℕ
handed_among [] = []
handed_among (e ∷ es) = e.outs ++ handed_among es

abbrev pub elsewhere_by : ExitPlan → List Bool → List ℕ
elsewhere_by k given = given_among k.params given ++ (k.locals ++ (handed_among k.exits ++ k.redeclared))

-- ---- what is decided

-- the run, whose exits hand out the same where they are listed again, and which params are given away
pub record IsTold (T : Text) (x : Decision) : Type 0 where
  pub run : plain-Run x.seat.run ≡ typed_run T.program x.run
  pub agree : OutsAgree x.plans.plan.exits
  pub given_away : x.plans.passed.given_away ≡ map (is_given_away (asked T (place_in x)) x.function.now.mutable) x.plans.plan.params

-- ---- what is found

-- by the answer's functions and what it declares
abbrev pub found_in : Text → Case → ℕ → ℕ → Program → Typed → Bool
found_in T d n made Q u = is_extracted T d n made (is_of_unit (declarations u.decls.items) n) Q (function_at u.functions n)

-- the program is accepted, and found to be the extraction
abbrev pub IsFoundIn : Text → Case → ℕ → ℕ → ProgramTree → Type 0
IsFoundIn T d n made q = (u : Typed) × IsAccepted q u × (is_found T d n made q u ≡ true)

-- a fault of what an answer is read as, of which want of memory alone is one of the extraction
abbrev pub unless_memory : Bool → Result Bool Fault
unless_memory true = Err fault.OutOfMemory
unless_memory false = Ok false

abbrev pub lacks_memory_read : SyntaxFault → Bool
lacks_memory_read syntax_fault.OutOfMemory = true
lacks_memory_read _ = false

abbrev pub lacks_memory : CheckFault → Bool
lacks_memory check_fault.OutOfMemory = true
lacks_memory _ = false

abbrev pub IsJudged : Text → Case → ℕ → ℕ → Answer → Result Answer Fault → Type 0
IsJudged T d n made a (Ok b) = (b ≡ a) × IsConfirmed T d n made a.text
IsJudged T d n made a (Err (fault.Refused refusal.Unconfirmed)) = IsConfirmed T d n made a.text → ⊥
IsJudged T d n made a (Err fault.OutOfMemory) = Unit {0}
IsJudged T d n made a (Err _) = ⊥
