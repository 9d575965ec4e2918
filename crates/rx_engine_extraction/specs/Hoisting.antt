-- What is answered up to the program with the call: the program, or the first condition that is not met.
use Rattle.std.specs.Prelude.{◌≡◌, ℕ, [], Some, map}
use Rattle.rx_core.specs.declared.types.Span.{Span}
use Rattle.rx_tree.specs.declared.tree.BoundLifetime.{BoundLifetime}
use Rattle.rx_tree.specs.Lists.{nth, Every}
use Rattle.rx_tree.specs.Plain as plain
use Rattle.rx_tree.specs.Plain.{Function, ProgramTree}
use Rattle.rx_tree.specs.PlainOf.{plain-Program}
use Rattle.rx_tree.specs.Size.{IsNumbered}
use Rattle.rx_print_spelling.specs.Formed.{FormedProgram}
use Rattle.rx_exits_plan.specs.PlainPlan.{plain-Run}
use Rattle.rx_hoist_nodes.specs.TypedRun.{typed_run}
use Rattle.rx_hoist_plan.specs.PlainPlan.{plain-Plan}
use Rattle.rx_engine_extraction.specs.declared.given.Hoisting.{Hoisting}
use Rattle.rx_engine_extraction.specs.declared.refusal.Fault.{Fault}
use Rattle.rx_engine_extraction.specs.declared.refusal.Fault.TheVariants as fault
use Rattle.rx_engine_extraction.specs.Source.{Text, Wish}
use Rattle.rx_engine_extraction.specs.Case.{Case, asked}
use Rattle.rx_engine_extraction.specs.Made.{named, hoisted, new_item}
use Rattle.rx_engine_extraction.specs.Conditions.{fits}
use Rattle.rx_engine_extraction.specs.Promise.{Stands}
use Rattle.rx_engine_extraction.specs.Verdict.{RefusedBy}
use Rattle.rx_engine_extraction.specs.Deciding.{case_of, place_in}
use Rattle.rx_modes_given.specs.GivenAway.{is_given_away}

-- a condition that is not met, or want of memory
abbrev pub IsStopped : Text → Wish → Fault → Type 0
IsStopped T w (fault.Refused r) = RefusedBy T w r
IsStopped T w fault.OutOfMemory = Unit {0}
IsStopped T w _ = ⊥

-- the function of an item, whose lifetimes have no bounds
pub record IsBare (p : ProgramTree) (n : ℕ) : Type 0 where
  pub span : Span
  pub function : Function
  pub there : nth p n ≡ Some (plain.function_item span function)
  pub bare : Every (λ (l : BoundLifetime). l.bounds ≡ []) function.lifetimes

-- the program with the call, and the number of the new function
pub record IsHoisted (T : Text) (w : Wish) (d : Case) (p : ProgramTree) (n : ℕ) : Type 0 where
  pub stands : Stands T w d fits
  pub program : p ≡ hoisted T w d
  pub item : n ≡ new_item T w d
  pub bare : IsBare p n
  pub formed : FormedProgram p
  pub numbered : IsNumbered p

-- with what is decided
pub record IsHoisting (T : Text) (w : Wish) (x : Hoisting) : Type 0 where
  pub run : plain-Run x.decision.seat.run ≡ typed_run T.program x.decision.run
  pub plan : plain-Plan x.decision.plans.named ≡ named T w (case_of T x.decision)
  pub hoisted : IsHoisted T w (case_of T x.decision) (plain-Program x.made.program) x.made.new_fn
  pub given_away : x.decision.plans.passed.given_away ≡ map (is_given_away (asked T (place_in x.decision)) x.decision.function.now.mutable) x.decision.plans.plan.params
