-- What is answered of a run that is selected: its plan by names, or the condition that it fails.
use Rattle.std.specs.Prelude.{◌≡◌, ℕ, Bool, List, [], ◌∷◌, ◌++◌, get_or, map}
use Rattle.rx_core.specs.declared.types.Span.{Span}
use Rattle.rx_lex.specs.Tok.{toks}
use Rattle.rx_tree.specs.Plain.{ProgramTree}
use Rattle.rx_tree.specs.PlainOf.{plain-Program}
use Rattle.rx_tree.specs.Positions.{node_at}
use Rattle.rx_typed.specs.PlainTypes.{declarations}
use Rattle.rx_typed_declarations.specs.Sizes.{told}
use Rattle.rx_typed_runs.specs.declared.runs.RunPos.{RunPos}
use Rattle.rx_typeck_typed.specs.declared.typed.TypedFn.{TypedFn}
use Rattle.rx_exits_plan.specs.Runs.{Home}
use Rattle.rx_exits_plan.specs.Asked.{Asked}
use Rattle.rx_exits_plan.specs.Plan.{Plan}
use Rattle.rx_exits_plan.specs.PlainPlan.{plain-Run, plan_of, IsExitPlan}
use Rattle.rx_exits_plan.specs.declared.plan.ExitPlan.{ExitPlan}
use Rattle.rx_exits_plan.specs.Unreachable.{At}
use Rattle.rx_exits_plan.specs.Unreachable as unreachable
use Rattle.rx_exits.specs.AskedOf.{asked_of}
use Rattle.rx_exits_plan.specs.PlainSyntax.{plain-Home}
use Rattle.rx_exits.specs.Asking.{plain-At}
use Rattle.rx_exits.specs.declared.answering.ExitFault.{ExitFault}
use Rattle.rx_exits.specs.declared.reaching.ReachFault.{ReachFault}
use Rattle.rx_modes.specs.Answer as modes
use Rattle.rx_modes.specs.declared.plan.ModeFault.{ModeFault}
use Rattle.rx_modes.specs.declared.plan.ModePlan.{ModePlan}
use Rattle.rx_modes_policy.specs.declared.uses.Mode.{Mode}
use Rattle.rx_modes_policy.specs.declared.uses.Mode.TheVariants as mode
use Rattle.rx_modes_policy.specs.declared.uses.Uses.{Uses}
use Rattle.rx_modes_uses.specs.NotMut.{NotMut}
use Rattle.rx_modes_uses.specs.Aliased.{Aliased}
use Rattle.rx_hoist_nodes.specs.TypedRun.{typed_run}
use Rattle.rx_hoist_plan.specs.PlainPlan.{plain-Plan}
use Rattle.rx_hoist_naming.specs.Words.{OutsAgree}
use Rattle.rx_engine_extraction.specs.declared.given.Given.{Given}
use Rattle.rx_engine_extraction.specs.declared.given.Seat.{Seat}
use Rattle.rx_engine_extraction.specs.declared.given.Plans.{Plans}
use Rattle.rx_engine_extraction.specs.declared.given.Decision.{Decision}
use Rattle.rx_engine_extraction.specs.declared.refusal.Fault.{Fault}
use Rattle.rx_engine_extraction.specs.declared.refusal.Fault.TheVariants as fault
use Rattle.rx_engine_extraction.specs.declared.refusal.Refusal.{Refusal}
use Rattle.rx_engine_extraction.specs.declared.refusal.Refusal.TheVariants as refusal
use Rattle.rx_engine_extraction.specs.Source.{Text, Wish}
use Rattle.rx_engine_extraction.specs.Case.{Case, asked}
use Rattle.rx_engine_extraction.specs.Undecided.{undecided}
use Rattle.rx_engine_extraction.specs.Made.{named}
use Rattle.rx_engine_extraction.specs.Conditions as condition
use Rattle.rx_engine_extraction.specs.Failing.{span_if, Fails}
use Rattle.rx_engine_extraction.specs.Meeting.{Holds, Seated}
use Rattle.rx_modes_given.specs.GivenAway.{is_given_away}

abbrev pub text_of : Given → Text
text_of g = record {
  bytes = g.text.now;
  length = g.tokens.now.length;
  tokens = toks g.tokens.now.list;
  program = plain-Program g.program.now;
  types = g.front.now.typed;
  sizes = told g.front.now.facts.sizes;
}

-- a run in its function, and its block
abbrev pub case_at : RunPos → TypedFn → Home → Case
case_at r f h = record undecided { run = r; function = f; home = h }

abbrev pub asked_by : Given → TypedFn → Seat → Asked
asked_by g f s = asked_of (declarations g.front.now.typed.decls.items) (told g.front.now.facts.sizes) f s.run (plain-Home s.home)

-- ---- faults as those of the extraction

abbrev pub span_in : List Span → ℕ → Span
span_in ss n = get_or ss n (record { start = 0; end = 0 })

abbrev pub of_exits : TypedFn → ExitFault → Fault
of_exits f (ExitFault.MixedInit x) = fault.Refused (refusal.MixedInit (span_in f.names x))
of_exits f (ExitFault.PartlyMoved x) = fault.Refused (refusal.PartlyMoved (span_in f.names x))
of_exits f (ExitFault.Shadowed x) = fault.Refused (refusal.Shadowed (span_in f.names x))
of_exits f ExitFault.OutOfMemory = fault.OutOfMemory

abbrev pub of_modes : TypedFn → ModeFault → Fault
of_modes f (ModeFault.NotMut x) = fault.Refused (refusal.NotMut (span_in f.names x))
of_modes f (ModeFault.Aliased x) = fault.Refused (refusal.Aliased (span_in f.names x))
of_modes f ModeFault.OutOfMemory = fault.OutOfMemory

abbrev pub part_span : ProgramTree → RunPos → ℕ → Span
part_span p r k = span_if (node_at p r.block.item (r.block.path ++ k ∷ []))

abbrev pub place_by : ProgramTree → TypedFn → RunPos → At → Span
place_by p f r unreachable.first = part_span p r r.first
place_by p f r unreachable.last = part_span p r r.last
place_by p f r (unreachable.jump n) = span_in f.spans n

abbrev pub of_reach : ProgramTree → TypedFn → RunPos → ReachFault → Fault
of_reach p f r (ReachFault.Unreachable q) = fault.Refused (refusal.Unreachable (place_by p f r (plain-At q)))
of_reach p f r ReachFault.Endless = fault.Refused refusal.Endless
of_reach p f r ReachFault.OutOfMemory = fault.OutOfMemory

-- ---- the plan by numbers

-- that the run is reached and left, and its variables are settled, doesn't depend on what is asked for
abbrev pub nothing_asked : Wish
nothing_asked = record { start = 0; end = 0; name = []; choice = λ u. mode.Value }

pub record IsEntered (T : Text) (d : Case) : Type 0 where
  pub reached : Holds T nothing_asked d condition.reached
  pub left : Holds T nothing_asked d condition.left

pub record IsSettled (T : Text) (d : Case) : Type 0 where
  pub entered : IsEntered T d
  pub settled : Holds T nothing_asked d condition.settled

-- with this plan
abbrev pub with_plan : Case → Plan → Case
with_plan d k = record d { plan = k }

pub record IsWhole (T : Text) (d : Case) (k : Plan) : Type 0 where
  pub settled : IsSettled T d
  pub whole : Holds T nothing_asked (with_plan d k) condition.whole

pub record IsPlanned (T : Text) (d : Case) (k : ExitPlan) : Type 0 where
  pub listed : IsExitPlan (asked T d) k
  pub whole : IsWhole T d (plan_of (asked T d) k)
  pub visible : Holds T nothing_asked (with_plan d (plan_of (asked T d) k)) condition.visible
  pub agree : OutsAgree k.exits

-- why there is none
abbrev pub IsNotPlanned : Text → Case → Refusal → Type 0
IsNotPlanned T d (refusal.Unreachable s) = Fails T nothing_asked d condition.reached (refusal.Unreachable s)
IsNotPlanned T d refusal.Endless = Holds T nothing_asked d condition.reached × Fails T nothing_asked d condition.left refusal.Endless
IsNotPlanned T d (refusal.MixedInit s) = IsEntered T d × Fails T nothing_asked d condition.settled (refusal.MixedInit s)
IsNotPlanned T d (refusal.PartlyMoved s) = IsSettled T d × Fails T nothing_asked d condition.whole (refusal.PartlyMoved s)
IsNotPlanned T d (refusal.Shadowed s) = (k : Plan) × IsWhole T d k × Fails T nothing_asked (with_plan d k) condition.visible (refusal.Shadowed s)
IsNotPlanned T d _ = ⊥

abbrev pub IsUnplanned : Text → Case → Fault → Type 0
IsUnplanned T d (fault.Refused r) = IsNotPlanned T d r
IsUnplanned T d fault.OutOfMemory = Unit {0}
IsUnplanned T d _ = ⊥

-- ---- how its params are passed

abbrev pub HasModes : Asked → List Bool → ExitPlan → (Uses → Mode) → ModePlan → Type 0
HasModes A muts k choice m = modes.HasModes A muts (plan_of A k) choice m

abbrev pub IsNotPassed : Asked → TypedFn → Plan → Refusal → Type 0
IsNotPassed A f k (refusal.NotMut s) = (x : ℕ) × (s ≡ span_in f.names x) × NotMut A f.mutable k x
IsNotPassed A f k (refusal.Aliased s) = (x : ℕ) × (s ≡ span_in f.names x) × ((y : ℕ) → NotMut A f.mutable k y → ⊥) × Aliased A f.mutable k x
IsNotPassed A f k _ = ⊥

abbrev pub IsUnpassed : Asked → TypedFn → ExitPlan → Fault → Type 0
IsUnpassed A f k (fault.Refused r) = IsNotPassed A f (plan_of A k) r
IsUnpassed A f k fault.OutOfMemory = Unit {0}
IsUnpassed A f k _ = ⊥

-- ---- the plan by names

-- decided by these lists, modes and words on whether params are moved
abbrev pub with_modes : Text → Case → ExitPlan → List Mode → List Bool → Case
with_modes T d k ms vs = record d { plan = plan_of (asked T d) k; listed = k; modes = ms; moved = vs }

abbrev pub with_plans : Text → Case → Plans → Case
with_plans T d x = with_modes T d x.plan x.passed.modes x.passed.moved

abbrev pub wish_by : List ℕ → (Uses → Mode) → Wish
wish_by name choice = record { start = 0; end = 0; name = name; choice = choice }

pub record IsDecided (T : Text) (d : Case) (name : List ℕ) (choice : Uses → Mode) (x : Plans) : Type 0 where
  pub planned : IsPlanned T d x.plan
  pub passable : Holds T (wish_by name choice) (with_plans T d x) condition.passable
  pub unmoved : Holds T (wish_by name choice) (with_plans T d x) condition.unmoved
  pub named : plain-Plan x.named ≡ named T (wish_by name choice) (with_plans T d x)
  pub given_away : x.passed.given_away ≡ map (is_given_away (asked T d) d.function.mutable) x.plan.params

-- why there is none
abbrev pub IsNotDecided : Text → Case → Refusal → Type 0
IsNotDecided T d (refusal.NotMut s) = (k : ExitPlan) × IsPlanned T d k × Fails T nothing_asked (with_modes T d k [] []) condition.passable (refusal.NotMut s)
IsNotDecided T d (refusal.Aliased s) = (k : ExitPlan) × IsPlanned T d k × Holds T nothing_asked (with_modes T d k [] []) condition.passable
    × Fails T nothing_asked (with_modes T d k [] []) condition.unmoved (refusal.Aliased s)
IsNotDecided T d r = IsNotPlanned T d r

abbrev pub IsUndecided : Text → Case → Fault → Type 0
IsUndecided T d (fault.Refused r) = IsNotDecided T d r
IsUndecided T d fault.OutOfMemory = Unit {0}
IsUndecided T d _ = ⊥

-- ---- of a run alone

-- it is one of a function, and has its block there
abbrev pub HasSeat : Text → RunPos → Type 0
HasSeat T r = (f : TypedFn) × (h : Home) × Seated T r f h

-- its place in its function
abbrev pub place_in : Decision → Case
place_in x = case_at x.run x.function.now (plain-Home x.seat.home)

abbrev pub case_of : Text → Decision → Case
case_of T x = with_plans T (place_in x) x.plans

pub record IsDecision (T : Text) (name : List ℕ) (choice : Uses → Mode) (x : Decision) : Type 0 where
  pub run : plain-Run x.seat.run ≡ typed_run T.program x.run
  pub decided : IsDecided T (place_in x) name choice x.plans

abbrev pub IsUnnamed : Text → RunPos → Fault → Type 0
IsUnnamed T r f = (g : TypedFn) × (h : Home) × IsUndecided T (case_at r g h) f
