-- What is answered of a run with its plan by names: the program with the call, or the limit that is passed.
use Rattle.std.specs.Prelude.{◌≡◌, ◌≤◌, ◌<◌, ◌^◌, ℕ, [], length, Some, None}
use Rattle.rx_core.specs.declared.types.Which.{Which}
use Rattle.rx_core.specs.declared.types.Which.TheVariants as which
use Rattle.rx_tree.specs.Lists.{nth}
use Rattle.rx_tree.specs.Plain.{ProgramTree}
use Rattle.rx_tree.specs.Size.{IsNumbered}
use Rattle.rx_typed_runs.specs.declared.runs.RunPos.{RunPos}
use Rattle.rx_hoist_extraction.specs.Plan.{Plan}
use Rattle.rx_hoist_extraction.specs.Extraction.{extraction, new_number}
use Rattle.rx_hoist_extraction.specs.Limits.{first_past, count_parameters, count_lifetimes, made_parts}
use Rattle.rx_hoist_made.specs.Counts.{capped}
use Rattle.rx_hoist.specs.declared.hoisting.HoistFault.{HoistFault}
use Rattle.rx_hoist.specs.declared.hoisting.HoistFault.TheVariants as hoist_fault
use Rattle.rx_print_spelling.specs.Formed.{FormedProgram}
use Rattle.rx_print_spelling.specs.Items.{print_program}
use Rattle.rx_engine_extraction.specs.declared.refusal.Fault.{Fault}
use Rattle.rx_engine_extraction.specs.declared.refusal.Fault.TheVariants as fault
use Rattle.rx_engine_extraction.specs.declared.refusal.Refusal.{Refusal}
use Rattle.rx_engine_extraction.specs.declared.refusal.Refusal.TheVariants as refusal
use Rattle.rx_engine_extraction.specs.Source.{Text}
use Rattle.rx_engine_extraction.specs.Made.{run_of}
use Rattle.rx_engine_extraction.specs.Meeting.{most_parameters, most_lifetimes, most_parts, parts_in}
use Rattle.rx_engine_extraction.specs.Levels.{HasFewLevels, HasManyLevels}
use Rattle.rx_engine_extraction.specs.Hoisting.{IsBare}

-- the program with the call, and the number of the new function's item
abbrev pub called : Text → RunPos → Plan → ProgramTree
called T r pl = extraction T.program (run_of r) pl []

abbrev pub lifetimes_in : Text → RunPos → Plan → ℕ
lifetimes_in T r pl = count_lifetimes T.program pl (parts_in T.program pl (run_of r) (nth T.program r.function))

pub record HasFewLifetimes (T : Text) (r : RunPos) (pl : Plan) : Type 0 where
  pub parameters : count_parameters pl ≤ most_parameters
  pub lifetimes : lifetimes_in T r pl ≤ most_lifetimes

pub record HasFewParts (T : Text) (r : RunPos) (pl : Plan) : Type 0 where
  pub few : HasFewLifetimes T r pl
  pub levels : HasFewLevels T.bytes T.tokens T.program (run_of r) pl
  pub parts : first_past most_parts (made_parts T.sizes pl) ≡ None

pub record IsMoved (T : Text) (r : RunPos) (pl : Plan) (q : ProgramTree) (n : ℕ) : Type 0 where
  pub few : HasFewParts T r pl
  pub short : length (print_program (called T r pl)) < 2 ^ 32
  pub program : q ≡ called T r pl
  pub item : n ≡ new_number (run_of r) pl
  pub bare : IsBare q n
  pub formed : FormedProgram q
  pub numbered : IsNumbered q

-- the first limit that is passed
abbrev pub IsPast : Text → RunPos → Plan → Refusal → Type 0
IsPast T r pl (refusal.Limit which.Parameters n) = (n ≡ capped (count_parameters pl)) × (most_parameters < count_parameters pl)
IsPast T r pl (refusal.Limit which.Lifetimes n) = (n ≡ capped (lifetimes_in T r pl)) × (most_lifetimes < lifetimes_in T r pl) × (count_parameters pl ≤ most_parameters)
IsPast T r pl (refusal.Limit which.Levels n) = (m : ℕ) × (n ≡ capped m) × HasManyLevels T.bytes T.tokens T.program (run_of r) pl m × HasFewLifetimes T r pl
IsPast T r pl (refusal.Limit which.Parts n) = (m : ℕ) × (n ≡ capped m) × (first_past most_parts (made_parts T.sizes pl) ≡ Some m)
    × HasFewLevels T.bytes T.tokens T.program (run_of r) pl × HasFewLifetimes T r pl
IsPast T r pl (refusal.Limit which.Bytes n) = (n ≡ length (print_program (called T r pl))) × (2 ^ 32 ≤ length (print_program (called T r pl))) × HasFewParts T r pl
IsPast T r pl _ = ⊥

abbrev pub IsUnmoved : Text → RunPos → Plan → Fault → Type 0
IsUnmoved T r pl (fault.Refused x) = IsPast T r pl x
IsUnmoved T r pl fault.OutOfMemory = Unit {0}
IsUnmoved T r pl _ = ⊥

-- ---- what private functions do

abbrev pub limit_told : Which → ℕ → Fault
limit_told w n = fault.Refused (refusal.Limit w n)

abbrev pub of_hoist : HoistFault → Fault
of_hoist (hoist_fault.Limit w n) = limit_told w n
of_hoist hoist_fault.OutOfMemory = fault.OutOfMemory

pub record IsWithin (T : Text) (r : RunPos) (pl : Plan) (q : ProgramTree) : Type 0 where
  pub levels : HasFewLevels T.bytes T.tokens T.program (run_of r) pl
  pub parts : first_past most_parts (made_parts T.sizes pl) ≡ None
  pub short : length (print_program q) < 2 ^ 32

abbrev pub IsOver : Text → RunPos → Plan → ProgramTree → Refusal → Type 0
IsOver T r pl q (refusal.Limit which.Levels n) = (m : ℕ) × (n ≡ capped m) × HasManyLevels T.bytes T.tokens T.program (run_of r) pl m
IsOver T r pl q (refusal.Limit which.Parts n) = (m : ℕ) × (n ≡ capped m) × (first_past most_parts (made_parts T.sizes pl) ≡ Some m)
    × HasFewLevels T.bytes T.tokens T.program (run_of r) pl
IsOver T r pl q (refusal.Limit which.Bytes n) = (n ≡ length (print_program q)) × (2 ^ 32 ≤ length (print_program q))
    × HasFewLevels T.bytes T.tokens T.program (run_of r) pl × (first_past most_parts (made_parts T.sizes pl) ≡ None)
IsOver T r pl q _ = ⊥

abbrev pub IsNotWithin : Text → RunPos → Plan → ProgramTree → Fault → Type 0
IsNotWithin T r pl q (fault.Refused x) = IsOver T r pl q x
IsNotWithin T r pl q fault.OutOfMemory = Unit {0}
IsNotWithin T r pl q _ = ⊥
