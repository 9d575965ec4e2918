-- What a program does on an input, with a number of turns; when one outcome is up to another.
use Rattle.std.specs.Prelude.{◌≡◌, ℕ, suc, ℤ, Bool, false, List, [], ◌∷◌, ◌++◌, Option, Some, None, ◌⊎◌, if◌then◌else◌, codes}
use Rattle.rx_core.specs.Bytes.{same_bytes}
use Rattle.rx_tree.specs.Plain.{ItemTree, ProgramTree}
use Rattle.rx_tree.specs.Plain as plain
use Rattle.rx_resolve_names.specs.declared.resolved.NodeNames.{NodeNames}
use Rattle.rx_typed.specs.Naming.{function_named}
use Rattle.rx_typed.specs.Tree.{Function}
use Rattle.rx_typed.specs.Elaborated.{Assigned, elaborated}
use Rattle.rx_meaning.specs.declared.outcome.End.{End}
use Rattle.rx_meaning.specs.Endings.{Ending, finished, wrong, missing_value, end_of}
use Rattle.rx_meaning.specs.declared.outcome.Outcome.{Outcome}
use Rattle.rx_meaning.specs.Values.{Value, new_frame, State}
use Rattle.rx_meaning.specs.Results.{Result, on, jumps, stops}
use Rattle.rx_meaning.specs.Acting.{Acting, plainly}
use Rattle.rx_meaning.specs.Expressions.{Functions, called}

-- its functions, and the item of `main`
pub record Program : Type 0 where
  pub functions : Functions
  pub main : ℕ

-- how a run ended, with the cause where it is Wrong
abbrev pub ending_of : {E : Type 0} → Result E Value → Ending
ending_of (on w v s) = finished
ending_of (jumps w x v s) = wrong missing_value
ending_of (stops w e) = e

-- what it printed, and how it ended, without the cause
abbrev pub outcome_of : Result ℕ Value → Outcome
outcome_of (on w v s) = record { printed = w; end = end_of finished }
outcome_of (jumps w x v s) = record { printed = w; end = end_of (wrong missing_value) }
outcome_of (stops w e) = record { printed = w; end = end_of e }

abbrev pub begins : List ℤ → ℕ → State
begins input n = record { memory = []; frame = new_frame 0; input = input; turns = n }

-- the call of `main`, by a way to act
abbrev pub run_by : {E : Type 0} → Acting E → Program → List ℤ → ℕ → Result E Value
run_by A P input n = called A P.functions n P.main [] (begins input n)

abbrev pub run : Program → List ℤ → ℕ → Outcome
run P input n = outcome_of (run_by plainly P input n)

abbrev pub ending : Program → List ℤ → ℕ → Ending
ending P input n = ending_of (run_by plainly P input n)

abbrev pub IsFront : {A : Type 0} → List A → List A → Type 0
IsFront {A = A} a b = (c : List A) × (b ≡ a ++ c)

-- the one is the other, or was cut off on the way there
abbrev pub UpTo : Outcome → Outcome → Type 0
UpTo a b = (a ≡ b) ⊎ ((a.end ≡ End.Running) × IsFront a.printed b.printed)

-- ---- the program of a syntax tree, with the entries of names and the types of each item, by its number

abbrev pub function_in : ItemTree → ℕ → List NodeNames → Assigned → Option Function
function_in (plain.function_item s f) i ns T = Some (elaborated T (function_named i s f ns))
function_in _ i ns T = None

abbrev pub functions_in : ProgramTree → ℕ → (ℕ → List NodeNames) → (ℕ → Assigned) → Functions
functions_in [] i N T = []
functions_in (x ∷ xs) i N T = function_in x i (N i) (T i) ∷ functions_in xs (suc i) N T

abbrev pub is_main : ItemTree → Bool
is_main (plain.function_item s f) = same_bytes f.name.name (codes "main")
is_main _ = false

-- the number of the first such item
abbrev pub main_in : ProgramTree → ℕ → ℕ
main_in [] i = i
main_in (x ∷ xs) i = if is_main x then i else main_in xs (suc i)

abbrev pub typed_program : ProgramTree → (ℕ → List NodeNames) → (ℕ → Assigned) → Program
typed_program P N T = record { functions = functions_in P 0 N T; main = main_in P 0 }
