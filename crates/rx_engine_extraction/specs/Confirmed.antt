-- That an answer is found to be the extraction (translation validation: what a transformation gave is tested, once and for each answer): the
-- program that its text is read as is accepted, and by its types it is the text's program with the call of the new function in place of the
-- run (REM, "Extract function").
use Rattle.std.specs.Prelude.{◌≡◌, ℕ, nat_le, Bool, true, false, ◌&&◌, if◌then◌else◌, List, [], ◌∷◌, length, Option, Some, None, slice_get}
use Rattle.rx_tree.specs.Plain.{ProgramTree}
use Rattle.rx_parse_grammar.specs.grammar.Items.{Parses}
use Rattle.rx_typed.specs.Types.{Typ, Declarations, result_declared}
use Rattle.rx_typed.specs.PlainTypes.{declarations}
use Rattle.rx_typeck_typed.specs.declared.typed.Typed.{Typed}
use Rattle.rx_typeck_typed.specs.declared.typed.TypedFn.{TypedFn}
use Rattle.rx_lower.specs.Functions.{function_at}
use Rattle.rx_facts.specs.Functions.{body}
use Rattle.rx_check.specs.Passes.{IsAccepted}
use Rattle.rx_meaning.specs.Values.{element}
use Rattle.rx_meaning.specs.Expressions.{Functions}
use Rattle.rx_meaning.specs.Programs.{Program, main_in}
use Rattle.rx_machine.specs.Functions.{program_of}
use Rattle.rx_exits_plan.specs.Plan.{Plan}
use Rattle.rx_hoist_nodes.specs.TypedRun.{typed_run}
use Rattle.rx_hoist_extraction.specs.Plan.{is_unit}
use Rattle.rx_hoist_extraction.specs.Extraction.{added}
use Rattle.rx_engine_related.specs.AboutRun.{special_of}
use Rattle.rx_engine_alike.specs.Items.{items_with}
use Rattle.rx_engine_alike.specs.Units.{function_returns_unit, all_are_unit}
use Rattle.rx_engine_extracted.specs.Told.{Told}
use Rattle.rx_engine_extracted.specs.Programs.{extracts}
use Rattle.rx_engine_extraction.specs.Source.{Text, Wish, declared_in}
use Rattle.rx_engine_extraction.specs.Case.{Case, asked}
use Rattle.rx_engine_extraction.specs.Made.{named, new_item}

-- ---- what is told

-- functions that are declared to give the unit
abbrev pub is_unit_if : Option Typ → Bool
is_unit_if None = false
is_unit_if (Some t) = is_unit t

abbrev pub is_of_unit : Declarations → ℕ → Bool
is_of_unit D f = is_unit_if (result_declared (slice_get D f))

abbrev pub units_among : Declarations → List TypedFn → List ℕ
units_among D [] = []
units_among D (f ∷ fs) = if is_of_unit D f.item then f.item ∷ units_among D fs else units_among D fs

-- those that leave by returns of the unit by their form; none of them, unless each does where calls of these alone are known to give it
abbrev pub leaving : Functions → List ℕ → List ℕ → List ℕ
leaving P us [] = []
leaving P us (f ∷ fs) = if function_returns_unit us (element P f) then f ∷ leaving P us fs else leaving P us fs

abbrev pub unless_others : Functions → List ℕ → List ℕ
unless_others P us = if all_are_unit P us us then us else []

abbrev pub units_if : Functions → List ℕ → List ℕ
units_if P us = unless_others P (leaving P us us)

abbrev pub whole_of : ProgramTree → Typed → Program
whole_of p t = program_of t (main_in p 0)

-- the plan without its value's type: the trees tell whether there is a value
abbrev pub without_value : Plan → Plan
without_value k = record k { value = None }

-- by the number of the new function's item, how many items are new, whether it is declared to give the unit, and the function as it is in the answer
abbrev pub told_by : Text → Case → ℕ → ℕ → Bool → TypedFn → Told
told_by T d n made unit g = record {
  run = typed_run T.program d.run;
  around = d.home.around.loops;
  plan = without_value d.plan;
  modes = d.modes;
  elsewhere = special_of (asked T d) d.function.mutable d.plan;
  muts = d.function.mutable;
  new = record { number = n; function = body g };
  beyond = length g.names;
  items = items_with d.run.function made;
  units = units_if (whole_of T.program T.types).functions (units_among (declared_in T) T.types.functions);
  gives_unit = unit;
}

-- ---- what is found

-- the variables of a function can be numbered in 32 bits
abbrev pub is_extracted : Text → Case → ℕ → ℕ → Bool → Program → Option TypedFn → Bool
is_extracted T d n made unit Q None = false
is_extracted T d n made unit Q (Some g) = nat_le (length g.names) 4294967295 && extracts (told_by T d n made unit g) d.run.function (whole_of T.program T.types) Q

abbrev pub is_found : Text → Case → ℕ → ℕ → ProgramTree → Typed → Bool
is_found T d n made q u = is_extracted T d n made (is_of_unit (declarations u.decls.items) n) (whole_of q u) (function_at u.functions n)

pub record IsConfirmed (T : Text) (d : Case) (n made : ℕ) (text : List ℕ) : Type 0 where
  pub program : ProgramTree
  pub parses : Parses text program
  pub types : Typed
  pub accepted : IsAccepted program types
  pub found : is_found T d n made program types ≡ true

-- of the text of the extraction
abbrev pub Confirmed : Text → Wish → Case → Type 0
Confirmed T w d = IsConfirmed T d (new_item T w d) (added (named T w d)) d.text
