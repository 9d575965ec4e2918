-- What the parts that make the answer's text answer: of an extraction, by what the code goes by.
use Rattle.std.specs.Prelude.{◌≡◌, ℕ, ◌-◌, true, List, Option, Some, None, option_map, if◌then◌else◌, slice_get, MatchOption}
use Rattle.std.specs.Option.{option_copied}
use Rattle.std.specs.Str.{IsUtf8}
use Rattle.rx_tree.specs.Plain as plain
use Rattle.rx_tree.specs.Plain.{Enumeration, Function, ItemTree, ProgramTree}
use Rattle.rx_tree.specs.PlainOf.{plain-Enum, plain-Func, plain-Program}
use Rattle.rx_lex.specs.Tok.{toks}
use Rattle.rx_typed_runs.specs.declared.runs.RunPos.{RunPos}
use Rattle.rx_hoist.specs.Runs.{is_function}
use Rattle.rx_hoist_extraction.specs.Run.{loops_round, run_parts}
use Rattle.rx_hoist_extraction.specs.Plan.{Bounds, Plan, has_enum}
use Rattle.rx_hoist_extraction.specs.Pinned.{pinned_function}
use Rattle.rx_hoist_extraction.specs.NewEnum.{new_enum}
use Rattle.rx_hoist_extraction.specs.NewFunction.{new_function}
use Rattle.rx_hoist_extraction.specs.Extraction.{extraction, new_number}
use Rattle.rx_splice_edits.specs.declared.text.Made.{Made}
use Rattle.rx_splice_edits.specs.Placing.{some_if}
use Rattle.rx_engine_extraction.specs.declared.given.Given.{Given}
use Rattle.rx_engine_extraction.specs.Made.{run_of}
use Rattle.rx_engine_extraction.specs.Rendering.{Renders}

-- a text is one of characters, and the run's item is a function
pub record IsIn (g : Given) (r : RunPos) : Type 0 where
  pub text : IsUtf8 g.text.now
  pub function : is_function (slice_get (plain-Program g.program.now) r.function) ≡ true

-- a program is the extraction with these bounds, and this is the number of the new function's item
pub record IsMadeOf (g : Given) (r : RunPos) (pl : Plan) (p : ProgramTree) (n : ℕ) (bs : Bounds) : Type 0 where
  pub program : p ≡ extraction (plain-Program g.program.now) (run_of r) pl bs
  pub item : n ≡ new_number (run_of r) pl

-- ---- the new items

abbrev pub enum_in : Option ItemTree → Option Enumeration
enum_in (Some (plain.enum_item s x)) = Some x
enum_in _ = None

-- the enum of exits stands in front of the new function
abbrev pub exits_in : ProgramTree → Plan → ℕ → Option Enumeration
exits_in p pl n = if has_enum pl.exits then enum_in (slice_get p (n - 1)) else None

-- they are those of a run in this function
pub record AreNew (g : Given) (r : RunPos) (pl : Plan) (f : Function) (bs : Bounds) (m : Made) : Type 0 where
  pub exits : option_map plain-Enum (option_copied m.exits) ≡ some_if (has_enum pl.exits) (new_enum (plain-Program g.program.now) pl r.span)
  pub function : (let p = plain-Program g.program.now in let h = pinned_function p r.span pl.pins f in
      plain-Func m.function.now ≡ new_function p pl bs r.span (loops_round (run_of r) h) (run_parts (run_of r) h))

-- ---- the text

abbrev pub rendered_by : Given → RunPos → Plan → Bounds → List ℕ → Type 0
rendered_by g r pl bs text = Renders g.text.now (toks g.tokens.now.list) (plain-Program g.program.now) (run_of r) pl bs text

-- where there is one
abbrev pub IsRenderedIf : Given → RunPos → Plan → Bounds → Option (List ℕ) → Type 0
IsRenderedIf g r pl bs o = MatchOption o ((text : List ℕ) → rendered_by g r pl bs text → ⊥) (λ text. rendered_by g r pl bs text)
