-- A function with the kinds of its literals and the types of its `let`s written out, where a variable is loose: what they were
-- inferred from may stand in another function afterwards (Rust Reference, "Integer literal expressions", "let statements").
use Rattle.std.specs.Prelude.{if◌then◌else◌, List, [], ◌∷◌, Option, Some, None, option_map}
use Rattle.rx_core.specs.declared.types.Span.{Span}
use Rattle.rx_core.specs.declared.types.Kind.{Kind}
use Rattle.rx_core.specs.declared.types.Kind.TheVariants.{I32}
use Rattle.rx_tree.specs.Plain.{TypeTree, PatternTree, Body, Function, ProgramTree}
use Rattle.rx_tree.specs.Spans.{pattern_span}
use Rattle.rx_hoist_extraction.specs.Run.{same_place}
use Rattle.rx_hoist_extraction.specs.Plan.{Pins}
use Rattle.rx_hoist_extraction.specs.WrittenTypes.{elided}
use Rattle.rx_hoist_extraction.specs.Changed.{Changes, kept, changed_body}

abbrev pub at_place : {A : Type 0} → List (Span × A) → Span → Option A
at_place [] s = None
at_place (p ∷ ps) s = if same_place p.0 s then Some p.1 else at_place ps s

-- `i32` is not written
abbrev pub suffix_of : Option Kind → Option Kind
suffix_of (Some I32) = None
suffix_of k = k

abbrev pub pinned_suffix : Pins → Span → Option Kind → Option Kind
pinned_suffix pins s (Some k) = Some k
pinned_suffix pins s None = suffix_of (at_place pins.kinds s)

-- P is the program and s the span of the run, for the types that are made
abbrev pub pinned_type : ProgramTree → Span → Pins → PatternTree → Option TypeTree → Option TypeTree
pinned_type P s pins p (Some t) = Some t
pinned_type P s pins p None = option_map (elided P s) (at_place pins.types (pattern_span p))

abbrev pub pinning : ProgramTree → Span → Pins → Changes
pinning P s pins = record kept { at_int = pinned_suffix pins; at_let = pinned_type P s pins }

abbrev pub pinned : ProgramTree → Span → Option Pins → Body → Body
pinned P s None b = b
pinned P s (Some pins) b = changed_body (pinning P s pins) [] [] b

abbrev pub pinned_function : ProgramTree → Span → Option Pins → Function → Function
pinned_function P s pins f = record f { body = pinned P s pins f.body }
