-- What a plan decides of the text of a run (Rust Reference, "Break expressions", "Return expressions", "Integer literal expressions",
-- "let statements"): what its jumps hand out, and what is pinned in it. The changes that it makes are those of the extraction.
use Rattle.std.specs.Prelude.{◌≤◌, List, [], Option, Some, None, option_map, ⊤}
use Rattle.rx_core.specs.declared.types.Span.{Span}
use Rattle.rx_core.specs.declared.types.Kind.{Kind}
use Rattle.rx_tree.specs.Lists.{Every}
use Rattle.rx_tree.specs.Plain.{TypeTree, PatternTree, OptionalExpression, Statements, ProgramTree}
use Rattle.rx_tree.specs.Spans.{pattern_span}
use Rattle.rx_resolve_names.specs.Meant.{Around}
use Rattle.rx_typed.specs.Types.{Typ, levels}
use Rattle.rx_hoist_extraction.specs.Names.{behind_all}
use Rattle.rx_hoist_extraction.specs.Plan as planned
use Rattle.rx_hoist_extraction.specs.Plan.{Pins, Plan}
use Rattle.rx_hoist_extraction.specs.Fresh.{fresh_variable}
use Rattle.rx_hoist_extraction.specs.WrittenTypes.{elided}
use Rattle.rx_hoist_extraction.specs.Changed.{Changes, kept, changed_statements, changed_optional}
use Rattle.rx_hoist_extraction.specs.Pinned.{at_place, suffix_of, pinning}
use Rattle.rx_hoist_extraction.specs.Moved.{referred, leaves, moving}
use Rattle.rx_splice_laws.specs.Moving.{Moving, Jump}

-- the variant of an exit, with its outs
abbrev pub jump_to : Plan → planned.Exit → Jump
jump_to pl x = record { variant = planned.exit_name x; outs = planned.names_of (planned.outs_of x pl.exits) }

abbrev pub kind_at : Option Pins → Span → Option Kind
kind_at None s = None
kind_at (Some pins) s = suffix_of (at_place pins.kinds s)

abbrev pub type_at : ProgramTree → Span → Option Pins → PatternTree → Option TypeTree
type_at P r None p = None
type_at P r (Some pins) p = option_map (elided P r) (at_place pins.types (pattern_span p))

-- r is the span of the run
abbrev pub moved_by : ProgramTree → Plan → Span → Moving
moved_by P pl r = record {
  span = r;
  stars = referred pl.params;
  enum = planned.enum_name pl;
  break_leaves = λ ls l. option_map (λ k. jump_to pl (planned.to_break k)) (leaves l ls);
  continue_leaves = λ ls l. option_map (λ k. jump_to pl (planned.to_continue k)) (leaves l ls);
  unit = planned.is_unit pl.result;
  out_0 = fresh_variable pl.identifiers 0;
  kind = kind_at pl.pins;
  typ = type_at P r pl.pins;
}

-- ---- what the extraction makes of the run: pinned, then moved

abbrev pub pins_of : ProgramTree → Span → Option Pins → Changes
pins_of P r None = kept
pins_of P r (Some pins) = pinning P r pins

-- `ls` is what stands round the run
abbrev pub moved_statements : ProgramTree → Plan → Span → List Around → Statements → Statements
moved_statements P pl r ls ss = changed_statements (moving pl r) [] ls (changed_statements (pins_of P r pl.pins) [] ls ss)

-- the tail behind these statements
abbrev pub moved_tail : ProgramTree → Plan → Span → List Around → Statements → OptionalExpression → OptionalExpression
moved_tail P pl r ls ss o =
    changed_optional (moving pl r) (behind_all [] ss) ls (changed_optional (pins_of P r pl.pins) (behind_all [] ss) ls o)

-- types that a text's variables have: at most 130 levels are written
abbrev pub PinsLow : Option Pins → Type 0
PinsLow None = ⊤
PinsLow (Some pins) = Every (λ (p : Span × Typ). levels p.1 ≤ 130) pins.types
