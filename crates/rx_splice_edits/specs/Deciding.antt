-- What the code keeps of a run, as what is decided of it before its text is made; and what stands round the operand of a
-- `return` (Rust Reference, "Return expressions").
use Rattle.std.specs.Prelude.{suc, ◌==◌, List, [], ◌∷◌, Option, Some, None}
use Rattle.rx_core.specs.declared.types.Span.{Span}
use Rattle.rx_tree.specs.PlainOf.{plain-Program}
use Rattle.rx_lex.specs.Tok.{Tok, toks}
use Rattle.rx_typed.specs.Types.{Typ}
use Rattle.rx_hoist_plan.specs.PlainPlan.{plain-Plan}
use Rattle.rx_hoist_extraction.specs.Plan.{Pins}
use Rattle.rx_hoist_extraction.specs.Pinned.{at_place}
use Rattle.rx_splice_laws.specs.Edits.{Edit, put}
use Rattle.rx_splice_laws.specs.EditsOf.{EditsAt}
use Rattle.rx_splice_laws.specs.Places.{next_start}
use Rattle.rx_splice_laws.specs.Moving.{Moving, spaced, opening, closing, pin_edits, run_edits}
use Rattle.rx_splice_laws.specs.MovedBy.{moved_by}
use Rattle.rx_splice_edits.specs.declared.decided.Decided.{Decided}

abbrev pub moving_of : Decided → Moving
moving_of d = moved_by (plain-Program d.program.now) (plain-Plan d.plan.now) d.run

abbrev pub tokens_of : Decided → List Tok
tokens_of d = toks d.tokens.now

-- the type that the pattern at a place gets
abbrev pub typ_at : Option Pins → Span → Option Typ
typ_at None s = None
typ_at (Some pins) s = at_place pins.types s

abbrev pub pins_at : Decided → EditsAt
pins_at d = pin_edits (moving_of d) (tokens_of d)

abbrev pub run_at : Decided → EditsAt
run_at d = run_edits (moving_of d) (tokens_of d)

-- in front of the operand of the `return` at a span, and behind it
abbrev pub opened_at : Moving → List Tok → Span → List Edit
opened_at M ts s =
    let at = next_start ts s.start in put at (spaced (at == suc (suc (suc (suc (suc (suc s.start)))))) (opening M)) ∷ []

abbrev pub closed_at : Moving → Span → List Edit
closed_at M s = put s.end (closing M) ∷ []
