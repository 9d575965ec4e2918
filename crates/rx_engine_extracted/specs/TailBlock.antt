-- Whether the block of a run that holds its tail is, in the answer, that block with the call in place of the run; also the body of a function (REM,
-- "Extract method").
use Rattle.std.specs.Prelude.{ℕ, Bool, true, false, not, ◌&&◌, ◌||◌, if◌then◌else◌, List, [], ◌∷◌, Option, Some, None}
use Rattle.rx_typed.specs.Tree.{Exp, Body}
use Rattle.rx_exits_plan.specs.Points.{next}
use Rattle.rx_exits_plan.specs.Blocks.{tail, written_tail}
use Rattle.rx_engine_simulation.specs.Sights.{Renaming}
use Rattle.rx_engine_simulation.specs.Jumps.{Jumping}
use Rattle.rx_engine_alike.specs.Likeness.{Hole, if_so, and_then}
use Rattle.rx_engine_extracted.specs.Told.{Told, specials_among, without}
use Rattle.rx_engine_extracted.specs.Entering.{entered}
use Rattle.rx_engine_extracted.specs.Stretches.{Passed, like_first}
use Rattle.rx_engine_extracted.specs.Handing.{Put, Stood, hands_back, redeclared, is_within}
use Rattle.rx_engine_extracted.specs.Arms.{is_put}
use Rattle.rx_engine_extracted.specs.Calls.{Called, is_only_next, called_with}
use Rattle.rx_engine_extracted.specs.Ending.{has_none}
use Rattle.rx_engine_extracted.specs.Block.{between_around, between_in, block_of, loops_in}
use Rattle.rx_engine_extracted.specs.Reading.{runs_first}
use Rattle.rx_engine_extracted.specs.TailEnding.{is_given, ran_to_tail}
use Rattle.rx_engine_extracted.specs.TailHanding.{gives_at, gives_unit_back, ends_in_unit_back, gives_value}

-- the new function does what the run does, and ends as its tail; its variables there
abbrev pub function_ends : Bool → Told → Called → Renaming → Body → Option Renaming
function_ends has T K R text = and_then (block_of T.new.function.body) (λ b. and_then (entered T R K.operands b)
    (λ B. ran_to_tail has (between_in T) K.jumping K.way (T.plan.outs next) T.run.count B.inside text (written_tail T.run.block (tail text)) B.rest))

-- the expression is the call, alone or matched
abbrev pub call_ends : Bool → Told → Jumping → Renaming → Body → Exp → Option Renaming
call_ends has T J R text e = and_then (called_with has T J R e) (λ K. function_ends has T K R text)

-- ---- without a value: the unit stands again behind what is handed out and what is declared again

abbrev pub unit_stands_for : Told → Jumping → Passed → Stood → Option Put
unit_stands_for T J p S = and_then (call_ends false T J p.inside p.text S.called)
    (λ Rb. and_then (redeclared Rb S.inside T.plan.redeclared S.rest) (λ D. if_so (is_within p.inside D.inside) (Some D)))

abbrev pub unit_stands : Told → Jumping → Bool → Passed → Bool
unit_stands T J own p = is_put (and_then (hands_back T p.inside (without (T.plan.outs next) p.inside) (T.plan.outs next) p.answer) (λ S. unit_stands_for T J p S))
    (λ D. ends_in_unit_back own D.rest)

-- ---- with a value

abbrev pub is_some_renaming : Option Renaming → Bool
is_some_renaming None = false
is_some_renaming (Some R) = true

abbrev pub value_stands : Told → Jumping → Bool → Passed → Bool
value_stands T J own p = is_given (gives_value T own p.inside (without (T.plan.outs next) p.inside) (T.plan.outs next) p.answer)
    (λ e. is_some_renaming (call_ends true T J p.inside p.text e))

-- ---- with a unit that the function is declared to give: what the call gives is dropped, and the unit stands again

-- the run's end is the only exit, and hands out nothing
abbrev pub may_drop : Told → Bool
may_drop T = T.gives_unit && (is_only_next T.plan.exits && has_none (T.plan.outs next))

abbrev pub in_front_of_unit : Bool → Exp × Body → Option Exp
in_front_of_unit own r = if_so (ends_in_unit_back own r.1) (Some r.0)

-- the expression that stands alone in front of it
abbrev pub dropped : Bool → Body → Option Exp
dropped own b = and_then (runs_first b) (λ r. in_front_of_unit own r)

abbrev pub call_is_dropped : Told → Jumping → Bool → Passed → Bool
call_is_dropped T J own p = is_given (dropped own p.answer) (λ e. is_some_renaming (call_ends true T J p.inside p.text e))

-- ---- the block

abbrev pub tail_is_unit : Told → Jumping → Bool → Passed → Bool
tail_is_unit T J own p = if may_drop T then call_is_dropped T J own p else unit_stands T J own p

-- the answer's block tells whether there is a value, by what it gives
abbrev pub tail_stands : Told → Jumping → Bool → Passed → Bool
tail_stands T J own p = if gives_unit_back own (tail p.answer) then tail_is_unit T J own p else value_stands T J own p

-- behind what a function's body gives nothing is needed
abbrev pub may_end : Told → Bool → Bool
may_end T own = not own || has_none (T.plan.outs next)

-- behind the statements in front of the run
abbrev pub tail_is_call : Told → Jumping → Option Passed → Bool
tail_is_call T J None = false
tail_is_call T J (Some p) = specials_among p.inside T.elsewhere && (may_end T (gives_at T.run.block (tail p.text)) && tail_stands T J (gives_at T.run.block (tail p.text)) p)

abbrev pub block_has_tail_call : Told → Hole → Bool
block_has_tail_call T h = tail_is_call T (loops_in h) (like_first (between_around T) (loops_in h) T.run.first h.inside h.text h.answer)
