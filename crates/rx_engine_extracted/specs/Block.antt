-- Whether the block of the run is, in the answer, that block with the call in place of the run (REM, "Extract method").
use Rattle.std.specs.Prelude.{ℕ, Bool, true, false, ◌&&◌, List, [], ◌∷◌, Option, Some, None}
use Rattle.rx_typed.specs.Tree as tree
use Rattle.rx_typed.specs.Tree.{Exp, Body}
use Rattle.rx_exits_plan.specs.Points.{next}
use Rattle.rx_engine_simulation.specs.Sights.{Renaming}
use Rattle.rx_engine_simulation.specs.Jumps.{Jumping}
use Rattle.rx_engine_simulation.specs.Programs.{whole_jumps}
use Rattle.rx_engine_alike.specs.Likeness.{Hole, if_so, and_then, is_none, is_alike}
use Rattle.rx_engine_alike.specs.Forms.{Between, like_body}
use Rattle.rx_engine_extracted.specs.Told.{Told, ways_in, specials_among, without}
use Rattle.rx_engine_extracted.specs.Entering.{entered}
use Rattle.rx_engine_extracted.specs.Stretches.{Passed, like_first, behind_first}
use Rattle.rx_engine_extracted.specs.Handing.{Put, Stood, hands_back, redeclared, is_within}
use Rattle.rx_engine_extracted.specs.Calls.{Called, called_by}
use Rattle.rx_engine_extracted.specs.Ending.{ran}

-- what the walk is told around the run, and in it
abbrev pub between_around : Told → Between
between_around T = record { items = T.items; ways = ways_in T; units = T.units; outside = []; left_open = None }

abbrev pub between_in : Told → Between
between_in T = record { items = T.items; ways = ways_in T; units = T.units; outside = T.around; left_open = None }

abbrev pub block_of : Exp → Option Body
block_of (tree.block m b) = Some b
block_of _ = None

-- the new function does what the run does; its variables where the run ends
abbrev pub function_runs : Told → Called → Renaming → Body → Option Renaming
function_runs T K R text = and_then (block_of T.new.function.body) (λ b. and_then (entered T R K.operands b)
    (λ B. ran (between_in T) K.jumping K.way (T.plan.outs next) T.run.count B.inside text B.rest))

-- what stands for the run is the call, with its variables behind it, in front of the rest
abbrev pub stands_for : Told → Jumping → Passed → Stood → Option Put
stands_for T J p S = and_then (called_by T J p.inside S.called) (λ K. and_then (function_runs T K p.inside p.text)
    (λ Rb. and_then (redeclared Rb S.inside T.plan.redeclared S.rest) (λ D. if_so (is_within p.inside D.inside) (Some D))))

abbrev pub rest_is_alike : Told → Jumping → Option Body → Put → Bool
rest_is_alike T J None D = false
rest_is_alike T J (Some b) D = is_alike (like_body (between_around T) J D.inside b D.rest)

abbrev pub is_put_so : Option Put → (Put → Bool) → Bool
is_put_so None f = false
is_put_so (Some p) f = f p

-- behind the statements in front of the run
abbrev pub run_is_call : Told → Jumping → Option Passed → Bool
run_is_call T J None = false
run_is_call T J (Some p) = specials_among p.inside T.elsewhere && is_put_so (and_then (hands_back T p.inside (without (T.plan.outs next) p.inside) (T.plan.outs next) p.answer) (λ S. stands_for T J p S))
    (λ D. rest_is_alike T J (behind_first T.run.count p.text) D)

abbrev pub loops_in : Hole → Jumping
loops_in h = record whole_jumps { loops = h.loops }

abbrev pub block_has_call : Told → Hole → Bool
block_has_call T h = run_is_call T (loops_in h) (like_first (between_around T) (loops_in h) T.run.first h.inside h.text h.answer)
