-- Jumps, and what a walk is told of both programs, as those of the code stand for them.
use Rattle.std.specs.Prelude.{ℕ, Bool, List, [], map, Option, None}
use Rattle.rx_exits_plan.specs.PlainPlan.{plan_with}
use Rattle.rx_engine_simulation.specs.Jumps as jumps
use Rattle.rx_engine_related.specs.Leaving.{packed}
use Rattle.rx_engine_alike.specs.declared.jumping.LoopPair.{LoopPair}
use Rattle.rx_engine_alike.specs.declared.jumping.Pack.{Pack}
use Rattle.rx_engine_alike.specs.declared.jumping.Leaving.{Leaving}
use Rattle.rx_engine_alike.specs.declared.jumping.Returning.{Returning}
use Rattle.rx_engine_alike.specs.declared.jumping.Jumping.{Jumping}

abbrev pub plain-Loop : LoopPair → ℕ × ℕ
plain-Loop b = (b.text, b.answer)

-- the innermost first
abbrev pub plain-Loops : List LoopPair → List (ℕ × ℕ)
plain-Loops = map plain-Loop

abbrev pub plain-Pack : Pack → jumps.Pack
plain-Pack p = record { variant = p.variant; outs = p.outs.now }

-- by the plan: its exits alone matter, and what they hand out
abbrev pub plain-Leaving : Leaving → ℕ → Bool → Option jumps.Pack
plain-Leaving Leaving.Nowhere l again = None
plain-Leaving (Leaving.ByPlan k) l again = packed (plan_with None k.now) l again

abbrev pub plain-Returning : Returning → jumps.Returning
plain-Returning Returning.AsReturn = jumps.as_return
plain-Returning (Returning.WithValue v) = jumps.with_value v
plain-Returning (Returning.WithUnit v) = jumps.with_unit v
plain-Returning Returning.NoReturn = jumps.no_return

-- of a run those variables are dead behind its jumps that may be elsewhere
abbrev pub dead_by : Leaving → List ℕ → List ℕ
dead_by Leaving.Nowhere xs = []
dead_by (Leaving.ByPlan k) xs = xs

abbrev pub plain-Jumping : List ℕ → Jumping → jumps.Jumping
plain-Jumping elsewhere j = record {
  loops = plain-Loops j.loops;
  leaving = λ l again. plain-Leaving j.leaving l again;
  returning = plain-Returning j.returning;
  dead = dead_by j.leaving elsewhere;
}
