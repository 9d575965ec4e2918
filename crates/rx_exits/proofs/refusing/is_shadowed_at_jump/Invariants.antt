-- At none so far its name means another.
use Rattle.std.proofs.Common.{take, map}
use Rattle.rx_exits_plan.specs.Exits.{Jump}
use Rattle.rx_exits_plan.specs.PlainSyntax.{plain-Jump}
use Rattle.rx_exits.specs.Telling.{NoneOf, ShadowedAt}
use Rattle.rx_exits.proofs.refusing.is_shadowed_at_jump.Given as goal

abbrev pub invariant-loop-jump : goal.invariant-loop-jump
invariant-loop-jump l = NoneOf (λ (j : Jump). ShadowedAt l.names l.exits j.exit j.scope l.variable) (map plain-Jump (take l.jump-index l.jumps))
