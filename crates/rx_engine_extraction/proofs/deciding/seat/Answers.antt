use Rattle.std.proofs.Common.{◌≡◌, Some, option_map, subst, sym}
use Rattle.std.specs.Prelude.{MatchOption, Option}
use Rattle.rx_typed.specs.PlainTree.{plain-TypedTree}
use Rattle.rx_exits_plan.specs.Runs as runs
use Rattle.rx_exits_plan.specs.Runs.{Sits}
use Rattle.rx_exits_jumps.specs.Seen.{first_home}
use Rattle.rx_exits_plan.specs.declared.parts.Home.{Home}
use Rattle.rx_exits_plan.specs.PlainSyntax.{plain-Home}
use Rattle.rx_exits_plan.specs.PlainPlan.{plain-Run}
use Rattle.rx_engine_extraction.proofs.deciding.seat.Goals as goal

pub returns-in-Ok-Some-clause-found : goal.returns-in-Ok-Some-clause-found
returns-in-Ok-Some-clause-found c =
    let t = plain-TypedTree c.args.function.now.tree in let q = plain-Run c.in-Ok.run' in let h = c.in-Ok-Some.home in
    let sits : Sits t q (plain-Home h) = subst (λ (o : Option Home). MatchOption o ((x : runs.Home) → Sits t q x → ⊥) (λ x. Sits t q (plain-Home x))) c.in-Ok-Some.field-0-is c.in-Ok-Some.ensures.sits in
    (c.in-Ok.ensures, subst (λ (r : runs.Run). Sits t r (plain-Home h)) c.in-Ok.ensures sits)

pub returns-in-Ok-Some-clause-first : goal.returns-in-Ok-Some-clause-first
returns-in-Ok-Some-clause-first c =
    let t = plain-TypedTree c.args.function.now.tree in let q = plain-Run c.in-Ok.run' in let h = plain-Home c.in-Ok-Some.home in
    let first : Some h ≡ first_home q t = subst (λ (o : Option Home). option_map plain-Home o ≡ first_home q t) c.in-Ok-Some.field-0-is c.in-Ok-Some.ensures.first in
    subst (λ (r : runs.Run). first_home r t ≡ Some h) c.in-Ok.ensures (sym first)

pub unreachable-requires : goal.unreachable-requires
unreachable-requires c =
    let t = plain-TypedTree c.args.function.now.tree in let q = plain-Run c.in-Ok.run' in
    let none : (x : runs.Home) → Sits t q x → ⊥ = subst (λ (o : Option Home). MatchOption o ((x : runs.Home) → Sits t q x → ⊥) (λ x. Sits t q (plain-Home x))) c.in-Ok-None.field-0-is c.in-Ok-None.ensures.sits in
    none c.requires.0 (subst (λ (r : runs.Run). Sits t r c.requires.0) (sym c.in-Ok.ensures) c.requires.1)
