use Rattle.std.proofs.Common.{◌≡◌, ◌+◌, suc, true, subst, arith, IfOk}
use Rattle.rx_typed.specs.Elaborated.{with_sign}
use Rattle.rx_cover.specs.Values as plain
use Rattle.rx_cover.specs.PlainValue.{plain-Value}
use Rattle.rx_cover.proofs.missing.below_zero.Goals as goal

pub returns : goal.returns
returns c =
    let f : c.args.distance + 1 ≡ suc c.args.distance = omega arith in
    subst (λ m. IfOk c.integer.result (λ v. plain-Value v ≡ plain.number (with_sign true m))) f c.integer.ensures
