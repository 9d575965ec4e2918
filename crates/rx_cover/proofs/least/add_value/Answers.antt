use Rattle.std.proofs.Common.{subst, [], option_map}
use Rattle.rx_typed.specs.PlainTypes.{plain-Ty, declarations}
use Rattle.rx_cover.specs.PlainValue.{plain-Value}
use Rattle.rx_cover.specs.Finding.{Apart}
use Rattle.rx_cover.proofs.LeastLemmas.{adds_one, adds_not}
use Rattle.rx_cover.proofs.least.add_value.Goals as goal

pub returns-in_ok-push-in-Some : goal.returns-in_ok-push-in-Some
returns-in_ok-push-in-Some c =
    let D = declarations c.args.decls.now.items in
    let t = plain-Ty c.args.ty.now in
    adds_one D t c.args.values.now c.push.new.self c.in-Some.value (subst (λ o. Apart D t [] (option_map plain-Value o)) c.in-Some.is c.in_ok-value.ensures) c.in_ok-push-in-Some.ensures.ok

pub returns-in-None : goal.returns-in-None
returns-in-None c =
    let D = declarations c.args.decls.now.items in
    let t = plain-Ty c.args.ty.now in
    adds_not D t c.args.values.now c.args.values.now (subst (λ o. Apart D t [] (option_map plain-Value o)) c.in-None.is c.in_ok-value.ensures)
