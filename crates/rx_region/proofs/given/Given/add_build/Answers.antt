use Rattle.std.proofs.Common.{◌≡◌, ◌++◌, map, OnOk, subst, ◌∙◌, ap}
use Rattle.rx_lower_walks.specs.PlainFlow.{plain-Made, plain-Temporary}
use Rattle.rx_region.specs.Constraints.{parts_flow, held}
use Rattle.rx_region.specs.PlainContext.{plain-Given}
use Rattle.rx_region.specs.Steps.{arguments_for, declared_parts}
use Rattle.rx_region.proofs.Finding.{made_from}
use Rattle.rx_region.proofs.given.Given.add_build.Goals as goal

pub returns : goal.returns
returns c =
    let C = plain-Given c.args.self.now in let w = plain-Made c.args.made in let t = held C (plain-Temporary c.args.into) in
    subst (λ us. OnOk c.add_parts.result (c.add_parts.new.pairs ≡ c.args.pairs.now ++ parts_flow C us c.args.numbers.now (map plain-Temporary c.args.operands.now)))
    (made_from c.args.self.now.decls.now.items w t c.in_ok-arguments.arguments c.parts_of-parts.result
    (c.in_ok-arguments.ensures ∙ ap (arguments_for w) c.held-ty.ensures) (c.parts_of-parts.ensures ∙ ap (declared_parts c.args.self.now.decls.now.items w) c.held-ty.ensures))
    c.add_parts.ensures
