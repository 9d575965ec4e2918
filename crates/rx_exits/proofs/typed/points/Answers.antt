use Rattle.std.proofs.Common.{◌∙◌, ap}
use Rattle.rx_typed.specs.PlainTypes.{declarations}
use Rattle.rx_typed_declarations.specs.Sizes.{told}
use Rattle.rx_lower.specs.Functions.{trimmed}
use Rattle.rx_exits.proofs.Asking.{asked}
use Rattle.rx_exits.proofs.typed.points.Goals as goal

pub returns-clause-points : goal.returns-clause-points
returns-clause-points c = asked (declarations c.args.decls.now.items) (told c.args.sizes.now) c.args.typed.now c.args.run c.args.loops.now c.trimmed.result.now c.points_in.result
    (c.trimmed.ensures ∙ ap trimmed c.as_slice.ensures) c.points_in.ensures.points
