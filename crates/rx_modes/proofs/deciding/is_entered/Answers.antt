use Rattle.std.proofs.Common.{sym}
use Rattle.rx_typed.specs.PlainTypes.{declarations}
use Rattle.rx_typed_declarations.specs.Sizes.{told}
use Rattle.rx_exits.specs.AskedOf.{asked_of}
use Rattle.rx_exits_plan.specs.PlainSyntax.{plain-Home}
use Rattle.rx_modes.proofs.deciding.is_entered.Goals as goal

pub returns-in-Ok : goal.returns-in-Ok
returns-in-Ok c =
    let comes = c.comes.ensures (asked_of (declarations c.args.decls.now.items) (told c.args.sizes.now) c.args.typed.now c.args.run (plain-Home c.args.home.now))
    (c.in-Ok.ensures.points (plain-Home c.args.home.now) (sym c.as_slice.ensures)) in
    (comes.0, comes.1)
