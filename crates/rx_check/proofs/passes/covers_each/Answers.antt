use Rattle.rx_check.proofs.passes.covers_each.Goals as goal

pub covers-requires-clause-numbered : goal.covers-requires-clause-numbered
covers-requires-clause-numbered c = record { each = c.typed_declarations_are_finite.ensures.few c.requires.typed.0 c.requires.typed.1 c.args.typed.now c.requires.typed.2 c.requires.typed.3 }
