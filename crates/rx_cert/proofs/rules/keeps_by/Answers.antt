use Rattle.std.proofs.Common.{sym, subst, ◌≤◌, length}
use Rattle.rx_cert_tables.specs.declared.shape.Shape.{Shape}
use Rattle.rx_cert_tables.specs.Fitting.{count}
use Rattle.rx_cert.specs.Shapes.{shape_of}
use Rattle.rx_cert.proofs.Places.{fit_within}
use Rattle.rx_cert.proofs.rules.keeps_by.Goals as goal

pub count-requires-clause-within : goal.count-requires-clause-within
count-requires-clause-within c = subst (λ (s : Shape). count s ≤ length c.args.lines.now) (sym c.requires.shape)
    (fit_within (shape_of c.args.decls.now.items c.args.function.now) c.args.lines.now c.requires.fit)
