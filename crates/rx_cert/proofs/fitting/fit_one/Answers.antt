use Rattle.std.proofs.Common.{drop, subst}
use Rattle.rx_cert_tables.specs.declared.shape.Shape.{Shape}
use Rattle.rx_cert.specs.Parts.{FitsBy}
use Rattle.rx_cert.proofs.fitting.fit_one.Goals as goal

pub returns-in-Ok : goal.returns-in-Ok
returns-in-Ok c D graph = subst (λ (s : Shape). FitsBy s (drop c.args.at c.args.lines.now) c.args.at c.fits_by.result) (c.in-Ok.ensures D graph) c.fits_by.ensures
