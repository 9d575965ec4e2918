use Rattle.std.proofs.Common.{List, length, ap, arith, subst}
use Rattle.std.proofs.lemmas.List.{length-drop}
use Rattle.rx_cert_lines.specs.declared.line.Line.{Line}
use Rattle.rx_cert_tables.specs.Fitting.{AllFit, IsMisfit}
use Rattle.rx_cert.proofs.Places.{misfit_within, fit_within}
use Rattle.rx_cert.proofs.fitting.fits_by.Goals as goal

pub number_of-requires-clause-place : goal.number_of-requires-clause-place
number_of-requires-clause-place c =
    let w = misfit_within c.args.shape.now c.from.result.now c.in-Some.place c.in-Some.ensures in
    omega (arith, w, ap (λ (l : List Line). length l) c.from.ensures, length-drop c.args.at c.args.lines.now, c.requires.at)

pub count-requires-clause-within : goal.count-requires-clause-within
count-requires-clause-within c =
    let w = fit_within c.args.shape.now c.from.result.now c.in-None.ensures in
    omega (arith, w, ap (λ (l : List Line). length l) c.from.ensures, length-drop c.args.at c.args.lines.now, c.requires.at)

pub returns-in-Some : goal.returns-in-Some
returns-in-Some c = (c.in-Some.place, subst (λ (l : List Line). IsMisfit c.args.shape.now l c.in-Some.place) c.from.ensures c.in-Some.ensures, c.number_of.ensures)

pub returns-in-None : goal.returns-in-None
returns-in-None c = (c.count.ensures, subst (λ (l : List Line). AllFit c.args.shape.now l) c.from.ensures c.in-None.ensures)
