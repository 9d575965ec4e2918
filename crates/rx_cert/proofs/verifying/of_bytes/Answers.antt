use Rattle.std.proofs.Common.{List, ◌≤◌, length, sym, subst, arith}
use Rattle.rx_cert_lines.specs.declared.line.Line.{Line}
use Rattle.rx_cert.proofs.Accepting.{few_lines}
use Rattle.rx_cert.proofs.Answering.{Answers, of_certificate}
use Rattle.rx_cert.proofs.verifying.of_bytes.Goals as goal

pub of_certificate-requires-clause-few : goal.of_certificate-requires-clause-few
of_certificate-requires-clause-few c = subst (λ (l : List Line). length l ≤ 16777216) (sym c.as_slice.ensures)
    (let w = few_lines c.in-Ok.certificate.lines c.in-Ok.certificate.text.now c.args.bytes.now c.in-Ok.ensures in omega (arith, w, c.requires))

pub returns-in-Ok : goal.returns-in-Ok
returns-in-Ok c = of_certificate c.args.bytes.now c.in-Ok.certificate.text.now c.in-Ok.certificate.lines c.in-Ok.ensures c.of_certificate.result
    (subst (λ (l : List Line). Answers l c.in-Ok.certificate.text.now c.of_certificate.result) c.as_slice.ensures c.of_certificate.ensures)
