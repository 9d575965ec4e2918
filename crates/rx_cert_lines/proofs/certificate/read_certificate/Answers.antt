-- One line more is read, or what is left is the text, or begins with no line.
use Rattle.std.proofs.Common.{List, ℕ, ◌+◌, sym, subst}
use Rattle.rx_cert_lines.specs.declared.line.Line.{Line}
use Rattle.rx_cert_lines.specs.Certificates.{Misread}
use Rattle.rx_cert_lines.proofs.Wholes.{LinesSoFar, misread_here, long_here, line_more}
use Rattle.rx_cert_lines.proofs.certificate.read_certificate.Goals as goal

pub returns-in-Broken : goal.returns-in-Broken
returns-in-Broken c =
    subst (λ (n : ℕ). Misread c.args.bytes.now (n + 1)) (sym c.len.ensures)
    (misread_here c.args.bytes.now c.loop-lines.left.now c.loop-lines.lines c.loop-lines.invariant (rw c.in-Broken.is at c.in_ok-next_line.ensures))

pub returns-then-text-gt1048576 : goal.returns-then-text-gt1048576
returns-then-text-gt1048576 c =
    subst (λ (n : ℕ). Misread c.args.bytes.now (n + 1)) (sym c.len.ensures)
    (long_here c.args.bytes.now c.loop-lines.left.now c.in-Last.text.now c.loop-lines.lines c.loop-lines.invariant (rw c.in-Last.is at c.in_ok-next_line.ensures)
    c.if-text-gt1048576.true)

pub loop-lines-preserved : goal.loop-lines-preserved
loop-lines-preserved c =
    subst (λ (ls : List Line). LinesSoFar c.args.bytes.now c.in-More.rest.now ls) (sym c.in_ok-push-in-More.ensures.ok)
    (line_more c.args.bytes.now c.loop-lines.left.now c.in-More.rest.now c.loop-lines.lines c.in-More.next c.loop-lines.invariant
    (rw c.in-More.is at c.in_ok-next_line.ensures))
