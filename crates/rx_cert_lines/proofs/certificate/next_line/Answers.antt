use Rattle.rx_cert_lines.proofs.Wholes.{no_feed_left, no_line_left}
use Rattle.rx_cert_lines.proofs.certificate.next_line.Goals as goal

pub returns-in-None : goal.returns-in-None
returns-in-None c = no_feed_left c.args.left.now c.in-None.ensures

pub returns-in-None-2 : goal.returns-in-None-2
returns-in-None-2 c =
    no_line_left c.args.left.now c.in-Some.front.now c.in-Some.rest.now c.in-Some.ensures (rw c.in-None-2.is at c.in_ok-read_line-in-Some.ensures)
