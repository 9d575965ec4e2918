use Rattle.rx_cert_rules.proofs.Points.{keeps_known, known_ends}
use Rattle.rx_cert_rules.proofs.ending.known_by.Goals as goal

pub returns : goal.returns
returns c C knows own_are = (
  λ e. keeps_known C c.args.known.now c.args.rows.now c.args.table.now c.args.sites c.args.own knows own_are c.requires (c.all_ends_in.ensures.0 e),
  λ k. c.all_ends_in.ensures.1 (known_ends C c.args.known.now c.args.rows.now c.args.table.now c.args.sites c.args.own knows own_are c.requires k),
)
