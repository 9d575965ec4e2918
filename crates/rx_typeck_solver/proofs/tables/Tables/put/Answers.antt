use Rattle.rx_typeck_solver.proofs.Tabling.{put_variables, put_variables_other, put_nodes, put_nodes_other, put_expected, put_expected_other}
use Rattle.std.proofs.lemmas.Result.{on_ok_weaker}
use Rattle.rx_typeck_solver.proofs.tables.Tables.put.Goals as goal

pub returns-in-Variable-clause-here : goal.returns-in-Variable-clause-here
returns-in-Variable-clause-here c = on_ok_weaker c.write.result (λ h. put_variables c.args.self.now c.write.new.table c.in-Variable.variable c.args.entry c.args.of c.in-Variable.is h) c.write.ensures.here

pub returns-in-Variable-clause-other : goal.returns-in-Variable-clause-other
returns-in-Variable-clause-other c = on_ok_weaker c.write.result (λ h. put_variables_other c.args.self.now c.write.new.table c.in-Variable.variable c.args.of c.in-Variable.is h) c.write.ensures.other

pub returns-in-Node-clause-here : goal.returns-in-Node-clause-here
returns-in-Node-clause-here c = on_ok_weaker c.write-in-Node.result (λ h. put_nodes c.args.self.now c.write-in-Node.new.table c.in-Node.node c.args.entry c.args.of c.in-Node.is h) c.write-in-Node.ensures.here

pub returns-in-Node-clause-other : goal.returns-in-Node-clause-other
returns-in-Node-clause-other c = on_ok_weaker c.write-in-Node.result (λ h. put_nodes_other c.args.self.now c.write-in-Node.new.table c.in-Node.node c.args.of c.in-Node.is h) c.write-in-Node.ensures.other

pub returns-in-Expected-clause-here : goal.returns-in-Expected-clause-here
returns-in-Expected-clause-here c = on_ok_weaker c.write-in-Expected.result (λ h. put_expected c.args.self.now c.write-in-Expected.new.table c.in-Expected.node c.args.entry c.args.of c.in-Expected.is h) c.write-in-Expected.ensures.here

pub returns-in-Expected-clause-other : goal.returns-in-Expected-clause-other
returns-in-Expected-clause-other c = on_ok_weaker c.write-in-Expected.result (λ h. put_expected_other c.args.self.now c.write-in-Expected.new.table c.in-Expected.node c.args.of c.in-Expected.is h) c.write-in-Expected.ensures.other

pub returns-in-Variable-clause-trimmed : goal.returns-in-Variable-clause-trimmed
returns-in-Variable-clause-trimmed c = on_ok_weaker c.write.result (λ h z. (h z.0, z.1, z.2)) c.write.ensures.trimmed

pub returns-in-Node-clause-trimmed : goal.returns-in-Node-clause-trimmed
returns-in-Node-clause-trimmed c = on_ok_weaker c.write-in-Node.result (λ h z. (z.0, h z.1, z.2)) c.write-in-Node.ensures.trimmed

pub returns-in-Expected-clause-trimmed : goal.returns-in-Expected-clause-trimmed
returns-in-Expected-clause-trimmed c = on_ok_weaker c.write-in-Expected.result (λ h z. (z.0, z.1, h z.2)) c.write-in-Expected.ensures.trimmed
