use Rattle.rx_graph.proofs.Working.{all_noted}
use Rattle.rx_graph.proofs.worklist.Task.fill.Goals as goal

pub close-requires-clause-stands : goal.close-requires-clause-stands
close-requires-clause-stands g c = all_noted (g.F.Facts.rules c.args.self.now.facts.now) (g.met.F.Facts.lawful c.args.self.now.facts.now) (g.G.Leads.edges c.args.self.now.graph.now) c.args.rows.now
    c.args.pending.now c.note_all.new.pending c.requires.begun c.requires.width c.note_all.ensures.width c.note_all.ensures.noted
