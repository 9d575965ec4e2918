use Rattle.rx_graph.proofs.Working.{joined_there, joined_nowhere}
use Rattle.rx_graph.proofs.worklist.Task.join_at.Goals as goal

pub returns-then-site-rows : goal.returns-then-site-rows
returns-then-site-rows g c = joined_there (g.F.Facts.rules c.args.self.now.facts.now) c.args.rows.now c.args.site c.index-rows-site.result c.args.row.now c.join-grown.new.into
    c.args.pending.now c.note.new.pending c.join-grown.result c.if-site-rows.true c.join-grown.ensures.joined c.join-grown.ensures.fits
    c.join-grown.ensures.same c.join-grown.ensures.higher c.note.ensures.noted c.note.ensures.same

pub returns-else-site-rows : goal.returns-else-site-rows
returns-else-site-rows g c = joined_nowhere (g.F.Facts.rules c.args.self.now.facts.now) c.args.rows.now c.args.site c.args.row.now c.args.pending.now c.if-site-rows.false
