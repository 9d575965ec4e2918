use Rattle.std.proofs.Common.{get_or, refl, map}
use Rattle.rx_lower_walks.specs.PlainSite.{plain-Site}
use Rattle.rx_facts_tables.proofs.Each.{site_there}
use Rattle.rx_exits.proofs.Marking.{noting_more}
use Rattle.rx_exits.proofs.marks.marks_of.Goals as goal

pub loop-i-preserved : goal.loop-i-preserved
loop-i-preserved c = noting_more (map plain-Site c.args.sites.now) c.loop-i.marks c.note.new.marks c.loop-i.i (plain-Site (get_or c.args.sites.now c.loop-i.i c.index-sites-i.result))
    (site_there c.args.sites.now c.loop-i.i (get_or c.args.sites.now c.loop-i.i c.index-sites-i.result) c.index-sites-i.result c.loop-i-test.true refl)
    c.in_ok-note.ensures c.loop-i.invariant
