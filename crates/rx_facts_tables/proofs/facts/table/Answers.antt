use Rattle.std.proofs.Common.{map, refl}
use Rattle.rx_lower_walks.specs.PlainSite.{plain-Site}
use Rattle.rx_facts_tables.specs.Along.{edges_of}
use Rattle.rx_facts_tables.specs.Layouts.{plain-Frame}
use Rattle.rx_facts_tables.specs.Tables.{switches}
use Rattle.rx_facts_tables.proofs.Exact.{all_tell}
use Rattle.rx_facts_tables.proofs.facts.table.Goals as goal

pub returns : goal.returns
returns c = all_tell (edges_of (map plain-Site c.args.sites.now)) c.as_slice.result.now c.args.start c.args.bound (map plain-Site c.args.sites.now)
    (switches (plain-Frame c.args.setup.now.frame.now) c.args.setup.now.watched.now c.args.kind) c.along.result refl
    c.in_ok-effects.effects.items c.as_slice.ensures.value c.in_ok-effects.ensures c.along.ensures
