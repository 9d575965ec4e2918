use Rattle.rx_engine_alike.specs.PlainSights.{plain-Renaming}
use Rattle.rx_engine_alike.specs.PlainJumping.{plain-Jumping}
use Rattle.rx_engine_alike.specs.PlainLikeness.{plain-Between}
use Rattle.rx_engine_extracted.proofs.StretchLemmas.{lets_so}
use Rattle.rx_engine_extracted.proofs.stretches.stmts_alike.Goals as goal

pub returns-in-Lets-other : goal.returns-in-Lets-other
returns-in-Lets-other c =
    lets_so (plain-Between c.args.between.now) (plain-Jumping c.args.between.now.ways.elsewhere c.args.jumping.now) (plain-Renaming c.args.renaming.now.items)
    (plain-Renaming c.lets_are_alike.new.renaming.items) c.args.stmt.now c.args.other.now c.in-Lets.field-0 c.in-Lets-other.field-0 c.in-Lets.pattern c.in-Lets-other.second c.in-Lets.matched
    c.in-Lets-other.subject c.lets_are_alike.result c.in-Lets.is c.in-Lets-other.is c.lets_are_alike.ensures
