use Rattle.std.proofs.Common.{true≢false, sym, subst}
use Rattle.rx_facts_tables.specs.LiveTables.{IsNumberOf}
use Rattle.rx_facts_tables.proofs.table.LiveTable.is_live_by.Goals as goal

pub returns-in-None : goal.returns-in-None
returns-in-None c g root number lives within =
    ((λ e. absurd (true≢false (sym e))), λ h. absurd (lives.unused c.args.site root (subst (IsNumberOf c.args.self.now.index.roots root) c.in-None.is number) h))
