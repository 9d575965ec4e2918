use Rattle.std.proofs.Common.{sym, ◌∙◌, true≢false}
use Rattle.rx_facts_tables.specs.Layouts.{plain-Frame}
use Rattle.rx_facts_tables.proofs.Exact.{temporary_none}
use Rattle.rx_facts_tables.proofs.judging.look.Goals as goal

pub returns-in-Temporary-clause-well : goal.returns-in-Temporary-clause-well
returns-in-Temporary-clause-well c p e n h =
    absurd (true≢false (sym h ∙ temporary_none (plain-Frame c.args.setup.now.frame.now) p c.in-Some.place.now c.in-Temporary.field-0 c.in-Temporary.is (c.in-Some.ensures ∙ e) n))
