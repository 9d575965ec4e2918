use Rattle.rx_lower_walks.specs.PlainFlow.{plain-Act}
use Rattle.rx_facts_tables.proofs.Numbering.{on_both, used_numbered, numbered_then}
use Rattle.rx_facts_tables.proofs.index.Index.add_used.Goals as goal

pub returns-clause-kept : goal.returns-clause-kept
returns-clause-kept c = on_both c.add_all.result
    (λ keeps kept. used_numbered c.add_all.new.self.roots c.in_ok-roots.roots (plain-Act c.args.act.now) c.in_ok-roots.ensures
    (numbered_then c.add_some.new.self.roots c.add_all.new.self.roots _ _ c.in_ok-roots.roots c.parts-first.ensures keeps c.in_ok-add_some.ensures.kept kept))
    c.add_all.ensures.keeps c.add_all.ensures.kept
