use Rattle.rx_facts_tables.proofs.Numbering.{given_more, all_given}
use Rattle.rx_facts_tables.proofs.index.Index.add_all.Goals as goal

pub loop-root-preserved : goal.loop-root-preserved
loop-root-preserved c = record {
  index = c.in_ok-add.ensures.index;
  keeps = λ r h. c.in_ok-add.ensures.keeps r (c.loop-root.invariant.keeps r h);
  given = given_more c.loop-root.self.roots c.add.new.self.roots c.args.roots.now c.loop-root.root-index _ c.loop-root-test.true c.in_ok-add.ensures.keeps c.in_ok-add.ensures.kept c.loop-root.invariant.given;
}

pub returns-clause-kept : goal.returns-clause-kept
returns-clause-kept c = all_given c.loop-root.self.roots c.args.roots.now c.loop-root.root-index c.loop-root-test.false c.loop-root.invariant.given
