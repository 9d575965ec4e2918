use Rattle.rx_cover.proofs.MissingLemmas as lemma
use Rattle.rx_cover.proofs.missing.at_end.Goals as goal

pub returns-else-is_empty : goal.returns-else-is_empty
returns-else-is_empty c = λ D. lemma.end_none D c.args.rows.now c.if-is_empty.ensures
