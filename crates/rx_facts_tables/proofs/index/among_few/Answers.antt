use Rattle.std.proofs.Common.{Some, ◌++◌, option_to_list, ap, sym, ◌∙◌}
use Rattle.rx_facts_tables.proofs.Numbering.{among_others, not_first}
use Rattle.rx_facts_tables.proofs.index.among_few.Goals as goal

pub returns-else-is_at : goal.returns-else-is_at
returns-else-is_at c = among_others c.args.roots.now c.args.root (Some c.in-Some.number) c.parts-first.result.1.now c.args.numbers.now c.among.result
    (ap (λ o. option_to_list o ++ c.parts-first.result.1.now) (sym c.in-Some.is) ∙ c.parts-first.ensures)
    (λ k. not_first c.args.roots.now c.args.root c.in-Some.number k c.if-is_at.ensures) c.among.ensures
