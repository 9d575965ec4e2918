use Rattle.std.proofs.Common.{map, ap, sym, option_to_list, ◌∙◌}
use Rattle.rx_graph.specs.Facts.{has}
use Rattle.rx_lower_walks.specs.PlainFlow.{plain-Root}
use Rattle.rx_facts_tables.specs.Live.{has_root}
use Rattle.rx_facts_tables.proofs.Effecting.{one_number}
use Rattle.rx_facts_tables.proofs.table.number.Goals as goal

pub returns-in-Some-find : goal.returns-in-Some-find
returns-in-Some-find c k r e =
    ap (λ l. has l k) c.one.ensures
    ∙ one_number c.args.index.now.roots c.requires.once c.in-Some.root c.in-Some-find.number c.in-Some-find.ensures k r e
    ∙ ap (λ o. has_root (map plain-Root (option_to_list o)) (plain-Root r)) (sym c.in-Some.is)
