use Rattle.std.proofs.Common.{List, subst, sym, ap, ◌∙◌}
use Rattle.rx_typed.specs.Tree as tree
use Rattle.rx_facts_tables.specs.Live.{roots_of}
use Rattle.rx_facts_tables.specs.Effects.{Numbers}
use Rattle.rx_facts_tables.proofs.Effecting.{roots_are}
use Rattle.rx_facts_tables.proofs.table.effect.Goals as goal

pub returns : goal.returns
returns c = record {
  gives = subst (λ (l : List tree.Root). Numbers c.args.index.now.roots l c.in_ok-gives.gives) c.in_ok-roots.ensures c.in_ok-gives.ensures;
  kills = subst (λ (l : List tree.Root). Numbers c.args.index.now.roots l c.number-kills.result) (sym (roots_are c.written.result) ∙ ap roots_of c.written.ensures) c.number-kills.ensures;
}
