use Rattle.std.proofs.Common.{ℕ, List, map, refl, subst}
use Rattle.rx_graph.specs.declared.effect.Effect.{Effect}
use Rattle.rx_lower_walks.specs.PlainSite.{plain-Site}
use Rattle.rx_facts_tables.specs.Along.{edges_of}
use Rattle.rx_facts_tables.specs.Tracking.{Foresees}
use Rattle.rx_facts_tables.proofs.Living.{live_exactly, unused}
use Rattle.rx_facts_tables.proofs.table.live_marked.Goals as goal

pub returns-clause-lives : goal.returns-clause-lives
returns-clause-lives c =
    let edges = edges_of (map plain-Site c.args.sites.now) in
    record {
      index = c.in_ok-index.ensures.index;
      exact = λ p k r within is. live_exactly c.in_ok-index.index.roots c.in_ok-effects.effects.items (map plain-Site c.args.sites.now) edges c.in_ok-ahead.ahead.rows
          refl c.in_ok-effects.ensures
          (subst (λ (n : ℕ). Foresees edges c.in_ok-effects.effects.items n c.in_ok-ahead.ahead.rows) c.len.ensures
          (subst (λ (l : List Effect). Foresees edges l c.len.result c.in_ok-ahead.ahead.rows) c.as_slice.ensures.value c.in_ok-ahead.ensures)) p k r within is;
      unused = λ p r fresh live. unused c.in_ok-index.index.roots (map plain-Site c.args.sites.now) c.in_ok-index.ensures.kept p r fresh live;
    }
