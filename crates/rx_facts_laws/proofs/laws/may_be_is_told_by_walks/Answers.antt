use Rattle.rx_typed.specs.Naming.{function_named}
use Rattle.rx_typed.specs.Elaborated.{elaborated}
use Rattle.rx_facts_laws.proofs.Arriving.{arrivals}
use Rattle.rx_facts_laws.proofs.laws.may_be_is_told_by_walks.Goals as goal

pub returns : goal.returns
returns c = record {
  set = λ F A i at f ns q p s e. let F' = elaborated A (function_named i at f ns) in let once = c.actions_are_distinct.ensures.once A i at f ns in (
    (λ m. (m.0, (arrivals F' once p s e m.0).0 m.1, m.2)),
    (λ m. (m.0, (arrivals F' once p s e m.0).1 m.1, m.2)),
  );
  unset = λ F A i at f ns q p s e. let F' = elaborated A (function_named i at f ns) in let once = c.actions_are_distinct.ensures.once A i at f ns in (
    (λ m. (m.0, (arrivals F' once p s e m.0).0 m.1, m.2)),
    (λ m. (m.0, (arrivals F' once p s e m.0).1 m.1, m.2)),
  );
}
