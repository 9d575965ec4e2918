use Rattle.std.proofs.Common.{[], ◌∷◌, ◌++◌, ap, ◌∙◌, subst}
use Rattle.rx_lower_lifetimes.specs.Answer.{Answers}
use Rattle.rx_lower.specs.Functions.{function}
use Rattle.rx_facts.proofs.lowering.with_next.Goals as goal

pub returns-in-Ok-clause-more : goal.returns-in-Ok-clause-more
returns-in-Ok-clause-more c = let held = c.in_ok-graph.ensures in (
  record { graph = c.in_ok-graph.graph },
  c.in-Ok.ensures ∙ ap (λ l. l ++ record { graph = c.in_ok-graph.graph } ∷ []) held.1,
  subst (λ r. Answers (function c.args.decls.now.items c.args.function.now) c.args.function.now.mutable r) held.0 c.lower_typed.ensures.answers,
)
