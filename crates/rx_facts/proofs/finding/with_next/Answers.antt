use Rattle.std.proofs.Common.{[], ◌∷◌, ◌++◌, ap, ◌∙◌, subst}
use Rattle.rx_typed.specs.PlainTypes.{declarations}
use Rattle.rx_typed_declarations.specs.Sizes.{told}
use Rattle.rx_facts.specs.Answers.{FunctionAnswers}
use Rattle.rx_facts.proofs.finding.with_next.Goals as goal

pub returns-in-Ok-clause-more : goal.returns-in-Ok-clause-more
returns-in-Ok-clause-more c = let held = c.in_ok-facts.ensures in (
  c.in_ok-facts.facts,
  c.in-Ok.ensures ∙ ap (λ l. l ++ c.in_ok-facts.facts ∷ []) held.1,
  subst (λ r. FunctionAnswers (declarations c.args.decls.now.items) (told c.args.sizes.now) c.args.function.now r) held.0 c.function_facts-outcome.ensures,
)
