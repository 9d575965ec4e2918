use Rattle.std.proofs.Common.{[], ◌∷◌, ◌++◌, ap, ◌∙◌, subst}
use Rattle.rx_region_outlives.specs.Implied.{pairs_of}
use Rattle.rx_check.specs.Answers.{FunctionRegionsAnswer}
use Rattle.rx_check.proofs.regions.with_next.Goals as goal

pub returns-in-Ok-clause-more : goal.returns-in-Ok-clause-more
returns-in-Ok-clause-more c = let held = c.in_ok-regions.ensures in (
  c.in_ok-regions.regions,
  c.in-Ok.ensures ∙ ap (λ l. l ++ c.in_ok-regions.regions ∷ []) held.1,
  subst (λ r. FunctionRegionsAnswer c.args.decls.now.items (pairs_of c.args.implied.now.items) c.args.function.now r) held.0 c.function_regions-outcome.ensures,
)
