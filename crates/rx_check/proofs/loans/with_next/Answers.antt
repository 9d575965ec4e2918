use Rattle.std.proofs.Common.{[], ◌∷◌, ◌++◌, ap, ◌∙◌, subst}
use Rattle.rx_check.specs.Answers.{FunctionLoansAnswer}
use Rattle.rx_check.proofs.loans.with_next.Goals as goal

pub returns-in-Ok-pushed-clause-more : goal.returns-in-Ok-pushed-clause-more
returns-in-Ok-pushed-clause-more c = (
  c.in-Ok.loans,
  c.in-Ok-pushed.ensures ∙ ap (λ l. l ++ c.in-Ok.loans ∷ []) c.in-Ok.ensures.1,
  λ D P graph regions. subst (λ r. FunctionLoansAnswer D P c.args.function.now r) c.in-Ok.ensures.0 (c.function_loans-outcome.ensures D P graph regions),
)

pub returns-in-Err-clause-refused : goal.returns-in-Err-clause-refused
returns-in-Err-clause-refused c D P graph regions = subst (λ r. FunctionLoansAnswer D P c.args.function.now r) c.in-Err.ensures (c.function_loans-outcome.ensures D P graph regions)
