use Rattle.std.proofs.Common.{Some, ap, sym, ◌∙◌}
use Rattle.rx_exits.proofs.ReachingLemmas.{some_is, none_is_some}
use Rattle.rx_exits.proofs.names.is_other.Goals as goal

pub returns-then-found-variable : goal.returns-then-found-variable
returns-then-found-variable c = λ n. n (sym c.meant.ensures ∙ c.in-Some.is ∙ ap Some c.if-found-variable.true)

pub returns-else-found-variable : goal.returns-else-found-variable
returns-else-found-variable c = λ e. c.if-found-variable.false (some_is _ _ (sym c.in-Some.is ∙ c.meant.ensures ∙ e))

pub returns-in-None : goal.returns-in-None
returns-in-None c = λ e. none_is_some _ (sym c.in-None.is ∙ c.meant.ensures ∙ e)
