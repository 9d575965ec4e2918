use Rattle.std.proofs.Common.{◌≡◌, [], ◌∷◌, ◌++◌, ap, ◌∙◌}
use Rattle.rx_hoist_changes.proofs.ListLemmas.{given}
use Rattle.rx_hoist_changes.proofs.NodeLemmas.{one_with_tail}
use Rattle.rx_hoist_changes.proofs.moving.with_tail.Goals as goal

pub returns : goal.returns
returns c =
    one_with_tail _ _ _ _ _
    (given (λ all. all ≡ c.new-2.result ++ c.in_ok-tail.stmt ∷ []) _ _ c.in_ok-stmts.ensures.0 c.pushed.ensures
    ∙ ap (λ l. l ++ c.in_ok-tail.stmt ∷ []) c.new-2.ensures
    ∙ ap (λ a. a ∷ []) c.in_ok-tail.ensures.1)
    (c.in_ok-stmts.ensures.1 ∙ given (λ b. b ≡ c.args.tail) _ _ c.in_ok-tail.ensures.0 c.new.ensures)
