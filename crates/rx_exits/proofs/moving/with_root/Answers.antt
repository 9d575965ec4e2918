use Rattle.std.proofs.Common.{true, false, ◌++◌, sym, ap, ◌∙◌}
use Rattle.std.proofs.lemmas.List.{append-nil}
use Rattle.rx_lower_walks.specs.PlainFlow.{plain-Root}
use Rattle.rx_facts_tables.specs.Setting.{is_behind}
use Rattle.rx_exits.specs.Moving.{of_root}
use Rattle.rx_exits.proofs.Listing.{if_ok}
use Rattle.rx_exits.proofs.MovingLemmas.{root_is}
use Rattle.rx_exits.proofs.moving.with_root.Goals as goal

pub returns-then-is_behind : goal.returns-then-is_behind
returns-then-is_behind c =
    sym (append-nil c.args.found) ∙ ap (λ l. c.args.found ++ l) (sym (root_is _ c.in-Variable.variable _ true (ap plain-Root c.in-Variable.is)
    (ap is_behind (sym c.as_slice.ensures) ∙ sym c.is_behind.ensures ∙ c.if-is_behind.true)))

pub returns-else-is_behind : goal.returns-else-is_behind
returns-else-is_behind c =
    if_ok _ _ c.pushed.result (λ l h. h ∙ ap (λ k. c.args.found ++ k) (sym (root_is _ c.in-Variable.variable _ false (ap plain-Root c.in-Variable.is)
    (ap is_behind (sym c.as_slice.ensures) ∙ sym c.is_behind.ensures ∙ c.if-is_behind.false)))) c.pushed.ensures

pub returns-in-Temporary : goal.returns-in-Temporary
returns-in-Temporary c =
    sym (append-nil c.args.found) ∙ ap (λ r. c.args.found ++ of_root (plain-Root r) (is_behind c.args.place.now.steps)) (sym c.in-Temporary.is)
