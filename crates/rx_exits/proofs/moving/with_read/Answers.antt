use Rattle.std.proofs.Common.{◌≡◌, ◌++◌, IfOk, sym, ap, ◌∙◌, subst}
use Rattle.std.proofs.lemmas.List.{append-nil}
use Rattle.rx_lower_walks.specs.Actions.{Read}
use Rattle.rx_lower_walks.specs.PlainFlow.{plain-Place}
use Rattle.rx_exits.specs.Moving.{moved_by}
use Rattle.rx_exits.proofs.moving.with_read.Goals as goal

pub returns-then-moves : goal.returns-then-moves
returns-then-moves c d =
    subst (λ b. IfOk c.with_root.result (λ it. it ≡ c.args.found ++ moved_by (Read b (plain-Place c.args.place.now) d))) (sym c.if-moves.true) c.with_root.ensures

pub returns-else-moves : goal.returns-else-moves
returns-else-moves c d = sym (append-nil c.args.found) ∙ ap (λ b. c.args.found ++ moved_by (Read b (plain-Place c.args.place.now) d)) (sym c.if-moves.false)
