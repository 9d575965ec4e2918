use Rattle.std.proofs.Common.{sym, ◌∙◌}
use Rattle.rx_exits.specs.Choosing.{picks}
use Rattle.rx_exits.proofs.Listing.{if_ok}
use Rattle.rx_exits.proofs.ChoosingLemmas.{picked_one, passed_one}
use Rattle.rx_exits.proofs.choosing.with_picked.Goals as goal

pub returns-then-is_picked : goal.returns-then-is_picked
returns-then-is_picked c =
    if_ok _ _ c.pushed.result (λ l h. picked_one (picks c.args.pick) c.args.variable c.args.some l (sym c.is_picked.ensures ∙ c.if-is_picked.true) h) c.pushed.ensures

pub returns-else-is_picked : goal.returns-else-is_picked
returns-else-is_picked c = passed_one (picks c.args.pick) c.args.variable c.args.some (sym c.is_picked.ensures ∙ c.if-is_picked.false)
