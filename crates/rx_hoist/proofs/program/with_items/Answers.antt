use Rattle.std.proofs.Common.{◌≡◌, ◌++◌, ◌+◌, List, take, drop, ap, ◌∙◌}
use Rattle.rx_tree.specs.declared.tree.Item.{Item}
use Rattle.rx_hoist_made.proofs.Dropped.{held_ok}
use Rattle.rx_hoist.proofs.PlaceLemmas.{items_put}
use Rattle.rx_hoist.proofs.program.with_items.Goals as goal

pub returns : goal.returns
returns c =
    let n = c.args.number in
    let rest = held_ok (λ (it : List Item). it ≡ c.from_on.result.now) c.copied.result c.in_ok-rest.rest c.copied.ensures c.in_ok-rest.ensures.0 in
    let front = held_ok (λ (it : List Item). it ≡ c.in_front.result.now) c.copied-2.result c.in_ok-front.front c.copied-2.ensures c.in_ok-front.ensures.0 in
    items_put n c.args.program.now.items c.in_ok-together.field-0 c.in_ok-front.front c.args.new c.in_ok-rest.rest
    (c.in_ok-together.ensures ∙ ap (λ l. c.in_ok-front.front ++ l) (c.in_ok-front.ensures.1 ∙ c.in_ok-new.ensures ∙ ap (λ l. l ++ c.in_ok-rest.rest) c.in_ok-rest.ensures.1))
    (front ∙ c.in_front.ensures ∙ ap (take n) c.as_slice-items.ensures)
    (rest ∙ c.from_on.ensures ∙ ap (drop (n + 1)) c.as_slice-items.ensures)
