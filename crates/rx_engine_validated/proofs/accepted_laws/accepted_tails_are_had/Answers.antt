use Rattle.std.proofs.Common.{◌≤◌}
use Rattle.rx_typed.specs.Tree.{Function}
use Rattle.rx_typed.specs.PlainTypes.{declarations}
use Rattle.rx_typed.specs.PlainTree.{plain-TypedTree}
use Rattle.rx_lower_walks.specs.Orders.{order_function}
use Rattle.rx_exits_plan.specs.Spots.{spots_of_function}
use Rattle.rx_engine_related.specs.OneSite.{blocks_at}
use Rattle.rx_engine_validated.specs.AskedOf.{asked_of}
use Rattle.rx_engine_validated.proofs.Functions.{elaborated_of}
use Rattle.rx_engine_validated.proofs.Known.{had_tail_if, none_passed}
use Rattle.rx_engine_validated.proofs.accepted_laws.accepted_tails_are_had.Goals as goal

pub returns : goal.returns
returns c = λ p t few front f a r h sits tail k plan kept. let typed = front.typed in
    had_tail_if (asked_of (declarations t.decls.items) front.parts f r h) f.mutable k tail plan kept sits (c.accepted_functions_are_ready.ensures p t few front f a r h sits)
    (c.typed_functions_stand.ensures.unmarked p front.names t few front.meant typed f a)
    (none_passed (order_function (plain-TypedTree f.tree)) (c.typed_functions_stand.ensures.lazies p front.names t few front.meant typed f a))
    (elaborated_of (λ (g : Function). blocks_at r.block (spots_of_function g) ≤ 1) p front.names t few front.meant typed (c.signatures_are_well_formed.ensures p front.names t few front.meant typed)
    (c.sizes_are_sized.ensures p front.names typed.declared typed.sizes typed.declares typed.is_sizes) (λ A i s g ns. c.blocks_have_their_nodes.ensures A i s g ns r.block) f a)
