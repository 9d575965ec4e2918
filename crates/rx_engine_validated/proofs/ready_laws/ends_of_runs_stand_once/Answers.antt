use Rattle.std.proofs.Common.{◌≤◌}
use Rattle.rx_typed.specs.Tree.{Function}
use Rattle.rx_typed.specs.PlainTree.{plain-TypedTree}
use Rattle.rx_exits_plan.specs.Spots.{spots_of_function}
use Rattle.rx_engine_related.specs.OneSite.{blocks_at}
use Rattle.rx_engine_validated.proofs.Functions.{elaborated_of}
use Rattle.rx_engine_validated.proofs.ready_laws.ends_of_runs_stand_once.Goals as goal

pub returns : goal.returns
returns c = λ p t few front f a r ls xs. let typed = front.typed in
    c.ends_stand_once.ensures r ls xs (plain-TypedTree f.tree) (c.typed_functions_stand.ensures.unmarked p front.names t few front.meant typed f a)
    (elaborated_of (λ (g : Function). blocks_at r.block (spots_of_function g) ≤ 1) p front.names t few front.meant typed (c.signatures_are_well_formed.ensures p front.names t few front.meant typed)
    (c.sizes_are_sized.ensures p front.names typed.declared typed.sizes typed.declares typed.is_sizes) (λ A i s g ns. c.blocks_have_their_nodes.ensures A i s g ns r.block) f a)
