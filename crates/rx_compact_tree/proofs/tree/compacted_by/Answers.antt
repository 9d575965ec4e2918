use Rattle.std.proofs.Common.{◌≡◌}
use Rattle.rx_tree.specs.declared.tree.Program.{Program}
use Rattle.rx_tree.specs.PlainOf.{plain-Program}
use Rattle.rx_hoist_made.proofs.Dropped.{ok_map}
use Rattle.rx_compact.specs.Compacted.{compacted}
use Rattle.rx_compact_known.specs.Knowing.{knows}
use Rattle.rx_compact_tree.proofs.Recorded.{is_compacted}
use Rattle.rx_compact_tree.proofs.tree.compacted_by.Goals as goal

pub returns : goal.returns
returns c =
    ok_map (λ (q : Program). plain-Program q ≡ compacted (knows c.in_ok-known.known) c.in_ok-single.single (plain-Program c.args.program.now) c.args.function) _ c.compacted_program.result
    (λ q e. is_compacted (plain-Program c.args.program.now) (plain-Program q) c.args.typed.now c.args.function (knows c.in_ok-known.known) c.in_ok-single.single
    c.in_ok-known.ensures c.in_ok-single.ensures e)
    c.compacted_program.ensures
