use Rattle.std.proofs.Common.{◌≡◌, ap, ◌∙◌}
use Rattle.rx_tree.specs.declared.tree.Func.{Func}
use Rattle.rx_tree.specs.PlainOf.{plain-Func}
use Rattle.rx_hoist_made.proofs.Dropped.{ok_map}
use Rattle.rx_compact_lifetimes.specs.Merged.{merged}
use Rattle.rx_compact_lifetimes.specs.Elided.{elided}
use Rattle.rx_compact_known.specs.Knowing.{knows}
use Rattle.rx_compact_functions.proofs.program.compacted.Goals as goal

pub returns : goal.returns
returns c =
    ok_map (λ (it : Func). plain-Func it ≡ elided c.args.single (plain-Func c.in_ok-merged.merged))
    (λ (it : Func). plain-Func it ≡ elided c.args.single (merged (knows c.args.known.now) (plain-Func c.args.function.now))) c.elided_function.result
    (λ it e. e ∙ ap (elided c.args.single) c.in_ok-merged.ensures) c.elided_function.ensures
