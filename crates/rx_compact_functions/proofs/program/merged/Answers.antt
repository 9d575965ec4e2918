use Rattle.std.proofs.Common.{◌≡◌, List, ap, ◌∙◌}
use Rattle.rx_tree.specs.declared.tree.Func.{Func}
use Rattle.rx_tree.specs.declared.tree.BoundLifetime.{BoundLifetime}
use Rattle.rx_tree.specs.PlainOf.{plain-Func}
use Rattle.rx_hoist_made.proofs.Dropped.{ok_map}
use Rattle.rx_compact_lifetimes.specs.declared.rewriting.Rewriting.{Rewriting}
use Rattle.rx_compact_lifetimes.specs.Merged.{merged, merged_by, mergings}
use Rattle.rx_compact_known.specs.Knowing.{knows}
use Rattle.rx_compact_functions.proofs.program.merged.Goals as goal

pub returns : goal.returns
returns c =
    let o = knows c.args.known.now in
    let f = plain-Func c.args.function.now in
    ok_map (λ (it : Func). plain-Func it ≡ merged_by c.as_slice-2.result.now f) (λ (it : Func). plain-Func it ≡ merged o f) c.merged_function-merged.result
    (λ it e. e ∙ ap (λ (rs : List Rewriting). merged_by rs f) (c.as_slice-2.ensures ∙ (c.in_ok-rewritings.ensures ∙ ap (λ (ls : List BoundLifetime). mergings o ls 0 ls) c.as_slice.ensures)))
    c.merged_function-merged.ensures
