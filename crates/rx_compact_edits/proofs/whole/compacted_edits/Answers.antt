use Rattle.std.proofs.Common.{◌≡◌, List, map, IfOk, ap, subst, ◌∙◌}
use Rattle.rx_tree.specs.declared.tree.BoundLifetime.{BoundLifetime}
use Rattle.rx_splice_laws.specs.Edits.{written}
use Rattle.rx_compact_known.specs.Knowing.{knows}
use Rattle.rx_compact_lifetimes.specs.declared.rewriting.Rewriting.{Rewriting}
use Rattle.rx_compact_lifetimes.specs.Merged.{mergings}
use Rattle.rx_compact_edits.specs.Writing.{part_of, edits_merged}
use Rattle.rx_compact_edits.proofs.whole.compacted_edits.Goals as goal

pub returns : goal.returns
returns c = let o = knows c.args.known.now in
    subst (λ (rs : List Rewriting). IfOk c.by_mergings.result (λ it. it ≡ map written (edits_merged (part_of c.args.source) c.args.single rs)))
    (c.as_slice-2.ensures ∙ (c.in_ok-first.ensures ∙ ap (λ (ls : List BoundLifetime). mergings o ls 0 ls) c.as_slice.ensures)) c.by_mergings.ensures
