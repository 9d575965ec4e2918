use Rattle.std.proofs.Common.{◌≡◌, map, IfOk, subst}
use Rattle.rx_tree.specs.Plain.{Function}
use Rattle.rx_splice_laws.specs.Edits.{written}
use Rattle.rx_compact_lifetimes.specs.Elided.{in_body}
use Rattle.rx_compact_edits.specs.Writing.{part_of, edits_named}
use Rattle.rx_compact_edits.proofs.whole.by_mergings.Goals as goal

pub returns : goal.returns
returns c =
    subst (λ (g : Function). IfOk c.by_merged-edits.result (λ it. it ≡ map written (edits_named (part_of c.args.source) c.args.single c.args.first.now (in_body g.body) g)))
    c.in_ok-merged.ensures c.by_merged-edits.ensures
