use Rattle.std.proofs.Common.{◌∙◌}
use Rattle.rx_tree.specs.PlainOf.{plain-Func}
use Rattle.rx_hoist_extraction.specs.OwnLifetimes.{idents}
use Rattle.rx_compact_edits.specs.Writing.{part_of}
use Rattle.rx_compact_edits.proofs.AllFound.{by_lists}
use Rattle.rx_compact_edits.proofs.whole.by_names.Goals as goal

pub returns : goal.returns
returns c =
    by_lists (part_of c.args.source) c.args.single c.args.first.now c.as_slice.result.now (idents c.args.named.now) (plain-Func c.args.merged.now)
    c.as_slice-lifetimes.result.now c.as_slice-2.result.now c.new-out.result c.push_edits.new.out c.as_slice-lifetimes.ensures
    (c.as_slice.ensures ∙ c.in_ok-then.ensures) (c.as_slice-2.ensures ∙ c.in_ok-left.ensures) c.new-out.ensures c.in_ok-push_edits.ensures
