use Rattle.std.proofs.Common.{◌≡◌, List, map, IfOk, subst, ◌∙◌}
use Rattle.rx_tree.specs.declared.tree.Ident.{Ident}
use Rattle.rx_tree.specs.PlainOf.{plain-Func}
use Rattle.rx_hoist_extraction.specs.OwnLifetimes.{idents}
use Rattle.rx_splice_laws.specs.Edits.{written}
use Rattle.rx_compact_edits.specs.Writing.{part_of, edits_named}
use Rattle.rx_compact_edits.proofs.whole.by_merged.Goals as goal

pub returns : goal.returns
returns c =
    subst (λ (n : List Ident). IfOk c.by_names.result (λ it. it ≡ map written (edits_named (part_of c.args.source) c.args.single c.args.first.now (idents n) (plain-Func c.args.merged.now))))
    (c.as_slice.ensures ∙ c.in_ok-named.ensures) c.by_names.ensures
