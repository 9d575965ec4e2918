use Rattle.std.proofs.Common.{ℕ, List, slice_get, ap, subst, sym, ◌∙◌}
use Rattle.rx_core.specs.declared.types.Bound.{Bound}
use Rattle.rx_graph_closure.specs.Closing.{Within}
use Rattle.rx_typed.specs.declared.declarations.Decl.{Decl}
use Rattle.rx_region_outlives.specs.Implied.{pairs_of}
use Rattle.rx_region.specs.Tables.{ClosedFrom}
use Rattle.rx_compact_known.specs.Knowing.{said}
use Rattle.rx_compact_known.proofs.Telling.{all_told}
use Rattle.rx_compact_known.proofs.known.known_lifetimes.Goals as goal

pub returns : goal.returns
returns c =
    let D = c.args.decls.now.items in
    let P = pairs_of c.in_ok-implied.implied.items in
    let n = c.count-count.result in
    all_told D P c.in_ok-implied.ensures.each c.args.function c.in_ok-pairs.pairs
    (c.in_ok-pairs.ensures ∙ ap (said P) (c.item_of-item.ensures ∙ ap (λ (l : List Decl). slice_get l c.args.function) c.as_slice.ensures))
    n c.from_vec.result
    (subst (λ ps. Within ps n) c.as_slice-2.ensures c.count-count.ensures.within)
    (subst (λ ps. ClosedFrom ps n c.from_vec.result) c.as_slice-3.ensures
    (subst (λ (T : List (List ℕ)). ClosedFrom c.as_slice-3.result.now n T) (sym c.from_vec.ensures) c.in_ok-rows.ensures))
