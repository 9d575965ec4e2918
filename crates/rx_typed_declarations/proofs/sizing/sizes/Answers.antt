use Rattle.std.proofs.Common.{ℕ, ◌∙◌, ap, replicate}
use Rattle.rx_typed.specs.PlainTypes.{declarations}
use Rattle.rx_typed_declarations.specs.Held.{held_by_each}
use Rattle.rx_typed_declarations.proofs.SizeLemmas.{sizes_at}
use Rattle.rx_typed_declarations.proofs.sizing.sizes.Goals as goal

pub returns : goal.returns
returns c =
    sizes_at c.args.decls.now.items c.as_slice-2.result.now c.in_ok-order.order c.as_slice-3.result.now
    c.in_ok-table.table.items c.from_vec.result
    (c.as_slice-2.ensures ∙ c.in_ok-edges.ensures ∙ ap (λ l. held_by_each (declarations l)) c.as_slice.ensures)
    c.in_ok-order.ensures c.as_slice-3.ensures
    (c.in_ok-table.ensures ∙ ap (λ (n : ℕ). replicate {A = ℕ} n 1) c.len.ensures) (c.from_vec.ensures ∙ c.fill.ensures)
