use Rattle.std.proofs.Common.{rules, ◌≡◌, ◌↔◌, ◌++◌, ◌<◌, ℕ, [], ◌∷◌, length, OnOk, IfOk, map, slice_get, slice_set, slice_index_or, ◌+◌, ◌-◌, ◌*◌, ◌≤◌, ◌/◌, ◌%◌, Bool, true, false, nat_eq, nat_lt, List, bit_and, bit_or, Fits, w8, w32, w64, Bor, MutBor}
use Rattle.rx_typed.specs.Regions.{region-Ty, regions_of, region_fields, region_variants, held_regions, lifetimes_in, lifetimes_among}
use Rattle.rx_typed_declarations.specs.WellFormed.{WellFormed}
use Rattle.rx_typed_declarations.proofs.Filling.{Fills}
use Rattle.rx_region_outlives.specs.Implied as spec
use Rattle.rx_region_outlives.proofs.implied.implied_by_fields.Goals as goal
use Rattle.rx_region_outlives.proofs.TableLemmas.{implied_at}
use Rattle.std.proofs.Common.{subst, sym, ◌∙◌}
use Rattle.rx_core.specs.declared.types.Bound.{Bound}
use Rattle.rx_typed.specs.declared.declarations.Decl.{Decl}

pub returns : goal.returns
returns c = subst (λ (its : List Decl). spec.AreImplied its c.from_vec.result) c.as_slice-items.ensures
    (implied_at c.as_slice-items.result.now c.as_slice.result.now c.in_ok-order.order c.as_slice-2.result.now c.in_ok-table.table.items
    c.from_vec.result
    (c.as_slice.ensures ∙ c.in_ok-edges.ensures) c.in_ok-order.ensures c.as_slice-2.ensures c.in_ok-table.ensures (subst (λ (T : List (List Bound)). Fills (spec.FromHeld c.as_slice-items.result.now) c.in_ok-table.table.items c.as_slice-2.result.now T) (sym c.from_vec.ensures) c.in_ok-fill.ensures))
