use Rattle.std.proofs.Common.{rules, ◌≡◌, ◌↔◌, ◌++◌, ◌<◌, ℕ, [], ◌∷◌, length, OnOk, IfOk, map, slice_get, slice_set, slice_index_or, ◌+◌, ◌-◌, ◌*◌, ◌≤◌, ◌/◌, ◌%◌, Bool, true, false, nat_eq, nat_lt, List, bit_and, bit_or, Fits, w8, w32, w64, Bor, MutBor}
use Rattle.rx_typed.specs.Regions.{region-Ty, regions_of, region_fields, region_variants, held_regions, lifetimes_in, lifetimes_among}
use Rattle.rx_typed_declarations.specs.WellFormed.{WellFormed}
use Rattle.rx_typed_declarations.proofs.Filling.{Fills}
use Rattle.rx_region_outlives.specs.Implied as spec
use Rattle.rx_region_outlives.proofs.implied.add_new.Goals as goal
use Rattle.rx_region_outlives.proofs.ImpliedLemmas.{known_same, kept_more}
use Rattle.std.proofs.Common.{sym, ◌∙◌, subst}
use Rattle.rx_core.specs.declared.types.Bound.{Bound}

pub returns-then-is_marked-clause-same : goal.returns-then-is_marked-clause-same
returns-then-is_marked-clause-same c =
    known_same c.args.kept.now c.args.pair (c.requires c.args.pair.long c.args.pair.short (sym c.is_marked.ensures ∙ c.if-is_marked.true))

pub returns-clause-kept : goal.returns-clause-kept
returns-clause-kept c = subst (λ (ps : List Bound). spec.Kept c.mark.new.marks ps) (sym c.in_ok-push.ensures.ok)
    (kept_more c.args.marks.now c.mark.new.marks c.args.kept.now c.args.pair c.requires c.mark.ensures.marked)
