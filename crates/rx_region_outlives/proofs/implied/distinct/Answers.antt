use Rattle.std.proofs.Common.{rules, ◌≡◌, ◌↔◌, ◌++◌, ◌<◌, ℕ, [], ◌∷◌, length, OnOk, IfOk, map, slice_get, slice_set, slice_index_or, ◌+◌, ◌-◌, ◌*◌, ◌≤◌, ◌/◌, ◌%◌, Bool, true, false, nat_eq, nat_lt, List, bit_and, bit_or, Fits, w8, w32, w64, Bor, MutBor}
use Rattle.rx_typed.specs.Regions.{region-Ty, regions_of, region_fields, region_variants, held_regions, lifetimes_in, lifetimes_among}
use Rattle.rx_typed_declarations.specs.WellFormed.{WellFormed}
use Rattle.rx_typed_declarations.proofs.Filling.{Fills}
use Rattle.rx_region_outlives.specs.Implied as spec
use Rattle.rx_region_outlives.proofs.implied.distinct.Goals as goal
use Rattle.std.proofs.Common.{drop, length, get_or, ◌∙◌}
use Rattle.rx_region_outlives.proofs.ImpliedLemmas.{same_next, same_more, kept_back}

pub loop-pair-preserved : goal.loop-pair-preserved
loop-pair-preserved c =
    let same = same_next c.loop-pair.kept c.args.pairs.now c.args.pairs.now c.loop-pair.pair-index c.loop-pair-test.true c.loop-pair.invariant.0 in (
      same_more c.loop-pair.kept c.add_new.new.kept (drop (c.loop-pair.pair-index + 1) c.args.pairs.now) c.args.pairs.now
          (get_or c.args.pairs.now c.loop-pair.pair-index (record { long = 0; short = 0 })) same c.in_ok-add_new.ensures.same,
      kept_back c.loop-pair.marks.len c.add_new.new.marks (drop (length c.add_new.new.marks) c.loop-pair.marks.items) c.add_new.new.kept
          (c.in_ok-add_new.ensures.count ∙ c.as_mut_slice.ensures.len) c.in_ok-add_new.ensures.kept,
    )
