use Rattle.std.specs.Prelude.{filter}
use Rattle.rx_compact_lifetimes.specs.Merged.{mergings_of}
use Rattle.rx_compact_lifetimes.specs.Elided.{in_body, stays, elisions}
use Rattle.rx_compact_lifetimes.proofs.Bared.{bare_merged_by, bare_elided_by}
use Rattle.rx_compact_lifetimes.proofs.laws.all_but_lifetimes_stays.Goals as goal

pub returns-clause-merged : goal.returns-clause-merged
returns-clause-merged c outlives f = bare_merged_by (mergings_of outlives f) f

pub returns-clause-elided : goal.returns-clause-elided
returns-clause-elided c single f = bare_elided_by (elisions single (in_body f.body) f) (filter (stays single (in_body f.body) f) f.lifetimes) f
