use Rattle.std.proofs.Common.{slice_get, ap, ◌∙◌, map}
use Rattle.rx_compact_lifetimes.specs.Bare.{bare_item}
use Rattle.rx_compact.specs.Outliving.{is_single}
use Rattle.rx_compact.proofs.Compacting.{alike}
use Rattle.rx_compact.proofs.laws.only_lifetimes_change.Goals as goal

pub returns : goal.returns
returns c p i q h = ap (map bare_item) h.same ∙ alike h.outlives (is_single (slice_get h.declared i)) p i
