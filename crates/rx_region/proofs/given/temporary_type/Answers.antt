use Rattle.std.proofs.Common.{refl}
use Rattle.std.specs.Option.{option_copied}
use Rattle.rx_lower_walks.specs.PlainFlow.{plain-Temporary}
use Rattle.rx_lower_lifetimes.specs.Values.{type_found}
use Rattle.rx_region.proofs.Finding.{temporary_at}
use Rattle.rx_region.proofs.given.temporary_type.Goals as goal

pub returns : goal.returns
returns c = temporary_at c.args.lifetimes.now.types c.as_slice.result.now c.args.lifetimes.now.temporaries c.args.lifetimes.now.temporaries (plain-Temporary c.args.temporary)
    c.variables.result c.find-place.result (type_found (option_copied c.behind.result)) c.behind.ensures c.as_slice.ensures c.find-place.ensures refl c.variables.ensures
