-- What constraints are told by, of the code.
use Rattle.rx_lower_lifetimes.specs.Answer.{plain-Lifetimes}
use Rattle.rx_region_outlives.specs.Implied.{pairs_of}
use Rattle.rx_region.specs.Constraints.{Context}
use Rattle.rx_region.specs.declared.given.Given.{Given}

abbrev pub plain-Given : Given → Context
plain-Given G = record { items = G.decls.now.items; implied = pairs_of G.implied.now.items; lifetimes = plain-Lifetimes G.lifetimes.now }
