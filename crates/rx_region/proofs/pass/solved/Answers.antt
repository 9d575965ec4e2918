use Rattle.std.proofs.Common.{map, ◌∙◌}
use Rattle.rx_lower_walks.specs.PlainSite.{plain-Site}
use Rattle.rx_region.specs.PlainContext.{plain-Given}
use Rattle.rx_region.proofs.pass.solved.Goals as goal

pub returns : goal.returns
returns c = λ lives.
    let C = plain-Given c.args.given.now in let g = map plain-Site c.args.sites.now in
    let least = c.in_ok-regions.ensures.least C g (c.in_ok-outlives.ensures.asks lives) in record {
      least = least;
      sites = c.in_ok-regions.ensures.sites ∙ (c.in_ok-outlives.ensures.asks lives).sites;
      misses = c.in_ok-pairs.ensures.exact C g least c.in_ok-known.ensures;
      first = c.in_ok-pairs.ensures.first;
      keeps = λ none. c.in_ok-pairs.ensures.keeps C c.in_ok-known.ensures none;
    }
