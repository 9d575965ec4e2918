use Rattle.rx_compact_accepted.proofs.Typed.{Laws}
use Rattle.rx_compact_accepted.proofs.Staying.{lets_stay}
use Rattle.rx_compact_accepted.proofs.StillNumbered.{short_numbered}
use Rattle.rx_compact_accepted.proofs.laws.lets_of_short_signatures_stay.Goals as goal

pub returns : goal.returns
returns c =
    let laws : Laws = record {
      signed = λ p names t few meant typed. c.signatures_are_well_formed.ensures p names t few meant typed;
      fits = λ p names t few meant typed f among P. c.typed_functions_fit.ensures p names t few meant typed f among P (c.items_get_their_types.ensures p names t typed f among P);
      finite = c.declared_are_finite.ensures;
      some = c.one_size_each.ensures.some;
    } in
    λ p i q short small s n ps answer bs at t u a b. lets_stay laws p i q short small (short_numbered p i q short small) s n ps answer bs at t u a b
