use Rattle.rx_compact_accepted.proofs.Typed.{Laws}
use Rattle.rx_compact_accepted.proofs.Accepted.{accepted_alike}
use Rattle.rx_compact_accepted.proofs.StillNumbered.{short_numbered}
use Rattle.rx_compact_accepted.proofs.laws.short_signatures_are_accepted_alike.Goals as goal

pub returns : goal.returns
returns c =
    let laws : Laws = record {
      signed = λ p names t few meant typed. c.signatures_are_well_formed.ensures p names t few meant typed;
      fits = λ p names t few meant typed f among P. c.typed_functions_fit.ensures p names t few meant typed f among P (c.items_get_their_types.ensures p names t typed f among P);
      finite = c.declared_are_finite.ensures;
      some = c.one_size_each.ensures.some;
    } in
    λ p i q short small s n ps answer bs at t u a b.
    accepted_alike laws p i q short small (short_numbered p i q short small) s n ps answer bs at t u a b (c.all_have_types.ensures p short.names t a) (c.short_signatures_pass_alike.ensures p i q short small s t u a b)
