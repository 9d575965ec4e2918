use Rattle.std.proofs.Common.{drop, length}
use Rattle.std.proofs.lemmas.Slice.Eq.{starts_is}
use Rattle.std.proofs.lemmas.Bool.Decides.{Decides-eqb}
use Rattle.rx_meaning.proofs.compare.is_front.Goals as goal

pub returns : goal.returns
returns c =
    let both = starts_is Decides-eqb c.args.bytes.now c.args.front.now c.starts_with.result c.starts_with.ensures.value in
    ((λ h. (drop (length c.args.front.now) c.args.bytes.now, both.0 h)), (λ front. both.1 front.0 front.1))
