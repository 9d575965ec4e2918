use Rattle.std.proofs.Common.{Bool, [], ◌∷◌, ◌++◌, if◌then◌else◌, ap, ◌∙◌}
use Rattle.rx_exits_occurrences.proofs.NamingLemmas.{has_keys}
use Rattle.rx_exits_occurrences.proofs.naming.add.Goals as goal

pub returns-in-Ok : goal.returns-in-Ok
returns-in-Ok c =
    let ks = c.args.numbers.now.keys in
    c.in-Ok.ensures.keys ∙ ap (λ (b : Bool). if b then ks else ks ++ c.args.number ∷ []) (has_keys ks c.args.number)
