-- Where the program with the short signature is accepted; and it is where the given one is.
use Rattle.rx_compact_texts.proofs.Accepted.{accepted}
use Rattle.rx_compact_texts.proofs.laws.short_texts_are_accepted.Goals as goal

pub returns-clause-read : goal.returns-clause-read
returns-clause-read c = accepted c.acceptance_ignores_spans.ensures c.short_signatures_are_read.ensures

pub returns-clause-there : goal.returns-clause-there
returns-clause-there c = λ text p parses i q k s f e small short n ps answer bs at t u a b d.
    let alike = c.short_signatures_are_accepted_alike.ensures p i q k small short n ps answer bs at t u a b in
    accepted c.acceptance_ignores_spans.ensures c.short_signatures_are_read.ensures text p parses i q k s f e u (alike.there d)
