-- The text is pieces, of which each word and each comment ends before a line feed.
use Rattle.rx_splice_laws.proofs.GoesOn.{goes_on_read}
use Rattle.rx_splice_laws.proofs.laws.texts_go_on.Goals as goal

pub returns : goal.returns
returns c = λ at t r ts us d e f. goes_on_read at t r ts us d e f
