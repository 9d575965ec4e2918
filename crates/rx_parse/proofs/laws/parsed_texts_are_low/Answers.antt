use Rattle.rx_parse.proofs.Whole.{parsed, tree_of}
use Rattle.rx_parse.proofs.laws.parsed_texts_are_low.Goals as goal

pub returns : goal.returns
returns c = λ bytes p. (λ d. (d.height, tree_of bytes p d, d.low), λ x. parsed bytes p x.0 (x.1, x.2))
