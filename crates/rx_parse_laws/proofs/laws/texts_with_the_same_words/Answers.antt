use Rattle.rx_parse_laws.proofs.Texts.{text_words}
use Rattle.rx_parse_laws.proofs.laws.texts_with_the_same_words.Goals as goal

pub returns : goal.returns
returns c = text_words
