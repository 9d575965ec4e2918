use Rattle.rx_lex.proofs.Reading.{word_begins_char, word_ends_char}
use Rattle.rx_lex.proofs.lexer.token_at.Goals as goal

pub range-requires-clause-start_boundary : goal.range-requires-clause-start_boundary
range-requires-clause-start_boundary c = λ p. word_begins_char c.args.text.now c.args.at c.requires.within c.requires.text

pub range-requires-clause-end_boundary : goal.range-requires-clause-end_boundary
range-requires-clause-end_boundary c =
    word_ends_char c.args.text.now c.args.at c.args.word.length c.args.word.class c.requires.within c.requires.text c.requires.word
