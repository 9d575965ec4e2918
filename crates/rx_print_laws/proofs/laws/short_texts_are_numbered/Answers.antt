use Rattle.rx_print_laws.proofs.Numbered.{numbered_by_text}
use Rattle.rx_print_laws.proofs.laws.short_texts_are_numbered.Goals as goal

pub returns : goal.returns
returns c p formed short = numbered_by_text p (c.print_parses.ensures.tokens p formed) short
