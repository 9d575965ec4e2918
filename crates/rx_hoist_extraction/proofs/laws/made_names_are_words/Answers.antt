use Rattle.rx_hoist_extraction.proofs.MadeNames.{exit_is_identifier, exit_name_spells, variable_is_identifier, lifetime_is_word}
use Rattle.rx_hoist_extraction.proofs.laws.made_names_are_words.Goals as goal

pub returns-clause-exits : goal.returns-clause-exits
returns-clause-exits c = exit_is_identifier

pub returns-clause-variants : goal.returns-clause-variants
returns-clause-variants c = exit_name_spells

pub returns-clause-variables : goal.returns-clause-variables
returns-clause-variables c = variable_is_identifier

pub returns-clause-lifetimes : goal.returns-clause-lifetimes
returns-clause-lifetimes c = lifetime_is_word
