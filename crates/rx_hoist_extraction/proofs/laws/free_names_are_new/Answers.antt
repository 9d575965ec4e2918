use Rattle.rx_hoist_extraction.proofs.FreeNames.{name_is_not_enum, name_is_not_exit, name_is_not_fresh, enum_is_not_exit, enum_is_not_fresh}
use Rattle.rx_hoist_extraction.proofs.laws.free_names_are_new.Goals as goal

pub returns-clause-exits : goal.returns-clause-exits
returns-clause-exits c = name_is_not_enum

pub returns-clause-variants : goal.returns-clause-variants
returns-clause-variants c = name_is_not_exit

pub returns-clause-variables : goal.returns-clause-variables
returns-clause-variables c = name_is_not_fresh

pub returns-clause-enum_variants : goal.returns-clause-enum_variants
returns-clause-enum_variants c = enum_is_not_exit

pub returns-clause-enum_variables : goal.returns-clause-enum_variables
returns-clause-enum_variables c = enum_is_not_fresh
