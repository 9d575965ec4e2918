use Rattle.rx_typeck_unclear_laws.proofs.Others.{told_has_type, tables_have_types}
use Rattle.rx_typeck_unclear_laws.proofs.Apart.{others_have_none}
use Rattle.rx_typeck_unclear_laws.proofs.laws.no_others_have_types.Goals as goal

pub returns : goal.returns
returns c = record { told = told_has_type; tables = tables_have_types; others = others_have_none }
