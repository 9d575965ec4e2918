-- Values by their forms, and their parts.
use Rattle.std.proofs.Common.{◌≡◌}
use Rattle.rx_machine_values.specs.declared.value.Parts.{Parts}
use Rattle.rx_machine_values.specs.Rows.{values_in}
use Rattle.rx_machine_values.specs.PlainValues.{plain-Parts, plain-Nodes, parts_is, value_number, value_truth, value_unit, value_whole, value_tagged, value_pointer, value_lacking}

pub ruleset value_rules = (value_number, value_truth, value_unit, value_whole, value_tagged, value_pointer, value_lacking)

pub parts_are : (p : Parts) → plain-Parts p ≡ values_in (plain-Nodes p.nodes)
parts_are p = parts_is p
