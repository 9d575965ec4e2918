-- The equations of plain flows, as the tactics take them.
use Rattle.rx_lower_walks.specs.PlainFlow.{flow_nothing, flow_nowhere, flow_act, flow_items, flow_or, flow_leave, flow_passes, item_do, item_ends, item_may, item_else}

pub ruleset flow_rules = (flow_nothing, flow_nowhere, flow_act, flow_items, flow_or, flow_leave, flow_passes, item_do, item_ends, item_may, item_else)
