use Rattle.rx_hoist_extraction.proofs.NewItemsAt.{items_are, old_changed, new_function_at, new_enum_at, front_stays, behind_moved}
use Rattle.rx_hoist_extraction.proofs.laws.items_stand.Goals as goal

pub returns-clause-items : goal.returns-clause-items
returns-clause-items c = items_are

pub returns-clause-old : goal.returns-clause-old
returns-clause-old c = old_changed

pub returns-clause-new : goal.returns-clause-new
returns-clause-new c = new_function_at

pub returns-clause-exits : goal.returns-clause-exits
returns-clause-exits c = new_enum_at

pub returns-clause-front : goal.returns-clause-front
returns-clause-front c = front_stays

pub returns-clause-behind : goal.returns-clause-behind
returns-clause-behind c = behind_moved
