use Rattle.std.proofs.Common.{◌≡◌, ap, sym, ◌∙◌}
use Rattle.rx_hoist_made.specs.Lasts.{last_one}
use Rattle.rx_hoist_made.proofs.Dropped.{last_more}
use Rattle.rx_hoist_made.proofs.parts.last_of.Goals as goal

pub returns-in-Some : goal.returns-in-Some
returns-in-Some g c = last_more c.pop.new.self c.in-Some.last ∙ ap last_one (sym c.in-Some.ensures)
