use Rattle.rx_cover.proofs.arms.last_of.Goals as goal

pub returns-in-Some : goal.returns-in-Some
returns-in-Some c = (c.pop.new.self, c.in-Some.ensures)
