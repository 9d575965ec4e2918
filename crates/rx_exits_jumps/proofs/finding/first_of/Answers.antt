use Rattle.std.proofs.Common.{take, ap, ◌∙◌}
use Rattle.rx_exits_jumps.proofs.FindingLemmas.{first_popped}
use Rattle.rx_exits_jumps.proofs.finding.first_of.Goals as goal

pub returns : goal.returns
returns c =
    first_popped c.args.homes c.from_vec-first.result c.pop.new.self c.pop.result (c.from_vec-first.ensures ∙ c.truncate.ensures.items ∙ ap (take 1) c.into_vec-all.ensures) c.pop.ensures
