use Rattle.std.proofs.Common.{ap, ◌∙◌, ◌+◌, ◌-◌, take, drop}
use Rattle.rx_hoist.specs.Runs.{run_of}
use Rattle.rx_hoist.proofs.PlaceLemmas.{parts_chosen}
use Rattle.rx_hoist.proofs.parts.run_parts.Goals as goal

pub returns : goal.returns
returns c =
    let r = run_of c.args.run.now in
    parts_chosen r c.args.block.now c.chosen.result.now _
    (c.chosen.ensures ∙ ap (λ xs. take (r.last + 1 - r.first) (drop r.first xs)) c.as_slice.ensures) c.chosen_tail.ensures
