use Rattle.std.proofs.Common.{ap, ◌∙◌}
use Rattle.rx_engine_simulation.specs.Jumps.{Jumping}
use Rattle.rx_engine_alike.specs.PlainSights.{plain-Renaming}
use Rattle.rx_engine_alike.specs.PlainParts.{plain-Part}
use Rattle.rx_engine_extracted.specs.Stretches.{like_first}
use Rattle.rx_engine_extracted.specs.Block.{between_around}
use Rattle.rx_engine_extracted.specs.PlainTold.{plain-Told}
use Rattle.rx_engine_extracted.proofs.BlockLemmas.{told_as}
use Rattle.rx_engine_extracted.proofs.block.front_alike.Goals as goal

pub returns : goal.returns
returns c =
    c.in_ok-found.ensures
    ∙ told_as c.args.around.now (between_around (plain-Told c.args.told.now)) c.args.jumping.now
    (λ C J. like_first C J c.args.told.now.run.first (plain-Renaming c.args.renaming.now.items) (plain-Part c.args.passed.text) (plain-Part c.args.passed.answer)) c.requires.around
    ∙ ap (λ (J : Jumping). like_first (between_around (plain-Told c.args.told.now)) J c.args.told.now.run.first (plain-Renaming c.args.renaming.now.items) (plain-Part c.args.passed.text)
    (plain-Part c.args.passed.answer))
    (c.requires.jumping c.args.told.now.elsewhere.now)
