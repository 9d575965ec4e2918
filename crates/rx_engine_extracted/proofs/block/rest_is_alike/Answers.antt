use Rattle.std.proofs.Common.{ap, ◌∙◌}
use Rattle.rx_engine_simulation.specs.Jumps.{Jumping}
use Rattle.rx_engine_alike.specs.Likeness.{is_alike}
use Rattle.rx_engine_alike.specs.Forms.{like_body}
use Rattle.rx_engine_alike.specs.PlainSights.{plain-Renaming}
use Rattle.rx_engine_alike.specs.PlainParts.{plain-Part}
use Rattle.rx_engine_extracted.specs.Block.{between_around}
use Rattle.rx_engine_extracted.specs.PlainTold.{plain-Told}
use Rattle.rx_engine_extracted.proofs.BlockLemmas.{told_as}
use Rattle.rx_engine_extracted.proofs.block.rest_is_alike.Goals as goal

pub returns : goal.returns
returns c =
    c.in_ok-so.ensures
    ∙ told_as c.args.around.now (between_around (plain-Told c.args.told.now)) c.args.jumping.now
    (λ C J. is_alike (like_body C J (plain-Renaming c.args.renaming.now.items) (plain-Part c.args.text) (plain-Part c.args.answer))) c.requires.around
    ∙ ap (λ (J : Jumping). is_alike (like_body (between_around (plain-Told c.args.told.now)) J (plain-Renaming c.args.renaming.now.items) (plain-Part c.args.text) (plain-Part c.args.answer)))
    (c.requires.jumping c.args.told.now.elsewhere.now)
