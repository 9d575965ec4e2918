use Rattle.std.proofs.Common.{map, sym, ap, ◌∙◌}
use Rattle.rx_typed.specs.Regions.{region-Ty, regions_of}
use Rattle.rx_typed.specs.Renaming.{renamed, argument}
use Rattle.rx_typed.specs.Places.{behind}
use Rattle.rx_typed.specs.Standing.{form_type}
use Rattle.rx_typed.proofs.Parts.{parts_arm}
use Rattle.rx_typed.proofs.places.behind.Goals as goal

pub returns-in_ok-copied-in-Parts : goal.returns-in_ok-copied-in-Parts
returns-in_ok-copied-in-Parts c =
    parts_arm c.args.at.now.arguments c.in_ok-copied-in-Parts.field-0 (regions_of (map region-Ty c.in-Parts.parts.now)) c.behind_parts.result c.args.step c.in_ok-copied-in-Parts.ensures c.behind_parts.ensures
    ∙ sym (ap (λ f. behind c.args.decls.now.items (renamed (argument c.args.at.now.arguments) (form_type f)) c.args.step) c.in-Parts.is)
