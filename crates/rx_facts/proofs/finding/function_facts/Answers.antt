use Rattle.std.proofs.Common.{List, Option, ap, ◌∙◌}
use Rattle.rx_core.specs.declared.types.Ty.{Ty}
use Rattle.rx_typed.specs.PlainTypes.{declarations}
use Rattle.rx_typed_declarations.specs.Sizes.{told}
use Rattle.rx_lower.specs.Functions.{trimmed}
use Rattle.rx_facts.proofs.Telling.{facts_of, says_of}
use Rattle.rx_facts.proofs.finding.function_facts.Goals as goal

pub returns-in-Ok-live : goal.returns-in-Ok-live
returns-in-Ok-live c = facts_of c.args.decls.now.items (told c.args.sizes.now) c.args.function.now c.args.lowered.now c.trimmed.result.now c.as_slice-2.result.now c.as_slice-sites.result.now
    c.requires.lowered (c.trimmed.ensures ∙ ap (λ (l : List (Option Ty)). trimmed l) c.as_slice.ensures) c.as_slice-2.ensures c.as_slice-sites.ensures
    (record { live = c.in-Ok-live.live; init = c.in-Ok.init }) c.in-Ok.ensures.answers c.in-Ok-live.ensures.lives

pub returns-in-Err : goal.returns-in-Err
returns-in-Err c = c.placed.ensures (declarations c.args.decls.now.items) (told c.args.sizes.now)
    (says_of c.args.decls.now.items (told c.args.sizes.now) c.args.function.now c.args.lowered.now c.trimmed.result.now c.as_slice-2.result.now c.as_slice-sites.result.now
    c.requires.lowered (c.trimmed.ensures ∙ ap (λ (l : List (Option Ty)). trimmed l) c.as_slice.ensures) c.as_slice-2.ensures c.as_slice-sites.ensures c.in-Err.fault c.in-Err.ensures.answers)
