use Rattle.std.proofs.Common.{length, refl}
use Rattle.rx_select.specs.OneText.{OneText}
use Rattle.rx_parse_grammar.proofs.Numbered.{text_numbered}
use Rattle.rx_hoist_naming.specs.NamedPlan.{named_plan}
use Rattle.rx_engine_names.proofs.SelectedRuns.{run_selected}
use Rattle.rx_engine_planned.specs.Decided.{run_at}
use Rattle.rx_engine_planned.proofs.laws.decided_runs_are_selected.Goals as goal

pub returns : goal.returns
returns c = λ A q bytes names t muts d free s f at.
    let text : OneText A.tokens (length bytes) A.program = record { text = bytes; lexed = d.lexed; parsed = d.parsed; long = refl } in
    let few = text_numbered bytes A.program d.parsed d.short in
    let b = c.untyped_lets_stay_round_runs.ensures.leads (length bytes) A d.start d.end d.run s f at in
    run_selected (length bytes) A.tokens A.program text d.start d.end A.run d.run (run_at A.run) refl refl s f at b.0 b.1 (named_plan A) free
    (c.named_plans_name_types.ensures.pins A names t few d.meant d.typed d.among) (c.untyped_lets_stay_round_runs.ensures.kept (length bytes) A text d.start d.end d.run d.item s f at) names d.meant.names_are
