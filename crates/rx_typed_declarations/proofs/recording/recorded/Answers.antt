use Rattle.std.proofs.Common.{◌∙◌, ap}
use Rattle.rx_typed_declarations.specs.Variance.{record_all}
use Rattle.rx_typed_declarations.proofs.RecordLemmas.{same_at, well_formed_at, recorded_at, as_many_at}
use Rattle.rx_typed_declarations.proofs.recording.recorded.Goals as goal

pub returns-in-Ok-clause-same : goal.returns-in-Ok-clause-same
returns-in-Ok-clause-same c =
    same_at c.args.items c.from_vec.result c.in-Ok.table.items
    (c.from_vec.ensures ∙ c.record_all.ensures ∙ ap (λ l. record_all l c.in-Ok.table.items) c.into_vec-items.ensures)

pub returns-in-Ok-clause-well_formed : goal.returns-in-Ok-clause-well_formed
returns-in-Ok-clause-well_formed c =
    well_formed_at c.args.items c.from_vec.result c.in-Ok.table.items c.requires
    (c.from_vec.ensures ∙ c.record_all.ensures ∙ ap (λ l. record_all l c.in-Ok.table.items) c.into_vec-items.ensures)

pub returns-in-Ok-clause-recorded : goal.returns-in-Ok-clause-recorded
returns-in-Ok-clause-recorded c =
    recorded_at c.args.items c.as_slice.result.now c.from_vec.result c.in-Ok.table.items c.requires c.as_slice.ensures
    c.in-Ok.ensures
    (c.from_vec.ensures ∙ c.record_all.ensures ∙ ap (λ l. record_all l c.in-Ok.table.items) c.into_vec-items.ensures)

pub returns-in-Ok-clause-as_many : goal.returns-in-Ok-clause-as_many
returns-in-Ok-clause-as_many c =
    as_many_at c.args.items c.as_slice.result.now c.from_vec.result c.in-Ok.table.items c.as_slice.ensures c.in-Ok.ensures
    (c.from_vec.ensures ∙ c.record_all.ensures ∙ ap (λ l. record_all l c.in-Ok.table.items) c.into_vec-items.ensures)
