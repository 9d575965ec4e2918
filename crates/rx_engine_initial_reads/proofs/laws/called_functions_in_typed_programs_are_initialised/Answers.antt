use Rattle.rx_typed.specs.PlainTypes.{declarations}
use Rattle.rx_lower_walks.specs.Orders.{order_body}
use Rattle.rx_engine_related.proofs.Bare.{no_marks}
use Rattle.rx_engine_initial_reads.proofs.Programs.{reads_move}
use Rattle.rx_engine_initial_reads.proofs.InPrograms.{called_in_program}
use Rattle.rx_engine_initial_reads.proofs.laws.called_functions_in_typed_programs_are_initialised.Goals as goal

pub returns : goal.returns
returns c = λ t u P Q g f a b A k asked had r alike self reached modes items gain U new special i J N body l s n d bare e.
    called_in_program (declarations t.decls.items) P g (declarations u.decls.items) Q f A k asked had a.sized b.sized
    (reads_move a.program a.names t a.few a.meant a.typed (c.signatures_are_well_formed.ensures a.program a.names t a.few a.meant a.typed)
    (c.sizes_are_sized.ensures a.program a.names a.typed.declared a.typed.sizes a.typed.declares a.typed.is_sizes) (c.all_have_types.ensures a.program a.names t a.typed) P a.sized g a.among)
    (reads_move b.program b.names u b.few b.meant b.typed (c.signatures_are_well_formed.ensures b.program b.names u b.few b.meant b.typed)
    (c.sizes_are_sized.ensures b.program b.names b.typed.declared b.typed.sizes b.typed.declares b.typed.is_sizes) (c.all_have_types.ensures b.program b.names u b.typed) Q b.sized f b.among)
    r alike self reached l s n d (no_marks (order_body body n d) bare.none) e
