use Rattle.rx_engine_initial_reads.proofs.Programs.{reads_move}
use Rattle.rx_engine_initial_reads.proofs.laws.typed_reads_move_by_type.Goals as goal

pub returns : goal.returns
returns c = λ p names t few meant typed P sized f a. reads_move p names t few meant typed (c.signatures_are_well_formed.ensures p names t few meant typed)
    (c.sizes_are_sized.ensures p names typed.declared typed.sizes typed.declares typed.is_sizes) (c.all_have_types.ensures p names t typed) P sized f a
