use Rattle.rx_tests_passes.proofs.Functions.{first_there}
use Rattle.rx_tests_passes.proofs.sites.lowered.lowered_text.Goals as goal

pub lower-requires : goal.lower-requires
lower-requires c = first_there c.args.typed.now.functions c.in-Some.function.now c.in-Some.ensures.value
