use Rattle.std.proofs.Common.{false}
use Rattle.rx_engine_simulation.specs.Openings.{no_openings}
use Rattle.rx_engine_typing.proofs.Whole.{known_before_alike}
use Rattle.rx_engine_typing.proofs.laws.functions_with_types_known_before_have_like_trees.Goals as goal

pub returns : goal.returns
returns c r loops apart loops_apart D A T a fields f g h scoped met = known_before_alike r loops D A T a fields no_openings (record { turns = 0; strays = false }) apart loops_apart f g h scoped met
