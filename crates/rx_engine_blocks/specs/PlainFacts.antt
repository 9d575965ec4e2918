-- Facts that are about these subjects and nodes alone.
use Rattle.std.specs.Prelude.{Bool, true, ◌&&◌}
use Rattle.rx_typeck_solver.specs.declared.facts.Fact.{Fact}
use Rattle.rx_typeck_solver.specs.declared.facts.Fact.TheVariants as fact
use Rattle.rx_typeck_solver.specs.Ordered.{Knowing, all_known}

abbrev pub plain_fact : Knowing → Fact → Bool
plain_fact P (fact.Equals x o xs ps) = P x && all_known P xs
plain_fact P (fact.Integer n s) = true
plain_fact P (fact.IntegerBehind n s) = true
plain_fact P (fact.Passes t xs ps qs) = all_known P xs
plain_fact P fact.Never = true
