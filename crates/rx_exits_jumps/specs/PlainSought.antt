-- What is sought and found, as it stands for that of the code.
use Rattle.std.specs.Prelude.{map}
use Rattle.rx_exits_plan.specs.PlainPlan.{plain-Run}
use Rattle.rx_exits_jumps.specs.declared.sought.Sought as code
use Rattle.rx_exits_jumps.specs.declared.sought.Found as found
use Rattle.rx_exits_plan.specs.PlainSyntax.{plain-Home, plain-Jump}
use Rattle.rx_exits_jumps.specs.Seen.{Sought, the_run, ways_out, Found}

abbrev pub plain-Sought : code.Sought → Sought
plain-Sought (code.TheVariants.Blocks r) = the_run (plain-Run r)
plain-Sought (code.TheVariants.Jumps l) = ways_out l.now

abbrev pub plain-Found : found.Found → Found
plain-Found f = record { homes = map plain-Home f.homes; jumps = map plain-Jump f.jumps }
