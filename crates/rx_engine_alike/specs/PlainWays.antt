-- Ways, uses and new variables, as those of the code stand for them.
use Rattle.rx_engine_simulation.specs.Places as places
use Rattle.rx_engine_alike.specs.Ways as ways
use Rattle.rx_engine_alike.specs.Variables as variables
use Rattle.rx_engine_alike.specs.PlainSights.{plain-How}
use Rattle.rx_engine_alike.specs.declared.ways.Way.{Way}
use Rattle.rx_engine_alike.specs.declared.ways.Use.{Use}
use Rattle.rx_engine_alike.specs.declared.variables.Ways.{Ways}

abbrev pub plain-Way : Way → ways.Way
plain-Way Way.Apart = ways.apart
plain-Way Way.FromValue = ways.from_value
plain-Way Way.InFront = ways.in_front
plain-Way (Way.FromVariable h own) = ways.from_variable (plain-How h) own

abbrev pub plain-Use : Use → places.Use
plain-Use Use.Looking = places.looking
plain-Use Use.Sharing = places.sharing
plain-Use Use.Changing = places.changing
plain-Use Use.Writing = places.writing

abbrev pub plain-Ways : Ways → variables.Ways
plain-Ways w = record { elsewhere = w.elsewhere; closed = w.closed }
