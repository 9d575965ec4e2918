-- The occurrence that one of the code stands for.
use Rattle.rx_exits_plan.specs.Occurrences.{Occurrence, names, declared}
use Rattle.rx_exits_occurrences.specs.declared.occurring.Occurrence as code

abbrev pub plain-Occurrence : code.Occurrence → Occurrence
plain-Occurrence (code.TheVariants.Names x) = names x
plain-Occurrence (code.TheVariants.Declares x) = declared x
