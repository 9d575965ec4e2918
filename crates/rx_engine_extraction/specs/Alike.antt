-- Refusals of one text are one but for what it may show in several places: where a run is not reached, what a pass tells of the program with
-- the call, and which loan is met.
use Rattle.std.specs.Prelude.{◌≡◌}
use Rattle.rx_check.specs.Causes as passes
use Rattle.rx_engine_extraction.specs.declared.refusal.Refusal.{Refusal}
use Rattle.rx_engine_extraction.specs.declared.refusal.Refusal.TheVariants as refusal

-- the same, or two such of one kind; faults of the program with the call are of one pass
abbrev pub AreOne : Refusal → Refusal → Type 0
AreOne (refusal.Unreachable s) (refusal.Unreachable t) = Unit {0}
AreOne (refusal.Unfit e) (refusal.Unfit f) = passes.AreOne e f
AreOne (refusal.Loan a b) (refusal.Loan c d) = Unit {0}
AreOne r q = r ≡ q
