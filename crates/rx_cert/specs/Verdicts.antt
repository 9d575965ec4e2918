-- Two faults of the same bytes are of one test: those of lines are one line, and those of rules one function and rule; those of the text's
-- form are two causes of one text, and those of a pass are of one pass.
use Rattle.std.specs.Prelude.{◌≡◌}
use Rattle.rx_check.specs.Causes as check
use Rattle.rx_cert.specs.declared.fault.VerifyFault.{VerifyFault}
use Rattle.rx_cert.specs.declared.fault.VerifyFault.TheVariants as fault

abbrev pub AreOne : VerifyFault → VerifyFault → Type 0
AreOne (fault.Form m) (fault.Form n) = m ≡ n
AreOne (fault.Text e) (fault.Text f) = Unit {0}
AreOne (fault.Front e) (fault.Front f) = check.AreOne e f
AreOne (fault.Rule i r) (fault.Rule j s) = (i ≡ j) × (r ≡ s)
AreOne _ _ = ⊥
