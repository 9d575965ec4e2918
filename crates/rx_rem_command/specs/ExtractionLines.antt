-- The line of each refusal of an extraction, and of each fault of it.
use Rattle.std.specs.Prelude.{ℕ, List, [], ◌∷◌, codes}
use Rattle.rx_core.specs.declared.types.Which.{Which}
use Rattle.rx_core.specs.declared.types.Which.TheVariants.{Parameters, Lifetimes, Levels, Parts, Sites, Positions, Bytes}
use Rattle.rx_tree.specs.Plain.{ProgramTree}
use Rattle.rx_engine_extraction.specs.declared.refusal.Refusal.{Refusal}
use Rattle.rx_engine_extraction.specs.declared.refusal.Refusal.TheVariants as refusal
use Rattle.rx_engine_extraction.specs.declared.refusal.Fault.{Fault}
use Rattle.rx_engine_extraction.specs.declared.refusal.Fault.TheVariants as fault
use Rattle.rx_rem_command.specs.declared.status.Status.{Status}
use Rattle.rx_rem_command.specs.declared.status.Status.TheVariants.{Refused, OutOfMemory}
use Rattle.rx_rem_command.specs.Lines.{line_of, with_numbers, with_span, syntax_line, syntax_status}
use Rattle.rx_rem_command.specs.CheckLines.{line_of_check, status_of_check}

-- the limit that is passed
abbrev pub which_words : Which → List ℕ
which_words Parameters = codes "Refused Limit Parameters"
which_words Lifetimes = codes "Refused Limit Lifetimes"
which_words Levels = codes "Refused Limit Levels"
which_words Parts = codes "Refused Limit Parts"
which_words Sites = codes "Refused Limit Sites"
which_words Positions = codes "Refused Limit Positions"
which_words Bytes = codes "Refused Limit Bytes"

-- the first condition that is not met
abbrev pub line_of_refusal : Refusal → List ℕ
line_of_refusal refusal.NotARun = line_of (codes "Refused NotARun")
line_of_refusal refusal.BadName = line_of (codes "Refused BadName")
line_of_refusal refusal.NameTaken = line_of (codes "Refused NameTaken")
line_of_refusal (refusal.Unreachable at) = line_of (with_span (codes "Refused Unreachable") at)
line_of_refusal refusal.Endless = line_of (codes "Refused Endless")
line_of_refusal (refusal.MixedInit var) = line_of (with_span (codes "Refused MixedInit") var)
line_of_refusal (refusal.PartlyMoved var) = line_of (with_span (codes "Refused PartlyMoved") var)
line_of_refusal (refusal.Shadowed var) = line_of (with_span (codes "Refused Shadowed") var)
line_of_refusal (refusal.NotMut var) = line_of (with_span (codes "Refused NotMut") var)
line_of_refusal (refusal.Aliased var) = line_of (with_span (codes "Refused Aliased") var)
line_of_refusal (refusal.Limit which count) = line_of (with_numbers (which_words which) (count ∷ []))
line_of_refusal (refusal.Unfit f) = line_of (codes "Refused Unfit")
line_of_refusal (refusal.Region f l s) = line_of (with_numbers (codes "Refused Region") (f ∷ l ∷ s ∷ []))
line_of_refusal (refusal.Loan b a) = line_of (with_numbers (codes "Refused Loan") (b.start ∷ b.end ∷ a.start ∷ a.end ∷ []))
line_of_refusal refusal.Unconfirmed = line_of (codes "Refused Unconfirmed")

-- of a text with this program
abbrev pub line_of_extraction : ProgramTree → Fault → List ℕ
line_of_extraction p (fault.Syntax f) = syntax_line f
line_of_extraction p (fault.NotAccepted f) = line_of_check p f
line_of_extraction p (fault.Refused r) = line_of_refusal r
line_of_extraction p fault.OutOfMemory = line_of (codes "OutOfMemory")

abbrev pub status_of_extraction : Fault → Status
status_of_extraction (fault.Syntax f) = syntax_status f
status_of_extraction (fault.NotAccepted f) = status_of_check f
status_of_extraction (fault.Refused r) = Refused
status_of_extraction fault.OutOfMemory = OutOfMemory
