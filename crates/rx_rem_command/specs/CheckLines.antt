-- The line of each fault of the check of the whole language.
use Rattle.std.specs.Prelude.{ℕ, List, [], ◌∷◌, ◌++◌, codes}
use Rattle.rx_tree.specs.Plain.{ProgramTree}
use Rattle.rx_resolve_names.specs.declared.resolved.NameFault.{NameFault}
use Rattle.rx_resolve_names.specs.declared.resolved.NameFault.TheVariants as name
use Rattle.rx_typeck_solver.specs.declared.facts.Rule.{Rule}
use Rattle.rx_typeck_typed.specs.declared.typed.TypeFault.{TypeFault}
use Rattle.rx_typeck_typed.specs.declared.typed.TypeFault.TheVariants as type
use Rattle.rx_cover.specs.declared.covering.CoverFault.{CoverFault}
use Rattle.rx_cover.specs.declared.covering.CoverFault.TheVariants as cover
use Rattle.rx_cover.specs.PlainValue.{plain-Value}
use Rattle.rx_cover_values.specs.Shown.{shown}
use Rattle.rx_lower_lifetimes.specs.declared.whole.LowerFault.{LowerFault}
use Rattle.rx_lower_lifetimes.specs.declared.whole.LowerFault.TheVariants as lower
use Rattle.rx_facts.specs.declared.fault.InitFault.{InitFault}
use Rattle.rx_facts.specs.declared.fault.InitFault.TheVariants as init
use Rattle.rx_check.specs.declared.loans.LoanFault.{LoanFault}
use Rattle.rx_check.specs.declared.loans.LoanFault.TheVariants as loan
use Rattle.rx_check.specs.declared.fault.CheckFault.{CheckFault}
use Rattle.rx_check.specs.declared.fault.CheckFault.TheVariants as check
use Rattle.rx_rem_command.specs.declared.status.Status.{Status}
use Rattle.rx_rem_command.specs.declared.status.Status.TheVariants.{NotAccepted, OutOfMemory}
use Rattle.rx_rem_command.specs.Lines.{line_of, with_numbers, with_span}

-- the rule that a node breaks
abbrev pub rule_of : Rule → List ℕ
rule_of Rule.Equal = codes " Equal"
rule_of Rule.KindOf = codes " KindOf"
rule_of Rule.Count = codes " Count"
rule_of Rule.Fields = codes " Fields"
rule_of Rule.NotPlace = codes " NotPlace"
rule_of Rule.NotFunction = codes " NotFunction"
rule_of Rule.CopyOf = codes " CopyOf"
rule_of Rule.Unused = codes " Unused"
rule_of Rule.MoveOut = codes " MoveOut"
rule_of Rule.Main = codes " Main"
rule_of Rule.Unclear = codes " Unclear"
rule_of Rule.Parts = codes " Parts"
rule_of Rule.Lifetimes = codes " Lifetimes"
rule_of Rule.PatternOf = codes " PatternOf"

abbrev pub line_of_name : NameFault → List ℕ
line_of_name (name.Unknown at) = line_of (with_span (codes "NotAccepted Unknown") at)
line_of_name (name.Twice first second) = line_of (with_numbers (codes "NotAccepted Twice") (first.start ∷ first.end ∷ second.start ∷ second.end ∷ []))
line_of_name (name.Label at) = line_of (with_span (codes "NotAccepted Label") at)
line_of_name (name.SelfHolding at) = line_of (with_span (codes "NotAccepted SelfHolding") at)
line_of_name name.OutOfMemory = line_of (codes "OutOfMemory")

abbrev pub line_of_types : TypeFault → List ℕ
line_of_types (type.Mismatch at rule) = line_of (with_span (codes "NotAccepted Mismatch") at ++ rule_of rule)
line_of_types (type.Mutability at var) = line_of (with_numbers (codes "NotAccepted Mutability") (at.start ∷ at.end ∷ var.start ∷ var.end ∷ []))
line_of_types (type.Literal at) = line_of (with_span (codes "NotAccepted Literal") at)
line_of_types (type.Elision at) = line_of (with_span (codes "NotAccepted Elision") at)
line_of_types type.OutOfMemory = line_of (codes "OutOfMemory")

-- a value is written as the expression that makes it, with the names of the program
abbrev pub line_of_cover : ProgramTree → CoverFault → List ℕ
line_of_cover p (cover.Missing at v) = line_of (with_span (codes "NotAccepted Missing") at ++ (codes " " ++ shown p (plain-Value v)))
line_of_cover p (cover.TooWide at n) = line_of (with_numbers (codes "NotAccepted TooWide") (at.start ∷ at.end ∷ n ∷ []))
line_of_cover p cover.OutOfMemory = line_of (codes "OutOfMemory")

abbrev pub line_of_lower : LowerFault → List ℕ
line_of_lower (lower.TooLarge f s n) = line_of (with_numbers (codes "NotAccepted TooLarge") (f ∷ s ∷ n ∷ []))
line_of_lower lower.OutOfMemory = line_of (codes "OutOfMemory")

abbrev pub line_of_init : InitFault → List ℕ
line_of_init (init.Unset at q) = line_of (with_span (codes "NotAccepted Unset") at)
line_of_init (init.Again at v) = line_of (with_numbers (codes "NotAccepted Again") (at.start ∷ at.end ∷ v.start ∷ v.end ∷ []))
line_of_init init.OutOfMemory = line_of (codes "OutOfMemory")

abbrev pub line_of_loan : LoanFault → List ℕ
line_of_loan (loan.Loan b a) = line_of (with_numbers (codes "NotAccepted Loan") (b.start ∷ b.end ∷ a.start ∷ a.end ∷ []))
line_of_loan loan.OutOfMemory = line_of (codes "OutOfMemory")

-- the line of a fault of a program
abbrev pub line_of_check : ProgramTree → CheckFault → List ℕ
line_of_check p (check.Name f) = line_of_name f
line_of_check p (check.Types f) = line_of_types f
line_of_check p (check.Cover f) = line_of_cover p f
line_of_check p (check.Lower f) = line_of_lower f
line_of_check p (check.Init f) = line_of_init f
line_of_check p (check.Region i l k) = line_of (with_numbers (codes "NotAccepted Region") (i ∷ l ∷ k ∷ []))
line_of_check p (check.Loan f) = line_of_loan f
line_of_check p check.OutOfMemory = line_of (codes "OutOfMemory")

abbrev pub status_of_check : CheckFault → Status
status_of_check check.OutOfMemory = OutOfMemory
status_of_check _ = NotAccepted
