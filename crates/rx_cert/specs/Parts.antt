-- What private functions answer: of the lines of one function and of all, and of the rules that their sets keep.
use Rattle.std.specs.Prelude.{◌≡◌, ℕ, ◌+◌, List, Option, Some, None, Result, Ok, Err}
use Rattle.rx_core.specs.declared.types.Bound.{Bound}
use Rattle.rx_typed.specs.declared.declarations.Decl.{Decl}
use Rattle.rx_parse.specs.declared.fault.SyntaxFault.{SyntaxFault}
use Rattle.rx_parse.specs.declared.fault.SyntaxFault.TheVariants as syntax
use Rattle.rx_typeck_typed.specs.declared.typed.Typed.{Typed}
use Rattle.rx_typeck_typed.specs.declared.typed.TypedFn.{TypedFn}
use Rattle.rx_check.specs.Contexts.{AreAsked}
use Rattle.rx_check.specs.declared.fault.CheckFault.{CheckFault}
use Rattle.rx_check.specs.declared.fault.CheckFault.TheVariants as check
use Rattle.rx_cert_lines.specs.declared.line.Line.{Line}
use Rattle.rx_cert_tables.specs.declared.shape.Shape.{Shape}
use Rattle.rx_cert_tables.specs.Fitting.{count}
use Rattle.rx_cert_tables.specs.Fitting as lines
use Rattle.rx_cert.specs.Shapes.{shape_of, Fitting, Unfit}
use Rattle.rx_cert.specs.Sets.{GoodOf, BrokenOf, AllGood, FirstRule}
use Rattle.rx_cert.specs.declared.fault.VerifyFault.{VerifyFault}
use Rattle.rx_cert.specs.declared.fault.VerifyFault.TheVariants as fault

-- want of memory in a pass is that of the whole
abbrev pub of_text : SyntaxFault → VerifyFault
of_text syntax.OutOfMemory = fault.OutOfMemory
of_text e = fault.Text e

abbrev pub of_front : CheckFault → VerifyFault
of_front check.OutOfMemory = fault.OutOfMemory
of_front e = fault.Front e

-- of a function by its shape, by the lines from this one on: how many are its
abbrev pub FitsBy : Shape → List Line → ℕ → Result ℕ VerifyFault → Type 0
FitsBy s ls at (Ok n) = (n ≡ count s) × lines.AllFit s ls
FitsBy s ls at (Err (fault.Form n)) = (k : ℕ) × lines.IsMisfit s ls k × (n ≡ at + k + 1)
FitsBy s ls at (Err fault.OutOfMemory) = Unit {0}
FitsBy s ls at (Err e) = ⊥

abbrev pub FitsOne : List Decl → TypedFn → List Line → ℕ → Result ℕ VerifyFault → Type 0
FitsOne D f ls at r = FitsBy (shape_of D f) ls at r

-- of all functions
abbrev pub AllFit : Typed → List Line → Result (Unit {0}) VerifyFault → Type 0
AllFit t ls (Ok u) = Fitting t ls
AllFit t ls (Err (fault.Form n)) = (k : ℕ) × Unfit t ls k × (n ≡ k + 1)
AllFit t ls (Err fault.OutOfMemory) = Unit {0}
AllFit t ls (Err e) = ⊥

-- of the sets of a function, by its lines
abbrev pub JudgesOf : List Decl → (ℕ → List Bound) → TypedFn → List Line → Option ℕ → Type 0
JudgesOf D P f ls None = GoodOf D P f ls
JudgesOf D P f ls (Some r) = BrokenOf D P f ls r

abbrev pub KeepsOne : List Decl → (ℕ → List Bound) → TypedFn → List Line → Result ℕ VerifyFault → Type 0
KeepsOne D P f ls (Ok n) = (n ≡ count (shape_of D f)) × GoodOf D P f ls
KeepsOne D P f ls (Err (fault.Rule i r)) = (i ≡ f.item) × BrokenOf D P f ls r
KeepsOne D P f ls (Err fault.OutOfMemory) = Unit {0}
KeepsOne D P f ls (Err e) = ⊥

-- of the sets of all functions, by these pairs
abbrev pub KeepsEach : List Decl → (ℕ → List Bound) → List TypedFn → List Line → Result (Unit {0}) VerifyFault → Type 0
KeepsEach D P fs ls (Ok u) = AllGood D P fs ls
KeepsEach D P fs ls (Err (fault.Rule i r)) = FirstRule D P i r fs ls
KeepsEach D P fs ls (Err fault.OutOfMemory) = Unit {0}
KeepsEach D P fs ls (Err e) = ⊥

-- by pairs that are those of what is declared
abbrev pub KeepsAll : Typed → List Line → Result (Unit {0}) VerifyFault → Type 0
KeepsAll t ls (Ok u) = (P : ℕ → List Bound) × AreAsked t.decls.items P × AllGood t.decls.items P t.functions ls
KeepsAll t ls (Err (fault.Rule i r)) = (P : ℕ → List Bound) × AreAsked t.decls.items P × FirstRule t.decls.items P i r t.functions ls
KeepsAll t ls (Err fault.OutOfMemory) = Unit {0}
KeepsAll t ls (Err e) = ⊥

-- of the lines of a program that passed
abbrev pub OfPassed : Typed → List Line → Result (Unit {0}) VerifyFault → Type 0
OfPassed t ls (Ok u) = Fitting t ls × KeepsAll t ls (Ok u)
OfPassed t ls (Err (fault.Form n)) = (k : ℕ) × Unfit t ls k × (n ≡ k + 1)
OfPassed t ls (Err (fault.Rule i r)) = Fitting t ls × KeepsAll t ls (Err (fault.Rule i r))
OfPassed t ls (Err fault.OutOfMemory) = Unit {0}
OfPassed t ls (Err e) = ⊥
