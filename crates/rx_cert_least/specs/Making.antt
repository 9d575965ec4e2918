-- What private functions make and answer.
use Rattle.std.specs.Prelude.{◌≡◌, ℕ, ◌++◌, List}
use Rattle.rx_core.specs.declared.types.Bound.{Bound}
use Rattle.rx_typed.specs.declared.declarations.Decl.{Decl}
use Rattle.rx_graph.specs.Tables.{at}
use Rattle.rx_lower_walks.specs.Graph.{Site}
use Rattle.rx_parse.specs.declared.fault.SyntaxFault.{SyntaxFault}
use Rattle.rx_parse.specs.declared.fault.SyntaxFault.TheVariants as syntax
use Rattle.rx_region.specs.Constraints.{Context}
use Rattle.rx_region.specs.Solutions.{AreLeast}
use Rattle.rx_region.specs.Tables.{sets_of}
use Rattle.rx_region.specs.declared.regions.Regions.{Regions}
use Rattle.rx_loan.specs.declared.table.LoanTable.{LoanTable}
use Rattle.rx_typeck_typed.specs.declared.typed.TypedFn.{TypedFn}
use Rattle.rx_check.specs.declared.fault.CheckFault.{CheckFault}
use Rattle.rx_check.specs.declared.fault.CheckFault.TheVariants as check
use Rattle.rx_cert_lines.specs.declared.line.Line.{Line}
use Rattle.rx_cert_lines.specs.Certificates.{lines_text}
use Rattle.rx_cert_rules.specs.Verdicts.{AreScopes}
use Rattle.rx_cert_least.specs.Least.{LeastLines, AllLeast}
use Rattle.rx_cert_least.specs.declared.fault.CertifyFault.{CertifyFault}
use Rattle.rx_cert_least.specs.declared.fault.CertifyFault.TheVariants as fault

-- want of memory in a pass is that of the whole
abbrev pub of_text : SyntaxFault → CertifyFault
of_text syntax.OutOfMemory = fault.OutOfMemory
of_text e = fault.Syntax e

abbrev pub of_check : CheckFault → CertifyFault
of_check check.OutOfMemory = fault.OutOfMemory
of_check e = fault.NotAccepted e

-- the least sets of a function, and its loans
pub record AreLeastOf (C : Context) (g : List Site) (r : Regions) (t : LoanTable) : Type 0 where
  pub least : AreLeast C g (sets_of r)
  pub in_scope : AreScopes C g (sets_of r) (at t.rows.items)

-- the lines of a function, of all, are added to a text
abbrev pub AddsOne : List Decl → (ℕ → List Bound) → TypedFn → List ℕ → List ℕ → Type 0
AddsOne D P f old new = (us : List Line) × LeastLines D P f us × (new ≡ old ++ lines_text us)

abbrev pub AddsAll : List Decl → (ℕ → List Bound) → List TypedFn → List ℕ → List ℕ → Type 0
AddsAll D P fs old new = (ls : List Line) × AllLeast D P fs ls × (new ≡ old ++ lines_text ls)
