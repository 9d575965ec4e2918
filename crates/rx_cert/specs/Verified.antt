-- What is answered of a certificate that anyone wrote: it is good for its text, or why it isn't, in the order of the tests.
use Rattle.std.specs.Prelude.{◌≡◌, ◌≢◌, ◌⊎◌, ℕ, ◌+◌, List}
use Rattle.rx_core.specs.declared.types.Bound.{Bound}
use Rattle.rx_tree.specs.Plain.{ProgramTree}
use Rattle.rx_parse_grammar.specs.grammar.Items.{Parses}
use Rattle.rx_parse.specs.Answer.{IsCause}
use Rattle.rx_parse.specs.declared.fault.SyntaxFault.TheVariants as syntax
use Rattle.rx_typeck_typed.specs.declared.typed.Typed.{Typed}
use Rattle.rx_check.specs.Contexts.{AreAsked}
use Rattle.rx_check.specs.Causes.{PassCauses}
use Rattle.rx_check.specs.Passes.{IsFront}
use Rattle.rx_check.specs.declared.fault.CheckFault.TheVariants as check
use Rattle.rx_cert_lines.specs.declared.line.Line.{Line}
use Rattle.rx_cert_lines.specs.Certificates.{IsCertificate, Misread}
use Rattle.rx_cert.specs.Shapes.{Fitting, Unfit}
use Rattle.rx_cert.specs.Sets.{AllGood, FirstRule}
use Rattle.rx_cert.specs.declared.fault.VerifyFault.{VerifyFault}
use Rattle.rx_cert.specs.declared.fault.VerifyFault.TheVariants as fault

-- ---- of lines and a text

-- the text is that of a program which the passes up to initialisation accept
pub record Fronts (text : List ℕ) : Type 0 where
  pub program : ProgramTree
  pub parses : Parses text program
  pub typed : Typed
  pub front : IsFront program typed

-- the lines are those of its functions, and their sets keep the rules
pub record IsGood (ls : List Line) (text : List ℕ) : Type 0 where
  pub fronts : Fronts text
  pub fit : Fitting fronts.typed ls
  pub implied : ℕ → List Bound
  pub asked : AreAsked fronts.typed.decls.items implied
  pub good : AllGood fronts.typed.decls.items implied fronts.typed.functions ls

-- this line, counted from 1, is the first that isn't one of its functions'
pub record IsUnfit (ls : List Line) (text : List ℕ) (n : ℕ) : Type 0 where
  pub fronts : Fronts text
  pub place : ℕ
  pub unfit : Unfit fronts.typed ls place
  pub number : n ≡ place + 1

-- the lines are those of its functions, and this is the first function whose sets break a rule, and the first such rule
pub record BreaksRule (ls : List Line) (text : List ℕ) (i r : ℕ) : Type 0 where
  pub fronts : Fronts text
  pub fit : Fitting fronts.typed ls
  pub implied : ℕ → List Bound
  pub asked : AreAsked fronts.typed.decls.items implied
  pub first : FirstRule fronts.typed.decls.items implied i r fronts.typed.functions ls

-- what a fault says of them
abbrev pub Faults : VerifyFault → List Line → List ℕ → Type 0
Faults (fault.Form n) ls text = IsUnfit ls text n
Faults (fault.Text e) ls text = (e ≢ syntax.OutOfMemory) × IsCause e text
Faults (fault.Front e) ls text = (e ≢ check.OutOfMemory) × ((p : ProgramTree) × Parses text p × PassCauses e p)
Faults (fault.Rule i r) ls text = BreaksRule ls text i r
Faults fault.OutOfMemory ls text = Unit {0}

-- ---- of bytes

-- they are a certificate that is good for its text
pub record IsVerified (bytes : List ℕ) : Type 0 where
  pub lines : List Line
  pub text : List ℕ
  pub certificate : IsCertificate lines text bytes
  pub good : IsGood lines text

-- they are a certificate, of which the fault says this
pub record IsRefused (e : VerifyFault) (bytes : List ℕ) : Type 0 where
  pub lines : List Line
  pub text : List ℕ
  pub certificate : IsCertificate lines text bytes
  pub cause : Faults e lines text

-- what a fault says of bytes
abbrev pub VerifyCauses : VerifyFault → List ℕ → Type 0
VerifyCauses (fault.Form n) bytes = Misread bytes n ⊎ IsRefused (fault.Form n) bytes
VerifyCauses fault.OutOfMemory bytes = Unit {0}
VerifyCauses e bytes = IsRefused e bytes
