-- What is answered of lines, of a text and of bytes, by what the parts answer.
use Rattle.std.proofs.Common.{◌≡◌, ℕ, List, Result, Ok, Err, MatchResult, inr}
use Rattle.std.specs.Prelude.{◌≢◌, IfErr}
use Rattle.rx_core.specs.declared.types.Bound.{Bound}
use Rattle.rx_tree.specs.Plain.{ProgramTree}
use Rattle.rx_parse_grammar.specs.grammar.Items.{Parses}
use Rattle.rx_parse.specs.Answer.{IsCause}
use Rattle.rx_parse.specs.declared.fault.SyntaxFault.{SyntaxFault}
use Rattle.rx_parse.specs.declared.fault.SyntaxFault.TheVariants as syntax
use Rattle.rx_typeck_typed.specs.declared.typed.Typed.{Typed}
use Rattle.rx_check.specs.Contexts.{AreAsked}
use Rattle.rx_check.specs.Causes.{PassCauses}
use Rattle.rx_check.specs.Passes.{IsFront}
use Rattle.rx_check.specs.declared.fault.CheckFault.{CheckFault}
use Rattle.rx_check.specs.declared.fault.CheckFault.TheVariants as check
use Rattle.rx_cert_lines.specs.declared.line.Line.{Line}
use Rattle.rx_cert_lines.specs.Certificates.{IsCertificate}
use Rattle.rx_cert.specs.Shapes.{Fitting}
use Rattle.rx_cert.specs.Parts.{of_text, of_front, AllFit, KeepsEach, KeepsAll, OfPassed}
use Rattle.rx_cert.specs.Verified.{IsGood, Faults, IsVerified, VerifyCauses}
use Rattle.rx_cert.specs.declared.fault.VerifyFault.{VerifyFault}
use Rattle.rx_cert.specs.declared.fault.VerifyFault.TheVariants as fault
use Rattle.rx_cert.proofs.Excluding.{only_memory}

pub keeps_by : (t : Typed) (P : ℕ → List Bound) (ls : List Line) → AreAsked t.decls.items P → (r : Result (Unit {0}) VerifyFault)
    → KeepsEach t.decls.items P t.functions ls r → KeepsAll t ls r
keeps_by t P ls asked (Ok u) h = (P, asked, h)
keeps_by t P ls asked (Err (fault.Form n)) h = h
keeps_by t P ls asked (Err (fault.Text s)) h = h
keeps_by t P ls asked (Err (fault.Front s)) h = h
keeps_by t P ls asked (Err (fault.Rule i k)) h = (P, asked, h)
keeps_by t P ls asked (Err fault.OutOfMemory) h = tt

pub passed_keeps : (t : Typed) (ls : List Line) (r : Result (Unit {0}) VerifyFault) → Fitting t ls → KeepsAll t ls r → OfPassed t ls r
passed_keeps t ls (Ok u) fit h = (fit, h)
passed_keeps t ls (Err (fault.Form n)) fit h = absurd h
passed_keeps t ls (Err (fault.Text s)) fit h = h
passed_keeps t ls (Err (fault.Front s)) fit h = h
passed_keeps t ls (Err (fault.Rule i k)) fit h = (fit, h)
passed_keeps t ls (Err fault.OutOfMemory) fit h = tt

pub passed_fits : (t : Typed) (ls : List Line) (e : VerifyFault) → AllFit t ls (Err e) → OfPassed t ls (Err e)
passed_fits t ls (fault.Form n) h = h
passed_fits t ls (fault.Text s) h = h
passed_fits t ls (fault.Front s) h = h
passed_fits t ls (fault.Rule i k) h = absurd h
passed_fits t ls fault.OutOfMemory h = tt

abbrev pub Answers : List Line → List ℕ → Result (Unit {0}) VerifyFault → Type 0
Answers ls text r = MatchResult r (λ _. IsGood ls text) (λ e. Faults e ls text)

pub of_passed : (text : List ℕ) (p : ProgramTree) (t : Typed) (ls : List Line) → Parses text p → IsFront p t → (r : Result (Unit {0}) VerifyFault)
    → OfPassed t ls r → Answers ls text r
of_passed text p t ls parses front (Ok u) h = record {
  fronts = record { program = p; parses = parses; typed = t; front = front };
  fit = h.0;
  implied = h.1.0;
  asked = h.1.1;
  good = h.1.2;
}
of_passed text p t ls parses front (Err (fault.Form n)) h = record {
  fronts = record { program = p; parses = parses; typed = t; front = front };
  place = h.0;
  unfit = h.1;
  number = h.2;
}
of_passed text p t ls parses front (Err (fault.Text s)) h = absurd h
of_passed text p t ls parses front (Err (fault.Front s)) h = absurd h
of_passed text p t ls parses front (Err (fault.Rule i k)) h = record {
  fronts = record { program = p; parses = parses; typed = t; front = front };
  fit = h.0;
  implied = h.1.0;
  asked = h.1.1;
  first = h.1.2;
}
of_passed text p t ls parses front (Err fault.OutOfMemory) h = tt

pub front_fault : (text : List ℕ) (p : ProgramTree) (ls : List Line) → Parses text p → (e : CheckFault) → PassCauses e p → Faults (of_front e) ls text
front_fault text p ls parses (check.Name f) h = (λ x. cc, (p, parses, h))
front_fault text p ls parses (check.Types f) h = (λ x. cc, (p, parses, h))
front_fault text p ls parses (check.Cover f) h = (λ x. cc, (p, parses, h))
front_fault text p ls parses (check.Lower f) h = (λ x. cc, (p, parses, h))
front_fault text p ls parses (check.Init f) h = (λ x. cc, (p, parses, h))
front_fault text p ls parses (check.Region i l k) h = absurd h
front_fault text p ls parses (check.Loan f) h = absurd h
front_fault text p ls parses check.OutOfMemory h = tt

pub text_fault : (text : List ℕ) (ls : List Line) (e : SyntaxFault) → IsCause e text → Faults (of_text e) ls text
text_fault text ls (syntax.Lex f) h = (λ x. cc, h)
text_fault text ls (syntax.Syntax at) h = (λ x. cc, h)
text_fault text ls (syntax.TooDeep at) h = (λ x. cc, h)
text_fault text ls syntax.OutOfMemory h = tt

pub of_certificate : (bytes text : List ℕ) (ls : List Line) → IsCertificate ls text bytes → (r : Result (Unit {0}) VerifyFault) → Answers ls text r
    → MatchResult r (λ _. IsVerified bytes) (λ e. VerifyCauses e bytes)
of_certificate bytes text ls is (Ok u) h = record { lines = ls; text = text; certificate = is; good = h }
of_certificate bytes text ls is (Err (fault.Form n)) h = inr (record { lines = ls; text = text; certificate = is; cause = h })
of_certificate bytes text ls is (Err (fault.Text s)) h = record { lines = ls; text = text; certificate = is; cause = h }
of_certificate bytes text ls is (Err (fault.Front s)) h = record { lines = ls; text = text; certificate = is; cause = h }
of_certificate bytes text ls is (Err (fault.Rule i k)) h = record { lines = ls; text = text; certificate = is; cause = h }
of_certificate bytes text ls is (Err fault.OutOfMemory) h = tt

pub complete_by : (bytes : List ℕ) → ((e : VerifyFault) → e ≢ fault.OutOfMemory → IsVerified bytes → VerifyCauses e bytes → ⊥)
    → (r : Result (Unit {0}) VerifyFault) → MatchResult r (λ _. IsVerified bytes) (λ e. VerifyCauses e bytes) → IsVerified bytes
    → IfErr r (λ e. e ≡ fault.OutOfMemory)
complete_by bytes law (Ok u) h v = tt
complete_by bytes law (Err e) h v = only_memory e (λ told. law e told v h)
