-- What is written of a program is its certificate, or too long.
use Rattle.std.proofs.Common.{◌≡◌, ℕ, ◌≤◌, List, ◌++◌, length, codes, Result, Ok, Err, MatchResult, ap, sym, ◌∙◌, subst}
use Rattle.std.proofs.lemmas.List.{append_assoc}
use Rattle.std.specs.Prelude.{◌∷◌, []}
use Rattle.rx_tree.specs.Plain.{ProgramTree}
use Rattle.rx_parse_grammar.specs.grammar.Items.{Parses}
use Rattle.rx_parse.specs.Answer.{IsCause}
use Rattle.rx_parse.specs.declared.fault.SyntaxFault.{SyntaxFault}
use Rattle.rx_parse.specs.declared.fault.SyntaxFault.TheVariants as syntax
use Rattle.rx_typeck_typed.specs.declared.typed.Typed.{Typed}
use Rattle.rx_check.specs.Causes.{Causes}
use Rattle.rx_check.specs.Passes.{IsAccepted}
use Rattle.rx_check.specs.declared.fault.CheckFault.{CheckFault}
use Rattle.rx_check.specs.declared.fault.CheckFault.TheVariants as check
use Rattle.rx_cert_lines.specs.declared.line.Line.{Line}
use Rattle.rx_cert_lines.specs.Certificates.{lines_text, certificate_text}
use Rattle.rx_cert_least.specs.Least.{IsWritten}
use Rattle.rx_cert_least.specs.Certified.{CertifyCauses, most_bytes, Answers, IsLimit}
use Rattle.rx_cert_least.specs.Making.{of_text, of_check}
use Rattle.rx_cert_least.specs.declared.fault.CertifyFault.{CertifyFault}
use Rattle.rx_cert_least.specs.declared.fault.CertifyFault.TheVariants as fault

pub with_text : (ls : List Line) (text one two three : List ℕ) → one ≡ lines_text ls → two ≡ one ++ (codes "text" ++ 10 ∷ []) → three ≡ two ++ text
    → three ≡ certificate_text ls text
with_text ls text one two three e f g = g ∙ ap (λ t. t ++ text) (f ∙ ap (λ t. t ++ (codes "text" ++ 10 ∷ [])) e)
    ∙ append_assoc (lines_text ls) (codes "text" ++ 10 ∷ []) text

pub limited_by : (text bytes : List ℕ) (p : ProgramTree) (t : Typed) → Parses text p → IsAccepted p t → IsWritten t text bytes
    → (r : Result (List ℕ) CertifyFault) → MatchResult r (λ it. (it ≡ bytes) × (length bytes ≤ most_bytes)) (λ e. IsLimit bytes e) → Answers text r
limited_by text bytes p t parses accepted is (Ok it) h = (
  record { program = p; parses = parses; typed = t; accepted = accepted; is = subst (λ b. IsWritten t text b) (sym h.0) is },
  subst (λ b. length b ≤ most_bytes) (sym h.0) h.1,
)
limited_by text bytes p t parses accepted is (Err (fault.Limit w n)) h =
    (h.0, (bytes, record { program = p; parses = parses; typed = t; accepted = accepted; is = is }, h.1, h.2))
limited_by text bytes p t parses accepted is (Err (fault.Syntax e)) h = absurd h
limited_by text bytes p t parses accepted is (Err (fault.NotAccepted e)) h = absurd h
limited_by text bytes p t parses accepted is (Err fault.OutOfMemory) h = tt

pub check_fault : (text : List ℕ) (p : ProgramTree) → Parses text p → (e : CheckFault) → Causes e p → CertifyCauses (of_check e) text
check_fault text p parses (check.Name f) h = (λ x. cc, (p, parses, h))
check_fault text p parses (check.Types f) h = (λ x. cc, (p, parses, h))
check_fault text p parses (check.Cover f) h = (λ x. cc, (p, parses, h))
check_fault text p parses (check.Lower f) h = (λ x. cc, (p, parses, h))
check_fault text p parses (check.Init f) h = (λ x. cc, (p, parses, h))
check_fault text p parses (check.Region i l k) h = (λ x. cc, (p, parses, h))
check_fault text p parses (check.Loan f) h = (λ x. cc, (p, parses, h))
check_fault text p parses check.OutOfMemory h = tt

pub text_fault : (text : List ℕ) (e : SyntaxFault) → IsCause e text → CertifyCauses (of_text e) text
text_fault text (syntax.Lex f) h = (λ x. cc, h)
text_fault text (syntax.Syntax at) h = (λ x. cc, h)
text_fault text (syntax.TooDeep at) h = (λ x. cc, h)
text_fault text syntax.OutOfMemory h = tt
