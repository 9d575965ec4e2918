-- Of certificates: what is found where one is asked for or read; and that the certificate is the defined answer, and `accepted` where the bytes
-- are verified.
use Rattle.std.specs.Prelude.{codes}
use Rattle.std.proofs.Common.{ℕ, ◌≡◌, ◌<◌, ◌≤◌, List, [], ◌∷◌, length, Option, Some, Result, Ok, Err, inl, inr, refl, sym, subst}
use Rattle.rx_core.specs.declared.types.Which.{Which}
use Rattle.rx_tree.specs.Plain.{ProgramTree}
use Rattle.rx_lex.specs.declared.lexer.LexFault.TheVariants as lex
use Rattle.rx_parse_grammar.specs.grammar.Items.{Parses}
use Rattle.rx_parse.specs.declared.fault.SyntaxFault.{SyntaxFault}
use Rattle.rx_parse.specs.declared.fault.SyntaxFault.TheVariants as syntax
use Rattle.rx_parse.specs.Answer.{IsCause}
use Rattle.rx_check.specs.declared.fault.CheckFault.{CheckFault}
use Rattle.rx_check.specs.declared.fault.CheckFault.TheVariants as check
use Rattle.rx_check.specs.Causes.{Causes}
use Rattle.rx_cert_lines.specs.declared.line.Line.{Line}
use Rattle.rx_cert_lines.specs.Certificates.{IsCertificate}
use Rattle.rx_cert_lines.proofs.Wholes.{one_certificate}
use Rattle.rx_cert.specs.declared.fault.VerifyFault.TheVariants as verify
use Rattle.rx_cert.specs.Verified.{IsVerified, VerifyCauses}
use Rattle.rx_cert_least.specs.declared.fault.CertifyFault.{CertifyFault}
use Rattle.rx_cert_least.specs.declared.fault.CertifyFault.TheVariants as certify
use Rattle.rx_cert_least.specs.Certified.{CertifyCauses, Answers}
use Rattle.rx_cert_least.specs.Least.{IsCertificateOf}
use Rattle.rx_rem_command.specs.declared.status.Status.{Status}
use Rattle.rx_rem_command.specs.declared.status.Status.TheVariants.{Done, Refused, NotAccepted, OutOfMemory}
use Rattle.rx_rem_command.specs.CertificateLines.{large_line, form_line, rule_line, IsProgramOf}
use Rattle.rx_rem_command.specs.CheckLines.{line_of_check, status_of_check}
use Rattle.rx_rem_command.specs.ExtractionLines.{which_words}
use Rattle.rx_rem_command.specs.Forms.{Command, certifies, verifies, command_of}
use Rattle.rx_rem_command.specs.Lines.{line_of, with_numbers, syntax_status, syntax_line, status_line}
use Rattle.rx_rem_command.specs.Defined.{Choices, Defined, AnswersTo, IsAccepted, no_program, program, faulty, Certified, uncertified, certified, too_large, Verdict, good, bad}
use Rattle.rx_rem_command.specs.Replies.{Stream, Reports, Refuses, Found, defined, no_room}
use Rattle.rx_rem_command.proofs.CheckLemmas.{unread}

-- ---- what is found

-- a line was written, or that of want of memory
abbrev pub Reported : (Status → List ℕ → List ℕ → Type 0) → Stream → Stream → Status → Type 0
Reported A err err' result = (status : Status) × (errs : List ℕ) × Found A status [] errs × Reports err err' status errs result

pub told : (A : Status → List ℕ → List ℕ → Type 0) (err err' : Stream) (status result : Status) (line : List ℕ) → Found A status [] line
    → Refuses err err' status line result → Reported A err err' result
told A err err' status result line f (inl r) = (status, line, f, r)
told A err err' status result line f (inr r) = (OutOfMemory, status_line OutOfMemory, no_room, r)

-- by the words of the line, and by the program of the text
pub said : (err err' : Stream) (status result : Status) (one two numbers : List ℕ) → one ≡ two → Refuses err err' status (line_of (with_numbers one numbers)) result
    → Refuses err err' status (line_of (with_numbers two numbers)) result
said err err' status result one two numbers e r = subst (λ (w : List ℕ). Refuses err err' status (line_of (with_numbers w numbers)) result) e r

pub said_of : (err err' : Stream) (result : Status) (f : CheckFault) (p q : ProgramTree) → p ≡ q → Refuses err err' (status_of_check f) (line_of_check p f) result
    → Refuses err err' (status_of_check f) (line_of_check q f) result
said_of err err' result f p q e r = subst (λ (x : ProgramTree). Refuses err err' (status_of_check f) (line_of_check x f) result) e r

pub found_unread_certificate : (text : List ℕ) (f : SyntaxFault) → IsCause f text → Found (Certified text) (syntax_status f) [] (syntax_line f)
found_unread_certificate text (syntax.Lex (lex.NotText at)) c = defined (uncertified (no_program (syntax.Lex (lex.NotText at)) (unread text (syntax.Lex (lex.NotText at)) (λ e. cc) c)))
found_unread_certificate text (syntax.Lex (lex.BadToken at)) c = defined (uncertified (no_program (syntax.Lex (lex.BadToken at)) (unread text (syntax.Lex (lex.BadToken at)) (λ e. cc) c)))
found_unread_certificate text (syntax.Lex lex.OutOfMemory) c = absurd (c.0 refl)
found_unread_certificate text (syntax.Syntax at) c = defined (uncertified (no_program (syntax.Syntax at) (unread text (syntax.Syntax at) (λ e. cc) c)))
found_unread_certificate text (syntax.TooDeep at) c = defined (uncertified (no_program (syntax.TooDeep at) (unread text (syntax.TooDeep at) (λ e. cc) c)))
found_unread_certificate text syntax.OutOfMemory c = no_room

pub found_uncertified : (text : List ℕ) (p : ProgramTree) (f : CheckFault) → Parses text p → Causes f p → Found (Certified text) (status_of_check f) [] (line_of_check p f)
found_uncertified text p (check.Name e) x c = defined (uncertified (program p x (faulty (check.Name e) (λ e. cc) c)))
found_uncertified text p (check.Types e) x c = defined (uncertified (program p x (faulty (check.Types e) (λ e. cc) c)))
found_uncertified text p (check.Cover e) x c = defined (uncertified (program p x (faulty (check.Cover e) (λ e. cc) c)))
found_uncertified text p (check.Lower e) x c = defined (uncertified (program p x (faulty (check.Lower e) (λ e. cc) c)))
found_uncertified text p (check.Init e) x c = defined (uncertified (program p x (faulty (check.Init e) (λ e. cc) c)))
found_uncertified text p (check.Region i l k) x c = defined (uncertified (program p x (faulty (check.Region i l k) (λ e. cc) c)))
found_uncertified text p (check.Loan e) x c = defined (uncertified (program p x (faulty (check.Loan e) (λ e. cc) c)))
found_uncertified text p check.OutOfMemory x c = no_room

pub found_large : (text : List ℕ) (w : Which) (n : ℕ) → CertifyCauses (certify.Limit w n) text
    → Found (Certified text) Refused [] (line_of (with_numbers (which_words w) (n ∷ [])))
found_large text w n c = subst (λ (v : Which). Found (Certified text) Refused [] (line_of (with_numbers (which_words v) (n ∷ [])))) (sym c.0)
    (subst (λ m. Found (Certified text) Refused [] (large_line m)) (sym c.1.2)
    (defined (too_large c.1.0 c.1.1 (subst (λ m. 16777216 < m) c.1.2 c.1.3))))

pub found_certificate : (text bytes shown : List ℕ) (r : Result (List ℕ) CertifyFault) → Answers text r → r ≡ Ok bytes → shown ≡ bytes
    → Found (Certified text) Done shown []
found_certificate text bytes shown r h e s = let x = subst (Answers text) e h in
    subst (λ (b : List ℕ). Found (Certified text) Done b []) (sym s) (defined (certified bytes x.0 x.1))

-- a cause of a fault that is answered
pub refused_cause : (text : List ℕ) (e : CertifyFault) (r : Result (List ℕ) CertifyFault) → Answers text r → r ≡ Err e → CertifyCauses e text
refused_cause text e r h is = subst (Answers text) is h

pub found_form : (bytes : List ℕ) (n : ℕ) → VerifyCauses (verify.Form n) bytes → Found (Verdict bytes) NotAccepted [] (form_line n)
found_form bytes n c = defined (bad (verify.Form n) (λ e. cc) c refl)

pub found_rule : (bytes : List ℕ) (i r : ℕ) → VerifyCauses (verify.Rule i r) bytes → Found (Verdict bytes) NotAccepted [] (rule_line i r)
found_rule bytes i r c = defined (bad (verify.Rule i r) (λ e. cc) c refl)

pub found_unread_text : (bytes : List ℕ) (f : SyntaxFault) → VerifyCauses (verify.Text f) bytes → Found (Verdict bytes) (syntax_status f) [] (syntax_line f)
found_unread_text bytes (syntax.Lex (lex.NotText at)) c = defined (bad (verify.Text (syntax.Lex (lex.NotText at))) (λ e. cc) c refl)
found_unread_text bytes (syntax.Lex (lex.BadToken at)) c = defined (bad (verify.Text (syntax.Lex (lex.BadToken at))) (λ e. cc) c refl)
found_unread_text bytes (syntax.Lex lex.OutOfMemory) c = absurd (c.cause.1.0 refl)
found_unread_text bytes (syntax.Syntax at) c = defined (bad (verify.Text (syntax.Syntax at)) (λ e. cc) c refl)
found_unread_text bytes (syntax.TooDeep at) c = defined (bad (verify.Text (syntax.TooDeep at)) (λ e. cc) c refl)
found_unread_text bytes syntax.OutOfMemory c = no_room

-- the text's program has the fault
pub program_of : (bytes : List ℕ) (f : CheckFault) → VerifyCauses (verify.Front f) bytes → (p : ProgramTree) × IsProgramOf bytes p
program_of bytes f c = (
  c.cause.1.0,
  record { lines = c.lines; text = c.text; certificate = c.certificate; parses = c.cause.1.1 },
)

pub found_front : (bytes : List ℕ) (p : ProgramTree) (f : CheckFault) → IsProgramOf bytes p → VerifyCauses (verify.Front f) bytes
    → Found (Verdict bytes) (status_of_check f) [] (line_of_check p f)
found_front bytes p (check.Name e) x c = defined (bad (verify.Front (check.Name e)) (λ e. cc) c (p, x, refl))
found_front bytes p (check.Types e) x c = defined (bad (verify.Front (check.Types e)) (λ e. cc) c (p, x, refl))
found_front bytes p (check.Cover e) x c = defined (bad (verify.Front (check.Cover e)) (λ e. cc) c (p, x, refl))
found_front bytes p (check.Lower e) x c = defined (bad (verify.Front (check.Lower e)) (λ e. cc) c (p, x, refl))
found_front bytes p (check.Init e) x c = defined (bad (verify.Front (check.Init e)) (λ e. cc) c (p, x, refl))
found_front bytes p (check.Region i l k) x c = defined (bad (verify.Front (check.Region i l k)) (λ e. cc) c (p, x, refl))
found_front bytes p (check.Loan e) x c = defined (bad (verify.Front (check.Loan e)) (λ e. cc) c (p, x, refl))
found_front bytes p check.OutOfMemory x c = no_room

-- the text that is read of a certificate is that of its program
pub same_program : (bytes text : List ℕ) (ls : List Line) (p : ProgramTree) → IsCertificate ls text bytes → IsProgramOf bytes p → Parses text p
same_program bytes text ls p c x = subst (λ (t : List ℕ). Parses t p) (one_certificate x.lines ls x.text text bytes x.certificate c).1 x.parses

-- ---- the certificate tells of its text

pub certificate_accepted : (text bytes : List ℕ) → IsCertificateOf text bytes → IsAccepted text
certificate_accepted text bytes x = record { program = x.program; parses = x.parses; accepted = (x.typed, x.accepted) }

-- ---- the defined answer

pub certificate_defined : (C : Choices) (words : List (List ℕ)) (text bytes : List ℕ) → command_of words ≡ Some certifies → IsCertificateOf text bytes
    → length bytes ≤ 16777216 → Defined C words text Done bytes []
certificate_defined C words text bytes e x l = subst (λ (c : Option Command). AnswersTo C c text Done bytes []) (sym e) (certified bytes x l)

abbrev IsWhole : List ℕ → List ℕ → List ℕ → Type 0
IsWhole text out err = IsCertificateOf text out × (length out ≤ 16777216) × (err ≡ [])

done_certified : (text : List ℕ) (s : Status) (out err : List ℕ) → s ≡ Done → Certified text s out err → IsWhole text out err
done_certified text _ out err e (uncertified x) = absurd (cc)
done_certified text _ _ _ e (certified b x l) = (x, l, refl)
done_certified text _ _ _ e (too_large b x l) = absurd (cc)

pub certificate_only : (C : Choices) (words : List (List ℕ)) (text out err : List ℕ) → command_of words ≡ Some certifies → Defined C words text Done out err
    → IsWhole text out err
certificate_only C words text out err e d = done_certified text Done out err refl (subst (λ (c : Option Command). AnswersTo C c text Done out err) e d)

pub verified_defined : (C : Choices) (words : List (List ℕ)) (bytes : List ℕ) → command_of words ≡ Some verifies → IsVerified bytes
    → Defined C words bytes Done (codes "accepted\n") []
verified_defined C words bytes e v = subst (λ (c : Option Command). AnswersTo C c bytes Done (codes "accepted\n") []) (sym e) (good v)

done_verified : (bytes : List ℕ) (s : Status) (out err : List ℕ) → s ≡ Done → Verdict bytes s out err → IsVerified bytes
done_verified bytes _ _ _ e (good v) = v
done_verified bytes _ _ _ e (bad f n c s) = absurd (cc)

pub verified_only : (C : Choices) (words : List (List ℕ)) (bytes out err : List ℕ) → command_of words ≡ Some verifies → Defined C words bytes Done out err
    → IsVerified bytes
verified_only C words bytes out err e d = done_verified bytes Done out err refl (subst (λ (c : Option Command). AnswersTo C c bytes Done out err) e d)
