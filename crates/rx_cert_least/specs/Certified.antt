-- Why a text gets no certificate: it is none, it isn't accepted, or its certificate is too long.
use Rattle.std.specs.Prelude.{◌≡◌, ◌≢◌, ℕ, ◌<◌, ◌≤◌, List, length, Result, Ok, Err}
use Rattle.rx_core.specs.declared.types.Which.TheVariants as which
use Rattle.rx_tree.specs.Plain.{ProgramTree}
use Rattle.rx_parse_grammar.specs.grammar.Items.{Parses}
use Rattle.rx_parse.specs.Answer.{IsCause}
use Rattle.rx_parse.specs.declared.fault.SyntaxFault.TheVariants as syntax
use Rattle.rx_check.specs.Causes.{Causes}
use Rattle.rx_check.specs.declared.fault.CheckFault.TheVariants as check
use Rattle.rx_cert_least.specs.Least.{IsCertificateOf}
use Rattle.rx_cert_least.specs.declared.fault.CertifyFault.{CertifyFault}
use Rattle.rx_cert_least.specs.declared.fault.CertifyFault.TheVariants as fault

abbrev pub most_bytes : ℕ
most_bytes = 16777216

abbrev pub CertifyCauses : CertifyFault → List ℕ → Type 0
CertifyCauses (fault.Syntax e) text = (e ≢ syntax.OutOfMemory) × IsCause e text
CertifyCauses (fault.NotAccepted e) text = (e ≢ check.OutOfMemory) × ((p : ProgramTree) × Parses text p × Causes e p)
CertifyCauses (fault.Limit w n) text = (w ≡ which.Bytes) × ((bytes : List ℕ) × IsCertificateOf text bytes × (n ≡ length bytes) × (most_bytes < n))
CertifyCauses fault.OutOfMemory text = Unit {0}

-- the certificate of the text, within the limit, or why there is none
abbrev pub Answers : List ℕ → Result (List ℕ) CertifyFault → Type 0
Answers text (Ok bytes) = IsCertificateOf text bytes × (length bytes ≤ most_bytes)
Answers text (Err e) = CertifyCauses e text

-- ---- what private functions do

-- bytes that are too many
abbrev pub IsLimit : List ℕ → CertifyFault → Type 0
IsLimit bytes (fault.Limit w n) = (w ≡ which.Bytes) × (n ≡ length bytes) × (most_bytes < n)
IsLimit bytes e = ⊥
