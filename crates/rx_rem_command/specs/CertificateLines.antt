-- The line of each fault of a certificate that anyone wrote, and of one that has too many bytes.
use Rattle.std.specs.Prelude.{◌≡◌, ℕ, List, [], ◌∷◌, codes}
use Rattle.rx_core.specs.declared.types.Which.TheVariants.{Bytes}
use Rattle.rx_tree.specs.Plain.{ProgramTree}
use Rattle.rx_parse_grammar.specs.grammar.Items.{Parses}
use Rattle.rx_cert_lines.specs.declared.line.Line.{Line}
use Rattle.rx_cert_lines.specs.Certificates.{IsCertificate}
use Rattle.rx_cert.specs.declared.fault.VerifyFault.{VerifyFault}
use Rattle.rx_cert.specs.declared.fault.VerifyFault.TheVariants as fault
use Rattle.rx_rem_command.specs.Lines.{line_of, with_numbers, syntax_line}
use Rattle.rx_rem_command.specs.CheckLines.{line_of_check}
use Rattle.rx_rem_command.specs.ExtractionLines.{which_words}

-- so many bytes are too many
abbrev pub large_line : ℕ → List ℕ
large_line n = line_of (with_numbers (which_words Bytes) (n ∷ []))

-- a line of the certificate, and a rule that the sets of a function break
abbrev pub form_line : ℕ → List ℕ
form_line n = line_of (with_numbers (codes "NotAccepted Form") (n ∷ []))

abbrev pub rule_line : ℕ → ℕ → List ℕ
rule_line i r = line_of (with_numbers (codes "NotAccepted Rule") (i ∷ r ∷ []))

-- the text behind the line `text` of a certificate is this program
pub record IsProgramOf (bytes : List ℕ) (p : ProgramTree) : Type 0 where
  pub lines : List Line
  pub text : List ℕ
  pub certificate : IsCertificate lines text bytes
  pub parses : Parses text p

-- the line says this fault of the bytes; those of their text as a check says them
abbrev pub SaysFault : List ℕ → VerifyFault → List ℕ → Type 0
SaysFault bytes (fault.Form n) line = line ≡ form_line n
SaysFault bytes (fault.Text e) line = line ≡ syntax_line e
SaysFault bytes (fault.Front e) line = (p : ProgramTree) × IsProgramOf bytes p × (line ≡ line_of_check p e)
SaysFault bytes (fault.Rule i r) line = line ≡ rule_line i r
SaysFault bytes fault.OutOfMemory line = ⊥
