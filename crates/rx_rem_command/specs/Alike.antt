-- Where the lines of two defined answers of the same words on the same text may differ: each line says a cause that is true of the text.
use Rattle.std.specs.Prelude.{ℕ, ◌≡◌, ◌⊎◌, List, Option, Some, None}
use Rattle.rx_tree.specs.Plain.{ProgramTree}
use Rattle.rx_parse_grammar.specs.grammar.Items.{Parses}
use Rattle.rx_parse.specs.declared.fault.SyntaxFault.TheVariants as syntax
use Rattle.rx_check.specs.declared.fault.CheckFault.{CheckFault}
use Rattle.rx_check.specs.Causes.{Causes, AreOne}
use Rattle.rx_cert_lines.specs.declared.line.Line.{Line}
use Rattle.rx_cert_lines.specs.Certificates.{IsCertificate}
use Rattle.rx_engine_extraction.specs.declared.refusal.Refusal.{Refusal}
use Rattle.rx_engine_extraction.specs.declared.refusal.Refusal.TheVariants as refusal
use Rattle.rx_engine_extraction.specs.Source.{Wish}
use Rattle.rx_engine_extraction.specs.Verdict.{IsRefused}
use Rattle.rx_rem_generated.specs.Generated.{generated}
use Rattle.rx_rem_command.specs.Forms.{Command, extracts, verifies, generates}
use Rattle.rx_rem_command.specs.Lines.{syntax_line}
use Rattle.rx_rem_command.specs.CheckLines.{line_of_check}
use Rattle.rx_rem_command.specs.ExtractionLines.{line_of_refusal}
use Rattle.rx_rem_command.specs.Defined.{Choices, wish, generated_wish}

-- the line says where the tokens of a text stop, because of their depth or at all
abbrev pub SaysTooDeep : List ℕ → Type 0
SaysTooDeep line = (at : ℕ) × (line ≡ syntax_line (syntax.TooDeep at))

abbrev pub SaysStop : List ℕ → Type 0
SaysStop line = ((at : ℕ) × (line ≡ syntax_line (syntax.Syntax at))) ⊎ SaysTooDeep line

-- two lines are one, or both say where the same tokens stop, one of them because of their depth
abbrev pub AreOneLine : List ℕ → List ℕ → Type 0
AreOneLine a b = (a ≡ b) ⊎ (SaysStop a × SaysStop b × (SaysTooDeep a ⊎ SaysTooDeep b))

-- two lines say faults of one program, which are of one pass: those of types need not be one, nor the values that a match
-- misses
pub record AreFaultLines (text a b : List ℕ) : Type 0 where
  pub program : ProgramTree
  pub parses : Parses text program
  pub one : CheckFault
  pub other : CheckFault
  pub cause_one : Causes one program
  pub cause_other : Causes other program
  pub alike : AreOne one other
  pub line_one : a ≡ line_of_check program one
  pub line_other : b ≡ line_of_check program other

-- both refusals are of a run that is not reached, or of a loan that is met: a text may show each in several places
abbrev pub AreOfPlaces : Refusal → Refusal → Type 0
AreOfPlaces (refusal.Unreachable s) (refusal.Unreachable t) = Unit {0}
AreOfPlaces (refusal.Loan a b) (refusal.Loan c d) = Unit {0}
AreOfPlaces _ _ = ⊥

-- two lines say such refusals of one text
pub record AreRefusalLines (text : List ℕ) (w : Wish) (a b : List ℕ) : Type 0 where
  pub one : Refusal
  pub other : Refusal
  pub refused_one : IsRefused text w one
  pub refused_other : IsRefused text w other
  pub alike : AreOfPlaces one other
  pub line_one : a ≡ line_of_refusal one
  pub line_other : b ≡ line_of_refusal other

-- the lines of two answers of a check, or of a run
abbrev pub AreCheckLines : List ℕ → List ℕ → List ℕ → Type 0
AreCheckLines text a b = AreOneLine a b ⊎ AreFaultLines text a b

-- the lines of two answers on what may be a certificate: they are one, or two of a check of its text
abbrev pub AreVerdictLines : List ℕ → List ℕ → List ℕ → Type 0
AreVerdictLines bytes a b = (a ≡ b) ⊎ ((ls : List Line) × (text : List ℕ) × IsCertificate ls text bytes × AreCheckLines text a b)

-- the lines of two answers of an extraction
abbrev pub AreExtractionLines : List ℕ → Wish → List ℕ → List ℕ → Type 0
AreExtractionLines text w a b = AreCheckLines text a b ⊎ AreRefusalLines text w a b

-- the lines of two defined answers
abbrev pub AreLines : Choices → Option Command → List ℕ → List ℕ → List ℕ → Type 0
AreLines C None text a b = AreOneLine a b
AreLines C (Some (extracts name start end w)) text a b = AreExtractionLines text (wish C name start end w) a b
AreLines C (Some verifies) text a b = AreVerdictLines text a b
AreLines C (Some (generates n)) text a b = AreExtractionLines (generated n) (generated_wish C n) a b
AreLines C _ text a b = AreCheckLines text a b
