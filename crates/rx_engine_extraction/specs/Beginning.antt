-- What the parts of the beginning of an extraction answer.
use Rattle.std.specs.Prelude.{◌≡◌, ◌≢◌, ℕ, true, false, List, length}
use Rattle.rx_tree.specs.Plain.{ProgramTree}
use Rattle.rx_lex.specs.declared.lexer.Tokens.{Tokens}
use Rattle.rx_lex.specs.Tok.{Tok, toks}
use Rattle.rx_lex.specs.Tokens.{Lexes}
use Rattle.rx_lex.specs.Words.{is_identifier}
use Rattle.rx_parse.specs.Answer.{IsCause}
use Rattle.rx_parse.specs.declared.fault.SyntaxFault.{SyntaxFault}
use Rattle.rx_parse.specs.declared.fault.SyntaxFault.TheVariants as syntax_fault
use Rattle.rx_typed_runs.specs.declared.runs.RunPos.{RunPos}
use Rattle.rx_select.specs.RunOf.{RunOf}
use Rattle.rx_check.specs.declared.fault.CheckFault.{CheckFault}
use Rattle.rx_check.specs.declared.fault.CheckFault.TheVariants as check_fault
use Rattle.rx_check.specs.Causes.{Causes}
use Rattle.rx_hoist_naming.specs.NameTest.{is_taken}
use Rattle.rx_hoist_naming.specs.NamesWords.{identifiers}
use Rattle.rx_engine_extraction.specs.declared.refusal.Fault.{Fault}
use Rattle.rx_engine_extraction.specs.declared.refusal.Fault.TheVariants as fault
use Rattle.rx_engine_extraction.specs.declared.refusal.Refusal.TheVariants as refusal

-- ---- faults as those of the extraction; want of memory below is want of memory here

abbrev pub of_syntax : SyntaxFault → Fault
of_syntax syntax_fault.OutOfMemory = fault.OutOfMemory
of_syntax e = fault.Syntax e

abbrev pub not_accepted : CheckFault → Fault
not_accepted check_fault.OutOfMemory = fault.OutOfMemory
not_accepted e = fault.NotAccepted e

abbrev pub IsUnreadable : List ℕ → Fault → Type 0
IsUnreadable bytes (fault.Syntax e) = (e ≢ syntax_fault.OutOfMemory) × IsCause e bytes
IsUnreadable bytes fault.OutOfMemory = Unit {0}
IsUnreadable bytes _ = ⊥

abbrev pub IsUnaccepted : ProgramTree → Fault → Type 0
IsUnaccepted p (fault.NotAccepted e) = (e ≢ check_fault.OutOfMemory) × Causes e p
IsUnaccepted p fault.OutOfMemory = Unit {0}
IsUnaccepted p _ = ⊥

abbrev pub HasTokens : List ℕ → Type 0
HasTokens bytes = (ts : List Tok) × Lexes bytes ts

-- the tokens of a text, of which there is one list
pub record AreTokens (bytes : List ℕ) (t : Tokens) : Type 0 where
  pub lexed : Lexes bytes (toks t.list)
  pub long : t.length ≡ length bytes
  pub one : (ts : List Tok) → Lexes bytes ts → toks t.list ≡ ts

-- ---- the run and the name

pub record IsChosen (ts : List Tok) (bytes : ℕ) (p : ProgramTree) (start end : ℕ) (name : List ℕ) (r : RunPos) : Type 0 where
  pub run : RunOf bytes ts p start end r
  pub word : is_identifier name ≡ true
  pub unused : is_taken (identifiers ts) name ≡ false

abbrev pub IsUnchosen : List Tok → ℕ → ProgramTree → ℕ → ℕ → List ℕ → Fault → Type 0
IsUnchosen ts bytes p start end name (fault.Refused refusal.NotARun) = (r : RunPos) → RunOf bytes ts p start end r → ⊥
IsUnchosen ts bytes p start end name (fault.Refused refusal.BadName) = (r : RunPos) × RunOf bytes ts p start end r × (is_identifier name ≡ false)
IsUnchosen ts bytes p start end name (fault.Refused refusal.NameTaken) =
    (r : RunPos) × RunOf bytes ts p start end r × (is_identifier name ≡ true) × (is_taken (identifiers ts) name ≡ true)
IsUnchosen ts bytes p start end name fault.OutOfMemory = Unit {0}
IsUnchosen ts bytes p start end name _ = ⊥
