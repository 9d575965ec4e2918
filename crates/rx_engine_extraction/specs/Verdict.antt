-- What is answered of a text, a range, a name and a policy: an extraction that keeps its promise, or why there is none.
use Rattle.std.specs.Prelude.{◌≢◌, ℕ, List, Result, Ok, Err}
use Rattle.rx_tree.specs.Plain.{ProgramTree}
use Rattle.rx_parse_grammar.specs.grammar.Items.{Parses}
use Rattle.rx_parse.specs.Answer.{IsCause}
use Rattle.rx_parse.specs.declared.fault.SyntaxFault.{SyntaxFault}
use Rattle.rx_parse.specs.declared.fault.SyntaxFault.TheVariants as syntax_fault
use Rattle.rx_check.specs.declared.fault.CheckFault.{CheckFault}
use Rattle.rx_check.specs.declared.fault.CheckFault.TheVariants as check_fault
use Rattle.rx_check.specs.Causes.{Causes}
use Rattle.rx_engine_extraction.specs.declared.refusal.Refusal.{Refusal}
use Rattle.rx_engine_extraction.specs.declared.refusal.Fault.{Fault}
use Rattle.rx_engine_extraction.specs.declared.refusal.Fault.TheVariants as fault
use Rattle.rx_engine_extraction.specs.declared.refusal.Answer.{Answer}
use Rattle.rx_engine_extraction.specs.Source.{Text, IsText, Wish}
use Rattle.rx_engine_extraction.specs.Case.{Case}
use Rattle.rx_engine_extraction.specs.Conditions.{Condition}
use Rattle.rx_engine_extraction.specs.Failing.{Fails}
use Rattle.rx_engine_extraction.specs.Promise.{Stands, Keeps}

-- the bytes are no program, and this is why
pub record IsUnread (bytes : List ℕ) (e : SyntaxFault) : Type 0 where
  pub told : e ≢ syntax_fault.OutOfMemory
  pub cause : IsCause e bytes

-- they are a program that is not accepted, and this is why
pub record IsUnaccepted (bytes : List ℕ) (e : CheckFault) : Type 0 where
  pub told : e ≢ check_fault.OutOfMemory
  pub program : ProgramTree
  pub parses : Parses bytes program
  pub cause : Causes e program

-- the first condition that is not met is this, as the refusal tells
pub record RefusedBy (T : Text) (w : Wish) (r : Refusal) : Type 0 where
  pub case : Case
  pub condition : Condition
  pub stands : Stands T w case condition
  pub fails : Fails T w case condition r

pub record IsRefused (bytes : List ℕ) (w : Wish) (r : Refusal) : Type 0 where
  pub text : Text
  pub is_text : IsText bytes text
  pub refused : RefusedBy text w r

abbrev pub Answers : List ℕ → Wish → Result Answer Fault → Type 0
Answers bytes w (Ok a) = Keeps bytes w a.text a.bounds
Answers bytes w (Err (fault.Syntax e)) = IsUnread bytes e
Answers bytes w (Err (fault.NotAccepted e)) = IsUnaccepted bytes e
Answers bytes w (Err (fault.Refused r)) = IsRefused bytes w r
Answers bytes w (Err fault.OutOfMemory) = Unit {0}
