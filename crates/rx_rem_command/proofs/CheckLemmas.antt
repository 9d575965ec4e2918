-- What is found where a text is checked, by cases on the fault: none that is answered hides a want of memory.
use Rattle.std.specs.Prelude.{◌≢◌}
use Rattle.std.proofs.Common.{ℕ, ◌≡◌, List, [], refl, subst}
use Rattle.rx_tree.specs.Plain.{ProgramTree}
use Rattle.rx_lex.specs.declared.lexer.LexFault.TheVariants as lex
use Rattle.rx_parse_grammar.specs.grammar.Items.{Parses}
use Rattle.rx_parse_grammar.proofs.Whole.{one_text}
use Rattle.rx_parse.specs.declared.fault.SyntaxFault.{SyntaxFault}
use Rattle.rx_parse.specs.declared.fault.SyntaxFault.TheVariants as syntax
use Rattle.rx_parse.specs.Answer.{IsCause}
use Rattle.rx_check.specs.declared.fault.CheckFault.{CheckFault}
use Rattle.rx_check.specs.declared.fault.CheckFault.TheVariants as check
use Rattle.rx_check.specs.Causes.{Causes}
use Rattle.rx_check.specs.Passes.{Accepted}
use Rattle.rx_engine_extraction.specs.Verdict.{IsUnread}
use Rattle.rx_rem_command.specs.declared.status.Status.{Status}
use Rattle.rx_rem_command.specs.declared.status.Status.TheVariants.{NotAccepted}
use Rattle.rx_rem_command.specs.Lines.{syntax_status, syntax_line}
use Rattle.rx_rem_command.specs.CheckLines.{line_of_check, status_of_check}
use Rattle.rx_rem_command.specs.Defined.{IsAccepted, Judged, passed, faulty, Checked, no_program, program}
use Rattle.rx_rem_command.specs.Replies.{Found, defined, no_room, FoundOf, judged, no_space}
use Rattle.rx_rem_command.proofs.Reading.{unread_none}

pub unread : (text : List ℕ) (f : SyntaxFault) → f ≢ syntax.OutOfMemory → IsCause f text → IsUnread text f
unread text f told c = record { told = told; cause = c }

-- the text is not read
pub found_unread : (text : List ℕ) (f : SyntaxFault) → IsCause f text → Found (Checked text) (syntax_status f) [] (syntax_line f)
found_unread text (syntax.Lex (lex.NotText at)) c = defined (no_program (syntax.Lex (lex.NotText at)) (unread text (syntax.Lex (lex.NotText at)) (λ e. cc) c))
found_unread text (syntax.Lex (lex.BadToken at)) c = defined (no_program (syntax.Lex (lex.BadToken at)) (unread text (syntax.Lex (lex.BadToken at)) (λ e. cc) c))
found_unread text (syntax.Lex lex.OutOfMemory) c = absurd (c.0 refl)
found_unread text (syntax.Syntax at) c = defined (no_program (syntax.Syntax at) (unread text (syntax.Syntax at) (λ e. cc) c))
found_unread text (syntax.TooDeep at) c = defined (no_program (syntax.TooDeep at) (unread text (syntax.TooDeep at) (λ e. cc) c))
found_unread text syntax.OutOfMemory c = no_room

-- a program that has a fault
pub found_faulty : (p : ProgramTree) (f : CheckFault) → Causes f p → FoundOf p (status_of_check f) [] (line_of_check p f)
found_faulty p (check.Name e) c = judged (faulty (check.Name e) (λ e. cc) c)
found_faulty p (check.Types e) c = judged (faulty (check.Types e) (λ e. cc) c)
found_faulty p (check.Cover e) c = judged (faulty (check.Cover e) (λ e. cc) c)
found_faulty p (check.Lower e) c = judged (faulty (check.Lower e) (λ e. cc) c)
found_faulty p (check.Init e) c = judged (faulty (check.Init e) (λ e. cc) c)
found_faulty p (check.Region i l k) c = judged (faulty (check.Region i l k) (λ e. cc) c)
found_faulty p (check.Loan e) c = judged (faulty (check.Loan e) (λ e. cc) c)
found_faulty p check.OutOfMemory c = no_space

-- what is found for its program is found for the text
pub found_program : (text : List ℕ) (p : ProgramTree) (s : Status) (out err : List ℕ) → Parses text p → FoundOf p s out err → Found (Checked text) s out err
found_program text p s out err parses (judged j) = defined (program p parses j)
found_program text p _ _ _ parses no_space = no_room

-- ---- a text whose check answers that it is not accepted isn't

module _ (excluded : (p : ProgramTree) (e : CheckFault) → Accepted p → Causes e p → e ≡ check.OutOfMemory) where
  judged_not : (p : ProgramTree) → Accepted p → (s : Status) (out err : List ℕ) → s ≡ NotAccepted → Judged p s out err → ⊥
  judged_not p h _ _ _ e (passed k) = cc
  judged_not p h _ _ _ e (faulty f told c) = told (excluded p f h c)

  pub not_accepted : (text : List ℕ) → IsAccepted text → (s : Status) (out err : List ℕ) → s ≡ NotAccepted → Checked text s out err → ⊥
  not_accepted text a _ _ _ e (no_program f c) = unread_none text f c a.program a.parses
  not_accepted text a s out err e (program p x j) = judged_not p (subst Accepted (one_text text a.program p a.parses x) a.accepted) s out err e j
