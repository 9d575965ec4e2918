-- What the parts of the beginning find, as the verdict says it, and from what is hoisted in a text to the verdict.
use Rattle.std.proofs.Common.{◌≡◌, ◌≢◌, ℕ, ◌+◌, ◌≤◌, false, List, Err, refl, sym, subst, arith}
use Rattle.rx_tree.specs.Plain.{ProgramTree}
use Rattle.rx_lex.specs.declared.lexer.Tokens.{Tokens}
use Rattle.rx_lex.specs.Tok.{toks}
use Rattle.rx_typed_declarations.specs.Sizes as sizes
use Rattle.rx_parse_grammar.specs.grammar.Items.{Parses}
use Rattle.rx_parse.specs.Answer.{IsCause}
use Rattle.rx_parse.specs.declared.fault.SyntaxFault.{SyntaxFault}
use Rattle.rx_parse.specs.declared.fault.SyntaxFault.TheVariants as syntax_fault
use Rattle.rx_check.specs.declared.fault.CheckFault.{CheckFault}
use Rattle.rx_check.specs.declared.fault.CheckFault.TheVariants as check_fault
use Rattle.rx_check.specs.Causes.{Causes}
use Rattle.rx_check.specs.Answers.{AllBorrow}
use Rattle.rx_check.specs.Front.{Front, Judged, IsFrontOf, IsCheckedOf}
use Rattle.rx_hoist_extraction.specs.Names.{Names}
use Rattle.rx_hoist_extraction.specs.FreeName.{FreeName}
use Rattle.rx_hoist_naming.specs.NameTest.{is_taken}
use Rattle.rx_engine_extraction.specs.declared.given.Hoisting.{Hoisting}
use Rattle.rx_engine_extraction.specs.declared.refusal.Fault.{Fault}
use Rattle.rx_engine_extraction.specs.declared.refusal.Fault.TheVariants as fault
use Rattle.rx_engine_extraction.specs.Source.{Text, IsText, Wish}
use Rattle.rx_engine_extraction.specs.Conditions.{unmoved, fits}
use Rattle.rx_engine_extraction.specs.Meeting.{Holds}
use Rattle.rx_engine_extraction.specs.Beginning.{of_syntax, not_accepted, IsUnreadable, IsUnaccepted, AreTokens}
use Rattle.rx_engine_extraction.specs.Hoisting.{IsHoisting, IsStopped}
use Rattle.rx_engine_extraction.specs.Confirming.{IsTold}
use Rattle.rx_engine_extraction.specs.Deciding.{case_of}
use Rattle.rx_engine_extraction.specs.Verdict.{Answers}
use Rattle.rx_engine_extraction.proofs.Orders.{earlier}

pub unreadable : (e : SyntaxFault) (bytes : List ℕ) → IsCause e bytes → IsUnreadable bytes (of_syntax e)
unreadable (syntax_fault.Lex x) bytes h = (told, h)
  where
    told : syntax_fault.Lex x ≢ syntax_fault.OutOfMemory
    told e = cc
unreadable (syntax_fault.Syntax n) bytes h = (told, h)
  where
    told : syntax_fault.Syntax n ≢ syntax_fault.OutOfMemory
    told e = cc
unreadable (syntax_fault.TooDeep n) bytes h = (told, h)
  where
    told : syntax_fault.TooDeep n ≢ syntax_fault.OutOfMemory
    told e = cc
unreadable syntax_fault.OutOfMemory bytes h = tt

pub unaccepted : (e : CheckFault) (p : ProgramTree) → Causes e p → IsUnaccepted p (not_accepted e)
unaccepted (check_fault.Name x) p h = (told, h)
  where
    told : check_fault.Name x ≢ check_fault.OutOfMemory
    told e = cc
unaccepted (check_fault.Types x) p h = (told, h)
  where
    told : check_fault.Types x ≢ check_fault.OutOfMemory
    told e = cc
unaccepted (check_fault.Cover x) p h = (told, h)
  where
    told : check_fault.Cover x ≢ check_fault.OutOfMemory
    told e = cc
unaccepted (check_fault.Lower x) p h = (told, h)
  where
    told : check_fault.Lower x ≢ check_fault.OutOfMemory
    told e = cc
unaccepted (check_fault.Init x) p h = (told, h)
  where
    told : check_fault.Init x ≢ check_fault.OutOfMemory
    told e = cc
unaccepted (check_fault.Region i l k) p h = (told, h)
  where
    told : check_fault.Region i l k ≢ check_fault.OutOfMemory
    told e = cc
unaccepted (check_fault.Loan x) p h = (told, h)
  where
    told : check_fault.Loan x ≢ check_fault.OutOfMemory
    told e = cc
unaccepted check_fault.OutOfMemory p h = tt

pub free_unused : (identifiers : Names) (name : List ℕ) → FreeName identifiers name → is_taken identifiers name ≡ false
free_unused identifiers name f = rw f.unused (rw f.enum_unused f.unreserved)

-- ---- the verdict

pub unread_answer : (bytes : List ℕ) (w : Wish) (f : Fault) → IsUnreadable bytes f → Answers bytes w (Err f)
unread_answer bytes w (fault.Syntax e) h = record { told = h.0; cause = h.1 }
unread_answer bytes w (fault.NotAccepted e) h = absurd h
unread_answer bytes w (fault.Refused r) h = absurd h
unread_answer bytes w fault.OutOfMemory h = tt

pub unaccepted_answer : (bytes : List ℕ) (p : ProgramTree) → Parses bytes p → (w : Wish) (f : Fault) → IsUnaccepted p f → Answers bytes w (Err f)
unaccepted_answer bytes p q w (fault.NotAccepted e) h = record { told = h.0; program = p; parses = q; cause = h.1 }
unaccepted_answer bytes p q w (fault.Syntax e) h = absurd h
unaccepted_answer bytes p q w (fault.Refused r) h = absurd h
unaccepted_answer bytes p q w fault.OutOfMemory h = tt

-- a text that is read and accepted, by its tokens and what the passes know of it
pub is_text : (bytes : List ℕ) (t : Tokens) (p : ProgramTree) (x : Front) (c : Judged) (q : Parses bytes p) → IsCheckedOf p c → x ≡ c.front → AreTokens bytes t
    → IsText bytes (record { bytes = bytes; length = t.length; tokens = toks t.list; program = p; types = x.typed; sizes = sizes.told x.facts.sizes })
is_text bytes t p x c q is same tokens =
    let front = subst (λ (y : Front). IsFrontOf p y) (sym same) is.front in record {
      same = refl;
      parses = q;
      tokens = sym (tokens.one q.tokens q.lexed);
      long = sym tokens.long;
      accepted = record { front = front.accepted; borrows = subst (λ (y : Front). AllBorrow y.typed) (sym same) is.borrows };
      sized = front.facts.sized;
    }

pub stopped_answer : (bytes : List ℕ) (T : Text) → IsText bytes T → (w : Wish) (f : Fault) → IsStopped T w f → Answers bytes w (Err f)
stopped_answer bytes T is w (fault.Refused r) h = record { text = T; is_text = is; refused = h }
stopped_answer bytes T is w (fault.Syntax e) h = absurd h
stopped_answer bytes T is w (fault.NotAccepted e) h = absurd h
stopped_answer bytes T is w fault.OutOfMemory h = tt

-- ---- what is decided, for the confirmation

-- a run that is hoisted hands out the same where an exit is listed again, and which params are given away is told
pub is_told : (T : Text) (w : Wish) (x : Hoisting) → IsHoisting T w x → IsTold T x.decision
is_told T w x h =
    let passes = (earlier (Holds T w (case_of T x.decision)) unmoved fits (omega arith) h.hoisted.stands).it.1 in
    record { run = h.run; agree = passes.agree; given_away = h.given_away }

pub is_behind : (n f m : ℕ) → n ≡ f + m → f ≤ n
is_behind n f m e = omega (arith, e)
