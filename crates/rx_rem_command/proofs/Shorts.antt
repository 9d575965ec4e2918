-- Of short signatures: what is found where one is asked for, that two answers agree, and that the text with one is the defined answer.
use Rattle.std.proofs.Common.{ℕ, ◌≡◌, ◌⊎◌, ◌<◌, ◌≤◌, List, [], ◌∷◌, length, Option, Some, Result, Ok, Err, inl, inr, refl, sym, ap, subst, ◌∙◌, arith}
use Rattle.rx_core.specs.declared.types.Which.{Which}
use Rattle.rx_tree.specs.Plain.{ProgramTree}
use Rattle.rx_lex.specs.declared.lexer.LexFault.TheVariants as lex
use Rattle.rx_parse_grammar.specs.grammar.Items.{Parses}
use Rattle.rx_parse.specs.declared.fault.SyntaxFault.{SyntaxFault}
use Rattle.rx_parse.specs.declared.fault.SyntaxFault.TheVariants as syntax
use Rattle.rx_parse.specs.Answer.{IsCause}
use Rattle.rx_check.specs.declared.fault.CheckFault.{CheckFault}
use Rattle.rx_check.specs.declared.fault.CheckFault.TheVariants as check
use Rattle.rx_check.specs.Causes.{Causes}
use Rattle.rx_check.specs.Passes.{Accepted}
use Rattle.rx_compact_call.specs.declared.fault.CompactFault.{CompactFault}
use Rattle.rx_compact_call.specs.declared.fault.CompactFault.TheVariants as compact
use Rattle.rx_compact_call.specs.Shortened.{IsShortened, IsUnnamed, CompactCauses, Answers}
use Rattle.rx_rem_command.specs.declared.status.Status.{Status}
use Rattle.rx_rem_command.specs.declared.status.Status.TheVariants.{Done, Refused, NotAccepted}
use Rattle.rx_rem_command.specs.Alike.{AreCheckLines}
use Rattle.rx_rem_command.specs.CertificateLines.{large_line}
use Rattle.rx_rem_command.specs.CheckLines.{line_of_check, status_of_check}
use Rattle.rx_rem_command.specs.CompactLines.{unnamed_line}
use Rattle.rx_rem_command.specs.ExtractionLines.{which_words}
use Rattle.rx_rem_command.specs.Forms.{Command, compacts, command_of}
use Rattle.rx_rem_command.specs.Lines.{line_of, with_numbers, syntax_status, syntax_line}
use Rattle.rx_rem_command.specs.Defined.{Choices, Defined, AnswersTo, IsAccepted, Checked, no_program, program, faulty, Shortened, unshortened, shortened, unnamed, too_long}
use Rattle.rx_rem_command.specs.Replies.{Found, defined, no_room}
use Rattle.rx_rem_command.proofs.CheckLemmas.{unread, not_accepted}

-- ---- what is found

pub found_unread_short : (text name : List ℕ) (f : SyntaxFault) → IsCause f text → Found (Shortened text name) (syntax_status f) [] (syntax_line f)
found_unread_short text name (syntax.Lex (lex.NotText at)) c = defined (unshortened (no_program (syntax.Lex (lex.NotText at)) (unread text (syntax.Lex (lex.NotText at)) (λ e. cc) c)))
found_unread_short text name (syntax.Lex (lex.BadToken at)) c = defined (unshortened (no_program (syntax.Lex (lex.BadToken at)) (unread text (syntax.Lex (lex.BadToken at)) (λ e. cc) c)))
found_unread_short text name (syntax.Lex lex.OutOfMemory) c = absurd (c.0 refl)
found_unread_short text name (syntax.Syntax at) c = defined (unshortened (no_program (syntax.Syntax at) (unread text (syntax.Syntax at) (λ e. cc) c)))
found_unread_short text name (syntax.TooDeep at) c = defined (unshortened (no_program (syntax.TooDeep at) (unread text (syntax.TooDeep at) (λ e. cc) c)))
found_unread_short text name syntax.OutOfMemory c = no_room

pub found_unshortened : (text name : List ℕ) (p : ProgramTree) (f : CheckFault) → Parses text p → Causes f p → Found (Shortened text name) (status_of_check f) [] (line_of_check p f)
found_unshortened text name p (check.Name e) x c = defined (unshortened (program p x (faulty (check.Name e) (λ e. cc) c)))
found_unshortened text name p (check.Types e) x c = defined (unshortened (program p x (faulty (check.Types e) (λ e. cc) c)))
found_unshortened text name p (check.Cover e) x c = defined (unshortened (program p x (faulty (check.Cover e) (λ e. cc) c)))
found_unshortened text name p (check.Lower e) x c = defined (unshortened (program p x (faulty (check.Lower e) (λ e. cc) c)))
found_unshortened text name p (check.Init e) x c = defined (unshortened (program p x (faulty (check.Init e) (λ e. cc) c)))
found_unshortened text name p (check.Region i l k) x c = defined (unshortened (program p x (faulty (check.Region i l k) (λ e. cc) c)))
found_unshortened text name p (check.Loan e) x c = defined (unshortened (program p x (faulty (check.Loan e) (λ e. cc) c)))
found_unshortened text name p check.OutOfMemory x c = no_room

pub found_long : (text name : List ℕ) (w : Which) (n : ℕ) → CompactCauses (compact.Limit w n) text name
    → Found (Shortened text name) Refused [] (line_of (with_numbers (which_words w) (n ∷ [])))
found_long text name w n c = subst (λ (v : Which). Found (Shortened text name) Refused [] (line_of (with_numbers (which_words v) (n ∷ [])))) (sym c.0)
    (subst (λ m. Found (Shortened text name) Refused [] (large_line m)) (sym c.1.2)
    (defined (too_long c.1.0 c.1.1 (subst (λ m. 1048576 < m) c.1.2 c.1.3))))

pub found_short : (text name bytes shown : List ℕ) (r : Result (List ℕ) CompactFault) → Answers text name r → r ≡ Ok bytes → shown ≡ bytes
    → Found (Shortened text name) Done shown []
found_short text name bytes shown r h e s = let x = subst (Answers text name) e h in
    subst (λ (b : List ℕ). Found (Shortened text name) Done b []) (sym s) (defined (shortened bytes x.0 x.1))

-- a cause of a fault that is answered
pub refused_cause : (text name : List ℕ) (e : CompactFault) (r : Result (List ℕ) CompactFault) → Answers text name r → r ≡ Err e → CompactCauses e text name
refused_cause text name e r h is = subst (Answers text name) is h

-- ---- it tells of its text

pub short_accepted : (text name bytes : List ℕ) → IsShortened text name bytes → IsAccepted text
short_accepted text name bytes x = record { program = x.program; parses = x.parses; accepted = x.accepted }

pub unnamed_accepted : (text name : List ℕ) → IsUnnamed text name → IsAccepted text
unnamed_accepted text name x = record { program = x.program; parses = x.parses; accepted = x.accepted }

-- ---- two answers agree

module _ (excluded : (p : ProgramTree) (e : CheckFault) → Accepted p → Causes e p → e ≡ check.OutOfMemory)
    (one : (text name a b : List ℕ) → IsShortened text name a → IsShortened text name b → a ≡ b)
    (none : (text name a : List ℕ) → IsShortened text name a → IsUnnamed text name → ⊥) where
  none_too : (text a b : List ℕ) → Checked text NotAccepted a b → IsAccepted text → ⊥
  none_too text a b x y = not_accepted excluded text y NotAccepted a b refl x

  one_length : (text name a b : List ℕ) → IsShortened text name a → IsShortened text name b → length a ≡ length b
  one_length text name a b x y = ap (λ (l : List ℕ). length l) (one text name a b x y)

  pub one_short_size : (text name a b : List ℕ) → IsShortened text name a → IsShortened text name b → length a ≤ 1048576 → 1048576 < length b → ⊥
  one_short_size text name a b x y l m = let e = one_length text name a b x y in omega (arith, e, l, m)

  pub shorts_agree : (text name : List ℕ)
      → ((s t : Status) (a b c d : List ℕ) → Checked text s a b → Checked text t c d → (s ≡ t) × (a ≡ c) × AreCheckLines text b d)
      → (s t : Status) (a b c d : List ℕ) → Shortened text name s a b → Shortened text name t c d → (s ≡ t) × (a ≡ c) × AreCheckLines text b d
  shorts_agree text name agree _ _ a b c d (unshortened x) (unshortened y) = agree NotAccepted NotAccepted a b c d x y
  shorts_agree text name agree _ _ a b _ _ (unshortened x) (shortened n y l) = absurd (none_too text a b x (short_accepted text name n y))
  shorts_agree text name agree _ _ a b _ _ (unshortened x) (unnamed y) = absurd (none_too text a b x (unnamed_accepted text name y))
  shorts_agree text name agree _ _ a b _ _ (unshortened x) (too_long n y l) = absurd (none_too text a b x (short_accepted text name n y))
  shorts_agree text name agree _ _ _ _ c d (shortened m x k) (unshortened y) = absurd (none_too text c d y (short_accepted text name m x))
  shorts_agree text name agree _ _ _ _ _ _ (shortened m x k) (shortened n y l) = (refl, one text name m n x y, inl (inl refl))
  shorts_agree text name agree _ _ _ _ _ _ (shortened m x k) (unnamed y) = absurd (none text name m x y)
  shorts_agree text name agree _ _ _ _ _ _ (shortened m x k) (too_long n y l) = absurd (one_short_size text name m n x y k l)
  shorts_agree text name agree _ _ _ _ c d (unnamed x) (unshortened y) = absurd (none_too text c d y (unnamed_accepted text name x))
  shorts_agree text name agree _ _ _ _ _ _ (unnamed x) (shortened n y l) = absurd (none text name n y x)
  shorts_agree text name agree _ _ _ _ _ _ (unnamed x) (unnamed y) = (refl, refl, inl (inl refl))
  shorts_agree text name agree _ _ _ _ _ _ (unnamed x) (too_long n y l) = absurd (none text name n y x)
  shorts_agree text name agree _ _ _ _ c d (too_long m x k) (unshortened y) = absurd (none_too text c d y (short_accepted text name m x))
  shorts_agree text name agree _ _ _ _ _ _ (too_long m x k) (shortened n y l) = absurd (one_short_size text name n m y x l k)
  shorts_agree text name agree _ _ _ _ _ _ (too_long m x k) (unnamed y) = absurd (none text name m x y)
  shorts_agree text name agree _ _ _ _ _ _ (too_long m x k) (too_long n y l) = (refl, refl, inl (inl (ap large_line (one_length text name m n x y))))

-- ---- the defined answer

pub short_defined : (C : Choices) (words : List (List ℕ)) (text name bytes : List ℕ) → command_of words ≡ Some (compacts name) → IsShortened text name bytes
    → length bytes ≤ 1048576 → Defined C words text Done bytes []
short_defined C words text name bytes e x l = subst (λ (c : Option Command). AnswersTo C c text Done bytes []) (sym e) (shortened bytes x l)

abbrev IsWhole : List ℕ → List ℕ → List ℕ → List ℕ → Type 0
IsWhole text name out err = IsShortened text name out × (length out ≤ 1048576) × (err ≡ [])

done_shortened : (text name : List ℕ) (s : Status) (out err : List ℕ) → s ≡ Done → Shortened text name s out err → IsWhole text name out err
done_shortened text name _ out err e (unshortened x) = absurd (cc)
done_shortened text name _ _ _ e (shortened b x l) = (x, l, refl)
done_shortened text name _ _ _ e (unnamed x) = absurd (cc)
done_shortened text name _ _ _ e (too_long b x l) = absurd (cc)

pub short_only : (C : Choices) (words : List (List ℕ)) (text name out err : List ℕ) → command_of words ≡ Some (compacts name) → Defined C words text Done out err
    → IsWhole text name out err
short_only C words text name out err e d = done_shortened text name Done out err refl (subst (λ (c : Option Command). AnswersTo C c text Done out err) e d)
