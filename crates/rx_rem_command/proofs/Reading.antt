-- A text has one cause why it is no program, but where its tokens stop because of their depth; and then it is none.
use Rattle.std.specs.Prelude.{◌≢◌}
use Rattle.std.proofs.Common.{ℕ, ◌≡◌, List, inl, inr, refl, sym, ap, ◌∙◌}
use Rattle.rx_tree.specs.Plain.{ProgramTree}
use Rattle.rx_lex.specs.declared.lexer.LexFault.{LexFault}
use Rattle.rx_lex.specs.declared.lexer.LexFault.TheVariants as lex
use Rattle.rx_lex.specs.Lexing.{FaultOf}
use Rattle.rx_lex.specs.Tok.{Tok}
use Rattle.rx_lex.specs.Tokens.{Lexes}
use Rattle.rx_lex.proofs.Reading.{only_memory}
use Rattle.rx_lex.proofs.TokenLaws.{stuck_one}
use Rattle.rx_parse_grammar.specs.grammar.Items.{Parses}
use Rattle.rx_parse.specs.declared.fault.SyntaxFault.{SyntaxFault}
use Rattle.rx_parse.specs.declared.fault.SyntaxFault.TheVariants as syntax
use Rattle.rx_parse.proofs.Causes.{cause_excludes}
use Rattle.rx_parse.proofs.OnePlace.{one_place}
use Rattle.rx_engine_extraction.specs.Verdict.{IsUnread}
use Rattle.rx_rem_command.specs.Lines.{syntax_line}
use Rattle.rx_rem_command.specs.Alike.{AreOneLine}

lex_one : (bytes : List ℕ) (f g : LexFault) → f ≢ lex.OutOfMemory → g ≢ lex.OutOfMemory → FaultOf f bytes → FaultOf g bytes → f ≡ g
lex_one bytes (lex.NotText a) (lex.NotText b) n m x y = ap lex.NotText (x.1 ∙ sym y.1)
lex_one bytes (lex.BadToken a) (lex.BadToken b) n m x y = ap lex.BadToken (stuck_one 0 a b bytes x.1 y.1)
lex_one bytes (lex.NotText a) (lex.BadToken b) n m x y = absurd (x.0 y.0)
lex_one bytes (lex.BadToken a) (lex.NotText b) n m x y = absurd (y.0 x.0)
lex_one bytes lex.OutOfMemory g n m x y = absurd (n refl)
lex_one bytes f lex.OutOfMemory n m x y = absurd (m refl)

-- a text whose bytes are no tokens has none at which they stop
no_tokens : {A : List Tok → Type 0} (bytes : List ℕ) (f : LexFault) → f ≢ lex.OutOfMemory → FaultOf f bytes
    → (ts : List Tok) × Lexes bytes ts × A ts → ⊥
no_tokens bytes f n x y = n (only_memory f bytes x y.0 y.1)

pub unread_lines : (bytes : List ℕ) (f g : SyntaxFault) → IsUnread bytes f → IsUnread bytes g → AreOneLine (syntax_line f) (syntax_line g)
unread_lines bytes (syntax.Lex a) (syntax.Lex b) x y =
    inl (ap (λ (c : LexFault). syntax_line (syntax.Lex c)) (lex_one bytes a b x.cause.0 y.cause.0 x.cause.1 y.cause.1))
unread_lines bytes (syntax.Lex a) (syntax.Syntax b) x y = absurd (no_tokens bytes a x.cause.0 x.cause.1 y.cause)
unread_lines bytes (syntax.Lex a) (syntax.TooDeep b) x y = absurd (no_tokens bytes a x.cause.0 x.cause.1 y.cause)
unread_lines bytes (syntax.Syntax a) (syntax.Lex b) x y = absurd (no_tokens bytes b y.cause.0 y.cause.1 x.cause)
unread_lines bytes (syntax.TooDeep a) (syntax.Lex b) x y = absurd (no_tokens bytes b y.cause.0 y.cause.1 x.cause)
unread_lines bytes (syntax.Syntax a) (syntax.Syntax b) x y = inl (ap (λ (n : ℕ). syntax_line (syntax.Syntax n)) (one_place bytes a b x.cause y.cause))
unread_lines bytes (syntax.Syntax a) (syntax.TooDeep b) x y = inr (inl (a, refl), inr (b, refl), inr (b, refl))
unread_lines bytes (syntax.TooDeep a) (syntax.Syntax b) x y = inr (inr (a, refl), inl (b, refl), inl (a, refl))
unread_lines bytes (syntax.TooDeep a) (syntax.TooDeep b) x y = inr (inr (a, refl), inr (b, refl), inl (a, refl))
unread_lines bytes syntax.OutOfMemory g x y = absurd (x.told refl)
unread_lines bytes f syntax.OutOfMemory x y = absurd (y.told refl)

pub unread_none : (bytes : List ℕ) (f : SyntaxFault) → IsUnread bytes f → (p : ProgramTree) → Parses bytes p → ⊥
unread_none bytes f x p d = cause_excludes bytes f x.told x.cause p d
