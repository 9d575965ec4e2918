-- Each cause excludes a tree: the tokens of a program are begun by each token list in front of one of them, so where such a list begins none,
-- or none within the levels, there is no program.
use Rattle.std.proofs.Common.{◌≡◌, ℕ, List, [], ◌∷◌, ◌++◌, ◌⊎◌, inl, inr, refl, sym, subst, ◌∙◌, append_assoc}
use Rattle.std.specs.Prelude.{◌≢◌}
use Rattle.rx_tree.specs.Plain.{ProgramTree}
use Rattle.rx_lex.specs.Tok.{Tok}
use Rattle.rx_lex.specs.Tokens.{Lexes}
use Rattle.rx_lex.proofs.Reading.{only_memory}
use Rattle.rx_lex.proofs.TokenLaws.{lexes_one}
use Rattle.rx_parse_grammar.specs.grammar.Items.{IsFile, Parses, levels}
use Rattle.rx_parse.specs.declared.fault.SyntaxFault.{SyntaxFault}
use Rattle.rx_parse.specs.declared.fault.SyntaxFault.TheVariants as fault
use Rattle.rx_parse.specs.Answer.{TokenAt, through, StopsAt, StopsAtEnd, TooDeepAt, HasNoTree, IsCause}

-- tokens are those up to one, and those behind it
whole_again : {at : ℕ} (ts : List Tok) (t : TokenAt at ts) → through t ++ t.behind ≡ ts
whole_again ts t = append_assoc t.before (t.token ∷ []) t.behind ∙ sym t.tokens

-- a program of tokens goes on behind those up to each of them
gone_on : {at : ℕ} (ts : List Tok) (t : TokenAt at ts) (p : ProgramTree) (h : ℕ) → IsFile ts p h → IsFile (through t ++ t.behind) p h
gone_on ts t p h d = subst (λ (us : List Tok). IsFile us p h) (sym (whole_again ts t)) d

pub no_tree_of_syntax : {at size : ℕ} (most : ℕ) (ts : List Tok) → StopsAt at ts ⊎ StopsAtEnd at size ts → HasNoTree most ts
no_tree_of_syntax most ts (inl s) p h low d = s.stops s.here.behind p h (gone_on ts s.here p h d)
no_tree_of_syntax most ts (inr s) p h low d = s.none p h d

pub no_tree_of_too_deep : {at most : ℕ} (ts : List Tok) → TooDeepAt most at ts → HasNoTree most ts
no_tree_of_too_deep ts s p h low d = s.stops s.here.behind p h low (gone_on ts s.here p h d)

-- a text whose tokens have no tree has none
pub no_program : (bytes : List ℕ) (ts : List Tok) → Lexes bytes ts → HasNoTree levels ts → (p : ProgramTree) → Parses bytes p → ⊥
no_program bytes ts l n p d = n p d.height d.low (subst (λ (us : List Tok). IsFile us p d.height) (lexes_one bytes d.tokens ts d.lexed l) d.derived)

-- a text with a cause of a fault has no tree, but where memory ran out
pub cause_excludes : (bytes : List ℕ) (f : SyntaxFault) → f ≢ fault.OutOfMemory → IsCause f bytes → (p : ProgramTree) → Parses bytes p → ⊥
cause_excludes bytes (fault.Lex g) n c p d = c.0 (only_memory g bytes c.1 d.tokens d.lexed)
cause_excludes bytes (fault.Syntax at) n c p d = no_program bytes c.0 c.1 (no_tree_of_syntax levels c.0 c.2) p d
cause_excludes bytes (fault.TooDeep at) n c p d = no_program bytes c.0 c.1 (no_tree_of_too_deep c.0 c.2) p d
cause_excludes bytes fault.OutOfMemory n c p d = n refl
