-- Texts whose tokens have the same words: a text has one list of tokens, and its program is derived again from the other's.
use Rattle.std.proofs.Common.{◌≡◌, ℕ, List, subst}
use Rattle.rx_tree.specs.Plain.{ProgramTree}
use Rattle.rx_tree.specs.Erase.{SameProgram}
use Rattle.rx_lex.specs.Tok.{Tok}
use Rattle.rx_lex.specs.Tokens.{Lexes}
use Rattle.rx_lex.proofs.TokenLaws.{lexes_one}
use Rattle.rx_parse_grammar.specs.grammar.Items.{IsFile, Parses}
use Rattle.rx_parse_laws.specs.Words.{words}
use Rattle.rx_parse_laws.proofs.SameWords.{got}
use Rattle.rx_parse_laws.proofs.ItemsAgain.{file_again}

pub text_words : (bytes other : List ℕ) (ts us : List Tok) (p : ProgramTree) → Lexes bytes ts → Lexes other us → words us ≡ words ts → Parses bytes p
    → (q : ProgramTree) × Parses other q × SameProgram q p
text_words bytes other ts us p l m e x =
    let d = subst (λ vs. IsFile vs p x.height) (lexes_one bytes x.tokens ts x.lexed l) x.derived in
    got (file_again d us e) (λ q dq sq. (q, record { tokens = us; lexed = m; height = x.height; derived = dq; low = x.low }, sq))
