-- The laws of the canonical text: its words are its tokens, and they are derived as the tree.
use Rattle.std.proofs.Common.{ℕ, ◌≤◌, List, subst}
use Rattle.rx_tree.specs.Plain.{ProgramTree}
use Rattle.rx_tree.specs.Erase.{SameProgram}
use Rattle.rx_lex.specs.Tok.{Tok}
use Rattle.rx_lex.specs.Tokens.{Lexes}
use Rattle.rx_lex.proofs.TokenLaws.{lexes_one}
use Rattle.rx_parse_grammar.specs.grammar.Items.{IsFile, Parses, levels}
use Rattle.rx_parse_grammar.proofs.Whole.{one_program_height}
use Rattle.rx_print_spelling.specs.Items.{print_program, program_pieces}
use Rattle.rx_print_spelling.specs.Levels.{levels_of}
use Rattle.rx_print_spelling.specs.Formed.{FormedProgram}
use Rattle.rx_print_spelling.specs.ReadBack.{ReadBack}
use Rattle.rx_print_spelling.proofs.Pieces.{places}
use Rattle.rx_print_spelling.proofs.ItemsRead.{program_reads}
use Rattle.rx_print_spelling.proofs.ItemsStand.{program_lexes}
use Rattle.rx_print_spelling.proofs.ItemsFormed.{text_formed}

pub spelled : (p : ProgramTree) → FormedProgram p → ReadBack p
spelled p f =
    let r = program_reads p f 0 in
    record { tokens = places 0 (program_pieces p); lexed = program_lexes p f; tree = r.tree; derived = r.derived; same = r.same }

pub print_parses : (p : ProgramTree) → FormedProgram p → levels_of p ≤ levels → (q : ProgramTree) × Parses (print_program p) q × SameProgram q p
print_parses p f low =
    let r = spelled p f in (r.tree, record { tokens = r.tokens; lexed = r.lexed; height = levels_of p; derived = r.derived; low = low }, r.same)

pub low_where_parsed : (p q : ProgramTree) → FormedProgram p → Parses (print_program p) q → levels_of p ≤ levels
low_where_parsed p q f x =
    let r = spelled p f in
    let d = subst (λ ts. IsFile ts q x.height) (lexes_one (print_program p) x.tokens r.tokens x.lexed r.lexed) x.derived in
    subst (λ h. h ≤ levels) (one_program_height r.tokens q r.tree x.height (levels_of p) d r.derived) x.low

pub text_reads_back : (bytes : List ℕ) (ts : List Tok) (p : ProgramTree) (h : ℕ) → Lexes bytes ts → IsFile ts p h → levels_of p ≤ levels
    → (q : ProgramTree) × Parses (print_program p) q × SameProgram q p
text_reads_back bytes ts p h l d low = print_parses p (text_formed bytes ts p h l d) low
