-- What the outcome of the parser of files says of the tokens.
use Rattle.std.specs.Prelude.{◌≡◌, ℕ, ◌≤◌, List, [], ◌∷◌, ◌++◌, length, Ok, Err}
use Rattle.rx_tree.specs.Plain.{ItemTree, ProgramTree}
use Rattle.rx_lex.specs.Tok.{Tok}
use Rattle.rx_parse_grammar.specs.declared.stop.Stop.TheVariants.{Syntax, TooDeep}
use Rattle.rx_parse_grammar.specs.grammar.Items.{IsFile}
use Rattle.rx_lex.specs.Words.{IsWord}
use Rattle.rx_parse_grammar.specs.grammar.Begins.{Begins, BeginsNone, BeginsNoneWithin}
use Rattle.rx_parse_grammar.specs.parser.Steps.{Outcome}

-- of at most d levels
pub data Says (d : ℕ) (ts : List Tok) : Outcome (List ItemTree × ℕ) → Type 0 where
  -- they are this program
  program : (p : ProgramTree) (h : ℕ) → h ≤ d → IsFile ts p h → Says d ts (Ok ((p, h), []))
  -- those before t begin a program of any depth, and with t they begin none
  syntax_at : (us rest : List Tok) (t : Tok) → ts ≡ us ++ (t ∷ rest) → Begins us → BeginsNone (us ++ (t ∷ [])) → Says d ts (Err (Syntax (length (t ∷ rest))))
  -- all begin a program of any depth, but are none
  syntax_at_end : Begins ts → ((p : ProgramTree) (h : ℕ) → IsFile ts p h → ⊥) → Says d ts (Err (Syntax 0))
  -- with t they begin a program of any depth, and none of at most d levels
  too_deep_at : (us rest : List Tok) (t : Tok) → ts ≡ us ++ (t ∷ rest) → (IsWord t.class t.text → Begins (us ++ (t ∷ []))) → BeginsNoneWithin d (us ++ (t ∷ [])) → Says d ts (Err (TooDeep (length (t ∷ rest))))
