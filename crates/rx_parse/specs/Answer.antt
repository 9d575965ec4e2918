-- What `parse` and `levels` answer.
use Rattle.std.specs.Prelude.{◌≡◌, ◌≢◌, ℕ, ◌≤◌, ◌⊎◌, List, [], ◌∷◌, ◌++◌, length, map, Result, Ok, Err}
use Rattle.rx_tree.specs.declared.tree.Item.{Item}
use Rattle.rx_tree.specs.declared.tree.Program.{Program}
use Rattle.rx_tree.specs.Plain.{ProgramTree}
use Rattle.rx_tree.specs.PlainOf.{plain-Item, plain-Program}
use Rattle.rx_lex.specs.declared.lexer.LexFault.TheVariants as lex_fault
use Rattle.rx_lex.specs.Tok.{Tok}
use Rattle.rx_lex.specs.Tokens.{Lexes}
use Rattle.rx_lex.specs.Lexing.{FaultOf}
use Rattle.rx_parse_grammar.specs.grammar.Items.{IsFile, levels}
use Rattle.rx_parse_grammar.specs.grammar.Begins.{Begins, BeginsNone, BeginsNoneWithin}
use Rattle.rx_parse_cursor.specs.declared.got.Found.{Found}
use Rattle.rx_parse.specs.declared.fault.SyntaxFault.{SyntaxFault}
use Rattle.rx_parse.specs.declared.fault.SyntaxFault.TheVariants.{Lex, Syntax, TooDeep, OutOfMemory}

-- the tree, unless memory runs out
abbrev pub Answers : Result Program SyntaxFault → ProgramTree → Type 0
Answers (Ok q) p = plain-Program q ≡ p
Answers (Err e) p = e ≡ OutOfMemory

-- the bytes have tokens, from which the grammar derives this tree of so many levels
pub record HasTree (bytes : List ℕ) (p : ProgramTree) (n : ℕ) : Type 0 where
  pub tokens : List Tok
  pub lexed : Lexes bytes tokens
  pub derived : IsFile tokens p n

-- the bytes are a text of so many levels
abbrev pub HasLevels : List ℕ → ℕ → Type 0
HasLevels bytes n = (p : ProgramTree) × HasTree bytes p n

-- the most levels that are counted
abbrev pub most_counted : ℕ
most_counted = 1024

-- the levels, unless memory runs out
abbrev pub Counts : Result ℕ SyntaxFault → ℕ → Type 0
Counts (Ok m) n = m ≡ n
Counts (Err e) n = e ≡ OutOfMemory

-- the tree and its levels, unless memory runs out
abbrev pub Reads : Result (Found Item) SyntaxFault → ProgramTree → ℕ → Type 0
Reads (Ok x) p n = (map plain-Item x.list ≡ p) × (x.height ≡ n)
Reads (Err e) p n = e ≡ OutOfMemory

-- the token that stands at a place among the tokens, with those before it and those behind it
pub record TokenAt (at : ℕ) (ts : List Tok) : Type 0 where
  pub before : List Tok
  pub token : Tok
  pub behind : List Tok
  pub tokens : ts ≡ before ++ (token ∷ behind)
  pub place : at ≡ token.span.start

-- the tokens up to this one and with it
abbrev pub through : {at : ℕ} {ts : List Tok} → TokenAt at ts → List Tok
through t = t.before ++ (t.token ∷ [])

-- what stands before a token begins a program of some depth, and with the token it begins none
pub record StopsAt (at : ℕ) (ts : List Tok) : Type 0 where
  pub here : TokenAt at ts
  pub begins : Begins here.before
  pub stops : BeginsNone (through here)

-- the place is the text's end: all tokens begin a program, and they are none of any depth
pub record StopsAtEnd (at size : ℕ) (ts : List Tok) : Type 0 where
  pub place : at ≡ size
  pub begins : Begins ts
  pub none : (p : ProgramTree) (h : ℕ) → IsFile ts p h → ⊥

-- with a token the tokens begin a program of some depth, and none within so many levels
pub record TooDeepAt (most at : ℕ) (ts : List Tok) : Type 0 where
  pub here : TokenAt at ts
  pub begins : Begins (through here)
  pub stops : BeginsNoneWithin most (through here)

-- no tree within so many levels has these tokens
abbrev pub HasNoTree : ℕ → List Tok → Type 0
HasNoTree most ts = (p : ProgramTree) (h : ℕ) → h ≤ most → IsFile ts p h → ⊥

-- what a fault says of the bytes, where so many levels are allowed: they are no text of tokens, or there are tokens, and they stop being a
-- program at the place
abbrev pub IsCauseWithin : ℕ → SyntaxFault → List ℕ → Type 0
IsCauseWithin most (Lex f) bytes = (f ≢ lex_fault.OutOfMemory) × FaultOf f bytes
IsCauseWithin most (Syntax at) bytes = (ts : List Tok) × Lexes bytes ts × (StopsAt at ts ⊎ StopsAtEnd at (length bytes) ts)
IsCauseWithin most (TooDeep at) bytes = (ts : List Tok) × Lexes bytes ts × TooDeepAt most at ts
IsCauseWithin most OutOfMemory bytes = Unit {0}

-- of a text that is read
abbrev pub IsCause : SyntaxFault → List ℕ → Type 0
IsCause f bytes = IsCauseWithin levels f bytes
