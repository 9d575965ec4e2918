-- What begins a program: some further words complete it to one. What begins none: nothing does, be it of words or not.
use Rattle.std.specs.Prelude.{ℕ, ◌≤◌, List, ◌++◌}
use Rattle.rx_tree.specs.Plain.{ProgramTree}
use Rattle.rx_lex.specs.Tok.{Tok}
use Rattle.rx_lex.specs.Tokens.{AreWords}
use Rattle.rx_parse_grammar.specs.grammar.Items.{IsFile}

-- a program of any depth
pub record Begins (us : List Tok) : Type 0 where
  pub further : List Tok
  pub words : AreWords further
  pub program : ProgramTree
  pub height : ℕ
  pub derived : IsFile (us ++ further) program height

-- no program of any depth, whatever tokens follow
abbrev pub BeginsNone : List Tok → Type 0
BeginsNone us = (further : List Tok) (p : ProgramTree) (h : ℕ) → IsFile (us ++ further) p h → ⊥

-- no program of at most so many levels, whatever tokens follow
abbrev pub BeginsNoneWithin : ℕ → List Tok → Type 0
BeginsNoneWithin d us = (further : List Tok) (p : ProgramTree) (h : ℕ) → h ≤ d → IsFile (us ++ further) p h → ⊥
