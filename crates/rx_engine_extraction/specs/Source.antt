-- An accepted text, and what is asked of it: the extraction of the statements that a range of its bytes selects, into a function of a
-- name, each input passed as a policy chooses (REM, "Extract function").
use Rattle.std.specs.Prelude.{◌≡◌, ℕ, List, length}
use Rattle.rx_lex.specs.Tok.{Tok}
use Rattle.rx_tree.specs.Plain.{ProgramTree}
use Rattle.rx_parse_grammar.specs.grammar.Items.{Parses}
use Rattle.rx_typed.specs.PlainTypes.{declarations}
use Rattle.rx_typed.specs.Types.{Declarations}
use Rattle.rx_typed_declarations.specs.Sizes.{Sized}
use Rattle.rx_typeck_typed.specs.declared.typed.Typed.{Typed}
use Rattle.rx_modes_policy.specs.declared.uses.Mode.{Mode}
use Rattle.rx_modes_policy.specs.declared.uses.Uses.{Uses}
use Rattle.rx_check.specs.Passes.{IsAccepted}

-- the bytes of a text, how many it has, its tokens, its program with its types, and how many parts each struct and enum has
pub record Text : Type 0 where
  pub bytes : List ℕ
  pub length : ℕ
  pub tokens : List Tok
  pub program : ProgramTree
  pub types : Typed
  pub sizes : ℕ → ℕ

abbrev pub declared_in : Text → Declarations
declared_in T = declarations T.types.decls.items

-- these bytes are it, and its program is accepted
pub record IsText (bytes : List ℕ) (T : Text) : Type 0 where
  pub same : bytes ≡ T.bytes
  pub parses : Parses bytes T.program
  pub tokens : parses.tokens ≡ T.tokens
  pub long : length bytes ≡ T.length
  pub accepted : IsAccepted T.program T.types
  pub sized : Sized (declared_in T) T.sizes

-- what is asked for
pub record Wish : Type 0 where
  pub start : ℕ
  pub end : ℕ
  pub name : List ℕ
  pub choice : Uses → Mode
