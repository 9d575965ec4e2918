-- What a level asks of the parser of expressions one level deeper.
use Rattle.std.specs.Prelude.{ℕ, ◌≤◌, List, Result, IfOk}
use Rattle.std.specs.declared.alloc.Global.{Global}
use denote.Ref.{MutBor}
use Rattle.rx_tree.specs.declared.tree.Expr.{Expr}
use Rattle.rx_tree.specs.Plain.{Expression}
use Rattle.rx_tree.specs.PlainOf.{plain-Expr}
use Rattle.rx_lex.specs.Tok.{Tok}
use Rattle.rx_parse_grammar.specs.declared.stop.Stop.{Stop}
use Rattle.rx_parse_grammar.specs.parser.Steps.{Parser, ReadsAs}
use Rattle.rx_parse_grammar.specs.parser.Steps as steps
use Rattle.rx_parse_cursor.specs.declared.got.Got.{Got}
use Rattle.rx_parse_cursor.specs.GotOf.{got_of}
use Rattle.rx_parse_grammar.specs.parser.Symbols.{peek}
use Rattle.rx_parse_expressions.specs.Levels as levels
use Rattle.rx_parse_choices.specs.declared.wanted.Wanted.{Wanted}
use Rattle.rx_parse_choices.specs.declared.wanted.Wanted.TheVariants.{Operand, Whole, Like}
use Rattle.rx_parse_choices.specs.Wants.{wanted_of}

-- a function value that reads expressions of at most so many levels, or fewer
pub record Nests (below : ℕ) (pre : Global → MutBor (List Tok) → ℕ → Wanted → Type 0)
    (post : Global → MutBor (List Tok) → ℕ → Wanted → Result (Got Expr) Stop → MutBor (List Tok) → Type 0) : Type 0 where
  pub low : below ≤ 1023
  pub callable : (alloc : Global) (old : MutBor (List Tok)) (d : ℕ) (w : Wanted) → d ≤ below → pre alloc old d w
  pub reads : (alloc : Global) (old new : MutBor (List Tok)) (d : ℕ) (w : Wanted) (r : Result (Got Expr) Stop) → d ≤ below → post alloc old d w r new
      → ReadsAs (got_of plain-Expr) (wanted_of w d old.now) r new.now
  pub within : (alloc : Global) (old new : MutBor (List Tok)) (d : ℕ) (w : Wanted) (r : Result (Got Expr) Stop) → d ≤ below → post alloc old d w r new
      → IfOk r (λ x. x.height ≤ d)

-- at a level below which so many levels may stand
abbrev pub level_of : Wanted → ℕ → Parser (steps.Got Expression)
level_of (Operand f j) b = levels.at_strength b f j
level_of Whole b = λ i. levels.whole_by b (peek i) i
level_of Like b = λ i. levels.like_by b (peek i) i
