-- What a level asks of the parser of what stands one level deeper.
use Rattle.std.specs.Prelude.{ℕ, ◌≤◌, List, Result, IfOk}
use Rattle.std.specs.declared.alloc.Global.{Global}
use denote.Ref.{MutBor}
use Rattle.rx_lex.specs.Tok.{Tok}
use Rattle.rx_parse_grammar.specs.declared.stop.Stop.{Stop}
use Rattle.rx_parse_grammar.specs.parser.Steps.{Parser, ReadsAs}
use Rattle.rx_parse_grammar.specs.parser.Steps as steps
use Rattle.rx_parse_cursor.specs.declared.got.Got.{Got}
use Rattle.rx_parse_cursor.specs.GotOf.{got_of}

-- a function value that reads what has at most so many levels
pub record Nests {A B : Type 0} (plain : A → B) (parser : ℕ → Parser (steps.Got B)) (below : ℕ) (pre : Global → MutBor (List Tok) → ℕ → Type 0)
    (post : Global → MutBor (List Tok) → ℕ → Result (Got A) Stop → MutBor (List Tok) → Type 0) : Type 0 where
  pub low : below ≤ 1023
  pub callable : (alloc : Global) (old : MutBor (List Tok)) → pre alloc old below
  pub reads : (alloc : Global) (old new : MutBor (List Tok)) (r : Result (Got A) Stop) → post alloc old below r new → ReadsAs (got_of plain) (parser below old.now) r new.now
  pub within : (alloc : Global) (old new : MutBor (List Tok)) (r : Result (Got A) Stop) → post alloc old below r new → IfOk r (λ x. x.height ≤ below)
