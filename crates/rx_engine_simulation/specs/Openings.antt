-- What is put in place of special parts of a program: expressions and statements of the text, and those of the answer for them,
-- each around a further part that both have. The places are open: what stands there is for whoever relates two programs to say.
use Rattle.std.specs.Prelude.{ℕ}
use Rattle.rx_typed.specs.Tree.{Exp, Body}
use Rattle.rx_engine_simulation.specs.Histories.{Facts}
use Rattle.rx_engine_simulation.specs.Sights.{Renaming}
use Rattle.rx_engine_simulation.specs.Jumps.{Jumping}

pub record Openings : Type 1 where
  -- with how many further turns of the answer, under which jumps and variables: an expression around another, which is the text's
  pub expression : Facts → ℕ → Jumping → Renaming → Exp → (Exp → Exp) → (Exp → Exp) → Type 0
  -- the same for statements in front of the rest of a block, and the variables of that rest, which is the text's
  pub statements : Facts → ℕ → Jumping → Renaming → Renaming → Body → (Body → Body) → (Body → Body) → Type 0

-- no part is special
abbrev pub no_openings : Openings
no_openings = record { expression = λ V a J R e f g. ⊥; statements = λ V a J R S b f g. ⊥ }
