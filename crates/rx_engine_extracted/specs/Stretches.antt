-- Whether the first statements of two blocks are alike, so many of them; and the variables and what follows behind them (Rust Reference,
-- "Statements").
use Rattle.std.specs.Prelude.{ℕ, zero, suc, Bool, List, Option, Some, None}
use Rattle.rx_typed.specs.Tree as tree
use Rattle.rx_typed.specs.Tree.{Body}
use Rattle.rx_engine_simulation.specs.Sights.{Renaming}
use Rattle.rx_engine_simulation.specs.Jumps.{Jumping}
use Rattle.rx_engine_alike.specs.Likeness.{if_so, and_then, is_alike}
use Rattle.rx_engine_alike.specs.Read.{as_runs, as_declares, as_lets}
use Rattle.rx_engine_alike.specs.Variables.{like_declared}
use Rattle.rx_engine_alike.specs.Patterns.{like_bindings}
use Rattle.rx_engine_alike.specs.Forms.{Between, like_exp, like_let, way_of_let}

pub record Passed : Type 0 where
  pub inside : Renaming
  pub text : Body
  pub answer : Body

abbrev pub like_first : Between → Jumping → ℕ → Renaming → Body → Body → Option Passed
like_first C J zero R b b' = Some (record { inside = R; text = b; answer = b' })
like_first C J (suc n) R (tree.ends e) b' = None
like_first C J (suc n) R (tree.runs e b) b' = and_then (as_runs b') (λ r. if_so (is_alike (like_exp C J R e r.0)) (like_first C J n R b r.1))
like_first C J (suc n) R (tree.declares s xs b) b' = and_then (as_declares b') (λ r. and_then (like_declared C.ways R xs r.1) (λ Ra. like_first C J n Ra b r.2))
like_first C J (suc n) R (tree.lets s q c b) b' = and_then (as_lets b') (λ r. if_so (is_alike (like_let C J R c r.1 r.2))
    (and_then (like_bindings C.ways (way_of_let R c r.1 r.2) R q r.1) (λ Ra. like_first C J n Ra b r.3)))

-- how many there are
abbrev pub count_of : Body → ℕ
count_of (tree.ends e) = 0
count_of (tree.runs e b) = suc (count_of b)
count_of (tree.declares s xs b) = suc (count_of b)
count_of (tree.lets s q c b) = suc (count_of b)

-- what follows so many
abbrev pub behind_first : ℕ → Body → Option Body
behind_first zero b = Some b
behind_first (suc n) (tree.ends e) = None
behind_first (suc n) (tree.runs e b) = behind_first n b
behind_first (suc n) (tree.declares s xs b) = behind_first n b
behind_first (suc n) (tree.lets s q c b) = behind_first n b
