-- New variables of both, and the renaming then (Rust Reference, "let statements", "Function parameters"). Two lists say how a new variable is
-- seen: it may be elsewhere for a while, or no mutable reference may lead to it; else one may.
use Rattle.std.specs.Prelude.{ℕ, nat_eq, Bool, true, false, not, ◌&&◌, ◌||◌, List, [], ◌∷◌, Option, Some, None, if◌then◌else◌}
use Rattle.rx_typed.specs.Tree.{Parameter}
use Rattle.rx_engine_simulation.specs.Sights.{shut, free, How, plain, special, sight, Renaming, sight_of}
use Rattle.rx_engine_alike.specs.Likeness.{if_so, and_then, is_none}

pub record Ways : Type 0 where
  pub elsewhere : List ℕ
  pub closed : List ℕ

abbrev pub is_in : ℕ → List ℕ → Bool
is_in x [] = false
is_in x (y ∷ ys) = nat_eq x y || is_in x ys

abbrev pub seen_as : Ways → ℕ → How
seen_as L x = if is_in x L.elsewhere then special else (if is_in x L.closed then plain shut else plain free)

-- no variable has this one
abbrev pub is_new : Renaming → ℕ → Bool
is_new [] y = true
is_new (b ∷ R) y = not (nat_eq b.1.to y) && is_new R y

-- a variable of the text that has none yet, and one of the answer that none has
abbrev pub with_seen : Renaming → ℕ → ℕ → How → Option Renaming
with_seen R x y h = if_so (is_none (sight_of R x) && is_new R y) (Some ((x, sight y h) ∷ R))

abbrev pub with_new : Ways → Renaming → ℕ → ℕ → Option Renaming
with_new L R x y = with_seen R x y (seen_as L x)

abbrev pub like_declared : Ways → Renaming → List ℕ → List ℕ → Option Renaming
like_declared L R [] [] = Some R
like_declared L R (x ∷ xs) (y ∷ ys) = and_then (with_new L R x y) (λ Ra. like_declared L Ra xs ys)
like_declared L R _ _ = None

abbrev pub like_params : Ways → Renaming → List Parameter → List Parameter → Option Renaming
like_params L R [] [] = Some R
like_params L R (p ∷ ps) (q ∷ qs) = and_then (with_new L R p.variable q.variable) (λ Ra. like_params L Ra ps qs)
like_params L R _ _ = None
