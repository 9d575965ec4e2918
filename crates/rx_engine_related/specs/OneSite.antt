-- That an action stands at one place of a function: no two sites of its graph have it. And how many blocks have a node, how many jumps
-- take an exit.
use Rattle.std.specs.Prelude.{◌≡◌, ℕ, suc, ◌==◌, if◌then◌else◌, List, [], ◌∷◌, Some}
use Rattle.rx_typed.specs.Tree.{Function}
use Rattle.rx_lower_walks.specs.Actions.{Action}
use Rattle.rx_lower_walks.specs.Graph.{Site, site_at}
use Rattle.rx_lower_walks.specs.Pieces.{graph}
use Rattle.rx_exits_plan.specs.Spots.{Spot, a_block, a_jump, a_return}
use Rattle.rx_exits_plan.specs.Points.{Exit, leaves, number}
use Rattle.rx_exits_plan.specs.Exits.{Jump}

abbrev pub StandsOnce : Function → Action → Type 0
StandsOnce f a = (i j : ℕ) (s t : Site) → site_at (graph f) i ≡ Some s → site_at (graph f) j ≡ Some t → s.action ≡ a → t.action ≡ a → i ≡ j

abbrev pub blocks_at : ℕ → List Spot → ℕ
blocks_at n [] = 0
blocks_at n (a_block a m b ∷ ss) = if m == n then suc (blocks_at n ss) else blocks_at n ss
blocks_at n (a_jump a m l again ∷ ss) = blocks_at n ss
blocks_at n (a_return a m ∷ ss) = blocks_at n ss

-- an exit is told by the number of its point
abbrev pub times_taken : Exit → List Jump → ℕ
times_taken x [] = 0
times_taken x (j ∷ js) = if number (leaves j.exit) == number (leaves x) then suc (times_taken x js) else times_taken x js
