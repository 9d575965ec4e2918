-- Steps of the definition in turn are steps of the walk in turn.
use Rattle.std.proofs.Common.{◌≡◌, ℕ, List, [], ◌∷◌, ◌++◌, length, map, refl, ap}
use Rattle.std.proofs.lemmas.List.{length-map}
use Rattle.rx_tree.specs.declared.tree.Param.{Param}
use Rattle.rx_tree.specs.PlainOf.{plain-Param}
use Rattle.rx_resolve.proofs.WalkLemmas.{above_push, around_push}

pub ruleset walk_rules = (above_push, around_push)

pub params_counted : (l : List Param) → length (map plain-Param l) ≡ length l
params_counted l = length-map l plain-Param

pub append_none : (l : List ℕ) → l ++ [] ≡ l
append_none [] = refl
append_none (n ∷ l) = ap (λ r. n ∷ r) (append_none l)
