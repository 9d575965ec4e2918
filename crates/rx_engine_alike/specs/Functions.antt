-- Whether functions and items are alike, and whether each function of a program is like itself (Rust Reference, "Items", "Functions").
use Rattle.std.specs.Prelude.{ℕ, Bool, true, false, ◌&&◌, List, [], ◌∷◌, Option, Some, None}
use Rattle.rx_typed.specs.Tree.{Function}
use Rattle.rx_meaning.specs.Expressions.{Functions}
use Rattle.rx_engine_simulation.specs.Programs.{whole_jumps}
use Rattle.rx_engine_alike.specs.Likeness.{Likeness, when, is_alike}
use Rattle.rx_engine_alike.specs.Variables.{like_params}
use Rattle.rx_engine_alike.specs.Forms.{Between, like_exp}

abbrev pub like_function : Between → Function → Function → Likeness
like_function C g g' = when (like_params C.ways [] g.params g'.params) (λ R. like_exp C whole_jumps R g.body g'.body)

-- nothing is special: by the items alone
abbrev pub plainly : (ℕ → ℕ) → Between
plainly items = record { items = items; ways = record { elsewhere = []; closed = [] }; units = []; outside = []; left_open = None }

-- items that are functions alike, or none
abbrev pub same_item : (ℕ → ℕ) → Option (Option Function) → Option (Option Function) → Bool
same_item items (Some (Some g)) (Some (Some g')) = is_alike (like_function (plainly items) g g')
same_item items (Some (Some g)) _ = false
same_item items _ (Some (Some g')) = false
same_item items _ _ = true

abbrev pub is_like_itself : Option Function → Bool
is_like_itself None = true
is_like_itself (Some g) = is_alike (like_function (plainly (λ f. f)) g g)

abbrev pub each_is_like_itself : Functions → Bool
each_is_like_itself [] = true
each_is_like_itself (o ∷ os) = is_like_itself o && each_is_like_itself os
