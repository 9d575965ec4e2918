-- Where a temporary stands among those that are filled: behind all where it is none of them.
use Rattle.std.specs.Prelude.{ℕ, suc, List, [], ◌∷◌, if◌then◌else◌}
use Rattle.rx_typed.specs.Tree.{Temporary}
use Rattle.rx_lower_lifetimes.specs.Values.{Held, same}

abbrev pub place_of : List Held → Temporary → ℕ
place_of [] t = 0
place_of (h ∷ hs) t = if same h.temporary t then 0 else suc (place_of hs t)
