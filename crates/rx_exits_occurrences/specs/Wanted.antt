-- Whether a number is to be among some, or is to be none of them; the variable that an occurrence declares.
use Rattle.std.specs.Prelude.{ℕ, Bool, true, false, not, List, [], ◌∷◌}
use Rattle.rx_exits_plan.specs.Occurrences.{Occurrence, names, declared}

abbrev pub is_wanted : Bool → Bool → Bool
is_wanted true b = b
is_wanted false b = not b

abbrev pub declared_one : Occurrence → List ℕ
declared_one (names x) = []
declared_one (declared x) = x ∷ []
