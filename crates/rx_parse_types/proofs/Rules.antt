-- The equations that the goals need.
use Rattle.std.proofs.lemmas.List.{map-id}

-- the elements of some lists stand for themselves
pub ruleset list_rules = (map-id)
