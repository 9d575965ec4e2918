-- Numbers that are gathered from left to right.
use Rattle.std.proofs.Common.{◌≡◌, ℕ, List, [], ◌∷◌, ◌++◌, Option, Some, None, refl, ap}
use Rattle.std.proofs.lemmas.List.{append_assoc}
use Rattle.rx_engine_alike.specs.Giving.{with_number}

-- these, and those
abbrev pub in_front : List ℕ → Option (List ℕ) → Option (List ℕ)
in_front ys None = None
in_front ys (Some zs) = Some (ys ++ zs)

pub in_front_more : (ys : List ℕ) (z : ℕ) (o : Option (List ℕ)) → in_front (ys ++ z ∷ []) o ≡ in_front ys (with_number (Some z) o)
in_front_more ys z None = refl
in_front_more ys z (Some zs) = ap Some (append_assoc ys (z ∷ []) zs)

pub in_front_none : (ys : List ℕ) (o : Option (List ℕ)) → in_front ys (with_number None o) ≡ None
in_front_none ys None = refl
in_front_none ys (Some zs) = refl

pub in_front_of_none : (o : Option (List ℕ)) → in_front [] o ≡ o
in_front_of_none None = refl
in_front_of_none (Some zs) = refl

pub ruleset number_rules = (in_front_more, in_front_none, in_front_of_none)
