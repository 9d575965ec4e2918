-- The names of items, one item after the other.
use Rattle.std.proofs.Common.{◌≡◌, List, [], ◌∷◌, ◌++◌, Ok, Err, refl, ap}
use Rattle.rx_resolve_names.specs.declared.resolved.ItemNames.{ItemNames}
use Rattle.rx_resolve_names.specs.Steps.{Outcome, and_then}

-- what is found behind these
abbrev pub before : List ItemNames → Outcome (List ItemNames) → Outcome (List ItemNames)
before all r = and_then r (λ more. Ok (all ++ more))

appended : (a b : List ItemNames) (x : ItemNames) → a ++ (x ∷ b) ≡ (a ++ x ∷ []) ++ b
appended [] b x = refl
appended (y ∷ a) b x = ap (λ l. y ∷ l) (appended a b x)

pub before_next : (all : List ItemNames) (x : ItemNames) (r : Outcome (List ItemNames)) → before all (and_then r (λ xs. Ok (x ∷ xs))) ≡ before (all ++ x ∷ []) r
before_next all x (Ok xs) = ap Ok (appended all xs x)
before_next all x (Err e) = refl

pub before_none : (r : Outcome (List ItemNames)) → before [] r ≡ r
before_none (Ok xs) = refl
before_none (Err e) = refl
