-- What is read behind what was read before.
use Rattle.std.proofs.Common.{◌≡◌, List, [], ◌∷◌, ◌++◌, Ok, Err, refl, ap}
use Rattle.rx_typeck_typed.specs.Steps.{Outcome, on_ok, Reading}

-- what is read behind these
abbrev pub before : {A : Type 0} → List A → Outcome (List A × Reading) → Outcome (List A × Reading)
before all r = on_ok r (λ p. Ok (all ++ p.0, p.1))

appended : {A : Type 0} (a b : List A) (x : A) → a ++ (x ∷ b) ≡ (a ++ x ∷ []) ++ b
appended [] b x = refl
appended (y ∷ a) b x = ap (λ l. y ∷ l) (appended a b x)

pub before_next : {A : Type 0} (all : List A) (x : A) (r : Outcome (List A × Reading))
    → before all (on_ok r (λ p. Ok (x ∷ p.0, p.1))) ≡ before (all ++ x ∷ []) r
before_next all x (Ok p) = ap (λ l. Ok (l, p.1)) (appended all p.0 x)
before_next all x (Err e) = refl

pub before_none : {A : Type 0} (r : Outcome (List A × Reading)) → before [] r ≡ r
before_none (Ok p) = refl
before_none (Err e) = refl

-- the same of what is found without reading on
abbrev pub behind : {A : Type 0} → List A → Outcome (List A) → Outcome (List A)
behind all r = on_ok r (λ more. Ok (all ++ more))

pub behind_next : {A : Type 0} (all : List A) (x : A) (r : Outcome (List A))
    → behind all (on_ok r (λ xs. Ok (x ∷ xs))) ≡ behind (all ++ x ∷ []) r
behind_next all x (Ok xs) = ap Ok (appended all xs x)
behind_next all x (Err e) = refl

pub behind_none : {A : Type 0} (r : Outcome (List A)) → behind [] r ≡ r
behind_none (Ok xs) = refl
behind_none (Err e) = refl
