-- What the caller does with values of the text's variables that it is handed: each is received in a variable of the answer of its own,
-- which the text's is in then, and put back from there into the one that it is in outside (REM, "Extract method": outputs).
use Rattle.std.specs.Prelude.{◌≡◌, ℕ, Bool, List, [], ◌∷◌, Some, None}
use Rattle.rx_typed.specs.Tree as tree
use Rattle.rx_typed.specs.Tree.{Mark, Exp, Body, Subpatterns, own}
use Rattle.rx_lower_walks.specs.Actions.{Action}
use Rattle.rx_engine_simulation.specs.Histories.{Facts, Living}
use Rattle.rx_engine_simulation.specs.Sights.{special, sight, Renaming, sight_of, IsNew}
use Rattle.rx_engine_simulation.specs.Arrivals.{Aim, Arrives, IsUnlent}
use Rattle.rx_engine_simulation.specs.Packing.{Takes, Receives}

-- with the variables outside; from those so far
pub data Receiving (R : Renaming) : Renaming → List ℕ → List ℕ → Renaming → Type 0 where
  received_none : {Rc : Renaming} → Receiving R Rc [] [] Rc
  received_and : {Rc Ra : Renaming} {x o : ℕ} {xs os : List ℕ} → sight_of Rc x ≡ None → IsNew R o → IsNew Rc o → Receiving R ((x, sight o special) ∷ Rc) xs os Ra → Receiving R Rc (x ∷ xs) (o ∷ os) Ra

-- In front of what follows. A variable that the statements declare stays where it was received.
pub data PuttingBack (V : Facts) (R : Renaming) (block : Body) : Renaming → List ℕ → List ℕ → (Body → Body) → Renaming → Type 0 where
  puts_none : {Rc : Renaming} → PuttingBack V R block Rc [] [] (λ b. b) Rc
  stays_there : {Rc Rd : Renaming} {x o : ℕ} {xs os : List ℕ} {f : Body → Body} → PuttingBack V R block Rc xs os f Rd → PuttingBack V R block Rc (x ∷ xs) (o ∷ os) f Rd
  puts_and : {Rc Rd : Renaming} {x y o : ℕ} {m : Mark} {e : Exp} {xs os : List ℕ} {f : Body → Body} → sight_of R x ≡ Some (sight y special) → IsNew Rc y → IsUnlent V block x → Takes o e
      → PuttingBack V R block ((x, sight y special) ∷ Rc) xs os f Rd → PuttingBack V R block Rc (x ∷ xs) (o ∷ os) (λ b. tree.runs (tree.assign m (own y) e) (f b)) Rd

-- what stands in place of the statements, around what the call or the match of it gives, in front of what follows
pub data Using (V : Facts) (R : Renaming) (block : Body) (e : Exp) (Rs : Renaming) : List ℕ → Renaming → (Body → Body) → Type 0 where
  drops : Using V R block e Rs [] Rs (λ b. tree.runs e b)
  -- to a variable that is there
  assigns : {x y : ℕ} {m : Mark} → sight_of Rs x ≡ None → IsNew Rs y → sight_of R x ≡ Some (sight y special) → IsUnlent V block x
      → Using V R block e Rs (x ∷ []) ((x, sight y special) ∷ Rs) (λ b. tree.runs (tree.assign m (own y) e) b)
  -- to one that the statements declare
  declares : {x y n k : ℕ} {mutable : Bool} {Rr : Renaming} → Receiving R Rs (x ∷ []) (y ∷ []) Rr
      → Using V R block e Rs (x ∷ []) Rr (λ b. tree.lets n (tree.bind k y (tree.by_value mutable)) (tree.of_value e) b)
  spreads : {x z n : ℕ} {xs os : List ℕ} {ps : Subpatterns} {Rr Rd : Renaming} {g : Body → Body} → Receiving R Rs (x ∷ z ∷ xs) os Rr → Receives 0 os ps → PuttingBack V R block Rr (x ∷ z ∷ xs) os g Rd
      → Using V R block e Rs (x ∷ z ∷ xs) Rd (λ b. tree.lets n (tree.parts ps) (tree.of_value e) (g b))

-- variables that the statements declare and nothing needs behind them, though they are named there: without a value
pub data Redeclaring (V : Facts) (Rb : Renaming) (a : Aim) : Renaming → (Body → Body) → Renaming → Type 0 where
  redeclares_none : {Rc : Renaming} → Redeclaring V Rb a Rc (λ b. b) Rc
  redeclares_and : {Rc Rd : Renaming} {x y z n : ℕ} {f : Body → Body} → sight_of Rb x ≡ Some (sight z special) → sight_of Rc x ≡ None → IsNew Rc y → ((h : List Action) → Arrives V a h → Living V x h → ⊥)
      → Redeclaring V Rb a ((x, sight y special) ∷ Rc) f Rd → Redeclaring V Rb a Rc (λ b. tree.declares n (y ∷ []) (f b)) Rd
