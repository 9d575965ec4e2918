-- What the caller does with what is handed out at the run's end: a variable that the run declares is declared by it, another is assigned;
-- what the run declares besides and is named behind it is declared again (REM, "Extract method": outputs; Rust Reference, "let
-- statements", "Assignment expressions").
use Rattle.std.specs.Prelude.{◌≡◌, ℕ, Bool, List, [], ◌∷◌, Some, None}
use Rattle.rx_typed.specs.Tree as tree
use Rattle.rx_typed.specs.Tree.{Mark, Exp, Body, Subpatterns, own}
use Rattle.rx_lower_walks.specs.Walks.{Among}
use Rattle.rx_exits_plan.specs.Points.{next}
use Rattle.rx_exits_plan.specs.Asked.{Asked}
use Rattle.rx_exits_plan.specs.Plan.{Plan}
use Rattle.rx_modes_uses.specs.Paths.{OwnPath}
use Rattle.rx_modes_uses.specs.Deeds.{Done, borrowed}
use Rattle.rx_modes_uses.specs.Outside.{in_function}
use Rattle.rx_modes_uses.specs.Uses.{IsDeclaredMut}
use Rattle.rx_engine_simulation.specs.Sights.{special, sight, Renaming, sight_of, IsNew}
use Rattle.rx_engine_simulation.specs.Arrivals.{Within}
use Rattle.rx_engine_simulation.specs.Packing.{Takes, Receives}
use Rattle.rx_engine_simulation.specs.Handing.{Receiving}
use Rattle.rx_engine_related.specs.Premises.{NotHanded}

-- A variable that may be assigned: it is declared `mut`, it has no value where the run is entered, or nothing of the function borrows its
-- own storage.
pub data MayBeAssigned (A : Asked) (muts : List Bool) (k : Plan) (x : ℕ) : Type 0 where
  is_mut : IsDeclaredMut muts x → MayBeAssigned A muts k x
  is_local : Among x k.locals → MayBeAssigned A muts k x
  not_lent : ¬ (Done borrowed (OwnPath x) (in_function A)) → MayBeAssigned A muts k x

-- in front of what follows; what the run declares stays where it was received
pub data PutBack (A : Asked) (muts : List Bool) (k : Plan) (R : Renaming) : Renaming → List ℕ → List ℕ → (Body → Body) → Renaming → Type 0 where
  all_back : {Rc : Renaming} → PutBack A muts k R Rc [] [] (λ b. b) Rc
  stays : {Rc Rd : Renaming} {x o : ℕ} {xs os : List ℕ} {f : Body → Body} → PutBack A muts k R Rc xs os f Rd → PutBack A muts k R Rc (x ∷ xs) (o ∷ os) f Rd
  goes_back : {Rc Rd : Renaming} {x y o : ℕ} {m : Mark} {e : Exp} {xs os : List ℕ} {f : Body → Body} → sight_of R x ≡ Some (sight y special) → IsNew Rc y → MayBeAssigned A muts k x → Takes o e
      → PutBack A muts k R ((x, sight y special) ∷ Rc) xs os f Rd → PutBack A muts k R Rc (x ∷ xs) (o ∷ os) (λ b. tree.runs (tree.assign m (own y) e) (f b)) Rd

-- around what the call gives: nothing, the value of one variable, values of several
pub data HandsBack (A : Asked) (muts : List Bool) (k : Plan) (R : Renaming) (e : Exp) (Rs : Renaming) : List ℕ → Renaming → (Body → Body) → Type 0 where
  hands_none : HandsBack A muts k R e Rs [] Rs (λ b. tree.runs e b)
  hands_assigned : {x y : ℕ} {m : Mark} → sight_of Rs x ≡ None → IsNew Rs y → sight_of R x ≡ Some (sight y special) → MayBeAssigned A muts k x
      → HandsBack A muts k R e Rs (x ∷ []) ((x, sight y special) ∷ Rs) (λ b. tree.runs (tree.assign m (own y) e) b)
  hands_declared : {x y n i : ℕ} {mutable : Bool} {Rr : Renaming} → Receiving R Rs (x ∷ []) (y ∷ []) Rr
      → HandsBack A muts k R e Rs (x ∷ []) Rr (λ b. tree.lets n (tree.bind i y (tree.by_value mutable)) (tree.of_value e) b)
  hands_several : {x z n : ℕ} {xs os : List ℕ} {ps : Subpatterns} {Rr Rd : Renaming} {g : Body → Body} → Receiving R Rs (x ∷ z ∷ xs) os Rr → Receives 0 os ps → PutBack A muts k R Rr (x ∷ z ∷ xs) os g Rd
      → HandsBack A muts k R e Rs (x ∷ z ∷ xs) Rd (λ b. tree.lets n (tree.parts ps) (tree.of_value e) (g b))

-- with the new function's variables where the run ends there
pub data Redeclared (Rb : Renaming) : Renaming → List ℕ → (Body → Body) → Renaming → Type 0 where
  none_again : {Rc : Renaming} → Redeclared Rb Rc [] (λ b. b) Rc
  again_and : {Rc Rd : Renaming} {x y z n : ℕ} {xs : List ℕ} {f : Body → Body} → sight_of Rb x ≡ Some (sight z special) → sight_of Rc x ≡ None → IsNew Rc y
      → Redeclared Rb ((x, sight y special) ∷ Rc) xs f Rd → Redeclared Rb Rc (x ∷ xs) (λ b. tree.declares n (y ∷ []) (f b)) Rd

-- In place of the run, in front of the rest of the block, with the variables of that rest. Of those outside, what is handed out is left
-- out meanwhile.
pub data Handed (A : Asked) (muts : List Bool) (k : Plan) (R Rb : Renaming) (e : Exp) : Renaming → (Body → Body) → Type 0 where
  handed_on : {Rn : Renaming} {f g : Body → Body} (Rs Rr Rd : Renaming) → Within Rs R → NotHanded A muts k next Rs → HandsBack A muts k R e Rs (k.outs next) Rr g → Redeclared Rb Rr k.redeclared f Rd → Within Rn Rd → Within R Rn
      → Handed A muts k R Rb e Rn (λ b. g (f b))
