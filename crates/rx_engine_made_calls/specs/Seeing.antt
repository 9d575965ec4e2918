-- How the caller has a variable of the text, from where it begins: in a slot of its own where it would have another storage in the new function; by its name
-- alone where the new function is given its value, or the reference that it holds; else as the text does. And how the new function has its params (REM,
-- "Extract method": the analysis of ownership).
use Rattle.std.specs.Prelude.{if◌then◌else◌, ◌≡◌, ℕ, Bool, true, false, not, List, [], ◌∷◌, Some}
use Rattle.rx_typed.specs.Types.{Typ}
use Rattle.rx_exits_plan.specs.Asked.{Asked}
use Rattle.rx_exits_plan.specs.Occurrences.{has_number, is_declared_in_run}
use Rattle.rx_exits_plan.specs.Plan.{Plan}
use Rattle.rx_modes_policy.specs.declared.uses.Mode.TheVariants as mode
use Rattle.rx_modes_policy.specs.declared.uses.Mode.{Mode}
use Rattle.rx_modes_given.specs.GivenAway.{is_given_away}
use Rattle.rx_engine_simulation.specs.Sights.{copied, free, plain, shut, sight, special, through, viewed, How, In, Renaming, Sight, sight_of}
use Rattle.rx_engine_related.specs.AboutRun.{special_of}
use Rattle.rx_engine_made_trees.specs.Nodes.{is_unique}

-- params whose value is copied, or whose reference is asked for again
abbrev pub stays_shut : Asked → List Bool → ℕ → Mode → Bool
stays_shut A muts x mode.Value = not (is_given_away A muts x)
stays_shut A muts x mode.Reborrow = true
stays_shut A muts x mode.View = true
stays_shut A muts x mode.Shared = false
stays_shut A muts x mode.Mut = false

abbrev pub cold_of : Asked → List Bool → List ℕ → List Mode → List ℕ
cold_of A muts (x ∷ xs) (m ∷ ms) = if stays_shut A muts x m then x ∷ cold_of A muts xs ms else cold_of A muts xs ms
cold_of A muts _ _ = []

abbrev pub how_outside : Asked → List Bool → Plan → List Mode → ℕ → How
how_outside A muts k modes x = if has_number x (special_of A muts k) then special else (if has_number x (cold_of A muts k.params modes) then plain shut else plain free)

-- a renaming that is chosen so
abbrev pub IsChosen : Asked → List Bool → Plan → List Mode → Renaming → Type 0
IsChosen A muts k modes R = (x y : ℕ) (w : How) → sight_of R x ≡ Some (sight y w) → w ≡ how_outside A muts k modes x

-- it has params and locals, and no variable that the run declares
pub record IsOutside (A : Asked) (k : Plan) (R : Renaming) : Type 0 where
  pub params : (x : ℕ) → In x k.params → (y : ℕ) × (w : How) × (sight_of R x ≡ Some (sight y w))
  pub locals : (x : ℕ) → In x k.locals → (y : ℕ) × (w : How) × (sight_of R x ≡ Some (sight y w))
  pub undeclared : (x : ℕ) (e : Sight) → sight_of R x ≡ Some e → is_declared_in_run A.run A.home.body x ≡ false

-- ---- in the new function

abbrev pub how_inside : Asked → List Bool → ℕ → Mode → How
how_inside A muts x mode.Value = if is_given_away A muts x then special else copied
how_inside A muts x mode.Reborrow = copied
how_inside A muts x mode.View = viewed
how_inside A muts x mode.Shared = through free false
how_inside A muts x mode.Mut = through free true

abbrev pub hows_of : Asked → List Bool → List ℕ → List Mode → List How
hows_of A muts (x ∷ xs) (m ∷ ms) = how_inside A muts x m ∷ hows_of A muts xs ms
hows_of A muts _ _ = []

-- a mode that the uses of a param allow: what is given away is passed by value, what isn't has no other storage; a value that is copied is no unique reference, and a
-- reference that is asked for again is one; whether references may be asked for again
pub data ModeFits (A : Asked) (muts : List Bool) (k : Plan) (again : Bool) (x : ℕ) (t : Typ) : Mode → Type 0 where
  moves : is_given_away A muts x ≡ true → (is_unique t ≡ true → again ≡ true) → ModeFits A muts k again x t mode.Value
  copies : is_given_away A muts x ≡ false → (In x (special_of A muts k) → ⊥) → is_unique t ≡ false → ModeFits A muts k again x t mode.Value
  asks_again : (In x (special_of A muts k) → ⊥) → again ≡ true → is_unique t ≡ true → ModeFits A muts k again x t mode.Reborrow
  looks : (In x (special_of A muts k) → ⊥) → again ≡ true → is_unique t ≡ true → ModeFits A muts k again x t mode.View
  shares : (In x (special_of A muts k) → ⊥) → ModeFits A muts k again x t mode.Shared
  lends : (In x (special_of A muts k) → ⊥) → ModeFits A muts k again x t mode.Mut

-- the mode of a param, by its place in the list
pub data HasMode (x : ℕ) (m : Mode) : List ℕ → List Mode → Type 0 where
  has_here : {xs : List ℕ} {ms : List Mode} → HasMode x m (x ∷ xs) (m ∷ ms)
  has_there : {z : ℕ} {n : Mode} {xs : List ℕ} {ms : List Mode} → HasMode x m xs ms → HasMode x m (z ∷ xs) (n ∷ ms)
