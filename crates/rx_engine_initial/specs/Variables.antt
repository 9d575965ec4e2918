-- How a function of a new program has the variables of the text's function, and what is told of them: which of their parts are set, which of
-- their places are there as a whole, which were not assigned. (Rust Reference, "Variables"; "Moved and copied types".)
use Rattle.std.specs.Prelude.{◌≡◌, ℕ, zero, suc, Bool, true, false, ◌&&◌, ◌==◌, List, [], ◌∷◌, Option, None}
use Rattle.rx_core.specs.declared.types.Step.{Step}
use Rattle.rx_core.specs.declared.types.Step.TheVariants as step
use Rattle.rx_typed.specs.Types.{Typ}
use Rattle.rx_typed.specs.Tree.{variable, Function, own}
use Rattle.rx_typed.specs.TypedPlaces.{is_front}
use Rattle.rx_lower_walks.specs.Actions.{Act, Declare, Dead, Read}
use Rattle.rx_lower_walks.specs.Walks.{Among}
use Rattle.rx_facts_tables.specs.Along.{Switch}
use Rattle.rx_facts_tables.specs.Places.{Frame, is_part}
use Rattle.rx_facts_tables.specs.Setting.{is_behind, setting}
use Rattle.rx_facts_tables.specs.Wholes.{placed, is_variable, regains, standing, assigns, begins}
use Rattle.rx_facts_tables.specs.Initialised.{IsFixed}
use Rattle.rx_facts_tables.specs.Live.{living}
use Rattle.rx_engine_initial.specs.Tracing.{View}

pub data Kept : Type 0 where
  -- a variable of the new function, which is for one of the text's
  as_itself : ℕ → ℕ → Kept
  -- one that holds a reference as long as it is there, and is never written
  by_reference : ℕ → Kept

-- the types of the variables of both functions, and whether each is declared `mut`; the text's function
pub record Sides : Type 0 where
  pub frame : Frame
  pub muts : List Bool
  pub frame_there : Frame
  pub muts_there : List Bool
  pub text : Function

-- ways that are the same up to a dereference
pub data SameWay : List Step → List Step → Type 0 where
  both_end : SameWay [] []
  both_field : {i : ℕ} {ss rs : List Step} → SameWay ss rs → SameWay (step.Field i ∷ ss) (step.Field i ∷ rs)
  both_variant : {v : ℕ} {ss rs : List Step} → SameWay ss rs → SameWay (step.Variant v ∷ ss) (step.Variant v ∷ rs)
  both_behind : {m k : Bool} {ss rs : List Step} → SameWay (step.Deref m ∷ ss) (step.Deref k ∷ rs)

-- a part of a variable, and the part of the text's that it is for: of the same places
abbrev pub LikePart : Sides → ℕ → ℕ → ℕ → ℕ → Type 0
LikePart S x y n m = (ss rs : List Step) → SameWay ss rs → is_part S.frame (placed x ss) n ≡ is_part S.frame_there (placed y rs) m

pub record LikeVariable (S : Sides) (x y : ℕ) : Type 0 where
  pub parts : (n : ℕ) → is_part S.frame (own x) n ≡ true → (m : ℕ) × LikePart S x y n m
  pub fixed : IsFixed S.muts x → IsFixed S.muts_there y

-- what is in scope: variables, none twice, and loops, the new function's with the text's
pub record KnownVariables (S : Sides) : Type 0 where
  pub variables : List Kept
  pub loops : List (ℕ × ℕ)
  pub one_there : (x y z : ℕ) → Among (as_itself x y) variables → Among (as_itself x z) variables → y ≡ z
  pub one_here : (x y z : ℕ) → Among (as_itself x z) variables → Among (as_itself y z) variables → x ≡ y
  pub apart : (x y : ℕ) → Among (as_itself x y) variables → Among (by_reference x) variables → ⊥
  pub alike : (x y : ℕ) → Among (as_itself x y) variables → LikeVariable S x y

-- ---- what is told

-- a move of the place or of one that it is in; the begin or the end of the variable
abbrev pub lost : ℕ → List Step → Act → Bool
lost x qs (Declare y) = y == x
lost x qs (Dead y) = y == x
lost x qs (Read true p d) = is_variable p.root x && is_front p.steps qs
lost x qs _ = false

-- a place is there as a whole, and so is each that it is in
abbrev pub standing_in : ℕ → List Step → Switch
standing_in x qs = record { gives = λ a. regains x qs a.act; kills = λ a. lost x qs a.act }

-- it holds until the variable is assigned, and again once it begins
abbrev pub fresh : ℕ → Switch
fresh x = record { gives = λ a. begins x a.act; kills = λ a. assigns x a.act }

-- what holds always; what nothing changes
abbrev pub always : Switch
always = record { gives = λ a. true; kills = λ a. false }

abbrev pub steady : Switch
steady = record { gives = λ a. false; kills = λ a. false }

abbrev pub set_view : Sides → ℕ → ℕ → ℕ → View
set_view S n y m = record { start = false; start_there = false; new = setting S.frame n; old = setting S.frame_there m; live = living (variable y) }

abbrev pub whole_view : ℕ → ℕ → List Step → View
whole_view x y qs = record { start = false; start_there = false; new = standing x qs; old = standing_in y qs; live = living (variable y) }

abbrev pub fresh_view : ℕ → ℕ → View
fresh_view x y = record { start = true; start_there = true; new = fresh x; old = fresh y; live = always }

-- of the new function alone
abbrev pub sure_view : Switch → View
sure_view s = record { start = false; start_there = true; new = s; old = steady; live = always }

pub data IsSeen (S : Sides) (vs : List Kept) : View → Type 0 where
  part_set : (x y n m : ℕ) → Among (as_itself x y) vs → is_part S.frame (own x) n ≡ true → LikePart S x y n m → IsSeen S vs (set_view S n y m)
  there_as_a_whole : (x y : ℕ) (qs : List Step) → Among (as_itself x y) vs → is_behind qs ≡ false → IsSeen S vs (whole_view x y qs)
  not_assigned : (x y : ℕ) → Among (as_itself x y) vs → IsSeen S vs (fresh_view x y)
  reference_set : (x n : ℕ) → Among (by_reference x) vs → is_part S.frame (own x) n ≡ true → IsSeen S vs (sure_view (setting S.frame n))
  reference_there : (x : ℕ) → Among (by_reference x) vs → IsSeen S vs (sure_view (standing x []))

-- the type of a variable
abbrev pub type_at : List (Option Typ) → ℕ → Option Typ
type_at [] x = None
type_at (t ∷ ts) zero = t
type_at (t ∷ ts) (suc x) = type_at ts x
