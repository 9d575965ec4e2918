-- When the matches of a function are covered, and what is said of the first that is not.
use Rattle.std.specs.Prelude.{◌≡◌, ℕ, ◌<◌, ◌≤◌, ◌⊎◌, List, [], ◌∷◌, Option, Some, None}
use Rattle.rx_typed.specs.Types.{Typ, Declarations}
use Rattle.rx_typed.specs.Tree.{Pattern}
use Rattle.rx_cover.specs.Values.{Value, IsOfType}
use Rattle.rx_cover.specs.Matching.{SomeMatches, Covers}
use Rattle.rx_cover.specs.Choices.{Choice}
use Rattle.rx_cover.specs.Width.{width, limit, capped}

-- a scrutinee that is Never has no value
abbrev pub CoversTyp : Declarations → Option Typ → List Pattern → Type 0
CoversTyp D None ps = Unit {0}
CoversTyp D (Some t) ps = Covers D t ps

-- a value of the scrutinee's type that no arm matches
abbrev pub MissesTyp : Declarations → Option Typ → List Pattern → Value → Type 0
MissesTyp D None ps v = ⊥
MissesTyp D (Some t) ps v = IsOfType D t v × (SomeMatches ps v → ⊥)

pub record Covered (D : Declarations) (c : Choice) : Type 0 where
  pub narrow : width c.arms ≤ limit
  pub covers : CoversTyp D c.typ c.arms

pub record TooWideAt (c : Choice) (node count : ℕ) : Type 0 where
  pub here : node ≡ c.node
  pub wide : limit < width c.arms
  pub count_is : count ≡ capped (width c.arms)

pub record MissingAt (D : Declarations) (c : Choice) (node : ℕ) (v : Value) : Type 0 where
  pub here : node ≡ c.node
  pub narrow : width c.arms ≤ limit
  pub misses : MissesTyp D c.typ c.arms v

abbrev pub AllCovered : Declarations → List Choice → Type 0
AllCovered D [] = Unit {0}
AllCovered D (c ∷ cs) = Covered D c × AllCovered D cs

-- of the first match that is not covered this holds
abbrev pub FirstNot : Declarations → (Choice → Type 0) → List Choice → Type 0
FirstNot D P [] = ⊥
FirstNot D P (c ∷ cs) = P c ⊎ (Covered D c × FirstNot D P cs)
