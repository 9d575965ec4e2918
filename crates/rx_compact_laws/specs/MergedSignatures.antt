-- The signature of a function by other numbers of its lifetimes, of which several may be one (Rust Reference, "Lifetime bounds"). A bound
-- of a lifetime on itself may be missing.
use Rattle.std.specs.Prelude.{◌≡◌, ◌⊎◌, ℕ, Bool, true, List, map, Option, Some}
use Rattle.rx_core.specs.declared.types.Bound.{Bound}
use Rattle.rx_core.specs.declared.types.Ty.{Ty}
use Rattle.rx_typed.specs.declared.declarations.Decl.{Decl}
use Rattle.rx_typed.specs.declared.declarations.Decl.TheVariants as decl
use Rattle.rx_typed.specs.Regions.{regions_of, region-Ty}
use Rattle.rx_typed.specs.Renaming.{renamed, all_renamed}
use Rattle.rx_region_outlives.specs.Implied.{HasPair}
use Rattle.rx_compact.specs.Outliving.{Outlives}

pub record AreBoundsUnder (f : ℕ → ℕ) (old new : List Bound) : Type 0 where
  pub kept : (l k : ℕ) → HasPair old l k → (f l ≡ f k) ⊎ HasPair new (f l) (f k)
  pub only : (x y : ℕ) → HasPair new x y → (l k : ℕ) × HasPair old l k × (x ≡ f l) × (y ≡ f k)

-- the second declares the function of the first under these numbers
pub record IsUnder (f : ℕ → ℕ) (d e : Option Decl) : Type 0 where
  pub count : ℕ
  pub params : List Ty
  pub answer : Ty
  pub bounds : List Bound
  pub old : d ≡ Some (decl.Func count params answer bounds)
  pub new_count : ℕ
  pub new_params : List Ty
  pub new_answer : Ty
  pub new_bounds : List Bound
  pub new : e ≡ Some (decl.Func new_count new_params new_answer new_bounds)
  pub params_are : regions_of (map region-Ty new_params) ≡ all_renamed f (regions_of (map region-Ty params))
  pub answer_is : region-Ty new_answer ≡ renamed f (region-Ty answer)
  pub bounds_are : AreBoundsUnder f bounds new_bounds

-- lifetimes are one only where they are known to outlive each other
abbrev pub MergesKnown : List Decl → Option Decl → (ℕ → ℕ) → Type 0
MergesKnown D d f = (l k : ℕ) → f l ≡ f k → Outlives D d l k

-- of these, those that are known to outlive each other are one
abbrev pub MergesAll : List Decl → Option Decl → (ℕ → ℕ) → (ℕ → Bool) → Type 0
MergesAll D d f these = (l k : ℕ) → these l ≡ true → these k ≡ true → Outlives D d l k → Outlives D d k l → f l ≡ f k
