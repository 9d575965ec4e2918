-- A function by other numbers of its lifetimes is under these (`IsUnder` of rx_compact_laws).
use Rattle.std.proofs.Common.{◌≡◌, ◌⊎◌, ℕ, ◌<◌, ◌≤◌, Bool, true, List, map, Some, ap}
use Rattle.rx_core.specs.declared.types.Bound.{Bound}
use Rattle.rx_core.specs.declared.types.Ty.{Ty}
use Rattle.rx_typed.specs.declared.declarations.Decl.{Decl}
use Rattle.rx_typed.specs.declared.declarations.Decl.TheVariants as decl
use Rattle.rx_typed.specs.Regions.{regions_of, region-Ty}
use Rattle.rx_typed.specs.Renaming.{renamed, all_renamed}
use Rattle.rx_compact_laws.specs.MergedSignatures.{AreBoundsUnder, IsUnder}

-- lifetimes that are one, or of which this is known
abbrev pub Related : (ℕ → ℕ → Bool) → ℕ → ℕ → Type 0
Related o l k = (l ≡ k) ⊎ (o l k ≡ true)

-- a function by other numbers of its lifetimes, which are one only where this relates them
pub record RenamedFunction (R : ℕ → ℕ → Type 0) (f : ℕ → ℕ) (old new : Decl) : Type 0 where
  pub count : ℕ
  pub params : List Ty
  pub answer : Ty
  pub bounds : List Bound
  pub was : old ≡ decl.Func count params answer bounds
  pub new_count : ℕ
  pub new_params : List Ty
  pub new_answer : Ty
  pub new_bounds : List Bound
  pub is : new ≡ decl.Func new_count new_params new_answer new_bounds
  pub params_are : regions_of (map region-Ty new_params) ≡ all_renamed f (regions_of (map region-Ty params))
  pub answer_is : region-Ty new_answer ≡ renamed f (region-Ty answer)
  -- but for bounds between lifetimes that became one
  pub bounds_are : AreBoundsUnder f bounds new_bounds
  pub within : (l : ℕ) → l < count → f l < new_count
  pub known : (l k : ℕ) → l < count → k < count → f l ≡ f k → R l k
  pub fewer : new_count ≤ count

pub under : (R : ℕ → ℕ → Type 0) (f : ℕ → ℕ) (d e : Decl) → RenamedFunction R f d e → IsUnder f (Some d) (Some e)
under R f d e r = record {
  count = r.count;
  params = r.params;
  answer = r.answer;
  bounds = r.bounds;
  old = ap (λ x. Some x) r.was;
  new_count = r.new_count;
  new_params = r.new_params;
  new_answer = r.new_answer;
  new_bounds = r.new_bounds;
  new = ap (λ x. Some x) r.is;
  params_are = r.params_are;
  answer_is = r.answer_is;
  bounds_are = r.bounds_are;
}
