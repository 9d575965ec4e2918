-- What the uses of a run's params are told by, and what is told of them. (Rust Reference, "Moved and copied types", "Mutability".)
use Rattle.std.specs.Prelude.{◌≡◌, ◌<◌, ℕ, Bool, true, false, not, ◌||◌, ◌&&◌, if◌then◌else◌, List, [], ◌∷◌, length, get_or, slice_get, map, option_map, Option, Some, None, Result, Ok, Err}
use Rattle.std.specs.Bool.{Decides}
use Rattle.std.specs.Option.{is_some}
use Rattle.rx_typed.specs.Types.{Typ, reference, Declarations, copies}
use Rattle.rx_typed.specs.PlainTypes.{declarations, plain-Ty}
use Rattle.rx_lower_walks.specs.Walks.{Among}
use Rattle.rx_exits_plan.specs.Points.{Exit, enters}
use Rattle.rx_exits_plan.specs.declared.plan.ExitOuts.{ExitOuts}
use Rattle.rx_exits_plan.specs.Asked.{Asked, IsParam, IsLiveAt}
use Rattle.rx_exits_plan.specs.Occurrences.{has_number}
use Rattle.rx_exits_plan.specs.Plan.{out_of_some}
use Rattle.rx_exits_plan.specs.PlainPlan.{plain-Exit, outs_in}
use Rattle.rx_exits_plan.specs.Unreachable.{SomeComes}
use Rattle.rx_exits.specs.Living.{IsLiving}
use Rattle.rx_modes_policy.specs.declared.uses.Mode.{Mode}
use Rattle.rx_modes_policy.specs.declared.uses.Uses.{Uses}
use Rattle.rx_modes_policy.specs.Allowed.{allowed_by, HasMember}
use Rattle.rx_modes_uses.specs.Outside.{in_run, outside_run, in_function}
use Rattle.rx_modes_deeds.specs.declared.deeds.Deeds.{Deeds}
use Rattle.rx_modes_deeds.specs.Doings.{AreDeeds, deeds_at}
use Rattle.rx_modes.specs.declared.known.Known.{Known}
use Rattle.rx_modes.specs.declared.plan.ModePlan.{ModePlan}
use Rattle.rx_modes.specs.declared.plan.ModeFault.{ModeFault}
use Rattle.rx_modes.specs.declared.plan.ModeFault.TheVariants as fault

-- ---- what is known of a run

pub record IsKnown (A : Asked) (muts : List Bool) (known : Known) : Type 0 where
  pub declared : A.frame.declared ≡ declarations known.decls.now.items
  pub types : A.frame.types ≡ map (option_map plain-Ty) known.types.now
  pub mutable : known.mutable.now ≡ muts
  pub params : (x : ℕ) → Among x known.plan.now.params → IsParam A x
  pub inside : (x : ℕ) → AreDeeds (in_run A) x (deeds_at known.inside.now x)
  pub outside : (x : ℕ) → AreDeeds (outside_run A) x (deeds_at known.outside.now x)
  pub whole : (x : ℕ) → AreDeeds (in_function A) x (deeds_at known.whole.now x)
  pub living : IsLiving A known.plan.now.params known.living.now
  pub entered : Decides known.entered (SomeComes A enters)

-- ---- types

abbrev pub copies_some : Declarations → Option Typ → Bool
copies_some D (Some t) = copies D t
copies_some D None = false

abbrev pub borrows_mutably : Option Typ → Bool
borrows_mutably (Some (reference true t)) = true
borrows_mutably _ = false

abbrev pub is_copy : Declarations → Option (Option Typ) → Bool
is_copy D (Some t) = copies_some D t
is_copy D None = false

abbrev pub is_mutable_reference : Option (Option Typ) → Bool
is_mutable_reference (Some t) = borrows_mutably t
is_mutable_reference None = false

-- ---- exits

abbrev pub listed : List ExitOuts → List Exit
listed es = map (λ (e : ExitOuts). plain-Exit e.exit) es

abbrev pub LiveBehind : Asked → List ℕ → List ExitOuts → ℕ → Type 0
LiveBehind A params es x = (e : Exit) × Among e (listed es) × IsLiveAt A params e x

-- ---- uses, param by param

pub data Each (Q : ℕ → Uses → Type 0) : List ℕ → List Uses → Type 0 where
  no_more : Each Q [] []
  with : {x : ℕ} {u : Uses} {xs : List ℕ} {us : List Uses} → Q x u → Each Q xs us → Each Q (x ∷ xs) (u ∷ us)

-- whether one has a mode; the first param whose uses allow none
abbrev pub passes : Uses → Bool
passes u = is_some (allowed_by u).first || is_some (allowed_by u).last

abbrev pub first_without : List ℕ → List Uses → Option ℕ
first_without [] us = None
first_without (x ∷ xs) [] = None
first_without (x ∷ xs) (u ∷ us) = if passes u then first_without xs us else Some x

pub record AllPass (us : List Uses) : Type 0 where
  pub each : (i : ℕ) (u : Uses) → i < length us → u ≡ get_or us i u → HasMember (allowed_by u)

-- ---- what is given away, by its uses

abbrev pub gives_away : Uses → Bool
gives_away u = u.moved || (u.through && not (u.mut_ref || u.declared_mut))

-- ---- another storage

-- what the exits hand out, each by the first entry of its kind
abbrev pub is_out : List ExitOuts → ℕ → Bool
is_out es x = out_of_some (listed es) (outs_in es) x

abbrev pub is_moved_in : Known → ℕ → Bool
is_moved_in known x = has_number x known.plan.now.params && (deeds_at known.inside.now x).moved

abbrev pub gets_other : Known → ℕ → Bool
gets_other known x =
    ((is_moved_in known x || has_number x known.plan.now.locals) || is_out known.plan.now.exits x) || has_number x known.plan.now.redeclared

abbrev pub is_borrowed : List Deeds → ℕ → Bool
is_borrowed l x = (deeds_at l x).shared || (deeds_at l x).borrowed_mutably

abbrev pub is_mut : Option Bool → Bool
is_mut (Some b) = b
is_mut None = false

abbrev pub is_aliased : Known → ℕ → Bool
is_aliased known x = (is_mut (slice_get known.mutable.now x) && is_borrowed known.whole.now x) && gets_other known x

abbrev pub first_such : (ℕ → Bool) → List ℕ → Option ℕ
first_such f [] = None
first_such f (x ∷ xs) = if f x then Some x else first_such f xs

-- ---- what a private function answers

abbrev pub PassedBy : Known → List Uses → List ℕ → (Uses → Mode) → Result ModePlan ModeFault → Type 0
PassedBy known us xs choice (Ok it) = (it.modes ≡ map choice us) × (it.moved ≡ map (λ (u : Uses). u.moved) us) × (it.given_away ≡ map gives_away us) × (first_such (is_aliased known) xs ≡ None)
PassedBy known us xs choice (Err (fault.NotMut x)) = ⊥
PassedBy known us xs choice (Err (fault.Aliased x)) = first_such (is_aliased known) xs ≡ Some x
PassedBy known us xs choice (Err fault.OutOfMemory) = Unit {0}
