-- What private functions do: the facts of each table, and what is asked of a site by the tables.
use Rattle.std.specs.Prelude.{◌≡◌, ◌↔◌, ℕ, zero, suc, ◌+◌, ◌<◌, ◌≤◌, Bool, true, false, ◌==◌, List, [], ◌∷◌, ◌++◌, length, Option, Some, None, slice_get}
use Rattle.rx_core.specs.declared.types.Step.{Step}
use Rattle.rx_core.specs.declared.types.Place as core
use Rattle.rx_typed.specs.Tree.{Place}
use Rattle.rx_lower_walks.specs.Actions.{Act, Action}
use Rattle.rx_lower_walks.specs.Graph.{Site, site_at}
use Rattle.rx_graph.specs.declared.effect.Effect.{Effect}
use Rattle.rx_graph.specs.Facts.{has}
use Rattle.rx_graph.specs.Tables.{at}
use Rattle.rx_facts_tables.specs.Along.{Switch, HoldsAt}
use Rattle.rx_facts_tables.specs.Tracking.{Reached}
use Rattle.rx_facts_tables.specs.Places.{Frame, is_part}
use Rattle.rx_facts_tables.specs.Setting.{sets, unsets, looked_at}
use Rattle.rx_facts_tables.specs.Wholes.{placed, enters, regains, loses, begins}
use Rattle.rx_facts_tables.specs.Wholes as wholes
use Rattle.rx_facts_tables.specs.Initialised.{IsFixed}
use Rattle.rx_facts_tables.specs.Layouts.{plain-Frame, IsSized, IsLayout}
use Rattle.rx_facts_tables.specs.declared.facts.Setup.{Setup}
use Rattle.rx_facts_tables.specs.declared.facts.Kind.{Kind}
use Rattle.rx_facts_tables.specs.declared.facts.Kind.TheVariants as kind

-- ---- places of variables that are kept

-- what holds of the place at a number, where there is one
abbrev pub picked : (core.Place → Bool) → List core.Place → ℕ → Bool
picked f [] i = false
picked f (q ∷ W) zero = f q
picked f (q ∷ W) (suc i) = picked f W i

-- a number is added to a list where something holds
abbrev pub pushed_where : Bool → List ℕ → ℕ → List ℕ
pushed_where true all k = all ++ k ∷ []
pushed_where false all k = all

-- a place is among them
abbrev pub Kept : List core.Place → ℕ → List Step → Type 0
Kept W x qs = (i : ℕ) × (slice_get W i ≡ Some (record { var = x; steps = qs }))

-- more are kept
abbrev pub Keeps : List core.Place → List core.Place → Type 0
Keeps old new = (x : ℕ) (qs : List Step) → Kept old x qs → Kept new x qs

-- those that an action writes a part of are
abbrev pub KeepsFor : List core.Place → Act → Type 0
KeepsFor W a = (x : ℕ) (qs : List Step) → enters x qs a ≡ true → Kept W x qs

-- those that sites write a part of are
abbrev pub KeepsForAll : List core.Place → List Site → Type 0
KeepsForAll W g = (i : ℕ) (s : Site) → site_at g i ≡ Some s → KeepsFor W s.action.act

-- ---- facts

-- the facts of a table: a part may be unset, may be set; a place that is kept may be lost; a variable may be assigned
-- what an action makes true, and false
abbrev pub given : Frame → List core.Place → Kind → ℕ → Act → Bool
given F W kind.Unset n a = unsets F n a
given F W kind.Set n a = sets F n a
given F W kind.Lost i a = picked (λ q. loses q.var q.steps a) W i
given F W kind.Assigned x a = wholes.assigns x a

abbrev pub killed : Frame → List core.Place → Kind → ℕ → Act → Bool
killed F W kind.Unset n a = sets F n a
killed F W kind.Set n a = unsets F n a
killed F W kind.Lost i a = picked (λ q. regains q.var q.steps a) W i
killed F W kind.Assigned x a = begins x a

abbrev pub switches : Frame → List core.Place → Kind → ℕ → Switch
switches F W k i = record { gives = λ a. given F W k i a.act; kills = λ a. killed F W k i a.act }

abbrev pub is_it : Option ℕ → ℕ → Bool
is_it None i = false
is_it (Some n) i = i == n

-- what facts are told by belongs together
pub record IsSetup (s : Setup) : Type 0 where
  pub sized : IsSized s.frame.now
  pub layout : IsLayout (plain-Frame s.frame.now) s.layout.now
  pub few : length s.watched.now ≤ 4294967295

-- what the effect of a site is to do
pub record DoesAt (S : ℕ → Switch) (e : Effect) (a : Action) : Type 0 where
  pub gives : (i : ℕ) → has e.gives i ≡ (S i).gives a
  pub kills : (i : ℕ) → has e.kills i ≡ (S i).kills a

-- the table of facts below a bound
abbrev pub Tells : List Site → (ℕ → Switch) → (ℕ → Bool) → ℕ → List (List ℕ) → Type 0
Tells g S start bound T = Reached g → (p i : ℕ) → p < length g → i < bound → (at T p i ≡ true) ↔ HoldsAt g (S i) (start i) p

-- ---- what is asked of an action, by the rows of its site

-- some of these parts has the fact; none has
abbrev pub SomeAt : List (List ℕ) → ℕ → ℕ → ℕ → Type 0
SomeAt T p first count = (n : ℕ) × (first ≤ n) × (n < first + count) × (at T p n ≡ true)

abbrev pub NoneAt : List (List ℕ) → ℕ → ℕ → ℕ → Type 0
NoneAt T p first count = (n : ℕ) → first ≤ n → n < first + count → at T p n ≡ false

abbrev pub LooksWell : Frame → List (List ℕ) → ℕ → Act → Type 0
LooksWell F unset i a = (p : Place) → looked_at a ≡ Some p → (n : ℕ) → is_part F p n ≡ true → at unset i n ≡ false

abbrev pub LooksIll : Frame → List (List ℕ) → ℕ → Act → core.Place → Type 0
LooksIll F unset i a q = (looked_at a ≡ Some (placed q.var q.steps)) × ((n : ℕ) × (is_part F (placed q.var q.steps) n ≡ true) × (at unset i n ≡ true))

abbrev pub EntersWell : List core.Place → List (List ℕ) → ℕ → Act → Type 0
EntersWell W lost i a = (k : ℕ) (q : core.Place) → slice_get W k ≡ Some q → enters q.var q.steps a ≡ true → at lost i k ≡ false

abbrev pub EntersIll : List core.Place → List (List ℕ) → ℕ → Act → core.Place → Type 0
EntersIll W lost i a q = (enters q.var q.steps a ≡ true) × ((k : ℕ) × (slice_get W k ≡ Some q) × (at lost i k ≡ true))

abbrev pub AssignsWell : List Bool → List (List ℕ) → ℕ → Act → Type 0
AssignsWell muts assigned i a = (x : ℕ) → wholes.assigns x a ≡ true → IsFixed muts x → at assigned i x ≡ false

abbrev pub AssignsIll : List Bool → List (List ℕ) → ℕ → Act → ℕ → Type 0
AssignsIll muts assigned i a x = (wholes.assigns x a ≡ true) × IsFixed muts x × (at assigned i x ≡ true)
