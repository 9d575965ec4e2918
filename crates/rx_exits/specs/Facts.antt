-- Facts at sites: of each part of a variable, whether it may be unset, and whether it may be set; of each variable, whether it may stand
-- as a whole. (Rust Reference, "Variables"; "Moved and copied types".)
use Rattle.std.specs.Prelude.{◌≡◌, ◌↔◌, ℕ, ◌<◌, ◌≤◌, Bool, true, false, List, [], length, Some}
use Rattle.rx_lower_walks.specs.Actions.{Act}
use Rattle.rx_lower_walks.specs.Walks.{Among}
use Rattle.rx_lower_walks.specs.Graph.{Site, site_at}
use Rattle.rx_graph.specs.Tables.{at}
use Rattle.rx_facts_tables.specs.Along.{Switch, HoldsAt}
use Rattle.rx_facts_tables.specs.Tracking.{Reached}
use Rattle.rx_facts_tables.specs.Places.{Frame}
use Rattle.rx_facts_tables.specs.Layouts.{plain-Frame, IsSized, IsLayout}
use Rattle.rx_facts_tables.specs.Setting.{sets, unsets}
use Rattle.rx_facts_tables.specs.Wholes.{regains, loses}
use Rattle.rx_facts_tables.specs.Tables.{SomeAt, NoneAt}
use Rattle.rx_exits.specs.declared.marks.MarkSite.{MarkSite}
use Rattle.rx_exits.specs.declared.points_facts.Setup.{Setup}
use Rattle.rx_exits.specs.declared.points_facts.Facts.{Facts}
use Rattle.rx_exits.specs.declared.points_facts.Kind.{Kind}
use Rattle.rx_exits.specs.declared.points_facts.Kind.TheVariants as kind

-- what an action makes true, and false
abbrev pub given : Frame → Kind → ℕ → Act → Bool
given F kind.Unset n a = unsets F n a
given F kind.Set n a = sets F n a
given F kind.Standing x a = regains x [] a

abbrev pub killed : Frame → Kind → ℕ → Act → Bool
killed F kind.Unset n a = sets F n a
killed F kind.Set n a = unsets F n a
killed F kind.Standing x a = loses x [] a

abbrev pub switches : Frame → Kind → ℕ → Switch
switches F k i = record { gives = λ a. given F k i a.act; kills = λ a. killed F k i a.act }

-- what facts are told by belongs together
pub record IsSetup (s : Setup) : Type 0 where
  pub sized : IsSized s.frame.now
  pub layout : IsLayout (plain-Frame s.frame.now) s.layout.now

-- no site writes a variable as a whole whose number is not below this one
abbrev pub WritesBelow : List Site → ℕ → Type 0
WritesBelow g n = (i : ℕ) (s : Site) → site_at g i ≡ Some s → (x : ℕ) → n ≤ x → regains x [] s.action.act ≡ false

-- the tables, by what is true at the start
pub record AreFacts (s : Setup) (g : List Site) (variables : ℕ) (t : Facts) : Type 0 where
  pub unset : Reached g → (p i : ℕ) → p < length g → i < s.layout.now.total → (at t.unset.rows p i ≡ true) ↔ HoldsAt g (switches (plain-Frame s.frame.now) kind.Unset i) true p
  pub set : Reached g → (p i : ℕ) → p < length g → i < s.layout.now.total → (at t.set.rows p i ≡ true) ↔ HoldsAt g (switches (plain-Frame s.frame.now) kind.Set i) false p
  pub standing : Reached g → (p x : ℕ) → p < length g → x < variables → (at t.standing.rows p x ≡ true) ↔ HoldsAt g (switches (plain-Frame s.frame.now) kind.Standing x) false p

-- ---- by the rows of the sites of a point's marks

abbrev pub SomeMarked : List MarkSite → ℕ → (ℕ → Type 0) → Type 0
SomeMarked ms n Q = (m : MarkSite) × Among m ms × (m.point ≡ n) × Q m.site

abbrev pub NoneMarked : List MarkSite → ℕ → (ℕ → Type 0) → Type 0
NoneMarked ms n Q = (m : MarkSite) → Among m ms → m.point ≡ n → Q m.site

-- some of these parts has the fact at some of the marks; none has
abbrev pub SomeThere : List (List ℕ) → List MarkSite → ℕ → ℕ → ℕ → Type 0
SomeThere T ms n first count = SomeMarked ms n (λ i. SomeAt T i first count)

abbrev pub NoneThere : List (List ℕ) → List MarkSite → ℕ → ℕ → ℕ → Type 0
NoneThere T ms n first count = NoneMarked ms n (λ i. NoneAt T i first count)

-- there is a mark of this point; there is none
abbrev pub IsMarked : List MarkSite → ℕ → Type 0
IsMarked ms n = SomeMarked ms n (λ i. Unit {0})

abbrev pub IsUnmarked : List MarkSite → ℕ → Type 0
IsUnmarked ms n = NoneMarked ms n (λ i. ⊥)
