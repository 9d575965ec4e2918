-- What private functions do: an action is in order by the tables, or what is wrong with it.
use Rattle.std.specs.Prelude.{◌≡◌, ◌⊎◌, ℕ, Bool, List, Some}
use Rattle.rx_core.specs.declared.types.Step.{Step}
use Rattle.rx_lower_walks.specs.Actions.{Action}
use Rattle.rx_lower_walks.specs.Graph.{Site, site_at}
use Rattle.rx_facts_tables.specs.Layouts.{plain-Frame}
use Rattle.rx_facts_tables.specs.declared.facts.Setup.{Setup}
use Rattle.rx_facts_tables.specs.declared.judging.Facts.{Facts}
use Rattle.rx_facts_tables.specs.declared.whole.InitFault.{InitFault}
use Rattle.rx_facts_tables.specs.declared.whole.InitFault.TheVariants as fault
use Rattle.rx_facts_tables.specs.Tables.{LooksWell, LooksIll, EntersWell, EntersIll, AssignsWell, AssignsIll}

-- the fault says that this place is unset at this node
abbrev pub Says : InitFault → ℕ → ℕ → List Step → Type 0
Says (fault.Unset n q) m x ss = (n ≡ m) × (q ≡ record { var = x; steps = ss })
Says (fault.Again n y) m x ss = ⊥
Says fault.OutOfMemory m x ss = Unit {0}

abbrev pub Looks : Setup → Facts → ℕ → Action → Type 0
Looks s t i a = LooksWell (plain-Frame s.frame.now) t.unset.rows i a.act

abbrev pub Enters : Setup → Facts → ℕ → Action → Type 0
Enters s t i a = EntersWell s.watched.now t.lost.rows i a.act

abbrev pub Assigns : List Bool → Facts → ℕ → Action → Type 0
Assigns muts t i a = AssignsWell muts t.assigned.rows i a.act

abbrev pub LooksIllAt : Setup → Facts → ℕ → Action → InitFault → Type 0
LooksIllAt s t i a (fault.Unset n q) = (n ≡ a.node) × LooksIll (plain-Frame s.frame.now) t.unset.rows i a.act q
LooksIllAt s t i a (fault.Again n x) = ⊥
LooksIllAt s t i a fault.OutOfMemory = Unit {0}

abbrev pub EntersIllAt : Setup → Facts → ℕ → Action → InitFault → Type 0
EntersIllAt s t i a (fault.Unset n q) = (n ≡ a.node) × EntersIll s.watched.now t.lost.rows i a.act q
EntersIllAt s t i a (fault.Again n x) = ⊥
EntersIllAt s t i a fault.OutOfMemory = Unit {0}

abbrev pub AssignsIllAt : List Bool → Facts → ℕ → Action → InitFault → Type 0
AssignsIllAt muts t i a (fault.Unset n q) = ⊥
AssignsIllAt muts t i a (fault.Again n x) = (n ≡ a.node) × AssignsIll muts t.assigned.rows i a.act x
AssignsIllAt muts t i a fault.OutOfMemory = Unit {0}

pub record Well (s : Setup) (muts : List Bool) (t : Facts) (i : ℕ) (a : Action) : Type 0 where
  pub looks : Looks s t i a
  pub enters : Enters s t i a
  pub assigns : Assigns muts t i a

abbrev pub Ill : Setup → List Bool → Facts → ℕ → Action → InitFault → Type 0
Ill s muts t i a e = LooksIllAt s t i a e ⊎ (EntersIllAt s t i a e ⊎ AssignsIllAt muts t i a e)

abbrev pub AllWell : Setup → List Bool → Facts → List Site → Type 0
AllWell s muts t g = (i : ℕ) (site : Site) → site_at g i ≡ Some site → Well s muts t i site.action

abbrev pub SomeIll : Setup → List Bool → Facts → List Site → InitFault → Type 0
SomeIll s muts t g e = (i : ℕ) × (site : Site) × (site_at g i ≡ Some site) × Ill s muts t i site.action e
