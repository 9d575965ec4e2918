-- What private functions do: effects of sites, by the numbers of roots.
use Rattle.std.specs.Prelude.{◌≡◌, ℕ, ◌||◌, List, [], ◌∷◌, Option, Some, None, slice_get}
use Rattle.rx_typed.specs.Tree as tree
use Rattle.rx_lower_walks.specs.Actions.{Action}
use Rattle.rx_graph.specs.declared.effect.Effect.{Effect}
use Rattle.rx_graph.specs.Facts.{has}
use Rattle.rx_lower_walks.specs.declared.actions.Root.{Root}
use Rattle.rx_lower_walks.specs.PlainFlow.{plain-Root}
use Rattle.rx_facts_tables.specs.Live.{has_root, used, written, roots_of}

-- the numbers of these, of those that have one
abbrev pub Numbers : List Root → List tree.Root → List ℕ → Type 0
Numbers W rs ns = (k : ℕ) (r : Root) → slice_get W k ≡ Some r → has ns k ≡ has_root rs (plain-Root r)

-- the numbers of these are added, of those that have one
abbrev pub Adds : List Root → List tree.Root → List ℕ → List ℕ → Type 0
Adds W rs old new = (k : ℕ) (r : Root) → slice_get W k ≡ Some r → has new k ≡ (has old k || has_root rs (plain-Root r))

pub record DoesAt (W : List Root) (e : Effect) (a : Action) : Type 0 where
  pub gives : Numbers W (used a.act) e.gives
  pub kills : Numbers W (roots_of (written a.act)) e.kills

abbrev pub listed : Option ℕ → List ℕ
listed None = []
listed (Some n) = n ∷ []
