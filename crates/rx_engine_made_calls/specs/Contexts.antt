-- What is had where the call begins: an assignment has what a typing context tells; variables from there on are new, and have the numbers by which they are named.
use Rattle.std.specs.Prelude.{◌≡◌, ◌≤◌, ◌<◌, ℕ, Some}
use Rattle.rx_resolve_names.specs.Meant.{number}
use Rattle.rx_typed.specs.Types.{Typ}
use Rattle.rx_typeck_solver.specs.declared.facts.Subject.{Subject}
use Rattle.rx_typeck_solver.specs.Facts.{Assignment}
use Rattle.rx_engine_holes.specs.Entries.{Context}
use Rattle.rx_engine_changed.specs.Spots.{Spot}
use Rattle.rx_engine_simulation.specs.Sights.{IsNew, Renaming}

abbrev pub Tells : Assignment → Context → Type 0
Tells W B = (x : Subject) (t : Typ) → B x ≡ Some t → W x ≡ t

-- none of the text's is in one that is declared from this spot on
abbrev pub NewFrom : Renaming → Spot → Type 0
NewFrom R p = (n : ℕ) → p.declared ≤ n → IsNew R n

abbrev pub NumberedBefore : Spot → Type 0
NumberedBefore s = (n : ℕ) → n < s.declared → number n ≡ n
