-- When a variable or a temporary is live at a site: on some way from the site on it is used, and is not written as a whole before.
-- (RFC 2094, "Liveness".)
use Rattle.std.specs.Prelude.{ℕ, Bool, false, ◌&&◌, ◌||◌, ◌==◌, List, [], ◌∷◌, map, Option, Some, None}
use Rattle.rx_core.specs.declared.types.Step.{Step}
use Rattle.rx_typed.specs.Tree.{Root, variable, temporary, Temporary}
use Rattle.rx_typed.specs.TypedPlaces.{same_root}
use Rattle.rx_lower_walks.specs.Actions.{Act, Read, Write, Borrow, Test, Call, Build, Print, Give, filled}
use Rattle.rx_lower_walks.specs.Graph.{Site}
use Rattle.rx_facts_tables.specs.Along.{Switch, LiesAhead}

abbrev pub has_root : List Root → Root → Bool
has_root [] r = false
has_root (q ∷ qs) r = same_root r q || has_root qs r

-- a write of a part, or through a dereference, is a use; one of the whole is none
abbrev pub entered : Root → List Step → List Root
entered r [] = []
entered r _ = r ∷ []

-- what an action uses
abbrev pub used : Act → List Root
used (Read m p d) = p.root ∷ []
used (Borrow k p d) = p.root ∷ []
used (Test p c) = p.root ∷ []
used (Write p t ss) = temporary t ∷ entered p.root p.steps
used (Call f ts d) = map temporary ts
used (Build w is ts d) = map temporary ts
used (Print t) = temporary t ∷ []
used (Give t) = temporary t ∷ []
used _ = []

abbrev pub whole : Root → List Step → Option Root
whole r [] = Some r
whole r _ = None

abbrev pub in_temporary : Option Temporary → Option Root
in_temporary None = None
in_temporary (Some t) = Some (temporary t)

-- what an action writes as a whole: a variable, or the temporary that it fills
abbrev pub written : Act → Option Root
written (Write p t ss) = whole p.root p.steps
written a = in_temporary (filled a)

abbrev pub roots_of : Option Root → List Root
roots_of None = []
roots_of (Some r) = r ∷ []

-- of one action, uses come before what it writes
abbrev pub living : Root → Switch
living r = record { gives = λ a. has_root (used a.act) r; kills = λ a. has_root (roots_of (written a.act)) r }

abbrev pub IsLive : List Site → Root → ℕ → Type 0
IsLive g r p = LiesAhead g (living r) (p ∷ [])
