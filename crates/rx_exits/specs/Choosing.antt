-- What is chosen of lists of variables, and what private functions tell of it.
use Rattle.std.specs.Prelude.{◌≡◌, ◌≢◌, ℕ, Bool, false, not, ◌&&◌, ◌||◌, List, [], ◌∷◌, ◌++◌}
use Rattle.rx_lower_walks.specs.Walks.{Among}
use Rattle.rx_exits_plan.specs.Points.{returns}
use Rattle.rx_exits_plan.specs.Occurrences.{has_number}
use Rattle.rx_exits_plan.specs.Asked.{Asked, IsParam, IsLocal, IsLiveAt}
use Rattle.rx_exits_plan.specs.Plan.{Chosen}
use Rattle.rx_exits_plan.specs.declared.plan.ExitOuts.{ExitOuts}
use Rattle.rx_exits_plan.specs.PlainPlan.{plain-Exit}
use Rattle.rx_exits.specs.Points.{IsPoints, IsReady}
use Rattle.rx_exits.specs.Living.{IsLiving, IsAsked}
use Rattle.rx_exits.specs.declared.choosing.Choice.{Choice}
use Rattle.rx_exits.specs.declared.choosing.Pick.{Pick}

-- some exit of a list hands it out
abbrev pub outs_among : List ExitOuts → ℕ → Bool
outs_among [] x = false
outs_among (e ∷ es) x = has_number x e.outs || outs_among es x

-- ---- choices by walks

abbrev pub IsReadyFor : Choice → Type 0
IsReadyFor (Choice.Param p) = IsReady p.now
IsReadyFor (Choice.Local p) = IsReady p.now
IsReadyFor (Choice.LiveAt l e) = IsAsked l.now

-- what a choice is told by is so of what is asked, and of these params
abbrev pub IsOf : Asked → List ℕ → Choice → Type 0
IsOf A ps (Choice.Param p) = IsPoints A p.now
IsOf A ps (Choice.Local p) = IsPoints A p.now
IsOf A ps (Choice.LiveAt l e) = IsLiving A ps l.now

abbrev pub Means : Asked → List ℕ → Choice → ℕ → Type 0
Means A ps (Choice.Param p) x = IsParam A x
Means A ps (Choice.Local p) x = IsLocal A x
Means A ps (Choice.LiveAt l e) x = IsLiveAt A ps (plain-Exit e) x

-- one more is chosen, or is not
pub data Added (Q : ℕ → Type 0) (x : ℕ) (m n : List ℕ) : Type 0 where
  added : Q x → n ≡ m ++ x ∷ [] → Added Q x m n
  passed : ¬ (Q x) → n ≡ m → Added Q x m n

-- ---- choices by lists

abbrev pub offers : List ℕ → List ℕ → List ℕ → ℕ → Bool
offers moved locals direct x = has_number x moved || (has_number x locals || has_number x direct)

abbrev pub redeclares : List ℕ → List ℕ → List ℕ → ℕ → Bool
redeclares direct behind outs x = has_number x direct && has_number x behind && not (has_number x outs)

abbrev pub loosens : List ℕ → List ℕ → List ℕ → List ExitOuts → ℕ → Bool
loosens foreign behind params exits x = (has_number x foreign || has_number x behind) && not (has_number x params) && not (outs_among exits x)

abbrev pub picks : Pick → ℕ → Bool
picks (Pick.Offered moved locals direct) x = offers moved.now locals.now direct.now x
picks (Pick.Redeclared direct behind outs) x = redeclares direct.now behind.now outs.now x
picks (Pick.Loose foreign behind params exits) x = loosens foreign.now behind.now params.now exits.now x

-- ---- the exits of a plan

-- each exit of a list hands out what is live there, and a `return` nothing
pub record HandsOut (A : Asked) (ps offered : List ℕ) (e : ExitOuts) : Type 0 where
  pub live : plain-Exit e.exit ≢ returns → Chosen (IsLiveAt A ps (plain-Exit e.exit)) offered e.outs
  pub none : plain-Exit e.exit ≡ returns → e.outs ≡ []

abbrev pub AllHandOut : Asked → List ℕ → List ℕ → List ExitOuts → Type 0
AllHandOut A ps offered es = (e : ExitOuts) → Among e es → HandsOut A ps offered e
