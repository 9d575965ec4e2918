-- The numbers of a function's lifetimes: its own first, then the open ones of its variables' types by the variables' numbers,
-- then those of its temporaries in the order of the first site that fills each, then by site those of a call's signature and
-- a borrow's region.
use Rattle.std.specs.Prelude.{ℕ, ◌+◌, List, [], ◌∷◌, map}
use Rattle.rx_typed.specs.declared.declarations.Decl.{Decl}
use Rattle.rx_typed.specs.Regions.{RegionTyp}
use Rattle.rx_lower_walks.specs.Actions.{Act, Borrow, Call, Action}
use Rattle.rx_typed.specs.Numbers.{open_in, numbered}
use Rattle.rx_typed.specs.Renaming.{Signature, signature}
use Rattle.rx_lower_lifetimes.specs.Values.{Open, Held}
use Rattle.rx_lower_lifetimes.specs.Positions.{own_lifetimes}

abbrev pub all_open : List Open → ℕ
all_open [] = 0
all_open (t ∷ ts) = open_in t.from t.typ + all_open ts

abbrev pub all_numbered : ℕ → List Open → List RegionTyp
all_numbered next [] = []
all_numbered next (t ∷ ts) = numbered t.from next t.typ ∷ all_numbered (next + open_in t.from t.typ) ts

-- all lifetimes of a temporary's type are open
abbrev pub opened : List Held → List Open
opened hs = map (λ h. record { typ = h.typ; from = 0 }) hs

-- what a site has of its own
pub data Own : Type 0 where
  none : Own
  region : ℕ → Own
  signed : Signature → Own

abbrev pub own_of : List Decl → ℕ → Act → Own
own_of D next (Call f ts d) = signed (signature D f next)
own_of D next (Borrow k p d) = region next
own_of D next _ = none

abbrev pub all_owned : List Decl → ℕ → List Action → List Own
all_owned D next [] = []
all_owned D next (a ∷ us) = own_of D next a.act ∷ all_owned D (next + own_lifetimes D a.act) us
