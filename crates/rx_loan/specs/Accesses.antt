-- What actions access, and which loans conflict with that. (RFC 2094, "Access legality". What differs: no loan is in two phases.)
use Rattle.std.specs.Prelude.{ℕ, Bool, true, false, ◌&&◌, ◌||◌, if◌then◌else◌, Option, Some, None}
use Rattle.rx_typed.specs.Tree.{Place, own}
use Rattle.rx_lower_walks.specs.Matching.{Check, has_tag, equals}
use Rattle.rx_lower_walks.specs.Actions.{Act, Dead, Read, Write, Borrow, Test}
use Rattle.rx_typed.specs.TypedPlaces.{is_prefix}
use Rattle.rx_loan.specs.Places.{is_shallow_prefix, is_supporting_prefix}

pub record Access : Type 0 where
  pub deep : Bool
  pub write : Bool
  pub place : Place

-- a test of a tag looks at nothing below it
abbrev pub looks_below : Check → Bool
looks_below (has_tag v) = false
looks_below (equals c) = true

-- moves and mutable borrows are deep writes, copies and shared borrows deep reads; writes and ends of variables are shallow writes
abbrev pub accessed : Act → Option Access
accessed (Read moves p d) = Some (record { deep = true; write = moves; place = p })
accessed (Borrow mutable p d) = Some (record { deep = true; write = mutable; place = p })
accessed (Test p c) = Some (record { deep = looks_below c; write = false; place = p })
accessed (Write p t ss) = Some (record { deep = false; write = true; place = p })
accessed (Dead x) = Some (record { deep = false; write = true; place = own x })
accessed _ = None

-- a loan: the site of its borrow, how long it goes, whether it is mutable, what is borrowed
pub record Loan : Type 0 where
  pub site : ℕ
  pub region : ℕ
  pub mutable : Bool
  pub place : Place

-- what is accessed is a prefix of the loan's place: of a deep access a supporting one, of a shallow one a shallow one
abbrev pub is_around : Access → Loan → Bool
is_around a l = if a.deep then is_supporting_prefix a.place l.place else is_shallow_prefix a.place l.place

-- or the loan's place is that of the access, or a prefix of it
abbrev pub is_relevant : Access → Loan → Bool
is_relevant a l = is_prefix l.place a.place || is_around a l

-- a read conflicts with a mutable loan, a write with any
abbrev pub conflicts : Access → Loan → Bool
conflicts a l = (a.write || l.mutable) && is_relevant a l

abbrev pub acts_against : Act → Loan → Bool
acts_against a l = against (accessed a) where
  against : Option Access → Bool
  against None = false
  against (Some it) = conflicts it l
