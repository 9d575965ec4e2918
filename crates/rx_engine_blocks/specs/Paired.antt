-- A numbering by pairs: each first number of a pair becomes the second, any other becomes greater by so much that none of these is a second one.
use Rattle.std.specs.Prelude.{◌≡◌, ℕ, ◌+◌, ◌-◌, ◌<◌, nat_eq, Bool, true, false, if◌then◌else◌, List, [], ◌∷◌, Option, Some, None}
use Rattle.rx_engine_blocks.specs.Renumbering.{Renumbering}

abbrev pub Pairs : Type 0
Pairs = List (ℕ × ℕ)

abbrev pub second_of : Pairs → ℕ → Option ℕ
second_of [] n = None
second_of (p ∷ ps) n = if nat_eq p.0 n then Some p.1 else second_of ps n

abbrev pub first_of_pair : Pairs → ℕ → Option ℕ
first_of_pair [] m = None
first_of_pair (p ∷ ps) m = if nat_eq p.1 m then Some p.0 else first_of_pair ps m

abbrev pub or_greater : ℕ → ℕ → Option ℕ → ℕ
or_greater big n None = n + big
or_greater big n (Some m) = m

abbrev pub numbered : Pairs → ℕ → ℕ → ℕ
numbered ps big n = or_greater big n (second_of ps n)

-- and back
abbrev pub unpaired : Option ℕ → ℕ → Option ℕ
unpaired None n = Some n
unpaired (Some m) n = None

abbrev pub less : Bool → Pairs → ℕ → Option ℕ
less true ps n = unpaired (second_of ps n) n
less false ps n = None

abbrev pub or_less : Option ℕ → Pairs → ℕ → ℕ → Option ℕ
or_less (Some n) ps big m = Some n
or_less None ps big m = less (nat_eq ((m - big) + big) m) ps (m - big)

abbrev pub numbered_back : Pairs → ℕ → ℕ → Option ℕ
numbered_back ps big m = or_less (first_of_pair ps m) ps big m

-- no number is in two pairs, and the second ones are small
pub record OneToOne (ps : Pairs) (big : ℕ) : Type 0 where
  pub there : (n m : ℕ) → second_of ps n ≡ Some m → first_of_pair ps m ≡ Some n
  pub back : (n m : ℕ) → first_of_pair ps m ≡ Some n → second_of ps n ≡ Some m
  pub small : (n m : ℕ) → second_of ps n ≡ Some m → m < big

abbrev pub by_pairs : Pairs → Pairs → ℕ → (ℕ → ℕ) → Renumbering
by_pairs ns xs big items = record { nodes = numbered ns big; variables = numbered xs big; items = items }
