-- What a word stands for as a number: decimal digits, with a minus before them or not.
use Rattle.std.specs.Prelude.{ℕ, ◌+◌, ◌-◌, ◌*◌, ℤ, pos, neg_ℤ, Bool, ◌&&◌, if◌then◌else◌, nat_le, nat_lt, nat_eq, List, [], ◌∷◌, length, Option, Some, None}

abbrev pub is_digit : ℕ → Bool
is_digit b = nat_le 48 b && nat_le b 57

-- the value of decimal digits behind those that have this value
abbrev pub digits_from : ℕ → List ℕ → Option ℕ
digits_from value [] = Some value
digits_from value (b ∷ bs) = if is_digit b then digits_from (value * 10 + (b - 48)) bs else None

-- 1 to 19 decimal digits
abbrev pub number_of : List ℕ → Option ℕ
number_of word = if nat_lt 0 (length word) && nat_lt (length word) 20 then digits_from 0 word else None

-- a number from 1 to 1,000
abbrev pub count_among : Option ℕ → Option ℕ
count_among None = None
count_among (Some n) = if nat_le 1 n && nat_le n 1000 then Some n else None

-- 1 to 4 decimal digits, from 1 to 1,000
abbrev pub count_of : List ℕ → Option ℕ
count_of word = if nat_lt (length word) 5 then count_among (number_of word) else None

-- a number within the integers of 64 bits, and one behind a minus
abbrev pub positive_of : Option ℕ → Option ℤ
positive_of None = None
positive_of (Some n) = if nat_le n 9223372036854775807 then Some (pos n) else None

abbrev pub negative_of : Option ℕ → Option ℤ
negative_of None = None
negative_of (Some n) = if nat_le n 9223372036854775808 then Some (neg_ℤ (pos n)) else None

-- a minus or none, and 1 to 19 decimal digits, within the integers of 64 bits
abbrev pub integer_of : List ℕ → Option ℤ
integer_of [] = None
integer_of (b ∷ bs) = if nat_eq b 45 then negative_of (number_of bs) else positive_of (number_of (b ∷ bs))

abbrev pub both : Option ℤ → Option (List ℤ) → Option (List ℤ)
both (Some z) (Some zs) = Some (z ∷ zs)
both _ _ = None

-- each word is such an integer
abbrev pub integers_of : List (List ℕ) → Option (List ℤ)
integers_of [] = Some []
integers_of (word ∷ words) = both (integer_of word) (integers_of words)

-- the words that are
abbrev pub with_front : Option ℤ → List ℤ → List ℤ
with_front None zs = zs
with_front (Some z) zs = z ∷ zs

abbrev pub integers_among : List (List ℕ) → List ℤ
integers_among [] = []
integers_among (word ∷ words) = with_front (integer_of word) (integers_among words)
