-- A number in parts: digits with what stands before them, and behind them the suffix (Rust Reference, "Integer literals").
use Rattle.std.specs.Prelude.{◌≡◌, ℕ, suc, ◌==◌, Bool, true, false, ◌&&◌, ◌||◌, if◌then◌else◌, List, [], ◌∷◌, ◌++◌, Option, Some, None}
use Rattle.std.specs.List.{list_all, list_any}
use Rattle.rx_lex.specs.declared.numeral.Base.{Base}
use Rattle.rx_lex.specs.declared.numeral.Base.TheVariants.{Hexadecimal, Octal, Binary}
use Rattle.rx_lex.specs.Numerals.{is_digit, is_digit_of, is_among, is_among_decimal, prefix, radix, value_from}

-- the word is a number without a suffix, with this value
pub data IsBody : List ℕ → ℕ → Type 0 where
  decimal_body : {w : List ℕ} (c : ℕ) (cs : List ℕ) → is_digit c ≡ true → list_all is_among_decimal cs ≡ true → w ≡ c ∷ cs
      → IsBody w (value_from 10 0 (c ∷ cs))
  based_body : {w : List ℕ} (b : Base) (cs : List ℕ) → list_all (is_among b) cs ≡ true → list_any (is_digit_of b) cs ≡ true
      → w ≡ prefix b ++ cs → IsBody w (value_from (radix b) 0 cs)

-- a suffix begins with `u` or `i`, and no digit is one of them
abbrev pub begins_suffix : ℕ → Bool
begins_suffix c = (c == 117) || (c == 105)

-- how many bytes come before the suffix
abbrev pub body_length : List ℕ → ℕ
body_length [] = 0
body_length (c ∷ cs) = if begins_suffix c then 0 else suc (body_length cs)

-- the base that a prefix names
abbrev pub base_of : List ℕ → Option Base
base_of (z ∷ x ∷ t) =
    if z == 48 then (if x == 120 then Some Hexadecimal else (if x == 111 then Some Octal else (if x == 98 then Some Binary else None))) else None
base_of _ = None

abbrev pub is_decimal : List ℕ → Bool
is_decimal [] = false
is_decimal (c ∷ cs) = is_digit c && list_all is_among_decimal cs
