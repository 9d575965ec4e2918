-- Numbers (Rust Reference, "Integer literals"): digits of a base with `_` among them, and the name of a type behind.
use Rattle.std.specs.Prelude.{◌≡◌, ℕ, ◌+◌, ◌-◌, ◌*◌, Bool, true, ◌==◌, ◌&&◌, ◌||◌, if◌then◌else◌, nat_le, List, [], ◌∷◌, ◌++◌, Option, Some, None, codes}
use Rattle.std.specs.List.{list_all, list_any}
use Rattle.rx_core.specs.declared.types.Kind.{Kind}
use Rattle.rx_lex.specs.declared.numeral.Base.{Base}
use Rattle.rx_lex.specs.declared.numeral.Base.TheVariants.{Hexadecimal, Octal, Binary}
use Rattle.rx_core.specs.declared.types.Kind.TheVariants.{U8, U32, U64, I32, I64}

abbrev pub is_digit : ℕ → Bool
is_digit c = nat_le 48 c && nat_le c 57

abbrev pub radix : Base → ℕ
radix Hexadecimal = 16
radix Octal = 8
radix Binary = 2

abbrev pub prefix : Base → List ℕ
prefix Hexadecimal = codes "0x"
prefix Octal = codes "0o"
prefix Binary = codes "0b"

abbrev pub is_digit_of : Base → ℕ → Bool
is_digit_of Hexadecimal c = is_digit c || (nat_le 97 c && nat_le c 102) || (nat_le 65 c && nat_le c 70)
is_digit_of Octal c = nat_le 48 c && nat_le c 55
is_digit_of Binary c = nat_le 48 c && nat_le c 49

-- what may stand among the digits
abbrev pub is_among : Base → ℕ → Bool
is_among b c = is_digit_of b c || (c == 95)

abbrev pub is_among_decimal : ℕ → Bool
is_among_decimal c = is_digit c || (c == 95)

-- what a digit stands for
abbrev pub digit_value : ℕ → ℕ
digit_value c = if nat_le c 57 then c - 48 else (if nat_le c 70 then c - 55 else c - 87)

-- the digits from the left; a `_` stands for nothing
abbrev pub value_from : ℕ → ℕ → List ℕ → ℕ
value_from radix so_far [] = so_far
value_from radix so_far (c ∷ cs) = value_from radix (if c == 95 then so_far else so_far * radix + digit_value c) cs

abbrev pub kind_name : Kind → List ℕ
kind_name U8 = codes "u8"
kind_name U32 = codes "u32"
kind_name U64 = codes "u64"
kind_name I32 = codes "i32"
kind_name I64 = codes "i64"

abbrev pub suffix_text : Option Kind → List ℕ
suffix_text None = []
suffix_text (Some k) = kind_name k

-- the word is a number with this value and this suffix
pub data IsNumeral : List ℕ → ℕ → Option Kind → Type 0 where
  decimal : {w : List ℕ} (c : ℕ) (cs : List ℕ) (k : Option Kind) → is_digit c ≡ true → list_all is_among_decimal cs ≡ true
      → w ≡ c ∷ (cs ++ suffix_text k) → IsNumeral w (value_from 10 0 (c ∷ cs)) k
  based : {w : List ℕ} (b : Base) (cs : List ℕ) (k : Option Kind) → list_all (is_among b) cs ≡ true → list_any (is_digit_of b) cs ≡ true
      → w ≡ prefix b ++ (cs ++ suffix_text k) → IsNumeral w (value_from (radix b) 0 cs) k

-- the greatest value that a number may have
abbrev pub greatest : ℕ
greatest = 18446744073709551615
