-- A word is a number in one way: the suffix is where the first `u` or `i` stands, and the prefix tells the base.
use Rattle.std.proofs.Common.{◌≡◌, ℕ, ◌+◌, ◌*◌, ◌≤◌, ◌<◌, Bool, true, false, cond, List, [], ◌∷◌, ◌++◌, length, get_or, take, drop, Option, Some, None, refl, sym, ap, subst, ◌∙◌, arith, inl, inr}
use Rattle.std.specs.Prelude.{◌==◌, ◌&&◌, not, codes}
use Rattle.std.specs.List.{list_all, list_any}
use Rattle.std.specs.Option.{MatchOption}
use Rattle.std.proofs.lemmas.Bool.{and_parts, and_from, or_from, not-true, false≢true, both_ways, false_from_ne_true, eqb-true, ne_eqb, cases_Bool}
use Rattle.rx_core.specs.declared.types.Kind.{Kind}
use Rattle.rx_core.specs.declared.types.Kind.TheVariants.{U8, U32, U64, I32, I64}
use Rattle.std.proofs.lemmas.List.{take-append-drop, at_drop_more}
use Rattle.std.proofs.Math.Nat.{mul-le-mul_left}
use Rattle.rx_core.specs.Bytes.{same_bytes}
use Rattle.rx_lex.specs.declared.numeral.Base.{Base}
use Rattle.rx_lex.specs.declared.numeral.Base.TheVariants.{Hexadecimal, Octal, Binary}
use Rattle.rx_lex.specs.Numerals.{IsNumeral, decimal, based, is_digit, is_digit_of, is_among, is_among_decimal, digit_value, value_from, prefix, radix, suffix_text, greatest}
use Rattle.rx_lex.specs.Digits.{IsBody, decimal_body, based_body, begins_suffix, body_length, base_of, is_decimal}
use Rattle.rx_lex.proofs.FirstBytes.{all_more}

-- ---- the suffix

-- no digit is the first byte of a suffix
abbrev keeps_on : ℕ → Bool
keeps_on c = not (begins_suffix c)

not_suffix : (P : ℕ → Bool) → P 117 ≡ false → P 105 ≡ false → (c : ℕ) → P c ≡ true → keeps_on c ≡ true
not_suffix P p q c e =
    let f : begins_suffix c ≡ false = or_from (c == 117) (c == 105)
    (false_from_ne_true (c == 117) (λ h. both_ways (P c) (ap P (eqb-true c 117 h) ∙ p) e))
    (false_from_ne_true (c == 105) (λ h. both_ways (P c) (ap P (eqb-true c 105 h) ∙ q) e)) in
    ap not f

decimal_keeps_on : (cs : List ℕ) → list_all is_among_decimal cs ≡ true → list_all keeps_on cs ≡ true
decimal_keeps_on cs e = all_more is_among_decimal keeps_on (not_suffix is_among_decimal refl refl) cs e

base_keeps_on : (b : Base) (c : ℕ) → is_among b c ≡ true → keeps_on c ≡ true
base_keeps_on Hexadecimal c e = not_suffix (is_among Hexadecimal) refl refl c e
base_keeps_on Octal c e = not_suffix (is_among Octal) refl refl c e
base_keeps_on Binary c e = not_suffix (is_among Binary) refl refl c e

body_keeps_on : {w : List ℕ} {v : ℕ} → IsBody w v → list_all keeps_on w ≡ true
body_keeps_on (decimal_body c cs d a e) =
    ap (list_all keeps_on) e ∙ and_from (keeps_on c) (list_all keeps_on cs) (not_suffix is_digit refl refl c d) (decimal_keeps_on cs a)
body_keeps_on (based_body Hexadecimal cs a n e) = ap (list_all keeps_on) e ∙ all_more (is_among Hexadecimal) keeps_on (base_keeps_on Hexadecimal) cs a
body_keeps_on (based_body Octal cs a n e) = ap (list_all keeps_on) e ∙ all_more (is_among Octal) keeps_on (base_keeps_on Octal) cs a
body_keeps_on (based_body Binary cs a n e) = ap (list_all keeps_on) e ∙ all_more (is_among Binary) keeps_on (base_keeps_on Binary) cs a

suffix_length : (k : Option Kind) → body_length (suffix_text k) ≡ 0
suffix_length None = refl
suffix_length (Some U8) = refl
suffix_length (Some U32) = refl
suffix_length (Some U64) = refl
suffix_length (Some I32) = refl
suffix_length (Some I64) = refl

splits_at : (b s : List ℕ) → list_all keeps_on b ≡ true → body_length s ≡ 0 → (take (body_length (b ++ s)) (b ++ s) ≡ b) × (drop (body_length (b ++ s)) (b ++ s) ≡ s)
splits_at [] s a e = rw e (refl, refl)
splits_at (c ∷ b) s a e =
    let p = and_parts (keeps_on c) (list_all keeps_on b) a in
    let h : begins_suffix c ≡ false = not-true (begins_suffix c) p.0 in
    let q = splits_at b s p.1 e in
    rw h (ap (λ l. c ∷ l) q.0, q.1)

-- a number without its suffix, and its suffix
pub record Parts (w : List ℕ) (v : ℕ) (k : Option Kind) : Type 0 where
  pub body : IsBody (take (body_length w) w) v
  pub suffix : drop (body_length w) w ≡ suffix_text k

parts_of : (w b : List ℕ) (v : ℕ) (k : Option Kind) → IsBody b v → w ≡ b ++ suffix_text k → Parts w v k
parts_of w b v k i e =
    let p = splits_at b (suffix_text k) (body_keeps_on i) (suffix_length k) in
    subst (λ l. Parts l v k) (sym e) (record { body = subst (λ l. IsBody l v) (sym p.0) i; suffix = p.1 })

pub numeral_parts : {w : List ℕ} {v : ℕ} {k : Option Kind} → IsNumeral w v k → Parts w v k
numeral_parts {w = w} (decimal c cs k d a e) = parts_of w (c ∷ cs) (value_from 10 0 (c ∷ cs)) k (decimal_body c cs d a refl) e
numeral_parts {w = w} (based Hexadecimal cs k a n e) = parts_of w (prefix Hexadecimal ++ cs) (value_from 16 0 cs) k (based_body Hexadecimal cs a n refl) e
numeral_parts {w = w} (based Octal cs k a n e) = parts_of w (prefix Octal ++ cs) (value_from 8 0 cs) k (based_body Octal cs a n refl) e
numeral_parts {w = w} (based Binary cs k a n e) = parts_of w (prefix Binary ++ cs) (value_from 2 0 cs) k (based_body Binary cs a n refl) e

joined : {w b : List ℕ} {v : ℕ} (k : Option Kind) → IsBody b v → w ≡ b ++ suffix_text k → IsNumeral w v k
joined k (decimal_body c cs d a f) e = decimal c cs k d a (e ∙ ap (λ l. l ++ suffix_text k) f)
joined k (based_body Hexadecimal cs a n f) e = based Hexadecimal cs k a n (e ∙ ap (λ l. l ++ suffix_text k) f)
joined k (based_body Octal cs a n f) e = based Octal cs k a n (e ∙ ap (λ l. l ++ suffix_text k) f)
joined k (based_body Binary cs a n f) e = based Binary cs k a n (e ∙ ap (λ l. l ++ suffix_text k) f)

pub numeral_from : (w : List ℕ) (v n : ℕ) (k : Option Kind) → IsBody (take n w) v → drop n w ≡ suffix_text k → IsNumeral w v k
numeral_from w v n k i e = joined k i (sym (take-append-drop n w) ∙ ap (λ l. take n w ++ l) e)

-- ---- the value

no_letter : (c x : ℕ) → is_among_decimal c ≡ true → is_among_decimal x ≡ false → (c == x) ≡ false
no_letter c x e f = false_from_ne_true (c == x) (λ h. both_ways (is_among_decimal c) (ap is_among_decimal (eqb-true c x h) ∙ f) e)

decimal_no_base : (c : ℕ) (cs : List ℕ) → list_all is_among_decimal cs ≡ true → base_of (c ∷ cs) ≡ None
decimal_no_base c [] a = refl
decimal_no_base c (x ∷ cs) a =
    let p = and_parts (is_among_decimal x) (list_all is_among_decimal cs) a in
    none_of (c == 48) (x == 120) (x == 111) (x == 98) (no_letter x 120 p.0 refl) (no_letter x 111 p.0 refl) (no_letter x 98 p.0 refl)
  where
    none_of : (a b c d : Bool) → b ≡ false → c ≡ false → d ≡ false
        → cond {A = Option Base} a (cond b (Some Hexadecimal) (cond c (Some Octal) (cond d (Some Binary) None))) None ≡ None
    none_of false b c d p q r = refl
    none_of true b c d p q r = rw (p, q, r)

-- what the body's value is, by its base
abbrev pub value_by : Option Base → List ℕ → ℕ
value_by None w = value_from 10 0 w
value_by (Some b) w = value_from (radix b) 0 (drop 2 w)

abbrev pub is_body_by : Option Base → List ℕ → Bool
is_body_by None w = is_decimal w
is_body_by (Some b) w = list_all (is_among b) (drop 2 w) && list_any (is_digit_of b) (drop 2 w)

pub record Reads (w : List ℕ) (v : ℕ) : Type 0 where
  pub is_body : is_body_by (base_of w) w ≡ true
  pub value : v ≡ value_by (base_of w) w

at_base : (w : List ℕ) (v : ℕ) (o : Option Base) → base_of w ≡ o → is_body_by o w ≡ true → v ≡ value_by o w → Reads w v
at_base w v o e a b = record {
  is_body = ap (λ x. is_body_by x w) e ∙ a;
  value = b ∙ ap (λ x. value_by x w) (sym e);
}

pub body_reads : {w : List ℕ} {v : ℕ} → IsBody w v → Reads w v
body_reads {w = w} (decimal_body c cs d a e) =
    at_base w (value_from 10 0 (c ∷ cs)) None (ap base_of e ∙ decimal_no_base c cs a)
    (ap is_decimal e ∙ and_from (is_digit c) (list_all is_among_decimal cs) d a) (ap (value_from 10 0) (sym e))
body_reads {w = w} (based_body Hexadecimal cs a n e) =
    at_base w (value_from 16 0 cs) (Some Hexadecimal) (ap base_of e) (ap (is_body_by (Some Hexadecimal)) e ∙ and_from (list_all (is_among Hexadecimal) cs) (list_any (is_digit_of Hexadecimal) cs) a n)
    (ap (value_by (Some Hexadecimal)) (sym e))
body_reads {w = w} (based_body Octal cs a n e) =
    at_base w (value_from 8 0 cs) (Some Octal) (ap base_of e) (ap (is_body_by (Some Octal)) e ∙ and_from (list_all (is_among Octal) cs) (list_any (is_digit_of Octal) cs) a n)
    (ap (value_by (Some Octal)) (sym e))
body_reads {w = w} (based_body Binary cs a n e) =
    at_base w (value_from 2 0 cs) (Some Binary) (ap base_of e) (ap (is_body_by (Some Binary)) e ∙ and_from (list_all (is_among Binary) cs) (list_any (is_digit_of Binary) cs) a n)
    (ap (value_by (Some Binary)) (sym e))

-- the prefix of its base is at the front
prefixed : (w : List ℕ) (b : Base) → base_of w ≡ Some b → w ≡ prefix b ++ drop 2 w
prefixed [] b e = absurd (cc)
prefixed (z ∷ []) b e = absurd (cc)
prefixed (z ∷ x ∷ t) b e =
    elim (cases_Bool (z == 48)) [
      | inl h ↦ elim (cases_Bool (x == 120)) [
        | inl k ↦ two z x t b Hexadecimal 120 (eqb-true z 48 h) (eqb-true x 120 k) (rw (h, k) at e) refl
        | inr k ↦ elim (cases_Bool (x == 111)) [
          | inl m ↦ two z x t b Octal 111 (eqb-true z 48 h) (eqb-true x 111 m) (rw (h, k, m) at e) refl
          | inr m ↦ elim (cases_Bool (x == 98)) [
            | inl n ↦ two z x t b Binary 98 (eqb-true z 48 h) (eqb-true x 98 n) (rw (h, k, m, n) at e) refl
            | inr n ↦ let f : None ≡ Some b = rw (h, k, m, n) at e in absurd (cc)
          ]
        ]
      ]
      | inr h ↦ let f : None ≡ Some b = rw h at e in absurd (cc)
    ]
  where
    two : (z x : ℕ) (t : List ℕ) (b c : Base) (y : ℕ) → z ≡ 48 → x ≡ y → Some c ≡ Some b → prefix c ≡ 48 ∷ y ∷ [] → z ∷ x ∷ t ≡ prefix b ++ t
    two z x t b c y p q e f =
        let h : c ≡ b = cc in
        let k : z ∷ x ∷ t ≡ 48 ∷ y ∷ t = cc in
        k ∙ (ap (λ l. l ++ t) (sym f) ∙ ap (λ d. prefix d ++ t) h)

body_by : (w : List ℕ) (o : Option Base) → base_of w ≡ o → is_body_by o w ≡ true → IsBody w (value_by o w)
body_by [] None e a = absurd (false≢true a)
body_by (c ∷ cs) None e a = let p = and_parts (is_digit c) (list_all is_among_decimal cs) a in decimal_body c cs p.0 p.1 refl
body_by w (Some b) e a =
    let p = and_parts (list_all (is_among b) (drop 2 w)) (list_any (is_digit_of b) (drop 2 w)) a in
    based_body b (drop 2 w) p.0 p.1 (prefixed w b e)

pub body_from : (w : List ℕ) (o : Option Base) → base_of w ≡ o → is_body_by o w ≡ true → (v : ℕ) → v ≡ value_by o w → IsBody w v
body_from w o e a v h = subst (IsBody w) (sym h) (body_by w o e a)

-- ---- one way

-- the type that a suffix names
abbrev pub named : List ℕ → Option Kind
named [] = None
named (c ∷ cs) =
    cond (same_bytes (c ∷ cs) (codes "u8")) (Some U8) (cond (same_bytes (c ∷ cs) (codes "u32")) (Some U32) (cond (same_bytes (c ∷ cs) (codes "u64")) (Some U64)
    (cond (same_bytes (c ∷ cs) (codes "i32")) (Some I32) (Some I64))))

pub named_suffix : (k : Option Kind) → named (suffix_text k) ≡ k
named_suffix None = refl
named_suffix (Some U8) = refl
named_suffix (Some U32) = refl
named_suffix (Some U64) = refl
named_suffix (Some I32) = refl
named_suffix (Some I64) = refl

pub numeral_one : {w : List ℕ} {v u : ℕ} {k j : Option Kind} → IsNumeral w v k → IsNumeral w u j → (v ≡ u) × (k ≡ j)
numeral_one {k = k} {j = j} a b =
    let p = numeral_parts a in
    let q = numeral_parts b in
    ((body_reads p.body).value ∙ sym (body_reads q.body).value, sym (named_suffix k) ∙ (ap named (sym p.suffix ∙ q.suffix) ∙ named_suffix j))

-- ---- digits from the left

pub value_grows : (r s : ℕ) (cs : List ℕ) → 1 ≤ r → s ≤ value_from r s cs
value_grows r s [] h = omega arith
value_grows r s (c ∷ cs) h =
    let k = value_grows r (cond (c == 95) s (s * r + digit_value c)) cs h in
    let m : s ≤ cond (c == 95) s (s * r + digit_value c) = step (c == 95) s r (digit_value c) h in
    omega arith
  where
    step : (b : Bool) (s r d : ℕ) → 1 ≤ r → s ≤ cond b s (s * r + d)
    step true s r d h = omega arith
    step false s r d h = let m : s * 1 ≤ s * r = mul-le-mul_left s h in omega arith

-- where the next digit takes more than 64 bits, the whole number does
pub too_great : (r s : ℕ) (ds : List ℕ) (i : ℕ) → 1 ≤ r → i < length ds → (get_or ds i 0 ≡ 95 → ⊥) → (s * r + digit_value (get_or ds i 0) < 18446744073709551616 → ⊥)
    → greatest < value_from r s (drop i ds)
too_great r s ds i p h n b =
    let c = get_or ds i 0 in
    let e = at_drop_more (value_from r s) ds i 0 h in
    let f : (c == 95) ≡ false = ne_eqb c 95 n in
    let g : value_from r s (drop i ds) ≡ value_from r (s * r + digit_value c) (drop (i + 1) ds) =
    e ∙ ap (λ t. value_from r (cond t s (s * r + digit_value c)) (drop (i + 1) ds)) f in
    let k = value_grows r (s * r + digit_value c) (drop (i + 1) ds) p in
    omega arith

-- ---- what the reading of a body answers

pub no_body : (w : List ℕ) (o : Option Base) → base_of w ≡ o → is_body_by o w ≡ false → (v : ℕ) → IsBody w v → ⊥
no_body w o e a v i = both_ways (is_body_by o w) a (ap (λ x. is_body_by x w) (sym e) ∙ (body_reads i).is_body)

pub value_answers : (w : List ℕ) (r : Option ℕ) (o : Option Base) (n : ℕ) → base_of w ≡ o → is_body_by o w ≡ true → n ≡ value_by o w
    → MatchOption r (greatest < n) (λ v. v ≡ n) → MatchOption r ((v : ℕ) → IsBody w v → v ≤ greatest → ⊥) (λ v. IsBody w v)
value_answers w None o n e a b h = λ v i k. let m : v ≡ n = (body_reads i).value ∙ (ap (λ x. value_by x w) e ∙ sym b) in omega arith
value_answers w (Some v) o n e a b h = body_from w o e a v (h ∙ b)

pub no_numeral : (w : List ℕ) (n : ℕ) → n ≡ body_length w → ((k : Option Kind) → drop n w ≡ suffix_text k → ⊥) → (v : ℕ) (k : Option Kind) → IsNumeral w v k → v ≤ greatest → ⊥
no_numeral w n e h v k i b = h k (ap (λ x. drop x w) e ∙ (numeral_parts i).suffix)

pub no_numeral_value : (w : List ℕ) (n : ℕ) → n ≡ body_length w → ((v : ℕ) → IsBody (take n w) v → v ≤ greatest → ⊥) → (v : ℕ) (k : Option Kind) → IsNumeral w v k → v ≤ greatest → ⊥
no_numeral_value w n e h v k i b = h v (subst (λ x. IsBody (take x w) v) (sym e) (numeral_parts i).body) b
