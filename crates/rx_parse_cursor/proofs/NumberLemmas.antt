-- `numeral` gives nothing where a text is no number that fits.
use Rattle.std.proofs.Common.{◌≡◌, ℕ, ◌≤◌, Bool, true, false, ◌||◌, List, [], ◌∷◌, Option, Some, None, refl, sym, ap, subst, append-nil}
use Rattle.std.specs.List.{list_all}
use Rattle.std.proofs.lemmas.Bool.{and_parts, and_from}
use Rattle.rx_core.specs.declared.types.Kind.{Kind}
use Rattle.rx_lex.specs.Numerals.{IsNumeral, decimal, is_digit, is_among_decimal, value_from, greatest}
use Rattle.rx_lex.proofs.NumeralLaws.{numeral_one}
use Rattle.rx_parse_grammar.specs.grammar.Words.{is_index}
use Rattle.rx_parse_grammar.specs.parser.Numbers.{numeral, index_value}
use Rattle.rx_parse_grammar.proofs.NumberLaws.{numeral_sound, index_sound, index_complete}

none_by : (w : List ℕ) (o : Option (ℕ × Option Kind)) → numeral w ≡ o → ((v : ℕ) (k : Option Kind) → IsNumeral w v k → v ≤ greatest → ⊥) → None ≡ numeral w
none_by w None e h = sym e
none_by w (Some n) e h = let p = numeral_sound w n.0 n.1 e in absurd (h n.0 n.1 p.0 p.1)

pub no_numeral : (w : List ℕ) → ((v : ℕ) (k : Option Kind) → IsNumeral w v k → v ≤ greatest → ⊥) → None ≡ numeral w
no_numeral w h = none_by w (numeral w) refl h

-- ---- indices

or_left : (a b : Bool) → a ≡ true → (a || b) ≡ true
or_left true b e = refl
or_left false b e = absurd (cc)

digits_among : (cs : List ℕ) → list_all is_digit cs ≡ true → list_all is_among_decimal cs ≡ true
digits_among [] e = refl
digits_among (c ∷ cs) e =
    let p = and_parts (is_digit c) (list_all is_digit cs) e in
    and_from (is_among_decimal c) (list_all is_among_decimal cs) (or_left (is_digit c) _ p.0) (digits_among cs p.1)

index_numeral : (w : List ℕ) → is_index w ≡ true → IsNumeral w (value_from 10 0 w) None
index_numeral [] e = absurd (cc)
index_numeral (c ∷ []) e = decimal c [] None e refl refl
index_numeral (c ∷ d ∷ cs) e =
    let p = and_parts (is_digit c) _ e in
    let q = and_parts _ (list_all is_digit (d ∷ cs)) p.1 in
    decimal c (d ∷ cs) None p.0 (digits_among (d ∷ cs) q.1) (ap (λ l. c ∷ l) (sym (append-nil (d ∷ cs))))

pub found_index : (w : List ℕ) (v : ℕ) (k : Option Kind) → is_index w ≡ true → IsNumeral w v k → v ≤ greatest → Some v ≡ index_value w
found_index w v k i n low = sym (index_complete w v i (numeral_one n (index_numeral w i)).0 low)

none_at : (w : List ℕ) (o : Option ℕ) → index_value w ≡ o → ((v : ℕ) (k : Option Kind) → IsNumeral w v k → v ≤ greatest → ⊥) → None ≡ index_value w
none_at w None e h = sym e
none_at w (Some v) e h =
    let p = index_sound w v e in
    absurd (h (value_from 10 0 w) None (index_numeral w p.0) (subst (λ n. n ≤ greatest) p.1 p.2))

pub no_index : (w : List ℕ) → ((v : ℕ) (k : Option Kind) → IsNumeral w v k → v ≤ greatest → ⊥) → None ≡ index_value w
no_index w h = none_at w (index_value w) refl h

pub not_index : (w : List ℕ) → is_index w ≡ false → None ≡ index_value w
unfolding index_value
not_index w e = rw e
