-- What the tests of characters and of names answer: by the characters of the text, cut where the test stopped.
use Rattle.std.proofs.Common.{◌≡◌, ℕ, ◌+◌, ◌≤◌, ◌<◌, Bool, true, false, List, [], ◌∷◌, ◌++◌, length, length-append, length-drop, take, drop, refl, sym, ap, subst, ◌∙◌, arith, append-nil, Ok, Err, Result}
use Rattle.std.specs.Prelude.{◌≢◌, ◌↔◌, ◌&&◌, ◌||◌, not, codes, encode_utf8, IsTrue}
use Rattle.std.specs.Result.{IfOk}
use Rattle.std.specs.List.{list_all}
use Rattle.std.specs.Str.{chars, IsUtf8, IsAscii, IsCharBoundary}
use Rattle.std.proofs.lemmas.Bool.{and_parts, and_from, both_ways, false≢true, false_from_ne_true}
use Rattle.std.proofs.lemmas.List.{take-append-drop, drop-drop, length-take-le}
use Rattle.std.proofs.lemmas.List.Folds.{list_all-append}
use Rattle.std.proofs.lemmas.Str.{IsUtf8-nil, chars-nil, chars-append, chars_past_char, IsUtf8-take, IsUtf8-append, IsUtf8-past_char, IsCharBoundary-at_seam}
use Rattle.std.proofs.Math.Seq.{take-append_seam, take-append-add, take-length}
use Rattle.unicode_normalization.specs.Forms.{IsInForm, Nfc}
use Rattle.rx_core.specs.Bytes.{same_bytes, is_one_of}
use Rattle.rx_lex.specs.Words.{is_start, is_continue, spells_name, is_name, is_identifier, is_lifetime_name, keywords, begins_continue, goes_on}
use Rattle.rx_lex.specs.FrontWord.{Continues, begins_start}
use Rattle.rx_lex.proofs.Names.{name_parts, name_from, spelled_all, goes_on_is, chars_not_empty, ascii_name}

-- ---- the first character

pub char_continues : (t rest : List ℕ) (c n : ℕ) → IsUtf8 t → t ≡ encode_utf8 c ++ rest → n ≡ length (encode_utf8 c) → 1 ≤ n → is_continue c ≡ true → Continues n t
char_continues t rest c n u e k p h =
    let r = IsUtf8-past_char t rest c u e in
    let front : take n t ≡ encode_utf8 c = ap (take n) e ∙ (ap (λ m. take m (encode_utf8 c ++ rest)) k ∙ take-append_seam (encode_utf8 c) rest) in
    let b = IsCharBoundary-at_seam t (encode_utf8 c) rest e r in
    let v : IsUtf8 (take n t) = IsUtf8-take t n u (subst (λ m. IsCharBoundary t m) (sym k) b) in
    let back : drop n t ≡ rest = drop_seam n (encode_utf8 c) rest t k e in
    record {
      not_empty = omega arith;
      within = omega (arith, ap length e, length-append (encode_utf8 c) rest);
      text = v;
      rest = subst IsUtf8 (sym back) r;
      all =
          ap (list_all is_continue) (chars_past_char (take n t) [] c v (front ∙ sym (append-nil (encode_utf8 c))))
          ∙ and_from (is_continue c) (list_all is_continue (chars [])) h (ap (list_all is_continue) chars-nil);
    }
  where
    from_seam : (xs r : List ℕ) → drop (length xs) (xs ++ r) ≡ r
    from_seam [] r = refl
    from_seam (x ∷ xs) r = from_seam xs r

    drop_seam : (n : ℕ) (xs r t : List ℕ) → n ≡ length xs → t ≡ xs ++ r → drop n t ≡ r
    drop_seam n xs r t k e = ap (drop n) e ∙ (ap (λ m. drop m (xs ++ r)) k ∙ from_seam xs r)

pub char_stops : (t rest : List ℕ) (c : ℕ) → IsUtf8 t → t ≡ encode_utf8 c ++ rest → is_continue c ≡ false → goes_on t ≡ false
char_stops t rest c u e h = goes_on_is t ∙ (ap begins_continue (chars_past_char t rest c u e) ∙ h)

-- ---- a run, one character longer

pub record Read (at : ℕ) (t : List ℕ) : Type 0 where
  pub within : at ≤ length t
  pub text : IsUtf8 (take at t)
  pub rest : IsUtf8 (drop at t)
  pub all : list_all is_continue (chars (take at t)) ≡ true

pub read_none : (t : List ℕ) → IsUtf8 t → Read 0 t
read_none t u = record { within = omega arith; text = IsUtf8-nil; rest = u; all = ap (list_all is_continue) chars-nil }

take_more : (at n : ℕ) (t : List ℕ) → at ≤ length t → take (at + n) t ≡ take at t ++ take n (drop at t)
take_more at n t h =
    let k = length-take-le at t h in
    ap (take (at + n)) (sym (take-append-drop at t)) ∙ (ap (λ m. take (m + n) (take at t ++ drop at t)) (sym k) ∙ take-append-add (take at t) (drop at t) n)

pub read_more : (at n : ℕ) (t rest : List ℕ) → rest ≡ drop at t → Read at t → Continues n rest → Read (at + n) t
read_more at n t rest e a b =
    let h = subst (Continues n) e b in
    let w = h.within in
    let v = a.within in
    let f = take_more at n t v in
    record {
      within = omega (arith, length-drop at t);
      text = subst IsUtf8 (sym f) (IsUtf8-append (take at t) (take n (drop at t)) a.text h.text);
      rest = subst IsUtf8 (drop-drop n at t) h.rest;
      all =
          ap (λ l. list_all is_continue (chars l)) f
          ∙ (ap (list_all is_continue) (chars-append (take at t) (take n (drop at t)) a.text)
          ∙ (list_all-append is_continue (chars (take at t)) (chars (take n (drop at t)))
          ∙ and_from (list_all is_continue (chars (take at t))) (list_all is_continue (chars (take n (drop at t)))) a.all h.all));
    }

-- ---- names

begun : (cs : List ℕ) → spells_name cs ≡ true → begins_start cs ≡ true
begun [] e = e
begun (c ∷ cs) e = (and_parts (is_start c) (list_all is_continue cs) e).0

pub not_begun : (w : List ℕ) → begins_start (chars w) ≡ false → is_name w ≡ false
not_begun w e = false_from_ne_true (is_name w) (λ h. let n = name_parts w h in both_ways (begins_start (chars w)) e (begun (chars w) n.spells))

pub stops_early : (w : List ℕ) (n : ℕ) → n < length w → IsUtf8 (take n w) → IsUtf8 (drop n w) → goes_on (drop n w) ≡ false → is_name w ≡ false
stops_early w n h u v e = false_from_ne_true (is_name w) (λ k.
    let m = name_parts w k in
    let a : list_all is_continue (chars (take n w) ++ chars (drop n w)) ≡ true =
    ap (list_all is_continue) (sym (chars-append (take n w) (drop n w) u) ∙ ap chars (take-append-drop n w)) ∙ spelled_all (chars w) m.spells in
    let b = and_parts (list_all is_continue (chars (take n w))) (list_all is_continue (chars (drop n w))) (sym (list_all-append is_continue (chars (take n w)) (chars (drop n w))) ∙ a) in
    let c = chars_not_empty (drop n w) v (not_past w n h) in
    by_first (chars (drop n w)) c b.1 (sym (goes_on_is (drop n w)) ∙ e))
  where
    not_past : (w : List ℕ) (n : ℕ) → n < length w → drop n w ≢ []
    not_past w n h e = let k : length (drop n w) ≡ 0 = ap length e in absurd (omega (arith, length-drop n w))

    by_first : (cs : List ℕ) → cs ≢ [] → list_all is_continue cs ≡ true → begins_continue cs ≡ false → ⊥
    by_first [] n a e = n refl
    by_first (c ∷ cs) n a e = both_ways (is_continue c) e (and_parts (is_continue c) (list_all is_continue cs) a).0

spelled : (cs : List ℕ) → begins_start cs ≡ true → list_all is_continue cs ≡ true → spells_name cs ≡ true
spelled [] s a = s
spelled (c ∷ cs) s a = and_from (is_start c) (list_all is_continue cs) s (and_parts (is_continue c) (list_all is_continue cs) a).1

take_whole : (n : ℕ) (w : List ℕ) → n ≤ length w → length w ≤ n → take n w ≡ w
take_whole n w k h = let e : n ≡ length w = omega arith in ap (λ m. take m w) e ∙ take-length w

pub spells_all : (w : List ℕ) (n : ℕ) → begins_start (chars w) ≡ true → n ≤ length w → length w ≤ n → list_all is_continue (chars (take n w)) ≡ true → spells_name (chars w) ≡ true
spells_all w n s k h a = spelled (chars w) s (ap (λ l. list_all is_continue (chars l)) (sym (take_whole n w k h)) ∙ a)

pub ascii_is_name : (w : List ℕ) → IsAscii w → spells_name (chars w) ≡ true → true ≡ is_name w
ascii_is_name w a s = sym (name_from w (ascii_name w a s))

form_decides : (w : List ℕ) (b : Bool) → IsUtf8 w → spells_name (chars w) ≡ true → IsTrue b ↔ IsInForm Nfc (chars w) → b ≡ is_name w
form_decides w true u s h = sym (name_from w (record { text = u; spells = s; form = h.0 refl }))
form_decides w false u s h = sym (false_from_ne_true (is_name w) (λ k. let m = name_parts w k in false≢true (h.1 m.form)))

pub form_answer : {E : Type 0} (w : List ℕ) (r : Result Bool E) → IsUtf8 w → spells_name (chars w) ≡ true → IfOk r (λ b. IsTrue b ↔ IsInForm Nfc (chars w)) → IfOk r (λ b. b ≡ is_name w)
form_answer w (Ok b) u s h = form_decides w b u s h
form_answer w (Err e) u s h = h

pub name_decides : (w : List ℕ) (b : Bool) → same_bytes w (codes "_") ≡ false → is_one_of w keywords ≡ false → b ≡ is_name w → b ≡ is_identifier w
name_decides w b s k e = e ∙ sym (no_other (is_name w) (same_bytes w (codes "_")) (is_one_of w keywords) s k)
  where
    no_other : (x y z : Bool) → y ≡ false → z ≡ false → (x && not y && not z) ≡ x
    no_other true y z p q = rw (p, q)
    no_other false y z p q = refl

pub line_no_identifier : (w : List ℕ) → same_bytes w (codes "_") ≡ true → false ≡ is_identifier w
line_no_identifier w s = sym (no_line (is_name w) (same_bytes w (codes "_")) (not (is_one_of w keywords)) s)
  where
    no_line : (x y z : Bool) → y ≡ true → (x && not y && z) ≡ false
    no_line true y z p = rw p
    no_line false y z p = refl

pub keyword_no_identifier : (w : List ℕ) → is_one_of w keywords ≡ true → false ≡ is_identifier w
keyword_no_identifier w k = sym (no_word (is_name w && not (same_bytes w (codes "_"))) (is_one_of w keywords) k)
  where
    no_word : (x y : Bool) → y ≡ true → (x && not y) ≡ false
    no_word true y p = rw p
    no_word false y p = refl

pub line_lifetime : (w : List ℕ) → same_bytes w (codes "_") ≡ true → true ≡ is_lifetime_name w
line_lifetime w s = sym (any_line (is_identifier w) (same_bytes w (codes "_")) s)
  where
    any_line : (x y : Bool) → y ≡ true → (x || y) ≡ true
    any_line true y p = refl
    any_line false y p = p

pub other_lifetime : (w : List ℕ) (b : Bool) → same_bytes w (codes "_") ≡ false → b ≡ is_identifier w → b ≡ is_lifetime_name w
other_lifetime w b s e = e ∙ sym (no_line (is_identifier w) (same_bytes w (codes "_")) s)
  where
    no_line : (x y : Bool) → y ≡ false → (x || y) ≡ x
    no_line true y p = refl
    no_line false y p = p
