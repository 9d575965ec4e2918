-- A number's text has the value and the suffix that `numeral` gives, and so with an index: by the parts of a number.
use Rattle.std.proofs.Common.{◌≡◌, ℕ, ◌≤◌, Bool, true, false, ◌&&◌, cond, List, [], ◌∷◌, ◌++◌, take, drop, Option, Some, None, Ok, refl, sym, ap, subst, ◌∙◌}
use Rattle.std.specs.Prelude.{nat_le}
use Rattle.std.specs.Str.{bytes_eq}
use Rattle.std.proofs.lemmas.Slice.Eq.{bytes_eq-Decides}
use Rattle.std.proofs.lemmas.Bool.{leb-true, le-leb, and_parts}
use Rattle.rx_core.specs.declared.types.Kind.{Kind}
use Rattle.rx_core.specs.declared.types.Kind.TheVariants.{U8, U32, U64, I32, I64}
use Rattle.rx_lex.specs.declared.numeral.Base.{Base}
use Rattle.rx_lex.specs.declared.token.Class.TheVariants as class
use Rattle.rx_lex.specs.Tok.{Tok}
use Rattle.rx_lex.specs.Numerals.{IsNumeral, kind_name, suffix_text, value_from, greatest}
use Rattle.rx_lex.specs.Digits.{IsBody, body_length, base_of}
use Rattle.rx_lex.proofs.NumeralLaws.{numeral_parts, numeral_from, body_reads, body_from, is_body_by, value_by}
use Rattle.rx_parse_grammar.specs.declared.symbol.Symbol.TheVariants as symbol
use Rattle.rx_parse_grammar.specs.grammar.Words.{IsNumber, IsIndex, is_index}
use Rattle.rx_parse_grammar.specs.parser.Symbols.{head}
use Rattle.rx_parse_grammar.specs.parser.Steps.{Parser, and_then, ◌>>=◌, pure, expect}
use Rattle.rx_parse_grammar.specs.parser.Numbers.{numeral, value_of, is_body, body_value, suffix_named, paired, index_value, Numbered, number, number_by, index, index_by}
use Rattle.rx_parse_grammar.proofs.Reading.{Reads, expects}
use Rattle.rx_parse_grammar.proofs.Deriving.{Derives, Found, okay, took, gave, passed, as_also}
use Rattle.rx_core.specs.declared.types.Span.{Span}

same_body : (o : Option Base) (w : List ℕ) → is_body o w ≡ is_body_by o w
same_body None w = refl
same_body (Some b) w = refl

same_value : (o : Option Base) (w : List ℕ) → body_value o w ≡ value_by o w
same_value None w = refl
same_value (Some b) w = refl

some_of : (b : Bool) (x v : ℕ) → cond b (Some x) None ≡ Some v → (b ≡ true) × (x ≡ v)
some_of true x v e = (refl, cc)
some_of false x v e = absurd (cc)

record Valued (w : List ℕ) (v : ℕ) : Type 0 where
  body : IsBody w v
  low : v ≤ greatest

valued : (w : List ℕ) (v : ℕ) → value_of w ≡ Some v → Valued w v
valued w v e =
    let p = some_of (is_body (base_of w) w && nat_le (body_value (base_of w) w) greatest) (body_value (base_of w) w) v e in
    let q = and_parts (is_body (base_of w) w) (nat_le (body_value (base_of w) w) greatest) p.0 in
    record {
      body = body_from w (base_of w) refl (sym (same_body (base_of w) w) ∙ q.0) v (sym p.1 ∙ same_value (base_of w) w);
      low = subst (λ n. n ≤ greatest) p.1 (leb-true (body_value (base_of w) w) greatest q.1);
    }

value_is : (w : List ℕ) (v : ℕ) → IsBody w v → v ≤ greatest → value_of w ≡ Some v
value_is w v b low =
    let r = body_reads b in
    let d : is_body (base_of w) w ≡ true = same_body (base_of w) w ∙ r.is_body in
    let e : body_value (base_of w) w ≡ v = same_value (base_of w) w ∙ sym r.value in
    let m : nat_le (body_value (base_of w) w) greatest ≡ true = le-leb (body_value (base_of w) w) greatest (subst (λ n. n ≤ greatest) (sym e) low) in
    ap (λ b. cond (b && nat_le (body_value (base_of w) w) greatest) (Some (body_value (base_of w) w)) None) d ∙ ap (λ b. cond b (Some (body_value (base_of w) w)) None) m ∙ ap (λ n. Some n) e

-- ---- the suffix

suffix_is : (k : Option Kind) → suffix_named (suffix_text k) ≡ Some k
suffix_is None = refl
suffix_is (Some U8) = refl
suffix_is (Some U32) = refl
suffix_is (Some U64) = refl
suffix_is (Some I32) = refl
suffix_is (Some I64) = refl

picked : (w : List ℕ) (j : Kind) (other : Option (Option Kind)) (k : Option Kind) (b : Bool) → bytes_eq w (kind_name j) ≡ b → cond b (Some (Some j)) other ≡ Some k
    → (other ≡ Some k → w ≡ suffix_text k) → w ≡ suffix_text k
picked w j other k true e q h = let z : Some j ≡ k = cc in (bytes_eq-Decides w (kind_name j)).0 e ∙ ap suffix_text z
picked w j other k false e q h = h q

named_is : (w : List ℕ) (k : Option Kind) → suffix_named w ≡ Some k → w ≡ suffix_text k
named_is [] k e = let z : None ≡ k = cc in ap suffix_text z
named_is (c ∷ cs) k e =
    let w : List ℕ = c ∷ cs in
    picked w U8 _ k (bytes_eq w (kind_name U8)) refl e (λ e.
    picked w U32 _ k (bytes_eq w (kind_name U32)) refl e (λ e.
    picked w U64 _ k (bytes_eq w (kind_name U64)) refl e (λ e.
    picked w I32 _ k (bytes_eq w (kind_name I32)) refl e (λ e.
    picked w I64 _ k (bytes_eq w (kind_name I64)) refl e (λ e. absurd (cc))))))

-- ---- numbers

pair_of : (o : Option ℕ) (p : Option (Option Kind)) (v : ℕ) (k : Option Kind) → paired o p ≡ Some (v, k) → (o ≡ Some v) × (p ≡ Some k)
pair_of (Some u) (Some j) v k e = let z : (u, j) ≡ (v, k) = cc in (ap (λ (p : ℕ × Option Kind). Some p.0) z, ap (λ (p : ℕ × Option Kind). Some p.1) z)
pair_of (Some u) None v k e = absurd (cc)
pair_of None p v k e = absurd (cc)

pub numeral_sound : (w : List ℕ) (v : ℕ) (k : Option Kind) → numeral w ≡ Some (v, k) → IsNumeral w v k × (v ≤ greatest)
unfolding numeral
numeral_sound w v k e =
    let p = pair_of (value_of (take (body_length w) w)) (suffix_named (drop (body_length w) w)) v k e in
    let q = valued (take (body_length w) w) v p.0 in
    (numeral_from w v (body_length w) k q.body (named_is (drop (body_length w) w) k p.1), q.low)

pub numeral_complete : (w : List ℕ) (v : ℕ) (k : Option Kind) → IsNumeral w v k → v ≤ greatest → numeral w ≡ Some (v, k)
unfolding numeral
numeral_complete w v k n low =
    let p = numeral_parts n in
    ap (λ o. paired o (suffix_named (drop (body_length w) w))) (value_is (take (body_length w) w) v p.body low) ∙ ap (λ s. paired (Some v) (suffix_named s)) p.suffix ∙ ap (λ s. paired (Some v) s) (suffix_is k)

-- a number where it stands
abbrev pub numbered : Tok → ℕ → Option Kind → Numbered
numbered t v k = record { span = t.span; value = v; suffix = k }

pub number_take : {A : Type 0} (f : Numbered → Parser A) {vs rest : List Tok} {x : A} (t : Tok) (v : ℕ) (k : Option Kind) → IsNumber t v k → Reads (f (numbered t v k)) vs x rest
    → Reads (number >>= f) (t ∷ vs) x rest
unfolding number
number_take f {vs = vs} {rest = rest} t v k n r = record {
  read = ap (λ o. and_then (number_by o (t ∷ (vs ++ rest))) f) (numeral_complete t.text v k n.numeral n.fits)
      ∙ ap (λ o. and_then (and_then o (λ t i. okay (numbered t v k, i))) f) (expects symbol.Number t (vs ++ rest) refl n.class) ∙ r.read;
}

record TokenMade {A : Type 0} (g : Tok → A) (ts : List Tok) (x : A) : Type 0 where
  c : Tok
  class : c.class ≡ class.Number
  is : ts ≡ c ∷ []
  made : x ≡ g c

made_found : {A : Type 0} (g : Tok → A) → Derives (expect symbol.Number >>= (λ t. pure (g t))) (TokenMade g)
made_found g = took symbol.Number refl (λ c s. gave (record { c = c; class = s; is = refl; made = refl }))

-- the first token of what was read
first_of_front : (i ts r : List Tok) (c : Tok) → i ≡ ts ++ r → ts ≡ c ∷ [] → head i ≡ c
first_of_front i ts r c e f = ap head e ∙ ap (λ z. head (z ++ r)) f

pub number_at : (i : List Tok) (o : Option (ℕ × Option Kind)) → numeral (head i).text ≡ o → (r : List Tok) (x : Numbered) → number_by o i ≡ Ok (x, r)
    → Found (λ ts x. (t : Tok) × (ts ≡ t ∷ []) × (x ≡ numbered t x.value x.suffix) × IsNumber t x.value x.suffix) i x r
number_at i None e r x q = absurd (cc)
number_at i (Some n) e r x q =
    let d = (made_found (λ t. numbered t n.0 n.1)).derive i r x q in
    let h = first_of_front i d.ts r d.part.c d.is d.part.is in
    let w = numeral_sound (d.part.c).text n.0 n.1 (ap (λ (t : Tok). numeral t.text) (sym h) ∙ e) in
    record {
      ts = d.ts;
      is = d.is;
      part = subst (λ x. (t : Tok) × (d.ts ≡ t ∷ []) × (x ≡ numbered t x.value x.suffix) × IsNumber t x.value x.suffix) (sym d.part.made)
          (d.part.c, d.part.is, refl, record { class = d.part.class; numeral = w.0; fits = w.1 });
    }

pub number_took : {A : Type 0} (f : Numbered → Parser A) {E : List Tok → A → Type 0} → ((t : Tok) (v : ℕ) (k : Option Kind) → IsNumber t v k → Derives (f (numbered t v k)) (λ vs x. E (t ∷ vs) x))
    → Derives (number >>= f) E
unfolding number
number_took f {E = E} g = passed (record { derive = λ i r x q. number_at i (numeral (head i).text) refl r x q }) (λ us n w.
    as_also (λ vs x m. subst (λ z. E (z ++ vs) x) (sym w.1) m)
    (subst (λ z. Derives (f z) (λ vs x. E (w.0 ∷ vs) x)) (sym w.2) (g w.0 n.value n.suffix w.3)))

-- ---- indices

pub index_sound : (w : List ℕ) (v : ℕ) → index_value w ≡ Some v → (is_index w ≡ true) × (v ≡ value_from 10 0 w) × (v ≤ greatest)
unfolding index_value
index_sound w v e =
    let p = some_of (is_index w && nat_le (value_from 10 0 w) greatest) (value_from 10 0 w) v e in
    let q = and_parts (is_index w) (nat_le (value_from 10 0 w) greatest) p.0 in
    (q.0, sym p.1, subst (λ n. n ≤ greatest) p.1 (leb-true (value_from 10 0 w) greatest q.1))

pub index_complete : (w : List ℕ) (v : ℕ) → is_index w ≡ true → v ≡ value_from 10 0 w → v ≤ greatest → index_value w ≡ Some v
unfolding index_value
index_complete w v a b low =
    let m : nat_le (value_from 10 0 w) greatest ≡ true = le-leb (value_from 10 0 w) greatest (subst (λ n. n ≤ greatest) b low) in
    ap (λ b. cond (b && nat_le (value_from 10 0 w) greatest) (Some (value_from 10 0 w)) None) a ∙ ap (λ b. cond b (Some (value_from 10 0 w)) None) m ∙ ap (λ n. Some n) (sym b)

pub index_take : {A : Type 0} (f : ℕ × Span → Parser A) {vs rest : List Tok} {x : A} (t : Tok) (v : ℕ) → IsIndex t v → Reads (f (v, t.span)) vs x rest → Reads (index >>= f) (t ∷ vs) x rest
unfolding index
index_take f {vs = vs} {rest = rest} t v n r = record {
  read = ap (λ o. and_then (index_by o (t ∷ (vs ++ rest))) f) (index_complete t.text v n.digits n.value n.fits)
      ∙ ap (λ o. and_then (and_then o (λ t i. okay ((v, t.span), i))) f) (expects symbol.Number t (vs ++ rest) refl n.class) ∙ r.read;
}

pub index_at : (i : List Tok) (o : Option ℕ) → index_value (head i).text ≡ o → (r : List Tok) (x : ℕ × Span) → index_by o i ≡ Ok (x, r)
    → Found (λ ts x. (t : Tok) × (ts ≡ t ∷ []) × (x ≡ (x.0, t.span)) × IsIndex t x.0) i x r
index_at i None e r x q = absurd (cc)
index_at i (Some v) e r x q =
    let d = (made_found (λ t. (v, t.span))).derive i r x q in
    let h = first_of_front i d.ts r d.part.c d.is d.part.is in
    let w = index_sound (d.part.c).text v (ap (λ (t : Tok). index_value t.text) (sym h) ∙ e) in
    record {
      ts = d.ts;
      is = d.is;
      part = subst (λ (x : ℕ × Span). (t : Tok) × (d.ts ≡ t ∷ []) × (x ≡ (x.0, t.span)) × IsIndex t x.0) (sym d.part.made)
          (d.part.c, d.part.is, refl, record { class = d.part.class; digits = w.0; value = w.1; fits = w.2 });
    }

pub index_took : {A : Type 0} (f : ℕ × Span → Parser A) {E : List Tok → A → Type 0} → ((t : Tok) (v : ℕ) → IsIndex t v → Derives (f (v, t.span)) (λ vs x. E (t ∷ vs) x)) → Derives (index >>= f) E
unfolding index
index_took f {E = E} g = passed (record { derive = λ i r x q. index_at i (index_value (head i).text) refl r x q }) (λ us n w.
    as_also (λ vs x m. subst (λ z. E (z ++ vs) x) (sym w.1) m) (subst (λ z. Derives (f z) (λ vs x. E (w.0 ∷ vs) x)) (sym w.2) (g w.0 n.0 w.3)))
