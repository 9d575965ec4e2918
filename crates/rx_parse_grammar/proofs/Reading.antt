-- How a parser reads the tokens that it should: step by step, each with the tokens that it passes.
use Rattle.std.proofs.Common.{◌≡◌, ℕ, zero, suc, ◌≤◌, max, Bool, true, false, List, [], ◌∷◌, ◌++◌, length, Ok, refl, sym, ap, subst, ◌∙◌, arith, append_assoc, append-nil, length-append, add-one, cond}
use Rattle.std.specs.Prelude.{◌≢◌, nat_lt}
use Rattle.std.proofs.lemmas.Bool.Decides.{nat_tests}
use Rattle.rx_core.specs.declared.types.Span.{Span}
use Rattle.rx_lex.specs.Tok.{Tok}
use Rattle.rx_parse_grammar.specs.declared.symbol.Symbol.{Symbol}
use Rattle.rx_parse_grammar.specs.declared.symbol.Symbol.TheVariants as symbol
use Rattle.rx_parse_grammar.specs.grammar.Words.{join, final_span, span_of, IsListOf, no_element, last_element, element}
use Rattle.rx_parse_grammar.specs.parser.Symbols.{symbol_of, peek}
use Rattle.rx_parse_grammar.specs.parser.Steps.{Parser, Got, and_then, ◌>>=◌, pure, next, expect, when_next, within, leaf, node}
use Rattle.rx_parse_grammar.specs.parser.Lists.{Items, elements_from, elements, some_elements, after_element, closed, group}
use Rattle.rx_parse_grammar.proofs.SymbolLemmas.{Stands, is_word, symbol_is, same_self, seen, unseen}

-- the parser reads these tokens as this, before the rest
pub record Reads {A : Type 0} (p : Parser A) (ts : List Tok) (x : A) (rest : List Tok) : Type 0 where
  pub read : p (ts ++ rest) ≡ Ok (x, rest)

pub expects : (q : Symbol) (c : Tok) (rest : List Tok) → is_word q ≡ true → Stands q c → expect q (c ∷ rest) ≡ Ok (c, rest)
unfolding expect
expects q c rest w s = rw (symbol_is q c w s, same_self q)

pub take : {A : Type 0} (f : Tok → Parser A) {vs rest : List Tok} {x : A} (q : Symbol) (c : Tok) → is_word q ≡ true → Stands q c → Reads (f c) vs x rest
    → Reads (expect q >>= f) (c ∷ vs) x rest
take f {vs = vs} {rest = rest} q c w s r = record { read = ap (λ o. and_then o f) (expects q c (vs ++ rest) w s) ∙ r.read }

pub part : {A B : Type 0} {p : Parser A} (f : A → Parser B) {us vs rest : List Tok} {a : A} {x : B} → Reads p us a (vs ++ rest) → Reads (f a) vs x rest
    → Reads (p >>= f) (us ++ vs) x rest
part {p = p} f {us = us} {vs = vs} {rest = rest} r s =
    record { read = ap (λ i. and_then (p i) f) (append_assoc us vs rest) ∙ ap (λ o. and_then o f) r.read ∙ s.read }

-- the last part
pub last : {A B : Type 0} {p : Parser A} (f : A → Parser B) {us rest : List Tok} {a : A} {x : B} → Reads p us a rest → Reads (f a) [] x rest → Reads (p >>= f) us x rest
last f r s = record { read = ap (λ o. and_then o f) r.read ∙ s.read }

pub done : {A : Type 0} {x y : A} {rest : List Tok} → x ≡ y → Reads (pure x) [] y rest
done {rest = rest} e = record { read = ap (λ z. Ok (z, rest)) e }

pub by : {A : Type 0} {ts rest : List Tok} {x : A} (f : Symbol → Parser A) (q : Symbol) → peek (ts ++ rest) ≡ q → Reads (f q) ts x rest → Reads (next >>= f) ts x rest
by {ts = ts} {rest = rest} f q e r = record { read = ap (λ z. f z (ts ++ rest)) e ∙ r.read }

pub here : {A : Type 0} {p : Parser A} (r : Parser A) {ts rest : List Tok} {x : A} {k : Symbol} → peek (ts ++ rest) ≡ k → Reads p ts x rest → Reads (when_next k p r) ts x rest
here r {ts = ts} {rest = rest} {k = k} e s = record { read = rw (seen k (ts ++ rest) e) s.read }

pub there : {A : Type 0} (p : Parser A) {r : Parser A} {ts rest : List Tok} {x : A} {k : Symbol} → peek (ts ++ rest) ≢ k → Reads r ts x rest → Reads (when_next k p r) ts x rest
there r {ts = ts} {rest = rest} {k = k} n s = record { read = rw (unseen k (ts ++ rest) n) s.read }

-- the parser that the next token chooses
pub turned : {A : Type 0} {ts rest : List Tok} {x : A} (f : Symbol → Parser A) (p : Parser A) → f (peek (ts ++ rest)) ≡ p → Reads p ts x rest → Reads (next >>= f) ts x rest
turned {ts = ts} {rest = rest} f p e r = record { read = ap (λ (z : Parser _). z (ts ++ rest)) e ∙ r.read }

pub was_there : {A : Type 0} (p : Parser A) {r : Parser A} {ts rest : List Tok} {x : A} (k : Symbol) → peek (ts ++ rest) ≢ k → Reads (when_next k p r) ts x rest → Reads r ts x rest
was_there p {r = r} {ts = ts} {rest = rest} k n s = record { read = ap (λ b. cond b (p (ts ++ rest)) (r (ts ++ rest))) (sym (unseen k (ts ++ rest) n)) ∙ s.read }

pub room : {A : Type 0} {p : Parser A} {ts rest : List Tok} {x : A} {n d : ℕ} → n ≤ d → Reads p ts x rest → Reads (within n d p) ts x rest
room {n = n} {d = d} b s = let f : nat_lt d n ≡ false = grind (arith, nat_tests) in record { read = rw f s.read }

pub along : {A : Type 0} {p : Parser A} {ts us rest : List Tok} {x : A} → ts ≡ us → Reads p us x rest → Reads p ts x rest
along {p = p} {rest = rest} {x = x} e r = subst (λ z. Reads p z x rest) (sym e) r

pub first_is : (q : Symbol) (c : Tok) → is_word q ≡ true → Stands q c → symbol_of c ≡ q
first_is q c w s = symbol_is q c w s

-- ---- what is made is as the grammar says

abbrev pub got : {A : Type 0} → List Tok → A → ℕ → Got A
got ts x h = record { tree = x; height = h; span = span_of ts }

pub leaf_is : {A : Type 0} (f : Span → A) (s : Span) (ts : List Tok) → s ≡ span_of ts → leaf f s ≡ got ts (f (span_of ts)) 1
leaf_is f s ts e = ap (λ (z : Span). leaf f z) e

pub node_is : {A : Type 0} (f : Span → A) (s : Span) (h : ℕ) (ts : List Tok) → s ≡ span_of ts → node f s h ≡ got ts (f (span_of ts)) (suc h)
node_is f s h ts e = ap (λ (z : Span). node f z h) e ∙ ap (λ n. got ts (f (span_of ts)) n) (add-one h)

-- the tokens of a production stand in its span
pub placed : {A : Type 0} {p : Parser (Got A)} {ts rest : List Tok} {h : ℕ} (f : Span → A) (us : List Tok) → ts ≡ us → Reads p us (got us (f (span_of us)) h) rest
    → Reads p ts (got ts (f (span_of ts)) h) rest
placed {p = p} {rest = rest} {h = h} f us e r = subst (λ z. Reads p z (got z (f (span_of z)) h) rest) (sym e) r

-- ---- spans of joined lists

pub final-append : (s : Span) (us : List Tok) (t : Tok) (vs : List Tok) → final_span s (us ++ (t ∷ vs)) ≡ final_span t.span vs
final-append s [] t vs = refl
final-append s (u ∷ us) t vs = final-append u.span us t vs

-- between two tokens
pub span_between : (us : List Tok) (o c : Tok) → join o.span c.span ≡ span_of (o ∷ (us ++ (c ∷ [])))
span_between us o c = ap (λ (f : Span). join o.span f) (sym (final-append o.span us c []))

-- from a first token to the end of what follows
pub span_from : (t : Tok) (us : List Tok) → us ≢ [] → join t.span (span_of us) ≡ span_of (t ∷ us)
span_from t [] n = absurd (n refl)
span_from t (u ∷ us) n = refl

-- from the begin of a part to a last token
pub span_to : (us : List Tok) (c : Tok) → us ≢ [] → join (span_of us) c.span ≡ span_of (us ++ (c ∷ []))
span_to [] c n = absurd (n refl)
span_to (u ∷ us) c n = ap (λ (f : Span). join u.span f) (sym (final-append u.span us c []))

-- from one part to another
pub span_over : (us : List Tok) (t : Tok) (vs : List Tok) → us ≢ [] → vs ≢ [] → join (span_of us) (span_of vs) ≡ span_of (us ++ (t ∷ vs))
span_over [] t vs m n = absurd (m refl)
span_over (u ∷ us) t [] m n = absurd (n refl)
span_over (u ∷ us) t (v ∷ vs) m n = ap (λ (f : Span). join u.span f) (sym (final-append u.span us t (v ∷ vs)))

pub some_append : (us vs : List Tok) → vs ≢ [] → us ++ vs ≢ []
some_append [] vs n = n
some_append (u ∷ us) vs n = λ e. cc

-- from a first token over parts to the end of a last part
pub span_past : (t : Tok) (us vs : List Tok) → vs ≢ [] → join t.span (span_of vs) ≡ span_of (t ∷ (us ++ vs))
span_past t us [] n = absurd (n refl)
span_past t us (v ∷ vs) n = ap (λ (f : Span). join t.span f) (sym (final-append t.span us v vs))

-- ---- tests of symbols

pub differs : (b : Symbol → Bool) (p q : Symbol) → b p ≡ true → b q ≡ false → p ≢ q
differs b p q x y e = let z : b p ≡ b q = ap b e in cc

-- where the tokens begin with what no end does, there is one
pub some_first : (b : Symbol → Bool) (us : List Tok) → b symbol.End ≡ false → b (peek (us ++ [])) ≡ true → us ≢ []
some_first b us n y e = let z : b (peek ([] ++ [])) ≡ true = subst (λ z. b (peek (z ++ [])) ≡ true) e y in cc

-- a fact of each level that holds of enough of them
pub deeper : (P : ℕ → Type 0) (h d : ℕ) → 1 ≤ h → h ≤ d → ((c : ℕ) → h ≤ suc c → P (suc c)) → P d
deeper P h zero a b f = absurd (omega arith)
deeper P h (suc d) a b f = f d b

-- ---- lists in brackets

pub mapped : {A : Type 0} {D E : List Tok → A → ℕ → Type 0} → ((us : List Tok) (x : A) (h : ℕ) → D us x h → E us x h) → {us : List Tok} {xs : List A} {h : ℕ} → IsListOf D us xs h → IsListOf E us xs h
mapped f no_element = no_element
mapped f (last_element {ts = us} {x = x} {h = h} e) = last_element (f us x h e)
mapped f (element us vs c x xs m n e s l is) = element us vs c x xs m n (f us x m e) s (mapped f l) is

-- an element: it doesn't begin with the closing bracket, and is read before what F allows
pub record Element {A : Type 0} (e : Parser (Got A)) (F : Symbol → Type 0) (close : Symbol) (us : List Tok) (x : A) (h : ℕ) : Type 0 where
  pub front : (rest : List Tok) → peek (us ++ rest) ≢ close
  pub reads : (rest : List Tok) → F (peek rest) → Reads e us (got us x h) rest

abbrev pub items : {A : Type 0} → List A → ℕ → Span → Items A
items l h s = record { list = l; height = h; close = s }

pub some_length : (us : List Tok) → us ≢ [] → 1 ≤ length us
some_length [] n = absurd (n refl)
some_length (u ∷ us) n = omega arith

-- a bracket that closes a list
pub record Closes (close : Symbol) (c : Tok) : Type 0 where
  pub word : is_word close ≡ true
  pub stands : Stands close c
  pub no_comma : close ≢ symbol.Comma

closed_reads : {A : Type 0} (close : Symbol) (e : Parser (Got A)) (found : List A) (i : ℕ) (c : Tok) (y : Items A) (rest : List Tok) → Closes close c → items found i c.span ≡ y
    → Reads (closed close e found i) (c ∷ []) y rest
closed_reads close e found i c y rest k s = take _ close c k.word k.stands (done s)

-- an element, and what follows it
after_reads : {A : Type 0} (close : Symbol) (e : Parser (Got A)) (F : Symbol → Type 0) (again : List A → ℕ → Parser (Items A)) (us : List Tok) (x : A) (h : ℕ) (found : List A) (i : ℕ) (c : Tok)
    (rest : List Tok) → F close → Closes close c → Element e F close us x h
    → Reads (e >>= after_element close e again found i) (us ++ (c ∷ [])) (items (found ++ (x ∷ [])) (max i h) c.span) rest
after_reads close e F again us x h found i c rest fc k el =
    let s = first_is close c k.word k.stands in
    part _ (el.reads (c ∷ rest) (subst F (sym s) fc)) (there _ (λ a. k.no_comma (sym s ∙ a)) (closed_reads close e (found ++ (x ∷ [])) (max i h) c _ rest k refl))

more_reads : {A : Type 0} (close : Symbol) (e : Parser (Got A)) (F : Symbol → Type 0) (again : List A → ℕ → Parser (Items A)) (us vs : List Tok) (m : Tok) (x : A) (h : ℕ) (found : List A) (i : ℕ)
    (y : Items A) (rest : List Tok) → F symbol.Comma → Stands symbol.Comma m → Element e F close us x h → Reads (again (found ++ (x ∷ [])) (max i h)) vs y rest
    → Reads (e >>= after_element close e again found i) (us ++ (m ∷ vs)) y rest
more_reads close e F again us vs m x h found i y rest fc sm el r =
    let s = first_is symbol.Comma m refl sm in
    part _ (el.reads (m ∷ (vs ++ rest)) (subst F (sym s) fc)) (here _ s (take _ symbol.Comma m refl sm r))

elements_read : {A : Type 0} (close : Symbol) (e : Parser (Got A)) (F : Symbol → Type 0) (c : Tok) (rest : List Tok) → F symbol.Comma → F close → Closes close c
    → {us : List Tok} {xs : List A} {h : ℕ} → IsListOf (Element e F close) us xs h → (n : ℕ) (found : List A) (i : ℕ) → length (us ++ (c ∷ [])) ≤ n
    → Reads (elements_from close e n found i) (us ++ (c ∷ [])) (items (found ++ xs) (max i h) c.span) rest
unfolding elements_from
elements_read close e F c rest fm fc k {us = us} l zero found i b = absurd (omega (arith, length-append us (c ∷ [])))
elements_read close e F c rest fm fc k no_element (suc n) found i b =
    let z : i ≡ max i 0 = omega arith in
    here _ (first_is close c k.word k.stands)
    (closed_reads close e found i c _ rest k (ap (λ l. items l i c.span) (sym (append-nil found)) ∙ ap (λ j. items (found ++ []) j c.span) z))
elements_read close e F c rest fm fc k {us = us} (last_element {x = x} {h = h} el) (suc n) found i b =
    there _ (λ a. el.front ((c ∷ []) ++ rest) (sym (ap peek (append_assoc us (c ∷ []) rest)) ∙ a)) (after_reads close e F (elements_from close e n) us x h found i c rest fc k el)
elements_read close e F c rest fm fc k {us = ts} (element us vs m x xs h j el sm more is) (suc n) found i b =
    let shape : ts ++ (c ∷ []) ≡ us ++ (m ∷ (vs ++ (c ∷ []))) = ap (λ z. z ++ (c ∷ [])) is ∙ append_assoc us (m ∷ vs) (c ∷ []) in
    let size : length (vs ++ (c ∷ [])) ≤ n = let z = ap length shape in omega (arith, length-append us (m ∷ (vs ++ (c ∷ [])))) in
    let same : items ((found ++ (x ∷ [])) ++ xs) (max (max i h) j) c.span ≡ items (found ++ (x ∷ xs)) (max i (max h j)) c.span =
    let z : max (max i h) j ≡ max i (max h j) = omega arith in
    ap (λ l. items l (max (max i h) j) c.span) (append_assoc found (x ∷ []) xs) ∙ ap (λ n. items (found ++ (x ∷ xs)) n c.span) z in
    along shape (there _ (λ a. el.front ((m ∷ (vs ++ (c ∷ []))) ++ rest) (sym (ap peek (append_assoc us (m ∷ (vs ++ (c ∷ []))) rest)) ∙ a))
    (more_reads close e F (elements_from close e n) us (vs ++ (c ∷ [])) m x h found i _ rest fm sm el
    (subst (λ z. Reads (elements_from close e n (found ++ (x ∷ [])) (max i h)) (vs ++ (c ∷ [])) z rest) same
    (elements_read close e F c rest fm fc k {us = vs} {xs = xs} {h = j} more n (found ++ (x ∷ [])) (max i h) size))))

-- a whole list and what follows it
pub listed : {A B : Type 0} {close : Symbol} {e : Parser (Got A)} (f : Items A → Parser B) (F : Symbol → Type 0) {us vs rest : List Tok} {xs : List A} {h : ℕ} {y : B} (found : List A) (i : ℕ) (c : Tok)
    → F symbol.Comma → F close → Closes close c → IsListOf (Element e F close) us xs h → Reads (f (items (found ++ xs) (max i h) c.span)) vs y rest
    → Reads (elements close e found i >>= f) (us ++ (c ∷ vs)) y rest
unfolding elements
listed {close = close} {e = e} f F {us = us} {vs = vs} {rest = rest} found i c fm fc k l r =
    along (sym (append_assoc us (c ∷ []) vs))
    (part f (record { read = (elements_read close e F c (vs ++ rest) fm fc k l (length ((us ++ (c ∷ [])) ++ (vs ++ rest))) found i (omega (arith, length-append (us ++ (c ∷ [])) (vs ++ rest)))).read }) r)

some_read : {A : Type 0} (close : Symbol) (e : Parser (Got A)) (F : Symbol → Type 0) (c : Tok) (rest : List Tok) → F symbol.Comma → F close → Closes close c
    → {us : List Tok} {x : A} {xs : List A} {h : ℕ} → IsListOf (Element e F close) us (x ∷ xs) h → Reads (some_elements close e) (us ++ (c ∷ [])) (items (x ∷ xs) h c.span) rest
unfolding some_elements elements
some_read close e F c rest fm fc k {us = us} {x = x} (last_element {h = h} el) =
    let z : max 0 h ≡ h = omega arith in
    subst (λ n. Reads (some_elements close e) (us ++ (c ∷ [])) (items (x ∷ []) n c.span) rest) z (after_reads close e F (elements close e) us x h [] 0 c rest fc k el)
some_read close e F c rest fm fc k {us = ts} (element us vs m x xs h j el sm more is) =
    let shape : ts ++ (c ∷ []) ≡ us ++ (m ∷ (vs ++ (c ∷ []))) = ap (λ z. z ++ (c ∷ [])) is ∙ append_assoc us (m ∷ vs) (c ∷ []) in
    let z : max (max 0 h) j ≡ max h j = omega arith in
    along shape (more_reads close e F (elements close e) us (vs ++ (c ∷ [])) m x h [] 0 _ rest fm sm el
    (record {
      read = (elements_read close e F c rest fm fc k more (length ((vs ++ (c ∷ [])) ++ rest)) (x ∷ []) (max 0 h) (omega (arith, length-append (vs ++ (c ∷ [])) rest))).read
          ∙ ap (λ n. Ok (items (x ∷ xs) n c.span, rest)) z;
    }))

pub some_listed : {A B : Type 0} {close : Symbol} {e : Parser (Got A)} (f : Items A → Parser B) (F : Symbol → Type 0) {us vs rest : List Tok} {x : A} {xs : List A} {h : ℕ} {y : B} (c : Tok)
    → F symbol.Comma → F close → Closes close c → IsListOf (Element e F close) us (x ∷ xs) h → Reads (f (items (x ∷ xs) h c.span)) vs y rest
    → Reads (some_elements close e >>= f) (us ++ (c ∷ vs)) y rest
some_listed {close = close} {e = e} f F {us = us} {vs = vs} {rest = rest} c fm fc k l r =
    along (sym (append_assoc us (c ∷ []) vs)) (part f (some_read close e F c (vs ++ rest) fm fc k l) r)

-- ---- what stands in parentheses

pub closes_paren : (c : Tok) → Stands symbol.CloseParen c → Closes symbol.CloseParen c
closes_paren c s = record { word = refl; stands = s; no_comma = λ a. cc }

module _ {A : Type 0} (e : Parser (Got A)) (t : Span → List A → A) (F : Symbol → Type 0) where
  pub unit_reads : (o c : Tok) (rest : List Tok) → Stands symbol.OpenParen o → Stands symbol.CloseParen c
      → Reads (group e t) (o ∷ c ∷ []) (got (o ∷ c ∷ []) (t (span_of (o ∷ c ∷ [])) []) 1) rest
  unfolding group
  unit_reads o c rest so sc =
      take _ symbol.OpenParen o refl so (here _ (first_is symbol.CloseParen c refl sc) (take _ symbol.CloseParen c refl sc (done (leaf_is (λ s. t s []) (join o.span c.span) (o ∷ c ∷ []) refl))))

  pub parentheses_read : (o c : Tok) (us : List Tok) (x : A) (h : ℕ) (rest : List Tok) → F symbol.CloseParen → Stands symbol.OpenParen o → Stands symbol.CloseParen c
      → Element e F symbol.CloseParen us x h → Reads (group e t) (o ∷ (us ++ (c ∷ []))) (got (o ∷ (us ++ (c ∷ []))) x (suc h)) rest
  unfolding group
  parentheses_read o c us x h rest fc so sc el =
      let s = first_is symbol.CloseParen c refl sc in
      take _ symbol.OpenParen o refl so (there _ (λ a. el.front ((c ∷ []) ++ rest) (sym (ap peek (append_assoc us (c ∷ []) rest)) ∙ a))
      (part _ (el.reads (c ∷ rest) (subst F (sym s) fc)) (there _ (λ a. let z = sym s ∙ a in cc)
      (take _ symbol.CloseParen c refl sc (done (node_is (λ s. x) (join o.span c.span) h (o ∷ (us ++ (c ∷ []))) (span_between us o c)))))))

  pub tuple_reads : (o m c : Tok) (us vs : List Tok) (x : A) (xs : List A) (h i : ℕ) (rest : List Tok) → F symbol.Comma → F symbol.CloseParen → Stands symbol.OpenParen o
      → Stands symbol.Comma m → Stands symbol.CloseParen c → Element e F symbol.CloseParen us x h → IsListOf (Element e F symbol.CloseParen) vs xs i
      → Reads (group e t) (o ∷ (us ++ (m ∷ (vs ++ (c ∷ []))))) (got (o ∷ (us ++ (m ∷ (vs ++ (c ∷ []))))) (t (span_of (o ∷ (us ++ (m ∷ (vs ++ (c ∷ [])))))) (x ∷ xs)) (suc (max h i))) rest
  unfolding group
  tuple_reads o m c us vs x xs h i rest fm fc so sm sc el l =
      let s = first_is symbol.Comma m refl sm in
      let shape : (o ∷ ((us ++ (m ∷ vs)) ++ (c ∷ []))) ≡ o ∷ (us ++ (m ∷ (vs ++ (c ∷ [])))) = ap (λ z. o ∷ z) (append_assoc us (m ∷ vs) (c ∷ [])) in
      take _ symbol.OpenParen o refl so (there _ (λ a. el.front ((m ∷ (vs ++ (c ∷ []))) ++ rest) (sym (ap peek (append_assoc us (m ∷ (vs ++ (c ∷ []))) rest)) ∙ a))
      (part _ (el.reads (m ∷ ((vs ++ (c ∷ [])) ++ rest)) (subst F (sym s) fm)) (here _ s
      (take _ symbol.Comma m refl sm (listed _ F _ _ c fm fc (closes_paren c sc) l
      (done (node_is (λ s. t s (x ∷ xs)) (join o.span c.span) (max h i) (o ∷ (us ++ (m ∷ (vs ++ (c ∷ []))))) (span_between (us ++ (m ∷ vs)) o c ∙ ap span_of shape))))))))
