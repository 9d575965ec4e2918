-- What a parser read, the grammar derives: step by step, each with the tokens that it passed.
use Rattle.std.proofs.Common.{◌≡◌, ℕ, zero, suc, ◌≤◌, max, Bool, true, false, cond, List, [], ◌∷◌, ◌++◌, length, Ok, Err, refl, sym, ap, subst, ◌∙◌, arith, append_assoc, append-nil, add-one}
use Rattle.std.specs.Prelude.{◌≢◌, nat_lt}
use Rattle.std.proofs.lemmas.Bool.Decides.{nat_tests}
use Rattle.rx_core.specs.declared.types.Span.{Span}
use Rattle.rx_lex.specs.Tok.{Tok}
use Rattle.rx_parse_grammar.specs.declared.symbol.Symbol.{Symbol}
use Rattle.rx_parse_grammar.specs.declared.symbol.Symbol.TheVariants as symbol
use Rattle.rx_parse_grammar.specs.declared.stop.Stop.TheVariants.{Syntax, TooDeep}
use Rattle.rx_parse_grammar.specs.grammar.Words.{span_of, IsListOf, no_element, last_element, element}
use Rattle.rx_parse_grammar.specs.parser.Symbols.{symbol_of, head, tail, peek}
use Rattle.rx_parse_grammar.specs.parser.Steps.{Parser, Outcome, Got, and_then, ◌>>=◌, pure, refuse, too_deep, next, expect, sees, when_next, within, leaf, node}
use Rattle.rx_parse_grammar.specs.parser.Lists.{Items, elements_from, elements, some_elements, after_element, closed, group}
use Rattle.rx_parse_grammar.proofs.SymbolLemmas.{Stands, is_word, stands_as, sees_is}
use Rattle.rx_parse_grammar.proofs.Reading.{items, span_between}

-- a front of the tokens that is such a part
pub record Found {A : Type 0} (E : List Tok → A → Type 0) (i : List Tok) (x : A) (r : List Tok) : Type 0 where
  pub ts : List Tok
  pub is : i ≡ ts ++ r
  pub part : E ts x

-- what the parser reads is such a part
pub record Derives {A : Type 0} (p : Parser A) (E : List Tok → A → Type 0) : Type 0 where
  pub derive : (i r : List Tok) (x : A) → p i ≡ Ok (x, r) → Found E i x r

abbrev pub okay : {A : Type 0} → A × List Tok → Outcome A
okay p = Ok p

pub same_pair : {A : Type 0} (p q : A × List Tok) → okay p ≡ okay q → p ≡ q
same_pair p q e = cc

pub record Two {A B : Type 0} (p : Outcome A) (f : A → Parser B) (y : B) (r : List Tok) : Type 0 where
  pub mid : A
  pub i : List Tok
  pub first : p ≡ Ok (mid, i)
  pub second : f mid i ≡ Ok (y, r)

pub two : {A B : Type 0} (p : Outcome A) (f : A → Parser B) (y : B) (r : List Tok) → and_then p f ≡ Ok (y, r) → Two p f y r
two (Ok p) f y r e = record { mid = p.0; i = p.1; first = refl; second = e }
two (Err x) f y r e = absurd (cc)

pub starts : (i : List Tok) (q : Symbol) → peek i ≡ q → is_word q ≡ true → (i ≡ head i ∷ tail i) × (symbol_of (head i) ≡ q)
starts [] q e w = absurd (let z : is_word symbol.End ≡ true = ap is_word e ∙ w in cc)
starts (t ∷ ts) q e w = (refl, e)

expected_at : (q : Symbol) (i : List Tok) (c : Tok) (r : List Tok) (b : Bool) → is_word q ≡ true → sees q i ≡ b → cond b (okay (head i, tail i)) (Err (Syntax (length i))) ≡ Ok (c, r)
    → Stands q c × (i ≡ c ∷ r)
expected_at q i c r true n b e =
    let s = starts i q (sees_is q i b) n in
    let w : (head i, tail i) ≡ (c, r) = same_pair (head i, tail i) (c, r) e in
    (stands_as q c (ap (λ (p : Tok × List Tok). symbol_of p.0) (sym w) ∙ s.1), s.0 ∙ ap (λ (p : Tok × List Tok). p.0 ∷ p.1) w)
expected_at q i c r false n b e = absurd (cc)

pub expected : (q : Symbol) (i : List Tok) (c : Tok) (r : List Tok) → is_word q ≡ true → expect q i ≡ Ok (c, r) → Stands q c × (i ≡ c ∷ r)
unfolding expect
expected q i c r n e = expected_at q i c r (sees q i) n refl e

-- ---- the steps

pub took : {A : Type 0} {f : Tok → Parser A} {E : List Tok → A → Type 0} (q : Symbol) → is_word q ≡ true → ((c : Tok) → Stands q c → Derives (f c) (λ vs x. E (c ∷ vs) x))
    → Derives (expect q >>= f) E
took {f = f} q w g = record {
  derive = λ i r x e.
      let s = two (expect q i) f x r e in
      let c = expected q i s.mid s.i w s.first in
      let n = (g s.mid c.0).derive s.i r x s.second in
      record { ts = s.mid ∷ n.ts; is = c.1 ∙ ap (λ z. s.mid ∷ z) n.is; part = n.part };
}

pub passed : {A B : Type 0} {p : Parser A} {f : A → Parser B} {D : List Tok → A → Type 0} {E : List Tok → B → Type 0} → Derives p D
    → ((us : List Tok) (a : A) → D us a → Derives (f a) (λ vs x. E (us ++ vs) x)) → Derives (p >>= f) E
passed {p = p} {f = f} d g = record {
  derive = λ i r x e.
      let s = two (p i) f x r e in
      let m = d.derive i s.i s.mid s.first in
      let n = (g m.ts s.mid m.part).derive s.i r x s.second in
      record { ts = m.ts ++ n.ts; is = m.is ∙ ap (λ z. m.ts ++ z) n.is ∙ sym (append_assoc m.ts n.ts r); part = n.part };
}

pub gave : {A : Type 0} {x : A} {E : List Tok → A → Type 0} → E [] x → Derives (pure x) E
gave {A = A} {x = x} {E = E} h = record {
  derive = λ i r y e.
      subst (λ (p : A × List Tok). Found E i p.0 p.1) (same_pair (x, i) (y, r) e) (record { ts = []; is = refl; part = h });
}

-- the last part
pub passed_last : {A B : Type 0} {p : Parser A} (g : A → B) {D : List Tok → A → Type 0} {E : List Tok → B → Type 0} → Derives p D
    → ((us : List Tok) (a : A) → D us a → E us (g a)) → Derives (p >>= (λ a. pure (g a))) E
passed_last g {E = E} d h = passed d (λ us a s. gave (subst (λ z. E z (g a)) (sym (append-nil us)) (h us a s)))

pub chose : {A : Type 0} {E : List Tok → A → Type 0} (f : Symbol → Parser A) → ((q : Symbol) → Derives (f q) E) → Derives (next >>= f) E
chose f g = record { derive = λ i r x e. (g (peek i)).derive i r x e }

-- what the next token is
abbrev pub Front : Symbol → List Tok → Type 0
Front q ts = ts ≢ [] → peek ts ≡ q

same_front : (i ts r : List Tok) → i ≡ ts ++ r → ts ≢ [] → peek ts ≡ peek i
same_front i [] r e n = absurd (n refl)
same_front i (t ∷ ts) r e n = sym (ap peek e)

pub chose_knowing : {A : Type 0} {E : List Tok → A → Type 0} (f : Symbol → Parser A) → ((q : Symbol) → Derives (f q) (λ ts x. Front q ts → E ts x)) → Derives (next >>= f) E
chose_knowing f g = record { derive = λ i r x e. let m = (g (peek i)).derive i r x e in record { ts = m.ts; is = m.is; part = m.part (same_front i m.ts r m.is) } }

-- the first part has the first token
pub front_of_part : (q : Symbol) (us vs : List Tok) → Front q (us ++ vs) → us ≢ [] → peek us ≡ q
front_of_part q [] vs f n = absurd (n refl)
front_of_part q (u ∷ us) vs f n = f (λ a. cc)

pub chosen : {A : Type 0} (P : Type 0) (b : Bool) (p q : Outcome A) (y : A) (r : List Tok) → (b ≡ true → p ≡ Ok (y, r) → P) → (b ≡ false → q ≡ Ok (y, r) → P) → cond b p q ≡ Ok (y, r) → P
chosen P true p q y r when other e = when refl e
chosen P false p q y r when other e = other refl e

pub either : {A : Type 0} {p q : Parser A} (k : Symbol) {E : List Tok → A → Type 0} → Derives p E → Derives q E → Derives (when_next k p q) E
either {p = p} {q = q} k {E = E} a b = record { derive = λ i r x e. chosen (Found E i x r) (sees k i) (p i) (q i) x r (λ s. a.derive i r x) (λ s. b.derive i r x) e }

pub roomy : {A : Type 0} {p : Parser A} (n d : ℕ) {E : List Tok → A → Type 0} → (n ≤ d → Derives p E) → Derives (within n d p) E
roomy {p = p} n d {E = E} g = record {
  derive = λ i r x e.
      chosen (Found E i x r) (nat_lt d n) (Err (TooDeep (length i))) (p i) x r (λ s e. absurd (cc))
      (λ s e. let b : n ≤ d = grind (arith, nat_tests) in (g b).derive i r x e) e;
}

pub refused : {A : Type 0} {E : List Tok → A → Type 0} → Derives {A = A} refuse E
refused = record { derive = λ i r x e. absurd (cc) }

-- what reads nothing
pub stopped : {A : Type 0} {E : List Tok → A → Type 0} (b : Symbol → Bool) → Derives {A = A} (next >>= (λ q. cond {A = Parser A} (b q) too_deep refuse)) E
stopped {A = A} {E = E} b = record { derive = λ i r x e. absurd (never (b (peek i)) i r x e) }
  where
    never : (b : Bool) (i r : List Tok) (x : A) → cond {A = Parser A} b (λ i. Err (TooDeep (length i))) (λ i. Err (Syntax (length i))) i ≡ okay (x, r) → ⊥
    never true i r x e = cc
    never false i r x e = cc

pub as_also : {A : Type 0} {p : Parser A} {D E : List Tok → A → Type 0} → ((ts : List Tok) (x : A) → D ts x → E ts x) → Derives p D → Derives p E
as_also f d = record { derive = λ i r x e. let m = d.derive i r x e in record { ts = m.ts; is = m.is; part = f m.ts x m.part } }

-- ---- what is made

-- a tree of the grammar, of at most so many levels, with its span
pub record Fits {A : Type 0} (J : List Tok → A → ℕ → Type 0) (d : ℕ) (ts : List Tok) (g : Got A) : Type 0 where
  pub low : g.height ≤ d
  pub span : g.span ≡ span_of ts
  pub holds : J ts g.tree g.height

pub fits_leaf : {A : Type 0} {J : List Tok → A → ℕ → Type 0} {d : ℕ} {ts : List Tok} {s : Span} (f : Span → A) → s ≡ span_of ts → J ts (f (span_of ts)) 1 → Fits J (suc d) ts (leaf f s)
fits_leaf {J = J} {ts = ts} f e h = record { low = omega arith; span = e; holds = subst (λ z. J ts (f z) 1) (sym e) h }

pub fits_node : {A : Type 0} {J : List Tok → A → ℕ → Type 0} {d : ℕ} {ts : List Tok} {s : Span} {h : ℕ} (f : Span → A) → s ≡ span_of ts → h ≤ d → J ts (f (span_of ts)) (suc h)
    → Fits J (suc d) ts (node f s h)
fits_node {J = J} {d = d} {ts = ts} {s = s} {h = h} f e b j =
    record { low = omega arith; span = e; holds = subst (λ n. J ts (f s) n) (sym (add-one h)) (subst (λ z. J ts (f z) (suc h)) (sym e) j) }

-- what begins with the second `&` of a mark
front_of : {A : Type 0} (J : List Tok → A → ℕ → Type 0) (d : ℕ) (t : Tok) (j r : List Tok) (x : Got A) (ts : List Tok) → (t ∷ j) ≡ ts ++ r → ts ≢ [] → Fits J d ts x
    → Found (λ us g. Fits J d (t ∷ us) g) j x r
front_of J d t j r x [] e n f = absurd (n refl)
front_of J d t j r x (u ∷ ts) e n f =
    let a : t ≡ u = ap head e in
    record { ts = ts; is = ap tail e; part = subst (λ z. Fits J d (z ∷ ts) x) (sym a) f }

pub after_first : {A : Type 0} {J : List Tok → A → ℕ → Type 0} {d : ℕ} (p : Parser (Got A)) (t : Tok) → ((ts : List Tok) (x : A) (h : ℕ) → J ts x h → ts ≢ []) → Derives p (Fits J d)
    → Derives (λ i. p (t ∷ i)) (λ us g. Fits J d (t ∷ us) g)
after_first {J = J} {d = d} p t some ok = record {
  derive = λ i r x e.
      let m = ok.derive (t ∷ i) r x e in front_of J d t i r x m.ts m.is (some m.ts x.tree x.height m.part.holds) m.part;
}

-- ---- lists in brackets

record Listing {A : Type 0} (E : List Tok → A → ℕ → Type 0) (d : ℕ) (close : Symbol) (found : List A) (i : ℕ) (ts : List Tok) (l : Items A) : Type 0 where
  us : List Tok
  c : Tok
  xs : List A
  h : ℕ
  is : ts ≡ us ++ (c ∷ [])
  end : Stands close c
  list : IsListOf E us xs h
  low : h ≤ d
  made : l ≡ items (found ++ xs) (max i h) c.span

closed_found : {A : Type 0} (E : List Tok → A → ℕ → Type 0) (d : ℕ) (close : Symbol) (e : Parser (Got A)) (found : List A) (i : ℕ) → is_word close ≡ true
    → Derives (closed close e found i) (λ ts l. Listing E d close found i ts l)
closed_found E d close e found i w = took close w (λ c s. gave (record {
  us = [];
  c = c;
  xs = [];
  h = 0;
  is = refl;
  end = s;
  list = no_element;
  low = omega arith;
  made = let z : i ≡ max i 0 = omega arith in ap (λ l. items l i c.span) (sym (append-nil found)) ∙ ap (λ n. items (found ++ []) n c.span) z;
}))

-- an element found, and then the others
listing_more : {A : Type 0} {E : List Tok → A → ℕ → Type 0} {d : ℕ} {close : Symbol} {found : List A} {i : ℕ} (us vs : List Tok) (m : Tok) (g : Got A) (l : Items A) → Stands symbol.Comma m
    → Fits E d us g → Listing E d close (found ++ (g.tree ∷ [])) (max i g.height) vs l → Listing E d close found i (us ++ (m ∷ vs)) l
listing_more {found = found} {i = i} us vs m g l sm f w =
    let a = f.low in
    let b = w.low in
    let z : max (max i g.height) w.h ≡ max i (max g.height w.h) = omega arith in
    record {
      us = us ++ (m ∷ w.us);
      c = w.c;
      xs = g.tree ∷ w.xs;
      h = max g.height w.h;
      is = ap (λ z. us ++ (m ∷ z)) w.is ∙ sym (append_assoc us (m ∷ w.us) (w.c ∷ []));
      end = w.end;
      list = element us w.us m g.tree w.xs g.height w.h f.holds sm w.list refl;
      low = omega arith;
      made = w.made ∙ ap (λ l. items l (max (max i g.height) w.h) w.c.span) (append_assoc found (g.tree ∷ []) w.xs) ∙ ap (λ n. items (found ++ (g.tree ∷ w.xs)) n w.c.span) z;
    }

listing_last : {A : Type 0} {E : List Tok → A → ℕ → Type 0} {d : ℕ} {close : Symbol} {found : List A} {i : ℕ} (us : List Tok) (c : Tok) (g : Got A) → Stands close c
    → Fits E d us g → Listing E d close found i (us ++ (c ∷ [])) (items (found ++ (g.tree ∷ [])) (max i g.height) c.span)
listing_last us c g sc f = record { us = us; c = c; xs = g.tree ∷ []; h = g.height; is = refl; end = sc; list = last_element f.holds; low = f.low; made = refl }

after_found : {A : Type 0} (E : List Tok → A → ℕ → Type 0) (d : ℕ) (close : Symbol) (e : Parser (Got A)) (again : List A → ℕ → Parser (Items A)) (found : List A) (i : ℕ) → is_word close ≡ true
    → Derives e (Fits E d) → ((found : List A) (i : ℕ) → Derives (again found i) (λ ts l. Listing E d close found i ts l))
    → Derives (e >>= after_element close e again found i) (λ ts l. Listing E d close found i ts l)
after_found E d close e again found i w ok more = passed ok (λ us g f. either symbol.Comma
    (took symbol.Comma refl (λ m sm. as_also (λ vs l t. listing_more us vs m g l sm f t) (more (found ++ (g.tree ∷ [])) (max i g.height))))
    (took close w (λ c sc. gave (listing_last us c g sc f))))

elements_found : {A : Type 0} (E : List Tok → A → ℕ → Type 0) (d : ℕ) (close : Symbol) (e : Parser (Got A)) → is_word close ≡ true → Derives e (Fits E d) → (n : ℕ) (found : List A) (i : ℕ)
    → Derives (elements_from close e n found i) (λ ts l. Listing E d close found i ts l)
unfolding elements_from
elements_found E d close e w ok zero found i = refused
elements_found E d close e w ok (suc n) found i =
    either close (closed_found E d close e found i w) (after_found E d close e (elements_from close e n) found i w ok (elements_found E d close e w ok n))

all_found : {A : Type 0} (E : List Tok → A → ℕ → Type 0) (d : ℕ) (close : Symbol) (e : Parser (Got A)) → is_word close ≡ true → Derives e (Fits E d) → (found : List A) (i : ℕ)
    → Derives (elements close e found i) (λ ts l. Listing E d close found i ts l)
unfolding elements
all_found E d close e w ok found i = record { derive = λ j r x q. (elements_found E d close e w ok (length j) found i).derive j r x q }

-- a whole list and what follows it
pub listed_found : {A B : Type 0} {E : List Tok → A → ℕ → Type 0} {d : ℕ} (close : Symbol) {e : Parser (Got A)} (f : Items A → Parser B) {G : List Tok → B → Type 0} (found : List A) (i : ℕ)
    → is_word close ≡ true → Derives e (Fits E d)
    → ((us : List Tok) (c : Tok) (xs : List A) (h : ℕ) → Stands close c → IsListOf E us xs h → h ≤ d → Derives (f (items (found ++ xs) (max i h) c.span)) (λ vs x. G (us ++ (c ∷ vs)) x))
    → Derives (elements close e found i >>= f) G
listed_found {B = B} {E = E} {d = d} close {e = e} f {G = G} found i w ok g = passed (all_found E d close e w ok found i) (λ us l t.
    as_also (λ vs x m. subst (λ z. G z x) (sym (ap (λ z. z ++ vs) t.is ∙ append_assoc t.us (t.c ∷ []) vs)) m)
    (subst (λ z. Derives (f z) (λ vs x. G (t.us ++ (t.c ∷ vs)) x)) (sym t.made) (g t.us t.c t.xs t.h t.end t.list t.low)))

-- at least one
record SomeListing {A : Type 0} (E : List Tok → A → ℕ → Type 0) (d : ℕ) (close : Symbol) (ts : List Tok) (l : Items A) : Type 0 where
  us : List Tok
  c : Tok
  x : A
  xs : List A
  h : ℕ
  is : ts ≡ us ++ (c ∷ [])
  end : Stands close c
  list : IsListOf E us (x ∷ xs) h
  low : h ≤ d
  made : l ≡ items (x ∷ xs) h c.span

some_found : {A : Type 0} (E : List Tok → A → ℕ → Type 0) (d : ℕ) (close : Symbol) (e : Parser (Got A)) → is_word close ≡ true → Derives e (Fits E d)
    → Derives (some_elements close e) (λ ts l. SomeListing E d close ts l)
unfolding some_elements
some_found E d close e w ok = passed ok (λ us g f. either symbol.Comma
    (took symbol.Comma refl (λ m sm. as_also (λ vs l t.
    let a = f.low in
    let b = t.low in
    let z : max (max 0 g.height) t.h ≡ max g.height t.h = omega arith in
    record {
      us = us ++ (m ∷ t.us);
      c = t.c;
      x = g.tree;
      xs = t.xs;
      h = max g.height t.h;
      is = ap (λ z. us ++ (m ∷ z)) t.is ∙ sym (append_assoc us (m ∷ t.us) (t.c ∷ []));
      end = t.end;
      list = element us t.us m g.tree t.xs g.height t.h f.holds sm t.list refl;
      low = omega arith;
      made = t.made ∙ ap (λ n. items (g.tree ∷ t.xs) n t.c.span) z;
    }) (all_found E d close e w ok (g.tree ∷ []) (max 0 g.height))))
    (took close w (λ c sc. let z : max 0 g.height ≡ g.height = omega arith in gave (record {
      us = us;
      c = c;
      x = g.tree;
      xs = [];
      h = g.height;
      is = refl;
      end = sc;
      list = last_element f.holds;
      low = f.low;
      made = ap (λ n. items (g.tree ∷ []) n c.span) z;
    }))))

pub some_listed_found : {A B : Type 0} {E : List Tok → A → ℕ → Type 0} {d : ℕ} (close : Symbol) {e : Parser (Got A)} (f : Items A → Parser B) {G : List Tok → B → Type 0}
    → is_word close ≡ true → Derives e (Fits E d)
    → ((us : List Tok) (c : Tok) (x : A) (xs : List A) (h : ℕ) → Stands close c → IsListOf E us (x ∷ xs) h → h ≤ d → Derives (f (items (x ∷ xs) h c.span)) (λ vs x. G (us ++ (c ∷ vs)) x))
    → Derives (some_elements close e >>= f) G
some_listed_found {E = E} {d = d} close {e = e} f {G = G} w ok g = passed (some_found E d close e w ok) (λ us l t.
    as_also (λ vs x m. subst (λ z. G z x) (sym (ap (λ z. z ++ vs) t.is ∙ append_assoc t.us (t.c ∷ []) vs)) m)
    (subst (λ z. Derives (f z) (λ vs x. G (t.us ++ (t.c ∷ vs)) x)) (sym t.made) (g t.us t.c t.x t.xs t.h t.end t.list t.low)))

-- ---- what stands in parentheses

pub group_found : {A : Type 0} {e : Parser (Got A)} (t : Span → List A → A) {d : ℕ} (D J : List Tok → A → ℕ → Type 0) → Derives e (Fits D d)
    → ((o c : Tok) → Stands symbol.OpenParen o → Stands symbol.CloseParen c → J (o ∷ c ∷ []) (t (span_of (o ∷ c ∷ [])) []) 1)
    → ((o c : Tok) (us : List Tok) (x : A) (h : ℕ) → Stands symbol.OpenParen o → Stands symbol.CloseParen c → D us x h → J (o ∷ (us ++ (c ∷ []))) x (suc h))
    → ((o m c : Tok) (us vs : List Tok) (x : A) (xs : List A) (h i : ℕ) → Stands symbol.OpenParen o → Stands symbol.Comma m → Stands symbol.CloseParen c → D us x h → IsListOf D vs xs i
    → J (o ∷ (us ++ (m ∷ (vs ++ (c ∷ []))))) (t (span_of (o ∷ (us ++ (m ∷ (vs ++ (c ∷ [])))))) (x ∷ xs)) (suc (max h i)))
    → Derives (group e t) (Fits J (suc d))
unfolding group
group_found t {d = d} D J ok unit parens tuple = took symbol.OpenParen refl (λ o so. either symbol.CloseParen
    (took symbol.CloseParen refl (λ c sc. gave (fits_leaf (λ s. t s []) refl (unit o c so sc))))
    (passed ok (λ us g f. either symbol.Comma
    (took symbol.Comma refl (λ m sm. listed_found symbol.CloseParen _ (g.tree ∷ []) g.height refl ok (λ vs c xs i sc l b.
    let a = f.low in
    let shape : o ∷ ((us ++ (m ∷ vs)) ++ (c ∷ [])) ≡ o ∷ (us ++ (m ∷ (vs ++ (c ∷ [])))) = ap (λ z. o ∷ z) (append_assoc us (m ∷ vs) (c ∷ [])) in
    gave (fits_node (λ s. t s (g.tree ∷ xs)) (span_between (us ++ (m ∷ vs)) o c ∙ ap span_of shape) (omega arith) (tuple o m c us vs g.tree xs g.height i so sm sc f.holds l)))))
    (took symbol.CloseParen refl (λ c sc. gave (fits_node (λ s. g.tree) (span_between us o c) f.low (parens o c us g.tree g.height so sc f.holds)))))))
