-- What the tokens begin that the parser of a list in brackets, or of what stands in parentheses, passed before it stopped.
use Rattle.std.proofs.Common.{◌≡◌, ℕ, zero, suc, max, Bool, true, false, cond, List, [], ◌∷◌, ◌++◌, length, Err, refl, sym, ap, subst, ◌∙◌, arith, append_assoc, append-nil, add-one}
use Rattle.std.specs.Prelude.{◌≢◌, nat_lt}
use Rattle.rx_core.specs.declared.types.Span.{Span}
use Rattle.rx_lex.specs.Tok.{Tok}
use Rattle.rx_parse_grammar.specs.declared.symbol.Symbol.{Symbol}
use Rattle.rx_parse_grammar.specs.declared.symbol.Symbol.TheVariants as symbol
use Rattle.rx_parse_grammar.specs.grammar.Words.{span_of, second_ampersand, IsListOf, no_element, last_element, element}
use Rattle.rx_lex.specs.Tokens.{AreWords}
use Rattle.rx_parse_grammar.specs.declared.stop.Stop.TheVariants.{Syntax, TooDeep}
use Rattle.rx_parse_grammar.specs.parser.Symbols.{head, tail, peek}
use Rattle.rx_parse_grammar.specs.parser.Steps.{Parser, Outcome, Got, and_then, pure, expect, sees, within, ◌>>=◌, leaf, node}
use Rattle.rx_parse_grammar.specs.parser.Lists.{Items, elements_from, elements, some_elements, after_element, closed, group}
use Rattle.rx_parse_grammar.proofs.SymbolLemmas.{Stands, is_word, seen, stands_as}
use Rattle.rx_parse_grammar.proofs.Deriving.{okay}
use Rattle.rx_parse_grammar.proofs.Reading.{items, span_between}
use Rattle.rx_parse_grammar.proofs.Begun.{stand_in, stand_in_stands, stand_in_word, Completes, Goes, reads, stops, deep, Known, any, at, Begun, took, passed, gave, either, refused, as_also}

-- ---- what is made

-- a tree of the grammar, of any depth, with its span
pub record Fits {A : Type 0} (J : List Tok → A → ℕ → Type 0) (ts : List Tok) (g : Got A) : Type 0 where
  pub span : g.span ≡ span_of ts
  pub holds : J ts g.tree g.height

pub fits_leaf : {A : Type 0} {J : List Tok → A → ℕ → Type 0} {ts : List Tok} {s : Span} (f : Span → A) → s ≡ span_of ts → J ts (f (span_of ts)) 1 → Fits J ts (leaf f s)
fits_leaf {J = J} {ts = ts} f e h = record { span = e; holds = subst (λ z. J ts (f z) 1) (sym e) h }

pub fits_node : {A : Type 0} {J : List Tok → A → ℕ → Type 0} {ts : List Tok} {s : Span} (f : Span → A) → s ≡ span_of ts → (h : ℕ) → J ts (f (span_of ts)) (suc h)
    → Fits J ts (node f s h)
fits_node {J = J} {ts = ts} {s = s} f e h j =
    record { span = e; holds = subst (λ n. J ts (f s) n) (sym (add-one h)) (subst (λ z. J ts (f z) (suc h)) (sym e) j) }

-- what further tokens complete
pub whole_part : {A : Type 0} {J : List Tok → A → ℕ → Type 0} (us vs : List Tok) (x : A) (h : ℕ) → AreWords vs → J (us ++ vs) x h → Completes (Fits J) us
whole_part us vs x h w r = record { further = vs; words = w; made = record { tree = x; height = h; span = span_of (us ++ vs) }; part = record { span = refl; holds = r } }

-- ---- lists in brackets

record Listing {A : Type 0} (E : List Tok → A → ℕ → Type 0) (close : Symbol) (found : List A) (i : ℕ) (ts : List Tok) (l : Items A) : Type 0 where
  us : List Tok
  c : Tok
  xs : List A
  h : ℕ
  is : ts ≡ us ++ (c ∷ [])
  end : Stands close c
  list : IsListOf E us xs h
  made : l ≡ items (found ++ xs) (max i h) c.span

closed_found : {K : Known} {A : Type 0} (E : List Tok → A → ℕ → Type 0) (close : Symbol) (e : Parser (Got A)) (found : List A) (i : ℕ) → is_word close ≡ true
    → Begun K (closed close e found i) (λ ts l. Listing E close found i ts l)
closed_found E close e found i w = took close w (λ c s. gave (record {
  us = [];
  c = c;
  xs = [];
  h = 0;
  is = refl;
  end = s;
  list = no_element;
  made = let z : i ≡ max i 0 = omega arith in ap (λ l. items l i c.span) (sym (append-nil found)) ∙ ap (λ n. items (found ++ []) n c.span) z;
}))

-- an element found, and then the others
listing_more : {A : Type 0} {E : List Tok → A → ℕ → Type 0} {close : Symbol} {found : List A} {i : ℕ} (us vs : List Tok) (m : Tok) (g : Got A) (l : Items A) → Stands symbol.Comma m
    → Fits E us g → Listing E close (found ++ (g.tree ∷ [])) (max i g.height) vs l → Listing E close found i (us ++ (m ∷ vs)) l
listing_more {found = found} {i = i} us vs m g l sm f w =
    let z : max (max i g.height) w.h ≡ max i (max g.height w.h) = omega arith in
    record {
      us = us ++ (m ∷ w.us);
      c = w.c;
      xs = g.tree ∷ w.xs;
      h = max g.height w.h;
      is = ap (λ z. us ++ (m ∷ z)) w.is ∙ sym (append_assoc us (m ∷ w.us) (w.c ∷ []));
      end = w.end;
      list = element us w.us m g.tree w.xs g.height w.h f.holds sm w.list refl;
      made = w.made ∙ ap (λ l. items l (max (max i g.height) w.h) w.c.span) (append_assoc found (g.tree ∷ []) w.xs) ∙ ap (λ n. items (found ++ (g.tree ∷ w.xs)) n w.c.span) z;
    }

listing_last : {A : Type 0} {E : List Tok → A → ℕ → Type 0} {close : Symbol} {found : List A} {i : ℕ} (us : List Tok) (c : Tok) (g : Got A) → Stands close c
    → Fits E us g → Listing E close found i (us ++ (c ∷ [])) (items (found ++ (g.tree ∷ [])) (max i g.height) c.span)
listing_last us c g sc f = record { us = us; c = c; xs = g.tree ∷ []; h = g.height; is = refl; end = sc; list = last_element f.holds; made = refl }

after_found : {A : Type 0} (E : List Tok → A → ℕ → Type 0) (close : Symbol) (e : Parser (Got A)) (again : List A → ℕ → Parser (Items A)) (found : List A) (i : ℕ) → is_word close ≡ true
    → Begun any e (Fits E) → ((found : List A) (i : ℕ) → Begun any (again found i) (λ ts l. Listing E close found i ts l))
    → Begun any (e >>= after_element close e again found i) (λ ts l. Listing E close found i ts l)
after_found E close e again found i w ok more = passed ok (λ us g f. either symbol.Comma
    (took symbol.Comma refl (λ m sm. as_also (λ vs l t. listing_more us vs m g l sm f t) (more (found ++ (g.tree ∷ [])) (max i g.height))))
    (took close w (λ c sc. gave (listing_last us c g sc f))))

elements_found : {A : Type 0} (E : List Tok → A → ℕ → Type 0) (close : Symbol) (e : Parser (Got A)) → is_word close ≡ true → Begun any e (Fits E) → (n : ℕ) (found : List A) (i : ℕ)
    → Begun any (elements_from close e n found i) (λ ts l. Listing E close found i ts l)
unfolding elements_from
elements_found E close e w ok zero found i = refused (closed_found {K = any} E close e found i w).some
elements_found E close e w ok (suc n) found i =
    either close (closed_found E close e found i w) (after_found E close e (elements_from close e n) found i w ok (elements_found E close e w ok n))

all_found : {A : Type 0} (E : List Tok → A → ℕ → Type 0) (close : Symbol) (e : Parser (Got A)) → is_word close ≡ true → Begun any e (Fits E) → (found : List A) (i : ℕ)
    → Begun any (elements close e found i) (λ ts l. Listing E close found i ts l)
unfolding elements
all_found E close e w ok found i = record { goes = λ j k. (elements_found E close e w ok (length j) found i).goes j refl; some = (elements_found E close e w ok 0 found i).some }

-- a whole list and what follows it
pub listed_found : {K : Known} {A B : Type 0} {E : List Tok → A → ℕ → Type 0} (close : Symbol) {e : Parser (Got A)} (f : Items A → Parser B) {G : List Tok → B → Type 0} (found : List A) (i : ℕ)
    → is_word close ≡ true → Begun any e (Fits E)
    → ((us : List Tok) (c : Tok) (xs : List A) (h : ℕ) → Stands close c → IsListOf E us xs h → Begun any (f (items (found ++ xs) (max i h) c.span)) (λ vs x. G (us ++ (c ∷ vs)) x))
    → Begun K (elements close e found i >>= f) G
listed_found {B = B} {E = E} close {e = e} f {G = G} found i w ok g = passed (all_found E close e w ok found i) (λ us l t.
    as_also (λ vs x m. subst (λ z. G z x) (sym (ap (λ z. z ++ vs) t.is ∙ append_assoc t.us (t.c ∷ []) vs)) m)
    (subst (λ z. Begun any (f z) (λ vs x. G (t.us ++ (t.c ∷ vs)) x)) (sym t.made) (g t.us t.c t.xs t.h t.end t.list)))

-- at least one
record SomeListing {A : Type 0} (E : List Tok → A → ℕ → Type 0) (close : Symbol) (ts : List Tok) (l : Items A) : Type 0 where
  us : List Tok
  c : Tok
  x : A
  xs : List A
  h : ℕ
  is : ts ≡ us ++ (c ∷ [])
  end : Stands close c
  list : IsListOf E us (x ∷ xs) h
  made : l ≡ items (x ∷ xs) h c.span

some_found : {A : Type 0} (E : List Tok → A → ℕ → Type 0) (close : Symbol) (e : Parser (Got A)) → is_word close ≡ true → Begun any e (Fits E)
    → Begun any (some_elements close e) (λ ts l. SomeListing E close ts l)
unfolding some_elements
some_found E close e w ok = passed ok (λ us g f. either symbol.Comma
    (took symbol.Comma refl (λ m sm. as_also (λ vs l t.
    let z : max (max 0 g.height) t.h ≡ max g.height t.h = omega arith in
    record {
      us = us ++ (m ∷ t.us);
      c = t.c;
      x = g.tree;
      xs = t.xs;
      h = max g.height t.h;
      is = ap (λ z. us ++ (m ∷ z)) t.is ∙ sym (append_assoc us (m ∷ t.us) (t.c ∷ []));
      end = t.end;
      list = element us t.us m g.tree t.xs g.height t.h f.holds sm t.list refl;
      made = t.made ∙ ap (λ n. items (g.tree ∷ t.xs) n t.c.span) z;
    }) (all_found E close e w ok (g.tree ∷ []) (max 0 g.height))))
    (took close w (λ c sc. let z : max 0 g.height ≡ g.height = omega arith in gave (record {
      us = us;
      c = c;
      x = g.tree;
      xs = [];
      h = g.height;
      is = refl;
      end = sc;
      list = last_element f.holds;
      made = ap (λ n. items (g.tree ∷ []) n c.span) z;
    }))))

pub some_listed_found : {K : Known} {A B : Type 0} {E : List Tok → A → ℕ → Type 0} (close : Symbol) {e : Parser (Got A)} (f : Items A → Parser B) {G : List Tok → B → Type 0}
    → is_word close ≡ true → Begun any e (Fits E)
    → ((us : List Tok) (c : Tok) (x : A) (xs : List A) (h : ℕ) → Stands close c → IsListOf E us (x ∷ xs) h → Begun any (f (items (x ∷ xs) h c.span)) (λ vs x. G (us ++ (c ∷ vs)) x))
    → Begun K (some_elements close e >>= f) G
some_listed_found {E = E} close {e = e} f {G = G} w ok g = passed (some_found E close e w ok) (λ us l t.
    as_also (λ vs x m. subst (λ z. G z x) (sym (ap (λ z. z ++ vs) t.is ∙ append_assoc t.us (t.c ∷ []) vs)) m)
    (subst (λ z. Begun any (f z) (λ vs x. G (t.us ++ (t.c ∷ vs)) x)) (sym t.made) (g t.us t.c t.x t.xs t.h t.end t.list)))

-- ---- what stands in parentheses

pub group_found : {K : Known} {A : Type 0} {e : Parser (Got A)} (t : Span → List A → A) (D J : List Tok → A → ℕ → Type 0) → Begun any e (Fits D)
    → ((o c : Tok) → Stands symbol.OpenParen o → Stands symbol.CloseParen c → J (o ∷ c ∷ []) (t (span_of (o ∷ c ∷ [])) []) 1)
    → ((o c : Tok) (us : List Tok) (x : A) (h : ℕ) → Stands symbol.OpenParen o → Stands symbol.CloseParen c → D us x h → J (o ∷ (us ++ (c ∷ []))) x (suc h))
    → ((o m c : Tok) (us vs : List Tok) (x : A) (xs : List A) (h i : ℕ) → Stands symbol.OpenParen o → Stands symbol.Comma m → Stands symbol.CloseParen c → D us x h → IsListOf D vs xs i
    → J (o ∷ (us ++ (m ∷ (vs ++ (c ∷ []))))) (t (span_of (o ∷ (us ++ (m ∷ (vs ++ (c ∷ [])))))) (x ∷ xs)) (suc (max h i)))
    → Begun K (group e t) (Fits J)
unfolding group
group_found t D J ok unit parens tuple = took symbol.OpenParen refl (λ o so. either symbol.CloseParen
    (took symbol.CloseParen refl (λ c sc. gave (fits_leaf (λ s. t s []) refl (unit o c so sc))))
    (passed ok (λ us g f. either symbol.Comma
    (took symbol.Comma refl (λ m sm. listed_found symbol.CloseParen _ (g.tree ∷ []) g.height refl ok (λ vs c xs i sc l.
    let shape : o ∷ ((us ++ (m ∷ vs)) ++ (c ∷ [])) ≡ o ∷ (us ++ (m ∷ (vs ++ (c ∷ [])))) = ap (λ z. o ∷ z) (append_assoc us (m ∷ vs) (c ∷ [])) in
    gave (fits_node (λ s. t s (g.tree ∷ xs)) (span_between (us ++ (m ∷ vs)) o c ∙ ap span_of shape) _ (tuple o m c us vs g.tree xs g.height i so sm sc f.holds l)))))
    (took symbol.CloseParen refl (λ c sc. gave (fits_node (λ s. g.tree) (span_between us o c) _ (parens o c us g.tree g.height so sc f.holds)))))))

-- ---- the mark `&&`, whose second half begins a part

pub halved_last : {A B : Type 0} {J : List Tok → A → ℕ → Type 0} {E : List Tok → B → Type 0} (n d : ℕ) (p : Parser (Got A)) (g : Tok → Got A → B) → Begun any p (Fits J)
    → ((ts : List Tok) (x : A) (h : ℕ) → J ts x h → ts ≢ []) → ((t : Tok) → Stands symbol.AndAnd t → Completes (Fits J) (second_ampersand t ∷ []))
    → ((t : Tok) → Stands symbol.AndAnd t → (us : List Tok) (y : Got A) → Fits J (second_ampersand t ∷ us) y → E (t ∷ us) (g t y))
    → Begun (at symbol.AndAnd) (within n d (expect symbol.AndAnd >>= (λ t. (λ i. p (second_ampersand t ∷ i)) >>= (λ y. pure (g t y))))) E
unfolding expect
halved_last {A = A} {B = B} {J = J} {E = E} n d p g ok full start h = record {
  goes = λ i k. each i k (nat_lt d n);
  some = nothing;
}
  where
    first : (t : Tok) → Stands symbol.AndAnd t → Completes E (t ∷ [])
    first t s = let c = start t s in record { further = c.further; words = c.words; made = g t c.made; part = h t s c.further c.made c.part }

    nothing : Completes E []
    nothing = let c = first (stand_in symbol.AndAnd) (stand_in_stands symbol.AndAnd refl) in record { further = stand_in symbol.AndAnd ∷ c.further; words = (stand_in_word symbol.AndAnd refl, c.words); made = c.made; part = c.part }

    from : (t : Tok) → Stands symbol.AndAnd t → (u : Tok) (us : List Tok) (y : Got A) → second_ampersand t ≡ u → Fits J (u ∷ us) y → E (t ∷ us) (g t y)
    from t s u us y e f = h t s us y (subst (λ z. Fits J (z ∷ us) y) (sym e) f)

    halved : (t : Tok) (i : List Tok) (o : Outcome (Got A)) → Stands symbol.AndAnd t → Goes (Fits J) (second_ampersand t ∷ i) o → Goes E (t ∷ i) (and_then o (λ y. pure (g t y)))
    halved t i o s (reads [] r a is oe f) = absurd (full [] a.tree a.height f.holds refl)
    halved t i o s (reads (u ∷ us) r a is oe f) = reads (t ∷ us) r (g t a) (ap (λ z. t ∷ tail z) is) (ap (λ z. and_then z (λ y. pure (g t y))) oe) (from t s u us a (ap head is) f)
    halved t i o s (stops [] r is oe c) = stops [] (t ∷ i) refl (ap (λ z. and_then z (λ y. pure (g t y))) (oe ∙ ap (λ z. Err (Syntax (length z))) (sym is))) nothing
    halved t i o s (stops (u ∷ us) r is oe c) = stops (t ∷ us) r (ap (λ z. t ∷ tail z) is) (ap (λ z. and_then z (λ y. pure (g t y))) oe)
        (record { further = c.further; words = c.words; made = g t c.made; part = from t s u (us ++ c.further) c.made (ap head is) c.part })
    halved t i o s (deep [] r v is oe c) = deep [] i t refl (ap (λ z. and_then z (λ y. pure (g t y))) (oe ∙ ap (λ z. Err (TooDeep (length z))) (sym is))) (λ w. first t s)
    halved t i o s (deep (u ∷ us) r v is oe c) = deep (t ∷ us) r v (ap (λ z. t ∷ tail z) is) (ap (λ z. and_then z (λ y. pure (g t y))) oe)
        (λ w. let x = c w in record { further = x.further; words = x.words; made = g t x.made; part = from t s u ((us ++ (v ∷ [])) ++ x.further) x.made (ap head is) x.part })

    behind : (t : Tok) (i : List Tok) (b : Bool) → sees symbol.AndAnd (t ∷ i) ≡ b → peek (t ∷ i) ≡ symbol.AndAnd
        → Goes E (t ∷ i) (and_then (cond b (okay (t, i)) (Err (Syntax (length (t ∷ i))))) (λ t. (λ i. p (second_ampersand t ∷ i)) >>= (λ y. pure (g t y))))
    behind t i true e k = halved t i (p (second_ampersand t ∷ i)) (stands_as symbol.AndAnd t k) (ok.goes (second_ampersand t ∷ i) refl)
    behind t i false e k = absurd (let z = seen symbol.AndAnd (t ∷ i) k in cc)

    each : (i : List Tok) → peek i ≡ symbol.AndAnd → (b : Bool) → Goes E i (cond b (Err (TooDeep (length i))) ((expect symbol.AndAnd >>= (λ t. (λ i. p (second_ampersand t ∷ i)) >>= (λ y. pure (g t y)))) i))
    each [] k b = absurd (cc)
    each (t ∷ i) k true = deep [] i t refl refl (λ w. first t (stands_as symbol.AndAnd t k))
    each (t ∷ i) k false = behind t i (sees symbol.AndAnd (t ∷ i)) refl k
