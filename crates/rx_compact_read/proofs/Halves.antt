-- Tokens of which each `&&` counts as two `&` are derived alike as types, as parameters and as a result: where a lifetime is left out
-- between two `&`, they may have become one token. By induction on the derivations.
use Rattle.std.proofs.Common.{◌≡◌, ◌⊎◌, inl, inr, ℕ, suc, Bool, true, false, List, [], ◌∷◌, ◌++◌, map, Option, Some, None, codes, refl, sym, ap, subst, ◌∙◌}
use Rattle.std.specs.Prelude.{◌≢◌, if◌then◌else◌, option_map}
use Rattle.rx_core.specs.Bytes.{same_bytes}
use Rattle.rx_core.proofs.BytesLemmas.{same_bytes-true}
use Rattle.rx_tree.specs.declared.tree.Ident.{Ident}
use Rattle.rx_tree.specs.Plain as plain
use Rattle.rx_tree.specs.Plain.{TypeTree, Parameter}
use Rattle.rx_tree.specs.Erase.{nowhere, erase_ident, erase_label, erase_type, erase_parameter}
use Rattle.rx_lex.specs.declared.token.Class.{Class}
use Rattle.rx_lex.specs.declared.token.Class.TheVariants.{Identifier, Keyword, Lifetime, Number, Format, Mark}
use Rattle.rx_lex.specs.Tok.{Tok}
use Rattle.rx_parse_grammar.specs.grammar.Words.{IsMark, IsMutability, immutable, mutable, IsListOf, no_element, last_element, element, ident, second_ampersand}
use Rattle.rx_parse_grammar.specs.grammar.Types as t
use Rattle.rx_parse_grammar.specs.grammar.Items.{IsParameter, parameter, IsResult, no_result, result}
use Rattle.rx_parse_laws.specs.Words.{words}
use Rattle.rx_parse_laws.specs.Parts.{erased_types}
use Rattle.rx_compact_read.specs.Halves.{is_double, ampersand, halves, halves_of}
use Rattle.rx_parse_laws.proofs.SameWords.{Same, Again, again, got, some_element, same_mark, same_keyword, same_lifetime, same_anonymous, same_ident}

pub halves_more : (p : Class × List ℕ) (xs ys : List (Class × List ℕ)) → halves xs ≡ halves ys → halves (p ∷ xs) ≡ halves (p ∷ ys)
halves_more p xs ys e = ap (λ z. if is_double p.0 p.1 then ampersand ∷ ampersand ∷ z else p ∷ z) e

pub halves-append : (xs ys : List (Class × List ℕ)) → halves (xs ++ ys) ≡ halves xs ++ halves ys
halves-append [] ys = refl
halves-append (p ∷ xs) ys = by (is_double p.0 p.1) (halves-append xs ys) where
  by : (b : Bool) → halves (xs ++ ys) ≡ halves xs ++ halves ys
      → (if b then ampersand ∷ ampersand ∷ halves (xs ++ ys) else p ∷ halves (xs ++ ys)) ≡ (if b then ampersand ∷ ampersand ∷ halves xs else p ∷ halves xs) ++ halves ys
  by true e = ap (λ z. ampersand ∷ ampersand ∷ z) e
  by false e = ap (λ z. p ∷ z) e

words-append : (ts us : List Tok) → words (ts ++ us) ≡ words ts ++ words us
words-append [] us = refl
words-append (t ∷ ts) us = ap (λ l. (t.class, t.text) ∷ l) (words-append ts us)

pub halves_of-append : (ts us : List Tok) → halves_of (ts ++ us) ≡ halves_of ts ++ halves_of us
halves_of-append ts us = ap halves (words-append ts us) ∙ halves-append (words ts) (words us)

-- ---- the first word

-- no `&` and no `&&`
pub record Whole (c : Class) (w : List ℕ) : Type 0 where
  pub double : is_double c w ≡ false
  pub ampersand : (c, w) ≢ ampersand

not_mark : (c d : Class) (w : List ℕ) → c ≡ d → (d ≡ Mark → ⊥) → is_double d w ≡ false → Whole c w
not_mark c d w e n f = record { double = ap (λ x. is_double x w) e ∙ f; ampersand = λ h. n (sym e ∙ ap (λ (p : Class × List ℕ). p.0) h) }

whole_keyword : (u : Tok) → u.class ≡ Keyword → Whole u.class u.text
whole_keyword u e = not_mark u.class Keyword u.text e (λ h. absurd (cc)) refl

whole_name : (u : Tok) → u.class ≡ Identifier → Whole u.class u.text
whole_name u e = not_mark u.class Identifier u.text e (λ h. absurd (cc)) refl

whole_lifetime : (u : Tok) → u.class ≡ Lifetime → Whole u.class u.text
whole_lifetime u e = not_mark u.class Lifetime u.text e (λ h. absurd (cc)) refl

pub whole_mark : (u : Tok) (w : List ℕ) → IsMark w u → same_bytes w (codes "&&") ≡ false → w ≢ codes "&" → Whole u.class u.text
whole_mark u w s d n = record {
  double = ap (λ c. is_double c u.text) s.0 ∙ ap (λ x. same_bytes x (codes "&&")) s.1 ∙ d;
  ampersand = λ h. n (sym s.1 ∙ ap (λ (p : Class × List ℕ). p.1) h);
}

pub whole_halves : (u : Tok) (us : List Tok) → Whole u.class u.text → halves_of (u ∷ us) ≡ (u.class, u.text) ∷ halves_of us
whole_halves u us w = ap (λ b. if b then ampersand ∷ ampersand ∷ halves_of us else (u.class, u.text) ∷ halves_of us) w.double

double_halves : (u : Tok) (us : List Tok) → IsMark (codes "&&") u → halves_of (u ∷ us) ≡ ampersand ∷ ampersand ∷ halves_of us
double_halves u us s = ap (λ b. if b then ampersand ∷ ampersand ∷ halves_of us else (u.class, u.text) ∷ halves_of us) (ap (λ c. is_double c u.text) s.0 ∙ ap (λ x. same_bytes x (codes "&&")) s.1)

is_double_mark : (c : Class) (w : List ℕ) → is_double c w ≡ true → (c ≡ Mark) × (w ≡ codes "&&")
is_double_mark Mark w e = (refl, same_bytes-true w (codes "&&") e)
is_double_mark Identifier w e = absurd (cc)
is_double_mark Keyword w e = absurd (cc)
is_double_mark Lifetime w e = absurd (cc)
is_double_mark Number w e = absurd (cc)
is_double_mark Format w e = absurd (cc)

abbrev tail_of : List (Class × List ℕ) → List (Class × List ℕ)
tail_of [] = []
tail_of (p ∷ ps) = ps

abbrev head_of : Class × List ℕ → List (Class × List ℕ) → Class × List ℕ
head_of q [] = q
head_of q (p ∷ ps) = p

-- the first word is that of a token, or half of one
pub record Single (us : List Tok) (p : Class × List ℕ) (rest : List (Class × List ℕ)) : Type 0 where
  pub tok : Tok
  pub more : List Tok
  pub is : us ≡ tok ∷ more
  pub word : (tok.class, tok.text) ≡ p
  pub rest_halves : halves_of more ≡ rest

pub record Double (us : List Tok) (p : Class × List ℕ) (rest : List (Class × List ℕ)) : Type 0 where
  pub tok : Tok
  pub more : List Tok
  pub is : us ≡ tok ∷ more
  pub mark : IsMark (codes "&&") tok
  pub half : ampersand ≡ p
  pub rest_halves : ampersand ∷ halves_of more ≡ rest

first : (us : List Tok) (p : Class × List ℕ) (rest : List (Class × List ℕ)) → halves_of us ≡ p ∷ rest → Single us p rest ⊎ Double us p rest
first [] p rest e = absurd (cc)
first (u ∷ us) p rest e = by (is_double u.class u.text) refl where
  by : (b : Bool) → is_double u.class u.text ≡ b → Single (u ∷ us) p rest ⊎ Double (u ∷ us) p rest
  by true k =
      let f : ampersand ∷ ampersand ∷ halves_of us ≡ p ∷ rest = sym (ap (λ b. if b then ampersand ∷ ampersand ∷ halves_of us else (u.class, u.text) ∷ halves_of us) k) ∙ e in
      inr (record { tok = u; more = us; is = refl; mark = is_double_mark u.class u.text k; half = ap (head_of p) f; rest_halves = ap tail_of f })
  by false k =
      let f : (u.class, u.text) ∷ halves_of us ≡ p ∷ rest = sym (ap (λ b. if b then ampersand ∷ ampersand ∷ halves_of us else (u.class, u.text) ∷ halves_of us) k) ∙ e in
      inl (record { tok = u; more = us; is = refl; word = ap (head_of p) f; rest_halves = ap tail_of f })

pub record Front (us : List Tok) (t : Tok) (rest : List Tok) : Type 0 where
  pub tok : Tok
  pub more : List Tok
  pub is : us ≡ tok ∷ more
  pub same : Same tok t
  pub rest_halves : halves_of more ≡ halves_of rest

same_of : (u t : Tok) → ◌≡◌ {A = Class × List ℕ} (u.class, u.text) (t.class, t.text) → Same u t
same_of u t e = record { class = ap (λ (p : Class × List ℕ). p.0) e; text = ap (λ (p : Class × List ℕ). p.1) e }

-- a whole word is that of a token
pub front : (us : List Tok) (t : Tok) (rest : List Tok) → Whole t.class t.text → halves_of us ≡ halves_of (t ∷ rest) → Front us t rest
front us t rest w e = by (first us (t.class, t.text) (halves_of rest) (e ∙ whole_halves t rest w)) where
  by : Single us (t.class, t.text) (halves_of rest) ⊎ Double us (t.class, t.text) (halves_of rest) → Front us t rest
  by (inl s) = record { tok = s.tok; more = s.more; is = s.is; same = same_of s.tok t s.word; rest_halves = s.rest_halves }
  by (inr d) = absurd (w.ampersand (sym d.half))

pub onto : {us rest vs : List Tok} {t : Tok} (k : Front us t rest) → k.more ≡ vs → us ≡ k.tok ∷ vs
onto k e = k.is ∙ ap (λ l. k.tok ∷ l) e

none : (us : List Tok) → halves_of us ≡ [] → us ≡ []
none [] e = refl
none (u ∷ us) e = by (is_double u.class u.text) refl where
  by : (b : Bool) → is_double u.class u.text ≡ b → u ∷ us ≡ []
  by true k = let f : ampersand ∷ ampersand ∷ halves_of us ≡ [] = sym (ap (λ b. if b then ampersand ∷ ampersand ∷ halves_of us else (u.class, u.text) ∷ halves_of us) k) ∙ e in absurd (cc)
  by false k = let f : (u.class, u.text) ∷ halves_of us ≡ [] = sym (ap (λ b. if b then ampersand ∷ ampersand ∷ halves_of us else (u.class, u.text) ∷ halves_of us) k) ∙ e in absurd (cc)

one_left : {us : List Tok} {t : Tok} → (k : Front us t []) → us ≡ k.tok ∷ []
one_left k = onto k (none k.more k.rest_halves)

-- ---- before a whole word the tokens are cut

record CutAt (us : List Tok) (xs : List (Class × List ℕ)) (p : Class × List ℕ) (rest : List (Class × List ℕ)) : Type 0 where
  front : List Tok
  tok : Tok
  more : List Tok
  is : us ≡ front ++ (tok ∷ more)
  front_halves : halves_of front ≡ xs
  word : (tok.class, tok.text) ≡ p
  rest_halves : halves_of more ≡ rest

cut_at : (us : List Tok) (xs : List (Class × List ℕ)) (p : Class × List ℕ) (rest : List (Class × List ℕ)) → p ≢ ampersand → halves_of us ≡ xs ++ (p ∷ rest) → CutAt us xs p rest
cut_at [] [] p rest n e = absurd (cc)
cut_at [] (x ∷ xs) p rest n e = absurd (cc)
cut_at (u ∷ us) xs p rest n e = by (is_double u.class u.text) refl xs e (λ ys f. cut_at us ys p rest n f) where
  by : (b : Bool) → is_double u.class u.text ≡ b → (xs : List (Class × List ℕ)) → halves_of (u ∷ us) ≡ xs ++ (p ∷ rest) → ((ys : List (Class × List ℕ)) → halves_of us ≡ ys ++ (p ∷ rest) → CutAt us ys p rest)
      → CutAt (u ∷ us) xs p rest
  by true k [] e f = let g : ampersand ∷ ampersand ∷ halves_of us ≡ p ∷ rest = sym (ap (λ b. if b then ampersand ∷ ampersand ∷ halves_of us else (u.class, u.text) ∷ halves_of us) k) ∙ e in absurd (n (sym (ap (head_of p) g)))
  by true k (x ∷ []) e f =
      let g : ampersand ∷ ampersand ∷ halves_of us ≡ x ∷ p ∷ rest = sym (ap (λ b. if b then ampersand ∷ ampersand ∷ halves_of us else (u.class, u.text) ∷ halves_of us) k) ∙ e in
      absurd (n (sym (ap (head_of p) (ap tail_of g))))
  by true k (x ∷ y ∷ xs) e f =
      let g : ampersand ∷ ampersand ∷ halves_of us ≡ x ∷ y ∷ (xs ++ (p ∷ rest)) = sym (ap (λ b. if b then ampersand ∷ ampersand ∷ halves_of us else (u.class, u.text) ∷ halves_of us) k) ∙ e in
      let c = f xs (ap tail_of (ap tail_of g)) in record {
        front = u ∷ c.front;
        tok = c.tok;
        more = c.more;
        is = ap (λ l. u ∷ l) c.is;
        front_halves = ap (λ b. if b then ampersand ∷ ampersand ∷ halves_of c.front else (u.class, u.text) ∷ halves_of c.front) k
            ∙ ap (λ z. z ∷ ampersand ∷ halves_of c.front) (ap (head_of x) g) ∙ ap (λ z. x ∷ z ∷ halves_of c.front) (ap (head_of y) (ap tail_of g)) ∙ ap (λ z. x ∷ y ∷ z) c.front_halves;
        word = c.word;
        rest_halves = c.rest_halves;
      }
  by false k [] e f =
      let g : (u.class, u.text) ∷ halves_of us ≡ p ∷ rest = sym (ap (λ b. if b then ampersand ∷ ampersand ∷ halves_of us else (u.class, u.text) ∷ halves_of us) k) ∙ e in
      record { front = []; tok = u; more = us; is = refl; front_halves = refl; word = ap (head_of p) g; rest_halves = ap tail_of g }
  by false k (x ∷ xs) e f =
      let g : (u.class, u.text) ∷ halves_of us ≡ x ∷ (xs ++ (p ∷ rest)) = sym (ap (λ b. if b then ampersand ∷ ampersand ∷ halves_of us else (u.class, u.text) ∷ halves_of us) k) ∙ e in
      let c = f xs (ap tail_of g) in record {
        front = u ∷ c.front;
        tok = c.tok;
        more = c.more;
        is = ap (λ l. u ∷ l) c.is;
        front_halves = ap (λ b. if b then ampersand ∷ ampersand ∷ halves_of c.front else (u.class, u.text) ∷ halves_of c.front) k ∙ ap (λ z. z ∷ halves_of c.front) (ap (head_of x) g) ∙ ap (λ z. x ∷ z) c.front_halves;
        word = c.word;
        rest_halves = c.rest_halves;
      }

pub record Cut (us a : List Tok) (t : Tok) (b : List Tok) : Type 0 where
  pub first : List Tok
  pub tok : Tok
  pub more : List Tok
  pub is : us ≡ first ++ (tok ∷ more)
  pub first_halves : halves_of first ≡ halves_of a
  pub same : Same tok t
  pub rest_halves : halves_of more ≡ halves_of b

pub cut : (a : List Tok) (t : Tok) (b us : List Tok) → Whole t.class t.text → halves_of us ≡ halves_of (a ++ (t ∷ b)) → Cut us a t b
cut a t b us w e =
    let c = cut_at us (halves_of a) (t.class, t.text) (halves_of b) w.ampersand (e ∙ halves_of-append a (t ∷ b) ∙ ap (λ x. halves_of a ++ x) (whole_halves t b w)) in
    record { first = c.front; tok = c.tok; more = c.more; is = c.is; first_halves = c.front_halves; same = same_of c.tok t c.word; rest_halves = c.rest_halves }

record Closed (us a : List Tok) (c : Tok) : Type 0 where
  first : List Tok
  tok : Tok
  is : us ≡ first ++ tok ∷ []
  first_halves : halves_of first ≡ halves_of a
  same : Same tok c

closed : (a : List Tok) (c : Tok) (us : List Tok) → Whole c.class c.text → halves_of us ≡ halves_of (a ++ c ∷ []) → Closed us a c
closed a c us w e =
    let k = cut a c [] us w e in
    record { first = k.first; tok = k.tok; is = k.is ∙ ap (λ x. k.first ++ (k.tok ∷ x)) (none k.more k.rest_halves); first_halves = k.first_halves; same = k.same }

behind : {us a b vs : List Tok} {t : Tok} (c : Cut us a t b) → c.more ≡ vs → us ≡ c.first ++ (c.tok ∷ vs)
behind c e = c.is ∙ ap (λ l. c.first ++ (c.tok ∷ l)) e

comma : (u : Tok) → IsMark (codes ",") u → Whole u.class u.text
comma u s = whole_mark u (codes ",") s refl (λ e. absurd (cc))

colon : (u : Tok) → IsMark (codes ":") u → Whole u.class u.text
colon u s = whole_mark u (codes ":") s refl (λ e. absurd (cc))

pub opening : (u : Tok) → IsMark (codes "(") u → Whole u.class u.text
opening u s = whole_mark u (codes "(") s refl (λ e. absurd (cc))

pub closing : (u : Tok) → IsMark (codes ")") u → Whole u.class u.text
closing u s = whole_mark u (codes ")") s refl (λ e. absurd (cc))

less : (u : Tok) → IsMark (codes "<") u → Whole u.class u.text
less u s = whole_mark u (codes "<") s refl (λ e. absurd (cc))

more_mark : (u : Tok) → IsMark (codes ">") u → Whole u.class u.text
more_mark u s = whole_mark u (codes ">") s refl (λ e. absurd (cc))

arrow : (u : Tok) → IsMark (codes "->") u → Whole u.class u.text
arrow u s = whole_mark u (codes "->") s refl (λ e. absurd (cc))

-- ---- lists with commas

list_halved : {A D : Type 0} {E : List Tok → A → ℕ → Type 0} (view : A → D)
    → ((ts : List Tok) (x : A) (h : ℕ) → E ts x h → (us : List Tok) → halves_of us ≡ halves_of ts → Again (λ vs y. E vs y h) view us (view x))
    → {ts : List Tok} {xs : List A} {h : ℕ} → IsListOf E ts xs h → (us : List Tok) → halves_of us ≡ halves_of ts → Again (λ vs ys. IsListOf E vs ys h) (map view) us (map view xs)
list_halved {E = E} view one no_element us e = again [] (subst (λ l. IsListOf E l [] 0) (sym (none us e)) no_element) refl
list_halved view one (last_element d) us e = got (one _ _ _ d us e) (λ y dy sy. again (y ∷ []) (last_element dy) (ap (λ z. z ∷ []) sy))
list_halved view one (element a b c x xs m n d s r is) us e =
    let k = cut a c b us (comma c s) (e ∙ ap halves_of is) in
    got (one a x m d k.first k.first_halves) (λ y dy sy.
    got (list_halved view one r k.more k.rest_halves) (λ w dw sw.
    again (y ∷ w) (element k.first k.more k.tok y w m n dy (same_mark _ k.same s) dw k.is) (ap (λ z. z ∷ map view w) sy ∙ ap (λ z. view x ∷ z) sw)))

argument_halved : (ts : List Tok) (l : Option Ident) (h : ℕ) → t.IsLifetimeArgument ts l h → (us : List Tok) → halves_of us ≡ halves_of ts → Again (λ vs y. t.IsLifetimeArgument vs y h) erase_label us (erase_label l)
argument_halved ts l h (t.anonymous_argument a m) us e =
    let k = front us a [] (whole_lifetime a m.0) e in again None (subst (λ x. t.IsLifetimeArgument x None 0) (sym (one_left k)) (t.anonymous_argument k.tok (same_anonymous k.same m))) refl
argument_halved ts l h (t.lifetime_argument a m) us e =
    let k = front us a [] (whole_lifetime a m.0) e in
    again (Some (ident k.tok)) (subst (λ x. t.IsLifetimeArgument x (Some (ident k.tok)) 0) (sym (one_left k)) (t.lifetime_argument k.tok (same_lifetime k.same m)))
    (ap (λ (i : Ident). Some i) (same_ident k.same))

-- ---- behind an ampersand

record Pointed (us : List Tok) (l : Option Ident) (m : Bool) (vs : List Tok) : Type 0 where
  lifetime : List Tok
  mutability : List Tok
  more : List Tok
  is : us ≡ lifetime ++ (mutability ++ more)
  label : Option Ident
  labelled : t.IsReferenceLifetime lifetime label
  mutable_or_not : IsMutability mutability m
  same : erase_label label ≡ erase_label l
  rest_halves : halves_of more ≡ halves_of vs

pointed_at : (us ms vs : List Tok) (m : Bool) → IsMutability ms m → halves_of us ≡ halves_of (ms ++ vs) → (ls : List Tok) (l k : Option Ident) → t.IsReferenceLifetime ls k → erase_label k ≡ erase_label l → (ws : List Tok) → ws ≡ ls ++ us
    → Pointed ws l m vs
pointed_at us ms vs m immutable e ls l k d s ws is = record {
  lifetime = ls;
  mutability = [];
  more = us;
  is = is;
  label = k;
  labelled = d;
  mutable_or_not = immutable;
  same = s;
  rest_halves = e;
}
pointed_at us ms vs m (mutable a q) e ls l k d s ws is =
    let f = front us a vs (whole_keyword a q.0) e in record {
      lifetime = ls;
      mutability = f.tok ∷ [];
      more = f.more;
      is = is ∙ ap (λ x. ls ++ x) f.is;
      label = k;
      labelled = d;
      mutable_or_not = mutable f.tok (same_keyword _ f.same q);
      same = s;
      rest_halves = f.rest_halves;
    }

pointed : (us ls ms vs : List Tok) (l : Option Ident) (m : Bool) → t.IsReferenceLifetime ls l → IsMutability ms m → halves_of us ≡ halves_of (ls ++ (ms ++ vs)) → Pointed us l m vs
pointed us ls ms vs l m t.no_lifetime sm e = pointed_at us ms vs m sm e [] None None t.no_lifetime refl us refl
pointed us ls ms vs l m (t.anonymous a s) sm e =
    let k = front us a (ms ++ vs) (whole_lifetime a s.0) e in pointed_at k.more ms vs m sm k.rest_halves (k.tok ∷ []) None None (t.anonymous k.tok (same_anonymous k.same s)) refl us k.is
pointed us ls ms vs l m (t.lifetime a s) sm e =
    let k = front us a (ms ++ vs) (whole_lifetime a s.0) e in
    pointed_at k.more ms vs m sm k.rest_halves (k.tok ∷ []) (Some (ident a)) (Some (ident k.tok)) (t.lifetime k.tok (same_lifetime k.same s)) (ap (λ (i : Ident). Some i) (same_ident k.same)) us k.is

-- where a second ampersand follows, nothing stands between
record Bare (ls ms vs : List Tok) (l : Option Ident) (m : Bool) (rest : List (Class × List ℕ)) : Type 0 where
  label : l ≡ None
  fixed : m ≡ false
  halves : ampersand ∷ rest ≡ halves_of vs

bare : (ls ms vs : List Tok) (l : Option Ident) (m : Bool) (rest : List (Class × List ℕ)) → t.IsReferenceLifetime ls l → IsMutability ms m → ampersand ∷ rest ≡ halves_of (ls ++ (ms ++ vs)) → Bare ls ms vs l m rest
bare ls ms vs l m rest t.no_lifetime immutable e = record { label = refl; fixed = refl; halves = e }
bare ls ms vs l m rest t.no_lifetime (mutable a q) e = let w = whole_keyword a q.0 in absurd (w.ampersand (sym (ap (head_of ampersand) (e ∙ whole_halves a vs w))))
bare ls ms vs l m rest (t.anonymous a s) sm e = let w = whole_lifetime a s.0 in absurd (w.ampersand (sym (ap (head_of ampersand) (e ∙ whole_halves a (ms ++ vs) w))))
bare ls ms vs l m rest (t.lifetime a s) sm e = let w = whole_lifetime a s.0 in absurd (w.ampersand (sym (ap (head_of ampersand) (e ∙ whole_halves a (ms ++ vs) w))))

single_halves : (u : Tok) (us : List Tok) → IsMark (codes "&") u → halves_of (u ∷ us) ≡ ampersand ∷ halves_of us
single_halves u us s =
    ap (λ b. if b then ampersand ∷ ampersand ∷ halves_of us else (u.class, u.text) ∷ halves_of us) (ap (λ c. is_double c u.text) s.0 ∙ ap (λ x. same_bytes x (codes "&&")) s.1)
    ∙ ap (λ c. (c, u.text) ∷ halves_of us) s.0 ∙ ap (λ x. (Mark, x) ∷ halves_of us) s.1

mark_of : (u : Tok) → (u.class, u.text) ≡ ampersand → IsMark (codes "&") u
mark_of u e = (ap (λ (p : Class × List ℕ). p.0) e, ap (λ (p : Class × List ℕ). p.1) e)

abbrev TypeAgain : List Tok → TypeTree → ℕ → Type 0
TypeAgain us y h = Again (λ vs z. t.IsType vs z h) erase_type us (erase_type y)

reference_halved : (a : Tok) (ls ms vs : List Tok) (l : Option Ident) (m : Bool) (y : TypeTree) (h : ℕ) → IsMark (codes "&") a → t.IsReferenceLifetime ls l → IsMutability ms m → (us : List Tok)
    → ((ws : List Tok) → halves_of ws ≡ halves_of vs → TypeAgain ws y h) → Single us ampersand (halves_of (ls ++ (ms ++ vs))) ⊎ Double us ampersand (halves_of (ls ++ (ms ++ vs)))
    → Again (λ vs z. t.IsType vs z (suc h)) erase_type us (plain.ref_type nowhere (erase_label l) m (erase_type y))
reference_halved a ls ms vs l m y h s sl sm us f (inl k) =
    let p = pointed k.more ls ms vs l m sl sm k.rest_halves in
    got (f p.more p.rest_halves) (λ z dz sz.
    again _ (t.reference k.tok p.lifetime p.mutability p.more p.label m z h (mark_of k.tok k.word) p.labelled p.mutable_or_not dz (k.is ∙ ap (λ x. k.tok ∷ x) p.is))
    (ap (λ x. plain.ref_type nowhere x m (erase_type z)) p.same ∙ ap (λ x. plain.ref_type nowhere (erase_label l) m x) sz))
reference_halved a ls ms vs l m y h s sl sm us f (inr k) =
    let b = bare ls ms vs l m (halves_of k.more) sl sm k.rest_halves in
    got (f (second_ampersand k.tok ∷ k.more) b.halves) (λ z dz sz.
    again _ (t.two_references k.tok k.more z h k.mark dz k.is)
    (ap (λ x. plain.ref_type nowhere None false x) sz ∙ ap (λ x. plain.ref_type nowhere (erase_label x) false (erase_type y)) (sym b.label) ∙ ap (λ x. plain.ref_type nowhere (erase_label l) x (erase_type y)) (sym b.fixed)))

double_halved : (a : Tok) (vs : List Tok) (y : TypeTree) (h : ℕ) (us : List Tok) → ((ws : List Tok) → halves_of ws ≡ halves_of (second_ampersand a ∷ vs) → TypeAgain ws y h)
    → Single us ampersand (ampersand ∷ halves_of vs) ⊎ Double us ampersand (ampersand ∷ halves_of vs) → Again (λ vs z. t.IsType vs z (suc h)) erase_type us (plain.ref_type nowhere None false (erase_type y))
double_halved a vs y h us f (inl k) =
    got (f k.more k.rest_halves) (λ z dz sz.
    again _ (t.reference k.tok [] [] k.more None false z h (mark_of k.tok k.word) t.no_lifetime immutable dz k.is) (ap (λ x. plain.ref_type nowhere None false x) sz))
double_halved a vs y h us f (inr k) =
    got (f (second_ampersand k.tok ∷ k.more) k.rest_halves) (λ z dz sz.
    again _ (t.two_references k.tok k.more z h k.mark dz k.is) (ap (λ x. plain.ref_type nowhere None false x) sz))

mutual
  pub type_halved : {ts : List Tok} {y : TypeTree} {h : ℕ} → t.IsType ts y h → (us : List Tok) → halves_of us ≡ halves_of ts → TypeAgain us y h
  type_halved (t.kind a k s is) us e = let l = front us a [] (whole_keyword a s.0) (e ∙ ap halves_of is) in again _ (t.kind l.tok k (same_keyword _ l.same s) (one_left l)) refl
  type_halved (t.bool a s is) us e = let l = front us a [] (whole_keyword a s.0) (e ∙ ap halves_of is) in again _ (t.bool l.tok (same_keyword _ l.same s) (one_left l)) refl
  type_halved (t.named a s is) us e =
      let l = front us a [] (whole_name a s) (e ∙ ap halves_of is) in again _ (t.named l.tok (l.same.class ∙ s) (one_left l)) (ap (λ (i : Ident). plain.named_type nowhere i None) (same_ident l.same))
  type_halved (t.named_with a o c vs x xs s so sc d is) us e =
      let k = front us a (o ∷ (vs ++ c ∷ [])) (whole_name a s) (e ∙ ap halves_of is) in
      let l = front k.more o (vs ++ c ∷ []) (less o so) k.rest_halves in
      let z = closed vs c l.more (more_mark c sc) l.rest_halves in
      got (list_halved erase_label argument_halved d z.first z.first_halves) (λ y dy sy.
      let w = some_element erase_label y (erase_label x) (map erase_label xs) sy in
      again _ (t.named_with k.tok l.tok z.tok z.first w.0 w.1 (k.same.class ∙ s) (same_mark _ l.same so) (same_mark _ z.same sc) (subst (λ ys. IsListOf t.IsLifetimeArgument z.first ys 0) w.2 dy) (onto k (onto l z.is)))
      (ap (λ (i : Ident). plain.named_type nowhere i (Some (map erase_label (w.0 ∷ w.1)))) (same_ident k.same)
      ∙ ap (λ (u : List (Option Ident)). plain.named_type nowhere (erase_ident (ident a)) (Some u)) (ap (map erase_label) (sym w.2) ∙ sy)))
  type_halved (t.reference a ls ms vs l m y h s sl sm d is) us e =
      reference_halved a ls ms vs l m y h s sl sm us (λ ws f. type_halved d ws f) (first us ampersand (halves_of (ls ++ (ms ++ vs))) (e ∙ ap halves_of is ∙ single_halves a (ls ++ (ms ++ vs)) s))
  type_halved (t.two_references a vs y h s d is) us e =
      double_halved a vs y h us (λ ws f. type_halved d ws f) (first us ampersand (ampersand ∷ halves_of vs) (e ∙ ap halves_of is ∙ double_halves a vs s))
  type_halved (t.unit o c so sc is) us e =
      let k = front us o (c ∷ []) (opening o so) (e ∙ ap halves_of is) in
      let l = front k.more c [] (closing c sc) k.rest_halves in
      again _ (t.unit k.tok l.tok (same_mark _ k.same so) (same_mark _ l.same sc) (onto k (one_left l))) refl
  type_halved (t.parentheses o c vs x h so sc d is) us e =
      let k = front us o (vs ++ c ∷ []) (opening o so) (e ∙ ap halves_of is) in
      let z = closed vs c k.more (closing c sc) k.rest_halves in
      got (type_halved d z.first z.first_halves) (λ y dy sy. again _ (t.parentheses k.tok z.tok z.first y h (same_mark _ k.same so) (same_mark _ z.same sc) dy (onto k z.is)) sy)
  type_halved (t.tuple o m c ws vs x xs h i so sm sc d r is) us e =
      let k = front us o (ws ++ (m ∷ (vs ++ c ∷ []))) (opening o so) (e ∙ ap halves_of is) in
      let a = cut ws m (vs ++ c ∷ []) k.more (comma m sm) k.rest_halves in
      let z = closed vs c a.more (closing c sc) a.rest_halves in
      got (type_halved d a.first a.first_halves) (λ y dy sy.
      got (types_halved r z.first z.first_halves) (λ w dw sw.
      again _ (t.tuple k.tok a.tok z.tok a.first z.first y w h i (same_mark _ k.same so) (same_mark _ a.same sm) (same_mark _ z.same sc) dy dw
      (onto k (behind {vs = z.first ++ z.tok ∷ []} a z.is))) (rw (sy, sw) refl)))

  types_halved : {ts : List Tok} {xs : List TypeTree} {h : ℕ} → t.AreTypes ts xs h → (us : List Tok) → halves_of us ≡ halves_of ts → Again (λ vs ys. t.AreTypes vs ys h) erased_types us (erased_types xs)
  types_halved t.no_type us e = again [] (subst (λ l. t.AreTypes l [] 0) (sym (none us e)) t.no_type) refl
  types_halved (t.last_type d) us e = got (type_halved d us e) (λ y dy sy. again (y ∷ []) (t.last_type dy) (rw sy refl))
  types_halved (t.type_and a b c x xs m n d s r is) us e =
      let k = cut a c b us (comma c s) (e ∙ ap halves_of is) in
      got (type_halved d k.first k.first_halves) (λ y dy sy.
      got (types_halved r k.more k.rest_halves) (λ w dw sw.
      again (y ∷ w) (t.type_and k.first k.more k.tok y w m n dy (same_mark _ k.same s) dw k.is) (rw (sy, sw) refl)))

-- ---- parameters and a result

abbrev parameter_of : Ident → Bool → TypeTree → Parameter
parameter_of n m y = record { name = n; mutable = m; typ = y }

named_halved : (us vs : List Tok) (n c : Tok) (ms : List Tok) (m : Bool) (y : TypeTree) (h : ℕ) → IsMutability ms m → n.class ≡ Identifier → IsMark (codes ":") c → t.IsType vs y h → (ws : List Tok) → halves_of us ≡ halves_of (n ∷ c ∷ vs)
    → ws ≡ ms ++ us → Again (λ vs z. IsParameter vs z h) erase_parameter ws (erase_parameter (parameter_of (ident n) m y))
named_halved us vs n c ms m y h sm sn sc d ws e is =
    let k = front us n (c ∷ vs) (whole_name n sn) e in
    let l = front k.more c vs (colon c sc) k.rest_halves in
    got (type_halved d l.more l.rest_halves) (λ z dz sz.
    again _ (parameter ms l.more k.tok l.tok m z h sm (k.same.class ∙ sn) (same_mark _ l.same sc) dz (is ∙ ap (λ x. ms ++ x) (onto k l.is)))
    (ap (λ (i : Ident). parameter_of i m (erase_type z)) (same_ident k.same) ∙ ap (λ (x : TypeTree). parameter_of (erase_ident (ident n)) m x) sz))

parameter_halved : (ts : List Tok) (x : Parameter) (h : ℕ) → IsParameter ts x h → (us : List Tok) → halves_of us ≡ halves_of ts → Again (λ vs y. IsParameter vs y h) erase_parameter us (erase_parameter x)
parameter_halved ts x h (parameter ms vs n c m y i sm sn sc d is) us e = by ms m sm (e ∙ ap halves_of is) where
  by : (ms : List Tok) (m : Bool) → IsMutability ms m → halves_of us ≡ halves_of (ms ++ (n ∷ c ∷ vs)) → Again (λ vs y. IsParameter vs y i) erase_parameter us (erase_parameter (parameter_of (ident n) m y))
  by ms m immutable f = named_halved us vs n c [] false y i immutable sn sc d us f refl
  by ms m (mutable a q) f =
      let k = front us a (n ∷ c ∷ vs) (whole_keyword a q.0) f in named_halved k.more vs n c (k.tok ∷ []) true y i (mutable k.tok (same_keyword _ k.same q)) sn sc d us k.rest_halves k.is

pub parameters_halved : {ts : List Tok} {xs : List Parameter} {h : ℕ} → IsListOf IsParameter ts xs h → (us : List Tok) → halves_of us ≡ halves_of ts
    → Again (λ vs ys. IsListOf IsParameter vs ys h) (map erase_parameter) us (map erase_parameter xs)
parameters_halved d us e = list_halved erase_parameter parameter_halved d us e

pub result_halved : {ts : List Tok} {y : Option TypeTree} {h : ℕ} → IsResult ts y h → (us : List Tok) → halves_of us ≡ halves_of ts → Again (λ vs z. IsResult vs z h) (option_map erase_type) us (option_map erase_type y)
result_halved no_result us e = again None (subst (λ l. IsResult l None 0) (sym (none us e)) no_result) refl
result_halved (result a vs y h sa d is) us e =
    let k = front us a vs (arrow a sa) (e ∙ ap halves_of is) in
    got (type_halved d k.more k.rest_halves) (λ z dz sz. again (Some z) (result k.tok k.more z h (same_mark _ k.same sa) dz k.is) (ap (λ (x : TypeTree). Some x) sz))
