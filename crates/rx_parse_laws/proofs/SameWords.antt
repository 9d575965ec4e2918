-- What tokens with the same words have in common: they are parted alike, and each is the mark, the name or the number that the other is.
-- By recursion on the list of tokens, and for each kind of token from its class and its text.
use Rattle.std.proofs.Common.{◌≡◌, ℕ, Bool, true, false, List, [], ◌∷◌, ◌++◌, Option, refl, sym, ap, subst, ◌∙◌, map}
use Rattle.rx_core.specs.declared.types.Kind.{Kind}
use Rattle.rx_tree.specs.declared.tree.BinaryOp.{BinaryOp}
use Rattle.rx_tree.specs.declared.tree.UpdateOp.{UpdateOp}
use Rattle.rx_tree.specs.Erase.{nowhere, erase_ident}
use Rattle.rx_lex.specs.declared.token.Class.{Class}
use Rattle.rx_lex.specs.Tok.{Tok}
use Rattle.rx_lex.specs.Numerals.{IsNumeral, value_from}
use Rattle.rx_parse_grammar.specs.grammar.Words.{IsMark, IsKeyword, IsNamed, IsLifetime, IsAnonymous, IsNumber, IsIndex, IsMutability, immutable, mutable, IsListOf, no_element, last_element, element, ident, is_index}
use Rattle.rx_parse_grammar.specs.grammar.Expressions as g
use Rattle.rx_parse_grammar.specs.grammar.Expressions.{IsOperator, IsUpdate}
use Rattle.rx_parse_laws.specs.Words.{words}

-- ---- tokens with the same words

pub record Same (u t : Tok) : Type 0 where
  pub class : u.class ≡ t.class
  pub text : u.text ≡ t.text

abbrev drop_one : List (Class × List ℕ) → List (Class × List ℕ)
drop_one [] = []
drop_one (p ∷ ps) = ps

abbrev first_or : Class × List ℕ → List (Class × List ℕ) → Class × List ℕ
first_or q [] = q
first_or q (p ∷ ps) = p

pub record Front (us : List Tok) (t : Tok) (rest : List Tok) : Type 0 where
  pub tok : Tok
  pub more : List Tok
  pub is : us ≡ tok ∷ more
  pub same : Same tok t
  pub rest_words : words more ≡ words rest

pub front : (us : List Tok) (t : Tok) (rest : List Tok) → words us ≡ words (t ∷ rest) → Front us t rest
front [] t rest e = absurd (cc)
front (u ∷ us) t rest e =
    let h : (u.class, u.text) ≡ (t.class, t.text) = ap (first_or (u.class, u.text)) e in
    let k : words us ≡ words rest = ap drop_one e in
    record { tok = u; more = us; is = refl; same = record { class = ap (λ (p : Class × List ℕ). p.0) h; text = ap (λ (p : Class × List ℕ). p.1) h }; rest_words = k }

pub record Cut (us a b : List Tok) : Type 0 where
  pub first : List Tok
  pub second : List Tok
  pub is : us ≡ first ++ second
  pub first_words : words first ≡ words a
  pub second_words : words second ≡ words b

pub cut : (a b us : List Tok) → words us ≡ words (a ++ b) → Cut us a b
cut [] b us e = record { first = []; second = us; is = refl; first_words = refl; second_words = e }
cut (t ∷ a) b [] e = absurd (cc)
cut (t ∷ a) b (u ∷ us) e =
    let h : (u.class, u.text) ≡ (t.class, t.text) = ap (first_or (u.class, u.text)) e in
    let k : words us ≡ words (a ++ b) = ap drop_one e in
    let c = cut a b us k in
    record { first = u ∷ c.first; second = c.second; is = ap (λ l. u ∷ l) c.is; first_words = ap (λ (p : Class × List ℕ). p ∷ words c.first) h ∙ ap (λ l. (t.class, t.text) ∷ l) c.first_words; second_words = c.second_words }

-- ---- the parts of a list, put together again

pub onto : {us rest vs : List Tok} {t : Tok} (k : Front us t rest) → k.more ≡ vs → us ≡ k.tok ∷ vs
onto k e = k.is ∙ ap (λ l. k.tok ∷ l) e

pub behind : {us a b vs : List Tok} (c : Cut us a b) → c.second ≡ vs → us ≡ c.first ++ vs
behind c e = c.is ∙ ap (λ l. c.first ++ l) e

pub none : (us : List Tok) → words us ≡ words [] → us ≡ []
none [] e = refl
none (u ∷ us) e = absurd (cc)

pub same_mark : {u t : Tok} (w : List ℕ) → Same u t → IsMark w t → IsMark w u
same_mark w s m = (s.class ∙ m.0, s.text ∙ m.1)

pub same_keyword : {u t : Tok} (w : List ℕ) → Same u t → IsKeyword w t → IsKeyword w u
same_keyword w s m = (s.class ∙ m.0, s.text ∙ m.1)

pub same_lifetime : {u t : Tok} → Same u t → IsLifetime t → IsLifetime u
same_lifetime s m = (s.class ∙ m.0, λ e. m.1 (sym s.text ∙ e))

pub same_number : {u t : Tok} {v : ℕ} {k : Option Kind} → Same u t → IsNumber t v k → IsNumber u v k
same_number {v = v} {k = k} s n = record { class = s.class ∙ n.class; numeral = subst (λ w. IsNumeral w v k) (sym s.text) n.numeral; fits = n.fits }

pub same_operator : {j : ℕ} {u t : Tok} {o : BinaryOp} → Same u t → IsOperator j t o → IsOperator j u o
same_operator s (g.times m) = g.times (same_mark _ s m)
same_operator s (g.divided m) = g.divided (same_mark _ s m)
same_operator s (g.modulo m) = g.modulo (same_mark _ s m)
same_operator s (g.plus m) = g.plus (same_mark _ s m)
same_operator s (g.minus m) = g.minus (same_mark _ s m)
same_operator s (g.equal m) = g.equal (same_mark _ s m)
same_operator s (g.unequal m) = g.unequal (same_mark _ s m)
same_operator s (g.less m) = g.less (same_mark _ s m)
same_operator s (g.at_most m) = g.at_most (same_mark _ s m)
same_operator s (g.greater m) = g.greater (same_mark _ s m)
same_operator s (g.at_least m) = g.at_least (same_mark _ s m)
same_operator s (g.and m) = g.and (same_mark _ s m)
same_operator s (g.or m) = g.or (same_mark _ s m)

pub same_update : {u t : Tok} {o : UpdateOp} → Same u t → IsUpdate t o → IsUpdate u o
same_update s (g.plus_equal m) = g.plus_equal (same_mark _ s m)
same_update s (g.minus_equal m) = g.minus_equal (same_mark _ s m)
same_update s (g.times_equal m) = g.times_equal (same_mark _ s m)
same_update s (g.divided_equal m) = g.divided_equal (same_mark _ s m)
same_update s (g.modulo_equal m) = g.modulo_equal (same_mark _ s m)

-- ---- what is claimed of a part: the tokens are derived too, as a tree of which the same is seen

pub record Again {B D : Type 0} (J : List Tok → B → Type 0) (view : B → D) (us : List Tok) (want : D) : Type 0 where
  pub tree : B
  pub derived : J us tree
  pub same : view tree ≡ want

pub again : {B D : Type 0} {J : List Tok → B → Type 0} {view : B → D} {us : List Tok} {want : D} (y : B) → J us y → view y ≡ want → Again J view us want
again y d e = record { tree = y; derived = d; same = e }

pub got : {B D R : Type 0} {J : List Tok → B → Type 0} {view : B → D} {us : List Tok} {want : D} → Again J view us want → ((y : B) → J us y → view y ≡ want → R) → R
got r f = f r.tree r.derived r.same

pub told : {B D : Type 0} {J : List Tok → B → Type 0} {view : B → D} {us : List Tok} {want : D} → Again J view us want
    → (y : B) × J us y × (view y ≡ want)
told r = (r.tree, r.derived, r.same)

pub same_mutability : {ms : List Tok} {m : Bool} → IsMutability ms m → (us : List Tok) → words us ≡ words ms → IsMutability us m
same_mutability immutable us e = subst (λ l. IsMutability l false) (sym (none us e)) immutable
same_mutability (mutable t k) us e =
    let f = front us t [] e in
    subst (λ l. IsMutability l true) (sym (onto f (none f.more f.rest_words))) (mutable f.tok (same_keyword _ f.same k))

pub same_index : {u t : Tok} {v : ℕ} → Same u t → IsIndex t v → IsIndex u v
same_index {v = v} s n = record { class = s.class ∙ n.class; digits = ap is_index s.text ∙ n.digits; value = n.value ∙ ap (λ w. value_from 10 0 w) (sym s.text); fits = n.fits }

pub same_named : {u t : Tok} (w : List ℕ) → Same u t → IsNamed w t → IsNamed w u
same_named w s m = (s.class ∙ m.0, s.text ∙ m.1)

pub one_left : {us : List Tok} {t : Tok} → (k : Front us t []) → us ≡ k.tok ∷ []
one_left k = onto k (none k.more k.rest_words)

pub same_ident : {u t : Tok} → Same u t → erase_ident (ident u) ≡ erase_ident (ident t)
same_ident s = ap (λ (w : List ℕ). record { span = nowhere; name = w }) s.text

pub record Closed (us a : List Tok) (c : Tok) : Type 0 where
  pub first : List Tok
  pub tok : Tok
  pub is : us ≡ first ++ tok ∷ []
  pub first_words : words first ≡ words a
  pub same : Same tok c

pub closed : (a : List Tok) (c : Tok) (us : List Tok) → words us ≡ words (a ++ c ∷ []) → Closed us a c
closed a c us e =
    let k = cut a (c ∷ []) us e in
    let l = front k.second c [] k.second_words in
    record { first = k.first; tok = l.tok; is = behind k (one_left l); first_words = k.first_words; same = l.same }

pub same_anonymous : {u t : Tok} → Same u t → IsAnonymous t → IsAnonymous u
same_anonymous s m = (s.class ∙ m.0, s.text ∙ m.1)

-- ---- lists with commas, of what is derived again

pub list_again : {A D : Type 0} {E : List Tok → A → ℕ → Type 0} (view : A → D)
    → ((ts : List Tok) (x : A) (h : ℕ) → E ts x h → (us : List Tok) → words us ≡ words ts → Again (λ vs y. E vs y h) view us (view x))
    → {ts : List Tok} {xs : List A} {h : ℕ} → IsListOf E ts xs h → (us : List Tok) → words us ≡ words ts
    → Again (λ vs ys. IsListOf E vs ys h) (map view) us (map view xs)
list_again {E = E} view one no_element us e = again [] (subst (λ l. IsListOf E l [] 0) (sym (none us e)) no_element) refl
list_again view one (last_element d) us e = got (one _ _ _ d us e) (λ y dy sy. again (y ∷ []) (last_element dy) (ap (λ z. z ∷ []) sy))
list_again view one (element a b c x xs m n d s r is) us e =
    let k = cut a (c ∷ b) us (e ∙ ap words is) in
    let l = front k.second c b k.second_words in
    got (one a x m d k.first k.first_words) (λ y dy sy.
    got (list_again view one r l.more l.rest_words) (λ w dw sw.
    again (y ∷ w) (element k.first l.more l.tok y w m n dy (same_mark _ l.same s) dw (behind k l.is))
    (ap (λ z. z ∷ map view w) sy ∙ ap (λ z. view x ∷ z) sw)))

-- what is seen as a list with a first element is one
pub some_element : {A D : Type 0} (view : A → D) (zs : List A) (a : D) (more : List D) → map view zs ≡ a ∷ more
    → (z : A) × (ws : List A) × (zs ≡ z ∷ ws)
some_element view [] a more e = absurd (cc)
some_element view (z ∷ ws) a more e = (z, ws, refl)
