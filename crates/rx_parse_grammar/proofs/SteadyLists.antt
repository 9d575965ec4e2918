-- Loops over tokens depend on no token behind the one at which they stop: lists in brackets, what stands in parentheses, chains.
use Rattle.std.proofs.Common.{◌≡◌, ℕ, zero, suc, ◌≤◌, max, Bool, true, false, cond, List, [], ◌∷◌, ◌++◌, length, Ok, Err, refl, sym, ap, subst, ◌∙◌, arith, length-append}
use Rattle.std.specs.Prelude.{◌≢◌, nat_lt}
use Rattle.rx_core.specs.declared.types.Span.{Span}
use Rattle.rx_lex.specs.Tok.{Tok}
use Rattle.rx_parse_grammar.specs.declared.stop.Stop.TheVariants.{Syntax, TooDeep}
use Rattle.rx_parse_grammar.specs.declared.symbol.Symbol.{Symbol}
use Rattle.rx_parse_grammar.specs.declared.symbol.Symbol.TheVariants as symbol
use Rattle.rx_parse_grammar.specs.grammar.Words.{second_ampersand}
use Rattle.rx_parse_grammar.specs.parser.Symbols.{head, tail, peek}
use Rattle.rx_parse_grammar.specs.parser.Steps.{Parser, Outcome, Got, and_then, ◌>>=◌, refuse, too_deep, next, expect, sees, within}
use Rattle.rx_parse_grammar.specs.parser.Lists.{elements_from, elements, some_elements, closed, group}
use Rattle.rx_parse_grammar.proofs.SymbolLemmas.{is_word, unseen}
use Rattle.rx_parse_grammar.proofs.Deriving.{expected, okay, same_pair, two}
use Rattle.rx_parse_grammar.proofs.Steady.{Like, ended, token, like_before, like_peek, Steady, reads, stops, deep, Alike, Depths, bound, Eats, then, eaten, pures, refuses, deepens, takes, by, either}

pub takes_eats : (q : Symbol) → is_word q ≡ true → Eats (expect q)
takes_eats q w = record { less = λ i r c e. let z = ap length (expected q i c r w e).1 in omega arith }

-- what is left decides what was passed
pub split_same : (a b c d : List Tok) → a ++ b ≡ c ++ d → length b ≡ length d → (a ≡ c) × (b ≡ d)
split_same [] b [] d e l = (refl, e)
split_same [] b (x ∷ c) d e l = absurd (let z = ap length e in omega (arith, length-append c d))
split_same (x ∷ a) b [] d e l = absurd (let z = ap length e in omega (arith, length-append a b))
split_same (x ∷ a) b (y ∷ c) d e l =
    let h : x ≡ y = cc in
    let t : a ++ b ≡ c ++ d = cc in
    let w = split_same a b c d t l in (cc, w.1)

-- ---- a loop with as much fuel as there are tokens

pub again_reads : {A : Type 0} {k : Bool} {m : ℕ} {q : Parser A} {i : List Tok} {o : Outcome A} (us r : List Tok) (a : A) → i ≡ us ++ r → o ≡ Ok (a, r) → Steady k m q i o
    → (s : List Tok) → Like r s → length (us ++ s) ≤ m → q (us ++ s) ≡ Ok (a, s)
again_reads {m = m} {q = q} us r a is oe (reads vs x b it oi again) s l w =
    let p = same_pair (a, r) (b, x) (sym oe ∙ oi) in
    let y = split_same us r vs x (sym is ∙ it) (ap (λ (z : _ × List Tok). length z.1) p) in
    ap (λ z. q (z ++ s)) y.0 ∙ again s (subst (λ z. Like z s) y.1 l) (subst (λ z. length (z ++ s) ≤ m) y.0 w) ∙ ap (λ (z : _ × List Tok). okay (z.0, s)) (sym p)
again_reads us r a is oe (stops vs x it oi again) s l w = absurd (cc)
again_reads us r a is oe (deep vs x it oi again) s l w = absurd (cc)

pub again_stops : {A : Type 0} {k : Bool} {m : ℕ} {q : Parser A} {i : List Tok} {o : Outcome A} (us r : List Tok) → i ≡ us ++ r → o ≡ Err (Syntax (length r)) → Steady k m q i o
    → (s : List Tok) → Like r s → length (us ++ s) ≤ m → q (us ++ s) ≡ Err (Syntax (length s))
again_stops us r is oe (reads vs x b it oi again) s l w = absurd (cc)
again_stops {m = m} {q = q} us r is oe (stops vs x it oi again) s l w =
    let n : length r ≡ length x = cc in
    let y = split_same us r vs x (sym is ∙ it) n in
    ap (λ z. q (z ++ s)) y.0 ∙ again s (subst (λ z. Like z s) y.1 l) (subst (λ z. length (z ++ s) ≤ m) y.0 w)
again_stops us r is oe (deep vs x it oi again) s l w = absurd (cc)

pub again_deep : {A : Type 0} {k : Bool} {m : ℕ} {q : Parser A} {i : List Tok} {o : Outcome A} (us r : List Tok) → i ≡ us ++ r → o ≡ Err (TooDeep (length r)) → Steady k m q i o
    → k ≡ true → (s : List Tok) → Like r s → length (us ++ s) ≤ m → q (us ++ s) ≡ Err (TooDeep (length s))
again_deep us r is oe (reads vs x b it oi again) k s l w = absurd (cc)
again_deep us r is oe (stops vs x it oi again) k s l w = absurd (cc)
again_deep {m = m} {q = q} us r is oe (deep vs x it oi again) k s l w =
    let n : length r ≡ length x = cc in
    let y = split_same us r vs x (sym is ∙ it) n in
    ap (λ z. q (z ++ s)) y.0 ∙ again k s (subst (λ z. Like z s) y.1 l) (subst (λ z. length (z ++ s) ≤ m) y.0 w)

filled : {A : Type 0} {k : Bool} {x m : ℕ} (g : ℕ → Parser A) (i : List Tok) (o : Outcome A) → Steady k x (g x) i o → ((y : ℕ) → Steady k y (g y) i o) → Steady k m (λ s. g (length s) s) i o
filled g i o (reads us r a is oe again) all = reads us r a is oe (λ s l w. again_reads us r a is oe (all (length (us ++ s))) s l (omega arith))
filled g i o (stops us r is oe again) all = stops us r is oe (λ s l w. again_stops us r is oe (all (length (us ++ s))) s l (omega arith))
filled g i o (deep us r is oe again) all = deep us r is oe (λ k s l w. again_deep us r is oe (all (length (us ++ s))) k s l (omega arith))

pub fueled : {A : Type 0} {k : Bool} {n m : ℕ} (f g : ℕ → Parser A) → ((x y : ℕ) → Alike k x y (f x) (g y)) → Alike k n m (λ i. f (length i) i) (λ i. g (length i) i)
fueled f g each = record { at = λ i b. filled {x = 0} g i (f (length i) i) ((each (length i) 0).at i (omega arith)) (λ y. (each (length i) y).at i (omega arith)) }

-- both refuse the end
pub end_refused : {A : Type 0} {k : Bool} {m : ℕ} {q : Parser A} {o : Outcome A} → o ≡ Err (Syntax 0) → q [] ≡ Err (Syntax 0) → Steady k m q [] o
end_refused {A = A} {q = q} e f = stops [] [] refl e (λ s l w. none_then s l)
  where
    none_then : (s : List Tok) → Like [] s → q s ≡ Err (Syntax (length s))
    none_then s ended = f

-- both read nothing at the end
pub end_read : {A : Type 0} {k : Bool} {m : ℕ} {q : Parser A} {o : Outcome A} (a : A) → o ≡ Ok (a, []) → q [] ≡ Ok (a, []) → Steady k m q [] o
end_read {A = A} {q = q} a e f = reads [] [] a refl e (λ s l w. none_then s l)
  where
    none_then : (s : List Tok) → Like [] s → q s ≡ Ok (a, s)
    none_then s ended = f

-- without fuel there is no token
nothing_first : {A : Type 0} {k : Bool} {m : ℕ} {p q : Parser A} → Steady k m q [] (p []) → Alike k 0 m p q
nothing_first {A = A} {k = k} {m = m} {p = p} {q = q} h = record { at = λ i b. empty i b }
  where
    empty : (i : List Tok) → length i ≤ 0 → Steady k m q i (p i)
    empty [] b = h
    empty (t ∷ i) b = absurd (omega arith)

nothing_second : {A : Type 0} {k : Bool} {n m : ℕ} {p q x : Parser A} → Steady k 0 q [] (p []) → Alike k n m p x → Alike k n 0 p q
nothing_second {A = A} {k = k} {n = n} {m = m} {p = p} {q = q} {x = x} h one = record { at = λ i b. less i (one.at i b) }
  where
    too_many : (t : Tok) (i us r s : List Tok) → t ∷ i ≡ us ++ r → Like r s → length (us ++ s) ≤ 0 → ⊥
    too_many t i [] r s is ended w = cc
    too_many t i [] r s is (token u v z) w = omega arith
    too_many t i (u ∷ us) r s is l w = omega arith

    less : (i : List Tok) → Steady k m x i (p i) → Steady k 0 q i (p i)
    less [] y = h
    less (t ∷ i) (reads us r a is oe again) = reads us r a is oe (λ s l w. absurd (too_many t i us r s is l w))
    less (t ∷ i) (stops us r is oe again) = stops us r is oe (λ s l w. absurd (too_many t i us r s is l w))
    less (t ∷ i) (deep us r is oe again) = deep us r is oe (λ y s l w. absurd (too_many t i us r s is l w))

-- a loop that has as much fuel as there are tokens at least
pub looped : {A B : Type 0} {k : Bool} (f g : ℕ → B → Parser A) → ((n m : ℕ) (x : B) → Steady k m (g m x) [] (f n x []))
    → ((n m : ℕ) → ((x : B) → Alike k n m (f n x) (g m x)) → (x : B) → Alike k (suc n) (suc m) (f (suc n) x) (g (suc m) x)) → (n m : ℕ) (x : B) → Alike k n m (f n x) (g m x)
looped f g ends step zero m x = nothing_first (ends 0 m x)
looped f g ends step (suc n) zero x = nothing_second (ends (suc n) 0 x) (step n 0 (looped f g ends step n 0) x)
looped f g ends step (suc n) (suc m) x = step n m (looped f g ends step n m) x

-- ---- lists in brackets

word_not_end : (q : Symbol) → is_word q ≡ true → symbol.End ≢ q
word_not_end q w e = let z : is_word symbol.End ≡ true = ap is_word e ∙ w in cc

module _ {A : Type 0} {k : Bool} (close : Symbol) (word : is_word close ≡ true) {e f : Parser (Got A)} (same : (n m : ℕ) → Alike k n m e f) (e_ends : e [] ≡ Err (Syntax 0)) (f_ends : f [] ≡ Err (Syntax 0)) where
  closes : {n m : ℕ} (found : List A) (h : ℕ) → Alike k n m (closed close e found h) (closed close f found h)
  closes found h = then (takes close) (λ c. pures)

  first_ends : (p : Parser (Got A)) → p [] ≡ Err (Syntax 0) → (n : ℕ) (x : List A × ℕ) → elements_from close p n x.0 x.1 [] ≡ Err (Syntax 0)
  unfolding elements_from
  first_ends p e zero x = refl
  first_ends p e (suc n) x = rw (unseen close [] (word_not_end close word), e)

  elements_step : (n m : ℕ) → ((x : List A × ℕ) → Alike k n m (elements_from close e n x.0 x.1) (elements_from close f m x.0 x.1)) → (x : List A × ℕ)
      → Alike k (suc n) (suc m) (elements_from close e (suc n) x.0 x.1) (elements_from close f (suc m) x.0 x.1)
  unfolding elements_from
  elements_step n m more x = either close (closes x.0 x.1) (then (same _ _) (λ y. either symbol.Comma
      (eaten (takes_eats symbol.Comma refl) (takes symbol.Comma) (λ c. more (x.0 ++ (y.tree ∷ []), max x.1 y.height))) (closes _ _)))

  elements_from_alike : (n m : ℕ) (x : List A × ℕ) → Alike k n m (elements_from close e n x.0 x.1) (elements_from close f m x.0 x.1)
  unfolding elements_from
  elements_from_alike = looped (λ n x. elements_from close e n x.0 x.1) (λ n x. elements_from close f n x.0 x.1) (λ n m x. end_refused (first_ends e e_ends n x) (first_ends f f_ends m x)) elements_step

  pub elements_alike : {n m : ℕ} (found : List A) (h : ℕ) → Alike k n m (elements close e found h) (elements close f found h)
  unfolding elements
  elements_alike found h = fueled (λ n. elements_from close e n found h) (λ n. elements_from close f n found h) (λ x y. elements_from_alike x y (found, h))

  pub some_alike : {n m : ℕ} → Alike k n m (some_elements close e) (some_elements close f)
  unfolding some_elements
  some_alike = then (same _ _) (λ y. either symbol.Comma (then (takes symbol.Comma) (λ c. elements_alike _ _)) (closes _ _))

-- ---- what stands in parentheses

pub group_alike : {A : Type 0} {k : Bool} {n m : ℕ} {e f : Parser (Got A)} (t : Span → List A → A) → ((n m : ℕ) → Alike k n m e f) → e [] ≡ Err (Syntax 0) → f [] ≡ Err (Syntax 0) → Alike k n m (group e t) (group f t)
unfolding group
group_alike t same e_ends f_ends = then (takes symbol.OpenParen) (λ o. either symbol.CloseParen (then (takes symbol.CloseParen) (λ c. pures))
    (then (same _ _) (λ x. either symbol.Comma (then (takes symbol.Comma) (λ c. then (elements_alike symbol.CloseParen refl same e_ends f_ends _ _) (λ l. pures)))
    (then (takes symbol.CloseParen) (λ c. pures)))))

-- ---- the mark `&&`, whose second half begins a part

-- what answers alike where the next token is the same
swapped : {A : Type 0} {k : Bool} {m : ℕ} {q x : Parser A} {i : List Tok} {o : Outcome A} → ((s : List Tok) → Like i s → x s ≡ q s) → Steady k m q i o → Steady k m x i o
swapped same (reads us r a is oe again) = reads us r a is oe (λ s l w. same (us ++ s) (subst (λ z. Like z (us ++ s)) (sym is) (like_before us r s l)) ∙ again s l w)
swapped same (stops us r is oe again) = stops us r is oe (λ s l w. same (us ++ s) (subst (λ z. Like z (us ++ s)) (sym is) (like_before us r s l)) ∙ again s l w)
swapped same (deep us r is oe again) = deep us r is oe (λ k s l w. same (us ++ s) (subst (λ z. Like z (us ++ s)) (sym is) (like_before us r s l)) ∙ again k s l w)

-- from the second half of the first token
abbrev halved : {A : Type 0} → Parser A → Parser A
halved p = λ i. p (second_ampersand (head i) ∷ tail i)

halved_at : {A : Type 0} {k : Bool} {m : ℕ} (q : Parser A) (t : Tok) (i : List Tok) (o : Outcome A) → ((r : List Tok) (a : A) → o ≡ Ok (a, r) → suc (length r) ≤ suc (length i))
    → Steady k m q (second_ampersand t ∷ i) o → Steady k m (halved q) (t ∷ i) o
halved_at q t i o eat (reads [] r a is oe again) = absurd (let z = ap length is in let y = eat r a oe in omega arith)
halved_at q t i o eat (reads (u ∷ us) r a is oe again) =
    let h : second_ampersand t ≡ u = ap head is in
    reads (t ∷ us) r a (ap (λ z. t ∷ tail z) is) oe (λ s l w. ap (λ z. q (z ∷ (us ++ s))) h ∙ again s l w)
halved_at {k = k} {m = m} q t i o eat (stops [] r is oe again) = stops [] (t ∷ i) refl (oe ∙ ap (λ z. Err (Syntax (length z))) (sym is)) (λ s l w. whole s l w)
  where
    whole : (s : List Tok) → Like (t ∷ i) s → length s ≤ m → halved q s ≡ Err (Syntax (length s))
    whole s (token u v z) w = again (second_ampersand t ∷ z) (subst (λ y. Like y (second_ampersand t ∷ z)) is (token (second_ampersand t) i z)) w
halved_at q t i o eat (stops (u ∷ us) r is oe again) =
    let h : second_ampersand t ≡ u = ap head is in
    stops (t ∷ us) r (ap (λ z. t ∷ tail z) is) oe (λ s l w. ap (λ z. q (z ∷ (us ++ s))) h ∙ again s l w)
halved_at {k = k} {m = m} q t i o eat (deep [] r is oe again) = deep [] (t ∷ i) refl (oe ∙ ap (λ z. Err (TooDeep (length z))) (sym is)) (λ y s l w. whole y s l w)
  where
    whole : k ≡ true → (s : List Tok) → Like (t ∷ i) s → length s ≤ m → halved q s ≡ Err (TooDeep (length s))
    whole y s (token u v z) w = again y (second_ampersand t ∷ z) (subst (λ y. Like y (second_ampersand t ∷ z)) is (token (second_ampersand t) i z)) w
halved_at q t i o eat (deep (u ∷ us) r is oe again) =
    let h : second_ampersand t ≡ u = ap head is in
    deep (t ∷ us) r (ap (λ z. t ∷ tail z) is) oe (λ y s l w. ap (λ z. q (z ∷ (us ++ s))) h ∙ again y s l w)

-- the mark `&&`, and what its second half begins
pub halves : {A B : Type 0} {k : Bool} {n m : ℕ} {p q : Parser A} (f g : Tok → A → Parser B) → Eats p → ((n m : ℕ) → Alike k n m p q) → ((t : Tok) (a : A) → Alike k n m (f t a) (g t a))
    → Alike k n m (expect symbol.AndAnd >>= (λ t. (λ i. p (second_ampersand t ∷ i)) >>= f t)) (expect symbol.AndAnd >>= (λ t. (λ i. q (second_ampersand t ∷ i)) >>= g t))
unfolding expect
halves {B = B} {k = k} {n = n} {m = m} {p = p} {q = q} f g eat same more = record { at = λ i b. each i b }
  where
    empty : (s : List Tok) → Like [] s → (expect symbol.AndAnd >>= (λ t. (λ i. q (second_ampersand t ∷ i)) >>= g t)) s ≡ Err (Syntax (length s))
    empty s ended = rw (unseen symbol.AndAnd [] (λ a. cc))

    at_mark : (t : Tok) (i s : List Tok) → sees symbol.AndAnd (t ∷ i) ≡ true → Like (t ∷ i) s → (expect symbol.AndAnd >>= (λ t. (λ i. q (second_ampersand t ∷ i)) >>= g t)) s ≡ (halved q >>= g t) s
    at_mark t i s e (token u v z) = rw e

    other : (t : Tok) (i s : List Tok) → sees symbol.AndAnd (t ∷ i) ≡ false → Like (t ∷ i) s → (expect symbol.AndAnd >>= (λ t. (λ i. q (second_ampersand t ∷ i)) >>= g t)) s ≡ Err (Syntax (length s))
    other t i s e (token u v z) = rw e

    decided : (t : Tok) (i : List Tok) (b : Bool) → length (t ∷ i) ≤ n → sees symbol.AndAnd (t ∷ i) ≡ b
        → Steady k m (expect symbol.AndAnd >>= (λ t. (λ i. q (second_ampersand t ∷ i)) >>= g t)) (t ∷ i) (and_then (cond b (okay (t, i)) (Err (Syntax (length (t ∷ i))))) (λ t. (λ i. p (second_ampersand t ∷ i)) >>= f t))
    decided t i true w e = swapped {q = halved q >>= g t} (λ s l. at_mark t i s e l) (bound {f = f t} {g = g t}
        (halved_at q t i (p (second_ampersand t ∷ i)) (λ r a o. eat.less (second_ampersand t ∷ i) r a o) ((same n m).at (second_ampersand t ∷ i) w))
        (λ us r a is oe. (more t a).at r (let z = ap length is in omega (arith, length-append us r)))
        (λ us r a is oe s v. omega (arith, length-append us s)))
    decided t i false w e = stops [] (t ∷ i) refl refl (λ s l v. other t i s e l)

    each : (i : List Tok) → length i ≤ n → Steady k m (expect symbol.AndAnd >>= (λ t. (λ i. q (second_ampersand t ∷ i)) >>= g t)) i ((expect symbol.AndAnd >>= (λ t. (λ i. p (second_ampersand t ∷ i)) >>= f t)) i)
    each [] b = stops [] [] refl (rw (unseen symbol.AndAnd [] (λ a. cc))) (λ s l w. empty s l)
    each (t ∷ i) b = decided t i (sees symbol.AndAnd (t ∷ i)) b refl

-- ---- without a level

pub tested : {A : Type 0} {k : Bool} {n m : ℕ} {p q x y : Parser A} (b : Bool) → Alike k n m p x → Alike k n m q y → Alike k n m (cond {A = Parser A} b p q) (cond {A = Parser A} b x y)
tested true one two = one
tested false one two = two

pub level_none : {A : Type 0} {k : Bool} {n m : ℕ} (b : Symbol → Bool) → Alike {A = A} k n m (next >>= (λ q. cond {A = Parser A} (b q) too_deep refuse)) (next >>= (λ q. cond {A = Parser A} (b q) too_deep refuse))
level_none b = by (λ q. tested (b q) deepens refuses)

-- where there are levels, what begins no such part is refused
pub level_more : {A : Type 0} {k : Bool} {n m : ℕ} (b : Symbol → Bool) (q : Parser A) → (k ≡ true → ⊥) → ((i : List Tok) → b (peek i) ≡ false → q i ≡ Err (Syntax (length i)))
    → Alike k n m (next >>= (λ q. cond {A = Parser A} (b q) too_deep refuse)) q
level_more {A = A} {k = k} {n = n} {m = m} b q never refused = record { at = λ i w. decided i (b (peek i)) refl }
  where
    decided : (i : List Tok) (c : Bool) → b (peek i) ≡ c → Steady k m q i (cond {A = Parser A} c (λ i. Err (TooDeep (length i))) (λ i. Err (Syntax (length i))) i)
    decided i true e = deep [] i refl refl (λ y s l w. absurd (never y))
    decided i false e = stops [] i refl refl (λ s l w. refused s (ap b (like_peek i s l) ∙ e))

pub lower : {k : Bool} {d e : ℕ} → Depths k (suc d) (suc e) → Depths k d e
lower z = let l = z.low in record { low = omega arith; same = λ y. let a = z.same y in omega arith }

-- ---- what takes a token

pub shrinks : {A : Type 0} {k : Bool} {p q : Parser A} → ((n m : ℕ) → Alike k n m p q) → (i r : List Tok) (a : A) → p i ≡ Ok (a, r) → length r ≤ length i
shrinks {A = A} {k = k} {p = p} {q = q} same i r a e = shorter (p i) e ((same (length i) 0).at i (omega arith))
  where
    shorter : (o : Outcome A) → o ≡ Ok (a, r) → Steady k 0 q i o → length r ≤ length i
    shorter o e (reads us x b is oe again) =
        let p = same_pair (a, r) (b, x) (sym e ∙ oe) in
        let y = ap (λ (z : A × List Tok). length z.1) p in
        let w = ap length is in omega (arith, length-append us x)
    shorter o e (stops us x is oe again) = absurd (cc)
    shorter o e (deep us x is oe again) = absurd (cc)

pub eats_after : {A : Type 0} {k : Bool} (q : Symbol) {f g : Tok → Parser A} → is_word q ≡ true → ((c : Tok) (n m : ℕ) → Alike k n m (f c) (g c)) → Eats (expect q >>= f)
eats_after q {f = f} word same = record {
  less = λ i r a e.
      let s = two (expect q i) f a r e in
      let c = expected q i s.mid s.i word s.first in
      let z = ap length c.1 in
      let w = shrinks (same s.mid) s.i r a s.second in omega arith;
}

pub eats_room : {A : Type 0} {p : Parser A} (n d : ℕ) → Eats p → Eats (within n d p)
eats_room {A = A} {p = p} n d eat = record { less = λ i r a e. decided (nat_lt d n) i r a e }
  where
    decided : (b : Bool) (i r : List Tok) (a : A) → cond b (Err (TooDeep (length i))) (p i) ≡ Ok (a, r) → suc (length r) ≤ length i
    decided true i r a e = absurd (cc)
    decided false i r a e = eat.less i r a e
