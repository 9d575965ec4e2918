-- A parser's outcome depends on no token behind the one at which it stops, and more levels change it only where it is too deep:
-- how this holds of two parsers, step by step. The second has at least as many levels; where both have as many it is too deep alike.
use Rattle.std.proofs.Common.{◌≡◌, ℕ, suc, ◌≤◌, Bool, true, false, cond, List, [], ◌∷◌, ◌++◌, length, Ok, Err, refl, sym, ap, subst, ◌∙◌, arith, append_assoc, length-append}
use Rattle.std.specs.Prelude.{◌≢◌, nat_lt}
use Rattle.std.proofs.lemmas.Bool.Decides.{nat_tests}
use Rattle.rx_lex.specs.Tok.{Tok}
use Rattle.rx_parse_grammar.specs.declared.stop.Stop.TheVariants.{Syntax, TooDeep}
use Rattle.rx_parse_grammar.specs.declared.symbol.Symbol.{Symbol}
use Rattle.rx_parse_grammar.specs.parser.Symbols.{head, peek, none}
use Rattle.rx_parse_grammar.specs.parser.Steps.{Parser, Outcome, and_then, ◌>>=◌, pure, refuse, too_deep, next, take_token, expect, expect_word, sees, sees_word, when_next, when_word, within}
use Rattle.rx_parse_grammar.proofs.Deriving.{Derives}

-- the same next token, or both at the end
pub data Like : List Tok → List Tok → Type 0 where
  ended : Like [] []
  token : (t : Tok) (r s : List Tok) → Like (t ∷ r) (t ∷ s)

pub like_before : (us r s : List Tok) → Like r s → Like (us ++ r) (us ++ s)
like_before [] r s l = l
like_before (t ∷ us) r s l = token t (us ++ r) (us ++ s)

-- of lists of at most so many tokens, with the same next token behind those that the first parser passed
pub data Steady {A : Type 0} (keeps : Bool) (m : ℕ) (q : Parser A) (i : List Tok) (o : Outcome A) : Type 0 where
  reads : (us r : List Tok) (a : A) → i ≡ us ++ r → o ≡ Ok (a, r) → ((s : List Tok) → Like r s → length (us ++ s) ≤ m → q (us ++ s) ≡ Ok (a, s)) → Steady keeps m q i o
  stops : (us r : List Tok) → i ≡ us ++ r → o ≡ Err (Syntax (length r)) → ((s : List Tok) → Like r s → length (us ++ s) ≤ m → q (us ++ s) ≡ Err (Syntax (length s))) → Steady keeps m q i o
  deep : (us r : List Tok) → i ≡ us ++ r → o ≡ Err (TooDeep (length r)) → (keeps ≡ true → (s : List Tok) → Like r s → length (us ++ s) ≤ m → q (us ++ s) ≡ Err (TooDeep (length s)))
      → Steady keeps m q i o

pub record Alike {A : Type 0} (keeps : Bool) (n m : ℕ) (p q : Parser A) : Type 0 where
  pub at : (i : List Tok) → length i ≤ n → Steady keeps m q i (p i)

-- as many levels, or at least as many
pub record Depths (keeps : Bool) (d e : ℕ) : Type 0 where
  pub low : d ≤ e
  pub same : keeps ≡ true → d ≡ e

-- ---- one after another

joined : {A B : Type 0} {k : Bool} {m n : ℕ} (q : Parser A) (f g : A → Parser B) {i : List Tok} {o : Outcome A} (us r : List Tok) (a : A) → i ≡ us ++ r → o ≡ Ok (a, r)
    → ((s : List Tok) → Like r s → length (us ++ s) ≤ m → q (us ++ s) ≡ Ok (a, s)) → ((s : List Tok) → length (us ++ s) ≤ m → length s ≤ n) → Steady k n (g a) r (f a r)
    → Steady k m (q >>= g) i (and_then o f)
joined {m = m} q f g us r a is oe again small (reads vs x b it oi more) =
    reads (us ++ vs) x b (is ∙ ap (λ z. us ++ z) it ∙ sym (append_assoc us vs x)) (ap (λ z. and_then z f) oe ∙ oi)
    (λ s l w.
    let v : length (us ++ (vs ++ s)) ≤ m = subst (λ z. length z ≤ m) (append_assoc us vs s) w in
    ap (q >>= g) (append_assoc us vs s) ∙ ap (λ z. and_then z g) (again (vs ++ s) (subst (λ z. Like z (vs ++ s)) (sym it) (like_before vs x s l)) v) ∙ more s l (small (vs ++ s) v))
joined {m = m} q f g us r a is oe again small (stops vs x it oi more) =
    stops (us ++ vs) x (is ∙ ap (λ z. us ++ z) it ∙ sym (append_assoc us vs x)) (ap (λ z. and_then z f) oe ∙ oi)
    (λ s l w.
    let v : length (us ++ (vs ++ s)) ≤ m = subst (λ z. length z ≤ m) (append_assoc us vs s) w in
    ap (q >>= g) (append_assoc us vs s) ∙ ap (λ z. and_then z g) (again (vs ++ s) (subst (λ z. Like z (vs ++ s)) (sym it) (like_before vs x s l)) v) ∙ more s l (small (vs ++ s) v))
joined {m = m} q f g us r a is oe again small (deep vs x it oi more) =
    deep (us ++ vs) x (is ∙ ap (λ z. us ++ z) it ∙ sym (append_assoc us vs x)) (ap (λ z. and_then z f) oe ∙ oi)
    (λ k s l w.
    let v : length (us ++ (vs ++ s)) ≤ m = subst (λ z. length z ≤ m) (append_assoc us vs s) w in
    ap (q >>= g) (append_assoc us vs s) ∙ ap (λ z. and_then z g) (again (vs ++ s) (subst (λ z. Like z (vs ++ s)) (sym it) (like_before vs x s l)) v) ∙ more k s l (small (vs ++ s) v))

pub bound : {A B : Type 0} {k : Bool} {m n : ℕ} {q : Parser A} {f : A → Parser B} {g : A → Parser B} {i : List Tok} {o : Outcome A} → Steady k m q i o
    → ((us r : List Tok) (a : A) → i ≡ us ++ r → o ≡ Ok (a, r) → Steady k n (g a) r (f a r))
    → ((us r : List Tok) (a : A) → i ≡ us ++ r → o ≡ Ok (a, r) → (s : List Tok) → length (us ++ s) ≤ m → length s ≤ n) → Steady k m (q >>= g) i (and_then o f)
bound {q = q} {f = f} {g = g} (reads us r a is oe again) more small = joined q f g us r a is oe again (small us r a is oe) (more us r a is oe)
bound {f = f} {g = g} (stops us r is oe again) more small = stops us r is (ap (λ z. and_then z f) oe) (λ s l w. ap (λ z. and_then z g) (again s l w))
bound {f = f} {g = g} (deep us r is oe again) more small = deep us r is (ap (λ z. and_then z f) oe) (λ k s l w. ap (λ z. and_then z g) (again k s l w))

pub then : {A B : Type 0} {k : Bool} {n m : ℕ} {p q : Parser A} {f g : A → Parser B} → Alike k n m p q → ((a : A) → Alike k n m (f a) (g a)) → Alike k n m (p >>= f) (q >>= g)
then {f = f} {g = g} one two = record {
  at = λ i b. bound {f = f} {g = g} (one.at i b)
      (λ us r a is oe. (two a).at r (let z = ap length is in omega (arith, length-append us r)))
      (λ us r a is oe s w. omega (arith, length-append us s));
}

-- what reads takes a token
pub record Eats {A : Type 0} (p : Parser A) : Type 0 where
  pub less : (i r : List Tok) (a : A) → p i ≡ Ok (a, r) → suc (length r) ≤ length i

pub eats : {A : Type 0} {p : Parser A} {E : List Tok → A → Type 0} → Derives p E → ((ts : List Tok) (x : A) → E ts x → ts ≢ []) → Eats p
eats {p = p} {E = E} d some = record { less = λ i r a e. let f = d.derive i r a e in longer f.ts (some f.ts a f.part) i r f.is }
  where
    longer : (ts : List Tok) → ts ≢ [] → (i r : List Tok) → i ≡ ts ++ r → suc (length r) ≤ length i
    longer [] n i r e = absurd (n refl)
    longer (t ∷ ts) n i r e = let z = ap length e in omega (arith, length-append ts r)

-- a part that takes a token, and what has as many tokens less
pub eaten : {A B : Type 0} {k : Bool} {n m : ℕ} {p q : Parser A} {f g : A → Parser B} → Eats p → Alike k (suc n) (suc m) p q → ((a : A) → Alike k n m (f a) (g a)) → Alike k (suc n) (suc m) (p >>= f) (q >>= g)
eaten {f = f} {g = g} eat one two = record {
  at = λ i b. bound {f = f} {g = g} (one.at i b)
      (λ us r a is oe. (two a).at r (let z = eat.less i r a oe in omega arith))
      (λ us r a is oe s w. let z = eat.less i r a oe in let y = ap length is in omega (arith, length-append us s, length-append us r));
}

-- ---- the steps

pub pures : {A : Type 0} {k : Bool} {n m : ℕ} {a : A} → Alike k n m (pure a) (pure a)
pures {a = a} = record { at = λ i b. reads [] i a refl refl (λ s l w. refl) }

pub refuses : {A : Type 0} {k : Bool} {n m : ℕ} → Alike {A = A} k n m refuse refuse
refuses = record { at = λ i b. stops [] i refl refl (λ s l w. refl) }

pub deepens : {A : Type 0} {k : Bool} {n m : ℕ} → Alike {A = A} k n m too_deep too_deep
deepens = record { at = λ i b. deep [] i refl refl (λ k s l w. refl) }

take_end : (s : List Tok) → Like [] s → take_token s ≡ Ok (none, s)
take_end s ended = refl

taken : {k : Bool} {m : ℕ} (i : List Tok) → Steady k m take_token i (take_token i)
taken [] = reads [] [] none refl refl (λ s l w. take_end s l)
taken (t ∷ i) = reads (t ∷ []) i t refl refl (λ s l w. refl)

pub takes_any : {k : Bool} {n m : ℕ} → Alike k n m take_token take_token
takes_any = record { at = λ i b. taken i }

-- what depends on the next token
turned : {A K : Type 0} {k : Bool} {m : ℕ} (G : K → Parser A) (key : List Tok → K) → ((i s : List Tok) → Like i s → key s ≡ key i) → (i : List Tok) (o : Outcome A) → Steady k m (G (key i)) i o → Steady k m (λ s. G (key s) s) i o
turned {k = k} {m = m} G key same i o (reads us r a is oe again) =
    reads us r a is oe (λ s l w. ap (λ z. G z (us ++ s)) (same (us ++ r) (us ++ s) (like_before us r s l) ∙ ap key (sym is)) ∙ again s l w)
turned {k = k} {m = m} G key same i o (stops us r is oe again) =
    stops us r is oe (λ s l w. ap (λ z. G z (us ++ s)) (same (us ++ r) (us ++ s) (like_before us r s l) ∙ ap key (sym is)) ∙ again s l w)
turned {k = k} {m = m} G key same i o (deep us r is oe again) =
    deep us r is oe (λ y s l w. ap (λ z. G z (us ++ s)) (same (us ++ r) (us ++ s) (like_before us r s l) ∙ ap key (sym is)) ∙ again y s l w)

pub choice : {A K : Type 0} {k : Bool} {n m : ℕ} (F G : K → Parser A) (key : List Tok → K) → ((i s : List Tok) → Like i s → key s ≡ key i) → ((x : K) → Alike k n m (F x) (G x))
    → Alike k n m (λ i. F (key i) i) (λ i. G (key i) i)
choice F G key same each = record { at = λ i b. turned G key same i (F (key i) i) ((each (key i)).at i b) }

pub like_head : (i s : List Tok) → Like i s → head s ≡ head i
like_head i s ended = refl
like_head i s (token t r z) = refl

pub like_peek : (i s : List Tok) → Like i s → peek s ≡ peek i
like_peek i s ended = refl
like_peek i s (token t r z) = refl

like_sees : (q : Symbol) (i s : List Tok) → Like i s → sees q s ≡ sees q i
like_sees q i s ended = refl
like_sees q i s (token t r z) = refl

like_word : (w : List ℕ) (i s : List Tok) → Like i s → sees_word w s ≡ sees_word w i
unfolding sees_word
like_word w i s ended = refl
like_word w i s (token t r z) = refl

pub by : {A : Type 0} {k : Bool} {n m : ℕ} {f g : Symbol → Parser A} → ((q : Symbol) → Alike k n m (f q) (g q)) → Alike k n m (next >>= f) (next >>= g)
by {f = f} {g = g} each = choice f g peek like_peek each

pub one_of : {A : Type 0} {k : Bool} {n m : ℕ} {p q x y : Parser A} → Alike k n m p x → Alike k n m q y → (b : Bool) → Alike k n m (λ i. cond b (p i) (q i)) (λ i. cond b (x i) (y i))
one_of one two true = record { at = λ i b. one.at i b }
one_of one two false = record { at = λ i b. two.at i b }

pub either : {A : Type 0} {k : Bool} {n m : ℕ} (q : Symbol) {p r x y : Parser A} → Alike k n m p x → Alike k n m r y → Alike k n m (when_next q p r) (when_next q x y)
either q {p = p} {r = r} {x = x} {y = y} one two = choice (λ b i. cond b (p i) (r i)) (λ b i. cond b (x i) (y i)) (sees q) (like_sees q) (one_of one two)

pub either_word : {A : Type 0} {k : Bool} {n m : ℕ} (w : List ℕ) {p r x y : Parser A} → Alike k n m p x → Alike k n m r y → Alike k n m (when_word w p r) (when_word w x y)
either_word w {p = p} {r = r} {x = x} {y = y} one two = choice (λ b i. cond b (p i) (r i)) (λ b i. cond b (x i) (y i)) (sees_word w) (like_word w) (one_of one two)

pub takes : {k : Bool} {n m : ℕ} (q : Symbol) → Alike k n m (expect q) (expect q)
unfolding expect
takes q = either q takes_any refuses

pub takes_word : {k : Bool} {n m : ℕ} (w : List ℕ) → Alike k n m (expect_word w) (expect_word w)
unfolding expect_word
takes_word w = either_word w takes_any refuses

-- where so many levels may stand below
pub room : {A : Type 0} {k : Bool} {n m : ℕ} (need : ℕ) {d e : ℕ} {p q : Parser A} → Depths k d e → Alike k n m p q → Alike k n m (within need d p) (within need e q)
room {A = A} {k = k} {n = n} {m = m} need {d = d} {e = e} {p = p} {q = q} depths one = record { at = λ i b. tested i (nat_lt d need) (nat_lt e need) refl refl (one.at i b) }
  where
    tested : (i : List Tok) (x y : Bool) → nat_lt d need ≡ x → nat_lt e need ≡ y → Steady k m q i (p i) → Steady k m (within need e q) i (cond x (Err (TooDeep (length i))) (p i))
    tested i true y a b h = deep [] i refl refl (λ z s l w. let f : nat_lt e need ≡ true = ap (λ v. nat_lt v need) (sym (depths.same z)) ∙ a in rw f)
    tested i false true a b h = absurd (let z = depths.low in grind (arith, nat_tests))
    tested i false false a b (reads us r x is oe again) = reads us r x is oe (λ s l w. rw b (again s l w))
    tested i false false a b (stops us r is oe again) = stops us r is oe (λ s l w. rw b (again s l w))
    tested i false false a b (deep us r is oe again) = deep us r is oe (λ z s l w. rw b (again z s l w))
