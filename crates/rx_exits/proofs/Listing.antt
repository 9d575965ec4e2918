-- Loops that look for one of a list, and lists of numbers.
use Rattle.std.proofs.Common.{◌≡◌, ◌⊎◌, inl, inr, ℕ, ◌==◌, ◌+◌, ◌<◌, ◌≤◌, Bool, true, false, not, if◌then◌else◌, Result, Ok, Err, IfOk, List, [], ◌∷◌, ◌++◌, map, take, drop, length, get_or, refl, sym, ap, ◌∙◌, subst}
use Rattle.std.proofs.lemmas.Bool.{or_cases, or_left, or_right, eqb-true, eq-eqb, ne_eqb, cases_eq, false_from_ne_true, true≢false}
use Rattle.std.proofs.lemmas.List.{take_more, take_all, take-append-drop, drop_more, map-append}
use Rattle.rx_lower_walks.specs.Walks.{Among, here, there}
use Rattle.rx_exits_plan.specs.Occurrences.{has_number, those}
use Rattle.rx_modes_uses.specs.First.{First, this, later}
use Rattle.rx_exits.specs.Telling.{SomeOf, NoneOf}

-- what is so of a value is so in another form
pub if_ok : {A E : Type 0} (P Q : A → Type 0) (r : Result A E) → ((a : A) → P a → Q a) → IfOk r P → IfOk r Q
if_ok P Q (Ok a) f h = f a h
if_ok P Q (Err e) f h = h

pub and_ok : {A E : Type 0} (P R Q : A → Type 0) (r : Result A E) → ((a : A) → P a → R a → Q a) → IfOk r P → IfOk r R → IfOk r Q
and_ok P R Q (Ok a) f h k = f a h k
and_ok P R Q (Err e) f h k = h

-- ---- parts of lists

pub among_front : {X : Type 0} (a : X) (l m : List X) → Among a l → Among a (l ++ m)
among_front a _ m (here {l = l}) = here
among_front a _ m (there i) = there (among_front a _ m i)

pub among_back : {X : Type 0} (a : X) (l m : List X) → Among a m → Among a (l ++ m)
among_back a [] m i = i
among_back a (x ∷ l) m i = there (among_back a l m i)

pub among_one : {X : Type 0} (Q : X → Type 0) (l : List X) (x a : X) → NoneOf Q l → ¬ (Q x) → Among a (l ++ x ∷ []) → ¬ (Q a)
among_one Q [] x _ none not here = not
among_one Q [] x _ none not (there i) = elim i [ ]
among_one Q (y ∷ l) x _ none not here = none y here
among_one Q (y ∷ l) x a none not (there i) = among_one Q l x a (λ b j. none b (there j)) not i

pub all_more : {X : Type 0} (Q : X → Type 0) (l : List X) (x : X) → ((a : X) → Among a l → Q a) → Q x → (a : X) → Among a (l ++ x ∷ []) → Q a
all_more Q [] x all q _ here = q
all_more Q [] x all q a (there i) = elim i [ ]
all_more Q (y ∷ l) x all q _ here = all y here
all_more Q (y ∷ l) x all q a (there i) = all_more Q l x (λ b j. all b (there j)) q a i

rest_is : {X : Type 0} (xs : List X) (i : ℕ) (x : X) → i < length xs → x ≡ get_or xs i x → drop i xs ≡ x ∷ drop (i + 1) xs
rest_is xs i x less is = drop_more xs i x less ∙ ap (λ y. y ∷ drop (i + 1) xs) (sym is)

pub next_is_list : {X : Type 0} (xs : List X) (i : ℕ) (x : X) → i < length xs → x ≡ get_or xs i x → take (i + 1) xs ≡ take i xs ++ x ∷ []
next_is_list xs i x less is = take_more xs i x less ∙ ap (λ y. take i xs ++ y ∷ []) (sym is)

pub mapped_in : {X Y : Type 0} (f : X → Y) (a : X) (l : List X) → Among a l → Among (f a) (map f l)
mapped_in f a _ here = here
mapped_in f a _ (there i) = there (mapped_in f a _ i)

pub turn_among : {X : Type 0} (xs : List X) (i : ℕ) (x : X) → i < length xs → x ≡ get_or xs i x → Among x xs
turn_among xs i x less is =
    subst (λ l. Among x l) (take-append-drop i xs) (among_back x (take i xs) (drop i xs) (subst (λ l. Among x l) (sym (rest_is xs i x less is)) here))

-- it is so of the element of a turn
pub some_turn : {X Y : Type 0} (f : X → Y) (Q : Y → Type 0) (xs : List X) (i : ℕ) (x : X) → i < length xs → x ≡ get_or xs i x → Q (f x) → SomeOf Q (map f xs)
some_turn f Q xs i x less is q = (f x, mapped_in f x xs (turn_among xs i x less is), q)

-- it is so of none up to the next turn; of none at all
pub none_turn : {X Y : Type 0} (f : X → Y) (Q : Y → Type 0) (xs : List X) (i : ℕ) (x : X) → i < length xs → x ≡ get_or xs i x → ¬ (Q (f x)) → NoneOf Q (map f (take i xs))
    → NoneOf Q (map f (take (i + 1) xs))
none_turn f Q xs i x less is not none a among =
    among_one Q (map f (take i xs)) (f x) a none not (subst (λ l. Among a l) (ap (map f) (next_is_list xs i x less is) ∙ map-append f (take i xs) (x ∷ [])) among)

pub none_end : {X Y : Type 0} (f : X → Y) (Q : Y → Type 0) (xs : List X) (i : ℕ) → length xs ≤ i → NoneOf Q (map f (take i xs)) → NoneOf Q (map f xs)
none_end f Q xs i past none a among = none a (subst (λ l. Among a (map f l)) (sym (take_all i xs past)) among)

pub some_none : {X : Type 0} (Q : X → Type 0) (xs : List X) → NoneOf Q xs → ¬ (SomeOf Q xs)
some_none Q xs none s = none s.0 s.1 s.2

-- ---- the first

pub none_more : (Q : ℕ → Type 0) (xs : List ℕ) (i x : ℕ) → i < length xs → x ≡ get_or xs i x → ¬ (Q x) → ((y : ℕ) → Among y (take i xs) → ¬ (Q y)) → (y : ℕ) → Among y (take (i + 1) xs) → ¬ (Q y)
none_more Q xs i x less is not none y i_among = among_one Q (take i xs) x y none not (subst (λ l. Among y l) (next_is_list xs i x less is) i_among)

pub none_all : (Q : ℕ → Type 0) (xs : List ℕ) (i : ℕ) → length xs ≤ i → ((y : ℕ) → Among y (take i xs) → ¬ (Q y)) → (y : ℕ) → Among y xs → ¬ (Q y)
none_all Q xs i past none y among = none y (subst (λ l. Among y l) (sym (take_all i xs past)) among)

first_behind : (Q : ℕ → Type 0) (l m : List ℕ) (x : ℕ) → ((y : ℕ) → Among y l → ¬ (Q y)) → First Q m x → First Q (l ++ m) x
first_behind Q [] m x none f = f
first_behind Q (y ∷ l) m x none f = later (none y here) (first_behind Q l m x (λ z i. none z (there i)) f)

pub first_turn : (Q : ℕ → Type 0) (xs : List ℕ) (i x : ℕ) → i < length xs → x ≡ get_or xs i x → ((y : ℕ) → Among y (take i xs) → ¬ (Q y)) → Q x → First Q xs x
first_turn Q xs i x less is none q =
    subst (λ l. First Q l x) (ap (λ l. take i xs ++ l) (sym (rest_is xs i x less is)) ∙ take-append-drop i xs) (first_behind Q (take i xs) (x ∷ drop (i + 1) xs) x none (this q))

-- ---- numbers

pub same_number : (x y : ℕ) → (x == y) ≡ true → x ≡ y
same_number x y e = eqb-true x y e

one_listed : (x y : ℕ) (l : List ℕ) → (has_number x l ≡ true → Among x l) → ((x == y) ≡ true) ⊎ (has_number x l ≡ true) → Among x (y ∷ l)
one_listed x y l more (inl s) = subst (λ z. Among x (z ∷ l)) (same_number x y s) here
one_listed x y l more (inr r) = there (more r)

pub number_listed : (x : ℕ) (l : List ℕ) → has_number x l ≡ true → Among x l
number_listed x [] e = absurd (cc)
number_listed x (y ∷ l) e = one_listed x y l (λ r. number_listed x l r) (or_cases (x == y) (has_number x l) e)

pub listed_number : (x : ℕ) (l : List ℕ) → Among x l → has_number x l ≡ true
listed_number x _ (here {l = l}) = or_left (x == x) (has_number x l) (eq-eqb x x refl)
listed_number x _ (there {b = y} {l = l} i) = or_right (x == y) (has_number x l) (listed_number x l i)

first_of_those : (f : ℕ → Bool) (x y : ℕ) (l : List ℕ) → (Among x (those f l) → f x ≡ true) → f y ≡ true → Among x (y ∷ those f l) → f x ≡ true
first_of_those f x _ l more e here = e
first_of_those f x y l more e (there j) = more j

one_of_those : (f : ℕ → Bool) (x y : ℕ) (l : List ℕ) → (Among x (those f l) → f x ≡ true) → (b : Bool) → f y ≡ b → Among x (if b then y ∷ those f l else those f l) → f x ≡ true
one_of_those f x y l more true e i = first_of_those f x y l more e i
one_of_those f x y l more false e i = more i

pub among_those : (f : ℕ → Bool) (x : ℕ) (l : List ℕ) → Among x (those f l) → f x ≡ true
among_those f x [] i = elim i [ ]
among_those f x (y ∷ l) i = one_of_those f x y l (λ j. among_those f x l j) (f y) refl i

pub number_turned : (x y : ℕ) → (x == y) ≡ (y == x)
number_turned x y = by (cases_eq x y)
  where
    by : (x ≡ y) ⊎ (x ≡ y → ⊥) → (x == y) ≡ (y == x)
    by (inl e) = ap (λ z. x == z) (sym e) ∙ ap (λ z. z == x) e
    by (inr n) = ne_eqb x y n ∙ sym (ne_eqb y x (λ e. n (sym e)))

kept_on : (f : ℕ → Bool) (x y : ℕ) (m : List ℕ) → Among x (those f m) → (b : Bool) → Among x (if b then y ∷ those f m else those f m)
kept_on f x y m i true = there i
kept_on f x y m i false = i

those_keep : (f : ℕ → Bool) (x : ℕ) → f x ≡ true → (m : List ℕ) → Among x m → Among x (those f m)
those_keep f x e [] i = elim i [ ]
those_keep f x e (_ ∷ m) here = subst (λ (b : Bool). Among x (if b then x ∷ those f m else those f m)) (sym e) here
those_keep f x e (y ∷ m) (there j) = kept_on f x y m (those_keep f x e m j) (f y)

-- of a list those that are picked of it
pub has_those : (f : ℕ → Bool) (x : ℕ) (l : List ℕ) → Among x l → has_number x (those f l) ≡ f x
has_those f x l i = by (f x) refl
  where
    by : (b : Bool) → f x ≡ b → has_number x (those f l) ≡ b
    by true e = listed_number x (those f l) (those_keep f x e l i)
    by false e = false_from_ne_true (has_number x (those f l)) (λ h. true≢false (sym (among_those f x l (number_listed x (those f l) h)) ∙ e))

-- tests that agree on a list pick the same of it
pub those_agree : (f g : ℕ → Bool) (l : List ℕ) → ((x : ℕ) → Among x l → f x ≡ g x) → those f l ≡ those g l
those_agree f g [] e = refl
those_agree f g (x ∷ l) e =
    ap (λ (b : Bool). if b then x ∷ those f l else those f l) (e x here) ∙ ap (λ k. if g x then x ∷ k else k) (those_agree f g l (λ y i. e y (there i)))
