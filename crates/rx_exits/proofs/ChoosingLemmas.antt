-- Choices of a list, turn by turn.
use Rattle.std.proofs.Common.{◌≡◌, ℕ, ◌+◌, ◌<◌, ◌≤◌, Bool, true, false, not, ◌&&◌, if◌then◌else◌, List, [], ◌∷◌, ◌++◌, take, length, get_or, refl, sym, ap, ◌∙◌, subst}
use Rattle.std.proofs.lemmas.List.{append-nil, take_more, take_all}
use Rattle.rx_lower_walks.specs.Walks.{Among, here, there}
use Rattle.rx_exits_plan.specs.Occurrences.{those}
use Rattle.rx_exits_plan.specs.Plan.{Chosen, none, taken, left}
use Rattle.rx_exits.specs.Choosing.{Added, added, passed}

chosen_more : {Q : ℕ → Type 0} {l m : List ℕ} {x : ℕ} → Chosen Q l m → Q x → Chosen Q (l ++ x ∷ []) (m ++ x ∷ [])
chosen_more none q = taken q none
chosen_more (taken r c) q = taken r (chosen_more c q)
chosen_more (left r c) q = left r (chosen_more c q)

chosen_less : {Q : ℕ → Type 0} {l m : List ℕ} {x : ℕ} → Chosen Q l m → ¬ (Q x) → Chosen Q (l ++ x ∷ []) m
chosen_less none q = left q none
chosen_less (taken r c) q = taken r (chosen_less c q)
chosen_less (left r c) q = left r (chosen_less c q)

next_list : (xs : List ℕ) (i x : ℕ) → i < length xs → x ≡ get_or xs i x → take i xs ++ x ∷ [] ≡ take (i + 1) xs
next_list xs i x less is = ap (λ y. take i xs ++ y ∷ []) is ∙ sym (take_more xs i x less)

pub chosen_turn : (Q : ℕ → Type 0) (xs : List ℕ) (i x : ℕ) (m n : List ℕ) → i < length xs → x ≡ get_or xs i x → Added Q x m n → Chosen Q (take i xs) m → Chosen Q (take (i + 1) xs) n
chosen_turn Q xs i x m n less is (added q more) c =
    subst (λ l. Chosen Q (take (i + 1) xs) l) (sym more) (subst (λ l. Chosen Q l (m ++ x ∷ [])) (next_list xs i x less is) (chosen_more c q))
chosen_turn Q xs i x m n less is (passed q same) c =
    subst (λ l. Chosen Q (take (i + 1) xs) l) (sym same) (subst (λ l. Chosen Q l m) (next_list xs i x less is) (chosen_less c q))

pub chosen_end : (Q : ℕ → Type 0) (xs : List ℕ) (i : ℕ) (m : List ℕ) → length xs ≤ i → Chosen Q (take i xs) m → Chosen Q xs m
chosen_end Q xs i m past c = subst (λ l. Chosen Q l m) (take_all i xs past) c

pub one_choice : {Q : ℕ → Type 0} {l m k : List ℕ} → Chosen Q l m → Chosen Q l k → m ≡ k
one_choice none none = refl
one_choice (taken {x = x} q c) (taken r d) = ap (λ l. x ∷ l) (one_choice c d)
one_choice (taken q c) (left r d) = absurd (r q)
one_choice (left r c) (taken q d) = absurd (r q)
one_choice (left r c) (left s d) = one_choice c d

-- what is chosen is so
pub chosen_so : (Q : ℕ → Type 0) (l m : List ℕ) (x : ℕ) → Chosen Q l m → Among x m → Q x
chosen_so Q _ _ x none i = elim i [ ]
chosen_so Q _ _ _ (taken q c) here = q
chosen_so Q _ _ x (taken q c) (there i) = chosen_so Q _ _ x c i
chosen_so Q _ _ x (left q c) i = chosen_so Q _ _ x c i

-- and of the list
pub chosen_among : (Q : ℕ → Type 0) (l m : List ℕ) (x : ℕ) → Chosen Q l m → Among x m → Among x l
chosen_among Q _ _ x none i = i
chosen_among Q _ _ _ (taken q c) here = here
chosen_among Q _ _ x (taken q c) (there i) = there (chosen_among Q _ _ x c i)
chosen_among Q _ _ x (left q c) i = there (chosen_among Q _ _ x c i)

-- ---- picks

one_more : (f : ℕ → Bool) (x : ℕ) (l m : List ℕ) → those f (l ++ m) ≡ those f l ++ those f m → (b : Bool)
    → (if b then x ∷ those f (l ++ m) else those f (l ++ m)) ≡ (if b then x ∷ those f l else those f l) ++ those f m
one_more f x l m e true = ap (λ k. x ∷ k) e
one_more f x l m e false = e

those_both : (f : ℕ → Bool) (l m : List ℕ) → those f (l ++ m) ≡ those f l ++ those f m
those_both f [] m = refl
those_both f (x ∷ l) m = one_more f x l m (those_both f l m) (f x)

pub picked_turn : (f : ℕ → Bool) (xs : List ℕ) (i x : ℕ) (m n : List ℕ) → i < length xs → x ≡ get_or xs i x → n ≡ m ++ those f (x ∷ []) → m ≡ those f (take i xs) → n ≡ those f (take (i + 1) xs)
picked_turn f xs i x m n less is more e =
    more ∙ ap (λ l. l ++ those f (x ∷ [])) e ∙ sym (those_both f (take i xs) (x ∷ [])) ∙ ap (those f) (next_list xs i x less is)

pub picked_end : (f : ℕ → Bool) (xs : List ℕ) (i : ℕ) (m : List ℕ) → length xs ≤ i → m ≡ those f (take i xs) → m ≡ those f xs
picked_end f xs i m past e = e ∙ ap (those f) (take_all i xs past)

pub picked_one : (f : ℕ → Bool) (x : ℕ) (m n : List ℕ) → f x ≡ true → n ≡ m ++ x ∷ [] → n ≡ m ++ those f (x ∷ [])
picked_one f x m n it more = more ∙ ap (λ (b : Bool). m ++ (if b then x ∷ [] else [])) (sym it)

pub passed_one : (f : ℕ → Bool) (x : ℕ) (m : List ℕ) → f x ≡ false → m ≡ m ++ those f (x ∷ [])
passed_one f x m it = sym (append-nil m) ∙ ap (λ (b : Bool). m ++ (if b then x ∷ [] else [])) (sym it)

-- ---- truth values

three_false : (a b : Bool) → false ≡ (a && b && false)
three_false true true = refl
three_false true false = refl
three_false false true = refl
three_false false false = refl

three_true : (a b : Bool) → (a && b) ≡ (a && b && true)
three_true true true = refl
three_true true false = refl
three_true false true = refl
three_true false false = refl

middle_false : (a b : Bool) → false ≡ (a && false && b)
middle_false true true = refl
middle_false true false = refl
middle_false false true = refl
middle_false false false = refl

middle_true : (a : Bool) → a ≡ (a && true && true)
middle_true true = refl
middle_true false = refl

pub none_of_three : (a b c : Bool) → c ≡ true → false ≡ (a && b && not c)
none_of_three a b c it = three_false a b ∙ ap (λ d. a && b && not d) (sym it)

pub two_of_three : (a b c : Bool) → c ≡ false → (a && b) ≡ (a && b && not c)
two_of_three a b c it = three_true a b ∙ ap (λ d. a && b && not d) (sym it)

pub second_stops : (a b c : Bool) → b ≡ true → false ≡ (a && not b && not c)
second_stops a b c it = middle_false a (not c) ∙ ap (λ d. a && not d && not c) (sym it)

pub third_stops : (a b c : Bool) → c ≡ true → false ≡ (a && not b && not c)
third_stops a b c it = three_false a (not b) ∙ ap (λ d. a && not b && not d) (sym it)

pub first_goes : (a b c : Bool) → b ≡ false → c ≡ false → a ≡ (a && not b && not c)
first_goes a b c second third = middle_true a ∙ ap (λ d. a && not d && true) (sym second) ∙ ap (λ d. a && not b && not d) (sym third)
