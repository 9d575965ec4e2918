-- Turns of the loops that copy lists.
use Rattle.std.proofs.Common.{◌≡◌, ℕ, zero, suc, ◌+◌, ◌<◌, ◌≤◌, List, [], ◌∷◌, ◌++◌, Result, Ok, IfOk, map, take, drop, length, get_or, arith, refl, sym, ap, ◌∙◌, subst}
use denote.Param.Weighed.{most}
use Rattle.std.specs.declared.alloc.AllocError.{AllocError}
use Rattle.std.proofs.lemmas.List.{append_assoc, map-append, take_more, take_all}
use Rattle.rx_typed.specs.Tree.{Exp, Pattern, operand_and, arm_and}
use Rattle.rx_typed.specs.PlainTree.{operands_of, arms_of}
use Rattle.rx_exits_plan.specs.Changed.{Changes, changed, changed_all, changed_arms}

-- what is so of a call's value
pub of_value : {A : Type 0} (P : A → Type 0) (r : Result A AllocError) (a : A) → r ≡ Ok a → IfOk r P → P a
of_value {A = A} P r a e h = subst (λ (s : Result A AllocError). IfOk s P) e h

-- a turn that adds the copy of the next element
pub copied_turn : {A X B : Type 0} (f : A → B) (g : X → B) (p : List B) (xs : List X) (i : ℕ) (x : X) (old before new : List A) (r : Result A AllocError) (a : A)
    → i < length xs → x ≡ get_or xs i x → r ≡ Ok a → before ≡ old → IfOk r (λ it. f it ≡ g x) → new ≡ before ++ a ∷ []
    → map f old ≡ p ++ map g (take i xs) → map f new ≡ p ++ map g (take (i + 1) xs)
copied_turn f g p xs i x old before new r a less is was held copy more done =
    ap (map f) (more ∙ ap (λ l. l ++ a ∷ []) held)
    ∙ map-append f old (a ∷ [])
    ∙ ap (λ l. l ++ map f (a ∷ [])) done
    ∙ ap (λ y. p ++ map g (take i xs) ++ y ∷ []) (of_value (λ it. f it ≡ g x) r a was copy)
    ∙ append_assoc p (map g (take i xs)) (g x ∷ [])
    ∙ ap (λ l. p ++ l) (sym (map-append g (take i xs) (x ∷ [])) ∙ ap (λ y. map g (take i xs ++ y ∷ [])) is ∙ ap (map g) (sym (take_more xs i x less)))

-- behind the last turn
pub copied_end : {A X B : Type 0} (f : A → B) (g : X → B) (p : List B) (xs : List X) (i : ℕ) (all : List A) → length xs ≤ i
    → map f all ≡ p ++ map g (take i xs) → map f all ≡ p ++ map g xs
copied_end f g p xs i all past done = done ∙ ap (λ l. p ++ map g l) (take_all i xs past)

-- ---- lists of the tree

pub operands_changed : {X : Type 0} (C : Changes) (f : X → ℕ × Exp) (xs : List X)
    → operands_of (map (λ x. ((f x).0, changed C (f x).1)) xs) ≡ changed_all C (operands_of (map f xs))
operands_changed C f [] = refl
operands_changed C f (x ∷ xs) = ap (operand_and (f x).0 (changed C (f x).1)) (operands_changed C f xs)

pub arms_changed : {X : Type 0} (C : Changes) (f : X → Pattern × Exp) (xs : List X)
    → arms_of (map (λ x. ((f x).0, changed C (f x).1)) xs) ≡ changed_arms C (arms_of (map f xs))
arms_changed C f [] = refl
arms_changed C f (x ∷ xs) = ap (arm_and (f x).0 (changed C (f x).1)) (arms_changed C f xs)

pub map_both : {X A B : Type 0} (g : A → B) (f : X → A) (xs : List X) → map (λ x. g (f x)) xs ≡ map g (map f xs)
map_both g f [] = refl
map_both g f (x ∷ xs) = ap (λ l. g (f x) ∷ l) (map_both g f xs)

-- ---- parts of a list are no deeper than all of it

pub most_take : {X : Type 0} (f : X → ℕ) (n : ℕ) (l : List X) → most f (take n l) ≤ most f l
most_take f zero l = omega arith
most_take f (suc n) [] = omega arith
most_take f (suc n) (x ∷ l) = let h : most f (take n l) ≤ most f l = most_take f n l in omega (arith, h)

most_drop : {X : Type 0} (f : X → ℕ) (n : ℕ) (l : List X) → most f (drop n l) ≤ most f l
most_drop f zero l = omega arith
most_drop f (suc n) [] = omega arith
most_drop f (suc n) (x ∷ l) = let h : most f (drop n l) ≤ most f l = most_drop f n l in omega (arith, h)

pub most_middle : {X : Type 0} (f : X → ℕ) (m n : ℕ) (l : List X) → most f (take m (drop n l)) ≤ most f l
most_middle f m n l =
    let h : most f (take m (drop n l)) ≤ most f (drop n l) = most_take f m (drop n l) in
    let k : most f (drop n l) ≤ most f l = most_drop f n l in
    omega (arith, h, k)

pub most_behind : {X : Type 0} (f : X → ℕ) (m n : ℕ) (l : List X) → most f (drop m (drop n l)) ≤ most f l
most_behind f m n l =
    let h : most f (drop m (drop n l)) ≤ most f (drop n l) = most_drop f m (drop n l) in
    let k : most f (drop n l) ≤ most f l = most_drop f n l in
    omega (arith, h, k)
