-- What is around a part in code is what is around it in the definition of its graph.
use Rattle.std.proofs.Common.{◌≡◌, ℕ, zero, suc, ◌-◌, ◌==◌, ◌≤◌, List, [], ◌∷◌, ◌++◌, length, drop, length-drop, reverse, Bool, true, false, if◌then◌else◌, refl, sym, ap, ◌∙◌, subst, arith}
use Rattle.std.proofs.lemmas.List.{reverse-append, length-reverse}
use Rattle.rx_lower_walks.specs.Orders.{Exit, breaks, continues, returns}
use Rattle.rx_lower_walks.specs.Pieces.{Scope, Variable, Looped, all_of, within, left}
use Rattle.rx_lower_walks.specs.declared.around.Loop.{Loop}
use Rattle.rx_lower_walks.specs.declared.around.Around.{Around}
use Rattle.rx_lower_walks.specs.Around.{with_variable, with_loop, nothing_around, depth_in, after_in, head_in, depth, ended}

pub data Round : Around → Scope → Type 0 where
  alone : Round nothing_around []
  one_variable : {A : Around} {s : Scope} (x : ℕ) → Round A s → Round (with_variable x A) (Variable x ∷ s)
  one_loop : {A : Around} {s : Scope} (l : ℕ) (after head : List ℕ) → Round A s → Round (with_loop l after head A) (Looped l ∷ s)

pub depth_snoc : (d l : ℕ) (fs : List Loop) (f : Loop) → depth_in d l (fs ++ f ∷ []) ≡ (if l == f.number then f.depth else depth_in d l fs)
depth_snoc d l [] f = refl
depth_snoc d l (g ∷ fs) f = depth_snoc (if l == g.number then g.depth else d) l fs f

pub after_snoc : (e : List ℕ) (l : ℕ) (fs : List Loop) (f : Loop) → after_in e l (fs ++ f ∷ []) ≡ (if l == f.number then f.after else after_in e l fs)
after_snoc e l [] f = refl
after_snoc e l (g ∷ fs) f = after_snoc (if l == g.number then g.after else e) l fs f

pub head_snoc : (e : List ℕ) (l : ℕ) (fs : List Loop) (f : Loop) → head_in e l (fs ++ f ∷ []) ≡ (if l == f.number then f.head else head_in e l fs)
head_snoc e l [] f = refl
head_snoc e l (g ∷ fs) f = head_snoc (if l == g.number then g.head else e) l fs f

-- ---- lists

pub length_snoc : (xs : List ℕ) (x : ℕ) → length (xs ++ x ∷ []) ≡ suc (length xs)
length_snoc [] x = refl
length_snoc (y ∷ xs) x = ap suc (length_snoc xs x)

pub drop_snoc : (n : ℕ) (xs : List ℕ) (x : ℕ) → n ≤ length xs → drop n (xs ++ x ∷ []) ≡ drop n xs ++ x ∷ []
drop_snoc zero xs x le = refl
drop_snoc (suc n) [] x le = absurd (omega (arith, le))
drop_snoc (suc n) (y ∷ xs) x le = drop_snoc n xs x (omega (arith, le))

pub drop_length : (xs : List ℕ) → drop (length xs) xs ≡ []
drop_length [] = refl
drop_length (y ∷ xs) = drop_length xs

-- ---- depths

depth_within : {A : Around} {s : Scope} (l : ℕ) → Round A s → depth_in 0 l A.loops ≤ length A.variables
depth_within l alone = omega arith
depth_within l (one_variable {A = A} x r) = omega (arith, depth_within l r, length_snoc A.variables x)
depth_within l (one_loop {A = A} m after head r) = subst (λ d. d ≤ length A.variables) (sym (depth_snoc 0 l A.loops (record { number = m; depth = length A.variables; after = after; head = head }))) (by (l == m) (depth_within l r))
  where
    by : (c : Bool) → depth_in 0 l A.loops ≤ length A.variables → (if c then length A.variables else depth_in 0 l A.loops) ≤ length A.variables
    by true le = omega arith
    by false le = le

pub ended_all : {A : Around} {s : Scope} → Round A s → reverse A.variables ≡ all_of s
ended_all alone = refl
ended_all (one_variable {A = A} x r) = reverse-append A.variables (x ∷ []) ∙ ap (λ xs. x ∷ xs) (ended_all r)
ended_all (one_loop l after head r) = ended_all r

pub ended_within : {A : Around} {s : Scope} (l : ℕ) → Round A s → reverse (drop (depth_in 0 l A.loops) A.variables) ≡ within l s
ended_within l alone = refl
ended_within l (one_variable {A = A} x r) =
    ap reverse (drop_snoc (depth_in 0 l A.loops) A.variables x (depth_within l r))
    ∙ reverse-append (drop (depth_in 0 l A.loops) A.variables) (x ∷ []) ∙ ap (λ xs. x ∷ xs) (ended_within l r)
ended_within l (one_loop {A = A} {s = s} m after head r) =
    ap (λ d. reverse (drop d A.variables)) (depth_snoc 0 l A.loops (record { number = m; depth = length A.variables; after = after; head = head })) ∙ by (l == m) (ended_within l r)
  where
    by : (c : Bool) → reverse (drop (depth_in 0 l A.loops) A.variables) ≡ within l s → reverse (drop (if c then length A.variables else depth_in 0 l A.loops) A.variables) ≡ (if c then [] else within l s)
    by true e = ap reverse (drop_length A.variables)
    by false e = e

pub ended_left : {A : Around} {s : Scope} (x : Exit) → Round A s → ended x A ≡ left x s
ended_left (breaks n l) r = ended_within l r
ended_left (continues n l) r = ended_within l r
ended_left (returns n) r = ended_all r

pub ended_length : (x : Exit) (A : Around) → length (ended x A) ≡ length A.variables - depth x A.loops
ended_length x A = length-reverse (drop (depth x A.loops) A.variables) ∙ length-drop (depth x A.loops) A.variables
