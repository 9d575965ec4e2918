-- Where a run is reached, and each of its exits is come to.
use Rattle.std.proofs.Common.{◌≡◌, ◌≢◌, ◌↔◌, ◌⊎◌, inl, inr, ℕ, ◌+◌, ◌<◌, ◌≤◌, Bool, true, false, List, [], ◌∷◌, map, take, length, get_or, option_map, Option, Some, None, MatchOption, refl, sym, ap, ◌∙◌, subst}
use Rattle.std.proofs.lemmas.Bool.{true≢false, false≢true}
use Rattle.std.proofs.lemmas.List.{map-append, take_all}
use Rattle.rx_core.specs.declared.types.Ty.{Ty}
use Rattle.rx_typed.specs.PlainTypes.{plain-Ty}
use Rattle.rx_typed.specs.declared.tree.Expr.{Expr}
use Rattle.rx_typed.specs.PlainTree.{plain-Expr}
use Rattle.rx_exits_tree.proofs.Shapes.{expr_mark}
use Rattle.rx_exits_plan.specs.declared.plan.Exit.{Exit as CodeExit}
use Rattle.rx_exits_plan.specs.PlainPlan.{plain-Exit}
use Rattle.rx_typed.specs.Tree.{Mark, Exp, mark_of}
use Rattle.rx_lower_walks.specs.Walks.{Among}
use Rattle.rx_exits_plan.specs.Points.{Exit, next, breaks, continues, returns, same_exit, Point, enters, leaves}
use Rattle.rx_exits_plan.specs.Asked.{Asked}
use Rattle.rx_exits_plan.specs.Exits as plan
use Rattle.rx_exits_plan.specs.Exits.{Jump}
use Rattle.rx_exits_plan.specs.Unreachable as unreached
use Rattle.rx_exits_plan.specs.Unreachable.{SomeComes, NoneComes, HasValue, IsToEnd, first_of, Unreachable, not_begun, not_ended, not_left}
use Rattle.rx_exits.proofs.Listing.{all_more, next_is_list, mapped_in, turn_among}
use Rattle.rx_exits.specs.Asking.{IsReached}
use Rattle.rx_exits.specs.Reaching.{Tells, IsLeft, IsNotLeft, AllLeft, SomeNotLeft, IsKnown, EndTold, missing, come, no_end}

pub next_is : (x : Exit) → same_exit next x ≡ true → x ≡ next
next_is next e = refl
next_is (breaks l) e = absurd (false≢true e)
next_is (continues l) e = absurd (false≢true e)
next_is returns e = absurd (false≢true e)

pub next_is_not : (x : Exit) → same_exit next x ≡ false → x ≢ next
next_is_not x e is = true≢false (subst (λ y. same_exit next y ≡ false) is e)

pub returns_is : (x : Exit) → same_exit returns x ≡ true → x ≡ returns
returns_is returns e = refl
returns_is next e = absurd (false≢true e)
returns_is (breaks l) e = absurd (false≢true e)
returns_is (continues l) e = absurd (false≢true e)

pub returns_is_not : (x : Exit) → same_exit returns x ≡ false → x ≢ returns
returns_is_not x e is = true≢false (subst (λ y. same_exit returns y ≡ false) is e)

-- ---- exits

abbrev is_none : {X : Type 0} → Option X → Bool
is_none None = true
is_none (Some x) = false

pub none_is_some : {X : Type 0} (b : X) → None ≡ Some b → ⊥
none_is_some b e = true≢false (ap is_none e)

pub first_tells : (A : Asked) (x : Exit) (js : List Jump) (r : Option ℕ) → r ≡ first_of x js → x ≢ next → NoneComes A (leaves x) → MatchOption r (IsLeft A x js) (IsNotLeft A x js)
first_tells A x js None e ne none = λ n _ _ f. none_is_some n (e ∙ f)
first_tells A x js (Some n) e ne none = record { other = ne; none = none; first = sym e }

-- ---- the whole

pub all_reached : (A : Asked) → SomeComes A enters → (IsToEnd A → SomeComes A (leaves next)) → AllLeft A (plan.exits A.run A.home) (plan.jumps A.run A.home) → IsReached A
all_reached A some end left _ (not_begun none) = none some
all_reached A some end left _ (not_ended s e none) = none (end e)
all_reached A some end left _ (not_left s e x n i ne none f) = left x i n ne none f

pub known_left : (A : Asked) (v : Option Exp) (es : List Exit) (js : List Jump) → IsKnown A v es js → AllLeft A es js → AllLeft A (plan.exits A.run A.home) (plan.jumps A.run A.home)
known_left A v es js K left x i =
    subst (λ ks. IsLeft A x ks) (sym K.jumps) (left x (subst (λ fs. Among x fs) K.exits i))

pub known_not_left : (A : Asked) (v : Option Exp) (es : List Exit) (js : List Jump) (n : ℕ) → IsKnown A v es js → SomeComes A enters → SomeComes A (leaves next) ⊎ ¬ (IsToEnd A)
    → SomeNotLeft A es js n → Unreachable A (unreached.jump n)
known_not_left A v es js n K some end s =
    not_left some end s.exit n (subst (λ fs. Among s.exit fs) (sym K.exits) s.among) s.it.other s.it.none (subst (λ ks. first_of s.exit ks ≡ Some n) (sym K.jumps) s.it.first)

pub known_end : (A : Asked) (v : Option Exp) (es : List Exit) (js : List Jump) → IsKnown A v es js → Among next es ⊎ HasValue v → IsToEnd A
known_end A v es js K (inl i) = inl (subst (λ fs. Among next fs) (sym K.exits) i)
known_end A v es js K (inr h) = inr (subst HasValue (sym K.value) h)

end_known : (A : Asked) (v : Option Exp) (es : List Exit) (js : List Jump) → IsKnown A v es js → IsToEnd A → Among next es ⊎ HasValue v
end_known A v es js K (inl i) = inl (subst (λ fs. Among next fs) K.exits i)
end_known A v es js K (inr h) = inr (subst HasValue K.value h)

-- a walk that enters; then one that comes to the end, where that is to be reached
pub at_last : (A : Asked) (b : Bool) (v : Option Exp) (es : List Exit) (js : List Jump) → IsKnown A v es js → SomeComes A enters → b ≡ true → EndTold A b v es → Unreachable A unreached.last
at_last A _ v es js K some is (missing end none) = not_ended some (known_end A v es js K end) none
at_last A _ v es js K some is (come s) = absurd (false≢true is)
at_last A _ v es js K some is (no_end n) = absurd (false≢true is)

end_come : (A : Asked) (b : Bool) (v : Option Exp) (es : List Exit) (js : List Jump) → IsKnown A v es js → b ≡ false → EndTold A b v es → SomeComes A (leaves next) ⊎ ¬ (IsToEnd A)
end_come A _ v es js K is (missing end none) = absurd (true≢false is)
end_come A _ v es js K is (come s) = inl s
end_come A _ v es js K is (no_end n) = inr (λ e. n (end_known A v es js K e))

-- the rest, by what is found of the exits
pub at_exits : (A : Asked) (b : Bool) (v : Option Exp) (es : List Exit) (js : List Jump) → IsKnown A v es js → SomeComes A enters → b ≡ false → EndTold A b v es
    → AllLeft A es js → IsReached A
at_exits A b v es js K some is told left = all_reached A some (λ e. by e (end_come A b v es js K is told)) (known_left A v es js K left)
  where
    by : IsToEnd A → SomeComes A (leaves next) ⊎ ¬ (IsToEnd A) → SomeComes A (leaves next)
    by e (inl s) = s
    by e (inr n) = absurd (n e)

pub at_a_jump : (A : Asked) (b : Bool) (v : Option Exp) (es : List Exit) (js : List Jump) (n : ℕ) → IsKnown A v es js → SomeComes A enters → b ≡ false → EndTold A b v es
    → SomeNotLeft A es js n → Unreachable A (unreached.jump n)
at_a_jump A b v es js n K some is told s = known_not_left A v es js n K some (end_come A b v es js K is told) s

pub none_comes : (A : Asked) (q : Point) (b : Bool) → b ≡ false → (b ≡ true) ↔ SomeComes A q → NoneComes A q
none_comes A q b free told s = true≢false (sym (told.1 s) ∙ free)

pub some_comes : (A : Asked) (q : Point) (b : Bool) → b ≡ true → (b ≡ true) ↔ SomeComes A q → SomeComes A q
some_comes A q b so told = told.0 so

pub comes_not : (A : Asked) (q : Point) (b : Bool) → b ≡ true → (b ≡ true) ↔ SomeComes A q → SomeComes A q
comes_not A q b it told = told.0 it

-- ---- tests

pub tells_true : (b : Bool) (P : Type 0) → b ≡ true → Tells b P → P
tells_true b P it h = subst (λ (c : Bool). Tells c P) it h

pub tells_false : (b : Bool) (P : Type 0) → b ≡ false → Tells b P → ¬ P
tells_false b P it h = subst (λ (c : Bool). Tells c P) it h

pub tells_other : (b : Bool) (P Q : Type 0) → ¬ P → Tells b Q → Tells b (P ⊎ Q)
tells_other true P Q n h = inr h
tells_other false P Q n h = by
  where
    by : P ⊎ Q → ⊥
    by (inl p) = n p
    by (inr q) = h q

pub end_told : (A : Asked) (b : Bool) (v : Option Exp) (es : List Exit) → NoneComes A (leaves next) → Tells b (Among next es ⊎ HasValue v) → EndTold A b v es
end_told A true v es none h = missing h none
end_told A false v es none h = no_end h

pub both_told : (b : Bool) (P Q : Type 0) → P → (b ≡ true) ↔ Q → Tells b (P × Q)
both_told true P Q p told = (p, told.0 refl)
both_told false P Q p told = λ h. false≢true (told.1 h.1)

pub both_tell : (b : Bool) (P Q : Type 0) → P → Tells b Q → Tells b (P × Q)
both_tell true P Q p q = (p, q)
both_tell false P Q p n = λ h. n h.1

pub first_missing : (b : Bool) (Q : Type 0) → b ≡ false → ¬ ((b ≡ true) × Q)
first_missing b Q is h = true≢false (sym h.0 ∙ is)

pub first_of_three : (b : Bool) (Q R : Type 0) → b ≡ false → ¬ ((b ≡ true) × Q × R)
first_of_three b Q R is h = true≢false (sym h.0 ∙ is)

pub second_missing : (b : Bool) (P Q R : Type 0) → b ≡ false → (b ≡ true) ↔ Q → ¬ (P × Q × R)
second_missing b P Q R is told h = true≢false (sym (told.1 h.1) ∙ is)

pub three_told : (b : Bool) (P Q R : Type 0) → P → Q → (b ≡ true) ↔ R → Tells b (P × Q × R)
three_told true P Q R p q told = (p, q, told.0 refl)
three_told false P Q R p q told = λ h. false≢true (told.1 h.2)

abbrev or_none : Option ℕ → ℕ
or_none None = 0
or_none (Some n) = n

pub some_is : (a b : ℕ) → Some a ≡ Some b → a ≡ b
some_is a b e = ap or_none e

pub not_so : (b : Bool) (P : Type 0) → b ≡ false → (b ≡ true) ↔ P → ¬ P
not_so b P it told p = true≢false (sym (told.1 p) ∙ it)

pub typed_some : (e : Expr) (t : Ty) → e.mark.ty ≡ Some t → (mark_of (plain-Expr e)).typ ≢ None
typed_some e t is none = none_is_some (plain-Ty t) (sym none ∙ ap (λ (m : Mark). m.typ) (expr_mark e) ∙ ap (option_map plain-Ty) is)

pub typed_none : (e : Expr) → e.mark.ty ≡ None → (mark_of (plain-Expr e)).typ ≡ None
typed_none e is = ap (λ (m : Mark). m.typ) (expr_mark e) ∙ ap (option_map plain-Ty) is

abbrev is_empty : {X : Type 0} → List X → Bool
is_empty [] = true
is_empty (x ∷ l) = false

pub map_empty : {X Y : Type 0} (f : X → Y) (l : List X) → map f l ≡ [] → l ≡ []
map_empty f [] e = refl
map_empty f (x ∷ l) e = absurd (false≢true (ap is_empty e))

-- ---- lists of exits

pub left_more : (A : Asked) (js : List Jump) (xs : List CodeExit) (i : ℕ) (x : CodeExit) → i < length xs → x ≡ get_or xs i x → IsLeft A (plain-Exit x) js → AllLeft A (map plain-Exit (take i xs)) js
    → AllLeft A (map plain-Exit (take (i + 1) xs)) js
left_more A js xs i x less is left all y among =
    all_more (λ e. IsLeft A e js) (map plain-Exit (take i xs)) (plain-Exit x) all left y
    (subst (λ l. Among y l) (ap (map plain-Exit) (next_is_list xs i x less is) ∙ map-append plain-Exit (take i xs) (x ∷ [])) among)

pub end_more : (xs : List CodeExit) (i : ℕ) (x : CodeExit) → i < length xs → x ≡ get_or xs i x → next ≢ plain-Exit x → ¬ (Among next (map plain-Exit (take i xs)))
    → ¬ (Among next (map plain-Exit (take (i + 1) xs)))
end_more xs i x less is ne none among =
    all_more (λ e. next ≢ e) (map plain-Exit (take i xs)) (plain-Exit x) (λ e j s. none (subst (λ z. Among z (map plain-Exit (take i xs))) (sym s) j)) ne next
    (subst (λ l. Among next l) (ap (map plain-Exit) (next_is_list xs i x less is) ∙ map-append plain-Exit (take i xs) (x ∷ [])) among) refl

pub exit_among : (xs : List CodeExit) (i : ℕ) (x : CodeExit) → i < length xs → x ≡ get_or xs i x → Among (plain-Exit x) (map plain-Exit xs)
exit_among xs i x less is = mapped_in plain-Exit x xs (turn_among xs i x less is)

pub all_taken : (P : List Exit → Type 0) (xs : List CodeExit) (i : ℕ) → length xs ≤ i → P (map plain-Exit (take i xs)) → P (map plain-Exit xs)
all_taken P xs i past h = subst (λ l. P (map plain-Exit l)) (take_all i xs past) h
