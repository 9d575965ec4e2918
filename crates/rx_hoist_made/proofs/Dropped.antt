-- What is left of a list, one step on; and what holds of a step that went well.
use Rattle.std.proofs.Common.{◌≡◌, ℕ, zero, suc, ◌+◌, ◌<◌, ◌≤◌, Bool, true, false, List, [], ◌∷◌, ◌++◌, length, map, get_or, take, drop, Option, Some, None, Result, Ok, Err, IfOk, OnOk, slice_get, refl, sym, subst, ap, ap₂, ◌∙◌, arith, append_assoc, length-append, drop-cons}
use Rattle.std.specs.Prelude.{◌||◌, option_map}
use Rattle.rx_core.specs.declared.types.Span.{Span}
use Rattle.rx_tree.specs.declared.tree.Expr.{Expr}
use Rattle.rx_tree.specs.Plain as plain
use Rattle.rx_tree.specs.PlainOf.{plain-Expr, optional_of}
use Rattle.rx_hoist_extraction.specs.Made.{as_expressions, joined}
use Rattle.std.proofs.lemmas.List.{map-append}
use Rattle.rx_hoist_made.specs.Lasts.{last_one}

pub drop_is : {A : Type 0} (xs : List A) (i : ℕ) (x : A) → i < length xs → x ≡ get_or xs i x → drop i xs ≡ x ∷ drop (i + 1) xs
drop_is xs i x l e = let n : suc i ≡ i + 1 = omega arith in drop-cons xs i x l ∙ ap₂ (λ y ys. y ∷ ys) (sym e) (ap (λ k. drop k xs) n)

-- what is left without its first, behind one more
pub mapped_on : {A B : Type 0} (f : A → B) (all held more : List A) (x : A) (y : B) (front rest whole : List B)
    → map f all ++ front ≡ whole → front ≡ y ∷ rest → held ≡ all → f x ≡ y → more ≡ held ++ x ∷ [] → map f more ++ rest ≡ whole
mapped_on f all held more x y front rest whole inv e h k m =
    ap (λ l. l ++ rest) (ap (map f) (m ∙ ap (λ l. l ++ x ∷ []) h) ∙ map-append f all (x ∷ []) ∙ ap (λ z. map f all ++ z ∷ []) k)
    ∙ append_assoc (map f all) (y ∷ []) rest ∙ ap (λ l. map f all ++ l) (sym e) ∙ inv

pub pushed_on : {A : Type 0} (all held more : List A) (x y : A) (front rest whole : List A)
    → all ++ front ≡ whole → front ≡ y ∷ rest → held ≡ all → x ≡ y → more ≡ held ++ x ∷ [] → more ++ rest ≡ whole
pushed_on all held more x y front rest whole inv e h k m =
    ap (λ l. l ++ rest) (m ∙ ap (λ l. l ++ x ∷ []) h ∙ ap (λ z. all ++ z ∷ []) k)
    ∙ append_assoc all (y ∷ []) rest ∙ ap (λ l. all ++ l) (sym e) ∙ inv

pub held_ok : {A E : Type 0} (P : A → Type 0) (r : Result A E) (x : A) → IfOk r P → r ≡ Ok x → P x
held_ok P r x h e = subst (λ s. IfOk s P) e h

pub on_ok : {A E : Type 0} (P : Type 0) (r : Result A E) (x : A) → OnOk r P → r ≡ Ok x → P
on_ok P r x h e = subst (λ s. OnOk s P) e h

pub ok_map : {A E : Type 0} (P Q : A → Type 0) (r : Result A E) → ((x : A) → P x → Q x) → IfOk r P → IfOk r Q
ok_map P Q (Ok x) f h = f x h
ok_map P Q (Err e) f h = tt

-- ---- a test of the first, and of the rest

pub found : (r b rest front whole : Bool) → front ≡ whole → front ≡ (b || rest) → r ≡ b → r ≡ true → true ≡ whole
found r b rest front whole inv here same is = sym (here ∙ ap (λ x. x || rest) (sym same ∙ is)) ∙ inv

pub passed : (r b rest front whole : Bool) → front ≡ whole → front ≡ (b || rest) → r ≡ b → r ≡ false → rest ≡ whole
passed r b rest front whole inv here same is = sym (here ∙ ap (λ x. x || rest) (sym same ∙ is)) ∙ inv

-- ---- the last

pub last_more : {A : Type 0} (xs : List A) (x : A) → Some x ≡ last_one (xs ++ x ∷ [])
last_more [] x = refl
last_more (y ∷ []) x = refl
last_more (y ∷ z ∷ xs) x = last_more (z ∷ xs) x

-- ---- one more of a list

pub one_taken : {A : Type 0} (xs : List A) (n : ℕ) (x : A) → slice_get xs n ≡ Some x → take (n + 1) xs ≡ take n xs ++ x ∷ []
one_taken xs n x e = let m : n + 1 ≡ suc n = omega arith in ap (λ k. take k xs) m ∙ at xs n x e
  where
    at : {A : Type 0} (xs : List A) (n : ℕ) (x : A) → slice_get xs n ≡ Some x → take (suc n) xs ≡ take n xs ++ x ∷ []
    at [] n x e = absurd (cc)
    at (y ∷ xs) zero x e = ap (λ z. z ∷ []) (one e)
      where
        one : ◌≡◌ {A = Option _} (Some y) (Some x) → y ≡ x
        one e = cc
    at (y ∷ xs) (suc n) x e = ap (λ l. y ∷ l) (at xs n x e)

pub none_left : {A : Type 0} (xs : List A) (n : ℕ) → slice_get xs n ≡ None → take n xs ≡ xs
none_left [] zero e = refl
none_left [] (suc n) e = refl
none_left (y ∷ xs) zero e = absurd (cc)
none_left (y ∷ xs) (suc n) e = ap (λ l. y ∷ l) (none_left xs n e)

-- the nodes so far are the first of all, and at the end all
pub child_taken : {A B : Type 0} (f : A → B) (xs more : List A) (cs : List B) (n : ℕ) (x : A) → map f xs ≡ take (length xs) cs → slice_get cs n ≡ Some (f x)
    → n ≡ length xs → more ≡ xs ++ x ∷ [] → map f more ≡ take (length more) cs
child_taken f xs more cs n x h e l m =
    let here : slice_get cs (length xs) ≡ Some (f x) = ap (slice_get cs) (sym l) ∙ e in
    let one : length (x ∷ []) ≡ 1 = refl in
    let long : length more ≡ length xs + 1 = ap length m ∙ length-append xs (x ∷ []) in
    ap (map f) m ∙ map-append f xs (x ∷ []) ∙ ap (λ ys. ys ++ f x ∷ []) h ∙ sym (one_taken cs (length xs) (f x) here) ∙ ap (λ k. take k cs) (sym long)

pub all_there : {A B : Type 0} (f : A → B) (xs : List A) (cs : List B) (n : ℕ) → map f xs ≡ take (length xs) cs → slice_get cs n ≡ None → n ≡ length xs → map f xs ≡ cs
all_there f xs cs n h e l = h ∙ none_left cs (length xs) (ap (slice_get cs) (sym l) ∙ e)

-- ---- nothing or the one, where there are no more

joined_few_at : (s : Span) (es : List Expr) → length es ≤ 1 → optional_of (option_map plain-Expr (last_one es)) ≡ joined s (map plain-Expr es)
joined_few_at s [] l = refl
joined_few_at s (e ∷ []) l = refl
joined_few_at s (e ∷ f ∷ es) l = absurd (omega arith)

pub joined_none : (s : Span) (es : List Expr) → length es ≤ 1 → None ≡ last_one es → plain.absent ≡ joined s (map plain-Expr es)
joined_none s es l e = ap (λ o. optional_of (option_map plain-Expr o)) e ∙ joined_few_at s es l

pub joined_one : (s : Span) (es : List Expr) (e : Expr) → length es ≤ 1 → Some e ≡ last_one es → plain.present (plain-Expr e) ≡ joined s (map plain-Expr es)
joined_one s es e l h = ap (λ o. optional_of (option_map plain-Expr o)) h ∙ joined_few_at s es l

pub joined_many : (s : Span) (es : List Expr) → 1 < length es → plain.present (plain.tuple s (as_expressions (map plain-Expr es))) ≡ joined s (map plain-Expr es)
joined_many s [] l = absurd (omega arith)
joined_many s (e ∷ []) l = absurd (omega arith)
joined_many s (e ∷ f ∷ es) l = refl

pub ruleset joined_rules = (joined_none, joined_one, joined_many)
