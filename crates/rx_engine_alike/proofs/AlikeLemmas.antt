-- What is found of parts one after another.
use Rattle.std.proofs.Common.{◌≡◌, ℕ, ◌+◌, ◌-◌, ◌<◌, ◌≤◌, Bool, true, false, List, [], ◌∷◌, length, get_or, take, drop, Option, Some, None, refl, sym, ap, ◌∙◌, arith}
use Rattle.std.proofs.lemmas.List.{at_drop_more, at_drop_all, nil_from_length, take_all, length-drop}
use Rattle.rx_engine_alike.specs.Likeness.{Likeness, unlike, alike, alike_but, both, provided, when}

pub both_assoc : (a b c : Likeness) → both (both a b) c ≡ both a (both b c)
both_assoc unlike b c = refl
both_assoc alike b c = refl
both_assoc (alike_but h) unlike c = refl
both_assoc (alike_but h) alike c = refl
both_assoc (alike_but h) (alike_but k) unlike = refl
both_assoc (alike_but h) (alike_but k) alike = refl
both_assoc (alike_but h) (alike_but k) (alike_but m) = refl

pub both_unlike : (a : Likeness) → both a unlike ≡ unlike
both_unlike unlike = refl
both_unlike alike = refl
both_unlike (alike_but h) = refl

pub both_alike : (a : Likeness) → both a alike ≡ a
both_alike unlike = refl
both_alike alike = refl
both_alike (alike_but h) = refl

pub provided_both : (c : Bool) (a b : Likeness) → provided c (both a b) ≡ both (provided c a) b
provided_both true a b = refl
provided_both false a b = refl

pub when_both : {A : Type 0} (o : Option A) (f : A → Likeness) (b : Likeness) → when o (λ x. both (f x) b) ≡ both (when o f) b
when_both None f b = refl
when_both (Some x) f b = refl

-- ---- lists of both, side by side

pub next_of : {A B : Type 0} (f : List A → B) (xs : List A) (i : ℕ) (x : A) → i < length xs → x ≡ get_or xs i x → f (drop i xs) ≡ f (x ∷ drop (i + 1) xs)
next_of f xs i x less is = at_drop_more f xs i x less ∙ ap (λ y. f (y ∷ drop (i + 1) xs)) (sym is)

-- what stands behind the first, as a slice's pattern has it
pub behind_of : {B : Type 0} (ys : List B) → drop 1 ys ≡ take (length ys - 1) (drop 1 ys)
behind_of ys = sym (take_all (length ys - 1) (drop 1 ys) (omega (arith, length-drop 1 ys)))

-- what is left of the answer's list, by its first
pub front_of : {B : Type 0} (ys : List B) (y : B) → 0 < length ys → y ≡ get_or ys 0 y → ys ≡ y ∷ take (length ys - 1) (drop 1 ys)
front_of ys y less is = next_of (λ l. l) ys 0 y less is ∙ ap (λ l. y ∷ l) (behind_of ys)

pub none_of : {B : Type 0} (ys : List B) → length ys < 1 → ys ≡ []
none_of ys less = nil_from_length ys (omega arith)

-- a turn: what was found so far, then here, then of the rest
pub alike_turn : {A B : Type 0} (f : List A → List B → Likeness) (xs : List A) (i : ℕ) (x : A) (y : B) (ys zs : List B) (old new here all : Likeness) → i < length xs → x ≡ get_or xs i x
    → zs ≡ y ∷ ys → f (x ∷ drop (i + 1) xs) (y ∷ ys) ≡ both here (f (drop (i + 1) xs) ys) → new ≡ both old here → both old (f (drop i xs) zs) ≡ all → both new (f (drop (i + 1) xs) ys) ≡ all
alike_turn f xs i x y ys zs old new here all less is right split more done =
    let rest = f (drop (i + 1) xs) ys in
    ap (λ a. both a rest) more ∙ both_assoc old here rest ∙ ap (both old) (sym split) ∙ ap (both old) (sym (next_of (λ l. f l (y ∷ ys)) xs i x less is)) ∙ ap (λ l. both old (f (drop i xs) l)) (sym right) ∙ done

-- the answer has fewer
pub alike_short : {A B : Type 0} (f : List A → List B → Likeness) (xs : List A) (i : ℕ) (x : A) (zs : List B) (old all : Likeness) → i < length xs → x ≡ get_or xs i x
    → zs ≡ [] → f (x ∷ drop (i + 1) xs) [] ≡ unlike → both old (f (drop i xs) zs) ≡ all → unlike ≡ all
alike_short f xs i x zs old all less is right none done =
    sym (both_unlike old) ∙ ap (both old) (sym none) ∙ ap (both old) (sym (next_of (λ l. f l []) xs i x less is)) ∙ ap (λ l. both old (f (drop i xs) l)) (sym right) ∙ done

-- the text has no more: what is left then
pub alike_end : {A B : Type 0} (f : List A → List B → Likeness) (xs : List A) (i : ℕ) (zs : List B) (old new last all : Likeness) → length xs ≤ i
    → f [] zs ≡ last → new ≡ both old last → both old (f (drop i xs) zs) ≡ all → new ≡ all
alike_end f xs i zs old new last all past end more done = more ∙ ap (both old) (sym end) ∙ ap (both old) (sym (at_drop_all (λ l. f l zs) xs i past)) ∙ done

pub ruleset alike_rules = (both_assoc, both_unlike, both_alike, provided_both, when_both)
