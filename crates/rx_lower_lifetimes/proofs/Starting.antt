-- Starts of nodes that are kept while a list grows.
use Rattle.std.proofs.Common.{◌≡◌, ℕ, zero, suc, ◌<◌, ◌≤◌, List, [], ◌∷◌, ◌++◌, map, length, get_or, Result, Ok, Err, OnOk, OnErr, slice_get, Some, refl, ap, sym, ◌∙◌, subst, arith}
use Rattle.std.proofs.Math.ListN.{set}
use Rattle.std.proofs.lemmas.List.{length-map}
use Rattle.std.proofs.lemmas.Option.{none-some}
use Rattle.rx_lower_lifetimes.specs.Starting.{start_of, Starts}

pub grown_starts : (ps : List ℕ) (n : ℕ) → start_of (ps ++ 4294967295 ∷ []) n ≡ start_of ps n
grown_starts [] zero = refl
grown_starts [] (suc n) = refl
grown_starts (p ∷ ps) zero = refl
grown_starts (p ∷ ps) (suc n) = grown_starts ps n

pub set_here : (ps : List ℕ) (n place : ℕ) → n < length ps → start_of (set ps n place) n ≤ place
set_here [] n place h = absurd (omega (arith, h))
set_here (p ∷ ps) zero place h = omega arith
set_here (p ∷ ps) (suc n) place h = set_here ps n place (omega (arith, h))

pub set_lower : (ps : List ℕ) (n place : ℕ) → place ≤ get_or ps n place → (m : ℕ) → start_of (set ps n place) m ≤ start_of ps m
set_lower [] n place h m = omega arith
set_lower (p ∷ ps) zero place h zero = h
set_lower (p ∷ ps) zero place h (suc m) = omega arith
set_lower (p ∷ ps) (suc n) place h zero = omega arith
set_lower (p ∷ ps) (suc n) place h (suc m) = set_lower ps n place h m

pub lower_starts : (ps qs ns : List ℕ) → ((m : ℕ) → start_of qs m ≤ start_of ps m) → Starts ps ns → Starts qs ns
lower_starts ps qs ns lower starts i n e = let l = lower n in let s = starts i n e in omega (arith, l, s)

last_of : (W : ℕ → ℕ → Type 0) (ns : List ℕ) (n : ℕ) → ((i m : ℕ) → slice_get ns i ≡ Some m → W i m) → W (length ns) n
    → (i m : ℕ) → slice_get (ns ++ n ∷ []) i ≡ Some m → W i m
last_of W [] n each last zero m e = let s : n ≡ m = cc in subst (λ x. W 0 x) s last
last_of W [] n each last (suc i) m e = absurd (none-some m e)
last_of W (o ∷ ns) n each last zero m e = each zero m e
last_of W (o ∷ ns) n each last (suc i) m e = last_of (λ k. W (suc k)) ns n (λ j. each (suc j)) last i m e

pub more_starts : (qs ns : List ℕ) (n : ℕ) → Starts qs ns → start_of qs n ≤ length ns → Starts qs (ns ++ n ∷ [])
more_starts qs ns n starts last = last_of (λ i m. start_of qs m ≤ i) ns n starts last

starts_there : {T E : Type 0} (f : T → ℕ) (xs new : List T) (x : T) (r : Result (Unit {0}) E) (qs : List ℕ) → OnOk r (new ≡ xs ++ x ∷ []) → OnErr r (new ≡ xs)
    → Starts qs (map f xs) → start_of qs (f x) ≤ length xs → Starts qs (map f new)
starts_there f xs new x (Ok u) qs ok err starts last =
    subst (λ (l : List ℕ). Starts qs l) (sym (ap (map f) ok ∙ map_last f xs x))
    (more_starts qs (map f xs) (f x) starts (subst (λ n. start_of qs (f x) ≤ n) (sym (length-map xs f)) last)) where
      map_last : {T : Type 0} (f : T → ℕ) (xs : List T) (x : T) → map f (xs ++ x ∷ []) ≡ map f xs ++ f x ∷ []
      map_last f [] x = refl
      map_last f (y ∷ xs) x = ap (λ l. f y ∷ l) (map_last f xs x)
starts_there f xs new x (Err e) qs ok err starts last = subst (λ l. Starts qs (map f l)) (sym err) starts

-- the starts have grown, are handed on, and one is lowered; then an item may be added
pub pushed_starts : {T E : Type 0} (f : T → ℕ) (xs new : List T) (x : T) (r : Result (Unit {0}) E) (ps grown taken qs : List ℕ) (node place : ℕ)
    → OnOk r (new ≡ xs ++ x ∷ []) → OnErr r (new ≡ xs) → Starts ps (map f xs)
    → ((m : ℕ) → start_of grown m ≡ start_of ps m) → taken ≡ grown → ((m : ℕ) → start_of qs m ≤ start_of taken m)
    → start_of qs node ≤ place → node ≡ f x → place ≡ length xs → Starts qs (map f new)
pushed_starts f xs new x r ps grown taken qs node place ok err starts same is lower here of_item at =
    starts_there f xs new x r qs ok err
    (lower_starts ps qs (map f xs) (λ m. let l = lower m in let e = ap (λ l. start_of l m) is in let s = same m in omega (arith, l, e, s)) starts)
    (let e = ap (start_of qs) of_item in omega (arith, here, e, at))

map_there : {T : Type 0} (f : T → ℕ) (xs : List T) (i : ℕ) (x : T) → slice_get xs i ≡ Some x → slice_get (map f xs) i ≡ Some (f x)
map_there f [] i x e = absurd (none-some x e)
map_there f (y ∷ xs) zero x e = let s : y ≡ x = cc in ap (λ z. Some (f z)) s
map_there f (y ∷ xs) (suc i) x e = map_there f xs i x e

-- none of this node stands before a place that is not behind its start
pub none_before : {T : Type 0} (f : T → ℕ) (xs : List T) (ps : List ℕ) (n k : ℕ) → Starts ps (map f xs) → k ≤ start_of ps n
    → (i : ℕ) (x : T) → i < k → slice_get xs i ≡ Some x → f x ≡ n → ⊥
none_before f xs ps n k starts least i x less e is =
    let s = starts i (f x) (map_there f xs i x e) in let t : start_of ps (f x) ≡ start_of ps n = ap (start_of ps) is in omega (arith, s, t, less, least)
