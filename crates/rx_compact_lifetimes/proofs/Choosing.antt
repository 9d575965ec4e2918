-- Lifetimes of a list that are chosen, one step on.
use Rattle.std.proofs.Common.{◌≡◌, ℕ, ◌+◌, ◌<◌, Bool, true, false, List, [], ◌∷◌, ◌++◌, length, map, get_or, drop, refl, sym, ap, ◌∙◌, append_assoc}
use Rattle.std.specs.Prelude.{if◌then◌else◌, filter}
use Rattle.std.proofs.lemmas.List.{map-append}
use Rattle.rx_tree.specs.declared.tree.BoundLifetime.{BoundLifetime}
use Rattle.rx_hoist_made.proofs.Dropped.{drop_is}
use Rattle.rx_compact_lifetimes.specs.Steps.{one_if}

chosen_first : (P : BoundLifetime → Bool) (l : BoundLifetime) (ls : List BoundLifetime) → filter P (l ∷ ls) ≡ one_if (P l) l ++ filter P ls
chosen_first P l ls = by (P l)
  where
    by : (b : Bool) → (if b then l ∷ filter P ls else filter P ls) ≡ (if b then l ∷ [] else []) ++ filter P ls
    by true = refl
    by false = refl

pub next_chosen : (P : BoundLifetime → Bool) (ls all more : List BoundLifetime) (i : ℕ) (l : BoundLifetime) (b : Bool) → i < length ls → l ≡ get_or ls i l → b ≡ P l
    → more ≡ all ++ one_if b l → more ++ filter P (drop (i + 1) ls) ≡ all ++ filter P (drop i ls)
next_chosen P ls all more i l b less is b_is m =
    ap (λ ms. ms ++ filter P (drop (i + 1) ls)) (m ∙ ap (λ c. all ++ one_if c l) b_is)
    ∙ (append_assoc all (one_if (P l) l) (filter P (drop (i + 1) ls)) ∙ ap (λ ms. all ++ ms) (sym (ap (filter P) (drop_is ls i l less is) ∙ chosen_first P l (drop (i + 1) ls))))

pub next_made : {B : Type 0} (f : BoundLifetime → B) (P : BoundLifetime → Bool) (ls : List BoundLifetime) (all more : List B) (i : ℕ) (l : BoundLifetime) (b : Bool) → i < length ls → l ≡ get_or ls i l → b ≡ P l
    → more ≡ all ++ map f (one_if b l) → more ++ map f (filter P (drop (i + 1) ls)) ≡ all ++ map f (filter P (drop i ls))
next_made f P ls all more i l b less is b_is m =
    ap (λ ms. ms ++ map f (filter P (drop (i + 1) ls))) (m ∙ ap (λ c. all ++ map f (one_if c l)) b_is)
    ∙ (append_assoc all (map f (one_if (P l) l)) (map f (filter P (drop (i + 1) ls)))
    ∙ ap (λ ms. all ++ ms) (sym (ap (λ ms. map f (filter P ms)) (drop_is ls i l less is) ∙ (ap (map f) (chosen_first P l (drop (i + 1) ls)) ∙ map-append f (one_if (P l) l) (filter P (drop (i + 1) ls))))))
