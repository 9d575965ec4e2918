-- Turns of loops over lists.
use Rattle.std.proofs.Common.{◌≡◌, ℕ, ◌+◌, ◌<◌, List, ◌∷◌, ◌++◌, sym, ap, ◌∙◌, length, get_or, drop}
use Rattle.std.proofs.lemmas.List.{append_assoc, at_drop_more}

-- what is left of a list begins with its next element
pub next_of : {A B : Type 0} (f : List A → B) (xs : List A) (i : ℕ) (x : A) → i < length xs → x ≡ get_or xs i x → f (drop i xs) ≡ f (x ∷ drop (i + 1) xs)
next_of f xs i x less is = at_drop_more f xs i x less ∙ ap (λ y. f (y ∷ drop (i + 1) xs)) (sym is)

-- a turn of a loop that adds what the next element stands for
pub turned : {A B : Type 0} (f : List A → List B) (xs : List A) (i : ℕ) (x : A) (old new here all : List B) → i < length xs → x ≡ get_or xs i x
    → f (x ∷ drop (i + 1) xs) ≡ here ++ f (drop (i + 1) xs) → new ≡ old ++ here → old ++ f (drop i xs) ≡ all → new ++ f (drop (i + 1) xs) ≡ all
turned f xs i x old new here all less is split more done =
    ap (λ l. l ++ f (drop (i + 1) xs)) more ∙ append_assoc old here (f (drop (i + 1) xs)) ∙ ap (λ l. old ++ l) (sym split) ∙ ap (λ l. old ++ l) (sym (next_of f xs i x less is)) ∙ done
