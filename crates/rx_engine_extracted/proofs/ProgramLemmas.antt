-- Items of programs, by their numbers.
use Rattle.std.proofs.Common.{◌≡◌, refl, sym, ap, ◌∙◌, ℕ, zero, suc, ◌+◌, ◌<◌, ◌≤◌, Bool, true, ◌&&◌, List, [], ◌∷◌, length, map, drop, get_or, add-one, Option, Some, None, option_map, slice_get, Bor}
use Rattle.std.proofs.lemmas.List.{at_drop_more, at_drop_all}
use Rattle.rx_typed.specs.declared.tree.TypedTree.{TypedTree}
use Rattle.rx_meaning.specs.Values.{element}
use Rattle.rx_engine_extracted.specs.Told.{Told}
use Rattle.rx_engine_extracted.specs.Programs.{others_stay}
use Rattle.rx_engine_extracted.specs.PlainPrograms.{plain-Tree, plain-Functions, stays_of, others_from}

pub element_of : {A B : Type 0} (f : A → B) (l : List A) (i : ℕ) → element (map f l) i ≡ option_map f (slice_get l i)
element_of f [] i = refl
element_of f (a ∷ l) zero = refl
element_of f (a ∷ l) (suc i) = element_of f l i

pub ruleset element_rules = (element_of)

pub others_turn : (T : Told) (item : ℕ) (Q P : List (Option (Bor TypedTree))) (f : ℕ) (o : Option (Bor TypedTree)) → f < length P → o ≡ get_or P f o
    → others_from T item Q P f ≡ stays_of T.items item (plain-Functions Q) f (plain-Tree o) && others_from T item Q P (f + 1)
others_turn T item Q P f o less is =
    at_drop_more (λ (xs : List (Option (Bor TypedTree))). others_stay T item (plain-Functions Q) f (plain-Functions xs)) P f o less
    ∙ ap (λ (q : Option (Bor TypedTree)). others_stay T item (plain-Functions Q) f (plain-Functions (q ∷ drop (f + 1) P))) (sym is)
    ∙ ap (λ (k : ℕ). stays_of T.items item (plain-Functions Q) f (plain-Tree o) && others_stay T item (plain-Functions Q) k (plain-Functions (drop (f + 1) P))) (sym (add-one f))

pub others_end : (T : Told) (item : ℕ) (Q P : List (Option (Bor TypedTree))) (f : ℕ) → length P ≤ f → others_from T item Q P f ≡ true
others_end T item Q P f past = at_drop_all (λ (xs : List (Option (Bor TypedTree))). others_stay T item (plain-Functions Q) f (plain-Functions xs)) P f past
