-- Lists of different lengths have different images.
use Rattle.std.proofs.Common.{◌≡◌, ◌↔◌, IsTrue, false, List, [], ◌∷◌, refl, ap, map, length, suc}

same_length : {A B : Type 0} (f : A → B) (xs ys : List A) → map f xs ≡ map f ys → length xs ≡ length ys
same_length f [] [] e = refl
same_length f [] (y ∷ ys) e = cc
same_length f (x ∷ xs) [] e = cc
same_length f (x ∷ xs) (y ∷ ys) e = let r : map f xs ≡ map f ys = cc in ap suc (same_length f xs ys r)

pub mapped_lengths : {A B : Type 0} (f : A → B) (xs ys : List A) → (length xs ≡ length ys → ⊥) → IsTrue false ↔ (map f xs ≡ map f ys)
mapped_lengths f xs ys h = (λ e. cc, λ e. absurd (h (same_length f xs ys e)))

same_length_twice : {A B C : Type 0} (f : A → B) (g : B → C) (xs ys : List A) → map g (map f xs) ≡ map g (map f ys) → length xs ≡ length ys
same_length_twice f g [] [] e = refl
same_length_twice f g [] (y ∷ ys) e = cc
same_length_twice f g (x ∷ xs) [] e = cc
same_length_twice f g (x ∷ xs) (y ∷ ys) e = let r : map g (map f xs) ≡ map g (map f ys) = cc in ap suc (same_length_twice f g xs ys r)

pub mapped_twice_lengths : {A B C : Type 0} (f : A → B) (g : B → C) (xs ys : List A) → (length xs ≡ length ys → ⊥) → IsTrue false ↔ (map g (map f xs) ≡ map g (map f ys))
mapped_twice_lengths f g xs ys h = (λ e. cc, λ e. absurd (h (same_length_twice f g xs ys e)))

pub lengths : {A : Type 0} (xs ys : List A) → (length xs ≡ length ys → ⊥) → IsTrue false ↔ (xs ≡ ys)
lengths xs ys h = (λ e. cc, λ e. absurd (h (ap length e)))
