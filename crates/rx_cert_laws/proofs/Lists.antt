-- Lines one behind the other, and what stands at a place of a list.
use Rattle.std.proofs.Common.{◌≡◌, ℕ, zero, suc, ◌+◌, ◌<◌, ◌≤◌, List, [], ◌∷◌, ◌++◌, length, map, take, drop, Some, slice_get, option_map, refl, ap, sym, ◌∙◌, arith, append_assoc}
use Rattle.std.proofs.lemmas.List.{length-append, take_at, drop_at, drop-drop}
use Rattle.rx_cert_lines.specs.declared.line.Line.{Line}
use Rattle.rx_cert_lines.specs.Lines.{line_text}
use Rattle.rx_cert_lines.specs.Certificates.{lines_text}
use Rattle.rx_cert_tables.specs.Sets.{items_at}

pub some_there : {A : Type 0} (xs : List A) (n : ℕ) → n < length xs → (x : A) × (slice_get xs n ≡ Some x)
some_there [] n h = absurd (omega (arith, h))
some_there (x ∷ xs) zero h = (x, refl)
some_there (x ∷ xs) (suc n) h = some_there xs n (omega (arith, h))

pub mapped_there : {A B : Type 0} (f : A → B) (xs : List A) (n : ℕ) (x : A) → slice_get xs n ≡ Some x → slice_get (map f xs) n ≡ Some (f x)
mapped_there f [] n x h = absurd (cc)
mapped_there f (y ∷ xs) zero x h = ap (λ o. option_map f o) h
mapped_there f (y ∷ xs) (suc n) x h = mapped_there f xs n x h

pub front_there : {A : Type 0} (xs ys : List A) (n : ℕ) (x : A) → slice_get xs n ≡ Some x → slice_get (xs ++ ys) n ≡ Some x
front_there [] ys n x h = absurd (cc)
front_there (y ∷ xs) ys zero x h = h
front_there (y ∷ xs) ys (suc n) x h = front_there xs ys n x h

-- ---- items of lines

pub items_there : (ls : List Line) (n : ℕ) (l : Line) → slice_get ls n ≡ Some l → items_at ls n ≡ l.items
items_there [] n l h = absurd (cc)
items_there (x ∷ ls) zero l h = let e : x ≡ l = cc in ap (λ (y : Line). y.items) e
items_there (x ∷ ls) (suc n) l h = items_there ls n l h

pub no_items : (ls : List Line) (n : ℕ) → length ls ≤ n → items_at ls n ≡ []
no_items [] n h = refl
no_items (x ∷ ls) zero h = absurd (omega (arith, h))
no_items (x ∷ ls) (suc n) h = no_items ls n (omega (arith, h))

-- ---- the parts of a function's lines, with others behind

module _ (x : Line) (sets scopes more : List Line) where
  pub first_part : (n : ℕ) → length sets ≡ n → take n (drop 1 ((x ∷ (sets ++ scopes)) ++ more)) ≡ sets
  first_part n e = ap (λ ls. take n ls) (append_assoc sets scopes more) ∙ take_at sets (scopes ++ more) n e

  pub second_part : (n m : ℕ) → length sets ≡ n → length scopes ≡ m → take m (drop (1 + n) ((x ∷ (sets ++ scopes)) ++ more)) ≡ scopes
  second_part n m e f = ap (λ ls. take m ls) (sym (drop-drop n 1 ((x ∷ (sets ++ scopes)) ++ more))
      ∙ ap (λ ls. drop n ls) (append_assoc sets scopes more) ∙ drop_at sets (scopes ++ more) n e) ∙ take_at scopes more m f

  pub whole_length : (n m : ℕ) → length sets ≡ n → length scopes ≡ m → length (x ∷ (sets ++ scopes)) ≡ 1 + n + m
  whole_length n m e f = omega (arith, length-append sets scopes, e, f)

-- ---- lines and bytes

pub lines_long : (ls : List Line) → length ls ≤ length (lines_text ls)
lines_long [] = omega arith
lines_long (l ∷ ls) = let r = lines_long ls in omega (arith, r, length-append (line_text l) (10 ∷ lines_text ls))
