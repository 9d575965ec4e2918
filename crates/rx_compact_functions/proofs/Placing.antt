-- Items one after another, of which the one of a number is changed.
use Rattle.std.proofs.Common.{◌≡◌, ℕ, zero, suc, ◌+◌, ◌<◌, ◌≤◌, Bool, true, false, ◌==◌, List, [], ◌∷◌, ◌++◌, map, length, get_or, drop, refl, sym, ap, ap₂, ◌∙◌, arith, append-nil}
use Rattle.std.specs.Prelude.{if◌then◌else◌}
use Rattle.std.proofs.Math.ListN.{drop_of_length-le}
use Rattle.std.proofs.lemmas.Bool.{eq-eqb, ne_eqb}
use Rattle.rx_tree.specs.declared.tree.Item.{Item}
use Rattle.rx_tree.specs.Plain.{ItemTree, ProgramTree}
use Rattle.rx_tree.specs.PlainOf.{plain-Item}
use Rattle.rx_compact.specs.Compacted.{compacted_item, compacted}

abbrev pub item_by : (ℕ → ℕ → Bool) → Bool → Bool → ItemTree → ItemTree
item_by o s b x = if b then compacted_item o s x else x

-- the items from number k on
abbrev pub items_from : (ℕ → ℕ → Bool) → Bool → ℕ → ℕ → ProgramTree → ProgramTree
items_from o s n k [] = []
items_from o s n k (x ∷ xs) = item_by o s (k == n) x ∷ items_from o s n (suc k) xs

none_more : (o : ℕ → ℕ → Bool) (s : Bool) (n k : ℕ) (p : ProgramTree) → n < k → items_from o s n k p ≡ p
none_more o s n k [] h = refl
none_more o s n k (x ∷ xs) h = ap₂ (λ y ys. y ∷ ys) (ap (λ b. item_by o s b x) (ne_eqb k n (λ e. omega (arith, e, h)))) (none_more o s n (suc k) xs (omega (arith, h)))

placed : (o : ℕ → ℕ → Bool) (s : Bool) (n k m : ℕ) (p : ProgramTree) → m ≡ k + n → compacted o s p n ≡ items_from o s m k p
placed o s n k m [] e = refl
placed o s zero k m (x ∷ xs) e = ap₂ (λ y ys. y ∷ ys) (ap (λ b. item_by o s b x) (sym (eq-eqb k m (omega (arith, e))))) (sym (none_more o s m (suc k) xs (omega (arith, e))))
placed o s (suc n) k m (x ∷ xs) e = ap₂ (λ y ys. y ∷ ys) (ap (λ b. item_by o s b x) (sym (ne_eqb k m (λ f. omega (arith, e, f))))) (placed o s n (suc k) m xs (omega (arith, e)))

pub from_first : (o : ℕ → ℕ → Bool) (s : Bool) (n : ℕ) (p : ProgramTree) → items_from o s n 0 p ≡ compacted o s p n
from_first o s n p = sym (placed o s n 0 n p (omega arith))

pub items_end : (o : ℕ → ℕ → Bool) (s : Bool) (n k : ℕ) (is : List Item) (all : ProgramTree) → length is ≤ k
    → all ++ items_from o s n k (map plain-Item (drop k is)) ≡ items_from o s n 0 (map plain-Item is) → all ≡ compacted o s (map plain-Item is) n
items_end o s n k is all h inv =
    sym (append-nil all) ∙ sym (ap (λ ys. all ++ items_from o s n k (map plain-Item ys)) (drop_of_length-le is h)) ∙ inv ∙ from_first o s n (map plain-Item is)
