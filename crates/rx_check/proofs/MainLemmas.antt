-- The first item `main` among those that are left is the first of all, as long as none was passed.
use Rattle.std.proofs.Common.{◌≡◌, ℕ, suc, ◌+◌, ◌<◌, ◌≤◌, true, false, if◌then◌else◌, List, [], ◌∷◌, map, drop, length, get_or, sym, ap, ◌∙◌, arith}
use Rattle.std.proofs.Math.ListN.{drop_of_length-le}
use Rattle.std.proofs.lemmas.List.{drop_more}
use Rattle.rx_tree.specs.declared.tree.Item.{Item}
use Rattle.rx_tree.specs.PlainOf.{plain-Item}
use Rattle.rx_meaning.specs.Programs.{is_main, main_in}

next_is : (l : List Item) (i : ℕ) (x : Item) → i < length l → x ≡ get_or l i x → drop i l ≡ x ∷ drop (i + 1) l
next_is l i x k e = drop_more l i x k ∙ ap (λ (y : Item). y ∷ drop (i + 1) l) (sym e)

pub main_here : (l : List Item) (i : ℕ) (x : Item) → i < length l → x ≡ get_or l i x → is_main (plain-Item x) ≡ true → i ≡ main_in (map plain-Item (drop i l)) i
main_here l i x k e h = sym (ap (λ m. main_in (map plain-Item m) i) (next_is l i x k e) ∙ ap (λ b. if b then i else main_in (map plain-Item (drop (i + 1) l)) (suc i)) h)

pub main_next : (l : List Item) (i : ℕ) (x : Item) → i < length l → x ≡ get_or l i x → is_main (plain-Item x) ≡ false → main_in (map plain-Item (drop (i + 1) l)) (i + 1) ≡ main_in (map plain-Item (drop i l)) i
main_next l i x k e h =
    let n : i + 1 ≡ suc i = omega arith in
    ap (λ j. main_in (map plain-Item (drop (i + 1) l)) j) n
    ∙ sym (ap (λ m. main_in (map plain-Item m) i) (next_is l i x k e) ∙ ap (λ b. if b then i else main_in (map plain-Item (drop (i + 1) l)) (suc i)) h)

pub main_end : (l : List Item) (i : ℕ) → length l ≤ i → i ≡ main_in (map plain-Item (drop i l)) i
main_end l i k = ap (λ m. main_in (map plain-Item m) i) (sym (drop_of_length-le l k))
