-- Where a list of lifetimes ends, one lifetime after another.
use Rattle.std.proofs.Common.{◌≡◌, ℕ, ◌≤◌, List, [], ◌∷◌, length, drop, refl, sym, ap, ◌∙◌}
use Rattle.std.proofs.Math.ListN.{drop_of_length-le}
use Rattle.rx_tree.specs.declared.tree.Ident.{Ident}
use Rattle.rx_tree.specs.declared.tree.BoundLifetime.{BoundLifetime}
use Rattle.rx_compact_text.specs.CompactedText.{last_end, list_end}

abbrev pub end_of_bounds : ℕ → List Ident → ℕ
end_of_bounds n [] = n
end_of_bounds n (b ∷ bs) = end_of_bounds b.span.end bs

pub last_end_is : (l : BoundLifetime) (bs : List Ident) → end_of_bounds l.name.span.end bs ≡ last_end l bs
last_end_is l [] = refl
last_end_is l (b ∷ []) = refl
last_end_is l (b ∷ c ∷ bs) = last_end_is l (c ∷ bs)

abbrev pub end_of_list : ℕ → List BoundLifetime → ℕ
end_of_list n [] = n
end_of_list n (l ∷ ls) = end_of_list (last_end l l.bounds) ls

pub list_end_is : (l : BoundLifetime) (ls : List BoundLifetime) → end_of_list (last_end l l.bounds) ls ≡ list_end l ls
list_end_is l [] = refl
list_end_is l (k ∷ ks) = list_end_is k ks

-- ---- where none are left

pub bounds_end : (l : BoundLifetime) (n i : ℕ) (bs : List Ident) → length bs ≤ i → end_of_bounds n (drop i bs) ≡ end_of_bounds l.name.span.end l.bounds → n ≡ last_end l l.bounds
bounds_end l n i bs h inv = sym (ap (end_of_bounds n) (drop_of_length-le bs h)) ∙ inv ∙ last_end_is l l.bounds

pub lifetimes_end : (l : BoundLifetime) (ls : List BoundLifetime) (n i : ℕ) → length ls ≤ i → end_of_list n (drop i ls) ≡ list_end l ls → n ≡ list_end l ls
lifetimes_end l ls n i h inv = sym (ap (end_of_list n) (drop_of_length-le ls h)) ∙ inv

pub ruleset ending = (last_end_is, list_end_is)
