-- One step of each loop over lifetimes, and an item in place of another.
use Rattle.std.proofs.Common.{◌≡◌, ℕ, zero, suc, ◌+◌, ◌<◌, ◌≤◌, Bool, true, false, ◌||◌, ◌&&◌, List, [], ◌∷◌, ◌++◌, map, length, get_or, drop, drop-cons, refl, sym, ap, ◌∙◌, subst, arith, append_assoc, add-one}
use Rattle.std.specs.Prelude.{insert, remove}
use Rattle.rx_core.specs.declared.types.Bound.{Bound}
use Rattle.rx_core.specs.declared.types.Span.{Span}
use Rattle.rx_tree.specs.declared.tree.Ident.{Ident}
use Rattle.rx_tree.specs.declared.tree.BoundLifetime.{BoundLifetime}
use Rattle.rx_tree.specs.declared.tree.Item.{Item}
use Rattle.rx_tree.specs.PlainOf.{plain-Item}
use Rattle.rx_repair.specs.Repaired.{is_bound, short_if, shorts_from, repaired_lifetime, lifetimes_from, repaired_item, repaired}

pub next_short : (s : Span) (bs : List Bound) (l k : ℕ) (all : List BoundLifetime) (x : BoundLifetime) (names more : List Ident)
    → k < length all → x ≡ get_or all k x → more ≡ names ++ short_if (is_bound bs l k) s x
    → more ++ shorts_from s bs l (k + 1) (drop (k + 1) all) ≡ names ++ shorts_from s bs l k (drop k all)
next_short s bs l k all x names more h e f =
    rw (add-one k, drop-cons all k x h, ← e, f)
    (append_assoc names (short_if (is_bound bs l k) s x) (shorts_from s bs l (suc k) (drop (suc k) all)))

pub next_lifetime : (s : Span) (bs : List Bound) (l : ℕ) (all : List BoundLifetime) (x : BoundLifetime) (done more : List BoundLifetime)
    → l < length all → x ≡ get_or all l x → more ≡ done ++ repaired_lifetime s bs all l x ∷ []
    → more ++ lifetimes_from s bs all (l + 1) (drop (l + 1) all) ≡ done ++ lifetimes_from s bs all l (drop l all)
next_lifetime s bs l all x done more h e f =
    rw (add-one l, drop-cons all l x h, ← e, f)
    (append_assoc done (repaired_lifetime s bs all l x ∷ []) (lifetimes_from s bs all (suc l) (drop (suc l) all)))

-- an item that is put where another was
pub put : (is : List Item) (n : ℕ) (old new : Item) (bs : List Bound) → n < length is → old ≡ get_or is n old → plain-Item new ≡ repaired_item bs (plain-Item old)
    → map plain-Item (insert (remove is n) n new) ≡ repaired (map plain-Item is) n bs
put [] n old new bs h e f = absurd (omega (arith, h))
put (i ∷ is) zero old new bs h e f = ap (λ r. r ∷ map plain-Item is) (f ∙ ap (λ (x : Item). repaired_item bs (plain-Item x)) e)
put (i ∷ is) (suc n) old new bs h e f = ap (λ r. plain-Item i ∷ r) (put is n old new bs (omega arith) e f)

pub kept : (is : List Item) (n : ℕ) (bs : List Bound) → length is ≤ n → map plain-Item is ≡ repaired (map plain-Item is) n bs
kept [] n bs h = refl
kept (i ∷ is) zero bs h = absurd (omega arith)
kept (i ∷ is) (suc n) bs h = ap (λ r. plain-Item i ∷ r) (kept is n bs (omega arith))
