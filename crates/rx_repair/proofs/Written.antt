-- A program with bounds is written as one without: it is formed where that is, and has the same levels.
use Rattle.std.proofs.Common.{◌≡◌, ℕ, zero, suc, Bool, true, false, max, List, [], ◌∷◌, ◌++◌, map, refl, ap, ◌∙◌}
use Rattle.rx_core.specs.declared.types.Bound.{Bound}
use Rattle.rx_core.specs.declared.types.Span.{Span}
use Rattle.rx_tree.specs.declared.tree.BoundLifetime.{BoundLifetime}
use Rattle.rx_tree.specs.Lists.{Every}
use Rattle.rx_tree.specs.Plain as plain
use Rattle.rx_tree.specs.Plain.{ItemTree, ProgramTree}
use Rattle.rx_tree.proofs.NodesLaws.{every_both}
use Rattle.rx_print_spelling.specs.Formed.{Lasting, FormedBound, FormedItem, FormedProgram}
use Rattle.rx_print_spelling.specs.Levels.{deepest, item_levels, levels_of}
use Rattle.rx_repair.specs.Repaired.{is_bound, short_if, shorts_from, lifetimes_from, repaired_item, repaired}

one_lasts : (b : Bool) (s : Span) (x : BoundLifetime) → FormedBound x → Every Lasting (short_if b s x)
one_lasts true s x h = (h.0, tt)
one_lasts false s x h = tt

shorts_last : (s : Span) (bs : List Bound) (l k : ℕ) (xs : List BoundLifetime) → Every FormedBound xs → Every Lasting (shorts_from s bs l k xs)
shorts_last s bs l k [] h = tt
shorts_last s bs l k (x ∷ xs) h = every_both Lasting (short_if (is_bound bs l k) s x) (shorts_from s bs l (suc k) xs)
    (one_lasts (is_bound bs l k) s x h.0) (shorts_last s bs l (suc k) xs h.1)

lifetimes_formed : (s : Span) (bs : List Bound) (all : List BoundLifetime) (l : ℕ) (xs : List BoundLifetime) → Every FormedBound all → Every FormedBound xs
    → Every FormedBound (lifetimes_from s bs all l xs)
lifetimes_formed s bs all l [] a h = tt
lifetimes_formed s bs all l (x ∷ xs) a h = ((h.0.0, shorts_last s bs l 0 all a), lifetimes_formed s bs all (suc l) xs a h.1)

item_formed : (bs : List Bound) (i : ItemTree) → FormedItem i → FormedItem (repaired_item bs i)
item_formed bs (plain.rt_item s r) h = h
item_formed bs (plain.struct_item s x) h = h
item_formed bs (plain.enum_item s x) h = h
item_formed bs (plain.function_item s f) h = (h.0, lifetimes_formed s bs f.lifetimes 0 f.lifetimes h.1 h.1, h.2, h.3, h.4)

pub still_formed : (p : ProgramTree) (n : ℕ) (bs : List Bound) → FormedProgram p → FormedProgram (repaired p n bs)
still_formed [] n bs h = tt
still_formed (i ∷ is) zero bs h = (item_formed bs i h.0, h.1)
still_formed (i ∷ is) (suc n) bs h = (h.0, still_formed is n bs h.1)

item_levels_same : (bs : List Bound) (i : ItemTree) → item_levels (repaired_item bs i) ≡ item_levels i
item_levels_same bs (plain.rt_item s r) = refl
item_levels_same bs (plain.struct_item s x) = refl
item_levels_same bs (plain.enum_item s x) = refl
item_levels_same bs (plain.function_item s f) = refl

pub same_levels : (p : ProgramTree) (n : ℕ) (bs : List Bound) → levels_of (repaired p n bs) ≡ levels_of p
same_levels [] n bs = refl
same_levels (i ∷ is) zero bs = ap (λ m. max m (deepest (map item_levels is))) (item_levels_same bs i)
same_levels (i ∷ is) (suc n) bs = ap (λ m. max (item_levels i) m) (same_levels is n bs)
