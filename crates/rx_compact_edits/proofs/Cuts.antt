-- Whether edits are in order, and the text may be cut where they stand: those that are left are so, where all are.
use Rattle.std.proofs.Common.{◌≡◌, ℕ, zero, ◌+◌, ◌<◌, ◌≤◌, Bool, true, List, [], ◌∷◌, length, get_or, drop, sym, ap, subst, ◌∙◌, arith}
use Rattle.std.specs.Bool.{Decides}
use Rattle.std.proofs.lemmas.List.{drop_all}
use Rattle.rx_core.specs.declared.types.Edit.{Edit}
use Rattle.rx_hoist_made.proofs.Dropped.{drop_is}
use Rattle.rx_splice.specs.Edits.{InOrder, OnBoundaries, AreEdits}
use Rattle.rx_compact_edits.specs.Writing.{IsCut}

abbrev Orderly : List ℕ → ℕ → List Edit → Type 0
Orderly text at es = InOrder at es (length text) × OnBoundaries text es

-- those from number i on, from a place on
pub record Left (text : List ℕ) (all : List Edit) (at i : ℕ) : Type 0 where
  forth : Orderly text at (drop i all) → Orderly text 0 all
  back : Orderly text 0 all → Orderly text at (drop i all)

pub all_left : (text : List ℕ) (all : List Edit) → Left text all 0 0
all_left text all = record { forth = λ h. h; back = λ h. h }

first_cut : (text : List ℕ) (at : ℕ) (e : Edit) (es : List Edit) → Orderly text at (e ∷ es) → IsCut text at e.span
first_cut text at e es h = record { low = h.0.0; up = h.0.1; starts = h.1.0; ends = h.1.1 }

pub cut_here : (text : List ℕ) (all : List Edit) (at i : ℕ) (e : Edit) → i < length all → e ≡ get_or all i e → Left text all at i → AreEdits text all → IsCut text at e.span
cut_here text all at i e w is s a = first_cut text at e (drop (i + 1) all) (subst (Orderly text at) (drop_is all i e w is) (s.back (a.in_order, a.on_boundaries)))

pub left_behind : (text : List ℕ) (all : List Edit) (at i : ℕ) (e : Edit) → i < length all → e ≡ get_or all i e → IsCut text at e.span → Left text all at i → Left text all e.span.end (i + 1)
left_behind text all at i e w is c s = record {
  forth = λ h. s.forth (subst (Orderly text at) (sym (drop_is all i e w is)) ((c.low, c.up, h.0), (c.starts, c.ends, h.1)));
  back = λ h. let r = subst (Orderly text at) (drop_is all i e w is) (s.back h) in (r.0.2, r.1.2);
}

pub all_cut : (text : List ℕ) (all : List Edit) (at i : ℕ) (b : Bool) → length all ≤ i → Left text all at i → Decides b (at ≤ length text) → Decides b (AreEdits text all)
all_cut text all at i b past s d = (
  λ e. let r = s.forth (subst (Orderly text at) (sym (drop_all i all past)) (d.0 e, tt)) in record { in_order = r.0; on_boundaries = r.1 },
  λ a. d.1 ((subst (Orderly text at) (drop_all i all past) (s.back (a.in_order, a.on_boundaries))).0),
)
