-- The loop over the edits of a part of a text: what is written so far, and the rest of the part with the edits that are left, are the whole.
use Rattle.std.proofs.Common.{◌≡◌, ℕ, suc, ◌+◌, ◌-◌, ◌≤◌, ◌<◌, Bool, true, false, ◌&&◌, List, [], ◌∷◌, ◌++◌, length, take, drop, drop-cons, get_or, refl, sym, ap, subst, ◌∙◌, cond, arith, append_assoc, append-nil}
use Rattle.std.specs.Prelude.{IsCharBoundary, nat_le}
use Rattle.std.specs.Bool.{Decides}
use Rattle.std.proofs.lemmas.Bool.{and_parts, and_from, leb-true, false≢true}
use Rattle.std.proofs.lemmas.Bool.Decides.{nat_tests}
use Rattle.std.proofs.lemmas.List.{take-take, drop-take, drop-drop, drop_all}
use Rattle.rx_core.specs.declared.types.Edit.{Edit}
use Rattle.rx_splice.specs.Edits.{spliced, InOrder, OnBoundaries}
use Rattle.rx_splice_laws.specs.SplicedRun.{between}
use Rattle.rx_splice_edits.specs.Cutting.{within, AreWithin, IsCut, stands, done_at, done_of}

-- what holds before each edit
pub record Rest (text : List ℕ) (from to : ℕ) (all : List Edit) (before out : List ℕ) (at i : ℕ) : Type 0 where
  pub low : from ≤ at
  pub in_order : InOrder at (within from to (drop i all)) to
  pub on_boundaries : OnBoundaries text (within from to (drop i all))
  pub at_cut : IsCharBoundary text at
  pub so_far : out ++ spliced at (between at to text) (within from to (drop i all)) ≡ before ++ spliced from (between from to text) (within from to all)

pub begins : (text : List ℕ) (from to : ℕ) (all : List Edit) (before : List ℕ) → AreWithin text from to (within from to all) → Rest text from to all before before from 0
begins text from to all before a = record { low = omega arith; in_order = a.in_order; on_boundaries = a.on_boundaries; at_cut = a.begins; so_far = refl }

left : (all : List Edit) (i : ℕ) (e : Edit) → i < length all → e ≡ get_or all i e → drop i all ≡ e ∷ drop (i + 1) all
left all i e l is =
    let n : suc i ≡ i + 1 = omega arith in
    drop-cons all i e l ∙ ap (λ x. x ∷ drop (suc i) all) (sym is) ∙ ap (λ k. e ∷ drop k all) n

-- an edit that stands in the part

inside : (from to : ℕ) (e : Edit) (es : List Edit) → from ≤ e.span.start → e.span.end ≤ to → within from to (e ∷ es) ≡ e ∷ within from to es
inside from to e es l m =
    let a : nat_le from e.span.start ≡ true = grind (arith, nat_tests) in
    let b : nat_le e.span.end to ≡ true = grind (arith, nat_tests) in
    ap (λ t. cond t (e ∷ within from to es) (within from to es)) (and_from (nat_le from e.span.start) (nat_le e.span.end to) a b)

here : (from to : ℕ) (all : List Edit) (i : ℕ) (e : Edit) → i < length all → e ≡ get_or all i e → from ≤ e.span.start → e.span.end ≤ to
    → within from to (drop i all) ≡ e ∷ within from to (drop (i + 1) all)
here from to all i e w is l m = ap (within from to) (left all i e w is) ∙ inside from to e (drop (i + 1) all) l m

-- what it needs
pub record Next (text : List ℕ) (at to : ℕ) (e : Edit) (es : List Edit) : Type 0 where
  pub low : at ≤ e.span.start
  pub up : e.span.start ≤ e.span.end
  pub in_order : InOrder e.span.end es to
  pub starts : IsCharBoundary text e.span.start
  pub ends : IsCharBoundary text e.span.end
  pub on_boundaries : OnBoundaries text es

pub next : (text : List ℕ) (from to : ℕ) (all : List Edit) (before out : List ℕ) (at i : ℕ) (e : Edit) → i < length all → e ≡ get_or all i e
    → from ≤ e.span.start → e.span.end ≤ to → Rest text from to all before out at i → Next text at to e (within from to (drop (i + 1) all))
next text from to all before out at i e w is l m s =
    let h = here from to all i e w is l m in
    let o = subst (λ es. InOrder at es to) h s.in_order in
    let b = subst (λ es. OnBoundaries text es) h s.on_boundaries in
    record { low = o.0; up = o.1; in_order = o.2; starts = b.0; ends = b.1; on_boundaries = b.2 }

front_of : (text : List ℕ) (at to start : ℕ) → at ≤ start → start ≤ to → take (start - at) (between at to text) ≡ take (start - at) (drop at text)
front_of text at to start l m = take-take (start - at) (to - at) (drop at text) (omega (arith, l, m))

rest_of : (text : List ℕ) (at to end : ℕ) → at ≤ end → end ≤ to → drop (end - at) (between at to text) ≡ between end to text
rest_of text at to end l m =
    let n : to - at ≡ (end - at) + (to - end) = omega (arith, l, m) in
    let k : at + (end - at) ≡ end = omega (arith, l) in
    ap (λ j. drop (end - at) (take j (drop at text))) n
    ∙ drop-take (end - at) (to - end) (drop at text)
    ∙ ap (take (to - end)) (drop-drop (end - at) at text ∙ ap (λ j. drop j text) k)

pub goes_on : (text : List ℕ) (from to : ℕ) (all : List Edit) (before out : List ℕ) (at i : ℕ) (e : Edit) → i < length all → e ≡ get_or all i e
    → from ≤ e.span.start → e.span.end ≤ to → Rest text from to all before out at i
    → Rest text from to all before ((out ++ take (e.span.start - at) (drop at text)) ++ e.text) e.span.end (i + 1)
goes_on text from to all before out at i e w is l m s =
    let n = next text from to all before out at i e w is l m s in
    let es = within from to (drop (i + 1) all) in
    let front = take (e.span.start - at) (drop at text) in
    let end = e.span.end in
    record {
      low = omega (arith, s.low, n.low, n.up);
      in_order = n.in_order;
      on_boundaries = n.on_boundaries;
      at_cut = n.ends;
      so_far =
          append_assoc (out ++ front) e.text (spliced end (between end to text) es)
          ∙ append_assoc out front (e.text ++ spliced end (between end to text) es)
          ∙ ap (λ x. out ++ (x ++ (e.text ++ spliced end (between end to text) es))) (sym (front_of text at to e.span.start n.low (omega (arith, n.up, m))))
          ∙ ap (λ x. out ++ (take (e.span.start - at) (between at to text) ++ (e.text ++ spliced end x es))) (sym (rest_of text at to end (omega (arith, n.low, n.up)) m))
          ∙ ap (λ x. out ++ spliced at (between at to text) x) (sym (here from to all i e w is l m))
          ∙ s.so_far;
    }

-- one that does not

outside : (from to : ℕ) (e : Edit) (es : List Edit) → ((from ≤ e.span.start) → (e.span.end ≤ to) → ⊥) → within from to (e ∷ es) ≡ within from to es
outside from to e es n =
    elim (nat_le from e.span.start && nat_le e.span.end to) as (λ v. (nat_le from e.span.start && nat_le e.span.end to) ≡ v → cond v (e ∷ within from to es) (within from to es) ≡ within from to es) [
      | true ↦ λ h.
          let p = and_parts (nat_le from e.span.start) (nat_le e.span.end to) h in
          absurd (n (leb-true from e.span.start p.0) (leb-true e.span.end to p.1))
      | false ↦ λ h. refl
    ] refl

pub skips : (text : List ℕ) (from to : ℕ) (all : List Edit) (before out : List ℕ) (at i : ℕ) (e : Edit) → i < length all → e ≡ get_or all i e
    → ((from ≤ e.span.start) → (e.span.end ≤ to) → ⊥) → Rest text from to all before out at i → Rest text from to all before out at (i + 1)
skips text from to all before out at i e w is n s =
    let h = ap (within from to) (left all i e w is) ∙ outside from to e (drop (i + 1) all) n in
    record {
      low = s.low;
      in_order = subst (λ es. InOrder at es to) h s.in_order;
      on_boundaries = subst (λ es. OnBoundaries text es) h s.on_boundaries;
      at_cut = s.at_cut;
      so_far = ap (λ es. out ++ spliced at (between at to text) es) (sym h) ∙ s.so_far;
    }

-- one or the other

pub next_cut : (text : List ℕ) (from to : ℕ) (all : List Edit) (before out : List ℕ) (at i : ℕ) (e : Edit) → i < length all → e ≡ get_or all i e
    → Rest text from to all before out at i → stands from to e ≡ true → IsCut text at e.span
next_cut text from to all before out at i e w is s y =
    let p = and_parts (nat_le from e.span.start) (nat_le e.span.end to) y in
    let n = next text from to all before out at i e w is (leb-true from e.span.start p.0) (leb-true e.span.end to p.1) s in
    record { low = n.low; up = n.up; starts = n.starts; ends = n.ends }

not_both : (a b : ℕ) (c d : ℕ) → (nat_le a b && nat_le c d) ≡ false → a ≤ b → c ≤ d → ⊥
not_both a b c d n l m =
    let x : nat_le a b ≡ true = grind (arith, nat_tests) in
    let y : nat_le c d ≡ true = grind (arith, nat_tests) in
    false≢true (sym n ∙ and_from (nat_le a b) (nat_le c d) x y)

pub step : (text : List ℕ) (from to : ℕ) (all : List Edit) (before out more : List ℕ) (at place i : ℕ) (e : Edit) → i < length all → e ≡ get_or all i e
    → place ≡ done_at (stands from to e) at e → more ≡ out ++ done_of (stands from to e) text at e
    → Rest text from to all before out at i → Rest text from to all before more place (i + 1)
step text from to all before out more at place i e w is p q s =
    elim (stands from to e) as (λ b. stands from to e ≡ b → place ≡ done_at b at e → more ≡ out ++ done_of b text at e → Rest text from to all before more place (i + 1)) [
      | true ↦ λ h f g.
          let m = and_parts (nat_le from e.span.start) (nat_le e.span.end to) h in
          let front = take (e.span.start - at) (drop at text) in
          subst (λ x. Rest text from to all before x place (i + 1)) (append_assoc out front e.text ∙ sym g)
          (subst (λ n. Rest text from to all before ((out ++ front) ++ e.text) n (i + 1)) (sym f)
          (goes_on text from to all before out at i e w is (leb-true from e.span.start m.0) (leb-true e.span.end to m.1) s))
      | false ↦ λ h f g.
          subst (λ x. Rest text from to all before x place (i + 1)) (sym (append-nil out) ∙ sym g)
          (subst (λ n. Rest text from to all before out n (i + 1)) (sym f)
          (skips text from to all before out at i e w is (not_both from e.span.start e.span.end to h) s))
    ] refl p q

-- no edit is left

pub last_up : (text : List ℕ) (from to : ℕ) (all : List Edit) (before out : List ℕ) (at i : ℕ) → length all ≤ i → Rest text from to all before out at i → at ≤ to
last_up text from to all before out at i l s = subst (λ es. InOrder at es to) (ap (within from to) (drop_all i all l)) s.in_order

pub done : (text : List ℕ) (from to : ℕ) (all : List Edit) (before out : List ℕ) (at i : ℕ) → length all ≤ i → Rest text from to all before out at i
    → out ++ between at to text ≡ before ++ spliced from (between from to text) (within from to all)
done text from to all before out at i l s =
    ap (λ es. out ++ spliced at (between at to text) es) (sym (ap (within from to) (drop_all i all l))) ∙ s.so_far

-- ---- edits in order in a part all stand in it

pub all_within : (from at to : ℕ) (es : List Edit) → from ≤ at → InOrder at es to → within from to es ≡ es
all_within from at to [] l o = refl
all_within from at to (e ∷ es) l o =
    inside from to e es (omega (arith, l, o.0)) (ends_low e.span.end to es o.2) ∙ ap (λ x. e ∷ x) (all_within from e.span.end to es (omega (arith, l, o.0, o.1)) o.2)
  where
    ends_low : (at to : ℕ) (es : List Edit) → InOrder at es to → at ≤ to
    ends_low at to [] o = o
    ends_low at to (e ∷ es) o = let h = ends_low e.span.end to es o.2 in omega (arith, o.0, o.1, h)

-- ---- whether edits are in order, and the text may be cut where they stand: those that are left are, where all are

abbrev pub Orderly : List ℕ → ℕ → ℕ → List Edit → Type 0
Orderly text at to es = InOrder at es to × OnBoundaries text es

pub record Same (text : List ℕ) (from to : ℕ) (all : List Edit) (at i : ℕ) : Type 0 where
  pub there : Orderly text at to (drop i all) → Orderly text from to all
  pub back : Orderly text from to all → Orderly text at to (drop i all)

pub same_all : (text : List ℕ) (from to : ℕ) (all : List Edit) → Same text from to all from 0
same_all text from to all = record { there = λ h. h; back = λ h. h }

first_cut : (text : List ℕ) (at to : ℕ) (e : Edit) (es : List Edit) → Orderly text at to (e ∷ es) → IsCut text at e.span
first_cut text at to e es h = record { low = h.0.0; up = h.0.1; starts = h.1.0; ends = h.1.1 }

pub same_behind : (text : List ℕ) (from to : ℕ) (all : List Edit) (at i : ℕ) (e : Edit) → i < length all → e ≡ get_or all i e
    → IsCut text at e.span → Same text from to all at i → Same text from to all e.span.end (i + 1)
same_behind text from to all at i e w is c s =
    let d = left all i e w is in
    record {
      there = λ h. s.there (subst (Orderly text at to) (sym d) ((c.low, c.up, h.0), (c.starts, c.ends, h.1)));
      back = λ h. let o = subst (Orderly text at to) d (s.back h) in (o.0.2, o.1.2);
    }

pub cut_here : (text : List ℕ) (from to : ℕ) (all : List Edit) (at i : ℕ) (e : Edit) → i < length all → e ≡ get_or all i e
    → Same text from to all at i → AreWithin text from to all → IsCut text at e.span
cut_here text from to all at i e w is s a =
    first_cut text at to e (drop (i + 1) all) (subst (Orderly text at to) (left all i e w is) (s.back (a.in_order, a.on_boundaries)))

pub all_cut : (text : List ℕ) (from to : ℕ) (all : List Edit) (at i : ℕ) (b : Bool) → length all ≤ i → Same text from to all at i
    → Decides b ((at ≤ to) × IsCharBoundary text from × IsCharBoundary text to) → Decides b (AreWithin text from to all)
all_cut text from to all at i b w s d =
    let n = drop_all i all w in (
      λ y. let o = d.0 y in
          let h = s.there (subst (Orderly text at to) (sym n) (o.0, tt)) in
          record { in_order = h.0; on_boundaries = h.1; begins = o.1; ends = o.2 },
      λ a. d.1 ((subst (Orderly text at to) n (s.back (a.in_order, a.on_boundaries))).0, a.begins, a.ends),
    )
