-- Edits of a text in order, those in front of a place and those behind one.
use Rattle.std.proofs.Common.{◌≡◌, ℕ, ◌≤◌, Bool, true, false, ◌&&◌, List, [], ◌∷◌, map, refl, sym, ap, subst, ◌∙◌, cond, arith}
use Rattle.std.specs.Prelude.{nat_le}
use Rattle.std.proofs.lemmas.Bool.{and_parts, leb-true}
use Rattle.std.proofs.lemmas.Bool.Decides.{nat_tests}
use Rattle.rx_core.specs.declared.types.Edit as text
use Rattle.rx_splice.specs.Edits.{InOrder, OnBoundaries}
use Rattle.rx_splice_laws.specs.Edits.{Edit, written}
use Rattle.rx_splice_laws.specs.SplicedText.{edits_before, edits_behind}
use Rattle.rx_splice_edits.specs.Cutting.{within}
use Rattle.rx_splice_edits.proofs.PartLemmas.{all_within}

-- ---- they are those of the definition

one_more : (b : Bool) (e : Edit) (us : List text.Edit) (vs : List Edit) → us ≡ map written vs → cond b (written e ∷ us) us ≡ map written (cond b (e ∷ vs) vs)
one_more true e us vs h = ap (λ l. written e ∷ l) h
one_more false e us vs h = h

pub front_within : (at : ℕ) (es : List Edit) → within 0 at (map written es) ≡ map written (edits_before at es)
front_within at [] = refl
front_within at (e ∷ es) =
    let z : nat_le 0 e.from ≡ true = grind (arith, nat_tests) in
    ap (λ b. cond (b && nat_le e.to at) (written e ∷ within 0 at (map written es)) (within 0 at (map written es))) z
    ∙ one_more (nat_le e.to at) e (within 0 at (map written es)) (edits_before at es) (front_within at es)

and_yes : (b : Bool) → (b && true) ≡ b
and_yes true = refl
and_yes false = refl

ends_low : (at to : ℕ) (es : List text.Edit) → InOrder at es to → at ≤ to
ends_low at to [] o = o
ends_low at to (e ∷ es) o = omega (arith, o.0, o.1, ends_low e.span.end to es o.2)

pub back_within : (low at past : ℕ) (es : List Edit) → InOrder low (map written es) past → within at past (map written es) ≡ map written (edits_behind at es)
back_within low at past [] o = refl
back_within low at past (e ∷ es) o =
    let l : e.to ≤ past = ends_low e.to past (map written es) o.2 in
    let z : nat_le e.to past ≡ true = grind (arith, nat_tests) in
    ap (λ b. cond (nat_le at e.from && b) (written e ∷ within at past (map written es)) (within at past (map written es))) z
    ∙ ap (λ b. cond b (written e ∷ within at past (map written es)) (within at past (map written es))) (and_yes (nat_le at e.from))
    ∙ one_more (nat_le at e.from) e (within at past (map written es)) (edits_behind at es) (back_within e.to at past es o.2)

-- ---- they are in order

earlier : (low at to : ℕ) (es : List text.Edit) → low ≤ at → InOrder at es to → InOrder low es to
earlier low at to [] l o = omega (arith, l, o)
earlier low at to (e ∷ es) l o = (omega (arith, l, o.0), o.1, o.2)

pub front_order : (low at past : ℕ) (es : List text.Edit) → low ≤ at → InOrder low es past → InOrder low (within 0 at es) at
front_order low at past [] l o = l
front_order low at past (e ∷ es) l o =
    elim (nat_le 0 e.span.start && nat_le e.span.end at) as (λ v. (nat_le 0 e.span.start && nat_le e.span.end at) ≡ v → InOrder low (cond v (e ∷ within 0 at es) (within 0 at es)) at) [
      | true ↦ λ h. (o.0, o.1, front_order e.span.end at past es (leb-true e.span.end at (and_parts (nat_le 0 e.span.start) (nat_le e.span.end at) h).1) o.2)
      | false ↦ λ h. front_order low at past es l (earlier low e.span.end past es (omega (arith, o.0, o.1)) o.2)
    ] refl

pub back_order : (low at past : ℕ) (es : List text.Edit) → at ≤ past → InOrder low es past → InOrder at (within at past es) past
back_order low at past [] l o = l
back_order low at past (e ∷ es) l o =
    elim (nat_le at e.span.start && nat_le e.span.end past) as (λ v. (nat_le at e.span.start && nat_le e.span.end past) ≡ v → InOrder at (cond v (e ∷ within at past es) (within at past es)) past) [
      | true ↦ λ h.
          let m = leb-true at e.span.start (and_parts (nat_le at e.span.start) (nat_le e.span.end past) h).0 in
          (m, o.1, subst (λ x. InOrder e.span.end x past) (sym (all_within at e.span.end past es (omega (arith, m, o.1)) o.2)) o.2)
      | false ↦ λ h. back_order e.span.end at past es l o.2
    ] refl

-- ---- and stand where characters begin

pub within_cut : (bytes : List ℕ) (from to : ℕ) (es : List text.Edit) → OnBoundaries bytes es → OnBoundaries bytes (within from to es)
within_cut bytes from to [] b = tt
within_cut bytes from to (e ∷ es) b =
    elim (nat_le from e.span.start && nat_le e.span.end to) as (λ v. OnBoundaries bytes (cond v (e ∷ within from to es) (within from to es))) [
      | true ↦ (b.0, b.1, within_cut bytes from to es b.2)
      | false ↦ within_cut bytes from to es b.2
    ]
