-- What the readers of the tables answer, told by the walks that come to a point.
use Rattle.std.proofs.Common.{◌≡◌, ◌↔◌, ◌⊎◌, inl, inr, ℕ, ◌+◌, ◌<◌, ◌≤◌, Bool, true, false, not, MatchBool, List, [], ◌∷◌, ◌++◌, length, refl, ap, sym, ◌∙◌, subst, arith, true≢false}
use Rattle.std.proofs.lemmas.Bool.{cases_lt}
use Rattle.rx_typed.specs.Tree.{Function, own}
use Rattle.rx_lower_walks.specs.Actions.{Action}
use Rattle.rx_lower_walks.specs.Walks.{IsWalk}
use Rattle.rx_lower_walks.specs.Pieces.{graph}
use Rattle.rx_lower_walks.proofs.Sites.{reached}
use Rattle.rx_typed_declarations.specs.Sizes.{Sized}
use Rattle.rx_graph.specs.Tables.{at}
use Rattle.rx_facts_tables.specs.Along.{Arrives}
use Rattle.rx_facts_tables.proofs.Ways.{comes_to}
use Rattle.rx_facts_tables.specs.Places.{Frame, place_at, spot_parts, is_part, all_parts}
use Rattle.rx_facts_tables.specs.Layouts.{plain-Frame, IsLayout}
use Rattle.rx_facts_tables.specs.Setting.{is_set}
use Rattle.rx_facts_tables.specs.Wholes.{stands}
use Rattle.rx_facts_tables.specs.Tables.{SomeAt, NoneAt}
use Rattle.rx_facts_tables.proofs.Exact.{may, part_below, is_true, is_false}
use Rattle.rx_facts_tables.proofs.Numbers.{in_between, is_between}
use Rattle.rx_exits_plan.specs.Points.{Point, enters, number}
use Rattle.rx_exits_plan.specs.Marked.{marked}
use Rattle.rx_exits_plan.specs.Asked.{Asked, IsParam, IsLocal}
use Rattle.rx_exits_plan.specs.Unreachable.{SomeComes}
use Rattle.rx_exits.specs.declared.marks.MarkSite.{MarkSite}
use Rattle.rx_exits.specs.declared.run_points.RunPoints.{RunPoints}
use Rattle.rx_exits.specs.Marks.{mark_at, marks_from}
use Rattle.rx_exits.specs.Facts.{IsMarked, IsUnmarked, SomeThere, NoneThere}
use Rattle.rx_exits.specs.Points.{MayBeSet, MayBeUnset, MayStand, MayBeWhole, IsMixed, IsPoints, IsReady, MixedPart, marked_sites}
use Rattle.rx_exits.proofs.Coming.{told, at_mark}
use Rattle.rx_exits.proofs.Telling.{never_stands}

abbrev function_of : Asked → Function
function_of A = marked A.run A.home.around.loops [] A.function

-- ---- whether some walk comes to a point

pub comes : (A : Asked) (p : RunPoints) (q : Point) (n : ℕ) (r : Bool) → IsPoints A p → n ≡ number q → MatchBool r (IsMarked p.marks n) (IsUnmarked p.marks n)
    → (r ≡ true) ↔ SomeComes A q
comes A p q n r is e h =
    let t = told (function_of A) (number q) p.marks (λ i. Unit {0}) (λ i. ⊥) (λ w. Unit {0}) r is.tables.marks
    (subst (λ k. MatchBool r (IsMarked p.marks k) (IsUnmarked p.marks k)) e h) (λ i within u. way i within) (λ i within none w. none) in
    ((λ x. let w = t.0 x in (w.0, w.1)), (λ w. t.1 (w.0, w.1, tt)))
  where
    way : (i : ℕ) → i < length (marked_sites A []) → (w : List Action) × Arrives (marked_sites A []) 0 w i × Unit {0}
    way i within = let w = comes_to (marked_sites A []) i (reached (function_of A) i within) in (w.0, w.1, tt)

-- ---- one fact

one_number : (x n : ℕ) → x ≤ n → n < x + 1 → n ≡ x
one_number x n h k = omega (arith, h, k)

pub one_fact : (f : Function) (T : List (List ℕ)) (ms : List MarkSite) (n x : ℕ) (R : List Action → Type 0) (r : Bool) → ms ≡ marks_from 0 (graph f)
    → MatchBool r (SomeThere T ms n x 1) (NoneThere T ms n x 1)
    → ((i : ℕ) → i < length (graph f) → (at T i x ≡ true) ↔ ((w : List Action) × Arrives (graph f) 0 w i × R w))
    → (r ≡ true) ↔ ((w : List Action) × IsWalk f (w ++ mark_at n ∷ []) × R w)
one_fact f T ms n x R r e h exact = told f n ms (λ i. SomeAt T i x 1) (λ i. NoneAt T i x 1) R r e h
    (λ i within some. (exact i within).0 (ap (λ k. at T i k) (sym (one_number x some.0 some.1 some.2)) ∙ some.3))
    (λ i within none w. true≢false (sym ((exact i within).1 w) ∙ none x (omega arith) (omega arith)))

-- the other way
pub fact_there : (f : Function) (T : List (List ℕ)) (ms : List MarkSite) (n x : ℕ) (R : List Action → Type 0) → ms ≡ marks_from 0 (graph f)
    → ((i : ℕ) → i < length (graph f) → (at T i x ≡ true) ↔ ((w : List Action) × Arrives (graph f) 0 w i × R w))
    → (w : List Action) → IsWalk f (w ++ mark_at n ∷ []) → R w → SomeThere T ms n x 1
fact_there f T ms n x R e exact w walk h =
    let m = at_mark f n w [] ms e walk in
    (m.mark, m.among, m.point, (x, le, less, (exact m.mark.site m.within).1 (w, m.way, h)))
  where
    le : x ≤ x
    le = omega arith

    less : x < x + 1
    less = omega arith

-- ---- a variable that stands

pub stand : (A : Asked) (p : RunPoints) (x n : ℕ) (r : Bool) → IsPoints A p → n ≡ number enters → x < p.variables
    → MatchBool r (SomeThere p.facts.standing.rows p.marks n x 1) (NoneThere p.facts.standing.rows p.marks n x 1) → (r ≡ true) ↔ MayStand A x
stand A p x n r is e less h = one_fact (function_of A) p.facts.standing.rows p.marks (number enters) x (λ w. stands w x [] ≡ true) r is.tables.marks
    (subst (λ k. MatchBool r (SomeThere p.facts.standing.rows p.marks k x 1) (NoneThere p.facts.standing.rows p.marks k x 1)) e h)
    (λ i within. is.tables.standing i x within less)

pub stands_nowhere : (A : Asked) (p : RunPoints) (x : ℕ) → IsPoints A p → p.variables ≤ x → (false ≡ true) ↔ MayStand A x
stands_nowhere A p x is past = (
  (λ h. absurd (true≢false (sym h))),
  (λ w. let m = at_mark (function_of A) (number enters) w.0 [] p.marks is.tables.marks w.1 in
      sym (never_stands (marked_sites A []) x (λ i s e. is.tables.written i s e x past) 0 m.mark.site w.0 m.way) ∙ w.2),
)

pub local : (A : Asked) (x : ℕ) (r : Bool) → (r ≡ true) ↔ MayStand A x → (not r ≡ true) ↔ IsLocal A x
local A x true h = ((λ e. absurd (true≢false (sym e))), λ l. let w = h.0 refl in absurd (true≢false (sym w.2 ∙ l w.0 w.1)))
local A x false h = ((λ e w way. is_false (stands w x []) (λ s. true≢false (sym (h.1 (w, way, s))))), λ l. refl)

-- ---- parts of a variable

-- where the parts of a variable are
pub record HasParts (F : Frame) (x first count : ℕ) : Type 0 where
  pub starts : first ≡ (place_at F (own x)).first
  pub counts : count ≡ spot_parts F.sizes (place_at F (own x)).spot

some_part : (F : Frame) → Sized F.declared F.sizes → (f : Function) (T : List (List ℕ)) (ms : List MarkSite) (n x first count total : ℕ) (r b : Bool)
    → ms ≡ marks_from 0 (graph f) → total ≡ all_parts F.sizes F.types → HasParts F x first count → MatchBool r (SomeThere T ms n first count) (NoneThere T ms n first count)
    → ((i m : ℕ) → i < length (graph f) → m < total → (at T i m ≡ true) ↔ ((w : List Action) × Arrives (graph f) 0 w i × (is_set F w m ≡ b)))
    → (r ≡ true) ↔ ((w : List Action) × IsWalk f (w ++ mark_at n ∷ []) × ((m : ℕ) × (is_part F (own x) m ≡ true) × (is_set F w m ≡ b)))
some_part F sized f T ms n x first count total r b e t parts h exact =
    told f n ms (λ i. SomeAt T i first count) (λ i. NoneAt T i first count) (λ w. (m : ℕ) × (is_part F (own x) m ≡ true) × (is_set F w m ≡ b)) r e h
    (λ i within some. (may F sized (graph f) T (own x) i first count total true b t parts.starts parts.counts some (λ m less. exact i m within less)).0 refl)
    (λ i within none w. true≢false (sym ((may F sized (graph f) T (own x) i first count total false b t parts.starts parts.counts none (λ m less. exact i m within less)).1 w)))

module _ (A : Asked) (p : RunPoints) (ready : IsReady p) (is : IsPoints A p) where
  pub sized : Sized A.frame.declared A.frame.sizes
  sized = subst (λ (F : Frame). Sized F.declared F.sizes) (sym is.frame) ready.sized

  pub total : p.layout.total ≡ all_parts A.frame.sizes A.frame.types
  total = (subst (λ (F : Frame). IsLayout F p.layout) (sym is.frame) ready.layout).total

  pub parts_are : (x first count : ℕ) → first ≡ (place_at (plain-Frame p.frame) (own x)).first → count ≡ spot_parts (plain-Frame p.frame).sizes (place_at (plain-Frame p.frame) (own x)).spot
      → HasParts A.frame x first count
  parts_are x first count f c = subst (λ (F : Frame). HasParts F x first count) (sym is.frame) (record { starts = f; counts = c })

  pub set_there : (q : Point) (n x first count : ℕ) (r : Bool) → n ≡ number q → HasParts A.frame x first count
      → MatchBool r (SomeThere p.facts.set.rows p.marks n first count) (NoneThere p.facts.set.rows p.marks n first count) → (r ≡ true) ↔ MayBeSet A q x
  set_there q n x first count r e parts h = some_part A.frame sized (function_of A) p.facts.set.rows p.marks (number q) x first count p.layout.total r true is.tables.marks total parts
      (subst (λ k. MatchBool r (SomeThere p.facts.set.rows p.marks k first count) (NoneThere p.facts.set.rows p.marks k first count)) e h) is.tables.set

  pub unset_there : (q : Point) (n x first count : ℕ) (r : Bool) → n ≡ number q → HasParts A.frame x first count
      → MatchBool r (SomeThere p.facts.unset.rows p.marks n first count) (NoneThere p.facts.unset.rows p.marks n first count) → (r ≡ true) ↔ MayBeUnset A q x
  unset_there q n x first count r e parts h = some_part A.frame sized (function_of A) p.facts.unset.rows p.marks (number q) x first count p.layout.total r false is.tables.marks total parts
      (subst (λ k. MatchBool r (SomeThere p.facts.unset.rows p.marks k first count) (NoneThere p.facts.unset.rows p.marks k first count)) e h) is.tables.unset

  -- ---- a part that is mixed

  pub mixed : (x first count n : ℕ) → HasParts A.frame x first count → first ≤ n → n < first + count → MixedPart p n → IsMixed A x
  mixed x first count n parts from to h = record {
    part = n;
    is_one = one;
    set = (one_fact (function_of A) p.facts.set.rows p.marks (number enters) n (λ w. is_set A.frame w n ≡ true) true is.tables.marks h.0 (λ i within. is.tables.set i n within less)).0 refl;
    unset = (one_fact (function_of A) p.facts.unset.rows p.marks (number enters) n (λ w. is_set A.frame w n ≡ false) true is.tables.marks h.1 (λ i within. is.tables.unset i n within less)).0 refl;
  } where
    one : is_part A.frame (own x) n ≡ true
    one = is_between (place_at A.frame (own x)).first (spot_parts A.frame.sizes (place_at A.frame (own x)).spot) n (omega (arith, from, parts.starts)) (omega (arith, to, parts.starts, parts.counts))

    less : n < p.layout.total
    less = omega (arith, part_below A.frame sized (own x) n one, total)

  pub none_mixed : (x first count : ℕ) → HasParts A.frame x first count → ((n : ℕ) → first ≤ n → n < first + count → MixedPart p n → ⊥) → IsMixed A x → ⊥
  none_mixed x first count parts none m = none m.part (omega (arith, inside.0, parts.starts)) (omega (arith, inside.1, parts.starts, parts.counts)) (
    fact_there (function_of A) p.facts.set.rows p.marks (number enters) m.part (λ w. is_set A.frame w m.part ≡ true) is.tables.marks (λ i within. is.tables.set i m.part within less)
        m.set.0 m.set.1 m.set.2,
    fact_there (function_of A) p.facts.unset.rows p.marks (number enters) m.part (λ w. is_set A.frame w m.part ≡ false) is.tables.marks (λ i within. is.tables.unset i m.part within less)
        m.unset.0 m.unset.1 m.unset.2,
  ) where
    inside : ((place_at A.frame (own x)).first ≤ m.part) × (m.part < (place_at A.frame (own x)).first + spot_parts A.frame.sizes (place_at A.frame (own x)).spot)
    inside = in_between (place_at A.frame (own x)).first (spot_parts A.frame.sizes (place_at A.frame (own x)).spot) m.part m.is_one

    less : m.part < p.layout.total
    less = omega (arith, part_below A.frame sized (own x) m.part m.is_one, total)

-- ---- params, and what is wholly set

pub param : (A : Asked) (x : ℕ) (r : Bool) → (r ≡ true) ↔ MayBeUnset A enters x → (not r ≡ true) ↔ IsParam A x
param A x true h = ((λ e. absurd (true≢false (sym e))), λ all. let w = h.0 refl in absurd (true≢false (sym (all w.0 w.1 w.2.0 w.2.1) ∙ w.2.2)))
param A x false h = ((λ e w way n part. is_true (is_set A.frame w n) (λ u. true≢false (sym (h.1 (w, way, (n, part, u)))))), λ all. refl)

pub whole : (A : Asked) (x : ℕ) (s : Bool) → SomeComes A enters → (s ≡ true) ↔ IsParam A x → (IsMixed A x → ⊥) → (s ≡ true) ↔ MayBeWhole A x
whole A x s some h unmixed = (
  (λ e. (some.0, some.1, h.0 e some.0 some.1)),
  (λ w. h.1 (λ v way n part. is_true (is_set A.frame v n) (λ u. unmixed (record {
    part = n;
    is_one = part;
    set = (w.0, w.1, w.2 n part);
    unset = (v, way, u);
  })))),
)

pub never_whole : (A : Asked) (x : ℕ) → (SomeComes A enters → ⊥) → (false ≡ true) ↔ MayBeWhole A x
never_whole A x none = ((λ h. absurd (true≢false (sym h))), λ w. absurd (none (w.0, w.1)))

not_both : (T : List (List ℕ)) (ms : List MarkSite) (n : ℕ) → NoneThere T ms 0 n 1 → SomeThere T ms 0 n 1 → ⊥
not_both T ms n none some = true≢false (sym some.3.3 ∙ none some.0 some.1 some.2 some.3.0 some.3.1 some.3.2)

pub both_mixed : (p : RunPoints) (n : ℕ) (s : Bool) → SomeThere p.facts.set.rows p.marks 0 n 1 → MatchBool s (SomeThere p.facts.unset.rows p.marks 0 n 1) (NoneThere p.facts.unset.rows p.marks 0 n 1)
    → MatchBool s (MixedPart p n) (MixedPart p n → ⊥)
both_mixed p n true h k = (h, k)
both_mixed p n false h k = λ m. not_both p.facts.unset.rows p.marks n k m.1

pub not_mixed : (p : RunPoints) (n : ℕ) → NoneThere p.facts.set.rows p.marks 0 n 1 → MixedPart p n → ⊥
not_mixed p n h m = not_both p.facts.set.rows p.marks n h m.0

pub mixed_more : (p : RunPoints) (first k : ℕ) → ((n : ℕ) → first ≤ n → n < k → MixedPart p n → ⊥) → (MixedPart p k → ⊥) → (n : ℕ) → first ≤ n → n < k + 1 → MixedPart p n → ⊥
mixed_more p first k before one n from to m = by (cases_lt n k)
  where
    same : k ≤ n → n ≡ k
    same h = omega (arith, h, to)

    by : (n < k) ⊎ (k ≤ n) → ⊥
    by (inl h) = before n from h m
    by (inr h) = one (subst (λ j. MixedPart p j) (same h) m)
