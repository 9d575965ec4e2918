-- What the tables say is what walks do.
use Rattle.std.proofs.Common.{◌≡◌, ◌↔◌, ℕ, zero, suc, ◌+◌, ◌<◌, ◌≤◌, Bool, true, false, not, ◌&&◌, ◌||◌, nat_le, nat_lt, MatchBool, List, [], ◌∷◌, Some, Result, Ok, Err, IfOk, slice_get, refl, ap, sym, ◌∙◌, subst, arith, true≢false}
use Rattle.rx_core.specs.declared.types.Step.{Step}
use Rattle.rx_core.specs.declared.types.Place as core
use Rattle.rx_typed.specs.Tree.{Place, Root, variable, temporary, Temporary}
use Rattle.rx_lower_walks.specs.Actions.{Act, Declare, Dead, Read, Write, Borrow, Test, Call, Build, Input, Print, Give, Action}
use Rattle.rx_lower_walks.specs.Graph.{Site, site_at}
use Rattle.rx_graph.specs.declared.effect.Effect.{Effect}
use Rattle.rx_graph.specs.Facts.{has, effect_of}
use Rattle.rx_graph.specs.Tables.{at}
use Rattle.rx_graph.specs.declared.least.Table.{Table}
use Rattle.std.specs.declared.alloc.AllocError.{AllocError}
use Rattle.rx_lower_walks.specs.declared.actions.Root as code_root
use Rattle.rx_lower_walks.specs.declared.actions.Place as code_place
use Rattle.rx_lower_walks.specs.declared.actions.Temporary as code_temporary
use Rattle.rx_lower_walks.specs.PlainFlow.{plain-Place, plain-Root, plain-Temporary}
use Rattle.rx_typed_declarations.specs.Sizes.{Sized}
use Rattle.rx_facts_tables.specs.Along.{Arrives, Switch, behind, after, Does, edges_of}
use Rattle.rx_facts_tables.specs.Tracking.{Tracks, EachDoes}
use Rattle.rx_facts_tables.specs.Places.{Frame, Located, spot_parts, place_at, root_at, is_part, all_parts}
use Rattle.rx_facts_tables.proofs.Walking.{nothing_there, place_ends}
use Rattle.rx_facts_tables.specs.Setting.{sets, unsets, setting, is_set}
use Rattle.rx_facts_tables.specs.Wholes.{regains, loses, standing}
use Rattle.rx_facts_tables.specs.Tables.{picked, DoesAt, Tells, SomeAt, NoneAt}
use Rattle.rx_facts_tables.proofs.Numbers.{in_between, is_between}

-- ---- switches

-- what makes it true makes the other false
abbrev pub turned : Switch → Switch
turned s = record { gives = s.kills; kills = s.gives }

abbrev pub Apart : Switch → Type 0
Apart s = (a : Action) → (s.gives a && s.kills a) ≡ false

one_turned : (g k b : Bool) → (g && k) ≡ false → (k || (not g && not b)) ≡ not (g || (not k && b))
one_turned true true b h = absurd (true≢false h)
one_turned true false b h = refl
one_turned false true b h = refl
one_turned false false b h = refl

pub turned_after : (s : Switch) → Apart s → (w : List Action) (b : Bool) → after (turned s) w (not b) ≡ not (after s w b)
turned_after s h [] b = refl
turned_after s h (a ∷ w) b = ap (λ c. after (turned s) w c) (one_turned (s.gives a) (s.kills a) b (h a)) ∙ turned_after s h w (behind s a b)

pub same_after : (s t : Switch) → ((a : Action) → s.gives a ≡ t.gives a) → ((a : Action) → s.kills a ≡ t.kills a) → (w : List Action) (b : Bool) → after s w b ≡ after t w b
same_after s t g k [] b = refl
same_after s t g k (a ∷ w) b =
    ap (λ c. after s w (c || (not (s.kills a) && b))) (g a) ∙ ap (λ c. after s w (t.gives a || (not c && b))) (k a) ∙ same_after s t g k w (behind t a b)

and_false : (b : Bool) → (b && false) ≡ false
and_false true = refl
and_false false = refl

pub setting_apart : (F : Frame) (n : ℕ) → Apart (setting F n)
setting_apart F n a = by a.act
  where
    by : (x : Act) → (sets F n x && unsets F n x) ≡ false
    by (Declare x) = refl
    by (Dead x) = refl
    by (Read m p d) = refl
    by (Write p t ss) = and_false (sets F n (Write p t ss))
    by (Borrow k p d) = refl
    by (Test p c) = refl
    by (Call f ts d) = refl
    by (Build w is ts d) = refl
    by (Input d) = refl
    by (Print t) = refl
    by (Give t) = refl

pub standing_apart : (x : ℕ) (qs : List Step) → Apart (standing x qs)
standing_apart x qs a = by a.act
  where
    by : (y : Act) → (regains x qs y && loses x qs y) ≡ false
    by (Declare y) = refl
    by (Dead y) = refl
    by (Read m p d) = refl
    by (Write p t ss) = and_false (regains x qs (Write p t ss))
    by (Borrow k p d) = refl
    by (Test p c) = refl
    by (Call f ts d) = refl
    by (Build w is ts d) = refl
    by (Input d) = refl
    by (Print t) = refl
    by (Give t) = refl

pub not_false : (b : Bool) → not b ≡ true → b ≡ false
not_false true h = absurd (true≢false (sym h))
not_false false h = refl

pub is_true : (b : Bool) → (b ≡ false → ⊥) → b ≡ true
is_true true h = refl
is_true false h = absurd (h refl)

pub is_false : (b : Bool) → (b ≡ true → ⊥) → b ≡ false
is_false true h = absurd (h refl)
is_false false h = refl

pub picked_got : (f : core.Place → Bool) (W : List core.Place) (i : ℕ) (q : core.Place) → slice_get W i ≡ Some q → picked f W i ≡ f q
picked_got f [] i q e = absurd (cc)
picked_got f (r ∷ W) zero q e = let z : r ≡ q = cc in ap f z
picked_got f (r ∷ W) (suc i) q e = picked_got f W i q e

-- ---- tables

does_give : (S : ℕ → Switch) (es : List Effect) (g : List Site) → EachDoes (DoesAt S) es g → (q i : ℕ) (t : Site) → site_at g q ≡ Some t
    → has (effect_of (slice_get es q)).gives i ≡ (S i).gives t.action
does_give S [] [] h q i t e = absurd (cc)
does_give S [] (s ∷ g) h q i t e = absurd h
does_give S (x ∷ es) [] h q i t e = absurd h
does_give S (x ∷ es) (s ∷ g) h zero i t e = let z : s ≡ t = cc in h.0.gives i ∙ ap (λ (u : Site). (S i).gives u.action) z
does_give S (x ∷ es) (s ∷ g) h (suc q) i t e = does_give S es g h.1 q i t e

does_kill : (S : ℕ → Switch) (es : List Effect) (g : List Site) → EachDoes (DoesAt S) es g → (q i : ℕ) (t : Site) → site_at g q ≡ Some t
    → has (effect_of (slice_get es q)).kills i ≡ (S i).kills t.action
does_kill S [] [] h q i t e = absurd (cc)
does_kill S [] (s ∷ g) h q i t e = absurd h
does_kill S (x ∷ es) [] h q i t e = absurd h
does_kill S (x ∷ es) (s ∷ g) h zero i t e = let z : s ≡ t = cc in h.0.kills i ∙ ap (λ (u : Site). (S i).kills u.action) z
does_kill S (x ∷ es) (s ∷ g) h (suc q) i t e = does_kill S es g h.1 q i t e

does : (S : ℕ → Switch) (bound : ℕ) (es : List Effect) (g : List Site) → EachDoes (DoesAt S) es g → Does g S bound es
does S bound es g h = record { gives = λ q i t is less. does_give S es g h q i t is; kills = λ q i t is less. does_kill S es g h q i t is }

pub tells : (edges : List (List ℕ)) (es : List Effect) (start : List ℕ) (bound : ℕ) (T : List (List ℕ)) (g : List Site) (S : ℕ → Switch) → Tracks edges es start bound T
    → edges ≡ edges_of g → EachDoes (DoesAt S) es g → Tells g S (has start) bound T
tells edges es start bound T g S tracks e each r p i within less = tracks.exact g S e r (does S bound es g each) p i within less

-- ---- parts of places

none_there : (F : Frame) (t : Temporary) (ss : List Step) (n : ℕ) → is_part F (record { root = temporary t; steps = ss }) n ≡ false
none_there F t ss n = ap (λ (l : Located). nat_le l.first n && nat_lt n (l.first + spot_parts F.sizes l.spot)) (nothing_there F.declared F.sizes ss 0) ∙ none
  where
    none : (nat_le 0 n && nat_lt n (0 + 0)) ≡ false
    none = is_false (nat_le 0 n && nat_lt n (0 + 0)) (λ h. let b = in_between 0 0 n h in omega (arith, b.0, b.1))

pub temporary_none : (F : Frame) (p : Place) (q : code_place.Place) (t : code_temporary.Temporary) → q.root ≡ code_root.Root.Temporary t → Some (plain-Place q) ≡ Some p
    → (n : ℕ) → is_part F p n ≡ false
temporary_none F p q t r e n =
    let z : plain-Place q ≡ p = cc in
    sym (ap (λ (x : Place). is_part F x n) z) ∙ ap (λ (x : code_root.Root). is_part F (record { root = plain-Root x; steps = q.steps }) n) r ∙ none_there F (plain-Temporary t) q.steps n

pub part_below : (F : Frame) → Sized F.declared F.sizes → (p : Place) (n : ℕ) → is_part F p n ≡ true → n < all_parts F.sizes F.types
part_below F sized p n h = by p.root refl
  where
    by : (r : Root) → p.root ≡ r → n < all_parts F.sizes F.types
    by (variable x) e =
        let b = in_between (place_at F p).first (spot_parts F.sizes (place_at F p).spot) n h in
        let m = place_ends F.declared F.sizes sized F.types x (all_parts F.sizes F.types) p.steps (root_at F p.root) (place_at F p) refl (ap (λ (r : Root). root_at F r) e) refl in
        omega (arith, b.1, m)
    by (temporary t) e = absurd (true≢false (sym h ∙ ap (λ (r : Root). is_part F (record { root = r; steps = p.steps }) n) e ∙ none_there F t p.steps n))

-- some part of a place
pub may : (F : Frame) → Sized F.declared F.sizes → (g : List Site) (T : List (List ℕ)) (p : Place) (i first count total : ℕ) (r b : Bool) → total ≡ all_parts F.sizes F.types
    → first ≡ (place_at F p).first → count ≡ spot_parts F.sizes (place_at F p).spot → MatchBool r (SomeAt T i first count) (NoneAt T i first count)
    → ((n : ℕ) → n < total → (at T i n ≡ true) ↔ ((w : List Action) × Arrives g 0 w i × (is_set F w n ≡ b)))
    → (r ≡ true) ↔ ((w : List Action) × Arrives g 0 w i × ((n : ℕ) × (is_part F p n ≡ true) × (is_set F w n ≡ b)))
may F sized g T p i first count total r b t f c m exact = (λ h. found r h m, λ w. known r m w)
  where
    Some : Type 0
    Some = (w : List Action) × Arrives g 0 w i × ((n : ℕ) × (is_part F p n ≡ true) × (is_set F w n ≡ b))

    part : (n : ℕ) → first ≤ n → n < first + count → is_part F p n ≡ true
    part n x y = is_between (place_at F p).first (spot_parts F.sizes (place_at F p).spot) n (omega (arith, x, f)) (omega (arith, y, f, c))

    found : (r : Bool) → r ≡ true → MatchBool r (SomeAt T i first count) (NoneAt T i first count) → Some
    found true e s = let n = s.0 in let q = part n s.1 s.2 in let w = (exact n (omega (arith, part_below F sized p n q, t))).0 s.3 in (w.0, w.1, (n, q, w.2))
    found false e s = absurd (true≢false (sym e))

    known : (r : Bool) → MatchBool r (SomeAt T i first count) (NoneAt T i first count) → Some → r ≡ true
    known true s w = refl
    known false s w =
        let n = w.2.0 in let x = in_between (place_at F p).first (spot_parts F.sizes (place_at F p).spot) n w.2.1 in
        let h = (exact n (omega (arith, part_below F sized p n w.2.1, t))).1 (w.0, w.1, w.2.2) in
        absurd (true≢false (sym h ∙ s n (omega (arith, x.0, f)) (omega (arith, x.1, f, c))))

pub all_tell : (edges : List (List ℕ)) (es : List Effect) (start : List ℕ) (bound : ℕ) (g : List Site) (S : ℕ → Switch) (r : Result Table AllocError) → edges ≡ edges_of g
    → (made : List Effect) → es ≡ made → EachDoes (DoesAt S) made g → IfOk r (λ t. Tracks edges es start bound t.rows) → IfOk r (λ t. Tells g S (has start) bound t.rows)
all_tell edges es start bound g S (Ok t) e made m each h = tells edges es start bound t.rows g S h e (subst (λ (l : List Effect). EachDoes (DoesAt S) l g) (sym m) each)
all_tell edges es start bound g S (Err x) e made m each h = tt
