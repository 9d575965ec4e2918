-- Lists of lifetimes and of bounds, one step on; bounds that are taken one after another are each there where it stands first.
use Rattle.std.proofs.Common.{◌≡◌, ℕ, ◌+◌, ◌<◌, Bool, true, false, List, [], ◌∷◌, ◌++◌, length, get_or, drop, refl, sym, ap, ◌∙◌, append-nil, append_assoc}
use Rattle.std.specs.Prelude.{◌||◌, if◌then◌else◌}
use Rattle.std.specs.Str.{bytes_eq}
use Rattle.std.proofs.lemmas.List.{map-append}
use Rattle.rx_tree.specs.declared.tree.Ident.{Ident}
use Rattle.rx_tree.specs.declared.tree.BoundLifetime.{BoundLifetime}
use Rattle.rx_hoist_extraction.specs.Names.{Names, is_among}
use Rattle.rx_hoist_extraction.specs.NewFunction.{firsts_of}
use Rattle.rx_hoist_extraction.specs.OwnLifetimes.{idents}
use Rattle.rx_hoist_made.proofs.Among.{among_both}
use Rattle.rx_hoist_made.proofs.Dropped.{drop_is}
use Rattle.rx_compact_lifetimes.specs.Merged.{bounds_for, joined_lifetime, joined}
use Rattle.rx_compact_lifetimes.specs.Steps.{names, with_bound, with_bounds, bounds_if, with_joined}

-- ---- what is left, as its first and the rest

pub ident_here : (x : List ℕ) (ls : List Ident) (i : ℕ) (l : Ident) → i < length ls → l ≡ get_or ls i l
    → is_among x (idents (drop i ls)) ≡ (bytes_eq x l.name || is_among x (idents (drop (i + 1) ls)))
ident_here x ls i l h e = ap (λ (ms : List Ident). is_among x (idents ms)) (drop_is ls i l h e)

pub declared_here : (x : List ℕ) (ls : List BoundLifetime) (i : ℕ) (l : BoundLifetime) → i < length ls → l ≡ get_or ls i l
    → is_among x (names (drop i ls)) ≡ (bytes_eq x l.name.name || is_among x (names (drop (i + 1) ls)))
declared_here x ls i l h e = ap (λ (ms : List BoundLifetime). is_among x (names ms)) (drop_is ls i l h e)

-- ---- bounds

with_both : (x : List ℕ) (found bs cs : List Ident) → with_bounds x found (bs ++ cs) ≡ with_bounds x (with_bounds x found bs) cs
with_both x found [] cs = refl
with_both x found (b ∷ bs) cs = with_both x (with_bound x found b) bs cs

bounds_first : (x : List ℕ) (l : BoundLifetime) (ls : List BoundLifetime) → bounds_for x (l ∷ ls) ≡ bounds_if x l ++ bounds_for x ls
bounds_first x l ls = by (bytes_eq x l.name.name)
  where
    by : (b : Bool) → (if b then l.bounds ++ bounds_for x ls else bounds_for x ls) ≡ (if b then l.bounds else []) ++ bounds_for x ls
    by true = refl
    by false = refl

pub next_bounds : (x : List ℕ) (ls : List BoundLifetime) (i : ℕ) (l : BoundLifetime) (found more : List Ident) → i < length ls → l ≡ get_or ls i l
    → more ≡ with_bounds x found (bounds_if x l)
    → with_bounds x more (bounds_for x (drop (i + 1) ls)) ≡ with_bounds x found (bounds_for x (drop i ls))
next_bounds x ls i l found more h e m =
    ap (λ bs. with_bounds x bs (bounds_for x (drop (i + 1) ls))) m
    ∙ sym (ap (with_bounds x found) (ap (bounds_for x) (drop_is ls i l h e) ∙ bounds_first x l (drop (i + 1) ls)) ∙ with_both x found (bounds_if x l) (bounds_for x (drop (i + 1) ls)))

-- those that were found and the name itself are not taken again
abbrev Seen : List ℕ → List Ident → Names → Type 0
Seen x found passed = (y : List ℕ) → (bytes_eq y x || is_among y (idents found)) ≡ is_among y passed

turned : (a b c : Bool) → (a || (b || (c || false))) ≡ (c || (a || b))
turned true true true = refl
turned true true false = refl
turned true false true = refl
turned true false false = refl
turned false true true = refl
turned false true false = refl
turned false false true = refl
turned false false false = refl

one_more : (x : List ℕ) (found : List Ident) (passed : Names) (b : Ident) → Seen x found passed → Seen x (found ++ b ∷ []) (b.name ∷ passed)
one_more x found passed b s y =
    ap (λ t. bytes_eq y x || t) (ap (is_among y) (map-append (λ (i : Ident). i.name) found (b ∷ [])) ∙ among_both y (idents found) (b.name ∷ []))
    ∙ (turned (bytes_eq y x) (is_among y (idents found)) (bytes_eq y b.name) ∙ ap (λ t. bytes_eq y b.name || t) (s y))

firsts_at : (x : List ℕ) (t : Bool) (b : Ident) (found : List Ident) (passed : Names) (bs : List Ident) → (bytes_eq b.name x || is_among b.name (idents found)) ≡ t → is_among b.name passed ≡ t
    → with_bounds x (found ++ b ∷ []) bs ≡ (found ++ b ∷ []) ++ firsts_of (b.name ∷ passed) bs → with_bounds x found bs ≡ found ++ firsts_of passed bs
    → with_bounds x found (b ∷ bs) ≡ found ++ firsts_of passed (b ∷ bs)
firsts_at x true b found passed bs e f g h = rw (e, f) h
firsts_at x false b found passed bs e f g h = rw (e, f) (g ∙ append_assoc found (b ∷ []) (firsts_of (b.name ∷ passed) bs))

firsts_are : (x : List ℕ) (found : List Ident) (passed : Names) (bs : List Ident) → Seen x found passed → with_bounds x found bs ≡ found ++ firsts_of passed bs
firsts_are x found passed [] s = sym (append-nil found)
firsts_are x found passed (b ∷ bs) s = firsts_at x (is_among b.name passed) b found passed bs (s b.name) refl
    (firsts_are x (found ++ b ∷ []) (b.name ∷ passed) bs (one_more x found passed b s)) (firsts_are x found passed bs s)

pub bounds_are_firsts : (x : List ℕ) (bs : List Ident) → with_bounds x [] bs ≡ firsts_of (x ∷ []) bs
bounds_are_firsts x bs = firsts_are x [] (x ∷ []) bs (λ y. refl)

-- ---- lifetimes

joined_at : (b : Bool) (whole all ls : List BoundLifetime) (l : BoundLifetime) → is_among l.name.name (names all) ≡ b
    → with_joined whole all l.name ++ joined whole (names (with_joined whole all l.name)) ls ≡ all ++ joined whole (names all) (l ∷ ls)
joined_at true whole all ls l e = rw e refl
joined_at false whole all ls l e =
    rw e (append_assoc all (joined_lifetime whole l.name ∷ []) _
    ∙ ap (λ found. all ++ joined_lifetime whole l.name ∷ joined whole found ls) (map-append (λ (m : BoundLifetime). m.name.name) all (joined_lifetime whole l.name ∷ [])))

pub next_joined : (whole all more : List BoundLifetime) (i : ℕ) (l : BoundLifetime) → i < length whole → l ≡ get_or whole i l → more ≡ with_joined whole all l.name
    → more ++ joined whole (names more) (drop (i + 1) whole) ≡ all ++ joined whole (names all) (drop i whole)
next_joined whole all more i l h e m =
    ap (λ ms. ms ++ joined whole (names ms) (drop (i + 1) whole)) m
    ∙ (joined_at (is_among l.name.name (names all)) whole all (drop (i + 1) whole) l refl
    ∙ sym (ap (λ ls. all ++ joined whole (names all) ls) (drop_is whole i l h e)))
