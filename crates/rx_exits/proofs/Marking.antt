-- The marks among the sites of a graph are those sites whose action is a mark.
use Rattle.std.proofs.Common.{get_or, ◌≡◌, ◌⊎◌, inl, inr, ℕ, zero, suc, ◌+◌, ◌<◌, ◌≤◌, Bool, true, false, ◌&&◌, ◌==◌, if◌then◌else◌, List, [], ◌∷◌, ◌++◌, length, drop, Some, refl, ap, sym, ◌∙◌, subst, arith, true≢false, append_assoc}
use Rattle.std.proofs.lemmas.Bool.Decides.{Decides-eqb}
use Rattle.rx_typed.specs.Tree.{Temporary, tuple, temporary_at}
use Rattle.rx_lower_walks.specs.Actions.{Act, Build, Action, does}
use Rattle.rx_lower_walks.specs.Walks.{Among, here, there}
use Rattle.rx_lower_walks.specs.Graph.{Site, site_at}
use Rattle.rx_facts_tables.proofs.Ways.{site_within}
use Rattle.rx_exits.specs.declared.marks.MarkSite.{MarkSite}
use Rattle.rx_exits.specs.Marks.{mark_at, is_at, makes_mark_at, shows_mark, noted, marks_from}
use Rattle.rx_exits.proofs.Among.{among_first, not_among, got}

both : (a b : Bool) → (a && b) ≡ true → (a ≡ true) × (b ≡ true)
both true b h = (refl, h)
both false b h = absurd (true≢false (sym h))

there_is : (n : ℕ) (t : Temporary) → is_at n t ≡ true → t ≡ temporary_at n 0
there_is n t h =
    let b = both (t.node == n) (t.which == 0) h in
    ap (λ k. temporary_at k t.which) ((Decides-eqb t.node n).0 b.0) ∙ ap (λ k. temporary_at n k) ((Decides-eqb t.which 0).0 b.1)

is_made : (n : ℕ) (a : Act) → makes_mark_at n a ≡ true → a ≡ Build tuple [] [] (temporary_at n 0)
is_made n (Build tuple [] [] d) h = ap (λ t. Build tuple [] [] t) (there_is n d h)
is_made n _ h = absurd (true≢false (sym h))

pub is_mark_at : (a : Action) → shows_mark a ≡ true → a ≡ mark_at a.node
is_mark_at a h = ap (λ x. does a.node x) (is_made a.node a.act h)

shown_at : (n : ℕ) → shows_mark (mark_at n) ≡ true
shown_at n = ap (λ b. b && true) ((Decides-eqb n n).1 refl)

pub mark_shows : (a : Action) (n : ℕ) → a ≡ mark_at n → shows_mark a ≡ true
mark_shows a n e = ap shows_mark e ∙ shown_at n

-- ---- the marks among sites

abbrev pub mark_site : ℕ → ℕ → MarkSite
mark_site i n = record { site = i; point = n }

pub record MarkThere (i : ℕ) (g : List Site) (m : MarkSite) : Type 0 where
  pub number : ℕ
  pub site : Site
  pub at : m.site ≡ i + number
  pub is : site_at g number ≡ Some site
  pub action : site.action ≡ mark_at m.point

pub marks_there : (i : ℕ) (g : List Site) (m : MarkSite) → Among m (marks_from i g) → MarkThere i g m
marks_there i [] m h = not_among m h
marks_there i (s ∷ g) m h = by (shows_mark s.action) refl h (λ x. marks_there (suc i) g m x)
  where
    later : MarkThere (suc i) g m → MarkThere i (s ∷ g) m
    later r = record { number = suc r.number; site = r.site; at = omega (arith, r.at); is = r.is; action = r.action }

    plus : i ≡ i + 0
    plus = omega arith

    first : shows_mark s.action ≡ true → m ≡ mark_site i s.action.node → MarkThere i (s ∷ g) m
    first e q = record {
      number = 0;
      site = s;
      at = ap (λ (x : MarkSite). x.site) q ∙ plus;
      is = refl;
      action = is_mark_at s.action e ∙ ap (λ (x : MarkSite). mark_at x.point) (sym q);
    }

    by : (b : Bool) → shows_mark s.action ≡ b → Among m (if b then mark_site i s.action.node ∷ marks_from (suc i) g else marks_from (suc i) g)
        → (Among m (marks_from (suc i) g) → MarkThere (suc i) g m) → MarkThere i (s ∷ g) m
    by true e x rest = split (among_first m (mark_site i s.action.node) (marks_from (suc i) g) x)
      where
        split : (m ≡ mark_site i s.action.node) ⊎ Among m (marks_from (suc i) g) → MarkThere i (s ∷ g) m
        split (inl q) = first e q
        split (inr x) = later (rest x)
    by false e x rest = later (rest x)

in_either : (b : Bool) (m x : MarkSite) (l : List MarkSite) → Among m l → Among m (if b then x ∷ l else l)
in_either true m x l h = there h
in_either false m x l h = h

pub marks_all : (i : ℕ) (g : List Site) (k n : ℕ) (s : Site) → site_at g k ≡ Some s → s.action ≡ mark_at n → Among (mark_site (i + k) n) (marks_from i g)
marks_all i [] k n s e a = absurd (cc)
marks_all i (t ∷ g) zero n s e a =
    let z : t ≡ s = cc in
    let q : t.action ≡ mark_at n = ap (λ (x : Site). x.action) z ∙ a in
    subst (λ b. Among (mark_site (i + 0) n) (if b then mark_site i t.action.node ∷ marks_from (suc i) g else marks_from (suc i) g))
    (sym (mark_shows t.action n q))
    (subst (λ (m : MarkSite). Among m (mark_site i t.action.node ∷ marks_from (suc i) g)) (same q) here)
  where
    plus : i ≡ i + 0
    plus = omega arith

    same : t.action ≡ mark_at n → mark_site i t.action.node ≡ mark_site (i + 0) n
    same q = ap (λ k. mark_site k t.action.node) plus ∙ ap (λ (x : Action). mark_site (i + 0) x.node) q
marks_all i (t ∷ g) (suc k) n s e a =
    in_either (shows_mark t.action) (mark_site (i + suc k) n) (mark_site i t.action.node) (marks_from (suc i) g)
    (subst (λ j. Among (mark_site j n) (marks_from (suc i) g)) moved (marks_all (suc i) g k n s e a))
  where
    moved : suc i + k ≡ i + suc k
    moved = omega arith

-- ---- the loop

-- what is noted so far, in front of what is left
abbrev pub Noting : List Site → List MarkSite → ℕ → Type 0
Noting g ms k = ms ++ marks_from k (drop k g) ≡ marks_from 0 g

nil_right : (l : List MarkSite) → l ++ [] ≡ l
nil_right [] = refl
nil_right (m ∷ l) = ap (λ k. m ∷ k) (nil_right l)

none_left : (g : List Site) (k : ℕ) → length g ≤ k → drop k g ≡ []
none_left [] zero h = refl
none_left [] (suc k) h = refl
none_left (s ∷ g) zero h = absurd (omega (arith, h))
none_left (s ∷ g) (suc k) h = none_left g k (omega (arith, h))

left_here : (g : List Site) (k : ℕ) (s : Site) → site_at g k ≡ Some s → drop k g ≡ s ∷ drop (suc k) g
left_here [] k s e = absurd (cc)
left_here (t ∷ g) zero s e = let z : t ≡ s = cc in ap (λ (x : Site). x ∷ g) z
left_here (t ∷ g) (suc k) s e = left_here g k s e

note_one : (b : Bool) (ms : List MarkSite) (m : MarkSite) (l : List MarkSite) → (if b then ms ++ m ∷ [] else ms) ++ l ≡ ms ++ (if b then m ∷ l else l)
note_one true ms m l = append_assoc ms (m ∷ []) l
note_one false ms m l = refl

pub noting_more : (g : List Site) (ms next : List MarkSite) (k : ℕ) (s : Site) → site_at g k ≡ Some s → next ≡ noted ms k s.action → Noting g ms k → Noting g next (k + 1)
noting_more g ms next k s e q h =
    ap (λ l. l ++ marks_from (k + 1) (drop (k + 1) g)) q
    ∙ note_one (shows_mark s.action) ms (mark_site k s.action.node) (marks_from (k + 1) (drop (k + 1) g))
    ∙ ap (λ n. ms ++ (if shows_mark s.action then mark_site k s.action.node ∷ marks_from n (drop n g) else marks_from n (drop n g))) plus
    ∙ ap (λ l. ms ++ marks_from k l) (sym (left_here g k s e)) ∙ h
  where
    plus : k + 1 ≡ suc k
    plus = omega arith

pub noting_done : (g : List Site) (ms : List MarkSite) (k : ℕ) → length g ≤ k → Noting g ms k → ms ≡ marks_from 0 g
noting_done g ms k past h = sym (nil_right ms) ∙ ap (λ l. ms ++ marks_from k l) (sym (none_left g k past)) ∙ h

-- ---- where the noted sites are

pub marks_within : (g : List Site) (ms : List MarkSite) (k : ℕ) (d : MarkSite) → ms ≡ marks_from 0 g → k < length ms → (get_or ms k d).site < length g
marks_within g ms k d e h =
    let t = marks_there 0 g (get_or ms k d) (subst (λ l. Among (get_or ms k d) l) e (got ms k d h)) in
    omega (arith, t.at, site_within g t.number t.site t.is)
