-- The paths of a function's graph from its site 0 are its walks, and its sites the actions that they hold.
use Rattle.std.proofs.Common.{◌≡◌, ℕ, zero, suc, ◌<◌, List, [], ◌∷◌, ◌++◌, length, Some, refl, sym, ap, subst, arith, ◌↔◌}
use Rattle.rx_typed.specs.Tree.{Function}
use Rattle.rx_lower_walks.specs.Actions.{Action}
use Rattle.rx_lower_walks.specs.Orders.{order_function}
use Rattle.rx_lower_walks.specs.Walks.{IsWalk, IsSite, Follows, Among}
use Rattle.rx_lower_walks.specs.Graph.{Site, site_at, Path, stop, go, Comes, at_hand, along, HasSite, has_site, Joins, joins}
use Rattle.rx_lower_walks.specs.Pieces.{graph}
use Rattle.rx_lower_walks.proofs.WholeLemmas.{path_walks, walk_paths, each_is_reached}
use Rattle.rx_lower_walks.proofs.Entry.{Entry, at_zero, empty, function_entry}

no_site : {B : Type 0} (g : List Site) (p : ℕ) (s : Site) → g ≡ [] → site_at g p ≡ Some s → B
no_site [] p s e d = absurd (cc)
no_site (t ∷ g) p s e d = absurd (cc)

-- a path of a graph without sites
none_taken : (g : List Site) (ps : List ℕ) (us : List Action) → g ≡ [] → Path g ps us → us ≡ []
none_taken g ps us e stop = refl
none_taken g ps us e (go p s a d rest) = no_site g p s e d

of_none : (g : List Site) (ps qs : List ℕ) (us : List Action) → g ≡ [] → Path g ps us → Path g qs us
of_none g ps qs us e p = subst (λ us. Path g qs us) (sym (none_taken g ps us e p)) stop

pub paths_are_walks_of : (f : Function) (w : List Action) → Path (graph f) (0 ∷ []) w ↔ IsWalk f w
paths_are_walks_of f w = by (function_entry f)
  where
    by : Entry (order_function f) → Path (graph f) (0 ∷ []) w ↔ IsWalk f w
    by (at_zero e) = (
      λ p. path_walks (order_function f) w (subst (λ (ps : List ℕ). Path (graph f) ps w) (sym e) p),
      λ h. subst (λ (ps : List ℕ). Path (graph f) ps w) e (walk_paths (order_function f) w h),
    )
    by (empty e z) = (
      λ p. path_walks (order_function f) w (of_none (graph f) (0 ∷ []) _ w z p),
      λ h. of_none (graph f) _ (0 ∷ []) w z (walk_paths (order_function f) w h),
    )

pub reached : (f : Function) (i : ℕ) → i < length (graph f) → Comes (graph f) (0 ∷ []) i
reached f i lt = by (function_entry f)
  where
    by : Entry (order_function f) → Comes (graph f) (0 ∷ []) i
    by (at_zero e) = subst (λ (ps : List ℕ). Comes (graph f) ps i) e (each_is_reached (order_function f) i lt)
    by (empty e z) = absurd (let l : length (graph f) ≡ 0 = ap length z in omega arith)

-- ---- sites

in_range : (g : List Site) (i : ℕ) (s : Site) → site_at g i ≡ Some s → i < length g
in_range [] i s e = absurd (cc)
in_range (t ∷ g) zero s e = omega arith
in_range (t ∷ g) (suc i) s e = let h = in_range g i s e in omega (arith, h)

-- what a path that comes to a site may do then
leads : (g : List Site) (ps : List ℕ) (i : ℕ) (s : Site) (us : List Action) → site_at g i ≡ Some s → Path g s.next us → Comes g ps i
    → (before : List Action) × Path g ps (before ++ s.action ∷ us)
leads g ps i s us e p (at_hand a) = ([], go i s a e p)
leads g ps i s us e p (along r t a d c) = let h = leads g t.next i s us e p c in (t.action ∷ h.0, go r t a d h.1)

-- a site of it has this action, and a path may go on so behind it
data HoldsSite (g : List Site) (a : Action) (us : List Action) : Type 0 where
  holds_site : (i : ℕ) (s : Site) → site_at g i ≡ Some s → s.action ≡ a → Path g s.next us → HoldsSite g a us

last_of : (g : List Site) (ps : List ℕ) (before : List Action) (a : Action) (us ws : List Action) → ws ≡ before ++ a ∷ us → Path g ps ws → HoldsSite g a us
last_of g ps [] a us ws e stop = absurd (cc)
last_of g ps (b ∷ before) a us ws e stop = absurd (cc)
last_of g ps [] a us ws e (go {us = vs} p s m d rest) =
    let z : s.action ≡ a = cc in
    let y : vs ≡ us = cc in
    holds_site p s d z (subst (λ us. Path g s.next us) y rest)
last_of g ps (b ∷ before) a us ws e (go {us = vs} p s m d rest) =
    let y : vs ≡ before ++ a ∷ us = cc in
    last_of g s.next before a us vs y rest

pub held_site : (f : Function) (i : ℕ) (s : Site) → site_at (graph f) i ≡ Some s → IsSite f s.action
held_site f i s e =
    let p = leads (graph f) (0 ∷ []) i s [] e stop (reached f i (in_range (graph f) i s e)) in
    (p.0, (paths_are_walks_of f (p.0 ++ s.action ∷ [])).0 p.1)

one_of : (g : List Site) (a : Action) → HoldsSite g a [] → HasSite g a
one_of g a (holds_site i s e d p) = has_site i s e d

pub site_held : (f : Function) (a : Action) → IsSite f a → HasSite (graph f) a
site_held f a h = one_of (graph f) a (last_of (graph f) (0 ∷ []) h.0 a [] _ refl ((paths_are_walks_of f (h.0 ++ a ∷ [])).1 h.1))

-- ---- neighbours

pub held_next : (f : Function) (i j : ℕ) (s t : Site) → site_at (graph f) i ≡ Some s → Among j s.next → site_at (graph f) j ≡ Some t
    → Follows f s.action t.action
held_next f i j s t e m d =
    let p = leads (graph f) (0 ∷ []) i s (t.action ∷ []) e (go j t m d stop) (reached f i (in_range (graph f) i s e)) in
    (p.0, (paths_are_walks_of f (p.0 ++ s.action ∷ t.action ∷ [])).0 p.1)

two_of : (g : List Site) (a b : Action) → HoldsSite g a (b ∷ []) → Joins g a b
two_of g a b (holds_site i s e d p) = by p
  where
    by : Path g s.next (b ∷ []) → Joins g a b
    by (go j t m k rest) = joins i j s t e d m k refl

pub next_held : (f : Function) (a b : Action) → Follows f a b → Joins (graph f) a b
next_held f a b h = two_of (graph f) a b (last_of (graph f) (0 ∷ []) h.0 a (b ∷ []) _ refl ((paths_are_walks_of f (h.0 ++ a ∷ b ∷ [])).1 h.1))

pub has_held : (f : Function) (a : Action) → HasSite (graph f) a → IsSite f a
has_held f a (has_site i s e d) = subst (λ (a : Action). IsSite f a) d (held_site f i s e)

pub joined_follow : (f : Function) (a b : Action) → Joins (graph f) a b → Follows f a b
joined_follow f a b (joins i j s t e c m d h) =
    subst (λ (a : Action). Follows f a b) c (subst (λ (b : Action). Follows f s.action b) h (held_next f i j s t e m d))
