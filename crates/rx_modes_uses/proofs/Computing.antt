-- Whether a variable is live out, computed over the graph of the marked function: what lies ahead of a site is told by rounds. What a round
-- says lies ahead does on some path; and where a further round changes nothing, what it doesn't say lies ahead of no path. The paths of
-- the graph are the walks.
use Rattle.std.proofs.Common.{◌≡◌, refl, sym, ◌∙◌, ap, subst, ◌⊎◌, inl, inr, ℕ, zero, suc, ◌+◌, ◌==◌, ◌<◌, Bool, true, false, not, ◌&&◌, ◌||◌, true≢false, List, [], ◌∷◌, ◌++◌, length, Option, Some, None, arith}
use Rattle.std.specs.Bool.{Decides}
use Rattle.std.proofs.lemmas.Bool.{eq-eqb, eqb-true}
use Rattle.std.proofs.lemmas.Bool.Decides.{Decides-or, Decides-like}
use Rattle.rx_typed.specs.Tree.{variable, Function, tuple, constant, negation, inversion, operation, lazy, struct, variant_of, temporary_at}
use Rattle.rx_lower_walks.specs.Actions.{Act, Declare, Dead, Read, Write, Borrow, Test, Call, Build, Input, Print, Give, Action, does}
use Rattle.rx_lower_walks.specs.Walks.{Among, here, there}
use Rattle.rx_lower_walks.specs.Graph.{Site, site_at, Path, stop, go, Comes, at_hand, along}
use Rattle.rx_lower_walks.specs.Pieces.{graph}
use Rattle.rx_lower_walks.proofs.Sites.{paths_are_walks_of, reached}
use Rattle.rx_facts_tables.specs.Along.{Switch, behind, ahead}
use Rattle.rx_facts_tables.specs.Live.{living}
use Rattle.rx_exits_plan.specs.Points.{Exit, Point, leaves, number}
use Rattle.rx_exits_plan.specs.Marked.{shown, marked}
use Rattle.rx_exits_plan.specs.Asked.{Asked, IsLiveAt}
use Rattle.rx_exits_plan.specs.Plan.{Plan}
use Rattle.rx_modes_policy.specs.declared.uses.Uses.{Uses}
use Rattle.rx_modes_uses.specs.Uses.{IsSetIn, IsUses}
use Rattle.rx_modes_uses.proofs.Deciding.{told, are_uses}

-- ---- rows: a truth value for each site

abbrev pub holds : List Bool → ℕ → Bool
holds [] p = false
holds (b ∷ row) zero = b
holds (b ∷ row) (suc p) = holds row p

abbrev pub any_of : List Bool → List ℕ → Bool
any_of row [] = false
any_of row (p ∷ ps) = holds row p || any_of row ps

-- what lies ahead of each site, by what lies ahead of those behind it
abbrev pub foreseen : Switch → List Site → List Bool → List Bool
foreseen s [] row = []
foreseen s (x ∷ g) row = behind s x.action (any_of row x.next) ∷ foreseen s g row

abbrev pub rounds : ℕ → Switch → List Site → List Bool
rounds zero s g = []
rounds (suc n) s g = foreseen s g (rounds n s g)

abbrev pub row_of : Switch → List Site → List Bool
row_of s g = rounds (length g + 1) s g

-- a further round changes nothing
abbrev pub IsClosed : Switch → List Site → Type 0
IsClosed s g = foreseen s g (row_of s g) ≡ row_of s g

never : {P : Type 0} → false ≡ true → P
never e = absurd (true≢false (sym e))

-- ---- what rows say of sites

abbrev site_else : Site → Option Site → Site
site_else y None = y
site_else y (Some z) = z

foreseen_at : (s : Switch) (g : List Site) (row : List Bool) (i : ℕ) (x : Site) → site_at g i ≡ Some x → holds (foreseen s g row) i ≡ behind s x.action (any_of row x.next)
foreseen_at s [] row i x e = absurd (cc)
foreseen_at s (y ∷ g) row zero x e = ap (λ z. behind s z.action (any_of row z.next)) (ap (site_else y) e)
foreseen_at s (y ∷ g) row (suc i) x e = foreseen_at s g row i x e

any_here : (row : List Bool) (p : ℕ) (ps : List ℕ) → Among p ps → holds row p ≡ true → any_of row ps ≡ true
any_here row p _ (here {l = l}) e = ap (λ b. b || any_of row l) e
any_here row p _ (there {b = q} {l = l} i) e = or_right (holds row q) (any_here row p l i e)
  where
    or_right : (b : Bool) {c : Bool} → c ≡ true → b || c ≡ true
    or_right true e = refl
    or_right false e = e

any_there : (row : List Bool) (ps : List ℕ) → any_of row ps ≡ true → (p : ℕ) × Among p ps × (holds row p ≡ true)
any_there row [] e = never e
any_there row (p ∷ ps) e = by (λ h. any_there row ps h) (holds row p) refl e
  where
    by : (any_of row ps ≡ true → (q : ℕ) × Among q ps × (holds row q ≡ true)) → (b : Bool) → holds row p ≡ b → b || any_of row ps ≡ true
        → (q : ℕ) × Among q (p ∷ ps) × (holds row q ≡ true)
    by f true h e = (p, here, h)
    by f false h e = let i = f e in (i.0, there i.1, i.2)

-- a switch keeps what it is told to come, unless the action kills it
keeps : (g k b c : Bool) → (b ≡ true → c ≡ true) → g || (not k && b) ≡ true → g || (not k && c) ≡ true
keeps true k b c f e = refl
keeps false true b c f e = e
keeps false false b c f e = f e

-- ---- nothing lies ahead that a closed row doesn't say

bounded : (s : Switch) (g : List Site) → IsClosed s g → {ps : List ℕ} {us : List Action} → Path g ps us → ahead s us ≡ true → any_of (row_of s g) ps ≡ true
bounded s g closed stop e = never e
bounded s g closed {ps = ps} (go {us = us} p x i d rest) e =
    any_here (row_of s g) p ps i (ap (λ r. holds r p) (sym closed) ∙ foreseen_at s g (row_of s g) p x d
    ∙ keeps (s.gives x.action) (s.kills x.action) (ahead s us) (any_of (row_of s g) x.next) (λ h. bounded s g closed rest h) e)

-- ---- what a row says lies ahead

abbrev Lies : Switch → List Site → ℕ → Type 0
Lies s g p = (us : List Action) × Path g (p ∷ []) us × (ahead s us ≡ true)

site_or_none : (g : List Site) (p : ℕ) → ((x : Site) × (site_at g p ≡ Some x)) ⊎ ((s : Switch) (row : List Bool) → holds (foreseen s g row) p ≡ false)
site_or_none [] p = inr (λ s row. refl)
site_or_none (y ∷ g) zero = inl (y, refl)
site_or_none (y ∷ g) (suc p) = site_or_none g p

onward : (s : Switch) (g : List Site) (p : ℕ) (x : Site) → site_at g p ≡ Some x → (b : Bool) → (b ≡ true → (us : List Action) × Path g x.next us × (ahead s us ≡ true))
    → behind s x.action b ≡ true → Lies s g p
onward s g p x d true f e =
    let r = f refl in (x.action ∷ r.0, go p x here d r.1, ap (λ t. s.gives x.action || (not (s.kills x.action) && t)) r.2 ∙ e)
onward s g p x d false f e = (x.action ∷ [], go p x here d stop, e)

from_any : (s : Switch) (g : List Site) (row : List Bool) → ((p : ℕ) → holds row p ≡ true → Lies s g p) → (ps : List ℕ) → any_of row ps ≡ true
    → (us : List Action) × Path g ps us × (ahead s us ≡ true)
from_any s g row f ps e = let q = any_there row ps e in let w = f q.0 q.2 in (w.0, elsewhere q.1 w.1, w.2)
  where
    elsewhere : {q : ℕ} {us : List Action} → Among q ps → Path g (q ∷ []) us → Path g ps us
    elsewhere i stop = stop
    elsewhere i (go p x here d rest) = go p x i d rest
    elsewhere i (go p x (there j) d rest) = elim j [ ]

witnessed : (n : ℕ) (s : Switch) (g : List Site) (p : ℕ) → holds (rounds n s g) p ≡ true → Lies s g p
witnessed zero s g p e = never e
witnessed (suc n) s g p e = by (λ q h. witnessed n s g q h) (site_or_none g p)
  where
    by : ((q : ℕ) → holds (rounds n s g) q ≡ true → Lies s g q)
        → ((x : Site) × (site_at g p ≡ Some x)) ⊎ ((s : Switch) (row : List Bool) → holds (foreseen s g row) p ≡ false) → Lies s g p
    by w (inl x) =
        onward s g p x.0 x.1 (any_of (rounds n s g) x.0.next) (λ h. from_any s g (rounds n s g) w x.0.next h) (sym (foreseen_at s g (rounds n s g) p x.0 x.1) ∙ e)
    by w (inr f) = never (sym (f s (rounds n s g)) ∙ e)

-- ---- at a mark

-- behind some site with this action
abbrev Behind : List Site → Action → List Action → Type 0
Behind g a us = (i : ℕ) × (x : Site) × (site_at g i ≡ Some x) × (x.action ≡ a) × Path g x.next us

split : (g : List Site) (ps : List ℕ) (w : List Action) (a : Action) (us : List Action) → Path g ps (w ++ a ∷ us) → Behind g a us
split g ps [] _ us (go p x i d rest) = (p, x, d, refl, rest)
split g ps (_ ∷ w) a us (go p x i d rest) = split g x.next w a us rest

joined : (g : List Site) (i : ℕ) (x : Site) (us : List Action) → site_at g i ≡ Some x → Path g x.next us → {ps : List ℕ} → Comes g ps i
    → (w : List Action) × Path g ps (w ++ x.action ∷ us)
joined g i x us d rest (at_hand j) = ([], go i x j d rest)
joined g i x us d rest (along p y j e c) = let w = joined g i x us d rest c in (y.action ∷ w.0, go p y j e w.1)

abbrev is_mark_at : ℕ → Act → Bool
is_mark_at n (Build tuple [] [] d) = (d.node == n) && (d.which == 0)
is_mark_at n _ = false

abbrev is_shown : Point → Action → Bool
is_shown p a = (a.node == number p) && is_mark_at (number p) a.act

both : (a b : Bool) → a && b ≡ true → (a ≡ true) × (b ≡ true)
both true b e = (refl, e)
both false b e = never e

mark_is : (n : ℕ) (b : Act) → is_mark_at n b ≡ true → b ≡ Build tuple [] [] (temporary_at n 0)
mark_is n (Build tuple [] [] d) e =
    let h = both (d.node == n) (d.which == 0) e in
    ap (λ m. Build tuple [] [] (temporary_at m d.which)) (eqb-true d.node n h.0) ∙ ap (λ m. Build tuple [] [] (temporary_at n m)) (eqb-true d.which 0 h.1)
mark_is n (Build tuple (i ∷ is) ts d) e = never e
mark_is n (Build tuple [] (t ∷ ts) d) e = never e
mark_is n (Build (constant c) is ts d) e = never e
mark_is n (Build negation is ts d) e = never e
mark_is n (Build inversion is ts d) e = never e
mark_is n (Build (operation o) is ts d) e = never e
mark_is n (Build lazy is ts d) e = never e
mark_is n (Build (struct i) is ts d) e = never e
mark_is n (Build (variant_of i v) is ts d) e = never e
mark_is n (Declare x) e = never e
mark_is n (Dead x) e = never e
mark_is n (Read m p d) e = never e
mark_is n (Write p t ss) e = never e
mark_is n (Borrow k p d) e = never e
mark_is n (Test p c) e = never e
mark_is n (Call f ts d) e = never e
mark_is n (Input d) e = never e
mark_is n (Print t) e = never e
mark_is n (Give t) e = never e

shown_is : (p : Point) (a : Action) → is_shown p a ≡ true → a ≡ shown p
shown_is p a e =
    let h = both (a.node == number p) (is_mark_at (number p) a.act) e in
    ap (λ n. does n a.act) (eqb-true a.node (number p) h.0) ∙ ap (λ b. does (number p) b) (mark_is (number p) a.act h.1)

same : (n : ℕ) → n == n ≡ true
same n = eq-eqb n n refl

it_shows : (p : Point) → is_shown p (shown p) ≡ true
it_shows p = ap (λ b. b && (b && true)) (same (number p))

-- something lies ahead behind a site with the mark
abbrev pub behind_mark : Point → List Site → List Bool → Bool
behind_mark p [] row = false
behind_mark p (x ∷ g) row = (is_shown p x.action && any_of row x.next) || behind_mark p g row

abbrev Found : Point → List Site → List Bool → Type 0
Found p g row = (i : ℕ) × (x : Site) × (site_at g i ≡ Some x) × (x.action ≡ shown p) × (any_of row x.next ≡ true)

found : (p : Point) (g : List Site) (row : List Bool) → behind_mark p g row ≡ true → Found p g row
found p [] row e = never e
found p (x ∷ g) row e = by (λ h. found p g row h) (is_shown p x.action && any_of row x.next) refl e
  where
    by : (behind_mark p g row ≡ true → Found p g row) → (b : Bool) → is_shown p x.action && any_of row x.next ≡ b → b || behind_mark p g row ≡ true → Found p (x ∷ g) row
    by later true h e = let k = both (is_shown p x.action) (any_of row x.next) h in (0, x, refl, shown_is p x.action k.0, k.1)
    by later false h e = let f = later e in (suc f.0, f.1, f.2, f.3, f.4)

or_right : (b c : Bool) → c ≡ true → b || c ≡ true
or_right true c e = refl
or_right false c e = e

missed : (p : Point) (g : List Site) (row : List Bool) (i : ℕ) (x : Site) → site_at g i ≡ Some x → x.action ≡ shown p → any_of row x.next ≡ true → behind_mark p g row ≡ true
missed p [] row i x d m e = absurd (cc)
missed p (y ∷ g) row zero x d m e =
    ap (λ b. b || behind_mark p g row) (ap (λ z. is_shown p z.action && any_of row z.next) (ap (site_else y) d) ∙ ap (λ a. is_shown p a && any_of row x.next) m
    ∙ ap (λ b. b && any_of row x.next) (it_shows p) ∙ e)
missed p (y ∷ g) row (suc i) x d m e = or_right (is_shown p y.action && any_of row y.next) (behind_mark p g row) (missed p g row i x d m e)

-- ---- live out

abbrev pub graph_of : Asked → List ℕ → List Site
graph_of A params = graph (marked A.run A.home.around.loops params A.function)

abbrev pub is_live_at : Asked → List ℕ → Exit → ℕ → Bool
is_live_at A params e x = let g = graph_of A params in behind_mark (leaves e) g (row_of (living (variable x)) g)

abbrev pub is_live_out : Asked → List ℕ → List Exit → ℕ → Bool
is_live_out A params [] x = false
is_live_out A params (e ∷ es) x = is_live_at A params e x || is_live_out A params es x

below : (g : List Site) (i : ℕ) (x : Site) → site_at g i ≡ Some x → i < length g
below [] i x e = absurd (cc)
below (y ∷ g) zero x e = omega arith
below (y ∷ g) (suc i) x e = let lt = below g i x e in omega arith

module _ (A : Asked) (params : List ℕ) (x : ℕ) (closed : IsClosed (living (variable x)) (graph_of A params)) where
  abbrev f : Function
  f = marked A.run A.home.around.loops params A.function

  abbrev s : Switch
  s = living (variable x)

  is_live : (e : Exit) → Found (leaves e) (graph f) (row_of s (graph f)) → IsLiveAt A params e x
  is_live e h =
      let u = from_any s (graph f) (row_of s (graph f)) (witnessed (length (graph f) + 1) s (graph f)) h.1.next h.4 in
      let w = joined (graph f) h.0 h.1 u.0 h.2 u.1 (reached f h.0 (below (graph f) h.0 h.1 h.2)) in
      (w.0, u.0, (paths_are_walks_of f (w.0 ++ shown (leaves e) ∷ u.0)).0 (subst (λ a. Path (graph f) (0 ∷ []) (w.0 ++ a ∷ u.0)) h.3 w.1), u.2)

  is_told : (e : Exit) → IsLiveAt A params e x → is_live_at A params e x ≡ true
  is_told e h =
      let b = split (graph f) (0 ∷ []) h.0 (shown (leaves e)) h.1 ((paths_are_walks_of f (h.0 ++ shown (leaves e) ∷ h.1)).1 h.2) in
      missed (leaves e) (graph f) (row_of s (graph f)) b.0 b.1 b.2 b.3 (bounded s (graph f) closed b.4 h.3)

  live_told : (e : Exit) → Decides (is_live_at A params e x) (IsLiveAt A params e x)
  live_told e = (λ h. is_live e (found (leaves e) (graph f) (row_of s (graph f)) h), is_told e)

  abbrev OfSome : List Exit → Type 0
  OfSome es = (e : Exit) × Among e es × IsLiveAt A params e x

  put : (e : Exit) (es : List Exit) → IsLiveAt A params e x ⊎ OfSome es → OfSome (e ∷ es)
  put e es (inl h) = (e, here, h)
  put e es (inr h) = (h.0, there h.1, h.2)

  apart : (e c : Exit) (es : List Exit) → Among c (e ∷ es) → IsLiveAt A params c x → IsLiveAt A params e x ⊎ OfSome es
  apart e _ es here h = inl h
  apart e c es (there i) h = inr (c, i, h)

  pub out_told : (es : List Exit) → Decides (is_live_out A params es x) (OfSome es)
  out_told [] = (λ e. never e, λ h. none h.1)
    where
      none : {e : Exit} {P : Type 0} → Among e [] → P
      none i = elim i [ ]
  out_told (e ∷ es) =
      Decides-like (is_live_out A params (e ∷ es) x) (put e es) (λ h. apart e h.0 es h.1 h.2)
      (Decides-or (is_live_at A params e x) (is_live_out A params es x) (live_told e) (out_told es))

-- ---- the uses of a variable that is set where the run is entered

abbrev pub computed : Asked → List Bool → Plan → ℕ → Uses
computed A muts k x = told A muts x (is_live_out A k.params k.exits x) true

abbrev pub AreRounds : Asked → Plan → ℕ → Type 0
AreRounds A k x = IsClosed (living (variable x)) (graph_of A k.params)

pub computed_are_uses : (A : Asked) (muts : List Bool) (k : Plan) (x : ℕ) → AreRounds A k x → IsSetIn A x → IsUses A muts k x (computed A muts k x)
computed_are_uses A muts k x closed set =
    are_uses A muts k x (is_live_out A k.params k.exits x) true (out_told A k.params x closed k.exits) ((λ e. set), (λ h. refl))
