-- What a piece has to do with the walks of its part, and the pieces with one site or none.
use Rattle.std.proofs.Common.{◌≡◌, ℕ, ◌+◌, ◌==◌, List, [], ◌∷◌, ◌++◌, length, Bool, true, false, if◌then◌else◌, Option, Some, None, refl, sym, ap, ◌∙◌, subst, arith, ◌⊎◌, inl, inr}
use Rattle.std.proofs.lemmas.Bool.Decides.{nat_tests, Decides-eqb}
use Rattle.rx_lower_walks.specs.Actions.{Action}
use Rattle.rx_lower_walks.specs.Walks.{Among, here, there}
use Rattle.rx_lower_walks.specs.Graph.{Site, site_at, Path, stop, go}
use Rattle.rx_lower_walks.specs.Pieces.{Way, ahead, breaking, continuing, returning, failing, same, Exits, Begin, starts, through, entry, Piece, nowhere_part, leads_part, without, distinct, act_part}

-- ---- lists

pub none_among : {A : Type 0} {a : A} {B : Type 0} → Among a [] → B
none_among m = elim m [ ]

pub among_front : {A : Type 0} {a : A} (us vs : List A) → Among a us → Among a (us ++ vs)
among_front _ vs here = here
among_front _ vs (there m) = there (among_front _ vs m)

pub among_back : {A : Type 0} {a : A} (us vs : List A) → Among a vs → Among a (us ++ vs)
among_back [] vs m = m
among_back (u ∷ us) vs m = there (among_back us vs m)

pub among_either : {A : Type 0} {a : A} (us vs : List A) → Among a (us ++ vs) → Among a us ⊎ Among a vs
among_either [] vs m = inr m
among_either (u ∷ us) vs here = inl here
among_either {a = a} (u ∷ us) vs (there m) = by (among_either us vs m)
  where
    by : Among a us ⊎ Among a vs → Among a (u ∷ us) ⊎ Among a vs
    by (inl n) = inl (there n)
    by (inr n) = inr n

pub append_nil : {A : Type 0} (w : List A) → w ++ [] ≡ w
append_nil [] = refl
append_nil (a ∷ w) = rw (append_nil w)

pub no_items : {A : Type 0} (xs ys : List A) → xs ++ ys ≡ [] → (xs ≡ []) × (ys ≡ [])
no_items [] ys e = (refl, e)
no_items (x ∷ xs) ys e = absurd (cc)

-- ---- each number once

pub eqb_self : (l : ℕ) → (l == l) ≡ true
eqb_self l = grind (arith, nat_tests)

apart : (r : ℕ) (ps : List ℕ) (p : ℕ) → (p == r) ≡ false → Among p ps → Among p (without r ps)
apart r [] p e m = none_among m
apart r (q ∷ qs) p e here = rw e here
apart r (q ∷ qs) p e (there m) = by (q == r) (apart r qs p e m)
  where
    by : (c : Bool) → Among p (without r qs) → Among p (if c then without r qs else q ∷ without r qs)
    by true m = m
    by false m = there m

pub either_more : {A : Type 0} {a b : A} {us vs : List A} → (Among a us → Among a vs) → Among a (b ∷ us) → Among a (b ∷ vs)
either_more f here = here
either_more f (there m) = there (f m)

pub kept : (r : ℕ) (ps : List ℕ) (p : ℕ) → Among p (without r ps) → Among p ps
kept r [] p m = none_among m
kept r (q ∷ qs) p m = by (q == r) (λ m. kept r qs p m) m
  where
    by : (c : Bool) → (Among p (without r qs) → Among p qs) → Among p (if c then without r qs else q ∷ without r qs) → Among p (q ∷ qs)
    by true f m = there (f m)
    by false f m = either_more f m

pub to_distinct : (ps : List ℕ) (p : ℕ) → Among p ps → Among p (distinct ps)
to_distinct [] p m = none_among m
to_distinct (q ∷ qs) p here = here
to_distinct (q ∷ qs) p (there m) = by (p == q) refl (to_distinct qs p m)
  where
    by : (c : Bool) → (p == q) ≡ c → Among p (distinct qs) → Among p (q ∷ without q (distinct qs))
    by true e m = subst (λ r. Among r (q ∷ without q (distinct qs))) (sym ((Decides-eqb p q).0 e)) here
    by false e m = there (apart q (distinct qs) p e m)

pub from_distinct : (ps : List ℕ) (p : ℕ) → Among p (distinct ps) → Among p ps
from_distinct [] p m = none_among m
from_distinct (q ∷ qs) p here = here
from_distinct (q ∷ qs) p (there m) = there (from_distinct qs p (kept q (distinct qs) p m))

-- ---- graphs and paths

-- these sites stand in the graph from this number on
abbrev pub HasAt : List Site → ℕ → List Site → Type 0
HasAt g b [] = Unit {0}
HasAt g b (s ∷ ss) = (site_at g b ≡ Some s) × HasAt g (b + 1) ss

pub has_front : (g : List Site) (b : ℕ) (xs ys : List Site) → HasAt g b (xs ++ ys) → HasAt g b xs
has_front g b [] ys h = tt
has_front g b (n ∷ xs) ys h = (h.0, has_front g (b + 1) xs ys h.1)

pub has_back : (g : List Site) (b c : ℕ) (xs ys : List Site) → c ≡ b + length xs → HasAt g b (xs ++ ys) → HasAt g c ys
has_back g b c [] ys e h = let f : b ≡ c = omega arith in subst (λ n. HasAt g n ys) f h
has_back g b c (n ∷ xs) ys e h = has_back g (b + 1) c xs ys (omega arith) h.1

pub path_among : (g : List Site) (ps qs : List ℕ) (us : List Action) → ((p : ℕ) → Among p ps → Among p qs) → Path g ps us → Path g qs us
path_among g ps qs us m stop = stop
path_among g ps qs us m (go p s a e rest) = go p s (m p a) e rest

pub none_left : (g : List Site) (us : List Action) → Path g [] us → us ≡ []
none_left g us stop = refl
none_left g us (go p s a f rest) = none_among a

-- ---- entries

pub entry_starts : (bs : List Begin) (b : ℕ) (k : Exits) (i : ℕ) → Among (starts i) bs → Among (b + i) (entry bs b k)
entry_starts [] b k i m = none_among m
entry_starts (starts _ ∷ bs) b k i here = here
entry_starts (starts j ∷ bs) b k i (there m) = there (entry_starts bs b k i m)
entry_starts (through q ∷ bs) b k i (there m) = among_back (k q) (entry bs b k) (entry_starts bs b k i m)

pub entry_through : (bs : List Begin) (b : ℕ) (k : Exits) (q : Way) (p : ℕ) → Among (through q) bs → Among p (k q) → Among p (entry bs b k)
entry_through [] b k q p m n = none_among m
entry_through (through _ ∷ bs) b k q p here n = among_front (k q) (entry bs b k) n
entry_through (starts j ∷ bs) b k q p (there m) n = there (entry_through bs b k q p m n)
entry_through (through r ∷ bs) b k q p (there m) n = among_back (k r) (entry bs b k) (entry_through bs b k q p m n)

-- how an entry comes about
pub data Entered (bs : List Begin) (b : ℕ) (k : Exits) : ℕ → Type 0 where
  by_start : (i : ℕ) → Among (starts i) bs → Entered bs b k (b + i)
  by_way : {p : ℕ} (q : Way) → Among (through q) bs → Among p (k q) → Entered bs b k p

entered_more : (c : Begin) (bs : List Begin) (b : ℕ) (k : Exits) (p : ℕ) → Entered bs b k p → Entered (c ∷ bs) b k p
entered_more c bs b k _ (by_start i m) = by_start i (there m)
entered_more c bs b k p (by_way q m n) = by_way q (there m) n

pub entered : (bs : List Begin) (b : ℕ) (k : Exits) (p : ℕ) → Among p (entry bs b k) → Entered bs b k p
entered [] b k p m = none_among m
entered (starts i ∷ bs) b k _ here = by_start i here
entered (starts i ∷ bs) b k p (there m) = entered_more (starts i) bs b k p (entered bs b k p m)
entered (through q ∷ bs) b k p m = by (λ n. entered bs b k p n) (among_either (k q) (entry bs b k) m)
  where
    by : (Among p (entry bs b k) → Entered bs b k p) → Among p (k q) ⊎ Among p (entry bs b k) → Entered (through q ∷ bs) b k p
    by f (inl n) = by_way q here n
    by f (inr n) = entered_more (through q) bs b k p (f n)

-- ---- walks and pieces

-- the walks of a part: the actions, and the way that they lead; none where they stop
abbrev pub Walks : Type 1
Walks = List Action → Option Way → Type 0

abbrev pub after : Exits → Option Way → List ℕ
after k None = []
after k (Some q) = k q

-- a path from a part's begin is a walk of the part, and then a path from where the walk leads
pub data Splits (W : Walks) (g : List Site) (k : Exits) (us : List Action) : Type 0 where
  split : (xs vs : List Action) (e : Option Way) → us ≡ xs ++ vs → W xs e → Path g (after k e) vs → Splits W g k us

-- that begins with this action
pub data Begun (W : Walks) (g : List Site) (k : Exits) (u : Action) (us : List Action) : Type 0 where
  begun : (xs vs : List Action) (e : Option Way) → us ≡ xs ++ vs → W (u ∷ xs) e → Path g (after k e) vs → Begun W g k u us

pub record Fits (W : Walks) (f : Piece) : Type 0 where
  pub long : (b : ℕ) (k : Exits) → length (f.sites b k) ≡ f.size
  pub ended : (us : List Action) (q : Way) → W us (Some q) → f.ends q ≡ true
  pub silent : (q : Way) → W [] (Some q) → Among (through q) f.begins
  pub idle : (q : Way) → Among (through q) f.begins → W [] (Some q)
  pub rested : W [] None
  pub forth : (g : List Site) (b : ℕ) (k : Exits) → HasAt g b (f.sites b k) → (us vs : List Action) (e : Option Way) → W us e
      → Path g (after k e) vs → Path g (entry f.begins b k) (us ++ vs)
  pub back : (g : List Site) (b : ℕ) (k : Exits) → HasAt g b (f.sites b k) → (i : ℕ) → Among (starts i) f.begins
      → (u : Action) (us : List Action) → Path g ((b + i) ∷ []) (u ∷ us) → Begun W g k u us

-- a path from any begin
pub whole : (W : Walks) (f : Piece) → Fits W f → (g : List Site) (b : ℕ) (k : Exits) → HasAt g b (f.sites b k) → (us : List Action)
    → Path g (entry f.begins b k) us → Splits W g k us
whole W f fits g b k has us stop = split [] [] None refl fits.rested stop
whole W f fits g b k has us (go {us = ts} p s a e rest) = by (entered f.begins b k p a) e
  where
    of_start : {us : List Action} → Begun W g k s.action us → Splits W g k (s.action ∷ us)
    of_start (begun xs vs o d w l) = split (s.action ∷ xs) vs o (ap (λ ts. s.action ∷ ts) d) w l

    by : {p : ℕ} → Entered f.begins b k p → site_at g p ≡ Some s → Splits W g k (s.action ∷ ts)
    by (by_start i m) e = of_start (fits.back g b k has i m s.action ts (go (b + i) s here e rest))
    by {p = p} (by_way q m n) e = split [] (s.action ∷ ts) (Some q) refl (fits.idle q m) (go p s n e rest)

-- ---- ways

pub same_self : (p : Way) → same p p ≡ true
same_self ahead = refl
same_self (breaking l) = eqb_self l
same_self (continuing l) = eqb_self l
same_self returning = refl
same_self failing = refl

pub same_is : (q p : Way) → same q p ≡ true → q ≡ p
same_is ahead ahead e = refl
same_is (breaking l) (breaking m) e = ap breaking ((Decides-eqb l m).0 e)
same_is (continuing l) (continuing m) e = ap continuing ((Decides-eqb l m).0 e)
same_is returning returning e = refl
same_is failing failing e = refl
same_is _ _ e = absurd (cc)

-- ---- no action

pub data Rests : List Action → Option Way → Type 0 where
  rests : Rests [] None

pub nowhere_fits : Fits Rests nowhere_part
nowhere_fits = record {
  long = λ b k. refl;
  ended = λ us q w. none w;
  silent = λ q w. none w;
  idle = λ q m. none_among m;
  rested = rests;
  forth = λ g b k has us vs e w l. forth g k us vs e w l;
  back = λ g b k has i m u us p. none_among m;
}
  where
    none : {us : List Action} {q : Way} {B : Type 0} → Rests us (Some q) → B
    none w = elim w [ ]

    forth : (g : List Site) (k : Exits) (us vs : List Action) (e : Option Way) → Rests us e → Path g (after k e) vs → Path g [] (us ++ vs)
    forth g k us vs e rests l = l

-- ---- no action, and this way

pub data Leads (p : Way) : List Action → Option Way → Type 0 where
  not_yet : Leads p [] None
  leads : Leads p [] (Some p)

pub leads_fits : (p : Way) → Fits (Leads p) (leads_part p)
leads_fits p = record {
  long = λ b k. refl;
  ended = λ us q w. ended us q w;
  silent = λ q w. silent q w;
  idle = λ q m. idle q m;
  rested = not_yet;
  forth = λ g b k has us vs e w l. forth g b k us vs e w l;
  back = λ g b k has i m u us l. none_starts i m;
}
  where
    ended : (us : List Action) (q : Way) → Leads p us (Some q) → same q p ≡ true
    ended us q leads = same_self p

    silent : (q : Way) → Leads p [] (Some q) → Among (through q) (through p ∷ [])
    silent q leads = here

    idle : (q : Way) → Among (through q) (through p ∷ []) → Leads p [] (Some q)
    idle q here = leads
    idle q (there m) = none_among m

    none_starts : {B : Type 0} (i : ℕ) → Among (starts i) (through p ∷ []) → B
    none_starts i (there m) = none_among m

    forth : (g : List Site) (b : ℕ) (k : Exits) (us vs : List Action) (e : Option Way) → Leads p us e → Path g (after k e) vs → Path g (k p ++ []) (us ++ vs)
    forth g b k us vs e not_yet l = path_among g [] _ _ (λ r m. none_among m) l
    forth g b k us vs e leads l = path_among g (k p) _ _ (λ r m. among_front (k p) [] m) l

-- ---- one action

pub data Does (a : Action) : List Action → Option Way → Type 0 where
  undone : Does a [] None
  halted : Does a (a ∷ []) None
  done : Does a (a ∷ []) (Some ahead)

pub act_fits : (a : Action) → Fits (Does a) (act_part a)
act_fits a = record {
  long = λ b k. refl;
  ended = λ us q w. ended us q w;
  silent = λ q w. silent [] q refl w;
  idle = λ q m. idle q m;
  rested = undone;
  forth = λ g b k has us vs e w l. forth g b k has.0 us vs e w l;
  back = λ g b k has i m u us l. back g b k has.0 i m u us l;
}
  where
    ended : (us : List Action) (q : Way) → Does a us (Some q) → same q ahead ≡ true
    ended us q done = refl

    silent : (us : List Action) (q : Way) → us ≡ [] → Does a us (Some q) → Among (through q) (starts 0 ∷ [])
    silent us q e done = absurd (cc)

    idle : (q : Way) → Among (through q) (starts 0 ∷ []) → Does a [] (Some q)
    idle q (there m) = none_among m

    forth : (g : List Site) (b : ℕ) (k : Exits) → site_at g b ≡ Some (record { action = a; next = distinct (k ahead) })
        → (us vs : List Action) (e : Option Way) → Does a us e → Path g (after k e) vs → Path g ((b + 0) ∷ []) (us ++ vs)
    forth g b k at us vs e undone l = path_among g [] _ _ (λ r m. none_among m) l
    forth g b k at us vs e halted l = go (b + 0) (record { action = a; next = distinct (k ahead) }) here (let f : b ≡ b + 0 = omega arith in subst (λ n. site_at g n ≡ Some (record { action = a; next = distinct (k ahead) })) f at) (path_among g [] _ _ (λ r m. none_among m) l)
    forth g b k at us vs e done l = go (b + 0) (record { action = a; next = distinct (k ahead) }) here (let f : b ≡ b + 0 = omega arith in subst (λ n. site_at g n ≡ Some (record { action = a; next = distinct (k ahead) })) f at) (path_among g (k ahead) _ _ (λ r m. to_distinct (k ahead) r m) l)

    of_site : (g : List Site) (k : Exits) (u : Action) (us : List Action) (s : Site) → s ≡ record { action = a; next = distinct (k ahead) }
        → s.action ≡ u → Path g s.next us → Begun (Does a) g k u us
    of_site g k u us s e d l =
        let same_act : a ≡ u = sym (ap (λ (s : Site). s.action) e) ∙ d in
        begun [] us (Some ahead) refl (subst (λ u. Does a (u ∷ []) (Some ahead)) same_act done)
        (path_among g (distinct (k ahead)) _ _ (λ r m. from_distinct (k ahead) r m) (subst (λ (s : Site). Path g s.next us) e l))

    at_zero : (g : List Site) (b : ℕ) (k : Exits) → site_at g b ≡ Some (record { action = a; next = distinct (k ahead) })
        → (ps : List ℕ) (u : Action) (us ts : List Action) → ps ≡ (b + 0) ∷ [] → ts ≡ u ∷ us → Path g ps ts → Begun (Does a) g k u us
    at_zero g b k at ps u us ts e d stop = absurd (cc)
    at_zero g b k at ps u us ts e d (go {us = rs} p s m f rest) =
        let first : p ≡ b + 0 = only p (b + 0) (subst (λ ps. Among p ps) e m) in
        let z : p ≡ b = omega (arith, first) in
        let same_site : s ≡ record { action = a; next = distinct (k ahead) } = some_is (sym (subst (λ n. site_at g n ≡ Some s) z f) ∙ at) in
        of_site g k u us s same_site (head_is d) (subst (λ us. Path g s.next us) (tail_is d) rest)
      where
        only : (p q : ℕ) → Among p (q ∷ []) → p ≡ q
        only p q here = refl
        only p q (there m) = none_among m

        some_is : {s t : Site} → Some s ≡ Some t → s ≡ t
        some_is e = cc

        head_is : {u v : Action} {us vs : List Action} → u ∷ us ≡ v ∷ vs → u ≡ v
        head_is e = cc

        tail_is : {u v : Action} {us vs : List Action} → u ∷ us ≡ v ∷ vs → us ≡ vs
        tail_is e = cc

    back : (g : List Site) (b : ℕ) (k : Exits) → site_at g b ≡ Some (record { action = a; next = distinct (k ahead) }) → (i : ℕ)
        → Among (starts i) (starts 0 ∷ []) → (u : Action) (us : List Action) → Path g ((b + i) ∷ []) (u ∷ us) → Begun (Does a) g k u us
    back g b k at i here u us l = at_zero g b k at _ u us _ refl refl l
    back g b k at i (there m) u us l = none_among m
