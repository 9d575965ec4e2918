-- One part and, where it leads this way, another.
use Rattle.std.proofs.Common.{◌≡◌, ℕ, ◌+◌, List, [], ◌∷◌, ◌++◌, length, Bool, true, false, ◌||◌, if◌then◌else◌, Option, Some, None, refl, sym, ap, ◌∙◌, subst, arith, ◌⊎◌, inl, inr, append_assoc, length-append}
use Rattle.rx_lower_walks.specs.Actions.{Action}
use Rattle.rx_lower_walks.specs.Walks.{Among, here, there}
use Rattle.rx_lower_walks.specs.Graph.{Site, Path}
use Rattle.rx_lower_walks.specs.Pieces.{Way, same, Exits, Begin, starts, through, entry, Piece, moved, then_begins, then_ends, onto, then_part}
use Rattle.rx_lower_walks.proofs.Fits.{none_among, among_front, among_back, among_either, no_items, HasAt, has_front, has_back, path_among, entry_starts, entry_through, Entered, by_start, by_way, entered, Walks, after, Splits, split, Begun, begun, Fits, whole, same_self, same_is}

-- ---- begins

pub moved_starts : (n : ℕ) (bs : List Begin) (j : ℕ) → Among (starts j) bs → Among (starts (n + j)) (moved n bs)
moved_starts n [] j m = none_among m
moved_starts n (starts _ ∷ bs) j here = here
moved_starts n (starts i ∷ bs) j (there m) = there (moved_starts n bs j m)
moved_starts n (through q ∷ bs) j (there m) = there (moved_starts n bs j m)

pub moved_through : (n : ℕ) (bs : List Begin) (q : Way) → Among (through q) bs → Among (through q) (moved n bs)
moved_through n [] q m = none_among m
moved_through n (through _ ∷ bs) q here = here
moved_through n (through r ∷ bs) q (there m) = there (moved_through n bs q m)
moved_through n (starts i ∷ bs) q (there m) = there (moved_through n bs q m)

-- what was moved
pub data Moved (n : ℕ) (bs : List Begin) : Begin → Type 0 where
  moves : (j : ℕ) → Among (starts j) bs → Moved n bs (starts (n + j))
  stays : (q : Way) → Among (through q) bs → Moved n bs (through q)

moved_more : (n : ℕ) (c : Begin) (bs : List Begin) (x : Begin) → Moved n bs x → Moved n (c ∷ bs) x
moved_more n c bs _ (moves j m) = moves j (there m)
moved_more n c bs _ (stays q m) = stays q (there m)

pub was_moved : (n : ℕ) (bs : List Begin) (x : Begin) → Among x (moved n bs) → Moved n bs x
was_moved n [] x m = none_among m
was_moved n (starts j ∷ bs) _ here = moves j here
was_moved n (starts j ∷ bs) x (there m) = moved_more n (starts j) bs x (was_moved n bs x m)
was_moved n (through q ∷ bs) _ here = stays q here
was_moved n (through q ∷ bs) x (there m) = moved_more n (through q) bs x (was_moved n bs x m)

own_starts : (c : Way) (bs hs : List Begin) (i : ℕ) → Among (starts i) bs → Among (starts i) (then_begins c bs hs)
own_starts c [] hs i m = none_among m
own_starts c (starts _ ∷ bs) hs i here = here
own_starts c (starts j ∷ bs) hs i (there m) = there (own_starts c bs hs i m)
own_starts c (through q ∷ bs) hs i (there m) = among_back (if same q c then hs else through q ∷ []) _ (own_starts c bs hs i m)

own_through : (c : Way) (bs hs : List Begin) (q : Way) → same q c ≡ false → Among (through q) bs → Among (through q) (then_begins c bs hs)
own_through c [] hs q e m = none_among m
own_through c (through _ ∷ bs) hs q e here = among_front (if same q c then hs else through q ∷ []) _ (rw e here)
own_through c (starts j ∷ bs) hs q e (there m) = there (own_through c bs hs q e m)
own_through c (through r ∷ bs) hs q e (there m) = among_back (if same r c then hs else through r ∷ []) _ (own_through c bs hs q e m)

through_to : (c : Way) (bs hs : List Begin) (x : Begin) → Among (through c) bs → Among x hs → Among x (then_begins c bs hs)
through_to c [] hs x m n = none_among m
through_to c (through _ ∷ bs) hs x here n = among_front (if same c c then hs else through c ∷ []) _ (rw (same_self c) n)
through_to c (starts j ∷ bs) hs x (there m) n = there (through_to c bs hs x m n)
through_to c (through r ∷ bs) hs x (there m) n = among_back (if same r c then hs else through r ∷ []) _ (through_to c bs hs x m n)

-- a begin of the whole
pub data Joined (c : Way) (bs hs : List Begin) : Begin → Type 0 where
  own_start : (i : ℕ) → Among (starts i) bs → Joined c bs hs (starts i)
  own_way : (q : Way) → same q c ≡ false → Among (through q) bs → Joined c bs hs (through q)
  of_next : {x : Begin} → Among (through c) bs → Among x hs → Joined c bs hs x

joined_more : (c : Way) (b : Begin) (bs hs : List Begin) (x : Begin) → Joined c bs hs x → Joined c (b ∷ bs) hs x
joined_more c b bs hs _ (own_start i m) = own_start i (there m)
joined_more c b bs hs _ (own_way q e m) = own_way q e (there m)
joined_more c b bs hs x (of_next m n) = of_next (there m) n

pub joined : (c : Way) (bs hs : List Begin) (x : Begin) → Among x (then_begins c bs hs) → Joined c bs hs x
joined c [] hs x m = none_among m
joined c (starts i ∷ bs) hs _ here = own_start i here
joined c (starts i ∷ bs) hs x (there m) = joined_more c (starts i) bs hs x (joined c bs hs x m)
joined c (through q ∷ bs) hs x m = by (among_either (if same q c then hs else through q ∷ []) (then_begins c bs hs) m) (λ m. joined c bs hs x m)
  where
    own : {x : Begin} → same q c ≡ false → Among x (through q ∷ []) → Joined c (through q ∷ bs) hs x
    own e here = own_way q e here
    own e (there m) = none_among m

    first : (d : Bool) → same q c ≡ d → Among x (if d then hs else through q ∷ []) → Joined c (through q ∷ bs) hs x
    first true e m = of_next (subst (λ (r : Way). Among (through r) (through q ∷ bs)) (same_is q c e) here) m
    first false e m = own e m

    by : Among x (if same q c then hs else through q ∷ []) ⊎ Among x (then_begins c bs hs) → (Among x (then_begins c bs hs) → Joined c bs hs x)
        → Joined c (through q ∷ bs) hs x
    by (inl m) f = first (same q c) refl m
    by (inr m) f = joined_more c (through q) bs hs x (f m)

-- ---- exits

pub onto_same : (c : Way) (e : List ℕ) (k : Exits) → onto c e k c ≡ e
onto_same c e k = rw (same_self c) refl

pub onto_other : (c q : Way) (e : List ℕ) (k : Exits) → same q c ≡ false → onto c e k q ≡ k q
onto_other c q e k z = rw z refl

-- each entry of the first part is one of the whole
pub first_entry : (c : Way) (bs hs : List Begin) (n b : ℕ) (k : Exits) (p : ℕ) → Among p (entry bs b (onto c (entry hs (b + n) k) k))
    → Among p (entry (then_begins c bs (moved n hs)) b k)
first_entry c bs hs n b k p m = by (entered bs b (onto c (entry hs (b + n) k) k) p m)
  where
    behind : {p : ℕ} → Among (through c) bs → Entered hs (b + n) k p → Among p (entry (then_begins c bs (moved n hs)) b k)
    behind m (by_start j o) =
        let e : b + (n + j) ≡ b + n + j = omega arith in
        subst (λ p. Among p (entry (then_begins c bs (moved n hs)) b k)) e (entry_starts _ b k (n + j) (through_to c bs (moved n hs) _ m (moved_starts n hs j o)))
    behind {p = p} m (by_way q o a) = entry_through _ b k q p (through_to c bs (moved n hs) _ m (moved_through n hs q o)) a

    way : {p : ℕ} (q : Way) → Among (through q) bs → (d : Bool) → same q c ≡ d → Among p (if d then entry hs (b + n) k else k q)
        → Among p (entry (then_begins c bs (moved n hs)) b k)
    way {p = p} q m true e a = behind (subst (λ (r : Way). Among (through r) bs) (same_is q c e) m) (entered hs (b + n) k p a)
    way {p = p} q m false e a = entry_through _ b k q p (own_through c bs (moved n hs) q e m) a

    by : {p : ℕ} → Entered bs b (onto c (entry hs (b + n) k) k) p → Among p (entry (then_begins c bs (moved n hs)) b k)
    by (by_start i m) = entry_starts _ b k i (own_starts c bs (moved n hs) i m)
    by (by_way q m a) = way q m (same q c) refl a

-- ---- walks

-- not this way
abbrev pub IsOther : Way → Option Way → Type 0
IsOther c None = Unit {0}
IsOther c (Some q) = same q c ≡ false

pub data Sequence (c : Way) (V W : Walks) : List Action → Option Way → Type 0 where
  both : {us vs : List Action} {e : Option Way} → V us (Some c) → W vs e → Sequence c V W (us ++ vs) e
  first : {us : List Action} {e : Option Way} → V us e → IsOther c e → Sequence c V W us e

pub taken : (c : Bool) (xs : List Site) (g : List Site) (p : ℕ) → c ≡ true → HasAt g p (if c then xs else []) → HasAt g p xs
taken true xs g p e h = h
taken false xs g p e h = absurd (cc)

pub or_true : (b : Bool) → (b || true) ≡ true
or_true true = refl
or_true false = refl

pub ends_both : (c : Way) (f h : Way → Bool) (q : Way) → f c ≡ true → h q ≡ true → then_ends c f h q ≡ true
ends_both c f h q e d = rw (e, d) (or_true _)

pub ends_first : (c : Way) (f h : Way → Bool) (q : Way) → same q c ≡ false → f q ≡ true → then_ends c f h q ≡ true
ends_first c f h q z e = rw (z, e) refl

module _ (c : Way) (V W : List Action → Option Way → Type 0) (f h : Piece) (fv : Fits V f) (hw : Fits W h) where
  -- the exits of the first part
  abbrev mid : ℕ → Exits → Exits
  mid b k = onto c (entry h.begins (b + f.size) k) k

  pub front : (g : List Site) (b : ℕ) (k : Exits) → HasAt g b ((then_part c f h).sites b k) → HasAt g b (f.sites b (mid b k))
  front g b k has = has_front g b (f.sites b (mid b k)) _ has

  pub rear : (g : List Site) (b : ℕ) (k : Exits) → f.ends c ≡ true → HasAt g b ((then_part c f h).sites b k) → HasAt g (b + f.size) (h.sites (b + f.size) k)
  rear g b k e has = taken (f.ends c) _ g _ e (has_back g b (b + f.size) (f.sites b (mid b k)) _ (omega (arith, fv.long b (mid b k))) has)

  then_long : (b : ℕ) (k : Exits) → length ((then_part c f h).sites b k) ≡ (then_part c f h).size
  then_long b k = length-append (f.sites b (mid b k)) _ ∙ cond_long (f.ends c)
    where
      cond_long : (c : Bool) → length (f.sites b (mid b k)) + length (if c then h.sites (b + f.size) k else []) ≡ f.size + (if c then h.size else 0)
      cond_long true = omega (arith, fv.long b (mid b k), hw.long (b + f.size) k)
      cond_long false = omega (arith, fv.long b (mid b k))

  then_ended : (us : List Action) (q : Way) → Sequence c V W us (Some q) → then_ends c f.ends h.ends q ≡ true
  then_ended us q (both {us = xs} {vs = ys} v w) = ends_both c f.ends h.ends q (fv.ended xs c v) (hw.ended ys q w)
  then_ended us q (first v i) = ends_first c f.ends h.ends q i (fv.ended us q v)

  then_silent : (us : List Action) (q : Way) → us ≡ [] → Sequence c V W us (Some q) → Among (through q) (then_begins c f.begins (moved f.size h.begins))
  then_silent us q e (both {us = xs} {vs = ys} v w) =
      let parts = no_items xs ys e in
      through_to c f.begins (moved f.size h.begins) (through q) (fv.silent c (subst (λ xs. V xs (Some c)) parts.0 v)) (moved_through f.size h.begins q (hw.silent q (subst (λ ys. W ys (Some q)) parts.1 w)))
  then_silent us q e (first v i) = own_through c f.begins (moved f.size h.begins) q i (fv.silent q (subst (λ us. V us (Some q)) e v))

  next_idle : (q : Way) → Among (through c) f.begins → Moved f.size h.begins (through q) → Sequence c V W [] (Some q)
  next_idle _ m (stays q n) = both (fv.idle c m) (hw.idle q n)

  then_idle : (q : Way) → Joined c f.begins (moved f.size h.begins) (through q) → Sequence c V W [] (Some q)
  then_idle _ (own_way q e m) = first (fv.idle q m) e
  then_idle q (of_next m n) = next_idle q m (was_moved f.size h.begins (through q) n)

  then_forth : (g : List Site) (b : ℕ) (k : Exits) → HasAt g b ((then_part c f h).sites b k) → (us vs : List Action) (e : Option Way)
      → Sequence c V W us e → Path g (after k e) vs → Path g (entry (then_begins c f.begins (moved f.size h.begins)) b k) (us ++ vs)
  then_forth g b k has us vs e w l = path_among g _ _ (us ++ vs) (first_entry c f.begins h.begins f.size b k) (by us e w l)
    where
      mid_after : (e : Option Way) → IsOther c e → after (mid b k) e ≡ after k e
      mid_after None i = refl
      mid_after (Some q) i = onto_other c q _ k i

      by : (us : List Action) (e : Option Way) → Sequence c V W us e → Path g (after k e) vs → Path g (entry f.begins b (mid b k)) (us ++ vs)
      by us e (both {us = xs} {vs = ys} v w) l =
          rw append_assoc (fv.forth g b (mid b k) (front g b k has) xs (ys ++ vs) (Some c) v (subst (λ (ps : List ℕ). Path g ps (ys ++ vs)) (sym (onto_same c _ k)) (hw.forth g (b + f.size) k (rear g b k (fv.ended xs c v) has) ys vs e w l)))
      by us e (first v i) l = fv.forth g b (mid b k) (front g b k has) us vs e v (subst (λ (ps : List ℕ). Path g ps vs) (sym (mid_after e i)) l)

  -- a path from what follows the first part
  behind : (g : List Site) (b : ℕ) (k : Exits) → HasAt g b ((then_part c f h).sites b k) → (u : Action) (us xs vs : List Action) → us ≡ xs ++ vs
      → V (u ∷ xs) (Some c) → Splits W g k vs → Begun (Sequence c V W) g k u us
  behind g b k has u us xs vs e v (split ys zs o d w l) = begun (xs ++ ys) zs o (e ∙ ap (λ vs. xs ++ vs) d ∙ sym (append_assoc xs ys zs)) (both v w) l

  own_back : (g : List Site) (b : ℕ) (k : Exits) → HasAt g b ((then_part c f h).sites b k) → (u : Action) (us : List Action)
      → Begun V g (mid b k) u us → Begun (Sequence c V W) g k u us
  own_back g b k has u us (begun xs vs None e v l) = begun xs vs None e (first v tt) l
  own_back g b k has u us (begun xs vs (Some q) e v l) = by (same q c) refl
    where
      by : (s : Bool) → same q c ≡ s → Begun (Sequence c V W) g k u us
      by true s =
          let at : q ≡ c = same_is q c s in
          let w : V (u ∷ xs) (Some c) = subst (λ (q : Way). V (u ∷ xs) (Some q)) at v in
          behind g b k has u us xs vs e w (whole W h hw g (b + f.size) k (rear g b k (fv.ended (u ∷ xs) c w) has) vs (subst (λ (ps : List ℕ). Path g ps vs) (ap (mid b k) at ∙ onto_same c _ k) l))
      by false s = begun xs vs (Some q) e (first v s) (subst (λ (ps : List ℕ). Path g ps vs) (onto_other c q _ k s) l)

  next_back : (g : List Site) (b : ℕ) (k : Exits) → HasAt g b ((then_part c f h).sites b k) → Among (through c) f.begins → (i : ℕ)
      → Moved f.size h.begins (starts i) → (u : Action) (us : List Action) → Path g ((b + i) ∷ []) (u ∷ us) → Begun (Sequence c V W) g k u us
  next_back g b k has m _ (moves j n) u us l =
      let e : b + (f.size + j) ≡ b + f.size + j = omega arith in
      follows (hw.back g (b + f.size) k (rear g b k (fv.ended [] c (fv.idle c m)) has) j n u us (subst (λ n. Path g (n ∷ []) (u ∷ us)) e l))
    where
      follows : Begun W g k u us → Begun (Sequence c V W) g k u us
      follows (begun xs vs o d w r) = begun xs vs o d (both (fv.idle c m) w) r

  then_back : (g : List Site) (b : ℕ) (k : Exits) → HasAt g b ((then_part c f h).sites b k) → (i : ℕ)
      → Joined c f.begins (moved f.size h.begins) (starts i) → (u : Action) (us : List Action) → Path g ((b + i) ∷ []) (u ∷ us)
      → Begun (Sequence c V W) g k u us
  then_back g b k has _ (own_start i m) u us l = own_back g b k has u us (fv.back g b (mid b k) (front g b k has) i m u us l)
  then_back g b k has i (of_next m n) u us l = next_back g b k has m i (was_moved f.size h.begins (starts i) n) u us l

  pub then_fits : Fits (Sequence c V W) (then_part c f h)
  then_fits = record {
    long = then_long;
    ended = then_ended;
    silent = λ q w. then_silent [] q refl w;
    idle = λ q m. then_idle q (joined c f.begins (moved f.size h.begins) (through q) m);
    rested = first fv.rested tt;
    forth = then_forth;
    back = λ g b k has i m u us l. then_back g b k has i (joined c f.begins (moved f.size h.begins) (starts i) m) u us l;
  }
