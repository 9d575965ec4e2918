-- One of two parts.
use Rattle.std.proofs.Common.{◌≡◌, ℕ, ◌+◌, List, [], ◌∷◌, ◌++◌, length, true, ◌||◌, Option, Some, refl, ◌∙◌, subst, arith, ◌⊎◌, inl, inr, length-append}
use Rattle.rx_lower_walks.specs.Actions.{Action}
use Rattle.rx_lower_walks.specs.Walks.{Among}
use Rattle.rx_lower_walks.specs.Graph.{Site, Path}
use Rattle.rx_lower_walks.specs.Pieces.{Way, Exits, Begin, starts, through, entry, Piece, moved, or_part}
use Rattle.rx_lower_walks.proofs.Fits.{among_front, among_back, among_either, HasAt, has_front, has_back, path_among, entry_starts, entry_through, Entered, by_start, by_way, entered, Walks, after, Begun, begun, Fits}
use Rattle.rx_lower_walks.proofs.Sequences.{moved_starts, moved_through, Moved, moves, stays, was_moved, or_true}

pub data Either (V W : Walks) : List Action → Option Way → Type 0 where
  one : {us : List Action} {e : Option Way} → V us e → Either V W us e
  other : {us : List Action} {e : Option Way} → W us e → Either V W us e

-- each entry of either part is one of the whole
pub one_entry : (bs hs : List Begin) (b : ℕ) (k : Exits) (p : ℕ) → Among p (entry bs b k) → Among p (entry (bs ++ hs) b k)
one_entry bs hs b k p m = by (entered bs b k p m)
  where
    by : {p : ℕ} → Entered bs b k p → Among p (entry (bs ++ hs) b k)
    by (by_start i n) = entry_starts (bs ++ hs) b k i (among_front bs hs n)
    by {p = p} (by_way q n a) = entry_through (bs ++ hs) b k q p (among_front bs hs n) a

pub other_entry : (bs hs : List Begin) (n b : ℕ) (k : Exits) (p : ℕ) → Among p (entry hs (b + n) k) → Among p (entry (bs ++ moved n hs) b k)
other_entry bs hs n b k p m = by (entered hs (b + n) k p m)
  where
    by : {p : ℕ} → Entered hs (b + n) k p → Among p (entry (bs ++ moved n hs) b k)
    by (by_start j o) =
        let e : b + (n + j) ≡ b + n + j = omega arith in
        subst (λ p. Among p (entry (bs ++ moved n hs) b k)) e (entry_starts (bs ++ moved n hs) b k (n + j) (among_back bs (moved n hs) (moved_starts n hs j o)))
    by {p = p} (by_way q o a) = entry_through (bs ++ moved n hs) b k q p (among_back bs (moved n hs) (moved_through n hs q o)) a

module _ (V W : List Action → Option Way → Type 0) (f h : Piece) (fv : Fits V f) (hw : Fits W h) where
  pub or_front : (g : List Site) (b : ℕ) (k : Exits) → HasAt g b ((or_part f h).sites b k) → HasAt g b (f.sites b k)
  or_front g b k has = has_front g b (f.sites b k) _ has

  pub or_rear : (g : List Site) (b : ℕ) (k : Exits) → HasAt g b ((or_part f h).sites b k) → HasAt g (b + f.size) (h.sites (b + f.size) k)
  or_rear g b k has = has_back g b (b + f.size) (f.sites b k) _ (omega (arith, fv.long b k)) has

  or_long : (b : ℕ) (k : Exits) → length ((or_part f h).sites b k) ≡ (or_part f h).size
  or_long b k = length-append (f.sites b k) _ ∙ omega (arith, fv.long b k, hw.long (b + f.size) k)

  or_ended : (us : List Action) (q : Way) → Either V W us (Some q) → (f.ends q || h.ends q) ≡ true
  or_ended us q (one v) = rw (fv.ended us q v) refl
  or_ended us q (other w) = rw (hw.ended us q w) (or_true _)

  or_silent : (q : Way) → Either V W [] (Some q) → Among (through q) (f.begins ++ moved f.size h.begins)
  or_silent q (one v) = among_front f.begins _ (fv.silent q v)
  or_silent q (other w) = among_back f.begins _ (moved_through f.size h.begins q (hw.silent q w))

  other_idle : (q : Way) → Moved f.size h.begins (through q) → Either V W [] (Some q)
  other_idle _ (stays q n) = other (hw.idle q n)

  or_idle : (q : Way) → Among (through q) f.begins ⊎ Among (through q) (moved f.size h.begins) → Either V W [] (Some q)
  or_idle q (inl m) = one (fv.idle q m)
  or_idle q (inr m) = other_idle q (was_moved f.size h.begins (through q) m)

  or_forth : (g : List Site) (b : ℕ) (k : Exits) → HasAt g b ((or_part f h).sites b k) → (us vs : List Action) (e : Option Way) → Either V W us e
      → Path g (after k e) vs → Path g (entry (f.begins ++ moved f.size h.begins) b k) (us ++ vs)
  or_forth g b k has us vs e (one v) l = path_among g _ _ (us ++ vs) (one_entry f.begins (moved f.size h.begins) b k) (fv.forth g b k (or_front g b k has) us vs e v l)
  or_forth g b k has us vs e (other w) l = path_among g _ _ (us ++ vs) (other_entry f.begins h.begins f.size b k) (hw.forth g (b + f.size) k (or_rear g b k has) us vs e w l)

  in_one : (g : List Site) (k : Exits) (u : Action) (us : List Action) → Begun V g k u us → Begun (Either V W) g k u us
  in_one g k u us (begun xs vs o d v r) = begun xs vs o d (one v) r

  in_other : (g : List Site) (k : Exits) (u : Action) (us : List Action) → Begun W g k u us → Begun (Either V W) g k u us
  in_other g k u us (begun xs vs o d w r) = begun xs vs o d (other w) r

  other_back : (g : List Site) (b : ℕ) (k : Exits) → HasAt g b ((or_part f h).sites b k) → (i : ℕ) → Moved f.size h.begins (starts i)
      → (u : Action) (us : List Action) → Path g ((b + i) ∷ []) (u ∷ us) → Begun (Either V W) g k u us
  other_back g b k has _ (moves j n) u us l =
      let e : b + (f.size + j) ≡ b + f.size + j = omega arith in
      in_other g k u us (hw.back g (b + f.size) k (or_rear g b k has) j n u us (subst (λ n. Path g (n ∷ []) (u ∷ us)) e l))

  or_back : (g : List Site) (b : ℕ) (k : Exits) → HasAt g b ((or_part f h).sites b k) → (i : ℕ)
      → Among (starts i) f.begins ⊎ Among (starts i) (moved f.size h.begins) → (u : Action) (us : List Action) → Path g ((b + i) ∷ []) (u ∷ us)
      → Begun (Either V W) g k u us
  or_back g b k has i (inl m) u us l = in_one g k u us (fv.back g b k (or_front g b k has) i m u us l)
  or_back g b k has i (inr m) u us l = other_back g b k has i (was_moved f.size h.begins (starts i) m) u us l

  pub or_fits : Fits (Either V W) (or_part f h)
  or_fits = record {
    long = or_long;
    ended = or_ended;
    silent = or_silent;
    idle = λ q m. or_idle q (among_either f.begins _ m);
    rested = one fv.rested;
    forth = or_forth;
    back = λ g b k has i m u us l. or_back g b k has i (among_either f.begins _ m) u us l;
  }
