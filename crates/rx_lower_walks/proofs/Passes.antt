-- Any number of passes.
use Rattle.std.proofs.Common.{◌≡◌, ℕ, zero, suc, ◌+◌, ◌==◌, ◌≤◌, List, [], ◌∷◌, ◌++◌, length, Bool, true, false, if◌then◌else◌, Option, Some, None, refl, sym, ap, ◌∙◌, subst, arith, ◌⊎◌, inl, inr, append_assoc, length-append, le_refl}
use Rattle.std.proofs.lemmas.Bool.Decides.{Decides-eqb}
use Rattle.rx_lower_walks.specs.Actions.{Action}
use Rattle.rx_lower_walks.specs.Walks.{Among, here, there}
use Rattle.rx_lower_walks.specs.Graph.{Site, Path, stop, go}
use Rattle.rx_lower_walks.specs.Pieces.{Way, ahead, breaking, continuing, returning, failing, Turn, once_more, out, cut_off, turn, Exits, Begin, starts, through, entry, Piece, turned, round, inside_of, inside, loop_ends, loop_part}
use Rattle.rx_lower_walks.proofs.Fits.{none_among, among_front, among_back, among_either, no_items, HasAt, path_among, none_left, entry_starts, entry_through, Entered, by_start, by_way, entered, Walks, after, Splits, split, Begun, begun, Fits}

pub data Passes (l : ℕ) (W : Walks) : List Action → Option Way → Type 0 where
  no_pass : Passes l W [] None
  -- it stops behind a pass, or in it
  halts : {us : List Action} {e : Option Way} → W us e → Passes l W us None
  last : {us : List Action} {q p : Way} → W us (Some q) → turn l q ≡ out p → Passes l W us (Some p)
  more : {us vs : List Action} {q : Way} {e : Option Way} → W us (Some q) → turn l q ≡ once_more → Passes l W vs e → Passes l W (us ++ vs) e

-- ---- begins

round_starts : (l : ℕ) (bs : List Begin) (i : ℕ) → Among (starts i) bs → Among (starts i) (round l bs)
round_starts l [] i m = none_among m
round_starts l (starts _ ∷ bs) i here = here
round_starts l (starts j ∷ bs) i (there m) = there (round_starts l bs i m)
round_starts l (through q ∷ bs) i (there m) = among_back (turned (turn l q)) (round l bs) (round_starts l bs i m)

round_through : (l : ℕ) (bs : List Begin) (q p : Way) → turn l q ≡ out p → Among (through q) bs → Among (through p) (round l bs)
round_through l [] q p e m = none_among m
round_through l (through _ ∷ bs) q p e here = among_front (turned (turn l q)) (round l bs) (rw e here)
round_through l (starts j ∷ bs) q p e (there m) = there (round_through l bs q p e m)
round_through l (through r ∷ bs) q p e (there m) = among_back (turned (turn l r)) (round l bs) (round_through l bs q p e m)

pub data Rounds (l : ℕ) (bs : List Begin) : Begin → Type 0 where
  own_start : (i : ℕ) → Among (starts i) bs → Rounds l bs (starts i)
  own_way : (q p : Way) → turn l q ≡ out p → Among (through q) bs → Rounds l bs (through p)

rounds_more : (l : ℕ) (b : Begin) (bs : List Begin) (x : Begin) → Rounds l bs x → Rounds l (b ∷ bs) x
rounds_more l b bs _ (own_start i m) = own_start i (there m)
rounds_more l b bs _ (own_way q p e m) = own_way q p e (there m)

pub rounds : (l : ℕ) (bs : List Begin) (x : Begin) → Among x (round l bs) → Rounds l bs x
rounds l [] x m = none_among m
rounds l (starts i ∷ bs) _ here = own_start i here
rounds l (starts i ∷ bs) x (there m) = rounds_more l (starts i) bs x (rounds l bs x m)
rounds l (through q ∷ bs) x m = by (among_either (turned (turn l q)) (round l bs) m) (λ m. rounds l bs x m)
  where
    own : {x : Begin} (p : Way) → turn l q ≡ out p → Among x (through p ∷ []) → Rounds l (through q ∷ bs) x
    own p e here = own_way q p e here
    own p e (there m) = none_among m

    first : (t : Turn) → turn l q ≡ t → Among x (turned t) → Rounds l (through q ∷ bs) x
    first once_more e m = none_among m
    first (out p) e m = own p e m
    first cut_off e m = none_among m

    by : Among x (turned (turn l q)) ⊎ Among x (round l bs) → (Among x (round l bs) → Rounds l bs x) → Rounds l (through q ∷ bs) x
    by (inl m) f = first (turn l q) refl m
    by (inr m) f = rounds_more l (through q) bs x (f m)

pub turned_inside : (l : ℕ) (e : List ℕ) (k : Exits) (q : Way) (t : Turn) → turn l q ≡ t → inside l e k q ≡ inside_of t e k
turned_inside l e k q t r = ap (λ (t : Turn). inside_of t e k) r

-- each entry of a pass is one of the loop
pub pass_entry : (l : ℕ) (bs : List Begin) (b : ℕ) (k : Exits) (p : ℕ) → Among p (entry bs b (inside l (entry (round l bs) b k) k))
    → Among p (entry (round l bs) b k)
pass_entry l bs b k p m = by (entered bs b (inside l (entry (round l bs) b k) k) p m)
  where
    way : {p : ℕ} (q : Way) → Among (through q) bs → (t : Turn) → turn l q ≡ t → Among p (inside_of t (entry (round l bs) b k) k)
        → Among p (entry (round l bs) b k)
    way q m once_more e a = a
    way {p = p} q m (out r) e a = entry_through (round l bs) b k r p (round_through l bs q r e m) a
    way q m cut_off e a = none_among a

    by : {p : ℕ} → Entered bs b (inside l (entry (round l bs) b k) k) p → Among p (entry (round l bs) b k)
    by (by_start i m) = entry_starts (round l bs) b k i (round_starts l bs i m)
    by (by_way q m a) = way q m (turn l q) refl a

-- ---- ends

pub last_ends : (l : ℕ) (f : Way → Bool) (x q : Way) → turn l x ≡ out q → f x ≡ true → loop_ends l f q ≡ true
last_ends l f ahead q e d = absurd (cc)
last_ends l f (breaking m) q e d = by (m == l) refl e
  where
    by : (c : Bool) → (m == l) ≡ c → (if c then out ahead else out (breaking m)) ≡ out q → loop_ends l f q ≡ true
    by true i h =
        let to : ahead ≡ q = cc in
        subst (λ q. loop_ends l f q ≡ true) to (subst (λ (x : ℕ). f (breaking x) ≡ true) ((Decides-eqb m l).0 i) d)
    by false i h =
        let to : breaking m ≡ q = cc in
        subst (λ q. loop_ends l f q ≡ true) to (rw (i, d) refl)
last_ends l f (continuing m) q e d = by (m == l) refl e
  where
    by : (c : Bool) → (m == l) ≡ c → (if c then once_more else out (continuing m)) ≡ out q → loop_ends l f q ≡ true
    by true i h = absurd (cc)
    by false i h =
        let to : continuing m ≡ q = cc in
        subst (λ q. loop_ends l f q ≡ true) to (rw (i, d) refl)
last_ends l f returning q e d = let to : returning ≡ q = cc in subst (λ q. loop_ends l f q ≡ true) to d
last_ends l f failing q e d = absurd (cc)

module _ (l : ℕ) (W : List Action → Option Way → Type 0) (f : Piece) (fw : Fits W f) where
  -- the first sites of the loop
  abbrev head : ℕ → Exits → List ℕ
  head b k = entry (round l f.begins) b k

  to_head : (g : List Site) (b : ℕ) (k : Exits) (us : List Action) → Path g (entry f.begins b (inside l (head b k) k)) us → Path g (head b k) us
  to_head g b k us p = path_among g _ _ us (pass_entry l f.begins b k) p

  loop_ended : (us : List Action) (q : Way) → Passes l W us (Some q) → loop_ends l f.ends q ≡ true
  loop_ended us q (last {us = xs} {q = x} w e) = last_ends l f.ends x q e (fw.ended xs x w)
  loop_ended us q (more {vs = ys} w e rest) = loop_ended ys q rest

  loop_silent : (us : List Action) (q : Way) → us ≡ [] → Passes l W us (Some q) → Among (through q) (round l f.begins)
  loop_silent us q z (last {us = xs} {q = x} w e) = round_through l f.begins x q e (fw.silent x (subst (λ us. W us (Some x)) z w))
  loop_silent us q z (more {us = xs} {vs = ys} w e rest) = loop_silent ys q (no_items xs ys z).1 rest

  loop_idle : (q : Way) → Rounds l f.begins (through q) → Passes l W [] (Some q)
  loop_idle _ (own_way q p e m) = last (fw.idle q m) e

  loop_forth : (g : List Site) (b : ℕ) (k : Exits) → HasAt g b ((loop_part l f).sites b k) → (us : List Action) (e : Option Way)
      → Passes l W us e → (vs : List Action) → Path g (after k e) vs → Path g (head b k) (us ++ vs)
  loop_forth g b k has us e no_pass vs p = path_among g [] _ _ (λ r m. none_among m) p
  loop_forth g b k has us e (halts {us = xs} {e = o} w) vs p =
      let z : vs ≡ [] = none_left g vs p in
      subst (λ vs. Path g (head b k) (us ++ vs)) (sym z) (to_head g b k (us ++ []) (fw.forth g b (inside l (head b k) k) has us [] o w stop))
  loop_forth g b k has us e (last {q = x} {p = y} w d) vs p =
      let q : inside l (head b k) k x ≡ k y = turned_inside l (head b k) k x (out y) d in
      to_head g b k (us ++ vs) (fw.forth g b (inside l (head b k) k) has us vs (Some x) w (subst (λ (ps : List ℕ). Path g ps vs) (sym q) p))
  loop_forth g b k has us e (more {us = xs} {vs = ys} {q = x} w d rest) vs p =
      let q : inside l (head b k) k x ≡ head b k = turned_inside l (head b k) k x once_more d in
      rw append_assoc (to_head g b k (xs ++ (ys ++ vs)) (fw.forth g b (inside l (head b k) k) has xs (ys ++ vs) (Some x) w (subst (λ (ps : List ℕ). Path g ps (ys ++ vs)) (sym q) (loop_forth g b k has ys e rest vs p))))

  -- a pass that begins with this action, and what follows it
  one_pass : (g : List Site) (b : ℕ) (k : Exits) (u : Action) (us : List Action)
      → ((vs : List Action) → length vs ≤ length us → Path g (head b k) vs → Splits (Passes l W) g k vs) → Begun W g (inside l (head b k) k) u us
      → Begun (Passes l W) g k u us
  one_pass g b k u us next (begun xs vs None e w p) = begun xs vs None e (halts w) p
  one_pass g b k u us next (begun xs vs (Some q) e w p) = by (turn l q) refl
    where
      follows : Splits (Passes l W) g k vs → turn l q ≡ once_more → Begun (Passes l W) g k u us
      follows (split ys zs o d v r) t = begun (xs ++ ys) zs o (e ∙ ap (λ vs. xs ++ vs) d ∙ sym (append_assoc xs ys zs)) (more w t v) r

      by : (t : Turn) → turn l q ≡ t → Begun (Passes l W) g k u us
      by once_more t =
          let sizes : length us ≡ length (xs ++ vs) = ap length e in
          follows (next vs (omega (arith, length-append xs vs)) (subst (λ (ps : List ℕ). Path g ps vs) (turned_inside l (head b k) k q once_more t) p)) t
      by (out y) t = begun xs vs (Some y) e (last w t) (subst (λ (ps : List ℕ). Path g ps vs) (turned_inside l (head b k) k q (out y) t) p)
      by cut_off t = begun xs vs None e (halts w) (subst (λ (ps : List ℕ). Path g ps vs) (turned_inside l (head b k) k q cut_off t) p)

  of_start : (g : List Site) (b : ℕ) (k : Exits) → HasAt g b ((loop_part l f).sites b k) → (u : Action) (us : List Action)
      → ((vs : List Action) → length vs ≤ length us → Path g (head b k) vs → Splits (Passes l W) g k vs) → (i : ℕ) → Among (starts i) f.begins
      → Path g ((b + i) ∷ []) (u ∷ us) → Begun (Passes l W) g k u us
  of_start g b k has u us next i m p = one_pass g b k u us next (fw.back g b (inside l (head b k) k) has i m u us p)

  splits_of : (g : List Site) (k : Exits) (u : Action) (us : List Action) → Begun (Passes l W) g k u us → Splits (Passes l W) g k (u ∷ us)
  splits_of g k u us (begun xs vs o d w r) = split (u ∷ xs) vs o (ap (λ us. u ∷ us) d) w r

  entered_back : (g : List Site) (b : ℕ) (k : Exits) → HasAt g b ((loop_part l f).sites b k) → (u : Action) (us : List Action)
      → ((vs : List Action) → length vs ≤ length us → Path g (head b k) vs → Splits (Passes l W) g k vs) → (p : ℕ)
      → Entered (round l f.begins) b k p → Path g (p ∷ []) (u ∷ us) → Splits (Passes l W) g k (u ∷ us)
  entered_back g b k has u us next _ (by_start i m) r = start i (rounds l f.begins (starts i) m) r
    where
      start : (i : ℕ) → Rounds l f.begins (starts i) → Path g ((b + i) ∷ []) (u ∷ us) → Splits (Passes l W) g k (u ∷ us)
      start _ (own_start i m) r = splits_of g k u us (of_start g b k has u us next i m r)
  entered_back g b k has u us next p (by_way q m a) r = split [] (u ∷ us) (Some q) refl (loop_idle q (rounds l f.begins (through q) m)) (path_among g (p ∷ []) (k q) (u ∷ us) (λ r n. only r n) r)
    where
      only : (r : ℕ) → Among r (p ∷ []) → Among r (k q)
      only _ here = a
      only r (there n) = none_among n

  -- by the number of actions
  loop_back : (t : ℕ) (g : List Site) (b : ℕ) (k : Exits) → HasAt g b ((loop_part l f).sites b k) → (us : List Action) → length us ≤ t
      → Path g (head b k) us → Splits (Passes l W) g k us
  loop_back t g b k has [] le p = split [] [] None refl no_pass stop
  loop_back zero g b k has (u ∷ us) le p = absurd (omega arith)
  loop_back (suc t) g b k has (u ∷ us) le p = by p
      (λ q r. entered_back g b k has u us (λ vs le' q. loop_back t g b k has vs (omega arith) q) q r)
    where
      by : Path g (head b k) (u ∷ us) → ((q : ℕ) → Entered (round l f.begins) b k q → Path g (q ∷ []) (u ∷ us) → Splits (Passes l W) g k (u ∷ us)) → Splits (Passes l W) g k (u ∷ us)
      by (go q s a e rest) next = next q (entered (round l f.begins) b k q a) (go q s here e rest)

  loop_starts : (g : List Site) (b : ℕ) (k : Exits) → HasAt g b ((loop_part l f).sites b k) → (i : ℕ) → Rounds l f.begins (starts i)
      → (u : Action) (us : List Action) → Path g ((b + i) ∷ []) (u ∷ us) → Begun (Passes l W) g k u us
  loop_starts g b k has _ (own_start i m) u us p = of_start g b k has u us (λ vs le q. loop_back (length vs) g b k has vs (le_refl (length vs)) q) i m p

  pub loop_fits : Fits (Passes l W) (loop_part l f)
  loop_fits = record {
    long = λ b k. fw.long b (inside l (head b k) k);
    ended = loop_ended;
    silent = λ q w. loop_silent [] q refl w;
    idle = λ q m. loop_idle q (rounds l f.begins (through q) m);
    rested = no_pass;
    forth = λ g b k has us vs e w p. loop_forth g b k has us e w vs p;
    back = λ g b k has i m u us p. loop_starts g b k has i (rounds l f.begins (starts i) m) u us p;
  }
