-- The first block that has a run is one in which the run sits; where there is none the run sits nowhere.
use Rattle.std.proofs.Common.{◌≡◌, ℕ, ◌+◌, ◌==◌, ◌<◌, ◌≤◌, nat_le, nat_lt, Bool, true, false, ◌&&◌, if◌then◌else◌, List, [], ◌∷◌, ◌++◌, length, Option, Some, None, MatchOption, option_map, refl, sym, ap, ◌∙◌, subst, ◌⊎◌, inl, inr, ⊎_elim}
use Rattle.std.proofs.lemmas.Bool.{eqb-true, eq-eqb, leb-true, le-leb, ltb-true, lt-ltb, and_parts, and_from, false≢true}
use Rattle.rx_typed.specs.Tree.{Body, Function}
use Rattle.rx_lower_walks.specs.Walks.{Among, here, there}
use Rattle.rx_exits_plan.specs.Blocks.{statements}
use Rattle.rx_exits_plan.specs.Spots.{Around, Spot, a_block, a_jump, a_return, spots_of_function}
use Rattle.rx_exits_plan.specs.Runs.{Run, Home, Sits}
use Rattle.rx_exits_plan.specs.declared.parts.Home as code
use Rattle.rx_exits_plan.specs.PlainSyntax.{plain-Home}
use Rattle.rx_exits_jumps.specs.Seen.{has_tail, has_run, home_at, homes, first_of_homes, first_home}

-- ---- what a block of so many statements has

pub record HasRun (r : Run) (n : ℕ) : Type 0 where
  pub fits : r.first + r.count ≤ n
  pub some : (r.tail ≡ false) → 0 < r.count
  pub whole : (r.tail ≡ true) → r.first + r.count ≡ n

has_run_by : (r : Run) (n : ℕ) (t : Bool) → r.tail ≡ t → nat_le (r.first + r.count) n ≡ true → (if t then r.first + r.count == n else nat_lt 0 r.count) ≡ true → HasRun r n
has_run_by r n true t le h =
    record { fits = leb-true (r.first + r.count) n le; some = λ e. absurd (false≢true (sym e ∙ t)); whole = λ e. eqb-true (r.first + r.count) n h }
has_run_by r n false t le h =
    record { fits = leb-true (r.first + r.count) n le; some = λ e. ltb-true 0 r.count h; whole = λ e. absurd (false≢true (sym t ∙ e)) }

had : (r : Run) (n : ℕ) → has_run r n ≡ true → HasRun r n
had r n h = let both = and_parts (nat_le (r.first + r.count) n) (has_tail r n) h in has_run_by r n r.tail refl both.0 both.1

has_tail_by : (r : Run) (n : ℕ) (t : Bool) → r.tail ≡ t → HasRun r n → (if t then r.first + r.count == n else nat_lt 0 r.count) ≡ true
has_tail_by r n true t h = eq-eqb (r.first + r.count) n (h.whole t)
has_tail_by r n false t h = lt-ltb 0 r.count (h.some t)

has : (r : Run) (n : ℕ) → HasRun r n → has_run r n ≡ true
has r n h = and_from (nat_le (r.first + r.count) n) (has_tail r n) (le-leb (r.first + r.count) n h.fits) (has_tail_by r n r.tail refl h)

-- ---- lists

among_more : {A : Type 0} (a : A) (l m : List A) → Among a m → Among a (l ++ m)
among_more a [] m h = h
among_more a (x ∷ l) m h = there (among_more a l m h)

among_cons : {A : Type 0} (x y : A) (l : List A) → Among x (y ∷ l) → (x ≡ y) ⊎ Among x l
among_cons x y l here = inl refl
among_cons x y l (there m) = inr m

abbrev some_of : {A : Type 0} → List A → Bool
some_of [] = false
some_of (y ∷ ys) = true

none_of : {A : Type 0} (a : A) (l : List A) → Among a l → l ≡ [] → ⊥
none_of a [] m e = elim m [ ]
none_of a (x ∷ l) m e = false≢true (sym (ap some_of e))

-- ---- homes among spots

pub record Block (r : Run) (ss : List Spot) (h : Home) : Type 0 where
  pub spot : Among (a_block h.around r.block h.body) ss
  pub run : HasRun r (length (statements h.body))

behind : (r : Run) (s : Spot) (ss : List Spot) (h : Home) → Block r ss h → Block r (s ∷ ss) h
behind r s ss h b = record { spot = there b.spot; run = b.run }

first_block : (r : Run) (a : Around) (n : ℕ) (b : Body) (ss : List Spot) (h : Home) → h ≡ record { around = a; body = b } → ((n == r.block) && has_run r (length (statements b))) ≡ true
    → Block r (a_block a n b ∷ ss) h
first_block r a n b ss h e t =
    let both = and_parts (n == r.block) (has_run r (length (statements b))) t in
    let it : Home = record { around = a; body = b } in
    let made : Block r (a_block a n b ∷ ss) it =
    record { spot = subst (λ (k : ℕ). Among (a_block a k b) (a_block a n b ∷ ss)) (eqb-true n r.block both.0) here; run = had r (length (statements b)) both.1 } in
    subst (λ (x : Home). Block r (a_block a n b ∷ ss) x) (sym e) made

pub found_blocks : (r : Run) (ss : List Spot) (h : Home) → Among h (homes r ss) → Block r ss h
found_blocks r [] h m = elim m [ ]
found_blocks r (a_block a n b ∷ ss) h m = by (λ q. found_blocks r ss h q) ((n == r.block) && has_run r (length (statements b))) refl m
  where
    by : (Among h (homes r ss) → Block r ss h) → (t : Bool) → ((n == r.block) && has_run r (length (statements b))) ≡ t
        → Among h ((if t then record { around = a; body = b } ∷ [] else []) ++ homes r ss) → Block r (a_block a n b ∷ ss) h
    by later true t k = ⊎_elim (λ e. first_block r a n b ss h e t) (λ q. behind r (a_block a n b) ss h (later q)) (among_cons h (record { around = a; body = b }) (homes r ss) k)
    by later false t k = behind r (a_block a n b) ss h (later k)
found_blocks r (a_jump a n l again ∷ ss) h m = behind r (a_jump a n l again) ss h (found_blocks r ss h m)
found_blocks r (a_return a n ∷ ss) h m = behind r (a_return a n) ss h (found_blocks r ss h m)

pub blocks_found : (r : Run) (ss : List Spot) (a : Around) (b : Body) → Among (a_block a r.block b) ss → HasRun r (length (statements b)) → Among (record { around = a; body = b }) (homes r ss)
blocks_found r [] a b m k = elim m [ ]
blocks_found r (s ∷ ss) a b here k =
    let t = and_from (r.block == r.block) (has_run r (length (statements b))) (eq-eqb r.block r.block refl) (has r (length (statements b)) k) in
    let h : Home = record { around = a; body = b } in
    subst (λ (c : Bool). Among h ((if c then h ∷ [] else []) ++ homes r ss)) (sym t) here
blocks_found r (a_block c n d ∷ ss) a b (there m) k = among_more _ (home_at r c n d) (homes r ss) (blocks_found r ss a b m k)
blocks_found r (a_jump c n l again ∷ ss) a b (there m) k = blocks_found r ss a b m k
blocks_found r (a_return c n ∷ ss) a b (there m) k = blocks_found r ss a b m k

-- ---- the first one

abbrev is_there : Option Home → Bool
is_there None = false
is_there (Some x) = true

abbrev or_else : Home → Option Home → Home
or_else d None = d
or_else d (Some y) = y

first_among : (hs : List Home) (h : Home) → first_of_homes hs ≡ Some h → Among h hs
first_among [] h e = absurd (false≢true (ap is_there e))
first_among (x ∷ hs) h e = subst (λ (y : Home). Among y (x ∷ hs)) (ap (or_else x) e) here

none_first : (hs : List Home) → first_of_homes hs ≡ None → hs ≡ []
none_first [] e = refl
none_first (x ∷ hs) e = absurd (false≢true (sym (ap is_there e)))

pub sits_first : (r : Run) (f : Function) (h : Home) → first_home r f ≡ Some h → Sits f r h
sits_first r f h e =
    let b = found_blocks r (spots_of_function f) h (first_among (homes r (spots_of_function f)) h e) in
    record { block = b.spot; fits = b.run.fits; some = b.run.some; whole = b.run.whole }

pub sits_nowhere : (r : Run) (f : Function) → first_home r f ≡ None → (h : Home) → ¬ (Sits f r h)
sits_nowhere r f e h s =
    none_of h (homes r (spots_of_function f))
    (blocks_found r (spots_of_function f) h.around h.body s.block (record { fits = s.fits; some = s.some; whole = s.whole }))
    (none_first (homes r (spots_of_function f)) e)

-- what is known of the code's
pub sits_or_not : (r : Run) (f : Function) (o : Option code.Home) → option_map plain-Home o ≡ first_home r f → MatchOption o ((h : Home) → ¬ (Sits f r h)) (λ h. Sits f r (plain-Home h))
sits_or_not r f None e = sits_nowhere r f (sym e)
sits_or_not r f (Some h) e = sits_first r f (plain-Home h) (sym e)
