-- What was bound since a run began, in front of what was in scope there, and the loops since: by the names of all variables of the
-- function, which have numbers.
use Rattle.std.proofs.Common.{◌≡◌, ℕ, suc, ◌+◌, Bool, true, false, ◌||◌, ◌==◌, if◌then◌else◌, List, [], ◌∷◌, ◌++◌, map, reverse, Option, Some, slice_get, refl, sym, ap, ◌∙◌, subst, ◌⊎◌, inl, inr, append_assoc, arith, bytes_eq}
use Rattle.std.proofs.lemmas.Bool.Decides.{Decides-eqb}
use Rattle.std.proofs.lemmas.Slice.Eq.{bytes_eq-Decides}
use Rattle.rx_core.proofs.BytesLemmas.{same_bytes-self}
use Rattle.rx_tree.specs.declared.tree.Ident.{Ident}
use Rattle.rx_tree.specs.Plain.{PatternTree}
use Rattle.rx_resolve_names.specs.Meant.{Around, a_loop, a_test, is_meant, out_of_test, nowhere, target, Target, through_test, to_loop}
use Rattle.rx_typed.specs.Named.{Pattern}
use Rattle.rx_typed.specs.Elaborated.{variables}
use Rattle.rx_lower_walks.specs.Walks.{Among, here, there}
use Rattle.rx_exits_plan.specs.Shadowed.{meant}
use Rattle.rx_exits.specs.Refusing.{same_name, same_names}
use Rattle.rx_hoist_extraction.specs.Names.{bound, is_among, Names}
use Rattle.rx_hoist_extraction.specs.Run.{numbered}
use Rattle.rx_hoist_extraction.specs.Moved.{beyond, leaves}
use Rattle.rx_hoist_naming.specs.NamedPlan.{place_of}
use Rattle.rx_hoist_meant.specs.NamesMeant.{MeansIt}
use Rattle.rx_hoist_meant.specs.Stands.{loop_labels, loop_numbers, StandsPattern}
use Rattle.rx_hoist_meant.specs.Scoped.{NoneTwice}
use Rattle.rx_hoist_meant.proofs.Patterns.{among_left, among_reversed, among_right, among_split, none_among, reversed_among}
use Rattle.rx_engine_names.proofs.Scoped.{among_append}

-- ---- names and variables side by side

one_word : (x y : List ℕ) → ◌≡◌ {A = Option (List ℕ)} (Some x) (Some y) → x ≡ y
one_word x y e = cc

is_word : (x y : List ℕ) → bytes_eq x y ≡ true → x ≡ y
is_word x y e = (bytes_eq-Decides x y).0 e

or_either : (a b : Bool) → (a || b) ≡ true → (a ≡ true) ⊎ (b ≡ true)
or_either true b e = inl refl
or_either false b e = inr e

or_first : (a b : Bool) → a ≡ true → (a || b) ≡ true
or_first true b e = refl
or_first false b e = absurd (cc)

or_second : (a b : Bool) → b ≡ true → (a || b) ≡ true
or_second true b e = refl
or_second false b e = e

module _ (names : Names) where
  pub words_number : (ks : List ℕ) (xs : Names) → map (λ (k : ℕ). slice_get names k) ks ≡ map (λ (x : List ℕ). Some x) xs → (x : List ℕ) → is_among x xs ≡ true → (k : ℕ) × Among k ks × (slice_get names k ≡ Some x)
  words_number [] [] e x h = absurd (cc)
  words_number [] (y ∷ ys) e x h = absurd (cc)
  words_number (k ∷ ks) [] e x h = absurd (cc)
  words_number (k ∷ ks) (y ∷ ys) e x h =
      let first : slice_get names k ≡ Some y = cc in
      let rest : map (λ (k : ℕ). slice_get names k) ks ≡ map (λ (x : List ℕ). Some x) ys = cc in
      by (bytes_eq x y) refl h first (words_number ks ys rest x)
    where
      by : (b : Bool) → bytes_eq x y ≡ b → (b || is_among x ys) ≡ true → slice_get names k ≡ Some y → (is_among x ys ≡ true → (k : ℕ) × Among k ks × (slice_get names k ≡ Some x)) → (n : ℕ) × Among n (k ∷ ks) × (slice_get names n ≡ Some x)
      by true f g first on = (k, here, first ∙ ap (λ (z : List ℕ). Some z) (sym (is_word x y f)))
      by false f g first on = let r = on g in (r.0, there r.1, r.2)

  pub numbers_word : (ks : List ℕ) (xs : Names) → map (λ (k : ℕ). slice_get names k) ks ≡ map (λ (x : List ℕ). Some x) xs → (k : ℕ) → Among k ks → (x : List ℕ) × (slice_get names k ≡ Some x) × (is_among x xs ≡ true)
  numbers_word [] xs e k i = absurd (none_among i)
  numbers_word (n ∷ ks) [] e k i = absurd (cc)
  numbers_word (n ∷ ks) (y ∷ ys) e k i =
      let first : slice_get names n ≡ Some y = cc in
      let rest : map (λ (k : ℕ). slice_get names k) ks ≡ map (λ (x : List ℕ). Some x) ys = cc in
      by i first (numbers_word ks ys rest k)
    where
      by : {m : ℕ} → Among k (m ∷ ks) → slice_get names m ≡ Some y → (Among k ks → (x : List ℕ) × (slice_get names k ≡ Some x) × (is_among x ys ≡ true)) → (x : List ℕ) × (slice_get names k ≡ Some x) × (is_among x (y ∷ ys) ≡ true)
      by here first on = (y, first, or_first (bytes_eq y y) (is_among y ys) ((bytes_eq-Decides y y).1 refl))
      by (there j) first on = let r = on j in (r.0, r.1, or_second (bytes_eq r.0 y) (is_among r.0 ys) r.2)

  -- ---- what was bound since

  -- `own` names the variables in front of those in scope where the run begins
  pub record Since (base vs : List ℕ) (own : Names) : Type 0 where
    pub front : List ℕ
    pub whole : vs ≡ front ++ base
    pub words : (x : List ℕ) → is_among x own ≡ true → (k : ℕ) × Among k front × (slice_get names k ≡ Some x)
    pub named : (k : ℕ) → Among k front → (x : List ℕ) × (slice_get names k ≡ Some x) × (is_among x own ≡ true)
    pub apart : (k : ℕ) → Among k front → Among k base → ⊥

  pub none_since : (base : List ℕ) → Since base base []
  none_since base = record {
    front = [];
    whole = refl;
    words = λ x e. absurd (cc);
    named = λ k i. absurd (none_among i);
    apart = λ k i j. none_among i;
  }

  pub in_scope : {base vs : List ℕ} {own : Names} → Since base vs own → (k : ℕ) → Among k base → Among k vs
  in_scope {base} {vs} {own} s k i = subst (λ (l : List ℕ). Among k l) (sym s.whole) (among_right s.front base i)

  -- behind names that are new
  pub since_bound : {base vs : List ℕ} {own : Names} (ks : List ℕ) (xs : Names) → map (λ (k : ℕ). slice_get names k) ks ≡ map (λ (x : List ℕ). Some x) xs → ((k : ℕ) → Among k ks → Among k vs → ⊥) → Since base vs own
      → Since base (reverse ks ++ vs) (xs ++ own)
  since_bound {base} {vs} {own} ks xs e new s = record {
    front = reverse ks ++ s.front;
    whole = ap (λ (l : List ℕ). reverse ks ++ l) s.whole ∙ sym (append_assoc (reverse ks) s.front base);
    words = λ x h. of_word x (or_either (is_among x xs) (is_among x own) (sym (among_append x xs own) ∙ h));
    named = λ k i. among_split k (reverse ks) s.front ((x : List ℕ) × (slice_get names k ≡ Some x) × (is_among x (xs ++ own) ≡ true)) i
        (λ j. let r = numbers_word ks xs e k (among_reversed k ks j) in (r.0, r.1, among_append r.0 xs own ∙ or_first (is_among r.0 xs) (is_among r.0 own) r.2))
        (λ j. let r = s.named k j in (r.0, r.1, among_append r.0 xs own ∙ or_second (is_among r.0 xs) (is_among r.0 own) r.2));
    apart = λ k i h. among_split k (reverse ks) s.front ⊥ i (λ j. new k (among_reversed k ks j) (in_scope s k h)) (λ j. s.apart k j h);
  }
    where
      of_word : (x : List ℕ) → (is_among x xs ≡ true) ⊎ (is_among x own ≡ true) → (k : ℕ) × Among k (reverse ks ++ s.front) × (slice_get names k ≡ Some x)
      of_word x (inl h) = let r = words_number ks xs e x h in (r.0, among_left (reverse ks) s.front (reversed_among r.0 ks r.1), r.2)
      of_word x (inr h) = let r = s.words x h in (r.0, among_right (reverse ks) s.front r.1, r.2)

  pub since_pattern : {base vs : List ℕ} {own : Names} {i j : ℕ} {p : PatternTree} {P : Pattern} → StandsPattern names vs i j p P → Since base vs own → Since base (reverse (variables P) ++ vs) (bound p ++ own)
  since_pattern {p = p} {P = P} h s = since_bound (variables P) (bound p) h.words h.fresh s

  -- ---- what a name means there

  same_word : (y k : ℕ) (x : List ℕ) → slice_get names y ≡ Some x → slice_get names k ≡ Some x → same_name names y k ≡ true
  same_word y k x e f = (λ j. same_names (e j) (f j)) ∙ same_bytes-self x

  -- it is the newest of the name
  first_there : (k y z : ℕ) (front base : List ℕ) → Among y front → same_name names y k ≡ true → meant (same_name names) k (front ++ base) ≡ Some z → Among z front
  first_there k y z [] base i h e = absurd (none_among i)
  first_there k y z (f ∷ fs) base i h e = by (same_name names f k) refl e (first_there k y z fs base)
    where
      one_number : (m n : ℕ) → ◌≡◌ {A = Option ℕ} (Some m) (Some n) → m ≡ n
      one_number m n e = cc

      not_first : {m : ℕ} → Among y (m ∷ fs) → same_name names m k ≡ false → Among y fs
      not_first here g = absurd (cc)
      not_first (there j) g = j

      by : (b : Bool) → same_name names f k ≡ b → (if b then Some f else meant (same_name names) k (fs ++ base)) ≡ Some z → (Among y fs → same_name names y k ≡ true → meant (same_name names) k (fs ++ base) ≡ Some z → Among z fs) → Among z (f ∷ fs)
      by true g e on = subst (λ (n : ℕ). Among n (f ∷ fs)) (one_number f z e) here
      by false g e on = there (on (not_first i g) h e)

  -- a variable from outside is named where nothing bound since has its name
  pub not_own : {base vs : List ℕ} {own : Names} → Since base vs own → (k : ℕ) (x : List ℕ) → slice_get names k ≡ Some x → MeansIt (same_name names) vs k → Among k base → is_among x own ≡ false
  not_own {base} {vs} {own} s k x e m i = by (is_among x own) refl
    where
      by : (b : Bool) → is_among x own ≡ b → is_among x own ≡ false
      by true h =
          let r = s.words x h in
          absurd (s.apart k (first_there k r.0 k s.front base r.1 (same_word r.0 k x r.2 e) (subst (λ (l : List ℕ). meant (same_name names) k l ≡ Some k) s.whole m)) i)
      by false h = h

  pub meant_there : (same : ℕ → ℕ → Bool) (x y : ℕ) (l : List ℕ) → meant same x l ≡ Some y → Among y l
  meant_there same x y [] e = absurd (cc)
  meant_there same x y (z ∷ l) e = by (same z x) e (meant_there same x y l)
    where
      by : (b : Bool) → (if b then Some z else meant same x l) ≡ Some y → (meant same x l ≡ Some y → Among y l) → Among y (z ∷ l)
      by true e rest = let s : z ≡ y = cc in subst (λ (w : ℕ). Among w (z ∷ l)) s here
      by false e rest = there (rest e)

  -- and what is not bound since is from outside
  pub from_outside : {base vs : List ℕ} {own : Names} → Since base vs own → (k : ℕ) (x : List ℕ) → slice_get names k ≡ Some x → MeansIt (same_name names) vs k → is_among x own ≡ false → Among k base
  from_outside {base} {vs} {own} s k x e m h =
      among_split k s.front base (Among k base) (subst (λ (l : List ℕ). Among k l) s.whole (meant_there (same_name names) k k vs m))
      (λ j. let r = s.named k j in let w = one_word r.0 x (sym r.1 ∙ e) in let g : is_among x own ≡ true = subst (λ (z : List ℕ). is_among z own ≡ true) w r.2 in absurd (cc)) (λ j. j)

-- ---- the loops since: those of the run have the number 0 in its text

pub data Rounds (base : List Around) : List Around → List Around → Type 0 where
  at_run : Rounds base base (numbered 1 (loop_labels base))
  in_loop : {l : Option Ident} {k : ℕ} {ls ms : List Around} → (Among k (loop_numbers ls) → ⊥) → Rounds base ls ms → Rounds base (a_loop l k ∷ ls) (a_loop l 0 ∷ ms)
  in_test : {ls ms : List Around} → Rounds base ls ms → Rounds base (a_test ∷ ls) (a_test ∷ ms)

pub rounds_have : {base ls ms : List Around} → Rounds base ls ms → (k : ℕ) → Among k (loop_numbers base) → Among k (loop_numbers ls)
rounds_have at_run k i = i
rounds_have (in_loop n h) k i = there (rounds_have h k i)
rounds_have (in_test h) k i = rounds_have h k i

one_loop : (m n : ℕ) → to_loop m ≡ to_loop n → m ≡ n
one_loop m n e = cc

no_test : (t : Target) (n : ℕ) → through_test t ≡ to_loop n → ⊥
no_test (to_loop m) n e = cc
no_test out_of_test n e = cc
no_test nowhere n e = cc

named_there : (l : Option Ident) (base : List Around) (k : ℕ) → target l base ≡ to_loop k → Among k (loop_numbers base)
named_there l [] k e = absurd (cc)
named_there l (a_test ∷ base) k e = absurd (no_test (target l base) k e)
named_there l (a_loop m n ∷ base) k e = at (is_meant l m) e (named_there l base k)
  where
    at : (b : Bool) → (if b then to_loop n else target l base) ≡ to_loop k → (target l base ≡ to_loop k → Among k (loop_numbers base)) → Among k (n ∷ loop_numbers base)
    at true f on = subst (λ (z : ℕ). Among z (n ∷ loop_numbers base)) (one_loop n k f) here
    at false f on = there (on f)

-- round the run
target_at : (l : Option Ident) (k i : ℕ) (base : List Around) → NoneTwice (loop_numbers base) → target l base ≡ to_loop k → target l (numbered i (loop_labels base)) ≡ to_loop (i + place_of k (loop_numbers base))
target_at l k i [] d e = absurd (cc)
target_at l k i (a_test ∷ base) d e = absurd (no_test (target l base) k e)
target_at l k i (a_loop m n ∷ base) d e = by (is_meant l m) e (target_at l k (suc i) base d.1)
  where
    by : (b : Bool) → (if b then to_loop n else target l base) ≡ to_loop k → (target l base ≡ to_loop k → target l (numbered (suc i) (loop_labels base)) ≡ to_loop (suc i + place_of k (loop_numbers base)))
        → (if b then to_loop i else target l (numbered (suc i) (loop_labels base))) ≡ to_loop (i + place_of k (n ∷ loop_numbers base))
    by true f on =
        let same : (n == k) ≡ true = (Decides-eqb n k).1 (one_loop n k f) in
        ap to_loop (sym (ap (λ (b : Bool). i + (if b then 0 else suc (place_of k (loop_numbers base)))) same ∙ zero_more))
      where
        zero_more : i + 0 ≡ i
        zero_more = omega arith
    by false f on =
        let there_is = named_there l base k f in
        let other : (n == k) ≡ false = differ (n == k) refl there_is in
        on f ∙ ap to_loop (more (place_of k (loop_numbers base)) ∙ sym (ap (λ (b : Bool). i + (if b then 0 else suc (place_of k (loop_numbers base)))) other))
      where
        differ : (b : Bool) → (n == k) ≡ b → Among k (loop_numbers base) → (n == k) ≡ false
        differ true g j = absurd (d.0 (subst (λ (z : ℕ). Among z (loop_numbers base)) (sym ((Decides-eqb n k).0 g)) j))
        differ false g j = g

        more : (p : ℕ) → suc i + p ≡ i + suc p
        more p = omega arith

-- a jump to a loop round the run leaves it, by the loop's place
pub leads_out : {base ls ms : List Around} → NoneTwice (loop_numbers base) → Rounds base ls ms → (l : Option Ident) (k : ℕ) → target l ls ≡ to_loop k → Among k (loop_numbers base) → leaves l ms ≡ Some (place_of k (loop_numbers base))
leads_out {base} d at_run l k e i = ap beyond (target_at l k 1 base d e ∙ ap to_loop one_more)
  where
    one_more : 1 + place_of k (loop_numbers base) ≡ suc (place_of k (loop_numbers base))
    one_more = omega arith
leads_out {base} d (in_loop {l = m} {k = n} {ls = ls} {ms = ms} new h) l k e i = by (is_meant l m) e (leads_out d h l k)
  where
    by : (b : Bool) → (if b then to_loop n else target l ls) ≡ to_loop k → (target l ls ≡ to_loop k → Among k (loop_numbers base) → leaves l ms ≡ Some (place_of k (loop_numbers base)))
        → beyond (if b then to_loop 0 else target l ms) ≡ Some (place_of k (loop_numbers base))
    by true f on = absurd (new (subst (λ (z : ℕ). Among z (loop_numbers ls)) (sym (one_loop n k f)) (rounds_have h k i)))
    by false f on = on f i
leads_out {base} d (in_test {ls = ls} h) l k e i = absurd (no_test (target l ls) k e)

goes_round : {base ls ms : List Around} → Rounds base ls ms → (l : Option Ident) (k n : ℕ) → target l ls ≡ to_loop n → leaves l ms ≡ Some k → Among n (loop_numbers base)
goes_round {base} at_run l k n e f = named_there l base n e
goes_round {base} (in_loop {l = m} {k = j} {ls = ls} {ms = ms} new h) l k n e f = by (is_meant l m) e f (goes_round h l k n)
  where
    by : (b : Bool) → (if b then to_loop j else target l ls) ≡ to_loop n → beyond (if b then to_loop 0 else target l ms) ≡ Some k → (target l ls ≡ to_loop n → leaves l ms ≡ Some k → Among n (loop_numbers base)) → Among n (loop_numbers base)
    by true e f on = absurd (cc)
    by false e f on = on e f
goes_round (in_test {ls = ls} h) l k n e f = absurd (no_test (target l ls) n e)

-- and one that leaves it leads to a loop round the run, that of its place
pub leads_back : {base ls ms : List Around} → NoneTwice (loop_numbers base) → Rounds base ls ms → (l : Option Ident) (n k : ℕ) → target l ls ≡ to_loop n → leaves l ms ≡ Some k → Among n (loop_numbers base) × (place_of n (loop_numbers base) ≡ k)
leads_back {base} d h l n k e f = let i = goes_round h l k n e f in (i, one_place (place_of n (loop_numbers base)) k (sym (leads_out d h l n e i) ∙ f))
  where
    one_place : (a b : ℕ) → ◌≡◌ {A = Option ℕ} (Some a) (Some b) → a ≡ b
    one_place a b e = cc
