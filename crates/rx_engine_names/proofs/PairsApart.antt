-- What is made side by side is one to one, also across statements that stand for others: those bind variables of their own.
use Rattle.std.proofs.Common.{◌≡◌, ◌⊎◌, inl, inr, ℕ, suc, ◌≤◌, ◌<◌, Bool, true, false, not, ◌&&◌, ◌||◌, if◌then◌else◌, List, [], ◌∷◌, Option, Some, None, refl, sym, ap, ◌∙◌, subst, arith, bytes_eq}
use Rattle.std.proofs.lemmas.Slice.Eq.{bytes_eq-Decides}
use Rattle.rx_tree.specs.Lists.{Every}
use Rattle.rx_resolve_names.specs.Scopes.{Variables, variable_named}
use Rattle.rx_hoist_extraction.specs.Names.{Names, is_among}
use Rattle.rx_engine_names.specs.Renaming.{Has, HasPassage, IsPair, Made, Pairs, Passage}
use Rattle.rx_engine_names.specs.Apart.{Across, Few, NoneAcross, OldOrBehind, Unlike, Apart, Below, OneToOne}
use Rattle.rx_engine_names.proofs.SideBySide.{Frame}
use Rattle.rx_engine_names.proofs.BehindStatements.{pair_if, pairs_onto}
use Rattle.rx_engine_names.proofs.ScopesRise.{BoundBelow, Rises}

-- ---- a frame

below_unlike : (ps : Pairs) (n m : ℕ) → Below ps n m → Every (Unlike (n, m)) ps
below_unlike [] n m h = tt
below_unlike (p ∷ ps) n m h = ((λ e. let a = h.0.0 in omega (arith, a, e), λ e. let a = h.0.1 in omega (arith, a, e)), below_unlike ps n m h.1)

pub below_wider : (ps : Pairs) (n m n' m' : ℕ) → n ≤ n' → m ≤ m' → Below ps n m → Below ps n' m'
below_wider [] n m n' m' a b h = tt
below_wider (p ∷ ps) n m n' m' a b h = ((omega (arith, a, h.0.0), omega (arith, b, h.0.1)), below_wider ps n m n' m' a b h.1)

pub widens : (ps : Pairs) (n m n' m' : ℕ) → n ≤ n' → m ≤ m' → OneToOne ps n m → OneToOne ps n' m'
widens ps n m n' m' a b h few few' = let r = h (omega (arith, a, few)) (omega (arith, b, few')) in (r.0, below_wider ps n m n' m' a b r.1)

pub pushes : (ps : Pairs) (n m : ℕ) → OneToOne ps n m → OneToOne ((n, m) ∷ ps) (suc n) (suc m)
pushes ps n m h few few' =
    let r = h (omega (arith, few)) (omega (arith, few')) in
    ((below_unlike ps n m r.1, r.0), ((omega arith, omega arith), below_wider ps n m (suc n) (suc m) (omega arith) (omega arith) r.1))

-- all numbers of pairs are below the next; each passage was in front of these, and no pair goes across one
pub record Passed (M : Made) (n m k l : ℕ) : Type 0 where
  pub below : Below M.variables n m
  pub below_loops : Below M.loops k l
  pub before : (x : Passage) → HasPassage M.passages x → (x.variable ≤ n) × (x.variable' ≤ m) × (x.loop ≤ k) × (x.loop' ≤ l)
  pub across : NoneAcross M n m k l

is_behind : (a b n m i j : ℕ) → a ≤ n → b ≤ m → Few n → Few m → IsPair (n, m) i j → (a ≤ i) × (b ≤ j)
is_behind a b n m i j h g few few' (inl e) = let x = e.0 in let y = e.1 in (omega (arith, h, x), omega (arith, g, y))
is_behind a b n m i j h g few few' (inr e) = let x = e.0 in let y = e.1 in (omega (arith, h, x, few), omega (arith, g, y, few'))

behind_one : (old ps : Pairs) (a b n m : ℕ) → a ≤ n → b ≤ m → Few n → Few m → OldOrBehind old a b ps → OldOrBehind old a b ((n, m) ∷ ps)
behind_one old ps a b n m h g few few' o i j (inl e) = inr (is_behind a b n m i j h g few few' e)
behind_one old ps a b n m h g few few' o i j (inr e) = o i j e

pub passed_variable : (M : Made) (n m k l : ℕ) → Passed M n m k l → Passed (record { variables = (n, m) ∷ M.variables; loops = M.loops; passages = M.passages }) (suc n) (suc m) k l
passed_variable M n m k l h = record {
  below = ((omega arith, omega arith), below_wider M.variables n m (suc n) (suc m) (omega arith) (omega arith) h.below);
  below_loops = h.below_loops;
  before = λ x w. let y = h.before x w in let a = y.0 in let b = y.1 in (omega (arith, a), omega (arith, b), y.2, y.3);
  across = λ few few' f f' x w.
      let fn : Few n = omega (arith, few) in let fm : Few m = omega (arith, few') in
      let y = h.across fn fm f f' x w in let z = h.before x w in record { variables = behind_one x.variables M.variables x.variable x.variable' n m z.0 z.1 fn fm y.variables; loops = y.loops };
}

pub passed_loop : (M : Made) (n m k l : ℕ) → Passed M n m k l → Passed (record { variables = M.variables; loops = (k, l) ∷ M.loops; passages = M.passages }) n m (suc k) (suc l)
passed_loop M n m k l h = record {
  below = h.below;
  below_loops = ((omega arith, omega arith), below_wider M.loops k l (suc k) (suc l) (omega arith) (omega arith) h.below_loops);
  before = λ x w. let y = h.before x w in let a = y.2 in let b = y.3 in (y.0, y.1, omega (arith, a), omega (arith, b));
  across = λ f f' few few' x w.
      let fk : Few k = omega (arith, few) in let fl : Few l = omega (arith, few') in
      let y = h.across f f' fk fl x w in let z = h.before x w in record { variables = y.variables; loops = behind_one x.loops M.loops x.loop x.loop' k l z.2 z.3 fk fl y.loops };
}

abbrev pub one_to_one : (ℕ → ℕ) → Frame
one_to_one items = record { items = items; holds = OneToOne; pushed = pushes; passed = Passed; passed_variable = passed_variable; passed_loop = passed_loop }

pub none_passed : (items : ℕ → ℕ) → (one_to_one items).passed (record { variables = []; loops = []; passages = [] }) 0 0 0 0
none_passed items = record { below = tt; below_loops = tt; before = λ x w. absurd w; across = λ a b c d x w. absurd w }

-- both numbers of a pair are below
pub has_below : (ps : Pairs) (n m i j : ℕ) → Below ps n m → Has ps i j → (i < n) × (j < m)
has_below [] n m i j h x = absurd x
has_below (p ∷ ps) n m i j h (inl (inl e)) = let a = h.0.0 in let b = h.0.1 in let x = e.0 in let y = e.1 in (omega (arith, a, x), omega (arith, b, y))
has_below (p ∷ ps) n m i j h (inl (inr e)) = let a = h.0.0 in let b = h.0.1 in let x = e.0 in let y = e.1 in (omega (arith, a, x), omega (arith, b, y))
has_below (p ∷ ps) n m i j h (inr x) = has_below ps n m i j h.1 x

-- ---- across other statements: what was made stays below, and the passage itself is one

-- a pair that names bound in both make, or an old one
abbrev pub OldOrNamed : Names → Names → Variables → Variables → Pairs → ℕ → ℕ → Type 0
OldOrNamed old names sc sc' ps i j = Has ps i j ⊎ ((z : List ℕ) × (is_among z old ≡ true) × (is_among z names ≡ true) × (variable_named sc z ≡ Some i) × (variable_named sc' z ≡ Some j))

module _ (old names : Names) (sc sc' : Variables) (hi hi' : ℕ) (b : BoundBelow old sc hi) (b' : BoundBelow names sc' hi') where
  one_below : (z : List ℕ) (qs : Pairs) → is_among z old ≡ true → is_among z names ≡ true → (o o' : Option ℕ) → variable_named sc z ≡ o → variable_named sc' z ≡ o' → Below qs hi hi' → Below (pair_if o o' qs) hi hi'
  one_below z qs a c None None d d' h = h
  one_below z qs a c None (Some k) d d' h = h
  one_below z qs a c (Some j) None d d' h = h
  one_below z qs a c (Some j) (Some k) d d' h = (((b z j a d).0, (b' z k c d').0), h)

  one_named : (ps : Pairs) (z : List ℕ) (qs : Pairs) (i j : ℕ) → is_among z old ≡ true → is_among z names ≡ true → (o o' : Option ℕ) → variable_named sc z ≡ o → variable_named sc' z ≡ o' → (Has qs i j → OldOrNamed old names sc sc' ps i j) → Has (pair_if o o' qs) i j → OldOrNamed old names sc sc' ps i j
  one_named ps z qs i j a c None None d d' h x = h x
  one_named ps z qs i j a c None (Some k) d d' h x = h x
  one_named ps z qs i j a c (Some n) None d d' h x = h x
  one_named ps z qs i j a c (Some n) (Some k) d d' h (inr x) = h x
  one_named ps z qs i j a c (Some n) (Some k) d d' h (inl (inl e)) = inr (z, a, c, d ∙ ap (λ (x : ℕ). Some x) (sym e.0), d' ∙ ap (λ (x : ℕ). Some x) (sym e.1))
  one_named ps z qs i j a c (Some n) (Some k) d d' h (inl (inr e)) =
      let few = (b z n a d).1 in let few' = (b' z k c d').1 in let x = e.0 in let y = e.1 in
      let s : n ≡ i = omega (arith, few, x) in let s' : k ≡ j = omega (arith, few', y) in
      inr (z, a, c, d ∙ ap (λ (x : ℕ). Some x) s, d' ∙ ap (λ (x : ℕ). Some x) s')

  and_parts : (a c : Bool) → (a && not c) ≡ true → a ≡ true
  and_parts true c e = refl
  and_parts false c e = absurd (cc)

  among_first : (z : List ℕ) (zs : Names) → is_among z (z ∷ zs) ≡ true
  among_first z zs = ap (λ (c : Bool). c || is_among z zs) ((bytes_eq-Decides z z).1 refl)

  among_later : (a c : Bool) → c ≡ true → (a || c) ≡ true
  among_later true c e = refl
  among_later false c e = e

  pub onto_below : (ps : Pairs) (zs : Names) → ((w : List ℕ) → is_among w zs ≡ true → is_among w names ≡ true) → Below ps hi hi' → Below (pairs_onto old zs sc sc' ps) hi hi'
  onto_below ps [] inside h = h
  onto_below ps (z ∷ zs) inside h = by (is_among z old && not (is_among z zs)) refl (onto_below ps zs (λ w e. inside w (among_later (bytes_eq w z) (is_among w zs) e)) h)
    where
      by : (c : Bool) → (is_among z old && not (is_among z zs)) ≡ c → Below (pairs_onto old zs sc sc' ps) hi hi'
          → Below (if c then pair_if (variable_named sc z) (variable_named sc' z) (pairs_onto old zs sc sc' ps) else pairs_onto old zs sc sc' ps) hi hi'
      by true k g = one_below z (pairs_onto old zs sc sc' ps) (and_parts (is_among z old) (is_among z zs) k) (inside z (among_first z zs)) (variable_named sc z) (variable_named sc' z) refl refl g
      by false k g = g

  pub onto_named : (ps : Pairs) (zs : Names) (i j : ℕ) → ((w : List ℕ) → is_among w zs ≡ true → is_among w names ≡ true) → Has (pairs_onto old zs sc sc' ps) i j → OldOrNamed old names sc sc' ps i j
  onto_named ps [] i j inside h = inl h
  onto_named ps (z ∷ zs) i j inside h = by (is_among z old && not (is_among z zs)) refl (onto_named ps zs i j (λ w e. inside w (among_later (bytes_eq w z) (is_among w zs) e))) h
    where
      by : (c : Bool) → (is_among z old && not (is_among z zs)) ≡ c → (Has (pairs_onto old zs sc sc' ps) i j → OldOrNamed old names sc sc' ps i j)
          → Has (if c then pair_if (variable_named sc z) (variable_named sc' z) (pairs_onto old zs sc sc' ps) else pairs_onto old zs sc sc' ps) i j → OldOrNamed old names sc sc' ps i j
      by true k g x = one_named ps z (pairs_onto old zs sc sc' ps) i j (and_parts (is_among z old) (is_among z zs) k) (inside z (among_first z zs)) (variable_named sc z) (variable_named sc' z) refl refl g x
      by false k g x = g x

-- what was passed is behind what was passed before
pub passed_on : (M : Made) (G : Pairs) (n m k l n1 m1 k1 l1 : ℕ) → n ≤ n1 → m ≤ m1 → k ≤ k1 → l ≤ l1 → Below G n1 m1 → (Few n1 → Few m1 → OldOrBehind M.variables n m G) → Passed M n m k l
    → Passed (record { variables = G; loops = M.loops; passages = record { variables = G; loops = M.loops; variable = n1; variable' = m1; loop = k1; loop' = l1 } ∷ M.passages }) n1 m1 k1 l1
passed_on M G n m k l n1 m1 k1 l1 h h' g g' below since p = record {
  below = below;
  below_loops = below_wider M.loops k l k1 l1 g g' p.below_loops;
  before = λ x w. before x w;
  across = λ a b c d x w. across a b c d x w;
}
  where
    X : Passage
    X = record { variables = G; loops = M.loops; variable = n1; variable' = m1; loop = k1; loop' = l1 }

    here : (X.variable ≤ n1) × (X.variable' ≤ m1) × (X.loop ≤ k1) × (X.loop' ≤ l1)
    here = (omega arith, omega arith, omega arith, omega arith)

    before : (x : Passage) → HasPassage (X ∷ M.passages) x → (x.variable ≤ n1) × (x.variable' ≤ m1) × (x.loop ≤ k1) × (x.loop' ≤ l1)
    before x (inl e) = subst (λ (x : Passage). (x.variable ≤ n1) × (x.variable' ≤ m1) × (x.loop ≤ k1) × (x.loop' ≤ l1)) (sym e) here
    before x (inr w) = let y = p.before x w in let a = y.0 in let b = y.1 in let c = y.2 in let d = y.3 in (omega (arith, a, h), omega (arith, b, h'), omega (arith, c, g), omega (arith, d, g'))

    through : (x : Passage) → x.variable ≤ n → x.variable' ≤ m → OldOrBehind x.variables x.variable x.variable' M.variables → OldOrBehind M.variables n m G → OldOrBehind x.variables x.variable x.variable' G
    through x a b o s i j y = by (s i j y)
      where
        by : Has M.variables i j ⊎ ((n ≤ i) × (m ≤ j)) → Has x.variables i j ⊎ ((x.variable ≤ i) × (x.variable' ≤ j))
        by (inl z) = o i j z
        by (inr z) = let u = z.0 in let v = z.1 in inr (omega (arith, a, u), omega (arith, b, v))

    across : NoneAcross (record { variables = G; loops = M.loops; passages = X ∷ M.passages }) n1 m1 k1 l1
    across a b c d x (inl e) = subst (λ (x : Passage). Across (record { variables = G; loops = M.loops; passages = X ∷ M.passages }) x) (sym e) (record { variables = λ i j y. inl y; loops = λ i j y. inl y })
    across a b c d x (inr w) =
        let fn : Few n = omega (arith, h, a) in let fm : Few m = omega (arith, h', b) in let fk : Few k = omega (arith, g, c) in let fl : Few l = omega (arith, g', d) in
        let y = p.across fn fm fk fl x w in let z = p.before x w in record { variables = through x z.0 z.1 y.variables (since a b); loops = y.loops }

-- ---- names behind statements

both_true : (a b : Bool) → (a && b) ≡ true → (a ≡ true) × (b ≡ true)
both_true true b e = (refl, e)
both_true false b e = absurd (cc)

clash : true ≡ false → ⊥
clash e = cc

module _ (old names : Names) (sc sc' : Variables) (lo lo' hi hi' : ℕ) (r : Rises old sc lo hi) (r' : Rises names sc' lo' hi') (ps : Pairs) (below : Below ps lo lo') where
  unlike_old : (qs : Pairs) (n m : ℕ) → Below qs lo lo' → lo ≤ n → lo' ≤ m → Every (Unlike (n, m)) qs
  unlike_old [] n m h a b = tt
  unlike_old (q ∷ qs) n m h a b = ((λ e. let l = h.0.0 in omega (arith, a, l, e), λ e. let l = h.0.1 in omega (arith, b, l, e)), unlike_old qs n m h.1 a b)

  -- a name that is bound by both, and others
  module _ (y : List ℕ) (n m : ℕ) (here : is_among y old ≡ true) (there : is_among y names ≡ true) (e : variable_named sc y ≡ Some n) (f : variable_named sc' y ≡ Some m) where
    another : (z : List ℕ) → bytes_eq y z ≡ false → y ≡ z → ⊥
    another z b s = clash (sym ((bytes_eq-Decides y z).1 s) ∙ b)

    unlike_pair : (z : List ℕ) (qs : Pairs) → bytes_eq y z ≡ false → is_among z old ≡ true → is_among z names ≡ true → (o o' : Option ℕ) → variable_named sc z ≡ o → variable_named sc' z ≡ o' → Every (Unlike (n, m)) qs → Every (Unlike (n, m)) (pair_if o o' qs)
    unlike_pair z qs b a c None None d d' h = h
    unlike_pair z qs b a c None (Some k) d d' h = h
    unlike_pair z qs b a c (Some j) None d d' h = h
    unlike_pair z qs b a c (Some j) (Some k) d d' h = (
      (λ s. another z b (r.apart y z n here a e (d ∙ ap (λ (x : ℕ). Some x) (sym s))), λ s. another z b (r'.apart y z m there c f (d' ∙ ap (λ (x : ℕ). Some x) (sym s)))),
      h,
    )

    or_parts : (a b : Bool) → (a || b) ≡ false → (a ≡ false) × (b ≡ false)
    or_parts true b e = absurd (cc)
    or_parts false b e = (refl, e)

    unlike_all : (zs : Names) → is_among y zs ≡ false → ((w : List ℕ) → is_among w zs ≡ true → is_among w names ≡ true) → Every (Unlike (n, m)) (pairs_onto old zs sc sc' ps)
    unlike_all [] b inside = let x = r.means y here in let x' = r'.means y there in unlike_old ps n m below (omega (arith, x.2, same n x.0 (sym e ∙ x.1))) (omega (arith, x'.2, same m x'.0 (sym f ∙ x'.1)))
      where
        same : (j k : ℕ) → Some j ≡ Some k → j ≡ k
        same j k e = cc
    unlike_all (z ∷ zs) b inside =
        let p = or_parts (bytes_eq y z) (is_among y zs) b in
        by (is_among z old && not (is_among z zs)) refl p.0 (inside z (ap (λ (c : Bool). c || is_among z zs) ((bytes_eq-Decides z z).1 refl))) (unlike_all zs p.1 (λ w h. inside w (or_later (bytes_eq w z) (is_among w zs) h)))
      where
        or_later : (a b : Bool) → b ≡ true → (a || b) ≡ true
        or_later true b e = refl
        or_later false b e = e

        by : (c : Bool) → (is_among z old && not (is_among z zs)) ≡ c → bytes_eq y z ≡ false → is_among z names ≡ true → Every (Unlike (n, m)) (pairs_onto old zs sc sc' ps)
            → Every (Unlike (n, m)) (if c then pair_if (variable_named sc z) (variable_named sc' z) (pairs_onto old zs sc sc' ps) else pairs_onto old zs sc sc' ps)
        by true k d i h = unlike_pair z (pairs_onto old zs sc sc' ps) d (both_true (is_among z old) (not (is_among z zs)) k).0 i (variable_named sc z) (variable_named sc' z) refl refl h
        by false k d i h = h

  module _ (above : lo ≤ hi) (above' : lo' ≤ hi') (apart : Apart ps) where
    one_more_pair : (z : List ℕ) (qs : Pairs) → is_among z old ≡ true → is_among z names ≡ true → (o o' : Option ℕ) → variable_named sc z ≡ o → variable_named sc' z ≡ o' → ((n m : ℕ) → variable_named sc z ≡ Some n → variable_named sc' z ≡ Some m → Every (Unlike (n, m)) qs)
        → Apart qs × Below qs hi hi' → Apart (pair_if o o' qs) × Below (pair_if o o' qs) hi hi'
    one_more_pair z qs a c None None d d' u h = h
    one_more_pair z qs a c None (Some k) d d' u h = h
    one_more_pair z qs a c (Some j) None d d' u h = h
    one_more_pair z qs a c (Some j) (Some k) d d' u h =
        let x = r.means z a in let x' = r'.means z c in
        ((u j k d d', h.0), ((omega (arith, x.3, same j x.0 (sym d ∙ x.1)), omega (arith, x'.3, same k x'.0 (sym d' ∙ x'.1))), h.1))
      where
        same : (j k : ℕ) → Some j ≡ Some k → j ≡ k
        same j k e = cc

    not_true : (b : Bool) → not b ≡ true → b ≡ false
    not_true false e = refl
    not_true true e = absurd (cc)

    pub onto_apart : (zs : Names) → ((w : List ℕ) → is_among w zs ≡ true → is_among w names ≡ true) → Apart (pairs_onto old zs sc sc' ps) × Below (pairs_onto old zs sc sc' ps) hi hi'
    onto_apart [] inside = (apart, below_wider ps lo lo' hi hi' above above' below)
    onto_apart (z ∷ zs) inside =
        by (is_among z old && not (is_among z zs)) refl (inside z (ap (λ (c : Bool). c || is_among z zs) ((bytes_eq-Decides z z).1 refl)))
        (λ (k : is_among z zs ≡ false) (a : is_among z old ≡ true) (n m : ℕ) (d : variable_named sc z ≡ Some n) (d' : variable_named sc' z ≡ Some m). unlike_all z n m a (inside z (ap (λ (c : Bool). c || is_among z zs) ((bytes_eq-Decides z z).1 refl))) d d' zs k (λ w h. inside w (or_later (bytes_eq w z) (is_among w zs) h)))
        (onto_apart zs (λ w h. inside w (or_later (bytes_eq w z) (is_among w zs) h)))
      where
        or_later : (a b : Bool) → b ≡ true → (a || b) ≡ true
        or_later true b e = refl
        or_later false b e = e

        by : (c : Bool) → (is_among z old && not (is_among z zs)) ≡ c → is_among z names ≡ true
            → (is_among z zs ≡ false → is_among z old ≡ true → (n m : ℕ) → variable_named sc z ≡ Some n → variable_named sc' z ≡ Some m → Every (Unlike (n, m)) (pairs_onto old zs sc sc' ps))
            → Apart (pairs_onto old zs sc sc' ps) × Below (pairs_onto old zs sc sc' ps) hi hi'
            → Apart (if c then pair_if (variable_named sc z) (variable_named sc' z) (pairs_onto old zs sc sc' ps) else pairs_onto old zs sc sc' ps)
            × Below (if c then pair_if (variable_named sc z) (variable_named sc' z) (pairs_onto old zs sc sc' ps) else pairs_onto old zs sc sc' ps) hi hi'
        by true k i u h = let w = both_true (is_among z old) (not (is_among z zs)) k in one_more_pair z (pairs_onto old zs sc sc' ps) w.0 i (variable_named sc z) (variable_named sc' z) refl refl (λ n m. u (not_true (is_among z zs) w.1) w.0 n m) h
        by false k i u h = h
