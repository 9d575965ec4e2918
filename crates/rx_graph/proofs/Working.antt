-- What the worklist does to a table.
use Rattle.std.proofs.Common.{◌≡◌, ◌⊎◌, inl, inr, ℕ, zero, suc, ◌+◌, ◌*◌, ◌-◌, ◌<◌, ◌≤◌, Bool, true, false, ◌||◌, ◌==◌, List, [], ◌∷◌, ◌++◌, length, get_or, slice_get, Some, unwrap_or, if◌then◌else◌, refl, ap, sym, ◌∙◌, subst, arith, true≢false}
use Rattle.std.proofs.Math.ListN.{set}
use Rattle.std.proofs.lemmas.Bool.{cases_eq, eq-eqb}
use Rattle.std.proofs.lemmas.List.{length-set}
use Rattle.std.proofs.lemmas.Option.{none-some, slice_get_within, slice_get-get_or}
use Rattle.rx_graph_bits.specs.Rows.{holds, Inserted}
use Rattle.rx_graph.specs.Facts.{has, targets}
use Rattle.rx_graph.specs.Equations.{Rules, Lawful, MeetsEquations, Derived, Solves}
use Rattle.rx_graph.specs.Equations as equations
use Rattle.rx_graph.specs.Worklist.{heights, Fit, Begun, Joined, Follows, Sound, Stands, StandsBut, Passing, Grown, site_of, Among, NoneNoted}
use Rattle.rx_graph.proofs.Spreading.{neither, or_true, different}

-- ---- lists

some_inj : {I : Type 0} {a b : I} → Some a ≡ Some b → a ≡ b
some_inj {a = a} h = ap (λ o. unwrap_or o a) h

set_there : {I : Type 0} (T : List I) (q : ℕ) (c : I) → q < length T → slice_get (set T q c) q ≡ Some c
set_there [] q c h = absurd (omega (arith, h))
set_there (t ∷ T) zero c h = refl
set_there (t ∷ T) (suc q) c h = set_there T q c (omega (arith, h))

set_elsewhere : {I : Type 0} (T : List I) (q r : ℕ) (c : I) → (r ≡ q → ⊥) → slice_get (set T q c) r ≡ slice_get T r
set_elsewhere [] q r c h = refl
set_elsewhere (t ∷ T) zero zero c h = absurd (h refl)
set_elsewhere (t ∷ T) zero (suc r) c h = refl
set_elsewhere (t ∷ T) (suc q) zero c h = refl
set_elsewhere (t ∷ T) (suc q) (suc r) c h = set_elsewhere T q r c (λ e. h (ap (λ n. suc n) e))

set_again : {I : Type 0} (T : List I) (q : ℕ) (a : I) → slice_get T q ≡ Some a → set T q a ≡ T
set_again [] q a h = refl
set_again (t ∷ T) zero a h = ap (λ x. x ∷ T) (sym (some_inj h))
set_again (t ∷ T) (suc q) a h = ap (λ x. t ∷ x) (set_again T q a h)

heights_set : {I : Type 0} (height : I → ℕ) (T : List I) (q : ℕ) (a c : I) → slice_get T q ≡ Some a → heights height (set T q c) + height a ≡ heights height T + height c
heights_set height [] q a c h = absurd (none-some a h)
heights_set height (t ∷ T) zero a c h = let e = ap (λ x. height x) (some_inj h) in omega (arith, e)
heights_set height (t ∷ T) (suc q) a c h = let rest = heights_set height T q a c h in omega (arith, rest)

last_of : {I : Type 0} (W : ℕ → I → Type 0) (T : List I) (c : I) → ((p : ℕ) (a : I) → slice_get T p ≡ Some a → W p a) → W (length T) c
    → (p : ℕ) (a : I) → slice_get (T ++ c ∷ []) p ≡ Some a → W p a
last_of W [] c all one zero a h = subst (λ x. W 0 x) (some_inj h) one
last_of W [] c all one (suc p) a h = absurd (none-some a h)
last_of W (t ∷ T) c all one zero a h = all zero a h
last_of W (t ∷ T) c all one (suc p) a h = last_of (λ n. W (suc n)) T c (λ p a. all (suc p) a) one p a h

some_there : {I : Type 0} (T : List I) (q : ℕ) → q < length T → (a : I) × (slice_get T q ≡ Some a)
some_there [] q h = absurd (omega (arith, h))
some_there (t ∷ T) zero h = (t, refl)
some_there (t ∷ T) (suc q) h = some_there T q (omega (arith, h))

-- a site that leads somewhere is one
pub leads : (edges : List (List ℕ)) (q p : ℕ) → has (targets edges q) p ≡ true → q < length edges
leads [] q p h = absurd (true≢false (sym h))
leads (e ∷ es) zero p h = omega arith
leads (e ∷ es) (suc q) p h = let rest = leads es q p h in omega (arith, rest)

has_at : (xs : List ℕ) (k : ℕ) → k < length xs → has xs (get_or xs k 0) ≡ true
has_at [] k h = absurd (omega (arith, h))
has_at (x ∷ xs) zero h = ap (λ b. b || has xs x) (eq-eqb x x refl)
has_at (x ∷ xs) (suc k) h = ap (λ b. (get_or xs k 0 == x) || b) (has_at xs k (omega (arith, h))) ∙ or_true _

-- ---- the noted sites

inserted_keeps : (P Q : List ℕ) (x i : ℕ) → Inserted P Q x → i < 64 * length P → holds P i ≡ true → holds Q i ≡ true
inserted_keeps P Q x i h within e = h.holds i within ∙ ap (λ b. (i == x) || b) e ∙ or_true _

inserted_there : (P Q : List ℕ) (x : ℕ) → Inserted P Q x → x < 64 * length P → holds Q x ≡ true
inserted_there P Q x h within = h.holds x within ∙ ap (λ b. b || holds P x) (eq-eqb x x refl)

-- ---- a value is joined to that of a site

module _ {I : Type 0} (R : Rules I) where
  pub joined_there : (T : List I) (q : ℕ) (d b c : I) (P Q : List ℕ) (g : Bool) → q < length T → R.Joins (get_or T q d) b c → R.Fits c
      → (g ≡ false → c ≡ get_or T q d) → (g ≡ true → R.height (get_or T q d) < R.height c) → (g ≡ true → Inserted P Q q) → (g ≡ false → Q ≡ P) → Joined R q b T (set T q c) P Q g
  joined_there T q d b c P Q g within join fits same more noted unnoted = record {
    count = length-set T q c;
    width = width_is g refl;
    there = λ z e. (a, at_a, subst (λ x. R.Joins a b x) (some_inj (sym (set_there T q c within) ∙ e)) join, subst R.Fits (some_inj (sym (set_there T q c within) ∙ e)) fits);
    other = λ r h. set_elsewhere T q r c h;
    same = λ e. (ap (λ x. set T q x) (same e) ∙ set_again T q a at_a, unnoted e);
    noted = noted;
    more = λ e. let m = more e in let s = heights_set R.height T q a c at_a in omega (arith, m, s);
  } where
    a : I
    a = get_or T q d

    at_a : slice_get T q ≡ Some a
    at_a = slice_get-get_or T q d within

    width_is : (b : Bool) → g ≡ b → length Q ≡ length P
    width_is true e = (noted e).width
    width_is false e = ap (λ l. length l) (unnoted e)

  pub joined_nowhere : (T : List I) (q : ℕ) (b : I) (P : List ℕ) → length T ≤ q → Joined R q b T T P P false
  joined_nowhere T q b P past = record {
    count = refl;
    width = refl;
    there = λ c e. let h = slice_get_within T q c e in absurd (omega (arith, h, past));
    other = λ r h. refl;
    same = λ e. (refl, refl);
    noted = λ e. absurd (true≢false (sym e));
    more = λ e. absurd (true≢false (sym e));
  }

-- ---- a site passes on what it made of its value

module _ {I : Type 0} (R : Rules I) (L : Lawful R) (edges : List (List ℕ)) where
  each_row : (W : ℕ → I → Type 0) (x : ℕ) (b : I) (T U : List I) (P Q : List ℕ) (g : Bool) → Joined R x b T U P Q g
      → ((a c : I) → slice_get T x ≡ Some a → R.Joins a b c → R.Fits c → W x a → W x c) → ((p : ℕ) (a : I) → slice_get T p ≡ Some a → W p a)
      → (p : ℕ) (c : I) → slice_get U p ≡ Some c → W p c
  each_row W x b T U P Q g h one all p c e = by (cases_eq p x) where
    by : (p ≡ x) ⊎ (p ≡ x → ⊥) → W p c
    by (inl s) = subst (λ r. W r c) (sym s) (let t = h.there c (subst (λ r. slice_get U r ≡ Some c) s e) in one t.0 c t.1 t.2 t.3 (all x t.0 t.1))
    by (inr d) = all p c (sym (h.other p d) ∙ e)

  joined_sound : (q x : ℕ) (a b : I) (T U : List I) (P Q : List ℕ) (g : Bool) → has (targets edges q) x ≡ true → Derived R edges q a → R.Steps q a b → Joined R x b T U P Q g
      → Sound R edges T P → Sound R edges U Q
  joined_sound q x a b T U P Q g t d s h before = record {
    count = h.count ∙ before.count;
    width = subst (λ n. length edges ≤ 64 * n) (sym h.width) before.width;
    begins = each_row (λ p v. (z : I) × R.Begins p z × R.Below z v) x b T U P Q g h (λ v c e j f o. (o.0, o.1, L.transitive o.0 v c o.2 (L.joins v b c j).left)) before.begins;
    fits = each_row (λ p v. R.Fits v) x b T U P Q g h (λ v c e j f o. f) before.fits;
    derived = each_row (λ p v. Derived R edges p v) x b T U P Q g h (λ v c e j f o. equations.comes q a b v t d s o j) before.derived;
  }

  follows_on : (x : ℕ) (b : I) (T U : List I) (P Q : List ℕ) (g : Bool) → Joined R x b T U P Q g → (r : ℕ) → slice_get U r ≡ slice_get T r → Follows R edges T r → Follows R edges U r
  follows_on x b T U P Q g h r same f p v c t e k = each_row (λ p c. has (targets edges r) p ≡ true → (z : I) × R.Steps r v z × R.Below z c) x b T U P Q g h
      (λ a c s j fits old t. let o = old t in (o.0, o.1, L.transitive o.0 a c o.2 (L.joins a b c j).left)) (λ p a s t. f p v a t (sym same ∙ e) s) p c k t

  noted_on : (x : ℕ) (b : I) (T U : List I) (P Q : List ℕ) (g : Bool) → Joined R x b T U P Q g → (r : ℕ) → r < 64 * length P
      → (holds P r ≡ true) ⊎ Follows R edges T r → (holds Q r ≡ true) ⊎ Follows R edges U r
  noted_on x b T U P Q g h r within before = by g refl (cases_eq r x) before where
    by : (k : Bool) → g ≡ k → (r ≡ x) ⊎ (r ≡ x → ⊥) → (holds P r ≡ true) ⊎ Follows R edges T r → (holds Q r ≡ true) ⊎ Follows R edges U r
    by false e c (inl n) = inl (subst (λ l. holds l r ≡ true) (sym (h.same e).1) n)
    by false e c (inr f) = inr (subst (λ V. Follows R edges V r) (sym (h.same e).0) f)
    by true e c (inl n) = inl (inserted_keeps P Q x r (h.noted e) within n)
    by true e (inl c) (inr f) = inl (subst (λ i. holds Q i ≡ true) (sym c) (inserted_there P Q x (h.noted e) (subst (λ i. i < 64 * length P) c within)))
    by true e (inr c) (inr f) = inr (follows_on x b T U P Q g h r (h.other r c) f)

  passing_on : (D E : ℕ → Type 0) (q x : ℕ) (a b : I) (T U : List I) (P Q : List ℕ) (g : Bool) → q < length T → has (targets edges q) x ≡ true → Derived R edges q a → R.Steps q a b
      → ((p : ℕ) → E p → (p ≡ x → ⊥) → D p) → Joined R x b T U P Q g → Passing R edges q a b D T P → Passing R edges q a b E U Q
  passing_on D E q x a b T U P Q g within t d s more h before = record {
    sound = joined_sound q x a b T U P Q g t d s h before.sound;
    noted = λ r i n. noted_on x b T U P Q g h r (omega (arith, i, h.count, before.sound.count, before.sound.width)) (before.noted r (omega (arith, i, h.count)) n);
    own = by g refl (cases_eq q x) before.own;
  } where
    inside : q < 64 * length P
    inside = omega (arith, within, before.sound.count, before.sound.width)

    -- what the value was joined to is above it now
    done : ((p : ℕ) (c : I) → D p → slice_get T p ≡ Some c → R.Below b c) → (p : ℕ) (c : I) → E p → slice_get U p ≡ Some c → R.Below b c
    done f p c e k = at_p (cases_eq p x) where
      at_p : (p ≡ x) ⊎ (p ≡ x → ⊥) → R.Below b c
      at_p (inl i) = let t = h.there c (subst (λ r. slice_get U r ≡ Some c) i k) in (L.joins t.0 b c t.2).right
      at_p (inr n) = f p c (more p e n) (sym (h.other p n) ∙ k)

    by : (k : Bool) → g ≡ k → (q ≡ x) ⊎ (q ≡ x → ⊥) → (holds P q ≡ true) ⊎ ((slice_get T q ≡ Some a) × ((p : ℕ) (c : I) → D p → slice_get T p ≡ Some c → R.Below b c))
        → (holds Q q ≡ true) ⊎ ((slice_get U q ≡ Some a) × ((p : ℕ) (c : I) → E p → slice_get U p ≡ Some c → R.Below b c))
    by false e c (inl n) = inl (subst (λ l. holds l q ≡ true) (sym (h.same e).1) n)
    by false e c (inr f) = inr (subst (λ V. slice_get V q ≡ Some a) (sym (h.same e).0) f.0, done f.1)
    by true e c (inl n) = inl (inserted_keeps P Q x q (h.noted e) inside n)
    by true e (inl c) (inr f) = inl (subst (λ i. holds Q i ≡ true) (sym c) (inserted_there P Q x (h.noted e) (subst (λ i. i < 64 * length P) c inside)))
    by true e (inr c) (inr f) = inr (h.other q c ∙ f.0, done f.1)

  -- the first of some sites
  abbrev pub First : List ℕ → ℕ → ℕ → Type 0
  First xs k p = (j : ℕ) × (j < k) × (p ≡ get_or xs j 0)

  -- what a loop over the sites has done
  pub record Handing (xs : List ℕ) (b : I) (T U : List I) (P Q : List ℕ) (k : ℕ) (g : Bool) : Type 0 where
    pub fit : Fit R U
    pub passed : (q : ℕ) (a : I) → targets edges q ≡ xs → Derived R edges q a → R.Steps q a b → Passing R edges q a b (λ p. ⊥) T P → Passing R edges q a b (First xs k) U Q
    pub count : length U ≡ length T
    pub grown : Grown R.height T U P Q g

  pub begin_handing : (xs : List ℕ) (b : I) (T : List I) (P : List ℕ) → Fit R T → Handing xs b T T P P 0 false
  begin_handing xs b T P fit = record {
    fit = fit;
    passed = λ q a t d s h. record { sound = h.sound; noted = h.noted; own = none q a h.own };
    count = refl;
    grown = record { same = λ e. refl; fewer = λ e i h k. k; more = λ e. absurd (true≢false (sym e)) };
  } where
    none : (q : ℕ) (a : I) → (holds P q ≡ true) ⊎ ((slice_get T q ≡ Some a) × ((p : ℕ) (c : I) → ⊥ → slice_get T p ≡ Some c → R.Below b c))
        → (holds P q ≡ true) ⊎ ((slice_get T q ≡ Some a) × ((p : ℕ) (c : I) → First xs 0 p → slice_get T p ≡ Some c → R.Below b c))
    none q a (inl x) = inl x
    none q a (inr y) = inr (y.0, λ p c f. absurd (omega (arith, f.1)))

  grew_on : (T U V : List I) (P Q O : List ℕ) (g h : Bool) → length U ≡ length T → Grown R.height T U P Q g → Grown R.height U V Q O h → Grown R.height T V P O (g || h)
  grew_on T U V P Q O true true c one two = record { same = λ e. absurd (true≢false e); fewer = λ e. absurd (true≢false e); more = λ e. let x = one.more refl in let y = two.more refl in omega (arith, x, y) }
  grew_on T U V P Q O true false c one two = record { same = λ e. absurd (true≢false e); fewer = λ e. absurd (true≢false e); more = λ e. subst (λ X. heights R.height T < heights R.height X) (sym (two.same refl)) (one.more refl) }
  grew_on T U V P Q O false true c one two = record { same = λ e. absurd (true≢false e); fewer = λ e. absurd (true≢false e); more = λ e. subst (λ X. heights R.height X < heights R.height V) (one.same refl) (two.more refl) }
  grew_on T U V P Q O false false c one two = record { same = λ e. two.same refl ∙ one.same refl; fewer = λ e i k x. one.fewer refl i k (two.fewer refl i (omega (arith, k, c)) x); more = λ e. absurd (true≢false (sym e)) }

  joined_grown : (x : ℕ) (b : I) (T U : List I) (P Q : List ℕ) (g : Bool) → Joined R x b T U P Q g → Grown R.height T U P Q g
  joined_grown x b T U P Q g h = record { same = λ e. (h.same e).0; fewer = λ e i k y. subst (λ l. holds l i ≡ true) (h.same e).1 y; more = h.more }

  pub more_handed : (xs : List ℕ) (b : I) (T U V : List I) (P Q O : List ℕ) (k : ℕ) (g j : Bool) → k < length xs → Joined R (get_or xs k 0) b U V Q O j → Handing xs b T U P Q k g
      → Handing xs b T V P O (k + 1) (g || j)
  more_handed xs b T U V P Q O k g j within h before = record {
    fit = each_row (λ p v. R.Fits v) (get_or xs k 0) b U V Q O j h (λ v c e j f o. f) before.fit;
    passed = λ q a t d s start. let p = before.passed q a t d s start in
        passing_on (First xs k) (First xs (k + 1)) q (get_or xs k 0) a b U V Q O j (site q (leads edges q (get_or xs k 0) (leads_there q t)) p.sound.count) (leads_there q t) d s earlier h p;
    count = h.count ∙ before.count;
    grown = grew_on T U V P Q O g j before.count before.grown (joined_grown (get_or xs k 0) b U V Q O j h);
  } where
    leads_there : (q : ℕ) → targets edges q ≡ xs → has (targets edges q) (get_or xs k 0) ≡ true
    leads_there q t = subst (λ l. has l (get_or xs k 0) ≡ true) (sym t) (has_at xs k within)

    site : (q : ℕ) → q < length edges → length U ≡ length edges → q < length U
    site q i e = omega (arith, i, e)

    earlier : (p : ℕ) → First xs (k + 1) p → (p ≡ get_or xs k 0 → ⊥) → First xs k p
    earlier p f n = (f.0, less (cases_eq f.0 k), f.2) where
      less : (f.0 ≡ k) ⊎ (f.0 ≡ k → ⊥) → f.0 < k
      less (inl e) = absurd (n (f.2 ∙ ap (λ i. get_or xs i 0) e))
      less (inr e) = omega (arith, f.1, e)

  first_has : (xs : List ℕ) (p : ℕ) → has xs p ≡ true → First xs (length xs) p
  first_has [] p h = absurd (true≢false (sym h))
  first_has (x ∷ xs) p h = by (cases_eq p x) (λ n. first_has xs p (sym (ap (λ b. b || has xs p) (different p x n)) ∙ h)) where
    by : (p ≡ x) ⊎ (p ≡ x → ⊥) → ((p ≡ x → ⊥) → First xs (length xs) p) → First (x ∷ xs) (length (x ∷ xs)) p
    by (inl e) more = (zero, omega arith, e)
    by (inr n) more = let r = more n in (suc r.0, omega (arith, r.1), r.2)

  pub end_handing : (xs : List ℕ) (b : I) (T U : List I) (P Q : List ℕ) (k : ℕ) (g : Bool) → length xs ≤ k → Handing xs b T U P Q k g
      → (q : ℕ) (a : I) → targets edges q ≡ xs → Derived R edges q a → R.Steps q a b → Passing R edges q a b (λ p. ⊥) T P → Passing R edges q a b (λ p. has xs p ≡ true) U Q
  end_handing xs b T U P Q k g past h q a t d s start = record { sound = now.sound; noted = now.noted; own = all now.own } where
    now : Passing R edges q a b (First xs k) U Q
    now = h.passed q a t d s start

    all : (holds Q q ≡ true) ⊎ ((slice_get U q ≡ Some a) × ((p : ℕ) (c : I) → First xs k p → slice_get U p ≡ Some c → R.Below b c))
        → (holds Q q ≡ true) ⊎ ((slice_get U q ≡ Some a) × ((p : ℕ) (c : I) → has xs p ≡ true → slice_get U p ≡ Some c → R.Below b c))
    all (inl n) = inl n
    all (inr f) = inr (f.0, λ p c e. let i = first_has xs p e in f.1 p c (i.0, omega (arith, i.1, past), i.2))

  -- a site that passed on what it made of its value
  begin_pass : (q : ℕ) (d b : I) (T : List I) (P : List ℕ) → q < length T → StandsBut R edges q T P → Passing R edges q (get_or T q d) b (λ p. ⊥) T P
  begin_pass q d b T P within h = record { sound = h.sound; noted = h.noted; own = inr (slice_get-get_or T q d within, λ p c e. absurd e) }

  end_pass : (q : ℕ) (a b : I) (T : List I) (P : List ℕ) → R.Steps q a b → Passing R edges q a b (λ p. has (targets edges q) p ≡ true) T P → Stands R edges T P
  end_pass q a b T P s h = record { sound = h.sound; noted = λ r i. by r i (cases_eq r q) } where
    own : (holds P q ≡ true) ⊎ ((slice_get T q ≡ Some a) × ((p : ℕ) (c : I) → has (targets edges q) p ≡ true → slice_get T p ≡ Some c → R.Below b c)) → (holds P q ≡ true) ⊎ Follows R edges T q
    own (inl n) = inl n
    own (inr f) = inr (λ p v c t e k. (b, subst (λ z. R.Steps q z b) (some_inj (sym f.0 ∙ e)) s, f.1 p c t k))

    by : (r : ℕ) → r < length T → (r ≡ q) ⊎ (r ≡ q → ⊥) → (holds P r ≡ true) ⊎ Follows R edges T r
    by r i (inl e) = subst (λ k. (holds P k ≡ true) ⊎ Follows R edges T k) (sym e) (own h.own)
    by r i (inr n) = h.noted r i n

  pub passed_on : (q : ℕ) (d b : I) (T U : List I) (P Q xs : List ℕ) → q < length T → StandsBut R edges q T P → R.Steps q (get_or T q d) b → targets edges q ≡ xs
      → ((k : ℕ) (a : I) → targets edges k ≡ xs → Derived R edges k a → R.Steps k a b → Passing R edges k a b (λ p. ⊥) T P → Passing R edges k a b (λ p. has xs p ≡ true) U Q)
      → Stands R edges U Q
  passed_on q d b T U P Q xs within h s is spread = end_pass q (get_or T q d) b U Q s (subst (λ l. Passing R edges q (get_or T q d) b (λ p. has l p ≡ true) U Q) (sym is)
      (spread q (get_or T q d) is (h.sound.derived q (get_or T q d) (slice_get-get_or T q d within)) s (begin_pass q d b T P within h)))

  -- ---- sites are visited

  pub nothing_grown : (T : List I) (P : List ℕ) → Grown R.height T T P P false
  nothing_grown T P = record { same = λ e. refl; fewer = λ e i k x. x; more = λ e. absurd (true≢false (sym e)) }

  -- what visits came to so far
  pub record Sweeping (down : Bool) (T U : List I) (P Q : List ℕ) (k : ℕ) (g : Bool) : Type 0 where
    pub stands : Stands R edges U Q
    pub count : length U ≡ length T
    pub grown : Grown R.height T U P Q g
    pub done : g ≡ false → NoneNoted (Among down (length T) k) Q

  pub begin_sweep : (down : Bool) (T : List I) (P : List ℕ) → Stands R edges T P → Sweeping down T T P P 0 false
  begin_sweep down T P h = record { stands = h; count = refl; grown = nothing_grown T P; done = λ e q a. absurd (omega (arith, a.1)) }

  site_below : (down : Bool) (n k : ℕ) → k < n → site_of down n k < n
  site_below true n k h = omega (arith, h)
  site_below false n k h = h

  pub more_swept : (down : Bool) (T U V : List I) (P Q O : List ℕ) (k : ℕ) (g j : Bool) → k < length T → Stands R edges V O → Grown R.height U V Q O j
      → (s : ℕ) → s ≡ site_of down (length T) k → (j ≡ false → holds O s ≡ false) → Sweeping down T U P Q k g → Sweeping down T V P O (k + 1) (g || j)
  more_swept down T U V P Q O k g j within stands one s is visited before = record {
    stands = stands;
    count = stands.sound.count ∙ sym before.stands.sound.count ∙ before.count;
    grown = grew_on T U V P Q O g j before.count before.grown one;
    done = λ e q a. let n = neither g j e in by n.0 n.1 q a.0 (cases_eq a.0 k) a.1 a.2;
  } where
    still : (q : ℕ) → q < length U → j ≡ false → holds Q q ≡ false → holds O q ≡ false
    still q i e h = at_b (holds O q) refl where
      at_b : (b : Bool) → holds O q ≡ b → b ≡ false
      at_b false x = refl
      at_b true x = absurd (true≢false (sym (one.fewer e q i x) ∙ h))

    by : g ≡ false → j ≡ false → (q i : ℕ) → (i ≡ k) ⊎ (i ≡ k → ⊥) → i < k + 1 → q ≡ site_of down (length T) i → holds O q ≡ false
    by a b q i (inl e) w x = subst (λ r. holds O r ≡ false) (sym (x ∙ ap (λ m. site_of down (length T) m) e ∙ sym is)) (visited b)
    by a b q i (inr n) w x = still q (subst (λ s. s < length U) (sym x) (subst (λ m. site_of down (length T) i < m) (sym before.count) (site_below down (length T) i (omega (arith, w, n, within))))) b
        (before.done a q (i, omega (arith, w, n), x))

  pub end_sweep : (down : Bool) (T U : List I) (P Q : List ℕ) (k : ℕ) (g : Bool) → length T ≤ k → Sweeping down T U P Q k g → g ≡ false → NoneNoted (λ q. q < length T) Q
  end_sweep down T U P Q k g past h e q i = h.done e q (each down i) where
    each : (d : Bool) → q < length T → Among d (length T) k q
    each false i = (q, omega (arith, i, past), refl)
    each true i = (length T - (q + 1), omega (arith, i, past), omega (arith, i))

  -- ---- sweeps end

  -- as high as so many values are at most
  abbrev pub tops : ℕ → ℕ → ℕ
  tops m zero = 0
  tops m (suc n) = m + tops m n

  heights_below : (T : List I) → Fit R T → heights R.height T ≤ tops R.most (length T)
  heights_below [] fit = omega arith
  heights_below (t ∷ T) fit = let first = L.bounded t (fit zero t refl) in let rest = heights_below T (λ p a e. fit (suc p) a e) in omega (arith, first, rest)

  -- twice what may still be added, and one sweep
  abbrev pub sweeps_left : List I → Bool → ℕ
  sweeps_left T grown = 2 * (tops R.most (length edges) - heights R.height T) + (if grown then 1 else 0)

  pub fewer_sweeps : (T U : List I) (P Q : List ℕ) (h : Bool) → Stands R edges U Q → Grown R.height T U P Q h → sweeps_left U h < sweeps_left T true
  fewer_sweeps T U P Q true s g = let m = g.more refl in let b = subst (λ n. heights R.height U ≤ tops R.most n) s.sound.count (heights_below U s.sound.fits) in omega (arith, m, b)
  fewer_sweeps T U P Q false s g = let m = ap (λ V. heights R.height V) (g.same refl) in omega (arith, m)

  pub still_none : (T U : List I) (P Q : List ℕ) (h : Bool) → Stands R edges T P → Stands R edges U Q → (h ≡ false → NoneNoted (λ q. q < length T) Q) → h ≡ false → NoneNoted (λ q. q < length U) Q
  still_none T U P Q h s t none e q i = none e q (omega (arith, i, s.sound.count, t.sound.count))

  -- what comes to a site is below its value in each table that meets the equations
  below_each : (U : List I) → MeetsEquations R edges U → (p : ℕ) (a : I) → Derived R edges p a → (b : I) → slice_get U p ≡ Some b → R.Below a b
  below_each U m p a (equations.begins h) b e = let o = m.begins p b e in L.transitive a o.0 b (L.one_beginning p a o.0 h o.1) o.2
  below_each U m p d (equations.comes q a v c t first s more j) b e =
      let u = some_there U q (subst (λ n. q < n) (sym m.count) (leads edges q p t)) in let o = m.follows q p u.0 b t u.1 e in
      (L.joins c v d j).least b (below_each U m p c more b e) (L.transitive v o.0 b (L.monotone q a u.0 v o.0 (below_each U m q a first u.0 u.1) s o.1) o.2)

  pub solved : (T : List I) (P : List ℕ) → Stands R edges T P → NoneNoted (λ q. q < length T) P → Solves R edges T
  solved T P h none = record {
    meets = record { count = h.sound.count; begins = h.sound.begins; follows = λ q p a c t. let i = site q p t in by q p a c t (none q i) (h.noted q i) };
    least = λ U m p a b e k. below_each U m p a (h.sound.derived p a e) b k;
    fits = h.sound.fits;
    derived = h.sound.derived;
  } where
    site : (q p : ℕ) → has (targets edges q) p ≡ true → q < length T
    site q p t = let i = leads edges q p t in omega (arith, i, h.sound.count)

    by : (q p : ℕ) (a c : I) → has (targets edges q) p ≡ true → holds P q ≡ false → (holds P q ≡ true) ⊎ Follows R edges T q
        → slice_get T q ≡ Some a → slice_get T p ≡ Some c → (b : I) × R.Steps q a b × R.Below b c
    by q p a c t n (inl e) = absurd (true≢false (sym e ∙ n))
    by q p a c t n (inr f) = f p a c t

  -- ---- the beginning

  pub all_noted : (T : List I) (P Q : List ℕ) → Begun R (length edges) T → length edges ≤ 64 * length P → length Q ≡ length P
      → ((q : ℕ) → q < length T → q < 64 * length P → holds Q q ≡ true) → Stands R edges T Q
  all_noted T P Q h width same noted = record {
    sound = record {
      count = h.count;
      width = subst (λ n. length edges ≤ 64 * n) (sym same) width;
      begins = λ p a e. (a, h.begins p a e, L.reflexive a (h.fits p a e));
      fits = h.fits;
      derived = λ p a e. equations.begins (h.begins p a e);
    };
    noted = λ q i. inl (noted q i (omega (arith, i, h.count, width)));
  }

module _ {I : Type 0} (R : Rules I) where
  pub begun_none : Begun R 0 []
  begun_none = record { count = refl; begins = λ p a e. absurd (none-some a e); fits = λ p a e. absurd (none-some a e) }

  pub begun_more : (T : List I) (c : I) (k : ℕ) → R.Begins k c → R.Fits c → Begun R k T → Begun R (k + 1) (T ++ c ∷ [])
  begun_more T c k h f before = record {
    count = length_more T ∙ ap (λ n. n + 1) before.count;
    begins = last_of (λ p a. R.Begins p a) T c before.begins (subst (λ n. R.Begins n c) (sym before.count) h);
    fits = last_of (λ p a. R.Fits a) T c before.fits f;
  } where
    length_more : (xs : List I) → length (xs ++ c ∷ []) ≡ length xs + 1
    length_more [] = refl
    length_more (x ∷ xs) = let e = length_more xs in omega (arith, e)
