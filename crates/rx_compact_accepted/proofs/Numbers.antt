-- The numbers of a function's lifetimes where the signature of one function is short: its own by those of the signature, those of its types
-- as many behind its own as before, and those of a call by those of the signature that is called.
use Rattle.std.proofs.Common.{◌≡◌, ◌⊎◌, inl, inr, ℕ, ◌+◌, ◌-◌, ◌<◌, ◌≤◌, ◌==◌, nat_lt, Bool, true, false, if◌then◌else◌, List, [], ◌∷◌, slice_get, refl, sym, ap, subst, ◌∙◌, arith, lt-ltb, le-ltb}
use Rattle.std.proofs.lemmas.Bool.{cases_lt, eq-eqb, ne_eqb}
use Rattle.rx_core.specs.declared.types.Bound.{Bound}
use Rattle.rx_typed.specs.declared.declarations.Decl.{Decl}
use Rattle.rx_lower_walks.specs.Actions.{Act, Declare, Dead, Read, Write, Borrow, Test, Call, Build, Input, Print, Give, Action}
use Rattle.rx_lower_lifetimes.specs.Values.{lifetimes_of}
use Rattle.rx_lower_lifetimes.specs.Positions.{own_lifetimes}
use Rattle.rx_region.specs.Tables.{Follows}
use Rattle.rx_typeck_typed.specs.Bindings.{lifetimes}
use Rattle.rx_repair.proofs.Deciding.{same_or}
use Rattle.rx_compact_accepted.specs.AreShort.{AreShort}
use Rattle.rx_compact_accepted.proofs.Items.{lifetimes_elsewhere, count_is, new_count_is}

module _ (i : ℕ) (f : ℕ → ℕ) (D E : List Decl) (S : AreShort i f D E) where
  -- a lifetime of the signature that is called
  abbrev pub called_number : ℕ → ℕ → ℕ
  called_number j l = if j == i then f l else l

  abbrev pub act_number : Act → ℕ → ℕ
  act_number (Call j ts d) l = called_number j l
  act_number a l = l

  -- those from number b on are those of these sites, of which the first has number c
  abbrev pub moved : List Action → ℕ → ℕ → ℕ → ℕ
  moved [] b c l = (l - b) + c
  moved (a ∷ us) b c l = if nat_lt l (b + own_lifetimes D a.act) then c + act_number a.act (l - b) else moved us (b + own_lifetimes D a.act) (c + own_lifetimes E a.act) l

  pub called_same : (j l : ℕ) → j ≡ i → called_number j l ≡ f l
  called_same j l e = ap (λ b. if b then f l else l) (eq-eqb j i e)

  pub called_other : (j l : ℕ) → (j ≡ i → ⊥) → called_number j l ≡ l
  called_other j l ne = ap (λ b. if b then f l else l) (ne_eqb j i ne)

  pub within : (l : ℕ) → l < lifetimes_of (slice_get D i) → f l < lifetimes_of (slice_get E i)
  within l h = subst (λ m. f l < m) (ap lifetimes S.like.under.new ∙ sym (ap lifetimes_of S.like.under.new)) (S.numbers.within l (subst (λ n. l < n) (ap lifetimes_of S.like.under.old ∙ sym (ap lifetimes S.like.under.old)) h))

  pub called_within : (j l : ℕ) → l < lifetimes_of (slice_get D j) → called_number j l < lifetimes_of (slice_get E j)
  called_within j l h = elim (same_or j i) [
    | inl e ↦ subst (λ k. k < lifetimes_of (slice_get E j)) (sym (called_same j l e)) (subst (λ k. f l < lifetimes_of (slice_get E k)) (sym e) (within l (subst (λ k. l < lifetimes_of (slice_get D k)) e h)))
    | inr ne ↦ subst (λ k. k < lifetimes_of (slice_get E j)) (sym (called_other j l ne)) (subst (λ n. l < n) (sym (lifetimes_elsewhere i f D E S.like j ne)) h)
  ]

  act_within : (a : Act) (l : ℕ) → l < own_lifetimes D a → act_number a l < own_lifetimes E a
  act_within (Call j ts d) l h = called_within j l h
  act_within (Borrow k p d) l h = h
  act_within (Declare x) l h = h
  act_within (Dead x) l h = h
  act_within (Read m p d) l h = h
  act_within (Write p t ss) l h = h
  act_within (Test p c) l h = h
  act_within (Build w is ts d) l h = h
  act_within (Input d) l h = h
  act_within (Print t) l h = h
  act_within (Give t) l h = h

  -- ---- where a lifetime stands

  pub moved_here : (a : Action) (us : List Action) (b c l : ℕ) → l < b + own_lifetimes D a.act → moved (a ∷ us) b c l ≡ c + act_number a.act (l - b)
  moved_here a us b c l h = ap (λ t. if t then c + act_number a.act (l - b) else moved us (b + own_lifetimes D a.act) (c + own_lifetimes E a.act) l) (lt-ltb l (b + own_lifetimes D a.act) h)

  pub moved_behind : (a : Action) (us : List Action) (b c l : ℕ) → b + own_lifetimes D a.act ≤ l → moved (a ∷ us) b c l ≡ moved us (b + own_lifetimes D a.act) (c + own_lifetimes E a.act) l
  moved_behind a us b c l h = ap (λ t. if t then c + act_number a.act (l - b) else moved us (b + own_lifetimes D a.act) (c + own_lifetimes E a.act) l) (le-ltb l (b + own_lifetimes D a.act) h)

  pub moved_least : (us : List Action) (b c l : ℕ) → b ≤ l → c ≤ moved us b c l
  moved_least [] b c l h = omega (arith, h)
  moved_least (a ∷ us) b c l h = by (cases_lt l (b + own_lifetimes D a.act)) (λ g. moved_least us (b + own_lifetimes D a.act) (c + own_lifetimes E a.act) l g)
    where
      by : (l < b + own_lifetimes D a.act) ⊎ (b + own_lifetimes D a.act ≤ l) → (b + own_lifetimes D a.act ≤ l → c + own_lifetimes E a.act ≤ moved us (b + own_lifetimes D a.act) (c + own_lifetimes E a.act) l)
          → c ≤ moved (a ∷ us) b c l
      by (inl g) again = subst (λ n. c ≤ n) (sym (moved_here a us b c l g)) (omega arith)
      by (inr g) again = subst (λ n. c ≤ n) (sym (moved_behind a us b c l g)) (let r = again g in omega (arith, r))

  -- ---- those that become one

  -- lifetimes of a call that become one are asked to outlive each other
  abbrev pub AsksAt : List Bound → Act → ℕ → Type 0
  AsksAt ps (Call j ts d) b = j ≡ i → (l k : ℕ) → l < lifetimes_of (slice_get D i) → k < lifetimes_of (slice_get D i) → f l ≡ f k → Follows ps (b + l) (b + k)
  AsksAt ps a b = Unit {0}

  abbrev pub AllAsk : List Bound → List Action → ℕ → Type 0
  AllAsk ps [] b = Unit {0}
  AllAsk ps (a ∷ us) b = AsksAt ps a.act b × AllAsk ps us (b + own_lifetimes D a.act)

  called_apart : (ps : List Bound) (j b l k : ℕ) → (j ≡ i → (l k : ℕ) → l < lifetimes_of (slice_get D i) → k < lifetimes_of (slice_get D i) → f l ≡ f k → Follows ps (b + l) (b + k))
      → l < lifetimes_of (slice_get D j) → k < lifetimes_of (slice_get D j) → called_number j l ≡ called_number j k → (l ≡ k) ⊎ Follows ps (b + l) (b + k)
  called_apart ps j b l k asks h g e = elim (same_or j i) [
    | inl s ↦ inr (asks s l k (subst (λ n. l < lifetimes_of (slice_get D n)) s h) (subst (λ n. k < lifetimes_of (slice_get D n)) s g) (sym (called_same j l s) ∙ (e ∙ called_same j k s)))
    | inr ne ↦ inl (sym (called_other j l ne) ∙ (e ∙ called_other j k ne))
  ]

  act_apart : (ps : List Bound) (a : Act) (b l k : ℕ) → AsksAt ps a b → l < own_lifetimes D a → k < own_lifetimes D a → act_number a l ≡ act_number a k → (l ≡ k) ⊎ Follows ps (b + l) (b + k)
  act_apart ps (Call j ts d) b l k asks h g e = called_apart ps j b l k asks h g e
  act_apart ps (Borrow m p d) b l k asks h g e = inl e
  act_apart ps (Declare x) b l k asks h g e = inl e
  act_apart ps (Dead x) b l k asks h g e = inl e
  act_apart ps (Read m p d) b l k asks h g e = inl e
  act_apart ps (Write p t ss) b l k asks h g e = inl e
  act_apart ps (Test p c) b l k asks h g e = inl e
  act_apart ps (Build w is ts d) b l k asks h g e = inl e
  act_apart ps (Input d) b l k asks h g e = inl e
  act_apart ps (Print t) b l k asks h g e = inl e
  act_apart ps (Give t) b l k asks h g e = inl e

  -- numbers of one site
  here_apart : (ps : List Bound) (a : Action) (us : List Action) (b c l k : ℕ) → AsksAt ps a.act b → b ≤ l → b ≤ k → l < b + own_lifetimes D a.act → k < b + own_lifetimes D a.act
      → moved (a ∷ us) b c l ≡ moved (a ∷ us) b c k → (l ≡ k) ⊎ Follows ps l k
  here_apart ps a us b c l k asks h g x y e =
      let u : l - b < own_lifetimes D a.act = omega (arith, h, x) in
      let v : k - b < own_lifetimes D a.act = omega (arith, g, y) in
      let s : c + act_number a.act (l - b) ≡ c + act_number a.act (k - b) = sym (moved_here a us b c l x) ∙ (e ∙ moved_here a us b c k y) in
      let l_is : b + (l - b) ≡ l = omega (arith, h) in
      let k_is : b + (k - b) ≡ k = omega (arith, g) in
      elim (act_apart ps a.act b (l - b) (k - b) asks u v (omega (arith, s))) [
        | inl q ↦ inl (sym l_is ∙ (ap (λ n. b + n) q ∙ k_is))
        | inr w ↦ inr (subst (λ n. Follows ps n k) l_is (subst (λ n. Follows ps (b + (l - b)) n) k_is w))
      ]

  -- a number of the first site is no number of those behind it
  never_one : (a : Action) (us : List Action) (b c l k : ℕ) → b ≤ l → l < b + own_lifetimes D a.act → b + own_lifetimes D a.act ≤ k → moved (a ∷ us) b c l ≡ moved (a ∷ us) b c k → ⊥
  never_one a us b c l k h x y e =
      let u : l - b < own_lifetimes D a.act = omega (arith, h, x) in
      let v = act_within a.act (l - b) u in
      let p = moved_here a us b c l x in
      let q = moved_behind a us b c k y in
      let w = moved_least us (b + own_lifetimes D a.act) (c + own_lifetimes E a.act) k y in
      omega (arith, v, p, q, w, e)

  pub moved_apart : (ps : List Bound) (us : List Action) (b c l k : ℕ) → AllAsk ps us b → b ≤ l → b ≤ k → moved us b c l ≡ moved us b c k → (l ≡ k) ⊎ Follows ps l k
  moved_apart ps [] b c l k asks h g e = inl (omega (arith, h, g, e))
  moved_apart ps (a ∷ us) b c l k asks h g e =
      by (cases_lt l (b + own_lifetimes D a.act)) (cases_lt k (b + own_lifetimes D a.act))
      (λ x y q. moved_apart ps us (b + own_lifetimes D a.act) (c + own_lifetimes E a.act) l k asks.1 x y q)
    where
      by : (l < b + own_lifetimes D a.act) ⊎ (b + own_lifetimes D a.act ≤ l) → (k < b + own_lifetimes D a.act) ⊎ (b + own_lifetimes D a.act ≤ k)
          → (b + own_lifetimes D a.act ≤ l → b + own_lifetimes D a.act ≤ k
          → moved us (b + own_lifetimes D a.act) (c + own_lifetimes E a.act) l ≡ moved us (b + own_lifetimes D a.act) (c + own_lifetimes E a.act) k → (l ≡ k) ⊎ Follows ps l k)
          → (l ≡ k) ⊎ Follows ps l k
      by (inl x) (inl y) again = here_apart ps a us b c l k asks.0 h g x y e
      by (inl x) (inr y) again = absurd (never_one a us b c l k h x y e)
      by (inr x) (inl y) again = absurd (never_one a us b c k l g y x (sym e))
      by (inr x) (inr y) again = again x y (sym (moved_behind a us b c l x) ∙ (e ∙ moved_behind a us b c k y))

  -- ---- all lifetimes of a function

  module _ (own new_own behind new_behind : ℕ) (g : ℕ → ℕ) (us : List Action) where
    -- its own, those of its types, and those of its sites
    abbrev pub new_number : ℕ → ℕ
    new_number l = if nat_lt l own then g l else (if nat_lt l behind then (l - own) + new_own else moved us behind new_behind l)

    pub number_own : (l : ℕ) → l < own → new_number l ≡ g l
    number_own l h = ap (λ b. if b then g l else (if nat_lt l behind then (l - own) + new_own else moved us behind new_behind l)) (lt-ltb l own h)

    not_own : (l : ℕ) → own ≤ l → new_number l ≡ (if nat_lt l behind then (l - own) + new_own else moved us behind new_behind l)
    not_own l h = ap (λ b. if b then g l else (if nat_lt l behind then (l - own) + new_own else moved us behind new_behind l)) (le-ltb l own h)

    pub number_typed : (l : ℕ) → own ≤ l → l < behind → new_number l ≡ (l - own) + new_own
    number_typed l h w = not_own l h ∙ ap (λ b. if b then (l - own) + new_own else moved us behind new_behind l) (lt-ltb l behind w)

    pub number_sited : (l : ℕ) → own ≤ l → behind ≤ l → new_number l ≡ moved us behind new_behind l
    number_sited l h w = not_own l h ∙ ap (λ b. if b then (l - own) + new_own else moved us behind new_behind l) (le-ltb l behind w)

    module _ (within_own : (l : ℕ) → l < own → g l < new_own) (order : own ≤ behind) (as_many : new_behind ≡ (behind - own) + new_own) where
      least_typed : (l : ℕ) → own ≤ l → new_own ≤ new_number l
      least_typed l h = elim (cases_lt l behind) [
        | inl w ↦ (let e = number_typed l h w in omega (arith, e))
        | inr w ↦ (let e = number_sited l h w in let r = moved_least us behind new_behind l w in omega (arith, e, r, as_many))
      ]

      pub own_there : (l : ℕ) → l < own → new_number l < new_own
      own_there l h = subst (λ n. n < new_own) (sym (number_own l h)) (within_own l h)

      pub own_back : (l : ℕ) → new_number l < new_own → l < own
      own_back l h = elim (cases_lt l own) [
        | inl w ↦ w
        | inr w ↦ (let r = least_typed l w in absurd (omega (arith, r, h)))
      ]

      -- numbers of types end where those of sites begin
      not_typed : (l k : ℕ) → own ≤ l → l < behind → own ≤ k → behind ≤ k → new_number l ≡ new_number k → ⊥
      not_typed l k h w g v e =
          let a = number_typed l h w in
          let b = number_sited k g v in
          let r = moved_least us behind new_behind k v in
          omega (arith, a, b, r, h, w, e, as_many, order)

      typed_apart : (ps : List Bound) → AllAsk ps us behind → (l k : ℕ) → own ≤ l → own ≤ k → new_number l ≡ new_number k → (l ≡ k) ⊎ Follows ps l k
      typed_apart ps asks l k h g e = by (cases_lt l behind) (cases_lt k behind)
        where
          by : (l < behind) ⊎ (behind ≤ l) → (k < behind) ⊎ (behind ≤ k) → (l ≡ k) ⊎ Follows ps l k
          by (inl w) (inl v) = let a = number_typed l h w in let b = number_typed k g v in inl (omega (arith, a, b, h, g, e))
          by (inl w) (inr v) = absurd (not_typed l k h w g v e)
          by (inr w) (inl v) = absurd (not_typed k l g v h w (sym e))
          by (inr w) (inr v) = moved_apart ps us behind new_behind l k asks w v (sym (number_sited l h w) ∙ (e ∙ number_sited k g v))

      pub numbers_apart : (ps : List Bound) → AllAsk ps us behind → (l k : ℕ) → new_number l ≡ new_number k → (l ≡ k) ⊎ (((l < own) × (k < own)) ⊎ Follows ps l k)
      numbers_apart ps asks l k e = by (cases_lt l own) (cases_lt k own)
        where
          by : (l < own) ⊎ (own ≤ l) → (k < own) ⊎ (own ≤ k) → (l ≡ k) ⊎ (((l < own) × (k < own)) ⊎ Follows ps l k)
          by (inl w) (inl v) = inr (inl (w, v))
          by (inl w) (inr v) = let a = own_there l w in let r = least_typed k v in absurd (omega (arith, a, r, e))
          by (inr w) (inl v) = let a = own_there k v in let r = least_typed l w in absurd (omega (arith, a, r, e))
          by (inr w) (inr v) = elim (typed_apart ps asks l k w v e) [ inl q ↦ inl q | inr q ↦ inr (inr q) ]
