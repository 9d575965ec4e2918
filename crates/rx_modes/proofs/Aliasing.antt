-- Whether a variable would get another storage, by what is known of the run; and the first one.
use Rattle.std.proofs.Common.{◌≡◌, refl, sym, ap, ◌∙◌, ◌⊎◌, inl, inr, ℕ, ◌==◌, Bool, true, false, true≢false, ◌||◌, ◌&&◌, if◌then◌else◌, List, [], ◌∷◌, slice_get, Option, Some, None, subst}
use Rattle.std.specs.Bool.{Decides}
use Rattle.std.proofs.lemmas.Bool.{eq-eqb, eqb-true}
use Rattle.std.proofs.lemmas.Bool.Decides.{Decides-at, Decides-and, Decides-or, Decides-like}
use Rattle.rx_typed.specs.Tree.{Place}
use Rattle.rx_lower_walks.specs.Actions.{Act, Declare, Dead, Read, Write, Borrow, Test, Call, Build, Input, Print, Give, Action}
use Rattle.rx_lower_walks.specs.Walks.{Among, here, there}
use Rattle.rx_exits_plan.specs.Points.{Exit}
use Rattle.rx_exits_plan.specs.Asked.{Asked}
use Rattle.rx_exits_plan.specs.Occurrences.{has_number}
use Rattle.rx_exits_plan.specs.Plan.{out_of_some}
use Rattle.rx_exits_plan.specs.PlainPlan.{plan_of, outs_in}
use Rattle.rx_modes_uses.specs.First.{First, this, later}
use Rattle.rx_modes_uses.specs.Paths.{OwnPath}
use Rattle.rx_modes_uses.specs.Deeds as deeds
use Rattle.rx_modes_uses.specs.Deeds.{Done}
use Rattle.rx_modes_uses.specs.Aliased.{IsAliased, GetsOther, moved, local, out, redeclared}
use Rattle.rx_modes_uses.specs.Outside.{in_run, in_function}
use Rattle.rx_modes_deeds.specs.declared.deeds.Deeds.{Deeds}
use Rattle.rx_modes_deeds.specs.Doings.{AreDeeds, deeds_at}
use Rattle.rx_modes.specs.declared.known.Known.{Known}
use Rattle.rx_modes.specs.Told.{IsKnown, is_mut, is_out, is_moved_in, gets_other, is_borrowed, is_aliased, first_such, listed}
use Rattle.rx_modes.proofs.Typing.{mut_told}

never : {P : Type 0} → false ≡ true → P
never e = absurd (true≢false (sym e))

-- ---- lists

put : {A : Type 0} (x y : A) (l : List A) → (x ≡ y) ⊎ Among x l → Among x (y ∷ l)
put x y l (inl e) = subst (λ z. Among x (z ∷ l)) e here
put x y l (inr i) = there i

taken : {A : Type 0} {x y : A} {l : List A} → Among x (y ∷ l) → (x ≡ y) ⊎ Among x l
taken here = inl refl
taken (there i) = inr i

eqb_told : (x y : ℕ) → Decides (x == y) (x ≡ y)
eqb_told x y = (eqb-true x y, eq-eqb x y)

pub among_told : (x : ℕ) (l : List ℕ) → Decides (has_number x l) (Among x l)
among_told x [] = (λ e. never e, λ i. elim i [ ])
among_told x (y ∷ l) = Decides-like (has_number x (y ∷ l)) (put x y l) taken (Decides-or (x == y) (has_number x l) (eqb_told x y) (among_told x l))

abbrev OutOf : List Exit → (Exit → List ℕ) → ℕ → Type 0
OutOf es outs x = (e : Exit) × Among e es × Among x (outs e)

out_told : (es : List Exit) (outs : Exit → List ℕ) (x : ℕ) → Decides (out_of_some es outs x) (OutOf es outs x)
out_told [] outs x = (λ e. never e, λ h. none h.1)
  where
    none : {e : Exit} {P : Type 0} → Among e [] → P
    none i = elim i [ ]
out_told (e ∷ es) outs x =
    Decides-like (out_of_some (e ∷ es) outs x) forth (λ h. back h.1 h.2)
    (Decides-or (has_number x (outs e)) (out_of_some es outs x) (among_told x (outs e)) (out_told es outs x))
  where
    forth : Among x (outs e) ⊎ OutOf es outs x → OutOf (e ∷ es) outs x
    forth (inl i) = (e, here, i)
    forth (inr h) = (h.0, there h.1, h.2)

    back : {d : Exit} → Among d (e ∷ es) → Among x (outs d) → Among x (outs e) ⊎ OutOf es outs x
    back here i = inl i
    back {d = d} (there j) i = inr (d, j, i)

-- ---- borrows

shared_borrows : (a : Act) (p : Place) → deeds.shared a ≡ Some p → deeds.borrowed a ≡ Some p
shared_borrows (Declare y) p e = cc
shared_borrows (Dead y) p e = cc
shared_borrows (Read m q d) p e = cc
shared_borrows (Write q t ss) p e = cc
shared_borrows (Borrow true q d) p e = cc
shared_borrows (Borrow false q d) p e = e
shared_borrows (Test q c) p e = cc
shared_borrows (Call f ts d) p e = cc
shared_borrows (Build w is ts d) p e = cc
shared_borrows (Input d) p e = cc
shared_borrows (Print t) p e = cc
shared_borrows (Give t) p e = cc

lent_borrows : (a : Act) (p : Place) → deeds.borrowed_mutably a ≡ Some p → deeds.borrowed a ≡ Some p
lent_borrows (Declare y) p e = cc
lent_borrows (Dead y) p e = cc
lent_borrows (Read m q d) p e = cc
lent_borrows (Write q t ss) p e = cc
lent_borrows (Borrow true q d) p e = e
lent_borrows (Borrow false q d) p e = cc
lent_borrows (Test q c) p e = cc
lent_borrows (Call f ts d) p e = cc
lent_borrows (Build w is ts d) p e = cc
lent_borrows (Input d) p e = cc
lent_borrows (Print t) p e = cc
lent_borrows (Give t) p e = cc

borrow_is : (a : Act) (p : Place) → deeds.borrowed a ≡ Some p → (deeds.shared a ≡ Some p) ⊎ (deeds.borrowed_mutably a ≡ Some p)
borrow_is (Declare y) p e = cc
borrow_is (Dead y) p e = cc
borrow_is (Read m q d) p e = cc
borrow_is (Write q t ss) p e = cc
borrow_is (Borrow true q d) p e = inr e
borrow_is (Borrow false q d) p e = inl e
borrow_is (Test q c) p e = cc
borrow_is (Call f ts d) p e = cc
borrow_is (Build w is ts d) p e = cc
borrow_is (Input d) p e = cc
borrow_is (Print t) p e = cc
borrow_is (Give t) p e = cc

module _ (Q : Place → Type 0) (l : List Action) where
  either : Done deeds.shared Q l ⊎ Done deeds.borrowed_mutably Q l → Done deeds.borrowed Q l
  either (inl d) = record { action = d.action; among = d.among; place = d.place; does = shared_borrows d.action.act d.place d.does; such = d.such }
  either (inr d) = record { action = d.action; among = d.among; place = d.place; does = lent_borrows d.action.act d.place d.does; such = d.such }

  which : Done deeds.borrowed Q l → Done deeds.shared Q l ⊎ Done deeds.borrowed_mutably Q l
  which d = by (borrow_is d.action.act d.place d.does)
    where
      by : (deeds.shared d.action.act ≡ Some d.place) ⊎ (deeds.borrowed_mutably d.action.act ≡ Some d.place) → Done deeds.shared Q l ⊎ Done deeds.borrowed_mutably Q l
      by (inl e) = inl (record { action = d.action; among = d.among; place = d.place; does = e; such = d.such })
      by (inr e) = inr (record { action = d.action; among = d.among; place = d.place; does = e; such = d.such })

borrowed_told : (l : List Action) (x : ℕ) (d : Deeds) → AreDeeds l x d → Decides (d.shared || d.borrowed_mutably) (Done deeds.borrowed (OwnPath x) l)
borrowed_told l x d h = Decides-like (d.shared || d.borrowed_mutably) (either (OwnPath x) l) (which (OwnPath x) l) (Decides-or d.shared d.borrowed_mutably h.shared h.borrowed_mutably)

-- ---- another storage

abbrev MovedOf : Asked → Known → ℕ → Type 0
MovedOf A known x = Among x known.plan.now.params × Done deeds.moved (OwnPath x) (in_run A)

abbrev SomeOf : Asked → Known → ℕ → Type 0
SomeOf A known x =
    ((MovedOf A known x ⊎ Among x known.plan.now.locals) ⊎ OutOf (listed known.plan.now.exits) (outs_in known.plan.now.exits) x) ⊎ Among x known.plan.now.redeclared

module _ (A : Asked) (muts : List Bool) (known : Known) (K : IsKnown A muts known) where
  some_other : (x : ℕ) → SomeOf A known x → GetsOther A (plan_of A known.plan.now) x
  some_other x (inl (inl (inl m))) = moved m.0 m.1
  some_other x (inl (inl (inr i))) = local i
  some_other x (inl (inr o)) = out o.0 o.1 o.2
  some_other x (inr i) = redeclared i

  other_some : (x : ℕ) → GetsOther A (plan_of A known.plan.now) x → SomeOf A known x
  other_some x (moved i d) = inl (inl (inl (i, d)))
  other_some x (local i) = inl (inl (inr i))
  other_some x (out e i o) = inl (inr (e, i, o))
  other_some x (redeclared i) = inr i

  other_told : (x : ℕ) → Decides (gets_other known x) (GetsOther A (plan_of A known.plan.now) x)
  other_told x =
      let k = known.plan.now in
      let m = is_moved_in known x in
      let l = has_number x k.locals in
      let o = is_out k.exits x in
      let r = has_number x k.redeclared in
      let inside = K.inside x in
      let moves = Decides-and (has_number x k.params) (deeds_at known.inside.now x).moved (among_told x k.params) inside.moved in
      Decides-like (gets_other known x) (some_other x) (other_some x)
      (Decides-or ((m || l) || o) r (Decides-or (m || l) o (Decides-or m l moves (among_told x k.locals)) (out_told (listed k.exits) (outs_in k.exits) x)) (among_told x k.redeclared))

  pub aliased_told : (x : ℕ) → Decides (is_aliased known x) (IsAliased A muts (plan_of A known.plan.now) x)
  aliased_told x =
      Decides-like (is_aliased known x) (λ h. record { declared_mut = h.0.0; borrowed = h.0.1; gets_other = h.1 }) (λ a. ((a.declared_mut, a.borrowed), a.gets_other))
      (Decides-and (is_mut (slice_get known.mutable.now x) && is_borrowed known.whole.now x) (gets_other known x)
      (Decides-and (is_mut (slice_get known.mutable.now x)) (is_borrowed known.whole.now x)
      (Decides-at (is_mut (slice_get known.mutable.now x)) (is_mut (slice_get muts x)) (ap (λ l. is_mut (slice_get l x)) K.mutable) (mut_told muts x))
      (borrowed_told (in_function A) x (deeds_at known.whole.now x) (K.whole x)))
      (other_told x))

-- ---- the first

abbrev first_at : Bool → ℕ → Option ℕ → Option ℕ
first_at b x o = if b then Some x else o

split_first : (Q : ℕ → Type 0) {x y : ℕ} {xs : List ℕ} → First Q (y ∷ xs) x → Q y ⊎ First Q xs x
split_first Q (this q) = inl q
split_first Q (later n r) = inr r

module _ (f : ℕ → Bool) (Q : ℕ → Type 0) (each : (x : ℕ) → Decides (f x) (Q x)) where
  pub first_told : (xs : List ℕ) (x : ℕ) → first_such f xs ≡ Some x → First Q xs x
  first_told [] x e = cc
  first_told (y ∷ xs) x e = by (f y) refl e (first_told xs x)
    where
      by : (b : Bool) → f y ≡ b → first_at b y (first_such f xs) ≡ Some x → (first_such f xs ≡ Some x → First Q xs x) → First Q (y ∷ xs) x
      by true is_so h more = let s : y ≡ x = cc in subst (λ z. First Q (y ∷ xs) z) s (this ((each y).0 is_so))
      by false is_not h more = later (λ q. true≢false (sym ((each y).1 q) ∙ is_not)) (more h)

  pub none_told : (xs : List ℕ) → first_such f xs ≡ None → (x : ℕ) → First Q xs x → ⊥
  none_told [] e x h = elim h [ ]
  none_told (y ∷ xs) e x h = by (f y) refl e (split_first Q h) (λ g. none_told xs g x)
    where
      by : (b : Bool) → f y ≡ b → first_at b y (first_such f xs) ≡ None → Q y ⊎ First Q xs x → (first_such f xs ≡ None → First Q xs x → ⊥) → ⊥
      by true is_so g first more = cc
      by false is_not g (inl q) more = true≢false (sym ((each y).1 q) ∙ is_not)
      by false is_not g (inr r) more = more g r
