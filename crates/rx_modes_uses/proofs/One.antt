-- A variable has one list of uses, so a run has one list of modes: two truth values that decide the same are equal, field by field, and
-- then param by param. A param without a mode is none that has one.
use Rattle.std.proofs.Common.{◌≡◌, refl, sym, ◌∙◌, ap, subst, ◌⊎◌, inl, inr, ℕ, Bool, List, [], ◌∷◌}
use Rattle.std.proofs.lemmas.Bool.Decides.{same_from_decides, Decides-like}
use Rattle.rx_lower_walks.specs.Walks.{Among, here, there}
use Rattle.rx_exits_plan.specs.Points.{Exit}
use Rattle.rx_exits_plan.specs.Asked.{Asked, IsLiveAt}
use Rattle.rx_exits_plan.specs.Plan.{Plan, IsPlan}
use Rattle.rx_exits_plan.proofs.One.{same_exits, same_params}
use Rattle.rx_modes_policy.specs.declared.uses.Mode.{Mode}
use Rattle.rx_modes_policy.specs.declared.uses.Uses.{Uses}
use Rattle.rx_modes_policy.specs.Allowed.{allowed_by, IsMember, HasMember}
use Rattle.rx_modes_uses.proofs.Table.{has_member_or_none}
use Rattle.rx_modes_uses.specs.First.{First, this, later}
use Rattle.rx_modes_uses.specs.Uses.{IsUses}
use Rattle.rx_modes_uses.specs.Modes.{PassedIn, Each, no_more, with, IsModes}
use Rattle.rx_modes_uses.specs.NotMut.{HasNoMode, NotMut}

-- ---- uses

same_fields : (u v : Uses) → u.copy ≡ v.copy → u.mut_ref ≡ v.mut_ref → u.moved ≡ v.moved → u.written ≡ v.written → u.lent ≡ v.lent → u.through ≡ v.through
    → u.mut_out ≡ v.mut_out → u.declared_mut ≡ v.declared_mut → u.live_out ≡ v.live_out → u.set_in ≡ v.set_in → u ≡ v
same_fields u v a b c d e f g h i j =
    ap (λ t. record u { copy = t }) a ∙ ap (λ t. record u { copy = v.copy; mut_ref = t }) b ∙ ap (λ t. record u { copy = v.copy; mut_ref = v.mut_ref; moved = t }) c
    ∙ ap (λ t. record u { copy = v.copy; mut_ref = v.mut_ref; moved = v.moved; written = t }) d
    ∙ ap (λ t. record u { copy = v.copy; mut_ref = v.mut_ref; moved = v.moved; written = v.written; lent = t }) e
    ∙ ap (λ t. record v { through = t; mut_out = u.mut_out; declared_mut = u.declared_mut; live_out = u.live_out; set_in = u.set_in }) f
    ∙ ap (λ t. record v { mut_out = t; declared_mut = u.declared_mut; live_out = u.live_out; set_in = u.set_in }) g
    ∙ ap (λ t. record v { declared_mut = t; live_out = u.live_out; set_in = u.set_in }) h
    ∙ ap (λ t. record v { live_out = t; set_in = u.set_in }) i
    ∙ ap (λ t. record v { set_in = t }) j

module _ (A : Asked) (muts : List Bool) (k : Plan) (x : ℕ) where
  pub one_uses : (u v : Uses) → IsUses A muts k x u → IsUses A muts k x v → u ≡ v
  one_uses u v a b =
      same_fields u v (same_from_decides u.copy v.copy a.copy b.copy) (same_from_decides u.mut_ref v.mut_ref a.mut_ref b.mut_ref)
      (same_from_decides u.moved v.moved a.moved b.moved) (same_from_decides u.written v.written a.written b.written) (same_from_decides u.lent v.lent a.lent b.lent)
      (same_from_decides u.through v.through a.through b.through) (same_from_decides u.mut_out v.mut_out a.mut_out b.mut_out)
      (same_from_decides u.declared_mut v.declared_mut a.declared_mut b.declared_mut) (same_from_decides u.live_out v.live_out a.live_out b.live_out)
      (same_from_decides u.set_in v.set_in a.set_in b.set_in)

  pub one_mode : (choice : Uses → Mode) (m n : Mode) → PassedIn A muts k choice x m → PassedIn A muts k choice x n → m ≡ n
  one_mode choice m n p q = p.chosen ∙ ap choice (one_uses p.uses q.uses p.are_uses q.are_uses) ∙ sym q.chosen

  pub none_and_one : (choice : Uses → Mode) (m : Mode) → HasNoMode A muts k x → PassedIn A muts k choice x m → ⊥
  none_and_one choice m h p = h.none (subst (λ u. HasMember (allowed_by u)) (one_uses p.uses h.uses p.are_uses h.are_uses) p.some)

pub each_such : {Q R : ℕ → Mode → Type 0} {xs : List ℕ} {ms : List Mode} → ((x : ℕ) (m : Mode) → Q x m → R x m) → Each Q xs ms → Each R xs ms
each_such f no_more = no_more
each_such f (with {x = x} {m = m} q c) = with (f x m q) (each_such f c)

-- ---- of two plans of one run, which have the same exits and params

abbrev LiveOut : Asked → List Exit → List ℕ → ℕ → Type 0
LiveOut A es ps x = (e : Exit) × Among e es × IsLiveAt A ps e x

module _ (A : Asked) (muts : List Bool) (k m : Plan) (es : k.exits ≡ m.exits) (ps : k.params ≡ m.params) where
  pub uses_of_both : (x : ℕ) (u : Uses) → IsUses A muts m x u → IsUses A muts k x u
  uses_of_both x u a = record {
    copy = a.copy;
    mut_ref = a.mut_ref;
    moved = a.moved;
    written = a.written;
    lent = a.lent;
    through = a.through;
    mut_out = a.mut_out;
    declared_mut = a.declared_mut;
    live_out = Decides-like u.live_out back forth a.live_out;
    set_in = a.set_in;
  }
    where
      back : LiveOut A m.exits m.params x → LiveOut A k.exits k.params x
      back h = subst (λ l. LiveOut A l k.params x) (sym es) (subst (λ l. LiveOut A m.exits l x) (sym ps) h)

      forth : LiveOut A k.exits k.params x → LiveOut A m.exits m.params x
      forth h = subst (λ l. LiveOut A l m.params x) es (subst (λ l. LiveOut A k.exits l x) ps h)

  modes_of_both : (choice : Uses → Mode) (xs : List ℕ) (ms : List Mode) → Each (PassedIn A muts m choice) xs ms → Each (PassedIn A muts k choice) xs ms
  modes_of_both choice xs ms c =
      each_such (λ x n p. record { uses = p.uses; are_uses = uses_of_both x p.uses p.are_uses; some = p.some; chosen = p.chosen }) c

-- ---- modes

-- what is one for each of some variables is one list
one_each : {Q : ℕ → Mode → Type 0} → ((x : ℕ) (m n : Mode) → Q x m → Q x n → m ≡ n) → (xs : List ℕ) (ms ns : List Mode) → Each Q xs ms → Each Q xs ns → ms ≡ ns
one_each f [] _ _ no_more no_more = refl
one_each f (x ∷ xs) [] ns c d = elim c [ ]
one_each f (x ∷ xs) (m ∷ ms) [] c d = elim d [ ]
one_each {Q = Q} f (x ∷ xs) (m ∷ ms) (n ∷ ns) (with p c) (with q d) = ap (λ a. a ∷ ms) (f x m n p q) ∙ ap (λ l. n ∷ l) (one_each f xs ms ns c d)

pub one_list_of_modes : (A : Asked) (muts : List Bool) (k : Plan) (choice : Uses → Mode) (ms ns : List Mode) → IsModes A muts k choice ms → IsModes A muts k choice ns → ms ≡ ns
one_list_of_modes A muts k choice ms ns p q = one_each (λ x m n. one_mode A muts k x choice m n) k.params ms ns p q

pub one_list_of_a_run : (A : Asked) (muts : List Bool) (k m : Plan) (choice : Uses → Mode) (ms ns : List Mode) → IsPlan A k → IsPlan A m
    → IsModes A muts k choice ms → IsModes A muts m choice ns → ms ≡ ns
one_list_of_a_run A muts k m choice ms ns a b p q =
    one_list_of_modes A muts k choice ms ns p (subst (λ xs. Each (PassedIn A muts k choice) xs ns) (sym (same_params A k m a b))
    (modes_of_both A muts k m (same_exits A k m a b) (same_params A k m a b) choice m.params ns q))

pub one_uses_of_a_run : (A : Asked) (muts : List Bool) (k m : Plan) (x : ℕ) (u v : Uses) → IsPlan A k → IsPlan A m → IsUses A muts k x u → IsUses A muts m x v → u ≡ v
one_uses_of_a_run A muts k m x u v a b p q = one_uses A muts k x u v p (uses_of_both A muts k m (same_exits A k m a b) (same_params A k m a b) x v q)

-- what holds of each holds of one of them
at_one : {Q : ℕ → Mode → Type 0} {xs : List ℕ} {ms : List Mode} {x : ℕ} → Each Q xs ms → Among x xs → (m : Mode) × Q x m
at_one no_more i = elim i [ ]
at_one (with {m = m} q c) here = (m, q)
at_one (with q c) (there i) = at_one c i

-- ---- refusals

pub first_is_among : {Q : ℕ → Type 0} {l : List ℕ} {x : ℕ} → First Q l x → Among x l × Q x
first_is_among (this q) = (here, q)
first_is_among (later n f) = let i = first_is_among f in (there i.0, i.1)

pub one_first : {Q : ℕ → Type 0} (l : List ℕ) (x y : ℕ) → First Q l x → First Q l y → x ≡ y
one_first [] x y f g = elim f [ ]
one_first (z ∷ l) _ _ (this q) (this r) = refl
one_first (z ∷ l) _ y (this q) (later n g) = absurd (n q)
one_first (z ∷ l) x _ (later n f) (this q) = absurd (n q)
one_first (z ∷ l) x y (later n f) (later m g) = one_first l x y f g

pub no_modes : (A : Asked) (muts : List Bool) (k : Plan) (choice : Uses → Mode) (x : ℕ) (ms : List Mode) → NotMut A muts k x → ¬ (IsModes A muts k choice ms)
no_modes A muts k choice x ms f c = let i = first_is_among f in let m = at_one c i.0 in none_and_one A muts k x choice m.0 i.1 m.1

-- of one param whose uses are told: a mode, or none
mode_or_none : (A : Asked) (muts : List Bool) (k : Plan) (choice : Uses → Mode) (x : ℕ) → (u : Uses) × IsUses A muts k x u
    → ((m : Mode) × PassedIn A muts k choice x m) ⊎ HasNoMode A muts k x
mode_or_none A muts k choice x u = by (has_member_or_none u.0)
  where
    by : HasMember (allowed_by u.0) ⊎ ¬ (HasMember (allowed_by u.0)) → ((m : Mode) × PassedIn A muts k choice x m) ⊎ HasNoMode A muts k x
    by (inl h) = inl (choice u.0, record { uses = u.0; are_uses = u.1; some = h; chosen = refl })
    by (inr n) = inr (record { uses = u.0; are_uses = u.1; none = n })

module _ (A : Asked) (muts : List Bool) (k : Plan) (choice : Uses → Mode) where
  pub modes_or_none : (xs : List ℕ) → ((x : ℕ) → Among x xs → (u : Uses) × IsUses A muts k x u)
      → ((ms : List Mode) × Each (PassedIn A muts k choice) xs ms) ⊎ ((x : ℕ) × First (HasNoMode A muts k) xs x)
  modes_or_none [] u = inl ([], no_more)
  modes_or_none (x ∷ xs) u = by (mode_or_none A muts k choice x (u x here)) (modes_or_none xs (λ y i. u y (there i)))
    where
      by : ((m : Mode) × PassedIn A muts k choice x m) ⊎ HasNoMode A muts k x
          → ((ms : List Mode) × Each (PassedIn A muts k choice) xs ms) ⊎ ((y : ℕ) × First (HasNoMode A muts k) xs y)
          → ((ms : List Mode) × Each (PassedIn A muts k choice) (x ∷ xs) ms) ⊎ ((y : ℕ) × First (HasNoMode A muts k) (x ∷ xs) y)
      by (inr h) r = inr (x, this h)
      by (inl m) (inl ms) = inl (m.0 ∷ ms.0, with m.1 ms.1)
      by (inl m) (inr y) = inr (y.0, later (λ h. none_and_one A muts k x choice m.0 h m.1) y.1)

-- ---- what is allowed

pub all_allowed : (A : Asked) (muts : List Bool) (k : Plan) (choice : Uses → Mode) (ms : List Mode)
    → ((u : Uses) → HasMember (allowed_by u) → IsMember (choice u) (allowed_by u)) → IsModes A muts k choice ms
    → Each (λ x m. (u : Uses) × IsUses A muts k x u × IsMember m (allowed_by u)) k.params ms
all_allowed A muts k choice ms f c = each_such allowed c
  where
    allowed : (x : ℕ) (m : Mode) → PassedIn A muts k choice x m → (u : Uses) × IsUses A muts k x u × IsMember m (allowed_by u)
    allowed x m p = (p.uses, p.are_uses, subst (λ n. IsMember n (allowed_by p.uses)) (sym p.chosen) (f p.uses p.some))
