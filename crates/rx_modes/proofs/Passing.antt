-- The first param whose uses allow no mode, and what holds where there is none.
use Rattle.std.proofs.Common.{◌≡◌, refl, sym, ap, ◌∙◌, ◌⊎◌, inl, inr, ℕ, zero, suc, ◌<◌, ◌+◌, Bool, true, false, true≢false, ◌||◌, if◌then◌else◌, List, [], ◌∷◌, length, drop, map, get_or, Option, Some, None, subst, arith}
use Rattle.std.specs.Option.{is_some}
use Rattle.std.specs.Bool.{Decides}
use Rattle.std.proofs.lemmas.List.{drop_more}
use Rattle.rx_exits_plan.specs.Asked.{Asked}
use Rattle.rx_exits_plan.specs.Plan.{Plan, is_moved}
use Rattle.rx_modes_policy.specs.declared.uses.Mode.{Mode}
use Rattle.rx_modes_policy.specs.declared.uses.Uses.{Uses}
use Rattle.rx_modes_policy.specs.Allowed.{allowed_by, HasMember}
use Rattle.rx_modes_uses.specs.First.{First, this, later}
use Rattle.rx_modes_uses.specs.Uses.{IsUses}
use Rattle.rx_modes_uses.specs.Modes as modes
use Rattle.rx_modes_uses.specs.Modes.{PassedIn}
use Rattle.rx_modes_uses.specs.NotMut.{HasNoMode}
use Rattle.rx_modes_uses.proofs.One.{none_and_one}
use Rattle.rx_modes_given.specs.GivenAway.{is_given_away}
use Rattle.rx_modes_given.proofs.Telling.{given_told}
use Rattle.rx_modes.specs.Told.{Each, no_more, with, passes, first_without, gives_away, AllPass}

never : {P : Type 0} → false ≡ true → P
never e = absurd (true≢false (sym e))

-- ---- one

some_there : (c d : Option Mode) → (is_some c || is_some d) ≡ true → (m : Mode) × ((c ≡ Some m) ⊎ (d ≡ Some m))
some_there (Some m) d e = (m, inl refl)
some_there None (Some m) e = (m, inr refl)
some_there None None e = never e

told_some : (c d : Option Mode) (m : Mode) → (c ≡ Some m) ⊎ (d ≡ Some m) → (is_some c || is_some d) ≡ true
told_some (Some k) d m h = refl
told_some None (Some k) m h = refl
told_some None None m (inl e) = cc
told_some None None m (inr e) = cc

pub passes_told : (u : Uses) → Decides (passes u) (HasMember (allowed_by u))
passes_told u = (some_there (allowed_by u).first (allowed_by u).last, λ h. told_some (allowed_by u).first (allowed_by u).last h.0 h.1)

-- ---- the first without a mode

abbrev chosen_at : Bool → Option ℕ → ℕ → Option ℕ
chosen_at b o x = if b then o else Some x

none_left : (b : Bool) (o : Option ℕ) (x : ℕ) → chosen_at b o x ≡ None → (b ≡ true) × (o ≡ None)
none_left true o x e = (refl, e)
none_left false o x e = cc

all_there : (xs : List ℕ) (us : List Uses) → length us ≡ length xs → first_without xs us ≡ None
    → (i : ℕ) (u : Uses) → i < length us → u ≡ get_or us i u → HasMember (allowed_by u)
all_there xs [] count e i u less is = absurd (omega (arith, less))
all_there [] (v ∷ us) count e i u less is = absurd (omega (arith, count))
all_there (x ∷ xs) (v ∷ us) count e zero u less is =
    let n = none_left (passes v) (first_without xs us) x e in subst (λ w. HasMember (allowed_by w)) (sym is) ((passes_told v).0 n.0)
all_there (x ∷ xs) (v ∷ us) count e (suc i) u less is =
    let n = none_left (passes v) (first_without xs us) x e in all_there xs us (omega (arith, count)) n.1 i u (omega (arith, less)) is

pub all_pass : (xs : List ℕ) (us : List Uses) → length us ≡ length xs → first_without xs us ≡ None → AllPass us
all_pass xs us count e = record { each = all_there xs us count e }

-- as lists, each handed over as a slice
pub pass_by : (ps qs : List ℕ) (us vs ws : List Uses) → ps ≡ qs → vs ≡ us → ws ≡ us → length us ≡ length qs → None ≡ first_without ps vs → AllPass ws
pass_by ps qs us vs ws p v w count e =
    subst AllPass (sym w) (all_pass qs us count (ap (λ l. first_without l us) (sym p) ∙ ap (first_without ps) (sym v) ∙ sym e))

-- an element, whatever stands for those past the end
same_element : (us : List Uses) (i : ℕ) (d e : Uses) → i < length us → get_or us i d ≡ get_or us i e
same_element [] i d e less = absurd (omega (arith, less))
same_element (u ∷ us) zero d e less = refl
same_element (u ∷ us) (suc i) d e less = same_element us i d e (omega (arith, less))

pub can_choose : (us : List Uses) (i : ℕ) (d : Uses) → AllPass us → i < length us → HasMember (allowed_by (get_or us i d))
can_choose us i d all less = all.each i (get_or us i d) less (same_element us i d (get_or us i d) less)

-- a turn of its loop: what is left begins with this
without_next : (xs : List ℕ) (us : List Uses) (i x : ℕ) (u : Uses) → i < length us → length us ≡ length xs → u ≡ get_or us i u
    → first_without (drop i xs) (drop i us) ≡ chosen_at (passes u) (first_without (drop (i + 1) xs) (drop (i + 1) us)) (get_or xs i x)
without_next xs us i x u less count is =
    let less' : i < length xs = omega (arith, less, count) in
    ap (λ l. first_without l (drop i us)) (drop_more xs i x less')
    ∙ ap (λ l. first_without (get_or xs i x ∷ drop (i + 1) xs) l) (drop_more us i u less ∙ ap (λ v. v ∷ drop (i + 1) us) (sym is))

pub without_turn : (xs : List ℕ) (us : List Uses) (i x : ℕ) (u : Uses) (b : Bool) → i < length us → length us ≡ length xs → u ≡ get_or us i u → b ≡ passes u → b ≡ true
    → first_without (drop (i + 1) xs) (drop (i + 1) us) ≡ first_without (drop i xs) (drop i us)
without_turn xs us i x u b less count is told is_so =
    ap (λ c. chosen_at c (first_without (drop (i + 1) xs) (drop (i + 1) us)) (get_or xs i x)) (sym (sym told ∙ is_so)) ∙ sym (without_next xs us i x u less count is)

pub without_turn_at : (xs : List ℕ) (us : List Uses) (i : ℕ) (d : Uses) (b : Bool) → i < length us → length us ≡ length xs → b ≡ passes (get_or us i d) → b ≡ true
    → first_without (drop (i + 1) xs) (drop (i + 1) us) ≡ first_without (drop i xs) (drop i us)
without_turn_at xs us i d b less count told is_so = without_turn xs us i 0 (get_or us i d) b less count (same_element us i d (get_or us i d) less) told is_so

pub without_here : (xs : List ℕ) (us : List Uses) (i x : ℕ) (u : Uses) (b : Bool) → i < length us → length us ≡ length xs → u ≡ get_or us i u → b ≡ passes u → b ≡ false
    → Some (get_or xs i x) ≡ first_without (drop i xs) (drop i us)
without_here xs us i x u b less count is told is_not =
    ap (λ c. chosen_at c (first_without (drop (i + 1) xs) (drop (i + 1) us)) (get_or xs i x)) (sym (sym told ∙ is_not)) ∙ sym (without_next xs us i x u less count is)

-- ---- by the uses of params

module _ (A : Asked) (muts : List Bool) (k : Plan) (choice : Uses → Mode) where
  pub modes_passed : {xs : List ℕ} {us : List Uses} → Each (IsUses A muts k) xs us → AllPass us → modes.Each (PassedIn A muts k choice) xs (map choice us)
  modes_passed no_more all = modes.no_more
  modes_passed (with {u = u} q c) all =
      modes.with (record { uses = u; are_uses = q; some = all.each 0 u (omega arith) refl; chosen = refl })
      (modes_passed c (record { each = λ i v less is. all.each (suc i) v (omega (arith, less)) is }))

  pub first_refused : {xs : List ℕ} {us : List Uses} (x : ℕ) → Each (IsUses A muts k) xs us → first_without xs us ≡ Some x → First (HasNoMode A muts k) xs x
  first_refused x no_more e = cc
  first_refused x (with {x = y} {u = u} {xs = xs} {us = us} q c) e = by (passes u) refl e (first_refused x c)
    where
      by : (b : Bool) → passes u ≡ b → chosen_at b (first_without xs us) y ≡ Some x → (first_without xs us ≡ Some x → First (HasNoMode A muts k) xs x)
          → First (HasNoMode A muts k) (y ∷ xs) x
      by true is_so f more = later (λ h. none_and_one A muts k y choice (choice u) h (record { uses = u; are_uses = q; some = (passes_told u).0 is_so; chosen = refl })) (more f)
      by false is_not f more =
          let s : y ≡ x = cc in
          subst (λ z. First (HasNoMode A muts k) (y ∷ xs) z) s
          (this (record { uses = u; are_uses = q; none = λ h. true≢false (sym ((passes_told u).1 h) ∙ is_not) }))

  pub moved_told : ((x : ℕ) (u : Uses) → IsUses A muts k x u → u.moved ≡ is_moved A x) → {xs : List ℕ} {us : List Uses} → Each (IsUses A muts k) xs us
      → map (λ (u : Uses). u.moved) us ≡ map (is_moved A) xs
  moved_told f no_more = refl
  moved_told f (with {x = x} {u = u} {xs = xs} {us = us} q c) = ap (λ b. b ∷ map (λ (v : Uses). v.moved) us) (f x u q) ∙ ap (λ l. is_moved A x ∷ l) (moved_told f c)

  pub all_given_away : {xs : List ℕ} {us : List Uses} → Each (IsUses A muts k) xs us → map gives_away us ≡ map (is_given_away A muts) xs
  all_given_away no_more = refl
  all_given_away (with {x = x} {u = u} {xs = xs} {us = us} q c) =
      ap (λ b. b ∷ map gives_away us) (sym (given_told A muts k x u q)) ∙ ap (λ l. is_given_away A muts x ∷ l) (all_given_away c)
