-- What the caller does with what the call gives is in order.
use Rattle.std.proofs.Common.{◌≡◌, ◌⊎◌, inl, inr, ℕ, Bool, true, false, not, ◌&&◌, ◌||◌, ◌==◌, List, [], ◌∷◌, ◌++◌, refl, sym, ◌∙◌, subst, ap, eqb-true}
use Rattle.rx_core.specs.declared.types.Step.{Step}
use Rattle.rx_typed.specs.Tree.{Temporary, own}
use Rattle.rx_typed.specs.TypedPlaces.{is_front}
use Rattle.rx_lower_walks.specs.Actions.{Act, Declare, Dead, Write, Action, does}
use Rattle.rx_lower_walks.specs.Walks.{Among, here, there}
use Rattle.rx_facts_tables.specs.Along.{behind}
use Rattle.rx_facts_tables.specs.Places.{is_part}
use Rattle.rx_facts_tables.specs.Setting.{is_behind, setting, is_set, AllSet}
use Rattle.rx_facts_tables.specs.Wholes.{assigns, begins, assigning, was_assigned}
use Rattle.rx_facts_tables.specs.Initialised.{IsFixed, InOrder}
use Rattle.rx_exits_plan.specs.Points.{Exit}
use Rattle.rx_exits_plan.specs.Plan.{Plan}
use Rattle.rx_meaning_keeping.proofs.Parts.{Parted}
use Rattle.rx_engine_initial.specs.Matching.{Good}
use Rattle.rx_engine_initial.specs.Variables.{as_itself, by_reference, Sides, KnownVariables}
use Rattle.rx_engine_initial.specs.Copies.{IsEasy, easy_copy, easy_take, easy_borrow, easy_test, easy_write, easy_call, easy_build, easy_input, easy_print, easy_give, in_temporary, behind_it, world}
use Rattle.rx_engine_initial.specs.Entered.{IsNewHere}
use Rattle.rx_engine_initial.specs.Handing.{Takes, by_read, by_borrow, by_reborrow, Handing, none_taken}
use Rattle.rx_engine_initial.specs.Handing as handing
use Rattle.rx_engine_initial.proofs.Tracing.{joined, after_one}
use Rattle.rx_engine_initial.proofs.Ways.{no, and_left, and_right, is_false, clash, same_self}
use Rattle.rx_engine_initial.proofs.Uses.{none_is}
use Rattle.rx_engine_initial.proofs.InOrder.{dead_in_order}
use Rattle.rx_engine_initial.proofs.Handing.{easy_in_order, take_in_order, stays, take_unsets, easy_unsets}
use Rattle.rx_engine_initial_calls.specs.Received.{MayTake, is_mutable, is_local, Receives, no_more, receives_one, takes_one, assigns_one, begins_one, ends_one, does_one}

pub no_variable : {A B : Type 0} (a : A) → Among a [] → B
no_variable a q = elim q [ ]

-- ---- what neither assigns nor begins a variable

pub record Leaves (x : ℕ) (a : Act) : Type 0 where
  pub assigns : assigns x a ≡ false
  pub begins : begins x a ≡ false

take_leaves : (z x : ℕ) {a : Act} → Takes x a → Leaves z a
take_leaves z x by_read = record { assigns = refl; begins = refl }
take_leaves z x by_borrow = record { assigns = refl; begins = refl }
take_leaves z x by_reborrow = record { assigns = refl; begins = refl }

easy_leaves : (z : ℕ) {a : Act} → IsEasy [] a → Leaves z a
easy_leaves z (easy_copy s) = record { assigns = refl; begins = refl }
easy_leaves z easy_take = record { assigns = refl; begins = refl }
easy_leaves z (easy_borrow s) = record { assigns = refl; begins = refl }
easy_leaves z (easy_test s) = record { assigns = refl; begins = refl }
easy_leaves z (easy_write in_temporary) = record { assigns = refl; begins = refl }
easy_leaves z (easy_write (behind_it {x = x} q)) = no_variable (by_reference x) q
easy_leaves z easy_call = record { assigns = refl; begins = refl }
easy_leaves z easy_build = record { assigns = refl; begins = refl }
easy_leaves z easy_input = record { assigns = refl; begins = refl }
easy_leaves z easy_print = record { assigns = refl; begins = refl }
easy_leaves z easy_give = record { assigns = refl; begins = refl }

left_so : (z : ℕ) (us : List Action) (a : Action) → Leaves z a.act → was_assigned us z ≡ false → was_assigned (us ++ a ∷ []) z ≡ false
left_so z us a l e = after_one (assigning z) us a false ∙ by (assigns z a.act) (begins z a.act) (was_assigned us z) l.assigns l.begins e
  where
    by : (g k b : Bool) → g ≡ false → k ≡ false → b ≡ false → (g || (not k && b)) ≡ false
    by true k b p q r = no (sym p)
    by false true b p q r = refl
    by false false b p q r = r

pub handing_leaves : (z : ℕ) {xs : List ℕ} {l : List Action} → Handing xs l → (us : List Action) → was_assigned us z ≡ false → was_assigned (us ++ l) z ≡ false
handing_leaves z none_taken us e = subst (λ k. was_assigned k z ≡ false) (sym (right us)) e
  where
    right : (w : List Action) → w ++ [] ≡ w
    right [] = refl
    right (a ∷ w) = ap (λ l. a ∷ l) (right w)
handing_leaves z (handing.takes_one {n = n} {x = x} {a = a} {us = l} t d h) us e =
    subst (λ k. was_assigned k z ≡ false) (joined us (does n a ∷ []) l) (handing_leaves z h (us ++ does n a ∷ []) (left_so z us (does n a) (take_leaves z x t) e))
handing_leaves z (handing.does_one {n = n} {a = a} {us = l} y h) us e =
    subst (λ k. was_assigned k z ≡ false) (joined us (does n a ∷ []) l) (handing_leaves z h (us ++ does n a ∷ []) (left_so z us (does n a) (easy_leaves z y) e))

module _ (S : Sides) (new : Parted S.frame) (k : Plan) (exit : Exit) (R : KnownVariables S) where
  -- of a variable for a local that is handed out, and was not assigned yet
  abbrev pub Unassigned : List ℕ → List Action → Type 0
  Unassigned xs us = (x y : ℕ) → Among (as_itself x y) R.variables → Among y k.locals → Among y (k.outs exit) → IsFixed S.muts x → (Among x xs → ⊥) → was_assigned us x ≡ false

  abbrev pub Holds : List ℕ → List Action → Type 0
  Holds hs us = (h : ℕ) → Among h hs → AllSet S.frame us (own h)

  declare_in_order : (us : List Action) (m x : ℕ) → InOrder S.frame S.muts us (does m (Declare x))
  declare_in_order us m x = record { looks = λ p e. none_is e; enters = λ z qs h. no h; assigns = λ z h i. no h }

  nothing_in : (qs : List Step) → (is_front qs [] && not (is_front [] qs) && not (is_behind qs)) ≡ true → ⊥
  nothing_in [] h = no h
  nothing_in (q ∷ qs) h = no h

  write_in_order : (us : List Action) (n x : ℕ) (t : Temporary) (ss : List Step) → (IsFixed S.muts x → was_assigned us x ≡ false) → InOrder S.frame S.muts us (does n (Write (own x) t ss))
  write_in_order us n x t ss f = record {
    looks = λ p e. none_is e;
    enters = λ z qs h. absurd (nothing_in qs (and_right (x == z) (is_front qs [] && not (is_front [] qs) && not (is_behind qs)) h));
    assigns = λ z h i. let e = eqb-true x z (and_left (x == z) true h) in subst (λ v. was_assigned us v ≡ false) e (f (subst (λ v. IsFixed S.muts v) (sym e) i));
  }

  begin_leaves : (us : List Action) (m x z y : ℕ) → IsNewHere R.variables x → Among (as_itself z y) R.variables → was_assigned us z ≡ false → was_assigned (us ++ does m (Declare x) ∷ []) z ≡ false
  begin_leaves us m x z y f i e = left_so z us (does m (Declare x)) (record { assigns = refl; begins = is_false (x == z) (λ q. f.itself y (subst (λ v. Among (as_itself v y) R.variables) (sym (eqb-true x z q)) i)) }) e

  write_leaves : (us : List Action) (n x z : ℕ) (t : Temporary) (ss : List Step) → (x ≡ z → ⊥) → was_assigned us z ≡ false → was_assigned (us ++ does n (Write (own x) t ss) ∷ []) z ≡ false
  write_leaves us n x z t ss f e = left_so z us (does n (Write (own x) t ss)) (record { assigns = is_false ((x == z) && true) (λ q. f (eqb-true x z (and_left (x == z) true q))); begins = refl }) e

  -- what was written is set, and what was set stays so
  written_set : (us : List Action) (m n x h : ℕ) (t : Temporary) (ss : List Step) → ((x ≡ h) ⊎ AllSet S.frame us (own h)) → AllSet S.frame ((us ++ does m (Declare x) ∷ []) ++ does n (Write (own x) t ss) ∷ []) (own h)
  written_set us m n x h t ss f i q = after_one (setting S.frame i) (us ++ does m (Declare x) ∷ []) (does n (Write (own x) t ss)) false ∙ by (is_part S.frame (own x) i) refl f
    where
      front : is_set S.frame (us ++ does m (Declare x) ∷ []) i ≡ behind (setting S.frame i) (does m (Declare x)) (is_set S.frame us i)
      front = after_one (setting S.frame i) us (does m (Declare x)) false

      left : (b c : Bool) → b ≡ false → c ≡ true → (not b && c) ≡ true
      left true c p r = no (sym p)
      left false c p r = r

      by : (b : Bool) → is_part S.frame (own x) i ≡ b → ((x ≡ h) ⊎ AllSet S.frame us (own h)) → (b || (true && is_set S.frame (us ++ does m (Declare x) ∷ []) i)) ≡ true
      by true e g = refl
      by false e (inl g) = clash (is_part S.frame (own x) i) (subst (λ v. is_part S.frame (own v) i ≡ true) (sym g) q) e
      by false e (inr g) = front ∙ left (is_part S.frame (own x) i) (is_set S.frame us i) e (g i q)

  write_keeps : (us : List Action) (n x h : ℕ) (t : Temporary) (ss : List Step) → AllSet S.frame us (own h) → AllSet S.frame (us ++ does n (Write (own x) t ss) ∷ []) (own h)
  write_keeps us n x h t ss f i q = stays S new us (does n (Write (own x) t ss)) i refl (f i q)

  begin_keeps : (us : List Action) (m x h : ℕ) → (x ≡ h → ⊥) → AllSet S.frame us (own h) → AllSet S.frame (us ++ does m (Declare x) ∷ []) (own h)
  begin_keeps us m x h d f i q = stays S new us (does m (Declare x)) i (is_false (is_part S.frame (own x) i) (λ e. new.other x h [] [] i d e q)) (f i q)

  end_keeps : (us : List Action) (m x h : ℕ) → (x ≡ h → ⊥) → AllSet S.frame us (own h) → AllSet S.frame (us ++ does m (Dead x) ∷ []) (own h)
  end_keeps us m x h d f i q = stays S new us (does m (Dead x)) i (is_false (is_part S.frame (own x) i) (λ e. new.other x h [] [] i d e q)) (f i q)

  held : (x h : ℕ) (hs : List ℕ) (us : List Action) → Holds hs us → Among h (x ∷ hs) → (x ≡ h) ⊎ AllSet S.frame us (own h)
  held x _ hs us f here = inl refl
  held x h hs us f (there i) = inr (f h i)

  not_fixed : (us : List Action) {x y : ℕ} {xs : List ℕ} → Among (as_itself x y) R.variables → MayTake S k exit x y → (Among x xs → ⊥) → Unassigned xs us → IsFixed S.muts x → was_assigned us x ≡ false
  not_fixed us i (is_mutable f) d n e = absurd (f e)
  not_fixed us {x = x} {y = y} i (is_local l o) d n e = n x y i l o e d

  pub receives_good : {hs xs : List ℕ} {l : List Action} → Receives S k exit R hs xs l → (us : List Action) → Holds hs us → Unassigned xs us → Good (world S) us l
  receives_good no_more us f g = tt
  receives_good {hs = hs} (receives_one {m = m} {n = n} {x = x} {t = t} {ss = ss} w r) us f g =
      let ws = us ++ does m (Declare x) ∷ [] in (
        declare_in_order us m x,
        (
          write_in_order ws n x t ss (λ e. fresh_now),
          receives_good r (ws ++ does n (Write (own x) t ss) ∷ [])
              (λ h i. written_set us m n x h t ss (held x h hs us f i))
              (λ z y i l o e d. write_leaves ws n x z t ss (λ q. w.itself y (subst (λ v. Among (as_itself v y) R.variables) (sym q) i)) (begin_leaves us m x z y w i (g z y i l o e d))),
        ),
      )
    where
      fresh_now : was_assigned (us ++ does m (Declare x) ∷ []) x ≡ false
      fresh_now = after_one (assigning x) us (does m (Declare x)) false ∙ ap (λ b. not b && was_assigned us x) (same_self x)
  receives_good (takes_one {n = n} {x = x} {a = a} t i d r) us f g = (
    take_in_order S new us n x t (f x i),
    receives_good r (us ++ does n a ∷ [])
        (λ h j m q. let z = d h j in stays S new us (does n a) m (take_unsets S new x h m z.1 t q) (f h z.0 m q))
        (λ z y i l o e c. left_so z us (does n a) (take_leaves z x t) (g z y i l o e c)),
  )
  receives_good {xs = xs} (assigns_one {n = n} {x = x} {t = t} y i m d r) us f g = (
    write_in_order us n x t [] (not_fixed us i m d g),
    receives_good r (us ++ does n (Write (own x) t []) ∷ [])
        (λ h j. write_keeps us n x h t [] (f h j))
        (λ z v j l o e c. write_leaves us n x z t [] (λ q. c (subst (λ p. Among p (x ∷ xs)) q here)) (g z v j l o e (λ q. c (there q)))),
  )
  receives_good (begins_one {m = m} {x = x} w d r) us f g = (
    declare_in_order us m x,
    receives_good r (us ++ does m (Declare x) ∷ [])
        (λ h j. let z = d h j in begin_keeps us m x h z.1 (f h z.0))
        (λ z y i l o e c. begin_leaves us m x z y w i (g z y i l o e c)),
  )
  receives_good (ends_one {m = m} {x = x} w d r) us f g = (
    dead_in_order S us m x,
    receives_good r (us ++ does m (Dead x) ∷ [])
        (λ h j. let z = d h j in end_keeps us m x h z.1 (f h z.0))
        (λ z y i l o e c. left_so z us (does m (Dead x)) (record { assigns = refl; begins = refl }) (g z y i l o e c)),
  )
  receives_good (does_one {n = n} {a = a} y r) us f g = (
    easy_in_order S new us n y,
    receives_good r (us ++ does n a ∷ [])
        (λ h j m q. stays S new us (does n a) m (easy_unsets S new m y) (f h j m q))
        (λ z v i l o e c. left_so z us (does n a) (easy_leaves z y) (g z v i l o e c)),
  )
