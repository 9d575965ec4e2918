-- A variable that may be elsewhere is not written once its own storage was borrowed: one that is declared `mut` is borrowed nowhere, since
-- no variable would be aliased; another one is assigned once, and it was before it was borrowed.
use Rattle.std.proofs.Common.{◌≡◌, ◌⊎◌, inl, inr, ℕ, Bool, true, false, not, ◌&&◌, ◌||◌, List, [], ◌∷◌, ◌++◌, Some, slice_get, refl, sym, ap, ◌∙◌, subst, true≢false}
use Rattle.std.proofs.lemmas.Bool.Decides.{Decides-eqb}
use Rattle.rx_core.specs.declared.types.Step.{Step}
use Rattle.rx_core.specs.declared.types.Step.TheVariants as step
use Rattle.rx_typed.specs.Tree.{Root, variable, temporary, Place, Temporary}
use Rattle.rx_lower_walks.specs.Actions.{Act, Declare, Dead, Read, Write, Borrow, Test, Call, Build, Input, Print, Give, Action}
use Rattle.rx_lower_walks.specs.Orders.{order_function}
use Rattle.rx_lower_walks.specs.Walks.{IsWalk, Among, here, there, actions_in, EndsVariable}
use Rattle.rx_lower_walks.proofs.HeldLemmas as held
use Rattle.rx_facts_tables.specs.Along.{Switch, after}
use Rattle.rx_facts_tables.specs.Setting.{is_behind}
use Rattle.rx_facts_tables.proofs.Fronts.{both_true, not_so}
use Rattle.rx_facts_tables.specs.Wholes.{is_variable, assigns, begins, assigning, standing}
use Rattle.rx_exits_plan.specs.Unmarked.{is_mark, unfilled}
use Rattle.rx_exits_plan.specs.Asked.{Asked}
use Rattle.rx_exits_plan.specs.Plan.{Plan, IsPlan, moves, some_moves, is_moved, variables_of}
use Rattle.rx_modes_given.specs.GivenAway.{is_changed_behind, is_mutable_reference, is_mut, is_given_away}
use Rattle.rx_modes_uses.specs.Paths.{OwnPath}
use Rattle.rx_modes_uses.specs.Deeds as deeds
use Rattle.rx_modes_uses.specs.Deeds.{Done}
use Rattle.rx_modes_uses.specs.Outside.{in_run, in_function}
use Rattle.rx_modes_uses.specs.Aliased.{GetsOther, IsAliased, Aliased}
use Rattle.rx_modes_uses.specs.First.{First, this, later}
use Rattle.rx_modes_uses.specs.Aliased as aliased
use Rattle.rx_engine_simulation.specs.Histories.{IsRoot, IsOwn, WritesOwn, BorrowsOwn, Uses, Borrowed}
use Rattle.rx_engine_simulation.specs.Sights.{In}
use Rattle.rx_engine_simulation.specs.Programs.{back, IsHistory, Untouched}
use Rattle.rx_engine_related.specs.Reads.{entry_read}
use Rattle.rx_engine_related.specs.AboutRun.{special_of, marked_with}
use Rattle.rx_engine_related.specs.Accepted.{WritesPart, Accepted}
use Rattle.rx_engine_related.proofs.Since.{since, after_back, next_walk, older}
use Rattle.rx_engine_related.proofs.Blind.{Blind, standing_blind}
use Rattle.rx_engine_related.proofs.Points.{standing_unturned}
use Rattle.rx_engine_related.proofs.Plainly.{Unturned, Acts, acts}
use Rattle.rx_engine_related.proofs.Unset.{uses_bare, bare_act, used_stands}
use Rattle.rx_engine_related.proofs.Assigning.{assigns_same, assigning_blind, stands_assigned, whole_assigns, begins_declares}
use Rattle.rx_engine_related.proofs.Setting.{either}
use Rattle.rx_engine_related.proofs.Choosing.{Elsewhere, given_param, a_local, an_out, again, special_is, elsewhere_named}

-- ---- what an action borrows or writes, whichever temporaries it fills

borrowed_bare : (a : Act) → deeds.borrowed (unfilled a) ≡ deeds.borrowed a
borrowed_bare (Read m p d) = refl
borrowed_bare (Borrow k p d) = refl
borrowed_bare (Test p c) = refl
borrowed_bare (Write p t ss) = refl
borrowed_bare (Declare y) = refl
borrowed_bare (Dead y) = refl
borrowed_bare (Call f ts d) = refl
borrowed_bare (Build w js ts d) = refl
borrowed_bare (Input d) = refl
borrowed_bare (Print t) = refl
borrowed_bare (Give t) = refl

part_bare : (a : Act) (x : ℕ) → WritesPart (unfilled a) x ≡ WritesPart a x
part_bare (Read m p d) x = refl
part_bare (Borrow k p d) x = refl
part_bare (Test p c) x = refl
part_bare (Write p t ss) x = refl
part_bare (Declare y) x = refl
part_bare (Dead y) x = refl
part_bare (Call f ts d) x = refl
part_bare (Build w js ts d) x = refl
part_bare (Input d) x = refl
part_bare (Print t) x = refl
part_bare (Give t) x = refl

here_root : (r : Root) (x : ℕ) → IsRoot r x → r ≡ variable x
here_root (variable y) x i = ap variable (sym i)
here_root (temporary t) x i = absurd i

not_behind : (ss : List Step) → IsOwn ss → is_behind ss ≡ false
not_behind [] o = refl
not_behind (step.Field i ∷ ss) o = not_behind ss o
not_behind (step.Variant v ∷ ss) o = not_behind ss o
not_behind (step.Deref m ∷ ss) o = absurd o

-- a borrow of a variable's own storage
pub record Lends (a : Act) (x : ℕ) : Type 0 where
  pub place : Place
  pub does_it : deeds.borrowed a ≡ Some place
  pub such : OwnPath x place
  pub uses : Uses a x
  pub unmarked : is_mark a ≡ false
  pub reads_none : (y : ℕ) → a ≡ (entry_read y).act → ⊥
  pub assigns_none : assigns x a ≡ false
  pub begins_none : begins x a ≡ false

lends : (a : Act) (x : ℕ) → BorrowsOwn a x → Lends a x
lends (Borrow k p d) x b = record {
  place = p;
  does_it = refl;
  such = record { of = here_root p.root x b.0; here = not_behind p.steps b.1 };
  uses = b.0;
  unmarked = refl;
  reads_none = λ y e. borrow_read k p d y e;
  assigns_none = refl;
  begins_none = refl;
}
  where
    is_borrow : Act → Bool
    is_borrow (Borrow k p d) = true
    is_borrow _ = false

    borrow_read : (k : Bool) (p : Place) (d : Temporary) (y : ℕ) → Borrow k p d ≡ (entry_read y).act → ⊥
    borrow_read k p d y e = true≢false (ap is_borrow e)
lends (Declare y) x b = absurd b
lends (Dead y) x b = absurd b
lends (Read m p d) x b = absurd b
lends (Write p t ss) x b = absurd b
lends (Test p c) x b = absurd b
lends (Call f ts d) x b = absurd b
lends (Build w js ts d) x b = absurd b
lends (Input d) x b = absurd b
lends (Print t) x b = absurd b
lends (Give t) x b = absurd b

-- a write of its own storage
pub data WritesSo (a : Act) (x : ℕ) : Type 0 where
  whole : assigns x a ≡ true → WritesSo a x
  a_part : WritesPart a x → WritesSo a x

writes_so : (p : Place) (t : Temporary) (ss : List Step) (x : ℕ) → IsRoot p.root x → IsOwn p.steps → WritesSo (Write p t ss) x
writes_so p t ss x i o = by p.root p.steps i o
  where
    by : (r : Root) (qs : List Step) → IsRoot r x → IsOwn qs → WritesSo (Write (record { root = r; steps = qs }) t ss) x
    by r [] j q = whole (whole_assigns x r [] j tt)
    by r (s ∷ qs) j q = a_part (j, q, λ e. e)

pub record Writes (a : Act) (x : ℕ) : Type 0 where
  pub so : WritesSo a x
  pub unmarked : is_mark a ≡ false
  pub reads_none : (y : ℕ) → a ≡ (entry_read y).act → ⊥

writes : (a : Act) (x : ℕ) → WritesOwn a x → Writes a x
writes (Write p t ss) x w = record { so = writes_so p t ss x w.0 w.1; unmarked = refl; reads_none = λ y e. true≢false (ap is_write e) }
  where
    is_write : Act → Bool
    is_write (Write p t ss) = true
    is_write _ = false
writes (Declare y) x b = absurd b
writes (Dead y) x b = absurd b
writes (Read m p d) x b = absurd b
writes (Borrow k p d) x b = absurd b
writes (Test p c) x b = absurd b
writes (Call f ts d) x b = absurd b
writes (Build w js ts d) x b = absurd b
writes (Input d) x b = absurd b
writes (Print t) x b = absurd b
writes (Give t) x b = absurd b

-- ---- what the run moves

pub moved_done : (x : ℕ) (l : List Action) → some_moves x l ≡ true → Done deeds.moved (OwnPath x) l
moved_done x [] e = absurd (true≢false (sym e))
moved_done x (a ∷ l) e = by (λ q. moved_done x l q) (either (moves x a.act) (some_moves x l) e)
  where
    own_here : (r : Root) → is_variable r x ≡ true → r ≡ variable x
    own_here (variable y) q = ap variable ((Decides-eqb y x).0 q)
    own_here (temporary t) q = absurd (true≢false (sym q))

    now_so : (b : Act) → moves x b ≡ true → (p : Place) × (deeds.moved b ≡ Some p) × OwnPath x p
    now_so (Read true p d) q = let z = both_true (is_variable p.root x) (not (is_behind p.steps)) q in (p, refl, record { of = own_here p.root z.0; here = not_so (is_behind p.steps) z.1 })
    now_so (Read false p d) q = absurd (true≢false (sym q))
    now_so (Declare y) q = absurd (true≢false (sym q))
    now_so (Dead y) q = absurd (true≢false (sym q))
    now_so (Write p t ss) q = absurd (true≢false (sym q))
    now_so (Borrow k p d) q = absurd (true≢false (sym q))
    now_so (Test p c) q = absurd (true≢false (sym q))
    now_so (Call f ts d) q = absurd (true≢false (sym q))
    now_so (Build w js ts d) q = absurd (true≢false (sym q))
    now_so (Input d) q = absurd (true≢false (sym q))
    now_so (Print t) q = absurd (true≢false (sym q))
    now_so (Give t) q = absurd (true≢false (sym q))

    by : (some_moves x l ≡ true → Done deeds.moved (OwnPath x) l) → (moves x a.act ≡ true) ⊎ (some_moves x l ≡ true) → Done deeds.moved (OwnPath x) (a ∷ l)
    by ih (inl q) = let z = now_so a.act q in record { action = a; among = here; place = z.0; does = z.1; such = z.2 }
    by ih (inr q) = let z = ih q in record { action = z.action; among = there z.among; place = z.place; does = z.does; such = z.such }

-- ---- of the text with marks

module _ (A : Asked) (muts : List Bool) (acc : Accepted A muts) (xs : List ℕ) (x : ℕ) where
  assigning_unturned : Unturned (assigning x) xs
  assigning_unturned y i = (refl, refl)

  -- the action in the function
  of_lending : (S : Switch) → Blind S → Unturned S xs → (c : Action) (h : List Action) → IsHistory (marked_with A xs) (c ∷ h) → Lends c.act x → Acts A.function (back h []) c S
  of_lending S b t c h k l = acts A.function A.run A.home.around.loops xs (back h []) c S b t l.unmarked (λ y i e. l.reads_none y (ap (λ (d : Action). d.act) e)) (next_walk (marked_with A xs) c h k)

  no_deads : (a : Act) (p : Place) → EndsVariable a → deeds.borrowed a ≡ Some p → ⊥
  no_deads (Dead y) p e q = cc
  no_deads (Declare y) p e q = e
  no_deads (Read m s d) p e q = e
  no_deads (Write s t ss) p e q = e
  no_deads (Borrow k s d) p e q = e
  no_deads (Test s c) p e q = e
  no_deads (Call f ts d) p e q = e
  no_deads (Build w js ts d) p e q = e
  no_deads (Input d) p e q = e
  no_deads (Print t) p e q = e
  no_deads (Give t) p e q = e

  last_among : (l : List Action) (a : Action) (r : List Action) → Among a ((l ++ a ∷ []) ++ r)
  last_among [] a r = here
  last_among (b ∷ l) a r = there (last_among l a r)

  pub in_text : (l : List Action) (a : Action) → IsWalk A.function (l ++ a ∷ []) → Among a (actions_in (order_function A.function)) ⊎ EndsVariable a.act
  in_text l a (r, o, w) = held.held w a (last_among l a r)

  pub borrowed_done : (h : List Action) → IsHistory (marked_with A xs) h → Borrowed h x → Done deeds.borrowed (OwnPath x) (in_function A)
  borrowed_done [] k b = absurd b
  borrowed_done (c ∷ h) k (inl b) = by (in_text z.list z.action z.walk)
    where
      l : Lends c.act x
      l = lends c.act x b

      z : Acts A.function (back h []) c (standing x [])
      z = of_lending (standing x []) (standing_blind x []) (standing_unturned x xs) c h k l

      e : deeds.borrowed z.action.act ≡ Some l.place
      e = sym (borrowed_bare z.action.act) ∙ ap deeds.borrowed (bare_act z.action c z.bare) ∙ borrowed_bare c.act ∙ l.does_it

      by : Among z.action (actions_in (order_function A.function)) ⊎ EndsVariable z.action.act → Done deeds.borrowed (OwnPath x) (in_function A)
      by (inl i) = record { action = z.action; among = i; place = l.place; does = e; such = l.such }
      by (inr i) = absurd (no_deads z.action.act l.place i e)
  borrowed_done (c ∷ h) k (inr b) = borrowed_done h (older (marked_with A xs) c h k) b.1

  kept_so : (g k b : Bool) → (k ≡ true → ⊥) → b ≡ true → g || (not k && b) ≡ true
  kept_so true k b n e = refl
  kept_so false true b n e = absurd (n refl)
  kept_so false false b n e = e

  uses_so : (a b : Act) → unfilled a ≡ unfilled b → Uses b x → Uses a x
  uses_so a b e u = subst (λ (T : Type 0). T) (uses_bare a x) (subst (λ y. Uses y x) (sym e) (subst (λ (T : Type 0). T) (sym (uses_bare b x)) u))

  borrowed_assigned : (h : List Action) → IsHistory (marked_with A xs) h → Borrowed h x → since (assigning x) h ≡ true
  borrowed_assigned [] k b = absurd b
  borrowed_assigned (c ∷ h) k (inl b) =
      let l = lends c.act x b in
      let z = of_lending (standing x []) (standing_blind x []) (standing_unturned x xs) c h k l in
      let s = used_stands A muts acc z.list z.action.node z.action.act x z.walk (uses_so z.action.act c.act (bare_act z.action c z.bare) l.uses) in
      kept_so (assigns x c.act) (begins x c.act) (since (assigning x) h) (λ q. true≢false (sym q ∙ l.begins_none)) (stands_assigned x h (sym (after_back (standing x []) h []) ∙ z.same ∙ s))
  borrowed_assigned (c ∷ h) k (inr b) =
      kept_so (assigns x c.act) (begins x c.act) (since (assigning x) h) (λ q. b.0 (begins_declares x c.act q)) (borrowed_assigned h (older (marked_with A xs) c h k) b.1)

  no_part_dead : (a : Act) → EndsVariable a → WritesPart a x → ⊥
  no_part_dead (Dead y) e w = w
  no_part_dead (Declare y) e w = e
  no_part_dead (Read m s d) e w = e
  no_part_dead (Write s t ss) e w = e
  no_part_dead (Borrow k s d) e w = e
  no_part_dead (Test s c) e w = e
  no_part_dead (Call f ts d) e w = e
  no_part_dead (Build v js ts d) e w = e
  no_part_dead (Input d) e w = e
  no_part_dead (Print t) e w = e
  no_part_dead (Give t) e w = e

  -- one that is not declared `mut`
  fixed_untouched : slice_get muts x ≡ Some false → (a : Action) (h : List Action) → IsHistory (marked_with A xs) (a ∷ h) → WritesOwn a.act x → Borrowed h x → ⊥
  fixed_untouched f a h k w b = by v.so
    where
      v : Writes a.act x
      v = writes a.act x w

      z : Acts A.function (back h []) a (assigning x)
      z = acts A.function A.run A.home.around.loops xs (back h []) a (assigning x) (assigning_blind x) assigning_unturned v.unmarked (λ y i e. v.reads_none y (ap (λ (d : Action). d.act) e)) (next_walk (marked_with A xs) a h k)

      before_it : after (assigning x) z.list false ≡ true
      before_it = sym z.same ∙ after_back (assigning x) h [] ∙ borrowed_assigned h (older (marked_with A xs) a h k) b

      part_there : WritesPart z.action.act x → Among z.action (actions_in (order_function A.function)) ⊎ EndsVariable z.action.act → ⊥
      part_there q (inl i) = let e = sym f ∙ acc.parts_are_mut z.action x i q in cc
      part_there q (inr i) = no_part_dead z.action.act i q

      by : WritesSo a.act x → ⊥
      by (whole e) =
          true≢false (sym before_it ∙ (acc.initialised z.list z.action z.walk).assigns x (sym (assigns_same x z.action.act).0 ∙ ap (assigns x) (bare_act z.action a z.bare) ∙ (assigns_same x a.act).0 ∙ e) f)
      by (a_part q) = part_there (subst (λ (T : Type 0). T) (part_bare z.action.act x) (subst (λ y. WritesPart y x) (sym (bare_act z.action a z.bare)) (subst (λ (T : Type 0). T) (sym (part_bare a.act x)) q))) (in_text z.list z.action z.walk)

-- ---- of a plan

-- what is declared `mut` and given away, the run moves
mut_is_moved : (A : Asked) (muts : List Bool) (x : ℕ) → slice_get muts x ≡ Some true → is_given_away A muts x ≡ true → is_moved A x ≡ true
mut_is_moved A muts x m g = by (is_moved A x) (is_changed_behind A x) (is_mutable_reference (slice_get A.frame.types x)) (subst (λ o. (is_moved A x || (is_changed_behind A x && not (is_mutable_reference (slice_get A.frame.types x) || is_mut o))) ≡ true) m g)
  where
    by : (v t r : Bool) → (v || (t && not (r || true))) ≡ true → v ≡ true
    by true t r e = refl
    by false true true e = e
    by false true false e = e
    by false false r e = e

gets_other : (A : Asked) (muts : List Bool) (k : Plan) (p : IsPlan A k) (x : ℕ) → slice_get muts x ≡ Some true → Elsewhere A muts k p x → GetsOther A k x
gets_other A muts k p x m (given_param i g) = aliased.moved i (moved_done x (in_run A) (mut_is_moved A muts x m g))
gets_other A muts k p x m (a_local i) = aliased.local i
gets_other A muts k p x m (an_out e i o) = aliased.out e i o
gets_other A muts k p x m (again i) = aliased.redeclared i

-- where no variable is the first of which something holds, it holds of none
first_none : {Q : ℕ → Type 0} (l : List ℕ) → ((x : ℕ) → First Q l x → ⊥) → (x : ℕ) → Among x l → Q x → ⊥
first_none [] n x i q = elim i [ ]
first_none (_ ∷ l) n x here q = n x (this q)
first_none (y ∷ l) n x (there i) q = first_none l (λ z f. n z (later (λ r. n y (this r)) f)) x i q

module _ (A : Asked) (muts : List Bool) (acc : Accepted A muts) (k : Plan) (p : IsPlan A k) (unaliased : (x : ℕ) → ¬ (Aliased A muts k x)) where
  -- what may be elsewhere and is declared `mut` is borrowed nowhere
  pub unlent : (xs : List ℕ) (x : ℕ) → In x (special_of A muts k) → slice_get muts x ≡ Some true → (h : List Action) → IsHistory (marked_with A xs) h → Borrowed h x → ⊥
  unlent xs x i m h q b =
      first_none (variables_of A) unaliased x (elsewhere_named A muts k p x (special_is A muts k p x i)) (record { declared_mut = m; borrowed = borrowed_done A muts acc xs x h q b; gets_other = gets_other A muts k p x m (special_is A muts k p x i) })

  pub untouched : (xs : List ℕ) → Untouched (marked_with A xs) (record { special = special_of A muts k; asked = [] })
  untouched xs a h x i q w b = by (acc.declared x (elsewhere_named A muts k p x (special_is A muts k p x i)))
    where
      by : (c : Bool) × (slice_get muts x ≡ Some c) → ⊥
      by (true, m) = unlent xs x i m h (older (marked_with A xs) a h q) b
      by (false, m) = fixed_untouched A muts acc xs x m a h q w b
