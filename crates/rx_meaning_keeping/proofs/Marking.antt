-- Each action of the strict way keeps that what lacks a value is lost on the walk, and so do calls: the law, of what is marked.
use Rattle.std.proofs.Common.{◌≡◌, ℕ, ℤ, Bool, true, false, List, [], ◌∷◌, ◌++◌, Option, Some, None, refl, sym, ap, subst, if◌then◌else◌, arith, le_refl}
use Rattle.std.proofs.lemmas.Bool.Decides.{Decides-eqb}
use Rattle.rx_core.specs.declared.types.Step.{Step}
use Rattle.rx_typed.specs.Tree as tree
use Rattle.rx_typed.specs.Tree.{Place, Root, variable, temporary, Temporary, Parameter, Function, Arms, own, temporary_place, under}
use Rattle.rx_lower_walks.specs.Actions.{Act, Dead, Read, Write, Borrow, Test, Call, Build, Input, Print, Give, Action, does}
use Rattle.rx_lower_walks.specs.Walks.{IsWalk}
use Rattle.rx_meaning.specs.Endings.{Cause, Ending, wrong, lacks, astray}
use Rattle.rx_meaning.specs.Straying.{why_no_part, why_not_found, why_not_written, why_not_checked}
use Rattle.rx_meaning.specs.Values.{moved, ended, Value, truth, unit_value, is_set, get, put, element, with_element, slot_of, and_then, new_frame, State, with_memory}
use Rattle.rx_meaning.specs.Results as results
use Rattle.rx_meaning.specs.Results.{Done, gives, or_ends}
use Rattle.rx_meaning.specs.Places.{Spot, in_slot, in_value, spot, found, whole_value, reference_to, after_write}
use Rattle.rx_meaning.specs.Operators as operators
use Rattle.rx_meaning.specs.Operators.{Computed, make, shown}
use Rattle.rx_meaning.specs.Acting.{checked, computed, next_input, does_plainly}
use Rattle.rx_meaning.specs.Expressions.{Functions}
use Rattle.rx_facts_tables.specs.Places.{Frame}
use Rattle.rx_facts_tables.specs.Setting.{is_behind, sets}
use Rattle.rx_facts_tables.specs.Wholes.{placed, regains}
use Rattle.rx_meaning_keeping.specs.Pending.{Pending, holds, pushes, arguments}
use Rattle.rx_meaning_keeping.specs.Units.{IsUnitOf}
use Rattle.rx_meaning_keeping.specs.RightOperands.{IsRightOf}
use Rattle.rx_meaning_keeping.specs.Using.{Does, Gives}
use Rattle.rx_meaning_keeping.specs.Using as using
use Rattle.rx_meaning_keeping.specs.Formed.{Any}
use Rattle.rx_meaning_keeping.specs.Keeping.{Kept, Law, Laws}
use Rattle.rx_meaning_keeping.specs.Strict.{looks_at_lack, marked_slot, marked_at, marked, then_marks, strictly}
use Rattle.rx_meaning_keeping.specs.Ready.{HasPart, AllHere, Ready, IsInitial}
use Rattle.rx_meaning_keeping.specs.Lacking.{World, Here, Marked}
use Rattle.rx_meaning_keeping.proofs.Parts.{Parted, parted}
use Rattle.rx_meaning_keeping.proofs.Slots.{front_self, get_set, some_is}
use Rattle.rx_meaning_keeping.proofs.Lost.{here_thin, here_split}
use Rattle.rx_meaning_keeping.proofs.Marks.{inv_more, inv_declared, inv_written, slot_marked}

-- of the ends of a run nothing is said here
abbrev pub AnyEnd : Ending → Type 0
AnyEnd e = Unit {0}

module _ (F : Frame) (parts : Parted F) (k : World) (w : List Action) (n : ℕ) where
  abbrev After : Act → State → (Value → Pending) → Done ℕ → Type 0
  After a s K1 r = Kept AnyEnd (Marked F k) w (does n a) s K1 (then_marks a r)

  or_keeps : {A : Type 0} (a : Act) (s : State) (K1 : Value → Pending) (c : Cause) (o : Option A) (go : A → Done ℕ) → ((x : A) → o ≡ Some x → After a s K1 (go x)) → After a s K1 (or_ends c o go)
  or_keeps a s K1 c None go h = tt
  or_keeps a s K1 c (Some x) go h = h x refl

  whole_set : (f : Spot × Value) (v : Value) → whole_value f ≡ Some v → is_set v ≡ true
  whole_set f v e = by (is_set f.1) refl e
    where
      by : (b : Bool) → is_set f.1 ≡ b → (if b then Some f.1 else None) ≡ Some v → is_set v ≡ true
      by true q e = subst (λ z. is_set z ≡ true) (some_is e) q
      by false q e = cc

  -- what a read leaves
  inv_read : (m : Bool) (p : Place) (d : Temporary) (s : State) (K K1 : Pending) → ((x : ℕ) → p.root ≡ variable x → is_behind p.steps ≡ false → HasPart F x p.steps) → Marked F k w s K → Here K1
      → Marked F k (w ++ does n (Read m p d) ∷ []) (marked (Read m p d) s) K1
  inv_read false p d s K K1 has i h = inv_more F parts k w (does n (Read false p d)) s.memory s.frame.slots K K1 (λ m. refl) (λ y rs. refl) i h
  inv_read true p d s K K1 has i h = from p.root refl
    where
      same : Marked F k (w ++ does n (Read true p d) ∷ []) s K1
      same = inv_more F parts k w (does n (Read true p d)) s.memory s.frame.slots K K1 (λ m. refl) (λ y rs. refl) i h

      near : (x : ℕ) → p.root ≡ variable x → (b : Bool) → is_behind p.steps ≡ b → Marked F k (w ++ does n (Read true p d) ∷ []) (if b then s else marked_slot (slot_of s.frame.slots x) p.steps moved s) K1
      near x r true e = same
      near x r false e = subst (λ z. Marked F k (w ++ does n (Read true (record { root = z; steps = p.steps }) d) ∷ []) (marked_slot (slot_of s.frame.slots x) p.steps moved s) K1) (sym r)
          (slot_marked F parts k w (does n (Read true (placed x p.steps) d)) x p.steps moved s K K1 (λ m. refl) (λ m q. q) (λ z qs. refl) (rw ((Decides-eqb x x).1 refl) (rw (front_self p.steps) refl)) (has x r e) i h)

      from : (r : Root) → p.root ≡ r → Marked F k (w ++ does n (Read true p d) ∷ []) (marked_at r p.steps moved s) K1
      from (temporary t) e = same
      from (variable x) e = near x e (is_behind p.steps) refl

  -- what the end of a variable leaves
  inv_dead : (x : ℕ) (s : State) (K : Pending) → HasPart F x [] → Marked F k w s K → Marked F k (w ++ does n (Dead x) ∷ []) (marked (Dead x) s) K
  inv_dead x s K has i = slot_marked F parts k w (does n (Dead x)) x [] ended s K K (λ m. refl) (λ m q. q) (λ z qs. refl) (rw ((Decides-eqb x x).1 refl) refl) has i i.here

  -- what a write leaves
  write_keeps : (p : Place) (t : Temporary) (ts : List Step) (s : State) (u : Value) (K K1 : Pending) → is_set u ≡ true → Marked F k w s K → Here K1
      → After (Write p t ts) s (λ z. K1) (or_ends (why_not_found p [] s) (spot p [] s) (λ at. or_ends (why_not_written s.memory at) (after_write u s.memory at) (λ M. gives [] unit_value (with_memory s M))))
  write_keeps p t ts s u K K1 set i h = or_keeps (Write p t ts) s _ (why_not_found p [] s) (spot p [] s) _ (λ at e. at_spot at e)
    where
      Result : Cause → Option (List Value) → Type 0
      Result c o = After (Write p t ts) s (λ z. K1) (or_ends c o (λ M. gives [] unit_value (with_memory s M)))

      put_in : (c : Cause) (j : ℕ) (ss : List Step) → spot p [] s ≡ Some (in_slot j ss true) → (o : Option Value) → element s.memory j ≡ o → (q : Option Value) → and_then o (λ y. put ss u y) ≡ q
          → Result c (and_then o (λ y. and_then (put ss u y) (λ x. Some (with_element s.memory j x))))
      put_in c j ss e None a q f = tt
      put_in c j ss e (Some y) a None f = subst (λ z. Result c (and_then z (λ x. Some (with_element s.memory j x)))) (sym f) tt
      put_in c j ss e (Some y) a (Some x) f = subst (λ z. Result c (and_then z (λ x. Some (with_element s.memory j x)))) (sym f) (refl, inv_written F parts k w n p t ts s j ss y u x K K1 set e a f i h)

      at_spot : (at : Spot) → spot p [] s ≡ Some at → Result (why_not_written s.memory at) (after_write u s.memory at)
      at_spot (in_slot j ss true) e = put_in (why_not_written s.memory (in_slot j ss true)) j ss e (element s.memory j) refl (and_then (element s.memory j) (λ y. put ss u y)) refl
      at_spot (in_slot j ss false) e = tt
      at_spot (in_value v) e = tt

module _ (F : Frame) (parts : Parted F) (k : World) (f : Function) (ready : Ready F f) where
  abbrev Behind : List Action → ℕ → Act → State → (Value → Pending) → Done ℕ → Type 0
  Behind w n a s K1 r = Kept AnyEnd (Marked F k) w (does n a) s K1 (then_marks a r)

  input_keeps : (w : List Action) (n : ℕ) (d : Temporary) (s : State) (K : Pending) (zs : List ℤ) → Marked F k w s K → Behind w n (Input d) s (λ v. holds d v K) (next_input zs s)
  input_keeps w n d s K [] i = (tt, inv_more F parts k w (does n (Input d)) s.memory s.frame.slots K _ (λ m. refl) (λ y rs. refl) i (refl, i.here))
  input_keeps w n d s K (z ∷ zs) i = (tt, inv_more F parts k w (does n (Input d)) s.memory s.frame.slots K _ (λ m. refl) (λ y rs. refl) i (refl, i.here))

  pointer_set : (m : Bool) (at : Spot) (v : Value) → reference_to m at ≡ Some v → is_set v ≡ true
  pointer_set m (in_slot i p w) v e = subst (λ z. is_set z ≡ true) (some_is e) refl
  pointer_set m (in_value u) v e = cc

  build_keeps : (w : List Action) (n : ℕ) (a : Act) (s : State) (d : Temporary) (K0 K : Pending) (c : Computed) → ((v : Value) (s1 : State) → Gives a s v s1) → ((m : ℕ) → sets F m a ≡ false) → ((x : ℕ) (qs : List Step) → regains x qs a ≡ false) → marked a s ≡ s → ((v : Value) → c ≡ operators.gives v → is_set v ≡ true) → Here K → Marked F k w s K0
      → Behind w n a s (λ v. holds d v K) (computed c s)
  build_keeps w n a s d K0 K (operators.gives v) g z z2 e h hk i = (g v _, rw e (inv_more F parts k w (does n a) s.memory s.frame.slots K0 (holds d v K) z z2 i (h v refl, hk)))
  build_keeps w n a s d K0 K (operators.traps t) g z z2 e h hk i = tt
  build_keeps w n a s d K0 K operators.senseless g z z2 e h hk i = tt

  -- the plain way, and the mark of a move
  pub plainly_keeps : (w : List Action) (n : ℕ) (a : Act) (vs : List Value) (s : State) (K : Pending) (K1 : Value → Pending) → Does (IsRightOf f) a vs K K1 → IsWalk f (w ++ does n a ∷ []) → Marked F k w s K → Behind w n a s K1 (does_plainly a vs s)
  plainly_keeps w n _ _ s K _ (using.declares {x = x}) is i = (tt, inv_declared F parts k w n x s.memory s.frame.slots K (ready.begins w n x is) i)
  plainly_keeps w n _ _ s K _ (using.dies {x = x}) is i = (tt, inv_dead F parts k w n x s K (ready.ends w n x is) i)
  plainly_keeps w n _ _ s K _ (using.reads {m = m} {p = p} {d = d} u) is i =
      or_keeps F parts k w n (Read m p d) s (λ v. holds d v K) (why_not_found p [] s) (found p [] s) (λ x. or_ends lacks (whole_value x) (λ v. gives [] v s)) (λ x e. or_keeps F parts k w n (Read m p d) s (λ v. holds d v K) lacks (whole_value x) (λ v. gives [] v s) (λ v e1.
      (tt, inv_read F parts k w n m p d s K (holds d v K) (λ y r b. ready.places w (does n (Read m p d)) y p.steps is (ap (λ z. Some (record { root = z; steps = p.steps })) r) b) i (whole_set F parts k w n x v e1, i.here))))
  plainly_keeps w n _ _ s K _ (using.borrows {m = m} {p = p} {d = d} u) is i =
      or_keeps F parts k w n (Borrow m p d) s (λ v. holds d v K) (why_not_found p [] s) (spot p [] s) (λ x. or_ends astray (reference_to m x) (λ v. gives [] v s)) (λ x e. or_keeps F parts k w n (Borrow m p d) s (λ v. holds d v K) astray (reference_to m x) (λ v. gives [] v s) (λ v e1.
      (tt, inv_more F parts k w (does n (Borrow m p d)) s.memory s.frame.slots K (holds d v K) (λ z. refl) (λ y rs. refl) i (pointer_set m x v e1, i.here))))
  plainly_keeps w n _ _ s _ _ (using.borrows_held {m = m} {t = t} {d = d} {ss = ss} {v = y} {K = K} u) is i =
      or_keeps F parts k w n (Borrow m (under (temporary_place t) ss) d) s (λ v. holds d v (holds t y K)) (why_not_found (under (temporary_place t) ss) (y ∷ []) s) (spot (under (temporary_place t) ss) (y ∷ []) s) (λ x. or_ends astray (reference_to m x) (λ v. gives [] v s)) (λ x e. or_keeps F parts k w n (Borrow m (under (temporary_place t) ss) d) s (λ v. holds d v (holds t y K)) astray (reference_to m x) (λ v. gives [] v s) (λ v e1.
      (tt, inv_more F parts k w (does n (Borrow m (under (temporary_place t) ss) d)) s.memory s.frame.slots (holds t y K) (holds d v (holds t y K)) (λ z. refl) (λ y rs. refl) i (pointer_set m x v e1, i.here))))
  plainly_keeps w n _ _ s K _ (using.tests {p = p} {c = c}) is i =
      or_keeps F parts k w n (Test p c) s (λ v. K) (why_not_found p [] s) (found p [] s) (λ x. or_ends (why_not_checked x.1) (checked c x.1) (λ b. gives [] (truth b) s)) (λ x e. or_keeps F parts k w n (Test p c) s (λ v. K) (why_not_checked x.1) (checked c x.1) (λ b. gives [] (truth b) s) (λ b e1.
      ((refl, b, refl), inv_more F parts k w (does n (Test p c)) s.memory s.frame.slots K K (λ z. refl) (λ y rs. refl) i i.here)))
  plainly_keeps w n _ _ s _ _ (using.tests_held {t = t} {ss = ss} {c = c} {v = y} {K = K}) is i =
      or_keeps F parts k w n (Test (under (temporary_place t) ss) c) s (λ v. holds t y K) (why_not_found (under (temporary_place t) ss) (y ∷ []) s) (found (under (temporary_place t) ss) (y ∷ []) s) (λ x. or_ends (why_not_checked x.1) (checked c x.1) (λ b. gives [] (truth b) s)) (λ x e. or_keeps F parts k w n (Test (under (temporary_place t) ss) c) s (λ v. holds t y K) (why_not_checked x.1) (checked c x.1) (λ b. gives [] (truth b) s) (λ b e1.
      ((refl, b, refl), inv_more F parts k w (does n (Test (under (temporary_place t) ss) c)) s.memory s.frame.slots (holds t y K) (holds t y K) (λ z. refl) (λ y rs. refl) i i.here)))
  plainly_keeps w n _ _ s _ _ (using.writes {p = p} {t = t} {v = v} {K = K}) is i = write_keeps F parts k w n p t [] s v (holds t v K) K i.here.0 i i.here.1
  plainly_keeps w n _ _ s _ _ (using.writes_part {x = x} {t = t} {ss = ss} {v = v} {K = K}) is i =
      or_keeps F parts k w n (Write (own x) t ss) s (λ u. holds t v K) (why_no_part ss v) (get ss v) (λ u. or_ends (why_not_found (own x) [] s) (spot (own x) [] s) (λ at. or_ends (why_not_written s.memory at) (after_write u s.memory at) (λ M. gives [] unit_value (with_memory s M)))) (λ u e. write_keeps F parts k w n (own x) t ss s u (holds t v K) (holds t v K) (get_set ss v u i.here.0 e) i i.here)
  plainly_keeps w n _ _ s _ _ (using.builds {w = m} {js = js} {ts = ts} {vs = vs} {d = d} K pr lz u) is i =
      let h = here_split ts vs K pr i.here in
      build_keeps w n (Build m js ts d) s d (pushes ts vs K) K (make m js vs) (λ v s1. tt) (λ z. refl) (λ y rs. refl) refl (λ v e. ready.makes w n m js ts d is vs v pr h.0 e) h.1 i
  plainly_keeps w n _ _ s _ _ (using.joins {t = t} {u = u} {x = x} {v = v} {d = d} {K = K} am un) is i =
      (tt, inv_more F parts k w (does n (Build tree.lazy [] (t ∷ u ∷ []) d)) s.memory s.frame.slots (holds x v K) (holds d v K) (λ z. refl) (λ y rs. refl) i i.here)
  plainly_keeps w n _ _ s K _ (using.inputs {d = d} u) is i = input_keeps w n d s K s.input i
  plainly_keeps w n _ _ s _ _ (using.prints {t = t} {v = v} {K = K}) is i =
      or_keeps F parts k w n (Print t) s (λ u. K) (why_not_checked v) (shown v) (λ bytes. gives bytes unit_value s) (λ x e. (refl, inv_more F parts k w (does n (Print t)) s.memory s.frame.slots (holds t v K) K (λ z. refl) (λ y rs. refl) i i.here.1))
  plainly_keeps w n _ _ s _ _ (using.gives_up {t = t} {v = v} {K = K}) is i = (tt, inv_more F parts k w (does n (Give t)) s.memory s.frame.slots (holds t v K) _ (λ z. refl) (λ y rs. refl) i i.here)
  plainly_keeps w n _ _ s _ _ (using.calls {f = g} {ts = ts} {vs = vs} {d = d} K pr u) is i = (tt, inv_more F parts k w (does n (Call g ts d)) s.memory s.frame.slots (pushes ts vs K) _ (λ z. refl) (λ y rs. refl) i i.here)

  -- and the strict way
  pub law_of : Law strictly AnyEnd (IsWalk f) (IsUnitOf f) (IsRightOf f) (Marked F k)
  law_of = record {
    drops = λ w s K K1 t i. with_pending w s K1 K i (here_thin K K1 t i.here);
    units = λ w s d K g u i. with_pending w s K (holds d unit_value K) i (refl, i.here);
    turns = λ w s n K e i. i;
    performs = λ w a vs s K K1 d is i. unless w a s K1 (looks_at_lack a.act vs s) (then_marks a.act (does_plainly a.act vs s)) (plainly_keeps w a.node a.act vs s K K1 d is i);
  }
    where
      with_pending : (w : List Action) (s : State) (K K1 : Pending) → Marked F k w s K → Here K1 → Marked F k w s K1
      with_pending w s K K1 i h = record { slots = i.slots; apart = i.apart; lost = i.lost; grows = i.grows; outer = i.outer; here = h }

      unless : (w : List Action) (a : Action) (s : State) (K1 : Value → Pending) (b : Bool) (r : Done ℕ) → Kept AnyEnd (Marked F k) w a s K1 r → Kept AnyEnd (Marked F k) w a s K1 (if b then results.ends [] (wrong lacks) else r)
      unless w a s K1 true r h = tt
      unless w a s K1 false r h = h

-- ---- programs

here_arguments : (ps : List Parameter) (vs : List Value) → AllHere vs → Here (arguments ps vs)
here_arguments [] vs h = tt
here_arguments (p ∷ ps) [] h = tt
here_arguments (p ∷ ps) (v ∷ vs) h = (h.0, here_arguments ps vs h.1)

module _ (P : Functions) (Fs : ℕ → Frame) (muts : ℕ → List Bool) (all : IsInitial P Fs muts) where
  abbrev pub J : ℕ → World → List Action → State → Pending → Type 0
  J f k = Marked (Fs f) k

  pub begins_marked : (g : ℕ) (s : State) (i : ℕ) (K : Pending) → Here K → J g (record { memory = s.memory }) [] (record s { frame = new_frame i }) K
  begins_marked g s i K h = record {
    slots = λ x j p. absurd (cc);
    apart = λ x y j p q. absurd (cc);
    lost = λ x j v qs l p q r. absurd (cc);
    grows = le_refl _;
    outer = λ j v qs l a b c. (v, l, b, c);
    here = h;
  }

  comes_back : (f g : ℕ) (k : World) (w o : List Action) (s s1 : State) (K K0 : Pending) (d : Temporary) (v : Value) → J f k w s K0 → Here K → J g (record { memory = s.memory }) o s1 ((None, v) ∷ []) → J f k w (record s1 { frame = s.frame }) (holds d v K)
  comes_back f g k w o s s1 K K0 d v i h j = record {
    slots = λ x n p. let q = i.slots x n p in (q.0, omega (arith, q.1, j.grows));
    apart = i.apart;
    lost = λ x n u qs l p q r. let b = j.outer n u qs l (i.slots x n p).1 q r in i.lost x n b.0 qs b.1 p b.2 b.3;
    grows = omega (arith, i.grows, j.grows);
    outer = λ n u qs l a q r. let b = j.outer n u qs l (omega (arith, a, i.grows)) q r in i.outer n b.0 qs b.1 a b.2 b.3;
    here = (j.here.0, h);
  }

  pub laws_of : Laws strictly AnyEnd P (λ f. Any) World J
  laws_of = record {
    steps = λ f F q k. law_of (Fs f) (parted (Fs f) (all.sized f)) k F (all.ready f F q);
    enters = λ f F k w n g ts d vs s K c G e. let h = here_split ts vs K c.arguments c.kept.here in
        (record { memory = s.memory }, begins_marked g s g (arguments G.params vs) (here_arguments G.params vs h.0), (λ o m s1 v wk j. comes_back f g k (w ++ does n (Call g ts d) ∷ []) o s s1 K (pushes ts vs K) d v c.kept h.1 j));
    runs_on = tt;
    no_callee = λ f F k w n g ts d vs s K c h. tt;
    not_as_many = λ f F k w n g ts d vs s K c G e h. tt;
    no_arm_left = λ f F q k S l w vs s K c fi i a. tt;
    no_answer = λ f F q o x wk h. tt;
  }
