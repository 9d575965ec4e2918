-- Copies do to facts what the text's actions do, so the walks of two programs are as the law on walks asks.
use Rattle.std.proofs.Common.{◌≡◌, ◌⊎◌, inl, inr, ℕ, Bool, true, false, not, ◌&&◌, ◌||◌, ◌==◌, List, [], ◌∷◌, ◌++◌, Some, refl, sym, ◌∙◌, subst, ap, eqb-true, eq-eqb}
use Rattle.rx_core.specs.declared.types.Step.{Step}
use Rattle.rx_core.specs.declared.types.Step.TheVariants as step
use Rattle.rx_typed.specs.Tree.{Root, variable, temporary, Temporary, Place, own}
use Rattle.rx_typed.specs.TypedPlaces.{is_front, same_steps}
use Rattle.rx_lower_walks.specs.Actions.{Act, Declare, Dead, Read, Write, Borrow, Test, Call, Build, Input, Print, Give, Action, does}
use Rattle.rx_lower_walks.specs.Walks.{Among, here, there}
use Rattle.rx_facts_tables.specs.Along.{Switch, behind, after}
use Rattle.rx_facts_tables.specs.Places.{Frame, is_part}
use Rattle.rx_facts_tables.specs.Setting.{is_behind, sets, unsets, setting}
use Rattle.rx_facts_tables.specs.Wholes.{placed, is_variable, is_all, regains, loses, standing, assigns, begins}
use Rattle.rx_facts_tables.specs.Live.{living}
use Rattle.rx_meaning_keeping.proofs.Parts.{Parted}
use Rattle.rx_engine_initial.specs.Tracing.{View, Alike, WholeGives}
use Rattle.rx_engine_initial.specs.Variables.{Kept, as_itself, by_reference, Sides, SameWay, both_end, LikePart, KnownVariables, lost, standing_in, fresh, steady, set_view, whole_view, fresh_view, sure_view, IsSeen, part_set, there_as_a_whole, not_assigned, reference_set, reference_there}
use Rattle.rx_engine_initial.specs.Copies.{IsSafe, in_temporary, behind_it, IsEasy, easy_copy, easy_take, easy_borrow, easy_test, easy_write, easy_call, easy_build, easy_input, easy_print, easy_give, IsOther, LeavesIt, LeavesAll, IsCopy, reads, writes, borrows, tests, declares, ends, easily}
use Rattle.rx_engine_initial.proofs.Ways.{no, and_left, and_right, and_both, agree, is_false, clash, same_self, other_number, behind_same, all_same, front_same}
use Rattle.rx_engine_initial.proofs.Uses.{written_is, no_part}

given : (g k b : Bool) → g ≡ true → (g || (not k && b)) ≡ true
given true k b h = refl
given false k b h = no h

passed : (g k : Bool) → k ≡ false → (g || (not k && true)) ≡ true
passed true k p = refl
passed false false p = refl
passed false true p = clash true refl p

-- what makes true what the text's does, and makes false no more
pub alike_by : (V : View) (a b : Action) → V.new.gives a ≡ V.old.gives b → (V.new.kills a ≡ true → V.old.kills b ≡ true) → Alike V a b
alike_by V a b g k = record {
  made = λ e h. given (V.new.gives a) (V.new.kills a) h (g ∙ e);
  stays = λ e i. passed (V.new.gives a) (V.new.kills a) (is_false (V.new.kills a) (λ q. clash (V.old.kills b) (k q) i));
}

pub alike_sure : (s : Switch) (a b : Action) → (s.kills a ≡ true → ⊥) → Alike (sure_view s) a b
alike_sure s a b n = record { made = λ e. no e; stays = λ e i. passed (s.gives a) (s.kills a) (is_false (s.kills a) n) }

none : (a b : Bool) → (a ≡ true → ⊥) → (b ≡ true → ⊥) → a ≡ b
none a b f g = is_false a f ∙ sym (is_false b g)

moved : (F G : Frame) (n m : ℕ) (v u : Bool) (p q : Place) (d e : Temporary) → (v ≡ true → u ≡ true) → is_part F p n ≡ is_part G q m → unsets F n (Read v p d) ≡ true → unsets G m (Read u q e) ≡ true
moved F G n m true true p q d e f s h = sym s ∙ h
moved F G n m true false p q d e f s h = no (f refl)
moved F G n m false u p q d e f s h = no h

lost_too : (x y : ℕ) (qs : List Step) (v u : Bool) (p q : Place) (d e : Temporary) → (v ≡ true → u ≡ true) → ((is_variable p.root x && same_steps p.steps qs) ≡ true → (is_variable q.root y && is_front q.steps qs) ≡ true)
    → loses x qs (Read v p d) ≡ true → lost y qs (Read u q e) ≡ true
lost_too x y qs true true p q d e f s h = s h
lost_too x y qs true false p q d e f s h = no (f refl)
lost_too x y qs false u p q d e f s h = no h

taken_none : (F : Frame) (n : ℕ) (v : Bool) (p : Place) (d : Temporary) → (is_part F p n ≡ true → ⊥) → unsets F n (Read v p d) ≡ true → ⊥
taken_none F n true p d f h = f h
taken_none F n false p d f h = no h

lost_none : (x : ℕ) (qs : List Step) (v : Bool) (p : Place) (d : Temporary) → ((is_variable p.root x && same_steps p.steps qs) ≡ true → ⊥) → loses x qs (Read v p d) ≡ true → ⊥
lost_none x qs true p d f h = f h
lost_none x qs false p d f h = no h

-- the root of what has a part of a variable is that variable
pub root_is : (F : Frame) → Parted F → (x n : ℕ) → is_part F (own x) n ≡ true → (r : Root) (ss : List Step) → is_part F (record { root = r; steps = ss }) n ≡ true → IsOther r x → ⊥
root_is F P x n h (variable z) ss k o = P.other x z [] ss n (λ e. o (sym e)) h k
root_is F P x n h (temporary t) ss k o = no_part F t ss n k

pub other_is : (r : Root) (y : ℕ) (t : Bool) → IsOther r y → (is_variable r y && t) ≡ true → ⊥
other_is (variable z) y t o h = o (eqb-true z y (and_left (z == y) t h))
other_is (temporary u) y t o h = no h

module _ (S : Sides) (new : Parted S.frame) (old : Parted S.frame_there) (R : KnownVariables S) where
  -- ---- one variable there for one here

  same_number : (x y z u : ℕ) → Among (as_itself x y) R.variables → Among (as_itself z u) R.variables → (z == x) ≡ (u == y)
  same_number x y z u i j = agree (z == x) (u == y)
      (λ q. eq-eqb u y (R.one_there x u y (subst (λ k. Among (as_itself k u) R.variables) (eqb-true z x q) j) i))
      (λ q. eq-eqb z x (R.one_here z x y (subst (λ k. Among (as_itself z k) R.variables) (eqb-true u y q) j) i))

  pub own_there : (x y n m : ℕ) → is_part S.frame (own x) n ≡ true → LikePart S x y n m → is_part S.frame_there (own y) m ≡ true
  own_there x y n m h l = sym (l [] [] both_end) ∙ h

  part_same : (x y n m z u : ℕ) → Among (as_itself x y) R.variables → is_part S.frame (own x) n ≡ true → LikePart S x y n m → Among (as_itself z u) R.variables
      → (ss rs : List Step) → SameWay ss rs → is_part S.frame (placed z ss) n ≡ is_part S.frame_there (placed u rs) m
  part_same x y n m z u i h l j ss rs w = by (z == x) refl
    where
      by : (b : Bool) → (z == x) ≡ b → is_part S.frame (placed z ss) n ≡ is_part S.frame_there (placed u rs) m
      by true q = subst (λ k. is_part S.frame (placed k ss) n ≡ is_part S.frame_there (placed u rs) m) (sym (eqb-true z x q))
          (subst (λ k. is_part S.frame (placed x ss) n ≡ is_part S.frame_there (placed k rs) m) (sym (eqb-true u y (sym (same_number x y z u i j) ∙ q))) (l ss rs w))
      by false q = none (is_part S.frame (placed z ss) n) (is_part S.frame_there (placed u rs) m)
          (λ k. new.other x z [] ss n (λ e. clash (z == x) (eq-eqb z x (sym e)) q) h k)
          (λ k. old.other y u [] rs m (λ e. clash (u == y) (eq-eqb u y (sym e)) (sym (same_number x y z u i j) ∙ q)) (own_there x y n m h l) k)

  -- a variable that holds a reference is another one
  never_this : (x z : ℕ) → Among (by_reference x) R.variables → (u : ℕ) → Among (as_itself z u) R.variables → x ≡ z → ⊥
  never_this x z i u j e = R.apart z u j (subst (λ k. Among (by_reference k) R.variables) e i)

  -- ---- what is easy does nothing

  easy_sets : (n : ℕ) {a : Act} → IsEasy R.variables a → sets S.frame n a ≡ true → ⊥
  easy_sets n (easy_write (in_temporary {t = t} {ss = ss})) h = no_part S.frame t ss n (and_right (not (is_behind ss)) (is_part S.frame (record { root = temporary t; steps = ss }) n) h)
  easy_sets n (easy_write (behind_it i)) h = no h
  easy_sets n (easy_copy p) h = no h
  easy_sets n easy_take h = no h
  easy_sets n (easy_borrow p) h = no h
  easy_sets n (easy_test p) h = no h
  easy_sets n easy_call h = no h
  easy_sets n easy_build h = no h
  easy_sets n easy_input h = no h
  easy_sets n easy_print h = no h
  easy_sets n easy_give h = no h

  easy_unsets : (n : ℕ) {a : Act} → IsEasy R.variables a → unsets S.frame n a ≡ true → ⊥
  easy_unsets n (easy_write p) h = no h
  easy_unsets n (easy_copy p) h = no h
  easy_unsets n (easy_take {v = v} {t = t} {d = d} {ss = ss}) h = taken_none S.frame n v (record { root = temporary t; steps = ss }) d (no_part S.frame t ss n) h
  easy_unsets n (easy_borrow p) h = no h
  easy_unsets n (easy_test p) h = no h
  easy_unsets n easy_call h = no h
  easy_unsets n easy_build h = no h
  easy_unsets n easy_input h = no h
  easy_unsets n easy_print h = no h
  easy_unsets n easy_give h = no h

  easy_regains : (x y : ℕ) → Among (as_itself x y) R.variables → (qs : List Step) {a : Act} → IsEasy R.variables a → regains x qs a ≡ true → ⊥
  easy_regains x y j qs (easy_write in_temporary) h = no h
  easy_regains x y j qs (easy_write (behind_it {x = z} {k = k} {ss = ss} i)) h = never_this z x i y j (eqb-true z x (and_left (z == x) (is_front (step.Deref k ∷ ss) qs) h))
  easy_regains x y j qs (easy_copy p) h = no h
  easy_regains x y j qs easy_take h = no h
  easy_regains x y j qs (easy_borrow p) h = no h
  easy_regains x y j qs (easy_test p) h = no h
  easy_regains x y j qs easy_call h = no h
  easy_regains x y j qs easy_build h = no h
  easy_regains x y j qs easy_input h = no h
  easy_regains x y j qs easy_print h = no h
  easy_regains x y j qs easy_give h = no h

  easy_loses : (x : ℕ) (qs : List Step) {a : Act} → IsEasy R.variables a → loses x qs a ≡ true → ⊥
  easy_loses x qs (easy_write p) h = no h
  easy_loses x qs (easy_copy p) h = no h
  easy_loses x qs (easy_take {v = v} {t = t} {d = d} {ss = ss}) h = lost_none x qs v (record { root = temporary t; steps = ss }) d (λ k. no k) h
  easy_loses x qs (easy_borrow p) h = no h
  easy_loses x qs (easy_test p) h = no h
  easy_loses x qs easy_call h = no h
  easy_loses x qs easy_build h = no h
  easy_loses x qs easy_input h = no h
  easy_loses x qs easy_print h = no h
  easy_loses x qs easy_give h = no h

  easy_begins : (x : ℕ) {a : Act} → IsEasy R.variables a → begins x a ≡ true → ⊥
  easy_begins x (easy_write p) h = no h
  easy_begins x (easy_copy p) h = no h
  easy_begins x easy_take h = no h
  easy_begins x (easy_borrow p) h = no h
  easy_begins x (easy_test p) h = no h
  easy_begins x easy_call h = no h
  easy_begins x easy_build h = no h
  easy_begins x easy_input h = no h
  easy_begins x easy_print h = no h
  easy_begins x easy_give h = no h

  easy_assigns : (x y : ℕ) → Among (as_itself x y) R.variables → {a : Act} → IsEasy R.variables a → assigns x a ≡ true → ⊥
  easy_assigns x y j (easy_write in_temporary) h = no h
  easy_assigns x y j (easy_write (behind_it {x = z} i)) h = no (and_right (z == x) false h)
  easy_assigns x y j (easy_copy p) h = no h
  easy_assigns x y j easy_take h = no h
  easy_assigns x y j (easy_borrow p) h = no h
  easy_assigns x y j (easy_test p) h = no h
  easy_assigns x y j easy_call h = no h
  easy_assigns x y j easy_build h = no h
  easy_assigns x y j easy_input h = no h
  easy_assigns x y j easy_print h = no h
  easy_assigns x y j easy_give h = no h

  pub leaves_sets : (y m : ℕ) → is_part S.frame_there (own y) m ≡ true → (b : Act) → LeavesIt b y → sets S.frame_there m b ≡ true → ⊥
  leaves_sets y m k (Write p t ss) l h = root_is S.frame_there old y m k p.root p.steps (and_right (not (is_behind p.steps)) (is_part S.frame_there p m) h) l
  leaves_sets y m k (Declare z) l h = no h
  leaves_sets y m k (Dead z) l h = no h
  leaves_sets y m k (Read v p d) l h = no h
  leaves_sets y m k (Borrow v p d) l h = no h
  leaves_sets y m k (Test p c) l h = no h
  leaves_sets y m k (Call g ts d) l h = no h
  leaves_sets y m k (Build w is ts d) l h = no h
  leaves_sets y m k (Input d) l h = no h
  leaves_sets y m k (Print t) l h = no h
  leaves_sets y m k (Give t) l h = no h

  pub leaves_regains : (y : ℕ) (qs : List Step) (b : Act) → LeavesIt b y → regains y qs b ≡ true → ⊥
  leaves_regains y qs (Write p t ss) l h = other_is p.root y (is_front p.steps qs) l h
  leaves_regains y qs (Declare z) l h = no h
  leaves_regains y qs (Dead z) l h = no h
  leaves_regains y qs (Read v p d) l h = no h
  leaves_regains y qs (Borrow v p d) l h = no h
  leaves_regains y qs (Test p c) l h = no h
  leaves_regains y qs (Call g ts d) l h = no h
  leaves_regains y qs (Build w is ts d) l h = no h
  leaves_regains y qs (Input d) l h = no h
  leaves_regains y qs (Print t) l h = no h
  leaves_regains y qs (Give t) l h = no h

  pub leaves_begins : (y : ℕ) (b : Act) → LeavesIt b y → begins y b ≡ true → ⊥
  leaves_begins y (Declare z) l h = l (eqb-true z y h)
  leaves_begins y (Write p t ss) l h = no h
  leaves_begins y (Dead z) l h = no h
  leaves_begins y (Read v p d) l h = no h
  leaves_begins y (Borrow v p d) l h = no h
  leaves_begins y (Test p c) l h = no h
  leaves_begins y (Call g ts d) l h = no h
  leaves_begins y (Build w is ts d) l h = no h
  leaves_begins y (Input d) l h = no h
  leaves_begins y (Print t) l h = no h
  leaves_begins y (Give t) l h = no h

  -- ---- each fact

  both_not : {a b c d : Bool} → a ≡ b → c ≡ d → (not a && c) ≡ (not b && d)
  both_not {a = a} {d = d} e f = ap (λ k. not a && k) f ∙ ap (λ k. not k && d) e

  both_and : {a b c d : Bool} → a ≡ b → c ≡ d → (a && c) ≡ (b && d)
  both_and {a = a} {d = d} e f = ap (λ k. a && k) f ∙ ap (λ k. k && d) e

  and_too : (a b c d : Bool) → a ≡ b → (c ≡ true → d ≡ true) → (a && c) ≡ true → (b && d) ≡ true
  and_too a b c d e f h = and_both b d (sym e ∙ and_left a c h) (f (and_right a c h))

  set_alike : (x y n m : ℕ) → Among (as_itself x y) R.variables → is_part S.frame (own x) n ≡ true → LikePart S x y n m → {a b : Act} → IsCopy R.variables a b → (i j : ℕ) → Alike (set_view S n y m) (does i a) (does j b)
  set_alike x y n m q h l (reads {x = z} {y = u} {v = v} {u = w} {ss = ss} {rs = rs} {d = d} {e = e} k s f) i j =
      alike_by (set_view S n y m) _ _ refl (moved S.frame S.frame_there n m v w (placed z ss) (placed u rs) d e f (part_same x y n m z u q h l k ss rs s))
  set_alike x y n m q h l (writes {x = z} {y = u} {ss = ss} {rs = rs} k s) i j = alike_by (set_view S n y m) _ _ (both_not (behind_same s) (part_same x y n m z u q h l k ss rs s)) (λ e. no e)
  set_alike x y n m q h l (borrows k s) i j = alike_by (set_view S n y m) _ _ refl (λ e. no e)
  set_alike x y n m q h l (tests k s) i j = alike_by (set_view S n y m) _ _ refl (λ e. no e)
  set_alike x y n m q h l (declares {x = z} {y = u} k) i j = alike_by (set_view S n y m) _ _ refl (λ e. sym (part_same x y n m z u q h l k [] [] both_end) ∙ e)
  set_alike x y n m q h l (ends {x = z} {y = u} k) i j = alike_by (set_view S n y m) _ _ refl (λ e. sym (part_same x y n m z u q h l k [] [] both_end) ∙ e)
  set_alike x y n m q h l (easily {a = a} {b = b} e f) i j =
      alike_by (set_view S n y m) _ _ (none (sets S.frame n a) (sets S.frame_there m b) (easy_sets n e) (leaves_sets y m (own_there x y n m h l) b (f x y q))) (λ k. absurd (easy_unsets n e k))

  whole_alike : (x y : ℕ) (qs : List Step) → Among (as_itself x y) R.variables → is_behind qs ≡ false → {a b : Act} → IsCopy R.variables a b → (i j : ℕ) → Alike (whole_view x y qs) (does i a) (does j b)
  whole_alike x y qs q o (reads {x = z} {y = u} {v = v} {u = w} {ss = ss} {rs = rs} {d = d} {e = e} k s f) i j =
      alike_by (whole_view x y qs) _ _ refl (lost_too x y qs v w (placed z ss) (placed u rs) d e f
      (and_too (z == x) (u == y) (same_steps ss qs) (is_front rs qs) (same_number x y z u q k) (λ g. sym (front_same s qs o) ∙ and_left (is_front ss qs) (is_front qs ss) g)))
  whole_alike x y qs q o (writes {x = z} {y = u} k s) i j = alike_by (whole_view x y qs) _ _ (both_and (same_number x y z u q k) (front_same s qs o)) (λ e. no e)
  whole_alike x y qs q o (borrows k s) i j = alike_by (whole_view x y qs) _ _ refl (λ e. no e)
  whole_alike x y qs q o (tests k s) i j = alike_by (whole_view x y qs) _ _ refl (λ e. no e)
  whole_alike x y qs q o (declares {x = z} {y = u} k) i j = alike_by (whole_view x y qs) _ _ refl (λ e. sym (same_number x y z u q k) ∙ and_left (z == x) (is_all qs) e)
  whole_alike x y qs q o (ends {x = z} {y = u} k) i j = alike_by (whole_view x y qs) _ _ refl (λ e. sym (same_number x y z u q k) ∙ and_left (z == x) (is_all qs) e)
  whole_alike x y qs q o (easily {a = a} {b = b} e f) i j =
      alike_by (whole_view x y qs) _ _ (none (regains x qs a) (regains y qs b) (easy_regains x y q qs e) (leaves_regains y qs b (f x y q))) (λ k. absurd (easy_loses x qs e k))

  fresh_alike : (x y : ℕ) → Among (as_itself x y) R.variables → {a b : Act} → IsCopy R.variables a b → (i j : ℕ) → Alike (fresh_view x y) (does i a) (does j b)
  fresh_alike x y q (reads k s f) i j = alike_by (fresh_view x y) _ _ refl (λ e. no e)
  fresh_alike x y q (writes {x = z} {y = u} k s) i j = alike_by (fresh_view x y) _ _ refl (λ e. sym (both_and (same_number x y z u q k) (all_same s)) ∙ e)
  fresh_alike x y q (borrows k s) i j = alike_by (fresh_view x y) _ _ refl (λ e. no e)
  fresh_alike x y q (tests k s) i j = alike_by (fresh_view x y) _ _ refl (λ e. no e)
  fresh_alike x y q (declares {x = z} {y = u} k) i j = alike_by (fresh_view x y) _ _ (same_number x y z u q k) (λ e. no e)
  fresh_alike x y q (ends k) i j = alike_by (fresh_view x y) _ _ refl (λ e. no e)
  fresh_alike x y q (easily {a = a} {b = b} e f) i j =
      alike_by (fresh_view x y) _ _ (none (begins x a) (begins y b) (easy_begins x e) (leaves_begins y b (f x y q))) (λ k. absurd (easy_assigns x y q e k))

  sure_set : (x n : ℕ) → Among (by_reference x) R.variables → is_part S.frame (own x) n ≡ true → {a b : Act} → IsCopy R.variables a b → unsets S.frame n a ≡ true → ⊥
  sure_set x n q h (reads {x = z} {y = u} {v = v} {ss = ss} {d = d} k s f) = taken_none S.frame n v (placed z ss) d (λ e. new.other x z [] ss n (never_this x z q u k) h e)
  sure_set x n q h (writes k s) = λ e. no e
  sure_set x n q h (borrows k s) = λ e. no e
  sure_set x n q h (tests k s) = λ e. no e
  sure_set x n q h (declares {x = z} {y = u} k) = λ e. new.other x z [] [] n (never_this x z q u k) h e
  sure_set x n q h (ends {x = z} {y = u} k) = λ e. new.other x z [] [] n (never_this x z q u k) h e
  sure_set x n q h (easily e f) = easy_unsets n e

  sure_stands : (x : ℕ) → Among (by_reference x) R.variables → {a b : Act} → IsCopy R.variables a b → loses x [] a ≡ true → ⊥
  sure_stands x q (reads {x = z} {y = u} {v = v} {ss = ss} {d = d} k s f) = lost_none x [] v (placed z ss) d (λ e. never_this x z q u k (sym (eqb-true z x (and_left (z == x) (same_steps ss []) e))))
  sure_stands x q (writes k s) = λ e. no e
  sure_stands x q (borrows k s) = λ e. no e
  sure_stands x q (tests k s) = λ e. no e
  sure_stands x q (declares {x = z} {y = u} k) = λ e. never_this x z q u k (sym (eqb-true z x (and_left (z == x) true e)))
  sure_stands x q (ends {x = z} {y = u} k) = λ e. never_this x z q u k (sym (eqb-true z x (and_left (z == x) true e)))
  sure_stands x q (easily e f) = easy_loses x [] e

  pub copy_alike : {a b : Act} → IsCopy R.variables a b → {V : View} → IsSeen S R.variables V → (i j : ℕ) → Alike V (does i a) (does j b)
  copy_alike c (part_set x y n m q h l) i j = set_alike x y n m q h l c i j
  copy_alike c (there_as_a_whole x y qs q o) i j = whole_alike x y qs q o c i j
  copy_alike c (not_assigned x y q) i j = fresh_alike x y q c i j
  copy_alike {a = a} {b = b} c (reference_set x n q h) i j = alike_sure (setting S.frame n) (does i a) (does j b) (sure_set x n q h c)
  copy_alike {a = a} {b = b} c (reference_there x q) i j = alike_sure (standing x []) (does i a) (does j b) (sure_stands x q c)

  -- a write of the whole makes the facts of a variable true
  pub whole_gives : {V : View} → IsSeen S R.variables V → WholeGives V
  whole_gives (part_set x y n m q h l) a k = written_is y a.act k (λ c. sets S.frame_there m c ≡ true) (λ t ss. own_there x y n m h l)
  whole_gives (there_as_a_whole x y qs q o) a k = written_is y a.act k (λ c. regains y qs c ≡ true) (λ t ss. and_both (y == y) true (same_self y) refl)
  whole_gives (not_assigned x y q) a k = no k
  whole_gives (reference_set x n q h) a k = no k
  whole_gives (reference_there x q) a k = no k
