-- The program in which the new function, and the run's, read some references that they ask for again; and what is so of all other items, where an answer
-- is found to be an extraction.
use Rattle.std.proofs.Common.{◌≡◌, inl, inr, ℕ, zero, suc, ◌+◌, ◌<◌, ◌≤◌, nat_eq, nat_le, Bool, true, false, not, ◌&&◌, ◌||◌, List, [], ◌∷◌, length, Option, Some, None}
use Rattle.std.proofs.Common.{if◌then◌else◌, refl, sym, ap, ◌∙◌, subst, arith, true≢false, eqb-true, eq-eqb, le-leb, leb-false, leb-true}
use Rattle.rx_typed.specs.Tree.{Exp, Function}
use Rattle.rx_meaning.specs.Values.{element, with_element}
use Rattle.rx_meaning.specs.Expressions.{Functions}
use Rattle.rx_meaning.specs.Programs.{Program}
use Rattle.rx_engine_simulation.specs.Passing.{New}
use Rattle.rx_engine_simulation.specs.Units.{UnitFunctions}
use Rattle.rx_engine_simulation.specs.Rereads.{Rereads, RereadsEntry, no_function, in_function}
use Rattle.rx_engine_simulation.proofs.Rereads.{self_exp}
use Rattle.rx_engine_related.specs.ByForm.{SameEntry}
use Rattle.rx_engine_related.specs.ByForm as by_form
use Rattle.rx_engine_alike.specs.Likeness.{Hole, Likeness, unlike, alike, alike_but}
use Rattle.rx_engine_alike.specs.Items.{items_with}
use Rattle.rx_engine_alike.specs.Functions.{like_function, same_item}
use Rattle.rx_engine_alike.specs.Units.{all_are_unit}
use Rattle.rx_engine_extracted.specs.Told.{Told}
use Rattle.rx_engine_extracted.specs.Programs.{between_but_run, has_call_in, has_call, function_has_call, others_stay, extracts}
use Rattle.rx_engine_dropped.specs.Undrops.{UndropsFunction, UndropsEntry, u_same, u_function}
use Rattle.rx_engine_alike_laws.proofs.Units.{are_unit_if}
use Rattle.rx_engine_alike_laws.proofs.Functions.{RereadsFunction, entry_rereads, same_if}

-- ---- tests that hold

both_hold : (a b : Bool) → (a && b) ≡ true → (a ≡ true) × (b ≡ true)
both_hold true b e = (refl, e)
both_hold false b e = absurd (true≢false (sym e))

other_holds : (a b : Bool) → (a || b) ≡ true → (a ≡ true → ⊥) → b ≡ true
other_holds true b e n = absurd (n refl)
other_holds false b e n = e

-- ---- lists with another element

put_same : {A : Type 0} (l : List A) (i : ℕ) (a b : A) → element l i ≡ Some a → element (with_element l i b) i ≡ Some b
put_same [] i a b e = absurd (cc)
put_same (c ∷ l) zero a b e = refl
put_same (c ∷ l) (suc i) a b e = put_same l i a b e

put_other : {A : Type 0} (l : List A) (i f : ℕ) (b : A) → (f ≡ i → ⊥) → element (with_element l i b) f ≡ element l f
put_other [] i f b n = refl
put_other (c ∷ l) zero zero b n = absurd (n refl)
put_other (c ∷ l) zero (suc f) b n = refl
put_other (c ∷ l) (suc i) zero b n = refl
put_other (c ∷ l) (suc i) (suc f) b n = put_other l i f b (λ e. n (ap suc e))

-- at one number, and at each other
at_each : (M : ℕ → Type 0) (i : ℕ) → M i → ((f : ℕ) → (f ≡ i → ⊥) → M f) → (f : ℕ) → M f
at_each M i m others f = by (nat_eq f i) refl
  where
    by : (b : Bool) → nat_eq f i ≡ b → M f
    by true e = subst M (sym (eqb-true f i e)) m
    by false e = others f (λ s. true≢false (sym (eq-eqb f i s) ∙ e))

none_behind : {A : Type 0} (l : List A) (i : ℕ) → length l ≤ i → element l i ≡ None
none_behind [] i le = refl
none_behind (a ∷ l) zero le = absurd (omega (arith, le))
none_behind (a ∷ l) (suc i) le = none_behind l i (omega (arith, le))

-- ---- items, with further ones behind one of them

module _ (item made : ℕ) where
  items_keep : (f g : ℕ) → f ≤ g → items_with item made f ≤ items_with item made g
  items_keep f g le = by (nat_le f item) (nat_le g item) (λ e. leb-false f item e) (λ e. leb-true g item e)
    where
      by : (a b : Bool) → (a ≡ false → item < f) → (b ≡ true → g ≤ item) → (if a then f else f + made) ≤ (if b then g else g + made)
      by true true h k = le
      by true false h k = omega (arith, le)
      by false true h k = let x = h refl in let y = k refl in absurd (omega (arith, le, x, y))
      by false false h k = omega (arith, le)

  items_differ : (f : ℕ) → items_with item made f ≡ items_with item made item → f ≡ item
  items_differ f e = by (nat_le f item) (nat_le item item) (λ e. leb-false f item e) (le-leb item item (omega arith)) e
    where
      by : (a b : Bool) → (a ≡ false → item < f) → b ≡ true → (if a then f else f + made) ≡ (if b then item else item + made) → f ≡ item
      by true true h t e = e
      by false true h t e = let x = h refl in absurd (omega (arith, x, e))
      by true false h t e = absurd (true≢false (sym t))
      by false false h t e = absurd (true≢false (sym t))

-- ---- the items that stay

module _ (T : Told) (item : ℕ) (N : ℕ) (F : Functions) (behind : (g : ℕ) → N ≤ g → element F (T.items g) ≡ None) where
  others_so : (f : ℕ) (os : Functions) → f + length os ≡ N → others_stay T item F f os ≡ true → (i g : ℕ) → g ≡ f + i → (g ≡ item → ⊥) → SameEntry T.items (element os i) (element F (T.items g))
  others_so f [] many e i g is n = subst (λ o. SameEntry T.items None o) (sym (behind g (omega (arith, many, is)))) (by_form.no_function tt tt)
  others_so f (o ∷ os) many e zero g is n =
      let here = both_hold (nat_eq f item || same_item T.items (Some o) (element F (T.items f))) (others_stay T item F (suc f) os) e in
      let same : g ≡ f = omega (arith, is) in
      subst (λ j. SameEntry T.items (Some o) (element F (T.items j))) (sym same)
      (same_if T.items (Some o) (element F (T.items f)) (other_holds (nat_eq f item) (same_item T.items (Some o) (element F (T.items f))) here.0 (λ q. n (same ∙ eqb-true f item q))))
  others_so f (o ∷ os) many e (suc i) g is n =
      let here = both_hold (nat_eq f item || same_item T.items (Some o) (element F (T.items f))) (others_stay T item F (suc f) os) e in
      others_so (suc f) os (omega (arith, many)) here.1 i g (omega (arith, is)) n

-- ---- an entry of a program and the one that is read for it

entry_self : (o : Option (Option Function)) → RereadsEntry o o
entry_self None = no_function tt tt
entry_self (Some None) = no_function tt tt
entry_self (Some (Some f)) = in_function refl (self_exp f.body)

entry_at : {o o' p p' : Option (Option Function)} → o ≡ p → o' ≡ p' → RereadsEntry p p' → RereadsEntry o o'
entry_at {o} {o'} {p} {p'} e f r = subst (λ x. RereadsEntry x o') (sym e) (subst (λ x. RereadsEntry p x) (sym f) r)

-- ---- the function with the call

pub call_found : (T : Told) (l : Likeness) → has_call T l ≡ true → (h : Hole) × (l ≡ alike_but h) × (has_call_in T.run.tail T h ≡ true)
call_found T (alike_but h) e = (h, refl, e)
call_found T unlike e = absurd (true≢false (sym e))
call_found T alike e = absurd (true≢false (sym e))

pub function_found : (T : Told) (g : Function) (o o' : Option (Option Function)) → o ≡ Some (Some g) → function_has_call T o o' ≡ true
    → (g' : Function) × (o' ≡ Some (Some g')) × (has_call T (like_function (between_but_run T) g g') ≡ true)
function_found T g o o' is e = by o' (subst (λ o. function_has_call T o o' ≡ true) is e)
  where
    by : (o' : Option (Option Function)) → function_has_call T (Some (Some g)) o' ≡ true → (g' : Function) × (o' ≡ Some (Some g')) × (has_call T (like_function (between_but_run T) g g') ≡ true)
    by (Some (Some g')) e = (g', refl, e)
    by (Some None) e = absurd (true≢false (sym e))
    by None e = absurd (true≢false (sym e))

-- the new function with this body
abbrev pub read_new : Told → Exp → New
read_new T f = record { number = T.new.number; function = record { params = T.new.function.params; body = f } }

-- where the run's function and the new one are
pub record Placed (T : Told) (item made : ℕ) (P Q : Program) (g : Function) : Type 0 where
  pub is_there : element P.functions item ≡ Some (Some g)
  pub items : T.items ≡ items_with item made
  pub new_is_there : element Q.functions T.new.number ≡ Some (Some T.new.function)
  pub apart : (f : ℕ) → T.items f ≡ T.new.number → ⊥

module _ (T : Told) (item made : ℕ) (P Q : Program) (h : Function) (placed : Placed T item made P Q h) where
  -- ---- the program that is read

  items_are : (f : ℕ) → T.items f ≡ items_with item made f
  items_are f = ap (λ (t : ℕ → ℕ). t f) placed.items

  others_apart : (f : ℕ) → (f ≡ item → ⊥) → T.items f ≡ T.items item → ⊥
  others_apart f n e = n (items_differ item made f (sym (items_are f) ∙ e ∙ items_are item))

  module _ (f : Exp) (z : Function) where
    abbrev pub called_first : Functions
    called_first = with_element Q.functions (T.items item) (Some z)

    abbrev pub functions_read : Functions
    functions_read = with_element called_first T.new.number (Some (read_new T f).function)

    pub new_there : element functions_read T.new.number ≡ Some (Some (read_new T f).function)
    new_there = put_same called_first T.new.number (Some T.new.function) (Some (read_new T f).function) (put_other Q.functions (T.items item) T.new.number (Some z)
        (λ e. placed.apart item (sym e)) ∙ placed.new_is_there)

    pub calling_there : {g' : Function} → element Q.functions (T.items item) ≡ Some (Some g') → element functions_read (T.items item) ≡ Some (Some z)
    calling_there {g'} is = put_other called_first T.new.number (T.items item) (Some (read_new T f).function) (placed.apart item) ∙ put_same Q.functions (T.items item) (Some g') (Some z) is

    others_there : (i : ℕ) → (i ≡ T.new.number → ⊥) → (i ≡ T.items item → ⊥) → element functions_read i ≡ element Q.functions i
    others_there i n m = put_other called_first T.new.number i (Some (read_new T f).function) n ∙ put_other Q.functions (T.items item) i (Some z) m

    pub rereads_each : {g' : Function} → element Q.functions (T.items item) ≡ Some (Some g') → Rereads T.new.function.body f → RereadsFunction g' z → (i : ℕ)
        → RereadsEntry (element Q.functions i) (element functions_read i)
    rereads_each is x r = at_each (λ i. RereadsEntry (element Q.functions i) (element functions_read i)) T.new.number (entry_at placed.new_is_there new_there (in_function refl x))
        (λ i n. at_each (λ i. (i ≡ T.new.number → ⊥) → RereadsEntry (element Q.functions i) (element functions_read i)) (T.items item) (λ n. entry_at is (calling_there is) (entry_rereads r))
        (λ i m n. entry_at refl (others_there i n m) (entry_self (element Q.functions i))) i n)

  -- ---- the program in which the block gives what the call gives

  module _ (f : Exp) (z g1 : Function) where
    abbrev pub functions_undropped : Functions
    functions_undropped = with_element Q.functions (T.items item) (Some g1)

    undropped_other : (i : ℕ) → (i ≡ T.items item → ⊥) → element functions_undropped i ≡ element Q.functions i
    undropped_other i n = put_other Q.functions (T.items item) i (Some g1) n

    undropped_there : {g' : Function} → element Q.functions (T.items item) ≡ Some (Some g') → element functions_undropped (T.items item) ≡ Some (Some g1)
    undropped_there {g'} is = put_same Q.functions (T.items item) (Some g') (Some g1) is

    pub rereads_undropped : {g' : Function} → element Q.functions (T.items item) ≡ Some (Some g') → Rereads T.new.function.body f → RereadsFunction g1 z → (i : ℕ)
        → RereadsEntry (element functions_undropped i) (element (functions_read f z) i)
    rereads_undropped is x r = at_each (λ i. RereadsEntry (element functions_undropped i) (element (functions_read f z) i)) T.new.number
        (entry_at (undropped_other T.new.number (λ e. placed.apart item (sym e)) ∙ placed.new_is_there) (new_there f z) (in_function refl x))
        (λ i n. at_each (λ i. (i ≡ T.new.number → ⊥) → RereadsEntry (element functions_undropped i) (element (functions_read f z) i)) (T.items item) (λ n. entry_at (undropped_there is) (calling_there f z is) (entry_rereads r))
        (λ i m n. entry_at (undropped_other i m) (others_there f z i n m) (entry_self (element Q.functions i))) i n)

    pub undrops_each : {g' : Function} → element Q.functions (T.items item) ≡ Some (Some g') → UndropsFunction T.new.number g' g1 → (i : ℕ) → UndropsEntry T.new.number (element Q.functions i) (element functions_undropped i)
    undrops_each {g'} is u = at_each (λ i. UndropsEntry T.new.number (element Q.functions i) (element functions_undropped i)) (T.items item)
        (subst (λ o. UndropsEntry T.new.number o (element functions_undropped (T.items item))) (sym is) (subst (λ o. UndropsEntry T.new.number (Some (Some g')) o) (sym (undropped_there is)) (u_function u)))
        (λ i n. subst (λ o. UndropsEntry T.new.number (element Q.functions i) o) (sym (undropped_other i n)) u_same)

  -- ---- the whole

  none_beyond : length Q.functions ≤ T.items (length P.functions) → (g : ℕ) → length P.functions ≤ g → element Q.functions (T.items g) ≡ None
  none_beyond le g more =
      let x = items_keep item made (length P.functions) g more in let y = items_are (length P.functions) in let z = items_are g in
      none_behind Q.functions (T.items g) (omega (arith, le, x, y, z))

  pub record Holding : Type 0 where
    pub call : function_has_call T (element P.functions item) (element Q.functions (T.items item)) ≡ true
    pub stay : others_stay T item Q.functions 0 P.functions ≡ true
    pub few : length Q.functions ≤ T.items (length P.functions)
    pub main : Q.main ≡ T.items P.main
    pub units : UnitFunctions P.functions T.units

  pub holding : extracts T item P Q ≡ true → Holding
  holding e =
      let b5 : Bool = all_are_unit P.functions T.units T.units in
      let b4 : Bool = nat_eq Q.main (T.items P.main) && b5 in
      let b3 : Bool = nat_le (length Q.functions) (T.items (length P.functions)) && b4 in
      let b2 : Bool = others_stay T item Q.functions 0 P.functions && b3 in
      let t1 = both_hold (function_has_call T (element P.functions item) (element Q.functions (T.items item))) b2 e in
      let t2 = both_hold (others_stay T item Q.functions 0 P.functions) b3 t1.1 in
      let t3 = both_hold (nat_le (length Q.functions) (T.items (length P.functions))) b4 t2.1 in
      let t4 = both_hold (nat_eq Q.main (T.items P.main)) b5 t3.1 in
      record {
        call = t1.0;
        stay = t2.0;
        few = leb-true (length Q.functions) (T.items (length P.functions)) t3.0;
        main = eqb-true Q.main (T.items P.main) t4.0;
        units = are_unit_if P.functions T.units t4.1;
      }

  -- all other items are the same
  pub others_same : Holding → (f : Exp) (z : Function) (i : ℕ) → (i ≡ item → ⊥) → SameEntry T.items (element P.functions i) (element (functions_read f z) (T.items i))
  others_same holds f z i n = subst (λ o. SameEntry T.items (element P.functions i) o) (sym (others_there f z (T.items i) (placed.apart i) (others_apart i n)))
      (others_so T item (length P.functions) Q.functions (none_beyond holds.few) 0 P.functions (omega arith) holds.stay i i (omega arith) n)
