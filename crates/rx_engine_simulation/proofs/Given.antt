-- What the new function is given: the answer reads or lends its variables, and has a slot for each parameter then, while the text
-- stands still. Each step of the answer is computed.
use Rattle.std.proofs.Common.{◌≡◌, ℕ, Bool, true, false, ◌&&◌, List, [], ◌∷◌, ◌++◌, length, Some, None, refl, sym, ap, ◌∙◌, subst, if◌then◌else◌}
use Rattle.rx_core.specs.declared.types.Step.{Step}
use Rattle.rx_typed.specs.Tree as tree
use Rattle.rx_typed.specs.Tree.{Mark, Exp, Operands, Parameter, Temporary, own, temporary_of}
use Rattle.rx_lower_walks.specs.Actions.{Write, Action, does}
use Rattle.rx_lower_walks.specs.Orders.{Order, argument, written_parameter}
use Rattle.rx_meaning.specs.Endings.{Cause, Ending, lacks, astray, missing_reference, wrong}
use Rattle.rx_meaning.specs.Straying.{why_not_found, why_not_written}
use Rattle.rx_meaning.specs.Values.{Value, pointer, lacking, unset, unit_value, is_set, and_then, get, put, element, with_element, slot_of, State, with_memory, with_variable}
use Rattle.rx_meaning.specs.Results as results
use Rattle.rx_meaning.specs.Results.{Done, or_ends, Result, on, stops, bind, after, result_of}
use Rattle.rx_meaning.specs.Places.{in_slot, content, found, whole_value, reference_to, after_write}
use Rattle.rx_meaning.specs.Acting.{performed, plainly}
use Rattle.rx_meaning.specs.Patterns.{closed}
use Rattle.rx_meaning.specs.Expressions.{Functions, Meaning, with_arguments, value, values}
use Rattle.rx_meaning.proofs.Sequences.{after_nothing, bind_on, closed_is}
use Rattle.rx_engine_simulation.specs.Passing.{Passing, passes_none, passes_move, passes_copy, passes_reference, passes_again, passes_reborrow, passes_view, reborrow_of, Absents, none_absent, absent_and}
use Rattle.rx_engine_simulation.proofs.Memory.{at_end}
use Rattle.rx_engine_simulation.proofs.Values.{shut, free, Pair, In, LikeValue, pointers, set_same}
use Rattle.rx_engine_simulation.proofs.States.{Facts, plain, special, sight, Renaming, Frozen, IsPlain, IsSpecial, StatesAlike}
use Rattle.rx_engine_simulation.proofs.Declaring.{new_slot}
use Rattle.rx_engine_simulation.proofs.Writes.{spot_own}
use Rattle.rx_engine_simulation.proofs.Parts.{declare_answer}
use Rattle.rx_engine_simulation.proofs.Entry.{with_value, IsCold, Going, Zn, pass_special, pass_copied, pass_viewed, pass_through, pass_absent}
use Rattle.rx_engine_simulation.proofs.Again.{asking, Asked, leads, is_none, asked_again}

set_there : (u v : Value) → Some u ≡ Some v → is_set u ≡ true → is_set v ≡ true
set_there u v e k = ap is_set (sym (same e)) ∙ k
  where
    same : Some u ≡ Some v → u ≡ v
    same e = cc

-- ---- single steps

pub found_own : (y i : ℕ) (v : Value) (s : State) → slot_of s.frame.slots y ≡ Some i → element s.memory i ≡ Some v → found (own y) [] s ≡ Some (in_slot i [] true, v)
found_own y i v s e f =
    ap (λ o. and_then o (λ at. and_then (content s.memory at) (λ v. Some (at, v)))) (spot_own y i s e)
    ∙ ap (λ o. and_then (and_then o (λ v. get [] v)) (λ v. Some (in_slot i [] true, v))) f

pub read_is : (Q : Functions) (low : Meaning ℕ) (m : Mark) (moves : Bool) (y i : ℕ) (t : Temporary) (v : Value) (s : State) → slot_of s.frame.slots y ≡ Some i → element s.memory i ≡ Some v → is_set v ≡ true
    → value plainly Q low (tree.read m moves (own y)) t s ≡ on [] v s
unfolding value result_of
read_is Q low m moves y i t v s e f set =
    ap (λ o. result_of (or_ends (why_not_found (own y) [] s) o (λ g. or_ends lacks (whole_value g) (λ v. results.gives [] v s)))) (found_own y i v s e f)
    ∙ ap (λ b. result_of (or_ends lacks (if b then Some v else None) (λ v. results.gives [] v s))) set

and_itself : (k : Bool) → k && true ≡ k
and_itself true = refl
and_itself false = refl

borrow_is : (Q : Functions) (low : Meaning ℕ) (m : Mark) (k : Bool) (y i : ℕ) (t : Temporary) (s : State) → slot_of s.frame.slots y ≡ Some i → value plainly Q low (tree.borrow m k (own y)) t s ≡ on [] (pointer i [] k) s
unfolding value result_of
borrow_is Q low m k y i t s e =
    ap (λ o. result_of (or_ends (why_not_found (own y) [] s) o (λ at. or_ends astray (reference_to k at) (λ v. results.gives [] v s)))) (spot_own y i s e)
    ∙ ap (λ b. on [] (pointer i [] b) s) (and_itself k)

pub values_are : (Q : Functions) (low : Meaning ℕ) (i : ℕ) (e : Exp) (es : Operands) (v : Value) (vs : List Value) (s : State) → value plainly Q low e (temporary_of e) s ≡ on [] v s → values plainly Q low es s ≡ on [] vs s
    → values plainly Q low (tree.operand_and i e es) s ≡ on [] (v ∷ vs) s
unfolding value
values_are Q low i e es v vs s h k =
    ap (λ r. bind r (λ v s1. bind (values plainly Q low es s1) (λ vs s2. on [] (v ∷ vs) s2))) h ∙ bind_on v s _
    ∙ ap (λ r. bind r (λ vs s2. on [] (v ∷ vs) s2)) k ∙ bind_on vs s _

pub again_gives : (Q : Functions) (low : Meaning ℕ) (m : Mark) (k : Bool) (y : ℕ) (n : Bool) (i : ℕ) (t : Temporary) (v : Value) (s : State) → asking k y n i t s ≡ results.gives [] v s → value plainly Q low (reborrow_of m k y n) t s ≡ on [] v s
unfolding value result_of
again_gives Q low m k y n i t v s e = ap (λ r. result_of r) e

pub again_ends : (Q : Functions) (low : Meaning ℕ) (m : Mark) (k : Bool) (y : ℕ) (n : Bool) (i : ℕ) (t : Temporary) (c : Cause) (s : State) → asking k y n i t s ≡ results.ends [] (wrong c) → value plainly Q low (reborrow_of m k y n) t s ≡ stops [] (wrong c)
unfolding value result_of
again_ends Q low m k y n i t c s e = ap (λ r. result_of r) e

-- an operand that ends the run
stray_first : (Q : Functions) (low : Meaning ℕ) (i : ℕ) (e : Exp) (es : Operands) (c : Cause) (s : State) → value plainly Q low e (temporary_of e) s ≡ stops [] (wrong c) → values plainly Q low (tree.operand_and i e es) s ≡ stops [] (wrong c)
unfolding value bind
stray_first Q low i e es c s h = ap (λ r. bind r (λ v s1. bind (values plainly Q low es s1) (λ vs s2. on [] (v ∷ vs) s2))) h

stops_on : {A B : Type 0} (e : Ending) (go : A → State → Result ℕ B) → bind (stops [] e) go ≡ stops [] e
unfolding bind
stops_on e go = refl

stray_behind : (Q : Functions) (low : Meaning ℕ) (i : ℕ) (e : Exp) (es : Operands) (v : Value) (c : Cause) (s : State) → value plainly Q low e (temporary_of e) s ≡ on [] v s → values plainly Q low es s ≡ stops [] (wrong c)
    → values plainly Q low (tree.operand_and i e es) s ≡ stops [] (wrong c)
unfolding value
stray_behind Q low i e es v c s h k =
    ap (λ r. bind r (λ v s1. bind (values plainly Q low es s1) (λ vs s2. on [] (v ∷ vs) s2))) h ∙ bind_on v s _
    ∙ ap (λ r. bind r (λ vs s2. on [] (v ∷ vs) s2)) k ∙ stops_on (wrong c) _

-- what a reference is like
record LikeReference (j : List Pair) (u : Value) (q : ℕ) (ss : List Step) (f : Bool) : Type 0 where
  target : Pair
  is_in : In target j
  text : u ≡ pointer target.left ss f
  right : target.right ≡ q
  is_free : f ≡ true → target.hold ≡ free

pointer_like : {j : List Pair} {u : Value} {q : ℕ} {ss : List Step} {f : Bool} → LikeValue j u (pointer q ss f) → LikeReference j u q ss f
pointer_like (pointers p i g) = record { target = p; is_in = i; text = refl; right = refl; is_free = g }

-- the newest slot is written
write_end : (M : List Value) (u v : Value) → with_element (M ++ u ∷ []) (length M) v ≡ M ++ v ∷ []
write_end [] u v = refl
write_end (a ∷ M) u v = ap (λ l. a ∷ l) (write_end M u v)

pub write_is : (n z : ℕ) (t : Temporary) (v : Value) (s : State) → performed plainly (does n (Write (own z) t [])) (v ∷ []) (with_variable z s) ≡ on [] unit_value (with_value z v s)
unfolding result_of
write_is n z t v s =
    ap (λ o. result_of (or_ends (why_not_found (own z) [] (with_variable z s)) o (λ at. or_ends (why_not_written (with_variable z s).memory at) (after_write v (with_variable z s).memory at) (λ M. results.gives [] unit_value (with_memory (with_variable z s) M)))))
    (spot_own z (length s.memory) (with_variable z s) (new_slot z (length s.memory) s.frame.slots))
    ∙ ap (λ o. result_of (or_ends (why_not_written (with_variable z s).memory (in_slot (length s.memory) [] true)) (and_then o (λ u. and_then (put [] v u) (λ x. Some (with_element (with_variable z s).memory (length s.memory) x)))) (λ M. results.gives [] unit_value (with_memory (with_variable z s) M))))
    (at_end s.memory (lacking unset))
    ∙ ap (λ M. on [] unit_value (with_memory (with_variable z s) M)) (write_end s.memory (lacking unset) v)

argument_is : (p : Parameter) (ps : List Parameter) (n : ℕ) (v : Value) (vs : List Value) (go : State → Result ℕ Value) (s : State) → with_arguments plainly (p ∷ ps) n (v ∷ vs) go s ≡ with_arguments plainly ps n vs go (with_value p.variable v s)
unfolding with_arguments
argument_is p ps n v vs go s =
    declare_answer p.node p.variable s (λ u s1. bind (performed plainly (written_parameter p) (v ∷ []) s1) (λ w s2. closed plainly n p.variable (with_arguments plainly ps n vs go s2)))
    ∙ after_nothing _
    ∙ ap (λ r. bind r (λ w s2. closed plainly n p.variable (with_arguments plainly ps n vs go s2))) (write_is p.node p.variable (argument p) v s)
    ∙ bind_on unit_value (with_value p.variable v s) _
    ∙ closed_is n p.variable _

-- ---- all of them

module _ (Q : Functions) (low : Meaning ℕ) (V : Facts) (part : Order) (R : Renaming) (Z Z' : Frozen) (Cold : ℕ → Type 0) (h : List Action) (at : V.Comes part h) (j : List Pair) (s s' : State) (inv : StatesAlike V R Z Z' h j s s') (cold : (x : ℕ) → Cold x → IsCold R x) where
  pub record Passed (Rf : Renaming) (es : Operands) (ps : List Parameter) (sa : State) : Type 1 where
    pub given : List Value
    pub arguments : values plainly Q low es s' ≡ on [] given s'
    pub frozen : Frozen
    pub at_end : State
    pub entered : (n : ℕ) (go : State → Result ℕ Value) → with_arguments plainly ps n given go sa ≡ go at_end
    pub going : Going V R Z Z' Cold h j s s' inv cold Rf frozen at_end
    pub turns : at_end.turns ≡ sa.turns

  none_given : (s : State) → values plainly Q low tree.no_operand s ≡ on [] [] s
  unfolding value
  none_given s = refl

  none_entered : (n : ℕ) (go : State → Result ℕ Value) (sa : State) → with_arguments plainly [] n [] go sa ≡ go sa
  unfolding with_arguments
  none_entered n go sa = refl

  -- or what is asked again for a reference is none
  pub data Tries (may : Bool) (Rf : Renaming) (es : Operands) (ps : List Parameter) (sa : State) : Type 1 where
    passes : Passed Rf es ps sa → Tries may Rf es ps sa
    strays : may ≡ true → values plainly Q low es s' ≡ stops [] (wrong missing_reference) → Tries may Rf es ps sa

  -- one more
  and_more : (may : Bool) (Rf : Renaming) (i : ℕ) (e : Exp) (es : Operands) (v : Value) (p : Parameter) (ps : List Parameter) (sa : State) → value plainly Q low e (temporary_of e) s' ≡ on [] v s' → Tries may Rf es ps (with_value p.variable v sa) → Tries may Rf (tree.operand_and i e es) (p ∷ ps) sa
  and_more may Rf i e es v p ps sa is (passes next) = passes (record {
    given = v ∷ next.given;
    arguments = values_are Q low i e es v next.given s' is next.arguments;
    frozen = next.frozen;
    at_end = next.at_end;
    entered = λ n go. argument_is p ps n v next.given go sa ∙ next.entered n go;
    going = next.going;
    turns = next.turns;
  })
  and_more may Rf i e es v p ps sa is (strays can k) = strays can (stray_behind Q low i e es v missing_reference s' is k)

  -- and a reference that is asked for again
  again_more : (may : Bool) → may ≡ true → (Rf : Renaming) (i : ℕ) (m : Mark) (k : Bool) (y : ℕ) (n : Bool) (es : Operands) (p : Parameter) (ps : List Parameter) (sa : State) (r : ℕ) (v : Value) → slot_of s'.frame.slots y ≡ Some r → element s'.memory r ≡ Some v → is_set v ≡ true
      → ((q : ℕ) (ss : List Step) (f : Bool) → v ≡ pointer q ss f → Tries may Rf es ps (with_value p.variable (pointer q ss (k && f)) sa)) → Tries may Rf (tree.operand_and i (reborrow_of m k y n) es) (p ∷ ps) sa
  again_more may can Rf i m k y n es p ps sa r v e f set next = by (asked_again k y n r (temporary_of (reborrow_of m k y n)) s' v e f set)
    where
      by : Asked k y n r (temporary_of (reborrow_of m k y n)) s' v → Tries may Rf (tree.operand_and i (reborrow_of m k y n) es) (p ∷ ps) sa
      by (leads q ss b g is) = and_more may Rf i (reborrow_of m k y n) es (pointer q ss (k && b)) p ps sa (again_gives Q low m k y n r (temporary_of (reborrow_of m k y n)) (pointer q ss (k && b)) s' is) (next q ss b g)
      by (is_none is) = strays can (stray_first Q low i (reborrow_of m k y n) es missing_reference s' (again_ends Q low m k y n r (temporary_of (reborrow_of m k y n)) missing_reference s' is))

  pub pass_all : {may : Bool} {Rp Rf : Renaming} {es : Operands} {ps : List Parameter} → Passing may V R part Cold Rp es ps Rf → (Zp : Frozen) (sa : State) → Going V R Z Z' Cold h j s s' inv cold Rp Zp sa → Tries may Rf es ps sa
  pass_all passes_none Zp sa going = passes (record { given = []; arguments = none_given s'; frozen = Zp; at_end = sa; entered = λ n go. none_entered n go sa; going = going; turns = refl })
  pass_all {may} {Rp} {Rf} (passes_move {x = x} {y = y} {i = i} {m = m} {moves = moves} {p = p} {es = es} {ps = ps} seen warm living written hid new rest) Zp sa going =
      let b : IsSpecial V Z Z' h j s.frame s'.frame s.memory s'.memory x y = inv.binds x (sight y special) seen in
      let a = b.same (living h at) in
      let w = inv.written x b.left b.at_text (written h at) in
      let set : is_set a.answer ≡ true = sym (set_same a.like) ∙ set_there w.0 a.text (sym w.1 ∙ a.at_text) w.2 in
      and_more may Rf i (tree.read m moves (own y)) es a.answer p ps sa (read_is Q low m moves y b.right (temporary_of (tree.read m moves (own y))) a.answer s' b.at_answer a.at_answer set)
      (pass_all rest Zp (with_value p.variable a.answer sa) (pass_special V R Z Z' Cold h j s s' inv cold Rp Zp sa going x p.variable a.answer new hid y seen warm b (λ l. (a.text, a.at_text, a.like))))
  pass_all {may} {Rp} {Rf} (passes_copy {x = x} {y = y} {i = i} {m = m} {moves = moves} {p = p} {es = es} {ps = ps} seen chilled written hid new rest) Zp sa going =
      let b : IsPlain Z Z' j s.frame s'.frame x y shut = inv.binds x (sight y (plain shut)) seen in
      let a = inv.paired.same _ b.is_in in
      let w = inv.written x b.left b.at_text (written h at) in
      let set : is_set a.answer ≡ true = sym (set_same a.like) ∙ set_there w.0 a.text (sym w.1 ∙ a.at_text) w.2 in
      and_more may Rf i (tree.read m moves (own y)) es a.answer p ps sa (read_is Q low m moves y b.right (temporary_of (tree.read m moves (own y))) a.answer s' b.at_answer a.at_answer set)
      (pass_all rest (Zn V R Z Z' Cold h j s s' inv cold Rp Zp sa going x p.variable a.answer new hid) (with_value p.variable a.answer sa)
      (pass_copied V R Z Z' Cold h j s s' inv cold Rp Zp sa going x p.variable a.answer new hid y seen chilled b a.text a.at_text a.like))
  pass_all {may} {Rp} {Rf} (passes_reference {x = x} {y = y} {i = i} {m = m} {k = k} {p = p} {es = es} {ps = ps} w seen warm hid new rest) Zp sa going =
      let b : IsPlain Z Z' j s.frame s'.frame x y w = inv.binds x (sight y (plain w)) seen in
      let a = inv.paired.same _ b.is_in in
      and_more may Rf i (tree.borrow m k (own y)) es (pointer b.right [] k) p ps sa (borrow_is Q low m k y b.right (temporary_of (tree.borrow m k (own y))) s' b.at_answer)
      (pass_all rest (Zn V R Z Z' Cold h j s s' inv cold Rp Zp sa going x p.variable (pointer b.right [] k) new hid) (with_value p.variable (pointer b.right [] k) sa)
      (pass_through V R Z Z' Cold h j s s' inv cold Rp Zp sa going x p.variable (pointer b.right [] k) new hid y w k seen warm b refl))
  pass_all {may} {Rp} {Rf} (passes_again {x = x} {y = y} {i = i} {m = m} {n = n} {p = p} {es = es} {ps = ps} can seen warm living written hid new rest) Zp sa going =
      let b : IsSpecial V Z Z' h j s.frame s'.frame s.memory s'.memory x y = inv.binds x (sight y special) seen in
      let a = b.same (living h at) in
      let w = inv.written x b.left b.at_text (written h at) in
      let set : is_set a.answer ≡ true = sym (set_same a.like) ∙ set_there w.0 a.text (sym w.1 ∙ a.at_text) w.2 in
      again_more may can Rf i m true y n es p ps sa b.right a.answer b.at_answer a.at_answer set (λ q ss f e.
      pass_all rest Zp (with_value p.variable (pointer q ss f) sa) (pass_special V R Z Z' Cold h j s s' inv cold Rp Zp sa going x p.variable (pointer q ss f) new hid y seen warm b (λ l. (a.text, a.at_text, subst (λ v. LikeValue j a.text v) e a.like))))
  pass_all {may} {Rp} {Rf} (passes_reborrow {x = x} {y = y} {i = i} {m = m} {n = n} {p = p} {es = es} {ps = ps} can seen chilled written hid new rest) Zp sa going =
      let b : IsPlain Z Z' j s.frame s'.frame x y shut = inv.binds x (sight y (plain shut)) seen in
      let a = inv.paired.same _ b.is_in in
      let w = inv.written x b.left b.at_text (written h at) in
      let set : is_set a.answer ≡ true = sym (set_same a.like) ∙ set_there w.0 a.text (sym w.1 ∙ a.at_text) w.2 in
      again_more may can Rf i m true y n es p ps sa b.right a.answer b.at_answer a.at_answer set (λ q ss f e.
      pass_all rest (Zn V R Z Z' Cold h j s s' inv cold Rp Zp sa going x p.variable (pointer q ss f) new hid) (with_value p.variable (pointer q ss f) sa)
      (pass_copied V R Z Z' Cold h j s s' inv cold Rp Zp sa going x p.variable (pointer q ss f) new hid y seen chilled b a.text a.at_text (subst (λ v. LikeValue j a.text v) e a.like)))
  pass_all {may} {Rp} {Rf} (passes_view {x = x} {y = y} {i = i} {m = m} {n = n} {p = p} {es = es} {ps = ps} can seen chilled written hid new rest) Zp sa going =
      let b : IsPlain Z Z' j s.frame s'.frame x y shut = inv.binds x (sight y (plain shut)) seen in
      let a = inv.paired.same _ b.is_in in
      let w = inv.written x b.left b.at_text (written h at) in
      let set : is_set a.answer ≡ true = sym (set_same a.like) ∙ set_there w.0 a.text (sym w.1 ∙ a.at_text) w.2 in
      again_more may can Rf i m false y n es p ps sa b.right a.answer b.at_answer a.at_answer set (λ q ss f e.
      let g = pointer_like (subst (λ v. LikeValue j a.text v) e a.like) in
      pass_all rest (Zn V R Z Z' Cold h j s s' inv cold Rp Zp sa going x p.variable (pointer q ss false) new hid) (with_value p.variable (pointer q ss false) sa)
      (pass_viewed V R Z Z' Cold h j s s' inv cold Rp Zp sa going x p.variable (pointer q ss false) new hid y seen chilled b g.target ss f (a.at_text ∙ ap Some g.text) g.is_in g.is_free (ap (λ k. pointer k ss false) (sym g.right))))

  pub absent_all : {Rp Rf : Renaming} → Absents Rp Rf → (Zp : Frozen) (sa : State) → Going V R Z Z' Cold h j s s' inv cold Rp Zp sa → Going V R Z Z' Cold h j s s' inv cold Rf Zp sa
  absent_all none_absent Zp sa going = going
  absent_all {Rp} (absent_and {x = x} {z = z} hid new rest) Zp sa going = absent_all rest Zp sa (pass_absent V R Z Z' Cold h j s s' inv cold Rp Zp sa going x z new hid)
