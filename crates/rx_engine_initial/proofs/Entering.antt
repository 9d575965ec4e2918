-- Params and locals of a new function, in front of an order whose walks come from the text's.
use Rattle.std.proofs.Common.{◌≡◌, ◌⊎◌, inl, inr, ℕ, Bool, true, false, not, ◌&&◌, ◌||◌, ◌==◌, List, [], ◌∷◌, ◌++◌, refl, sym, ◌∙◌, subst, ap, eqb-true}
use Rattle.rx_core.specs.declared.types.Step.{Step}
use Rattle.rx_typed.specs.Tree.{Temporary, Parameter, temporary_at, own}
use Rattle.rx_typed.specs.TypedPlaces.{is_front}
use Rattle.rx_lower_walks.specs.Actions.{Act, Declare, Dead, Write, Action, does}
use Rattle.rx_lower_walks.specs.Orders.{Exit, exit_node, Order, beginning, declaring}
use Rattle.rx_lower_walks.specs.Orders as order
use Rattle.rx_lower_walks.specs.Walks.{Out, on, leaves, fails, stopped, IsAway, Walk, rests, stops, acts, both, first, ends, jumps, halts, IsWalk, Among, here, there}
use Rattle.rx_facts_tables.specs.Along.{Switch, behind, after}
use Rattle.rx_facts_tables.specs.Places.{is_part}
use Rattle.rx_facts_tables.specs.Setting.{is_behind, setting, is_set}
use Rattle.rx_facts_tables.specs.Wholes.{placed, is_all, standing, stands, assigning, was_assigned}
use Rattle.rx_facts_tables.specs.Initialised.{InOrder, Initialised}
use Rattle.rx_meaning_keeping.proofs.Parts.{Parted}
use Rattle.rx_engine_initial.specs.Tracing.{View, IsQuiet, Traced, start, only_new}
use Rattle.rx_engine_initial.specs.Matching.{Hist, Reach, Good, SameOut, both_on, both_leave, Comes, cut, gone, whole, Answer, Maps, Keeps}
use Rattle.rx_engine_initial.specs.Variables.{Kept, as_itself, by_reference, Sides, both_end, LikePart, KnownVariables, standing_in, fresh, set_view, whole_view, fresh_view, sure_view, IsSeen, part_set, there_as_a_whole, not_assigned, reference_set, reference_there}
use Rattle.rx_engine_initial.specs.Copies.{world}
use Rattle.rx_engine_initial.specs.Entered.{OnEach, IsNewHere, OneMore, Given, given_none, by_value, by_borrow, LocalsDeclared, declared_none, declared_and}
use Rattle.rx_engine_initial.proofs.Tracing.{nil_right, joined, after_one}
use Rattle.rx_engine_initial.proofs.Ways.{no, and_left, and_right, and_both, is_false, clash, same_self}
use Rattle.rx_engine_initial.proofs.Uses.{none_is, all_turned}
use Rattle.rx_engine_initial.proofs.Mapping.{answer_stops, answer_rests, good_both}
use Rattle.rx_engine_initial.proofs.Calling.{wider_out}
use Rattle.rx_engine_initial.proofs.Looping.{OfAct, acted, half, idle, of_act}
use Rattle.rx_engine_initial.proofs.InOrder.{dead_in_order, declare_in_order, wider_seen}
use Rattle.rx_engine_initial.proofs.Unset.{unset, stands_not}

-- from one scope at the beginning of a part to another one behind it
abbrev pub Leads : (S : Sides) → KnownVariables S → KnownVariables S → Order → Order → Type 0
Leads S T R s q = (us w vs : List Action) (o : Out) → Hist (world S) T us w → Reach (world S) q w → Walk s vs o → Answer (world S) R q us w vs o

-- where this holds of the new function's actions so far
abbrev LeadsIf : (S : Sides) → (List Action → Type 0) → KnownVariables S → KnownVariables S → Order → Order → Type 0
LeadsIf S Q T R s q = (us w vs : List Action) (o : Out) → Q us → Hist (world S) T us w → Reach (world S) q w → Walk s vs o → Answer (world S) R q us w vs o

given_last : (s : Switch) (us : List Action) (a : Action) (b : Bool) → s.gives a ≡ true → after s (us ++ a ∷ []) b ≡ true
given_last s us a b g = after_one s us a b ∙ by (s.gives a) (not (s.kills a) && after s us b) g
  where
    by : (g c : Bool) → g ≡ true → (g || c) ≡ true
    by true c h = refl
    by false c h = no h

killed : (s : Switch) (w : List Action) (a : Action) (b : Bool) → s.gives a ≡ false → after s w b ≡ false → after s (w ++ a ∷ []) b ≡ false
killed s w a b g k = after_one s w a b ∙ by (s.gives a) (s.kills a) (after s w b) g k
  where
    by : (g k b : Bool) → g ≡ false → b ≡ false → (g || (not k && b)) ≡ false
    by false true b p q = refl
    by false false b p q = q
    by true k b p q = clash true refl p

write_in_order : (S : Sides) (us : List Action) (n x : ℕ) (t : Temporary) → was_assigned us x ≡ false → InOrder S.frame S.muts us (does n (Write (own x) t []))
write_in_order S us n x t e = record {
  looks = λ p e. none_is e;
  enters = λ z qs h. absurd (nothing_in qs (and_right (x == z) (is_front qs [] && not (is_front [] qs) && not (is_behind qs)) h));
  assigns = λ z h k. subst (λ v. was_assigned us v ≡ false) (eqb-true x z (and_left (x == z) true h)) e;
}
  where
    nothing_in : (qs : List Step) → (is_front qs [] && not (is_front [] qs) && not (is_behind qs)) ≡ true → ⊥
    nothing_in [] h = no h
    nothing_in (q ∷ qs) h = no h

module _ (S : Sides) (new : Parted S.frame) where
  -- ---- what begins, is written or ends is none of those in scope

  module _ (vs : List Kept) (x : ℕ) (f : IsNewHere vs x) where
    not_it : (z y : ℕ) → Among (as_itself z y) vs → (x == z) ≡ true → ⊥
    not_it z y q e = f.itself y (subst (λ k. Among (as_itself k y) vs) (sym (eqb-true x z e)) q)

    nor_it : (z : ℕ) → Among (by_reference z) vs → (x == z) ≡ true → ⊥
    nor_it z q e = f.reference (subst (λ k. Among (by_reference k) vs) (sym (eqb-true x z e)) q)

    not_part : (z n : ℕ) → ((x == z) ≡ true → ⊥) → is_part S.frame (own z) n ≡ true → is_part S.frame (own x) n ≡ false
    not_part z n g h = is_false (is_part S.frame (own x) n) (λ k. new.other x z [] [] n (λ e. g (subst (λ u. (x == u) ≡ true) e (same_self x))) k h)

    not_and : (z : ℕ) (b : Bool) → ((x == z) ≡ true → ⊥) → ((x == z) && b) ≡ false
    not_and z b g = is_false ((x == z) && b) (λ k. g (and_left (x == z) b k))

    -- a variable that begins or ends
    pub quiet_end : {V : View} → IsSeen S vs V → (n : ℕ) → IsQuiet V.new (does n (Dead x))
    quiet_end (part_set z y k m q h l) n = record { gives = refl; kills = not_part z k (not_it z y q) h }
    quiet_end (there_as_a_whole z y qs q o) n = record { gives = refl; kills = not_and z (is_all qs) (not_it z y q) }
    quiet_end (not_assigned z y q) n = record { gives = refl; kills = refl }
    quiet_end (reference_set z k q h) n = record { gives = refl; kills = not_part z k (nor_it z q) h }
    quiet_end (reference_there z q) n = record { gives = refl; kills = not_and z true (nor_it z q) }

    quiet_begin : {V : View} → IsSeen S vs V → (n : ℕ) → IsQuiet V.new (does n (Declare x))
    quiet_begin (part_set z y k m q h l) n = record { gives = refl; kills = not_part z k (not_it z y q) h }
    quiet_begin (there_as_a_whole z y qs q o) n = record { gives = refl; kills = not_and z (is_all qs) (not_it z y q) }
    quiet_begin (not_assigned z y q) n = record { gives = is_false (x == z) (not_it z y q); kills = refl }
    quiet_begin (reference_set z k q h) n = record { gives = refl; kills = not_part z k (nor_it z q) h }
    quiet_begin (reference_there z q) n = record { gives = refl; kills = not_and z true (nor_it z q) }

    quiet_write : {V : View} → IsSeen S vs V → (n : ℕ) (t : Temporary) → IsQuiet V.new (does n (Write (own x) t []))
    quiet_write (part_set z y k m q h l) n t = record { gives = not_part z k (not_it z y q) h; kills = refl }
    quiet_write (there_as_a_whole z y qs q o) n t = record { gives = not_and z true (not_it z y q); kills = refl }
    quiet_write (not_assigned z y q) n t = record { gives = refl; kills = not_and z true (not_it z y q) }
    quiet_write (reference_set z k q h) n t = record { gives = not_part z k (nor_it z q) h; kills = refl }
    quiet_write (reference_there z q) n t = record { gives = not_and z true (nor_it z q); kills = refl }

  -- ---- one action in front, and a variable that ends behind

  act_leads : (P Q : List Action → Type 0) (R T U : KnownVariables S) (a : Action) (s q : Order)
      → ((us w : List Action) → P us → Hist (world S) R us w → Reach (world S) q w → InOrder S.frame S.muts us a × Q (us ++ a ∷ []) × Hist (world S) T (us ++ a ∷ []) w)
      → LeadsIf S Q T U s q → LeadsIf S P R U (order.then (order.act a) s) q
  act_leads P Q R T U a s q g f us w vs o r h k rests = answer_rests
  act_leads P Q R T U a s q g f us w vs o r h k (stops {o = p} x) = answer_stops (act_leads P Q R T U a s q g f us w vs p r h k x)
  act_leads P Q R T U a s q g f us w vs o r h k (both {vs = v} x y) = by (of_act x) (g us w r h k)
    where
      comes : {p : Out} → Comes (world S) U q (us ++ a ∷ []) w v p → Comes (world S) U q us w (a ∷ v) p
      comes cut = cut
      comes gone = gone
      comes (whole p ws e z i) = whole p ws e z (λ V t. subst (λ l. Traced (IsWalk S.text) V l (w ++ ws)) (joined us (a ∷ []) v) (i V t))

      answered : InOrder S.frame S.muts us a → Answer (world S) U q (us ++ a ∷ []) w v o → Answer (world S) U q us w (a ∷ v) o
      answered i z = record { good = (i, z.good); comes = comes z.comes }

      by : {l : List Action} → OfAct a l on → InOrder S.frame S.muts us a × Q (us ++ a ∷ []) × Hist (world S) T (us ++ a ∷ []) w → Answer (world S) U q us w (l ++ v) o
      by acted i = answered i.0 (f (us ++ a ∷ []) w v o i.1 i.2 k y)
  act_leads P Q R T U a s q g f us w vs o r h k (first e x) = by e (of_act x) (g us w r h k)
    where
      by : {l : List Action} {p : Out} → IsAway p → OfAct a l p → InOrder S.frame S.muts us a × Q (us ++ a ∷ []) × Hist (world S) T (us ++ a ∷ []) w → Answer (world S) U q us w l p
      by e acted i = elim e [ ]
      by e half i = record { good = (i.0, tt); comes = cut }
      by e idle i = answer_rests

  -- its end is nothing to the others
  narrow : (R T : KnownVariables S) (k : Kept) (x : ℕ) → OneMore S R T k → IsNewHere R.variables x → (us w : List Action) (n : ℕ) → Hist (world S) T us w → Hist (world S) R (us ++ does n (Dead x) ∷ []) w
  narrow R T k x m f us w n h V s = only_new (does n (Dead x)) (h V (subst (λ vs. IsSeen S vs V) (sym m.variables) (wider_seen S k R.variables s))) (quiet_end R.variables x f s n)

  ending_leads : (U R T : KnownVariables S) (k : Kept) (x n : ℕ) → OneMore S R T k → IsNewHere R.variables x → (s q : Order) → Leads S U T s q → Leads S U R (order.ending n x s) q
  ending_leads U R T k x n m f s q g us w vs o h c rests = answer_rests
  ending_leads U R T k x n m f s q g us w vs o h c (stops {o = p} a) = answer_stops (ending_leads U R T k x n m f s q g us w vs p h c a)
  ending_leads U R T k x n m f s q g us w vs o h c (ends {us = u} a) = by (g us w u on h c a)
    where
      comes : Comes (world S) T q us w u on → Comes (world S) R q us w (u ++ does n (Dead x) ∷ []) on
      comes (whole p ws e z i) = whole p ws (wider_out (λ l j t. subst (λ ls. Among (l, j) ls) m.loops t) e) z
          (λ V t. subst (λ l. Traced (IsWalk S.text) V l (w ++ ws)) (joined us u (does n (Dead x) ∷ [])) (narrow R T k x m f (us ++ u) (w ++ ws) n i V t))

      by : Answer (world S) T q us w u on → Answer (world S) R q us w (u ++ does n (Dead x) ∷ []) on
      by z = record { good = good_both (world S) us u (does n (Dead x) ∷ []) z.good (dead_in_order S (us ++ u) n x, tt); comes = comes z.comes }
  ending_leads U R T k x n m f s q g us w vs o h c (jumps {us = u} {j = j} a) = by (g us w u (leaves j) h c a)
    where
      comes : {j : Exit} → Comes (world S) T q us w u (leaves j) → Comes (world S) R q us w (u ++ does (exit_node j) (Dead x) ∷ []) (leaves j)
      comes gone = gone
      comes {j = j} (whole p ws e z i) = whole p ws (wider_out (λ l j t. subst (λ ls. Among (l, j) ls) m.loops t) e) z
          (λ V t. subst (λ l. Traced (IsWalk S.text) V l (w ++ ws)) (joined us u (does (exit_node j) (Dead x) ∷ [])) (narrow R T k x m f (us ++ u) (w ++ ws) (exit_node j) i V t))

      by : Answer (world S) T q us w u (leaves j) → Answer (world S) R q us w (u ++ does (exit_node j) (Dead x) ∷ []) (leaves j)
      by z = record { good = good_both (world S) us u (does (exit_node j) (Dead x) ∷ []) z.good (dead_in_order S (us ++ u) (exit_node j) x, tt); comes = comes z.comes }
  ending_leads U R T k x n m f s q g us w vs o h c (halts a) = by (g us w vs stopped h c a)
    where
      by : Answer (world S) T q us w vs stopped → Answer (world S) R q us w vs stopped
      by z = record { good = z.good; comes = cut }

  -- ---- a variable that is written, one that holds a reference, one that is only declared

  part_more : (vs : List Kept) (us w : List Action) (x y z u n m : ℕ) → ((V : View) → IsSeen S vs V → Traced (IsWalk S.text) V us w)
      → ((n m : ℕ) → is_part S.frame (own x) n ≡ true → LikePart S x y n m → Traced (IsWalk S.text) (set_view S n y m) us w)
      → Among (as_itself z u) (as_itself x y ∷ vs) → is_part S.frame (own z) n ≡ true → LikePart S z u n m → Traced (IsWalk S.text) (set_view S n u m) us w
  part_more vs us w x y z u n m f g here h l = g n m h l
  part_more vs us w x y z u n m f g (there q) h l = f _ (part_set z u n m q h l)

  whole_more : (vs : List Kept) (us w : List Action) (x y z u : ℕ) (qs : List Step) → ((V : View) → IsSeen S vs V → Traced (IsWalk S.text) V us w)
      → Traced (IsWalk S.text) (whole_view x y qs) us w → Among (as_itself z u) (as_itself x y ∷ vs) → is_behind qs ≡ false → Traced (IsWalk S.text) (whole_view z u qs) us w
  whole_more vs us w x y z u qs f g here o = g
  whole_more vs us w x y z u qs f g (there q) o = f _ (there_as_a_whole z u qs q o)

  fresh_more : (vs : List Kept) (us w : List Action) (x y z u : ℕ) → ((V : View) → IsSeen S vs V → Traced (IsWalk S.text) V us w)
      → Traced (IsWalk S.text) (fresh_view x y) us w → Among (as_itself z u) (as_itself x y ∷ vs) → Traced (IsWalk S.text) (fresh_view z u) us w
  fresh_more vs us w x y z u f g here = g
  fresh_more vs us w x y z u f g (there q) = f _ (not_assigned z u q)

  not_this : (vs : List Kept) (x y z : ℕ) → Among (by_reference z) (as_itself x y ∷ vs) → Among (by_reference z) vs
  not_this vs x y z (there q) = q

  not_that : (vs : List Kept) (x z u : ℕ) → Among (as_itself z u) (by_reference x ∷ vs) → Among (as_itself z u) vs
  not_that vs x z u (there q) = q

  itself_more : (vs : List Kept) (us w : List Action) (x y : ℕ) → ((V : View) → IsSeen S vs V → Traced (IsWalk S.text) V us w)
      → ((n m : ℕ) → is_part S.frame (own x) n ≡ true → LikePart S x y n m → Traced (IsWalk S.text) (set_view S n y m) us w)
      → ((qs : List Step) → Traced (IsWalk S.text) (whole_view x y qs) us w) → Traced (IsWalk S.text) (fresh_view x y) us w
      → {V : View} → IsSeen S (as_itself x y ∷ vs) V → Traced (IsWalk S.text) V us w
  itself_more vs us w x y f a b c (part_set z u n m q h l) = part_more vs us w x y z u n m f a q h l
  itself_more vs us w x y f a b c (there_as_a_whole z u qs q o) = whole_more vs us w x y z u qs f (b qs) q o
  itself_more vs us w x y f a b c (not_assigned z u q) = fresh_more vs us w x y z u f c q
  itself_more vs us w x y f a b c (reference_set z n q h) = f _ (reference_set z n (not_this vs x y z q) h)
  itself_more vs us w x y f a b c (reference_there z q) = f _ (reference_there z (not_this vs x y z q))

  reference_more : (vs : List Kept) (us w : List Action) (x z n : ℕ) → ((V : View) → IsSeen S vs V → Traced (IsWalk S.text) V us w)
      → ((n : ℕ) → is_part S.frame (own x) n ≡ true → Traced (IsWalk S.text) (sure_view (setting S.frame n)) us w)
      → Among (by_reference z) (by_reference x ∷ vs) → is_part S.frame (own z) n ≡ true → Traced (IsWalk S.text) (sure_view (setting S.frame n)) us w
  reference_more vs us w x z n f g here h = g n h
  reference_more vs us w x z n f g (there q) h = f _ (reference_set z n q h)

  reference_stays : (vs : List Kept) (us w : List Action) (x z : ℕ) → ((V : View) → IsSeen S vs V → Traced (IsWalk S.text) V us w)
      → Traced (IsWalk S.text) (sure_view (standing x [])) us w → Among (by_reference z) (by_reference x ∷ vs) → Traced (IsWalk S.text) (sure_view (standing z [])) us w
  reference_stays vs us w x z f g here = g
  reference_stays vs us w x z f g (there q) = f _ (reference_there z q)

  borrowed_more : (vs : List Kept) (us w : List Action) (x : ℕ) → ((V : View) → IsSeen S vs V → Traced (IsWalk S.text) V us w)
      → ((n : ℕ) → is_part S.frame (own x) n ≡ true → Traced (IsWalk S.text) (sure_view (setting S.frame n)) us w) → Traced (IsWalk S.text) (sure_view (standing x [])) us w
      → {V : View} → IsSeen S (by_reference x ∷ vs) V → Traced (IsWalk S.text) V us w
  borrowed_more vs us w x f a b (part_set z u n m q h l) = f _ (part_set z u n m (not_that vs x z u q) h l)
  borrowed_more vs us w x f a b (there_as_a_whole z u qs q o) = f _ (there_as_a_whole z u qs (not_that vs x z u q) o)
  borrowed_more vs us w x f a b (not_assigned z u q) = f _ (not_assigned z u (not_that vs x z u q))
  borrowed_more vs us w x f a b (reference_set z n q h) = reference_more vs us w x z n f a q h
  borrowed_more vs us w x f a b (reference_there z q) = reference_stays vs us w x z f b q

  -- what is written as a whole is there
  write_sets : (us : List Action) (n k x : ℕ) (t : Temporary) (b : Bool) → is_part S.frame (own x) k ≡ true → after (setting S.frame k) (us ++ does n (Write (own x) t []) ∷ []) b ≡ true
  write_sets us n k x t b h = given_last (setting S.frame k) us (does n (Write (own x) t [])) b h

  write_stands : (us : List Action) (n x : ℕ) (t : Temporary) (qs : List Step) (b : Bool) → after (standing x qs) (us ++ does n (Write (own x) t []) ∷ []) b ≡ true
  write_stands us n x t qs b = given_last (standing x qs) us (does n (Write (own x) t [])) b (and_both (x == x) true (same_self x) refl)

  -- behind its begin a variable was not assigned
  began : (us : List Action) (n x : ℕ) → was_assigned (us ++ does n (Declare x) ∷ []) x ≡ false
  began us n x = after_one (assigning x) us (does n (Declare x)) false ∙ lost (x == x) (was_assigned us x) (same_self x)
    where
      lost : (k b : Bool) → k ≡ true → (not k && b) ≡ false
      lost true b e = refl
      lost false b e = no e

  declare_param : (R : KnownVariables S) (x n : ℕ) → IsNewHere R.variables x → (us w : List Action) → Hist (world S) R us w
      → InOrder S.frame S.muts us (does n (Declare x)) × (was_assigned (us ++ does n (Declare x) ∷ []) x ≡ false) × Hist (world S) R (us ++ does n (Declare x) ∷ []) w
  declare_param R x n f us w h = (declare_in_order S us n x, began us n x, λ V s. only_new (does n (Declare x)) (h V s) (quiet_begin R.variables x f s n))

  written_facts : (R T : KnownVariables S) (x y n : ℕ) (t : Temporary) → IsNewHere R.variables x → OneMore S R T (as_itself x y) → (us w : List Action) → Hist (world S) R us w → was_assigned w y ≡ true
      → Hist (world S) T (us ++ does n (Write (own x) t []) ∷ []) w
  written_facts R T x y n t f m us w h e V s =
      itself_more R.variables (us ++ does n (Write (own x) t []) ∷ []) w x y (λ V s. only_new (does n (Write (own x) t [])) (h V s) (quiet_write R.variables x f s n t))
      (λ k j p l. start (λ q. write_sets us n k x t false p)) (λ qs. start (λ q. write_stands us n x t qs false))
      (start (λ q. clash (after (fresh y) w true) q (all_turned y w false ∙ ap not e))) (subst (λ vs. IsSeen S vs V) m.variables s)

  borrowed_facts : (R T : KnownVariables S) (x n : ℕ) (t : Temporary) → IsNewHere R.variables x → OneMore S R T (by_reference x) → (us w : List Action) → Hist (world S) R us w
      → Hist (world S) T (us ++ does n (Write (own x) t []) ∷ []) w
  borrowed_facts R T x n t f m us w h V s =
      borrowed_more R.variables (us ++ does n (Write (own x) t []) ∷ []) w x (λ V s. only_new (does n (Write (own x) t [])) (h V s) (quiet_write R.variables x f s n t))
      (λ k p. start (λ q. write_sets us n k x t false p)) (start (λ q. write_stands us n x t [] false)) (subst (λ vs. IsSeen S vs V) m.variables s)

  param_leads : (R T : KnownVariables S) (k : Kept) (x n m : ℕ) (t : Temporary) (s q : Order) → IsNewHere R.variables x → OneMore S R T k
      → ((us w : List Action) → Hist (world S) R us w → Reach (world S) q w → Hist (world S) T (us ++ does n (Write (own x) t []) ∷ []) w)
      → Leads S T T s q → Leads S R R (order.then (order.act (does n (Declare x))) (order.then (order.act (does n (Write (own x) t []))) (order.ending m x s))) q
  param_leads R T k x n m t s q f o g l us w vs p h r a =
      act_leads (λ u. Unit {0}) (λ u. was_assigned u x ≡ false) R R R (does n (Declare x)) (order.then (order.act (does n (Write (own x) t []))) (order.ending m x s)) q
      (λ u v i j c. declare_param R x n f u v j)
      (act_leads (λ u. was_assigned u x ≡ false) (λ u. Unit {0}) R T R (does n (Write (own x) t [])) (order.ending m x s) q (λ u v i j c. (write_in_order S u n x t i, tt, g u v j c))
      (λ u v ws z i. ending_leads T R T k x m o f s q l u v ws z))
      us w vs p tt h r a

  module _ (old : Parted S.frame_there) (init : Initialised S.frame_there S.muts_there S.text) where
    own_there : (x y n m : ℕ) → is_part S.frame (own x) n ≡ true → LikePart S x y n m → is_part S.frame_there (own y) m ≡ true
    own_there x y n m h l = sym (l [] [] both_end) ∙ h

    declared_facts : (R T : KnownVariables S) (x y n : ℕ) → IsNewHere R.variables x → OneMore S R T (as_itself x y) → (us w : List Action) → Hist (world S) R us w → IsWalk S.text w → stands w y [] ≡ false
        → Hist (world S) T (us ++ does n (Declare x) ∷ []) w
    declared_facts R T x y n f m us w h c e V s =
        itself_more R.variables (us ++ does n (Declare x) ∷ []) w x y (λ V s. only_new (does n (Declare x)) (h V s) (quiet_begin R.variables x f s n))
        (λ k j p l. start (λ q. clash (is_set S.frame_there w j) q (unset S.frame_there old S.muts_there S.text init y j (own_there x y k j p l) w c e)))
        (λ qs. start (λ q. clash (after (standing_in y qs) w false) q (stands_not S.frame_there old S.muts_there S.text init y qs w c e)))
        (start (λ q. given_last (fresh x) us (does n (Declare x)) true (same_self x))) (subst (λ vs. IsSeen S vs V) m.variables s)

    reached : (q : Order) (w : List Action) → Reach (world S) q w → IsWalk S.text w
    reached q w r = subst (IsWalk S.text) (nil_right w) (r [] stopped rests)

    local_leads : (R T : KnownVariables S) (x y n m : ℕ) (s q : Order) → IsNewHere R.variables x → OneMore S R T (as_itself x y) → OnEach S q (λ w. stands w y [] ≡ false)
        → Leads S T T s q → Leads S R R (order.then (order.act (does n (Declare x))) (order.ending m x s)) q
    local_leads R T x y n m s q f o g l us w vs p h r a =
        act_leads (λ u. Unit {0}) (λ u. Unit {0}) R T R (does n (Declare x)) (order.ending m x s) q
        (λ u v i j c. (declare_in_order S u n x, tt, declared_facts R T x y n f o u v j (reached q v c) (g v c)))
        (λ u v ws z i. ending_leads T R T (as_itself x y) x m o f s q l u v ws z)
        us w vs p tt h r a

    -- ---- lists of them

    pub given_maps : (q : Order) {R U : KnownVariables S} {ps : List Parameter} → Given S q R ps U → (n : ℕ) (s : Order) → Maps (world S) U s q → Maps (world S) R (beginning ps n s) q
    given_maps q given_none n s l = l
    given_maps q (by_value {R = R} {T = T} {p = p} {ps = ps} y f o g r) n s l = param_leads R T (as_itself p.variable y) p.variable p.node n (temporary_at p.node 0) (beginning ps n s) q f o
        (λ u v j c. written_facts R T p.variable y p.node (temporary_at p.node 0) f o u v j (g v c)) (given_maps q r n s l)
    given_maps q (by_borrow {R = R} {T = T} {p = p} {ps = ps} f o r) n s l = param_leads R T (by_reference p.variable) p.variable p.node n (temporary_at p.node 0) (beginning ps n s) q f o
        (λ u v j c. borrowed_facts R T p.variable p.node (temporary_at p.node 0) f o u v j) (given_maps q r n s l)

    pub declared_maps : (q : Order) {R U : KnownVariables S} {xs : List ℕ} → LocalsDeclared S q R xs U → (k n : ℕ) (s : Order) → Maps (world S) U s q → Maps (world S) R (declaring k xs n s) q
    declared_maps q declared_none k n s l = l
    declared_maps q (declared_and {R = R} {T = T} {x = x} {xs = xs} y f o g r) k n s l = local_leads R T x y k n (declaring k xs n s) q f o g (declared_maps q r k n s l)
