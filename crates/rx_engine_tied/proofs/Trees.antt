-- So of a typed tree with changes: form by form, where names mean what they name and no action is a mark but those that are put in.
use Rattle.std.proofs.Common.{◌≡◌, ℕ, Bool, true, false, ◌&&◌, ◌==◌, List, [], ◌∷◌, ◌++◌, map, refl, subst}
use Rattle.std.proofs.lemmas.Bool.Decides.{Decides-eqb}
use Rattle.rx_core.specs.declared.types.Step.{Step}
use Rattle.rx_typed.specs.Tree.{Root, variable, temporary, Place, Making, tuple, Temporary, Mark, Exp, read, borrow, share, build, unit, lazily, assign, update, call, input, print, block, choose, loop, jump, give, Operands, no_operand, operand_and, Scrutinee, at_place, of_value, Arms, no_arm, arm_and, Body, ends, runs, declares, lets, fields_of, mark_of, temporaries_of, temporary_at, temporary_of}
use Rattle.rx_typed.specs.TypedPlaces.{is_front}
use Rattle.rx_lower_walks.specs.Matching.{bindings, tests}
use Rattle.rx_lower_walks.specs.Actions.{Action, does, Subject, subject, Write}
use Rattle.rx_lower_walks.specs.Orders.{binding, Order, order, order_all, order_arms, order_body, order_scrutinee}
use Rattle.rx_lower_walks.specs.Orders as o
use Rattle.rx_lower_walks.specs.Walks.{Among, here, there}
use Rattle.rx_facts_tables.specs.Wholes.{is_variable, regains}
use Rattle.rx_exits_plan.specs.Blocks.{before, begins, binds, bound, declared_by, does as runs_it, Statement}
use Rattle.rx_exits_plan.specs.Changed.{Changes, changed, changed_all, changed_arms, changed_body, changed_matched, changed_statement}
use Rattle.rx_exits_plan.specs.Spots.{a_block, a_jump, a_return, Around, Spot, spots, spots_armed, spots_in, spots_matched, spots_of, with_loop, with_variables}
use Rattle.rx_exits_plan.specs.Unmarked.{is_mark, makes_mark}
use Rattle.rx_exits_plan.specs.Exits.{past}
use Rattle.rx_hoist_meant.specs.NamesMeant.{AtRoot, InArms, InBody, InExp, InOperands, InScrutinee}
use Rattle.rx_hoist_meant.proofs.Patterns.{among_left, among_right}
use Rattle.rx_engine_related.proofs.Bare.{NoMarks}
use Rattle.rx_engine_related.proofs.Sole.{of_binding as binding_bare, of_declaring as declaring_bare, of_testing as testing_bare}
use Rattle.rx_engine_tied.proofs.Since.{meant_there}
use Rattle.rx_engine_tied.proofs.Parts as parts

-- what is made of something is no mark
not_of_none : (v : Making) (i : ℕ) (is : List ℕ) (ts : List Temporary) → makes_mark v (i ∷ is) ts ≡ false
not_of_none tuple i is ts = refl
not_of_none _ i is ts = refl

module _ (x : ℕ) (m : Action) (l : ℕ) (mark : is_mark m.act ≡ true) (Hides : Type 0) (same : ℕ → ℕ → Bool) (L : List Spot) where
  abbrev pub P : Around → Order → Type 0
  P a s = parts.Part x m l mark Hides a s

  -- all of these stand in the function
  abbrev pub Within : List Spot → Type 0
  Within ss = (s : Spot) → Among s ss → Among s L

  first_within : (ss ts : List Spot) → Within (ss ++ ts) → Within ss
  first_within ss ts w s i = w s (among_left ss ts i)

  rest_within : (ss ts : List Spot) → Within (ss ++ ts) → Within ts
  rest_within ss ts w s i = w s (among_right ss ts i)

  root_in_scope : (a : Around) (r : Root) (qs : List Step) → AtRoot same a r → (Among x a.scope → ⊥) → (is_variable r x && is_front qs []) ≡ false
  root_in_scope a (variable y) qs h n = by (y == x) refl
    where
      by : (b : Bool) → (y == x) ≡ b → (b && is_front qs []) ≡ false
      by true e = absurd (n (subst (λ (z : ℕ). Among z a.scope) ((Decides-eqb y x).0 e) (meant_there [] same y y a.scope h)))
      by false e = refl
  root_in_scope a (temporary t) qs h n = refl

  pub of_write : (a : Around) (k : ℕ) (p : Place) (t : Temporary) (ss : List Step) → AtRoot same a p.root → P a (o.act (does k (Write p t ss)))
  of_write a k p t ss h = parts.of_act x m l mark Hides a (does k (Write p t ss)) (parts.not_mark x m l mark Hides (does k (Write p t ss)) refl) (λ n. root_in_scope a p.root p.steps h n)

  -- ---- statements

  -- what is known of statements of the text
  abbrev pub Ready : Around → List Statement → Type 0
  Ready a [] = Unit {0}
  Ready a (runs_it e ∷ ss) = (InExp same a e × NoMarks (order e (temporary_of e)) × Within (spots a e)) × Ready a ss
  Ready a (begins s xs ∷ ss) = Ready (with_variables xs a) ss
  Ready a (binds s p c ∷ ss) = (InScrutinee same a c × NoMarks (order_scrutinee c) × Within (spots_matched a c)) × Ready (with_variables (declared_by (binds s p c)) a) ss

  -- what is put at blocks, jumps and behind what is returned
  pub record Changing (C : Changes) : Type 0 where
    pub at_block : (a : Around) (n : ℕ) (was b : Body) (d f : Temporary) → Among (a_block a n was) L → Within (spots_of a was) → InBody same a was → NoMarks (order_body was n f) → ((d : Temporary) → P a (order_body b n d)) → P a (order_body (C.at_block n was b) n d)
    pub at_jump : (a : Around) (k : Mark) (j : ℕ) (again : Bool) (d : Temporary) → Among (a_jump a k.node j again) L → P a (order (C.at_jump k j again) d)
    pub at_return : (a : Around) (e : Exp) → ((d : Temporary) → P a (order e d)) → (d : Temporary) → P a (order (C.at_return e) d)

  module _ (C : Changes) (G : Changing C) where
    then_so : (a : Around) {s t : Order} → P a s → P a t → P a (o.then s t)
    then_so a p q = parts.of_then x m l mark Hides a p q

    plain_so : (a : Around) (b : Action) → is_mark b.act ≡ false → regains x [] b.act ≡ false → P a (o.act b)
    plain_so a b e r = parts.of_plain x m l mark Hides a b e r

    built : (v : Making) (es : Operands) → makes_mark v (fields_of es) (temporaries_of es) ≡ false → makes_mark v (fields_of (changed_all C es)) (temporaries_of (changed_all C es)) ≡ false
    built v no_operand e = e
    built v (operand_and i e es) h = not_of_none v i (fields_of (changed_all C es)) (temporary_of (changed C e) ∷ temporaries_of (changed_all C es))

    mutual
      pub grown : (e : Exp) (a : Around) (d f : Temporary) → InExp same a e → NoMarks (order e f) → Within (spots a e) → P a (order (changed C e) d)
      grown (read k v p) a d f h i w = plain_so a _ refl refl
      grown (borrow k b p) a d f h i w = plain_so a _ refl refl
      grown (share k e) a d f h i w = then_so a (grown e a (temporary_at k.node 1) (temporary_at k.node 1) h i.0 w) (plain_so a _ refl refl)
      grown (build k v es) a d f h i w = then_so a (grown_all es a h i.0 w) (plain_so a _ (built v es i.1) refl)
      grown (unit k) a d f h i w = parts.of_nothing x m l mark Hides a
      grown (lazily k b e g) a d f h i w =
          then_so a (grown e a (temporary_of (changed C e)) (temporary_of e) h.0 i.0 (first_within (spots a e) (spots a g) w))
          (then_so a (plain_so a _ refl refl)
          (then_so a (parts.of_or x m l mark Hides a (grown g a (temporary_of (changed C g)) (temporary_of g) h.1 i.1.1.0.0 (rest_within (spots a e) (spots a g) w)) (parts.of_nothing x m l mark Hides a)) (plain_so a _ refl refl)))
      grown (assign k p e) a d f h i w = then_so a (grown e a (temporary_of (changed C e)) (temporary_of e) h.1 i.0 w) (of_write a k.node p _ [] h.0)
      grown (update k o p e) a d f h i w =
          then_so a (grown e a (temporary_of (changed C e)) (temporary_of e) h.1 i.0 w) (then_so a (plain_so a _ refl refl) (then_so a (plain_so a _ refl refl) (of_write a k.node p _ [] h.0)))
      grown (call k g es) a d f h i w = then_so a (grown_all es a h i.0 w) (plain_so a _ refl refl)
      grown (input k) a d f h i w = plain_so a _ refl refl
      grown (print k e) a d f h i w = then_so a (grown e a (temporary_of (changed C e)) (temporary_of e) h i.0 w) (plain_so a _ refl refl)
      grown (block k b) a d f h i w =
          G.at_block a k.node b (changed_body C b) d f (w (a_block a k.node b) here) (λ s j. w s (there j)) h i (λ z. grown_body b k.node a z f h i (λ s j. w s (there j)))
      grown (choose k s r) a d f h i w =
          then_so a (grown_matched s a h.0 i.0 (first_within (spots_matched a s) (spots_armed a r) w)) (grown_arms (subject s) (subject (changed_matched C s)) r a d f h.1 i.1 (rest_within (spots_matched a s) (spots_armed a r) w))
      grown (loop k j e) a d f h i w = parts.of_passes x m l mark Hides a j (grown e (with_loop j a) (temporary_of (changed C e)) (temporary_of e) h i w)
      grown (jump k j again) a d f h i w = G.at_jump a k j again d (w (a_jump a k.node j again) here)
      grown (give k e) a d f h i w =
          then_so a (G.at_return a (changed C e) (λ z. grown e a z (temporary_of e) h i.0 (first_within (spots a e) (a_return a k.node ∷ []) w)) (temporary_of (C.at_return (changed C e))))
          (then_so a (plain_so a _ refl refl) (parts.of_leave x m l mark Hides a _))

      grown_all : (es : Operands) (a : Around) → InOperands same a es → NoMarks (order_all es) → Within (spots_in a es) → P a (order_all (changed_all C es))
      grown_all no_operand a h i w = parts.of_nothing x m l mark Hides a
      grown_all (operand_and j e es) a h i w =
          then_so a (grown e a (temporary_of (changed C e)) (temporary_of e) h.0 i.0 (first_within (spots a e) (spots_in a es) w)) (grown_all es a h.1 i.1 (rest_within (spots a e) (spots_in a es) w))

      pub grown_matched : (s : Scrutinee) (a : Around) → InScrutinee same a s → NoMarks (order_scrutinee s) → Within (spots_matched a s) → P a (order_scrutinee (changed_matched C s))
      grown_matched (at_place k p) a h i w = parts.of_nothing x m l mark Hides a
      grown_matched (of_value e) a h i w = grown e a (temporary_of (changed C e)) (temporary_of e) h i w

      grown_arms : (S T : Subject) (r : Arms) (a : Around) (d f : Temporary) → InArms same a r → NoMarks (order_arms S r f) → Within (spots_armed a r) → P a (order_arms T (changed_arms C r) d)
      grown_arms S T no_arm a d f h i w = parts.of_nowhere x m l mark Hides a
      grown_arms S T (arm_and p e r) a d f h i w =
          let z : Order = order e f in
          let q = binding S (bindings [] p) (mark_of e).node z in
          let inner = grown e (with_variables (bound p) a) d f h.0 (binding_bare S (bindings [] p) (mark_of e).node z (testing_bare S (tests [] p) q i.0)) (first_within (spots (with_variables (bound p) a) e) (spots_armed a r) w) in
          parts.of_otherwise x m l mark Hides a (parts.of_testing x m l mark Hides a T (tests [] p) (parts.of_binding x m l mark Hides a T (bindings [] p) (mark_of (changed C e)).node inner))
          (grown_arms S T r a d f h.1 i.1 (rest_within (spots (with_variables (bound p) a) e) (spots_armed a r) w))

      grown_body : (b : Body) (n : ℕ) (a : Around) (d f : Temporary) → InBody same a b → NoMarks (order_body b n f) → Within (spots_of a b) → P a (order_body (changed_body C b) n d)
      grown_body (ends e) n a d f h i w = grown e a d f h i w
      grown_body (runs e b) n a d f h i w =
          then_so a (grown e a (temporary_of (changed C e)) (temporary_of e) h.0 i.0 (first_within (spots a e) (spots_of a b) w)) (grown_body b n a d f h.1 i.1 (rest_within (spots a e) (spots_of a b) w))
      grown_body (declares s xs b) n a d f h i w =
          parts.of_declaring x m l mark Hides a s xs n (grown_body b n (with_variables xs a) d f h (declaring_bare s xs n (order_body b n f) i) w)
      grown_body (lets s p c b) n a d f h i w =
          then_so a (grown_matched c a h.0 i.0 (first_within (spots_matched a c) (spots_of (with_variables (bound p) a) b) w))
          (parts.of_binding x m l mark Hides a (subject (changed_matched C c)) (bindings [] p) n
          (grown_body b n (with_variables (bound p) a) d f h.1 (binding_bare (subject c) (bindings [] p) n (order_body b n f) i.1) (rest_within (spots_matched a c) (spots_of (with_variables (bound p) a) b) w)))

    pub before_so : (ss : List Statement) (a : Around) → Ready a ss → (b : Body) (n : ℕ) (d : Temporary) → P (past ss a) (order_body b n d) → P a (order_body (before (map (changed_statement C) ss) b) n d)
    before_so [] a r b n d p = p
    before_so (runs_it e ∷ ss) a r b n d p = then_so a (grown e a (temporary_of (changed C e)) (temporary_of e) r.0.0 r.0.1 r.0.2) (before_so ss a r.1 b n d p)
    before_so (begins s xs ∷ ss) a r b n d p = parts.of_declaring x m l mark Hides a s xs n (before_so ss (with_variables xs a) r b n d p)
    before_so (binds s q c ∷ ss) a r b n d p =
        then_so a (grown_matched c a r.0.0 r.0.1 r.0.2) (parts.of_binding x m l mark Hides a (subject (changed_matched C c)) (bindings [] q) n (before_so ss (with_variables (bound q) a) r.1 b n d p))
