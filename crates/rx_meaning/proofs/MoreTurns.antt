-- With more turns a run does the same, or goes on where it was cut off: by recursion on the typed tree, and on the levels.
use Rattle.std.proofs.Common.{◌≡◌, ℕ, zero, suc, ◌<◌, ◌≤◌, List, [], ◌∷◌, refl, ap, ◌∙◌, sym, arith, inl, inr, le_refl, ℤ}
use Rattle.rx_typed.specs.Tree.{Temporary, Exp, read, borrow, share, build, unit, lazily, assign, update, call, input, print, block, choose, loop, jump, give, Operands, no_operand, operand_and, Scrutinee, at_place, of_value, Arms, no_arm, arm_and, Body, ends, runs, declares, lets, Function, temporary_of}
use Rattle.rx_lower_walks.specs.Matching.{tests, bindings}
use Rattle.rx_lower_walks.specs.Actions.{Subject, subject}
use Rattle.rx_lower_walks.specs.Orders.{exit, returns}
use Rattle.rx_meaning.specs.Values.{Value, unit_value, State, with_turns, element, new_frame}
use Rattle.rx_meaning.specs.Results.{Result, on, jumps, stops}
use Rattle.rx_meaning.specs.Acting.{Acting, plainly}
use Rattle.rx_meaning.specs.Expressions.{Functions, entered, value, values, matched, arms, body, below_level, called}
use Rattle.rx_meaning.specs.Programs.{Program, outcome_of, begins, run, UpTo}
use Rattle.rx_meaning.specs.Telling.{told_by}
use Rattle.rx_meaning.proofs.Turns.{Compared, equally, longer, Turns, IsBlind, Later, both_on, both_jump, both_stop, cut, later_on, later_jump, later_bind, later_turn, later_decided, later_passed, later_found, later_performed, later_bound, later_begun, later_tested, later_returned, later_arguments}
use Rattle.rx_meaning.proofs.Blind.{plainly_blind}

module _ {E : Type 0} (A : Acting E) (blind : IsBlind A) (P : Functions) (d : Compared) where
  -- at these levels, where they are above the turns left
  abbrev At : ℕ → ℕ → Type 0
  At m n = (e : Exp) (t : Temporary) (s : State) (u : ℕ) → s.turns < m → u < n → Turns d s.turns u → Later d s.turns u (below_level A P m e t s) (below_level A P n e t (with_turns s u))

  module _ (m n : ℕ) (below : At m n) where
    later_entered : (i : ℕ) (f : Function) (vs : List Value) (s : State) (u : ℕ) → s.turns < m → u < n → Turns d s.turns u → Later d s.turns u (entered A (below_level A P m) i f vs s) (entered A (below_level A P n) i f vs (with_turns s u))
    later_entered i f vs s u l l' h =
        later_returned A blind d s.turns u s.frame _ _ (later_arguments A blind d f.params _ vs _ _ (record s { frame = new_frame i }) u h
        (λ s1 u1 h1 l1 l1'. below f.body (temporary_of f.body) s1 u1 (omega arith) (omega arith) h1))

    later_called : (f : ℕ) (vs : List Value) (s : State) (u : ℕ) → s.turns ≤ m → u ≤ n → Turns d s.turns u → Later d s.turns u (called A P m f vs s) (called A P n f vs (with_turns s u))
    later_called f vs s u l l' h =
        later_found d s.turns u (element P f) _ _ (λ g. later_turn d s u _ _ h (λ v w lv lw r. later_entered f g vs (with_turns s v) w (omega arith) (omega arith) r))

    mutual
      unfolding value

      later_value : (e : Exp) (t : Temporary) (s : State) (u : ℕ) → s.turns ≤ m → u ≤ n → Turns d s.turns u → Later d s.turns u (value A P (below_level A P m) e t s) (value A P (below_level A P n) e t (with_turns s u))
      later_value (read w v p) t s u l l' h = later_performed A blind d _ _ s u h
      later_value (build w k es) t s u l l' h = later_bind d s.turns u _ _ _ _ (later_values es s u l l' h) (λ vs s1 u1 h1 l1 l1'. later_performed A blind d _ _ s1 u1 h1)
      later_value (lazily w b e f) t s u l l' h =
          later_bind d s.turns u _ _ _ _ (later_value e _ s u l l' h) (λ v s1 u1 h1 l1 l1'.
          later_bind d s1.turns u1 _ _ _ _ (later_performed A blind d _ _ s1 u1 h1) (λ c s2 u2 h2 l2 l2'.
          later_bind d s2.turns u2 _ _ _ _ (later_decided d c _ _ _ _ s2 u2 h2 (λ s3 u3 h3 l3 l3'. later_value f _ s3 u3 (omega arith) (omega arith) h3) (λ s3 u3 h3 l3 l3'. later_on d v s3 u3 h3)) (λ x s4 u4 h4 l4 l4'.
          later_performed A blind d _ _ s4 u4 h4)))
      later_value (borrow w k p) t s u l l' h = later_performed A blind d _ _ s u h
      later_value (share w e) t s u l l' h = later_bind d s.turns u _ _ _ _ (later_value e _ s u l l' h) (λ v s1 u1 h1 l1 l1'. later_performed A blind d _ _ s1 u1 h1)
      later_value (call w f es) t s u l l' h =
          later_bind d s.turns u _ _ _ _ (later_values es s u l l' h) (λ vs s1 u1 h1 l1 l1'.
          later_bind d s1.turns u1 _ _ _ _ (later_performed A blind d _ _ s1 u1 h1) (λ v s2 u2 h2 l2 l2'.
          later_called f vs s2 u2 (omega arith) (omega arith) h2))
      later_value (input w) t s u l l' h = later_performed A blind d _ _ s u h
      later_value (print w e) t s u l l' h = later_bind d s.turns u _ _ _ _ (later_value e _ s u l l' h) (λ v s1 u1 h1 l1 l1'. later_performed A blind d _ _ s1 u1 h1)
      later_value (assign w p e) t s u l l' h = later_bind d s.turns u _ _ _ _ (later_value e _ s u l l' h) (λ v s1 u1 h1 l1 l1'. later_performed A blind d _ _ s1 u1 h1)
      later_value (update w o p e) t s u l l' h =
          later_bind d s.turns u _ _ _ _ (later_value e _ s u l l' h) (λ v s1 u1 h1 l1 l1'.
          later_bind d s1.turns u1 _ _ _ _ (later_performed A blind d _ _ s1 u1 h1) (λ x s2 u2 h2 l2 l2'.
          later_bind d s2.turns u2 _ _ _ _ (later_performed A blind d _ _ s2 u2 h2) (λ y s3 u3 h3 l3 l3'.
          later_performed A blind d _ _ s3 u3 h3)))
      later_value (choose w c a) t s u l l' h =
          later_bind d s.turns u _ _ _ _ (later_matched c s u l l' h) (λ vs s1 u1 h1 l1 l1'. later_arms (subject c) vs a t s1 u1 (omega arith) (omega arith) h1)
      later_value (loop w k e) t s u l l' h =
          later_turn d s u _ _ h (λ v x lv lx r. later_passed d v x k _ _ _ _ (below e (temporary_of e) (with_turns s v) x (omega arith) (omega arith) r)
          (λ s1 u1 h1 l1 l1'. below (loop w k e) t s1 u1 (omega arith) (omega arith) h1))
      later_value (jump w k again) t s u l l' h = later_jump d (exit w.node k again) unit_value s u h
      later_value (give w e) t s u l l' h =
          later_bind d s.turns u _ _ _ _ (later_value e _ s u l l' h) (λ v s1 u1 h1 l1 l1'.
          later_bind d s1.turns u1 _ _ _ _ (later_performed A blind d _ _ s1 u1 h1) (λ x s2 u2 h2 l2 l2'. later_jump d (returns w.node) x s2 u2 h2))
      later_value (unit w) t s u l l' h = later_on d unit_value s u h
      later_value (block w b) t s u l l' h = later_body b w.node t s u l l' h

      later_values : (es : Operands) (s : State) (u : ℕ) → s.turns ≤ m → u ≤ n → Turns d s.turns u → Later d s.turns u (values A P (below_level A P m) es s) (values A P (below_level A P n) es (with_turns s u))
      later_values no_operand s u l l' h = later_on d [] s u h
      later_values (operand_and i e es) s u l l' h =
          later_bind d s.turns u _ _ _ _ (later_value e _ s u l l' h) (λ v s1 u1 h1 l1 l1'.
          later_bind d s1.turns u1 _ _ _ _ (later_values es s1 u1 (omega arith) (omega arith) h1) (λ vs s2 u2 h2 l2 l2'. later_on d (v ∷ vs) s2 u2 h2))

      later_matched : (c : Scrutinee) (s : State) (u : ℕ) → s.turns ≤ m → u ≤ n → Turns d s.turns u → Later d s.turns u (matched A P (below_level A P m) c s) (matched A P (below_level A P n) c (with_turns s u))
      later_matched (at_place w p) s u l l' h = later_on d [] s u h
      later_matched (of_value e) s u l l' h = later_bind d s.turns u _ _ _ _ (later_value e _ s u l l' h) (λ v s1 u1 h1 l1 l1'. later_on d (v ∷ []) s1 u1 h1)

      later_arms : (S : Subject) (vs : List Value) (a : Arms) (t : Temporary) (s : State) (u : ℕ) → s.turns ≤ m → u ≤ n → Turns d s.turns u → Later d s.turns u (arms A P (below_level A P m) S vs a t s) (arms A P (below_level A P n) S vs a t (with_turns s u))
      later_arms S vs no_arm t s u l l' h = both_stop
      later_arms S vs (arm_and p e rest) t s u l l' h =
          later_tested A blind d S vs (tests [] p) _ _ _ _ s u h
          (λ s1 u1 h1 l1 l1'. later_bound A blind d S vs (bindings [] p) _ _ _ s1 u1 h1 (λ s2 u2 h2 l2 l2'. later_value e t s2 u2 (omega arith) (omega arith) h2))
          (λ s1 u1 h1 l1 l1'. later_arms S vs rest t s1 u1 (omega arith) (omega arith) h1)

      later_body : (b : Body) (i : ℕ) (t : Temporary) (s : State) (u : ℕ) → s.turns ≤ m → u ≤ n → Turns d s.turns u → Later d s.turns u (body A P (below_level A P m) b i t s) (body A P (below_level A P n) b i t (with_turns s u))
      later_body (ends e) i t s u l l' h = later_value e t s u l l' h
      later_body (runs e rest) i t s u l l' h = later_bind d s.turns u _ _ _ _ (later_value e _ s u l l' h) (λ v s1 u1 h1 l1 l1'. later_body rest i t s1 u1 (omega arith) (omega arith) h1)
      later_body (declares j xs rest) i t s u l l' h = later_begun A blind d j xs i _ _ s u h (λ s1 u1 h1 l1 l1'. later_body rest i t s1 u1 (omega arith) (omega arith) h1)
      later_body (lets j p c rest) i t s u l l' h =
          later_bind d s.turns u _ _ _ _ (later_matched c s u l l' h) (λ vs s1 u1 h1 l1 l1'.
          later_bound A blind d (subject c) vs (bindings [] p) i _ _ s1 u1 h1 (λ s2 u2 h2 l2 l2'. later_body rest i t s2 u2 (omega arith) (omega arith) h2))

  later_level : (m n : ℕ) → At m n
  unfolding below_level
  later_level zero n e t s u l l' h = absurd (omega arith)
  later_level (suc m) zero e t s u l l' h = absurd (omega arith)
  later_level (suc m) (suc n) e t s u l l' h = later_value m n (later_level m n) e t s u (omega arith) (omega arith) h

  later_call : (m n : ℕ) (f : ℕ) (vs : List Value) (s : State) (u : ℕ) → s.turns ≤ m → u ≤ n → Turns d s.turns u → Later d s.turns u (called A P m f vs s) (called A P n f vs (with_turns s u))
  later_call m n = later_called m n (later_level m n)

told_outcome : (r : Result ℕ Value) → told_by r ≡ (outcome_of r).printed
told_outcome (on w v s) = refl
told_outcome (jumps w x v s) = refl
told_outcome (stops w e) = refl

later_outcome : (t u : ℕ) (r r' : Result ℕ Value) → Later longer t u r r' → UpTo (outcome_of r) (outcome_of r')
later_outcome t u r r' (both_on v h le le') = inl refl
later_outcome t u r r' (both_jump v h le le') = inl refl
later_outcome t u r r' both_stop = inl refl
later_outcome t u r r' (cut m h) = inr (refl, (h.0, sym (told_outcome r') ∙ h.1))

pub more_turns : (P : Program) (given : List ℤ) (n k : ℕ) → n ≤ k → UpTo (run P given n) (run P given k)
more_turns P given n k le = later_outcome n k _ _ (later_call plainly plainly_blind P.functions longer n k P.main [] (begins given n) k (le_refl n) (le_refl k) le)

same_result : {E A : Type 0} (t u : ℕ) (r r' : Result E A) → Later equally t u r r' → r ≡ r'
same_result t u r r' (both_on {o = o} {a = a} {s = s} v h le le') = ap (λ n. on o a (with_turns s n)) h
same_result t u r r' (both_jump {o = o} {x = x} {v = a} {s = s} v h le le') = ap (λ n. jumps o x a (with_turns s n)) h
same_result t u r r' both_stop = refl
same_result t u r r' (cut m h) = absurd m

-- where as many turns may be nested as there are left, the level says nothing
pub level_is_free : {E : Type 0} (A : Acting E) → IsBlind A → (P : Functions) (m n : ℕ) (f : ℕ) (vs : List Value) (s : State) → s.turns ≤ m → s.turns ≤ n → called A P m f vs s ≡ called A P n f vs s
level_is_free A blind P m n f vs s l l' = same_result s.turns s.turns _ _ (later_call A blind P equally m n f vs s s.turns l l' refl)

-- the same of an expression
pub level_of : {E : Type 0} (A : Acting E) → IsBlind A → (P : Functions) (m n : ℕ) (e : Exp) (t : Temporary) (s : State) → s.turns < m → s.turns < n → below_level A P m e t s ≡ below_level A P n e t s
level_of A blind P m n e t s l l' = same_result s.turns s.turns _ _ (later_level A blind P equally m n e t s s.turns l l' refl)
