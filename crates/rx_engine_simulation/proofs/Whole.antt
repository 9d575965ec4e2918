-- Whole programs: the calls of the two mains do alike, in either direction; what is told has the bytes that are printed.
use Rattle.std.proofs.Common.{◌≡◌, ℕ, ◌+◌, ◌*◌, ◌≤◌, Bool, true, false, List, [], ◌∷◌, ◌++◌, Some, None, refl, sym, ap, ◌∙◌, subst, arith, le_refl, ◌⊎◌, inl, inr, ℤ}
use Rattle.std.proofs.lemmas.List.{append-nil}
use Rattle.rx_meaning.specs.declared.outcome.End.{End}
use Rattle.rx_meaning.specs.declared.outcome.Outcome.{Outcome}
use Rattle.rx_meaning.specs.Endings.{Ending, finished, trapped, running, wrong, missing_reference, missing_value, end_of}
use Rattle.rx_meaning.specs.Values.{Value, State}
use Rattle.rx_meaning.specs.Results.{Result, on, jumps, stops}
use Rattle.rx_meaning.specs.Acting.{plainly}
use Rattle.rx_meaning.specs.Expressions.{called}
use Rattle.rx_meaning.specs.Telling.{told_by, Alike, alike_on, alike_jump, alike_stop, SameSaid}
use Rattle.rx_meaning.specs.Programs.{Program, ending_of, outcome_of, begins, run_by, run, ending, IsFront, UpTo}
use Rattle.rx_meaning.proofs.Told.{runs_say}
use Rattle.rx_engine_simulation.proofs.Told.{Told, said, followed}
use Rattle.rx_engine_simulation.proofs.Values.{Pair, Given, none_given}
use Rattle.rx_engine_simulation.proofs.States.{Direction, shorter, longer, TextMayEnd, AnswerMayEnd, Allowance, gain, Turns, Facts, Renaming, Frozen, StatesAlike}
use Rattle.rx_engine_simulation.proofs.Results.{Jumping, ResultsAlike, both_on, both_jump, both_stop, text_cut, answer_cut}
use Rattle.rx_engine_simulation.proofs.Calls.{whole_jumps}
use Rattle.rx_engine_simulation.proofs.Congruence.{OpensAlike, nothing_opens, calls_up_to}
use Rattle.rx_engine_simulation.specs.Openings.{Openings, no_openings}
use Rattle.rx_engine_simulation.specs.Programs.{LikePrograms, Renamed}
use Rattle.rx_engine_simulation.specs.Astray.{WentAstray, OrAstray}

-- ---- outcomes

abbrev outcome_by : Result (Told ℕ) Value → Outcome
outcome_by (on w v s) = record { printed = said w; end = end_of finished }
outcome_by (jumps w x v s) = record { printed = said w; end = end_of (wrong missing_value) }
outcome_by (stops w e) = record { printed = said w; end = end_of e }

same_outcome : (r' : Result ℕ Value) (r : Result (Told ℕ) Value) → Alike SameSaid r' r → outcome_by r ≡ outcome_of r'
same_outcome _ _ (alike_on t) = ap (λ w. record { printed = w; end = end_of finished }) (sym t)
same_outcome _ _ (alike_jump t) = ap (λ w. record { printed = w; end = end_of (wrong missing_value) }) (sym t)
same_outcome _ _ (alike_stop {e = e} t) = ap (λ w. record { printed = w; end = end_of e }) (sym t)

told_is_printed : (P : Program) (given : List ℤ) (n : ℕ) → outcome_by (run_by followed P given n) ≡ run P given n
told_is_printed P given n = same_outcome _ _ (runs_say plainly P given n)

printed_by : (r : Result (Told ℕ) Value) → said (told_by r) ≡ (outcome_by r).printed
printed_by (on w v s) = refl
printed_by (jumps w x v s) = refl
printed_by (stops w e) = refl

printed_of : (r : Result ℕ Value) → told_by r ≡ (outcome_of r).printed
printed_of (on w v s) = refl
printed_of (jumps w x v s) = refl
printed_of (stops w e) = refl

abbrev outcome : List ℕ → End → Outcome
outcome w e = record { printed = w; end = e }

ended : (w w' : List ℕ) (e e' : End) → w ≡ w' → e ≡ e' → outcome w e ≡ outcome w' e'
ended w w' e e' p q = cc

-- where it may, the answer went astray
abbrev Unless : Bool → Result (Told ℕ) Value → Result ℕ Value → Type 0 → Type 0
Unless may r r' A = A ⊎ WentAstray may (outcome_of r') (outcome_by r) (ending_of r')

module _ (V : Facts) (g : Allowance) (R : Renaming) (Z Z' : Frozen) (J : Jumping) (W : List Pair → Value → Value → Type 0) (c : ℕ) (j : List Pair) (s s' : State) where
  longer_ended : (r : Result (Told ℕ) Value) (o' : List ℕ) (e : Ending) → AnswerMayEnd (longer g) e → IsFront o' (said (told_by r)) → Unless g.strays r (stops o' e) (UpTo (outcome_by r) (outcome_of (stops o' e)))
  longer_ended r o' running m f = absurd m
  longer_ended r o' (wrong missing_reference) m f = inr (record { can = m; ends = refl; front = (f.0, sym (printed_by r) ∙ f.1) })
  longer_ended r o' (wrong w) m f = absurd m
  longer_ended r o' finished m f = absurd m
  longer_ended r o' (trapped t) m f = absurd m

  text_longer : (o : List (Told ℕ)) (e : Ending) (r' : Result ℕ Value) → TextMayEnd (longer g) e → IsFront (said o) (told_by r') → Unless g.strays (stops o e) r' (UpTo (outcome_by (stops o e)) (outcome_of r'))
  text_longer o running r' m f = inl (inr (refl, (f.0, sym (printed_of r') ∙ f.1)))
  text_longer o (wrong w) r' m f = absurd m
  text_longer o finished r' m f = absurd m
  text_longer o (trapped t) r' m f = absurd m

  longer_outcome : (r : Result (Told ℕ) Value) (r' : Result ℕ Value) → ResultsAlike V (longer g) R Z Z' J W c [] j s s' r r' → Unless g.strays r r' (UpTo (outcome_by r) (outcome_of r'))
  longer_outcome r r' (both_on j1 f w z) = inl (inl (ended _ _ _ _ f refl))
  longer_outcome r r' (both_jump j1 f w z) = inl (inl (ended _ _ _ _ f refl))
  longer_outcome r r' (both_stop f e) = inl (inl (ended _ _ _ _ f e))
  longer_outcome r r' (text_cut {o = o} {e = e} m f) = text_longer o e r' m f
  longer_outcome r r' (answer_cut {o' = o'} {e = e} m f) = longer_ended r o' e m f

  shorter_ended : (r : Result (Told ℕ) Value) (o' : List ℕ) (e : Ending) → AnswerMayEnd (shorter g) e → IsFront o' (said (told_by r)) → Unless g.strays r (stops o' e) (UpTo (outcome_of (stops o' e)) (outcome_by r))
  shorter_ended r o' running m f = inl (inr (refl, (f.0, sym (printed_by r) ∙ f.1)))
  shorter_ended r o' (wrong missing_reference) m f = inr (record { can = m; ends = refl; front = (f.0, sym (printed_by r) ∙ f.1) })
  shorter_ended r o' (wrong w) m f = absurd m
  shorter_ended r o' finished m f = absurd m
  shorter_ended r o' (trapped t) m f = absurd m

  text_shorter : (o : List (Told ℕ)) (e : Ending) (r' : Result ℕ Value) → TextMayEnd (shorter g) e → IsFront (said o) (told_by r') → Unless g.strays (stops o e) r' (UpTo (outcome_of r') (outcome_by (stops o e)))
  text_shorter o running r' m f = absurd m
  text_shorter o (wrong w) r' m f = absurd m
  text_shorter o finished r' m f = absurd m
  text_shorter o (trapped t) r' m f = absurd m

  shorter_outcome : (r : Result (Told ℕ) Value) (r' : Result ℕ Value) → ResultsAlike V (shorter g) R Z Z' J W c [] j s s' r r' → Unless g.strays r r' (UpTo (outcome_of r') (outcome_by r))
  shorter_outcome r r' (both_on j1 f w z) = inl (inl (ended _ _ _ _ (sym f) refl))
  shorter_outcome r r' (both_jump j1 f w z) = inl (inl (ended _ _ _ _ (sym f) refl))
  shorter_outcome r r' (both_stop f e) = inl (inl (ended _ _ _ _ (sym f) (sym e)))
  shorter_outcome r r' (text_cut {o = o} {e = e} m f) = text_shorter o e r' m f
  shorter_outcome r r' (answer_cut {o' = o'} {e = e} m f) = shorter_ended r o' e m f

-- ---- the runs

abbrev nothing_frozen : Frozen
nothing_frozen = record { kept = λ i v. ⊥; anchored = λ x i. ⊥ }

-- nothing is known of what calls `main`
abbrev no_facts : Facts
no_facts = record { Good = λ h. Unit {0}; older = λ a h g. tt; Comes = λ q h. Unit {0}; within = λ i k. tt; Special = λ x. ⊥; Asked = λ x h. ⊥; untouched = λ a h x e g w t. e }

none_some : {A : Type 0} {a : A} → None ≡ Some a → ⊥
none_some e = cc

states_begin : (given : List ℤ) (n n' : ℕ) → StatesAlike no_facts [] nothing_frozen nothing_frozen [] [] (begins given n) (begins given n')
states_begin given n n' = record {
  input = refl;
  paired = record { same = λ p i. absurd i; once = λ p q i. absurd i; once' = λ p q i. absurd i; frozen = λ i v z. absurd z; frozen' = λ i v z. absurd z; thawed = λ p i. absurd i; thawed' = λ p i. absurd i };
  framed = record { below = λ x i e. absurd (none_some e); apart = λ x y i e f. absurd (none_some e) };
  framed' = record { below = λ x i e. absurd (none_some e); apart = λ x y i e f. absurd (none_some e) };
  names = λ x y e f g. absurd (none_some g);
  binds = λ x e f. absurd (none_some f);
  written = λ x i e. absurd (none_some e);
  slotted = λ x w. absurd w;
  anchors = λ x i e. absurd e;
}

module _ (items : ℕ → ℕ) (O : Openings) (P Q : Program) where
  mains_alike : (d : Direction) → OpensAlike items P.functions Q.functions d O → LikePrograms items O (gain d) P Q → (given : List ℤ) (n n' : ℕ) → Turns d 0 n n'
      → ResultsAlike no_facts d [] nothing_frozen nothing_frozen whole_jumps Given 0 [] [] (begins given n) (begins given n') (run_by followed P given n) (run_by plainly Q given n')
  mains_alike d open_alike like given n n' t =
      subst (λ f. ResultsAlike no_facts d [] nothing_frozen nothing_frozen whole_jumps Given 0 [] [] (begins given n) (begins given n') (run_by followed P given n) (called plainly Q.functions n' f [] (begins given n'))) (sym like.mains)
      ((calls_up_to items P.functions Q.functions d O like.all open_alike n' n' (le_refl n')).call_all no_facts n 0 P.main whole_jumps [] nothing_frozen nothing_frozen [] [] [] [] (begins given n) (begins given n') none_given
      (record { inv = states_begin given n n'; turns = t; low = le_refl n; low' = le_refl n'; known = λ x i e. absurd e }) tt)

  -- the text's run, without what it tells of its actions
  plain_text : (may : Bool) (given : List ℤ) (n n' : ℕ) (A : Outcome → Type 0) → A (outcome_by (run_by followed P given n)) ⊎ WentAstray may (run Q given n') (outcome_by (run_by followed P given n)) (ending Q given n')
      → OrAstray may P Q given n n' (A (run P given n))
  plain_text may given n n' A u = subst (λ o. A o ⊎ WentAstray may (run Q given n') o (ending Q given n')) (told_is_printed P given n) u

  -- where what is put in place of special parts does alike, the answer is up to the text, and the text to the answer with more turns
  pub answer_up_to_text : (g : Allowance) → OpensAlike items P.functions Q.functions (shorter g) O → LikePrograms items O g P Q → (given : List ℤ) (n : ℕ) → OrAstray g.strays P Q given n n (UpTo (run Q given n) (run P given n))
  answer_up_to_text g open_alike like given n =
      plain_text g.strays given n n (λ o. UpTo (run Q given n) o) (shorter_outcome no_facts g [] nothing_frozen nothing_frozen whole_jumps Given 0 [] _ _ _ _ (mains_alike (shorter g) open_alike like given n n (le_refl n)))

  pub text_up_to_answer : (g : Allowance) → OpensAlike items P.functions Q.functions (longer g) O → LikePrograms items O g P Q → (given : List ℤ) (n : ℕ) → OrAstray g.strays P Q given n (n + n * g.turns) (UpTo (run P given n) (run Q given (n + n * g.turns)))
  text_up_to_answer g open_alike like given n =
      plain_text g.strays given n (n + n * g.turns) (λ o. UpTo o (run Q given (n + n * g.turns)))
      (longer_outcome no_facts g [] nothing_frozen nothing_frozen whole_jumps Given 0 [] _ _ _ _ (mains_alike (longer g) open_alike like given n (n + n * g.turns) (same (n * g.turns))))
    where
      same : (x : ℕ) → n + x + 0 ≤ n + x
      same x = omega arith

-- ---- without an opening

no_turns : (n : ℕ) → n + n * 0 ≡ n
no_turns n = omega arith

-- outcomes that are up to each other are the same
both_ways : (a b : Outcome) → UpTo a b → UpTo b a → a ≡ b
both_ways a b (inl e) h = e
both_ways a b (inr f) (inl e) = sym e
both_ways a b (inr f) (inr g) =
    let e : (a.printed ++ f.1.0) ++ g.1.0 ≡ a.printed = ap (λ w. w ++ g.1.0) (sym f.1.1) ∙ sym g.1.1 in
    ended_alike (shorter_front a.printed f.1.0 g.1.0 e)
  where
    shorter_front : (w x y : List ℕ) → (w ++ x) ++ y ≡ w → x ≡ []
    shorter_front [] [] y e = refl
    shorter_front [] (b ∷ x) y e = absurd (cc)
    shorter_front (c ∷ w) x y e = shorter_front w x y (tails e)
      where
        tails : c ∷ ((w ++ x) ++ y) ≡ c ∷ w → (w ++ x) ++ y ≡ w
        tails e = cc

    ended_alike : f.1.0 ≡ [] → a ≡ b
    ended_alike e = ended a.printed b.printed a.end b.end (sym (f.1.1 ∙ ap (λ x. a.printed ++ x) e ∙ append-nil a.printed)) (f.0 ∙ sym g.0)

-- it may not go astray
never_astray : {A : Type 0} {o o' : Outcome} {e : Ending} → A ⊎ WentAstray false o o' e → A
never_astray (inl a) = a
never_astray (inr w) = absurd (false_true w.can)
  where
    false_true : false ≡ true → ⊥
    false_true e = cc

abbrev alone : Allowance
alone = record { turns = 0; strays = false }

-- in both directions, without turns of its own and without going astray, it is the text
pub alike_alone : (items : ℕ → ℕ) (O : Openings) (P Q : Program) → ((d : Direction) → OpensAlike items P.functions Q.functions d O) → LikePrograms items O alone P Q → (given : List ℤ) (n : ℕ) → run Q given n ≡ run P given n
alike_alone items O P Q open_alike alike given n =
    both_ways (run Q given n) (run P given n) (never_astray (answer_up_to_text items O P Q alone (open_alike (shorter alone)) alike given n))
    (subst (λ k. UpTo (run P given n) (run Q given k)) (no_turns n) (never_astray (text_up_to_answer items O P Q alone (open_alike (longer alone)) alike given n)))

pub renamed_alike : (P Q : Program) → Renamed P Q → (given : List ℤ) (n : ℕ) → run Q given n ≡ run P given n
renamed_alike P Q r given n = alike_alone r.items no_openings P Q (λ d. nothing_opens r.items P.functions Q.functions d) r.alike given n
