-- Behind a run the call binds, of the words of the text, what the run binds and is used there: what is redeclared, and what is handed out of
-- what the run declares; the other names that it binds are fresh.
use Rattle.std.proofs.Common.{◌≡◌, ℕ, suc, ◌+◌, ◌≤◌, ◌^◌, Bool, true, false, ◌||◌, if◌then◌else◌, List, [], ◌∷◌, ◌++◌, length, refl, sym, ap, ◌∙◌, subst, arith, bytes_eq}
use Rattle.std.proofs.lemmas.Slice.Eq.{bytes_eq-Decides}
use Rattle.rx_tree.specs.Lists.{Every, statements, tail}
use Rattle.rx_tree.specs.Plain.{Function, ProgramTree, Statement}
use Rattle.rx_hoist_extraction.specs.Names.{behind_all, bound_by, declared_by, is_among, Names}
use Rattle.rx_hoist_extraction.specs.Run.{as_statements, behind, chosen, labels_round, Run, run_block, run_parts}
use Rattle.rx_hoist_extraction.specs.Plan.{names_of, Plan, Variable}
use Rattle.rx_hoist_extraction.specs.Values.{held_by, next_values, result_of, Value}
use Rattle.rx_hoist_extraction.specs.Fresh.{fresh_variable}
use Rattle.rx_hoist_extraction.specs.Call.{is_own}
use Rattle.rx_engine_names.specs.Placed.{Agree, agreed}
use Rattle.rx_engine_names.specs.HandsOver.{handed_names, received_names}
use Rattle.rx_engine_names.specs.CalledRuns.{BehindAgrees, call_parts}
use Rattle.rx_engine_names.proofs.BoundByCalls.{bound_by_call}
use Rattle.rx_engine_names.proofs.Scoped.{among_append}
use Rattle.rx_engine_called.specs.Tells.{BehindTells, held_names, told_behind}
use Rattle.rx_engine_called.proofs.Received.{word_is_not}
use Rattle.rx_engine_called.proofs.Weaker.{optional_weaker, statements_weaker, Weaker}

clash : true ≡ false → ⊥
clash e = cc

or_turn : (a b c : Bool) → (a || (b || c)) ≡ ((b || a) || c)
or_turn true true c = refl
or_turn true false c = refl
or_turn false true c = refl
or_turn false false c = refl

neither : (a b : Bool) → a ≡ false → b ≡ false → (a || b) ≡ false
neither true b d e = absurd (cc)
neither false b d e = e

or_first : (a b : Bool) → a ≡ true → (a || b) ≡ true
or_first true b e = refl
or_first false b e = absurd (cc)

or_second : (a b : Bool) → b ≡ true → (a || b) ≡ true
or_second true b e = refl
or_second false b e = e

or_last : (a : Bool) → (a || false) ≡ a
or_last true = refl
or_last false = refl

-- ---- what the run binds: the names that its statements declare

among_declared : (x : List ℕ) (own : Names) (ss : List Statement) → is_among x (behind_all own (as_statements ss)) ≡ (is_among x (declared_by ss) || is_among x own)
among_declared x own [] = refl
among_declared x own (a ∷ ss) =
    among_declared x (bound_by a ++ own) ss ∙ ap (λ (b : Bool). is_among x (declared_by ss) || b) (among_append x (bound_by a) own)
    ∙ or_turn (is_among x (declared_by ss)) (is_among x (bound_by a)) (is_among x own) ∙ ap (λ (b : Bool). b || is_among x own) (sym (among_append x (bound_by a) (declared_by ss)))

-- ---- what the call binds

module _ (pl : Plan) (own : Names) (x : List ℕ) where
  abbrev ids : Names
  ids = pl.identifiers

  -- a name that the run declares
  same_own : (v : Variable) → bytes_eq x v.name ≡ true → is_among x own ≡ is_own own v
  same_own v e = ap (λ (y : List ℕ). is_among y own) ((bytes_eq-Decides x v.name).0 e)

  has_received : (i : ℕ) (hs : List Value) → is_among x own ≡ true → is_among x (held_names hs) ≡ true → is_among x (received_names pl own i hs) ≡ true
  has_received i [] o h = h
  has_received i (result_of t ∷ hs) o h = or_second (bytes_eq x (fresh_variable ids i)) (is_among x (received_names pl own (suc i) hs)) (has_received (suc i) hs o h)
  has_received i (held_by v ∷ hs) o h = by (bytes_eq x v.name) refl h (has_received (suc i) hs o)
    where
      by : (b : Bool) → bytes_eq x v.name ≡ b → (b || is_among x (held_names hs)) ≡ true → (is_among x (held_names hs) ≡ true → is_among x (received_names pl own (suc i) hs) ≡ true)
          → (bytes_eq x (if is_own own v then v.name else fresh_variable ids i) || is_among x (received_names pl own (suc i) hs)) ≡ true
      by true e h rest =
          subst (λ (b : Bool). (bytes_eq x (if b then v.name else fresh_variable ids i) || is_among x (received_names pl own (suc i) hs)) ≡ true) (sym o ∙ same_own v e)
          (or_first (bytes_eq x v.name) (is_among x (received_names pl own (suc i) hs)) e)
      by false e h rest = or_second (bytes_eq x (if is_own own v then v.name else fresh_variable ids i)) (is_among x (received_names pl own (suc i) hs)) (rest h)

  has_handed : (hs : List Value) → is_among x own ≡ true → is_among x (held_names hs) ≡ true → is_among x (handed_names pl own hs) ≡ true
  has_handed [] o h = h
  has_handed (result_of t ∷ []) o h = h
  has_handed (held_by v ∷ []) o h = by (bytes_eq x v.name) refl h
    where
      by : (b : Bool) → bytes_eq x v.name ≡ b → (b || false) ≡ true → is_among x (if is_own own v then v.name ∷ [] else []) ≡ true
      by true e h = subst (λ (b : Bool). is_among x (if b then v.name ∷ [] else []) ≡ true) (sym o ∙ same_own v e) (or_first (bytes_eq x v.name) false e)
      by false e h = absurd (cc)
  has_handed (h ∷ i ∷ hs) o k = has_received 0 (h ∷ i ∷ hs) o k

  -- a word that the run doesn't declare
  not_that : (v : Variable) → is_among x own ≡ false → is_own own v ≡ true → bytes_eq x v.name ≡ false
  not_that v o w = by (bytes_eq x v.name) refl
    where
      by : (b : Bool) → bytes_eq x v.name ≡ b → bytes_eq x v.name ≡ false
      by true e = absurd (clash (sym w ∙ sym (same_own v e) ∙ o))
      by false e = e

  none_redeclared : (vs : List Variable) → is_among x own ≡ false → Every (λ (v : Variable). is_own own v ≡ true) vs → is_among x (names_of vs) ≡ false
  none_redeclared [] o h = refl
  none_redeclared (v ∷ vs) o h = neither (bytes_eq x v.name) (is_among x (names_of vs)) (not_that v o h.0) (none_redeclared vs o h.1)

  none_received : (i : ℕ) (hs : List Value) → length ids + (i + length hs) ≤ 2 ^ 64 → is_among x own ≡ false → is_among x ids ≡ true → is_among x (received_names pl own i hs) ≡ false
  none_received i [] l o w = refl
  none_received i (result_of t ∷ hs) l o w =
      neither (bytes_eq x (fresh_variable ids i)) (is_among x (received_names pl own (suc i) hs)) (word_is_not pl own x i (omega (arith, l)) w) (none_received (suc i) hs (omega (arith, l)) o w)
  none_received i (held_by v ∷ hs) l o w = by (is_own own v) refl (none_received (suc i) hs (omega (arith, l)) o w)
    where
      by : (b : Bool) → is_own own v ≡ b → is_among x (received_names pl own (suc i) hs) ≡ false → (bytes_eq x (if b then v.name else fresh_variable ids i) || is_among x (received_names pl own (suc i) hs)) ≡ false
      by true e r = neither (bytes_eq x v.name) (is_among x (received_names pl own (suc i) hs)) (not_that v o e) r
      by false e r = neither (bytes_eq x (fresh_variable ids i)) (is_among x (received_names pl own (suc i) hs)) (word_is_not pl own x i (omega (arith, l)) w) r

  none_handed : (hs : List Value) → length ids + length hs ≤ 2 ^ 64 → is_among x own ≡ false → is_among x ids ≡ true → is_among x (handed_names pl own hs) ≡ false
  none_handed [] l o w = refl
  none_handed (result_of t ∷ []) l o w = refl
  none_handed (held_by v ∷ []) l o w = by (is_own own v) refl
    where
      by : (b : Bool) → is_own own v ≡ b → is_among x (if b then v.name ∷ [] else []) ≡ false
      by true e = neither (bytes_eq x v.name) false (not_that v o e) refl
      by false e = refl
  none_handed (h ∷ i ∷ hs) l o w = none_received 0 (h ∷ i ∷ hs) (omega (arith, l)) o w

-- ---- both

module _ (P : ProgramTree) (r : Run) (pl : Plan) (g : Function) (few : length pl.identifiers + length (next_values pl) ≤ 2 ^ 64) (redeclared : Every (λ (v : Variable). is_own (declared_by (run_parts r g).statements) v ≡ true) pl.redeclared) where
  abbrev run : List Statement
  run = chosen r (statements (run_block r g))

  abbrev own : Names
  own = declared_by run

  binds_run : (x : List ℕ) → is_among x (behind_all [] (as_statements run)) ≡ is_among x own
  binds_run x = among_declared x [] run ∙ or_last (is_among x own)

  abbrev Given : List ℕ → Bool
  Given x = is_among x (names_of pl.redeclared) || is_among x (handed_names pl own (next_values pl))

  binds_call : (x : List ℕ) → is_among x (behind_all [] (as_statements (call_parts P r pl g).statements)) ≡ Given x
  binds_call x = bound_by_call P pl r.span own (labels_round r g) x

  agrees_by : (x : List ℕ) (b : Bool) → is_among x own ≡ b → Given x ≡ b → Agree run (call_parts P r pl g).statements x
  agrees_by x b o c = binds_run x ∙ o ∙ sym c ∙ sym (binds_call x)

  not_declared : (x : List ℕ) → is_among x own ≡ false → is_among x pl.identifiers ≡ true → Agree run (call_parts P r pl g).statements x
  not_declared x o w =
      agrees_by x false o (neither (is_among x (names_of pl.redeclared)) (is_among x (handed_names pl own (next_values pl))) (none_redeclared pl own x pl.redeclared o redeclared) (none_handed pl own x (next_values pl) few o w))

  is_declared : (x : List ℕ) → is_among x own ≡ true → is_among x (names_of pl.redeclared ++ held_names (next_values pl)) ≡ true → Agree run (call_parts P r pl g).statements x
  is_declared x o h = agrees_by x true o (by (is_among x (names_of pl.redeclared)) (sym (among_append x (names_of pl.redeclared) (held_names (next_values pl))) ∙ h))
    where
      by : (b : Bool) → (b || is_among x (held_names (next_values pl))) ≡ true → (b || is_among x (handed_names pl own (next_values pl))) ≡ true
      by true e = refl
      by false e = has_handed pl own x (next_values pl) o e

  used_agrees : (x : List ℕ) → is_among x pl.identifiers ≡ true → (is_among x own ≡ true → is_among x (names_of pl.redeclared ++ held_names (next_values pl)) ≡ true) → Agree run (call_parts P r pl g).statements x
  used_agrees x w h = by (is_among x own) refl
    where
      by : (b : Bool) → is_among x own ≡ b → Agree run (call_parts P r pl g).statements x
      by true o = is_declared x o (h o)
      by false o = not_declared x o w

  weaker : Weaker (told_behind pl own) (agreed run (call_parts P r pl g).statements)
  weaker = record {
    name = λ x h. not_declared x h.1 h.0;
    variable = λ since x h e. let k = h e in used_agrees x k.0 k.1;
    broken = λ since ls l h. tt;
    continued = λ since ls l h. tt;
    returned = λ h. tt;
    annotation = λ y h. tt;
    block = λ since ls b h. tt;
  }

  pub behind_agrees : BehindTells r pl g → BehindAgrees P r pl g
  behind_agrees h =
      let rest = behind r (statements (run_block r g)) in
      let N = told_behind pl own in
      let M = agreed run (call_parts P r pl g).statements in
      (statements_weaker N M weaker [] [] (as_statements rest) h.0, optional_weaker N M weaker (behind_all [] (as_statements rest)) [] (tail (run_block r g)) h.1)
