-- Values with others in the place of parts.
use Rattle.std.proofs.Common.{◌≡◌, ℕ, zero, suc, ◌+◌, ◌<◌, ◌≤◌, List, [], ◌∷◌, ◌++◌, length, take, drop, slice_get, Option, None, Some, option_map, if◌then◌else◌, refl, sym, ap, ◌∙◌, arith, length-drop, append_assoc, eq-eqb}
use Rattle.std.proofs.lemmas.List.{take_all}
use Rattle.std.specs.Prelude.{Result, Ok, Err, IfOk}
use Rattle.rx_core.specs.declared.types.Step.{Step}
use Rattle.rx_meaning.specs.Values.{Value, Values, whole, tagged, and_then, part, with_part, with_field, get, put}
use Rattle.rx_machine_values.specs.declared.value.Value as code
use Rattle.rx_machine_values.specs.PlainValues.{plain-Value}
use Rattle.rx_machine_values.specs.Rows.{Node, values_in, begins, first_value, replaced}
use Rattle.rx_machine_values.specs.Writes.{with_this, with_step, changed_at}
use Rattle.rx_machine_values.proofs.RowLemmas.{IsRow, field_is, replaced_is}

-- ---- a field

pub field_replaced : (i j : ℕ) (ns row : List Node) (w x : Value) → begins i ns ≡ Some j → j < length ns → IsRow row w → x ≡ whole (values_in (replaced ns j row)) → Some x ≡ with_this (whole (values_in ns)) (Step.Field i) w
field_replaced i j ns row w x e l h is =
    ap Some (is ∙ ap whole (replaced_is i j ns row w e h))
    ∙ sym (ap (λ o. and_then o (λ u. Some (whole (with_field (values_in ns) i w)))) (field_is i ns ∙ ap (λ o. and_then o (λ k. first_value (drop k ns))) e) ∙ by (drop j ns) (let d = length-drop j ns in omega (arith, l, d)))
  where
    by : (ms : List Node) → 0 < length ms → and_then (first_value ms) (λ u. Some (whole (with_field (values_in ns) i w))) ≡ Some (whole (with_field (values_in ns) i w))
    by [] l = absurd (omega (arith, l))
    by (m ∷ ms) l = refl

pub field_missing : (i : ℕ) (ns : List Node) (w : Value) → begins i ns ≡ None → None ≡ with_this (whole (values_in ns)) (Step.Field i) w
field_missing i ns w e = sym (ap (λ o. and_then o (λ u. Some (whole (with_field (values_in ns) i w)))) (field_is i ns ∙ ap (λ o. and_then o (λ k. first_value (drop k ns))) e))

-- what is written in three steps
pub three : (none one two all a b c : List Node) → none ≡ [] → one ≡ none ++ a → two ≡ one ++ b → all ≡ two ++ c → all ≡ a ++ (b ++ c)
three none one two all a b c e f g h = h ∙ ap (λ l. l ++ c) (g ∙ ap (λ l. l ++ b) (f ∙ ap (λ l. l ++ a) e)) ∙ append_assoc a b c

-- ---- a variant

variant_with : (t j : ℕ) (vs : Values) (w : Value) → t ≡ j → with_this (tagged t vs) (Step.Variant j) w ≡ with_part (tagged t vs) (Step.Variant t) w
variant_with t j vs w e =
    ap (λ i. with_this (tagged t vs) (Step.Variant i) w) (sym e)
    ∙ ap (λ b. and_then (if b then Some (whole vs) else None) (λ u. with_part (tagged t vs) (Step.Variant t) w)) (eq-eqb t t refl)

pub tagged_ok : {E : Type 0} (t j : ℕ) (s : Step) (w : Value) (r : Result (Option code.Value) E) → s ≡ Step.Variant j → t ≡ j → IfOk r (λ it. (vs : Values) → option_map plain-Value it ≡ with_part (tagged t vs) (Step.Variant t) w)
    → IfOk r (λ it. (vs : Values) → option_map plain-Value it ≡ with_this (tagged t vs) s w)
tagged_ok t j s w (Ok it) f e h = λ vs. h vs ∙ sym (ap (λ x. with_this (tagged t vs) x w) f ∙ variant_with t j vs w e)
tagged_ok t j s w (Err x) f e h = tt

-- ---- the last step of a path

put_last : (p : List Step) (s : Step) (w v : Value) → put (p ++ s ∷ []) w v ≡ and_then (with_step v p s w) (λ x. put p x v)
put_last [] s w v = by (part v s)
  where
    by : (o : Option Value) → and_then o (λ u. and_then (Some w) (λ x. with_part v s x)) ≡ and_then (and_then o (λ u. with_part v s w)) (λ x. Some x)
    by None = refl
    by (Some u) = same (with_part v s w)
      where
        same : (o : Option Value) → o ≡ and_then o (λ x. Some x)
        same None = refl
        same (Some x) = refl
put_last (t ∷ p) s w v = by (part v t) (put_last p s w)
  where
    by : (o : Option Value) → ((u : Value) → put (p ++ s ∷ []) w u ≡ and_then (with_step u p s w) (λ x. put p x u))
        → and_then o (λ u. and_then (put (p ++ s ∷ []) w u) (λ x. with_part v t x))
        ≡ and_then (and_then (and_then o (λ u. get p u)) (λ u. with_this u s w)) (λ x. and_then o (λ u. and_then (put p x u) (λ y. with_part v t y)))
    by None k = refl
    by (Some u) k = ap (λ r. and_then r (λ x. with_part v t x)) (k u) ∙ nested (with_step u p s w)
      where
        nested : (o : Option Value) → and_then (and_then o (λ x. put p x u)) (λ x. with_part v t x) ≡ and_then o (λ x. and_then (put p x u) (λ y. with_part v t y))
        nested None = refl
        nested (Some x) = refl

-- what is left to put, where the last steps are done
abbrev pub Putting : List Step → Value → Value → ℕ → Value → Type 0
Putting p w v turn x = (k : ℕ) → k + turn ≡ length p → put p w v ≡ put (take k p) x v

pub putting_begins : (p : List Step) (w v : Value) → Putting p w v 0 w
putting_begins p w v k e = ap (λ q. put q w v) (sym (take_all k p (omega (arith, e))))

splits : (p : List Step) (i : ℕ) → i < length p → (s : Step) × (slice_get p i ≡ Some s) × (take (suc i) p ≡ take i p ++ s ∷ [])
splits [] i l = absurd (omega (arith, l))
splits (s ∷ p) zero l = (s, refl, refl)
splits (s ∷ p) (suc i) l = let r = splits p i (omega (arith, l)) in (r.0, r.1, ap (λ q. s ∷ q) r.2)

module _ (p : List Step) (w v x : Value) (turn last : ℕ) (h : Putting p w v turn x) (e : last + (turn + 1) ≡ length p) where
  next_is : put p w v ≡ and_then (changed_at v p last x) (λ y. put (take last p) y v)
  next_is =
      h (suc last) (omega (arith, e)) ∙ ap (λ q. put q x v) there.2 ∙ put_last (take last p) there.0 x v
      ∙ ap (λ o. and_then (and_then o (λ s. with_step v (take last p) s x)) (λ y. put (take last p) y v)) (sym there.1)
    where
      there : (s : Step) × (slice_get p last ≡ Some s) × (take (suc last) p ≡ take last p ++ s ∷ [])
      there = splits p last (omega (arith, e))

  pub putting_goes_on : (y : Value) → Some y ≡ changed_at v p last x → Putting p w v (turn + 1) y
  putting_goes_on y f k g = next_is ∙ sym (ap (λ o. and_then o (λ z. put (take last p) z v)) f) ∙ (let j : last ≡ k = omega (arith, e, g) in ap (λ n. put (take n p) y v) j)

  pub putting_fails : None ≡ changed_at v p last x → None ≡ put p w v
  putting_fails f = sym (next_is ∙ sym (ap (λ o. and_then o (λ z. put (take last p) z v)) f))

pub putting_ends : (p : List Step) (w v x : Value) (turn : ℕ) → length p ≤ turn → turn ≤ length p → Putting p w v turn x → Some x ≡ put p w v
putting_ends p w v x turn a b h = sym (h 0 (omega (arith, a, b)))
