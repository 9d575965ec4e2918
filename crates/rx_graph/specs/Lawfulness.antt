-- Facts by effects have the laws of facts: the lemmas of an impl's law, which imports from specs alone.
use Rattle.std.proofs.Common.{◌≡◌, ℕ, ◌*◌, ◌≤◌, Bool, true, false, not, ◌&&◌, ◌||◌, List, slice_get, refl, sym, subst, ◌∙◌}
use Rattle.rx_graph_bits.specs.Rows.{holds, rank}
use Rattle.rx_graph.specs.declared.effect.Effect.{Effect}
use Rattle.rx_graph.specs.declared.effect.Start.{Start}
use Rattle.rx_graph.specs.Facts.{has, effect_of}
use Rattle.rx_graph.specs.Equations.{Lawful}
use Rattle.rx_graph.specs.ByEffects.{rules}

or_left : (x y : Bool) → x ≡ true → (x || y) ≡ true
or_left true y h = refl
or_left false true h = refl
or_left false false h = h

or_right : (x y : Bool) → y ≡ true → (x || y) ≡ true
or_right true y h = refl
or_right false y h = h

either : (x y : Bool) (Z : Type 0) → (x ≡ true → Z) → (y ≡ true → Z) → (x || y) ≡ true → Z
either true y Z f g h = f refl
either false y Z f g h = g h

grows : (x k a b : Bool) → (a ≡ true → b ≡ true) → (x || (not k && a)) ≡ true → (x || (not k && b)) ≡ true
grows true k a b f h = refl
grows false true a b f h = h
grows false false a b f h = f h

pub lawful : (effects : List Effect) (start : Start) (bound : ℕ) → Lawful (rules effects start bound)
lawful effects start bound = record {
  reflexive = λ a f i w h. h;
  transitive = λ a b c f g i w h. g i w (f i w h);
  joins = λ a b c j. record {
    left = λ i w h. j i ∙ or_left (holds a i) (holds b i) h;
    right = λ i w h. j i ∙ or_right (holds a i) (holds b i) h;
    least = λ d f g i w h. either (holds a i) (holds b i) (holds d i ≡ true) (f i w) (g i w) (sym (j i) ∙ h);
  };
  one_beginning = λ p a b f g i w h. g i w ∙ sym (f i w) ∙ h;
  monotone = λ q a b c d f s t i w h. t i w
      ∙ grows (has (effect_of (slice_get effects q)).gives i) (has (effect_of (slice_get effects q)).kills i) (holds a i) (holds b i) (f i w) (sym (s i w) ∙ h);
  bounded = λ a f. subst (λ n. rank a ≤ 18446744073709551615 * n) f.0 f.1;
}
