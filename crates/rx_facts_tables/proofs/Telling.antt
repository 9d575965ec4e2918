-- Least tables of facts, told by ways.
use Rattle.std.proofs.Common.{ℕ, List, [], length, sym, ap, subst, ◌↔◌, arith}
use Rattle.std.proofs.lemmas.List.{length-map}
use Rattle.rx_lower_walks.specs.Graph.{Site}
use Rattle.rx_graph.specs.declared.effect.Effect.{Effect}
use Rattle.rx_graph.specs.declared.effect.Start.{Start}
use Rattle.rx_graph.specs.Facts.{has, Holds}
use Rattle.rx_graph.specs.Tables.{Tells}
use Rattle.rx_facts_tables.specs.Along.{HoldsAt}
use Rattle.rx_facts_tables.specs.Turning.{Turned}
use Rattle.rx_facts_tables.specs.Tracking.{Tracks, Foresees}
use Rattle.rx_facts_tables.proofs.Ways.{site_within}
use Rattle.rx_facts_tables.proofs.Forward.{holds_along}
use Rattle.rx_facts_tables.proofs.Backward.{holds_ahead}

abbrev pub starting : List ℕ → Start
starting fs = record { site = 0; facts = fs }

one_after : {A B C : Type 0} → A ↔ B → B ↔ C → A ↔ C
one_after p q = ((λ a. q.0 (p.0 a)), λ c. p.1 (q.1 c))

pub tracks : (edges : List (List ℕ)) (effects : List Effect) (fs : List ℕ) (bound : ℕ) (T : List (List ℕ)) → Tells edges effects (starting fs) bound T
    → Tracks edges effects fs bound T
tracks edges effects fs bound T tells = record {
  exact = λ g switches e reached does p i within below. one_after
      (tells.exact p i (omega (arith, within, ap (λ (l : List (List ℕ)). length l) e, length-map g (λ (s : Site). s.next))) below)
      (subst (λ l. Holds l effects (starting fs) i p ↔ HoldsAt g (switches i) (has fs i) p) (sym e) (holds_along g switches bound effects does fs i below reached p));
}

pub foresees : (edges : List (List ℕ)) (effects : List Effect) (bound : ℕ) (back T : List (List ℕ)) → Turned edges back → Tells back effects (starting []) bound T
    → Foresees edges effects bound T
foresees edges effects bound back T turned tells = record {
  exact = λ g switches e does p i s is below. one_after
      (tells.exact p i (omega (arith, site_within g p s is, ap (λ (l : List (List ℕ)). length l) e, length-map g (λ (s : Site). s.next), turned.count)) below)
      (holds_ahead g switches bound effects does back (subst (λ l. Turned l back) e turned) i below p s is);
}
