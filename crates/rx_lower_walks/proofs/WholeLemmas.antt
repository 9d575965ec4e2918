-- The paths of a graph are the walks, and its sites are the actions that walks hold.
use Rattle.std.proofs.Common.{◌≡◌, ℕ, ◌+◌, ◌<◌, List, [], ◌∷◌, ◌++◌, length, Option, Some, None, refl, sym, ap, ◌∙◌, subst, arith, append_assoc, length-append}
use Rattle.rx_lower_walks.specs.Actions.{Action}
use Rattle.rx_lower_walks.specs.Orders.{leave, Order}
use Rattle.rx_lower_walks.specs.Orders as order
use Rattle.rx_lower_walks.specs.Walks.{Out, on, leaves, fails, stopped, Walk}
use Rattle.rx_lower_walks.specs.Graph.{Site, site_at, Path, stop, Comes}
use Rattle.rx_lower_walks.specs.Pieces.{Way, part, no_exits, graph_of, entries}
use Rattle.rx_lower_walks.proofs.Fits.{append_nil, none_left, HasAt, Splits, split, after, whole}
use Rattle.rx_lower_walks.proofs.Scoped.{walks, part_fits, fronts}
use Rattle.rx_lower_walks.proofs.Settled.{way_of, deads, forth, Back, full, partly, back}
use Rattle.rx_lower_walks.proofs.Reached.{part_reach}

site_front : (pre rest : List Site) (n : Site) → site_at (pre ++ n ∷ rest) (length pre) ≡ Some n
site_front [] rest n = refl
site_front (m ∷ pre) rest n = site_front pre rest n

pub has_all : (xs pre : List Site) → HasAt (pre ++ xs) (length pre) xs
has_all [] pre = tt
has_all (n ∷ xs) pre =
    let e : length (pre ++ n ∷ []) ≡ length pre + 1 = omega (arith, length-append pre (n ∷ [])) in
    let h = subst (λ l. HasAt l (length (pre ++ n ∷ [])) xs) (append_assoc pre (n ∷ []) xs) (has_all xs (pre ++ n ∷ [])) in
    (site_front pre xs n, subst (λ p. HasAt (pre ++ n ∷ xs) p xs) e h)

nothing_left : (o : Out) → deads [] o ≡ []
nothing_left on = refl
nothing_left (leaves (order.breaks n l)) = refl
nothing_left (leaves (order.continues n l)) = refl
nothing_left (leaves (order.returns n)) = refl
nothing_left fails = refl
nothing_left stopped = refl

-- a walk of an order: those of it, and all that begin one
abbrev pub Walked : Order → List Action → Type 0
Walked s w = (rest : List Action) × (o : Out) × Walk s (w ++ rest) o

module _ (s : Order) where
  pub stands : HasAt (graph_of s) 0 (graph_of s)
  stands = has_all (graph_of s) []

  of_back : (us : List Action) (e : Option Way) → Back [] s us e → Walked s us
  of_back us e (full vs o h d c) =
      let z : us ≡ vs = d ∙ ap (λ ds. vs ++ ds) (nothing_left o) ∙ append_nil vs in
      ([], o, subst (λ us. Walk s us o) (sym (append_nil us ∙ z)) h)
  of_back us e (partly vs zs o h d) =
      let z : us ++ zs ≡ vs = d ∙ ap (λ ds. vs ++ ds) (nothing_left o) ∙ append_nil vs in
      (zs, o, subst (λ us. Walk s us o) (sym z) h)

  none_after : (e : Option Way) (vs : List Action) → Path (graph_of s) (after no_exits e) vs → vs ≡ []
  none_after None vs p = none_left (graph_of s) vs p
  none_after (Some q) vs p = none_left (graph_of s) vs p

  of_splits : (us : List Action) → Splits (walks [] s) (graph_of s) no_exits us → Walked s us
  of_splits us (split xs vs e d w p) =
      let z : us ≡ xs = d ∙ ap (λ vs. xs ++ vs) (none_after e vs p) ∙ append_nil xs in
      subst (λ us. Walked s us) (sym z) (of_back xs e (back [] s xs e w))

  pub path_walks : (us : List Action) → Path (graph_of s) (entries s) us → Walked s us
  path_walks us p = of_splits us (whole (walks [] s) (part [] s) (part_fits [] s) (graph_of s) 0 no_exits stands us p)

  pub walk_paths : (us : List Action) → Walked s us → Path (graph_of s) (entries s) us
  walk_paths us w =
      let all : walks [] s (us ++ w.0) (way_of w.1) = forth w.2 [] (us ++ w.0) (sym (append_nil (us ++ w.0)) ∙ ap (λ ds. (us ++ w.0) ++ ds) (sym (nothing_left w.1))) in
      subst (λ us. Path (graph_of s) (entries s) us) (append_nil us)
      ((part_fits [] s).forth (graph_of s) 0 no_exits stands us [] None (fronts [] s us w.0 (us ++ w.0) (way_of w.1) refl all) stop)

  pub size_is : length (graph_of s) ≡ (part [] s).size
  size_is = (part_fits [] s).long 0 no_exits

  pub each_is_reached : (i : ℕ) → i < length (graph_of s) → Comes (graph_of s) (entries s) i
  each_is_reached i lt = (part_reach [] s).holds (graph_of s) 0 no_exits stands i (omega arith) (omega (arith, size_is))
