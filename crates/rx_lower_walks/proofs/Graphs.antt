-- The graph of a flow is that of its order.
use Rattle.std.proofs.Common.{◌≡◌, ℕ, suc, ◌<◌, ◌≤◌, List, [], ◌∷◌, length, map, refl, sym, ap, ◌∙◌, arith}
use mathlib.Core.Path.{fun_ext}
use Rattle.rx_lower_walks.specs.Pieces.{Way, ahead, breaking, continuing, returning, failing, part, no_exits, graph_of}
use Rattle.rx_lower_walks.proofs.WholeLemmas.{size_is}
use Rattle.rx_lower_walks.specs.Flows.{Flow, order_of}
use Rattle.rx_lower_walks.specs.declared.site.Site.{Site}
use Rattle.rx_lower_walks.specs.PlainSite.{plain-Site}
use Rattle.rx_lower_walks.specs.Around.{nothing_around, exits}
use Rattle.rx_lower_walks.specs.Sums.{cap, sum}
use Rattle.rx_lower_walks.specs.Emitted.{emitted}
use Rattle.rx_lower_walks.proofs.Standing.{alone}
use Rattle.rx_lower_walks.proofs.Agrees.{sum_like}
use Rattle.rx_lower_walks.proofs.Same.{flow_is}

pub size_summed : (f : Flow) → (sum nothing_around f).size ≡ cap (part [] (order_of f)).size
size_summed f = (sum_like f alone).size

no_way : exits [] [] [] ≡ no_exits
no_way = fun_ext go
  where
    go : (q : Way) → exits [] [] [] q ≡ []
    go ahead = refl
    go (breaking l) = refl
    go (continuing l) = refl
    go returning = refl
    go failing = refl

graph_emitted : (f : Flow) → (part [] (order_of f)).size < 4294967296 → emitted nothing_around f 0 [] [] ≡ graph_of (order_of f)
graph_emitted f lt = flow_is f alone 0 [] [] (omega (arith, lt)) ∙ ap ((part [] (order_of f)).sites 0) no_way

length_map : (g : List Site) → length (map plain-Site g) ≡ length g
length_map [] = refl
length_map (s ∷ g) = ap suc (length_map g)

pub within_limit : (f : Flow) (n limit : ℕ) (g : List Site) → limit < 4294967296 → n ≡ cap (part [] (order_of f)).size → n ≤ limit
    → map plain-Site g ≡ emitted nothing_around f 0 [] [] → (map plain-Site g ≡ graph_of (order_of f)) × (length g ≤ limit)
within_limit f n limit g small e le h =
    let few : (part [] (order_of f)).size ≤ limit = omega (arith, small, e, le) in
    let same : map plain-Site g ≡ graph_of (order_of f) = h ∙ graph_emitted f (omega (arith, few, small)) in
    let long : length g ≡ (part [] (order_of f)).size = sym (length_map g) ∙ ap length same ∙ size_is (order_of f) in
    (same, omega (arith, long, few))
