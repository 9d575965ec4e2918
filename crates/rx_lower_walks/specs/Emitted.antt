-- The sites of a flow in the order of the text, where it is known what is around it and what follows.
use Rattle.std.specs.Prelude.{ℕ, ◌+◌, ◌==◌, ltb, List, [], ◌∷◌, ◌++◌, length, if◌then◌else◌, Bool}
use Rattle.rx_lower_walks.specs.Actions.{Dead, does}
use Rattle.rx_lower_walks.specs.Orders as orders
use Rattle.rx_lower_walks.specs.Graph.{Site}
use Rattle.rx_lower_walks.specs.Pieces.{Exits, distinct}
use Rattle.rx_lower_walks.specs.Pieces as pieces
use Rattle.rx_lower_walks.specs.Flows.{Flow, nothing, nowhere, act, items, or, leave, passes, Items, last, do_and, ends_and, may_and, else_and}
use Rattle.rx_lower_walks.specs.declared.sums.Way.{Way}
use Rattle.rx_lower_walks.specs.declared.sums.Way.TheVariants.{Ahead, Breaking, Continuing, Returning, Failing}
use Rattle.rx_lower_walks.specs.declared.sums.Begin.{Begin}
use Rattle.rx_lower_walks.specs.declared.sums.Begin.TheVariants.{Starts, Through}
use Rattle.rx_lower_walks.specs.declared.around.Around.{Around}
use Rattle.rx_lower_walks.specs.declared.site.Open.{Open}
use Rattle.rx_lower_walks.specs.declared.site.Stand.{Stand}
use Rattle.rx_lower_walks.specs.Around.{with_variable, with_loop, ended, exits}
use Rattle.rx_lower_walks.specs.Sums.{round, sum, sum_items}

-- the number after so many sites, 0 where there is none
abbrev pub place : ℕ → ℕ → ℕ
place b n = if ltb (b + n) 4294967296 then b + n else 0

abbrev pub way_of : Way → pieces.Way
way_of Ahead = pieces.ahead
way_of (Breaking l) = pieces.breaking l
way_of (Continuing l) = pieces.continuing l
way_of Returning = pieces.returning
way_of Failing = pieces.failing

-- the sites that a part begins at
abbrev pub entered : List Begin → ℕ → Exits → List ℕ
entered [] b k = []
entered (Starts i ∷ bs) b k = place b i ∷ entered bs b k
entered (Through q ∷ bs) b k = k (way_of q) ++ entered bs b k

-- these variables end at this node, one behind the other
abbrev pub dying : ℕ → List ℕ → ℕ → List ℕ → List Site
dying n [] b e = []
dying n (x ∷ xs) b e = record { action = does n (Dead x); next = if length xs == 0 then distinct e else place b 1 ∷ [] } ∷ dying n xs (place b 1) e

-- by the number of its first site, what follows, and what comes where a test has failed
abbrev mutual
  pub emitted : Around → Flow → ℕ → List ℕ → List ℕ → List Site
  emitted A nothing b on fails = []
  emitted A nowhere b on fails = []
  emitted A (act a) b on fails = record { action = a; next = distinct on } ∷ []
  emitted A (items l) b on fails = emitted_items A l b on fails
  emitted A (or f g) b on fails = emitted A f b on fails ++ emitted A g (place b (sum A f).size) on fails
  emitted A (leave x) b on fails = dying (orders.exit_node x) (ended x A) b (exits on fails A.loops (pieces.exit_way x))
  emitted A (passes l f) b on fails = let head = entered (round l (sum (with_loop l [] [] A) f).begins) b (exits on fails A.loops) in
      emitted (with_loop l on head A) f b head []

  pub emitted_items : Around → Items → ℕ → List ℕ → List ℕ → List Site
  emitted_items A (last f) b on fails = emitted A f b on fails
  emitted_items A (do_and f l) b on fails = let c = place b (sum A f).size in
      emitted A f b (entered (sum_items A l).begins c (exits on fails A.loops)) fails
      ++ (if (sum A f).ahead then emitted_items A l c on fails else [])
  emitted_items A (else_and f l) b on fails = let c = place b (sum A f).size in
      emitted A f b on (entered (sum_items A l).begins c (exits on fails A.loops))
      ++ (if (sum A f).failing then emitted_items A l c on fails else [])
  emitted_items A (may_and l) b on fails = emitted_items A l b on fails
  emitted_items A (ends_and n x l) b on fails = let inner = sum_items (with_variable x A) l in
      emitted_items (with_variable x A) l b (place b inner.size ∷ []) []
      ++ (if inner.ahead then record { action = does n (Dead x); next = distinct on } ∷ [] else [])

-- ---- a sequence of which some items are done

-- the variables that are still to end, the last first: each at its node, where some walk comes to its end
abbrev pub closed : Open → List Site
closed o = if o.reached then record { action = does o.node (Dead o.variable); next = o.next } ∷ [] else []

abbrev pub closing : List Open → List Site
closing [] = []
closing (o ∷ os) = closing os ++ closed o

abbrev pub with_open : List Open → Around → Around
with_open [] A = A
with_open (o ∷ os) A = with_open os (with_variable o.variable A)

-- what is left of it: the other items, where some walk comes to them
abbrev pub left_over : Around → Items → Stand → List Site
left_over A l s = emitted_items A l s.at s.on s.fails ++ closing s.opens

abbrev pub left_where : Bool → Around → Items → Stand → List Site
left_where b A l s = if b then left_over A l s else closing s.opens
