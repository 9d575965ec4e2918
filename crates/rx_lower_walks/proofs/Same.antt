-- What is emitted for a flow is the sites of its order's part.
use Rattle.std.proofs.Common.{◌≡◌, ℕ, ◌+◌, ◌==◌, ◌<◌, List, [], ◌∷◌, ◌++◌, length, Bool, true, false, if◌then◌else◌, refl, sym, ap, ◌∙◌, subst, arith}
use mathlib.Core.Path.{fun_ext}
use Rattle.std.proofs.lemmas.Bool.Decides.{nat_tests}
use Rattle.rx_lower_walks.specs.Actions.{Dead, does}
use Rattle.rx_lower_walks.specs.Orders as orders
use Rattle.rx_lower_walks.specs.Walks.{Among, here, there}
use Rattle.rx_lower_walks.specs.Flows.{Flow, nothing, nowhere, act, items, or, leave, passes, Items, last, do_and, ends_and, may_and, else_and, order_of, order_of_items}
use Rattle.rx_lower_walks.specs.Graph.{Site}
use Rattle.rx_lower_walks.specs.Pieces.{Way, ahead, breaking, continuing, returning, failing, Exits, entry, distinct, Scope, Variable, Looped, left, Piece, nowhere_part, leads_part, act_part, onto, then_part, or_part, inside_of, inside, loop_part, leaving_part, part, no_exits, graph_of}
use Rattle.rx_lower_walks.specs.Pieces as pieces
use Rattle.rx_lower_walks.proofs.Bounds.{starts_within}
use Rattle.rx_lower_walks.proofs.Fits.{same_is, append_nil}
use Rattle.rx_lower_walks.proofs.Local.{same_sites}
use Rattle.rx_lower_walks.specs.declared.around.Loop.{Loop}
use Rattle.rx_lower_walks.specs.declared.around.Around.{Around}
use Rattle.rx_lower_walks.specs.declared.sums.Sum.{Sum}
use Rattle.rx_lower_walks.specs.Around.{with_variable, with_loop, after_in, head_in, exits}
use Rattle.rx_lower_walks.specs.Sums.{cap, sum, sum_items}
use Rattle.rx_lower_walks.specs.Emitted.{place, way_of, entered, dying, emitted, emitted_items}
use Rattle.rx_lower_walks.proofs.Standing.{Round, one_variable, one_loop, after_snoc, head_snoc, ended_left}
use Rattle.rx_lower_walks.proofs.Agrees.{Like, code_way, capped, ended_part, inner_ahead, inner_size, leaving_size, not_zero, sum_like, items_like}

-- ---- exits

exits_on : (e on fails : List ℕ) (fs : List Loop) → onto ahead e (exits on fails fs) ≡ exits e fails fs
exits_on e on fails fs = fun_ext go
  where
    go : (q : Way) → onto ahead e (exits on fails fs) q ≡ exits e fails fs q
    go ahead = refl
    go (breaking l) = refl
    go (continuing l) = refl
    go returning = refl
    go failing = refl

exits_fails : (e on fails : List ℕ) (fs : List Loop) → onto failing e (exits on fails fs) ≡ exits on e fs
exits_fails e on fails fs = fun_ext go
  where
    go : (q : Way) → onto failing e (exits on fails fs) q ≡ exits on e fs q
    go ahead = refl
    go (breaking l) = refl
    go (continuing l) = refl
    go returning = refl
    go failing = refl

exits_loop : (l d : ℕ) (h on fails : List ℕ) (fs : List Loop)
    → inside l h (exits on fails fs) ≡ exits h [] (fs ++ record { number = l; depth = d; after = on; head = h } ∷ [])
exits_loop l d h on fails fs = fun_ext go
  where
    breaks : (m : ℕ) (c : Bool) → inside_of (if c then pieces.out ahead else pieces.out (breaking m)) h (exits on fails fs) ≡ (if c then on else after_in [] m fs)
    breaks m true = refl
    breaks m false = refl

    continues : (m : ℕ) (c : Bool) → inside_of (if c then pieces.once_more else pieces.out (continuing m)) h (exits on fails fs) ≡ (if c then h else head_in [] m fs)
    continues m true = refl
    continues m false = refl

    go : (q : Way) → inside l h (exits on fails fs) q ≡ exits h [] (fs ++ record { number = l; depth = d; after = on; head = h } ∷ []) q
    go ahead = refl
    go (breaking m) = breaks m (m == l) ∙ sym (after_snoc [] m fs (record { number = l; depth = d; after = on; head = h }))
    go (continuing m) = continues m (m == l) ∙ sym (head_snoc [] m fs (record { number = l; depth = d; after = on; head = h }))
    go returning = refl
    go failing = refl

-- ---- numbers

place_is : (b n : ℕ) → b + n < 4294967296 → place b (cap n) ≡ b + n
place_is b n lt = let e : cap n ≡ n = omega arith in rw e (grind (arith, nat_tests))

placed : (m : Sum) (p : Piece) (b : ℕ) → Like m p → b + p.size < 4294967296 → place b m.size ≡ b + p.size
placed m p b h lt = ap (place b) h.size ∙ place_is b p.size lt

way_code : (q : Way) → way_of (code_way q) ≡ q
way_code ahead = refl
way_code (breaking l) = refl
way_code (continuing l) = refl
way_code returning = refl
way_code failing = refl

entered_is : (bs : List pieces.Begin) (b : ℕ) (k : Exits) → ((i : ℕ) → Among (pieces.starts i) bs → b + i < 4294967296) → entered (capped bs) b k ≡ entry bs b k
entered_is [] b k h = refl
entered_is (pieces.starts i ∷ bs) b k h =
    ap (λ p. p ∷ entered (capped bs) b k) (place_is b i (h i here)) ∙ ap (λ ps. (b + i) ∷ ps) (entered_is bs b k (λ j m. h j (there m)))
entered_is (pieces.through q ∷ bs) b k h =
    ap (λ q. k q ++ entered (capped bs) b k) (way_code q) ∙ ap (λ ps. k q ++ ps) (entered_is bs b k (λ j m. h j (there m)))

entry_of : (scope : Scope) (s : orders.Order) (n : Sum) (b : ℕ) (k : Exits) → Like n (part scope s) → b + (part scope s).size < 4294967296
    → entered n.begins b k ≡ entry (part scope s).begins b k
entry_of scope s n b k h lt = ap (λ bs. entered bs b k) h.begins
    ∙ entered_is (part scope s).begins b k (λ i m. let le : i < (part scope s).size = starts_within scope s i m in omega (arith, le))

-- ---- variables that end

dying_is : (n : ℕ) (xs : List ℕ) (q : Way) (b : ℕ) (k : Exits) → b + length xs < 4294967296 → dying n xs b (k q) ≡ (leaving_part n xs q).sites b k
dying_is n [] q b k lt = refl
dying_is n (x ∷ []) q b k lt = ap (λ (ps : List ℕ). record { action = does n (Dead x); next = distinct ps } ∷ []) (sym (append_nil (k q)))
dying_is n (x ∷ y ∷ ys) q b k lt =
    let e : place b 1 ≡ b + 1 = place_is b 1 (omega arith) in
    let z : b + 1 ≡ b + 1 + 0 = omega arith in
    ap (λ (c : Bool). record { action = does n (Dead x); next = if c then distinct (k q) else place b 1 ∷ [] } ∷ dying n (y ∷ ys) (place b 1) (k q)) (not_zero (length ys))
    ∙ ap (λ p. record { action = does n (Dead x); next = p ∷ [] } ∷ dying n (y ∷ ys) p (k q)) e
    ∙ ap (λ (l : List Site). record { action = does n (Dead x); next = (b + 1) ∷ [] } ∷ l) (dying_is n (y ∷ ys) q (b + 1) k (omega arith))
    ∙ ap (λ (p : ℕ). record { action = does n (Dead x); next = p ∷ [] } ∷ (leaving_part n (y ∷ ys) q).sites (b + 1) k) z

-- ---- two parts in order, by what is emitted for each

if_at : (c d : Bool) (x y : List Site) → c ≡ d → (d ≡ true → x ≡ y) → (if c then x else []) ≡ (if d then y else [])
if_at c true x y e h = rw e (h refl)
if_at c false x y e h = rw e refl

taken_size : (c : Bool) (n : ℕ) → c ≡ true → (if c then n else 0) ≡ n
taken_size true n e = refl
taken_size false n e = absurd (cc)

seq_same : (c : Way) (scope : Scope) (s t : orders.Order) (b : ℕ) (k : Exits) (m n : Sum) (ends : Bool)
    → Like m (part scope s) → Like n (part scope t) → ends ≡ (part scope s).ends c
    → b + (then_part c (part scope s) (part scope t)).size < 4294967296
    → (first : List ℕ → List Site) (second : ℕ → List Site)
    → (b + (part scope s).size < 4294967296 → (e : List ℕ) → first e ≡ (part scope s).sites b (onto c e k))
    → (b + (part scope s).size + (part scope t).size < 4294967296 → second (b + (part scope s).size) ≡ (part scope t).sites (b + (part scope s).size) k)
    → first (entered n.begins (place b m.size) k) ++ (if ends then second (place b m.size) else []) ≡ (then_part c (part scope s) (part scope t)).sites b k
seq_same c scope s t b k m n ends hm hn he lt first second hf hs =
    ap (λ p. first (entered n.begins p k) ++ (if ends then second p else [])) at
    ∙ ap (λ l. l ++ (if ends then second (b + (part scope s).size) else [])) (hf small (entered n.begins (b + (part scope s).size) k)
    ∙ same_sites scope s b (onto c (entered n.begins (b + (part scope s).size) k) k) (onto c (entry (part scope t).begins (b + (part scope s).size) k) k) agree)
    ∙ ap (λ l. (part scope s).sites b (onto c (entry (part scope t).begins (b + (part scope s).size) k) k) ++ l)
    (if_at ends ((part scope s).ends c) _ _ he (λ e. hs (both e)))
  where
    small : b + (part scope s).size < 4294967296
    small = omega (arith, lt)

    at : place b m.size ≡ b + (part scope s).size
    at = placed m (part scope s) b hm small

    both : (part scope s).ends c ≡ true → b + (part scope s).size + (part scope t).size < 4294967296
    both e = omega (arith, lt, taken_size ((part scope s).ends c) (part scope t).size e)

    agree : (q : Way) → (part scope s).ends q ≡ true
        → onto c (entered n.begins (b + (part scope s).size) k) k q ≡ onto c (entry (part scope t).begins (b + (part scope s).size) k) k q
    agree q d = by (pieces.same q c) refl
      where
        by : (w : Bool) → pieces.same q c ≡ w
            → (if w then entered n.begins (b + (part scope s).size) k else k q) ≡ (if w then entry (part scope t).begins (b + (part scope s).size) k else k q)
        by true e = entry_of scope t n (b + (part scope s).size) k hn (both (subst (λ (q : Way). (part scope s).ends q ≡ true) (same_is q c e) d))
        by false e = refl

-- ---- the end of a variable

abbrev inner_part : Piece → Piece
inner_part p = then_part failing p nowhere_part

abbrev dead : ℕ → ℕ → List ℕ → List Site
dead n x on = record { action = does n (Dead x); next = distinct on } ∷ []

inner_sites : (p : Piece) (b : ℕ) (k : Exits) → (inner_part p).sites b k ≡ p.sites b (onto failing [] k)
inner_sites p b k = by (p.ends failing)
  where
    by : (c : Bool) → p.sites b (onto failing [] k) ++ (if c then [] else []) ≡ p.sites b (onto failing [] k)
    by true = append_nil _
    by false = append_nil _

ends_same : (n x : ℕ) (p : Piece) (m : Sum) (b : ℕ) (on fails : List ℕ) (fs : List Loop) → Like m p → b + p.size < 4294967296
    → (inner : List ℕ → List Site) → ((e : List ℕ) → inner e ≡ p.sites b (exits e [] fs))
    → inner (place b m.size ∷ []) ++ (if m.ahead then record { action = does n (Dead x); next = distinct on } ∷ [] else [])
    ≡ (ended_part n x p).sites b (exits on fails fs)
ends_same n x p m b on fails fs h lt inner hi =
    ap (λ e. inner (e ∷ []) ++ (if m.ahead then dead n x on else [])) at
    ∙ ap (λ l. l ++ (if m.ahead then dead n x on else [])) (hi ((b + (inner_part p).size + 0) ∷ []) ∙ ap (p.sites b) (sym exits_inside) ∙ sym (inner_sites p b _))
    ∙ ap (λ (c : Bool). (inner_part p).sites b (onto ahead ((b + (inner_part p).size + 0) ∷ []) (exits on fails fs)) ++ (if c then dead n x on else [])) (h.ahead ∙ sym (inner_ahead p))
  where
    at : place b m.size ≡ b + (inner_part p).size + 0
    at = placed m p b h lt ∙ omega (arith, inner_size p)

    exits_inside : onto failing [] (onto ahead ((b + (inner_part p).size + 0) ∷ []) (exits on fails fs)) ≡ exits ((b + (inner_part p).size + 0) ∷ []) [] fs
    exits_inside = ap (onto failing []) (exits_on ((b + (inner_part p).size + 0) ∷ []) on fails fs) ∙ exits_fails [] ((b + (inner_part p).size + 0) ∷ []) fails fs

-- ---- flows

mutual
  pub flow_is : {A : Around} {s : Scope} (f : Flow) → Round A s → (b : ℕ) (on fails : List ℕ) → b + (part s (order_of f)).size < 4294967296
      → emitted A f b on fails ≡ (part s (order_of f)).sites b (exits on fails A.loops)
  flow_is nothing r b on fails lt = refl
  flow_is nowhere r b on fails lt = refl
  flow_is (act a) r b on fails lt = refl
  flow_is (items l) r b on fails lt = items_are l r b on fails lt
  flow_is {A = A} {s = s} (or f g) r b on fails lt =
      let e : place b (sum A f).size ≡ b + (part s (order_of f)).size = placed (sum A f) (part s (order_of f)) b (sum_like f r) (omega (arith, lt)) in
      ap (λ c. emitted A f b on fails ++ emitted A g c on fails) e
      ∙ ap (λ l. l ++ emitted A g (b + (part s (order_of f)).size) on fails) (flow_is f r b on fails (omega (arith, lt)))
      ∙ ap (λ l. (part s (order_of f)).sites b (exits on fails A.loops) ++ l) (flow_is g r (b + (part s (order_of f)).size) on fails (omega (arith, lt)))
  flow_is {A = A} {s = s} (leave x) r b on fails lt =
      ap (λ xs. dying (orders.exit_node x) xs b (exits on fails A.loops (pieces.exit_way x))) (ended_left x r)
      ∙ dying_is (orders.exit_node x) (left x s) (pieces.exit_way x) b (exits on fails A.loops) (omega (arith, lt, leaving_size (orders.exit_node x) (left x s) (pieces.exit_way x)))
  flow_is {A = A} {s = s} (passes l f) r b on fails lt =
      ap (λ h. emitted (with_loop l on h A) f b h []) (entry_of s (orders.passes l (order_of f)) (sum A (passes l f)) b (exits on fails A.loops) (sum_like (passes l f) r) lt)
      ∙ flow_is f (one_loop l on (entry (pieces.round l (part (Looped l ∷ s) (order_of f)).begins) b (exits on fails A.loops)) r) b
      (entry (pieces.round l (part (Looped l ∷ s) (order_of f)).begins) b (exits on fails A.loops)) [] lt
      ∙ ap ((part (Looped l ∷ s) (order_of f)).sites b) (sym (exits_loop l (length A.variables) (entry (pieces.round l (part (Looped l ∷ s) (order_of f)).begins) b (exits on fails A.loops)) on fails A.loops))

  pub items_are : {A : Around} {s : Scope} (l : Items) → Round A s → (b : ℕ) (on fails : List ℕ) → b + (part s (order_of_items l)).size < 4294967296
      → emitted_items A l b on fails ≡ (part s (order_of_items l)).sites b (exits on fails A.loops)
  items_are (last f) r b on fails lt = flow_is f r b on fails lt
  items_are {A = A} {s = s} (do_and f l) r b on fails lt =
      seq_same ahead s (order_of f) (order_of_items l) b (exits on fails A.loops) (sum A f) (sum_items A l) (sum A f).ahead
      (sum_like f r) (items_like l r) (sum_like f r).ahead lt (λ e. emitted A f b e fails) (λ c. emitted_items A l c on fails)
      (λ small e. flow_is f r b e fails small ∙ ap ((part s (order_of f)).sites b) (sym (exits_on e on fails A.loops)))
      (λ small. items_are l r (b + (part s (order_of f)).size) on fails small)
  items_are {A = A} {s = s} (else_and f l) r b on fails lt =
      seq_same failing s (order_of f) (order_of_items l) b (exits on fails A.loops) (sum A f) (sum_items A l) (sum A f).failing
      (sum_like f r) (items_like l r) (sum_like f r).failing lt (λ e. emitted A f b on e) (λ c. emitted_items A l c on fails)
      (λ small e. flow_is f r b on e small ∙ ap ((part s (order_of f)).sites b) (sym (exits_fails e on fails A.loops)))
      (λ small. items_are l r (b + (part s (order_of f)).size) on fails small)
  items_are {A = A} {s = s} (may_and l) r b on fails lt =
      items_are l r b on fails (omega (arith, lt)) ∙ sym (append_nil _)
  items_are {A = A} {s = s} (ends_and n x l) r b on fails lt =
      let small : b + (part (Variable x ∷ s) (order_of_items l)).size < 4294967296 = omega (arith, lt, inner_size (part (Variable x ∷ s) (order_of_items l))) in
      ends_same n x (part (Variable x ∷ s) (order_of_items l)) (sum_items (with_variable x A) l) b on fails A.loops (items_like l (one_variable x r)) small
      (λ e. emitted_items (with_variable x A) l b e []) (λ e. items_are l (one_variable x r) b e [] small)
