-- The sums of flows agree with the parts of their orders.
use Rattle.std.proofs.Common.{◌≡◌, ℕ, suc, ◌+◌, ◌-◌, ◌==◌, List, [], ◌∷◌, ◌++◌, length, Bool, true, false, ◌&&◌, ◌||◌, if◌then◌else◌, refl, sym, ap, ◌∙◌, arith}
use Rattle.std.proofs.lemmas.Bool.Decides.{nat_tests, Decides-eqb}
use Rattle.rx_lower_walks.specs.Actions.{Dead, Action, does}
use Rattle.rx_lower_walks.specs.Orders as orders
use Rattle.rx_lower_walks.specs.Flows.{Flow, nothing, nowhere, act, items, or, leave, passes, Items, last, do_and, ends_and, may_and, else_and, order_of, order_of_items}
use Rattle.rx_lower_walks.specs.Pieces.{Scope, Variable, Looped, left, Piece, nowhere_part, leads_part, act_part, then_part, or_part, loop_part, leaving_part, part}
use Rattle.rx_lower_walks.specs.Pieces as pieces
use Rattle.rx_lower_walks.specs.declared.sums.Way.{Way}
use Rattle.rx_lower_walks.specs.declared.sums.Way.TheVariants.{Ahead, Breaking, Continuing, Returning, Failing}
use Rattle.rx_lower_walks.specs.declared.sums.Begin.{Begin}
use Rattle.rx_lower_walks.specs.declared.sums.Begin.TheVariants.{Starts, Through}
use Rattle.rx_lower_walks.specs.declared.sums.Sum.{Sum}
use Rattle.rx_lower_walks.specs.declared.around.Around.{Around}
use Rattle.rx_lower_walks.specs.Around.{depth}
use Rattle.rx_lower_walks.specs.Sums.{cap, add, same, exit_way, moved, then_begins, turned, round, has, joined, without, breaks_of, nowhere_sum, leads_sum, act_sum, leaving_sum, then_sum, else_sum, or_sum, may_sum, ends_sum, loop_sum, sum, sum_items}
use Rattle.rx_lower_walks.proofs.Standing.{Round, one_variable, one_loop, ended_left, ended_length}

-- ---- ways and begins

abbrev pub code_way : pieces.Way → Way
code_way pieces.ahead = Ahead
code_way (pieces.breaking l) = Breaking l
code_way (pieces.continuing l) = Continuing l
code_way pieces.returning = Returning
code_way pieces.failing = Failing

abbrev pub capped : List pieces.Begin → List Begin
capped [] = []
capped (pieces.starts i ∷ bs) = Starts (cap i) ∷ capped bs
capped (pieces.through q ∷ bs) = Through (code_way q) ∷ capped bs

same_code : (q c : pieces.Way) → same (code_way q) (code_way c) ≡ pieces.same q c
same_code pieces.ahead pieces.ahead = refl
same_code pieces.ahead (pieces.breaking l) = refl
same_code pieces.ahead (pieces.continuing l) = refl
same_code pieces.ahead pieces.returning = refl
same_code pieces.ahead pieces.failing = refl
same_code (pieces.breaking l) pieces.ahead = refl
same_code (pieces.breaking l) (pieces.breaking m) = refl
same_code (pieces.breaking l) (pieces.continuing m) = refl
same_code (pieces.breaking l) pieces.returning = refl
same_code (pieces.breaking l) pieces.failing = refl
same_code (pieces.continuing l) pieces.ahead = refl
same_code (pieces.continuing l) (pieces.breaking m) = refl
same_code (pieces.continuing l) (pieces.continuing m) = refl
same_code (pieces.continuing l) pieces.returning = refl
same_code (pieces.continuing l) pieces.failing = refl
same_code pieces.returning pieces.ahead = refl
same_code pieces.returning (pieces.breaking m) = refl
same_code pieces.returning (pieces.continuing m) = refl
same_code pieces.returning pieces.returning = refl
same_code pieces.returning pieces.failing = refl
same_code pieces.failing pieces.ahead = refl
same_code pieces.failing (pieces.breaking m) = refl
same_code pieces.failing (pieces.continuing m) = refl
same_code pieces.failing pieces.returning = refl
same_code pieces.failing pieces.failing = refl

capped_both : (bs cs : List pieces.Begin) → capped (bs ++ cs) ≡ capped bs ++ capped cs
capped_both [] cs = refl
capped_both (pieces.starts i ∷ bs) cs = ap (λ l. Starts (cap i) ∷ l) (capped_both bs cs)
capped_both (pieces.through q ∷ bs) cs = ap (λ l. Through (code_way q) ∷ l) (capped_both bs cs)

capped_moved : (n : ℕ) (bs : List pieces.Begin) → moved (cap n) (capped bs) ≡ capped (pieces.moved n bs)
capped_moved n [] = refl
capped_moved n (pieces.starts i ∷ bs) =
    let e : add (cap n) (cap i) ≡ cap (n + i) = omega arith in
    ap (λ j. Starts j ∷ moved (cap n) (capped bs)) e ∙ ap (λ l. Starts (cap (n + i)) ∷ l) (capped_moved n bs)
capped_moved n (pieces.through q ∷ bs) = ap (λ l. Through (code_way q) ∷ l) (capped_moved n bs)

capped_then : (c : pieces.Way) (bs hs : List pieces.Begin) → then_begins (code_way c) (capped bs) (capped hs) ≡ capped (pieces.then_begins c bs hs)
capped_then c [] hs = refl
capped_then c (pieces.starts i ∷ bs) hs = ap (λ l. Starts (cap i) ∷ l) (capped_then c bs hs)
capped_then c (pieces.through q ∷ bs) hs =
    ap (λ (b : Bool). (if b then capped hs else Through (code_way q) ∷ []) ++ then_begins (code_way c) (capped bs) (capped hs)) (same_code q c)
    ∙ ap (λ l. (if pieces.same q c then capped hs else Through (code_way q) ∷ []) ++ l) (capped_then c bs hs)
    ∙ by (pieces.same q c) ∙ sym (capped_both (if pieces.same q c then hs else pieces.through q ∷ []) (pieces.then_begins c bs hs))
  where
    by : (b : Bool) → (if b then capped hs else Through (code_way q) ∷ []) ++ capped (pieces.then_begins c bs hs)
        ≡ capped (if b then hs else pieces.through q ∷ []) ++ capped (pieces.then_begins c bs hs)
    by true = refl
    by false = refl

capped_turned : (l : ℕ) (q : pieces.Way) → turned l (code_way q) ≡ capped (pieces.turned (pieces.turn l q))
capped_turned l pieces.ahead = refl
capped_turned l (pieces.breaking m) = by (m == l)
  where
    by : (b : Bool) → Through (if b then Ahead else Breaking m) ∷ [] ≡ capped (pieces.turned (if b then pieces.out pieces.ahead else pieces.out (pieces.breaking m)))
    by true = refl
    by false = refl
capped_turned l (pieces.continuing m) = by (m == l)
  where
    by : (b : Bool) → (if b then [] else Through (Continuing m) ∷ []) ≡ capped (pieces.turned (if b then pieces.once_more else pieces.out (pieces.continuing m)))
    by true = refl
    by false = refl
capped_turned l pieces.returning = refl
capped_turned l pieces.failing = refl

pub capped_round : (l : ℕ) (bs : List pieces.Begin) → round l (capped bs) ≡ capped (pieces.round l bs)
capped_round l [] = refl
capped_round l (pieces.starts i ∷ bs) = ap (λ r. Starts (cap i) ∷ r) (capped_round l bs)
capped_round l (pieces.through q ∷ bs) =
    ap (λ r. r ++ round l (capped bs)) (capped_turned l q) ∙ ap (λ r. capped (pieces.turned (pieces.turn l q)) ++ r) (capped_round l bs)
    ∙ sym (capped_both (pieces.turned (pieces.turn l q)) (pieces.round l bs))

-- ---- loops that are broken

pub or_false : (b : Bool) → (b || false) ≡ b
or_false true = refl
or_false false = refl

or_assoc : (a b c : Bool) → ((a || b) || c) ≡ (a || (b || c))
or_assoc true b c = refl
or_assoc false b c = refl

pub has_both : (l : ℕ) (xs ys : List ℕ) → has l (xs ++ ys) ≡ (has l xs || has l ys)
has_both l [] ys = refl
has_both l (x ∷ xs) ys = ap (λ (b : Bool). (l == x) || b) (has_both l xs ys) ∙ sym (or_assoc (l == x) (has l xs) (has l ys))

-- one more, where it is not there
has_added : (l m : ℕ) (ls : List ℕ) → has l (if has m ls then ls else ls ++ m ∷ []) ≡ (has l ls || (l == m))
has_added l m ls = by (has m ls) refl
  where
    there : (b : Bool) → (l == m) ≡ b → has m ls ≡ true → has l ls ≡ (has l ls || b)
    there true e h = let d : l ≡ m = (Decides-eqb l m).0 e in let k : has l ls ≡ true = ap (λ n. has n ls) d ∙ h in rw k refl
    there false e h = sym (or_false (has l ls))

    by : (b : Bool) → has m ls ≡ b → has l (if b then ls else ls ++ m ∷ []) ≡ (has l ls || (l == m))
    by true e = there (l == m) refl e
    by false e = has_both l ls (m ∷ []) ∙ ap (λ (b : Bool). has l ls || b) (or_false (l == m))

has_joined : (l : ℕ) (xs ys : List ℕ) → has l (joined xs ys) ≡ (has l xs || has l ys)
has_joined l xs [] = sym (or_false (has l xs))
has_joined l xs (m ∷ ms) =
    has_joined l (if has m xs then xs else xs ++ m ∷ []) ms ∙ ap (λ (b : Bool). b || has l ms) (has_added l m xs) ∙ or_assoc (has l xs) (l == m) (has l ms)

has_if : (l : ℕ) (c : Bool) (ys : List ℕ) → has l (if c then ys else []) ≡ (c && has l ys)
has_if l true ys = refl
has_if l false ys = refl

-- ---- sums

pub record Like (m : Sum) (p : Piece) : Type 0 where
  pub size : m.size ≡ cap p.size
  pub ahead : m.ahead ≡ p.ends pieces.ahead
  pub failing : m.failing ≡ p.ends pieces.failing
  pub begins : m.begins ≡ capped p.begins
  pub breaks : (l : ℕ) → has l m.breaks ≡ p.ends (pieces.breaking l)

size_if : (c : Bool) (a b : ℕ) → add (cap a) (if c then cap b else 0) ≡ cap (a + (if c then b else 0))
size_if true a b = omega arith
size_if false a b = omega arith

then_like : (m n : Sum) (f h : Piece) → Like m f → Like n h → Like (then_sum m n) (then_part pieces.ahead f h)
then_like m n f h a b = record {
  size = rw (a.size, b.size, a.ahead) (size_if (f.ends pieces.ahead) f.size h.size);
  ahead = rw (a.ahead, b.ahead) refl;
  failing = rw (a.failing, a.ahead, b.failing) refl;
  begins = rw (a.begins, b.begins, a.size, capped_moved f.size h.begins) (capped_then pieces.ahead f.begins (pieces.moved f.size h.begins));
  breaks = λ l. has_joined l m.breaks (if m.ahead then n.breaks else []) ∙ rw (has_if l m.ahead n.breaks, a.breaks l, b.breaks l, a.ahead) refl;
}

else_like : (m n : Sum) (f h : Piece) → Like m f → Like n h → Like (else_sum m n) (then_part pieces.failing f h)
else_like m n f h a b = record {
  size = rw (a.size, b.size, a.failing) (size_if (f.ends pieces.failing) f.size h.size);
  ahead = rw (a.ahead, a.failing, b.ahead) refl;
  failing = rw (a.failing, b.failing) refl;
  begins = rw (a.begins, b.begins, a.size, capped_moved f.size h.begins) (capped_then pieces.failing f.begins (pieces.moved f.size h.begins));
  breaks = λ l. has_joined l m.breaks (if m.failing then n.breaks else []) ∙ rw (has_if l m.failing n.breaks, a.breaks l, b.breaks l, a.failing) refl;
}

or_like : (m n : Sum) (f h : Piece) → Like m f → Like n h → Like (or_sum m n) (or_part f h)
or_like m n f h a b = record {
  size = rw (a.size, b.size) (omega arith);
  ahead = rw (a.ahead, b.ahead) refl;
  failing = rw (a.failing, b.failing) refl;
  begins = rw (a.begins, b.begins, a.size, capped_moved f.size h.begins) (sym (capped_both f.begins (pieces.moved f.size h.begins)));
  breaks = λ l. has_joined l m.breaks n.breaks ∙ rw (a.breaks l, b.breaks l) refl;
}

or_true : (b : Bool) → (b || true) ≡ true
or_true true = refl
or_true false = refl

may_like : (n : Sum) (h : Piece) → Like n h → Like (may_sum n) (or_part h (leads_part pieces.failing))
may_like n h b = record {
  size = b.size ∙ omega arith;
  ahead = b.ahead ∙ sym (or_false _);
  failing = sym (or_true _);
  begins = ap (λ l. l ++ Through Failing ∷ []) b.begins ∙ sym (capped_both h.begins _);
  breaks = λ l. b.breaks l ∙ sym (or_false _);
}

and_false : (b : Bool) → (b && false) ≡ false
and_false true = refl
and_false false = refl

abbrev pub ended_part : ℕ → ℕ → Piece → Piece
ended_part n x h = then_part pieces.ahead (then_part pieces.failing h nowhere_part) (act_part (does n (Dead x)))

pub inner_ahead : (h : Piece) → (then_part pieces.failing h nowhere_part).ends pieces.ahead ≡ h.ends pieces.ahead
inner_ahead h = ap (λ (c : Bool). h.ends pieces.ahead || c) (and_false (h.ends pieces.failing)) ∙ or_false (h.ends pieces.ahead)

pub inner_size : (h : Piece) → (then_part pieces.failing h nowhere_part).size ≡ h.size
inner_size h = by (h.ends pieces.failing)
  where
    by : (c : Bool) → h.size + (if c then 0 else 0) ≡ h.size
    by true = omega arith
    by false = omega arith

size_one : (c : Bool) (a : ℕ) → add (cap a) (if c then 1 else 0) ≡ cap (a + (if c then 1 else 0))
size_one true a = omega arith
size_one false a = omega arith

ends_like : (k x : ℕ) (n : Sum) (h : Piece) → Like n h → Like (ends_sum n) (ended_part k x h)
ends_like k x n h b = record {
  size = rw (b.size, b.ahead, inner_ahead h, inner_size h) (size_one (h.ends pieces.ahead) h.size);
  ahead = b.ahead ∙ sym (rw (inner_ahead h) (and_true (h.ends pieces.ahead)));
  failing = sym (way (h.ends pieces.failing && false) ((then_part pieces.failing h nowhere_part).ends pieces.ahead) false (and_false (h.ends pieces.failing)));
  begins = first;
  breaks = λ l. b.breaks l ∙ sym (way (h.ends (pieces.breaking l) || (h.ends pieces.failing && false)) ((then_part pieces.failing h nowhere_part).ends pieces.ahead) (h.ends (pieces.breaking l))
      (ap (λ (c : Bool). h.ends (pieces.breaking l) || c) (and_false (h.ends pieces.failing)) ∙ or_false (h.ends (pieces.breaking l))));
}
  where
    and_true : (b : Bool) → (b && true) ≡ b
    and_true true = refl
    and_true false = refl

    way : (c d e : Bool) → c ≡ e → (c || (d && false)) ≡ e
    way c d e f = ap (λ (b : Bool). c || b) (and_false d) ∙ or_false c ∙ f

    first : then_begins Ahead (then_begins Failing n.begins []) (Starts n.size ∷ []) ≡ capped (ended_part k x h).begins
    first =
        let e : cap h.size ≡ cap ((then_part pieces.failing h nowhere_part).size + 0) = ap cap (sym (inner_size h) ∙ omega arith) in
        rw (b.begins, b.size, e) (ap (λ bs. then_begins Ahead bs (Starts (cap ((then_part pieces.failing h nowhere_part).size + 0)) ∷ [])) (capped_then pieces.failing h.begins [])
        ∙ capped_then pieces.ahead (pieces.then_begins pieces.failing h.begins []) (pieces.starts ((then_part pieces.failing h nowhere_part).size + 0) ∷ []))

abbrev kept : ℕ → Bool → Bool
kept q c = pieces.passes_out (if c then pieces.out pieces.ahead else pieces.out (pieces.breaking q))

has_without : (q l : ℕ) (xs : List ℕ) → has q (without l xs) ≡ (pieces.passes_out (if q == l then pieces.out pieces.ahead else pieces.out (pieces.breaking q)) && has q xs)
has_without q l [] = go (q == l)
  where
    go : (c : Bool) → false ≡ (pieces.passes_out (if c then pieces.out pieces.ahead else pieces.out (pieces.breaking q)) && false)
    go true = refl
    go false = refl
has_without q l (x ∷ xs) = go (q == l) (x == l) (q == x) refl refl refl (has_without q l xs)
  where
    go : (c d e : Bool) → (q == l) ≡ c → (x == l) ≡ d → (q == x) ≡ e → has q (without l xs) ≡ (kept q (q == l) && has q xs) → has q (if d then without l xs else x ∷ without l xs) ≡ (kept q c && (e || has q xs))
    go true true e i j k h = h ∙ rw i refl
    go true false true i j k h = absurd (let f : x ≡ l = sym ((Decides-eqb q x).0 k) ∙ (Decides-eqb q l).0 i in let g : (x == l) ≡ true = (Decides-eqb x l).1 f in cc)
    go true false false i j k h = rw (k, h, i) refl
    go false true true i j k h = absurd (let f : q ≡ l = (Decides-eqb q x).0 k ∙ (Decides-eqb x l).0 j in let g : (q == l) ≡ true = (Decides-eqb q l).1 f in cc)
    go false true false i j k h = h ∙ rw i refl
    go false false e i j k h = rw (k, h, i) refl

loop_like : (l : ℕ) (m : Sum) (f : Piece) → Like m f → Like (loop_sum l m) (loop_part l f)
loop_like l m f a = record {
  size = a.size;
  ahead = a.breaks l;
  failing = refl;
  begins = ap (round l) a.begins ∙ capped_round l f.begins;
  breaks = λ q. has_without q l m.breaks ∙ rw (a.breaks q) refl;
}

leads_like : (q : pieces.Way) → Like (leads_sum (code_way q)) (leads_part q)
leads_like q = record { size = refl; ahead = same_code pieces.ahead q; failing = same_code pieces.failing q; begins = refl; breaks = λ l. of l q }
  where
    of : (l : ℕ) (q : pieces.Way) → has l (breaks_of (code_way q)) ≡ pieces.same (pieces.breaking l) q
    of l (pieces.breaking m) = or_false (l == m)
    of l pieces.ahead = refl
    of l (pieces.continuing m) = refl
    of l pieces.returning = refl
    of l pieces.failing = refl

nowhere_like : Like nowhere_sum nowhere_part
nowhere_like = record { size = refl; ahead = refl; failing = refl; begins = refl; breaks = λ l. refl }

act_like : (a : Action) → Like act_sum (act_part a)
act_like a = record { size = refl; ahead = refl; failing = refl; begins = refl; breaks = λ l. refl }

pub leaving_size : (n : ℕ) (xs : List ℕ) (q : pieces.Way) → (leaving_part n xs q).size ≡ length xs
leaving_size n [] q = refl
leaving_size n (x ∷ xs) q = omega (arith, leaving_size n xs q)

pub not_zero : (n : ℕ) → (suc n == 0) ≡ false
not_zero n = grind (arith, nat_tests)

leaving_like : (n : ℕ) (xs : List ℕ) (q : pieces.Way) → Like (leaving_sum (length xs) (code_way q)) (leaving_part n xs q)
leaving_like n [] q = leads_like q
leaving_like n (x ∷ xs) q =
    let h = leaving_like n xs q in
    record {
      size = omega (arith, leaving_size n xs q);
      ahead = h.ahead;
      failing = h.failing;
      begins = ap (λ (c : Bool). let b : Begin = if c then Through (code_way q) else Starts 0 in b ∷ []) (not_zero (length xs));
      breaks = h.breaks;
    }

exit_code : (x : orders.Exit) → exit_way x ≡ code_way (pieces.exit_way x)
exit_code (orders.breaks n l) = refl
exit_code (orders.continues n l) = refl
exit_code (orders.returns n) = refl

leave_like : {A : Around} {s : Scope} (x : orders.Exit) → Round A s
    → Like (leaving_sum (length A.variables - depth x A.loops) (exit_way x)) (leaving_part (orders.exit_node x) (left x s) (pieces.exit_way x))
leave_like {A = A} {s = s} x r =
    let n : length A.variables - depth x A.loops ≡ length (left x s) = sym (ended_length x A) ∙ ap length (ended_left x r) in
    rw (n, exit_code x) (leaving_like (orders.exit_node x) (left x s) (pieces.exit_way x))

mutual
  pub sum_like : {A : Around} {s : Scope} (f : Flow) → Round A s → Like (sum A f) (part s (order_of f))
  sum_like nothing r = leads_like pieces.ahead
  sum_like nowhere r = nowhere_like
  sum_like (act a) r = act_like a
  sum_like (items l) r = items_like l r
  sum_like (or f g) r = or_like _ _ _ _ (sum_like f r) (sum_like g r)
  sum_like (leave x) r = leave_like x r
  sum_like (passes l f) r = loop_like l _ _ (sum_like f (one_loop l [] [] r))

  pub items_like : {A : Around} {s : Scope} (l : Items) → Round A s → Like (sum_items A l) (part s (order_of_items l))
  items_like (last f) r = sum_like f r
  items_like (do_and f l) r = then_like _ _ _ _ (sum_like f r) (items_like l r)
  items_like (ends_and n x l) r = ends_like n x _ _ (items_like l (one_variable x r))
  items_like (may_and l) r = may_like _ _ (items_like l r)
  items_like (else_and f l) r = else_like _ _ _ _ (sum_like f r) (items_like l r)
