-- The actions of a flow that some walk holds are those of its sites, but for the ends of variables; and these fill nothing and
-- have no lifetimes.
use Rattle.std.proofs.Common.{◌≡◌, ℕ, ◌+◌, List, [], ◌∷◌, ◌++◌, Bool, true, false, not, ◌&&◌, ◌||◌, if◌then◌else◌, refl, sym, ap, ◌∙◌, arith, append_assoc, append-nil}
use mathlib.Core.Path.{fun_ext}
use Rattle.rx_typed.specs.declared.declarations.Decl.{Decl}
use Rattle.rx_lower_walks.specs.Actions.{Act, Declare, Dead, Read, Write, Borrow, Test, Call, Build, Input, Print, Give, Action, does, filled}
use Rattle.rx_lower_walks.specs.Orders.{exit_node, Order}
use Rattle.rx_lower_walks.specs.Orders as order
use Rattle.rx_lower_walks.specs.Graph.{Site}
use Rattle.rx_lower_walks.specs.Pieces.{Way, ahead, failing, exit_way, same, Scope, Variable, Looped, left, Exits, nowhere_part, act_part, then_ends, then_part, loop_ends, leaving_part, onto, entry, distinct, part, graph_of, no_exits}
use Rattle.rx_lower_walks.specs.Text.{actions_of}
use Rattle.rx_lower_walks.specs.Flows.{Flow, nothing, nowhere, act, items, or, leave, passes, Items, last, do_and, ends_and, may_and, else_and, order_of, order_of_items}
use Rattle.rx_lower_walks.specs.Around.{nothing_around}
use Rattle.rx_lower_walks.specs.Sums.{sum}
use Rattle.rx_lower_walks.proofs.Standing.{alone}
use Rattle.rx_lower_walks.proofs.Agrees.{sum_like}
use Rattle.rx_typed.specs.Numbers.{capped}
use Rattle.rx_lower_lifetimes.specs.Values.{KnownTypes, Held, value_type, hold, held_by}
use Rattle.rx_lower_lifetimes.specs.Positions.{own_lifetimes, all_own}
use Rattle.rx_lower_lifetimes.specs.Held.{held_acts, held_items, all_noted}

-- ---- without the ends of variables

abbrev deed : Action → Act → List Action
deed a (Dead x) = []
deed a _ = a ∷ []

abbrev pub deeds : List Action → List Action
deeds [] = []
deeds (a ∷ us) = deed a a.act ++ deeds us

deeds_both : (us bs : List Action) → deeds (us ++ bs) ≡ deeds us ++ deeds bs
deeds_both [] bs = refl
deeds_both (a ∷ us) bs = ap (λ l. deed a a.act ++ l) (deeds_both us bs) ∙ sym (append_assoc (deed a a.act) (deeds us) (deeds bs))

actions_both : (g h : List Site) → actions_of (g ++ h) ≡ actions_of g ++ actions_of h
actions_both [] h = refl
actions_both (s ∷ g) h = ap (λ l. s.action ∷ l) (actions_both g h)

-- the deeds of sites
abbrev done : List Site → List Action
done g = deeds (actions_of g)

done_both : (g h : List Site) → done (g ++ h) ≡ done g ++ done h
done_both g h = ap deeds (actions_both g h) ∙ deeds_both (actions_of g) (actions_of h)

-- ---- where a part may lead does not depend on what is around it

leaving_ends : (n : ℕ) (xs : List ℕ) (p q : Way) → (leaving_part n xs p).ends q ≡ same q p
leaving_ends n [] p q = refl
leaving_ends n (x ∷ xs) p q = none (same q ahead) ∙ leaving_ends n xs p q
  where
    none : {c : Bool} (b : Bool) → ((not b && b) || c) ≡ c
    none true = refl
    none false = refl

ends_same : (s t : Scope) (o : Order) → (part s o).ends ≡ (part t o).ends
ends_same s t order.nothing = refl
ends_same s t order.nowhere = refl
ends_same s t (order.act a) = refl
ends_same s t (order.then o p) =
    ap (λ f. then_ends ahead f (part s p).ends) (ends_same s t o) ∙ ap (λ f. then_ends ahead (part t o).ends f) (ends_same s t p)
ends_same s t (order.or o p) =
    let one : (Way → Bool) → Way → Bool = λ f q. f q || (part s p).ends q in
    let other : (Way → Bool) → Way → Bool = λ f q. (part t o).ends q || f q in
    ap one (ends_same s t o) ∙ ap other (ends_same s t p)
ends_same s t (order.leave x) =
    fun_ext (λ q. leaving_ends (exit_node x) (left x s) (exit_way x) q ∙ sym (leaving_ends (exit_node x) (left x t) (exit_way x) q))
ends_same s t order.fail = refl
ends_same s t (order.otherwise o p) =
    ap (λ f. then_ends failing f (part s p).ends) (ends_same s t o) ∙ ap (λ f. then_ends failing (part t o).ends f) (ends_same s t p)
ends_same s t (order.ending n x o) =
    ap (λ f. then_ends ahead (then_ends failing f nowhere_part.ends) (act_part (does n (Dead x))).ends) (ends_same (Variable x ∷ s) (Variable x ∷ t) o)
ends_same s t (order.passes l o) = ap (loop_ends l) (ends_same (Looped l ∷ s) (Looped l ∷ t) o)

goes_ahead : (s : Scope) (f : Flow) → (part s (order_of f)).ends ahead ≡ (sum nothing_around f).ahead
goes_ahead s f = ap (λ (e : Way → Bool). e ahead) (ends_same s [] (order_of f)) ∙ sym (sum_like f alone).ahead

goes_failing : (s : Scope) (f : Flow) → (part s (order_of f)).ends failing ≡ (sum nothing_around f).failing
goes_failing s f = ap (λ (e : Way → Bool). e failing) (ends_same s [] (order_of f)) ∙ sym (sum_like f alone).failing

-- ---- the deeds of a flow's sites

leaving_done : (n : ℕ) (xs : List ℕ) (q : Way) (b : ℕ) (k : Exits) → done ((leaving_part n xs q).sites b k) ≡ []
leaving_done n [] q b k = refl
leaving_done n (x ∷ xs) q b k = leaving_done n xs q (b + 1) k

done_if : (c d : Bool) (g : List Site) (us : List Action) → c ≡ d → done g ≡ deeds us → done (if c then g else []) ≡ deeds (if d then us else [])
done_if true d g us e h = rw (sym e) h
done_if false d g us e h = rw (sym e) refl

two_done : (g h : List Site) (us bs : List Action) → done g ≡ deeds us → done h ≡ deeds bs → done (g ++ h) ≡ deeds (us ++ bs)
two_done g h us bs e f = done_both g h ∙ ap (λ l. l ++ done h) e ∙ ap (λ l. deeds us ++ l) f ∙ sym (deeds_both us bs)

no_sites : (c : Bool) → done (if c then [] else []) ≡ []
no_sites true = refl
no_sites false = refl

dead_done : (c : Bool) (a : Action) (n : List ℕ) (x : ℕ) → a.act ≡ Dead x → done (if c then record { action = a; next = n } ∷ [] else []) ≡ []
dead_done true a n x e = rw e refl
dead_done false a n x e = refl

mutual
  gathered : (s : Scope) (f : Flow) (b : ℕ) (k : Exits) → done ((part s (order_of f)).sites b k) ≡ deeds (held_acts f)
  gathered s nothing b k = refl
  gathered s nowhere b k = refl
  gathered s (act a) b k = refl
  gathered s (items l) b k = gathered_items s l b k
  gathered s (or f g) b k =
      let F = part s (order_of f) in let G = part s (order_of g) in
      two_done (F.sites b k) (G.sites (b + F.size) k) (held_acts f) (held_acts g) (gathered s f b k) (gathered s g (b + F.size) k)
  gathered s (leave x) b k = leaving_done (exit_node x) (left x s) (exit_way x) b k
  gathered s (passes l f) b k = gathered (Looped l ∷ s) f b _

  gathered_items : (s : Scope) (l : Items) (b : ℕ) (k : Exits) → done ((part s (order_of_items l)).sites b k) ≡ deeds (held_items l)
  gathered_items s (last f) b k = gathered s f b k
  gathered_items s (do_and f l) b k =
      let F = part s (order_of f) in let L = part s (order_of_items l) in
      let K = onto ahead (entry L.begins (b + F.size) k) k in
      two_done (F.sites b K) (if F.ends ahead then L.sites (b + F.size) k else []) (held_acts f) (if (sum nothing_around f).ahead then held_items l else []) (gathered s f b K)
      (done_if (F.ends ahead) (sum nothing_around f).ahead (L.sites (b + F.size) k) (held_items l) (goes_ahead s f) (gathered_items s l (b + F.size) k))
  gathered_items s (else_and f l) b k =
      let F = part s (order_of f) in let L = part s (order_of_items l) in
      let K = onto failing (entry L.begins (b + F.size) k) k in
      two_done (F.sites b K) (if F.ends failing then L.sites (b + F.size) k else []) (held_acts f) (if (sum nothing_around f).failing then held_items l else []) (gathered s f b K)
      (done_if (F.ends failing) (sum nothing_around f).failing (L.sites (b + F.size) k) (held_items l) (goes_failing s f) (gathered_items s l (b + F.size) k))
  gathered_items s (may_and l) b k = ap done (append-nil ((part s (order_of_items l)).sites b k)) ∙ gathered_items s l b k
  gathered_items s (ends_and n x l) b k =
      let L = part (Variable x ∷ s) (order_of_items l) in
      let I = then_part failing L nowhere_part in
      let D = act_part (does n (Dead x)) in
      let K = onto ahead (entry D.begins (b + I.size) k) k in
      let K' = onto failing (entry nowhere_part.begins (b + L.size) K) K in
      let inner : done (I.sites b K) ≡ deeds (held_items l) =
      done_both (L.sites b K') (if L.ends failing then [] else []) ∙ ap (λ r. done (L.sites b K') ++ r) (no_sites (L.ends failing))
      ∙ append-nil (done (L.sites b K')) ∙ gathered_items (Variable x ∷ s) l b K' in
      done_both (I.sites b K) (if I.ends ahead then D.sites (b + I.size) k else [])
      ∙ ap (λ r. done (I.sites b K) ++ r) (dead_done (I.ends ahead) (does n (Dead x)) (distinct (k ahead)) x refl)
      ∙ append-nil (done (I.sites b K)) ∙ inner

-- ---- what is noted

held_deed : (K : KnownTypes) (H : List Held) (a : Action) (us : List Action) (c : Act) → a.act ≡ c → held_by K H (deed a c ++ us) ≡ held_by K (hold H (filled c) (value_type K H c)) us
held_deed K H a us (Declare x) e = rw e refl
held_deed K H a us (Dead x) e = refl
held_deed K H a us (Read m p d) e = rw e refl
held_deed K H a us (Write p t ss) e = rw e refl
held_deed K H a us (Borrow m p d) e = rw e refl
held_deed K H a us (Test p c) e = rw e refl
held_deed K H a us (Call f ts d) e = rw e refl
held_deed K H a us (Build w is ts d) e = rw e refl
held_deed K H a us (Input d) e = rw e refl
held_deed K H a us (Print t) e = rw e refl
held_deed K H a us (Give t) e = rw e refl

pub held_deeds : (K : KnownTypes) (H : List Held) (us : List Action) → held_by K H (deeds us) ≡ held_by K H us
held_deeds K H [] = refl
held_deeds K H (a ∷ us) = held_deed K H a (deeds us) a.act refl ∙ held_deeds K (hold H (filled a.act) (value_type K H a.act)) us

own_deed : (D : List Decl) (a : Action) (us : List Action) (c : Act) → a.act ≡ c → all_own D (deed a c ++ us) ≡ own_lifetimes D c + all_own D us
own_deed D a us (Declare x) e = rw e refl
own_deed D a us (Dead x) e = omega arith
own_deed D a us (Read m p d) e = rw e refl
own_deed D a us (Write p t ss) e = rw e refl
own_deed D a us (Borrow m p d) e = rw e refl
own_deed D a us (Test p c) e = rw e refl
own_deed D a us (Call f ts d) e = rw e refl
own_deed D a us (Build w is ts d) e = rw e refl
own_deed D a us (Input d) e = rw e refl
own_deed D a us (Print t) e = rw e refl
own_deed D a us (Give t) e = rw e refl

own_deeds : (D : List Decl) (us : List Action) → all_own D (deeds us) ≡ all_own D us
own_deeds D [] = refl
own_deeds D (a ∷ us) = own_deed D a (deeds us) a.act refl ∙ ap (λ n. own_lifetimes D a.act + n) (own_deeds D us)

notes_are : (K : KnownTypes) (H : List Held) (n : ℕ) (us : List Action)
    → all_noted K (record { held = H; own = capped n }) us ≡ record { held = held_by K H us; own = capped (n + all_own K.items us) }
notes_are K H n [] = let e : capped n ≡ capped (n + 0) = omega arith in ap (λ m. record { held = H; own = m }) e
notes_are K H n (a ∷ us) =
    let H' = hold H (filled a.act) (value_type K H a.act) in
    let o = own_lifetimes K.items a.act in
    let e : capped (capped n + o) ≡ capped (n + o) = omega arith in
    let f : capped ((n + o) + all_own K.items us) ≡ capped (n + (o + all_own K.items us)) = omega arith in
    ap (λ m. all_noted K (record { held = H'; own = m }) us) e ∙ notes_are K H' (n + o) us
    ∙ ap (λ m. record { held = held_by K H' us; own = m }) f

-- the sites of a flow's graph, and what is noted of the flow
pub flow_notes : (K : KnownTypes) (f : Flow) → let us = actions_of (graph_of (order_of f)) in
    all_noted K (record { held = []; own = 0 }) (held_acts f) ≡ record { held = held_by K [] us; own = capped (all_own K.items us) }
flow_notes K f =
    let us = actions_of (graph_of (order_of f)) in
    let e : deeds (held_acts f) ≡ deeds us = sym (gathered [] f 0 no_exits) in
    let h : held_by K [] (held_acts f) ≡ held_by K [] us = sym (held_deeds K [] (held_acts f)) ∙ ap (held_by K []) e ∙ held_deeds K [] us in
    let o : all_own K.items (held_acts f) ≡ all_own K.items us = sym (own_deeds K.items (held_acts f)) ∙ ap (all_own K.items) e ∙ own_deeds K.items us in
    let none : 0 + all_own K.items (held_acts f) ≡ all_own K.items (held_acts f) = omega arith in
    notes_are K [] 0 (held_acts f) ∙ ap (λ l. record { held = l; own = capped (0 + all_own K.items (held_acts f)) }) h
    ∙ ap (λ n. record { held = held_by K [] us; own = capped n }) (none ∙ o)
