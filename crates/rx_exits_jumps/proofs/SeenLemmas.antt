-- What is found in spots, one part behind the other.
use Rattle.std.proofs.Common.{◌≡◌, ℕ, Bool, true, false, if◌then◌else◌, List, [], ◌∷◌, ◌++◌, reverse, Result, Ok, Err, OnOk, refl, sym, ap, ◌∙◌}
use Rattle.std.proofs.lemmas.List.{append_assoc, append-nil, reverse-append}
use Rattle.std.specs.declared.alloc.AllocError.{AllocError}
use Rattle.rx_exits_plan.specs.Blocks.{Statement, does, begins, binds, declared_by, declared_by_all}
use Rattle.rx_exits_plan.specs.Spots.{Around, with_variables, Spot, a_block, a_jump, a_return, spots, spots_matched}
use Rattle.rx_exits_plan.specs.Runs.{Run, Home}
use Rattle.rx_exits_plan.specs.Points.{returns, jump_exit}
use Rattle.rx_exits_plan.specs.Marked.{is_among}
use Rattle.rx_exits_plan.specs.Exits.{Jump, leaving, past, spots_in_statements}
use Rattle.rx_exits_jumps.specs.Seen.{home_at, homes, Sought, the_run, ways_out, Found, with_spots}

-- ---- lists of spots

pub homes_more : (r : Run) (ss ts : List Spot) → homes r (ss ++ ts) ≡ homes r ss ++ homes r ts
homes_more r [] ts = refl
homes_more r (a_block a n b ∷ ss) ts = ap (λ l. home_at r a n b ++ l) (homes_more r ss ts) ∙ sym (append_assoc (home_at r a n b) (homes r ss) (homes r ts))
homes_more r (a_jump a n l again ∷ ss) ts = homes_more r ss ts
homes_more r (a_return a n ∷ ss) ts = homes_more r ss ts

first_more : (b : Bool) (j : Jump) (xs ys : List Jump) → (if b then j ∷ (xs ++ ys) else (xs ++ ys)) ≡ (if b then j ∷ xs else xs) ++ ys
first_more true j xs ys = refl
first_more false j xs ys = refl

pub leaving_more : (ls : List ℕ) (ss ts : List Spot) → leaving ls (ss ++ ts) ≡ leaving ls ss ++ leaving ls ts
leaving_more ls [] ts = refl
leaving_more ls (a_block a n b ∷ ss) ts = leaving_more ls ss ts
leaving_more ls (a_jump a n l again ∷ ss) ts =
    let j : Jump = record { exit = jump_exit l again; node = n; scope = a.scope } in
    ap (λ (r : List Jump). if is_among l ls then j ∷ r else r) (leaving_more ls ss ts) ∙ first_more (is_among l ls) j (leaving ls ss) (leaving ls ts)
leaving_more ls (a_return a n ∷ ss) ts =
    let j : Jump = record { exit = returns; node = n; scope = a.scope } in ap (λ (r : List Jump). j ∷ r) (leaving_more ls ss ts)

pub with_more : (k : Sought) (f : Found) (ss ts : List Spot) → with_spots k f (ss ++ ts) ≡ with_spots k (with_spots k f ss) ts
with_more (the_run r) f ss ts =
    ap (λ (l : List Home). let g : Found = record { homes = l; jumps = f.jumps } in g)
    (ap (λ l. f.homes ++ l) (homes_more r ss ts) ∙ sym (append_assoc f.homes (homes r ss) (homes r ts)))
with_more (ways_out ls) f ss ts =
    ap (λ (l : List Jump). let g : Found = record { homes = f.homes; jumps = l } in g)
    (ap (λ l. f.jumps ++ l) (leaving_more ls ss ts) ∙ sym (append_assoc f.jumps (leaving ls ss) (leaving ls ts)))

pub with_none : (k : Sought) (f : Found) → with_spots k f [] ≡ f
with_none (the_run r) f = ap (λ (l : List Home). let g : Found = record { homes = l; jumps = f.jumps } in g) (append-nil f.homes)
with_none (ways_out ls) f = ap (λ (l : List Jump). let g : Found = record { homes = f.homes; jumps = l } in g) (append-nil f.jumps)

-- what is found first, and what is found behind it
pub both_seen : (k : Sought) (r : Result (Unit {0}) AllocError) (f f1 f2 : Found) (ss ts us : List Spot) → f1 ≡ with_spots k f ss → us ≡ ss ++ ts
    → OnOk r (f2 ≡ with_spots k f1 ts) → OnOk r (f2 ≡ with_spots k f us)
both_seen k (Ok u) f f1 f2 ss ts us e s h = h ∙ ap (λ g. with_spots k g ts) e ∙ sym (with_more k f ss ts) ∙ ap (with_spots k f) (sym s)
both_seen k (Err v) f f1 f2 ss ts us e s h = tt

pub two_seen : (k : Sought) (f f1 f2 : Found) (ss ts us : List Spot) → f1 ≡ with_spots k f ss → us ≡ ss ++ ts → f2 ≡ with_spots k f1 ts → f2 ≡ with_spots k f us
two_seen k f f1 f2 ss ts us e s h = h ∙ ap (λ g. with_spots k g ts) e ∙ sym (with_more k f ss ts) ∙ ap (with_spots k f) (sym s)

-- the same spots, told in another way
pub seen_as : (k : Sought) (r : Result (Unit {0}) AllocError) (f f1 : Found) (ss ts : List Spot) → ss ≡ ts → OnOk r (f1 ≡ with_spots k f ss) → OnOk r (f1 ≡ with_spots k f ts)
seen_as k (Ok u) f f1 ss ts e h = h ∙ ap (with_spots k f) e
seen_as k (Err v) f f1 ss ts e h = tt

-- what is around, told in another way
pub on_same : {A : Type 0} (r : Result (Unit {0}) AllocError) (x y z : A) → y ≡ z → OnOk r (x ≡ y) → OnOk r (x ≡ z)
on_same (Ok u) x y z e h = h ∙ e
on_same (Err v) x y z e h = tt

-- ---- statements

pub statements_split : (a : Around) (s : Statement) (ss : List Statement)
    → spots_in_statements a (s ∷ ss) ≡ spots_in_statements a (s ∷ []) ++ spots_in_statements (with_variables (declared_by s) a) ss
statements_split a (does e) ss = ap (λ l. l ++ spots_in_statements a ss) (sym (append-nil (spots a e)))
statements_split a (begins s xs) ss = refl
statements_split a (binds s p c) ss = ap (λ l. l ++ spots_in_statements (with_variables (declared_by (binds s p c)) a) ss) (sym (append-nil (spots_matched a c)))

pub with_both : (xs ys : List ℕ) (a : Around) → with_variables ys (with_variables xs a) ≡ with_variables (xs ++ ys) a
with_both xs ys a =
    ap (λ (l : List ℕ). let b : Around = record { scope = l; loops = a.loops } in b)
    (sym (append_assoc (reverse ys) (reverse xs) a.scope) ∙ ap (λ l. l ++ a.scope) (sym (reverse-append xs ys)))

pub past_is : (ss : List Statement) (a : Around) → past ss a ≡ with_variables (declared_by_all ss) a
past_is [] a = refl
past_is (s ∷ ss) a = past_is ss (with_variables (declared_by s) a) ∙ with_both (declared_by s) (declared_by_all ss) a

-- a turn of a loop
pub seen_turn : (k : Sought) (f f1 total : Found) (now here rest : List Spot) → f1 ≡ with_spots k f here → now ≡ here ++ rest → with_spots k f now ≡ total → with_spots k f1 rest ≡ total
seen_turn k f f1 total now here rest e s done = ap (λ g. with_spots k g rest) e ∙ sym (with_more k f here rest) ∙ ap (with_spots k f) (sym s) ∙ done
