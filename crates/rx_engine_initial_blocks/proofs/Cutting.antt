-- Where a mark stands in a block tells which of its statements are of the run, since no other statement is a mark.
use Rattle.std.proofs.Common.{◌≡◌, ℕ, false, List, [], ◌∷◌, map, refl, sym, ◌∙◌, subst, ap, true≢false}
use Rattle.rx_typed.specs.Tree as tree
use Rattle.rx_typed.specs.Tree.{Exp, Body, own, temporary_of}
use Rattle.rx_exits_plan.specs.Points.{Point, next, enters, leaves}
use Rattle.rx_exits_plan.specs.Blocks as block
use Rattle.rx_exits_plan.specs.Blocks.{Statement}
use Rattle.rx_exits_plan.specs.Changed.{changed_statement}
use Rattle.rx_exits_plan.specs.Marked.{at_point, mark, using}
use Rattle.rx_exits_plan.specs.Plan.{Plan}
use Rattle.rx_engine_simulation.specs.Turns.{Allowance}
use Rattle.rx_engine_simulation.specs.Sights.{Renaming}
use Rattle.rx_engine_simulation.specs.Jumps.{Jumping}
use Rattle.rx_engine_simulation.specs.Blocks.{Stretch, done, does_then, declares_then, lets_then, before}
use Rattle.rx_engine_simulation.specs.Marks.{reading, closed_by}
use Rattle.rx_engine_simulation.specs.Packing.{Way}
use Rattle.rx_engine_simulation.specs.Endings.{Last, none_left, a_marked, with_last}
use Rattle.rx_engine_related.specs.Running.{passing}
use Rattle.rx_engine_related.specs.Moved.{Ended, gives_outs, gives_last, gives_never, gives_left}
use Rattle.rx_engine_related.specs.Standing.{marked_run}
use Rattle.rx_engine_related.proofs.Sole.{AllFree}
use Rattle.rx_engine_initial_related.specs.Moving.{stretch_of}
use Rattle.rx_engine_initial_related.specs.Ending.{with_left}
use Rattle.rx_engine_initial_blocks.proofs.Marks.{is_made, unmarked, changed_not}

-- ---- statements that are no mark

abbrev pub Plain : Statement → Type 0
Plain (block.does e) = is_made e ≡ false
Plain (block.begins s xs) = Unit {0}
Plain (block.binds s p c) = Unit {0}

abbrev pub AllPlain : List Statement → Type 0
AllPlain [] = Unit {0}
AllPlain (s ∷ ss) = Plain s × AllPlain ss

abbrev pub PlainBody : Body → Type 0
PlainBody (tree.ends e) = Unit {0}
PlainBody (tree.runs e b) = (is_made e ≡ false) × PlainBody b
PlainBody (tree.declares s xs b) = PlainBody b
PlainBody (tree.lets s p c b) = PlainBody b

pub plain_of : (ss : List Statement) → AllFree ss → AllPlain ss
plain_of [] h = tt
plain_of (block.does e ∷ ss) h = (unmarked e (temporary_of e) h.0, plain_of ss h.1)
plain_of (block.begins s xs ∷ ss) h = (tt, plain_of ss h.1)
plain_of (block.binds s p c ∷ ss) h = (tt, plain_of ss h.1)

pub plain_changed : (ls : List ℕ) (ss : List Statement) → AllPlain ss → AllPlain (map (changed_statement (passing ls)) ss)
plain_changed ls [] h = tt
plain_changed ls (block.does e ∷ ss) h = (changed_not ls e h.0, plain_changed ls ss h.1)
plain_changed ls (block.begins s xs ∷ ss) h = (tt, plain_changed ls ss h.1)
plain_changed ls (block.binds s p c ∷ ss) h = (tt, plain_changed ls ss h.1)

pub plain_before : (ss : List Statement) (b : Body) → AllPlain ss → PlainBody b → PlainBody (block.before ss b)
plain_before [] b h g = g
plain_before (block.does e ∷ ss) b h g = (h.0, plain_before ss b h.1 g)
plain_before (block.begins s xs ∷ ss) b h g = plain_before ss b h.1 g
plain_before (block.binds s p c ∷ ss) b h g = plain_before ss b h.1 g

-- ---- the mark behind statements

no_mark_in : (r : Stretch) (p : Point) (rest : Body) → PlainBody (before (closed_by r p) rest) → ⊥
no_mark_in done p rest h = true≢false h.0
no_mark_in (does_then e r) p rest h = no_mark_in r p rest h.1
no_mark_in (declares_then n xs r) p rest h = no_mark_in r p rest h
no_mark_in (lets_then n q c r) p rest h = no_mark_in r p rest h

is_no_mark : {A : Type 0} (e : Exp) (p : Point) → is_made e ≡ false → mark p ≡ e → A
is_no_mark e p h q = absurd (true≢false (ap is_made q ∙ h))

-- as many statements stand in front of it in both
pub cut : (r : Stretch) (p : Point) (rest : Body) (ss : List Statement) (b : Body) → AllPlain ss → PlainBody b → before (closed_by r p) rest ≡ block.before ss (tree.runs (mark p) b) → (r ≡ stretch_of ss) × (rest ≡ b)
cut done p rest [] b h g q = (refl, cc)
cut done p rest (block.does e ∷ ss) b h g q = is_no_mark e p h.0 (let i : mark p ≡ e = cc in i)
cut done p rest (block.begins s xs ∷ ss) b h g q = absurd (cc)
cut done p rest (block.binds s d c ∷ ss) b h g q = absurd (cc)
cut (does_then e r) p rest [] b h g q = let i : before (closed_by r p) rest ≡ b = cc in absurd (no_mark_in r p rest (subst PlainBody (sym i) g))
cut (does_then e r) p rest (block.does f ∷ ss) b h g q =
    let i : e ≡ f = cc in let j : before (closed_by r p) rest ≡ block.before ss (tree.runs (mark p) b) = cc in let z = cut r p rest ss b h.1 g j in (ap (λ x. does_then x r) i ∙ ap (λ s. does_then f s) z.0, z.1)
cut (does_then e r) p rest (block.begins s xs ∷ ss) b h g q = absurd (cc)
cut (does_then e r) p rest (block.binds s d c ∷ ss) b h g q = absurd (cc)
cut (declares_then n ys r) p rest [] b h g q = absurd (cc)
cut (declares_then n ys r) p rest (block.does f ∷ ss) b h g q = absurd (cc)
cut (declares_then n ys r) p rest (block.begins s xs ∷ ss) b h g q =
    let i : n ≡ s = cc in let k : ys ≡ xs = cc in let j : before (closed_by r p) rest ≡ block.before ss (tree.runs (mark p) b) = cc in let z = cut r p rest ss b h.1 g j in
    (ap (λ x. declares_then x ys r) i ∙ (ap (λ x. declares_then s x r) k ∙ ap (λ t. declares_then s xs t) z.0), z.1)
cut (declares_then n ys r) p rest (block.binds s d c ∷ ss) b h g q = absurd (cc)
cut (lets_then n w m r) p rest [] b h g q = absurd (cc)
cut (lets_then n w m r) p rest (block.does f ∷ ss) b h g q = absurd (cc)
cut (lets_then n w m r) p rest (block.begins s xs ∷ ss) b h g q = absurd (cc)
cut (lets_then n w m r) p rest (block.binds s d c ∷ ss) b h g q =
    let i : n ≡ s = cc in let k : w ≡ d = cc in let l : m ≡ c = cc in let j : before (closed_by r p) rest ≡ block.before ss (tree.runs (mark p) b) = cc in let z = cut r p rest ss b h.1 g j in
    (ap (λ x. lets_then x w m r) i ∙ (ap (λ x. lets_then s x m r) k ∙ (ap (λ x. lets_then s d x r) l ∙ ap (λ t. lets_then s d c t) z.0)), z.1)

-- the reads where the run is entered are the same
pub unread : (xs : List ℕ) (b c : Body) → block.before (map using xs) b ≡ block.before (map using xs) c → b ≡ c
unread [] b c q = q
unread (x ∷ xs) b c q = unread xs b c (let i : block.before (map using xs) b ≡ block.before (map using xs) c = cc in i)

-- ---- how the relation writes it

reads_before : (xs : List ℕ) (r : Stretch) (b : Body) → before (reading xs r) b ≡ block.before (map using xs) (before r b)
reads_before [] r b = refl
reads_before (x ∷ xs) r b = ap (λ c. tree.runs (tree.read (at_point enters) false (own x)) c) (reads_before xs r b)

none_left_is : (r : Stretch) → with_left r none_left ≡ r
none_left_is done = refl
none_left_is (does_then e r) = ap (λ s. does_then e s) (none_left_is r)
none_left_is (declares_then n xs r) = ap (λ s. declares_then n xs s) (none_left_is r)
none_left_is (lets_then n q c r) = ap (λ s. lets_then n q c s) (none_left_is r)

one_left_is : (r : Stretch) (e : Exp) (p : Point) (b : Body) → before r (tree.runs e (tree.runs (mark p) b)) ≡ before (closed_by (with_left r (a_marked e p)) p) b
one_left_is done e p b = refl
one_left_is (does_then f r) e p b = ap (λ c. tree.runs f c) (one_left_is r e p b)
one_left_is (declares_then n xs r) e p b = ap (λ c. tree.declares n xs c) (one_left_is r e p b)
one_left_is (lets_then n q d r) e p b = ap (λ c. tree.lets n q d c) (one_left_is r e p b)

pub written_so : {items : ℕ → ℕ} {gain : Allowance} {U : List ℕ} {special : List ℕ} {J : Jumping} {R : Renaming} {l : Last} {w : Way} {xs : List ℕ} {end : Body} → Ended items gain U special J R l w xs end → (k : Plan) (r : Stretch) (b : Body)
    → before (marked_run k l r) (with_last l b) ≡ tree.runs (mark enters) (block.before (map using k.params) (before (closed_by (with_left r l) (leaves next)) b))
written_so (gives_outs h g) k r b = ap (λ c. tree.runs (mark enters) c) (reads_before k.params (closed_by r (leaves next)) b ∙ ap (λ s. block.before (map using k.params) (before (closed_by s (leaves next)) b)) (sym (none_left_is r)))
written_so gives_never k r b = ap (λ c. tree.runs (mark enters) c) (reads_before k.params (closed_by r (leaves next)) b ∙ ap (λ s. block.before (map using k.params) (before (closed_by s (leaves next)) b)) (sym (none_left_is r)))
written_so (gives_last {e = e} l) k r b = ap (λ c. tree.runs (mark enters) c) (reads_before k.params r (tree.runs e (tree.runs (mark (leaves next)) b)) ∙ ap (λ c. block.before (map using k.params) c) (one_left_is r e (leaves next) b))
written_so (gives_left {e = e} l) k r b = ap (λ c. tree.runs (mark enters) c) (reads_before k.params r (tree.runs e (tree.runs (mark (leaves next)) b)) ∙ ap (λ c. block.before (map using k.params) c) (one_left_is r e (leaves next) b))
