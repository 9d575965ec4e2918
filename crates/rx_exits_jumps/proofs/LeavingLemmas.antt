-- What is around a run, and the jumps that are found in it.
use Rattle.std.proofs.Common.{◌≡◌, ℕ, List, [], ◌++◌, reverse, Option, Result, Ok, Err, OnOk, IfOk, sym, ap, ◌∙◌}
use Rattle.std.proofs.lemmas.List.{reverse-append, reverse-reverse}
use Rattle.std.specs.declared.alloc.AllocError.{AllocError}
use Rattle.rx_typed.specs.Tree.{Exp}
use Rattle.rx_exits_plan.specs.Blocks.{Statement, declared_by_all}
use Rattle.rx_exits_plan.specs.Spots.{Around, Spot}
use Rattle.rx_exits_plan.specs.Exits.{Jump, leaving, past, spots_in_statements, spots_in_value}
use Rattle.rx_exits_plan.specs.declared.around.Around as stack
use Rattle.rx_exits_plan.specs.PlainSyntax.{plain-Around, grown}
use Rattle.rx_exits_plan.proofs.AroundLemmas.{plain_grown}
use Rattle.rx_exits_jumps.specs.Seen.{ways_out, Found, with_spots}
use Rattle.rx_exits_jumps.proofs.SeenLemmas.{past_is, both_seen}

-- the stacks that stand for what is around a block, and for what its statements declare
pub start_is : (a : Around) (ss : List Statement) (scope loops : List ℕ) → scope ≡ reverse a.scope ++ declared_by_all ss → loops ≡ reverse a.loops
    → plain-Around (record { scope = scope; loops = loops }) ≡ past ss a
start_is a ss scope loops e f =
    ap (λ (l : List ℕ). let b : Around = record { scope = reverse l; loops = reverse loops } in b) e
    ∙ ap (λ (l : List ℕ). let b : Around = record { scope = reverse (reverse a.scope ++ declared_by_all ss); loops = reverse l } in b) f
    ∙ ap (λ (l : List ℕ). let b : Around = record { scope = l; loops = reverse (reverse a.loops) } in b) (reverse-append (reverse a.scope) (declared_by_all ss))
    ∙ ap (λ (l : List ℕ). let b : Around = record { scope = reverse (declared_by_all ss) ++ l; loops = reverse (reverse a.loops) } in b) (reverse-reverse a.scope)
    ∙ ap (λ (l : List ℕ). let b : Around = record { scope = reverse (declared_by_all ss) ++ a.scope; loops = l } in b) (reverse-reverse a.loops)
    ∙ sym (past_is ss a)

-- the scope behind further statements
pub end_is : (a : stack.Around) (b : Around) (ss : List Statement) (scope : List ℕ) → plain-Around a ≡ b → scope ≡ a.scope ++ declared_by_all ss → reverse scope ≡ (past ss b).scope
end_is a b ss scope e f =
    ap reverse f ∙ reverse-append a.scope (declared_by_all ss) ∙ ap (λ (c : Around). reverse (declared_by_all ss) ++ c.scope) e ∙ ap (λ (c : Around). c.scope) (sym (past_is ss b))

-- the statements of a run, and its last value behind them
pub run_seen : (ls : List ℕ) (r : Result (Unit {0}) AllocError) (f f1 f2 : Found) (a a1 : stack.Around) (ss ss' : List Statement) (v v' : Option Exp) → ss' ≡ ss → v' ≡ v
    → f1 ≡ with_spots (ways_out ls) f (spots_in_statements (plain-Around a) ss') → a1 ≡ grown a (declared_by_all ss')
    → OnOk r (f2 ≡ with_spots (ways_out ls) f1 (spots_in_value (plain-Around a1) v'))
    → OnOk r (f2 ≡ with_spots (ways_out ls) f (spots_in_statements (plain-Around a) ss ++ spots_in_value (past ss (plain-Around a)) v))
run_seen ls r f f1 f2 a a1 ss ss' v v' e g first k =
    both_seen (ways_out ls) r f f1 f2 (spots_in_statements (plain-Around a) ss') (spots_in_value (plain-Around a1) v') _ first
    (ap (λ x. spots_in_statements (plain-Around a) x ++ spots_in_value (past x (plain-Around a)) v) (sym e)
    ∙ ap (λ x. spots_in_statements (plain-Around a) ss' ++ spots_in_value (past ss' (plain-Around a)) x) (sym g)
    ∙ ap (λ (x : Around). spots_in_statements (plain-Around a) ss' ++ spots_in_value x v') (past_is ss' (plain-Around a) ∙ sym (plain_grown a (declared_by_all ss')) ∙ ap plain-Around (sym k)))

pub jumps_of : (ls : List ℕ) (f f1 : Found) (ss : List Spot) → f1 ≡ with_spots (ways_out ls) f ss → f.jumps ≡ [] → f1.jumps ≡ leaving ls ss
jumps_of ls f f1 ss e g = ap (λ (x : Found). x.jumps) e ∙ ap (λ (l : List Jump). l ++ leaving ls ss) g

pub run_seen_as : (ls ls' : List ℕ) (r : Result (Unit {0}) AllocError) (f f2 : Found) (ss : List Spot) → ls' ≡ ls → OnOk r (f2 ≡ with_spots (ways_out ls') f ss) → OnOk r (f2 ≡ with_spots (ways_out ls) f ss)
run_seen_as ls ls' (Ok u) f f2 ss e h = h ∙ ap (λ l. with_spots (ways_out l) f ss) e
run_seen_as ls ls' (Err v) f f2 ss e h = tt

pub scope_as : (r : Result (List ℕ) AllocError) (x y : List ℕ) → x ≡ y → IfOk r (λ it. it ≡ x) → IfOk r (λ it. it ≡ y)
scope_as (Ok it) x y e h = h ∙ e
scope_as (Err v) x y e h = tt
