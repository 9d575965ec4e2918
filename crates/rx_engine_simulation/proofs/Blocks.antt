-- What walked through statements of a block has come to what follows them.
use Rattle.std.proofs.Common.{ℕ, List, [], ◌∷◌, ◌++◌, sym, subst, append_assoc}
use Rattle.rx_typed.specs.Tree.{Body, Temporary}
use Rattle.rx_lower_walks.specs.Matching.{Binding}
use Rattle.rx_lower_walks.specs.Actions.{Action, Subject, declared, written}
use Rattle.rx_lower_walks.specs.Orders.{Order, order_body, declaring, binding}
use Rattle.rx_lower_walks.specs.Walks as walk
use Rattle.rx_exits_plan.specs.Coming.{Into, all, in_second, in_scope}
use Rattle.rx_engine_simulation.specs.Histories.{Facts}
use Rattle.rx_engine_simulation.specs.Blocks.{Stretch, before, declared_all, Binds, binds_none, binds_and, Through, through_none, through_run, through_declaration, through_let}
use Rattle.rx_engine_simulation.specs.Arrivals.{to_rest, Arrives, arrives_rest}

declared_into : {q o : Order} {w : List Action} (n b : ℕ) (xs : List ℕ) → Into q o w → Into q (declaring n xs b o) (declared_all n xs ++ w)
declared_into n b [] i = i
declared_into n b (x ∷ xs) i = in_second walk.acts (in_scope (declared_into n b xs i))

bound_into : {q o : Order} {S : Subject} {bs : List Binding} {v w : List Action} (n : ℕ) → Binds S bs v → Into q o w → Into q (binding S bs n o) (v ++ w)
bound_into n binds_none i = i
bound_into {q} {o} {S} {w = w} n (binds_and {b = a} {bs = bs} {u = u} {w = v} k b) i =
    subst (λ l. Into q (binding S (a ∷ bs) n o) l) (sym (append_assoc u (declared a ∷ written S a ∷ v) w)) (in_second k (in_second walk.acts (in_second walk.acts (in_scope (bound_into n b i)))))

pub through_into : {r : Stretch} {w : List Action} → Through r w → (rest : Body) (i : ℕ) (t : Temporary) → Into (order_body rest i t) (order_body (before r rest) i t) w
through_into through_none rest i t = all
through_into (through_run k th) rest i t = in_second k (through_into th rest i t)
through_into (through_declaration {n = n} {xs = xs} th) rest i t = declared_into n i xs (through_into th rest i t)
through_into (through_let k b th) rest i t = in_second k (bound_into i b (through_into th rest i t))

-- so what is known where a walk has come to the rest is known where it has walked through the statements
pub arrives_comes : {V : Facts} (r : Stretch) (rest : Body) {h : List Action} → Arrives V (to_rest (before r rest) r) h → (i : ℕ) × (t : Temporary) × V.Comes (order_body rest i t) h
arrives_comes {V} r rest (arrives_rest i t c th) = (i, t, V.within (through_into th rest i t) c)
