-- A walk by its choices: at each `or` the next one says whether the first part is taken. It is a walk.
use Rattle.std.proofs.Common.{◌≡◌, ℕ, zero, suc, Bool, true, false, nat_eq, List, [], ◌∷◌, ◌++◌, refl, eqb-true, if◌then◌else◌}
use Rattle.std.proofs.lemmas.Bool.{eqb-false}
use Rattle.rx_lower_walks.specs.Actions.{Dead, Action, does}
use Rattle.rx_lower_walks.specs.Orders.{Exit, breaks, continues, returns, exit_node, Order}
use Rattle.rx_lower_walks.specs.Orders as order
use Rattle.rx_lower_walks.specs.Walks.{Out, on, leaves, fails, stopped, Walk}
use Rattle.rx_lower_walks.specs.Walks as walk

-- what was done, how it ended, the choices that are left
pub record Way : Type 0 where
  pub did : List Action
  pub out : Out
  pub left : List Bool

abbrev pub way : List Action → Out → List Bool → Way
way us o cs = record { did = us; out = o; left = cs }

abbrev pub behind : List Action → Way → Way
behind us w = way (us ++ w.did) w.out w.left

-- a part, and what follows it
abbrev pub then_way : List Action → Out → List Bool → (List Bool → Way) → Way
then_way us on cs f = behind us (f cs)
then_way us o cs f = way us o cs

abbrev pub otherwise_way : List Action → Out → List Bool → (List Bool → Way) → Way
otherwise_way us fails cs f = behind us (f cs)
otherwise_way us o cs f = way us o cs

abbrev pub or_way : List Bool → (List Bool → Way) → (List Bool → Way) → Way
or_way [] f g = way [] stopped []
or_way (true ∷ cs) f g = f cs
or_way (false ∷ cs) f g = g cs

abbrev pub ended_way : ℕ → ℕ → List Action → Out → List Bool → Way
ended_way n x us on cs = way (us ++ does n (Dead x) ∷ []) on cs
ended_way n x us (leaves j) cs = way (us ++ does (exit_node j) (Dead x) ∷ []) (leaves j) cs
ended_way n x us _ cs = way us stopped cs

-- the passes of a loop, as many at most
abbrev pub round : ℕ → List Action → Out → List Bool → (List Bool → Way) → Way
round l us on cs again = behind us (again cs)
round l us (leaves (continues n k)) cs again = if nat_eq k l then behind us (again cs) else way us (leaves (continues n k)) cs
round l us (leaves (breaks n k)) cs again = if nat_eq k l then way us on cs else way us (leaves (breaks n k)) cs
round l us (leaves (returns n)) cs again = way us (leaves (returns n)) cs
round l us _ cs again = way us stopped cs

abbrev pub rounds : ℕ → ℕ → (List Bool → Way) → List Bool → Way
rounds zero l f cs = way [] stopped cs
rounds (suc n) l f cs = round l (f cs).did (f cs).out (f cs).left (λ cs. rounds n l f cs)

abbrev pub walked : ℕ → Order → List Bool → Way
walked n order.nothing cs = way [] on cs
walked n order.nowhere cs = way [] stopped cs
walked n (order.act a) cs = way (a ∷ []) on cs
walked n (order.then s t) cs = then_way (walked n s cs).did (walked n s cs).out (walked n s cs).left (λ cs. walked n t cs)
walked n (order.or s t) cs = or_way cs (λ cs. walked n s cs) (λ cs. walked n t cs)
walked n (order.leave x) cs = way [] (leaves x) cs
walked n order.fail cs = way [] fails cs
walked n (order.otherwise s t) cs = otherwise_way (walked n s cs).did (walked n s cs).out (walked n s cs).left (λ cs. walked n t cs)
walked n (order.ending i x s) cs = ended_way i x (walked n s cs).did (walked n s cs).out (walked n s cs).left
walked n (order.passes l s) cs = rounds n l (λ cs. walked n s cs) cs

-- ---- it is a walk

abbrev IsWay : Order → Way → Type 0
IsWay s w = Walk s w.did w.out

then_walks : (s t : Order) (us : List Action) (o : Out) (cs : List Bool) (f : List Bool → Way) → Walk s us o → ((cs : List Bool) → IsWay t (f cs)) → IsWay (order.then s t) (then_way us o cs f)
then_walks s t us on cs f h k = walk.both h (k cs)
then_walks s t us (leaves x) cs f h k = walk.first tt h
then_walks s t us fails cs f h k = walk.first tt h
then_walks s t us stopped cs f h k = walk.first tt h

otherwise_walks : (s t : Order) (us : List Action) (o : Out) (cs : List Bool) (f : List Bool → Way) → Walk s us o → ((cs : List Bool) → IsWay t (f cs)) → IsWay (order.otherwise s t) (otherwise_way us o cs f)
otherwise_walks s t us on cs f h k = walk.holds tt h
otherwise_walks s t us (leaves x) cs f h k = walk.holds tt h
otherwise_walks s t us fails cs f h k = walk.next h (k cs)
otherwise_walks s t us stopped cs f h k = walk.holds tt h

or_walks : (s t : Order) (cs : List Bool) (f g : List Bool → Way) → ((cs : List Bool) → IsWay s (f cs)) → ((cs : List Bool) → IsWay t (g cs)) → IsWay (order.or s t) (or_way cs f g)
or_walks s t [] f g h k = walk.rests
or_walks s t (true ∷ cs) f g h k = walk.one (h cs)
or_walks s t (false ∷ cs) f g h k = walk.other (k cs)

ended_walks : (s : Order) (n x : ℕ) (us : List Action) (o : Out) (cs : List Bool) → Walk s us o → IsWay (order.ending n x s) (ended_way n x us o cs)
ended_walks s n x us on cs h = walk.ends h
ended_walks s n x us (leaves j) cs h = walk.jumps h
ended_walks s n x us fails cs h = walk.halts (walk.stops h)
ended_walks s n x us stopped cs h = walk.halts h

round_walks : (s : Order) (l : ℕ) (us : List Action) (o : Out) (cs : List Bool) (again : List Bool → Way) → Walk s us o → ((cs : List Bool) → IsWay (order.passes l s) (again cs)) → IsWay (order.passes l s) (round l us o cs again)
round_walks s l us on cs again h k = walk.more h walk.by_end (k cs)
round_walks s l us (leaves (continues n j)) cs again h k = by (nat_eq j l) refl
  where
    by : (b : Bool) → nat_eq j l ≡ b → IsWay (order.passes l s) (if b then behind us (again cs) else way us (leaves (continues n j)) cs)
    by true e = walk.more h (walk.by_continue (eqb-true j l e)) (k cs)
    by false e = walk.last h (walk.by_outer_continue (eqb-false j l e))
round_walks s l us (leaves (breaks n j)) cs again h k = by (nat_eq j l) refl
  where
    by : (b : Bool) → nat_eq j l ≡ b → IsWay (order.passes l s) (if b then way us on cs else way us (leaves (breaks n j)) cs)
    by true e = walk.last h (walk.by_break (eqb-true j l e))
    by false e = walk.last h (walk.by_outer_break (eqb-false j l e))
round_walks s l us (leaves (returns n)) cs again h k = walk.last h walk.by_return
round_walks s l us fails cs again h k = walk.last (walk.stops h) walk.by_stop
round_walks s l us stopped cs again h k = walk.last h walk.by_stop

rounds_walk : (n : ℕ) (s : Order) (l : ℕ) (f : List Bool → Way) (cs : List Bool) → ((cs : List Bool) → IsWay s (f cs)) → IsWay (order.passes l s) (rounds n l f cs)
rounds_walk zero s l f cs h = walk.rests
rounds_walk (suc n) s l f cs h = round_walks s l (f cs).did (f cs).out (f cs).left _ (h cs) (λ cs. rounds_walk n s l f cs h)

pub walked_walks : (n : ℕ) (s : Order) (cs : List Bool) → Walk s (walked n s cs).did (walked n s cs).out
walked_walks n order.nothing cs = walk.nothing
walked_walks n order.nowhere cs = walk.rests
walked_walks n (order.act a) cs = walk.acts
walked_walks n (order.then s t) cs = then_walks s t _ _ _ _ (walked_walks n s cs) (λ cs. walked_walks n t cs)
walked_walks n (order.or s t) cs = or_walks s t cs _ _ (λ cs. walked_walks n s cs) (λ cs. walked_walks n t cs)
walked_walks n (order.leave x) cs = walk.leave
walked_walks n order.fail cs = walk.fail
walked_walks n (order.otherwise s t) cs = otherwise_walks s t _ _ _ _ (walked_walks n s cs) (λ cs. walked_walks n t cs)
walked_walks n (order.ending i x s) cs = ended_walks s i x _ _ _ (walked_walks n s cs)
walked_walks n (order.passes l s) cs = rounds_walk n s l _ cs (λ cs. walked_walks n s cs)
