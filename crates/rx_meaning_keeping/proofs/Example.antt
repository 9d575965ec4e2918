-- A program that is as the strict meaning asks: `fn main() {}`, whose walks do nothing but give.
use Rattle.std.proofs.Common.{◌≡◌, ℕ, zero, suc, true, List, [], ◌∷◌, ◌++◌, Some, None, refl, sym, subst, true≢false}
use Rattle.rx_core.specs.declared.types.Step.{Step}
use Rattle.rx_typed.specs.Tree as tree
use Rattle.rx_typed.specs.Tree.{Place, Function}
use Rattle.rx_lower_walks.specs.Actions.{Act, Declare, Dead, Read, Write, Borrow, Test, Call, Build, Input, Print, Give, Action}
use Rattle.rx_lower_walks.specs.Orders.{Order, order_function}
use Rattle.rx_lower_walks.specs.Orders as order
use Rattle.rx_lower_walks.specs.Walks.{Walk, rests, stops, nothing, acts, both, first, one, other, leave, fail, holds, next, ends, jumps, halts, last, more, IsWalk, Among, here, there, actions_in}
use Rattle.rx_meaning.specs.Expressions.{Functions}
use Rattle.rx_facts_tables.specs.Places.{Frame}
use Rattle.rx_facts_tables.specs.Setting.{looked_at}
use Rattle.rx_facts_tables.specs.Wholes as wholes
use Rattle.rx_facts_tables.specs.Initialised.{Initialised}
use Rattle.rx_meaning_keeping.specs.Formed.{Any, Formed}
use Rattle.rx_meaning_keeping.specs.Keeping.{IsFunction}
use Rattle.rx_meaning_keeping.specs.Ready.{Ready, IsInitial}

-- ---- orders without variables and loops: what their walks hold they do themselves

abbrev Simple : Order → Type 0
Simple order.nothing = Unit {0}
Simple (order.act a) = Unit {0}
Simple (order.then s t) = Simple s × Simple t
Simple (order.leave x) = Unit {0}
Simple _ = ⊥

in_front : {a : Action} (us vs : List Action) → Among a us → Among a (us ++ vs)
in_front _ vs here = here
in_front _ vs (there h) = there (in_front _ vs h)

behind : {a : Action} (us vs : List Action) → Among a vs → Among a (us ++ vs)
behind [] vs h = h
behind (u ∷ us) vs h = there (behind us vs h)

either : {a : Action} {B : Type 0} (us vs : List Action) → Among a (us ++ vs) → (Among a us → B) → (Among a vs → B) → B
either [] vs h f g = g h
either (u ∷ us) vs here f g = f here
either (u ∷ us) vs (there h) f g = either us vs h (λ k. f (there k)) g

of_simple : {s : Order} {w : List Action} {o : _} → Simple s → Walk s w o → (a : Action) → Among a w → Among a (actions_in s)
of_simple p rests a k = elim k [ ]
of_simple p (stops h) a k = of_simple p h a k
of_simple p nothing a k = k
of_simple p acts a k = k
of_simple p (both {s = s} {t = t} {us = us} {vs = vs} h g) a k = either us vs k (λ i. in_front (actions_in s) (actions_in t) (of_simple p.0 h a i)) (λ i. behind (actions_in s) (actions_in t) (of_simple p.1 g a i))
of_simple p (first {s = s} {t = t} e h) a k = in_front (actions_in s) (actions_in t) (of_simple p.0 h a k)
of_simple p leave a k = k
of_simple p (one h) a k = absurd p
of_simple p (other h) a k = absurd p
of_simple p fail a k = absurd p
of_simple p (holds e h) a k = absurd p
of_simple p (next h g) a k = absurd p
of_simple p (ends h) a k = absurd p
of_simple p (jumps h) a k = absurd p
of_simple p (halts h) a k = absurd p
of_simple p (last h e) a k = absurd p
of_simple p (more h e g) a k = absurd p

-- ---- the program

main : Function
main = record { params = []; body = tree.give (record { node = 1; typ = None }) (tree.unit (record { node = 2; typ = None })) }

abbrev program : Functions
program = Some main ∷ []

no_frame : Frame
no_frame = record { declared = []; sizes = λ i. 1; types = [] }

-- it gives
abbrev IsQuiet : Act → Type 0
IsQuiet (Give t) = Unit {0}
IsQuiet _ = ⊥

in_list : (w : List Action) (a : Action) (rest : List Action) → Among a ((w ++ a ∷ []) ++ rest)
in_list [] a rest = here
in_list (b ∷ w) a rest = there (in_list w a rest)

of_one : (a b : Action) → Among a (b ∷ []) → IsQuiet b.act → IsQuiet a.act
of_one a _ here q = q
of_one a b (there h) q = elim h [ ]

quiet : (w : List Action) (a : Action) → IsWalk main (w ++ a ∷ []) → IsQuiet a.act
unfolding main
quiet w a is = of_one a _ (of_simple (tt, (tt, tt)) is.2 a (in_list w a is.0)) tt

no_look : (x : Act) (p : Place) → IsQuiet x → looked_at x ≡ Some p → ⊥
no_look (Give t) p q e = cc
no_look (Dead y) p q e = q
no_look (Read m r d) p q e = q
no_look (Borrow m r d) p q e = q
no_look (Test r c) p q e = q
no_look (Declare y) p q e = q
no_look (Write r t ss) p q e = q
no_look (Call g ts d) p q e = q
no_look (Build m js ts d) p q e = q
no_look (Input d) p q e = q
no_look (Print t) p q e = q

no_enter : (x : Act) (y : ℕ) (qs : List Step) → IsQuiet x → wholes.enters y qs x ≡ true → ⊥
no_enter (Write r t ss) y qs q e = q
no_enter (Give t) y qs q e = true≢false (sym e)
no_enter _ y qs q e = q

no_assign : (x : Act) (y : ℕ) → IsQuiet x → wholes.assigns y x ≡ true → ⊥
no_assign (Write r t ss) y q e = q
no_assign (Give t) y q e = true≢false (sym e)
no_assign _ y q e = q

is_main : (f : ℕ) (G : Function) → IsFunction program f G → main ≡ G
is_main zero G e = cc
is_main (suc f) G e = cc

initial : IsInitial program (λ f. no_frame) (λ f. [])
unfolding no_frame main
initial = record {
  sized = λ f i. refl;
  formed = λ f G q. subst (λ z. Formed Any [] z.body (tree.temporary_of z.body)) (is_main f G q) tt;
  ready = λ f G q. subst (λ z. Ready no_frame z) (is_main f G q) (record {
    begins = λ w n x is. absurd (quiet w _ is);
    ends = λ w n x is. absurd (quiet w _ is);
    places = λ w a x ss is e b. absurd (no_look a.act _ (quiet w a is) e);
    makes = λ w n m js ts d is vs v pr h e. absurd (quiet w _ is);
  });
  initialised = λ f G q. subst (λ z. Initialised no_frame [] z) (is_main f G q) (λ w a is. record {
    looks = λ p e. absurd (no_look a.act p (quiet w a is) e);
    enters = λ x qs e. absurd (no_enter a.act x qs (quiet w a is) e);
    assigns = λ x e fx. absurd (no_assign a.act x (quiet w a is) e);
  });
}
