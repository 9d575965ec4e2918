-- The marked function is the one that runs as the function does, with further marks behind what is returned: form by form.
use Rattle.std.proofs.Common.{◌≡◌, ℕ, ◌==◌, if◌then◌else◌, Bool, true, false, List, map, refl}
use Rattle.rx_typed.specs.Tree.{Temporary, Body, ends, Function}
use Rattle.rx_lower_walks.specs.Orders.{order_body, order_function}
use Rattle.rx_exits_plan.specs.Blocks.{before, tail}
use Rattle.rx_exits_plan.specs.Runs.{Run, in_front, inside, behind}
use Rattle.rx_exits_plan.specs.Changed.{changed_statement}
use Rattle.rx_exits_plan.specs.Marked.{marking, entering, ended, ended_tail, marked_body, at_the_block, marked}
use Rattle.rx_engine_related.specs.Running.{passing, running_body, in_the_block, running}
use Rattle.rx_engine_related.proofs.Further.{Furthered, as_it_was, f_behind, f_then, f_or, f_otherwise, f_ending, f_passes}
use Rattle.rx_engine_related.proofs.Formwise.{Congruent, Furthers, before_further, statements_further, function_further}

pub congruent : Congruent Furthered
congruent = record { same = as_it_was; sequence = f_then; choice = f_or; fallback = f_otherwise; ending = f_ending; passes = f_passes }

-- ---- the marks

pub inside_further : (ls : List ℕ) → Furthers Furthered (marking ls) (passing ls)
inside_further ls = record {
  jump_mark = λ m l k. refl;
  return_mark = λ e f q. q;
  at_block = λ n was b c d h. h;
  at_jump = λ m l k d. as_it_was;
  at_return = λ e f q h. f_behind h;
}

body_of : (r : Run) (ls xs : List ℕ) (b : Body) (n : ℕ) (d : Temporary) (t : Bool) → t ≡ false
    → Furthered (order_body (before (in_front r b) (before (entering xs) (before (map (changed_statement (marking ls)) (inside r b)) (before (ended t) (before (behind r b) (ends (ended_tail t r.block ls (tail b)))))))) n d)
    (order_body (running_body r ls xs b) n d)
body_of r ls xs b n d false e =
    before_further Furthered congruent (in_front r b) _ _ n d (before_further Furthered congruent (entering xs) _ _ n d (statements_further Furthered congruent (marking ls) (passing ls) (inside_further ls) (inside r b) _ _ n d as_it_was))
body_of r ls xs b n d true e = absurd (cc)

chosen : (t : Bool) (r : Run) (ls xs : List ℕ) (n : ℕ) (was b c : Body) (d : Temporary) → r.tail ≡ false → Furthered (order_body b n d) (order_body c n d)
    → Furthered (order_body (if t then marked_body r ls xs was else b) n d) (order_body (if t then running_body r ls xs was else c) n d)
chosen true r ls xs n was b c d e h = body_of r ls xs was n d r.tail e
chosen false r ls xs n was b c d e h = h

block_further : (r : Run) (ls xs : List ℕ) → r.tail ≡ false → Furthers Furthered (at_the_block r ls xs) (in_the_block r ls xs)
block_further r ls xs e = record {
  jump_mark = λ m l k. refl;
  return_mark = λ f g q. q;
  at_block = λ n was b c d h. chosen (n == r.block) r ls xs n was b c d e h;
  at_jump = λ m l k d. as_it_was;
  at_return = λ f g q h. h;
}

pub running_further : (r : Run) (ls xs : List ℕ) → r.tail ≡ false → (g : Function) → Furthered (order_function (marked r ls xs g)) (order_function (running r ls xs g))
running_further r ls xs e g = function_further Furthered congruent (at_the_block r ls xs) (in_the_block r ls xs) (block_further r ls xs e) g
