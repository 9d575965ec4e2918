-- What is had of a run, put together.
use Rattle.std.proofs.Common.{◌≡◌, ℕ, ◌≤◌, Bool, true, false, List, [], ◌∷◌, refl}
use Rattle.rx_typed.specs.Tree.{Temporary, constant, negation, inversion, operation, lazy, tuple, struct, variant_of}
use Rattle.rx_lower_walks.specs.Actions.{Act, Declare, Dead, Read, Write, Borrow, Test, Call, Build, Input, Print, Give, Action}
use Rattle.rx_lower_walks.specs.Walks.{actions_in, Among}
use Rattle.rx_lower_walks.specs.Orders.{Order, order_function}
use Rattle.rx_exits_plan.specs.Runs.{Sits}
use Rattle.rx_exits_plan.specs.Coming.{HasNoMark}
use Rattle.rx_exits_plan.specs.Spots.{spots_of_function}
use Rattle.rx_exits_plan.specs.Asked.{Asked}
use Rattle.rx_exits_plan.specs.Plan.{Plan, IsPlan}
use Rattle.rx_engine_related.specs.OneSite.{blocks_at}
use Rattle.rx_engine_related.specs.Accepted.{Accepted}
use Rattle.rx_engine_related.specs.Tailed.{lets_pass, HasNoPass}
use Rattle.rx_engine_related.specs.Had.{Had}
use Rattle.rx_engine_related.specs.ExtractsTail.{HadTail}
use Rattle.rx_engine_validated.specs.Refused.{NotRefused}

pub had_if : (A : Asked) (muts : List Bool) (k : Plan) → A.run.tail ≡ false → IsPlan A k → NotRefused A muts k → Sits A.function A.run A.home → Accepted A muts → HasNoMark (order_function A.function)
    → blocks_at A.run.block (spots_of_function A.function) ≤ 1 → Had A muts k
had_if A muts k short plan kept sits accepted unmarked one_block = record {
  short = short;
  plan = plan;
  accepted = accepted;
  sits = sits;
  unmarked = unmarked;
  one_block = one_block;
  whole = kept.whole;
  unaliased = kept.unaliased;
  passed = kept.passed;
}

-- ---- with the block's tail

-- what is built of no field is no value that is let pass
abbrev OfNoField : Act → Type 0
OfNoField c = (js : List ℕ) (us : List Temporary) (d : Temporary) → c ≡ Build lazy js us d → js ≡ []

not_passed : (c : Act) → OfNoField c → lets_pass c ≡ false
not_passed (Build lazy [] us d) h = refl
not_passed (Build lazy (j ∷ js) us d) h = let e = h (j ∷ js) us d refl in absurd (cc)
not_passed (Build (constant z) js us d) h = refl
not_passed (Build negation js us d) h = refl
not_passed (Build inversion js us d) h = refl
not_passed (Build (operation o) js us d) h = refl
not_passed (Build tuple js us d) h = refl
not_passed (Build (struct i) js us d) h = refl
not_passed (Build (variant_of i v) js us d) h = refl
not_passed (Declare x) h = refl
not_passed (Dead x) h = refl
not_passed (Read m p d) h = refl
not_passed (Write p t ss) h = refl
not_passed (Borrow k p d) h = refl
not_passed (Test p c) h = refl
not_passed (Call g ts d) h = refl
not_passed (Input d) h = refl
not_passed (Print t) h = refl
not_passed (Give t) h = refl

pub none_passed : (s : Order) → ((a : Action) (js : List ℕ) (us : List Temporary) (d : Temporary) → Among a (actions_in s) → a.act ≡ Build lazy js us d → js ≡ []) → HasNoPass s
none_passed s h = record { none = λ a i. not_passed a.act (λ js us d. h a js us d i) }

pub had_tail_if : (A : Asked) (muts : List Bool) (k : Plan) → A.run.tail ≡ true → IsPlan A k → NotRefused A muts k → Sits A.function A.run A.home → Accepted A muts → HasNoMark (order_function A.function)
    → HasNoPass (order_function A.function) → blocks_at A.run.block (spots_of_function A.function) ≤ 1 → HadTail A muts k
had_tail_if A muts k tail plan kept sits accepted unmarked unpassed one_block = record {
  tail = tail;
  plan = plan;
  accepted = accepted;
  sits = sits;
  unmarked = unmarked;
  unpassed = unpassed;
  one_block = one_block;
  whole = kept.whole;
  unaliased = kept.unaliased;
  passed = kept.passed;
}
