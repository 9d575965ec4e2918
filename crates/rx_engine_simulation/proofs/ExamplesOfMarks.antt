-- A function whose branch moves a variable, which became a call of a new function: histories of the function itself do not tell that the
-- variable is needed no more behind the branch, those of the function with marks do. The function with marks has the function's runs,
-- and the answer is related to it.
use Rattle.std.proofs.Common.{◌≡◌, ℕ, zero, suc, Bool, true, false, nat_eq, if◌then◌else◌, List, [], ◌∷◌, ◌++◌, inl, inr, ⊎_elim, Some, None, refl, sym, ap, subst, arith, ℤ, eqb-true}
use Rattle.rx_typed.specs.Tree as tree
use Rattle.rx_typed.specs.Tree.{Exp, Body, Temporary, Parameter, Function, own, temporary_at}
use Rattle.rx_lower_walks.specs.Actions.{Act, Action, Dead, Read, does}
use Rattle.rx_lower_walks.specs.Orders as orders
use Rattle.rx_lower_walks.specs.Orders.{Order, order, order_body, order_function, declared_parameter, written_parameter}
use Rattle.rx_lower_walks.specs.Walks as walk
use Rattle.rx_lower_walks.specs.Walks.{Walk, actions_in, Among, here, there, EndsVariable}
use Rattle.rx_lower_walks.proofs.HeldLemmas.{Own}
use Rattle.rx_exits_plan.specs.Points.{enters, leaves, next}
use Rattle.rx_exits_plan.specs.Marked.{mark, shown}
use Rattle.rx_exits_plan.specs.Coming.{Into, in_first, in_second, in_scope}
use Rattle.rx_meaning.specs.declared.outcome.End.{End}
use Rattle.rx_meaning.specs.Values.{element}
use Rattle.rx_meaning.specs.Results.{bind, after, result_of}
use Rattle.rx_meaning.specs.Patterns.{decided, tested, closed, bound, took, begun}
use Rattle.rx_meaning.specs.Expressions.{value, take_turn, passed, returned, with_arguments, below_level}
use Rattle.rx_meaning.specs.Programs.{Program, run, UpTo}
use Rattle.std.specs.Fmt.{digits}
use Rattle.rx_engine_simulation.specs.Histories.{put, Facts, Living, asked, now, later, Uses, Written, Declares, Borrowed, BorrowsOwn}
use Rattle.rx_engine_simulation.specs.Sights.{In, plain, free, special, Sight, sight, Renaming, sight_of}
use Rattle.rx_engine_simulation.specs.Places.{looking, LikePlace, direct, no_steps, of_temporary}
use Rattle.rx_engine_simulation.specs.Binders.{no_param, param_and, new_plain, new_special, no_binding, no_test, test_and}
use Rattle.rx_engine_simulation.specs.Like.{LikeExp, opens_in, reads, builds, units, calls, blocks, chooses, gives, no_operands, operands_and, of_values, no_arms, arms_and, ends_in, runs_on}
use Rattle.rx_engine_simulation.specs.Openings.{Openings}
use Rattle.rx_engine_simulation.specs.Turns.{Allowance}
use Rattle.rx_engine_simulation.specs.Programs.{whole_jumps, About, Untouched, ComesTo, IsHistory, facts_of, LikeFunction, LikeEntry, functions, neither}
use Rattle.rx_engine_simulation.specs.Jumps.{Jumping}
use Rattle.rx_engine_simulation.specs.Passing.{New, passes_none, passes_move, no_local, none_absent}
use Rattle.rx_engine_simulation.specs.Arrivals.{past, then_mark, Arrives, arrives_then}
use Rattle.rx_engine_simulation.specs.Handing.{drops, redeclares_none}
use Rattle.rx_engine_simulation.specs.Blocks.{Stretch, done, before}
use Rattle.rx_engine_simulation.specs.Marks.{reading, with_mark, marks, marks_statements}
use Rattle.rx_engine_simulation.specs.Stretches.{both_done, only_marks}
use Rattle.rx_engine_simulation.specs.Endings.{a_marked, a_tail, with_last, left_marked, end_is}
use Rattle.rx_engine_simulation.specs.Statements.{body_of, calls_alone, goes_on_marked, hands_on, StatementsBecomeCall, statements_become_call}
use Rattle.rx_engine_simulation.specs.Statements as statements
use Rattle.rx_engine_simulation.specs.Called.{calls_of, a_turn, WithCall}
use Rattle.rx_engine_simulation.specs.Marked.{Marked}
use Rattle.rx_engine_simulation.specs.Astray.{OrAstray}
use Rattle.rx_engine_simulation.proofs.Marked.{marked_answer}
use Rattle.rx_engine_simulation.proofs.Histories.{came, never_borrowed}
use Rattle.rx_engine_simulation.proofs.MarksTell.{comes_on, into_held, written_on, AllClean, clean_then, clean_ending, clean_all, clean_history}
use Rattle.rx_engine_simulation.proofs.ExamplesOfStatements.{m, number, none_some, none_seen}

-- if true { a; }
abbrev branch : ℕ → Exp
branch x = tree.choose (m 3) (tree.of_value (tree.build (m 4) (tree.constant (tree.truth true)) tree.no_operand)) (tree.arm_and (tree.exactly 5 (tree.truth true)) (tree.read (m 6) true (own x)) (tree.arm_and tree.any (tree.unit (m 3)) tree.no_arm))

abbrev rest : Body
rest = tree.ends (tree.give (m 1) (tree.unit (m 1)))

abbrev taking : Body → Function
taking b = record { params = record { node = 2; variable = 0 } ∷ []; body = tree.block (m 1) b }

-- fn f(a: S) { if true { a; } }
abbrev plain_one : Function
plain_one = taking (tree.runs (branch 0) rest)

-- the marks around the branch, and the read of `a` in front of it
abbrev entry : Stretch
entry = with_mark enters (0 ∷ []) done

abbrev with_marks : Body → Body
with_marks b = before entry (with_last (a_marked (branch 0) (leaves next)) b)

abbrev marked_one : Function
marked_one = taking (with_marks rest)

-- fn f(a: S) { g(a); }
abbrev call_of : Exp
call_of = tree.call (m 7) 2 (tree.operand_and 0 (tree.read (m 8) true (own 0)) tree.no_operand)

abbrev calling_one : Function
calling_one = taking (tree.runs call_of rest)

-- fn g(a: S) { if true { a; } }
abbrev new : New
new = record { number = 2; function = record { params = record { node = 9; variable = 4 } ∷ []; body = body_of (m 10) [] done (tree.ends (tree.give (m 10) (branch 4))) } }

-- fn main() { f(7); }
abbrev main : Function
main = record { params = []; body = tree.block (m 1) (tree.runs (tree.call (m 2) 1 (tree.operand_and 0 (number 3 7) tree.no_operand)) rest) }

abbrev program : Program
program = record { functions = Some main ∷ Some plain_one ∷ []; main = 0 }

abbrev text : Program
text = record { functions = Some main ∷ Some marked_one ∷ []; main = 0 }

abbrev answer : Program
answer = record { functions = Some main ∷ Some calling_one ∷ Some new.function ∷ []; main = 0 }

-- ---- histories of the function with marks

abbrev shows : Action
shows = shown (leaves next)

abbrev the_body : Order
the_body = order_body (with_marks rest) 1 (temporary_at 1 0)

-- the body's parts
abbrev branching : Order
branching = order (branch 0) (temporary_at 3 0)

abbrev behind : Order
behind = order_body (tree.runs (mark (leaves next)) rest) 1 (temporary_at 1 0)

abbrev declared_first : Action
declared_first = declared_parameter (record { node = 2; variable = 0 })

abbrev written_first : Action
written_first = written_parameter (record { node = 2; variable = 0 })

uses_none : (a : Action) → Own a (actions_in behind) → Uses a.act 0 → ⊥
uses_none a (inl here) u = u
uses_none a (inl (there here)) u = u
uses_none a (inl (there (there i))) u = elim i [ ]
uses_none a (inr e) u = ended a.act e u
  where
    ended : (a : Act) → EndsVariable a → Uses a 0 → ⊥
    ended (Dead y) e u = u
    ended _ e u = absurd e

not_ended : EndsVariable shows.act → ⊥
not_ended e = e

not_in_branch : Own shows (actions_in branching) → ⊥
not_in_branch (inl (there (there (there i)))) = elim i [ ]
not_in_branch (inr e) = e

not_entering : Own shows (actions_in (order (mark enters) (temporary_at 0 0))) → ⊥
not_entering (inl (there i)) = elim i [ ]
not_entering (inr e) = e

not_one : (a : Action) → (shows.act ≡ a.act → ⊥) → Own shows (a ∷ []) → ⊥
not_one a n (inl here) = n refl
not_one a n (inl (there i)) = elim i [ ]
not_one a n (inr e) = e

all_clean : AllClean shows 0 (order_function marked_one)
all_clean =
    clean_then shows 0 (not_one declared_first (λ e. cc)) (clean_then shows 0 (not_one written_first (λ e. cc)) (clean_ending shows 0
    (clean_then shows 0 not_entering (clean_then shows 0 (not_one (does 0 (Read false (own 0) (temporary_at 0 0))) (λ e. cc)) (clean_then shows 0 not_in_branch (clean_all shows 0 uses_none))))))

-- a history that came to a body that begins with the mark of the entry, and began in the function, holds the variable's value
abbrev begins_marked : Body → ℕ → Temporary → Order
begins_marked b i t = order_body (tree.runs (mark enters) b) i t

declares_none : (a : Action) → Own a (actions_in the_body) → Declares a.act 0 → ⊥
declares_none a (inl here) d = d
declares_none a (inl (there here)) d = d
declares_none a (inl (there (there here))) d = d
declares_none a (inl (there (there (there here)))) d = d
declares_none a (inl (there (there (there (there here))))) d = d
declares_none a (inl (there (there (there (there (there here)))))) d = d
declares_none a (inl (there (there (there (there (there (there here))))))) d = d
declares_none a (inl (there (there (there (there (there (there (there i)))))))) d = elim i [ ]
declares_none a (inr e) d = ended a.act e d
  where
    ended : (a : Act) → EndsVariable a → Declares a 0 → ⊥
    ended (Dead y) e d = d
    ended _ e d = absurd e

not_act : {s t : Order} {a : Action} {w : List Action} → Into (orders.then s t) (orders.act a) w → ⊥
not_act i = elim i [ ]

has_begun : (b : Body) (i : ℕ) (t : Temporary) {w : List Action} → Into (begins_marked b i t) (order_function marked_one) w → Written (put w []) 0
has_begun b i t (in_first k) = absurd (not_act k)
has_begun b i t (in_second walk.acts (in_first k)) = absurd (not_act k)
has_begun b i t (in_second walk.acts (in_second walk.acts (in_scope {w = w} k))) = written_on 0 w (written_first ∷ declared_first ∷ []) (λ a m. declares_none a (into_held k a m)) (inl (refl, tt))

was_written : (b : Body) (i : ℕ) (t : Temporary) (h : List Action) → ComesTo marked_one (begins_marked b i t) h → Written h 0
was_written b i t h c = let k = came c in subst (λ h. Written h 0) (sym k.1) (has_begun b i t k.2)

-- ---- the answer

none_borrowed : (a : Action) → Own a (actions_in the_body) → BorrowsOwn a.act 0 → ⊥
none_borrowed a (inl here) d = d
none_borrowed a (inl (there here)) d = d
none_borrowed a (inl (there (there here))) d = d
none_borrowed a (inl (there (there (there here)))) d = d
none_borrowed a (inl (there (there (there (there here))))) d = d
none_borrowed a (inl (there (there (there (there (there here)))))) d = d
none_borrowed a (inl (there (there (there (there (there (there here))))))) d = d
none_borrowed a (inl (there (there (there (there (there (there (there i)))))))) d = elim i [ ]
none_borrowed a (inr e) d = ended a.act e d
  where
    ended : (a : Act) → EndsVariable a → BorrowsOwn a 0 → ⊥
    ended (Dead y) e d = d
    ended _ e d = absurd e

never : (a : Action) → Among a (actions_in (order_function marked_one)) → BorrowsOwn a.act 0 → ⊥
never a here b = b
never a (there here) b = b
never a (there (there i)) b = none_borrowed a (inl i) b

abbrev about : About
about = record { special = 0 ∷ []; asked = [] }

untouched : Untouched marked_one about
untouched a h x (inl e) k w b = never_borrowed marked_one 0 never a h k (subst (λ x. Borrowed h x) e b)
untouched a h x (inr i) k w b = i

abbrev V : Facts
V = facts_of marked_one about untouched

-- the read where the run is entered
is_living : (i : ℕ) (t : Temporary) (h : List Action) → ComesTo marked_one (order_body (with_marks rest) i t) h → Living V 0 h
is_living i t h c =
    later (shown enters) (λ k. ⊎_elim (λ e. e) (λ e. e) k)
    (now (does 0 (Read false (own 0) (temporary_at 0 0))) (comes_on marked_one (order_body (with_marks rest) i t) h (shown enters ∷ does 0 (Read false (own 0) (temporary_at 0 0)) ∷ []) c (walk.both (walk.both walk.nothing walk.acts) (walk.both walk.acts walk.rests))) refl)

not_living : (w v h : List Action) → w ≡ v ++ shows ∷ h → Living V 0 w → ⊥
not_living w v h e (asked (q, i, c)) = i
not_living w v h e (now a good uses) = clean_history marked_one shows 0 all_clean a v h (subst (λ w. IsHistory marked_one (a ∷ w)) e good) uses
not_living w v h e (later a n l) = not_living (a ∷ w) (a ∷ v) h (ap (λ w. a ∷ w) e) l

-- the variable in the caller and in the new function
abbrev outside : Renaming
outside = (0, sight 0 special) ∷ []

abbrev inside : Renaming
inside = (0, sight 4 special) ∷ []

covers : (x : ℕ) (e : Sight) → sight_of outside x ≡ Some e → (f : Sight) × (sight_of inside x ≡ Some f)
covers x e f = by (nat_eq x 0) f
  where
    by : (b : Bool) → (if b then Some (sight 0 special) else None) ≡ Some e → (f : Sight) × ((if b then Some (sight 4 special) else None) ≡ Some f)
    by true f = (sight 4 special, refl)
    by false f = absurd (none_some f)

moved : (x y : ℕ) → sight_of outside x ≡ Some (sight y special) → (z : ℕ) × (sight_of inside x ≡ Some (sight z special))
moved x y f = by (nat_eq x 0) f
  where
    by : (b : Bool) → (if b then Some (sight 0 special) else None) ≡ Some (sight y special) → (z : ℕ) × ((if b then Some (sight 4 special) else None) ≡ Some (sight z special))
    by true f = (4, refl)
    by false f = absurd (none_some f)

dead : (x y : ℕ) → sight_of outside x ≡ Some (sight y special) → (h : List Action) → Arrives V (then_mark (past (with_marks rest) entry (branch 0)) (leaves next)) h → Living V x h → ⊥
dead x y seen _ (arrives_then {h = h} a) l = by (nat_eq x 0) refl seen
  where
    by : (b : Bool) → nat_eq x 0 ≡ b → (if b then Some (sight 0 special) else None) ≡ Some (sight y special) → ⊥
    by true e f = not_living (shows ∷ h) [] h refl (subst (λ x. Living V x (shows ∷ h)) (eqb-true x 0 e) l)
    by false e f = none_some f

written_in : (x : ℕ) → In x (0 ∷ []) → (b : Body) (i : ℕ) (t : Temporary) (h : List Action) → ComesTo marked_one (begins_marked b i t) h → Written h x
written_in x (inl f) b i t h c = subst (λ x. Written h x) (sym f) (was_written b i t h c)
written_in x (inr i) b n t h c = absurd i

not_tail : (e : Exp) → a_marked (branch 0) (leaves next) ≡ a_tail e → ⊥
not_tail e f = cc

abbrev items : ℕ → ℕ
items zero = 0
items (suc zero) = 1
items (suc (suc f)) = suc (suc (suc f))

like_branch : {f : ℕ → ℕ} {O : Openings} {g : Allowance} {W : Facts} {k : ℕ} {J : Jumping} (R : Renaming) (y : ℕ) → LikePlace R looking (own 0) (own y) → LikeExp f O g W k J R (branch 0) (branch y)
like_branch {k = k} R y l =
    chooses 0 0 (omega arith) (of_values (builds tt no_operands)) (arms_and R (test_and (of_temporary no_steps) refl no_test) no_binding (reads l) (arms_and R no_test no_binding units no_arms))

becomes : StatementsBecomeCall items (a_turn false) [] new V 1 whole_jumps outside outside rest with_marks (λ b. tree.runs call_of b)
becomes =
    statements_become_call {r = entry} {l = a_marked (branch 0) (leaves next)} {has = false} {mc = m 7} inside inside (m 10) [] refl (statements.enters [] inside inside (λ x i. absurd i)
    (λ i t. passes_move refl (λ k. k) (is_living i t) (was_written (before (reading (0 ∷ []) done) (with_last (a_marked (branch 0) (leaves next)) rest)) i t) refl (none_seen 4) passes_none) (λ i t. no_local) none_absent covers moved)
    (only_marks enters (0 ∷ []) written_in both_done)
    (end_is left_marked tt (like_branch inside 4 (direct special refl tt tt no_steps))) (λ e f. absurd (not_tail e f)) calls_alone
    (hands_on outside outside outside (λ x e f. f) dead drops redeclares_none goes_on_marked (λ x e f. f) (λ x e f. f))

main_alike : (f : ℕ → ℕ) (O : Openings) (g : Allowance) → f 1 ≡ 1 → LikeFunction f O g main main
main_alike f O g is = record {
  about = record { special = []; asked = [] };
  untouched = λ a h x i. absurd i;
  inside = [];
  params = no_param;
  body = blocks (runs_on 0 0 (omega arith) (subst (λ n. LikeExp f O g (facts_of main (record { special = []; asked = [] }) (λ a h x i. absurd i)) 0 whole_jumps [] (tree.call (m 2) 1 (tree.operand_and 0 (number 3 7) tree.no_operand)) (tree.call (m 2) n (tree.operand_and 0 (number 3 7) tree.no_operand))) is
      (calls (operands_and 0 0 (omega arith) (builds tt no_operands) no_operands))) (ends_in (gives refl units)));
}

one_alike : LikeFunction items (calls_of items (a_turn false) [] new) (a_turn false) marked_one calling_one
one_alike = record {
  about = about;
  untouched = untouched;
  inside = outside;
  params = param_and special (new_special (inl refl)) refl (none_seen 0) no_param;
  body = blocks (opens_in {b = rest} {b' = rest} {f = with_marks} {f' = λ b. tree.runs call_of b} 1 0 (omega arith) becomes (ends_in (gives refl units)));
}

entries : (f : ℕ) → LikeEntry items (calls_of items (a_turn false) [] new) (a_turn false) (element text.functions f) (element answer.functions (items f))
entries zero = functions (main_alike items (calls_of items (a_turn false) [] new) (a_turn false) refl)
entries (suc zero) = functions one_alike
entries (suc (suc f)) = neither tt tt

pub is_with_call : WithCall text answer new
is_with_call = record { items = items; strays = false; units = []; are_units = λ f i. absurd i; alike = record { all = entries; mains = refl }; stands = refl }

-- ---- the function without marks

abbrev known : Renaming
known = (0, sight 0 (plain free)) ∷ []

abbrev alone : Allowance
alone = record { turns = 0; strays = false }

unmarked_alike : LikeFunction (λ f. f) marks alone marked_one plain_one
unmarked_alike = record {
  about = record { special = []; asked = [] };
  untouched = λ a h x i. absurd i;
  inside = known;
  params = param_and (plain free) (new_plain free tt) refl (none_seen 0) no_param;
  body = blocks (opens_in {b = tree.runs (branch 0) (before (with_mark (leaves next) [] done) rest)} {b' = tree.runs (branch 0) rest} {f = λ b. before entry b} {f' = λ b. b} 0 0 (omega arith)
      (marks_statements enters (0 ∷ []) written_in)
      (runs_on 0 0 (omega arith) (like_branch known 0 (direct (plain free) refl tt tt no_steps))
      (opens_in {b = rest} {b' = rest} {f = λ b. before (with_mark (leaves next) [] done) b} {f' = λ b. b} 0 0 (omega arith) (marks_statements (leaves next) [] (λ x i. absurd i)) (ends_in (gives refl units)))));
}

unmarked_entries : (f : ℕ) → LikeEntry (λ f. f) marks alone (element text.functions f) (element program.functions f)
unmarked_entries zero = functions (main_alike (λ f. f) marks alone refl)
unmarked_entries (suc zero) = functions unmarked_alike
unmarked_entries (suc (suc f)) = neither tt tt

pub is_marked : Marked text program
is_marked = record { items = λ f. f; alike = record { all = unmarked_entries; mains = refl } }

-- so the answer does what the program does
pub answer_is_up_to : (given : List ℤ) (n : ℕ) → OrAstray false text answer given n n (UpTo (run answer given n) (run program given n))
unfolding is_with_call
answer_is_up_to given n = marked_answer program text answer new is_marked is_with_call given n

program_run : run program [] 2 ≡ record { printed = []; end = End.Ended }
unfolding value below_level digits after bind result_of decided tested closed took bound begun take_turn passed returned with_arguments
program_run = refl

text_run : run text [] 2 ≡ record { printed = []; end = End.Ended }
unfolding value below_level digits after bind result_of decided tested closed took bound begun take_turn passed returned with_arguments
text_run = refl

answer_run : run answer [] 3 ≡ record { printed = []; end = End.Ended }
unfolding value below_level digits after bind result_of decided tested closed took bound begun take_turn passed returned with_arguments
answer_run = refl
