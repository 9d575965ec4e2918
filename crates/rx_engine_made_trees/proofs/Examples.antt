-- What is asked can be had: the call `f(&x);` stands for the run `print(x);`, of which nothing is handed out.
use Rattle.std.proofs.Common.{◌≡◌, ℕ, Bool, true, false, List, [], ◌∷◌, Some, None, refl, ap, ◌∙◌, sym, subst}
use Rattle.rx_core.specs.declared.types.Kind.{Kind}
use Rattle.rx_core.specs.declared.types.Span.{Span}
use Rattle.rx_typed.specs.declared.nodes.Node.{Node}
use Rattle.rx_typed.specs.declared.nodes.Site.{Site}
use Rattle.rx_typed.specs.declared.nodes.Use.{Use}
use Rattle.rx_typed.specs.Types.{integer, reference, Typ}
use Rattle.rx_typed.specs.Named as named
use Rattle.rx_typed.specs.Tree as tree
use Rattle.rx_typed.specs.Tree.{own}
use Rattle.rx_typed.specs.Elaborated.{Assigned, dereference, operands, value}
use Rattle.rx_exits_plan.specs.Points.{next}
use Rattle.rx_exits_plan.specs.Asked.{Asked}
use Rattle.rx_exits_plan.specs.Plan.{Plan}
use Rattle.rx_modes_policy.specs.declared.uses.Mode.TheVariants as mode
use Rattle.rx_engine_simulation.specs.Turns.{Allowance}
use Rattle.rx_engine_simulation.specs.Sights.{free, plain, Renaming, sight, Sight, sight_of, special, through}
use Rattle.rx_engine_simulation.specs.Places.{behind, LikePlace, looking, no_steps}
use Rattle.rx_engine_simulation.specs.Jumps.{Jumping}
use Rattle.rx_engine_simulation.specs.Passing.{inner_jumps}
use Rattle.rx_engine_simulation.specs.Packing.{bare}
use Rattle.rx_engine_simulation.specs.Blocks.{does_then, done, Stretch}
use Rattle.rx_engine_simulation.specs.Endings.{none_left}
use Rattle.rx_engine_simulation.specs.Like.{prints, reads}
use Rattle.rx_engine_simulation.specs.Rereads.{in_run}
use Rattle.rx_engine_simulation.proofs.Rereads.{self_exp}
use Rattle.rx_engine_related.specs.AboutRun.{special_of}
use Rattle.rx_engine_related.specs.Leaving.{none_there}
use Rattle.rx_engine_related.specs.Moved.{moved_all, moved_statement}
use Rattle.rx_engine_made_trees.specs.Nodes.{of_any_type}
use Rattle.rx_engine_made_trees.specs.Seen.{both_end}
use Rattle.rx_engine_made_trees.specs.Statements.{begins_here}
use Rattle.rx_engine_made_trees.specs.Arguments.{a_borrow, more_arguments, no_arguments, shared}
use Rattle.rx_engine_made_trees.specs.Handing.{declares_none, gives_nothing}
use Rattle.rx_engine_made_trees.specs.Giving.{no_tail}
use Rattle.rx_engine_made_trees.specs.Entering.{Entered}
use Rattle.rx_engine_made_trees.specs.Standing.{Answered, Asks, gives_values, moved_to, MovedTo}
use Rattle.rx_engine_made_trees.proofs.Sights.{none_some, seen_first}
use Rattle.rx_engine_made_trees.proofs.Standing.{calls_itself}

module _ (s : Span) (T : Assigned) (typed : T.typ 2 ≡ reference false (integer Kind.I32)) (S : Assigned) (again : S.typ 2 ≡ reference false (integer Kind.I32)) (A : Asked) (muts : List Bool) (items : ℕ → ℕ) (gain : Allowance) (J : Jumping) (m n : tree.Mark) where
  abbrev at : ℕ → Site → Node
  at i t = record { number = i; span = s; site = t }

  abbrev x : Use
  x = record { number = 0; mutable = false; known = true }

  abbrev plan : Plan
  plan = record { exits = next ∷ []; params = 0 ∷ []; locals = []; outs = λ e. []; value = None; redeclared = []; loose = [] }

  abbrev outside : Renaming
  outside = (0, sight 0 (plain free)) ∷ []

  -- `f(&x)`
  abbrev arguments : named.Exps
  arguments = named.exp_and (named.borrow (at 2 Site.Expects) false (named.var (at 3 Site.Place) x)) named.no_exp

  abbrev call : named.Exp
  call = named.call (at 1 Site.Value) 5 arguments

  -- `print(*x);`
  abbrev printed : named.Statements
  printed = named.statement_and (named.evaluates (at 4 Site.Value) (named.print (at 3 Site.Value) (named.deref (at 1 Site.Value) (named.var (at 2 Site.Place) x))) true) named.no_statement

  abbrev answer : Answered
  answer = record {
    T = T;
    S = S;
    g = 5;
    es = arguments;
    e = call;
    ss = named.statement_and (named.evaluates (at 0 Site.Value) call true) named.no_statement;
    ds = named.no_statement;
    params = record { node = 0; variable = 0 } ∷ [];
    locals = [];
    rs = printed;
    all = printed;
    node = at 9 Site.Value;
    end = named.absent;
  }

  abbrev run : Stretch
  run = does_then (tree.print m (tree.read n false (own 0))) done

  not_special : plain free ≡ special → ⊥
  not_special e = cc

  nothing_special : (y z : ℕ) → sight_of outside y ≡ Some (sight z special) → ⊥
  nothing_special y z e = seen_first (0, sight 0 (plain free)) [] y e (λ i j. not_special (ap (λ s. s.how) j)) (λ q. none_some q)

  moves : (inside : Renaming) → Entered gain.strays outside plan (mode.Shared ∷ []) (operands T 0 arguments) (through free false ∷ []) (record { node = 0; variable = 0 } ∷ []) [] inside
      → MovedTo S items gain [] (special_of A muts plan) inner_jumps inside run printed inside
  moves inside e = moved_to (does_then (value S (named.print (at 3 Site.Value) (named.deref (at 1 Site.Value) (named.var (at 2 Site.Place) x)))) done)
      (moved_statement (prints (reads (there (S.typ 2) again))) moved_all) (λ b b' r. in_run (self_exp (value S (named.print (at 3 Site.Value) (named.deref (at 1 Site.Value) (named.var (at 2 Site.Place) x))))) r)
    where
      there : (t : Typ) → t ≡ reference false (integer Kind.I32) → LikePlace inside looking (own 0) (tree.under (own 0) (dereference t))
      there t i = subst (λ t. LikePlace inside looking (own 0) (tree.under (own 0) (dereference t))) (sym i) (behind free false (e.has 0 (sight 0 (through free false)) refl) tt no_steps)

  pub prints_by_call : Asks A muts plan (mode.Shared ∷ []) items gain [] J outside run none_left answer
  prints_by_call = record {
    cold = [];
    hows = through free false ∷ [];
    jumps = inner_jumps;
    way = bare;
    after = λ inside. inside;
    received = [];
    redeclared = [];
    entering = record {
      shut = λ y i. absurd i;
      arguments = more_arguments 0 (integer Kind.I32) (shared free refl) (a_borrow refl refl typed) no_arguments;
      params_distinct = (refl, λ i. i, tt);
      locals_distinct = tt;
      apart = λ y i j. i;
      params_new = (λ z e q i. none_some q, λ i. i, tt);
      locals_new = tt;
      variables_apart = λ z i j. i;
      params_as_many = refl;
      locals_as_many = both_end;
      locals_special = λ y i. absurd i;
      specials_enter = λ y z q. absurd (nothing_special y z q);
    };
    begins = begins_here;
    moved = moves;
    ends = λ inside e. gives_values none_there no_tail;
    never = λ e. absurd (cc);
    called = calls_itself T A muts plan J outside (at 1 Site.Value) 5 arguments refl (of_any_type refl);
    names = λ inside e. record {
      one_to_one = λ y z e f p q i. only y z e f p q;
      all_special = λ y z q. absurd (nothing_special y z q);
      outs_distinct = tt;
      apart = λ y i j. i;
      unseen = tt;
      inside = λ y i. absurd i;
      received_new = tt;
      redeclared_new = tt;
      made_apart = λ y i j. i;
      as_many = both_end;
    };
    hands = gives_nothing;
    declares = declares_none;
  }
    where
      only : (y z : ℕ) (e f : Sight) → sight_of outside y ≡ Some e → sight_of outside z ≡ Some f → y ≡ z
      only y z e f p q = seen_first (0, sight 0 (plain free)) [] y p (λ i a. seen_first (0, sight 0 (plain free)) [] z q (λ j b. i ∙ sym j) (λ r. absurd (none_some r))) (λ r. absurd (none_some r))
