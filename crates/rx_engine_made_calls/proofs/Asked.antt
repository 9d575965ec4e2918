-- What is asked where the call stands for the run, all together.
use Rattle.std.proofs.Common.{◌≡◌, ℕ, Bool, List, Some}
use Rattle.rx_typed.specs.declared.nodes.Node.{Node}
use Rattle.rx_typed.specs.Tree as tree
use Rattle.rx_typed.specs.Tree.{Parameter}
use Rattle.rx_typed.specs.Named.{Else, Exps, Statements}
use Rattle.rx_typed.specs.Elaborated.{operands, Assigned}
use Rattle.rx_exits_plan.specs.Asked.{Asked}
use Rattle.rx_exits_plan.specs.Plan.{Plan}
use Rattle.rx_exits_plan.specs.Points.{leaves, next}
use Rattle.rx_modes_policy.specs.declared.uses.Mode.{Mode}
use Rattle.rx_engine_simulation.specs.Turns.{Allowance}
use Rattle.rx_engine_simulation.specs.Sights.{special, sight, How, In, Renaming, sight_of}
use Rattle.rx_engine_simulation.specs.Jumps.{Jumping}
use Rattle.rx_engine_simulation.specs.Packing.{no_way}
use Rattle.rx_engine_simulation.specs.Blocks.{Stretch}
use Rattle.rx_engine_simulation.specs.Endings.{a_marked, Last}
use Rattle.rx_engine_simulation.specs.Statements.{GivenBack}
use Rattle.rx_engine_simulation.specs.Variants.{AllSpecial}
use Rattle.rx_engine_related.specs.AboutRun.{special_of}
use Rattle.rx_engine_related.specs.Leaving.{variant_for}
use Rattle.rx_engine_related.specs.Never.{NeverEnds}
use Rattle.rx_engine_related.specs.Tails.{IsTail}
use Rattle.rx_engine_made_trees.specs.Arguments.{ArgumentsFor}
use Rattle.rx_engine_made_trees.specs.Entering.{Entered, EnteringNames}
use Rattle.rx_engine_made_trees.specs.Handing.{HandedNames}
use Rattle.rx_engine_made_trees.specs.Seen.{OneToOne}
use Rattle.rx_engine_made_trees.specs.Standing.{Asks, EndsTo, MovedTo}
use Rattle.rx_engine_made_trees.specs.Statements.{Behind}
use Rattle.rx_engine_made_trees.specs.Tails.{AsksTail, TailEndsTo}
use Rattle.rx_engine_made_calls.specs.MadeCalls.{jumps_with, way_of, MadeCall, MadeTail, NewThere}
use Rattle.rx_engine_made_calls.specs.NewEnds.{BeginsSo}
use Rattle.rx_engine_made_calls.specs.RunNames.{RunNames}
use Rattle.rx_engine_made_calls.specs.Answers.{answered, answered_tail, NewBody}

module _ (T S : Assigned) (A : Asked) (muts : List Bool) (k : Plan) (modes : List Mode) (J : Jumping) (R : Renaming) (cold : List ℕ) (hows : List How) (g : ℕ) (enum unit : Bool) (items : ℕ → ℕ) (gain : Allowance) (U : List ℕ) (names : RunNames k R cold) (one : OneToOne R)
    (all : (x y : ℕ) → sight_of R x ≡ Some (sight y special) → In x (special_of A muts k)) where
  entering_so : {es : Exps} {ps : List Parameter} {rest body : Statements} → ArgumentsFor T gain.strays R cold k.params modes es hows → (b : BeginsSo k.params k.locals ps rest body) → EnteringNames T gain.strays R cold k modes es hows ps b.locals
  entering_so a b = record {
    shut = names.shut;
    arguments = a;
    params_distinct = names.params_distinct;
    locals_distinct = names.locals_distinct;
    apart = names.params_apart;
    params_new = b.params_new;
    locals_new = b.locals_new;
    variables_apart = b.variables_apart;
    params_as_many = b.params_as_many;
    locals_as_many = b.locals_as_many;
    locals_special = names.locals_special;
    specials_enter = names.specials_enter;
  }

  handed_so : {received redeclared : List ℕ} {Rb : Renaming} → NewThere k R received redeclared → AllSpecial Rb k.redeclared → HandedNames A muts k R Rb received redeclared
  handed_so n inside = record {
    one_to_one = one;
    all_special = all;
    outs_distinct = names.outs_distinct;
    apart = names.outs_apart;
    unseen = names.unseen;
    inside = inside;
    received_new = n.received_new;
    redeclared_new = n.redeclared_new;
    made_apart = n.made_apart;
    as_many = n.as_many;
  }

  pub asks_so : {y : Statements} {r : Stretch} {l : Last} (m : MadeCall T A muts k modes gain.strays J R cold hows g enum unit y) (N : NewBody) (b : BeginsSo k.params k.locals N.params N.rest N.all) (after : Renaming → Renaming)
      → ((inside : Renaming) → Entered gain.strays R k modes (operands T 0 m.es) hows N.params b.locals inside → MovedTo S items gain U (special_of A muts k) (jumps_with enum A muts k unit) inside r N.rest (after inside)
      × EndsTo S items gain U (special_of A muts k) (jumps_with enum A muts k unit) (after inside) N.node N.end l (way_of enum (variant_for k next)) (k.outs next) × AllSpecial (after inside) k.redeclared)
      → (way_of enum (variant_for k next) ≡ no_way → NeverEnds l r) → Asks A muts k modes items gain U J R r l (answered T S g m N b)
  asks_so m N b after new never = record {
    cold = cold;
    hows = hows;
    jumps = jumps_with enum A muts k unit;
    way = way_of enum (variant_for k next);
    after = after;
    received = m.received;
    redeclared = m.redeclared;
    entering = entering_so m.arguments b;
    begins = b.begins;
    moved = λ inside e. (new inside e).0;
    ends = λ inside e. (new inside e).1;
    never = never;
    called = m.called;
    names = λ inside e. handed_so m.made (new inside e).2;
    hands = m.hands;
    declares = m.declares;
  }

  -- `lasts` are the last statements of the new function, behind the run's
  pub asks_tail_so : {y : Statements} {r : Stretch} {l : Last} {e : tree.Exp} {has : Bool} {o : Else} (m : MadeTail T A muts k modes gain.strays J R cold hows g enum unit has y o) (N : NewBody) (lasts rest : Statements) (b : BeginsSo k.params k.locals N.params rest N.all) (n : Node) (F : tree.Exp → tree.Exp)
      (after : Renaming → Renaming) → IsTail k l e → GivenBack J l F → Behind N.rest lasts rest
      → ((inside : Renaming) → Entered gain.strays R k modes (operands T 0 m.es) hows N.params b.locals inside → MovedTo S items gain U (special_of A muts k) (jumps_with enum A muts k unit) inside r N.rest (after inside)
      × TailEndsTo S items gain U (special_of A muts k) (jumps_with enum A muts k unit) (after inside) N.node e has (way_of enum (variant_for k next)) (k.outs next) lasts N.end × AllSpecial (after inside) k.redeclared)
      → (way_of enum (variant_for k next) ≡ no_way → NeverEnds (a_marked e (leaves next)) r) → AsksTail A muts k modes items gain U J R r l e (answered_tail T S g m N b)
  asks_tail_so {has = has} {o = o} m N lasts rest b n F after tail back behind new never = record {
    cold = cold;
    hows = hows;
    jumps = jumps_with enum A muts k unit;
    way = way_of enum (variant_for k next);
    has = has;
    after = after;
    received = m.received;
    redeclared = m.redeclared;
    lasts = lasts;
    rest = rest;
    place = n;
    o = o;
    F = F;
    is_tail = tail;
    back = back;
    entering = entering_so m.arguments b;
    begins = b.begins;
    behind = behind;
    moved = λ inside e. (new inside e).0;
    ends = λ inside e. (new inside e).1;
    never = never;
    called = m.called;
    names = λ inside e. handed_so m.made (new inside e).2;
    hands = m.hands;
  }
