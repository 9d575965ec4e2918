-- Wrong extractions lack the forms that are asked: an out that is not assigned, a `continue` that goes on behind the run, a `break` for a `continue`, one argument
-- for another. And plans that agree.
use Rattle.std.proofs.Common.{if◌then◌else◌, ◌≡◌, inl, ℕ, nat_eq, Bool, true, false, List, [], ◌∷◌, Some, None, Option, refl, sym, ap, ◌∙◌, subst, eqb-true}
use Rattle.rx_core.specs.declared.types.Kind.{Kind}
use Rattle.rx_core.specs.declared.types.Span.{Span}
use Rattle.rx_typed.specs.declared.nodes.Node.{Node}
use Rattle.rx_typed.specs.declared.nodes.Use.{Use}
use Rattle.rx_typed.specs.Types.{integer, unit_shape, Typ}
use Rattle.rx_typed.specs.Elaborated.{Assigned}
use Rattle.rx_typed.specs.Named as named
use Rattle.rx_typed.specs.Named.{Exps}
use Rattle.rx_hoist_extraction.specs.Plan as hoist
use Rattle.rx_hoist_extraction.specs.Plan.{by_shared, to_next}
use Rattle.rx_typeck_solver.specs.Facts.{KnownItems}
use Rattle.rx_exits_plan.specs.Asked.{Asked}
use Rattle.rx_exits_plan.specs.Plan.{Plan}
use Rattle.rx_exits_plan.specs.Points.{continues, next}
use Rattle.rx_modes_policy.specs.declared.uses.Mode.TheVariants as mode
use Rattle.rx_engine_names.specs.Renaming.{Renaming as Pairing}
use Rattle.rx_engine_names.specs.HandedOut.{Handing}
use Rattle.rx_engine_blocks.specs.Renumbering.{Renumbering}
use Rattle.rx_modes_policy.specs.Allowed.{allowed_by, IsMember}
use Rattle.rx_typed.specs.Tree.{Place}
use Rattle.rx_engine_simulation.specs.Places.{at_variable, behind, direct, sharing, LikePlace, NotCopied, no_steps}
use Rattle.rx_engine_simulation.specs.Sights.{copied, free, plain, sight, special, through, Hold, How, Renaming, Sight, sight_of}
use Rattle.rx_engine_simulation.specs.Jumps.{Jumping}
use Rattle.rx_engine_made_trees.specs.Arguments.{ArgumentsFor, SeenAs}
use Rattle.rx_engine_made_trees.specs.Arguments.ArgumentFor.{a_borrow}
use Rattle.rx_engine_made_trees.specs.Arguments.SeenAs.{shared}
use Rattle.rx_engine_made_trees.specs.Arguments.ArgumentsFor.{more_arguments}
use Rattle.rx_engine_made_trees.specs.Arms.{ArmDoes, IsJump, JumpsOut}
use Rattle.rx_engine_made_trees.specs.Arms.ArmDoes.{does_continue}
use Rattle.rx_engine_made_trees.specs.Arms.JumpsOut.{at_once, in_block}
use Rattle.rx_engine_made_trees.specs.Handing.{HandsOver}
use Rattle.rx_engine_made_trees.specs.Handing.HandsOver.{one_assigned}
use Rattle.rx_engine_names.proofs.NewScopes.{same_name}
use Rattle.rx_engine_made_trees.proofs.Sights.{none_some, seen_first}
use Rattle.rx_engine_made_calls.specs.Plans.{PlansAgree}
use Rattle.rx_engine_made_calls.proofs.Telling.{one_some}
use Rattle.rx_engine_made_calls.specs.Plans.ParamsAre.{more_params, no_params}
use Rattle.rx_engine_made_calls.specs.Plans.Rows.{no_rows}
use Rattle.rx_engine_made_calls.specs.Plans.ExitsAre.{more_exits, no_exits}
use Rattle.rx_engine_made_calls.specs.Plans.ExitIs.{is_next}
use Rattle.rx_modes_policy.specs.declared.uses.Uses.{Uses}
use Rattle.rx_modes_uses.specs.Uses.{IsUses}
use Rattle.rx_modes_given.proofs.Telling.{given_told}
use Rattle.rx_engine_made_calls.specs.Seeing.{how_inside}

same_sight : (y a : ℕ) (v w : How) → ◌≡◌ {A = Option Sight} (Some (sight y v)) (Some (sight a w)) → y ≡ a
same_sight y a v w e = ap (λ (s : Sight). s.to) (one_some (sight y v) (sight a w) e)

module _ (T : Assigned) (A : Asked) (muts : List Bool) (k : Plan) (R : Renaming) where
  -- `f();` where a variable is handed out
  pub out_is_lost : (x : ℕ) (os : List ℕ) (n c : Node) (g : ℕ) (es : Exps) → HandsOver T A muts k R (named.call c g es) (x ∷ []) os (named.statement_and (named.evaluates n (named.call c g es) true) named.no_statement) → ⊥
  out_is_lost x os n c g es (one_assigned s m a) = elim a [ ]

  nothing_jumps : {d : ℕ} {again : Bool} {xs qs : List ℕ} {n m : Node} → JumpsOut T A muts k R d again xs qs (named.block n (named.body m named.no_statement named.absent)) → ⊥
  nothing_jumps (at_once j) = elim j [ ]
  nothing_jumps (in_block j back ends) = elim ends [ ]

  -- `Continue_0 => {}`
  pub continue_goes_on : (unit has : Bool) (J : Jumping) (l : ℕ) (n m : Node) → ArmDoes T A muts k R unit has J (continues l) [] (named.block n (named.body m named.no_statement named.absent)) → ⊥
  continue_goes_on unit has J l n m (does_continue leads dis all j) = nothing_jumps j

  -- `Continue_0 => break`
  pub break_for_continue : (n : Node) (d l : ℕ) → IsJump d true (named.break n l) → ⊥
  break_for_continue n d l j = elim j [ ]

  -- `f(&b)` for the param `a`
  pub other_argument : (again : Bool) (cold : List ℕ) (x a : ℕ) (w : Hold) (n k : Node) (u : Use) (hs : List How) → sight_of R x ≡ Some (sight a (plain w)) → (u.number ≡ a → ⊥)
      → ArgumentsFor T again R cold (x ∷ []) (mode.Shared ∷ []) (named.exp_and (named.borrow n false (named.var k u)) named.no_exp) hs → ⊥
  other_argument again cold x a w n k u hs s unlike (more_arguments y t (shared v seen) (a_borrow i at typ) rest) = unlike (i ∙ same_sight y a (plain v) (plain w) (sym seen ∙ s))

-- ---- plans that agree: `f(&x);` for the run `print(x);`

module _ (E : KnownItems) (q : Renumbering) (s : Span) (A : Asked) (muts : List Bool) (again : Bool) (J : Jumping) where
  abbrev kind : Typ
  kind = integer Kind.I32

  -- the name of `x`
  abbrev name : List ℕ
  name = 120 ∷ []

  abbrev by_names : hoist.Plan
  by_names = record {
    name = 102 ∷ [];
    exits = record { exit = to_next; outs = [] } ∷ [];
    value = None;
    never = false;
    result = unit_shape;
    params = record { variable = record { name = name; mutable = false; typ = kind }; mode = by_shared; moved = false } ∷ [];
    locals = [];
    redeclared = [];
    pins = None;
    identifiers = [];
    lifetimes = [];
  }

  abbrev by_numbers : Plan
  by_numbers = record { exits = next ∷ []; params = 0 ∷ []; locals = []; outs = λ e. []; value = None; redeclared = []; loose = [] }

  abbrev handing : Handing
  handing = record { call = record { plan = by_names; place = s; scope = record { name = name; number = 0 } ∷ []; number = 5 }; loops = []; own = []; enum = 9; variant = λ x. 0 }

  abbrev pairing : Pairing
  pairing = record { variable = nat_eq; loop = nat_eq; item = λ n. n }

  abbrev outside : Renaming
  outside = (0, sight 0 (plain free)) ∷ []

  not_special : plain free ≡ special → ⊥
  not_special e = cc

  nothing_special : (y z : ℕ) → sight_of outside y ≡ Some (sight z special) → ⊥
  nothing_special y z e = seen_first (0, sight 0 (plain free)) [] y e (λ i j. not_special (ap (λ s. s.how) j)) (λ q. none_some q)

  lent_so : (y : ℕ) → nat_eq 0 y ≡ true → SeenAs again outside [] 0 y kind mode.Shared (through free false)
  lent_so y e = subst (λ (y : ℕ). SeenAs again outside [] 0 y kind mode.Shared (through free false)) (eqb-true 0 y e) (shared free refl)

  pub plans_can_agree : PlansAgree E q handing pairing (λ x. kind) A muts by_numbers (mode.Shared ∷ []) again J outside [] (through free false ∷ []) false
  plans_can_agree = record {
    params = more_params (record { named = ap (λ (b : Bool). if b then Some 0 else None) (same_name name); mode = refl; typed = λ y e. refl; seen = λ y e. lent_so y e }) no_params;
    handed = no_rows;
    exits = more_exits refl (λ y ys e. absurd (cc)) (is_next refl) no_exits;
    alone = λ e. refl;
    value = refl;
    reached = λ e. absurd (cc);
    redeclared = refl;
    none_behind = λ e. absurd (cc);
    one_to_one = λ y z e f p r i. only y z e f p r;
    all_special = λ y z e. absurd (nothing_special y z e);
  }
    where
      only : (y z : ℕ) (e f : Sight) → sight_of outside y ≡ Some e → sight_of outside z ≡ Some f → y ≡ z
      only y z e f p q = seen_first (0, sight 0 (plain free)) [] y p (λ i a. seen_first (0, sight 0 (plain free)) [] z q (λ j b. i ∙ sym j) (λ r. absurd (none_some r))) (λ r. absurd (none_some r))

-- ---- A param that is passed by value since the run changes something behind a reference in it, and that the run does not move, is given away (`*p.0 = 2; let r = &p;`
-- with `p: (&mut i32, i32)`): the new function has it in a slot of its own, so what the run shares of it has a place there. Were it copied, no place would stand for that.

abbrev lent_inside : Uses
lent_inside = record { copy = false; mut_ref = false; moved = false; written = false; lent = true; through = true; mut_out = false; declared_mut = false; live_out = false; set_in = true }

pub by_value_and_lent : IsMember mode.Value (allowed_by lent_inside)
by_value_and_lent = inl refl

pub has_its_own_slot : (A : Asked) (muts : List Bool) (k : Plan) (x : ℕ) → IsUses A muts k x lent_inside → how_inside A muts x mode.Value ≡ special
has_its_own_slot A muts k x uses = ap (λ (b : Bool). if b then special else copied) (given_told A muts k x lent_inside uses)

pub shared_there : {R : Renaming} {x y : ℕ} → sight_of R x ≡ Some (sight y special) → LikePlace R sharing (at_variable x []) (at_variable y [])
shared_there seen = direct special seen tt (λ own. tt) no_steps

pub shared_copy : {R : Renaming} {x : ℕ} {p : Place} → LikePlace R sharing (at_variable x []) p → (y : ℕ) → sight_of R x ≡ Some (sight y copied) → ⊥
shared_copy (direct {y = z} w seen is allowed like) y s = by w (ap (λ (e : Sight). e.how) (one_some (sight z w) (sight y copied) (sym seen ∙ s))) allowed
  where
    by : (w : How) → w ≡ copied → (Unit {0} → NotCopied w) → ⊥
    by w e f = subst NotCopied e (f tt)
shared_copy (behind {y = z} w m seen allowed like) y s = absurd (not_copied (ap (λ (e : Sight). e.how) (one_some (sight z (through w m)) (sight y copied) (sym seen ∙ s))))
  where
    not_copied : through w m ≡ copied → ⊥
    not_copied e = cc
