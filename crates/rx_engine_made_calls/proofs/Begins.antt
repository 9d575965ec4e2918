-- How the new function begins: its parameters and locals are numbered in turn.
use Rattle.std.proofs.Common.{◌≡◌, ℕ, suc, List, [], ◌∷◌, length, Some, None, Option, refl, sym, ap, ◌∙◌, subst, arith}
use Rattle.rx_tree.specs.Plain.{ProgramTree}
use Rattle.rx_typed.specs.Tree.{Parameter}
use Rattle.rx_typed.specs.Named as named
use Rattle.rx_typed.specs.Named.{Statements}
use Rattle.rx_typed.specs.Elaborated.{parameters}
use Rattle.rx_hoist_extraction.specs.Plan.{Param, Variable}
use Rattle.rx_engine_names.specs.Renaming.{Renaming as Pairing}
use Rattle.rx_engine_names.specs.Moves.{Moves}
use Rattle.rx_engine_names.specs.NewBody.{LocalsFirst}
use Rattle.rx_engine_names.specs.NewBody.LocalsFirst.{a_local, no_local}
use Rattle.rx_engine_names.specs.NewFunction.{AreParameters}
use Rattle.rx_engine_names.specs.NewFunction.AreParameters.{a_parameter, no_parameter}
use Rattle.rx_engine_simulation.specs.Sights.{In, Sight}
use Rattle.rx_engine_simulation.specs.Packing.{AreNew}
use Rattle.rx_engine_made_trees.specs.Seen.{variables_of}
use Rattle.rx_engine_made_trees.specs.Entering.{declared_in}
use Rattle.rx_engine_made_trees.specs.Statements.{BeginsWith}
use Rattle.rx_engine_made_trees.specs.Statements.BeginsWith.{begins_and, begins_here}
use Rattle.rx_engine_made_calls.specs.NewEnds.{BeginsSo}
use Rattle.rx_engine_made_calls.proofs.Types.{from}
use Rattle.rx_engine_made_calls.proofs.Arms.{in_from, length_from, new_from}
use Rattle.rx_engine_made_calls.proofs.Handed.{same_length}

nothing_seen : (e : Sight) → ◌≡◌ {A = Option Sight} None (Some e) → ⊥
nothing_seen e i = cc

locals_begin : {V : Moves} {N : Pairing} {ys zs : Statements} {n : ℕ} {vs : List Variable} → LocalsFirst V N ys n vs zs → (ls : List (ℕ × ℕ)) × BeginsWith ls ys zs × (declared_in ls ≡ from n (length vs))
locals_begin no_local = ([], begins_here, refl)
locals_begin {n = n} (a_local {l = l} a b m r says rest) = let z = locals_begin rest in ((l.number, n) ∷ z.0, begins_and z.1, ap (λ (ys : List ℕ). n ∷ ys) z.2)

parameters_begin : {P : ProgramTree} {V : Moves} {N : Pairing} {n : ℕ} {xs : List Param} {ys : List named.Parameter} → AreParameters P V N n xs ys → variables_of (parameters ys) ≡ from n (length xs)
parameters_begin no_parameter = refl
parameters_begin {n = n} (a_parameter m h full rest) = ap (λ (ys : List ℕ). n ∷ ys) (parameters_begin rest)

as_many_parameters : (ps : List Parameter) → length (variables_of ps) ≡ length ps
as_many_parameters [] = refl
as_many_parameters (p ∷ ps) = ap suc (as_many_parameters ps)

pub function_begins : {P : ProgramTree} {V : Moves} {N : Pairing} {xs : List Param} {vs : List Variable} {ds : List named.Parameter} {ys zs : Statements} → AreParameters P V N 0 xs ds → LocalsFirst V N ys (length xs) vs zs → (params locals : List ℕ) → length xs ≡ length params → length vs ≡ length locals
    → BeginsSo params locals (parameters ds) ys zs
function_begins {xs = xs} {vs = vs} {ds = ds} ps ls params locals many many2 =
    let z = locals_begin ls in let p = parameters_begin ps in record {
      locals = z.0;
      begins = z.1;
      params_new = subst (AreNew []) (sym p) (new_from [] 0 (length xs) (λ y l x e i j. nothing_seen e i));
      locals_new = subst (AreNew []) (sym z.2) (new_from [] (length xs) (length vs) (λ y l x e i j. nothing_seen e i));
      variables_apart = λ n i j. (let a = (in_from (length xs) (length vs) n (subst (In n) z.2 i)).0 in let b = (in_from 0 (length xs) n (subst (In n) p j)).1 in absurd (omega (arith, a, b)));
      params_as_many = sym many ∙ (sym (length_from 0 (length xs)) ∙ (ap length (sym p) ∙ as_many_parameters (parameters ds)));
      locals_as_many = same_length locals (declared_in z.0) (sym many2 ∙ (sym (length_from (length xs) (length vs)) ∙ ap length (sym z.2)));
    }
