-- The end of the new function of a run without its block's tail, by cases.
use Rattle.std.proofs.Common.{◌≡◌, ◌⊎◌, ℕ, Bool, true, false, ◌&&◌, ◌||◌, List, [], ◌∷◌, map, Some, None, Option, refl, sym, ap, ◌∙◌, subst}
use Rattle.rx_typed.specs.declared.nodes.Node.{Node}
use Rattle.rx_typed.specs.declared.nodes.Site.{Site}
use Rattle.rx_typed.specs.Types.{variant_parts}
use Rattle.rx_typed.specs.Elaborated.{tail, Assigned}
use Rattle.rx_typed.specs.Named as named
use Rattle.rx_typed.specs.Named.{node_of, Else, Exp, Statements}
use Rattle.rx_typed.specs.Tree as tree
use Rattle.rx_hoist_extraction.specs.NewBody.{is_any, next_outs}
use Rattle.rx_hoist_extraction.specs.Plan.{has_enum, has_exit, names_of, outs_of, to_next, Variable}
use Rattle.rx_hoist_extraction.specs.Values.{types_of, variables_held}
use Rattle.rx_tree.specs.Plain as plain
use Rattle.rx_typeck_solver.specs.declared.facts.Demand.{Demand}
use Rattle.rx_typeck_solver.specs.Facts.{Assignment, KnownItems, MeetsEach}
use Rattle.rx_typeck_typed.specs.Asking.{expected}
use Rattle.rx_typeck_typed.specs.Demands as rules
use Rattle.rx_exits_plan.specs.Points.{leaves, next}
use Rattle.rx_engine_names.specs.Renaming.{Renaming as Pairing}
use Rattle.rx_engine_names.specs.LikeNamed.LikeElse.{like_absent}
use Rattle.rx_engine_names.specs.Moves.{Moves}
use Rattle.rx_engine_names.specs.NewBody.{goes_on, IsEnd}
use Rattle.rx_engine_names.specs.NewBody.IsEnd.{last_is_done, last_is_tail, nothing_behind, outs_behind}
use Rattle.rx_engine_blocks.specs.Renumbering.{shape_at, Renumbering}
use Rattle.rx_engine_typing.specs.Corresponding.{given_types}
use Rattle.rx_engine_changed.specs.Spots.{NumberedElse, Spot}
use Rattle.rx_engine_simulation.specs.Endings.{a_marked, none_left, Last}
use Rattle.rx_engine_simulation.specs.Jumps.{Jumping}
use Rattle.rx_engine_simulation.specs.Packing.{bare, no_way, Way}
use Rattle.rx_engine_simulation.specs.Rereads.{Rereads}
use Rattle.rx_engine_simulation.specs.Sights.{Renaming}
use Rattle.rx_engine_simulation.specs.Turns.{Allowance}
use Rattle.rx_engine_related.specs.Leaving.HaveThere.{none_there}
use Rattle.rx_engine_made_trees.specs.Giving.TailGives.{no_tail}
use Rattle.rx_engine_made_trees.specs.Standing.{EndsTo}
use Rattle.rx_engine_made_trees.specs.Standing.EndsTo.{gives_values, is_last, is_left, never_comes}
use Rattle.rx_engine_made_trees.specs.Tails.{IsLike}
use Rattle.rx_engine_made_calls.specs.EndCases.{gives_last, hands_out, EndCase}
use Rattle.rx_engine_made_calls.specs.MadeCalls.{way_of}
use Rattle.rx_engine_made_calls.specs.NewEnds.{OutThere}
use Rattle.rx_engine_made_calls.specs.Plans.{Rows}
use Rattle.rx_engine_made_calls.specs.Plans.Rows.{more_rows, no_rows}
use Rattle.rx_engine_made_calls.proofs.Telling.{clash}
use Rattle.rx_engine_made_calls.proofs.Ends.{end_gives, TailSo}

or_false : (a b : Bool) → (a || b) ≡ false → (a ≡ false) × (b ≡ false)
or_false true b e = absurd (clash e refl)
or_false false b e = (refl, e)

module _ (E : KnownItems) (q : Renumbering) (V M : Moves) (N : Pairing) (W : Assignment) (R : Renaming) (items : ℕ → ℕ) (gain : Allowance) (U others : List ℕ) (J : Jumping) (n : Node) (outs : List ℕ) (place : Option ℕ) where
  abbrev S : Assigned
  S = given_types E W

  abbrev Next : List Variable
  Next = outs_of to_next V.plan.exits

  abbrev way : Way
  way = way_of (has_enum V.plan.exits) place

  abbrev Ends : Else → Last → Way → List ℕ → Type 0
  Ends o l w xs = EndsTo S items gain U others J R n o l w xs

  abbrev Case : Statements → Else → Type 0
  Case xs o = EndCase S items gain U others J R n xs o way outs

  -- where the end is an exit its variant has this place; else it has none, nothing is handed out, and there is some other exit
  module _ (rows : Rows (OutThere M N q W R) Next outs) (there : has_exit to_next V.plan.exits ≡ true → place ≡ Some (V.variant to_next)) (nowhere : has_exit to_next V.plan.exits ≡ false → (place ≡ None) × (outs ≡ []) × (has_enum V.plan.exits ≡ true)) where
    nothing_named : (vs : List Variable) (xs : List ℕ) → Rows (OutThere M N q W R) vs xs → is_any (map (plain.var V.place) (names_of vs)) ≡ false → xs ≡ []
    nothing_named [] xs no_rows e = refl
    nothing_named (v ∷ vs) xs (more_rows o rows) e = absurd (clash e refl)

    -- nothing is handed out
    pub data Bare : Type 0 where
      is_bare : way ≡ bare → outs ≡ [] → Bare
      is_lost : way ≡ no_way → outs ≡ [] → Bare

    pub unfollowed : goes_on V ≡ false → Bare
    unfollowed e = by (has_exit to_next V.plan.exits) refl
      where
        quiet : (b : Bool) → b ≡ true → (b && (has_enum V.plan.exits || is_any (next_outs V.plan V.place))) ≡ false → (has_enum V.plan.exits ≡ false) × (is_any (next_outs V.plan V.place) ≡ false)
        quiet true i e = or_false (has_enum V.plan.exits) (is_any (next_outs V.plan V.place)) e
        quiet false i e = absurd (clash refl i)

        by : (b : Bool) → has_exit to_next V.plan.exits ≡ b → Bare
        by true i = let z = quiet (has_exit to_next V.plan.exits) i e in is_bare (ap (λ (b : Bool). way_of b place) z.0) (nothing_named Next outs rows z.1)
        by false i = let z = nowhere i in is_lost (ap (λ (b : Bool). way_of b place) z.2 ∙ ap (way_of true) z.0) z.1

    nothing_given : (o : Else) → o ≡ named.absent → Bare → Ends o none_left way outs
    nothing_given o e (is_bare w i) = subst (λ (o : Else). Ends o none_left way outs) (sym e) (subst (λ (v : Way). Ends named.absent none_left v outs) (sym w) (subst (λ (xs : List ℕ). Ends named.absent none_left bare xs) (sym i) (gives_values none_there no_tail)))
    nothing_given o e (is_lost w i) = subst (λ (o : Else). Ends o none_left way outs) (sym e) (subst (λ (v : Way). Ends named.absent none_left v outs) (sym w) (subst (λ (xs : List ℕ). Ends named.absent none_left no_way xs) (sym i) never_comes))

    last_given : (o : Else) → Bare → (z z' : tree.Exp) → IsLike S items gain U others J R z z' → Rereads (tail S n o) z' → Ends o (a_marked z (leaves next)) way outs
    last_given o (is_bare w i) z z' like reads = subst (λ (v : Way). Ends o (a_marked z (leaves next)) v outs) (sym w) (subst (λ (xs : List ℕ). Ends o (a_marked z (leaves next)) bare xs) (sym i) (is_last like reads))
    last_given o (is_lost w i) z z' like reads = subst (λ (v : Way). Ends o (a_marked z (leaves next)) v outs) (sym w) (subst (λ (xs : List ℕ). Ends o (a_marked z (leaves next)) no_way xs) (sym i) (is_left like reads))

    handed : {o : Else} → has_exit to_next V.plan.exits ≡ true → TailSo E q V M N W R (way_of (has_enum V.plan.exits) (Some (V.variant to_next))) outs o → Ends o none_left way outs
    handed {o = o} e h = subst (λ (p : Option ℕ). Ends o none_left (way_of (has_enum V.plan.exits) p) outs) (sym (there e)) (gives_values h.1 h.2)

    pub goes_there : goes_on V ≡ true → has_exit to_next V.plan.exits ≡ true
    goes_there e = by (has_exit to_next V.plan.exits) e
      where
        by : (b : Bool) → (b && (has_enum V.plan.exits || is_any (next_outs V.plan V.place))) ≡ true → b ≡ true
        by true e = refl
        by false e = absurd (clash refl e)

    pub end_case : (f : ℕ) (ds : List Demand) (p : Spot) (z : Site) (s : Spot) {xs ys : Statements} {o : Else} → IsEnd V M N xs named.absent ys o → MeetsEach E W (rules.of_returned f o ds) → NumberedElse p z o s
        → (has_enum V.plan.exits ≡ true → variant_parts E.items V.enum (V.variant to_next) ≡ map (shape_at q) (types_of (variables_held Next)))
        → ((v : Variable) (e : Exp) → Next ≡ v ∷ [] → o ≡ named.present e → (z ≡ Site.Value) ⊎ (W (expected (node_of e)) ≡ shape_at q v.typ)) → Case xs o
    end_case f ds p z s (outs_behind value on like done given) met num parts want = hands_out (handed (goes_there on) (end_gives E q V M N W R f ds p z s given rows met num parts want))
    end_case f ds p z s (nothing_behind value on like like_absent) met num parts want = hands_out (nothing_given named.absent refl (unfollowed on))
    end_case f ds p z s (last_is_tail {xs = front} {e = e} {e' = e'} m on stays like last) met num parts want = gives_last front m e e' refl refl (last_given _ (unfollowed on))
    end_case f ds p z s (last_is_done m m' on stays like same last) met num parts want = hands_out (nothing_given named.absent refl (unfollowed on))
