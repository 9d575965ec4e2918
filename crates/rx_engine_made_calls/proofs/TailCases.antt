-- The end of the new function of a run with its block's tail, by cases.
use Rattle.std.proofs.Common.{if◌then◌else◌, ◌≡◌, ◌⊎◌, ℕ, Bool, true, false, List, [], ◌∷◌, ◌++◌, map, Some, None, Option, refl, sym, ap, ◌∙◌, subst}
use Rattle.rx_resolve_names.specs.Meant.{number}
use Rattle.rx_typed.specs.declared.nodes.Node.{Node}
use Rattle.rx_typed.specs.declared.nodes.Site.{Site}
use Rattle.rx_typed.specs.Types.{variant_parts, Typ}
use Rattle.rx_typed.specs.Elaborated.{Assigned}
use Rattle.rx_typed.specs.Named as named
use Rattle.rx_typed.specs.Named.{node_of, Else, Exp, Statements, Written}
use Rattle.rx_typed.specs.Tree as tree
use Rattle.rx_hoist_extraction.specs.Plan.{has_enum, has_exit, outs_of, to_next, Variable}
use Rattle.rx_hoist_extraction.specs.Values.{next_values, result_if_any, result_of, types_of, variables_held, Value}
use Rattle.rx_typeck_solver.specs.declared.facts.Demand.{Demand}
use Rattle.rx_typeck_solver.specs.Facts.{Assignment, KnownItems, MeetsEach}
use Rattle.rx_typeck_typed.specs.Asking.{expected}
use Rattle.rx_typeck_typed.specs.Demands as rules
use Rattle.rx_engine_names.specs.Renaming.{Renaming as Pairing}
use Rattle.rx_engine_names.specs.LikeNamed.{LikeExp}
use Rattle.rx_engine_names.specs.LikeNamed.LikeElse.{like_present}
use Rattle.rx_engine_names.specs.Moves.{moved, Moves}
use Rattle.rx_engine_names.specs.NewBody.{has_value, IsEnd}
use Rattle.rx_engine_names.specs.NewBody.IsDone.{tail_done}
use Rattle.rx_engine_names.specs.NewBody.IsEnd.{nothing_behind, outs_behind, value_alone, value_bound, value_in_next}
use Rattle.rx_engine_names.specs.Replaced.{joined}
use Rattle.rx_engine_blocks.specs.Renumbering.{shape_at, Renumbering}
use Rattle.rx_engine_typing.specs.Corresponding.{given_types}
use Rattle.rx_engine_changed.specs.Spots.{NumberedElse, Spot}
use Rattle.rx_engine_simulation.specs.Jumps.{Jumping}
use Rattle.rx_engine_simulation.specs.Packing.{bare, no_way, Way}
use Rattle.rx_engine_simulation.specs.Sights.{IsNew, Renaming}
use Rattle.rx_engine_simulation.specs.Turns.{Allowance}
use Rattle.rx_engine_simulation.specs.Units.{GivesUnit}
use Rattle.rx_engine_made_trees.specs.Giving.{TailGives}
use Rattle.rx_engine_made_trees.specs.Tails.{TailEndsTo}
use Rattle.rx_engine_made_trees.specs.Tails.TailEndsTo.{never_comes, unit_dropped, unit_in_front, value_alone as alone}
use Rattle.rx_engine_made_calls.specs.EndCases.{CopyReads, TailCase}
use Rattle.rx_engine_made_calls.specs.MadeCalls.{way_of}
use Rattle.rx_engine_made_calls.specs.NewEnds.{OutThere}
use Rattle.rx_engine_made_calls.specs.Plans.{is_there, Rows}
use Rattle.rx_engine_made_calls.specs.Plans.Rows.{no_rows}
use Rattle.rx_engine_made_calls.proofs.EndCases.{goes_there, unfollowed, Bare}
use Rattle.rx_engine_made_calls.proofs.EndCases.Bare.{is_bare, is_lost}
use Rattle.rx_engine_made_calls.proofs.Ends.{end_gives}
use Rattle.rx_engine_made_calls.proofs.TailEnds.{value_bound as bound_so, value_in_next as in_next}

joined_none : (ys : Statements) → ys ≡ joined ys named.no_statement
joined_none named.no_statement = refl
joined_none (named.statement_and a ys) = ap (named.statement_and a) (joined_none ys)

module _ (E : KnownItems) (q : Renumbering) (V M : Moves) (N : Pairing) (W : Assignment) (R : Renaming) (items : ℕ → ℕ) (gain : Allowance) (U others : List ℕ) (J : Jumping) (n : Node) (outs : List ℕ) (place : Option ℕ) where
  abbrev S : Assigned
  S = given_types E W

  abbrev Next : List Variable
  Next = outs_of to_next V.plan.exits

  abbrev way : Way
  way = way_of (has_enum V.plan.exits) place

  abbrev EndsSo : tree.Exp → Bool → Way → List ℕ → Statements → Else → Type 0
  EndsSo e has w xs lasts o = TailEndsTo S items gain U others J R n e has w xs lasts o

  abbrev Case : tree.Exp → Bool → Statements → Else → Type 0
  Case e has ys o = TailCase S items gain U others J R n e has way outs ys o

  abbrev Copies : tree.Exp → Exp → Type 0
  Copies e g = CopyReads S items gain U others J R n e g

  module _ (rows : Rows (OutThere M N q W R) Next outs) (there : has_exit to_next V.plan.exits ≡ true → place ≡ Some (V.variant to_next)) (nowhere : has_exit to_next V.plan.exits ≡ false → (place ≡ None) × (outs ≡ []) × (has_enum V.plan.exits ≡ true)) where
    abbrev Quiet : Type 0
    Quiet = Bare E q V M N W R items gain U others J n outs place rows there nowhere

    none_out : (vs : List Variable) (xs : List ℕ) → Rows (OutThere M N q W R) vs xs → vs ≡ [] → xs ≡ []
    none_out [] xs no_rows e = refl
    none_out (v ∷ vs) xs rows e = absurd (cc)

    way_there : way ≡ bare → has_exit to_next V.plan.exits ≡ true
    way_there w = by (has_exit to_next V.plan.exits) refl
      where
        other : no_way ≡ bare → ⊥
        other e = cc

        by : (b : Bool) → has_exit to_next V.plan.exits ≡ b → b ≡ true
        by true i = refl
        by false i = let z = nowhere i in absurd (other (sym (ap (λ (b : Bool). way_of b place) z.2 ∙ ap (way_of true) z.0) ∙ w))

    -- nothing behind: the tail, or what never comes
    quiet_tail : {e : tree.Exp} {ys : Statements} {g : Exp} → Copies e g → (has_exit to_next V.plan.exits ≡ true → GivesUnit U e) → Quiet → Case e false ys (named.present g)
    quiet_tail {e = e} {ys = ys} {g = g} c unit (is_bare w i) = record {
      front = ys;
      lasts = named.no_statement;
      is = joined_none ys;
      ends = subst (λ (v : Way). EndsSo e false v outs named.no_statement (named.present g)) (sym w) (subst (λ (xs : List ℕ). EndsSo e false bare xs named.no_statement (named.present g)) (sym i) (unit_dropped (unit (way_there w)) c.like c.reads));
    }
    quiet_tail {e = e} {ys = ys} {g = g} c unit (is_lost w i) = record {
      front = ys;
      lasts = named.no_statement;
      is = joined_none ys;
      ends = subst (λ (v : Way). EndsSo e false v outs named.no_statement (named.present g)) (sym w) (subst (λ (xs : List ℕ). EndsSo e false no_way xs named.no_statement (named.present g)) (sym i) (never_comes c.like c.reads));
    }

    no_value : (o : Option Typ) (e : Exp) → has_value o (named.present e) ≡ false → is_there o ≡ false
    no_value None e i = refl
    no_value (Some t) e i = absurd (cc)

    -- what Next hands out
    valued : {t : Typ} → has_exit to_next V.plan.exits ≡ true → V.plan.value ≡ Some t → next_values V.plan ≡ result_of t ∷ variables_held Next
    valued r v = ap (λ (b : Bool). if b then result_if_any V.plan.value ++ variables_held Next else []) r ∙ ap (λ (o : Option Typ). result_if_any o ++ variables_held Next) v

    held : has_exit to_next V.plan.exits ≡ true → is_there V.plan.value ≡ false → next_values V.plan ≡ variables_held Next
    held r e = ap (λ (b : Bool). if b then result_if_any V.plan.value ++ variables_held Next else []) r ∙ by V.plan.value e
      where
        by : (o : Option Typ) → is_there o ≡ false → result_if_any o ++ variables_held Next ≡ variables_held Next
        by None e = refl
        by (Some t) e = absurd (cc)

    abbrev Bound : Statements → Type 0
    Bound ys = (rs : Statements) (l b : Node) (x : ℕ) (w : Written) (g : Exp) → ys ≡ joined rs (named.statement_and (named.lets l (named.bind b x false) (Some w) g) named.no_statement) → (number x ≡ x) × IsNew R x

    with_value : {e : tree.Exp} {t : Typ} {ys : Statements} {o : Else} → V.plan.value ≡ Some t → Case e true ys o → Case e (is_there V.plan.value) ys o
    with_value {e = e} {ys = ys} {o = o} v c = subst (λ (b : Bool). Case e b ys o) (sym (ap is_there v)) c

    without_value : {e : tree.Exp} {ys : Statements} {o : Else} → is_there V.plan.value ≡ false → Case e false ys o → Case e (is_there V.plan.value) ys o
    without_value {e = e} {ys = ys} {o = o} v c = subst (λ (b : Bool). Case e b ys o) (sym v) c

    pub tail_case : (f : ℕ) (ds : List Demand) (p : Spot) (z : Site) (s : Spot) (e : tree.Exp) {xs ys : Statements} {e0 : Exp} {o : Else} → IsEnd V M N xs (named.present e0) ys o → ((g : Exp) → LikeExp (moved V) N e0 g → Copies e g) → (is_there V.plan.value ≡ false → has_exit to_next V.plan.exits ≡ true → GivesUnit U e)
        → (is_there V.plan.value ≡ true → has_exit to_next V.plan.exits ≡ true) → MeetsEach E W (rules.of_returned f o ds) → NumberedElse p z o s → (has_enum V.plan.exits ≡ true → variant_parts E.items V.enum (V.variant to_next) ≡ map (shape_at q) (types_of (next_values V.plan)))
        → ((v : Variable) (e : Exp) → Next ≡ v ∷ [] → o ≡ named.present e → (z ≡ Site.Value) ⊎ (W (expected (node_of e)) ≡ shape_at q v.typ)) → Bound ys → Case e (is_there V.plan.value) ys o
    tail_case f ds p z s e {ys = ys} (value_in_next {t = t} {e' = g} {f = h} v enum likes like variant) copies unit reached met num parts want bound =
        let c = copies g like in let r = reached (ap is_there v) in with_value v (record {
          front = ys;
          lasts = named.no_statement;
          is = joined_none ys;
          ends = subst (λ (w : Way). EndsSo e true w outs named.no_statement (named.present h)) (sym (ap (λ (b : Bool). way_of b place) enum ∙ ap (way_of true) (there r)))
              (in_next E q V M N W R items gain U others J f n (shape_at q t) c.copy ds p z s rows variant (parts enum ∙ ap (λ (hs : List Value). map (shape_at q) (types_of hs)) (valued r v)) met num c.like c.reads);
        })
    tail_case f ds p z s e {ys = ys} (value_alone {e' = g} v none empty likes like) copies unit reached met num parts want bound =
        let c = copies g like in with_value v (record {
          front = ys;
          lasts = named.no_statement;
          is = joined_none ys;
          ends = subst (λ (w : Way). EndsSo e true w outs named.no_statement (named.present g)) (sym (ap (λ (b : Bool). way_of b place) none))
              (subst (λ (xs : List ℕ). EndsSo e true bare xs named.no_statement (named.present g)) (sym (none_out Next outs rows empty)) (alone c.like c.reads));
        })
    tail_case f ds p z s e (value_bound {ys = ys} {e' = g} {o = a} {os = os} {n = tn} {m = m} {u = u} {w = w} l b x v none likes like i1 i2 i3 i4 says number_is given) copies unit reached met num parts want bound =
        let c = copies g like in let k = bound ys l b x w g refl in with_value v (record {
          front = ys;
          lasts = named.statement_and (named.lets l (named.bind b x false) (Some w) g) named.no_statement;
          is = refl;
          ends = subst (λ (y : Way). EndsSo e true y outs (named.statement_and (named.lets l (named.bind b x false) (Some w) g) named.no_statement) (named.present (named.tuple tn (named.exp_and (named.var m u) (named.exp_and a os))))) (sym (ap (λ (b : Bool). way_of b place) none))
              (bound_so E q V M N W R items gain U others J n l b m tn x u w c.copy p z s rows given (number_is ∙ k.0) k.1 num c.like c.matches);
        })
    tail_case f ds p z s e {o = o} (outs_behind {ys = ys} value on likes (tail_done {n = d} {e' = g} i like) given) copies unit reached met num parts want bound =
        let c = copies g like in let none = no_value V.plan.value _ value in
        let r = goes_there E q V M N W R items gain U others J n outs place rows there nowhere on in
        let h = end_gives E q V M N W R f ds p z s given rows met num (λ enum. parts enum ∙ ap (λ (hs : List Value). map (shape_at q) (types_of hs)) (held r none)) want in without_value none (record {
          front = ys;
          lasts = named.statement_and (named.evaluates d g true) named.no_statement;
          is = refl;
          ends = unit_in_front (unit none r) c.like c.reads h.1 (subst (λ (p : Option ℕ). TailGives S (way_of (has_enum V.plan.exits) p) h.0 o) (sym (there r)) h.2);
        })
    tail_case f ds p z s e (nothing_behind value on likes (like_present {e' = g} like)) copies unit reached met num parts want bound =
        let none = no_value V.plan.value _ value in without_value none (quiet_tail (copies g like) (unit none) (unfollowed E q V M N W R items gain U others J n outs place rows there nowhere on))
