-- The plan by names that is made of one by numbers: row by row it is that.
use Rattle.std.proofs.Common.{if◌then◌else◌, ◌≡◌, ◌+◌, inl, inr, ℕ, suc, Bool, true, false, ◌==◌, List, [], ◌∷◌, length, map, get_or, slice_get, Some, refl, sym, ap, ◌∙◌, subst, arith}
use Rattle.std.proofs.lemmas.Bool.Decides.{Decides-eqb}
use Rattle.rx_tree.specs.Lists.{nth}
use Rattle.rx_resolve_names.specs.Scopes.{variable_named}
use Rattle.rx_typed.specs.Elaborated.{has_several}
use Rattle.rx_hoist_extraction.specs.Names.{Names}
use Rattle.rx_hoist_extraction.specs.Plan.{Variable}
use Rattle.rx_hoist_naming.specs.NamedPlan.{named_exit, named_leaving, named_params, named_variable, named_variables, place_of}
use Rattle.rx_typeck_solver.specs.Facts.{Assignment, KnownItems}
use Rattle.rx_typeck_typed.specs.declared.typed.TypedFn.{TypedFn}
use Rattle.rx_exits_plan.specs.Asked.{Asked}
use Rattle.rx_exits_plan.specs.declared.plan.Exit.{Exit}
use Rattle.rx_exits_plan.specs.declared.plan.Exit.TheVariants as exit
use Rattle.rx_exits_plan.specs.declared.plan.ExitOuts.{ExitOuts}
use Rattle.rx_exits_plan.specs.Plan.{Plan}
use Rattle.rx_exits_plan.specs.PlainPlan.{plain-Exit}
use Rattle.rx_exits_plan.specs.Points as points
use Rattle.rx_modes_policy.specs.declared.uses.Mode.{Mode}
use Rattle.rx_engine_names.specs.Renaming.{Renaming as Pairing}
use Rattle.rx_engine_names.specs.Calls.{Calls}
use Rattle.rx_engine_names.specs.HandedOut.{Handing}
use Rattle.rx_engine_names.specs.Moves.{numbers_of}
use Rattle.rx_engine_blocks.specs.Renumbering.{shape_at, Renumbering}
use Rattle.rx_engine_simulation.specs.Sights.{In, Renaming}
use Rattle.rx_engine_simulation.specs.Jumps.{Jumping}
use Rattle.rx_engine_made_trees.specs.Arguments.{SeenAs}
use Rattle.rx_engine_made_calls.specs.Plans.{ExitIs, ExitsAre, GoesBack, HasType, ParamsAre, Rows}
use Rattle.rx_engine_made_calls.specs.Plans.ParamsAre.{more_params, no_params}
use Rattle.rx_engine_made_calls.specs.Plans.Rows.{more_rows, no_rows}
use Rattle.rx_engine_made_calls.specs.Plans.ExitsAre.{more_exits, no_exits}
use Rattle.rx_engine_made_calls.specs.Plans.ExitIs.{is_break, is_continue, is_next, is_return}
use Rattle.rx_engine_made_calls.specs.Named.{type_of_variable, ExitTold}
use Rattle.rx_engine_made_calls.specs.Named.ExitTold.{told_break, told_continue, told_next, told_return}
use Rattle.rx_engine_made_calls.specs.Seeing.{has_here, has_there, HasMode, how_inside, hows_of}

module _ (ns : Names) (t : TypedFn) where
  -- ---- params

  pub params_named : (C : Calls) (N : Pairing) (q : Renumbering) (W : Assignment) (again : Bool) (R : Renaming) (cold : List ℕ) (A : Asked) (muts : List Bool) (xs : List ℕ) (ms : List Mode) (vs : List Bool) → length ms ≡ length xs → length vs ≡ length xs
      → ((x : ℕ) → In x xs → variable_named C.scope (get_or ns x []) ≡ Some x) → ((x : ℕ) → In x xs → HasType N q W x (type_of_variable t x))
      → ((x : ℕ) (m : Mode) → HasMode x m xs ms → (y : ℕ) → N.variable x y ≡ true → SeenAs again R cold x y (shape_at q (type_of_variable t x)) m (how_inside A muts x m)) → ParamsAre C N q W again R cold (named_params ns t xs ms vs) xs ms (hows_of A muts xs ms)
  params_named C N q W again R cold A muts [] [] [] e g names types seen = no_params
  params_named C N q W again R cold A muts [] (m ∷ ms) vs e g names types seen = absurd (omega (arith, e))
  params_named C N q W again R cold A muts [] [] (v ∷ vs) e g names types seen = absurd (omega (arith, g))
  params_named C N q W again R cold A muts (x ∷ xs) [] vs e g names types seen = absurd (omega (arith, e))
  params_named C N q W again R cold A muts (x ∷ xs) (m ∷ ms) [] e g names types seen = absurd (omega (arith, g))
  params_named C N q W again R cold A muts (x ∷ xs) (m ∷ ms) (v ∷ vs) e g names types seen =
      more_params (record { named = names x (inl refl); mode = refl; typed = types x (inl refl); seen = seen x m has_here })
      (params_named C N q W again R cold A muts xs ms vs (omega (arith, e)) (omega (arith, g)) (λ z i. names z (inr i)) (λ z i. types z (inr i)) (λ z n h. seen z n (has_there h)))

  -- ---- what is handed out

  pub rows_named : (P : Variable → ℕ → Type 0) (xs : List ℕ) → ((x : ℕ) → In x xs → P (named_variable ns t x) x) → Rows P (named_variables ns t xs) xs
  rows_named P [] f = no_rows
  rows_named P (x ∷ xs) f = more_rows (f x (inl refl)) (rows_named P xs (λ z i. f z (inr i)))

  named_many : (xs : List ℕ) → length (named_variables ns t xs) ≡ length xs
  named_many [] = refl
  named_many (x ∷ xs) = ap suc (named_many xs)

  -- ---- exits: a loop's place among those round the run tells it

  nth_place : (l : ℕ) (ls : List ℕ) → In l ls → nth ls (place_of l ls) ≡ Some l
  nth_place l [] i = absurd i
  nth_place l (k ∷ ks) i = by (k == l) (Decides-eqb k l).0 (Decides-eqb k l).1 i (nth_place l ks)
    where
      not_both : {b : Bool} → b ≡ false → b ≡ true → ⊥
      not_both e g = cc

      by : (b : Bool) → (b ≡ true → k ≡ l) → (k ≡ l → b ≡ true) → In l (k ∷ ks) → (In l ks → nth ks (place_of l ks) ≡ Some l) → nth (k ∷ ks) (if b then 0 else suc (place_of l ks)) ≡ Some l
      by true f g i rest = ap Some (f refl)
      by false f g (inl e) rest = absurd (not_both refl (g (sym e)))
      by false f g (inr i) rest = rest i

  module _ (G : Handing) (N : Pairing) (q : Renumbering) (W : Assignment) (A : Asked) (muts : List Bool) (k : Plan) (R : Renaming) (J : Jumping) (ls : List ℕ) (round : numbers_of G.loops ≡ ls) where
    exit_named : (e : Exit) (outs : List ℕ) → ExitTold ns t G N q W A muts k R J ls e outs → ExitIs G N q W A muts k R J (named_exit ls e) (named_variables ns t outs) (plain-Exit e)
    exit_named exit.Next outs (told_next i) = is_next (named_many outs ∙ ap length i)
    exit_named (exit.Break l) outs (told_break i among leads dis all back) =
        is_break (ap (λ (ms : List ℕ). nth ms (place_of l ls)) round ∙ nth_place l ls among) leads dis all (subst (λ (xs : List ℕ). Rows (GoesBack G N q W A muts k R) (named_variables ns t outs) xs) i (rows_named (GoesBack G N q W A muts k R) outs back))
    exit_named (exit.Continue l) outs (told_continue i among leads dis all back) =
        is_continue (ap (λ (ms : List ℕ). nth ms (place_of l ls)) round ∙ nth_place l ls among) leads dis all (subst (λ (xs : List ℕ). Rows (GoesBack G N q W A muts k R) (named_variables ns t outs) xs) i (rows_named (GoesBack G N q W A muts k R) outs back))
    exit_named exit.Return outs (told_return i) = is_return i

    no_more : (n : ℕ) → n ≡ 0 + n
    no_more n = omega arith

    one_further : (j v : ℕ) → suc j + v ≡ j + suc v
    one_further j v = omega arith

    pub exits_named : (E : KnownItems) (v : ℕ) (es : List ExitOuts) → ((j : ℕ) (e : ExitOuts) → slice_get es j ≡ Some e → (G.variant (named_exit ls e.exit) ≡ j + v) × ExitTold ns t G N q W A muts k R J ls e.exit e.outs)
        → ((e g : ExitOuts) (gs : List ExitOuts) → es ≡ e ∷ g ∷ gs → has_several E.items G.enum ≡ true) → ExitsAre G N q W A muts k R E J v (map (named_leaving ns t ls) es) (map (λ (e : ExitOuts). plain-Exit e.exit) es)
    exits_named E v [] told several = no_exits
    exits_named E v (e ∷ es) told several =
        let first = told 0 e refl in
        more_exits (first.0 ∙ sym (no_more v)) (λ y ys i. by es several i) (exit_named e.exit e.outs first.1)
        (exits_named E (suc v) es (λ j g i. (let z = told (suc j) g i in (z.0 ∙ one_further j v, z.1))) (λ f g gs i. several e f (g ∷ gs) (ap (λ (xs : List ExitOuts). e ∷ xs) i)))
      where
        by : {y : points.Exit} {ys : List points.Exit} (es : List ExitOuts) → ((f g : ExitOuts) (gs : List ExitOuts) → e ∷ es ≡ f ∷ g ∷ gs → has_several E.items G.enum ≡ true) → map (λ (e : ExitOuts). plain-Exit e.exit) es ≡ y ∷ ys → has_several E.items G.enum ≡ true
        by [] several i = absurd (cc)
        by (g ∷ gs) several i = several e g gs refl
