-- Values of variables in a row: nothing, the value, a tuple, or a variant with them, as a tree with numbers (Rust Reference, "Tuple expressions",
-- "Enumerations").
use Rattle.std.specs.Prelude.{◌≡◌, ℕ, [], ◌∷◌, List}
use Rattle.rx_typed.specs.declared.nodes.Node.{Node}
use Rattle.rx_typed.specs.declared.nodes.Use.{Use}
use Rattle.rx_typed.specs.Named as named
use Rattle.rx_typed.specs.Named.{Else, Exp, Exps}
use Rattle.rx_typed.specs.Elaborated.{Assigned}
use Rattle.rx_engine_simulation.specs.Packing.{as_variant, bare, Way}
use Rattle.rx_engine_made_trees.specs.Nodes.{KeepsItsType}

module _ (T : Assigned) where
  pub data NamesVariable (z : ℕ) : Exp → Type 0 where
    a_variable : {n : Node} {u : Use} → u.number ≡ z → KeepsItsType T n → NamesVariable z (named.var n u)

  pub data NamesAll : List ℕ → Exps → Type 0 where
    names_none : NamesAll [] named.no_exp
    names_and : {z : ℕ} {zs : List ℕ} {e : Exp} {es : Exps} → NamesVariable z e → NamesAll zs es → NamesAll (z ∷ zs) (named.exp_and e es)

  pub data GivesThem : Way → List ℕ → Exp → Type 0 where
    -- `{}`
    an_empty_block : {n m : Node} → GivesThem bare [] (named.block n (named.body m named.no_statement named.absent))
    one : {z : ℕ} {e : Exp} → NamesVariable z e → GivesThem bare (z ∷ []) e
    a_tuple : {y z : ℕ} {zs : List ℕ} {n : Node} {es : Exps} → NamesAll (y ∷ z ∷ zs) es → GivesThem bare (y ∷ z ∷ zs) (named.tuple n es)
    a_variant : {zs : List ℕ} {n : Node} {i v : ℕ} {es : Exps} → NamesAll zs es → GivesThem (as_variant v) zs (named.variant n i v es)

  -- a tail, or the value of a return
  pub data TailGives : Way → List ℕ → Else → Type 0 where
    no_tail : TailGives bare [] named.absent
    a_tail : {w : Way} {zs : List ℕ} {e : Exp} → GivesThem w zs e → TailGives w zs (named.present e)
