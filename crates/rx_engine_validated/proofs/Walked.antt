-- What the walk over both trees finds, as it is used of a run: expressions, rests of blocks and `let`s that it finds alike are so, by their form,
-- where the answer reads some references that it asks for again. In the text marks stand in front of jumps out of the run.
use Rattle.std.proofs.Common.{◌≡◌, ℕ, Bool, true, false, [], Some}
use Rattle.rx_typed.specs.Tree as tree
use Rattle.rx_typed.specs.Tree.{Mark, Pattern, Place, Exp, Scrutinee, Body, own, temporary_of}
use Rattle.rx_lower_walks.specs.Matching.{bindings}
use Rattle.rx_lower_walks.specs.Actions.{subject}
use Rattle.rx_exits_plan.specs.Changed.{Changes, changed, changed_matched, changed_body}
use Rattle.rx_engine_simulation.specs.Turns.{Allowance}
use Rattle.rx_engine_simulation.specs.Histories.{Facts}
use Rattle.rx_engine_simulation.specs.Sights.{viewed, sight, Renaming, sight_of}
use Rattle.rx_engine_simulation.specs.Binders.{LikeBindings, AreBehind}
use Rattle.rx_engine_simulation.specs.Jumps.{Jumping}
use Rattle.rx_engine_simulation.specs.Openings.{Openings}
use Rattle.rx_engine_simulation.specs.Like.{LikeExp, LikeMatched, at_places, of_values, LikeBody}
use Rattle.rx_engine_simulation.specs.Rereads.{Rereads, RereadsMatched, in_place_of, in_value_of, RereadsBody}
use Rattle.rx_engine_related.specs.Running.{passing}
use Rattle.rx_engine_related.specs.ByForm.{by_form}
use Rattle.rx_engine_related.specs.Leaving.{left}
use Rattle.rx_engine_alike.specs.Likeness.{Hole, Likeness, if_so, provided, alike, is_alike}
use Rattle.rx_engine_alike.specs.Ways.{from_value, way_of}
use Rattle.rx_engine_alike.specs.Patterns.{like_bindings}
use Rattle.rx_engine_alike.specs.Forms.{Between, may_be_read, value_way, like_exp, like_let, like_body, way_of_let}
use Rattle.rx_engine_alike_laws.proofs.Promised.{Promised, nothing, Says, says, silent, map_so, where_so, so, and_so, or_says}
use Rattle.rx_engine_alike_laws.proofs.Patterns.{matched_places, matched_values, like_bindings_so}
use Rattle.rx_engine_alike_laws.proofs.Giving.{Reread, reread}
use Rattle.rx_engine_alike_laws.proofs.Found.{Found, all_alike, alike_around, not_alike}
use Rattle.rx_engine_alike_laws.proofs.Letting.{MayRead, by_binding, by_looking, binds_so, looks_so, read_in_so}
use Rattle.rx_engine_alike_laws.proofs.Forms.{exp_so, body_so}

-- with reads
pub data AlikeExp (C : Between) (gain : Allowance) (J : Jumping) (R : Renaming) (e e' : Exp) : Type 0 where
  alike_exp : {f : Exp} → Rereads e' f → LikeExp C.items (left C.units) gain (by_form C.ways.elsewhere) 0 J R e f → AlikeExp C gain J R e e'

pub data AlikeBody (C : Between) (gain : Allowance) (J : Jumping) (R : Renaming) (b b' : Body) : Type 0 where
  alike_body : {d : Body} → RereadsBody b' d → LikeBody C.items (left C.units) gain (by_form C.ways.elsewhere) 0 J R b d → AlikeBody C gain J R b b'

-- what a `let` of the text matches, and its pattern, beside those of one of the answer; with the variables then
pub data LikeLet (C : Between) (gain : Allowance) (J : Jumping) (R Ra : Renaming) (q : Pattern) (c : Scrutinee) : Pattern → Scrutinee → Type 0 where
  let_matched : {q' : Pattern} {c' : Scrutinee} → LikeMatched C.items (left C.units) gain (by_form C.ways.elsewhere) 0 J R c c'
      → LikeBindings (by_form C.ways.elsewhere) (subject c) (subject c') R (bindings [] q) (bindings [] q') Ra → LikeLet C gain J R Ra q c q' c'
  -- a place that a variable is bound to is read
  let_read : {k z y : ℕ} {m m' : Mark} {v w : Bool} → LikeLet C gain J R Ra q c (tree.bind k z (tree.by_value v)) (tree.of_value (tree.read m' w (own y)))
      → LikeLet C gain J R Ra q c (tree.bind k z (tree.by_value v)) (tree.at_place m (own y))
  -- a pattern looks behind the reference in a place
  let_look : {y : ℕ} {m m' : Mark} {w : Bool} {q' : Pattern} (x : ℕ) → sight_of R x ≡ Some (sight y viewed) → AreBehind y (bindings [] q')
      → LikeLet C gain J R Ra q c q' (tree.of_value (tree.read m' w (own y))) → LikeLet C gain J R Ra q c q' (tree.at_place m (own y))

pub data AlikeLet (C : Between) (gain : Allowance) (J : Jumping) (R Ra : Renaming) (q : Pattern) (c : Scrutinee) (q' : Pattern) (c' : Scrutinee) : Type 0 where
  alike_let : {d : Scrutinee} → RereadsMatched c' d → LikeLet C gain J R Ra q c q' d → AlikeLet C gain J R Ra q c q' c'

-- ---- what was found alike

found_so : {F : Hole → Type 0} {W : Type 0} {E : Type 0} {Rel : E → E → Type 0} {L : ℕ → E → Type 0} {e : E} {l : Likeness} → Found F W Rel L e l → Says (Reread Rel (λ z. L 0 z) e) (is_alike l)
found_so (all_alike z x w f) = says (reread z x (f 0))
found_so (alike_around g) = silent
found_so not_alike = silent

module _ (C : Between) (gain : Allowance) (J : Jumping) where
  abbrev V : Facts
  V = by_form C.ways.elsewhere

  abbrev O : Openings
  O = left C.units

  abbrev Out : Changes
  Out = passing C.outside

  pub exp_alike : (R : Renaming) (e e' : Exp) → Says (AlikeExp C gain J R (changed Out e) e') (is_alike (like_exp C J R e e'))
  exp_alike R e e' = so (λ a. by a) (found_so (exp_so C O gain V J (λ a ls R e f f' l. l) (λ x i. i) J.loops R e e'))
    where
      by : Reread Rereads (λ z. LikeExp C.items O gain V 0 J R (changed Out e) z) e' → AlikeExp C gain J R (changed Out e) e'
      by (reread z x l) = alike_exp x l

  pub body_alike : (R : Renaming) (b b' : Body) → Says (AlikeBody C gain J R (changed_body Out b) b') (is_alike (like_body C J R b b'))
  body_alike R b b' = so (λ a. by a) (found_so (body_so C O gain V J (λ a ls R e f f' l. l) (λ x i. i) J.loops R b b'))
    where
      by : Reread RereadsBody (λ z. LikeBody C.items O gain V 0 J R (changed_body Out b) z) b' → AlikeBody C gain J R (changed_body Out b) b'
      by (reread z x l) = alike_body x l

  -- ---- a `let`

  of_exp : {R Ra : Renaming} {q q' : Pattern} (e : Exp) {f d : Exp} → Rereads f d → LikeExp C.items O gain V 0 J R (changed Out e) d
      → LikeBindings V (subject (changed_matched Out (tree.of_value e))) (subject (tree.of_value d)) R (bindings [] q) (bindings [] q') Ra
      → AlikeLet C gain J R Ra q (changed_matched Out (tree.of_value e)) q' (tree.of_value f)
  of_exp e x l b = alike_let (in_value_of x) (let_matched (of_values l) b)

  values_alike : (R : Renaming) (q : Pattern) (e : Exp) (q' : Pattern) (f : Exp) → AlikeExp C gain J R (changed Out e) f
      → Promised (λ Ra. AlikeLet C gain J R Ra q (changed_matched Out (tree.of_value e)) q' (tree.of_value f)) (like_bindings C.ways from_value R q q')
  values_alike R q e q' f (alike_exp {f = d} x l) = map_so (λ Ra b. of_exp e x l b) (like_bindings_so V C.ways (λ x i. i) from_value R q q'
      (matched_values R (temporary_of (changed Out e)) (temporary_of d)))

  -- the place is read for the text's value
  read_there : {R Ra : Renaming} {q q' : Pattern} {c : Scrutinee} {m : Mark} {p : Place} → MayRead R q' p → LikeLet C gain J R Ra q c q' (tree.of_value (tree.read m false p))
      → LikeLet C gain J R Ra q c q' (tree.at_place m p)
  read_there by_binding l = let_read l
  read_there (by_looking x s k) l = let_look x s k l

  place_alike : (R : Renaming) (q : Pattern) (e : Exp) (q' : Pattern) (m : Mark) (p : Place) (b : Bool)
      → Says (((k : ℕ) (J : Jumping) (m : Mark) → LikeExp C.items O gain V k J R (changed Out e) (tree.read m false p)) × MayRead R q' p) b
      → Promised (λ Ra. AlikeLet C gain J R Ra q (changed_matched Out (tree.of_value e)) q' (tree.at_place m p)) (if_so (is_alike (provided b alike)) (like_bindings C.ways (value_way b) R q q'))
  place_alike R q e q' m p false silent = nothing
  place_alike R q e q' m p true (says t) = map_so (λ Ra b. alike_let in_place_of (read_there t.1 (let_matched (of_values (t.0 0 J m)) b)))
      (like_bindings_so V C.ways (λ x i. i) from_value R q q' (matched_values R (temporary_of (changed Out e)) (temporary_of (tree.read m false p))))

  pub let_alike : (R : Renaming) (q : Pattern) (c : Scrutinee) (q' : Pattern) (c' : Scrutinee)
      → Promised (λ Ra. AlikeLet C gain J R Ra q (changed_matched Out c) q' c') (if_so (is_alike (like_let C J R c q' c')) (like_bindings C.ways (way_of_let R c q' c') R q q'))
  let_alike R q (tree.of_value e) q' (tree.at_place m p) = place_alike R q e q' m p (may_be_read R e q' p)
      (and_so (read_in_so C.items O gain V Out R p e) (or_says (binds_so R q' p.root p.steps) (looks_so R e q' p.root p.steps)) (λ a b. (a, b)))
  let_alike R q (tree.at_place m p) q' (tree.at_place m' p') = map_so (λ Ra b. alike_let in_place_of (let_matched at_places b))
      (like_bindings_so V C.ways (λ x i. i) (way_of R p p') R q q' (matched_places R p p'))
  let_alike R q (tree.of_value e) q' (tree.of_value f) = where_so (exp_alike R e f) (λ a. values_alike R q e q' f a)
  let_alike R q (tree.at_place m p) q' (tree.of_value f) = nothing
