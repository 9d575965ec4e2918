-- A run with its block's tail: the new function's end, and what stands in the caller.
use Rattle.std.proofs.Common.{◌≡◌, ℕ, Bool, true, false, List, [], ◌∷◌, Option, Some, None, sym, subst}
use Rattle.rx_typed.specs.declared.nodes.Node.{Node}
use Rattle.rx_typed.specs.Types.{Shapes, tuple_of, unit_shape}
use Rattle.rx_core.specs.declared.types.Kind.{Kind}
use Rattle.rx_typed.specs.Named as named
use Rattle.rx_typed.specs.Named.{Else, Exp, Exps, is_place, Statements}
use Rattle.rx_typed.specs.Tree as tree
use Rattle.rx_typed.specs.Tree.{Body}
use Rattle.rx_typed.specs.Elaborated.{Assigned, mark, marked, matched, no_mark, operands, pattern, subpatterns, tail, value}
use Rattle.rx_exits_plan.specs.Points.{next}
use Rattle.rx_exits_plan.specs.Asked.{Asked}
use Rattle.rx_exits_plan.specs.Plan.{Plan}
use Rattle.rx_engine_simulation.specs.Turns.{Allowance}
use Rattle.rx_engine_simulation.specs.Sights.{In, IsNew, Renaming}
use Rattle.rx_engine_simulation.specs.Jumps.{Jumping}
use Rattle.rx_engine_simulation.specs.Endings.{Last}
use Rattle.rx_engine_simulation.specs.Statements.{as_end, as_tail, GivenBack}
use Rattle.rx_engine_simulation.specs.Packing.{AreNew, as_variant, bare, Gives, Takes, Way}
use Rattle.rx_engine_simulation.specs.Rereads.{in_build, in_end, in_give, in_let, in_operand, in_place_of, in_run, Rereads, RereadsBody, RereadsMatched, same_unit}
use Rattle.rx_engine_simulation.specs.Places.{LikePlace, looking}
use Rattle.rx_engine_simulation.specs.Units.{GivesUnit}
use Rattle.rx_engine_related.specs.Premises.{NotHanded}
use Rattle.rx_engine_related.specs.Leaving.{HaveThere}
use Rattle.rx_engine_related.specs.Tails.{tail_dropped, tail_in_front, tail_in_tuple, tail_in_variant, tail_left, tail_value, unit_behind, value_back, value_behind}
use Rattle.rx_engine_related.specs.Tails as related
use Rattle.rx_engine_made_trees.specs.Seen.{Distinct, handed_back, SameLength, seen_so, specials, without}
use Rattle.rx_engine_made_trees.specs.Statements.{around}
use Rattle.rx_engine_made_trees.specs.Handing.{BindsAll, DeclaresAll, HandedNames, HandsOver}
use Rattle.rx_engine_made_trees.specs.Tails.{gives_unit, gives_value, HandsTail, IsLike, never_comes, place_in_tuple, tail_ended_so, TailEndedSo, TailEndsTo, tail_stands, TailStands, unit_dropped, unit_in_front, value_alone, value_first, value_in_tuple, value_in_variant}
use Rattle.rx_engine_made_trees.proofs.Sights.{back_within, seen_so_stays, without_within}
use Rattle.rx_engine_made_trees.proofs.Taking.{reread, Reread}
use Rattle.rx_engine_made_trees.proofs.Giving.{all_are_taken, all_taken, AllTaken, given_them, tail_given, taken}
use Rattle.rx_engine_made_trees.proofs.Handing.{frees_received, handed_over, hands_so, HandsSo, let_read, put_back_so, put_so, PutSo, received_outside, receives, same_length, tuple_is}
use Rattle.rx_engine_made_trees.proofs.Handed.{again_so, AgainSo, declared_again, new_all, not_handed, unseen_all}

module _ (T : Assigned) (items : ℕ → ℕ) (gain : Allowance) (U : List ℕ) (special : List ℕ) (J : Jumping) (R : Renaming) (n : Node) where
  in_variant : (e e' : tree.Exp) (m : Node) (i v : ℕ) (f : Exp) (es : Exps) (xs zs : List ℕ) → IsLike T items gain U special J R e e' → Rereads (value T f) e' → HaveThere R xs zs → AllTaken 1 zs (operands T 1 es)
      → TailEndedSo T items gain U special J R n e true (as_variant v) xs named.no_statement (named.present (named.variant m i v (named.exp_and f es)))
  in_variant e e' m i v f es xs zs a r h (all_taken fs rs ts) = tail_ended_so (tree.ends (tree.give (no_mark n) (tree.build (mark T m) (tree.variant_of i v) (tree.operand_and 0 e' fs)))) (tail_in_variant a h ts) (in_end (in_give (in_build (in_operand r rs))))

  in_tuple : (e e' : tree.Exp) (j p : Node) (x : ℕ) (m : Bool) (t : Option named.Written) (f g : Exp) (xs zs : List ℕ) → IsLike T items gain U special J R e e' → RereadsMatched (matched T f (value T f)) (tree.of_value e') → IsNew R x → (In x zs → ⊥)
      → HaveThere R xs zs → Reread (λ y. Gives bare (x ∷ zs) y) (value T g) → TailEndedSo T items gain U special J R n e true bare xs (named.statement_and (named.lets j (named.bind p x m) t f) named.no_statement) (named.present g)
  in_tuple e e' j p x m t f g xs zs a r new apart h (reread y q w) = tail_ended_so (tree.lets j.number (pattern T None (named.bind p x m)) (tree.of_value e') (tree.ends (tree.give (no_mark n) y))) (tail_in_tuple a new apart h w) (in_let r (in_end (in_give q)))

  place_in : (p p' : tree.Place) (moves : Bool) (m0 m' : tree.Mark) (j b : Node) (x : ℕ) (m : Bool) (t : Option named.Written) (f g : Exp) (xs zs : List ℕ) → LikePlace R looking p p'
      → matched T f (value T f) ≡ tree.at_place m' p' → IsNew R x → (In x zs → ⊥) → HaveThere R xs zs → Reread (λ y. Gives bare (x ∷ zs) y) (value T g)
      → TailEndedSo T items gain U special J R n (tree.read m0 moves p) true bare xs (named.statement_and (named.lets j (named.bind b x m) t f) named.no_statement) (named.present g)
  place_in p p' moves m0 m' j b x m t f g xs zs like i new apart h (reread y q w) = tail_ended_so (tree.lets j.number (pattern T None (named.bind b x m)) (tree.at_place m' p') (tree.ends (tree.give (no_mark n) y))) (related.place_in_tuple like new apart h w)
      (subst (λ c. RereadsBody (tree.lets j.number (pattern T None (named.bind b x m)) c (tree.ends (tree.give (no_mark n) (value T g)))) (tree.lets j.number (pattern T None (named.bind b x m)) (tree.at_place m' p') (tree.ends (tree.give (no_mark n) y)))) (sym i) (in_let in_place_of (in_end (in_give q))))

  in_front : (e e' : tree.Exp) (w : Way) (j : Node) (f : Exp) (c : Bool) (o : Else) (xs zs : List ℕ) → GivesUnit U e → IsLike T items gain U special J R e e' → Rereads (value T f) e' → HaveThere R xs zs → Reread (λ y. Gives w zs y) (tail T n o)
      → TailEndedSo T items gain U special J R n e false w xs (named.statement_and (named.evaluates j f c) named.no_statement) o
  in_front e e' w j f c o xs zs u a r h (reread y q g) = tail_ended_so (tree.runs e' (tree.ends (tree.give (no_mark n) y))) (tail_in_front u a h g) (in_run r (in_end (in_give q)))

  pub tail_ends_so : (e : tree.Exp) (has : Bool) (w : Way) (xs : List ℕ) (ss : Statements) (o : Else) → TailEndsTo T items gain U special J R n e has w xs ss o → TailEndedSo T items gain U special J R n e has w xs ss o
  tail_ends_so e has w xs ss o (value_alone {e' = z} a r) = tail_ended_so (tree.ends (tree.give (no_mark n) z)) (tail_value a) (in_end (in_give r))
  tail_ends_so e has w xs ss o (value_in_variant {e' = z} {m = m} {i = i} {v = v} {f = f} {es = es} {zs = zs} a r h t) = in_variant e z m i v f es xs zs a r h (all_are_taken T 1 zs es t)
  tail_ends_so e has w xs ss o (value_in_tuple {e' = z} {j = j} {p = p} {x = x} {m = m} {t = t} {f = f} {g = g} {zs = zs} a r new apart h gs) = in_tuple e z j p x m t f g xs zs a r new apart h (given_them T bare (x ∷ zs) g gs)
  tail_ends_so e has w xs ss o (place_in_tuple {p = p} {p' = p'} {moves = moves} {m0 = m0} {m' = m'} {j = j} {b = b} {x = x} {m = m} {t = t} {f = f} {g = g} {zs = zs} like i new apart h gs) =
      place_in p p' moves m0 m' j b x m t f g xs zs like i new apart h (given_them T bare (x ∷ zs) g gs)
  tail_ends_so e has w xs ss o (unit_dropped {e' = z} u a r) = tail_ended_so (tree.ends (tree.give (no_mark n) z)) (tail_dropped u a) (in_end (in_give r))
  tail_ends_so e has w xs ss o (unit_in_front {e' = z} {j = j} {f = f} {c = c} {zs = zs} u a r h g) = in_front e z w j f c o xs zs u a r h (tail_given T n w zs o g)
  tail_ends_so e has w xs ss o (never_comes {e' = z} a r) = tail_ended_so (tree.ends (tree.give (no_mark n) z)) (tail_left a) (in_end (in_give r))

-- ---- in the caller

given_back : {J : Jumping} {l : Last} {F : tree.Exp → tree.Exp} {e z : tree.Exp} → GivenBack J l F → Rereads e z → Rereads (F e) (F z)
given_back as_tail r = r
given_back (as_end i) r = in_give r

module _ (T : Assigned) (A : Asked) (muts : List Bool) (k : Plan) (R Rb : Renaming) (os ys : List ℕ) (N : HandedNames A muts k R Rb os ys) (J : Jumping) (l : Last) (n : Node) (F : tree.Exp → tree.Exp) (G : GivenBack J l F) (w : Way) where
  abbrev handed_now : Renaming
  handed_now = handed_back R (k.outs next) os

  unit_stands : (z : tree.Exp) (ss ds : Statements) → HandsSo T A muts k R z (k.outs next) os ss handed_now → AgainSo T Rb handed_now k.redeclared ds (seen_so handed_now k.redeclared (specials k.redeclared) ys)
      → TailStands T A muts k R J Rb l n z false w (k.outs next) ss ds named.absent F
  unit_stands z ss ds (hands_so g h r) (again_so f d q) = tail_stands (seen_so handed_now k.redeclared (specials k.redeclared) ys) (λ b. g (f (tree.ends (F (tree.unit (marked n.number (Some unit_shape)))))))
      (unit_behind (without (k.outs next) R) handed_now (seen_so handed_now k.redeclared (specials k.redeclared) ys) (without_within (k.outs next) R) (not_handed A muts k R N.all_special) h d G (λ x e s. s)
      (λ x e s. seen_so_stays handed_now k.redeclared (specials k.redeclared) ys (unseen_all R (k.outs next) os k.redeclared N.unseen N.apart) x e (back_within R (k.outs next) os N.outs_distinct x e s)))
      (λ b. r (around T ds (tree.ends (F (tree.unit (marked n.number (Some unit_shape)))))) (f (tree.ends (F (tree.unit (marked n.number (Some unit_shape))))))
      (q (tree.ends (F (tree.unit (marked n.number (Some unit_shape))))) (tree.ends (F (tree.unit (marked n.number (Some unit_shape))))) (in_end (given_back G same_unit))))

  pub units_stand : (e : Exp) (z : tree.Exp) (ss ds : Statements) → HandsOver T A muts k R e (k.outs next) os ss → DeclaresAll ys ds → Rereads (value T e) z → TailStands T A muts k R J Rb l n z false w (k.outs next) ss ds named.absent F
  units_stand e z ss ds h d r = unit_stands z ss ds (handed_over T A muts k R e z (k.outs next) os ss h N.one_to_one N.outs_distinct N.received_new r)
      (declared_again T Rb handed_now k.redeclared ys ds d N.inside (unseen_all R (k.outs next) os k.redeclared N.unseen N.apart) (new_all R (k.outs next) os ys N.redeclared_new N.made_apart) N.as_many)

  -- the value, where nothing is handed out besides
  pub value_stands : (e : Exp) (z : tree.Exp) → k.outs next ≡ [] → Rereads (value T e) z → TailStands T A muts k R J Rb l n z true w [] named.no_statement named.no_statement (named.present e) F
  value_stands e z i r = tail_stands R (λ b. tree.ends (F z)) (value_back (subst (λ xs. NotHanded A muts k next (without xs R)) i (not_handed A muts k R N.all_special)) G) (λ b. in_end (given_back G r))

-- the value is bound with what is put back
module _ (T : Assigned) (A : Asked) (muts : List Bool) (k : Plan) (R Rb : Renaming) (J : Jumping) (l : Last) (n : Node) (F : tree.Exp → tree.Exp) (G : GivenBack J l F) (w : Way) where
  bound_stands : (e v : Exp) (z : tree.Exp) (x o : ℕ) (xs os : List ℕ) (j p : Node) (ps : named.Patterns) (t : Option named.Written) (ts : Shapes Kind) (ss : Statements) → Rereads (value T e) z → NotHanded A muts k next (without (x ∷ xs) R)
      → Distinct (x ∷ xs) → AreNew R os → IsNew R o → (In o os → ⊥) → T.typ p.number ≡ tuple_of ts → is_place e ≡ false → BindsAll (o ∷ os) ps → SameLength (x ∷ xs) os
      → PutSo T A muts k R (seen_so (without (x ∷ xs) R) (x ∷ xs) (specials (x ∷ xs)) os) (x ∷ xs) os ss (handed_back R (x ∷ xs) os) → Reread (λ y. Takes o y) (value T v)
      → TailStands T A muts k R J Rb l n z true w (x ∷ xs) (named.statement_and (named.lets j (named.tuple_pattern p ps) t e) ss) named.no_statement (named.present v) F
  bound_stands e v z x o xs os j p ps t ts ss r nh d new fresh apart i np bs len (put_so f q h) (reread y ry ty) =
      tail_stands R (λ b. tree.lets j.number (tree.parts (subpatterns T None 0 ps)) (tree.of_value z) (f (tree.ends (F y))))
      (value_behind (without (x ∷ xs) R) (seen_so (without (x ∷ xs) R) (x ∷ xs) (specials (x ∷ xs)) os) (handed_back R (x ∷ xs) os) (without_within (x ∷ xs) R) nh fresh apart (received_outside R (x ∷ xs) os d new len)
      (receives T 0 (o ∷ os) ps bs) q (back_within R (x ∷ xs) os d) ty G)
      (λ b. subst (λ q. RereadsBody (tree.lets j.number q (matched T e (value T e)) (around T ss (tree.ends (F (value T v))))) (tree.lets j.number (tree.parts (subpatterns T None 0 ps)) (tree.of_value z) (f (tree.ends (F y)))))
      (sym (tuple_is T A muts k R p ps (T.typ p.number) ts i))
      (let_read T A muts k R e z j.number (tree.parts (subpatterns T None 0 ps)) np r (around T ss (tree.ends (F (value T v)))) (f (tree.ends (F y))) (h (tree.ends (F (value T v))) (tree.ends (F y)) (in_end (given_back G ry)))))

  pub tails_stand : (os ys xs : List ℕ) (has : Bool) (e : Exp) (z : tree.Exp) (ss ds : Statements) (o : Else) → HandedNames A muts k R Rb os ys → k.outs next ≡ xs → HandsTail T A muts k R e has xs os ys ss ds o → Rereads (value T e) z
      → TailStands T A muts k R J Rb l n z has w xs ss ds o F
  tails_stand os ys xs has e z ss ds o N q gives_value r = value_stands T A muts k R Rb [] [] N J l n F G w e z q r
  tails_stand os ys xs has e z ss ds o N q (value_first {x = x} {o = c} {xs = vs} {os = cs} {n = j} {p = p} {ps = ps} {t = t} {ts = ts} {ss = rest} {v = v} i np bs fresh apart put v_is) r =
      bound_stands e v z x c vs cs j p ps t ts rest r (subst (λ xs. NotHanded A muts k next (without xs R)) q (not_handed A muts k R N.all_special)) (subst (λ xs. Distinct xs) q N.outs_distinct) N.received_new fresh apart i np bs
      (same_length T A muts k R (x ∷ vs) cs rest put)
      (put_back_so T A muts k R (seen_so (without (x ∷ vs) R) (x ∷ vs) (specials (x ∷ vs)) cs) (x ∷ vs) cs rest put N.one_to_one (subst (λ xs. Distinct xs) q N.outs_distinct)
      (frees_received T A muts k R (x ∷ vs) (x ∷ vs) cs N.one_to_one N.received_new (λ y h. h))) (taken T c v v_is)
  tails_stand os ys xs has e z ss ds o N q (gives_unit h d) r = subst (λ xs. HandsOver T A muts k R e xs os ss → TailStands T A muts k R J Rb l n z false w xs ss ds named.absent F) q
      (λ h. units_stand T A muts k R Rb os ys N J l n F G w e z ss ds h d r) h
