-- The first statements of a block, found alike one after another: beside each other they are a stretch of statements in both, behind which the
-- blocks go on. With marks in front of jumps out of the run, in the text.
use Rattle.std.proofs.Common.{◌≡◌, ℕ, zero, suc, Bool, true, false, List, map, take, drop, Option, refl, subst, arith}
use Rattle.rx_typed.specs.Tree as tree
use Rattle.rx_typed.specs.Tree.{Pattern, Exp, Scrutinee, Body}
use Rattle.rx_exits_plan.specs.Blocks.{statements, tail}
use Rattle.rx_exits_plan.specs.Changed.{Changes, changed, changed_matched, changed_statement}
use Rattle.rx_engine_simulation.specs.Turns.{Allowance}
use Rattle.rx_engine_simulation.specs.Histories.{Facts}
use Rattle.rx_engine_simulation.specs.Sights.{Renaming}
use Rattle.rx_engine_simulation.specs.Binders.{LikeDeclared}
use Rattle.rx_engine_simulation.specs.Jumps.{Jumping}
use Rattle.rx_engine_simulation.specs.Openings.{Openings}
use Rattle.rx_engine_simulation.specs.Like.{LikeExp, LikeMatched, LikeBody, runs_on, declares_all, lets_in, reads_place, looks_behind}
use Rattle.rx_engine_simulation.specs.Blocks.{Stretch, lets_then, before}
use Rattle.rx_engine_simulation.specs.Rereads.{RereadsBody, in_run, in_declare, in_let}
use Rattle.rx_engine_related.specs.Running.{passing}
use Rattle.rx_engine_related.specs.ByForm.{by_form}
use Rattle.rx_engine_related.specs.Leaving.{left}
use Rattle.rx_engine_related.specs.Moved.{Moved, moved_all, moved_statement, moved_declaration, moved_let, moved_read, moved_look}
use Rattle.rx_engine_related.proofs.Weaker.{Opens, weaker_exp, weaker_matched, weaker_body}
use Rattle.rx_engine_alike.specs.Likeness.{if_so, and_then, is_alike}
use Rattle.rx_engine_alike.specs.Patterns.{like_bindings}
use Rattle.rx_engine_alike.specs.Forms.{Between, like_let, way_of_let}
use Rattle.rx_engine_extracted.specs.Stretches.{Passed, like_first}
use Rattle.rx_engine_related.specs.Stretched.{stretch_of}
use Rattle.rx_engine_alike_laws.proofs.Promised.{Promised, kept, nothing, map_so, then_so, where_so}
use Rattle.rx_engine_alike_laws.proofs.Read.{as_runs_so, as_declares_so, as_lets_so}
use Rattle.rx_engine_alike_laws.proofs.Forms.{Whole}
use Rattle.rx_engine_alike_laws.proofs.Functions.{never_left}
use Rattle.rx_engine_alike_laws.proofs.Variables.{declared_so}
use Rattle.rx_engine_validated.proofs.Walked.{AlikeExp, alike_exp, LikeLet, let_matched, let_read, let_look, AlikeLet, alike_let, exp_alike, let_alike}

-- ---- statement by statement

module _ (C : Between) (gain : Allowance) (J : Jumping) where
  abbrev V : Facts
  V = by_form C.ways.elsewhere

  abbrev Out : Changes
  Out = passing C.outside

  -- so many statements of a block, and what follows them in both
  pub data FirstSo (n : ℕ) (R : Renaming) (b b' : Body) (p : Passed) : Type 0 where
    first_is : {r : Stretch} → Moved C.items gain C.units C.ways.elsewhere J R (stretch_of (map (changed_statement Out) (take n (statements b)))) r p.inside
        → ((rest : Body) → RereadsBody p.answer rest → RereadsBody b' (before r rest)) → statements p.text ≡ drop n (statements b) → tail p.text ≡ tail b → FirstSo n R b b' p

  run_first : {n : ℕ} {R : Renaming} {e e' : Exp} {b b1 b' : Body} {p : Passed} → tree.runs e' b1 ≡ b' → AlikeExp C gain J R (changed Out e) e' → FirstSo n R b b1 p
      → FirstSo (suc n) R (tree.runs e b) b' p
  run_first q (alike_exp {f = f} x l) (first_is {r = r} m k s t) = first_is (moved_statement l m) (λ rest z. subst (λ c. RereadsBody c (tree.runs f (before r rest))) q (in_run x (k rest z))) s t

  declare_first : {n s s' : ℕ} {R Ra : Renaming} {xs ys : List ℕ} {b b1 b' : Body} {p : Passed} → tree.declares s' ys b1 ≡ b' → LikeDeclared V R xs ys Ra → FirstSo n Ra b b1 p
      → FirstSo (suc n) R (tree.declares s xs b) b' p
  declare_first {s' = s'} {ys = ys} q l (first_is {r = r} m k s t) = first_is (moved_declaration l m) (λ rest z. subst (λ c. RereadsBody c (tree.declares s' ys (before r rest))) q
      (in_declare (k rest z))) s t

  let_moved : {n n' : ℕ} {R Ra Rb : Renaming} {r r' : Stretch} {q : Pattern} {c : Scrutinee} {q' : Pattern} {c' : Scrutinee} → LikeLet C gain J R Ra q c q' c'
      → Moved C.items gain C.units C.ways.elsewhere J Ra r r' Rb
      → Moved C.items gain C.units C.ways.elsewhere J R (lets_then n q c r) (lets_then n' q' c' r') Rb
  let_moved (let_matched l b) m = moved_let l b m
  let_moved (let_read l) m = moved_read (let_moved l m)
  let_moved (let_look x seen behind l) m = moved_look x seen behind (let_moved l m)

  let_first : {n s s' : ℕ} {R Ra : Renaming} {q q' : Pattern} {c c' : Scrutinee} {b b1 b' : Body} {p : Passed} → tree.lets s' q' c' b1 ≡ b' → AlikeLet C gain J R Ra q (changed_matched Out c) q' c'
      → FirstSo n Ra b b1 p → FirstSo (suc n) R (tree.lets s q c b) b' p
  let_first {s' = s'} {q' = q'} t (alike_let {d = d} x l) (first_is {r = r} m k u v) = first_is (let_moved l m)
      (λ rest z. subst (λ c. RereadsBody c (tree.lets s' q' d (before r rest))) t (in_let x (k rest z))) u v

  if_then : {A B : Type 0} (b : Bool) (o : Option A) (f : A → Option B) → and_then (if_so b o) f ≡ if_so b (and_then o f)
  if_then true o f = refl
  if_then false o f = refl

  pub first_so : (n : ℕ) (R : Renaming) (b b' : Body) → Promised (λ p. FirstSo n R b b' p) (like_first C J n R b b')
  first_so zero R b b' = kept (first_is moved_all (λ rest z. z) refl refl)
  first_so (suc n) R (tree.ends e) b' = nothing
  first_so (suc n) R (tree.runs e b) b' = then_so (as_runs_so b') (λ r q. where_so (exp_alike C gain J R e r.0) (λ a. map_so (λ p x. run_first q a x) (first_so n R b r.1)))
  first_so (suc n) R (tree.declares s xs b) b' = then_so (as_declares_so b') (λ r q. then_so (declared_so V C.ways (λ x i. i) R xs r.1)
      (λ Ra l. map_so (λ p x. declare_first q l x) (first_so n Ra b r.2)))
  first_so (suc n) R (tree.lets s t c b) b' = then_so (as_lets_so b') (λ r q.
      subst (λ o. Promised (λ p. FirstSo (suc n) R (tree.lets s t c b) b' p) o) (if_then (is_alike (like_let C J R c r.1 r.2)) (like_bindings C.ways (way_of_let R c r.1 r.2) R t r.1)
      (λ Ra. like_first C J n Ra b r.3))
      (then_so (let_alike C gain J R t c r.1 r.2) (λ Ra a. map_so (λ p x. let_first q a x) (first_so n Ra b r.3))))

-- ---- where nothing leaves, statements in front of a block that is alike

module _ (items : ℕ → ℕ) (gain : Allowance) (U special : List ℕ) (O : Openings) where
  opens_whole : Opens (left U) O (by_form special) (by_form special) Whole
  opens_whole = record { special = λ x s. s; into = λ J l k w. w; expression = λ a J R e f f' w o. absurd (never_left J J.loops w o); statements = λ a J R S b f f' w o. absurd o }

  exp_whole : {J : Jumping} {R : Renaming} {e e' : Exp} → Whole J → LikeExp items (left U) gain (by_form special) 0 J R e e' → LikeExp items O gain (by_form special) 0 J R e e'
  exp_whole w l = weaker_exp items (left U) O gain gain (omega arith) (by_form special) (by_form special) Whole opens_whole {k = 0} {k' = 0} (omega arith) w l

  matched_whole : {J : Jumping} {R : Renaming} {c c' : Scrutinee} → Whole J → LikeMatched items (left U) gain (by_form special) 0 J R c c' → LikeMatched items O gain (by_form special) 0 J R c c'
  matched_whole w l = weaker_matched items (left U) O gain gain (omega arith) (by_form special) (by_form special) Whole opens_whole {k = 0} {k' = 0} (omega arith) w l

  pub body_whole : {J : Jumping} {R : Renaming} {b b' : Body} → Whole J → LikeBody items (left U) gain (by_form special) 0 J R b b' → LikeBody items O gain (by_form special) 0 J R b b'
  body_whole w l = weaker_body items (left U) O gain gain (omega arith) (by_form special) (by_form special) Whole opens_whole {k = 0} {k' = 0} (omega arith) w l

  pub in_front : {k : ℕ} {J : Jumping} {R Rb : Renaming} {r r' : Stretch} {t rest : Body} → Whole J → Moved items gain U special J R r r' Rb → LikeBody items O gain (by_form special) k J Rb t rest
      → LikeBody items O gain (by_form special) k J R (before r t) (before r' rest)
  in_front w moved_all l = l
  in_front {k = k} w (moved_statement x m) l = runs_on 0 k (omega arith) (exp_whole w x) (in_front w m l)
  in_front w (moved_declaration {Ra = Ra} x m) l = declares_all Ra x (in_front w m l)
  in_front {k = k} w (moved_let {Ra = Ra} x b m) l = lets_in Ra 0 k (omega arith) (matched_whole w x) b (in_front w m l)
  in_front w (moved_read m) l = reads_place (in_front w m l)
  in_front w (moved_look x seen behind m) l = looks_behind x seen behind (in_front w m l)
