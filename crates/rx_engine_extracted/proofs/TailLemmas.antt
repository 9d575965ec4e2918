-- What is asked of the new function's end and of what is given there, by its form.
use Rattle.std.proofs.Common.{◌≡◌, refl, sym, ap, ◌∙◌, ℕ, suc, ◌+◌, ◌<◌, ◌≤◌, add-one, arith, nat_eq, Bool, true, false, ◌&&◌, List, [], ◌∷◌, length, map, drop, Option, Some, None}
use Rattle.std.proofs.lemmas.List.{at_drop_more, at_drop_all}
use Rattle.rx_typed.specs.Tree as tree
use Rattle.rx_typed.specs.Tree.{Exp, Operands, no_operand, Body}
use Rattle.rx_typed.specs.declared.tree.Operand.{Operand}
use Rattle.rx_typed.specs.PlainTree.{plain-Operand, operands_of}
use Rattle.rx_engine_simulation.specs.Sights.{Renaming}
use Rattle.rx_engine_simulation.specs.Jumps.{Jumping}
use Rattle.rx_engine_alike.specs.Likeness.{if_so, is_alike}
use Rattle.rx_engine_alike.specs.Giving.{takes_all}
use Rattle.rx_engine_alike.specs.Forms.{Between, like_exp}
use Rattle.rx_engine_extracted.specs.Handing.{received_by}
use Rattle.rx_engine_extracted.specs.TailEnding.{tail_and_these, bound_alike, gives_with, in_tuple}
use Rattle.rx_engine_extracted.specs.PlainEnding.{ends_given_of}
use Rattle.rx_engine_extracted.specs.PlainTails.{first_operand, lets_first}
use Rattle.rx_engine_extracted.proofs.ArmLemmas.{is_so}

so_if : {A : Type 0} (t : Bool) (a : A) (f : A → Bool) → t && f a ≡ is_so (if_so t (Some a)) f
so_if true a f = refl
so_if false a f = refl

pub these_by : (C : Between) (J : Jumping) (R : Renaming) (zs : List ℕ) (e : Exp) (es : Operands)
    → tail_and_these C J R zs e es ≡ is_so (first_operand es) (λ r. is_alike (like_exp C J R e r.0) && takes_all 1 zs r.1)
these_by C J R zs e tree.no_operand = refl
these_by C J R zs e (tree.operand_and i f es) = so_if (nat_eq 0 i) (f, es) (λ r. is_alike (like_exp C J R e r.0) && takes_all 1 zs r.1)

pub ruleset operands_rules = (these_by)

pub tuple_by : (C : Between) (J : Jumping) (R : Renaming) (xs : List ℕ) (e : Exp) (b : Body)
    → in_tuple C J R xs e b ≡ is_so (lets_first b) (λ r. bound_alike C J R e r.1 && gives_with R xs (received_by r.0) (ends_given_of r.2))
tuple_by C J R xs e (tree.ends f) = refl
tuple_by C J R xs e (tree.runs f b) = refl
tuple_by C J R xs e (tree.declares n zs b) = refl
tuple_by C J R xs e (tree.lets n q c b) = refl

pub ruleset tuple_rules = (tuple_by)

-- ---- values in a row behind the first, where one list is at its end

none_left : (es : List Operand) → length es < 1 → es ≡ []
none_left [] few = refl
none_left (e ∷ es) few = absurd (omega arith)

pub behind_short : (qs : List ℕ) (i : ℕ) (es : List Operand) → i < length qs → length es < 1 → takes_all (i + 1) (drop i qs) (operands_of (map plain-Operand es)) ≡ false
behind_short qs i es less few =
    ap (λ l. takes_all (i + 1) (drop i qs) (operands_of (map plain-Operand l))) (none_left es few) ∙ at_drop_more (λ l. takes_all (i + 1) l no_operand) qs i 0 less

pub behind_long : (qs : List ℕ) (i : ℕ) (es : List Operand) → length qs ≤ i → 0 < length es → takes_all (i + 1) (drop i qs) (operands_of (map plain-Operand es)) ≡ false
behind_long qs i [] past some = absurd (omega arith)
behind_long qs i (e ∷ es) past some = at_drop_all (λ l. takes_all (i + 1) l (operands_of (map plain-Operand (e ∷ es)))) qs i past
