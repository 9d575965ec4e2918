-- A free name is none that an extraction makes beside it: those are reserved. The name of the enum begins with another letter than
-- those of its variants and fresh variables.
use Rattle.std.proofs.Common.{◌≡◌, ◌≢◌, ℕ, suc, ◌+◌, ◌≤◌, ◌^◌, true, false, List, length, get_or, codes, refl, sym, ap, ◌∙◌, arith}
use Rattle.rx_hoist_extraction.specs.Names.{Names}
use Rattle.rx_hoist_extraction.specs.Plan.{Exit, to_next, to_break, to_continue, to_return, Plan, enum_name, exit_name}
use Rattle.rx_hoist_extraction.specs.Fresh.{fresh_variable}
use Rattle.rx_hoist_extraction.specs.FreeName.{is_reserved, FreeName}
use Rattle.rx_hoist_extraction.proofs.FreshNames.{fresh_has}

-- ---- what is reserved

exit_is_reserved : (x : Exit) → is_reserved (exit_name x) ≡ true
exit_is_reserved to_next = refl
exit_is_reserved (to_break k) = refl
exit_is_reserved (to_continue k) = refl
exit_is_reserved to_return = refl

enum_is_reserved : (pl : Plan) → is_reserved (enum_name pl) ≡ true
enum_is_reserved pl = refl

variable_is_reserved : (taken : Names) (i : ℕ) → length taken + suc i ≤ 2 ^ 64 → is_reserved (fresh_variable taken i) ≡ true
variable_is_reserved taken i b = fresh_has (λ x. is_reserved x ≡ true) (codes "out_") (λ n l. refl) taken i b

unlike_reserved : (ids : Names) (name x : List ℕ) → FreeName ids name → is_reserved x ≡ true → name ≢ x
unlike_reserved ids name x F r e = let clash : true ≡ false = sym r ∙ ap is_reserved (sym e) ∙ F.unreserved in cc

-- ---- laws

pub name_is_not_enum : (ids : Names) (pl : Plan) → FreeName ids pl.name → pl.name ≢ enum_name pl
name_is_not_enum ids pl F = unlike_reserved ids pl.name (enum_name pl) F (enum_is_reserved pl)

pub name_is_not_exit : (ids : Names) (name : List ℕ) → FreeName ids name → (x : Exit) → name ≢ exit_name x
name_is_not_exit ids name F x = unlike_reserved ids name (exit_name x) F (exit_is_reserved x)

pub name_is_not_fresh : (ids : Names) (name : List ℕ) → FreeName ids name → (taken : Names) (i : ℕ) → length taken + suc i ≤ 2 ^ 64 → name ≢ fresh_variable taken i
name_is_not_fresh ids name F taken i b = unlike_reserved ids name (fresh_variable taken i) F (variable_is_reserved taken i b)

first_of_exit : (x : Exit) → get_or (exit_name x) 0 0 ≢ 69
first_of_exit to_next e = omega (arith, e)
first_of_exit (to_break k) e = omega (arith, e)
first_of_exit (to_continue k) e = omega (arith, e)
first_of_exit to_return e = omega (arith, e)

pub enum_is_not_exit : (pl : Plan) (x : Exit) → enum_name pl ≢ exit_name x
enum_is_not_exit pl x e = first_of_exit x (sym (ap (λ w. get_or w 0 0) e))

pub enum_is_not_fresh : (pl : Plan) (taken : Names) (i : ℕ) → length taken + suc i ≤ 2 ^ 64 → enum_name pl ≢ fresh_variable taken i
enum_is_not_fresh pl taken i b e = let first : get_or (fresh_variable taken i) 0 0 ≡ 111 = fresh_has (λ w. get_or w 0 0 ≡ 111) (codes "out_") (λ n l. refl) taken i b in
    let clash : 69 ≡ 111 = ap (λ w. get_or w 0 0) e ∙ first in omega (arith, clash)
