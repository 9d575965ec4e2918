-- A match that is copied, one over three exits, and a `let` of a tuple of outs; and one that lacks an exit, which is not covered.
use Rattle.std.proofs.Common.{◌≡◌, ◌<◌, ◌+◌, inl, inr, ℕ, zero, suc, true, false, List, [], ◌∷◌, Some, refl, arith}
use Rattle.rx_typed.specs.declared.nodes.Node.{Node}
use Rattle.rx_typed.specs.declared.nodes.Site.{Site}
use Rattle.rx_typed.specs.Types as types
use Rattle.rx_typed.specs.Types.{enum_declared, Declarations, VariantDeclared}
use Rattle.rx_typed.specs.Named as named
use Rattle.rx_typed.specs.Tree.{any, bind, by_value, no_part, part_and, parts, variant}
use Rattle.rx_typed.specs.Elaborated.{arms, Assigned}
use Rattle.rx_cover.specs.Values as values
use Rattle.rx_cover.specs.Values.{no_value}
use Rattle.rx_cover.specs.Choices.{patterns_of, Choice}
use Rattle.rx_cover.specs.Matching.{Covers, SomeMatches}
use Rattle.rx_cover.specs.Width.{width}
use Rattle.rx_engine_blocks.specs.Renumbering.{Renumbering}
use Rattle.rx_engine_covered.specs.LikeChoices as like
use Rattle.rx_engine_covered.specs.LikeChoices.{LikeChoice}
use Rattle.rx_engine_covered.specs.TakesAll.{HasArm}
use Rattle.rx_engine_covered.proofs.Made.{arms_cover}

-- ---- `match x { None => .., _ => .. }`, copied to where the enum has the number 4

abbrev by_one : Renumbering
by_one = record { nodes = λ n. n + 9; variables = λ x. x; items = suc }

abbrev in_text : Choice
in_text = record { node = 5; typ = Some (types.named 3); arms = variant 6 3 true 0 no_part ∷ any ∷ [] }

abbrev in_copy : Choice
in_copy = record { node = 14; typ = Some (types.named 4); arms = variant 15 4 true 0 no_part ∷ any ∷ [] }

copied_match : LikeChoice by_one false in_text in_copy
copied_match = record {
  typ = like.LikeScrutinee.has_type refl;
  arms = like.AllSeen.more_seen (like.LikeSeen.as_it_is (like.LikePattern.is_variant like.LikeSubpatterns.no_parts)) (like.AllSeen.more_seen (like.LikeSeen.as_it_is like.LikePattern.takes_any) like.AllSeen.none_seen);
}

its_product : width in_copy.arms ≡ 2
its_product = refl

-- ---- `match f() { Exit::Next => .., Exit::Break => .., Exit::Return => .. }`

abbrev without_parts : List ℕ → VariantDeclared
without_parts x = record { name = x; parts = [] }

abbrev exits : Declarations
exits = enum_declared false 0 (without_parts (78 ∷ []) ∷ without_parts (66 ∷ []) ∷ without_parts (82 ∷ []) ∷ []) ∷ []

abbrev its_types : Assigned
its_types = record { items = exits; typ = λ n. types.named 0; expected = λ n. types.named 0 }

abbrev at : ℕ → Node
at n = record { number = n; span = record { start = 0; end = 0 }; site = Site.Value }

abbrev arm : ℕ → named.Arms → named.Arms
arm v l = named.arm_and (named.variant_pattern (at v) 0 v named.no_pattern) (named.break (at (v + 10)) 0) l

abbrev three : named.Arms
three = arm 0 (arm 1 (arm 2 named.no_arm))

an_arm_each : (v : ℕ) → v < 3 → HasArm v three
an_arm_each zero l = inl refl
an_arm_each (suc zero) l = inr (inl refl)
an_arm_each (suc (suc zero)) l = inr (inr (inl refl))
an_arm_each (suc (suc (suc v))) l = absurd (omega (arith, l))

all_exits : Covers exits (types.named 0) (patterns_of (arms its_types three))
all_exits = arms_cover its_types exits 0 three ((refl, refl, tt, (refl, refl, tt, (refl, refl, tt, tt)))) (record { enum = refl; each = an_arm_each; few = omega arith })

product_of_three : width (patterns_of (arms its_types three)) ≡ 4
product_of_three = refl

-- without an arm for the return
one_lacks : Covers exits (types.named 0) (patterns_of (arms its_types (arm 0 (arm 1 named.no_arm)))) → ⊥
one_lacks c = by (c (values.variant 0 2 no_value) (refl, omega arith, tt))
  where
    zero_two : ◌≡◌ {A = ℕ} 0 2 → ⊥
    zero_two e = cc

    one_two : ◌≡◌ {A = ℕ} 1 2 → ⊥
    one_two e = cc

    by : SomeMatches (patterns_of (arms its_types (arm 0 (arm 1 named.no_arm)))) (values.variant 0 2 no_value) → ⊥
    by (inl h) = zero_two h.1
    by (inr (inl h)) = one_two h.1
    by (inr (inr h)) = h

-- ---- `let (a, b) = f();`

one_product : width (parts (part_and 0 (bind 5 1 (by_value false)) (part_and 1 (bind 6 2 (by_value false)) no_part)) ∷ []) ≡ 1
one_product = refl
