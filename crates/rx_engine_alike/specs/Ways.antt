-- How the place of the answer stands to a place of the text, told step by step, and which uses there are alike (Rust Reference, "Place
-- expressions and value expressions", "Borrow operators").
use Rattle.std.specs.Prelude.{ℕ, nat_eq, Bool, true, false, not, ◌&&◌, ◌||◌, List, [], ◌∷◌, Option, Some, None, if◌then◌else◌}
use Rattle.rx_core.specs.declared.types.Step.{Step}
use Rattle.rx_core.specs.declared.types.Step.TheVariants as step
use Rattle.rx_typed.specs.Tree.{Root, variable, temporary, Place}
use Rattle.rx_engine_simulation.specs.Sights.{free, How, plain, special, through, copied, viewed, absent, Sight, Renaming, sight_of}
use Rattle.rx_engine_simulation.specs.Places.{Use, looking, sharing, changing, writing}

pub data Way : Type 0 where
  -- the places are not alike
  apart : Way
  -- from a temporary of each
  from_value : Way
  -- from a variable that the answer has behind a shared reference, in front of the dereference of both
  in_front : Way
  -- from a variable that is seen so; whether it is its own storage still
  from_variable : How → Bool → Way

-- ---- a step of each

abbrev pub by_part : Way → Way
by_part in_front = apart
by_part w = w

abbrev pub by_dereference : Way → Way
by_dereference in_front = from_variable viewed false
by_dereference (from_variable h own) = from_variable h false
by_dereference w = w

abbrev pub then_step : Way → Step → Step → Way
then_step w (step.Field i) (step.Field j) = if nat_eq i j then by_part w else apart
then_step w (step.Variant i) (step.Variant j) = if nat_eq i j then by_part w else apart
then_step w (step.Deref m) (step.Deref k) = by_dereference w
then_step w _ _ = apart

abbrev pub then_steps : Way → List Step → List Step → Way
then_steps w [] [] = w
then_steps w (s ∷ ss) (t ∷ ts) = then_steps (then_step w s t) ss ts
then_steps w _ _ = apart

-- the answer goes through a reference first
abbrev pub behind_steps : Way → List Step → List Step → Way
behind_steps w ss (step.Deref k ∷ ts) = then_steps w ss ts
behind_steps w ss _ = apart

-- ---- from their roots

abbrev pub way_seen : How → List Step → List Step → Way
way_seen (through h m) ss ts = behind_steps (from_variable (through h m) true) ss ts
way_seen viewed ss ts = then_steps in_front ss ts
way_seen absent ss ts = apart
way_seen h ss ts = then_steps (from_variable h true) ss ts

abbrev pub way_by : Option Sight → ℕ → List Step → List Step → Way
way_by None y ss ts = apart
way_by (Some e) y ss ts = if nat_eq e.to y then way_seen e.how ss ts else apart

abbrev pub way_from : Renaming → Root → Root → List Step → List Step → Way
way_from R (variable x) (variable y) ss ts = way_by (sight_of R x) y ss ts
way_from R (temporary t) (temporary u) ss ts = then_steps from_value ss ts
way_from R _ _ ss ts = apart

abbrev pub way_of : Renaming → Place → Place → Way
way_of R p q = way_from R p.root q.root p.steps q.steps

-- ---- uses

abbrev pub not_copied : How → Bool
not_copied copied = false
not_copied _ = true

abbrev pub is_freed : How → Bool
is_freed (plain free) = true
is_freed (through free m) = true
is_freed _ = false

abbrev pub is_mutable : How → Bool
is_mutable (through w false) = false
is_mutable viewed = false
is_mutable _ = true

abbrev pub may_seen : Use → How → Bool → Bool
may_seen looking h own = true
may_seen sharing h own = not own || not_copied h
may_seen changing h own = (not own || is_freed h) && is_mutable h
may_seen writing h own = (not own || not_copied h) && is_mutable h

abbrev pub may : Use → Way → Bool
may u apart = false
may u from_value = true
may u in_front = false
may u (from_variable h own) = may_seen u h own

-- places that are alike for such a use
abbrev pub like_place : Renaming → Use → Place → Place → Bool
like_place R u p q = may u (way_of R p q)
