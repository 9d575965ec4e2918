-- A policy that treats what is Copy in one way and all else in the other: the first mode that uses allow, or the last.
use Rattle.std.specs.Prelude.{Bool, true, false, if◌then◌else◌}
use Rattle.rx_modes_policy.specs.declared.uses.Mode.{Mode}
use Rattle.rx_modes_policy.specs.declared.uses.Uses.{Uses}
use Rattle.rx_modes_policy.specs.Allowed.{allowed_by, first_of, last_of, IsMember, HasMember}
use Rattle.rx_modes_policy.specs.Members.{first_is_member, last_is_member}

abbrev pub apart : Bool → Uses → Mode
apart turned u = if turned then (if u.copy then last_of (allowed_by u) else first_of (allowed_by u)) else (if u.copy then first_of (allowed_by u) else last_of (allowed_by u))

chosen_is_member : (b : Bool) (m n : Mode) (u : Uses) → IsMember m (allowed_by u) → IsMember n (allowed_by u) → IsMember (if b then m else n) (allowed_by u)
chosen_is_member true m n u h k = h
chosen_is_member false m n u h k = k

pub apart_is_member : (turned : Bool) (u : Uses) → HasMember (allowed_by u) → IsMember (apart turned u) (allowed_by u)
apart_is_member true u h = chosen_is_member u.copy (last_of (allowed_by u)) (first_of (allowed_by u)) u (last_is_member u h) (first_is_member u h)
apart_is_member false u h = chosen_is_member u.copy (first_of (allowed_by u)) (last_of (allowed_by u)) u (first_is_member u h) (last_is_member u h)
