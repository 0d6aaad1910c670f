-- The cases of specs/Cases.antt, by computation. Assumes nothing.
use mathlib.Core.Path.{refl}
use Rattle.lease_spec.specs.Lease.{lease_ok, clock_ok, last_active, last_stale, is_future, margin_of, state_within, state_of}
use Rattle.lease_spec.specs.Cases.{PublishedVectors, BothSides}

pub published_vectors : PublishedVectors
unfolding lease_ok clock_ok last_active last_stale is_future margin_of state_within state_of
published_vectors = (refl, refl, refl, refl)

pub both_sides : BothSides
unfolding lease_ok clock_ok last_active last_stale is_future margin_of state_within state_of
both_sides = (refl, refl, refl, refl, refl, refl, refl, refl, refl, refl, refl, refl)
