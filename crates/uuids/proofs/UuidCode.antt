-- Laws that the proofs of the code apply (specs/Version7.antt of `uuid_spec`). Assumes nothing.
use mathlib.Core.Path.{◌≡◌, sym, ap, ◌∙◌}
use mathlib.Core.Bool.{Bool, not, ◌&&◌, and-true, and_assoc}
use mathlib.Core.List.{List, ◌∷◌}
use Prim.Native.Nat.{ℕ, ◌+◌, ◌≤◌, ◌<◌}
use native.Mathlib.Numerals.{add-one}
use lib.ListN.{length, drop, get_or, drop_of_length-le}
use lib.Seq.{drop-cons}
use Rattle.uuid_spec.specs.Version7.{is_upper, no_upper}

-- ---- no letter of A-Z

-- the flag and what is left say of the whole
abbrev pub Left : List ℕ → Bool → ℕ → Type 0
Left t ok i = no_upper t ≡ (ok && no_upper (drop i t))

-- one character more
pub left_next : (t : List ℕ) (ok : Bool) (i : ℕ) → i < length t → Left t ok i → Left t (ok && not (is_upper (get_or t i 0))) (i + 1)
unfolding no_upper
left_next t ok i h e =
    let next : drop i t ≡ get_or t i 0 ∷ drop (i + 1) t = drop-cons t i 0 h ∙ ap (λ (j : ℕ). get_or t i 0 ∷ drop j t) (sym (add-one i)) in
    e ∙ ap (λ (u : List ℕ). ok && no_upper u) next
    ∙ sym (and_assoc ok (not (is_upper (get_or t i 0))) (no_upper (drop (i + 1) t)))

-- none is left
pub left_end : (t : List ℕ) (ok : Bool) (i : ℕ) → length t ≤ i → Left t ok i → ok ≡ no_upper t
unfolding no_upper
left_end t ok i h e = sym (e ∙ ap (λ (u : List ℕ). ok && no_upper u) (drop_of_length-le t h) ∙ and-true ok)
