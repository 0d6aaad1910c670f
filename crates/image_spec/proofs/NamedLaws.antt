-- The layout that the header of an image names (specs/Check.antt). Assumes nothing.
use mathlib.Core.Path.{◌≡◌, refl, sym, ap, ◌∙◌, subst}
use mathlib.Core.Logic.{◌↔◌, ◌⊎◌, inl, inr, ⊎_elim}
use mathlib.Core.List.{List}
use Prim.Native.Nat.{ℕ, ◌≤◌}
use native.Mathlib.Omega.{arith}
use lib.ListN.{length}
use borrow.Author.Tests.{eq-eqb, ne_eqb}
use Rattle.octets.specs.Number.{number_at, number_in}
use Rattle.octets.proofs.NumberLaws.{number_in_lem}
use Rattle.octets.proofs.Tests.{by_cond}
use Rattle.image_spec.specs.declared.layout.Layout.{Layout}
use Rattle.image_spec.specs.Layout.{mode_edition, header_width, edition_place, modes_place, edition1, edition2, LayoutOk}
use Rattle.image_spec.specs.Image.{Row, Holds}
use Rattle.image_spec.specs.Check.{layout_of}
use Rattle.image_spec.specs.Laws.{EditionsNamed}
use Rattle.image_spec.proofs.RowPlaceLaws.{edition1_ok, edition2_ok}
use Rattle.image_spec.proofs.SoundLaws.{HeaderSays, holds_says}
use Rattle.image_spec.proofs.FindLaws.{editions_checked}

-- `NamedOk`
pub named_ok : (s : List ℕ) → LayoutOk (layout_of s)
unfolding layout_of
named_ok s = by_cond LayoutOk _ (λ e. edition2_ok) (λ e. edition1_ok)

-- a buffer that holds rows in an edition has its number in the header
edition_in : (l : Layout) → LayoutOk l → (s : List ℕ) (rs : List Row) → Holds l s rs → number_in s edition_place header_width ≡ l.edition
edition_in l ok s rs h =
    let q : HeaderSays l ok s (length rs) = holds_says l ok s rs h in
    let inside : 8 ≤ length s = q.inside in
    number_in_lem s edition_place header_width (omega arith) (omega arith) ∙ q.edition

-- so its header names that edition: 1
pub names_1 : (s : List ℕ) (rs : List Row) → Holds edition1 s rs → layout_of s ≡ edition1
unfolding layout_of
names_1 s rs h =
    let e : number_in s edition_place header_width ≡ 1 = edition_in edition1 edition1_ok s rs h in
    rw (ne_eqb (number_in s edition_place header_width) 2 (λ f. omega arith))

-- or 2
pub names_2 : (s : List ℕ) (rs : List Row) → Holds edition2 s rs → layout_of s ≡ edition2
unfolding layout_of
names_2 s rs h = rw (eq-eqb (number_in s edition_place header_width) 2 (edition_in edition2 edition2_ok s rs h))

-- the layout that is named is that of edition 1 or of edition 2
named_either : (s : List ℕ) → (layout_of s ≡ edition1) ⊎ (layout_of s ≡ edition2)
unfolding layout_of
named_either s =
    by_cond (λ (l : Layout). (l ≡ edition1) ⊎ (l ≡ edition2)) _
    (λ e. inr refl) (λ e. inl refl)

-- bytes whose image edition is neither 1 nor 2 do not have the edition that is named
named_other : (s : List ℕ) → (number_at s edition_place header_width ≡ 1 → ⊥) → (number_at s edition_place header_width ≡ 2 → ⊥)
    → number_at s edition_place header_width ≡ (layout_of s).edition → ⊥
named_other s no-1 no-2 e =
    ⊎_elim {C = ⊥} (λ (n : layout_of s ≡ edition1). no-1 (e ∙ ap (λ (l : Layout). l.edition) n))
    (λ (n : layout_of s ≡ edition2). no-2 (e ∙ ap (λ (l : Layout). l.edition) n)) (named_either s)

-- `EditionsNamed`
pub editions_named : EditionsNamed
editions_named s id other =
    editions_checked (layout_of s) (named_ok s) s id
    (⊎_elim {C = (number_at s edition_place header_width ≡ (layout_of s).edition → ⊥) ⊎ (number_at s modes_place header_width ≡ mode_edition → ⊥)}
    (λ w. inl (named_other s w.0 w.1)) inr other)

-- a buffer holds rows in the edition that its header names exactly when it holds them in edition 1 or in edition 2
pub holds_named : (s : List ℕ) (rs : List Row) → Holds (layout_of s) s rs ↔ (Holds edition1 s rs ⊎ Holds edition2 s rs)
holds_named s rs = (
  λ h. ⊎_elim {C = Holds edition1 s rs ⊎ Holds edition2 s rs} (λ e. inl (subst (λ (l : Layout). Holds l s rs) e h))
      (λ e. inr (subst (λ (l : Layout). Holds l s rs) e h)) (named_either s),
  λ w. ⊎_elim {C = Holds (layout_of s) s rs} (λ h. subst (λ (l : Layout). Holds l s rs) (sym (names_1 s rs h)) h)
      (λ h. subst (λ (l : Layout). Holds l s rs) (sym (names_2 s rs h)) h) w,
)

-- no buffer holds rows in both
pub not_both : (s : List ℕ) (rs qs : List Row) → Holds edition1 s rs → Holds edition2 s qs → ⊥
not_both s rs qs h k =
    let e : number_in s edition_place header_width ≡ 1 = edition_in edition1 edition1_ok s rs h in
    let f : number_in s edition_place header_width ≡ 2 = edition_in edition2 edition2_ok s qs k in
    omega arith
