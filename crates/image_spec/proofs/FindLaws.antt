-- What a check of an image and a lookup in it answer (specs/Check.antt). Assumes nothing.
use Rattle.std.specs.Prelude.{Some, None}
use Rattle.image_spec.specs.Check.{contents, Held, ImageCheck, row_count, checked, check_answer, check_of, is_sound, rows_held}
use mathlib.Core.Path.{◌≡◌, refl, sym, ap, ◌∙◌, subst}
use mathlib.Core.Logic.{⊎_elim}
use mathlib.Core.Bool.{false≢true}
use mathlib.Core.List.{List, []}
use Prim.Native.Nat.{ℕ}
use native.Mathlib.Omega.{arith}
use lib.ListN.{length}
use Rattle.exact.specs.Reads.{Got, got, refused}
use Rattle.image_spec.specs.declared.layout.Layout.{Layout}
use Rattle.image_spec.specs.Layout.{row_place, LayoutOk}
use Rattle.image_spec.specs.Image.{Row, image_of, Holds}
use Rattle.image_spec.specs.Laws.{HeldIs, CheckTellsFor, SoundCheck, CheckSaysFor, CheckUnsoundFor, HeldFits, CheckFits}
use Rattle.image_spec.specs.Laws.{CheckInsideFor}
use Rattle.image_spec.specs.Laws.{RowsNamedFor, EditionsCheckedFor}
use Rattle.image_spec.proofs.HeldLaws.{held_in, held_is}
use Rattle.image_spec.proofs.RunLaws.{Run}
use Rattle.image_spec.proofs.SoundLaws.{HeaderSays, fits_says, holds_run, holds_room, count_of, check_complete, Checked, check_is}
use Rattle.image_spec.proofs.SoundLaws.{check_sound, holds_bodies}

module _ (l : Layout) (ok : LayoutOk l) where
  -- ---- the check

  -- what is held of the bodies of an image that s begins with is the body with the id
  pub held_in_lem : (s id : List ℕ) (bs : List Row) → Holds l s bs → HeldIs s id bs (held_in l id bs)
  unfolding held_in
  held_in_lem s id bs h = let g : Run l ok s [] 0 (row_place l (length bs)) bs = holds_run l ok s bs h in held_is s id
      (row_place l (length bs)) bs
      g.each g.has_bodies

  -- `CheckTellsFor`
  pub check_tells : CheckTellsFor l
  unfolding check_of
  check_tells s id bs h = (held_in l id bs, rw (check_complete l ok s id bs h, count_of l ok s bs h), held_in_lem s id bs h)

  -- what is told of an image that is sound
  abbrev rows_told : ImageCheck → ℕ
  rows_told (Some v) = v.rows
  rows_told None = 0

  abbrev end_told : ImageCheck → ℕ
  end_told (Some v) = v.end
  end_told None = 0

  abbrev held_told : ImageCheck → Held
  held_told (Some v) = v.held
  held_told None = None

  -- `CheckSaysFor`
  pub check_says : CheckSaysFor l
  unfolding check_of
  check_says s id bytes n end h e = go (checked l s id) refl e
    where
      go : (o : Got Held) → checked l s id ≡ o → check_answer (row_count s) o ≡ contents n end h → SoundCheck l s id n end h
      go (got h' end') c f =
          let k = check_sound l ok s id bytes h' end' (sym c) in
          let a : row_count s ≡ n = ap rows_told f in
          let b : end' ≡ end = ap end_told f in
          let q : rows_held l s ≡ k.0 = holds_bodies l ok s k.0 k.1 in
          let x : Holds l s (rows_held l s) = subst (Holds l s) (sym q) k.1 in
          let w = check_tells s id (rows_held l s) x in
          record {
            holds = x;
            rows = sym a ∙ count_of l ok s (rows_held l s) x;
            ends = sym b ∙ k.2 ∙ ap (λ (bs : List Row). length (image_of l bs)) (sym q);
            held = subst (HeldIs s id (rows_held l s))
                (ap held_told (sym w.1 ∙ e)) w.2;
          }
      go refused c f = absurd (false≢true (ap is_sound f))

  -- a check of an image that holds bodies does not call it unsound
  sound_other : (n end : ℕ) (h : Held) → contents n end h ≡ None → ⊥
  sound_other n end h e = false≢true (sym (ap is_sound e))

  -- `CheckUnsoundFor`
  pub check_unsound : CheckUnsoundFor l
  check_unsound s id bytes = (
    λ e bs h. let w = check_tells s id bs h in sound_other (length bs) (length (image_of l bs)) w.0 (sym w.1 ∙ e),
    λ n. go n (check_of l s id) refl,
  )
    where
      go : ((bs : List Row) → Holds l s bs → ⊥) → (v : ImageCheck) → check_of l s id ≡ v → v ≡ None
      go n (Some v) e = absurd (n (rows_held l s) (check_says s id bytes v.rows v.end v.held e).holds)
      go n None e = refl

  -- `CheckInsideFor`
  pub check_inside : CheckInsideFor l
  check_inside s id bytes = go (check_of l s id) refl
    where
      fits : (h : Held) → HeldIs s id (rows_held l s) h → HeldFits s h
      fits None k = tt
      fits (Some b) k = (k.inside, k.reads)

      go : (v : ImageCheck) → check_of l s id ≡ v → CheckFits s v
      go (Some v) e =
          let w : SoundCheck l s id v.rows v.end v.held = check_says s id bytes v.rows v.end v.held e in
          (omega (arith, w.ends, holds_room l ok s (rows_held l s) w.holds), fits v.held w.held)
      go None e = tt

  -- ---- which bodies are held

  -- `RowsNamedFor`
  pub rows_named : RowsNamedFor l
  rows_named s bs h = holds_bodies l ok s bs h

  -- a buffer holds one list of bodies
  pub bodies_once : (s : List ℕ) (bs cs : List Row) → Holds l s bs → Holds l s cs → bs ≡ cs
  bodies_once s bs cs h k = sym (rows_named s bs h) ∙ rows_named s cs k

  -- `EditionsCheckedFor`
  pub editions_checked : EditionsCheckedFor l
  unfolding check_of
  editions_checked s id other = go (checked l s id) refl
    where
      go : (o : Got Held) → checked l s id ≡ o → check_answer (row_count s) o ≡ None
      go (got h end) c =
          let k : Checked l ok s id h end = check_is l ok s id h end (sym c) in
          let q : HeaderSays l ok s (row_count s) = (fits_says l ok s k.inside k.header).0 in
          absurd (⊎_elim (λ f. f q.edition) (λ f. f q.modes) other)
      go refused c = refl
