-- The choice in a buffer that holds rows is the choice among the rows (specs/Choose.antt). Assumes nothing.
use mathlib.Core.Path.{◌≡◌, refl, ap, ap₂, ◌∙◌, subst}
use mathlib.Core.Bool.{Bool, true, false, cond, ◌&&◌, and-true}
use mathlib.Core.List.{List, [], ◌∷◌, ◌++◌}
use Prim.Native.Nat.{ℕ, zero, suc, ◌+◌, ◌-◌, ◌*◌, ◌≤◌, ◌<◌}
use native.Mathlib.Omega.{arith}
use lib.ListN.{length, set, length-set, replicate, length-replicate}
use lib.Dec.{leb}
use borrow.Author.Tests.{le-leb}
use Rattle.octets.specs.Bytes.{part}
use Rattle.octets.specs.Span.{Span, inside}
use Rattle.octets.specs.Number.{number_in}
use Rattle.octets.proofs.BytesLaws.{has_part, has_fits}
use Rattle.octets.proofs.NumberLaws.{number_in_lem}
use Rattle.octets.proofs.SpanLaws.{inside_fits}
use Rattle.descriptor_spec.specs.declared.Fields.{Fields}
use Rattle.descriptor_spec.specs.Allowed.{longest}
use Rattle.image_spec.specs.declared.Mark.{Mark}
use Rattle.image_spec.specs.declared.Mark.TheVariants.{Gone}
use Rattle.image_spec.specs.declared.layout.Layout.{Layout}
use Rattle.std.specs.Prelude.{Option, Some, None}
use Rattle.image_spec.specs.declared.Room.{Room}
use Rattle.image_spec.specs.Layout.{body_width, offset_place, length_place, row_size, most_rows, moment_place, moment_size, row_place}
use Rattle.image_spec.specs.Layout.{LayoutOk}
use Rattle.image_spec.specs.Image.{Row, row_of, image_of, Holds}
use Rattle.image_spec.specs.Close.{kept, closed_up}
use Rattle.image_spec.specs.Choose.{may_go, made, end_of, is_expired, mark_by, marked, used_at, size_at, body_at, mark_at, marks_from}
use Rattle.image_spec.specs.Choose.{Ask, short_of, lesser, least_from, least_of, fits_in, Chosen, one_step, chosen, choice_of, staying_of}
use Rattle.image_spec.specs.Choose.{ask_at, choice_at, room_by, room_of, after_by, after_room}
use Rattle.image_spec.specs.Removal.{row_in}
use Rattle.image_spec.proofs.BodyLaws.{read_in}
use Rattle.image_spec.proofs.RowPlaceLaws.{place_small}
use Rattle.image_spec.proofs.RowLaws.{RowSays}
use Rattle.image_spec.proofs.CheckLaws.{Stands, stands_says}
use Rattle.image_spec.proofs.RunLaws.{Run, run_first, run_rest}
use Rattle.image_spec.proofs.SoundLaws.{holds_run, holds_room}
use Rattle.image_spec.proofs.LeastLaws.{LeastTo, SeenTo, mark_in, least_seen}
use Rattle.image_spec.proofs.MarkLaws.{marks_length, marks_first}
use Rattle.image_spec.proofs.ChoiceLaws.{Ended, choice_ended}

-- ---- choices by the same numbers

-- the least by the same moments is the same
least_alike : (used used' : ℕ → ℕ) (n : ℕ) → ((j : ℕ) → j < n → used j ≡ used' j) → (gs : List Mark) (i : ℕ) (b : Option (ℕ × ℕ)) → i + length gs ≡ n
    → least_from used gs i b ≡ least_from used' gs i b
unfolding least_from
least_alike used used' n f [] i b e = refl
least_alike used used' n f (g ∷ gs) i b e =
    least_alike used used' n f gs (i + 1) (lesser (may_go g) i (used i) b) (omega arith)
    ∙ ap (λ (u : ℕ). least_from used' gs (i + 1) (lesser (may_go g) i u b)) (f i (omega arith))

module _ (l : Layout) (used used' size size' : ℕ → ℕ) (rows short n : ℕ) (moments : (j : ℕ) → j < n → used j ≡ used' j)
    (sizes : (j : ℕ) → j < n → size j ≡ size' j) where
  abbrev one : Ask
  one = record { used = used; size = size; rows = rows; short = short }

  abbrev other : Ask
  other = record { used = used'; size = size'; rows = rows; short = short }

  -- what is chosen by the same moments and lengths is the same
  chosen_alike : (m : ℕ) (gs : List Mark) (removed freed : ℕ) → length gs ≡ n
      → chosen l one m gs removed freed ≡ chosen l other m gs removed freed
  unfolding chosen
  chosen_alike zero gs removed freed e = refl
  chosen_alike (suc m) gs removed freed e =
      go (fits_in l one removed freed) (least_of one gs) refl (chosen_alike m)
      ∙ ap (λ (b : Option (ℕ × ℕ)). one_step (fits_in l one removed freed) b gs removed freed (next other))
      (least_alike used used' n moments gs 0 None (omega arith))
    where
      next : Ask → ℕ → Chosen
      next a j = chosen l a m (set gs j Gone) (removed + 1) (freed + (row_size l + a.size j))

      go : (t : Bool) (b : Option (ℕ × ℕ)) → least_of one gs ≡ b
          → ((gs' : List Mark) (r f : ℕ) → length gs' ≡ n → chosen l one m gs' r f ≡ chosen l other m gs' r f)
          → one_step t b gs removed freed (next one) ≡ one_step t b gs removed freed (next other)
      go true b q more = refl
      go false None q more = refl
      go false (Some b) q more =
          let j : ℕ = b.0 in
          let s : LeastTo used (mark_in gs) (length gs) j b.1 = subst (SeenTo used (mark_in gs) (length gs)) q (least_seen one gs) in
          more (set gs j Gone) (removed + 1) (freed + (row_size l + size j)) (length-set gs j Gone ∙ e)
          ∙ ap (λ (x : ℕ). chosen l other m (set gs j Gone) (removed + 1) (freed + (row_size l + x))) (sizes j (omega (arith, s.below)))

module _ (l : Layout) (ok : LayoutOk l) where
  -- ---- what the rows of a buffer say

  -- a row that stands says when it was last used, how long its body is, and whether that is expired
  row_here : (s : List ℕ) (clock : ℕ) (seen : List Row) (i at : ℕ) (b : Row) (f : Fields) → at < 4294967296 → Stands l ok s seen i at b f
      → (used_at l s i ≡ b.used) × (size_at l s i ≡ length b.body) × (mark_at l s clock i ≡ mark_by (is_expired clock b))
  unfolding used_at size_at body_at mark_at is_expired
  row_here s clock seen i at b f small w =
      let r : ℕ = row_place l i in
      let q : RowSays l ok s r at b = stands_says l ok s seen i at b f small w in
      let room : r + row_size l ≤ length s = q.inside in
      let wide = ok.wide in
      let last = ok.last in
      let size : number_in s (r + length_place) body_width ≡ length b.body
      = number_in_lem s (r + length_place) body_width (omega arith) (omega arith) ∙ q.size in
      let offset : number_in s (r + offset_place) body_width ≡ at
      = number_in_lem s (r + offset_place) body_width (omega arith) (omega arith) ∙ q.offset in
      let within : at + length b.body ≤ length s = has_fits s at b.body (read_in b.body f w.reads).filled w.has_body in
      let body : part s (inside s at (length b.body)).start (inside s at (length b.body)).len ≡ b.body
      = ap (λ (p : Span). part s p.start p.len) (inside_fits s at (length b.body) (omega arith) (omega arith))
      ∙ has_part s at b.body w.has_body in (
        number_in_lem s (r + moment_place l) (moment_size l) ok.moment (omega arith) ∙ q.moment,
        size,
        ap₂ (λ (x y : ℕ). mark_by (leb (end_of (part s (inside s x y).start (inside s x y).len)) clock)) offset size
            ∙ ap (λ (x : List ℕ). mark_by (leb (end_of x) clock)) body,
      )

  -- so the marks of rows that stand are the marks of the list
  rows_marked : (s : List ℕ) (clock : ℕ) (bs seen : List Row) (i at : ℕ) → at + 32768 * length bs < 4294967296 → Run l ok s seen i at bs
      → marks_from l s clock (length bs) i ≡ marked clock bs
  unfolding marks_from marked
  rows_marked s clock [] seen i at small g = refl
  rows_marked s clock (b ∷ bs) seen i at small g =
      let x = run_first l ok s seen i at b bs g in
      let short : length b.body ≤ 32768 = (read_in b.body x.0 x.1.reads).short in
      ap₂ (λ (y : Mark) (ys : List Mark). y ∷ ys) (row_here s clock seen i at b x.0 (omega arith) x.1).2
      (rows_marked s clock bs (seen ++ (b ∷ [])) (i + 1) (at + length b.body) (omega arith) (run_rest l ok s seen i at b bs g))

  -- and each of them says when it was last used, and how long its body is
  rows_say : (s : List ℕ) (clock : ℕ) (bs seen : List Row) (i at : ℕ) → at + 32768 * length bs < 4294967296 → Run l ok s seen i at bs
      → (j k : ℕ) → j < length bs → k ≡ i + j → (used_at l s k ≡ (row_in bs j).used) × (size_at l s k ≡ length (row_in bs j).body)
  rows_say s clock [] seen i at small g j k h e = absurd (omega arith)
  rows_say s clock (b ∷ bs) seen i at small g zero k h e =
      let x = run_first l ok s seen i at b bs g in
      let y = row_here s clock seen i at b x.0 (omega arith) x.1 in
      let z : k ≡ i = omega arith in
      (ap (used_at l s) z ∙ y.0, ap (size_at l s) z ∙ y.1)
  rows_say s clock (b ∷ bs) seen i at small g (suc j) k h e =
      let x = run_first l ok s seen i at b bs g in
      let short : length b.body ≤ 32768 = (read_in b.body x.0 x.1.reads).short in
      rows_say s clock bs (seen ++ (b ∷ [])) (i + 1) (at + length b.body) (omega arith) (run_rest l ok s seen i at b bs g) j k
      (omega arith) (omega arith)

  -- ---- the choice in a buffer

  module _ (d : List ℕ) (rs : List Row) (h : Holds l d rs) (clock : ℕ) where
    -- it is the choice among the rows that the buffer holds
    pub choice_alike : (more : ℕ) → choice_at l d (length rs) (length (image_of l rs)) clock more ≡ choice_of l (length d) clock rs more
    unfolding choice_at choice_of
    choice_alike more =
        let n : ℕ = length rs in
        let few : n ≤ most_rows l = h.rows.few in
        let small : row_place l n + 32768 * n < 4294967296 = place_small l ok n few in
        let g : Run l ok d [] 0 (row_place l n) rs = holds_run l ok d rs h in
        let short : ℕ = short_of l (length (image_of l rs)) more (length d) in
        ap (λ (gs : List Mark). chosen l (ask_at l d n short) n gs 0 0) (rows_marked d clock rs [] 0 (row_place l n) small g)
        ∙ chosen_alike l (used_at l d) (λ i. (row_in rs i).used) (size_at l d) (λ i. length (row_in rs i).body) n short n
        (λ j k. (rows_say d clock rs [] 0 (row_place l n) small g j j k (omega arith)).0)
        (λ j k. (rows_say d clock rs [] 0 (row_place l n) small g j j k (omega arith)).1) n (marked clock rs) 0 0
        (marks_length clock (marked clock rs) rs (marks_first clock rs))

    -- what is promised of a new body of `more` bytes: room is made exactly where the choice says so, by removing the chosen rows
    abbrev RoomFor : ℕ → Type 0
    RoomFor more =
        let c = choice_of l (length d) clock rs more in
        let k = staying_of l (length d) clock rs more in
        (room_of l d (length rs) (length (image_of l rs)) clock more ≡ cond c.ok (made (length k) (length (image_of l k))) None)
        × (after_room l d (length rs) (length (image_of l rs)) clock more ≡ cond c.ok (closed_up l d c.marks) d)
        × (length c.marks ≡ length rs)

    -- so many rows and bytes are left
    room_by_lem : (c : Chosen) (k e : ℕ) → k + c.removed ≡ length rs → e + c.freed ≡ length (image_of l rs)
        → room_by (length rs) (length (image_of l rs)) c ≡ cond c.ok (made k e) None
    room_by_lem c k e p q =
        let end : ℕ = length (image_of l rs) in
        let rows : length rs - c.removed ≡ k = omega arith in
        let bytes : end - c.freed ≡ e = omega arith in
        rw (le-leb c.freed end (omega arith), rows, bytes, and-true c.ok)

    -- it is so of every new row
    room_new : (new : Row) → length new.body ≤ longest → RoomFor (length new.body)
    unfolding room_of after_room staying_of
    room_new new short =
        let more : ℕ = length new.body in
        let end : ℕ = length (image_of l rs) in
        let c : Chosen = choice_of l (length d) clock rs more in
        let k : List Row = kept c.marks rs in
        let x : Ended l ok d clock rs new c = choice_ended l ok d clock rs new in
        let e : choice_at l d (length rs) end clock more ≡ c = choice_alike more in
        let answer : Option Room = cond c.ok (made (length k) (length (image_of l k))) None in
        let guards : (leb (length rs) (most_rows l) && (leb end (length d) && leb more longest)) ≡ true
        = ap₂ (λ (a b : Bool). a && b) (le-leb (length rs) (most_rows l) h.rows.few)
        (ap₂ (λ (a b : Bool). a && b) (le-leb end (length d) (holds_room l ok d rs h)) (le-leb more longest short)) in
        let says : room_of l d (length rs) end clock more ≡ answer
        = ap (λ (t : Bool). cond t (room_by (length rs) end (choice_at l d (length rs) end clock more)) None) guards
        ∙ ap (room_by (length rs) end) e ∙ room_by_lem c (length k) (length (image_of l k)) x.going.rows x.going.bytes in (
          says,
          ap (after_by l d (length rs) end clock more) says
              ∙ go c.ok (length k) (length (image_of l k)) more (ap (λ (y : Chosen). y.marks) e),
          marks_length clock c.marks rs x.going.marks,
        )
      where
        go : (t : Bool) (n m more : ℕ) {gs : List Mark} → (choice_at l d (length rs) (length (image_of l rs)) clock more).marks ≡ gs
            → after_by l d (length rs) (length (image_of l rs)) clock more (cond t (made n m) None) ≡ cond t (closed_up l d gs) d
        go true n m more e = ap (closed_up l d) e
        go false n m more e = refl

    -- and so of every length
    pub room_made : (more : ℕ) → more ≤ longest → RoomFor more
    room_made more short =
        let e : length (replicate {A = ℕ} more 0) ≡ more = length-replicate {A = ℕ} more 0 in
        subst RoomFor e (room_new (row_of (replicate {A = ℕ} more 0)) (omega arith))
