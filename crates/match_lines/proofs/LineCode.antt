-- Laws of lines: their lengths, their verdicts, and what the loop of `answers` makes of a block, in the code's own form. Assumes nothing.
use mathlib.Core.Path.{◌≡◌, refl, sym, ap, ◌∙◌}
use mathlib.Core.Bool.{Bool, true, false, cond, ◌||◌}
use mathlib.Core.List.{List, [], ◌∷◌, ◌++◌, append-nil, append_assoc}
use Prim.Native.Nat.{ℕ, suc, min, ◌+◌, ◌-◌, ◌*◌, ◌/◌, ◌≤◌, ◌<◌}
use native.Mathlib.Numerals.{add-one}
use native.Mathlib.Nat.{zero-add}
use native.Mathlib.Omega.{arith}
use lib.ListN.{length, take, drop, length-append, length-drop, take-append-drop}
use lib.Seq.{drop-drop, append_snoc, take_at, drop_at, length-take-le}
use lib.Dec.{eqb, ltb}
use borrow.Author.Tests.{le-ltb, le-leb, lt-leb}
use Rattle.std.proofs.Common.{Option, Some, None, Result}
use Rattle.std.proofs.lemmas.List.{take_min}
use Rattle.std.proofs.lemmas.Option.{none-some, same_Some}
use Rattle.resource_spec.specs.declared.Malformed.{Malformed}
use Rattle.resource_spec.specs.Text.{matching}
use Rattle.match_lines_spec.specs.declared.Verdict.{Verdict}
use Rattle.match_lines_spec.specs.declared.Verdict.TheVariants.{IsBad}
use Rattle.match_lines_spec.specs.declared.Progress.{Progress}
use Rattle.octets.specs.Scan.{bytes_before}
use Rattle.octets.specs.Bytes.{part}
use Rattle.octets.specs.Write.{over, lowered, moved_down}
use Rattle.match_lines_spec.specs.Lines.{longest_line, verdict_line, verdict_of, before_space, verdict_at, verdict, last_line}
use Rattle.match_lines_spec.specs.Block.{Fed, verdict_if, kept_of, after, fed_from, fed, ended, line_length, end_of, progress_of, output_of}
use Rattle.match_lines_spec.specs.Block.{buffer_of, end_progress, end_output}
use Rattle.octets.proofs.PartLaws.{part_to_end}
use Rattle.octets.proofs.MoveLaws.{down_fits}
use Rattle.octets.proofs.OverLaws.{over_nil, over_length, over_append}
use Rattle.octets.proofs.ScanLaws.{before_this, before_other, before_le}
use Rattle.match_lines_spec.proofs.Laws.{fed_ends, kept_out, word_le, begun_end}

-- ---- the verdict on a line, by the code's tests

-- no space
pub verdict_whole : (line : List ℕ) (n : ℕ) → length line ≤ n → verdict_at line n ≡ IsBad
unfolding verdict_at
verdict_whole line n h = rw (le-leb (length line) n h)

-- a space after n bytes
pub verdict_parted : (line : List ℕ) (n : ℕ) (m : Result (Option ℕ) Malformed) → n < length line
    → m ≡ matching (take n line) (take (length line - (n + 1)) (drop (n + 1) line)) → verdict_at line n ≡ verdict_of m
unfolding verdict_at
verdict_parted line n m h e =
    let rest : take (length line - (n + 1)) (drop (n + 1) line) ≡ drop (suc n) line =
    part_to_end line (n + 1) ∙ ap (λ (k : ℕ). drop k line) (add-one n) in
    rw (lt-leb (length line) n h, e, rest)

-- a line that is not too long
pub verdict_short : (line : List ℕ) → length line ≤ 600 → verdict line ≡ verdict_at line (before_space line)
unfolding verdict
verdict_short line h = rw (le-leb (length line) 600 h)

-- a line that is too long
pub verdict_long : (line : List ℕ) → 600 < length line → verdict line ≡ IsBad
unfolding verdict
verdict_long line h = rw (lt-leb (length line) 600 h)

-- what `parted` and `judge` stand on
pub ruleset parted_laws = (verdict_whole, verdict_parted)

pub ruleset verdict_laws = (verdict_short, verdict_long, zero-add)

-- ---- what is kept at the end of a block

-- what a block comes to, with `at` bytes written before
abbrev pub done : ℕ → Fed → Progress
done at f = record { written = at + length f.out; kept = length f.kept; long = f.long }

-- what `end` answers is what is kept
end_done : (long : Bool) (s : List ℕ) (from at : ℕ) → end_of long s from at ≡ done at (kept_of long (drop from s))
unfolding end_of kept_of
end_done long s from at =
    rw (← length-drop from s) (go (long || ltb longest_line (length (drop from s))) (omega arith))
  where
    go : (t : Bool) → at ≡ at + 0
        → cond t (record { written = at; kept = 0; long = true }) (record { written = at; kept = length (drop from s); long = false })
        ≡ done at (cond t (record { out = []; kept = []; long = true }) (record { out = []; kept = drop from s; long = false }))
    go true e = rw (← e)
    go false e = rw (← e)

-- ---- the first line of a block

-- a line that ends in the block
fed_line : (long : Bool) (begun s : List ℕ) → line_length s < length s
    → fed_from long begun s
    ≡ after (verdict_line (verdict_if long (begun ++ take (line_length s) s))) (fed_from false [] (drop (suc (line_length s)) s))
unfolding bytes_before fed_from
fed_line long begun [] h = absurd (omega arith)
fed_line long begun (b ∷ bs) h = go (eqb b 10) refl (fed_line long (begun ++ (b ∷ [])) bs)
  where
    go : (t : Bool) → eqb b 10 ≡ t
        → (line_length bs < length bs
        → fed_from long (begun ++ (b ∷ [])) bs
        ≡ after (verdict_line (verdict_if long ((begun ++ (b ∷ [])) ++ take (line_length bs) bs)))
        (fed_from false [] (drop (suc (line_length bs)) bs)))
        → fed_from long begun (b ∷ bs)
        ≡ after (verdict_line (verdict_if long (begun ++ take (line_length (b ∷ bs)) (b ∷ bs))))
        (fed_from false [] (drop (suc (line_length (b ∷ bs))) (b ∷ bs)))
    go true e f = rw (e, fed_from, bytes_before, append-nil begun)
    go false e f =
        let k : line_length (b ∷ bs) ≡ suc (line_length bs) = before_other 10 b bs e in
        rw (k, e, fed_from) (f (omega arith) ∙ rw (append_snoc begun b (take (line_length bs) bs)))

-- a line that does not
fed_begun : (long : Bool) (begun s : List ℕ) → line_length s ≡ length s → fed_from long begun s ≡ kept_of long (begun ++ s)
unfolding bytes_before fed_from
fed_begun long begun [] h = rw (append-nil begun)
fed_begun long begun (b ∷ bs) h = go (eqb b 10) refl (fed_begun long (begun ++ (b ∷ [])) bs)
  where
    go : (t : Bool) → eqb b 10 ≡ t
        → (line_length bs ≡ length bs → fed_from long (begun ++ (b ∷ [])) bs ≡ kept_of long ((begun ++ (b ∷ [])) ++ bs))
        → fed_from long begun (b ∷ bs) ≡ kept_of long (begun ++ (b ∷ bs))
    go true e f = let k : line_length (b ∷ bs) ≡ 0 = before_this 10 b bs e in absurd (omega arith)
    go false e f =
        let k : line_length (b ∷ bs) ≡ suc (line_length bs) = before_other 10 b bs e in
        rw (e, fed_from) (f (omega arith) ∙ rw (append_snoc begun b bs))

-- ---- the loop of `answers`

-- the bytes of a block from `from` on are to be answered at the place `at`, and this leads to the same as the whole block from the
-- beginning; at most four bytes are written for each byte before
pub record Left (long : Bool) (s out₀ out : List ℕ) (from at : ℕ) (too_long : Bool) : Type 0 where
  pub inside : from ≤ length s
  pub room : at ≤ 4 * from
  pub size : length out ≡ length out₀
  pub answer : done 0 (fed long s) ≡ done at (fed_from too_long [] (drop from s))
  pub output : over out₀ 0 (fed long s).out ≡ over out at (fed_from too_long [] (drop from s)).out

-- before the first turn
pub left_all : (long : Bool) (s out : List ℕ) → Left long s out out 0 0 long
left_all long s out = record { inside = omega arith; room = omega arith; size = refl; answer = refl; output = refl }

module _ (long : Bool) (s out₀ out : List ℕ) (from at : ℕ) (too_long : Bool) (l : Left long s out₀ out from at too_long) (stop : ℕ)
    (e : stop ≡ from + line_length (drop from s)) where
  -- a line that ends in the block: its verdict is written, and the next line begins
  pub left_next : (stop ≡ length s → ⊥) → length s ≤ length out₀ / 4 → (v : Verdict) (next : ℕ) (d : List ℕ)
      → v ≡ verdict_if too_long (take (stop - from) (drop from s)) → next ≡ at + length (verdict_line v) → d ≡ over out at (verdict_line v)
      → Left long s out₀ d (stop + 1) next false
  left_next n r v next d f placed written =
      let k : ℕ = line_length (drop from s) in
      let size : stop - from ≡ k = omega arith in
      let past : from + suc k ≡ stop + 1 = omega arith in
      let rest : drop (suc k) (drop from s) ≡ drop (stop + 1) s = drop-drop (suc k) from s ∙ ap (λ (i : ℕ). drop i s) past in
      let g : Fed = fed_from false [] (drop (stop + 1) s) in
      let within : line_length (drop from s) < length (drop from s) =
      omega (arith, before_le 10 (drop from s), length-drop from s, l.inside) in
      let turn : fed_from too_long [] (drop from s) ≡ after (verdict_line v) g =
      fed_line too_long [] (drop from s) within ∙ rw (f, size, rest) in
      let sum : at + length (verdict_line v ++ g.out) ≡ (at + length (verdict_line v)) + length g.out =
      omega (arith, length-append (verdict_line v) g.out) in
      let more : done at (after (verdict_line v) g) ≡ done (at + length (verdict_line v)) g = rw sum in
      let fits : at + length (verdict_line v) ≤ length out =
      omega (arith, word_le v, l.room, l.size, within, length-drop from s) in
      rw (placed, written) (record {
        inside = omega (arith, within, length-drop from s, l.inside);
        room = omega (arith, word_le v, l.room);
        size = over_length out at (verdict_line v) fits ∙ l.size;
        answer = l.answer ∙ ap (done at) turn ∙ more;
        output = l.output ∙ ap (λ (x : Fed). over out at x.out) turn ∙ sym (over_append out at (verdict_line v) g.out fits);
      })

  -- a line that does not: the block is answered
  pub left_end : stop ≡ length s → (end_of too_long s from at ≡ done 0 (fed long s)) × (out ≡ over out₀ 0 (fed long s).out)
  left_end n =
      let turn : fed_from too_long [] (drop from s) ≡ kept_of too_long (drop from s) =
      fed_begun too_long [] (drop from s) (omega (arith, length-drop from s, l.inside)) in (
        end_done too_long s from at ∙ sym (l.answer ∙ ap (done at) turn),
        sym (l.output ∙ ap (λ (x : Fed). over out at x.out) turn ∙ ap (over out at) (kept_out too_long (drop from s))
            ∙ over_nil out at),
      )

-- ---- what a block comes to

module _ (long : Bool) (s out : List ℕ) where
  -- an output that is long enough
  pub block_done : (p : Progress) (d : List ℕ) → length s ≤ length out / 4 → (p ≡ done 0 (fed long s)) × (d ≡ over out 0 (fed long s).out)
      → (Some p ≡ progress_of long s (length out)) × (d ≡ output_of long s out)
  unfolding progress_of output_of
  block_done p d h e =
      let start : 0 + length (fed long s).out ≡ length (fed long s).out = omega arith in
      rw (le-ltb (length out / 4) (length s) h, e.0, start) (refl, e.1)

-- ---- the bytes that are kept

-- bytes that are there are written over the start
moved_down_lem : (d d' : List ℕ) (from k : ℕ) → from + k ≤ length d → d' ≡ moved_down d from 0 k → d' ≡ over d 0 (take k (drop from d))
unfolding lowered part
moved_down_lem d d' from k h e = e ∙ down_fits d from 0 k (omega arith) h

-- what a block that was answered says: the output is long enough, and so many bytes are kept
done_says : (long : Bool) (s : List ℕ) (room : ℕ) (p : Progress) → Some p ≡ progress_of long s room
    → (ltb (room / 4) (length s) ≡ false) × (p.kept ≡ length (fed long s).kept)
unfolding progress_of
done_says long s room p e = go (ltb (room / 4) (length s)) e
  where
    go : (u : Bool) → Some p ≡ cond u None (Some (record { written = length (fed long s).out; kept = length (fed long s).kept; long = (fed long s).long }))
        → (u ≡ false) × (p.kept ≡ length (fed long s).kept)
    go true f = absurd (none-some p (sym f))
    go false f = (refl, ap (λ (q : Progress). q.kept) (same_Some _ _ f))

-- what one that was refused says: the output is too short
refused_says : (long : Bool) (s : List ℕ) (room : ℕ) → ◌≡◌ {A = Option Progress} None (progress_of long s room) → ltb (room / 4) (length s) ≡ true
unfolding progress_of
refused_says long s room e = go (ltb (room / 4) (length s)) e
  where
    go : (u : Bool)
        → ◌≡◌ {A = Option Progress} None
        (cond u None (Some (record { written = length (fed long s).out; kept = length (fed long s).kept; long = (fed long s).long })))
        → u ≡ true
    go true f = refl
    go false f = absurd (none-some _ f)

module _ (long : Bool) (d : List ℕ) (n size : ℕ) (out : List ℕ) (e : size ≡ min n (length d)) where
  -- the block is the first n bytes
  same : take size d ≡ take n d
  same = rw e (take_min n d)

  -- a block that was answered: the bytes that are kept are its last
  pub step_kept : {p : Progress} → Some p ≡ progress_of long (take size d) (length out)
      → (p.kept ≤ size) × (take p.kept (drop (size - p.kept) d) ≡ (fed long (take size d)).kept)
  step_kept {p} t =
      let k : ℕ = p.kept in
      let says = done_says long (take size d) (length out) p t in
      let f : List ℕ = (fed long (take size d)).kept in
      let cut = fed_ends long [] (take size d) in
      let front : List ℕ = cut.0 in
      let sum : length front + length f ≡ size = sym (length-append front f) ∙ ap length cut.1 ∙ length-take-le size d (omega (arith, e)) in
      let whole : d ≡ front ++ (f ++ drop size d) =
      sym (take-append-drop size d) ∙ ap (λ (x : List ℕ). x ++ drop size d) (sym cut.1) ∙ append_assoc front f (drop size d) in (
        omega arith,
        ap (λ (x : List ℕ). take k (drop (size - k) x)) whole
            ∙ ap (take k) (drop_at front (f ++ drop size d) (size - k) (omega arith))
            ∙ take_at f (drop size d) k (omega arith),
      )

  -- the buffer then begins with them
  pub step_done : {p : Progress} {m : List ℕ} → Some p ≡ progress_of long (take size d) (length out)
      → m ≡ moved_down d (size - p.kept) 0 p.kept → m ≡ buffer_of long d n (length out)
  unfolding buffer_of
  step_done {p} {m} t moved =
      let kept = step_kept t in
      rw (← same) (
      moved_down_lem d m (size - p.kept) p.kept (omega (arith, e, kept.0)) moved ∙ ap (over d 0) kept.1
      ∙ rw (done_says long (take size d) (length out) p t).0
      )

  -- a block that was refused: it is as it was
  pub step_refused : ◌≡◌ {A = Option Progress} None (progress_of long (take size d) (length out)) → d ≡ buffer_of long d n (length out)
  unfolding buffer_of
  step_refused t = rw (← same, refused_says long (take size d) (length out) t)

-- ---- the end of the input

-- nothing is written where nothing is left
empty_end : (s : List ℕ) → length s ≡ 0 → last_line s ≡ []
empty_end [] h = refl
empty_end (b ∷ bs) h = absurd (omega arith)

module _ (long : Bool) (s out : List ℕ) where
  -- what is written for the last line
  last_done : (n : ℕ) (d : List ℕ) → 4 ≤ length out → n ≡ length (ended long s) → d ≡ over out 0 (ended long s)
      → (Some (record { written = n; kept = 0; long = false }) ≡ end_progress long s (length out)) × (d ≡ end_output long s out)
  unfolding end_progress end_output
  last_done n d h f g = rw (le-ltb (length out) 4 h, f) (refl, g)

  -- nothing where nothing is left
  pub last_none : 4 ≤ length out → long ≡ false → length s ≡ 0
      → (Some (record { written = 0; kept = 0; long = false }) ≡ end_progress long s (length out)) × (out ≡ end_output long s out)
  last_none h e k =
      let none : ended long s ≡ [] = rw e (empty_end s k) in
      last_done 0 out h (rw none) (rw none (sym (over_nil out 0)))

  -- else the verdict on the line
  pub last_line_done : {n : ℕ} {d : List ℕ} → 4 ≤ length out → (long ≡ false → length s ≡ 0 → ⊥) → (v : Verdict) → v ≡ verdict_if long s
      → n ≡ 0 + length (verdict_line v) → d ≡ over out 0 (verdict_line v)
      → (Some (record { written = n; kept = 0; long = false }) ≡ end_progress long s (length out)) × (d ≡ end_output long s out)
  last_line_done {n} {d} h k v e f g =
      let word : ended long s ≡ verdict_line v = ended_word long k ∙ ap verdict_line (sym e) in
      last_done n d h (rw word (omega (arith, f))) (rw word g)
    where
      ended_word : (t : Bool) → (t ≡ false → length s ≡ 0 → ⊥) → ended t s ≡ verdict_line (verdict_if t s)
      ended_word true k = refl
      ended_word false k = begun_end s (omega (arith, k refl))
