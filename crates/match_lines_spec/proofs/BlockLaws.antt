-- Laws of blocks (specs/Block.antt): a line in a block, the bytes that are kept of a block, how many are written for it, and that the
-- blocks of an input together have the answers to its lines written. Assumes nothing.
use mathlib.Core.Path.{◌≡◌, refl, sym, ap, ◌∙◌}
use mathlib.Core.Bool.{Bool, true, false, ◌||◌}
use mathlib.Core.List.{List, [], ◌∷◌, ◌++◌, append-nil, append_assoc}
use Prim.Native.Nat.{ℕ, ◌-◌, ◌*◌, ◌≤◌, ◌<◌}
use native.Mathlib.Omega.{arith}
use lib.ListN.{length, drop, length-append}
use lib.Seq.{drop_at, append_snoc}
use lib.Dec.{eqb, ltb}
use borrow.Author.Tests.{lt-leb, ltb-true, ltb-false}
use Rattle.octets.specs.Scan.{without}
use Rattle.octets.proofs.ScanLaws.{without_append, without_first, without_rest}
use Rattle.octets.proofs.Tests.{by_cond}
use Rattle.match_lines_spec.specs.declared.Verdict.TheVariants.{IsYes, IsNo, IsBad}
use Rattle.match_lines_spec.specs.Lines.{longest_line, verdict_line, verdict, last_line, answers_from}
use Rattle.match_lines_spec.specs.Block.{Fed, verdict_if, kept_of, after, fed_from, fed, ended}
use Rattle.match_lines_spec.specs.Promises.{concat, written_from}
use Rattle.match_lines_spec.specs.Laws.{Ends, FedEnds, WordLe, KeptOut, BegunEnd}

-- ---- the first byte of a block

-- a newline first: the line that has begun is answered
pub fed_newline : (long : Bool) (begun : List ℕ) (b : ℕ) (bs : List ℕ) → eqb b 10 ≡ true
    → fed_from long begun (b ∷ bs) ≡ after (verdict_line (verdict_if long begun)) (fed_from false [] bs)
unfolding fed_from
fed_newline long begun b bs e = rw (e, fed_from)

-- another byte first: it joins that line
pub fed_byte : (long : Bool) (begun : List ℕ) (b : ℕ) (bs : List ℕ) → eqb b 10 ≡ false
    → fed_from long begun (b ∷ bs) ≡ fed_from long (begun ++ (b ∷ [])) bs
unfolding fed_from
fed_byte long begun b bs e = rw (e, fed_from)

-- the same of the answers to an input
pub answers_newline : (begun : List ℕ) (b : ℕ) (bs : List ℕ) → eqb b 10 ≡ true
    → answers_from begun (b ∷ bs) ≡ verdict_line (verdict begun) ++ answers_from [] bs
unfolding answers_from
answers_newline begun b bs e = rw (e, answers_from)

pub answers_byte : (begun : List ℕ) (b : ℕ) (bs : List ℕ) → eqb b 10 ≡ false
    → answers_from begun (b ∷ bs) ≡ answers_from (begun ++ (b ∷ [])) bs
unfolding answers_from
answers_byte begun b bs e = rw (e, answers_from)

-- what holds of an empty block, and of each other block if it holds of that block without its first byte, holds of all
module _ (P : Bool → List ℕ → List ℕ → Fed → Type 0)
    (at-end : (long : Bool) (begun : List ℕ) → P long begun [] (kept_of long begun))
    (at-newline : (long : Bool) (begun : List ℕ) (b : ℕ) (bs : List ℕ) (f : Fed) → eqb b 10 ≡ true → P false [] bs f
    → P long begun (b ∷ bs) (after (verdict_line (verdict_if long begun)) f))
    (at_byte : (long : Bool) (begun : List ℕ) (b : ℕ) (bs : List ℕ) (f : Fed) → eqb b 10 ≡ false → P long (begun ++ (b ∷ [])) bs f
    → P long begun (b ∷ bs) f)
  where
    by_fed : (long : Bool) (begun s : List ℕ) → P long begun s (fed_from long begun s)
    unfolding fed_from
    by_fed long begun [] = at-end long begun
    by_fed long begun (b ∷ bs) = go (eqb b 10) refl (by_fed false [] bs) (by_fed long (begun ++ (b ∷ [])) bs)
      where
        go : (t : Bool) → eqb b 10 ≡ t → P false [] bs (fed_from false [] bs)
            → P long (begun ++ (b ∷ [])) bs (fed_from long (begun ++ (b ∷ [])) bs)
            → P long begun (b ∷ bs) (fed_from long begun (b ∷ bs))
        go true e p q = rw (fed_newline long begun b bs e) (at-newline long begun b bs (fed_from false [] bs) e p)
        go false e p q = rw (fed_byte long begun b bs e) (at_byte long begun b bs (fed_from long (begun ++ (b ∷ [])) bs) e q)

-- ---- a line in a block

-- bytes with no newline among them join the line that has begun
fed_join : (long : Bool) (begun line rest : List ℕ) → without 10 line ≡ true
    → fed_from long begun (line ++ rest) ≡ fed_from long (begun ++ line) rest
unfolding without
fed_join long begun [] rest h = rw append-nil
fed_join long begun (b ∷ bs) rest h =
    fed_byte long begun b (bs ++ rest) (without_first 10 b bs h)
    ∙ fed_join long (begun ++ (b ∷ [])) bs rest (without_rest 10 b bs h)
    ∙ rw append_assoc

-- ---- what is kept, and how much is written

-- what is kept of a line at the end of a block ends the line
kept_ends : (long : Bool) (begun : List ℕ) → Ends (kept_of long begun).kept begun
unfolding kept_of
kept_ends true begun = (begun, append-nil begun, omega arith)
kept_ends false begun =
    by_cond (λ (f : Fed). Ends f.kept begun) (ltb longest_line (length begun)) (λ e. (begun, append-nil begun, omega arith))
    (λ e. ([], refl, ltb-false longest_line (length begun) e))

-- what is kept of a block ends the line that has begun and the block after it
pub fed_ends : FedEnds
fed_ends =
    by_fed (λ long begun s f. Ends f.kept (begun ++ s)) (λ long begun. rw append-nil (kept_ends long begun))
    (λ long begun b bs f e r. (begun ++ (b ∷ r.0), append_assoc begun (b ∷ r.0) f.kept ∙ rw r.1, r.2))
    (λ long begun b bs f e r. (r.0, r.1 ∙ append_snoc begun b bs, r.2))

-- what ends a text is what remains of it without the bytes before
drop_end : (p k t : List ℕ) → p ++ k ≡ t → drop (length t - length k) t ≡ k
drop_end p k t e = rw (← e) (drop_at p k (length (p ++ k) - length k) (omega (arith, length-append p k)))

-- the bytes that are kept of a block are its last, and at most 600
pub kept_end : (long : Bool) (s : List ℕ) → (drop (length s - length (fed long s).kept) s ≡ (fed long s).kept)
    × (length (fed long s).kept ≤ longest_line)
kept_end long s = let r = fed_ends long [] s in (drop_end r.0 (fed long s).kept s r.1, r.2)

-- a verdict's line has four bytes at most
pub word_le : WordLe
word_le IsYes = omega arith
word_le IsNo = omega arith
word_le IsBad = omega arith

-- nothing is written at the end of a block
pub kept_out : KeptOut
unfolding kept_of
kept_out long begun = by_cond (λ (f : Fed). f.out ≡ []) (long || ltb longest_line (length begun)) (λ e. refl) (λ e. refl)

-- a block's answers are at most four bytes for each of its bytes
pub out_four : (long : Bool) (begun s : List ℕ) → length (fed_from long begun s).out ≤ 4 * length s
out_four =
    by_fed (λ long begun s f. length f.out ≤ 4 * length s) (λ long begun. rw kept_out (omega arith))
    (λ long begun b bs f e r. omega (arith, length-append (verdict_line (verdict_if long begun)) f.out, word_le (verdict_if long begun)))
    (λ long begun b bs f e r. omega arith)

-- a last line without newline is answered
pub begun_end : BegunEnd
begun_end [] h = absurd (omega arith)
begun_end (b ∷ bs) h = refl

-- ---- blocks and the whole input

-- a line of more than 600 bytes is bad
pub bad_long : (line : List ℕ) → longest_line < length line → verdict line ≡ IsBad
unfolding verdict
bad_long line h = rw (lt-leb (length line) longest_line h)

-- a line of the input has begun, and its part that a block has seen: the part is the line, or the line is too long
data Stands : Bool → List ℕ → List ℕ → Type 0 where
  whole : (line : List ℕ) → without 10 line ≡ true → Stands false line line
  too_long : (part line : List ℕ) → without 10 part ≡ true → longest_line < length line → Stands true part line

-- the part has no newline
stands_part : {long : Bool} {part line : List ℕ} → Stands long part line → without 10 part ≡ true
stands_part (whole l h) = h
stands_part (too_long p l h k) = h

-- the verdict on the part is the verdict on the line
stands_verdict : {long : Bool} {part line : List ℕ} → Stands long part line → verdict_if long part ≡ verdict line
stands_verdict (whole l h) = refl
stands_verdict (too_long p l h k) = sym (bad_long l k)

-- a text without newline, and one more byte
no_newline_snoc : (l : List ℕ) (b : ℕ) → without 10 l ≡ true → eqb b 10 ≡ false → without 10 (l ++ (b ∷ [])) ≡ true
unfolding without
no_newline_snoc l b h e = without_append 10 l (b ∷ []) h (rw e)

-- one more byte of the line
stands_byte : {long : Bool} {part line : List ℕ} (b : ℕ) → eqb b 10 ≡ false → Stands long part line
    → Stands long (part ++ (b ∷ [])) (line ++ (b ∷ []))
stands_byte b e (whole l h) = whole (l ++ (b ∷ [])) (no_newline_snoc l b h e)
stands_byte b e (too_long p l h k) = too_long (p ++ (b ∷ [])) (l ++ (b ∷ [])) (no_newline_snoc p b h e)
    (omega (arith, length-append l (b ∷ [])))

-- at the end of a block, what is kept is such a part
stands_kept : {long : Bool} {part line : List ℕ} → Stands long part line → Stands (kept_of long part).long (kept_of long part).kept line
unfolding kept_of without
stands_kept (whole l h) =
    by_cond (λ (f : Fed). Stands f.long f.kept l) (ltb longest_line (length l))
    (λ e. too_long [] l refl (ltb-true longest_line (length l) e)) (λ e. whole l h)
stands_kept (too_long p l h k) = too_long [] l refl k

-- a line too long is bad at the end of the input
last_long : (line : List ℕ) → longest_line < length line → last_line line ≡ verdict_line IsBad
last_long [] h = absurd (omega arith)
last_long (b ∷ bs) h = ap verdict_line (bad_long (b ∷ bs) h)

-- at the end of the input, what is written is the answer to the line
stands_ended : {long : Bool} {part line : List ℕ} → Stands long part line → ended long part ≡ last_line line
stands_ended (whole l h) = refl
stands_ended (too_long p l h k) = sym (last_long l k)

-- the answers to a block s and more are what is written for s, and the answers to more, where the line `next` has begun
abbrev Carries : List ℕ → List ℕ → Fed → Type 0
Carries line s f =
    (next : List ℕ) × Stands f.long f.kept next × ((more : List ℕ) → answers_from line (s ++ more) ≡ f.out ++ answers_from next more)

-- this holds of each block
fed_carries : (long : Bool) (part s line : List ℕ) → Stands long part line → Carries line s (fed_from long part s)
unfolding without
fed_carries =
    by_fed (λ long part s f. (line : List ℕ) → Stands long part line → Carries line s f)
    (λ long part line h. (line, stands_kept h, λ more. rw kept_out))
    (λ long part b bs f e r line h.
    let q = r [] (whole [] refl) in
    (q.0, q.1, λ more. answers_newline line b (bs ++ more) e ∙ rw (stands_verdict h, append_assoc, q.2 more)))
    (λ long part b bs f e r line h.
    let q = r (line ++ (b ∷ [])) (stands_byte b e h) in (q.0, q.1, λ more. answers_byte line b (bs ++ more) e ∙ q.2 more))

-- what is written for blocks, when a line has begun before them
written_answers : (blocks : List (List ℕ)) (long : Bool) (kept line : List ℕ) → Stands long kept line
    → written_from long kept blocks ≡ answers_from line (concat blocks)
unfolding answers_from
written_answers [] long kept line h = stands_ended h
written_answers (b ∷ bs) long kept line h =
    let q = fed_carries long kept b line h in
    rw (fed_join long [] kept b (stands_part h), written_answers bs (fed_from long kept b).long (fed_from long kept b).kept q.0 q.1)
    (sym (q.2 (concat bs)))

-- however the input is cut into blocks, what is written is the answers to its lines
pub blocks_answers : (blocks : List (List ℕ)) → written_from false [] blocks ≡ answers_from [] (concat blocks)
unfolding without
blocks_answers blocks = written_answers blocks false [] [] (whole [] refl)
